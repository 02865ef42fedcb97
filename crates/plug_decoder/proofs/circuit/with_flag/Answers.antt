use Rattle.std.proofs.Common.{sym}
use Rattle.plug_decoder.proofs.More.{no_flag}
use Rattle.plug_decoder.proofs.circuit.with_flag.Goals as goal

pub returns-else-is-clause-value : goal.returns-else-is-clause-value
returns-else-is-clause-value c env = sym (no_flag _ _ _ c.if-is.false)
