use Rattle.std.proofs.Common.{sym}
use Rattle.plug_decoder.proofs.More.{nothing_more}
use Rattle.plug_decoder.proofs.circuit.with_number.Goals as goal

pub returns-then-number-eq0-clause-value : goal.returns-then-number-eq0-clause-value
returns-then-number-eq0-clause-value c env = sym (nothing_more _ _ _ c.if-number-eq0.true)
