use Rattle.std.proofs.Common.{◌∙◌, ap, subst}
use Rattle.verilog_read.specs.Seen.{seen}
use Rattle.verilog_read.proofs.Whole.{by_tokens}
use Rattle.verilog_tree.specs.Module.{SpellsModule}
use Rattle.verilog_read.proofs.Places.{by_fault}
use Rattle.verilog_read.proofs.read.read_text.Goals as goal

pub returns-clause-only : goal.returns-clause-only
returns-clause-only c = λ t h.
    c.in-Ok-read_tokens.ensures.only t (by_tokens c.args.bytes.now (seen c.as_slice.result.now) t (λ ts k. ap seen c.as_slice.ensures.value ∙ (c.in-Ok.ensures.only ts k).1) h)

pub returns-then-not-scanned-clause-place : goal.returns-then-not-scanned-clause-place
returns-then-not-scanned-clause-place c =
    let same = ap seen c.as_slice.ensures.value in
    by_fault c.args.bytes.now (seen c.in-Ok.scanned.found.items) c.in-Ok.scanned.end c.in-Ok.scanned.form c.in-Ok.ensures.front c.in-Ok-read_tokens.tree c.refusal_at.result
    (subst (SpellsModule c.in-Ok-read_tokens.tree) same c.in-Ok-read_tokens.ensures.found) c.refusal_at.ensures.same
