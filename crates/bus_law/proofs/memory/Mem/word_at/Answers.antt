use Rattle.std.proofs.Common.{sym, ap, ◌∙◌, Some}
use Rattle.bus_law.specs.Lanes.{lanes_at}
use Rattle.bus_law.proofs.Held.{word_at-outside, word_at-inside}
use Rattle.bus_law.proofs.memory.Mem.word_at.Goals as goal

pub returns-in_err-at : goal.returns-in_err-at
returns-in_err-at c = c.from_residual.ensures ∙ sym (word_at-outside c.args.self.now c.args.addr c.in_err-at.ensures.outside)

pub returns : goal.returns
returns c =
    ap Some (c.word_in.ensures ∙ ap (λ b. lanes_at b c.in_ok-at.at) (c.as_slice.ensures.value ∙ ap (λ m. m.bytes) c.self.view_is))
    ∙ sym (word_at-inside c.args.self.now c.args.addr c.in_ok-at.at c.in_ok-at.ensures.inside c.in_ok-at.ensures.place)
