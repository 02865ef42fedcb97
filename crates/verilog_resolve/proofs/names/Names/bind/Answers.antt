use Rattle.std.proofs.Common.{ap, ◌∙◌, cond, Some}
use Rattle.std.specs.HashMap.{get_by}
use Rattle.core_words.specs.Names.{same_name}
use Rattle.verilog_resolve.specs.Names.{place_or}
use Rattle.verilog_resolve.proofs.names.Names.bind.Goals as goal

pub returns-clause-others : goal.returns-clause-others
returns-clause-others c = let u = c.in_ok-insert.ensures.updates in λ y h.
    ap place_or (u.0 (record { ref_ptr = (0, 0); now = y }) ∙ ap (λ b. cond b (Some c.args.place) (get_by (λ k. same_name y k.now) c.args.self.now.map)) h)
