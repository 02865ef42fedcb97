use Rattle.std.proofs.Common.{rules, ◌≡◌, ◌∙◌, ℕ, length, List, replicate, refl, ap, arith}
use Rattle.isa_table.specs.declared.claim.Claim.{Claim}
use Rattle.plug_api.specs.declared.spec.PlugSpec.{PlugSpec}
use Rattle.part_alone.proofs.Alone.{alone}
use Rattle.part_alone.proofs.plan.plan_alone.Goals as goal

pub returns-clause-lawful : goal.returns-clause-lawful
returns-clause-lawful c =
    let rows : c.in_ok-rows.field-0.rows ≡ c.args.spec.now.rows = ap (λ (s : PlugSpec). s.rows) c.in_ok-rows.ensures in
    let many : c.len.result ≡ length c.in_ok-rows.field-0.rows = search rules in
    let zeros : c.of-3.result ≡ replicate {A = ℕ} c.len.result 0 = search rules in
    alone c.args.spec.now _ c.requires rows (zeros ∙ ap (λ (n : ℕ). replicate {A = ℕ} n 0) (many ∙ ap (λ (cs : List Claim). length cs) rows))
    (record { at_least = omega arith; at_most = omega arith; aligned = refl; commit = refl }) (search rules)
