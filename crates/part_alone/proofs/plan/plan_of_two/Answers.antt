use Rattle.std.proofs.Common.{rules, ◌≡◌, ◌∙◌, ℕ, length, List, replicate, refl, ap, arith}
use Rattle.isa_table.specs.declared.claim.Claim.{Claim}
use Rattle.plug_api.specs.declared.spec.PlugSpec.{PlugSpec}
use Rattle.part_alone.proofs.Alone.{first_lawful, second_lawful}
use Rattle.part_alone.proofs.plan.plan_of_two.Goals as goal

pub returns-clause-first : goal.returns-clause-first
returns-clause-first c first none =
    let rows : c.in_ok-rows.field-0.rows ≡ c.args.spec.now.rows = ap (λ (s : PlugSpec). s.rows) c.in_ok-rows.ensures in
    let many : c.len.result ≡ length c.in_ok-rows.field-0.rows = search rules in
    let ones : c.of-3.result ≡ replicate {A = ℕ} c.len.result 1 = search rules in
    first_lawful c.args.spec.now _ c.requires rows (ones ∙ ap (λ (n : ℕ). replicate {A = ℕ} n 1) (many ∙ ap (λ (cs : List Claim). length cs) rows))
    (record { at_least = omega arith; at_most = omega arith; aligned = refl; commit = refl }) (search rules) first none

pub returns-clause-second : goal.returns-clause-second
returns-clause-second c =
    let rows : c.in_ok-rows.field-0.rows ≡ c.args.spec.now.rows = ap (λ (s : PlugSpec). s.rows) c.in_ok-rows.ensures in
    let many : c.len.result ≡ length c.in_ok-rows.field-0.rows = search rules in
    let ones : c.of-3.result ≡ replicate {A = ℕ} c.len.result 1 = search rules in
    second_lawful c.args.spec.now _ c.requires rows (ones ∙ ap (λ (n : ℕ). replicate {A = ℕ} n 1) (many ∙ ap (λ (cs : List Claim). length cs) rows))
    (record { at_least = omega arith; at_most = omega arith; aligned = refl; commit = refl }) (search rules)
