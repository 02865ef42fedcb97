use Rattle.std.proofs.Common.{◌≡◌, length, refl, arith, rules}
use Rattle.part_alone.proofs.Plans.{lawful_rows}
use Rattle.part_alone.proofs.plan.plan_of_rows.Goals as goal

pub returns-clause-lawful : goal.returns-clause-lawful
returns-clause-lawful c =
    let four : length c.of.result ≡ 4 = search rules in
    lawful_rows _ 57 (search rules) (record { at_least = omega arith; at_most = omega arith; aligned = refl; commit = refl }) four
