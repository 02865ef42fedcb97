use Rattle.part_alone.specs.Chosen.{Chosen}
use Rattle.part_alone.proofs.plan.chosen_rows.Given as goal

abbrev pub invariant-loop-row : goal.invariant-loop-row
invariant-loop-row l = Chosen l.rows.items l.owners.items l.row
