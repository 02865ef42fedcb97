use Rattle.std.proofs.Common.{sym}
use Rattle.hw_module.specs.declared.rows.Owner.TheVariants.{Entry}
use Rattle.plug_build.proofs.Frame.{part_kept}
use Rattle.plug_build.proofs.Leaves.{entry_eq, early_leaves, late_leaves, nothing_kept}
use Rattle.plug_build.specs.World.{early_rights, late_rights}
use Rattle.plug_build.proofs.law.parts_stay.Goals as goal

pub returns-clause-stay : goal.returns-clause-stay
returns-clause-stay c = part_kept

pub returns-clause-early : goal.returns-clause-early
returns-clause-early c = λ takes x e most old new apart fits h by bare nothing before.
    part_kept takes x (Entry e) (early_rights new.reg e) most old new (λ same. apart (entry_eq x e (sym same))) fits h (early_leaves takes x e most old new apart fits h by bare nothing before)

pub returns-clause-late : goal.returns-clause-late
returns-clause-late c = λ takes x e most old new apart fits h same.
    part_kept takes x (Entry e) (late_rights old.reg e) most old new (λ is. apart (entry_eq x e (sym is))) fits h (late_leaves takes x e most old new apart fits h same)

pub returns-clause-nothing : goal.returns-clause-nothing
returns-clause-nothing c = nothing_kept
