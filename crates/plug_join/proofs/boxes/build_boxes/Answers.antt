use Rattle.std.proofs.Common.{◌∙◌, ◌+◌, ap, length, sym, subst, arith}
use Rattle.hw_pool.proofs.Frames.{adds_then}
use Rattle.hw_module.specs.Rows.{ModuleValue}
use Rattle.hw_module.specs.Checked.{DriversFit}
use Rattle.hw_module.specs.Frame.{fill_of}
use Rattle.plug_build.specs.World.{BuilderValue}
use Rattle.plug_join.proofs.Ends.{some_box}
use Rattle.plug_join.proofs.First.{early_first}
use Rattle.plug_join.proofs.boxes.build_boxes.Goals as goal

pub early_all-requires-clause-begin : goal.early_all-requires-clause-begin
early_all-requires-clause-begin g c =
    let is = ap (λ (b : BuilderValue). b.design) c.new-b.ensures in
    early_first _ _ _ _ c.reserve.new.self _ c.in-Ok-rooms.field-0.registry _ (is ∙ c.in-Ok-rooms.ensures.module) c.in-Ok-rooms.ensures.registry
    (subst (λ (m : ModuleValue). DriversFit m c.reserve.new.self) (sym is) (c.in-Ok-rooms.ensures.drivers c.reserve.new.self)) c.in-Ok.ensures.room c.requires.wanted (omega arith)

pub returns-in-Ok-rooms-clause-over : goal.returns-in-Ok-rooms-clause-over
returns-in-Ok-rooms-clause-over g c =
    let early = c.early_all.ensures.begun in
    let late = c.late_all.ensures.done in
    let begun = adds_then _ _ _ 0 early.nodes early.nodes c.in-Ok.ensures.adds early.adds (omega arith) in
    (early.nodes + late.nodes, adds_then _ _ _ early.nodes late.nodes (early.nodes + late.nodes) begun late.adds (omega arith))

pub returns-in-Ok-rooms-clause-spent : goal.returns-in-Ok-rooms-clause-spent
returns-in-Ok-rooms-clause-spent g c =
    let d = some_box _ _ _ c.requires.plan in
    let early = c.early_all.ensures.begun.spent d in
    let late = c.late_all.ensures.done.spent d in
    let wanted = c.requires.wanted d in
    let same = ap length c.reserve.ensures.same in
    let moved = ap (λ (m : ModuleValue). fill_of m) c.into_module.ensures in
    omega (arith, early, late, wanted, same, moved)
