use Rattle.std.proofs.Common.{◌∙◌, ap, sym, subst}
use Rattle.hw_module.specs.Rows.{ModuleValue}
use Rattle.hw_module.specs.Checked.{DriversFit}
use Rattle.plug_build.specs.World.{BuilderValue}
use Rattle.part_alone.proofs.First.{bare}
use Rattle.part_alone.proofs.build.nothing.Goals as goal

pub returns-clause-bare : goal.returns-clause-bare
returns-clause-bare c =
    let is = ap (λ (b : BuilderValue). b.design) c.new-builder.ensures in
    bare c.reserve.new.self _ _ _ _ (is ∙ c.in_ok-with_room.ensures.bare) c.in_ok-reg.ensures
    (subst (λ (m : ModuleValue). DriversFit m c.reserve.new.self) (sym is) (c.in_ok-with_room.ensures.drivers c.reserve.new.self))
