use Rattle.std.proofs.Common.{sym, subst}
use Rattle.hw_module.specs.Rows.{ModuleValue}
use Rattle.hw_module.specs.Checked.{DriversFit}
use Rattle.part_bench.specs.Whole.{AreIn}
use Rattle.part_alone.proofs.stands.make_stand.Goals as goal

pub new-requires-clause-drivers : goal.new-requires-clause-drivers
new-requires-clause-drivers c = subst (λ (m : ModuleValue). DriversFit m c.args.part.pool) (sym c.into_module.ensures) c.requires.fits

pub new-requires-clause-nets : goal.new-requires-clause-nets
new-requires-clause-nets c = subst (λ (m : ModuleValue). AreIn m c.args.part.pool c.args.outs.now) (sym c.into_module.ensures) c.requires.nets
