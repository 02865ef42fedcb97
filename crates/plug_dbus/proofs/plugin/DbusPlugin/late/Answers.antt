use Rattle.std.proofs.Common.{refl}
use Rattle.plug_part.specs.Terms.{claims_row}
use Rattle.plug_api.specs.Calls.{takes_of, terms_of}
use Rattle.plug_build.specs.World.{world_of}
use Rattle.plug_kinds.specs.declared.kind.Kind.TheVariants as kind
use Rattle.plug_kinds.specs.Kinds.{params_of, spec_of}
use Rattle.plug_dbus.proofs.Done.{dbus_is_done}
use Rattle.plug_dbus.proofs.Parts.{parts_meet_laws}
use Rattle.plug_dbus.proofs.plugin.DbusPlugin.late.Goals as goal

pub returns-clause-done : goal.returns-clause-done
returns-clause-done c =
    dbus_is_done (takes_of (spec_of kind.Dbus (params_of c.args.self.now.state.taken))) c.args.b.now.entry (world_of c.args.pool.now c.args.b.now c.args.reg.now) c.requires.begun c.requires.offered

pub returns-clause-law : goal.returns-clause-law
returns-clause-law c = λ p builds.
    let spec = spec_of kind.Dbus (params_of c.args.self.now.state.taken) in
    parts_meet_laws (claims_row spec.rows) (terms_of spec c.args.plan.now) p (λ row claimed. claimed) refl builds
