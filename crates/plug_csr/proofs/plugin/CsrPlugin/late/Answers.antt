use Rattle.std.proofs.Common.{refl}
use Rattle.isa_model.specs.Machine.{misa_of}
use Rattle.plug_part.specs.Terms.{claims_row, set_from}
use Rattle.plug_api.specs.Calls.{takes_of, terms_of}
use Rattle.plug_build.specs.World.{world_of}
use Rattle.plug_kinds.specs.declared.kind.Kind.TheVariants as kind
use Rattle.plug_kinds.specs.Kinds.{params_of, spec_of}
use Rattle.plug_csr.proofs.Done.{csr_is_done}
use Rattle.plug_csr.proofs.Parts.{parts_meet_laws}
use Rattle.plug_csr.proofs.plugin.CsrPlugin.late.Goals as goal

pub returns-clause-done : goal.returns-clause-done
returns-clause-done c =
    csr_is_done (misa_of (set_from c.args.plan.now.rows c.args.plan.now.has_csr)) (takes_of (spec_of kind.Csr (params_of c.args.self.now.state.taken))) c.args.b.now.entry
    (world_of c.args.pool.now c.args.b.now c.args.reg.now) c.requires.begun c.requires.offered

pub returns-clause-law : goal.returns-clause-law
returns-clause-law c = λ p builds.
    let spec = spec_of kind.Csr (params_of c.args.self.now.state.taken) in
    parts_meet_laws (claims_row spec.rows) (terms_of spec c.args.plan.now) p (λ row claimed. claimed) refl builds
