use Rattle.std.proofs.Common.{refl}
use Rattle.plug_kinds.specs.Kinds.{params_of}
use Rattle.icache_law.proofs.Kept.{of_equations}
use Rattle.icache_law.proofs.law.icaches_keep_lines.Goals as goal

pub returns : goal.returns
returns c = let laws = c.icache_parts_meet_their_laws.ensures in record {
  parts = λ b plan p whole builds. of_equations laws.cache laws.sizes (params_of b.state.taken) b.faultless plan.shape.reset_pc whole p builds;
  entries = λ b e plan p fine whole builds. of_equations laws.cache laws.sizes e.params fine plan.shape.reset_pc whole p builds;
  boxes = λ b. record { faults = λ e. refl; says = λ e. refl; builds = λ e plan p builds. builds };
}
