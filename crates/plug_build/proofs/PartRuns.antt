-- A run of a module out of reset is one of each part, within the widths.
use Rattle.std.proofs.Common.{◌≡◌, ◌∙◌, ℕ, suc, ◌<◌, ◌≤◌, Bool, length, refl, sym, Option, None, Some, inl, inr, arith}
use Rattle.std.proofs.lemmas.Bool.{cases_lt}
use Rattle.std.proofs.lemmas.List.{get_or_past}
use Rattle.hw_pool.specs.Nodes.{IsPool}
use Rattle.hw_pool.specs.Trees.{Tree}
use Rattle.hw_pool.specs.Meaning.{Within}
use Rattle.hw_module.specs.Rows.{IsModule}
use Rattle.hw_module.specs.Cycle.{Held, IsHeld, AreInputs, held_at}
use Rattle.service_reg.specs.declared.service.Service.{Service}
use Rattle.plug_build.specs.World.{World, part_in}
use Rattle.plug_build.specs.Fits.{WorldFits}
use Rattle.plug_part.specs.Part.{Part, PortTrees, tree_at}
use Rattle.service_ports.proofs.Offers.{none_some}
use Rattle.plug_build.specs.Run.{run_of}
use Rattle.plug_build.proofs.Runs.{part_run}
use Rattle.hw_reach.proofs.Bounds.{held_fits as keeps_widths}
use Rattle.plug_build.proofs.Holds.{Holds, holds}
use Rattle.plug_build.proofs.Within.{IsWithinAt, is_within}
use Rattle.plug_part.specs.Part.{own_or}
use Rattle.plug_part.specs.Runs.{IsPartRun}

own_case : (P : PortTrees → Type 0) (a b : Option PortTrees) → ((e : PortTrees) → a ≡ Some e → P e) → ((e : PortTrees) → b ≡ Some e → P e) → (e : PortTrees) → own_or a b ≡ Some e → P e
own_case P None b f g e is = g e is
own_case P (Some a) b f g e is = f e is

module _ (takes : Service → Bool) (entry : ℕ) (w : World) (fits : WorldFits w) (is_pool : IsPool w.pool.nodes) (is_module : IsModule w.design)
    (s : Held) (start : IsHeld w.design s) (ins : ℕ → ℕ → ℕ) (inputs : (k : ℕ) → AreInputs (ins k)) (first : ins 0 1 ≡ 1) (later : (k : ℕ) → ins (suc k) 1 ≡ 0) where
  held_fits : (k : ℕ) → IsHeld w.design (held_at w.design w.pool.nodes s ins k)
  held_fits = keeps_widths w.design w.pool is_module fits.drivers s start ins inputs

  abbrev p : Part
  p = part_in takes entry w

  at : (k : ℕ) → IsWithinAt p (run_of w.design w.pool.nodes s ins k)
  at k = is_within takes entry w fits (held_at w.design w.pool.nodes s ins k) (held_fits k) (ins k) (inputs k)

  has : Holds w p
  has = holds takes entry w

  out_there : (q : ℕ) (t : Tree) → p.outs q ≡ Some t → q < 30
  out_there q t is = elim (cases_lt q 30) [
    | inl l ↦ l
    | inr past ↦
        let o = has.outs q t is in
        let many = is_module.ports in
        let le : length w.design.outs ≤ q = omega arith in
        absurd (none_some None o.0 refl (sym (get_or_past w.design.outs q None le) ∙ o.1))
  ]

  pub runs_part : IsPartRun p (run_of w.design w.pool.nodes s ins)
  runs_part = record {
    is = part_run takes entry w fits is_pool s ins;
    first = first;
    later = later;
    within = record {
      wires_fit = λ k row is c. (at c).wires_fit k row is;
      regs_fit = λ r row is c. has.regs_fit (held_at w.design w.pool.nodes s ins c) (held_fits c) r row is;
      cells_many = λ a row is c. has.cells_many (held_at w.design w.pool.nodes s ins c) (held_fits c) a row is;
      cells_fit = λ a row is c. has.cells_fit (held_at w.design w.pool.nodes s ins c) (held_fits c) a row is;
      inputs_fit = inputs;
      drivers = λ k row t is e c. (at c).drivers k row t is e;
      drives = λ k t is c. (at c).drives k t is;
      nexts = λ r row t is e c. (at c).nexts r row t is e;
      writes = λ a row t is e c. (at c).writes a row t is e;
      outs = λ q t is c. (at c).outs q t (out_there q t is) is;
      seen = λ sv e is i c. own_case (λ x. Within (run_of w.design w.pool.nodes s ins c) (tree_at x.outputs i)) (p.offers sv) (p.took sv) (λ x h. (at c).offers sv x h i) (λ x h. (at c).took sv x h i) e is;
    };
  }
