-- A plug-in that builds nothing.
use Rattle.std.proofs.Common.{arith, ◌≡◌, ℕ, ap, Bool, false, Option, None, Some, inl, inr, refl, ◌&&◌}
use Rattle.std.proofs.lemmas.Bool.{both_ways, or_cases, and_parts}
use Rattle.hw_module.specs.Rows.{wire_at, reg_at, array_at}
use Rattle.hw_module.specs.Rights.{Rights}
use Rattle.hw_module.proofs.Makes.{makes_nothing}
use Rattle.hw_module.specs.declared.rows.Owner.{Owner}
use Rattle.hw_pool.proofs.Frames.{adds_nothing}
use Rattle.service_reg.specs.declared.service.Service.{Service}
use Rattle.service_reg.specs.declared.service.Service.TheVariants.{Fetch, DataBus}
use Rattle.service_ports.specs.Ports.{Ports}
use Rattle.service_ports.specs.Registry.{offer_of}
use Rattle.service_ports.proofs.Offers.{none_some}
use Rattle.plug_part.specs.Part.{Part}
use Rattle.plug_part.specs.Of.{part_of, port_trees}
use Rattle.plug_part.specs.Owned.{is_input_of, is_fetch_out, is_bus_out, is_predict_input, offers}
use Rattle.plug_part.specs.Terms.{PartTerms}
use Rattle.plug_part.specs.Meets.{MeetsLaws}
use Rattle.plug_part.proofs.Rows.{away}
use Rattle.plug_build.specs.World.{World, Builds, part_in}
use Rattle.plug_build.specs.Done.{OwnsNothing, AreOpen, IsDone}
use Rattle.plug_build.proofs.Offers.{input_of_some}
use Rattle.plug_build.proofs.Worlds.{builds_of}
use Rattle.plug_kit.proofs.Rows.{part_wire, part_reg, part_array}
use Rattle.plug_kinds.specs.Nothing.{IsIdle}

none_nor_some : {A : Type 0} (x : Option A) (y : A) → x ≡ None → x ≡ Some y → ⊥
none_nor_some x y n s = none_some x y n s

-- nothing is built
pub builds_nothing : (by : Owner) (r : Rights) (most : ℕ) (w : World) → Builds by r most w w
builds_nothing by r most w = builds_of by r most 0 0 w w (adds_nothing w.pool w.pool refl (omega arith)) (makes_nothing by r w.design) (omega arith)

module _ (takes : Service → Bool) (entry : ℕ) (w : World) where
  -- what owns nothing has a part of nothing
  pub idle_part : OwnsNothing entry w → IsIdle (part_in takes entry w)
  unfolding part_of
  idle_part n = record {
    wires = λ k. away (wire_at w.design.wires k).owner entry _ (n.wires k);
    regs = λ k. away (reg_at w.design.regs k).owner entry _ (n.regs k);
    arrays = λ k. away (array_at w.design.arrays k).owner entry _ (n.arrays k);
    offers = λ s. ap (port_trees w.pool.nodes) (n.offers s);
  }

  -- a part of nothing has all driven
  pub idle_done : IsIdle (part_in takes entry w) → ((s : Service) → offers w.reg entry s ≡ false) → IsDone entry w
  idle_done idle no_offer = record {
    wires = λ k l own free none. none_nor_some _ _ (idle.wires k) (part_wire takes entry w k own);
    regs = λ k l own none. none_nor_some _ _ (idle.regs k) (part_reg takes entry w k own);
    arrays = λ k l own none. none_nor_some _ _ (idle.arrays k) (part_array takes entry w k own);
    outs = λ p is none. elim (or_cases (offers w.reg entry Fetch && is_fetch_out p) (offers w.reg entry DataBus && is_bus_out p) is) [
      | inl f ↦ both_ways (offers w.reg entry Fetch) (no_offer Fetch) (and_parts (offers w.reg entry Fetch) (is_fetch_out p) f).0
      | inr b ↦ both_ways (offers w.reg entry DataBus) (no_offer DataBus) (and_parts (offers w.reg entry DataBus) (is_bus_out p) b).0
    ];
    drives = λ k is none. both_ways (offers w.reg entry Fetch) (no_offer Fetch) (and_parts (offers w.reg entry Fetch) (is_predict_input w.reg k) is).0;
  }

pub idle_open : (entry : ℕ) (w : World) → OwnsNothing entry w → AreOpen entry w
idle_open entry w n k is =
    let h = input_of_some w.reg entry k is in
    absurd (both_ways (is_input_of (offer_of w.reg entry h.0) k) (ap (λ (o : Option Ports). is_input_of o k) (n.offers h.0)) h.1)

-- no service has no law
pub idle_laws : (g : PartTerms) (p : Part) → IsIdle p → MeetsLaws g p
idle_laws g p idle = record {
  fetch = λ o is. absurd (none_nor_some _ _ (idle.offers _) is);
  fetch_state = λ o is. absurd (none_nor_some _ _ (idle.offers _) is);
  fetch_outs = λ o is. absurd (none_nor_some _ _ (idle.offers _) is);
  predict = λ o is. absurd (none_nor_some _ _ (idle.offers _) is);
  decode = λ o is. absurd (none_nor_some _ _ (idle.offers _) is);
  regs = λ o is. absurd (none_nor_some _ _ (idle.offers _) is);
  hazard = λ o is. absurd (none_nor_some _ _ (idle.offers _) is);
  exec = λ o is. absurd (none_nor_some _ _ (idle.offers _) is);
  data_outs = λ o is. absurd (none_nor_some _ _ (idle.offers _) is);
  system = λ o y is. absurd (none_nor_some _ _ (idle.offers _) is);
}
