-- The module behind the units: what is driven once is as it was left and made.
use Rattle.std.proofs.Common.{◌≡◌, ◌∙◌, ℕ, suc, ◌+◌, ◌<◌, ◌≤◌, Bool, true, false, List, [], ◌∷◌, length, get_or, is_some, refl, sym, ap, arith, Option, None, Some, inl, inr}
use Rattle.std.proofs.lemmas.Bool.{both_ways, false_from_ne_true, or_cases}
use Rattle.hw_expr.specs.declared.net.Net.{Net}
use Rattle.hw_module.specs.Rows.{ModuleValue, out_at, reg_at, wire_at}
use Rattle.service_reg.specs.declared.service.Service.TheVariants.{Exec}
use Rattle.service_ports.specs.declared.ports.ExecOffer.{ExecOffer}
use Rattle.service_ports.specs.Ports.{exec_ports, input_shapes}
use Rattle.service_ports.specs.Registry.{ports_in as offered_in}
use Rattle.plug_part.specs.Owned.{is_among}
use Rattle.plug_build.specs.Fits.{OfferFits, WorldFits}
use Rattle.plug_build.specs.World.{World}
use Rattle.plug_build.proofs.Offers.{among_inputs}
use Rattle.pipe_drive.specs.Rights.{is_exec_input, is_left_out}
use Rattle.pipe_drive.specs.Rows.{AreRegs, AreWires, IsMade, own_shapes, wire_levels}
use Rattle.pipe_build.specs.declared.nets.Offers.{Offers}
use Rattle.pipe_build.specs.Ready.{AreOffered, IsReady}
use Rattle.pipe_build.specs.RestAt.{BeforeRest}
use Rattle.pipe_build.specs.Undriven.{UnitsOnly}
use Rattle.pipe_build.proofs.CanRest.{out_left}

regs_kept : (old new : ModuleValue) (most : ℕ) → ((k : ℕ) → k < most → reg_at new.regs k ≡ reg_at old.regs k) → (k : ℕ) (xs : List (ℕ × Option ℕ)) → k + length xs ≤ most → AreRegs old k xs → AreRegs new k xs
regs_kept old new most same k [] l h = tt
regs_kept old new most same k (x ∷ xs) l h = (same k (omega arith) ∙ h.0, regs_kept old new most same (k + 1) xs (omega arith) h.1)

wires_kept : (old new : ModuleValue) (least : ℕ) → ((k : ℕ) → least ≤ k → wire_at new.wires k ≡ wire_at old.wires k) → (k : ℕ) (ls : List ℕ) → least ≤ k → AreWires old k ls → AreWires new k ls
wires_kept old new least same k [] l h = tt
wires_kept old new least same k (x ∷ xs) l h = (same k l ∙ h.0, wires_kept old new least same (k + 1) xs (omega arith) h.1)

module _ (w : World) (fits : WorldFits w) where
  exec_below : (os : List ExecOffer) → ((i : ℕ) (o : ExecOffer) → i < length os → get_or os i o ≡ o → OfferFits w.design w.pool Exec o.by (exec_ports o.ports)) → (k : ℕ) → is_exec_input os k ≡ true → k < length w.design.wires
  exec_below [] each k is = absurd (both_ways false refl is)
  exec_below (o ∷ os) each k is = elim (or_cases (is_among k (exec_ports o.ports).inputs) (is_exec_input os k) is) [
    | inl here ↦ (among_inputs w.design w.pool o.by (exec_ports o.ports).inputs (input_shapes Exec) k (each 0 o (omega arith) refl).inputs here).0
    | inr later ↦ exec_below os (λ i q l e. each (suc i) q (omega arith) e) k later
  ]

  -- what comes behind the wires of entries is no input of theirs
  pub exec_old : (k : ℕ) → length w.design.wires ≤ k → is_exec_input w.reg.execs k ≡ false
  exec_old k l = false_from_ne_true _ (λ is. let b = exec_below w.reg.execs fits.offers.execs k is in omega (arith, b))

  bare_out : IsReady w → (p : ℕ) → is_left_out w.reg p ≡ true → out_at w.design.outs p ≡ None
  bare_out ready p left = go (out_at w.design.outs p) refl
    where
      go : (o : Option Net) → out_at w.design.outs p ≡ o → o ≡ None
      go None e = refl
      go (Some net) e = let x = ready.outs p net e in absurd (both_ways (is_left_out w.reg p) (out_left w fits x.0 p x.1) left)

  module _ (ready : IsReady w) (o : Offers) (offered : AreOffered w.reg o) {m1 m2 : ModuleValue} {reset_pc units places : ℕ} (made : IsMade w.design m1 reset_pc units places)
      (only : UnitsOnly (is_exec_input w.reg.execs) (length w.design.regs + 15) units m1 m2) where
    pub before_rest : (has_bus : Bool) → is_some w.reg.databus ≡ has_bus → BeforeRest w m2 (length w.design.wires) (length w.design.regs) reset_pc o has_bus
    before_rest has_bus bus =
        let more = made.more_wires in
        let more_regs = made.more_regs in
        let same = only.count in
        let same_regs = only.count_regs in
        record {
          fits = fits;
          fetch = ap (λ (q : Option (ℕ × _)). offered_in q) offered.fetch.1;
          decoder = ap (λ (q : Option (ℕ × _)). offered_in q) offered.decoder.1;
          regfile = ap (λ (q : Option (ℕ × _)). offered_in q) offered.regfile.1;
          hazard = ap (λ (q : Option (ℕ × _)). offered_in q) offered.hazard.1;
          system = sym offered.system;
          bus = bus;
          count = omega arith;
          first = omega arith;
          inputs = λ k l exec. only.others k exec ∙ made.wires_before k l;
          free = ready.inputs;
          wires = wires_kept m1 m2 (length w.design.wires) (λ k l. only.others k (exec_old k l)) (length w.design.wires) wire_levels (omega arith) made.wires;
          wires_there = omega arith;
          regs = regs_kept m1 m2 (length w.design.regs + 15) only.below (length w.design.regs) (own_shapes reset_pc) (omega arith) made.regs;
          regs_there = omega arith;
          outs = only.outs ∙ made.outs;
          bare = bare_out ready;
        }
