-- Units that are ready to be driven, while others are.
use Rattle.std.proofs.Common.{◌≡◌, ◌∙◌, ℕ, ◌+◌, ◌*◌, ◌<◌, ◌≤◌, Bool, true, false, ◌||◌, List, [], ◌∷◌, length, arith, ap, refl, subst, sym, inl, inr}
use Rattle.std.proofs.lemmas.Bool.{both_ways, cases_lt, eq-eqb, false_from_ne_true, or_left, or_parts, or_right}
use Rattle.std.proofs.lemmas.List.{get_or_past}
use Rattle.hw_module.specs.declared.rows.Owner.{Owner}
use Rattle.hw_module.specs.declared.rows.Owner.TheVariants.{Pipe}
use Rattle.hw_module.specs.declared.rows.RegRow.{RegRow}
use Rattle.hw_module.specs.declared.rows.WireRow.{WireRow}
use Rattle.hw_module.specs.Rights.{MayDrive}
use Rattle.hw_module.specs.Rows.{ModuleValue, reg_at, wire_at}
use Rattle.hw_module.proofs.Frames.{grows_then}
use Rattle.hw_module.proofs.Makes.{makes_then}
use Rattle.service_reg.specs.declared.service.Service.TheVariants.{Exec}
use Rattle.service_ports.specs.declared.ports.ExecOffer.{ExecOffer}
use Rattle.service_ports.specs.Ports.{exec_ports, input_shapes}
use Rattle.plug_part.specs.Owned.{is_among}
use Rattle.plug_build.proofs.Worlds.{inputs_grown}
use Rattle.pipe_drive.specs.Rights.{is_exec_input}
use Rattle.pipe_build.specs.Undriven.{AreFree, AreUndriven, IsUndriven, UnitsOnly}

pub free_on : (old new : ModuleValue) (ws : List ℕ) → ((k : ℕ) → is_among k ws ≡ true → wire_at new.wires k ≡ wire_at old.wires k) → AreFree old ws → AreFree new ws
free_on old new [] same h = tt
free_on old new (w ∷ ws) same h = (ap (λ (row : WireRow). row.driver) (same w (or_left _ _ (eq-eqb w w refl))) ∙ h.0, free_on old new ws (λ k is. same k (or_right _ _ is)) h.1)

module _ (old new : ModuleValue) (test : ℕ → Bool) (chosen : ℕ) (only : UnitsOnly test chosen 1 old new) where
  one_on : (c : ℕ) → chosen < c → (o : ExecOffer) → ((k : ℕ) → test k ≡ true → is_among k (exec_ports o.ports).inputs ≡ true → ⊥) → IsUndriven old c o → IsUndriven new c o
  one_on c after o apart h =
      let row : reg_at new.regs c ≡ reg_at old.regs c = only.above c (omega arith) in
      record {
        few = h.few;
        inputs = inputs_grown old new (8 * 1) only.grows o.by (exec_ports o.ports).inputs (input_shapes Exec) h.inputs;
        apart = h.apart;
        free = free_on old new (exec_ports o.ports).inputs (λ k is. only.others k (false_from_ne_true (test k) (λ yes. apart k yes is))) h.free;
        row = record { there = let l = h.row.there in let e = only.count_regs in omega arith; wide = ap (λ (r : RegRow). r.width) row ∙ h.row.wide };
        own = ap (λ (r : RegRow). r.owner) row ∙ h.own;
        reset = ap (λ (r : RegRow). r.reset) row ∙ h.reset;
        bare = ap (λ (r : RegRow). r.next) row ∙ h.bare;
      }

  pub undriven_on : (c : ℕ) → chosen < c → (os : List ExecOffer) → ((k : ℕ) → test k ≡ true → is_exec_input os k ≡ false) → AreUndriven old c os → AreUndriven new c os
  undriven_on c after [] apart h = tt
  undriven_on c after (o ∷ os) apart h = (
    one_on c after o (λ k yes is. both_ways _ (apart k yes) (or_left _ _ is)) h.0,
    h.1,
    undriven_on (c + 1) (omega arith) os (λ k yes. false_from_ne_true (is_exec_input os k) (λ is. both_ways _ (apart k yes) (or_right (is_among k (exec_ports o.ports).inputs) _ is))) h.2,
  )

-- one more unit is driven
module _ (first : ℕ → Bool) (rest : ℕ → Bool) (chosen n total : ℕ) (old mid new : ModuleValue) (a : UnitsOnly first chosen 1 old mid) (b : UnitsOnly rest (chosen + 1) n mid new) (sum : total ≡ n + 1) where
  owner_same : (k : ℕ) → (wire_at mid.wires k).owner ≡ (wire_at old.wires k).owner
  owner_same k = elim (cases_lt k (length old.wires)) [
    | inl there ↦ (a.grows.wires k there).owner
    | inr past ↦
        let e = a.count in
        let l : length mid.wires ≤ k = omega arith in
        ap (λ (r : WireRow). r.owner) (get_or_past mid.wires k _ l ∙ sym (get_or_past old.wires k _ past))
  ]

  pub units_then : UnitsOnly (λ k. first k || rest k) chosen total old new
  units_then = record {
    grows = grows_then old mid new (8 * 1) (8 * n) (8 * total) a.grows b.grows (omega arith);
    others = λ k far. let apart = or_parts (first k) (rest k) far in b.others k apart.1 ∙ a.others k apart.0;
    below = λ k l. b.below k (omega arith) ∙ a.below k l;
    above = λ k l. b.above k (omega arith) ∙ a.above k (omega arith);
    count = b.count ∙ a.count;
    count_regs = b.count_regs ∙ a.count_regs;
    arrays = b.arrays ∙ a.arrays;
    outs = b.outs ∙ a.outs;
    makes = λ r may. makes_then Pipe r old mid new (8 * 1) (8 * n) (8 * total)
        (a.makes r (λ k is. may k (or_left (first k) (rest k) is)))
        (b.makes r (λ k is. subst (λ (o : Owner). MayDrive Pipe r o k) (sym (owner_same k)) (may k (or_right (first k) (rest k) is))))
        (omega arith);
  }
