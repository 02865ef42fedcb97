-- What the second call finds.
use Rattle.std.proofs.Common.{◌≡◌, ◌∙◌, ℕ, ◌+◌, ◌<◌, ◌≤◌, Bool, false, List, [], ◌∷◌, get_or, length, ap, sym, subst, arith, refl, Option, None, Some, inl, inr}
use Rattle.std.proofs.lemmas.Bool.{cases_lt}
use Rattle.hw_expr.specs.declared.net.Net.{Net}
use Rattle.hw_module.specs.declared.rows.Owner.TheVariants.{Entry}
use Rattle.hw_module.specs.declared.rows.WireRow.{WireRow}
use Rattle.hw_module.specs.Rows.{wire_at}
use Rattle.service_reg.specs.declared.service.Service.{Service}
use Rattle.service_reg.specs.declared.service.Service.TheVariants.{Hazard, RegFile}
use Rattle.service_ports.specs.declared.ports.RegFilePorts.{RegFilePorts}
use Rattle.service_ports.specs.Ports.{Ports, regfile_ports}
use Rattle.service_ports.specs.Registry.{Offered, offered_as, ports_in, single}
use Rattle.plug_part.specs.Owned.{is_own_input}
use Rattle.plug_build.specs.World.{World, part_in}
use Rattle.plug_build.specs.Fits.{IsOutput, WorldFits}
use Rattle.plug_kit.proofs.Among.{only_free, open_wire}
use Rattle.plug_kit.proofs.Rows.{part_wire, some_eq}
use Rattle.plug_hazard.specs.declared.find.Found.{Found}
use Rattle.plug_hazard.specs.Builds.{BeginsHazard}
use Rattle.plug_hazard.specs.Found.{IsFound, plain_row}

-- what is offered
pub there_ports : (o : Option (ℕ × RegFilePorts)) → (offered_as regfile_ports o ≡ None → ⊥) → (q : ℕ × RegFilePorts) × (o ≡ Some q)
there_ports None h = absurd (h refl)
there_ports (Some q) h = (q, refl)

module _ (takes : Service → Bool) (bypassed : ℕ → Bool) (e : ℕ) (w : World) (begun : BeginsHazard bypassed (part_in takes e w)) where
  pub free_a : is_own_input w.reg e begun.wire_a ≡ false
  free_a = only_free takes Hazard e w begun.ports begun.over.only begun.wire_a begun.apart_a

  pub free_b : is_own_input w.reg e begun.wire_b ≡ false
  free_b = only_free takes Hazard e w begun.ports begun.over.only begun.wire_b begun.apart_b

  pub row_a : (begun.wire_a < length w.design.wires) × (wire_at w.design.wires begun.wire_a ≡ plain_row e)
  row_a = open_wire takes e w begun.wire_a 32 3 free_a begun.open_a

  pub row_b : (begun.wire_b < length w.design.wires) × (wire_at w.design.wires begun.wire_b ≡ plain_row e)
  row_b = open_wire takes e w begun.wire_b 32 3 free_b begun.open_b

  -- the first forward wire of the entry is the first of the two
  pub first_is : (r : ℕ) → (wire_at w.design.wires r).owner ≡ Entry e → ((k : ℕ) → k < r → (wire_at w.design.wires k).owner ≡ Entry e → ⊥) → begun.wire_a ≡ r
  first_is r own least =
      let below : begun.wire_a ≤ r = begun.least r _ (part_wire takes e w r own) in
      elim (cases_lt begun.wire_a r) [
        | inl less ↦ absurd (least begun.wire_a less (ap (λ (row : WireRow). row.owner) row_a.1))
        | inr more ↦ omega arith
      ]

  pub found : WorldFits w → (f : Found) (q : ℕ × RegFilePorts) → w.reg.regfile ≡ Some q → f.a ≡ q.1.a → f.b ≡ q.1.b → begun.wire_a ≡ f.wire_a → begun.wire_b ≡ f.wire_b → IsFound e w f
  found fits f q is a_is b_is first second =
      let offered : single w.reg RegFile ≡ Some (record { by = q.0; ports = regfile_ports q.1 }) = ap (offered_as regfile_ports) is in
      let outputs = (fits.offers.singles RegFile _ offered).outputs in
      let next = begun.next in
      record {
        there_a = subst (λ (k : ℕ). k < length w.design.wires) first row_a.0;
        there_b = subst (λ (k : ℕ). k < length w.design.wires) second row_b.0;
        row_a = subst (λ (k : ℕ). wire_at w.design.wires k ≡ plain_row e) first row_a.1;
        row_b = subst (λ (k : ℕ). wire_at w.design.wires k ≡ plain_row e) second row_b.1;
        free_a = subst (λ (k : ℕ). is_own_input w.reg e k ≡ false) first free_a;
        free_b = subst (λ (k : ℕ). is_own_input w.reg e k ≡ false) second free_b;
        differ = λ same. omega (arith, next, first, second, same);
        regs = record { by = q.0; ports = regfile_ports q.1 };
        offered = offered;
        outputs = λ i. sym a_is i ∷ sym b_is i ∷ [];
        a = subst (IsOutput w.design w.pool 2 32) (sym a_is) outputs.0;
        b = subst (IsOutput w.design w.pool 2 32) (sym b_is) outputs.1.0;
      }
