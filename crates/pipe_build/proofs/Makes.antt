-- All that the pipeline makes and drives is within its rights.
use Rattle.std.proofs.Common.{◌≡◌, ◌∙◌, ℕ, ◌+◌, ◌-◌, ◌*◌, ◌<◌, ◌≤◌, Bool, true, false, eqb, ◌||◌, List, [], ◌∷◌, is_some, refl, sym, ap, arith, inl, inr}
use Rattle.std.proofs.lemmas.Bool.{both_ways, eqb-true, ne_eqb, or_cases, or_right}
use Rattle.hw_module.specs.declared.rows.Owner.TheVariants.{Pipe}
use Rattle.hw_module.specs.declared.rows.WireRow.{WireRow}
use Rattle.hw_module.specs.Rights.{Makes, MayDrive}
use Rattle.hw_module.specs.Rows.{ModuleValue, wire_at}
use Rattle.hw_module.proofs.Makes.{makes_then}
use Rattle.service_reg.specs.declared.service.Service.TheVariants.{Fetch, Decoder, RegFile, Hazard, System}
use Rattle.service_ports.specs.Registry.{RegistryValue, single}
use Rattle.plug_part.specs.Owned.{is_among, is_bus_out, is_fetch_out, is_input_of, ports_of}
use Rattle.plug_build.specs.World.{World}
use Rattle.pipe_drive.specs.Drives.{MovesOnly, targets}
use Rattle.pipe_drive.specs.Rights.{is_exec_input, is_left_input, is_left_out, pipe_rights}
use Rattle.pipe_drive.specs.Rows.{IsMade, wire_levels}
use Rattle.pipe_drive.proofs.Found.{wire_row}
use Rattle.pipe_build.specs.declared.nets.Offers.{Offers}
use Rattle.pipe_build.specs.declared.nets.PipeNets.{PipeNets}
use Rattle.pipe_build.specs.Rest.{RestOnly, bus_drives, told_drives, wire_drives}
use Rattle.pipe_build.specs.RestAt.{BeforeRest}
use Rattle.pipe_build.specs.Undriven.{UnitsOnly}
use Rattle.pipe_build.proofs.CanRest.{from_on, left_bus, left_high, own_from_first, own_numbers, system_left, wires_left}
use Rattle.pipe_build.proofs.Rest.{told_high}

exec_is_left : (reg : RegistryValue) (k : ℕ) → is_exec_input reg.execs k ≡ true → is_left_input reg k ≡ true
exec_is_left reg k is =
    or_right (is_input_of (ports_of (single reg Fetch)) k) _ (or_right (is_input_of (ports_of (single reg Decoder)) k) _ (or_right (is_input_of (ports_of (single reg RegFile)) k) _
    (or_right (is_input_of (ports_of (single reg Hazard)) k) _ (or_right (is_input_of (ports_of (single reg System)) k) _ is))))

-- ---- numbers of ports

or_no : {b c : Bool} → b ≡ false → c ≡ false → (b || c) ≡ false
or_no {b} {c} e f = ap (λ x. x || c) e ∙ f

not_fetch : (p : ℕ) → 8 ≤ p → is_fetch_out p ≡ false
not_fetch p l = or_no (ne_eqb p 2 (λ e. absurd (omega arith))) (ne_eqb p 4 (λ e. absurd (omega arith)))

not_bus : (p : ℕ) → 20 ≤ p → is_bus_out p ≡ false
not_bus p l =
    or_no (ne_eqb p 8 (λ e. absurd (omega arith))) (or_no (ne_eqb p 10 (λ e. absurd (omega arith))) (or_no (ne_eqb p 11 (λ e. absurd (omega arith)))
    (or_no (ne_eqb p 12 (λ e. absurd (omega arith))) (ne_eqb p 13 (λ e. absurd (omega arith))))))

pub told_left : (reg : RegistryValue) (n : PipeNets) (k : ℕ) → is_among k (targets (told_drives n)) ≡ true → is_left_out reg k ≡ true
told_left reg n k is = let l = told_high n k is in left_high reg k (not_fetch k (omega arith)) (not_bus k l)

-- numbers up to a number
abbrev AllBelow : ℕ → List ℕ → Type 0
AllBelow n [] = Unit {0}
AllBelow n (x ∷ xs) = (x < n) × AllBelow n xs

below_on : (n : ℕ) (xs : List ℕ) (k : ℕ) → AllBelow n xs → is_among k xs ≡ true → k < n
below_on n [] k h is = absurd (both_ways false refl is)
below_on n (x ∷ xs) k h is = elim (or_cases (eqb k x) (is_among k xs) is) [
  | inl here ↦ let e : k ≡ x = eqb-true k x here in let l = h.0 in omega arith
  | inr later ↦ below_on n xs k h.1 later
]

pub own_below : (w k : ℕ) → is_among k (own_numbers w) ≡ true → k < w + 8
own_below w k is = below_on (w + 8) (own_numbers w) k (omega arith, (omega arith, (omega arith, (omega arith, (omega arith, (omega arith, (omega arith, (omega arith, tt)))))))) is

bus_left : (reg : RegistryValue) (b : Bool) → is_some reg.databus ≡ b → (n : PipeNets) (k : ℕ) → is_among k (targets (bus_drives b n)) ≡ true → is_left_out reg k ≡ true
bus_left reg true e n k is = absurd (both_ways false refl is)
bus_left reg false e n k is =
    let l = from_on 8 (8 ∷ 10 ∷ 11 ∷ 12 ∷ 13 ∷ []) k (omega arith, (omega arith, (omega arith, (omega arith, (omega arith, tt))))) is in
    left_bus reg k (not_fetch k l) e

module _ (w : World) {m1 m2 m3 m4 : ModuleValue} {reset_pc units places wire reg tail : ℕ} {o : Offers} {has_bus : Bool} {n : PipeNets} (made : IsMade w.design m1 reset_pc units places)
    (units_only : UnitsOnly (is_exec_input w.reg.execs) (reg + 15) units m1 m2) (before : BeforeRest w m2 wire reg reset_pc o has_bus) (rest : RestOnly wire reg o has_bus n m2 m3)
    (moves : MovesOnly tail m3 m4 (3 * places)) where
  may_wire : (k : ℕ) → is_among k (targets (wire_drives wire o n)) ≡ true → MayDrive Pipe (pipe_rights w.reg) (wire_at m2.wires k).owner k
  unfolding pipe_rights
  may_wire k is = elim (wires_left w m2 wire reg reset_pc o has_bus before w.pool n k is) [
    | inl own ↦
        let low = from_on wire (own_numbers wire) k (own_from_first wire) own in
        let high = own_below wire k own in
        let e : wire + (k - wire) ≡ k = omega arith in
        let row = wire_row m2 wire wire_levels before.wires (k - wire) 0 (omega arith) in
        inl (ap (λ i. (wire_at m2.wires i).owner) (sym e) ∙ ap (λ (r : WireRow). r.owner) row, refl)
    | inr left ↦ inr left
  ]

  pub top_makes : (total : ℕ) → 92 + 9 * units + 6 * places ≤ total → Makes Pipe (pipe_rights w.reg) w.design m4 total
  unfolding pipe_rights
  top_makes total most =
      makes_then Pipe (pipe_rights w.reg) w.design m3 m4 (92 + 9 * units + 3 * places) (3 * places) total
      (makes_then Pipe (pipe_rights w.reg) w.design m2 m3 (23 + 9 * units + 3 * places) 69 (92 + 9 * units + 3 * places)
      (makes_then Pipe (pipe_rights w.reg) w.design m1 m2 (23 + units + 3 * places) (8 * units) (23 + 9 * units + 3 * places) (made.makes (pipe_rights w.reg))
      (units_only.makes (pipe_rights w.reg) (λ k is. inr (exec_is_left w.reg k is))) (omega arith))
      (rest.makes (pipe_rights w.reg) may_wire (λ k is. inr (system_left w m2 wire reg reset_pc o has_bus before w.pool n k is)) (λ k is. told_left w.reg n k is) (λ k is. bus_left w.reg has_bus before.bus n k is)) (omega arith))
      (moves.makes (pipe_rights w.reg)) (omega arith)
