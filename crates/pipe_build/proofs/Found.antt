-- The pipeline's own things, as they were made.
use Rattle.std.proofs.Common.{◌≡◌, ℕ, ◌+◌, ◌*◌, ◌<◌, [], length, arith, ap, subst}
use Rattle.hw_module.specs.declared.rows.RegRow.{RegRow}
use Rattle.hw_module.specs.declared.rows.WireRow.{WireRow}
use Rattle.hw_module.specs.Rows.{ModuleValue, reg_at, wire_at}
use Rattle.pipe_drive.specs.Rows.{IsMade, PlaceRows, bare_reg, bare_wire}
use Rattle.pipe_drive.proofs.Found.{chosen_found, place_found, reg_found, wire_found}
use Rattle.pipe_steps.specs.Numbers.{own_from, wires_from}
use Rattle.pipe_build.specs.Late.{ArePlaces, HasTail}
use Rattle.pipe_build.specs.Made.{HasRegs, HasWires, IsReg, IsWire}
use Rattle.pipe_build.specs.UnitOuts.{AreChosen}

module _ {old new : ModuleValue} {reset_pc units places : ℕ} (made : IsMade old new reset_pc units places) where
  reg_is : (r : ℕ) → r ≡ length old.regs → (j width : ℕ) (reset : _) → j < 15 → reg_at new.regs (length old.regs + j) ≡ bare_reg (width, reset) → IsReg new (r + j) width
  reg_is r is j width reset l row =
      let e : length old.regs + j ≡ r + j = omega arith in
      subst (λ (k : ℕ). IsReg new k width) e (record { there = (reg_found made j l).0; wide = ap (λ (x : RegRow). x.width) row })

  at : (r : ℕ) → r ≡ length old.regs → (width : ℕ) → IsReg new (r + 0) width → IsReg new r width
  at r is width h = let e : r + 0 ≡ r = omega arith in subst (λ (k : ℕ). IsReg new k width) e h

  pub regs_found : (r : ℕ) → r ≡ length old.regs → HasRegs new (own_from r [] 0)
  regs_found r is = record {
    apc = at r is 32 (reg_is r is 0 32 _ (omega arith) (reg_found made 0 (omega arith)).1);
    flush = reg_is r is 1 1 _ (omega arith) (reg_found made 1 (omega arith)).1;
    flush_fence = reg_is r is 2 1 _ (omega arith) (reg_found made 2 (omega arith)).1;
    started = reg_is r is 3 1 _ (omega arith) (reg_found made 3 (omega arith)).1;
    stopped = reg_is r is 4 1 _ (omega arith) (reg_found made 4 (omega arith)).1;
    valid = reg_is r is 5 1 _ (omega arith) (reg_found made 5 (omega arith)).1;
    slot = record {
      pc = reg_is r is 6 32 _ (omega arith) (reg_found made 6 (omega arith)).1;
      word = reg_is r is 7 32 _ (omega arith) (reg_found made 7 (omega arith)).1;
      error = reg_is r is 8 1 _ (omega arith) (reg_found made 8 (omega arith)).1;
      legal = reg_is r is 9 1 _ (omega arith) (reg_found made 9 (omega arith)).1;
      row = reg_is r is 10 7 _ (omega arith) (reg_found made 10 (omega arith)).1;
      except = reg_is r is 11 1 _ (omega arith) (reg_found made 11 (omega arith)).1;
      writes = reg_is r is 12 1 _ (omega arith) (reg_found made 12 (omega arith)).1;
      a = reg_is r is 13 32 _ (omega arith) (reg_found made 13 (omega arith)).1;
      b = reg_is r is 14 32 _ (omega arith) (reg_found made 14 (omega arith)).1;
    };
  }

  wire_is : (w : ℕ) → w ≡ length old.wires → (j level : ℕ) → j < 8 → wire_at new.wires (length old.wires + j) ≡ bare_wire level → IsWire new (w + j) level
  wire_is w is j level l row =
      let e : length old.wires + j ≡ w + j = omega arith in
      subst (λ (k : ℕ). IsWire new k level) e (record { there = (wire_found made j l).0; wide = ap (λ (x : WireRow). x.width) row; level_is = ap (λ (x : WireRow). x.level) row })

  pub wires_found : (w : ℕ) → w ≡ length old.wires → HasWires new (wires_from w)
  wires_found w is =
      let e : w + 0 ≡ w = omega arith in
      record {
        kill = subst (λ (k : ℕ). IsWire new k 1) e (wire_is w is 0 1 (omega arith) (wire_found made 0 (omega arith)).1);
        irq = wire_is w is 1 2 (omega arith) (wire_found made 1 (omega arith)).1;
        run = wire_is w is 2 3 (omega arith) (wire_found made 2 (omega arith)).1;
        ends = wire_is w is 3 5 (omega arith) (wire_found made 3 (omega arith)).1;
        retires = wire_is w is 4 6 (omega arith) (wire_found made 4 (omega arith)).1;
        traps = wire_is w is 5 6 (omega arith) (wire_found made 5 (omega arith)).1;
        writes = wire_is w is 6 7 (omega arith) (wire_found made 6 (omega arith)).1;
        enters = wire_is w is 7 7 (omega arith) (wire_found made 7 (omega arith)).1;
      }

  pub chosen_are : (r : ℕ) → r ≡ length old.regs → AreChosen new (r + 15) units
  chosen_are r is k l =
      let h = chosen_found made k l in
      let e : length old.regs + 15 + k ≡ r + 15 + k = omega arith in
      subst (λ (j : ℕ). IsReg new j 1) e (record { there = h.0; wide = ap (λ (x : RegRow). x.width) h.1 })

  pub places_are : (r : ℕ) → r ≡ length old.regs → ArePlaces new (r + 15 + units) places
  places_are r is k l =
      let e : length old.regs + 15 + units + 3 * k ≡ r + 15 + units + 3 * k = omega arith in
      subst (λ (j : ℕ). (j + 2 < length new.regs) × PlaceRows new j) e (place_found made k l)

pub tail_is : (m : ModuleValue) (first places : ℕ) → ArePlaces m first places → HasTail m first places
tail_is m first places h k l =
    let x = h k l in
    let there = x.0 in
    record {
      writes = record { there = omega arith; wide = ap (λ (r : RegRow). r.width) x.1.writes };
      rd = record { there = omega arith; wide = ap (λ (r : RegRow). r.width) x.1.rd };
      value = record { there = there; wide = ap (λ (r : RegRow). r.width) x.1.value };
    }
