-- Four registers through steps.
use Rattle.std.proofs.Common.{◌≡◌, ◌∙◌, ℕ, ◌+◌, ◌<◌, ◌≤◌, length, List, Option, Some, ap, sym, refl, arith}
use Rattle.hw_pool.specs.Nodes.{PoolValue}
use Rattle.hw_expr.specs.declared.net.Net.{Net}
use Rattle.hw_module.specs.declared.rows.RegRow.{RegRow}
use Rattle.hw_module.specs.Rows.{ModuleValue, reg_at}
use Rattle.cache_nets.specs.Nets.{AreFour}
use Rattle.plug_icache.specs.Registers.{AreOpenRegs, CanDrive, IsDrivenFour, IsOpenFour, driven_row, open_row}
use Rattle.cache_nets.specs.declared.shapes.Four.{Four}

-- open registers stay where their rows do
pub open_stays : (old new : ModuleValue) (entry reg a b c d : ℕ) (ra rb rc rd : Option ℕ) → length old.regs ≤ length new.regs
    → ((k : ℕ) → reg ≤ k → k ≤ reg + 3 → reg_at new.regs k ≡ reg_at old.regs k) → IsOpenFour old entry reg a b c d ra rb rc rd → IsOpenFour new entry reg a b c d ra rb rc rd
open_stays old new entry reg a b c d ra rb rc rd count same h = record {
  there = let t = h.there in omega arith;
  first = same reg (omega arith) (omega arith) ∙ h.first;
  second = same (reg + 1) (omega arith) (omega arith) ∙ h.second;
  third = same (reg + 2) (omega arith) (omega arith) ∙ h.third;
  fourth = same (reg + 3) (omega arith) (omega arith) ∙ h.fourth;
}

pub driven_stays : (old new : ModuleValue) (entry reg a b c d : ℕ) (ra rb rc rd : Option ℕ) (n : Four)
    → ((k : ℕ) → reg ≤ k → k ≤ reg + 3 → reg_at new.regs k ≡ reg_at old.regs k) → IsDrivenFour old entry reg a b c d ra rb rc rd n → IsDrivenFour new entry reg a b c d ra rb rc rd n
driven_stays old new entry reg a b c d ra rb rc rd n same h = record {
  first = same reg (omega arith) (omega arith) ∙ h.first;
  second = same (reg + 1) (omega arith) (omega arith) ∙ h.second;
  third = same (reg + 2) (omega arith) (omega arith) ∙ h.third;
  fourth = same (reg + 3) (omega arith) (omega arith) ∙ h.fourth;
}

-- a level that is at most 0 is at most 8
pub low : (n : ℕ) → n ≤ 0 → n ≤ 8
low n h = omega arith

row_can : (entry width wide : ℕ) (reset : Option ℕ) (row : RegRow) → row ≡ open_row entry width reset → wide ≡ width → row ≡ open_row entry wide row.reset
row_can entry width wide reset row is same = is ∙ λ i. open_row entry (sym same i) (ap (λ (r : RegRow). r.reset) (sym is) i)

pub can_drive : (m : ModuleValue) (pool : PoolValue) (entry reg a b c d : ℕ) (ra rb rc rd : Option ℕ) (n : Four) → IsOpenFour m entry reg a b c d ra rb rc rd → AreFour pool n a b c d → CanDrive m entry reg n
can_drive m pool entry reg a b c d ra rb rc rd n h f = record {
  there = h.there;
  first = row_can entry a n.first.width ra _ h.first f.first.1;
  second = row_can entry b n.second.width rb _ h.second f.second.1;
  third = row_can entry c n.third.width rc _ h.third f.third.1;
  fourth = row_can entry d n.fourth.width rd _ h.fourth f.fourth.1;
}

pub own_widths : (pool : PoolValue) (n : Four) (a b c d : ℕ) → AreFour pool n a b c d → AreFour pool n n.first.width n.second.width n.third.width n.fourth.width
own_widths pool n a b c d f = record {
  first = (f.first.0, refl, f.first.2);
  second = (f.second.0, refl, f.second.2);
  third = (f.third.0, refl, f.third.2);
  fourth = (f.fourth.0, refl, f.fourth.2);
}

-- a row that got its next value
drives_row : (entry width : ℕ) (reset : Option ℕ) (net : Net) (old new : RegRow) → old ≡ open_row entry width reset → new ≡ record old { next = Some net } → new ≡ driven_row entry width reset net
drives_row entry width reset net old new is driven = driven ∙ ap (λ (r : RegRow). record r { next = Some net }) is

pub four_driven : (old new : ModuleValue) (entry reg a b c d : ℕ) (ra rb rc rd : Option ℕ) (n : Four) → IsOpenFour old entry reg a b c d ra rb rc rd
    → reg_at new.regs reg ≡ record (reg_at old.regs reg) { next = Some n.first } → reg_at new.regs (reg + 1) ≡ record (reg_at old.regs (reg + 1)) { next = Some n.second }
    → reg_at new.regs (reg + 2) ≡ record (reg_at old.regs (reg + 2)) { next = Some n.third } → reg_at new.regs (reg + 3) ≡ record (reg_at old.regs (reg + 3)) { next = Some n.fourth }
    → IsDrivenFour new entry reg a b c d ra rb rc rd n
four_driven old new entry reg a b c d ra rb rc rd n h w x y z = record {
  first = drives_row entry a ra n.first _ _ h.first w;
  second = drives_row entry b rb n.second _ _ h.second x;
  third = drives_row entry c rc n.third _ _ h.third y;
  fourth = drives_row entry d rd n.fourth _ _ h.fourth z;
}

-- where the rows are the same
pub regs_stay : (old new : ModuleValue) → new.regs ≡ old.regs → (entry reg a b c d : ℕ) (ra rb rc rd : Option ℕ) → IsOpenFour old entry reg a b c d ra rb rc rd → IsOpenFour new entry reg a b c d ra rb rc rd
regs_stay old new same entry reg a b c d ra rb rc rd h =
    let count : length new.regs ≡ length old.regs = ap (λ (rs : List RegRow). length rs) same in
    open_stays old new entry reg a b c d ra rb rc rd (omega arith) (λ k x y. ap (λ (rs : List RegRow). reg_at rs k) same) h

pub all_stay : (old new : ModuleValue) → new.regs ≡ old.regs → (entry first l k reset_pc : ℕ) → AreOpenRegs old entry first l k reset_pc → AreOpenRegs new entry first l k reset_pc
all_stay old new same entry first l k reset_pc h = record {
  front = regs_stay old new same entry _ _ _ _ _ _ _ _ _ h.front;
  reading = regs_stay old new same entry _ _ _ _ _ _ _ _ _ h.reading;
  caught = regs_stay old new same entry _ _ _ _ _ _ _ _ _ h.caught;
  item = regs_stay old new same entry _ _ _ _ _ _ _ _ _ h.item;
}

pub rows_driven : (old new : ModuleValue) → new.regs ≡ old.regs → (entry reg a b c d : ℕ) (ra rb rc rd : Option ℕ) (n : Four) → IsDrivenFour old entry reg a b c d ra rb rc rd n → IsDrivenFour new entry reg a b c d ra rb rc rd n
rows_driven old new same entry reg a b c d ra rb rc rd n h = driven_stays old new entry reg a b c d ra rb rc rd n (λ k x y. ap (λ (rs : List RegRow). reg_at rs k) same) h
