-- How many things a module has, after one more thing or driver.
use Rattle.std.proofs.Common.{◌≡◌, ◌∙◌, ℕ, zero, suc, ◌+◌, ◌<◌, ◌≤◌, List, [], ◌∷◌, length, get_or, refl, arith, ap, sym, Option, None, Some, inl, inr}
use Rattle.std.specs.Prelude.{sum_by}
use Rattle.std.proofs.lemmas.List.Sums.{sum_by-cons}
use Rattle.std.proofs.lemmas.List.{get_or_default}
use Rattle.hw_expr.specs.declared.net.Net.{Net}
use Rattle.hw_module.specs.declared.rows.WireRow.{WireRow}
use Rattle.hw_module.specs.declared.rows.RegRow.{RegRow}
use Rattle.hw_module.specs.declared.rows.ArrayRow.{ArrayRow}
use Rattle.hw_module.specs.declared.rows.ArrayWrite.{ArrayWrite}
use Rattle.hw_module.specs.Rows.{ModuleValue, wire_at, reg_at, array_at, out_at}
use Rattle.hw_module.specs.Frame.{count_of, wire_fill, reg_fill, array_fill, fill_of}

module _ {A : Type 0} (f : A → ℕ) (d : A) where
  -- lists with the same elements have the same sum
  sum_same : (xs ys : List A) → length ys ≡ length xs → ((k : ℕ) → k < length xs → get_or ys k d ≡ get_or xs k d) → sum_by f ys ≡ sum_by f xs
  sum_same [] [] long same = refl
  sum_same [] (y ∷ ys) long same = absurd (omega (arith, long))
  sum_same (x ∷ xs) [] long same = absurd (omega (arith, long))
  sum_same (x ∷ xs) (y ∷ ys) long same =
      let rest = sum_same xs ys (omega (arith, long)) (λ k l. same (suc k) (omega arith)) in
      let here : f y ≡ f x = ap f (same 0 (omega arith)) in
      let a = sum_by-cons f y ys in
      let b = sum_by-cons f x xs in
      omega (arith, rest, here, a, b)

  -- one element more
  pub sum_more : (xs ys : List A) → length ys ≡ length xs + 1 → ((k : ℕ) → k < length xs → get_or ys k d ≡ get_or xs k d) → sum_by f ys ≡ sum_by f xs + f (get_or ys (length xs) d)
  sum_more [] [] long same = absurd (omega (arith, long))
  sum_more [] (y ∷ []) long same = sum_by-cons f y [] ∙ omega arith
  sum_more [] (y ∷ (z ∷ zs)) long same = absurd (omega (arith, long))
  sum_more (x ∷ xs) [] long same = absurd (omega (arith, long))
  sum_more (x ∷ xs) (y ∷ ys) long same =
      let rest = sum_more xs ys (omega (arith, long)) (λ k l. same (suc k) (omega arith)) in
      let here : f y ≡ f x = ap f (same 0 (omega arith)) in
      let a = sum_by-cons f y ys in
      let b = sum_by-cons f x xs in
      omega (arith, rest, here, a, b)

  -- one element changed
  pub sum_changed : (xs ys : List A) (at : ℕ) → length ys ≡ length xs → ((k : ℕ) → (k ≡ at → ⊥) → get_or ys k d ≡ get_or xs k d)
      → sum_by f ys + f (get_or xs at d) ≡ sum_by f xs + f (get_or ys at d)
  sum_changed [] [] at long others = refl
  sum_changed [] (y ∷ ys) at long others = absurd (omega (arith, long))
  sum_changed (x ∷ xs) [] at long others = absurd (omega (arith, long))
  sum_changed (x ∷ xs) (y ∷ ys) zero long others =
      let rest = sum_same xs ys (omega (arith, long)) (λ k m. others (suc k) (λ e. absurd (omega (arith, e)))) in
      let a = sum_by-cons f y ys in
      let b = sum_by-cons f x xs in
      omega (arith, rest, a, b)
  sum_changed (x ∷ xs) (y ∷ ys) (suc at) long others =
      let rest = sum_changed xs ys at (omega (arith, long)) (λ k ne. others (suc k) (λ e. ne (omega (arith, e)))) in
      let here : f y ≡ f x = ap f (others 0 (λ e. absurd (omega (arith, e)))) in
      let a = sum_by-cons f y ys in
      let b = sum_by-cons f x xs in
      omega (arith, rest, here, a, b)

-- ---- a thing more, without driver, and a driver more

module _ (old new : ModuleValue) where
  same_wires : new.wires ≡ old.wires → sum_by wire_fill new.wires ≡ sum_by wire_fill old.wires
  same_wires e = ap (sum_by wire_fill) e

  same_regs : new.regs ≡ old.regs → sum_by reg_fill new.regs ≡ sum_by reg_fill old.regs
  same_regs e = ap (sum_by reg_fill) e

  same_arrays : new.arrays ≡ old.arrays → sum_by array_fill new.arrays ≡ sum_by array_fill old.arrays
  same_arrays e = ap (sum_by array_fill) e

  same_outs : new.outs ≡ old.outs → sum_by count_of new.outs ≡ sum_by count_of old.outs
  same_outs e = ap (sum_by count_of) e

  pub wire_fills : length new.wires ≡ length old.wires + 1 → (wire_at new.wires (length old.wires)).driver ≡ None → ((k : ℕ) → k < length old.wires → wire_at new.wires k ≡ wire_at old.wires k)
      → new.regs ≡ old.regs → new.arrays ≡ old.arrays → new.outs ≡ old.outs → fill_of new ≤ fill_of old + 1
  wire_fills count made before regs arrays outs =
      let more = sum_more wire_fill _ old.wires new.wires count before in
      let one = ap (count_of {A = Net}) made in
      omega (arith, more, one, same_regs regs, same_arrays arrays, same_outs outs)

  pub reg_fills : length new.regs ≡ length old.regs + 1 → (reg_at new.regs (length old.regs)).next ≡ None → ((k : ℕ) → k < length old.regs → reg_at new.regs k ≡ reg_at old.regs k)
      → new.wires ≡ old.wires → new.arrays ≡ old.arrays → new.outs ≡ old.outs → fill_of new ≤ fill_of old + 1
  reg_fills count made before wires arrays outs =
      let more = sum_more reg_fill _ old.regs new.regs count before in
      let one = ap (count_of {A = Net}) made in
      omega (arith, more, one, same_wires wires, same_arrays arrays, same_outs outs)

  pub array_fills : length new.arrays ≡ length old.arrays + 1 → (array_at new.arrays (length old.arrays)).write ≡ None → ((k : ℕ) → k < length old.arrays → array_at new.arrays k ≡ array_at old.arrays k)
      → new.wires ≡ old.wires → new.regs ≡ old.regs → new.outs ≡ old.outs → fill_of new ≤ fill_of old + 1
  array_fills count made before wires regs outs =
      let more = sum_more array_fill _ old.arrays new.arrays count before in
      let one = ap (count_of {A = ArrayWrite}) made in
      omega (arith, more, one, same_wires wires, same_regs regs, same_outs outs)

  pub drive_fills : (wire : ℕ) (net : Net) → (wire_at old.wires wire).driver ≡ None → wire_at new.wires wire ≡ record (wire_at old.wires wire) { driver = Some net }
      → ((k : ℕ) → (k ≡ wire → ⊥) → wire_at new.wires k ≡ wire_at old.wires k) → length new.wires ≡ length old.wires → new.regs ≡ old.regs → new.arrays ≡ old.arrays → new.outs ≡ old.outs → fill_of new ≤ fill_of old + 1
  drive_fills wire net free driven others count regs arrays outs =
      let changed = sum_changed wire_fill _ old.wires new.wires wire count others in
      let none = ap (count_of {A = Net}) free in
      let one = ap wire_fill driven in
      omega (arith, changed, none, one, same_regs regs, same_arrays arrays, same_outs outs)

  pub next_fills : (reg : ℕ) (net : Net) → (reg_at old.regs reg).next ≡ None → reg_at new.regs reg ≡ record (reg_at old.regs reg) { next = Some net }
      → ((k : ℕ) → (k ≡ reg → ⊥) → reg_at new.regs k ≡ reg_at old.regs k) → length new.regs ≡ length old.regs → new.wires ≡ old.wires → new.arrays ≡ old.arrays → new.outs ≡ old.outs → fill_of new ≤ fill_of old + 1
  next_fills reg net free driven others count wires arrays outs =
      let changed = sum_changed reg_fill _ old.regs new.regs reg count others in
      let none = ap (count_of {A = Net}) free in
      let one = ap reg_fill driven in
      omega (arith, changed, none, one, same_wires wires, same_arrays arrays, same_outs outs)

  pub write_fills : (array : ℕ) (w : ArrayWrite) → (array_at old.arrays array).write ≡ None → array_at new.arrays array ≡ record (array_at old.arrays array) { write = Some w }
      → ((k : ℕ) → (k ≡ array → ⊥) → array_at new.arrays k ≡ array_at old.arrays k) → length new.arrays ≡ length old.arrays → new.wires ≡ old.wires → new.regs ≡ old.regs → new.outs ≡ old.outs → fill_of new ≤ fill_of old + 1
  write_fills array w free driven others count wires regs outs =
      let changed = sum_changed array_fill _ old.arrays new.arrays array count others in
      let none = ap (count_of {A = ArrayWrite}) free in
      let one = ap array_fill driven in
      omega (arith, changed, none, one, same_wires wires, same_regs regs, same_outs outs)

  pub output_fills : (port : ℕ) (net : Net) → out_at old.outs port ≡ None → out_at new.outs port ≡ Some net
      → ((k : ℕ) → (k ≡ port → ⊥) → out_at new.outs k ≡ out_at old.outs k) → length new.outs ≡ length old.outs → new.wires ≡ old.wires → new.regs ≡ old.regs → new.arrays ≡ old.arrays → fill_of new ≤ fill_of old + 1
  output_fills port net free driven others count wires regs arrays =
      let changed = sum_changed (count_of {A = Net}) None old.outs new.outs port count others in
      let none = ap (count_of {A = Net}) free in
      let one = ap (count_of {A = Net}) driven in
      omega (arith, changed, none, one, same_wires wires, same_regs regs, same_arrays arrays)
