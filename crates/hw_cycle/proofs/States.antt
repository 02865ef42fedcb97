-- What a cycle holds, before a step and after it.
use Rattle.std.proofs.Common.{◌≡◌, ◌∙◌, ℕ, ◌^◌, ◌<◌, List, length, get_or, map, replicate, refl, ap, sym, subst, arith, inl, inr}
use Rattle.std.proofs.lemmas.Bool.{cases_lt}
use Rattle.std.proofs.lemmas.List.{get_or_past, get_or-map, get_or-replicate, length-map}
use Rattle.std.proofs.Math.ListN.{length-replicate}
use Rattle.std.proofs.lemmas.List.Elements.{All-from_get_or}
use Rattle.std.proofs.lemmas.Nat.{pow_pos}
use Rattle.hw_pool.specs.declared.node.Node.{Node}
use Rattle.hw_module.specs.declared.rows.RegRow.{RegRow}
use Rattle.hw_module.specs.declared.rows.ArrayRow.{ArrayRow}
use Rattle.hw_module.specs.Rows.{ModuleValue, array_at}
use Rattle.hw_module.specs.Cycle.{Held, IsHeld, out_value}
use Rattle.hw_cycle.specs.State.{CycleValue, IsCycle, IsFor, SameShape, cells_at, held_of, held_in}
use Rattle.hw_cycle.specs.Inputs.{AreOutputs, AreWithin, ins_of}
use Rattle.hw_cycle.specs.Levels.{AreHeld, AreShaped}

-- numbers past the end of a list are 0
below_any : (l : List ℕ) (n i : ℕ) → 0 < n → ((j : ℕ) → j < length l → get_or l j 0 < n) → get_or l i 0 < n
below_any l n i p h = elim (cases_lt i (length l)) [
  | inl there ↦ h i there
  | inr past ↦ subst (λ (v : ℕ). v < n) (sym (get_or_past l i 0 past)) p
]

module _ (c : CycleValue) (m : ModuleValue) (is : IsCycle c) (made : IsFor c m) where
  pub held_from : (ins : List ℕ) → AreWithin ins → AreHeld m (held_of c) (ins_of ins)
  held_from ins within = record {
    inputs = within;
    regs = λ r h.
        let there : r < length c.regs = let e : length c.regs ≡ length m.regs = made.regs in omega arith in
        subst (λ w. get_or c.regs r 0 < 2 ^ w) (made.reg_widths r h) (is.in_reg r there);
    cells = λ a i h.
        let there : a < length c.cells = let e : length c.cells ≡ length m.arrays = made.arrays in omega arith in
        below_any (cells_at c.cells a) (2 ^ (array_at m.arrays a).width) i (pow_pos (array_at m.arrays a).width)
        (λ j inside. subst (λ w. get_or (cells_at c.cells a) j 0 < 2 ^ w) (made.array_widths a h) (is.in_cell a j there inside));
  }

  pub shaped_from : AreShaped m c.wires (length c.regs) c.cells
  shaped_from = record {
    wires_many = made.wires;
    regs_many = made.regs;
    arrays_many = made.arrays;
    counts = λ a h.
        let there : a < length c.cells = let e : length c.cells ≡ length m.arrays = made.arrays in omega arith in
        is.counts a there ∙ ap (λ b. 2 ^ b) (made.array_bits a h);
  }

-- a cycle holds what a module of its shape may hold
pub is_held : (c : CycleValue) (m : ModuleValue) → IsCycle c → IsFor c m → IsHeld m (held_of c)
is_held c m is made = record {
  regs = λ r h.
      let there : r < length c.regs = let e : length c.regs ≡ length m.regs = made.regs in omega arith in
      subst (λ w. get_or c.regs r 0 < 2 ^ w) (made.reg_widths r h) (is.in_reg r there);
  counts = (shaped_from c m is made).counts;
  cells = λ a h.
      let there : a < length c.cells = let e : length c.cells ≡ length m.arrays = made.arrays in omega arith in
      All-from_get_or (λ v. v < 2 ^ (array_at m.arrays a).width) (cells_at c.cells a) 0
      (λ i inside. subst (λ w. get_or (cells_at c.cells a) i 0 < 2 ^ w) (made.array_widths a h) (is.in_cell a i there inside));
}

-- the shape stays
pub for_after : (old new : CycleValue) (m : ModuleValue) → IsFor old m → SameShape old new → IsFor new m
for_after old new m made same = record {
  wires = same.wires ∙ made.wires;
  regs = same.regs ∙ made.regs;
  arrays = same.cells ∙ made.arrays;
  reg_widths = λ r h. ap (λ (l : List ℕ). get_or l r 0) same.reg_widths ∙ made.reg_widths r h;
  array_widths = λ a h. ap (λ (l : List ℕ). get_or l a 0) same.array_widths ∙ made.array_widths a h;
  array_bits = λ a h. ap (λ (l : List ℕ). get_or l a 0) same.array_bits ∙ made.array_bits a h;
}

-- numbers that a module may hold, with as many cells as before, are those of a cycle
pub cycle_after : (old new : CycleValue) (m : ModuleValue) (ins : ℕ → ℕ) → IsCycle old → IsFor old m → SameShape old new → AreHeld m (held_of new) ins
    → ((a : ℕ) → a < length m.arrays → length (cells_at new.cells a) ≡ length (cells_at old.cells a)) → IsCycle new
cycle_after old new m ins is made same held many =
    let after : IsFor new m = for_after old new m made same in
    record {
      regs = same.regs ∙ is.regs ∙ sym (ap length same.reg_widths);
      widths = same.cells ∙ is.widths ∙ sym (ap length same.array_widths);
      bits = same.cells ∙ is.bits ∙ sym (ap length same.array_bits);
      in_reg = λ r h.
          let there : r < length m.regs = let e : length new.regs ≡ length m.regs = after.regs in omega arith in
          subst (λ w. get_or new.regs r 0 < 2 ^ w) (sym (after.reg_widths r there)) (held.regs r there);
      counts = λ a h.
          let there : a < length m.arrays = let e : length new.cells ≡ length m.arrays = after.arrays in omega arith in
          let before : a < length old.cells = let e : length old.cells ≡ length m.arrays = made.arrays in omega arith in
          many a there ∙ is.counts a before ∙ ap (λ (l : List ℕ). 2 ^ get_or l a 0) (sym same.array_bits);
      in_cell = λ a i h inside.
          let there : a < length m.arrays = let e : length new.cells ≡ length m.arrays = after.arrays in omega arith in
          subst (λ w. get_or (cells_at new.cells a) i 0 < 2 ^ w) (sym (after.array_widths a there)) (held.cells a i there);
    }

zero_at : (n i : ℕ) → ◌≡◌ {A = ℕ} (get_or (replicate n 0) i 0) 0
zero_at n i = elim (cases_lt i n) [
  | inl there ↦ get_or-replicate n i 0 0 there
  | inr past ↦ get_or_past (replicate n 0) i 0 (let e : length (replicate {A = ℕ} n 0) ≡ n = length-replicate n 0 in omega arith)
]

-- numbers that are 0 are those of a cycle
pub cycle_new : (m : ModuleValue) (wires nodes : ℕ) (reg_widths array_widths array_bits regs : List ℕ) (cells : List (List ℕ))
    → reg_widths ≡ map (λ (r : RegRow). r.width) m.regs → array_widths ≡ map (λ (a : ArrayRow). a.width) m.arrays → array_bits ≡ map (λ (a : ArrayRow). a.bits) m.arrays
    → regs ≡ replicate (length m.regs) 0 → length cells ≡ length m.arrays
    → ((a : ℕ) → a < length m.arrays → cells_at cells a ≡ replicate (2 ^ (array_at m.arrays a).bits) 0)
    → IsCycle (record { wires = wires; reg_widths = reg_widths; array_widths = array_widths; array_bits = array_bits; nodes = nodes; regs = regs; cells = cells })
cycle_new m wires nodes reg_widths array_widths array_bits regs cells are_widths are_array_widths are_bits are_regs many zero = record {
  regs = ap length are_regs ∙ length-replicate (length m.regs) 0 ∙ sym (length-map m.regs (λ (r : RegRow). r.width)) ∙ sym (ap length are_widths);
  widths = many ∙ sym (length-map m.arrays (λ (a : ArrayRow). a.width)) ∙ sym (ap length are_array_widths);
  bits = many ∙ sym (length-map m.arrays (λ (a : ArrayRow). a.bits)) ∙ sym (ap length are_bits);
  in_reg = λ r h.
      subst (λ (v : ℕ). v < 2 ^ get_or reg_widths r 0) (sym (ap (λ (l : List ℕ). get_or l r 0) are_regs ∙ zero_at (length m.regs) r)) (pow_pos (get_or reg_widths r 0));
  counts = λ a h.
      let there : a < length m.arrays = omega arith in
      ap length (zero a there) ∙ length-replicate (2 ^ (array_at m.arrays a).bits) 0
      ∙ sym (ap (λ (l : List ℕ). 2 ^ get_or l a 0) are_bits ∙ ap (λ b. 2 ^ b) (get_or-map (λ (a : ArrayRow). a.bits) m.arrays a _ 0 there));
  in_cell = λ a i h inside.
      let there : a < length m.arrays = omega arith in
      subst (λ (v : ℕ). v < 2 ^ get_or array_widths a 0) (sym (ap (λ (l : List ℕ). get_or l i 0) (zero a there) ∙ zero_at (2 ^ (array_at m.arrays a).bits) i)) (pow_pos (get_or array_widths a 0));
}

-- the same, for a step whose new numbers are written back
pub cycle_step : (old : CycleValue) (m : ModuleValue) (ins : ℕ → ℕ) (wires nodes : ℕ) (regs regs_back : List ℕ) (cells cells_back : List (List ℕ)) → IsCycle old → IsFor old m
    → regs_back ≡ regs → cells_back ≡ cells → length regs ≡ length old.regs → length cells ≡ length old.cells → AreHeld m (held_in regs cells) ins
    → ((a : ℕ) → a < length m.arrays → length (cells_at cells a) ≡ length (cells_at old.cells a))
    → IsCycle (record { wires = wires; reg_widths = old.reg_widths; array_widths = old.array_widths; array_bits = old.array_bits; nodes = nodes; regs = regs_back; cells = cells_back })
cycle_step old m ins wires nodes regs regs_back cells cells_back is made regs_are cells_are regs_many cells_many held counts =
    subst (λ (r : List ℕ). IsCycle (record { wires = wires; reg_widths = old.reg_widths; array_widths = old.array_widths; array_bits = old.array_bits; nodes = nodes; regs = r; cells = cells_back })) (sym regs_are)
    (subst (λ (c : List (List ℕ)). IsCycle (record { wires = wires; reg_widths = old.reg_widths; array_widths = old.array_widths; array_bits = old.array_bits; nodes = nodes; regs = regs; cells = c })) (sym cells_are)
    (let new : CycleValue = record { wires = old.wires; reg_widths = old.reg_widths; array_widths = old.array_widths; array_bits = old.array_bits; nodes = old.nodes; regs = regs; cells = cells } in
    let after : IsCycle new =
    cycle_after old new m ins is made (record { wires = refl; reg_widths = refl; array_widths = refl; array_bits = refl; nodes = refl; regs = regs_many; cells = cells_many }) held counts in
    record { regs = after.regs; widths = after.widths; bits = after.bits; in_reg = after.in_reg; counts = after.counts; in_cell = after.in_cell }))

-- facts of the same lists
pub held_same : (m : ModuleValue) (regs regs_too ins ins_too : List ℕ) (cells cells_too : List (List ℕ)) → regs_too ≡ regs → cells_too ≡ cells → ins_too ≡ ins
    → AreHeld m (held_in regs cells) (ins_of ins) → AreHeld m (held_in regs_too cells_too) (ins_of ins_too)
held_same m regs regs_too ins ins_too cells cells_too r c i held =
    subst (λ (l : List ℕ). AreHeld m (held_in l cells_too) (ins_of ins_too)) (sym r)
    (subst (λ (l : List (List ℕ)). AreHeld m (held_in regs l) (ins_of ins_too)) (sym c)
    (subst (λ (l : List ℕ). AreHeld m (held_in regs cells) (ins_of l)) (sym i) held))

pub outs_same : (m : ModuleValue) (nodes : List Node) (outs outs_too ins ins_too : List ℕ) (s s_too : Held) → outs_too ≡ outs → s_too ≡ s → ins_too ≡ ins
    → AreOutputs (out_value m nodes s (ins_of ins)) outs → AreOutputs (out_value m nodes s_too (ins_of ins_too)) outs_too
outs_same m nodes outs outs_too ins ins_too s s_too o h i are =
    subst (λ (l : List ℕ). AreOutputs (out_value m nodes s_too (ins_of ins_too)) l) (sym o)
    (subst (λ (x : Held). AreOutputs (out_value m nodes x (ins_of ins_too)) outs) (sym h)
    (subst (λ (l : List ℕ). AreOutputs (out_value m nodes s (ins_of l)) outs) (sym i) are))
