-- Registers that are made and driven, one step behind the other.
use Rattle.std.proofs.Common.{◌≡◌, ◌∙◌, ℕ, suc, ◌+◌, ◌-◌, ◌<◌, ◌≤◌, List, [], ◌∷◌, cond, length, take, drop, slice_index_or, ltb, arith, ap, sym, subst, refl, inl, inr, Option, Some, None}
use Rattle.std.proofs.Math.Seq.{take-length}
use Rattle.std.proofs.lemmas.Bool.{cases_eq, cases_lt}
use Rattle.std.proofs.lemmas.List.{get_or_past}
use Rattle.hw_pool.specs.Nodes.{PoolValue}
use Rattle.hw_pool.specs.Meaning.{Env}
use Rattle.hw_expr.specs.declared.net.Net.{Net}
use Rattle.hw_expr.specs.Nets.{InScope}
use Rattle.hw_gates.specs.Places.{Has, IsIn, Step, value_in}
use Rattle.hw_gates.proofs.Has.{in_scope}
use Rattle.hw_gates.proofs.Steps.{has_in, kept}
use Rattle.hw_module.specs.declared.rows.Owner.TheVariants.{Pipe, Entry}
use Rattle.hw_module.specs.declared.rows.RegRow.{RegRow}
use Rattle.hw_module.specs.Rows.{ModuleValue, wire_at, reg_at, array_at}
use Rattle.hw_module.specs.Rights.{Makes}
use Rattle.hw_module.specs.Scope.{scope_of, input_width}
use Rattle.hw_module.proofs.Makes.{makes_nothing, makes_then}
use Rattle.plug_build.specs.World.{BuilderValue}
use Rattle.unit_steps.specs.Registers.{AreDrivenRegs, CanTake, CanTakeAll, DrivesRegs, HaveTaken, IsDrivenReg, IsOpenReg, MakesRegs, driven_row}

-- a scope stays where only next values of registers change
pub scope_same : (old new : ModuleValue) → new.wires ≡ old.wires → new.arrays ≡ old.arrays → length new.regs ≡ length old.regs
    → ((k : ℕ) → (reg_at new.regs k).width ≡ (reg_at old.regs k).width) → scope_of new ≡ scope_of old
unfolding scope_of
scope_same old new wires arrays count width = λ i. record {
  inputs = input_width;
  wires = λ k. cond (ltb k (length (wires i))) (Some ((wire_at (wires i) k).width, (wire_at (wires i) k).level)) None;
  regs = λ k. cond (ltb k (count i)) (Some (width k i)) None;
  arrays = λ k. cond (ltb k (length (arrays i))) (Some ((array_at (arrays i) k).width, (array_at (arrays i) k).bits)) None;
}

pub width_same : (old new : ModuleValue) (reg : ℕ) (net : Net) → reg_at new.regs reg ≡ record (reg_at old.regs reg) { next = Some net }
    → ((k : ℕ) → (k ≡ reg → ⊥) → reg_at new.regs k ≡ reg_at old.regs k) → (k : ℕ) → (reg_at new.regs k).width ≡ (reg_at old.regs k).width
width_same old new reg net driven others k = elim (cases_eq k reg) [
  | inl same ↦
      ap (λ (j : ℕ). (reg_at new.regs j).width) same ∙ (ap (λ (row : RegRow). row.width) driven ∙ ap (λ (j : ℕ). (reg_at old.regs j).width) (sym same))
  | inr other ↦ ap (λ (row : RegRow). row.width) (others k other)
]

-- ---- a slice, taken apart

abbrev pub rest_of : {A : Type 0} → List A → List A
rest_of xs = take (length xs - 1) (drop 1 xs)

pub split : {A : Type 0} (d : A) (xs : List A) → 1 ≤ length xs → xs ≡ slice_index_or xs 0 d ∷ rest_of xs
split d [] h = absurd (omega arith)
split d (x ∷ xs) h =
    let e : length xs ≡ suc (length xs) - 1 = omega arith in
    ap (λ ys. x ∷ ys) (sym (take-length xs) ∙ ap (λ n. take n xs) e)

-- ---- registers that are driven

pub drives_none : (a : BuilderValue) → DrivesRegs 0 a a
drives_none a = record {
  entry = refl;
  wires = refl;
  arrays = refl;
  outs = refl;
  count = refl;
  room = omega arith;
  makes = λ r. makes_nothing (Entry a.entry) r a.design;
  scope = refl;
}

pub drives_then : (a b c : BuilderValue) (m n total : ℕ) → DrivesRegs m a b → DrivesRegs n b c → m + n ≡ total → DrivesRegs total a c
drives_then a b c m n total first second sum = record {
  entry = second.entry ∙ first.entry;
  wires = second.wires ∙ first.wires;
  arrays = second.arrays ∙ first.arrays;
  outs = second.outs ∙ first.outs;
  count = second.count ∙ first.count;
  room = omega (arith, first.room, second.room);
  makes = λ r. makes_then (Entry a.entry) r a.design b.design c.design m n total (first.makes r)
      (subst (λ (e : ℕ). Makes (Entry e) r b.design c.design n) first.entry (second.makes r)) (omega arith);
  scope = second.scope ∙ first.scope;
}

-- the registers behind one that took its net may still take theirs, and take the same
module _ (old new : ModuleValue) (reg : ℕ) (others : (k : ℕ) → (k ≡ reg → ⊥) → reg_at new.regs k ≡ reg_at old.regs k) where
  pub can_take_on : (pool : PoolValue) (entry : ℕ) → length new.regs ≡ length old.regs → ((n : Net) → InScope (scope_of old) pool n → InScope (scope_of new) pool n)
      → (k : ℕ) (ns : List Net) → reg < k → CanTakeAll old pool entry k ns → CanTakeAll new pool entry k ns
  can_take_on pool entry count scope k [] far h = tt
  can_take_on pool entry count scope k (n ∷ ns) far h =
      let same : reg_at new.regs k ≡ reg_at old.regs k = others k (λ e. absurd (omega arith)) in (
        record {
          there = let l = h.0.there in omega arith;
          own = ap (λ (r : RegRow). r.owner) same ∙ h.0.own;
          free = ap (λ (r : RegRow). r.next) same ∙ h.0.free;
          scope = scope n h.0.scope;
          wide = h.0.wide ∙ sym (ap (λ (r : RegRow). r.width) same);
        },
        can_take_on pool entry count scope (k + 1) ns (omega arith) h.1,
      )

  pub taken_from : (last : ModuleValue) (k : ℕ) (ns : List Net) → reg < k → HaveTaken new last k ns → HaveTaken old last k ns
  taken_from last k [] far h = tt
  taken_from last k (n ∷ ns) far h =
      let same : reg_at new.regs k ≡ reg_at old.regs k = others k (λ e. absurd (omega arith)) in
      (h.0 ∙ ap (λ (r : RegRow). record r { next = Some n }) same, taken_from last (k + 1) ns (omega arith) h.1)

-- an open register may take a net of its width, and then has its function
pub can_take : (m : ModuleValue) (pool : PoolValue) (entry reg width : ℕ) (reset : Option ℕ) (net : Net) → IsOpenReg m entry reg width reset → Has pool net → IsIn (scope_of m) pool net
    → net.width ≡ width → CanTake m pool entry reg net
can_take m pool entry reg width reset net is has scope wide = record {
  there = is.there;
  own = ap (λ (r : RegRow). r.owner) is.row;
  free = ap (λ (r : RegRow). r.next) is.row;
  scope = in_scope (scope_of m) pool net has scope;
  wide = wide ∙ sym (ap (λ (r : RegRow). r.width) is.row);
}

pub has_taken : (old new : ModuleValue) (pool : PoolValue) (entry reg width : ℕ) (reset : Option ℕ) (f : Env → ℕ) (net : Net) → IsOpenReg old entry reg width reset
    → reg_at new.regs reg ≡ record (reg_at old.regs reg) { next = Some net } → Has pool net → ((env : Env) → value_in env pool net ≡ f env) → IsDrivenReg new pool entry reg width reset f
has_taken old new pool entry reg width reset f net is taken has value = record {
  net = net;
  row = taken ∙ ap (λ (r : RegRow). record r { next = Some net }) is.row;
  has = has;
  value_is = value;
}

-- a driven register stays one while nodes are added and its row stays
pub driven_stays : (old new : ModuleValue) (p q : PoolValue) (n entry reg width : ℕ) (reset : Option ℕ) (f : Env → ℕ) → Step p q n → reg_at new.regs reg ≡ reg_at old.regs reg
    → IsDrivenReg old p entry reg width reset f → IsDrivenReg new q entry reg width reset f
driven_stays old new p q n entry reg width reset f step same h = record {
  net = h.net;
  row = same ∙ h.row;
  has = has_in p q n h.net step h.has;
  value_is = λ env. kept env p q n h.net step h.has ∙ h.value_is env;
}

-- the same function, and an entry by another name
pub driven_as : (m : ModuleValue) (p : PoolValue) (entry by reg width : ℕ) (reset : Option ℕ) (f h : Env → ℕ) → entry ≡ by → ((env : Env) → f env ≡ h env)
    → IsDrivenReg m p entry reg width reset f → IsDrivenReg m p by reg width reset h
driven_as m p entry by reg width reset f h same values is = record {
  net = is.net;
  row = is.row ∙ ap (λ (x : ℕ). driven_row x width reset is.net) same;
  has = is.has;
  value_is = λ env. is.value_is env ∙ values env;
}

pub all_stay : (old new : ModuleValue) (p q : PoolValue) (n entry by first : ℕ) (widths : List ℕ) (next : Env → List ℕ) → Step p q n → entry ≡ by
    → ((k : ℕ) → first ≤ k → reg_at new.regs k ≡ reg_at old.regs k) → AreDrivenRegs old p entry first widths next → AreDrivenRegs new q by first widths next
all_stay old new p q n entry by first [] next step same rows h = tt
all_stay old new p q n entry by first (w ∷ ws) next step same rows h = (
  driven_as new q entry by first w None _ _ same (λ env. refl) (driven_stays old new p q n entry first w None _ step (rows first (omega arith)) h.0),
  all_stay old new p q n entry by (first + 1) ws (λ env. drop 1 (next env)) step same (λ k l. rows k (omega arith)) h.1,
)

-- ---- registers that are made

pub regs_none : (a : BuilderValue) → MakesRegs 0 a a
regs_none a = record {
  entry = refl;
  wires = refl;
  arrays = refl;
  outs = refl;
  count = omega arith;
  before = λ k l. refl;
  room = omega arith;
  makes = λ r. makes_nothing (Entry a.entry) r a.design;
  drivers = λ pool h. h;
}

pub regs_then : (a b c : BuilderValue) (m n total : ℕ) → MakesRegs m a b → MakesRegs n b c → m + n ≡ total → MakesRegs total a c
regs_then a b c m n total first second sum = record {
  entry = second.entry ∙ first.entry;
  wires = second.wires ∙ first.wires;
  arrays = second.arrays ∙ first.arrays;
  outs = second.outs ∙ first.outs;
  count = omega (arith, first.count, second.count);
  before = λ k l. second.before k (omega (arith, first.count)) ∙ first.before k l;
  room = omega (arith, first.room, second.room);
  makes = λ r. makes_then (Entry a.entry) r a.design b.design c.design m n total (first.makes r)
      (subst (λ (e : ℕ). Makes (Entry e) r b.design c.design n) first.entry (second.makes r)) (omega arith);
  drivers = λ pool h. second.drivers pool (first.drivers pool h);
}

-- a register without a next value stays one while others are made, and while others are driven
pub open_stays : (old new : ModuleValue) (entry reg width : ℕ) (reset : Option ℕ) → length old.regs ≤ length new.regs → reg_at new.regs reg ≡ reg_at old.regs reg
    → IsOpenReg old entry reg width reset → IsOpenReg new entry reg width reset
open_stays old new entry reg width reset more same is = record { there = let l = is.there in omega arith; row = same ∙ is.row }

-- the registers of an entry that had none are those that it made
pub only_new : (by : ℕ) (old new : ModuleValue) (n : ℕ) → length new.regs ≡ length old.regs + n → ((k : ℕ) → k < length old.regs → (reg_at new.regs k).owner ≡ (reg_at old.regs k).owner)
    → ((k : ℕ) → (reg_at old.regs k).owner ≡ Entry by → ⊥) → (k : ℕ) → (reg_at new.regs k).owner ≡ Entry by → (length old.regs ≤ k) × (k < length old.regs + n)
only_new by old new n count before nothing k own = elim (cases_lt k (length new.regs)) [
  | inr past ↦ absurd (let e : Pipe ≡ Entry by = sym (ap (λ (row : RegRow). row.owner) (get_or_past new.regs k _ past)) ∙ own in cc)
  | inl there ↦ elim (cases_lt k (length old.regs)) [
    | inl l ↦ absurd (nothing k (sym (before k l) ∙ own))
    | inr ge ↦ (ge, omega arith)
  ]
]
