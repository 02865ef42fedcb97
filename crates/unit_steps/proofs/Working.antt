-- A unit that does in each cycle what a machine says keeps the law of Exec.
use Rattle.std.proofs.Common.{◌≡◌, ◌∙◌, ℕ, suc, ◌<◌, Bool, true, false, eqb, List, Some, None, refl, arith, ap, sym, subst, inl, inr}
use Rattle.std.proofs.lemmas.Bool.{both_ways, cases_lt, cases_eq}
use Rattle.core_words.specs.Values.{one_if}
use Rattle.bus_law.specs.Memory.{Memory}
use Rattle.isa_csr.specs.Csrs.{Csrs}
use Rattle.isa_model.specs.Machine.{Set}
use Rattle.isa_model.specs.Effects.{Moment, Effect, effect_of, write_of, goes_behind, behind}
use Rattle.isa_model.specs.Run.{is_fence_word}
use Rattle.plug_law.specs.Table.{table_of}
use Rattle.plug_law.specs.Exec.{ExecSignals, Terms, Shows, begun, effect_at}
use Rattle.plug_law.proofs.IsTable.{is_table}
use Rattle.unit_steps.specs.Cycles.{Machine, is_later, held_at, EndsIn}
use Rattle.unit_steps.specs.Signals.{AllEnd, ends_in, IsWorking, KeepsWorking}
use Rattle.unit_steps.proofs.Keeps.{IsClaimed, IsUnit, keeps}

-- the outputs are those of an effect that computes
shows_value : (f : Effect) (pc v value next cause tval : ℕ) (trap : Bool) → f ≡ goes_behind pc (Some v) → trap ≡ false → next ≡ behind pc → value ≡ v
    → Shows f value next cause tval trap × (write_of f ≡ None)
shows_value f pc v value next cause tval trap e t n h = subst (λ (g : Effect). Shows g value next cause tval trap × (write_of g ≡ None)) (sym e) ((t, n, h), refl)

-- ---- an instruction that ends

module _ (m : Machine) (word a b : ℕ) (held : List ℕ) where
  abbrev ends_after : ℕ → ℕ
  ends_after n = m.ends word a b (is_later n) (held_at m word a b held n)

  -- in no cycle before n
  abbrev Before : ℕ → Type 0
  Before n = (j : ℕ) → j < n → eqb (ends_after j) 1 ≡ false

  one_more : (n : ℕ) → Before n → eqb (ends_after n) 1 ≡ false → Before (suc n)
  one_more n before now j l = elim (cases_eq j n) [
    | inl same ↦ ap (λ (k : ℕ). eqb (ends_after k) 1) same ∙ now
    | inr other ↦ before j (omega arith)
  ]

  module _ (last result : ℕ) (is : EndsIn m word a b held last result) where
    at_last : eqb (ends_after last) 1 ≡ true
    at_last = ap (λ (k : ℕ). eqb k 1) is.ends

    -- what has not ended by a cycle ends in a later one
    later : (n : ℕ) → Before n → eqb (ends_after n) 1 ≡ false → n < last
    later n before now = elim (cases_lt n last) [
      | inl l ↦ l
      | inr past ↦ absurd (both_ways (eqb (ends_after last) 1) (one_more n before now last (omega arith)) at_last)
    ]

    -- and what ends has the value
    shown : (n : ℕ) → Before n → eqb (ends_after n) 1 ≡ true → m.value word a b (is_later n) (held_at m word a b held n) ≡ result
    shown n before now = elim (cases_lt n last) [
      | inl l ↦ absurd (both_ways (eqb (ends_after n) 1) (ap (λ (k : ℕ). eqb k 1) (is.works n l)) now)
      | inr ge ↦ elim (cases_lt last n) [
        | inl l ↦ absurd (both_ways (eqb (ends_after last) 1) (before last l) at_last)
        | inr le ↦
            let same : n ≡ last = omega arith in
            ap (λ (k : ℕ). m.value word a b (is_later k) (held_at m word a b held k)) same ∙ is.value_is
      ]
    ]

-- ---- the unit

module _ (set : Set) (x : Terms) (m : Machine) (e : ExecSignals) (working : ℕ → Bool) (held : ℕ → List ℕ) (mem : ℕ → Memory) (csrs : ℕ → Csrs) (moments : ℕ → Moment)
    (table_is : x.table ≡ table_of set) (free : x.holds ≡ false) (no_fencei : x.claims 40 ≡ false) (all : AllEnd set x m) (is : IsWorking m e working held) where
  module _ (number word : ℕ) (claimed : x.claims number ≡ true) (found : x.table.row_of word ≡ Some number) where
    found_in : (table_of set).row_of word ≡ Some number
    found_in = (λ i. (sym table_is i).row_of word) ∙ found

    no_fence : is_fence_word word ≡ false
    no_fence = by (is_fence_word word) refl
      where
        by : (b : Bool) → is_fence_word word ≡ b → b ≡ false
        by true h = absurd (both_ways (x.claims 40) no_fencei (ap x.claims (sym ((is_table set).fence_word word number found_in h)) ∙ claimed))
        by false h = refl

  -- as a cycle begins, n cycles of the instruction are done, and it did not end in them
  record At (row pc word a b t n : ℕ) : Type 0 where
    pub start : List ℕ
    pub marked : one_if (working t) ≡ is_later n
    pub holds : held t ≡ held_at m word a b start n
    pub before : Before m word a b start n

  -- so what the machine does is what it does in cycle n
  ends_is : (t n : ℕ) → (at : At (e.row t) (e.pc t) (e.word t) (e.a t) (e.b t) t n) → ends_in m e working held t ≡ eqb (ends_after m (e.word t) (e.a t) (e.b t) at.start n) 1
  ends_is t n at = λ i. eqb (m.ends (e.word t) (e.a t) (e.b t) (at.marked i) (at.holds i)) 1

  begins : (row pc word a b t : ℕ) → working t ≡ false → At row pc word a b t 0
  unfolding held_at
  begins row pc word a b t q = record { start = held t; marked = ap one_if q; holds = refl; before = λ j l. absurd (omega arith) }

  goes_on : (s n : ℕ) → At (e.row (suc s)) (e.pc (suc s)) (e.word (suc s)) (e.a (suc s)) (e.b (suc s)) (suc s) n → ends_in m e working held (suc s) ≡ false
      → working (suc (suc s)) ≡ true → At (e.row (suc s)) (e.pc (suc s)) (e.word (suc s)) (e.a (suc s)) (e.b (suc s)) (suc (suc s)) (suc n)
  unfolding held_at
  goes_on s n at q on =
      let word = e.word (suc s) in
      let a = e.a (suc s) in
      let b = e.b (suc s) in
      record {
        start = at.start;
        marked = ap one_if on;
        holds = is.holds s ∙ (λ i. m.next word a b (at.marked i) (at.holds i));
        before = one_more m word a b at.start n at.before (sym (ends_is (suc s) n at) ∙ q);
      }

  shows : (s n : ℕ) → IsClaimed x e s → At (e.row (suc s)) (e.pc (suc s)) (e.word (suc s)) (e.a (suc s)) (e.b (suc s)) (suc s) n → ends_in m e working held (suc s) ≡ true
      → Shows (effect_at x.table e mem csrs moments (suc s)) (e.value (suc s)) (e.next_pc (suc s)) (e.cause (suc s)) (e.tval (suc s)) (e.trap (suc s))
      × (e.fence (suc s) ≡ is_fence_word (e.word (suc s))) × (write_of (effect_at x.table e mem csrs moments (suc s)) ≡ None)
  unfolding table_of
  shows s n c at q =
      let t = suc s in
      let word = e.word t in
      let a = e.a t in
      let b = e.b t in
      let r = all (e.row t) word (e.pc t) a b c.claims (found_in (e.row t) word c.claims c.is_row) (is.a_fits s) (is.b_fits s) in
      let end = r.2 at.start in
      let effect = (λ i. (table_is i).effect (e.row t) (e.pc t) word a b (mem (begun e t)) (csrs t) (moments t)) ∙ ap (effect_of (e.pc t) word (mem (begun e t)) (csrs t) (moments t)) r.1 in
      let value = is.value_is s ∙ (λ i. m.value word a b (at.marked i) (at.holds i)) ∙ shown m word a b at.start end.0 r.0 end.2 n at.before (sym (ends_is t n at) ∙ q) in
      let both = shows_value _ (e.pc t) r.0 (e.value t) (e.next_pc t) (e.cause t) (e.tval t) (e.trap t) effect (is.trap s) (is.next_pc s) value in
      (both.0, is.fence s ∙ sym (no_fence (e.row t) word c.claims c.is_row), both.1)

  few : (s n : ℕ) → IsClaimed x e s → At (e.row (suc s)) (e.pc (suc s)) (e.word (suc s)) (e.a (suc s)) (e.b (suc s)) (suc s) n → ends_in m e working held (suc s) ≡ false → suc n < x.latency.0
  few s n c at q =
      let t = suc s in
      let r = all (e.row t) (e.word t) (e.pc t) (e.a t) (e.b t) c.claims (found_in (e.row t) (e.word t) c.claims c.is_row) (is.a_fits s) (is.b_fits s) in
      let end = r.2 at.start in
      let last : ℕ = end.0 in
      let l : last < x.latency.0 = end.1 in
      let n_l : n < last = later m (e.word t) (e.a t) (e.b t) at.start last r.0 end.2 n at.before (sym (ends_is t n at) ∙ q) in
      omega (arith, l, n_l)

  unit : IsUnit x e mem csrs moments working (ends_in m e working held) At
  unit = record {
    no_bus_is = free;
    first = is.first;
    next = is.goes_on;
    done = is.done;
    begins = λ s c q. begins (e.row (suc s)) (e.pc (suc s)) (e.word (suc s)) (e.a (suc s)) (e.b (suc s)) (suc s) q;
    goes_on = λ s n c at q on. goes_on s n at q on;
    shows = shows;
    few = few;
  }

pub keeps_working : KeepsWorking
keeps_working set x m e working held db mem csrs moments table_is free no_fencei all is =
    keeps x e mem csrs moments working (ends_in m e working held) _ (unit set x m e working held mem csrs moments table_is free no_fencei all is) db
