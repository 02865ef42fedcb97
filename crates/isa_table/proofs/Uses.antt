-- The fields of the rows are exact: what is to hold of each row is one equation of lists, which computes.
use Rattle.std.proofs.Common.{◌≡◌, ℕ, zero, suc, ◌+◌, ◌^◌, Bool, true, false, not, eqb, ltb, List, [], ◌∷◌, ◌&&◌, get_or, map, Option, Some, None, refl, sym, ap, ◌∙◌, arith}
use Rattle.std.proofs.lemmas.Bool.{both_ways, and_parts, not-true, ltb-true, eq-eqb}
use Rattle.core_words.specs.Values.{one_if}
use Rattle.core_words.specs.Fields.{imm_i, imm_s, imm_u, imm_j}
use Rattle.isa_table.specs.Rows.{Action, TableRow, lui, table, meets}
use Rattle.isa_table.specs.Rows.Action.{Computes, Jumps, Branches, Loads, Stores, Fences, FencesFetches, CallsEnvironment, Breaks, AccessesCsr, Returns, Waits}
use Rattle.isa_table.specs.Uses.{DependsOnA, DependsOnB, gives_value, IsExact}

-- what is one list of two functions is one at each place, and past the end
module _ {C : Type 0} (f g : TableRow → C) where
  heads : (row : TableRow) (rows : List TableRow) → map f (row ∷ rows) ≡ map g (row ∷ rows) → f row ≡ g row
  heads row rows e = cc

  tails : (row : TableRow) (rows : List TableRow) → map f (row ∷ rows) ≡ map g (row ∷ rows) → map f rows ≡ map g rows
  tails row rows e = cc

  pub at_each : (rows : List TableRow) → map f rows ≡ map g rows → f lui ≡ g lui → (n : ℕ) → f (get_or rows n lui) ≡ g (get_or rows n lui)
  at_each [] e d n = d
  at_each (row ∷ rows) e d zero = heads row rows e
  at_each (row ∷ rows) e d (suc n) = at_each rows (tails row rows e) d n

  pub at_row : map f table ≡ map g table → f lui ≡ g lui → (n : ℕ) → f (get_or table n lui) ≡ g (get_or table n lui)
  at_row = at_each table

abbrev pub unless : Bool → Action → Option Action
unless true x = None
unless false x = Some x

unless_same : (u : Bool) (x y : Action) → unless u x ≡ unless u y → u ≡ false → x ≡ y
unless_same true x y e h = absurd (both_ways true h refl)
unless_same false x y e h = cc

pub a_free : (n : ℕ) → (get_or table n lui).uses_a ≡ false → (pc word a other b : ℕ) → (get_or table n lui).action pc word a b ≡ (get_or table n lui).action pc word other b
a_free n h pc word a other b =
    unless_same _ _ _ (at_row (λ r. unless r.uses_a (r.action pc word a b)) (λ r. unless r.uses_a (r.action pc word other b)) refl refl n) h

pub b_free : (n : ℕ) → (get_or table n lui).uses_b ≡ false → (pc word a b other : ℕ) → (get_or table n lui).action pc word a b ≡ (get_or table n lui).action pc word a other
b_free n h pc word a b other =
    unless_same _ _ _ (at_row (λ r. unless r.uses_b (r.action pc word a b)) (λ r. unless r.uses_b (r.action pc word a other)) refl refl n) h

pub value_is : (n pc word a b : ℕ) → (get_or table n lui).has_value ≡ gives_value ((get_or table n lui).action pc word a b)
value_is n pc word a b = at_row (λ r. r.has_value) (λ r. gives_value (r.action pc word a b)) refl refl n

-- a number of an action: where two differ in it, they differ
abbrev mark : Action → ℕ
mark (Computes value) = value
mark (Jumps value target) = target
mark (Branches is_taken target) = one_if is_taken
mark (Loads addr size is_signed) = addr
mark (Stores addr size value) = addr + value
mark Fences = 0
mark FencesFetches = 0
mark CallsEnvironment = 0
mark Breaks = 0
mark (AccessesCsr number change operand writes) = operand
mark Returns = 0
mark Waits = 0

-- a word of the row, whose bits 20 and 22 are 1 where the row leaves them open
abbrev word_of : TableRow → ℕ
word_of row = row.value + 0x500000

-- values whose low five bits are 2 and 1, for the shifts
abbrev big : ℕ
big = 0x40000002

abbrev bigger : ℕ
bigger = 0x50000001

-- the marks of a row's actions for two values of a register, and that the word is of the row
abbrev a_shows : TableRow → Bool
a_shows row = ltb (word_of row) (2 ^ 32) && (meets (word_of row) row && not (eqb (mark (row.action 0 (word_of row) big big)) (mark (row.action 0 (word_of row) 1 big))))

abbrev b_shows : TableRow → Bool
b_shows row = ltb (word_of row) (2 ^ 32) && (meets (word_of row) row && not (eqb (mark (row.action 0 (word_of row) big big)) (mark (row.action 0 (word_of row) big bigger))))

a_shown : map (λ r. r.uses_a) table ≡ map a_shows table
unfolding imm_i imm_s imm_u imm_j
a_shown = refl

b_shown : map (λ r. r.uses_b) table ≡ map b_shows table
unfolding imm_i imm_s imm_u imm_j
b_shown = refl

a_first : lui.uses_a ≡ a_shows lui
unfolding imm_u
a_first = refl

b_first : lui.uses_b ≡ b_shows lui
unfolding imm_u
b_first = refl

differ : (x y : Action) → not (eqb (mark x) (mark y)) ≡ true → x ≡ y → ⊥
differ x y h e = both_ways (eqb (mark x) (mark y)) (not-true _ h) (eq-eqb _ _ (ap mark e))

-- what a row's test of three parts gives
three : (x y z : Bool) → (x && (y && z)) ≡ true → (x ≡ true) × (y ≡ true) × (z ≡ true)
three x y z h = let p = and_parts x (y && z) h in let q = and_parts y z p.1 in (p.0, q.0, q.1)

module _ (row : TableRow) where
  depends_a : a_shows row ≡ true → DependsOnA row
  depends_a h =
      let p = three _ _ _ h in
      record {
        pc = 0;
        word = word_of row;
        a = big;
        other = 1;
        b = big;
        fits = (ltb-true _ _ p.0, omega arith, omega arith, omega arith);
        of_row = p.1;
        differs = differ _ _ p.2;
      }

  depends_b : b_shows row ≡ true → DependsOnB row
  depends_b h =
      let p = three _ _ _ h in
      record {
        pc = 0;
        word = word_of row;
        a = big;
        b = big;
        other = bigger;
        fits = (ltb-true _ _ p.0, omega arith, omega arith, omega arith);
        of_row = p.1;
        differs = differ _ _ p.2;
      }

pub exact_at : (n : ℕ) → IsExact (get_or table n lui)
exact_at n = record {
  a_used = λ h. depends_a (get_or table n lui) (sym (at_row (λ r. r.uses_a) a_shows a_shown a_first n) ∙ h);
  a_free = a_free n;
  b_used = λ h. depends_b (get_or table n lui) (sym (at_row (λ r. r.uses_b) b_shows b_shown b_first n) ∙ h);
  b_free = b_free n;
  value = value_is n;
}
