-- The registers of the machine are those of the register file with the tail's results written.
use Rattle.std.proofs.Common.{◌≡◌, ℕ, zero, suc, ◌<◌, ◌≤◌, Bool, true, false, cond, not, eqb, List, [], ◌∷◌, ◌&&◌, set, get_or, length, refl, ap, ◌∙◌, sym, arith, Some, None}
use Rattle.std.proofs.lemmas.Bool.Decides.{nat_tests}
use Rattle.isa_model.specs.Machine.{register}
use Rattle.plug_law.specs.Hazard.{Ahead, value_or, writer}
use Rattle.plug_law.specs.Pipeline.{Late, leaves, places, shift}

-- register 0 reads 0
pub read_zeroed : (x : List ℕ) (r : ℕ) → get_or (set x 0 0) r 0 ≡ cond (eqb r 0) 0 (get_or x r 0)
read_zeroed [] zero = refl
read_zeroed [] (suc r) = grind (arith, nat_tests)
read_zeroed (y ∷ ys) zero = refl
read_zeroed (y ∷ ys) (suc r) = grind (arith, nat_tests)

-- a write of another register leaves register 0
pub write_zeroed : (x : List ℕ) (r v : ℕ) → eqb r 0 ≡ false → set (set x 0 0) r v ≡ set (set x r v) 0 0
write_zeroed [] zero v h = refl
write_zeroed [] (suc r) v h = refl
write_zeroed (y ∷ ys) zero v h = absurd (grind arith)
write_zeroed (y ∷ ys) (suc r) v h = refl

-- a list that was written reads the new number at the place, and the old ones elsewhere
read_set : (x : List ℕ) (j v r : ℕ) → j < length x → get_or (set x j v) r 0 ≡ cond (eqb j r) v (get_or x r 0)
read_set [] j v r h = absurd (omega arith)
read_set (y ∷ ys) zero v zero h = refl
read_set (y ∷ ys) zero v (suc r) h = grind (arith, nat_tests)
read_set (y ∷ ys) (suc j) v zero h = grind (arith, nat_tests)
read_set (y ∷ ys) (suc j) v (suc r) h = read_set ys j v r (omega arith) ∙ ap (λ b. cond b v (get_or ys r 0)) (same_test j r)
  where
    same_test : (j r : ℕ) → eqb j r ≡ eqb (suc j) (suc r)
    same_test j r = grind (arith, nat_tests)

-- one result is written
abbrev pub put : Late → List ℕ → List ℕ
put x regs = cond x.writes (set regs x.rd x.value) regs

-- the oldest first
abbrev pub applied : List Late → List ℕ → List ℕ
applied [] regs = regs
applied (x ∷ xs) regs = put x (applied xs regs)

-- a result that enters the tail is the last write, and the one that leaves goes into the registers
pub applied_shift : (new : Late) (xs : List Late) (regs : List ℕ) → applied (shift new xs) (put (leaves new xs) regs) ≡ put new (applied xs regs)
applied_shift new [] regs = refl
applied_shift new (x ∷ xs) regs = ap (put new) (applied_shift x xs regs)

-- what writes, writes a register other than 0
abbrev pub FitsOne : Late → Type 0
FitsOne x = x.writes ≡ true → (eqb x.rd 0 ≡ false) × (x.rd < 32)

abbrev pub Fits : List Late → Type 0
Fits [] = Unit {0}
Fits (x ∷ xs) = FitsOne x × Fits xs

-- results that name registers go on doing so
pub fits_shift : (new : Late) (xs : List Late) → FitsOne new → Fits xs → Fits (shift new xs)
fits_shift new [] h k = tt
fits_shift new (x ∷ xs) h k = (h, fits_shift x xs k.0 k.1)

-- so does the one that leaves
pub fits_leaves : (new : Late) (xs : List Late) → FitsOne new → Fits xs → FitsOne (leaves new xs)
fits_leaves new [] h k = h
fits_leaves new (x ∷ xs) h k = fits_leaves x xs k.0 k.1

-- a write keeps the number of registers
pub length_set : (x : List ℕ) (j v : ℕ) → length (set x j v) ≡ length x
length_set x j v = simp Rattle.std.proofs.Math.ListN.length-set

-- with or without it
length_cond : (b : Bool) (x : List ℕ) (j v n : ℕ) → length x ≡ n → length (cond b (set x j v) x) ≡ n
length_cond true x j v n h = length_set x j v ∙ h
length_cond false x j v n h = h

-- so does a result
pub length_put : (x : Late) (regs : List ℕ) → length regs ≡ 32 → length (put x regs) ≡ 32
length_put x regs h = length_cond x.writes regs x.rd x.value 32 h

-- and all results on their way
pub length_applied : (xs : List Late) (regs : List ℕ) → length regs ≡ 32 → length (applied xs regs) ≡ 32
length_applied [] regs h = h
length_applied (x ∷ xs) regs h = length_put x (applied xs regs) (length_applied xs regs h)

-- the value of a register: the youngest writer's, else the register file's
abbrev pub looked : List Late → ℕ → ℕ → ℕ
looked [] r plain = plain
looked (x ∷ xs) r plain = cond (x.writes && (eqb x.rd r && not (eqb r 0))) x.value (looked xs r plain)

-- a register under a result
pub read_put : (x : Late) (regs : List ℕ) (r : ℕ) → length regs ≡ 32 → FitsOne x → eqb r 0 ≡ false → get_or (put x regs) r 0 ≡ cond (x.writes && (eqb x.rd r && not (eqb r 0))) x.value (get_or regs r 0)
read_put x regs r h f z = two x.writes (eqb x.rd r) (eqb r 0) x.rd x.value regs z (λ w. let q : x.rd < 32 = (f w).1 in read_set regs x.rd x.value r (omega arith))
  where
    two : (w e z : Bool) (j v : ℕ) (regs : List ℕ) → z ≡ false → (w ≡ true → get_or (set regs j v) r 0 ≡ cond e v (get_or regs r 0))
        → get_or (cond w (set regs j v) regs) r 0 ≡ cond (w && (e && not z)) v (get_or regs r 0)
    two true true true j v regs h g = absurd (grind arith)
    two true true false j v regs h g = g refl
    two true false z j v regs h g = g refl
    two false e z j v regs h g = refl

-- a register under all results on their way is that of its youngest writer
pub read_applied : (xs : List Late) (regs : List ℕ) (r : ℕ) → length regs ≡ 32 → Fits xs → eqb r 0 ≡ false → get_or (applied xs regs) r 0 ≡ looked xs r (get_or regs r 0)
read_applied [] regs r h f z = refl
read_applied (x ∷ xs) regs r h f z =
    read_put x (applied xs regs) r (length_applied xs regs h) f.0 z
    ∙ ap (cond (x.writes && (eqb x.rd r && not (eqb r 0))) x.value) (read_applied xs regs r h f.1 z)

-- an empty tail has no writer
pub writer_none : (bypassed : ℕ → Bool) (n r : ℕ) → writer bypassed (places n []) r ≡ None
writer_none bypassed zero r = refl
writer_none bypassed (suc n) r = writer_none (λ i. bypassed (suc i)) n r

-- Hazard finds the same writer in the tail
pub writer_looked : (bypassed : ℕ → Bool) (n : ℕ) (xs : List Late) (r plain : ℕ) → length xs ≤ n → value_or (writer bypassed (places n xs) r) plain ≡ looked xs r plain
writer_looked bypassed n [] r plain h = ap (λ o. value_or o plain) (writer_none bypassed n r)
writer_looked bypassed zero (x ∷ xs) r plain h = absurd (omega arith)
writer_looked bypassed (suc n) (x ∷ xs) r plain h = split (x.writes && (eqb x.rd r && not (eqb r 0))) (writer_looked (λ i. bypassed (suc i)) n xs r plain (omega arith))
  where
    split : (b : Bool) → value_or (writer (λ i. bypassed (suc i)) (places n xs) r) plain ≡ looked xs r plain
        → value_or (cond b (Some (record { writes = x.writes; rd = x.rd; ready = true && bypassed 0; value = x.value })) (writer (λ i. bypassed (suc i)) (places n xs) r)) plain
        ≡ cond b x.value (looked xs r plain)
    split true h = refl
    split false h = h

-- register 0 has no writer in any stage
pub writer_zero : (bypassed : ℕ → Bool) (xs : List Ahead) (r : ℕ) → eqb r 0 ≡ true → writer bypassed xs r ≡ None
writer_zero bypassed [] r z = refl
writer_zero bypassed (x ∷ xs) r z = off x.writes (eqb x.rd r) (eqb r 0) z ∙ writer_zero (λ i. bypassed (suc i)) xs r z
  where
    off : (w e z : Bool) → z ≡ true → cond (w && (e && not z)) (Some (record x { ready = x.ready && bypassed 0 })) (writer (λ i. bypassed (suc i)) xs r) ≡ writer (λ i. bypassed (suc i)) xs r
    off true true true h = refl
    off true true false h = absurd (grind arith)
    off true false z h = refl
    off false e z h = refl

-- a result is written before or after register 0 is cleared
pub zeroed_put : (new : Late) (regs : List ℕ) → FitsOne new → set (put new regs) 0 0 ≡ put new (set regs 0 0)
zeroed_put new regs f = go new.writes (λ w. (f w).0)
  where
    go : (b : Bool) → (b ≡ true → eqb new.rd 0 ≡ false) → set (cond b (set regs new.rd new.value) regs) 0 0 ≡ cond b (set (set regs 0 0) new.rd new.value) (set regs 0 0)
    go true g = sym (write_zeroed regs new.rd new.value (g refl))
    go false g = refl

-- register 0 is read as 0
pub register_zero : (regs : List ℕ) (r : ℕ) → eqb r 0 ≡ true → register regs r ≡ 0
register_zero regs r z = ap (λ b. elim b [ true ↦ 0 | false ↦ get_or regs r 0 ]) z

-- a register other than 0 is its place in the list
pub register_get : (regs : List ℕ) (r : ℕ) → eqb r 0 ≡ false → register regs r ≡ get_or regs r 0
register_get regs r z = ap (λ b. elim b [ true ↦ 0 | false ↦ get_or regs r 0 ]) z

-- An operand that hazard gives is what the machine's register holds once the item in front has written.
module _ (bypassed : ℕ → Bool) (front : Ahead) (xs : List Late) (regs : List ℕ) (r plain : ℕ) (size : length regs ≡ 32) (short : length xs ≤ 2) (fits : Fits xs)
    (one : front.writes ≡ true → (eqb front.rd 0 ≡ false) × (front.rd < 32)) (is : plain ≡ register regs r) where
  abbrev me : Late
  me = record { writes = front.writes; rd = front.rd; value = front.value }

  abbrev all : List ℕ
  all = applied xs regs

  -- behind a result the zeroed registers read as the others
  read_all : eqb r 0 ≡ false → register (put me (set all 0 0)) r ≡ get_or (put me all) r 0
  read_all z =
      register_get (put me (set all 0 0)) r z ∙ ap (λ x. get_or x r 0) (sym (zeroed_put me all one)) ∙ read_zeroed (put me all) r
      ∙ ap (λ b. cond b 0 (get_or (put me all) r 0)) z

  -- register 0 has no writer
  at_zero : eqb r 0 ≡ true → value_or (writer bypassed (front ∷ places 2 xs) r) plain ≡ register (put me (set all 0 0)) r
  at_zero z =
      ap (λ o. value_or o plain) (writer_zero bypassed (front ∷ places 2 xs) r z) ∙ is ∙ register_zero regs r z
      ∙ sym (register_zero (put me (set all 0 0)) r z)

  -- the result in front is the youngest writer
  pub front_first : (b : Bool) → value_or (cond b (Some (record front { ready = front.ready && bypassed 0 })) (writer (λ i. bypassed (suc i)) (places 2 xs) r)) plain
      ≡ cond b front.value (value_or (writer (λ i. bypassed (suc i)) (places 2 xs) r) plain)
  front_first true = refl
  front_first false = refl

  -- a register other than 0
  elsewhere : eqb r 0 ≡ false → value_or (writer bypassed (front ∷ places 2 xs) r) plain ≡ register (put me (set all 0 0)) r
  elsewhere z =
      front_first (front.writes && (eqb front.rd r && not (eqb r 0)))
      ∙ ap (cond (front.writes && (eqb front.rd r && not (eqb r 0))) front.value)
      (writer_looked (λ i. bypassed (suc i)) 2 xs r plain short
      ∙ ap (looked xs r) (is ∙ register_get regs r z)
      ∙ sym (read_applied xs regs r size fits z))
      ∙ sym (read_put me all r (length_applied xs regs size) one z)
      ∙ sym (read_all z)

  -- any register
  split : (b : Bool) → eqb r 0 ≡ b → value_or (writer bypassed (front ∷ places 2 xs) r) plain ≡ register (put me (set all 0 0)) r
  split true z = at_zero z
  split false z = elsewhere z

  -- an operand by Hazard is the register of the machine once the item in front has ended
  pub operand : value_or (writer bypassed (front ∷ places 2 xs) r) plain ≡ register (put (record { writes = front.writes; rd = front.rd; value = front.value }) (set (applied xs regs) 0 0)) r
  operand = split (eqb r 0) refl
