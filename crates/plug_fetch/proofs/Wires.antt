-- The part's tests, over plain truth values: g a command is given, o its response is owed, v a response comes, y the bus is
-- ready, n there is room.
use Rattle.std.proofs.Common.{◌≡◌, Bool, true, false, not, ◌&&◌, ◌||◌, refl, arith}

abbrev pub idle_if : (g o v : Bool) → Bool
idle_if g o v = not (g || o) || (o && v)

abbrev pub given_if : (g o v n y : Bool) → Bool
given_if g o v n y = (idle_if g o v && n) || (g && not y)

abbrev pub owed_if : (g o v y : Bool) → Bool
owed_if g o v y = (g && y) || (o && not (o && v))

-- what is not idle is busy, and goes on
pub busy_now : (g o v : Bool) → idle_if g o v ≡ false → (g || o) ≡ true
busy_now true o v e = refl
busy_now false true v e = refl
busy_now false false v e = absurd (grind arith)

pub busy_next : (g o v n y : Bool) → idle_if g o v ≡ false → (given_if g o v n y || owed_if g o v y) ≡ true
busy_next true true true n y e = absurd (grind arith)
busy_next true true false n true e = refl
busy_next true true false n false e = refl
busy_next true false v n true e = refl
busy_next true false v n false e = refl
busy_next false true true n y e = absurd (grind arith)
busy_next false true false n y e = refl
busy_next false false v n y e = absurd (grind arith)

-- what becomes busy has room
pub issues : (g o v n y : Bool) → (g && o) ≡ false → idle_if g o v ≡ true → (given_if g o v n y || owed_if g o v y) ≡ true → n ≡ true
issues true true v n y e i b = absurd (grind arith)
issues true false v n y e i b = absurd (grind arith)
issues false true true true y e i b = refl
issues false true true false y e i b = absurd (grind arith)
issues false true false n y e i b = absurd (grind arith)
issues false false v true y e i b = refl
issues false false v false y e i b = absurd (grind arith)

-- what rests has none
pub rests : (g o v n y : Bool) → idle_if g o v ≡ true → (given_if g o v n y || owed_if g o v y) ≡ false → n ≡ false
rests g o v false y i b = refl
rests true true true true y i b = absurd (grind arith)
rests true true false true y i b = absurd (grind arith)
rests true false v true y i b = absurd (grind arith)
rests false true true true y i b = absurd (grind arith)
rests false true false true y i b = absurd (grind arith)
rests false false v true y i b = absurd (grind arith)

-- no response is owed after an idle cycle
pub not_owed : (g o v y : Bool) → (g && o) ≡ false → idle_if g o v ≡ true → owed_if g o v y ≡ false
not_owed true true v y e i = absurd (grind arith)
not_owed true false v y e i = absurd (grind arith)
not_owed false true true y e i = refl
not_owed false true false y e i = absurd (grind arith)
not_owed false false v y e i = refl

-- a response comes in an idle cycle alone
pub no_response : (g o v : Bool) → idle_if g o v ≡ false → (o && v) ≡ false
no_response g o v e = go (not (g || o)) (o && v) e
  where
    go : (a b : Bool) → (a || b) ≡ false → b ≡ false
    go true b e = absurd (grind arith)
    go false b e = e

-- what is busy and idle has its response
pub responds : (g o v : Bool) → (g && o) ≡ false → idle_if g o v ≡ true → (g || o) ≡ true → (o && v) ≡ true
responds true true v e i b = absurd (grind arith)
responds true false v e i b = absurd (grind arith)
responds false true true e i b = refl
responds false true false e i b = absurd (grind arith)
responds false false v e i b = absurd (grind arith)
