-- Shifts by single places.
use Rattle.std.proofs.Common.{◌≡◌, ◌∙◌, ℕ, zero, suc, ◌+◌, ◌-◌, ◌*◌, ◌/◌, ◌%◌, ◌^◌, ◌<◌, ◌≤◌, Bool, true, false, leb, bit_and, refl, arith, ap, sym}
use Rattle.std.proofs.lemmas.Bool.Decides.{nat_tests}
use Rattle.std.proofs.lemmas.Nat.{shr-shr, shr_le}
use Rattle.std.proofs.Math.Nat.{pow-suc}
use Rattle.core_words.specs.Values.{choose, bits_of, join_of}
use Rattle.isa_table.specs.Results.{shift_left, shift_right, shift_right_signed}
use Rattle.hw_words.proofs.Shifts.{signed_negative, signed_positive}
use Rattle.plug_shift.specs.Machine.{fill_of, moved_of}

-- one place, to the right where the bit is 1, there with the sign where it is signed
pub one_place : (right signed x : ℕ) → ℕ
one_place right signed x = choose right (join_of 31 (bit_and signed (bits_of x 31 31)) (bits_of x 31 1)) (join_of 1 (bits_of x 30 0) 0)

pub moved_is : (word x : ℕ) → moved_of word x ≡ one_place (bits_of word 14 14) (bits_of word 30 30) x
unfolding one_place moved_of fill_of
moved_is word x = refl

pub times : (right signed x n : ℕ) → ℕ
times right signed x zero = x
times right signed x (suc n) = one_place right signed (times right signed x n)

pub times_zero : (right signed x : ℕ) → times right signed x 0 ≡ x
unfolding times
times_zero right signed x = refl

pub times_suc : (right signed x n : ℕ) → times right signed x (suc n) ≡ one_place right signed (times right signed x n)
unfolding times
times_suc right signed x n = refl

left_one : (s x : ℕ) → one_place 0 s x ≡ x * 2 % 2 ^ 32
unfolding one_place
left_one s x = omega arith

right_one : (x : ℕ) → x < 2 ^ 32 → one_place 1 0 x ≡ x / 2
unfolding one_place
right_one x h = omega arith

-- the sign of a number that has none, and of one that has
plain_one : (x : ℕ) → x < 2 ^ 31 → one_place 1 1 x ≡ x / 2
unfolding one_place
plain_one x h =
    let sign : bits_of x 31 31 ≡ 0 = omega arith in
    ap (λ (t : ℕ). bit_and 1 t * 2 ^ 31 + bits_of x 31 1) sign ∙ omega arith

signed_one : (q : ℕ) → q < 2 ^ 31 → one_place 1 1 (4294967295 - q) ≡ 4294967295 - q / 2
unfolding one_place
signed_one q h =
    let sign : bits_of (4294967295 - q) 31 31 ≡ 1 = omega arith in
    ap (λ (t : ℕ). bit_and 1 t * 2 ^ 31 + bits_of (4294967295 - q) 31 1) sign ∙ omega arith

half : (a n : ℕ) → a / 2 ^ n / 2 ≡ a / 2 ^ suc n
half a n = let one : n + 1 ≡ suc n = omega arith in shr-shr a n 1 ∙ ap (λ (k : ℕ). a / 2 ^ k) one

double : (a n : ℕ) → a * 2 ^ n % 2 ^ 32 * 2 % 2 ^ 32 ≡ a * 2 ^ suc n % 2 ^ 32
double a n =
    let p : a * 2 ^ suc n ≡ a * 2 ^ n * 2 = ap (λ (k : ℕ). a * k) (pow-suc 2 n) ∙ grind arith in
    omega (arith, p)

pub left_times : (s a n : ℕ) → a < 2 ^ 32 → times 0 s a n ≡ shift_left a n
unfolding times
left_times s a zero h = omega arith
left_times s a (suc n) h = ap (one_place 0 s) (left_times s a n h) ∙ left_one s (a * 2 ^ n % 2 ^ 32) ∙ double a n

pub right_times : (a n : ℕ) → a < 2 ^ 32 → times 1 0 a n ≡ shift_right a n
unfolding times
right_times a zero h = omega arith
right_times a (suc n) h =
    let l : a / 2 ^ n ≤ a = shr_le a n in
    ap (one_place 1 0) (right_times a n h) ∙ right_one (a / 2 ^ n) (omega arith) ∙ half a n

plain_times : (a n : ℕ) → a < 2 ^ 31 → times 1 1 a n ≡ a / 2 ^ n
unfolding times
plain_times a zero h = omega arith
plain_times a (suc n) h =
    let l : a / 2 ^ n ≤ a = shr_le a n in
    ap (one_place 1 1) (plain_times a n h) ∙ plain_one (a / 2 ^ n) (omega arith) ∙ half a n

-- a number with the sign, by its complement
ones_times : (z n : ℕ) → z < 2 ^ 31 → times 1 1 (4294967295 - z) n ≡ 4294967295 - z / 2 ^ n
unfolding times
ones_times z zero h = omega arith
ones_times z (suc n) h =
    let l : z / 2 ^ n ≤ z = shr_le z n in
    ap (one_place 1 1) (ones_times z n h) ∙ signed_one (z / 2 ^ n) (omega arith) ∙ ap (λ (k : ℕ). 4294967295 - k) (half z n)

pub signed_times : (a n : ℕ) → a < 2 ^ 32 → n < 32 → times 1 1 a n ≡ shift_right_signed a n
signed_times a n h few = by (leb 2147483648 a) refl
  where
    by : (t : Bool) → leb 2147483648 a ≡ t → times 1 1 a n ≡ shift_right_signed a n
    by true e =
        let l : 2147483648 ≤ a = grind (arith, nat_tests) in
        let twice : a ≡ 4294967295 - (4294967295 - a) = omega arith in
        ap (λ (x : ℕ). times 1 1 x n) twice ∙ ones_times (4294967295 - a) n (omega arith) ∙ sym (signed_negative a n h few e)
    by false e =
        let l : a < 2147483648 = grind (arith, nat_tests) in
        plain_times a n (omega arith) ∙ sym (signed_positive a n h few e)
