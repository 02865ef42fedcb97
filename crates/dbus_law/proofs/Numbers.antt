-- What the unit makes of a word and its operands is what the table says: lanes, masks, signs.
use Rattle.std.proofs.Common.{◌≡◌, ℕ, zero, suc, ◌+◌, ◌-◌, ◌*◌, ◌/◌, ◌%◌, ◌^◌, ◌<◌, Bool, true, false, cond, not, eqb, leb, List, [], ◌∷◌, length, get_or, ◌&&◌, ◌||◌, All, Option, Some, None, refl, ap, ◌∙◌, sym, subst, arith}
use Rattle.std.proofs.lemmas.Bool.Decides.{nat_tests}
use Rattle.core_words.specs.Values.{one_if, bits_of, join_of}
use Rattle.core_words.specs.Fields.{extend}
use Rattle.bus_law.specs.Memory.{Memory, IsMemory, Store, aligned_of, byte_at, is_inside, is_window, lane_of, store_of, word_at}
use Rattle.bus_law.specs.Duties.{is_write_mask}
use Rattle.isa_model.specs.Effects.{is_multiple, lane_at, loaded, part_of, store_made}
use Rattle.dbus_law.specs.Words.{Kind, bit, byte_extended, byte_in, byte_spread, half_extended, half_in, half_spread, lanes_by, misaligned_by, spread_by, value_by}

-- the lane of an address by its two low bits
abbrev pub lane_by : (high low : Bool) → ℕ
lane_by high low = 2 * one_if high + one_if low

one_bit : (n : ℕ) → n < 2 → n ≡ one_if (eqb n 1)
one_bit zero h = refl
one_bit (suc zero) h = refl
one_bit (suc (suc n)) h = absurd (omega arith)

pub lane_is : (v : ℕ) → lane_at v ≡ lane_by (bit v 1) (bit v 0)
lane_is v =
    let h : bits_of v 1 1 ≡ one_if (bit v 1) = one_bit (bits_of v 1 1) (omega arith) in
    let l : bits_of v 0 0 ≡ one_if (bit v 0) = one_bit (bits_of v 0 0) (omega arith) in
    let w : v % 4 ≡ 2 * bits_of v 1 1 + bits_of v 0 0 = omega arith in
    w ∙ (λ i. 2 * h i + l i)

-- bytes of an access
abbrev pub size_of : (half whole : Bool) → ℕ
size_of half whole = cond whole 4 (cond half 2 1)

-- not both
abbrev pub Fair : (half whole : Bool) → Type 0
Fair half whole = (half && whole) ≡ false

mult_one : (v : ℕ) → is_multiple v 1 ≡ true
mult_one v = let h : v % 1 ≡ 0 = omega arith in ap (λ n. eqb n 0) h

mult_two : (v : ℕ) (high low : Bool) → v % 4 ≡ lane_by high low → is_multiple v 2 ≡ not low
mult_two v high true h = let e : v % 2 ≡ 1 = by high h in ap (λ n. eqb n 0) e
  where
    by : (high : Bool) → v % 4 ≡ 2 * one_if high + 1 → v % 2 ≡ 1
    by true h = omega arith
    by false h = omega arith
mult_two v high false h = let e : v % 2 ≡ 0 = by high h in ap (λ n. eqb n 0) e
  where
    by : (high : Bool) → v % 4 ≡ 2 * one_if high + 0 → v % 2 ≡ 0
    by true h = omega arith
    by false h = omega arith

mult_four : (v : ℕ) (high low : Bool) → v % 4 ≡ lane_by high low → is_multiple v 4 ≡ not (high || low)
mult_four v true true h = ap (λ n. eqb n 0) h
mult_four v true false h = ap (λ n. eqb n 0) h
mult_four v false true h = ap (λ n. eqb n 0) h
mult_four v false false h = ap (λ n. eqb n 0) h

pub multiple_is : (fence store half whole unsigned : Bool) (v : ℕ) (high low : Bool) → v % 4 ≡ lane_by high low → Fair half whole
    → is_multiple v (size_of half whole) ≡ not (misaligned_by (record { fence = fence; store = store; half = half; whole = whole; unsigned = unsigned }) high low)
multiple_is fence store true true unsigned v high low h f = absurd (grind arith)
multiple_is fence store false true unsigned v high low h f = mult_four v high low h
multiple_is fence store true false unsigned v high true h f = mult_two v high true h
multiple_is fence store true false unsigned v high false h f = mult_two v high false h
multiple_is fence store false false unsigned v high low h f = mult_one v

-- ---- signs
sign_byte : (n : ℕ) → n < 2 ^ 8 → (b : Bool) → bit n 7 ≡ b → join_of 8 (cond b 0xffffff 0) n ≡ extend 8 n
sign_byte n h true e = grind (arith, nat_tests)
sign_byte n h false e = grind (arith, nat_tests)

sign_half : (n : ℕ) → n < 2 ^ 16 → (b : Bool) → bit n 15 ≡ b → join_of 16 (cond b 0xffff 0) n ≡ extend 16 n
sign_half n h true e = grind (arith, nat_tests)
sign_half n h false e = grind (arith, nat_tests)

byte_below : (high low : Bool) (d : ℕ) → byte_in high low d < 2 ^ 8
byte_below true true d = omega arith
byte_below true false d = omega arith
byte_below false true d = omega arith
byte_below false false d = omega arith

half_below : (high : Bool) (d : ℕ) → half_in high d < 2 ^ 16
half_below true d = omega arith
half_below false d = omega arith

-- the value of a load
loaded_by : (word lane size : ℕ) (is_signed : Bool) → ℕ
loaded_by word lane size is_signed = cond is_signed (extend (8 * size) (part_of word lane size)) (part_of word lane size)

byte_part : (high low : Bool) (d : ℕ) → byte_in high low d ≡ part_of d (lane_by high low) 1
byte_part true true d = refl
byte_part true false d = refl
byte_part false true d = refl
byte_part false false d = refl

half_part : (high : Bool) (d : ℕ) → half_in high d ≡ part_of d (lane_by high false) 2
half_part true d = refl
half_part false d = refl

plain_byte : (n : ℕ) → join_of 8 0 n ≡ n
plain_byte n = omega arith

plain_half : (n : ℕ) → join_of 16 0 n ≡ n
plain_half n = omega arith

byte_value : (unsigned high low : Bool) (d : ℕ) → byte_extended unsigned (byte_in high low d) ≡ loaded_by d (lane_by high low) 1 (not unsigned)
unfolding loaded_by
byte_value true high low d = plain_byte (byte_in high low d) ∙ byte_part high low d
byte_value false high low d = sign_byte (byte_in high low d) (byte_below high low d) (bit (byte_in high low d) 7) refl ∙ ap (extend 8) (byte_part high low d)

half_value : (unsigned high : Bool) (d : ℕ) → half_extended unsigned (half_in high d) ≡ loaded_by d (lane_by high false) 2 (not unsigned)
unfolding loaded_by
half_value true high d = plain_half (half_in high d) ∙ half_part high d
half_value false high d = sign_half (half_in high d) (half_below high d) (bit (half_in high d) 15) refl ∙ ap (extend 16) (half_part high d)

whole_value : (d : ℕ) → d < 2 ^ 32 → d ≡ part_of d 0 4
whole_value d h = let e : d / 1 % 2 ^ 32 ≡ d = omega arith in sym e

pub value_is : (fence store half whole unsigned : Bool) (v d : ℕ) (high low : Bool) → v % 4 ≡ lane_by high low → Fair half whole → d < 2 ^ 32
    → misaligned_by (record { fence = fence; store = store; half = half; whole = whole; unsigned = unsigned }) high low ≡ false
    → value_by (record { fence = fence; store = store; half = half; whole = whole; unsigned = unsigned }) high low d ≡ loaded d v (size_of half whole) (not unsigned && not whole)
unfolding loaded_by
value_is fence store true true unsigned v d high low h f l m = absurd (grind arith)
value_is fence store false true unsigned v d true low h f l m = absurd (grind arith)
value_is fence store false true unsigned v d false true h f l m = absurd (grind arith)
value_is fence store false true true v d false false h f l m = whole_value d l ∙ (λ i. loaded_by d (sym h i) 4 false)
value_is fence store false true false v d false false h f l m = whole_value d l ∙ (λ i. loaded_by d (sym h i) 4 false)
value_is fence store true false unsigned v d high true h f l m = absurd (grind arith)
value_is fence store true false true v d high false h f l m = half_value true high d ∙ (λ i. loaded_by d (sym h i) 2 false)
value_is fence store true false false v d high false h f l m = half_value false high d ∙ (λ i. loaded_by d (sym h i) 2 true)
value_is fence store false false true v d high low h f l m = byte_value true high low d ∙ (λ i. loaded_by d (sym h i) 1 false)
value_is fence store false false false v d high low h f l m = byte_value false high low d ∙ (λ i. loaded_by d (sym h i) 1 true)

-- ---- stores
aligned_twice : (a : ℕ) → aligned_of (aligned_of a) ≡ aligned_of a
aligned_twice a = omega arith

made_by : (v lane size value : ℕ) → Store
made_by v lane size value = store_of v (value * 2 ^ (8 * lane)) ((2 ^ size - 1) * 2 ^ lane)

lane_same : (x y m k : ℕ) → bits_of x (8 * k + 7) (8 * k) ≡ bits_of y (8 * k + 7) (8 * k) → lane_of x m k ≡ lane_of y m k
lane_same x y m k h = ap (λ n. bits_of m k k * (n * 2 ^ (8 * k))) h

none_times : (x y : ℕ) → 0 * x ≡ 0 * y
none_times x y = omega arith

lane_off : (x y m k : ℕ) → bits_of m k k ≡ 0 → lane_of x m k ≡ lane_of y m k
lane_off x y m k h = ap (λ n. n * (bits_of x (8 * k + 7) (8 * k) * 2 ^ (8 * k))) h ∙ none_times _ _ ∙ sym (ap (λ n. n * (bits_of y (8 * k + 7) (8 * k) * 2 ^ (8 * k))) h)

store_same : (v x y m : ℕ) → lane_of x m 0 ≡ lane_of y m 0 → lane_of x m 1 ≡ lane_of y m 1 → lane_of x m 2 ≡ lane_of y m 2 → lane_of x m 3 ≡ lane_of y m 3 → store_of (aligned_of v) x m ≡ store_of v y m
store_same v x y m a b c d = λ i. record { addr = aligned_twice v i; value = a i + b i + c i + d i; mask = m }

byte_lane : (high low : Bool) (v b : ℕ) → store_of (aligned_of v) (byte_spread b) (cond high (cond low 8 4) (cond low 2 1)) ≡ made_by v (lane_by high low) 1 (b % 2 ^ 8)
unfolding made_by
byte_lane true true v b =
    let x = byte_spread b in let y = b % 2 ^ 8 * 2 ^ 24 in
    let e : bits_of x 31 24 ≡ bits_of y 31 24 = omega arith in
    store_same v x y 8 (lane_off x y 8 0 refl) (lane_off x y 8 1 refl) (lane_off x y 8 2 refl) (lane_same x y 8 3 e)
byte_lane true false v b =
    let x = byte_spread b in let y = b % 2 ^ 8 * 2 ^ 16 in
    let e : bits_of x 23 16 ≡ bits_of y 23 16 = omega arith in
    store_same v x y 4 (lane_off x y 4 0 refl) (lane_off x y 4 1 refl) (lane_same x y 4 2 e) (lane_off x y 4 3 refl)
byte_lane false true v b =
    let x = byte_spread b in let y = b % 2 ^ 8 * 2 ^ 8 in
    let e : bits_of x 15 8 ≡ bits_of y 15 8 = omega arith in
    store_same v x y 2 (lane_off x y 2 0 refl) (lane_same x y 2 1 e) (lane_off x y 2 2 refl) (lane_off x y 2 3 refl)
byte_lane false false v b =
    let x = byte_spread b in let y = b % 2 ^ 8 * 1 in
    let e : bits_of x 7 0 ≡ bits_of y 7 0 = omega arith in
    store_same v x y 1 (lane_same x y 1 0 e) (lane_off x y 1 1 refl) (lane_off x y 1 2 refl) (lane_off x y 1 3 refl)

half_lane : (high : Bool) (v b : ℕ) → store_of (aligned_of v) (half_spread b) (cond high 12 3) ≡ made_by v (lane_by high false) 2 (b % 2 ^ 16)
unfolding made_by
half_lane true v b =
    let x = half_spread b in let y = b % 2 ^ 16 * 2 ^ 16 in
    let e : bits_of x 23 16 ≡ bits_of y 23 16 = omega arith in
    let f : bits_of x 31 24 ≡ bits_of y 31 24 = omega arith in
    store_same v x y 12 (lane_off x y 12 0 refl) (lane_off x y 12 1 refl) (lane_same x y 12 2 e) (lane_same x y 12 3 f)
half_lane false v b =
    let x = half_spread b in let y = b % 2 ^ 16 * 1 in
    let e : bits_of x 7 0 ≡ bits_of y 7 0 = omega arith in
    let f : bits_of x 15 8 ≡ bits_of y 15 8 = omega arith in
    store_same v x y 3 (lane_same x y 3 0 e) (lane_same x y 3 1 f) (lane_off x y 3 2 refl) (lane_off x y 3 3 refl)

whole_lane : (v b : ℕ) → store_of (aligned_of v) b 15 ≡ made_by v 0 4 (b % 2 ^ 32)
unfolding made_by
whole_lane v b =
    let y = b % 2 ^ 32 * 1 in
    let e0 : bits_of b 7 0 ≡ bits_of y 7 0 = omega arith in
    let e1 : bits_of b 15 8 ≡ bits_of y 15 8 = omega arith in
    let e2 : bits_of b 23 16 ≡ bits_of y 23 16 = omega arith in
    let e3 : bits_of b 31 24 ≡ bits_of y 31 24 = omega arith in
    store_same v b y 15 (lane_same b y 15 0 e0) (lane_same b y 15 1 e1) (lane_same b y 15 2 e2) (lane_same b y 15 3 e3)

-- the command's store is the row's
pub store_is : (fence half whole unsigned : Bool) (v b : ℕ) (high low : Bool) → v % 4 ≡ lane_by high low → Fair half whole
    → misaligned_by (record { fence = fence; store = true; half = half; whole = whole; unsigned = unsigned }) high low ≡ false
    → store_of (aligned_of v) (spread_by (record { fence = fence; store = true; half = half; whole = whole; unsigned = unsigned }) b) (lanes_by (record { fence = fence; store = true; half = half; whole = whole; unsigned = unsigned }) high low)
    ≡ store_made v (size_of half whole) (b % 2 ^ (8 * size_of half whole))
unfolding made_by
store_is fence true true unsigned v b high low h f m = absurd (grind arith)
store_is fence false true unsigned v b true low h f m = absurd (grind arith)
store_is fence false true unsigned v b false true h f m = absurd (grind arith)
store_is fence false true unsigned v b false false h f m = whole_lane v b ∙ (λ i. made_by v (sym h i) 4 (b % 2 ^ 32))
store_is fence true false unsigned v b high true h f m = absurd (grind arith)
store_is fence true false unsigned v b high false h f m = half_lane high v b ∙ (λ i. made_by v (sym h i) 2 (b % 2 ^ 16))
store_is fence false false unsigned v b high low h f m = byte_lane high low v b ∙ (λ i. made_by v (sym h i) 1 (b % 2 ^ 8))

pub lanes_are : (k : Kind) (high low : Bool) → is_write_mask (lanes_by k high low) ≡ true
lanes_are k high low = by k.whole k.half high low
  where
    by : (whole half high low : Bool) → is_write_mask (cond whole 15 (cond half (cond high 12 3) (cond high (cond low 8 4) (cond low 2 1)))) ≡ true
    by true half high low = refl
    by false true true low = refl
    by false true false low = refl
    by false false true true = refl
    by false false true false = refl
    by false false false true = refl
    by false false false false = refl

-- ---- words of memory
read_at : (d : ℕ) (xs : List ℕ) (i : ℕ) → All (λ b. b < 2 ^ 8) xs → get_or xs i 0 < 2 ^ 8
read_at d [] i h = omega arith
read_at d (x ∷ xs) zero h = h 0 0 (omega arith)
read_at d (x ∷ xs) (suc i) h = read_at d xs i (λ k e lt. h (suc k) e (omega arith))

some_word : (x y : ℕ) → Some x ≡ Some y → x ≡ y
some_word x y e = cc

pub word_fits : (m : Memory) (a w : ℕ) → IsMemory m → word_at m a ≡ Some w → w < 2 ^ 32
unfolding word_at
word_fits m a w is h = by (is_inside m a) h
  where
    by : (b : Bool) → elim b [ true ↦ Some (byte_at m a 0 + byte_at m a 1 * 2 ^ 8 + byte_at m a 2 * 2 ^ 16 + byte_at m a 3 * 2 ^ 24) | false ↦ None ] ≡ Some w → w < 2 ^ 32
    by true e =
        let s : byte_at m a 0 + byte_at m a 1 * 2 ^ 8 + byte_at m a 2 * 2 ^ 16 + byte_at m a 3 * 2 ^ 24 ≡ w = some_word _ w e in
        let b0 : byte_at m a 0 < 2 ^ 8 = read_at 0 m.bytes _ is.fits in
        let b1 : byte_at m a 1 < 2 ^ 8 = read_at 0 m.bytes _ is.fits in
        let b2 : byte_at m a 2 < 2 ^ 8 = read_at 0 m.bytes _ is.fits in
        let b3 : byte_at m a 3 < 2 ^ 8 = read_at 0 m.bytes _ is.fits in
        subst (λ n. n < 2 ^ 32) s (omega arith)
    by false e = absurd (grind arith)

-- the word at a word's address
word_over : Memory → (x : ℕ) → Option ℕ
word_over m x = elim (leb m.base x && leb (x + 4) (m.base + length m.bytes)) [
  | true ↦ Some (get_or m.bytes (x + 0 - m.base) 0 + get_or m.bytes (x + 1 - m.base) 0 * 2 ^ 8 + get_or m.bytes (x + 2 - m.base) 0 * 2 ^ 16 + get_or m.bytes (x + 3 - m.base) 0 * 2 ^ 24)
  | false ↦ None
]

pub word_aligned : (m : Memory) (a : ℕ) → word_at m (aligned_of a) ≡ word_at m a
unfolding word_at word_over
word_aligned m a = λ i. word_over m (aligned_twice a i)

pub window_aligned : (a : ℕ) → is_window (aligned_of a) ≡ is_window a
window_aligned a = let e : a / 4 * 4 / 16 ≡ a / 16 = omega arith in ap (λ n. eqb n 0xf000000) e

pub same_block : (a : ℕ) → aligned_of a / 64 ≡ a / 64
same_block a = omega arith

pub aligned_whole : (a : ℕ) → aligned_of a % 4 ≡ 0
aligned_whole a = omega arith
