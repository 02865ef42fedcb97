-- What the unit of loads and stores makes of a word and its operands: the address, the lanes of a store, the value of a load
-- (RISC-V Unprivileged 20191213, 2.6), and the cause of a trap (RISC-V Privileged 20190608, table 3.6).
use Rattle.std.specs.Prelude.{ℕ, ◌+◌, ◌*◌, Bool, cond, not, eqb, ◌&&◌, ◌||◌}
use Rattle.core_words.specs.Values.{one_if, add_of, bits_of, join_of}
use Rattle.core_words.specs.Fields.{imm_i, imm_s}

-- one bit of a number
abbrev pub bit : (v k : ℕ) → Bool
bit v k = eqb (bits_of v k k) 1

-- what the word of a load, a store or a FENCE says; no other bit of it decides. What is neither a half nor a whole word is a byte.
pub record Kind : Type 0 where
  pub fence : Bool
  pub store : Bool
  pub half : Bool
  pub whole : Bool
  pub unsigned : Bool

unfoldable pub kind_of : (word : ℕ) → Kind
kind_of word = record { fence = bit word 2; store = bit word 5; half = bit word 12; whole = bit word 13; unsigned = bit word 14 }

unfoldable pub is_fence : (word : ℕ) → Bool
is_fence word = (kind_of word).fence

unfoldable pub is_store : (word : ℕ) → Bool
is_store word = (kind_of word).store

-- ---- the address

abbrev pub address_by : Kind → (word a : ℕ) → ℕ
address_by k word a = add_of 32 a (cond k.store (imm_s word) (imm_i word))

unfoldable pub address_of : (word a : ℕ) → ℕ
address_of word a = address_by (kind_of word) word a

-- it is no multiple of the size; high and low are its two low bits
abbrev pub misaligned_by : Kind → (high low : Bool) → Bool
misaligned_by k high low = (k.half && low) || (k.whole && (high || low))

unfoldable pub misaligned_at : (word a : ℕ) → Bool
misaligned_at word a = misaligned_by (kind_of word) (bit (address_of word a) 1) (bit (address_of word a) 0)

-- what is done without the bus, in the first cycle
abbrev pub at_once : (word a : ℕ) → Bool
at_once word a = is_fence word || misaligned_at word a

-- 4 and 6 where the address of a load or of a store is misaligned, 5 and 7 where the bus says that nothing is there
abbrev pub cause_by : (store misaligned : Bool) → ℕ
cause_by store misaligned = 4 + 2 * one_if store + one_if (not misaligned)

-- ---- stores

-- the mask: the word, its half or its byte
abbrev pub lanes_by : Kind → (high low : Bool) → ℕ
lanes_by k high low = cond k.whole 15 (cond k.half (cond high 12 3) (cond high (cond low 8 4) (cond low 2 1)))

-- a load has none
abbrev pub mask_by : Kind → (high low : Bool) → ℕ
mask_by k high low = cond k.store (lanes_by k high low) 0

unfoldable pub mask_of : (word a : ℕ) → ℕ
mask_of word a = mask_by (kind_of word) (bit (address_of word a) 1) (bit (address_of word a) 0)

-- the value, in all lanes
abbrev pub byte_spread : (b : ℕ) → ℕ
byte_spread b = join_of 24 (bits_of b 7 0) (join_of 16 (bits_of b 7 0) (join_of 8 (bits_of b 7 0) (bits_of b 7 0)))

abbrev pub half_spread : (b : ℕ) → ℕ
half_spread b = join_of 16 (bits_of b 15 0) (bits_of b 15 0)

abbrev pub spread_by : Kind → (b : ℕ) → ℕ
spread_by k b = cond k.whole b (cond k.half (half_spread b) (byte_spread b))

unfoldable pub spread_of : (word b : ℕ) → ℕ
spread_of word b = spread_by (kind_of word) b

-- ---- loads

-- the byte and the half of the word d at the address
abbrev pub byte_in : (high low : Bool) → (d : ℕ) → ℕ
byte_in high low d = cond high (cond low (bits_of d 31 24) (bits_of d 23 16)) (cond low (bits_of d 15 8) (bits_of d 7 0))

abbrev pub half_in : (high : Bool) → (d : ℕ) → ℕ
half_in high d = cond high (bits_of d 31 16) (bits_of d 15 0)

-- with their signs above, or zeros
abbrev pub byte_extended : (unsigned : Bool) (n : ℕ) → ℕ
byte_extended unsigned n = join_of 8 (cond unsigned 0 (cond (bit n 7) 0xffffff 0)) n

abbrev pub half_extended : (unsigned : Bool) (n : ℕ) → ℕ
half_extended unsigned n = join_of 16 (cond unsigned 0 (cond (bit n 15) 0xffff 0)) n

-- the value from the word at the address
abbrev pub value_by : Kind → (high low : Bool) → (d : ℕ) → ℕ
value_by k high low d = cond k.whole d (cond k.half (half_extended k.unsigned (half_in high d)) (byte_extended k.unsigned (byte_in high low d)))

unfoldable pub value_of : (word a d : ℕ) → ℕ
value_of word a d = value_by (kind_of word) (bit (address_of word a) 1) (bit (address_of word a) 0) d
