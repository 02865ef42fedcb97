-- The four bytes of a word in a list of bytes, the lowest at the place `at`.
use Rattle.std.specs.Prelude.{ℕ, ◌+◌, ◌*◌, ◌^◌, cond, eqb, List, get_or, set}
use Rattle.core_words.specs.Values.{bits_of}

abbrev pub lanes_at : List ℕ → (at : ℕ) → ℕ
lanes_at bytes at = get_or bytes at 0 + get_or bytes (at + 1) 0 * 2 ^ 8 + get_or bytes (at + 2) 0 * 2 ^ 16 + get_or bytes (at + 3) 0 * 2 ^ 24

-- lane k of a word is put where its bit in the mask is 1
abbrev pub lane_put : (at value mask k : ℕ) → List ℕ → List ℕ
lane_put at value mask k bytes = cond (eqb (bits_of mask k k) 1) (set bytes at (bits_of value (8 * k + 7) (8 * k))) bytes

abbrev pub lanes_put : (at value mask : ℕ) → List ℕ → List ℕ
lanes_put at value mask bytes = lane_put (at + 3) value mask 3 (lane_put (at + 2) value mask 2 (lane_put (at + 1) value mask 1 (lane_put at value mask 0 bytes)))
