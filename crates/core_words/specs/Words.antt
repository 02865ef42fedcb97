-- 32-bit words as four bytes, the lowest first.
use Rattle.std.specs.Prelude.{ℕ, ◌+◌, ◌*◌, ◌^◌, List, [], ◌∷◌, slice_index}
use Rattle.core_words.specs.Values.{bits_of}

-- the word in the four bytes from a place on
abbrev pub word_from : (bytes : List ℕ) (at : ℕ) → ℕ
word_from bytes at = slice_index bytes at + slice_index bytes (at + 1) * 2 ^ 8 + slice_index bytes (at + 2) * 2 ^ 16 + slice_index bytes (at + 3) * 2 ^ 24

-- the four bytes of a word
abbrev pub le_bytes : ℕ → List ℕ
le_bytes word = bits_of word 7 0 ∷ bits_of word 15 8 ∷ bits_of word 23 16 ∷ bits_of word 31 24 ∷ []
