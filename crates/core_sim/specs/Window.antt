-- What writes to the host window ask for: one to F0000000 adds a byte to the host text, one to F0000004 ends the run. Either
-- counts only where its lowest lane is in its mask.
use Rattle.std.specs.Prelude.{ℕ, ◌%◌, ◌^◌, Bool, cond, eqb, List, [], ◌∷◌, ◌++◌, ◌&&◌, Option, Some, None}
use Rattle.core_words.specs.Values.{bits_of}
use Rattle.bus_law.specs.Memory.{Store}

-- a write is one of the lowest lane at this address
abbrev pub is_for : (addr : ℕ) → Store → Bool
is_for addr w = eqb w.addr addr && eqb (bits_of w.mask 0 0) 1

-- the byte that a write adds to the host text, if it adds one
abbrev pub byte_of : Store → List ℕ
byte_of w = cond (is_for 0xf0000000 w) (w.value % 2 ^ 8 ∷ []) []

-- the bytes that writes add, the latest write first: in the order in which they were accepted
abbrev pub host_bytes : List Store → List ℕ
host_bytes [] = []
host_bytes (w ∷ ws) = host_bytes ws ++ byte_of w

-- the code of the exit that a write asks for, if it asks for one: what is written
abbrev pub code_of : Store → Option ℕ
code_of w = cond (is_for 0xf0000004 w) (Some w.value) None

-- the first code, or else the later one
abbrev pub or_code : (first later : Option ℕ) → Option ℕ
or_code None later = later
or_code (Some code) later = Some code

-- the code of the exit that writes ask for, the latest write first: of several exits that which was accepted first
abbrev pub exit_code : List Store → Option ℕ
exit_code [] = None
exit_code (w ∷ ws) = or_code (exit_code ws) (code_of w)
