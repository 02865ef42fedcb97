-- Memory as a base address and bytes, and the host window of 16 bytes at f0000000.
-- On a bus an address counts with its low two bits cleared.
use Rattle.std.specs.Prelude.{◌≡◌, ℕ, ◌+◌, ◌-◌, ◌*◌, ◌/◌, ◌%◌, ◌^◌, ◌<◌, ◌≤◌, Bool, true, false, cond, eqb, leb, List, ◌&&◌, ◌⊎◌, length, get_or, set, Option, Some, None, All}
use Rattle.core_words.specs.Values.{bits_of}

pub record Memory : Type 0 where
  pub base : ℕ
  pub bytes : List ℕ

-- the memories of a system: whole words at an aligned place below 2 ^ 32, at least one and at most 16 MiB, with no byte in the window
pub record IsMemory (m : Memory) : Type 0 where
  pub aligned : m.base % 4 ≡ 0
  pub whole : length m.bytes % 4 ≡ 0
  pub least : 4 ≤ length m.bytes
  pub most : length m.bytes ≤ 2 ^ 24
  pub ends : m.base + length m.bytes ≤ 2 ^ 32
  pub apart : (m.base + length m.bytes ≤ 0xf0000000) ⊎ (0xf0000010 ≤ m.base)
  pub fits : All (λ b. b < 2 ^ 8) m.bytes

-- an address with its low two bits cleared
abbrev pub aligned_of : ℕ → ℕ
aligned_of a = a / 4 * 4

-- the four bytes at an address lie in memory
abbrev pub is_inside : Memory → ℕ → Bool
is_inside m a = leb m.base (aligned_of a) && leb (aligned_of a + 4) (m.base + length m.bytes)

abbrev pub is_window : ℕ → Bool
is_window a = eqb (a / 16) 0xf000000

-- the byte in lane k, from 0 to 3, of the word at an address
abbrev pub byte_at : Memory → (a k : ℕ) → ℕ
byte_at m a k = get_or m.bytes (aligned_of a + k - m.base) 0

-- the word at an address, the byte in lane 0 lowest; none outside memory
unfoldable pub word_at : Memory → ℕ → Option ℕ
word_at m a = elim (is_inside m a) [ true ↦ Some (byte_at m a 0 + byte_at m a 1 * 2 ^ 8 + byte_at m a 2 * 2 ^ 16 + byte_at m a 3 * 2 ^ 24) | false ↦ None ]

-- a write puts the bytes of the lanes whose bit is 1 in the mask
abbrev pub put_lane : Memory → (a value mask k : ℕ) → List ℕ → List ℕ
put_lane m a value mask k bytes = cond (eqb (bits_of mask k k) 1) (set bytes (aligned_of a + k - m.base) (bits_of value (8 * k + 7) (8 * k))) bytes

-- the memory after a write; a write outside changes nothing
unfoldable pub written : Memory → (a value mask : ℕ) → Memory
written m a value mask = elim (is_inside m a) [
  | false ↦ m
  | true ↦ record { base = m.base; bytes = put_lane m a value mask 3 (put_lane m a value mask 2 (put_lane m a value mask 1 (put_lane m a value mask 0 m.bytes))) }
]

-- a write of the data bus, as `store_of` makes it: an aligned address, a word whose lanes outside the mask are 0,
-- and a mask of four bits
pub record Store : Type 0 where
  pub addr : ℕ
  pub value : ℕ
  pub mask : ℕ

-- one lane of a word: 0 where the mask leaves it out
abbrev pub lane_of : (value mask k : ℕ) → ℕ
lane_of value mask k = bits_of mask k k * (bits_of value (8 * k + 7) (8 * k) * 2 ^ (8 * k))

-- the store that a write command makes: the core may put any bits in the lanes outside the mask
abbrev pub store_of : (addr value mask : ℕ) → Store
store_of addr value mask = record {
  addr = aligned_of addr;
  value = lane_of value mask 0 + lane_of value mask 1 + lane_of value mask 2 + lane_of value mask 3;
  mask = mask;
}

abbrev pub with_store : Memory → Option Store → Memory
with_store m None = m
with_store m (Some s) = written m s.addr s.value s.mask
