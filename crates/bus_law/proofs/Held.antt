-- The bytes of memory by place, and what a write leaves of the rules of a memory.
use Rattle.std.proofs.Common.{◌≡◌, ℕ, ◌+◌, ◌-◌, ◌*◌, ◌^◌, ◌<◌, Bool, true, false, cond, eqb, List, length, set, Some, None, All, refl, ◌∙◌, arith}
use Rattle.std.proofs.lemmas.List.{length-set}
use Rattle.std.proofs.lemmas.List.Elements.{All-set}
use Rattle.core_words.specs.Values.{bits_of}
use Rattle.bus_law.specs.Memory.{Memory, IsMemory, aligned_of, is_inside, word_at, written}
use Rattle.bus_law.specs.Lanes.{lanes_at, lane_put, lanes_put}

module _ (m : Memory) (a : ℕ) where
  pub word_at-outside : is_inside m a ≡ false → word_at m a ≡ None
  unfolding word_at
  word_at-outside e = rw (word_at, e)

  place : (at k : ℕ) → m.base + at ≡ aligned_of a → aligned_of a + k - m.base ≡ at + k
  place at k e = omega arith

  place_0 : (at : ℕ) → m.base + at ≡ aligned_of a → aligned_of a + 0 - m.base ≡ at
  place_0 at e = omega arith

  pub word_at-inside : (at : ℕ) → is_inside m a ≡ true → m.base + at ≡ aligned_of a → word_at m a ≡ Some (lanes_at m.bytes at)
  unfolding word_at
  word_at-inside at e p = rw (word_at, e, place_0 at p, place at 1 p, place at 2 p, place at 3 p)

  module _ (value mask : ℕ) where
    pub written-outside : is_inside m a ≡ false → written m a value mask ≡ m
    unfolding written
    written-outside e = rw (written, e)

    pub written-inside : (at : ℕ) → is_inside m a ≡ true → m.base + at ≡ aligned_of a → written m a value mask ≡ record { base = m.base; bytes = lanes_put at value mask m.bytes }
    unfolding written
    written-inside at e p = rw (written, e, place_0 at p, place at 1 p, place at 2 p, place at 3 p)

abbrev pub IsByte : ℕ → Type 0
IsByte b = b < 2 ^ 8

abbrev pub memory_of : ℕ → List ℕ → Memory
memory_of base bytes = record { base = base; bytes = bytes }

-- other bytes of the same number at the same place
pub refilled : (m : Memory) (bytes : List ℕ) → IsMemory m → length bytes ≡ length m.bytes → All IsByte bytes → IsMemory (record { base = m.base; bytes = bytes })
refilled m bytes h e f = record {
  aligned = h.aligned;
  whole = rw e h.whole;
  least = rw e h.least;
  most = rw e h.most;
  ends = rw e h.ends;
  apart = rw e h.apart;
  fits = f;
}

length-lane_put : (at value mask k : ℕ) (bytes : List ℕ) → length (lane_put at value mask k bytes) ≡ length bytes
length-lane_put at value mask k bytes = go (eqb (bits_of mask k k) 1)
  where
    go : (b : Bool) → length (cond b (set bytes at (bits_of value (8 * k + 7) (8 * k))) bytes) ≡ length bytes
    go true = length-set bytes at (bits_of value (8 * k + 7) (8 * k))
    go false = refl

pub length-lanes_put : (at value mask : ℕ) (bytes : List ℕ) → length (lanes_put at value mask bytes) ≡ length bytes
length-lanes_put at value mask bytes =
    length-lane_put (at + 3) value mask 3 _ ∙ length-lane_put (at + 2) value mask 2 _ ∙ length-lane_put (at + 1) value mask 1 _ ∙ length-lane_put at value mask 0 bytes

All-lane_put : (at value mask k : ℕ) (bytes : List ℕ) → bits_of value (8 * k + 7) (8 * k) < 2 ^ 8 → All IsByte bytes → All IsByte (lane_put at value mask k bytes)
All-lane_put at value mask k bytes h f = go (eqb (bits_of mask k k) 1)
  where
    go : (b : Bool) → All IsByte (cond b (set bytes at (bits_of value (8 * k + 7) (8 * k))) bytes)
    go true = All-set IsByte bytes at (bits_of value (8 * k + 7) (8 * k)) h f
    go false = f

pub All-lanes_put : (at value mask : ℕ) (bytes : List ℕ) → All IsByte bytes → All IsByte (lanes_put at value mask bytes)
All-lanes_put at value mask bytes f =
    All-lane_put (at + 3) value mask 3 _ (omega arith) (All-lane_put (at + 2) value mask 2 _ (omega arith)
    (All-lane_put (at + 1) value mask 1 _ (omega arith) (All-lane_put at value mask 0 bytes (omega arith) f)))
