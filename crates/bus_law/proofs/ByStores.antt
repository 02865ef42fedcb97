-- A store writes what its command writes: the lanes that the mask leaves out do not count, and the low two bits of the
-- address do not either.
use Rattle.std.proofs.Common.{◌≡◌, ℕ, zero, suc, ◌+◌, ◌-◌, ◌*◌, ◌/◌, ◌%◌, ◌^◌, ◌<◌, Bool, true, false, cond, eqb, leb, ◌&&◌, List, length, set, Some, refl, sym, ap, ◌∙◌, arith}
use Rattle.std.proofs.Math.Path.{ap₂}
use Rattle.std.proofs.Math.Nat.{mul_assoc}
use Rattle.std.proofs.lemmas.Bool.{eqb-true}
use Rattle.core_words.specs.Values.{bits_of}
use Rattle.core_ports.specs.Trace.{Bus}
use Rattle.bus_law.specs.Memory.{Memory, aligned_of, is_inside, written, put_lane, lane_of, store_of, with_store}
use Rattle.bus_law.specs.Protocol.{is_write, memory_at}
use Rattle.bus_law.specs.Prompt.{store_at}

aligned_twice : (a : ℕ) → aligned_of (aligned_of a) ≡ aligned_of a
aligned_twice a = omega arith

-- a lane of a word that the mask has or leaves out
abbrev lane : (value mask k : ℕ) → ℕ
lane value mask k = bits_of mask k k * bits_of value (8 * k + 7) (8 * k)

below : (x v : ℕ) → x < 2 → v < 256 → x * v < 256
below zero v h k = omega arith
below (suc zero) v h k = omega arith
below (suc (suc x)) v h k = absurd (omega arith)

byte_below : (a : ℕ) → a % 2 ^ 8 < 256
byte_below a = omega arith

bit_below : (a : ℕ) → a % 2 ^ 1 < 2
bit_below a = omega arith

times_one : (v : ℕ) → v * 1 ≡ v
times_one v = omega arith

one_times : (v : ℕ) → 1 * v ≡ v
one_times v = omega arith

if_same : (x : ℕ) (p q bytes : List ℕ) → (x ≡ 1 → p ≡ q) → cond (eqb x 1) p bytes ≡ cond (eqb x 1) q bytes
if_same x p q bytes h = go (eqb x 1) refl
  where
    go : (b : Bool) → eqb x 1 ≡ b → cond b p bytes ≡ cond b q bytes
    go true e = h (eqb-true x 1 e)
    go false e = refl

module _ (c0 c1 c2 c3 : ℕ) (h0 : c0 < 256) (h1 : c1 < 256) (h2 : c2 < 256) (h3 : c3 < 256) where
  byte_0 : bits_of (c0 + c1 * 2 ^ 8 + c2 * 2 ^ 16 + c3 * 2 ^ 24) 7 0 ≡ c0
  byte_0 = omega arith

  byte_1 : bits_of (c0 + c1 * 2 ^ 8 + c2 * 2 ^ 16 + c3 * 2 ^ 24) 15 8 ≡ c1
  byte_1 = omega arith

  byte_2 : bits_of (c0 + c1 * 2 ^ 8 + c2 * 2 ^ 16 + c3 * 2 ^ 24) 23 16 ≡ c2
  byte_2 = omega arith

  byte_3 : bits_of (c0 + c1 * 2 ^ 8 + c2 * 2 ^ 16 + c3 * 2 ^ 24) 31 24 ≡ c3
  byte_3 = omega arith

abbrev with_bytes : Memory → List ℕ → Memory
with_bytes m bytes = record { base = m.base; bytes = bytes }

module _ (value mask : ℕ) where
  lane_below_0 : lane value mask 0 < 256
  lane_below_0 = below (bits_of mask 0 0) (bits_of value 7 0) (bit_below (mask / 2 ^ 0)) (byte_below (value / 2 ^ 0))

  lane_below_1 : lane value mask 1 < 256
  lane_below_1 = below (bits_of mask 1 1) (bits_of value 15 8) (bit_below (mask / 2 ^ 1)) (byte_below (value / 2 ^ 8))

  lane_below_2 : lane value mask 2 < 256
  lane_below_2 = below (bits_of mask 2 2) (bits_of value 23 16) (bit_below (mask / 2 ^ 2)) (byte_below (value / 2 ^ 16))

  lane_below_3 : lane value mask 3 < 256
  lane_below_3 = below (bits_of mask 3 3) (bits_of value 31 24) (bit_below (mask / 2 ^ 3)) (byte_below (value / 2 ^ 24))

  abbrev word : ℕ
  word = lane_of value mask 0 + lane_of value mask 1 + lane_of value mask 2 + lane_of value mask 3

  abbrev lanes : ℕ
  lanes = lane value mask 0 + lane value mask 1 * 2 ^ 8 + lane value mask 2 * 2 ^ 16 + lane value mask 3 * 2 ^ 24

  word_is : word ≡ lanes
  word_is =
      ap₂ ◌+◌ (ap₂ ◌+◌ (ap₂ ◌+◌
      (ap (λ v. bits_of mask 0 0 * v) (times_one (bits_of value 7 0)))
      (sym (mul_assoc (bits_of mask 1 1) (bits_of value 15 8) (2 ^ 8))))
      (sym (mul_assoc (bits_of mask 2 2) (bits_of value 23 16) (2 ^ 16))))
      (sym (mul_assoc (bits_of mask 3 3) (bits_of value 31 24) (2 ^ 24)))

  kept_0 : bits_of mask 0 0 ≡ 1 → bits_of word 7 0 ≡ bits_of value 7 0
  kept_0 e =
      ap (λ w. bits_of w 7 0) word_is
      ∙ (byte_0 (lane value mask 0) (lane value mask 1) (lane value mask 2) (lane value mask 3) lane_below_0 lane_below_1 lane_below_2 lane_below_3
      ∙ (ap (λ x. x * bits_of value 7 0) e ∙ one_times (bits_of value 7 0)))

  kept_1 : bits_of mask 1 1 ≡ 1 → bits_of word 15 8 ≡ bits_of value 15 8
  kept_1 e =
      ap (λ w. bits_of w 15 8) word_is
      ∙ (byte_1 (lane value mask 0) (lane value mask 1) (lane value mask 2) (lane value mask 3) lane_below_0 lane_below_1 lane_below_2 lane_below_3
      ∙ (ap (λ x. x * bits_of value 15 8) e ∙ one_times (bits_of value 15 8)))

  kept_2 : bits_of mask 2 2 ≡ 1 → bits_of word 23 16 ≡ bits_of value 23 16
  kept_2 e =
      ap (λ w. bits_of w 23 16) word_is
      ∙ (byte_2 (lane value mask 0) (lane value mask 1) (lane value mask 2) (lane value mask 3) lane_below_0 lane_below_1 lane_below_2 lane_below_3
      ∙ (ap (λ x. x * bits_of value 23 16) e ∙ one_times (bits_of value 23 16)))

  kept_3 : bits_of mask 3 3 ≡ 1 → bits_of word 31 24 ≡ bits_of value 31 24
  kept_3 e =
      ap (λ w. bits_of w 31 24) word_is
      ∙ (byte_3 (lane value mask 0) (lane value mask 1) (lane value mask 2) (lane value mask 3) lane_below_0 lane_below_1 lane_below_2 lane_below_3
      ∙ (ap (λ x. x * bits_of value 31 24) e ∙ one_times (bits_of value 31 24)))

  put_kept : (m : Memory) (a k : ℕ) (bytes : List ℕ) → (bits_of mask k k ≡ 1 → bits_of word (8 * k + 7) (8 * k) ≡ bits_of value (8 * k + 7) (8 * k))
      → put_lane m (aligned_of a) word mask k bytes ≡ put_lane m a value mask k bytes
  put_kept m a k bytes kept =
      ap (λ x. cond (eqb (bits_of mask k k) 1) (set bytes (x + k - m.base) (bits_of word (8 * k + 7) (8 * k))) bytes) (aligned_twice a)
      ∙ if_same (bits_of mask k k) _ _ bytes (λ e. ap (set bytes (aligned_of a + k - m.base)) (kept e))

  puts_kept : (m : Memory) (a : ℕ)
      → put_lane m (aligned_of a) word mask 3 (put_lane m (aligned_of a) word mask 2 (put_lane m (aligned_of a) word mask 1 (put_lane m (aligned_of a) word mask 0 m.bytes)))
      ≡ put_lane m a value mask 3 (put_lane m a value mask 2 (put_lane m a value mask 1 (put_lane m a value mask 0 m.bytes)))
  puts_kept m a =
      put_kept m a 3 _ kept_3
      ∙ ap (put_lane m a value mask 3) (put_kept m a 2 _ kept_2
      ∙ ap (put_lane m a value mask 2) (put_kept m a 1 _ kept_1
      ∙ ap (put_lane m a value mask 1) (put_kept m a 0 m.bytes kept_0)))

inside_aligned : (m : Memory) (a : ℕ) → is_inside m (aligned_of a) ≡ is_inside m a
inside_aligned m a = ap (λ x. leb m.base x && leb (x + 4) (m.base + length m.bytes)) (aligned_twice a)

-- a store writes what the command writes that makes it
pub store_writes : (m : Memory) (a value mask : ℕ) → with_store m (Some (store_of a value mask)) ≡ written m a value mask
unfolding written
store_writes m a value mask =
    ap (λ b. elim b [ true ↦ with_bytes m (puts (aligned_of a) (word value mask)) | false ↦ m ]) (inside_aligned m a)
    ∙ ap (λ bytes. elim (is_inside m a) [ true ↦ with_bytes m bytes | false ↦ m ]) (puts_kept value mask m a)
  where
    puts : (a value : ℕ) → List ℕ
    puts a value = put_lane m a value mask 3 (put_lane m a value mask 2 (put_lane m a value mask 1 (put_lane m a value mask 0 m.bytes)))

pub memory_by_stores : (m : Memory) (db : Bus) (k : ℕ)
    → memory_at m db (suc k) ≡ cond (is_write db k) (with_store (memory_at m db k) (Some (store_at db k))) (memory_at m db k)
unfolding memory_at
memory_by_stores m db k =
    ap (λ n. cond (is_write db k) n (memory_at m db k)) (sym (store_writes (memory_at m db k) (db.cmd_addr k) (db.cmd_data k) (db.cmd_mask k)))
