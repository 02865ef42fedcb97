-- The memory of a run keeps the rules of a system's memory, at one place.
use Rattle.std.proofs.Common.{◌≡◌, ℕ, zero, suc, ◌+◌, ◌-◌, ◌≤◌, Bool, true, false, cond, leb, length, refl, ◌∙◌, sym, subst, arith}
use Rattle.std.proofs.lemmas.Bool.{leb-true}
use Rattle.core_ports.specs.Trace.{Bus}
use Rattle.bus_law.specs.Memory.{Memory, IsMemory, aligned_of, is_inside, written}
use Rattle.bus_law.specs.Lanes.{lanes_put}
use Rattle.bus_law.specs.Protocol.{is_write, memory_at}
use Rattle.bus_law.proofs.Held.{written-outside, written-inside, refilled, length-lanes_put, All-lanes_put}
use Rattle.plug_law.specs.Table.{IsMemoryAt}
use Rattle.pipe_law.proofs.Basics.{and_l}

-- one memory of a system at the place of another
pub record IsLike (m0 m : Memory) : Type 0 where
  pub is : IsMemory m
  pub base : m.base ≡ m0.base
  pub size : length m.bytes ≡ length m0.bytes

-- an address by its distance from the base
place_is : (base a : ℕ) → base ≤ a → base + (a - base) ≡ a
place_is base a h = omega arith

-- a write keeps the place, the size and the bytes
like_written : (m0 m : Memory) (a value mask : ℕ) → IsLike m0 m → IsLike m0 (written m a value mask)
like_written m0 m a value mask k = by (is_inside m a) refl
  where
    by : (b : Bool) → is_inside m a ≡ b → IsLike m0 (written m a value mask)
    by false e = subst (IsLike m0) (sym (written-outside m a value mask e)) k
    by true e =
        let at : ℕ = aligned_of a - m.base in
        let p = place_is m.base (aligned_of a) (leb-true m.base (aligned_of a) (and_l (leb m.base (aligned_of a)) (leb (aligned_of a + 4) (m.base + length m.bytes)) e)) in
        subst (IsLike m0) (sym (written-inside m a value mask at e p)) (record {
          is = refilled m (lanes_put at value mask m.bytes) k.is (length-lanes_put at value mask m.bytes) (All-lanes_put at value mask m.bytes k.is.fits);
          base = k.base;
          size = length-lanes_put at value mask m.bytes ∙ k.size;
        })

-- so memory keeps them in each cycle
like_at : (m : Memory) (db : Bus) → IsMemory m → (k : ℕ) → IsLike m (memory_at m db k)
unfolding memory_at
like_at m db h zero = record { is = h; base = refl; size = refl }
like_at m db h (suc k) = by (is_write db k) (like_at m db h k)
  where
    by : (b : Bool) → IsLike m (memory_at m db k) → IsLike m (cond b (written (memory_at m db k) (db.cmd_addr k) (db.cmd_data k) (db.cmd_mask k)) (memory_at m db k))
    by true f = like_written m (memory_at m db k) (db.cmd_addr k) (db.cmd_data k) (db.cmd_mask k) f
    by false f = f

-- as the laws of the parts assume
pub memory_at_is : (m : Memory) (db : Bus) → IsMemory m → (k : ℕ) → IsMemoryAt (memory_at m db) k
unfolding memory_at
memory_at_is m db h k = let f = like_at m db h k in record { is = f.is; base = f.base; size = f.size }
