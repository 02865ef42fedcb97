-- Units that are done in the cycle in which they are given an instruction, and have no bus.
use Rattle.std.specs.Prelude.{◌≡◌, ℕ, suc, true, false, Some, None}
use Rattle.core_ports.specs.Trace.{Bus}
use Rattle.bus_law.specs.Memory.{Memory}
use Rattle.isa_csr.specs.Csrs.{Csrs}
use Rattle.isa_model.specs.Effects.{Moment, write_of}
use Rattle.isa_model.specs.Run.{is_fence_word}
use Rattle.plug_law.specs.Exec.{ExecSignals, Terms, ExecLaw, Shows, effect_at}

-- its outputs are those of the instruction's effect, which writes no memory
pub record IsAtOnce (x : Terms) (e : ExecSignals) (mem : ℕ → Memory) (csrs : ℕ → Csrs) (moments : ℕ → Moment) : Type 0 where
  pub at_once : (s : ℕ) → e.done (suc s) ≡ e.go (suc s)
  pub shows : (s : ℕ) → e.go (suc s) ≡ true → x.claims (e.row (suc s)) ≡ true → x.table.row_of (e.word (suc s)) ≡ Some (e.row (suc s))
      → Shows (effect_at x.table e mem csrs moments (suc s)) (e.value (suc s)) (e.next_pc (suc s)) (e.cause (suc s)) (e.tval (suc s)) (e.trap (suc s))
      × (e.fence (suc s) ≡ is_fence_word (e.word (suc s))) × (write_of (effect_at x.table e mem csrs moments (suc s)) ≡ None)

-- it keeps the law of Exec at each latency and in either place
abbrev pub KeepsAtOnce : Type 0
KeepsAtOnce =
    (x : Terms) (e : ExecSignals) (db : Bus) (mem : ℕ → Memory) (csrs : ℕ → Csrs) (moments : ℕ → Moment)
    → x.holds ≡ false → IsAtOnce x e mem csrs moments → ExecLaw x e db mem csrs moments
