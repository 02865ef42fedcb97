-- The unit of FENCE.I, and its law.
use Rattle.std.specs.Prelude.{◌≡◌, ℕ, suc, true, false}
use Rattle.core_ports.specs.Trace.{Bus}
use Rattle.bus_law.specs.Memory.{Memory}
use Rattle.isa_csr.specs.Csrs.{Csrs}
use Rattle.isa_model.specs.Machine.{Set}
use Rattle.isa_model.specs.Effects.{Moment, behind}
use Rattle.plug_law.specs.Table.{table_of}
use Rattle.plug_law.specs.Exec.{ExecSignals, Terms, ExecLaw}

-- it is done at once, goes on behind itself, never traps, and says fence
pub record IsFencing (e : ExecSignals) : Type 0 where
  pub done : (s : ℕ) → e.done (suc s) ≡ e.go (suc s)
  pub next_pc : (s : ℕ) → e.next_pc (suc s) ≡ behind (e.pc (suc s))
  pub trap : (s : ℕ) → e.trap (suc s) ≡ false
  pub fence : (s : ℕ) → e.fence (suc s) ≡ e.go (suc s)

-- row 40 is FENCE.I
abbrev pub FenceiKeepsLaw : Type 0
FenceiKeepsLaw =
    (set : Set) (x : Terms) (e : ExecSignals) (db : Bus) (mem : ℕ → Memory) (csrs : ℕ → Csrs) (moments : ℕ → Moment)
    → x.table ≡ table_of set → ((number : ℕ) → x.claims number ≡ true → number ≡ 40) → x.holds ≡ false
    → IsFencing e → ExecLaw x e db mem csrs moments
