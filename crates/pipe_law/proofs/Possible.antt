-- What stays so whatever the machine does.
use Rattle.std.proofs.Common.{◌≡◌, ℕ, ◌%◌, [], ◌∷◌, inl}
use Rattle.isa_csr.specs.Csrs.{Csrs, IsCsrs, trap_entry}
use Rattle.isa_model.specs.Machine.{Fetched, Machine}
use Rattle.isa_model.specs.Run.{FetchedFrom, History, Possible, now}

-- what memory holds after a history is possible
pub possible_now : (start : Machine) (past : History) (pc : ℕ) (f : Fetched) → FetchedFrom (now start past).memory pc f → Possible start past pc f
possible_now start [] pc f g = g
possible_now start (e ∷ past) pc f g = inl g

-- a trap's entry keeps the rules of CSRs
pub entered : (c : Csrs) (pc cause tval : ℕ) → pc % 4 ≡ 0 → IsCsrs c → IsCsrs (trap_entry c pc cause tval)
entered c pc cause tval w k = record { mtvec = k.mtvec; mepc = w }
