-- The host of two texts as contracts see it, and what its calls do to it.
use Rattle.std.specs.Prelude.{◌≡◌, ◌<◌, ℕ, List, [], length}
use Rattle.core_host.specs.declared.host.Port.{Port}
use Rattle.core_host.specs.declared.host.Port.TheVariants.{Main, Notes}
use Rattle.core_host.specs.Outside.{Files}
use Rattle.core_host.specs.Memory.{one_more}

-- the texts on the two ports, the room of each, and the counts of faults
pub record Texts : Type 0 where
  pub main : List ℕ
  pub notes : List ℕ
  pub room : ℕ
  pub read_faults : ℕ
  pub write_faults : ℕ

-- its files
abbrev pub no_files : Files
no_files = []

-- nothing was pushed, and no call has failed
abbrev pub fresh : ℕ → Texts
fresh room = record { main = []; notes = []; room = room; read_faults = 0; write_faults = 0 }

-- the bytes pushed on a port
abbrev pub text_on : Texts → Port → List ℕ
text_on t Main = t.main
text_on t Notes = t.notes

-- while no port is full, no push has failed
abbrev pub FailsWhenFull : Texts → Type 0
FailsWhenFull t = length t.main < t.room → length t.notes < t.room → t.write_faults ≡ 0

-- after a failure to read
abbrev pub read_failed : Texts → Texts
read_failed t = record t { read_faults = one_more t.read_faults }

-- after a failure to write
abbrev pub write_failed : Texts → Texts
write_failed t = record t { write_faults = one_more t.write_faults }
