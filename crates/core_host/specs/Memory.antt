-- The host in memory as contracts see it, and what its calls do to it.
use Rattle.std.specs.Prelude.{◌≡◌, ◌<◌, ◌+◌, ◌-◌, ◌^◌, ℕ, min, List, [], ◌∷◌, length, drop, get_or, Option, None, Some, option_map, Bool, true, false, if◌then◌else◌, nat_eq}
use Rattle.std.specs.List.{list_any}
use Rattle.std.specs.Cmp.Lexicographic.{pointwise}
use Rattle.core_host.specs.declared.host.Port.{Port}
use Rattle.core_host.specs.declared.host.Port.TheVariants.{Main, Notes}
use Rattle.core_host.specs.declared.memory.MemFile.{MemFile}
use Rattle.core_host.specs.Outside.{Files}

-- the files, which of them were given a number and how many bytes of each were pulled since, the two ports, and the rules and counts of the calls
pub record Memory : Type 0 where
  pub files : List MemFile
  pub given : List Bool
  pub taken : List ℕ
  pub main : List ℕ
  pub notes : List ℕ
  pub fails : List ℕ
  pub bite : ℕ
  pub room : ℕ
  pub calls : ℕ
  pub read_faults : ℕ
  pub write_faults : ℕ

-- what stands where there is no file
abbrev pub no_file : MemFile
no_file = record { name = []; bytes = [] }

-- the files as pairs
abbrev pub pairs : List MemFile → Files
pairs [] = []
pairs (f ∷ fs) = (f.name, f.bytes) ∷ pairs fs

-- the place of the first file of that name
abbrev pub place : List ℕ → List MemFile → Option ℕ
place name [] = None
place name (f ∷ fs) = if pointwise nat_eq f.name name then Some 0 else option_map (λ n. n + 1) (place name fs)

-- a file of this number was found
abbrev pub IsGiven : Memory → ℕ → Type 0
IsGiven m n = (n < length m.files) × (get_or m.given n false ≡ true)

-- the bytes of a file that were not yet pulled since it was last found
abbrev pub left_in : Memory → ℕ → List ℕ
left_in m n = drop (get_or m.taken n 0) (get_or m.files n no_file).bytes

-- the name of the file of this number
abbrev pub name_in : Memory → ℕ → Option (List ℕ)
name_in m n = Some (get_or m.files n no_file).name

-- the bytes pushed on a port
abbrev pub text_on : Memory → Port → List ℕ
text_on m Main = m.main
text_on m Notes = m.notes

-- the number of the next call: calls are counted from 1, and the count stops at 2 ^ 32
abbrev pub next_call : Memory → ℕ
next_call m = min (m.calls + 1) (2 ^ 32)

-- the next call is to fail, since its number is listed
abbrev pub is_to_fail : Memory → Bool
is_to_fail m = list_any (λ n. nat_eq n (next_call m)) m.fails

-- a count of faults after one fault more
abbrev pub one_more : ℕ → ℕ
one_more n = min (n + 1) (2 ^ 64 - 1)

-- after a call that changed nothing else
abbrev pub called : Memory → Memory
called m = record m { calls = next_call m }

-- after a call that failed to read
abbrev pub read_failed : Memory → Memory
read_failed m = record m { calls = next_call m; read_faults = one_more m.read_faults }

-- after a call that failed to write
abbrev pub write_failed : Memory → Memory
write_failed m = record m { calls = next_call m; write_faults = one_more m.write_faults }

-- how many bytes are moved, of those asked for and those there; a bite of 0 sets no limit
abbrev pub moved_count : ℕ → ℕ → ℕ → ℕ
moved_count asked there bite = if nat_eq bite 0 then min asked there else min (min asked there) bite

-- a host on which no call was made
pub record IsFresh (files : List MemFile) (fails : List ℕ) (bite room : ℕ) (m : Memory) : Type 0 where
  pub same_files : m.files ≡ files
  pub none_given : (n : ℕ) → ¬ IsGiven m n
  pub main : m.main ≡ []
  pub notes : m.notes ≡ []
  pub same_fails : m.fails ≡ fails
  pub same_bite : m.bite ≡ bite
  pub same_room : m.room ≡ room
  pub calls : m.calls ≡ 0
  pub reads : m.read_faults ≡ 0
  pub writes : m.write_faults ≡ 0
