use Rattle.std.proofs.Common.{◌≡◌, ◌<◌, ℕ, get_or}
use Rattle.core_host.specs.Memory.{no_file}
use Rattle.core_host.proofs.memory.place_of.Given as goal

-- no file before this one has the name
abbrev pub invariant-loop-i : goal.invariant-loop-i
invariant-loop-i l = (k : ℕ) → k < l.i → ¬ ((get_or l.files.items k no_file).name ≡ l.name)
