-- What a search for the nodes that a node leads to has found.
use Rattle.std.specs.Prelude.{◌≡◌, ℕ, ◌+◌, ◌*◌, ◌<◌, ◌≤◌, true, false, not, List, [], ◌∷◌, ◌++◌, length, get_or, set, count_by}
use Rattle.topo_sort.specs.Graph.{Leads}
use Rattle.topo_sort.specs.declared.reach.Reached.{Reached}

abbrev pub IsFound : Reached → ℕ → Type 0
IsFound r x = get_or r.seen.items x false ≡ true

-- they are nodes that the root leads to, and are listed
pub record IsReached (edges : List (List ℕ)) (root : ℕ) (r : Reached) : Type 0 where
  pub led : (x : ℕ) → IsFound r x → Leads edges root x
  pub listed : (x : ℕ) → IsFound r x → (k : ℕ) × ((k < length r.found.items) × (get_or r.found.items k 0 ≡ x))
  pub marked : (k : ℕ) → k < length r.found.items → IsFound r (get_or r.found.items k 0)

-- twice the nodes that are not found, and those that are listed
abbrev pub room : Reached → ℕ
room r = 2 * count_by not r.seen.items + length r.found.items

-- what was found stays
pub record Grows (old new : Reached) : Type 0 where
  pub size : length new.seen.items ≡ length old.seen.items
  pub keeps : (x : ℕ) → IsFound old x → IsFound new x
  pub longer : length old.found.items ≤ length new.found.items
  pub front : (k : ℕ) → k < length old.found.items → get_or new.found.items k 0 ≡ get_or old.found.items k 0
  pub less : room new ≤ room old

-- a node is taken, where it was not found before
pub record Takes (old new : Reached) (node : ℕ) : Type 0 where
  pub again : get_or old.seen.items node false ≡ true → (new.seen.items ≡ old.seen.items) × (new.found.items ≡ old.found.items)
  pub first : get_or old.seen.items node false ≡ false → (new.seen.items ≡ set old.seen.items node true) × (new.found.items ≡ old.found.items ++ (node ∷ []))
