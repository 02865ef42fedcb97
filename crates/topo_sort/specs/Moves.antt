-- The steps of a search.
use Rattle.std.specs.Prelude.{◌≡◌, ℕ, ◌+◌, ◌-◌, ◌<◌, ◌≤◌, List, [], ◌∷◌, ◌++◌, length, get_or, set}
use Rattle.topo_sort.specs.Graph.{needs, need}
use Rattle.topo_sort.specs.Ranks.{ranks, IsSeen}
use Rattle.topo_sort.specs.Search.{IsSearch, work}
use Rattle.topo_sort.specs.declared.search.Search.{Search}
use Rattle.topo_sort.specs.declared.step.Step.{Step}
use Rattle.topo_sort.specs.declared.step.Step.TheVariants.{Leave, Enter, Close, Pass}

-- the last node of a path
pub record IsTop (path : List ℕ) (top : ℕ) : Type 0 where
  pub some : 0 < length path
  pub last : get_or path (length path - 1) 0 ≡ top

-- a node's next need
pub record IsNext (edges : List (List ℕ)) (done : List ℕ) (top need : ℕ) : Type 0 where
  pub more : get_or done top 0 < length (needs edges top)
  pub same : get_or (needs edges top) (get_or done top 0) 0 ≡ need

abbrev pub IsStep : (edges : List (List ℕ)) (ranks done : List ℕ) (top : ℕ) → Step → Type 0
IsStep edges ranks done top Leave = length (needs edges top) ≤ get_or done top 0
IsStep edges ranks done top (Enter d) = IsNext edges done top d × (get_or ranks d 0 ≡ 0)
IsStep edges ranks done top (Close d) = IsNext edges done top d × (get_or ranks d 0 ≡ 1)
IsStep edges ranks done top (Pass n) = IsNext edges done top (need edges top (get_or done top 0)) × (2 ≤ get_or ranks (need edges top (get_or done top 0)) 0) × (n ≡ get_or done top 0 + 1)

-- ---- what each changes

pub record Enters (old new : Search) (node : ℕ) : Type 0 where
  pub ranks_set : ranks new ≡ set (ranks old) node 1
  pub done_same : new.done.items ≡ old.done.items
  pub path_more : new.path.items ≡ old.path.items ++ (node ∷ [])
  pub order_same : new.order.items ≡ old.order.items

pub record Leaves (old new : Search) (top : ℕ) : Type 0 where
  pub ranks_set : ranks new ≡ set (ranks old) top (length old.order.items + 2)
  pub done_same : new.done.items ≡ old.done.items
  pub path_less : old.path.items ≡ new.path.items ++ (top ∷ [])
  pub order_more : new.order.items ≡ old.order.items ++ (top ∷ [])

pub record Passes (old new : Search) (node done : ℕ) : Type 0 where
  pub ranks_same : ranks new ≡ ranks old
  pub done_set : new.done.items ≡ set old.done.items node done
  pub path_same : new.path.items ≡ old.path.items
  pub order_same : new.order.items ≡ old.order.items

-- what all of them keep
pub record Moved (edges : List (List ℕ)) (old new : Search) : Type 0 where
  pub search : IsSearch edges new
  pub seen : (x : ℕ) → IsSeen old x → IsSeen new x
  pub less : work edges new < work edges old
