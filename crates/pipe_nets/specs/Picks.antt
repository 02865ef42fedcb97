-- The output of the chosen one of several.
use Rattle.std.specs.Prelude.{ℕ, List, [], ◌∷◌, bit_or}
use Rattle.core_words.specs.Values.{choose}
use Rattle.hw_pool.specs.Nodes.{PoolValue}
use Rattle.hw_pool.specs.Meaning.{Env}
use Rattle.hw_pool.specs.Scope.{Scope}
use Rattle.hw_gates.specs.Places.{Is, IsIn, value_in}
use Rattle.pipe_nets.specs.declared.pick.Pick.{Pick}

-- each is masked by whether it is chosen, and all are joined by or
unfoldable pub gathered : List (ℕ × ℕ) → ℕ
gathered [] = 0
gathered (x ∷ xs) = bit_or (choose x.0 x.1 0) (gathered xs)

-- the values of several: whether each is chosen, and its output
abbrev pub picks_in : Env → PoolValue → List Pick → List (ℕ × ℕ)
picks_in env pool [] = []
picks_in env pool (x ∷ xs) = (value_in env pool x.chosen, value_in env pool x.output) ∷ picks_in env pool xs

abbrev pub ArePicks : PoolValue → (width level : ℕ) → List Pick → Type 0
ArePicks pool width level [] = Unit {0}
ArePicks pool width level (x ∷ xs) = Is pool x.chosen 1 level × Is pool x.output width level × ArePicks pool width level xs

abbrev pub ArePicksIn : Scope → PoolValue → List Pick → Type 0
ArePicksIn s pool [] = Unit {0}
ArePicksIn s pool (x ∷ xs) = IsIn s pool x.chosen × IsIn s pool x.output × ArePicksIn s pool xs
