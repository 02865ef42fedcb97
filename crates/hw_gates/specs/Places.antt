-- What a pool has at a net, as one thing, so that facts of nets pass over many calls by one equation.
use Rattle.std.specs.Prelude.{◌≡◌, ℕ, ◌+◌, ◌^◌, ◌≤◌, Bool, true, false, eqb, leb, ltb, ◌&&◌, length, Option, None, Some}
use Rattle.hw_pool.specs.declared.node.Node.{Node}
use Rattle.hw_pool.specs.Nodes.{PoolValue, node_at}
use Rattle.hw_pool.specs.Trees.{Tree, tree_of, width_of}
use Rattle.hw_pool.specs.Trees.Tree.{Lit, Input, Wire, Reg, Not, And, Or, Xor, Add, Sub, Eq, Ltu, Mux, Cat, Slice, Read}
use Rattle.hw_pool.specs.Meaning.{Env, value}
use Rattle.hw_pool.specs.Scope.{Scope}
use Rattle.hw_expr.specs.declared.net.Net.{Net}

-- the test of `IsWidth`
abbrev pub is_width : ℕ → Bool
is_width w = leb 1 w && leb w 64

-- the test of `Fits`: the widths of a tree fit
abbrev pub does_fit : Tree → Bool
does_fit (Lit w v) = is_width w && ltb v (2 ^ w)
does_fit (Input w port) = is_width w
does_fit (Wire w wire) = is_width w
does_fit (Reg w reg) = is_width w
does_fit (Not w a) = is_width w && (eqb (width_of a) w && does_fit a)
does_fit (And w a b) = is_width w && (eqb (width_of a) w && (eqb (width_of b) w && (does_fit a && does_fit b)))
does_fit (Or w a b) = is_width w && (eqb (width_of a) w && (eqb (width_of b) w && (does_fit a && does_fit b)))
does_fit (Xor w a b) = is_width w && (eqb (width_of a) w && (eqb (width_of b) w && (does_fit a && does_fit b)))
does_fit (Add w a b) = is_width w && (eqb (width_of a) w && (eqb (width_of b) w && (does_fit a && does_fit b)))
does_fit (Sub w a b) = is_width w && (eqb (width_of a) w && (eqb (width_of b) w && (does_fit a && does_fit b)))
does_fit (Eq w a b) = eqb w 1 && (eqb (width_of a) (width_of b) && (does_fit a && does_fit b))
does_fit (Ltu w a b) = eqb w 1 && (eqb (width_of a) (width_of b) && (does_fit a && does_fit b))
does_fit (Mux w c a b) = is_width w && (eqb (width_of c) 1 && (eqb (width_of a) w && (eqb (width_of b) w && (does_fit c && (does_fit a && does_fit b)))))
does_fit (Cat w a b) = is_width w && (eqb (width_of a + width_of b) w && (does_fit a && does_fit b))
does_fit (Slice w a high low) = leb low high && (ltb high (width_of a) && (eqb (w + low) (high + 1) && does_fit a))
does_fit (Read w array a) = is_width w && does_fit a

-- the tests of what a scope has
abbrev pub has_width : (width : ℕ) → Option ℕ → Bool
has_width width None = false
has_width width (Some w) = eqb w width

abbrev pub has_wire : (level width : ℕ) → Option (ℕ × ℕ) → Bool
has_wire level width None = false
has_wire level width (Some w) = eqb w.0 width && leb w.1 level

abbrev pub has_array : (width bits : ℕ) → Option (ℕ × ℕ) → Bool
has_array width bits None = false
has_array width bits (Some a) = eqb a.0 width && eqb a.1 bits

-- the test of `Takes`: what a tree takes from outside is in a scope, and no forward wire is above a level
abbrev pub does_take : Scope → (level : ℕ) → Tree → Bool
does_take s level (Lit width v) = true
does_take s level (Input width port) = has_width width (s.inputs port)
does_take s level (Wire width wire) = has_wire level width (s.wires wire)
does_take s level (Reg width reg) = has_width width (s.regs reg)
does_take s level (Not width a) = does_take s level a
does_take s level (And width a b) = does_take s level a && does_take s level b
does_take s level (Or width a b) = does_take s level a && does_take s level b
does_take s level (Xor width a b) = does_take s level a && does_take s level b
does_take s level (Add width a b) = does_take s level a && does_take s level b
does_take s level (Sub width a b) = does_take s level a && does_take s level b
does_take s level (Eq width a b) = does_take s level a && does_take s level b
does_take s level (Ltu width a b) = does_take s level a && does_take s level b
does_take s level (Mux width c a b) = does_take s level c && (does_take s level a && does_take s level b)
does_take s level (Cat width a b) = does_take s level a && does_take s level b
does_take s level (Slice width a high low) = does_take s level a
does_take s level (Read width array a) = has_array width (width_of a) (s.arrays array) && does_take s level a

-- what a pool has at a net's number
pub record Place : Type 0 where
  pub live : Bool
  pub node : Node
  pub tree : Tree

unfoldable pub place : PoolValue → Net → Place
place p n = record { live = ltb n.id.0 (length p.nodes); node = node_at p.nodes n.id.0; tree = tree_of p.nodes n.id.0 }

-- Whether there is a node. It is behind a function, since tactics try both cases of a Bool.
unfoldable pub life : Place → ℕ → Bool
life x = λ _. x.live

unfoldable pub alive : ℕ → Bool
alive = λ _. true

pub record Shape : Type 0 where
  pub width : ℕ
  pub level : ℕ
  pub fits : Bool

-- width and level of the node, and whether the widths of its tree fit
unfoldable pub shape : Place → Shape
shape x = record { width = x.node.width; level = x.node.level; fits = eqb (width_of x.tree) x.node.width && (is_width x.node.width && does_fit x.tree) }

-- the value
unfoldable pub worth : Env → Place → ℕ
worth env x = value env x.tree

-- whether what the tree takes from outside is in a scope, with no forward wire above the node's level
unfoldable pub takes : Scope → Place → ℕ → Bool
takes s x = λ _. does_take s x.node.level x.tree

unfoldable pub granted : ℕ → Bool
granted = λ _. true

-- the value of a net
abbrev pub value_in : Env → PoolValue → Net → ℕ
value_in env p n = worth env (place p n)

-- A net is live, and of its width and level, and the widths of its tree fit.
abbrev pub Has : PoolValue → Net → Type 0
Has p n = (life (place p n) ≡ alive) × (shape (place p n) ≡ record { width = n.width; level = n.level; fits = true })

-- a net of a width and of at most a level
abbrev pub Is : PoolValue → Net → (width level : ℕ) → Type 0
Is p n width level = Has p n × (n.width ≡ width) × (n.level ≤ level)

-- a net takes from outside only what a scope has, and no forward wire above its level
abbrev pub IsIn : Scope → PoolValue → Net → Type 0
IsIn s p n = takes s (place p n) ≡ granted

-- At most n nodes are added, and what the pool has at live nets stays as it was. The old place stands on the
-- left of the equation, and tactics use it from the first pool up.
pub record Step (old new : PoolValue) (n : ℕ) : Type 0 where
  pub most : length new.nodes ≤ length old.nodes + n
  pub spare : old.spare ≤ new.spare + n
  pub places : (m : Net) → life (place old m) ≡ alive → place old m ≡ place new m
