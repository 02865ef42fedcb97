-- A tree takes no more at a higher level.
use Rattle.std.proofs.Common.{ℕ, ◌≤◌, arith, Option, None, Some}
use Rattle.hw_pool.specs.Trees.{Tree}
use Rattle.hw_pool.specs.Trees.Tree.{Lit, Input, Wire, Reg, Not, And, Or, Xor, Add, Sub, Eq, Ltu, Mux, Cat, Slice, Read}
use Rattle.hw_pool.specs.Scope.{Scope, IsWireOf, Takes}

module _ (s : Scope) (low high : ℕ) (le : low ≤ high) where
  wire_higher : (width : ℕ) (o : Option (ℕ × ℕ)) → IsWireOf low width o → IsWireOf high width o
  wire_higher width None h = h
  wire_higher width (Some w) h = (h.0, omega (arith, h.1))

  pub takes_higher : (t : Tree) → Takes s low t → Takes s high t
  takes_higher (Lit width value) h = tt
  takes_higher (Input width port) h = h
  takes_higher (Wire width wire) h = wire_higher width (s.wires wire) h
  takes_higher (Reg width reg) h = h
  takes_higher (Not width a) h = takes_higher a h
  takes_higher (And width a b) h = (takes_higher a h.0, takes_higher b h.1)
  takes_higher (Or width a b) h = (takes_higher a h.0, takes_higher b h.1)
  takes_higher (Xor width a b) h = (takes_higher a h.0, takes_higher b h.1)
  takes_higher (Add width a b) h = (takes_higher a h.0, takes_higher b h.1)
  takes_higher (Sub width a b) h = (takes_higher a h.0, takes_higher b h.1)
  takes_higher (Eq width a b) h = (takes_higher a h.0, takes_higher b h.1)
  takes_higher (Ltu width a b) h = (takes_higher a h.0, takes_higher b h.1)
  takes_higher (Mux width c a b) h = (takes_higher c h.0, takes_higher a h.1, takes_higher b h.2)
  takes_higher (Cat width a b) h = (takes_higher a h.0, takes_higher b h.1)
  takes_higher (Slice width a high low) h = takes_higher a h
  takes_higher (Read width array a) h = (h.0, takes_higher a h.1)
