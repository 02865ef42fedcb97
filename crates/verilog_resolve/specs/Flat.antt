-- The nodes of an expression, behind those that are there.
use Rattle.std.specs.Prelude.{ℕ, ◌+◌, ◌-◌, ◌^◌, cond, ltb, List, [], ◌∷◌, ◌++◌, length, Option, Some, None}
use Rattle.verilog_tree.specs.declared.expr.BinSign.{BinSign}
use Rattle.verilog_tree.specs.declared.expr.BinSign.TheVariants as sign
use Rattle.verilog_mean.specs.Plain.{Expr, Exprs}
use Rattle.verilog_mean.specs.Plain.Expr.{Literal, Named, Select, Cell, Not, Join, Binary, Choice}
use Rattle.verilog_mean.specs.Plain.Exprs.{NoPart, Part}
use Rattle.verilog_flat.specs.declared.node.Node.{Node}
use Rattle.verilog_flat.specs.declared.node.Node.TheVariants as node
use Rattle.verilog_resolve.specs.declared.expr.Operand.{Operand}
use Rattle.verilog_resolve.specs.declared.names.Place.{Place}
use Rattle.verilog_resolve.specs.Names.{node_of, place_width, base_of, size_of}

-- the nodes so far, the node of the value, and its width
pub record Grown : Type 0 where
  pub nodes : List Node
  pub at : ℕ
  pub width : ℕ

abbrev pub push : List Node → Node → ℕ → Grown
push ns n w = record { nodes = ns ++ (n ∷ []); at = length ns; width = w }

-- a 1 for each of w bits
abbrev pub mask_of : ℕ → ℕ
mask_of w = cond (ltb w 64) (2 ^ w - 1) (2 ^ 64 - 1)

-- an operator over two nodes
abbrev pub joined : BinSign → (a b width : ℕ) → List Node → Grown
joined sign.Or a b w ns = push ns (node.Or a b) w
joined sign.Xor a b w ns = push ns (node.Xor a b) w
joined sign.And a b w ns = push ns (node.And a b) w
joined sign.Equal a b w ns = push ns (node.Equal a b) 1
joined sign.Less a b w ns = push ns (node.Less a b) 1
joined sign.Plus a b w ns = push ns (node.Plus a b (mask_of w)) w
joined sign.Minus a b w ns = push ns (node.Minus a b (mask_of w)) w

-- a part of a join behind those so far
abbrev pub merged : Option Operand → Grown → Grown
merged None d = d
merged (Some f) d = push d.nodes (node.Join f.at d.at d.width) (f.width + d.width)

abbrev pub ended : Option Operand → List Node → Grown
ended None ns = record { nodes = ns; at = 0; width = 0 }
ended (Some f) ns = record { nodes = ns; at = f.at; width = f.width }

abbrev pub operand_of : Grown → Option Operand
operand_of g = Some (record { at = g.at; width = g.width })

-- the nodes of an expression, where p gives each name its place
abbrev mutual
  pub flat : (p : List ℕ → Place) → Expr → List Node → Grown
  flat p (Literal width value) ns = push ns (node.Literal value) width
  flat p (Named x) ns = record { nodes = ns; at = node_of (p x); width = place_width (p x) }
  flat p (Select x high low) ns = push ns (node.Slice (node_of (p x)) low (mask_of (high + 1 - low))) (high + 1 - low)
  flat p (Cell x index) ns = let i = flat p index ns in push i.nodes (node.Cell i.at (base_of (p x)) (size_of (p x))) (place_width (p x))
  flat p (Not inner) ns = let d = flat p inner ns in push d.nodes (node.Not d.at (mask_of d.width)) d.width
  flat p (Join parts) ns = flat_parts p parts None ns
  flat p (Binary s left right) ns = let a = flat p left ns in let b = flat p right a.nodes in joined s a.at b.at a.width b.nodes
  flat p (Choice test first second) ns =
      let t = flat p test ns in let a = flat p first t.nodes in let b = flat p second a.nodes in push b.nodes (node.Choice t.at a.at b.at) a.width

  pub flat_parts : (p : List ℕ → Place) → Exprs → Option Operand → List Node → Grown
  flat_parts p NoPart f ns = ended f ns
  flat_parts p (Part e es) f ns = let g = merged f (flat p e ns) in flat_parts p es (operand_of g) g.nodes
