-- Nodes of expressions, computed: which they are, and what their values are.
use Rattle.std.proofs.Common.{◌≡◌, ℕ, List, [], ◌∷◌, get_or, refl}
use Rattle.verilog_tree.specs.declared.expr.BinSign.TheVariants as sign
use Rattle.verilog_mean.specs.Plain.{Expr}
use Rattle.verilog_mean.specs.Plain.Expr.{Literal, Named, Select, Cell, Not, Join, Binary, Choice}
use Rattle.verilog_mean.specs.Plain.Exprs.{NoPart, Part}
use Rattle.verilog_flat.specs.declared.node.Node.TheVariants as node
use Rattle.verilog_flat.specs.Flat.{values}
use Rattle.verilog_resolve.specs.declared.names.Place.{Place}
use Rattle.verilog_resolve.specs.declared.names.Place.TheVariants.{Net, Array}
use Rattle.verilog_resolve.specs.Flat.{flat}

-- the empty name is a register of 4 bits, which holds 11; all others are one array of two cells of 8 bits
abbrev place : List ℕ → Place
place [] = Net 0 4
place (b ∷ bs) = Array 0 2 8

abbrev result : Expr → ℕ
result e = let g = flat place e (node.Reg 0 ∷ []) in get_or (values (11 ∷ []) (7 ∷ 200 ∷ []) [] g.nodes) g.at 0

abbrev r : Expr
r = Named []

join_has_its_first_part_highest : result (Join (Part r (Part (Literal 3 2) NoPart))) ≡ 90
join_has_its_first_part_highest = refl

select_begins_at_its_second_number : result (Select [] 2 1) ≡ 1
select_begins_at_its_second_number = refl

minus_wraps : result (Binary sign.Minus (Literal 4 3) r) ≡ 8
minus_wraps = refl

not_has_the_width_of_its_operand : result (Not r) ≡ 4
not_has_the_width_of_its_operand = refl

choice_takes_the_first_where_the_test_is_1 : result (Choice (Binary sign.Less (Literal 4 3) r) (Cell (1 ∷ []) (Select [] 0 0)) (Literal 8 1)) ≡ 200
choice_takes_the_first_where_the_test_is_1 = refl
