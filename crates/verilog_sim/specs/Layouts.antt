-- The numbers of a module's ports, registers and arrays: each in the order of their declarations.
-- The cells of all arrays lie in one list, those of an array one after another.
use Rattle.std.specs.Prelude.{ℕ, ◌+◌, List, [], ◌∷◌}
use Rattle.verilog_mean.specs.Plain.{Item, Port, Plain}
use Rattle.verilog_mean.specs.Plain.Item.{Wire, Reg, Array, Assign, Next, Reset, Write}
use Rattle.verilog_mean.specs.Plain.Port.{In, Out}
use Rattle.verilog_sim.specs.Simulates.{Span, Layout}

abbrev pub input_names : List Port → List (List ℕ)
input_names [] = []
input_names (In width name ∷ rest) = name ∷ input_names rest
input_names (Out width name ∷ rest) = input_names rest

abbrev pub output_names : List Port → List (List ℕ)
output_names [] = []
output_names (In width name ∷ rest) = output_names rest
output_names (Out width name ∷ rest) = name ∷ output_names rest

abbrev pub register_names : List Item → List (List ℕ)
register_names [] = []
register_names (Wire width name driver ∷ rest) = register_names rest
register_names (Reg width name ∷ rest) = name ∷ register_names rest
register_names (Array width name cells ∷ rest) = register_names rest
register_names (Assign target driver ∷ rest) = register_names rest
register_names (Next target driver ∷ rest) = register_names rest
register_names (Reset target start driver ∷ rest) = register_names rest
register_names (Write enable target index driver ∷ rest) = register_names rest

-- the arrays, the first of which begins at a base
abbrev pub spans_from : (base : ℕ) → List Item → List Span
spans_from base [] = []
spans_from base (Wire width name driver ∷ rest) = spans_from base rest
spans_from base (Reg width name ∷ rest) = spans_from base rest
spans_from base (Array width name cells ∷ rest) = record { name = name; base = base; size = cells } ∷ spans_from (base + cells) rest
spans_from base (Assign target driver ∷ rest) = spans_from base rest
spans_from base (Next target driver ∷ rest) = spans_from base rest
spans_from base (Reset target start driver ∷ rest) = spans_from base rest
spans_from base (Write enable target index driver ∷ rest) = spans_from base rest

abbrev pub layout_of : Plain → Layout
layout_of m = record {
  ins = input_names m.ports;
  outs = output_names m.ports;
  regs = register_names m.items;
  arrays = spans_from 0 m.items;
}
