-- A circuit that is a module's: a register of 4 bits that turns its bits over in each cycle, and 3 after a reset.
use Rattle.std.proofs.Common.{ℕ, ◌-◌, ◌<◌, Bool, true, false, cond, eqb, List, [], ◌∷◌, get_or, codes, ap, sym, arith}
use Rattle.verilog_mean.specs.Plain.{Plain}
use Rattle.verilog_mean.specs.Plain.Expr.{Named, Not}
use Rattle.verilog_mean.specs.Plain.Item.{Reg, Assign, Reset}
use Rattle.verilog_mean.specs.Plain.Port.{In, Out}
use Rattle.verilog_mean.specs.Cycle.{value, value_to, next, reset_name}
use Rattle.verilog_flat.specs.declared.node.Node.{Node}
use Rattle.verilog_flat.specs.declared.node.Node.TheVariants as node
use Rattle.verilog_sim.specs.Simulates.{Layout, SimulatesBy}

abbrev r : List ℕ
r = codes "r"

abbrev o : List ℕ
o = codes "o"

abbrev turning : Plain
turning = record {
  ports = In 1 reset_name ∷ Out 4 o ∷ [];
  items = Reg 4 r ∷ Assign o (Named r) ∷ Reset r 3 (Not (Named r)) ∷ [];
}

abbrev layout : Layout
layout = record { ins = reset_name ∷ []; outs = o ∷ []; regs = r ∷ []; arrays = [] }

abbrev nodes : List Node
nodes = node.Input 0 ∷ node.Reg 0 ∷ node.Not 1 15 ∷ node.Literal 3 ∷ node.Choice 0 3 2 ∷ []

fits : (b : Bool) (x : ℕ) → cond b 3 (15 - x) < 16
fits true x = omega arith
fits false x = omega arith

turning_is_simulated : SimulatesBy turning layout nodes (4 ∷ []) [] (1 ∷ [])
unfolding value value_to next
turning_is_simulated s inputs regs cells h given = (
  ap (λ rs. get_or rs 0 0 ∷ []) (sym h.1.0),
  (h.0.0, tt),
  ((fits (eqb (inputs reset_name) 1) (s.regs r), tt), (ap (λ rs. cond (eqb (inputs reset_name) 1) 3 (15 - get_or rs 0 0) ∷ []) h.1.0, tt)),
)
