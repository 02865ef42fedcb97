-- A counter with an array, cycle by cycle; a module with a loop, and one without whose wires are driven late.
use Rattle.std.proofs.Common.{◌≡◌, ℕ, zero, suc, ◌≤◌, Bool, true, false, cond, List, [], ◌∷◌, Some, None, refl, arith}
use Rattle.std.specs.Prelude.{codes}
use Rattle.core_words.specs.Names.{same_name}
use Rattle.core_ports.specs.Ports.{name_of}
use Rattle.verilog_tree.specs.declared.expr.BinSign.TheVariants as sign
use Rattle.verilog_mean.specs.Plain.{Port, Plain}
use Rattle.verilog_mean.specs.Plain.Expr.{Literal, Named, Select, Binary, Join}
use Rattle.verilog_mean.specs.Plain.Exprs.{NoPart, Part}
use Rattle.verilog_mean.specs.Plain.Item.{Wire, Reg, Array, Assign, Reset, Write}
use Rattle.verilog_mean.specs.Plain.Port.{In, Out}
use Rattle.verilog_mean.specs.Cycle.{State, value_to, value, next}
use Rattle.verilog_mean.specs.Run.{Inputs, state_at, trace_of}
use Rattle.verilog_mean.specs.Loops.{Depends, HasNoLoop}
use Rattle.verilog_mean.specs.Loops.Depends.{direct, further}
use Rattle.verilog_mean.specs.CorePorts.{HasCorePorts}
use Rattle.verilog_mean.proofs.Ordered.{lower_by}
use Rattle.verilog_mean.proofs.NoLoop.{ranked_no_loop}

abbrev pub clock_and_reset : List Port
clock_and_reset = In 1 (codes "clk") ∷ In 1 (codes "reset") ∷ []

-- input clk, input reset, output [7:0] q; reg [7:0] n; reg [7:0] m [0:3]; assign q = n + 8'hff;
-- n is 5 in reset and q later, and while reset is 1 cell n[1:0] of m takes {n[3:0], 4'h9}
abbrev pub counter : Plain
counter = record {
  ports = In 1 (codes "clk") ∷ In 1 (codes "reset") ∷ Out 8 (codes "q") ∷ [];
  items =
      Reg 8 (codes "n") ∷ Array 8 (codes "m") 4
      ∷ Assign (codes "q") (Binary sign.Plus (Named (codes "n")) (Literal 8 255))
      ∷ Reset (codes "n") 5 (Named (codes "q"))
      ∷ Write (Named (codes "reset")) (codes "m") (Select (codes "n") 1 0) (Join (Part (Select (codes "n") 3 0) (Part (Literal 4 9) NoPart)))
      ∷ [];
}

abbrev pub start : State
start = record { regs = λ x. 200; cells = λ x. 1 ∷ 2 ∷ 3 ∷ 4 ∷ [] }

abbrev pub reset_first : Inputs
reset_first zero x = cond (same_name x (codes "reset")) 1 0
reset_first (suc k) x = 0

record AreCycles : Type 0 where
  -- from the contents in cycle 0, and from the reset value in cycle 1
  q0 : trace_of counter start reset_first 0 (codes "q") ≡ 199
  q1 : trace_of counter start reset_first 1 (codes "q") ≡ 4
  q2 : trace_of counter start reset_first 2 (codes "q") ≡ 3
  -- the sum wraps
  q6 : trace_of counter start reset_first 6 (codes "q") ≡ 255
  n3 : (state_at counter start reset_first 3).regs (codes "n") ≡ 3
  -- 200 is c8: cell 0 takes 89 in the cycle of the reset, and nothing is written later
  m1 : (state_at counter start reset_first 1).cells (codes "m") ≡ 0x89 ∷ 2 ∷ 3 ∷ 4 ∷ []
  m3 : (state_at counter start reset_first 3).cells (codes "m") ≡ 0x89 ∷ 2 ∷ 3 ∷ 4 ∷ []
  -- a name that the module lacks
  absent : trace_of counter start reset_first 1 (codes "r") ≡ 0

are_cycles : AreCycles
unfolding trace_of state_at value value_to next
are_cycles = record { q0 = refl; q1 = refl; q2 = refl; q6 = refl; n3 = refl; m1 = refl; m3 = refl; absent = refl }

-- wire a; wire b = a; assign a = b;
abbrev pub looped : Plain
looped = record { ports = clock_and_reset; items = Wire 1 (codes "a") None ∷ Wire 1 (codes "b") (Some (Named (codes "a"))) ∷ Assign (codes "a") (Named (codes "b")) ∷ [] }

leads_back : Depends looped (codes "a") (codes "a")
leads_back = further (direct {y = codes "b"} {e = Named (codes "b")} refl refl) (direct {e = Named (codes "a")} refl refl)

has_loop : HasNoLoop looped → ⊥
has_loop h = h (codes "a") leads_back

-- wire a; wire b = a; assign a = reset;
abbrev pub driven_late : Plain
driven_late = record { ports = clock_and_reset; items = Wire 1 (codes "a") None ∷ Wire 1 (codes "b") (Some (Named (codes "a"))) ∷ Assign (codes "a") (Named (codes "reset")) ∷ [] }

abbrev pub late_rank : List ℕ → ℕ
late_rank x = cond (same_name x (codes "b")) 2 (cond (same_name x (codes "a")) 1 0)

at_most_two : (a b : Bool) → cond a 2 (cond b 1 0) ≤ 3
at_most_two true b = omega arith
at_most_two false true = omega arith
at_most_two false false = omega arith

no_loop : HasNoLoop driven_late
no_loop = ranked_no_loop driven_late late_rank (record { lower = lower_by driven_late late_rank refl; small = λ x. at_most_two (same_name x (codes "b")) (same_name x (codes "a")) })

-- a module without a core's ports
no_core : HasCorePorts counter → ⊥
unfolding name_of
no_core h = differ h.each
  where
    differ : false ≡ true → ⊥
    differ e = cc
