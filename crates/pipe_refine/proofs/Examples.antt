-- What does not refine the machine: a module without a core's ports, whatever its runs are.
use Rattle.std.proofs.Common.{◌≡◌, ℕ, false, true, [], ◌∷◌}
use Rattle.std.specs.Prelude.{codes}
use Rattle.core_ports.specs.Ports.{name_of}
use Rattle.isa_model.specs.Machine.{Set}
use Rattle.verilog_mean.specs.Plain.{Plain}
use Rattle.verilog_mean.specs.Plain.Port.{In}
use Rattle.pipe_refine.specs.Refines.{Refines}

-- module m(input clk, input reset); endmodule
abbrev pub silent : Plain
silent = record { ports = In 1 (codes "clk") ∷ In 1 (codes "reset") ∷ []; items = [] }

silent_is_no_core : (s : Set) (reset_pc : ℕ) → Refines silent s reset_pc → ⊥
unfolding name_of
silent_is_no_core s reset_pc r = differ r.ports.each
  where
    differ : false ≡ true → ⊥
    differ e = cc
