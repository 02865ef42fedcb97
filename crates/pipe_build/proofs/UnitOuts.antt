-- What units show, behind more nodes.
use Rattle.std.proofs.Common.{◌≡◌, ℕ, ◌+◌, ◌-◌, ◌<◌, ◌≤◌, List, [], ◌∷◌, length, slice_index_or, arith, subst, ap, refl, sym}
use Rattle.std.proofs.lemmas.List.{take_all}
use Rattle.std.specs.Prelude.{take, drop}
use Rattle.hw_pool.specs.declared.node.Node.{Node}
use Rattle.hw_pool.specs.Nodes.{PoolValue}
use Rattle.hw_pool.specs.Scope.{Scope}
use Rattle.hw_expr.specs.declared.net.Net.{Net}
use Rattle.hw_gates.specs.Places.{Step}
use Rattle.hw_module.specs.Rows.{ModuleValue}
use Rattle.service_ports.specs.declared.ports.ExecOffer.{ExecOffer}
use Rattle.service_ports.specs.Ports.{exec_ports}
use Rattle.plug_part.specs.Named.{trees_of}
use Rattle.pipe_steps.specs.Values.{out_of}
use Rattle.pipe_build.specs.declared.units.Output.{Output}
use Rattle.pipe_build.specs.declared.units.Output.TheVariants.{Value, NextPc, Trap, Cause, Tval, Fence}
use Rattle.pipe_build.specs.Bears.{Bears}
use Rattle.pipe_build.specs.Made.{IsReg}
use Rattle.pipe_build.specs.UnitOuts.{AreChosen, AreExecs, IsExec, net_of, place_of, width_of}
use Rattle.pipe_build.proofs.Bears.{bears_on}

exec_on : {s : Scope} {old new : PoolValue} {nodes : List Node} {n : ℕ} {o : ExecOffer} → Step old new n → IsExec s old nodes o → IsExec s new nodes o
exec_on step h = record { done = bears_on step h.done; value_out = bears_on step h.value_out; next_pc = bears_on step h.next_pc; trap = bears_on step h.trap; cause = bears_on step h.cause; tval = bears_on step h.tval; fence = bears_on step h.fence }

pub execs_on : (s : Scope) (nodes : List Node) {old new : PoolValue} {n : ℕ} → Step old new n → (os : List ExecOffer) → AreExecs s old nodes os → AreExecs s new nodes os
execs_on s nodes step [] h = tt
execs_on s nodes step (o ∷ os) h = (exec_on step h.0, execs_on s nodes step os h.1)

-- one output
pub output_bears : {s : Scope} {pool : PoolValue} {nodes : List Node} {o : ExecOffer} (which : Output) → IsExec s pool nodes o
    → Bears s pool (width_of which) 4 (λ env. out_of env (trees_of nodes (exec_ports o.ports)) (place_of which)) (net_of which o.ports)
output_bears Value h = h.value_out
output_bears NextPc h = h.next_pc
output_bears Trap h = h.trap
output_bears Cause h = h.cause
output_bears Tval h = h.tval
output_bears Fence h = h.fence

-- the registers behind the first
pub chosen_rest : (m : ModuleValue) (first many : ℕ) → AreChosen m first (many + 1) → AreChosen m (first + 1) many
chosen_rest m first many h = λ k l. let e : first + (k + 1) ≡ first + 1 + k = omega arith in subst (λ (r : ℕ). IsReg m r 1) e (h (k + 1) (omega arith))

pub chosen_first : (m : ModuleValue) (first many : ℕ) → AreChosen m first many → 1 ≤ many → IsReg m first 1
chosen_first m first many h l = let e : first + 0 ≡ first = omega arith in subst (λ (r : ℕ). IsReg m r 1) e (h 0 (omega arith))

-- a list that is empty; one that is not, as its first item and the rest of a slice
pub none_left : (os : List ExecOffer) → length os < 1 → os ≡ []
none_left [] l = refl
none_left (o ∷ os) l = absurd (omega arith)

pub front_and_rest : (d : ExecOffer) (os : List ExecOffer) → 1 ≤ length os → os ≡ slice_index_or os 0 d ∷ take (length os - 1) (drop 1 os)
front_and_rest d [] l = absurd (omega arith)
front_and_rest d (o ∷ os) l = let e : take (length (o ∷ os) - 1) os ≡ os = take_all (length (o ∷ os) - 1) os (omega arith) in ap (λ (xs : List ExecOffer). o ∷ xs) (sym e)

pub rest_long : (os : List ExecOffer) → 1 ≤ length os → length (take (length os - 1) (drop 1 os)) + 1 ≡ length os
rest_long [] l = absurd (omega arith)
rest_long (o ∷ os) l = let e : take (length (o ∷ os) - 1) os ≡ os = take_all (length (o ∷ os) - 1) os (omega arith) in omega (arith, ap length e)

-- stands beyond the end of a slice
abbrev no_net : Net
no_net = record { id = record { 0 = 0 }; width = 0; level = 0 }

abbrev pub no_exec : ExecOffer
no_exec = record {
  by = 0;
  ports = record {
    go = 0;
    row = 0;
    pc = 0;
    word = 0;
    a = 0;
    b = 0;
    clear = 0;
    done = no_net;
    value = no_net;
    next_pc = no_net;
    trap = no_net;
    cause = no_net;
    tval = no_net;
    fence = no_net;
  };
}
