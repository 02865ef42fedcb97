-- What units show.
use Rattle.std.specs.Prelude.{ℕ, ◌+◌, ◌<◌, List, [], ◌∷◌}
use Rattle.hw_pool.specs.declared.node.Node.{Node}
use Rattle.hw_pool.specs.Nodes.{PoolValue}
use Rattle.hw_pool.specs.Meaning.{value}
use Rattle.hw_pool.specs.Scope.{Scope}
use Rattle.hw_expr.specs.declared.net.Net.{Net}
use Rattle.hw_module.specs.Rows.{ModuleValue}
use Rattle.service_ports.specs.declared.ports.ExecOffer.{ExecOffer}
use Rattle.service_ports.specs.declared.ports.ExecPorts.{ExecPorts}
use Rattle.plug_part.specs.Of.{net_tree}
use Rattle.pipe_build.specs.declared.units.Output.{Output}
use Rattle.pipe_build.specs.declared.units.Output.TheVariants.{Value, NextPc, Trap, Cause, Tval, Fence}
use Rattle.pipe_build.specs.Bears.{Bears}
use Rattle.pipe_build.specs.Made.{IsReg}

-- the place of an output among those of Exec, its width, and its net
abbrev pub place_of : Output → ℕ
place_of Value = 1
place_of NextPc = 2
place_of Trap = 3
place_of Cause = 4
place_of Tval = 5
place_of Fence = 6

abbrev pub width_of : Output → ℕ
width_of Value = 32
width_of NextPc = 32
width_of Trap = 1
width_of Cause = 32
width_of Tval = 32
width_of Fence = 1

abbrev pub net_of : Output → ExecPorts → Net
net_of Value p = p.value
net_of NextPc p = p.next_pc
net_of Trap p = p.trap
net_of Cause p = p.cause
net_of Tval p = p.tval
net_of Fence p = p.fence

module _ (s : Scope) (pool : PoolValue) (nodes : List Node) where
  -- the outputs of a unit have the values of these trees
  pub record IsExec (o : ExecOffer) : Type 0 where
    pub done : Bears s pool 1 4 (λ env. value env (net_tree nodes o.ports.done)) o.ports.done
    pub value_out : Bears s pool 32 4 (λ env. value env (net_tree nodes o.ports.value)) o.ports.value
    pub next_pc : Bears s pool 32 4 (λ env. value env (net_tree nodes o.ports.next_pc)) o.ports.next_pc
    pub trap : Bears s pool 1 4 (λ env. value env (net_tree nodes o.ports.trap)) o.ports.trap
    pub cause : Bears s pool 32 4 (λ env. value env (net_tree nodes o.ports.cause)) o.ports.cause
    pub tval : Bears s pool 32 4 (λ env. value env (net_tree nodes o.ports.tval)) o.ports.tval
    pub fence : Bears s pool 1 4 (λ env. value env (net_tree nodes o.ports.fence)) o.ports.fence

  abbrev pub AreExecs : List ExecOffer → Type 0
  AreExecs [] = Unit {0}
  AreExecs (o ∷ os) = IsExec o × AreExecs os

-- so many registers of one bit from a number on
abbrev pub AreChosen : ModuleValue → (first many : ℕ) → Type 0
AreChosen m first many = (k : ℕ) → k < many → IsReg m (first + k) 1
