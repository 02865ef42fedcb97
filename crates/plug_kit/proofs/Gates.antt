-- From the words of hw_gates to those of the kit.
use Rattle.std.proofs.Common.{◌≡◌, ◌∙◌, ℕ, refl, sym}
use Rattle.hw_pool.specs.Nodes.{PoolValue}
use Rattle.hw_pool.specs.Meaning.{Env, value}
use Rattle.hw_pool.specs.Scope.{Scope}
use Rattle.hw_expr.specs.declared.net.Net.{Net}
use Rattle.hw_gates.specs.Places.{Is, IsIn, value_in, place, worth}
use Rattle.hw_gates.proofs.Has.{in_scope, value_is}
use Rattle.hw_module.specs.Rows.{ModuleValue}
use Rattle.hw_module.specs.Scope.{scope_of}
use Rattle.plug_part.specs.Of.{net_tree}
use Rattle.plug_build.specs.Fits.{IsOutput}
use Rattle.plug_kit.specs.Carries.{Carries}

pub gate_carries : (s : Scope) (d : ModuleValue) (pool : PoolValue) (width most : ℕ) (f : Env → ℕ) (net : Net) → Is pool net width most → IsIn (scope_of d) pool net
    → ((env : Env) → value_in env pool net ≡ f env) → Carries s d pool width most f net
gate_carries s d pool width most f net is scope value = record {
  scope = in_scope (scope_of d) pool net is.0 scope;
  wide = is.1;
  level = is.2;
  value_is = λ env b. sym (value_is env pool net) ∙ value env;
}

pub gate_output : (d : ModuleValue) (pool : PoolValue) (width most : ℕ) (net : Net) → Is pool net width most → IsIn (scope_of d) pool net → IsOutput d pool most width net
gate_output d pool width most net is scope = record { scope = in_scope (scope_of d) pool net is.0 scope; wide = is.1; level = is.2 }

pub gate_tree : (env : Env) (pool : PoolValue) (net : Net) → value env (net_tree pool.nodes net) ≡ value_in env pool net
unfolding place worth
gate_tree env pool net = refl
