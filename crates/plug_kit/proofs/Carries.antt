-- Nets with their functions, from the calls that add them.
use Rattle.std.proofs.Common.{◌≡◌, ◌∙◌, ℕ, get_or, arith, ap}
use Rattle.std.specs.Prelude.{max}
use Rattle.hw_pool.specs.Nodes.{PoolValue}
use Rattle.hw_pool.specs.Meaning.{Env}
use Rattle.hw_pool.specs.Frame.{Adds}
use Rattle.hw_pool.specs.Scope.{Scope}
use Rattle.hw_expr.specs.declared.net.Net.{Net}
use Rattle.hw_expr.specs.Nets.{InScope, net_value}
use Rattle.hw_expr.proofs.Nets.{still_value}
use Rattle.hw_expr.proofs.Scopes.{still_scope}
use Rattle.hw_module.specs.Rows.{ModuleValue, wire_at, reg_at}
use Rattle.hw_module.specs.Scope.{scope_of}
use Rattle.hw_module.specs.Frame.{Grows}
use Rattle.hw_module.proofs.Scopes.{kept_grown}
use Rattle.plug_build.specs.Fits.{IsInput, IsOutput}
use Rattle.plug_kit.specs.Bounds.{IsBounded}
use Rattle.plug_kit.specs.Carries.{Carries}

-- behind more nodes
pub carry_on : (s : Scope) (d : ModuleValue) (old new : PoolValue) (n width most : ℕ) (f : Env → ℕ) (net : Net) → Adds old new n → Carries s d old width most f net → Carries s d new width most f net
carry_on s d old new n width most f net adds h = record {
  scope = still_scope _ old new n net adds h.scope;
  wide = h.wide;
  level = h.level;
  value_is = λ env is. still_value env old new n net adds h.scope.is ∙ h.value_is env is;
}

-- in a module that has grown
pub carry_grown : (s : Scope) (old new : ModuleValue) (n : ℕ) (pool : PoolValue) (width most : ℕ) (f : Env → ℕ) (net : Net) → Grows old new n → Carries s old pool width most f net
    → Carries s new pool width most f net
carry_grown s old new n pool width most f net grows h = record { scope = kept_grown old new n pool net grows h.scope; wide = h.wide; level = h.level; value_is = h.value_is }

-- where more is bounded
pub carry_more : (s t : Scope) (d : ModuleValue) (pool : PoolValue) (width most : ℕ) (f : Env → ℕ) (net : Net) → ((env : Env) → IsBounded t env → IsBounded s env)
    → Carries s d pool width most f net → Carries t d pool width most f net
carry_more s t d pool width most f net more h = record { scope = h.scope; wide = h.wide; level = h.level; value_is = λ env is. h.value_is env (more env is) }

-- the value of a forward wire that is an input, of a literal, of a register
pub carry_wire : (s : Scope) (d : ModuleValue) (pool : PoolValue) (by wire : ℕ) (shape : ℕ × ℕ) (net : Net) → IsInput d by wire shape → InScope (scope_of d) pool net
    → net.width ≡ (wire_at d.wires wire).width → net.level ≡ (wire_at d.wires wire).level → ((env : Env) → net_value env pool net ≡ env.wires wire)
    → Carries s d pool shape.0 shape.1 (λ env. env.wires wire) net
carry_wire s d pool by wire shape net input scope wide level value_is = record {
  scope = scope;
  wide = wide ∙ input.width;
  level = let e = input.level in omega arith;
  value_is = λ env is. value_is env;
}

pub carry_lit : (s : Scope) (d : ModuleValue) (pool : PoolValue) (width most number : ℕ) (net : Net) → InScope (scope_of d) pool net → net.width ≡ width → net.level ≡ 0
    → ((env : Env) → net_value env pool net ≡ number) → Carries s d pool width most (λ env. number) net
carry_lit s d pool width most number net scope wide level value_is = record { scope = scope; wide = wide; level = omega arith; value_is = λ env is. value_is env }

pub carry_reg : (s : Scope) (d : ModuleValue) (pool : PoolValue) (reg width most : ℕ) (net : Net) → InScope (scope_of d) pool net → net.width ≡ (reg_at d.regs reg).width
    → (reg_at d.regs reg).width ≡ width → net.level ≡ 0 → ((env : Env) → net_value env pool net ≡ env.regs reg) → Carries s d pool width most (λ env. env.regs reg) net
carry_reg s d pool reg width most net scope wide is level value_is = record { scope = scope; wide = wide ∙ is; level = omega arith; value_is = λ env b. value_is env }

-- an operator over one net, and over two, whose value may depend on the width of the first
pub carry_one : (s : Scope) (d : ModuleValue) (old new : PoolValue) (wa width most : ℕ) (fa : Env → ℕ) (g : ℕ → ℕ → ℕ) (a net : Net) → Carries s d old wa most fa a
    → (InScope (scope_of d) old a → InScope (scope_of d) new net) → net.width ≡ width → net.level ≡ a.level
    → ((env : Env) → net_value env new net ≡ g a.width (net_value env old a)) → Carries s d new width most (λ env. g wa (fa env)) net
carry_one s d old new wa width most fa g a net ha scope wide level value_is = record {
  scope = scope ha.scope;
  wide = wide;
  level = omega (arith, ha.level);
  value_is = λ env is.
      let w = ha.wide in
      let x = ha.value_is env is in
      value_is env ∙ (λ i. g (w i) (x i));
}

pub carry_two : (s : Scope) (d : ModuleValue) (old new : PoolValue) (wa wb width most : ℕ) (fa fb : Env → ℕ) (g : ℕ → ℕ → ℕ → ℕ) (a b net : Net) → Carries s d old wa most fa a → Carries s d old wb most fb b
    → (InScope (scope_of d) old a → InScope (scope_of d) old b → InScope (scope_of d) new net) → net.width ≡ width → net.level ≡ max a.level b.level
    → ((env : Env) → net_value env new net ≡ g a.width (net_value env old a) (net_value env old b)) → Carries s d new width most (λ env. g wa (fa env) (fb env)) net
carry_two s d old new wa wb width most fa fb g a b net ha hb scope wide level value_is = record {
  scope = scope ha.scope hb.scope;
  wide = wide;
  level = omega (arith, ha.level, hb.level);
  value_is = λ env is.
      let w = ha.wide in
      let x = ha.value_is env is in
      let y = hb.value_is env is in
      value_is env ∙ (λ i. g (w i) (x i) (y i));
}

-- a cell of an array
pub carry_read : (s : Scope) (d : ModuleValue) (old new : PoolValue) (array bits width most : ℕ) (f : Env → ℕ) (a net : Net) → Carries s d old bits most f a → InScope (scope_of d) new net
    → net.width ≡ width → net.level ≡ a.level → ((env : Env) → net_value env new net ≡ get_or (env.cells array) (net_value env old a) 0)
    → Carries s d new width most (λ env. get_or (env.cells array) (f env) 0) net
carry_read s d old new array bits width most f a net h scope wide level value_is = record {
  scope = scope;
  wide = wide;
  level = omega (arith, h.level);
  value_is = λ env is. value_is env ∙ ap (λ (x : ℕ). get_or (env.cells array) x 0) (h.value_is env is);
}

-- an output of a service
pub carry_output : (s : Scope) (d : ModuleValue) (pool : PoolValue) (width most : ℕ) (f : Env → ℕ) (net : Net) → Carries s d pool width most f net → IsOutput d pool most width net
carry_output s d pool width most f net h = record { scope = h.scope; wide = h.wide; level = h.level }
