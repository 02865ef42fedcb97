-- What is driven, from drivers and the functions of their nets.
use Rattle.std.proofs.Common.{◌≡◌, ◌∙◌, ℕ, ◌+◌, ◌<◌, List, length, arith, ap, refl, sym, Option, None, Some}
use Rattle.hw_pool.specs.Nodes.{PoolValue}
use Rattle.hw_pool.specs.Meaning.{Env, value}
use Rattle.hw_pool.specs.Scope.{Scope}
use Rattle.hw_expr.specs.declared.net.Net.{Net}
use Rattle.hw_gates.specs.Places.{place, value_in, worth}
use Rattle.hw_gates.proofs.Has.{in_scope, is_in}
use Rattle.hw_gates.proofs.Steps.{none}
use Rattle.hw_module.specs.declared.rows.Owner.TheVariants.{Pipe}
use Rattle.hw_module.specs.declared.rows.RegRow.{RegRow}
use Rattle.hw_module.specs.Rows.{ModuleValue, reg_at, wire_at}
use Rattle.hw_module.specs.Scope.{scope_of}
use Rattle.hw_module.specs.Frame.{Grows}
use Rattle.hw_module.proofs.Frames.{grows_then}
use Rattle.hw_module.proofs.Scopes.{fits_of, kept_grown}
use Rattle.plug_part.specs.Of.{net_tree, tree_option}
use Rattle.plug_part.specs.Things.{IsDriven}
use Rattle.plug_build.specs.Fits.{IsInput}
use Rattle.pipe_drive.specs.Drives.{CanDrive, CanMove}
use Rattle.pipe_steps.specs.Drives.{RegHas, WireHas}
use Rattle.pipe_build.specs.Bears.{Bears, Later}
use Rattle.pipe_build.specs.Made.{IsReg}

tree_value : (env : Env) (pool : PoolValue) (net : Net) → value env (net_tree pool.nodes net) ≡ value_in env pool net
unfolding place worth
tree_value env pool net = refl

pub driven_by : {s : Scope} {pool : PoolValue} {width level : ℕ} {f : Env → ℕ} {net : Net} (o : Option Net) → o ≡ Some net → Bears s pool width level f net → IsDriven (tree_option pool.nodes o) f
driven_by {s} {pool} {width} {level} {f} {net} o e h = record {
  tree = net_tree pool.nodes net;
  is = ap (tree_option pool.nodes) e;
  value_is = λ env. tree_value env pool net ∙ h.value_is env;
}

module _ (d : ModuleValue) where
  pub wire_has : {s : Scope} {pool : PoolValue} {width level : ℕ} {f : Env → ℕ} {net : Net} (wire : ℕ) → wire < length d.wires → (wire_at d.wires wire).driver ≡ Some net → Bears s pool width level f net
      → WireHas d pool.nodes wire f
  wire_has wire there e h = record { there = there; driven = driven_by _ e h }

  pub reg_has : {s : Scope} {pool : PoolValue} {width level : ℕ} {f : Env → ℕ} {net : Net} (reg : ℕ) (reset : Option ℕ) → reg < length d.regs → (reg_at d.regs reg).width ≡ width → (reg_at d.regs reg).reset ≡ reset
      → (reg_at d.regs reg).next ≡ Some net → Bears s pool width level f net → RegHas d pool.nodes reg width reset f
  reg_has reg reset there wide same e h = record { there = there; wide = wide; reset_is = same; driven = driven_by _ e h }

  pub can_drive : {pool : PoolValue} {by wire level : ℕ} {shape : ℕ × ℕ} {f : Env → ℕ} {net : Net} → IsInput d by wire shape → (wire_at d.wires wire).driver ≡ None → level < shape.1
      → Bears (scope_of d) pool shape.0 level f net → CanDrive d pool wire net
  can_drive {pool} {by} {wire} {level} {shape} {f} {net} input free below h = record {
    there = input.there;
    free = free;
    fits = fits_of d pool net (in_scope (scope_of d) pool net h.is.0 h.takes);
    width = h.is.1 ∙ sym input.width;
    below = let e = input.level in let l = h.is.2 in omega arith;
  }

  pub can_move : {pool : PoolValue} {reg width level : ℕ} {f : Env → ℕ} {net : Net} → IsReg d reg width → (reg_at d.regs reg).owner ≡ Pipe → (reg_at d.regs reg).next ≡ None
      → Bears (scope_of d) pool width level f net → CanMove d pool reg net
  can_move {pool} {reg} {width} {level} {f} {net} row own free h = record {
    there = row.there;
    own = own;
    free = free;
    fits = fits_of d pool net (in_scope (scope_of d) pool net h.is.0 h.takes);
    width = h.is.1 ∙ sym row.wide;
  }

-- nets fit a module that has grown
pub later_grown : (old new : ModuleValue) (n : ℕ) (pool : PoolValue) → Grows old new n → Later (scope_of old) pool (scope_of new) pool
later_grown old new n pool grows = record {
  many = 0;
  step = none pool;
  scope = λ net has is. is_in (scope_of new) pool net (kept_grown old new n pool net grows (in_scope (scope_of old) pool net has is));
}

-- rows of registers stay where all do
pub same_reg : (old new : ModuleValue) (reg width : ℕ) → new.regs ≡ old.regs → IsReg old reg width → IsReg new reg width
same_reg old new reg width same h = record {
  there = let e = ap length same in let l = h.there in omega arith;
  wide = ap (λ (rs : List RegRow). (reg_at rs reg).width) same ∙ h.wide;
}

pub grows_both : {a b c : ModuleValue} {m n : ℕ} → Grows a b m → Grows b c n → Grows a c (m + n)
grows_both {a} {b} {c} {m} {n} first second = grows_then a b c m n (m + n) first second (omega arith)
