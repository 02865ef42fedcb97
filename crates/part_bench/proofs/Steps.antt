-- What is kept, step by step.
use Rattle.std.proofs.Common.{◌≡◌, ◌∙◌, ℕ, length, refl}
use Rattle.hw_pool.specs.Nodes.{PoolValue}
use Rattle.hw_pool.specs.Frame.{Adds}
use Rattle.hw_pool.specs.Scope.{Scope}
use Rattle.hw_expr.specs.declared.net.Net.{Net}
use Rattle.hw_expr.specs.Nets.{InScope}
use Rattle.hw_module.specs.Rows.{ModuleValue}
use Rattle.hw_module.specs.Checked.{DriversFit}
use Rattle.hw_module.specs.Frame.{Grows}
use Rattle.hw_module.proofs.Drivers.{drivers_stay}
use Rattle.hw_module.proofs.Scopes.{kept_grown}
use Rattle.part_bench.specs.Whole.{Keeps}

-- nothing happened
pub still : (m : ModuleValue) (p : PoolValue) → DriversFit m p → Keeps m p m p
still m p fit = record { drivers = fit; nets = λ net is. is; wires = refl }

-- one behind the other
pub behind : (m m' m'' : ModuleValue) (p p' p'' : PoolValue) → Keeps m p m' p' → Keeps m' p' m'' p'' → Keeps m p m'' p''
behind m m' m'' p p' p'' a b = record { drivers = b.drivers; nets = λ net is. b.nets net (a.nets net is); wires = b.wires ∙ a.wires }

-- the module grows
pub grown : (m m' : ModuleValue) (p : PoolValue) (n : ℕ) → Grows m m' n → length m'.wires ≡ length m.wires → DriversFit m' p → Keeps m p m' p
grown m m' p n grows wires fit = record { drivers = fit; nets = λ net is. kept_grown m m' n p net grows is; wires = wires }

-- nodes are added
pub more_nodes : (m : ModuleValue) (p p' : PoolValue) (n : ℕ) → Adds p p' n → ((s : Scope) (net : Net) → InScope s p net → InScope s p' net) → DriversFit m p → Keeps m p m p'
more_nodes m p p' n adds kept fit = record { drivers = drivers_stay m p p' n adds fit; nets = λ net is. kept _ net is; wires = refl }
