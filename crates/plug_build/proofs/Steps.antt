-- A module inside a builder, whose scope is told by the builder's value.
use Rattle.std.proofs.Common.{◌≡◌, ℕ, sym, subst}
use Rattle.hw_pool.specs.Nodes.{PoolValue}
use Rattle.hw_expr.specs.declared.net.Net.{Net}
use Rattle.hw_expr.specs.Nets.{InScope}
use Rattle.hw_module.specs.Rows.{ModuleValue}
use Rattle.hw_module.specs.Fits.{FitsIn}
use Rattle.hw_module.specs.Frame.{Grows}
use Rattle.hw_module.specs.Scope.{scope_of}
use Rattle.hw_module.proofs.Scopes.{fits_of, kept_grown}
use Rattle.plug_build.specs.World.{BuilderValue}

pub scope_step : (m : ModuleValue) (entry : ℕ) (b : BuilderValue) (pool : PoolValue) (net : Net) → record { design = m; entry = entry } ≡ b
    → InScope (scope_of m) pool net → InScope (scope_of b.design) pool net
scope_step m entry b pool net is h = subst (λ (v : BuilderValue). InScope (scope_of v.design) pool net) is h

back-step : (m : ModuleValue) (entry : ℕ) (b : BuilderValue) (pool : PoolValue) (net : Net) → record { design = m; entry = entry } ≡ b
    → InScope (scope_of b.design) pool net → InScope (scope_of m) pool net
back-step m entry b pool net is h = subst (λ (v : BuilderValue). InScope (scope_of v.design) pool net) (sym is) h

pub fits_step : (m : ModuleValue) (entry : ℕ) (b : BuilderValue) (pool : PoolValue) (net : Net) → record { design = m; entry = entry } ≡ b
    → InScope (scope_of b.design) pool net → FitsIn m pool net
fits_step m entry b pool net is h = fits_of m pool net (back-step m entry b pool net is h)

pub kept_step : (m new : ModuleValue) (entry n : ℕ) (b : BuilderValue) (pool : PoolValue) (net : Net) → record { design = m; entry = entry } ≡ b → Grows m new n
    → InScope (scope_of b.design) pool net → InScope (scope_of new) pool net
kept_step m new entry n b pool net is grows h = kept_grown m new n pool net grows (back-step m entry b pool net is h)
