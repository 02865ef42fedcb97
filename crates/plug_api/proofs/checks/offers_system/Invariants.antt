use Rattle.std.proofs.Common.{◌<◌, ℕ}
use Rattle.service_reg.specs.declared.service.Service.TheVariants.{System}
use Rattle.service_reg.specs.Services.{Offers}
use Rattle.plug_api.specs.Accept.{uses_of}
use Rattle.plug_api.proofs.checks.offers_system.Given as goal

abbrev pub invariant-loop-entry : goal.invariant-loop-entry
invariant-loop-entry l = (i : ℕ) → i < l.entry → Offers (uses_of l.specs.items) i System → ⊥
