-- What a refusal says of the fault.
use Rattle.std.proofs.Common.{◌≡◌, ℕ}
use Rattle.plug_api.specs.declared.spec.ParamFault.{ParamFault}
use Rattle.plug_api.specs.declared.spec.ParamFault.TheVariants.{Unknown, Range}
use Rattle.plug_api.specs.declared.spec.ParamFault.TheVariants as fault
use Rattle.plug_api.specs.declared.refusal.RuleRefusal.{RuleRefusal}
use Rattle.plug_api.specs.declared.refusal.RuleRefusal.TheVariants.{BadParam, NoMemory}
use Rattle.plug_api.specs.Accept.{refusal_of}

pub record Blames (entry : ℕ) (f : ParamFault) (r : RuleRefusal) : Type 0 where
  pub not_memory : f ≡ fault.NoMemory → ⊥
  pub is : r ≡ BadParam entry f

pub blames : (entry : ℕ) (f : ParamFault) (r : RuleRefusal) → r ≡ refusal_of entry f → (r ≡ NoMemory → ⊥) → Blames entry f r
blames entry (Unknown key) r e n = record { not_memory = λ m. cc; is = e }
blames entry (Range key found low high) r e n = record { not_memory = λ m. cc; is = e }
blames entry fault.NoMemory r e n = absurd (n e)
