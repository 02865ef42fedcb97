use Rattle.std.proofs.Common.{◌≡◌, ◌∙◌, Bool, true, false, cond, List, [], ◌∷◌, ◌++◌, arith, ap}
use Rattle.service_ports.specs.declared.ports.ExecOffer.{ExecOffer}
use Rattle.service_ports.specs.Registry.{RegistryValue}
use Rattle.service_ports.proofs.Offers.{adds_exec}
use Rattle.service_ports.proofs.registry.Registry.offer_exec.Goals as goal

-- what was pushed where the push succeeded
pushed : (b : Bool) (old new : List ExecOffer) (n : ExecOffer) → b ≡ true → new ≡ cond b (old ++ n ∷ []) old → new ≡ old ++ n ∷ []
pushed true old new n ok is = is
pushed false old new n ok is = absurd (let e : false ≡ true = ok in cc)

pub returns-clause-adds : goal.returns-clause-adds
returns-clause-adds c =
    let room : c.self.inside.room ≡ c.args.self.now.room = ap (λ (v : RegistryValue). v.room) c.self.view_is in
    let is = pushed _ c.self.inside.execs.items c.push.new.self.items (record { by = c.args.by; ports = c.args.ports }) (c.push.ensures.succeeds (omega (arith, c.requires, c.self.invariant))) c.push.ensures.items in
    let same : c.self.inside.execs.items ≡ c.args.self.now.execs = ap (λ (v : RegistryValue). v.execs) c.self.view_is in
    adds_exec c.args.by c.args.ports c.args.self.now _ (is ∙ ap (λ (os : List ExecOffer). os ++ record { by = c.args.by; ports = c.args.ports } ∷ []) same)
    (ap (λ (v : RegistryValue). v.fetch) c.self.view_is) (ap (λ (v : RegistryValue). v.predict) c.self.view_is) (ap (λ (v : RegistryValue). v.decoder) c.self.view_is) (ap (λ (v : RegistryValue). v.regfile) c.self.view_is) (ap (λ (v : RegistryValue). v.hazard) c.self.view_is) (ap (λ (v : RegistryValue). v.databus) c.self.view_is) (ap (λ (v : RegistryValue). v.system) c.self.view_is)
