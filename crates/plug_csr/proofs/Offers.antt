-- What an entry offers that offered nothing, once it offers System and then Exec.
use Rattle.std.proofs.Common.{◌≡◌, ◌∙◌, ℕ, [], ◌∷◌, ap, refl, false, Option, Some, None, is_some}
use Rattle.service_reg.specs.declared.service.Service.{Service}
use Rattle.service_reg.specs.declared.service.Service.TheVariants.{Fetch, Predict, Decoder, RegFile, Hazard, Exec, DataBus, System}
use Rattle.service_ports.specs.Ports.{Ports}
use Rattle.service_ports.specs.Registry.{RegistryValue, AddsOffer, offer_of}
use Rattle.plug_part.specs.Owned.{offers}
use Rattle.plug_api.specs.Spec.{is_among}
use Rattle.plug_csr.specs.Builds.{is_own}

module _ (e : ℕ) (old mid new : RegistryValue) (system exec : Ports) (nothing : (s : Service) → offer_of old e s ≡ None)
    (first : AddsOffer System e system old mid) (second : AddsOffer Exec e exec mid new) where
  pub exec_is : offer_of new e Exec ≡ Some exec
  exec_is = second.own (first.others e Exec (λ h. cc) ∙ nothing Exec)

  pub system_is : offer_of new e System ≡ Some system
  system_is = second.others e System (λ h. cc) ∙ first.own (nothing System)

  pub other : (s : Service) → (s ≡ Exec → ⊥) → (s ≡ System → ⊥) → offer_of new e s ≡ None
  other s x b = second.others e s x ∙ (first.others e s b ∙ nothing s)

  pub none_else : (s : Service) → is_own s ≡ false → offer_of new e s ≡ None
  none_else Fetch h = other Fetch (λ h. cc) (λ h. cc)
  none_else Predict h = other Predict (λ h. cc) (λ h. cc)
  none_else Decoder h = other Decoder (λ h. cc) (λ h. cc)
  none_else RegFile h = other RegFile (λ h. cc) (λ h. cc)
  none_else Hazard h = other Hazard (λ h. cc) (λ h. cc)
  none_else Exec h = absurd cc
  none_else DataBus h = other DataBus (λ h. cc) (λ h. cc)
  none_else System h = absurd cc

  pub its_own : (s : Service) → offers new e s ≡ is_among (Exec ∷ System ∷ []) s
  its_own Fetch = ap (λ (o : Option Ports). is_some o) (none_else Fetch refl)
  its_own Predict = ap (λ (o : Option Ports). is_some o) (none_else Predict refl)
  its_own Decoder = ap (λ (o : Option Ports). is_some o) (none_else Decoder refl)
  its_own RegFile = ap (λ (o : Option Ports). is_some o) (none_else RegFile refl)
  its_own Hazard = ap (λ (o : Option Ports). is_some o) (none_else Hazard refl)
  its_own Exec = ap (λ (o : Option Ports). is_some o) exec_is
  its_own DataBus = ap (λ (o : Option Ports). is_some o) (none_else DataBus refl)
  its_own System = ap (λ (o : Option Ports). is_some o) system_is
