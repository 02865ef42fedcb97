-- An entry that builds alone: nothing is offered before it, and then what it offers.
use Rattle.std.proofs.Common.{◌≡◌, ◌∙◌, ℕ, [], refl, arith, ap, sym, subst, true, false, eqb, is_some, Option, None, Some}
use Rattle.std.proofs.lemmas.Bool.{both_ways, cond-true, eq-eqb}
use Rattle.hw_pool.specs.Nodes.{PoolValue}
use Rattle.hw_module.specs.Rows.{ModuleValue}
use Rattle.service_reg.specs.declared.service.Service.{Service}
use Rattle.service_reg.specs.declared.service.Service.TheVariants.{Fetch, Predict, Decoder, RegFile, Hazard, Exec, DataBus, System}
use Rattle.service_ports.specs.Registry.{Offered, OffersBy, RegistryValue, own_single, single}
use Rattle.service_ports.proofs.Offers.{none_some}
use Rattle.plug_part.specs.Owned.{is_input_of, is_predict_input, offers, ports_of}
use Rattle.plug_build.specs.Fits.{OfferKey, OffersFit, ports_at}
use Rattle.plug_build.specs.Fits.OfferKey.{The, ExecAt}

nothing : ℕ → RegistryValue
nothing room = record { fetch = None; predict = None; decoder = None; regfile = None; hazard = None; databus = None; system = None; execs = []; room = room }

no_single : (room : ℕ) (s : Service) → single (nothing room) s ≡ None
unfolding nothing
no_single room Fetch = refl
no_single room Predict = refl
no_single room Decoder = refl
no_single room RegFile = refl
no_single room Hazard = refl
no_single room Exec = refl
no_single room DataBus = refl
no_single room System = refl

no_input : (room : ℕ) (x : OfferKey) (k : ℕ) → is_input_of (ports_at (nothing room) x) k ≡ false
unfolding nothing
no_input room (The s) k = ap (λ (o : Option Offered). is_input_of (ports_of o) k) (no_single room s)
no_input room (ExecAt i) k = refl

none_fit : (d : ModuleValue) (pool : PoolValue) (room : ℕ) → OffersFit d pool (nothing room)
unfolding nothing
none_fit d pool room = record {
  singles = λ s o e. absurd (none_some _ o (no_single room s) e);
  execs = λ k o l e. absurd (omega arith);
  once = λ i j o q li ei lj ej same. absurd (omega arith);
  apart = λ x y k is other. absurd (both_ways (is_input_of (ports_at (nothing room) x) k) (no_input room x k) is);
}

-- where nothing is offered, all offers fit
pub offers_none : (d : ModuleValue) (pool : PoolValue) (reg : RegistryValue) (room : ℕ)
    → reg ≡ record { fetch = None; predict = None; decoder = None; regfile = None; hazard = None; databus = None; system = None; execs = []; room = room } → OffersFit d pool reg
unfolding nothing
offers_none d pool reg room is = subst (OffersFit d pool) (sym is) (none_fit d pool room)

-- no other entry offers Predict, so there is none where this one does not
pub no_predict : (e : ℕ) (old new : RegistryValue) → single old Predict ≡ None → OffersBy e old new → offers new e Predict ≡ false → (k : ℕ) → is_predict_input new k ≡ true → ⊥
no_predict e old new none by others k is = go (single new Predict) refl
  where
    go : (o : Option Offered) → single new Predict ≡ o → ⊥
    go None at = both_ways false refl (sym (ap (λ (x : Option Offered). is_input_of (ports_of x) k) at) ∙ is)
    go (Some o) at =
        let own : o.by ≡ e = by.added Predict o none at in
        both_ways (offers new e Predict) others
        (ap (λ (x : Option Offered). is_some (own_single e x)) at ∙ ap (λ x. is_some x) (cond-true (eqb o.by e) (Some o.ports) None (eq-eqb o.by e own)))
