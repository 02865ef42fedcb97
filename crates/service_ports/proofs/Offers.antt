-- One more offer of a service.
use Rattle.std.proofs.Common.{◌≡◌, ◌∙◌, ℕ, zero, suc, List, [], ◌∷◌, ◌++◌, arith, ap, refl, sym, Bool, true, false, cond, eqb, Option, None, Some, inl, inr, ◌⊎◌}
use Rattle.std.specs.Prelude.{All}
use Rattle.std.proofs.lemmas.Bool.{cond-true, eq-eqb}
use Rattle.service_reg.specs.declared.service.Service.{Service}
use Rattle.service_reg.specs.declared.service.Service.TheVariants.{Fetch, Predict, Decoder, RegFile, Hazard, Exec, DataBus, System}
use Rattle.service_ports.specs.declared.ports.FetchPorts.{FetchPorts}
use Rattle.service_ports.specs.declared.ports.PredictPorts.{PredictPorts}
use Rattle.service_ports.specs.declared.ports.DecoderPorts.{DecoderPorts}
use Rattle.service_ports.specs.declared.ports.RegFilePorts.{RegFilePorts}
use Rattle.service_ports.specs.declared.ports.HazardPorts.{HazardPorts}
use Rattle.service_ports.specs.declared.ports.DataBusPorts.{DataBusPorts}
use Rattle.service_ports.specs.declared.ports.SystemPorts.{SystemPorts}
use Rattle.service_ports.specs.declared.ports.ExecPorts.{ExecPorts}
use Rattle.service_ports.specs.declared.ports.ExecOffer.{ExecOffer}
use Rattle.service_ports.specs.Ports.{Ports, fetch_ports, predict_ports, decoder_ports, regfile_ports, hazard_ports, exec_ports, databus_ports, system_ports}
use Rattle.service_ports.specs.Registry.{RegistryValue, Offered, offered_as, single, exec_of, own_single, offer_of, AddsOffer, OffersBy}
use Rattle.std.proofs.lemmas.List.{append_assoc}
use Rattle.std.proofs.lemmas.List.Elements.{All-append}

pub none_some : {A : Type 0} (x : Option A) (y : A) → x ≡ None → x ≡ Some y → ⊥
none_some x y n s = let e : ◌≡◌ {A = Option _} None (Some y) = sym n ∙ s in cc

by-self : (by : ℕ) (p : Ports) (o : Option Offered) → o ≡ Some (record { by = by; ports = p }) → own_single by o ≡ Some p
by-self by p o e = ap (own_single by) e ∙ cond-true (eqb by by) (Some p) None (eq-eqb by by refl)

append-none : (os : List ExecOffer) → os ≡ os ++ []
append-none [] = refl
append-none (o ∷ os) = ap (λ (rest : List ExecOffer). o ∷ rest) (append-none os)

-- who offers a service that one entry alone offers
pub own_of : (r : RegistryValue) (by : ℕ) (s : Service) (p : Ports) → single r s ≡ Some (record { by = by; ports = p }) → offer_of r by s ≡ Some p
own_of r by Fetch p e = by-self by p (single r Fetch) e
own_of r by Predict p e = by-self by p (single r Predict) e
own_of r by Decoder p e = by-self by p (single r Decoder) e
own_of r by RegFile p e = by-self by p (single r RegFile) e
own_of r by Hazard p e = by-self by p (single r Hazard) e
own_of r by Exec p e = absurd (none_some None _ refl e)
own_of r by DataBus p e = by-self by p (single r DataBus) e
own_of r by System p e = by-self by p (single r System) e

-- ---- each service is the one that is offered, or its field stays as it was

module _ (s : Service) (old new : RegistryValue)
    (fetch : (s ≡ Fetch) ⊎ (new.fetch ≡ old.fetch)) (predict : (s ≡ Predict) ⊎ (new.predict ≡ old.predict)) (decoder : (s ≡ Decoder) ⊎ (new.decoder ≡ old.decoder)) (regfile : (s ≡ RegFile) ⊎ (new.regfile ≡ old.regfile)) (hazard : (s ≡ Hazard) ⊎ (new.hazard ≡ old.hazard)) (databus : (s ≡ DataBus) ⊎ (new.databus ≡ old.databus)) (system : (s ≡ System) ⊎ (new.system ≡ old.system)) where
  pick : (t : Service) → (s ≡ t) ⊎ (single new t ≡ single old t)
  pick Fetch = elim fetch [ inl is ↦ inl is | inr e ↦ inr (ap (offered_as fetch_ports) e) ]
  pick Predict = elim predict [ inl is ↦ inl is | inr e ↦ inr (ap (offered_as predict_ports) e) ]
  pick Decoder = elim decoder [ inl is ↦ inl is | inr e ↦ inr (ap (offered_as decoder_ports) e) ]
  pick RegFile = elim regfile [ inl is ↦ inl is | inr e ↦ inr (ap (offered_as regfile_ports) e) ]
  pick Hazard = elim hazard [ inl is ↦ inl is | inr e ↦ inr (ap (offered_as hazard_ports) e) ]
  pick Exec = inr refl
  pick DataBus = elim databus [ inl is ↦ inl is | inr e ↦ inr (ap (offered_as databus_ports) e) ]
  pick System = elim system [ inl is ↦ inl is | inr e ↦ inr (ap (offered_as system_ports) e) ]

  pub singles : (t : Service) → (t ≡ s → ⊥) → single new t ≡ single old t
  singles t away = elim (pick t) [ inl is ↦ absurd (away (sym is)) | inr e ↦ e ]

  pub others : (execs : (e : ℕ) → (Exec ≡ s → ⊥) → exec_of e new.execs ≡ exec_of e old.execs) → (e : ℕ) (t : Service) → (t ≡ s → ⊥) → offer_of new e t ≡ offer_of old e t
  others execs = at
    where
      at : (e : ℕ) (t : Service) → (t ≡ s → ⊥) → offer_of new e t ≡ offer_of old e t
      at e Fetch h = ap (own_single e) (singles Fetch h)
      at e Predict h = ap (own_single e) (singles Predict h)
      at e Decoder h = ap (own_single e) (singles Decoder h)
      at e RegFile h = ap (own_single e) (singles RegFile h)
      at e Hazard h = ap (own_single e) (singles Hazard h)
      at e Exec h = execs e h
      at e DataBus h = ap (own_single e) (singles DataBus h)
      at e System h = ap (own_single e) (singles System h)

  module _ (by : ℕ) (p : Ports) (same : new.execs ≡ old.execs) (none : single old s ≡ None) (is : single new s ≡ Some (record { by = by; ports = p })) where
    kept : (t : Service) (o : Offered) → single old t ≡ Some o → single new t ≡ Some o
    kept t o e = elim (pick t) [ inl here ↦ absurd (none_some (single old t) o (ap (single old) (sym here) ∙ none) e) | inr stays ↦ stays ∙ e ]

    some-eq : {A : Type 0} {a b : A} → Some a ≡ Some b → a ≡ b
    some-eq e = cc

    added : (t : Service) (o : Offered) → single old t ≡ None → single new t ≡ Some o → o.by ≡ by
    added t o before e = elim (pick t) [
      | inl here ↦ ap (λ (x : Offered). x.by) (some-eq (sym e ∙ ap (single new) (sym here) ∙ is))
      | inr stays ↦ absurd (none_some (single new t) o (stays ∙ before) e)
    ]

    no-more : All (λ (o : ExecOffer). o.by ≡ by) []
    no-more i d l = absurd (omega arith)

    pub adds_one : AddsOffer s by p old new
    adds_one = record {
      own = λ before. own_of new by s p is;
      others = others (λ e away. ap (exec_of e) same);
      singles = singles;
      offers = record { kept = kept; added = added; more = []; execs = same ∙ append-none old.execs; execs_by = no-more };
    }

pub adds_single : (s : Service) (by : ℕ) (p : Ports) (old new : RegistryValue)
    → (s ≡ Fetch) ⊎ (new.fetch ≡ old.fetch) → (s ≡ Predict) ⊎ (new.predict ≡ old.predict) → (s ≡ Decoder) ⊎ (new.decoder ≡ old.decoder) → (s ≡ RegFile) ⊎ (new.regfile ≡ old.regfile) → (s ≡ Hazard) ⊎ (new.hazard ≡ old.hazard) → (s ≡ DataBus) ⊎ (new.databus ≡ old.databus) → (s ≡ System) ⊎ (new.system ≡ old.system)
    → new.execs ≡ old.execs → single old s ≡ None → single new s ≡ Some (record { by = by; ports = p }) → AddsOffer s by p old new
adds_single s by p old new fetch predict decoder regfile hazard databus system execs none is = adds_one s old new fetch predict decoder regfile hazard databus system by p execs none is

pub adds_fetch : (by : ℕ) (p : FetchPorts) (old new : RegistryValue) → old.fetch ≡ None → new ≡ record old { fetch = Some (by, p) } → AddsOffer Fetch by (fetch_ports p) old new
adds_fetch by p old new none is =
    let at : single new Fetch ≡ Some (record { by = by; ports = fetch_ports p }) = ap (λ (r : RegistryValue). single r Fetch) is in
    adds_single Fetch by (fetch_ports p) old new (inl refl) (inr (ap (λ (r : RegistryValue). r.predict) is)) (inr (ap (λ (r : RegistryValue). r.decoder) is)) (inr (ap (λ (r : RegistryValue). r.regfile) is)) (inr (ap (λ (r : RegistryValue). r.hazard) is)) (inr (ap (λ (r : RegistryValue). r.databus) is)) (inr (ap (λ (r : RegistryValue). r.system) is))
    (ap (λ (r : RegistryValue). r.execs) is) (ap (offered_as fetch_ports) none) at

pub adds_predict : (by : ℕ) (p : PredictPorts) (old new : RegistryValue) → old.predict ≡ None → new ≡ record old { predict = Some (by, p) } → AddsOffer Predict by (predict_ports p) old new
adds_predict by p old new none is =
    let at : single new Predict ≡ Some (record { by = by; ports = predict_ports p }) = ap (λ (r : RegistryValue). single r Predict) is in
    adds_single Predict by (predict_ports p) old new (inr (ap (λ (r : RegistryValue). r.fetch) is)) (inl refl) (inr (ap (λ (r : RegistryValue). r.decoder) is)) (inr (ap (λ (r : RegistryValue). r.regfile) is)) (inr (ap (λ (r : RegistryValue). r.hazard) is)) (inr (ap (λ (r : RegistryValue). r.databus) is)) (inr (ap (λ (r : RegistryValue). r.system) is))
    (ap (λ (r : RegistryValue). r.execs) is) (ap (offered_as predict_ports) none) at

pub adds_decoder : (by : ℕ) (p : DecoderPorts) (old new : RegistryValue) → old.decoder ≡ None → new ≡ record old { decoder = Some (by, p) } → AddsOffer Decoder by (decoder_ports p) old new
adds_decoder by p old new none is =
    let at : single new Decoder ≡ Some (record { by = by; ports = decoder_ports p }) = ap (λ (r : RegistryValue). single r Decoder) is in
    adds_single Decoder by (decoder_ports p) old new (inr (ap (λ (r : RegistryValue). r.fetch) is)) (inr (ap (λ (r : RegistryValue). r.predict) is)) (inl refl) (inr (ap (λ (r : RegistryValue). r.regfile) is)) (inr (ap (λ (r : RegistryValue). r.hazard) is)) (inr (ap (λ (r : RegistryValue). r.databus) is)) (inr (ap (λ (r : RegistryValue). r.system) is))
    (ap (λ (r : RegistryValue). r.execs) is) (ap (offered_as decoder_ports) none) at

pub adds_regfile : (by : ℕ) (p : RegFilePorts) (old new : RegistryValue) → old.regfile ≡ None → new ≡ record old { regfile = Some (by, p) } → AddsOffer RegFile by (regfile_ports p) old new
adds_regfile by p old new none is =
    let at : single new RegFile ≡ Some (record { by = by; ports = regfile_ports p }) = ap (λ (r : RegistryValue). single r RegFile) is in
    adds_single RegFile by (regfile_ports p) old new (inr (ap (λ (r : RegistryValue). r.fetch) is)) (inr (ap (λ (r : RegistryValue). r.predict) is)) (inr (ap (λ (r : RegistryValue). r.decoder) is)) (inl refl) (inr (ap (λ (r : RegistryValue). r.hazard) is)) (inr (ap (λ (r : RegistryValue). r.databus) is)) (inr (ap (λ (r : RegistryValue). r.system) is))
    (ap (λ (r : RegistryValue). r.execs) is) (ap (offered_as regfile_ports) none) at

pub adds_hazard : (by : ℕ) (p : HazardPorts) (old new : RegistryValue) → old.hazard ≡ None → new ≡ record old { hazard = Some (by, p) } → AddsOffer Hazard by (hazard_ports p) old new
adds_hazard by p old new none is =
    let at : single new Hazard ≡ Some (record { by = by; ports = hazard_ports p }) = ap (λ (r : RegistryValue). single r Hazard) is in
    adds_single Hazard by (hazard_ports p) old new (inr (ap (λ (r : RegistryValue). r.fetch) is)) (inr (ap (λ (r : RegistryValue). r.predict) is)) (inr (ap (λ (r : RegistryValue). r.decoder) is)) (inr (ap (λ (r : RegistryValue). r.regfile) is)) (inl refl) (inr (ap (λ (r : RegistryValue). r.databus) is)) (inr (ap (λ (r : RegistryValue). r.system) is))
    (ap (λ (r : RegistryValue). r.execs) is) (ap (offered_as hazard_ports) none) at

pub adds_databus : (by : ℕ) (p : DataBusPorts) (old new : RegistryValue) → old.databus ≡ None → new ≡ record old { databus = Some (by, p) } → AddsOffer DataBus by (databus_ports p) old new
adds_databus by p old new none is =
    let at : single new DataBus ≡ Some (record { by = by; ports = databus_ports p }) = ap (λ (r : RegistryValue). single r DataBus) is in
    adds_single DataBus by (databus_ports p) old new (inr (ap (λ (r : RegistryValue). r.fetch) is)) (inr (ap (λ (r : RegistryValue). r.predict) is)) (inr (ap (λ (r : RegistryValue). r.decoder) is)) (inr (ap (λ (r : RegistryValue). r.regfile) is)) (inr (ap (λ (r : RegistryValue). r.hazard) is)) (inl refl) (inr (ap (λ (r : RegistryValue). r.system) is))
    (ap (λ (r : RegistryValue). r.execs) is) (ap (offered_as databus_ports) none) at

pub adds_system : (by : ℕ) (p : SystemPorts) (old new : RegistryValue) → old.system ≡ None → new ≡ record old { system = Some (by, p) } → AddsOffer System by (system_ports p) old new
adds_system by p old new none is =
    let at : single new System ≡ Some (record { by = by; ports = system_ports p }) = ap (λ (r : RegistryValue). single r System) is in
    adds_single System by (system_ports p) old new (inr (ap (λ (r : RegistryValue). r.fetch) is)) (inr (ap (λ (r : RegistryValue). r.predict) is)) (inr (ap (λ (r : RegistryValue). r.decoder) is)) (inr (ap (λ (r : RegistryValue). r.regfile) is)) (inr (ap (λ (r : RegistryValue). r.hazard) is)) (inr (ap (λ (r : RegistryValue). r.databus) is)) (inl refl)
    (ap (λ (r : RegistryValue). r.execs) is) (ap (offered_as system_ports) none) at

-- ---- one more offer of Exec

past : (b : Bool) (x : Ports) (rest more : Option Ports) (p : Ports) → (rest ≡ None → more ≡ Some p) → cond b (Some x) rest ≡ None → cond b (Some x) more ≡ Some p
past true x rest more p f h = absurd (none_some _ x h refl)
past false x rest more p f h = f h

-- where an entry offers no Exec yet, the last offer is its own
exec-of-end : (entry : ℕ) (os : List ExecOffer) (o : ExecOffer) → o.by ≡ entry → exec_of entry os ≡ None → exec_of entry (os ++ o ∷ []) ≡ Some (exec_ports o.ports)
exec-of-end entry [] o own none = cond-true (eqb o.by entry) _ None (eq-eqb o.by entry own)
exec-of-end entry (x ∷ xs) o own none = past (eqb x.by entry) (exec_ports x.ports) (exec_of entry xs) (exec_of entry (xs ++ o ∷ [])) _ (exec-of-end entry xs o own) none

pub adds_exec : (by : ℕ) (p : ExecPorts) (old new : RegistryValue) → new.execs ≡ old.execs ++ record { by = by; ports = p } ∷ []
    → new.fetch ≡ old.fetch → new.predict ≡ old.predict → new.decoder ≡ old.decoder → new.regfile ≡ old.regfile → new.hazard ≡ old.hazard → new.databus ≡ old.databus → new.system ≡ old.system → AddsOffer Exec by (exec_ports p) old new
adds_exec by p old new execs fetch predict decoder regfile hazard databus system = record {
  own = λ none. ap (exec_of by) execs ∙ exec-of-end by old.execs (record { by = by; ports = p }) refl none;
  others = others Exec old new (inr fetch) (inr predict) (inr decoder) (inr regfile) (inr hazard) (inr databus) (inr system) (λ e away. absurd (away refl));
  singles = singles Exec old new (inr fetch) (inr predict) (inr decoder) (inr regfile) (inr hazard) (inr databus) (inr system);
  offers = record {
    kept = λ t o is. same t ∙ is;
    added = λ t o none is. absurd (none_some (single new t) o (same t ∙ none) is);
    more = record { by = by; ports = p } ∷ [];
    execs = execs;
    execs_by = one;
  };
}
  where
    same : (t : Service) → single new t ≡ single old t
    same Fetch = ap (offered_as fetch_ports) fetch
    same Predict = ap (offered_as predict_ports) predict
    same Decoder = ap (offered_as decoder_ports) decoder
    same RegFile = ap (offered_as regfile_ports) regfile
    same Hazard = ap (offered_as hazard_ports) hazard
    same Exec = refl
    same DataBus = ap (offered_as databus_ports) databus
    same System = ap (offered_as system_ports) system

    one : All (λ (o : ExecOffer). o.by ≡ by) (record { by = by; ports = p } ∷ [])
    one zero d l = refl
    one (suc i) d l = absurd (omega arith)

-- ---- offers of one entry, one step behind the other

pub offers_nothing : (by : ℕ) (r : RegistryValue) → OffersBy by r r
offers_nothing by r = record {
  kept = λ s o is. is;
  added = λ s o none is. absurd (none_some (single r s) o none is);
  more = [];
  execs = append-none r.execs;
  execs_by = λ i d l. absurd (omega arith);
}

pub offers_then : (by : ℕ) (a b c : RegistryValue) → OffersBy by a b → OffersBy by b c → OffersBy by a c
offers_then by a b c first second = record {
  kept = λ s o is. second.kept s o (first.kept s o is);
  added = λ s o none is. step s o none is (single b s) refl;
  more = first.more ++ second.more;
  execs = second.execs ∙ ap (λ (os : List ExecOffer). os ++ second.more) first.execs ∙ append_assoc a.execs first.more second.more;
  execs_by = All-append (λ (o : ExecOffer). o.by ≡ by) first.more second.more first.execs_by second.execs_by;
}
  where
    some-eq : {x y : Offered} → Some x ≡ Some y → x ≡ y
    some-eq e = cc

    step : (s : Service) (o : Offered) → single a s ≡ None → single c s ≡ Some o → (m : Option Offered) → single b s ≡ m → o.by ≡ by
    step s o none is None mid = second.added s o mid is
    step s o none is (Some q) mid = ap (λ (x : Offered). x.by) (some-eq (sym is ∙ second.kept s q mid)) ∙ first.added s q none mid
