-- The parts of this kind guess by the formula, and meet the laws of a part.
use Rattle.std.proofs.Common.{◌≡◌, ◌∙◌, ℕ, suc, false, eqb, Option, Some, None, refl, sym, subst}
use Rattle.hw_pool.specs.Meaning.{Env}
use Rattle.service_reg.specs.declared.service.Service.{Service}
use Rattle.service_reg.specs.declared.service.Service.TheVariants.{Fetch, Predict, Decoder, RegFile, Hazard, Exec, DataBus}
use Rattle.service_reg.specs.Services.{number}
use Rattle.plug_law.specs.Predict.{PredictLaw}
use Rattle.plug_part.specs.Part.{PortTrees, Part}
use Rattle.plug_part.specs.Signals.{predict_signals}
use Rattle.plug_predict.specs.declared.styles.Style.{Style}
use Rattle.plug_predict.specs.Formula.{predict_of}
use Rattle.plug_predict.specs.Builds.{BuildsPredict, PredictPartsGuess, PredictPartsMeetLaws}
use Rattle.plug_predict.proofs.Formula.{whole}

same_ports : (a b : PortTrees) → ◌≡◌ {A = Option PortTrees} (Some a) (Some b) → a ≡ b
same_ports a b e = cc

module _ (style : Style) (p : Part) (builds : BuildsPredict style p) where
  not_offered : (other : Service) → eqb (number other) (number Predict) ≡ false → (q : PortTrees) → p.offers other ≡ Some q → ⊥
  not_offered other differs q e = go (sym (builds.only.none other differs) ∙ e)
    where
      go : ◌≡◌ {A = Option PortTrees} None (Some q) → ⊥
      go h = cc

  guesses : (o : PortTrees) → p.offers Predict ≡ Some o → (run : ℕ → Env) → PredictLaw (predict_of style) (predict_signals o run)
  guesses o e run =
      subst (λ (q : PortTrees). PredictLaw (predict_of style) (predict_signals q run)) (same_ports builds.ports o (sym builds.only.is ∙ e))
      (λ s. builds.next (run (suc s)))

pub parts_guess : PredictPartsGuess
parts_guess style p builds o e = (whole style, λ run is. guesses style p builds o e run)

pub parts_meet_laws : PredictPartsMeetLaws
parts_meet_laws style g p builds =
    let no = not_offered style p builds in
    record {
      fetch = λ q e. absurd (no Fetch refl q e);
      fetch_state = λ q e. absurd (no Fetch refl q e);
      fetch_outs = λ q e. absurd (no Fetch refl q e);
      predict = λ q e. record { predict = predict_of style; whole = whole style; law = λ run is. guesses style p builds q e run };
      decode = λ q e. absurd (no Decoder refl q e);
      regs = λ q e. absurd (no RegFile refl q e);
      hazard = λ q e. absurd (no Hazard refl q e);
      exec = λ q e. absurd (no Exec refl q e);
      data_outs = λ q e. absurd (no DataBus refl q e);
      system = λ q y e. absurd (no Exec refl q e);
    }
