-- The parts of this kind: what is said of their trees, whatever stands at inputs, forward wires, registers and arrays.
use Rattle.std.specs.Prelude.{◌≡◌, ℕ, true, Some}
use Rattle.hw_pool.specs.Meaning.{Env, value}
use Rattle.service_reg.specs.declared.service.Service.TheVariants.{Predict}
use Rattle.plug_law.specs.Predict.{IsPredict, PredictLaw}
use Rattle.plug_part.specs.Part.{PortTrees, Part, tree_at}
use Rattle.plug_part.specs.Runs.{IsPartRun}
use Rattle.plug_part.specs.Signals.{predict_signals}
use Rattle.plug_part.specs.Things.{input_in}
use Rattle.plug_part.specs.Terms.{PartTerms}
use Rattle.plug_part.specs.Alone.{OffersOnly}
use Rattle.plug_part.specs.Meets.{MeetsLaws}
use Rattle.plug_kit.specs.Bare.{IsBare}
use Rattle.plug_predict.specs.declared.styles.Style.{Style}
use Rattle.plug_predict.specs.Formula.{predict_of}

-- inputs are the pc and the word; the output is the guess, that of the formula for every pc and word
pub record BuildsPredict (style : Style) (p : Part) : Type 0 where
  pub ports : PortTrees
  pub only : OffersOnly p Predict ports
  pub next : (env : Env) → value env (tree_at ports.outputs 0) ≡ predict_of style (input_in ports 0 env) (input_in ports 1 env)

-- after the first call: such a part, with no forward wire but its inputs, no register and no array
pub record BeginsPredict (style : Style) (p : Part) : Type 0 where
  pub builds : BuildsPredict style p
  pub bare : IsBare p builds.ports.inputs

-- the function of such a part is the formula in all its runs, and a multiple of 4 where the pc is one
abbrev pub PredictPartsGuess : Type 0
PredictPartsGuess =
    (style : Style) (p : Part) → BuildsPredict style p → (o : PortTrees) → p.offers Predict ≡ Some o
    → IsPredict true (predict_of style) × ((run : ℕ → Env) → IsPartRun p run → PredictLaw (predict_of style) (predict_signals o run))

-- they meet the laws, at any terms
abbrev pub PredictPartsMeetLaws : Type 0
PredictPartsMeetLaws = (style : Style) (g : PartTerms) (p : Part) → BuildsPredict style p → MeetsLaws g p
