-- Boxes that were asked one by one.
use Rattle.std.proofs.Common.{◌≡◌, ◌∙◌, ℕ, ◌+◌, ◌<◌, List, length, get_or, Option, None, Some, arith, below_more, subst}
use Rattle.std.proofs.lemmas.List.{get_or_default}
use Rattle.stage_map.specs.declared.config.Config.{Config}
use Rattle.stage_map.specs.declared.config.PlugEntry.{PlugEntry}
use Rattle.plug_api.specs.declared.spec.ParamFault.{ParamFault}
use Rattle.plug_api.specs.declared.spec.ParamFault.TheVariants.{NoMemory}
use Rattle.plug_api.specs.declared.spec.PlugSpec.{PlugSpec}
use Rattle.plug_api.specs.Spec.{IsSpec}
use Rattle.plug_api.specs.SoFar.{AreSoundSoFar}
use Rattle.plug_api.specs.Accept.{IsDecided}
use Rattle.plug_api.proofs.Decided.{decided}

module _ {B : Type 0} (fault : B → PlugEntry → Option ParamFault) (spec : B → PlugEntry → PlugSpec) (boxes : List B) where
  pub none_asked : AreSoundSoFar fault spec boxes 0
  none_asked = record { sound = λ d k l. absurd (omega (arith, l)); fit = λ d k l. absurd (omega (arith, l)) }

  pub one_asked : (k : ℕ) (b : B) → k < length boxes → b ≡ get_or boxes k b → ((e : PlugEntry) → fault b e ≡ Some NoMemory → ⊥)
      → ((e : PlugEntry) → fault b e ≡ None → IsSpec (spec b e)) → AreSoundSoFar fault spec boxes k → AreSoundSoFar fault spec boxes (k + 1)
  one_asked k b there is sound fit before = record {
    sound = λ d j l. below_more (λ (i : ℕ). (e : PlugEntry) → fault (get_or boxes i d) e ≡ Some NoMemory → ⊥) k (λ i h. before.sound d i h) (subst (λ (c : B). (e : PlugEntry) → fault c e ≡ Some NoMemory → ⊥) (same d) sound) j l;
    fit = λ d j l. below_more (λ (i : ℕ). (e : PlugEntry) → fault (get_or boxes i d) e ≡ None → IsSpec (spec (get_or boxes i d) e)) k (λ i h. before.fit d i h) (subst (λ (c : B). (e : PlugEntry) → fault c e ≡ None → IsSpec (spec c e)) (same d) fit) j l;
  }
    where
      same : (d : B) → b ≡ get_or boxes k d
      same d = is ∙ get_or_default boxes k b d there

  pub all_asked : (kind : B → List ℕ) (cfg : Config) (count : ℕ) → AreSoundSoFar fault spec boxes count → count ≡ length boxes → IsDecided kind fault spec boxes cfg
  all_asked kind cfg count asked e = decided kind fault spec boxes cfg (λ d k l. asked.sound d k (omega (arith, l, e))) (λ d k l. asked.fit d k (omega (arith, l, e)))
