-- The equations of the kind keep the cache of an entry's sizes.
use Rattle.std.proofs.Common.{◌≡◌, ◌∙◌, ℕ, ◌%◌, ◌^◌, ◌<◌, true, List, length, get_or, arith, ap, sym, subst, Option, Some, None, is_some}
use Rattle.service_reg.specs.declared.service.Service.TheVariants.{Fetch, Predict}
use Rattle.stage_map.specs.declared.config.Config.{Config}
use Rattle.stage_map.specs.declared.config.Param.{Param}
use Rattle.stage_map.specs.declared.config.PlugEntry.{PlugEntry}
use Rattle.plug_law.specs.Cache.{CacheLaw}
use Rattle.plug_part.specs.Part.{Part, PortTrees, sees}
use Rattle.plug_part.specs.Signals.{fetch_signals, part_ib}
use Rattle.plug_api.specs.Accept.{MayBe}
use Rattle.plug_api.specs.Picks.{no_entry}
use Rattle.plug_api.specs.Spec.{is_among, no_spec}
use Rattle.plug_api.specs.declared.spec.ParamFault.{ParamFault}
use Rattle.plug_api.specs.declared.spec.Plan.{Plan}
use Rattle.plug_api.specs.declared.spec.PlugSpec.{PlugSpec}
use Rattle.plug_kinds.specs.declared.kind.Kind.TheVariants as kind
use Rattle.plug_kinds.specs.Kinds.{fault_of}
use Rattle.plug_icache.specs.Builds.{BuildsIcache, IcachePartsKeepLines}
use Rattle.plug_icache.specs.Powers.{IcacheSizesArePowers}
use Rattle.plug_icache.specs.Sizes.{lines_of, log_of, words_of}
use Rattle.core_parts.proofs.Facts.{any}
use Rattle.core_gen.specs.Generated.{IsGenerated}
use Rattle.cached_law.specs.Cached.{IsIcachePart}
use Rattle.claim_law.specs.Texts.{KeepsCacheIn}
use Rattle.claim_law.proofs.Claims.{keeps_cache}
use Rattle.icache_law.specs.Boxes.{IsIcacheBox}

some_eq : {A : Type 0} (x y : A) → ◌≡◌ {A = Option A} (Some x) (Some y) → x ≡ y
some_eq x y e = cc

pub of_equations : IcachePartsKeepLines → IcacheSizesArePowers → (ps : List Param) → fault_of kind.Icache ps ≡ None → (reset_pc : ℕ) → reset_pc % 4 ≡ 0 → (p : Part)
    → BuildsIcache (log_of (lines_of ps)) (log_of (words_of ps)) reset_pc p → IsIcachePart (lines_of ps) (words_of ps) p
of_equations keep_lines are_powers ps fine reset_pc whole p b = record {
  cache = λ o is predict is_predict run runs mem.
      let powers = are_powers ps fine in
      subst (λ (o : PortTrees). CacheLaw (lines_of ps) (words_of ps) (is_some (sees p Predict)) predict (fetch_signals o (sees p Predict) run) (part_ib p run) mem) (some_eq b.ports o (sym b.only.is ∙ is))
      (subst (λ n. CacheLaw n (words_of ps) (is_some (sees p Predict)) predict (fetch_signals b.ports (sees p Predict) run) (part_ib p run) mem) powers.lines
      (subst (λ n. CacheLaw (2 ^ log_of (lines_of ps)) n (is_some (sees p Predict)) predict (fetch_signals b.ports (sees p Predict) run) (part_ib p run) mem) powers.words
      (keep_lines (log_of (lines_of ps)) (log_of (words_of ps)) reset_pc p powers.some_lines powers.few_lines powers.some_words powers.few_words whole b predict is_predict run runs mem)));
}

module _ (keep_lines : IcachePartsKeepLines) (are_powers : IcacheSizesArePowers) {B : Type 0} (kind' : B → List ℕ) (taken : B → Option PlugEntry) (now : B → PlugSpec) (fault : B → PlugEntry → Option ParamFault) (spec : B → PlugEntry → PlugSpec)
    (test : B → Plan → Part → Type 0) (test_for : B → PlugEntry → Plan → Part → Type 0) (old new : List B) (cfg : Config) (text : List ℕ) (may : MayBe cfg)
    (g : IsGenerated kind' taken now fault spec test test_for old new cfg text) (entry : ℕ) (there : entry < length cfg.entries)
    (is : (d : B) → IsIcacheBox fault spec test_for (get_or old (get_or g.plan.picks entry 0) d)) where
  abbrev at : PlugEntry
  at = get_or cfg.entries entry no_entry

  box : B
  box =
      let size = g.accepted.known.taken.one_each in
      any kind' taken now fault spec old new cfg g.plan g.core.world may g.accepted g.configured g.core.piped.joined.built entry (omega (arith, there, size))

  fine : fault_of kind.Icache at.params ≡ None
  fine = sym ((is box).faults at) ∙ g.accepted.known.faultless.none box entry there

  aligned : g.plan.shape.reset_pc % 4 ≡ 0
  aligned = ap (λ s. s.reset_pc % 4) g.accepted.plan_is.shape_is ∙ may.aligned

  fetches : is_among (get_or g.accepted.specs entry no_spec).offers Fetch ≡ true
  fetches = ap (λ (s : PlugSpec). is_among s.offers Fetch) (g.accepted.known.taken.are box entry there ∙ (is box).says at)

  pub core_keeps : KeepsCacheIn (lines_of at.params) (words_of at.params) g.core
  core_keeps =
      keeps_cache kind' taken now fault spec test test_for old new cfg text may g entry fetches (lines_of at.params) (words_of at.params)
      (λ d p builds. of_equations keep_lines are_powers at.params fine g.plan.shape.reset_pc aligned p ((is d).builds at g.plan p builds))
