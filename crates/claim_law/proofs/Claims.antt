-- From the test of an entry to the runs of the text that was generated.
use Rattle.std.proofs.Common.{◌≡◌, ◌∙◌, ℕ, ◌-◌, ◌<◌, true, List, length, get_or, arith, ap, sym, subst, Option, Some}
use Rattle.service_reg.specs.declared.service.Service.TheVariants.{Fetch}
use Rattle.service_ports.specs.Registry.{Offered, single}
use Rattle.stage_map.specs.declared.config.Config.{Config}
use Rattle.stage_map.specs.declared.config.PlugEntry.{PlugEntry}
use Rattle.plug_part.specs.Part.{Part}
use Rattle.plug_build.specs.World.{World, part_in}
use Rattle.plug_api.specs.Accept.{MayBe}
use Rattle.plug_api.specs.Calls.{takes_of}
use Rattle.plug_api.specs.Picks.{no_entry}
use Rattle.plug_api.specs.Spec.{is_among}
use Rattle.plug_api.specs.declared.spec.ParamFault.{ParamFault}
use Rattle.plug_api.specs.declared.spec.Plan.{Plan}
use Rattle.plug_api.specs.declared.spec.PlugSpec.{PlugSpec}
use Rattle.plug_join.specs.Joined.{box_of}
use Rattle.part_laws.specs.Joined.{Services}
use Rattle.part_laws.specs.Registered.{trees_or_none}
use Rattle.pipe_steps.specs.Numbers.{own_from}
use Rattle.core_parts.specs.Laid.{part_by, said_by, services_by, terms_by}
use Rattle.core_parts.proofs.Facts.{Facts, any, entries, facts, inside, pickings, said_is, says}
use Rattle.core_parts.proofs.Joins.{joins}
use Rattle.core_parts.proofs.Offered.{single_by}
use Rattle.core_parts.proofs.Plans.{plans}
use Rattle.core_gen.specs.Generated.{IsGenerated}
use Rattle.cached_law.specs.Cached.{IsIcachePart}
use Rattle.cached_law.proofs.Runs.{cached_runs}
use Rattle.claim_law.specs.Texts.{KeepsCacheIn}

module _ {B : Type 0} (kind : B → List ℕ) (taken : B → Option PlugEntry) (now : B → PlugSpec) (fault : B → PlugEntry → Option ParamFault) (spec : B → PlugEntry → PlugSpec)
    (test : B → Plan → Part → Type 0) (test_for : B → PlugEntry → Plan → Part → Type 0) (old new : List B) (cfg : Config) (text : List ℕ) (may : MayBe cfg)
    (g : IsGenerated kind taken now fault spec test test_for old new cfg text) (entry : ℕ) (fetches : is_among (said_by g.accepted.specs entry).offers Fetch ≡ true)
    (lines words : ℕ) (part_keeps : (d : B) (p : Part) → test_for (get_or old (get_or g.plan.picks entry 0) d) (get_or cfg.entries entry no_entry) g.plan p → IsIcachePart lines words p) where
  abbrev specs : List PlugSpec
  specs = g.accepted.specs

  abbrev w : World
  w = g.core.world

  abbrev x : Services
  x = services_by specs w

  known : Facts g.plan specs w
  known = facts kind taken now fault spec old new cfg g.plan w may g.accepted g.configured g.core.piped.joined.built

  here : entry < length specs
  here = inside g.plan specs w known entry Fetch fetches

  box : B
  box = any kind taken now fault spec old new cfg g.plan w may g.accepted g.configured g.core.piped.joined.built entry here

  -- the part of the entry passes the test of its box
  passes : test (box_of new g.plan box entry) g.plan (part_by specs w entry)
  passes =
      let size = entries kind taken now fault spec old new cfg g.plan w may g.accepted g.configured g.core.piped.joined.built in
      let picks = pickings kind taken now fault spec old new cfg g.plan w may g.accepted g.configured g.core.piped.joined.built in
      let l = here in
      subst (λ (s : PlugSpec). test (box_of new g.plan box entry) g.plan (part_in (takes_of s) entry w))
      (said_is kind taken now fault spec old new cfg g.plan w may g.accepted g.configured g.core.piped.joined.built box entry here)
      (g.core.piped.joined.parts box entry (omega (arith, l, size, picks)))

  cached : IsIcachePart lines words (part_by specs w entry)
  cached =
      let size = entries kind taken now fault spec old new cfg g.plan w may g.accepted g.configured g.core.piped.joined.built in
      let l = here in
      part_keeps box (part_by specs w entry) ((g.shaped.taken box entry (omega (arith, l, size)) g.plan (part_by specs w entry)).0 passes)

  -- it is the part of the entry that offers Fetch
  offers_it : (o : Offered) × (single w.reg Fetch ≡ Some o) × (o.by ≡ entry)
  offers_it = single_by w.reg entry Fetch (λ e. cc) (says g.plan specs w known entry Fetch fetches)

  entry_is : entry ≡ x.fetch.0
  entry_is = sym (ap (λ (o : Option Offered). (trees_or_none w.pool.nodes o).0) offers_it.1 ∙ offers_it.2)

  pub keeps_cache : KeepsCacheIn lines words g.core
  keeps_cache =
      let law = cached_runs (terms_by specs g.plan w.reg) (part_by specs w) x (joins g.plan specs w known) (plans g.plan specs w known) in
      record {
        predict = law.0;
        is_predict = law.1;
        keeps = λ contents start ins is_ins memory is_memory n honest.
            let claims = ((g.core.core.refines.from contents start).follows ins is_ins memory is_memory n honest).1 in
            record {
              run = claims.run;
              runs = claims.runs;
              steps = claims.steps;
              keeps = law.2 lines words (subst (λ e. IsIcachePart lines words (part_by specs w e)) entry_is cached)
                  (own_from g.core.piped.register w.reg.execs (g.core.piped.shape.stages - 2)) claims.run _ claims.runs claims.steps memory is_memory n honest;
            };
      }
