use Rattle.std.proofs.Common.{true, false, ◌≡◌, ◌∙◌, ℕ, List, ap, subst, sym}
use Rattle.stage_map.specs.declared.keys.PlugUse.{PlugUse}
use Rattle.stage_map.specs.Stages.{StageMapValue, HasNoStageFault, IsFirstStageFault}
use Rattle.stage_map.proofs.Refused.{misread_told, twice_refused}
use Rattle.stage_map.proofs.map.StageMap.check.Goals as goal

-- a map of these uses is the map that contracts see
whole : (stages room : ℕ) (uses items : List PlugUse) (v : StageMapValue) → uses ≡ items
    → record { stages = stages; room = room; uses = items } ≡ v → record { stages = stages; room = room; uses = uses } ≡ v
whole stages room uses items v e is = ap (λ (u : List PlugUse). record { stages = stages; room = room; uses = u }) e ∙ is

pub returns-in-Some-first_pair-clause-refused : goal.returns-in-Some-first_pair-clause-refused
returns-in-Some-first_pair-clause-refused c = λ r is other.
    let same : c.twice_refusal.result ≡ r = cc in
    subst (λ (m : StageMapValue). IsFirstStageFault m c.args.places.now.items c.args.commit r)
    (whole c.self.inside.stages c.self.inside.room c.as_slice-uses.result.now c.self.inside.uses.items c.args.self.now c.as_slice-uses.ensures.value c.self.view_is)
    (twice_refused (record { stages = c.self.inside.stages; room = c.self.inside.room; uses = c.as_slice-uses.result.now }) c.args.places.now.items c.args.commit
    c.in-Some-first_pair.pair.at c.in-Some-first_pair.pair.other r c.in_default.ensures c.in_default-first_misread.ensures c.in-Some-first_pair.ensures
    (sym same ∙ c.twice_refusal.ensures (λ none. other (sym same ∙ none))))

pub returns-in-None-clause-ok : goal.returns-in-None-clause-ok
returns-in-None-clause-ok c = λ ok.
    subst (λ (m : StageMapValue). HasNoStageFault m c.args.places.now.items c.args.commit)
    (whole c.self.inside.stages c.self.inside.room c.as_slice-uses.result.now c.self.inside.uses.items c.args.self.now c.as_slice-uses.ensures.value c.self.view_is)
    (record { stages = c.in_default.ensures; order = c.in_default-first_misread.ensures; once = c.in-None.ensures })

pub returns-in-Some-first_misread-clause-told : goal.returns-in-Some-first_misread-clause-told
returns-in-Some-first_misread-clause-told c =
    subst (λ (m : StageMapValue). HasNoStageFault m c.args.places.now.items c.args.commit → false ≡ true)
    (whole c.self.inside.stages c.self.inside.room c.as_slice-uses.result.now c.self.inside.uses.items c.args.self.now c.as_slice-uses.ensures.value c.self.view_is)
    (misread_told (record { stages = c.self.inside.stages; room = c.self.inside.room; uses = c.as_slice-uses.result.now }) c.args.places.now.items c.args.commit
    c.in-Some-first_misread.misread.at c.in-Some-first_misread.ensures.0)
