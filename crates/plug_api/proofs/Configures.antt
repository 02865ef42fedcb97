-- One more box is configured.
use Rattle.std.proofs.Common.{◌≡◌, ◌↔◌, ℕ, ◌+◌, ◌<◌, List, length, get_or, arith, ap, sym, ◌∙◌, inl, inr, Option, None, Some}
use Rattle.std.proofs.lemmas.Bool.{cases_eq, cases_lt}
use Rattle.stage_map.specs.declared.config.PlugEntry.{PlugEntry}
use Rattle.plug_part.specs.Part.{Part}
use Rattle.plug_api.specs.declared.spec.Plan.{Plan}
use Rattle.plug_api.specs.declared.spec.PlugSpec.{PlugSpec}
use Rattle.plug_api.specs.declared.spec.ParamFault.{ParamFault}
use Rattle.plug_api.specs.Picks.{no_entry, ArePicks, AreDistinct, SameKinds, AreConfigured, AreShaped, ChangedAt}
use Rattle.plug_api.specs.SoFar.{ConfiguredSoFar}

-- two entries have two boxes, since they name two kinds
pub picks_differ : {B : Type 0} (kind : B → List ℕ) (boxes : List B) (d : B) (entries : List PlugEntry) (picks : List ℕ)
    → ArePicks kind boxes entries (length entries) picks → AreDistinct entries
    → (i j : ℕ) → i < j → j < length entries → get_or picks i 0 ≡ get_or picks j 0 → ⊥
picks_differ kind boxes d entries picks are apart i j l h e = apart.none i j (record {
  in_order = l;
  there = h;
  same = sym ((are.each i (omega arith)).named d) ∙ ap (λ k. kind (get_or boxes k d)) e ∙ (are.each j h).named d;
})

module _ {B : Type 0} (kind : B → List ℕ) (taken : B → Option PlugEntry) (now : B → PlugSpec) (fault : B → PlugEntry → Option ParamFault) (spec : B → PlugEntry → PlugSpec) where
  -- a change at one box keeps what can be told of each
  pub same_kinds_step : (old mid new : List B) (at : ℕ) → SameKinds kind fault spec old mid → ChangedAt kind fault spec mid new at → SameKinds kind fault spec old new
  same_kinds_step old mid new at same changed = record {
    count = changed.count ∙ same.count;
    kind_kept = λ d k h. elim (cases_eq k at) [ inl e ↦ rw e (changed.kind_kept d ∙ (rw e at (same.kind_kept d k h))) | inr ne ↦ ap kind (changed.others d k ne) ∙ same.kind_kept d k h ];
    fault_kept = λ d k h e. elim (cases_eq k at) [ inl is ↦ rw is (changed.fault_kept d e ∙ (rw is at (same.fault_kept d k h e))) | inr ne ↦ ap (λ (b : B). fault b e) (changed.others d k ne) ∙ same.fault_kept d k h e ];
    spec_kept = λ d k h e. elim (cases_eq k at) [ inl is ↦ rw is (changed.spec_kept d e ∙ (rw is at (same.spec_kept d k h e))) | inr ne ↦ ap (λ (b : B). spec b e) (changed.others d k ne) ∙ same.spec_kept d k h e ];
  }

  pub configure_step : (old mid new : List B) (picks : List ℕ) (entries : List PlugEntry) (total count : ℕ)
      → ((d : B) (i j : ℕ) → i < j → j < total → get_or picks i 0 ≡ get_or picks j 0 → ⊥) → count < total
      → ConfiguredSoFar kind taken now fault spec old mid picks entries total count
      → ChangedAt kind fault spec mid new (get_or picks count 0)
      → ((d : B) → fault (get_or mid (get_or picks count 0) d) (get_or entries count no_entry) ≡ None)
      → ((d : B) → taken (get_or new (get_or picks count 0) d) ≡ Some (get_or entries count no_entry))
      → ((d : B) → now (get_or new (get_or picks count 0) d) ≡ spec (get_or mid (get_or picks count 0) d) (get_or entries count no_entry))
      → ConfiguredSoFar kind taken now fault spec old new picks entries total (count + 1)
  configure_step old mid new picks entries total count apart h before changed no_fault took spec_is =
      let was : (d : B) → get_or mid (get_or picks count 0) d ≡ get_or old (get_or picks count 0) d = λ d. before.rest d count (omega arith) h in
      let last : (i : ℕ) → i < count + 1 → (i < count → ⊥) → i ≡ count = λ i l n. omega arith in
      record {
        configured = record {
          kept = same_kinds_step old mid new (get_or picks count 0) before.configured.kept changed;
          took = λ d i l. elim (cases_lt i count) [
            | inl earlier ↦ ap taken (changed.others d (get_or picks i 0) (apart d i count earlier h)) ∙ before.configured.took d i earlier
            | inr here ↦ let e : i ≡ count = omega arith in rw e (took d)
          ];
          spec_is = λ d i l. elim (cases_lt i count) [
            | inl earlier ↦ ap now (changed.others d (get_or picks i 0) (apart d i count earlier h)) ∙ before.configured.spec_is d i earlier
            | inr here ↦ let e : i ≡ count = omega arith in rw (e, ← was d) (spec_is d)
          ];
          taken_kept = λ d k l none. ap taken (changed.others d k (λ e. none count (omega arith) (sym e)))
              ∙ before.configured.taken_kept d k l (λ i m. none i (omega arith));
          now_kept = λ d k l none. ap now (changed.others d k (λ e. none count (omega arith) (sym e)))
              ∙ before.configured.now_kept d k l (λ i m. none i (omega arith));
        };
        faultless = record {
          none = λ d i l. elim (cases_lt i count) [
            | inl earlier ↦ before.faultless.none d i earlier
            | inr here ↦ let e : i ≡ count = omega arith in rw (e, ← was d) (no_fault d)
          ];
        };
        rest = λ d j low high. changed.others d (get_or picks j 0) (λ e. apart d count j (omega arith) high (sym e)) ∙ before.rest d j (omega arith) high;
      }

  -- a box that refuses is as it was
  pub refuse_step : (old mid new : List B) (picks : List ℕ) (entries : List PlugEntry) (total count : ℕ)
      → ((d : B) (i j : ℕ) → i < j → j < total → get_or picks i 0 ≡ get_or picks j 0 → ⊥) → count < total
      → ConfiguredSoFar kind taken now fault spec old mid picks entries total count
      → ChangedAt kind fault spec mid new (get_or picks count 0)
      → ((d : B) → taken (get_or new (get_or picks count 0) d) ≡ taken (get_or mid (get_or picks count 0) d))
      → ((d : B) → now (get_or new (get_or picks count 0) d) ≡ now (get_or mid (get_or picks count 0) d))
      → AreConfigured kind taken now fault spec old new picks entries count
  refuse_step old mid new picks entries total count apart h before changed not_taken spec_kept = record {
    kept = same_kinds_step old mid new (get_or picks count 0) before.configured.kept changed;
    took = λ d i l. ap taken (changed.others d (get_or picks i 0) (apart d i count l h)) ∙ before.configured.took d i l;
    spec_is = λ d i l. ap now (changed.others d (get_or picks i 0) (apart d i count l h)) ∙ before.configured.spec_is d i l;
    taken_kept = λ d k l none. elim (cases_eq k (get_or picks count 0)) [
      | inl e ↦ rw e (not_taken d) ∙ before.configured.taken_kept d k l none
      | inr ne ↦ ap taken (changed.others d k ne) ∙ before.configured.taken_kept d k l none
    ];
    now_kept = λ d k l none. elim (cases_eq k (get_or picks count 0)) [
      | inl e ↦ rw e (spec_kept d) ∙ before.configured.now_kept d k l none
      | inr ne ↦ ap now (changed.others d k ne) ∙ before.configured.now_kept d k l none
    ];
  }

-- One more box takes an entry, and a test of its parts is the one for this entry.
module _ {B : Type 0} (test : B → Plan → Part → Type 0) (test_for : B → PlugEntry → Plan → Part → Type 0) where
  iff_via : {P Q R : Type 0} → P ↔ Q → Q ↔ R → P ↔ R
  iff_via f g = (λ x. g.0 (f.0 x), λ x. f.1 (g.1 x))

  pub shape_step : (old mid new : List B) (picks : List ℕ) (entries : List PlugEntry) (count at : ℕ)
      → at ≡ get_or picks count 0 → ((d : B) (i : ℕ) → i < count → get_or picks i 0 ≡ at → ⊥)
      → ((d : B) → get_or mid at d ≡ get_or old at d)
      → ((d : B) (k : ℕ) → (k ≡ at → ⊥) → get_or new k d ≡ get_or mid k d)
      → AreShaped test test_for old mid picks entries count
      → ((d : B) (e : PlugEntry) (plan : Plan) (p : Part) → test_for (get_or new at d) e plan p ↔ test_for (get_or mid at d) e plan p)
      → ((d : B) (plan : Plan) (p : Part) → test (get_or new at d) plan p ↔ test_for (get_or mid at d) (get_or entries count no_entry) plan p)
      → AreShaped test test_for old new picks entries (count + 1)
  shape_step old mid new picks entries count at is apart was others before same_fors now = record {
    fors = λ d k h e plan p. elim (cases_eq k at) [
      | inl same ↦ rw same (iff_via (same_fors d e plan p) (rw same at (before.fors d k h e plan p)))
      | inr other ↦ rw (others d k other) (before.fors d k h e plan p)
    ];
    taken = λ d i l plan p. elim (cases_lt i count) [
      | inl earlier ↦ rw (others d (get_or picks i 0) (apart d i earlier)) (before.taken d i earlier plan p)
      | inr here ↦ let e : i ≡ count = omega arith in rw (e, ← is, ← was d) (now d plan p)
    ];
    kept = λ d k h none plan p. rw (others d k (λ e. none count (omega arith) (sym is ∙ sym e))) (before.kept d k h (λ i m. none i (omega arith)) plan p);
  }
