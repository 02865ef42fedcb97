-- What the first call makes: two forward wires, and then the inputs.
use Rattle.std.proofs.Common.{◌≡◌, ◌∙◌, ℕ, ◌+◌, ◌<◌, ◌≤◌, List, [], ◌∷◌, length, ap, sym, subst, arith, refl, true, false, eqb, None, inl, inr}
use Rattle.std.proofs.lemmas.Bool.{cases_lt, cases_Bool, both_ways, or_left, or_right, eq-eqb}
use Rattle.std.proofs.lemmas.List.{get_or_past}
use Rattle.hw_module.specs.declared.rows.Owner.TheVariants.{Pipe, Entry}
use Rattle.hw_module.specs.declared.rows.WireRow.{WireRow}
use Rattle.hw_module.specs.Rows.{ModuleValue, wire_at}
use Rattle.hw_module.specs.Rights.{Rights, Makes}
use Rattle.hw_module.proofs.Makes.{makes_then}
use Rattle.service_reg.specs.declared.service.Service.TheVariants.{Hazard}
use Rattle.service_ports.specs.Ports.{input_shapes}
use Rattle.plug_part.specs.Owned.{is_among}
use Rattle.plug_build.specs.Fits.{IsInput}
use Rattle.plug_kit.specs.Made.{MakesInputs}
use Rattle.plug_hazard.specs.Found.{plain_row}

abbrev no-rights : Rights
no-rights = record { wires = λ k. false; locked = λ k. true; outs = λ k. false }

-- one forward wire of 32 bits and level 3 was made
pub record MakesWire (e : ℕ) (old new : ModuleValue) (wire : ℕ) : Type 0 where
  pub number : wire ≡ length old.wires
  pub count : length new.wires ≡ length old.wires + 1
  pub made : wire_at new.wires wire ≡ plain_row e
  pub makes : (r : Rights) → Makes (Entry e) r old new 1

module _ (e : ℕ) (old a base mid : ModuleValue) (wire_a wire_b : ℕ) (ws : List ℕ) (first : MakesWire e old a wire_a) (second : MakesWire e a base wire_b)
    (made : MakesInputs e base mid ws (input_shapes Hazard)) where
  pub a_stays : wire_at mid.wires wire_a ≡ plain_row e
  a_stays =
      let n = first.number in
      let m = first.count in
      let k = second.count in
      (made.makes no-rights).locked wire_a (omega arith) refl refl ∙ (second.makes no-rights).locked wire_a (omega arith) refl refl ∙ first.made

  pub b_stays : wire_at mid.wires wire_b ≡ plain_row e
  b_stays =
      let n = second.number in
      let k = second.count in
      (made.makes no-rights).locked wire_b (omega arith) refl refl ∙ second.made

  a_below : wire_a < length base.wires
  a_below = let n = first.number in let m = first.count in let k = second.count in omega arith

  b_below : wire_b < length base.wires
  b_below = let n = second.number in let k = second.count in omega arith

  pub wire_a_in : IsInput mid e wire_a (32, 3)
  wire_a_in = record {
    there = let l = a_below in let g = (made.makes no-rights).grows.more_wires in omega arith;
    owner = ap (λ (r : WireRow). r.owner) a_stays;
    width = ap (λ (r : WireRow). r.width) a_stays;
    level = ap (λ (r : WireRow). r.level) a_stays;
  }

  pub wire_b_in : IsInput mid e wire_b (32, 3)
  wire_b_in = record {
    there = let l = b_below in let g = (made.makes no-rights).grows.more_wires in omega arith;
    owner = ap (λ (r : WireRow). r.owner) b_stays;
    width = ap (λ (r : WireRow). r.width) b_stays;
    level = ap (λ (r : WireRow). r.level) b_stays;
  }

  pub all_makes : (r : Rights) → Makes (Entry e) r old mid (2 + length ws)
  all_makes r =
      makes_then (Entry e) r old a mid 1 (1 + length ws) (2 + length ws) (first.makes r)
      (makes_then (Entry e) r a base mid 1 (length ws) (1 + length ws) (second.makes r) (made.makes r) (omega arith)) (omega arith)

  apart : (k : ℕ) → k < length base.wires → is_among k ws ≡ false
  apart k below = elim (cases_Bool (is_among k ws)) [
    | inl is ↦ absurd (let past = made.fresh k is in omega (arith, past, below))
    | inr free ↦ free
  ]

  pub apart_a : is_among wire_a ws ≡ false
  apart_a = apart wire_a a_below

  pub apart_b : is_among wire_b ws ≡ false
  apart_b = apart wire_b b_below

  pub behind_old : (k : ℕ) → is_among k ws ≡ true → length old.wires ≤ k
  behind_old k is = let past = made.fresh k is in let m = first.count in let n = second.count in omega arith

  pub b_behind_a : wire_b ≡ wire_a + 1
  b_behind_a = let n = first.number in let m = first.count in let k = second.number in omega arith

  module _ (none : (k : ℕ) → (wire_at old.wires k).owner ≡ Entry e → ⊥) where
    -- the entry's forward wires are those two and the inputs
    past-old : (k : ℕ) → (wire_at mid.wires k).owner ≡ Entry e → length old.wires ≤ k
    past-old k own = elim (cases_lt k (length old.wires)) [
      | inl before ↦ absurd (none k (sym ((all_makes no-rights).grows.wires k before).owner ∙ own))
      | inr after ↦ after
    ]

    pub a_is_least : (k : ℕ) → (wire_at mid.wires k).owner ≡ Entry e → wire_a ≤ k
    a_is_least k own = let n = first.number in let past = past-old k own in omega arith

    in-mid : (k : ℕ) → (wire_at mid.wires k).owner ≡ Entry e → k < length mid.wires
    in-mid k own = elim (cases_lt k (length mid.wires)) [
      | inl there ↦ there
      | inr past ↦ absurd (let n : Pipe ≡ Entry e = sym (ap (λ (row : WireRow). row.owner) (get_or_past mid.wires k _ past)) ∙ own in cc)
    ]

    pub only_these : (k : ℕ) → (wire_at mid.wires k).owner ≡ Entry e → is_among k (wire_a ∷ wire_b ∷ ws) ≡ true
    only_these k own = elim (cases_lt k (length base.wires)) [
      | inr later ↦ or_right (eqb k wire_a) _ (or_right (eqb k wire_b) _ (made.all k later (in-mid k own)))
      | inl early ↦
          let past = past-old k own in
          let n = first.number in
          let m = first.count in
          let o = second.number in
          let q = second.count in
          elim (cases_lt k (length a.wires)) [
            | inl one ↦ or_left (eqb k wire_a) _ (eq-eqb k wire_a (omega arith))
            | inr two ↦ or_right (eqb k wire_a) _ (or_left (eqb k wire_b) _ (eq-eqb k wire_b (omega arith)))
          ]
    ]
