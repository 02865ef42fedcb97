-- Inputs that are made, one step behind the other.
use Rattle.std.proofs.Common.{◌≡◌, ◌∙◌, ℕ, ◌+◌, ◌<◌, List, [], ◌∷◌, ◌++◌, length, arith, ap, sym, subst, true, false, eqb, ◌⊎◌, None, inl, inr, length-append, refl}
use Rattle.std.proofs.lemmas.Bool.{cases_Bool, cases_lt, or_cases, or_left, or_right, eqb-true, eq-eqb, both_ways}
use Rattle.std.proofs.lemmas.List.{get_or_past}
use Rattle.hw_pool.specs.Nodes.{PoolValue}
use Rattle.hw_module.specs.declared.rows.Owner.TheVariants.{Pipe, Entry}
use Rattle.hw_module.specs.declared.rows.WireRow.{WireRow}
use Rattle.hw_module.specs.Rows.{ModuleValue, wire_at}
use Rattle.hw_module.specs.Checked.{DriversFit}
use Rattle.hw_module.specs.Rights.{Rights, Makes}
use Rattle.hw_module.proofs.Makes.{makes_then}
use Rattle.plug_part.specs.Owned.{is_among}
use Rattle.plug_build.specs.Fits.{AreApart, AreInputs}
use Rattle.plug_build.proofs.Worlds.{inputs_grown}
use Rattle.plug_kit.specs.Made.{MakesInputs}

pub one_input : (by entry : ℕ) (old new : ModuleValue) (wire width level : ℕ) → by ≡ entry → ((r : Rights) → Makes (Entry entry) r old new 1) → wire ≡ length old.wires → length new.wires ≡ length old.wires + 1
    → wire_at new.wires wire ≡ record { owner = Entry entry; width = width; level = level; driver = None } → new.regs ≡ old.regs → new.arrays ≡ old.arrays → new.outs ≡ old.outs
    → new.room + 1 ≡ old.room → ((pool : PoolValue) → DriversFit old pool → DriversFit new pool) → MakesInputs by old new (wire ∷ []) ((width, level) ∷ [])
one_input by entry old new wire width level same makes at count made regs arrays outs room drivers = record {
  inputs = (record { there = omega arith; owner = ap (λ (r : WireRow). r.owner) made ∙ ap Entry (sym same); width = ap (λ (r : WireRow). r.width) made; level = ap (λ (r : WireRow). r.level) made }, tt);
  apart = (refl, tt);
  makes = λ r. subst (λ (n : ℕ). Makes (Entry n) r old new 1) (sym same) (makes r);
  all = λ k h l. or_left (eqb k wire) false (eq-eqb k wire (omega arith));
  fresh = λ k e. elim (or_cases (eqb k wire) false e) [
    | inl is ↦ let k_is = eqb-true k wire is in omega arith
    | inr never ↦ absurd (both_ways false refl never)
  ];
  bare = λ k h l. let e : wire ≡ k = omega arith in subst (λ (j : ℕ). (wire_at new.wires j).driver ≡ None) e (ap (λ (r : WireRow). r.driver) made);
  regs = regs;
  arrays = arrays;
  outs = outs;
  room = omega arith;
  drivers = drivers;
}

inputs-append : (d : ModuleValue) (by : ℕ) (ws vs : List ℕ) (ss ts : List (ℕ × ℕ)) → AreInputs d by ws ss → AreInputs d by vs ts → AreInputs d by (ws ++ vs) (ss ++ ts)
inputs-append d by [] vs [] ts h k = k
inputs-append d by [] vs (s ∷ ss) ts h k = absurd h
inputs-append d by (w ∷ ws) vs [] ts h k = absurd h
inputs-append d by (w ∷ ws) vs (s ∷ ss) ts h k = (h.0, inputs-append d by ws vs ss ts h.1 k)

among-left : (k : ℕ) (ws vs : List ℕ) → is_among k ws ≡ true → is_among k (ws ++ vs) ≡ true
among-left k [] vs e = absurd (both_ways false refl e)
among-left k (w ∷ ws) vs e = elim (or_cases (eqb k w) (is_among k ws) e) [
  | inl here ↦ or_left (eqb k w) _ here
  | inr later ↦ or_right (eqb k w) _ (among-left k ws vs later)
]

among-right : (k : ℕ) (ws vs : List ℕ) → is_among k vs ≡ true → is_among k (ws ++ vs) ≡ true
among-right k [] vs e = e
among-right k (w ∷ ws) vs e = or_right (eqb k w) _ (among-right k ws vs e)

among-either : (k : ℕ) (ws vs : List ℕ) → is_among k (ws ++ vs) ≡ true → (is_among k ws ≡ true) ⊎ (is_among k vs ≡ true)
among-either k [] vs e = inr e
among-either k (w ∷ ws) vs e = elim (or_cases (eqb k w) (is_among k (ws ++ vs)) e) [
  | inl here ↦ inl (or_left (eqb k w) _ here)
  | inr later ↦ elim (among-either k ws vs later) [ inl a ↦ inl (or_right (eqb k w) _ a) | inr b ↦ inr b ]
]

among-there : (d : ModuleValue) (by : ℕ) (ws : List ℕ) (ss : List (ℕ × ℕ)) (k : ℕ) → AreInputs d by ws ss → is_among k ws ≡ true → k < length d.wires
among-there d by [] ss k are e = absurd (both_ways false refl e)
among-there d by (w ∷ ws) [] k are e = absurd are
among-there d by (w ∷ ws) (s ∷ ss) k are e = elim (or_cases (eqb k w) (is_among k ws) e) [
  | inl here ↦ let at : k ≡ w = eqb-true k w here in let there : w < length d.wires = are.0.there in omega arith
  | inr later ↦ among-there d by ws ss k are.1 later
]

-- lists with different numbers that share none
apart-append : (ws vs : List ℕ) → AreApart ws → AreApart vs → ((k : ℕ) → is_among k ws ≡ true → is_among k vs ≡ true → ⊥) → AreApart (ws ++ vs)
apart-append [] vs a b share = b
apart-append (w ∷ ws) vs a b share = (
  elim (cases_Bool (is_among w (ws ++ vs))) [
    | inl among ↦ absurd (elim (among-either w ws vs among) [
      | inl first ↦ both_ways (is_among w ws) a.0 first
      | inr second ↦ share w (or_left (eqb w w) _ (eq-eqb w w refl)) second
    ])
    | inr free ↦ free
  ],
  apart-append ws vs a.1 b (λ k h. share k (or_right (eqb k w) _ h)),
)

pub inputs_then : (by : ℕ) (a b c : ModuleValue) (ws vs : List ℕ) (ss ts : List (ℕ × ℕ)) → MakesInputs by a b ws ss → MakesInputs by b c vs ts → MakesInputs by a c (ws ++ vs) (ss ++ ts)
inputs_then by a b c ws vs ss ts first second =
    let many : length (ws ++ vs) ≡ length ws + length vs = length-append ws vs in
    let none : Rights = record { wires = λ k. false; locked = λ k. false; outs = λ k. false } in
    let grown = (first.makes none).grows in
    let grows = (second.makes none).grows in
    record {
      inputs = inputs-append c by ws vs ss ts (inputs_grown b c (length vs) grows by ws ss first.inputs) second.inputs;
      apart = apart-append ws vs first.apart second.apart (λ k x y.
          let below = among-there b by ws ss k first.inputs x in
          let above = second.fresh k y in
          omega (arith, below, above));
      makes = λ r. makes_then (Entry by) r a b c (length ws) (length vs) (length (ws ++ vs)) (first.makes r) (second.makes r) (omega arith);
      all = λ k h l. elim (cases_lt k (length b.wires)) [
        | inl below ↦ among-left k ws vs (first.all k h below)
        | inr above ↦ among-right k ws vs (second.all k above l)
      ];
      fresh = λ k e. elim (among-either k ws vs e) [
        | inl x ↦ first.fresh k x
        | inr y ↦ let later = second.fresh k y in omega (arith, grown.more_wires)
      ];
      bare = λ k h l. elim (cases_lt k (length b.wires)) [
        | inl below ↦ ap (λ (r : WireRow). r.driver) (kept k below) ∙ first.bare k h below
        | inr above ↦ second.bare k above l
      ];
      regs = second.regs ∙ first.regs;
      arrays = second.arrays ∙ first.arrays;
      outs = second.outs ∙ first.outs;
      room = omega (arith, first.room, second.room);
      drivers = λ pool h. second.drivers pool (first.drivers pool h);
    }
  where
    kept : (k : ℕ) → k < length b.wires → wire_at c.wires k ≡ wire_at b.wires k
    kept k l = (second.makes (record { wires = λ k. false; locked = λ k. true; outs = λ k. false })).locked k l refl refl

-- what an entry that owned no forward wire owns after its inputs were made
pub inputs_only : (by : ℕ) (old new : ModuleValue) (ws : List ℕ) (ss : List (ℕ × ℕ)) → MakesInputs by old new ws ss → ((k : ℕ) → (wire_at old.wires k).owner ≡ Entry by → ⊥)
    → (k : ℕ) → (wire_at new.wires k).owner ≡ Entry by → (k < length new.wires) × (is_among k ws ≡ true)
inputs_only by old new ws ss made none k own = elim (cases_lt k (length new.wires)) [
  | inr past ↦ absurd (let e : Pipe ≡ Entry by = sym (ap (λ (row : WireRow). row.owner) (get_or_past new.wires k _ past)) ∙ own in cc)
  | inl there ↦ elim (cases_lt k (length old.wires)) [
    | inl before ↦ absurd (none k (sym ((made.makes (record { wires = λ k. false; locked = λ k. false; outs = λ k. false })).grows.wires k before).owner ∙ own))
    | inr after ↦ (there, made.all k after there)
  ]
]

-- and none of its inputs has a driver
pub inputs_bare : (by : ℕ) (old new : ModuleValue) (ws : List ℕ) (ss : List (ℕ × ℕ)) → MakesInputs by old new ws ss → (k : ℕ) → k < length new.wires → is_among k ws ≡ true → (wire_at new.wires k).driver ≡ None
inputs_bare by old new ws ss made k there is = made.bare k (made.fresh k is) there
