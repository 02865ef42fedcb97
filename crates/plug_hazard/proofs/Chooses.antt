-- The chain over stages chooses the youngest writer.
use Rattle.std.proofs.Common.{◌≡◌, ◌∙◌, ℕ, suc, ◌<◌, ◌&&◌, Bool, true, false, cond, not, eqb, bit_and, List, [], ◌∷◌, map, Option, Some, refl, ap}
use Rattle.core_words.specs.Values.{one_if, choose, not_of}
use Rattle.hw_words.proofs.Bits.{bit_is}
use Rattle.plug_law.specs.Hazard.{Ahead, writer, waits_for, value_or}
use Rattle.plug_hazard.specs.Machine.{Told, is_register_of, hit_of, missing_of, after, chosen_of}
use Rattle.plug_hazard.specs.Law.{ahead_of, AreBits, Chooses}

three_bits : (w s z : Bool) → bit_and (bit_and (one_if w) (one_if s)) (not_of 1 (one_if z)) ≡ one_if (w && (s && not z))
three_bits true true true = refl
three_bits true true false = refl
three_bits true false true = refl
three_bits true false false = refl
three_bits false s z = refl

hit_is : (r : ℕ) (s : Told) → s.writes < 2 → hit_of r s ≡ one_if (eqb s.writes 1 && (eqb s.rd r && not (eqb r 0)))
unfolding hit_of is_register_of
hit_is r s h = (λ i. bit_and (bit_and (bit_is s.writes h i) (one_if (eqb s.rd r))) (not_of 1 (one_if (eqb r 0)))) ∙ three_bits (eqb s.writes 1) (eqb s.rd r) (eqb r 0)

missing_by : (b t : Bool) (s : Told) → s.ready ≡ one_if t → missing_of b s ≡ one_if (not (t && b))
missing_by true true s e = ap (not_of 1) e
missing_by true false s e = ap (not_of 1) e
missing_by false true s e = refl
missing_by false false s e = refl

value_by : (t : Bool) (h x plain : ℕ) (w : Ahead) (rest : Option Ahead) → h ≡ one_if t → x ≡ value_or rest plain → choose h w.value x ≡ value_or (cond t (Some w) rest) plain
value_by true h x plain w rest e f = ap (λ (n : ℕ). choose n w.value x) e
value_by false h x plain w rest e f = ap (λ (n : ℕ). choose n w.value x) e ∙ f

bad_by : (t : Bool) (h m x : ℕ) (w : Ahead) (rest : Option Ahead) → h ≡ one_if t → m ≡ one_if (not w.ready) → x ≡ one_if (waits_for rest) → choose h m x ≡ one_if (waits_for (cond t (Some w) rest))
bad_by true h m x w rest e f g = ap (λ (n : ℕ). choose n m x) e ∙ f
bad_by false h m x w rest e f g = ap (λ (n : ℕ). choose n m x) e ∙ g

pub chooses : (bypassed : ℕ → Bool) (stages : List Told) (r plain : ℕ) → AreBits stages → Chooses bypassed stages r plain
unfolding chosen_of after
chooses bypassed [] r plain bits = record { value = refl; bad = refl }
chooses bypassed (s ∷ rest) r plain bits =
    let below = chooses (λ i. bypassed (suc i)) rest r plain bits.2 in
    let test : Bool = eqb s.writes 1 && (eqb s.rd r && not (eqb r 0)) in
    let w : Ahead = record (ahead_of s) { ready = eqb s.ready 1 && bypassed 0 } in
    record {
      value = value_by test (hit_of r s) _ plain w (writer (λ i. bypassed (suc i)) (map ahead_of rest) r) (hit_is r s bits.0) below.value;
      bad = bad_by test (hit_of r s) (missing_of (bypassed 0) s) _ w (writer (λ i. bypassed (suc i)) (map ahead_of rest) r) (hit_is r s bits.0)
          (missing_by (bypassed 0) (eqb s.ready 1) s (bit_is s.ready bits.1)) below.bad;
    }
