-- The equations of the circuit are the formula, and the formula keeps multiples of 4.
use Rattle.std.proofs.Common.{◌≡◌, ◌∙◌, ℕ, ◌+◌, ◌*◌, ◌/◌, ◌%◌, ◌^◌, ◌<◌, Bool, true, false, cond, not, eqb, ◌&&◌, bit_and, bit_or, refl, ap, arith}
use Rattle.std.proofs.lemmas.Bool.Decides.{nat_tests}
use Rattle.core_words.specs.Values.{one_if, choose, bits_of, join_of, add_of, not_of}
use Rattle.core_words.specs.Fields.{extend, imm_b, imm_j}
use Rattle.isa_model.specs.Effects.{behind}
use Rattle.hw_words.proofs.Bits.{bit_is}
use Rattle.plug_law.specs.Predict.{IsPredict}
use Rattle.plug_predict.specs.declared.styles.Style.{Style}
use Rattle.plug_predict.specs.declared.styles.Style.TheVariants.{Next, Static}
use Rattle.plug_predict.specs.Formula.{is_backward, is_branch, is_jal, predict_of, static_of, target_at}
use Rattle.plug_predict.specs.Machine.{backward_of, chosen_of, guess_of, jal_of, reached_of, static_guess_of}

-- ---- immediates

below-13 : (v : ℕ) → v < 8192 → extend 13 v < 4294967296
below-13 v h = grind (arith, nat_tests)

below-21 : (v : ℕ) → v < 2097152 → extend 21 v < 4294967296
below-21 v h = grind (arith, nat_tests)

b_fits : (word : ℕ) → imm_b word < 2 ^ 32
unfolding imm_b
b_fits word = below-13 (bits_of word 31 31 * 2 ^ 12 + bits_of word 7 7 * 2 ^ 11 + bits_of word 30 25 * 2 ^ 5 + bits_of word 11 8 * 2) (omega arith)

j_fits : (word : ℕ) → imm_j word < 2 ^ 32
unfolding imm_j
j_fits word = below-21 (bits_of word 31 31 * 2 ^ 20 + bits_of word 19 12 * 2 ^ 12 + bits_of word 20 20 * 2 ^ 11 + bits_of word 30 21 * 2) (omega arith)

cleared : (v : ℕ) → v < 2 ^ 32 → join_of 2 (bits_of v 31 2) 0 ≡ v / 4 * 4
cleared v h = omega arith

reached_is : (pc v : ℕ) → v < 2 ^ 32 → reached_of pc v ≡ target_at pc v
unfolding reached_of
reached_is pc v h = ap (add_of 32 pc) (cleared v h)

-- ---- bits

joined : (o n t : Bool) → bit_and (bit_and (one_if o) (not_of 1 (one_if n))) (one_if t) ≡ one_if ((o && not n) && t)
joined false n t = refl
joined true true t = refl
joined true false true = refl
joined true false false = refl

picked : (j q : Bool) (x y z : ℕ) → choose (bit_or (one_if j) (one_if q)) (choose (one_if j) x y) z ≡ cond j x (cond q y z)
picked true true x y z = refl
picked true false x y z = refl
picked false true x y z = refl
picked false false x y z = refl

backward_is : (word : ℕ) → backward_of word ≡ one_if (is_branch word && is_backward word)
unfolding backward_of
backward_is word =
    let o = eqb (bits_of word 6 0) 0x63 in
    let n = eqb (bits_of word 14 13) 1 in
    ap (bit_and (bit_and (one_if o) (not_of 1 (one_if n)))) (bit_is (bits_of word 31 31) (omega arith)) ∙ joined o n (is_backward word)

static_is : (pc word : ℕ) → static_guess_of pc word ≡ static_of pc word
unfolding static_guess_of chosen_of jal_of
static_is pc word =
    (λ i. choose (bit_or (one_if (is_jal word)) (backward_is word i)) (choose (one_if (is_jal word)) (reached_is pc (imm_j word) (j_fits word) i) (reached_is pc (imm_b word) (b_fits word) i)) (behind pc))
    ∙ picked (is_jal word) (is_branch word && is_backward word) (target_at pc (imm_j word)) (target_at pc (imm_b word)) (behind pc)

pub guess_is : (style : Style) (pc word : ℕ) → guess_of style pc word ≡ predict_of style pc word
guess_is Next pc word = refl
guess_is Static pc word = static_is pc word

-- ---- multiples of 4

behind_whole : (pc : ℕ) → pc % 4 ≡ 0 → behind pc % 4 ≡ 0
behind_whole pc h = omega arith

target_whole : (pc v : ℕ) → pc % 4 ≡ 0 → target_at pc v % 4 ≡ 0
target_whole pc v h = omega arith

choice_whole : (c : Bool) (x y : ℕ) → x % 4 ≡ 0 → y % 4 ≡ 0 → cond c x y % 4 ≡ 0
choice_whole true x y h k = h
choice_whole false x y h k = k

pub whole : (style : Style) → IsPredict true (predict_of style)
whole Next pc word h = behind_whole pc h
whole Static pc word h =
    choice_whole (is_jal word) _ _ (target_whole pc (imm_j word) h)
    (choice_whole (is_branch word && is_backward word) _ _ (target_whole pc (imm_b word) h) (behind_whole pc h))
