-- The numbers of a range and of an array's cells.
use Rattle.std.proofs.Common.{◌≡◌, ℕ, suc, ◌+◌, ◌*◌, ◌%◌, ◌-◌, ◌<◌, ◌^◌, add-one, arith, Bool, true, false, eqb, leb, not, [], ◌∙◌, sym, refl, ap, Option, Some, None}
use Rattle.std.proofs.lemmas.Grind.{one_shifted}
use Rattle.std.proofs.lemmas.Bool.{ne_eqb}
use Rattle.verilog_tree.specs.declared.expr.Pair.{Pair}
use Rattle.verilog_mean.specs.declared.class.Class.{Class}
use Rattle.verilog_mean.specs.declared.class.Class.TheVariants.{Input, Output, Wired, Register, Array}
use Rattle.verilog_mean.specs.declared.refusal.MeanRefusal.{MeanRefusal}
use Rattle.verilog_mean.specs.Look.{put_if}
use Rattle.verilog_mean.specs.Names.{bad_range, bad_cells, Refusals}
use Rattle.verilog_mean.specs.Declarations.{index_width_from, index_width}
use Rattle.verilog_rules.specs.First.{first}

pub next_width : (tries k last : ℕ) → eqb (last + 1) (2 ^ k) ≡ false → index_width_from (suc tries) k last ≡ index_width_from tries (suc k) last
next_width tries k last h = ap (λ b. elim b [ true ↦ k | false ↦ index_width_from tries (suc k) last ]) h

pub here_width : (tries k last : ℕ) → eqb (last + 1) (2 ^ k) ≡ true → index_width_from (suc tries) k last ≡ k
here_width tries k last h = ap (λ b. elim b [ true ↦ k | false ↦ index_width_from tries (suc k) last ]) h

two_next : (a b : Bool) (r s : MeanRefusal) (rest : Refusals) → None ≡ first (put_if a r (put_if b s [])) → put_if a r (put_if b s rest) ≡ rest
two_next true b r s rest h = cc
two_next false true r s rest h = cc
two_next false false r s rest h = refl

two_here : (a b : Bool) (r s x : MeanRefusal) (rest : Refusals) → Some x ≡ first (put_if a r (put_if b s [])) → first (put_if a r (put_if b s rest)) ≡ Some x
two_here true b r s x rest h = sym h
two_here false true r s x rest h = sym h
two_here false false r s x rest h = cc

pub range_next : (range : Option Pair) (rest : Refusals) → None ≡ first (bad_range range []) → bad_range range rest ≡ rest
range_next None rest h = refl
range_next (Some p) rest h = two_next (not (leb p.first.value 63)) (not (eqb p.second.value 0)) _ _ rest h

pub range_here : (range : Option Pair) (rest : Refusals) (x : MeanRefusal) → Some x ≡ first (bad_range range []) → first (bad_range range rest) ≡ Some x
range_here None rest x h = cc
range_here (Some p) rest x h = two_here (not (leb p.first.value 63)) (not (eqb p.second.value 0)) _ _ x rest h

pub cells_next : (class : Class) (rest : Refusals) → None ≡ first (bad_cells class []) → bad_cells class rest ≡ rest
cells_next (Array p) rest h = two_next (not (eqb p.first.value 0)) (eqb (index_width p.second.value) 0) _ _ rest h
cells_next Input rest h = refl
cells_next Output rest h = refl
cells_next (Wired inline) rest h = refl
cells_next Register rest h = refl

pub cells_here : (class : Class) (rest : Refusals) (x : MeanRefusal) → Some x ≡ first (bad_cells class []) → first (bad_cells class rest) ≡ Some x
cells_here (Array p) rest x h = two_here (not (eqb p.first.value 0)) (eqb (index_width p.second.value) 0) _ _ x rest h
cells_here Input rest x h = cc
cells_here Output rest x h = cc
cells_here (Wired inline) rest x h = cc
cells_here Register rest x h = cc

pub width_step : (k last width : ℕ) → k < 17 → eqb (last + 1) (2 ^ k) ≡ false → index_width_from (17 - k) k last ≡ width
    → index_width_from (17 - (k + 1)) (k + 1) last ≡ width
width_step k last width less other h =
    let e : 17 - k ≡ suc (17 - (k + 1)) = omega arith in
    ap (λ j. index_width_from (17 - (k + 1)) j last) (add-one k) ∙ sym (next_width (17 - (k + 1)) k last other) ∙ ap (λ t. index_width_from t k last) (sym e) ∙ h

-- a number of cells that is not the power of 2 which code computes
pub other_size : (cells last k : ℕ) → k < 17 → cells ≡ last → (cells + 1 ≡ (1 * 2 ^ k) % 18446744073709551616 → ⊥) → eqb (last + 1) (2 ^ k) ≡ false
other_size cells last k less e other =
    let one = one_shifted k 18446744073709551615 refl (omega arith) in
    ne_eqb (last + 1) (2 ^ k) (λ h. other (ap (λ n. n + 1) e ∙ h ∙ sym one.0))
