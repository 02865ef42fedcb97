-- The token that was read last, where an expression is too deep.
use Rattle.std.proofs.Common.{◌≡◌, ◌≤◌, ◌-◌, ℕ, Bool, cond, List, [], ◌∷◌, length, take, drop, Option, Some, sym, ap, ◌∙◌, arith}
use Rattle.std.proofs.Math.Seq.{take-length}
use Rattle.std.proofs.lemmas.Bool.{eq-eqb, ne_eqb}
use Rattle.verilog_tree.specs.Lexemes.{Placed}
use Rattle.verilog_read.specs.declared.refusal.UnsupportedForm.{UnsupportedForm}
use Rattle.verilog_read.specs.declared.token.Placed as code
use Rattle.verilog_read.specs.Seen.{placed_seen, seen}
use Rattle.verilog_read.specs.Places.{before_last, deep_at, deep_behind}
use Rattle.verilog_read.proofs.Loop.{length-seen}

pub before-here : (n : ℕ) (t : code.Placed) (ts : List code.Placed) → length ts ≡ n → before_last n (seen (t ∷ ts)) ≡ Some (placed_seen t)
before-here n t ts h = ap (λ (b : Bool). cond b (Some (placed_seen t)) (before_last n (seen ts))) (eq-eqb (length (seen ts)) n (length-seen ts ∙ h))

pub before-behind : (n : ℕ) (t : code.Placed) (ts : List code.Placed) → (length ts ≡ n → ⊥) → before_last n (seen (t ∷ ts)) ≡ before_last n (seen ts)
before-behind n t ts h = ap (λ (b : Bool). cond b (Some (placed_seen t)) (before_last n (seen ts))) (ne_eqb (length (seen ts)) n (λ e. h (sym (length-seen ts) ∙ e)))

-- behind the first token
pub before-more : (n : ℕ) (ts : List code.Placed) → 1 ≤ length ts → (length (take (length ts - 1) (drop 1 ts)) ≡ n → ⊥)
    → before_last n (seen ts) ≡ before_last n (seen (take (length ts - 1) (drop 1 ts)))
before-more n [] least h = absurd (omega (arith, least))
before-more n (t ∷ ts) least h =
    let k : length (t ∷ ts) - 1 ≡ length ts = omega arith in
    let e : take (length (t ∷ ts) - 1) ts ≡ ts = ap (λ (m : ℕ). take m ts) k ∙ take-length ts in
    before-behind n t ts (λ q. h (ap (λ (us : List code.Placed). length us) e ∙ q)) ∙ ap (λ (us : List code.Placed). before_last n (seen us)) (sym e)

pub deep-behind : (tokens left : List code.Placed) (last : Option Placed) (end : ℕ) (form : Option UnsupportedForm)
    → before_last (length left) (seen tokens) ≡ last → deep_at (seen tokens) (seen left) end form ≡ deep_behind last (seen left) end form
deep-behind tokens left last end form h =
    ap (λ (n : ℕ). deep_behind (before_last n (seen tokens)) (seen left) end form) (length-seen left)
    ∙ ap (λ (o : Option Placed). deep_behind o (seen left) end form) h

pub ruleset deep = (before-here, before-behind, deep-behind)
