-- The place of a refusal. The tokens of a text are read up to its first fault, and the refusal is at the first of them with which
-- nothing goes on, or at the fault.
use Rattle.std.specs.Prelude.{◌≡◌, ℕ, ◌+◌, Bool, true, false, eqb, cond, List, [], ◌∷◌, length, Option, Some, None, Result, Ok, Err}
use Rattle.verilog_tree.specs.Signs as sign
use Rattle.verilog_tree.specs.Lexemes.{Lexeme, Mark, Placed}
use Rattle.verilog_tree.specs.Blanks.{Between, skipped}
use Rattle.verilog_tree.specs.Lex.{token_at}
use Rattle.verilog_tree.specs.Readers.{Stop, Wrong, Deep}
use Rattle.verilog_tree.specs.Read.{read}
use Rattle.verilog_tree.specs.declared.tree.Tree.{Tree}
use Rattle.verilog_read.specs.declared.refusal.UnsupportedForm.{UnsupportedForm}
use Rattle.verilog_read.specs.declared.refusal.UnsupportedForm.TheVariants as forms
use Rattle.verilog_read.specs.declared.refusal.ReadRefusal.{ReadRefusal}
use Rattle.verilog_read.specs.declared.refusal.ReadRefusal.TheVariants.{TooLong, Unsupported, Text, NoMemory}
use Rattle.verilog_read.specs.Faults.{fault_at}
use Rattle.verilog_read.specs.Forms.{form_of, form_at}

-- ---- the tokens of a text up to its first fault

-- What stands behind them: nothing, or a comment that does not end, where the fault is at the text's end; or a byte by which no token begins.
-- There the fault is in the malformed token, which is of no form, or it is a sign of a form that the language lacks.
abbrev pub EndsAt : (size : ℕ) → Option (List ℕ) → (end : ℕ) → Option UnsupportedForm → Type 0
EndsAt size None end form = (end ≡ size) × (form ≡ None)
EndsAt size (Some []) end form = (end ≡ size) × (form ≡ None)
EndsAt size (Some (b ∷ bs)) end form = (token_at b bs ≡ None) × ((end + length (b ∷ bs) ≡ size + fault_at b bs) × (form ≡ form_at b bs))

abbrev pub HasFront : (size : ℕ) → List ℕ → List Placed → (end : ℕ) → Option UnsupportedForm → Type 0
HasFront size bytes [] end form = EndsAt size (skipped Between bytes) end form
HasFront size bytes (t ∷ ts) end form = (b : ℕ) × (bs rest : List ℕ) ×
    (skipped Between bytes ≡ Some (b ∷ bs)) × (t.at + length (b ∷ bs) ≡ size) × (token_at b bs ≡ Some (t.lexeme, rest)) × HasFront size rest ts end form

-- ---- the refusal

abbrev pub refusal_at : (at : ℕ) → Option UnsupportedForm → ReadRefusal
refusal_at at None = Text at
refusal_at at (Some form) = Unsupported at form

-- at the first of the tokens that are left, or at the fault behind them
abbrev pub wrong_at : List Placed → (end : ℕ) → Option UnsupportedForm → ReadRefusal
wrong_at [] end form = refusal_at end form
wrong_at (t ∷ ts) end form = refusal_at t.at (form_of t.lexeme)

-- ---- an expression that is too deep

-- `(`, `{` and `~`: with them an expression is one deeper than what stands behind them
abbrev pub opens : Lexeme → Bool
opens (Mark sign.Open) = true
opens (Mark sign.OpenBrace) = true
opens (Mark sign.Not) = true
opens _ = false

-- of some tokens the one before the last n
abbrev pub before_last : (n : ℕ) → List Placed → Option Placed
before_last n [] = None
before_last n (t ∷ ts) = cond (eqb (length ts) n) (Some t) (before_last n ts)

-- at the next token; at the end of the tokens there is none
abbrev pub deep_next : (left : List Placed) → (end : ℕ) → Option UnsupportedForm → ReadRefusal
deep_next [] end form = refusal_at end form
deep_next (t ∷ ts) end form = Unsupported t.at forms.Deep

-- by the token that was read last
abbrev pub deep_behind : (last : Option Placed) → (left : List Placed) → (end : ℕ) → Option UnsupportedForm → ReadRefusal
deep_behind None left end form = deep_next left end form
deep_behind (Some t) left end form = cond (opens t.lexeme) (Unsupported t.at forms.Deep) (deep_next left end form)

-- The refusal of an expression that is too deep, where these of the tokens are left: at the token that was read last, if it is `(`, `{`
-- or `~`, and else at the next, which would make the expression deeper.
abbrev pub deep_at : (tokens left : List Placed) → (end : ℕ) → Option UnsupportedForm → ReadRefusal
deep_at tokens left end form = deep_behind (before_last (length left) tokens) left end form

-- where reading these tokens stops
abbrev pub StopsAt : (tokens : List Placed) → Result Tree Stop → (end : ℕ) → Option UnsupportedForm → ReadRefusal → Type 0
StopsAt tokens (Ok t) end form r = r ≡ refusal_at end form
StopsAt tokens (Err (Wrong left)) end form r = r ≡ wrong_at left end form
StopsAt tokens (Err (Deep left)) end form r = r ≡ deep_at tokens left end form

pub record IsRefused (bytes : List ℕ) (r : ReadRefusal) : Type 0 where
  pub tokens : List Placed
  pub end : ℕ
  pub form : Option UnsupportedForm
  pub front : HasFront (length bytes) bytes tokens end form
  pub stops : StopsAt tokens (read tokens) end form r

-- a refusal at a place is at that one
abbrev pub IsInPlace : List ℕ → ReadRefusal → Type 0
IsInPlace bytes (TooLong len) = Unit {0}
IsInPlace bytes NoMemory = Unit {0}
IsInPlace bytes (Unsupported at form) = IsRefused bytes (Unsupported at form)
IsInPlace bytes (Text at) = IsRefused bytes (Text at)
