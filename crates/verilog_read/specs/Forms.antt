-- The forms of Verilog that the language lacks, by the tokens that tell them.
use Rattle.std.specs.Prelude.{ℕ, Bool, false, ◌&&◌, ◌||◌, ◌==◌, List, [], ◌∷◌, Option, Some, None}
use Rattle.verilog_tree.specs.Bytes.{choose, begins, is_letter}
use Rattle.verilog_tree.specs.Words.{is_among, unsupported_words}
use Rattle.verilog_tree.specs.Lexemes.{Lexeme, Word, Number, Sized, Mark}
use Rattle.verilog_read.specs.declared.refusal.UnsupportedForm.{UnsupportedForm}
use Rattle.verilog_read.specs.declared.refusal.UnsupportedForm.TheVariants as form

-- a token that is one of the language elsewhere
abbrev pub form_of : Lexeme → Option UnsupportedForm
form_of (Number n) = Some form.Bare
form_of (Word w) = choose (is_among w unsupported_words) (λ _. Some form.Word) (λ _. None)
form_of (Sized width value) = None
form_of (Mark s) = None

abbrev pub begins_letter : List ℕ → Bool
begins_letter [] = false
begins_letter (b ∷ bs) = is_letter b

abbrev pub begins_twice : ℕ → List ℕ → Bool
begins_twice c [] = false
begins_twice c (b ∷ bs) = b == c && begins c bs

-- a form, where a test passes
abbrev pub form_if : Bool → UnsupportedForm → Option UnsupportedForm
form_if b f = choose b (λ _. Some f) (λ _. None)

-- a sign that the language lacks, by the byte that it begins with and those behind it
abbrev pub form_at : ℕ → List ℕ → Option UnsupportedForm
form_at b bs =
    choose (b == 42 || b == 47 || b == 37) (λ _. Some form.Times) (λ _.
    choose (b == 60) (λ _. form_if (begins 60 bs) form.Shift) (λ _.
    choose (b == 62) (λ _. choose (begins 62 bs) (λ _. Some form.Shift) (λ _. Some form.Compare)) (λ _.
    choose (b == 61) (λ _. form_if (begins_twice 61 bs) form.Compare) (λ _.
    choose (b == 33) (λ _. choose (begins 61 bs) (λ _. Some form.Compare) (λ _. Some form.Logic)) (λ _.
    choose (b == 38) (λ _. form_if (begins 38 bs) form.Logic) (λ _.
    choose (b == 124) (λ _. form_if (begins 124 bs) form.Logic) (λ _.
    choose (b == 126) (λ _. form_if (begins 38 bs || begins 124 bs || begins 94 bs) form.Logic) (λ _.
    choose (b == 94) (λ _. form_if (begins 126 bs) form.Logic) (λ _.
    choose (b == 35) (λ _. Some form.Delay) (λ _.
    choose (b == 36) (λ _. form_if (begins_letter bs) form.System) (λ _.
    form_if (b == 96) form.Directive)))))))))))
