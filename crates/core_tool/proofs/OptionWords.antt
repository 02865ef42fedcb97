-- The options of a run, a word at a time, their numbers and their spans.
use Rattle.std.proofs.Common.{◌≡◌, ◌≤◌, ◌<◌, ◌+◌, ℕ, suc, List, [], length, get_or, drop, map, Option, Some, None, eqb, Result, Ok, true, String, Global, string_bytes, refl, sym, ap, ◌∙◌, arith}
use Rattle.std.proofs.Math.Seq.{drop-cons}
use Rattle.std.proofs.lemmas.List.{drop_all}
use Rattle.std.specs.List.{position_or_len}
use Rattle.std.specs.Str.{all_ascii_digits}
use Rattle.std.specs.Str.Parse.{digits_value, ParsesUnsigned}
use Rattle.std.proofs.lemmas.Str.Parse.{IsNumeralModel, numerals_by_value, tells_all_ascii_digits, parse_gives, digits_value_short}
use Rattle.core_tool.specs.declared.options.Found.{Found}
use Rattle.core_sim.specs.declared.ended.IrqSpan.{IrqSpan}
use Rattle.core_tool.specs.Options.{before_byte, behind_byte, line_number, number_in, options_behind, span_in, span_of, taken}

-- one word more
pub behind_step : (words : List (String Global)) (i : ℕ) (word : String Global) (found : Found) → i < length words → word ≡ get_or words i word
    → options_behind (Some found) (map string_bytes (drop i words)) ≡ options_behind (taken found (string_bytes word)) (map string_bytes (drop (i + 1) words))
behind_step words i word found less is =
    let next : suc i ≡ i + 1 = omega arith in
    ap (λ l. options_behind (Some found) (map string_bytes l)) (drop-cons words i word less)
    ∙ ap (λ w. options_behind (taken found (string_bytes w)) (map string_bytes (drop (suc i) words))) (sym is)
    ∙ ap (λ j. options_behind (taken found (string_bytes word)) (map string_bytes (drop j words))) next

digits : IsNumeralModel (λ ds. all_ascii_digits ds ≡ true) (digits_value 10)
digits = numerals_by_value _ tells_all_ascii_digits

-- one to ten digits are read
pub parsed : {E : Type 0} (bs : List ℕ) (r : Result ℕ E) → ParsesUnsigned 64 10 bs r → all_ascii_digits bs ≡ true → 1 ≤ length bs → length bs ≤ 10
    → r ≡ Ok (digits_value 10 bs)
parsed bs r h p one ten =
    let small = digits_value_short digits bs 10 p ten in
    parse_gives digits 64 bs r h p (omega arith) (omega (arith, small))

no_last : (line from : Option ℕ) → ◌≡◌ {A = Option IrqSpan} (span_of line from None) None
no_last None from = refl
no_last (Some line) None = refl
no_last (Some line) (Some from) = refl

-- there is no span without a `-` behind the line's name
pub no_span : (word cycles : List ℕ) → cycles ≡ behind_byte 64 word → position_or_len (λ b. eqb b 45) cycles ≡ length cycles → span_in word ≡ None
no_span word cycles is none =
    let empty : behind_byte 45 cycles ≡ [] = drop_all (position_or_len (λ b. eqb b 45) cycles + 1) cycles (omega (arith, none)) in
    let last : number_in 0 4294967295 (behind_byte 45 (behind_byte 64 word)) ≡ None = ap (λ l. number_in 0 4294967295 (behind_byte 45 l)) (sym is) ∙ ap (number_in 0 4294967295) empty in
    ap (span_of (line_number (before_byte 64 word)) (number_in 0 4294967295 (before_byte 45 (behind_byte 64 word)))) last
    ∙ no_last (line_number (before_byte 64 word)) (number_in 0 4294967295 (before_byte 45 (behind_byte 64 word)))
