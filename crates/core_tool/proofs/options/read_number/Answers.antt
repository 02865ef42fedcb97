use Rattle.std.proofs.Common.{◌≡◌, ◌≤◌, length, true, sym, ap, ◌∙◌, arith}
use Rattle.std.proofs.lemmas.Bool.Decides.{nat_tests}
use Rattle.std.specs.Str.{all_ascii_digits}
use Rattle.core_tool.proofs.OptionWords.{parsed}
use Rattle.core_tool.proofs.options.read_number.Goals as goal

pub unreachable-requires : goal.unreachable-requires
unreachable-requires c =
    let some : 1 ≤ length c.args.word.now = grind (arith, nat_tests, c.is_empty.ensures, c.if-is_empty.false) in
    let digits : all_ascii_digits c.args.word.now ≡ true = ap all_ascii_digits (sym c.as_bytes.ensures.value) ∙ sym c.if-not-are_digits.ensures in
    c.in_default.not-Ok _ (parsed c.args.word.now c.parse.result c.parse.ensures.value.0 digits some (omega arith))
