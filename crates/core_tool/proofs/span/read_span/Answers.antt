use Rattle.std.proofs.Common.{◌≡◌, ◌<◌, Some, None, sym, ◌∙◌, arith}
use Rattle.std.proofs.lemmas.Str.Pattern.{split_once_first}
use Rattle.core_tool.specs.Options.{span_in}
use Rattle.core_tool.proofs.OptionWords.{no_span}
use Rattle.core_tool.proofs.span.read_span.Goals as goal

pub returns-in_err-from-clause-span : goal.returns-in_err-from-clause-span
returns-in_err-from-clause-span c =
    let first = split_once_first 64 c.args.word.now (Some (c.in_ok-name.name, c.in_ok-name.cycles)) c.in_ok-name.ensures.cases (omega arith) in
    let none = split_once_first 45 c.in_ok-name.cycles.now None c.in_err-from.ensures.cases (omega arith) in
    let is : span_in c.args.word.now ≡ None = no_span c.args.word.now c.in_ok-name.cycles.now first.2 none in
    cc (is, c.from_residual-in_err-from.ensures)
