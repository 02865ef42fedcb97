use Rattle.std.proofs.Common.{◌≡◌, ◌+◌, Some, None, map, string_bytes, drop, sym, ap, ◌∙◌}
use Rattle.core_tool.specs.Options.{options_behind, options_of, taken}
use Rattle.core_tool.proofs.OptionWords.{behind_step}
use Rattle.core_tool.proofs.options.Options.of.Goals as goal

pub returns-in_err-found-clause-options : goal.returns-in_err-found-clause-options
returns-in_err-found-clause-options c =
    let step = behind_step c.args.words.now c.loop-word.word-index c.word-item.result c.loop-word.found c.loop-word-test.true c.word-item.is in
    let ends : taken c.loop-word.found (string_bytes c.word-item.result) ≡ None = cc (c.take.ensures.found, c.in_err-found.was, c.as_str.ensures.value) in
    let last : options_of (map string_bytes c.args.words.now) ≡ None =
    sym c.loop-word.invariant.options ∙ step ∙ ap (λ o. options_behind o (map string_bytes (drop (c.loop-word.word-index + 1) c.args.words.now))) ends in
    cc (last, c.from_residual.ensures)

pub loop-word-preserved : goal.loop-word-preserved
loop-word-preserved c =
    let step = behind_step c.args.words.now c.loop-word.word-index c.word-item.result c.loop-word.found c.loop-word-test.true c.word-item.is in
    let goes : Some c.in_ok-found.found ≡ taken c.loop-word.found (string_bytes c.word-item.result) = cc (c.take.ensures.found, c.in_ok-found.was, c.as_str.ensures.value) in
    record {
      options = ap (λ o. options_behind o (map string_bytes (drop (c.loop-word.word-index + 1) c.args.words.now))) goes ∙ sym step ∙ c.loop-word.invariant.options;
      spans = c.in_ok-found.ensures.spans c.loop-word.invariant.spans;
    }
