use Rattle.std.proofs.Common.{◌∙◌, sym, ap, arith, List, ℕ, Some}
use Rattle.verilog_tree.specs.Lexemes.{Word}
use Rattle.verilog_read.proofs.Values.{word_is, word_short, word_long, word_text}
use Rattle.verilog_read.proofs.lexer.word.Goals as goal

pub returns-then-text-gt-LONGEST_WORD-clause-token : goal.returns-then-text-gt-LONGEST_WORD-clause-token
returns-then-text-gt-LONGEST_WORD-clause-token c = word_is c.args.bytes.now c.behind-rest.result.now c.requires.some c.behind-rest.ensures.same ∙ word_long _ _ c.if-text-gt-LONGEST_WORD.true

pub returns-in_default-clause-token : goal.returns-in_default-clause-token
returns-in_default-clause-token c = absurd (c.in_default.ensures.cases.0 (word_text c.args.bytes.now c.behind-rest.result.now c.requires.some c.behind-rest.ensures.same c.requires.first))

pub returns-clause-token : goal.returns-clause-token
returns-clause-token c =
    let name = c.of-name.ensures ∙ c.in_ok-from_str.ensures.ok ∙ c.in-Ok.ensures.cases.0 in
    word_is c.args.bytes.now c.behind-rest.result.now c.requires.some c.behind-rest.ensures.same ∙ word_short _ _ (omega arith) ∙ ap (λ (w : List ℕ). Some (Word w, c.behind-rest.result.now)) (sym name)
