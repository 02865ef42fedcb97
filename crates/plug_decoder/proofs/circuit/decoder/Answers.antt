use Rattle.std.proofs.Common.{◌∙◌, bit_or, length, get_or}
use Rattle.core_words.specs.Values.{one_if}
use Rattle.hw_gates.proofs.Steps.{◌▸◌, kept}
use Rattle.hw_words.specs.Gather.{or_from}
use Rattle.plug_decoder.specs.Machine.{claim_at, ebreak, ecall, flag_of, has_value, hit_of, legal_of, masked, of_calls, row_of, unit_of, uses_a, uses_b, writes_of}
use Rattle.plug_decoder.proofs.circuit.decoder.Goals as goal

pub returns-clause-legal : goal.returns-clause-legal
unfolding legal_of
returns-clause-legal c env =
    let all = c.with_claims-all in
    let rows = c.args.rows.now in
    let start = kept env _ _ _ c.args.word c.make_zeros-zeros.ensures.step c.requires.word.0 in
    let still = kept env _ _ _ c.args.word (c.make_zeros-zeros.ensures.step ▸ c.calls-calls.ensures.step) c.requires.word.0 in
    kept env _ _ _ all.result.legal c.writes-writes.ensures.step all.ensures.nets.legal.0
    ∙ all.ensures.gives.legal env
    ∙ (λ i. or_from ((c.calls-calls.ensures.legal env ∙ (λ j. bit_or (hit_of (start j) ecall) (hit_of (start j) ebreak))) i) (λ k. hit_of (still i) (claim_at rows k)) (length rows))

pub returns-clause-unit : goal.returns-clause-unit
unfolding unit_of
returns-clause-unit c env =
    let all = c.with_claims-all in
    let rows = c.args.rows.now in
    let start = kept env _ _ _ c.args.word c.make_zeros-zeros.ensures.step c.requires.word.0 in
    let still = kept env _ _ _ c.args.word (c.make_zeros-zeros.ensures.step ▸ c.calls-calls.ensures.step) c.requires.word.0 in
    kept env _ _ _ all.result.unit c.writes-writes.ensures.step all.ensures.nets.unit.0
    ∙ all.ensures.gives.unit env
    ∙ (λ i. or_from ((c.calls-calls.ensures.unit env ∙ (λ j. of_calls (start j) 0 0)) i) (λ k. masked (still i) (claim_at rows k) (get_or c.args.owners.now k 0)) (length rows))

pub returns-clause-row : goal.returns-clause-row
unfolding row_of
returns-clause-row c env =
    let all = c.with_claims-all in
    let rows = c.args.rows.now in
    let start = kept env _ _ _ c.args.word c.make_zeros-zeros.ensures.step c.requires.word.0 in
    let still = kept env _ _ _ c.args.word (c.make_zeros-zeros.ensures.step ▸ c.calls-calls.ensures.step) c.requires.word.0 in
    kept env _ _ _ all.result.row c.writes-writes.ensures.step all.ensures.nets.row.0
    ∙ all.ensures.gives.row env
    ∙ (λ i. or_from ((c.calls-calls.ensures.row env ∙ (λ j. of_calls (start j) 38 39)) i) (λ k. masked (still i) (claim_at rows k) (claim_at rows k).row) (length rows))

pub returns-clause-uses_a : goal.returns-clause-uses_a
unfolding flag_of
returns-clause-uses_a c env =
    let all = c.with_claims-all in
    let rows = c.args.rows.now in
    let start = kept env _ _ _ c.args.word c.make_zeros-zeros.ensures.step c.requires.word.0 in
    let still = kept env _ _ _ c.args.word (c.make_zeros-zeros.ensures.step ▸ c.calls-calls.ensures.step) c.requires.word.0 in
    kept env _ _ _ all.result.uses_a c.writes-writes.ensures.step all.ensures.nets.uses_a.0
    ∙ all.ensures.gives.uses_a env
    ∙ (λ i. or_from ((c.calls-calls.ensures.uses_a env ∙ (λ j. of_calls (start j) 0 0)) i) (λ k. masked (still i) (claim_at rows k) (one_if (uses_a (claim_at rows k).row))) (length rows))

pub returns-clause-uses_b : goal.returns-clause-uses_b
unfolding flag_of
returns-clause-uses_b c env =
    let all = c.with_claims-all in
    let rows = c.args.rows.now in
    let start = kept env _ _ _ c.args.word c.make_zeros-zeros.ensures.step c.requires.word.0 in
    let still = kept env _ _ _ c.args.word (c.make_zeros-zeros.ensures.step ▸ c.calls-calls.ensures.step) c.requires.word.0 in
    kept env _ _ _ all.result.uses_b c.writes-writes.ensures.step all.ensures.nets.uses_b.0
    ∙ all.ensures.gives.uses_b env
    ∙ (λ i. or_from ((c.calls-calls.ensures.uses_b env ∙ (λ j. of_calls (start j) 0 0)) i) (λ k. masked (still i) (claim_at rows k) (one_if (uses_b (claim_at rows k).row))) (length rows))

pub returns-clause-has_value : goal.returns-clause-has_value
unfolding flag_of
returns-clause-has_value c env =
    let all = c.with_claims-all in
    let rows = c.args.rows.now in
    let start = kept env _ _ _ c.args.word c.make_zeros-zeros.ensures.step c.requires.word.0 in
    let still = kept env _ _ _ c.args.word (c.make_zeros-zeros.ensures.step ▸ c.calls-calls.ensures.step) c.requires.word.0 in
    kept env _ _ _ all.result.has_value c.writes-writes.ensures.step all.ensures.nets.has_value.0
    ∙ all.ensures.gives.has_value env
    ∙ (λ i. or_from ((c.calls-calls.ensures.has_value env ∙ (λ j. of_calls (start j) 0 0)) i) (λ k. masked (still i) (claim_at rows k) (one_if (has_value (claim_at rows k).row))) (length rows))

pub returns-clause-writes : goal.returns-clause-writes
unfolding flag_of
returns-clause-writes c env =
    let all = c.with_claims-all in
    let rows = c.args.rows.now in
    let start = kept env _ _ _ c.args.word c.make_zeros-zeros.ensures.step c.requires.word.0 in
    let still = kept env _ _ _ c.args.word (c.make_zeros-zeros.ensures.step ▸ c.calls-calls.ensures.step) c.requires.word.0 in
    let word = kept env _ _ _ c.args.word (c.make_zeros-zeros.ensures.step ▸ (c.calls-calls.ensures.step ▸ all.ensures.step)) c.requires.word.0 in
    let flag = all.ensures.gives.has_value env
    ∙ (λ i. or_from ((c.calls-calls.ensures.has_value env ∙ (λ j. of_calls (start j) 0 0)) i) (λ k. masked (still i) (claim_at rows k) (one_if (has_value (claim_at rows k).row))) (length rows)) in
    c.writes-writes.ensures.value env ∙ (λ i. writes_of (word i) (flag i))
