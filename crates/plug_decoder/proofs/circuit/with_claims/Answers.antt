use Rattle.std.proofs.Common.{◌∙◌, ℕ, arith, get_or}
use Rattle.core_words.specs.Values.{one_if}
use Rattle.hw_pool.specs.Meaning.{Env}
use Rattle.hw_gates.proofs.Steps.{◌▸◌, kept, stays, stays_in, step_as}
use Rattle.plug_decoder.specs.Machine.{claim_at, hit_of, masked, uses_a, uses_b, has_value}
use Rattle.plug_decoder.proofs.Claims.{none_yet, or_more}
use Rattle.plug_decoder.proofs.More.{zeros_stay, zeros_stay_in}
use Rattle.plug_decoder.proofs.circuit.with_claims.Goals as goal

pub loop-k-init : goal.loop-k-init
loop-k-init c = none_yet _ _ _ _ _ _ c.requires.nets c.requires.word c.requires.zeros

pub loop-k-preserved : goal.loop-k-preserved
loop-k-preserved c =
    let so_far = c.loop-k.invariant in
    let one = c.with_claim-so_far.ensures in
    let still = λ (env : Env). kept env _ _ _ c.args.word so_far.step c.requires.word.0 in
    record {
      gives = record {
        legal = λ env. one.legal env ∙ or_more _ _ _ _ (λ (w k : ℕ). hit_of w (claim_at c.args.rows.now k)) c.loop-k.k (so_far.gives.legal env) (still env);
        row = λ env. one.row env ∙ or_more _ _ _ _ (λ (w k : ℕ). masked w (claim_at c.args.rows.now k) (claim_at c.args.rows.now k).row) c.loop-k.k (so_far.gives.row env) (still env);
        unit = λ env. one.unit env ∙ or_more _ _ _ _ (λ (w k : ℕ). masked w (claim_at c.args.rows.now k) (get_or c.args.owners.now k 0)) c.loop-k.k (so_far.gives.unit env) (still env);
        uses_a = λ env. one.uses_a env ∙ or_more _ _ _ _ (λ (w k : ℕ). masked w (claim_at c.args.rows.now k) (one_if (uses_a (claim_at c.args.rows.now k).row))) c.loop-k.k (so_far.gives.uses_a env) (still env);
        uses_b = λ env. one.uses_b env ∙ or_more _ _ _ _ (λ (w k : ℕ). masked w (claim_at c.args.rows.now k) (one_if (uses_b (claim_at c.args.rows.now k).row))) c.loop-k.k (so_far.gives.uses_b env) (still env);
        has_value = λ env. one.has_value env ∙ or_more _ _ _ _ (λ (w k : ℕ). masked w (claim_at c.args.rows.now k) (one_if (has_value (claim_at c.args.rows.now k).row))) c.loop-k.k (so_far.gives.has_value env) (still env);
      };
      nets = one.nets;
      scope = λ s h z k. one.scope s (stays_in s _ _ _ c.args.word so_far.step c.requires.word.0 h) (zeros_stay_in _ _ _ so_far.step _ c.requires.zeros s z) (so_far.scope s h z k);
      word_is = stays _ _ _ _ _ _ one.step so_far.word_is;
      zeros_are = zeros_stay _ _ _ one.step _ so_far.zeros_are;
      step = step_as _ _ _ _ (omega arith) (so_far.step ▸ one.step);
    }
