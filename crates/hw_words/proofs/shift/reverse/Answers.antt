use Rattle.std.proofs.Common.{◌≡◌, ◌∙◌, ℕ, ap, sym, arith}
use Rattle.std.proofs.Math.Numerals.{add-one}
use Rattle.core_words.specs.Values.{bits_of, join_of}
use Rattle.hw_pool.specs.Meaning.{Env}
use Rattle.hw_gates.specs.Places.{value_in}
use Rattle.hw_gates.proofs.Steps.{◌▸◌, kept, has_in, stays_in, step_as}
use Rattle.hw_words.specs.Shifts.{reverse_of}
use Rattle.hw_words.proofs.shift.reverse.Goals as goal

first : (x : ℕ) → x ≡ join_of 1 0 x
first x = omega arith

pub loop-k-init : goal.loop-k-init
unfolding reverse_of
loop-k-init c =
    let one = c.slice-so_far.ensures in
    record {
      value = λ env. one.value env ∙ first (bits_of (value_in env c.args.pool.now c.args.a) 0 0);
      net = one.net;
      scope = one.scope;
      width = omega arith;
      level = omega arith;
      a = has_in _ _ _ _ one.step c.requires.a;
      step = one.step;
    }

pub loop-k-preserved : goal.loop-k-preserved
unfolding reverse_of
loop-k-preserved c =
    let before = c.loop-k.invariant in
    let one = c.with_bit-so_far.ensures in
    let k = c.loop-k.k in
    let still = λ (env : Env). kept env _ _ _ c.args.a before.step c.requires.a in
    record {
      value = λ env. one.value env ∙ (λ i. join_of 1 (before.value env i) (bits_of (still env i) k k)) ∙ ap (reverse_of (value_in env c.args.pool.now c.args.a)) (sym (add-one k));
      net = one.net;
      scope = λ s h. one.scope s (stays_in s _ _ _ c.args.a before.step c.requires.a h) (before.scope s h);
      width = one.width;
      level = omega arith;
      a = has_in _ _ _ _ one.step before.a;
      step = step_as _ _ _ _ (omega arith) (before.step ▸ one.step);
    }
