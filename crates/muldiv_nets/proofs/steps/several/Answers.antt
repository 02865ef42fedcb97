use Rattle.std.proofs.Common.{◌∙◌, ℕ, ap, sym, refl, arith}
use Rattle.std.proofs.Math.Numerals.{add-one}
use Rattle.hw_pool.specs.Meaning.{Env}
use Rattle.hw_gates.specs.Places.{value_in}
use Rattle.hw_gates.proofs.Steps.{◌▸◌, kept, none, stays, stays_in, step_as}
use Rattle.muldiv_law.specs.Steps.{Halves, halves, hi_stepped, lo_stepped, stepped, several}
use Rattle.muldiv_nets.proofs.steps.several.Goals as goal

pub loop-k-init : goal.loop-k-init
unfolding several
loop-k-init c = record {
  hi = λ env. refl;
  lo = λ env. refl;
  upper = c.requires.hi;
  lower = c.requires.lo;
  scope = λ s f2 f1 other inv hi lo. (hi, lo);
  f2 = c.requires.f2;
  f1 = c.requires.f1;
  other = c.requires.other;
  inv = c.requires.inv;
  step = none c.args.pool.now;
}

pub loop-k-preserved : goal.loop-k-preserved
unfolding several stepped
loop-k-preserved c =
    let before = c.loop-k.invariant in
    let one = c.stepped.ensures in
    let r = c.requires in
    let k = c.loop-k.k in
    let p = c.args.pool.now in
    let f2 = λ (env : Env). kept env _ _ _ c.args.f2 before.step r.f2.0 in
    let f1 = λ (env : Env). kept env _ _ _ c.args.f1 before.step r.f1.0 in
    let other = λ (env : Env). kept env _ _ _ c.args.other before.step r.other.0 in
    let inv = λ (env : Env). kept env _ _ _ c.args.inv before.step r.inv.0 in
    let more = λ (env : Env). ap (λ (m : ℕ). several (value_in env p c.args.f2) (value_in env p c.args.f1) (value_in env p c.args.other) (value_in env p c.args.inv) m
    (halves (value_in env p c.args.hi) (value_in env p c.args.lo))) (sym (add-one k)) in
    record {
      hi = λ env. one.hi env ∙ (λ i. hi_stepped (f2 env i) (f1 env i) (other env i) (inv env i) (before.hi env i) (before.lo env i)) ∙ ap (λ (h : Halves). h.hi) (more env);
      lo = λ env. one.lo env ∙ (λ i. lo_stepped (f2 env i) (f1 env i) (other env i) (inv env i) (before.hi env i) (before.lo env i)) ∙ ap (λ (h : Halves). h.lo) (more env);
      upper = one.nets.0;
      lower = one.nets.1;
      scope = λ s a2 a1 ao ai ah al.
          let both = before.scope s a2 a1 ao ai ah al in
          one.scope s (stays_in s _ _ _ c.args.f2 before.step r.f2.0 a2) (stays_in s _ _ _ c.args.f1 before.step r.f1.0 a1) (stays_in s _ _ _ c.args.other before.step r.other.0 ao)
          (stays_in s _ _ _ c.args.inv before.step r.inv.0 ai) both.0 both.1;
      f2 = stays _ _ _ _ _ _ one.step before.f2;
      f1 = stays _ _ _ _ _ _ one.step before.f1;
      other = stays _ _ _ _ _ _ one.step before.other;
      inv = stays _ _ _ _ _ _ one.step before.inv;
      step = step_as _ _ _ _ (omega arith) (before.step ▸ one.step);
    }
