-- Nets with their functions, behind more nodes, and from the calls that add them.
use Rattle.std.proofs.Common.{◌≡◌, ◌∙◌, ℕ, ◌+◌, ◌-◌, ◌≤◌, ap, arith}
use Rattle.std.specs.Prelude.{eqb, max}
use Rattle.core_words.specs.Values.{bits_of, choose, not_of, one_if}
use Rattle.hw_pool.specs.Nodes.{PoolValue}
use Rattle.hw_pool.specs.Meaning.{Env}
use Rattle.hw_pool.specs.Scope.{Scope}
use Rattle.hw_expr.specs.declared.net.Net.{Net}
use Rattle.hw_gates.specs.Places.{Has, Is, IsIn, Step, value_in}
use Rattle.hw_gates.proofs.Steps.{kept, stays, stays_in}
use Rattle.pipe_build.specs.Bears.{Bears, Later}

-- behind more nodes, and with a greater bound of the level
pub bears_on : {s : Scope} {old new : PoolValue} {n width level : ℕ} {f : Env → ℕ} {net : Net} → Step old new n → Bears s old width level f net → Bears s new width level f net
bears_on {s} {old} {new} {n} {width} {level} {f} {net} step h = record {
  is = stays old new n net width level step h.is;
  takes = stays_in s old new n net step h.is.0 h.takes;
  value_is = λ env. kept env old new n net step h.is.0 ∙ h.value_is env;
}

module _ {s : Scope} {old new : PoolValue} {width level : ℕ} {net : Net} where
  -- the result of a call over two to six nets
  pub bears_2 : {wa la wb lb : ℕ} {fa fb : Env → ℕ} {a b : Net} (h : ℕ → ℕ → ℕ) → Bears s old wa la fa a → Bears s old wb lb fb b
      → Is new net width level → ((t : Scope) → IsIn t old a → IsIn t old b → IsIn t new net)
      → ((env : Env) → value_in env new net ≡ h (value_in env old a) (value_in env old b))
      → Bears s new width level (λ env. h (fa env) (fb env)) net
  bears_2 {wa} {la} {wb} {lb} {fa} {fb} {a} {b} h xa xb is takes value = record {
    is = is;
    takes = takes s xa.takes xb.takes;
    value_is = λ env.
        let ea = xa.value_is env in
        let eb = xb.value_is env in
        value env ∙ (λ i. h (ea i) (eb i));
  }

  pub bears_3 : {wa la wb lb wc lc : ℕ} {fa fb fc : Env → ℕ} {a b c : Net} (h : ℕ → ℕ → ℕ → ℕ) → Bears s old wa la fa a → Bears s old wb lb fb b → Bears s old wc lc fc c
      → Is new net width level → ((t : Scope) → IsIn t old a → IsIn t old b → IsIn t old c → IsIn t new net)
      → ((env : Env) → value_in env new net ≡ h (value_in env old a) (value_in env old b) (value_in env old c))
      → Bears s new width level (λ env. h (fa env) (fb env) (fc env)) net
  bears_3 {wa} {la} {wb} {lb} {wc} {lc} {fa} {fb} {fc} {a} {b} {c} h xa xb xc is takes value = record {
    is = is;
    takes = takes s xa.takes xb.takes xc.takes;
    value_is = λ env.
        let ea = xa.value_is env in
        let eb = xb.value_is env in
        let ec = xc.value_is env in
        value env ∙ (λ i. h (ea i) (eb i) (ec i));
  }

  pub bears_4 : {wa la wb lb wc lc wd ld : ℕ} {fa fb fc fd : Env → ℕ} {a b c d : Net} (h : ℕ → ℕ → ℕ → ℕ → ℕ) → Bears s old wa la fa a → Bears s old wb lb fb b → Bears s old wc lc fc c → Bears s old wd ld fd d
      → Is new net width level → ((t : Scope) → IsIn t old a → IsIn t old b → IsIn t old c → IsIn t old d → IsIn t new net)
      → ((env : Env) → value_in env new net ≡ h (value_in env old a) (value_in env old b) (value_in env old c) (value_in env old d))
      → Bears s new width level (λ env. h (fa env) (fb env) (fc env) (fd env)) net
  bears_4 {wa} {la} {wb} {lb} {wc} {lc} {wd} {ld} {fa} {fb} {fc} {fd} {a} {b} {c} {d} h xa xb xc xd is takes value = record {
    is = is;
    takes = takes s xa.takes xb.takes xc.takes xd.takes;
    value_is = λ env.
        let ea = xa.value_is env in
        let eb = xb.value_is env in
        let ec = xc.value_is env in
        let ed = xd.value_is env in
        value env ∙ (λ i. h (ea i) (eb i) (ec i) (ed i));
  }

  pub bears_5 : {wa la wb lb wc lc wd ld we le : ℕ} {fa fb fc fd fe : Env → ℕ} {a b c d e : Net} (h : ℕ → ℕ → ℕ → ℕ → ℕ → ℕ) → Bears s old wa la fa a → Bears s old wb lb fb b → Bears s old wc lc fc c → Bears s old wd ld fd d → Bears s old we le fe e
      → Is new net width level → ((t : Scope) → IsIn t old a → IsIn t old b → IsIn t old c → IsIn t old d → IsIn t old e → IsIn t new net)
      → ((env : Env) → value_in env new net ≡ h (value_in env old a) (value_in env old b) (value_in env old c) (value_in env old d) (value_in env old e))
      → Bears s new width level (λ env. h (fa env) (fb env) (fc env) (fd env) (fe env)) net
  bears_5 {wa} {la} {wb} {lb} {wc} {lc} {wd} {ld} {we} {le} {fa} {fb} {fc} {fd} {fe} {a} {b} {c} {d} {e} h xa xb xc xd xe is takes value = record {
    is = is;
    takes = takes s xa.takes xb.takes xc.takes xd.takes xe.takes;
    value_is = λ env.
        let ea = xa.value_is env in
        let eb = xb.value_is env in
        let ec = xc.value_is env in
        let ed = xd.value_is env in
        let ee = xe.value_is env in
        value env ∙ (λ i. h (ea i) (eb i) (ec i) (ed i) (ee i));
  }

  pub bears_6 : {wa la wb lb wc lc wd ld we le wf lf : ℕ} {fa fb fc fd fe ff : Env → ℕ} {a b c d e f : Net} (h : ℕ → ℕ → ℕ → ℕ → ℕ → ℕ → ℕ) → Bears s old wa la fa a → Bears s old wb lb fb b → Bears s old wc lc fc c → Bears s old wd ld fd d → Bears s old we le fe e → Bears s old wf lf ff f
      → Is new net width level → ((t : Scope) → IsIn t old a → IsIn t old b → IsIn t old c → IsIn t old d → IsIn t old e → IsIn t old f → IsIn t new net)
      → ((env : Env) → value_in env new net ≡ h (value_in env old a) (value_in env old b) (value_in env old c) (value_in env old d) (value_in env old e) (value_in env old f))
      → Bears s new width level (λ env. h (fa env) (fb env) (fc env) (fd env) (fe env) (ff env)) net
  bears_6 {wa} {la} {wb} {lb} {wc} {lc} {wd} {ld} {we} {le} {wf} {lf} {fa} {fb} {fc} {fd} {fe} {ff} {a} {b} {c} {d} {e} {f} h xa xb xc xd xe xf is takes value = record {
    is = is;
    takes = takes s xa.takes xb.takes xc.takes xd.takes xe.takes xf.takes;
    value_is = λ env.
        let ea = xa.value_is env in
        let eb = xb.value_is env in
        let ec = xc.value_is env in
        let ed = xd.value_is env in
        let ee = xe.value_is env in
        let ef = xf.value_is env in
        value env ∙ (λ i. h (ea i) (eb i) (ec i) (ed i) (ee i) (ef i));
  }

  -- the result of an operator
  pub bears_not : {la : ℕ} {fa : Env → ℕ} {a : Net} → la ≤ level → Bears s old width la fa a → Has new net → net.width ≡ a.width → net.level ≡ a.level
      → ((t : Scope) → IsIn t old a → IsIn t new net) → ((env : Env) → value_in env new net ≡ not_of a.width (value_in env old a))
      → Bears s new width level (λ env. not_of width (fa env)) net
  bears_not {la} {fa} {a} below x has wide at takes value =
      let w = x.is.1 in
      record {
        is = (has, wide ∙ w, omega (arith, x.is.2));
        takes = takes s x.takes;
        value_is = λ env. let e = x.value_is env in value env ∙ (λ i. not_of (w i) (e i));
      }

  pub bears_two : {la lb : ℕ} {fa fb : Env → ℕ} {a b : Net} (h : ℕ → ℕ → ℕ) → la ≤ level → lb ≤ level → Bears s old width la fa a → Bears s old width lb fb b → Has new net → net.width ≡ a.width
      → net.level ≡ max a.level b.level → ((t : Scope) → IsIn t old a → IsIn t old b → IsIn t new net)
      → ((env : Env) → value_in env new net ≡ h (value_in env old a) (value_in env old b))
      → Bears s new width level (λ env. h (fa env) (fb env)) net
  bears_two {la} {lb} {fa} {fb} {a} {b} h left right x y has wide at takes value = record {
    is = (has, wide ∙ x.is.1, omega (arith, x.is.2, y.is.2));
    takes = takes s x.takes y.takes;
    value_is = λ env. let e = x.value_is env in let d = y.value_is env in value env ∙ (λ i. h (e i) (d i));
  }

  pub bears_eq : {wide la lb : ℕ} {fa fb : Env → ℕ} {a b : Net} → la ≤ level → lb ≤ level → Bears s old wide la fa a → Bears s old wide lb fb b → Has new net → net.width ≡ 1 → 1 ≡ width
      → net.level ≡ max a.level b.level → ((t : Scope) → IsIn t old a → IsIn t old b → IsIn t new net)
      → ((env : Env) → value_in env new net ≡ one_if (eqb (value_in env old a) (value_in env old b)))
      → Bears s new width level (λ env. one_if (eqb (fa env) (fb env))) net
  bears_eq {wide} {la} {lb} {fa} {fb} {a} {b} left right x y has bit same at takes value = record {
    is = (has, bit ∙ same, omega (arith, x.is.2, y.is.2));
    takes = takes s x.takes y.takes;
    value_is = λ env. let e = x.value_is env in let d = y.value_is env in value env ∙ (λ i. one_if (eqb (e i) (d i)));
  }

  pub bears_mux : {lc la lb : ℕ} {fc fa fb : Env → ℕ} {c a b : Net} → lc ≤ level → la ≤ level → lb ≤ level → Bears s old 1 lc fc c → Bears s old width la fa a → Bears s old width lb fb b
      → Has new net → net.width ≡ a.width → net.level ≡ max (max c.level a.level) b.level → ((t : Scope) → IsIn t old c → IsIn t old a → IsIn t old b → IsIn t new net)
      → ((env : Env) → value_in env new net ≡ choose (value_in env old c) (value_in env old a) (value_in env old b))
      → Bears s new width level (λ env. choose (fc env) (fa env) (fb env)) net
  bears_mux {lc} {la} {lb} {fc} {fa} {fb} {c} {a} {b} cond left right z x y has wide at takes value = record {
    is = (has, wide ∙ x.is.1, omega (arith, z.is.2, x.is.2, y.is.2));
    takes = takes s z.takes x.takes y.takes;
    value_is = λ env. let k = z.value_is env in let e = x.value_is env in let d = y.value_is env in value env ∙ (λ i. choose (k i) (e i) (d i));
  }

  pub bears_slice : {wa la : ℕ} {fa : Env → ℕ} {a : Net} (high low : ℕ) → la ≤ level → Bears s old wa la fa a → high + 1 - low ≡ width → Has new net → net.width ≡ high + 1 - low → net.level ≡ a.level
      → ((t : Scope) → IsIn t old a → IsIn t new net) → ((env : Env) → value_in env new net ≡ bits_of (value_in env old a) high low)
      → Bears s new width level (λ env. bits_of (fa env) high low) net
  bears_slice {wa} {la} {fa} {a} high low below x many has wide at takes value = record {
    is = (has, wide ∙ many, omega (arith, x.is.2));
    takes = takes s x.takes;
    value_is = λ env. value env ∙ ap (λ (k : ℕ). bits_of k high low) (x.value_is env);
  }

-- a literal
pub bears_lit : {s : Scope} {new : PoolValue} {width level : ℕ} {net : Net} (number : ℕ) → Has new net → net.width ≡ width → net.level ≡ 0 → ((t : Scope) → IsIn t new net)
    → ((env : Env) → value_in env new net ≡ number) → Bears s new width level (λ env. number) net
bears_lit {s} number has wide at takes value = record { is = (has, wide, omega arith); takes = takes s; value_is = value }

-- of a width that is known, and a greater bound of the level
pub bears_as : {s : Scope} {pool : PoolValue} {width wide level most : ℕ} {f : Env → ℕ} {net : Net} → wide ≡ width → level ≤ most → Bears s pool wide level f net → Bears s pool width most f net
bears_as {s} {pool} {width} {wide} same within h = record { is = (h.is.0, h.is.1 ∙ same, omega (arith, h.is.2)); takes = h.takes; value_is = h.value_is }

-- behind more nodes, in the same scope or another one
pub later : {s : Scope} {old new : PoolValue} {n : ℕ} → Step old new n → Later s old s new
later {s} {old} {new} {n} step = record { many = n; step = step; scope = λ net has is. stays_in s old new n net step has is }

pub bears_later : {s t : Scope} {old new : PoolValue} {width level : ℕ} {f : Env → ℕ} {net : Net} → Later s old t new → Bears s old width level f net → Bears t new width level f net
bears_later {s} {t} {old} {new} {width} {level} {f} {net} l h = record {
  is = stays old new l.many net width level l.step h.is;
  takes = l.scope net h.is.0 h.takes;
  value_is = λ env. kept env old new l.many net l.step h.is.0 ∙ h.value_is env;
}
