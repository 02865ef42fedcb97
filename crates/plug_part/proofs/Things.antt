-- The things of a part in its runs.
use Rattle.std.proofs.Common.{◌≡◌, ◌∙◌, ℕ, suc, ◌^◌, ◌<◌, cond, eqb, length, set, Option, Some, None, refl, ap, subst}
use Rattle.std.specs.Prelude.{All}
use Rattle.core_words.specs.Values.{choose}
use Rattle.hw_pool.specs.Meaning.{Env, value}
use Rattle.plug_part.specs.Part.{Part}
use Rattle.plug_part.specs.Runs.{IsPartRun, next_value}
use Rattle.plug_part.specs.Things.{HasWire, HasReg, HasArray, HasDriver}

-- with `reset` a register takes its reset's value, and without it its driver's
value_at_reset : (env : Env) (start v : ℕ) → env.inputs 1 ≡ 1 → next_value env (Some start) v ≡ start
value_at_reset env start v e = ap (λ c. choose c start v) e

value_after : (o : Option ℕ) (env : Env) (v : ℕ) → env.inputs 1 ≡ 0 → next_value env o v ≡ v
value_after None env v e = refl
value_after (Some start) env v e = ap (λ c. choose c start v) e

module _ (p : Part) (run : ℕ → Env) (is : IsPartRun p run) where
  pub wire_fits : (wire width : ℕ) → HasWire p wire width → (k : ℕ) → (run k).wires wire < 2 ^ width
  wire_fits wire width has k = subst (λ w. (run k).wires wire < 2 ^ w) has.wide (is.within.wires_fit wire has.row has.is k)

  pub reg_fits : (reg width : ℕ) (reset : Option ℕ) (next : Env → ℕ) → HasReg p reg width reset next → (k : ℕ) → (run k).regs reg < 2 ^ width
  reg_fits reg width reset next has k = subst (λ w. (run k).regs reg < 2 ^ w) has.wide (is.within.regs_fit reg has.row has.is k)

  pub reg_first : (reg width start : ℕ) (next : Env → ℕ) → HasReg p reg width (Some start) next → (run 1).regs reg ≡ start
  reg_first reg width start next has =
      is.is.regs reg has.row has.tree has.is has.next_is 0
      ∙ (ap (λ o. next_value (run 0) o (value (run 0) has.tree)) has.reset_is ∙ value_at_reset (run 0) start (value (run 0) has.tree) is.first)

  pub reg_next : (reg width : ℕ) (reset : Option ℕ) (next : Env → ℕ) → HasReg p reg width reset next → (s : ℕ) → (run (suc (suc s))).regs reg ≡ next (run (suc s))
  reg_next reg width reset next has s =
      is.is.regs reg has.row has.tree has.is has.next_is (suc s)
      ∙ (value_after has.row.reset (run (suc s)) (value (run (suc s)) has.tree) (is.later s) ∙ has.value_is (run (suc s)))

  pub wire_is : (wire : ℕ) (f : Env → ℕ) → HasDriver p wire f → (k : ℕ) → (run k).wires wire ≡ f (run k)
  wire_is wire f has k = is.is.wires wire has.row has.driven.tree has.is has.driven.is k ∙ has.driven.value_is (run k)

  module _ (array width bits : ℕ) (enable addr item : Env → ℕ) (has : HasArray p array width bits enable addr item) where
    pub array_many : (k : ℕ) → length ((run k).cells array) ≡ 2 ^ bits
    array_many k = is.within.cells_many array has.row has.is k ∙ ap (λ n. 2 ^ n) has.many

    pub array_fits : (k : ℕ) → All (λ c. c < 2 ^ width) ((run k).cells array)
    array_fits k = subst (λ (w : ℕ). All (λ c. c < 2 ^ w) ((run k).cells array)) has.wide (is.within.cells_fit array has.row has.is k)

    pub array_next : (k : ℕ) → (run (suc k)).cells array
        ≡ cond (eqb (enable (run k)) 1) (set ((run k).cells array) (addr (run k)) (item (run k))) ((run k).cells array)
    array_next k =
        is.is.arrays array has.row has.write has.is has.write_is k
        ∙ (λ i. cond (eqb (has.enable_is (run k) i) 1) (set ((run k).cells array) (has.addr_is (run k) i) (has.item_is (run k) i)) ((run k).cells array))
