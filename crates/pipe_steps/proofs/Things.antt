-- The things that the pipeline drives, in a run: their values in each cycle.
use Rattle.std.proofs.Common.{◌≡◌, ◌∙◌, ℕ, suc, ◌^◌, ◌<◌, Bool, true, false, cond, eqb, ◌&&◌, List, refl, sym, ap, subst, Option, None, Some, is_some}
use Rattle.core_words.specs.Values.{choose}
use Rattle.core_ports.specs.Ports.{is_input, name_of}
use Rattle.core_ports.specs.Trace.{Trace}
use Rattle.hw_pool.specs.declared.node.Node.{Node}
use Rattle.hw_pool.specs.Meaning.{Env, value}
use Rattle.hw_module.specs.Ports.{port_at}
use Rattle.hw_module.specs.Rows.{ModuleValue, reg_at}
use Rattle.plug_part.specs.Part.{PortTrees, tree_at}
use Rattle.plug_part.specs.Runs.{next_value}
use Rattle.plug_part.specs.Signals.{or_none}
use Rattle.part_laws.specs.Joined.{ports_in}
use Rattle.pipe_steps.specs.Drives.{RegHas, WireHas, OutHas}
use Rattle.pipe_steps.specs.Runs.{RunsModule}
use Rattle.pipe_steps.proofs.Bits.{Bit, bit_of}

kept_next : (env : Env) (o : Option ℕ) (n : ℕ) → env.inputs 1 ≡ 0 → next_value env o n ≡ n
kept_next env None n h = refl
kept_next env (Some start) n h = ap (λ c. choose c start n) h

module _ (m : ModuleValue) (nodes : List Node) (run : ℕ → Env) (run' : Trace) (r : RunsModule m nodes run run') where
  pub wire_is : {w : ℕ} {f : Env → ℕ} → WireHas m nodes w f → (k : ℕ) → (run k).wires w ≡ f (run k)
  wire_is {w} {f} h k = r.wires w h.driven.tree h.there h.driven.is k ∙ h.driven.value_is (run k)

  pub next_is : {reg width : ℕ} {reset : Option ℕ} {f : Env → ℕ} → RegHas m nodes reg width reset f → (s : ℕ) → (run (suc (suc s))).regs reg ≡ f (run (suc s))
  next_is {reg} {width} {reset} {f} h s =
      r.regs reg h.driven.tree h.there h.driven.is (suc s) ∙ kept_next (run (suc s)) (reg_at m.regs reg).reset _ (r.later s) ∙ h.driven.value_is (run (suc s))

  pub first_is : {reg width start : ℕ} {f : Env → ℕ} → RegHas m nodes reg width (Some start) f → (run 1).regs reg ≡ start
  first_is {reg} {width} {start} {f} h =
      r.regs reg h.driven.tree h.there h.driven.is 0 ∙ ap (λ (o : Option ℕ). next_value (run 0) o (value (run 0) h.driven.tree)) h.reset_is
      ∙ ap (λ c. choose c start (value (run 0) h.driven.tree)) r.first

  pub below_two : {reg : ℕ} {reset : Option ℕ} {f : Env → ℕ} → RegHas m nodes reg 1 reset f → (k : ℕ) → (run k).regs reg < 2
  below_two {reg} h k = subst (λ w. (run k).regs reg < 2 ^ w) h.wide (r.fit reg h.there k)

  pub bit_at : {reg : ℕ} {reset : Option ℕ} {f : Env → ℕ} → RegHas m nodes reg 1 reset f → (k : ℕ) → Bit ((run k).regs reg) (eqb ((run k).regs reg) 1)
  bit_at {reg} h k = bit_of ((run k).regs reg) (below_two h k)

  pub out_is : {q : ℕ} {f : Env → ℕ} → q < 30 → is_input (port_at q) ≡ false → OutHas m nodes q f → (k : ℕ) → run' k (name_of (port_at q)) ≡ f (run k)
  out_is {q} l o h k = r.outs q h.tree l o h.is k ∙ h.value_is (run k)

-- ---- System may not be there: its outputs are 0 then

module _ (env : Env) where
  abbrev there_out : Option (ℕ × PortTrees) → ℕ → ℕ
  there_out o i = value env (tree_at (or_none (ports_in o)).outputs i)

  absent : (o : Option (ℕ × PortTrees)) (i : ℕ) → is_some o ≡ false → there_out o i ≡ 0
  absent None i h = refl
  absent (Some e) i h = absurd cc

  pub system_bit : (o : Option (ℕ × PortTrees)) (b : Bool) → b ≡ is_some o → (i : ℕ) → there_out o i < 2 → Bit (there_out o i) (b && eqb (there_out o i) 1)
  system_bit o true h i l = bit_of (there_out o i) l
  system_bit o false h i l = record { is = absent o i (sym h) }

  pub system_number : (o : Option (ℕ × PortTrees)) (b : Bool) → b ≡ is_some o → (i : ℕ) → there_out o i ≡ cond b (there_out o i) 0
  system_number o true h i = refl
  system_number o false h i = absent o i (sym h)
