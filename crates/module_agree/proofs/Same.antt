-- Modules with the same rows and trees have the same cycles.
use Rattle.std.proofs.Common.{◌≡◌, ◌∙◌, ℕ, zero, suc, ◌<◌, ◌≤◌, cond, eqb, false, List, length, set, Option, None, Some, refl, ap, sym, inl, inr, arith}
use Rattle.std.proofs.lemmas.Bool.{cases_lt}
use Rattle.std.proofs.lemmas.List.{get_or_past}
use Rattle.core_words.specs.Values.{choose}
use Rattle.core_ports.specs.Ports.{is_input}
use Rattle.hw_pool.specs.declared.node.Node.{Node}
use Rattle.hw_pool.specs.Meaning.{Env, value}
use Rattle.hw_expr.specs.declared.net.Net.{Net}
use Rattle.hw_module.specs.declared.rows.ArrayWrite.{ArrayWrite}
use Rattle.hw_module.specs.Ports.{port_at}
use Rattle.hw_module.specs.Rows.{ModuleValue, wire_at, reg_at, array_at, out_at}
use Rattle.hw_module.specs.Cycle.{Held, env_of, driven_value, wire_to, wire_value, cycle_env, out_value, next_reg, next_cells, next_held}
use Rattle.module_agree.specs.Agree.{SameContents, CyclesAgree, SameDriver, SameWrite, SameTrees}

module _ (nodes nodes' : List Node) where
  -- drivers with the same tree have the same value
  driven_same : (env env' : Env) → env ≡ env' → (a b : Option Net) → SameDriver nodes nodes' a b → driven_value env nodes a ≡ driven_value env' nodes' b
  driven_same env env' e None None h = refl
  driven_same env env' e (Some net) (Some net') h = λ i. value (e i) (h i)
  driven_same env env' e None (Some net') h = absurd h
  driven_same env env' e (Some net) None h = absurd h

module _ (m : ModuleValue) (nodes : List Node) (m' : ModuleValue) (nodes' : List Node) (same : SameTrees m nodes m' nodes') (s : Held) (ins : ℕ → ℕ) where
  wire_driven : (f g : ℕ → ℕ) → f ≡ g → (w : ℕ)
      → driven_value (env_of s ins f) nodes (wire_at m.wires w).driver ≡ driven_value (env_of s ins g) nodes' (wire_at m'.wires w).driver
  wire_driven f g e w = elim (cases_lt w (length m.wires)) [
    | inl there ↦ driven_same nodes nodes' (env_of s ins f) (env_of s ins g) (ap (env_of s ins) e) (wire_at m.wires w).driver (wire_at m'.wires w).driver (same.wires w there).driver
    | inr past ↦
        let past' : length m'.wires ≤ w = let e = same.wire_count in omega arith in
        ap (λ row. driven_value (env_of s ins f) nodes row.driver) (get_or_past m.wires w _ past)
        ∙ sym (ap (λ row. driven_value (env_of s ins g) nodes' row.driver) (get_or_past m'.wires w _ past'))
  ]

  wires_to : (depth w : ℕ) → wire_to m nodes s ins depth w ≡ wire_to m' nodes' s ins depth w
  unfolding wire_to
  wires_to zero w = refl
  wires_to (suc depth) w = wire_driven (wire_to m nodes s ins depth) (wire_to m' nodes' s ins depth) (λ i v. wires_to depth v i) w

  wires_same : (w : ℕ) → wire_value m nodes s ins w ≡ wire_value m' nodes' s ins w
  unfolding wire_value
  wires_same w = wires_to (length m.wires) w ∙ ap (λ depth. wire_to m' nodes' s ins depth w) same.wire_count

  env_same : cycle_env m nodes s ins ≡ cycle_env m' nodes' s ins
  env_same = λ i. env_of s ins (λ w. wires_same w i)

  value_driven : (a b : Option Net) → SameDriver nodes nodes' a b → driven_value (cycle_env m nodes s ins) nodes a ≡ driven_value (cycle_env m' nodes' s ins) nodes' b
  value_driven = driven_same nodes nodes' (cycle_env m nodes s ins) (cycle_env m' nodes' s ins) env_same

  reset_same : (reset reset' : Option ℕ) (a b : ℕ) → reset ≡ reset' → a ≡ b → next_reg m nodes s ins reset a ≡ next_reg m' nodes' s ins reset' b
  reset_same reset reset' a b e f = ap (λ o. next_reg m nodes s ins o a) e ∙ with' reset' f
    where
      with' : (o : Option ℕ) → a ≡ b → next_reg m nodes s ins o a ≡ next_reg m' nodes' s ins o b
      with' None f = f
      with' (Some start) f = ap (choose (ins 1) start) f

  cells_same : (old : List ℕ) (a b : Option ArrayWrite) → SameWrite nodes nodes' a b → next_cells m nodes s ins a old ≡ next_cells m' nodes' s ins b old
  cells_same old None None h = refl
  cells_same old (Some w) (Some w') h =
      λ i. cond (eqb (value_driven (Some w.enable) (Some w'.enable) h.0 i) 1)
      (set old (value_driven (Some w.addr) (Some w'.addr) h.1 i) (value_driven (Some w.value) (Some w'.value) h.2 i)) old
  cells_same old None (Some w') h = absurd h
  cells_same old (Some w) None h = absurd h

  out_same : (p : ℕ) → p < 30 → is_input (port_at p) ≡ false → out_value m nodes s ins p ≡ out_value m' nodes' s ins p
  out_same p l o = value_driven (out_at m.outs p) (out_at m'.outs p) (same.outs p l o)

  reg_same : (r : ℕ) → r < length m.regs → (next_held m nodes s ins).regs r ≡ (next_held m' nodes' s ins).regs r
  unfolding next_held
  reg_same r l =
      let row = same.regs r l in
      reset_same (reg_at m.regs r).reset (reg_at m'.regs r).reset _ _ row.reset (value_driven (reg_at m.regs r).next (reg_at m'.regs r).next row.next)

  array_same : (a : ℕ) → a < length m.arrays → (next_held m nodes s ins).cells a ≡ (next_held m' nodes' s ins).cells a
  unfolding next_held
  array_same a l = cells_same (s.cells a) (array_at m.arrays a).write (array_at m'.arrays a).write (same.arrays a l).write

pub contents_same : (m : ModuleValue) (nodes : List Node) (m' : ModuleValue) (nodes' : List Node) → SameTrees m nodes m' nodes' → SameContents m m'
contents_same m nodes m' nodes' same = record {
  regs = same.reg_count;
  arrays = same.array_count;
  reg_owners = λ r l. (same.regs r l).owner;
  reg_widths = λ r l. (same.regs r l).width;
  array_owners = λ a l. (same.arrays a l).owner;
  array_widths = λ a l. (same.arrays a l).width;
  array_bits = λ a l. (same.arrays a l).bits;
}

pub cycles_agree : (m : ModuleValue) (nodes : List Node) (m' : ModuleValue) (nodes' : List Node) → SameTrees m nodes m' nodes' → CyclesAgree m nodes m' nodes'
cycles_agree m nodes m' nodes' same = record {
  outs = λ s held ins inputs. out_same m nodes m' nodes' same s ins;
  regs = λ s held ins inputs. reg_same m nodes m' nodes' same s ins;
  cells = λ s held ins inputs. array_same m nodes m' nodes' same s ins;
}
