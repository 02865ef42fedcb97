-- Two modules whose cycles agree hold the same in each cycle.
use Rattle.std.proofs.Common.{◌≡◌, ◌∙◌, ℕ, zero, suc, ◌^◌, ◌<◌, false, List, length, All, refl, ap, sym, subst}
use Rattle.core_ports.specs.Ports.{is_input}
use Rattle.hw_pool.specs.declared.node.Node.{Node}
use Rattle.hw_pool.specs.Nodes.{PoolValue}
use Rattle.hw_module.specs.Ports.{port_at}
use Rattle.hw_module.specs.Rows.{ModuleValue, IsModule, reg_at, array_at}
use Rattle.hw_module.specs.Checked.{IsChecked}
use Rattle.hw_module.specs.Cycle.{Held, IsHeld, AreInputs, out_value, next_held, held_at}
use Rattle.hw_reach.proofs.Bounds.{held_fits}
use Rattle.module_agree.specs.Agree.{CyclesAgree}
use Rattle.module_agree.proofs.Depends.{HoldsSame, next_same, out_same}

-- what is held stays within the widths where it holds the same
pub held_same : (m : ModuleValue) (s s' : Held) → HoldsSame m s s' → IsHeld m s → IsHeld m s'
held_same m s s' same held = record {
  regs = λ r l. subst (λ (v : ℕ). v < 2 ^ (reg_at m.regs r).width) (same.regs r l) (held.regs r l);
  counts = λ a l. ap length (sym (same.cells a l)) ∙ held.counts a l;
  cells = λ a l. subst (All (λ c. c < 2 ^ (array_at m.arrays a).width)) (same.cells a l) (held.cells a l);
}

module _ (m : ModuleValue) (pool : PoolValue) (m' : ModuleValue) (nodes' : List Node) (is : IsModule m) (checked : IsChecked m pool)
    (agree : CyclesAgree m pool.nodes m' nodes') where
  -- one cycle on, from contents that hold the same
  pub next_agrees : (s s' : Held) → HoldsSame m s s' → IsHeld m s → (ins : ℕ → ℕ) → AreInputs ins → HoldsSame m (next_held m pool.nodes s ins) (next_held m' nodes' s' ins)
  next_agrees s s' same held ins inputs =
      let held' : IsHeld m s' = held_same m s s' same held in
      let next = next_same m s s' ins ins same (λ p l h. refl) pool checked.fits in record {
        regs = λ r l. next.regs r l ∙ agree.regs s' held' ins inputs r l;
        cells = λ a l. next.cells a l ∙ agree.cells s' held' ins inputs a l;
      }

  pub out_agrees : (s s' : Held) → HoldsSame m s s' → IsHeld m s → (ins : ℕ → ℕ) → AreInputs ins → (p : ℕ) → p < 30 → is_input (port_at p) ≡ false
      → out_value m pool.nodes s ins p ≡ out_value m' nodes' s' ins p
  out_agrees s s' same held ins inputs p l o =
      out_same m s s' ins ins same (λ p l h. refl) pool checked.fits p l ∙ agree.outs s' (held_same m s s' same held) ins inputs p l o

  module _ (s : Held) (start : IsHeld m s) (ins : ℕ → ℕ → ℕ) (inputs : (k : ℕ) → AreInputs (ins k)) where
    fits_at : (k : ℕ) → IsHeld m (held_at m pool.nodes s ins k)
    fits_at = held_fits m pool is checked.fits s start ins inputs

    pub runs_same : (k : ℕ) → HoldsSame m (held_at m pool.nodes s ins k) (held_at m' nodes' s ins k)
    unfolding held_at
    runs_same zero = record { regs = λ r l. refl; cells = λ a l. refl }
    runs_same (suc k) = next_agrees (held_at m pool.nodes s ins k) (held_at m' nodes' s ins k) (runs_same k) (fits_at k) (ins k) (inputs k)

    pub outs_same : (k p : ℕ) → p < 30 → is_input (port_at p) ≡ false
        → out_value m pool.nodes (held_at m pool.nodes s ins k) (ins k) p ≡ out_value m' nodes' (held_at m' nodes' s ins k) (ins k) p
    outs_same k = out_agrees (held_at m pool.nodes s ins k) (held_at m' nodes' s ins k) (runs_same k) (fits_at k) (ins k) (inputs k)
