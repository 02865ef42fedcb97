-- Trees that mean modules whose cycles agree have the same runs.
use Rattle.std.proofs.Common.{◌≡◌, ◌∙◌, ◌↔◌, ℕ, zero, suc, ◌^◌, ◌<◌, ◌++◌, Bool, true, false, List, length, All, refl, ap, sym, subst, arith, codes}
use Rattle.std.specs.Fmt.{decimal}
use Rattle.core_ports.specs.Ports.{is_input}
use Rattle.hw_pool.specs.declared.node.Node.{Node}
use Rattle.hw_pool.specs.Nodes.{PoolValue}
use Rattle.hw_module.specs.Ports.{port_at}
use Rattle.hw_module.specs.Rows.{ModuleValue, IsModule}
use Rattle.hw_module.specs.Checked.{IsChecked}
use Rattle.hw_module.specs.Cycle.{Held, IsHeld, AreInputs, next_held}
use Rattle.hw_reach.proofs.Bounds.{next_fits}
use Rattle.verilog_mean.specs.Plain.{Plain}
use Rattle.verilog_mean.specs.Cycle.{State, next}
use Rattle.verilog_mean.specs.Run.{Inputs, IsStart, AllZero, state_at, trace_of}
use Rattle.verilog_mean.specs.CorePorts.{HasCorePorts}
use Rattle.module_netlist.specs.Names.{owner_name, reg_name, array_name, port_name}
use Rattle.module_netlist.specs.Means.{Means, HoldsZero, held_by, ins_by}
use Rattle.module_agree.specs.Agree.{SameContents, CyclesAgree}
use Rattle.module_agree.proofs.Depends.{HoldsSame}
use Rattle.module_agree.proofs.Runs.{held_same, next_agrees, out_agrees}
use Rattle.module_agree.proofs.Ports.{input_is}

-- the same contents, the other way round
turned : (m m' : ModuleValue) → SameContents m m' → SameContents m' m
turned m m' same = record {
  regs = sym same.regs;
  arrays = sym same.arrays;
  reg_owners = λ r l. sym (same.reg_owners r (let e = same.regs in omega arith));
  reg_widths = λ r l. sym (same.reg_widths r (let e = same.regs in omega arith));
  array_owners = λ a l. sym (same.array_owners a (let e = same.arrays in omega arith));
  array_widths = λ a l. sym (same.array_widths a (let e = same.arrays in omega arith));
  array_bits = λ a l. sym (same.array_bits a (let e = same.arrays in omega arith));
}

module _ (m m' : ModuleValue) (same : SameContents m m') where
  reg_named : (r : ℕ) → r < length m.regs → reg_name m r ≡ reg_name m' r
  reg_named r l = ap (λ owner. owner_name owner ++ (codes "_r" ++ decimal r)) (same.reg_owners r l)

  array_named : (a : ℕ) → a < length m.arrays → array_name m a ≡ array_name m' a
  array_named a l = ap (λ owner. owner_name owner ++ (codes "_a" ++ decimal a)) (same.array_owners a l)

  -- both read the same of the contents of a tree
  named_same : (s : State) → HoldsSame m (held_by m s) (held_by m' s)
  named_same s = record { regs = λ r l. ap s.regs (reg_named r l); cells = λ a l. ap s.cells (array_named a l) }

  -- what fits the one fits the other
  fits_both : (s : Held) → IsHeld m s → IsHeld m' s
  fits_both s held =
      let back = turned m m' same in record {
        regs = λ r l. subst (λ w. s.regs r < 2 ^ w) (sym (back.reg_widths r l)) (held.regs r (let e = same.regs in omega arith));
        counts = λ a l. held.counts a (let e = same.arrays in omega arith) ∙ ap (λ b. 2 ^ b) (sym (back.array_bits a l));
        cells = λ a l. subst (λ w. All (λ c. c < 2 ^ w) (s.cells a)) (sym (back.array_widths a l)) (held.cells a (let e = same.arrays in omega arith));
      }

  held_both : (s : State) → IsHeld m (held_by m s) → IsHeld m' (held_by m' s)
  held_both s held = fits_both (held_by m' s) (held_same m (held_by m s) (held_by m' s) (named_same s) held)

  zero_both : (s : State) → HoldsZero m (held_by m s) → HoldsZero m' (held_by m' s)
  zero_both s zeros = record {
    regs = λ r l. let there : r < length m.regs = let e = same.regs in omega arith in ap s.regs (sym (reg_named r there)) ∙ zeros.regs r there;
    cells = λ a l.
        let there : a < length m.arrays = let e = same.arrays in omega arith in
        subst (All (λ c. c ≡ 0)) (ap s.cells (array_named a there)) (zeros.cells a there);
  }

module _ (m : ModuleValue) (nodes : List Node) (m' : ModuleValue) (nodes' : List Node) (same : SameContents m m') (t t' : Plain) (means : Means m nodes t)
    (means' : Means m' nodes' t') where
  -- the trees may start from the same contents
  pub starts_same : (c : State) → IsStart t.items c ↔ IsStart t'.items c
  starts_same c = (
    λ h. (means'.start c).1 (held_both m m' same c ((means.start c).0 h)),
    λ h. (means.start c).1 (held_both m' m (turned m m' same) c ((means'.start c).0 h)),
  )

  pub zeros_same : (c : State) → AllZero t.items c ↔ AllZero t'.items c
  zeros_same c = (
    λ h. (means'.zeros c).1 (zero_both m m' same c ((means.zeros c).0 h)),
    λ h. (means.zeros c).1 (zero_both m' m (turned m m' same) c ((means'.zeros c).0 h)),
  )

module _ (m : ModuleValue) (pool : PoolValue) (m' : ModuleValue) (nodes' : List Node) (is : IsModule m) (checked : IsChecked m pool) (same : SameContents m m')
    (agree : CyclesAgree m pool.nodes m' nodes') (t t' : Plain) (means : Means m pool.nodes t) (means' : Means m' nodes' t')
    (c : State) (start : IsStart t.items c) (ins : Inputs) (inputs : (k : ℕ) → AreInputs (ins_by (ins k))) where
  -- as a cycle begins, both trees hold the same for the modules, within the widths
  record AreSame (s s' : State) : Type 0 where
    holds : HoldsSame m (held_by m s) (held_by m' s')
    fits : IsHeld m (held_by m s)

  next_same : (k : ℕ) (s s' : State) → AreSame s s' → AreSame (next t s (ins k)) (next t' s' (ins k))
  next_same k s s' h =
      let now = held_by m s in
      let now' = held_by m' s' in
      let step : HoldsSame m (next_held m pool.nodes now (ins_by (ins k))) (next_held m' nodes' now' (ins_by (ins k))) =
      next_agrees m pool m' nodes' is checked agree now now' h.holds h.fits (ins_by (ins k)) (inputs k) in
      let reg' : (r : ℕ) → r < length m.regs → r < length m'.regs = λ r l. let e = same.regs in omega arith in
      let array' : (a : ℕ) → a < length m.arrays → a < length m'.arrays = λ a l. let e = same.arrays in omega arith in
      record {
        holds = record {
          regs = λ r l. means.regs s (ins k) r l ∙ step.regs r l ∙ sym (means'.regs s' (ins k) r (reg' r l));
          cells = λ a l. means.cells s (ins k) a l ∙ step.cells a l ∙ sym (means'.cells s' (ins k) a (array' a l));
        };
        fits =
            held_same m (next_held m pool.nodes now (ins_by (ins k))) (held_by m (next t s (ins k)))
            (record { regs = λ r l. sym (means.regs s (ins k) r l); cells = λ a l. sym (means.cells s (ins k) a l) })
            (next_fits m now (ins_by (ins k)) h.fits (inputs k) pool checked.fits is);
      }

  states_same : (k : ℕ) → AreSame (state_at t c ins k) (state_at t' c ins k)
  unfolding state_at
  states_same zero = record { holds = named_same m m' same c; fits = (means.start c).0 start }
  states_same (suc k) = next_same k (state_at t c ins k) (state_at t' c ins k) (states_same k)

  -- in each cycle the outputs have the same values
  pub outs_same : (k p : ℕ) → p < 30 → is_input (port_at p) ≡ false → trace_of t c ins k (port_name p) ≡ trace_of t' c ins k (port_name p)
  unfolding trace_of
  outs_same k p l o =
      let s = state_at t c ins k in
      let s' = state_at t' c ins k in
      let h = states_same k in
      means.outs s (ins k) p l o
      ∙ out_agrees m pool m' nodes' is checked agree (held_by m s) (held_by m' s') h.holds h.fits (ins_by (ins k)) (inputs k) p l o
      ∙ sym (means'.outs s' (ins k) p l o)

  -- and so have all ports
  pub ports_same : HasCorePorts t → HasCorePorts t' → (k p : ℕ) → p < 30 → trace_of t c ins k (port_name p) ≡ trace_of t' c ins k (port_name p)
  unfolding trace_of
  ports_same ports ports' k p l = by_direction (is_input (port_at p)) refl
    where
      by_direction : (b : Bool) → is_input (port_at p) ≡ b → trace_of t c ins k (port_name p) ≡ trace_of t' c ins k (port_name p)
      by_direction true o = input_is t ports (state_at t c ins k) (ins k) p l o ∙ sym (input_is t' ports' (state_at t' c ins k) (ins k) p l o)
      by_direction false o = outs_same k p l o
