-- Counters on the port ib_cmd_addr: a + 1 and 1 + a agree, a + 1 and a + 2 do not. The trees of a + 1 are the same whatever
-- numbers their nodes have, and are not those of 1 + a. Last, a register whose reset does not fit: cycles agree, runs do not.
use Rattle.std.proofs.Common.{◌≡◌, ℕ, zero, suc, ◌+◌, ◌-◌, ◌%◌, ◌^◌, ◌<◌, List, [], ◌∷◌, Option, Some, None, refl, ap, arith}
use Rattle.std.proofs.lemmas.Nat.{pow_pos}
use Rattle.core_words.specs.Values.{choose}
use Rattle.core_ports.specs.Ports.{width_of}
use Rattle.hw_pool.specs.declared.node.Node.{Node}
use Rattle.hw_pool.specs.declared.node.Op.TheVariants as op
use Rattle.hw_pool.specs.declared.node.NodeId.{NodeId}
use Rattle.hw_pool.specs.Trees.{tree_of, unfold_to}
use Rattle.hw_pool.specs.Trees.Tree.{Add, Reg, Lit}
use Rattle.hw_expr.specs.declared.net.Net as net
use Rattle.hw_module.specs.declared.rows.Owner.TheVariants.{Pipe}
use Rattle.hw_module.specs.Ports.{port_at}
use Rattle.hw_module.specs.Rows.{ModuleValue, reg_at, out_at}
use Rattle.hw_module.specs.Cycle.{Held, IsHeld, AreInputs, out_value, next_held, held_at}
use Rattle.module_agree.specs.Agree.{SameContents, CyclesAgree, SameDriver, SameReg, SameTrees}

abbrev id : ℕ → NodeId
id k = record { 0 = k }

abbrev reg_node : Node
reg_node = record { op = op.Reg 0; width = 32; level = 0 }

abbrev lit_node : ℕ → Node
lit_node v = record { op = op.Lit v; width = 32; level = 0 }

abbrev sum_node : (a b : ℕ) → Node
sum_node a b = record { op = op.Add (id a) (id b); width = 32; level = 0 }

-- a + v
abbrev plus : ℕ → List Node
plus v = reg_node ∷ lit_node v ∷ sum_node 0 1 ∷ []

-- v + a
abbrev turned : ℕ → List Node
turned v = lit_node v ∷ reg_node ∷ sum_node 0 1 ∷ []

-- a + v behind a node that nothing reaches
abbrev moved : ℕ → List Node
moved v = lit_node 9 ∷ reg_node ∷ lit_node v ∷ sum_node 1 2 ∷ []

-- a register that takes the sum, which the port shows, and restarts at a number
abbrev counter : (sum start : ℕ) → ModuleValue
counter sum start =
    let driver : Option net.Net = Some (record { id = id sum; width = 32; level = 0 }) in record {
      wires = [];
      regs = record { owner = Pipe; width = 32; reset = Some start; next = driver } ∷ [];
      arrays = [];
      outs = None ∷ None ∷ None ∷ None ∷ driver ∷ [];
      room = 100;
    }

same_contents : SameContents (counter 2 0) (counter 3 5)
same_contents = record {
  regs = refl;
  arrays = refl;
  reg_owners = one_owner;
  reg_widths = one_width;
  array_owners = λ a l. absurd (omega arith);
  array_widths = λ a l. absurd (omega arith);
  array_bits = λ a l. absurd (omega arith);
}
  where
    one_owner : (r : ℕ) → r < 1 → (reg_at (counter 2 0).regs r).owner ≡ (reg_at (counter 3 5).regs r).owner
    one_owner zero l = refl
    one_owner (suc r) l = absurd (omega arith)

    one_width : (r : ℕ) → r < 1 → (reg_at (counter 2 0).regs r).width ≡ (reg_at (counter 3 5).regs r).width
    one_width zero l = refl
    one_width (suc r) l = absurd (omega arith)

-- ---- cycles that agree

module _ (s : Held) (ins : ℕ → ℕ) where
  sums : (s.regs 0 + 1) % 2 ^ 32 ≡ (1 + s.regs 0) % 2 ^ 32
  sums = let e : s.regs 0 + 1 ≡ 1 + s.regs 0 = omega arith in ap (λ n. n % 2 ^ 32) e

  outs_agree : (p : ℕ) → out_value (counter 2 0) (plus 1) s ins p ≡ out_value (counter 2 0) (turned 1) s ins p
  unfolding tree_of unfold_to
  outs_agree zero = refl
  outs_agree (suc zero) = refl
  outs_agree (suc (suc zero)) = refl
  outs_agree (suc (suc (suc zero))) = refl
  outs_agree (suc (suc (suc (suc zero)))) = sums
  outs_agree (suc (suc (suc (suc (suc p))))) = refl

  regs_agree : (r : ℕ) → r < 1 → (next_held (counter 2 0) (plus 1) s ins).regs r ≡ (next_held (counter 2 0) (turned 1) s ins).regs r
  unfolding next_held tree_of unfold_to
  regs_agree zero l = ap (choose (ins 1) 0) sums
  regs_agree (suc r) l = absurd (omega arith)

turned_agrees : CyclesAgree (counter 2 0) (plus 1) (counter 2 0) (turned 1)
turned_agrees = record {
  outs = λ s held ins inputs p l o. outs_agree s ins p;
  regs = λ s held ins inputs. regs_agree s ins;
  cells = λ s held ins inputs a l. absurd (omega arith);
}

-- ---- cycles that do not

abbrev nothing : Held
nothing = record { regs = λ r. 0; cells = λ a. [] }

abbrev idle : ℕ → ℕ
idle p = 0

nothing_fits : IsHeld (counter 2 0) nothing
nothing_fits = record {
  regs = λ r l. pow_pos (reg_at (counter 2 0).regs r).width;
  counts = λ a l. absurd (omega arith);
  cells = λ a l. absurd (omega arith);
}

apart : (a b : ℕ) → a < b → a ≡ b → ⊥
apart a b l e = omega arith

-- another number shows on the port
other_number : CyclesAgree (counter 2 0) (plus 1) (counter 2 0) (plus 2) → ⊥
unfolding tree_of unfold_to port_at
other_number agree = apart 1 2 (omega arith) (agree.outs nothing nothing_fits idle (λ p l o. pow_pos (width_of (port_at p))) 4 (omega arith) refl)

-- `reset` is 1
abbrev pulse : ℕ → ℕ
pulse zero = 0
pulse (suc zero) = 1
pulse (suc (suc p)) = 0

pulse_fits : AreInputs pulse
unfolding port_at
pulse_fits zero l o = pow_pos (width_of (port_at 0))
pulse_fits (suc zero) l o = omega arith
pulse_fits (suc (suc p)) l o = pow_pos (width_of (port_at (suc (suc p))))

-- another reset shows in the register
other_start : CyclesAgree (counter 2 0) (plus 1) (counter 2 5) (plus 1) → ⊥
unfolding next_held
other_start agree = apart 0 5 (omega arith) (agree.regs nothing nothing_fits pulse pulse_fits 0 (omega arith))

-- ---- runs

three : (held_at (counter 2 0) (plus 1) nothing (λ k. idle) 3).regs 0 ≡ 3
unfolding held_at next_held tree_of unfold_to
three = refl

-- ---- trees

moved_is_same : SameTrees (counter 2 0) (plus 1) (counter 3 0) (moved 1)
unfolding tree_of unfold_to
moved_is_same = record {
  wire_count = refl;
  reg_count = refl;
  array_count = refl;
  wires = λ w l. absurd (omega arith);
  regs = one;
  arrays = λ a l. absurd (omega arith);
  outs = λ p l o. each p;
}
  where
    one : (r : ℕ) → r < 1 → SameReg (plus 1) (moved 1) (reg_at (counter 2 0).regs r) (reg_at (counter 3 0).regs r)
    one zero l = record { owner = refl; width = refl; reset = refl; next = refl }
    one (suc r) l = absurd (omega arith)

    each : (p : ℕ) → SameDriver (plus 1) (moved 1) (out_at (counter 2 0).outs p) (out_at (counter 3 0).outs p)
    each zero = tt
    each (suc zero) = tt
    each (suc (suc zero)) = tt
    each (suc (suc (suc zero))) = tt
    each (suc (suc (suc (suc zero)))) = refl
    each (suc (suc (suc (suc (suc p))))) = tt

turned_is_not : SameTrees (counter 2 0) (plus 1) (counter 2 0) (turned 1) → ⊥
unfolding tree_of unfold_to
turned_is_not same = differ _ _ _ _ (same.regs 0 (omega arith)).next
  where
    differ : (a b c d : ℕ) → Add 32 (Reg a 0) (Lit b 1) ≡ Add 32 (Lit c 1) (Reg d 0) → ⊥
    differ a b c d e = cc

-- ---- a reset that does not fit its register

-- the register, and the register turned over twice
abbrev bit_nodes : List Node
bit_nodes = record { op = op.Reg 0; width = 1; level = 0 } ∷ record { op = op.Not (id 0); width = 1; level = 0 } ∷ record { op = op.Not (id 1); width = 1; level = 0 } ∷ []

abbrev bit_of : ℕ → net.Net
bit_of k = record { id = id k; width = 1; level = 0 }

-- a register of one bit that restarts at 2; a node shows on the port ib_cmd_valid
abbrev misfit : ℕ → ModuleValue
misfit shown = record {
  wires = [];
  regs = record { owner = Pipe; width = 1; reset = Some 2; next = Some (bit_of 0) } ∷ [];
  arrays = [];
  outs = None ∷ None ∷ Some (bit_of shown) ∷ [];
  room = 100;
}

misfit_next : (s : Held) (ins : ℕ → ℕ) (r : ℕ) → (next_held (misfit 0) bit_nodes s ins).regs r ≡ (next_held (misfit 2) bit_nodes s ins).regs r
unfolding next_held tree_of unfold_to
misfit_next s ins zero = refl
misfit_next s ins (suc r) = refl

-- within the widths both show the same
misfits_agree : CyclesAgree (misfit 0) bit_nodes (misfit 2) bit_nodes
unfolding tree_of unfold_to
misfits_agree = record {
  outs = λ s held ins inputs p l o. outs s ins (held.regs 0 (omega arith)) p;
  regs = λ s held ins inputs r l. misfit_next s ins r;
  cells = λ s held ins inputs a l. absurd (omega arith);
}
  where
    twice : (r : ℕ) → r < 2 → r ≡ 2 - 1 - (2 - 1 - r)
    twice r l = omega arith

    outs : (s : Held) (ins : ℕ → ℕ) → s.regs 0 < 2 → (p : ℕ) → out_value (misfit 0) bit_nodes s ins p ≡ out_value (misfit 2) bit_nodes s ins p
    outs s ins l zero = refl
    outs s ins l (suc zero) = refl
    outs s ins l (suc (suc zero)) = twice (s.regs 0) l
    outs s ins l (suc (suc (suc p))) = refl

-- after a reset they do not
misfits_differ : (out_value (misfit 0) bit_nodes (held_at (misfit 0) bit_nodes nothing (λ k. pulse) 1) pulse 2 ≡ 2)
    × (out_value (misfit 2) bit_nodes (held_at (misfit 2) bit_nodes nothing (λ k. pulse) 1) pulse 2 ≡ 1)
unfolding held_at next_held tree_of unfold_to
misfits_differ = (refl, refl)
