-- A name that is bound to an input, a register or an array matches its value.
use Rattle.std.proofs.Common.{◌≡◌, ℕ, zero, suc, ◌+◌, ◌^◌, ◌<◌, Bool, true, false, cond, ltb, All, List, [], ◌∷◌, length, get_or, drop, refl, ap, sym, ◌∙◌, subst, arith}
use Rattle.std.proofs.lemmas.Bool.Decides.{nat_tests}
use Rattle.std.proofs.lemmas.List.{get_or_past}
use Rattle.std.proofs.lemmas.List.Elements.{All-get_or}
use Rattle.std.proofs.lemmas.Nat.{pow_pos}
use Rattle.verilog_mean.specs.Plain.{Item, Port}
use Rattle.verilog_mean.specs.Plain.Item.{Wire, Reg, Array, Assign, Next, Reset, Write}
use Rattle.verilog_mean.specs.Plain.Port.{In, Out}
use Rattle.verilog_mean.specs.Cycle.{width_in, value}
use Rattle.verilog_mean.proofs.Driven.{value_held, value_outside}
use Rattle.verilog_flat.specs.declared.node.Node.{Node}
use Rattle.verilog_resolve.specs.declared.names.Place.{Place}
use Rattle.verilog_resolve.specs.Means.{Matches}
use Rattle.verilog_sim.specs.Layouts.{input_names, register_names}
use Rattle.verilog_sim.specs.Rooms.{cell_count}
use Rattle.verilog_sim.specs.Bindings.{BindsItems, BindsPorts}

-- the first of what is left of a list, and the others
pub first_left : (xs : List ℕ) (at v : ℕ) (vs : List ℕ) → v ∷ vs ≡ drop at xs → (v ≡ get_or xs at 0) × (vs ≡ drop (at + 1) xs)
first_left xs zero v vs h = (ap (λ l. get_or l 0 0) h, ap (λ l. drop 1 l) h)
first_left [] (suc at) v vs h = absurd (grind arith)
first_left (x ∷ xs) (suc at) v vs h = let f = first_left xs at v vs h in (f.0, f.1 ∙ ap (λ k. drop k (x ∷ xs)) (let e : suc (at + 1) ≡ suc at + 1 = omega arith in e))

pub nothing : {A : Type 0} (xs : List A) → length xs < 1 → xs ≡ []
nothing [] h = refl
nothing (x ∷ xs) h = absurd (omega arith)

pub more_inputs : (p : Port) (ps : List Port) → length (input_names (p ∷ ps)) ≡ length (input_names (p ∷ [])) + length (input_names ps)
more_inputs (In width name) ps = omega arith
more_inputs (Out width name) ps = omega arith

pub more_registers : (i : Item) (is : List Item) → length (register_names (i ∷ is)) ≡ length (register_names (i ∷ [])) + length (register_names is)
more_registers (Reg width name) is = omega arith
more_registers (Array width name cells) is = omega arith
more_registers (Wire width name driver) is = omega arith
more_registers (Assign target driver) is = omega arith
more_registers (Next target driver) is = omega arith
more_registers (Reset target start driver) is = omega arith
more_registers (Write enable target index driver) is = omega arith

pub more_cells : (i : Item) (is : List Item) → cell_count (i ∷ is) ≡ cell_count (i ∷ []) + cell_count is
more_cells (Reg width name) is = omega arith
more_cells (Array width name cells) is = omega arith
more_cells (Wire width name driver) is = omega arith
more_cells (Assign target driver) is = omega arith
more_cells (Next target driver) is = omega arith
more_cells (Reset target start driver) is = omega arith
more_cells (Write enable target index driver) is = omega arith

pub bind_in : (ports rest : List Port) (at width : ℕ) (x : List ℕ) (ns os ms : List Node) (p q r : List ℕ → Place)
    → ((regs cells ins : List ℕ) (w : List ℕ → ℕ) (arrays : List ℕ → List ℕ) (val : List ℕ → ℕ)
    → w x ≡ width → val x ≡ get_or ins at 0 → val x < 2 ^ width
    → ((y : List ℕ) → Matches regs cells ins w arrays val os y (q y)) → (y : List ℕ) → Matches regs cells ins w arrays val ms y (r y))
    → BindsPorts ports (In width x ∷ rest) at ns os p q → BindsPorts ports rest (at + 1) ns ms p r
bind_in ports rest at width x ns os ms p q r means b m s inputs regs cells ins a g l =
    let z = b m s inputs regs cells ins a g l in
    let f = first_left ins at (inputs x) _ z.1.0.1 in
    let o = value_outside m s inputs x z.0.0.1 in (
      z.0.1,
      (
        (z.1.0.0.1, f.1),
        means regs cells ins (width_in m) s.cells (value m s inputs) z.0.0.0 (o ∙ f.0) (subst (λ v. v < 2 ^ width) (sym o) z.1.0.0.0) z.1.1,
      ),
    )

pub bind_out : (ports rest : List Port) (at width : ℕ) (x : List ℕ) (ns os : List Node) (p q : List ℕ → Place)
    → BindsPorts ports (Out width x ∷ rest) at ns os p q → BindsPorts ports rest at ns os p q
bind_out ports rest at width x ns os p q b m s inputs regs cells ins a g l = let z = b m s inputs regs cells ins a g l in (z.0.1, z.1)

pub bind_reg : (items rest : List Item) (reg base width : ℕ) (x : List ℕ) (ns os ms : List Node) (p q r : List ℕ → Place)
    → ((regs cells ins : List ℕ) (w : List ℕ → ℕ) (arrays : List ℕ → List ℕ) (val : List ℕ → ℕ)
    → w x ≡ width → val x ≡ get_or regs reg 0 → val x < 2 ^ width
    → ((y : List ℕ) → Matches regs cells ins w arrays val os y (q y)) → (y : List ℕ) → Matches regs cells ins w arrays val ms y (r y))
    → BindsItems items (Reg width x ∷ rest) reg base ns os p q → BindsItems items rest (reg + 1) base ns ms p r
bind_reg items rest reg base width x ns os ms p q r means b m s inputs regs cells ins a g l =
    let z = b m s inputs regs cells ins a g l in
    let f = first_left regs reg (s.regs x) _ z.1.0.1.0 in
    let o = value_held m s inputs x z.0.0.1 in (
      z.0.1,
      (
        (z.1.0.0.1, (f.1, z.1.0.1.1)),
        means regs cells ins (width_in m) s.cells (value m s inputs) z.0.0.0 (o ∙ f.0) (subst (λ v. v < 2 ^ width) (sym o) z.1.0.0.0) z.1.1,
      ),
    )

-- cells past an array's end are 0
shown : (cells own : List ℕ) (base size : ℕ) → length own ≡ size → ((i : ℕ) → i < size → get_or cells (base + i) 0 ≡ get_or own i 0)
    → (i : ℕ) → cond (ltb i size) (get_or cells (base + i) 0) 0 ≡ get_or own i 0
shown cells own base size n h i = one (ltb i size) refl
  where
    one : (b : Bool) → ltb i size ≡ b → cond b (get_or cells (base + i) 0) 0 ≡ get_or own i 0
    one true q = h i (grind (arith, nat_tests))
    one false q = sym (get_or_past own i 0 (grind (arith, nat_tests)))

pub below : (own : List ℕ) (limit : ℕ) → 0 < limit → All (λ c. c < limit) own → (i : ℕ) → get_or own i 0 < limit
below own limit z h i = one (ltb i (length own)) refl
  where
    one : (b : Bool) → ltb i (length own) ≡ b → get_or own i 0 < limit
    one true q = All-get_or (λ c. c < limit) own i 0 (grind (arith, nat_tests)) h
    one false q = subst (λ v. v < limit) (sym (get_or_past own i 0 (grind (arith, nat_tests)))) z

pub bind_cells : (items rest : List Item) (reg base width size : ℕ) (x : List ℕ) (ns os : List Node) (p q r : List ℕ → Place)
    → ((regs cells ins : List ℕ) (w : List ℕ → ℕ) (arrays : List ℕ → List ℕ) (val : List ℕ → ℕ) (ns : List Node)
    → w x ≡ width → ((i : ℕ) → cond (ltb i size) (get_or cells (base + i) 0) 0 ≡ get_or (arrays x) i 0) → ((i : ℕ) → get_or (arrays x) i 0 < 2 ^ width)
    → ((y : List ℕ) → Matches regs cells ins w arrays val ns y (q y)) → (y : List ℕ) → Matches regs cells ins w arrays val ns y (r y))
    → BindsItems items (Array width x size ∷ rest) reg base ns os p q → BindsItems items rest reg (base + size) ns os p r
bind_cells items rest reg base width size x ns os p q r means b m s inputs regs cells ins a g l =
    let z = b m s inputs regs cells ins a g l in (
      z.0.1,
      (
        (z.1.0.0.1.1, (z.1.0.1.0, z.1.0.1.1.1)),
        means regs cells ins (width_in m) s.cells (value m s inputs) os z.0.0 (shown cells (s.cells x) base size z.1.0.1.1.0.0 z.1.0.1.1.0.1.1)
            (below (s.cells x) (2 ^ width) (pow_pos width) z.1.0.0.1.0) z.1.1,
      ),
    )
