-- What the items of a module's tree say of the contents of registers and arrays.
use Rattle.std.proofs.Common.{◌≡◌, ◌↔◌, ℕ, zero, suc, ◌+◌, ◌^◌, ◌<◌, ◌≤◌, Bool, true, false, List, [], ◌∷◌, All, Option, Some, None, get_or, length, inl, inr, subst, arith}
use Rattle.std.proofs.lemmas.Bool.{cases_eq}
use Rattle.hw_pool.specs.declared.node.Node.{Node}
use Rattle.hw_pool.specs.Nodes.{node_at}
use Rattle.hw_expr.specs.declared.net.Net as net
use Rattle.hw_module.specs.declared.rows.ArrayWrite.{ArrayWrite}
use Rattle.hw_module.specs.Rows.{ModuleValue, wire_at, reg_at, array_at, out_at}
use Rattle.hw_module.specs.Cycle.{IsHeld}
use Rattle.verilog_mean.specs.Look.{put}
use Rattle.verilog_mean.specs.Plain.{Item}
use Rattle.verilog_mean.specs.Cycle.{State}
use Rattle.verilog_mean.specs.Run.{IsStart, AllZero}
use Rattle.verilog_netlist.specs.Netlist.{Value, Line}
use Rattle.verilog_netlist.specs.Netlist.Line.{Wire, Net, Reg, Array, Assign, Next, Reset, Write}
use Rattle.verilog_netlist.specs.Meaning.{line_item, lines_items}
use Rattle.module_netlist.specs.Names.{node_name, wire_name, reg_name, array_name, port_name}
use Rattle.module_netlist.specs.Lines.{spread, assigned, clocked, written, line_if, node_value, wire_line, reg_line, array_line, drive_line, next_line, write_line, out_line, node_line, from_outs, from_writes, from_nexts, from_drives, from_nodes, from_arrays, from_regs, module_lines}
use Rattle.module_netlist.specs.Means.{held_by, HoldsZero}

-- a line that declares neither a register nor an array
abbrev IsQuiet : Line → Type 0
IsQuiet (Wire width x) = Unit {0}
IsQuiet (Net width x v) = Unit {0}
IsQuiet (Reg width x) = ⊥
IsQuiet (Array width x bits) = ⊥
IsQuiet (Assign x y) = Unit {0}
IsQuiet (Next x y) = Unit {0}
IsQuiet (Reset x width start y) = Unit {0}
IsQuiet (Write e x i y) = Unit {0}

-- a line, where there is one, meets Q
abbrev Holds : (Line → Type 0) → Option Line → Type 0
Holds Q None = Unit {0}
Holds Q (Some l) = Q l

node_quiet : (b : Bool) (width : ℕ) (x : List ℕ) (v : Value) → Holds IsQuiet (line_if b (Net width x v))
node_quiet true width x v = tt
node_quiet false width x v = tt

assigned_quiet : (x : List ℕ) (o : Option net.Net) → Holds IsQuiet (assigned x o)
assigned_quiet x None = tt
assigned_quiet x (Some n) = tt

clocked_quiet : (x : List ℕ) (width : ℕ) (reset : Option ℕ) (o : Option net.Net) → Holds IsQuiet (clocked x width reset o)
clocked_quiet x width reset None = tt
clocked_quiet x width None (Some n) = tt
clocked_quiet x width (Some start) (Some n) = tt

written_quiet : (x : List ℕ) (o : Option ArrayWrite) → Holds IsQuiet (written x o)
written_quiet x None = tt
written_quiet x (Some w) = tt

-- P says of items what Q says of each line
module _ (P : List Item → Type 0) (Q : Line → Type 0) (nil : P []) (one : (l : Line) (rest : List Item) → P (line_item l ∷ rest) ↔ (Q l × P rest)) where
  put_to : (o : Option Line) (rest : List Line) → P (lines_items (put o rest)) → Holds Q o × P (lines_items rest)
  put_to None rest p = (tt, p)
  put_to (Some l) rest p = (one l (lines_items rest)).0 p

  put_from : (o : Option Line) (rest : List Line) → Holds Q o → P (lines_items rest) → P (lines_items (put o rest))
  put_from None rest q p = p
  put_from (Some l) rest q p = (one l (lines_items rest)).1 (q, p)

  spread_to : (f : ℕ → Option Line) (n k : ℕ) (rest : List Line) → P (lines_items (spread f k n rest))
      → ((i : ℕ) → k ≤ i → i < k + n → Holds Q (f i)) × P (lines_items rest)
  spread_to f zero k rest p = (λ i l h. absurd (omega arith), p)
  spread_to f (suc n) k rest p =
      let a = put_to (f k) (spread f (suc k) n rest) p in
      let b = spread_to f n (suc k) rest a.1 in (
        λ i l h. elim (cases_eq k i) [
          | inl e ↦ subst (λ (j : ℕ). Holds Q (f j)) e a.0
          | inr ne ↦ b.0 i (omega arith) (omega arith)
        ],
        b.1,
      )

  spread_from : (f : ℕ → Option Line) (n k : ℕ) (rest : List Line) → ((i : ℕ) → k ≤ i → i < k + n → Holds Q (f i)) → P (lines_items rest)
      → P (lines_items (spread f k n rest))
  spread_from f zero k rest q p = p
  spread_from f (suc n) k rest q p =
      put_from (f k) (spread f (suc k) n rest) (q k (omega arith) (omega arith)) (spread_from f n (suc k) rest (λ i l h. q i (omega arith) (omega arith)) p)

  module _ (quiet : (l : Line) → IsQuiet l → Q l) where
    hush : (o : Option Line) → Holds IsQuiet o → Holds Q o
    hush None h = tt
    hush (Some l) h = quiet l h

    module _ (m : ModuleValue) (nodes : List Node) (marks : List Bool) where
      abbrev EachReg : Type 0
      EachReg = (r : ℕ) → r < length m.regs → Q (Reg (reg_at m.regs r).width (reg_name m r))

      abbrev EachArray : Type 0
      EachArray = (a : ℕ) → a < length m.arrays → Q (Array (array_at m.arrays a).width (array_name m a) (array_at m.arrays a).bits)

      lines_to : P (lines_items (module_lines m nodes marks)) → EachReg × EachArray
      lines_to p =
          let a = spread_to (wire_line m) (length m.wires) 0 (from_regs m nodes marks) p in
          let b = spread_to (reg_line m) (length m.regs) 0 (from_arrays m nodes marks) a.1 in
          let c = spread_to (array_line m) (length m.arrays) 0 (from_nodes m nodes marks) b.1 in
          (λ r h. b.0 r (omega arith) (omega arith), λ a h. c.0 a (omega arith) (omega arith))

      lines_from : EachReg → EachArray → P (lines_items (module_lines m nodes marks))
      lines_from regs arrays =
          spread_from (wire_line m) (length m.wires) 0 (from_regs m nodes marks) (λ i l h. hush (wire_line m i) tt)
          (spread_from (reg_line m) (length m.regs) 0 (from_arrays m nodes marks) (λ i l h. regs i (omega arith))
          (spread_from (array_line m) (length m.arrays) 0 (from_nodes m nodes marks) (λ i l h. arrays i (omega arith))
          (spread_from (node_line m nodes marks) (length nodes) 0 (from_drives m nodes marks)
          (λ i l h. hush (node_line m nodes marks i) (node_quiet (get_or marks i false) (node_at nodes i).width (node_name i) (node_value m (node_at nodes i).width (node_at nodes i).op)))
          (spread_from (drive_line m) (length m.wires) 0 (from_nexts m nodes marks) (λ i l h. hush (drive_line m i) (assigned_quiet (wire_name m i) (wire_at m.wires i).driver))
          (spread_from (next_line m) (length m.regs) 0 (from_writes m nodes marks)
          (λ i l h. hush (next_line m i) (clocked_quiet (reg_name m i) (reg_at m.regs i).width (reg_at m.regs i).reset (reg_at m.regs i).next))
          (spread_from (write_line m) (length m.arrays) 0 (from_outs m nodes marks) (λ i l h. hush (write_line m i) (written_quiet (array_name m i) (array_at m.arrays i).write))
          (spread_from (out_line m) 30 0 [] (λ i l h. hush (out_line m i) (assigned_quiet (port_name i) (out_at m.outs i)))
          nil)))))))

module _ (s : State) where
  abbrev StartsLine : Line → Type 0
  StartsLine (Wire width x) = Unit {0}
  StartsLine (Net width x v) = Unit {0}
  StartsLine (Reg width x) = s.regs x < 2 ^ width
  StartsLine (Array width x bits) = (length (s.cells x) ≡ 2 ^ bits) × All (λ c. c < 2 ^ width) (s.cells x)
  StartsLine (Assign x y) = Unit {0}
  StartsLine (Next x y) = Unit {0}
  StartsLine (Reset x width start y) = Unit {0}
  StartsLine (Write e x i y) = Unit {0}

  starts_one : (l : Line) (rest : List Item) → IsStart (line_item l ∷ rest) s ↔ (StartsLine l × IsStart rest s)
  starts_one (Wire width x) rest = (λ h. (tt, h), λ h. h.1)
  starts_one (Net width x v) rest = (λ h. (tt, h), λ h. h.1)
  starts_one (Reg width x) rest = (λ h. h, λ h. h)
  starts_one (Array width x bits) rest = (λ h. ((h.0, h.1.0), h.1.1), λ h. (h.0.0, (h.0.1, h.1)))
  starts_one (Assign x y) rest = (λ h. (tt, h), λ h. h.1)
  starts_one (Next x y) rest = (λ h. (tt, h), λ h. h.1)
  starts_one (Reset x width start y) rest = (λ h. (tt, h), λ h. h.1)
  starts_one (Write e x i y) rest = (λ h. (tt, h), λ h. h.1)

  starts_quiet : (l : Line) → IsQuiet l → StartsLine l
  starts_quiet (Wire width x) h = tt
  starts_quiet (Net width x v) h = tt
  starts_quiet (Reg width x) h = absurd h
  starts_quiet (Array width x bits) h = absurd h
  starts_quiet (Assign x y) h = tt
  starts_quiet (Next x y) h = tt
  starts_quiet (Reset x width start y) h = tt
  starts_quiet (Write e x i y) h = tt

  -- the start contents of a module's tree are those of the module
  pub starts : (m : ModuleValue) (nodes : List Node) (marks : List Bool) → IsStart (lines_items (module_lines m nodes marks)) s ↔ IsHeld m (held_by m s)
  starts m nodes marks = (
    λ h.
        let a = lines_to (λ is. IsStart is s) StartsLine tt starts_one starts_quiet m nodes marks h in
        record { regs = a.0; counts = λ k l. (a.1 k l).0; cells = λ k l. (a.1 k l).1 },
    λ h. lines_from (λ is. IsStart is s) StartsLine tt starts_one starts_quiet m nodes marks h.regs (λ k l. (h.counts k l, h.cells k l)),
  )

  abbrev ZeroesLine : Line → Type 0
  ZeroesLine (Wire width x) = Unit {0}
  ZeroesLine (Net width x v) = Unit {0}
  ZeroesLine (Reg width x) = s.regs x ≡ 0
  ZeroesLine (Array width x bits) = All (λ c. c ≡ 0) (s.cells x)
  ZeroesLine (Assign x y) = Unit {0}
  ZeroesLine (Next x y) = Unit {0}
  ZeroesLine (Reset x width start y) = Unit {0}
  ZeroesLine (Write e x i y) = Unit {0}

  zeroes_one : (l : Line) (rest : List Item) → AllZero (line_item l ∷ rest) s ↔ (ZeroesLine l × AllZero rest s)
  zeroes_one (Wire width x) rest = (λ h. (tt, h), λ h. h.1)
  zeroes_one (Net width x v) rest = (λ h. (tt, h), λ h. h.1)
  zeroes_one (Reg width x) rest = (λ h. h, λ h. h)
  zeroes_one (Array width x bits) rest = (λ h. h, λ h. h)
  zeroes_one (Assign x y) rest = (λ h. (tt, h), λ h. h.1)
  zeroes_one (Next x y) rest = (λ h. (tt, h), λ h. h.1)
  zeroes_one (Reset x width start y) rest = (λ h. (tt, h), λ h. h.1)
  zeroes_one (Write e x i y) rest = (λ h. (tt, h), λ h. h.1)

  zeroes_quiet : (l : Line) → IsQuiet l → ZeroesLine l
  zeroes_quiet (Wire width x) h = tt
  zeroes_quiet (Net width x v) h = tt
  zeroes_quiet (Reg width x) h = absurd h
  zeroes_quiet (Array width x bits) h = absurd h
  zeroes_quiet (Assign x y) h = tt
  zeroes_quiet (Next x y) h = tt
  zeroes_quiet (Reset x width start y) h = tt
  zeroes_quiet (Write e x i y) h = tt

  -- all hold 0 in a module's tree where all do in the module
  pub zeroes : (m : ModuleValue) (nodes : List Node) (marks : List Bool) → AllZero (lines_items (module_lines m nodes marks)) s ↔ HoldsZero m (held_by m s)
  zeroes m nodes marks = (
    λ h.
        let a = lines_to (λ is. AllZero is s) ZeroesLine tt zeroes_one zeroes_quiet m nodes marks h in
        record { regs = a.0; cells = a.1 },
    λ h. lines_from (λ is. AllZero is s) ZeroesLine tt zeroes_one zeroes_quiet m nodes marks h.regs h.cells,
  )
