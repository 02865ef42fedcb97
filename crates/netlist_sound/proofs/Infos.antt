-- What the tree of a module's netlist declares its names as.
use Rattle.std.proofs.Common.{◌≡◌, ℕ, zero, suc, ◌+◌, ◌-◌, ◌^◌, ◌<◌, ◌≤◌, Bool, true, false, not, eqb, List, [], ◌∷◌, length, get_or, Option, Some, None, refl, ap, ◌∙◌, arith}
use Rattle.std.proofs.lemmas.Bool.Decides.{nat_tests}
use Rattle.core_words.specs.Names.{same_name}
use Rattle.core_ports.specs.Ports.{all_ports, is_input, width_of}
use Rattle.verilog_tree.specs.declared.expr.Ident.{Ident}
use Rattle.verilog_mean.specs.Look.{pick_if, look}
use Rattle.verilog_mean.specs.Declarations.{Declaration, declarations, port_declaration, port_class, declared_ports, declared_items, by_name, index_width}
use Rattle.verilog_netlist.specs.Netlist.{Value, Line, Port, Netlist}
use Rattle.verilog_netlist.specs.Netlist.Line.{Wire, Net, Reg, Array, Assign, Next, Reset, Write}
use Rattle.verilog_netlist.specs.Places.{placed_port_range, placed_port, placed_ports, behind_port, behind_ports, behind_line, placed_lines, tree_of}
use Rattle.hw_pool.specs.declared.node.Node.{Node}
use Rattle.hw_pool.specs.Nodes.{node_at, IsWidth, IsPool}
use Rattle.hw_module.specs.Ports.{port_at}
use Rattle.hw_module.specs.Rows.{ModuleValue, IsModule, wire_at, reg_at, array_at}
use Rattle.module_netlist.specs.Names.{Thing, name_in, port_name, ThingIn, same_thing}
use Rattle.module_netlist.specs.Names.Thing.{NodeAt, WireAt, RegAt, ArrayAt, PortAt}
use Rattle.module_netlist.specs.Lines.{spread, line_if, wire_line, reg_line, array_line, node_line, from_drives, from_nodes, from_arrays, from_regs, module_lines, ports_from, netlist_of}
use Rattle.module_netlist.proofs.Looks.{given, Misses, Gives, skip, hit}
use Rattle.netlist_sound.proofs.Fine.{Info, info_of, infos, info_among}

-- ---- ports and lines as the rules read them

abbrev pub wire_info : (width : ℕ) → (free : Bool) → Info
wire_info width free = record { width = width; ranged = true; array = false; register = false; assignable = free; index = 0 }

abbrev pub reg_info : (width : ℕ) → Info
reg_info width = record { width = width; ranged = true; array = false; register = true; assignable = false; index = 0 }

abbrev pub array_info : (width index : ℕ) → Info
array_info width index = record { width = width; ranged = true; array = true; register = false; assignable = false; index = index }

abbrev pub port_wide : (one_bit : Bool) → (width : ℕ) → ℕ
port_wide true width = 1
port_wide false width = width - 1 + 1

abbrev pub port_facts : (one_bit input : Bool) → (width : ℕ) → Info
port_facts one_bit input width = record { width = port_wide one_bit width; ranged = not one_bit; array = false; register = false; assignable = not input; index = 0 }

abbrev pub port_info : Port → Option (List ℕ × Info)
port_info q = Some (q.name, port_facts (eqb q.width 1) q.input q.width)

abbrev pub line_info : Line → Option (List ℕ × Info)
line_info (Wire width x) = Some (x, wire_info (width - 1 + 1) true)
line_info (Net width x v) = Some (x, wire_info (width - 1 + 1) false)
line_info (Reg width x) = Some (x, reg_info (width - 1 + 1))
line_info (Array width x bits) = Some (x, array_info (width - 1 + 1) (index_width (2 ^ bits - 1)))
line_info (Assign x s) = None
line_info (Next x s) = None
line_info (Reset x width start s) = None
line_info (Write e x i s) = None

abbrev pub or_later : Option Info → Option Info → Option Info
or_later None o = o
or_later (Some i) o = Some i

port_so : (p : ℕ → ℕ) (k : ℕ) (one_bit input : Bool) (width : ℕ) (name : Ident)
    → info_of (record { name = name; range = placed_port_range p k one_bit width; class = port_class input }) ≡ port_facts one_bit input width
port_so p k true true width name = refl
port_so p k true false width name = refl
port_so p k false true width name = refl
port_so p k false false width name = refl

pick_port : (b : Bool) (d : Declaration) (i : Info) (r : Option Declaration) (s o : Option Info) → info_of d ≡ i → infos r ≡ or_later s o → infos (pick_if b d r) ≡ or_later (pick_if b i s) o
pick_port true d i r s o e h = ap (λ v. Some v) e
pick_port false d i r s o e h = h

pick_line : (b : Bool) (d : Declaration) (i : Info) (r : Option Declaration) (s : Option Info) → info_of d ≡ i → infos r ≡ s → infos (pick_if b d r) ≡ pick_if b i s
pick_line true d i r s e h = ap (λ v. Some v) e
pick_line false d i r s e h = h

look_ports : (p : ℕ → ℕ) (x : List ℕ) (rest : List Declaration) (k : ℕ) (qs : List Port)
    → infos (look by_name (declared_ports (placed_ports p k qs) rest) x) ≡ or_later (look port_info qs x) (infos (look by_name rest x))
look_ports p x rest k [] = refl
look_ports p x rest k (q ∷ qs) =
    pick_port (same_name q.name x) (port_declaration (placed_port p k q)) (port_facts (eqb q.width 1) q.input q.width)
    (look by_name (declared_ports (placed_ports p (suc (behind_port k q)) qs) rest) x) (look port_info qs x) (infos (look by_name rest x))
    (port_so p (suc k) (eqb q.width 1) q.input q.width (placed_port p k q).name) (look_ports p x rest (suc (behind_port k q)) qs)

look_items : (p : ℕ → ℕ) (x : List ℕ) (k : ℕ) (ls : List Line) → infos (look by_name (declared_items (placed_lines p k ls)) x) ≡ look line_info ls x
look_items p x k [] = refl
look_items p x k (Wire width y ∷ ls) = pick_line (same_name y x) _ (wire_info (width - 1 + 1) true) _ _ refl (look_items p x (behind_line k (Wire width y)) ls)
look_items p x k (Net width y v ∷ ls) = pick_line (same_name y x) _ (wire_info (width - 1 + 1) false) _ _ refl (look_items p x (behind_line k (Net width y v)) ls)
look_items p x k (Reg width y ∷ ls) = pick_line (same_name y x) _ (reg_info (width - 1 + 1)) _ _ refl (look_items p x (behind_line k (Reg width y)) ls)
look_items p x k (Array width y bits ∷ ls) = pick_line (same_name y x) _ (array_info (width - 1 + 1) (index_width (2 ^ bits - 1))) _ _ refl (look_items p x (behind_line k (Array width y bits)) ls)
look_items p x k (Assign y s ∷ ls) = look_items p x (behind_line k (Assign y s)) ls
look_items p x k (Next y s ∷ ls) = look_items p x (behind_line k (Next y s)) ls
look_items p x k (Reset y width start s ∷ ls) = look_items p x (behind_line k (Reset y width start s)) ls
look_items p x k (Write e y i s ∷ ls) = look_items p x (behind_line k (Write e y i s)) ls

-- what the tree of a netlist declares a name as
pub tree_info : (p : ℕ → ℕ) (n : Netlist) (x : List ℕ) → info_among (declarations (tree_of p n)) x ≡ or_later (look port_info n.ports x) (look line_info n.lines x)
tree_info p n x =
    look_ports p x (declared_items (placed_lines p (suc (behind_ports 3 n.ports)) n.lines)) 3 n.ports
    ∙ ap (or_later (look port_info n.ports x)) (look_items p x (suc (behind_ports 3 n.ports)) n.lines)

-- ---- the ports of a core

abbrev pub port_row : ℕ → Option Port
port_row q = Some (record { input = is_input (port_at q); width = width_of (port_at q); name = port_name q })

pub ports_spread : ports_from all_ports ≡ spread port_row 0 30 []
unfolding port_at
ports_spread = refl

-- the number of an array's last cell gives back its number of bits
pub index_bits : (bits : ℕ) → 1 ≤ bits → bits ≤ 16 → index_width (2 ^ bits - 1) ≡ bits
index_bits zero least most = absurd (omega arith)
index_bits (suc zero) least most = refl
index_bits (suc (suc zero)) least most = refl
index_bits (suc (suc (suc zero))) least most = refl
index_bits (suc (suc (suc (suc zero)))) least most = refl
index_bits (suc (suc (suc (suc (suc zero))))) least most = refl
index_bits (suc (suc (suc (suc (suc (suc zero)))))) least most = refl
index_bits (suc (suc (suc (suc (suc (suc (suc zero))))))) least most = refl
index_bits (suc (suc (suc (suc (suc (suc (suc (suc zero)))))))) least most = refl
index_bits (suc (suc (suc (suc (suc (suc (suc (suc (suc zero))))))))) least most = refl
index_bits (suc (suc (suc (suc (suc (suc (suc (suc (suc (suc zero)))))))))) least most = refl
index_bits (suc (suc (suc (suc (suc (suc (suc (suc (suc (suc (suc zero))))))))))) least most = refl
index_bits (suc (suc (suc (suc (suc (suc (suc (suc (suc (suc (suc (suc zero)))))))))))) least most = refl
index_bits (suc (suc (suc (suc (suc (suc (suc (suc (suc (suc (suc (suc (suc zero))))))))))))) least most = refl
index_bits (suc (suc (suc (suc (suc (suc (suc (suc (suc (suc (suc (suc (suc (suc zero)))))))))))))) least most = refl
index_bits (suc (suc (suc (suc (suc (suc (suc (suc (suc (suc (suc (suc (suc (suc (suc zero))))))))))))))) least most = refl
index_bits (suc (suc (suc (suc (suc (suc (suc (suc (suc (suc (suc (suc (suc (suc (suc (suc zero)))))))))))))))) least most = refl
index_bits (suc (suc (suc (suc (suc (suc (suc (suc (suc (suc (suc (suc (suc (suc (suc (suc (suc bits))))))))))))))))) least most = absurd (omega arith)

pub range_back : (width : ℕ) → IsWidth width → width - 1 + 1 ≡ width
range_back width h = let l = h.0 in omega arith

-- ---- the things of a module

-- what a thing is declared as
abbrev pub thing_info : ModuleValue → List Node → Thing → Info
thing_info m nodes (NodeAt k) = wire_info (node_at nodes k).width false
thing_info m nodes (WireAt w) = wire_info (wire_at m.wires w).width true
thing_info m nodes (RegAt r) = reg_info (reg_at m.regs r).width
thing_info m nodes (ArrayAt a) = array_info (array_at m.arrays a).width (array_at m.arrays a).bits
thing_info m nodes (PortAt p) = port_facts (eqb (width_of (port_at p)) 1) (is_input (port_at p)) (width_of (port_at p))

-- a thing that the netlist declares
abbrev pub IsThere : ModuleValue → List Node → List Bool → Thing → Type 0
IsThere m nodes marks (NodeAt k) = (k < length nodes) × (get_or marks k false ≡ true)
IsThere m nodes marks (WireAt w) = w < length m.wires
IsThere m nodes marks (RegAt r) = r < length m.regs
IsThere m nodes marks (ArrayAt a) = a < length m.arrays
IsThere m nodes marks (PortAt p) = p < 30

-- names of things of a module differ where the things do
abbrev pub Differ : ModuleValue → List Node → Type 0
Differ m nodes = (a b : Thing) → ThingIn m nodes a → ThingIn m nodes b → same_name (name_in m a) (name_in m b) ≡ same_thing a b

net_misses : (b : Bool) (width : ℕ) (x y : List ℕ) (v : Value) → same_name x y ≡ false → Misses (given line_info (line_if b (Net width x v))) y
net_misses true width x y v h = h
net_misses false width x y v h = tt

net_gives : (b : Bool) (width : ℕ) (x y : List ℕ) (v : Value) (i : Info) → b ≡ true → same_name x y ≡ true → wire_info (width - 1 + 1) false ≡ i
    → Gives (given line_info (line_if b (Net width x v))) y i
net_gives true width x y v i e h r = (h, r)
net_gives false width x y v i e h r = absurd (cc)

same : (k : ℕ) → eqb k k ≡ true
same k = grind (arith, nat_tests)

module _ (m : ModuleValue) (nodes : List Node) (marks : List Bool) (differ : Differ m nodes) where
  abbrev lines : List Line
  lines = module_lines m nodes marks

  no_port : (a : Thing) → ThingIn m nodes a → ((i : ℕ) → same_thing (PortAt i) a ≡ false) → look port_info (ports_from all_ports) (name_in m a) ≡ None
  no_port a h e =
      ap (λ ps. look port_info ps (name_in m a)) ports_spread
      ∙ skip port_info port_row [] (name_in m a) 30 (λ i l. differ (PortAt i) a l h ∙ e i)

  port_there : (p : ℕ) → p < 30 → look port_info (ports_from all_ports) (name_in m (PortAt p)) ≡ Some (thing_info m nodes (PortAt p))
  port_there p h =
      ap (λ ps. look port_info ps (name_in m (PortAt p))) ports_spread
      ∙ hit port_info port_row [] (name_in m (PortAt p)) 30 p (thing_info m nodes (PortAt p)) h (differ (PortAt p) (PortAt p) h h ∙ same p, refl)
      (λ j l e. differ (PortAt j) (PortAt p) l h ∙ e)

  module _ (is : IsModule m) where
    wire_there : (w : ℕ) → w < length m.wires → look line_info lines (name_in m (WireAt w)) ≡ Some (thing_info m nodes (WireAt w))
    wire_there w h =
        hit line_info (wire_line m) (from_regs m nodes marks) (name_in m (WireAt w)) (length m.wires) w (thing_info m nodes (WireAt w)) h
        (differ (WireAt w) (WireAt w) h h ∙ same w, ap (λ v. wire_info v true) (range_back (wire_at m.wires w).width (is.wires w h)))
        (λ j l e. differ (WireAt j) (WireAt w) l h ∙ e)

    reg_there : (r : ℕ) → r < length m.regs → look line_info lines (name_in m (RegAt r)) ≡ Some (thing_info m nodes (RegAt r))
    reg_there r h =
        let x = name_in m (RegAt r) in
        skip line_info (wire_line m) (from_regs m nodes marks) x (length m.wires) (λ i l. differ (WireAt i) (RegAt r) l h)
        ∙ hit line_info (reg_line m) (from_arrays m nodes marks) x (length m.regs) r (thing_info m nodes (RegAt r)) h
        (differ (RegAt r) (RegAt r) h h ∙ same r, ap reg_info (range_back (reg_at m.regs r).width (is.regs r h)))
        (λ j l e. differ (RegAt j) (RegAt r) l h ∙ e)

    array_there : (a : ℕ) → a < length m.arrays → look line_info lines (name_in m (ArrayAt a)) ≡ Some (thing_info m nodes (ArrayAt a))
    array_there a h =
        let x = name_in m (ArrayAt a) in let bits = (array_at m.arrays a).bits in
        skip line_info (wire_line m) (from_regs m nodes marks) x (length m.wires) (λ i l. differ (WireAt i) (ArrayAt a) l h)
        ∙ skip line_info (reg_line m) (from_arrays m nodes marks) x (length m.regs) (λ i l. differ (RegAt i) (ArrayAt a) l h)
        ∙ hit line_info (array_line m) (from_nodes m nodes marks) x (length m.arrays) a (thing_info m nodes (ArrayAt a)) h
        (differ (ArrayAt a) (ArrayAt a) h h ∙ same a, λ i. array_info (range_back (array_at m.arrays a).width (is.arrays a h) i) (index_bits bits (is.bits_least a h) (is.bits_most a h) i))
        (λ j l e. differ (ArrayAt j) (ArrayAt a) l h ∙ e)

    node_there : IsPool nodes → (k : ℕ) → k < length nodes → get_or marks k false ≡ true → look line_info lines (name_in m (NodeAt k)) ≡ Some (thing_info m nodes (NodeAt k))
    node_there pool k h mark =
        let x = name_in m (NodeAt k) in
        skip line_info (wire_line m) (from_regs m nodes marks) x (length m.wires) (λ i l. differ (WireAt i) (NodeAt k) l h)
        ∙ skip line_info (reg_line m) (from_arrays m nodes marks) x (length m.regs) (λ i l. differ (RegAt i) (NodeAt k) l h)
        ∙ skip line_info (array_line m) (from_nodes m nodes marks) x (length m.arrays) (λ i l. differ (ArrayAt i) (NodeAt k) l h)
        ∙ hit line_info (node_line m nodes marks) (from_drives m nodes marks) x (length nodes) k (thing_info m nodes (NodeAt k)) h
        (net_gives (get_or marks k false) _ _ x _ (thing_info m nodes (NodeAt k)) mark (differ (NodeAt k) (NodeAt k) h h ∙ same k) (ap (λ v. wire_info v false) (range_back (node_at nodes k).width (pool.widths k h))))
        (λ j l e. net_misses (get_or marks j false) _ _ x _ (differ (NodeAt j) (NodeAt k) l h ∙ e))

    -- what is declared of each thing
    pub declared : IsPool nodes → (p : ℕ → ℕ) (a : Thing) → IsThere m nodes marks a → info_among (declarations (tree_of p (netlist_of m nodes marks))) (name_in m a) ≡ Some (thing_info m nodes a)
    declared pool p (PortAt q) h =
        tree_info p (netlist_of m nodes marks) (name_in m (PortAt q)) ∙ ap (λ o. or_later o (look line_info lines (name_in m (PortAt q)))) (port_there q h)
    declared pool p (WireAt w) h =
        tree_info p (netlist_of m nodes marks) (name_in m (WireAt w))
        ∙ (λ i. or_later (no_port (WireAt w) h (λ j. refl) i) (wire_there w h i))
    declared pool p (RegAt r) h =
        tree_info p (netlist_of m nodes marks) (name_in m (RegAt r))
        ∙ (λ i. or_later (no_port (RegAt r) h (λ j. refl) i) (reg_there r h i))
    declared pool p (ArrayAt a) h =
        tree_info p (netlist_of m nodes marks) (name_in m (ArrayAt a))
        ∙ (λ i. or_later (no_port (ArrayAt a) h (λ j. refl) i) (array_there a h i))
    declared pool p (NodeAt k) h =
        tree_info p (netlist_of m nodes marks) (name_in m (NodeAt k))
        ∙ (λ i. or_later (no_port (NodeAt k) h.0 (λ j. refl) i) (node_there pool k h.0 h.1 i))
