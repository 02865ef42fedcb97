-- In a sound tree each value is within the width of its name, whatever fits is held and whatever fits is given.
use Rattle.std.proofs.Common.{◌≡◌, ℕ, zero, suc, ◌+◌, ◌-◌, ◌/◌, ◌^◌, ◌<◌, Bool, true, false, not, cond, eqb, ◌&&◌, List, [], ◌∷◌, length, get_or, set, Option, Some, None, All, codes, inl, inr, refl, sym, ap, ◌∙◌, subst, arith, lit<, length-set}
use Rattle.std.proofs.lemmas.Bool.{cases_lt}
use Rattle.std.proofs.lemmas.List.{get_or_past}
use Rattle.std.proofs.lemmas.List.Elements.{All-get_or, All-set}
use Rattle.std.proofs.lemmas.Nat.{pow_pos, mod_below, or_lt, xor_lt}
use Rattle.std.specs.Int.Bits.{and_lt}
use Rattle.std.specs.Cmp.Lexicographic.{same_text}
use Rattle.core_words.specs.Names.{same_name}
use Rattle.core_words.specs.Values.{one_if}
use Rattle.verilog_tree.specs.declared.expr.BinSign.{BinSign}
use Rattle.verilog_tree.specs.declared.expr.BinSign.TheVariants as sign
use Rattle.verilog_tree.specs.declared.tree.PortDecl.{PortDecl}
use Rattle.verilog_tree.specs.declared.tree.Stmt.TheVariants as stmt
use Rattle.verilog_tree.specs.declared.tree.Item as tree
use Rattle.verilog_tree.specs.declared.tree.Item.TheVariants.{Wire, Reg, Assign, Always}
use Rattle.verilog_tree.specs.declared.tree.Tree.{Tree}
use Rattle.verilog_mean.specs.declared.refusal.MeanRefusal.TheVariants.{NameUnknown}
use Rattle.verilog_mean.specs.Plain.{Expr, Exprs, Plain}
use Rattle.verilog_mean.specs.Plain.Expr.{Literal, Named, Select, Cell, Not, Join, Binary, Choice}
use Rattle.verilog_mean.specs.Plain.Exprs.{NoPart, Part}
use Rattle.verilog_mean.specs.Cycle.{State, Source, Clocked, Writing, eval, eval_parts, from_source, item_clocked, item_source, item_writing, next, next_cells, next_reg, port_source, reset_name, sign_value, sign_width, value, value_to, width_in, width_of, width_of_parts, writing_of}
use Rattle.verilog_mean.specs.Cycle.Source.{Nowhere, Outside, Held, Driven}
use Rattle.verilog_mean.specs.Cycle.Clocked.{Stays, Takes, Restarts}
use Rattle.verilog_mean.specs.Cycle.Writing.{Keeps, Puts}
use Rattle.verilog_mean.specs.Look.{look, or_else, pick, pick_if}
use Rattle.verilog_mean.specs.Bounds.{IsBounded}
use Rattle.verilog_mean.specs.Sound.{IsSound}
use Rattle.verilog_mean.specs.Erase.{plain, plain_items, plain_port, plain_ports, plain_tree, range_width}
use Rattle.verilog_mean.specs.Declarations.{Declaration, by_name, declaration_of, declarations, declared_items, declared_ports, declared_width, port_class, port_declaration, width_among}
use Rattle.verilog_mean.specs.Names.{is_bit_input, port_names, unknown_in_items}
use Rattle.verilog_mean.specs.Run.{IsStart, PortsFit}
use Rattle.verilog_resolve.specs.declared.names.Place.{Place}
use Rattle.verilog_resolve.specs.Names.{IsArray, place_width}
use Rattle.verilog_resolve.specs.Fine.{AreFine, IsFine}
use Rattle.verilog_resolve.proofs.Grows.{joined_fits}
use Rattle.verilog_sim.specs.Simulates.{AllFit}
use Rattle.verilog_sim.specs.Targets.{class_place, declared_place, target}
use Rattle.verilog_sim.proofs.Once.{AllFind}
use Rattle.verilog_sim.proofs.Sound.{each_declared, narrow_among, put_empty}
use Rattle.verilog_sim.proofs.FineExprs.{wide_same}
use Rattle.verilog_sim.proofs.Items.{AreFineItems, fine_items, ports_declared}
use Rattle.verilog_sim.proofs.Sources.{width_same}

-- ---- expressions

one_bit : (b : Bool) → one_if b < 2 ^ 1
one_bit true = lit< tt
one_bit false = lit< tt

sign_fits : (s : BinSign) (width a b : ℕ) → a < 2 ^ width → b < 2 ^ width → sign_value s width a b < 2 ^ sign_width s width
sign_fits sign.Or width a b h k = or_lt width a b h k
sign_fits sign.Xor width a b h k = xor_lt width a b h k
sign_fits sign.And width a b h k = and_lt width a b h k
sign_fits sign.Equal width a b h k = one_bit _
sign_fits sign.Less width a b h k = one_bit _
sign_fits sign.Plus width a b h k = mod_below _ (2 ^ width) (pow_pos width)
sign_fits sign.Minus width a b h k = mod_below _ (2 ^ width) (pow_pos width)

chosen_fits : (b : Bool) (first second most : ℕ) → first < most → second < most → cond b first second < most
chosen_fits true first second most h k = h
chosen_fits false first second most h k = k

-- all values of names and cells are within these widths
record AreWithin (p : List ℕ → Place) (w : List ℕ → ℕ) (held : List ℕ → List ℕ) (val : List ℕ → ℕ) : Type 0 where
  pub values : (x : List ℕ) → val x < 2 ^ w x
  pub cells : (x : List ℕ) → IsArray (p x) → (i : ℕ) → get_or (held x) i 0 < 2 ^ w x

module _ (p : List ℕ → Place) (cells : List ℕ → List ℕ) (val : List ℕ → ℕ) where
  abbrev wide : List ℕ → ℕ
  wide x = place_width (p x)

  module _ (within : AreWithin p (λ x. place_width (p x)) cells val) where
    mutual
      fits : (e : Expr) → IsFine p e → eval (λ x. place_width (p x)) cells val e < 2 ^ width_of (λ x. place_width (p x)) e
      fits (Literal width number) f = f.1
      fits (Named x) f = within.values x
      fits (Select x high low) f = mod_below (val x / 2 ^ low) (2 ^ (high + 1 - low)) (pow_pos (high + 1 - low))
      fits (Cell x index) f = within.cells x f.0 _
      fits (Not inner) f = let some = pow_pos (width_of (λ x. place_width (p x)) inner) in omega (arith, some)
      fits (Join parts) f = parts_fit parts f.1.0
      fits (Binary s left right) f =
          sign_fits s (width_of (λ x. place_width (p x)) left) _ _ (fits left f.0)
          (subst (λ k. eval (λ x. place_width (p x)) cells val right < 2 ^ k) (sym f.1.1) (fits right f.1.0))
      fits (Choice test first second) f =
          chosen_fits _ _ _ (2 ^ width_of (λ x. place_width (p x)) first) (fits first f.1.0)
          (subst (λ k. eval (λ x. place_width (p x)) cells val second < 2 ^ k) (sym f.1.1.1) (fits second f.1.1.0))

      parts_fit : (es : Exprs) → AreFine p es → eval_parts (λ x. place_width (p x)) cells val es < 2 ^ width_of_parts (λ x. place_width (p x)) es
      parts_fit NoPart f = lit< tt
      parts_fit (Part e NoPart) f =
          let same : width_of (λ x. place_width (p x)) e ≡ width_of (λ x. place_width (p x)) e + 0 = omega arith in
          subst (λ k. eval (λ x. place_width (p x)) cells val e < 2 ^ k) same (fits e f.1.0)
      parts_fit (Part e (Part next parts)) f =
          joined_fits _ _ (width_of (λ x. place_width (p x)) e) (width_of_parts (λ x. place_width (p x)) (Part next parts)) (fits e f.1.0) (parts_fit (Part next parts) f.1.1)

-- the same for widths that are those of the places
expr_fits : (p : List ℕ → Place) (w : List ℕ → ℕ) → ◌≡◌ {A = List ℕ → ℕ} (λ x. place_width (p x)) w → (cells : List ℕ → List ℕ) (val : List ℕ → ℕ) → AreWithin p w cells val
    → (e : Expr) → IsFine p e → eval w cells val e < 2 ^ width_of w e
expr_fits p w same cells val =
    subst (λ (w : List ℕ → ℕ). AreWithin p w cells val → (e : Expr) → IsFine p e → eval w cells val e < 2 ^ width_of w e) same (fits p cells val)

cell_fits : (cells : List ℕ) (width i : ℕ) → All (λ c. c < 2 ^ width) cells → get_or cells i 0 < 2 ^ width
cell_fits cells width i h = elim (cases_lt i (length cells)) [
  | inl inside ↦ All-get_or (λ c. c < 2 ^ width) cells i 0 inside h
  | inr past ↦ let none = get_or_past cells i 0 past in let some = pow_pos width in omega (arith, none, some)
]

-- ---- the names of a sound tree

module _ (t : Tree) (bounded : IsBounded t) (sound : IsSound t) where
  abbrev ds : List Declaration
  ds = declarations t

  abbrev m : Plain
  m = plain_tree t

  abbrev W : List ℕ → ℕ
  W x = width_among ds x

  abbrev AreDeclared : List tree.Item → Type 0
  AreDeclared is = AllFind (declaration_of ds) by_name (declared_items is)

  found : AllFind (declaration_of ds) by_name (declared_ports t.ports (declared_items t.items))
  found = each_declared ds sound.names_once

  found_items : AreDeclared t.items
  found_items = (ports_declared ds t.ports (declared_items t.items) found).1

  fine : AreFineItems ds t.items
  fine =
      fine_items ds (narrow_among ds sound.sizes) (port_names t.ports) (ports_declared ds t.ports (declared_items t.items) found).0 t.items found_items
      (put_empty (not (is_bit_input t.ports (codes "clk") && is_bit_input t.ports (codes "reset"))) (NameUnknown t.name.at) (unknown_in_items (port_names t.ports) t.items) sound.names_known).1
      sound.kinds sound.selects sound.widths bounded.written

  same_widths : ◌≡◌ {A = List ℕ → ℕ} (width_among ds) (width_in m)
  same_widths = λ i x. width_same t.ports t.items x i

  module _ (s : State) (start : IsStart m.items s) where
    -- ---- cells

    abbrev CellsFit : List ℕ → Option Declaration → Type 0
    CellsFit x o = IsArray (declared_place o) → All (λ c. c < 2 ^ declared_width o) (s.cells x)

    no_array : (x : List ℕ) (b : Bool) (d : Declaration) (o : Option Declaration) → (IsArray (class_place d.class (range_width d.range)) → ⊥) → CellsFit x o → CellsFit x (pick_if b d o)
    no_array x true d o n h a = absurd (n a)
    no_array x false d o n h a = h a

    this_array : (name x : List ℕ) (b : Bool) (d : Declaration) (o : Option Declaration) → same_name name x ≡ b → All (λ c. c < 2 ^ range_width d.range) (s.cells name) → CellsFit x o → CellsFit x (pick_if b d o)
    this_array name x true d o q here h a = subst (λ y. All (λ c. c < 2 ^ range_width d.range) (s.cells y)) (same_text name x (sym q)) here
    this_array name x false d o q here h a = h a

    item_cells : (x : List ℕ) (is : List tree.Item) → IsStart (plain_items is) s → CellsFit x (declaration_of (declared_items is) x)
    item_cells x [] h = λ a. absurd a
    item_cells x (Wire at range name d ∷ is) h = no_array x _ _ _ (λ a. a) (item_cells x is h)
    item_cells x (Reg at range name None ∷ is) h = no_array x _ _ _ (λ a. a) (item_cells x is h.1)
    item_cells x (Reg at range name (Some cells) ∷ is) h = this_array name.text x _ _ _ refl h.1.0 (item_cells x is h.1.1)
    item_cells x (Assign at target d ∷ is) h = item_cells x is h
    item_cells x (Always at (stmt.Next target d) ∷ is) h = item_cells x is h
    item_cells x (Always at (stmt.Reset at' first s' start' target d) ∷ is) h = item_cells x is h
    item_cells x (Always at (stmt.Write at' s' enable target b index d) ∷ is) h = item_cells x is h

    port_array : (input : Bool) (width : ℕ) → IsArray (class_place (port_class input) width) → ⊥
    port_array true width a = a
    port_array false width a = a

    port_cells : (x : List ℕ) (ps : List PortDecl) (rest : List Declaration) → CellsFit x (declaration_of rest x) → CellsFit x (declaration_of (declared_ports ps rest) x)
    port_cells x [] rest h = h
    port_cells x (p ∷ ps) rest h = no_array x _ _ _ (port_array p.input _) (port_cells x ps rest h)

    cells_fit : (x : List ℕ) → IsArray (target ds x) → All (λ c. c < 2 ^ W x) (s.cells x)
    cells_fit x = port_cells x t.ports (declared_items t.items) (item_cells x t.items start)

    module _ (val : List ℕ → ℕ) (below : (x : List ℕ) → val x < 2 ^ W x) where
      abbrev E : Expr → ℕ
      E e = eval (width_in m) s.cells val e

      within : AreWithin (target ds) (width_in m) s.cells val
      within =
          subst (λ (w : List ℕ → ℕ). AreWithin (target ds) w s.cells val) same_widths
          (record { values = below; cells = λ x a i. cell_fits (s.cells x) (W x) i (cells_fit x a) })

      -- a driver is within the width of what it drives
      driver_fits : (x : List ℕ) (e : Expr) → IsFine (target ds) e → W x ≡ width_of (width_among ds) e → E e < 2 ^ W x
      driver_fits x e f same =
          subst (λ k. E e < 2 ^ k) (sym (same ∙ ap (λ w. width_of w e) same_widths)) (expr_fits (target ds) (width_in m) (wide_same ds ∙ same_widths) s.cells val within e f)

      -- ---- values in a cycle

      module _ (ins : List ℕ → ℕ) where
        abbrev FromFits : List ℕ → Source → Type 0
        FromFits x source = from_source m s ins x val source < 2 ^ W x

        from_one : (name x : List ℕ) (b : Bool) (source otherwise : Source) (o : Option Source) → same_name name x ≡ b → FromFits name source → FromFits x (or_else o otherwise)
            → FromFits x (or_else (pick_if b source o) otherwise)
        from_one name x true source otherwise o q here there = subst (λ y. FromFits y source) (same_text name x (sym q)) here
        from_one name x false source otherwise o q here there = there

        from_items : (x : List ℕ) (is : List tree.Item) → AreDeclared is → AreFineItems ds is → IsStart (plain_items is) s → FromFits x (or_else (look item_source (plain_items is) x) Nowhere)
        from_items x [] f a h = pow_pos (W x)
        from_items x (Wire at range name None ∷ is) f a h = from_items x is f.1 a.1 h
        from_items x (Wire at range name (Some d) ∷ is) f a h =
            from_one name.text x _ (Driven (plain d.value)) Nowhere _ refl (driver_fits name.text (plain d.value) a.0.0 a.0.1.0) (from_items x is f.1 a.1 h)
        from_items x (Reg at range name None ∷ is) f a h =
            from_one name.text x _ Held Nowhere _ refl (subst (λ k. s.regs name.text < 2 ^ k) (sym (ap declared_width f.0)) h.0) (from_items x is f.1 a.1 h.1)
        from_items x (Reg at range name (Some cells) ∷ is) f a h = from_items x is f.1 a.1 h.1.1
        from_items x (Assign at target d ∷ is) f a h =
            from_one target.text x _ (Driven (plain d.value)) Nowhere _ refl (driver_fits target.text (plain d.value) a.0.0 a.0.1.0) (from_items x is f a.1 h)
        from_items x (Always at (stmt.Next target d) ∷ is) f a h = from_items x is f a.1 h
        from_items x (Always at (stmt.Reset at' first s' start' target d) ∷ is) f a h = from_items x is f a.1 h
        from_items x (Always at (stmt.Write at' s' enable target b index d) ∷ is) f a h = from_items x is f a.1 h

        from_port : (x : List ℕ) (otherwise : Source) (input : Bool) (p : PortDecl) (ps : List PortDecl) → declaration_of ds p.name.text ≡ Some (port_declaration p)
            → PortsFit (plain_port input (range_width p.range) p.name.text ∷ plain_ports ps) ins
            → (PortsFit (plain_ports ps) ins → FromFits x (or_else (look port_source (plain_ports ps) x) otherwise))
            → FromFits x (or_else (pick (port_source (plain_port input (range_width p.range) p.name.text)) x (look port_source (plain_ports ps) x)) otherwise)
        from_port x otherwise true p ps f h later =
            from_one p.name.text x _ Outside otherwise _ refl (subst (λ k. ins p.name.text < 2 ^ k) (sym (ap declared_width f)) h.0) (later h.1)
        from_port x otherwise false p ps f h later = later h

        from_ports : (x : List ℕ) (otherwise : Source) (ps : List PortDecl) (rest : List Declaration) → AllFind (declaration_of ds) by_name (declared_ports ps rest) → PortsFit (plain_ports ps) ins
            → FromFits x otherwise → FromFits x (or_else (look port_source (plain_ports ps) x) otherwise)
        from_ports x otherwise [] rest f h there = there
        from_ports x otherwise (p ∷ ps) rest f h there = from_port x otherwise p.input p ps f.0 h (λ more. from_ports x otherwise ps rest f.1 more there)

        from_all : PortsFit m.ports ins → (x : List ℕ) → FromFits x (or_else (look port_source m.ports x) (or_else (look item_source m.items x) Nowhere))
        from_all fit x = from_ports x _ t.ports (declared_items t.items) found fit (from_items x t.items found_items fine start)

      -- ---- what is held next

      module _ (reset : ℕ) where
        abbrev NextFits : List ℕ → ℕ → Clocked → Type 0
        NextFits x old c = next_reg (width_in m) s.cells val reset old c < 2 ^ W x

        next_one : (name x : List ℕ) (b : Bool) (old : ℕ) (c : Clocked) (o : Option Clocked) → same_name name x ≡ b → NextFits name old c → NextFits x old (or_else o Stays)
            → NextFits x old (or_else (pick_if b c o) Stays)
        next_one name x true old c o q here there = subst (λ y. NextFits y old c) (same_text name x (sym q)) here
        next_one name x false old c o q here there = there

        next_items : (x : List ℕ) (old : ℕ) (is : List tree.Item) → AreFineItems ds is → old < 2 ^ W x → NextFits x old (or_else (look item_clocked (plain_items is) x) Stays)
        next_items x old [] a h = h
        next_items x old (Wire at range name d ∷ is) a h = next_items x old is a.1 h
        next_items x old (Reg at range name None ∷ is) a h = next_items x old is a.1 h
        next_items x old (Reg at range name (Some cells) ∷ is) a h = next_items x old is a.1 h
        next_items x old (Assign at target d ∷ is) a h = next_items x old is a.1 h
        next_items x old (Always at (stmt.Next target d) ∷ is) a h =
            next_one target.text x _ old (Takes (plain d.value)) _ refl (driver_fits target.text (plain d.value) a.0.0 a.0.1.0) (next_items x old is a.1 h)
        next_items x old (Always at (stmt.Reset at' first s' begin target d) ∷ is) a h =
            next_one target.text x _ old (Restarts begin.value (plain d.value)) _ refl
            (chosen_fits (eqb reset 1) _ _ (2 ^ W target.text) a.0.1 (driver_fits target.text (plain d.value) a.0.0.0 a.0.0.1.0)) (next_items x old is a.1 h)
        next_items x old (Always at (stmt.Write at' s' enable target b index d) ∷ is) a h = next_items x old is a.1 h

      abbrev PutsFit : List ℕ → List ℕ → Writing → Type 0
      PutsFit x old o = All (λ c. c < 2 ^ W x) (next_cells (width_in m) s.cells val old o)

      put_one : (name x : List ℕ) (b : Bool) (old : List ℕ) (c : Writing) (o : Option Writing) → same_name name x ≡ b → (All (λ c. c < 2 ^ W name) old → PutsFit name old c) → All (λ c. c < 2 ^ W x) old
          → PutsFit x old (or_else o Keeps) → PutsFit x old (or_else (pick_if b c o) Keeps)
      put_one name x true old c o q here h there = subst (λ y. All (λ c. c < 2 ^ W y) old → PutsFit y old c) (same_text name x (sym q)) here h
      put_one name x false old c o q here h there = there

      written : (b : Bool) (old : List ℕ) (i v width : ℕ) → v < 2 ^ width → All (λ c. c < 2 ^ width) old → All (λ c. c < 2 ^ width) (cond b (set old i v) old)
      written true old i v width h a = All-set (λ c. c < 2 ^ width) old i v h a
      written false old i v width h a = a

      put_items : (x : List ℕ) (old : List ℕ) (is : List tree.Item) → AreFineItems ds is → All (λ c. c < 2 ^ W x) old → PutsFit x old (or_else (look item_writing (plain_items is) x) Keeps)
      put_items x old [] a h = h
      put_items x old (Wire at range name d ∷ is) a h = put_items x old is a.1 h
      put_items x old (Reg at range name None ∷ is) a h = put_items x old is a.1 h
      put_items x old (Reg at range name (Some cells) ∷ is) a h = put_items x old is a.1 h
      put_items x old (Assign at target d ∷ is) a h = put_items x old is a.1 h
      put_items x old (Always at (stmt.Next target d) ∷ is) a h = put_items x old is a.1 h
      put_items x old (Always at (stmt.Reset at' first s' begin target d) ∷ is) a h = put_items x old is a.1 h
      put_items x old (Always at (stmt.Write at' s' enable target b index d) ∷ is) a h =
          put_one target.text x _ old (Puts (plain enable) (plain index) (plain d.value)) _ refl
          (written (eqb (E (plain enable)) 1) old (E (plain index)) (E (plain d.value)) (W target.text) (driver_fits target.text (plain d.value) a.0.1.1.0 a.0.1.1.1.0)) h (put_items x old is a.1 h)

      as_many : (b : Bool) (old : List ℕ) (i v : ℕ) → length (cond b (set old i v) old) ≡ length old
      as_many true old i v = length-set old i v
      as_many false old i v = refl

      put_length : (o : Writing) (old : List ℕ) → length (next_cells (width_in m) s.cells val old o) ≡ length old
      put_length Keeps old = refl
      put_length (Puts enable index driver) old = as_many (eqb (E enable) 1) old (E index) (E driver)

    module _ (ins : List ℕ → ℕ) (fit : PortsFit m.ports ins) where
      value_to_fits : (depth : ℕ) (x : List ℕ) → value_to m s ins depth x < 2 ^ W x
      unfolding value_to
      value_to_fits zero x = pow_pos (W x)
      value_to_fits (suc depth) x = from_all (value_to m s ins depth) (value_to_fits depth) ins fit x

      value_fits : (x : List ℕ) → value m s ins x < 2 ^ W x
      unfolding value
      value_fits x = value_to_fits (suc (length m.items)) x

      pub all_fit : (names : List (List ℕ)) → AllFit m (value m s ins) names
      all_fit [] = tt
      all_fit (x ∷ names) = (subst (λ w. value m s ins x < 2 ^ w x) same_widths (value_fits x), all_fit names)

      next_start : (is : List tree.Item) → AreDeclared is → IsStart (plain_items is) s → IsStart (plain_items is) (next m s ins)
      unfolding next
      next_start [] f h = tt
      next_start (Wire at range name d ∷ is) f h = next_start is f.1 h
      next_start (Reg at range name None ∷ is) f h =
          let same = ap declared_width f.0 in (
            subst (λ k. (next m s ins).regs name.text < 2 ^ k) same
                (next_items (value m s ins) value_fits (ins reset_name) name.text (s.regs name.text) t.items fine (subst (λ k. s.regs name.text < 2 ^ k) (sym same) h.0)),
            next_start is f.1 h.1,
          )
      next_start (Reg at range name (Some cells) ∷ is) f h =
          let same = ap declared_width f.0 in (
            put_length (value m s ins) value_fits (writing_of m name.text) (s.cells name.text) ∙ h.0,
            (
              subst (λ k. All (λ c. c < 2 ^ k) ((next m s ins).cells name.text)) same
                  (put_items (value m s ins) value_fits name.text (s.cells name.text) t.items fine (subst (λ k. All (λ c. c < 2 ^ k) (s.cells name.text)) (sym same) h.1.0)),
              next_start is f.1 h.1.1,
            ),
          )
      next_start (Assign at target d ∷ is) f h = next_start is f h
      next_start (Always at (stmt.Next target d) ∷ is) f h = next_start is f h
      next_start (Always at (stmt.Reset at' first s' begin target d) ∷ is) f h = next_start is f h
      next_start (Always at (stmt.Write at' s' enable target b index d) ∷ is) f h = next_start is f h

      pub start_later : IsStart m.items (next m s ins)
      start_later = next_start t.items found_items start
