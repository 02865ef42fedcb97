-- What registers and arrays hold after the edge of the clock.
use Rattle.std.proofs.Common.{◌≡◌, ◌≢◌, ℕ, ◌+◌, ◌^◌, ◌<◌, ◌≤◌, Bool, true, false, cond, eqb, ltb, All, List, [], ◌∷◌, length, get_or, set, map, Option, Some, None, refl, ap, sym, ◌∙◌, subst, arith, length-set}
use Rattle.std.proofs.lemmas.Bool.Decides.{nat_tests}
use Rattle.std.proofs.lemmas.List.{get_or-set_same, get_or-set_other}
use Rattle.std.proofs.lemmas.List.Elements.{All-set}
use Rattle.verilog_tree.specs.declared.tree.Stmt.{Stmt}
use Rattle.verilog_tree.specs.declared.tree.Stmt.TheVariants as stmt
use Rattle.verilog_mean.specs.Plain.{Expr, Item, Plain}
use Rattle.verilog_mean.specs.Plain.Item.{Wire, Reg, Array, Assign, Next, Reset, Write}
use Rattle.verilog_mean.specs.Cycle.{State, clocked_of, writing_of, width_of, width_in, eval, value, next, next_reg, next_cells, reset_name}
use Rattle.verilog_mean.specs.Cycle.{Writing}
use Rattle.verilog_mean.specs.Cycle.Writing.{Keeps, Puts}
use Rattle.verilog_mean.specs.Run.{IsStart}
use Rattle.verilog_mean.specs.Erase.{plain}
use Rattle.verilog_mean.specs.Declarations.{Declaration, width_among}
use Rattle.verilog_flat.specs.declared.node.Node.{Node}
use Rattle.verilog_resolve.specs.declared.names.Place.{Place}
use Rattle.verilog_resolve.specs.Names.{IsNet}
use Rattle.verilog_resolve.specs.Fine.{IsFine}
use Rattle.verilog_resolve.specs.Wires.{AllMatch}
use Rattle.verilog_resolve.proofs.Means.{flat_means}
use Rattle.verilog_sim.specs.Simulates.{ShowsArrays}
use Rattle.verilog_sim.specs.Layouts.{register_names, spans_from}
use Rattle.verilog_sim.specs.Stmts.{clocked, writing}
use Rattle.verilog_sim.specs.Nexts.{HaveNext, IsNext, next_by}
use Rattle.verilog_sim.specs.Puts.{HavePut, IsPut, put_all, put_one}
use Rattle.verilog_sim.specs.Targets.{target}
use Rattle.verilog_sim.proofs.StmtFacts.{NextFine, NextFact, PutFine, PutFact}

module _ (ds : List Declaration) (m : Plain) (table : List ℕ → Option Stmt) where
  -- each register and each array has its statement
  abbrev pub AllEdges : List Item → Type 0
  AllEdges [] = Unit {0}
  AllEdges (Reg width name ∷ rest) = (NextFact ds m table name × (width_among ds name ≡ width)) × AllEdges rest
  AllEdges (Array width name cells ∷ rest) = (PutFact ds m table name × (width_among ds name ≡ width)) × AllEdges rest
  AllEdges (Wire width name driver ∷ rest) = AllEdges rest
  AllEdges (Assign target driver ∷ rest) = AllEdges rest
  AllEdges (Next target driver ∷ rest) = AllEdges rest
  AllEdges (Reset target start driver ∷ rest) = AllEdges rest
  AllEdges (Write enable target index driver ∷ rest) = AllEdges rest

  -- ---- what the code asks for

  module _ (p : List ℕ → Place) (fits : (e : Expr) → IsFine (target ds) e → IsFine p e) (reset : IsNet (p reset_name)) where
    is_next : (x : List ℕ) (o : Option Stmt) → NextFine ds x o → IsNext p o
    is_next x None h = h
    is_next x (Some (stmt.Next t d)) h = fits (plain d.value) h.0
    is_next x (Some (stmt.Reset at first s start t d)) h = (fits (plain d.value) h.0, reset)
    is_next x (Some (stmt.Write at q e t b i d)) h = h

    is_put : (x : List ℕ) (o : Option Stmt) → PutFine ds x o → IsPut p o
    is_put x None h = h
    is_put x (Some (stmt.Next t d)) h = h
    is_put x (Some (stmt.Reset at first s start t d)) h = h
    is_put x (Some (stmt.Write at q e t b i d)) h = (fits (plain e) h.0, (fits (plain i) h.1.0, fits (plain d.value) h.1.1.0))

    pub have_next : (is : List Item) → AllEdges is → HaveNext p table is
    have_next [] a = tt
    have_next (Reg width name ∷ rest) a = (is_next name (table name) a.0.0.0, have_next rest a.1)
    have_next (Array width name cells ∷ rest) a = have_next rest a.1
    have_next (Wire width name driver ∷ rest) a = have_next rest a
    have_next (Assign target driver ∷ rest) a = have_next rest a
    have_next (Next target driver ∷ rest) a = have_next rest a
    have_next (Reset target start driver ∷ rest) a = have_next rest a
    have_next (Write enable target index driver ∷ rest) a = have_next rest a

    pub have_put : (is : List Item) → AllEdges is → HavePut p table is
    have_put [] a = tt
    have_put (Reg width name ∷ rest) a = have_put rest a.1
    have_put (Array width name cells ∷ rest) a = (is_put name (table name) a.0.0.0, have_put rest a.1)
    have_put (Wire width name driver ∷ rest) a = have_put rest a
    have_put (Assign target driver ∷ rest) a = have_put rest a
    have_put (Next target driver ∷ rest) a = have_put rest a
    have_put (Reset target start driver ∷ rest) a = have_put rest a
    have_put (Write enable target index driver ∷ rest) a = have_put rest a

    -- ---- values

    module _ (wide : ◌≡◌ {A = List ℕ → ℕ} (width_among ds) (width_in m)) (s : State) (inputs : List ℕ → ℕ) (regs cells ins : List ℕ) (nodes : List Node) (match_ : AllMatch m s inputs regs cells ins nodes p) where
      abbrev E : Expr → ℕ
      E e = eval (width_in m) s.cells (value m s inputs) e

      -- the value of an expression is within its width
      fits_in : (e : Expr) → IsFine (target ds) e → E e < 2 ^ width_of (width_in m) e
      fits_in e f =
          let g = flat_means regs cells ins (width_in m) s.cells (value m s inputs) p e nodes (fits e f) match_ in
          subst (λ k. E e < 2 ^ k) g.width g.bound

      side : (x : List ℕ) (e : Expr) → IsFine (target ds) e → width_among ds x ≡ width_of (width_among ds) e → E e < 2 ^ width_among ds x
      side x e f w = subst (λ k. E e < 2 ^ k) (sym (w ∙ ap (λ u. width_of u e) wide)) (fits_in e f)

      next_below : (x : List ℕ) (o : Option Stmt) (reset old : ℕ) → NextFine ds x o → next_reg (width_in m) s.cells (value m s inputs) reset old (clocked o) < 2 ^ width_among ds x
      next_below x None reset old h = absurd h
      next_below x (Some (stmt.Next t d)) reset old h = side x (plain d.value) h.0 h.1
      next_below x (Some (stmt.Reset at first q start t d)) reset old h = split (eqb reset 1)
        where
          split : (b : Bool) → cond b start.value (E (plain d.value)) < 2 ^ width_among ds x
          split true = h.1.1
          split false = side x (plain d.value) h.0 h.1.0
      next_below x (Some (stmt.Write at q e t b i d)) reset old h = absurd h

      put_length : (o : Writing) (old : List ℕ) → length (next_cells (width_in m) s.cells (value m s inputs) old o) ≡ length old
      put_length Keeps old = refl
      put_length (Puts enable index driver) old = split (eqb (E enable) 1)
        where
          split : (b : Bool) → length (cond b (set old (E index) (E driver)) old) ≡ length old
          split true = length-set old (E index) (E driver)
          split false = refl

      put_below : (x : List ℕ) (o : Option Stmt) (old : List ℕ) → PutFine ds x o → All (λ c. c < 2 ^ width_among ds x) old
          → All (λ c. c < 2 ^ width_among ds x) (next_cells (width_in m) s.cells (value m s inputs) old (writing o))
      put_below x None old h a = a
      put_below x (Some (stmt.Next t d)) old h a = a
      put_below x (Some (stmt.Reset at first q start t d)) old h a = a
      put_below x (Some (stmt.Write at q e t b i d)) old h a = split (eqb (E (plain e)) 1)
        where
          split : (b : Bool) → All (λ c. c < 2 ^ width_among ds x) (cond b (set old (E (plain i)) (E (plain d.value))) old)
          split true = All-set (λ c. c < 2 ^ width_among ds x) old (E (plain i)) (E (plain d.value)) (side x (plain d.value) h.1.1.0 h.1.1.1) a
          split false = a

      -- what is held next is within the widths
      pub start_next : (is : List Item) → AllEdges is → IsStart is s → IsStart is (next m s inputs)
      unfolding next
      start_next [] a h = tt
      start_next (Reg width name ∷ rest) a h = (
        subst (λ k. next_reg (width_in m) s.cells (value m s inputs) (inputs reset_name) (s.regs name) (clocked_of m name) < 2 ^ k) a.0.1
            (subst (λ k. next_reg (width_in m) s.cells (value m s inputs) (inputs reset_name) (s.regs name) k < 2 ^ width_among ds name) a.0.0.1
            (next_below name (table name) (inputs reset_name) (s.regs name) a.0.0.0)),
        start_next rest a.1 h.1,
      )
      start_next (Array width name size ∷ rest) a h = (
        put_length (writing_of m name) (s.cells name) ∙ h.0,
        (
          subst (λ k. All (λ c. c < 2 ^ k) (next_cells (width_in m) s.cells (value m s inputs) (s.cells name) (writing_of m name))) a.0.1
              (subst (λ k. All (λ c. c < 2 ^ width_among ds name) (next_cells (width_in m) s.cells (value m s inputs) (s.cells name) k)) a.0.0.1
              (put_below name (table name) (s.cells name) a.0.0.0 (subst (λ k. All (λ c. c < 2 ^ k) (s.cells name)) (sym a.0.1) h.1.0))),
          start_next rest a.1 h.1.1,
        ),
      )
      start_next (Wire width name driver ∷ rest) a h = start_next rest a h
      start_next (Assign target driver ∷ rest) a h = start_next rest a h
      start_next (Next target driver ∷ rest) a h = start_next rest a h
      start_next (Reset target start driver ∷ rest) a h = start_next rest a h
      start_next (Write enable target index driver ∷ rest) a h = start_next rest a h

      -- the registers
      pub regs_next : (is : List Item) → AllEdges is → value m s inputs reset_name ≡ inputs reset_name
          → map (next_by (width_in m) s.cells (value m s inputs) s.regs table) (register_names is) ≡ map (next m s inputs).regs (register_names is)
      unfolding next
      regs_next [] a r = refl
      regs_next (Reg width name ∷ rest) a r = λ i. next_reg (width_in m) s.cells (value m s inputs) (r i) (s.regs name) (a.0.0.1 i) ∷ regs_next rest a.1 r i
      regs_next (Array width name cells ∷ rest) a r = regs_next rest a.1 r
      regs_next (Wire width name driver ∷ rest) a r = regs_next rest a r
      regs_next (Assign target driver ∷ rest) a r = regs_next rest a r
      regs_next (Next target driver ∷ rest) a r = regs_next rest a r
      regs_next (Reset target start driver ∷ rest) a r = regs_next rest a r
      regs_next (Write enable target index driver ∷ rest) a r = regs_next rest a r

      -- ---- the arrays

      abbrev P : Writing → (base size : ℕ) → List ℕ → List ℕ
      P o base size held = put_one (width_in m) s.cells (value m s inputs) o base size held

      one_length : (o : Writing) (base size : ℕ) (held : List ℕ) → length (P o base size held) ≡ length held
      one_length Keeps base size held = refl
      one_length (Puts enable index driver) base size held = split (eqb (E enable) 1) (ltb (E index) size)
        where
          split : (b c : Bool) → length (cond b (cond c (set held (base + E index) (E driver)) held) held) ≡ length held
          split true true = length-set held (base + E index) (E driver)
          split true false = refl
          split false c = refl

      -- a write changes no cell outside its array
      one_outside : (o : Writing) (base size : ℕ) (held : List ℕ) (j : ℕ) → ((i : ℕ) → i < size → j ≢ base + i) → get_or (P o base size held) j 0 ≡ get_or held j 0
      one_outside Keeps base size held j h = refl
      one_outside (Puts enable index driver) base size held j h = split (eqb (E enable) 1) (ltb (E index) size) refl
        where
          split : (b c : Bool) → ltb (E index) size ≡ c → get_or (cond b (cond c (set held (base + E index) (E driver)) held) held) j 0 ≡ get_or held j 0
          split true true q = get_or-set_other held (base + E index) j (E driver) 0 (h (E index) (grind (arith, nat_tests)))
          split true false q = refl
          split false c q = refl

      -- it changes its array as the module says
      one_inside : (o : Writing) (base size : ℕ) (held own : List ℕ) → length own ≡ size → base + size ≤ length held → ((i : ℕ) → i < size → get_or held (base + i) 0 ≡ get_or own i 0)
          → (i : ℕ) → i < size → get_or (P o base size held) (base + i) 0 ≡ get_or (next_cells (width_in m) s.cells (value m s inputs) own o) i 0
      one_inside Keeps base size held own n l h i b = h i b
      one_inside (Puts enable index driver) base size held own n l h i b = split (eqb (E enable) 1) (ltb (E index) size) refl (eqb i (E index)) refl
        where
          split : (d c : Bool) → ltb (E index) size ≡ c → (t : Bool) → eqb i (E index) ≡ t
              → get_or (cond d (cond c (set held (base + E index) (E driver)) held) held) (base + i) 0 ≡ get_or (cond d (set own (E index) (E driver)) own) i 0
          split false c q t r = h i b
          split true true q true r =
              let e : i ≡ E index = grind (arith, nat_tests) in
              ap (λ k. get_or (set held (base + E index) (E driver)) (base + k) 0) e
              ∙ get_or-set_same held (base + E index) (E driver) 0 (omega (arith, e, b, l))
              ∙ sym (ap (λ k. get_or (set own (E index) (E driver)) k 0) e ∙ get_or-set_same own (E index) (E driver) 0 (omega (arith, e, b, n)))
          split true true q false r =
              get_or-set_other held (base + E index) (base + i) (E driver) 0 (λ z. grind (arith, nat_tests))
              ∙ h i b ∙ sym (get_or-set_other own (E index) i (E driver) 0 (λ z. grind (arith, nat_tests)))
          split true false q t r = h i b ∙ sym (get_or-set_other own (E index) i (E driver) 0 (λ z. grind (arith, nat_tests)))

      abbrev A : (base : ℕ) → List Item → List ℕ → List ℕ
      A base is held = put_all (width_in m) s.cells (value m s inputs) table base is held

      all_length : (base : ℕ) (is : List Item) (held : List ℕ) → length (A base is held) ≡ length held
      all_length base [] held = refl
      all_length base (Array width name size ∷ rest) held = all_length (base + size) rest (P (writing (table name)) base size held) ∙ one_length (writing (table name)) base size held
      all_length base (Reg width name ∷ rest) held = all_length base rest held
      all_length base (Wire width name driver ∷ rest) held = all_length base rest held
      all_length base (Assign target driver ∷ rest) held = all_length base rest held
      all_length base (Next target driver ∷ rest) held = all_length base rest held
      all_length base (Reset target start driver ∷ rest) held = all_length base rest held
      all_length base (Write enable target index driver ∷ rest) held = all_length base rest held

      -- writes change no cell before their arrays
      all_before : (base : ℕ) (is : List Item) (held : List ℕ) (j : ℕ) → j < base → get_or (A base is held) j 0 ≡ get_or held j 0
      all_before base [] held j l = refl
      all_before base (Array width name size ∷ rest) held j l =
          all_before (base + size) rest (P (writing (table name)) base size held) j (omega (arith, l))
          ∙ one_outside (writing (table name)) base size held j (λ i b z. omega (arith, l, z))
      all_before base (Reg width name ∷ rest) held j l = all_before base rest held j l
      all_before base (Wire width name driver ∷ rest) held j l = all_before base rest held j l
      all_before base (Assign target driver ∷ rest) held j l = all_before base rest held j l
      all_before base (Next target driver ∷ rest) held j l = all_before base rest held j l
      all_before base (Reset target start driver ∷ rest) held j l = all_before base rest held j l
      all_before base (Write enable target index driver ∷ rest) held j l = all_before base rest held j l

      -- arrays behind a cell depend on the cells from it on alone
      keep_shown : (base : ℕ) (is : List Item) (h g : List ℕ) → length g ≡ length h → ((j : ℕ) → base ≤ j → get_or g j 0 ≡ get_or h j 0) → ShowsArrays s h (spans_from base is) → ShowsArrays s g (spans_from base is)
      keep_shown base [] h g n k a = tt
      keep_shown base (Array width name size ∷ rest) h g n k a =
          let l = a.0.1.0 in
          ((a.0.0, (omega (arith, l, n), λ i b. k (base + i) (omega arith) ∙ a.0.1.1 i b)), keep_shown (base + size) rest h g n (λ j b. k j (omega (arith, b))) a.1)
      keep_shown base (Reg width name ∷ rest) h g n k a = keep_shown base rest h g n k a
      keep_shown base (Wire width name driver ∷ rest) h g n k a = keep_shown base rest h g n k a
      keep_shown base (Assign target driver ∷ rest) h g n k a = keep_shown base rest h g n k a
      keep_shown base (Next target driver ∷ rest) h g n k a = keep_shown base rest h g n k a
      keep_shown base (Reset target start driver ∷ rest) h g n k a = keep_shown base rest h g n k a
      keep_shown base (Write enable target index driver ∷ rest) h g n k a = keep_shown base rest h g n k a

      pub cells_next : (base : ℕ) (is : List Item) (held : List ℕ) → AllEdges is → ShowsArrays s held (spans_from base is) → ShowsArrays (next m s inputs) (A base is held) (spans_from base is)
      unfolding next
      cells_next base [] held a h = tt
      cells_next base (Array width name size ∷ rest) held a h =
          let o = writing (table name) in
          let held' : List ℕ = P o base size held in
          let n = all_length (base + size) rest held' ∙ one_length o base size held in
          let l = h.0.1.0 in (
            (
              put_length (writing_of m name) (s.cells name) ∙ h.0.0,
              (
                omega (arith, l, n),
                λ i b. all_before (base + size) rest held' (base + i) (omega (arith, b))
                    ∙ one_inside o base size held (s.cells name) h.0.0 h.0.1.0 h.0.1.1 i b
                    ∙ ap (λ w. get_or (next_cells (width_in m) s.cells (value m s inputs) (s.cells name) w) i 0) a.0.0.1,
              ),
            ),
            cells_next (base + size) rest held' a.1
                (keep_shown (base + size) rest held held' (one_length o base size held) (λ j b. one_outside o base size held j (λ i c z. omega (arith, b, c, z))) h.1),
          )
      cells_next base (Reg width name ∷ rest) held a h = cells_next base rest held a.1 h
      cells_next base (Wire width name driver ∷ rest) held a h = cells_next base rest held a h
      cells_next base (Assign target driver ∷ rest) held a h = cells_next base rest held a h
      cells_next base (Next target driver ∷ rest) held a h = cells_next base rest held a h
      cells_next base (Reset target start driver ∷ rest) held a h = cells_next base rest held a h
      cells_next base (Write enable target index driver ∷ rest) held a h = cells_next base rest held a h
