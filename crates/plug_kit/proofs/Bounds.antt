-- The runs of a part are within the widths of its scope.
use Rattle.std.proofs.Common.{◌≡◌, ◌∙◌, ◌≤◌, ℕ, ◌^◌, ◌<◌, ◌&&◌, Bool, true, false, cond, leb, ltb, List, length, get_or, All, refl, ap, sym, subst, Option, None, Some, inl, inr}
use Rattle.std.proofs.lemmas.Bool.{cases_lt, and_parts, ltb-true}
use Rattle.std.proofs.lemmas.List.{get_or_past}
use Rattle.std.proofs.lemmas.List.Elements.{All-get_or}
use Rattle.std.proofs.lemmas.Nat.{pow_pos}
use Rattle.core_ports.specs.Ports.{is_input}
use Rattle.core_ports.specs.Ports as ports
use Rattle.hw_pool.specs.Meaning.{Env}
use Rattle.hw_module.specs.Ports.{port_at}
use Rattle.hw_module.specs.declared.rows.Owner.TheVariants.{Pipe, Entry}
use Rattle.hw_module.specs.declared.rows.WireRow.{WireRow}
use Rattle.hw_module.specs.declared.rows.RegRow.{RegRow}
use Rattle.hw_module.specs.declared.rows.ArrayRow.{ArrayRow}
use Rattle.hw_module.specs.Rows.{ModuleValue, wire_at, reg_at, array_at}
use Rattle.hw_module.specs.Frame.{Grows}
use Rattle.hw_module.specs.Scope.{input_width}
use Rattle.service_reg.specs.declared.service.Service.{Service}
use Rattle.service_ports.proofs.Offers.{none_some}
use Rattle.plug_part.specs.Part.{Part, PartWire, PartReg, PartArray}
use Rattle.plug_part.specs.Owned.{is_owner, is_own_input}
use Rattle.plug_part.specs.Of.{part_of, tree_option, write_trees}
use Rattle.plug_part.specs.Runs.{IsPartRun}
use Rattle.plug_part.proofs.Rows.{owner_is, owned}
use Rattle.plug_build.specs.World.{World, part_in}
use Rattle.plug_kit.specs.Bounds.{IsBounded, no_scope, wire_shape, reg_shape, array_shape, part_scope, own_scope}
use Rattle.plug_kit.proofs.Rows.{some_eq}

guarded : {A : Type 0} (b : Bool) (x y : A) → cond b (Some x) None ≡ Some y → (b ≡ true) × (x ≡ y)
guarded true x y e = (refl, some_eq e)
guarded false x y e = absurd (none_some None y refl e)

-- a number past the end of a list is 0
below-any : (l : List ℕ) (n i : ℕ) → 0 < n → All (λ c. c < n) l → get_or l i 0 < n
below-any l n i p h = elim (cases_lt i (length l)) [
  | inl there ↦ All-get_or (λ c. c < n) l i 0 there h
  | inr past ↦ subst (λ (v : ℕ). v < n) (sym (get_or_past l i 0 past)) p
]

module _ (p : Part) (run : ℕ → Env) (is : IsPartRun p run) (k : ℕ) where
  wire-bound : (w width level : ℕ) (o : Option PartWire) → p.wires w ≡ o → wire_shape o ≡ Some (width, level) → (run k).wires w < 2 ^ width
  wire-bound w width level None at e = absurd (none_some None (width, level) refl e)
  wire-bound w width level (Some row) at e = subst (λ (v : ℕ). (run k).wires w < 2 ^ v) (ap (λ (q : ℕ × ℕ). q.0) (some_eq e)) (is.within.wires_fit w row at k)

  reg-bound : (r width : ℕ) (o : Option PartReg) → p.regs r ≡ o → reg_shape o ≡ Some width → (run k).regs r < 2 ^ width
  reg-bound r width None at e = absurd (none_some None width refl e)
  reg-bound r width (Some row) at e = subst (λ (v : ℕ). (run k).regs r < 2 ^ v) (some_eq e) (is.within.regs_fit r row at k)

  cell-bound : (a width bits i : ℕ) (o : Option PartArray) → p.arrays a ≡ o → array_shape o ≡ Some (width, bits) → get_or ((run k).cells a) i 0 < 2 ^ width
  cell-bound a width bits i None at e = absurd (none_some None (width, bits) refl e)
  cell-bound a width bits i (Some row) at e =
      subst (λ (v : ℕ). get_or ((run k).cells a) i 0 < 2 ^ v) (ap (λ (q : ℕ × ℕ). q.0) (some_eq e))
      (below-any ((run k).cells a) (2 ^ row.width) i (pow_pos row.width) (is.within.cells_fit a row at k))

  input-bound : (q width : ℕ) → input_width q ≡ Some width → (run k).inputs q < 2 ^ width
  input-bound q width e =
      let g = guarded (leb 1 q && (ltb q 30 && is_input (port_at q))) (ports.width_of (port_at q)) width e in
      let b = and_parts (ltb q 30) (is_input (port_at q)) (and_parts (leb 1 q) (ltb q 30 && is_input (port_at q)) g.0).1 in
      subst (λ (v : ℕ). (run k).inputs q < 2 ^ v) g.1 (is.within.inputs_fit k q (ltb-true q 30 b.0) b.1)

  pub bounded : IsBounded (part_scope p) (run k)
  bounded = record {
    inputs = input-bound;
    wires = λ w width level e. wire-bound w width level (p.wires w) refl e;
    regs = λ r width e. reg-bound r width (p.regs r) refl e;
    cells = λ a width bits i e. cell-bound a width bits i (p.arrays a) refl e;
  }

pub nothing_bounded : (env : Env) → IsBounded no_scope env
nothing_bounded env = record {
  inputs = λ k width e. absurd (none_some None width refl e);
  wires = λ k width level e. absurd (none_some None (width, level) refl e);
  regs = λ k width e. absurd (none_some None width refl e);
  cells = λ k width bits i e. absurd (none_some None (width, bits) refl e);
}

-- ---- the scope of a part is that of the entry's rows

wire-shape : (b : Bool) (row : PartWire) → wire_shape (cond b (Some row) None) ≡ cond b (Some (row.width, row.level)) None
wire-shape true row = refl
wire-shape false row = refl

reg-shape : (b : Bool) (row : PartReg) → reg_shape (cond b (Some row) None) ≡ cond b (Some row.width) None
reg-shape true row = refl
reg-shape false row = refl

array-shape : (b : Bool) (row : PartArray) → array_shape (cond b (Some row) None) ≡ cond b (Some (row.width, row.bits)) None
array-shape true row = refl
array-shape false row = refl

pub scope_same : (takes : Service → Bool) (entry : ℕ) (w : World) → part_scope (part_in takes entry w) ≡ own_scope entry w.design
unfolding part_of
scope_same takes entry w = λ i. record {
  inputs = input_width;
  wires = λ k. wire-shape (is_owner (wire_at w.design.wires k).owner entry) (record { width = (wire_at w.design.wires k).width; level = (wire_at w.design.wires k).level; driver = cond (is_own_input w.reg entry k) None (tree_option w.pool.nodes (wire_at w.design.wires k).driver) }) i;
  regs = λ k. reg-shape (is_owner (reg_at w.design.regs k).owner entry) (record { width = (reg_at w.design.regs k).width; reset = (reg_at w.design.regs k).reset; next = tree_option w.pool.nodes (reg_at w.design.regs k).next }) i;
  arrays = λ k. array-shape (is_owner (array_at w.design.arrays k).owner entry) (record { width = (array_at w.design.arrays k).width; bits = (array_at w.design.arrays k).bits; write = write_trees w.pool.nodes (array_at w.design.arrays k).write }) i;
}

-- ---- a module that has grown has the entry's things still

module _ (e : ℕ) (old new : ModuleValue) (n : ℕ) (grows : Grows old new n) where
  past-wire : (k : ℕ) → length old.wires ≤ k → (wire_at old.wires k).owner ≡ Entry e → ⊥
  past-wire k l own = let x : Pipe ≡ Entry e = sym (ap (λ (row : WireRow). row.owner) (get_or_past old.wires k _ l)) ∙ own in cc

  past-reg : (k : ℕ) → length old.regs ≤ k → (reg_at old.regs k).owner ≡ Entry e → ⊥
  past-reg k l own = let x : Pipe ≡ Entry e = sym (ap (λ (row : RegRow). row.owner) (get_or_past old.regs k _ l)) ∙ own in cc

  past-array : (k : ℕ) → length old.arrays ≤ k → (array_at old.arrays k).owner ≡ Entry e → ⊥
  past-array k l own = let x : Pipe ≡ Entry e = sym (ap (λ (row : ArrayRow). row.owner) (get_or_past old.arrays k _ l)) ∙ own in cc

  wire-grown : (k : ℕ) (shape : ℕ × ℕ) → (own_scope e old).wires k ≡ Some shape → (own_scope e new).wires k ≡ Some shape
  wire-grown k shape is =
      let g = guarded (is_owner (wire_at old.wires k).owner e) ((wire_at old.wires k).width, (wire_at old.wires k).level) shape is in
      let own = owner_is _ e g.0 in
      elim (cases_lt k (length old.wires)) [
        | inr past ↦ absurd (past-wire k past own)
        | inl there ↦
            let stays = grows.wires k there in
            owned (wire_at new.wires k).owner e ((wire_at new.wires k).width, (wire_at new.wires k).level) (stays.owner ∙ own)
            ∙ (λ i. Some (stays.width i, stays.level i)) ∙ ap Some g.1
      ]

  reg-grown : (k width : ℕ) → (own_scope e old).regs k ≡ Some width → (own_scope e new).regs k ≡ Some width
  reg-grown k width is =
      let g = guarded (is_owner (reg_at old.regs k).owner e) (reg_at old.regs k).width width is in
      let own = owner_is _ e g.0 in
      elim (cases_lt k (length old.regs)) [
        | inr past ↦ absurd (past-reg k past own)
        | inl there ↦
            let stays = grows.regs k there in
            owned (reg_at new.regs k).owner e (reg_at new.regs k).width (stays.owner ∙ own) ∙ ap Some (stays.width ∙ g.1)
      ]

  array-grown : (k : ℕ) (shape : ℕ × ℕ) → (own_scope e old).arrays k ≡ Some shape → (own_scope e new).arrays k ≡ Some shape
  array-grown k shape is =
      let g = guarded (is_owner (array_at old.arrays k).owner e) ((array_at old.arrays k).width, (array_at old.arrays k).bits) shape is in
      let own = owner_is _ e g.0 in
      elim (cases_lt k (length old.arrays)) [
        | inr past ↦ absurd (past-array k past own)
        | inl there ↦
            let stays = grows.arrays k there in
            owned (array_at new.arrays k).owner e ((array_at new.arrays k).width, (array_at new.arrays k).bits) (stays.owner ∙ own)
            ∙ (λ i. Some (stays.width i, stays.bits i)) ∙ ap Some g.1
      ]

  pub grown_bounded : (env : Env) → IsBounded (own_scope e new) env → IsBounded (own_scope e old) env
  grown_bounded env h = record {
    inputs = h.inputs;
    wires = λ k width level is. h.wires k width level (wire-grown k (width, level) is);
    regs = λ k width is. h.regs k width (reg-grown k width is);
    cells = λ k width bits i is. h.cells k width bits i (array-grown k (width, bits) is);
  }
