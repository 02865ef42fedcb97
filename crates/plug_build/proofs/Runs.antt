-- A run of a module is a run of each part.
use Rattle.std.proofs.Common.{◌≡◌, ◌∙◌, ℕ, ◌<◌, List, length, set, refl, ap, sym, Bool, true, false, cond, eqb, ◌&&◌, Option, None, Some, inl, inr}
use Rattle.std.proofs.lemmas.Bool.{cases_lt, cases_Bool, and_parts}
use Rattle.std.proofs.lemmas.List.{get_or_past}
use Rattle.hw_pool.specs.declared.node.Node.{Node}
use Rattle.hw_pool.specs.Trees.{Tree}
use Rattle.hw_pool.specs.Meaning.{Env, value}
use Rattle.hw_expr.specs.declared.net.Net.{Net}
use Rattle.hw_module.specs.declared.rows.Owner.TheVariants.{Pipe, Entry}
use Rattle.hw_module.specs.declared.rows.WireRow.{WireRow}
use Rattle.hw_module.specs.declared.rows.ArrayWrite.{ArrayWrite}
use Rattle.hw_module.specs.Rows.{wire_at, reg_at, array_at}
use Rattle.hw_module.specs.Cycle.{Held, held_at, next_held, next_reg, next_cells, driven_value}
use Rattle.hw_pool.specs.Nodes.{IsPool}
use Rattle.hw_reach.proofs.Solves.{wire_solves}
use Rattle.service_reg.specs.declared.service.Service.{Service}
use Rattle.service_reg.specs.declared.service.Service.TheVariants.{Fetch}
use Rattle.plug_build.specs.World.{World, part_in}
use Rattle.plug_build.specs.Fits.{WorldFits}
use Rattle.plug_part.specs.Owned.{is_owner, is_own_input, is_predict_input, offers}
use Rattle.plug_part.specs.Part.{PartWire, PartReg, PartArray, TreeWrite}
use Rattle.plug_part.specs.Of.{tree_option, write_trees, part_of}
use Rattle.plug_part.specs.Runs.{next_value, IsRun}
use Rattle.service_ports.proofs.Offers.{none_some}
use Rattle.plug_build.proofs.Offers.{predict_input_is}
use Rattle.plug_part.proofs.Rows.{owner_is}
use Rattle.plug_build.proofs.Frame.{some_eq}
use Rattle.plug_build.specs.Run.{run_of}

through : {A : Type 0} (b : Bool) (x y : A) → cond b (Some x) None ≡ Some y → (b ≡ true) × (x ≡ y)
through true x y e = (refl, some_eq e)
through false x y e = absurd (none_some None y refl e)

seen : (input : Bool) (o : Option Tree) (t : Tree) → cond input None o ≡ Some t → o ≡ Some t
seen true o t e = absurd (none_some None t refl e)
seen false o t e = e

-- the value of a driver is that of its tree
driver-value : (env : Env) (nodes : List Node) (o : Option Net) (t : Tree) → tree_option nodes o ≡ Some t → driven_value env nodes o ≡ value env t
driver-value env nodes None t e = absurd (none_some None t refl e)
driver-value env nodes (Some net) t e = ap (value env) (some_eq e)

module _ (takes : Service → Bool) (entry : ℕ) (w : World) (fits : WorldFits w) (is_pool : IsPool w.pool.nodes) (s : Held) (ins : ℕ → ℕ → ℕ) where
  there-wire : (k : ℕ) → (wire_at w.design.wires k).owner ≡ Entry entry → k < length w.design.wires
  there-wire k own = elim (cases_lt k (length w.design.wires)) [
    | inl l ↦ l
    | inr past ↦ absurd (let n : Pipe ≡ Entry entry = sym (ap (λ (row : WireRow). row.owner) (get_or_past w.design.wires k _ past)) ∙ own in cc)
  ]

  wire-value : (k c : ℕ) (t : Tree) → k < length w.design.wires → tree_option w.pool.nodes (wire_at w.design.wires k).driver ≡ Some t
      → (run_of w.design w.pool.nodes s ins c).wires k ≡ value (run_of w.design w.pool.nodes s ins c) t
  wire-value k c t l e = wire_solves w.design w.pool is_pool fits.drivers (held_at w.design w.pool.nodes s ins c) (ins c) k l ∙ driver-value _ w.pool.nodes (wire_at w.design.wires k).driver t e

  reg-value : (r c : ℕ) (reset : Option ℕ) (v : ℕ) → next_reg w.design w.pool.nodes (held_at w.design w.pool.nodes s ins c) (ins c) reset v ≡ next_value (run_of w.design w.pool.nodes s ins c) reset v
  reg-value r c None v = refl
  reg-value r c (Some start) v = refl

  cells-value : (c : ℕ) (o : Option ArrayWrite) (t : TreeWrite) (old : List ℕ) → write_trees w.pool.nodes o ≡ Some t
      → next_cells w.design w.pool.nodes (held_at w.design w.pool.nodes s ins c) (ins c) o old
      ≡ cond (eqb (value (run_of w.design w.pool.nodes s ins c) t.enable) 1) (set old (value (run_of w.design w.pool.nodes s ins c) t.addr) (value (run_of w.design w.pool.nodes s ins c) t.value)) old
  cells-value c None t old e = absurd (none_some None t refl e)
  cells-value c (Some a) t old e =
      let env = run_of w.design w.pool.nodes s ins c in
      ap (λ (u : TreeWrite). cond (eqb (value env u.enable) 1) (set old (value env u.addr) (value env u.value)) old) (some_eq e)

  pub part_run : IsRun (part_in takes entry w) (run_of w.design w.pool.nodes s ins)
  unfolding part_of next_held held_at
  part_run = record {
    wires = λ k row t is e c.
        let h = through (is_owner (wire_at w.design.wires k).owner entry) _ row is in
        wire-value k c t (there-wire k (owner_is _ entry h.0)) (seen (is_own_input w.reg entry k) _ t (ap (λ (p : PartWire). p.driver) h.1 ∙ e));
    drives = λ k t is c. elim (cases_Bool (offers w.reg entry Fetch && is_predict_input w.reg k)) [
      | inr miss ↦ absurd (none_some None t refl (sym (ap (λ (b : Bool). cond b (tree_option w.pool.nodes (wire_at w.design.wires k).driver) None) miss) ∙ is))
      | inl here ↦
          let y = predict_input_is w.design w.pool w.reg fits.offers k (and_parts (offers w.reg entry Fetch) (is_predict_input w.reg k) here).1 in
          wire-value k c t y.1 (sym (ap (λ (b : Bool). cond b (tree_option w.pool.nodes (wire_at w.design.wires k).driver) None) here) ∙ is)
    ];
    regs = λ r row t is e c.
        let h = through (is_owner (reg_at w.design.regs r).owner entry) _ row is in
        let driven = driver-value (run_of w.design w.pool.nodes s ins c) w.pool.nodes (reg_at w.design.regs r).next t (ap (λ (p : PartReg). p.next) h.1 ∙ e) in
        reg-value r c (reg_at w.design.regs r).reset _ ∙ (λ i. next_value (run_of w.design w.pool.nodes s ins c) (h.1 i).reset (driven i));
    arrays = λ a row t is e c.
        let h = through (is_owner (array_at w.design.arrays a).owner entry) _ row is in
        cells-value c (array_at w.design.arrays a).write t ((held_at w.design w.pool.nodes s ins c).cells a) (ap (λ (p : PartArray). p.write) h.1 ∙ e);
  }
