-- What the part of an entry has is the module's.
use Rattle.std.proofs.Common.{◌≡◌, ◌∙◌, ℕ, ◌^◌, ◌<◌, Bool, true, false, cond, List, length, All, refl, ap, sym, subst, Option, None, Some, inl, inr}
use Rattle.std.proofs.lemmas.Bool.{cases_lt}
use Rattle.std.proofs.lemmas.List.{get_or_past}
use Rattle.hw_pool.specs.declared.node.Node.{Node}
use Rattle.hw_pool.specs.Trees.{Tree, tree_of}
use Rattle.hw_expr.specs.declared.net.Net.{Net}
use Rattle.hw_module.specs.declared.rows.Owner.TheVariants.{Pipe, Entry}
use Rattle.hw_module.specs.declared.rows.RegRow.{RegRow}
use Rattle.hw_module.specs.declared.rows.ArrayRow.{ArrayRow}
use Rattle.hw_module.specs.Rows.{reg_at, array_at, out_at}
use Rattle.service_reg.specs.declared.service.Service.{Service}
use Rattle.plug_build.specs.World.{World, part_in}
use Rattle.plug_part.specs.Owned.{is_owner, is_out_of}
use Rattle.plug_part.specs.Part.{PartReg, PartArray}
use Rattle.plug_part.specs.Of.{tree_option, part_of}
use Rattle.service_ports.proofs.Offers.{none_some}
use Rattle.plug_part.proofs.Rows.{owner_is}
use Rattle.plug_build.proofs.Frame.{some_eq}
use Rattle.hw_module.specs.Cycle.{Held, IsHeld}
use Rattle.plug_part.specs.Part.{Part}

pub through : {A : Type 0} (b : Bool) (o : Option A) (y : A) → cond b o None ≡ Some y → (b ≡ true) × (o ≡ Some y)
through true o y e = (refl, e)
through false o y e = absurd (none_some None y refl e)

pub net_of : (nodes : List Node) (o : Option Net) (t : Tree) → tree_option nodes o ≡ Some t → (net : Net) × (o ≡ Some net) × (tree_of nodes net.id.0 ≡ t)
net_of nodes None t e = absurd (none_some None t refl e)
net_of nodes (Some net) t e = (net, refl, some_eq e)

-- what a part has is the module's, within its widths
pub record Holds (w : World) (p : Part) : Type 0 where
  pub outs : (q : ℕ) (t : Tree) → p.outs q ≡ Some t → (net : Net) × (out_at w.design.outs q ≡ Some net) × (tree_of w.pool.nodes net.id.0 ≡ t)
  pub regs_fit : (s : Held) → IsHeld w.design s → (r : ℕ) (row : PartReg) → p.regs r ≡ Some row → s.regs r < 2 ^ row.width
  pub cells_many : (s : Held) → IsHeld w.design s → (a : ℕ) (row : PartArray) → p.arrays a ≡ Some row → length (s.cells a) ≡ 2 ^ row.bits
  pub cells_fit : (s : Held) → IsHeld w.design s → (a : ℕ) (row : PartArray) → p.arrays a ≡ Some row → All (λ c. c < 2 ^ row.width) (s.cells a)

module _ (takes : Service → Bool) (entry : ℕ) (w : World) where
  pub there-reg : (k : ℕ) → (reg_at w.design.regs k).owner ≡ Entry entry → k < length w.design.regs
  there-reg k own = elim (cases_lt k (length w.design.regs)) [
    | inl l ↦ l
    | inr past ↦ absurd (let n : Pipe ≡ Entry entry = sym (ap (λ (row : RegRow). row.owner) (get_or_past w.design.regs k _ past)) ∙ own in cc)
  ]

  pub there-array : (k : ℕ) → (array_at w.design.arrays k).owner ≡ Entry entry → k < length w.design.arrays
  there-array k own = elim (cases_lt k (length w.design.arrays)) [
    | inl l ↦ l
    | inr past ↦ absurd (let n : Pipe ≡ Entry entry = sym (ap (λ (row : ArrayRow). row.owner) (get_or_past w.design.arrays k _ past)) ∙ own in cc)
  ]

  pub holds : Holds w (part_in takes entry w)
  unfolding part_of
  holds = record {
    outs = λ q t is. net_of w.pool.nodes (out_at w.design.outs q) t (through (is_out_of w.reg entry q) _ t is).1;
    regs_fit = λ s held r row is.
        let h = through (is_owner (reg_at w.design.regs r).owner entry) _ row is in
        subst (λ (p : PartReg). s.regs r < 2 ^ p.width) (some_eq h.1) (held.regs r (there-reg r (owner_is _ entry h.0)));
    cells_many = λ s held a row is.
        let h = through (is_owner (array_at w.design.arrays a).owner entry) _ row is in
        subst (λ (p : PartArray). length (s.cells a) ≡ 2 ^ p.bits) (some_eq h.1) (held.counts a (there-array a (owner_is _ entry h.0)));
    cells_fit = λ s held a row is.
        let h = through (is_owner (array_at w.design.arrays a).owner entry) _ row is in
        subst (λ (p : PartArray). All (λ c. c < 2 ^ p.width) (s.cells a)) (some_eq h.1) (held.cells a (there-array a (owner_is _ entry h.0)));
  }
