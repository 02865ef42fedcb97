-- The rows of an entry in its part, and what the part tells of them.
use Rattle.std.proofs.Common.{◌≡◌, ◌∙◌, ℕ, map, ap, sym, refl, Bool, true, false, cond, Option, None, Some}
use Rattle.hw_pool.specs.Frame.{Adds}
use Rattle.hw_module.specs.declared.rows.Owner.TheVariants.{Entry}
use Rattle.hw_module.specs.Rows.{wire_at, reg_at, array_at}
use Rattle.service_reg.specs.declared.service.Service.{Service}
use Rattle.service_ports.specs.Ports.{Ports, output_level, output_widths}
use Rattle.service_ports.specs.Registry.{offer_of}
use Rattle.service_ports.proofs.Offers.{none_some}
use Rattle.plug_part.specs.Part.{PartWire, PartReg, PartArray, PortTrees}
use Rattle.plug_part.specs.Owned.{is_owner, is_own_input}
use Rattle.plug_part.specs.Of.{part_of, net_tree, tree_option, write_trees, port_trees}
use Rattle.plug_part.proofs.Rows.{owner_is, owned}
use Rattle.plug_build.specs.World.{World, part_in}
use Rattle.plug_build.specs.Fits.{WorldFits}
use Rattle.plug_build.proofs.Frame.{ports_kept}
use Rattle.plug_build.proofs.Offers.{offer_fits}

pub some_eq : {A : Type 0} {a b : A} → Some a ≡ Some b → a ≡ b
some_eq e = cc

-- what a test lets through
through : {A : Type 0} (b : Bool) (x y : A) → cond b (Some x) None ≡ Some y → (b ≡ true) × (x ≡ y)
through true x y e = (refl, some_eq e)
through false x y e = absurd (none_some None y refl e)

module _ (takes : Service → Bool) (entry : ℕ) (w : World) where
  pub part_offer : (s : Service) (o : Option Ports) → offer_of w.reg entry s ≡ o → (part_in takes entry w).offers s ≡ port_trees w.pool.nodes o
  unfolding part_of
  part_offer s o e = ap (port_trees w.pool.nodes) e

  pub part_wire : (k : ℕ) → (wire_at w.design.wires k).owner ≡ Entry entry → (part_in takes entry w).wires k
      ≡ Some (record { width = (wire_at w.design.wires k).width; level = (wire_at w.design.wires k).level; driver = cond (is_own_input w.reg entry k) None (tree_option w.pool.nodes (wire_at w.design.wires k).driver) })
  unfolding part_of
  part_wire k own = owned (wire_at w.design.wires k).owner entry _ own

  pub part_reg : (k : ℕ) → (reg_at w.design.regs k).owner ≡ Entry entry → (part_in takes entry w).regs k
      ≡ Some (record { width = (reg_at w.design.regs k).width; reset = (reg_at w.design.regs k).reset; next = tree_option w.pool.nodes (reg_at w.design.regs k).next })
  unfolding part_of
  part_reg k own = owned (reg_at w.design.regs k).owner entry _ own

  pub part_array : (k : ℕ) → (array_at w.design.arrays k).owner ≡ Entry entry → (part_in takes entry w).arrays k
      ≡ Some (record { width = (array_at w.design.arrays k).width; bits = (array_at w.design.arrays k).bits; write = write_trees w.pool.nodes (array_at w.design.arrays k).write })
  unfolding part_of
  part_array k own = owned (array_at w.design.arrays k).owner entry _ own

  -- a row of the part is a row of the entry
  pub wire_in : (k : ℕ) (row : PartWire) → (part_in takes entry w).wires k ≡ Some row → (wire_at w.design.wires k).owner ≡ Entry entry
  unfolding part_of
  wire_in k row e = owner_is _ entry (through (is_owner (wire_at w.design.wires k).owner entry) _ row e).0

  pub reg_in : (k : ℕ) (row : PartReg) → (part_in takes entry w).regs k ≡ Some row
      → ((reg_at w.design.regs k).owner ≡ Entry entry) × (record { width = (reg_at w.design.regs k).width; reset = (reg_at w.design.regs k).reset; next = tree_option w.pool.nodes (reg_at w.design.regs k).next } ≡ row)
  unfolding part_of
  reg_in k row e =
      let h = through (is_owner (reg_at w.design.regs k).owner entry) _ row e in
      (owner_is _ entry h.0, h.1)

  pub array_in : (k : ℕ) (row : PartArray) → (part_in takes entry w).arrays k ≡ Some row
      → ((array_at w.design.arrays k).owner ≡ Entry entry) × (record { width = (array_at w.design.arrays k).width; bits = (array_at w.design.arrays k).bits; write = write_trees w.pool.nodes (array_at w.design.arrays k).write } ≡ row)
  unfolding part_of
  array_in k row e =
      let h = through (is_owner (array_at w.design.arrays k).owner entry) _ row e in
      (owner_is _ entry h.0, h.1)

  -- an offer of the part is one of the entry
  pub offer_in : (s : Service) (t : PortTrees) → (part_in takes entry w).offers s ≡ Some t → (p : Ports) × (offer_of w.reg entry s ≡ Some p) × (t ≡ record { inputs = p.inputs; outputs = map (net_tree w.pool.nodes) p.outputs })
  unfolding part_of
  offer_in s t e = pick (offer_of w.reg entry s) refl e
    where
      pick : (o : Option Ports) → offer_of w.reg entry s ≡ o → port_trees w.pool.nodes o ≡ Some t → (p : Ports) × (offer_of w.reg entry s ≡ Some p) × (t ≡ record { inputs = p.inputs; outputs = map (net_tree w.pool.nodes) p.outputs })
      pick None is h = absurd (none_some None t refl h)
      pick (Some p) is h = (p, is, sym (some_eq h))

-- what an entry offers stays in its part while nodes are added
pub offers_stay : (takes : Service → Bool) (entry n : ℕ) (old new : World) → WorldFits old → Adds old.pool new.pool n → new.reg ≡ old.reg → (s : Service)
    → (part_in takes entry new).offers s ≡ (part_in takes entry old).offers s
unfolding part_of
offers_stay takes entry n old new fits adds same s =
    ap (λ r. port_trees new.pool.nodes (offer_of r entry s)) same
    ∙ ports_kept old.pool new.pool n adds old.design (output_level s) (output_widths s) (offer_of old.reg entry s) (λ p e. (offer_fits old.design old.pool old.reg fits.offers entry s p e).outputs)
