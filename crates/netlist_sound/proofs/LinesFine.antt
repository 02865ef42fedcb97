-- The lines of a checked module are fine.
use Rattle.std.proofs.Common.{◌≡◌, ℕ, zero, suc, ◌+◌, ◌<◌, ◌≤◌, Bool, true, false, not, eqb, List, [], length, get_or, Option, Some, None, refl, ap, sym, ◌∙◌, arith}
use Rattle.std.specs.Prelude.{codes}
use Rattle.std.proofs.lemmas.Bool.Decides.{nat_tests}
use Rattle.core_words.specs.Names.{same_name}
use Rattle.core_ports.specs.Ports.{is_input, name_of}
use Rattle.core_ports.specs.Ports as ports
use Rattle.verilog_netlist.specs.Netlist.{Line}
use Rattle.hw_pool.specs.declared.node.Node.{Node}
use Rattle.hw_pool.specs.declared.node.Op.{Op}
use Rattle.hw_pool.specs.declared.node.Op.TheVariants as op
use Rattle.hw_pool.specs.Nodes.{PoolValue, node_at, EachChild, AreChildren, IsPool}
use Rattle.hw_pool.specs.Trees.{Tree, width_of, of_op, unfold_to, tree_of}
use Rattle.hw_pool.specs.Meaning.{Fits}
use Rattle.hw_expr.specs.declared.net.Net.{Net as Driver}
use Rattle.hw_module.specs.declared.rows.ArrayWrite.{ArrayWrite}
use Rattle.hw_module.specs.Ports.{port_at}
use Rattle.hw_module.specs.Rows.{ModuleValue, IsModule, wire_at, reg_at, array_at, out_at}
use Rattle.hw_module.specs.Fits.{InputFits, WireFits, RegFits, ReadFits, TreeFits, FitsIn}
use Rattle.hw_module.specs.Checked.{DriversFit}
use Rattle.hw_module.specs.Reached.{Drives, Reached, AreMarks, ReachedFits, top_of}
use Rattle.hw_module.specs.Reached.Drives.{OfWire, OfReg, OfEnable, OfAddr, OfValue, OfPort}
use Rattle.module_netlist.specs.Names.{Thing, name_in, node_name, wire_name, reg_name, array_name, port_name, ThingIn, same_thing}
use Rattle.module_netlist.specs.Names.Thing.{NodeAt, WireAt, RegAt, ArrayAt, PortAt}
use Rattle.module_netlist.specs.Lines.{assigned, clocked, written, line_if, node_value, wire_line, reg_line, array_line, node_line, drive_line, next_line, write_line, out_line, from_outs, from_writes, from_nexts, from_drives, from_nodes, from_arrays, from_regs, module_lines}
use Rattle.netlist_sound.proofs.Fine.{Info, Has, Reads, Selects, Indexes, NetFine, ValueFine, LineFine, Each}
use Rattle.netlist_sound.proofs.Infos.{thing_info, port_wide, IsThere, Differ}
use Rattle.netlist_sound.proofs.Spreads.{Put, each}

-- a node's tree is as wide as the node
op_width : (below : ℕ → Tree) (width : ℕ) (o : Op) → width_of (of_op below width o) ≡ width
op_width below width (op.Lit v) = refl
op_width below width (op.Input p) = refl
op_width below width (op.Wire w) = refl
op_width below width (op.Reg r) = refl
op_width below width (op.Not a) = refl
op_width below width (op.And a b) = refl
op_width below width (op.Or a b) = refl
op_width below width (op.Xor a b) = refl
op_width below width (op.Add a b) = refl
op_width below width (op.Sub a b) = refl
op_width below width (op.Eq a b) = refl
op_width below width (op.Ltu a b) = refl
op_width below width (op.Mux c a b) = refl
op_width below width (op.Cat a b) = refl
op_width below width (op.Slice a high low) = refl
op_width below width (op.Read x a) = refl

pub unfold_width : (depth : ℕ) (nodes : List Node) (c : ℕ) → c < depth → width_of (unfold_to depth nodes c) ≡ (node_at nodes c).width
unfolding unfold_to
unfold_width zero nodes c h = absurd (omega arith)
unfold_width (suc depth) nodes c h = op_width (unfold_to depth nodes) (node_at nodes c).width (node_at nodes c).op

port_back : (width : ℕ) → 1 ≤ width → (b : Bool) → eqb width 1 ≡ b → port_wide b width ≡ width
port_back width h true e = let q : width ≡ 1 = grind (arith, nat_tests) in sym q
port_back width h false e = omega arith

module _ (m : ModuleValue) (pool : PoolValue) (marks : List Bool) (differ : Differ m pool.nodes) (env : List ℕ → Option Info)
    (declared : (a : Thing) → IsThere m pool.nodes marks a → env (name_in m a) ≡ Some (thing_info m pool.nodes a)) where
  not_clock : (a : Thing) → ThingIn m pool.nodes a → same_thing a (PortAt 0) ≡ false → same_name (name_in m a) (codes "clk") ≡ false
  unfolding port_at name_of
  not_clock a h e = differ a (PortAt 0) h (omega arith) ∙ e

  node_has : (k : ℕ) → k < length pool.nodes → get_or marks k false ≡ true → (wide : ℕ) → (node_at pool.nodes k).width ≡ wide → Reads env (node_name k) wide
  node_has k h mark wide e = record {
    clock = not_clock (NodeAt k) h refl;
    has = record { info = thing_info m pool.nodes (NodeAt k); is = declared (NodeAt k) (h, mark); passes = refl; width = e };
  }

  node_selects : (k : ℕ) → k < length pool.nodes → get_or marks k false ≡ true → (wide : ℕ) → (node_at pool.nodes k).width ≡ wide → Selects env (node_name k) wide
  node_selects k h mark wide e = record {
    clock = not_clock (NodeAt k) h refl;
    has = record { info = thing_info m pool.nodes (NodeAt k); is = declared (NodeAt k) (h, mark); passes = refl; width = e };
  }

  input_reads : (q wide : ℕ) → InputFits wide q → 1 ≤ wide → Reads env (port_name q) wide
  input_reads q wide h least =
      let l : 1 ≤ q = h.readable.least in
      let e : ports.width_of (port_at q) ≡ wide = h.width in
      record {
        clock = not_clock (PortAt q) h.readable.most (grind (arith, nat_tests));
        has = record {
          info = thing_info m pool.nodes (PortAt q);
          is = declared (PortAt q) h.readable.most;
          passes = refl;
          width = port_back (ports.width_of (port_at q)) (omega arith) (eqb (ports.width_of (port_at q)) 1) refl ∙ e;
        };
      }

  wire_reads : (w most wide : ℕ) → WireFits m most wide w → Reads env (wire_name m w) wide
  wire_reads w most wide h = record {
    clock = not_clock (WireAt w) h.there refl;
    has = record { info = thing_info m pool.nodes (WireAt w); is = declared (WireAt w) h.there; passes = refl; width = h.width };
  }

  reg_reads : (r wide : ℕ) → RegFits m wide r → Reads env (reg_name m r) wide
  reg_reads r wide h = record {
    clock = not_clock (RegAt r) h.there refl;
    has = record { info = thing_info m pool.nodes (RegAt r); is = declared (RegAt r) h.there; passes = refl; width = h.width };
  }

  array_indexes : (a wide bits : ℕ) → ReadFits m wide a bits → Indexes env (array_name m a) wide bits
  array_indexes a wide bits h = record {
    clock = not_clock (ArrayAt a) h.there refl;
    has = record { info = thing_info m pool.nodes (ArrayAt a); is = declared (ArrayAt a) h.there; passes = refl; width = h.width };
    index = h.bits;
  }

  -- an operator over marked nodes before number k
  module _ (k level : ℕ) (below : ℕ → Tree) (live : k < length pool.nodes) (wide : (c : ℕ) → c < k → width_of (below c) ≡ (node_at pool.nodes c).width) where
    child : (c : ℕ) → c < k → get_or marks c false ≡ true → (width : ℕ) → width_of (below c) ≡ width → Reads env (node_name c) width
    child c h mark width e = node_has c (omega arith) mark width (sym (wide c h) ∙ e)

    op_fine : (top width : ℕ) (o : Op) → AreChildren pool.nodes k level o → EachChild (λ c. get_or marks c false ≡ true) o → Fits (of_op below width o) → TreeFits m top (of_op below width o)
        → ValueFine env width (node_value m width o)
    op_fine top width (op.Lit v) c g f t = refl
    op_fine top width (op.Input q) c g f t = input_reads q width t f.0
    op_fine top width (op.Wire w) c g f t = wire_reads w top width t
    op_fine top width (op.Reg r) c g f t = reg_reads r width t
    op_fine top width (op.Not a) c g f t = child a.0 c.0 g width f.1
    op_fine top width (op.And a b) c g f t = record { from = width; left = child a.0 c.0.0 g.0 width f.1; right = child b.0 c.1.0 g.1 width f.2; width = refl }
    op_fine top width (op.Or a b) c g f t = record { from = width; left = child a.0 c.0.0 g.0 width f.1; right = child b.0 c.1.0 g.1 width f.2; width = refl }
    op_fine top width (op.Xor a b) c g f t = record { from = width; left = child a.0 c.0.0 g.0 width f.1; right = child b.0 c.1.0 g.1 width f.2; width = refl }
    op_fine top width (op.Add a b) c g f t = record { from = width; left = child a.0 c.0.0 g.0 width f.1; right = child b.0 c.1.0 g.1 width f.2; width = refl }
    op_fine top width (op.Sub a b) c g f t = record { from = width; left = child a.0 c.0.0 g.0 width f.1; right = child b.0 c.1.0 g.1 width f.2; width = refl }
    op_fine top width (op.Eq a b) c g f t =
        record { from = width_of (below b.0); left = child a.0 c.0.0 g.0 _ f.1; right = child b.0 c.1.0 g.1 _ refl; width = sym f.0 }
    op_fine top width (op.Ltu a b) c g f t =
        record { from = width_of (below b.0); left = child a.0 c.0.0 g.0 _ f.1; right = child b.0 c.1.0 g.1 _ refl; width = sym f.0 }
    op_fine top width (op.Mux x a b) c g f t =
        record { test = child x.0 c.0.0 g.0 1 f.1; first = child a.0 c.1.0 g.1 width f.2; second = child b.0 c.2.0 g.2 width f.3 }
    op_fine top width (op.Cat a b) c g f t = record {
      high = width_of (below a.0);
      low = width_of (below b.0);
      first = child a.0 c.0.0 g.0 _ refl;
      second = child b.0 c.1.0 g.1 _ refl;
      width = f.1;
      most = f.0.1;
    }
    op_fine top width (op.Slice a high low) c g f t = record {
      from = width_of (below a.0);
      selects = node_selects a.0 (let l : a.0 < k = c.0 in omega arith) g _ (sym (wide a.0 c.0));
      order = f.0;
      within = f.1;
      width = let e : width + low ≡ high + 1 = f.2 in omega arith;
    }
    op_fine top width (op.Read x a) c g f t =
        record { bits = width_of (below a.0); indexes = array_indexes x width _ t.0; index = child a.0 c.0 g _ refl }

  put_if_marked : (b : Bool) (l : Line) → (b ≡ true → LineFine env l) → Put (LineFine env) (line_if b l)
  put_if_marked true l h = h refl
  put_if_marked false l h = tt

  module _ (is : IsModule m) (is_pool : IsPool pool.nodes) (are : AreMarks m pool.nodes marks) (fit : DriversFit m pool)
      (reach : (k : ℕ) → Reached m pool.nodes k → ReachedFits m pool.nodes k) where
    -- a node
    node_fine : (k : ℕ) → k < length pool.nodes → get_or marks k false ≡ true → NetFine env (node_name k) (node_value m (node_at pool.nodes k).width (node_at pool.nodes k).op)
    unfolding tree_of unfold_to
    node_fine k h mark =
        let r = reach k (are.only k mark) in
        record {
          wide = (node_at pool.nodes k).width;
          target = record { info = thing_info m pool.nodes (NodeAt k); is = declared (NodeAt k) (h, mark); passes = refl; width = refl };
          value = op_fine k (node_at pool.nodes k).level (unfold_to k pool.nodes) h (λ c l. unfold_width k pool.nodes c l) (top_of m.wires (tree_of pool.nodes k)) (node_at pool.nodes k).width (node_at pool.nodes k).op
              (is_pool.children k h) (are.children k mark) r.fits r.tree;
        }

    -- a driver
    source : (net : Driver) (wide : ℕ) → FitsIn m pool net → net.width ≡ wide → Drives m net.id.0 → Reads env (node_name net.id.0) wide
    source net wide f e d = node_has net.id.0 f.is.live (are.drivers net.id.0 d) wide (f.is.node_width ∙ e)

    drive_fine : (w : ℕ) → w < length m.wires → (o : Option Driver) → (wire_at m.wires w).driver ≡ o → Put (LineFine env) (assigned (wire_name m w) o)
    drive_fine w h None e = tt
    drive_fine w h (Some net) e =
        let d = fit.wires w net h e in
        record {
          wide = (wire_at m.wires w).width;
          target = record { info = thing_info m pool.nodes (WireAt w); is = declared (WireAt w) h; passes = refl; width = refl };
          source = source net (wire_at m.wires w).width d.fits d.width (OfWire w net h e refl);
        }

    reg_has : (r : ℕ) → r < length m.regs → Has env (reg_name m r) (λ i. i.register) (reg_at m.regs r).width
    reg_has r h = record { info = thing_info m pool.nodes (RegAt r); is = declared (RegAt r) h; passes = refl; width = refl }

    next_fine : (r : ℕ) → r < length m.regs → (start : Option ℕ) (o : Option Driver) → (reg_at m.regs r).next ≡ o → Put (LineFine env) (clocked (reg_name m r) (reg_at m.regs r).width start o)
    next_fine r h start None e = tt
    next_fine r h None (Some net) e =
        let d = fit.regs r net h e in
        record { wide = (reg_at m.regs r).width; target = reg_has r h; source = source net (reg_at m.regs r).width d.fits d.width (OfReg r net h e refl) }
    next_fine r h (Some start) (Some net) e =
        let d = fit.regs r net h e in
        record { target = reg_has r h; source = source net (reg_at m.regs r).width d.fits d.width (OfReg r net h e refl) }

    write_fine : (a : ℕ) → a < length m.arrays → (o : Option ArrayWrite) → (array_at m.arrays a).write ≡ o → Put (LineFine env) (written (array_name m a) o)
    write_fine a h None e = tt
    write_fine a h (Some w) e =
        let d = fit.arrays a w h e in
        record {
          wide = (array_at m.arrays a).width;
          bits = (array_at m.arrays a).bits;
          enable = source w.enable 1 d.enable d.bit (OfEnable a w h e refl);
          target = record { info = thing_info m pool.nodes (ArrayAt a); is = declared (ArrayAt a) h; passes = refl; width = refl };
          index_bits = refl;
          index = source w.addr (array_at m.arrays a).bits d.addr d.bits (OfAddr a w h e refl);
          source = source w.value (array_at m.arrays a).width d.value d.width (OfValue a w h e refl);
        }

    out_fine : (q : ℕ) → q < 30 → (o : Option Driver) → out_at m.outs q ≡ o → Put (LineFine env) (assigned (port_name q) o)
    out_fine q h None e = tt
    out_fine q h (Some net) e =
        let d = fit.outs q net h e in
        let l : 1 ≤ net.width = d.fits.is.least in
        let w : net.width ≡ ports.width_of (port_at q) = d.width in
        record {
          wide = net.width;
          target = record {
            info = thing_info m pool.nodes (PortAt q);
            is = declared (PortAt q) h;
            passes = ap not d.output;
            width = port_back (ports.width_of (port_at q)) (omega arith) (eqb (ports.width_of (port_at q)) 1) refl ∙ sym w;
          };
          source = source net net.width d.fits refl (OfPort q net h e refl);
        }

    pub lines_fine : Each (LineFine env) (module_lines m pool.nodes marks)
    lines_fine =
        each (LineFine env) (wire_line m) (from_regs m pool.nodes marks) (length m.wires) (λ i h. tt)
        (each (LineFine env) (reg_line m) (from_arrays m pool.nodes marks) (length m.regs) (λ i h. tt)
        (each (LineFine env) (array_line m) (from_nodes m pool.nodes marks) (length m.arrays) (λ i h. tt)
        (each (LineFine env) (node_line m pool.nodes marks) (from_drives m pool.nodes marks) (length pool.nodes) (λ k h. put_if_marked (get_or marks k false) _ (node_fine k h))
        (each (LineFine env) (drive_line m) (from_nexts m pool.nodes marks) (length m.wires) (λ w h. drive_fine w h (wire_at m.wires w).driver refl)
        (each (LineFine env) (next_line m) (from_writes m pool.nodes marks) (length m.regs) (λ r h. next_fine r h (reg_at m.regs r).reset (reg_at m.regs r).next refl)
        (each (LineFine env) (write_line m) (from_outs m pool.nodes marks) (length m.arrays) (λ a h. write_fine a h (array_at m.arrays a).write refl)
        (each (LineFine env) (out_line m) [] 30 (λ q h. out_fine q h (out_at m.outs q) refl)
        tt)))))))
