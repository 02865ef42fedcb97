-- The netlist of a checked module can be written, and has no more lines than the module has things.
use Rattle.std.proofs.Common.{◌≡◌, ℕ, zero, suc, ◌+◌, ◌<◌, ◌≤◌, Bool, true, false, List, [], ◌∷◌, length, get_or, Option, Some, None, refl, ap, subst, ◌∙◌, arith}
use Rattle.core_ports.specs.Ports.{CorePort, all_ports, width_of as port_width_of}
use Rattle.core_ports.specs.Ports.CorePort.{clk}
use Rattle.hw_pool.specs.declared.node.Node.{Node}
use Rattle.hw_pool.specs.declared.node.Op.{Op}
use Rattle.hw_pool.specs.declared.node.Op.TheVariants as op
use Rattle.hw_pool.specs.Nodes.{PoolValue, node_at, EachChild, IsPool}
use Rattle.hw_pool.specs.Trees.{Tree, of_op, tree_of, width_of}
use Rattle.hw_pool.specs.Meaning.{Fits}
use Rattle.hw_pool.proofs.Trees.{tree-here, each_child}
use Rattle.hw_expr.specs.declared.net.Net.{Net}
use Rattle.hw_expr.proofs.Nets.{width-op}
use Rattle.hw_module.specs.declared.rows.ArrayWrite.{ArrayWrite}
use Rattle.hw_module.specs.Rows.{ModuleValue, wire_at, reg_at, array_at, out_at, IsReset, IsModule}
use Rattle.hw_module.specs.Fits.{TreeFits}
use Rattle.hw_module.specs.Reached.{AreMarks, ReachedFits, top_of}
use Rattle.verilog_mean.specs.Look.{put}
use Rattle.verilog_netlist.specs.Netlist.{Line}
use Rattle.verilog_netlist.specs.Writable.{IsFree, IsWidth, ValueIsWritable, LineIsWritable, LinesAreWritable, PortsAreWritable, IsWritable}
use Rattle.module_netlist.specs.Names.{wire_name, reg_name, array_name, port_name}
use Rattle.module_netlist.specs.Lines.{spread, assigned, clocked, written, line_if, node_value, wire_line, reg_line, array_line, node_line, drive_line, next_line, write_line, out_line, from_outs, from_writes, from_nexts, from_drives, from_nodes, from_arrays, from_regs, module_lines, ports_from, netlist_of}
use Rattle.module_netlist.specs.Written.{out_count, thing_count, IsWritten}
use Rattle.hw_reach.proofs.Reached.{reached_fits}
use Rattle.module_netlist.proofs.Free.{node_free, wire_free, reg_free, array_free, port_free, port_name_free, core_free}

-- ---- lists of lines

abbrev GivenIsWritable : Option Line → Type 0
GivenIsWritable None = Unit {0}
GivenIsWritable (Some l) = LineIsWritable l

put_writable : (o : Option Line) (rest : List Line) → GivenIsWritable o → LinesAreWritable rest → LinesAreWritable (put o rest)
put_writable None rest h k = k
put_writable (Some l) rest h k = (h, k)

spread_from : (f : ℕ → Option Line) (rest : List Line) (n k : ℕ) → ((i : ℕ) → k ≤ i → i < k + n → GivenIsWritable (f i)) → LinesAreWritable rest → LinesAreWritable (spread f k n rest)
spread_from f rest zero k all h = h
spread_from f rest (suc n) k all h =
    put_writable (f k) (spread f (suc k) n rest) (all k (omega arith) (omega arith)) (spread_from f rest n (suc k) (λ i a b. all i (omega arith) (omega arith)) h)

spread_writable : (f : ℕ → Option Line) (rest : List Line) (n : ℕ) → ((i : ℕ) → i < n → GivenIsWritable (f i)) → LinesAreWritable rest → LinesAreWritable (spread f 0 n rest)
spread_writable f rest n all h = spread_from f rest n 0 (λ i a b. all i (omega arith)) h

-- ---- how many lines there are

length_put : (o : Option Line) (rest : List Line) → length (put o rest) ≤ suc (length rest)
length_put None rest = omega arith
length_put (Some l) rest = omega arith

length_spread : (f : ℕ → Option Line) (rest : List Line) (n k : ℕ) → length (spread f k n rest) ≤ n + length rest
length_spread f rest zero k = omega arith
length_spread f rest (suc n) k = omega (arith, length_put (f k) (spread f (suc k) n rest), length_spread f rest n (suc k))

length_outs : (f : ℕ → Option Line) (rest : List Line) (outs : List (Option Net)) (n k : ℕ) → ((i : ℕ) → i < n → out_at outs i ≡ None → f (k + i) ≡ None)
    → length (spread f k n rest) ≤ out_count outs + length rest
length_outs f rest outs zero k none = omega arith
length_outs f rest [] (suc n) k none =
    let e : f k ≡ None = subst (λ j. f j ≡ None) (omega arith) (none 0 (omega arith) refl) in
    let p : length (put (f k) (spread f (suc k) n rest)) ≡ length (spread f (suc k) n rest) = ap (λ o. length (put o (spread f (suc k) n rest))) e in
    let r : length (spread f (suc k) n rest) ≤ 0 + length rest = length_outs f rest [] n (suc k) (λ i l h. subst (λ j. f j ≡ None) (omega arith) (none (suc i) (omega arith) refl)) in
    omega arith
length_outs f rest (None ∷ outs) (suc n) k none =
    let e : f k ≡ None = subst (λ j. f j ≡ None) (omega arith) (none 0 (omega arith) refl) in
    let p : length (put (f k) (spread f (suc k) n rest)) ≡ length (spread f (suc k) n rest) = ap (λ o. length (put o (spread f (suc k) n rest))) e in
    let r : length (spread f (suc k) n rest) ≤ out_count outs + length rest = length_outs f rest outs n (suc k) (λ i l h. subst (λ j. f j ≡ None) (omega arith) (none (suc i) (omega arith) h)) in
    omega arith
length_outs f rest (Some net ∷ outs) (suc n) k none =
    let p = length_put (f k) (spread f (suc k) n rest) in
    let r : length (spread f (suc k) n rest) ≤ out_count outs + length rest = length_outs f rest outs n (suc k) (λ i l h. subst (λ j. f j ≡ None) (omega arith) (none (suc i) (omega arith) h)) in
    omega arith

assigned_none : (x : List ℕ) (o : Option Net) → o ≡ None → assigned x o ≡ None
assigned_none x o e = ap (assigned x) e

module _ (m : ModuleValue) (nodes : List Node) (marks : List Bool) where
  pub lines_few : length (module_lines m nodes marks) ≤ length nodes + (length m.wires + length m.regs + length m.arrays) + (length m.wires + length m.regs + length m.arrays) + out_count m.outs
  lines_few =
      let outs : length (from_outs m nodes marks) ≤ out_count m.outs + 0 = length_outs (out_line m) [] m.outs 30 0 (λ i l e. subst (λ j. out_line m j ≡ None) (omega arith) (assigned_none (port_name i) (out_at m.outs i) e)) in
      let writes = length_spread (write_line m) (from_outs m nodes marks) (length m.arrays) 0 in
      let nexts = length_spread (next_line m) (from_writes m nodes marks) (length m.regs) 0 in
      let drives = length_spread (drive_line m) (from_nexts m nodes marks) (length m.wires) 0 in
      let marked = length_spread (node_line m nodes marks) (from_drives m nodes marks) (length nodes) 0 in
      let arrays = length_spread (array_line m) (from_nodes m nodes marks) (length m.arrays) 0 in
      let regs = length_spread (reg_line m) (from_arrays m nodes marks) (length m.regs) 0 in
      let wires = length_spread (wire_line m) (from_regs m nodes marks) (length m.wires) 0 in
      omega arith

-- ---- ports

port_width : (q : CorePort) → IsWidth (port_width_of q)
port_width clk = (omega arith, omega arith)
port_width q = (omega arith, omega arith)

ports_writable : (qs : List CorePort) → PortsAreWritable (ports_from qs)
ports_writable [] = tt
ports_writable (q ∷ qs) = (port_width q, port_name_free q, ports_writable qs)

-- ---- lines

line_if_writable : (b : Bool) (l : Line) → (b ≡ true → LineIsWritable l) → GivenIsWritable (line_if b l)
line_if_writable true l h = h refl
line_if_writable false l h = tt

assigned_writable : (x : List ℕ) (o : Option Net) → IsFree x → ((net : Net) → o ≡ Some net → net.id.0 < 65535) → GivenIsWritable (assigned x o)
assigned_writable x None h live = tt
assigned_writable x (Some net) h live = (h, node_free net.id.0 (live net refl))

clocked_writable : (x : List ℕ) (width : ℕ) (reset : Option ℕ) (o : Option Net) → IsFree x → IsWidth width → IsReset width reset → ((net : Net) → o ≡ Some net → net.id.0 < 65535) → GivenIsWritable (clocked x width reset o)
clocked_writable x width reset None h w r live = tt
clocked_writable x width None (Some net) h w r live = (h, node_free net.id.0 (live net refl))
clocked_writable x width (Some start) (Some net) h w r live = (h, w, r start refl, node_free net.id.0 (live net refl))

written_writable : (x : List ℕ) (o : Option ArrayWrite) → IsFree x → ((w : ArrayWrite) → o ≡ Some w → (w.enable.id.0 < 65535) × (w.addr.id.0 < 65535) × (w.value.id.0 < 65535)) → GivenIsWritable (written x o)
written_writable x None h live = tt
written_writable x (Some w) h live = let p = live w refl in (node_free w.enable.id.0 (p.0), h, node_free w.addr.id.0 (p.1), node_free w.value.id.0 (p.2))

module _ (m : ModuleValue) (is : IsModule m) (wires : length m.wires ≤ 65535) (regs : length m.regs ≤ 65535) (arrays : length m.arrays ≤ 65535) where
  -- children are numbers below the pool's most, of at most 64 bits
  value_writable : (below : ℕ → Tree) (top width : ℕ) (o : Op) → IsWidth width → EachChild (λ c. (c < 65535) × (width_of (below c) ≤ 64)) o → Fits (of_op below width o) → TreeFits m top (of_op below width o)
      → ValueIsWritable (node_value m width o)
  value_writable below top width (op.Lit v) w c f t = (w, f.1)
  value_writable below top width (op.Input p) w c f t = port_free p
  value_writable below top width (op.Wire x) w c f t = wire_free m is x wires t.there
  value_writable below top width (op.Reg r) w c f t = reg_free m is r regs t.there
  value_writable below top width (op.Not a) w c f t = node_free a.0 (c.0)
  value_writable below top width (op.And a b) w c f t = (node_free a.0 (c.0.0), node_free b.0 (c.1.0))
  value_writable below top width (op.Or a b) w c f t = (node_free a.0 (c.0.0), node_free b.0 (c.1.0))
  value_writable below top width (op.Xor a b) w c f t = (node_free a.0 (c.0.0), node_free b.0 (c.1.0))
  value_writable below top width (op.Add a b) w c f t = (node_free a.0 (c.0.0), node_free b.0 (c.1.0))
  value_writable below top width (op.Sub a b) w c f t = (node_free a.0 (c.0.0), node_free b.0 (c.1.0))
  value_writable below top width (op.Eq a b) w c f t = (node_free a.0 (c.0.0), node_free b.0 (c.1.0))
  value_writable below top width (op.Ltu a b) w c f t = (node_free a.0 (c.0.0), node_free b.0 (c.1.0))
  value_writable below top width (op.Mux s a b) w c f t = (node_free s.0 (c.0.0), node_free a.0 (c.1.0), node_free b.0 (c.2.0))
  value_writable below top width (op.Cat a b) w c f t = (node_free a.0 (c.0.0), node_free b.0 (c.1.0))
  value_writable below top width (op.Slice a high low) w c f t = (node_free a.0 (c.0), omega (arith, c.1, f.0, f.1), omega (arith, c.1, f.0, f.1))
  value_writable below top width (op.Read x a) w c f t = (array_free m is x arrays t.0.there, node_free a.0 (c.0))

tree_width : (nodes : List Node) (c : ℕ) → IsPool nodes → c < length nodes → width_of (tree_of nodes c) ≤ 64
tree_width nodes c pool h =
    let e : width_of (tree_of nodes c) ≡ (node_at nodes c).width = ap width_of (tree-here nodes c pool h) ∙ width-op (tree_of nodes) (node_at nodes c).width (node_at nodes c).op in
    let w = pool.widths c h in
    omega arith

module _ (m : ModuleValue) (pool : PoolValue) (marks : List Bool) (are : IsWritten m pool) where
  few_wires : length m.wires ≤ 65535
  few_wires = let f = are.few in omega arith

  few_regs : length m.regs ≤ 65535
  few_regs = let f = are.few in omega arith

  few_arrays : length m.arrays ≤ 65535
  few_arrays = let f = are.few in omega arith

  few_nodes : length pool.nodes ≤ 65535
  few_nodes = let f = are.few in omega arith

  wire_is : (k : ℕ) → k < length m.wires → GivenIsWritable (wire_line m k)
  wire_is k h = (are.module'.wires k h, wire_free m are.module' k few_wires h)

  reg_is : (k : ℕ) → k < length m.regs → GivenIsWritable (reg_line m k)
  reg_is k h = (are.module'.regs k h, reg_free m are.module' k few_regs h)

  array_is : (k : ℕ) → k < length m.arrays → GivenIsWritable (array_line m k)
  array_is k h = (are.module'.arrays k h, array_free m are.module' k few_arrays h, are.module'.bits_most k h)

  drive_is : (k : ℕ) → k < length m.wires → GivenIsWritable (drive_line m k)
  drive_is k h =
      assigned_writable (wire_name m k) (wire_at m.wires k).driver (wire_free m are.module' k few_wires h)
      (λ net e. let l = (are.checked.fits.wires k net h e).fits.is.live in let f = few_nodes in omega arith)

  next_is : (k : ℕ) → k < length m.regs → GivenIsWritable (next_line m k)
  next_is k h =
      clocked_writable (reg_name m k) (reg_at m.regs k).width (reg_at m.regs k).reset (reg_at m.regs k).next (reg_free m are.module' k few_regs h)
      (are.module'.regs k h) (are.module'.resets k h)
      (λ net e. let l = (are.checked.fits.regs k net h e).fits.is.live in let f = few_nodes in omega arith)

  write_is : (k : ℕ) → k < length m.arrays → GivenIsWritable (write_line m k)
  write_is k h =
      written_writable (array_name m k) (array_at m.arrays k).write (array_free m are.module' k few_arrays h)
      (λ w e.
      let f = few_nodes in
      let x = (are.checked.fits.arrays k w h e).enable.is.live in
      let y = (are.checked.fits.arrays k w h e).addr.is.live in
      let z = (are.checked.fits.arrays k w h e).value.is.live in
      (omega arith, omega arith, omega arith))

  out_is : (k : ℕ) → k < 30 → GivenIsWritable (out_line m k)
  out_is k h =
      assigned_writable (port_name k) (out_at m.outs k) (port_free k)
      (λ net e. let l = (are.checked.fits.outs k net h e).fits.is.live in let f = few_nodes in omega arith)

  node_is : AreMarks m pool.nodes marks → (k : ℕ) → k < length pool.nodes → GivenIsWritable (node_line m pool.nodes marks k)
  node_is marked k h =
      line_if_writable (get_or marks k false) _
      (λ e.
      let r : ReachedFits m pool.nodes k = reached_fits m pool are.nodes are.checked.fits k (marked.only k e) in
      let n = node_at pool.nodes k in
      let here : tree_of pool.nodes k ≡ of_op (tree_of pool.nodes) (node_at pool.nodes k).width (node_at pool.nodes k).op = tree-here pool.nodes k are.nodes h in
      let fits : Fits (of_op (tree_of pool.nodes) (node_at pool.nodes k).width (node_at pool.nodes k).op) = subst Fits here r.fits in
      let top = top_of m.wires (tree_of pool.nodes k) in
      let tree : TreeFits m (top_of m.wires (tree_of pool.nodes k)) (of_op (tree_of pool.nodes) (node_at pool.nodes k).width (node_at pool.nodes k).op) = subst (TreeFits m (top_of m.wires (tree_of pool.nodes k))) here r.tree in (
        are.nodes.widths k h,
        node_free k (let f = few_nodes in omega arith),
        value_writable m are.module' few_wires few_regs few_arrays (tree_of pool.nodes) (top_of m.wires (tree_of pool.nodes k)) (node_at pool.nodes k).width (node_at pool.nodes k).op (are.nodes.widths k h)
            (each_child (λ c. (c < k) × ((node_at pool.nodes c).level ≤ (node_at pool.nodes k).level)) (λ c. (c < 65535) × (width_of (tree_of pool.nodes c) ≤ 64))
            (λ c b. let f = few_nodes in (omega (arith, b.0), tree_width pool.nodes c are.nodes (omega (arith, b.0)))) (node_at pool.nodes k).op (are.nodes.children k h))
            fits tree,
      ))

  pub writable : AreMarks m pool.nodes marks → IsWritable (netlist_of m pool.nodes marks)
  writable marked = record {
    name = core_free;
    some = omega arith;
    ports = ports_writable all_ports;
    lines =
        spread_writable (wire_line m) (from_regs m pool.nodes marks) (length m.wires) wire_is
        (spread_writable (reg_line m) (from_arrays m pool.nodes marks) (length m.regs) reg_is
        (spread_writable (array_line m) (from_nodes m pool.nodes marks) (length m.arrays) array_is
        (spread_writable (node_line m pool.nodes marks) (from_drives m pool.nodes marks) (length pool.nodes) (node_is marked)
        (spread_writable (drive_line m) (from_nexts m pool.nodes marks) (length m.wires) drive_is
        (spread_writable (next_line m) (from_writes m pool.nodes marks) (length m.regs) next_is
        (spread_writable (write_line m) (from_outs m pool.nodes marks) (length m.arrays) write_is
        (spread_writable (out_line m) [] 30 out_is tt)))))));
  }

  pub few_lines : length (netlist_of m pool.nodes marks).lines ≤ thing_count m pool
  few_lines = lines_few m pool.nodes marks
