-- Wires and nodes get their values level by level.
use Rattle.std.proofs.Common.{◌≡◌, ◌∙◌, ℕ, ◌+◌, ◌^◌, ◌<◌, ◌≤◌, Bool, false, List, length, get_or, set, Option, None, Some, refl, ap, sym, subst, arith, inl, inr, get_or-set_same, get_or-set_other}
use Rattle.std.proofs.lemmas.Bool.{cases_lt, cases_eq}
use Rattle.std.proofs.lemmas.List.{get_or_default}
use Rattle.hw_pool.specs.declared.node.Node.{Node}
use Rattle.hw_pool.specs.Nodes.{PoolValue, IsPool, EachChild, node_at}
use Rattle.hw_pool.specs.Trees.{tree_of, of_node, width_of}
use Rattle.hw_pool.specs.Meaning.{value, Fits}
use Rattle.hw_pool.proofs.Trees.{each_child, tree-here}
use Rattle.hw_expr.specs.declared.net.Net.{Net}
use Rattle.hw_expr.proofs.Nets.{width-op}
use Rattle.hw_module.specs.declared.rows.WireRow.{WireRow}
use Rattle.hw_module.specs.Rows.{ModuleValue, wire_at, array_at}
use Rattle.hw_module.specs.Fits.{TreeFits}
use Rattle.hw_module.specs.Checked.{IsChecked}
use Rattle.hw_module.specs.Cycle.{Held, driven_value, wire_value, cycle_env, env_of}
use Rattle.hw_module.specs.Reached.{AreMarks, ReachedFits, top_of}
use Rattle.hw_module.specs.Reached.Drives.{OfWire as wire_drives}
use Rattle.hw_cycle.specs.State.{cells_at}
use Rattle.hw_cycle.specs.Evaluate.{op_value, CanEvaluate}
use Rattle.hw_cycle.specs.Levels.{AreHeld, IsMarked, top_at, op_top, OfWire, driven_by, IsLive, AreTops, node_value, WiresDone, NodesDone}
use Rattle.hw_reach.proofs.Reached.{reached_fits}
use Rattle.hw_reach.proofs.Solves.{wire_solves}
use Rattle.hw_cycle.proofs.Bounded.{tree_bound}
use Rattle.hw_cycle.proofs.Operators.{op_means, IsOperand, can_evaluate}
use Rattle.hw_cycle.proofs.Tops.{top_most, top_gap, top_op, op_top-same, child_top, each_both, wire_of_op, of_wire}

-- what is known of a marked node: its tree, and its children
pub record IsKnown (m : ModuleValue) (nodes : List Node) (marks : List Bool) (k : ℕ) : Type 0 where
  pub live : k < length nodes
  pub here : tree_of nodes k ≡ of_node (tree_of nodes) (node_at nodes k)
  pub fits : Fits (of_node (tree_of nodes) (node_at nodes k))
  pub tree : TreeFits m (top_at m nodes k) (of_node (tree_of nodes) (node_at nodes k))
  pub children : EachChild (λ c. (c < k) × IsMarked marks c) (node_at nodes k).op

module _ (m : ModuleValue) (pool : PoolValue) (is : IsPool pool.nodes) (checked : IsChecked m pool) (marks : List Bool) (marked : AreMarks m pool.nodes marks) where
  pub known : (k : ℕ) → IsMarked marks k → IsKnown m pool.nodes marks k
  known k h =
      let reached : ReachedFits m pool.nodes k = reached_fits m pool is checked.fits k (marked.only k h) in
      let here : tree_of pool.nodes k ≡ of_node (tree_of pool.nodes) (node_at pool.nodes k) = tree-here pool.nodes k is reached.live in
      record {
        live = reached.live;
        here = here;
        fits = subst Fits here reached.fits;
        tree = subst (TreeFits m (top_at m pool.nodes k)) here reached.tree;
        children =
            each_child (λ c. ((c < k) × ((node_at pool.nodes c).level ≤ (node_at pool.nodes k).level)) × IsMarked marks c) (λ c. (c < k) × IsMarked marks c)
            (λ c p. (p.0.0, p.1)) (node_at pool.nodes k).op
            (each_both (λ c. (c < k) × ((node_at pool.nodes c).level ≤ (node_at pool.nodes k).level)) (λ c. IsMarked marks c) (node_at pool.nodes k).op (is.children k reached.live) (marked.children k h));
      }

  -- the top level of a marked node is that of its operator over its children's
  top_here : (k : ℕ) → IsMarked marks k → top_at m pool.nodes k ≡ op_top m.wires (top_at m pool.nodes) (node_at pool.nodes k).op
  top_here k h = ap (top_of m.wires) (known k h).here ∙ top_op m.wires (tree_of pool.nodes) (node_at pool.nodes k).width (node_at pool.nodes k).op

  -- a child's top level is no higher
  children_top : (k : ℕ) → IsMarked marks k → EachChild (λ c. top_at m pool.nodes c ≤ top_at m pool.nodes k) (node_at pool.nodes k).op
  children_top k h =
      subst (λ (n : ℕ). EachChild (λ c. top_at m pool.nodes c ≤ n) (node_at pool.nodes k).op) (sym (top_here k h))
      (child_top m.wires (top_at m pool.nodes) (node_at pool.nodes k).op)

  -- what the top level of a marked node is found from
  pub top_children : (k : ℕ) (tops : List ℕ) (node : Node) → length pool.nodes ≤ length tops → node ≡ node_at pool.nodes k → IsMarked marks k → EachChild (λ c. c < length tops) node.op
  top_children k tops node room is_node h =
      subst (λ (n : Node). EachChild (λ c. c < length tops) n.op) (sym is_node)
      (each_child (λ c. (c < k) × IsMarked marks c) (λ c. c < length tops)
      (λ c p. let live : k < length pool.nodes = (known k h).live in omega (arith, p.0)) (node_at pool.nodes k).op (known k h).children)

  pub top_wire : (k : ℕ) (rows : List WireRow) (node : Node) → rows ≡ m.wires → node ≡ node_at pool.nodes k → IsMarked marks k → OfWire (λ w. w < length rows) node.op
  top_wire k rows node is_rows is_node h =
      subst (λ (l : List WireRow). OfWire (λ w. w < length l) node.op) (sym is_rows)
      (subst (λ (n : Node). OfWire (λ w. w < length m.wires) n.op) (sym is_node)
      (of_wire (λ w. (w < length m.wires) × ((wire_at m.wires w).level ≤ top_at m pool.nodes k)) (λ w. w < length m.wires) (λ w p. p.0) (node_at pool.nodes k).op
      (wire_of_op m (top_at m pool.nodes k) (tree_of pool.nodes) (node_at pool.nodes k).width (node_at pool.nodes k).op (known k h).tree)))

  -- one node more has its top level
  pub tops_set : (k top : ℕ) (tops new : List ℕ) (rows : List WireRow) (node : Node) → rows ≡ m.wires → node ≡ node_at pool.nodes k → k < length tops
      → top ≡ op_top rows (λ c. get_or tops c 0) node.op → new ≡ set tops k top
      → AreTops m pool.nodes marks k tops → AreTops m pool.nodes marks (k + 1) new
  tops_set k top tops new rows node is_rows is_node short is_top is_new before j h mark = elim (cases_eq j k) [
    | inl same ↦
        let own : IsMarked marks k = subst (IsMarked marks) same mark in
        ap (λ (l : List ℕ). get_or l j 0) is_new ∙ ap (λ (i : ℕ). get_or (set tops k top) i 0) same ∙ get_or-set_same tops k top 0 short ∙ is_top
        ∙ (λ i. op_top (is_rows i) (λ c. get_or tops c 0) (is_node i).op)
        ∙ op_top-same m.wires (λ c. get_or tops c 0) (top_at m pool.nodes) (node_at pool.nodes k).op
        (each_child (λ c. (c < k) × IsMarked marks c) (λ c. get_or tops c 0 ≡ top_at m pool.nodes c) (λ c p. before c p.0 p.1) (node_at pool.nodes k).op (known k own).children)
        ∙ sym (top_here k own) ∙ ap (top_at m pool.nodes) (sym same)
    | inr other ↦
        let less : j < k = omega arith in
        ap (λ (l : List ℕ). get_or l j 0) is_new ∙ get_or-set_other tops k j top 0 other ∙ before j less mark
  ]

  pub tops_skip : (k : ℕ) (tops new : List ℕ) → get_or marks k false ≡ false → new ≡ tops → AreTops m pool.nodes marks k tops → AreTops m pool.nodes marks (k + 1) new
  tops_skip k tops new unmarked is_new before j h mark = elim (cases_eq j k) [
    | inl same ↦ let own : IsMarked marks k = subst (IsMarked marks) same mark in cc
    | inr other ↦ let less : j < k = omega arith in ap (λ (l : List ℕ). get_or l j 0) is_new ∙ before j less mark
  ]

  -- a row that was read from a module's
  row_is : (w : ℕ) (rows : List WireRow) (d : WireRow) → rows ≡ m.wires → w < length rows → get_or rows w d ≡ wire_at m.wires w
  row_is w rows d is_rows h = get_or_default rows w d _ h ∙ ap (λ (l : List WireRow). wire_at l w) is_rows

  -- the driver of a forward wire is a live node
  pub wire_live : (w n : ℕ) (rows : List WireRow) (d : WireRow) → rows ≡ m.wires → w < length rows → length pool.nodes ≤ n → IsLive n (get_or rows w d).driver
  wire_live w n rows d is_rows h room = subst (λ (r : WireRow). IsLive n r.driver) (sym (row_is w rows d is_rows h)) (live (wire_at m.wires w).driver refl)
    where
      live : (o : Option Net) → (wire_at m.wires w).driver ≡ o → IsLive n o
      live None e = tt
      live (Some net) e =
          let there : w < length m.wires = subst (λ (l : List WireRow). w < length l) is_rows h in
          let is_net : net.id.0 < length pool.nodes = (checked.fits.wires w net there e).fits.is.live in
          omega arith

  module _ (s : Held) (ins : ℕ → ℕ) where
    -- a forward wire's driver has its value when all nodes below the wire's level have
    wire_driven : (level w : ℕ) (values : List ℕ) → w < length m.wires → (wire_at m.wires w).level ≡ level → NodesDone m pool.nodes s ins marks level 0 values
        → (driver : Option Net) → (wire_at m.wires w).driver ≡ driver → driven_by values driver ≡ wire_value m pool.nodes s ins w
    unfolding node_value
    wire_driven level w values h l done None e = absurd (checked.driven.wires w h e)
    wire_driven level w values h l done (Some net) e =
        let drives = checked.fits.wires w net h e in
        let below : net.level < (wire_at m.wires w).level = drives.below in
        let most : top_at m pool.nodes net.id.0 ≤ net.level = top_most m net.level (tree_of pool.nodes net.id.0) drives.fits.tree in
        let less : top_at m pool.nodes net.id.0 < level = omega arith in
        done.lower net.id.0 (marked.drivers net.id.0 (wire_drives w net h e refl)) less
        ∙ sym (wire_solves m pool is checked.fits s ins w h ∙ ap (driven_value (cycle_env m pool.nodes s ins) pool.nodes) e)

    pub wires_set : (level w v : ℕ) (values wires new : List ℕ) (rows : List WireRow) (d : WireRow) → rows ≡ m.wires → w < length rows → w < length wires
        → (get_or rows w d).level ≡ level → v ≡ driven_by values (get_or rows w d).driver → new ≡ set wires w v
        → NodesDone m pool.nodes s ins marks level 0 values → WiresDone m pool.nodes s ins marks level w wires → WiresDone m pool.nodes s ins marks level (w + 1) new
    wires_set level w v values wires new rows d is_rows there short own_level is_value is_new nodes done =
        let h : w < length m.wires = subst (λ (l : List WireRow). w < length l) is_rows there in
        let row : get_or rows w d ≡ wire_at m.wires w = row_is w rows d is_rows there in
        let l : (wire_at m.wires w).level ≡ level = ap (λ (r : WireRow). r.level) (sym row) ∙ own_level in
        let is_v : v ≡ driven_by values (wire_at m.wires w).driver = is_value ∙ ap (λ (r : WireRow). driven_by values r.driver) row in
        let own : v ≡ wire_value m pool.nodes s ins w = is_v ∙ wire_driven level w values h l nodes (wire_at m.wires w).driver refl in
        let at : (x : ℕ) → (x ≡ w → ⊥) → get_or new x 0 ≡ get_or wires x 0 =
        λ x ne. ap (λ (l : List ℕ). get_or l x 0) is_new ∙ get_or-set_other wires w x v 0 ne in
        let same : get_or new w 0 ≡ v = ap (λ (l : List ℕ). get_or l w 0) is_new ∙ get_or-set_same wires w v 0 short in
        record {
          lower = λ x there less. at x (λ (e : x ≡ w). let q : (wire_at m.wires x).level ≡ (wire_at m.wires w).level = ap (λ (i : ℕ). (wire_at m.wires i).level) e in omega arith) ∙ done.lower x there less;
          here = λ x there before e. elim (cases_eq x w) [
            | inl is_w ↦ ap (λ (i : ℕ). get_or new i 0) is_w ∙ same ∙ own ∙ ap (wire_value m pool.nodes s ins) (sym is_w)
            | inr ne ↦ let less : x < w = omega arith in at x ne ∙ done.here x there less e
          ];
        }

    pub wires_skip : (level w : ℕ) (wires new : List ℕ) (rows : List WireRow) (d : WireRow) → rows ≡ m.wires → w < length rows → ((get_or rows w d).level ≡ level → ⊥) → new ≡ wires
        → WiresDone m pool.nodes s ins marks level w wires → WiresDone m pool.nodes s ins marks level (w + 1) new
    wires_skip level w wires new rows d is_rows inside other is_new done = record {
      lower = λ x there less. ap (λ (l : List ℕ). get_or l x 0) is_new ∙ done.lower x there less;
      here = λ x there before e. elim (cases_eq x w) [
        | inl is_w ↦ absurd (other (ap (λ (r : WireRow). r.level) (row_is w rows d is_rows inside) ∙ ap (λ (i : ℕ). (wire_at m.wires i).level) (sym is_w) ∙ e))
        | inr ne ↦ let less : x < w = omega arith in ap (λ (l : List ℕ). get_or l x 0) is_new ∙ done.here x there less e
      ];
    }

    pub wires_up : (level : ℕ) (wires : List ℕ) → WiresDone m pool.nodes s ins marks level (length m.wires) wires → WiresDone m pool.nodes s ins marks (level + 1) 0 wires
    wires_up level wires done = record {
      lower = λ x there less. elim (cases_lt (wire_at m.wires x).level level) [
        | inl below ↦ done.lower x there below
        | inr above ↦ let same : (wire_at m.wires x).level ≡ level = omega arith in done.here x there there same
      ];
      here = λ x there before e. absurd (omega arith);
    }

    -- a child of a marked node of this top level has its value
    children_values : (level k : ℕ) (values : List ℕ) → IsMarked marks k → top_at m pool.nodes k ≡ level → NodesDone m pool.nodes s ins marks level k values
        → EachChild (λ c. ((c < k) × IsMarked marks c) × (get_or values c 0 ≡ node_value m pool.nodes s ins marks c)) (node_at pool.nodes k).op
    children_values level k values mark top done =
        each_child (λ c. ((c < k) × IsMarked marks c) × (top_at m pool.nodes c ≤ top_at m pool.nodes k))
        (λ c. ((c < k) × IsMarked marks c) × (get_or values c 0 ≡ node_value m pool.nodes s ins marks c))
        (λ c p.
        let most : top_at m pool.nodes c ≤ top_at m pool.nodes k = p.1 in (
          p.0,
          elim (cases_lt (top_at m pool.nodes c) level) [
            | inl below ↦ done.lower c p.0.1 below
            | inr above ↦ let same : top_at m pool.nodes c ≡ level = omega arith in done.here c p.0.1 p.0.0 same
          ],
        )) (node_at pool.nodes k).op
        (each_both (λ c. (c < k) × IsMarked marks c) (λ c. top_at m pool.nodes c ≤ top_at m pool.nodes k) (node_at pool.nodes k).op (known k mark).children (children_top k mark))

    width_here : (c : ℕ) → c < length pool.nodes → (node_at pool.nodes c).width ≡ width_of (tree_of pool.nodes c)
    width_here c h =
        sym (ap width_of (tree-here pool.nodes c is h) ∙ width-op (tree_of pool.nodes) (node_at pool.nodes c).width (node_at pool.nodes c).op)

    -- the operator of a marked node has its value
    pub node_is : (level k : ℕ) (values wires : List ℕ) → IsMarked marks k → top_at m pool.nodes k ≡ level → NodesDone m pool.nodes s ins marks level k values
        → WiresDone m pool.nodes s ins marks (level + 1) 0 wires
        → op_value (env_of s ins (λ w. get_or wires w 0)) (λ c. (node_at pool.nodes c).width) (λ c. get_or values c 0) (node_at pool.nodes k).op ≡ node_value m pool.nodes s ins marks k
    unfolding node_value
    node_is level k values wires mark top nodes done =
        let node = node_at pool.nodes k in
        let live : k < length pool.nodes = (known k mark).live in
        op_means s ins (λ w. get_or wires w 0) (wire_value m pool.nodes s ins) (λ c. (node_at pool.nodes c).width) (λ c. get_or values c 0) (tree_of pool.nodes) node.width node.op
        (each_child (λ c. ((c < k) × IsMarked marks c) × (get_or values c 0 ≡ node_value m pool.nodes s ins marks c))
        (λ c. ((node_at pool.nodes c).width ≡ width_of (tree_of pool.nodes c)) × (get_or values c 0 ≡ value (cycle_env m pool.nodes s ins) (tree_of pool.nodes c)))
        (λ c p. (width_here c (omega (arith, p.0.0)), p.1)) node.op (children_values level k values mark top nodes))
        (of_wire (λ w. (w < length m.wires) × ((wire_at m.wires w).level ≤ top_at m pool.nodes k)) (λ w. get_or wires w 0 ≡ wire_value m pool.nodes s ins w)
        (λ w p. let most : (wire_at m.wires w).level ≤ top_at m pool.nodes k = p.1 in done.lower w p.0 (omega arith)) node.op
        (wire_of_op m (top_at m pool.nodes k) (tree_of pool.nodes) node.width node.op (known k mark).tree))
        ∙ ap (value (cycle_env m pool.nodes s ins)) (sym (known k mark).here)

    -- a marked node is within its width
    pub node_bound : AreHeld m s ins → (k : ℕ) → IsMarked marks k → node_value m pool.nodes s ins marks k < 2 ^ (node_at pool.nodes k).width
    unfolding node_value
    node_bound held k mark =
        let reached : ReachedFits m pool.nodes k = reached_fits m pool is checked.fits k (marked.only k mark) in
        subst (λ w. value (cycle_env m pool.nodes s ins) (tree_of pool.nodes k) < 2 ^ w) (sym (width_here k reached.live))
        (tree_bound m pool is s ins checked held (top_at m pool.nodes k) (tree_of pool.nodes k) reached.fits reached.tree)

    pub node_can : AreHeld m s ins → (level k : ℕ) (values : List ℕ) (wires regs : ℕ) (cells : List (List ℕ))
        → wires ≡ length m.wires → regs ≡ length m.regs → length cells ≡ length m.arrays
        → ((a : ℕ) → a < length m.arrays → length (cells_at cells a) ≡ 2 ^ (array_at m.arrays a).bits)
        → (read : Node) → read ≡ node_at pool.nodes k → IsMarked marks k → top_at m pool.nodes k ≡ level → NodesDone m pool.nodes s ins marks level k values
        → CanEvaluate (record { nodes = length pool.nodes; wires = wires; regs = regs; cells = cells }) (λ c. (node_at pool.nodes c).width) (λ c. get_or values c 0) read.op
    node_can held level k values wires regs cells wires_is regs_is cells_is counts read is_read mark top nodes =
        let node = node_at pool.nodes k in
        subst
        (λ (n : Node). CanEvaluate (record { nodes = length pool.nodes; wires = wires; regs = regs; cells = cells }) (λ c. (node_at pool.nodes c).width) (λ c. get_or values c 0) n.op)
        (sym is_read)
        (let live : k < length pool.nodes = (known k mark).live in
        can_evaluate m (record { nodes = length pool.nodes; wires = wires; regs = regs; cells = cells }) (λ c. (node_at pool.nodes c).width) (λ c. get_or values c 0) (tree_of pool.nodes)
        (top_at m pool.nodes k) node.width wires_is regs_is cells_is counts node.op
        (each_child (λ c. ((c < k) × IsMarked marks c) × (get_or values c 0 ≡ node_value m pool.nodes s ins marks c))
        (IsOperand (length pool.nodes) (λ c. (node_at pool.nodes c).width) (λ c. get_or values c 0) (tree_of pool.nodes))
        (λ c p.
        let there : c < length pool.nodes = omega (arith, p.0.0) in
        record {
          live = there;
          wide = is.widths c there;
          same = width_here c there;
          bound = subst (λ v. v < 2 ^ (node_at pool.nodes c).width) (sym p.1) (node_bound held c p.0.1);
        }) node.op (children_values level k values mark top nodes))
        (known k mark).fits (known k mark).tree)

    pub nodes_set : (level k v : ℕ) (values wires new : List ℕ) (read : Node) → read ≡ node_at pool.nodes k → k < length values → IsMarked marks k → top_at m pool.nodes k ≡ level
        → v ≡ op_value (env_of s ins (λ w. get_or wires w 0)) (λ c. (node_at pool.nodes c).width) (λ c. get_or values c 0) read.op → new ≡ set values k v
        → WiresDone m pool.nodes s ins marks (level + 1) 0 wires → NodesDone m pool.nodes s ins marks level k values → NodesDone m pool.nodes s ins marks level (k + 1) new
    nodes_set level k v values wires new read is_read short mark top is_v is_new wires_done done =
        let own : v ≡ node_value m pool.nodes s ins marks k =
        is_v ∙ ap (λ (n : Node). op_value (env_of s ins (λ w. get_or wires w 0)) (λ c. (node_at pool.nodes c).width) (λ c. get_or values c 0) n.op) is_read
        ∙ node_is level k values wires mark top done wires_done in
        let at : (x : ℕ) → (x ≡ k → ⊥) → get_or new x 0 ≡ get_or values x 0 =
        λ x ne. ap (λ (l : List ℕ). get_or l x 0) is_new ∙ get_or-set_other values k x v 0 ne in
        let same : get_or new k 0 ≡ v = ap (λ (l : List ℕ). get_or l k 0) is_new ∙ get_or-set_same values k v 0 short in
        record {
          lower = λ x there less. at x (λ (e : x ≡ k). let q : top_at m pool.nodes x ≡ top_at m pool.nodes k = ap (top_at m pool.nodes) e in omega arith) ∙ done.lower x there less;
          here = λ x there before e. elim (cases_eq x k) [
            | inl is_k ↦ ap (λ (i : ℕ). get_or new i 0) is_k ∙ same ∙ own ∙ ap (node_value m pool.nodes s ins marks) (sym is_k)
            | inr ne ↦ let less : x < k = omega arith in at x ne ∙ done.here x there less e
          ];
        }

    pub nodes_skip : (level k : ℕ) (values new : List ℕ) → (IsMarked marks k × (top_at m pool.nodes k ≡ level) → ⊥) → new ≡ values
        → NodesDone m pool.nodes s ins marks level k values → NodesDone m pool.nodes s ins marks level (k + 1) new
    nodes_skip level k values new other is_new done = record {
      lower = λ x there less. ap (λ (l : List ℕ). get_or l x 0) is_new ∙ done.lower x there less;
      here = λ x there before e. elim (cases_eq x k) [
        | inl is_k ↦ absurd (other (subst (IsMarked marks) is_k there, ap (top_at m pool.nodes) (sym is_k) ∙ e))
        | inr ne ↦ let less : x < k = omega arith in ap (λ (l : List ℕ). get_or l x 0) is_new ∙ done.here x there less e
      ];
    }

    pub nodes_up : (level : ℕ) (values : List ℕ) → NodesDone m pool.nodes s ins marks level (length pool.nodes) values → NodesDone m pool.nodes s ins marks (level + 1) 0 values
    nodes_up level values done = record {
      lower = λ x mark less. elim (cases_lt (top_at m pool.nodes x) level) [
        | inl below ↦ done.lower x mark below
        | inr above ↦ let same : top_at m pool.nodes x ≡ level = omega arith in done.here x mark (known x mark).live same
      ];
      here = λ x mark before e. absurd (omega arith);
    }

    -- levels at which no forward wire is are passed by
    pub wires_on : (low high : ℕ) (wires : List ℕ) → ((w : ℕ) → w < length m.wires → (wire_at m.wires w).level < high → (wire_at m.wires w).level ≤ low)
        → WiresDone m pool.nodes s ins marks (low + 1) 0 wires → WiresDone m pool.nodes s ins marks high 0 wires
    wires_on low high wires gap done = record {
      lower = λ x there less. let most : (wire_at m.wires x).level ≤ low = gap x there less in done.lower x there (omega arith);
      here = λ x there before e. absurd (omega arith);
    }

    pub nodes_on : (low high : ℕ) (values : List ℕ) → ((w : ℕ) → w < length m.wires → (wire_at m.wires w).level < high → (wire_at m.wires w).level ≤ low)
        → NodesDone m pool.nodes s ins marks (low + 1) 0 values → NodesDone m pool.nodes s ins marks high 0 values
    nodes_on low high values gap done = record {
      lower = λ x mark less.
          let most : top_at m pool.nodes x ≤ low = top_gap m low high gap (top_at m pool.nodes x) (tree_of pool.nodes x) (reached_fits m pool is checked.fits x (marked.only x mark)).tree less in
          done.lower x mark (omega arith);
      here = λ x mark before e. absurd (omega arith);
    }

    -- behind the last level each marked node has its value
    pub nodes_end : (low : ℕ) (values : List ℕ) → ((w : ℕ) → w < length m.wires → (wire_at m.wires w).level ≤ low)
        → NodesDone m pool.nodes s ins marks (low + 1) 0 values → (k : ℕ) → IsMarked marks k → get_or values k 0 ≡ node_value m pool.nodes s ins marks k
    nodes_end low values all done k mark =
        let high = top_at m pool.nodes k + 1 in
        (nodes_on low high values (λ w there less. all w there) done).lower k mark (omega arith)

-- nothing is done at the lowest level
pub wires_start : (m : ModuleValue) (nodes : List Node) (s : Held) (ins : ℕ → ℕ) (marks : List Bool) (wires : List ℕ) → WiresDone m nodes s ins marks 0 0 wires
wires_start m nodes s ins marks wires = record { lower = λ x there less. absurd (omega arith); here = λ x there less e. absurd (omega arith) }

pub nodes_start : (m : ModuleValue) (nodes : List Node) (s : Held) (ins : ℕ → ℕ) (marks : List Bool) (values : List ℕ) → NodesDone m nodes s ins marks 0 0 values
nodes_start m nodes s ins marks values = record { lower = λ x mark less. absurd (omega arith); here = λ x mark less e. absurd (omega arith) }
