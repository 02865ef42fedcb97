-- Marks that are made one behind the other.
use Rattle.std.proofs.Common.{◌≡◌, ◌∙◌, ℕ, ◌+◌, ◌<◌, ◌≤◌, ◌⊎◌, Bool, true, false, List, length, get_or, set, Option, None, Some, refl, arith, sym, subst, inl, inr, get_or-set_same, get_or-set_other}
use Rattle.std.proofs.lemmas.Bool.{cases_eq, cases_lt}
use Rattle.std.proofs.lemmas.List.{get_or_past, get_or_default}
use Rattle.hw_pool.specs.declared.node.Node.{Node}
use Rattle.hw_pool.specs.declared.node.Op.{Op}
use Rattle.hw_pool.specs.declared.node.Op.TheVariants.{Lit, Input, Wire, Reg, Not, And, Or, Xor, Add, Sub, Eq, Ltu, Mux, Cat, Slice, Read}
use Rattle.hw_pool.specs.Nodes.{PoolValue, node_at, EachChild, IsPool}
use Rattle.hw_pool.proofs.Trees.{each_child}
use Rattle.hw_expr.specs.declared.net.Net.{Net}
use Rattle.hw_module.specs.declared.rows.WireRow.{WireRow}
use Rattle.hw_module.specs.declared.rows.RegRow.{RegRow}
use Rattle.hw_module.specs.declared.rows.ArrayRow.{ArrayRow}
use Rattle.hw_module.specs.declared.rows.ArrayWrite.{ArrayWrite}
use Rattle.hw_module.specs.Rows.{ModuleValue, wire_at, reg_at, array_at, out_at}
use Rattle.hw_module.specs.Checked.{DriversFit}
use Rattle.hw_module.specs.Reached.{Drives, IsChild, Reached, AreMarks}
use Rattle.hw_module.specs.Reached.Drives.{OfWire, OfReg, OfEnable, OfAddr, OfValue, OfPort}
use Rattle.hw_module.specs.Reached.Reached.{Driver, Child}
use Rattle.hw_reach.specs.Marking.{IsMarked, Marks, SomeBelow, IsDriver, IsOfWrite, EachDriver, EachOfWrite, OfWires, OfRegs, OfArrays, OfOuts, PartOf, Closes}
use Rattle.hw_reach.specs.Marking.PartOf.{Marked, Below}
use Rattle.hw_reach.proofs.Reached.{at_child, driver_fits}

-- one mark
pub mark_one : (marks : List Bool) (i : ℕ) → i < length marks → Marks (λ k. i ≡ k) marks (set marks i true)
mark_one marks i l = record {
  kept = λ k h. elim (cases_eq k i) [
    | inl e ↦ subst (IsMarked (set marks i true)) (sym e) (get_or-set_same marks i true false l)
    | inr ne ↦ get_or-set_other marks i k true false ne ∙ h
  ];
  made = λ k e. subst (IsMarked (set marks i true)) e (get_or-set_same marks i true false l);
  only = λ k h. elim (cases_eq k i) [
    | inl e ↦ inr (sym e)
    | inr ne ↦ inl (sym (get_or-set_other marks i k true false ne) ∙ h)
  ];
}

-- no mark
pub mark_none : (P : ℕ → Type 0) (marks : List Bool) → ((k : ℕ) → P k → ⊥) → Marks P marks marks
mark_none P marks never = record {
  kept = λ k h. h;
  made = λ k p. absurd (never k p);
  only = λ k h. inl h;
}

-- marks for one thing and then for another
pub mark_then : (P Q R : ℕ → Type 0) (a b c : List Bool) → ((k : ℕ) → P k → R k) → ((k : ℕ) → Q k → R k) → ((k : ℕ) → R k → P k ⊎ Q k)
    → Marks P a b → Marks Q b c → Marks R a c
mark_then P Q R a b c left right split first second = record {
  kept = λ k h. second.kept k (first.kept k h);
  made = λ k r. elim (split k r) [
    | inl p ↦ second.kept k (first.made k p)
    | inr q ↦ second.made k q
  ];
  only = λ k h. elim (second.only k h) [
    | inl m ↦ elim (first.only k m) [
      | inl o ↦ inl o
      | inr p ↦ inr (left k p)
    ]
    | inr q ↦ inr (right k q)
  ];
}

pub mark_both : (P Q : ℕ → Type 0) (a b c : List Bool) → Marks P a b → Marks Q b c → Marks (λ k. P k ⊎ Q k) a c
mark_both P Q a b c first second = mark_then P Q (λ k. P k ⊎ Q k) a b c (λ k p. inl p) (λ k q. inr q) (λ k r. r) first second

-- no number is below 0
pub mark_start : (P : ℕ → ℕ → Type 0) (marks : List Bool) → Marks (λ k. SomeBelow (λ w. P w k) 0) marks marks
mark_start P marks = mark_none (λ k. SomeBelow (λ w. P w k) 0) marks (λ k s. absurd (let l = s.below in omega arith))

-- marks for one number more
pub mark_step : (P : ℕ → ℕ → Type 0) (n : ℕ) (a b c : List Bool) → Marks (λ k. SomeBelow (λ w. P w k) n) a b → Marks (P n) b c
    → Marks (λ k. SomeBelow (λ w. P w k) (n + 1)) a c
mark_step P n a b c first second =
    mark_then (λ k. SomeBelow (λ w. P w k) n) (P n) (λ k. SomeBelow (λ w. P w k) (n + 1)) a b c
    (λ k s. record { at = s.at; below = let l = s.below in omega arith; here = s.here })
    (λ k p. record { at = n; below = omega arith; here = p })
    (λ k s. elim (cases_lt s.at n) [
      | inl l ↦ inl (record { at = s.at; below = l; here = s.here })
      | inr g ↦ inr (let e : s.at ≡ n = let l = s.below in omega arith in subst (λ (w : ℕ). P w k) e s.here)
    ])
    first second

-- the row of a number, whatever stands for rows past the end
pub row_here : {X : Type 0} (P : X → Type 0) (rows : List X) (k : ℕ) (d e : X) → k < length rows → P (get_or rows k d) → P (get_or rows k e)
row_here P rows k d e l h = subst P (get_or_default rows k d e l) h

-- what holds of each child
pub each_from : (P : ℕ → Type 0) (o : Op) → ((k : ℕ) → IsChild o k → P k) → EachChild P o
each_from P (Lit value) h = tt
each_from P (Input port) h = tt
each_from P (Wire wire) h = tt
each_from P (Reg reg) h = tt
each_from P (Not a) h = h a.0 refl
each_from P (And a b) h = (h a.0 (inl refl), h b.0 (inr refl))
each_from P (Or a b) h = (h a.0 (inl refl), h b.0 (inr refl))
each_from P (Xor a b) h = (h a.0 (inl refl), h b.0 (inr refl))
each_from P (Add a b) h = (h a.0 (inl refl), h b.0 (inr refl))
each_from P (Sub a b) h = (h a.0 (inl refl), h b.0 (inr refl))
each_from P (Eq a b) h = (h a.0 (inl refl), h b.0 (inr refl))
each_from P (Ltu a b) h = (h a.0 (inl refl), h b.0 (inr refl))
each_from P (Mux c a b) h = (h c.0 (inl refl), h a.0 (inr (inl refl)), h b.0 (inr (inr refl)))
each_from P (Cat a b) h = (h a.0 (inl refl), h b.0 (inr refl))
each_from P (Slice a high low) h = h a.0 refl
each_from P (Read array a) h = h a.0 refl

-- a child has a lower number than its parent
pub child_below : (nodes : List Node) (j k : ℕ) → IsPool nodes → j < length nodes → IsChild (node_at nodes j).op k → k < j
child_below nodes j k pool l c =
    (at_child (λ i. (i < j) × ((node_at nodes i).level ≤ (node_at nodes j).level)) (node_at nodes j).op k (pool.children j l) c).0

-- nothing is marked from the length of the marks on
pub close_start : (nodes : List Node) (marks : List Bool) (n : ℕ) → length marks ≤ n → Closes nodes n marks marks
close_start nodes marks n l = record {
  kept = λ k h. h;
  closed = λ k g h. absurd (let e : false ≡ true = sym (get_or_past marks k false (omega arith)) ∙ h in cc);
  only = λ k h. Marked h;
}

-- a node that is not marked
pub close_skip : (nodes : List Node) (k n : ℕ) (a b : List Bool) → n ≡ k + 1 → Closes nodes n a b → get_or b k false ≡ false → Closes nodes k a b
close_skip nodes k n a b next h not_it = record {
  kept = h.kept;
  closed = λ j g is. elim (cases_eq j k) [
    | inl e ↦ absurd (let f : false ≡ true = sym not_it ∙ subst (IsMarked b) e is in cc)
    | inr ne ↦ h.closed j (omega arith) is
  ];
  only = h.only;
}

-- the children of a node that is marked
pub close_step : (nodes : List Node) (k n : ℕ) (a b c : List Bool) → IsPool nodes → k < length nodes → n ≡ k + 1 → Closes nodes n a b → IsMarked b k
    → Marks (IsChild (node_at nodes k).op) b c → Closes nodes k a c
close_step nodes k n a b c pool l next h is_it made = record {
  kept = λ j is. made.kept j (h.kept j is);
  closed = λ j g is. elim (cases_eq j k) [
    | inl e ↦ subst (λ (i : ℕ). EachChild (IsMarked c) (node_at nodes i).op) (sym e) (each_from (IsMarked c) (node_at nodes k).op made.made)
    | inr ne ↦ each_child (IsMarked b) (IsMarked c) made.kept (node_at nodes j).op (h.closed j (omega arith) (elim (made.only j is) [
      | inl old ↦ old
      | inr child ↦ absurd (let less : j < k = child_below nodes k j pool l child in omega arith)
    ]))
  ];
  only = λ j is. elim (made.only j is) [
    | inl old ↦ h.only j old
    | inr child ↦ Below k (h.only k is_it) child
  ];
}

-- these, with the numbers and the marks by other names
pub close_over : (nodes : List Node) (at k n : ℕ) (a b c : List Bool) → n ≡ k + 1 → at ≡ k → c ≡ b → Closes nodes n a b → get_or b k false ≡ false
    → Closes nodes at a c
close_over nodes at k n a b c next here same h not_it =
    subst (λ (i : ℕ). Closes nodes i a c) (sym here) (subst (λ (marks : List Bool). Closes nodes k a marks) (sym same) (close_skip nodes k n a b next h not_it))

pub close_then : (nodes : List Node) (at k n : ℕ) (a b c d : List Bool) (node : Node) → IsPool nodes → k < length nodes → n ≡ k + 1 → at ≡ k → d ≡ c
    → node ≡ node_at nodes k → Closes nodes n a b → IsMarked b k → Marks (IsChild node.op) b c → Closes nodes at a d
close_then nodes at k n a b c d node pool l next here same is h is_it made =
    subst (λ (i : ℕ). Closes nodes i a d) (sym here) (subst (λ (marks : List Bool). Closes nodes k a marks) (sym same)
    (close_step nodes k n a b c pool l next h is_it (subst (λ (one : Node). Marks (IsChild one.op) b c) is made)))

-- nothing is marked
pub cleared : (marks : List Bool) (n : ℕ) → length marks ≡ n → ((k : ℕ) → k < n → get_or marks k false ≡ false) → (k : ℕ) → IsMarked marks k → ⊥
cleared marks n many each k h = elim (cases_lt k n) [
  | inl l ↦ let e : false ≡ true = sym (each k l) ∙ h in cc
  | inr g ↦ let e : false ≡ true = sym (get_or_past marks k false (omega arith)) ∙ h in cc
]

-- a driver
is_driver : (o : Option Net) (net : Net) (k : ℕ) → o ≡ Some net → net.id.0 ≡ k → IsDriver o k
is_driver o net k is e = subst (λ (o : Option Net). IsDriver o k) (sym is) e

in_write : (o : Option ArrayWrite) (w : ArrayWrite) (k : ℕ) → o ≡ Some w → IsOfWrite (Some w) k → IsOfWrite o k
in_write o w k is h = subst (λ (o : Option ArrayWrite). IsOfWrite o k) (sym is) h

pub each_driver : (P : ℕ → Type 0) (o : Option Net) → ((k : ℕ) → IsDriver o k → P k) → EachDriver P o
each_driver P None h = tt
each_driver P (Some net) h = h net.id.0 refl

pub each_of_write : (P : ℕ → Type 0) (o : Option ArrayWrite) → ((k : ℕ) → IsOfWrite o k → P k) → EachOfWrite P o
each_of_write P None h = tt
each_of_write P (Some w) h = (h w.enable.id.0 (inl refl), h w.addr.id.0 (inr (inl refl)), h w.value.id.0 (inr (inr refl)))

module _ (m : ModuleValue) where
  wire_drives_at : (k w : ℕ) → w < length m.wires → (o : Option Net) → (wire_at m.wires w).driver ≡ o → IsDriver o k → Drives m k
  wire_drives_at k w l None is h = absurd h
  wire_drives_at k w l (Some net) is h = OfWire w net l is h

  reg_drives_at : (k r : ℕ) → r < length m.regs → (o : Option Net) → (reg_at m.regs r).next ≡ o → IsDriver o k → Drives m k
  reg_drives_at k r l None is h = absurd h
  reg_drives_at k r l (Some net) is h = OfReg r net l is h

  array_drives_at : (k a : ℕ) → a < length m.arrays → (o : Option ArrayWrite) → (array_at m.arrays a).write ≡ o → IsOfWrite o k → Drives m k
  array_drives_at k a l None is h = absurd h
  array_drives_at k a l (Some w) is h = elim h [
    | inl e ↦ OfEnable a w l is e
    | inr h ↦ elim h [
      | inl e ↦ OfAddr a w l is e
      | inr e ↦ OfValue a w l is e
    ]
  ]

  port_drives_at : (k p : ℕ) → p < 30 → (o : Option Net) → out_at m.outs p ≡ o → IsDriver o k → Drives m k
  port_drives_at k p l None is h = absurd h
  port_drives_at k p l (Some net) is h = OfPort p net l is h

  pub of_wires : (k : ℕ) → OfWires m.wires (length m.wires) k → Drives m k
  of_wires k s = wire_drives_at k s.at s.below (wire_at m.wires s.at).driver refl s.here

  pub of_regs : (k : ℕ) → OfRegs m.regs (length m.regs) k → Drives m k
  of_regs k s = reg_drives_at k s.at s.below (reg_at m.regs s.at).next refl s.here

  pub of_arrays : (k : ℕ) → OfArrays m.arrays (length m.arrays) k → Drives m k
  of_arrays k s = array_drives_at k s.at s.below (array_at m.arrays s.at).write refl s.here

  pub of_outs : (k : ℕ) → length m.outs ≡ 30 → OfOuts m.outs (length m.outs) k → Drives m k
  of_outs k e s = port_drives_at k s.at (let l = s.below in omega arith) (out_at m.outs s.at) refl s.here

  -- the drivers are the sum of these
  pub which_drives : (k : ℕ) → length m.outs ≡ 30 → Drives m k
      → ((OfWires m.wires (length m.wires) k ⊎ OfRegs m.regs (length m.regs) k) ⊎ OfArrays m.arrays (length m.arrays) k) ⊎ OfOuts m.outs (length m.outs) k
  which_drives k ports (OfWire w net l is e) = inl (inl (inl (record { at = w; below = l; here = is_driver (wire_at m.wires w).driver net k is e })))
  which_drives k ports (OfReg r net l is e) = inl (inl (inr (record { at = r; below = l; here = is_driver (reg_at m.regs r).next net k is e })))
  which_drives k ports (OfEnable a w l is e) = inl (inr (record { at = a; below = l; here = in_write (array_at m.arrays a).write w k is (inl e) }))
  which_drives k ports (OfAddr a w l is e) = inl (inr (record { at = a; below = l; here = in_write (array_at m.arrays a).write w k is (inr (inl e)) }))
  which_drives k ports (OfValue a w l is e) = inl (inr (record { at = a; below = l; here = in_write (array_at m.arrays a).write w k is (inr (inr e)) }))
  which_drives k ports (OfPort p net l is e) = inr (record { at = p; below = omega arith; here = is_driver (out_at m.outs p) net k is e })

  -- marks of the four kinds are those of the drivers
  pub mark_drivers : (a b c d e : List Bool) → length m.outs ≡ 30 → Marks (OfWires m.wires (length m.wires)) a b → Marks (OfRegs m.regs (length m.regs)) b c
      → Marks (OfArrays m.arrays (length m.arrays)) c d → Marks (OfOuts m.outs (length m.outs)) d e → Marks (Drives m) a e
  mark_drivers a b c d e ports wires regs arrays outs =
      let W : ℕ → Type 0 = OfWires m.wires (length m.wires) in
      let R : ℕ → Type 0 = OfRegs m.regs (length m.regs) in
      let A : ℕ → Type 0 = OfArrays m.arrays (length m.arrays) in
      let O : ℕ → Type 0 = OfOuts m.outs (length m.outs) in
      let inner : ℕ → Type 0 = λ k. (W k ⊎ R k) ⊎ A k in
      mark_then inner O (Drives m) a d e
      (λ k h. elim h [
        | inl h ↦ elim h [
          | inl w ↦ of_wires k w
          | inr r ↦ of_regs k r
        ]
        | inr x ↦ of_arrays k x
      ])
      (λ k o. of_outs k ports o)
      (λ k h. which_drives k ports h)
      (mark_both (λ k. W k ⊎ R k) A a c d (mark_both W R a b c wires regs) arrays)
      outs

  -- marks by lists that are the module's
  pub mark_lists : (ws : List WireRow) (rs : List RegRow) (xs : List ArrayRow) (os : List (Option Net)) (a b c d e : List Bool)
      → ws ≡ m.wires → rs ≡ m.regs → xs ≡ m.arrays → os ≡ m.outs → length m.outs ≡ 30
      → Marks (OfWires ws (length ws)) a b → Marks (OfRegs rs (length rs)) b c → Marks (OfArrays xs (length xs)) c d → Marks (OfOuts os (length os)) d e
      → Marks (Drives m) a e
  mark_lists ws rs xs os a b c d e ws_is rs_is xs_is os_is ports wires regs arrays outs =
      mark_drivers a b c d e ports
      (subst (λ (rows : List WireRow). Marks (OfWires rows (length rows)) a b) ws_is wires)
      (subst (λ (rows : List RegRow). Marks (OfRegs rows (length rows)) b c) rs_is regs)
      (subst (λ (rows : List ArrayRow). Marks (OfArrays rows (length rows)) c d) xs_is arrays)
      (subst (λ (rows : List (Option Net)). Marks (OfOuts rows (length rows)) d e) os_is outs)

  -- drivers are live
  module _ (pool : PoolValue) (fits : DriversFit m pool) where
    pub live_wires : (rows : List WireRow) → rows ≡ m.wires → (k : ℕ) → OfWires rows (length rows) k → k < length pool.nodes
    live_wires rows is k h =
        (driver_fits m pool fits k (of_wires k (subst (λ (rows : List WireRow). OfWires rows (length rows) k) is h))).live

    pub live_regs : (rows : List RegRow) → rows ≡ m.regs → (k : ℕ) → OfRegs rows (length rows) k → k < length pool.nodes
    live_regs rows is k h =
        (driver_fits m pool fits k (of_regs k (subst (λ (rows : List RegRow). OfRegs rows (length rows) k) is h))).live

    pub live_arrays : (rows : List ArrayRow) → rows ≡ m.arrays → (k : ℕ) → OfArrays rows (length rows) k → k < length pool.nodes
    live_arrays rows is k h =
        (driver_fits m pool fits k (of_arrays k (subst (λ (rows : List ArrayRow). OfArrays rows (length rows) k) is h))).live

    pub live_outs : (outs : List (Option Net)) → outs ≡ m.outs → length m.outs ≡ 30 → (k : ℕ) → OfOuts outs (length outs) k → k < length pool.nodes
    live_outs outs is ports k h =
        (driver_fits m pool fits k (of_outs k ports (subst (λ (outs : List (Option Net)). OfOuts outs (length outs) k) is h))).live

  part_reached : (nodes : List Node) (marks : List Bool) → ((k : ℕ) → IsMarked marks k → Drives m k) → (k : ℕ) → PartOf nodes marks k → Reached m nodes k
  part_reached nodes marks only k (Marked h) = Driver (only k h)
  part_reached nodes marks only k (Below j p c) = Child j (part_reached nodes marks only j p) c

  -- the marks of the drivers, made where nothing was marked, and of their parts
  pub mark_all : (nodes : List Node) (a b c : List Bool) → ((k : ℕ) → IsMarked a k → ⊥) → Marks (Drives m) a b → Closes nodes 0 b c → length c ≡ length nodes
      → AreMarks m nodes c
  mark_all nodes a b c none drivers parts many = record {
    many = many;
    drivers = λ k d. parts.kept k (drivers.made k d);
    children = λ k h. parts.closed k (omega arith) h;
    only = λ k h. part_reached nodes b (λ j is. elim (drivers.only j is) [
      | inl old ↦ absurd (none j old)
      | inr d ↦ d
    ]) k (parts.only k h);
  }
