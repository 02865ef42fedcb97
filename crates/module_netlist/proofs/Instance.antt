-- The small module of Examples is one that the laws speak of: it is checked, and its marks are those of its nodes.
use Rattle.std.proofs.Common.{◌≡◌, ◌∙◌, ℕ, zero, suc, ◌+◌, ◌^◌, ◌<◌, ◌≤◌, Bool, true, false, List, [], ◌∷◌, length, get_or, Option, Some, None, refl, subst, sym, arith, inl, inr}
use Rattle.std.proofs.lemmas.Bool.{cases_lt}
use Rattle.std.proofs.lemmas.List.{get_or_past}
use Rattle.core_ports.specs.Ports.{is_input}
use Rattle.hw_pool.specs.declared.node.Node.{Node}
use Rattle.hw_pool.specs.declared.node.Op.TheVariants as op
use Rattle.hw_pool.specs.Nodes.{PoolValue, EachChild, IsWidth, AreChildren, IsPool}
use Rattle.hw_pool.specs.Trees.{tree_of, unfold_to}
use Rattle.hw_expr.specs.declared.net.Net.{Net}
use Rattle.hw_module.specs.declared.rows.WireRow.{WireRow}
use Rattle.hw_module.specs.declared.rows.RegRow.{RegRow}
use Rattle.hw_module.specs.declared.rows.ArrayRow.{ArrayRow}
use Rattle.hw_module.specs.declared.rows.ArrayWrite.{ArrayWrite}
use Rattle.hw_module.specs.Ports.{port_at}
use Rattle.hw_module.specs.Rows.{wire_at, reg_at, array_at, out_at, IsReset, IsOwner, IsModule}
use Rattle.hw_module.specs.Fits.{InputFits, RegFits, FitsIn}
use Rattle.hw_module.specs.Driven.{IsDriven}
use Rattle.hw_module.specs.Checked.{DrivesWire, DrivesReg, DrivesArray, DrivesPort, DriversFit}
use Rattle.hw_module.specs.Reached.{Drives, Reached, AreMarks}
use Rattle.hw_module.specs.Reached.Drives.{OfWire, OfReg, OfEnable, OfAddr, OfValue, OfPort}
use Rattle.hw_module.specs.Reached.Reached.{Driver, Child}
use Rattle.module_netlist.specs.Written.{IsWritten}
use Rattle.module_netlist.proofs.Examples.{by, nodes, marks, small}

abbrev pub pool : PoolValue
pool = record { nodes = nodes; spare = 0 }

-- ---- what holds of each in a list, by number

abbrev AllFrom : {A : Type 0} → (ℕ → A → Type 0) → ℕ → List A → Type 0
AllFrom P k [] = Unit {0}
AllFrom P k (a ∷ rest) = P k a × AllFrom P (suc k) rest

all_from : {A : Type 0} (P : ℕ → A → Type 0) (d : A) (list : List A) (j k : ℕ) → AllFrom P j list → k < length list → P (j + k) (get_or list k d)
all_from P d [] j k h l = absurd (omega arith)
all_from P d (a ∷ rest) j zero h l = subst (λ i. P i a) (omega arith) h.0
all_from P d (a ∷ rest) j (suc k) h l = subst (λ i. P i (get_or rest k d)) (omega arith) (all_from P d rest (suc j) k h.1 (omega arith))

all_at : {A : Type 0} (P : ℕ → A → Type 0) (d : A) (list : List A) (k : ℕ) → AllFrom P 0 list → k < length list → P k (get_or list k d)
all_at P d list k h l = subst (λ i. P i (get_or list k d)) (omega arith) (all_from P d list 0 k h l)

beyond : (list : List Bool) (k : ℕ) → length list ≤ k → get_or list k false ≡ false
beyond [] k h = refl
beyond (b ∷ rest) zero h = absurd (omega arith)
beyond (b ∷ rest) (suc k) h = beyond rest k (omega arith)

of_some : {A : Type 0} (P : A → Type 0) (a b : A) → P a → Some a ≡ Some b → P b
of_some P a b p e = let q : a ≡ b = cc in subst P q p

of_none : {A : Type 0} (P : A → Type 0) (b : A) → None ≡ Some b → P b
of_none P b e = absurd (cc)

not_some : {A : Type 0} (a : A) → Some a ≡ None → ⊥
not_some a e = cc

not_true : true ≡ false → ⊥
not_true e = cc

-- ---- the pool and the rows

pool_is : IsPool nodes
pool_is = record {
  few = omega arith;
  widths = λ k h. all_at (λ i (n : Node). IsWidth n.width) _ nodes k (
    (omega arith, omega arith),
    (
      (omega arith, omega arith),
      (
        (omega arith, omega arith),
        (
          (omega arith, omega arith),
          (
            (omega arith, omega arith),
            (
              (omega arith, omega arith),
              (
                (omega arith, omega arith),
                (
                  (omega arith, omega arith),
                  ((omega arith, omega arith), ((omega arith, omega arith), ((omega arith, omega arith), ((omega arith, omega arith), tt)))),
                ),
              ),
            ),
          ),
        ),
      ),
    ),
  ) h;
  children = λ k h. all_at (λ i (n : Node). AreChildren nodes i n.level n.op) _ nodes k (
    tt,
    (
      tt,
      (
        ((omega arith, omega arith), (omega arith, omega arith)),
        (
          tt,
          (
            tt,
            (
              (omega arith, omega arith),
              ((omega arith, omega arith), ((omega arith, omega arith), (((omega arith, omega arith), (omega arith, omega arith), (omega arith, omega arith)), (tt, (tt, (tt, tt)))))),
            ),
          ),
        ),
      ),
    ),
  ) h;
}

reset_some : (width v : ℕ) → v < 2 ^ width → IsReset width (Some v)
reset_some width v l u e = of_some (λ x. x < 2 ^ width) v u l e

reset_none : (width : ℕ) → IsReset width None
reset_none width u e = of_none (λ x. x < 2 ^ width) u e

-- ---- each net fits

input_fits : InputFits 1 3
unfolding port_at
input_fits = record { readable = record { least = omega arith; most = omega arith; input = refl }; width = refl }

reg_fits : RegFits small 8 0
reg_fits = record { there = omega arith; width = refl }

net_2 : FitsIn small pool (by 2 8 0)
unfolding tree_of unfold_to
net_2 = record {
  is = record { live = omega arith; node_width = refl; level = refl; width = refl; least = omega arith; most = omega arith; fits = ((omega arith, omega arith), refl, refl, (omega arith, omega arith), ((omega arith, omega arith), omega arith)) };
  tree = (reg_fits, tt);
}

net_4 : FitsIn small pool (by 4 1 0)
unfolding tree_of unfold_to
net_4 = record {
  is = record { live = omega arith; node_width = refl; level = refl; width = refl; least = omega arith; most = omega arith; fits = (omega arith, omega arith) };
  tree = input_fits;
}

net_5 : FitsIn small pool (by 5 2 0)
unfolding tree_of unfold_to
net_5 = record {
  is = record { live = omega arith; node_width = refl; level = refl; width = refl; least = omega arith; most = omega arith; fits = (omega arith, omega arith, omega arith, (omega arith, omega arith)) };
  tree = reg_fits;
}

net_8 : FitsIn small pool (by 8 8 1)
unfolding tree_of unfold_to
net_8 = record {
  is = record { live = omega arith; node_width = refl; level = refl; width = refl; least = omega arith; most = omega arith; fits = ((omega arith, omega arith), refl, refl, refl, (omega arith, omega arith), (omega arith, omega arith), ((omega arith, omega arith), (omega arith, omega arith, omega arith, (omega arith, omega arith)))) };
  tree = (input_fits, record { there = omega arith; width = refl; level = omega arith }, (record { there = omega arith; width = refl; bits = refl }, reg_fits));
}

net_9 : FitsIn small pool (by 9 32 0)
unfolding tree_of unfold_to
net_9 = record {
  is = record { live = omega arith; node_width = refl; level = refl; width = refl; least = omega arith; most = omega arith; fits = ((omega arith, omega arith), omega arith) };
  tree = tt;
}

net_10 : FitsIn small pool (by 10 4 0)
unfolding tree_of unfold_to
net_10 = record {
  is = record { live = omega arith; node_width = refl; level = refl; width = refl; least = omega arith; most = omega arith; fits = ((omega arith, omega arith), omega arith) };
  tree = tt;
}

net_11 : FitsIn small pool (by 11 5 0)
unfolding tree_of unfold_to
net_11 = record {
  is = record { live = omega arith; node_width = refl; level = refl; width = refl; least = omega arith; most = omega arith; fits = ((omega arith, omega arith), omega arith) };
  tree = tt;
}

-- ---- the module is checked

outs_fit : AllFrom (λ i o. (n : Net) → o ≡ Some n → DrivesPort small pool i n) 0 small.outs
unfolding port_at
outs_fit = (
  (λ n e. of_none (DrivesPort small pool 0) n e),
  (
    (λ n e. of_none (DrivesPort small pool 1) n e),
    (
      (λ n e. of_some (DrivesPort small pool 2) (by 4 1 0) n (record { output = refl; fits = net_4; width = refl }) e),
      (
        (λ n e. of_none (DrivesPort small pool 3) n e),
        (
          (λ n e. of_some (DrivesPort small pool 4) (by 9 32 0) n (record { output = refl; fits = net_9; width = refl }) e),
          (
            (λ n e. of_none (DrivesPort small pool 5) n e),
            (
              (λ n e. of_none (DrivesPort small pool 6) n e),
              (
                (λ n e. of_none (DrivesPort small pool 7) n e),
                (
                  (λ n e. of_some (DrivesPort small pool 8) (by 4 1 0) n (record { output = refl; fits = net_4; width = refl }) e),
                  (
                    (λ n e. of_none (DrivesPort small pool 9) n e),
                    (
                      (λ n e. of_some (DrivesPort small pool 10) (by 4 1 0) n (record { output = refl; fits = net_4; width = refl }) e),
                      (
                        (λ n e. of_some (DrivesPort small pool 11) (by 9 32 0) n (record { output = refl; fits = net_9; width = refl }) e),
                        (
                          (λ n e. of_some (DrivesPort small pool 12) (by 9 32 0) n (record { output = refl; fits = net_9; width = refl }) e),
                          (
                            (λ n e. of_some (DrivesPort small pool 13) (by 10 4 0) n (record { output = refl; fits = net_10; width = refl }) e),
                            (
                              (λ n e. of_none (DrivesPort small pool 14) n e),
                              (
                                (λ n e. of_none (DrivesPort small pool 15) n e),
                                (
                                  (λ n e. of_none (DrivesPort small pool 16) n e),
                                  (
                                    (λ n e. of_none (DrivesPort small pool 17) n e),
                                    (
                                      (λ n e. of_none (DrivesPort small pool 18) n e),
                                      (
                                        (λ n e. of_none (DrivesPort small pool 19) n e),
                                        (
                                          (λ n e. of_some (DrivesPort small pool 20) (by 4 1 0) n (record { output = refl; fits = net_4; width = refl }) e),
                                          (
                                            (λ n e. of_some (DrivesPort small pool 21) (by 5 2 0) n (record { output = refl; fits = net_5; width = refl }) e),
                                            (
                                              (λ n e. of_some (DrivesPort small pool 22) (by 9 32 0) n (record { output = refl; fits = net_9; width = refl }) e),
                                              (
                                                (λ n e. of_some (DrivesPort small pool 23) (by 9 32 0) n (record { output = refl; fits = net_9; width = refl }) e),
                                                (
                                                  (λ n e. of_some (DrivesPort small pool 24) (by 11 5 0) n (record { output = refl; fits = net_11; width = refl }) e),
                                                  (
                                                    (λ n e. of_some (DrivesPort small pool 25) (by 9 32 0) n (record { output = refl; fits = net_9; width = refl }) e),
                                                    (
                                                      (λ n e. of_some (DrivesPort small pool 26) (by 9 32 0) n (record { output = refl; fits = net_9; width = refl }) e),
                                                      (
                                                        (λ n e. of_some (DrivesPort small pool 27) (by 4 1 0) n (record { output = refl; fits = net_4; width = refl }) e),
                                                        (
                                                          (λ n e. of_some (DrivesPort small pool 28) (by 4 1 0) n (record { output = refl; fits = net_4; width = refl }) e),
                                                          ((λ n e. of_some (DrivesPort small pool 29) (by 9 32 0) n (record { output = refl; fits = net_9; width = refl }) e), tt),
                                                        ),
                                                      ),
                                                    ),
                                                  ),
                                                ),
                                              ),
                                            ),
                                          ),
                                        ),
                                      ),
                                    ),
                                  ),
                                ),
                              ),
                            ),
                          ),
                        ),
                      ),
                    ),
                  ),
                ),
              ),
            ),
          ),
        ),
      ),
    ),
  ),
)

drivers_fit : DriversFit small pool
drivers_fit = record {
  wires = λ k n h e. all_at (λ i (r : WireRow). (n : Net) → r.driver ≡ Some n → DrivesWire small pool r n) _ small.wires k
      ((λ n e. of_some (DrivesWire small pool _) (by 2 8 0) n (record { fits = net_2; width = refl; below = omega arith }) e), tt) h n e;
  regs = λ k n h e. all_at (λ i (r : RegRow). (n : Net) → r.next ≡ Some n → DrivesReg small pool r n) _ small.regs k
      ((λ n e. of_some (DrivesReg small pool _) (by 8 8 1) n (record { fits = net_8; width = refl }) e), ((λ n e. of_some (DrivesReg small pool _) (by 4 1 0) n (record { fits = net_4; width = refl }) e), tt)) h n e;
  arrays = λ k v h e. all_at (λ i (r : ArrayRow). (v : ArrayWrite) → r.write ≡ Some v → DrivesArray small pool r v) _ small.arrays k
      ((λ v e. of_some (DrivesArray small pool _) (record { enable = by 4 1 0; addr = by 5 2 0; value = by 8 8 1 }) v (record { enable = net_4; addr = net_5; value = net_8; bit = refl; bits = refl; width = refl }) e), tt) h v e;
  outs = λ k n h e. all_at (λ i (o : Option Net). (n : Net) → o ≡ Some n → DrivesPort small pool i n) None small.outs k outs_fit h n e;
}

-- what is driven is an output
no_driver : (k : ℕ) → is_input (port_at k) ≡ true → out_at small.outs k ≡ None
no_driver k input = elim (cases_lt k 30) [
  | inl there ↦ bare there (out_at small.outs k) refl
  | inr past ↦ get_or_past small.outs k None past
]
  where
    bare : k < 30 → (o : Option Net) → out_at small.outs k ≡ o → o ≡ None
    bare there None e = refl
    bare there (Some n) e = absurd (let no : true ≡ false = sym input ∙ (drivers_fit.outs k n there e).output in cc)

module_is : IsModule small
module_is = record {
  wires = λ k h. all_at (λ i (r : WireRow). IsWidth r.width) _ small.wires k ((omega arith, omega arith), tt) h;
  regs = λ k h. all_at (λ i (r : RegRow). IsWidth r.width) _ small.regs k ((omega arith, omega arith), ((omega arith, omega arith), tt)) h;
  resets = λ k h. all_at (λ i (r : RegRow). IsReset r.width r.reset) _ small.regs k (reset_some 8 5 (omega arith), (reset_none 1, tt)) h;
  arrays = λ k h. all_at (λ i (r : ArrayRow). IsWidth r.width) _ small.arrays k ((omega arith, omega arith), tt) h;
  bits_least = λ k h. all_at (λ i (r : ArrayRow). 1 ≤ r.bits) _ small.arrays k (omega arith, tt) h;
  bits_most = λ k h. all_at (λ i (r : ArrayRow). r.bits ≤ 16) _ small.arrays k (omega arith, tt) h;
  ports = refl;
  inputs = no_driver;
  wire_owners = λ k h. all_at (λ i (r : WireRow). IsOwner r.owner) _ small.wires k (omega arith, tt) h;
  reg_owners = λ k h. all_at (λ i (r : RegRow). IsOwner r.owner) _ small.regs k (tt, (omega arith, tt)) h;
  array_owners = λ k h. all_at (λ i (r : ArrayRow). IsOwner r.owner) _ small.arrays k (omega arith, tt) h;
}

outs_driven : AllFrom (λ i (o : Option Net). (is_input (port_at i) ≡ false) × (o ≡ None) → ⊥) 0 small.outs
unfolding port_at
outs_driven = (
  (λ h. not_true h.0),
  (
    (λ h. not_true h.0),
    (
      (λ h. not_some (by 4 1 0) h.1),
      (
        (λ h. not_true h.0),
        (
          (λ h. not_some (by 9 32 0) h.1),
          (
            (λ h. not_true h.0),
            (
              (λ h. not_true h.0),
              (
                (λ h. not_true h.0),
                (
                  (λ h. not_some (by 4 1 0) h.1),
                  (
                    (λ h. not_true h.0),
                    (
                      (λ h. not_some (by 4 1 0) h.1),
                      (
                        (λ h. not_some (by 9 32 0) h.1),
                        (
                          (λ h. not_some (by 9 32 0) h.1),
                          (
                            (λ h. not_some (by 10 4 0) h.1),
                            (
                              (λ h. not_true h.0),
                              (
                                (λ h. not_true h.0),
                                (
                                  (λ h. not_true h.0),
                                  (
                                    (λ h. not_true h.0),
                                    (
                                      (λ h. not_true h.0),
                                      (
                                        (λ h. not_true h.0),
                                        (
                                          (λ h. not_some (by 4 1 0) h.1),
                                          (
                                            (λ h. not_some (by 5 2 0) h.1),
                                            (
                                              (λ h. not_some (by 9 32 0) h.1),
                                              (
                                                (λ h. not_some (by 9 32 0) h.1),
                                                (
                                                  (λ h. not_some (by 11 5 0) h.1),
                                                  ((λ h. not_some (by 9 32 0) h.1), ((λ h. not_some (by 9 32 0) h.1), ((λ h. not_some (by 4 1 0) h.1), ((λ h. not_some (by 4 1 0) h.1), ((λ h. not_some (by 9 32 0) h.1), tt))))),
                                                ),
                                              ),
                                            ),
                                          ),
                                        ),
                                      ),
                                    ),
                                  ),
                                ),
                              ),
                            ),
                          ),
                        ),
                      ),
                    ),
                  ),
                ),
              ),
            ),
          ),
        ),
      ),
    ),
  ),
)

driven : IsDriven small
driven = record {
  wires = λ k h e. all_at (λ i (r : WireRow). r.driver ≡ None → ⊥) _ small.wires k ((λ e. not_some (by 2 8 0) e), tt) h e;
  regs = λ k h e. all_at (λ i (r : RegRow). r.next ≡ None → ⊥) _ small.regs k ((λ e. not_some (by 8 8 1) e), ((λ e. not_some (by 4 1 0) e), tt)) h e;
  arrays = λ k h e. all_at (λ i (r : ArrayRow). r.write ≡ None → ⊥) _ small.arrays k ((λ e. not_some (record { enable = by 4 1 0; addr = by 5 2 0; value = by 8 8 1 }) e), tt) h e;
  outs = λ k h e. all_at (λ i (o : Option Net). (is_input (port_at i) ≡ false) × (o ≡ None) → ⊥) None small.outs k outs_driven h e;
}

pub small_written : IsWritten small pool
small_written = record { module' = module_is; nodes = pool_is; checked = record { driven = driven; fits = drivers_fit }; few = omega arith }

-- ---- its marks

reached_2 : Reached small nodes 2
reached_2 = Driver (OfWire 0 (by 2 8 0) (omega arith) refl refl)

reached_4 : Reached small nodes 4
reached_4 = Driver (OfReg 1 (by 4 1 0) (omega arith) refl refl)

reached_5 : Reached small nodes 5
reached_5 = Driver (OfAddr 0 (record { enable = by 4 1 0; addr = by 5 2 0; value = by 8 8 1 }) (omega arith) refl refl)

reached_8 : Reached small nodes 8
reached_8 = Driver (OfReg 0 (by 8 8 1) (omega arith) refl refl)

reached_9 : Reached small nodes 9
reached_9 = Driver (OfPort 4 (by 9 32 0) (omega arith) refl refl)

reached_10 : Reached small nodes 10
reached_10 = Driver (OfPort 13 (by 10 4 0) (omega arith) refl refl)

reached_11 : Reached small nodes 11
reached_11 = Driver (OfPort 24 (by 11 5 0) (omega arith) refl refl)

reached_0 : Reached small nodes 0
reached_0 = Child 2 reached_2 (inl refl)

reached_1 : Reached small nodes 1
reached_1 = Child 2 reached_2 (inr refl)

reached_3 : Reached small nodes 3
reached_3 = Child 8 reached_8 (inr (inl refl))

reached_6 : Reached small nodes 6
reached_6 = Child 8 reached_8 (inr (inr refl))

abbrev IsMarked : ℕ → Type 0
IsMarked k = get_or marks k false ≡ true

abbrev NetIsMarked : Option Net → Type 0
NetIsMarked o = (n : Net) → o ≡ Some n → IsMarked n.id.0

marked : (k width level : ℕ) → IsMarked k → NetIsMarked (Some (by k width level))
marked k width level h n e = of_some (λ (n : Net). IsMarked n.id.0) (by k width level) n h e

not_marked : NetIsMarked None
not_marked n e = of_none (λ (n : Net). IsMarked n.id.0) n e

abbrev WriteIsMarked : Option ArrayWrite → Type 0
WriteIsMarked o = (v : ArrayWrite) → o ≡ Some v → IsMarked v.enable.id.0 × IsMarked v.addr.id.0 × IsMarked v.value.id.0

write_marked : (v : ArrayWrite) → IsMarked v.enable.id.0 × IsMarked v.addr.id.0 × IsMarked v.value.id.0 → WriteIsMarked (Some v)
write_marked v h u e = of_some (λ (v : ArrayWrite). IsMarked v.enable.id.0 × IsMarked v.addr.id.0 × IsMarked v.value.id.0) v u h e

wires_marked : (k : ℕ) → k < 1 → NetIsMarked (wire_at small.wires k).driver
wires_marked k h = all_at (λ i (r : WireRow). NetIsMarked r.driver) _ small.wires k (marked 2 8 0 refl, tt) h

regs_marked : (k : ℕ) → k < 2 → NetIsMarked (reg_at small.regs k).next
regs_marked k h = all_at (λ i (r : RegRow). NetIsMarked r.next) _ small.regs k (marked 8 8 1 refl, (marked 4 1 0 refl, tt)) h

writes_marked : (k : ℕ) → k < 1 → WriteIsMarked (array_at small.arrays k).write
writes_marked k h = all_at (λ i (r : ArrayRow). WriteIsMarked r.write) _ small.arrays k (write_marked _ (refl, refl, refl), tt) h

outs_marked : (k : ℕ) → k < 30 → NetIsMarked (out_at small.outs k)
outs_marked k h = all_at (λ i o. NetIsMarked o) None small.outs k (
  not_marked,
  (
    not_marked,
    (
      marked 4 1 0 refl,
      (
        not_marked,
        (
          marked 9 32 0 refl,
          (
            not_marked,
            (
              not_marked,
              (
                not_marked,
                (
                  marked 4 1 0 refl,
                  (
                    not_marked,
                    (
                      marked 4 1 0 refl,
                      (
                        marked 9 32 0 refl,
                        (
                          marked 9 32 0 refl,
                          (
                            marked 10 4 0 refl,
                            (
                              not_marked,
                              (
                                not_marked,
                                (
                                  not_marked,
                                  (
                                    not_marked,
                                    (
                                      not_marked,
                                      (
                                        not_marked,
                                        (
                                          marked 4 1 0 refl,
                                          (
                                            marked 5 2 0 refl,
                                            (
                                              marked 9 32 0 refl,
                                              (
                                                marked 9 32 0 refl,
                                                (marked 11 5 0 refl, (marked 9 32 0 refl, (marked 9 32 0 refl, (marked 4 1 0 refl, (marked 4 1 0 refl, (marked 9 32 0 refl, tt)))))),
                                              ),
                                            ),
                                          ),
                                        ),
                                      ),
                                    ),
                                  ),
                                ),
                              ),
                            ),
                          ),
                        ),
                      ),
                    ),
                  ),
                ),
              ),
            ),
          ),
        ),
      ),
    ),
  ),
) h

drives_marked : (k : ℕ) → Drives small k → IsMarked k
drives_marked k (OfWire w n h e i) = subst IsMarked i (wires_marked w h n e)
drives_marked k (OfReg r n h e i) = subst IsMarked i (regs_marked r h n e)
drives_marked k (OfEnable a v h e i) = subst IsMarked i (writes_marked a h v e).0
drives_marked k (OfAddr a v h e i) = subst IsMarked i (writes_marked a h v e).1
drives_marked k (OfValue a v h e i) = subst IsMarked i (writes_marked a h v e).2
drives_marked k (OfPort p n h e i) = subst IsMarked i (outs_marked p h n e)

not_beyond : (k : ℕ) → 12 ≤ k → IsMarked k → ⊥
not_beyond k l h = let e : get_or marks k false ≡ false = beyond marks k l in not_true (cc)

pub small_marks : AreMarks small nodes marks
small_marks = record {
  many = refl;
  drivers = drives_marked;
  children = λ k h. elim (cases_lt k 12) [
    | inl l ↦ all_at (λ i (n : Node). IsMarked i → EachChild IsMarked n.op) _ nodes k (
      (λ e. tt),
      (
        (λ e. tt),
        (
          (λ e. (refl, refl)),
          (
            (λ e. tt),
            (
              (λ e. tt),
              (
                (λ e. refl),
                ((λ e. refl), ((λ e. refl), ((λ e. (refl, refl, refl)), ((λ e. tt), ((λ e. tt), ((λ e. tt), tt)))))),
              ),
            ),
          ),
        ),
      ),
    ) l h
    | inr l ↦ absurd (not_beyond k l h)
  ];
  only = λ k h. elim (cases_lt k 12) [
    | inl l ↦ all_at (λ i (n : Node). IsMarked i → Reached small nodes i) (record { op = op.Lit 0; width = 1; level = 0 }) nodes k (
      (λ e. reached_0),
      (
        (λ e. reached_1),
        (
          (λ e. reached_2),
          (
            (λ e. reached_3),
            (
              (λ e. reached_4),
              (
                (λ e. reached_5),
                (
                  (λ e. reached_6),
                  (
                    (λ e. absurd (cc)),
                    ((λ e. reached_8), ((λ e. reached_9), ((λ e. reached_10), ((λ e. reached_11), tt)))),
                  ),
                ),
              ),
            ),
          ),
        ),
      ),
    ) l h
    | inr l ↦ absurd (not_beyond k l h)
  ];
}
