-- Which of a module's names have not stood yet.
use Rattle.std.proofs.Common.{◌≡◌, ℕ, suc, ◌<◌, ◌≤◌, false, eqb, List, [], ◌∷◌, length, refl, ◌∙◌, arith}
use Rattle.std.proofs.lemmas.Bool.Decides.{nat_tests}
use Rattle.hw_pool.specs.declared.node.Node.{Node}
use Rattle.hw_module.specs.Rows.{ModuleValue}
use Rattle.module_netlist.specs.Names.{Thing, name_in, node_name, wire_name, reg_name, array_name, port_name, ThingIn, same_thing}
use Rattle.module_netlist.specs.Names.Thing.{NodeAt, WireAt, RegAt, ArrayAt, PortAt}
use Rattle.netlist_sound.proofs.Infos.{Differ}
use Rattle.netlist_sound.proofs.NameLists.{Names, NotIn, not_first}

apart : (k i : ℕ) → suc k ≤ i → eqb k i ≡ false
apart k i h = grind (arith, nat_tests)

module _ (m : ModuleValue) (live : List Node) (differ : Differ m live) where
  -- the names from these numbers on have not stood
  pub record Unseen (p w r a n : ℕ) (seen : Names) : Type 0 where
    pub ports : (i : ℕ) → p ≤ i → i < 30 → NotIn seen (port_name i)
    pub wires : (i : ℕ) → w ≤ i → i < length m.wires → NotIn seen (wire_name m i)
    pub regs : (i : ℕ) → r ≤ i → i < length m.regs → NotIn seen (reg_name m i)
    pub arrays : (i : ℕ) → a ≤ i → i < length m.arrays → NotIn seen (array_name m i)
    pub nodes : (i : ℕ) → n ≤ i → i < length live → NotIn seen (node_name i)

  pub nothing_seen : Unseen 0 0 0 0 0 []
  nothing_seen = record { ports = λ i l h. refl; wires = λ i l h. refl; regs = λ i l h. refl; arrays = λ i l h. refl; nodes = λ i l h. refl }

  -- another thing's name before those that have stood
  before : (b a : Thing) (seen : Names) → ThingIn m live b → ThingIn m live a → same_thing b a ≡ false → NotIn seen (name_in m a) → NotIn (name_in m b ∷ seen) (name_in m a)
  before b a seen hb ha e h = not_first (name_in m b) (name_in m a) seen (differ b a hb ha ∙ e) h

  module _ (p w r a n : ℕ) (seen : Names) (u : Unseen p w r a n seen) where
    pub port_seen : p < 30 → Unseen (suc p) w r a n (port_name p ∷ seen)
    port_seen b = record {
      ports = λ i l h. before (PortAt p) (PortAt i) seen b h (apart p i l) (u.ports i (omega arith) h);
      wires = λ i l h. before (PortAt p) (WireAt i) seen b h refl (u.wires i l h);
      regs = λ i l h. before (PortAt p) (RegAt i) seen b h refl (u.regs i l h);
      arrays = λ i l h. before (PortAt p) (ArrayAt i) seen b h refl (u.arrays i l h);
      nodes = λ i l h. before (PortAt p) (NodeAt i) seen b h refl (u.nodes i l h);
    }

    pub wire_seen : w < length m.wires → Unseen p (suc w) r a n (wire_name m w ∷ seen)
    wire_seen b = record {
      ports = λ i l h. before (WireAt w) (PortAt i) seen b h refl (u.ports i l h);
      wires = λ i l h. before (WireAt w) (WireAt i) seen b h (apart w i l) (u.wires i (omega arith) h);
      regs = λ i l h. before (WireAt w) (RegAt i) seen b h refl (u.regs i l h);
      arrays = λ i l h. before (WireAt w) (ArrayAt i) seen b h refl (u.arrays i l h);
      nodes = λ i l h. before (WireAt w) (NodeAt i) seen b h refl (u.nodes i l h);
    }

    pub reg_seen : r < length m.regs → Unseen p w (suc r) a n (reg_name m r ∷ seen)
    reg_seen b = record {
      ports = λ i l h. before (RegAt r) (PortAt i) seen b h refl (u.ports i l h);
      wires = λ i l h. before (RegAt r) (WireAt i) seen b h refl (u.wires i l h);
      regs = λ i l h. before (RegAt r) (RegAt i) seen b h (apart r i l) (u.regs i (omega arith) h);
      arrays = λ i l h. before (RegAt r) (ArrayAt i) seen b h refl (u.arrays i l h);
      nodes = λ i l h. before (RegAt r) (NodeAt i) seen b h refl (u.nodes i l h);
    }

    pub array_seen : a < length m.arrays → Unseen p w r (suc a) n (array_name m a ∷ seen)
    array_seen b = record {
      ports = λ i l h. before (ArrayAt a) (PortAt i) seen b h refl (u.ports i l h);
      wires = λ i l h. before (ArrayAt a) (WireAt i) seen b h refl (u.wires i l h);
      regs = λ i l h. before (ArrayAt a) (RegAt i) seen b h refl (u.regs i l h);
      arrays = λ i l h. before (ArrayAt a) (ArrayAt i) seen b h (apart a i l) (u.arrays i (omega arith) h);
      nodes = λ i l h. before (ArrayAt a) (NodeAt i) seen b h refl (u.nodes i l h);
    }

    pub node_seen : n < length live → Unseen p w r a (suc n) (node_name n ∷ seen)
    node_seen b = record {
      ports = λ i l h. before (NodeAt n) (PortAt i) seen b h refl (u.ports i l h);
      wires = λ i l h. before (NodeAt n) (WireAt i) seen b h refl (u.wires i l h);
      regs = λ i l h. before (NodeAt n) (RegAt i) seen b h refl (u.regs i l h);
      arrays = λ i l h. before (NodeAt n) (ArrayAt i) seen b h refl (u.arrays i l h);
      nodes = λ i l h. before (NodeAt n) (NodeAt i) seen b h (apart n i l) (u.nodes i (omega arith) h);
    }

    -- names that are passed over
    pub passed : (p' w' r' a' n' : ℕ) → p ≤ p' → w ≤ w' → r ≤ r' → a ≤ a' → n ≤ n' → Unseen p' w' r' a' n' seen
    passed p' w' r' a' n' hp hw hr ha hn = record {
      ports = λ i l h. u.ports i (omega arith) h;
      wires = λ i l h. u.wires i (omega arith) h;
      regs = λ i l h. u.regs i (omega arith) h;
      arrays = λ i l h. u.arrays i (omega arith) h;
      nodes = λ i l h. u.nodes i (omega arith) h;
    }
