-- The names of a module's things in its text: n5, and p3_w1, p3_r0 and p3_a0 of entry 3, and s_w1 of the pipeline.
use Rattle.std.specs.Prelude.{ℕ, ◌<◌, Bool, false, eqb, List, ◌++◌, length, codes}
use Rattle.std.specs.Fmt.{decimal}
use Rattle.core_ports.specs.Ports.{name_of}
use Rattle.hw_pool.specs.declared.node.Node.{Node}
use Rattle.hw_module.specs.declared.rows.Owner.{Owner}
use Rattle.hw_module.specs.declared.rows.Owner.TheVariants.{Pipe, Entry}
use Rattle.hw_module.specs.Ports.{port_at}
use Rattle.hw_module.specs.Rows.{ModuleValue, wire_at, reg_at, array_at}

abbrev pub owner_name : Owner → List ℕ
owner_name Pipe = codes "s"
owner_name (Entry entry) = codes "p" ++ decimal entry

abbrev pub node_name : ℕ → List ℕ
node_name k = codes "n" ++ decimal k

abbrev pub wire_name : ModuleValue → ℕ → List ℕ
wire_name m w = owner_name (wire_at m.wires w).owner ++ (codes "_w" ++ decimal w)

abbrev pub reg_name : ModuleValue → ℕ → List ℕ
reg_name m r = owner_name (reg_at m.regs r).owner ++ (codes "_r" ++ decimal r)

abbrev pub array_name : ModuleValue → ℕ → List ℕ
array_name m a = owner_name (array_at m.arrays a).owner ++ (codes "_a" ++ decimal a)

abbrev pub port_name : ℕ → List ℕ
port_name p = name_of (port_at p)

-- the things that have names
pub data Thing : Type 0 where
  NodeAt : ℕ → Thing
  WireAt : ℕ → Thing
  RegAt : ℕ → Thing
  ArrayAt : ℕ → Thing
  PortAt : ℕ → Thing

abbrev pub name_in : ModuleValue → Thing → List ℕ
name_in m (NodeAt k) = node_name k
name_in m (WireAt w) = wire_name m w
name_in m (RegAt r) = reg_name m r
name_in m (ArrayAt a) = array_name m a
name_in m (PortAt p) = port_name p

-- the thing is one of the module and its nodes
abbrev pub ThingIn : ModuleValue → List Node → Thing → Type 0
ThingIn m nodes (NodeAt k) = k < length nodes
ThingIn m nodes (WireAt w) = w < length m.wires
ThingIn m nodes (RegAt r) = r < length m.regs
ThingIn m nodes (ArrayAt a) = a < length m.arrays
ThingIn m nodes (PortAt p) = p < 30

abbrev pub same_thing : Thing → Thing → Bool
same_thing (NodeAt a) (NodeAt b) = eqb a b
same_thing (WireAt a) (WireAt b) = eqb a b
same_thing (RegAt a) (RegAt b) = eqb a b
same_thing (ArrayAt a) (ArrayAt b) = eqb a b
same_thing (PortAt a) (PortAt b) = eqb a b
same_thing _ _ = false
