-- Parts that are joined: who offers what, that each part meets its laws, and the runs of the whole.
use Rattle.std.specs.Prelude.{◌≡◌, ℕ, ◌<◌, Bool, true, false, List, is_some, Option, None, Some}
use Rattle.core_ports.specs.Ports.{is_input, name_of}
use Rattle.core_ports.specs.Trace.{Trace}
use Rattle.hw_pool.specs.Trees.{Tree}
use Rattle.hw_pool.specs.Meaning.{Env, value}
use Rattle.hw_module.specs.Ports.{port_at}
use Rattle.isa_model.specs.Machine.{Set}
use Rattle.service_reg.specs.declared.service.Service.TheVariants.{Fetch, Predict, Decoder, RegFile, Hazard, Exec, System}
use Rattle.plug_law.specs.Table.{Table}
use Rattle.plug_law.specs.Pipeline.{Shape, member}
use Rattle.plug_part.specs.Part.{PortTrees, Part, sees}
use Rattle.plug_part.specs.Runs.{IsPartRun}
use Rattle.plug_part.specs.Terms.{PartTerms}
use Rattle.plug_part.specs.Meets.{MeetsLaws}
use Rattle.pipe_law.specs.Core.{Core}

-- what plan and specs lay down of a core, and of each entry
pub record CoreTerms : Type 0 where
  pub set : Set
  pub table : Table
  pub reset_pc : ℕ
  pub stages : ℕ
  -- how many entries there are, and those that offer Exec, in the order of the registry
  pub count : ℕ
  pub execs : List ℕ
  -- the entry that a row belongs to
  pub owner : (row : ℕ) → ℕ
  -- of each entry: the rows that it takes, whether it works in the stage that commits, whether it offers DataBus, its latency
  pub claims : (entry row : ℕ) → Bool
  pub commits : (entry : ℕ) → Bool
  pub holds : (entry : ℕ) → Bool
  pub latency : (entry : ℕ) → ℕ × ℕ

-- the services: the entry that offers each, and its ports
pub record Services : Type 0 where
  pub fetch : ℕ × PortTrees
  -- as the part that offers Fetch takes it, where it does
  pub predict : Option (ℕ × PortTrees)
  pub decoder : ℕ × PortTrees
  pub regs : ℕ × PortTrees
  pub hazard : ℕ × PortTrees
  pub exec : (entry : ℕ) → PortTrees
  pub data_entry : Option ℕ
  pub system : Option (ℕ × PortTrees)

abbrev pub ports_in : Option (ℕ × PortTrees) → Option PortTrees
ports_in None = None
ports_in (Some e) = Some e.1

abbrev pub entry_in : Option (ℕ × PortTrees) → ℕ
entry_in None = 0
entry_in (Some e) = e.0

-- what is laid down of an entry
abbrev pub terms_in : CoreTerms → (entry : ℕ) → PartTerms
terms_in v k = record {
  set = v.set;
  owner = v.owner;
  reset_pc = v.reset_pc;
  terms = record { table = v.table; claims = v.claims k; commits = v.commits k; holds = v.holds k; latency = v.latency k };
}

abbrev pub shape_in : CoreTerms → Services → Shape
shape_in v x = record { entries = v.execs; commits = v.commits; system = is_some x.system; holds = is_some x.data_entry; reset_pc = v.reset_pc; stages = v.stages }

-- the core of which the theorem of the pipeline speaks
abbrev pub core_in : CoreTerms → Services → (predict : ℕ → ℕ → ℕ) (bypassed : ℕ → Bool) (start : List ℕ) → Core
core_in v x predict bypassed start = record {
  set = v.set;
  table = v.table;
  shape = shape_in v x;
  owner = v.owner;
  claims = v.claims;
  holds = v.holds;
  latency = v.latency;
  system_entry = entry_in x.system;
  fetch_latency = v.latency x.fetch.0;
  predicts = is_some (ports_in x.predict);
  predict = predict;
  bypassed = bypassed;
  start = start;
}

-- an entry below the count offers the service, with these ports
pub record IsOfferedBy (v : CoreTerms) (e : ℕ × PortTrees) (offered : Option PortTrees) : Type 0 where
  pub there : e.0 < v.count
  pub is : offered ≡ Some e.1

-- a part drives an output of the core
pub record HasOut (p : Part) (q : ℕ) : Type 0 where
  pub tree : Tree
  pub is : p.outs q ≡ Some tree

-- parts by entry
pub record AreJoined (v : CoreTerms) (part : ℕ → Part) (x : Services) : Type 0 where
  pub meets : (i : ℕ) → i < v.count → MeetsLaws (terms_in v i) (part i)
  pub fetch : IsOfferedBy v x.fetch ((part x.fetch.0).offers Fetch)
  pub predict : (e : ℕ × PortTrees) → x.predict ≡ Some e → IsOfferedBy v e ((part e.0).offers Predict)
  pub decoder : IsOfferedBy v x.decoder ((part x.decoder.0).offers Decoder)
  pub regs : IsOfferedBy v x.regs ((part x.regs.0).offers RegFile)
  pub hazard : IsOfferedBy v x.hazard ((part x.hazard.0).offers Hazard)
  pub execs : (k : ℕ) → member k v.execs ≡ true → IsOfferedBy v (k, x.exec k) ((part k).offers Exec)
  pub system : (e : ℕ × PortTrees) → x.system ≡ Some e → IsOfferedBy v e ((part e.0).offers System)
  -- who offers System offers Exec, and no other offers System
  pub system_exec : (e : ℕ × PortTrees) → x.system ≡ Some e → (part e.0).offers Exec ≡ Some (x.exec e.0)
  pub system_only : (k : ℕ) (y : PortTrees) → (part k).offers System ≡ Some y → x.system ≡ Some (k, y)
  pub has_system : v.set.system ≡ is_some x.system
  -- the same ports as others take them
  pub fetch_sees : sees (part x.fetch.0) Predict ≡ ports_in x.predict
  pub hazard_sees : sees (part x.hazard.0) RegFile ≡ Some x.regs.1
  -- the outputs of the buses are driven
  pub fetch_outs : HasOut (part x.fetch.0) 2 × HasOut (part x.fetch.0) 4
  pub data_outs : (k : ℕ) → v.holds k ≡ true → HasOut (part k) 8 × HasOut (part k) 10 × HasOut (part k) 11 × HasOut (part k) 12 × HasOut (part k) 13

-- numbers for all things that are a run of each part, with what they show on the core's ports
pub record RunsParts (part : ℕ → Part) (run : ℕ → Env) (run' : Trace) : Type 0 where
  pub parts : (i : ℕ) → IsPartRun (part i) run
  pub inputs : (k q : ℕ) → q < 30 → is_input (port_at q) ≡ true → run' k (name_of (port_at q)) ≡ (run k).inputs q
  pub outs : (i q : ℕ) (t : Tree) → q < 30 → is_input (port_at q) ≡ false → (part i).outs q ≡ Some t → (k : ℕ) → run' k (name_of (port_at q)) ≡ value (run k) t
