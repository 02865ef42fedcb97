-- A run of the core over an image: on which tree and memory, what it shows, and which machine run it follows.
use Rattle.std.specs.Prelude.{◌≡◌, ℕ, ◌-◌, List, [], ◌∷◌, ◌++◌, length, replicate}
use Rattle.core_ports.specs.Trace.{Trace}
use Rattle.bus_law.specs.Memory.{Memory}
use Rattle.stage_map.specs.declared.config.MemShape.{MemShape}
use Rattle.stage_map.specs.declared.config.Config.{Config}
use Rattle.isa_model.specs.Machine.{Set, machine_from}
use Rattle.plug_part.specs.Terms.{set_from}
use Rattle.plug_api.specs.declared.spec.Plan.{Plan}
use Rattle.core_gen.specs.Generated.{IsGenerated}
use Rattle.verilog_tree.specs.declared.tree.Tree.{Tree}
use Rattle.verilog_mean.specs.Erase.{plain_tree}
use Rattle.verilog_mean.specs.Plain.{Plain}
use Rattle.verilog_mean.specs.Zero.{zero_state}
use Rattle.isa_follow.specs.Follows.{Follows}
use Rattle.core_sim.specs.declared.ended.Ended.{Ended}
use Rattle.core_sim.specs.Joint.{run_of}
use Rattle.core_sim.specs.Over.{IsOverBuses}
use Rattle.core_sim.specs.Spans.{lines_of}
use Rattle.core_sim.specs.Ends.{code_in, cycles_of, end_of, run_text}
use Rattle.core_sim.specs.Output.{exit_of, output_of}
use Rattle.core_tool.specs.declared.options.Options.{Options}
use Rattle.core_tool.specs.Call.{Boxes}

-- the bytes of memory of a run as it starts: those of the image, and zeros behind them
unfoldable pub bytes_with : (size : ℕ) → (image : List ℕ) → List ℕ
bytes_with size image = image ++ replicate (size - length image) 0

-- the memory of a run as it starts, of this base and size
abbrev pub memory_of : MemShape → (image : List ℕ) → Memory
memory_of mem image = record { base = mem.base; bytes = bytes_with mem.size image }

-- The text is that of the core of a configuration: the rules hold of the configuration, the boxes took its entries, the tests of their parts
-- are those of these entries, and the text is what they built. It has one tree, which is sound, has the core's ports, and refines the machine of the plan's instructions from its reset pc.
abbrev pub IsCoreText : {B : Type 0} → Boxes B → Config → (text : List ℕ) → Type 0
IsCoreText boxes config text = IsGenerated boxes.kind boxes.taken boxes.now boxes.fault boxes.spec boxes.builds boxes.builds_for boxes.old boxes.new config text

-- the tree is that of such a text
pub record IsTreeOfCore {B : Type 0} (boxes : Boxes B) (config : Config) (t : Tree) : Type 0 where
  pub text : List ℕ
  pub core : IsCoreText boxes config text
  pub is_tree : core.core.core.tree ≡ t

-- the instructions of a plan
abbrev pub set_of : Plan → Set
set_of plan = set_from plan.rows plan.has_csr

-- The run of a tree over a memory with these options: from contents that are 0, with both buses late by the same number of cycles, and
-- with the interrupt lines of the spans.
abbrev pub run_with : Plain → Memory → Options → Trace
run_with t m options = run_of t (zero_state t) m (options.wait ∷ []) (lines_of options.irqs.items)

-- that run is one over two honest buses
abbrev pub IsOverRun : Plain → Memory → Options → Type 0
IsOverRun t m options = IsOverBuses t (zero_state t) m (options.wait ∷ []) (lines_of options.irqs.items)

-- the run of a tree over an image in a memory
abbrev pub run_over : Tree → MemShape → (image : List ℕ) → Options → Trace
run_over t mem image options = run_with (plain_tree t) (memory_of mem image) options

-- This is the end and this the text of the run of the core of a configuration over an image in its memory. The run follows the
-- machine from registers that are 0: its events are those of one machine run. What it shows is the output of that run, its lines
-- or its host text, and it ends by an exit exactly where that run asks for one, with the code of the first.
pub record IsCoreRun {B : Type 0} (boxes : Boxes B) (config : Config) (image : List ℕ) (options : Options) (ended : Ended) (text : List ℕ) : Type 0 where
  pub tree : Tree
  pub core : IsTreeOfCore boxes config tree
  pub ends : ended ≡ end_of (run_over tree config.mem image options) options.cycles
  pub lines : text ≡ run_text options.trace (run_over tree config.mem image options) options.cycles
  pub follows : (n : ℕ) → Follows (set_of core.core.plan) (machine_from (set_of core.core.plan) (replicate 32 0) config.shape.reset_pc (memory_of config.mem image))
      (run_over tree config.mem image options) n
  pub output : text ≡ output_of options.trace ((follows (cycles_of ended)).history (cycles_of ended))
  pub exit : code_in ended ≡ exit_of ((follows (cycles_of ended)).history (cycles_of ended))
