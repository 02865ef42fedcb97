-- The memory, the tree and the run of the command `run`.
use Rattle.std.proofs.Common.{◌≡◌, ◌<◌, ◌≤◌, ◌⊎◌, inl, inr, ℕ, List, [], ◌∷◌, ◌++◌, length, drop, take, length-take, replicate, Option, Some, All, Bool, true, false, sym, ap, ◌∙◌, subst, arith}
use Rattle.std.proofs.lemmas.List.{drop-replicate, length-replicate, get_or-replicate, ext_get_or}
use Rattle.core_host.specs.Outside.{IsCut, Rose, grown}
use Rattle.core_host.specs.TextHost.{Texts, fresh, text_on}
use Rattle.core_host.specs.declared.host.Port.TheVariants.{Main, Notes}
use Rattle.core_ports.specs.Trace.{Trace}
use Rattle.bus_law.specs.Memory.{Memory, IsMemory}
use Rattle.stage_map.specs.declared.config.MemShape.{MemShape}
use Rattle.stage_map.specs.declared.config.CoreShape.{CoreShape}
use Rattle.stage_map.specs.declared.config.PlugEntry.{PlugEntry}
use Rattle.stage_map.specs.declared.config.Config.{Config}
use Rattle.plug_part.specs.Part.{Part}
use Rattle.plug_api.specs.declared.spec.ParamFault.{ParamFault}
use Rattle.plug_api.specs.declared.spec.Plan.{Plan}
use Rattle.plug_api.specs.declared.spec.PlugSpec.{PlugSpec}
use Rattle.core_gen.specs.Generated.{IsGenerated}
use Rattle.image_load.specs.declared.refusal.ImageRefusal.{ImageRefusal}
use Rattle.image_load.specs.declared.refusal.ImageRefusal.TheVariants as image
use Rattle.isa_model.specs.Machine.{Machine, Set, machine_from}
use Rattle.verilog_tree.specs.declared.tree.Tree.{Tree}
use Rattle.verilog_tree.specs.Module.{Reads}
use Rattle.verilog_mean.specs.CorePorts.{HasCorePorts}
use Rattle.verilog_mean.specs.Erase.{plain_tree}
use Rattle.verilog_mean.specs.Plain.{Plain}
use Rattle.verilog_mean.specs.Zero.{zero_state}
use Rattle.isa_follow.specs.Follows.{Follows}
use Rattle.pipe_refine.specs.Refines.{Claim, RefinesWith}
use Rattle.core_sim.specs.declared.ended.Ended.{Ended}
use Rattle.core_sim.specs.Joint.{run_of, run_inputs}
use Rattle.core_sim.specs.Ends.{code_in, cycles_of, end_of, lines_before, run_text, text_before}
use Rattle.core_sim.specs.Output.{exit_of, output_of}
use Rattle.core_sim.proofs.Agree.{agree}
use Rattle.core_sim.specs.Over.{IsOverBuses}
use Rattle.core_sim.specs.Spans.{lines_of}
use Rattle.core_tool.specs.declared.options.Options.{Options}
use Rattle.core_tool.specs.Call.{Boxes}
use Rattle.core_tool.specs.CoreRun.{IsCoreRun, IsCoreText, IsOverRun, IsTreeOfCore, bytes_with, memory_of, run_over, run_with, set_of}

-- ---- memory

pub memory_loaded : (mem : MemShape) (image : List ℕ) (old new : Memory) → old ≡ record { base = mem.base; bytes = replicate mem.size 0 }
    → new ≡ record old { bytes = image ++ drop (length image) old.bytes } → new ≡ memory_of mem image
unfolding bytes_with
memory_loaded mem image old new e f =
    f ∙ ap (λ m. record { base = m.base; bytes = image ++ drop (length image) m.bytes }) e
    ∙ ap (λ l. record { base = mem.base; bytes = image ++ l }) (drop-replicate (length image) mem.size 0)

-- why a refusal of an image comes
pub is_long : (e : ImageRefusal) (len n end : ℕ) → e ≡ image.TooLong len → (e ≡ image.TooLong n) ⊎ (e ≡ image.Outside end)
    → (R : Type 0) → ((e ≡ image.TooLong n) → R) → R
is_long e len n end is (inl long) R h = h long
is_long e len n end is (inr outside) R h = cc

pub is_outside : (e : ImageRefusal) (addr n end : ℕ) → e ≡ image.Outside addr → (e ≡ image.TooLong n) ⊎ (e ≡ image.Outside end)
    → (R : Type 0) → ((e ≡ image.Outside end) → R) → R
is_outside e addr n end is (inl long) R h = cc
is_outside e addr n end is (inr outside) R h = h outside

pub same_address : (e : ImageRefusal) (addr end : ℕ) → e ≡ image.Outside addr → e ≡ image.Outside end → addr ≡ end
same_address e addr end is h = cc

-- ---- the text and the tree

-- a text that is pushed on a fresh host
pub fresh_text : (room : ℕ) (text : List ℕ) (old new : Texts) → old ≡ fresh room → Some (text_on new Main) ≡ grown (Some (text_on old Main)) text → text_on new Main ≡ text
fresh_text room text old new e a =
    let same : Some (text_on new Main) ≡ Some text = a ∙ ap (λ h. grown (Some (text_on h Main)) text) e in
    cc

-- no push of a text fails where each port has more room than its length
pub never_cut : (room : ℕ) (text : List ℕ) (old new : Texts) → old ≡ fresh room → length text < room
    → IsCut (Some (text_on old Main)) text (Some (text_on new Main)) → Some (text_on new Notes) ≡ Some (text_on old Notes) → Rose old.write_faults new.write_faults
    → (length new.main < room → length new.notes < room → new.write_faults ≡ 0) → ⊥
never_cut room text old new e short (k, less, part) notes rose whole =
    let main : length new.main ≡ length (take k text) = ap length (fresh_text room (take k text) old new e part) in
    let size : length (take k text) ≤ k = let l = length-take k text in omega (arith, l) in
    let both : Some new.notes ≡ Some [] = notes ∙ ap (λ h. Some (text_on h Notes)) e in
    let empty : new.notes ≡ [] = cc in
    let none : length new.notes ≡ 0 = ap length empty in
    let faults = whole (omega (arith, main, size, less, short)) (omega (arith, none, less, short)) in
    let before = ap (λ (h : Texts). h.write_faults) e in
    omega (arith, rose, faults, before)

-- the same text
pub same_text : {B : Type 0} {kind : B → List ℕ} {taken : B → Option PlugEntry} {now : B → PlugSpec} {fault : B → PlugEntry → Option ParamFault} {spec : B → PlugEntry → PlugSpec}
    {test : B → Plan → Part → Type 0} {test_for : B → PlugEntry → Plan → Part → Type 0} {old new : List B} {config : Config} (text text' : List ℕ) → text' ≡ text
    → IsGenerated kind taken now fault spec test test_for old new config text → IsGenerated kind taken now fault spec test test_for old new config text'
same_text {kind = kind} {taken = taken} {now = now} {fault = fault} {spec = spec} {test = test} {test_for = test_for} {old = old} {new = new} {config = config} text text' same core =
    subst (λ l. IsGenerated kind taken now fault spec test test_for old new config l) (sym same) core

-- what is read of a core's text is its tree
pub core_tree : {B : Type 0} (boxes : Boxes B) (config : Config) (text : List ℕ) (t : Tree) → IsCoreText boxes config text → Reads text t → IsTreeOfCore boxes config t
core_tree boxes config text t core reads = record { text = text; core = core; is_tree = sym (core.core.core.one_reading.1 t reads) }

-- the tree has the core's ports
pub core_ports : {B : Type 0} (boxes : Boxes B) (config : Config) (t : Tree) → IsTreeOfCore boxes config t → HasCorePorts (plain_tree t)
core_ports boxes config t core = subst (λ (u : Tree). HasCorePorts (plain_tree u)) core.is_tree core.core.core.core.refines.ports

-- ---- the run

-- what a run that follows the machine shows, and the exit by which it ends
shown_output : {s : Set} {start : Machine} (run : Trace) (trace : Bool) (most : ℕ) (ended : Ended) → ended ≡ end_of run most
    → (f : Follows s start run (cycles_of ended)) → run_text trace run most ≡ output_of trace (f.history (cycles_of ended))
shown_output {s = s} {start = start} run true most ended e f = ap (λ x. lines_before run (cycles_of x)) (sym e) ∙ (agree s start run (cycles_of ended) f).lines (cycles_of ended) (omega arith)
shown_output {s = s} {start = start} run false most ended e f = ap (λ x. text_before run (cycles_of x)) (sym e) ∙ (agree s start run (cycles_of ended) f).text (cycles_of ended) (omega arith)

ends_by_exit : {s : Set} {start : Machine} (run : Trace) (most : ℕ) (ended : Ended) → ended ≡ end_of run most
    → (f : Follows s start run (cycles_of ended)) → code_in ended ≡ exit_of (f.history (cycles_of ended))
ends_by_exit {s = s} {start = start} run most ended e f =
    subst (λ x. cycles_of x ≤ cycles_of ended → code_in x ≡ exit_of (f.history (cycles_of x))) (sym e) ((agree s start run (cycles_of ended) f).end most) (omega arith)

-- numbers that are all 0
all_zero : (n : ℕ) (xs : List ℕ) → length xs ≡ n → All (λ r. r ≡ 0) xs → xs ≡ replicate n 0
all_zero n xs l zeros =
    let same : length xs ≡ length (replicate n 0) = l ∙ sym (length-replicate n 0) in
    ext_get_or 0 xs (replicate n 0) same (λ i less. zeros i 0 less ∙ sym (get_or-replicate n i 0 0 (omega (arith, l, less))))

follows_zeros : (t : Plain) (s : Set) (reset_pc : ℕ) (claim : Claim s) (m : Memory) (delays : List ℕ) (lines : ℕ → ℕ) → RefinesWith t s reset_pc claim → IsMemory m → IsOverBuses t (zero_state t) m delays lines
    → (n : ℕ) → Follows s (machine_from s (replicate 32 0) reset_pc m) (run_of t (zero_state t) m delays lines) n
follows_zeros t s reset_pc claim m delays lines refines is_memory over n =
    let from = refines.from (zero_state t) over.start in
    let zeros : from.regs ≡ replicate 32 0 = all_zero 32 from.regs from.all (from.zeros over.zeros) in
    subst (λ regs. Follows s (machine_from s regs reset_pc m) (run_of t (zero_state t) m delays lines) n) zeros
    (from.follows (run_inputs t (zero_state t) m delays lines) over.inputs m is_memory n (over.honest n)).0

-- the run of a core's tree follows the machine of its plan's instructions
core_follows : {B : Type 0} (boxes : Boxes B) (config : Config) (t : Tree) (core : IsTreeOfCore boxes config t) (m : Memory) (delays : List ℕ) (lines : ℕ → ℕ)
    → IsMemory m → IsOverBuses (plain_tree t) (zero_state (plain_tree t)) m delays lines → (n : ℕ)
    → Follows (set_of core.core.plan) (machine_from (set_of core.core.plan) (replicate 32 0) config.shape.reset_pc m) (run_of (plain_tree t) (zero_state (plain_tree t)) m delays lines) n
core_follows boxes config t core m delays lines is_memory over n =
    let plan = core.core.plan in
    let whole = core.core.core.core in
    let same = core.is_tree in
    subst (λ (shape : CoreShape). Follows (set_of plan) (machine_from (set_of plan) (replicate 32 0) shape.reset_pc m) (run_of (plain_tree t) (zero_state (plain_tree t)) m delays lines) n)
    core.core.accepted.plan_is.shape_is
    (subst (λ (u : Tree). Follows (set_of plan) (machine_from (set_of plan) (replicate 32 0) plan.shape.reset_pc m) (run_of (plain_tree u) (zero_state (plain_tree u)) m delays lines) n) same
    (follows_zeros (plain_tree whole.tree) (set_of plan) plan.shape.reset_pc _ m delays lines whole.refines is_memory
    (subst (λ (u : Tree). IsOverBuses (plain_tree u) (zero_state (plain_tree u)) m delays lines) (sym same) over) n))

pub core_run : {B : Type 0} (boxes : Boxes B) (config : Config) (image : List ℕ) (options : Options) (t : Tree) (m : Memory) (ended : Ended) → IsTreeOfCore boxes config t
    → m ≡ memory_of config.mem image → IsMemory m
    → ended ≡ end_of (run_with (plain_tree t) m options) options.cycles → IsOverRun (plain_tree t) m options
    → IsCoreRun boxes config image options ended (run_text options.trace (run_with (plain_tree t) m options) options.cycles)
core_run boxes config image options t m ended core same is_memory ends over = record {
  tree = t;
  core = core;
  ends = ends_so;
  lines = lines_so;
  follows = follows_so;
  output = lines_so ∙ shown_output (run_over t config.mem image options) options.trace options.cycles ended ends_so (follows_so (cycles_of ended));
  exit = ends_by_exit (run_over t config.mem image options) options.cycles ended ends_so (follows_so (cycles_of ended));
}
  where
    ends_so : ended ≡ end_of (run_over t config.mem image options) options.cycles
    ends_so = ends ∙ ap (λ m. end_of (run_with (plain_tree t) m options) options.cycles) same

    lines_so : run_text options.trace (run_with (plain_tree t) m options) options.cycles ≡ run_text options.trace (run_over t config.mem image options) options.cycles
    lines_so = ap (λ m. run_text options.trace (run_with (plain_tree t) m options) options.cycles) same

    follows_so : (n : ℕ) → Follows (set_of core.core.plan) (machine_from (set_of core.core.plan) (replicate 32 0) config.shape.reset_pc (memory_of config.mem image))
        (run_over t config.mem image options) n
    follows_so n = subst (λ m. Follows (set_of core.core.plan) (machine_from (set_of core.core.plan) (replicate 32 0) config.shape.reset_pc m) (run_with (plain_tree t) m options) n) same
        (core_follows boxes config t core m (options.wait ∷ []) (lines_of options.irqs.items) is_memory over n)
