-- The ends of a call, from those of its parts, and what was pulled in all.
use Rattle.std.proofs.Common.{◌≡◌, ◌≤◌, inl, inr, ℕ, List, [], ◌∷◌, length, Option, Some, Ok, refl, sym, ◌∙◌, subst, codes, arith}
use Rattle.core_host.specs.Outside.{Files, Rose, Appends, IsCut, IsMissing}
use Rattle.bus_law.specs.Memory.{Memory, IsMemory}
use Rattle.stage_map.specs.declared.config.MemShape.{MemShape}
use Rattle.stage_map.specs.declared.config.Config.{Config}
use Rattle.core_config.specs.Allowed.{IsConfig}
use Rattle.core_config.specs.Config.{config_of}
use Rattle.verilog_tree.specs.declared.tree.Tree.{Tree}
use Rattle.verilog_mean.specs.Erase.{plain_tree}
use Rattle.core_sim.specs.declared.ended.Ended.{Ended}
use Rattle.core_sim.specs.declared.ended.Ended.TheVariants as run_end
use Rattle.core_sim.specs.Ends.{end_of, run_text}
use Rattle.core_tool.specs.declared.ends.CallEnd.{CallEnd}
use Rattle.core_tool.specs.declared.ends.CallEnd.TheVariants.{Written, Accepted, BadWords, Refused, RulesRefused, BadFile, BadImage, OutOfMemory, Unwritten, Exited, CyclesEnded, Stopped}
use Rattle.core_tool.specs.declared.options.Options.{Options}
use Rattle.core_tool.specs.Words.{Form, Gen, Run, Rules}
use Rattle.core_tool.specs.Call.{Boxes, Call, Outside, Seen}
use Rattle.core_tool.specs.Boxes.{AreUntouched, HaveTakenAll, HaveTakenSome, TriesRules}
use Rattle.core_tool.specs.Files.{Gives, Passes, config_name, image_name}
use Rattle.core_tool.specs.CoreRun.{IsCoreText, IsOverRun, IsTreeOfCore, run_with}
use Rattle.core_tool.specs.Texts.{IsRunText, IsTextFor}
use Rattle.core_tool.specs.Parts.{ForBytes, IsConfigEnd, IsImageEnd, IsJudged, IsLoaded, IsSimulated}
use Rattle.core_tool.specs.Ends.{IsEnd}
use Rattle.core_tool.proofs.Calls.{Rose-earlier}
use Rattle.core_tool.proofs.Runs.{core_run}

-- ---- the configuration

pub gives : {B : Type 0} (call : Call B) (name : List ℕ) (c : Config) → config_name call.form ≡ Some name → IsConfig c
    → ForBytes name call.files (λ bytes. config_of bytes ≡ Ok c) → Gives call c
gives call name c named is h = record { is_config = is; said = record { name = name; is_name = named; bytes = h.0; file = h.1; fact = h.2 } }

pub config_ends : {B : Type 0} (seen : Seen B) (name : List ℕ) (end : CallEnd) → config_name seen.call.form ≡ Some name → seen.new.main ≡ seen.old.main
    → AreUntouched seen.call.boxes → IsConfigEnd name seen.call.files seen.old.read_faults seen.new.read_faults end → IsEnd seen end
config_ends seen name (Refused refusal) named same boxes h = record {
  refusal = h.2.0;
  refused = record { name = name; is_name = named; bytes = h.0; file = h.1; fact = h.2.1 };
  main = same;
  is_line = sym h.2.2;
  boxes = boxes;
}
config_ends seen name BadFile named same boxes (inl rose) = record {
  unread = inl (record { name = name; is_name = named; cause = inl rose; boxes = boxes });
  main = same;
  is_line = refl;
}
config_ends seen name BadFile named same boxes (inr missing) = record {
  unread = inl (record { name = name; is_name = named; cause = inr (name, named, missing); boxes = boxes });
  main = same;
  is_line = refl;
}
config_ends seen name OutOfMemory named same boxes h = record { main = same; is_line = refl; boxes = inl boxes }
config_ends seen name Written named same boxes h = absurd h
config_ends seen name Accepted named same boxes h = absurd h
config_ends seen name BadWords named same boxes h = absurd h
config_ends seen name (RulesRefused refusal) named same boxes h = absurd h
config_ends seen name (BadImage fault) named same boxes h = absurd h
config_ends seen name Unwritten named same boxes h = absurd h
config_ends seen name (Exited code events cycles) named same boxes h = absurd h
config_ends seen name (CyclesEnded events cycles) named same boxes h = absurd h
config_ends seen name (Stopped cause pc events cycles) named same boxes h = absurd h

-- ---- the rules

pub judged : {B : Type 0} (seen : Seen B) (config : Config) (end : CallEnd) → TriesRules seen.call.form → Gives seen.call config
    → seen.new.main ≡ seen.old.main → IsJudged seen.call.boxes config end → IsEnd seen end
judged seen config (RulesRefused refusal) tries given same h = record {
  tries = tries;
  config = config;
  gives = given;
  refusal = refusal;
  refused = h.0;
  main = same;
  is_line = refl;
  boxes = h.1;
}
judged seen config OutOfMemory tries given same h = record { main = same; is_line = refl; boxes = inr (tries, (config, given, h)) }
judged seen config Written tries given same h = absurd h
judged seen config Accepted tries given same h = absurd h
judged seen config BadWords tries given same h = absurd h
judged seen config (Refused refusal) tries given same h = absurd h
judged seen config (BadImage fault) tries given same h = absurd h
judged seen config BadFile tries given same h = absurd h
judged seen config Unwritten tries given same h = absurd h
judged seen config (Exited code events cycles) tries given same h = absurd h
judged seen config (CyclesEnded events cycles) tries given same h = absurd h
judged seen config (Stopped cause pc events cycles) tries given same h = absurd h

-- a command that tries the rules passes where all hold
pub passes_rules : {B : Type 0} (call : Call B) (config : Config) → TriesRules call.form → Gives call config → HaveTakenAll call.boxes config → Passes call config
passes_rules call config tries given taken = record { gives = given; boxes = record { taken = λ t. taken; untouched = λ none. absurd (none tries) } }

-- where all hold, those of the first entries took them: of all entries
pub taken_some : {B : Type 0} (boxes : Boxes B) (config : Config) → HaveTakenAll boxes config → HaveTakenSome boxes config
taken_some boxes config t =
    inr (length config.entries, omega arith, record { picks = t.plan.picks; named = t.accepted.known.named; configured = t.configured })

-- the boxes of a core took their entries
pub core_taken : {B : Type 0} (boxes : Boxes B) (config : Config) (text : List ℕ) → IsCoreText boxes config text → HaveTakenAll boxes config
core_taken boxes config text core = record { plan = core.plan; accepted = core.accepted; configured = core.configured; shaped = core.shaped }

-- so the command passes where the core's tree is read
pub tree_passes : {B : Type 0} (call : Call B) (config : Config) (t : Tree) → TriesRules call.form → Gives call config → IsTreeOfCore call.boxes config t → Passes call config
tree_passes call config t tries given core = passes_rules call config tries given (core_taken call.boxes config core.text core.core)

-- ---- texts that are no run's

module _ {B : Type 0} (name : List ℕ) (files : Option Files) (boxes : Boxes B) (old new : Outside) (config : Config) where
  abbrev gen_call : Call B
  gen_call = record { form = Some (Gen name); files = files; boxes = boxes }

  gen_text : (text : List ℕ) → Gives gen_call config → IsCoreText boxes config text → IsTextFor (Some (Gen name)) gen_call text
  gen_text text given core =
      record { config = config; passes = passes_rules gen_call config tt given (core_taken boxes config text core); core = core }

  pub written : (text : List ℕ) → Gives gen_call config → IsCoreText boxes config text → Appends old.main text new.main
      → IsEnd (record { call = gen_call; old = old; new = new }) Written
  written text given core main = record { text = text; is_text = (gen_text text given core, refl); main = main }

  pub unwritten : (text : List ℕ) → Gives gen_call config → IsCoreText boxes config text → IsCut old.main text new.main
      → Rose old.write_faults new.write_faults → IsEnd (record { call = gen_call; old = old; new = new }) Unwritten
  unwritten text given core main rose =
      record { text = text; may_be = inl (gen_text text given core); main = main; is_line = refl; failed = rose }

  abbrev rules_call : Call B
  rules_call = record { form = Some (Rules name); files = files; boxes = boxes }

  rules_text : Gives rules_call config → HaveTakenAll boxes config → IsTextFor (Some (Rules name)) rules_call (codes "accepted\n")
  rules_text given taken = record { config = config; passes = passes_rules rules_call config tt given taken; is_line = refl }

  pub accepted : Gives rules_call config → HaveTakenAll boxes config → Appends old.main (codes "accepted\n") new.main
      → IsEnd (record { call = rules_call; old = old; new = new }) Accepted
  accepted given taken main = record { text = codes "accepted\n"; is_text = (rules_text given taken, refl); main = main }

  pub unaccepted : Gives rules_call config → HaveTakenAll boxes config → IsCut old.main (codes "accepted\n") new.main
      → Rose old.write_faults new.write_faults → IsEnd (record { call = rules_call; old = old; new = new }) Unwritten
  unaccepted given taken main rose =
      record { text = codes "accepted\n"; may_be = inl (rules_text given taken); main = main; is_line = refl; failed = rose }

-- ---- the image

pub image_ends : {B : Type 0} (seen : Seen B) (image : List ℕ) (c : Config) (end : CallEnd) → image_name seen.call.form ≡ Some image
    → TriesRules seen.call.form → Passes seen.call c → seen.new.main ≡ seen.old.main
    → IsImageEnd image seen.call.files c.mem seen.old.read_faults seen.new.read_faults end → IsEnd seen end
image_ends seen image c (BadImage fault) named tries passes same h = record {
  config = c;
  passes = passes;
  fault = fault;
  refused = record { name = image; is_name = named; bytes = h.0; file = h.1; fact = h.2 };
  main = same;
  is_line = refl;
}
image_ends seen image c BadFile named tries passes same (inl rose) = record {
  unread = inr (record { config = c; passes = passes; name = image; is_name = named; cause = inl rose });
  main = same;
  is_line = refl;
}
image_ends seen image c BadFile named tries passes same (inr missing) = record {
  unread = inr (record { config = c; passes = passes; name = image; is_name = named; cause = inr (image, named, missing) });
  main = same;
  is_line = refl;
}
image_ends seen image c OutOfMemory named tries passes same h =
    record { main = same; is_line = refl; boxes = inr (tries, (c, passes.gives, taken_some seen.call.boxes c (passes.boxes.taken tries))) }
image_ends seen image c Written named tries passes same h = absurd h
image_ends seen image c Accepted named tries passes same h = absurd h
image_ends seen image c BadWords named tries passes same h = absurd h
image_ends seen image c (RulesRefused refusal) named tries passes same h = absurd h
image_ends seen image c (Refused refusal) named tries passes same h = absurd h
image_ends seen image c Unwritten named tries passes same h = absurd h
image_ends seen image c (Exited code events cycles) named tries passes same h = absurd h
image_ends seen image c (CyclesEnded events cycles) named tries passes same h = absurd h
image_ends seen image c (Stopped cause pc events cycles) named tries passes same h = absurd h

pub image_end_earlier : (name : List ℕ) (mem : MemShape) (files files' : Option Files) (before mid now : ℕ) (end : CallEnd) → files' ≡ files → before ≤ mid
    → IsImageEnd name files' mem mid now end → IsImageEnd name files mem before now end
image_end_earlier name mem files files' before mid now (BadImage fault) same less h = subst (λ f. IsImageEnd name f mem mid now (BadImage fault)) same h
image_end_earlier name mem files files' before mid now BadFile same less (inl rose) = inl (Rose-earlier before mid now less rose)
image_end_earlier name mem files files' before mid now BadFile same less (inr missing) = inr (subst (λ f. IsMissing name f) same missing)
image_end_earlier name mem files files' before mid now OutOfMemory same less h = tt
image_end_earlier name mem files files' before mid now Written same less h = h
image_end_earlier name mem files files' before mid now Accepted same less h = h
image_end_earlier name mem files files' before mid now BadWords same less h = h
image_end_earlier name mem files files' before mid now (RulesRefused refusal) same less h = h
image_end_earlier name mem files files' before mid now (Refused refusal) same less h = h
image_end_earlier name mem files files' before mid now Unwritten same less h = h
image_end_earlier name mem files files' before mid now (Exited code events cycles) same less h = h
image_end_earlier name mem files files' before mid now (CyclesEnded events cycles) same less h = h
image_end_earlier name mem files files' before mid now (Stopped cause pc events cycles) same less h = h

-- ---- the run

-- what a run was asked for and stands on
pub record IsSetUp {B : Type 0} (call : Call B) (image : List ℕ) (config : Config) (t : Tree) (m : Memory) : Type 0 where
  pub passes : Passes call config
  pub loaded : IsLoaded image call.files config.mem m
  pub is_memory : IsMemory m
  pub core : IsTreeOfCore call.boxes config t

pub set_up : {B : Type 0} (call : Call B) (image : List ℕ) (config : Config) (t : Tree) (m : Memory) → TriesRules call.form → Gives call config → IsTreeOfCore call.boxes config t
    → IsLoaded image call.files config.mem m → IsMemory m → IsSetUp call image config t m
set_up call image config t m tries given core loaded is_memory =
    record { passes = tree_passes call config t tries given core; loaded = loaded; is_memory = is_memory; core = core }

-- the text of that run
abbrev set_text : Options → Tree → Memory → List ℕ
set_text options t m = run_text options.trace (run_with (plain_tree t) m options) options.cycles

run_text_of : {B : Type 0} (call : Call B) (image : List ℕ) (options : Options) (config : Config) (t : Tree) (m : Memory) (ended : Ended)
    → IsSetUp call image config t m → ended ≡ end_of (run_with (plain_tree t) m options) options.cycles
    → IsOverRun (plain_tree t) m options → IsRunText call image options ended (set_text options t m)
run_text_of call image options config t m ended set ends over = record {
  config = config;
  passes = set.passes;
  bytes = set.loaded.image;
  file = set.loaded.file;
  fits = set.loaded.fits;
  run = core_run call.boxes config set.loaded.image options t m ended set.core set.loaded.loaded set.is_memory ends over;
}

module _ {B : Type 0} (name image : List ℕ) (options : Options) (files : Option Files) (boxes : Boxes B) (old new : Outside) where
  abbrev run_call : Call B
  run_call = record { form = Some (Run name image options); files = files; boxes = boxes }

  abbrev run_seen : Seen B
  run_seen = record { call = run_call; old = old; new = new }

  pub run_ends : (config : Config) (t : Tree) (m : Memory) (before : Option (List ℕ)) (mid : ℕ) (end : CallEnd)
      → IsSetUp run_call image config t m → before ≡ old.main → old.write_faults ≤ mid
      → IsSimulated (plain_tree t) m options before new.main mid new.write_faults end → IsEnd run_seen end
  run_ends config t m before mid (Exited code events cycles) set same less h = record {
    text = set_text options t m;
    is_text = record {
      code = code;
      events = events;
      cycles = cycles;
      run = run_text_of run_call image options config t m (run_end.Exit code events cycles) set h.ends h.over;
      is_line = refl;
    };
    main = subst (λ p. Appends p (set_text options t m) new.main) same h.text;
  }
  run_ends config t m before mid (CyclesEnded events cycles) set same less h = record {
    events = events;
    cycles = cycles;
    text = set_text options t m;
    run = run_text_of run_call image options config t m (run_end.CyclesEnded events cycles) set h.ends h.over;
    main = subst (λ p. Appends p (set_text options t m) new.main) same h.text;
    is_line = refl;
  }
  run_ends config t m before mid (Stopped cause pc events cycles) set same less h = record {
    cause = cause;
    pc = pc;
    events = events;
    cycles = cycles;
    text = set_text options t m;
    run = run_text_of run_call image options config t m (run_end.Stopped cause pc events cycles) set h.ends h.over;
    main = subst (λ p. Appends p (set_text options t m) new.main) same h.text;
    is_line = refl;
  }
  run_ends config t m before mid Unwritten set same less h = record {
    text = set_text options t m;
    may_be = inr (end_of (run_with (plain_tree t) m options) options.cycles, run_text_of run_call image options config t m _ set refl h.over);
    main = subst (λ p. IsCut p (set_text options t m) new.main) same h.text;
    is_line = refl;
    failed = Rose-earlier old.write_faults mid new.write_faults less h.rose;
  }
  run_ends config t m before mid OutOfMemory set same less h =
      record { main = h ∙ same; is_line = refl; boxes = inr (tt, (config, set.passes.gives, taken_some boxes config (set.passes.boxes.taken tt))) }
  run_ends config t m before mid Written set same less h = absurd h
  run_ends config t m before mid Accepted set same less h = absurd h
  run_ends config t m before mid BadWords set same less h = absurd h
  run_ends config t m before mid (RulesRefused refusal) set same less h = absurd h
  run_ends config t m before mid (Refused refusal) set same less h = absurd h
  run_ends config t m before mid BadFile set same less h = absurd h
  run_ends config t m before mid (BadImage fault) set same less h = absurd h

-- the words are of this form
pub end_for : {B : Type 0} (named form : Option Form) (files : Option Files) (boxes : Boxes B) (old new : Outside) (end : CallEnd) → named ≡ form
    → IsEnd (record { call = record { form = named; files = files; boxes = boxes }; old = old; new = new }) end
    → IsEnd (record { call = record { form = form; files = files; boxes = boxes }; old = old; new = new }) end
end_for named form files boxes old new end is h =
    subst (λ f. IsEnd (record { call = record { form = f; files = files; boxes = boxes }; old = old; new = new }) end) is h
