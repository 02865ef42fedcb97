-- Where an answer must be given, no other has happened, failed pushes and want of memory aside.
use Rattle.std.proofs.Common.{◌≡◌, ◌≤◌, ◌⊎◌, inl, inr, ℕ, List, length, Option, Some, None, Ok, Err, IsErr, refl, sym, ap, ◌∙◌, subst}
use Rattle.core_host.specs.Outside.{Files, held}
use Rattle.stage_map.specs.declared.config.Config.{Config}
use Rattle.core_config.specs.declared.refusal.ConfigRefusal.{ConfigRefusal}
use Rattle.core_config.specs.Allowed.{IsConfig}
use Rattle.core_config.specs.Config.{config_of}
use Rattle.plug_api.specs.declared.refusal.RuleRefusal.{RuleRefusal}
use Rattle.plug_api.proofs.Verdicts.{refusal_excludes}
use Rattle.core_sim.specs.declared.ended.Ended.{Ended}
use Rattle.core_sim.specs.declared.ended.Ended.TheVariants as run_end
use Rattle.core_tool.specs.declared.ends.ImageFault.{ImageFault}
use Rattle.core_tool.specs.declared.status.Status.{Status}
use Rattle.core_tool.specs.declared.status.Status.TheVariants as status
use Rattle.core_tool.specs.Words.{Form, Gen, Run, Rules}
use Rattle.core_tool.specs.Call.{Call, Seen, ReadFailed}
use Rattle.core_tool.specs.Boxes.{Accept, Refuse, RulesHold, TriesRules}
use Rattle.core_tool.specs.Files.{ForConfig, ForFile, ForImage, Gives, HoldsConfig, HoldsFile, HoldsImage, MissesConfig, MissesFile, Passes, SaysConfig, config_name, image_fault, image_name}
use Rattle.core_tool.specs.Texts.{IsDoneText, IsRunTextFor, IsTextFor}
use Rattle.core_tool.specs.Answers.{AsksForText, EndsByRun, HasEnded, IsConfigUnread, IsCutOff, IsImageMissing, IsImageUnread, MustBeConfigRefused, MustBeDone, MustBeImageRefused, MustBeReadFault, MustBeRulesRefused, MustBeUsage, MustRun}
use Rattle.core_tool.proofs.Calls.{image_fault-fits}

-- ---- files

-- what holds of the bytes of a file holds of those that are held
held_bytes : (named : Option (List ℕ)) (files : Option Files) (P : List ℕ → Type 0) (bytes : List ℕ) → ForFile named files P → HoldsFile named files bytes → P bytes
held_bytes named None P bytes r h = absurd h
held_bytes named (Some files) P bytes r (name, is, has) =
    let names : r.name ≡ name = cc in
    let both : Some r.bytes ≡ Some bytes = sym r.file ∙ ap (λ x. held x files) names ∙ has in
    let same : r.bytes ≡ bytes = cc in
    subst P same r.fact

held_missing : (named : Option (List ℕ)) (files : Option Files) (bytes : List ℕ) → MissesFile named files → HoldsFile named files bytes → ⊥
held_missing named None bytes m h = h
held_missing named (Some files) bytes (name, is, none) (name', is', has) =
    let names : name ≡ name' = cc in
    let both : None ≡ Some bytes = sym none ∙ ap (λ x. held x files) names ∙ has in
    cc

-- a file whose bytes are known is not missing
for_missing : (named : Option (List ℕ)) (files : Option Files) (P : List ℕ → Type 0) → ForFile named files P → MissesFile named files → ⊥
for_missing named None P r m = m.2
for_missing named (Some files) P r m =
    let names : r.name ≡ m.0 = let a = r.is_name in let b = m.1 in cc in
    let both : Some r.bytes ≡ None = sym r.file ∙ ap (λ x. held x files) names ∙ m.2 in
    cc

-- a file that is held has a name
held_name : (named : Option (List ℕ)) (files : Option Files) (bytes : List ℕ) → HoldsFile named files bytes → (name : List ℕ) × (named ≡ Some name)
held_name named None bytes h = absurd h
held_name named (Some files) bytes h = (h.0, h.1)

-- ---- the configuration and the rules

module _ {B : Type 0} (call : Call B) where
  same_config : (given config : Config) → Gives call given → SaysConfig call config → given ≡ config
  same_config given config g s =
      let said = held_bytes (config_name call.form) call.files (λ b. config_of b ≡ Ok given) s.bytes g.said s.held in
      let also = s.said in
      cc

  not_refused : (config : Config) (refusal : ConfigRefusal) → ForConfig call (λ bytes. config_of bytes ≡ Err refusal) → SaysConfig call config → ⊥
  not_refused config refusal r s =
      let said = held_bytes (config_name call.form) call.files (λ b. config_of b ≡ Err refusal) s.bytes r s.held in
      let also = s.said in
      cc

  -- bytes that are refused give no configuration
  not_given : (config : Config) (bytes : List ℕ) → Gives call config → HoldsConfig call bytes → IsErr (config_of bytes) → ⊥
  not_given config bytes g h refused =
      let said : config_of bytes ≡ Ok config = held_bytes (config_name call.form) call.files (λ b. config_of b ≡ Ok config) bytes g.said h in
      let wrong : IsErr {T = Config} {E = ConfigRefusal} (Ok config) = subst IsErr said refused in
      cc

  -- a configuration is not both accepted and refused
  exclusive : (config : Config) (refusal : RuleRefusal) → Accept call.boxes config → Refuse call.boxes config refusal → ⊥
  exclusive config refusal a r = refusal_excludes _ _ _ _ config _ refusal a.1 r

  kept_refused : (given config : Config) (refusal : RuleRefusal) → Gives call given → SaysConfig call config → TriesRules call.form → RulesHold call.form call.boxes config
      → Refuse call.boxes given refusal → ⊥
  kept_refused given config refusal g s tries rules r =
      exclusive config refusal (rules tries) (subst (λ c. Refuse call.boxes c refusal) (same_config given config g s) r)

  passed_refused : (given config : Config) (refusal : RuleRefusal) → Passes call given → SaysConfig call config → TriesRules call.form → Refuse call.boxes config refusal → ⊥
  passed_refused given config refusal p s tries r =
      let taken = p.boxes.taken tries in
      exclusive given refusal (taken.plan, taken.accepted) (subst (λ c. Refuse call.boxes c refusal) (sym (same_config given config p.gives s)) r)

  no_call : (name : List ℕ) → call.form ≡ None → config_name call.form ≡ Some name → ⊥
  no_call name none named = let other : None ≡ Some name = sym (ap config_name none) ∙ named in cc

  no_call_image : (name : List ℕ) → call.form ≡ None → image_name call.form ≡ Some name → ⊥
  no_call_image name none named = let other : None ≡ Some name = sym (ap image_name none) ∙ named in cc

  no_call_given : (config : Config) → call.form ≡ None → Gives call config → ⊥
  no_call_given config none g = no_call g.said.name none g.said.is_name

  no_call_says : (config : Config) → call.form ≡ None → SaysConfig call config → ⊥
  no_call_says config none s =
      let found = held_name (config_name call.form) call.files s.bytes s.held in
      no_call found.0 none found.1

-- ---- texts

-- a text that is no run's has a configuration, and its words name no image
pub record TextFacts {B : Type 0} (form : Option Form) (call : Call B) : Type 0 where
  pub config : Config
  pub passes : Passes call config
  pub no_image : (name : List ℕ) → image_name form ≡ Some name → ⊥

pub text_facts : {B : Type 0} (form : Option Form) (call : Call B) (text : List ℕ) → IsTextFor form call text → TextFacts form call
text_facts None call text h = absurd h
text_facts (Some (Gen name)) call text h = record { config = h.config; passes = h.passes; no_image = λ name e. cc }
text_facts (Some (Run config image options)) call text h = absurd h
text_facts (Some (Rules name)) call text h = record { config = h.config; passes = h.passes; no_image = λ name e. cc }

asks_no_image : (form : Option Form) (name : List ℕ) → AsksForText form → image_name form ≡ Some name → ⊥
asks_no_image None name asks e = asks
asks_no_image (Some (Gen config)) name asks e = cc
asks_no_image (Some (Run config image options)) name asks e = asks
asks_no_image (Some (Rules config)) name asks e = cc

-- a run has a configuration, and an image that fits
pub record RunFacts {B : Type 0} (form : Option Form) (call : Call B) : Type 0 where
  pub config : Config
  pub passes : Passes call config
  pub image : ForFile (image_name form) call.files (λ b. length b ≤ config.mem.size)

pub run_facts : {B : Type 0} (form : Option Form) (call : Call B) (ended : Ended) (text : List ℕ) → IsRunTextFor form call ended text → RunFacts form call
run_facts None call ended text h = absurd h
run_facts (Some (Gen name)) call ended text h = absurd h
run_facts (Some (Run config image options)) call ended text h = record {
  config = h.config;
  passes = h.passes;
  image = record { name = image; is_name = refl; bytes = h.bytes; file = h.file; fact = h.fits };
}
run_facts (Some (Rules name)) call ended text h = absurd h

-- what is done is a text that is no run's, or a run
pub done_facts : {B : Type 0} (form : Option Form) (call : Call B) (text line : List ℕ) → IsDoneText form call text line → TextFacts form call ⊎ RunFacts form call
done_facts None call text line h = absurd h
done_facts (Some (Gen name)) call text line h = inl (text_facts (Some (Gen name)) call text h.0)
done_facts (Some (Run config image options)) call text line h = inr (run_facts (Some (Run config image options)) call (run_end.Exit h.code h.events h.cycles) text h.run)
done_facts (Some (Rules name)) call text line h = inl (text_facts (Some (Rules name)) call text h.0)

-- so it has a configuration
done_passes : {B : Type 0} (form : Option Form) (call : Call B) → TextFacts form call ⊎ RunFacts form call → (config : Config) × Passes call config
done_passes form call (inl text) = (text.config, text.passes)
done_passes form call (inr run) = (run.config, run.passes)

image_accepted : (config : Config) (image : List ℕ) (fault : ImageFault) → IsConfig config → length image ≤ config.mem.size
    → image_fault config.mem image ≡ Some fault → ⊥
image_accepted config image fault is fits e = let none = image_fault-fits config.mem image is.mem.size_at_most fits in cc

-- ---- what else has happened where an answer must be given

module _ {B : Type 0} (seen : Seen B) where
  abbrev asked : Call B
  asked = seen.call

  abbrev RunOf : Type 0
  RunOf = RunFacts asked.form asked

  abbrev TextOf : Type 0
  TextOf = TextFacts asked.form asked

  -- a call that is done has a configuration
  abbrev DoneOf : Type 0
  DoneOf = (config : Config) × Passes asked config

  done_of : (text line : List ℕ) → IsDoneText asked.form asked text line → DoneOf
  done_of text line h = done_passes asked.form asked (done_facts asked.form asked text line h)

  -- the configuration is held and no fault of reading came
  config_unread : (bytes : List ℕ) → IsConfigUnread seen → HoldsConfig asked bytes → ¬ (ReadFailed seen) → ⊥
  config_unread bytes u h calm = elim u.cause [
    | inl rose ↦ calm rose
    | inr missing ↦ held_missing (config_name asked.form) asked.files bytes missing h
  ]

  image_unread : (bytes : List ℕ) → IsImageUnread seen → HoldsImage asked bytes → ¬ (ReadFailed seen) → ⊥
  image_unread bytes u h calm = elim u.cause [
    | inl rose ↦ calm rose
    | inr missing ↦ held_missing (image_name asked.form) asked.files bytes missing h
  ]

  -- 0
  pub done_exact : (s : Status) (line : List ℕ) → MustBeDone seen → HasEnded s seen line → (s ≡ status.Done) ⊎ IsCutOff s
  done_exact status.Done line must h = inl refl
  done_exact status.Usage line must h = absurd (no_call_says asked must.config h.no_form must.says)
  done_exact status.ConfigRefused line must h = absurd (not_refused asked must.config h.refusal h.refused must.says)
  done_exact status.RulesRefused line must h = absurd (kept_refused asked h.config must.config h.refusal h.gives must.says h.tries must.rules h.refused)
  done_exact status.ImageRefused line must h = absurd (asks_no_image asked.form h.refused.name must.asks h.refused.is_name)
  done_exact status.ReadFault line must h = absurd (elim h.unread [
    | inl u ↦ config_unread must.says.bytes u must.says.held must.calm
    | inr u ↦ asks_no_image asked.form u.name must.asks u.is_name
  ])
  done_exact status.WriteFault line must h = inr (inl refl)
  done_exact status.NoMemory line must h = inr (inr refl)
  done_exact status.CyclesEnded line must h =
      let run : RunOf = run_facts asked.form asked _ h.text h.run in absurd (asks_no_image asked.form run.image.name must.asks run.image.is_name)
  done_exact status.ModuleRefused line must h = absurd h
  done_exact status.Stopped line must h =
      let run : RunOf = run_facts asked.form asked _ h.text h.run in absurd (asks_no_image asked.form run.image.name must.asks run.image.is_name)

  -- 2
  pub usage_exact : (s : Status) (line : List ℕ) → MustBeUsage seen → HasEnded s seen line → (s ≡ status.Usage) ⊎ IsCutOff s
  usage_exact status.Done line must h = let d : DoneOf = done_of h.text line h.is_text in absurd (no_call_given asked d.0 must d.1.gives)
  usage_exact status.Usage line must h = inl refl
  usage_exact status.ConfigRefused line must h = absurd (no_call asked h.refused.name must h.refused.is_name)
  usage_exact status.RulesRefused line must h = absurd (no_call_given asked h.config must h.gives)
  usage_exact status.ImageRefused line must h = absurd (no_call_given asked h.config must h.passes.gives)
  usage_exact status.ReadFault line must h = absurd (elim h.unread [
    | inl u ↦ no_call asked u.name must u.is_name
    | inr u ↦ no_call_given asked u.config must u.passes.gives
  ])
  usage_exact status.WriteFault line must h = inr (inl refl)
  usage_exact status.NoMemory line must h = inr (inr refl)
  usage_exact status.CyclesEnded line must h = let run : RunOf = run_facts asked.form asked _ h.text h.run in absurd (no_call_given asked run.config must run.passes.gives)
  usage_exact status.ModuleRefused line must h = absurd h
  usage_exact status.Stopped line must h = let run : RunOf = run_facts asked.form asked _ h.text h.run in absurd (no_call_given asked run.config must run.passes.gives)

  -- 3
  pub config_refused_exact : (s : Status) (line : List ℕ) → MustBeConfigRefused seen → HasEnded s seen line → (s ≡ status.ConfigRefused) ⊎ IsCutOff s
  config_refused_exact status.Done line must h =
      let d : DoneOf = done_of h.text line h.is_text in absurd (not_given asked d.0 must.bytes d.1.gives must.held must.refused)
  config_refused_exact status.Usage line must h =
      let found = held_name (config_name asked.form) asked.files must.bytes must.held in absurd (no_call asked found.0 h.no_form found.1)
  config_refused_exact status.ConfigRefused line must h = inl refl
  config_refused_exact status.RulesRefused line must h = absurd (not_given asked h.config must.bytes h.gives must.held must.refused)
  config_refused_exact status.ImageRefused line must h = absurd (not_given asked h.config must.bytes h.passes.gives must.held must.refused)
  config_refused_exact status.ReadFault line must h = absurd (elim h.unread [
    | inl u ↦ config_unread must.bytes u must.held must.calm
    | inr u ↦ not_given asked u.config must.bytes u.passes.gives must.held must.refused
  ])
  config_refused_exact status.WriteFault line must h = inr (inl refl)
  config_refused_exact status.NoMemory line must h = inr (inr refl)
  config_refused_exact status.CyclesEnded line must h =
      let run : RunOf = run_facts asked.form asked _ h.text h.run in absurd (not_given asked run.config must.bytes run.passes.gives must.held must.refused)
  config_refused_exact status.ModuleRefused line must h = absurd h
  config_refused_exact status.Stopped line must h =
      let run : RunOf = run_facts asked.form asked _ h.text h.run in absurd (not_given asked run.config must.bytes run.passes.gives must.held must.refused)

  -- 4
  pub rules_refused_exact : (s : Status) (line : List ℕ) → MustBeRulesRefused seen → HasEnded s seen line → (s ≡ status.RulesRefused) ⊎ IsCutOff s
  rules_refused_exact status.Done line must h =
      let d : DoneOf = done_of h.text line h.is_text in absurd (passed_refused asked d.0 must.config must.refusal d.1 must.says must.tries must.refused)
  rules_refused_exact status.Usage line must h = absurd (no_call_says asked must.config h.no_form must.says)
  rules_refused_exact status.ConfigRefused line must h = absurd (not_refused asked must.config h.refusal h.refused must.says)
  rules_refused_exact status.RulesRefused line must h = inl refl
  rules_refused_exact status.ImageRefused line must h = absurd (passed_refused asked h.config must.config must.refusal h.passes must.says must.tries must.refused)
  rules_refused_exact status.ReadFault line must h = absurd (elim h.unread [
    | inl u ↦ config_unread must.says.bytes u must.says.held must.calm
    | inr u ↦ passed_refused asked u.config must.config must.refusal u.passes must.says must.tries must.refused
  ])
  rules_refused_exact status.WriteFault line must h = inr (inl refl)
  rules_refused_exact status.NoMemory line must h = inr (inr refl)
  rules_refused_exact status.CyclesEnded line must h =
      let run : RunOf = run_facts asked.form asked _ h.text h.run in absurd (passed_refused asked run.config must.config must.refusal run.passes must.says must.tries must.refused)
  rules_refused_exact status.ModuleRefused line must h = absurd h
  rules_refused_exact status.Stopped line must h =
      let run : RunOf = run_facts asked.form asked _ h.text h.run in absurd (passed_refused asked run.config must.config must.refusal run.passes must.says must.tries must.refused)

  -- an image that is held is that of the run
  run_image : (run : RunOf) (image : List ℕ) (config : Config) → HoldsImage asked image → SaysConfig asked config → length image ≤ config.mem.size
  run_image run image config h s = subst (λ c. length image ≤ c.mem.size) (same_config asked run.config config run.passes.gives s)
      (held_bytes (image_name asked.form) asked.files (λ b. length b ≤ run.config.mem.size) image run.image h)

  run_accepted : (run : RunOf) → MustBeImageRefused seen → ⊥
  run_accepted run must =
      let same = same_config asked run.config must.config run.passes.gives must.says in
      image_accepted must.config must.image must.fault (subst IsConfig same run.passes.gives.is_config)
      (run_image run must.image must.config must.held must.says) must.refused

  -- 5
  pub image_refused_exact : (s : Status) (line : List ℕ) → MustBeImageRefused seen → HasEnded s seen line → (s ≡ status.ImageRefused) ⊎ IsCutOff s
  image_refused_exact status.Done line must h = absurd (by_text (done_facts asked.form asked h.text line h.is_text))
    where
      by_text : TextOf ⊎ RunOf → ⊥
      by_text (inl text) =
          let found = held_name (image_name asked.form) asked.files must.image must.held in
          text.no_image found.0 found.1
      by_text (inr run) = run_accepted run must
  image_refused_exact status.Usage line must h = absurd (no_call_says asked must.config h.no_form must.says)
  image_refused_exact status.ConfigRefused line must h = absurd (not_refused asked must.config h.refusal h.refused must.says)
  image_refused_exact status.RulesRefused line must h =
      absurd (kept_refused asked h.config must.config h.refusal h.gives must.says h.tries must.rules h.refused)
  image_refused_exact status.ImageRefused line must h = inl refl
  image_refused_exact status.ReadFault line must h = absurd (elim h.unread [
    | inl u ↦ config_unread must.says.bytes u must.says.held must.calm
    | inr u ↦ image_unread must.image u must.held must.calm
  ])
  image_refused_exact status.WriteFault line must h = inr (inl refl)
  image_refused_exact status.NoMemory line must h = inr (inr refl)
  image_refused_exact status.CyclesEnded line must h = absurd (run_accepted (run_facts asked.form asked _ h.text h.run) must)
  image_refused_exact status.ModuleRefused line must h = absurd h
  image_refused_exact status.Stopped line must h = absurd (run_accepted (run_facts asked.form asked _ h.text h.run) must)

  -- 6, the configuration
  config_missing_exact : (s : Status) (line : List ℕ) → MissesConfig asked → HasEnded s seen line → (s ≡ status.ReadFault) ⊎ IsCutOff s
  config_missing_exact status.Done line must h =
      let d : DoneOf = done_of h.text line h.is_text in absurd (for_missing (config_name asked.form) asked.files _ d.1.gives.said must)
  config_missing_exact status.Usage line must h = absurd (no_call asked must.0 h.no_form must.1)
  config_missing_exact status.ConfigRefused line must h = absurd (for_missing (config_name asked.form) asked.files _ h.refused must)
  config_missing_exact status.RulesRefused line must h = absurd (for_missing (config_name asked.form) asked.files _ h.gives.said must)
  config_missing_exact status.ImageRefused line must h = absurd (for_missing (config_name asked.form) asked.files _ h.passes.gives.said must)
  config_missing_exact status.ReadFault line must h = inl refl
  config_missing_exact status.WriteFault line must h = inr (inl refl)
  config_missing_exact status.NoMemory line must h = inr (inr refl)
  config_missing_exact status.CyclesEnded line must h =
      let run : RunOf = run_facts asked.form asked _ h.text h.run in absurd (for_missing (config_name asked.form) asked.files _ run.passes.gives.said must)
  config_missing_exact status.ModuleRefused line must h = absurd h
  config_missing_exact status.Stopped line must h =
      let run : RunOf = run_facts asked.form asked _ h.text h.run in absurd (for_missing (config_name asked.form) asked.files _ run.passes.gives.said must)

  -- 6, the image
  image_missing_exact : (s : Status) (line : List ℕ) → IsImageMissing seen → HasEnded s seen line → (s ≡ status.ReadFault) ⊎ IsCutOff s
  image_missing_exact status.Done line must h = absurd (by_text (done_facts asked.form asked h.text line h.is_text))
    where
      by_text : TextOf ⊎ RunOf → ⊥
      by_text (inl text) = text.no_image must.missing.0 must.missing.1
      by_text (inr run) = for_missing (image_name asked.form) asked.files _ run.image must.missing
  image_missing_exact status.Usage line must h = absurd (no_call_image asked must.missing.0 h.no_form must.missing.1)
  image_missing_exact status.ConfigRefused line must h = absurd (not_refused asked must.config h.refusal h.refused must.says)
  image_missing_exact status.RulesRefused line must h =
      absurd (kept_refused asked h.config must.config h.refusal h.gives must.says h.tries must.rules h.refused)
  image_missing_exact status.ImageRefused line must h = absurd (for_missing (image_name asked.form) asked.files _ h.refused must.missing)
  image_missing_exact status.ReadFault line must h = inl refl
  image_missing_exact status.WriteFault line must h = inr (inl refl)
  image_missing_exact status.NoMemory line must h = inr (inr refl)
  image_missing_exact status.CyclesEnded line must h =
      let run : RunOf = run_facts asked.form asked _ h.text h.run in absurd (for_missing (image_name asked.form) asked.files _ run.image must.missing)
  image_missing_exact status.ModuleRefused line must h = absurd h
  image_missing_exact status.Stopped line must h =
      let run : RunOf = run_facts asked.form asked _ h.text h.run in absurd (for_missing (image_name asked.form) asked.files _ run.image must.missing)

  pub read_fault_exact : (s : Status) (line : List ℕ) → MustBeReadFault seen → HasEnded s seen line → (s ≡ status.ReadFault) ⊎ IsCutOff s
  read_fault_exact s line (inl missing) h = config_missing_exact s line missing h
  read_fault_exact s line (inr missing) h = image_missing_exact s line missing h

  fits_accepted : (given : Config) (fault : ImageFault) (must : MustRun seen) → Gives asked given
      → ForImage asked (λ bytes. image_fault given.mem bytes ≡ Some fault) → ⊥
  fits_accepted given fault must g refused =
      let same = same_config asked given must.config g must.says in
      image_accepted given must.image fault g.is_config (subst (λ c. length must.image ≤ c.mem.size) (sym same) must.fits)
      (held_bytes (image_name asked.form) asked.files (λ b. image_fault given.mem b ≡ Some fault) must.image refused must.held)

  -- 0, 9 or 11
  pub run_exact : (s : Status) (line : List ℕ) → MustRun seen → HasEnded s seen line → EndsByRun s
  run_exact status.Done line must h = inl refl
  run_exact status.Usage line must h = absurd (no_call_says asked must.config h.no_form must.says)
  run_exact status.ConfigRefused line must h = absurd (not_refused asked must.config h.refusal h.refused must.says)
  run_exact status.RulesRefused line must h = absurd (kept_refused asked h.config must.config h.refusal h.gives must.says h.tries must.rules h.refused)
  run_exact status.ImageRefused line must h = absurd (fits_accepted h.config h.fault must h.passes.gives h.refused)
  run_exact status.ReadFault line must h = absurd (elim h.unread [
    | inl u ↦ config_unread must.says.bytes u must.says.held must.calm
    | inr u ↦ image_unread must.image u must.held must.calm
  ])
  run_exact status.WriteFault line must h = inr (inr (inr (inl refl)))
  run_exact status.NoMemory line must h = inr (inr (inr (inr refl)))
  run_exact status.CyclesEnded line must h = inr (inl refl)
  run_exact status.ModuleRefused line must h = absurd h
  run_exact status.Stopped line must h = inr (inr (inl refl))
