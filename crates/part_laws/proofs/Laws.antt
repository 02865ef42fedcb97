-- Parts that meet their laws keep them in each run of the whole.
use Rattle.std.proofs.Common.{◌≡◌, ◌∙◌, ℕ, ◌+◌, ◌*◌, ◌^◌, ◌<◌, Bool, true, false, List, [], ◌∷◌, get_or, set, length-set, refl, sym, ap, subst, arith, Option, Some, None, is_some}
use Rattle.std.proofs.lemmas.List.Elements.{All-set}
use Rattle.std.proofs.lemmas.Nat.{pow_pos}
use Rattle.core_ports.specs.Ports.{name_of, is_input}
use Rattle.core_ports.specs.Trace.{Bus, Trace, instruction_bus, data_bus}
use Rattle.bus_law.specs.Memory.{Memory}
use Rattle.hw_pool.specs.Meaning.{Env}
use Rattle.hw_module.specs.Ports.{port_at}
use Rattle.isa_csr.specs.Csrs.{Csrs}
use Rattle.isa_model.specs.Machine.{misa_of}
use Rattle.isa_model.specs.Effects.{Moment, behind}
use Rattle.service_reg.specs.declared.service.Service.TheVariants.{RegFile, System}
use Rattle.plug_law.specs.Fetch.{FetchLaw}
use Rattle.plug_law.specs.Predict.{IsPredict, PredictLaw}
use Rattle.plug_law.specs.Exec.{ExecSignals, Terms, ToldExecLaw, ExecAssumed, ExecKept, IsTimely, Alone, bus_of}
use Rattle.plug_law.specs.System.{SystemSignals, SystemAssumed, SystemLaw, csrs_at}
use Rattle.plug_law.specs.Hazard.{HazardLaw}
use Rattle.plug_law.specs.Pipeline.{Pipe, member}
use Rattle.pipe_law.specs.Core.{Core, Laws, csrs_in, mem_of, moment_at, told_to, exec_of, events_of}
use Rattle.plug_part.specs.Part.{PortTrees, Part, sees}
use Rattle.plug_part.specs.Runs.{IsPartRun}
use Rattle.plug_part.specs.Signals.{or_none, driver_value, fetch_signals, predict_signals, reg_signals, hazard_signals, exec_signals, system_signals, part_ib, part_db, moments_of}
use Rattle.plug_part.specs.Meets.{MeetsReg, MeetsHazard, MeetsPredict, IsTold, MeetsLaws}
use Rattle.part_laws.specs.Joined.{CoreTerms, Services, ports_in, entry_in, terms_in, IsOfferedBy, HasOut, AreJoined, RunsParts}
use Rattle.part_laws.specs.Pipes.{PipeOwn, pipe_of}
use Rattle.part_laws.specs.Follow.{Chosen, core_of, KeepLaws, StartsWell, IsPlanned, RunsFollow}
use Rattle.pipe_law.proofs.All.{all_claims}

some_eq : {A : Type 0} (x y : A) → ◌≡◌ {A = Option A} (Some x) (Some y) → x ≡ y
some_eq x y e = cc

zeroed : (l : List ℕ) → get_or (set l 0 0) 0 0 ≡ 0
zeroed [] = refl
zeroed (x ∷ xs) = refl

-- a law of a part with its own data bus is one with the core's, where the part offers DataBus, or has none
module _ (x : Terms) (e : ExecSignals) (mem : ℕ → Memory) (csrs : ℕ → Csrs) (moments : ℕ → Moment) (db db' : Bus) (same : x.holds ≡ true → db ≡ db') where
  buses : (b : Bool) → x.holds ≡ b → bus_of x.holds db ≡ bus_of x.holds db'
  buses true o = ap (bus_of x.holds) (same o)
  buses false o = ap (λ b. bus_of b db) o ∙ sym (ap (λ b. bus_of b db') o)

  exec_moves : (told told' : ℕ → Type 0) → ((j : ℕ) → told' j → told j) → ToldExecLaw told x e db mem csrs moments → ToldExecLaw told' x e db' mem csrs moments
  exec_moves told told' tells law s assumed alone events =
      let both = buses x.holds refl in
      subst (λ b. ExecKept x.table e b mem csrs moments s × IsTimely x e b mem csrs moments s) both
      (law s (λ j l. subst (λ b. ExecAssumed x e b mem j) (sym both) (assumed j l)) (λ h j l. alone' h j l) (λ j l. tells j (events j l)))
    where
      alone' : (h : x.holds ≡ true) → (j : ℕ) → j < s → Alone db mem j
      alone' h j l = subst (λ b. Alone b mem j) (sym (same h)) (alone h j l)

  system_moves : (misa : ℕ) (y : SystemSignals) → SystemLaw x misa e y db mem moments → SystemLaw x misa e y db' mem moments
  system_moves misa y law s assumed alone events =
      law s (λ j l. subst (λ b. ExecAssumed x e b mem j) (sym (buses x.holds refl)) (assumed j l))
      (λ h j l. subst (λ b. Alone b mem j) (sym (same h)) (alone h j l)) events

module _ (v : CoreTerms) (part : ℕ → Part) (x : Services) (joined : AreJoined v part x) where
  meets_at : (e : ℕ × PortTrees) (o : Option PortTrees) → IsOfferedBy v e o → MeetsLaws (terms_in v e.0) (part e.0)
  meets_at e o by = joined.meets e.0 by.there

  reg_meets : MeetsReg (part x.regs.0) x.regs.1
  reg_meets = (meets_at x.regs _ joined.regs).regs x.regs.1 joined.regs.is

  hazard_meets : (f : PortTrees) × (sees (part x.hazard.0) RegFile ≡ Some f) × MeetsHazard (part x.hazard.0) x.hazard.1 f
  hazard_meets = (meets_at x.hazard _ joined.hazard).hazard x.hazard.1 joined.hazard.is

  hazard_is : hazard_meets.0 ≡ x.regs.1
  hazard_is = some_eq hazard_meets.0 x.regs.1 (sym hazard_meets.1 ∙ joined.hazard_sees)

  predict_meets : (e : ℕ × PortTrees) → x.predict ≡ Some e → MeetsPredict (part e.0) e.1
  predict_meets e is = let by = joined.predict e is in (meets_at e _ by).predict e.1 by.is

  -- what is predicted, for what Fetch takes of Predict
  record Predicts (o : Option (ℕ × PortTrees)) : Type 0 where
    predict : ℕ → ℕ → ℕ
    is_predict : IsPredict (is_some (ports_in o)) predict
    law : (run : ℕ → Env) → ((i : ℕ) → IsPartRun (part i) run) → is_some (ports_in o) ≡ true → PredictLaw predict (predict_signals (or_none (ports_in o)) run)

  predicts : (o : Option (ℕ × PortTrees)) → x.predict ≡ o → Predicts o
  predicts None is = record { predict = λ pc word. behind pc; is_predict = λ pc word. refl; law = λ run runs h. absurd cc }
  predicts (Some e) is =
      let m = predict_meets e is in
      record { predict = m.predict; is_predict = m.whole; law = λ run runs h. m.law run (runs e.0) }

  abbrev predicted : Predicts x.predict
  predicted = predicts x.predict refl

  abbrev chosen : Chosen x
  chosen = record { predict = predicted.predict; is_predict = predicted.is_predict; bypassed = hazard_meets.2.bypassed; start = reg_meets.start }

  module _ (own : PipeOwn) (run : ℕ → Env) (run' : Trace) (runs : RunsParts part run run') (memory : Memory) where
    abbrev core : Core
    core = core_of v x chosen (run 0)

    abbrev p : Pipe
    p = pipe_of own x run

    abbrev mem : ℕ → Memory
    mem = mem_of memory run'

    input_is : (q : ℕ) → q < 30 → is_input (port_at q) ≡ true → (k : ℕ) → (run k).inputs q ≡ run' k (name_of (port_at q))
    input_is q l o k = sym (runs.inputs k q l o)

    out_is : (i q : ℕ) → q < 30 → is_input (port_at q) ≡ false → HasOut (part i) q → (k : ℕ) → driver_value (run k) ((part i).outs q) ≡ run' k (name_of (port_at q))
    out_is i q l o has k = ap (driver_value (run k)) has.is ∙ sym (runs.outs i q has.tree l o has.is k)

    fetch_bus : part_ib (part x.fetch.0) run ≡ instruction_bus run'
    unfolding port_at
    fetch_bus = λ i. record {
      cmd_valid = λ k. out_is x.fetch.0 2 (omega arith) refl joined.fetch_outs.0 k i;
      cmd_ready = λ k. input_is 3 (omega arith) refl k i;
      cmd_write = λ k. 0;
      cmd_addr = λ k. out_is x.fetch.0 4 (omega arith) refl joined.fetch_outs.1 k i;
      cmd_data = λ k. 0;
      cmd_mask = λ k. 0;
      rsp_valid = λ k. input_is 5 (omega arith) refl k i;
      rsp_error = λ k. input_is 6 (omega arith) refl k i;
      rsp_data = λ k. input_is 7 (omega arith) refl k i;
    }

    data_bus_is : (e : ℕ) → v.holds e ≡ true → part_db (part e) run ≡ data_bus run'
    unfolding port_at
    data_bus_is e h = let d = joined.data_outs e h in λ i. record {
      cmd_valid = λ k. out_is e 8 (omega arith) refl d.0 k i;
      cmd_ready = λ k. input_is 9 (omega arith) refl k i;
      cmd_write = λ k. out_is e 10 (omega arith) refl d.1 k i;
      cmd_addr = λ k. out_is e 11 (omega arith) refl d.2 k i;
      cmd_data = λ k. out_is e 12 (omega arith) refl d.3 k i;
      cmd_mask = λ k. out_is e 13 (omega arith) refl d.4 k i;
      rsp_valid = λ k. input_is 14 (omega arith) refl k i;
      rsp_error = λ k. input_is 15 (omega arith) refl k i;
      rsp_data = λ k. input_is 16 (omega arith) refl k i;
    }

    moments_are : moments_of run ≡ moment_at run'
    unfolding port_at
    moments_are = λ i k. record { lines = input_is 17 (omega arith) refl k i * 2 ^ 3 + input_is 18 (omega arith) refl k i * 2 ^ 7 + input_is 19 (omega arith) refl k i * 2 ^ 11 }

    -- the CSRs that the theorem speaks of are the part's own, where it offers System
    csrs_are : (k : ℕ) (y : PortTrees) → (part k).offers System ≡ Some y
        → csrs_in core p run' memory ≡ csrs_at (misa_of v.set) v.table (exec_signals (x.exec k) run) (system_signals y run) mem (moments_of run)
    csrs_are k y is =
        let at = joined.system_only k y is in
        let has : v.set.system ≡ true = joined.has_system ∙ ap (λ (o : Option (ℕ × PortTrees)). is_some o) at in
        λ i. csrs_at (misa_of v.set) v.table (exec_of (has i) (exec_signals (x.exec (entry_in (at i))) run)) (events_of (has i) (system_signals (or_none (ports_in (at i))) run)) mem ((sym moments_are i))

    -- what the core tells the entry that offers System is what that part is told
    tells : (k j : ℕ) → told_to core p k j → IsTold (part k) (exec_signals (x.exec k) run) run j
    tells k j told y is =
        let at = joined.system_only k y is in
        let has : v.set.system ≡ true = joined.has_system ∙ ap (λ (o : Option (ℕ × PortTrees)). is_some o) at in
        subst (λ (o : Option (ℕ × PortTrees)). SystemAssumed (exec_signals (x.exec (entry_in o)) run) (system_signals (or_none (ports_in o)) run) j) at
        (told has (ap (λ (o : Option (ℕ × PortTrees)). entry_in o) (sym at)))

    exec_law : (k : ℕ) → member k v.execs ≡ true → ToldExecLaw (told_to core p k) (terms_in v k).terms (p.unit k) (data_bus run') mem (csrs_in core p run' memory) (moment_at run')
    exec_law k there =
        let by = joined.execs k there in
        exec_moves (terms_in v k).terms (exec_signals (x.exec k) run) mem (csrs_in core p run' memory) (moment_at run') (part_db (part k) run) (data_bus run') (data_bus_is k)
        (IsTold (part k) (exec_signals (x.exec k) run) run) (told_to core p k) (tells k)
        (subst (ToldExecLaw (IsTold (part k) (exec_signals (x.exec k) run) run) (terms_in v k).terms (exec_signals (x.exec k) run) (part_db (part k) run) mem (csrs_in core p run' memory)) moments_are
        ((joined.meets k by.there).exec (x.exec k) by.is run (runs.parts k) mem (csrs_in core p run' memory) (λ y is. csrs_are k y is)))

    system_law_by : (o : Option (ℕ × PortTrees)) → x.system ≡ o → is_some o ≡ true
        → SystemLaw (terms_in v (entry_in o)).terms (misa_of v.set) (p.unit (entry_in o)) (system_signals (or_none (ports_in o)) run) (data_bus run') mem (moment_at run')
    system_law_by None is has = absurd cc
    system_law_by (Some e) is has =
        let by = joined.system e is in
        system_moves (terms_in v e.0).terms (exec_signals (x.exec e.0) run) mem (csrs_in core p run' memory) (moment_at run') (part_db (part e.0) run) (data_bus run') (data_bus_is e.0) (misa_of v.set) (system_signals e.1 run)
        (subst (SystemLaw (terms_in v e.0).terms (misa_of v.set) (exec_signals (x.exec e.0) run) (system_signals e.1 run) (part_db (part e.0) run) mem) moments_are
        ((joined.meets e.0 by.there).system (x.exec e.0) e.1 (joined.system_exec e is) by.is run (runs.parts e.0) mem))

    fetch_law : FetchLaw (v.latency x.fetch.0) (is_some (ports_in x.predict)) predicted.predict v.reset_pc p.fetch (instruction_bus run') mem
    fetch_law =
        let m = meets_at x.fetch _ joined.fetch in
        let sees_is = joined.fetch_sees in
        subst (λ b. FetchLaw (v.latency x.fetch.0) (is_some (ports_in x.predict)) predicted.predict v.reset_pc p.fetch b mem) fetch_bus
        (subst (λ (o : Option PortTrees). IsPredict (is_some o) predicted.predict → FetchLaw (v.latency x.fetch.0) (is_some o) predicted.predict v.reset_pc (fetch_signals x.fetch.1 o run) (part_ib (part x.fetch.0) run) mem) sees_is
        (λ h. m.fetch x.fetch.1 joined.fetch.is predicted.predict h run (runs.parts x.fetch.0) mem) predicted.is_predict)

    laws : Laws core p run' memory
    laws = record {
      fetch = fetch_law;
      predict = predicted.law run runs.parts;
      decode = (meets_at x.decoder _ joined.decoder).decode x.decoder.1 joined.decoder.is run (runs.parts x.decoder.0);
      regs = reg_meets.law run (runs.parts x.regs.0);
      hazard = subst (λ f. HazardLaw hazard_meets.2.bypassed (hazard_signals x.hazard.1 run) (reg_signals f run)) hazard_is (hazard_meets.2.law run (runs.parts x.hazard.0));
      exec = exec_law;
      system = λ has. system_law_by x.system refl (sym joined.has_system ∙ has);
    }

  starts_well : StartsWell part x chosen
  starts_well = record {
    long = λ e. reg_meets.size e.regs e.cells;
    size = λ e. length-set (reg_meets.start e.regs e.cells) 0 0 ∙ reg_meets.size e.regs e.cells;
    zero_reg = λ e. zeroed (reg_meets.start e.regs e.cells);
    fits = λ run is. All-set (λ r. r < 2 ^ 32) (reg_meets.start (run 0).regs (run 0).cells) 0 0 (pow_pos 32) (reg_meets.fits run is);
    zeros = λ e is. All-set (λ r. r ≡ 0) (reg_meets.start e.regs e.cells) 0 0 refl (reg_meets.zeros e is);
  }

  pub laws_of_run : (c : Chosen x) × StartsWell part x c × KeepLaws v part x c
  laws_of_run = (chosen, starts_well, laws)

  pub joined_follows : IsPlanned v x → (c : Chosen x) × StartsWell part x c × RunsFollow v part x c
  joined_follows planned = (
    chosen,
    starts_well,
    λ own run run' runs steps memory is_memory n honest.
        let is = planned predicted.predict hazard_meets.2.bypassed (reg_meets.start (run 0).regs (run 0).cells) (reg_meets.size (run 0).regs (run 0).cells) in
        all_claims (core own run run' runs memory) (p own run run' runs memory) run' memory n is (laws own run run' runs memory) steps is_memory honest,
  )
