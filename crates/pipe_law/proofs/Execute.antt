-- The pipeline with commit in execute: its committing stage stands behind fetch.
use Rattle.std.proofs.Common.{◌≡◌, ℕ, suc, ◌<◌, Bool, true, false, not, eqb, ◌&&◌, ◌||◌, refl, ap, ◌∙◌, sym, subst, arith, Option, Some, None}
use Rattle.core_words.specs.Fields.{rd_of, rs1_of, rs2_of}
use Rattle.core_ports.specs.Trace.{Trace, data_bus, instruction_bus}
use Rattle.bus_law.specs.Honest.{Honest}
use Rattle.bus_law.specs.Memory.{IsMemory, Memory}
use Rattle.isa_model.specs.Machine.{register}
use Rattle.isa_model.specs.Run.{History}
use Rattle.isa_follow.specs.Follows.{Follows}
use Rattle.plug_law.specs.Decode.{Decodes, is_call}
use Rattle.plug_law.specs.Hazard.{value_or, writer}
use Rattle.plug_law.specs.Pipeline.{Pipe, Shape, Slot, Steps, fresh, fresh_except, made_late}
use Rattle.plug_law.specs.RegFile.{regs_at}
use Rattle.pipe_law.proofs.Basics.{and_no_l, and_no_r, cond_false, cond_true, not_false, or_l, or_r, both}
use Rattle.pipe_law.proofs.Cycle.{takes_parts}
use Rattle.pipe_law.proofs.Fetched.{truth_held}
use Rattle.pipe_law.proofs.Follow.{here, hist, history_is, stage_follows}
use Rattle.pipe_law.proofs.Invariant.{Here}
use Rattle.pipe_law.proofs.Stage.{StageLaws, StageSteps}
use Rattle.pipe_law.proofs.Outcome.{Good}
use Rattle.pipe_law.proofs.Serve.{stage_serves}
use Rattle.pipe_law.specs.Serves.{Serves}
use Rattle.pipe_law.specs.Core.{Core, IsCore, Laws, begin_at, mem_of}

-- an item as Decode has it
module _ (core : Core) (p : Pipe) (q : ℕ)
    (decodes : Decodes core.table core.owner (core.table.row_of (p.decode.word (suc q))) (p.decode.word (suc q)) (p.decode.legal (suc q)) (p.decode.row (suc q)) (p.decode.unit (suc q)) (p.decode.uses_a (suc q)) (p.decode.uses_b (suc q)) (p.decode.writes (suc q)))
    (same_word : p.decode.word (suc q) ≡ p.fetch.word (suc q)) where
  abbrev fw : ℕ
  fw = p.fetch.word (suc q)

  abbrev new_item : Slot
  new_item = fresh core.shape p (suc q)

  -- what Decoder says of Fetch's word
  pub decoded : (o : Option ℕ) → core.table.row_of fw ≡ o
      → Decodes core.table core.owner o fw (p.decode.legal (suc q)) (p.decode.row (suc q)) (p.decode.unit (suc q)) (p.decode.uses_a (suc q)) (p.decode.uses_b (suc q)) (p.decode.writes (suc q))
  decoded o e =
      subst (λ r. Decodes core.table core.owner r fw (p.decode.legal (suc q)) (p.decode.row (suc q)) (p.decode.unit (suc q)) (p.decode.uses_a (suc q)) (p.decode.uses_b (suc q)) (p.decode.writes (suc q))) e
      (subst (λ w. Decodes core.table core.owner (core.table.row_of w) w (p.decode.legal (suc q)) (p.decode.row (suc q)) (p.decode.unit (suc q)) (p.decode.uses_a (suc q)) (p.decode.uses_b (suc q)) (p.decode.writes (suc q))) same_word decodes)

  -- the item's word
  pub word_of_new : p.fetch.error (suc q) ≡ false → new_item.word ≡ fw
  word_of_new e = cond_false (p.fetch.error (suc q)) 0 fw e

  -- the item is decoded right
  pub good_new : Good core.table new_item
  good_new = record {
    blank = λ e. (cond_true (p.fetch.error (suc q)) 0 fw e, and_no_r (p.decode.writes (suc q)) (p.decode.legal (suc q) && not (p.fetch.error (suc q))) (and_no_r (p.decode.legal (suc q)) (not (p.fetch.error (suc q))) (ap not e)));
    none = λ e o.
        let d = decoded None (ap core.table.row_of (sym (word_of_new e)) ∙ o) in
        (d, and_no_r (p.decode.writes (suc q)) (p.decode.legal (suc q) && not (p.fetch.error (suc q))) (and_no_l (p.decode.legal (suc q)) (not (p.fetch.error (suc q))) d));
    some = λ e r o.
        let d = decoded (Some r) (ap core.table.row_of (sym (word_of_new e)) ∙ o) in
        (d.0, d.1, with_all (p.decode.writes (suc q)) (p.decode.legal (suc q)) (p.fetch.error (suc q)) d.0 e ∙ d.5 ∙ ap (λ w. core.table.has_value r && not (eqb (rd_of w) 0)) (sym (word_of_new e)));
    except = refl;
  }
    where
      with_all : (a b d : Bool) → b ≡ true → d ≡ false → (a && (b && not d)) ≡ a
      with_all true true true h k = absurd (grind arith)
      with_all true true false h k = refl
      with_all true false d h k = absurd (grind arith)
      with_all false b d h k = refl

  -- what holds of an item of a unit
  pub plain_parts : fresh_except core.shape p (suc q) ≡ false → (p.fetch.error (suc q) ≡ false) × (p.decode.legal (suc q) ≡ true) × (is_call (p.decode.row (suc q)) ≡ false)
  plain_parts z =
      let r = or_r (p.fetch.error (suc q)) (not (p.decode.legal (suc q)) || is_call (p.decode.row (suc q))) z in
      (or_l (p.fetch.error (suc q)) (not (p.decode.legal (suc q)) || is_call (p.decode.row (suc q))) z, not_false (p.decode.legal (suc q)) (or_l (not (p.decode.legal (suc q))) (is_call (p.decode.row (suc q))) r), or_r (not (p.decode.legal (suc q))) (is_call (p.decode.row (suc q))) r)

  -- its row
  pub new_row : fresh_except core.shape p (suc q) ≡ false → core.table.row_of fw ≡ Some (p.decode.row (suc q))
  new_row z = by (core.table.row_of fw) refl
    where
      by : (o : Option ℕ) → core.table.row_of fw ≡ o → core.table.row_of fw ≡ Some (p.decode.row (suc q))
      by None e = both (p.decode.legal (suc q)) (plain_parts z).1 (decoded None e)
      by (Some r) e = e ∙ ap Some (sym (decoded (Some r) e).1)

  -- its entry is the owner of its row
  pub unit_new : fresh_except core.shape p (suc q) ≡ false → p.decode.unit (suc q) ≡ core.owner (p.decode.row (suc q))
  unit_new z = (decoded (Some (p.decode.row (suc q))) (new_row z)).2 (plain_parts z).2

-- a cycle of a run, with the parts' whole laws
pub record InExecute : Type 0 where
  pub here : Here
  pub laws : Laws here.core here.p here.run' here.memory
  pub steps : Steps here.core.shape here.p here.run'

module _ (core : Core) (p : Pipe) (run' : Trace) (memory : Memory) (n : ℕ)
    (is_core : IsCore core) (laws : Laws core p run' memory) (steps : Steps core.shape p run') (is_memory : IsMemory memory) (honest : Honest (instruction_bus run') (data_bus run') memory n) where
  -- short names
  abbrev sh : Shape
  sh = core.shape

  -- what the proof needs of the parts
  pub stage_laws : StageLaws core p run' memory
  stage_laws = record {
    fetch = λ s g. let k = laws.fetch s (λ j l. g j (omega arith)) in record { truth = λ v. truth_held p.fetch (mem_of memory run') s (k.truth v); duties = k.duties };
    predict = laws.predict;
    good = λ s t. good_new core p s (laws.decode s) (steps.word s);
    unit = λ s t z. unit_new core p s (laws.decode s) (steps.word s) z;
    a = λ s t z u.
        let tp = takes_parts sh p (suc s) t in
        let d = decoded core p s (laws.decode s) (steps.word s) (Some (p.decode.row (suc s))) (new_row core p s (laws.decode s) (steps.word s) z) in
        let w = word_of_new core p s (laws.decode s) (steps.word s) (plain_parts core p s (laws.decode s) (steps.word s) z).0 in
        laws.hazard.a s tp.2 (steps.hazard_uses_a s ∙ d.3 ∙ u)
        ∙ (λ i. value_or (writer core.bypassed (steps.stages s i) ((steps.hazard_ra s ∙ ap rs1_of (sym w)) i)) ((laws.regs.a (suc s) ∙ ap (register (regs_at p.regs core.start (suc s))) (steps.ra s ∙ ap rs1_of (sym w))) i));
    b = λ s t z u.
        let tp = takes_parts sh p (suc s) t in
        let d = decoded core p s (laws.decode s) (steps.word s) (Some (p.decode.row (suc s))) (new_row core p s (laws.decode s) (steps.word s) z) in
        let w = word_of_new core p s (laws.decode s) (steps.word s) (plain_parts core p s (laws.decode s) (steps.word s) z).0 in
        laws.hazard.b s tp.2 (steps.hazard_uses_b s ∙ d.4 ∙ u)
        ∙ (λ i. value_or (writer core.bypassed (steps.stages s i) ((steps.hazard_rb s ∙ ap rs2_of (sym w)) i)) ((laws.regs.b (suc s) ∙ ap (register (regs_at p.regs core.start (suc s))) (steps.rb s ∙ ap rs2_of (sym w))) i));
    exec = λ k a s g o t. (laws.exec k a s g o t).0;
    system = laws.system;
  }

  -- and of the step
  pub stage_steps : StageSteps sh p run'
  stage_steps = record {
    apc_first = steps.apc_first;
    flush_first = steps.flush_first;
    flush_fence_first = steps.flush_fence_first;
    started_first = steps.started_first;
    stopped_first = steps.stopped_first;
    valid_first = steps.valid_first;
    tail_first = steps.tail_first;
    we_first = steps.we_first;
    apc = steps.apc;
    flush = steps.flush;
    flush_fence = steps.flush_fence;
    started = steps.started;
    stopped = steps.stopped;
    valid = steps.valid;
    slot = λ s v. steps.slot s;
    chosen = λ k s v a. steps.chosen k s a;
    late = made_late sh p;
    late_writes = λ s. refl;
    late_rd = λ s w. refl;
    late_value = λ s w. refl;
    tail = steps.tail;
    tail_short = λ s. (let e = steps.tail_long s in let z = is_core.stages in omega arith);
    we = steps.we;
    wa = steps.wa;
    wd = steps.wd;
    take = steps.take;
    redirect = steps.redirect;
    redirect_pc = steps.redirect_pc;
    fetch_fence = steps.fetch_fence;
    go = steps.go;
    go_row = steps.go_row;
    go_pc = steps.go_pc;
    go_word = steps.go_word;
    go_a = steps.go_a;
    go_b = steps.go_b;
    clear = steps.clear;
    sys_event = steps.sys_event;
    sys_pc = steps.sys_pc;
    sys_kind = λ s v. steps.sys_kind s;
    sys_cause = λ s v. steps.sys_cause s;
    sys_tval = λ s v. steps.sys_tval s;
    shows = steps.shows;
    tells = λ s v. steps.tells s;
    no_data = steps.no_data;
  }

  -- the steps of the machine before each cycle
  abbrev pub past : ℕ → History
  past = hist core p run' memory n is_core stage_laws stage_steps is_memory honest

  -- a cycle of the run
  abbrev pub cycle_at : (q : ℕ) → suc q < n → InExecute
  cycle_at q l = record { here = here core p run' memory n is_core stage_laws stage_steps is_memory honest q l; laws = laws; steps = steps }

  -- the run follows the machine
  pub pipe_follows : Follows core.set (begin_at core memory) run' n
  pipe_follows = stage_follows core p run' memory n is_core stage_laws stage_steps is_memory honest

  -- and the units serve it
  pub pipe_serves : Serves core.table core.owner core.shape p run' n
  pipe_serves = stage_serves core p run' memory n is_core stage_laws stage_steps is_memory honest

  -- they are the history of that run of the machine
  pub past_is : past ≡ pipe_follows.history
  unfolding pipe_follows
  past_is = history_is core p run' memory n is_core stage_laws stage_steps is_memory honest
