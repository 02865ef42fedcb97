-- The parts of this kind meet their laws.
use Rattle.std.proofs.Common.{◌≡◌, ◌∙◌, ℕ, suc, ◌+◌, ◌*◌, ◌^◌, ◌<◌, Bool, true, false, eqb, get_or, Some, refl, arith, ap, sym, subst}
use Rattle.hw_pool.specs.Meaning.{Env}
use Rattle.hw_words.proofs.Bits.{bit_is}
use Rattle.hw_module.specs.Ports.{port_at}
use Rattle.bus_law.specs.Memory.{Memory}
use Rattle.isa_csr.specs.Csrs.{Csrs}
use Rattle.isa_model.specs.Machine.{Set, has_mul_div, misa_of}
use Rattle.service_reg.specs.declared.service.Service.{Service}
use Rattle.service_reg.specs.declared.service.Service.TheVariants.{Fetch, Predict, Decoder, RegFile, Hazard, DataBus}
use Rattle.service_ports.proofs.Offers.{none_some}
use Rattle.plug_law.specs.Exec.{Terms, ToldExecLaw}
use Rattle.plug_law.specs.System.{SystemLaw, csrs_at}
use Rattle.plug_part.specs.Part.{PortTrees, Part}
use Rattle.plug_part.specs.Runs.{IsPartRun}
use Rattle.plug_part.specs.Signals.{exec_signals, system_signals, part_db, moments_of}
use Rattle.plug_part.specs.Meets.{IsTold}
use Rattle.plug_part.proofs.Things.{wire_fits, reg_fits, reg_first, reg_next}
use Rattle.csr_law.specs.Machine.{IsCsr, Lines, SeesLines, State, any, old, refused, reset_state, there}
use Rattle.csr_law.specs.Law.{OwnExecLaw, TakesItsRows, csr_terms}
use Rattle.csr_law.proofs.Kept.{own_law, system_law}
use Rattle.csr_nets.specs.Machine.{Now}
use Rattle.csr_nets.proofs.Bits.{AreBits, done_is, irq_cause_is, next_pc_is, next_state, old_is, state_after, state_of, take_is, trap_is, whole_is}
use Rattle.plug_csr.specs.Builds.{BuildsCsr, CsrPartsMeetLaws, is_own, now_in}

some_same : {A : Type 0} (a b : A) → Some a ≡ Some b → a ≡ b
some_same a b e = cc

misa_fits : (s : Set) → misa_of s < 2 ^ 32
misa_fits s = by (has_mul_div s)
  where
    by : (m : Bool) → 0x40000100 + (elim m [ true ↦ 0x1000 | false ↦ 0 ]) < 2 ^ 32
    by true = omega arith
    by false = omega arith

module _ (misa : ℕ) (m : misa < 2 ^ 32) (p : Part) (b : BuildsCsr misa p) where
  module _ (run : ℕ → Env) (is : IsPartRun p run) where
    abbrev now : ℕ → Now
    now k = now_in b.first b.ports b.told (run k)

    abbrev state : ℕ → State
    state k = state_of (now k).held

    abbrev lines : Lines
    lines = record { soft = λ k. eqb (now k).lines.soft 1; timer = λ k. eqb (now k).lines.timer 1; outer = λ k. eqb (now k).lines.outer 1 }

    soft_fits : (k : ℕ) → (now k).lines.soft < 2
    unfolding port_at
    soft_fits k = is.within.inputs_fit k 17 (omega arith) refl

    timer_fits : (k : ℕ) → (now k).lines.timer < 2
    unfolding port_at
    timer_fits k = is.within.inputs_fit k 18 (omega arith) refl

    outer_fits : (k : ℕ) → (now k).lines.outer < 2
    unfolding port_at
    outer_fits k = is.within.inputs_fit k 19 (omega arith) refl

    bits : (k : ℕ) → AreBits (now k)
    bits k = record {
      on = reg_fits p run is b.first 1 _ _ b.on k;
      was = reg_fits p run is (b.first + 1) 1 _ _ b.was k;
      soft = reg_fits p run is (b.first + 2) 1 _ _ b.soft k;
      timer = reg_fits p run is (b.first + 3) 1 _ _ b.timer k;
      outer = reg_fits p run is (b.first + 4) 1 _ _ b.outer k;
      tvec = reg_fits p run is (b.first + 5) 30 _ _ b.tvec k;
      epc = reg_fits p run is (b.first + 6) 30 _ _ b.epc k;
      scratch = reg_fits p run is (b.first + 7) 32 _ _ b.scratch k;
      cause = reg_fits p run is (b.first + 8) 32 _ _ b.cause k;
      tval = reg_fits p run is (b.first + 9) 32 _ _ b.tval k;
      soft_line = soft_fits k;
      timer_line = timer_fits k;
      outer_line = outer_fits k;
      go = wire_fits p run is (get_or b.ports.inputs 0 0) 1 b.go k;
      clear = wire_fits p run is (get_or b.ports.inputs 6 0) 1 b.clear k;
      event = wire_fits p run is (get_or b.told.inputs 0 0) 1 b.event k;
      a = wire_fits p run is (get_or b.ports.inputs 4 0) 32 b.a k;
      told_pc = wire_fits p run is (get_or b.told.inputs 2 0) 32 b.told_pc k;
    }

    reset_is : state 1 ≡ reset_state
    reset_is = λ i. record {
      on = eqb (reg_first p run is b.first 1 0 _ b.on i) 1;
      was = eqb (reg_first p run is (b.first + 1) 1 0 _ b.was i) 1;
      soft = eqb (reg_first p run is (b.first + 2) 1 0 _ b.soft i) 1;
      timer = eqb (reg_first p run is (b.first + 3) 1 0 _ b.timer i) 1;
      outer = eqb (reg_first p run is (b.first + 4) 1 0 _ b.outer i) 1;
      tvec = reg_first p run is (b.first + 5) 30 0 _ b.tvec i;
      epc = reg_first p run is (b.first + 6) 30 0 _ b.epc i;
      scratch = reg_first p run is (b.first + 7) 32 0 _ b.scratch i;
      cause = reg_first p run is (b.first + 8) 32 0 _ b.cause i;
      tval = reg_first p run is (b.first + 9) 32 0 _ b.tval i;
    }

    -- the registers behind a cycle
    step : (s : ℕ) → state (suc (suc s)) ≡ next_state misa (now (suc s)) ((exec_signals b.ports run).done (suc s)) ((exec_signals b.ports run).trap (suc s))
    step s =
        (λ i. record {
          on = eqb (reg_next p run is b.first 1 _ _ b.on s i) 1;
          was = eqb (reg_next p run is (b.first + 1) 1 _ _ b.was s i) 1;
          soft = eqb (reg_next p run is (b.first + 2) 1 _ _ b.soft s i) 1;
          timer = eqb (reg_next p run is (b.first + 3) 1 _ _ b.timer s i) 1;
          outer = eqb (reg_next p run is (b.first + 4) 1 _ _ b.outer s i) 1;
          tvec = reg_next p run is (b.first + 5) 30 _ _ b.tvec s i;
          epc = reg_next p run is (b.first + 6) 30 _ _ b.epc s i;
          scratch = reg_next p run is (b.first + 7) 32 _ _ b.scratch s i;
          cause = reg_next p run is (b.first + 8) 32 _ _ b.cause s i;
          tval = reg_next p run is (b.first + 9) 32 _ _ b.tval s i;
        })
        ∙ state_after misa m (now (suc s)) (bits (suc s))
        ∙ (λ i. next_state misa (now (suc s)) (eqb (sym (b.done (run (suc s))) i) 1) (eqb (sym (b.trap (run (suc s))) i) 1))

    is_csr : IsCsr misa (exec_signals b.ports run) (system_signals b.told run) lines state
    unfolding any old there refused
    is_csr = record {
      reset = reset_is;
      on = λ s i. (step s i).on;
      was = λ s i. (step s i).was;
      soft = λ s i. (step s i).soft;
      timer = λ s i. (step s i).timer;
      outer = λ s i. (step s i).outer;
      tvec = λ s i. (step s i).tvec;
      epc = λ s i. (step s i).epc;
      scratch = λ s i. (step s i).scratch;
      cause = λ s i. (step s i).cause;
      tval = λ s i. (step s i).tval;
      done = λ s. ap (λ n. eqb n 1) (b.done (run (suc s))) ∙ done_is misa (now (suc s)) (bits (suc s));
      value = λ s. b.result (run (suc s)) ∙ old_is misa (now (suc s)) (bits (suc s));
      next_pc = λ s. b.next_pc (run (suc s)) ∙ next_pc_is misa (now (suc s)) (bits (suc s));
      trap = λ s. ap (λ n. eqb n 1) (b.trap (run (suc s))) ∙ trap_is misa (now (suc s)) (bits (suc s));
      illegal = λ s. b.illegal (run (suc s));
      its_word = λ s. b.its_word (run (suc s));
      fence = λ s. ap (λ n. eqb n 1) (b.fence (run (suc s)));
      take_irq = λ s. ap (λ n. eqb n 1) (b.take_irq (run (suc s))) ∙ take_is misa (now (suc s)) (bits (suc s));
      irq_cause = λ s. b.irq_cause (run (suc s)) ∙ irq_cause_is misa (now (suc s)) (bits (suc s));
      base = λ s. b.base (run (suc s)) ∙ whole_is (now (suc s)).held.tvec;
    }

    sees : SeesLines misa (exec_signals b.ports run) (system_signals b.told run) lines state (moments_of run)
    sees s = λ i. bit_is (now (suc s)).lines.soft (soft_fits (suc s)) i * 2 ^ 3 + bit_is (now (suc s)).lines.timer (timer_fits (suc s)) i * 2 ^ 7 + bit_is (now (suc s)).lines.outer (outer_fits (suc s)) i * 2 ^ 11

    keeps : (set : Set) (claims : ℕ → Bool) → TakesItsRows claims → (mem : ℕ → Memory)
        → OwnExecLaw (csr_terms set claims) misa (exec_signals b.ports run) (system_signals b.told run) (part_db p run) mem (moments_of run)
    keeps set claims rows mem = own_law set claims rows misa (exec_signals b.ports run) (system_signals b.told run) (part_db p run) mem (moments_of run) lines state is_csr sees

    keeps_system : (set : Set) (claims : ℕ → Bool) → TakesItsRows claims → (mem : ℕ → Memory)
        → SystemLaw (csr_terms set claims) misa (exec_signals b.ports run) (system_signals b.told run) (part_db p run) mem (moments_of run)
    keeps_system set claims rows mem = system_law set claims rows misa (exec_signals b.ports run) (system_signals b.told run) (part_db p run) mem (moments_of run) lines state is_csr sees

    -- the CSRs that it keeps, and its law where it is told of events as a part is
    abbrev csrs_of : PortTrees → Terms → (mem : ℕ → Memory) → ℕ → Csrs
    csrs_of o x mem = csrs_at misa x.table (exec_signals o run) (system_signals b.told run) mem (moments_of run)

    abbrev Law : PortTrees → Terms → (mem : ℕ → Memory) → (ℕ → Csrs) → Type 0
    Law o x mem csrs = ToldExecLaw (IsTold p (exec_signals o run) run) x (exec_signals o run) (part_db p run) mem csrs (moments_of run)

    told_law : (set : Set) (claims : ℕ → Bool) → TakesItsRows claims → (mem : ℕ → Memory) → Law b.ports (csr_terms set claims) mem (csrs_of b.ports (csr_terms set claims) mem)
    told_law set claims rows mem = λ s assumed alone told. keeps set claims rows mem s assumed alone (λ j l. told j l b.told b.system)

  -- ---- what it does not offer

  not_offered : (s : Service) → is_own s ≡ false → (o : PortTrees) → p.offers s ≡ Some o → ⊥
  not_offered s other o e = none_some (p.offers s) o (b.none s other) e

pub parts_meet_laws : CsrPartsMeetLaws
parts_meet_laws claims g p rows terms b =
    let misa : ℕ = misa_of g.set in
    let m : misa < 2 ^ 32 = misa_fits g.set in
    record {
      fetch = λ o e. absurd (not_offered misa m p b Fetch refl o e);
      fetch_state = λ o e. absurd (not_offered misa m p b Fetch refl o e);
      fetch_outs = λ o e. absurd (not_offered misa m p b Fetch refl o e);
      predict = λ o e. absurd (not_offered misa m p b Predict refl o e);
      decode = λ o e. absurd (not_offered misa m p b Decoder refl o e);
      regs = λ o e. absurd (not_offered misa m p b RegFile refl o e);
      hazard = λ o e. absurd (not_offered misa m p b Hazard refl o e);
      exec = λ o e run is mem csrs csrs_are.
          let same : b.ports ≡ o = some_same b.ports o (sym b.exec ∙ e) in
          subst (λ (c : ℕ → Csrs). Law misa m p b run is o g.terms mem c) (sym (csrs_are b.told b.system))
          (subst (λ (x : Terms). Law misa m p b run is o x mem (csrs_of misa m p b run is o x mem)) (sym terms)
          (subst (λ (q : PortTrees). Law misa m p b run is q (csr_terms g.set claims) mem (csrs_of misa m p b run is q (csr_terms g.set claims) mem)) same (told_law misa m p b run is g.set claims rows mem)));
      data_outs = λ o e. absurd (not_offered misa m p b DataBus refl o e);
      system = λ o y eo ey run is mem.
          let same : b.ports ≡ o = some_same b.ports o (sym b.exec ∙ eo) in
          let tells : b.told ≡ y = some_same b.told y (sym b.system ∙ ey) in
          subst (λ (q : PortTrees). SystemLaw g.terms misa (exec_signals o run) (system_signals q run) (part_db p run) mem (moments_of run)) tells
          (subst (λ (x : Terms). SystemLaw x misa (exec_signals o run) (system_signals b.told run) (part_db p run) mem (moments_of run)) (sym terms)
          (subst (λ (q : PortTrees). SystemLaw (csr_terms g.set claims) misa (exec_signals q run) (system_signals b.told run) (part_db p run) mem (moments_of run)) same
          (keeps_system misa m p b run is g.set claims rows mem)));
    }
