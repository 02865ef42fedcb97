-- System in a cycle: which interrupt is to be taken, and what its signals tell.
use Rattle.std.proofs.Common.{◌≡◌, ℕ, zero, suc, ◌%◌, ◌<◌, Bool, true, false, cond, not, ◌&&◌, ◌||◌, refl, ap, ◌∙◌, sym, subst, arith, Option, Some, None}
use Rattle.std.proofs.Math.Nat.{le_refl}
use Rattle.bus_law.specs.Memory.{Memory}
use Rattle.isa_csr.specs.Csrs.{Csrs, pending, reset_csrs}
use Rattle.isa_model.specs.Effects.{Moment}
use Rattle.isa_model.specs.Machine.{Machine, misa_of}
use Rattle.isa_model.specs.Run.{last_cycle, now}
use Rattle.plug_law.specs.Pipeline.{Shape, asked, event, faulty, irq, kill, run, target, trap_cause, trap_value, traps}
use Rattle.plug_law.specs.System.{SystemAssumed, SystemKept, SystemSignals, csrs_at}
use Rattle.plug_law.specs.Table.{Table}
use Rattle.pipe_law.proofs.Basics.{both}
use Rattle.pipe_law.proofs.Cycle.{irq_parts}
use Rattle.pipe_law.proofs.Invariant.{Here}
use Rattle.pipe_law.proofs.Unit.{alone, head}
use Rattle.pipe_law.specs.Core.{begin_at, csrs_in, events_of, exec_of, mem_of, moment_at, no_events, no_exec, told_of}

-- where no part offers System the CSRs stay those of reset
silent_csrs : (misa : ℕ) (t : Table) (mem : ℕ → Memory) (moments : ℕ → Moment) (i : ℕ) → csrs_at misa t no_exec no_events mem moments i ≡ reset_csrs misa
unfolding csrs_at
silent_csrs misa t mem moments zero = refl
silent_csrs misa t mem moments (suc zero) = refl
silent_csrs misa t mem moments (suc (suc i)) = silent_csrs misa t mem moments (suc i)

module _ (c : Here) where
  open c use {core, p, run', memory, n, is_core, laws, steps, is_memory, honest, q, h, inv, within}

  -- short names
  abbrev sh : Shape
  sh = core.shape

  abbrev moments : ℕ → Moment
  moments = moment_at run'

  abbrev mem : ℕ → Memory
  mem = mem_of memory run'

  abbrev csr : ℕ → Csrs
  csr = csrs_in core p run' memory

  abbrev m : Machine
  m = now (begin_at core memory) h

  abbrev ys : SystemSignals
  ys = told_of core p

  -- the signals of System are those of the part that offers it
  pub ys_is : core.set.system ≡ true → ys ≡ p.system
  ys_is f = ap (λ b. events_of b p.system) f

  -- the pipeline has System where the set has
  pub has_system : core.set.system ≡ true → sh.system ≡ true
  has_system f = is_core.system ∙ f

  -- ---- what System's signals tell

  -- System is told of each event
  pub event_is : (i : ℕ) → ys.event (suc i) ≡ (core.set.system && event sh p (suc i))
  event_is i = by core.set.system refl
    where
      by : (b : Bool) → core.set.system ≡ b → ys.event (suc i) ≡ (core.set.system && event sh p (suc i))
      by true f = ap (λ y. y.event (suc i)) (ys_is f) ∙ steps.sys_event i (has_system f) ∙ sym (ap (λ b. b && event sh p (suc i)) f)
      by false f = ap (λ b. (events_of b p.system).event (suc i)) f ∙ sym (ap (λ b. b && event sh p (suc i)) f)

  -- the kind that it is told
  pub kind_is : event sh p (suc q) ≡ true → (f : core.set.system ≡ true) → ys.kind (suc q) ≡ cond (asked sh p (suc q)) 2 (cond (faulty sh p (suc q)) 1 0)
  kind_is v f = ap (λ y. y.kind (suc q)) (ys_is f) ∙ steps.sys_kind q v (has_system f)

  -- the pc
  pub pc_is : (f : core.set.system ≡ true) → ys.pc (suc q) ≡ p.apc (suc q)
  pc_is f = ap (λ y. y.pc (suc q)) (ys_is f) ∙ steps.sys_pc q (has_system f)

  -- the cause
  pub told_cause : event sh p (suc q) ≡ true → (f : core.set.system ≡ true) → ys.cause (suc q) ≡ cond (asked sh p (suc q)) (p.system.irq_cause (suc q)) (trap_cause sh p (suc q))
  told_cause v f = ap (λ y. y.cause (suc q)) (ys_is f) ∙ steps.sys_cause q v (has_system f)

  -- and mtval
  pub told_tval : event sh p (suc q) ≡ true → (f : core.set.system ≡ true) → ys.tval (suc q) ≡ cond (asked sh p (suc q)) 0 (trap_value sh p (suc q))
  told_tval v f = ap (λ y. y.tval (suc q)) (ys_is f) ∙ steps.sys_tval q v (has_system f)

  -- ---- its law
  abbrev CsrsBy : Bool → ℕ → Csrs
  CsrsBy b = csrs_at (misa_of core.set) core.table (exec_of b (p.unit core.system_entry)) (events_of b p.system) mem moments

  -- System's law in this cycle
  pub sys_kept : core.set.system ≡ true → SystemKept csr p.system moments q
  sys_kept f =
      let l : suc q < n = within in
      let y = is_core.system_commits f in
      subst (λ b. SystemKept (CsrsBy b) p.system moments q) (sym f)
      (laws.system f q (λ i g. inv.exec core.system_entry y.0 i (omega arith) (omega arith)) (λ o i g. alone c i)
      (λ i g. subst (λ b. SystemAssumed (exec_of b (p.unit core.system_entry)) (events_of b p.system) i) f (inv.tells i (omega arith))))

  -- a core with System never stops
  pub runs_on : (i : ℕ) → core.set.system ≡ true → p.stopped (suc i) ≡ false
  runs_on zero f = steps.stopped_first
  runs_on (suc i) f = steps.stopped i ∙ ap (λ b. not b && (p.stopped (suc i) || traps sh p (suc i))) (has_system f)

  -- without System the CSRs are those of reset
  pub plain_csrs : core.set.system ≡ false → (i : ℕ) → csr i ≡ reset_csrs (misa_of core.set)
  plain_csrs f i = ap (λ b. CsrsBy b i) f ∙ silent_csrs (misa_of core.set) core.table mem moments i

  -- ---- interrupts

  -- where no interrupt is taken, none is to be taken
  pub calm : irq sh p (suc q) ≡ false → p.started (suc q) ≡ false → kill sh p (suc q) ≡ false → pending (csr (suc q)) (moments (suc q)).lines ≡ None
  unfolding irq
  calm i e k = by_system core.set.system refl
    where
      no_take : (a b d f : Bool) → a ≡ true → d ≡ false → f ≡ false → ((a && b) && (not d && not f)) ≡ false → b ≡ false
      no_take true true false false ha hd hf g = absurd (grind arith)
      no_take true false d f ha hd hf g = refl
      no_take true true true f ha hd hf g = absurd (grind arith)
      no_take true true false true ha hd hf g = absurd (grind arith)
      no_take false b d f ha hd hf g = absurd (grind arith)

      by_cause : (f : core.set.system ≡ true) (o : Option ℕ) → pending (csr (suc q)) (moments (suc q)).lines ≡ o → pending (csr (suc q)) (moments (suc q)).lines ≡ None
      by_cause f None z = z
      by_cause f (Some w) z =
          both (p.system.take_irq (suc q)) ((sys_kept f).some w z).0
          (no_take sh.system (p.system.take_irq (suc q)) (p.started (suc q)) (kill sh p (suc q)) (has_system f) e k i)

      by_system : (b : Bool) → core.set.system ≡ b → pending (csr (suc q)) (moments (suc q)).lines ≡ None
      by_system true f = by_cause f (pending (csr (suc q)) (moments (suc q)).lines) refl
      by_system false f = ap (λ y. pending y (moments (suc q)).lines) (plain_csrs f (suc q))

  -- the cause of an interrupt
  pub irq_system : irq sh p (suc q) ≡ true → core.set.system ≡ true
  irq_system i = sym is_core.system ∙ (irq_parts sh p (suc q) i).0

  -- an interrupt that is taken is pending in the machine's CSRs
  pub irq_pending : irq sh p (suc q) ≡ true → pending m.csrs (moments (suc q)).lines ≡ Some (p.system.irq_cause (suc q))
  irq_pending i = ap (λ y. pending y (moments (suc q)).lines) inv.csrs ∙ by (pending (csr (suc q)) (moments (suc q)).lines) refl
    where
      by : (o : Option ℕ) → pending (csr (suc q)) (moments (suc q)).lines ≡ o → pending (csr (suc q)) (moments (suc q)).lines ≡ Some (p.system.irq_cause (suc q))
      by None z = both (p.system.take_irq (suc q)) (irq_parts sh p (suc q) i).1 ((sys_kept (irq_system i)).none z)
      by (Some w) z = z ∙ ap Some (sym ((sys_kept (irq_system i)).some w z).1)

  -- a cycle since the last event in which no interrupt was to be taken
  abbrev SeenNow : Type 0
  SeenNow = (v : ℕ) × (last_cycle h < v) × (v < suc (suc q)) × (pending m.csrs (moments v).lines ≡ None)

  -- an item that runs was seen in a cycle in which none was to be taken
  pub seen_now : run sh p (suc q) ≡ true → (v : ℕ) × (last_cycle h < v) × (v < suc (suc q)) × (pending m.csrs (moments v).lines ≡ None)
  seen_now r = by (p.started (suc q)) refl
    where
      by : (b : Bool) → p.started (suc q) ≡ b → SeenNow
      by true e = let g = (inv.started e).seen in (g.0, g.1, (let z : g.0 < suc q = g.2 in omega arith), g.3)
      by false e = let d = head c r in (suc q, inv.last, le_refl (suc (suc q)), ap (λ y. pending y (moments (suc q)).lines) inv.csrs ∙ calm d.quiet e d.kept_on)

  -- the handler's address
  pub target_sys : core.set.system ≡ true → target sh p (suc q) ≡ m.csrs.mtvec
  target_sys f = ap (λ b. cond b (p.system.base (suc q)) 0) (has_system f) ∙ (sys_kept f).base ∙ ap (λ y. y.mtvec) (sym inv.csrs)

  -- the handler's address is a multiple of 4
  pub target_whole : target sh p (suc q) % 4 ≡ 0
  target_whole = by core.set.system refl
    where
      by : (b : Bool) → core.set.system ≡ b → target sh p (suc q) % 4 ≡ 0
      by true f = ap (λ v. v % 4) (target_sys f) ∙ inv.is_csrs.mtvec
      by false f = ap (λ b. cond b (p.system.base (suc q)) 0 % 4) (is_core.system ∙ f)
