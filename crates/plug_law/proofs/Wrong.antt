-- Parts and pipelines that the laws and the step refuse, each by one of their clauses.
use Rattle.std.proofs.Common.{◌≡◌, ℕ, suc, Bool, true, false, cond, not, List, ◌∷◌, ◌&&◌, ◌||◌, refl, sym, ap, ◌∙◌, arith}
use Rattle.core_ports.specs.Trace.{Bus, Trace, has_event, port_event}
use Rattle.bus_law.specs.Memory.{Memory}
use Rattle.isa_csr.specs.Csrs.{Csrs}
use Rattle.isa_model.specs.Effects.{Moment}
use Rattle.plug_law.specs.Table.{Table}
use Rattle.isa_model.specs.Run.{is_fence_word}
use Rattle.plug_law.specs.Exec.{ExecSignals, ExecKept}
use Rattle.plug_law.specs.Hazard.{Ahead, HazardSignals, HazardLaw, value_or, writer}
use Rattle.plug_law.specs.RegFile.{RegSignals}
use Rattle.plug_law.specs.Pipeline.{Pipe, Shape, Steps, told, asked, faulty, irq, traps, retires, fence}

both_ways : (b : Bool) → b ≡ true → b ≡ false → ⊥
both_ways true t f = absurd (grind arith)
both_ways false t f = absurd (grind arith)

-- ---- Hazard

-- a result of register 5 in a stage behind decode
abbrev writer_of_5 : (value : ℕ) → Ahead
writer_of_5 value = record { writes = true; rd = 5; ready = true; value = value }

-- a bypass takes the older of two writers: the nearer stage has 2, the farther one 1
pub older_refused : (h : HazardSignals) (r : RegSignals) (rest : List Ahead) → h.stages 1 ≡ (writer_of_5 2 ∷ writer_of_5 1 ∷ rest) → h.ra 1 ≡ 5 → h.uses_a 1 ≡ true → h.hold 1 ≡ false → h.a 1 ≡ 1
    → HazardLaw (λ i. true) h r → ⊥
older_refused h r rest stages ra uses free older law =
    let younger : h.a 1 ≡ 2 = law.a 0 free uses ∙ (λ i. value_or (writer (λ i. true) (stages i) (ra i)) (r.a 1)) in
    omega arith

-- ---- units

-- FENCE.I is done, and does not say so
pub fence_refused : (t : Table) (e : ExecSignals) (bus : Bus) (mem : ℕ → Memory) (csrs : ℕ → Csrs) (moments : ℕ → Moment) (s : ℕ)
    → e.go (suc s) ≡ true → e.done (suc s) ≡ true → is_fence_word (e.word (suc s)) ≡ true → e.fence (suc s) ≡ false → ExecKept t e bus mem csrs moments s → ⊥
fence_refused t e bus mem csrs moments s go done word silent kept = both_ways (e.fence (suc s)) ((kept.result go done).1 ∙ word) silent

-- ---- the step

module _ (sh : Shape) (p : Pipe) (run' : Trace) (steps : Steps sh p run') (s : ℕ) where
  -- an interrupt inside of an instruction: where a store's command was given, its item has been started
  pub inside_refused : p.started (suc s) ≡ true → has_event run' (suc s) ≡ true → (port_event run' (suc s)).kind ≡ 2 → ⊥
  unfolding told asked
  inside_refused started shown kind =
      let k : ◌≡◌ {A = ℕ} (told sh p (suc s)).kind 2 = ap (λ e. e.kind) (sym (steps.tells s)) ∙ kind in
      none (sh.system && p.system.take_irq (suc s)) (faulty sh p (suc s)) sh.system ((λ i. cond ((sh.system && p.system.take_irq (suc s)) && not (sym started i)) 2 (cond (faulty sh p (suc s)) (cond sh.system 1 3) 0)) ∙ k)
    where
      none : (a f y : Bool) → ◌≡◌ {A = ℕ} (cond (a && false) 2 (cond f (cond y 1 3) 0)) 2 → ⊥
      none true true true k = absurd (omega arith)
      none true true false k = absurd (omega arith)
      none true false y k = absurd (omega arith)
      none false true true k = absurd (omega arith)
      none false true false k = absurd (omega arith)
      none false false y k = absurd (omega arith)

  -- a trap that does not flush
  pub unflushed_refused : traps sh p (suc s) ≡ true → p.flush (suc (suc s)) ≡ false → ⊥
  unflushed_refused traps_now kept =
      both_ways (p.flush (suc (suc s))) (steps.flush s ∙ (λ i. irq sh p (suc s) || (traps_now i || (retires sh p (suc s) && fence sh p (suc s)))) ∙ or_true (irq sh p (suc s))) kept
    where
      or_true : (b : Bool) → (b || true) ≡ true
      or_true true = refl
      or_true false = refl

  -- a FENCE.I that is forgotten: the words read before it would stay
  pub unfenced_refused : retires sh p (suc s) ≡ true → fence sh p (suc s) ≡ true → p.flush_fence (suc (suc s)) ≡ false → ⊥
  unfenced_refused retires_now fence_now kept = both_ways (p.flush_fence (suc (suc s))) (steps.flush_fence s ∙ (λ i. retires_now i && fence_now i)) kept

  -- a register that is written in the cycle of reset
  pub ungated_refused : p.regs.we 0 ≡ true → ⊥
  ungated_refused written = both_ways (p.regs.we 0) written steps.we_first
