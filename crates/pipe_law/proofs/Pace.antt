-- No one waits for long: the rank falls in each cycle without an event that is no wait.
use Rattle.std.proofs.Common.{◌≡◌, ℕ, zero, suc, ◌+◌, ◌*◌, ◌<◌, ◌≤◌, max, Bool, true, false, not, eqb, List, [], ◌∷◌, ◌&&◌, ◌⊎◌, inl, inr, refl, ap, ◌∙◌, sym, subst, arith, Some}
use Rattle.std.proofs.Math.Nat.{le_refl}
use Rattle.core_ports.specs.Trace.{Bus, Trace, data_bus, instruction_bus, lines_at}
use Rattle.bus_law.proofs.InTimeByCycle.{within_is_prompt}
use Rattle.bus_law.specs.Honest.{Honest, Within}
use Rattle.bus_law.specs.Memory.{IsMemory, Memory}
use Rattle.isa_model.specs.Effects.{rests}
use Rattle.isa_model.specs.Machine.{Machine}
use Rattle.isa_model.specs.Run.{History, Possible, now}
use Rattle.plug_law.specs.Fetch.{fetched_as}
use Rattle.plug_law.specs.Pipeline.{Pipe, Slot, Steps, member, run}
use Rattle.pipe_law.proofs.Basics.{and_l, and_r, not_true, or_yes, same}
use Rattle.pipe_law.proofs.Execute.{InExecute, cycle_at, past}
use Rattle.pipe_law.proofs.Invariant.{Here}
use Rattle.pipe_law.proofs.Outcome.{not_excepted}
use Rattle.pipe_law.proofs.Rank.{Phase, idle_of, owner_at, ranked, step, waits_at}
use Rattle.pipe_law.proofs.Unit.{at_pc, effect_is, head, no_fence, row_is_row}
use Rattle.pipe_law.specs.Brisk.{Brisk, IsStill, IsWait, count, cycles_of, longest}
use Rattle.pipe_law.specs.Core.{Core, IsCore, Laws, begin_at, moment_at}

-- ---- a wait is one of the machine
module _ (c : Here) where
  open c use {core, p, run', memory, n, is_core, laws, steps, is_memory, honest, q, h, inv, within}

  abbrev x : Slot
  x = p.slot (suc q)

  abbrev m : Machine
  m = now (begin_at core memory) h

  -- where the unit of the item in front rests, the machine may wait
  pub is_wait : waits_at core p run' memory (suc q) ≡ true → IsWait core.table (begin_at core memory) h (lines_at run' (suc q))
  unfolding waits_at
  is_wait e =
      let r = and_l (run core.shape p (suc q)) (not x.except && idle_of core p run' memory (owner_at core p run' memory (suc q)) (suc q)) e in
      let z = and_r (run core.shape p (suc q)) (not x.except && idle_of core p run' memory (owner_at core p run' memory (suc q)) (suc q)) e in
      let plain = not_true x.except (and_l (not x.except) (idle_of core p run' memory (owner_at core p run' memory (suc q)) (suc q)) z) in
      let id = and_r (not x.except) (idle_of core p run' memory (owner_at core p run' memory (suc q)) (suc q)) z in
      let d = head c r in
      let s = is_core.table.sleeps x.row m.pc x.word _ _ m.memory m.csrs (moment_at run' (suc q)) (sym (ap rests (effect_is c r plain)) ∙ id) in
      let no_error = (not_excepted core.set.system core.table is_core.table m x (moment_at run' (suc q)) (inv.good d.valid) plain).0 in
      record {
        word = x.word;
        possible = subst (λ pc. Possible (begin_at core memory) h pc (fetched_as false x.word)) (at_pc c d)
            (subst (λ b. Possible (begin_at core memory) h x.pc (fetched_as b x.word)) no_error (inv.truth d.valid (no_fence c d.flush)));
        is = row_is_row c r plain ∙ ap Some s.0;
        sleeps = s.1;
      }

-- ---- the greatest latency

-- no entry's latency is greater
longest_is : (latency : ℕ → ℕ × ℕ) (ks : List ℕ) (w k : ℕ) → member k ks ≡ true → cycles_of (latency k) w ≤ longest latency ks w
longest_is latency [] w k a = absurd (grind arith)
longest_is latency (x ∷ xs) w k a = by (or_yes (eqb x k) (member k xs) a) (longest_is latency xs w k)
  where
    by : (eqb x k ≡ true) ⊎ (member k xs ≡ true) → (member k xs ≡ true → cycles_of (latency k) w ≤ longest latency xs w) → cycles_of (latency k) w ≤ max (cycles_of (latency x) w) (longest latency xs w)
    by (inl e) ih = let z : cycles_of (latency x) w ≡ cycles_of (latency k) w = ap (λ i. cycles_of (latency i) w) (same x k e) in omega arith
    by (inr e) ih = let z = ih e in omega arith

module _ (core : Core) (p : Pipe) (run' : Trace) (memory : Memory) (n : ℕ)
    (is_core : IsCore core) (laws : Laws core p run' memory) (steps : Steps core.shape p run') (is_memory : IsMemory memory) (honest : Honest (instruction_bus run') (data_bus run') memory n) where
  abbrev ib : Bus
  ib = instruction_bus run'

  abbrev db : Bus
  db = data_bus run'

  abbrev before : ℕ → History
  before = past core p run' memory n is_core laws steps is_memory honest

  abbrev at : (q : ℕ) → suc q < n → InExecute
  at q l = cycle_at core p run' memory n is_core laws steps is_memory honest q l

  abbrev waits : ℕ → Bool
  waits = waits_at core p run' memory

  -- of all cycles
  are : (k : ℕ) → 1 ≤ k → k < n → waits k ≡ true → IsWait core.table (begin_at core memory) (before k) (lines_at run' k)
  are zero o l e = absurd (omega arith)
  are (suc q) o l e = is_wait (at q l).here e

  module _ (w : ℕ) (w_some : 1 ≤ w) (within : Within ib db w n) where
    abbrev F : ℕ
    F = cycles_of core.fetch_latency w

    abbrev X : ℕ
    X = longest core.latency core.shape.entries w

    -- no more cycles go by than the rank says
    pace : (len q r : ℕ) → suc q + len ≤ n → Phase core p run' memory F X q r → IsStill (begin_at core memory) run' before (suc q) len → count (λ k. not (waits k)) (suc q) len ≤ r
    unfolding count
    pace zero q r l ph st = omega arith
    pace (suc len) q r l ph st =
        let now' = st (suc q) (le_refl (suc q)) (omega arith) in
        let c = at q (omega arith) in
        let s = step c w F X w_some (λ j g. within_is_prompt ib w n within.fetches (suc j) (omega arith)) (λ j g. within_is_prompt db w n within.accesses (suc j) (omega arith)) refl
        (λ k a. longest_is core.latency core.shape.entries w k a) (sym (steps.shows q) ∙ now'.0) now'.1 r ph in
        let rest = pace len (suc q) s.0 (omega arith) s.1 (λ k a b. st k (omega arith) (omega arith)) in
        let total = s.2 in
        omega arith

    -- and any cycle has a rank that is small enough
    bound : (u len : ℕ) → 1 ≤ u → u + len ≤ n → IsStill (begin_at core memory) run' before u len → count (λ k. not (waits k)) u len < 2 * F + 3 * X + 20
    unfolding count
    bound zero len o l st = absurd (omega arith)
    bound (suc q) zero o l st = omega arith
    bound (suc q) (suc len) o l st =
        let z = pace (suc len) q (2 * F + X + 5) l (ranked (at q (omega arith)) F X) st in
        omega arith

  -- no gap is longer than the bound
  pub is_brisk : Brisk core.table (cycles_of core.fetch_latency) (longest core.latency core.shape.entries) (begin_at core memory) run' n before
  is_brisk = record { waits = waits; are = are; bound = bound }
