-- Stops, flushes, and the words in flight in the next cycle.
use Rattle.std.proofs.Common.{◌≡◌, ℕ, suc, Bool, true, false, cond, not, ◌&&◌, ◌||◌, ◌⊎◌, inl, inr, refl, ap, ◌∙◌, sym, subst}
use Rattle.bus_law.specs.Memory.{Memory}
use Rattle.isa_model.specs.Machine.{Fetched, Machine}
use Rattle.isa_model.specs.Run.{FetchedFrom, Possible}
use Rattle.plug_law.specs.Fetch.{fetched_as, offered}
use Rattle.pipe_law.proofs.Fetched.{Held}
use Rattle.plug_law.specs.Pipeline.{Shape, Slot, ends, enters, fresh, irq, kill, retires, takes, traps}
use Rattle.pipe_law.proofs.After.{after_cycle, h2}
use Rattle.pipe_law.proofs.Basics.{and_no_l, and_no_r, and_r, and_yes, both, or_no, or_true}
use Rattle.pipe_law.proofs.Cycle.{enters_none, flush_kills, no_flush, takes_parts}
use Rattle.pipe_law.proofs.Front.{Front, front}
use Rattle.pipe_law.proofs.Front.Front.{Came, Stayed}
use Rattle.pipe_law.proofs.Invariant.{Here, fetched_in}
use Rattle.pipe_law.proofs.Unit.{fetch_kept, no_fence}
use Rattle.pipe_law.specs.Core.{begin_at, mem_of}
use Rattle.plug_law.specs.Pipeline as wire

module _ (c : Here) where
  open c use {core, p, run', memory, n, is_core, laws, steps, is_memory, honest, q, h, inv, within}

  -- short names
  abbrev sh : Shape
  sh = core.shape

  abbrev mem : ℕ → Memory
  mem = mem_of memory run'

  abbrev begin : Machine
  begin = begin_at core memory

  abbrev x : Slot
  x = p.slot (suc q)

  -- ---- the rows of stops and flushes

  -- a core that stops has nothing in front, or drops it
  pub stop_next : p.stopped (suc (suc q)) ≡ true → (p.flush (suc (suc q)) ≡ true) ⊎ (p.valid (suc (suc q)) ≡ false)
  stop_next e = by (traps sh p (suc q)) refl
    where
      z : (p.stopped (suc q) || traps sh p (suc q)) ≡ true
      z = and_r (not sh.system) (p.stopped (suc q) || traps sh p (suc q)) (sym (steps.stopped q) ∙ e)

      or_none : (b : Bool) → (b || false) ≡ b
      or_none true = refl
      or_none false = refl

      no_take : p.stopped (suc q) ≡ true → (b : Bool) → takes sh p (suc q) ≡ b → takes sh p (suc q) ≡ false
      no_take st true t = both (p.stopped (suc q)) st (takes_parts sh p (suc q) t).4
      no_take st false t = t

      gone : (p.flush (suc q) ≡ true) ⊎ (p.valid (suc q) ≡ false) → p.stopped (suc q) ≡ true → p.valid (suc (suc q)) ≡ false
      gone (inl f) st =
          steps.valid q ∙ and_no_l (not (kill sh p (suc q) || irq sh p (suc q))) (takes sh p (suc q) || not (enters sh p (suc q)))
          (ap (λ b. not (b || irq sh p (suc q))) (flush_kills sh p (suc q) f))
      gone (inr v) st =
          steps.valid q ∙ and_no_r (not (kill sh p (suc q) || irq sh p (suc q))) (takes sh p (suc q) || not (enters sh p (suc q)))
          (or_no (takes sh p (suc q)) (not (enters sh p (suc q))) (no_take st (takes sh p (suc q)) refl) (ap not (enters_none sh p (suc q) v)))

      by : (b : Bool) → traps sh p (suc q) ≡ b → (p.flush (suc (suc q)) ≡ true) ⊎ (p.valid (suc (suc q)) ≡ false)
      by true t = inl (steps.flush q ∙ or_true (irq sh p (suc q)) (traps sh p (suc q) || (retires sh p (suc q) && wire.fence sh p (suc q))) (ap (λ b. b || (retires sh p (suc q) && wire.fence sh p (suc q))) t))
      by false t =
          let st : p.stopped (suc q) ≡ true = sym (or_none (p.stopped (suc q))) ∙ ap (λ b. p.stopped (suc q) || b) (sym t) ∙ z in
          inr (gone (inv.stop st) st)

  -- a FENCE.I flushes
  pub fence_next : p.flush_fence (suc (suc q)) ≡ true → p.flush (suc (suc q)) ≡ true
  fence_next e =
      steps.flush q ∙ or_true (irq sh p (suc q)) (traps sh p (suc q) || (retires sh p (suc q) && wire.fence sh p (suc q)))
      (or_true (traps sh p (suc q)) (retires sh p (suc q) && wire.fence sh p (suc q)) (sym (steps.flush_fence q) ∙ e))

  -- ---- the words in flight

  -- what may be fetched may still be, unless a FENCE.I retires
  kept_item : (pc : ℕ) (got : Fetched) → p.flush_fence (suc (suc q)) ≡ false → (p.started (suc q) ≡ false) ⊎ (ends sh p (suc q) ≡ true)
      → (Possible begin h pc got ⊎ FetchedFrom (mem (suc q)) pc got) → Possible begin (h2 c) pc got
  kept_item pc got f w (inl o) = (after_cycle c).keeps pc got f o
  kept_item pc got f w (inr o) = (after_cycle c).fresh w pc got o

  -- without a kill Fetch sees no fence
  no_fence_now : kill sh p (suc q) ≡ false → p.fetch.fence (suc q) ≡ false
  no_fence_now k = steps.fetch_fence q ∙ and_no_l (kill sh p (suc q)) (p.flush_fence (suc q)) k

  -- so words in flight stay in flight
  held_now : kill sh p (suc q) ≡ false → (pc : ℕ) (got : Fetched) → FetchedFrom (mem (suc q)) pc got ⊎ Held p.fetch mem q pc got → Held p.fetch mem (suc q) pc got
  unfolding Held
  held_now k pc got (inl o) = inl o
  held_now k pc got (inr o) = inr (no_fence_now k, o)

  -- the item that is taken is the one offered
  offered_new : fetched_in (fresh sh p (suc q)) ≡ offered p.fetch (suc q)
  offered_new = by (p.fetch.error (suc q)) (p.fetch.word (suc q))
    where
      by : (b : Bool) (w : ℕ) → fetched_as b (cond b 0 w) ≡ fetched_as b w
      by true w = refl
      by false w = refl

  -- where nothing is in front, nothing is started
  not_started : (p.valid (suc q) ≡ false) ⊎ (ends sh p (suc q) ≡ true) → (p.started (suc q) ≡ false) ⊎ (ends sh p (suc q) ≡ true)
  not_started (inr e) = inr e
  not_started (inl v) = inl (by (p.started (suc q)) refl)
    where
      by : (b : Bool) → p.started (suc q) ≡ b → p.started (suc q) ≡ false
      by true e = both (p.valid (suc q)) (inv.started e).valid v
      by false e = e

  -- what the item in front holds may be fetched in the next cycle
  pub truth_next : p.valid (suc (suc q)) ≡ true → p.flush_fence (suc (suc q)) ≡ false → Possible begin (h2 c) (p.slot (suc (suc q))).pc (fetched_in (p.slot (suc (suc q))))
  truth_next v f = by (front c v)
    where
      by : Front c → Possible begin (h2 c) (p.slot (suc (suc q))).pc (fetched_in (p.slot (suc (suc q))))
      by (Came t e k lv) =
          let tp = takes_parts sh p (suc q) t in
          subst (λ z. Possible begin (h2 c) z.pc (fetched_in z)) (sym e)
          (subst (λ z. Possible begin (h2 c) (p.fetch.pc (suc q)) z) (sym offered_new)
          (kept_item (p.fetch.pc (suc q)) (offered p.fetch (suc q)) f (not_started lv)
          (inv.held (p.fetch.pc (suc q)) (offered p.fetch (suc q)) (held_now k (p.fetch.pc (suc q)) (offered p.fetch (suc q)) ((fetch_kept c).truth tp.0)))))
      by (Stayed w n e k) =
          subst (λ z. Possible begin (h2 c) z.pc (fetched_in z)) (sym e)
          ((after_cycle c).keeps x.pc (fetched_in x) f (inv.truth w (no_fence c (no_flush sh p (suc q) k))))

  -- so may what is in flight, or memory holds it
  pub held_next : (pc : ℕ) (got : Fetched) → Held p.fetch mem (suc (suc q)) pc got → Possible begin (h2 c) pc got ⊎ FetchedFrom (mem (suc (suc q))) pc got
  unfolding Held
  held_next pc got (inl o) = inr o
  held_next pc got (inr o) = by (inv.held pc got o.1)
    where
      calm_fence : (b : Bool) → p.flush_fence (suc (suc q)) ≡ b → p.flush_fence (suc (suc q)) ≡ false
      calm_fence true f = both (p.fetch.fence (suc (suc q))) (steps.fetch_fence (suc q) ∙ and_yes (kill sh p (suc (suc q))) (p.flush_fence (suc (suc q))) (flush_kills sh p (suc (suc q)) (fence_next f)) f) o.0
      calm_fence false f = f

      by : Possible begin h pc got ⊎ FetchedFrom (mem (suc q)) pc got → Possible begin (h2 c) pc got ⊎ FetchedFrom (mem (suc (suc q))) pc got
      by (inl g) = inl ((after_cycle c).keeps pc got (calm_fence (p.flush_fence (suc (suc q))) refl) g)
      by (inr g) = (after_cycle c).old pc got g
