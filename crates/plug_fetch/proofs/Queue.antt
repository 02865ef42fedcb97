-- The part as a queue of items, with truth values for bits.
use Rattle.std.specs.Prelude.{◌≡◌, ℕ, suc, Bool, true, false, cond, not, eqb, ltb, ◌&&◌, ◌||◌, List, [], ◌∷◌, ◌++◌, length}
use Rattle.core_words.specs.Values.{one_if}
use Rattle.core_ports.specs.Trace.{Bus}
use Rattle.plug_law.specs.Fetch.{FetchSignals}

pub record Item : Type 0 where
  pub pc : ℕ
  pub word : ℕ
  pub error : Bool

-- the registers, by cycle
pub record Registers : Type 0 where
  pub queue : ℕ → List Item
  -- a command is given
  pub given : ℕ → Bool
  -- its response is owed
  pub owed : ℕ → Bool
  -- and will be dropped
  pub dropped : ℕ → Bool
  pub address : ℕ → ℕ
  -- the pc to be read next
  pub next_pc : ℕ → ℕ

abbrev pub rest_of : List Item → List Item
rest_of [] = []
rest_of (x ∷ xs) = xs

-- at the end, where there is room
abbrev pub put_last : (depth : ℕ) → List Item → Item → List Item
put_last depth xs x = cond (ltb (length xs) depth) (xs ++ x ∷ []) xs

module _ (depth : ℕ) (f : FetchSignals) (guess : ℕ → ℕ) (ib : Bus) (r : Registers) where
  -- the response comes
  abbrev pub response : ℕ → Bool
  response t = r.owed t && eqb (ib.rsp_valid t) 1

  abbrev pub idle : ℕ → Bool
  idle t = not (r.given t || r.owed t) || response t

  abbrev pub kept : ℕ → Bool
  kept t = response t && not (r.dropped t)

  abbrev pub came : ℕ → Item
  came t = record { pc = r.address t; word = ib.rsp_data t; error = eqb (ib.rsp_error t) 1 }

  abbrev pub left : ℕ → List Item
  left t = cond (f.take t) (rest_of (r.queue t)) (r.queue t)

  abbrev pub queue_after : ℕ → List Item
  queue_after t = cond (f.redirect t) [] (cond (kept t) (put_last depth (left t) (came t)) (left t))

  abbrev pub pc_after : ℕ → ℕ
  pc_after t = cond (f.redirect t) (f.redirect_pc t) (cond (kept t) (guess t) (r.next_pc t))

  -- the next command is issued where none is at work and there will be room for its word
  abbrev pub issue : ℕ → Bool
  issue t = idle t && ltb (length (queue_after t)) depth

-- the first item is offered
abbrev pub Offers : List Item → (valid : Bool) (pc word : ℕ) (error : Bool) → Type 0
Offers [] valid pc word error = valid ≡ false
Offers (x ∷ xs) valid pc word error = (valid ≡ true) × (pc ≡ x.pc) × (word ≡ x.word) × (error ≡ x.error)

-- the equations, from cycle 1 on
pub record IsQueue (depth reset_pc : ℕ) (f : FetchSignals) (guess : ℕ → ℕ) (ib : Bus) (r : Registers) : Type 0 where
  pub queue_reset : r.queue 1 ≡ []
  pub given_reset : r.given 1 ≡ false
  pub owed_reset : r.owed 1 ≡ false
  pub dropped_reset : r.dropped 1 ≡ false
  pub next_pc_reset : r.next_pc 1 ≡ reset_pc
  pub queue : (s : ℕ) → r.queue (suc (suc s)) ≡ queue_after depth f guess ib r (suc s)
  pub given : (s : ℕ) → r.given (suc (suc s)) ≡ (issue depth f guess ib r (suc s) || (r.given (suc s) && not (eqb (ib.cmd_ready (suc s)) 1)))
  pub owed : (s : ℕ) → r.owed (suc (suc s)) ≡ ((r.given (suc s) && eqb (ib.cmd_ready (suc s)) 1) || (r.owed (suc s) && not (response depth f guess ib r (suc s))))
  pub dropped : (s : ℕ) → r.dropped (suc (suc s)) ≡ ((f.redirect (suc s) || r.dropped (suc s)) && not (idle depth f guess ib r (suc s)))
  pub address : (s : ℕ) → r.address (suc (suc s)) ≡ cond (idle depth f guess ib r (suc s)) (pc_after depth f guess ib r (suc s)) (r.address (suc s))
  pub next_pc : (s : ℕ) → r.next_pc (suc (suc s)) ≡ pc_after depth f guess ib r (suc s)
  pub offers : (s : ℕ) → Offers (r.queue (suc s)) (f.valid (suc s)) (f.pc (suc s)) (f.word (suc s)) (f.error (suc s))
  pub cmd_valid : (s : ℕ) → ib.cmd_valid (suc s) ≡ one_if (r.given (suc s))
  pub cmd_addr : (s : ℕ) → ib.cmd_addr (suc s) ≡ r.address (suc s)
  pub cmd_write : (s : ℕ) → ib.cmd_write (suc s) ≡ 0
  pub cmd_data : (s : ℕ) → ib.cmd_data (suc s) ≡ 0
  pub cmd_mask : (s : ℕ) → ib.cmd_mask (suc s) ≡ 0
