-- One bus that answers after delays: what stands in its state is what its signals owe, so it is honest.
use Rattle.std.proofs.Common.{◌≡◌, ℕ, zero, suc, ◌-◌, Bool, true, false, cond, eqb, List, ◌&&◌, Option, Some, None, refl, sym, ap, ◌∙◌, subst}
use Rattle.std.specs.Prelude.{is_some}
use Rattle.core_words.specs.Values.{one_if}
use Rattle.core_ports.specs.Trace.{Bus}
use Rattle.bus_law.specs.declared.side.Answer.{Answer}
use Rattle.bus_law.specs.declared.side.Turn.{Turn}
use Rattle.bus_law.specs.declared.side.Turn.TheVariants.{Reset, Idle, Owed}
use Rattle.bus_law.specs.declared.side.Side.{Side}
use Rattle.bus_law.specs.Memory.{Memory}
use Rattle.bus_law.specs.Protocol.{is_given, is_accepted, owed}
use Rattle.bus_law.specs.Honest.{Reply, Responds, IsHonestAt}
use Rattle.bus_law.specs.Sides.{is_ready, response_of, delay_at, place_after_last, turn_after, side_after, side_at_start, error_of, payload_of}

pub back : (b : Bool) → eqb (one_if b) 1 ≡ b
back true = refl
back false = refl

-- the signals of a bus, by its states and by the commands that are given
abbrev pub side_bus : (side : ℕ → Side) (given : ℕ → Bool) (write addr value mask : ℕ → ℕ) → Bus
side_bus side given write addr value mask = record {
  cmd_valid = λ k. one_if (given k);
  cmd_ready = λ k. one_if (is_ready (side k).turn);
  cmd_write = write;
  cmd_addr = addr;
  cmd_data = value;
  cmd_mask = mask;
  rsp_valid = λ k. one_if (is_some (response_of (side k).turn));
  rsp_error = λ k. one_if (error_of (response_of (side k).turn));
  rsp_data = λ k. payload_of (response_of (side k).turn);
}

module _ (reply : Reply) (memory : ℕ → Memory) (write addr : ℕ → ℕ) where
  -- an answer is right for the command that was accepted in cycle j
  abbrev pub Answers : ℕ → Answer → Type 0
  Answers j a = reply (memory j) (addr j) (write j) (one_if a.error) a.payload

  -- what a turn says of the command whose response is owed
  abbrev pub Stands : Turn → Option ℕ → Type 0
  Stands Reset o = o ≡ None
  Stands (Idle left) o = o ≡ None
  Stands (Owed left a) o = (j : ℕ) × (o ≡ Some j) × Answers j a

  abbrev RespondsAt : Turn → Option ℕ → Type 0
  RespondsAt t None = one_if (is_some (response_of t)) ≡ 0
  RespondsAt t (Some j) = (one_if (is_ready t) ≡ 0) × (one_if (is_some (response_of t)) ≡ 1 → reply (memory j) (addr j) (write j) (one_if (error_of (response_of t))) (payload_of (response_of t)))

  zero_not_one : ◌≡◌ {A = ℕ} 0 1 → ⊥
  zero_not_one e = cc

  -- a turn that stands for what is owed responds to it
  responds_at : (t : Turn) (o : Option ℕ) → Stands t o → RespondsAt t o
  responds_at Reset o h = subst (RespondsAt Reset) (sym h) refl
  responds_at (Idle left) o h = subst (RespondsAt (Idle left)) (sym h) refl
  responds_at (Owed left a) o h = subst (RespondsAt (Owed left a)) (sym h.1) (refl, go (eqb left 0))
    where
      go : (b : Bool) → one_if (is_some (cond b (Some a) None)) ≡ 1 → reply (memory h.0) (addr h.0) (write h.0) (one_if (error_of (cond b (Some a) None))) (payload_of (cond b (Some a) None))
      go true e = h.2
      go false e = absurd (zero_not_one e)

  -- what is owed in the next cycle
  abbrev owed_after : (k : ℕ) → Turn → (given : Bool) → Option ℕ → Option ℕ
  owed_after k t given o = cond (given && eqb (one_if (is_ready t)) 1) (Some k) (cond (eqb (one_if (is_some (response_of t))) 1) None o)

  -- each step of a turn keeps to what is owed
  stands_after : (k delay next : ℕ) (t : Turn) (given : Bool) (a : Answer) (o : Option ℕ) → Answers k a → Stands t o → Stands (turn_after delay next t given a) (owed_after k t given o)
  stands_after k delay next Reset true a o r h = h
  stands_after k delay next Reset false a o r h = h
  stands_after k delay next (Idle left) true a o r h = go (eqb left 0)
    where
      go : (b : Bool) → Stands (cond b (Owed delay a) (Idle (left - 1))) (cond (true && eqb (one_if b) 1) (Some k) (cond (eqb (one_if false) 1) None o))
      go true = (k, refl, r)
      go false = h
  stands_after k delay next (Idle left) false a o r h = h
  stands_after k delay next (Owed left owed) given a o r h = go given (eqb left 0)
    where
      go : (g b : Bool) → Stands (cond b (Idle next) (Owed (left - 1) owed)) (cond (g && eqb (one_if false) 1) (Some k) (cond (eqb (one_if (is_some (cond b (Some owed) None))) 1) None o))
      go true true = refl
      go false true = refl
      go true false = h
      go false false = h

  module _ (delays : List ℕ) (side : ℕ → Side) (given : ℕ → Bool) (value mask : ℕ → ℕ) (answer : ℕ → Answer)
      (starts : side 0 ≡ side_at_start) (steps : (k : ℕ) → side (suc k) ≡ side_after delays (side k) (given k) (answer k))
      (replies : (k : ℕ) → Answers k (answer k)) where
    abbrev pub bus : Bus
    bus = side_bus side given write addr value mask

    pub stands : (k : ℕ) → Stands (side k).turn (owed bus k)
    unfolding owed is_accepted is_given
    stands zero = subst (λ s. Stands s.turn None) (sym starts) refl
    stands (suc zero) =
        subst (λ s. Stands s.turn (owed bus 1)) (sym (steps 0))
        (subst (λ s. Stands (side_after delays s (given 0) (answer 0)).turn (cond false (Some 0) (cond (eqb (one_if (is_some (response_of s.turn))) 1) None None))) (sym starts) refl)
    stands (suc (suc k)) =
        subst (λ s. Stands s.turn (owed bus (suc (suc k)))) (sym (steps (suc k)))
        (subst (λ g. Stands (side_after delays (side (suc k)) (given (suc k)) (answer (suc k))).turn (owed_after (suc k) (side (suc k)).turn g (owed bus (suc k)))) (sym (back (given (suc k))))
        (stands_after (suc k) (delay_at delays (side (suc k)).place) (delay_at delays (place_after_last delays (side (suc k)).place)) (side (suc k)).turn (given (suc k)) (answer (suc k)) (owed bus (suc k)) (replies (suc k)) (stands (suc k))))

    responds : (k : ℕ) (o : Option ℕ) → RespondsAt (side k).turn o → Responds reply bus memory k o
    responds k None h = h
    responds k (Some j) h = h

    pub is_honest : (k : ℕ) → IsHonestAt reply bus memory k
    is_honest k = record {
      starts = λ e. ap (λ i. one_if (is_ready (side i).turn)) e ∙ ap (λ s. one_if (is_ready s.turn)) starts;
      responds = responds k (owed bus k) (responds_at (side k).turn (owed bus k) (stands k));
    }
