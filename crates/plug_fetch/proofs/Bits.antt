-- The equations over numbers are those over truth values, where bits are bits.
use Rattle.std.proofs.Common.{◌≡◌, ℕ, zero, suc, ◌-◌, ◌%◌, ◌<◌, ◌≤◌, Bool, true, false, cond, not, eqb, ltb, ◌&&◌, ◌||◌, refl, sym, ap, ◌∙◌, arith}
use Rattle.std.proofs.lemmas.Bool.{ltb-true}
use Rattle.core_words.specs.Values.{one_if}
use Rattle.core_ports.specs.Trace.{Bus}
use Rattle.bus_law.specs.Memory.{Memory}
use Rattle.isa_model.specs.Effects.{behind}
use Rattle.plug_law.specs.Fetch.{FetchSignals, FetchAssumed}
use Rattle.plug_law.specs.Predict.{IsPredict}
use Rattle.plug_fetch.specs.Machine.{Now, response_of, idle_of, kept_of, moved_of, fills_of, held_of, put_of, pc_of, given_of, owed_of, dropped_of, address_of}
use Rattle.plug_fetch.specs.Machine as machine
use Rattle.plug_fetch.specs.Runs.{AreBits, IsFetch, Shows}
use Rattle.plug_fetch.proofs.Truths.{back}
use Rattle.plug_fetch.proofs.Turns.{Turn, Places, now_at, IsPlaces, listed}
use Rattle.plug_fetch.proofs.Turns as turns
use Rattle.plug_fetch.proofs.Invariant.{IsGiven}

bit_is : (n : ℕ) → n < 2 → n ≡ one_if (eqb n 1)
bit_is zero h = refl
bit_is (suc zero) h = refl
bit_is (suc (suc n)) h = absurd (omega arith)

-- ---- each function at truth values

response_at : (o v : Bool) → response_of (one_if o) (one_if v) ≡ one_if (o && v)
unfolding response_of
response_at true true = refl
response_at true false = refl
response_at false true = refl
response_at false false = refl

idle_at : (g o r : Bool) → idle_of (one_if g) (one_if o) (one_if r) ≡ one_if (not (g || o) || r)
unfolding idle_of
idle_at true true true = refl
idle_at true true false = refl
idle_at true false true = refl
idle_at true false false = refl
idle_at false true true = refl
idle_at false true false = refl
idle_at false false true = refl
idle_at false false false = refl

kept_at : (r d : Bool) → kept_of (one_if r) (one_if d) ≡ one_if (r && not d)
unfolding kept_of
kept_at true true = refl
kept_at true false = refl
kept_at false true = refl
kept_at false false = refl

moved_at : (t own next : Bool) → moved_of (one_if t) (one_if own) (one_if next) ≡ one_if (cond t next own)
unfolding moved_of
moved_at true own next = refl
moved_at false own next = refl

fills_at : (k m b : Bool) → fills_of (one_if k) (one_if m) (one_if b) ≡ one_if (k && (not m && b))
unfolding fills_of
fills_at true true true = refl
fills_at true true false = refl
fills_at true false true = refl
fills_at true false false = refl
fills_at false true true = refl
fills_at false true false = refl
fills_at false false true = refl
fills_at false false false = refl

held_at : (r m f : Bool) → held_of (one_if r) (one_if m) (one_if f) ≡ one_if (not r && (m || f))
unfolding held_of
held_at true true true = refl
held_at true true false = refl
held_at true false true = refl
held_at true false false = refl
held_at false true true = refl
held_at false true false = refl
held_at false false true = refl
held_at false false false = refl

put_at : (b t more : Bool) (came next own : ℕ) → put_of (one_if b) came (one_if t) (cond more next own) own ≡ cond b came (cond (t && more) next own)
unfolding put_of
put_at true t more came next own = refl
put_at false true more came next own = refl
put_at false false more came next own = refl

pc_at : (r k : Bool) (redirect_pc guess next_pc : ℕ) → pc_of (one_if r) redirect_pc (one_if k) guess next_pc ≡ cond r redirect_pc (cond k guess next_pc)
unfolding pc_of
pc_at true k redirect_pc guess next_pc = refl
pc_at false true redirect_pc guess next_pc = refl
pc_at false false redirect_pc guess next_pc = refl

given_at : (i l g y : Bool) → given_of (one_if i) (one_if l) (one_if g) (one_if y) ≡ one_if ((i && not l) || (g && not y))
unfolding given_of
given_at true true true true = refl
given_at true true true false = refl
given_at true true false true = refl
given_at true true false false = refl
given_at true false true true = refl
given_at true false true false = refl
given_at true false false true = refl
given_at true false false false = refl
given_at false true true true = refl
given_at false true true false = refl
given_at false true false true = refl
given_at false true false false = refl
given_at false false true true = refl
given_at false false true false = refl
given_at false false false true = refl
given_at false false false false = refl

owed_at : (g y o r : Bool) → owed_of (one_if g) (one_if y) (one_if o) (one_if r) ≡ one_if ((g && y) || (o && not r))
unfolding owed_of
owed_at true true true true = refl
owed_at true true true false = refl
owed_at true true false true = refl
owed_at true true false false = refl
owed_at true false true true = refl
owed_at true false true false = refl
owed_at true false false true = refl
owed_at true false false false = refl
owed_at false true true true = refl
owed_at false true true false = refl
owed_at false true false true = refl
owed_at false true false false = refl
owed_at false false true true = refl
owed_at false false true false = refl
owed_at false false false true = refl
owed_at false false false false = refl

dropped_at : (r d i : Bool) → dropped_of (one_if r) (one_if d) (one_if i) ≡ one_if ((r || d) && not i)
unfolding dropped_of
dropped_at true true true = refl
dropped_at true true false = refl
dropped_at true false true = refl
dropped_at true false false = refl
dropped_at false true true = refl
dropped_at false true false = refl
dropped_at false false true = refl
dropped_at false false false = refl

address_at : (i : Bool) (pc address : ℕ) → address_of (one_if i) pc address ≡ cond i pc address
unfolding address_of
address_at true pc address = refl
address_at false pc address = refl

-- a test of what is put
test_put : (b c : Bool) (came next own : ℕ) → eqb (cond b came (cond c next own)) 1 ≡ cond b (eqb came 1) (cond c (eqb next 1) (eqb own 1))
test_put true c came next own = refl
test_put false true came next own = refl
test_put false false came next own = refl

-- ---- one cycle

abbrev pub turn : Now → Turn
turn n = record {
  held = λ i. eqb (n.held i) 1;
  pc = n.pc;
  word = n.word;
  error = λ i. eqb (n.error i) 1;
  given = eqb n.given 1;
  owed = eqb n.owed 1;
  dropped = eqb n.dropped 1;
  address = n.address;
  next_pc = n.next_pc;
  take = eqb n.take 1;
  redirect = eqb n.redirect 1;
  redirect_pc = n.redirect_pc;
  ready = eqb n.ready 1;
  answered = eqb n.answered 1;
  failed = eqb n.failed 1;
  payload = n.payload;
  predicted = n.guess;
}

module _ (depth : ℕ) (n : Now) (bits : AreBits depth n) where
  response_is : machine.response n ≡ one_if (turns.response (turn n))
  response_is = (λ j. response_of (bit_is n.owed bits.owed j) (bit_is n.answered bits.answered j)) ∙ response_at (eqb n.owed 1) (eqb n.answered 1)

  idle_is : machine.idle n ≡ one_if (turns.idle (turn n))
  idle_is = (λ j. idle_of (bit_is n.given bits.given j) (bit_is n.owed bits.owed j) (response_is j)) ∙ idle_at (eqb n.given 1) (eqb n.owed 1) (turns.response (turn n))

  kept_is : machine.kept n ≡ one_if (turns.kept (turn n))
  kept_is = (λ j. kept_of (response_is j) (bit_is n.dropped bits.dropped j)) ∙ kept_at (turns.response (turn n)) (eqb n.dropped 1)

  next_is : (i : ℕ) → machine.next_held depth n i ≡ one_if (ltb (suc i) depth && eqb (n.held (suc i)) 1)
  next_is i = by (ltb (suc i) depth) refl
    where
      by : (c : Bool) → ltb (suc i) depth ≡ c → cond c (n.held (suc i)) 0 ≡ one_if (c && eqb (n.held (suc i)) 1)
      by true e = bit_is (n.held (suc i)) (bits.held (suc i) (ltb-true (suc i) depth e))
      by false e = refl

  moved_is : (i : ℕ) → i < depth → machine.moved depth n i ≡ one_if (turns.moved depth (turn n) i)
  moved_is i l =
      (λ j. moved_of (bit_is n.take bits.take j) (bit_is (n.held i) (bits.held i l) j) (next_is i j))
      ∙ moved_at (eqb n.take 1) (eqb (n.held i) 1) (ltb (suc i) depth && eqb (n.held (suc i)) 1)

  before_is : (i : ℕ) → i < depth → machine.before depth n i ≡ one_if (turns.is_before depth (turn n) i)
  before_is zero l = refl
  before_is (suc i) l = moved_is i (omega arith)

  fills_is : (i : ℕ) → i < depth → machine.fills depth n i ≡ one_if (turns.fills depth (turn n) i)
  fills_is i l =
      (λ j. fills_of (kept_is j) (moved_is i l j) (before_is i l j))
      ∙ fills_at (turns.kept (turn n)) (turns.moved depth (turn n) i) (turns.is_before depth (turn n) i)

  pub held_is : (i : ℕ) → i < depth → machine.held_after depth n i ≡ one_if (turns.held_after depth (turn n) i)
  held_is i l =
      (λ j. held_of (bit_is n.redirect bits.redirect j) (moved_is i l j) (fills_is i l j))
      ∙ held_at (eqb n.redirect 1) (turns.moved depth (turn n) i) (turns.fills depth (turn n) i)

  put_is : (i : ℕ) → i < depth → (came : ℕ) (own : ℕ → ℕ) → machine.put depth n i came own ≡ turns.put depth (turn n) i came (own (suc i)) (own i)
  put_is i l came own =
      (λ j. put_of (fills_is i l j) came (bit_is n.take bits.take j) (cond (ltb (suc i) depth) (own (suc i)) (own i)) (own i))
      ∙ put_at (turns.fills depth (turn n) i) (eqb n.take 1) (ltb (suc i) depth) came (own (suc i)) (own i)

  pc_is : machine.pc_after n ≡ turns.pc_after depth (turn n)
  pc_is = (λ j. pc_of (bit_is n.redirect bits.redirect j) n.redirect_pc (kept_is j) n.guess n.next_pc) ∙ pc_at (eqb n.redirect 1) (turns.kept (turn n)) n.redirect_pc n.guess n.next_pc

  pub given_is : 1 ≤ depth → machine.given_after depth n ≡ one_if (turns.given_after depth (turn n))
  given_is least =
      (λ j. given_of (idle_is j) (held_is (depth - 1) (omega arith) j) (bit_is n.given bits.given j) (bit_is n.ready bits.ready j))
      ∙ given_at (turns.idle (turn n)) (turns.held_after depth (turn n) (depth - 1)) (eqb n.given 1) (eqb n.ready 1)

  pub owed_is : machine.owed_after n ≡ one_if (turns.owed_after depth (turn n))
  owed_is =
      (λ j. owed_of (bit_is n.given bits.given j) (bit_is n.ready bits.ready j) (bit_is n.owed bits.owed j) (response_is j))
      ∙ owed_at (eqb n.given 1) (eqb n.ready 1) (eqb n.owed 1) (turns.response (turn n))

  pub dropped_is : machine.dropped_after n ≡ one_if (turns.dropped_after depth (turn n))
  dropped_is =
      (λ j. dropped_of (bit_is n.redirect bits.redirect j) (bit_is n.dropped bits.dropped j) (idle_is j))
      ∙ dropped_at (eqb n.redirect 1) (eqb n.dropped 1) (turns.idle (turn n))

  address_is : machine.address_after n ≡ turns.address_after depth (turn n)
  address_is = (λ j. address_of (idle_is j) (pc_is j) n.address) ∙ address_at (turns.idle (turn n)) (turns.pc_after depth (turn n)) n.address

-- ---- a run

abbrev pub places_of : (ℕ → Now) → Places
places_of q = record {
  held = λ i t. eqb ((q t).held i) 1;
  pc = λ i t. (q t).pc i;
  word = λ i t. (q t).word i;
  error = λ i t. eqb ((q t).error i) 1;
  given = λ t. eqb (q t).given 1;
  owed = λ t. eqb (q t).owed 1;
  dropped = λ t. eqb (q t).dropped 1;
  address = λ t. (q t).address;
  next_pc = λ t. (q t).next_pc;
}

abbrev pub guess_of : (ℕ → Now) → ℕ → ℕ
guess_of q t = (q t).guess

module _ (depth reset_pc : ℕ) (predicts : Bool) (q : ℕ → Now) (f : FetchSignals) (ib : Bus) (m : IsFetch depth reset_pc q) (shows : Shows predicts q f ib) where
  now_is : (s : ℕ) → now_at f (guess_of q) ib (places_of q) (suc s) ≡ turn (q (suc s))
  now_is s = λ j. record {
    held = λ i. eqb ((q (suc s)).held i) 1;
    pc = (q (suc s)).pc;
    word = (q (suc s)).word;
    error = λ i. eqb ((q (suc s)).error i) 1;
    given = eqb (q (suc s)).given 1;
    owed = eqb (q (suc s)).owed 1;
    dropped = eqb (q (suc s)).dropped 1;
    address = (q (suc s)).address;
    next_pc = (q (suc s)).next_pc;
    take = shows.take s j;
    redirect = shows.redirect s j;
    redirect_pc = shows.redirect_pc s j;
    ready = eqb (shows.cmd_ready s j) 1;
    answered = eqb (shows.rsp_valid s j) 1;
    failed = eqb (shows.rsp_error s j) 1;
    payload = shows.rsp_data s j;
    predicted = (q (suc s)).guess;
  }

  -- a bit of the next cycle, by its value at truth values of this one
  bit_next : (s next : ℕ) (after : Turn → Bool) → next ≡ one_if (after (turn (q (suc s)))) → eqb next 1 ≡ after (now_at f (guess_of q) ib (places_of q) (suc s))
  bit_next s next after e = ap (λ x. eqb x 1) e ∙ (back (after (turn (q (suc s)))) ∙ ap after (sym (now_is s)))

  pub is_places : 1 ≤ depth → IsPlaces depth reset_pc f (guess_of q) ib (places_of q)
  is_places least = record {
    held_reset = λ i l. ap (λ x. eqb x 1) (m.held_reset i l);
    given_reset = ap (λ x. eqb x 1) m.given_reset;
    owed_reset = ap (λ x. eqb x 1) m.owed_reset;
    dropped_reset = ap (λ x. eqb x 1) m.dropped_reset;
    next_pc_reset = m.next_pc_reset;
    held = λ s i l. bit_next s ((q (suc (suc s))).held i) (λ n. turns.held_after depth n i) (m.held s i l ∙ held_is depth (q (suc s)) (m.bits s) i l);
    pc = λ s i l.
        m.pc s i l ∙ (put_is depth (q (suc s)) (m.bits s) i l (q (suc s)).address (q (suc s)).pc
        ∙ λ j. turns.put depth (sym (now_is s) j) i (q (suc s)).address ((q (suc s)).pc (suc i)) ((q (suc s)).pc i));
    word = λ s i l.
        m.word s i l ∙ (put_is depth (q (suc s)) (m.bits s) i l (q (suc s)).payload (q (suc s)).word
        ∙ λ j. turns.put depth (sym (now_is s) j) i (sym (shows.rsp_data s) j) ((q (suc s)).word (suc i)) ((q (suc s)).word i));
    error = λ s i l.
        ap (λ x. eqb x 1) (m.error s i l ∙ put_is depth (q (suc s)) (m.bits s) i l (q (suc s)).failed (q (suc s)).error)
        ∙ (test_put (turns.fills depth (turn (q (suc s))) i) (eqb (q (suc s)).take 1 && ltb (suc i) depth) (q (suc s)).failed ((q (suc s)).error (suc i)) ((q (suc s)).error i)
        ∙ λ j. turns.put depth (sym (now_is s) j) i (eqb (sym (shows.rsp_error s) j) 1) (eqb ((q (suc s)).error (suc i)) 1) (eqb ((q (suc s)).error i) 1));
    given = λ s. bit_next s (q (suc (suc s))).given (turns.given_after depth) (m.given s ∙ given_is depth (q (suc s)) (m.bits s) least);
    owed = λ s. bit_next s (q (suc (suc s))).owed (turns.owed_after depth) (m.owed s ∙ owed_is depth (q (suc s)) (m.bits s));
    dropped = λ s. bit_next s (q (suc (suc s))).dropped (turns.dropped_after depth) (m.dropped s ∙ dropped_is depth (q (suc s)) (m.bits s));
    address = λ s. m.address s ∙ (address_is depth (q (suc s)) (m.bits s) ∙ λ j. turns.address_after depth (sym (now_is s) j));
    next_pc = λ s. m.next_pc s ∙ (pc_is depth (q (suc s)) (m.bits s) ∙ λ j. turns.pc_after depth (sym (now_is s) j));
    valid = shows.valid;
    offers_pc = shows.pc;
    offers_word = shows.word;
    offers_error = shows.error;
    cmd_valid = λ s. shows.cmd_valid s ∙ bit_is (q (suc s)).given (m.bits s).given;
    cmd_addr = shows.cmd_addr;
    cmd_write = shows.cmd_write;
    cmd_data = shows.cmd_data;
    cmd_mask = shows.cmd_mask;
  }

  behind_whole : (pc : ℕ) → pc % 4 ≡ 0 → behind pc % 4 ≡ 0
  behind_whole pc h = omega arith

  module _ (mem : ℕ → Memory) (predict : ℕ → ℕ → ℕ) (reset_whole : reset_pc % 4 ≡ 0) (is_predict : IsPredict predicts predict) where
    guessed : (s : ℕ) → FetchAssumed f ib mem predicts predict s → (q (suc s)).guess ≡ predict (q (suc s)).address (ib.rsp_data (suc s))
    guessed s a = by predicts refl is_predict
      where
        by : (b : Bool) → predicts ≡ b → IsPredict b predict → (q (suc s)).guess ≡ predict (q (suc s)).address (ib.rsp_data (suc s))
        by true e h =
            shows.guess s ∙ ((λ j. cond (e j) (f.answered (suc s)) (behind (q (suc s)).address)) ∙ (a.predicted e
            ∙ λ j. predict ((shows.asks e s).0 j) (((shows.asks e s).1 ∙ sym (shows.rsp_data s)) j)))
        by false e h =
            shows.guess s ∙ ((λ j. cond (e j) (f.answered (suc s)) (behind (q (suc s)).address)) ∙ sym (h (q (suc s)).address (ib.rsp_data (suc s))))

    whole : (pc word : ℕ) → pc % 4 ≡ 0 → predict pc word % 4 ≡ 0
    whole pc word h = by predicts is_predict
      where
        by : (b : Bool) → IsPredict b predict → predict pc word % 4 ≡ 0
        by true p = p pc word h
        by false p = ap (λ k. k % 4) (p pc word) ∙ behind_whole pc h

    pub is_given : IsGiven reset_pc f (guess_of q) ib mem predicts predict (listed depth (places_of q))
    is_given = record { reset = reset_whole; whole = whole; guessed = guessed }
