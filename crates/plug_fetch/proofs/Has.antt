-- There are runs, whatever comes.
use Rattle.std.proofs.Common.{◌≡◌, ℕ, zero, suc, ◌<◌, ◌≤◌, Bool, true, false, refl, arith}
use Rattle.core_words.specs.Values.{one_if}
use Rattle.plug_fetch.specs.Machine.{Now, held_after, put, given_after, owed_after, dropped_after, address_after, pc_after}
use Rattle.plug_fetch.specs.Runs.{AreBits, IsFetch, Comes, ComesAsBits, comes_in, HasRuns}
use Rattle.plug_fetch.proofs.Bits.{held_is, given_is, owed_is, dropped_is}

-- registers with what comes
with_inputs : Comes → Now → Now
with_inputs c n = record n { take = c.take; redirect = c.redirect; redirect_pc = c.redirect_pc; ready = c.ready; answered = c.answered; failed = c.failed; payload = c.payload; guess = c.guess }

-- out of reset; what the reset leaves as it was is 0 here
reset_at : (reset_pc : ℕ) → Now
reset_at reset_pc = record {
  held = λ i. 0;
  pc = λ i. 0;
  word = λ i. 0;
  error = λ i. 0;
  given = 0;
  owed = 0;
  dropped = 0;
  address = 0;
  next_pc = reset_pc;
  take = 0;
  redirect = 0;
  redirect_pc = 0;
  ready = 0;
  answered = 0;
  failed = 0;
  payload = 0;
  guess = 0;
}

after : (depth : ℕ) → Now → Now
after depth n = record n {
  held = held_after depth n;
  pc = λ i. put depth n i n.address n.pc;
  word = λ i. put depth n i n.payload n.word;
  error = λ i. put depth n i n.failed n.error;
  given = given_after depth n;
  owed = owed_after n;
  dropped = dropped_after n;
  address = address_after n;
  next_pc = pc_after n;
}

small : (x : ℕ) (b : Bool) → x ≡ one_if b → x < 2
small x true e = omega arith
small x false e = omega arith

module _ (depth reset_pc : ℕ) (comes : ℕ → Comes) (least : 1 ≤ depth) (bits : (t : ℕ) → ComesAsBits (comes t)) where
  run : ℕ → Now
  run zero = with_inputs (comes 0) (reset_at reset_pc)
  run (suc zero) = with_inputs (comes 1) (reset_at reset_pc)
  run (suc (suc s)) = with_inputs (comes (suc (suc s))) (after depth (run (suc s)))

  are_bits : (s : ℕ) → AreBits depth (run (suc s))
  unfolding run with_inputs reset_at after
  are_bits zero = let c = bits 1 in record {
    held = λ i l. omega arith;
    given = omega arith;
    owed = omega arith;
    dropped = omega arith;
    take = c.take;
    redirect = c.redirect;
    ready = c.ready;
    answered = c.answered;
  }
  are_bits (suc s) =
      let before = are_bits s in
      let c = bits (suc (suc s)) in
      record {
        held = λ i l. small _ _ (held_is depth (run (suc s)) before i l);
        given = small _ _ (given_is depth (run (suc s)) before least);
        owed = small _ _ (owed_is depth (run (suc s)) before);
        dropped = small _ _ (dropped_is depth (run (suc s)) before);
        take = c.take;
        redirect = c.redirect;
        ready = c.ready;
        answered = c.answered;
      }

  is_run : IsFetch depth reset_pc run
  unfolding run with_inputs reset_at after
  is_run = record {
    bits = are_bits;
    held_reset = λ i l. refl;
    given_reset = refl;
    owed_reset = refl;
    dropped_reset = refl;
    next_pc_reset = refl;
    held = λ s i l. refl;
    pc = λ s i l. refl;
    word = λ s i l. refl;
    error = λ s i l. refl;
    given = λ s. refl;
    owed = λ s. refl;
    dropped = λ s. refl;
    address = λ s. refl;
    next_pc = λ s. refl;
  }

  comes_so : (t : ℕ) → comes_in (run t) ≡ comes t
  unfolding run with_inputs reset_at after
  comes_so zero = refl
  comes_so (suc zero) = refl
  comes_so (suc (suc s)) = refl

pub has_runs : HasRuns
has_runs depth reset_pc comes least bits = (run depth reset_pc comes least bits, is_run depth reset_pc comes least bits, comes_so depth reset_pc comes least bits)
