-- Fetches that the law refuses: each keeps to a bus that answers right, and offers a word that it must not offer.
use Rattle.std.proofs.Common.{◌≡◌, ℕ, zero, suc, ◌<◌, ◌≤◌, false, cond, eqb, ltb, [], ◌∷◌, Some, Option, refl, ap, subst, arith}
use Rattle.std.proofs.lemmas.Bool.Decides.{nat_tests}
use Rattle.core_ports.specs.Trace.{Bus}
use Rattle.bus_law.specs.Memory.{Memory, word_at}
use Rattle.bus_law.specs.Honest.{IsHonestAt, fetch_reply}
use Rattle.bus_law.specs.Protocol.{is_given, is_accepted, owed}
use Rattle.plug_law.specs.Past.{last}
use Rattle.plug_law.specs.Fetch.{FetchSignals, FetchLaw}

-- two words at 80000000, and the same memory after the first word was written
abbrev memory : Memory
memory = record { base = 0x80000000; bytes = 0x93 ∷ 0x00 ∷ 0x50 ∷ 0x00 ∷ 0x11 ∷ 0x22 ∷ 0x33 ∷ 0x44 ∷ [] }

abbrev written_memory : Memory
written_memory = record { base = 0x80000000; bytes = 0x13 ∷ 0x00 ∷ 0x00 ∷ 0x00 ∷ 0x11 ∷ 0x22 ∷ 0x33 ∷ 0x44 ∷ [] }

-- the first word is read in cycle 1, and comes in a later one
abbrev reads : (answer : ℕ) → Bus
reads answer = record {
  cmd_valid = λ k. cond (eqb k 1) 1 0;
  cmd_ready = λ k. cond (eqb k 1) 1 0;
  cmd_write = λ k. 0;
  cmd_addr = λ k. 0x80000000;
  cmd_data = λ k. 0;
  cmd_mask = λ k. 0;
  rsp_valid = λ k. cond (eqb k answer) 1 0;
  rsp_error = λ k. 0;
  rsp_data = λ k. 0x00500093;
}

some_word : (a b : ℕ) → ◌≡◌ {A = Option ℕ} (Some a) (Some b) → a ≡ b
some_word a b e = cc

-- ---- the word that is owed from before a redirect

-- it goes to 80000004 in cycle 2, and offers the word that comes in cycle 3 as the one of that address
abbrev stale : FetchSignals
stale = record {
  take = λ k. false;
  redirect = λ k. eqb k 2;
  redirect_pc = λ k. 0x80000004;
  fence = λ k. false;
  valid = λ k. eqb k 4;
  pc = λ k. 0x80000004;
  word = λ k. 0x00500093;
  error = λ k. false;
  asked_pc = λ k. 0;
  asked_word = λ k. 0;
  answered = λ k. 0;
}

honest_stale : (j : ℕ) → j < 3 → IsHonestAt fetch_reply (reads 3) (λ k. memory) (suc j)
unfolding owed is_accepted is_given word_at
honest_stale zero l = record { starts = λ z. absurd (omega arith); responds = refl }
honest_stale (suc zero) l = record { starts = λ z. absurd (omega arith); responds = (refl, λ v. (refl, refl)) }
honest_stale (suc (suc zero)) l = record { starts = λ z. absurd (omega arith); responds = (refl, λ v. (refl, refl)) }
honest_stale (suc (suc (suc j))) l = absurd (omega arith)

pub stale_refused : (latency : ℕ × ℕ) (predict : ℕ → ℕ → ℕ) (reset_pc : ℕ) → FetchLaw latency false predict reset_pc stale (reads 3) (λ k. memory) → ⊥
unfolding word_at
stale_refused latency predict reset_pc law =
    let kept = law 3 (λ j l. record { takes = λ e. absurd (grind arith); whole = refl; fences = λ e. absurd (grind arith); predicted = λ e. absurd (grind arith); honest = honest_stale j l }) in
    let wrong = some_word 0x44332211 0x00500093 (kept.truth refl).gives in
    omega arith

-- ---- a word that was read before a fence

-- in cycle 3 memory has changed, and a fence comes; it offers the old word in cycle 4
abbrev forgets : FetchSignals
forgets = record {
  take = λ k. false;
  redirect = λ k. eqb k 3;
  redirect_pc = λ k. 0x80000000;
  fence = λ k. eqb k 3;
  valid = λ k. eqb k 4;
  pc = λ k. 0x80000000;
  word = λ k. 0x00500093;
  error = λ k. false;
  asked_pc = λ k. 0;
  asked_word = λ k. 0;
  answered = λ k. 0;
}

abbrev changes : ℕ → Memory
changes k = cond (ltb k 3) memory written_memory

honest_forgets : (j : ℕ) → j < 3 → IsHonestAt fetch_reply (reads 2) changes (suc j)
unfolding owed is_accepted is_given word_at
honest_forgets zero l = record { starts = λ z. absurd (omega arith); responds = refl }
honest_forgets (suc zero) l = record { starts = λ z. absurd (omega arith); responds = (refl, λ v. (refl, refl)) }
honest_forgets (suc (suc zero)) l = record { starts = λ z. absurd (omega arith); responds = refl }
honest_forgets (suc (suc (suc j))) l = absurd (omega arith)

-- from the fence's cycle on memory is the new one
late : (c : ℕ) → last forgets.fence 4 ≤ c → ltb c 3 ≡ false
unfolding last
late c l = at_least c l
  where
    at_least : (c : ℕ) → 3 ≤ c → ltb c 3 ≡ false
    at_least c l = grind (arith, nat_tests)

pub forgets_refused : (latency : ℕ × ℕ) (predict : ℕ → ℕ → ℕ) (reset_pc : ℕ) → FetchLaw latency false predict reset_pc forgets (reads 2) changes → ⊥
unfolding word_at
forgets_refused latency predict reset_pc law =
    let kept = law 3 (λ j l. record { takes = λ e. absurd (grind arith); whole = refl; fences = λ e. e; predicted = λ e. absurd (grind arith); honest = honest_forgets j l }) in
    let item = kept.truth refl in
    let new : changes item.cycle ≡ written_memory = ap (λ b. cond b memory written_memory) (late item.cycle item.after_fence) in
    let wrong = some_word 0x00000013 0x00500093 (subst (λ m. word_at m 0x80000000 ≡ Some 0x00500093) new item.gives) in
    omega arith
