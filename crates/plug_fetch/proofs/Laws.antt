-- The part keeps the laws.
use Rattle.std.proofs.Common.{◌≡◌, ℕ, suc, ◌+◌, ◌*◌, ◌%◌, ◌<◌, ◌≤◌, Bool, arith}
use Rattle.core_ports.specs.Trace.{Bus}
use Rattle.bus_law.specs.Memory.{Memory}
use Rattle.bus_law.specs.Prompt.{IsPrompt}
use Rattle.plug_law.specs.Past.{last, accepted_since, count_since}
use Rattle.plug_law.specs.Fetch.{FetchSignals, FetchLaw, is_taken_or_redirected}
use Rattle.plug_law.specs.Depth.{DepthKept, DepthLaw}
use Rattle.plug_law.specs.Predict.{IsPredict}
use Rattle.plug_fetch.specs.Machine.{Now}
use Rattle.plug_fetch.specs.Runs.{IsFetch, Shows}
use Rattle.plug_fetch.proofs.Queue.{Registers, IsQueue}
use Rattle.plug_fetch.proofs.Turns.{listed}
use Rattle.plug_fetch.proofs.Bits.{places_of, guess_of, is_places, is_given}
use Rattle.plug_fetch.proofs.Tied.{is_queue}
use Rattle.plug_fetch.proofs.Invariant.{IsGiven, Inv, inv}
use Rattle.plug_fetch.proofs.Kept.{words, words_most, truth, order, stays, duties}
use Rattle.plug_fetch.proofs.InTime.{from_prompt}
use Rattle.plug_fetch.proofs.Timely.{progress, full}

module _ (depth reset_pc : ℕ) (f : FetchSignals) (guess : ℕ → ℕ) (ib : Bus) (mem : ℕ → Memory) (predicts : Bool) (predict : ℕ → ℕ → ℕ) (r : Registers)
    (m : IsQueue depth reset_pc f guess ib r) (given : IsGiven reset_pc f guess ib mem predicts predict r) (least : 1 ≤ depth) where
  keeps_law : FetchLaw (8, 4) predicts predict reset_pc f ib mem
  keeps_law s h = record {
    truth = truth depth reset_pc f guess ib mem predicts predict r m given s h;
    order = order depth reset_pc f guess ib mem predicts predict r m given s h;
    stays = stays depth reset_pc f guess ib mem predicts predict r m given s;
    duties = duties depth reset_pc f guess ib mem predicts predict r m given s h;
    offers = λ w one prompt e.
        progress depth reset_pc f guess ib mem predicts predict r m given least w (suc s) (from_prompt ib w (suc s) one (λ j l. prompt j (omega arith))) s (omega arith) h e;
  }

  -- the words that are there or on their way
  abbrev here : ℕ → ℕ
  here s = words depth reset_pc f guess ib mem predicts predict r (suc s)

  -- with those taken they are those read
  keeps_depth : DepthLaw depth predicts predict f ib mem
  keeps_depth s h =
      let i : Inv depth reset_pc f guess ib mem predicts predict r (suc s) = inv depth reset_pc f guess ib mem predicts predict r m given s h in
      by i.counts (words_most depth reset_pc f guess ib mem predicts predict r s i)
    where
      full_is : (w : ℕ) → 1 ≤ w → ((j : ℕ) → j < s → IsPrompt ib w (suc j)) → last (is_taken_or_redirected f) (suc s) + depth * (8 + 4 * w) ≤ s → here s ≡ depth
      full_is w one prompt e =
          full depth reset_pc f guess ib mem predicts predict r m given least w (suc s) (from_prompt ib w (suc s) one (λ j l. prompt j (omega arith))) s (omega arith) h e

      by : accepted_since ib (last f.redirect (suc s)) (suc s) ≡ count_since f.take (last f.redirect (suc s)) (suc s) + here s → here s ≤ depth → DepthKept depth f ib s
      by counted most = record {
        least = omega arith;
        most = omega arith;
        full = λ w one prompt e. let is : here s ≡ depth = full_is w one prompt e in omega arith;
      }

module _ (depth reset_pc : ℕ) (predicts : Bool) (predict : ℕ → ℕ → ℕ) (q : ℕ → Now) (f : FetchSignals) (ib : Bus) (mem : ℕ → Memory)
    (least : 1 ≤ depth) (reset_whole : reset_pc % 4 ≡ 0) (is_predict : IsPredict predicts predict) (m : IsFetch depth reset_pc q) (shows : Shows predicts q f ib) where
  tied : IsQueue depth reset_pc f (guess_of q) ib (listed depth (places_of q))
  tied = is_queue depth reset_pc f (guess_of q) ib (places_of q) (is_places depth reset_pc predicts q f ib m shows least) least

  given : IsGiven reset_pc f (guess_of q) ib mem predicts predict (listed depth (places_of q))
  given = is_given depth reset_pc predicts q f ib m shows mem predict reset_whole is_predict

  pub fetch_law : FetchLaw (8, 4) predicts predict reset_pc f ib mem
  fetch_law = keeps_law depth reset_pc f (guess_of q) ib mem predicts predict (listed depth (places_of q)) tied given least

  pub depth_law : DepthLaw depth predicts predict f ib mem
  depth_law = keeps_depth depth reset_pc f (guess_of q) ib mem predicts predict (listed depth (places_of q)) tied given least
