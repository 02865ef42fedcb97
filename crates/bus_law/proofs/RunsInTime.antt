-- The run of both buses over one memory answers in time.
use Rattle.std.proofs.Common.{ℕ, ◌+◌, ◌<◌, ◌≤◌, List, All}
use Rattle.core_words.specs.Values.{one_if}
use Rattle.bus_law.specs.declared.signals.BusOut.{BusOut}
use Rattle.bus_law.specs.Memory.{Memory}
use Rattle.bus_law.specs.Protocol.{memory_at}
use Rattle.bus_law.specs.Duties.{KeepsDuties}
use Rattle.bus_law.specs.Honest.{fetch_reply, data_reply, Within}
use Rattle.bus_law.proofs.Runs.{ib, db, fetch_answer, access_answer, fetch_answers, access_answers, fetch_side, access_side, fetch_starts, access_starts, fetch_steps, access_steps}
use Rattle.bus_law.proofs.InTime.{is_within}

pub run_is_within : (m : Memory) (delays : List ℕ) (outs : ℕ → BusOut) (d n : ℕ) → All (λ delay. delay ≤ d) delays → ((k : ℕ) → k < n → KeepsDuties (ib m delays outs) k) → ((k : ℕ) → k < n → KeepsDuties (db m delays outs) k) → Within (ib m delays outs) (db m delays outs) (d + 1) n
run_is_within m delays outs d n most fetch_duties access_duties = record {
  fetches = is_within fetch_reply (memory_at m (db m delays outs)) (λ i. 0) (λ i. (outs i).ib_cmd_addr) delays (fetch_side m delays outs) (λ i. (outs i).ib_cmd_valid) (λ i. 0) (λ i. 0) (fetch_answer m delays outs) (fetch_starts m delays outs) (fetch_steps m delays outs) (fetch_answers m delays outs) d most n fetch_duties;
  accesses = is_within data_reply (memory_at m (db m delays outs)) (λ i. one_if (outs i).db_cmd_write) (λ i. (outs i).db_cmd_addr) delays (access_side m delays outs) (λ i. (outs i).db_cmd_valid) (λ i. (outs i).db_cmd_data) (λ i. (outs i).db_cmd_mask) (access_answer m delays outs) (access_starts m delays outs) (access_steps m delays outs) (access_answers m delays outs) d most n access_duties;
}
