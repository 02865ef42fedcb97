-- A core and its buses, side by side, are the core's run on what the buses drive and the buses' run on what the core drives.
use Rattle.std.proofs.Common.{◌≡◌, ℕ, zero, suc, ◌+◌, ◌^◌, ◌<◌, Bool, true, false, cond, eqb, List, [], ◌∷◌, ◌&&◌, ◌||◌, inl, inr, ◌⊎◌, replicate, All, refl, sym, ap, ◌∙◌, subst, arith, add-one}
use Rattle.std.proofs.lemmas.List.Elements.{All-replicate}
use Rattle.core_words.specs.Names.{same_name}
use Rattle.core_words.specs.Values.{one_if}
use Rattle.core_ports.specs.Ports.{CorePort, name_of, is_input, width_of}
use Rattle.core_ports.specs.Ports as port
use Rattle.core_ports.specs.Trace.{on_port, instruction_bus, data_bus}
use Rattle.bus_law.specs.declared.signals.BusOut.{BusOut}
use Rattle.bus_law.specs.Memory.{Memory, IsMemory, store_of}
use Rattle.bus_law.specs.Protocol.{is_accepted, is_given, is_write}
use Rattle.bus_law.specs.Duties.{KeepsDuties}
use Rattle.bus_law.specs.Honest.{Honest, Within}
use Rattle.bus_law.specs.Answers.{driven, stepped, fetch_bus, access_bus}
use Rattle.bus_law.specs.Answers as answers
use Rattle.bus_law.proofs.Runs.{run_is_honest}
use Rattle.bus_law.proofs.RunsInTime.{run_is_within}
use Rattle.verilog_mean.specs.Names.{is_among}
use Rattle.verilog_mean.specs.Plain.{Item, Plain}
use Rattle.verilog_mean.specs.Plain.Item.{Wire, Reg, Array, Assign, Next, Reset, Write}
use Rattle.verilog_mean.specs.Cycle.{State, value, next, width_in}
use Rattle.verilog_mean.specs.CorePorts.{HasCorePorts}
use Rattle.verilog_mean.specs.Run.{IsInput, IsStart, AllZero, PortsFit, trace_of}
use Rattle.verilog_mean.specs.Run as run
use Rattle.verilog_mean.specs.Zero.{zero_state, cells_in}
use Rattle.verilog_sim.specs.Simulates.{AllFit}
use Rattle.verilog_sim.specs.Layouts.{output_names}
use Rattle.core_sim.specs.Joint.{Joint, joint_at, joint_inputs, joint_next, outputs_of, reset_in, run_inputs, run_of}
use Rattle.core_sim.specs.Bench.{IsCore, event_in, write_in}
use Rattle.core_sim.specs.Ends.{accepted_in}
use Rattle.core_sim.specs.Over.{IsOverBuses}
use Rattle.core_sim.proofs.CorePorts.{input_read, same_is}
use Rattle.core_sim.proofs.Fits.{AreWords, words_at_start, words_next, fetched_word, accessed_word}

-- ---- values of ports

-- an output is below 2 ^ width
pub fit_among : (m : Plain) (val : List ℕ → ℕ) (x : List ℕ) (names : List (List ℕ)) → AllFit m val names → is_among x names ≡ true → val x < 2 ^ width_in m x
fit_among m val x [] h e = cc
fit_among m val x (y ∷ ys) h e = elim (one_of (same_name y x) (is_among x ys) e) [
  | inl here ↦ subst (λ z. val z < 2 ^ width_in m z) (same_is y x here) h.0
  | inr there ↦ fit_among m val x ys h.1 there
]
  where
    one_of : (a b : Bool) → (a || b) ≡ true → (a ≡ true) ⊎ (b ≡ true)
    one_of true b e = inl refl
    one_of false b e = inr e

pub output_fits : (m : Plain) (val : List ℕ → ℕ) (p : CorePort) → IsCore m → AllFit m val (output_names m.ports) → is_input p ≡ false → val (name_of p) < 2 ^ width_of p
output_fits m val p core h o = subst (λ n. val (name_of p) < 2 ^ n) (core.widths p o) (fit_among m val (name_of p) (output_names m.ports) h (core.outputs p o))

flag_is : (v : ℕ) → v < 2 ^ 1 → v ≡ one_if (eqb v 1)
flag_is zero h = refl
flag_is (suc zero) h = refl
flag_is (suc (suc n)) h = absurd (omega arith)

-- ---- start contents

zeros : (n : ℕ) → All {X = ℕ} (λ c. c ≡ 0) (replicate n 0)
zeros n = All-replicate (λ c. c ≡ 0) n 0 refl

all_zero : (m : Plain) (items : List Item) → AllZero items (zero_state m)
all_zero m [] = tt
all_zero m (Wire width name driver ∷ rest) = all_zero m rest
all_zero m (Reg width name ∷ rest) = (refl, all_zero m rest)
all_zero m (Array width name cells ∷ rest) = (zeros (cells_in m name), all_zero m rest)
all_zero m (Assign target driver ∷ rest) = all_zero m rest
all_zero m (Next target driver ∷ rest) = all_zero m rest
all_zero m (Reset target start driver ∷ rest) = all_zero m rest
all_zero m (Write enable target index driver ∷ rest) = all_zero m rest

pub reset_below : (k : ℕ) → reset_in k < 2
reset_below zero = omega arith
reset_below (suc k) = omega arith

module _ (m : Plain) (contents : State) (memory : Memory) (delays : List ℕ) (lines : ℕ → ℕ) where
  abbrev pub joint : ℕ → Joint
  joint k = joint_at m contents memory delays lines k

  -- what the core drives by cycle
  abbrev pub outs : ℕ → BusOut
  outs k = outputs_of (value m (joint k).core (run_inputs m contents memory delays lines k))

  pub core_at : (k : ℕ) → (joint k).core ≡ run.state_at m contents (run_inputs m contents memory delays lines) k
  unfolding joint_at run.state_at
  core_at zero = refl
  core_at (suc k) = ap (λ s. next m s (run_inputs m contents memory delays lines k)) (core_at k)

  pub buses_at : (k : ℕ) → (joint k).buses ≡ answers.state_at memory delays outs k
  unfolding joint_at answers.state_at
  buses_at zero = refl
  buses_at (suc k) = ap (λ s. stepped s (outs k)) (buses_at k)

  pub value_at : (k : ℕ) (x : List ℕ) → run_of m contents memory delays lines k x ≡ value m (joint k).core (run_inputs m contents memory delays lines k) x
  unfolding trace_of
  value_at k x = ap (λ s. value m s (run_inputs m contents memory delays lines k) x) (sym (core_at k))

  -- ---- all of it fits

  pub words_at : IsMemory memory → (k : ℕ) → AreWords (joint k).buses
  unfolding joint_at
  words_at h zero = words_at_start memory delays h
  words_at h (suc k) = words_next (joint k).buses (outs k) (words_at h k)

  pub inputs_at : IsCore m → IsMemory memory → (k : ℕ) → PortsFit m.ports (run_inputs m contents memory delays lines k)
  inputs_at core h k = core.fits (reset_in k) (driven (joint k).buses) (lines k) (reset_below k) (fetched_word (joint k).buses (words_at h k)) (accessed_word (joint k).buses (words_at h k))

  module _ (core : IsCore m) (h : IsMemory memory)
      (outputs_at : (k : ℕ) → AllFit m (value m (joint k).core (run_inputs m contents memory delays lines k)) (output_names m.ports)) where
    module _ (has : HasCorePorts m) where
      -- a flag that the core drives
      flag_at : (k : ℕ) (p : CorePort) → is_input p ≡ false → width_of p ≡ 1
          → on_port (run_of m contents memory delays lines) p k ≡ one_if (eqb (value m (joint k).core (run_inputs m contents memory delays lines k) (name_of p)) 1)
      flag_at k p o w = value_at k (name_of p) ∙ flag_is _ (subst (λ n. value m (joint k).core (run_inputs m contents memory delays lines k) (name_of p) < 2 ^ n) w
          (output_fits m (value m (joint k).core (run_inputs m contents memory delays lines k)) p core (outputs_at k) o))

      -- what the core is given
      input_at : (k : ℕ) (p : CorePort) → is_input p ≡ true → on_port (run_of m contents memory delays lines) p k ≡ run_inputs m contents memory delays lines k (name_of p)
      input_at k p i = value_at k (name_of p) ∙ input_read m (joint k).core (run_inputs m contents memory delays lines k) p has i

      pub instruction_bus_is : instruction_bus (run_of m contents memory delays lines) ≡ fetch_bus memory delays outs
      unfolding name_of
      instruction_bus_is = λ i. record {
        cmd_valid = λ k. flag_at k port.ib_cmd_valid refl refl i;
        cmd_ready = λ k. (input_at k port.ib_cmd_ready refl ∙ ap (λ s. one_if (driven s).ib_cmd_ready) (buses_at k)) i;
        cmd_write = λ k. 0;
        cmd_addr = λ k. value_at k (name_of port.ib_cmd_addr) i;
        cmd_data = λ k. 0;
        cmd_mask = λ k. 0;
        rsp_valid = λ k. (input_at k port.ib_rsp_valid refl ∙ ap (λ s. one_if (driven s).ib_rsp_valid) (buses_at k)) i;
        rsp_error = λ k. (input_at k port.ib_rsp_error refl ∙ ap (λ s. one_if (driven s).ib_rsp_error) (buses_at k)) i;
        rsp_data = λ k. (input_at k port.ib_rsp_data refl ∙ ap (λ s. (driven s).ib_rsp_data) (buses_at k)) i;
      }

      pub data_bus_is : data_bus (run_of m contents memory delays lines) ≡ access_bus memory delays outs
      unfolding name_of
      data_bus_is = λ i. record {
        cmd_valid = λ k. flag_at k port.db_cmd_valid refl refl i;
        cmd_ready = λ k. (input_at k port.db_cmd_ready refl ∙ ap (λ s. one_if (driven s).db_cmd_ready) (buses_at k)) i;
        cmd_write = λ k. flag_at k port.db_cmd_write refl refl i;
        cmd_addr = λ k. value_at k (name_of port.db_cmd_addr) i;
        cmd_data = λ k. value_at k (name_of port.db_cmd_data) i;
        cmd_mask = λ k. value_at k (name_of port.db_cmd_mask) i;
        rsp_valid = λ k. (input_at k port.db_rsp_valid refl ∙ ap (λ s. one_if (driven s).db_rsp_valid) (buses_at k)) i;
        rsp_error = λ k. (input_at k port.db_rsp_error refl ∙ ap (λ s. one_if (driven s).db_rsp_error) (buses_at k)) i;
        rsp_data = λ k. (input_at k port.db_rsp_data refl ∙ ap (λ s. (driven s).db_rsp_data) (buses_at k)) i;
      }

      is_input_run : IsInput m (run_inputs m contents memory delays lines)
      unfolding name_of
      is_input_run = record { fits = inputs_at core h; first = refl; later = λ k. refl }

      pub is_over_buses : IsStart m.items contents → IsOverBuses m contents memory delays lines
      is_over_buses start = record {
        start = start;
        zeros = all_zero m m.items;
        inputs = is_input_run;
        honest = λ n. subst (λ b. Honest b (data_bus (run_of m contents memory delays lines)) memory n) (sym instruction_bus_is)
            (subst (λ b. Honest (fetch_bus memory delays outs) b memory n) (sym data_bus_is) (run_is_honest memory delays outs n));
        within = λ d n all fetch access. subst (λ b. Within b (data_bus (run_of m contents memory delays lines)) (d + 1) n) (sym instruction_bus_is)
            (subst (λ b. Within (fetch_bus memory delays outs) b (d + 1) n) (sym data_bus_is)
            (run_is_within memory delays outs d n all
            (λ k l. subst (λ b. KeepsDuties b k) instruction_bus_is (fetch k l))
            (λ k l. subst (λ b. KeepsDuties b k) data_bus_is (access k l))));
      }

-- what a cycle tells is the event of the run
pub told_is : (m : Plain) (contents : State) (memory : Memory) (delays : List ℕ) (lines : ℕ → ℕ) (k : ℕ)
    → event_in k (value m (joint_at m contents memory delays lines k).core (run_inputs m contents memory delays lines k)) ≡ event_in k (run_of m contents memory delays lines k)
told_is m contents memory delays lines k = ap (event_in k) (sym (λ i x. value_at m contents memory delays lines k x i))

-- a truth value as a number
one_is : (b : Bool) → b ≡ eqb (one_if b) 1
one_is true = refl
one_is false = refl

-- the write that a bench tells of a cycle is the one that the run's data bus accepts in it
pub written_is : (m : Plain) (contents : State) (memory : Memory) (delays : List ℕ) (lines : ℕ → ℕ) (k : ℕ) → IsCore m → write_in m k (lines k) (joint_at m contents memory delays lines k) ≡ accepted_in (run_of m contents memory delays lines) k
unfolding is_write is_accepted is_given name_of
written_is m contents memory delays lines zero core = refl
written_is m contents memory delays lines (suc k) core = λ i. cond ((eqb (drives port.db_cmd_valid i) 1 && ready i) && eqb (drives port.db_cmd_write i) 1)
    (store_of (drives port.db_cmd_addr i) (drives port.db_cmd_data i) (drives port.db_cmd_mask i) ∷ []) []
  where
    here : Joint
    here = joint_at m contents memory delays lines (suc k)

    drives : (p : CorePort) → value m here.core (joint_inputs (suc k) (lines (suc k)) here) (name_of p) ≡ run_of m contents memory delays lines (suc k) (name_of p)
    drives p = sym (value_at m contents memory delays lines (suc k) (name_of p))

    input : joint_inputs (suc k) (lines (suc k)) here (name_of port.db_cmd_ready) ≡ one_if (driven here.buses).db_cmd_ready
    input = refl

    ready : (driven here.buses).db_cmd_ready ≡ eqb (run_of m contents memory delays lines (suc k) (name_of port.db_cmd_ready)) 1
    ready = one_is (driven here.buses).db_cmd_ready
        ∙ ap (λ v. eqb v 1) (sym input ∙ sym (core.reads port.db_cmd_ready refl here.core (joint_inputs (suc k) (lines (suc k)) here)) ∙ drives port.db_cmd_ready)

pub joint_later : (m : Plain) (contents : State) (memory : Memory) (delays : List ℕ) (lines : ℕ → ℕ) (k : ℕ) → joint_next m k (lines k) (joint_at m contents memory delays lines k) ≡ joint_at m contents memory delays lines (k + 1)
unfolding joint_at
joint_later m contents memory delays lines k = ap (joint_at m contents memory delays lines) (sym (add-one k))
