-- The signals of services in a run: inputs by the numbers of their wires, outputs by their trees.
use Rattle.std.specs.Prelude.{ℕ, ◌+◌, ◌*◌, ◌^◌, eqb, Bool, [], ◌∷◌, get_or, Option, None, Some}
use Rattle.core_ports.specs.Trace.{Bus}
use Rattle.hw_pool.specs.Trees.{Tree}
use Rattle.hw_pool.specs.Meaning.{Env, value}
use Rattle.isa_model.specs.Effects.{Moment}
use Rattle.plug_law.specs.Fetch.{FetchSignals}
use Rattle.plug_law.specs.Predict.{PredictSignals}
use Rattle.plug_law.specs.Exec.{ExecSignals}
use Rattle.plug_law.specs.System.{SystemSignals}
use Rattle.plug_law.specs.Decode.{DecodeSignals}
use Rattle.plug_law.specs.RegFile.{RegSignals}
use Rattle.plug_law.specs.Hazard.{Ahead, HazardSignals}
use Rattle.plug_part.specs.Part.{PortTrees, Part, tree_at}

abbrev pub input_at : PortTrees → ℕ → (ℕ → Env) → ℕ → ℕ
input_at o i run k = (run k).wires (get_or o.inputs i 0)

abbrev pub output_at : PortTrees → ℕ → (ℕ → Env) → ℕ → ℕ
output_at o i run k = value (run k) (tree_at o.outputs i)

abbrev pub input_bit : PortTrees → ℕ → (ℕ → Env) → ℕ → Bool
input_bit o i run k = eqb (input_at o i run k) 1

abbrev pub output_bit : PortTrees → ℕ → (ℕ → Env) → ℕ → Bool
output_bit o i run k = eqb (output_at o i run k) 1

-- stands for a service that is not there
abbrev pub no_ports : PortTrees
no_ports = record { inputs = []; outputs = [] }

abbrev pub or_none : Option PortTrees → PortTrees
or_none None = no_ports
or_none (Some o) = o

abbrev pub exec_signals : PortTrees → (ℕ → Env) → ExecSignals
exec_signals o run = record {
  go = input_bit o 0 run;
  row = input_at o 1 run;
  pc = input_at o 2 run;
  word = input_at o 3 run;
  a = input_at o 4 run;
  b = input_at o 5 run;
  clear = input_bit o 6 run;
  done = output_bit o 0 run;
  value = output_at o 1 run;
  next_pc = output_at o 2 run;
  trap = output_bit o 3 run;
  cause = output_at o 4 run;
  tval = output_at o 5 run;
  fence = output_bit o 6 run;
}

-- the second is Predict's, where it is seen
abbrev pub fetch_signals : PortTrees → Option PortTrees → (ℕ → Env) → FetchSignals
fetch_signals o q run = record {
  take = input_bit o 0 run;
  redirect = input_bit o 1 run;
  redirect_pc = input_at o 2 run;
  fence = input_bit o 3 run;
  valid = output_bit o 0 run;
  pc = output_at o 1 run;
  word = output_at o 2 run;
  error = output_bit o 3 run;
  asked_pc = input_at (or_none q) 0 run;
  asked_word = input_at (or_none q) 1 run;
  answered = output_at (or_none q) 0 run;
}

abbrev pub predict_signals : PortTrees → (ℕ → Env) → PredictSignals
predict_signals o run = record { pc = input_at o 0 run; word = input_at o 1 run; next = output_at o 0 run }

abbrev pub decode_signals : PortTrees → (ℕ → Env) → DecodeSignals
decode_signals o run = record {
  word = input_at o 0 run;
  legal = output_bit o 0 run;
  row = output_at o 1 run;
  unit = output_at o 2 run;
  uses_a = output_bit o 3 run;
  uses_b = output_bit o 4 run;
  writes = output_bit o 5 run;
}

abbrev pub reg_signals : PortTrees → (ℕ → Env) → RegSignals
reg_signals o run = record {
  ra = input_at o 0 run;
  rb = input_at o 1 run;
  we = input_bit o 2 run;
  wa = input_at o 3 run;
  wd = input_at o 4 run;
  a = output_at o 0 run;
  b = output_at o 1 run;
}

abbrev pub ahead_at : PortTrees → ℕ → (ℕ → Env) → ℕ → Ahead
ahead_at o i run k = record { writes = input_bit o i run k; rd = input_at o (i + 1) run k; ready = input_bit o (i + 2) run k; value = input_at o (i + 3) run k }

abbrev pub hazard_signals : PortTrees → (ℕ → Env) → HazardSignals
hazard_signals o run = record {
  stages = λ k. ahead_at o 0 run k ∷ ahead_at o 4 run k ∷ ahead_at o 8 run k ∷ [];
  ra = input_at o 12 run;
  rb = input_at o 13 run;
  uses_a = input_bit o 14 run;
  uses_b = input_bit o 15 run;
  hold = output_bit o 0 run;
  a = output_at o 1 run;
  b = output_at o 2 run;
}

abbrev pub system_signals : PortTrees → (ℕ → Env) → SystemSignals
system_signals o run = record {
  event = input_bit o 0 run;
  kind = input_at o 1 run;
  pc = input_at o 2 run;
  cause = input_at o 3 run;
  tval = input_at o 4 run;
  take_irq = output_bit o 0 run;
  irq_cause = output_at o 1 run;
  base = output_at o 2 run;
}

-- the value of a driver, 0 where there is none
abbrev pub driver_value : Env → Option Tree → ℕ
driver_value env None = 0
driver_value env (Some t) = value env t

abbrev pub out_of : Part → ℕ → (ℕ → Env) → ℕ → ℕ
out_of p q run k = driver_value (run k) (p.outs q)

-- the buses as a part drives them, and the interrupt inputs
abbrev pub part_ib : Part → (ℕ → Env) → Bus
part_ib p run = record {
  cmd_valid = out_of p 2 run;
  cmd_ready = λ k. (run k).inputs 3;
  cmd_write = λ k. 0;
  cmd_addr = out_of p 4 run;
  cmd_data = λ k. 0;
  cmd_mask = λ k. 0;
  rsp_valid = λ k. (run k).inputs 5;
  rsp_error = λ k. (run k).inputs 6;
  rsp_data = λ k. (run k).inputs 7;
}

abbrev pub part_db : Part → (ℕ → Env) → Bus
part_db p run = record {
  cmd_valid = out_of p 8 run;
  cmd_ready = λ k. (run k).inputs 9;
  cmd_write = out_of p 10 run;
  cmd_addr = out_of p 11 run;
  cmd_data = out_of p 12 run;
  cmd_mask = out_of p 13 run;
  rsp_valid = λ k. (run k).inputs 14;
  rsp_error = λ k. (run k).inputs 15;
  rsp_data = λ k. (run k).inputs 16;
}

abbrev pub moments_of : (ℕ → Env) → ℕ → Moment
moments_of run k = record { lines = (run k).inputs 17 * 2 ^ 3 + (run k).inputs 18 * 2 ^ 7 + (run k).inputs 19 * 2 ^ 11 }
