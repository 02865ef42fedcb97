-- What a bench reads off the outputs of a cycle is what the core drives.
use Rattle.std.proofs.Common.{◌≡◌, ℕ, zero, suc, ◌^◌, ◌%◌, ◌<◌, ◌≤◌, false, cond, eqb, List, [], get_or, map, Some, None, refl, ap, ◌∙◌, arith}
use Rattle.std.proofs.Math.Pow.{pow_mono}
use Rattle.std.proofs.lemmas.List.{get_or-map}
use Rattle.core_ports.specs.Ports.{CorePort, name_of, is_input, width_of}
use Rattle.core_ports.specs.Ports as port
use Rattle.bus_law.specs.Answers.{driven}
use Rattle.verilog_mean.specs.Cycle.{value}
use Rattle.verilog_mean.specs.Plain.{Plain}
use Rattle.verilog_sim.specs.Simulates.{AllFit}
use Rattle.verilog_sim.specs.Layouts.{output_names}
use Rattle.core_sim.specs.declared.ports.Places.{Places}
use Rattle.core_sim.specs.Joint.{Joint, joint_inputs, outputs_of}
use Rattle.core_sim.specs.Bench.{IsCore, IsPlace, HasPlaces, accepted, word_of, flag_of, bus_out_at, event_at, event_in, write_in}
use Rattle.core_sim.proofs.Bridge.{output_fits}

small : (v : ℕ) → v < 2 ^ 32 → v % 2 ^ 32 ≡ v
small v h = omega arith

module _ (m : Plain) (val : List ℕ → ℕ) (outs : List ℕ) (p : Places) (e : outs ≡ map val (output_names m.ports))
    (core : IsCore m) (fit : AllFit m val (output_names m.ports)) where
  read : (x : List ℕ) (at : ℕ) → IsPlace (output_names m.ports) x at → get_or outs at 0 ≡ val x
  read x at h = ap (λ l. get_or l at 0) e ∙ get_or-map val (output_names m.ports) at [] 0 h.0 ∙ ap val h.1

  flag : (q : CorePort) (at : ℕ) → IsPlace (output_names m.ports) (name_of q) at → flag_of outs at ≡ eqb (val (name_of q)) 1
  flag q at h = ap (λ v. eqb v 1) (read (name_of q) at h)

  word : (q : CorePort) (at : ℕ) → is_input q ≡ false → width_of q ≤ 32 → IsPlace (output_names m.ports) (name_of q) at → word_of outs at ≡ val (name_of q)
  word q at o w h =
      let below = output_fits m val q core fit o in let most : 2 ^ width_of q ≤ 2 ^ 32 = pow_mono w in
      ap (λ v. v % 2 ^ 32) (read (name_of q) at h) ∙ small (val (name_of q)) (omega (arith, below, most))

  module _ (h : HasPlaces (output_names m.ports) p) where
    pub bus_out_is : bus_out_at p outs ≡ outputs_of val
    bus_out_is = λ i. record {
      ib_cmd_valid = flag port.ib_cmd_valid p.ib_cmd_valid h.ib_cmd_valid i;
      ib_cmd_addr = word port.ib_cmd_addr p.ib_cmd_addr refl (omega arith) h.ib_cmd_addr i;
      db_cmd_valid = flag port.db_cmd_valid p.db_cmd_valid h.db_cmd_valid i;
      db_cmd_write = flag port.db_cmd_write p.db_cmd_write h.db_cmd_write i;
      db_cmd_addr = word port.db_cmd_addr p.db_cmd_addr refl (omega arith) h.db_cmd_addr i;
      db_cmd_data = word port.db_cmd_data p.db_cmd_data refl (omega arith) h.db_cmd_data i;
      db_cmd_mask = word port.db_cmd_mask p.db_cmd_mask refl (omega arith) h.db_cmd_mask i;
    }

    pub event_is : (number : ℕ) → (number ≡ 0 → ⊥) → event_at p outs ≡ event_in number val
    event_is zero n = absurd (n refl)
    event_is (suc k) n = λ i. cond (flag port.ev_valid p.ev_valid h.ev_valid i) (Some (record {
      kind = word port.ev_kind p.ev_kind refl (omega arith) h.ev_kind i;
      pc = word port.ev_pc p.ev_pc refl (omega arith) h.ev_pc i;
      word = word port.ev_word p.ev_word refl (omega arith) h.ev_word i;
      rd = word port.ev_rd p.ev_rd refl (omega arith) h.ev_rd i;
      value = word port.ev_value p.ev_value refl (omega arith) h.ev_value i;
      cause = word port.ev_cause p.ev_cause refl (omega arith) h.ev_cause i;
    })) None

-- the write of a cycle
pub write_none : (m : Plain) (j : Joint) (number lines : ℕ) → number ≡ 0 → write_in m number lines j ≡ []
write_none m j zero lines e = refl
write_none m j (suc k) lines e = cc

pub write_is : (m : Plain) (j : Joint) (number lines : ℕ) → (number ≡ 0 → ⊥)
    → write_in m number lines j ≡ accepted (driven j.buses) (outputs_of (value m j.core (joint_inputs number lines j)))
write_is m j zero lines n = absurd (n refl)
write_is m j (suc k) lines n = refl
