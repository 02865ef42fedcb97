-- The tables of ports.
use Rattle.std.proofs.Common.{◌≡◌, ℕ, ◌<◌, map, not, get_or, false, arith}
use Rattle.std.proofs.lemmas.List.{get_or-map}
use Rattle.core_ports.specs.Ports.{CorePort, all_ports, is_input, width_of}
use Rattle.core_ports.specs.Ports.CorePort.{clk, reset, ib_cmd_valid, ib_cmd_ready, ib_cmd_addr, ib_rsp_valid, ib_rsp_error, ib_rsp_data, db_cmd_valid, db_cmd_ready, db_cmd_write, db_cmd_addr, db_cmd_data, db_cmd_mask, db_rsp_valid, db_rsp_error, db_rsp_data, irq_software, irq_timer, irq_external, ev_valid, ev_kind, ev_pc, ev_word, ev_rd, ev_value, ev_cause, fe_valid, fe_take, fe_pc}
use Rattle.hw_pool.specs.Nodes.{IsWidth}
use Rattle.hw_module.specs.Ports.{port_at}

pub width_here : (k : ℕ) → k < 30 → get_or (map width_of all_ports) k 0 ≡ width_of (port_at k)
unfolding port_at
width_here k h = get_or-map width_of all_ports k clk 0 h

pub output_here : (k : ℕ) → k < 30 → get_or (map (λ p. not (is_input p)) all_ports) k false ≡ not (is_input (port_at k))
unfolding port_at
output_here k h = get_or-map (λ p. not (is_input p)) all_ports k clk false h

-- each width is in range
width_cases : (p : CorePort) → IsWidth (width_of p)
width_cases clk = (omega arith, omega arith)
width_cases reset = (omega arith, omega arith)
width_cases ib_cmd_valid = (omega arith, omega arith)
width_cases ib_cmd_ready = (omega arith, omega arith)
width_cases ib_cmd_addr = (omega arith, omega arith)
width_cases ib_rsp_valid = (omega arith, omega arith)
width_cases ib_rsp_error = (omega arith, omega arith)
width_cases ib_rsp_data = (omega arith, omega arith)
width_cases db_cmd_valid = (omega arith, omega arith)
width_cases db_cmd_ready = (omega arith, omega arith)
width_cases db_cmd_write = (omega arith, omega arith)
width_cases db_cmd_addr = (omega arith, omega arith)
width_cases db_cmd_data = (omega arith, omega arith)
width_cases db_cmd_mask = (omega arith, omega arith)
width_cases db_rsp_valid = (omega arith, omega arith)
width_cases db_rsp_error = (omega arith, omega arith)
width_cases db_rsp_data = (omega arith, omega arith)
width_cases irq_software = (omega arith, omega arith)
width_cases irq_timer = (omega arith, omega arith)
width_cases irq_external = (omega arith, omega arith)
width_cases ev_valid = (omega arith, omega arith)
width_cases ev_kind = (omega arith, omega arith)
width_cases ev_pc = (omega arith, omega arith)
width_cases ev_word = (omega arith, omega arith)
width_cases ev_rd = (omega arith, omega arith)
width_cases ev_value = (omega arith, omega arith)
width_cases ev_cause = (omega arith, omega arith)
width_cases fe_valid = (omega arith, omega arith)
width_cases fe_take = (omega arith, omega arith)
width_cases fe_pc = (omega arith, omega arith)

pub width_wide : (k : ℕ) → IsWidth (width_of (port_at k))
width_wide k = width_cases (port_at k)
