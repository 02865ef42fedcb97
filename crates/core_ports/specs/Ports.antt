-- The ports of a core: names, directions, widths in bits.
use Rattle.std.specs.Prelude.{ℕ, Bool, true, false, List, [], ◌∷◌, codes}

pub data CorePort : Type 0 where
  clk : CorePort
  reset : CorePort
  ib_cmd_valid : CorePort
  ib_cmd_ready : CorePort
  ib_cmd_addr : CorePort
  ib_rsp_valid : CorePort
  ib_rsp_error : CorePort
  ib_rsp_data : CorePort
  db_cmd_valid : CorePort
  db_cmd_ready : CorePort
  db_cmd_write : CorePort
  db_cmd_addr : CorePort
  db_cmd_data : CorePort
  db_cmd_mask : CorePort
  db_rsp_valid : CorePort
  db_rsp_error : CorePort
  db_rsp_data : CorePort
  irq_software : CorePort
  irq_timer : CorePort
  irq_external : CorePort
  ev_valid : CorePort
  ev_kind : CorePort
  ev_pc : CorePort
  ev_word : CorePort
  ev_rd : CorePort
  ev_value : CorePort
  ev_cause : CorePort
  fe_valid : CorePort
  fe_take : CorePort
  fe_pc : CorePort

-- all ports, in the order in which they are numbered
abbrev pub all_ports : List CorePort
all_ports =
    clk ∷ reset
    ∷ ib_cmd_valid ∷ ib_cmd_ready ∷ ib_cmd_addr ∷ ib_rsp_valid ∷ ib_rsp_error ∷ ib_rsp_data
    ∷ db_cmd_valid ∷ db_cmd_ready ∷ db_cmd_write ∷ db_cmd_addr ∷ db_cmd_data ∷ db_cmd_mask ∷ db_rsp_valid ∷ db_rsp_error ∷ db_rsp_data
    ∷ irq_software ∷ irq_timer ∷ irq_external
    ∷ ev_valid ∷ ev_kind ∷ ev_pc ∷ ev_word ∷ ev_rd ∷ ev_value ∷ ev_cause
    ∷ fe_valid ∷ fe_take ∷ fe_pc ∷ []

-- the bytes of a port's name
unfoldable pub name_of : CorePort → List ℕ
name_of clk = codes "clk"
name_of reset = codes "reset"
name_of ib_cmd_valid = codes "ib_cmd_valid"
name_of ib_cmd_ready = codes "ib_cmd_ready"
name_of ib_cmd_addr = codes "ib_cmd_addr"
name_of ib_rsp_valid = codes "ib_rsp_valid"
name_of ib_rsp_error = codes "ib_rsp_error"
name_of ib_rsp_data = codes "ib_rsp_data"
name_of db_cmd_valid = codes "db_cmd_valid"
name_of db_cmd_ready = codes "db_cmd_ready"
name_of db_cmd_write = codes "db_cmd_write"
name_of db_cmd_addr = codes "db_cmd_addr"
name_of db_cmd_data = codes "db_cmd_data"
name_of db_cmd_mask = codes "db_cmd_mask"
name_of db_rsp_valid = codes "db_rsp_valid"
name_of db_rsp_error = codes "db_rsp_error"
name_of db_rsp_data = codes "db_rsp_data"
name_of irq_software = codes "irq_software"
name_of irq_timer = codes "irq_timer"
name_of irq_external = codes "irq_external"
name_of ev_valid = codes "ev_valid"
name_of ev_kind = codes "ev_kind"
name_of ev_pc = codes "ev_pc"
name_of ev_word = codes "ev_word"
name_of ev_rd = codes "ev_rd"
name_of ev_value = codes "ev_value"
name_of ev_cause = codes "ev_cause"
name_of fe_valid = codes "fe_valid"
name_of fe_take = codes "fe_take"
name_of fe_pc = codes "fe_pc"

-- the ports that the outside drives
abbrev pub is_input : CorePort → Bool
is_input clk = true
is_input reset = true
is_input ib_cmd_valid = false
is_input ib_cmd_ready = true
is_input ib_cmd_addr = false
is_input ib_rsp_valid = true
is_input ib_rsp_error = true
is_input ib_rsp_data = true
is_input db_cmd_valid = false
is_input db_cmd_ready = true
is_input db_cmd_write = false
is_input db_cmd_addr = false
is_input db_cmd_data = false
is_input db_cmd_mask = false
is_input db_rsp_valid = true
is_input db_rsp_error = true
is_input db_rsp_data = true
is_input irq_software = true
is_input irq_timer = true
is_input irq_external = true
is_input ev_valid = false
is_input ev_kind = false
is_input ev_pc = false
is_input ev_word = false
is_input ev_rd = false
is_input ev_value = false
is_input ev_cause = false
is_input fe_valid = false
is_input fe_take = false
is_input fe_pc = false

-- the width of each port, in bits
abbrev pub width_of : CorePort → ℕ
width_of clk = 1
width_of reset = 1
width_of ib_cmd_valid = 1
width_of ib_cmd_ready = 1
width_of ib_cmd_addr = 32
width_of ib_rsp_valid = 1
width_of ib_rsp_error = 1
width_of ib_rsp_data = 32
width_of db_cmd_valid = 1
width_of db_cmd_ready = 1
width_of db_cmd_write = 1
width_of db_cmd_addr = 32
width_of db_cmd_data = 32
width_of db_cmd_mask = 4
width_of db_rsp_valid = 1
width_of db_rsp_error = 1
width_of db_rsp_data = 32
width_of irq_software = 1
width_of irq_timer = 1
width_of irq_external = 1
width_of ev_valid = 1
width_of ev_kind = 2
width_of ev_pc = 32
width_of ev_word = 32
width_of ev_rd = 5
width_of ev_value = 32
width_of ev_cause = 32
width_of fe_valid = 1
width_of fe_take = 1
width_of fe_pc = 32
