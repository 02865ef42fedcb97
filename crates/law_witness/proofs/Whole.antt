-- The run of that core from reset, on its ports, and the pipeline step in each cycle.
use Rattle.std.proofs.Common.{◌≡◌, ℕ, zero, suc, Bool, true, false, eqb, List, [], ◌∷◌, length, refl, ap, ◌∙◌, arith}
use Rattle.core_words.specs.Names.{same_name}
use Rattle.core_words.specs.Values.{one_if}
use Rattle.core_ports.specs.Ports.{CorePort, all_ports, clk, db_cmd_addr, db_cmd_data, db_cmd_mask, db_cmd_ready, db_cmd_valid, db_cmd_write, db_rsp_data, db_rsp_error, db_rsp_valid, ev_cause, ev_kind, ev_pc, ev_rd, ev_valid, ev_value, ev_word, fe_pc, fe_take, fe_valid, ib_cmd_addr, ib_cmd_ready, ib_cmd_valid, ib_rsp_data, ib_rsp_error, ib_rsp_valid, irq_external, irq_software, irq_timer, name_of, reset}
use Rattle.core_ports.specs.Trace.{Bus, Trace, data_bus, has_event, instruction_bus, on_port, port_event}
use Rattle.isa_table.specs.Rows.{Action}
use Rattle.isa_csr.specs.Csrs.{reset_csrs}
use Rattle.isa_model.specs.Machine.{misa_of}
use Rattle.isa_model.specs.Run.{is_fence_word}
use Rattle.plug_law.specs.Pipeline.{Late, Pipe, Shape, Slot, Steps, asked, ends, enters, event, except_cause, faulty, finished, irq, kill, made_late, next_pc, retires, run, shift, take_irq, takes, through, told, trap_cause, trap_value, traps, tval, value, wins, writes}
use Rattle.law_witness.specs.Met.{World, lines_of}
use Rattle.law_witness.specs.Cores.{all_rows}
use Rattle.law_witness.proofs.Parts.{State, act_s, addr_bus, answers_of, asks_of, cause_in, clear_s, data_bus_of, decode_s, done_s, eff_s, error_in, fetch_s, gives, go_s, got_of, hazard_s, is_none, mask_bus, next_in, next_s, offers, payload_in, pipe3, regs_s, replies, reply_of, shape_at, stages_s, system0, system_s, trap_in, tval_in, value_in, word_or, writes_bus}
use Rattle.law_witness.proofs.Parts.Accessing.{Rest}
use Rattle.law_witness.proofs.Parts.Fetching.{Asks}
use Rattle.plug_law.specs.Pipeline as wire
use Rattle.pipe_law.specs.Core.{moment_at}

abbrev pub empty : Slot
empty = record { pc = 0; word = 0; error = false; legal = false; row = 0; except = false; writes = false; a = 0; b = 0 }

abbrev pub no_late : Late
no_late = record { writes = false; rd = 0; value = 0 }

abbrev pub start_of : World → State
start_of o = record {
  fpc = o.reset_pc;
  fetching = Asks;
  accessing = Rest;
  apc = o.reset_pc;
  flush = false;
  flush_fence = false;
  started = false;
  stopped = false;
  valid = false;
  slot = empty;
  chosen = λ k. false;
  tail = no_late ∷ no_late ∷ [];
  rf = o.start;
  csr = reset_csrs (misa_of all_rows);
  memory = o.memory;
  seen = λ k. o.memory;
}

-- what it holds as each cycle begins
unfoldable pub at : World → ℕ → State
at o zero = start_of o
at o (suc zero) = start_of o
at o (suc (suc k)) = next_s o.reset_pc o.predict (lines_of o (suc k)) (at o (suc k))

module _ (o : World) where
  abbrev sh : Shape
  sh = shape_at o.reset_pc

  abbrev pub wires_at : ℕ → Pipe
  wires_at t = pipe3 o.reset_pc o.predict (lines_of o t) (at o t)

  abbrev pub inst : Pipe
  inst = record {
    apc = λ t. (at o t).apc;
    flush = λ t. (at o t).flush;
    flush_fence = λ t. (at o t).flush_fence;
    started = λ t. (at o t).started;
    stopped = λ t. (at o t).stopped;
    valid = λ t. (at o t).valid;
    slot = λ t. (at o t).slot;
    chosen = λ k t. (at o t).chosen k;
    tail = λ t. (at o t).tail;
    fetch = record {
      take = λ t. (fetch_s o.reset_pc o.predict (lines_of o t) (at o t)).take 0;
      redirect = λ t. (fetch_s o.reset_pc o.predict (lines_of o t) (at o t)).redirect 0;
      redirect_pc = λ t. (at o t).apc;
      fence = λ t. (fetch_s o.reset_pc o.predict (lines_of o t) (at o t)).fence 0;
      valid = λ t. offers (at o t).fetching;
      pc = λ t. (at o t).fpc;
      word = λ t. word_or (got_of (at o t).fetching);
      error = λ t. is_none (got_of (at o t).fetching);
      asked_pc = λ t. (at o t).fpc;
      asked_word = λ t. word_or (got_of (at o t).fetching);
      answered = λ t. o.predict (at o t).fpc (word_or (got_of (at o t).fetching));
    };
    decode = record {
      word = λ t. (decode_s o.reset_pc o.predict (lines_of o t) (at o t)).word 0;
      legal = λ t. (decode_s o.reset_pc o.predict (lines_of o t) (at o t)).legal 0;
      row = λ t. (decode_s o.reset_pc o.predict (lines_of o t) (at o t)).row 0;
      unit = λ t. (decode_s o.reset_pc o.predict (lines_of o t) (at o t)).unit 0;
      uses_a = λ t. (decode_s o.reset_pc o.predict (lines_of o t) (at o t)).uses_a 0;
      uses_b = λ t. (decode_s o.reset_pc o.predict (lines_of o t) (at o t)).uses_b 0;
      writes = λ t. (decode_s o.reset_pc o.predict (lines_of o t) (at o t)).writes 0;
    };
    regs = record {
      ra = λ t. (regs_s o.reset_pc o.predict (lines_of o t) (at o t)).ra 0;
      rb = λ t. (regs_s o.reset_pc o.predict (lines_of o t) (at o t)).rb 0;
      we = λ t. (regs_s o.reset_pc o.predict (lines_of o t) (at o t)).we 0;
      wa = λ t. (regs_s o.reset_pc o.predict (lines_of o t) (at o t)).wa 0;
      wd = λ t. (regs_s o.reset_pc o.predict (lines_of o t) (at o t)).wd 0;
      a = λ t. (regs_s o.reset_pc o.predict (lines_of o t) (at o t)).a 0;
      b = λ t. (regs_s o.reset_pc o.predict (lines_of o t) (at o t)).b 0;
    };
    hazard = record {
      stages = λ t. stages_s o.reset_pc o.predict (lines_of o t) (at o t);
      ra = λ t. (hazard_s o.reset_pc o.predict (lines_of o t) (at o t)).ra 0;
      rb = λ t. (hazard_s o.reset_pc o.predict (lines_of o t) (at o t)).rb 0;
      uses_a = λ t. (hazard_s o.reset_pc o.predict (lines_of o t) (at o t)).uses_a 0;
      uses_b = λ t. (hazard_s o.reset_pc o.predict (lines_of o t) (at o t)).uses_b 0;
      hold = λ t. (hazard_s o.reset_pc o.predict (lines_of o t) (at o t)).hold 0;
      a = λ t. (hazard_s o.reset_pc o.predict (lines_of o t) (at o t)).a 0;
      b = λ t. (hazard_s o.reset_pc o.predict (lines_of o t) (at o t)).b 0;
    };
    unit = λ k. record {
      go = λ t. go_s o.reset_pc o.predict (lines_of o t) (at o t) k;
      row = λ t. (at o t).slot.row;
      pc = λ t. (at o t).slot.pc;
      word = λ t. (at o t).slot.word;
      a = λ t. (at o t).slot.a;
      b = λ t. (at o t).slot.b;
      clear = λ t. clear_s o.reset_pc o.predict (lines_of o t) (at o t) k;
      done = λ t. done_s o.reset_pc o.predict (lines_of o t) (at o t) k;
      value = λ t. value_in (eff_s o.reset_pc o.predict (lines_of o t) (at o t) k);
      next_pc = λ t. next_in (eff_s o.reset_pc o.predict (lines_of o t) (at o t) k);
      trap = λ t. trap_in (eff_s o.reset_pc o.predict (lines_of o t) (at o t) k);
      cause = λ t. cause_in (eff_s o.reset_pc o.predict (lines_of o t) (at o t) k);
      tval = λ t. tval_in (eff_s o.reset_pc o.predict (lines_of o t) (at o t) k);
      fence = λ t. is_fence_word (at o t).slot.word;
    };
    system = record {
      event = λ t. (system_s o.reset_pc o.predict (lines_of o t) (at o t)).event 0;
      kind = λ t. (system_s o.reset_pc o.predict (lines_of o t) (at o t)).kind 0;
      pc = λ t. (at o t).apc;
      cause = λ t. (system_s o.reset_pc o.predict (lines_of o t) (at o t)).cause 0;
      tval = λ t. (system_s o.reset_pc o.predict (lines_of o t) (at o t)).tval 0;
      take_irq = λ t. (system0 o.reset_pc o.predict (lines_of o t) (at o t)).take_irq 0;
      irq_cause = λ t. (system0 o.reset_pc o.predict (lines_of o t) (at o t)).irq_cause 0;
      base = λ t. (at o t).csr.mtvec;
    };
  }

  -- ---- the ports
  abbrev act : ℕ → Action
  act t = act_s o.reset_pc o.predict (lines_of o t) (at o t)

  -- a command is taken in the cycle in which it is given, but for cycle 0
  unfoldable pub ready_i : ℕ → ℕ
  ready_i zero = 0
  ready_i (suc t) = asks_of (at o (suc t)).fetching

  -- the same of the data bus
  unfoldable pub ready_d : ℕ → ℕ
  ready_d zero = 0
  ready_d (suc t) = gives (at o (suc t)).accessing

  abbrev pub ib : Bus
  ib = record {
    cmd_valid = λ t. asks_of (at o t).fetching;
    cmd_ready = ready_i;
    cmd_write = λ t. 0;
    cmd_addr = λ t. (at o t).fpc;
    cmd_data = λ t. 0;
    cmd_mask = λ t. 0;
    rsp_valid = λ t. answers_of (at o t).fetching;
    rsp_error = λ t. one_if (is_none (reply_of (at o t).fetching));
    rsp_data = λ t. word_or (reply_of (at o t).fetching);
  }

  abbrev pub db : Bus
  db = record {
    cmd_valid = λ t. gives (at o t).accessing;
    cmd_ready = ready_d;
    cmd_write = λ t. writes_bus (act t);
    cmd_addr = λ t. addr_bus (act t);
    cmd_data = λ t. data_bus_of (act t);
    cmd_mask = λ t. mask_bus (act t);
    rsp_valid = λ t. replies (at o t).accessing;
    rsp_error = λ t. error_in (at o t).accessing;
    rsp_data = λ t. payload_in (at o t).accessing;
  }

  -- what each port shows
  unfoldable pub shown : CorePort → ℕ → ℕ
  shown clk t = 0
  shown reset t = 0
  shown ib_cmd_valid t = ib.cmd_valid t
  shown ib_cmd_ready t = ib.cmd_ready t
  shown ib_cmd_addr t = ib.cmd_addr t
  shown ib_rsp_valid t = ib.rsp_valid t
  shown ib_rsp_error t = ib.rsp_error t
  shown ib_rsp_data t = ib.rsp_data t
  shown db_cmd_valid t = db.cmd_valid t
  shown db_cmd_ready t = db.cmd_ready t
  shown db_cmd_write t = db.cmd_write t
  shown db_cmd_addr t = db.cmd_addr t
  shown db_cmd_data t = db.cmd_data t
  shown db_cmd_mask t = db.cmd_mask t
  shown db_rsp_valid t = db.rsp_valid t
  shown db_rsp_error t = db.rsp_error t
  shown db_rsp_data t = db.rsp_data t
  shown irq_software t = o.software t
  shown irq_timer t = o.timer t
  shown irq_external t = o.external t
  shown ev_valid t = one_if (event sh inst t)
  shown ev_kind t = (told sh inst t).kind
  shown ev_pc t = (told sh inst t).pc
  shown ev_word t = (told sh inst t).word
  shown ev_rd t = (told sh inst t).rd
  shown ev_value t = (told sh inst t).value
  shown ev_cause t = (told sh inst t).cause
  shown fe_valid t = one_if (inst.fetch.valid t)
  shown fe_take t = one_if (inst.fetch.take t)
  shown fe_pc t = inst.fetch.pc t

  -- the port of a name
  unfoldable pub port_of : List CorePort → List ℕ → CorePort
  port_of [] name = clk
  port_of (q ∷ qs) name = elim (same_name (name_of q) name) [ true ↦ q | false ↦ port_of qs name ]

  -- the run on the ports
  unfoldable pub trace : Trace
  trace t name = shown (port_of all_ports name) t

  -- its instruction bus
  pub ib_is : instruction_bus trace ≡ ib
  unfolding trace port_of shown name_of
  ib_is = refl

  -- its data bus
  pub db_is : data_bus trace ≡ db
  unfolding trace port_of shown name_of
  db_is = refl

  -- its interrupt lines
  pub moment_is : (t : ℕ) → moment_at trace t ≡ record { lines = lines_of o t }
  unfolding trace port_of shown name_of
  moment_is t = refl

  -- ---- the step
  two_left : (k : ℕ) → length (at o (suc k)).tail ≡ 2
  unfolding at
  two_left zero = refl
  two_left (suc k) = same_length (made_late sh (wires_at (suc k)) 0) (at o (suc k)).tail ∙ two_left k
    where
      same_length : (x : Late) (xs : List Late) → length (shift x xs) ≡ length xs
      same_length x [] = refl
      same_length x (y ∷ ys) = ap suc (same_length y ys)

  -- a port of one bit
  one_is : (b : Bool) → eqb (one_if b) 1 ≡ b
  one_is true = refl
  one_is false = refl

  -- its events
  event_shown : (t : ℕ) → has_event trace (suc t) ≡ event sh inst (suc t)
  unfolding trace port_of shown name_of has_event
  event_shown t = one_is (event sh inst (suc t))

  -- and what is told of them
  event_told : (t : ℕ) → port_event trace (suc t) ≡ told sh inst (suc t)
  unfolding trace port_of shown name_of
  event_told t = refl

  -- what Fetch offers
  fetch_shown : (t : ℕ) → (on_port trace fe_valid (suc t) ≡ one_if (inst.fetch.valid (suc t))) × (on_port trace fe_take (suc t) ≡ one_if (inst.fetch.take (suc t))) × (on_port trace fe_pc (suc t) ≡ inst.fetch.pc (suc t))
  unfolding trace port_of shown name_of
  fetch_shown t = (refl, refl, refl)

  -- the step of each cycle
  pub steps : Steps (shape_at o.reset_pc) inst trace
  unfolding at kill irq run finished value next_pc wire.cause tval wire.trap wire.fence through ends asked faulty wins traps retires writes enters except_cause trap_cause trap_value takes event
  steps = record {
    apc_first = refl;
    flush_first = refl;
    flush_fence_first = refl;
    started_first = refl;
    stopped_first = refl;
    valid_first = refl;
    tail_first = (refl, (refl, tt));
    we_first = refl;
    apc = λ s. refl;
    flush = λ s. refl;
    flush_fence = λ s. refl;
    started = λ s. refl;
    stopped = λ s. refl;
    valid = λ s. refl;
    slot = λ s. refl;
    chosen = λ k s a. refl;
    tail = λ s. refl;
    tail_long = λ s. let z : length (at o (suc s)).tail ≡ 2 = two_left s in omega arith;
    take = λ s. refl;
    redirect = λ s. refl;
    redirect_pc = λ s. refl;
    fetch_fence = λ s. refl;
    word = λ s. refl;
    ra = λ s. refl;
    rb = λ s. refl;
    we = λ s. refl;
    wa = λ s. refl;
    wd = λ s. refl;
    stages = λ s. refl;
    hazard_ra = λ s. refl;
    hazard_rb = λ s. refl;
    hazard_uses_a = λ s. refl;
    hazard_uses_b = λ s. refl;
    go = λ k s a. refl;
    go_row = λ k s a. refl;
    go_pc = λ k s a. refl;
    go_word = λ k s a. refl;
    go_a = λ k s a. refl;
    go_b = λ k s a. refl;
    clear = λ k s a. refl;
    sys_event = λ s e. refl;
    sys_kind = λ s e. refl;
    sys_pc = λ s e. refl;
    sys_cause = λ s e. refl;
    sys_tval = λ s e. refl;
    shows = event_shown;
    tells = event_told;
    shows_valid = λ s. (fetch_shown s).0;
    shows_take = λ s. (fetch_shown s).1;
    shows_pc = λ s. (fetch_shown s).2;
    no_data = λ s e. absurd (let z : true ≡ false = e in grind arith);
  }
