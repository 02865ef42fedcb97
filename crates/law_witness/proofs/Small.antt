-- A small core as a state machine over numbers: two stages, no System and no data bus, one unit that is done at once, and a
-- fetch that offers in each cycle what memory holds.
use Rattle.std.proofs.Common.{◌≡◌, ℕ, zero, suc, Bool, true, false, cond, not, eqb, List, [], ◌∷◌, ◌&&◌, ◌||◌, set, refl, arith, Option, is_some}
use Rattle.core_words.specs.Fields.{rd_of, rs1_of, rs2_of}
use Rattle.core_words.specs.Names.{same_name}
use Rattle.core_words.specs.Values.{one_if}
use Rattle.core_ports.specs.Ports.{CorePort, all_ports, clk, db_cmd_addr, db_cmd_data, db_cmd_mask, db_cmd_ready, db_cmd_valid, db_cmd_write, db_rsp_data, db_rsp_error, db_rsp_valid, ev_cause, ev_kind, ev_pc, ev_rd, ev_valid, ev_value, ev_word, fe_pc, fe_take, fe_valid, ib_cmd_addr, ib_cmd_ready, ib_cmd_valid, ib_rsp_data, ib_rsp_error, ib_rsp_valid, irq_external, irq_software, irq_timer, name_of, reset}
use Rattle.core_ports.specs.Trace.{Trace, data_bus, has_event, instruction_bus, lines_at, on_port, port_event}
use Rattle.bus_law.specs.Memory.{Memory, word_at}
use Rattle.isa_csr.specs.Csrs.{reset_csrs}
use Rattle.isa_model.specs.Effects.{Effect, behind}
use Rattle.isa_model.specs.Machine.{misa_of, register}
use Rattle.isa_model.specs.Run.{is_fence_word}
use Rattle.plug_law.specs.Decode.{DecodeSignals}
use Rattle.plug_law.specs.Exec.{ExecSignals, no_bus}
use Rattle.plug_law.specs.Fetch.{FetchSignals}
use Rattle.plug_law.specs.Hazard.{Ahead, HazardSignals, value_or, waits_for, writer}
use Rattle.plug_law.specs.Pipeline.{Late, Pipe, Shape, Slot, Steps, asked, ends, enters, event, except_cause, faulty, finished, fresh, fresh_except, in_front, irq, kill, made_late, next_pc, places, retires, run, take_irq, takes, target, through, told, trap_cause, trap_value, traps, tval, value, wins, writes}
use Rattle.plug_law.specs.RegFile.{RegSignals}
use Rattle.plug_law.specs.Table.{Table, table_of}
use Rattle.pipe_law.specs.Core.{no_events, no_exec}
use Rattle.law_witness.specs.Cores.{small_rows}
use Rattle.law_witness.specs.Met.{World, lines_of}
use Rattle.law_witness.proofs.Parts.{cause_in, is_none, next_in, no_hazard, trap_in, tval_in, value_in, word_or}
use Rattle.law_witness.proofs.Whole.{empty}
use Rattle.plug_law.specs.Pipeline as wire

abbrev pub rows : Table
rows = table_of small_rows

abbrev pub shape_at : ℕ → Shape
shape_at reset_pc = record { entries = 0 ∷ []; commits = λ k. false; system = false; holds = false; reset_pc = reset_pc; stages = 2 }

-- what it holds as a cycle begins
pub record Held : Type 0 where
  pub fpc : ℕ
  pub apc : ℕ
  pub flush : Bool
  pub flush_fence : Bool
  pub started : Bool
  pub stopped : Bool
  pub valid : Bool
  pub slot : Slot
  pub chosen : ℕ → Bool
  pub rf : List ℕ

module _ (reset_pc : ℕ) (memory : Memory) where
  abbrev pub sh : Shape
  sh = shape_at reset_pc

  -- ---- the signals of a cycle, in the order in which they are driven
  abbrev pub got_s : Held → Option ℕ
  got_s s = word_at memory s.fpc

  abbrev pub word_s : Held → ℕ
  word_s s = word_or (got_s s)

  abbrev pub row_s : Held → ℕ
  row_s s = word_or (rows.row_of (word_s s))

  abbrev pub fetch0 : Held → FetchSignals
  fetch0 s = record {
    take = λ t. false;
    redirect = λ t. false;
    redirect_pc = λ t. 0;
    fence = λ t. false;
    valid = λ t. true;
    pc = λ t. s.fpc;
    word = λ t. word_s s;
    error = λ t. is_none (got_s s);
    asked_pc = λ t. 0;
    asked_word = λ t. 0;
    answered = λ t. 0;
  }

  abbrev pub decode_s : Held → DecodeSignals
  decode_s s = record {
    word = λ t. word_s s;
    legal = λ t. is_some (rows.row_of (word_s s));
    row = λ t. row_s s;
    unit = λ t. 0;
    uses_a = λ t. rows.uses_a (row_s s);
    uses_b = λ t. rows.uses_b (row_s s);
    writes = λ t. rows.has_value (row_s s) && not (eqb (rd_of (word_s s)) 0);
  }

  abbrev pub regs0 : Held → RegSignals
  regs0 s = record {
    ra = λ t. rs1_of (word_s s);
    rb = λ t. rs2_of (word_s s);
    we = λ t. false;
    wa = λ t. 0;
    wd = λ t. 0;
    a = λ t. register s.rf (rs1_of (word_s s));
    b = λ t. register s.rf (rs2_of (word_s s));
  }

  abbrev pub pipe1 : Held → Pipe
  pipe1 s = record {
    apc = λ t. s.apc;
    flush = λ t. s.flush;
    flush_fence = λ t. s.flush_fence;
    started = λ t. s.started;
    stopped = λ t. s.stopped;
    valid = λ t. s.valid;
    slot = λ t. s.slot;
    chosen = λ k t. s.chosen k;
    tail = λ t. [];
    fetch = fetch0 s;
    decode = decode_s s;
    regs = regs0 s;
    hazard = no_hazard;
    unit = λ k. no_exec;
    system = no_events;
  }

  abbrev pub effect_s : Held → Effect
  effect_s s = rows.effect s.slot.row s.slot.pc s.slot.word s.slot.a s.slot.b memory (reset_csrs (misa_of small_rows)) (record { lines = 0 })

  abbrev pub unit_s : Held → ℕ → ExecSignals
  unit_s s k = record {
    go = λ t. s.valid && s.chosen k;
    row = λ t. s.slot.row;
    pc = λ t. s.slot.pc;
    word = λ t. s.slot.word;
    a = λ t. s.slot.a;
    b = λ t. s.slot.b;
    clear = λ t. kill sh (pipe1 s) 0 || irq sh (pipe1 s) 0;
    done = λ t. s.valid && s.chosen k;
    value = λ t. value_in (effect_s s);
    next_pc = λ t. next_in (effect_s s);
    trap = λ t. trap_in (effect_s s);
    cause = λ t. cause_in (effect_s s);
    tval = λ t. tval_in (effect_s s);
    fence = λ t. is_fence_word s.slot.word;
  }

  abbrev pub pipe2 : Held → Pipe
  pipe2 s = record (pipe1 s) { unit = unit_s s }

  abbrev pub stages_s : Held → List Ahead
  stages_s s = in_front sh (pipe2 s) 0 ∷ places 2 []

  abbrev pub hazard_s : Held → HazardSignals
  hazard_s s = record {
    stages = λ t. stages_s s;
    ra = λ t. rs1_of (word_s s);
    rb = λ t. rs2_of (word_s s);
    uses_a = λ t. rows.uses_a (row_s s);
    uses_b = λ t. rows.uses_b (row_s s);
    hold = λ t. (rows.uses_a (row_s s) && waits_for (writer (λ i. true) (stages_s s) (rs1_of (word_s s)))) || (rows.uses_b (row_s s) && waits_for (writer (λ i. true) (stages_s s) (rs2_of (word_s s))));
    a = λ t. value_or (writer (λ i. true) (stages_s s) (rs1_of (word_s s))) (register s.rf (rs1_of (word_s s)));
    b = λ t. value_or (writer (λ i. true) (stages_s s) (rs2_of (word_s s))) (register s.rf (rs2_of (word_s s)));
  }

  abbrev pub pipe3 : Held → Pipe
  pipe3 s = record (pipe2 s) { hazard = hazard_s s }

  abbrev pub out_s : Held → Late
  out_s s = made_late sh (pipe3 s) 0

  abbrev pub kill_s : Held → Bool
  kill_s s = kill sh (pipe3 s) 0

  abbrev pub takes_s : Held → Bool
  takes_s s = takes sh (pipe3 s) 0

  abbrev pub next_s : Held → Held
  next_s s =
      let p = pipe3 s in
      record {
        fpc = cond (kill_s s) s.apc (cond (takes_s s) (behind s.fpc) s.fpc);
        apc = cond (event sh p 0) (cond (asked sh p 0 || faulty sh p 0) (target sh p 0) (next_pc sh p 0)) s.apc;
        flush = irq sh p 0 || (traps sh p 0 || (retires sh p 0 && wire.fence sh p 0));
        flush_fence = retires sh p 0 && wire.fence sh p 0;
        started = run sh p 0 && not (ends sh p 0);
        stopped = not false && (s.stopped || traps sh p 0);
        valid = not (kill_s s || irq sh p 0) && (takes_s s || not (enters sh p 0));
        slot = cond (enters sh p 0) (fresh sh p 0) s.slot;
        chosen = λ k. cond (enters sh p 0) (eqb 0 k && not (fresh_except sh p 0)) (s.chosen k);
        rf = cond (out_s s).writes (set s.rf (out_s s).rd (out_s s).value) s.rf;
      }

-- out of reset
abbrev pub start_of : World → Held
start_of o = record {
  fpc = o.reset_pc;
  apc = o.reset_pc;
  flush = false;
  flush_fence = false;
  started = false;
  stopped = false;
  valid = false;
  slot = empty;
  chosen = λ k. false;
  rf = o.start;
}

-- what it holds as each cycle begins
unfoldable pub at : World → ℕ → Held
at o zero = start_of o
at o (suc zero) = start_of o
at o (suc (suc k)) = next_s o.reset_pc o.memory (at o (suc k))

module _ (o : World) where
  abbrev sh_o : Shape
  sh_o = shape_at o.reset_pc

  abbrev pub inst : Pipe
  inst = record {
    apc = λ t. (at o t).apc;
    flush = λ t. (at o t).flush;
    flush_fence = λ t. (at o t).flush_fence;
    started = λ t. (at o t).started;
    stopped = λ t. (at o t).stopped;
    valid = λ t. (at o t).valid;
    slot = λ t. (at o t).slot;
    chosen = λ k t. (at o t).chosen k;
    tail = λ t. [];
    fetch = record {
      take = λ t. takes_s o.reset_pc o.memory (at o t);
      redirect = λ t. kill_s o.reset_pc o.memory (at o t);
      redirect_pc = λ t. (at o t).apc;
      fence = λ t. kill_s o.reset_pc o.memory (at o t) && (at o t).flush_fence;
      valid = λ t. true;
      pc = λ t. (at o t).fpc;
      word = λ t. word_or (word_at o.memory (at o t).fpc);
      error = λ t. is_none (word_at o.memory (at o t).fpc);
      asked_pc = λ t. 0;
      asked_word = λ t. 0;
      answered = λ t. 0;
    };
    decode = record {
      word = λ t. (decode_s o.reset_pc o.memory (at o t)).word 0;
      legal = λ t. (decode_s o.reset_pc o.memory (at o t)).legal 0;
      row = λ t. (decode_s o.reset_pc o.memory (at o t)).row 0;
      unit = λ t. 0;
      uses_a = λ t. (decode_s o.reset_pc o.memory (at o t)).uses_a 0;
      uses_b = λ t. (decode_s o.reset_pc o.memory (at o t)).uses_b 0;
      writes = λ t. (decode_s o.reset_pc o.memory (at o t)).writes 0;
    };
    regs = record {
      ra = λ t. (regs0 o.reset_pc o.memory (at o t)).ra 0;
      rb = λ t. (regs0 o.reset_pc o.memory (at o t)).rb 0;
      we = λ t. (out_s o.reset_pc o.memory (at o t)).writes;
      wa = λ t. (out_s o.reset_pc o.memory (at o t)).rd;
      wd = λ t. (out_s o.reset_pc o.memory (at o t)).value;
      a = λ t. (regs0 o.reset_pc o.memory (at o t)).a 0;
      b = λ t. (regs0 o.reset_pc o.memory (at o t)).b 0;
    };
    hazard = record {
      stages = λ t. stages_s o.reset_pc o.memory (at o t);
      ra = λ t. (hazard_s o.reset_pc o.memory (at o t)).ra 0;
      rb = λ t. (hazard_s o.reset_pc o.memory (at o t)).rb 0;
      uses_a = λ t. (hazard_s o.reset_pc o.memory (at o t)).uses_a 0;
      uses_b = λ t. (hazard_s o.reset_pc o.memory (at o t)).uses_b 0;
      hold = λ t. (hazard_s o.reset_pc o.memory (at o t)).hold 0;
      a = λ t. (hazard_s o.reset_pc o.memory (at o t)).a 0;
      b = λ t. (hazard_s o.reset_pc o.memory (at o t)).b 0;
    };
    unit = λ k. record {
      go = λ t. (at o t).valid && (at o t).chosen k;
      row = λ t. (at o t).slot.row;
      pc = λ t. (at o t).slot.pc;
      word = λ t. (at o t).slot.word;
      a = λ t. (at o t).slot.a;
      b = λ t. (at o t).slot.b;
      clear = λ t. (unit_s o.reset_pc o.memory (at o t) k).clear 0;
      done = λ t. (at o t).valid && (at o t).chosen k;
      value = λ t. value_in (effect_s o.reset_pc o.memory (at o t));
      next_pc = λ t. next_in (effect_s o.reset_pc o.memory (at o t));
      trap = λ t. trap_in (effect_s o.reset_pc o.memory (at o t));
      cause = λ t. cause_in (effect_s o.reset_pc o.memory (at o t));
      tval = λ t. tval_in (effect_s o.reset_pc o.memory (at o t));
      fence = λ t. is_fence_word (at o t).slot.word;
    };
    system = no_events;
  }

  -- ---- the ports: both buses are at rest
  shown : CorePort → ℕ → ℕ
  shown clk t = 0
  shown reset t = 0
  shown ib_cmd_valid t = 0
  shown ib_cmd_ready t = 0
  shown ib_cmd_addr t = 0
  shown ib_rsp_valid t = 0
  shown ib_rsp_error t = 0
  shown ib_rsp_data t = 0
  shown db_cmd_valid t = 0
  shown db_cmd_ready t = 0
  shown db_cmd_write t = 0
  shown db_cmd_addr t = 0
  shown db_cmd_data t = 0
  shown db_cmd_mask t = 0
  shown db_rsp_valid t = 0
  shown db_rsp_error t = 0
  shown db_rsp_data t = 0
  shown irq_software t = o.software t
  shown irq_timer t = o.timer t
  shown irq_external t = o.external t
  shown ev_valid t = one_if (event sh_o inst t)
  shown ev_kind t = (told sh_o inst t).kind
  shown ev_pc t = (told sh_o inst t).pc
  shown ev_word t = (told sh_o inst t).word
  shown ev_rd t = (told sh_o inst t).rd
  shown ev_value t = (told sh_o inst t).value
  shown ev_cause t = (told sh_o inst t).cause
  shown fe_valid t = one_if (inst.fetch.valid t)
  shown fe_take t = one_if (inst.fetch.take t)
  shown fe_pc t = inst.fetch.pc t

  -- the port of a name
  port_of : List CorePort → List ℕ → CorePort
  port_of [] name = clk
  port_of (q ∷ qs) name = elim (same_name (name_of q) name) [ true ↦ q | false ↦ port_of qs name ]

  -- the run on the ports
  pub trace : Trace
  trace t name = shown (port_of all_ports name) t

  -- its instruction bus is at rest
  pub ib_is : instruction_bus trace ≡ no_bus
  unfolding trace port_of shown name_of
  ib_is = refl

  -- and so is its data bus
  pub db_is : data_bus trace ≡ no_bus
  unfolding trace port_of shown name_of
  db_is = refl

  -- its interrupt lines are the world's
  pub lines_are : (t : ℕ) → lines_at trace t ≡ lines_of o t
  unfolding trace port_of shown name_of
  lines_are t = refl

  -- ---- the step
  one_is : (b : Bool) → eqb (one_if b) 1 ≡ b
  one_is true = refl
  one_is false = refl

  -- its events
  event_shown : (t : ℕ) → has_event trace (suc t) ≡ event sh_o inst (suc t)
  unfolding trace port_of shown name_of has_event
  event_shown t = one_is (event sh_o inst (suc t))

  -- and what is told of them
  event_told : (t : ℕ) → port_event trace (suc t) ≡ told sh_o inst (suc t)
  unfolding trace port_of shown name_of
  event_told t = refl

  -- what Fetch offers
  fetch_shown : (t : ℕ) → (on_port trace fe_valid (suc t) ≡ one_if (inst.fetch.valid (suc t))) × (on_port trace fe_take (suc t) ≡ one_if (inst.fetch.take (suc t))) × (on_port trace fe_pc (suc t) ≡ inst.fetch.pc (suc t))
  unfolding trace port_of shown name_of
  fetch_shown t = (refl, refl, refl)

  -- the data bus has no command
  no_data : (t : ℕ) → (on_port trace db_cmd_valid (suc t) ≡ 0) × (on_port trace db_cmd_write (suc t) ≡ 0) × (on_port trace db_cmd_addr (suc t) ≡ 0) × (on_port trace db_cmd_data (suc t) ≡ 0) × (on_port trace db_cmd_mask (suc t) ≡ 0)
  unfolding trace port_of shown name_of
  no_data t = (refl, refl, refl, refl, refl)

  -- the step of each cycle
  pub steps : Steps (shape_at o.reset_pc) inst trace
  unfolding at kill irq run finished value next_pc wire.cause tval wire.trap wire.fence through ends asked faulty wins traps retires writes enters except_cause trap_cause trap_value takes event
  steps = record {
    apc_first = refl;
    flush_first = refl;
    flush_fence_first = refl;
    started_first = refl;
    stopped_first = refl;
    valid_first = refl;
    tail_first = tt;
    we_first = refl;
    apc = λ s. refl;
    flush = λ s. refl;
    flush_fence = λ s. refl;
    started = λ s. refl;
    stopped = λ s. refl;
    valid = λ s. refl;
    slot = λ s. refl;
    chosen = λ k s a. refl;
    tail = λ s. refl;
    tail_long = λ s. refl;
    take = λ s. refl;
    redirect = λ s. refl;
    redirect_pc = λ s. refl;
    fetch_fence = λ s. refl;
    word = λ s. refl;
    ra = λ s. refl;
    rb = λ s. refl;
    we = λ s. refl;
    wa = λ s. refl;
    wd = λ s. refl;
    stages = λ s. refl;
    hazard_ra = λ s. refl;
    hazard_rb = λ s. refl;
    hazard_uses_a = λ s. refl;
    hazard_uses_b = λ s. refl;
    go = λ k s a. refl;
    go_row = λ k s a. refl;
    go_pc = λ k s a. refl;
    go_word = λ k s a. refl;
    go_a = λ k s a. refl;
    go_b = λ k s a. refl;
    clear = λ k s a. refl;
    sys_event = λ s e. absurd (let z : false ≡ true = e in grind arith);
    sys_kind = λ s e. absurd (let z : false ≡ true = e in grind arith);
    sys_pc = λ s e. absurd (let z : false ≡ true = e in grind arith);
    sys_cause = λ s e. absurd (let z : false ≡ true = e in grind arith);
    sys_tval = λ s e. absurd (let z : false ≡ true = e in grind arith);
    shows = event_shown;
    tells = event_told;
    shows_valid = λ s. (fetch_shown s).0;
    shows_take = λ s. (fetch_shown s).1;
    shows_pc = λ s. (fetch_shown s).2;
    no_data = λ s e. no_data s;
  }
