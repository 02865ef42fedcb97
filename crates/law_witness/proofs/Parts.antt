-- A core by its parts, over numbers: a fetch that asks for one word at a time, three units over the whole table, of which one
-- commits with CSRs and one commits with the data bus, full bypass, four stages, and buses that answer in the next cycle.
use Rattle.std.proofs.Common.{ℕ, ◌-◌, ◌*◌, ◌^◌, Bool, true, false, cond, not, eqb, List, [], ◌∷◌, ◌&&◌, ◌||◌, set, Option, Some, None, is_some}
use Rattle.core_words.specs.Fields.{rd_of, rs1_of, rs2_of}
use Rattle.bus_law.specs.Memory.{Memory, aligned_of, is_window, word_at, written}
use Rattle.isa_table.specs.Rows.{Action}
use Rattle.isa_table.specs.Rows.Action.{AccessesCsr, Branches, Breaks, CallsEnvironment, Computes, Fences, FencesFetches, Jumps, Loads, Returns, Stores, Waits}
use Rattle.isa_csr.specs.Csrs.{Csrs, pending, trap_entry}
use Rattle.isa_model.specs.Effects.{Effect, csrs_of, is_multiple, lane_at, rests}
use Rattle.isa_model.specs.Effects.Effect.{Does, Rests, Traps}
use Rattle.isa_model.specs.Machine.{register}
use Rattle.plug_law.specs.Decode.{DecodeSignals}
use Rattle.isa_model.specs.Run.{is_fence_word}
use Rattle.plug_law.specs.Exec.{ExecSignals}
use Rattle.plug_law.specs.Fetch.{FetchSignals}
use Rattle.plug_law.specs.Hazard.{Ahead, HazardSignals, value_or, waits_for, writer}
use Rattle.plug_law.specs.Pipeline.{Late, Pipe, Shape, Slot, asked, ends, enters, event, faulty, fresh, fresh_except, in_front, irq, kill, leaves, made_late, next_pc, places, retires, run, shift, take_irq, takes, target, trap_cause, trap_value, traps, tval, writes}
use Rattle.plug_law.specs.RegFile.{RegSignals}
use Rattle.plug_law.specs.System.{SystemSignals}
use Rattle.plug_law.specs.Table.{Table, is_bus_group, is_system_row, row_numbered, table_of}
use Rattle.pipe_law.specs.Core.{no_exec}
use Rattle.law_witness.specs.Cores.{all_rows}
use Rattle.plug_law.specs.Pipeline as wire

-- ---- the plan

abbrev pub rows : Table
rows = table_of all_rows

abbrev pub owner_of : (row : ℕ) → ℕ
owner_of row = cond (is_bus_group (row_numbered row).group) 2 (cond (is_system_row row) 1 0)

abbrev pub shape_at : ℕ → Shape
shape_at reset_pc = record { entries = 0 ∷ 1 ∷ 2 ∷ []; commits = λ k. not (eqb k 0); system = true; holds = true; reset_pc = reset_pc; stages = 4 }

-- ---- what a fetch and the unit of the data bus are at
pub data Fetching : Type 0 where
  Asks : Fetching
  -- a command of the last cycle is owed its response; a stale one is dropped
  Awaits : (stale : Bool) (reply : Option ℕ) → Fetching
  Holds : (got : Option ℕ) → Fetching

-- the unit has no command, gives one, or has its response
pub data Accessing : Type 0 where
  Rest : Accessing
  Command : Accessing
  Reply : (error payload : ℕ) → Accessing

abbrev pub is_none : Option ℕ → Bool
is_none None = true
is_none (Some w) = false

abbrev pub word_or : Option ℕ → ℕ
word_or None = 0
word_or (Some w) = w

abbrev pub offers : Fetching → Bool
offers Asks = false
offers (Awaits stale reply) = false
offers (Holds got) = true

abbrev pub got_of : Fetching → Option ℕ
got_of Asks = None
got_of (Awaits stale reply) = None
got_of (Holds got) = got

abbrev pub asks_of : Fetching → ℕ
asks_of Asks = 1
asks_of (Awaits stale reply) = 0
asks_of (Holds got) = 0

abbrev pub answers_of : Fetching → ℕ
answers_of Asks = 0
answers_of (Awaits stale reply) = 1
answers_of (Holds got) = 0

abbrev pub reply_of : Fetching → Option ℕ
reply_of Asks = None
reply_of (Awaits stale reply) = reply
reply_of (Holds got) = None

-- what comes next, for a redirect and a take, and what memory holds at the pc and at the pc that Predict says: a redirect
-- asks the bus, and the word after one that is taken is known at once
abbrev pub fetching_next : (redirect take : Bool) → (held ahead : Option ℕ) → Fetching → Fetching
fetching_next redirect take held ahead Asks = Awaits redirect held
fetching_next redirect take held ahead (Awaits stale reply) = cond (stale || redirect) Asks (Holds reply)
fetching_next redirect take held ahead (Holds got) = cond redirect Asks (cond take (Holds ahead) (Holds got))

-- ---- the commands of an action
abbrev pub needs_bus : Action → Bool
needs_bus (Loads addr size is_signed) = is_multiple addr size
needs_bus (Stores addr size value) = is_multiple addr size
needs_bus (Computes value) = false
needs_bus (Jumps value target) = false
needs_bus (Branches is_taken target) = false
needs_bus Fences = false
needs_bus FencesFetches = false
needs_bus CallsEnvironment = false
needs_bus Breaks = false
needs_bus (AccessesCsr number change operand writes) = false
needs_bus Returns = false
needs_bus Waits = false

abbrev pub writes_bus : Action → ℕ
writes_bus (Stores addr size value) = 1
writes_bus (Loads addr size is_signed) = 0
writes_bus (Computes value) = 0
writes_bus (Jumps value target) = 0
writes_bus (Branches is_taken target) = 0
writes_bus Fences = 0
writes_bus FencesFetches = 0
writes_bus CallsEnvironment = 0
writes_bus Breaks = 0
writes_bus (AccessesCsr number change operand writes) = 0
writes_bus Returns = 0
writes_bus Waits = 0

abbrev pub addr_bus : Action → ℕ
addr_bus (Loads addr size is_signed) = aligned_of addr
addr_bus (Stores addr size value) = aligned_of addr
addr_bus (Computes value) = 0
addr_bus (Jumps value target) = 0
addr_bus (Branches is_taken target) = 0
addr_bus Fences = 0
addr_bus FencesFetches = 0
addr_bus CallsEnvironment = 0
addr_bus Breaks = 0
addr_bus (AccessesCsr number change operand writes) = 0
addr_bus Returns = 0
addr_bus Waits = 0

abbrev pub data_bus_of : Action → ℕ
data_bus_of (Stores addr size value) = value * 2 ^ (8 * lane_at addr)
data_bus_of (Loads addr size is_signed) = 0
data_bus_of (Computes value) = 0
data_bus_of (Jumps value target) = 0
data_bus_of (Branches is_taken target) = 0
data_bus_of Fences = 0
data_bus_of FencesFetches = 0
data_bus_of CallsEnvironment = 0
data_bus_of Breaks = 0
data_bus_of (AccessesCsr number change operand writes) = 0
data_bus_of Returns = 0
data_bus_of Waits = 0

abbrev pub mask_bus : Action → ℕ
mask_bus (Stores addr size value) = (2 ^ size - 1) * 2 ^ lane_at addr
mask_bus (Loads addr size is_signed) = 0
mask_bus (Computes value) = 0
mask_bus (Jumps value target) = 0
mask_bus (Branches is_taken target) = 0
mask_bus Fences = 0
mask_bus FencesFetches = 0
mask_bus CallsEnvironment = 0
mask_bus Breaks = 0
mask_bus (AccessesCsr number change operand writes) = 0
mask_bus Returns = 0
mask_bus Waits = 0

abbrev pub gives : Accessing → ℕ
gives Rest = 0
gives Command = 1
gives (Reply error payload) = 0

abbrev pub replies : Accessing → ℕ
replies Rest = 0
replies Command = 0
replies (Reply error payload) = 1

abbrev pub error_in : Accessing → ℕ
error_in Rest = 0
error_in Command = 0
error_in (Reply error payload) = error

abbrev pub payload_in : Accessing → ℕ
payload_in Rest = 0
payload_in Command = 0
payload_in (Reply error payload) = payload

-- the unit is done: at once where the action needs no bus
abbrev pub is_through : Accessing → Action → Bool
is_through Rest act = not (needs_bus act)
is_through Command act = false
is_through (Reply error payload) act = true

abbrev pub is_refused : (held : Option ℕ) (window : Bool) → ℕ
is_refused None true = 0
is_refused None false = 1
is_refused (Some word) window = 0

abbrev pub accessing_next : (stays : Bool) → (error payload : ℕ) → Accessing → Accessing
accessing_next stays error payload Rest = cond stays Command Rest
accessing_next stays error payload Command = Reply error payload
accessing_next stays error payload (Reply e d) = Rest

-- ---- the outputs of an effect
abbrev pub value_in : Effect → ℕ
value_in (Does None n w c) = 0
value_in (Does (Some v) n w c) = v
value_in (Traps c v w) = 0
value_in Rests = 0

abbrev pub next_in : Effect → ℕ
next_in (Does v n w c) = n
next_in (Traps c v w) = 0
next_in Rests = 0

abbrev pub trap_in : Effect → Bool
trap_in (Traps c v w) = true
trap_in (Does v n w c) = false
trap_in Rests = false

abbrev pub cause_in : Effect → ℕ
cause_in (Traps c v w) = c
cause_in (Does v n w c) = 0
cause_in Rests = 0

abbrev pub tval_in : Effect → ℕ
tval_in (Traps c v w) = v
tval_in (Does v n w c) = 0
tval_in Rests = 0

-- ---- the state
pub record State : Type 0 where
  pub fpc : ℕ
  pub fetching : Fetching
  pub accessing : Accessing
  pub apc : ℕ
  pub flush : Bool
  pub flush_fence : Bool
  pub started : Bool
  pub stopped : Bool
  pub valid : Bool
  pub slot : Slot
  pub chosen : ℕ → Bool
  pub tail : List Late
  pub rf : List ℕ
  pub csr : Csrs
  pub memory : Memory
  -- memory as the go of each entry began
  pub seen : ℕ → Memory

abbrev pub no_hazard : HazardSignals
no_hazard = record { stages = λ t. []; ra = λ t. 0; rb = λ t. 0; uses_a = λ t. false; uses_b = λ t. false; hold = λ t. false; a = λ t. 0; b = λ t. 0 }

module _ (reset_pc : ℕ) (predict : ℕ → ℕ → ℕ) (l : ℕ) where
  abbrev pub sh : Shape
  sh = shape_at reset_pc

  -- ---- the signals of a cycle, in the order in which they are driven
  abbrev pub word_s : State → ℕ
  word_s s = word_or (got_of s.fetching)

  abbrev pub row_s : State → ℕ
  row_s s = word_or (rows.row_of (word_or (got_of s.fetching)))

  abbrev pub fetch0 : State → FetchSignals
  fetch0 s = record {
    take = λ t. false;
    redirect = λ t. false;
    redirect_pc = λ t. 0;
    fence = λ t. false;
    valid = λ t. offers s.fetching;
    pc = λ t. s.fpc;
    word = λ t. word_s s;
    error = λ t. is_none (got_of s.fetching);
    asked_pc = λ t. s.fpc;
    asked_word = λ t. word_s s;
    answered = λ t. predict s.fpc (word_s s);
  }

  abbrev pub system0 : State → SystemSignals
  system0 s = record {
    event = λ t. false;
    kind = λ t. 0;
    pc = λ t. 0;
    cause = λ t. 0;
    tval = λ t. 0;
    take_irq = λ t. is_some (pending s.csr l);
    irq_cause = λ t. word_or (pending s.csr l);
    base = λ t. s.csr.mtvec;
  }

  abbrev pub decode_s : State → DecodeSignals
  decode_s s = record {
    word = λ t. word_s s;
    legal = λ t. is_some (rows.row_of (word_s s));
    row = λ t. row_s s;
    unit = λ t. owner_of (row_s s);
    uses_a = λ t. rows.uses_a (row_s s);
    uses_b = λ t. rows.uses_b (row_s s);
    writes = λ t. rows.has_value (row_s s) && not (eqb (rd_of (word_s s)) 0);
  }

  abbrev pub regs0 : State → RegSignals
  regs0 s = record {
    ra = λ t. rs1_of (word_s s);
    rb = λ t. rs2_of (word_s s);
    we = λ t. false;
    wa = λ t. 0;
    wd = λ t. 0;
    a = λ t. register s.rf (rs1_of (word_s s));
    b = λ t. register s.rf (rs2_of (word_s s));
  }

  abbrev pub pipe1 : State → Pipe
  pipe1 s = record {
    apc = λ t. s.apc;
    flush = λ t. s.flush;
    flush_fence = λ t. s.flush_fence;
    started = λ t. s.started;
    stopped = λ t. s.stopped;
    valid = λ t. s.valid;
    slot = λ t. s.slot;
    chosen = λ k t. s.chosen k;
    tail = λ t. s.tail;
    fetch = fetch0 s;
    decode = decode_s s;
    regs = regs0 s;
    hazard = no_hazard;
    unit = λ k. no_exec;
    system = system0 s;
  }

  abbrev pub go_s : State → ℕ → Bool
  go_s s k = cond (not (eqb k 0)) (run sh (pipe1 s) 0) s.valid && s.chosen k

  abbrev pub act_s : State → Action
  act_s s = (row_numbered s.slot.row).action s.slot.pc s.slot.word s.slot.a s.slot.b

  abbrev pub eff_s : State → ℕ → Effect
  eff_s s k = rows.effect s.slot.row s.slot.pc s.slot.word s.slot.a s.slot.b (s.seen k) s.csr (record { lines = l })

  abbrev pub done_s : State → ℕ → Bool
  done_s s k = go_s s k && cond (eqb k 2) (is_through s.accessing (act_s s)) (cond (eqb k 1) (not (rests (eff_s s k))) true)

  abbrev pub clear_s : State → ℕ → Bool
  clear_s s k = not (not (eqb k 0)) && (kill sh (pipe1 s) 0 || irq sh (pipe1 s) 0)

  abbrev pub unit_s : State → ℕ → ExecSignals
  unit_s s k = record {
    go = λ t. go_s s k;
    row = λ t. s.slot.row;
    pc = λ t. s.slot.pc;
    word = λ t. s.slot.word;
    a = λ t. s.slot.a;
    b = λ t. s.slot.b;
    clear = λ t. clear_s s k;
    done = λ t. done_s s k;
    value = λ t. value_in (eff_s s k);
    next_pc = λ t. next_in (eff_s s k);
    trap = λ t. trap_in (eff_s s k);
    cause = λ t. cause_in (eff_s s k);
    tval = λ t. tval_in (eff_s s k);
    fence = λ t. is_fence_word s.slot.word;
  }

  abbrev pub pipe2 : State → Pipe
  pipe2 s = record (pipe1 s) { unit = unit_s s }

  abbrev pub stages_s : State → List Ahead
  stages_s s = in_front sh (pipe2 s) 0 ∷ places 2 s.tail

  abbrev pub hazard_s : State → HazardSignals
  hazard_s s = record {
    stages = λ t. stages_s s;
    ra = λ t. rs1_of (word_s s);
    rb = λ t. rs2_of (word_s s);
    uses_a = λ t. rows.uses_a (row_s s);
    uses_b = λ t. rows.uses_b (row_s s);
    hold = λ t. (rows.uses_a (row_s s) && waits_for (writer (λ i. true) (stages_s s) (rs1_of (word_s s)))) || (rows.uses_b (row_s s) && waits_for (writer (λ i. true) (stages_s s) (rs2_of (word_s s))));
    a = λ t. value_or (writer (λ i. true) (stages_s s) (rs1_of (word_s s))) (register s.rf (rs1_of (word_s s)));
    b = λ t. value_or (writer (λ i. true) (stages_s s) (rs2_of (word_s s))) (register s.rf (rs2_of (word_s s)));
  }

  abbrev pub pipe3 : State → Pipe
  pipe3 s = record (pipe2 s) { hazard = hazard_s s }

  abbrev pub out_s : State → Late
  out_s s = leaves (made_late sh (pipe3 s) 0) s.tail

  abbrev pub kill_s : State → Bool
  kill_s s = kill sh (pipe3 s) 0

  abbrev pub takes_s : State → Bool
  takes_s s = takes sh (pipe3 s) 0

  abbrev pub fetch_s : State → FetchSignals
  fetch_s s = record (fetch0 s) { take = λ t. takes_s s; redirect = λ t. kill_s s; redirect_pc = λ t. s.apc; fence = λ t. kill_s s && s.flush_fence }

  abbrev pub regs_s : State → RegSignals
  regs_s s = record (regs0 s) { we = λ t. (out_s s).writes; wa = λ t. (out_s s).rd; wd = λ t. (out_s s).value }

  abbrev pub system_s : State → SystemSignals
  system_s s = record (system0 s) {
    event = λ t. event sh (pipe3 s) 0;
    kind = λ t. cond (asked sh (pipe3 s) 0) 2 (cond (faulty sh (pipe3 s) 0) 1 0);
    pc = λ t. s.apc;
    cause = λ t. cond (asked sh (pipe3 s) 0) (word_or (pending s.csr l)) (trap_cause sh (pipe3 s) 0);
    tval = λ t. cond (asked sh (pipe3 s) 0) 0 (trap_value sh (pipe3 s) 0);
  }

  -- the data bus: it takes each command, and answers in the next cycle
  abbrev pub writes_s : State → Bool
  writes_s s = (eqb (gives s.accessing) 1 && eqb (gives s.accessing) 1) && eqb (writes_bus (act_s s)) 1

  abbrev pub stored_s : State → Memory
  stored_s s = cond (writes_s s) (written s.memory (addr_bus (act_s s)) (data_bus_of (act_s s)) (mask_bus (act_s s))) s.memory

  abbrev pub busy_s : State → ℕ → Bool
  busy_s s k = go_s s k && (not (done_s s k) && not (clear_s s k))

  abbrev pub next_s : State → State
  next_s s =
      let p = pipe3 s in
      let after : Csrs = cond (done_s s 1 && not (clear_s s 1)) (csrs_of (eff_s s 1) s.csr) s.csr in
      record {
        fpc = cond (kill_s s) s.apc (cond (takes_s s) (predict s.fpc (word_s s)) s.fpc);
        fetching = fetching_next (kill_s s) (takes_s s) (word_at s.memory s.fpc) (word_at s.memory (predict s.fpc (word_s s))) s.fetching;
        accessing = accessing_next (busy_s s 2) (is_refused (word_at s.memory (addr_bus (act_s s))) (is_window (addr_bus (act_s s)))) (word_or (word_at s.memory (addr_bus (act_s s)))) s.accessing;
        apc = cond (event sh p 0) (cond (asked sh p 0 || faulty sh p 0) (target sh p 0) (next_pc sh p 0)) s.apc;
        flush = irq sh p 0 || (traps sh p 0 || (retires sh p 0 && wire.fence sh p 0));
        flush_fence = retires sh p 0 && wire.fence sh p 0;
        started = run sh p 0 && not (ends sh p 0);
        stopped = not true && (s.stopped || traps sh p 0);
        valid = not (kill_s s || irq sh p 0) && (takes_s s || not (enters sh p 0));
        slot = cond (enters sh p 0) (fresh sh p 0) s.slot;
        chosen = λ k. cond (enters sh p 0) (eqb (owner_of (row_s s)) k && not (fresh_except sh p 0)) (s.chosen k);
        tail = shift (made_late sh p 0) s.tail;
        rf = cond (out_s s).writes (set s.rf (out_s s).rd (out_s s).value) s.rf;
        csr = cond ((system_s s).event 0 && not (eqb ((system_s s).kind 0) 0)) (trap_entry after s.apc ((system_s s).cause 0) ((system_s s).tval 0)) after;
        memory = stored_s s;
        seen = λ k. cond (busy_s s k) (s.seen k) (stored_s s);
      }
