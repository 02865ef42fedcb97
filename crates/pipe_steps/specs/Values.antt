-- What the pipeline drives each thing with, as functions of the numbers of a cycle.
use Rattle.std.specs.Prelude.{ℕ, cond, List, [], ◌∷◌, map, get_or}
use Rattle.hw_pool.specs.Meaning.{Env, value}
use Rattle.core_words.specs.Fields.{rd_of}
use Rattle.plug_part.specs.Part.{PortTrees, tree_at}
use Rattle.plug_part.specs.Signals.{or_none}
use Rattle.part_laws.specs.Joined.{ports_in}
use Rattle.part_laws.specs.Pipes.{LateOwn}
use Rattle.pipe_nets.specs.Path.{kill_of, asked_of, irq_of, run_of}
use Rattle.pipe_nets.specs.Finish.{through_of, ends_of, faulty_of, wins_of, traps_of, retires_of, writes_of, enters_of}
use Rattle.pipe_nets.specs.Causes.{except_cause_of, except_value_of, of_trap}
use Rattle.pipe_nets.specs.Entry.{fresh_except_of, takes_of}
use Rattle.pipe_nets.specs.After.{event_of, pc_after_of, fences_of, flush_after_of, started_after_of, stopped_after_of, valid_after_of}
use Rattle.pipe_nets.specs.Told.{kind_of, kind_alone_of, tells_of}
use Rattle.pipe_nets.specs.Unit.{go_of, clear_of}
use Rattle.pipe_nets.specs.Picks.{gathered}
use Rattle.pipe_steps.specs.Equations.{any_of, slot_after_of, fresh_chosen_of, front_writes_of}
use Rattle.pipe_steps.specs.Things.{PipeUnit, PipeThings}

-- a result on its way to the registers, as numbers
pub record LateValue : Type 0 where
  pub writes : ℕ
  pub rd : ℕ
  pub value : ℕ

-- a stage behind decode as Hazard sees it, as numbers
pub record StageValue : Type 0 where
  pub writes : ℕ
  pub rd : ℕ
  pub ready : ℕ
  pub value : ℕ

-- the number of an input of ports, and the value of an output
abbrev pub in_of : PortTrees → (place : ℕ) → ℕ
in_of o i = get_or o.inputs i 0

abbrev pub out_of : Env → PortTrees → (place : ℕ) → ℕ
out_of env o i = value env (tree_at o.outputs i)

module _ (p : PipeThings) (env : Env) where
  -- ---- outputs of services; those of System are 0 where there is none

  abbrev pub fetch_out : ℕ → ℕ
  fetch_out i = out_of env p.services.fetch.1 i

  abbrev pub decode_out : ℕ → ℕ
  decode_out i = out_of env p.services.decoder.1 i

  abbrev pub hazard_out : ℕ → ℕ
  hazard_out i = out_of env p.services.hazard.1 i

  abbrev pub system_out : ℕ → ℕ
  system_out i = out_of env (or_none (ports_in p.services.system)) i

  -- an output of each unit, with whether the unit is chosen
  abbrev pub picks : (place : ℕ) → List (ℕ × ℕ)
  picks i = map (λ u. (env.regs u.chosen, out_of env u.ports i)) p.units

  -- an output of the chosen unit, 0 where none is chosen
  abbrev pub unit_out : (place : ℕ) → ℕ
  unit_out i = gathered (picks i)

  -- 1 where some unit is done
  abbrev pub done_in : ℕ
  done_in = any_of (map (λ u. out_of env u.ports 0) p.units)

  -- ---- the forward wires

  abbrev pub kill_in : ℕ
  kill_in = kill_of (env.regs p.own.flush) (env.regs p.own.valid) (env.regs p.own.pc) (fetch_out 0) (fetch_out 1) (env.regs p.own.apc)

  abbrev pub asked_in : ℕ
  asked_in = asked_of (system_out 0) (env.regs p.own.started)

  abbrev pub irq_in : ℕ
  irq_in = irq_of asked_in (env.wires p.wires.kill)

  abbrev pub run_in : ℕ
  run_in = run_of (env.regs p.own.valid) (env.regs p.own.started) (env.regs p.own.flush) (env.regs p.own.pc) (env.regs p.own.apc) (system_out 0)

  abbrev pub through_in : ℕ
  through_in = through_of (env.regs p.own.except) done_in

  abbrev pub ends_in : ℕ
  ends_in = ends_of (env.wires p.wires.run) through_in

  abbrev pub faulty_in : ℕ
  faulty_in = faulty_of (env.regs p.own.except) (unit_out 3)

  abbrev pub wins_in : ℕ
  wins_in = wins_of (env.regs p.own.writes) (unit_out 3)

  abbrev pub retires_in : ℕ
  retires_in = retires_of (env.wires p.wires.ends) (env.regs p.own.except) (unit_out 3)

  abbrev pub traps_in : ℕ
  traps_in = traps_of (env.wires p.wires.ends) faulty_in

  abbrev pub writes_in : ℕ
  writes_in = writes_of (env.wires p.wires.ends) wins_in

  abbrev pub enters_in : ℕ
  enters_in = enters_of (env.regs p.own.valid) through_in

  -- ---- the event

  abbrev pub event_in : ℕ
  event_in = event_of (env.wires p.wires.ends) (env.wires p.wires.irq)

  abbrev pub trap_cause_in : ℕ
  trap_cause_in = of_trap (env.regs p.own.except) (except_cause_of (env.regs p.own.error) (env.regs p.own.legal) (env.regs p.own.word)) (unit_out 4)

  abbrev pub trap_value_in : ℕ
  trap_value_in = of_trap (env.regs p.own.except) (except_value_of (env.regs p.own.error) (env.regs p.own.legal) (env.regs p.own.pc) (env.regs p.own.word)) (unit_out 5)

  abbrev pub tells_in : ℕ
  tells_in = tells_of wins_in asked_in

  -- ---- the next values of registers

  abbrev pub apc_next : ℕ
  apc_next = pc_after_of event_in asked_in faulty_in (system_out 2) (unit_out 2) (env.regs p.own.apc)

  abbrev pub fences_in : ℕ
  fences_in = fences_of (env.wires p.wires.retires) (unit_out 6)

  abbrev pub flush_next : ℕ
  flush_next = flush_after_of (env.wires p.wires.irq) (env.wires p.wires.traps) fences_in

  abbrev pub started_next : ℕ
  started_next = started_after_of (env.wires p.wires.run) (env.wires p.wires.ends)

  abbrev pub stopped_next : ℕ
  stopped_next = cond p.shape.system 0 (stopped_after_of (env.regs p.own.stopped) (env.wires p.wires.traps))

  -- the item that is offered is taken
  abbrev pub takes_in : ℕ
  takes_in = takes_of (fetch_out 0) (env.wires p.wires.enters) (hazard_out 0) (env.wires p.wires.kill) (env.regs p.own.stopped)

  abbrev pub valid_next : ℕ
  valid_next = valid_after_of (env.wires p.wires.kill) (env.wires p.wires.irq) takes_in (env.wires p.wires.enters)

  abbrev pub fresh_except_in : ℕ
  fresh_except_in = fresh_except_of (fetch_out 3) (decode_out 0) (decode_out 1)

  -- a register of the item in front
  abbrev pub slot_next : (reg fresh : ℕ) → ℕ
  slot_next r fresh = slot_after_of (env.wires p.wires.enters) fresh (env.regs r)

  abbrev pub chosen_next : PipeUnit → ℕ
  chosen_next u = slot_next u.chosen (fresh_chosen_of (decode_out 2) u.entry fresh_except_in)

  -- ---- results on their way

  -- the result that leaves the stage that executes
  abbrev pub made_late_in : LateValue
  made_late_in = record { writes = env.wires p.wires.writes; rd = rd_of (env.regs p.own.word); value = unit_out 1 }

  -- that stage as Hazard sees it
  abbrev pub front_stage : StageValue
  front_stage = record { writes = front_writes_of (env.regs p.own.valid) (env.regs p.own.writes); rd = rd_of (env.regs p.own.word); ready = done_in; value = unit_out 1 }

  -- ---- what units are given

  abbrev pub go_in : PipeUnit → ℕ
  go_in u = go_of (cond (p.shape.commits u.entry) (env.wires p.wires.run) (env.regs p.own.valid)) (env.regs u.chosen)

  abbrev pub clear_in : PipeUnit → ℕ
  clear_in u = cond (p.shape.commits u.entry) 0 (clear_of (env.wires p.wires.kill) (env.wires p.wires.irq))

  -- the kind of an event on the core's ports
  abbrev pub told_kind_in : ℕ
  told_kind_in = cond p.shape.system (kind_of asked_in faulty_in) (kind_alone_of asked_in faulty_in)

-- ---- places of the tail

-- the result that a place holds
abbrev pub late_in : Env → LateOwn → LateValue
late_in env t = record { writes = env.regs t.writes; rd = env.regs t.rd; value = env.regs t.value }

-- the result that leaves the tail for the registers
abbrev pub leaving : Env → LateValue → List LateOwn → LateValue
leaving env new [] = new
leaving env new (t ∷ ts) = leaving env (late_in env t) ts

-- what Hazard sees of the first of some places; zeros where there is none
abbrev pub place_stage : Env → List LateOwn → StageValue
place_stage env [] = record { writes = 0; rd = 0; ready = 0; value = 0 }
place_stage env (t ∷ ts) = record { writes = env.regs t.writes; rd = env.regs t.rd; ready = 1; value = env.regs t.value }

-- the places behind the first
abbrev pub places_behind : List LateOwn → List LateOwn
places_behind [] = []
places_behind (t ∷ ts) = ts
