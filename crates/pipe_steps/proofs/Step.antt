-- A module in which the pipeline has driven its things takes the pipeline's step in each run.
use Rattle.std.proofs.Common.{◌≡◌, ◌∙◌, ℕ, suc, ◌+◌, ◌<◌, Bool, true, false, cond, not, eqb, ◌&&◌, ◌||◌, List, [], ◌∷◌, refl, sym, ap, subst, Option, arith}
use Rattle.std.specs.Prelude.{All}
use Rattle.std.proofs.lemmas.List.{length-map}
use Rattle.core_words.specs.Values.{one_if}
use Rattle.core_ports.specs.Ports.{db_cmd_valid, db_cmd_write, db_cmd_addr, db_cmd_data, db_cmd_mask, fe_valid, fe_take, fe_pc}
use Rattle.core_ports.specs.Trace.{Trace, on_port, has_event, port_event}
use Rattle.hw_pool.specs.declared.node.Node.{Node}
use Rattle.hw_pool.specs.Meaning.{Env}
use Rattle.hw_module.specs.Ports.{port_at}
use Rattle.hw_module.specs.Rows.{ModuleValue}
use Rattle.plug_law.specs.Hazard.{Ahead}
use Rattle.plug_law.specs.Pipeline.{Pipe, Shape, Steps, any_done, gather, gather_bit, member, leaves, places, take_irq, kill, irq, run, finished, value, next_pc, cause, tval, trap, fence, through, ends, asked, faulty, wins, traps, retires, writes, enters, except_cause, trap_cause, trap_value, takes, fresh_except, fresh, made_late, in_front, target, event, told}
use Rattle.plug_part.specs.Signals.{or_none, input_at, input_bit, ahead_at}
use Rattle.part_laws.specs.Joined.{ports_in}
use Rattle.part_laws.specs.Pipes.{late_at, pipe_of}
use Rattle.pipe_nets.specs.Entry.{fresh_writes_of}
use Rattle.pipe_steps.specs.Things.{PipeUnit, PipeThings, FitTogether}
use Rattle.pipe_steps.specs.Values.{in_of, out_of, fetch_out, decode_out, hazard_out, system_out, unit_out, done_in, asked_in, through_in, faulty_in, wins_in, event_in, trap_cause_in, trap_value_in, tells_in, takes_in, fences_in, fresh_except_in, slot_next, made_late_in, front_stage, leaving}
use Rattle.pipe_steps.specs.Drives.{RegHas, InHas, DrivesUnit, DrivesSystem, PipeDrives}
use Rattle.pipe_steps.specs.Runs.{RunsModule, AreBits}
use Rattle.pipe_steps.proofs.Bits as bits
use Rattle.pipe_steps.proofs.Bits.{Bit, bit_of, test_is, from}
use Rattle.pipe_steps.proofs.Choices.{unless_bit, either_bit, kind_told, of_system, slot_cond}
use Rattle.pipe_steps.proofs.Units.{gather_is, gather_bit_is, any_done_is, of_entry}
use Rattle.pipe_steps.proofs.Things.{wire_is, next_is, first_is, out_is, below_two, bit_at, system_bit, system_number}
use Rattle.pipe_steps.proofs.Tail.{LateIs, StageIs, shifts, idle_first, leaving_is, ahead_is, places_are}

module _ (m : ModuleValue) (nodes : List Node) (p : PipeThings) (env : ℕ → Env) (run' : Trace) (r : RunsModule m nodes env run')
    (fits : FitTogether p) (d : PipeDrives m nodes p) (are : (k : ℕ) → AreBits p (env k)) where
  abbrev pub sh : Shape
  sh = p.shape

  abbrev pub pipe : Pipe
  pipe = pipe_of p.own p.services env

  module _ (k : ℕ) where
    -- ---- outputs of the chosen unit

    chosen_fit : All (λ (u : PipeUnit). (env k).regs u.chosen < 2) p.units
    chosen_fit j e l = below_two m nodes env run' r (d.units j e l).chosen k

    unit_number : (i : ℕ) → unit_out p (env k) i ≡ gather (λ e. eqb ((env k).regs (p.own.chosen e)) 1) sh.entries (λ e. out_of (env k) (p.services.exec e) i)
    unit_number i =
        gather_is (env k) p.own.chosen p.services.exec i p.units fits.chosen fits.ports
        ∙ ap (λ es. gather (λ e. eqb ((env k).regs (p.own.chosen e)) 1) es (λ e. out_of (env k) (p.services.exec e) i)) (sym fits.entries)

    unit_bit : (i : ℕ) → All (λ (u : PipeUnit). out_of (env k) u.ports i < 2) p.units
        → Bit (unit_out p (env k) i) (gather_bit (λ e. eqb ((env k).regs (p.own.chosen e)) 1) sh.entries (λ e. eqb (out_of (env k) (p.services.exec e) i) 1))
    unit_bit i h =
        subst (λ es. Bit (unit_out p (env k) i) (gather_bit (λ e. eqb ((env k).regs (p.own.chosen e)) 1) es (λ e. eqb (out_of (env k) (p.services.exec e) i) 1))) (sym fits.entries)
        (gather_bit_is (env k) p.own.chosen p.services.exec i p.units fits.chosen fits.ports chosen_fit h)

    value_is : unit_out p (env k) 1 ≡ value sh pipe k
    unfolding value
    value_is = unit_number 1

    next_pc_is : unit_out p (env k) 2 ≡ next_pc sh pipe k
    unfolding next_pc
    next_pc_is = unit_number 2

    cause_is : unit_out p (env k) 4 ≡ cause sh pipe k
    unfolding cause
    cause_is = unit_number 4

    tval_is : unit_out p (env k) 5 ≡ tval sh pipe k
    unfolding tval
    tval_is = unit_number 5

    trap_is : Bit (unit_out p (env k) 3) (trap sh pipe k)
    unfolding trap
    trap_is = unit_bit 3 (λ j e l. ((are k).units j e l).trap)

    fence_is : Bit (unit_out p (env k) 6) (fence sh pipe k)
    unfolding fence
    fence_is = unit_bit 6 (λ j e l. ((are k).units j e l).fence)

    done_is : Bit (done_in p (env k)) (finished sh pipe k)
    unfolding finished
    done_is =
        subst (λ es. Bit (done_in p (env k)) (any_done (λ e. eqb (out_of (env k) (p.services.exec e) 0) 1) es)) (sym fits.entries)
        (any_done_is (env k) p.own.chosen p.services.exec p.units fits.ports (λ j e l. ((are k).units j e l).done))

    -- ---- registers and outputs that are bits

    valid_is : Bit ((env k).regs p.own.valid) (pipe.valid k)
    valid_is = bit_at m nodes env run' r d.regs.valid k

    started_is : Bit ((env k).regs p.own.started) (pipe.started k)
    started_is = bit_at m nodes env run' r d.regs.started k

    flush_is : Bit ((env k).regs p.own.flush) (pipe.flush k)
    flush_is = bit_at m nodes env run' r d.regs.flush k

    flush_fence_is : Bit ((env k).regs p.own.flush_fence) (pipe.flush_fence k)
    flush_fence_is = bit_at m nodes env run' r d.regs.flush_fence k

    stopped_is : Bit ((env k).regs p.own.stopped) (pipe.stopped k)
    stopped_is = bit_at m nodes env run' r d.regs.stopped k

    except_is : Bit ((env k).regs p.own.except) (pipe.slot k).except
    except_is = bit_at m nodes env run' r d.slot.except k

    slot_writes_is : Bit ((env k).regs p.own.writes) (pipe.slot k).writes
    slot_writes_is = bit_at m nodes env run' r d.slot.writes k

    error_is : Bit ((env k).regs p.own.error) (pipe.slot k).error
    error_is = bit_at m nodes env run' r d.slot.error k

    legal_is : Bit ((env k).regs p.own.legal) (pipe.slot k).legal
    legal_is = bit_at m nodes env run' r d.slot.legal k

    offered_is : Bit (fetch_out p (env k) 0) (pipe.fetch.valid k)
    offered_is = bit_of (fetch_out p (env k) 0) (are k).offered

    take_irq_is : Bit (system_out p (env k) 0) (take_irq sh pipe k)
    take_irq_is = system_bit (env k) p.services.system sh.system fits.system 0 (are k).take_irq

    -- ---- wires

    kill_is : Bit ((env k).wires p.wires.kill) (kill sh pipe k)
    unfolding kill
    kill_is = from (wire_is m nodes env run' r d.wires.kill k) (bits.kill_bit flush_is valid_is offered_is _ _ _)

    asked_is : Bit (asked_in p (env k)) (asked sh pipe k)
    unfolding asked
    asked_is = bits.asked_bit take_irq_is started_is

    irq_is : Bit ((env k).wires p.wires.irq) (irq sh pipe k)
    unfolding irq
    irq_is = from (wire_is m nodes env run' r d.wires.irq k) (bits.irq_bit take_irq_is started_is kill_is)

    run_is : Bit ((env k).wires p.wires.run) (run sh pipe k)
    unfolding run
    run_is = from (wire_is m nodes env run' r d.wires.run k) (bits.run_bit valid_is started_is flush_is _ _ take_irq_is)

    through_is : Bit (through_in p (env k)) (through sh pipe k)
    unfolding through
    through_is = bits.through_bit except_is done_is

    ends_is : Bit ((env k).wires p.wires.ends) (ends sh pipe k)
    unfolding ends
    ends_is = from (wire_is m nodes env run' r d.wires.ends k) (bits.ends_bit run_is through_is)

    faulty_is : Bit (faulty_in p (env k)) (faulty sh pipe k)
    unfolding faulty
    faulty_is = bits.faulty_bit except_is trap_is

    wins_is : Bit (wins_in p (env k)) (wins sh pipe k)
    unfolding wins
    wins_is = bits.wins_bit slot_writes_is trap_is

    retires_is : Bit ((env k).wires p.wires.retires) (retires sh pipe k)
    unfolding retires
    retires_is = from (wire_is m nodes env run' r d.wires.retires k) (bits.retires_bit ends_is except_is trap_is)

    traps_is : Bit ((env k).wires p.wires.traps) (traps sh pipe k)
    unfolding traps
    traps_is = from (wire_is m nodes env run' r d.wires.traps k) (bits.traps_bit ends_is faulty_is)

    writes_is : Bit ((env k).wires p.wires.writes) (writes sh pipe k)
    unfolding writes
    writes_is = from (wire_is m nodes env run' r d.wires.writes k) (bits.writes_bit ends_is wins_is)

    enters_is : Bit ((env k).wires p.wires.enters) (enters sh pipe k)
    unfolding enters
    enters_is = from (wire_is m nodes env run' r d.wires.enters k) (bits.enters_bit valid_is through_is)

    takes_is : Bit (takes_in p (env k)) (takes sh pipe k)
    unfolding takes
    takes_is = bits.takes_bit offered_is enters_is (bit_of (hazard_out p (env k) 0) (are k).hold) kill_is stopped_is

    -- ---- the event

    event_is : Bit (event_in p (env k)) (event sh pipe k)
    unfolding event
    event_is = bits.event_bit ends_is irq_is

    fences_is : Bit (fences_in p (env k)) (retires sh pipe k && fence sh pipe k)
    fences_is = bits.fences_bit retires_is fence_is

    tells_is : Bit (tells_in p (env k)) (wins sh pipe k && not (asked sh pipe k))
    tells_is = bits.tells_bit wins_is asked_is

    trap_cause_is : trap_cause_in p (env k) ≡ trap_cause sh pipe k
    unfolding trap_cause except_cause
    trap_cause_is = bits.of_trap_is except_is _ _ ∙ (λ i. cond (pipe.slot k).except (bits.except_cause_is error_is legal_is ((env k).regs p.own.word) i) (cause_is i))

    trap_value_is : trap_value_in p (env k) ≡ trap_value sh pipe k
    unfolding trap_value
    trap_value_is = bits.of_trap_is except_is _ _ ∙ (λ i. cond (pipe.slot k).except (bits.except_value_is error_is legal_is ((env k).regs p.own.pc) ((env k).regs p.own.word) i) (tval_is i))

    base_is : system_out p (env k) 2 ≡ target sh pipe k
    base_is = system_number (env k) p.services.system sh.system fits.system 2

    not_asked : sh.system ≡ false → asked sh pipe k ≡ false
    unfolding asked
    not_asked h = ap (λ b. (b && pipe.system.take_irq k) && not (pipe.started k)) h

    -- ---- the result that is made, and what leaves the tail

    made_is : LateIs (made_late_in p (env k)) (made_late sh pipe k)
    made_is = record { writes = writes_is; rd = refl; value = value_is }

    left_is : LateIs (leaving (env k) (made_late_in p (env k)) p.own.tail) (leaves (made_late sh pipe k) (pipe.tail k))
    left_is = leaving_is m nodes env run' r (made_late_in p) p.own.tail d.tail k _ _ made_is

    front_is : StageIs (front_stage p (env k)) (in_front sh pipe k)
    front_is = record { writes = bits.front_writes_bit valid_is slot_writes_is; rd = refl; ready = done_is; value = value_is }

    stages_are : pipe.hazard.stages k ≡ in_front sh pipe k ∷ places 2 (pipe.tail k)
    stages_are =
        let o = p.services.hazard.1 in
        let first : ahead_at o 0 env k ≡ in_front sh pipe k = ahead_is m nodes env run' r d.hazard.first k (in_front sh pipe k) front_is in
        let rest : ◌≡◌ {A = List Ahead} (ahead_at o 4 env k ∷ ahead_at o 8 env k ∷ []) (places 2 (pipe.tail k)) =
        places_are m nodes env run' r (made_late_in p) p.own.tail d.tail k (ahead_at o 4 env k) (ahead_at o 8 env k)
        (λ x is. ahead_is m nodes env run' r d.hazard.second k x is) (λ x is. ahead_is m nodes env run' r d.hazard.third k x is) in
        λ i. first i ∷ rest i

    -- ---- the item that is offered

    fresh_except_is : Bit (fresh_except_in p (env k)) (fresh_except sh pipe k)
    fresh_except_is = bits.fresh_except_bit (bit_of (fetch_out p (env k) 3) (are k).error) (bit_of (decode_out p (env k) 0) (are k).legal) (decode_out p (env k) 1)

    fresh_writes_is : Bit (fresh_writes_of (decode_out p (env k) 5) (decode_out p (env k) 0) (fetch_out p (env k) 3)) (fresh sh pipe k).writes
    fresh_writes_is = bits.fresh_writes_bit (bit_of (decode_out p (env k) 5) (are k).writes) (bit_of (decode_out p (env k) 0) (are k).legal) (bit_of (fetch_out p (env k) 3) (are k).error)

  -- ---- registers

  slot_number : {reg width : ℕ} {reset : Option ℕ} (f : Env → ℕ) → RegHas m nodes reg width reset (λ e. slot_next p e reg (f e)) → (s : ℕ)
      → (env (suc (suc s))).regs reg ≡ cond (enters sh pipe (suc s)) (f (env (suc s))) ((env (suc s)).regs reg)
  slot_number f h s = next_is m nodes env run' r h s ∙ bits.slot_after_is (enters_is (suc s)) _ _

  slot_bit : {reg : ℕ} {reset : Option ℕ} (f : Env → ℕ) → RegHas m nodes reg 1 reset (λ e. slot_next p e reg (f e)) → (s : ℕ) {b : Bool} → Bit (f (env (suc s))) b
      → eqb ((env (suc (suc s))).regs reg) 1 ≡ cond (enters sh pipe (suc s)) b (eqb ((env (suc s)).regs reg) 1)
  slot_bit f h s is = test_is (from (next_is m nodes env run' r h s) (bits.slot_after_bit (enters_is (suc s)) is (bit_at m nodes env run' r h (suc s))))

  slot_is : (s : ℕ) → pipe.slot (suc (suc s)) ≡ cond (enters sh pipe (suc s)) (fresh sh pipe (suc s)) (pipe.slot (suc s))
  slot_is s =
      let e = enters sh pipe (suc s) in
      let word : (env (suc (suc s))).regs p.own.word ≡ cond e (fresh sh pipe (suc s)).word ((env (suc s)).regs p.own.word) =
      slot_number _ d.slot.word s ∙ ap (λ w. cond e w ((env (suc s)).regs p.own.word)) (bits.fresh_word_is (bit_of (fetch_out p (env (suc s)) 3) (are (suc s)).error) (fetch_out p (env (suc s)) 2)) in
      (λ i. record {
        pc = slot_number _ d.slot.pc s i;
        word = word i;
        error = slot_bit _ d.slot.error s (bit_of (fetch_out p (env (suc s)) 3) (are (suc s)).error) i;
        legal = slot_bit _ d.slot.legal s (bit_of (decode_out p (env (suc s)) 0) (are (suc s)).legal) i;
        row = slot_number _ d.slot.row s i;
        except = slot_bit _ d.slot.except s (fresh_except_is (suc s)) i;
        writes = slot_bit _ d.slot.writes s (fresh_writes_is (suc s)) i;
        a = slot_number _ d.slot.a s i;
        b = slot_number _ d.slot.b s i;
      }) ∙ slot_cond e (fresh sh pipe (suc s)) (pipe.slot (suc s))

  apc_is : (s : ℕ) → pipe.apc (suc (suc s))
      ≡ cond (event sh pipe (suc s)) (cond (asked sh pipe (suc s) || faulty sh pipe (suc s)) (target sh pipe (suc s)) (next_pc sh pipe (suc s))) (pipe.apc (suc s))
  apc_is s =
      next_is m nodes env run' r d.regs.apc s ∙ bits.pc_after_is (event_is (suc s)) (asked_is (suc s)) (faulty_is (suc s)) _ _ _
      ∙ (λ i. cond (event sh pipe (suc s)) (cond (asked sh pipe (suc s) || faulty sh pipe (suc s)) (base_is (suc s) i) (next_pc_is (suc s) i)) (pipe.apc (suc s)))

  -- ---- units

  for_each : (Q : ℕ → Type 0) → ((u : PipeUnit) → DrivesUnit m nodes p u → p.own.chosen u.entry ≡ u.chosen → p.services.exec u.entry ≡ u.ports → Q u.entry)
      → (k : ℕ) → member k sh.entries ≡ true → Q k
  for_each Q h k is = of_entry Q p.units (λ j e l. h _ (d.units j e l) (fits.chosen j e l) (fits.ports j e l)) k (ap (member k) (sym fits.entries) ∙ is)

  chosen_is : (k s : ℕ) → member k sh.entries ≡ true
      → pipe.chosen k (suc (suc s)) ≡ cond (enters sh pipe (suc s)) (eqb (pipe.decode.unit (suc s)) k && not (fresh_except sh pipe (suc s))) (pipe.chosen k (suc s))
  chosen_is k s is = for_each
      (λ e. pipe.chosen e (suc (suc s)) ≡ cond (enters sh pipe (suc s)) (eqb (pipe.decode.unit (suc s)) e && not (fresh_except sh pipe (suc s))) (pipe.chosen e (suc s)))
      (λ u h c o. subst (λ g. eqb ((env (suc (suc s))).regs g) 1 ≡ cond (enters sh pipe (suc s)) (eqb (pipe.decode.unit (suc s)) u.entry && not (fresh_except sh pipe (suc s))) (eqb ((env (suc s)).regs g) 1)) (sym c)
      (slot_bit _ h.chosen s (bits.fresh_chosen_bit (decode_out p (env (suc s)) 2) u.entry (fresh_except_is (suc s))))) k is

  go_is : (k s : ℕ) → member k sh.entries ≡ true → (pipe.unit k).go (suc s) ≡ (cond (sh.commits k) (run sh pipe (suc s)) (pipe.valid (suc s)) && pipe.chosen k (suc s))
  go_is k s is = for_each
      (λ e. (pipe.unit e).go (suc s) ≡ (cond (sh.commits e) (run sh pipe (suc s)) (pipe.valid (suc s)) && pipe.chosen e (suc s)))
      (λ u h c o. subst (λ y. input_bit y 0 env (suc s) ≡ (cond (sh.commits u.entry) (run sh pipe (suc s)) (pipe.valid (suc s)) && pipe.chosen u.entry (suc s))) (sym o)
      (subst (λ g. input_bit u.ports 0 env (suc s) ≡ (cond (sh.commits u.entry) (run sh pipe (suc s)) (pipe.valid (suc s)) && eqb ((env (suc s)).regs g) 1)) (sym c)
      (test_is (from (wire_is m nodes env run' r h.go (suc s)) (bits.go_bit (either_bit (sh.commits u.entry) (run_is (suc s)) (valid_is (suc s))) (bit_at m nodes env run' r h.chosen (suc s))))))) k is

  clear_is : (k s : ℕ) → member k sh.entries ≡ true → (pipe.unit k).clear (suc s) ≡ (not (sh.commits k) && (kill sh pipe (suc s) || irq sh pipe (suc s)))
  clear_is k s is = for_each
      (λ e. (pipe.unit e).clear (suc s) ≡ (not (sh.commits e) && (kill sh pipe (suc s) || irq sh pipe (suc s))))
      (λ u h c o. subst (λ y. input_bit y 6 env (suc s) ≡ (not (sh.commits u.entry) && (kill sh pipe (suc s) || irq sh pipe (suc s)))) (sym o)
      (test_is (from (wire_is m nodes env run' r h.clear (suc s)) (unless_bit (sh.commits u.entry) (bits.clear_bit (kill_is (suc s)) (irq_is (suc s))))))) k is

  -- an input of each unit that is a register of the item in front
  given_is : (place reg : ℕ) → ((u : PipeUnit) → DrivesUnit m nodes p u → InHas m nodes u.ports place (λ e. e.regs reg))
      → (k s : ℕ) → member k sh.entries ≡ true → input_at (p.services.exec k) place env (suc s) ≡ (env (suc s)).regs reg
  given_is place reg has k s is = for_each
      (λ e. input_at (p.services.exec e) place env (suc s) ≡ (env (suc s)).regs reg)
      (λ u h c o. subst (λ y. input_at y place env (suc s) ≡ (env (suc s)).regs reg) (sym o) (wire_is m nodes env run' r (has u h) (suc s))) k is

  -- ---- System

  system_drives : sh.system ≡ true → DrivesSystem m nodes p (or_none (ports_in p.services.system))
  system_drives is = of_system (DrivesSystem m nodes p) p.services.system (sym fits.system ∙ is) d.system

  -- ---- outputs of the core

  told_is : (k : ℕ) → port_event run' k ≡ told sh pipe k
  unfolding port_at told
  told_is k =
      let out = d.outs in
      λ i. record {
        kind = (out_is m nodes env run' r {q = 21} (omega arith) refl out.ev_kind k ∙ kind_told sh.system (asked_is k) (faulty_is k) (not_asked k)) i;
        pc = out_is m nodes env run' r {q = 22} (omega arith) refl out.ev_pc k i;
        word = (out_is m nodes env run' r {q = 23} (omega arith) refl out.ev_word k ∙ bits.told_word_is (asked_is k) _) i;
        rd = (out_is m nodes env run' r {q = 24} (omega arith) refl out.ev_rd k ∙ bits.told_rd_is (tells_is k) _) i;
        value = (out_is m nodes env run' r {q = 25} (omega arith) refl out.ev_value k ∙ bits.told_value_is (tells_is k) _ ∙ ap (λ v. cond (wins sh pipe k && not (asked sh pipe k)) v 0) (value_is k)) i;
        cause = (out_is m nodes env run' r {q = 26} (omega arith) refl out.ev_cause k ∙ bits.told_cause_is (asked_is k) (faulty_is k) _ _
            ∙ ap (λ c. cond (asked sh pipe k) (pipe.system.irq_cause k) (cond (faulty sh pipe k) c 0)) (trap_cause_is k)) i;
      }

  shows_is : (s : ℕ) → has_event run' (suc s) ≡ event sh pipe (suc s)
  unfolding port_at has_event
  shows_is s = test_is (from (out_is m nodes env run' r {q = 20} (omega arith) refl d.outs.ev_valid (suc s)) (event_is (suc s)))

  shows_valid_is : (s : ℕ) → on_port run' fe_valid (suc s) ≡ one_if (pipe.fetch.valid (suc s))
  unfolding port_at
  shows_valid_is s = (from (out_is m nodes env run' r {q = 27} (omega arith) refl d.outs.fe_valid (suc s)) (offered_is (suc s))).is

  take_bit : (s : ℕ) → Bit ((env (suc s)).wires (in_of p.services.fetch.1 0)) (takes sh pipe (suc s))
  take_bit s = from (wire_is m nodes env run' r d.fetch.take (suc s)) (takes_is (suc s))

  shows_take_is : (s : ℕ) → on_port run' fe_take (suc s) ≡ one_if (pipe.fetch.take (suc s))
  unfolding port_at
  shows_take_is s = (from (out_is m nodes env run' r {q = 28} (omega arith) refl d.outs.fe_take (suc s)) (take_bit s)).is ∙ ap one_if (sym (test_is (take_bit s)))

  shows_pc_is : (s : ℕ) → on_port run' fe_pc (suc s) ≡ pipe.fetch.pc (suc s)
  unfolding port_at
  shows_pc_is s = out_is m nodes env run' r {q = 29} (omega arith) refl d.outs.fe_pc (suc s)

  no_data_is : (s : ℕ) → sh.holds ≡ false → (on_port run' db_cmd_valid (suc s) ≡ 0) × (on_port run' db_cmd_write (suc s) ≡ 0)
      × (on_port run' db_cmd_addr (suc s) ≡ 0) × (on_port run' db_cmd_data (suc s) ≡ 0) × (on_port run' db_cmd_mask (suc s) ≡ 0)
  unfolding port_at
  no_data_is s h =
      let bus = d.no_bus h in (
        out_is m nodes env run' r {q = 8} (omega arith) refl bus.cmd_valid (suc s),
        out_is m nodes env run' r {q = 10} (omega arith) refl bus.cmd_write (suc s),
        out_is m nodes env run' r {q = 11} (omega arith) refl bus.cmd_addr (suc s),
        out_is m nodes env run' r {q = 12} (omega arith) refl bus.cmd_data (suc s),
        out_is m nodes env run' r {q = 13} (omega arith) refl bus.cmd_mask (suc s),
      )

  -- ---- the step

  pub steps : Steps sh pipe run'
  steps = record {
    apc_first = first_is m nodes env run' r d.regs.apc;
    flush_first = ap (λ n. eqb n 1) (first_is m nodes env run' r d.regs.flush);
    flush_fence_first = ap (λ n. eqb n 1) (first_is m nodes env run' r d.regs.flush_fence);
    started_first = ap (λ n. eqb n 1) (first_is m nodes env run' r d.regs.started);
    stopped_first = ap (λ n. eqb n 1) (first_is m nodes env run' r d.regs.stopped);
    valid_first = ap (λ n. eqb n 1) (first_is m nodes env run' r d.regs.valid);
    tail_first = idle_first m nodes env run' r (made_late_in p) p.own.tail d.tail;
    we_first = test_is (from (wire_is m nodes env run' r d.decode.we 0) (bits.we_first r.first (left_is 0).writes));
    apc = apc_is;
    flush = λ s. test_is (from (next_is m nodes env run' r d.regs.flush s) (bits.flush_after_bit (irq_is (suc s)) (traps_is (suc s)) (fences_is (suc s))));
    flush_fence = λ s. test_is (from (next_is m nodes env run' r d.regs.flush_fence s) (fences_is (suc s)));
    started = λ s. test_is (from (next_is m nodes env run' r d.regs.started s) (bits.started_after_bit (run_is (suc s)) (ends_is (suc s))));
    stopped = λ s. test_is (from (next_is m nodes env run' r d.regs.stopped s) (unless_bit sh.system (bits.stopped_after_bit (stopped_is (suc s)) (traps_is (suc s)))));
    valid = λ s. test_is (from (next_is m nodes env run' r d.regs.valid s) (bits.valid_after_bit (kill_is (suc s)) (irq_is (suc s)) (takes_is (suc s)) (enters_is (suc s))));
    slot = slot_is;
    chosen = chosen_is;
    tail = λ s. shifts m nodes env run' r (made_late_in p) p.own.tail d.tail s (made_late sh pipe (suc s)) (made_is (suc s));
    tail_long = λ s. ap (λ n. n + 2) (length-map p.own.tail (late_at env (suc s))) ∙ d.long;
    take = λ s. test_is (take_bit s);
    redirect = λ s. test_is (from (wire_is m nodes env run' r d.fetch.redirect (suc s)) (kill_is (suc s)));
    redirect_pc = λ s. wire_is m nodes env run' r d.fetch.redirect_pc (suc s);
    fetch_fence = λ s. test_is (from (wire_is m nodes env run' r d.fetch.fence (suc s)) (bits.fetch_fence_bit (kill_is (suc s)) (flush_fence_is (suc s))));
    word = λ s. wire_is m nodes env run' r d.decode.word (suc s);
    ra = λ s. wire_is m nodes env run' r d.decode.ra (suc s);
    rb = λ s. wire_is m nodes env run' r d.decode.rb (suc s);
    we = λ s. test_is (from (wire_is m nodes env run' r d.decode.we (suc s)) (bits.we_later (r.later s) (left_is (suc s)).writes));
    wa = λ s. wire_is m nodes env run' r d.decode.wa (suc s) ∙ (left_is (suc s)).rd;
    wd = λ s. wire_is m nodes env run' r d.decode.wd (suc s) ∙ (left_is (suc s)).value;
    stages = λ s. stages_are (suc s);
    hazard_ra = λ s. wire_is m nodes env run' r d.hazard.ra (suc s);
    hazard_rb = λ s. wire_is m nodes env run' r d.hazard.rb (suc s);
    hazard_uses_a = λ s. ap (λ n. eqb n 1) (wire_is m nodes env run' r d.hazard.uses_a (suc s));
    hazard_uses_b = λ s. ap (λ n. eqb n 1) (wire_is m nodes env run' r d.hazard.uses_b (suc s));
    go = go_is;
    go_row = given_is 1 p.own.row (λ u h. h.row);
    go_pc = given_is 2 p.own.pc (λ u h. h.pc);
    go_word = given_is 3 p.own.word (λ u h. h.word);
    go_a = given_is 4 p.own.a (λ u h. h.a);
    go_b = given_is 5 p.own.b (λ u h. h.b);
    clear = clear_is;
    sys_event = λ s is. test_is (from (wire_is m nodes env run' r (system_drives is).event (suc s)) (event_is (suc s)));
    sys_kind = λ s is. wire_is m nodes env run' r (system_drives is).kind (suc s) ∙ bits.kind_is (asked_is (suc s)) (faulty_is (suc s));
    sys_pc = λ s is. wire_is m nodes env run' r (system_drives is).pc (suc s);
    sys_cause = λ s is. wire_is m nodes env run' r (system_drives is).cause (suc s) ∙ bits.sys_cause_is (asked_is (suc s)) _ _
        ∙ ap (cond (asked sh pipe (suc s)) (pipe.system.irq_cause (suc s))) (trap_cause_is (suc s));
    sys_tval = λ s is. wire_is m nodes env run' r (system_drives is).tval (suc s) ∙ bits.sys_value_is (asked_is (suc s)) _
        ∙ ap (cond (asked sh pipe (suc s)) 0) (trap_value_is (suc s));
    shows = shows_is;
    tells = λ s. told_is (suc s);
    shows_valid = shows_valid_is;
    shows_take = shows_take_is;
    shows_pc = shows_pc_is;
    no_data = no_data_is;
  }
