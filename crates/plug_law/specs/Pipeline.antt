-- The pipeline that commits in execute: an equation for each register, for each input of a part and for each output of the
-- core. An item goes from Fetch through decode into the one stage that executes and commits, and its result through the
-- stages behind that into the registers. The equations hold in every run, also where a bus is not honest.
use Rattle.std.specs.Prelude.{◌≡◌, ℕ, zero, suc, ◌+◌, Bool, true, false, cond, not, eqb, List, [], ◌∷◌, ◌&&◌, ◌||◌, length, bit_or}
use Rattle.core_words.specs.Values.{one_if, bits_of}
use Rattle.core_words.specs.Fields.{rd_of, rs1_of, rs2_of}
use Rattle.core_ports.specs.Ports.{db_cmd_valid, db_cmd_write, db_cmd_addr, db_cmd_data, db_cmd_mask, fe_valid, fe_take, fe_pc}
use Rattle.core_ports.specs.Trace.{Trace, PortEvent, on_port, has_event, port_event}
use Rattle.plug_law.specs.Fetch.{FetchSignals}
use Rattle.plug_law.specs.Exec.{ExecSignals}
use Rattle.plug_law.specs.System.{SystemSignals}
use Rattle.plug_law.specs.Decode.{DecodeSignals, is_call}
use Rattle.plug_law.specs.RegFile.{RegSignals}
use Rattle.plug_law.specs.Hazard.{HazardSignals, Ahead}

-- an item as it was decoded
pub record Slot : Type 0 where
  pub pc : ℕ
  pub word : ℕ
  -- fetching it met an access fault
  pub error : Bool
  -- its word has a row
  pub legal : Bool
  pub row : ℕ
  -- no unit executes it: it traps by an access fault, as illegal, or as ECALL or EBREAK
  pub except : Bool
  -- it writes register rd where it retires
  pub writes : Bool
  -- the values of registers rs1 and rs2
  pub a : ℕ
  pub b : ℕ

-- a result on its way to the registers
pub record Late : Type 0 where
  pub writes : Bool
  pub rd : ℕ
  pub value : ℕ

-- the pipeline's registers by cycle, and the ports of its parts
pub record Pipe : Type 0 where
  -- the pc of the instruction that comes next in the program
  pub apc : ℕ → ℕ
  -- what has been fetched must go, whatever its pc; and words read before a FENCE.I must go too
  pub flush : ℕ → Bool
  pub flush_fence : ℕ → Bool
  -- the item in the stage that executes has been there for a cycle, and cannot be given up any more
  pub started : ℕ → Bool
  -- a core without System has trapped: it takes nothing more
  pub stopped : ℕ → Bool
  -- there is an item in the stage that executes, and the item
  pub valid : ℕ → Bool
  pub slot : ℕ → Slot
  -- the entry that executes it
  pub chosen : (entry t : ℕ) → Bool
  -- the results behind that stage, the youngest first
  pub tail : ℕ → List Late
  pub fetch : FetchSignals
  pub decode : DecodeSignals
  pub regs : RegSignals
  pub hazard : HazardSignals
  pub unit : (entry : ℕ) → ExecSignals
  pub system : SystemSignals

-- what is laid down of a pipeline before it runs
pub record Shape : Type 0 where
  -- the entries that offer Exec, and which of them work in the stage that commits
  pub entries : List ℕ
  pub commits : (entry : ℕ) → Bool
  -- some entry offers System, and some offers DataBus
  pub system : Bool
  pub holds : Bool
  -- the pc out of reset
  pub reset_pc : ℕ
  -- 2 to 4: decode, the stage that executes, and those behind it
  pub stages : ℕ

-- no result is on its way
abbrev pub Idle : List Late → Type 0
Idle [] = Unit {0}
Idle (x ∷ xs) = (x.writes ≡ false) × Idle xs

-- each result moves a stage on: the results behind, where a new one enters
abbrev pub shift : Late → List Late → List Late
shift new [] = []
shift new (x ∷ xs) = new ∷ shift x xs

-- and the one that leaves for the registers
abbrev pub leaves : Late → List Late → Late
leaves new [] = new
leaves new (x ∷ xs) = leaves x xs

-- the results in a number of Hazard's stages; where the pipeline has no stage nothing writes
abbrev pub places : ℕ → List Late → List Ahead
places zero xs = []
places (suc n) [] = record { writes = false; rd = 0; ready = false; value = 0 } ∷ places n []
places (suc n) (x ∷ xs) = record { writes = x.writes; rd = x.rd; ready = true; value = x.value } ∷ places n xs

-- some entry is done
abbrev pub any_done : (ℕ → Bool) → List ℕ → Bool
any_done done [] = false
any_done done (k ∷ ks) = done k || any_done done ks

abbrev pub member : ℕ → List ℕ → Bool
member k [] = false
member k (x ∷ xs) = eqb x k || member k xs

-- an output of the entry that is chosen: each is masked, and all are joined by or
abbrev pub gather : (chosen : ℕ → Bool) → List ℕ → (ℕ → ℕ) → ℕ
gather chosen [] f = 0
gather chosen (k ∷ ks) f = bit_or (cond (chosen k) (f k) 0) (gather chosen ks f)

abbrev pub gather_bit : (chosen : ℕ → Bool) → List ℕ → (ℕ → Bool) → Bool
gather_bit chosen [] f = false
gather_bit chosen (k ∷ ks) f = (chosen k && f k) || gather_bit chosen ks f

module _ (sh : Shape) (p : Pipe) where
  -- ---- wires

  abbrev pub chosen_at : ℕ → ℕ → Bool
  chosen_at t k = p.chosen k t

  -- an interrupt is to be taken; without System none is
  abbrev pub take_irq : ℕ → Bool
  take_irq t = sh.system && p.system.take_irq t

  -- a pc is not that of the next instruction
  abbrev pub wrong : ℕ → ℕ → Bool
  wrong t pc = not (eqb pc (p.apc t))

  -- what has been fetched must go: it is not on the program's path, or was fetched too early
  unfoldable pub kill : ℕ → Bool
  kill t = p.flush t || cond (p.valid t) (wrong t (p.slot t).pc) (p.fetch.valid t && wrong t (p.fetch.pc t))

  -- an interrupt is taken: between two instructions, never inside of one
  unfoldable pub irq : ℕ → Bool
  irq t = take_irq t && (not (p.started t) && not (kill t))

  -- the item in front executes
  unfoldable pub run : ℕ → Bool
  run t = p.valid t && (p.started t || not (p.flush t || (wrong t (p.slot t).pc || take_irq t)))

  -- some unit is done
  unfoldable pub finished : ℕ → Bool
  finished t = any_done (λ k. (p.unit k).done t) sh.entries

  -- the outputs of the chosen unit
  unfoldable pub value : ℕ → ℕ
  value t = gather (chosen_at t) sh.entries (λ k. (p.unit k).value t)

  unfoldable pub next_pc : ℕ → ℕ
  next_pc t = gather (chosen_at t) sh.entries (λ k. (p.unit k).next_pc t)

  unfoldable pub cause : ℕ → ℕ
  cause t = gather (chosen_at t) sh.entries (λ k. (p.unit k).cause t)

  unfoldable pub tval : ℕ → ℕ
  tval t = gather (chosen_at t) sh.entries (λ k. (p.unit k).tval t)

  unfoldable pub trap : ℕ → Bool
  trap t = gather_bit (chosen_at t) sh.entries (λ k. (p.unit k).trap t)

  unfoldable pub fence : ℕ → Bool
  fence t = gather_bit (chosen_at t) sh.entries (λ k. (p.unit k).fence t)

  -- the item in front needs no more cycles
  unfoldable pub through : ℕ → Bool
  through t = (p.slot t).except || finished t

  -- it retires or traps in this cycle
  unfoldable pub ends : ℕ → Bool
  ends t = run t && through t

  -- the event of this cycle, if there is one, is an interrupt
  unfoldable pub asked : ℕ → Bool
  asked t = take_irq t && not (p.started t)

  -- it is a trap, if the item in front ends
  unfoldable pub faulty : ℕ → Bool
  faulty t = (p.slot t).except || trap t

  -- the item in front writes its register, if it ends
  unfoldable pub wins : ℕ → Bool
  wins t = (p.slot t).writes && not (trap t)

  -- the item in front traps, or retires, in this cycle
  unfoldable pub traps : ℕ → Bool
  traps t = ends t && faulty t

  unfoldable pub retires : ℕ → Bool
  retires t = ends t && (not (p.slot t).except && not (trap t))

  -- it writes a register
  unfoldable pub writes : ℕ → Bool
  writes t = ends t && wins t

  -- the next item may enter the stage that executes
  unfoldable pub enters : ℕ → Bool
  enters t = not (p.valid t) || through t

  -- the causes of the pipeline's own traps: an access fault of the fetch, an illegal instruction, EBREAK and ECALL
  unfoldable pub except_cause : ℕ → ℕ
  except_cause t = cond (p.slot t).error 1 (cond (p.slot t).legal (cond (eqb (bits_of (p.slot t).word 20 20) 1) 3 11) 2)

  -- cause and mtval of a trap of the item in front
  unfoldable pub trap_cause : ℕ → ℕ
  trap_cause t = cond (p.slot t).except (except_cause t) (cause t)

  unfoldable pub trap_value : ℕ → ℕ
  trap_value t = cond (p.slot t).except (cond (p.slot t).error (p.slot t).pc (cond (p.slot t).legal 0 (p.slot t).word)) (tval t)

  -- Fetch's item is taken
  unfoldable pub takes : ℕ → Bool
  takes t = (p.fetch.valid t && enters t) && (not (p.hazard.hold t) && (not (kill t) && not (p.stopped t)))

  -- Fetch's item as it is decoded in this cycle
  abbrev pub fresh_except : ℕ → Bool
  fresh_except t = p.fetch.error t || (not (p.decode.legal t) || is_call (p.decode.row t))

  abbrev pub fresh : ℕ → Slot
  fresh t = record {
    pc = p.fetch.pc t;
    word = cond (p.fetch.error t) 0 (p.fetch.word t);
    error = p.fetch.error t;
    legal = p.decode.legal t;
    row = p.decode.row t;
    except = fresh_except t;
    writes = p.decode.writes t && (p.decode.legal t && not (p.fetch.error t));
    a = p.hazard.a t;
    b = p.hazard.b t;
  }

  -- the result that leaves the stage that executes
  abbrev pub made_late : ℕ → Late
  made_late t = record { writes = writes t; rd = rd_of (p.slot t).word; value = value t }

  -- that stage as Hazard sees it
  abbrev pub in_front : ℕ → Ahead
  in_front t = record { writes = p.valid t && (p.slot t).writes; rd = rd_of (p.slot t).word; ready = finished t; value = value t }

  -- where a trap or an interrupt goes on; without System at 0, and the core stops
  abbrev pub target : ℕ → ℕ
  target t = cond sh.system (p.system.base t) 0

  -- there is an event: the item in front ends, or an interrupt is taken
  unfoldable pub event : ℕ → Bool
  event t = ends t || irq t

  -- the event on the core's ports: a retirement (0), a trap (1, without System 3) or an interrupt (2)
  unfoldable pub told : ℕ → PortEvent
  told t = record {
    kind = cond (asked t) 2 (cond (faulty t) (cond sh.system 1 3) 0);
    pc = p.apc t;
    word = cond (asked t) 0 (p.slot t).word;
    rd = cond (wins t && not (asked t)) (rd_of (p.slot t).word) 0;
    value = cond (wins t && not (asked t)) (value t) 0;
    cause = cond (asked t) (p.system.irq_cause t) (cond (faulty t) (trap_cause t) 0);
  }

  -- ---- the step: run' is what the core shows on its ports
  pub record Steps (run' : Trace) : Type 0 where
    -- out of reset, as cycle 1 begins; in cycle 0 no register is written
    pub apc_first : p.apc 1 ≡ sh.reset_pc
    pub flush_first : p.flush 1 ≡ false
    pub flush_fence_first : p.flush_fence 1 ≡ false
    pub started_first : p.started 1 ≡ false
    pub stopped_first : p.stopped 1 ≡ false
    pub valid_first : p.valid 1 ≡ false
    pub tail_first : Idle (p.tail 1)
    pub we_first : p.regs.we 0 ≡ false
    -- the program's pc moves at each event: to the handler, or to where the instruction says
    pub apc : (s : ℕ) → p.apc (suc (suc s)) ≡ cond (event (suc s)) (cond (asked (suc s) || faulty (suc s)) (target (suc s)) (next_pc (suc s))) (p.apc (suc s))
    -- a trap, an interrupt and a FENCE.I flush
    pub flush : (s : ℕ) → p.flush (suc (suc s)) ≡ (irq (suc s) || (traps (suc s) || (retires (suc s) && fence (suc s))))
    pub flush_fence : (s : ℕ) → p.flush_fence (suc (suc s)) ≡ (retires (suc s) && fence (suc s))
    pub started : (s : ℕ) → p.started (suc (suc s)) ≡ (run (suc s) && not (ends (suc s)))
    pub stopped : (s : ℕ) → p.stopped (suc (suc s)) ≡ (not sh.system && (p.stopped (suc s) || traps (suc s)))
    -- the item in front goes where it is killed, where an interrupt is taken and where it ends
    pub valid : (s : ℕ) → p.valid (suc (suc s)) ≡ (not (kill (suc s) || irq (suc s)) && (takes (suc s) || not (enters (suc s))))
    pub slot : (s : ℕ) → p.slot (suc (suc s)) ≡ cond (enters (suc s)) (fresh (suc s)) (p.slot (suc s))
    pub chosen : (k s : ℕ) → member k sh.entries ≡ true → p.chosen k (suc (suc s)) ≡ cond (enters (suc s)) (eqb (p.decode.unit (suc s)) k && not (fresh_except (suc s))) (p.chosen k (suc s))
    pub tail : (s : ℕ) → p.tail (suc (suc s)) ≡ shift (made_late (suc s)) (p.tail (suc s))
    pub tail_long : (s : ℕ) → length (p.tail (suc s)) + 2 ≡ sh.stages
    -- inputs of Fetch: a kill redirects it to the program's pc
    pub take : (s : ℕ) → p.fetch.take (suc s) ≡ takes (suc s)
    pub redirect : (s : ℕ) → p.fetch.redirect (suc s) ≡ kill (suc s)
    pub redirect_pc : (s : ℕ) → p.fetch.redirect_pc (suc s) ≡ p.apc (suc s)
    pub fetch_fence : (s : ℕ) → p.fetch.fence (suc s) ≡ (kill (suc s) && p.flush_fence (suc s))
    -- of Decoder, RegFile and Hazard: Fetch's word in the same cycle
    pub word : (s : ℕ) → p.decode.word (suc s) ≡ p.fetch.word (suc s)
    pub ra : (s : ℕ) → p.regs.ra (suc s) ≡ rs1_of (p.fetch.word (suc s))
    pub rb : (s : ℕ) → p.regs.rb (suc s) ≡ rs2_of (p.fetch.word (suc s))
    pub we : (s : ℕ) → p.regs.we (suc s) ≡ (leaves (made_late (suc s)) (p.tail (suc s))).writes
    pub wa : (s : ℕ) → p.regs.wa (suc s) ≡ (leaves (made_late (suc s)) (p.tail (suc s))).rd
    pub wd : (s : ℕ) → p.regs.wd (suc s) ≡ (leaves (made_late (suc s)) (p.tail (suc s))).value
    pub stages : (s : ℕ) → p.hazard.stages (suc s) ≡ in_front (suc s) ∷ places 2 (p.tail (suc s))
    pub hazard_ra : (s : ℕ) → p.hazard.ra (suc s) ≡ rs1_of (p.fetch.word (suc s))
    pub hazard_rb : (s : ℕ) → p.hazard.rb (suc s) ≡ rs2_of (p.fetch.word (suc s))
    pub hazard_uses_a : (s : ℕ) → p.hazard.uses_a (suc s) ≡ p.decode.uses_a (suc s)
    pub hazard_uses_b : (s : ℕ) → p.hazard.uses_b (suc s) ≡ p.decode.uses_b (suc s)
    -- of the units: one that commits starts only an item that is sure to end, another may begin early and be cleared
    pub go : (k s : ℕ) → member k sh.entries ≡ true → (p.unit k).go (suc s) ≡ (cond (sh.commits k) (run (suc s)) (p.valid (suc s)) && p.chosen k (suc s))
    pub go_row : (k s : ℕ) → member k sh.entries ≡ true → (p.unit k).row (suc s) ≡ (p.slot (suc s)).row
    pub go_pc : (k s : ℕ) → member k sh.entries ≡ true → (p.unit k).pc (suc s) ≡ (p.slot (suc s)).pc
    pub go_word : (k s : ℕ) → member k sh.entries ≡ true → (p.unit k).word (suc s) ≡ (p.slot (suc s)).word
    pub go_a : (k s : ℕ) → member k sh.entries ≡ true → (p.unit k).a (suc s) ≡ (p.slot (suc s)).a
    pub go_b : (k s : ℕ) → member k sh.entries ≡ true → (p.unit k).b (suc s) ≡ (p.slot (suc s)).b
    pub clear : (k s : ℕ) → member k sh.entries ≡ true → (p.unit k).clear (suc s) ≡ (not (sh.commits k) && (kill (suc s) || irq (suc s)))
    -- of System: the event
    pub sys_event : (s : ℕ) → sh.system ≡ true → p.system.event (suc s) ≡ event (suc s)
    pub sys_kind : (s : ℕ) → sh.system ≡ true → p.system.kind (suc s) ≡ cond (asked (suc s)) 2 (cond (faulty (suc s)) 1 0)
    pub sys_pc : (s : ℕ) → sh.system ≡ true → p.system.pc (suc s) ≡ p.apc (suc s)
    pub sys_cause : (s : ℕ) → sh.system ≡ true → p.system.cause (suc s) ≡ cond (asked (suc s)) (p.system.irq_cause (suc s)) (trap_cause (suc s))
    pub sys_tval : (s : ℕ) → sh.system ≡ true → p.system.tval (suc s) ≡ cond (asked (suc s)) 0 (trap_value (suc s))
    -- outputs of the core: events, and what Fetch offers; the data bus is its part's, and without one it is at rest
    pub shows : (s : ℕ) → has_event run' (suc s) ≡ event (suc s)
    pub tells : (s : ℕ) → port_event run' (suc s) ≡ told (suc s)
    pub shows_valid : (s : ℕ) → on_port run' fe_valid (suc s) ≡ one_if (p.fetch.valid (suc s))
    pub shows_take : (s : ℕ) → on_port run' fe_take (suc s) ≡ one_if (p.fetch.take (suc s))
    pub shows_pc : (s : ℕ) → on_port run' fe_pc (suc s) ≡ p.fetch.pc (suc s)
    pub no_data : (s : ℕ) → sh.holds ≡ false → (on_port run' db_cmd_valid (suc s) ≡ 0) × (on_port run' db_cmd_write (suc s) ≡ 0)
        × (on_port run' db_cmd_addr (suc s) ≡ 0) × (on_port run' db_cmd_data (suc s) ≡ 0) × (on_port run' db_cmd_mask (suc s) ≡ 0)
