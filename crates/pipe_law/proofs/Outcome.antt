-- What the machine does with the item in front.
use Rattle.std.proofs.Common.{◌≡◌, ℕ, Bool, true, false, cond, not, eqb, ◌&&◌, ◌||◌, set, refl, ap, ◌∙◌, sym, subst, arith, Option, Some, None, is_some}
use Rattle.core_words.specs.Fields.{rd_of}
use Rattle.core_words.specs.Values.{bits_of}
use Rattle.bus_law.specs.Memory.{Memory, Store, with_store}
use Rattle.isa_csr.specs.Csrs.{Csrs, trap_entry}
use Rattle.isa_model.specs.Effects.{Effect, Moment}
use Rattle.isa_model.specs.Effects.Effect.{Traps}
use Rattle.isa_model.specs.Machine.{Fetched, Machine, is_interrupt, shown}
use Rattle.isa_model.specs.Machine.Event.{Retire}
use Rattle.isa_model.specs.Run.{is_fence, is_fence_word}
use Rattle.isa_model.specs.Step.{Done, done_of, retire, retirement, trap, with_register}
use Rattle.plug_law.specs.Decode.{is_call}
use Rattle.plug_law.specs.Exec.{HasValue}
use Rattle.plug_law.specs.Fetch.{fetched_as}
use Rattle.plug_law.specs.Outcome.{effect_among, effect_on, outcome_by, source_a, source_b}
use Rattle.plug_law.specs.Pipeline.{Slot, value}
use Rattle.plug_law.specs.Table.{IsTable, Table}
use Rattle.pipe_law.proofs.Basics.{and_no_l, both, cond_false, cond_true, not_false, or_l, or_r, same}
use Rattle.pipe_law.proofs.Registers.{put}

-- the decoding of an item is that of its word
pub record Good (t : Table) (x : Slot) : Type 0 where
  pub blank : x.error ≡ true → (x.word ≡ 0) × (x.writes ≡ false)
  pub none : x.error ≡ false → t.row_of x.word ≡ None → (x.legal ≡ false) × (x.writes ≡ false)
  pub some : x.error ≡ false → (r : ℕ) → t.row_of x.word ≡ Some r → (x.legal ≡ true) × (x.row ≡ r) × (x.writes ≡ (t.has_value r && not (eqb (rd_of x.word) 0)))
  pub except : x.except ≡ (x.error || (not x.legal || is_call x.row))

-- the cause and the value of a trap of the pipeline itself
abbrev pub cause_of : Slot → ℕ
cause_of x = cond x.error 1 (cond x.legal (cond (eqb (bits_of x.word 20 20) 1) 3 11) 2)

abbrev pub tval_of : Slot → ℕ
tval_of x = cond x.error x.pc (cond x.legal 0 x.word)

-- what the machine's step of an item gives, by what the wires say of it
pub record Facts (sys : Bool) (m : Machine) (x : Slot) (tr : Bool) (tcause ttval value next : ℕ) (fence : Bool) (after : Csrs) (write : Option Store) (done : Done) : Type 0 where
  pub told : shown done.event ≡ record { kind = cond tr (cond sys 1 3) 0; pc = m.pc; word = x.word; rd = cond (not tr && x.writes) (rd_of x.word) 0; value = cond (not tr && x.writes) value 0; cause = cond tr tcause 0 }
  pub wrote : done.write ≡ write
  pub plain : is_interrupt done.event ≡ false
  pub fenced : is_fence done.event ≡ true → (not tr && fence) ≡ true
  pub goes : tr ≡ false → done.new.pc ≡ next
  pub enters : tr ≡ true → sys ≡ true → done.new.pc ≡ m.csrs.mtvec
  pub csrs : done.new.csrs ≡ cond tr (cond sys (trap_entry m.csrs m.pc tcause ttval) m.csrs) after
  pub regs : done.new.regs ≡ put (record { writes = not tr && x.writes; rd = rd_of x.word; value = value }) m.regs
  pub memory : done.new.memory ≡ with_store m.memory write
  pub stopped : done.new.stopped ≡ (not sys && tr)

-- of a trap
pub trap_facts : (sys : Bool) (m : Machine) (x : Slot) (tcause ttval value next : ℕ) (fence : Bool) (after : Csrs) (w : Option Store) → m.stopped ≡ false → m.memory ≡ with_store m.memory w
    → Facts sys m x true tcause ttval value next fence after w (trap sys m x.word tcause ttval w)
trap_facts true m x tcause ttval value next fence after w s h = record { told = refl; wrote = refl; plain = refl; fenced = λ e. absurd (grind arith); goes = λ e. absurd (grind arith); enters = λ e f. refl; csrs = refl; regs = refl; memory = h; stopped = s }
trap_facts false m x tcause ttval value next fence after w s h = record { told = refl; wrote = refl; plain = refl; fenced = λ e. absurd (grind arith); goes = λ e. absurd (grind arith); enters = λ e f. absurd (grind arith); csrs = refl; regs = refl; memory = h; stopped = refl }

-- a retirement, by whether it writes a register
retire_by : Bool → Machine → (w v next : ℕ) → Option Store → Csrs → Done
retire_by true m w v next write c = record { event = Retire m.pc w 0 0; write = write; new = record { regs = m.regs; pc = next; csrs = c; memory = with_store m.memory write; stopped = false } }
retire_by false m w v next write c = record { event = Retire m.pc w (rd_of w) v; write = write; new = record { regs = set m.regs (rd_of w) v; pc = next; csrs = c; memory = with_store m.memory write; stopped = false } }

-- a retirement with a value, by the test for register 0
retire_by_is : (z : Bool) (m : Machine) (w v next : ℕ) (write : Option Store) (c : Csrs) → eqb (rd_of w) 0 ≡ z → retire m w (Some v) next write (λ _. c) ≡ retire_by z m w v next write c
unfolding retire_by
retire_by_is z m w v next write c h = by_test (eqb (rd_of w) 0) z h
  where
    by_test : (y z : Bool) → y ≡ z → (let put : Option ℕ = elim y [ true ↦ None | false ↦ Some v ] in
        let d : Done = record { event = retirement m w (rd_of w) put; write = write; new = record { regs = with_register m.regs (rd_of w) put; pc = next; csrs = c; memory = with_store m.memory write; stopped = false } } in d)
        ≡ retire_by z m w v next write c
    by_test true true h = refl
    by_test false false h = refl
    by_test true false h = absurd (grind arith)
    by_test false true h = absurd (grind arith)

-- of such a retirement
by_facts : (z : Bool) (sys : Bool) (m : Machine) (x : Slot) (tcause ttval value next : ℕ) (fence : Bool) (write : Option Store) (c : Csrs) → x.writes ≡ not z → fence ≡ is_fence_word x.word
    → Facts sys m x false tcause ttval value next fence c write (retire_by z m x.word value next write c)
unfolding retire_by
by_facts true sys m x tcause ttval value next fence write c hw hf = record {
  told = λ i. record { kind = 0; pc = m.pc; word = x.word; rd = cond (sym hw i) (rd_of x.word) 0; value = cond (sym hw i) value 0; cause = 0 };
  wrote = refl;
  plain = refl;
  fenced = λ e. hf ∙ e;
  goes = λ e. refl;
  enters = λ e. absurd (grind arith);
  csrs = refl;
  regs = sym (ap (λ b. put (record { writes = b; rd = rd_of x.word; value = value }) m.regs) hw);
  memory = refl;
  stopped = off sys;
}
  where
    off : (b : Bool) → false ≡ (not b && false)
    off true = refl
    off false = refl
by_facts false sys m x tcause ttval value next fence write c hw hf = record {
  told = λ i. record { kind = 0; pc = m.pc; word = x.word; rd = cond (sym hw i) (rd_of x.word) 0; value = cond (sym hw i) value 0; cause = 0 };
  wrote = refl;
  plain = refl;
  fenced = λ e. hf ∙ e;
  goes = λ e. refl;
  enters = λ e. absurd (grind arith);
  csrs = refl;
  regs = sym (ap (λ b. put (record { writes = b; rd = rd_of x.word; value = value }) m.regs) hw);
  memory = refl;
  stopped = off sys;
}
  where
    off : (b : Bool) → false ≡ (not b && false)
    off true = refl
    off false = refl

-- a retirement without a value
nothing_facts : (sys : Bool) (m : Machine) (x : Slot) (tcause ttval value next : ℕ) (fence : Bool) (write : Option Store) (c : Csrs) → x.writes ≡ false → fence ≡ is_fence_word x.word
    → Facts sys m x false tcause ttval value next fence c write (retire m x.word None next write (λ _. c))
nothing_facts sys m x tcause ttval value next fence write c hw hf = record {
  told = λ i. record { kind = 0; pc = m.pc; word = x.word; rd = cond (sym hw i) (rd_of x.word) 0; value = cond (sym hw i) value 0; cause = 0 };
  wrote = refl;
  plain = refl;
  fenced = λ e. hf ∙ e;
  goes = λ e. refl;
  enters = λ e. absurd (grind arith);
  csrs = refl;
  regs = sym (ap (λ b. put (record { writes = b; rd = rd_of x.word; value = value }) m.regs) hw);
  memory = refl;
  stopped = off sys;
}
  where
    off : (b : Bool) → false ≡ (not b && false)
    off true = refl
    off false = refl

-- of any retirement
pub retire_facts : (sys : Bool) (m : Machine) (x : Slot) (tcause ttval value next : ℕ) (fence : Bool) (v : Option ℕ) (write : Option Store) (c : Csrs)
    → HasValue v value → x.writes ≡ (is_some v && not (eqb (rd_of x.word) 0)) → fence ≡ is_fence_word x.word
    → Facts sys m x false tcause ttval value next fence c write (retire m x.word v next write (λ _. c))
retire_facts sys m x tcause ttval value next fence None write c hv hw hf = nothing_facts sys m x tcause ttval value next fence write c hw hf
retire_facts sys m x tcause ttval value next fence (Some u) write c hv hw hf =
    subst (λ d. Facts sys m x false tcause ttval value next fence c write d)
    (sym (retire_by_is (eqb (rd_of x.word) 0) m x.word value next write c refl) ∙ ap (λ y. retire m x.word (Some y) next write (λ _. c)) hv)
    (by_facts (eqb (rd_of x.word) 0) sys m x tcause ttval value next fence write c hw hf)

module _ (system : Bool) (t : Table) (table : IsTable t) (m : Machine) (x : Slot) (o : Moment) (good : Good t x) where
  abbrev fetched : Fetched
  fetched = fetched_as x.error x.word

  -- ---- traps of the pipeline itself

  -- an access fault of the fetch traps
  error_trap : x.error ≡ true → x.pc ≡ m.pc → outcome_by system t m fetched o ≡ Some (trap system m x.word (cause_of x) (tval_of x) None)
  unfolding outcome_by
  error_trap e q =
      ap (λ b. outcome_by system t m (fetched_as b x.word) o) e
      ∙ (λ i. Some (trap system m (sym (good.blank e).0 i) (sym (cond_true x.error 1 (cond x.legal (cond (eqb (bits_of x.word 20 20) 1) 3 11) 2) e) i) (sym (cond_true x.error x.pc (cond x.legal 0 x.word) e ∙ q) i) None))

  -- what the machine does with a word is what its row does
  word_outcome : (r : Option ℕ) → x.error ≡ false → t.row_of x.word ≡ r → outcome_by system t m fetched o ≡ done_of system m x.word (effect_among t m x.word o r)
  unfolding outcome_by
  word_outcome r e z = ap (λ b. outcome_by system t m (fetched_as b x.word) o) e ∙ ap (λ y. done_of system m x.word (effect_among t m x.word o y)) z

  -- with a word of no row it traps
  illegal_trap : x.error ≡ false → t.row_of x.word ≡ None → outcome_by system t m fetched o ≡ Some (trap system m x.word (cause_of x) (tval_of x) None)
  illegal_trap e r =
      let l = (good.none e r).0 in
      word_outcome None e r
      ∙ (λ i. Some (trap system m x.word
      (sym (cond_false x.error 1 (cond x.legal (cond (eqb (bits_of x.word 20 20) 1) 3 11) 2) e ∙ cond_false x.legal (cond (eqb (bits_of x.word 20 20) 1) 3 11) 2 l) i)
      (sym (cond_false x.error x.pc (cond x.legal 0 x.word) e ∙ cond_false x.legal 0 x.word l) i) None))

  -- bit 20 of the word tells ECALL and EBREAK apart
  call_effect : (a b : Bool) → eqb x.row 38 ≡ a → eqb x.row 39 ≡ b → (a || b) ≡ true → t.row_of x.word ≡ Some x.row → (w pc ra rb : ℕ) (mem : Memory) (c : Csrs)
      → t.effect x.row pc w ra rb mem c o ≡ Traps (cond (eqb (bits_of x.word 20 20) 1) 3 11) 0 None
  call_effect a true ha hb h z w pc ra rb mem c =
      let r : x.row ≡ 39 = same x.row 39 hb in
      ap (λ r. t.effect r pc w ra rb mem c o) r ∙ table.ebreak pc w ra rb mem c o
      ∙ (λ i. Traps (cond (eqb (sym (table.ebreak_word x.word (z ∙ ap Some r)) i) 1) 3 11) 0 None)
  call_effect true false ha hb h z w pc ra rb mem c =
      let r : x.row ≡ 38 = same x.row 38 ha in
      ap (λ r. t.effect r pc w ra rb mem c o) r ∙ table.ecall pc w ra rb mem c o
      ∙ (λ i. Traps (cond (eqb (sym (table.ecall_word x.word (z ∙ ap Some r)) i) 1) 3 11) 0 None)
  call_effect false false ha hb h z w pc ra rb mem c = absurd (grind arith)

  -- with ECALL and EBREAK too
  call_trap : (r : ℕ) → x.error ≡ false → t.row_of x.word ≡ Some r → is_call x.row ≡ true → outcome_by system t m fetched o ≡ Some (trap system m x.word (cause_of x) (tval_of x) None)
  call_trap r e z h =
      let g = good.some e r z in
      word_outcome (Some r) e z
      ∙ ap (done_of system m x.word) (ap (λ k. effect_on t m k x.word o) (sym g.1) ∙ call_effect (eqb x.row 38) (eqb x.row 39) refl refl h (z ∙ ap Some (sym g.1)) x.word m.pc (source_a m x.word) (source_b m x.word) m.memory m.csrs)
      ∙ (λ i. Some (trap system m x.word
      (sym (cond_false x.error 1 (cond x.legal (cond (eqb (bits_of x.word 20 20) 1) 3 11) 2) e ∙ cond_true x.legal (cond (eqb (bits_of x.word 20 20) 1) 3 11) 2 g.0) i)
      (sym (cond_false x.error x.pc (cond x.legal 0 x.word) e ∙ cond_true x.legal 0 x.word g.0) i) None))

  -- an item that the pipeline traps is faulty, illegal or a call
  excepted : x.except ≡ true → (x.error || (not x.legal || is_call x.row)) ≡ true
  excepted h = sym good.except ∙ h

  -- the machine traps it too
  except_by : (b : Bool) (r : Option ℕ) → x.error ≡ b → t.row_of x.word ≡ r → x.except ≡ true → x.pc ≡ m.pc → outcome_by system t m fetched o ≡ Some (trap system m x.word (cause_of x) (tval_of x) None)
  except_by true r e z h q = error_trap e q
  except_by false None e z h q = illegal_trap e z
  except_by false (Some r) e z h q =
      call_trap r e z (sym (ap (λ b. b || (not x.legal || is_call x.row)) e ∙ ap (λ b. not b || is_call x.row) (good.some e r z).0) ∙ excepted h)

  -- with the same cause and mtval
  pub except_outcome : x.except ≡ true → x.pc ≡ m.pc → outcome_by system t m fetched o ≡ Some (trap system m x.word (cause_of x) (tval_of x) None)
  except_outcome = except_by x.error (t.row_of x.word) refl refl

  -- what the pipeline traps writes no register
  call_value : (r : ℕ) (a b : Bool) → eqb r 38 ≡ a → eqb r 39 ≡ b → (a || b) ≡ true → t.has_value r ≡ false
  call_value r a true ha hb h = ap t.has_value (same r 39 hb) ∙ table.calls.1
  call_value r true false ha hb h = ap t.has_value (same r 38 ha) ∙ table.calls.0
  call_value r false false ha hb h = absurd (grind arith)

  -- such an item writes no register
  except_writes_by : (b : Bool) (r : Option ℕ) → x.error ≡ b → t.row_of x.word ≡ r → x.except ≡ true → x.writes ≡ false
  except_writes_by true r e z h = (good.blank e).1
  except_writes_by false None e z h = (good.none e z).1
  except_writes_by false (Some r) e z h =
      let g = good.some e r z in
      let c : is_call r ≡ true = ap is_call (sym g.1) ∙ sym (ap (λ b. b || (not x.legal || is_call x.row)) e ∙ ap (λ b. not b || is_call x.row) g.0) ∙ excepted h in
      g.2 ∙ and_no_l (t.has_value r) (not (eqb (rd_of x.word) 0)) (call_value r (eqb r 38) (eqb r 39) refl refl c)

  -- whatever its word
  pub except_writes : x.except ≡ true → x.writes ≡ false
  except_writes = except_writes_by x.error (t.row_of x.word) refl refl

  -- ---- an item of a unit

  -- an item of a unit was fetched, has a row, and is no call
  pub not_excepted : x.except ≡ false → (x.error ≡ false) × (x.legal ≡ true) × (is_call x.row ≡ false)
  not_excepted h =
      let z : (x.error || (not x.legal || is_call x.row)) ≡ false = sym good.except ∙ h in
      let r = or_r x.error (not x.legal || is_call x.row) z in
      (or_l x.error (not x.legal || is_call x.row) z, not_false x.legal (or_l (not x.legal) (is_call x.row) r), or_r (not x.legal) (is_call x.row) r)

  -- an item of a unit has a row
  row_by : (r : Option ℕ) → t.row_of x.word ≡ r → x.except ≡ false → t.row_of x.word ≡ Some x.row
  row_by None z h = let n = not_excepted h in both x.legal n.1 (good.none n.0 z).0
  row_by (Some r) z h = z ∙ ap Some (sym (good.some (not_excepted h).0 r z).1)

  -- and it is the one that Decoder named
  pub row_is : x.except ≡ false → t.row_of x.word ≡ Some x.row
  row_is = row_by (t.row_of x.word) refl

  -- what the machine does with it is the row's effect
  pub unit_outcome : (e : Effect) → x.except ≡ false → effect_on t m x.row x.word o ≡ e → outcome_by system t m fetched o ≡ done_of system m x.word e
  unit_outcome e h q = word_outcome (Some x.row) (not_excepted h).0 (row_is h) ∙ ap (done_of system m x.word) q

-- the effect at the operands is that at the machine's registers
pub same_effect : (t : Table) (table : IsTable t) (m : Machine) (x : Slot) (o : Moment) → x.pc ≡ m.pc
    → (t.uses_a x.row ≡ true → x.a ≡ source_a m x.word) → (t.uses_b x.row ≡ true → x.b ≡ source_b m x.word)
    → t.effect x.row x.pc x.word x.a x.b m.memory m.csrs o ≡ effect_on t m x.row x.word o
same_effect t table m x o q ha hb =
    ap (λ c. t.effect x.row c x.word x.a x.b m.memory m.csrs o) q
    ∙ by_a (t.uses_a x.row) refl ∙ by_b (t.uses_b x.row) refl
  where
    by_a : (u : Bool) → t.uses_a x.row ≡ u → t.effect x.row m.pc x.word x.a x.b m.memory m.csrs o ≡ t.effect x.row m.pc x.word (source_a m x.word) x.b m.memory m.csrs o
    by_a true u = ap (λ c. t.effect x.row m.pc x.word c x.b m.memory m.csrs o) (ha u)
    by_a false u = table.a x.row m.pc x.word x.a (source_a m x.word) x.b m.memory m.csrs o u

    by_b : (u : Bool) → t.uses_b x.row ≡ u → t.effect x.row m.pc x.word (source_a m x.word) x.b m.memory m.csrs o ≡ t.effect x.row m.pc x.word (source_a m x.word) (source_b m x.word) m.memory m.csrs o
    by_b true u = ap (λ c. t.effect x.row m.pc x.word (source_a m x.word) c m.memory m.csrs o) (hb u)
    by_b false u = table.b x.row m.pc x.word (source_a m x.word) x.b (source_b m x.word) m.memory m.csrs o u
