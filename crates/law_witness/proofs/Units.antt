-- The units and System keep their laws, and the data bus is honest.
use Rattle.std.proofs.Common.{◌≡◌, ℕ, zero, suc, ◌+◌, ◌%◌, ◌<◌, ◌≤◌, Bool, true, false, cond, not, eqb, [], ◌∷◌, ◌&&◌, ◌⊎◌, inl, inr, set, refl, ap, ◌∙◌, sym, subst, arith, Option, Some, None, is_some}
use Rattle.std.specs.Prelude.{option_to_list}
use Rattle.std.proofs.Math.Nat.{le_refl}
use Rattle.core_words.specs.Fields.{rd_of}
use Rattle.core_ports.specs.Trace.{Bus}
use Rattle.bus_law.specs.Duties.{KeepsDuties, breaks_form, breaks_standing, breaks_waiting, is_mask, is_repeated}
use Rattle.bus_law.specs.Honest.{DataReply, IsHonestAt, Responds, data_reply}
use Rattle.bus_law.specs.Memory.{Memory, is_window, word_at}
use Rattle.bus_law.specs.Prompt.{IsPrompt, store_at}
use Rattle.bus_law.specs.Protocol.{is_accepted, is_given, is_write, memory_at, owed}
use Rattle.isa_table.specs.Rows.{Action}
use Rattle.isa_csr.specs.Csrs.{Csrs, pending, trap_entry}
use Rattle.isa_model.proofs.Effects.{uses_bus}
use Rattle.isa_model.specs.Effects.{Effect, Moment, access_of, csrs_of, rests, write_of}
use Rattle.isa_model.specs.Machine.{misa_of, register}
use Rattle.plug_law.proofs.IsTable.{is_table}
use Rattle.plug_law.proofs.Rows.{bus_is}
use Rattle.plug_law.specs.Decode.{DecodeLaw, Decodes}
use Rattle.plug_law.specs.Exec.{ExecAssumed, ExecKept, ExecLaw, ExecSignals, IsOf, Shows, access_at, begun, busy, effect_at, made, made_by, no_bus, worked}
use Rattle.plug_law.specs.Hazard.{HazardLaw}
use Rattle.plug_law.specs.Pipeline.{ends, run, writes}
use Rattle.plug_law.specs.RegFile.{RegLaw, regs_at}
use Rattle.plug_law.specs.System.{SystemLaw, csrs_at}
use Rattle.plug_law.specs.Table.{is_bus_group, is_system_row, row_numbered, table_of}
use Rattle.pipe_law.proofs.Basics.{and_l, and_no_l, and_no_r, and_r, and_yes, both, cond_false, cond_true, not_true}
use Rattle.pipe_law.proofs.Next.{no_bus_owed}
use Rattle.pipe_law.specs.Core.{Core, terms_at}
use Rattle.law_witness.proofs.Actions.{all_sized, made_act, no_bus_store, no_store, no_wait, of_access, owner_of_bus, owner_of_rest, owner_of_system, right_addr, right_mask, shows_effect, store_in, write_is}
use Rattle.law_witness.proofs.Fetches.{mem_is}
use Rattle.law_witness.specs.Cores.{all_rows}
use Rattle.law_witness.proofs.Parts.{Accessing, State, accessing_next, act_s, addr_bus, busy_s, cause_in, eff_s, error_in, gives, got_of, is_refused, is_through, mask_bus, needs_bus, next_in, owner_of, payload_in, replies, rows, shape_at, trap_in, tval_in, value_in, word_or, writes_bus}
use Rattle.law_witness.proofs.Parts.Accessing.{Command, Reply, Rest}
use Rattle.law_witness.specs.Met.{World, lines_of}
use Rattle.law_witness.proofs.Whole.{at, db, inst, ready_d}

-- a bus at rest has no command
pub quiet_given : (t : ℕ) → is_given no_bus t ≡ false
unfolding is_given
quiet_given zero = refl
quiet_given (suc t) = refl

-- accepts none
pub quiet_accepted : (t : ℕ) → is_accepted no_bus t ≡ false
unfolding is_accepted
quiet_accepted t = and_no_l (is_given no_bus t) false (quiet_given t)

-- and writes nothing
pub quiet_write : (t : ℕ) → is_write no_bus t ≡ false
unfolding is_write
quiet_write t = and_no_l (is_accepted no_bus t) false (quiet_accepted t)

-- and breaks no duty
pub quiet_duties : (t : ℕ) → KeepsDuties no_bus t
unfolding breaks_standing breaks_waiting breaks_form
quiet_duties zero = record { stands = refl; waits = and_no_l (is_given no_bus zero) (is_some (owed no_bus zero)) (quiet_given zero); forms = and_no_l (is_given no_bus zero) false (quiet_given zero) }
quiet_duties (suc t) = record {
  stands = and_no_l (is_given no_bus t) (not (is_accepted no_bus t) && not (is_repeated no_bus t)) (quiet_given t);
  waits = and_no_l (is_given no_bus (suc t)) (is_some (owed no_bus (suc t))) (quiet_given (suc t));
  forms = and_no_l (is_given no_bus (suc t)) false (quiet_given (suc t));
}

-- what a response to an access is
access_right : (held : Option ℕ) (window write : Bool) → DataReply held window write (is_refused held window) (word_or held)
access_right None true true = refl
access_right None true false = (refl, refl)
access_right None false write = refl
access_right (Some word) window true = refl
access_right (Some word) window false = (refl, refl)

-- the core's parts
abbrev pub core_of : World → Core
core_of o = record {
  set = all_rows;
  table = rows;
  shape = shape_at o.reset_pc;
  owner = owner_of;
  claims = λ entry row. eqb (owner_of row) entry;
  holds = λ entry. eqb entry 2;
  latency = λ entry. cond (eqb entry 0) (1, 0) (3, 0);
  system_entry = 1;
  fetch_latency = (8, 4);
  predicts = true;
  predict = o.predict;
  bypassed = λ i. true;
  start = o.start;
}

-- nothing is no number
none_some : (j : ℕ) → ◌≡◌ {A = Option ℕ} None (Some j) → ⊥
none_some j e = cc

module _ (o : World) where
  abbrev moments : ℕ → Moment
  moments t = record { lines = lines_of o t }

  abbrev d : Bus
  d = db o

  abbrev mem : ℕ → Memory
  mem = memory_at o.memory (db o)

  abbrev e : ℕ → ExecSignals
  e k = (inst o).unit k

  abbrev pub csrs : ℕ → Csrs
  csrs = csrs_at (misa_of all_rows) rows ((inst o).unit 1) (inst o).system (memory_at o.memory (db o)) (λ t. record { lines = lines_of o t })

  abbrev eff : ℕ → ℕ → Effect
  eff k t = eff_s o.reset_pc o.predict (lines_of o t) (at o t) k

  abbrev act : ℕ → Action
  act t = act_s o.reset_pc o.predict (lines_of o t) (at o t)

  abbrev x_at : ℕ → Accessing
  x_at t = (at o t).accessing

  -- ---- memory as a go began, and the CSRs
  seen_is : (k t : ℕ) → mem (begun (e k) t) ≡ (at o t).seen k
  unfolding at begun busy
  seen_is k zero = mem_is o 0
  seen_is k (suc zero) = mem_is o 1
  seen_is k (suc (suc t)) = by (busy (e k) (suc (suc t))) (seen_is k (suc t))
    where
      by : (b : Bool) → mem (begun (e k) (suc t)) ≡ (at o (suc t)).seen k
          → mem (cond b (begun (e k) (suc t)) (suc (suc t))) ≡ cond b ((at o (suc t)).seen k) (at o (suc (suc t))).memory
      by true h = h
      by false h = mem_is o (suc (suc t))

  -- the CSRs of the law are those of the core
  pub csr_is : (t : ℕ) → csrs t ≡ (at o t).csr
  unfolding at csrs_at
  csr_is zero = refl
  csr_is (suc zero) = refl
  csr_is (suc (suc k)) = λ i.
      let s : State = at o (suc k) in
      let old : Csrs = csr_is (suc k) i in
      let after : Csrs = cond ((e 1).done (suc k) && not ((e 1).clear (suc k))) (csrs_of (rows.effect s.slot.row s.slot.pc s.slot.word s.slot.a s.slot.b (seen_is 1 (suc k) i) old (record { lines = lines_of o (suc k) })) old) old in
      cond ((inst o).system.event (suc k) && not (eqb ((inst o).system.kind (suc k)) 0)) (trap_entry after ((inst o).system.pc (suc k)) ((inst o).system.cause (suc k)) ((inst o).system.tval (suc k))) after

  -- so the effect is what the unit shows
  effect_is : (k t : ℕ) → effect_at rows (e k) mem csrs moments t ≡ eff k t
  effect_is k t = λ i. rows.effect (at o t).slot.row (at o t).slot.pc (at o t).slot.word (at o t).slot.a (at o t).slot.b (seen_is k t i) (csr_is t i) (record { lines = lines_of o t })

  -- ---- what claims say of the row in front
  of_bus_is : (t : ℕ) → is_bus_group (row_numbered (at o t).slot.row).group ≡ uses_bus (act t)
  of_bus_is t = bus_is (at o t).slot.row (at o t).slot.pc (at o t).slot.word (at o t).slot.a (at o t).slot.b

  -- its write is the action's store
  write_of_is : (k t : ℕ) → write_of (eff k t) ≡ store_in (act t)
  unfolding table_of
  write_of_is k t = write_is (at o t).slot.pc (at o t).slot.word ((at o t).seen k) (at o t).csr (record { lines = lines_of o t }) (act t)

  -- loads and stores do not wait
  no_wait_row : (k t : ℕ) → uses_bus (act t) ≡ true → rests (eff k t) ≡ false
  unfolding table_of
  no_wait_row k t h = no_wait (at o t).slot.pc (at o t).slot.word ((at o t).seen k) (at o t).csr (record { lines = lines_of o t }) (act t) h

  -- nor do rows that need no CSRs
  no_system_rest : (k t : ℕ) → is_system_row (at o t).slot.row ≡ false → rests (eff k t) ≡ false
  unfolding table_of
  no_system_rest k t h = by (rests (eff k t)) refl
    where
      by : (b : Bool) → rests (eff k t) ≡ b → rests (eff k t) ≡ false
      by false z = z
      by true z = both (is_system_row (at o t).slot.row)
          ((is_table all_rows).waits (at o t).slot.row (at o t).slot.pc (at o t).slot.word (at o t).slot.a (at o t).slot.b ((at o t).seen k) (at o t).csr (record { lines = lines_of o t }) z) h

  -- ---- units without the data bus
  abbrev Plain : ℕ → ℕ → Type 0
  Plain k t = (is_bus_group (row_numbered (at o t).slot.row).group ≡ false) × ((e k).done t ≡ true → rests (eff k t) ≡ false)

  -- without the data bus no write is made
  nothing_made : (k t : ℕ) → made (e k) no_bus t ≡ []
  unfolding made
  nothing_made k zero = refl
  nothing_made k (suc t) = by (busy (e k) (suc t)) (cond_false (is_write no_bus t) (store_at no_bus t ∷ made (e k) no_bus t) (made (e k) no_bus t) (quiet_write t) ∙ nothing_made k t)
    where
      by : (b : Bool) → made_by (e k) no_bus t ≡ [] → cond b (made_by (e k) no_bus t) [] ≡ []
      by true h = h
      by false h = refl

  -- what such a unit keeps
  plain_kept : (k s : ℕ) → ((e k).go (suc s) ≡ true → Plain k (suc s)) → ((e k).go (suc s) ≡ false → (e k).done (suc s) ≡ false) → ExecKept rows (e k) no_bus mem csrs moments s
  plain_kept k s plain rest = record {
    rests = rest;
    result = λ g f. (subst (λ y. Shows y (value_in (eff k (suc s))) (next_in (eff k (suc s))) (cause_in (eff k (suc s))) (tval_in (eff k (suc s))) (trap_in (eff k (suc s)))) (sym (effect_is k (suc s))) (shows_effect (eff k (suc s)) ((plain g).1 f)), refl);
    idle = λ z. (quiet_given (suc s), no_bus_owed (suc s));
    asks = λ z. both (is_given no_bus (suc s)) z (quiet_given (suc s));
    writes = λ g. inl (cond_false (is_write no_bus (suc s)) (store_at no_bus (suc s) ∷ made (e k) no_bus (suc s)) (made (e k) no_bus (suc s)) (quiet_write (suc s)) ∙ nothing_made k (suc s));
    wrote = λ g f. (nothing_made k (suc s) ∙ ap option_to_list (sym (ap write_of (effect_is k (suc s)) ∙ write_of_is k (suc s) ∙ no_bus_store (act (suc s)) (sym (of_bus_is (suc s)) ∙ (plain g).0))), quiet_accepted (suc s));
    duties = quiet_duties (suc s);
  }

  -- entry 0 is done at once
  pub first_law : ExecLaw (terms_at (core_of o) 0) (e 0) d mem csrs moments
  first_law s asks alone = (
    plain_kept 0 s (λ g. let w = owner_of_rest (is_bus_group (row_numbered (at o (suc s)).slot.row).group) (is_system_row (at o (suc s)).slot.row) ((asks s (le_refl s)).claimed g).0 in (w.0, λ f. no_system_rest 0 (suc s) w.1))
        (λ g. and_no_l ((e 0).go (suc s)) true g),
    λ w l prompt g f. absurd (let z : (e 0).go (suc s) ≡ false = sym (and_true ((e 0).go (suc s))) ∙ f in let y : true ≡ false = sym g ∙ z in grind arith),
  )
    where
      and_true : (b : Bool) → (b && true) ≡ b
      and_true true = refl
      and_true false = refl

  -- entry 1 waits for a WFI, and works in no cycle
  abbrev idle : ℕ → Bool
  idle t = rests (effect_at rows (e 1) mem csrs moments t)

  -- entry 1 is at work only while a WFI waits
  idle_is : (t : ℕ) → (e 1).go t ≡ true → (e 1).done t ≡ false → idle t ≡ true
  idle_is t g f = ap rests (effect_is 1 t) ∙ by (rests (eff 1 t)) (sym (ap (λ b. b && not (rests (eff 1 t))) g) ∙ f)
    where
      by : (b : Bool) → not b ≡ false → b ≡ true
      by true h = refl
      by false h = absurd (grind arith)

  -- what is at work was given and not done
  busy_parts : (k t : ℕ) → busy (e k) (suc (suc t)) ≡ true → ((e k).go (suc t) ≡ true) × ((e k).done (suc t) ≡ false)
  unfolding busy
  busy_parts k t h = (
    and_l ((e k).go (suc t)) (not ((e k).done (suc t)) && not ((e k).clear (suc t))) h,
    not_true ((e k).done (suc t)) (and_l (not ((e k).done (suc t))) (not ((e k).clear (suc t))) (and_r ((e k).go (suc t)) (not ((e k).done (suc t)) && not ((e k).clear (suc t))) h)),
  )

  -- so it counts no cycle
  no_work : (t : ℕ) → (e 1).go t ≡ true → (e 1).done t ≡ false → worked idle (e 1) t ≡ 0
  unfolding worked busy
  no_work zero g f = refl
  no_work (suc zero) g f = λ i. cond (idle_is 1 g f i) 0 1 + 0
  no_work (suc (suc t)) g f = (λ i. cond (idle_is (suc (suc t)) g f i) 0 1 + cond (busy (e 1) (suc (suc t))) (worked idle (e 1) (suc t)) 0) ∙ before (busy (e 1) (suc (suc t))) refl (no_work (suc t))
    where
      before : (b : Bool) → busy (e 1) (suc (suc t)) ≡ b → ((e 1).go (suc t) ≡ true → (e 1).done (suc t) ≡ false → worked idle (e 1) (suc t) ≡ 0) → 0 + cond b (worked idle (e 1) (suc t)) 0 ≡ 0
      before false h ih = refl
      before true h ih = let w = busy_parts 1 t h in ap (λ v. 0 + v) (ih w.0 w.1)

  -- the law of entry 1
  pub second_law : ExecLaw (terms_at (core_of o) 1) (e 1) d mem csrs moments
  second_law s asks alone = (
    plain_kept 1 s (λ g. let w = owner_of_system (is_bus_group (row_numbered (at o (suc s)).slot.row).group) (is_system_row (at o (suc s)).slot.row) ((asks s (le_refl s)).claimed g).0 in (w.0, λ f. not_true (rests (eff 1 (suc s))) (and_r ((e 1).go (suc s)) (not (rests (eff 1 (suc s)))) f)))
        (λ g. and_no_l ((e 1).go (suc s)) (not (rests (eff 1 (suc s)))) g),
    λ w l prompt g f. let z : worked idle (e 1) (suc s) ≡ 0 = no_work (suc s) g f in omega arith,
  )

  -- ---- the data bus is honest
  abbrev Owes : ℕ → Accessing → Type 0
  Owes t Rest = owed d t ≡ None
  Owes t Command = owed d t ≡ None
  Owes t (Reply error payload) = (j : ℕ) × (owed d t ≡ Some j) × (error ≡ is_refused (word_at (at o j).memory (addr_bus (act j))) (is_window (addr_bus (act j)))) × (payload ≡ word_or (word_at (at o j).memory (addr_bus (act j))))

  -- what is owed in the next cycle
  owed_next : (t : ℕ) → owed d (suc (suc t)) ≡ cond (eqb (gives (x_at (suc t))) 1 && eqb (gives (x_at (suc t))) 1) (Some (suc t)) (cond (eqb (replies (x_at (suc t))) 1) None (owed d (suc t)))
  unfolding owed is_accepted is_given ready_d
  owed_next t = refl

  -- by what the unit is at
  owed_by : (t : ℕ) (x : Accessing) → x_at (suc t) ≡ x → owed d (suc (suc t)) ≡ cond (eqb (gives x) 1 && eqb (gives x) 1) (Some (suc t)) (cond (eqb (replies x) 1) None (owed d (suc t)))
  owed_by t x h = owed_next t ∙ ap (λ y. cond (eqb (gives y) 1 && eqb (gives y) 1) (Some (suc t)) (cond (eqb (replies y) 1) None (owed d (suc t)))) h

  abbrev after_x : ℕ → Bool → Accessing → Accessing
  after_x t b x = accessing_next b (is_refused (word_at (at o (suc t)).memory (addr_bus (act (suc t)))) (is_window (addr_bus (act (suc t))))) (word_or (word_at (at o (suc t)).memory (addr_bus (act (suc t))))) x

  -- in the next cycle
  owes_step : (t : ℕ) (x : Accessing) → x_at (suc t) ≡ x → (b : Bool) → Owes (suc t) x → Owes (suc (suc t)) (after_x t b x)
  owes_step t Rest h true w = owed_by t Rest h ∙ w
  owes_step t Rest h false w = owed_by t Rest h ∙ w
  owes_step t Command h b w = (suc t, owed_by t Command h, refl, refl)
  owes_step t (Reply error payload) h b w = owed_by t (Reply error payload) h

  -- in each cycle
  owes_at : (t : ℕ) → Owes (suc t) (x_at (suc t))
  unfolding at owed is_accepted is_given
  owes_at zero = refl
  owes_at (suc t) = owes_step t (x_at (suc t)) refl (busy_s o.reset_pc o.predict (lines_of o (suc t)) (at o (suc t)) 2) (owes_at t)

  -- a response is what memory holds
  responds_d : (t : ℕ) (x : Accessing) → x_at (suc t) ≡ x → Owes (suc t) x → Responds data_reply d mem (suc t) (owed d (suc t))
  unfolding ready_d
  responds_d t Rest h w = subst (Responds data_reply d mem (suc t)) (sym w) (ap replies h)
  responds_d t Command h w = subst (Responds data_reply d mem (suc t)) (sym w) (ap replies h)
  responds_d t (Reply error payload) h w =
      subst (Responds data_reply d mem (suc t)) (sym w.1) (
        ap gives h,
        λ v.
            let a : ℕ = addr_bus (act w.0) in
            subst (λ m. DataReply (word_at m a) (is_window a) (eqb (writes_bus (act w.0)) 1) (error_in (x_at (suc t))) (payload_in (x_at (suc t)))) (sym (mem_is o w.0))
            (subst (λ r. DataReply (word_at (at o w.0).memory a) (is_window a) (eqb (writes_bus (act w.0)) 1) r (payload_in (x_at (suc t)))) (sym (ap error_in h ∙ w.2))
            (subst (λ r. DataReply (word_at (at o w.0).memory a) (is_window a) (eqb (writes_bus (act w.0)) 1) (is_refused (word_at (at o w.0).memory a) (is_window a)) r) (sym (ap payload_in h ∙ w.3))
            (access_right (word_at (at o w.0).memory a) (is_window a) (eqb (writes_bus (act w.0)) 1)))),
      )

  -- the data bus is honest
  pub honest_d : (t : ℕ) → IsHonestAt data_reply d mem t
  unfolding at ready_d owed
  honest_d zero = record { starts = λ z. refl; responds = refl }
  honest_d (suc t) = record { starts = λ z. absurd (omega arith); responds = responds_d t (x_at (suc t)) refl (owes_at t) }

  -- ---- entry 2: a command, and its response in the next cycle
  abbrev idle2 : ℕ → Bool
  idle2 t = rests (effect_at rows (e 2) mem csrs moments t)

  abbrev Assumed : ℕ → Type 0
  Assumed = ExecAssumed (terms_at (core_of o) 2) (e 2) d mem

  -- where the unit is in a cycle, for what its law assumes
  abbrev Stands : ℕ → Accessing → Type 0
  Stands t Rest = (busy (e 2) t ≡ false) × (worked idle2 (e 2) t ≤ 1)
  Stands t Command = (busy (e 2) t ≡ true) × (made (e 2) d t ≡ []) × (needs_bus (act t) ≡ true) × (worked idle2 (e 2) t ≤ 2)
  Stands t (Reply error payload) = (busy (e 2) t ≡ true) × (made (e 2) d t ≡ option_to_list (store_in (act t)))

  -- what is at work stays the same action
  act_same : (s : ℕ) → ((e 2).row (suc (suc s)) ≡ (e 2).row (suc s)) → ((e 2).pc (suc (suc s)) ≡ (e 2).pc (suc s)) → ((e 2).word (suc (suc s)) ≡ (e 2).word (suc s)) → ((e 2).a (suc (suc s)) ≡ (e 2).a (suc s)) → ((e 2).b (suc (suc s)) ≡ (e 2).b (suc s)) → act (suc (suc s)) ≡ act (suc s)
  act_same s r p w a b = λ i. (row_numbered (r i)).action (p i) (w i) (a i) (b i)

  -- what is at work in the next cycle
  busy_is : (s : ℕ) → busy (e 2) (suc (suc s)) ≡ ((e 2).go (suc s) && (not ((e 2).done (suc s)) && true))
  unfolding busy
  busy_is s = refl

  -- a cycle counts at most one
  idle_small : (b : Bool) → cond b 0 1 ≤ 1
  idle_small true = omega arith
  idle_small false = omega arith

  -- a new go has worked one cycle at most
  work_new : (t : ℕ) → busy (e 2) (suc t) ≡ false → worked idle2 (e 2) (suc t) ≤ 1
  unfolding worked
  work_new t h =
      let z : cond (busy (e 2) (suc t)) (worked idle2 (e 2) t) 0 ≡ 0 = ap (λ b. cond b (worked idle2 (e 2) t) 0) h in
      let y : cond (idle2 (suc t)) 0 1 ≤ 1 = idle_small (idle2 (suc t)) in omega arith

  -- and each cycle adds one at most
  work_on : (t n : ℕ) → busy (e 2) (suc t) ≡ true → worked idle2 (e 2) t ≤ n → worked idle2 (e 2) (suc t) ≤ suc n
  unfolding worked
  work_on t n h l =
      let z : cond (busy (e 2) (suc t)) (worked idle2 (e 2) t) 0 ≡ worked idle2 (e 2) t = ap (λ b. cond b (worked idle2 (e 2) t) 0) h in
      let y : cond (idle2 (suc t)) 0 1 ≤ 1 = idle_small (idle2 (suc t)) in omega arith

  -- the writes of what is at work
  made_on : (t : ℕ) → busy (e 2) (suc t) ≡ true → made (e 2) d (suc t) ≡ made_by (e 2) d t
  unfolding made
  made_on t h = cond_true (busy (e 2) (suc t)) (made_by (e 2) d t) [] h

  -- a new go has made none
  made_none : (t : ℕ) → busy (e 2) (suc t) ≡ false → made (e 2) d (suc t) ≡ []
  unfolding made
  made_none t h = cond_false (busy (e 2) (suc t)) (made_by (e 2) d t) [] h

  -- a write of this cycle
  write_at : (t : ℕ) (x : Accessing) → x_at (suc t) ≡ x → is_write d (suc t) ≡ ((eqb (gives x) 1 && eqb (gives x) 1) && eqb (writes_bus (act (suc t))) 1)
  unfolding is_write is_accepted is_given ready_d
  write_at t x h = ap (λ y. (eqb (gives y) 1 && eqb (gives y) 1) && eqb (writes_bus (act (suc t))) 1) h

  -- a command that is accepted
  accepted_at : (t : ℕ) (x : Accessing) → x_at (suc t) ≡ x → is_accepted d (suc t) ≡ (eqb (gives x) 1 && eqb (gives x) 1)
  unfolding is_accepted is_given ready_d
  accepted_at t x h = ap (λ y. eqb (gives y) 1 && eqb (gives y) 1) h

  -- one that is given
  given_at : (t : ℕ) (x : Accessing) → x_at (suc t) ≡ x → is_given d (suc t) ≡ eqb (gives x) 1
  unfolding is_given
  given_at t x h = ap (λ y. eqb (gives y) 1) h

  -- when it is done
  done_at : (t : ℕ) (x : Accessing) → x_at t ≡ x → (e 2).done t ≡ ((e 2).go t && is_through x (act t))
  done_at t x h = ap (λ y. (e 2).go t && is_through y (act t)) h

  -- where the unit is in the next cycle
  stands_step : (s : ℕ) (x : Accessing) → x_at (suc s) ≡ x → Stands (suc s) x → (busy (e 2) (suc s) ≡ true → (e 2).go (suc s) ≡ true) → Assumed (suc s) → (b : Bool) → busy (e 2) (suc (suc s)) ≡ b → Stands (suc (suc s)) (after_x s b x)
  stands_step s Rest h w go a true z =
      let p = busy_parts 2 s z in
      let st = a.stands z in
      let nb : needs_bus (act (suc s)) ≡ true = need (needs_bus (act (suc s))) (sym (done_at (suc s) Rest h ∙ ap (λ b. b && not (needs_bus (act (suc s)))) p.0) ∙ p.1) in (
        z,
        made_on (suc s) z ∙ cond_false (is_write d (suc s)) (store_at d (suc s) ∷ made (e 2) d (suc s)) (made (e 2) d (suc s)) (write_at s Rest h) ∙ made_none s w.0,
        ap needs_bus (act_same s st.1 st.2 st.3 st.4 st.5) ∙ nb,
        work_on (suc s) 1 z w.1,
      )
    where
      need : (b : Bool) → not b ≡ false → b ≡ true
      need true h = refl
      need false h = absurd (grind arith)
  stands_step s Rest h w go a false z = (z, work_new (suc s) z)
  stands_step s Command h w go a b z =
      let g = go w.0 in
      let by : busy (e 2) (suc (suc s)) ≡ true = busy_is s ∙ and_yes ((e 2).go (suc s)) (not ((e 2).done (suc s)) && true) g (ap (λ c. not c && true) (done_at (suc s) Command h ∙ and_no_r ((e 2).go (suc s)) false refl)) in
      let st = a.stands by in (
        by,
        made_on (suc s) by
            ∙ (λ i. cond (write_at s Command h i) (store_at d (suc s) ∷ w.1 i) (w.1 i))
            ∙ made_act (act (suc s)) w.2
            ∙ ap (λ y. option_to_list (store_in y)) (sym (act_same s st.1 st.2 st.3 st.4 st.5)),
      )
  stands_step s (Reply error payload) h w go a b z =
      let g = go w.0 in
      let off : busy (e 2) (suc (suc s)) ≡ false = busy_is s ∙ and_no_r ((e 2).go (suc s)) (not ((e 2).done (suc s)) && true) (ap (λ c. not c && true) (done_at (suc s) (Reply error payload) h ∙ and_yes ((e 2).go (suc s)) true g refl)) in
      (off, work_new (suc s) off)

  -- what is at work is given
  go_at : (s : ℕ) → Assumed s → busy (e 2) (suc s) ≡ true → (e 2).go (suc s) ≡ true
  go_at s a z = (a.stands z).0

  -- in each cycle
  stands_at : (s : ℕ) → ((j : ℕ) → j ≤ s → Assumed j) → Stands (suc s) (x_at (suc s))
  unfolding at busy
  stands_at zero asks = (refl, work_new 0 refl)
  stands_at (suc s) asks = stands_step s (x_at (suc s)) refl (stands_at s (λ j g. asks j (omega arith))) (go_at s (asks s (omega arith))) (asks (suc s) (le_refl (suc s))) (busy (e 2) (suc (suc s))) refl

  -- the write of the effect
  effect_write : (t : ℕ) → write_of (effect_at rows (e 2) mem csrs moments t) ≡ store_in (act t)
  effect_write t = ap write_of (effect_is 2 t) ∙ write_of_is 2 t

  -- the access
  access_is : (t : ℕ) → access_at rows (e 2) t ≡ access_of (act t)
  unfolding table_of
  access_is t = refl

  -- no command is taken back
  standing : (t : ℕ) → breaks_standing d (suc t) ≡ false
  unfolding breaks_standing is_given is_accepted ready_d
  standing zero = refl
  standing (suc t) = once (x_at (suc t)) (not (is_repeated d (suc t)))
    where
      once : (y : Accessing) (b : Bool) → (eqb (gives y) 1 && (not (eqb (gives y) 1 && eqb (gives y) 1) && b)) ≡ false
      once Rest b = refl
      once Command b = refl
      once (Reply error payload) b = refl

  -- what the unit keeps
  data_kept : (s : ℕ) (x : Accessing) → x_at (suc s) ≡ x → Stands (suc s) x → Owes (suc s) x → ((e 2).go (suc s) ≡ true → uses_bus (act (suc s)) ≡ true) → ExecKept rows (e 2) d mem csrs moments s
  unfolding breaks_waiting breaks_form
  data_kept s x h w ow bus = record {
    rests = λ g. and_no_l ((e 2).go (suc s)) (is_through (x_at (suc s)) (act (suc s))) g;
    result = λ g f. (subst (λ y. Shows y (value_in (eff 2 (suc s))) (next_in (eff 2 (suc s))) (cause_in (eff 2 (suc s))) (tval_in (eff 2 (suc s))) (trap_in (eff 2 (suc s)))) (sym (effect_is 2 (suc s))) (shows_effect (eff 2 (suc s)) (no_wait_row 2 (suc s) (bus g))), refl);
    idle = λ z. idle_by x h w ow z;
    asks = λ g. asks_by x h w g;
    writes = λ g. writes_by x h w;
    wrote = λ g f. wrote_by x h w g f;
    duties = record { stands = standing s; waits = waits_by x h ow; forms = forms_by x h w };
  }
    where
      idle_by : (x : Accessing) → x_at (suc s) ≡ x → Stands (suc s) x → Owes (suc s) x → busy (e 2) (suc s) ≡ false → (is_given d (suc s) ≡ false) × (owed d (suc s) ≡ None)
      idle_by Rest h w ow z = (given_at s Rest h, ow)
      idle_by Command h w ow z = both (busy (e 2) (suc s)) w.0 z
      idle_by (Reply error payload) h w ow z = both (busy (e 2) (suc s)) w.0 z

      asks_by : (x : Accessing) → x_at (suc s) ≡ x → Stands (suc s) x → is_given d (suc s) ≡ true → IsOf (access_at rows (e 2) (suc s)) d (suc s)
      asks_by Rest h w g = both (is_given d (suc s)) g (given_at s Rest h)
      asks_by Command h w g = subst (λ y. IsOf y d (suc s)) (sym (access_is (suc s))) (of_access d (suc s) (act (suc s)) w.2 refl refl refl refl)
      asks_by (Reply error payload) h w g = both (is_given d (suc s)) g (given_at s (Reply error payload) h)

      writes_by : (x : Accessing) → x_at (suc s) ≡ x → Stands (suc s) x → (made_by (e 2) d (suc s) ≡ []) ⊎ (made_by (e 2) d (suc s) ≡ option_to_list (write_of (effect_at rows (e 2) mem csrs moments (suc s))))
      writes_by Rest h w = inl (cond_false (is_write d (suc s)) (store_at d (suc s) ∷ made (e 2) d (suc s)) (made (e 2) d (suc s)) (write_at s Rest h) ∙ made_none s w.0)
      writes_by Command h w = inr ((λ i. cond (write_at s Command h i) (store_at d (suc s) ∷ w.1 i) (w.1 i)) ∙ made_act (act (suc s)) w.2 ∙ ap option_to_list (sym (effect_write (suc s))))
      writes_by (Reply error payload) h w = inr (cond_false (is_write d (suc s)) (store_at d (suc s) ∷ made (e 2) d (suc s)) (made (e 2) d (suc s)) (write_at s (Reply error payload) h) ∙ w.1 ∙ ap option_to_list (sym (effect_write (suc s))))

      wrote_by : (x : Accessing) → x_at (suc s) ≡ x → Stands (suc s) x → (e 2).go (suc s) ≡ true → (e 2).done (suc s) ≡ true
          → (made (e 2) d (suc s) ≡ option_to_list (write_of (effect_at rows (e 2) mem csrs moments (suc s)))) × (is_accepted d (suc s) ≡ false)
      wrote_by Rest h w g f =
          let nb = not_true (needs_bus (act (suc s))) (and_r ((e 2).go (suc s)) (not (needs_bus (act (suc s)))) (sym (done_at (suc s) Rest h) ∙ f)) in
          (made_none s w.0 ∙ ap option_to_list (sym (effect_write (suc s) ∙ no_store (act (suc s)) nb)), accepted_at s Rest h)
      wrote_by Command h w g f = both ((e 2).done (suc s)) f (done_at (suc s) Command h ∙ and_no_r ((e 2).go (suc s)) false refl)
      wrote_by (Reply error payload) h w g f = (w.1 ∙ ap option_to_list (sym (effect_write (suc s))), accepted_at s (Reply error payload) h)

      waits_by : (x : Accessing) → x_at (suc s) ≡ x → Owes (suc s) x → (is_given d (suc s) && is_some (owed d (suc s))) ≡ false
      waits_by Rest h ow = and_no_l (is_given d (suc s)) (is_some (owed d (suc s))) (given_at s Rest h)
      waits_by Command h ow = and_no_r (is_given d (suc s)) (is_some (owed d (suc s))) (ap is_some ow)
      waits_by (Reply error payload) h ow = and_no_l (is_given d (suc s)) (is_some (owed d (suc s))) (given_at s (Reply error payload) h)

      forms_by : (x : Accessing) → x_at (suc s) ≡ x → Stands (suc s) x → (is_given d (suc s) && not (eqb (addr_bus (act (suc s)) % 4) 0 && is_mask (eqb (writes_bus (act (suc s))) 1) (mask_bus (act (suc s))))) ≡ false
      forms_by Rest h w = and_no_l (is_given d (suc s)) (not (eqb (addr_bus (act (suc s)) % 4) 0 && is_mask (eqb (writes_bus (act (suc s))) 1) (mask_bus (act (suc s))))) (given_at s Rest h)
      forms_by Command h w =
          and_no_r (is_given d (suc s)) (not (eqb (addr_bus (act (suc s)) % 4) 0 && is_mask (eqb (writes_bus (act (suc s))) 1) (mask_bus (act (suc s)))))
          (ap not (and_yes (eqb (addr_bus (act (suc s)) % 4) 0) (is_mask (eqb (writes_bus (act (suc s))) 1) (mask_bus (act (suc s)))) (ap (λ v. eqb v 0) (right_addr (act (suc s))))
          (right_mask (act (suc s)) (all_sized (at o (suc s)).slot.row (at o (suc s)).slot.pc (at o (suc s)).slot.word (at o (suc s)).slot.a (at o (suc s)).slot.b) w.2)))
      forms_by (Reply error payload) h w = and_no_l (is_given d (suc s)) (not (eqb (addr_bus (act (suc s)) % 4) 0 && is_mask (eqb (writes_bus (act (suc s))) 1) (mask_bus (act (suc s))))) (given_at s (Reply error payload) h)

  -- it works fewer than 3 cycles
  timely : (s : ℕ) (x : Accessing) → x_at (suc s) ≡ x → Stands (suc s) x → (e 2).go (suc s) ≡ true → (e 2).done (suc s) ≡ false → worked idle2 (e 2) (suc s) < 3
  timely s Rest h w g f = let y : worked idle2 (e 2) (suc s) ≤ 1 = w.1 in omega arith
  timely s Command h w g f = let y : worked idle2 (e 2) (suc s) ≤ 2 = w.3 in omega arith
  timely s (Reply error payload) h w g f = both ((e 2).done (suc s)) (done_at (suc s) (Reply error payload) h ∙ and_yes ((e 2).go (suc s)) true g refl) f

  -- the law of entry 2
  pub third_law : ExecLaw (terms_at (core_of o) 2) (e 2) d mem csrs moments
  third_law s asks alone =
      let w = stands_at s asks in (
        data_kept s (x_at (suc s)) refl w (owes_at s)
            (λ g. sym (of_bus_is (suc s)) ∙ owner_of_bus (is_bus_group (row_numbered (at o (suc s)).slot.row).group) (is_system_row (at o (suc s)).slot.row) ((asks s (le_refl s)).claimed g).0),
        λ v l prompt g f. let y : worked idle2 (e 2) (suc s) < 3 = timely s (x_at (suc s)) refl w g f in omega arith,
      )

  -- ---- System, Decoder, RegFile and Hazard
  pub system_law : SystemLaw (terms_at (core_of o) 1) (misa_of all_rows) (e 1) (inst o).system d mem moments
  system_law s asks alone told_ok = record {
    none = λ z. ap is_some (ap (λ y. pending y (lines_of o (suc s))) (sym (csr_is (suc s))) ∙ z);
    some = λ w z. let y = ap (λ y. pending y (lines_of o (suc s))) (sym (csr_is (suc s))) ∙ z in (ap is_some y, ap word_or y);
    base = ap (λ y. y.mtvec) (sym (csr_is (suc s)));
  }

  -- the law of Decoder
  pub decode_law : DecodeLaw rows owner_of (inst o).decode
  decode_law s = by (rows.row_of (word_or (got_of (at o (suc s)).fetching)))
    where
      by : (r : Option ℕ) → Decodes rows owner_of r (word_or (got_of (at o (suc s)).fetching)) (is_some r) (word_or r) (owner_of (word_or r)) (rows.uses_a (word_or r)) (rows.uses_b (word_or r)) (rows.has_value (word_or r) && not (eqb (rd_of (word_or (got_of (at o (suc s)).fetching))) 0))
      by None = refl
      by (Some r) = (refl, refl, (λ z. refl), refl, refl, refl)

  -- the registers
  rf_is : (t : ℕ) → regs_at (inst o).regs o.start t ≡ (at o t).rf
  unfolding at regs_at writes ends run
  rf_is zero = refl
  rf_is (suc zero) = refl
  rf_is (suc (suc t)) = ap (λ r. cond ((inst o).regs.we (suc t)) (set r ((inst o).regs.wa (suc t)) ((inst o).regs.wd (suc t))) r) (rf_is (suc t))

  -- the law of RegFile
  pub reg_law : RegLaw (inst o).regs o.start
  reg_law = record { a = λ t. ap (λ r. register r ((inst o).regs.ra t)) (sym (rf_is t)); b = λ t. ap (λ r. register r ((inst o).regs.rb t)) (sym (rf_is t)) }

  -- the law of Hazard
  pub hazard_law : HazardLaw (λ i. true) (inst o).hazard (inst o).regs
  hazard_law = record { hold = λ t. refl; a = λ t h u. refl; b = λ t h u. refl }

  -- ---- the data bus answers in the next cycle
  once_given : (t : ℕ) → is_given d (suc t) ≡ true → is_accepted d (suc t) ≡ true
  unfolding is_given is_accepted ready_d
  once_given t g = and_yes (eqb (gives (x_at (suc t))) 1) (eqb (gives (x_at (suc t))) 1) g g

  -- a response comes
  answered : (t j : ℕ) (x : Accessing) → x_at (suc t) ≡ x → Owes (suc t) x → owed d (suc t) ≡ Some j → eqb (replies (x_at (suc t))) 1 ≡ true
  answered t j Rest e w h = absurd (none_some j (sym w ∙ h))
  answered t j Command e w h = absurd (none_some j (sym w ∙ h))
  answered t j (Reply error payload) e w h = ap (λ y. eqb (replies y) 1) e

  -- in time
  pub prompt_d : (w t : ℕ) → IsPrompt d w t
  unfolding is_given owed
  prompt_d w zero = record { accepts = λ g. absurd (grind arith); answers = λ j h. absurd (none_some j h) }
  prompt_d w (suc t) = record {
    accepts = λ g a. both (is_accepted d (suc t)) (once_given t g) a;
    answers = λ j h v. both (eqb (replies (x_at (suc t))) 1) (answered t j (x_at (suc t)) refl (owes_at t) h) v;
  }
