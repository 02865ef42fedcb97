-- The parts of the small core keep their laws, and its buses, which are at rest, are honest and in time.
use Rattle.std.proofs.Common.{◌≡◌, ℕ, zero, suc, ◌≤◌, Bool, true, false, cond, not, eqb, [], ◌∷◌, ◌&&◌, ◌||◌, ◌⊎◌, inl, inr, set, refl, ap, ◌∙◌, sym, subst, arith, Option, Some, None, is_some}
use Rattle.std.specs.Prelude.{option_map, option_to_list}
use Rattle.std.proofs.Math.Nat.{le_refl}
use Rattle.core_words.specs.Fields.{rd_of}
use Rattle.core_ports.specs.Trace.{data_bus, instruction_bus}
use Rattle.bus_law.specs.Duties.{KeepsDuties}
use Rattle.bus_law.specs.Honest.{Honest, IsHonestAt, IsWithin, Responds, Within, data_reply, fetch_reply}
use Rattle.bus_law.specs.Memory.{Memory, word_at}
use Rattle.bus_law.specs.Prompt.{store_at}
use Rattle.bus_law.specs.Protocol.{is_given, is_write, memory_at}
use Rattle.isa_table.specs.Rows.{TableRow}
use Rattle.isa_table.specs.Rows as table_rows
use Rattle.isa_csr.specs.Csrs.{Csrs, reset_csrs}
use Rattle.isa_model.specs.Effects.{Effect, Moment, behind, rests, write_of, written_by}
use Rattle.isa_model.specs.Machine.{has_row, misa_of, register}
use Rattle.plug_law.proofs.Bridge.{outcome_bridge}
use Rattle.plug_law.proofs.IsTable.{has_no_access, is_table, writes_its_access}
use Rattle.plug_law.proofs.Rows.{is_taken}
use Rattle.plug_law.specs.Decode.{DecodeLaw, Decodes}
use Rattle.plug_law.specs.Exec.{ExecLaw, ExecSignals, Shows, begun, busy, effect_at, made, made_by, no_bus}
use Rattle.plug_law.specs.Fetch.{FetchLaw, FetchSignals, owes_pc}
use Rattle.plug_law.specs.Hazard.{HazardLaw}
use Rattle.plug_law.specs.Pipeline.{ends, member, run, writes}
use Rattle.plug_law.specs.RegFile.{RegLaw, regs_at}
use Rattle.plug_law.specs.System.{csrs_at}
use Rattle.plug_law.specs.Table.{is_bus_group, is_system_row, number_of, row_numbered, table_of}
use Rattle.pipe_law.proofs.Basics.{and_l, and_r, both, cond_false, not_true, or_yes, same}
use Rattle.pipe_law.proofs.Fetched.{last_le}
use Rattle.pipe_law.proofs.Next.{no_bus_honest, no_bus_owed}
use Rattle.pipe_law.proofs.Still.{no_bus_prompt}
use Rattle.pipe_law.specs.Core.{Core, IsCore, Laws, csrs_in, mem_of, moment_at, terms_at}
use Rattle.law_witness.specs.Cores.{is_small, small_rows}
use Rattle.law_witness.specs.Met.{Met, World}
use Rattle.law_witness.proofs.Actions.{shows_effect}
use Rattle.law_witness.proofs.All.{at_once}
use Rattle.law_witness.proofs.Fetches.{fetched_right}
use Rattle.law_witness.proofs.Parts.{cause_in, is_none, next_in, trap_in, tval_in, value_in, word_or}
use Rattle.law_witness.proofs.Small.{at, db_is, effect_s, ib_is, inst, lines_are, rows, shape_at, steps, trace}
use Rattle.law_witness.proofs.Units.{quiet_accepted, quiet_duties, quiet_given, quiet_write}

-- ---- the rows of the set

-- equal numbers
some_is : (i j : ℕ) → ◌≡◌ {A = Option ℕ} (Some i) (Some j) → i ≡ j
some_is i j e = cc

-- nothing is no number
none_some : (j : ℕ) → ◌≡◌ {A = Option ℕ} None (Some j) → ⊥
none_some j e = cc

-- each row of a word is one that the set has
row_taken : (word row : ℕ) → rows.row_of word ≡ Some row → has_row small_rows row ≡ true
unfolding table_of
row_taken word row h = by (table_rows.row_of (has_row small_rows) word) refl h
  where
    by : (f : Option TableRow) → table_rows.row_of (has_row small_rows) word ≡ f → option_map number_of f ≡ Some row → has_row small_rows row ≡ true
    by None e z = absurd (none_some row z)
    by (Some r) e z = ap (has_row small_rows) (sym (some_is r.number row z)) ∙ is_taken (has_row small_rows) word r e

-- so it needs neither CSRs nor the data bus
row_small : (word row : ℕ) → rows.row_of word ≡ Some row → is_small row ≡ true
row_small word row h = by (or_yes (is_small row) (eqb row 38 || eqb row 39) (row_taken word row h))
  where
    of_call : (eqb row 38 ≡ true) ⊎ (eqb row 39 ≡ true) → is_small row ≡ true
    of_call (inl e) = ap is_small (same row 38 e)
    of_call (inr e) = ap is_small (same row 39 e)

    by : (is_small row ≡ true) ⊎ ((eqb row 38 || eqb row 39) ≡ true) → is_small row ≡ true
    by (inl e) = e
    by (inr e) = of_call (or_yes (eqb row 38) (eqb row 39) e)

-- no load and no store
not_bus : (row : ℕ) → is_small row ≡ true → is_bus_group (row_numbered row).group ≡ false
not_bus row h = not_true (is_bus_group (row_numbered row).group) (and_l (not (is_bus_group (row_numbered row).group)) (not (is_system_row row)) h)

-- and no row that needs CSRs
not_system : (row : ℕ) → is_small row ≡ true → is_system_row row ≡ false
not_system row h = not_true (is_system_row row) (and_r (not (is_bus_group (row_numbered row).group)) (not (is_system_row row)) h)

-- ---- the core
abbrev pub core_of : World → Core
core_of o = record {
  set = small_rows;
  table = rows;
  shape = shape_at o.reset_pc;
  owner = λ row. 0;
  claims = λ entry row. is_small row;
  holds = λ entry. false;
  latency = λ entry. (1, 0);
  system_entry = 0;
  fetch_latency = (1, 0);
  predicts = false;
  predict = λ pc word. behind pc;
  bypassed = λ i. true;
  start = o.start;
}

-- the choices fit together
pub is_core : (o : World) → IsCore (core_of o)
unfolding table_of
is_core o = record {
  table = is_table small_rows;
  means = outcome_bridge small_rows (λ n c s. both (is_system_row n) s (not_system n c));
  system = refl;
  reset = o.aligned;
  stages = omega arith;
  size = o.full;
  owns = λ word row h c. (refl, row_small word row h);
  data_entry = λ h. absurd (let z : false ≡ true = h in grind arith);
  system_commits = λ h. absurd (let z : false ≡ true = h in grind arith);
  system_owns = λ h. absurd (let z : false ≡ true = h in grind arith);
  no_system = λ h word row r. not_system row (row_small word row r);
}

-- ---- memory and CSRs stay
memory_stays : (m : Memory) (t : ℕ) → memory_at m no_bus t ≡ m
unfolding memory_at
memory_stays m zero = refl
memory_stays m (suc t) = cond_false (is_write no_bus t) _ (memory_at m no_bus t) (quiet_write t) ∙ memory_stays m t

module _ (o : World) where
  -- memory stays
  mem_is : (t : ℕ) → mem_of o.memory (trace o) t ≡ o.memory
  mem_is t = ap (λ b. memory_at o.memory b t) (db_is o) ∙ memory_stays o.memory t

  -- and so do the CSRs
  csr_is : (t : ℕ) → csrs_in (core_of o) (inst o) (trace o) o.memory t ≡ reset_csrs (misa_of small_rows)
  unfolding csrs_at
  csr_is zero = refl
  csr_is (suc zero) = refl
  csr_is (suc (suc t)) = csr_is (suc t)

  abbrev e : ℕ → ExecSignals
  e k = (inst o).unit k

  abbrev mem : ℕ → Memory
  mem = mem_of o.memory (trace o)

  abbrev csrs : ℕ → Csrs
  csrs = csrs_in (core_of o) (inst o) (trace o) o.memory

  abbrev moments : ℕ → Moment
  moments = moment_at (trace o)

  abbrev eff : ℕ → Effect
  eff t = effect_s o.reset_pc o.memory (at o t)

  -- the effect that the unit shows is that of the table, whatever the lines are
  effect_is : (k t : ℕ) → is_system_row (at o t).slot.row ≡ false → effect_at rows (e k) mem csrs moments t ≡ eff t
  unfolding table_of
  effect_is k t h =
      (λ i. rows.effect (at o t).slot.row (at o t).slot.pc (at o t).slot.word (at o t).slot.a (at o t).slot.b (mem_is (begun (e k) t) i) (csr_is t i) (moments t))
      ∙ (is_table small_rows).timeless (at o t).slot.row (at o t).slot.pc (at o t).slot.word (at o t).slot.a (at o t).slot.b o.memory (reset_csrs (misa_of small_rows)) (moments t) (record { lines = 0 }) h

  -- no row of the set waits
  no_rest : (t : ℕ) → is_system_row (at o t).slot.row ≡ false → rests (eff t) ≡ false
  unfolding table_of
  no_rest t h = by (rests (eff t)) refl
    where
      by : (b : Bool) → rests (eff t) ≡ b → rests (eff t) ≡ false
      by false z = z
      by true z = both (is_system_row (at o t).slot.row)
          ((is_table small_rows).waits (at o t).slot.row (at o t).slot.pc (at o t).slot.word (at o t).slot.a (at o t).slot.b o.memory (reset_csrs (misa_of small_rows)) (record { lines = 0 }) z) h

  -- no write is made
  nothing_made : (k t : ℕ) → made (e k) no_bus t ≡ []
  unfolding made
  nothing_made k zero = refl
  nothing_made k (suc t) = by (busy (e k) (suc t)) (cond_false (is_write no_bus t) (store_at no_bus t ∷ made (e k) no_bus t) (made (e k) no_bus t) (quiet_write t) ∙ nothing_made k t)
    where
      by : (b : Bool) → made_by (e k) no_bus t ≡ [] → cond b (made_by (e k) no_bus t) [] ≡ []
      by true h = h
      by false h = refl

  -- the unit is done at once, with the row's effect
  unit_law : (k : ℕ) → ExecLaw (terms_at (core_of o) k) (e k) (data_bus (trace o)) mem csrs moments
  unfolding table_of
  unit_law k s asks alone = (
    record {
      rests = λ g. g;
      result = λ g f.
          let n = not_system (at o (suc s)).slot.row (claimed g) in
          (subst (λ y. Shows y (value_in (eff (suc s))) (next_in (eff (suc s))) (cause_in (eff (suc s))) (tval_in (eff (suc s))) (trap_in (eff (suc s)))) (sym (effect_is k (suc s) n)) (shows_effect (eff (suc s)) (no_rest (suc s) n)), refl);
      idle = λ z. (quiet_given (suc s), no_bus_owed (suc s));
      asks = λ z. both (is_given no_bus (suc s)) z (quiet_given (suc s));
      writes = λ g. inl (cond_false (is_write no_bus (suc s)) (store_at no_bus (suc s) ∷ made (e k) no_bus (suc s)) (made (e k) no_bus (suc s)) (quiet_write (suc s)) ∙ nothing_made k (suc s));
      wrote = λ g f. (nothing_made k (suc s) ∙ ap option_to_list (sym (silent (claimed g))), quiet_accepted (suc s));
      duties = quiet_duties (suc s);
    },
    λ w l prompt g f. both ((e k).done (suc s)) g f,
  )
    where
      claimed : (e k).go (suc s) ≡ true → is_small (at o (suc s)).slot.row ≡ true
      claimed g = ((asks s (le_refl s)).claimed g).0

      silent : is_small (at o (suc s)).slot.row ≡ true → write_of (effect_at rows (e k) mem csrs moments (suc s)) ≡ None
      silent c = writes_its_access small_rows (at o (suc s)).slot.row (at o (suc s)).slot.pc (at o (suc s)).slot.word (at o (suc s)).slot.a (at o (suc s)).slot.b (mem (begun (e k) (suc s))) (csrs (suc s)) (moments (suc s))
          ∙ ap written_by (has_no_access small_rows (at o (suc s)).slot.row (at o (suc s)).slot.pc (at o (suc s)).slot.word (at o (suc s)).slot.a (at o (suc s)).slot.b (not_bus (at o (suc s)).slot.row c))

  -- ---- Fetch, Decoder, RegFile and Hazard
  abbrev f : FetchSignals
  f = (inst o).fetch

  -- the pc of the next cycle
  pc_next : (t : ℕ) → (at o (suc (suc t))).fpc ≡ cond (f.redirect (suc t)) (at o (suc t)).apc (cond (f.take (suc t)) (behind (at o (suc t)).fpc) (at o (suc t)).fpc)
  unfolding at
  pc_next t = refl

  -- what is owed in the next cycle
  order_step : (k pc : ℕ) (r t x : Bool) → (owes_pc f (λ pc word. behind pc) o.reset_pc (suc k) ≡ Some pc → (at o (suc k)).fpc ≡ pc)
      → cond r (Some (at o (suc k)).apc) (cond t (cond x None (Some (behind (at o (suc k)).fpc))) (owes_pc f (λ pc word. behind pc) o.reset_pc (suc k))) ≡ Some pc
      → cond r (at o (suc k)).apc (cond t (behind (at o (suc k)).fpc) (at o (suc k)).fpc) ≡ pc
  order_step k pc true t x ih h = some_is (at o (suc k)).apc pc h
  order_step k pc false true true ih h = absurd (none_some pc h)
  order_step k pc false true false ih h = some_is (behind (at o (suc k)).fpc) pc h
  order_step k pc false false x ih h = ih h

  -- the pc is the one that is owed
  in_order : (k pc : ℕ) → owes_pc f (λ pc word. behind pc) o.reset_pc (suc k) ≡ Some pc → (at o (suc k)).fpc ≡ pc
  unfolding at owes_pc
  in_order zero pc h = some_is o.reset_pc pc h
  in_order (suc k) pc h = order_step k pc (f.redirect (suc k)) (f.take (suc k)) (f.error (suc k)) (in_order k pc) h

  -- the item of the same pc is the same
  stays : (s : ℕ) → 1 ≤ s → f.take s ≡ false → f.redirect s ≡ false → (at o (suc s)).fpc ≡ (at o s).fpc
  stays zero l t r = absurd (omega arith)
  stays (suc k) l t r = pc_next k ∙ (λ i. cond (r i) (at o (suc k)).apc (cond (t i) (behind (at o (suc k)).fpc) (at o (suc k)).fpc))

  -- the law of Fetch
  fetch_law : FetchLaw (1, 0) false (λ pc word. behind pc) o.reset_pc f (instruction_bus (trace o)) mem
  fetch_law s asks = record {
    truth = λ v. record {
      cycle = suc s;
      after_reset = omega arith;
      after_fence = last_le f.fence (suc s);
      by_then = le_refl (suc s);
      gives = fetched_right (mem (suc s)) (at o (suc s)).fpc (word_at o.memory (at o (suc s)).fpc) (ap (λ m. word_at m (at o (suc s)).fpc) (mem_is (suc s)));
    };
    order = λ v pc h. in_order s pc h;
    stays = λ l v t r. let p = stays s l t r in (refl, p, ap (λ pc. word_or (word_at o.memory pc)) p, ap (λ pc. is_none (word_at o.memory pc)) p);
    duties = subst (λ b. KeepsDuties b (suc s)) (sym (ib_is o)) (quiet_duties (suc s));
    offers = λ w l prompt g. refl;
  }

  -- of Decoder
  decode_law : DecodeLaw rows (λ row. 0) (inst o).decode
  decode_law s = by (rows.row_of (word_or (word_at o.memory (at o (suc s)).fpc)))
    where
      by : (r : Option ℕ) → Decodes rows (λ row. 0) r (word_or (word_at o.memory (at o (suc s)).fpc)) (is_some r) (word_or r) 0 (rows.uses_a (word_or r)) (rows.uses_b (word_or r)) (rows.has_value (word_or r) && not (eqb (rd_of (word_or (word_at o.memory (at o (suc s)).fpc))) 0))
      by None = refl
      by (Some r) = (refl, refl, (λ z. refl), refl, refl, refl)

  -- the registers
  rf_is : (t : ℕ) → regs_at (inst o).regs o.start t ≡ (at o t).rf
  unfolding at regs_at writes ends run
  rf_is zero = refl
  rf_is (suc zero) = refl
  rf_is (suc (suc t)) = ap (λ r. cond ((inst o).regs.we (suc t)) (set r ((inst o).regs.wa (suc t)) ((inst o).regs.wd (suc t))) r) (rf_is (suc t))

  -- of RegFile
  reg_law : RegLaw (inst o).regs o.start
  reg_law = record { a = λ t. ap (λ r. register r ((inst o).regs.ra t)) (sym (rf_is t)); b = λ t. ap (λ r. register r ((inst o).regs.rb t)) (sym (rf_is t)) }

  -- of Hazard
  hazard_law : HazardLaw (λ i. true) (inst o).hazard (inst o).regs
  hazard_law = record { hold = λ t. refl; a = λ t h u. refl; b = λ t h u. refl }

  -- of the unit
  execs : (k : ℕ) → member k (0 ∷ []) ≡ true → ExecLaw (terms_at (core_of o) k) (e k) (data_bus (trace o)) mem csrs moments
  execs k h = unit_law k

  -- all laws
  laws : Laws (core_of o) (inst o) (trace o) o.memory
  laws = record {
    fetch = fetch_law;
    predict = λ h. absurd (let z : false ≡ true = h in grind arith);
    decode = decode_law;
    regs = reg_law;
    hazard = hazard_law;
    exec = λ k h s a b told. execs k h s a b;
    system = λ h. absurd (let z : false ≡ true = h in grind arith);
  }

  -- ---- the buses
  rest_honest : (m : ℕ → Memory) (i : ℕ) → IsHonestAt fetch_reply no_bus m i
  rest_honest m i = record { starts = λ z. refl; responds = subst (Responds fetch_reply no_bus m i) (sym (no_bus_owed i)) refl }

  -- both buses are honest
  honest : (n : ℕ) → Honest (instruction_bus (trace o)) (data_bus (trace o)) o.memory n
  honest n = record {
    fetches = λ k l. subst (λ b. IsHonestAt fetch_reply b (memory_at o.memory (data_bus (trace o))) k) (sym (ib_is o)) (rest_honest (memory_at o.memory (data_bus (trace o))) k);
    accesses = λ k l. subst (λ b. IsHonestAt data_reply b (memory_at o.memory b) k) (sym (db_is o)) (no_bus_honest (memory_at o.memory no_bus) k);
  }

  -- and in time
  in_time : (n : ℕ) → Within (instruction_bus (trace o)) (data_bus (trace o)) 1 n
  in_time n = record {
    fetches = subst (λ b. IsWithin b 1 n) (sym (ib_is o)) (at_once no_bus n no_bus_prompt);
    accesses = subst (λ b. IsWithin b 1 n) (sym (db_is o)) (at_once no_bus n no_bus_prompt);
  }

  -- all premises
  pub small_met : Met small_rows false 2 o
  small_met = record {
    core = core_of o;
    pipe = inst o;
    run' = trace o;
    set = refl;
    holds_is = refl;
    stages_is = refl;
    reset_pc = refl;
    start = refl;
    lines = lines_are o;
    is_core = is_core o;
    laws = laws;
    steps = steps o;
    honest = honest;
    in_time = in_time;
  }
