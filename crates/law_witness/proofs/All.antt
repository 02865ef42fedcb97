-- The premises of the theorems are met together, and so their conclusions hold.
use Rattle.std.proofs.Common.{◌≡◌, ℕ, zero, suc, ◌+◌, Bool, true, false, cond, not, eqb, ◌&&◌, ◌⊎◌, inl, inr, [], ◌∷◌, refl, ap, ◌∙◌, sym, subst, arith, Some, None}
use Rattle.std.proofs.lemmas.Bool.Decides.{nat_tests}
use Rattle.std.proofs.Math.Nat.{le_refl}
use Rattle.core_ports.specs.Trace.{Bus, Trace, data_bus, instruction_bus}
use Rattle.bus_law.specs.Honest.{Begins, Honest, IsHonestAt, IsWithin, Within, data_reply, fetch_reply}
use Rattle.bus_law.specs.Prompt.{IsPrompt, given_from}
use Rattle.bus_law.specs.Protocol.{is_accepted, is_given, memory_at, owed}
use Rattle.isa_csr.specs.Csrs.{Csrs}
use Rattle.isa_table.specs.Rows.{Action}
use Rattle.isa_table.specs.Rows.Action.{AccessesCsr, Branches, Breaks, CallsEnvironment, Computes, Fences, FencesFetches, Jumps, Loads, Returns, Stores, Waits}
use Rattle.isa_model.proofs.Effects.{uses_bus}
use Rattle.isa_model.specs.Effects.{Moment, needs_system}
use Rattle.isa_model.specs.Machine.{misa_of}
use Rattle.plug_law.proofs.Bridge.{outcome_bridge}
use Rattle.plug_law.proofs.IsTable.{is_table}
use Rattle.plug_law.proofs.Rows.{bus_is, system_is}
use Rattle.plug_law.specs.Exec.{ExecLaw}
use Rattle.plug_law.specs.Fetch.{FetchLaw}
use Rattle.plug_law.specs.Pipeline.{member, writes}
use Rattle.plug_law.specs.System.{SystemLaw, csrs_at}
use Rattle.plug_law.specs.Table.{is_bus_group, is_system_row, row_numbered, table_of}
use Rattle.pipe_law.proofs.Basics.{and_no_r, both, cond_false, cond_true, eqb_refl, same}
use Rattle.pipe_law.specs.Core.{IsCore, Laws, csrs_in, moment_at, terms_at}
use Rattle.law_witness.proofs.Fetches.{fetch_law, honest_i, prompt_i}
use Rattle.law_witness.specs.Cores.{all_rows}
use Rattle.law_witness.proofs.Parts.{owner_of, rows}
use Rattle.law_witness.proofs.Units.{core_of, csr_is, decode_law, first_law, hazard_law, honest_d, prompt_d, reg_law, second_law, system_law, third_law}
use Rattle.law_witness.specs.Met.{Met, World, lines_of}
use Rattle.law_witness.proofs.Whole.{at, db, db_is, ib, ib_is, inst, moment_is, steps, trace}

-- rows that need CSRs do not need the data bus
apart : (x : Action) → needs_system x ≡ true → uses_bus x ≡ false
apart (AccessesCsr number change operand writes) h = refl
apart Returns h = refl
apart Waits h = refl
apart (Computes value) h = absurd (grind arith)
apart (Jumps value target) h = absurd (grind arith)
apart (Branches is_taken target) h = absurd (grind arith)
apart (Loads addr size is_signed) h = absurd (grind arith)
apart (Stores addr size value) h = absurd (grind arith)
apart Fences h = absurd (grind arith)
apart FencesFetches h = absurd (grind arith)
apart CallsEnvironment h = absurd (grind arith)
apart Breaks h = absurd (grind arith)

-- they belong to entry 1
system_owner : (row : ℕ) → is_system_row row ≡ true → owner_of row ≡ 1
system_owner row h =
    let a : Action = (row_numbered row).action 0 0 0 0 in
    let b : is_bus_group (row_numbered row).group ≡ false = bus_is row 0 0 0 0 ∙ apart a (sym (system_is row 0 0 0 0) ∙ h) in
    (λ i. cond (b i) 2 (cond (h i) 1 0))

-- each row belongs to one of the three entries
owned : (row : ℕ) → member (owner_of row) (0 ∷ 1 ∷ 2 ∷ []) ≡ true
owned row = by (is_bus_group (row_numbered row).group) (is_system_row row)
  where
    by : (b s : Bool) → member (cond b 2 (cond s 1 0)) (0 ∷ 1 ∷ 2 ∷ []) ≡ true
    by true s = refl
    by false true = refl
    by false false = refl

-- the choices fit together
pub is_core : (o : World) → IsCore (core_of o)
unfolding table_of
is_core o = record {
  table = is_table all_rows;
  means = outcome_bridge all_rows (λ n a b. refl);
  system = refl;
  reset = o.aligned;
  stages = le_refl 4;
  size = o.full;
  owns = λ word row h c. (owned row, eqb_refl (owner_of row));
  data_entry = λ h. (2, refl, refl);
  system_commits = λ h. (refl, refl);
  system_owns = λ h word row r s. system_owner row s;
  no_system = λ h. absurd (let z : true ≡ false = h in grind arith);
}

-- buses that answer at once answer within one cycle
pub at_once : (b : Bus) (n : ℕ) → ((w t : ℕ) → IsPrompt b w t) → IsWithin b 1 n
unfolding given_from owed
at_once b n prompt = record { accepts = λ k g l. (0, omega arith, subst (λ i. is_accepted b i ≡ true) (plain (suc k)) (taken k g (is_accepted b (suc k)) refl)); answers = λ k a l. (1, omega arith, omega arith, subst (λ i. b.rsp_valid i ≡ 1) (next k) (replied k a (eqb (b.rsp_valid (suc k)) 1) refl)) }
  where
    plain : (i : ℕ) → i ≡ i + 0
    plain i = omega arith

    next : (i : ℕ) → suc i ≡ i + 1
    next i = omega arith

    fresh : (k : ℕ) → (is_given b k ≡ false) ⊎ (is_accepted b k ≡ true) → (is_given b k && not (is_accepted b k)) ≡ false
    fresh k (inl e) = ap (λ z. z && not (is_accepted b k)) e
    fresh k (inr e) = and_no_r (is_given b k) (not (is_accepted b k)) (ap not e)

    taken : (k : ℕ) → Begins b k → (v : Bool) → is_accepted b (suc k) ≡ v → is_accepted b (suc k) ≡ true
    taken k g true e = e
    taken k g false e = absurd (
        let z : given_from b (suc k) ≡ suc k = cond_false (is_given b k && not (is_accepted b k)) (given_from b k) (suc k) (fresh k g.fresh) in
        let l = (prompt 0 (suc k)).accepts g.given e in
        omega arith
        )

    replied : (k : ℕ) → is_accepted b k ≡ true → (v : Bool) → eqb (b.rsp_valid (suc k)) 1 ≡ v → b.rsp_valid (suc k) ≡ 1
    replied k a true e = same (b.rsp_valid (suc k)) 1 e
    replied k a false e = absurd (let l = (prompt 1 (suc k)).answers k (cond_true (is_accepted b k) (Some k) (cond (eqb (b.rsp_valid k) 1) None (owed b k)) a) e in omega arith)

module _ (o : World) where
  abbrev run' : Trace
  run' = trace o

  -- the interrupt lines on the ports are the world's
  moments_are : ◌≡◌ {A = ℕ → Moment} (moment_at (trace o)) (λ t. record { lines = lines_of o t })
  moments_are = λ i t. moment_is o t i

  abbrev ExecOn : ℕ → Bus → (ℕ → Moment) → Type 0
  ExecOn k b mo = ExecLaw (terms_at (core_of o) k) ((inst o).unit k) b (memory_at o.memory b) (csrs_at (misa_of all_rows) rows ((inst o).unit 1) (inst o).system (memory_at o.memory b) mo) mo

  -- a unit's law, on the ports
  exec_on : (k : ℕ) → ExecOn k (db o) (λ t. record { lines = lines_of o t }) → ExecOn k (data_bus (trace o)) (moment_at (trace o))
  exec_on k h = subst (λ b. ExecOn k b (moment_at (trace o))) (sym (db_is o)) (subst (ExecOn k (db o)) (sym moments_are) h)

  -- all units
  execs : (k : ℕ) → member k (0 ∷ 1 ∷ 2 ∷ []) ≡ true → ExecOn k (data_bus (trace o)) (moment_at (trace o))
  execs zero a = exec_on 0 (first_law o)
  execs (suc zero) a = exec_on 1 (second_law o)
  execs (suc (suc zero)) a = exec_on 2 (third_law o)
  execs (suc (suc (suc k))) a = both (member (suc (suc (suc k))) (0 ∷ 1 ∷ 2 ∷ [])) a (none k)
    where
      none : (k : ℕ) → member (suc (suc (suc k))) (0 ∷ 1 ∷ 2 ∷ []) ≡ false
      none k = grind (arith, nat_tests)

  abbrev SystemOn : Bus → (ℕ → Moment) → Type 0
  SystemOn b mo = SystemLaw (terms_at (core_of o) 1) (misa_of all_rows) ((inst o).unit 1) (inst o).system b (memory_at o.memory b) mo

  -- all laws
  pub laws : Laws (core_of o) (inst o) (trace o) o.memory
  laws = record {
    fetch = subst (λ b. FetchLaw (8, 4) true o.predict o.reset_pc (inst o).fetch b (memory_at o.memory (data_bus (trace o)))) (sym (ib_is o))
        (subst (λ b. FetchLaw (8, 4) true o.predict o.reset_pc (inst o).fetch (ib o) (memory_at o.memory b)) (sym (db_is o)) (fetch_law o));
    predict = λ h s. refl;
    decode = decode_law o;
    regs = reg_law o;
    hazard = hazard_law o;
    exec = λ k h s a b told. execs k h s a b;
    system = λ h. subst (λ b. SystemOn b (moment_at (trace o))) (sym (db_is o)) (subst (SystemOn (db o)) (sym moments_are) (system_law o));
  }

  -- the CSRs of the theorems are those of the core
  abbrev CsrOn : Bus → (ℕ → Moment) → ℕ → Csrs
  CsrOn b mo = csrs_at (misa_of all_rows) rows ((inst o).unit 1) (inst o).system (memory_at o.memory b) mo

  -- the CSRs of the theorem are those of the core
  pub core_csrs : (t : ℕ) → csrs_in (core_of o) (inst o) (trace o) o.memory t ≡ (at o t).csr
  core_csrs t =
      subst (λ b. CsrOn b (moment_at (trace o)) t ≡ (at o t).csr) (sym (db_is o))
      (subst (λ mo. CsrOn (db o) mo t ≡ (at o t).csr) (sym moments_are) (csr_is o t))

  -- both buses are honest
  pub honest : (n : ℕ) → Honest (instruction_bus (trace o)) (data_bus (trace o)) o.memory n
  honest n = record {
    fetches = λ k l. subst (λ b. IsHonestAt fetch_reply b (memory_at o.memory (data_bus (trace o))) k) (sym (ib_is o))
        (subst (λ b. IsHonestAt fetch_reply (ib o) (memory_at o.memory b) k) (sym (db_is o)) (honest_i o k));
    accesses = λ k l. subst (λ b. IsHonestAt data_reply b (memory_at o.memory b) k) (sym (db_is o)) (honest_d o k);
  }

  -- its buses answer in the next cycle
  pub in_time : (n : ℕ) → Within (instruction_bus (trace o)) (data_bus (trace o)) 1 n
  in_time n = record {
    fetches = subst (λ b. IsWithin b 1 n) (sym (ib_is o)) (at_once (ib o) n (prompt_i o));
    accesses = subst (λ b. IsWithin b 1 n) (sym (db_is o)) (at_once (db o) n (prompt_d o));
  }

  -- all premises
  unfoldable pub met : Met all_rows true 4 o
  met = record {
    core = core_of o;
    pipe = inst o;
    run' = trace o;
    set = refl;
    holds_is = refl;
    stages_is = refl;
    reset_pc = refl;
    start = refl;
    lines = λ k. ap (λ m. m.lines) (moment_is o k);
    is_core = is_core o;
    laws = laws;
    steps = steps o;
    honest = honest;
    in_time = in_time;
  }

  -- and the run that they are of
  pub met_run : met.run' ≡ trace o
  unfolding met
  met_run = refl
