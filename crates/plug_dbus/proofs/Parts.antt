-- The parts of this kind meet their laws.
use Rattle.std.proofs.Common.{◌≡◌, ◌∙◌, ℕ, suc, ◌+◌, ◌<◌, Bool, true, false, eqb, get_or, Option, Some, inl, inr, refl, arith, ap, sym, subst}
use Rattle.std.proofs.lemmas.Bool.{or_cases, eqb-true}
use Rattle.hw_pool.specs.Trees.{Tree}
use Rattle.hw_pool.specs.Meaning.{Env, value}
use Rattle.hw_words.proofs.Bits.{bit_is}
use Rattle.hw_module.specs.Ports.{port_at}
use Rattle.bus_law.specs.Memory.{Memory}
use Rattle.isa_csr.specs.Csrs.{Csrs, reset_csrs}
use Rattle.isa_model.specs.Machine.{Set}
use Rattle.service_reg.specs.declared.service.Service.{Service}
use Rattle.service_reg.specs.declared.service.Service.TheVariants.{Fetch, Predict, Decoder, RegFile, Hazard, System}
use Rattle.service_ports.proofs.Offers.{none_some}
use Rattle.plug_law.specs.Exec.{ExecLaw, Terms}
use Rattle.plug_part.specs.Part.{PortTrees, Part}
use Rattle.plug_part.specs.Runs.{IsPartRun, FromContents}
use Rattle.plug_part.specs.Things.{HasReg, IsDriven}
use Rattle.plug_part.specs.Signals.{exec_signals, part_db, driver_value, moments_of}
use Rattle.plug_part.proofs.Things.{wire_fits, reg_fits, reg_first, reg_next}
use Rattle.dbus_law.specs.Machine.{Registers, IsDbus}
use Rattle.dbus_law.specs.Law.{TakesItsRows, dbus_terms}
use Rattle.dbus_law.proofs.Kept.{law, reads_once}
use Rattle.plug_dbus.specs.Machine.{Now}
use Rattle.plug_dbus.specs.Builds.{BuildsDbus, DbusPartsMeetLaws, DbusPartsReadOnce, is_own, now_in}
use Rattle.plug_dbus.proofs.Bits.{AreBits, given_next, owed_next, address_next, writes_next, command_next, mask_next, done_is, value_is, trap_is, cause_is}

some_same : {A : Type 0} (a b : A) → Some a ≡ Some b → a ≡ b
some_same a b e = cc

module _ (p : Part) (b : BuildsDbus p) where
  -- ---- the command comes from the registers

  driven_is : (q : ℕ) (f : Env → ℕ) → IsDriven (p.outs q) f → (env : Env) → driver_value env (p.outs q) ≡ f env
  driven_is q f d env = ap (driver_value env) d.is ∙ d.value_is env

  held : (q reg width : ℕ) (reset : Option ℕ) (next : Env → ℕ) → IsDriven (p.outs q) (λ env. env.regs reg) → HasReg p reg width reset next
      → (t : Tree) → p.outs q ≡ Some t → FromContents p t
  held q reg width reset next d has t is run run' r r' k k' same =
      let e : d.tree ≡ t = some_same d.tree t (sym d.is ∙ is) in
      sym (ap (value (run k)) e) ∙ (d.value_is (run k) ∙ (same.regs reg has.row has.is ∙ (sym (d.value_is (run' k')) ∙ ap (value (run' k')) e)))

  outs_held : (q : ℕ) (t : Tree) → p.outs q ≡ Some t → FromContents p t
  outs_held q t is = elim (or_cases (eqb q 8) _ (b.no_other q t is)) [
    | inl h ↦ held 8 b.first 1 _ _ b.cmd_valid b.given t (at 8 h)
    | inr r ↦ elim (or_cases (eqb q 10) _ r) [
      | inl h ↦ held 10 (b.first + 3) 1 _ _ b.cmd_write b.writes t (at 10 h)
      | inr r ↦ elim (or_cases (eqb q 11) _ r) [
        | inl h ↦ held 11 (b.first + 2) 32 _ _ b.cmd_addr b.address t (at 11 h)
        | inr r ↦ elim (or_cases (eqb q 12) (eqb q 13) r) [
          | inl h ↦ held 12 (b.first + 4) 32 _ _ b.cmd_data b.payload t (at 12 h)
          | inr h ↦ held 13 (b.first + 5) 4 _ _ b.cmd_mask b.mask t (at 13 h)
        ]
      ]
    ]
  ]
    where
      at : (n : ℕ) → eqb q n ≡ true → p.outs n ≡ Some t
      at n h = ap p.outs (sym (eqb-true q n h)) ∙ is

  module _ (run : ℕ → Env) (is : IsPartRun p run) where
    abbrev now : ℕ → Now
    now k = now_in b.first b.ports (run k)

    abbrev registers : Registers
    registers = record {
      given = λ k. eqb (now k).given 1;
      owed = λ k. eqb (now k).owed 1;
      address = λ k. (now k).address;
      writes = λ k. eqb (now k).writes 1;
      payload = λ k. (now k).payload;
      mask = λ k. (now k).mask;
    }

    are_bits : (k : ℕ) → AreBits (now k)
    unfolding port_at
    are_bits k = record {
      given = reg_fits p run is b.first 1 _ _ b.given k;
      owed = reg_fits p run is (b.first + 1) 1 _ _ b.owed k;
      go = wire_fits p run is (get_or b.ports.inputs 0 0) 1 b.go k;
      clear = wire_fits p run is (get_or b.ports.inputs 6 0) 1 b.clear k;
      ready = is.within.inputs_fit k 9 (omega arith) refl;
      answered = is.within.inputs_fit k 14 (omega arith) refl;
      failed = is.within.inputs_fit k 15 (omega arith) refl;
    }

    bit_held : (reg : ℕ) (reset : Option ℕ) (next : Env → ℕ) → HasReg p reg 1 reset next → (k : ℕ) → (run k).regs reg < 2
    bit_held reg reset next has k = reg_fits p run is reg 1 reset next has k

    is_dbus : IsDbus (exec_signals b.ports run) (part_db p run) registers
    is_dbus = record {
      given_reset = ap (λ n. eqb n 1) (reg_first p run is b.first 1 0 _ b.given);
      owed_reset = ap (λ n. eqb n 1) (reg_first p run is (b.first + 1) 1 0 _ b.owed);
      given = λ s. ap (λ n. eqb n 1) (reg_next p run is b.first 1 _ _ b.given s) ∙ given_next (now (suc s)) (are_bits (suc s));
      owed = λ s. ap (λ n. eqb n 1) (reg_next p run is (b.first + 1) 1 _ _ b.owed s) ∙ owed_next (now (suc s)) (are_bits (suc s));
      address = λ s. reg_next p run is (b.first + 2) 32 _ _ b.address s ∙ address_next (now (suc s)) (are_bits (suc s));
      writes = λ s. ap (λ n. eqb n 1) (reg_next p run is (b.first + 3) 1 _ _ b.writes s) ∙ writes_next (now (suc s)) (are_bits (suc s));
      payload = λ s. reg_next p run is (b.first + 4) 32 _ _ b.payload s ∙ command_next (now (suc s)) (are_bits (suc s)) _ _;
      mask = λ s. reg_next p run is (b.first + 5) 4 _ _ b.mask s ∙ mask_next (now (suc s)) (are_bits (suc s));
      cmd_valid = λ s. driven_is 8 _ b.cmd_valid (run (suc s)) ∙ bit_is _ (bit_held b.first _ _ b.given (suc s));
      cmd_write = λ s. driven_is 10 _ b.cmd_write (run (suc s)) ∙ bit_is _ (bit_held (b.first + 3) _ _ b.writes (suc s));
      cmd_addr = λ s. driven_is 11 _ b.cmd_addr (run (suc s));
      cmd_data = λ s. driven_is 12 _ b.cmd_data (run (suc s));
      cmd_mask = λ s. driven_is 13 _ b.cmd_mask (run (suc s));
      done = λ s. ap (λ n. eqb n 1) (b.done (run (suc s))) ∙ done_is (now (suc s)) (are_bits (suc s));
      value = λ s. b.result (run (suc s)) ∙ value_is (now (suc s)).word (now (suc s)).a (now (suc s)).reply;
      next_pc = λ s. b.next_pc (run (suc s));
      trap = λ s. ap (λ n. eqb n 1) (b.trap (run (suc s))) ∙ trap_is (now (suc s)) (are_bits (suc s));
      cause = λ s. b.cause (run (suc s)) ∙ cause_is (now (suc s)) (are_bits (suc s));
      tval = λ s. b.tval (run (suc s));
      fence = λ s. ap (λ n. eqb n 1) (b.fence (run (suc s)));
    }

    keeps : (set : Set) (claims : ℕ → Bool) → TakesItsRows claims → (mem : ℕ → Memory) (csrs : ℕ → Csrs)
        → ExecLaw (dbus_terms set claims) (exec_signals b.ports run) (part_db p run) mem csrs (moments_of run)
    keeps set claims rows mem csrs = law set claims rows (exec_signals b.ports run) (part_db p run) mem csrs (moments_of run) registers is_dbus

  -- ---- what it does not offer

  not_offered : (s : Service) → is_own s ≡ false → (o : PortTrees) → p.offers s ≡ Some o → ⊥
  not_offered s other o e = none_some (p.offers s) o (b.none s other) e

pub parts_meet_laws : DbusPartsMeetLaws
parts_meet_laws claims g p rows terms b = record {
  fetch = λ o e. absurd (not_offered p b Fetch refl o e);
  fetch_state = λ o e. absurd (not_offered p b Fetch refl o e);
  fetch_outs = λ o e. absurd (not_offered p b Fetch refl o e);
  predict = λ o e. absurd (not_offered p b Predict refl o e);
  decode = λ o e. absurd (not_offered p b Decoder refl o e);
  regs = λ o e. absurd (not_offered p b RegFile refl o e);
  hazard = λ o e. absurd (not_offered p b Hazard refl o e);
  exec = λ o e run is mem csrs csrs_are s assumed alone told.
      let same : b.ports ≡ o = some_same b.ports o (sym b.exec ∙ e) in
      subst (λ (q : PortTrees). ExecLaw g.terms (exec_signals q run) (part_db p run) mem csrs (moments_of run)) same
      (subst (λ (x : Terms). ExecLaw x (exec_signals b.ports run) (part_db p run) mem csrs (moments_of run)) (sym terms) (keeps p b run is g.set claims rows mem csrs)) s assumed alone;
  data_outs = λ o e q t h. outs_held p b q t h;
  system = λ o y e h. absurd (not_offered p b System refl y h);
}

pub parts_read_once : DbusPartsReadOnce
parts_read_once set claims p rows b run is mem =
    reads_once set claims rows (exec_signals b.ports run) (part_db p run) mem (λ k. reset_csrs 0) (λ k. record { lines = 0 }) (registers p b run is) (is_dbus p b run is)
