-- The parts of this kind meet their laws: each of their runs is one of the equations.
use Rattle.std.proofs.Common.{◌≡◌, ◌∙◌, ℕ, zero, suc, ◌^◌, ◌<◌, ◌≤◌, true, cond, eqb, ◌⊎◌, inl, inr, get_or, Option, None, Some, is_some, refl, sym, ap, subst, arith}
use Rattle.std.proofs.lemmas.List.{get_or_past}
use Rattle.core_ports.specs.Ports.{is_input}
use Rattle.core_ports.specs.Ports as ports
use Rattle.hw_pool.specs.Trees.{Tree}
use Rattle.hw_pool.specs.Trees.Tree.{Lit}
use Rattle.hw_pool.specs.Meaning.{Env, value}
use Rattle.hw_module.specs.Ports.{port_at}
use Rattle.isa_model.specs.Effects.{behind}
use Rattle.service_reg.specs.declared.service.Service.TheVariants.{Predict}
use Rattle.plug_law.specs.Fetch.{FetchLaw}
use Rattle.plug_part.specs.Part.{PortTrees, Part, sees, tree_at}
use Rattle.plug_part.specs.Runs.{IsPartRun, FromContents}
use Rattle.plug_part.specs.Things.{HasReg, IsDriven}
use Rattle.plug_part.specs.Signals.{fetch_signals, part_ib, driver_value, or_none, input_at, output_at}
use Rattle.plug_part.proofs.Things.{wire_fits, reg_fits, reg_first, reg_next}
use Rattle.plug_part.proofs.OneService.{fetch_alone}
use Rattle.plug_fetch.specs.Machine.{Now}
use Rattle.plug_fetch.specs.Runs.{IsFetch, Shows}
use Rattle.plug_fetch.specs.Builds.{guess_in, now_in, Asks, BuildsFetch, FetchPartsMeetLaws, FetchPartsReadAhead}
use Rattle.plug_fetch.proofs.Laws.{fetch_law, depth_law}

same_tree : (a b : Tree) → ◌≡◌ {A = Option Tree} (Some a) (Some b) → a ≡ b
same_tree a b e = cc

module _ (depth reset_pc : ℕ) (p : Part) (b : BuildsFetch depth reset_pc p) where
  -- ---- what depends on the part's contents alone

  from_reg : (reg width : ℕ) (reset : Option ℕ) (next : Env → ℕ) → HasReg p reg width reset next → (t : Tree) → ((env : Env) → value env t ≡ env.regs reg) → FromContents p t
  from_reg reg width reset next has t is run run' r r' k k' same = is (run k) ∙ (same.regs reg has.row has.is ∙ sym (is (run' k')))

  state : 1 ≤ depth → (i : ℕ) → FromContents p (tree_at b.ports.outputs i)
  state least zero = from_reg (b.numbers.held 0) 1 _ _ (b.held 0 least) (tree_at b.ports.outputs 0) b.valid
  state least (suc zero) = from_reg (b.numbers.pc 0) 32 _ _ (b.pc 0 least) (tree_at b.ports.outputs 1) b.offers_pc
  state least (suc (suc zero)) = from_reg (b.numbers.word 0) 32 _ _ (b.word 0 least) (tree_at b.ports.outputs 2) b.offers_word
  state least (suc (suc (suc zero))) = from_reg (b.numbers.error 0) 1 _ _ (b.error 0 least) (tree_at b.ports.outputs 3) b.offers_error
  state least (suc (suc (suc (suc i)))) =
      let many = b.outputs in
      subst (FromContents p) (sym (get_or_past b.ports.outputs (suc (suc (suc (suc i)))) (Lit 1 0) (omega arith))) (λ run run' r r' k k' same. refl)

  outs : (q : ℕ) (t : Tree) → p.outs q ≡ Some t → FromContents p t
  outs q t e = by (b.no_other q t e)
    where
      by : (q ≡ 2) ⊎ (q ≡ 4) → FromContents p t
      by (inl n) =
          subst (FromContents p) (same_tree _ t (sym b.cmd_valid.is ∙ (ap p.outs (sym n) ∙ e)))
          (from_reg b.numbers.given 1 _ _ b.given b.cmd_valid.tree b.cmd_valid.value_is)
      by (inr n) =
          subst (FromContents p) (same_tree _ t (sym b.cmd_addr.is ∙ (ap p.outs (sym n) ∙ e)))
          (from_reg b.numbers.address 32 _ _ b.address b.cmd_addr.tree b.cmd_addr.value_is)

  module _ (run : ℕ → Env) (is : IsPartRun p run) where
    abbrev q : ℕ → Now
    q k = now_in b.numbers b.ports (sees p Predict) (run k)

    input_fits : (port : ℕ) → port < 30 → is_input (port_at port) ≡ true → (k : ℕ) → (run k).inputs port < 2 ^ ports.width_of (port_at port)
    input_fits port l e k = is.within.inputs_fit k port l e

    ready_fits : (k : ℕ) → (run k).inputs 3 < 2
    unfolding port_at
    ready_fits k = input_fits 3 (omega arith) refl k

    answered_fits : (k : ℕ) → (run k).inputs 5 < 2
    unfolding port_at
    answered_fits k = input_fits 5 (omega arith) refl k

    is_fetch : IsFetch depth reset_pc q
    is_fetch = record {
      bits = λ s. record {
        held = λ i l. reg_fits p run is (b.numbers.held i) 1 _ _ (b.held i l) (suc s);
        given = reg_fits p run is b.numbers.given 1 _ _ b.given (suc s);
        owed = reg_fits p run is b.numbers.owed 1 _ _ b.owed (suc s);
        dropped = reg_fits p run is b.numbers.dropped 1 _ _ b.dropped (suc s);
        take = wire_fits p run is (get_or b.ports.inputs 0 0) 1 b.take (suc s);
        redirect = wire_fits p run is (get_or b.ports.inputs 1 0) 1 b.redirect (suc s);
        ready = ready_fits (suc s);
        answered = answered_fits (suc s);
      };
      held_reset = λ i l. reg_first p run is (b.numbers.held i) 1 0 _ (b.held i l);
      given_reset = reg_first p run is b.numbers.given 1 0 _ b.given;
      owed_reset = reg_first p run is b.numbers.owed 1 0 _ b.owed;
      dropped_reset = reg_first p run is b.numbers.dropped 1 0 _ b.dropped;
      next_pc_reset = reg_first p run is b.numbers.next_pc 32 reset_pc _ b.next_pc;
      held = λ s i l. reg_next p run is (b.numbers.held i) 1 _ _ (b.held i l) s;
      pc = λ s i l. reg_next p run is (b.numbers.pc i) 32 _ _ (b.pc i l) s;
      word = λ s i l. reg_next p run is (b.numbers.word i) 32 _ _ (b.word i l) s;
      error = λ s i l. reg_next p run is (b.numbers.error i) 1 _ _ (b.error i l) s;
      given = reg_next p run is b.numbers.given 1 _ _ b.given;
      owed = reg_next p run is b.numbers.owed 1 _ _ b.owed;
      dropped = reg_next p run is b.numbers.dropped 1 _ _ b.dropped;
      address = reg_next p run is b.numbers.address 32 _ _ b.address;
      next_pc = reg_next p run is b.numbers.next_pc 32 _ _ b.next_pc;
    }

    driven : (driver : Option Tree) (f : Env → ℕ) → IsDriven driver f → (k : ℕ) → driver_value (run k) driver ≡ f (run k)
    driven driver f d k = ap (driver_value (run k)) d.is ∙ d.value_is (run k)

    -- what Predict is asked, where it is there
    asked : (o : Option PortTrees) → sees p Predict ≡ o → is_some o ≡ true → (s : ℕ)
        → (input_at (or_none o) 0 run (suc s) ≡ (run (suc s)).regs b.numbers.address) × (input_at (or_none o) 1 run (suc s) ≡ (run (suc s)).inputs 7)
    asked None e h s = absurd cc
    asked (Some r) e h s =
        let a : Asks p b.numbers r = b.asks r e in (
          is.is.drives (get_or r.inputs 0 0) a.pc.tree a.pc.is (suc s) ∙ a.pc.value_is (run (suc s)),
          is.is.drives (get_or r.inputs 1 0) a.word.tree a.word.is (suc s) ∙ a.word.value_is (run (suc s)),
        )

    guess_is : (o : Option PortTrees) (k : ℕ) → guess_in o ((run k).regs b.numbers.address) (run k) ≡ cond (is_some o) (output_at (or_none o) 0 run k) (behind ((run k).regs b.numbers.address))
    guess_is None k = refl
    guess_is (Some r) k = refl

    shows : Shows (is_some (sees p Predict)) q (fetch_signals b.ports (sees p Predict) run) (part_ib p run)
    shows = record {
      take = λ s. refl;
      redirect = λ s. refl;
      redirect_pc = λ s. refl;
      valid = λ s. ap (λ n. eqb n 1) (b.valid (run (suc s)));
      pc = λ s. b.offers_pc (run (suc s));
      word = λ s. b.offers_word (run (suc s));
      error = λ s. ap (λ n. eqb n 1) (b.offers_error (run (suc s)));
      cmd_valid = λ s. driven (p.outs 2) _ b.cmd_valid (suc s);
      cmd_addr = λ s. driven (p.outs 4) _ b.cmd_addr (suc s);
      cmd_write = λ s. refl;
      cmd_data = λ s. refl;
      cmd_mask = λ s. refl;
      cmd_ready = λ s. refl;
      rsp_valid = λ s. refl;
      rsp_error = λ s. refl;
      rsp_data = λ s. refl;
      asks = asked (sees p Predict) refl;
      guess = λ s. guess_is (sees p Predict) (suc s);
    }

pub parts_meet_laws : FetchPartsMeetLaws
parts_meet_laws depth g p least whole latency b =
    fetch_alone g p b.ports b.only
    (λ predict is_predict run is mem.
    subst (λ (l : ℕ × ℕ). FetchLaw l (is_some (sees p Predict)) predict g.reset_pc (fetch_signals b.ports (sees p Predict) run) (part_ib p run) mem) (sym latency)
    (fetch_law depth g.reset_pc (is_some (sees p Predict)) predict (q depth g.reset_pc p b run is) (fetch_signals b.ports (sees p Predict) run) (part_ib p run) mem least whole is_predict
    (is_fetch depth g.reset_pc p b run is) (shows depth g.reset_pc p b run is)))
    (state depth g.reset_pc p b least) (outs depth g.reset_pc p b)

pub parts_read_ahead : FetchPartsReadAhead
parts_read_ahead depth reset_pc p least whole b predict is_predict run is mem =
    depth_law depth reset_pc (is_some (sees p Predict)) predict (q depth reset_pc p b run is) (fetch_signals b.ports (sees p Predict) run) (part_ib p run) mem least whole is_predict
    (is_fetch depth reset_pc p b run is) (shows depth reset_pc p b run is)
