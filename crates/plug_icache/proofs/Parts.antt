-- The parts of this kind meet their laws: each of their runs is one of the equations.
use Rattle.std.proofs.Common.{◌≡◌, ◌∙◌, ℕ, zero, suc, ◌+◌, ◌-◌, ◌*◌, ◌%◌, ◌^◌, ◌<◌, ◌≤◌, Bool, true, cond, eqb, ◌⊎◌, inl, inr, List, get_or, length, set, Option, None, Some, is_some, refl, sym, ap, subst, arith}
use Rattle.std.proofs.lemmas.List.{get_or_past}
use Rattle.std.proofs.lemmas.Nat.{pow_pos}
use Rattle.core_ports.specs.Ports.{is_input}
use Rattle.core_ports.specs.Ports as ports
use Rattle.core_ports.specs.Trace.{Bus}
use Rattle.bus_law.specs.Memory.{Memory}
use Rattle.hw_pool.specs.Trees.{Tree}
use Rattle.hw_pool.specs.Trees.Tree.{Lit}
use Rattle.hw_pool.specs.Meaning.{Env, value}
use Rattle.hw_module.specs.Ports.{port_at}
use Rattle.isa_model.specs.Effects.{behind}
use Rattle.service_reg.specs.declared.service.Service.TheVariants.{Predict}
use Rattle.plug_law.specs.Fetch.{FetchLaw, FetchSignals}
use Rattle.plug_law.specs.Cache.{CacheLaw}
use Rattle.plug_law.specs.Predict.{IsPredict}
use Rattle.plug_part.specs.Part.{PortTrees, Part, sees, tree_at}
use Rattle.plug_part.specs.Runs.{IsPartRun, FromContents}
use Rattle.plug_part.specs.Things.{HasArray, HasReg, IsDriven}
use Rattle.plug_part.specs.Signals.{fetch_signals, part_ib, driver_value, or_none, input_at, output_at}
use Rattle.plug_part.proofs.Things.{array_many, array_next, wire_fits, reg_fits, reg_first, reg_next}
use Rattle.plug_part.proofs.OneService.{fetch_alone}
use Rattle.cache_law.specs.Law.{latency_of}
use Rattle.cache_law.specs.Cells.{Cells, listed}
use Rattle.cache_law.specs.Machine.{IsCache, Registers}
use Rattle.cache_law.proofs.Kept.{keeps_law}
use Rattle.cache_law.proofs.Streams.{keeps_cache}
use Rattle.cache_law.proofs.Tied.{is_cache}
use Rattle.cache_nets.specs.Machine.{address_in, search_at}
use Rattle.cache_nets.specs.Runs.{IsCached, Run, Shows, cells_of}
use Rattle.cache_nets.proofs.Tied.{runs_are_cells}
use Rattle.plug_icache.specs.Builds.{guess_in, now_in, front_now, reading_now, caught_now, item_now, tag_now, word_now, Asks, BuildsIcache, IcachePartsMeetLaws, IcachePartsKeepLines}

same_tree : (a b : Tree) → ◌≡◌ {A = Option Tree} (Some a) (Some b) → a ≡ b
same_tree a b e = cc

module _ (l k reset_pc : ℕ) (p : Part) (b : BuildsIcache l k reset_pc p) where
  -- ---- what depends on the part's contents alone

  from_reg : (reg width : ℕ) (reset : Option ℕ) (next : Env → ℕ) → HasReg p reg width reset next → (t : Tree) → ((env : Env) → value env t ≡ env.regs reg) → FromContents p t
  from_reg reg width reset next has t is run run' r r' i i' same = is (run i) ∙ (same.regs reg has.row has.is ∙ sym (is (run' i')))

  state : (i : ℕ) → FromContents p (tree_at b.ports.outputs i)
  state zero = from_reg (b.first + 12) 1 _ _ b.item.first (tree_at b.ports.outputs 0) b.valid
  state (suc zero) = from_reg (b.first + 12 + 1) 32 _ _ b.item.second (tree_at b.ports.outputs 1) b.offers_pc
  state (suc (suc zero)) = from_reg (b.first + 12 + 2) 32 _ _ b.item.third (tree_at b.ports.outputs 2) b.offers_word
  state (suc (suc (suc zero))) = from_reg (b.first + 12 + 3) 1 _ _ b.item.fourth (tree_at b.ports.outputs 3) b.offers_error
  state (suc (suc (suc (suc i)))) =
      let many = b.outputs in
      subst (FromContents p) (sym (get_or_past b.ports.outputs (suc (suc (suc (suc i)))) (Lit 1 0) (omega arith))) (λ run run' r r' j j' same. refl)

  -- the address comes from two registers
  from_line : FromContents p b.cmd_addr.tree
  from_line run run' r r' i i' same =
      b.cmd_addr.value_is (run i)
      ∙ ((λ j. address_in k (same.regs (b.first + 4 + 1) b.reading.second.row b.reading.second.is j) (same.regs (b.first + 4 + 2) b.reading.third.row b.reading.third.is j))
      ∙ sym (b.cmd_addr.value_is (run' i')))

  outs : (q : ℕ) (t : Tree) → p.outs q ≡ Some t → FromContents p t
  outs q t e = by (b.no_other q t e)
    where
      by : (q ≡ 2) ⊎ (q ≡ 4) → FromContents p t
      by (inl n) =
          subst (FromContents p) (same_tree _ t (sym b.cmd_valid.is ∙ (ap p.outs (sym n) ∙ e)))
          (from_reg (b.first + 2) 1 _ _ b.front.third b.cmd_valid.tree b.cmd_valid.value_is)
      by (inr n) = subst (FromContents p) (same_tree _ t (sym b.cmd_addr.is ∙ (ap p.outs (sym n) ∙ e))) from_line

  module _ (run : ℕ → Env) (is : IsPartRun p run) where
    abbrev cycles : Run
    cycles = record { now = λ t. now_in l k b.first b.tags b.ports (sees p Predict) (run t); tags = λ t. (run t).cells b.tags; words = λ t. (run t).cells (b.tags + 1) }

    input_fits : (port : ℕ) → port < 30 → is_input (port_at port) ≡ true → (i : ℕ) → (run i).inputs port < 2 ^ ports.width_of (port_at port)
    input_fits port below e i = is.within.inputs_fit i port below e

    ready_fits : (i : ℕ) → (run i).inputs 3 < 2
    unfolding port_at
    ready_fits i = input_fits 3 (omega arith) refl i

    answered_fits : (i : ℕ) → (run i).inputs 5 < 2
    unfolding port_at
    answered_fits i = input_fits 5 (omega arith) refl i

    failed_fits : (i : ℕ) → (run i).inputs 6 < 2
    unfolding port_at
    failed_fits i = input_fits 6 (omega arith) refl i

    is_cached : IsCached l k reset_pc cycles
    is_cached = record {
      fits = λ s. record {
        given = reg_fits p run is (b.first + 2) 1 _ _ b.front.third (suc s);
        owed = reg_fits p run is (b.first + 3) 1 _ _ b.front.fourth (suc s);
        dropped = reg_fits p run is (b.first + 4) 1 _ _ b.reading.first (suc s);
        bad = reg_fits p run is (b.first + 4 + 3) 1 _ _ b.reading.fourth (suc s);
        wanted = reg_fits p run is (b.first + 8) 1 _ _ b.caught.first (suc s);
        captured = reg_fits p run is (b.first + 8 + 1) 1 _ _ b.caught.second (suc s);
        captured_error = reg_fits p run is (b.first + 8 + 3) 1 _ _ b.caught.fourth (suc s);
        full = reg_fits p run is (b.first + 12) 1 _ _ b.item.first (suc s);
        take = wire_fits p run is (get_or b.ports.inputs 0 0) 1 b.take (suc s);
        redirect = wire_fits p run is (get_or b.ports.inputs 1 0) 1 b.redirect (suc s);
        fence = wire_fits p run is (get_or b.ports.inputs 3 0) 1 b.fence (suc s);
        ready = ready_fits (suc s);
        answered = answered_fits (suc s);
        failed = failed_fits (suc s);
        pc = reg_fits p run is b.first 32 _ _ b.front.first (suc s);
        walk = reg_fits p run is (b.first + 1) (l + 1) _ _ b.front.second (suc s);
        line = reg_fits p run is (b.first + 4 + 1) (30 - k) _ _ b.reading.second (suc s);
        place = reg_fits p run is (b.first + 4 + 2) k _ _ b.reading.third (suc s);
      };
      many_tags = λ s. array_many p run is b.tags (31 - k - l) l _ _ _ b.tag (suc s);
      many_words = λ s. array_many p run is (b.tags + 1) 32 (l + k) _ _ _ b.cell (suc s);
      tag = λ s. refl;
      cell = λ s. refl;
      pc_reset = reg_first p run is b.first 32 reset_pc _ b.front.first;
      walk_reset = reg_first p run is (b.first + 1) (l + 1) 0 _ b.front.second;
      given_reset = reg_first p run is (b.first + 2) 1 0 _ b.front.third;
      owed_reset = reg_first p run is (b.first + 3) 1 0 _ b.front.fourth;
      captured_reset = reg_first p run is (b.first + 8 + 1) 1 0 _ b.caught.second;
      full_reset = reg_first p run is (b.first + 12) 1 0 _ b.item.first;
      pc = reg_next p run is b.first 32 _ _ b.front.first;
      walk = reg_next p run is (b.first + 1) (l + 1) _ _ b.front.second;
      given = reg_next p run is (b.first + 2) 1 _ _ b.front.third;
      owed = reg_next p run is (b.first + 3) 1 _ _ b.front.fourth;
      dropped = reg_next p run is (b.first + 4) 1 _ _ b.reading.first;
      line = reg_next p run is (b.first + 4 + 1) (30 - k) _ _ b.reading.second;
      place = reg_next p run is (b.first + 4 + 2) k _ _ b.reading.third;
      bad = reg_next p run is (b.first + 4 + 3) 1 _ _ b.reading.fourth;
      wanted = reg_next p run is (b.first + 8) 1 _ _ b.caught.first;
      captured = reg_next p run is (b.first + 8 + 1) 1 _ _ b.caught.second;
      captured_word = reg_next p run is (b.first + 8 + 2) 32 _ _ b.caught.third;
      captured_error = reg_next p run is (b.first + 8 + 3) 1 _ _ b.caught.fourth;
      full = reg_next p run is (b.first + 12) 1 _ _ b.item.first;
      out_pc = reg_next p run is (b.first + 12 + 1) 32 _ _ b.item.second;
      out_word = reg_next p run is (b.first + 12 + 2) 32 _ _ b.item.third;
      out_error = reg_next p run is (b.first + 12 + 3) 1 _ _ b.item.fourth;
      tags = λ s. array_next p run is b.tags (31 - k - l) l _ _ _ b.tag (suc s);
      words = λ s. array_next p run is (b.tags + 1) 32 (l + k) _ _ _ b.cell (suc s);
    }

    driven : (driver : Option Tree) (f : Env → ℕ) → IsDriven driver f → (i : ℕ) → driver_value (run i) driver ≡ f (run i)
    driven driver f d i = ap (driver_value (run i)) d.is ∙ d.value_is (run i)

    -- what Predict is asked, where it is there
    asked : (o : Option PortTrees) → sees p Predict ≡ o → is_some o ≡ true → (s : ℕ)
        → (input_at (or_none o) 0 run (suc s) ≡ (run (suc s)).regs b.first) × (input_at (or_none o) 1 run (suc s) ≡ (search_at l k (cycles.now (suc s))).word)
    asked None e h s = absurd cc
    asked (Some r) e h s =
        let a : Asks p l k b.first b.tags b.ports r = b.asks r e in (
          is.is.drives (get_or r.inputs 0 0) a.pc.tree a.pc.is (suc s) ∙ a.pc.value_is (run (suc s)),
          is.is.drives (get_or r.inputs 1 0) a.word.tree a.word.is (suc s) ∙ a.word.value_is (run (suc s)),
        )

    guess_is : (o : Option PortTrees) (i : ℕ) → guess_in o ((run i).regs b.first) (run i) ≡ cond (is_some o) (output_at (or_none o) 0 run i) (behind ((run i).regs b.first))
    guess_is None i = refl
    guess_is (Some r) i = refl

    shows : Shows l k (is_some (sees p Predict)) cycles (fetch_signals b.ports (sees p Predict) run) (part_ib p run)
    shows = record {
      take = λ s. refl;
      redirect = λ s. refl;
      redirect_pc = λ s. refl;
      fence = λ s. refl;
      valid = λ s. ap (λ n. eqb n 1) (b.valid (run (suc s)));
      pc = λ s. b.offers_pc (run (suc s));
      word = λ s. b.offers_word (run (suc s));
      error = λ s. ap (λ n. eqb n 1) (b.offers_error (run (suc s)));
      cmd_valid = λ s. driven (p.outs 2) _ b.cmd_valid (suc s);
      cmd_addr = λ s. driven (p.outs 4) _ b.cmd_addr (suc s);
      cmd_write = λ s. refl;
      cmd_data = λ s. refl;
      cmd_mask = λ s. refl;
      cmd_ready = λ s. refl;
      rsp_valid = λ s. refl;
      rsp_error = λ s. refl;
      rsp_data = λ s. refl;
      asks = asked (sees p Predict) refl;
      guess = λ s. guess_is (sees p Predict) (suc s);
    }

    module _ (least_l : 1 ≤ l) (most_l : l ≤ 10) (least_k : 1 ≤ k) (most_k : k ≤ 4) where
      registers : IsCache (2 ^ l) (2 ^ k) reset_pc (is_some (sees p Predict)) (fetch_signals b.ports (sees p Predict) run) (part_ib p run) (listed (2 ^ l) (2 ^ k) (2 ^ (30 - k - l)) (cells_of cycles))
      registers = is_cache (2 ^ l) (2 ^ k) (2 ^ (30 - k - l)) reset_pc (is_some (sees p Predict)) (fetch_signals b.ports (sees p Predict) run) (part_ib p run) (cells_of cycles) (pow_pos (30 - k - l))
          (runs_are_cells l k reset_pc (is_some (sees p Predict)) cycles (fetch_signals b.ports (sees p Predict) run) (part_ib p run) least_l most_l least_k most_k is_cached shows) (pow_pos l) (pow_pos k)

      module _ (whole : reset_pc % 4 ≡ 0) (predict : ℕ → ℕ → ℕ) (is_predict : IsPredict (is_some (sees p Predict)) predict) (mem : ℕ → Memory) where
        pub fetch_law : FetchLaw (latency_of (2 ^ l) (2 ^ k)) (is_some (sees p Predict)) predict reset_pc (fetch_signals b.ports (sees p Predict) run) (part_ib p run) mem
        fetch_law = keeps_law (2 ^ l) (2 ^ k) reset_pc (is_some (sees p Predict)) (fetch_signals b.ports (sees p Predict) run) (part_ib p run) mem predict
            (listed (2 ^ l) (2 ^ k) (2 ^ (30 - k - l)) (cells_of cycles)) registers (pow_pos l) (pow_pos k) whole is_predict

        pub lines_law : CacheLaw (2 ^ l) (2 ^ k) (is_some (sees p Predict)) predict (fetch_signals b.ports (sees p Predict) run) (part_ib p run) mem
        lines_law = keeps_cache (2 ^ l) (2 ^ k) reset_pc (is_some (sees p Predict)) (fetch_signals b.ports (sees p Predict) run) (part_ib p run) mem predict
            (listed (2 ^ l) (2 ^ k) (2 ^ (30 - k - l)) (cells_of cycles)) registers (pow_pos l) (pow_pos k) whole is_predict

pub parts_meet_laws : IcachePartsMeetLaws
parts_meet_laws l k g p least_l most_l least_k most_k whole latency b =
    fetch_alone g p b.ports b.only
    (λ predict is_predict run is mem.
    subst (λ (t : ℕ × ℕ). FetchLaw t (is_some (sees p Predict)) predict g.reset_pc (fetch_signals b.ports (sees p Predict) run) (part_ib p run) mem) (sym latency)
    (fetch_law l k g.reset_pc p b run is least_l most_l least_k most_k whole predict is_predict mem))
    (state l k g.reset_pc p b) (outs l k g.reset_pc p b)

pub parts_keep_lines : IcachePartsKeepLines
parts_keep_lines l k reset_pc p least_l most_l least_k most_k whole b predict is_predict run is mem =
    lines_law l k reset_pc p b run is least_l most_l least_k most_k whole predict is_predict mem
