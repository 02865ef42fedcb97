-- Parts of units that may work for several cycles: their law, and that nothing is left to drive.
use Rattle.std.proofs.Common.{◌≡◌, ◌∙◌, ℕ, zero, suc, ◌+◌, ◌^◌, ◌<◌, ◌||◌, ◌&&◌, not, Bool, true, false, cond, eqb, List, [], ◌∷◌, map, length, get_or, Option, Some, None, refl, arith, ap, sym, subst, inl, inr}
use Rattle.std.proofs.lemmas.Bool.{and_parts, both_ways, or_cases, eqb-true}
use Rattle.std.specs.List.{list_all}
use Rattle.core_words.specs.Values.{choose, one_if}
use Rattle.hw_pool.specs.Meaning.{Env}
use Rattle.hw_module.specs.declared.rows.RegRow.{RegRow}
use Rattle.isa_table.specs.Rows.Action.{Computes}
use Rattle.isa_model.specs.Machine.{Set}
use Rattle.service_reg.specs.declared.service.Service.{Service}
use Rattle.service_reg.specs.declared.service.Service.TheVariants.{Fetch, Exec, DataBus}
use Rattle.plug_law.specs.Table.{row_numbered, table_of}
use Rattle.plug_part.specs.Part.{Part}
use Rattle.plug_part.specs.Runs.{IsPartRun}
use Rattle.plug_part.specs.Owned.{offers}
use Rattle.plug_part.specs.Of.{tree_option}
use Rattle.plug_part.specs.Signals.{exec_signals}
use Rattle.plug_part.specs.Terms.{claims_row}
use Rattle.plug_part.specs.Things.{HasReg}
use Rattle.plug_part.proofs.Things.{wire_fits, reg_fits, reg_first, reg_next}
use Rattle.plug_part.proofs.OneService.{exec_alone}
use Rattle.plug_build.specs.World.{World, part_in}
use Rattle.plug_build.specs.Done.{IsDone}
use Rattle.plug_api.specs.Spec.{is_among}
use Rattle.plug_api.specs.Calls.{terms_of}
use Rattle.plug_kinds.specs.Kinds.{claim_of}
use Rattle.plug_kit.proofs.Gates.{gate_tree}
use Rattle.plug_kit.proofs.Rows.{part_reg}
use Rattle.plug_kit.proofs.Unit.{offered_done}
use Rattle.unit_parts.specs.Says.{is_unit_row}
use Rattle.unit_parts.proofs.Says.{each_row, no_fence}
use Rattle.unit_steps.specs.Cycles.{Machine, HasRegisters, EndsWith}
use Rattle.unit_steps.specs.Signals.{IsWorking}
use Rattle.unit_steps.specs.Registers.{held_in, IsDrivenReg}
use Rattle.unit_steps.specs.Parts.{BuildsWorking, RowsEnd, WorkingPartsMeetLaws, ends_over, next_over}
use Rattle.unit_steps.proofs.Working.{keeps_working}

-- ---- a register of a part

pub has_reg : (takes : Service → Bool) (e : ℕ) (w : World) (reg width : ℕ) (reset : Option ℕ) (f : Env → ℕ) → IsDrivenReg w.design w.pool e reg width reset f
    → HasReg (part_in takes e w) reg width reset f
has_reg takes e w reg width reset f h = record {
  row = _;
  is = part_reg takes e w reg (ap (λ (row : RegRow). row.owner) h.row)
      ∙ ap (λ (row : RegRow). Some (record { width = row.width; reset = row.reset; next = tree_option w.pool.nodes row.next })) h.row;
  wide = refl;
  reset_is = refl;
  tree = _;
  next_is = refl;
  value_is = λ env. gate_tree env w.pool h.net ∙ h.value_is env;
}

-- what registers hold is a list, where each holds the number at its place
pub held_is : (env : Env) (count first : ℕ) (xs : List ℕ) → length xs ≡ count → ((k : ℕ) → k < count → env.regs (first + k) ≡ get_or xs k 0) → held_in env first count ≡ xs
held_is env zero first [] e each = refl
held_is env zero first (x ∷ xs) e each = absurd (omega arith)
held_is env (suc n) first [] e each = absurd (omega arith)
held_is env (suc n) first (x ∷ xs) e each =
    let zero_place : first + 0 ≡ first = omega arith in
    let head : env.regs first ≡ x = ap env.regs (sym zero_place) ∙ each 0 (omega arith) in
    let tail = held_is env n (first + 1) xs (omega arith) (λ k l. (let there : first + 1 + k ≡ first + suc k = omega arith in ap env.regs there) ∙ each (suc k) (omega arith)) in
    λ i. head i ∷ tail i

-- ---- the run

bit_is : (n : ℕ) → n < 2 → n ≡ one_if (eqb n 1)
bit_is zero h = refl
bit_is (suc zero) h = refl
bit_is (suc (suc n)) h = absurd (omega arith)

-- a choice of bits is a test
done_test : (g v : ℕ) → eqb (choose g v 0) 1 ≡ (eqb g 1 && eqb v 1)
done_test g v = by (eqb g 1)
  where
    by : (b : Bool) → eqb (cond b v 0) 1 ≡ (b && eqb v 1)
    by true = refl
    by false = refl

mark_test : (g v c : ℕ) → eqb (choose g (choose v 0 (choose c 0 1)) 0) 1 ≡ (eqb g 1 && (not (eqb v 1) && not (eqb c 1)))
mark_test g v c = by (eqb g 1) (eqb v 1) (eqb c 1)
  where
    by : (x y z : Bool) → eqb (cond x (cond y 0 (cond z 0 1)) 0) 1 ≡ (x && (not y && not z))
    by true true z = refl
    by true false true = refl
    by true false false = refl
    by false y z = refl

module _ (m : Machine) (widths : List ℕ) (p : Part) (has : HasRegisters m (length widths)) (builds : BuildsWorking m widths p) (run : ℕ → Env) (is : IsPartRun p run) where
  abbrev mark : ℕ
  mark = builds.mark

  abbrev many : ℕ
  many = length widths

  bit : (k : ℕ) → (run k).regs mark ≡ one_if (eqb ((run k).regs mark) 1)
  bit k = bit_is _ (reg_fits p run is mark 1 (Some 0) _ builds.at_work k)

  -- the machine over the mark as a bit
  abbrev in_wire : ℕ → ℕ → ℕ
  in_wire place k = (run k).wires (get_or builds.ports.inputs place 0)

  ends_bit : (k : ℕ) → ends_over m many builds.ports.inputs mark (run k) ≡ m.ends (in_wire 3 k) (in_wire 4 k) (in_wire 5 k) (one_if (eqb ((run k).regs mark) 1)) (held_in (run k) (mark + 1) many)
  ends_bit k = λ i. m.ends (in_wire 3 k) (in_wire 4 k) (in_wire 5 k) (bit k i) (held_in (run k) (mark + 1) many)

  working : IsWorking m (exec_signals builds.ports run) (λ k. eqb ((run k).regs mark) 1) (λ k. held_in (run k) (mark + 1) many)
  working = record {
    first = ap (λ n. eqb n 1) (reg_first p run is mark 1 0 _ builds.at_work);
    goes_on = λ s.
        ap (λ n. eqb n 1) (reg_next p run is mark 1 (Some 0) _ builds.at_work s)
        ∙ (mark_test (in_wire 0 (suc s)) (ends_over m many builds.ports.inputs mark (run (suc s))) (in_wire 6 (suc s))
        ∙ ap (λ n. eqb (in_wire 0 (suc s)) 1 && (not (eqb n 1) && not (eqb (in_wire 6 (suc s)) 1))) (ends_bit (suc s)));
    holds = λ s.
        held_is (run (suc (suc s))) many (mark + 1) (next_over m many builds.ports.inputs mark (run (suc s))) (has _ _ _ _ _)
        (λ k l. reg_next p run is (mark + 1 + k) (get_or widths k 0) None _ (builds.holds k l) s)
        ∙ (λ i. m.next (in_wire 3 (suc s)) (in_wire 4 (suc s)) (in_wire 5 (suc s)) (bit (suc s) i) (held_in (run (suc s)) (mark + 1) many));
    done = λ s.
        ap (λ n. eqb n 1) (builds.done (run (suc s)))
        ∙ (done_test (in_wire 0 (suc s)) (ends_over m many builds.ports.inputs mark (run (suc s)))
        ∙ ap (λ n. eqb (in_wire 0 (suc s)) 1 && eqb n 1) (ends_bit (suc s)));
    value_is = λ s. builds.result (run (suc s)) ∙ (λ i. m.value (in_wire 3 (suc s)) (in_wire 4 (suc s)) (in_wire 5 (suc s)) (bit (suc s) i) (held_in (run (suc s)) (mark + 1) many));
    next_pc = λ s. builds.next_pc (run (suc s));
    trap = λ s. ap (λ n. eqb n 1) (builds.trap (run (suc s)));
    fence = λ s. ap (λ n. eqb n 1) (builds.fence (run (suc s)));
    a_fits = λ s. wire_fits p run is (get_or builds.ports.inputs 4 0) 32 builds.a (suc s);
    b_fits = λ s. wire_fits p run is (get_or builds.ports.inputs 5 0) 32 builds.b (suc s);
  }

-- ---- the rows

no_fencei : (rows : List ℕ) → list_all is_unit_row rows ≡ true → claims_row (map claim_of rows) 40 ≡ false
no_fencei [] h = refl
no_fencei (row ∷ rows) h =
    ap (λ b. b || claims_row (map claim_of rows) 40) (no_fence row (and_parts _ _ h).0) ∙ no_fencei rows (and_parts _ _ h).1

all_end : (m : Machine) (most : ℕ) (rows : List ℕ) → RowsEnd rows m most → (set : Set) (number word pc a b : ℕ) → claims_row (map claim_of rows) number ≡ true
    → (table_of set).row_of word ≡ Some number → a < 2 ^ 32 → b < 2 ^ 32 → (result : ℕ) × ((row_numbered number).action pc word a b ≡ Computes result) × EndsWith m most word a b result
all_end m most [] each set number word pc a b claimed found a_fits b_fits = absurd (both_ways false refl claimed)
all_end m most (row ∷ rows) each set number word pc a b claimed found a_fits b_fits = elim (or_cases (eqb row number) (claims_row (map claim_of rows) number) claimed) [
  | inl is ↦
      subst (λ n. (table_of set).row_of word ≡ Some n → (result : ℕ) × ((row_numbered n).action pc word a b ≡ Computes result) × EndsWith m most word a b result) (eqb-true row number is)
      (λ there. each.0 set word pc a b there a_fits b_fits) found
  | inr later ↦ all_end m most rows each.1 set number word pc a b later found a_fits b_fits
]

pub parts_meet_laws : WorkingPartsMeetLaws
parts_meet_laws m widths rows spec plan p rows_are units no_bus has each builds =
    let g = terms_of spec plan in
    exec_alone g p builds.ports builds.only
    (λ run is mem csrs. keeps_working g.set g.terms m (exec_signals builds.ports run) _ _ _ mem csrs _ refl no_bus
    (ap (λ cs. claims_row cs 40) rows_are ∙ no_fencei rows (each_row rows units))
    (λ number word pc a b claimed found a_fits b_fits. all_end m spec.latency.0 rows each g.set number word pc a b (ap (λ cs. claims_row cs number) (sym rows_are) ∙ claimed) found a_fits b_fits)
    (working m widths p has builds run is))

pub part_is_done : (m : Machine) (widths : List ℕ) (takes : Service → Bool) (e : ℕ) (w : World) → BuildsWorking m widths (part_in takes e w)
    → ((s : Service) → offers w.reg e s ≡ is_among (Exec ∷ []) s) → IsDone e w
part_is_done m widths takes e w builds offered =
    offered_done takes Exec e w builds.ports builds.only.is builds.wires builds.regs (λ k row is none. builds.arrays k row is) (offered Fetch) (offered DataBus)
