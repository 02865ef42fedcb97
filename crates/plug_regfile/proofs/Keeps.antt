-- The parts of this kind meet their laws.
use Rattle.std.proofs.Common.{◌≡◌, ◌∙◌, ℕ, zero, suc, ◌^◌, ◌<◌, Bool, true, false, eqb, cond, List, length, get_or, set, refl, ap, sym, subst}
use Rattle.std.specs.Prelude.{All, replicate}
use Rattle.std.proofs.lemmas.Bool.{eqb-true, eq-eqb}
use Rattle.std.proofs.lemmas.List.Elements.{All-replicate}
use Rattle.core_words.specs.Values.{one_if, choose}
use Rattle.hw_pool.specs.Meaning.{Env}
use Rattle.isa_model.specs.Machine.{register}
use Rattle.plug_law.specs.RegFile.{regs_at, RegLaw}
use Rattle.plug_part.specs.Part.{Part}
use Rattle.plug_part.specs.Runs.{IsPartRun}
use Rattle.plug_part.specs.Signals.{reg_signals}
use Rattle.plug_part.specs.Things.{input_in}
use Rattle.plug_part.specs.Meets.{MeetsReg}
use Rattle.plug_part.proofs.Things.{array_many, array_fits, array_next}
use Rattle.plug_part.proofs.OneService.{regfile_alone}
use Rattle.plug_regfile.specs.Machine.{shown_of, read_of, after}
use Rattle.plug_regfile.specs.Builds.{BuildsRegFile, RegFilePartsMeetLaws, RegFilePartsStart, RegFilePartsChange}

reads : (cells : List ℕ) (r : ℕ) → read_of cells r ≡ register cells r
unfolding shown_of
reads cells r = pick (eqb r 0) (get_or cells r 0)
  where
    pick : (b : Bool) (x : ℕ) → choose (one_if b) 0 x ≡ elim b [ true ↦ 0 | false ↦ x ]
    pick true x = refl
    pick false x = refl

module _ (p : Part) (b : BuildsRegFile p) (run : ℕ → Env) (is : IsPartRun p run) where
  change : (k : ℕ) → (run (suc k)).cells b.array ≡ after ((run k).cells b.array) (input_in b.ports 2 (run k)) (input_in b.ports 3 (run k)) (input_in b.ports 4 (run k))
  unfolding after
  change = array_next p run is b.array 32 5 (input_in b.ports 2) (input_in b.ports 3) (input_in b.ports 4) b.cells

  cells_are : (k : ℕ) → (run k).cells b.array ≡ regs_at (reg_signals b.ports run) ((run 0).cells b.array) k
  unfolding regs_at after
  cells_are zero = refl
  cells_are (suc k) =
      change k
      ∙ (λ i. cond (eqb (input_in b.ports 2 (run k)) 1) (set (cells_are k i) (input_in b.ports 3 (run k)) (input_in b.ports 4 (run k))) (cells_are k i))

  keeps : RegLaw (reg_signals b.ports run) ((run 0).cells b.array)
  keeps = record {
    a = λ k. b.reads.a (run k) ∙ (reads _ _ ∙ ap (λ (l : List ℕ). register l (input_in b.ports 0 (run k))) (cells_are k));
    b = λ k. b.reads.b (run k) ∙ (reads _ _ ∙ ap (λ (l : List ℕ). register l (input_in b.ports 1 (run k))) (cells_are k));
  }

pub parts_start : RegFilePartsStart
parts_start = keeps

pub parts_change : RegFilePartsChange
parts_change = change

-- 32 numbers: these where they are as many, else zeros
whole : List ℕ → List ℕ
whole cells = cond (eqb (length cells) 32) cells (replicate 32 0)

whole_size : (cells : List ℕ) → length (whole cells) ≡ 32
unfolding whole
whole_size cells = pick (eqb (length cells) 32) refl
  where
    pick : (b : Bool) → eqb (length cells) 32 ≡ b → length (cond b cells (replicate 32 0)) ≡ 32
    pick true e = eqb-true (length cells) 32 e
    pick false e = refl

whole_zeros : (cells : List ℕ) → All (λ v. v ≡ 0) cells → All (λ v. v ≡ 0) (whole cells)
unfolding whole
whole_zeros cells zeros = pick (eqb (length cells) 32)
  where
    pick : (b : Bool) → All (λ v. v ≡ 0) (cond b cells (replicate 32 0))
    pick true = zeros
    pick false = All-replicate (λ v. v ≡ 0) 32 0 refl

whole_is : (cells : List ℕ) → length cells ≡ 32 → whole cells ≡ cells
unfolding whole
whole_is cells many = ap (λ (b : Bool). cond b cells (replicate 32 0)) (eq-eqb (length cells) 32 many)

meets : (p : Part) (b : BuildsRegFile p) → MeetsReg p b.ports
meets p b = record {
  start = λ regs cells. whole (cells b.array);
  own = λ e e' same. ap whole (same.cells b.array b.cells.row b.cells.is);
  size = λ regs cells. whole_size (cells b.array);
  fits = λ run is. subst (All (λ v. v < 2 ^ 32)) (sym (at_start run is)) (array_fits p run is b.array 32 5 (input_in b.ports 2) (input_in b.ports 3) (input_in b.ports 4) b.cells 0);
  zeros = λ e zero. whole_zeros (e.cells b.array) (zero.cells b.array b.cells.row b.cells.is);
  law = λ run is. subst (RegLaw (reg_signals b.ports run)) (sym (at_start run is)) (keeps p b run is);
}
  where
    at_start : (run : ℕ → Env) → IsPartRun p run → whole ((run 0).cells b.array) ≡ (run 0).cells b.array
    at_start run is = whole_is _ (array_many p run is b.array 32 5 (input_in b.ports 2) (input_in b.ports 3) (input_in b.ports 4) b.cells 0)

pub parts_meet_laws : RegFilePartsMeetLaws
parts_meet_laws g p b = regfile_alone g p b.ports b.reads.only (meets p b)
