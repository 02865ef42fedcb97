-- Where all stages are bypassed and the one in front has its result, nothing is held.
use Rattle.std.proofs.Common.{◌≡◌, ℕ, zero, suc, ◌<◌, Bool, true, false, cond, not, eqb, List, [], ◌∷◌, ◌&&◌, length, refl, ap, ◌∙◌, arith, Some}
use Rattle.plug_law.specs.Hazard.{Ahead, waits_for, writer}
use Rattle.plug_law.specs.Pipeline.{Late, Shape, finished, in_front, places}
use Rattle.pipe_law.proofs.Execute.{InExecute}
use Rattle.pipe_law.proofs.Basics.{and_l, and_no_r, or_no}
use Rattle.pipe_law.specs.Overlap.{AllBypassed}

-- a tail whose stages are bypassed holds nothing
ready_all : (b : ℕ → Bool) (n : ℕ) (xs : List Late) (r : ℕ) → ((i : ℕ) → i < length xs → b i ≡ true) → waits_for (writer b (places n xs) r) ≡ false
ready_all b zero xs r h = refl
ready_all b (suc n) [] r h = ready_all (λ i. b (suc i)) n [] r (λ i l. absurd (omega arith))
ready_all b (suc n) (x ∷ xs) r h = by (x.writes && (eqb x.rd r && not (eqb r 0))) (ready_all (λ i. b (suc i)) n xs r (λ i l. h (suc i) (omega arith)))
  where
    by : (w : Bool) → waits_for (writer (λ i. b (suc i)) (places n xs) r) ≡ false
        → waits_for (cond w (Some (record { writes = x.writes; rd = x.rd; ready = b 0; value = x.value })) (writer (λ i. b (suc i)) (places n xs) r)) ≡ false
    by true ih = ap not (h 0 (omega arith))
    by false ih = ih

-- nor does a stage in front that has its result
front_ready : (b : ℕ → Bool) (x : Ahead) (rest : List Ahead) (r : ℕ) → (x.writes ≡ true → x.ready ≡ true) → b 0 ≡ true → waits_for (writer (λ i. b (suc i)) rest r) ≡ false → waits_for (writer b (x ∷ rest) r) ≡ false
front_ready b x rest r w z later = by (x.writes && (eqb x.rd r && not (eqb r 0))) refl
  where
    by : (y : Bool) → (x.writes && (eqb x.rd r && not (eqb r 0))) ≡ y → waits_for (cond y (Some (record x { ready = x.ready && b 0 })) (writer (λ i. b (suc i)) rest r)) ≡ false
    by true e = λ i. not (w (and_l x.writes (eqb x.rd r && not (eqb r 0)) e) i && z i)
    by false e = later

module _ (c : InExecute) where
  open c use {here, laws, steps}
  open here use {core, p, run', memory, n, is_core, is_memory, honest, q, h, inv, within}

  -- short names
  abbrev sh : Shape
  sh = core.shape

  -- so nothing is held
  pub ready_takes : AllBypassed core.bypassed sh.stages → ((p.valid (suc q) && (p.slot (suc q)).writes) ≡ true → finished sh p (suc q) ≡ true) → p.hazard.hold (suc q) ≡ false
  ready_takes all w =
      laws.hazard.hold q
      ∙ or_no (p.hazard.uses_a (suc q) && waits_for (writer core.bypassed (p.hazard.stages (suc q)) (p.hazard.ra (suc q)))) (p.hazard.uses_b (suc q) && waits_for (writer core.bypassed (p.hazard.stages (suc q)) (p.hazard.rb (suc q))))
      (and_no_r (p.hazard.uses_a (suc q)) (waits_for (writer core.bypassed (p.hazard.stages (suc q)) (p.hazard.ra (suc q)))) (none (p.hazard.ra (suc q))))
      (and_no_r (p.hazard.uses_b (suc q)) (waits_for (writer core.bypassed (p.hazard.stages (suc q)) (p.hazard.rb (suc q)))) (none (p.hazard.rb (suc q))))
    where
      none : (r : ℕ) → waits_for (writer core.bypassed (p.hazard.stages (suc q)) r) ≡ false
      none r =
          let l = steps.tail_long q in
          ap (λ s. waits_for (writer core.bypassed s r)) (steps.stages q)
          ∙ front_ready core.bypassed (in_front sh p (suc q)) (places 2 (p.tail (suc q))) r w (all 0 (omega arith))
          (ready_all (λ i. core.bypassed (suc i)) 2 (p.tail (suc q)) r (λ i g. all (suc i) (omega arith)))
