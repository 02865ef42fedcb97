-- Outputs of the core are driven one behind the other.
use Rattle.std.proofs.Common.{◌≡◌, ◌∙◌, ℕ, suc, Bool, true, false, eqb, ◌||◌, List, [], ◌∷◌, length, refl, sym, ap, arith}
use Rattle.std.proofs.lemmas.Bool.{eq-eqb, or_parts, both_ways}
use Rattle.hw_pool.specs.Nodes.{PoolValue}
use Rattle.hw_expr.specs.declared.net.Net.{Net}
use Rattle.hw_module.specs.declared.rows.Owner.TheVariants.{Pipe}
use Rattle.hw_module.specs.Frame.{Grows}
use Rattle.hw_module.specs.Rights.{Rights, Makes}
use Rattle.hw_module.specs.Rows.{ModuleValue, out_at}
use Rattle.hw_module.proofs.Fits.{grown_fits}
use Rattle.hw_module.proofs.Frames.{grows_then}
use Rattle.hw_module.proofs.Makes.{makes_then}
use Rattle.plug_part.specs.Owned.{is_among}
use Rattle.pipe_drive.specs.Drives.{CanShowAll, ShowsOnly, targets}

-- what a call leaves that drives one output
pub record ShowsOne (port : ℕ) (old new : ModuleValue) : Type 0 where
  pub others : (k : ℕ) → (k ≡ port → ⊥) → out_at new.outs k ≡ out_at old.outs k
  pub count : length new.outs ≡ length old.outs
  pub wires : new.wires ≡ old.wires
  pub regs : new.regs ≡ old.regs
  pub arrays : new.arrays ≡ old.arrays
  pub grows : Grows old new 1
  pub makes : (r : Rights) → r.outs port ≡ true → Makes Pipe r old new 1

module _ {port : ℕ} {old new : ModuleValue} (one : ShowsOne port old new) where
  pub can_show : (pool : PoolValue) (xs : List (ℕ × Net)) → is_among port (targets xs) ≡ false → CanShowAll old pool xs → CanShowAll new pool xs
  can_show pool [] far h = tt
  can_show pool (x ∷ xs) far h =
      let apart = or_parts (eqb port x.0) (is_among port (targets xs)) far in (
        record {
          there = h.0.there;
          output = h.0.output;
          free = one.others x.0 (λ e. both_ways (eqb port x.0) apart.0 (eq-eqb port x.0 (sym e))) ∙ h.0.free;
          fits = grown_fits old new 1 pool x.1 one.grows h.0.fits;
          width = h.0.width;
        },
        can_show pool xs apart.1 h.1,
      )

  pub shows_more : (ps : List ℕ) (last : ModuleValue) (n total : ℕ) → ShowsOnly ps new last n → total ≡ suc n → ShowsOnly (port ∷ ps) old last total
  shows_more ps last n total next sum = record {
    grows = grows_then old new last 1 n total one.grows next.grows (omega arith);
    others = λ k far. let apart = or_parts (eqb k port) (is_among k ps) far in next.others k apart.1 ∙ one.others k (λ e. both_ways (eqb k port) apart.0 (eq-eqb k port e));
    count = next.count ∙ one.count;
    wires = next.wires ∙ one.wires;
    regs = next.regs ∙ one.regs;
    arrays = next.arrays ∙ one.arrays;
    makes = λ r may. makes_then Pipe r old new last 1 n total
        (one.makes r (may port (ap (λ b. b || is_among port ps) (eq-eqb port port refl))))
        (next.makes r (λ k is. may k (among k (eqb k port) is)))
        (omega arith);
  }
    where
      among : (k : ℕ) (b : Bool) → is_among k ps ≡ true → (b || is_among k ps) ≡ true
      among k true is = refl
      among k false is = is
