-- Registers get their next values one behind the other.
use Rattle.std.proofs.Common.{◌≡◌, ◌∙◌, ℕ, suc, ◌+◌, ◌<◌, List, [], ◌∷◌, length, sym, ap, arith}
use Rattle.hw_pool.specs.Nodes.{PoolValue}
use Rattle.hw_expr.specs.declared.net.Net.{Net}
use Rattle.hw_module.specs.declared.rows.Owner.TheVariants.{Pipe}
use Rattle.hw_module.specs.declared.rows.RegRow.{RegRow}
use Rattle.hw_module.specs.Frame.{Grows}
use Rattle.hw_module.specs.Rights.{Rights, Makes}
use Rattle.hw_module.specs.Rows.{ModuleValue, reg_at}
use Rattle.hw_module.proofs.Fits.{grown_fits}
use Rattle.hw_module.proofs.Frames.{grows_then}
use Rattle.hw_module.proofs.Makes.{makes_then}
use Rattle.pipe_drive.specs.Drives.{CanMoveAll, MovesOnly}

-- what a call leaves that gives one register its next value
pub record MovesOne (reg : ℕ) (old new : ModuleValue) : Type 0 where
  pub others : (k : ℕ) → (k ≡ reg → ⊥) → reg_at new.regs k ≡ reg_at old.regs k
  pub count : length new.regs ≡ length old.regs
  pub wires : new.wires ≡ old.wires
  pub arrays : new.arrays ≡ old.arrays
  pub outs : new.outs ≡ old.outs
  pub grows : Grows old new 1
  pub makes : (r : Rights) → Makes Pipe r old new 1

module _ {reg : ℕ} {old new : ModuleValue} (one : MovesOne reg old new) where
  pub can_move : (pool : PoolValue) (k : ℕ) (xs : List Net) → reg < k → CanMoveAll old pool k xs → CanMoveAll new pool k xs
  can_move pool k [] far h = tt
  can_move pool k (x ∷ xs) far h =
      let same : reg_at new.regs k ≡ reg_at old.regs k = one.others k (λ e. absurd (omega arith)) in (
        record {
          there = let c = one.count in let l = h.0.there in omega arith;
          own = ap (λ (r : RegRow). r.owner) same ∙ h.0.own;
          free = ap (λ (r : RegRow). r.next) same ∙ h.0.free;
          fits = grown_fits old new 1 pool x one.grows h.0.fits;
          width = h.0.width ∙ sym (ap (λ (r : RegRow). r.width) same);
        },
        can_move pool (k + 1) xs (omega arith) h.1,
      )

  pub moves_more : (last : ModuleValue) (n total : ℕ) → MovesOnly (reg + 1) new last n → total ≡ suc n → MovesOnly reg old last total
  moves_more last n total next sum = record {
    grows = grows_then old new last 1 n total one.grows next.grows (omega arith);
    below = λ k l. next.below k (omega arith) ∙ one.others k (λ e. absurd (omega arith));
    above = λ k l. next.above k (omega arith) ∙ one.others k (λ e. absurd (omega arith));
    count = next.count ∙ one.count;
    wires = next.wires ∙ one.wires;
    arrays = next.arrays ∙ one.arrays;
    outs = next.outs ∙ one.outs;
    makes = λ r. makes_then Pipe r old new last 1 n total (one.makes r) (next.makes r) (omega arith);
  }
