-- Forward wires are driven one behind the other.
use Rattle.std.proofs.Common.{◌≡◌, ◌∙◌, ℕ, suc, ◌<◌, Bool, true, false, eqb, ◌||◌, List, [], ◌∷◌, length, refl, sym, ap, subst, arith, inl, inr, Some}
use Rattle.std.proofs.lemmas.Bool.{cases_Bool, eqb-true, eq-eqb, or_parts, both_ways}
use Rattle.hw_pool.specs.Nodes.{PoolValue}
use Rattle.hw_expr.specs.declared.net.Net.{Net}
use Rattle.hw_module.specs.declared.rows.Owner.{Owner}
use Rattle.hw_module.specs.declared.rows.Owner.TheVariants.{Pipe}
use Rattle.hw_module.specs.declared.rows.WireRow.{WireRow}
use Rattle.hw_module.specs.Frame.{Grows}
use Rattle.hw_module.specs.Rights.{Rights, MayDrive, Makes}
use Rattle.hw_module.specs.Rows.{ModuleValue, wire_at}
use Rattle.hw_module.proofs.Fits.{grown_fits}
use Rattle.hw_module.proofs.Frames.{grows_then}
use Rattle.hw_module.proofs.Makes.{makes_then}
use Rattle.plug_part.specs.Owned.{is_among}
use Rattle.pipe_drive.specs.Drives.{CanDriveAll, DrivesOnly, targets}

-- what a call leaves that drives one forward wire
pub record DrivesOne (wire : ℕ) (net : Net) (old new : ModuleValue) : Type 0 where
  pub driven : wire_at new.wires wire ≡ record (wire_at old.wires wire) { driver = Some net }
  pub others : (k : ℕ) → (k ≡ wire → ⊥) → wire_at new.wires k ≡ wire_at old.wires k
  pub count : length new.wires ≡ length old.wires
  pub regs : new.regs ≡ old.regs
  pub arrays : new.arrays ≡ old.arrays
  pub outs : new.outs ≡ old.outs
  pub grows : Grows old new 1
  pub makes : (r : Rights) → MayDrive Pipe r (wire_at old.wires wire).owner wire → Makes Pipe r old new 1

module _ {wire : ℕ} {net : Net} {old new : ModuleValue} (one : DrivesOne wire net old new) where
  unlike : (k : ℕ) → eqb k wire ≡ false → k ≡ wire → ⊥
  unlike k far e = both_ways (eqb k wire) far (eq-eqb k wire e)

  pub can_stay : (pool : PoolValue) (xs : List (ℕ × Net)) → is_among wire (targets xs) ≡ false → CanDriveAll old pool xs → CanDriveAll new pool xs
  can_stay pool [] far h = tt
  can_stay pool (x ∷ xs) far h =
      let apart = or_parts (eqb wire x.0) (is_among wire (targets xs)) far in
      let same : wire_at new.wires x.0 ≡ wire_at old.wires x.0 = one.others x.0 (λ e. both_ways (eqb wire x.0) apart.0 (eq-eqb wire x.0 (sym e))) in (
        record {
          there = let c = one.count in let l = h.0.there in omega arith;
          free = ap (λ (r : WireRow). r.driver) same ∙ h.0.free;
          fits = grown_fits old new 1 pool x.1 one.grows h.0.fits;
          width = h.0.width ∙ sym (ap (λ (r : WireRow). r.width) same);
          below = subst (λ (r : WireRow). x.1.level < r.level) (sym same) h.0.below;
        },
        can_stay pool xs apart.1 h.1,
      )

  owner_same : (k : ℕ) → (wire_at new.wires k).owner ≡ (wire_at old.wires k).owner
  owner_same k = elim (cases_Bool (eqb k wire)) [
    | inl same ↦ let e = eqb-true k wire same in
        subst (λ j. (wire_at new.wires j).owner ≡ (wire_at old.wires j).owner) (sym e) (ap (λ (r : WireRow). r.owner) one.driven)
    | inr apart ↦ ap (λ (r : WireRow). r.owner) (one.others k (unlike k apart))
  ]

  pub only_more : (ws : List ℕ) (last : ModuleValue) (n total : ℕ) → DrivesOnly ws new last n → total ≡ suc n → DrivesOnly (wire ∷ ws) old last total
  only_more ws last n total next sum = record {
    grows = grows_then old new last 1 n total one.grows next.grows (omega arith);
    others = λ k far. let apart = or_parts (eqb k wire) (is_among k ws) far in next.others k apart.1 ∙ one.others k (unlike k apart.0);
    count = next.count ∙ one.count;
    regs = next.regs ∙ one.regs;
    arrays = next.arrays ∙ one.arrays;
    outs = next.outs ∙ one.outs;
    makes = λ r may. makes_then Pipe r old new last 1 n total
        (one.makes r (may wire (ap (λ b. b || is_among wire ws) (eq-eqb wire wire refl))))
        (next.makes r (λ k is. subst (λ (o : Owner). MayDrive Pipe r o k) (sym (owner_same k)) (may k (among k (eqb k wire) is))))
        (omega arith);
  }
    where
      among : (k : ℕ) (b : Bool) → is_among k ws ≡ true → (b || is_among k ws) ≡ true
      among k true is = refl
      among k false is = is
