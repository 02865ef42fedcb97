-- Things are made one behind the other.
use Rattle.std.proofs.Common.{◌≡◌, ◌∙◌, ℕ, zero, suc, ◌+◌, ◌*◌, ◌≤◌, List, [], ◌∷◌, length, refl, ap, subst, arith, Option}
use Rattle.hw_module.specs.declared.rows.Owner.TheVariants.{Pipe}
use Rattle.hw_module.specs.Rows.{ModuleValue, reg_at, wire_at}
use Rattle.hw_module.proofs.Frames.{grows_then}
use Rattle.hw_module.proofs.Makes.{makes_then}
use Rattle.pipe_drive.specs.Rows.{AddsRegs, AddsWires, AreRegs, AreWires, IsMade, wire_levels, own_shapes, chosen_shapes, tail_shapes}

pub regs_then : {a b c : ModuleValue} {n m : ℕ} (total : ℕ) → AddsRegs a b n → AddsRegs b c m → total ≡ n + m → AddsRegs a c total
regs_then {a} {b} {c} {n} {m} total first second sum = record {
  grows = grows_then a b c n m total first.grows second.grows (omega arith);
  count = let x = first.count in let y = second.count in omega arith;
  before = λ k l. let x = first.count in second.before k (omega arith) ∙ first.before k l;
  wires = second.wires ∙ first.wires;
  arrays = second.arrays ∙ first.arrays;
  outs = second.outs ∙ first.outs;
  makes = λ r. makes_then Pipe r a b c n m total (first.makes r) (second.makes r) (omega arith);
  drivers = λ pool d. second.drivers pool (first.drivers pool d);
}

pub wires_then : {a b c : ModuleValue} {n m : ℕ} (total : ℕ) → AddsWires a b n → AddsWires b c m → total ≡ n + m → AddsWires a c total
wires_then {a} {b} {c} {n} {m} total first second sum = record {
  grows = grows_then a b c n m total first.grows second.grows (omega arith);
  count = let x = first.count in let y = second.count in omega arith;
  before = λ k l. let x = first.count in second.before k (omega arith) ∙ first.before k l;
  regs = second.regs ∙ first.regs;
  arrays = second.arrays ∙ first.arrays;
  outs = second.outs ∙ first.outs;
  makes = λ r. makes_then Pipe r a b c n m total (first.makes r) (second.makes r) (omega arith);
  drivers = λ pool d. second.drivers pool (first.drivers pool d);
}

wires_same : (old new : ModuleValue) → new.wires ≡ old.wires → (k : ℕ) (ls : List ℕ) → AreWires old k ls → AreWires new k ls
wires_same old new same k [] h = tt
wires_same old new same k (l ∷ ls) h = (ap (λ rows. wire_at rows k) same ∙ h.0, wires_same old new same (k + 1) ls h.1)

regs_stay : {old new : ModuleValue} {n : ℕ} → AddsRegs old new n → (k : ℕ) (xs : List (ℕ × Option ℕ)) → k + length xs ≤ length old.regs → AreRegs old k xs → AreRegs new k xs
regs_stay adds k [] l h = tt
regs_stay adds k (x ∷ xs) l h = (adds.before k (omega arith) ∙ h.0, regs_stay adds (k + 1) xs (omega arith) h.1)

chosen_many : (n : ℕ) → length (chosen_shapes n) ≡ n
chosen_many zero = refl
chosen_many (suc n) = ap suc (chosen_many n)

-- the four steps in which the pipeline's things are made
pub made_all : {a b c d e : ModuleValue} (reset_pc units places : ℕ) → AddsWires a b 8 → AreWires b (length a.wires) wire_levels
    → AddsRegs b c 15 → AreRegs c (length b.regs) (own_shapes reset_pc) → AddsRegs c d units → AreRegs d (length c.regs) (chosen_shapes units)
    → AddsRegs d e (3 * places) → AreRegs e (length d.regs) (tail_shapes places) → IsMade a e reset_pc units places
made_all {a} {b} {c} {d} {e} reset_pc units places w ws r rs u us t ts =
    let kept : length b.regs ≡ length a.regs = ap length w.regs in
    let first = r.count in
    let second = u.count in
    let third = t.count in
    let many = chosen_many units in
    let both : AddsRegs b d (15 + units) = regs_then _ r u refl in
    let all : AddsRegs b e (15 + units + 3 * places) = regs_then _ both t refl in
    record {
      wires = wires_same b e all.wires (length a.wires) wire_levels ws;
      regs = subst (λ n. AreRegs e n (own_shapes reset_pc)) kept (regs_stay t (length b.regs) (own_shapes reset_pc) (omega arith) (regs_stay u (length b.regs) (own_shapes reset_pc) (omega arith) rs));
      chosen = let k : length c.regs ≡ length a.regs + 15 = omega arith in subst (λ n. AreRegs e n (chosen_shapes units)) k (regs_stay t (length c.regs) (chosen_shapes units) (omega arith) us);
      tail = let k : length d.regs ≡ length a.regs + 15 + units = omega arith in subst (λ n. AreRegs e n (tail_shapes places)) k ts;
      more_wires = ap length all.wires ∙ w.count;
      more_regs = omega arith;
      wires_before = λ k l. ap (λ rows. wire_at rows k) all.wires ∙ w.before k l;
      regs_before = λ k l. all.before k (omega arith) ∙ ap (λ rows. reg_at rows k) w.regs;
      arrays = all.arrays ∙ w.arrays;
      outs = all.outs ∙ w.outs;
      makes = λ x. makes_then Pipe x a b e 8 (15 + units + 3 * places) (23 + units + 3 * places) (w.makes x) (all.makes x) (omega arith);
      drivers = λ pool h. all.drivers pool (w.drivers pool h);
    }
