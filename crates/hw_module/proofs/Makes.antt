-- Steps of building within the rights of an owner.
use Rattle.std.proofs.Common.{◌≡◌, ◌∙◌, ℕ, ◌+◌, ◌<◌, ◌≤◌, length, refl, arith, ap, sym, subst, true, inl, inr}
use Rattle.std.proofs.lemmas.Bool.{cases_lt, both_ways}
use Rattle.hw_module.specs.declared.rows.Owner.{Owner}
use Rattle.hw_module.specs.Rows.{ModuleValue, wire_at, reg_at, array_at, out_at}
use Rattle.hw_module.specs.Frame.{Grows}
use Rattle.hw_module.proofs.Frames.{grows_then}
use Rattle.hw_module.proofs.Fits.{grows_same}
use Rattle.hw_module.specs.Rights.{Rights, MayDrive, Makes}

-- only a row that is new differs
pub made_wire : (by : Owner) (r : Rights) (old new : ModuleValue) (n : ℕ) (number : ℕ) → Grows old new n → number ≡ length old.wires → length new.wires ≡ length old.wires + 1
    → (wire_at new.wires number).owner ≡ by → ((k : ℕ) → k < length old.wires → wire_at new.wires k ≡ wire_at old.wires k)
    → new.regs ≡ old.regs → new.arrays ≡ old.arrays → new.outs ≡ old.outs → Makes by r old new n
made_wire by r old new n number grows at count made before regs arrays outs = record {
  grows = grows;
  wires = λ k h no may. before k h;
  locked = λ k h is may. before k h;
  regs = λ k h no. ap (λ rs. reg_at rs k) regs;
  arrays = λ k h no. ap (λ rs. array_at rs k) arrays;
  outs = λ p no. ap (λ os. out_at os p) outs;
  new_wires = λ k h l. let e : number ≡ k = omega arith in subst (λ j. (wire_at new.wires j).owner ≡ by) e made;
  new_regs = λ k h l. absurd (let e : length new.regs ≡ length old.regs = ap length regs in omega arith);
  new_arrays = λ k h l. absurd (let e : length new.arrays ≡ length old.arrays = ap length arrays in omega arith);
}

pub made_reg : (by : Owner) (r : Rights) (old new : ModuleValue) (n : ℕ) (number : ℕ) → Grows old new n → number ≡ length old.regs → length new.regs ≡ length old.regs + 1
    → (reg_at new.regs number).owner ≡ by → ((k : ℕ) → k < length old.regs → reg_at new.regs k ≡ reg_at old.regs k)
    → new.wires ≡ old.wires → new.arrays ≡ old.arrays → new.outs ≡ old.outs → Makes by r old new n
made_reg by r old new n number grows at count made before wires arrays outs = record {
  grows = grows;
  wires = λ k h no may. ap (λ rs. wire_at rs k) wires;
  locked = λ k h is may. ap (λ rs. wire_at rs k) wires;
  regs = λ k h no. before k h;
  arrays = λ k h no. ap (λ rs. array_at rs k) arrays;
  outs = λ p no. ap (λ os. out_at os p) outs;
  new_wires = λ k h l. absurd (let e : length new.wires ≡ length old.wires = ap length wires in omega arith);
  new_regs = λ k h l. let e : number ≡ k = omega arith in subst (λ j. (reg_at new.regs j).owner ≡ by) e made;
  new_arrays = λ k h l. absurd (let e : length new.arrays ≡ length old.arrays = ap length arrays in omega arith);
}

pub made_array : (by : Owner) (r : Rights) (old new : ModuleValue) (n : ℕ) (number : ℕ) → Grows old new n → number ≡ length old.arrays → length new.arrays ≡ length old.arrays + 1
    → (array_at new.arrays number).owner ≡ by → ((k : ℕ) → k < length old.arrays → array_at new.arrays k ≡ array_at old.arrays k)
    → new.wires ≡ old.wires → new.regs ≡ old.regs → new.outs ≡ old.outs → Makes by r old new n
made_array by r old new n number grows at count made before wires regs outs = record {
  grows = grows;
  wires = λ k h no may. ap (λ rs. wire_at rs k) wires;
  locked = λ k h is may. ap (λ rs. wire_at rs k) wires;
  regs = λ k h no. ap (λ rs. reg_at rs k) regs;
  arrays = λ k h no. before k h;
  outs = λ p no. ap (λ os. out_at os p) outs;
  new_wires = λ k h l. absurd (let e : length new.wires ≡ length old.wires = ap length wires in omega arith);
  new_regs = λ k h l. absurd (let e : length new.regs ≡ length old.regs = ap length regs in omega arith);
  new_arrays = λ k h l. let e : number ≡ k = omega arith in subst (λ j. (array_at new.arrays j).owner ≡ by) e made;
}

-- only one row has changed, and it may
pub set_wire : (by : Owner) (r : Rights) (old new : ModuleValue) (n : ℕ) (wire : ℕ) → Grows old new n → MayDrive by r (wire_at old.wires wire).owner wire
    → ((k : ℕ) → (k ≡ wire → ⊥) → wire_at new.wires k ≡ wire_at old.wires k) → length new.wires ≡ length old.wires
    → new.regs ≡ old.regs → new.arrays ≡ old.arrays → new.outs ≡ old.outs → Makes by r old new n
set_wire by r old new n wire grows may others count regs arrays outs = record {
  grows = grows;
  wires = λ k h no free. others k (λ e. elim may [
    | inl own ↦ no (subst (λ j. (wire_at old.wires j).owner ≡ by) (sym e) own.0)
    | inr right ↦ both_ways (r.wires k) free (ap r.wires e ∙ right)
  ]);
  locked = λ k h is free. others k (λ e. elim may [
    | inl own ↦ both_ways (r.locked k) (ap r.locked e ∙ own.1) is
    | inr right ↦ both_ways (r.wires k) free (ap r.wires e ∙ right)
  ]);
  regs = λ k h no. ap (λ rs. reg_at rs k) regs;
  arrays = λ k h no. ap (λ rs. array_at rs k) arrays;
  outs = λ p no. ap (λ os. out_at os p) outs;
  new_wires = λ k h l. absurd (omega arith);
  new_regs = λ k h l. absurd (let e : length new.regs ≡ length old.regs = ap length regs in omega arith);
  new_arrays = λ k h l. absurd (let e : length new.arrays ≡ length old.arrays = ap length arrays in omega arith);
}

pub set_reg : (by : Owner) (r : Rights) (old new : ModuleValue) (n : ℕ) (reg : ℕ) → Grows old new n → (reg_at old.regs reg).owner ≡ by
    → ((k : ℕ) → (k ≡ reg → ⊥) → reg_at new.regs k ≡ reg_at old.regs k) → length new.regs ≡ length old.regs
    → new.wires ≡ old.wires → new.arrays ≡ old.arrays → new.outs ≡ old.outs → Makes by r old new n
set_reg by r old new n reg grows own others count wires arrays outs = record {
  grows = grows;
  wires = λ k h no may. ap (λ rs. wire_at rs k) wires;
  locked = λ k h is may. ap (λ rs. wire_at rs k) wires;
  regs = λ k h no. others k (λ e. no (subst (λ j. (reg_at old.regs j).owner ≡ by) (sym e) own));
  arrays = λ k h no. ap (λ rs. array_at rs k) arrays;
  outs = λ p no. ap (λ os. out_at os p) outs;
  new_wires = λ k h l. absurd (let e : length new.wires ≡ length old.wires = ap length wires in omega arith);
  new_regs = λ k h l. absurd (omega arith);
  new_arrays = λ k h l. absurd (let e : length new.arrays ≡ length old.arrays = ap length arrays in omega arith);
}

pub set_array : (by : Owner) (r : Rights) (old new : ModuleValue) (n : ℕ) (array : ℕ) → Grows old new n → (array_at old.arrays array).owner ≡ by
    → ((k : ℕ) → (k ≡ array → ⊥) → array_at new.arrays k ≡ array_at old.arrays k) → length new.arrays ≡ length old.arrays
    → new.wires ≡ old.wires → new.regs ≡ old.regs → new.outs ≡ old.outs → Makes by r old new n
set_array by r old new n array grows own others count wires regs outs = record {
  grows = grows;
  wires = λ k h no may. ap (λ rs. wire_at rs k) wires;
  locked = λ k h is may. ap (λ rs. wire_at rs k) wires;
  regs = λ k h no. ap (λ rs. reg_at rs k) regs;
  arrays = λ k h no. others k (λ e. no (subst (λ j. (array_at old.arrays j).owner ≡ by) (sym e) own));
  outs = λ p no. ap (λ os. out_at os p) outs;
  new_wires = λ k h l. absurd (let e : length new.wires ≡ length old.wires = ap length wires in omega arith);
  new_regs = λ k h l. absurd (let e : length new.regs ≡ length old.regs = ap length regs in omega arith);
  new_arrays = λ k h l. absurd (omega arith);
}

pub set_out : (by : Owner) (r : Rights) (old new : ModuleValue) (n : ℕ) (port : ℕ) → Grows old new n → r.outs port ≡ true
    → ((k : ℕ) → (k ≡ port → ⊥) → out_at new.outs k ≡ out_at old.outs k)
    → new.wires ≡ old.wires → new.regs ≡ old.regs → new.arrays ≡ old.arrays → Makes by r old new n
set_out by r old new n port grows right others wires regs arrays = record {
  grows = grows;
  wires = λ k h no may. ap (λ rs. wire_at rs k) wires;
  locked = λ k h is may. ap (λ rs. wire_at rs k) wires;
  regs = λ k h no. ap (λ rs. reg_at rs k) regs;
  arrays = λ k h no. ap (λ rs. array_at rs k) arrays;
  outs = λ p no. others p (λ e. both_ways (r.outs p) no (ap r.outs e ∙ right));
  new_wires = λ k h l. absurd (let e : length new.wires ≡ length old.wires = ap length wires in omega arith);
  new_regs = λ k h l. absurd (let e : length new.regs ≡ length old.regs = ap length regs in omega arith);
  new_arrays = λ k h l. absurd (let e : length new.arrays ≡ length old.arrays = ap length arrays in omega arith);
}

-- nothing is made
pub makes_nothing : (by : Owner) (r : Rights) (m : ModuleValue) → Makes by r m m 0
makes_nothing by r m = record {
  grows = grows_same m;
  wires = λ k h no may. refl;
  locked = λ k h is may. refl;
  regs = λ k h no. refl;
  arrays = λ k h no. refl;
  outs = λ p no. refl;
  new_wires = λ k h l. absurd (omega arith);
  new_regs = λ k h l. absurd (omega arith);
  new_arrays = λ k h l. absurd (omega arith);
}

-- steps one behind the other
pub makes_then : (by : Owner) (r : Rights) (a b c : ModuleValue) (m n total : ℕ) → Makes by r a b m → Makes by r b c n → m + n ≤ total → Makes by r a c total
makes_then by r a b c m n total first second sum = record {
  grows = grows_then a b c m n total first.grows second.grows sum;
  wires = λ k h no may.
      let same = first.wires k h no may in
      second.wires k (omega (arith, first.grows.more_wires)) (λ e. no (sym (first.grows.wires k h).owner ∙ e)) may ∙ same;
  locked = λ k h is may. second.locked k (omega (arith, first.grows.more_wires)) is may ∙ first.locked k h is may;
  regs = λ k h no. second.regs k (omega (arith, first.grows.more_regs)) (λ e. no (sym (first.grows.regs k h).owner ∙ e)) ∙ first.regs k h no;
  arrays = λ k h no. second.arrays k (omega (arith, first.grows.more_arrays)) (λ e. no (sym (first.grows.arrays k h).owner ∙ e)) ∙ first.arrays k h no;
  outs = λ p no. second.outs p no ∙ first.outs p no;
  new_wires = λ k h l. elim (cases_lt k (length b.wires)) [
    | inl below ↦ (second.grows.wires k below).owner ∙ first.new_wires k h below
    | inr above ↦ second.new_wires k above l
  ];
  new_regs = λ k h l. elim (cases_lt k (length b.regs)) [
    | inl below ↦ (second.grows.regs k below).owner ∙ first.new_regs k h below
    | inr above ↦ second.new_regs k above l
  ];
  new_arrays = λ k h l. elim (cases_lt k (length b.arrays)) [
    | inl below ↦ (second.grows.arrays k below).owner ∙ first.new_arrays k h below
    | inr above ↦ second.new_arrays k above l
  ];
}
