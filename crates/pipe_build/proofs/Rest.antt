-- All that is driven once, step by step.
use Rattle.std.proofs.Common.{◌≡◌, ◌∙◌, ℕ, ◌+◌, ◌<◌, ◌≤◌, Bool, true, false, eqb, List, [], ◌∷◌, length, refl, sym, ap, subst, arith, inl, inr}
use Rattle.std.proofs.lemmas.Bool.{eqb-true, eq-eqb, or_cases, or_left, or_right, both_ways, false_from_ne_true}
use Rattle.hw_pool.specs.Nodes.{PoolValue}
use Rattle.hw_expr.specs.declared.net.Net.{Net}
use Rattle.hw_module.specs.declared.rows.Owner.TheVariants.{Pipe}
use Rattle.hw_module.specs.declared.rows.RegRow.{RegRow}
use Rattle.hw_module.specs.declared.rows.WireRow.{WireRow}
use Rattle.hw_module.specs.Frame.{Grows}
use Rattle.hw_module.specs.Rights.{MayDrive}
use Rattle.hw_module.specs.Rows.{ModuleValue, out_at, reg_at, wire_at}
use Rattle.hw_module.proofs.Fits.{grown_fits}
use Rattle.hw_module.proofs.Frames.{grows_then}
use Rattle.hw_module.proofs.Makes.{makes_then}
use Rattle.plug_part.specs.Owned.{is_among}
use Rattle.pipe_drive.specs.Drives.{CanDriveAll, CanMoveAll, CanShow, CanShowAll, DrivesOnly, HasDrivers, HasNexts, HasOuts, MovesOnly, ShowsOnly, targets}
use Rattle.pipe_build.specs.declared.nets.Offers.{Offers}
use Rattle.pipe_build.specs.declared.nets.PipeNets.{PipeNets}
use Rattle.pipe_build.specs.Rest.{CanRest, HasRest, RestOnly, bus_drives, reg_list, system_list, told_drives, wire_drives}

-- ---- what can be driven still can, and what is driven is so still

module _ {old new : ModuleValue} {n : ℕ} (grows : Grows old new n) (pool : PoolValue) where
  pub wires_behind : length new.wires ≡ length old.wires → (xs : List (ℕ × Net)) → ((k : ℕ) → is_among k (targets xs) ≡ true → wire_at new.wires k ≡ wire_at old.wires k)
      → CanDriveAll old pool xs → CanDriveAll new pool xs
  wires_behind count [] same h = tt
  wires_behind count (x ∷ xs) same h =
      let row : wire_at new.wires x.0 ≡ wire_at old.wires x.0 = same x.0 (or_left (eqb x.0 x.0) (is_among x.0 (targets xs)) (eq-eqb x.0 x.0 refl)) in (
        record {
          there = let l = h.0.there in omega arith;
          free = ap (λ (r : WireRow). r.driver) row ∙ h.0.free;
          fits = grown_fits old new n pool x.1 grows h.0.fits;
          width = h.0.width ∙ sym (ap (λ (r : WireRow). r.width) row);
          below = subst (λ (r : WireRow). x.1.level < r.level) (sym row) h.0.below;
        },
        wires_behind count xs (λ k is. same k (or_right (eqb k x.0) (is_among k (targets xs)) is)) h.1,
      )

  pub regs_behind : new.regs ≡ old.regs → (k : ℕ) (xs : List Net) → CanMoveAll old pool k xs → CanMoveAll new pool k xs
  regs_behind same k [] h = tt
  regs_behind same k (x ∷ xs) h =
      let row : reg_at new.regs k ≡ reg_at old.regs k = ap (λ rows. reg_at rows k) same in (
        record {
          there = let e = ap length same in let l = h.0.there in omega arith;
          own = ap (λ (r : RegRow). r.owner) row ∙ h.0.own;
          free = ap (λ (r : RegRow). r.next) row ∙ h.0.free;
          fits = grown_fits old new n pool x grows h.0.fits;
          width = h.0.width ∙ sym (ap (λ (r : RegRow). r.width) row);
        },
        regs_behind same (k + 1) xs h.1,
      )

  one_behind : {port : ℕ} {net : Net} → out_at new.outs port ≡ out_at old.outs port → CanShow old pool port net → CanShow new pool port net
  one_behind {port} {net} same h = record { there = h.there; output = h.output; free = same ∙ h.free; fits = grown_fits old new n pool net grows h.fits; width = h.width }

  pub outs_behind : (xs : List (ℕ × Net)) → ((k : ℕ) → is_among k (targets xs) ≡ true → out_at new.outs k ≡ out_at old.outs k) → CanShowAll old pool xs → CanShowAll new pool xs
  outs_behind [] same h = tt
  outs_behind (x ∷ xs) same h = (
    one_behind (same x.0 (or_left (eqb x.0 x.0) (is_among x.0 (targets xs)) (eq-eqb x.0 x.0 refl))) h.0,
    outs_behind xs (λ k is. same k (or_right (eqb k x.0) (is_among k (targets xs)) is)) h.1,
  )

module _ (old new : ModuleValue) where
  pub drivers_same : (xs : List (ℕ × Net)) → ((k : ℕ) → is_among k (targets xs) ≡ true → wire_at new.wires k ≡ wire_at old.wires k) → HasDrivers old xs → HasDrivers new xs
  drivers_same [] same h = tt
  drivers_same (x ∷ xs) same h = (
    ap (λ (r : WireRow). r.driver) (same x.0 (or_left (eqb x.0 x.0) (is_among x.0 (targets xs)) (eq-eqb x.0 x.0 refl))) ∙ h.0,
    drivers_same xs (λ k is. same k (or_right (eqb k x.0) (is_among k (targets xs)) is)) h.1,
  )

  pub nexts_same : new.regs ≡ old.regs → (k : ℕ) (xs : List Net) → HasNexts old k xs → HasNexts new k xs
  nexts_same same k [] h = tt
  nexts_same same k (x ∷ xs) h = (ap (λ rows. (reg_at rows k).next) same ∙ h.0, nexts_same same (k + 1) xs h.1)

  pub outs_same : (xs : List (ℕ × Net)) → ((k : ℕ) → is_among k (targets xs) ≡ true → out_at new.outs k ≡ out_at old.outs k) → HasOuts old xs → HasOuts new xs
  outs_same [] same h = tt
  outs_same (x ∷ xs) same h = (
    same x.0 (or_left (eqb x.0 x.0) (is_among x.0 (targets xs)) (eq-eqb x.0 x.0 refl)) ∙ h.0,
    outs_same xs (λ k is. same k (or_right (eqb k x.0) (is_among k (targets xs)) is)) h.1,
  )

-- ---- ports of events are not those of the data bus

abbrev AllLow : List ℕ → Type 0
AllLow [] = Unit {0}
AllLow (x ∷ xs) = (x < 20) × AllLow xs

low : (xs : List ℕ) (k : ℕ) → AllLow xs → is_among k xs ≡ true → k < 20
low [] k h is = absurd (both_ways false refl is)
low (x ∷ xs) k h is = elim (or_cases (eqb k x) (is_among k xs) is) [
  | inl here ↦ let e : k ≡ x = eqb-true k x here in let l = h.0 in omega arith
  | inr later ↦ low xs k h.1 later
]

abbrev AllHigh : List ℕ → Type 0
AllHigh [] = Unit {0}
AllHigh (x ∷ xs) = (20 ≤ x) × AllHigh xs

high : (xs : List ℕ) (k : ℕ) → AllHigh xs → is_among k xs ≡ true → 20 ≤ k
high [] k h is = absurd (both_ways false refl is)
high (x ∷ xs) k h is = elim (or_cases (eqb k x) (is_among k xs) is) [
  | inl here ↦ let e : k ≡ x = eqb-true k x here in let l = h.0 in omega arith
  | inr later ↦ high xs k h.1 later
]

pub bus_low : (b : Bool) (n : PipeNets) (k : ℕ) → is_among k (targets (bus_drives b n)) ≡ true → k < 20
bus_low true n k is = absurd (both_ways false refl is)
bus_low false n k is = low (8 ∷ 10 ∷ 11 ∷ 12 ∷ 13 ∷ []) k (omega arith, (omega arith, (omega arith, (omega arith, (omega arith, tt))))) is

pub told_high : (n : PipeNets) (k : ℕ) → is_among k (targets (told_drives n)) ≡ true → 20 ≤ k
told_high n k is = high (20 ∷ 21 ∷ 22 ∷ 23 ∷ 24 ∷ 25 ∷ 26 ∷ 27 ∷ 28 ∷ 29 ∷ []) k
    (omega arith, (omega arith, (omega arith, (omega arith, (omega arith, (omega arith, (omega arith, (omega arith, (omega arith, (omega arith, tt)))))))))) is

-- ---- the steps

module _ {a b : ModuleValue} {pool : PoolValue} {wire reg : ℕ} {o : Offers} {has_bus : Bool} {n : PipeNets} (can : CanRest a pool wire reg o has_bus n)
    (one : DrivesOnly (targets (wire_drives wire o n)) a b 34) where
  -- an input of System is none of the others
  beside : (k : ℕ) → is_among k (targets (wire_drives wire o n)) ≡ true → is_among k (targets (system_list o.system n)) ≡ false
  beside k is = false_from_ne_true _ (λ there. both_ways (is_among k (targets (wire_drives wire o n))) (can.beside k there) is)

  pub can_system : CanDriveAll b pool (system_list o.system n)
  can_system = wires_behind one.grows pool one.count (system_list o.system n) (λ k is. one.others k (can.beside k is)) can.system

  module _ {c : ModuleValue} (two : DrivesOnly (targets (system_list o.system n)) b c 5) where
    two_steps : Grows a c 39
    two_steps = grows_then a b c 34 5 39 one.grows two.grows (omega arith)

    pub can_regs : CanMoveAll c pool reg (reg_list n)
    can_regs = regs_behind two_steps pool (two.regs ∙ one.regs) reg (reg_list n) can.regs

    module _ {d : ModuleValue} (three : MovesOnly reg c d 15) where
      three_steps : Grows a d 54
      three_steps = grows_then a c d 39 15 54 two_steps three.grows (omega arith)

      kept_outs : d.outs ≡ a.outs
      kept_outs = three.outs ∙ two.outs ∙ one.outs

      pub can_told : CanShowAll d pool (told_drives n)
      can_told = outs_behind three_steps pool (told_drives n) (λ k is. ap (λ os. out_at os k) kept_outs) can.told

      module _ {e : ModuleValue} (four : ShowsOnly (targets (told_drives n)) d e 10) where
        four_steps : Grows a e 64
        four_steps = grows_then a d e 54 10 64 three_steps four.grows (omega arith)

        -- a port of the data bus tells no event
        bus_beside : (k : ℕ) → is_among k (targets (bus_drives has_bus n)) ≡ true → is_among k (targets (told_drives n)) ≡ false
        bus_beside k is = false_from_ne_true _ (λ told. let l = bus_low has_bus n k is in let h = told_high n k told in omega (arith, l, h))

        told_beside : (k : ℕ) → is_among k (targets (told_drives n)) ≡ true → is_among k (targets (bus_drives has_bus n)) ≡ false
        told_beside k is = false_from_ne_true _ (λ bus. let l = bus_low has_bus n k bus in let h = told_high n k is in omega (arith, l, h))

        pub can_bus : CanShowAll e pool (bus_drives has_bus n)
        can_bus = outs_behind four_steps pool (bus_drives has_bus n) (λ k is. four.others k (bus_beside k is) ∙ ap (λ os. out_at os k) kept_outs) can.bus

        module _ {f : ModuleValue} (five : ShowsOnly (targets (bus_drives has_bus n)) e f 5) where
          wires_end : f.wires ≡ c.wires
          wires_end = five.wires ∙ four.wires ∙ three.wires

          regs_end : f.regs ≡ d.regs
          regs_end = five.regs ∙ four.regs

          pub has_rest : HasDrivers b (wire_drives wire o n) → HasDrivers c (system_list o.system n) → HasNexts d reg (reg_list n) → HasOuts e (told_drives n) → HasOuts f (bus_drives has_bus n)
              → HasRest f wire reg o has_bus n
          has_rest w s r t u = record {
            wires = drivers_same b f (wire_drives wire o n) (λ k is. ap (λ rows. wire_at rows k) wires_end ∙ two.others k (beside k is)) w;
            system = drivers_same c f (system_list o.system n) (λ k is. ap (λ rows. wire_at rows k) wires_end) s;
            regs = nexts_same d f regs_end reg (reg_list n) r;
            told = outs_same e f (told_drives n) (λ k is. five.others k (told_beside k is)) t;
            bus = u;
          }

          pub only_rest : RestOnly wire reg o has_bus n a f
          only_rest = record {
            grows = grows_then a e f 64 5 69 four_steps five.grows (omega arith);
            others = λ k far far'. ap (λ rows. wire_at rows k) wires_end ∙ two.others k far' ∙ one.others k far;
            below = λ k l. ap (λ rows. reg_at rows k) regs_end ∙ three.below k l ∙ ap (λ rows. reg_at rows k) (two.regs ∙ one.regs);
            above = λ k l. ap (λ rows. reg_at rows k) regs_end ∙ three.above k l ∙ ap (λ rows. reg_at rows k) (two.regs ∙ one.regs);
            outs = λ k far far'. five.others k far' ∙ four.others k far ∙ ap (λ os. out_at os k) kept_outs;
            count = ap length wires_end ∙ two.count ∙ one.count;
            count_regs = ap length regs_end ∙ three.count ∙ ap length (two.regs ∙ one.regs);
            arrays = five.arrays ∙ four.arrays ∙ three.arrays ∙ two.arrays ∙ one.arrays;
            makes = λ r ws ss ts us.
                makes_then Pipe r a e f 64 5 69
                (makes_then Pipe r a d e 54 10 64
                (makes_then Pipe r a c d 39 15 54
                (makes_then Pipe r a b c 34 5 39 (one.makes r ws) (two.makes r (λ k is. subst (λ (row : WireRow). MayDrive Pipe r row.owner k) (sym (one.others k (can.beside k is))) (ss k is))) (omega arith))
                (three.makes r) (omega arith))
                (four.makes r ts) (omega arith))
                (five.makes r us) (omega arith);
          }
