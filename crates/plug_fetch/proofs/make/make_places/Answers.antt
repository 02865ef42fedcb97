use Rattle.std.proofs.Common.{◌≡◌, ℕ, ◌+◌, ◌*◌, ◌<◌, ◌≤◌, ⊎_elim, subst, arith, eq-or-lt_of_le, length}
use Rattle.plug_fetch.specs.Registers.{IsOpenPlace, MakesRegs}
use Rattle.plug_fetch.proofs.Drives.{regs_none, regs_then}
use Rattle.plug_fetch.proofs.Driven.{open_at, open_stays}
use Rattle.plug_fetch.proofs.make.make_places.Goals as goal

pub loop-i-init : goal.loop-i-init
loop-i-init c = record { places = λ j l. absurd (omega arith); makes = regs_none c.args.b.now }

pub make_place-requires : goal.make_place-requires
make_place-requires c = let room = c.loop-i.invariant.makes.room in omega arith

pub loop-i-preserved : goal.loop-i-preserved
loop-i-preserved c =
    let inv = c.loop-i.invariant in
    let p = c.make_place.ensures in
    let i : ℕ = c.loop-i._i in
    let e = c.args.b.now.entry in
    let n : ℕ = length c.args.b.now.design.regs in
    let mid = c.loop-i.b.design in
    let new = c.make_place.new.b.design in
    let here : IsOpenPlace new e (length mid.regs) = subst (λ x. IsOpenPlace new x (length mid.regs)) inv.makes.entry p.place in
    record {
      places = λ j l. ⊎_elim
          (λ (q : j ≡ i). open_at new e (length mid.regs) (n + 4 * j) (let a = inv.makes.count in omega arith) here)
          (λ (q : j < i).
          let h = inv.places j q in
          open_stays mid new e (n + 4 * j) (let a = p.makes.count in omega arith) (λ k a b. p.makes.before k (let t = h.there in omega arith)) h)
          (eq-or-lt_of_le (let m : j < i + 1 = l in let n : j ≤ i = omega arith in n));
      makes = regs_then c.args.b.now c.loop-i.b c.make_place.new.b (4 * i) 4 (4 * (i + 1)) inv.makes p.makes (omega arith);
    }

pub returns-clause-places : goal.returns-clause-places
returns-clause-places c = λ j l. c.loop-i.invariant.places j (omega arith)

pub returns-clause-makes : goal.returns-clause-makes
returns-clause-makes c = subst (λ k. MakesRegs (4 * k) c.args.b.now c.loop-i.b) (let e : c.loop-i._i ≡ c.args.depth = omega arith in e) c.loop-i.invariant.makes
