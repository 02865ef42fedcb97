use Rattle.std.proofs.Common.{◌≡◌, ◌∙◌, ℕ, suc, ◌+◌, ◌*◌, ◌<◌, ◌≤◌, inl, inr, ⊎_elim, refl, ap, sym, subst, arith, eq-or-lt_of_le}
use Rattle.hw_pool.specs.Meaning.{Env}
use Rattle.hw_gates.specs.Places.{IsIn}
use Rattle.hw_gates.proofs.Steps.{adds_of, none, step_as, ◌▸◌}
use Rattle.hw_module.proofs.Drivers.{drivers_stay}
use Rattle.plug_fetch.specs.Machine.{Now, before, held_after}
use Rattle.plug_fetch.specs.Machine as machine
use Rattle.plug_fetch.specs.Registers.{Drives, IsOpenPlace, IsPlaceDriven, seen_in}
use Rattle.plug_fetch.proofs.Drives.{drives_then, drives_none}
use Rattle.plug_fetch.proofs.Driven.{open_stays, place_stays, seen_stays}
use Rattle.plug_fetch.proofs.places.drive_places.Goals as goal

pub loop-i-init : goal.loop-i-init
loop-i-init c =
    let n = c.lit-before.ensures in
    record {
      driven = λ j l. absurd (omega arith);
      before_is = n.value;
      last_is = λ k e. absurd (omega arith);
      before_net = (n.net, n.width, (let e = n.level in omega arith));
      before_in = n.scope _;
      last_net = (n.net, n.width, (let e = n.level in omega arith));
      last_in = n.scope _;
      others = λ k h. refl;
      drives = drives_none c.args.b.now;
      drivers = drivers_stay c.args.b.now.design c.args.pool.now c.lit-before.new.pool 1 (adds_of _ _ 1 n.step) c.requires.drivers;
      step = n.step;
    }

pub one_place-nets-requires-clause-open : goal.one_place-nets-requires-clause-open
one_place-nets-requires-clause-open c = λ j from l.
    let inv = c.loop-i.invariant in
    let count = inv.drives.count in
    let first : ℕ = c.args.first in
    let i : ℕ = c.loop-i.i in
    subst (λ e. IsOpenPlace c.loop-i.b.design e (first + 4 * j)) (sym inv.drives.entry)
    (open_stays c.args.b.now.design c.loop-i.b.design c.args.b.now.entry (first + 4 * j) (omega arith)
    (λ k a b. inv.others k (inr (omega arith))) (c.requires.open j l))

pub loop-i-preserved : goal.loop-i-preserved
loop-i-preserved c =
    let first : ℕ = c.args.first in
    let depth : ℕ = c.args.depth in
    let i : ℕ = c.loop-i.i in
    let inv = c.loop-i.invariant in
    let p = c.one_place-nets.ensures in
    let old = c.args.pool.now in
    let mid = c.loop-i.pool in
    let new = c.one_place-nets.new.pool in
    let seen : (env : Env) → seen_in env mid c.args.c first ≡ seen_in env old c.args.c first = λ env. seen_stays old mid (21 * i + 1) inv.step c.args.c c.requires.cycle env first in
    let here : IsPlaceDriven c.one_place-nets.new.b.design new c.args.b.now.entry first depth i (λ env. seen_in env old c.args.c first) =
    subst (λ e. IsPlaceDriven c.one_place-nets.new.b.design new e first depth i (λ env. seen_in env old c.args.c first)) inv.drives.entry
    (place_stays c.one_place-nets.new.b.design c.one_place-nets.new.b.design new new 0 c.loop-i.b.entry first depth i _ _ (none new) (λ k a b. refl) seen p.driven) in
    record {
      driven = λ j l. ⊎_elim
          (λ (q : j ≡ i). subst (λ k. IsPlaceDriven c.one_place-nets.new.b.design new c.args.b.now.entry first depth k (λ env. seen_in env old c.args.c first)) (sym q) here)
          (λ (q : j < i). place_stays c.loop-i.b.design c.one_place-nets.new.b.design mid new 21 c.args.b.now.entry first depth j _ _ p.step
          (λ k a b. p.others k (inl (omega arith))) (λ env. refl) (inv.driven j q))
          (eq-or-lt_of_le (let m : j < i + 1 = l in let n : j ≤ i = omega arith in n));
      before_is = λ env. p.moved env ∙ (ap (λ (x : Now). machine.moved depth x i) (seen env) ∙ ap (λ k. before depth (seen_in env old c.args.c first) k) (let e : suc i ≡ i + 1 = omega arith in e));
      last_is = λ k e env. p.held env ∙ (ap (λ (x : Now). held_after depth x i) (seen env) ∙ ap (λ k. held_after depth (seen_in env old c.args.c first) k) (let q : i ≡ k = omega arith in q));
      before_net = p.nets.moved;
      before_in = subst (λ s. IsIn s new c.one_place-nets.result.moved) inv.drives.scope p.scope.moved;
      last_net = p.nets.held;
      last_in = subst (λ s. IsIn s new c.one_place-nets.result.held) inv.drives.scope p.scope.held;
      others = λ k q. p.others k (⊎_elim (λ (a : k < first). inl (omega arith)) (λ (a : first + 4 * (i + 1) ≤ k). inr (omega arith)) q)
          ∙ inv.others k (⊎_elim (λ (a : k < first). inl a) (λ (a : first + 4 * (i + 1) ≤ k). inr (omega arith)) q);
      drives = drives_then c.args.b.now c.loop-i.b c.one_place-nets.new.b (4 * i) 4 (4 * (i + 1)) inv.drives p.drives (omega arith);
      drivers = p.drivers;
      step = step_as old new ((21 * i + 1) + 21) (21 * (i + 1) + 1) (omega arith) (inv.step ▸ p.step);
    }

pub returns-clause-drives : goal.returns-clause-drives
returns-clause-drives c =
    let inv = c.loop-i.invariant in
    subst (λ k. Drives (4 * k) c.args.b.now c.loop-i.b) (let e : c.loop-i.i ≡ c.args.depth = omega arith in e) inv.drives
