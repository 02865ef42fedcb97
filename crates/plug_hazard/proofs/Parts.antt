-- The parts of this kind meet their laws.
use Rattle.std.proofs.Common.{ℕ, suc, Bool, eqb, get_or, refl, sym, ap}
use Rattle.hw_pool.specs.Meaning.{Env, value}
use Rattle.plug_part.specs.Part.{Part, tree_at}
use Rattle.plug_part.specs.Runs.{IsPartRun}
use Rattle.plug_part.specs.Signals.{hazard_signals, reg_signals}
use Rattle.plug_part.proofs.Things.{wire_fits, wire_is}
use Rattle.plug_part.proofs.OneService.{hazard_alone}
use Rattle.plug_hazard.specs.Law.{Now, IsHazard}
use Rattle.plug_hazard.specs.Builds.{now_in, BuildsHazard, HazardPartsMeetLaws, HazardPartsBypass}
use Rattle.plug_hazard.proofs.Keeps.{keeps_law}

module _ (bypassed : ℕ → Bool) (p : Part) (b : BuildsHazard bypassed p) (run : ℕ → Env) (is : IsPartRun p run) where
  abbrev q : ℕ → Now
  q k = now_in b.ports b.wire_a b.wire_b (run k)

  is_hazard : IsHazard bypassed q (hazard_signals b.ports run) (reg_signals b.regs run)
  is_hazard = record {
    bits = λ s. (
      wire_fits p run is (get_or b.ports.inputs 0 0) 1 b.over.writes.0 (suc s),
      wire_fits p run is (get_or b.ports.inputs 2 0) 1 b.over.ready.0 (suc s),
      (
        wire_fits p run is (get_or b.ports.inputs 4 0) 1 b.over.writes.1 (suc s),
        wire_fits p run is (get_or b.ports.inputs 6 0) 1 b.over.ready.1 (suc s),
        (wire_fits p run is (get_or b.ports.inputs 8 0) 1 b.over.writes.2 (suc s), wire_fits p run is (get_or b.ports.inputs 10 0) 1 b.over.ready.2 (suc s), tt),
      ),
    );
    uses_a_bit = λ s. wire_fits p run is (get_or b.ports.inputs 14 0) 1 b.over.uses_a (suc s);
    uses_b_bit = λ s. wire_fits p run is (get_or b.ports.inputs 15 0) 1 b.over.uses_b (suc s);
    stages = λ s. refl;
    ra = λ s. refl;
    rb = λ s. refl;
    uses_a = λ s. refl;
    uses_b = λ s. refl;
    plain_a = λ s. sym (wire_is p run is b.wire_a (λ env. value env (tree_at b.regs.outputs 0)) b.drives_a (suc s));
    plain_b = λ s. sym (wire_is p run is b.wire_b (λ env. value env (tree_at b.regs.outputs 1)) b.drives_b (suc s));
    a = λ s. b.over.a (run (suc s));
    b = λ s. b.over.b (run (suc s));
    hold = λ s. ap (λ n. eqb n 1) (b.over.hold (run (suc s)));
  }

pub parts_bypass : HazardPartsBypass
parts_bypass bypassed p b run is = keeps_law bypassed (q bypassed p b run is) (hazard_signals b.ports run) (reg_signals b.regs run) (is_hazard bypassed p b run is)

pub parts_meet_laws : HazardPartsMeetLaws
parts_meet_laws bypassed g p b = hazard_alone g p b.ports b.regs b.over.only b.took (record { bypassed = bypassed; law = λ run is. parts_bypass bypassed p b run is })
