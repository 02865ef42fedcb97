use Rattle.std.proofs.Common.{ℕ, sym, subst, arith}
use Rattle.std.proofs.lemmas.Bool.Decides.{not_from_Decides}
use Rattle.service_reg.specs.Services.{OfferedOnce}
use Rattle.service_reg.proofs.Offers.{once_more}
use Rattle.service_reg.proofs.offer.first_double.Goals as goal

pub loop-n-preserved-then-is_exec : goal.loop-n-preserved-then-is_exec
loop-n-preserved-then-is_exec c =
    once_more c.args.specs.now c.loop-n.n c.service_of-service.result c.service_of-service.ensures c.loop-n.invariant
    (λ d. absurd (d (c.is_exec.ensures.0 c.if-is_exec.true)))

pub returns-in-Some : goal.returns-in-Some
returns-in-Some c = record {
  not_exec = not_from_Decides c.is_exec.result c.is_exec.ensures c.if-is_exec.false;
  double = c.in-Some.ensures.0;
  services = subst (λ (k : ℕ). OfferedOnce c.args.specs.now k) (sym c.service_of-service.ensures) c.loop-n.invariant;
  pairs = c.in-Some.ensures.1;
}

pub loop-n-preserved : goal.loop-n-preserved
loop-n-preserved c =
    once_more c.args.specs.now c.loop-n.n c.service_of-service.result c.service_of-service.ensures c.loop-n.invariant (λ d. c.in_default.ensures)

pub returns : goal.returns
returns c = λ s l. let t = c.loop-n-test.false in c.loop-n.invariant s (omega (arith, l, t))
