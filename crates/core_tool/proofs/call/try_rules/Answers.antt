use Rattle.std.proofs.Common.{refl, subst, codes, arith}
use Rattle.core_host.specs.declared.host.Port.TheVariants.{Main}
use Rattle.core_host.specs.Outside.{Appends, IsCut}
use Rattle.core_tool.specs.Call.{outside_of}
use Rattle.core_tool.proofs.Calls.{Rose-earlier}
use Rattle.core_tool.proofs.CallEnds.{accepted, config_ends, gives, judged, unaccepted}
use Rattle.core_tool.proofs.Pulls.{pulled_config}
use Rattle.core_tool.proofs.call.try_rules.Goals as goal

pub returns-in-Err-clause-ends : goal.returns-in-Err-clause-ends
returns-in-Err-clause-ends g c = config_ends _ c.args.name.now c.in-Err.end refl (c.configure.ensures.ports Main) refl c.in-Err.ensures.ends

pub returns-in-Err-clause-pulled : goal.returns-in-Err-clause-pulled
returns-in-Err-clause-pulled g c =
    pulled_config _ c.args.name.now (g.H.Host.left c.configure.new.host) (g.H.Host.read_faults c.configure.new.host) refl (λ m. refl) (omega arith) c.configure.ensures.pulled

pub returns-in-Err-judge-clause-ends : goal.returns-in-Err-judge-clause-ends
returns-in-Err-judge-clause-ends g c =
    judged _ c.in-Ok.config c.in-Err-judge.end tt (gives _ c.args.name.now c.in-Ok.config refl c.in-Ok.ensures.allowed c.in-Ok.ensures.given)
    (c.configure.ensures.ports Main) c.in-Err-judge.ensures.ends

pub returns-in-Err-judge-clause-pulled : goal.returns-in-Err-judge-clause-pulled
returns-in-Err-judge-clause-pulled g c =
    pulled_config _ c.args.name.now (g.H.Host.left c.configure.new.host) (g.H.Host.read_faults c.configure.new.host) refl (λ m. refl) (omega arith) c.configure.ensures.pulled

pub returns-in-Ok-push_all-clause-ends : goal.returns-in-Ok-push_all-clause-ends
returns-in-Ok-push_all-clause-ends g c =
    accepted c.args.name.now _ _ (outside_of g.H.Host c.args.host.now) (outside_of g.H.Host c.push_all.new.host) c.in-Ok.config
    (gives _ c.args.name.now c.in-Ok.config refl c.in-Ok.ensures.allowed c.in-Ok.ensures.given) c.in-Ok-judge.ensures.accepted
    (subst (λ p. Appends p (codes "accepted\n") (g.H.Host.pushed c.push_all.new.host Main)) (c.configure.ensures.ports Main) c.in-Ok-push_all.ensures.whole)

pub returns-in-Ok-push_all-clause-pulled : goal.returns-in-Ok-push_all-clause-pulled
returns-in-Ok-push_all-clause-pulled g c =
    pulled_config _ c.args.name.now (g.H.Host.left c.configure.new.host) (g.H.Host.read_faults c.configure.new.host) refl c.push_all.ensures.left c.push_all.ensures.reads c.configure.ensures.pulled

pub returns-clause-ends : goal.returns-clause-ends
returns-clause-ends g c =
    unaccepted c.args.name.now _ _ (outside_of g.H.Host c.args.host.now) (outside_of g.H.Host c.push_all.new.host) c.in-Ok.config
    (gives _ c.args.name.now c.in-Ok.config refl c.in-Ok.ensures.allowed c.in-Ok.ensures.given) c.in-Ok-judge.ensures.accepted
    (subst (λ p. IsCut p (codes "accepted\n") (g.H.Host.pushed c.push_all.new.host Main)) (c.configure.ensures.ports Main) c.in-Err-push_all.ensures.part)
    (Rose-earlier _ _ _ c.configure.ensures.writes c.in-Err-push_all.ensures.cause)

pub returns-clause-pulled : goal.returns-clause-pulled
returns-clause-pulled g c =
    pulled_config _ c.args.name.now (g.H.Host.left c.configure.new.host) (g.H.Host.read_faults c.configure.new.host) refl c.push_all.ensures.left c.push_all.ensures.reads c.configure.ensures.pulled
