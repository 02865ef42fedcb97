use Rattle.std.proofs.Common.{refl, ap, subst, arith, rules, ◌∙◌}
use Rattle.core_host.specs.declared.host.Port.TheVariants.{Main}
use Rattle.core_host.specs.Outside.{Appends, IsCut}
use Rattle.core_tool.specs.declared.ends.CallEnd.TheVariants.{OutOfMemory, RulesRefused}
use Rattle.core_tool.specs.Call.{outside_of}
use Rattle.core_tool.proofs.Calls.{Rose-earlier}
use Rattle.core_tool.proofs.CallEnds.{config_ends, gives, judged, unwritten, written}
use Rattle.core_tool.proofs.Pulls.{pulled_config}
use Rattle.core_tool.proofs.call.write_core.Goals as goal

pub returns-in-Err-clause-ends : goal.returns-in-Err-clause-ends
returns-in-Err-clause-ends g c = config_ends _ c.args.name.now c.in-Err.end refl (c.configure.ensures.ports Main) refl c.in-Err.ensures.ends

pub returns-in-Err-clause-pulled : goal.returns-in-Err-clause-pulled
returns-in-Err-clause-pulled g c =
    pulled_config _ c.args.name.now (g.H.Host.left c.configure.new.host) (g.H.Host.read_faults c.configure.new.host) refl (λ m. refl) (omega arith) c.configure.ensures.pulled

pub returns-in-Ok-generate-clause-ends : goal.returns-in-Ok-generate-clause-ends
returns-in-Ok-generate-clause-ends g c =
    let t = c.in-Ok-generate.ensures.done in
    written c.args.name.now _ _ (outside_of g.H.Host c.args.host.now) (outside_of g.H.Host c.generate.new.host) c.in-Ok.config t.0
    (gives _ c.args.name.now c.in-Ok.config refl c.in-Ok.ensures.allowed c.in-Ok.ensures.given) t.1
    (subst (λ p. Appends p t.0 (g.H.Host.pushed c.generate.new.host Main)) (c.configure.ensures.ports Main) t.2)

pub returns-in-Err-Rules-clause-ends : goal.returns-in-Err-Rules-clause-ends
returns-in-Err-Rules-clause-ends g c =
    let r = c.in-Err-Rules in
    judged _ c.in-Ok.config (RulesRefused r.refusal) tt (gives _ c.args.name.now c.in-Ok.config refl c.in-Ok.ensures.allowed c.in-Ok.ensures.given)
    (ap (λ h. g.H.Host.pushed h Main) (r.ensures.nothing r.refusal (search rules)) ∙ c.configure.ensures.ports Main) (r.ensures.refused r.refusal (search rules))

pub returns-in-Err-WriteFault-clause-ends : goal.returns-in-Err-WriteFault-clause-ends
returns-in-Err-WriteFault-clause-ends g c =
    let t = c.in-Err-WriteFault.ensures.cut (search rules) in
    unwritten c.args.name.now _ _ (outside_of g.H.Host c.args.host.now) (outside_of g.H.Host c.generate.new.host) c.in-Ok.config t.0
    (gives _ c.args.name.now c.in-Ok.config refl c.in-Ok.ensures.allowed c.in-Ok.ensures.given) t.1
    (subst (λ p. IsCut p t.0 (g.H.Host.pushed c.generate.new.host Main)) (c.configure.ensures.ports Main) t.2)
    (Rose-earlier _ _ _ c.configure.ensures.writes (c.in-Err-WriteFault.ensures.cause (search rules)))

pub returns-clause-ends : goal.returns-clause-ends
returns-clause-ends g c =
    judged _ c.in-Ok.config OutOfMemory tt (gives _ c.args.name.now c.in-Ok.config refl c.in-Ok.ensures.allowed c.in-Ok.ensures.given)
    (ap (λ h. g.H.Host.pushed h Main) (c.in-Err-NoMemory.ensures.memory (search rules)) ∙ c.configure.ensures.ports Main) (c.in-Err-NoMemory.ensures.short (search rules))

pub returns-in-Ok-generate-clause-pulled : goal.returns-in-Ok-generate-clause-pulled
returns-in-Ok-generate-clause-pulled g c =
    pulled_config _ c.args.name.now (g.H.Host.left c.configure.new.host) (g.H.Host.read_faults c.configure.new.host) refl c.generate.ensures.left c.generate.ensures.reads c.configure.ensures.pulled

pub returns-in-Err-Rules-clause-pulled : goal.returns-in-Err-Rules-clause-pulled
returns-in-Err-Rules-clause-pulled g c =
    pulled_config _ c.args.name.now (g.H.Host.left c.configure.new.host) (g.H.Host.read_faults c.configure.new.host) refl c.generate.ensures.left c.generate.ensures.reads c.configure.ensures.pulled

pub returns-in-Err-WriteFault-clause-pulled : goal.returns-in-Err-WriteFault-clause-pulled
returns-in-Err-WriteFault-clause-pulled g c =
    pulled_config _ c.args.name.now (g.H.Host.left c.configure.new.host) (g.H.Host.read_faults c.configure.new.host) refl c.generate.ensures.left c.generate.ensures.reads c.configure.ensures.pulled

pub returns-clause-pulled : goal.returns-clause-pulled
returns-clause-pulled g c =
    pulled_config _ c.args.name.now (g.H.Host.left c.configure.new.host) (g.H.Host.read_faults c.configure.new.host) refl c.generate.ensures.left c.generate.ensures.reads c.configure.ensures.pulled
