use Rattle.std.proofs.Common.{rules, arith}
use Rattle.core_host.specs.declared.host.Port.TheVariants.{Notes}
use Rattle.core_tool.proofs.Runs.{fresh_text, never_cut, same_text}
use Rattle.core_tool.proofs.run.own_text.Goals as goal

pub returns-in-Ok-generate-clause-text : goal.returns-in-Ok-generate-clause-text
returns-in-Ok-generate-clause-text g c =
    let t = c.in-Ok-generate.ensures.done in
    same_text t.0 _ (fresh_text 16777217 t.0 c.in-Ok.ports.texts c.generate.new.host.texts c.in-Ok.ensures t.2) t.1

pub returns-in-Err-Rules-clause-ends : goal.returns-in-Err-Rules-clause-ends
returns-in-Err-Rules-clause-ends g c = c.in-Err-Rules.ensures.refused c.in-Err-Rules.refusal (search rules)

-- the text is shorter than the room of the ports
pub unreachable-requires : goal.unreachable-requires
unreachable-requires g c =
    let t = c.in-Err-WriteFault.ensures.cut (search rules) in
    let short = t.1.core.short in
    never_cut 16777217 t.0 c.in-Ok.ports.texts c.generate.new.host.texts c.in-Ok.ensures (omega (arith, short)) t.2 (c.generate.ensures.others Notes (λ e. cc))
    (c.in-Err-WriteFault.ensures.cause (search rules)) c.text.ensures.whole

pub returns-clause-ends : goal.returns-clause-ends
returns-clause-ends g c = c.in-Err-NoMemory.ensures.short (search rules)
