use Rattle.std.proofs.Common.{◌∙◌, sym}
use Rattle.verilog_mean.specs.Cycle.{value}
use Rattle.core_sim.specs.Joint.{joint_inputs}
use Rattle.core_sim.proofs.Outputs.{event_is, write_is, write_none}
use Rattle.core_sim.proofs.bench.Bench.cycle.Goals as goal

pub returns-clause-event : goal.returns-clause-event
returns-clause-event c = λ m j core h.
    let p = c.step-write.ensures.passed m j core h in
    c.event.ensures ∙ event_is m (value m j.core (joint_inputs c.args.number c.args.lines j)) c.as_slice.result.now c.step-write.new.self.places (c.as_slice.ensures.value ∙ p.outs)
    core p.fit p.next.places c.args.number c.if-number-eq0.false

pub returns-clause-next : goal.returns-clause-next
returns-clause-next c = λ m j core h. (c.step-write.ensures.passed m j core h).next

pub returns-then-number-eq0-clause-write : goal.returns-then-number-eq0-clause-write
returns-then-number-eq0-clause-write c = λ m j core h. sym (write_none m j c.args.number c.args.lines c.if-number-eq0.true)

pub returns-clause-write : goal.returns-clause-write
returns-clause-write c = λ m j core h. c.step-write.ensures.write m j core h ∙ sym (write_is m j c.args.number c.args.lines c.if-number-eq0.false)
