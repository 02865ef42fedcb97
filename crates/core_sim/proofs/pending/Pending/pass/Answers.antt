use Rattle.std.proofs.Common.{[], cond}
use Rattle.core_sim.specs.Bench.{retires}
use Rattle.core_sim.specs.Pending.{IsKept}
use Rattle.core_sim.proofs.Events.{kept_none, kept_noted, kept_settled, kept_still}
use Rattle.core_sim.proofs.pending.Pending.pass.Goals.{then-is_retired, else-is_retired}
use Rattle.core_sim.proofs.pending.Pending.pass.Goals as goal

pub returns-in-Some-clause-kept : goal.returns-in-Some-clause-kept
returns-in-Some-clause-kept c = λ ws h.
    let before : IsKept c.args.trace (cond (retires c.args.told.now.event) [] ws) c.if-is_retired.self = elim c.if-is_retired.branch [
      | then-is_retired w ↦ kept_settled c.args.trace ws c.if-is_retired.self w.settle.new.self c.args.told.now.event c.is_retired.result c.is_retired.ensures w.if-is_retired.true w.self-is
          (w.settle.ensures.kept c.args.trace)
      | else-is_retired w ↦ kept_still c.args.trace ws c.if-is_retired.self c.args.self.now c.args.told.now.event c.is_retired.result c.is_retired.ensures w.if-is_retired.false w.self-is h
    ] in
    kept_noted c.args.trace (cond (retires c.args.told.now.event) [] ws) c.note.new.self c.args.told.now.write c.in-Some.write c.in-Some.is
    (c.note.ensures.kept (cond (retires c.args.told.now.event) [] ws) before)

pub returns-in_default-clause-kept : goal.returns-in_default-clause-kept
returns-in_default-clause-kept c = λ ws h.
    let before : IsKept c.args.trace (cond (retires c.args.told.now.event) [] ws) c.if-is_retired.self = elim c.if-is_retired.branch [
      | then-is_retired w ↦ kept_settled c.args.trace ws c.if-is_retired.self w.settle.new.self c.args.told.now.event c.is_retired.result c.is_retired.ensures w.if-is_retired.true w.self-is
          (w.settle.ensures.kept c.args.trace)
      | else-is_retired w ↦ kept_still c.args.trace ws c.if-is_retired.self c.args.self.now c.args.told.now.event c.is_retired.result c.is_retired.ensures w.if-is_retired.false w.self-is h
    ] in
    kept_none c.args.trace (cond (retires c.args.told.now.event) [] ws) c.if-is_retired.self c.args.told.now.write c.in_default.is before
