use Rattle.std.proofs.Common.{OnOk, OnErr, sym, ap, ◌∙◌, subst}
use Rattle.core_host.specs.declared.host.Port.TheVariants.{Notes}
use Rattle.core_host.specs.Outside.{Appends, IsCut}
use Rattle.core_tool.specs.Ends.{line_of}
use Rattle.core_tool.proofs.ends.push_line.Goals as goal

pub returns-in-Exited-clause-whole : goal.returns-in-Exited-clause-whole
returns-in-Exited-clause-whole g c =
    let a = c.push_pieces-in-Exited in
    subst (λ l. OnOk a.result (Appends (g.H.Host.pushed c.args.host.now Notes) l (g.H.Host.pushed a.new.host Notes)))
    (c.exit_pieces.ensures ∙ sym (ap line_of c.in-Exited.is)) a.ensures.whole

pub returns-in-Stopped-clause-whole : goal.returns-in-Stopped-clause-whole
returns-in-Stopped-clause-whole g c =
    let a = c.push_pieces-in-Stopped in
    subst (λ l. OnOk a.result (Appends (g.H.Host.pushed c.args.host.now Notes) l (g.H.Host.pushed a.new.host Notes)))
    (c.stopped_pieces.ensures ∙ sym (ap line_of c.in-Stopped.is)) a.ensures.whole

pub returns-in-Stopped-clause-part : goal.returns-in-Stopped-clause-part
returns-in-Stopped-clause-part g c =
    let a = c.push_pieces-in-Stopped in
    subst (λ l. OnErr a.result (IsCut (g.H.Host.pushed c.args.host.now Notes) l (g.H.Host.pushed a.new.host Notes)))
    (c.stopped_pieces.ensures ∙ sym (ap line_of c.in-Stopped.is)) a.ensures.part
