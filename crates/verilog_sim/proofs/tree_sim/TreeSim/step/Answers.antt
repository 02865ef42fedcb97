use Rattle.std.proofs.Common.{ap, sym, ◌∙◌, subst}
use Rattle.verilog_mean.specs.Cycle.{next}
use Rattle.verilog_flat.specs.Cycle.{next_cells, next_regs, outputs}
use Rattle.verilog_sim.specs.Simulates.{Shows, SimulatesBy}
use Rattle.verilog_sim.proofs.tree_sim.TreeSim.step.Goals as goal

pub returns-clause-outs : goal.returns-clause-outs
returns-clause-outs c = λ m layout s inputs sim shows fits given.
    let old = c.args.self.now.flat in
    c.step.ensures.outs ∙ ap (λ i. outputs old i) (sym given) ∙ (sim s inputs old.regs.items old.cells.items shows fits).0

pub returns-clause-fit : goal.returns-clause-fit
returns-clause-fit c = λ m layout s inputs sim shows fits given.
    let old = c.args.self.now.flat in
    (sim s inputs old.regs.items old.cells.items shows fits).1

pub returns-clause-held : goal.returns-clause-held
returns-clause-held c = λ m layout s inputs sim shows fits given.
    let old = c.args.self.now.flat in
    let new = c.step.new.self in
    subst (λ regs. Shows m layout (next m s inputs) regs new.cells.items) (sym c.step.ensures.regs)
    (subst (λ cells. Shows m layout (next m s inputs) (next_regs old c.args.ins.now) cells) (sym c.step.ensures.cells)
    (subst (λ i. Shows m layout (next m s inputs) (next_regs old i) (next_cells old i)) given (sim s inputs old.regs.items old.cells.items shows fits).2))

pub returns-clause-simulates : goal.returns-clause-simulates
returns-clause-simulates c = λ m layout sim.
    let old = c.args.self.now.flat in
    let new = c.step.new.self in
    let e = c.step.ensures.same in
    subst (λ z. SimulatesBy m layout z.items new.next.items new.writes.items new.outs.items) (sym e.0)
    (subst (λ z. SimulatesBy m layout old.nodes.items z.items new.writes.items new.outs.items) (sym e.1)
    (subst (λ z. SimulatesBy m layout old.nodes.items old.next.items z.items new.outs.items) (sym e.2)
    (subst (λ z. SimulatesBy m layout old.nodes.items old.next.items old.writes.items z.items) (sym e.3) sim)))
