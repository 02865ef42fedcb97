use Rattle.topo_sort.proofs.Moved.{left_path, enter_step, close_step, pass_step}
use Rattle.topo_sort.proofs.step.advance.Goals as goal

pub returns-in-Ok-clause-moved : goal.returns-in-Ok-clause-moved
returns-in-Ok-clause-moved c = left_path c.args.edges.now c.args.search.now c.leave.new.self c.args.top c.requires.search c.in-Leave.ensures c.in-Ok.ensures

pub returns-in-Ok-enter-clause-moved : goal.returns-in-Ok-enter-clause-moved
returns-in-Ok-enter-clause-moved c = enter_step c.args.edges.now c.args.search.now c.enter.new.self c.args.top c.in-Enter.need c.requires.within c.requires.search c.requires.top c.in-Enter.ensures c.in-Ok-enter.ensures

pub returns-in-Close-clause-stop : goal.returns-in-Close-clause-stop
returns-in-Close-clause-stop c = close_step c.args.edges.now c.args.search.now c.args.top c.in-Close.need c.requires.search c.requires.top c.in-Close.ensures

pub returns-in-Pass-clause-moved : goal.returns-in-Pass-clause-moved
returns-in-Pass-clause-moved c = pass_step c.args.edges.now c.args.search.now c.pass.new.self c.args.top c.in-Pass.done c.requires.search c.requires.top c.in-Pass.ensures c.pass.ensures
