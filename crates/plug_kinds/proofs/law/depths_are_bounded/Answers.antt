use Rattle.plug_kinds.proofs.Bounds.{depth_least, depth_most}
use Rattle.plug_kinds.proofs.law.depths_are_bounded.Goals as goal

pub returns-clause-least : goal.returns-clause-least
returns-clause-least c = depth_least

pub returns-clause-most : goal.returns-clause-most
returns-clause-most c = depth_most
