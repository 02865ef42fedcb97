use Rattle.plug_kit.proofs.Found.{some_if, at_some}
use Rattle.plug_kit.proofs.find.own_array.Goals as goal

pub unwrap-requires : goal.unwrap-requires
unwrap-requires c = some_if _ _ _ c.first_array.ensures (λ none. none c.requires.owns.0 c.requires.owns.1 c.requires.owns.2)

pub returns-clause-there : goal.returns-clause-there
returns-clause-there c = (at_some _ _ _ _ c.first_array.ensures c.unwrap.ensures).0

pub returns-clause-owner : goal.returns-clause-owner
returns-clause-owner c = (at_some _ _ _ _ c.first_array.ensures c.unwrap.ensures).1

pub returns-clause-least : goal.returns-clause-least
returns-clause-least c = (at_some _ _ _ _ c.first_array.ensures c.unwrap.ensures).2
