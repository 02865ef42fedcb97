use Rattle.std.proofs.Common.{◌<◌, sym, subst}
use Rattle.hw_cycle.proofs.Tables.{place_is, input_few}
use Rattle.hw_cycle.proofs.ports.input_place.Goals as goal

pub returns-clause-place : goal.returns-clause-place
returns-clause-place c = place_is c.args.port c.requires.there

pub returns-clause-there : goal.returns-clause-there
returns-clause-there c = subst (λ n. n < 13) (sym (place_is c.args.port c.requires.there)) (input_few c.args.port c.requires.there c.requires.input)
