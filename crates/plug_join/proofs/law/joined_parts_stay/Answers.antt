use Rattle.plug_join.proofs.Ends.{built_stays}
use Rattle.plug_join.proofs.law.joined_parts_stay.Goals as goal

pub returns : goal.returns
returns g c = λ spec boxes plan by r most old new h fits apart b same leaves. built_stays spec boxes plan by r most old new fits apart b same leaves h
