use Rattle.std.proofs.Common.{◌≡◌, pos, drop}
use Rattle.stage_map.specs.declared.config.ParamValue.TheVariants.{Num}
use Rattle.plug_kinds.specs.Kinds.{given_or}
use Rattle.plug_kinds.proofs.latency.number_in.Given as goal

abbrev pub invariant-loop-param : goal.invariant-loop-param
invariant-loop-param l = given_or (Num (pos l.default)) (drop l.param-index l.params) l.key ≡ given_or (Num (pos l.default)) l.params l.key
