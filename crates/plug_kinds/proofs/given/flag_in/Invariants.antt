use Rattle.std.proofs.Common.{◌≡◌, drop}
use Rattle.stage_map.specs.declared.config.ParamValue.TheVariants.{Flag}
use Rattle.plug_kinds.specs.Kinds.{given_or}
use Rattle.plug_kinds.proofs.given.flag_in.Given as goal

abbrev pub invariant-loop-param : goal.invariant-loop-param
invariant-loop-param l = given_or (Flag l.default) (drop l.param-index l.params) l.key ≡ given_or (Flag l.default) l.params l.key
