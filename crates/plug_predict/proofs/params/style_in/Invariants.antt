use Rattle.std.proofs.Common.{◌≡◌, codes, drop}
use Rattle.stage_map.specs.declared.config.ParamValue.TheVariants.{Word}
use Rattle.plug_kinds.specs.Kinds.{given_or}
use Rattle.plug_predict.proofs.params.style_in.Given as goal

abbrev pub invariant-loop-param : goal.invariant-loop-param
invariant-loop-param l = given_or (Word (codes "static")) (drop l.param-index l.params) (codes "style") ≡ given_or (Word (codes "static")) l.params (codes "style")
