use Rattle.std.proofs.Common.{◌∙◌, codes, sym, ap, arith}
use Rattle.stage_map.specs.declared.config.ParamValue.TheVariants.{Word}
use Rattle.plug_kinds.proofs.Bounds.{given_here, given_behind}
use Rattle.plug_predict.specs.Params.{style_named}
use Rattle.plug_predict.proofs.params.style_in.Goals as goal

pub returns-then-is : goal.returns-then-is
returns-then-is c = c.style_named.ensures ∙ ap style_named (sym (given_here (Word (codes "static")) (codes "style") c.args.params.now c.loop-param.param-index c.param-item.result
    c.loop-param-test.true c.param-item.is (c.is.ensures.0 c.if-is.true)) ∙ c.loop-param.invariant)

pub loop-param-preserved : goal.loop-param-preserved
loop-param-preserved c = sym (given_behind (Word (codes "static")) (codes "style") c.args.params.now c.loop-param.param-index c.param-item.result
    c.loop-param-test.true c.param-item.is (λ e. grind (arith, c.is.ensures.1 e, c.if-is.false))) ∙ c.loop-param.invariant
