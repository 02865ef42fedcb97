use Rattle.std.proofs.Common.{◌∙◌, sym, ap, arith}
use Rattle.stage_map.specs.declared.config.ParamValue.TheVariants.{Flag}
use Rattle.plug_kinds.specs.Kinds.{flag_of}
use Rattle.plug_kinds.proofs.Bounds.{given_here, given_behind}
use Rattle.plug_kinds.proofs.given.flag_in.Goals as goal

pub returns-then-is : goal.returns-then-is
returns-then-is c = c.flag_of.ensures ∙ ap flag_of (sym (given_here (Flag c.args.default) c.args.key.now c.args.params.now c.loop-param.param-index c.param-item.result
    c.loop-param-test.true c.param-item.is (c.is.ensures.0 c.if-is.true)) ∙ c.loop-param.invariant)

pub loop-param-preserved : goal.loop-param-preserved
loop-param-preserved c = sym (given_behind (Flag c.args.default) c.args.key.now c.args.params.now c.loop-param.param-index c.param-item.result
    c.loop-param-test.true c.param-item.is (λ e. grind (arith, c.is.ensures.1 e, c.if-is.false))) ∙ c.loop-param.invariant
