-- The style of a part, by the parameters of the entry that it took.
use Rattle.std.specs.Prelude.{List, cond, codes}
use Rattle.core_words.specs.Names.{same_name}
use Rattle.stage_map.specs.declared.config.Param.{Param}
use Rattle.stage_map.specs.declared.config.ParamValue.{ParamValue}
use Rattle.stage_map.specs.declared.config.ParamValue.TheVariants.{Num, Flag, Word}
use Rattle.plug_kinds.specs.declared.kind.Kind.TheVariants as kind
use Rattle.plug_kinds.specs.Kinds.{value_of}
use Rattle.plug_predict.specs.declared.styles.Style.{Style}
use Rattle.plug_predict.specs.declared.styles.Style.TheVariants.{Next, Static}

-- the style that a value names; a value that names none, which no entry that is taken has, counts as Next
abbrev pub style_named : ParamValue → Style
style_named (Word w) = cond (same_name w (codes "static")) Static Next
style_named (Num n) = Next
style_named (Flag b) = Next

-- the style that the parameters give, or the default of the kind
abbrev pub style_of : List Param → Style
style_of params = style_named (value_of kind.Predict params (codes "style"))
