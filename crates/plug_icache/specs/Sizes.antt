-- The sizes of the cache by the parameters of its entry.
use Rattle.std.specs.Prelude.{ℕ, cond, leb, List, codes}
use Rattle.stage_map.specs.declared.config.Param.{Param}
use Rattle.plug_kinds.specs.declared.kind.Kind.TheVariants as kind
use Rattle.plug_kinds.specs.Kinds.{number_of, value_of}

-- the numbers of lines and of words in a line
abbrev pub lines_of : List Param → ℕ
lines_of ps = number_of (value_of kind.Icache ps (codes "lines"))

abbrev pub words_of : List Param → ℕ
words_of ps = number_of (value_of kind.Icache ps (codes "words"))

-- the logarithm of a power of two from 2 to 1024
unfoldable pub log_of : ℕ → ℕ
log_of n =
    cond (leb n 2) 1 (cond (leb n 4) 2 (cond (leb n 8) 3 (cond (leb n 16) 4 (cond (leb n 32) 5 (cond (leb n 64) 6 (cond (leb n 128) 7 (cond (leb n 256) 8 (cond (leb n 512) 9 10))))))))
