-- The sizes of the cache of an entry without a fault.
use Rattle.std.specs.Prelude.{◌≡◌, ℕ, ◌^◌, ◌≤◌, List, None}
use Rattle.stage_map.specs.declared.config.Param.{Param}
use Rattle.plug_kinds.specs.declared.kind.Kind.TheVariants as kind
use Rattle.plug_kinds.specs.Kinds.{fault_of}
use Rattle.plug_icache.specs.Sizes.{lines_of, log_of, words_of}

-- the numbers of lines and of words in a line are the powers of two of their logarithms: from 2 to 1024, and from 2 to 16
pub record ArePowers (ps : List Param) : Type 0 where
  pub lines : 2 ^ log_of (lines_of ps) ≡ lines_of ps
  pub some_lines : 1 ≤ log_of (lines_of ps)
  pub few_lines : log_of (lines_of ps) ≤ 10
  pub words : 2 ^ log_of (words_of ps) ≡ words_of ps
  pub some_words : 1 ≤ log_of (words_of ps)
  pub few_words : log_of (words_of ps) ≤ 4

abbrev pub IcacheSizesArePowers : Type 0
IcacheSizesArePowers = (ps : List Param) → fault_of kind.Icache ps ≡ None → ArePowers ps
