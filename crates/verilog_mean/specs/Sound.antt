-- A sound tree: none of the nine rules refuses it. The lists of the first eight are in the order of the text; the
-- first place of the ninth is `FirstLoop`.
use Rattle.std.specs.Prelude.{◌≡◌, []}
use Rattle.verilog_tree.specs.declared.tree.Tree.{Tree}
use Rattle.verilog_mean.specs.Erase.{plain_tree}
use Rattle.verilog_mean.specs.Names.{names_twice, bad_sizes, names_unknown}
use Rattle.verilog_mean.specs.Kinds.{kinds_differ}
use Rattle.verilog_mean.specs.Widths.{selects_outside, widths_differ}
use Rattle.verilog_mean.specs.Drivers.{drivers_twice, drivers_missing}
use Rattle.verilog_mean.specs.Loops.{HasNoLoop}

pub record IsSound (t : Tree) : Type 0 where
  pub names_once : names_twice t ≡ []
  pub sizes : bad_sizes t ≡ []
  pub names_known : names_unknown t ≡ []
  pub kinds : kinds_differ t ≡ []
  pub selects : selects_outside t ≡ []
  pub widths : widths_differ t ≡ []
  pub drivers_once : drivers_twice t ≡ []
  pub driven : drivers_missing t ≡ []
  pub no_loop : HasNoLoop (plain_tree t)
