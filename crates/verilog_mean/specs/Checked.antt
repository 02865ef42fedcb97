-- A tree that the checker took, with an order of its items.
use Rattle.verilog_mean.specs.declared.checked.Checked.{Checked}
use Rattle.verilog_mean.specs.Bounds.{IsBounded}
use Rattle.verilog_mean.specs.Erase.{plain_tree}
use Rattle.verilog_mean.specs.Order.{IsOrder}
use Rattle.verilog_mean.specs.Sound.{IsSound}

pub record IsChecked (c : Checked) : Type 0 where
  pub bounded : IsBounded c.tree
  pub sound : IsSound c.tree
  pub ordered : IsOrder (plain_tree c.tree) c.order.items
