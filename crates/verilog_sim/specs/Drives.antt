-- The drivers of a module in an order of its items.
use Rattle.std.specs.Prelude.{ℕ, List, [], ◌∷◌, Option, Some, None}
use Rattle.verilog_mean.specs.Plain.{Expr, Item}
use Rattle.verilog_mean.specs.Look.{put}
use Rattle.verilog_mean.specs.Erase.{plain}
use Rattle.verilog_mean.specs.Order.{drive_at}
use Rattle.verilog_resolve.specs.declared.driver.WireDriver.{WireDriver}

-- a driver as the meaning sees it
abbrev pub drive : WireDriver → List ℕ × Expr
drive d = (d.name.now, plain d.value.now)

abbrev pub maybe_drive : Option WireDriver → Option (List ℕ × Expr)
maybe_drive None = None
maybe_drive (Some d) = Some (drive d)

abbrev pub drives_by : List Item → (order : List ℕ) → List (List ℕ × Expr)
drives_by items [] = []
drives_by items (n ∷ ns) = put (drive_at items n) (drives_by items ns)
