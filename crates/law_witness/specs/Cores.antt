-- The sets of the cores that are met.
use Rattle.std.specs.Prelude.{ℕ, Bool, true, false, not, ◌&&◌}
use Rattle.isa_model.specs.Machine.{Set}
use Rattle.plug_law.specs.Table.{is_bus_group, is_system_row, row_numbered}

-- all rows, with CSRs
abbrev pub all_rows : Set
all_rows = record { claims = λ number. true; system = true }

-- the rows that need neither CSRs nor the data bus, without CSRs
abbrev pub is_small : (number : ℕ) → Bool
is_small number = not (is_bus_group (row_numbered number).group) && not (is_system_row number)

abbrev pub small_rows : Set
small_rows = record { claims = is_small; system = false }
