-- What the fields of a row say of its action: whether it depends on the registers, and whether it has a value.
use Rattle.std.specs.Prelude.{◌≡◌, ℕ, ◌^◌, ◌<◌, Bool, true, false}
use Rattle.isa_table.specs.Rows.{Action, TableRow, meets}
use Rattle.isa_table.specs.Rows.Action.{Computes, Jumps, Branches, Loads, Stores, Fences, FencesFetches, CallsEnvironment, Breaks, AccessesCsr, Returns, Waits}

-- for some word of the row two values of register rs1 make a difference
pub record DependsOnA (row : TableRow) : Type 0 where
  pub pc : ℕ
  pub word : ℕ
  pub a : ℕ
  pub other : ℕ
  pub b : ℕ
  pub fits : (word < 2 ^ 32) × (a < 2 ^ 32) × (other < 2 ^ 32) × (b < 2 ^ 32)
  pub of_row : meets word row ≡ true
  pub differs : row.action pc word a b ≡ row.action pc word other b → ⊥

-- two values of register rs2 do
pub record DependsOnB (row : TableRow) : Type 0 where
  pub pc : ℕ
  pub word : ℕ
  pub a : ℕ
  pub b : ℕ
  pub other : ℕ
  pub fits : (word < 2 ^ 32) × (a < 2 ^ 32) × (b < 2 ^ 32) × (other < 2 ^ 32)
  pub of_row : meets word row ≡ true
  pub differs : row.action pc word a b ≡ row.action pc word a other → ⊥

-- an instruction with this action has a value where it retires
abbrev pub gives_value : Action → Bool
gives_value (Computes value) = true
gives_value (Jumps value target) = true
gives_value (Branches is_taken target) = false
gives_value (Loads addr size is_signed) = true
gives_value (Stores addr size value) = false
gives_value Fences = false
gives_value FencesFetches = false
gives_value CallsEnvironment = false
gives_value Breaks = false
gives_value (AccessesCsr number change operand writes) = true
gives_value Returns = false
gives_value Waits = false

-- the row's fields say no more and no less than its action does
pub record IsExact (row : TableRow) : Type 0 where
  pub a_used : row.uses_a ≡ true → DependsOnA row
  pub a_free : row.uses_a ≡ false → (pc word a other b : ℕ) → row.action pc word a b ≡ row.action pc word other b
  pub b_used : row.uses_b ≡ true → DependsOnB row
  pub b_free : row.uses_b ≡ false → (pc word a b other : ℕ) → row.action pc word a b ≡ row.action pc word a other
  pub value : (pc word a b : ℕ) → row.has_value ≡ gives_value (row.action pc word a b)
