-- A module in which each wire is one operator over names, as a writer of nodes writes it.
use Rattle.std.specs.Prelude.{ℕ, Bool, List}
use Rattle.verilog_tree.specs.declared.expr.BinSign.{BinSign}

-- one operator over names
pub data Value : Type 0 where
  Constant : (width value : ℕ) → Value
  Copy : (name : List ℕ) → Value
  Bits : (name : List ℕ) (high low : ℕ) → Value
  Cell : (array index : List ℕ) → Value
  Not : (name : List ℕ) → Value
  Both : (sign : BinSign) (left right : List ℕ) → Value
  Choice : (test first second : List ℕ) → Value
  Join : (high low : List ℕ) → Value

pub data Line : Type 0 where
  -- a wire that is driven elsewhere, and one with its driver
  Wire : (width : ℕ) (name : List ℕ) → Line
  Net : (width : ℕ) (name : List ℕ) (value : Value) → Line
  Reg : (width : ℕ) (name : List ℕ) → Line
  -- 2 ^ bits cells
  Array : (width : ℕ) (name : List ℕ) (bits : ℕ) → Line
  Assign : (target source : List ℕ) → Line
  Next : (target source : List ℕ) → Line
  -- a start value while `reset` is 1, of this width
  Reset : (target : List ℕ) (width start : ℕ) (source : List ℕ) → Line
  Write : (enable target index source : List ℕ) → Line

pub record Port : Type 0 where
  pub input : Bool
  pub width : ℕ
  pub name : List ℕ

pub record Netlist : Type 0 where
  pub name : List ℕ
  pub ports : List Port
  pub lines : List Line
