-- A module as the meaning of its cycles sees it: widths in bits, names, drivers. No places, no parentheses.
use Rattle.std.specs.Prelude.{ℕ, List, Option}
use Rattle.verilog_tree.specs.declared.expr.BinSign.{BinSign}

mutual
  pub data Expr : Type 0 where
    Literal : (width value : ℕ) → Expr
    Named : (name : List ℕ) → Expr
    Select : (name : List ℕ) (high low : ℕ) → Expr
    Cell : (name : List ℕ) (index : Expr) → Expr
    Not : (inner : Expr) → Expr
    Join : (parts : Exprs) → Expr
    Binary : (sign : BinSign) (left right : Expr) → Expr
    Choice : (test first second : Expr) → Expr

  -- the parts of a join, the highest first
  pub data Exprs : Type 0 where
    NoPart : Exprs
    Part : (part : Expr) (parts : Exprs) → Exprs

pub data Item : Type 0 where
  Wire : (width : ℕ) (name : List ℕ) (driver : Option Expr) → Item
  Reg : (width : ℕ) (name : List ℕ) → Item
  Array : (width : ℕ) (name : List ℕ) (cells : ℕ) → Item
  Assign : (target : List ℕ) (driver : Expr) → Item
  Next : (target : List ℕ) (driver : Expr) → Item
  Reset : (target : List ℕ) (start : ℕ) (driver : Expr) → Item
  Write : (enable : Expr) (target : List ℕ) (index driver : Expr) → Item

pub data Port : Type 0 where
  In : (width : ℕ) (name : List ℕ) → Port
  Out : (width : ℕ) (name : List ℕ) → Port

pub record Plain : Type 0 where
  pub ports : List Port
  pub items : List Item
