-- What the fourth, fifth and sixth rule ask of lines, without places: names are used as what they are, and widths agree.
use Rattle.std.proofs.Common.{◌≡◌, ℕ, ◌+◌, ◌-◌, ◌<◌, ◌≤◌, Bool, true, false, not, ◌&&◌, List, [], ◌∷◌, ◌++◌, Option, Some, None}
use Rattle.std.specs.Prelude.{codes, is_some}
use Rattle.core_words.specs.Names.{same_name}
use Rattle.verilog_tree.specs.declared.expr.BinSign.{BinSign}
use Rattle.verilog_mean.specs.Erase.{range_width}
use Rattle.verilog_mean.specs.Cycle.{sign_width}
use Rattle.verilog_mean.specs.Kinds.{is_array, is_register, is_assignable}
use Rattle.verilog_mean.specs.Declarations.{Declaration, declaration_of, class_index_width}
use Rattle.verilog_netlist.specs.Netlist.{Value, Line}
use Rattle.verilog_netlist.specs.Netlist.Value.{Constant, Copy, Bits, Cell, Not, Both, Choice, Join}
use Rattle.verilog_netlist.specs.Netlist.Line.{Wire, Net, Reg, Array, Assign, Next, Reset, Write}

-- a declaration as the rules read it
pub record Info : Type 0 where
  pub width : ℕ
  pub ranged : Bool
  pub array : Bool
  pub register : Bool
  pub assignable : Bool
  pub index : ℕ

abbrev pub info_of : Declaration → Info
info_of d = record {
  width = range_width d.range;
  ranged = is_some d.range;
  array = is_array d.class;
  register = is_register d.class;
  assignable = is_assignable d.class;
  index = class_index_width d.class;
}

abbrev pub infos : Option Declaration → Option Info
infos None = None
infos (Some d) = Some (info_of d)

abbrev pub info_among : List Declaration → List ℕ → Option Info
info_among ds x = infos (declaration_of ds x)

module _ (env : List ℕ → Option Info) where
  -- a name is declared so
  pub record Has (x : List ℕ) (test : Info → Bool) (wide : ℕ) : Type 0 where
    pub info : Info
    pub is : env x ≡ Some info
    pub passes : test info ≡ true
    pub width : info.width ≡ wide

  -- a name in an expression
  pub record Reads (x : List ℕ) (wide : ℕ) : Type 0 where
    pub clock : same_name x (codes "clk") ≡ false
    pub has : Has x (λ i. not i.array) wide

  pub record Selects (x : List ℕ) (wide : ℕ) : Type 0 where
    pub clock : same_name x (codes "clk") ≡ false
    pub has : Has x (λ i. not i.array && i.ranged) wide

  -- an array with an index
  pub record Indexes (x : List ℕ) (wide bits : ℕ) : Type 0 where
    pub clock : same_name x (codes "clk") ≡ false
    pub has : Has x (λ i. i.array) wide
    pub index : has.info.index ≡ bits

  pub record BitsFine (wide : ℕ) (x : List ℕ) (high low : ℕ) : Type 0 where
    pub from : ℕ
    pub selects : Selects x from
    pub order : low ≤ high
    pub within : high < from
    pub width : high + 1 - low ≡ wide

  pub record CellFine (wide : ℕ) (x i : List ℕ) : Type 0 where
    pub bits : ℕ
    pub indexes : Indexes x wide bits
    pub index : Reads i bits

  pub record BothFine (wide : ℕ) (s : BinSign) (a b : List ℕ) : Type 0 where
    pub from : ℕ
    pub left : Reads a from
    pub right : Reads b from
    pub width : sign_width s from ≡ wide

  pub record ChoiceFine (wide : ℕ) (t a b : List ℕ) : Type 0 where
    pub test : Reads t 1
    pub first : Reads a wide
    pub second : Reads b wide

  pub record JoinFine (wide : ℕ) (a b : List ℕ) : Type 0 where
    pub high : ℕ
    pub low : ℕ
    pub first : Reads a high
    pub second : Reads b low
    pub width : high + low ≡ wide
    pub most : wide ≤ 64

  abbrev pub ValueFine : (wide : ℕ) → Value → Type 0
  ValueFine wide (Constant width value) = width ≡ wide
  ValueFine wide (Copy a) = Reads a wide
  ValueFine wide (Bits a high low) = BitsFine wide a high low
  ValueFine wide (Cell a i) = CellFine wide a i
  ValueFine wide (Not a) = Reads a wide
  ValueFine wide (Both s a b) = BothFine wide s a b
  ValueFine wide (Choice t a b) = ChoiceFine wide t a b
  ValueFine wide (Join a b) = JoinFine wide a b

  pub record NetFine (x : List ℕ) (v : Value) : Type 0 where
    pub wide : ℕ
    pub target : Has x (λ i. true) wide
    pub value : ValueFine wide v

  pub record AssignFine (x s : List ℕ) : Type 0 where
    pub wide : ℕ
    pub target : Has x (λ i. i.assignable) wide
    pub source : Reads s wide

  pub record NextFine (x s : List ℕ) : Type 0 where
    pub wide : ℕ
    pub target : Has x (λ i. i.register) wide
    pub source : Reads s wide

  pub record ResetFine (x : List ℕ) (wide : ℕ) (s : List ℕ) : Type 0 where
    pub target : Has x (λ i. i.register) wide
    pub source : Reads s wide

  pub record WriteFine (e x i s : List ℕ) : Type 0 where
    pub wide : ℕ
    pub bits : ℕ
    pub enable : Reads e 1
    pub target : Has x (λ i. i.array) wide
    pub index_bits : target.info.index ≡ bits
    pub index : Reads i bits
    pub source : Reads s wide

  abbrev pub LineFine : Line → Type 0
  LineFine (Wire width x) = Unit {0}
  LineFine (Net width x v) = NetFine x v
  LineFine (Reg width x) = Unit {0}
  LineFine (Array width x bits) = Unit {0}
  LineFine (Assign x s) = AssignFine x s
  LineFine (Next x s) = NextFine x s
  LineFine (Reset x width start s) = ResetFine x width s
  LineFine (Write e x i s) = WriteFine e x i s

-- each of a list
abbrev pub Each : {A : Type 0} → (A → Type 0) → List A → Type 0
Each P [] = Unit {0}
Each P (a ∷ rest) = P a × Each P rest

pub none : {A : Type 0} (a b : List A) → a ≡ [] → b ≡ [] → a ++ b ≡ []
none a b h k = λ i. h i ++ k i
