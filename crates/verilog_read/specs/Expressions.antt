-- Reading expressions: what the code answers, and the lists as they grow in its loops.
use Rattle.std.specs.Prelude.{drop, ◌≡◌, ◌≤◌, Bool, true, false, zero, suc, ℕ, List, [], ◌∷◌, ◌++◌, Result, Ok, Err}
use Rattle.verilog_tree.specs.Signs as sign
use Rattle.verilog_tree.specs.Lexemes.{Lexeme, Mark, Placed}
use Rattle.verilog_tree.specs.declared.expr.BinSign.{BinSign}
use Rattle.verilog_tree.specs.declared.expr.Expr.{Expr}
use Rattle.verilog_tree.specs.declared.expr.Expr.TheVariants.{Binary}
use Rattle.verilog_tree.specs.Grammar.{level_of}
use Rattle.verilog_tree.specs.Depth.{depth_of}
use Rattle.verilog_tree.specs.Readers.{Stop, Wrong, ◌>>=◌}
use Rattle.verilog_tree.specs.Parse as spec
use Rattle.verilog_read.specs.declared.cursor.Fault.{Fault}
use Rattle.verilog_read.specs.declared.expr.Found.{Found}
use Rattle.verilog_read.specs.declared.expr.Next.{Next}
use Rattle.verilog_read.specs.declared.expr.Next.TheVariants as next

-- the depth that is found is that of the expression, and at most d
abbrev pub HasDepth : ℕ → Result Found Fault → Type 0
HasDepth d (Ok f) = (f.depth ≡ depth_of f.expr) × (f.depth ≤ d)
HasDepth d (Err e) = Unit {0}

-- what an expression goes on with, and the tokens behind it
abbrev pub IsNext : Next → List Placed → Type 0
IsNext (next.Operator op at) ts = spec.next ts ≡ spec.Operator op at (drop 1 ts)
IsNext (next.Question at) ts = spec.next ts ≡ spec.Question at (drop 1 ts)
IsNext next.Nothing ts = spec.next ts ≡ spec.Nothing

-- an operator's right operand, and the expression that it makes with the left one
unfoldable pub operand : ℕ → BinSign → ℕ → Expr → List Placed → spec.Read
operand d op at left ts = spec.parse d (suc (level_of op)) ts >>= (λ right. Ok (Binary op at left right.0, right.1))

-- "," or "}": whether another part follows
abbrev pub separates_at : Lexeme → List Placed → List Placed → Result (Bool × List Placed) Stop
separates_at (Mark sign.Comma) ts all = Ok (true, ts)
separates_at (Mark sign.CloseBrace) ts all = Ok (false, ts)
separates_at _ ts all = Err (Wrong all)

abbrev pub separates : List Placed → Result (Bool × List Placed) Stop
separates [] = Err (Wrong [])
separates (t ∷ ts) = separates_at t.lexeme ts (t ∷ ts)

-- the parts that were found and those that follow, of which there are at most n
abbrev pub parts_on : Bool → (Unit {0} → spec.Parts) → (Unit {0} → spec.Parts) → spec.Parts
parts_on true f g = f tt
parts_on false f g = g tt

unfoldable pub parts_from : (ℕ → spec.Parser) → ℕ → List Expr → List Placed → spec.Parts
parts_from part zero found ts = Err (Wrong ts)
parts_from part (suc n) found ts = part 0 ts >>= (λ first. separates first.1 >>= (λ s. parts_on s.0 (λ _. parts_from part n (found ++ first.0 ∷ []) s.1) (λ _. Ok (found ++ first.0 ∷ [], s.1))))
