-- Third rule: a name that a line of a checked module uses is declared before it.
use Rattle.std.proofs.Common.{◌≡◌, ℕ, zero, suc, ◌+◌, ◌<◌, ◌≤◌, not, List, [], ◌∷◌, Option, Some, None, refl, ap, ◌∙◌, arith}
use Rattle.verilog_tree.specs.declared.expr.Expr.TheBlock.{shape-the_row-Expr-0, hidden-the_row-Expr-0, shape-the_row-Expr-1, hidden-the_row-Expr-1}
use denote.Hole.Carrier.{hidden}
use Rattle.verilog_mean.specs.declared.refusal.MeanRefusal.TheVariants.{NameUnknown}
use Rattle.verilog_mean.specs.Look.{put, put_if}
use Rattle.verilog_mean.specs.Names.{Refusals, unknown_name, unknown_in, unknown_in_item, unknown_in_items}
use Rattle.verilog_netlist.specs.Netlist.{Value, Line}
use Rattle.verilog_netlist.specs.Netlist.Value.{Constant, Copy, Bits, Cell, Not, Both, Choice, Join}
use Rattle.verilog_netlist.specs.Netlist.Line.{Wire, Net, Reg, Array, Assign, Next, Reset, Write}
use Rattle.verilog_netlist.specs.Places.{named, placed_value, placed_line, behind_line, placed_lines}
use Rattle.module_netlist.specs.Lines.{spread}
use Rattle.netlist_sound.proofs.Fine.{none}
use Rattle.netlist_sound.proofs.NameLists.{Names, IsIn}

-- ---- the names that a line uses are known

abbrev pub ValueKnown : Names → Value → Type 0
ValueKnown known (Constant width value) = Unit {0}
ValueKnown known (Copy a) = IsIn known a
ValueKnown known (Bits a high low) = IsIn known a
ValueKnown known (Cell a i) = IsIn known a × IsIn known i
ValueKnown known (Not a) = IsIn known a
ValueKnown known (Both s a b) = IsIn known a × IsIn known b
ValueKnown known (Choice t a b) = IsIn known t × IsIn known a × IsIn known b
ValueKnown known (Join a b) = IsIn known a × IsIn known b

abbrev pub LineKnown : Names → Line → Type 0
LineKnown known (Wire width x) = Unit {0}
LineKnown known (Net width x v) = ValueKnown (x ∷ known) v
LineKnown known (Reg width x) = Unit {0}
LineKnown known (Array width x bits) = Unit {0}
LineKnown known (Assign x s) = IsIn known x × IsIn known s
LineKnown known (Next x s) = IsIn known x × IsIn known s
LineKnown known (Reset x width start s) = IsIn known x × IsIn known s
LineKnown known (Write e x i s) = IsIn known e × IsIn known x × IsIn known i × IsIn known s

-- what is known behind a line
abbrev pub known_behind : Names → Line → Names
known_behind known (Wire width x) = x ∷ known
known_behind known (Net width x v) = x ∷ known
known_behind known (Reg width x) = x ∷ known
known_behind known (Array width x bits) = x ∷ known
known_behind known (Assign x s) = known
known_behind known (Next x s) = known
known_behind known (Reset x width start s) = known
known_behind known (Write e x i s) = known

abbrev pub LinesKnown : Names → List Line → Type 0
LinesKnown known [] = Unit {0}
LinesKnown known (l ∷ ls) = LineKnown known l × LinesKnown (known_behind known l) ls

name_known : (known : Names) (at : ℕ) (x : List ℕ) (rest : Refusals) → IsIn known x → rest ≡ [] → unknown_name known (named at x) rest ≡ []
name_known known at x rest h e = ap (λ b. put_if (not b) (NameUnknown at) rest) h ∙ e

value_known : (known : Names) (p : ℕ → ℕ) (k : ℕ) (v : Value) → ValueKnown known v → unknown_in known (placed_value p k v) ≡ []
unfolding shape-the_row-Expr-0 hidden-the_row-Expr-0 shape-the_row-Expr-1 hidden-the_row-Expr-1 hidden
value_known known p k (Constant width value) h = refl
value_known known p k (Copy a) h = name_known known _ a [] h refl
value_known known p k (Bits a high low) h = name_known known _ a [] h refl
value_known known p k (Cell a i) h = name_known known _ a _ h.0 (name_known known _ i [] h.1 refl)
value_known known p k (Not a) h = name_known known _ a [] h refl
value_known known p k (Both s a b) h = none _ _ (name_known known _ a [] h.0 refl) (name_known known _ b [] h.1 refl)
value_known known p k (Choice t a b) h = none _ _ (name_known known _ t [] h.0 refl) (none _ _ (name_known known _ a [] h.1 refl) (name_known known _ b [] h.2 refl))
value_known known p k (Join a b) h = none _ _ (name_known known _ a [] h.0 refl) (none _ _ (name_known known _ b [] h.1 refl) refl)

line_known : (known : Names) (p : ℕ → ℕ) (k : ℕ) (l : Line) → LineKnown known l → unknown_in_item known (placed_line p k l) ≡ []
line_known known p k (Wire width x) h = refl
line_known known p k (Net width x v) h = value_known (x ∷ known) p (suc (suc (suc (suc (suc (suc (suc (suc k)))))))) v h
line_known known p k (Reg width x) h = refl
line_known known p k (Array width x bits) h = refl
line_known known p k (Assign x s) h = name_known known _ x _ h.0 (name_known known _ s [] h.1 refl)
line_known known p k (Next x s) h = name_known known _ x _ h.0 (name_known known _ s [] h.1 refl)
line_known known p k (Reset x width start s) h = name_known known _ x _ h.0 (name_known known _ x _ h.0 (name_known known _ s [] h.1 refl))
line_known known p k (Write e x i s) h =
    none _ _ (name_known known _ e [] h.0 refl) (name_known known _ x _ h.1 (none _ _ (name_known known _ i [] h.2 refl) (name_known known _ s [] h.3 refl)))

pub lines_known : (known : Names) (p : ℕ → ℕ) (k : ℕ) (ls : List Line) → LinesKnown known ls → unknown_in_items known (placed_lines p k ls) ≡ []
lines_known known p k [] h = refl
lines_known known p k (Wire width x ∷ ls) h = lines_known (x ∷ known) p (behind_line k (Wire width x)) ls h.1
lines_known known p k (Net width x v ∷ ls) h = none _ _ (line_known known p k (Net width x v) h.0) (lines_known (x ∷ known) p (behind_line k (Net width x v)) ls h.1)
lines_known known p k (Reg width x ∷ ls) h = lines_known (x ∷ known) p (behind_line k (Reg width x)) ls h.1
lines_known known p k (Array width x bits ∷ ls) h = lines_known (x ∷ known) p (behind_line k (Array width x bits)) ls h.1
lines_known known p k (Assign x s ∷ ls) h = none _ _ (line_known known p k (Assign x s) h.0) (lines_known known p (behind_line k (Assign x s)) ls h.1)
lines_known known p k (Next x s ∷ ls) h = none _ _ (line_known known p k (Next x s) h.0) (lines_known known p (behind_line k (Next x s)) ls h.1)
lines_known known p k (Reset x width start s ∷ ls) h = none _ _ (line_known known p k (Reset x width start s) h.0) (lines_known known p (behind_line k (Reset x width start s)) ls h.1)
lines_known known p k (Write e x i s ∷ ls) h = none _ _ (line_known known p k (Write e x i s) h.0) (lines_known known p (behind_line k (Write e x i s)) ls h.1)

-- ---- spread lines

abbrev pub PutKnown : Names → Option Line → Type 0
PutKnown known None = Unit {0}
PutKnown known (Some l) = LineKnown known l

abbrev pub behind : Names → Option Line → Names
behind known None = known
behind known (Some l) = known_behind known l

put_known : (o : Option Line) (known : Names) (rest : List Line) → PutKnown known o → LinesKnown (behind known o) rest → LinesKnown known (put o rest)
put_known None known rest h r = r
put_known (Some l) known rest h r = (h, r)

pub spread_known : (f : ℕ → Option Line) (Q : ℕ → Names → Type 0) (rest : List Line) (n k : ℕ)
    → ((i : ℕ) → k ≤ i → i < k + n → (known : Names) → Q i known → PutKnown known (f i) × Q (suc i) (behind known (f i)))
    → ((i : ℕ) → i ≡ k + n → (known : Names) → Q i known → LinesKnown known rest) → (known : Names) → Q k known → LinesKnown known (spread f k n rest)
spread_known f Q rest zero k step last known q = last k (omega arith) known q
spread_known f Q rest (suc n) k step last known q =
    let s = step k (omega arith) (omega arith) known q in
    put_known (f k) known (spread f (suc k) n rest) s.0
    (spread_known f Q rest n (suc k) (λ i a b. step i (omega arith) (omega arith)) (λ i e. last i (omega arith)) (behind known (f k)) s.1)
