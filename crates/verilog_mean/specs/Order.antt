-- An order of a module's items, by their numbers from 0, in which each driver comes behind those that it needs.
-- It settles all wires and outputs in one pass.
use Rattle.std.specs.Prelude.{◌≡◌, ℕ, zero, suc, ◌<◌, ◌≤◌, true, List, [], ◌∷◌, length, All, Option, Some, None}
use Rattle.verilog_mean.specs.Plain.{Expr, Item, Plain}
use Rattle.verilog_mean.specs.Plain.Item.{Wire, Reg, Array, Assign, Next, Reset, Write}
use Rattle.verilog_mean.specs.Names.{is_among}
use Rattle.verilog_mean.specs.Cycle.{source_of}
use Rattle.verilog_mean.specs.Cycle.Source.{Driven}
use Rattle.verilog_mean.specs.Loops.{Mentions}

-- the wire or output that an item drives, and its driver
abbrev pub drive_of : Item → Option (List ℕ × Expr)
drive_of (Wire width name None) = None
drive_of (Wire width name (Some e)) = Some (name, e)
drive_of (Reg width name) = None
drive_of (Array width name cells) = None
drive_of (Assign target e) = Some (target, e)
drive_of (Next target e) = None
drive_of (Reset target start e) = None
drive_of (Write enable target index e) = None

-- the same by the item's number
abbrev pub drive_at : List Item → ℕ → Option (List ℕ × Expr)
drive_at [] n = None
drive_at (i ∷ is) zero = drive_of i
drive_at (i ∷ is) (suc n) = drive_at is n

-- the names that are driven once an item is, the last first
abbrev pub driven_after : (seen : List (List ℕ)) → Option (List ℕ × Expr) → List (List ℕ)
driven_after seen None = seen
driven_after seen (Some d) = d.0 ∷ seen

-- once some items are
abbrev pub driven_by : List Item → (seen : List (List ℕ)) → (order : List ℕ) → List (List ℕ)
driven_by items seen [] = seen
driven_by items seen (n ∷ ns) = driven_by items (driven_after seen (drive_at items n)) ns

-- each name of a driver that is driven too is driven before it
abbrev pub IsReady : Plain → (seen : List (List ℕ)) → Option (List ℕ × Expr) → Type 0
IsReady m seen None = Unit {0}
IsReady m seen (Some d) = (y : List ℕ) (e : Expr) → Mentions d.1 y → source_of m y ≡ Driven e → is_among y seen ≡ true

abbrev pub AreReady : Plain → (seen : List (List ℕ)) → (order : List ℕ) → Type 0
AreReady m seen [] = Unit {0}
AreReady m seen (n ∷ ns) = IsReady m seen (drive_at m.items n) × AreReady m (driven_after seen (drive_at m.items n)) ns

-- a rank of names: what a driver names is of a smaller rank, and no rank is above the number of the items
pub record IsRanked (m : Plain) (rank : List ℕ → ℕ) : Type 0 where
  pub lower : (x y : List ℕ) (e : Expr) → source_of m x ≡ Driven e → Mentions e y → rank y < rank x
  pub small : (x : List ℕ) → rank x ≤ length m.items

pub record IsOrder (m : Plain) (order : List ℕ) : Type 0 where
  pub within : All (λ n. n < length m.items) order
  pub short : length order ≤ length m.items
  pub ready : AreReady m [] order
  -- all that is driven is driven by them
  pub complete : (x : List ℕ) (e : Expr) → source_of m x ≡ Driven e → is_among x (driven_by m.items [] order) ≡ true
  pub rank : List ℕ → ℕ
  pub ranked : IsRanked m rank
