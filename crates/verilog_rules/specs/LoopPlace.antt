-- The place of the first declaration whose name depends on itself.
use Rattle.std.specs.Prelude.{List, [], ◌∷◌}
use Rattle.verilog_tree.specs.declared.tree.Tree.{Tree}
use Rattle.verilog_mean.specs.declared.refusal.MeanRefusal.{MeanRefusal}
use Rattle.verilog_mean.specs.declared.refusal.MeanRefusal.TheVariants.{Loop}
use Rattle.verilog_mean.specs.Erase.{plain_tree}
use Rattle.verilog_mean.specs.Plain.{Plain}
use Rattle.verilog_mean.specs.Declarations.{Declaration, declarations}
use Rattle.verilog_mean.specs.Loops.{LeadsBack, FirstLoop}

-- no declared name depends on itself
abbrev pub NoneBack : Plain → List Declaration → Type 0
NoneBack m [] = Unit {0}
NoneBack m (d ∷ ds) = (LeadsBack m d → ⊥) × NoneBack m ds

-- the ninth rule refuses a tree by that place
abbrev pub IsLoop : Tree → MeanRefusal → Type 0
IsLoop t (Loop at) = FirstLoop (plain_tree t) (declarations t) at
IsLoop t _ = ⊥
