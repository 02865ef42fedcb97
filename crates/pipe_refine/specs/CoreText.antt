-- A text is a core: it has one tree, which is sound, has the core's ports and refines the machine.
use Rattle.std.specs.Prelude.{◌≡◌, ℕ, ◌%◌, ◌^◌, ◌<◌, List}
use Rattle.isa_model.specs.Machine.{Set, IsBuilt}
use Rattle.verilog_tree.specs.declared.tree.Tree.{Tree}
use Rattle.verilog_tree.specs.Module.{HasOneReading}
use Rattle.verilog_mean.specs.Erase.{plain_tree}
use Rattle.verilog_mean.specs.Sound.{IsSound}
use Rattle.pipe_refine.specs.Refines.{Claim, no_claim, RefinesWith}

-- with a further claim on each run, and one on the tree
pub record IsCoreTextWith (s : Set) (reset_pc : ℕ) (claim : Claim s) (TreeClaim : Tree → Type 0) (text : List ℕ) : Type 0 where
  -- the set has only rows of the table, and the reset pc is an address of a word
  pub built : IsBuilt s
  pub aligned : reset_pc % 4 ≡ 0
  pub addressed : reset_pc < 2 ^ 32
  pub tree : Tree
  pub one_reading : HasOneReading text tree
  pub sound : IsSound tree
  pub refines : RefinesWith (plain_tree tree) s reset_pc claim
  pub tree_claim : TreeClaim tree

abbrev pub IsCoreText : (s : Set) (reset_pc : ℕ) (text : List ℕ) → Type 0
IsCoreText s reset_pc text = IsCoreTextWith s reset_pc (no_claim s) (λ t. Unit {0}) text
