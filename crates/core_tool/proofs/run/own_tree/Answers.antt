use Rattle.std.proofs.Common.{ℕ, List, subst, sym}
use Rattle.verilog_tree.specs.declared.tree.Tree.{Tree}
use Rattle.verilog_tree.specs.Module.{Reads}
use Rattle.core_gen.proofs.Texts.{left_short}
use Rattle.core_tool.specs.Parts.{IsLoadable}
use Rattle.core_tool.proofs.Runs.{core_tree}
use Rattle.core_tool.proofs.run.own_tree.Goals as goal

pub load_own-requires : goal.load_own-requires
load_own-requires g c =
    let core = c.in-Ok.ensures.text in
    let read = subst (λ (l : List ℕ). (t : Tree) × IsLoadable l t) (sym c.text.ensures.text)
    (core.core.core.tree, record { short = core.core.short; reads = core.core.core.one_reading.0; sound = core.core.core.sound }) in
    record { is_read = read }

pub returns-in-Ok-load_own-clause-core : goal.returns-in-Ok-load_own-clause-core
returns-in-Ok-load_own-clause-core g c =
    core_tree _ c.args.config.now _ c.in-Ok-load_own.checked.tree c.in-Ok.ensures.text
    (subst (λ (l : List ℕ). Reads l c.in-Ok-load_own.checked.tree) c.text.ensures.text c.in-Ok-load_own.ensures.reads)

pub returns-clause-ends : goal.returns-clause-ends
returns-clause-ends g c = let core = c.in-Ok.ensures.text in left_short _ _ _ _ _ _ _ _ core.plan core.accepted core.configured
