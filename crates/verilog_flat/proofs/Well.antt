-- Nodes of which each names only nodes before it stay so with one more.
use Rattle.std.proofs.Common.{ℕ, suc, ◌+◌, List, [], ◌∷◌, ◌++◌, length, arith, subst}
use Rattle.verilog_flat.specs.declared.node.Node.{Node}
use Rattle.verilog_flat.specs.Flat.{IsFit, IsWell}

pub well_push : (regs cells ins at : ℕ) (ns : List Node) (n : Node) → IsWell regs cells ins at ns → IsFit regs cells ins (at + length ns) n → IsWell regs cells ins at (ns ++ (n ∷ []))
well_push regs cells ins at [] n h f = (subst (λ k. IsFit regs cells ins k n) (omega arith) f, tt)
well_push regs cells ins at (m ∷ ns) n h f =
    (h.0, well_push regs cells ins (suc at) ns n h.1 (subst (λ k. IsFit regs cells ins k n) (omega arith) f))
