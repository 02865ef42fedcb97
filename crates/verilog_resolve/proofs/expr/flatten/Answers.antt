use Rattle.std.proofs.Common.{◌≡◌, IfOk, sym, subst}
use Rattle.verilog_mean.specs.Erase.{plain}
use Rattle.verilog_resolve.specs.Names.{places}
use Rattle.verilog_resolve.specs.Flat.{flat}
use Rattle.verilog_resolve.specs.Fine.{IsFine, wide}
use Rattle.verilog_resolve.proofs.Bound.{flat_is, map_ok}
use Rattle.verilog_resolve.proofs.ViewIsPlain.{view_is_plain}
use Rattle.verilog_resolve.proofs.expr.flatten.Goals as goal

pub resolve-requires-clause-fine : goal.resolve-requires-clause-fine
resolve-requires-clause-fine c = subst (IsFine (places c.args.names.now)) (sym (view_is_plain c.args.e.now)) c.requires.fine

pub returns-clause-means : goal.returns-clause-means
returns-clause-means c =
    let p = places c.args.names.now in let ns = c.args.build.now.nodes.items in
    map_ok _ _
    (λ d f regs cells ins w arrays val m. flat_is regs cells ins w arrays val p ns (plain c.args.e.now) _ f c.requires.fine m)
    c.resolve.result
    (subst (λ z. IfOk c.resolve.result (λ d. flat p z ns ≡ record { nodes = c.resolve.new.build.nodes.items; at = d.at; width = d.width })) (view_is_plain c.args.e.now) c.resolve.ensures.flat)

pub returns-clause-width : goal.returns-clause-width
returns-clause-width c = subst (λ z. IfOk c.resolve.result (λ d. d.width ≡ wide (places c.args.names.now) z)) (view_is_plain c.args.e.now) c.resolve.ensures.width
