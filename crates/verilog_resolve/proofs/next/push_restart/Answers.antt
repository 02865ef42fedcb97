use Rattle.std.proofs.Common.{rules, sym, ◌∙◌, subst}
use Rattle.verilog_mean.specs.Cycle.{reset_name}
use Rattle.verilog_mean.specs.Erase.{plain}
use Rattle.verilog_resolve.specs.Flat.{Grown}
use Rattle.verilog_resolve.specs.Means.{Matches}
use Rattle.verilog_resolve.specs.Names.{places}
use Rattle.verilog_resolve.proofs.Restarts.{restart_is, restart_keeps, restart_kept}
use Rattle.verilog_resolve.proofs.next.push_restart.Goals as goal

pub returns-clause-value : goal.returns-clause-value
returns-clause-value c = λ regs cells ins w arrays val m.
    let ns = c.args.build.now.nodes.items in
    let g : Grown = record { nodes = c.flatten.new.build.nodes.items; at = c.in_ok-other.other.at; width = c.in_ok-other.other.width } in
    restart_is regs cells ins w arrays val ns (plain c.args.driver.now) g (c.in_ok-other.ensures.means regs cells ins w arrays val m)
    c.args.start c.in-Net.test c.in_ok-first-in-Net.first c.in_ok-at-in-Net.at c.push.new.self.nodes.items c.push-in-Net.new.self.nodes.items
    c.in_ok-first-in-Net.ensures.pushed (search rules) c.in_ok-at-in-Net.ensures.pushed (search rules) c.in-Net.width
    (subst (λ place. Matches regs cells ins w arrays val ns reset_name place) (sym c.place.ensures ∙ c.in-Net.is) (m reset_name))

pub returns-clause-keeps : goal.returns-clause-keeps
returns-clause-keeps c = λ regs cells ins w arrays val m.
    let ns = c.args.build.now.nodes.items in
    let g : Grown = record { nodes = c.flatten.new.build.nodes.items; at = c.in_ok-other.other.at; width = c.in_ok-other.other.width } in
    restart_keeps regs cells ins w arrays val ns (plain c.args.driver.now) g (c.in_ok-other.ensures.means regs cells ins w arrays val m)
    c.args.start c.in-Net.test c.in_ok-first-in-Net.first c.in_ok-at-in-Net.at c.push.new.self.nodes.items c.push-in-Net.new.self.nodes.items
    c.in_ok-first-in-Net.ensures.pushed (search rules) c.in_ok-at-in-Net.ensures.pushed (search rules) (places c.args.names.now) m

pub returns-clause-kept : goal.returns-clause-kept
returns-clause-kept c = λ regs cells ins w arrays val m.
    let ns = c.args.build.now.nodes.items in
    let g : Grown = record { nodes = c.flatten.new.build.nodes.items; at = c.in_ok-other.other.at; width = c.in_ok-other.other.width } in
    restart_kept regs cells ins w arrays val ns (plain c.args.driver.now) g (c.in_ok-other.ensures.means regs cells ins w arrays val m)
    c.args.start c.in-Net.test c.in_ok-first-in-Net.first c.in_ok-at-in-Net.at c.push.new.self.nodes.items c.push-in-Net.new.self.nodes.items
    c.in_ok-first-in-Net.ensures.pushed (search rules) c.in_ok-at-in-Net.ensures.pushed (search rules)
