use Rattle.std.proofs.Common.{◌∙◌, List, get_or, ap, sym, rules}
use Rattle.service_ports.specs.declared.ports.ExecOffer.{ExecOffer}
use Rattle.service_ports.specs.Ports.{exec_ports, system_ports}
use Rattle.part_alone.specs.Built.{world_in}
use Rattle.part_alone.proofs.Seen.{both_in, exec_in, system_in}
use Rattle.part_alone.proofs.stands.system_stand.Goals as goal

pub make_stand-requires-clause-nets : goal.make_stand-requires-clause-nets
make_stand-requires-clause-nets c =
    both_in _ _ (exec_ports c.index.result.now.ports).outputs (system_ports c.in-Some.s).outputs
    (exec_in (world_in c.args.part) c.requires c.index.result.now (search rules)
    (ap (λ (xs : List ExecOffer). get_or xs 0 c.index.result.now) (sym c.execs-2.ensures) ∙ sym c.index.ensures))
    (system_in (world_in c.args.part) c.requires c.in-Some.s (sym c.system.ensures ∙ c.in-Some.is))
