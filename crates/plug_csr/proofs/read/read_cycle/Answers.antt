use Rattle.std.proofs.Common.{◌+◌}
use Rattle.hw_gates.proofs.Steps.{◌▸◌}
use Rattle.csr_nets.proofs.Stays.{given_stays, held_stays, told_stays}
use Rattle.plug_csr.proofs.read.read_cycle.Goals as goal

pub returns-clause-nets : goal.returns-clause-nets
returns-clause-nets c =
    let s2 = c.read_inputs-given.ensures.step in
    let s3 = c.read_told-told.ensures.step in
    let s4 = c.read_lines-lines.ensures.step in
    record {
      held = held_stays c.read_regs-held.new.pool c.read_lines-lines.new.pool (5 + (5 + 3)) (s2 ▸ (s3 ▸ s4)) c.read_regs-held.result c.read_regs-held.ensures.nets;
      lines = c.read_lines-lines.ensures.nets;
      given = given_stays c.read_inputs-given.new.pool c.read_lines-lines.new.pool (5 + 3) (s3 ▸ s4) c.read_inputs-given.result c.read_inputs-given.ensures.nets;
      told = told_stays c.read_told-told.new.pool c.read_lines-lines.new.pool 3 s4 c.read_told-told.result c.read_told-told.ensures.nets;
    }
