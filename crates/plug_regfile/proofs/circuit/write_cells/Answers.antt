use Rattle.std.proofs.Common.{◌∙◌, ap, Some}
use Rattle.hw_module.specs.declared.rows.ArrayRow.{ArrayRow}
use Rattle.hw_module.specs.declared.rows.ArrayWrite.{ArrayWrite}
use Rattle.plug_kit.specs.Bounds.{no_scope}
use Rattle.plug_kit.proofs.Carries.{carry_on, carry_wire}
use Rattle.plug_regfile.proofs.circuit.write_cells.Goals as goal

pub returns-clause-writes : goal.returns-clause-writes
returns-clause-writes c =
    let e = c.args.b.now.entry in
    let d = c.args.b.now.design in
    let enable = c.wire_net-enable.ensures in
    let addr = c.wire_net-addr.ensures in
    let value = c.wire_net-value.ensures in
    let i = c.requires.inputs.1.1 in
    let write : ArrayWrite = record { enable = c.wire_net-enable.result; addr = c.wire_net-addr.result; value = c.wire_net-value.result } in
    record {
      write = write;
      row = c.write.ensures.driven ∙ ap (λ (row : ArrayRow). record row { write = Some write }) c.requires.«open»;
      others = c.write.ensures.others;
      enable = carry_on no_scope d _ _ 1 1 8 _ _ value.adds (carry_on no_scope d _ _ 1 1 8 _ _ addr.adds (carry_wire no_scope d _ e _ (1, 8) _ i.0 enable.scope enable.width enable.level enable.value));
      addr = carry_on no_scope d _ _ 1 5 8 _ _ value.adds (carry_wire no_scope d _ e _ (5, 8) _ i.1.0 addr.scope addr.width addr.level addr.value);
      item = carry_wire no_scope d _ e _ (32, 8) _ i.1.1.0 value.scope value.width value.level value.value;
      wires = c.write.ensures.wires;
      regs = c.write.ensures.regs;
      makes = λ r. c.write.ensures.makes r (ap (λ (row : ArrayRow). row.owner) c.requires.«open»);
      drivers = c.write.ensures.drivers;
    }
