-- A core has each of these outputs.
use Rattle.std.proofs.Common.{refl}
use Rattle.core_ports.specs.Ports.{name_of}
use Rattle.core_ports.specs.Ports as port
use Rattle.core_sim.proofs.ports.Places.among.Goals as goal

pub output_place-requires : goal.output_place-requires
unfolding name_of
output_place-requires c = c.requires port.ib_cmd_valid refl

pub output_place-requires-2 : goal.output_place-requires-2
unfolding name_of
output_place-requires-2 c = c.requires port.ib_cmd_addr refl

pub output_place-requires-3 : goal.output_place-requires-3
unfolding name_of
output_place-requires-3 c = c.requires port.db_cmd_valid refl

pub output_place-requires-4 : goal.output_place-requires-4
unfolding name_of
output_place-requires-4 c = c.requires port.db_cmd_write refl

pub output_place-requires-5 : goal.output_place-requires-5
unfolding name_of
output_place-requires-5 c = c.requires port.db_cmd_addr refl

pub output_place-requires-6 : goal.output_place-requires-6
unfolding name_of
output_place-requires-6 c = c.requires port.db_cmd_data refl

pub output_place-requires-7 : goal.output_place-requires-7
unfolding name_of
output_place-requires-7 c = c.requires port.db_cmd_mask refl

pub output_place-requires-8 : goal.output_place-requires-8
unfolding name_of
output_place-requires-8 c = c.requires port.ev_valid refl

pub output_place-requires-9 : goal.output_place-requires-9
unfolding name_of
output_place-requires-9 c = c.requires port.ev_kind refl

pub output_place-requires-10 : goal.output_place-requires-10
unfolding name_of
output_place-requires-10 c = c.requires port.ev_pc refl

pub output_place-requires-11 : goal.output_place-requires-11
unfolding name_of
output_place-requires-11 c = c.requires port.ev_word refl

pub output_place-requires-12 : goal.output_place-requires-12
unfolding name_of
output_place-requires-12 c = c.requires port.ev_rd refl

pub output_place-requires-13 : goal.output_place-requires-13
unfolding name_of
output_place-requires-13 c = c.requires port.ev_value refl

pub output_place-requires-14 : goal.output_place-requires-14
unfolding name_of
output_place-requires-14 c = c.requires port.ev_cause refl
