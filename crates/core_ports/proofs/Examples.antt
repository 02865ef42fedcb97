-- Computed examples of the definitions.
use Rattle.std.proofs.Common.{◌≡◌, true, false, cond, codes, length, refl}
use Rattle.core_words.specs.Names.{same_name}
use Rattle.core_ports.specs.Ports.{name_of, all_ports, is_input, width_of, ib_cmd_addr, ev_rd, db_cmd_mask}
use Rattle.core_ports.specs.Trace.{Trace, has_event, lines_at}

thirty : length all_ports ≡ 30
thirty = refl

address_leaves : is_input ib_cmd_addr ≡ false
address_leaves = refl

five_bits : width_of ev_rd ≡ 5
five_bits = refl

four_bits : width_of db_cmd_mask ≡ 4
four_bits = refl

-- a run in which every name is 1 in every cycle
ones : Trace
ones k x = 1

-- a run in which the timer's line alone is 1
timer : Trace
timer k x = cond (same_name x (codes "irq_timer")) 1 0

no_event_in_reset : has_event ones 0 ≡ false
unfolding has_event
no_event_in_reset = refl

event_later : has_event ones 1 ≡ true
unfolding has_event ones
event_later = refl

no_event : has_event timer 1 ≡ false
unfolding has_event timer name_of
no_event = refl

timer_line : lines_at timer 0 ≡ 0x80
unfolding timer name_of
timer_line = refl

all_lines : lines_at ones 0 ≡ 0x888
unfolding ones
all_lines = refl
