use Rattle.verilog_netlist.specs.Text.{netlist_pieces}
use Rattle.verilog_netlist.specs.Places.{place_in}
use Rattle.module_netlist.specs.Lines.{netlist_of}
use Rattle.verilog_write.proofs.Means.{module_texts}
use Rattle.verilog_write.proofs.law.netlist_texts_mean.Goals as goal

pub returns : goal.returns
returns c = λ m pool marks w a.
    let n = netlist_of m pool.nodes marks in
    let place = place_in (netlist_pieces n) in
    let writable = c.netlists_are_writable.ensures.writable m pool marks w a in
    module_texts m pool marks (c.netlists_have_one_reading.ensures n writable) (c.netlists_are_plain.ensures place n writable)
    (c.module_netlists_are_sound.ensures m pool marks w a place) (c.module_netlists_have_core_ports.ensures m pool.nodes marks)
    (c.module_netlists_mean.ensures m pool marks w a) (c.rows_are_short.ensures.size n writable) (c.netlists_are_writable.ensures.lines m pool marks w) w.few
    (c.rows_are_short.ensures.rows n writable)
