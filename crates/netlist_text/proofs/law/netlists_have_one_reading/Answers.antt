use Rattle.netlist_text.proofs.Reading.{netlist_reads}
use Rattle.netlist_text.proofs.law.netlists_have_one_reading.Goals as goal

-- src/law.rt:11:1
pub returns : goal.returns
returns c = netlist_reads
