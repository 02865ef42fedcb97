use Rattle.isa_csr.proofs.Kept.{reset_keeps, write_keeps, entry_keeps, return_keeps}
use Rattle.isa_csr.proofs.addresses_stay_whole.Goals as goal

pub returns : goal.returns
returns c = record { reset = reset_keeps; write = write_keeps; entry = entry_keeps; leave = return_keeps }
