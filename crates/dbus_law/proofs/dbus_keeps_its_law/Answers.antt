use Rattle.isa_csr.specs.Csrs.{reset_csrs}
use Rattle.dbus_law.proofs.Kept.{law, reads_once}
use Rattle.dbus_law.proofs.dbus_keeps_its_law.Goals as goal

pub returns : goal.returns
returns c = record {
  law = λ set claims e db mem csrs moments r rows is. law set claims rows e db mem csrs moments r is;
  reads = λ set claims e db mem r rows is. reads_once set claims rows e db mem (λ k. reset_csrs 0) (λ k. record { lines = 0 }) r is;
}
