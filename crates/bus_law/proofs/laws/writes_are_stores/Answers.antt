use Rattle.bus_law.proofs.ByStores.{store_writes, memory_by_stores}
use Rattle.bus_law.proofs.laws.writes_are_stores.Goals as goal

pub returns : goal.returns
returns c = record { one = store_writes; all = memory_by_stores }
