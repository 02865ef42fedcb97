use Rattle.icache_law.proofs.Kept.{core_keeps}
use Rattle.icache_law.proofs.law.generated_cores_keep_icaches.Goals as goal

pub returns : goal.returns
returns g c = let laws = c.icache_parts_meet_their_laws.ensures in record { cores = λ cfg text may core entry there is. core_keeps laws.cache laws.sizes _ _ _ _ _ _ _ _ _ cfg text may core entry there is }
