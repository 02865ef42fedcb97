use Rattle.claim_law.proofs.Claims.{keeps_cache}
use Rattle.claim_law.proofs.law.generated_cores_keep_caches.Goals as goal

pub returns : goal.returns
returns g c = record { cached = λ cfg text may core entry fetches lines words keeps. keeps_cache _ _ _ _ _ _ _ _ _ cfg text may core entry fetches lines words keeps }
