use Rattle.plug_fetch.proofs.Laws.{fetch_law, depth_law}
use Rattle.plug_fetch.proofs.fetch_keeps_its_laws.Goals as goal

pub returns : goal.returns
returns c = record { law = fetch_law; depth = depth_law }
