use Rattle.plug_kit.proofs.Plain.{plain_fits, plain_builds, plain_open, plain_only, plain_bare}
use Rattle.plug_kit.proofs.law.plain_parts_build.Goals as goal

pub returns : goal.returns
returns c = record { fits = plain_fits; builds = plain_builds; are_open = plain_open; only = plain_only; bare = plain_bare }
