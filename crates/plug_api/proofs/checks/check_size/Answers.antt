use Rattle.std.proofs.Common.{◌≡◌, ◌≤◌, ◌*◌, length, arith, ap}
use Rattle.plug_api.specs.Rules.{claims_of}
use Rattle.plug_api.proofs.Gathers.{few_claims}
use Rattle.plug_api.proofs.checks.check_size.Goals as goal

pub overflow_cast-len : goal.overflow_cast-len
overflow_cast-len c =
    let few : length (claims_of c.args.specs.now.items) ≤ 64 * length c.args.specs.now.items = few_claims 0 _ c.requires.specs in
    let same : length c.args.claims.now.items ≡ length (claims_of c.args.specs.now.items) = ap length c.requires.claims in
    omega (arith, few, same)

pub wanted-wanted-requires-clause-few_rows : goal.wanted-wanted-requires-clause-few_rows
wanted-wanted-requires-clause-few_rows c =
    let few : length (claims_of c.args.specs.now.items) ≤ 64 * length c.args.specs.now.items = few_claims 0 _ c.requires.specs in
    let same : length c.args.claims.now.items ≡ length (claims_of c.args.specs.now.items) = ap length c.requires.claims in
    omega (arith, few, same)
