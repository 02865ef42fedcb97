use Rattle.std.proofs.Common.{rules}
use Rattle.unit_parts.proofs.Says.{are_known, is_spec_of}
use Rattle.unit_parts.proofs.spec.unit_spec.Goals as goal

pub claims_of-requires : goal.claims_of-requires
claims_of-requires c = are_known c.args.rows.now c.requires.rows

pub returns-clause-is_spec : goal.returns-clause-is_spec
returns-clause-is_spec c = is_spec_of _ c.args.name.now c.args.rows.now c.args.fixed (search rules) c.requires.rows c.requires.fixed
