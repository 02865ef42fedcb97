use Rattle.std.proofs.Common.{◌≡◌, drop}
use Rattle.plug_kinds.specs.Kinds.{fault_of}
use Rattle.plug_kinds.proofs.params.check_params.Given as goal

abbrev pub invariant-loop-param : goal.invariant-loop-param
invariant-loop-param l = fault_of l.kind (drop l.param-index l.params) ≡ fault_of l.kind l.params
