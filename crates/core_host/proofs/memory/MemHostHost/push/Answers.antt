use Rattle.std.proofs.Common.{IsTrue, refl, inl, arith}
use Rattle.std.proofs.lemmas.Grind.{common_steps}
use Rattle.core_host.specs.Memory.{is_to_fail}
use Rattle.core_host.proofs.memory.MemHostHost.push.Goals as goal

pub returns-then-count_call-clause-fails : goal.returns-then-count_call-clause-fails
returns-then-count_call-clause-fails c =
    let listed : IsTrue (is_to_fail c.args.self.now) = grind (arith, common_steps) in
    (λ _. inl listed, λ _. refl)
