use Rattle.hw_words.proofs.Sums.{sum_adds, sum_subtracts, carry_adds, carry_tests, signed_tests}
use Rattle.hw_words.proofs.law.adder_is_right.Goals as goal

pub returns : goal.returns
returns c = record { sum = sum_adds; sum_carry = carry_adds; difference = sum_subtracts; unsigned = carry_tests; signed = signed_tests }
