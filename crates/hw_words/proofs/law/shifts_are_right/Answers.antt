use Rattle.hw_words.proofs.Shifts.{left, right_zeros, right_signed}
use Rattle.hw_words.proofs.law.shifts_are_right.Goals as goal

pub returns : goal.returns
returns c = record { left = left; right = λ a n h few. right_zeros n few a h; signed = right_signed }
