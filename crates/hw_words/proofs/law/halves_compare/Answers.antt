use Rattle.hw_words.proofs.Halves.{less_unsigned, less_signed, equal_is}
use Rattle.hw_words.proofs.law.halves_compare.Goals as goal

pub returns : goal.returns
returns c = record { unsigned = less_unsigned; signed = less_signed; equal = equal_is }
