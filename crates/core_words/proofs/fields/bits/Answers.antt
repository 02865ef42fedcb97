use Rattle.std.proofs.lemmas.Nat.{and_mask}
use Rattle.std.proofs.Common.{refl}
use Rattle.core_words.proofs.fields.bits.Goals as goal

pub returns : goal.returns
returns c = rw (c.mask_of.ensures, and_mask, c.from.ensures) refl
