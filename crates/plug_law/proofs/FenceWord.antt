-- The word of a FENCE.I has no row but FENCE.I's.
use Rattle.std.proofs.Common.{◌≡◌, ℕ, Bool, true, eqb, Some, bit_and, refl, sym, ap, ◌∙◌}
use Rattle.std.proofs.lemmas.Bool.{eqb-true, eq-eqb}
use Rattle.std.proofs.lemmas.Nat.{and_assoc, and_comm}
use Rattle.isa_table.specs.Rows.{TableRow, row_of}
use Rattle.isa_table.proofs.Uses.{at_row}
use Rattle.isa_model.specs.Run.{is_fence_word}
use Rattle.plug_law.specs.Table.{row_numbered}
use Rattle.plug_law.proofs.Rows.{is_met, row_is}

and_swap : (w a b : ℕ) → bit_and (bit_and w a) b ≡ bit_and (bit_and w b) a
and_swap w a b = and_assoc b w a ∙ ap (bit_and w) (and_comm a b) ∙ sym (and_assoc a w b)

-- of all rows it is the only one whose fixed bits allow it
only : (number : ℕ) → eqb (bit_and (row_numbered number).value 0x707f) (bit_and 0x100f (row_numbered number).mask) ≡ eqb (row_numbered number).number 40
only number = at_row (λ r. eqb (bit_and r.value 0x707f) (bit_and 0x100f r.mask)) (λ r. eqb r.number 40) refl refl number

pub fence_row : (taken : ℕ → Bool) (word : ℕ) (row : TableRow) → row_of taken word ≡ Some row → is_fence_word word ≡ true → row.number ≡ 40
fence_row taken word row e f =
    ap (λ (r : TableRow). r.number) (sym (row_is taken word row e)) ∙ eqb-true (row_numbered row.number).number 40 (sym (only row.number) ∙ agrees)
  where
    same : bit_and row.value 0x707f ≡ bit_and 0x100f row.mask
    same =
        ap (λ v. bit_and v 0x707f) (sym (eqb-true (bit_and word row.mask) row.value (is_met taken word row e)))
        ∙ and_swap word row.mask 0x707f ∙ ap (λ v. bit_and v row.mask) (eqb-true (bit_and word 0x707f) 0x100f f)

    agrees : eqb (bit_and (row_numbered row.number).value 0x707f) (bit_and 0x100f (row_numbered row.number).mask) ≡ true
    agrees = ap (λ (r : TableRow). eqb (bit_and r.value 0x707f) (bit_and 0x100f r.mask)) (row_is taken word row e) ∙ eq-eqb (bit_and row.value 0x707f) (bit_and 0x100f row.mask) same
