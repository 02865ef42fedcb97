-- A word that a set's table finds in a row meets it.
use Rattle.std.proofs.Common.{◌≡◌, ◌∙◌, ℕ, true, Option, Some, None, refl, ap, subst}
use Rattle.std.specs.Prelude.{option_map}
use Rattle.isa_table.specs.Rows.{TableRow, meets}
use Rattle.isa_table.specs.Rows as rows
use Rattle.isa_model.specs.Machine.{Set, has_row}
use Rattle.plug_law.specs.Table.{row_numbered, table_of, number_of}
use Rattle.plug_law.proofs.Rows.{row_is, is_met}

some : (x y : ℕ) → ◌≡◌ {A = Option ℕ} (Some x) (Some y) → x ≡ y
some x y e = cc

none : (x : ℕ) → ◌≡◌ {A = Option ℕ} None (Some x) → ⊥
none x e = cc

pub met : (set : Set) (word number : ℕ) → (table_of set).row_of word ≡ Some number → meets word (row_numbered number) ≡ true
unfolding table_of
met set word number h = by (rows.row_of (has_row set) word) refl h
  where
    by : (o : Option TableRow) → rows.row_of (has_row set) word ≡ o → option_map number_of o ≡ Some number → meets word (row_numbered number) ≡ true
    by None e g = absurd (none number g)
    by (Some row) e g =
        let same : row.number ≡ number = some row.number number g in
        subst (λ n. meets word (row_numbered n) ≡ true) same (ap (meets word) (row_is (has_row set) word row e) ∙ is_met (has_row set) word row e)
