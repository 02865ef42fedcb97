-- The table of each set has what proofs need to know of a table.
use Rattle.std.proofs.Common.{◌≡◌, ℕ, Option, Some, None, refl, sym, ap, ◌∙◌, subst, false}
use Rattle.std.specs.Prelude.{option_map}
use Rattle.bus_law.specs.Memory.{Memory}
use Rattle.isa_table.specs.Rows.{Action, TableRow, row_of}
use Rattle.isa_table.specs.Uses.{gives_value}
use Rattle.isa_table.proofs.Uses.{a_free, b_free, value_is}
use Rattle.isa_csr.specs.Csrs.{Csrs}
use Rattle.isa_model.specs.Machine.{Set, has_row}
use Rattle.isa_model.specs.Effects.{Moment, Effect, effect_of, needs_system, write_of, written_by}
use Rattle.isa_model.specs.Effects.Effect.{Traps, Does}
use Rattle.isa_model.specs.Effects.Access.{NoAccess}
use Rattle.isa_model.proofs.Effects.{Fine, fine, csrs_kept, rests_need, memory_unread, write_is_access, no_access}
use Rattle.plug_law.specs.Table.{row_numbered, number_of, table_of, IsTable}
use Rattle.plug_law.proofs.Rows.{ecall_bit, ebreak_bit, system_is, bus_is}
use Rattle.plug_law.proofs.Waiting.{is_wfi, rests_waits, moment_free}
use Rattle.plug_law.proofs.FenceWord.{fence_row}

number_same : (i j : ℕ) → ◌≡◌ {A = Option ℕ} (Some i) (Some j) → i ≡ j
number_same i j e = cc

none_not_number : (j : ℕ) → ◌≡◌ {A = Option ℕ} None (Some j) → ⊥
none_not_number j e = cc

-- a number that is found is a row's
of_row : (o : Option TableRow) (n : ℕ) → option_map number_of o ≡ Some n → (row : TableRow) × (o ≡ Some row) × (row.number ≡ n)
of_row None n e = absurd (none_not_number n e)
of_row (Some row) n e = (row, refl, number_same row.number n e)

module _ (number pc word a b : ℕ) (m : Memory) (c : Csrs) (o : Moment) where
  abbrev action : Action
  action = (row_numbered number).action pc word a b

  abbrev does : Effect
  does = effect_of pc word m c o action

  is_fine : Fine (gives_value action) (needs_system action) pc m c does
  is_fine = fine pc m c word o action

  fine_as : (e : Effect) → does ≡ e → Fine (gives_value action) (needs_system action) pc m c e
  fine_as e h = subst (Fine (gives_value action) (needs_system action) pc m c) h is_fine

pub is_table : (s : Set) → IsTable (table_of s)
unfolding table_of
is_table s = record {
  a = λ row pc word a a' b m c o h. ap (effect_of pc word m c o) (a_free row h pc word a a' b);
  b = λ row pc word a b b' m c o h. ap (effect_of pc word m c o) (b_free row h pc word a b b');
  ecall = λ pc word a b m c o. refl;
  ebreak = λ pc word a b m c o. refl;
  calls = (refl, refl);
  ecall_word = λ word h. let w = of_row (row_of (has_row s) word) 38 h in ecall_bit (has_row s) word w.0 w.1 w.2;
  ebreak_word = λ word h. let w = of_row (row_of (has_row s) word) 39 h in ebreak_bit (has_row s) word w.0 w.1 w.2;
  value = λ row pc word a b m c o v next w change h. value_is row pc word a b ∙ (fine_as row pc word a b m c o (Does v next w change) h).0;
  plain = λ row pc word a b m c d o h.
      csrs_kept (gives_value (action row pc word a b m c o)) (needs_system (action row pc word a b m c o)) pc m c (does row pc word a b m c o) (is_fine row pc word a b m c o)
      (sym (system_is row pc word a b) ∙ h) d;
  pure = λ row pc word a b m m' c o h. memory_unread pc word m m' c o ((row_numbered row).action pc word a b) (sym (bus_is row pc word a b) ∙ h);
  waits = λ row pc word a b m c o h.
      system_is row pc word a b
      ∙ rests_need (gives_value (action row pc word a b m c o)) (needs_system (action row pc word a b m c o)) pc m c (does row pc word a b m c o) (is_fine row pc word a b m c o) h;
  sleeps = λ row pc word a b m c o h.
      let w = rests_waits pc word m c o ((row_numbered row).action pc word a b) h in
      (is_wfi row pc word a b w.0, w.1);
  timeless = λ row pc word a b m c o o' h. moment_free pc word m c o o' ((row_numbered row).action pc word a b) (sym (system_is row pc word a b) ∙ h);
  fence_word = λ word row h f. let w = of_row (row_of (has_row s) word) row h in sym w.2 ∙ fence_row (has_row s) word w.0 w.1 f;
  faults = λ row pc word a b m c o cause tval w h. fine_as row pc word a b m c o (Traps cause tval (Some w)) h;
  whole = λ row pc word a b m c o v next w change p k h. (fine_as row pc word a b m c o (Does v next w change) h).2 p k;
}

-- the write of a row's effect is that of its access
pub writes_its_access : (s : Set) (row pc word a b : ℕ) (m : Memory) (c : Csrs) (o : Moment)
    → write_of ((table_of s).effect row pc word a b m c o) ≡ written_by ((table_of s).access row pc word a b)
unfolding table_of
writes_its_access s row pc word a b m c o = write_is_access pc word m c o ((row_numbered row).action pc word a b)

-- rows of other groups than loads and stores have no access
pub has_no_access : (s : Set) (row pc word a b : ℕ) → (table_of s).of_bus row ≡ false → (table_of s).access row pc word a b ≡ NoAccess
unfolding table_of
has_no_access s row pc word a b h = no_access ((row_numbered row).action pc word a b) (sym (bus_is row pc word a b) ∙ h)
