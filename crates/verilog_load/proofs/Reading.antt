-- What the reader's answer says of a text.
use Rattle.std.proofs.Common.{◌≡◌, ◌<◌, ◌≤◌, ◌↔◌, ◌⊎◌, ℕ, List, length, Ok, Err, Result, inl, inr, refl, ap, subst}
use Rattle.std.proofs.lemmas.Bool.{cases_lt}
use Rattle.verilog_tree.specs.declared.tree.Tree.{Tree}
use Rattle.verilog_tree.specs.Module.{Reads}
use Rattle.verilog_tree.proofs.ModuleIsRead.{one_tree}
use Rattle.verilog_mean.specs.Sound.{IsSound}
use Rattle.verilog_mean.specs.declared.refusal.MeanRefusal.{MeanRefusal}
use Rattle.verilog_mean.specs.declared.refusal.MeanRefusal.TheVariants as mean
use Rattle.verilog_read.specs.declared.refusal.ReadRefusal.{ReadRefusal}
use Rattle.verilog_read.specs.declared.refusal.ReadRefusal.TheVariants.{TooLong, Unsupported, Text, NoMemory}
use Rattle.verilog_read.specs.Outcome.{IsTree}
use Rattle.verilog_read.specs.Places.{IsInPlace}
use Rattle.verilog_rules.specs.Refusals.{IsFirstRefusal}
use Rattle.verilog_load.specs.Told.{HasNoTree, IsUnsound, IsTold, unread_as, unsound_as}

-- a text that is read is not too long
pub short_enough : (n : ℕ) (t : Tree) → (◌≡◌ {A = Result Tree ReadRefusal} (Ok t) (Err (TooLong n))) ↔ (16777216 < n) → n ≤ 16777216
short_enough n t h = elim (cases_lt 16777216 n) [
  | inl more ↦ absurd (let e = h.1 more in cc)
  | inr less ↦ less
]

-- a text that has a tree is refused for want of memory alone
pub only_memory : (e : ReadRefusal) (t : Tree) → IsTree (Err e) t → e ≡ NoMemory
only_memory NoMemory t h = refl
only_memory (TooLong len) t h = absurd h
only_memory (Unsupported at form) t h = absurd h
only_memory (Text at) t h = absurd h

-- a refusal that is not for the length says that no tree is there
no_tree : (bytes : List ℕ) (e : ReadRefusal) → length bytes ≤ 16777216 → ((t : Tree) → length bytes ≤ 16777216 → Reads bytes t → IsTree (Err e) t) → (e ≡ NoMemory → ⊥) → HasNoTree bytes
no_tree bytes e short only not_memory = record { short = short; none = λ t reads. not_memory (only_memory e t (only t short reads)) }

-- what is not told as too long is not
not_long : (n : ℕ) (e : ReadRefusal) → (◌≡◌ {A = Result Tree ReadRefusal} (Err e) (Err (TooLong n))) ↔ (16777216 < n) → (e ≡ TooLong n → ⊥) → n ≤ 16777216
not_long n e h other = elim (cases_lt 16777216 n) [
  | inl more ↦ absurd (other (let q = h.1 more in cc))
  | inr less ↦ less
]

-- what the reader says, handed on
pub unread_told : (bytes : List ℕ) (e : ReadRefusal)
    → (◌≡◌ {A = Result Tree ReadRefusal} (Err e) (Err (TooLong (length bytes)))) ↔ (16777216 < length bytes)
    → ((len : ℕ) → (◌≡◌ {A = Result Tree ReadRefusal} (Err e) (Err (TooLong len))) → len ≡ length bytes)
    → ((t : Tree) → length bytes ≤ 16777216 → Reads bytes t → IsTree (Err e) t)
    → IsInPlace bytes e
    → IsTold bytes (unread_as e)
unread_told bytes NoMemory long told only place = tt
unread_told bytes (TooLong len) long told only place =
    let same = told len refl in
    (same, long.0 (ap (λ n. Err (TooLong n)) same))
unread_told bytes (Unsupported at form) long told only place = (no_tree bytes (Unsupported at form) (not_long (length bytes) (Unsupported at form) long (λ q. cc)) only (λ q. cc), place)
unread_told bytes (Text at) long told only place = (no_tree bytes (Text at) (not_long (length bytes) (Text at) long (λ q. cc)) only (λ q. cc), place)

-- a sound tree of a text is refused for want of memory alone
pub sound_refused : (bytes : List ℕ) (u t : Tree) (e : MeanRefusal) → Reads bytes u → Reads bytes t → IsSound t
    → (e ≡ mean.NoMemory) ⊎ (IsSound u → ⊥) → e ≡ mean.NoMemory
sound_refused bytes u t e a b s (inl m) = m
sound_refused bytes u t e a b s (inr h) = absurd (h (subst IsSound (one_tree bytes t u b a) s))

module _ (bytes : List ℕ) (t : Tree) (short : length bytes ≤ 16777216) (reads : Reads bytes t) where
  unsound : (e : MeanRefusal) → (e ≡ mean.NoMemory → ⊥) → IsFirstRefusal t e → (e ≡ mean.NoMemory) ⊎ (IsSound t → ⊥) → IsUnsound bytes e
  unsound e not_memory first (inl m) = absurd (not_memory m)
  unsound e not_memory first (inr h) = record { tree = t; short = short; reads = reads; first = first; not_memory = not_memory; not_sound = h }

  -- what the checker says, handed on
  pub unsound_told : (e : MeanRefusal) → IsFirstRefusal t e → (e ≡ mean.NoMemory) ⊎ (IsSound t → ⊥) → IsTold bytes (unsound_as e)
  unsound_told mean.NoMemory first h = tt
  unsound_told (mean.NameTwice at) first h = unsound (mean.NameTwice at) (λ q. cc) first h
  unsound_told (mean.BadSize at found) first h = unsound (mean.BadSize at found) (λ q. cc) first h
  unsound_told (mean.NameUnknown at) first h = unsound (mean.NameUnknown at) (λ q. cc) first h
  unsound_told (mean.KindDiffers at) first h = unsound (mean.KindDiffers at) (λ q. cc) first h
  unsound_told (mean.SelectOutside at high low width) first h = unsound (mean.SelectOutside at high low width) (λ q. cc) first h
  unsound_told (mean.WidthDiffers at left right) first h = unsound (mean.WidthDiffers at left right) (λ q. cc) first h
  unsound_told (mean.DriverTwice at) first h = unsound (mean.DriverTwice at) (λ q. cc) first h
  unsound_told (mean.DriverMissing at) first h = unsound (mean.DriverMissing at) (λ q. cc) first h
  unsound_told (mean.Loop at) first h = unsound (mean.Loop at) (λ q. cc) first h
