-- What each refusal of a text says of the text.
use Rattle.std.specs.Prelude.{◌≡◌, ℕ, ◌<◌, ◌≤◌, List, length}
use Rattle.verilog_tree.specs.declared.tree.Tree.{Tree}
use Rattle.verilog_tree.specs.Module.{Reads}
use Rattle.verilog_read.specs.declared.refusal.ReadRefusal.{ReadRefusal}
use Rattle.verilog_read.specs.declared.refusal.ReadRefusal.TheVariants as read
use Rattle.verilog_read.specs.Places.{IsInPlace}
use Rattle.verilog_mean.specs.declared.refusal.MeanRefusal.{MeanRefusal}
use Rattle.verilog_mean.specs.declared.refusal.MeanRefusal.TheVariants as mean
use Rattle.verilog_mean.specs.Sound.{IsSound}
use Rattle.verilog_rules.specs.Refusals.{IsFirstRefusal}
use Rattle.verilog_load.specs.declared.load.TextRefusal.{TextRefusal}
use Rattle.verilog_load.specs.declared.load.TextRefusal.TheVariants.{Unread, Unsound, NoMemory}

-- a refusal of the reader, handed on
abbrev pub unread_as : ReadRefusal → TextRefusal
unread_as read.NoMemory = NoMemory
unread_as (read.TooLong len) = Unread (read.TooLong len)
unread_as (read.Unsupported at form) = Unread (read.Unsupported at form)
unread_as (read.Text at) = Unread (read.Text at)

-- a refusal of the checker, handed on
abbrev pub unsound_as : MeanRefusal → TextRefusal
unsound_as mean.NoMemory = NoMemory
unsound_as (mean.NameTwice at) = Unsound (mean.NameTwice at)
unsound_as (mean.BadSize at found) = Unsound (mean.BadSize at found)
unsound_as (mean.NameUnknown at) = Unsound (mean.NameUnknown at)
unsound_as (mean.KindDiffers at) = Unsound (mean.KindDiffers at)
unsound_as (mean.SelectOutside at high low width) = Unsound (mean.SelectOutside at high low width)
unsound_as (mean.WidthDiffers at left right) = Unsound (mean.WidthDiffers at left right)
unsound_as (mean.DriverTwice at) = Unsound (mean.DriverTwice at)
unsound_as (mean.DriverMissing at) = Unsound (mean.DriverMissing at)
unsound_as (mean.Loop at) = Unsound (mean.Loop at)

-- a text within the limit that has no tree
pub record HasNoTree (bytes : List ℕ) : Type 0 where
  pub short : length bytes ≤ 16777216
  pub none : (t : Tree) → Reads bytes t → ⊥

-- The reader refuses a text: its length is told exactly above the limit, and else it has no tree, and the place is where reading
-- stops. It is never want of memory.
abbrev pub IsUnread : List ℕ → ReadRefusal → Type 0
IsUnread bytes (read.TooLong len) = (len ≡ length bytes) × (16777216 < length bytes)
IsUnread bytes (read.Unsupported at form) = HasNoTree bytes × IsInPlace bytes (read.Unsupported at form)
IsUnread bytes (read.Text at) = HasNoTree bytes × IsInPlace bytes (read.Text at)
IsUnread bytes read.NoMemory = ⊥

-- The checker refuses a text's tree, which is not sound, by its first refusal. It is never want of memory.
pub record IsUnsound (bytes : List ℕ) (r : MeanRefusal) : Type 0 where
  pub tree : Tree
  pub short : length bytes ≤ 16777216
  pub reads : Reads bytes tree
  pub first : IsFirstRefusal tree r
  pub not_memory : r ≡ mean.NoMemory → ⊥
  pub not_sound : IsSound tree → ⊥

abbrev pub IsTold : List ℕ → TextRefusal → Type 0
IsTold bytes (Unread r) = IsUnread bytes r
IsTold bytes (Unsound r) = IsUnsound bytes r
IsTold bytes NoMemory = Unit {0}
