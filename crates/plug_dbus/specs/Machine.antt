-- The unit in equations over numbers, as its circuit computes them; a truth value is 1 or 0.
use Rattle.std.specs.Prelude.{ℕ, bit_and, bit_or}
use Rattle.core_words.specs.Values.{not_of, bits_of, choose, join_of}
use Rattle.dbus_law.specs.Words.{address_of, bit, kind_of, mask_by, spread_of, value_by}

-- ---- of an address

-- the address is no multiple of the size
unfoldable pub misaligned_of : (word address : ℕ) → ℕ
misaligned_of word address =
    bit_or (bit_and (bits_of word 12 12) (bits_of address 0 0)) (bit_and (bits_of word 13 13) (bit_or (bits_of address 1 1) (bits_of address 0 0)))

-- the address of the word that it lies in
unfoldable pub whole_of : (address : ℕ) → ℕ
whole_of address = join_of 2 (bits_of address 31 2) 0

-- the mask of the access, and the value of a load from the word d
unfoldable pub mask_at : (word address : ℕ) → ℕ
mask_at word address = mask_by (kind_of word) (bit address 1) (bit address 0)

unfoldable pub value_at : (word address d : ℕ) → ℕ
value_at word address d = value_by (kind_of word) (bit address 1) (bit address 0) d

-- ---- of an instruction at work

-- no command is given for it
unfoldable pub needs_none_of : (word misaligned : ℕ) → ℕ
needs_none_of word misaligned = bit_or (bits_of word 2 2) misaligned

unfoldable pub done_of : (go needs_none owed answered : ℕ) → ℕ
done_of go needs_none owed answered = bit_and go (bit_or needs_none (bit_and owed answered))

unfoldable pub trap_of : (word misaligned failed : ℕ) → ℕ
trap_of word misaligned failed = bit_and (not_of 1 (bits_of word 2 2)) (bit_or misaligned failed)

-- 4 to 7
unfoldable pub cause_of : (word misaligned : ℕ) → ℕ
cause_of word misaligned = join_of 2 1 (join_of 1 (bits_of word 5 5) (not_of 1 misaligned))

-- ---- of the registers

-- a command begins
unfoldable pub starts_of : (go needs_none given owed clear : ℕ) → ℕ
starts_of go needs_none given owed clear = bit_and go (not_of 1 (bit_or (bit_or needs_none clear) (bit_or given owed)))

unfoldable pub given_of : (starts given ready : ℕ) → ℕ
given_of starts given ready = bit_or starts (bit_and given (not_of 1 ready))

unfoldable pub owed_of : (given ready owed answered : ℕ) → ℕ
owed_of given ready owed answered = bit_or (bit_and given ready) (bit_and owed (not_of 1 answered))

-- ---- of a cycle

-- one cycle of the part: its registers, its inputs, and what the bus says
pub record Now : Type 0 where
  pub given : ℕ
  pub owed : ℕ
  pub address : ℕ
  pub writes : ℕ
  pub payload : ℕ
  pub mask : ℕ
  pub go : ℕ
  pub pc : ℕ
  pub word : ℕ
  pub a : ℕ
  pub b : ℕ
  pub clear : ℕ
  pub ready : ℕ
  pub answered : ℕ
  pub failed : ℕ
  pub reply : ℕ

module _ (n : Now) where
  abbrev pub misaligned : ℕ
  misaligned = misaligned_of n.word (address_of n.word n.a)

  abbrev pub needs_none : ℕ
  needs_none = needs_none_of n.word misaligned

  abbrev pub starts : ℕ
  starts = starts_of n.go needs_none n.given n.owed n.clear

  -- the outputs but those that need no equation
  abbrev pub done_now : ℕ
  done_now = done_of n.go needs_none n.owed n.answered

  abbrev pub value_now : ℕ
  value_now = value_at n.word (address_of n.word n.a) n.reply

  abbrev pub trap_now : ℕ
  trap_now = trap_of n.word misaligned n.failed

  abbrev pub cause_now : ℕ
  cause_now = cause_of n.word misaligned

  -- the registers behind the cycle
  abbrev pub given_after : ℕ
  given_after = given_of starts n.given n.ready

  abbrev pub owed_after : ℕ
  owed_after = owed_of n.given n.ready n.owed n.answered

  abbrev pub address_after : ℕ
  address_after = choose starts (whole_of (address_of n.word n.a)) n.address

  abbrev pub writes_after : ℕ
  writes_after = choose starts (bits_of n.word 5 5) n.writes

  abbrev pub payload_after : ℕ
  payload_after = choose starts (spread_of n.word n.b) n.payload

  abbrev pub mask_after : ℕ
  mask_after = choose starts (mask_at n.word (address_of n.word n.a)) n.mask
