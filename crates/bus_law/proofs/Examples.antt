-- Computed examples of memory and of what stands on a bus, and cores that break a duty.
use Rattle.std.proofs.Common.{◌≡◌, ℕ, ◌+◌, ◌<◌, true, false, [], ◌∷◌, ◌^◌, Some, None, All, refl, inl, arith, lit<, lit≤}
use Rattle.std.proofs.lemmas.List.Elements.{All-cons, All-nil}
use Rattle.core_ports.specs.Trace.{Bus}
use Rattle.bus_law.specs.Memory.{Memory, IsMemory, word_at, written, is_window, store_of, with_store}
use Rattle.bus_law.specs.Protocol.{is_given, is_accepted, is_write, owed, memory_at, writes_before}
use Rattle.bus_law.specs.Honest.{FetchReply, DataReply}
use Rattle.bus_law.specs.Prompt.{store_at, given_from, IsPrompt}
use Rattle.bus_law.specs.Duties.{breaks_standing, breaks_waiting, breaks_form}

abbrev pub memory : Memory
memory = record { base = 0x80000000; bytes = 0x93 ∷ 0x00 ∷ 0x50 ∷ 0x00 ∷ 0x11 ∷ 0x22 ∷ 0x33 ∷ 0x44 ∷ [] }

record AreWords : Type 0 where
  first : word_at memory 0x80000000 ≡ Some 0x00500093
  -- the low two bits of an address do not count
  inside : word_at memory 0x80000006 ≡ Some 0x44332211
  below : word_at memory 0x7ffffffc ≡ None
  above : word_at memory 0x80000008 ≡ None
  -- one byte, its lane taken from the word, and the other lanes left
  byte : word_at (written memory 0x80000004 0xaabbccdd 2) 0x80000004 ≡ Some 0x4433cc11
  word : word_at (written memory 0x80000004 0xaabbccdd 15) 0x80000004 ≡ Some 0xaabbccdd
  none : word_at (written memory 0x80000004 0xaabbccdd 0) 0x80000004 ≡ Some 0x44332211
  outside : written memory 0x80000008 0xaabbccdd 15 ≡ memory
  -- the lanes outside the mask are no part of a store
  lanes : store_of 0x80000005 0xaabbccdd 2 ≡ record { addr = 0x80000004; value = 0xcc00; mask = 2 }
  -- and a store writes what its command writes
  stored : with_store memory (Some (store_of 0x80000005 0xaabbccdd 2)) ≡ written memory 0x80000004 0xaabbccdd 2
  window : is_window 0xf000000f ≡ true
  no_window : is_window 0xf0000010 ≡ false

are_words : AreWords
unfolding word_at written
are_words = record { first = refl; inside = refl; below = refl; above = refl; byte = refl; word = refl; none = refl; outside = refl; lanes = refl; stored = refl; window = refl; no_window = refl }

record AreReplies : Type 0 where
  -- a fetch of the window is an error, a read of it is 0, and a write of it is taken
  fetched : FetchReply (word_at memory 0xf0000000) 1 7
  window_read : DataReply (word_at memory 0xf0000000) (is_window 0xf0000000) false 0 0
  window_written : DataReply (word_at memory 0xf0000004) (is_window 0xf0000004) true 0 7
  outside : DataReply (word_at memory 0x90000000) (is_window 0x90000000) true 1 7
  held : DataReply (word_at memory 0x80000000) (is_window 0x80000000) false 0 0x00500093

are_replies : AreReplies
unfolding word_at
are_replies = record { fetched = refl; window_read = (refl, refl); window_written = refl; outside = refl; held = (refl, refl) }

-- a core that gives a read of an address that grows with the cycle, to a bus that is never ready
abbrev pub restless : Bus
restless = record { cmd_valid = λ k. 1; cmd_ready = λ k. 0; cmd_write = λ k. 0; cmd_addr = λ k. k; cmd_data = λ k. 0; cmd_mask = λ k. 0; rsp_valid = λ k. 0; rsp_error = λ k. 0; rsp_data = λ k. 0 }

-- the same with one address, to a bus that is always ready and never answers
abbrev pub hasty : Bus
hasty = record restless { cmd_ready = λ k. 1; cmd_addr = λ k. 4 }

-- the same to a bus that is never ready: a command that stands
abbrev pub patient : Bus
patient = record restless { cmd_addr = λ k. 4 }

-- writes of two bytes that are no half of a word
abbrev pub uneven : Bus
uneven = record patient { cmd_write = λ k. 1; cmd_mask = λ k. 6 }

-- a read with a mask
abbrev pub masked : Bus
masked = record patient { cmd_mask = λ k. 15 }

record AreDuties : Type 0 where
  -- outputs in cycle 0 count as nothing, so that no command stands from there
  nothing_yet : breaks_standing restless 1 ≡ false
  changed : breaks_standing restless 2 ≡ true
  stood : breaks_standing patient 2 ≡ false
  taken : breaks_standing hasty 2 ≡ false
  -- the command of cycle 1 is accepted, and its response is owed in cycle 2
  given_first : breaks_waiting hasty 1 ≡ false
  given_again : breaks_waiting hasty 2 ≡ true
  owed_then : owed hasty 2 ≡ Some 1
  never_owed : breaks_waiting patient 2 ≡ false
  odd_address : breaks_form restless 1 ≡ true
  word_address : breaks_form patient 1 ≡ false
  bad_mask : breaks_form uneven 1 ≡ true
  read_mask : breaks_form masked 1 ≡ true

are_duties : AreDuties
unfolding breaks_standing breaks_waiting breaks_form is_given is_accepted owed
are_duties = record { nothing_yet = refl; changed = refl; stood = refl; taken = refl; given_first = refl; given_again = refl; owed_then = refl; never_owed = refl; odd_address = refl; word_address = refl; bad_mask = refl; read_mask = refl }

abbrev pub storing : Bus
storing = record hasty { cmd_write = λ k. 1; cmd_addr = λ k. 0x80000004; cmd_data = λ k. 0xaabbccdd; cmd_mask = λ k. 2; rsp_valid = λ k. 1 }

record AreWrites : Type 0 where
  -- a write is in memory from the end of the cycle that accepts it
  before : word_at (memory_at memory storing 1) 0x80000004 ≡ Some 0x44332211
  after : word_at (memory_at memory storing 2) 0x80000004 ≡ Some 0x4433cc11
  one : writes_before storing 2 ≡ store_of 0x80000004 0xaabbccdd 2 ∷ []

are_writes : AreWrites
unfolding memory_at word_at written is_write is_accepted is_given writes_before
are_writes = record { before = refl; after = refl; one = refl }

record AreFirsts : Type 0 where
  -- a command that stands was first given in cycle 1, and after an acceptance comes another
  standing : given_from patient 4 ≡ 1
  another : given_from hasty 4 ≡ 4
  -- the store of a write
  stored : store_at storing 1 ≡ store_of 0x80000004 0xaabbccdd 2

are_firsts : AreFirsts
unfolding given_from is_accepted is_given
are_firsts = record { standing = refl; another = refl; stored = refl }

-- in cycle 4 a bus that has not accepted the command of cycle 1 answers within 4 cycles, and not within 3
within_four : IsPrompt patient 4 4
unfolding given_from is_accepted is_given owed
within_four = record { accepts = λ g a. lit≤ tt; answers = λ j o v. absurd (cc) }

not_within_three : IsPrompt patient 3 4 → ⊥
unfolding given_from is_accepted is_given
not_within_three p = let l : 4 < 1 + 3 = p.accepts refl refl in omega arith

-- a memory that a system may have
abbrev pub word_memory : Memory
word_memory = record { base = 0x80000000; bytes = 255 ∷ 2 ∷ 3 ∷ 4 ∷ [] }

abbrev pub IsByte : ℕ → Type 0
IsByte b = b < 2 ^ 8

are_bytes : All IsByte word_memory.bytes
are_bytes =
    All-cons IsByte 255 (2 ∷ 3 ∷ 4 ∷ []) (lit< tt) (All-cons IsByte 2 (3 ∷ 4 ∷ []) (lit< tt)
    (All-cons IsByte 3 (4 ∷ []) (lit< tt) (All-cons IsByte 4 [] (lit< tt) (All-nil IsByte))))

is_memory : IsMemory word_memory
is_memory = record { aligned = refl; whole = refl; least = lit≤ tt; most = lit≤ tt; ends = lit≤ tt; apart = inl (lit≤ tt); fits = are_bytes }

-- a memory at an odd place is not one
one_not_zero : ◌≡◌ {A = ℕ} 1 0 → ⊥
one_not_zero e = absurd (omega arith)

no_memory : IsMemory (record { base = 1; bytes = 0 ∷ 0 ∷ 0 ∷ 0 ∷ [] }) → ⊥
no_memory m = one_not_zero m.aligned
