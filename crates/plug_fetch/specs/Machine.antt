-- The part that fetches, in equations over numbers: a queue of items by place, and one command on the instruction bus. A
-- command goes out only where its word will have a place; a redirect empties the queue, and the word of a command that is
-- at work then is dropped when it comes.
use Rattle.std.specs.Prelude.{ℕ, zero, suc, ◌-◌, cond, ltb, bit_and, bit_or}
use Rattle.core_words.specs.Values.{choose, not_of}

-- ---- one value each; all but pcs, words and addresses are bits

-- the response comes
unfoldable pub response_of : (owed answered : ℕ) → ℕ
response_of owed answered = bit_and owed answered

-- no command is at work, or the response of the one at work comes
unfoldable pub idle_of : (given owed response : ℕ) → ℕ
idle_of given owed response = bit_or (not_of 1 (bit_or given owed)) response

-- the word that comes is kept
unfoldable pub kept_of : (response dropped : ℕ) → ℕ
kept_of response dropped = bit_and response (not_of 1 dropped)

-- whether a place is held after a take, which moves each item on by one
unfoldable pub moved_of : (take own next : ℕ) → ℕ
moved_of take own next = choose take next own

-- what is kept fills the first place that is not held: the one before it is
unfoldable pub fills_of : (kept moved before : ℕ) → ℕ
fills_of kept moved before = bit_and kept (bit_and (not_of 1 moved) before)

-- whether a place is held next
unfoldable pub held_of : (redirect moved fills : ℕ) → ℕ
held_of redirect moved fills = bit_and (not_of 1 redirect) (bit_or moved fills)

-- what a place holds next: what comes, what the next place holds, or its own
unfoldable pub put_of : (fills came take next own : ℕ) → ℕ
put_of fills came take next own = choose fills came (choose take next own)

-- the pc to be read next; guess is the pc behind the word that comes
unfoldable pub pc_of : (redirect redirect_pc kept guess next_pc : ℕ) → ℕ
pc_of redirect redirect_pc kept guess next_pc = choose redirect redirect_pc (choose kept guess next_pc)

-- a command is given: a new one, where the last place will not be held, or one that was not accepted
unfoldable pub given_of : (idle last given ready : ℕ) → ℕ
given_of idle last given ready = bit_or (bit_and idle (not_of 1 last)) (bit_and given (not_of 1 ready))

-- a response is owed
unfoldable pub owed_of : (given ready owed response : ℕ) → ℕ
owed_of given ready owed response = bit_or (bit_and given ready) (bit_and owed (not_of 1 response))

-- the word that will come is dropped
unfoldable pub dropped_of : (redirect dropped idle : ℕ) → ℕ
dropped_of redirect dropped idle = bit_and (bit_or redirect dropped) (not_of 1 idle)

-- the address of the command, also of the next one while there is none
unfoldable pub address_of : (idle pc address : ℕ) → ℕ
address_of idle pc address = choose idle pc address

-- ---- one cycle

pub record Now : Type 0 where
  -- what the part holds: by place whether there is an item, its pc, its word and whether it is an access fault
  pub held : ℕ → ℕ
  pub pc : ℕ → ℕ
  pub word : ℕ → ℕ
  pub error : ℕ → ℕ
  -- a command is given, its response is owed, and its word will be dropped; the command's address
  pub given : ℕ
  pub owed : ℕ
  pub dropped : ℕ
  pub address : ℕ
  -- the pc to be read next
  pub next_pc : ℕ
  -- what comes from the pipeline
  pub take : ℕ
  pub redirect : ℕ
  pub redirect_pc : ℕ
  -- what comes from the bus: it accepts, it answers, with an error, and the word
  pub ready : ℕ
  pub answered : ℕ
  pub failed : ℕ
  pub payload : ℕ
  -- the pc behind the word that comes: Predict's answer, or the pc of the next word
  pub guess : ℕ

abbrev pub response : Now → ℕ
response n = response_of n.owed n.answered

abbrev pub idle : Now → ℕ
idle n = idle_of n.given n.owed (response n)

abbrev pub kept : Now → ℕ
kept n = kept_of (response n) n.dropped

abbrev pub pc_after : Now → ℕ
pc_after n = pc_of n.redirect n.redirect_pc (kept n) n.guess n.next_pc

abbrev pub owed_after : Now → ℕ
owed_after n = owed_of n.given n.ready n.owed (response n)

abbrev pub dropped_after : Now → ℕ
dropped_after n = dropped_of n.redirect n.dropped (idle n)

abbrev pub address_after : Now → ℕ
address_after n = address_of (idle n) (pc_after n) n.address

-- so many places
module _ (depth : ℕ) (n : Now) where
  -- no item comes from beyond the last place
  abbrev pub next_held : (place : ℕ) → ℕ
  next_held i = cond (ltb (suc i) depth) (n.held (suc i)) 0

  abbrev pub moved : (place : ℕ) → ℕ
  moved i = moved_of n.take (n.held i) (next_held i)

  abbrev pub before : (place : ℕ) → ℕ
  before zero = 1
  before (suc i) = moved i

  abbrev pub fills : (place : ℕ) → ℕ
  fills i = fills_of (kept n) (moved i) (before i)

  abbrev pub held_after : (place : ℕ) → ℕ
  held_after i = held_of n.redirect (moved i) (fills i)

  -- of pcs, words or errors; the last place has no next one
  abbrev pub put : (place came : ℕ) → (own : ℕ → ℕ) → ℕ
  put i came own = put_of (fills i) came n.take (cond (ltb (suc i) depth) (own (suc i)) (own i)) (own i)

  abbrev pub given_after : ℕ
  given_after = given_of (idle n) (held_after (depth - 1)) n.given n.ready
