-- The part that fetches through a cache of direct-mapped lines: what is looked up, a walk that clears the tags, a fill that
-- reads a line word by word, a word captured on its way, and the item that is offered.
use Rattle.std.specs.Prelude.{◌≡◌, ℕ, suc, ◌+◌, ◌*◌, ◌/◌, ◌%◌, Bool, true, false, cond, not, eqb, ltb, ◌&&◌, ◌||◌, Option, Some, None}
use Rattle.core_words.specs.Values.{one_if}
use Rattle.core_ports.specs.Trace.{Bus}
use Rattle.isa_model.specs.Effects.{behind}
use Rattle.plug_law.specs.Fetch.{FetchSignals}

-- the registers and arrays, by cycle
pub record Registers : Type 0 where
  -- the pc that is looked up
  pub pc : ℕ → ℕ
  -- how many tags the walk has cleared; it is over when these are all
  pub walk : ℕ → ℕ
  -- a command is given
  pub given : ℕ → Bool
  -- its response is owed
  pub owed : ℕ → Bool
  -- and will be dropped
  pub dropped : ℕ → Bool
  -- the line that is read, and the word within it
  pub line : ℕ → ℕ
  pub place : ℕ → ℕ
  -- one of its words was an error
  pub bad : ℕ → Bool
  -- the pc that is looked up waits for it
  pub wanted : ℕ → Bool
  -- that pc's own word, kept as it came; offered where the line is not held
  pub captured : ℕ → Bool
  pub captured_word : ℕ → ℕ
  pub captured_error : ℕ → Bool
  -- the line that is held under an index, and its words
  pub tags : (t index : ℕ) → Option ℕ
  pub cells : (t index place : ℕ) → ℕ
  -- the item that is offered
  pub full : ℕ → Bool
  pub out_pc : ℕ → ℕ
  pub out_word : ℕ → ℕ
  pub out_error : ℕ → Bool

-- the line of an address, and the word within it
abbrev pub line_of : (words addr : ℕ) → ℕ
line_of words addr = addr / 4 / words

abbrev pub place_of : (words addr : ℕ) → ℕ
place_of words addr = addr / 4 % words

abbrev pub is_line : Option ℕ → ℕ → Bool
is_line None n = false
is_line (Some k) n = eqb k n

-- the address of a word of a line
abbrev pub address_of : (words line place : ℕ) → ℕ
address_of words line place = 4 * (line * words + place)

module _ (lines words : ℕ) (f : FetchSignals) (ib : Bus) (r : Registers) where
  abbrev pub walking : ℕ → Bool
  walking t = ltb (r.walk t) lines

  abbrev pub looks : ℕ → Bool
  looks t = not ((r.given t || r.owed t) || walking t)

  abbrev pub line_now : ℕ → ℕ
  line_now t = line_of words (r.pc t)

  abbrev pub hits : ℕ → Bool
  hits t = is_line (r.tags t (line_now t % lines)) (line_now t)

  -- the item of the pc that is looked up is there
  abbrev pub finds : ℕ → Bool
  finds t = looks t && (r.captured t || hits t)

  abbrev pub word_found : ℕ → ℕ
  word_found t = cond (r.captured t) (r.captured_word t) (r.cells t (line_now t % lines) (place_of words (r.pc t)))

  abbrev pub error_found : ℕ → Bool
  error_found t = r.captured t && r.captured_error t

  -- it moves to the output where there is room
  abbrev pub room : ℕ → Bool
  room t = not (r.full t) || f.take t

  abbrev pub moves : ℕ → Bool
  moves t = finds t && room t

  abbrev pub response : ℕ → Bool
  response t = r.owed t && eqb (ib.rsp_valid t) 1

  abbrev pub keeps : ℕ → Bool
  keeps t = response t && not (r.dropped t)

  abbrev pub is_last : ℕ → Bool
  is_last t = eqb (suc (r.place t)) words

  -- a fill begins, goes on with the next word, ends
  abbrev pub misses : ℕ → Bool
  misses t = looks t && (not (r.captured t || hits t) && not (f.redirect t))

  abbrev pub goes_on : ℕ → Bool
  goes_on t = keeps t && (not (is_last t) && not (f.fence t))

  abbrev pub ends : ℕ → Bool
  ends t = keeps t && is_last t

  abbrev pub now_bad : ℕ → Bool
  now_bad t = r.bad t || eqb (ib.rsp_error t) 1

  -- the captured word comes
  abbrev pub captures : ℕ → Bool
  captures t = keeps t && eqb (r.place t) (place_of words (r.pc t))

-- the pc behind the item that is looked up: what Predict answers, and the next word's where Predict is not offered
abbrev pub guess : (predicts : Bool) → FetchSignals → Registers → ℕ → ℕ
guess predicts f r t = cond predicts (f.answered t) (behind (r.pc t))

-- the equations, from cycle 1 on
pub record IsCache (lines words reset_pc : ℕ) (predicts : Bool) (f : FetchSignals) (ib : Bus) (r : Registers) : Type 0 where
  pub pc_reset : r.pc 1 ≡ reset_pc
  pub walk_reset : r.walk 1 ≡ 0
  pub given_reset : r.given 1 ≡ false
  pub owed_reset : r.owed 1 ≡ false
  pub captured_reset : r.captured 1 ≡ false
  pub full_reset : r.full 1 ≡ false
  pub pc : (s : ℕ) → r.pc (suc (suc s)) ≡ cond (f.redirect (suc s)) (f.redirect_pc (suc s)) (cond (moves lines words f ib r (suc s)) (guess predicts f r (suc s)) (r.pc (suc s)))
  pub walk : (s : ℕ) → r.walk (suc (suc s)) ≡ cond (f.fence (suc s)) 0 (cond (walking lines words f ib r (suc s)) (suc (r.walk (suc s))) (r.walk (suc s)))
  pub given : (s : ℕ) → r.given (suc (suc s)) ≡ (misses lines words f ib r (suc s) || (goes_on lines words f ib r (suc s) || (r.given (suc s) && not (eqb (ib.cmd_ready (suc s)) 1))))
  pub owed : (s : ℕ) → r.owed (suc (suc s)) ≡ ((r.given (suc s) && eqb (ib.cmd_ready (suc s)) 1) || (r.owed (suc s) && not (response lines words f ib r (suc s))))
  pub dropped : (s : ℕ) → r.dropped (suc (suc s)) ≡ ((f.fence (suc s) || r.dropped (suc s)) && (r.given (suc s) || (r.owed (suc s) && not (response lines words f ib r (suc s)))))
  pub line : (s : ℕ) → r.line (suc (suc s)) ≡ cond (misses lines words f ib r (suc s)) (line_now lines words f ib r (suc s)) (r.line (suc s))
  pub place : (s : ℕ) → r.place (suc (suc s)) ≡ cond (misses lines words f ib r (suc s)) 0 (cond (goes_on lines words f ib r (suc s)) (suc (r.place (suc s))) (r.place (suc s)))
  pub bad : (s : ℕ) → r.bad (suc (suc s)) ≡ (not (misses lines words f ib r (suc s)) && cond (keeps lines words f ib r (suc s)) (now_bad lines words f ib r (suc s)) (r.bad (suc s)))
  pub wanted : (s : ℕ) → r.wanted (suc (suc s)) ≡ ((misses lines words f ib r (suc s) || r.wanted (suc s)) && not (f.redirect (suc s)))
  pub captured : (s : ℕ) → r.captured (suc (suc s))
      ≡ (((ends lines words f ib r (suc s) && (r.wanted (suc s) && now_bad lines words f ib r (suc s))) || (r.captured (suc s) && not (moves lines words f ib r (suc s)))) && not (f.redirect (suc s)))
  pub captured_word : (s : ℕ) → r.captured_word (suc (suc s)) ≡ cond (captures lines words f ib r (suc s)) (ib.rsp_data (suc s)) (r.captured_word (suc s))
  pub captured_error : (s : ℕ) → r.captured_error (suc (suc s)) ≡ cond (captures lines words f ib r (suc s)) (eqb (ib.rsp_error (suc s)) 1) (r.captured_error (suc s))
  pub tags : (s index : ℕ) → r.tags (suc (suc s)) index
      ≡ cond (walking lines words f ib r (suc s)) (cond (eqb index (r.walk (suc s))) None (r.tags (suc s) index))
      (cond (ends lines words f ib r (suc s) && eqb index (r.line (suc s) % lines)) (cond (now_bad lines words f ib r (suc s)) None (Some (r.line (suc s)))) (r.tags (suc s) index))
  pub cells : (s index place : ℕ) → r.cells (suc (suc s)) index place
      ≡ cond (keeps lines words f ib r (suc s) && (eqb index (r.line (suc s) % lines) && eqb place (r.place (suc s)))) (ib.rsp_data (suc s)) (r.cells (suc s) index place)
  pub full : (s : ℕ) → r.full (suc (suc s)) ≡ (not (f.redirect (suc s)) && (moves lines words f ib r (suc s) || (r.full (suc s) && not (f.take (suc s)))))
  pub out_pc : (s : ℕ) → r.out_pc (suc (suc s)) ≡ cond (room lines words f ib r (suc s)) (r.pc (suc s)) (r.out_pc (suc s))
  pub out_word : (s : ℕ) → r.out_word (suc (suc s)) ≡ cond (room lines words f ib r (suc s)) (word_found lines words f ib r (suc s)) (r.out_word (suc s))
  pub out_error : (s : ℕ) → r.out_error (suc (suc s)) ≡ cond (room lines words f ib r (suc s)) (error_found lines words f ib r (suc s)) (r.out_error (suc s))
  -- the ports
  pub valid : (s : ℕ) → f.valid (suc s) ≡ r.full (suc s)
  pub item_pc : (s : ℕ) → f.pc (suc s) ≡ r.out_pc (suc s)
  pub item_word : (s : ℕ) → f.word (suc s) ≡ r.out_word (suc s)
  pub item_error : (s : ℕ) → f.error (suc s) ≡ r.out_error (suc s)
  pub cmd_valid : (s : ℕ) → ib.cmd_valid (suc s) ≡ one_if (r.given (suc s))
  pub cmd_addr : (s : ℕ) → ib.cmd_addr (suc s) ≡ address_of words (r.line (suc s)) (r.place (suc s))
  pub cmd_write : (s : ℕ) → ib.cmd_write (suc s) ≡ 0
  pub cmd_data : (s : ℕ) → ib.cmd_data (suc s) ≡ 0
  pub cmd_mask : (s : ℕ) → ib.cmd_mask (suc s) ≡ 0
  -- Predict is asked about the item that is looked up
  pub asks : predicts ≡ true → (s : ℕ) → (f.asked_pc (suc s) ≡ r.pc (suc s)) × (f.asked_word (suc s) ≡ word_found lines words f ib r (suc s))
