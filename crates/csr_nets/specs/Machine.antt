-- The unit in equations over numbers, as its circuit computes them; a truth value is 1 or 0.
use Rattle.std.specs.Prelude.{ℕ, eqb, bit_and, bit_or}
use Rattle.core_words.specs.Values.{one_if, add_of, not_of, bits_of, choose, join_of}

-- what the registers hold
pub record HeldNow : Type 0 where
  pub on : ℕ
  pub was : ℕ
  pub soft : ℕ
  pub timer : ℕ
  pub outer : ℕ
  pub tvec : ℕ
  pub epc : ℕ
  pub scratch : ℕ
  pub cause : ℕ
  pub tval : ℕ

-- the interrupt lines
pub record LinesNow : Type 0 where
  pub soft : ℕ
  pub timer : ℕ
  pub outer : ℕ

-- what the unit is given
pub record GivenNow : Type 0 where
  pub go : ℕ
  pub pc : ℕ
  pub word : ℕ
  pub a : ℕ
  pub clear : ℕ

-- what it is told of an event
pub record ToldNow : Type 0 where
  pub event : ℕ
  pub kind : ℕ
  pub pc : ℕ
  pub cause : ℕ
  pub tval : ℕ

-- which CSR a word names
pub record HitsNow : Type 0 where
  pub status : ℕ
  pub isa : ℕ
  pub enables : ℕ
  pub vector : ℕ
  pub scratch : ℕ
  pub epc : ℕ
  pub cause : ℕ
  pub tval : ℕ
  pub pending : ℕ
  pub identity : ℕ

-- what a word is
pub record KindNow : Type 0 where
  pub access : ℕ
  pub returns : ℕ
  pub waits : ℕ
  pub writes : ℕ

-- what changes the registers
pub record ChangesNow : Type 0 where
  pub enters : ℕ
  pub leaves : ℕ
  pub writes : ℕ

-- one cycle
pub record Now : Type 0 where
  pub held : HeldNow
  pub lines : LinesNow
  pub given : GivenNow
  pub told : ToldNow

-- ---- which CSR a word names

-- the number of the CSR is this one, of which the upper 9 and the lower 3 bits are given
unfoldable pub hit_of : (word upper lower : ℕ) → ℕ
hit_of word upper lower = bit_and (one_if (eqb (bits_of word 31 23) upper)) (one_if (eqb (bits_of word 22 20) lower))

-- mvendorid, marchid, mimpid or mhartid
unfoldable pub identity_of : (word : ℕ) → ℕ
identity_of word = bit_or (hit_of word 0x1e2 1) (bit_or (hit_of word 0x1e2 2) (bit_or (hit_of word 0x1e2 3) (hit_of word 0x1e2 4)))

abbrev pub hits_of : (word : ℕ) → HitsNow
hits_of word = record {
  status = hit_of word 0x60 0;
  isa = hit_of word 0x60 1;
  enables = hit_of word 0x60 4;
  vector = hit_of word 0x60 5;
  scratch = hit_of word 0x68 0;
  epc = hit_of word 0x68 1;
  cause = hit_of word 0x68 2;
  tval = hit_of word 0x68 3;
  pending = hit_of word 0x68 4;
  identity = identity_of word;
}

-- there is a CSR of the number
unfoldable pub known_by : HitsNow → ℕ
known_by h =
    bit_or h.status (bit_or h.isa (bit_or h.enables (bit_or h.vector (bit_or h.scratch (bit_or h.epc (bit_or h.cause (bit_or h.tval (bit_or h.pending h.identity))))))))

-- it is never written
unfoldable pub read_only_of : (word : ℕ) → ℕ
read_only_of word = one_if (eqb (bits_of word 31 30) 3)

-- ---- what a word is

unfoldable pub access_of : (word : ℕ) → ℕ
access_of word = bit_or (bits_of word 12 12) (bits_of word 13 13)

unfoldable pub return_of : (word access : ℕ) → ℕ
return_of word access = bit_and (not_of 1 access) (bits_of word 29 29)

unfoldable pub wait_of : (word access : ℕ) → ℕ
wait_of word access = bit_and (not_of 1 access) (not_of 1 (bits_of word 29 29))

unfoldable pub write_of : (word : ℕ) → ℕ
write_of word = bit_or (not_of 1 (bits_of word 13 13)) (not_of 1 (one_if (eqb (bits_of word 19 15) 0)))

abbrev pub kind_of : (word : ℕ) → KindNow
kind_of word = record { access = access_of word; returns = return_of word (access_of word); waits = wait_of word (access_of word); writes = write_of word }

-- the operand, and the value that an access writes
unfoldable pub operand_by : (word a : ℕ) → ℕ
operand_by word a = choose (bits_of word 14 14) (join_of 5 0 (bits_of word 19 15)) a

unfoldable pub changed_by : (word operand old : ℕ) → ℕ
changed_by word operand old = choose (bits_of word 13 13) (choose (bits_of word 12 12) (bit_and old (not_of 32 operand)) (bit_or old operand)) operand

-- ---- the registers as they are read

unfoldable pub status_by : (on was : ℕ) → ℕ
status_by on was = join_of 11 3 (join_of 8 0 (join_of 7 was (join_of 4 0 (join_of 3 on 0))))

-- three bits at their places in mie and mip
unfoldable pub places_by : (soft timer outer : ℕ) → ℕ
places_by soft timer outer = join_of 12 0 (join_of 11 outer (join_of 8 0 (join_of 7 timer (join_of 4 0 (join_of 3 soft 0)))))

-- an address by all but its low two bits
unfoldable pub whole_by : (above : ℕ) → ℕ
whole_by above = join_of 2 above 0

-- the value read: a mask for each number
unfoldable pub rest_by : HitsNow → HeldNow → LinesNow → ℕ
rest_by h s l =
    bit_or (choose h.scratch s.scratch 0) (bit_or (choose h.epc (whole_by s.epc) 0) (bit_or (choose h.cause s.cause 0) (bit_or (choose h.tval s.tval 0)
    (choose h.pending (places_by l.soft l.timer l.outer) 0))))

unfoldable pub old_by : (misa rest : ℕ) → HitsNow → HeldNow → ℕ
old_by misa rest h s =
    bit_or (choose h.status (status_by s.on s.was) 0) (bit_or (choose h.isa misa 0) (bit_or (choose h.enables (places_by s.soft s.timer s.outer) 0)
    (bit_or (choose h.vector (whole_by s.tvec) 0) rest)))

-- ---- interrupts

-- an enabled interrupt is pending
unfoldable pub any_by : HeldNow → LinesNow → ℕ
any_by s l = bit_or (bit_and s.soft l.soft) (bit_or (bit_and s.timer l.timer) (bit_and s.outer l.outer))

unfoldable pub take_by : HeldNow → (any : ℕ) → ℕ
take_by s any = bit_and s.on any

unfoldable pub irq_cause_by : HeldNow → LinesNow → ℕ
irq_cause_by s l = choose (bit_and s.outer l.outer) 0x8000000b (choose (bit_and s.soft l.soft) 0x80000003 0x80000007)

-- ---- the outputs of Exec

unfoldable pub done_by : (go waits any : ℕ) → ℕ
done_by go waits any = bit_and go (bit_or (not_of 1 waits) any)

unfoldable pub trap_by : (word access writes known : ℕ) → ℕ
trap_by word access writes known = bit_and access (bit_or (not_of 1 known) (bit_and writes (read_only_of word)))

unfoldable pub next_pc_by : (returns epc pc : ℕ) → ℕ
next_pc_by returns epc pc = choose returns (whole_by epc) (add_of 32 pc 4)

-- ---- the next values of the registers

-- the unit's own effect takes place
unfoldable pub own_by : (done trap clear : ℕ) → ℕ
own_by done trap clear = bit_and done (bit_and (not_of 1 trap) (not_of 1 clear))

-- an event enters the handler: it is no retirement
unfoldable pub enters_by : (event kind : ℕ) → ℕ
enters_by event kind = bit_and event (not_of 1 (one_if (eqb kind 0)))

abbrev pub changes_by : (own : ℕ) → KindNow → ToldNow → ChangesNow
changes_by own k t = record { enters = enters_by t.event t.kind; leaves = bit_and own k.returns; writes = bit_and own (bit_and k.access k.writes) }

-- a register that an access writes
abbrev pub written_by : (writes hit new held : ℕ) → ℕ
written_by writes hit new held = choose (bit_and writes hit) new held

module _ (x : ChangesNow) (h : HitsNow) (s : HeldNow) (t : ToldNow) (new : ℕ) where
  unfoldable pub on_by : ℕ
  on_by = choose x.enters 0 (choose x.leaves s.was (written_by x.writes h.status (bits_of new 3 3) s.on))

  unfoldable pub was_by : ℕ
  was_by = choose x.enters s.on (choose x.leaves 1 (written_by x.writes h.status (bits_of new 7 7) s.was))

  unfoldable pub soft_by : ℕ
  soft_by = written_by x.writes h.enables (bits_of new 3 3) s.soft

  unfoldable pub timer_by : ℕ
  timer_by = written_by x.writes h.enables (bits_of new 7 7) s.timer

  unfoldable pub outer_by : ℕ
  outer_by = written_by x.writes h.enables (bits_of new 11 11) s.outer

  unfoldable pub tvec_by : ℕ
  tvec_by = written_by x.writes h.vector (bits_of new 31 2) s.tvec

  unfoldable pub epc_by : ℕ
  epc_by = choose x.enters (bits_of t.pc 31 2) (written_by x.writes h.epc (bits_of new 31 2) s.epc)

  unfoldable pub scratch_by : ℕ
  scratch_by = written_by x.writes h.scratch new s.scratch

  unfoldable pub cause_by : ℕ
  cause_by = choose x.enters t.cause (written_by x.writes h.cause new s.cause)

  unfoldable pub tval_by : ℕ
  tval_by = choose x.enters t.tval (written_by x.writes h.tval new s.tval)

-- ---- of a cycle, where misa reads this

module _ (misa : ℕ) (n : Now) where
  abbrev pub kind_now : KindNow
  kind_now = kind_of n.given.word

  abbrev pub hits_now : HitsNow
  hits_now = hits_of n.given.word

  abbrev pub any_now : ℕ
  any_now = any_by n.held n.lines

  abbrev pub take_now : ℕ
  take_now = take_by n.held any_now

  abbrev pub old_now : ℕ
  old_now = old_by misa (rest_by hits_now n.held n.lines) hits_now n.held

  abbrev pub new_now : ℕ
  new_now = changed_by n.given.word (operand_by n.given.word n.given.a) old_now

  abbrev pub done_now : ℕ
  done_now = done_by n.given.go kind_now.waits any_now

  abbrev pub trap_now : ℕ
  trap_now = trap_by n.given.word kind_now.access kind_now.writes (known_by hits_now)

  abbrev pub changes_now : ChangesNow
  changes_now = changes_by (own_by done_now trap_now n.given.clear) kind_now n.told

  -- the registers behind the cycle
  abbrev pub held_after : HeldNow
  held_after = record {
    on = on_by changes_now hits_now n.held n.told new_now;
    was = was_by changes_now hits_now n.held n.told new_now;
    soft = soft_by changes_now hits_now n.held n.told new_now;
    timer = timer_by changes_now hits_now n.held n.told new_now;
    outer = outer_by changes_now hits_now n.held n.told new_now;
    tvec = tvec_by changes_now hits_now n.held n.told new_now;
    epc = epc_by changes_now hits_now n.held n.told new_now;
    scratch = scratch_by changes_now hits_now n.held n.told new_now;
    cause = cause_by changes_now hits_now n.held n.told new_now;
    tval = tval_by changes_now hits_now n.held n.told new_now;
  }
