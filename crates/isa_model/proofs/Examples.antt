-- A run of the machine on four words: two ADDI, an ADD, and a word that is no instruction and stops it.
use Rattle.std.proofs.Common.{◌≡◌, ℕ, true, false, [], ◌∷◌, Option, Some, None, refl, inl, inr, arith, replicate}
use Rattle.core_words.specs.Fields.{imm_i}
use Rattle.bus_law.specs.Memory.{Memory, word_at}
use Rattle.isa_model.specs.Machine.{Set, Machine, machine_from, register, misa_of}
use Rattle.isa_model.specs.Machine.Fetched.{Word, Error}
use Rattle.isa_model.specs.Machine.Event.{Retire, Trap}
use Rattle.isa_model.specs.Step.{Moment, Done, Step, outcome_of}
use Rattle.isa_model.specs.Run.{History, Possible, IsRun, Continues, is_fence}

abbrev pub every_row : Set
every_row = record { claims = λ number. true; system = false }

abbrev pub memory : Memory
memory = record { base = 0x80000000; bytes = 0x93 ∷ 0x00 ∷ 0x50 ∷ 0x00 ∷ 0x13 ∷ 0x81 ∷ 0x70 ∷ 0x00 ∷ 0xb3 ∷ 0x81 ∷ 0x20 ∷ 0x00 ∷ 0 ∷ 0 ∷ 0 ∷ 0 ∷ [] }

abbrev pub start : Machine
start = machine_from every_row (replicate 32 0) 0x80000000 memory

abbrev pub quiet : ℕ → ℕ
quiet k = 0

abbrev pub at_rest : Moment
at_rest = record { lines = 0 }

-- what the outcome gives, or no event where it gives none
abbrev pub done_or : Option Done → Machine → Done
done_or (Some d) m = d
done_or None m = record { event = Trap 0 0 0 true; write = None; new = m }

abbrev pub step_on : Machine → ℕ → Done
step_on m word = done_or (outcome_of every_row m (Word word) at_rest) m

unfoldable pub first : Done
first = step_on start 0x00500093

unfoldable pub second : Done
second = step_on first.new 0x00708113

unfoldable pub third : Done
third = step_on second.new 0x002081b3

unfoldable pub fourth : Done
fourth = step_on third.new 0

abbrev pub history : History
history = record { cycle = 9; done = fourth } ∷ record { cycle = 7; done = third } ∷ record { cycle = 5; done = second } ∷ record { cycle = 2; done = first } ∷ []

record AreSteps : Type 0 where
  e1 : first.event ≡ Retire 0x80000000 0x00500093 1 5
  e2 : second.event ≡ Retire 0x80000004 0x00708113 2 12
  e3 : third.event ≡ Retire 0x80000008 0x002081b3 3 17
  e4 : fourth.event ≡ Trap 0x8000000c 0 2 true
  stops : fourth.new.stopped ≡ true

are_steps : AreSteps
unfolding first second third fourth outcome_of imm_i
are_steps = record { e1 = refl; e2 = refl; e3 = refl; e4 = refl; stops = refl }

one_step : Continues every_row start quiet [] (record { cycle = 2; done = first })
unfolding first outcome_of imm_i word_at
one_step = record { later = omega arith; fetched = Word 0x00500093; possible = refl; step = record { goes = refl; how = inr refl }; unpressed = (2, omega arith, omega arith, refl) }

two_steps : Continues every_row start quiet (record { cycle = 2; done = first } ∷ []) (record { cycle = 5; done = second })
unfolding first second outcome_of imm_i word_at
two_steps = record { later = omega arith; fetched = Word 0x00708113; possible = inl refl; step = record { goes = refl; how = inr refl }; unpressed = (5, omega arith, omega arith, refl) }

three_steps : Continues every_row start quiet (record { cycle = 5; done = second } ∷ record { cycle = 2; done = first } ∷ []) (record { cycle = 7; done = third })
unfolding first second third outcome_of imm_i word_at
three_steps = record { later = omega arith; fetched = Word 0x002081b3; possible = inl refl; step = record { goes = refl; how = inr refl }; unpressed = (6, omega arith, omega arith, refl) }

four_steps : Continues every_row start quiet (record { cycle = 7; done = third } ∷ record { cycle = 5; done = second } ∷ record { cycle = 2; done = first } ∷ []) (record { cycle = 9; done = fourth })
unfolding first second third fourth outcome_of imm_i word_at
four_steps = record { later = omega arith; fetched = Word 0; possible = inl refl; step = record { goes = refl; how = inr refl }; unpressed = (9, omega arith, omega arith, refl) }

is_run : IsRun every_row start quiet history
is_run = ((((tt, one_step), two_steps), three_steps), four_steps)

-- a stopped machine has no step
no_step : (d : Done) → Step every_row (record start { stopped = true }) (Word 0x00500093) at_rest d → ⊥
no_step d s = let e : true ≡ false = s.goes in cc

-- another word than memory's is not possible
differ : (a b : ℕ) → ◌≡◌ {A = Option ℕ} (Some a) (Some b) → a ≡ b
differ a b e = cc

not_possible : Possible start [] 0x80000000 (Word 0x00500113) → ⊥
unfolding word_at
not_possible p = let e = differ 0x00500093 0x00500113 p in absurd (omega arith)

record AreOutcomes : Type 0 where
  -- register 0 is 0 whatever its place holds
  zero_register : register (7 ∷ 8 ∷ []) 0 ≡ 0
  one_register : register (7 ∷ 8 ∷ []) 1 ≡ 8
  -- a fetch outside memory
  fetch_fault : (done_or (outcome_of every_row start Error at_rest) start).event ≡ Trap 0x80000000 0 1 true
  -- ECALL and EBREAK, which every set has
  call : (step_on start 0x73).event ≡ Trap 0x80000000 0x73 11 true
  breakpoint : (step_on start 0x100073).event ≡ Trap 0x80000000 0x100073 3 true
  -- addi x0, x0, 5 writes no register
  no_rd : (step_on start 0x00500013).event ≡ Retire 0x80000000 0x00500013 0 0
  -- FENCE.I by its word
  fence : is_fence (Retire 0 0x0000100f 0 0) ≡ true
  other_fence : is_fence (Retire 0 0x0000000f 0 0) ≡ false
  -- misa has M only where all of its rows are claimed
  with_m : misa_of every_row ≡ 0x40001100
  without_m : misa_of (record { claims = λ number. false; system = true }) ≡ 0x40000100

are_outcomes : AreOutcomes
unfolding outcome_of imm_i
are_outcomes = record { zero_register = refl; one_register = refl; fetch_fault = refl; call = refl; breakpoint = refl; no_rd = refl; fence = refl; other_fence = refl; with_m = refl; without_m = refl }
