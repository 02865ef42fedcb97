-- A stream on that core: eight cycles that meet the premises of Overlap.
use Rattle.std.proofs.Common.{◌≡◌, ℕ, zero, suc, ◌+◌, ◌*◌, ◌/◌, ◌^◌, ◌<◌, ◌≤◌, Bool, true, false, List, [], ◌∷◌, inl, inr, set, refl, ap, ◌∙◌, sym, subst, arith, Option, Some, None, ltb, ◌&&◌, All}
use Rattle.std.specs.Prelude.{replicate}
use Rattle.core_words.specs.Fields.{imm_i}
use Rattle.core_ports.specs.Trace.{lines_at, on_port}
use Rattle.bus_law.specs.Memory.{Memory, word_at}
use Rattle.isa_csr.specs.Csrs.{pending}
use Rattle.isa_model.specs.Machine.{Fetched, Machine, machine_from}
use Rattle.isa_model.specs.Machine.Fetched.{Error, Word}
use Rattle.isa_model.specs.Machine.Event.{Retire}
use Rattle.isa_model.specs.Run.{FetchedFrom, History, Possible, now}
use Rattle.isa_model.specs.Step.{Done, outcome_of}
use Rattle.plug_law.specs.Pipeline.{asked, ends, enters, event, except_cause, faulty, finished, irq, kill, next_pc, retires, run, takes, through, trap_cause, trap_value, traps, tval, value, wins, writes}
use Rattle.plug_law.specs.Table.{table_of}
use Rattle.pipe_law.proofs.Follow.{hist, inv_at}
use Rattle.pipe_law.proofs.Execute.{past as history_of, past_is, pipe_follows, stage_laws, stage_steps}
use Rattle.pipe_law.proofs.Stream.{past_quiet}
use Rattle.pipe_law.specs.Overlap.{IsQuick, IsStream, PossibleIn}
use Rattle.isa_follow.specs.Follows.{Follows}
use Rattle.law_witness.specs.Stream.{MeetsStream}
use Rattle.law_witness.proofs.All.{core_csrs, honest, is_core, laws, met}
use Rattle.law_witness.specs.Cores.{all_rows}
use Rattle.law_witness.proofs.Parts.{offers, owner_of, rows}
use Rattle.law_witness.proofs.Units.{core_of}
use Rattle.law_witness.specs.Met.{World, lines_of}
use Rattle.law_witness.proofs.Whole.{at, inst, moment_is, steps, trace}
use Rattle.plug_law.specs.Pipeline as wire
use Rattle.std.proofs.lemmas.Bool.{ltb-true}
use Rattle.std.proofs.lemmas.List.Elements.{All-cons, All-nil}
use Rattle.pipe_law.proofs.Basics.{and_l, and_r}
use Rattle.core_ports.specs.Ports.{fe_valid}
use Rattle.core_words.specs.Values.{one_if}

-- bytes are below 256
all_small : List ℕ → Bool
all_small [] = true
all_small (x ∷ xs) = ltb x 256 && all_small xs

-- by a test
are_small : (xs : List ℕ) → all_small xs ≡ true → All (λ b. b < 2 ^ 8) xs
unfolding all_small
are_small [] h = All-nil (λ b. b < 2 ^ 8)
are_small (x ∷ xs) h = let e = ltb-true x 256 (and_l (ltb x 256) (all_small xs) h) in All-cons (λ b. b < 2 ^ 8) x xs e (are_small xs (and_r (ltb x 256) (all_small xs) h))

-- twelve times ADDI x0, x0, 0
pub program : Memory
program = record { base = 0; bytes = 19 ∷ 0 ∷ 0 ∷ 0 ∷ 19 ∷ 0 ∷ 0 ∷ 0 ∷ 19 ∷ 0 ∷ 0 ∷ 0 ∷ 19 ∷ 0 ∷ 0 ∷ 0 ∷ 19 ∷ 0 ∷ 0 ∷ 0 ∷ 19 ∷ 0 ∷ 0 ∷ 0 ∷ 19 ∷ 0 ∷ 0 ∷ 0 ∷ 19 ∷ 0 ∷ 0 ∷ 0 ∷ 19 ∷ 0 ∷ 0 ∷ 0 ∷ 19 ∷ 0 ∷ 0 ∷ 0 ∷ 19 ∷ 0 ∷ 0 ∷ 0 ∷ 19 ∷ 0 ∷ 0 ∷ 0 ∷ [] }

-- no interrupt, and Predict says the pc behind
pub world : World
unfolding program all_small
world = record {
  memory = program;
  reset_pc = 0;
  predict = λ pc word. pc / 4 * 4 + 4;
  software = λ k. 0;
  timer = λ k. 0;
  external = λ k. 0;
  start = replicate 32 0;
  is_memory = record { aligned = refl; whole = refl; least = omega arith; most = omega arith; ends = omega arith; apart = inl (omega arith); fits = are_small program.bytes refl };
  aligned = refl;
  whole = λ pc word. omega arith;
  full = refl;
}

-- each number below 8
cases8 : (P : ℕ → Type 0) → P 0 → P 1 → P 2 → P 3 → P 4 → P 5 → P 6 → P 7 → (i : ℕ) → i < 8 → P i
cases8 P a b c d e f g h zero l = a
cases8 P a b c d e f g h (suc zero) l = b
cases8 P a b c d e f g h (suc (suc zero)) l = c
cases8 P a b c d e f g h (suc (suc (suc zero))) l = d
cases8 P a b c d e f g h (suc (suc (suc (suc zero)))) l = e
cases8 P a b c d e f g h (suc (suc (suc (suc (suc zero))))) l = f
cases8 P a b c d e f g h (suc (suc (suc (suc (suc (suc zero)))))) l = g
cases8 P a b c d e f g h (suc (suc (suc (suc (suc (suc (suc zero))))))) l = h
cases8 P a b c d e f g h (suc (suc (suc (suc (suc (suc (suc (suc i)))))))) l = absurd (omega arith)

abbrev P : ℕ → Type 0
P t = (offers (at world t).fetching ≡ true) × (pending (at world t).csr 0 ≡ None)

-- from cycle 3 on an item is offered, and no interrupt is to be taken
there : (i : ℕ) → i < 8 → (offers (at world (suc (suc (suc i)))).fetching ≡ true) × (pending (at world (suc (suc (suc i)))).csr 0 ≡ None)
unfolding world at program word_at kill irq run finished value next_pc wire.cause tval wire.trap wire.fence through ends asked faulty wins traps retires writes enters except_cause trap_cause trap_value takes event table_of imm_i
there = cases8 (λ i. (offers (at world (suc (suc (suc i)))).fetching ≡ true) × (pending (at world (suc (suc (suc i)))).csr 0 ≡ None)) (refl, refl) (refl, refl) (refl, refl) (refl, refl) (refl, refl) (refl, refl) (refl, refl) (refl, refl)

-- the first two cycles have no event
quiet_1 : event (core_of world).shape (inst world) 1 ≡ false
unfolding world at program word_at kill irq run finished value next_pc wire.cause tval wire.trap wire.fence through ends asked faulty wins traps retires writes enters except_cause trap_cause trap_value takes event table_of imm_i
quiet_1 = refl

-- nor has the second
quiet_2 : event (core_of world).shape (inst world) 2 ≡ false
unfolding world at program word_at kill irq run finished value next_pc wire.cause tval wire.trap wire.fence through ends asked faulty wins traps retires writes enters except_cause trap_cause trap_value takes event table_of imm_i
quiet_2 = refl

abbrev pub begin : Machine
begin = machine_from all_rows (set world.start 0 0) world.reset_pc world.memory

abbrev pub step_at : ℕ → Machine
step_at i = record begin { pc = 4 * i }

abbrev done_at : ℕ → Done
done_at i = record { event = Retire (4 * i) 19 0 0; write = None; new = record begin { pc = 4 * suc i } }

-- the words of the program
words_are : (i : ℕ) → i < 8 → word_at world.memory (4 * i) ≡ Some 19
unfolding world program word_at
words_are = cases8 (λ i. word_at world.memory (4 * i) ≡ Some 19) refl refl refl refl refl refl refl refl

-- what the machine does with each
outcomes : (i : ℕ) → i < 8 → outcome_of all_rows (step_at i) (Word 19) (record { lines = 0 }) ≡ Some (done_at i)
unfolding world program outcome_of imm_i
outcomes = cases8 (λ i. outcome_of all_rows (step_at i) (Word 19) (record { lines = 0 }) ≡ Some (done_at i)) refl refl refl refl refl refl refl refl

-- each goes on where Predict says
in_order : (i : ℕ) → i < 8 → ◌≡◌ {A = ℕ} (4 * suc i) (world.predict (4 * i) 19)
unfolding world
in_order = cases8 (λ i. ◌≡◌ {A = ℕ} (4 * suc i) (world.predict (4 * i) 19)) refl refl refl refl refl refl refl refl

-- the row of these words
row_is : rows.row_of 19 ≡ Some 18
unfolding table_of
row_is = refl

-- it begins at 0
pc_first : ◌≡◌ {A = ℕ} 0 world.reset_pc
unfolding world
pc_first = refl

-- no interrupt line is up
no_lines : (t : ℕ) → ◌≡◌ {A = ℕ} (lines_of world t) 0
unfolding world
no_lines t = refl

-- memory gives one word at a pc
only_word : (m : Memory) (pc : ℕ) (got : Fetched) → word_at m pc ≡ Some 19 → FetchedFrom m pc got → got ≡ Word 19
only_word m pc Error e f = absurd (none_some (sym f ∙ e))
  where
    none_some : ◌≡◌ {A = Option ℕ} None (Some 19) → ⊥
    none_some e = cc
only_word m pc (Word w) e f = ap Word (some_is w 19 (sym f ∙ e))
  where
    some_is : (a b : ℕ) → ◌≡◌ {A = Option ℕ} (Some a) (Some b) → a ≡ b
    some_is a b e = cc

module _ (n : ℕ) (l : 11 ≤ n) where
  abbrev pub past : ℕ → History
  past = history_of (core_of world) (inst world) (trace world) world.memory n (is_core world) (laws world) (steps world) world.is_memory (honest world n)

  -- no step was made before cycle 3
  past_3 : past 3 ≡ []
  unfolding hist
  past_3 = past_quiet (core_of world) (inst world) (trace world) world.memory n (is_core world) (laws world) (steps world) world.is_memory (honest world n) 1 quiet_2
      ∙ past_quiet (core_of world) (inst world) (trace world) world.memory n (is_core world) (laws world) (steps world) world.is_memory (honest world n) 0 quiet_1

  -- Fetch offers an item in each cycle
  shown_all : (i : ℕ) → 3 ≤ i → i < 11 → on_port (trace world) fe_valid i ≡ 1
  shown_all zero a b = absurd (omega arith)
  shown_all (suc zero) a b = absurd (omega arith)
  shown_all (suc (suc zero)) a b = absurd (omega arith)
  shown_all (suc (suc (suc j))) a b = (steps world).shows_valid (suc (suc j)) ∙ ap one_if (there j (omega arith)).0

  -- no interrupt is to be taken
  calm : (i : ℕ) → 3 ≤ i → i < 11 → pending (now begin (past i)).csrs (lines_at (trace world) i) ≡ None
  calm zero a b = absurd (omega arith)
  calm (suc zero) a b = absurd (omega arith)
  calm (suc (suc zero)) a b = absurd (omega arith)
  calm (suc (suc (suc j))) a b =
      let c = (inv_at (core_of world) (inst world) (trace world) world.memory n (is_core world) (stage_laws (core_of world) (inst world) (trace world) world.memory n (is_core world) (laws world) (steps world) world.is_memory (honest world n)) (stage_steps (core_of world) (inst world) (trace world) world.memory n (is_core world) (laws world) (steps world) world.is_memory (honest world n)) world.is_memory (honest world n) (suc (suc j)) (omega arith)).csrs ∙ core_csrs world (suc (suc (suc j))) in
      (λ i. pending (c i) ((ap (λ m. m.lines) (moment_is world (suc (suc (suc j)))) ∙ no_lines (suc (suc (suc j)))) i)) ∙ (there j (omega arith)).1

  -- only one word may be fetched
  one_word : (i : ℕ) → i < 8 → (got : Fetched) → PossibleIn begin (past 3) step_at i got → got ≡ Word 19
  one_word i a got (inl f) = only_word world.memory (4 * i) got (words_are i a) (subst (λ h. Possible begin h (4 * i) got) past_3 f)
  one_word i a got (inr f) = only_word world.memory (4 * i) got (words_are i a) f.2

  -- so the cycles are a stream
  pub stream : IsStream all_rows rows (IsQuick owner_of (core_of world).shape.commits (core_of world).latency) world.predict begin (trace world) past 3 8
  stream = record {
    shown_all = λ i a b. shown_all i a (omega arith);
    calm = λ i a b. calm i a (omega arith);
    steps = step_at;
    words = λ i. 19;
    begins = (λ i. record begin { pc = pc_first i }) ∙ ap (now begin) (sym past_3);
    own = words_are;
    one_word = one_word;
    retires = λ i a. (done_at i, record { goes = refl; how = inr (outcomes i a) }, refl, refl);
    is_quick = λ i a. (18, row_is, refl, (refl, refl, refl));
    follows = in_order;
  }

abbrev follows_11 : Follows all_rows begin (trace world) 11
follows_11 = pipe_follows (core_of world) (inst world) (trace world) world.memory 11 (is_core world) (laws world) (steps world) world.is_memory (honest world 11)

-- all of it
pub meets_stream : MeetsStream
unfolding met
meets_stream = record {
  world = world;
  met = met world;
  bypassed = λ i a. refl;
  follows = follows_11;
  stream = subst (λ past. IsStream all_rows rows (IsQuick owner_of (core_of world).shape.commits (core_of world).latency) world.predict begin (trace world) past 3 8)
      (past_is (core_of world) (inst world) (trace world) world.memory 11 (is_core world) (laws world) (steps world) world.is_memory (honest world 11)) (stream 11 (omega arith));
}
