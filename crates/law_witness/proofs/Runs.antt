-- A program on that core, run by computing.
use Rattle.std.proofs.Common.{◌≡◌, ℕ, ◌+◌, ◌*◌, ◌/◌, ◌^◌, ◌<◌, Bool, true, cond, leb, List, [], ◌∷◌, inl, refl, ap, ◌∙◌, sym, subst, arith, ltb, ◌&&◌, All}
use Rattle.std.specs.Prelude.{replicate}
use Rattle.std.proofs.lemmas.Bool.{ltb-true}
use Rattle.std.proofs.lemmas.List.Elements.{All-cons, All-nil}
use Rattle.core_words.specs.Fields.{imm_i, imm_s, imm_u, imm_j}
use Rattle.core_ports.specs.Ports.{name_of}
use Rattle.core_ports.specs.Trace.{has_event, data_bus, instruction_bus}
use Rattle.bus_law.specs.Memory.{store_of, word_at, written}
use Rattle.bus_law.specs.Protocol.{is_accepted, is_given, is_write, writes_before}
use Rattle.plug_law.specs.Pipeline.{asked, ends, enters, event, except_cause, faulty, finished, irq, kill, next_pc, retires, run, takes, through, told, trap_cause, trap_value, traps, tval, value, wins, writes}
use Rattle.plug_law.specs.Table.{table_of}
use Rattle.pipe_law.proofs.Basics.{and_l, and_r}
use Rattle.law_witness.specs.Met.{World, events_from}
use Rattle.law_witness.specs.Program.{RunsProgram, bytes_of, words, program, events}
use Rattle.law_witness.proofs.All.{met, met_run}
use Rattle.law_witness.proofs.Whole.{at, trace, port_of, ready_d, ready_i, shown}
use Rattle.plug_law.specs.Pipeline as wire

-- bytes are below 256
all_small : List ℕ → Bool
all_small [] = true
all_small (x ∷ xs) = ltb x 256 && all_small xs

-- by a test
are_small : (xs : List ℕ) → all_small xs ≡ true → All (λ b. b < 2 ^ 8) xs
unfolding all_small
are_small [] h = All-nil (λ b. b < 2 ^ 8)
are_small (x ∷ xs) h = let e = ltb-true x 256 (and_l (ltb x 256) (all_small xs) h) in All-cons (λ b. b < 2 ^ 8) x xs e (are_small xs (and_r (ltb x 256) (all_small xs) h))

-- the external interrupt line is up from cycle 60 to cycle 66
pub world : World
unfolding program all_small bytes_of words
world = record {
  memory = program;
  reset_pc = 0x80000000;
  start = replicate 32 0;
  predict = λ pc word. pc / 4 * 4 + 4;
  software = λ k. 0;
  timer = λ k. 0;
  external = λ k. cond (leb 60 k && leb k 66) 1 0;
  is_memory = record { aligned = refl; whole = refl; least = omega arith; most = omega arith; ends = omega arith; apart = inl (omega arith); fits = are_small program.bytes refl };
  aligned = refl;
  full = refl;
  whole = λ pc word. omega arith;
}

-- its events, by computing
pub run_is : events_from (trace world) 0 76 ≡ events
unfolding events events_from world program bytes_of words trace port_of shown name_of has_event at word_at written kill irq run finished value next_pc wire.cause tval wire.trap wire.fence through ends asked faulty wins traps retires writes enters except_cause trap_cause trap_value takes event told table_of imm_i imm_s imm_u imm_j
run_is = refl

-- its writes
pub writes_are : writes_before (data_bus (trace world)) 76 ≡ store_of 0x80000040 7 15 ∷ []
unfolding writes_before is_write is_accepted is_given ready_d world program bytes_of words trace port_of shown name_of at word_at written kill irq run finished value next_pc wire.cause tval wire.trap wire.fence through ends asked faulty wins traps retires writes enters except_cause trap_cause trap_value takes event told table_of imm_i imm_s imm_u imm_j
writes_are = refl

-- its first command
pub reads_are : (is_accepted (instruction_bus (trace world)) 1 ≡ true) × ((instruction_bus (trace world)).cmd_addr 1 ≡ 0x80000000)
unfolding is_accepted is_given ready_i world trace port_of shown name_of at
reads_are = (refl, refl)

-- all of it
pub runs_program : RunsProgram
unfolding world
runs_program = record { world = world; memory = refl; met = met world; shows = ap (λ r. events_from r 0 76) (met_run world) ∙ run_is; writes = ap (λ r. writes_before (data_bus r) 76) (met_run world) ∙ writes_are; reads = subst (λ r. (is_accepted (instruction_bus r) 1 ≡ true) × ((instruction_bus r).cmd_addr 1 ≡ 0x80000000)) (sym (met_run world)) reads_are }
