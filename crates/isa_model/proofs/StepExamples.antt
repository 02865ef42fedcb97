-- Computed steps: jumps, loads, stores, CSR accesses, MRET and WFI. Their results are worked out by hand.
use Rattle.std.proofs.Common.{◌≡◌, ℕ, Bool, true, false, cond, eqb, List, [], ◌∷◌, set, Option, Some, None, refl, replicate}
use Rattle.core_words.specs.Fields.{imm_i, imm_s, imm_b}
use Rattle.bus_law.specs.Memory.{Memory, Store, word_at, written}
use Rattle.isa_csr.specs.Csrs.{Csrs}
use Rattle.isa_model.specs.Machine.{Machine}
use Rattle.isa_model.specs.Machine.Fetched.{Word}
use Rattle.isa_model.specs.Machine.Event.{Retire, Trap}
use Rattle.isa_model.specs.Step.{Done, outcome_of}

abbrev memory_of : List ℕ → Memory
memory_of bytes = record { base = 0x80000000; bytes = bytes }

abbrev csrs : Csrs
csrs = record {
  mie_bit = 0;
  mpie_bit = 1;
  misa = 0x40001100;
  mie = 0x88;
  mtvec = 0x80000100;
  mscratch = 0x77;
  mepc = 0x80000010;
  mcause = 0;
  mtval = 0;
}

-- x1 and x2 are 5, x3 is 33, x4 is memory's base, x5 is aabbccdd and x6 the window's; the pc is 80000020
abbrev start : Machine
start = record {
  regs = 0 ∷ 5 ∷ 5 ∷ 0x33 ∷ 0x80000000 ∷ 0xaabbccdd ∷ 0xf0000000 ∷ replicate 25 0;
  pc = 0x80000020;
  csrs = csrs;
  memory = memory_of (0x11 ∷ 0xff ∷ 0x22 ∷ 0x84 ∷ 0x78 ∷ 0x56 ∷ 0x34 ∷ 0x12 ∷ []);
  stopped = false;
}

-- one step, with the external interrupt's line at 1
abbrev step_of : (system : Bool) → (word : ℕ) → Option Done
step_of system word = outcome_of (record { claims = λ number. true; system = system }) start (Word word) (record { lines = 0x800 })

abbrev step : ℕ → Option Done
step word = step_of true word

abbrev retires_with : (word rd value next_pc : ℕ) → Option Store → Csrs → Memory → Option Done
retires_with word rd value next_pc write csrs memory = Some (record {
  event = Retire 0x80000020 word rd value;
  write = write;
  new = record { regs = cond (eqb rd 0) start.regs (set start.regs rd value); pc = next_pc; csrs = csrs; memory = memory; stopped = false };
})

-- it retires, and changes no more than a register and the pc
abbrev retires : (word rd value next_pc : ℕ) → Option Done
retires word rd value next_pc = retires_with word rd value next_pc None csrs start.memory

-- it enters the handler
abbrev traps : (word cause tval : ℕ) → Option Store → Option Done
traps word cause tval write = Some (record {
  event = Trap 0x80000020 word cause false;
  write = write;
  new = record start { pc = 0x80000100; csrs = record csrs { mpie_bit = 0; mepc = 0x80000020; mcause = cause; mtval = tval } };
})

record AreJumps : Type 0 where
  -- beq x1, x2, 8
  taken : step 0x00208463 ≡ retires 0x00208463 0 0 0x80000028
  -- beq and bne x1, x2, 2: the target is no multiple of 4, and only the taken one traps
  taken_misaligned : step 0x00208163 ≡ traps 0x00208163 0 0x80000022 None
  not_taken : step 0x00209163 ≡ retires 0x00209163 0 0 0x80000024
  -- jalr x1, 0(x4) and jalr x1, 2(x1)
  jump : step 0x000200e7 ≡ retires 0x000200e7 1 0x80000024 0x80000000
  jump_misaligned : step 0x002080e7 ≡ traps 0x002080e7 0 6 None
  -- fence and fence.i
  fence : step 0x0ff0000f ≡ retires 0x0ff0000f 0 0 0x80000024
  fence_i : step 0x0000100f ≡ retires 0x0000100f 0 0 0x80000024

are_jumps : AreJumps
unfolding outcome_of imm_i imm_b
are_jumps = record { taken = refl; taken_misaligned = refl; not_taken = refl; jump = refl; jump_misaligned = refl; fence = refl; fence_i = refl }

record AreLoads : Type 0 where
  -- lb and lbu x3, 1(x4); lh x3, 2(x4); lw x3, 4(x4)
  byte : step 0x00120183 ≡ retires 0x00120183 3 0xffffffff 0x80000024
  byte_unsigned : step 0x00124183 ≡ retires 0x00124183 3 0xff 0x80000024
  half : step 0x00221183 ≡ retires 0x00221183 3 0xffff8422 0x80000024
  word : step 0x00422183 ≡ retires 0x00422183 3 0x12345678 0x80000024
  -- lw x3, 2(x4); lw x3, 8(x4), outside memory; lw x3, 4(x6), in the window
  misaligned : step 0x00222183 ≡ traps 0x00222183 4 0x80000002 None
  outside : step 0x00822183 ≡ traps 0x00822183 5 0x80000008 None
  window : step 0x00432183 ≡ retires 0x00432183 3 0 0x80000024

are_loads : AreLoads
unfolding outcome_of word_at imm_i
are_loads = record { byte = refl; byte_unsigned = refl; half = refl; word = refl; misaligned = refl; outside = refl; window = refl }

record AreStores : Type 0 where
  -- sb x5, 1(x4); sh x5, 6(x4): the write has the word's address, and the value in its lanes
  byte : step 0x005200a3 ≡ retires_with 0x005200a3 0 0 0x80000024 (Some (record { addr = 0x80000000; value = 0x0000dd00; mask = 2 })) csrs (memory_of (0x11 ∷ 0xdd ∷ 0x22 ∷ 0x84 ∷ 0x78 ∷ 0x56 ∷ 0x34 ∷ 0x12 ∷ []))
  half : step 0x00521323 ≡ retires_with 0x00521323 0 0 0x80000024 (Some (record { addr = 0x80000004; value = 0xccdd0000; mask = 12 })) csrs (memory_of (0x11 ∷ 0xff ∷ 0x22 ∷ 0x84 ∷ 0x78 ∷ 0x56 ∷ 0xdd ∷ 0xcc ∷ []))
  -- sh x5, 1(x4), which makes no write; sw x5, 8(x4), outside memory, which makes one; sw x5, 0(x6), in the window
  misaligned : step 0x005210a3 ≡ traps 0x005210a3 6 0x80000001 None
  outside : step 0x00522423 ≡ traps 0x00522423 7 0x80000008 (Some (record { addr = 0x80000008; value = 0xaabbccdd; mask = 15 }))
  window : step 0x00532023 ≡ retires_with 0x00532023 0 0 0x80000024 (Some (record { addr = 0xf0000000; value = 0xaabbccdd; mask = 15 })) csrs start.memory

are_stores : AreStores
unfolding outcome_of written imm_s
are_stores = record { byte = refl; half = refl; misaligned = refl; outside = refl; window = refl }

record AreAccesses : Type 0 where
  -- csrrw x3, mscratch, x5; csrrci x3, mie, 8; csrrs x3, mip, x0
  swap : step 0x340291f3 ≡ retires_with 0x340291f3 3 0x77 0x80000024 None (record csrs { mscratch = 0xaabbccdd }) start.memory
  clear : step 0x304471f3 ≡ retires_with 0x304471f3 3 0x88 0x80000024 None (record csrs { mie = 0x80 }) start.memory
  lines : step 0x344021f3 ≡ retires 0x344021f3 3 0x800 0x80000024
  -- csrrs x3, mhartid, x0 reads; csrrw x0, mhartid, x5 writes a read-only register; there is none of number 7ff
  identity : step 0xf14021f3 ≡ retires 0xf14021f3 3 0 0x80000024
  read_only : step 0xf1429073 ≡ traps 0xf1429073 2 0xf1429073 None
  missing : step 0x7ff021f3 ≡ traps 0x7ff021f3 2 0x7ff021f3 None
  -- without System every one is illegal, and the trap stops the machine
  no_system : step_of false 0x344021f3 ≡ Some (record { event = Trap 0x80000020 0x344021f3 2 true; write = None; new = record start { stopped = true } })

are_accesses : AreAccesses
unfolding outcome_of
are_accesses = record { swap = refl; clear = refl; lines = refl; identity = refl; read_only = refl; missing = refl; no_system = refl }

record AreReturns : Type 0 where
  -- mret
  back : step 0x30200073 ≡ retires_with 0x30200073 0 0 0x80000010 None (record csrs { mie_bit = 1 }) start.memory
  -- wfi, where the external line is 1 and mie has the software and timer bits; and with the timer's line at 1
  waits : step 0x10500073 ≡ None
  wakes : outcome_of (record { claims = λ number. true; system = true }) start (Word 0x10500073) (record { lines = 0x80 }) ≡ retires 0x10500073 0 0 0x80000024
  -- ECALL
  calls : step 0x00000073 ≡ traps 0x00000073 11 0 None

are_returns : AreReturns
unfolding outcome_of
are_returns = record { back = refl; waits = refl; wakes = refl; calls = refl }
