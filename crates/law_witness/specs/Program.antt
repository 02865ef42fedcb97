-- A program with a store, a load, FENCE.I, accesses of CSRs, a WFI that waits for an external interrupt, its handler and MRET,
-- and the events that it has on the ports of a core.
use Rattle.std.specs.Prelude.{◌≡◌, ℕ, ◌/◌, ◌%◌, ◌^◌, true, List, [], ◌∷◌}
use Rattle.core_ports.specs.Trace.{PortEvent, instruction_bus, data_bus}
use Rattle.bus_law.specs.Memory.{Memory, store_of}
use Rattle.bus_law.specs.Protocol.{is_accepted, writes_before}
use Rattle.law_witness.specs.Cores.{all_rows}
use Rattle.law_witness.specs.Met.{World, Met, events_from}

-- words as bytes, the lowest first
unfoldable pub bytes_of : List ℕ → List ℕ
bytes_of [] = []
bytes_of (w ∷ ws) = w % 2 ^ 8 ∷ w / 2 ^ 8 % 2 ^ 8 ∷ w / 2 ^ 16 % 2 ^ 8 ∷ w / 2 ^ 24 % 2 ^ 8 ∷ bytes_of ws

-- LUI, ADDI, SW, LW, FENCE.I, ADDI, CSRRW of mtvec, LUI, ADDI, CSRRW of mie, CSRRSI of mstatus, WFI, a jump to itself, the handler
-- ADDI and MRET, a word that is none, and the word that is stored
unfoldable pub words : List ℕ
words = 0x800000b7 ∷ 0x00700113 ∷ 0x0420a023 ∷ 0x0400a183 ∷ 0x0000100f ∷ 0x03408213 ∷ 0x30521073 ∷ 0x000012b7 ∷ 0x80028293 ∷ 0x30429073 ∷ 0x30046073 ∷ 0x10500073 ∷ 0x0000006f ∷ 0x00100313 ∷ 0x30200073 ∷ 0x00000000 ∷ 0x00000000 ∷ []

unfoldable pub program : Memory
program = record { base = 0x80000000; bytes = bytes_of words }

-- the events: the interrupt comes once the WFI has retired, and MRET goes back behind it
unfoldable pub events : List PortEvent
events =
    record { kind = 0; pc = 0x80000000; word = 0x800000b7; rd = 1; value = 0x80000000; cause = 0x0 } ∷
    record { kind = 0; pc = 0x80000004; word = 0x00700113; rd = 2; value = 0x7; cause = 0x0 } ∷
    record { kind = 0; pc = 0x80000008; word = 0x0420a023; rd = 0; value = 0x0; cause = 0x0 } ∷
    record { kind = 0; pc = 0x8000000c; word = 0x0400a183; rd = 3; value = 0x7; cause = 0x0 } ∷
    record { kind = 0; pc = 0x80000010; word = 0x0000100f; rd = 0; value = 0x0; cause = 0x0 } ∷
    record { kind = 0; pc = 0x80000014; word = 0x03408213; rd = 4; value = 0x80000034; cause = 0x0 } ∷
    record { kind = 0; pc = 0x80000018; word = 0x30521073; rd = 0; value = 0x0; cause = 0x0 } ∷
    record { kind = 0; pc = 0x8000001c; word = 0x000012b7; rd = 5; value = 0x1000; cause = 0x0 } ∷
    record { kind = 0; pc = 0x80000020; word = 0x80028293; rd = 5; value = 0x800; cause = 0x0 } ∷
    record { kind = 0; pc = 0x80000024; word = 0x30429073; rd = 0; value = 0x0; cause = 0x0 } ∷
    record { kind = 0; pc = 0x80000028; word = 0x30046073; rd = 0; value = 0x0; cause = 0x0 } ∷
    record { kind = 0; pc = 0x8000002c; word = 0x10500073; rd = 0; value = 0x0; cause = 0x0 } ∷
    record { kind = 2; pc = 0x80000030; word = 0x00000000; rd = 0; value = 0x0; cause = 0x8000000b } ∷
    record { kind = 0; pc = 0x80000034; word = 0x00100313; rd = 6; value = 0x1; cause = 0x0 } ∷
    record { kind = 0; pc = 0x80000038; word = 0x30200073; rd = 0; value = 0x0; cause = 0x0 } ∷
    record { kind = 0; pc = 0x80000030; word = 0x0000006f; rd = 0; value = 0x0; cause = 0x0 } ∷ []

-- the whole core in a world with that memory shows these events in its first 76 cycles, and no others
pub record RunsProgram : Type 0 where
  pub world : World
  pub memory : world.memory ≡ program
  pub met : Met all_rows true 4 world
  pub shows : events_from met.run' 0 76 ≡ events
  -- the store is its one write, and its first command reads the first word
  pub writes : writes_before (data_bus met.run') 76 ≡ store_of 0x80000040 7 15 ∷ []
  pub reads : (is_accepted (instruction_bus met.run') 1 ≡ true) × ((instruction_bus met.run').cmd_addr 1 ≡ 0x80000000)
