-- Computed examples of the table by numbers.
use Rattle.std.proofs.Common.{◌≡◌, true, false, [], ◌∷◌, Some, None, refl}
use Rattle.core_words.specs.Fields.{imm_i, imm_s}
use Rattle.bus_law.specs.Memory.{Memory, store_of, word_at}
use Rattle.isa_csr.specs.Csrs.{Csrs, reset_csrs}
use Rattle.isa_model.specs.Effects.{Moment, keeps}
use Rattle.isa_model.specs.Effects.Effect.{Traps, Does}
use Rattle.isa_model.specs.Effects.Access.{NoAccess, ReadsAt, WritesOut}
use Rattle.plug_law.specs.Table.{Table, table_of}

-- a set with all rows, and one with none but ECALL and EBREAK
abbrev full : Table
full = table_of (record { claims = λ number. true; system = true })

abbrev bare : Table
bare = table_of (record { claims = λ number. false; system = false })

abbrev memory : Memory
memory = record { base = 0x80000000; bytes = 0x11 ∷ 0x22 ∷ 0x33 ∷ 0x44 ∷ [] }

abbrev csrs : Csrs
csrs = reset_csrs 0

abbrev moment : Moment
moment = record { lines = 0 }

-- addi x1, x0, 5; lw x1, 0(x2); sh x3, 2(x2); ecall
record AreRows : Type 0 where
  addi : full.row_of 0x00500093 ≡ Some 18
  left_out : bare.row_of 0x00500093 ≡ None
  ecall : bare.row_of 0x73 ≡ Some 38
  sum : full.effect 18 0x100 0x00500093 7 0 memory csrs moment ≡ Does (Some 12) 0x104 None keeps
  loaded : full.effect 12 0x100 0x00012083 0x80000000 0 memory csrs moment ≡ Does (Some 0x44332211) 0x104 None keeps
  outside : full.effect 12 0x100 0x00012083 0x80000004 0 memory csrs moment ≡ Traps 5 0x80000004 None
  read : full.access 12 0x100 0x00012083 0x80000000 0 ≡ ReadsAt 0x80000000 4
  -- an address that is no multiple of the size is not read
  unread : full.access 12 0x100 0x00012083 0x80000001 0 ≡ NoAccess
  written : full.access 16 0x100 0x00311123 0x80000000 0xaabbccdd ≡ WritesOut (store_of 0x80000002 0xccdd0000 12)

are_rows : AreRows
unfolding table_of imm_i imm_s word_at
are_rows = record { addi = refl; left_out = refl; ecall = refl; sum = refl; loaded = refl; outside = refl; read = refl; unread = refl; written = refl }
