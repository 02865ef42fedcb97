-- The control and status registers of a machine with machine mode alone (RISC-V Privileged Architecture
-- 20190608, chapter 3). mtvec is direct, and misa, mip and the machine's identity are read-only in effect.
use Rattle.std.specs.Prelude.{◌≡◌, ℕ, ◌+◌, ◌*◌, ◌/◌, ◌%◌, ◌^◌, Bool, true, false, not, eqb, List, [], ◌∷◌, Option, Some, None, bit_and}
use Rattle.core_words.specs.Values.{bits_of}

pub record Csrs : Type 0 where
  -- mstatus.MIE and mstatus.MPIE, one bit each (3.1.6); MPP always reads 3
  pub mie_bit : ℕ
  pub mpie_bit : ℕ
  pub misa : ℕ
  -- bits 3, 7 and 11 (3.1.9)
  pub mie : ℕ
  -- the low two bits are 0 (3.1.7)
  pub mtvec : ℕ
  pub mscratch : ℕ
  -- the low two bits are 0 (3.1.15)
  pub mepc : ℕ
  pub mcause : ℕ
  pub mtval : ℕ

-- the addresses of the handler and of the return are multiples of 4
pub record IsCsrs (c : Csrs) : Type 0 where
  pub mtvec : c.mtvec % 4 ≡ 0
  pub mepc : c.mepc % 4 ≡ 0

abbrev pub reset_csrs : (misa : ℕ) → Csrs
reset_csrs misa = record { mie_bit = 0; mpie_bit = 0; misa = misa; mie = 0; mtvec = 0; mscratch = 0; mepc = 0; mcause = 0; mtval = 0 }

abbrev pub mstatus_of : Csrs → ℕ
mstatus_of c = 3 * 2 ^ 11 + c.mpie_bit * 2 ^ 7 + c.mie_bit * 2 ^ 3

-- the bits of mip and mie that a machine without user mode has: software, timer, external
abbrev pub interrupt_bits : ℕ
interrupt_bits = 0x888

-- what each register reads by its number; mip has the interrupt lines of the cycle, and no other bits (3.1.9)
abbrev pub readable : Csrs → (lines : ℕ) → List (ℕ × ℕ)
readable c lines =
    (0x300, mstatus_of c) ∷ (0x301, c.misa) ∷ (0x304, c.mie) ∷ (0x305, c.mtvec)
    ∷ (0x340, c.mscratch) ∷ (0x341, c.mepc) ∷ (0x342, c.mcause) ∷ (0x343, c.mtval) ∷ (0x344, bit_and lines interrupt_bits)
    ∷ (0xf11, 0) ∷ (0xf12, 0) ∷ (0xf13, 0) ∷ (0xf14, 0) ∷ []

abbrev pub at_number : List (ℕ × ℕ) → (number : ℕ) → Option ℕ
at_number [] number = None
at_number (r ∷ rest) number = elim (eqb r.0 number) [ true ↦ Some r.1 | false ↦ at_number rest number ]

-- a register as read; none where there is none of that number
abbrev pub csr_read : Csrs → (lines number : ℕ) → Option ℕ
csr_read c lines number = at_number (readable c lines) number

-- the numbers that are never written (2.1)
abbrev pub is_read_only : (number : ℕ) → Bool
is_read_only number = eqb (bits_of number 11 10) 3

-- a write of a register that is there and is not read-only; misa and mip keep what they hold
abbrev pub csr_write : Csrs → (number value : ℕ) → Csrs
csr_write c number value =
    elim (eqb number 0x300) [
      | true ↦ record c { mie_bit = bits_of value 3 3; mpie_bit = bits_of value 7 7 }
      | false ↦
          elim (eqb number 0x304) [
            | true ↦ record c { mie = bit_and value interrupt_bits }
            | false ↦
                elim (eqb number 0x305) [
                  | true ↦ record c { mtvec = value / 4 * 4 }
                  | false ↦
                      elim (eqb number 0x340) [
                        | true ↦ record c { mscratch = value }
                        | false ↦
                            elim (eqb number 0x341) [
                              | true ↦ record c { mepc = value / 4 * 4 }
                              | false ↦
                                  elim (eqb number 0x342) [
                                    | true ↦ record c { mcause = value }
                                    | false ↦
                                        elim (eqb number 0x343) [ true ↦ record c { mtval = value } | false ↦ c ]
                                  ]
                            ]
                      ]
                ]
          ]
    ]

-- a trap or an interrupt enters the handler, whose pc is mtvec (3.1.6.1, 3.1.15 to 3.1.17)
abbrev pub trap_entry : Csrs → (pc cause tval : ℕ) → Csrs
trap_entry c pc cause tval = record c { mie_bit = 0; mpie_bit = c.mie_bit; mepc = pc; mcause = cause; mtval = tval }

-- MRET, whose next pc is mepc (3.2.2)
abbrev pub trap_return : Csrs → Csrs
trap_return c = record c { mie_bit = c.mpie_bit; mpie_bit = 1 }

-- the interrupts that are enabled by mie and pending
abbrev pub raised : Csrs → (lines : ℕ) → ℕ
raised c lines = bit_and c.mie lines

-- whether a WFI may retire: some interrupt is enabled by mie and pending, whatever MIE is (3.2.3)
abbrev pub wakes : Csrs → (lines : ℕ) → Bool
wakes c lines = not (eqb (raised c lines) 0)

-- the cause of the interrupt to take, where MIE is 1: external first, then software, then timer (3.1.9)
abbrev pub pending : Csrs → (lines : ℕ) → Option ℕ
pending c lines =
    elim (eqb c.mie_bit 1) [
      | false ↦ None
      | true ↦
          elim (eqb (bits_of (raised c lines) 11 11) 1) [
            | true ↦ Some 0x8000000b
            | false ↦
                elim (eqb (bits_of (raised c lines) 3 3) 1) [
                  | true ↦ Some 0x80000003
                  | false ↦
                      elim (eqb (bits_of (raised c lines) 7 7) 1) [ true ↦ Some 0x80000007 | false ↦ None ]
                ]
          ]
    ]
