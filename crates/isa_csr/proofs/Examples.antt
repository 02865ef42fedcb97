-- Computed examples of the registers, of traps and of interrupts.
use Rattle.std.proofs.Common.{◌≡◌, true, false, Some, None, refl}
use Rattle.isa_csr.specs.Csrs.{Csrs, reset_csrs, csr_read, csr_write, is_read_only, trap_entry, trap_return, wakes, pending}

abbrev pub fresh : Csrs
fresh = reset_csrs 0x40000100

-- all bits of mstatus and of mie written
abbrev pub open_to_all : Csrs
open_to_all = csr_write (csr_write fresh 0x300 0xffffffff) 0x304 0xffffffff

record AreRegisters : Type 0 where
  mstatus : csr_read fresh 0 0x300 ≡ Some 0x1800
  misa : csr_read fresh 0 0x301 ≡ Some 0x40000100
  -- writes keep the fields that are there
  mstatus_written : csr_read open_to_all 0 0x300 ≡ Some 0x1888
  mie_written : csr_read open_to_all 0 0x304 ≡ Some 0x888
  misa_kept : csr_read (csr_write fresh 0x301 0) 0 0x301 ≡ Some 0x40000100
  mtvec_aligned : csr_read (csr_write fresh 0x305 0x123) 0 0x305 ≡ Some 0x120
  mepc_aligned : csr_read (csr_write fresh 0x341 0xffffffff) 0 0x341 ≡ Some 0xfffffffc
  -- mip is the lines of the cycle
  mip : csr_read fresh 0x80 0x344 ≡ Some 0x80
  -- and no other bits
  mip_narrow : csr_read fresh 0xffffffff 0x344 ≡ Some 0x888
  hart : csr_read fresh 0 0xf14 ≡ Some 0
  hart_kept : is_read_only 0xf14 ≡ true
  mscratch_written : is_read_only 0x340 ≡ false
  -- no such register
  absent : csr_read fresh 0 0x306 ≡ None

are_registers : AreRegisters
are_registers = record { mstatus = refl; misa = refl; mstatus_written = refl; mie_written = refl; misa_kept = refl; mtvec_aligned = refl; mepc_aligned = refl; mip = refl; mip_narrow = refl; hart = refl; hart_kept = refl; mscratch_written = refl; absent = refl }

record AreInterrupts : Type 0 where
  -- MIE is 0 out of reset
  shut : pending fresh 0x888 ≡ None
  -- external before software before timer
  external : pending open_to_all 0x888 ≡ Some 0x8000000b
  software : pending open_to_all 0x88 ≡ Some 0x80000003
  timer : pending open_to_all 0x80 ≡ Some 0x80000007
  none : pending open_to_all 0 ≡ None
  -- a line that mie leaves out
  left_out : pending (csr_write open_to_all 0x304 0x8) 0x880 ≡ None
  -- entry turns MIE off and keeps it in MPIE, and the return brings it back
  entered : csr_read (trap_entry open_to_all 0x80000010 11 0) 0 0x300 ≡ Some 0x1880
  cause : csr_read (trap_entry open_to_all 0x80000010 11 0) 0 0x342 ≡ Some 11
  place : csr_read (trap_entry open_to_all 0x80000010 11 0) 0 0x341 ≡ Some 0x80000010
  back : csr_read (trap_return (trap_entry open_to_all 0x80000010 11 0)) 0 0x300 ≡ Some 0x1888
  -- WFI wakes by mie alone
  awake : wakes (csr_write fresh 0x304 0x80) 0x80 ≡ true
  asleep : wakes (csr_write fresh 0x304 0x80) 0x8 ≡ false

are_interrupts : AreInterrupts
are_interrupts = record { shut = refl; external = refl; software = refl; timer = refl; none = refl; left_out = refl; entered = refl; cause = refl; place = refl; back = refl; awake = refl; asleep = refl }
