-- Computed examples: words and their rows, and what rows do. Their numbers are worked out by hand.
use Rattle.std.proofs.Common.{◌≡◌, ℕ, Bool, true, false, eqb, not, length, Some, None, refl}
use Rattle.core_words.specs.Fields.{imm_i, imm_s, imm_b, imm_u, imm_j}
use Rattle.isa_table.specs.Rows.{row_of, table}
use Rattle.isa_table.specs.Rows as row
use Rattle.isa_table.specs.Rows.CsrChange.{Writes, Sets, Clears}
use Rattle.isa_table.specs.Rows.Action.{Computes, Jumps, Branches, Loads, Stores, Fences, FencesFetches, AccessesCsr, Returns, Waits}

abbrev pub every_row : ℕ → Bool
every_row number = true

abbrev pub all_but_addi : ℕ → Bool
all_but_addi number = not (eqb number 18)

record AreRows : Type 0 where
  whole : length table ≡ 57
  -- addi x1, x0, 5
  of_addi : row_of every_row 0x00500093 ≡ Some row.addi
  -- the same word in a set without ADDI
  of_no_addi : row_of all_but_addi 0x00500093 ≡ None
  -- add x3, x1, x2 and sub x3, x1, x2
  of_add : row_of every_row 0x002081b3 ≡ Some row.add
  of_sub : row_of every_row 0x402081b3 ≡ Some row.sub
  -- mul x3, x1, x2, which is ADD but for one bit, and a word that is either but for another
  of_mul : row_of every_row 0x022081b3 ≡ Some row.mul
  of_no_row : row_of every_row 0x042081b3 ≡ None
  of_zero : row_of every_row 0 ≡ None
  of_ecall : row_of every_row 0x00000073 ≡ Some row.ecall
  of_ebreak : row_of every_row 0x00100073 ≡ Some row.ebreak
  -- srai x1, x1, 4 and srli x1, x1, 4
  of_srai : row_of every_row 0x4040d093 ≡ Some row.srai
  of_srli : row_of every_row 0x0040d093 ≡ Some row.srli
  -- a shift by 36, which RV32I does not have
  of_long_shift : row_of every_row 0x02409093 ≡ None
  -- jalr x1, 2(x1), and the same with a funct3 that is not 0
  of_jalr : row_of every_row 0x002080e7 ≡ Some row.jalr
  of_no_jalr : row_of every_row 0x002090e7 ≡ None
  -- bgeu x1, x2, 8
  of_bgeu : row_of every_row 0x0020f463 ≡ Some row.bgeu
  -- lhu x1, 0(x2), and ld x1, 0(x2), which RV32I does not have
  of_lhu : row_of every_row 0x00015083 ≡ Some row.lhu
  of_ld : row_of every_row 0x00013083 ≡ None
  -- csrrci x0, mstatus, 0; mret; wfi; fence.i
  of_csrrci : row_of every_row 0x30007073 ≡ Some row.csrrci
  of_mret : row_of every_row 0x30200073 ≡ Some row.mret
  of_wfi : row_of every_row 0x10500073 ≡ Some row.wfi
  of_fence_i : row_of every_row 0x0000100f ≡ Some row.fence_i

are_rows : AreRows
are_rows = record {
  whole = refl;
  of_addi = refl;
  of_no_addi = refl;
  of_add = refl;
  of_sub = refl;
  of_mul = refl;
  of_no_row = refl;
  of_zero = refl;
  of_ecall = refl;
  of_ebreak = refl;
  of_srai = refl;
  of_srli = refl;
  of_long_shift = refl;
  of_jalr = refl;
  of_no_jalr = refl;
  of_bgeu = refl;
  of_lhu = refl;
  of_ld = refl;
  of_csrrci = refl;
  of_mret = refl;
  of_wfi = refl;
  of_fence_i = refl;
}

record AreSums : Type 0 where
  -- addi x1, x0, -1 with x0 read as 7, to show that a is taken
  added : row.addi.action 0x80000000 0xfff00093 7 0 ≡ Computes 6
  -- the sum wraps
  wrapped : row.add.action 0 0x002081b3 0xffffffff 2 ≡ Computes 1
  taken_away : row.sub.action 0 0x402081b3 3 5 ≡ Computes 0xfffffffe
  upper : row.lui.action 0 0xf0000f37 1 2 ≡ Computes 0xf0000000
  -- auipc x1, 0x90000
  upper_of_pc : row.auipc.action 0x80000004 0x90000097 1 2 ≡ Computes 0x10000004
  -- the immediate of andi is extended with its sign
  masked : row.andi.action 0 0xff00f093 0x12345678 0 ≡ Computes 0x12345670
  apart : row.xor.action 0 0 0xff00ff00 0x0ff00ff0 ≡ Computes 0xf0f0f0f0

are_sums : AreSums
unfolding imm_i imm_u
are_sums = record { added = refl; wrapped = refl; taken_away = refl; upper = refl; upper_of_pc = refl; masked = refl; apart = refl }

record AreComparisons : Type 0 where
  less : row.slt.action 0 0 0x80000000 1 ≡ Computes 1
  less_unsigned : row.sltu.action 0 0 0x80000000 1 ≡ Computes 0
  both_negative : row.slt.action 0 0 0xfffffffe 0xffffffff ≡ Computes 1
  not_less : row.slt.action 0 0 5 5 ≡ Computes 0
  -- slti and sltiu with -1: sltiu takes it for ffffffff
  less_imm : row.slti.action 0 0xfff0a093 5 0 ≡ Computes 0
  less_imm_unsigned : row.sltiu.action 0 0xfff0b093 5 0 ≡ Computes 1

are_comparisons : AreComparisons
unfolding imm_i
are_comparisons = record { less = refl; less_unsigned = refl; both_negative = refl; not_less = refl; less_imm = refl; less_imm_unsigned = refl }

record AreShifts : Type 0 where
  left : row.sll.action 0 0 0x80000001 1 ≡ Computes 2
  -- only five bits of b count
  left_by_32 : row.sll.action 0 0 0x80000001 32 ≡ Computes 0x80000001
  right : row.srl.action 0 0 0x80000000 4 ≡ Computes 0x08000000
  right_negative : row.sra.action 0 0 0x80000000 4 ≡ Computes 0xf8000000
  right_by_33 : row.sra.action 0 0 0x80000000 33 ≡ Computes 0xc0000000
  right_positive : row.sra.action 0 0 0x7fffffff 4 ≡ Computes 0x07ffffff
  right_by_31 : row.sra.action 0 0 0x80000000 31 ≡ Computes 0xffffffff
  -- slli, srli and srai x1, x1, 4
  left_imm : row.slli.action 0 0x00409093 0x12345678 0 ≡ Computes 0x23456780
  right_imm : row.srli.action 0 0x0040d093 0xf2345678 0 ≡ Computes 0x0f234567
  right_imm_negative : row.srai.action 0 0x4040d093 0xf2345678 0 ≡ Computes 0xff234567

are_shifts : AreShifts
are_shifts = record {
  left = refl;
  left_by_32 = refl;
  right = refl;
  right_negative = refl;
  right_by_33 = refl;
  right_positive = refl;
  right_by_31 = refl;
  left_imm = refl;
  right_imm = refl;
  right_imm_negative = refl;
}

record AreProducts : Type 0 where
  low : row.mul.action 0 0 0xffffffff 0xffffffff ≡ Computes 1
  -- -1 by -1, the least by the least, and the least by the greatest
  high : row.mulh.action 0 0 0xffffffff 0xffffffff ≡ Computes 0
  high_least : row.mulh.action 0 0 0x80000000 0x80000000 ≡ Computes 0x40000000
  high_mixed_signs : row.mulh.action 0 0 0x80000000 0x7fffffff ≡ Computes 0xc0000000
  -- -1, the least and the greatest by 2 ^ 32 - 1
  mixed : row.mulhsu.action 0 0 0xffffffff 0xffffffff ≡ Computes 0xffffffff
  mixed_least : row.mulhsu.action 0 0 0x80000000 0xffffffff ≡ Computes 0x80000000
  mixed_greatest : row.mulhsu.action 0 0 0x7fffffff 0xffffffff ≡ Computes 0x7ffffffe
  unsigned : row.mulhu.action 0 0 0xffffffff 0xffffffff ≡ Computes 0xfffffffe

are_products : AreProducts
are_products = record { low = refl; high = refl; high_least = refl; high_mixed_signs = refl; mixed = refl; mixed_least = refl; mixed_greatest = refl; unsigned = refl }

record AreQuotients : Type 0 where
  -- -7 by 2, 7 by -2, -7 by -2
  negative : row.div.action 0 0 0xfffffff9 2 ≡ Computes 0xfffffffd
  by_negative : row.div.action 0 0 7 0xfffffffe ≡ Computes 0xfffffffd
  both_negative : row.div.action 0 0 0xfffffff9 0xfffffffe ≡ Computes 3
  by_zero : row.div.action 0 0 7 0 ≡ Computes 0xffffffff
  overflow : row.div.action 0 0 0x80000000 0xffffffff ≡ Computes 0x80000000
  unsigned : row.divu.action 0 0 0xfffffff9 2 ≡ Computes 0x7ffffffc
  unsigned_by_zero : row.divu.action 0 0 7 0 ≡ Computes 0xffffffff
  unsigned_less : row.divu.action 0 0 0x80000000 0xffffffff ≡ Computes 0
  rest_negative : row.rem.action 0 0 0xfffffff9 2 ≡ Computes 0xffffffff
  rest_by_negative : row.rem.action 0 0 7 0xfffffffe ≡ Computes 1
  rest_by_zero : row.rem.action 0 0 0xfffffff9 0 ≡ Computes 0xfffffff9
  rest_overflow : row.rem.action 0 0 0x80000000 0xffffffff ≡ Computes 0
  rest_unsigned : row.remu.action 0 0 0xfffffff9 2 ≡ Computes 1
  rest_unsigned_by_zero : row.remu.action 0 0 7 0 ≡ Computes 7
  rest_unsigned_less : row.remu.action 0 0 0x80000000 0xffffffff ≡ Computes 0x80000000

are_quotients : AreQuotients
are_quotients = record {
  negative = refl;
  by_negative = refl;
  both_negative = refl;
  by_zero = refl;
  overflow = refl;
  unsigned = refl;
  unsigned_by_zero = refl;
  unsigned_less = refl;
  rest_negative = refl;
  rest_by_negative = refl;
  rest_by_zero = refl;
  rest_overflow = refl;
  rest_unsigned = refl;
  rest_unsigned_by_zero = refl;
  rest_unsigned_less = refl;
}

record AreJumps : Type 0 where
  -- jal x1, -4
  back : row.jal.action 0x80000010 0xffdff0ef 0 0 ≡ Jumps 0x80000014 0x8000000c
  -- jalr x1, 2(x1) where the sum is odd, and where it wraps
  odd : row.jalr.action 0x80000010 0x002080e7 0x80000001 0 ≡ Jumps 0x80000014 0x80000002
  around : row.jalr.action 0xfffffffc 0x002080e7 0xffffffff 0 ≡ Jumps 0 0
  -- a branch forward by 8, and beq x1, x2, -8
  equal : row.beq.action 0x80000010 0x00208463 5 5 ≡ Branches true 0x80000018
  equal_back : row.beq.action 0x80000010 0xfe208ce3 5 6 ≡ Branches false 0x80000008
  unequal : row.bne.action 0x80000010 0x00209463 5 6 ≡ Branches true 0x80000018
  less : row.blt.action 0x80000010 0x0020c463 0xffffffff 1 ≡ Branches true 0x80000018
  less_unsigned : row.bltu.action 0x80000010 0x0020e463 0xffffffff 1 ≡ Branches false 0x80000018
  not_less : row.bge.action 0x80000010 0x0020d463 7 7 ≡ Branches true 0x80000018
  not_less_unsigned : row.bgeu.action 0x80000010 0x0020f463 1 0xffffffff ≡ Branches false 0x80000018

are_jumps : AreJumps
unfolding imm_i imm_b imm_j
are_jumps = record {
  back = refl;
  odd = refl;
  around = refl;
  equal = refl;
  equal_back = refl;
  unequal = refl;
  less = refl;
  less_unsigned = refl;
  not_less = refl;
  not_less_unsigned = refl;
}

record AreAccesses : Type 0 where
  -- lb x1, -1(x2); lh x1, 2(x2); lw, lbu and lhu x1, 0(x2)
  byte : row.lb.action 0 0xfff10083 0x80000000 0 ≡ Loads 0x7fffffff 1 true
  half : row.lh.action 0 0x00211083 0xfffffffe 0 ≡ Loads 0 2 true
  word : row.lw.action 0 0x00012083 8 0 ≡ Loads 8 4 false
  byte_unsigned : row.lbu.action 0 0x00014083 8 0 ≡ Loads 8 1 false
  half_unsigned : row.lhu.action 0 0x00015083 8 0 ≡ Loads 8 2 false
  -- sb x1, -1(x2); sh x1, 6(x2); sw x1, 8(x2)
  put_byte : row.sb.action 0 0xfe110fa3 8 0x12345678 ≡ Stores 7 1 0x78
  put_half : row.sh.action 0 0x00111323 8 0x12345678 ≡ Stores 14 2 0x5678
  put_word : row.sw.action 0 0x00112423 8 0x12345678 ≡ Stores 16 4 0x12345678

are_accesses : AreAccesses
unfolding imm_i imm_s
are_accesses = record { byte = refl; half = refl; word = refl; byte_unsigned = refl; half_unsigned = refl; put_byte = refl; put_half = refl; put_word = refl }

record AreSystem : Type 0 where
  -- fence iorw, iorw and fence.i
  ordered : row.fence.action 0 0x0ff0000f 1 2 ≡ Fences
  fetches_ordered : row.fence_i.action 0 0x0000100f 1 2 ≡ FencesFetches
  -- csrrw x1, mstatus, x2; csrrs x1, mtvec, x0, which does not write; csrrc x1, mie, x2
  swapped : row.csrrw.action 0 0x300110f3 9 0 ≡ AccessesCsr 0x300 Writes 9 true
  read : row.csrrs.action 0 0x305020f3 0 0 ≡ AccessesCsr 0x305 Sets 0 false
  cleared : row.csrrc.action 0 0x304130f3 0x88 0 ≡ AccessesCsr 0x304 Clears 0x88 true
  -- csrrwi x1, mscratch, 31; csrrsi x1, mstatus, 8; csrrci x0, mstatus, 0, which does not write
  swapped_imm : row.csrrwi.action 0 0x340fd0f3 1 2 ≡ AccessesCsr 0x340 Writes 31 true
  set_imm : row.csrrsi.action 0 0x300460f3 1 2 ≡ AccessesCsr 0x300 Sets 8 true
  cleared_imm : row.csrrci.action 0 0x30007073 1 2 ≡ AccessesCsr 0x300 Clears 0 false
  returned : row.mret.action 0 0x30200073 1 2 ≡ Returns
  waited : row.wfi.action 0 0x10500073 1 2 ≡ Waits

are_system : AreSystem
are_system = record {
  ordered = refl;
  fetches_ordered = refl;
  swapped = refl;
  read = refl;
  cleared = refl;
  swapped_imm = refl;
  set_imm = refl;
  cleared_imm = refl;
  returned = refl;
  waited = refl;
}
