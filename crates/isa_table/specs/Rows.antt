-- The instruction table (RISC-V Unprivileged ISA 20191213, chapter 24; what each row does, 2.4 to 2.8, and chapters 3,
-- 7 and 9; MRET and WFI, RISC-V Privileged Architecture 20190608, 3.2.2 and 3.2.3).
-- A row keeps its number, and a word is of the row where `word & mask` is the row's value. The rows stand by number.
-- A set may claim only rows that are here.
use Rattle.std.specs.Prelude.{ℕ, ◌*◌, ◌/◌, ◌%◌, ◌^◌, Bool, true, false, not, eqb, ltb, List, [], ◌∷◌, ◌&&◌, ◌||◌, Option, Some, None, bit_and, bit_or, bit_xor, codes}
use Rattle.core_words.specs.Values.{one_if, add_of, sub_of}
use Rattle.core_words.specs.Fields.{rs1_of, rs2_of, csr_of, imm_i, imm_s, imm_b, imm_u, imm_j}
use Rattle.isa_table.specs.declared.row.Group.{Group}
use Rattle.isa_table.specs.declared.row.Group.TheVariants.{Alu, Branch, Load, Store, Shift, Fence, System, MulDiv}
use Rattle.isa_table.specs.Results.{is_less_signed, shift_left, shift_right, shift_right_signed, amount_of, product_low, product_high_signed, product_high_mixed, product_high_unsigned, quotient_unsigned, remainder_unsigned, quotient_signed, remainder_signed}

-- what a CSR access makes of the old value with its operand: the operand, the old value with the operand's bits set,
-- or with them cleared (9.1)
pub data CsrChange : Type 0 where
  Writes : CsrChange
  Sets : CsrChange
  Clears : CsrChange

-- what an instruction does; where it says no more, it goes on behind itself
pub data Action : Type 0 where
  -- it has this value
  Computes : (value : ℕ) → Action
  -- it has this value, and goes on at the target
  Jumps : (value target : ℕ) → Action
  -- it goes on at the target where the branch is taken
  Branches : (is_taken : Bool) (target : ℕ) → Action
  -- it reads so many bytes, extended with their sign or with zeros
  Loads : (addr size : ℕ) (is_signed : Bool) → Action
  -- it writes the value, of so many bytes
  Stores : (addr size value : ℕ) → Action
  -- FENCE, which has no value
  Fences : Action
  -- FENCE.I, which has none either
  FencesFetches : Action
  -- ECALL
  CallsEnvironment : Action
  -- EBREAK
  Breaks : Action
  -- it has the old value of the CSR, and changes it where it writes
  AccessesCsr : (number : ℕ) (change : CsrChange) (operand : ℕ) (writes : Bool) → Action
  -- MRET
  Returns : Action
  -- WFI
  Waits : Action

-- a is the value of register rs1, b that of rs2
pub record TableRow : Type 0 where
  pub number : ℕ
  pub name : List ℕ
  pub mask : ℕ
  pub value : ℕ
  pub group : Group
  -- the action depends on a
  pub uses_a : Bool
  -- it depends on b
  pub uses_b : Bool
  -- the instruction has a value where it retires
  pub has_value : Bool
  pub action : (pc word a b : ℕ) → Action

-- a jump to a target, whose value is the address behind it (2.5)
abbrev pub jump_to : (pc target : ℕ) → Action
jump_to pc target = Jumps (add_of 32 pc 4) target

-- a branch by its immediate (2.5)
abbrev pub branch_if : (is_taken : Bool) → (pc word : ℕ) → Action
branch_if is_taken pc word = Branches is_taken (add_of 32 pc (imm_b word))

-- loads and stores of so many bytes at the register's address and the immediate (2.6)
abbrev pub load_from : (size : ℕ) → (is_signed : Bool) → (word a : ℕ) → Action
load_from size is_signed word a = Loads (add_of 32 a (imm_i word)) size is_signed

abbrev pub store_to : (size word a b : ℕ) → Action
store_to size word a b = Stores (add_of 32 a (imm_s word)) size (b % 2 ^ (8 * size))

-- a CSR access that always writes, and one that writes where the rs1 field is not 0 (9.1)
abbrev pub csr_write_of : (word operand : ℕ) → Action
csr_write_of word operand = AccessesCsr (csr_of word) Writes operand true

abbrev pub csr_change_of : CsrChange → (word operand : ℕ) → Action
csr_change_of change word operand = AccessesCsr (csr_of word) change operand (not (eqb (rs1_of word) 0))

-- ---- RV32I: integer computations, jumps, branches, loads and stores

abbrev pub lui : TableRow
lui = record { number = 0; name = codes "LUI"; mask = 0x7f; value = 0x37; group = Alu; uses_a = false; uses_b = false; has_value = true; action = λ pc word a b. Computes (imm_u word) }

abbrev pub auipc : TableRow
auipc = record { number = 1; name = codes "AUIPC"; mask = 0x7f; value = 0x17; group = Alu; uses_a = false; uses_b = false; has_value = true; action = λ pc word a b. Computes (add_of 32 pc (imm_u word)) }

abbrev pub jal : TableRow
jal = record { number = 2; name = codes "JAL"; mask = 0x7f; value = 0x6f; group = Branch; uses_a = false; uses_b = false; has_value = true; action = λ pc word a b. jump_to pc (add_of 32 pc (imm_j word)) }

abbrev pub jalr : TableRow
jalr = record { number = 3; name = codes "JALR"; mask = 0x707f; value = 0x67; group = Branch; uses_a = true; uses_b = false; has_value = true; action = λ pc word a b. jump_to pc (add_of 32 a (imm_i word) / 2 * 2) }

abbrev pub beq : TableRow
beq = record { number = 4; name = codes "BEQ"; mask = 0x707f; value = 0x63; group = Branch; uses_a = true; uses_b = true; has_value = false; action = λ pc word a b. branch_if (eqb a b) pc word }

abbrev pub bne : TableRow
bne = record { number = 5; name = codes "BNE"; mask = 0x707f; value = 0x1063; group = Branch; uses_a = true; uses_b = true; has_value = false; action = λ pc word a b. branch_if (not (eqb a b)) pc word }

abbrev pub blt : TableRow
blt = record { number = 6; name = codes "BLT"; mask = 0x707f; value = 0x4063; group = Branch; uses_a = true; uses_b = true; has_value = false; action = λ pc word a b. branch_if (is_less_signed a b) pc word }

abbrev pub bge : TableRow
bge = record { number = 7; name = codes "BGE"; mask = 0x707f; value = 0x5063; group = Branch; uses_a = true; uses_b = true; has_value = false; action = λ pc word a b. branch_if (not (is_less_signed a b)) pc word }

abbrev pub bltu : TableRow
bltu = record { number = 8; name = codes "BLTU"; mask = 0x707f; value = 0x6063; group = Branch; uses_a = true; uses_b = true; has_value = false; action = λ pc word a b. branch_if (ltb a b) pc word }

abbrev pub bgeu : TableRow
bgeu = record { number = 9; name = codes "BGEU"; mask = 0x707f; value = 0x7063; group = Branch; uses_a = true; uses_b = true; has_value = false; action = λ pc word a b. branch_if (not (ltb a b)) pc word }

abbrev pub lb : TableRow
lb = record { number = 10; name = codes "LB"; mask = 0x707f; value = 0x3; group = Load; uses_a = true; uses_b = false; has_value = true; action = λ pc word a b. load_from 1 true word a }

abbrev pub lh : TableRow
lh = record { number = 11; name = codes "LH"; mask = 0x707f; value = 0x1003; group = Load; uses_a = true; uses_b = false; has_value = true; action = λ pc word a b. load_from 2 true word a }

abbrev pub lw : TableRow
lw = record { number = 12; name = codes "LW"; mask = 0x707f; value = 0x2003; group = Load; uses_a = true; uses_b = false; has_value = true; action = λ pc word a b. load_from 4 false word a }

abbrev pub lbu : TableRow
lbu = record { number = 13; name = codes "LBU"; mask = 0x707f; value = 0x4003; group = Load; uses_a = true; uses_b = false; has_value = true; action = λ pc word a b. load_from 1 false word a }

abbrev pub lhu : TableRow
lhu = record { number = 14; name = codes "LHU"; mask = 0x707f; value = 0x5003; group = Load; uses_a = true; uses_b = false; has_value = true; action = λ pc word a b. load_from 2 false word a }

abbrev pub sb : TableRow
sb = record { number = 15; name = codes "SB"; mask = 0x707f; value = 0x23; group = Store; uses_a = true; uses_b = true; has_value = false; action = λ pc word a b. store_to 1 word a b }

abbrev pub sh : TableRow
sh = record { number = 16; name = codes "SH"; mask = 0x707f; value = 0x1023; group = Store; uses_a = true; uses_b = true; has_value = false; action = λ pc word a b. store_to 2 word a b }

abbrev pub sw : TableRow
sw = record { number = 17; name = codes "SW"; mask = 0x707f; value = 0x2023; group = Store; uses_a = true; uses_b = true; has_value = false; action = λ pc word a b. store_to 4 word a b }

abbrev pub addi : TableRow
addi = record { number = 18; name = codes "ADDI"; mask = 0x707f; value = 0x13; group = Alu; uses_a = true; uses_b = false; has_value = true; action = λ pc word a b. Computes (add_of 32 a (imm_i word)) }

abbrev pub slti : TableRow
slti = record { number = 19; name = codes "SLTI"; mask = 0x707f; value = 0x2013; group = Alu; uses_a = true; uses_b = false; has_value = true; action = λ pc word a b. Computes (one_if (is_less_signed a (imm_i word))) }

abbrev pub sltiu : TableRow
sltiu = record { number = 20; name = codes "SLTIU"; mask = 0x707f; value = 0x3013; group = Alu; uses_a = true; uses_b = false; has_value = true; action = λ pc word a b. Computes (one_if (ltb a (imm_i word))) }

abbrev pub xori : TableRow
xori = record { number = 21; name = codes "XORI"; mask = 0x707f; value = 0x4013; group = Alu; uses_a = true; uses_b = false; has_value = true; action = λ pc word a b. Computes (bit_xor a (imm_i word)) }

abbrev pub ori : TableRow
ori = record { number = 22; name = codes "ORI"; mask = 0x707f; value = 0x6013; group = Alu; uses_a = true; uses_b = false; has_value = true; action = λ pc word a b. Computes (bit_or a (imm_i word)) }

abbrev pub andi : TableRow
andi = record { number = 23; name = codes "ANDI"; mask = 0x707f; value = 0x7013; group = Alu; uses_a = true; uses_b = false; has_value = true; action = λ pc word a b. Computes (bit_and a (imm_i word)) }

abbrev pub slli : TableRow
slli = record { number = 24; name = codes "SLLI"; mask = 0xfe00707f; value = 0x1013; group = Shift; uses_a = true; uses_b = false; has_value = true; action = λ pc word a b. Computes (shift_left a (rs2_of word)) }

abbrev pub srli : TableRow
srli = record { number = 25; name = codes "SRLI"; mask = 0xfe00707f; value = 0x5013; group = Shift; uses_a = true; uses_b = false; has_value = true; action = λ pc word a b. Computes (shift_right a (rs2_of word)) }

abbrev pub srai : TableRow
srai = record { number = 26; name = codes "SRAI"; mask = 0xfe00707f; value = 0x40005013; group = Shift; uses_a = true; uses_b = false; has_value = true; action = λ pc word a b. Computes (shift_right_signed a (rs2_of word)) }

abbrev pub add : TableRow
add = record { number = 27; name = codes "ADD"; mask = 0xfe00707f; value = 0x33; group = Alu; uses_a = true; uses_b = true; has_value = true; action = λ pc word a b. Computes (add_of 32 a b) }

abbrev pub sub : TableRow
sub = record { number = 28; name = codes "SUB"; mask = 0xfe00707f; value = 0x40000033; group = Alu; uses_a = true; uses_b = true; has_value = true; action = λ pc word a b. Computes (sub_of 32 a b) }

abbrev pub sll : TableRow
sll = record { number = 29; name = codes "SLL"; mask = 0xfe00707f; value = 0x1033; group = Shift; uses_a = true; uses_b = true; has_value = true; action = λ pc word a b. Computes (shift_left a (amount_of b)) }

abbrev pub slt : TableRow
slt = record { number = 30; name = codes "SLT"; mask = 0xfe00707f; value = 0x2033; group = Alu; uses_a = true; uses_b = true; has_value = true; action = λ pc word a b. Computes (one_if (is_less_signed a b)) }

abbrev pub sltu : TableRow
sltu = record { number = 31; name = codes "SLTU"; mask = 0xfe00707f; value = 0x3033; group = Alu; uses_a = true; uses_b = true; has_value = true; action = λ pc word a b. Computes (one_if (ltb a b)) }

abbrev pub xor : TableRow
xor = record { number = 32; name = codes "XOR"; mask = 0xfe00707f; value = 0x4033; group = Alu; uses_a = true; uses_b = true; has_value = true; action = λ pc word a b. Computes (bit_xor a b) }

abbrev pub srl : TableRow
srl = record { number = 33; name = codes "SRL"; mask = 0xfe00707f; value = 0x5033; group = Shift; uses_a = true; uses_b = true; has_value = true; action = λ pc word a b. Computes (shift_right a (amount_of b)) }

abbrev pub sra : TableRow
sra = record { number = 34; name = codes "SRA"; mask = 0xfe00707f; value = 0x40005033; group = Shift; uses_a = true; uses_b = true; has_value = true; action = λ pc word a b. Computes (shift_right_signed a (amount_of b)) }

abbrev pub or : TableRow
or = record { number = 35; name = codes "OR"; mask = 0xfe00707f; value = 0x6033; group = Alu; uses_a = true; uses_b = true; has_value = true; action = λ pc word a b. Computes (bit_or a b) }

abbrev pub and : TableRow
and = record { number = 36; name = codes "AND"; mask = 0xfe00707f; value = 0x7033; group = Alu; uses_a = true; uses_b = true; has_value = true; action = λ pc word a b. Computes (bit_and a b) }

abbrev pub fence : TableRow
fence = record { number = 37; name = codes "FENCE"; mask = 0x707f; value = 0xf; group = Fence; uses_a = false; uses_b = false; has_value = false; action = λ pc word a b. Fences }

abbrev pub ecall : TableRow
ecall = record { number = 38; name = codes "ECALL"; mask = 0xffffffff; value = 0x73; group = System; uses_a = false; uses_b = false; has_value = false; action = λ pc word a b. CallsEnvironment }

abbrev pub ebreak : TableRow
ebreak = record { number = 39; name = codes "EBREAK"; mask = 0xffffffff; value = 0x100073; group = System; uses_a = false; uses_b = false; has_value = false; action = λ pc word a b. Breaks }

-- ---- Zifencei

abbrev pub fence_i : TableRow
fence_i = record { number = 40; name = codes "FENCE.I"; mask = 0x707f; value = 0x100f; group = Fence; uses_a = false; uses_b = false; has_value = false; action = λ pc word a b. FencesFetches }

-- ---- M: multiplication and division

abbrev pub mul : TableRow
mul = record { number = 41; name = codes "MUL"; mask = 0xfe00707f; value = 0x2000033; group = MulDiv; uses_a = true; uses_b = true; has_value = true; action = λ pc word a b. Computes (product_low a b) }

abbrev pub mulh : TableRow
mulh = record { number = 42; name = codes "MULH"; mask = 0xfe00707f; value = 0x2001033; group = MulDiv; uses_a = true; uses_b = true; has_value = true; action = λ pc word a b. Computes (product_high_signed a b) }

abbrev pub mulhsu : TableRow
mulhsu = record { number = 43; name = codes "MULHSU"; mask = 0xfe00707f; value = 0x2002033; group = MulDiv; uses_a = true; uses_b = true; has_value = true; action = λ pc word a b. Computes (product_high_mixed a b) }

abbrev pub mulhu : TableRow
mulhu = record { number = 44; name = codes "MULHU"; mask = 0xfe00707f; value = 0x2003033; group = MulDiv; uses_a = true; uses_b = true; has_value = true; action = λ pc word a b. Computes (product_high_unsigned a b) }

abbrev pub div : TableRow
div = record { number = 45; name = codes "DIV"; mask = 0xfe00707f; value = 0x2004033; group = MulDiv; uses_a = true; uses_b = true; has_value = true; action = λ pc word a b. Computes (quotient_signed a b) }

abbrev pub divu : TableRow
divu = record { number = 46; name = codes "DIVU"; mask = 0xfe00707f; value = 0x2005033; group = MulDiv; uses_a = true; uses_b = true; has_value = true; action = λ pc word a b. Computes (quotient_unsigned a b) }

abbrev pub rem : TableRow
rem = record { number = 47; name = codes "REM"; mask = 0xfe00707f; value = 0x2006033; group = MulDiv; uses_a = true; uses_b = true; has_value = true; action = λ pc word a b. Computes (remainder_signed a b) }

abbrev pub remu : TableRow
remu = record { number = 48; name = codes "REMU"; mask = 0xfe00707f; value = 0x2007033; group = MulDiv; uses_a = true; uses_b = true; has_value = true; action = λ pc word a b. Computes (remainder_unsigned a b) }

-- ---- Zicsr

abbrev pub csrrw : TableRow
csrrw = record { number = 49; name = codes "CSRRW"; mask = 0x707f; value = 0x1073; group = System; uses_a = true; uses_b = false; has_value = true; action = λ pc word a b. csr_write_of word a }

abbrev pub csrrs : TableRow
csrrs = record { number = 50; name = codes "CSRRS"; mask = 0x707f; value = 0x2073; group = System; uses_a = true; uses_b = false; has_value = true; action = λ pc word a b. csr_change_of Sets word a }

abbrev pub csrrc : TableRow
csrrc = record { number = 51; name = codes "CSRRC"; mask = 0x707f; value = 0x3073; group = System; uses_a = true; uses_b = false; has_value = true; action = λ pc word a b. csr_change_of Clears word a }

abbrev pub csrrwi : TableRow
csrrwi = record { number = 52; name = codes "CSRRWI"; mask = 0x707f; value = 0x5073; group = System; uses_a = false; uses_b = false; has_value = true; action = λ pc word a b. csr_write_of word (rs1_of word) }

abbrev pub csrrsi : TableRow
csrrsi = record { number = 53; name = codes "CSRRSI"; mask = 0x707f; value = 0x6073; group = System; uses_a = false; uses_b = false; has_value = true; action = λ pc word a b. csr_change_of Sets word (rs1_of word) }

abbrev pub csrrci : TableRow
csrrci = record { number = 54; name = codes "CSRRCI"; mask = 0x707f; value = 0x7073; group = System; uses_a = false; uses_b = false; has_value = true; action = λ pc word a b. csr_change_of Clears word (rs1_of word) }

-- ---- machine mode

abbrev pub mret : TableRow
mret = record { number = 55; name = codes "MRET"; mask = 0xffffffff; value = 0x30200073; group = System; uses_a = false; uses_b = false; has_value = false; action = λ pc word a b. Returns }

abbrev pub wfi : TableRow
wfi = record { number = 56; name = codes "WFI"; mask = 0xffffffff; value = 0x10500073; group = System; uses_a = false; uses_b = false; has_value = false; action = λ pc word a b. Waits }

-- the table, by number
abbrev pub table : List TableRow
table =
    lui ∷ auipc ∷ jal ∷ jalr ∷ beq ∷ bne ∷ blt ∷ bge ∷ bltu ∷ bgeu
    ∷ lb ∷ lh ∷ lw ∷ lbu ∷ lhu ∷ sb ∷ sh ∷ sw
    ∷ addi ∷ slti ∷ sltiu ∷ xori ∷ ori ∷ andi ∷ slli ∷ srli ∷ srai
    ∷ add ∷ sub ∷ sll ∷ slt ∷ sltu ∷ xor ∷ srl ∷ sra ∷ or ∷ and
    ∷ fence ∷ ecall ∷ ebreak ∷ fence_i
    ∷ mul ∷ mulh ∷ mulhsu ∷ mulhu ∷ div ∷ divu ∷ rem ∷ remu
    ∷ csrrw ∷ csrrs ∷ csrrc ∷ csrrwi ∷ csrrsi ∷ csrrci ∷ mret ∷ wfi ∷ []

-- a word is of a row
abbrev pub meets : (word : ℕ) → TableRow → Bool
meets word row = eqb (bit_and word row.mask) row.value

-- the row of a word among rows whose numbers are taken
abbrev pub row_among : (is_taken : ℕ → Bool) → List TableRow → (word : ℕ) → Option TableRow
row_among is_taken [] word = None
row_among is_taken (row ∷ rows) word = elim (is_taken row.number && meets word row) [ true ↦ Some row | false ↦ row_among is_taken rows word ]

-- the table has a row of this number
abbrev pub is_in_table : List TableRow → (number : ℕ) → Bool
is_in_table [] number = false
is_in_table (row ∷ rows) number = eqb row.number number || is_in_table rows number

-- the row of a word in the table; no word is of two
abbrev pub row_of : (is_taken : ℕ → Bool) → (word : ℕ) → Option TableRow
row_of is_taken word = row_among is_taken table word
