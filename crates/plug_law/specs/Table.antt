-- The instruction table as the laws of the parts see it, with each row by its number, and the memory that they see.
use Rattle.std.specs.Prelude.{◌≡◌, ℕ, ◌%◌, Bool, true, false, leb, ◌&&◌, length, get_or, Option, Some, None, is_some, option_map}
use Rattle.core_words.specs.Values.{bits_of}
use Rattle.bus_law.specs.Memory.{Memory, IsMemory, Store, with_store}
use Rattle.isa_table.specs.declared.row.Group.{Group}
use Rattle.isa_table.specs.declared.row.Group.TheVariants.{Alu, Branch, Load, Store as StoreGroup, Shift, Fence, System, MulDiv}
use Rattle.isa_table.specs.Rows.{TableRow, table, lui}
use Rattle.isa_table.specs.Rows as rows
use Rattle.isa_csr.specs.Csrs.{Csrs, IsCsrs, wakes}
use Rattle.isa_model.specs.Machine.{Set, has_row}
use Rattle.isa_model.specs.Effects.{Moment, Effect, effect_of, csrs_of, rests, Access, access_of}
use Rattle.isa_model.specs.Effects.Effect.{Traps, Does}
use Rattle.isa_model.specs.Run.{is_fence_word}

pub record Table : Type 0 where
  -- the number of a word's row; none where the set has no row of the word
  pub row_of : (word : ℕ) → Option ℕ
  -- what a row does at a pc with a word, a the value of its register rs1 and b that of rs2
  pub effect : (row pc word a b : ℕ) → Memory → Csrs → Moment → Effect
  -- what it may do on the data bus there
  pub access : (row pc word a b : ℕ) → Access
  pub has_value : ℕ → Bool
  pub uses_a : ℕ → Bool
  pub uses_b : ℕ → Bool
  -- loads and stores
  pub of_bus : ℕ → Bool
  -- the rows that need CSRs
  pub of_system : ℕ → Bool

-- the row of a number; LUI's where no row has it
abbrev pub row_numbered : (number : ℕ) → TableRow
row_numbered number = get_or table number lui

abbrev pub is_bus_group : Group → Bool
is_bus_group Load = true
is_bus_group StoreGroup = true
is_bus_group Alu = false
is_bus_group Branch = false
is_bus_group Shift = false
is_bus_group Fence = false
is_bus_group System = false
is_bus_group MulDiv = false

-- rows 49 to 56: the CSR accesses, MRET and WFI
abbrev pub is_system_row : (number : ℕ) → Bool
is_system_row number = leb 49 number && leb number 56

abbrev pub number_of : TableRow → ℕ
number_of row = row.number

unfoldable pub table_of : Set → Table
table_of s = record {
  row_of = λ word. option_map number_of (rows.row_of (has_row s) word);
  effect = λ number pc word a b memory csrs moment. effect_of pc word memory csrs moment ((row_numbered number).action pc word a b);
  access = λ number pc word a b. access_of ((row_numbered number).action pc word a b);
  has_value = λ number. (row_numbered number).has_value;
  uses_a = λ number. (row_numbered number).uses_a;
  uses_b = λ number. (row_numbered number).uses_b;
  of_bus = λ number. is_bus_group (row_numbered number).group;
  of_system = is_system_row;
}

-- rows that need CSRs are claimed only where the set has them
abbrev pub IsCoherent : Set → Type 0
IsCoherent s = (number : ℕ) → s.claims number ≡ true → is_system_row number ≡ true → s.system ≡ true

-- what proofs over a table need to know of it; rows 38, 39, 40 and 56 are ECALL, EBREAK, FENCE.I and WFI
pub record IsTable (t : Table) : Type 0 where
  -- the value of a register that a row does not use changes nothing
  pub a : (row pc word a a' b : ℕ) (m : Memory) (c : Csrs) (o : Moment) → t.uses_a row ≡ false → t.effect row pc word a b m c o ≡ t.effect row pc word a' b m c o
  pub b : (row pc word a b b' : ℕ) (m : Memory) (c : Csrs) (o : Moment) → t.uses_b row ≡ false → t.effect row pc word a b m c o ≡ t.effect row pc word a b' m c o
  -- ECALL and EBREAK trap, have no value, and bit 20 of their words tells them apart
  pub ecall : (pc word a b : ℕ) (m : Memory) (c : Csrs) (o : Moment) → t.effect 38 pc word a b m c o ≡ Traps 11 0 None
  pub ebreak : (pc word a b : ℕ) (m : Memory) (c : Csrs) (o : Moment) → t.effect 39 pc word a b m c o ≡ Traps 3 0 None
  pub calls : (t.has_value 38 ≡ false) × (t.has_value 39 ≡ false)
  pub ecall_word : (word : ℕ) → t.row_of word ≡ Some 38 → bits_of word 20 20 ≡ 0
  pub ebreak_word : (word : ℕ) → t.row_of word ≡ Some 39 → bits_of word 20 20 ≡ 1
  -- a row that retires has a value in each case or in none
  pub value : (row pc word a b : ℕ) (m : Memory) (c : Csrs) (o : Moment) (v : Option ℕ) (next : ℕ) (w : Option Store) (change : Csrs → Csrs)
      → t.effect row pc word a b m c o ≡ Does v next w change → t.has_value row ≡ is_some v
  -- a row that needs no CSRs changes none
  pub plain : (row pc word a b : ℕ) (m : Memory) (c d : Csrs) (o : Moment) → t.of_system row ≡ false → csrs_of (t.effect row pc word a b m c o) d ≡ d
  -- a row that is no load or store does not read memory
  pub pure : (row pc word a b : ℕ) (m m' : Memory) (c : Csrs) (o : Moment) → t.of_bus row ≡ false → t.effect row pc word a b m c o ≡ t.effect row pc word a b m' c o
  -- a row that waits needs CSRs
  pub waits : (row pc word a b : ℕ) (m : Memory) (c : Csrs) (o : Moment) → rests (t.effect row pc word a b m c o) ≡ true → t.of_system row ≡ true
  -- it is WFI, and no interrupt wakes it
  pub sleeps : (row pc word a b : ℕ) (m : Memory) (c : Csrs) (o : Moment) → rests (t.effect row pc word a b m c o) ≡ true → (row ≡ 56) × (wakes c o.lines ≡ false)
  -- a row that needs no CSRs does the same in each moment
  pub timeless : (row pc word a b : ℕ) (m : Memory) (c : Csrs) (o o' : Moment) → t.of_system row ≡ false → t.effect row pc word a b m c o ≡ t.effect row pc word a b m c o'
  -- the word of a FENCE.I is of no other row
  pub fence_word : (word row : ℕ) → t.row_of word ≡ Some row → is_fence_word word ≡ true → row ≡ 40
  -- the write of a store that traps changes nothing
  pub faults : (row pc word a b : ℕ) (m : Memory) (c : Csrs) (o : Moment) (cause tval : ℕ) (w : Store)
      → t.effect row pc word a b m c o ≡ Traps cause tval (Some w) → with_store m (Some w) ≡ m
  -- pcs stay multiples of 4, as mtvec and mepc do
  pub whole : (row pc word a b : ℕ) (m : Memory) (c : Csrs) (o : Moment) (v : Option ℕ) (next : ℕ) (w : Option Store) (change : Csrs → Csrs)
      → pc % 4 ≡ 0 → IsCsrs c → t.effect row pc word a b m c o ≡ Does v next w change → (next % 4 ≡ 0) × ((d : Csrs) → IsCsrs d → IsCsrs (change d))

-- the memory that a part sees in a cycle: one that a system may have, in the place of that of cycle 0
pub record IsMemoryAt (mem : ℕ → Memory) (k : ℕ) : Type 0 where
  pub is : IsMemory (mem k)
  pub base : (mem k).base ≡ (mem 0).base
  pub size : length (mem k).bytes ≡ length (mem 0).bytes
