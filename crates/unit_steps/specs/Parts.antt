-- Parts of units that may work for several cycles, and never trap.
use Rattle.std.specs.Prelude.{◌≡◌, ℕ, ◌+◌, ◌<◌, ◌^◌, true, false, List, [], ◌∷◌, map, length, get_or, None, Some}
use Rattle.core_words.specs.Values.{choose}
use Rattle.hw_pool.specs.Meaning.{Env, value}
use Rattle.isa_table.specs.Rows.Action.{Computes}
use Rattle.isa_model.specs.Machine.{Set}
use Rattle.isa_model.specs.Effects.{behind}
use Rattle.service_reg.specs.declared.service.Service.TheVariants.{Exec, DataBus}
use Rattle.plug_law.specs.Table.{row_numbered, table_of}
use Rattle.plug_part.specs.Part.{PortTrees, Part, PartWire, PartReg, PartArray, tree_at}
use Rattle.plug_part.specs.Owned.{is_among}
use Rattle.plug_part.specs.Things.{HasReg, HasWire, input_in}
use Rattle.plug_part.specs.Alone.{OffersOnly}
use Rattle.plug_part.specs.Meets.{MeetsLaws}
use Rattle.plug_api.specs.declared.spec.PlugSpec.{PlugSpec}
use Rattle.plug_api.specs.declared.spec.Plan.{Plan}
use Rattle.plug_api.specs.Calls.{terms_of}
use Rattle.plug_api.specs.Spec.{is_among as is_service}
use Rattle.plug_kinds.specs.Kinds.{claim_of}
use Rattle.unit_parts.specs.Says.{are_unit_rows}
use Rattle.unit_steps.specs.Cycles.{Machine, HasRegisters, EndsWith}
use Rattle.unit_steps.specs.Registers.{held_in}

-- what a machine does in a cycle over forward wires, which are the inputs of Exec, and over the register `mark` and so many registers behind it
module _ (m : Machine) (count : ℕ) (ws : List ℕ) (mark : ℕ) (env : Env) where
  abbrev pub ends_over : ℕ
  ends_over = m.ends (env.wires (get_or ws 3 0)) (env.wires (get_or ws 4 0)) (env.wires (get_or ws 5 0)) (env.regs mark) (held_in env (mark + 1) count)

  abbrev pub value_over : ℕ
  value_over = m.value (env.wires (get_or ws 3 0)) (env.wires (get_or ws 4 0)) (env.wires (get_or ws 5 0)) (env.regs mark) (held_in env (mark + 1) count)

  abbrev pub next_over : List ℕ
  next_over = m.next (env.wires (get_or ws 3 0)) (env.wires (get_or ws 4 0)) (env.wires (get_or ws 5 0)) (env.regs mark) (held_in env (mark + 1) count)

  -- the mark behind the cycle: 1 where go is 1, the instruction does not end, and clear is 0
  abbrev pub mark_over : ℕ
  mark_over = choose (env.wires (get_or ws 0 0)) (choose ends_over 0 (choose (env.wires (get_or ws 6 0)) 0 1)) 0

-- The part offers Exec alone and has no other forward wire than its inputs, and no array. Inputs are go, row, pc, word, a, b and clear;
-- outputs done, value, next_pc, trap, cause, tval and fence. The register `mark` is 1 where an instruction is at work as a cycle
-- begins; the machine's registers, of these widths, stand behind it.
pub record BuildsWorking (m : Machine) (widths : List ℕ) (p : Part) : Type 0 where
  pub ports : PortTrees
  pub mark : ℕ
  pub only : OffersOnly p Exec ports
  pub wires : (k : ℕ) (row : PartWire) → p.wires k ≡ Some row → is_among k ports.inputs ≡ true
  pub regs : (k : ℕ) (row : PartReg) → p.regs k ≡ Some row → row.next ≡ None → ⊥
  pub arrays : (k : ℕ) (row : PartArray) → p.arrays k ≡ Some row → ⊥
  pub a : HasWire p (get_or ports.inputs 4 0) 32
  pub b : HasWire p (get_or ports.inputs 5 0) 32
  pub at_work : HasReg p mark 1 (Some 0) (mark_over m (length widths) ports.inputs mark)
  pub holds : (k : ℕ) → k < length widths → HasReg p (mark + 1 + k) (get_or widths k 0) None (λ env. get_or (next_over m (length widths) ports.inputs mark env) k 0)
  pub done : (env : Env) → value env (tree_at ports.outputs 0) ≡ choose (input_in ports 0 env) (ends_over m (length widths) ports.inputs mark env) 0
  pub result : (env : Env) → value env (tree_at ports.outputs 1) ≡ value_over m (length widths) ports.inputs mark env
  pub next_pc : (env : Env) → value env (tree_at ports.outputs 2) ≡ behind (input_in ports 2 env)
  pub trap : (env : Env) → value env (tree_at ports.outputs 3) ≡ 0
  pub fence : (env : Env) → value env (tree_at ports.outputs 6) ≡ 0

-- each instruction of each of these rows ends within so many cycles, with the value that the row computes
abbrev pub RowsEnd : (rows : List ℕ) → Machine → (most : ℕ) → Type 0
RowsEnd [] m most = Unit {0}
RowsEnd (row ∷ rows) m most = ((set : Set) (word pc a b : ℕ) → (table_of set).row_of word ≡ Some row → a < 2 ^ 32 → b < 2 ^ 32
    → (result : ℕ) × ((row_numbered row).action pc word a b ≡ Computes result) × EndsWith m most word a b result) × RowsEnd rows m most

-- parts of a unit meet the laws where each instruction of its rows ends within its latency, with the value that its row computes
abbrev pub WorkingPartsMeetLaws : Type 0
WorkingPartsMeetLaws =
    (m : Machine) (widths rows : List ℕ) (spec : PlugSpec) (plan : Plan) (p : Part) → spec.rows ≡ map claim_of rows → are_unit_rows rows ≡ true
    → is_service spec.offers DataBus ≡ false → HasRegisters m (length widths) → RowsEnd rows m spec.latency.0
    → BuildsWorking m widths p → MeetsLaws (terms_of spec plan) p
