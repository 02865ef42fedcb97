-- The parts of this kind after the first call: their registers have no next values yet.
use Rattle.std.specs.Prelude.{◌≡◌, ℕ, ◌+◌, ◌*◌, ◌<◌, ◌≤◌, length, true, Option, None, Some, codes}
use Rattle.hw_pool.specs.Meaning.{Env, value}
use Rattle.service_reg.specs.declared.service.Service.TheVariants.{Fetch}
use Rattle.plug_kinds.specs.declared.kind.Kind.TheVariants as kind
use Rattle.plug_kinds.specs.Kinds.{number_of, value_of}
use Rattle.stage_map.specs.declared.config.Param.{Param}
use Rattle.std.specs.Prelude.{List}
use Rattle.plug_part.specs.Part.{Part, PartArray, PartReg, PartWire, PortTrees, tree_at}
use Rattle.plug_part.specs.Owned.{is_among}
use Rattle.plug_part.specs.Alone.{OffersOnly}
use Rattle.plug_fetch.specs.Registers.{numbers_from}

-- how many items the part reads ahead: the parameter of the key `depth`
abbrev pub depth_of : List Param → ℕ
depth_of ps = number_of (value_of kind.Fetch ps (codes "depth"))

-- a register of the part without a next value
abbrev pub IsOpen : Part → (reg width : ℕ) (reset : Option ℕ) → Type 0
IsOpen p reg width reset = p.regs reg ≡ Some (record { width = width; reset = reset; next = None })

pub record BeginsFetch (depth reset_pc : ℕ) (p : Part) : Type 0 where
  pub first : ℕ
  pub ports : PortTrees
  pub only : OffersOnly p Fetch ports
  -- it has no forward wire but its inputs, no other register, no array, and drives no output yet
  pub wires : (k : ℕ) (row : PartWire) → p.wires k ≡ Some row → is_among k ports.inputs ≡ true
  pub regs : (k : ℕ) (row : PartReg) → p.regs k ≡ Some row → (first ≤ k) × (k < first + 4 * depth + 5)
  pub arrays : (k : ℕ) (row : PartArray) → p.arrays k ≡ Some row → ⊥
  pub outs : (q : ℕ) → p.outs q ≡ None
  pub held : (i : ℕ) → i < depth → IsOpen p ((numbers_from first depth).held i) 1 (Some 0)
  pub pc : (i : ℕ) → i < depth → IsOpen p ((numbers_from first depth).pc i) 32 None
  pub word : (i : ℕ) → i < depth → IsOpen p ((numbers_from first depth).word i) 32 None
  pub error : (i : ℕ) → i < depth → IsOpen p ((numbers_from first depth).error i) 1 None
  pub given : IsOpen p (numbers_from first depth).given 1 (Some 0)
  pub owed : IsOpen p (numbers_from first depth).owed 1 (Some 0)
  pub dropped : IsOpen p (numbers_from first depth).dropped 1 (Some 0)
  pub address : IsOpen p (numbers_from first depth).address 32 None
  pub next_pc : IsOpen p (numbers_from first depth).next_pc 32 (Some reset_pc)
  -- the first place is offered
  pub outputs : length ports.outputs ≡ 4
  pub valid : (env : Env) → value env (tree_at ports.outputs 0) ≡ env.regs ((numbers_from first depth).held 0)
  pub offers_pc : (env : Env) → value env (tree_at ports.outputs 1) ≡ env.regs ((numbers_from first depth).pc 0)
  pub offers_word : (env : Env) → value env (tree_at ports.outputs 2) ≡ env.regs ((numbers_from first depth).word 0)
  pub offers_error : (env : Env) → value env (tree_at ports.outputs 3) ≡ env.regs ((numbers_from first depth).error 0)
