-- The parts of this kind after the first call: their registers have no next values yet, and their arrays no writes.
use Rattle.std.specs.Prelude.{◌≡◌, ℕ, ◌+◌, ◌-◌, ◌<◌, ◌≤◌, length, true, Option, None, Some}
use Rattle.hw_pool.specs.Meaning.{Env, value}
use Rattle.service_reg.specs.declared.service.Service.TheVariants.{Fetch}
use Rattle.plug_part.specs.Part.{Part, PartArray, PartReg, PartWire, PortTrees, tree_at}
use Rattle.plug_part.specs.Owned.{is_among}
use Rattle.plug_part.specs.Alone.{OffersOnly}

-- a register of the part without a next value
abbrev pub IsOpen : Part → (reg width : ℕ) (reset : Option ℕ) → Type 0
IsOpen p reg width reset = p.regs reg ≡ Some (record { width = width; reset = reset; next = None })

pub record AreOpen (p : Part) (reg a b c d : ℕ) (ra rb rc rd : Option ℕ) : Type 0 where
  pub first : IsOpen p reg a ra
  pub second : IsOpen p (reg + 1) b rb
  pub third : IsOpen p (reg + 2) c rc
  pub fourth : IsOpen p (reg + 3) d rd

pub record BeginsIcache (l k reset_pc : ℕ) (p : Part) : Type 0 where
  pub first : ℕ
  pub tags : ℕ
  pub ports : PortTrees
  pub only : OffersOnly p Fetch ports
  -- it has no forward wire but its inputs, no other register or array, and drives no output yet
  pub wires : (k : ℕ) (row : PartWire) → p.wires k ≡ Some row → is_among k ports.inputs ≡ true
  pub regs : (k : ℕ) (row : PartReg) → p.regs k ≡ Some row → (first ≤ k) × (k < first + 16)
  pub arrays : (k : ℕ) (row : PartArray) → p.arrays k ≡ Some row → (tags ≤ k) × (k < tags + 2)
  pub outs : (q : ℕ) → p.outs q ≡ None
  pub front : AreOpen p first 32 (l + 1) 1 1 (Some reset_pc) (Some 0) (Some 0) (Some 0)
  pub reading : AreOpen p (first + 4) 1 (30 - k) k 1 (Some 0) None None None
  pub caught : AreOpen p (first + 8) 1 1 32 1 None (Some 0) None None
  pub item : AreOpen p (first + 12) 1 32 32 1 (Some 0) None None None
  pub tag : p.arrays tags ≡ Some (record { width = 31 - k - l; bits = l; write = None })
  pub cell : p.arrays (tags + 1) ≡ Some (record { width = 32; bits = l + k; write = None })
  -- the item is offered
  pub outputs : length ports.outputs ≡ 4
  pub valid : (env : Env) → value env (tree_at ports.outputs 0) ≡ env.regs (first + 12)
  pub offers_pc : (env : Env) → value env (tree_at ports.outputs 1) ≡ env.regs (first + 12 + 1)
  pub offers_word : (env : Env) → value env (tree_at ports.outputs 2) ≡ env.regs (first + 12 + 2)
  pub offers_error : (env : Env) → value env (tree_at ports.outputs 3) ≡ env.regs (first + 12 + 3)
