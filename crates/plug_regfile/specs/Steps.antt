-- What one function does to the array of the part.
use Rattle.std.specs.Prelude.{◌≡◌, ℕ, Some}
use Rattle.hw_pool.specs.Nodes.{PoolValue}
use Rattle.hw_module.specs.declared.rows.Owner.TheVariants.{Entry}
use Rattle.hw_module.specs.declared.rows.ArrayWrite.{ArrayWrite}
use Rattle.hw_module.specs.Rows.{ModuleValue, array_at}
use Rattle.hw_module.specs.Rights.{Rights, Makes}
use Rattle.hw_module.specs.Checked.{DriversFit}
use Rattle.service_ports.specs.declared.ports.RegFilePorts.{RegFilePorts}
use Rattle.plug_kit.specs.Bounds.{no_scope}
use Rattle.plug_kit.specs.Carries.{Carries}

-- entry e gave its array of 32 cells of 32 bits its write, from the inputs of these ports, and nothing else
pub record Writes (e : ℕ) (old new : ModuleValue) (pool : PoolValue) (w : RegFilePorts) (array : ℕ) : Type 0 where
  pub write : ArrayWrite
  pub row : array_at new.arrays array ≡ record { owner = Entry e; width = 32; bits = 5; write = Some write }
  pub others : (k : ℕ) → (k ≡ array → ⊥) → array_at new.arrays k ≡ array_at old.arrays k
  pub enable : Carries no_scope old pool 1 8 (λ env. env.wires w.we) write.enable
  pub addr : Carries no_scope old pool 5 8 (λ env. env.wires w.wa) write.addr
  pub item : Carries no_scope old pool 32 8 (λ env. env.wires w.wd) write.value
  pub wires : new.wires ≡ old.wires
  pub regs : new.regs ≡ old.regs
  pub makes : (r : Rights) → Makes (Entry e) r old new 1
  pub drivers : DriversFit old pool → DriversFit new pool
