-- What an entry builds: its outputs and the next values of its registers, each over the part's cycle.
use Rattle.std.specs.Prelude.{◌≡◌, ℕ, ◌+◌, List}
use Rattle.hw_pool.specs.Nodes.{PoolValue}
use Rattle.hw_pool.specs.Meaning.{Env}
use Rattle.hw_expr.specs.declared.net.Net.{Net}
use Rattle.hw_gates.specs.Places.{value_in}
use Rattle.hw_module.specs.Rows.{ModuleValue, reg_at}
use Rattle.csr_nets.specs.Machine.{done_now, held_after, irq_cause_by, kind_now, next_pc_by, old_now, take_now, trap_now, whole_by}
use Rattle.plug_csr.specs.declared.build.Both.{Both}
use Rattle.plug_csr.specs.Cycle.{now_at}
use Rattle.plug_csr.specs.Registers.{driven_row}

-- the outputs of both services as nets, where misa reads this
pub record ShowsOuts (pool : PoolValue) (misa first : ℕ) (inputs told : List ℕ) (p : Both) : Type 0 where
  pub done : (env : Env) → value_in env pool p.exec.done ≡ done_now misa (now_at first inputs told env)
  pub result : (env : Env) → value_in env pool p.exec.value ≡ old_now misa (now_at first inputs told env)
  pub next_pc : (env : Env) → value_in env pool p.exec.next_pc
      ≡ next_pc_by (kind_now misa (now_at first inputs told env)).returns (now_at first inputs told env).held.epc (now_at first inputs told env).given.pc
  pub trap : (env : Env) → value_in env pool p.exec.trap ≡ trap_now misa (now_at first inputs told env)
  pub cause : (env : Env) → value_in env pool p.exec.cause ≡ 2
  pub tval : (env : Env) → value_in env pool p.exec.tval ≡ (now_at first inputs told env).given.word
  pub fence : (env : Env) → value_in env pool p.exec.fence ≡ 0
  pub take_irq : (env : Env) → value_in env pool p.system.take_irq ≡ take_now misa (now_at first inputs told env)
  pub irq_cause : (env : Env) → value_in env pool p.system.irq_cause ≡ irq_cause_by (now_at first inputs told env).held (now_at first inputs told env).lines
  pub base : (env : Env) → value_in env pool p.system.base ≡ whole_by (now_at first inputs told env).held.tvec

-- a register with a next value of this function
pub record IsNext (m : ModuleValue) (pool : PoolValue) (entry reg width : ℕ) (f : Env → ℕ) : Type 0 where
  pub net : Net
  pub row : reg_at m.regs reg ≡ driven_row entry width net
  pub value_is : (env : Env) → value_in env pool net ≡ f env

pub record HasNexts (m : ModuleValue) (pool : PoolValue) (entry misa first : ℕ) (inputs told : List ℕ) : Type 0 where
  pub on : IsNext m pool entry first 1 (λ env. (held_after misa (now_at first inputs told env)).on)
  pub was : IsNext m pool entry (first + 1) 1 (λ env. (held_after misa (now_at first inputs told env)).was)
  pub soft : IsNext m pool entry (first + 2) 1 (λ env. (held_after misa (now_at first inputs told env)).soft)
  pub timer : IsNext m pool entry (first + 3) 1 (λ env. (held_after misa (now_at first inputs told env)).timer)
  pub outer : IsNext m pool entry (first + 4) 1 (λ env. (held_after misa (now_at first inputs told env)).outer)
  pub tvec : IsNext m pool entry (first + 5) 30 (λ env. (held_after misa (now_at first inputs told env)).tvec)
  pub epc : IsNext m pool entry (first + 6) 30 (λ env. (held_after misa (now_at first inputs told env)).epc)
  pub scratch : IsNext m pool entry (first + 7) 32 (λ env. (held_after misa (now_at first inputs told env)).scratch)
  pub cause : IsNext m pool entry (first + 8) 32 (λ env. (held_after misa (now_at first inputs told env)).cause)
  pub tval : IsNext m pool entry (first + 9) 32 (λ env. (held_after misa (now_at first inputs told env)).tval)
