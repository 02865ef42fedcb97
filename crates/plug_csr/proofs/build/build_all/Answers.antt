use Rattle.std.proofs.Common.{◌≡◌, ◌∙◌, ℕ, ◌+◌, ap, sym, subst}
use Rattle.hw_pool.specs.Meaning.{Env}
use Rattle.hw_pool.specs.Scope.{Scope}
use Rattle.hw_gates.specs.Places.{Is, IsIn}
use Rattle.hw_gates.proofs.Steps.{adds_of, kept, stays, stays_in, ◌▸◌}
use Rattle.hw_module.specs.Scope.{scope_of}
use Rattle.hw_module.proofs.Drivers.{drivers_stay}
use Rattle.plug_kit.specs.Made.{exec_list, system_list}
use Rattle.plug_kit.proofs.Gates.{gate_output}
use Rattle.csr_nets.specs.Machine.{Now, done_now, held_after, irq_cause_by, kind_now, next_pc_by, old_now, take_now, trap_now, whole_by}
use Rattle.csr_nets.specs.Nets.{IsShownIn, ShowsUnit, seen_in}
use Rattle.plug_csr.specs.Cycle.{now_at}
use Rattle.plug_csr.proofs.build.build_all.Goals as goal

-- ---- what the calls need

pub move_regs-requires-clause-scope : goal.move_regs-requires-clause-scope
move_regs-requires-clause-scope c = (c.unit_nets-x.ensures.scope (scope_of c.args.b.now.design) c.read_cycle-c.ensures.scope).nexts

pub move_regs-requires-clause-drivers : goal.move_regs-requires-clause-drivers
move_regs-requires-clause-drivers c =
    drivers_stay c.args.b.now.design c.args.pool.now c.unit_nets-x.new.pool (23 + 235) (adds_of _ _ _ (c.read_cycle-c.ensures.step ▸ c.unit_nets-x.ensures.step)) c.requires.drivers

-- ---- what is built

module _ (c : goal.After-result-10-1) where
  abbrev now : Env → Now
  now env = now_at c.args.first (exec_list c.args.w) (system_list c.args.y) env

  shown : (env : Env) → ShowsUnit env c.unit_nets-x.new.pool c.args.misa (seen_in env c.read_cycle-c.new.pool c.read_cycle-c.result) c.unit_nets-x.result
  shown env = c.unit_nets-x.ensures.shows env

  -- the cycle that is seen is the one of the registers and inputs
  as-now : (env : Env) (x : ℕ) (f : Now → ℕ) → x ≡ f (seen_in env c.read_cycle-c.new.pool c.read_cycle-c.result) → x ≡ f (now env)
  as-now env x f h = h ∙ ap f (c.read_cycle-c.ensures.seen env)

  in-scope : IsShownIn (scope_of c.move_regs.new.b.design) c.unit_nets-x.new.pool c.unit_nets-x.result
  in-scope =
      subst (λ (s : Scope). IsShownIn s c.unit_nets-x.new.pool c.unit_nets-x.result) (sym c.move_regs.ensures.moves.scope)
      (c.unit_nets-x.ensures.scope (scope_of c.args.b.now.design) c.read_cycle-c.ensures.scope)

  word-net : Is c.unit_nets-x.new.pool c.read_cycle-c.result.given.word 32 4
  word-net = stays c.read_cycle-c.new.pool c.unit_nets-x.new.pool 235 c.read_cycle-c.result.given.word 32 4 c.unit_nets-x.ensures.step c.read_cycle-c.ensures.nets.given.word

  word-in : IsIn (scope_of c.move_regs.new.b.design) c.unit_nets-x.new.pool c.read_cycle-c.result.given.word
  word-in =
      subst (λ (s : Scope). IsIn s c.unit_nets-x.new.pool c.read_cycle-c.result.given.word) (sym c.move_regs.ensures.moves.scope)
      (stays_in (scope_of c.args.b.now.design) c.read_cycle-c.new.pool c.unit_nets-x.new.pool 235 c.read_cycle-c.result.given.word c.unit_nets-x.ensures.step
      c.read_cycle-c.ensures.nets.given.word.0 c.read_cycle-c.ensures.scope.given.word)

pub returns-clause-drivers : goal.returns-clause-drivers
returns-clause-drivers c = c.move_regs.ensures.drivers

pub returns-clause-step : goal.returns-clause-step
returns-clause-step c = c.read_cycle-c.ensures.step ▸ c.unit_nets-x.ensures.step

pub returns-clause-outputs : goal.returns-clause-outputs
returns-clause-outputs c =
    let d = c.move_regs.new.b.design in
    let p = c.unit_nets-x.new.pool in
    let x = c.unit_nets-x.result in
    let n = c.unit_nets-x.ensures.nets in
    let i = in-scope c in (
      gate_output d p 1 4 x.outs.done n.outs.done i.outs.done,
      (
        gate_output d p 32 4 x.value n.value i.value,
        (
          gate_output d p 32 4 x.outs.next_pc n.outs.next_pc i.outs.next_pc,
          (
            gate_output d p 1 4 x.outs.trap n.outs.trap i.outs.trap,
            (
              gate_output d p 32 4 x.outs.cause n.outs.cause i.outs.cause,
              (gate_output d p 32 4 c.read_cycle-c.result.given.word (word-net c) (word-in c), (gate_output d p 1 4 x.outs.fence n.outs.fence i.outs.fence, tt)),
            ),
          ),
        ),
      ),
    )

pub returns-clause-system_outputs : goal.returns-clause-system_outputs
returns-clause-system_outputs c =
    let d = c.move_regs.new.b.design in
    let p = c.unit_nets-x.new.pool in
    let x = c.unit_nets-x.result in
    let n = c.unit_nets-x.ensures.nets in
    let i = in-scope c in (
      gate_output d p 1 0 x.pending.take n.pending.take i.pending.take,
      (gate_output d p 32 0 x.pending.cause n.pending.cause i.pending.cause, (gate_output d p 32 0 x.pending.base n.pending.base i.pending.base, tt)),
    )

pub returns-clause-shows : goal.returns-clause-shows
returns-clause-shows c =
    let m : ℕ = c.args.misa in
    record {
      done = λ env. as-now c env _ (λ n. done_now m n) (shown c env).done;
      result = λ env. as-now c env _ (λ n. old_now m n) (shown c env).value;
      next_pc = λ env. as-now c env _ (λ n. next_pc_by (kind_now m n).returns n.held.epc n.given.pc) (shown c env).next_pc;
      trap = λ env. as-now c env _ (λ n. trap_now m n) (shown c env).trap;
      cause = λ env. (shown c env).cause;
      tval = λ env. as-now c env _ (λ n. n.given.word)
          (kept env c.read_cycle-c.new.pool c.unit_nets-x.new.pool 235 c.read_cycle-c.result.given.word c.unit_nets-x.ensures.step c.read_cycle-c.ensures.nets.given.word.0);
      fence = λ env. (shown c env).fence;
      take_irq = λ env. as-now c env _ (λ n. take_now m n) (shown c env).take;
      irq_cause = λ env. as-now c env _ (λ n. irq_cause_by n.held n.lines) (shown c env).irq_cause;
      base = λ env. as-now c env _ (λ n. whole_by n.held.tvec) (shown c env).base;
    }

pub returns-clause-nexts : goal.returns-clause-nexts
returns-clause-nexts c =
    let m : ℕ = c.args.misa in
    let x = c.unit_nets-x.result.nexts in
    let moved = c.move_regs.ensures.moved in
    record {
      on = record { net = x.on; row = moved.on; value_is = λ env. as-now c env _ (λ n. (held_after m n).on) (shown c env).on_next };
      was = record { net = x.was; row = moved.was; value_is = λ env. as-now c env _ (λ n. (held_after m n).was) (shown c env).was_next };
      soft = record { net = x.soft; row = moved.soft; value_is = λ env. as-now c env _ (λ n. (held_after m n).soft) (shown c env).soft_next };
      timer = record { net = x.timer; row = moved.timer; value_is = λ env. as-now c env _ (λ n. (held_after m n).timer) (shown c env).timer_next };
      outer = record { net = x.outer; row = moved.outer; value_is = λ env. as-now c env _ (λ n. (held_after m n).outer) (shown c env).outer_next };
      tvec = record { net = x.tvec; row = moved.tvec; value_is = λ env. as-now c env _ (λ n. (held_after m n).tvec) (shown c env).tvec_next };
      epc = record { net = x.epc; row = moved.epc; value_is = λ env. as-now c env _ (λ n. (held_after m n).epc) (shown c env).epc_next };
      scratch = record { net = x.scratch; row = moved.scratch; value_is = λ env. as-now c env _ (λ n. (held_after m n).scratch) (shown c env).scratch_next };
      cause = record { net = x.cause; row = moved.cause; value_is = λ env. as-now c env _ (λ n. (held_after m n).cause) (shown c env).cause_next };
      tval = record { net = x.tval; row = moved.tval; value_is = λ env. as-now c env _ (λ n. (held_after m n).tval) (shown c env).tval_next };
    }
