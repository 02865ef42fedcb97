-- What is said of nets stays while nodes are added.
use Rattle.std.proofs.Common.{◌≡◌, ℕ}
use Rattle.hw_pool.specs.Nodes.{PoolValue}
use Rattle.hw_pool.specs.Meaning.{Env}
use Rattle.hw_pool.specs.Scope.{Scope}
use Rattle.hw_gates.specs.Places.{Step}
use Rattle.hw_gates.proofs.Steps.{kept, stays, stays_in}
use Rattle.csr_nets.specs.declared.unit.Held.{Held}
use Rattle.csr_nets.specs.declared.unit.Lines.{Lines}
use Rattle.csr_nets.specs.declared.unit.Given.{Given}
use Rattle.csr_nets.specs.declared.unit.Told.{Told}
use Rattle.csr_nets.specs.declared.number.Hits.{Hits}
use Rattle.csr_nets.specs.declared.form.Kind.{Kind}
use Rattle.csr_nets.specs.declared.pending.Interrupt.{Interrupt}
use Rattle.csr_nets.specs.declared.unit.Outs.{Outs}
use Rattle.csr_nets.specs.declared.after.Changes.{Changes}
use Rattle.csr_nets.specs.declared.unit.Cycle.{Cycle}
use Rattle.csr_nets.specs.Nets.{IsHeld, IsHeldIn, AreLines, AreLinesIn, IsGiven, IsGivenIn, IsTold, IsToldIn, AreHits, AreHitsIn, IsKind, IsKindIn, IsInterrupt, IsInterruptIn, AreOuts, AreOutsIn, AreChanges, AreChangesIn, IsCycle, IsCycleIn, seen_in, held_in, lines_in, given_in, told_in, hits_in, kind_in, changes_in}

module _ (old new : PoolValue) (n : ℕ) (step : Step old new n) where
  pub held_stays : (x : Held) → IsHeld old x → IsHeld new x
  held_stays x is = record {
    on = stays old new n x.on 1 0 step is.on;
    was = stays old new n x.was 1 0 step is.was;
    soft = stays old new n x.soft 1 0 step is.soft;
    timer = stays old new n x.timer 1 0 step is.timer;
    outer = stays old new n x.outer 1 0 step is.outer;
    tvec = stays old new n x.tvec 30 0 step is.tvec;
    epc = stays old new n x.epc 30 0 step is.epc;
    scratch = stays old new n x.scratch 32 0 step is.scratch;
    cause = stays old new n x.cause 32 0 step is.cause;
    tval = stays old new n x.tval 32 0 step is.tval;
  }

  pub held_in_stays : (s : Scope) (x : Held) → IsHeld old x → IsHeldIn s old x → IsHeldIn s new x
  held_in_stays s x is i = record {
    on = stays_in s old new n x.on step is.on.0 i.on;
    was = stays_in s old new n x.was step is.was.0 i.was;
    soft = stays_in s old new n x.soft step is.soft.0 i.soft;
    timer = stays_in s old new n x.timer step is.timer.0 i.timer;
    outer = stays_in s old new n x.outer step is.outer.0 i.outer;
    tvec = stays_in s old new n x.tvec step is.tvec.0 i.tvec;
    epc = stays_in s old new n x.epc step is.epc.0 i.epc;
    scratch = stays_in s old new n x.scratch step is.scratch.0 i.scratch;
    cause = stays_in s old new n x.cause step is.cause.0 i.cause;
    tval = stays_in s old new n x.tval step is.tval.0 i.tval;
  }

  pub held_kept : (x : Held) → IsHeld old x → (env : Env) → held_in env new x ≡ held_in env old x
  held_kept x is env = λ i. record {
    on = kept env old new n x.on step is.on.0 i;
    was = kept env old new n x.was step is.was.0 i;
    soft = kept env old new n x.soft step is.soft.0 i;
    timer = kept env old new n x.timer step is.timer.0 i;
    outer = kept env old new n x.outer step is.outer.0 i;
    tvec = kept env old new n x.tvec step is.tvec.0 i;
    epc = kept env old new n x.epc step is.epc.0 i;
    scratch = kept env old new n x.scratch step is.scratch.0 i;
    cause = kept env old new n x.cause step is.cause.0 i;
    tval = kept env old new n x.tval step is.tval.0 i;
  }

  pub lines_stays : (x : Lines) → AreLines old x → AreLines new x
  lines_stays x is = record {
    soft = stays old new n x.soft 1 0 step is.soft;
    timer = stays old new n x.timer 1 0 step is.timer;
    outer = stays old new n x.outer 1 0 step is.outer;
  }

  pub lines_in_stays : (s : Scope) (x : Lines) → AreLines old x → AreLinesIn s old x → AreLinesIn s new x
  lines_in_stays s x is i = record {
    soft = stays_in s old new n x.soft step is.soft.0 i.soft;
    timer = stays_in s old new n x.timer step is.timer.0 i.timer;
    outer = stays_in s old new n x.outer step is.outer.0 i.outer;
  }

  pub lines_kept : (x : Lines) → AreLines old x → (env : Env) → lines_in env new x ≡ lines_in env old x
  lines_kept x is env = λ i. record {
    soft = kept env old new n x.soft step is.soft.0 i;
    timer = kept env old new n x.timer step is.timer.0 i;
    outer = kept env old new n x.outer step is.outer.0 i;
  }

  pub given_stays : (x : Given) → IsGiven old x → IsGiven new x
  given_stays x is = record {
    go = stays old new n x.go 1 4 step is.go;
    pc = stays old new n x.pc 32 4 step is.pc;
    word = stays old new n x.word 32 4 step is.word;
    a = stays old new n x.a 32 4 step is.a;
    clear = stays old new n x.clear 1 8 step is.clear;
  }

  pub given_in_stays : (s : Scope) (x : Given) → IsGiven old x → IsGivenIn s old x → IsGivenIn s new x
  given_in_stays s x is i = record {
    go = stays_in s old new n x.go step is.go.0 i.go;
    pc = stays_in s old new n x.pc step is.pc.0 i.pc;
    word = stays_in s old new n x.word step is.word.0 i.word;
    a = stays_in s old new n x.a step is.a.0 i.a;
    clear = stays_in s old new n x.clear step is.clear.0 i.clear;
  }

  pub given_kept : (x : Given) → IsGiven old x → (env : Env) → given_in env new x ≡ given_in env old x
  given_kept x is env = λ i. record {
    go = kept env old new n x.go step is.go.0 i;
    pc = kept env old new n x.pc step is.pc.0 i;
    word = kept env old new n x.word step is.word.0 i;
    a = kept env old new n x.a step is.a.0 i;
    clear = kept env old new n x.clear step is.clear.0 i;
  }

  pub told_stays : (x : Told) → IsTold old x → IsTold new x
  told_stays x is = record {
    event = stays old new n x.event 1 7 step is.event;
    kind = stays old new n x.kind 2 7 step is.kind;
    pc = stays old new n x.pc 32 7 step is.pc;
    cause = stays old new n x.cause 32 7 step is.cause;
    tval = stays old new n x.tval 32 7 step is.tval;
  }

  pub told_in_stays : (s : Scope) (x : Told) → IsTold old x → IsToldIn s old x → IsToldIn s new x
  told_in_stays s x is i = record {
    event = stays_in s old new n x.event step is.event.0 i.event;
    kind = stays_in s old new n x.kind step is.kind.0 i.kind;
    pc = stays_in s old new n x.pc step is.pc.0 i.pc;
    cause = stays_in s old new n x.cause step is.cause.0 i.cause;
    tval = stays_in s old new n x.tval step is.tval.0 i.tval;
  }

  pub told_kept : (x : Told) → IsTold old x → (env : Env) → told_in env new x ≡ told_in env old x
  told_kept x is env = λ i. record {
    event = kept env old new n x.event step is.event.0 i;
    kind = kept env old new n x.kind step is.kind.0 i;
    pc = kept env old new n x.pc step is.pc.0 i;
    cause = kept env old new n x.cause step is.cause.0 i;
    tval = kept env old new n x.tval step is.tval.0 i;
  }

  pub hits_stays : (x : Hits) → AreHits old x → AreHits new x
  hits_stays x is = record {
    status = stays old new n x.status 1 4 step is.status;
    isa = stays old new n x.isa 1 4 step is.isa;
    enables = stays old new n x.enables 1 4 step is.enables;
    vector = stays old new n x.vector 1 4 step is.vector;
    scratch = stays old new n x.scratch 1 4 step is.scratch;
    epc = stays old new n x.epc 1 4 step is.epc;
    cause = stays old new n x.cause 1 4 step is.cause;
    tval = stays old new n x.tval 1 4 step is.tval;
    pending = stays old new n x.pending 1 4 step is.pending;
    identity = stays old new n x.identity 1 4 step is.identity;
  }

  pub hits_in_stays : (s : Scope) (x : Hits) → AreHits old x → AreHitsIn s old x → AreHitsIn s new x
  hits_in_stays s x is i = record {
    status = stays_in s old new n x.status step is.status.0 i.status;
    isa = stays_in s old new n x.isa step is.isa.0 i.isa;
    enables = stays_in s old new n x.enables step is.enables.0 i.enables;
    vector = stays_in s old new n x.vector step is.vector.0 i.vector;
    scratch = stays_in s old new n x.scratch step is.scratch.0 i.scratch;
    epc = stays_in s old new n x.epc step is.epc.0 i.epc;
    cause = stays_in s old new n x.cause step is.cause.0 i.cause;
    tval = stays_in s old new n x.tval step is.tval.0 i.tval;
    pending = stays_in s old new n x.pending step is.pending.0 i.pending;
    identity = stays_in s old new n x.identity step is.identity.0 i.identity;
  }

  pub hits_kept : (x : Hits) → AreHits old x → (env : Env) → hits_in env new x ≡ hits_in env old x
  hits_kept x is env = λ i. record {
    status = kept env old new n x.status step is.status.0 i;
    isa = kept env old new n x.isa step is.isa.0 i;
    enables = kept env old new n x.enables step is.enables.0 i;
    vector = kept env old new n x.vector step is.vector.0 i;
    scratch = kept env old new n x.scratch step is.scratch.0 i;
    epc = kept env old new n x.epc step is.epc.0 i;
    cause = kept env old new n x.cause step is.cause.0 i;
    tval = kept env old new n x.tval step is.tval.0 i;
    pending = kept env old new n x.pending step is.pending.0 i;
    identity = kept env old new n x.identity step is.identity.0 i;
  }

  pub kind_stays : (x : Kind) → IsKind old x → IsKind new x
  kind_stays x is = record {
    access = stays old new n x.access 1 4 step is.access;
    returns = stays old new n x.returns 1 4 step is.returns;
    waits = stays old new n x.waits 1 4 step is.waits;
    writes = stays old new n x.writes 1 4 step is.writes;
  }

  pub kind_in_stays : (s : Scope) (x : Kind) → IsKind old x → IsKindIn s old x → IsKindIn s new x
  kind_in_stays s x is i = record {
    access = stays_in s old new n x.access step is.access.0 i.access;
    returns = stays_in s old new n x.returns step is.returns.0 i.returns;
    waits = stays_in s old new n x.waits step is.waits.0 i.waits;
    writes = stays_in s old new n x.writes step is.writes.0 i.writes;
  }

  pub kind_kept : (x : Kind) → IsKind old x → (env : Env) → kind_in env new x ≡ kind_in env old x
  kind_kept x is env = λ i. record {
    access = kept env old new n x.access step is.access.0 i;
    returns = kept env old new n x.returns step is.returns.0 i;
    waits = kept env old new n x.waits step is.waits.0 i;
    writes = kept env old new n x.writes step is.writes.0 i;
  }

  pub interrupt_stays : (x : Interrupt) → IsInterrupt old x → IsInterrupt new x
  interrupt_stays x is = record {
    any = stays old new n x.any 1 0 step is.any;
    take = stays old new n x.take 1 0 step is.take;
    cause = stays old new n x.cause 32 0 step is.cause;
    base = stays old new n x.base 32 0 step is.base;
  }

  pub interrupt_in_stays : (s : Scope) (x : Interrupt) → IsInterrupt old x → IsInterruptIn s old x → IsInterruptIn s new x
  interrupt_in_stays s x is i = record {
    any = stays_in s old new n x.any step is.any.0 i.any;
    take = stays_in s old new n x.take step is.take.0 i.take;
    cause = stays_in s old new n x.cause step is.cause.0 i.cause;
    base = stays_in s old new n x.base step is.base.0 i.base;
  }

  pub outs_stays : (x : Outs) → AreOuts old x → AreOuts new x
  outs_stays x is = record {
    done = stays old new n x.done 1 4 step is.done;
    trap = stays old new n x.trap 1 4 step is.trap;
    next_pc = stays old new n x.next_pc 32 4 step is.next_pc;
    cause = stays old new n x.cause 32 4 step is.cause;
    fence = stays old new n x.fence 1 4 step is.fence;
  }

  pub outs_in_stays : (s : Scope) (x : Outs) → AreOuts old x → AreOutsIn s old x → AreOutsIn s new x
  outs_in_stays s x is i = record {
    done = stays_in s old new n x.done step is.done.0 i.done;
    trap = stays_in s old new n x.trap step is.trap.0 i.trap;
    next_pc = stays_in s old new n x.next_pc step is.next_pc.0 i.next_pc;
    cause = stays_in s old new n x.cause step is.cause.0 i.cause;
    fence = stays_in s old new n x.fence step is.fence.0 i.fence;
  }

  pub changes_stays : (x : Changes) → AreChanges old x → AreChanges new x
  changes_stays x is = record {
    enters = stays old new n x.enters 1 8 step is.enters;
    leaves = stays old new n x.leaves 1 8 step is.leaves;
    writes = stays old new n x.writes 1 8 step is.writes;
  }

  pub changes_in_stays : (s : Scope) (x : Changes) → AreChanges old x → AreChangesIn s old x → AreChangesIn s new x
  changes_in_stays s x is i = record {
    enters = stays_in s old new n x.enters step is.enters.0 i.enters;
    leaves = stays_in s old new n x.leaves step is.leaves.0 i.leaves;
    writes = stays_in s old new n x.writes step is.writes.0 i.writes;
  }

  pub changes_kept : (x : Changes) → AreChanges old x → (env : Env) → changes_in env new x ≡ changes_in env old x
  changes_kept x is env = λ i. record {
    enters = kept env old new n x.enters step is.enters.0 i;
    leaves = kept env old new n x.leaves step is.leaves.0 i;
    writes = kept env old new n x.writes step is.writes.0 i;
  }

  pub cycle_stays : (x : Cycle) → IsCycle old x → IsCycle new x
  cycle_stays x is = record { held = held_stays x.held is.held; lines = lines_stays x.lines is.lines; given = given_stays x.given is.given; told = told_stays x.told is.told }

  pub cycle_in_stays : (s : Scope) (x : Cycle) → IsCycle old x → IsCycleIn s old x → IsCycleIn s new x
  cycle_in_stays s x is i = record { held = held_in_stays s x.held is.held i.held; lines = lines_in_stays s x.lines is.lines i.lines; given = given_in_stays s x.given is.given i.given; told = told_in_stays s x.told is.told i.told }

  -- the cycle that is seen stays
  pub seen_stays : (x : Cycle) → IsCycle old x → (env : Env) → seen_in env new x ≡ seen_in env old x
  seen_stays x is env = λ i. record { held = held_kept x.held is.held env i; lines = lines_kept x.lines is.lines env i; given = given_kept x.given is.given env i; told = told_kept x.told is.told env i }
