-- What is said of the nets of a cycle, and of what is made of them: their widths and levels, that a scope has what they take, and their
-- values.
use Rattle.std.specs.Prelude.{◌≡◌, ℕ}
use Rattle.hw_pool.specs.Nodes.{PoolValue}
use Rattle.hw_pool.specs.Meaning.{Env}
use Rattle.hw_pool.specs.Scope.{Scope}
use Rattle.hw_gates.specs.Places.{Is, IsIn, value_in}
use Rattle.csr_nets.specs.declared.unit.Held.{Held}
use Rattle.csr_nets.specs.declared.unit.Lines.{Lines}
use Rattle.csr_nets.specs.declared.unit.Given.{Given}
use Rattle.csr_nets.specs.declared.unit.Told.{Told}
use Rattle.csr_nets.specs.declared.number.Hits.{Hits}
use Rattle.csr_nets.specs.declared.form.Kind.{Kind}
use Rattle.csr_nets.specs.declared.pending.Interrupt.{Interrupt}
use Rattle.csr_nets.specs.declared.unit.Outs.{Outs}
use Rattle.csr_nets.specs.declared.after.Changes.{Changes}
use Rattle.csr_nets.specs.declared.after.Nexts.{Nexts}
use Rattle.csr_nets.specs.declared.unit.Cycle.{Cycle}
use Rattle.csr_nets.specs.declared.unit.Shown.{Shown}
use Rattle.csr_nets.specs.Machine.{HeldNow, LinesNow, GivenNow, ToldNow, HitsNow, KindNow, ChangesNow, Now, done_now, held_after, irq_cause_by, kind_now, next_pc_by, old_now, take_now, trap_now, whole_by}

pub record IsHeld (p : PoolValue) (x : Held) : Type 0 where
  pub on : Is p x.on 1 0
  pub was : Is p x.was 1 0
  pub soft : Is p x.soft 1 0
  pub timer : Is p x.timer 1 0
  pub outer : Is p x.outer 1 0
  pub tvec : Is p x.tvec 30 0
  pub epc : Is p x.epc 30 0
  pub scratch : Is p x.scratch 32 0
  pub cause : Is p x.cause 32 0
  pub tval : Is p x.tval 32 0

pub record IsHeldIn (s : Scope) (p : PoolValue) (x : Held) : Type 0 where
  pub on : IsIn s p x.on
  pub was : IsIn s p x.was
  pub soft : IsIn s p x.soft
  pub timer : IsIn s p x.timer
  pub outer : IsIn s p x.outer
  pub tvec : IsIn s p x.tvec
  pub epc : IsIn s p x.epc
  pub scratch : IsIn s p x.scratch
  pub cause : IsIn s p x.cause
  pub tval : IsIn s p x.tval

abbrev pub held_in : Env → PoolValue → Held → HeldNow
held_in env p x = record { on = value_in env p x.on; was = value_in env p x.was; soft = value_in env p x.soft; timer = value_in env p x.timer; outer = value_in env p x.outer; tvec = value_in env p x.tvec; epc = value_in env p x.epc; scratch = value_in env p x.scratch; cause = value_in env p x.cause; tval = value_in env p x.tval }

pub record AreLines (p : PoolValue) (x : Lines) : Type 0 where
  pub soft : Is p x.soft 1 0
  pub timer : Is p x.timer 1 0
  pub outer : Is p x.outer 1 0

pub record AreLinesIn (s : Scope) (p : PoolValue) (x : Lines) : Type 0 where
  pub soft : IsIn s p x.soft
  pub timer : IsIn s p x.timer
  pub outer : IsIn s p x.outer

abbrev pub lines_in : Env → PoolValue → Lines → LinesNow
lines_in env p x = record { soft = value_in env p x.soft; timer = value_in env p x.timer; outer = value_in env p x.outer }

pub record IsGiven (p : PoolValue) (x : Given) : Type 0 where
  pub go : Is p x.go 1 4
  pub pc : Is p x.pc 32 4
  pub word : Is p x.word 32 4
  pub a : Is p x.a 32 4
  pub clear : Is p x.clear 1 8

pub record IsGivenIn (s : Scope) (p : PoolValue) (x : Given) : Type 0 where
  pub go : IsIn s p x.go
  pub pc : IsIn s p x.pc
  pub word : IsIn s p x.word
  pub a : IsIn s p x.a
  pub clear : IsIn s p x.clear

abbrev pub given_in : Env → PoolValue → Given → GivenNow
given_in env p x = record { go = value_in env p x.go; pc = value_in env p x.pc; word = value_in env p x.word; a = value_in env p x.a; clear = value_in env p x.clear }

pub record IsTold (p : PoolValue) (x : Told) : Type 0 where
  pub event : Is p x.event 1 7
  pub kind : Is p x.kind 2 7
  pub pc : Is p x.pc 32 7
  pub cause : Is p x.cause 32 7
  pub tval : Is p x.tval 32 7

pub record IsToldIn (s : Scope) (p : PoolValue) (x : Told) : Type 0 where
  pub event : IsIn s p x.event
  pub kind : IsIn s p x.kind
  pub pc : IsIn s p x.pc
  pub cause : IsIn s p x.cause
  pub tval : IsIn s p x.tval

abbrev pub told_in : Env → PoolValue → Told → ToldNow
told_in env p x = record { event = value_in env p x.event; kind = value_in env p x.kind; pc = value_in env p x.pc; cause = value_in env p x.cause; tval = value_in env p x.tval }

pub record AreHits (p : PoolValue) (x : Hits) : Type 0 where
  pub status : Is p x.status 1 4
  pub isa : Is p x.isa 1 4
  pub enables : Is p x.enables 1 4
  pub vector : Is p x.vector 1 4
  pub scratch : Is p x.scratch 1 4
  pub epc : Is p x.epc 1 4
  pub cause : Is p x.cause 1 4
  pub tval : Is p x.tval 1 4
  pub pending : Is p x.pending 1 4
  pub identity : Is p x.identity 1 4

pub record AreHitsIn (s : Scope) (p : PoolValue) (x : Hits) : Type 0 where
  pub status : IsIn s p x.status
  pub isa : IsIn s p x.isa
  pub enables : IsIn s p x.enables
  pub vector : IsIn s p x.vector
  pub scratch : IsIn s p x.scratch
  pub epc : IsIn s p x.epc
  pub cause : IsIn s p x.cause
  pub tval : IsIn s p x.tval
  pub pending : IsIn s p x.pending
  pub identity : IsIn s p x.identity

abbrev pub hits_in : Env → PoolValue → Hits → HitsNow
hits_in env p x = record { status = value_in env p x.status; isa = value_in env p x.isa; enables = value_in env p x.enables; vector = value_in env p x.vector; scratch = value_in env p x.scratch; epc = value_in env p x.epc; cause = value_in env p x.cause; tval = value_in env p x.tval; pending = value_in env p x.pending; identity = value_in env p x.identity }

pub record IsKind (p : PoolValue) (x : Kind) : Type 0 where
  pub access : Is p x.access 1 4
  pub returns : Is p x.returns 1 4
  pub waits : Is p x.waits 1 4
  pub writes : Is p x.writes 1 4

pub record IsKindIn (s : Scope) (p : PoolValue) (x : Kind) : Type 0 where
  pub access : IsIn s p x.access
  pub returns : IsIn s p x.returns
  pub waits : IsIn s p x.waits
  pub writes : IsIn s p x.writes

abbrev pub kind_in : Env → PoolValue → Kind → KindNow
kind_in env p x = record { access = value_in env p x.access; returns = value_in env p x.returns; waits = value_in env p x.waits; writes = value_in env p x.writes }

pub record IsInterrupt (p : PoolValue) (x : Interrupt) : Type 0 where
  pub any : Is p x.any 1 0
  pub take : Is p x.take 1 0
  pub cause : Is p x.cause 32 0
  pub base : Is p x.base 32 0

pub record IsInterruptIn (s : Scope) (p : PoolValue) (x : Interrupt) : Type 0 where
  pub any : IsIn s p x.any
  pub take : IsIn s p x.take
  pub cause : IsIn s p x.cause
  pub base : IsIn s p x.base

pub record AreOuts (p : PoolValue) (x : Outs) : Type 0 where
  pub done : Is p x.done 1 4
  pub trap : Is p x.trap 1 4
  pub next_pc : Is p x.next_pc 32 4
  pub cause : Is p x.cause 32 4
  pub fence : Is p x.fence 1 4

pub record AreOutsIn (s : Scope) (p : PoolValue) (x : Outs) : Type 0 where
  pub done : IsIn s p x.done
  pub trap : IsIn s p x.trap
  pub next_pc : IsIn s p x.next_pc
  pub cause : IsIn s p x.cause
  pub fence : IsIn s p x.fence

pub record AreChanges (p : PoolValue) (x : Changes) : Type 0 where
  pub enters : Is p x.enters 1 8
  pub leaves : Is p x.leaves 1 8
  pub writes : Is p x.writes 1 8

pub record AreChangesIn (s : Scope) (p : PoolValue) (x : Changes) : Type 0 where
  pub enters : IsIn s p x.enters
  pub leaves : IsIn s p x.leaves
  pub writes : IsIn s p x.writes

abbrev pub changes_in : Env → PoolValue → Changes → ChangesNow
changes_in env p x = record { enters = value_in env p x.enters; leaves = value_in env p x.leaves; writes = value_in env p x.writes }

pub record AreNexts (p : PoolValue) (x : Nexts) : Type 0 where
  pub on : Is p x.on 1 8
  pub was : Is p x.was 1 8
  pub soft : Is p x.soft 1 8
  pub timer : Is p x.timer 1 8
  pub outer : Is p x.outer 1 8
  pub tvec : Is p x.tvec 30 8
  pub epc : Is p x.epc 30 8
  pub scratch : Is p x.scratch 32 8
  pub cause : Is p x.cause 32 8
  pub tval : Is p x.tval 32 8

pub record AreNextsIn (s : Scope) (p : PoolValue) (x : Nexts) : Type 0 where
  pub on : IsIn s p x.on
  pub was : IsIn s p x.was
  pub soft : IsIn s p x.soft
  pub timer : IsIn s p x.timer
  pub outer : IsIn s p x.outer
  pub tvec : IsIn s p x.tvec
  pub epc : IsIn s p x.epc
  pub scratch : IsIn s p x.scratch
  pub cause : IsIn s p x.cause
  pub tval : IsIn s p x.tval

pub record IsCycle (p : PoolValue) (x : Cycle) : Type 0 where
  pub held : IsHeld p x.held
  pub lines : AreLines p x.lines
  pub given : IsGiven p x.given
  pub told : IsTold p x.told

pub record IsCycleIn (s : Scope) (p : PoolValue) (x : Cycle) : Type 0 where
  pub held : IsHeldIn s p x.held
  pub lines : AreLinesIn s p x.lines
  pub given : IsGivenIn s p x.given
  pub told : IsToldIn s p x.told

-- the cycle that the nets show
abbrev pub seen_in : Env → PoolValue → Cycle → Now
seen_in env p x = record { held = held_in env p x.held; lines = lines_in env p x.lines; given = given_in env p x.given; told = told_in env p x.told }

pub record IsShown (p : PoolValue) (x : Shown) : Type 0 where
  pub pending : IsInterrupt p x.pending
  pub outs : AreOuts p x.outs
  pub nexts : AreNexts p x.nexts
  pub value : Is p x.value 32 4

pub record IsShownIn (s : Scope) (p : PoolValue) (x : Shown) : Type 0 where
  pub pending : IsInterruptIn s p x.pending
  pub outs : AreOutsIn s p x.outs
  pub nexts : AreNextsIn s p x.nexts
  pub value : IsIn s p x.value

-- what the circuit shows of a cycle
pub record ShowsUnit (env : Env) (p : PoolValue) (misa : ℕ) (n : Now) (x : Shown) : Type 0 where
  pub take : value_in env p x.pending.take ≡ take_now misa n
  pub irq_cause : value_in env p x.pending.cause ≡ irq_cause_by n.held n.lines
  pub base : value_in env p x.pending.base ≡ whole_by n.held.tvec
  pub done : value_in env p x.outs.done ≡ done_now misa n
  pub value : value_in env p x.value ≡ old_now misa n
  pub next_pc : value_in env p x.outs.next_pc ≡ next_pc_by (kind_now misa n).returns n.held.epc n.given.pc
  pub trap : value_in env p x.outs.trap ≡ trap_now misa n
  pub cause : value_in env p x.outs.cause ≡ 2
  pub fence : value_in env p x.outs.fence ≡ 0
  pub on_next : value_in env p x.nexts.on ≡ (held_after misa n).on
  pub was_next : value_in env p x.nexts.was ≡ (held_after misa n).was
  pub soft_next : value_in env p x.nexts.soft ≡ (held_after misa n).soft
  pub timer_next : value_in env p x.nexts.timer ≡ (held_after misa n).timer
  pub outer_next : value_in env p x.nexts.outer ≡ (held_after misa n).outer
  pub tvec_next : value_in env p x.nexts.tvec ≡ (held_after misa n).tvec
  pub epc_next : value_in env p x.nexts.epc ≡ (held_after misa n).epc
  pub scratch_next : value_in env p x.nexts.scratch ≡ (held_after misa n).scratch
  pub cause_next : value_in env p x.nexts.cause ≡ (held_after misa n).cause
  pub tval_next : value_in env p x.nexts.tval ≡ (held_after misa n).tval
