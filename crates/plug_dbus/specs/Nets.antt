-- What is said of the nets of a cycle, of what is made of it, and of the registers' next values.
use Rattle.std.specs.Prelude.{ℕ, ◌+◌, List, get_or}
use Rattle.hw_pool.specs.Nodes.{PoolValue}
use Rattle.hw_pool.specs.Meaning.{Env}
use Rattle.hw_pool.specs.Scope.{Scope}
use Rattle.hw_gates.specs.Places.{Is, IsIn, value_in}
use Rattle.plug_dbus.specs.declared.unit.Held.{Held}
use Rattle.plug_dbus.specs.declared.unit.Given.{Given}
use Rattle.plug_dbus.specs.declared.unit.Heard.{Heard}
use Rattle.plug_dbus.specs.declared.unit.Cycle.{Cycle}
use Rattle.plug_dbus.specs.declared.unit.Access.{Access}
use Rattle.plug_dbus.specs.declared.unit.Outs.{Outs}
use Rattle.plug_dbus.specs.declared.unit.Nexts.{Nexts}
use Rattle.plug_dbus.specs.Machine.{Now}

-- ---- what is read

-- the nets have their widths, and are of level 4 at most but for `clear`
pub record IsHeld (p : PoolValue) (r : Held) : Type 0 where
  pub given : Is p r.given 1 0
  pub owed : Is p r.owed 1 0
  pub address : Is p r.address 32 0
  pub writes : Is p r.writes 1 0
  pub payload : Is p r.payload 32 0
  pub mask : Is p r.mask 4 0

pub record IsGiven (p : PoolValue) (g : Given) : Type 0 where
  pub go : Is p g.go 1 4
  pub pc : Is p g.pc 32 4
  pub word : Is p g.word 32 4
  pub a : Is p g.a 32 4
  pub b : Is p g.b 32 4
  pub clear : Is p g.clear 1 8

pub record IsHeard (p : PoolValue) (h : Heard) : Type 0 where
  pub ready : Is p h.ready 1 0
  pub answered : Is p h.answered 1 0
  pub failed : Is p h.failed 1 0
  pub reply : Is p h.reply 32 0

pub record IsCycle (p : PoolValue) (c : Cycle) : Type 0 where
  pub held : IsHeld p c.held
  pub given : IsGiven p c.given
  pub heard : IsHeard p c.heard

-- what they take from outside is in a scope
pub record IsHeldIn (s : Scope) (p : PoolValue) (r : Held) : Type 0 where
  pub given : IsIn s p r.given
  pub owed : IsIn s p r.owed
  pub address : IsIn s p r.address
  pub writes : IsIn s p r.writes
  pub payload : IsIn s p r.payload
  pub mask : IsIn s p r.mask

pub record IsGivenIn (s : Scope) (p : PoolValue) (g : Given) : Type 0 where
  pub go : IsIn s p g.go
  pub pc : IsIn s p g.pc
  pub word : IsIn s p g.word
  pub a : IsIn s p g.a
  pub b : IsIn s p g.b
  pub clear : IsIn s p g.clear

pub record IsHeardIn (s : Scope) (p : PoolValue) (h : Heard) : Type 0 where
  pub ready : IsIn s p h.ready
  pub answered : IsIn s p h.answered
  pub failed : IsIn s p h.failed
  pub reply : IsIn s p h.reply

pub record IsCycleIn (s : Scope) (p : PoolValue) (c : Cycle) : Type 0 where
  pub held : IsHeldIn s p c.held
  pub given : IsGivenIn s p c.given
  pub heard : IsHeardIn s p c.heard

-- the cycle that the nets show
abbrev pub seen_in : Env → PoolValue → Cycle → Now
seen_in env p c = record {
  given = value_in env p c.held.given;
  owed = value_in env p c.held.owed;
  address = value_in env p c.held.address;
  writes = value_in env p c.held.writes;
  payload = value_in env p c.held.payload;
  mask = value_in env p c.held.mask;
  go = value_in env p c.given.go;
  pc = value_in env p c.given.pc;
  word = value_in env p c.given.word;
  a = value_in env p c.given.a;
  b = value_in env p c.given.b;
  clear = value_in env p c.given.clear;
  ready = value_in env p c.heard.ready;
  answered = value_in env p c.heard.answered;
  failed = value_in env p c.heard.failed;
  reply = value_in env p c.heard.reply;
}

-- The cycle of a part whose registers are numbered from `first` on, with these inputs of Exec: go, row, pc, word, a, b and clear. The
-- bus's signals are inputs 9 and 14 to 16 of the core.
abbrev pub now_at : (first : ℕ) → (inputs : List ℕ) → Env → Now
now_at first inputs env = record {
  given = env.regs first;
  owed = env.regs (first + 1);
  address = env.regs (first + 2);
  writes = env.regs (first + 3);
  payload = env.regs (first + 4);
  mask = env.regs (first + 5);
  go = env.wires (get_or inputs 0 0);
  pc = env.wires (get_or inputs 2 0);
  word = env.wires (get_or inputs 3 0);
  a = env.wires (get_or inputs 4 0);
  b = env.wires (get_or inputs 5 0);
  clear = env.wires (get_or inputs 6 0);
  ready = env.inputs 9;
  answered = env.inputs 14;
  failed = env.inputs 15;
  reply = env.inputs 16;
}

-- ---- what is made of it

pub record IsAccess (p : PoolValue) (x : Access) : Type 0 where
  pub address : Is p x.address 32 4
  pub misaligned : Is p x.misaligned 1 4
  pub needs_none : Is p x.needs_none 1 4

pub record IsAccessIn (s : Scope) (p : PoolValue) (x : Access) : Type 0 where
  pub address : IsIn s p x.address
  pub misaligned : IsIn s p x.misaligned
  pub needs_none : IsIn s p x.needs_none

pub record AreOuts (p : PoolValue) (o : Outs) : Type 0 where
  pub done : Is p o.done 1 4
  pub value : Is p o.value 32 4
  pub next_pc : Is p o.next_pc 32 4
  pub trap : Is p o.trap 1 4
  pub cause : Is p o.cause 32 4
  pub fence : Is p o.fence 1 4

pub record AreOutsIn (s : Scope) (p : PoolValue) (o : Outs) : Type 0 where
  pub done : IsIn s p o.done
  pub value : IsIn s p o.value
  pub next_pc : IsIn s p o.next_pc
  pub trap : IsIn s p o.trap
  pub cause : IsIn s p o.cause
  pub fence : IsIn s p o.fence

pub record AreNexts (p : PoolValue) (n : Nexts) : Type 0 where
  pub given : Is p n.given 1 8
  pub owed : Is p n.owed 1 8
  pub address : Is p n.address 32 8
  pub writes : Is p n.writes 1 8
  pub payload : Is p n.payload 32 8
  pub mask : Is p n.mask 4 8

pub record AreNextsIn (s : Scope) (p : PoolValue) (n : Nexts) : Type 0 where
  pub given : IsIn s p n.given
  pub owed : IsIn s p n.owed
  pub address : IsIn s p n.address
  pub writes : IsIn s p n.writes
  pub payload : IsIn s p n.payload
  pub mask : IsIn s p n.mask
