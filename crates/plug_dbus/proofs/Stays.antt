-- What is said of nets stays while nodes are added.
use Rattle.std.proofs.Common.{◌≡◌, ℕ}
use Rattle.hw_pool.specs.Nodes.{PoolValue}
use Rattle.hw_pool.specs.Meaning.{Env}
use Rattle.hw_pool.specs.Scope.{Scope}
use Rattle.hw_gates.specs.Places.{Step}
use Rattle.hw_gates.proofs.Steps.{kept, stays, stays_in}
use Rattle.plug_dbus.specs.declared.unit.Held.{Held}
use Rattle.plug_dbus.specs.declared.unit.Cycle.{Cycle}
use Rattle.plug_dbus.specs.declared.unit.Access.{Access}
use Rattle.plug_dbus.specs.Nets.{IsHeld, IsHeldIn, IsCycle, IsCycleIn, IsAccess, IsAccessIn, seen_in}

module _ (old new : PoolValue) (n : ℕ) (step : Step old new n) where
  pub held_stays : (r : Held) → IsHeld old r → IsHeld new r
  held_stays r is = record {
    given = stays old new n r.given 1 0 step is.given;
    owed = stays old new n r.owed 1 0 step is.owed;
    address = stays old new n r.address 32 0 step is.address;
    writes = stays old new n r.writes 1 0 step is.writes;
    payload = stays old new n r.payload 32 0 step is.payload;
    mask = stays old new n r.mask 4 0 step is.mask;
  }

  pub cycle_stays : (c : Cycle) → IsCycle old c → IsCycle new c
  cycle_stays c is =
      let g = is.given in
      let h = is.heard in
      record {
        held = held_stays c.held is.held;
        given = record {
          go = stays old new n c.given.go 1 4 step g.go;
          pc = stays old new n c.given.pc 32 4 step g.pc;
          word = stays old new n c.given.word 32 4 step g.word;
          a = stays old new n c.given.a 32 4 step g.a;
          b = stays old new n c.given.b 32 4 step g.b;
          clear = stays old new n c.given.clear 1 8 step g.clear;
        };
        heard = record {
          ready = stays old new n c.heard.ready 1 0 step h.ready;
          answered = stays old new n c.heard.answered 1 0 step h.answered;
          failed = stays old new n c.heard.failed 1 0 step h.failed;
          reply = stays old new n c.heard.reply 32 0 step h.reply;
        };
      }

  pub held_in_stays : (s : Scope) (r : Held) → IsHeld old r → IsHeldIn s old r → IsHeldIn s new r
  held_in_stays s r is h = record {
    given = stays_in s old new n r.given step is.given.0 h.given;
    owed = stays_in s old new n r.owed step is.owed.0 h.owed;
    address = stays_in s old new n r.address step is.address.0 h.address;
    writes = stays_in s old new n r.writes step is.writes.0 h.writes;
    payload = stays_in s old new n r.payload step is.payload.0 h.payload;
    mask = stays_in s old new n r.mask step is.mask.0 h.mask;
  }

  pub cycle_in_stays : (s : Scope) (c : Cycle) → IsCycle old c → IsCycleIn s old c → IsCycleIn s new c
  cycle_in_stays s c is i =
      let g = is.given in
      let h = is.heard in
      record {
        held = held_in_stays s c.held is.held i.held;
        given = record {
          go = stays_in s old new n c.given.go step g.go.0 i.given.go;
          pc = stays_in s old new n c.given.pc step g.pc.0 i.given.pc;
          word = stays_in s old new n c.given.word step g.word.0 i.given.word;
          a = stays_in s old new n c.given.a step g.a.0 i.given.a;
          b = stays_in s old new n c.given.b step g.b.0 i.given.b;
          clear = stays_in s old new n c.given.clear step g.clear.0 i.given.clear;
        };
        heard = record {
          ready = stays_in s old new n c.heard.ready step h.ready.0 i.heard.ready;
          answered = stays_in s old new n c.heard.answered step h.answered.0 i.heard.answered;
          failed = stays_in s old new n c.heard.failed step h.failed.0 i.heard.failed;
          reply = stays_in s old new n c.heard.reply step h.reply.0 i.heard.reply;
        };
      }

  pub access_stays : (x : Access) → IsAccess old x → IsAccess new x
  access_stays x is = record {
    address = stays old new n x.address 32 4 step is.address;
    misaligned = stays old new n x.misaligned 1 4 step is.misaligned;
    needs_none = stays old new n x.needs_none 1 4 step is.needs_none;
  }

  pub access_in_stays : (s : Scope) (x : Access) → IsAccess old x → IsAccessIn s old x → IsAccessIn s new x
  access_in_stays s x is i = record {
    address = stays_in s old new n x.address step is.address.0 i.address;
    misaligned = stays_in s old new n x.misaligned step is.misaligned.0 i.misaligned;
    needs_none = stays_in s old new n x.needs_none step is.needs_none.0 i.needs_none;
  }

  -- the cycle that is seen stays
  pub seen_stays : (c : Cycle) → IsCycle old c → (env : Env) → seen_in env new c ≡ seen_in env old c
  seen_stays c is env = λ i. record {
    given = kept env old new n c.held.given step is.held.given.0 i;
    owed = kept env old new n c.held.owed step is.held.owed.0 i;
    address = kept env old new n c.held.address step is.held.address.0 i;
    writes = kept env old new n c.held.writes step is.held.writes.0 i;
    payload = kept env old new n c.held.payload step is.held.payload.0 i;
    mask = kept env old new n c.held.mask step is.held.mask.0 i;
    go = kept env old new n c.given.go step is.given.go.0 i;
    pc = kept env old new n c.given.pc step is.given.pc.0 i;
    word = kept env old new n c.given.word step is.given.word.0 i;
    a = kept env old new n c.given.a step is.given.a.0 i;
    b = kept env old new n c.given.b step is.given.b.0 i;
    clear = kept env old new n c.given.clear step is.given.clear.0 i;
    ready = kept env old new n c.heard.ready step is.heard.ready.0 i;
    answered = kept env old new n c.heard.answered step is.heard.answered.0 i;
    failed = kept env old new n c.heard.failed step is.heard.failed.0 i;
    reply = kept env old new n c.heard.reply step is.heard.reply.0 i;
  }
