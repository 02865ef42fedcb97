-- What happened before a cycle. Cycle 0 is the cycle of reset.
use Rattle.std.specs.Prelude.{ℕ, zero, suc, Bool, cond, ltb, ◌&&◌}
use Rattle.core_ports.specs.Trace.{Bus}
use Rattle.bus_law.specs.Protocol.{is_accepted}
use Rattle.bus_law.specs.Prompt.{given_from}

-- the last cycle before cycle t that p names; 0 where it names none
unfoldable pub last : (p : ℕ → Bool) → (t : ℕ) → ℕ
last p zero = 0
last p (suc t) = cond (p t) t (last p t)

-- how many cycles after cycle r and before cycle t p names
unfoldable pub count_since : (p : ℕ → Bool) → (r t : ℕ) → ℕ
count_since p r zero = 0
count_since p r (suc t) = cond (p t && ltb r t) (suc (count_since p r t)) (count_since p r t)

-- how many commands were accepted before cycle t, of those that were first given after cycle r
unfoldable pub accepted_since : Bus → (r t : ℕ) → ℕ
accepted_since b r zero = 0
accepted_since b r (suc t) = cond (is_accepted b t && ltb r (given_from b t)) (suc (accepted_since b r t)) (accepted_since b r t)
