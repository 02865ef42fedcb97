-- One bus that answers after delays, cycle by cycle.
use Rattle.std.specs.Prelude.{ℕ, ◌+◌, ◌-◌, ◌%◌, Bool, false, cond, eqb, List, length, get_or, Option, Some, None}
use Rattle.bus_law.specs.declared.side.Answer.{Answer}
use Rattle.bus_law.specs.declared.side.Turn.{Turn}
use Rattle.bus_law.specs.declared.side.Turn.TheVariants.{Reset, Idle, Owed}
use Rattle.bus_law.specs.declared.side.Side.{Side}

-- a command that is given is accepted
abbrev pub is_ready : Turn → Bool
is_ready Reset = false
is_ready (Idle left) = eqb left 0
is_ready (Owed left answer) = false

-- the response that comes
abbrev pub response_of : Turn → Option Answer
response_of Reset = None
response_of (Idle left) = None
response_of (Owed left answer) = cond (eqb left 0) (Some answer) None

-- the delay of the command at a place of the list
abbrev pub delay_at : List ℕ → ℕ → ℕ
delay_at delays place = get_or delays place 0

abbrev pub place_after_last : List ℕ → ℕ → ℕ
place_after_last delays place = (place + 1) % length delays

-- The turn after a cycle, for the delay of this command and the delay of the next. A command waits only in the cycles
-- in which it is given.
abbrev pub turn_after : (delay next : ℕ) → Turn → (given : Bool) → Answer → Turn
turn_after delay next Reset given answer = Idle delay
turn_after delay next (Idle left) given answer = cond given (cond (eqb left 0) (Owed delay answer) (Idle (left - 1))) (Idle left)
turn_after delay next (Owed left owed) given answer = cond (eqb left 0) (Idle next) (Owed (left - 1) owed)

-- the next command comes where the response of this one came
abbrev pub place_after : (next place : ℕ) → Turn → ℕ
place_after next place Reset = place
place_after next place (Idle left) = place
place_after next place (Owed left owed) = cond (eqb left 0) next place

abbrev pub side_after : List ℕ → Side → (given : Bool) → Answer → Side
side_after delays side given answer = record {
  turn = turn_after (delay_at delays side.place) (delay_at delays (place_after_last delays side.place)) side.turn given answer;
  place = place_after (place_after_last delays side.place) side.place side.turn;
}

-- in cycle 0, before the first command
abbrev pub side_at_start : Side
side_at_start = record { turn = Reset; place = 0 }

-- error and data are 0 where no response comes
abbrev pub error_of : Option Answer → Bool
error_of None = false
error_of (Some answer) = answer.error

abbrev pub payload_of : Option Answer → ℕ
payload_of None = 0
payload_of (Some answer) = answer.payload
