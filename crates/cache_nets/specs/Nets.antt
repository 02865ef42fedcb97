-- What is said of the nets of a cycle, and of what is made of it.
use Rattle.std.specs.Prelude.{ℕ, ◌+◌, ◌-◌}
use Rattle.hw_pool.specs.Nodes.{PoolValue}
use Rattle.hw_pool.specs.Meaning.{Env}
use Rattle.hw_pool.specs.Scope.{Scope}
use Rattle.hw_gates.specs.Places.{Is, IsIn, value_in}
use Rattle.cache_nets.specs.declared.shapes.Sizes.{Sizes}
use Rattle.cache_nets.specs.declared.shapes.Held.{Held}
use Rattle.cache_nets.specs.declared.shapes.Coming.{Coming}
use Rattle.cache_nets.specs.declared.shapes.Cycle.{Cycle}
use Rattle.cache_nets.specs.declared.shapes.Search.{Search}
use Rattle.cache_nets.specs.declared.shapes.Fill.{Fill}
use Rattle.cache_nets.specs.declared.shapes.Four.{Four}
use Rattle.cache_nets.specs.declared.shapes.Write.{Write}
use Rattle.cache_nets.specs.declared.shapes.Nexts.{Nexts}
use Rattle.cache_nets.specs.Machine.{Now, SearchNow, FillNow, FourNow, WriteNow}

-- ---- what is read

pub record IsHeld (z : Sizes) (p : PoolValue) (h : Held) : Type 0 where
  pub pc : Is p h.pc 32 0
  pub walk : Is p h.walk (z.index + 1) 0
  pub given : Is p h.given 1 0
  pub owed : Is p h.owed 1 0
  pub dropped : Is p h.dropped 1 0
  pub line : Is p h.line (30 - z.place) 0
  pub place : Is p h.place z.place 0
  pub bad : Is p h.bad 1 0
  pub wanted : Is p h.wanted 1 0
  pub captured : Is p h.captured 1 0
  pub captured_word : Is p h.captured_word 32 0
  pub captured_error : Is p h.captured_error 1 0
  pub full : Is p h.full 1 0
  pub out_pc : Is p h.out_pc 32 0
  pub out_word : Is p h.out_word 32 0
  pub out_error : Is p h.out_error 1 0

pub record IsComing (p : PoolValue) (c : Coming) : Type 0 where
  pub take : Is p c.take 1 8
  pub redirect : Is p c.redirect 1 8
  pub redirect_pc : Is p c.redirect_pc 32 8
  pub fence : Is p c.fence 1 8
  pub ready : Is p c.ready 1 0
  pub answered : Is p c.answered 1 0
  pub failed : Is p c.failed 1 0
  pub payload : Is p c.payload 32 0

pub record IsCycle (z : Sizes) (p : PoolValue) (c : Cycle) : Type 0 where
  pub held : IsHeld z p c.held
  pub coming : IsComing p c.coming
  pub tag : Is p c.tag (31 - z.place - z.index) 0
  pub cell : Is p c.cell 32 0
  pub guess : Is p c.guess 32 8

-- what they take from outside is in a scope
pub record IsHeldIn (s : Scope) (p : PoolValue) (h : Held) : Type 0 where
  pub pc : IsIn s p h.pc
  pub walk : IsIn s p h.walk
  pub given : IsIn s p h.given
  pub owed : IsIn s p h.owed
  pub dropped : IsIn s p h.dropped
  pub line : IsIn s p h.line
  pub place : IsIn s p h.place
  pub bad : IsIn s p h.bad
  pub wanted : IsIn s p h.wanted
  pub captured : IsIn s p h.captured
  pub captured_word : IsIn s p h.captured_word
  pub captured_error : IsIn s p h.captured_error
  pub full : IsIn s p h.full
  pub out_pc : IsIn s p h.out_pc
  pub out_word : IsIn s p h.out_word
  pub out_error : IsIn s p h.out_error

pub record IsComingIn (s : Scope) (p : PoolValue) (c : Coming) : Type 0 where
  pub take : IsIn s p c.take
  pub redirect : IsIn s p c.redirect
  pub redirect_pc : IsIn s p c.redirect_pc
  pub fence : IsIn s p c.fence
  pub ready : IsIn s p c.ready
  pub answered : IsIn s p c.answered
  pub failed : IsIn s p c.failed
  pub payload : IsIn s p c.payload

pub record IsCycleIn (s : Scope) (p : PoolValue) (c : Cycle) : Type 0 where
  pub held : IsHeldIn s p c.held
  pub coming : IsComingIn s p c.coming
  pub tag : IsIn s p c.tag
  pub cell : IsIn s p c.cell
  pub guess : IsIn s p c.guess

-- the cycle that the nets show
abbrev pub seen_in : Env → PoolValue → Cycle → Now
seen_in env p c = record {
  pc = value_in env p c.held.pc;
  walk = value_in env p c.held.walk;
  given = value_in env p c.held.given;
  owed = value_in env p c.held.owed;
  dropped = value_in env p c.held.dropped;
  line = value_in env p c.held.line;
  place = value_in env p c.held.place;
  bad = value_in env p c.held.bad;
  wanted = value_in env p c.held.wanted;
  captured = value_in env p c.held.captured;
  captured_word = value_in env p c.held.captured_word;
  captured_error = value_in env p c.held.captured_error;
  full = value_in env p c.held.full;
  out_pc = value_in env p c.held.out_pc;
  out_word = value_in env p c.held.out_word;
  out_error = value_in env p c.held.out_error;
  tag = value_in env p c.tag;
  cell = value_in env p c.cell;
  take = value_in env p c.coming.take;
  redirect = value_in env p c.coming.redirect;
  redirect_pc = value_in env p c.coming.redirect_pc;
  fence = value_in env p c.coming.fence;
  ready = value_in env p c.coming.ready;
  answered = value_in env p c.coming.answered;
  failed = value_in env p c.coming.failed;
  payload = value_in env p c.coming.payload;
  guess = value_in env p c.guess;
}

-- ---- what is made of it

pub record IsSearch (p : PoolValue) (x : Search) : Type 0 where
  pub walking : Is p x.walking 1 8
  pub misses : Is p x.misses 1 8
  pub room : Is p x.room 1 8
  pub moves : Is p x.moves 1 8
  -- Predict is asked about the word
  pub word : Is p x.word 32 0
  pub error : Is p x.error 1 8

pub record IsSearchIn (s : Scope) (p : PoolValue) (x : Search) : Type 0 where
  pub walking : IsIn s p x.walking
  pub misses : IsIn s p x.misses
  pub room : IsIn s p x.room
  pub moves : IsIn s p x.moves
  pub word : IsIn s p x.word
  pub error : IsIn s p x.error

abbrev pub search_in : Env → PoolValue → Search → SearchNow
search_in env p x = record {
  walking = value_in env p x.walking;
  misses = value_in env p x.misses;
  room = value_in env p x.room;
  moves = value_in env p x.moves;
  word = value_in env p x.word;
  error = value_in env p x.error;
}

pub record IsFill (p : PoolValue) (y : Fill) : Type 0 where
  pub response : Is p y.response 1 8
  pub keeps : Is p y.keeps 1 8
  pub goes_on : Is p y.goes_on 1 8
  pub ends : Is p y.ends 1 8
  pub flawed : Is p y.flawed 1 8
  pub captures : Is p y.captures 1 8

pub record IsFillIn (s : Scope) (p : PoolValue) (y : Fill) : Type 0 where
  pub response : IsIn s p y.response
  pub keeps : IsIn s p y.keeps
  pub goes_on : IsIn s p y.goes_on
  pub ends : IsIn s p y.ends
  pub flawed : IsIn s p y.flawed
  pub captures : IsIn s p y.captures

abbrev pub fill_in : Env → PoolValue → Fill → FillNow
fill_in env p y = record {
  response = value_in env p y.response;
  keeps = value_in env p y.keeps;
  goes_on = value_in env p y.goes_on;
  ends = value_in env p y.ends;
  flawed = value_in env p y.flawed;
  captures = value_in env p y.captures;
}

-- ---- the next values of registers, and the writes of arrays

pub record AreFour (p : PoolValue) (f : Four) (a b c d : ℕ) : Type 0 where
  pub first : Is p f.first a 8
  pub second : Is p f.second b 8
  pub third : Is p f.third c 8
  pub fourth : Is p f.fourth d 8

pub record AreFourIn (s : Scope) (p : PoolValue) (f : Four) : Type 0 where
  pub first : IsIn s p f.first
  pub second : IsIn s p f.second
  pub third : IsIn s p f.third
  pub fourth : IsIn s p f.fourth

abbrev pub four_in : Env → PoolValue → Four → FourNow
four_in env p f = record { first = value_in env p f.first; second = value_in env p f.second; third = value_in env p f.third; fourth = value_in env p f.fourth }

pub record IsWrite (p : PoolValue) (w : Write) (bits width : ℕ) : Type 0 where
  pub enable : Is p w.enable 1 8
  pub addr : Is p w.addr bits 8
  pub value : Is p w.value width 8

pub record IsWriteIn (s : Scope) (p : PoolValue) (w : Write) : Type 0 where
  pub enable : IsIn s p w.enable
  pub addr : IsIn s p w.addr
  pub value : IsIn s p w.value

abbrev pub write_in : Env → PoolValue → Write → WriteNow
write_in env p w = record { enable = value_in env p w.enable; addr = value_in env p w.addr; item = value_in env p w.value }

pub record AreNexts (z : Sizes) (p : PoolValue) (n : Nexts) : Type 0 where
  pub front : AreFour p n.front 32 (z.index + 1) 1 1
  pub reading : AreFour p n.reading 1 (30 - z.place) z.place 1
  pub caught : AreFour p n.caught 1 1 32 1
  pub item : AreFour p n.item 1 32 32 1
  pub tag : IsWrite p n.tag z.index (31 - z.place - z.index)
  pub cell : IsWrite p n.cell (z.index + z.place) 32
  pub word : Is p n.word 32 0
  pub address : Is p n.address 32 0

pub record AreNextsIn (s : Scope) (p : PoolValue) (n : Nexts) : Type 0 where
  pub front : AreFourIn s p n.front
  pub reading : AreFourIn s p n.reading
  pub caught : AreFourIn s p n.caught
  pub item : AreFourIn s p n.item
  pub tag : IsWriteIn s p n.tag
  pub cell : IsWriteIn s p n.cell
  pub word : IsIn s p n.word
  pub address : IsIn s p n.address
