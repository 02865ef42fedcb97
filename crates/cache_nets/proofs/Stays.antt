-- What is said of nets stays while nodes are added.
use Rattle.std.proofs.Common.{◌≡◌, ◌∙◌, ℕ, ◌+◌, ◌-◌, ap}
use Rattle.hw_pool.specs.Nodes.{PoolValue}
use Rattle.hw_pool.specs.Meaning.{Env}
use Rattle.hw_pool.specs.Scope.{Scope}
use Rattle.hw_gates.specs.Places.{Step}
use Rattle.hw_gates.proofs.Steps.{kept, stays, stays_in}
use Rattle.cache_nets.specs.declared.shapes.Sizes.{Sizes}
use Rattle.cache_nets.specs.declared.shapes.Held.{Held}
use Rattle.cache_nets.specs.declared.shapes.Coming.{Coming}
use Rattle.cache_nets.specs.declared.shapes.Cycle.{Cycle}
use Rattle.cache_nets.specs.declared.shapes.Search.{Search}
use Rattle.cache_nets.specs.declared.shapes.Fill.{Fill}
use Rattle.cache_nets.specs.declared.shapes.Four.{Four}
use Rattle.cache_nets.specs.declared.shapes.Write.{Write}
use Rattle.cache_nets.specs.declared.shapes.Nexts.{Nexts}
use Rattle.cache_nets.specs.Nets.{IsHeld, IsHeldIn, IsComing, IsComingIn, IsCycle, IsCycleIn, IsSearch, IsSearchIn, IsFill, IsFillIn, AreFour, AreFourIn, IsWrite, IsWriteIn, AreNexts, AreNextsIn, seen_in, search_in, fill_in, four_in, write_in}

module _ (old new : PoolValue) (n : ℕ) (step : Step old new n) where
  pub held_stays : (z : Sizes) (h0 : Held) → IsHeld z old h0 → IsHeld z new h0
  held_stays z h0 h = record {
    pc = stays old new n h0.pc 32 0 step h.pc;
    walk = stays old new n h0.walk _ 0 step h.walk;
    given = stays old new n h0.given 1 0 step h.given;
    owed = stays old new n h0.owed 1 0 step h.owed;
    dropped = stays old new n h0.dropped 1 0 step h.dropped;
    line = stays old new n h0.line _ 0 step h.line;
    place = stays old new n h0.place _ 0 step h.place;
    bad = stays old new n h0.bad 1 0 step h.bad;
    wanted = stays old new n h0.wanted 1 0 step h.wanted;
    captured = stays old new n h0.captured 1 0 step h.captured;
    captured_word = stays old new n h0.captured_word 32 0 step h.captured_word;
    captured_error = stays old new n h0.captured_error 1 0 step h.captured_error;
    full = stays old new n h0.full 1 0 step h.full;
    out_pc = stays old new n h0.out_pc 32 0 step h.out_pc;
    out_word = stays old new n h0.out_word 32 0 step h.out_word;
    out_error = stays old new n h0.out_error 1 0 step h.out_error;
  }

  pub held_in_stays : (s : Scope) (z : Sizes) (h0 : Held) → IsHeld z old h0 → IsHeldIn s old h0 → IsHeldIn s new h0
  held_in_stays s z h0 h i = record {
    pc = stays_in s old new n h0.pc step h.pc.0 i.pc;
    walk = stays_in s old new n h0.walk step h.walk.0 i.walk;
    given = stays_in s old new n h0.given step h.given.0 i.given;
    owed = stays_in s old new n h0.owed step h.owed.0 i.owed;
    dropped = stays_in s old new n h0.dropped step h.dropped.0 i.dropped;
    line = stays_in s old new n h0.line step h.line.0 i.line;
    place = stays_in s old new n h0.place step h.place.0 i.place;
    bad = stays_in s old new n h0.bad step h.bad.0 i.bad;
    wanted = stays_in s old new n h0.wanted step h.wanted.0 i.wanted;
    captured = stays_in s old new n h0.captured step h.captured.0 i.captured;
    captured_word = stays_in s old new n h0.captured_word step h.captured_word.0 i.captured_word;
    captured_error = stays_in s old new n h0.captured_error step h.captured_error.0 i.captured_error;
    full = stays_in s old new n h0.full step h.full.0 i.full;
    out_pc = stays_in s old new n h0.out_pc step h.out_pc.0 i.out_pc;
    out_word = stays_in s old new n h0.out_word step h.out_word.0 i.out_word;
    out_error = stays_in s old new n h0.out_error step h.out_error.0 i.out_error;
  }

  pub coming_stays : (g : Coming) → IsComing old g → IsComing new g
  coming_stays g h = record {
    take = stays old new n g.take 1 8 step h.take;
    redirect = stays old new n g.redirect 1 8 step h.redirect;
    redirect_pc = stays old new n g.redirect_pc 32 8 step h.redirect_pc;
    fence = stays old new n g.fence 1 8 step h.fence;
    ready = stays old new n g.ready 1 0 step h.ready;
    answered = stays old new n g.answered 1 0 step h.answered;
    failed = stays old new n g.failed 1 0 step h.failed;
    payload = stays old new n g.payload 32 0 step h.payload;
  }

  pub coming_in_stays : (s : Scope) (g : Coming) → IsComing old g → IsComingIn s old g → IsComingIn s new g
  coming_in_stays s g h i = record {
    take = stays_in s old new n g.take step h.take.0 i.take;
    redirect = stays_in s old new n g.redirect step h.redirect.0 i.redirect;
    redirect_pc = stays_in s old new n g.redirect_pc step h.redirect_pc.0 i.redirect_pc;
    fence = stays_in s old new n g.fence step h.fence.0 i.fence;
    ready = stays_in s old new n g.ready step h.ready.0 i.ready;
    answered = stays_in s old new n g.answered step h.answered.0 i.answered;
    failed = stays_in s old new n g.failed step h.failed.0 i.failed;
    payload = stays_in s old new n g.payload step h.payload.0 i.payload;
  }

  pub cycle_stays : (z : Sizes) (c : Cycle) → IsCycle z old c → IsCycle z new c
  cycle_stays z c h = record {
    held = held_stays z c.held h.held;
    coming = coming_stays c.coming h.coming;
    tag = stays old new n c.tag _ 0 step h.tag;
    cell = stays old new n c.cell 32 0 step h.cell;
    guess = stays old new n c.guess 32 8 step h.guess;
  }

  pub cycle_in_stays : (s : Scope) (z : Sizes) (c : Cycle) → IsCycle z old c → IsCycleIn s old c → IsCycleIn s new c
  cycle_in_stays s z c h i = record {
    held = held_in_stays s z c.held h.held i.held;
    coming = coming_in_stays s c.coming h.coming i.coming;
    tag = stays_in s old new n c.tag step h.tag.0 i.tag;
    cell = stays_in s old new n c.cell step h.cell.0 i.cell;
    guess = stays_in s old new n c.guess step h.guess.0 i.guess;
  }

  pub seen_stays : (z : Sizes) (c : Cycle) → IsCycle z old c → (env : Env) → seen_in env new c ≡ seen_in env old c
  seen_stays z c h env = λ j. record {
    pc = kept env old new n c.held.pc step h.held.pc.0 j;
    walk = kept env old new n c.held.walk step h.held.walk.0 j;
    given = kept env old new n c.held.given step h.held.given.0 j;
    owed = kept env old new n c.held.owed step h.held.owed.0 j;
    dropped = kept env old new n c.held.dropped step h.held.dropped.0 j;
    line = kept env old new n c.held.line step h.held.line.0 j;
    place = kept env old new n c.held.place step h.held.place.0 j;
    bad = kept env old new n c.held.bad step h.held.bad.0 j;
    wanted = kept env old new n c.held.wanted step h.held.wanted.0 j;
    captured = kept env old new n c.held.captured step h.held.captured.0 j;
    captured_word = kept env old new n c.held.captured_word step h.held.captured_word.0 j;
    captured_error = kept env old new n c.held.captured_error step h.held.captured_error.0 j;
    full = kept env old new n c.held.full step h.held.full.0 j;
    out_pc = kept env old new n c.held.out_pc step h.held.out_pc.0 j;
    out_word = kept env old new n c.held.out_word step h.held.out_word.0 j;
    out_error = kept env old new n c.held.out_error step h.held.out_error.0 j;
    tag = kept env old new n c.tag step h.tag.0 j;
    cell = kept env old new n c.cell step h.cell.0 j;
    take = kept env old new n c.coming.take step h.coming.take.0 j;
    redirect = kept env old new n c.coming.redirect step h.coming.redirect.0 j;
    redirect_pc = kept env old new n c.coming.redirect_pc step h.coming.redirect_pc.0 j;
    fence = kept env old new n c.coming.fence step h.coming.fence.0 j;
    ready = kept env old new n c.coming.ready step h.coming.ready.0 j;
    answered = kept env old new n c.coming.answered step h.coming.answered.0 j;
    failed = kept env old new n c.coming.failed step h.coming.failed.0 j;
    payload = kept env old new n c.coming.payload step h.coming.payload.0 j;
    guess = kept env old new n c.guess step h.guess.0 j;
  }

  pub search_stays : (x : Search) → IsSearch old x → IsSearch new x
  search_stays x h = record {
    walking = stays old new n x.walking 1 8 step h.walking;
    misses = stays old new n x.misses 1 8 step h.misses;
    room = stays old new n x.room 1 8 step h.room;
    moves = stays old new n x.moves 1 8 step h.moves;
    word = stays old new n x.word 32 0 step h.word;
    error = stays old new n x.error 1 8 step h.error;
  }

  pub search_in_stays : (s : Scope) (x : Search) → IsSearch old x → IsSearchIn s old x → IsSearchIn s new x
  search_in_stays s x h i = record {
    walking = stays_in s old new n x.walking step h.walking.0 i.walking;
    misses = stays_in s old new n x.misses step h.misses.0 i.misses;
    room = stays_in s old new n x.room step h.room.0 i.room;
    moves = stays_in s old new n x.moves step h.moves.0 i.moves;
    word = stays_in s old new n x.word step h.word.0 i.word;
    error = stays_in s old new n x.error step h.error.0 i.error;
  }

  pub searched_stays : (x : Search) → IsSearch old x → (env : Env) → search_in env new x ≡ search_in env old x
  searched_stays x h env = λ j. record {
    walking = kept env old new n x.walking step h.walking.0 j;
    misses = kept env old new n x.misses step h.misses.0 j;
    room = kept env old new n x.room step h.room.0 j;
    moves = kept env old new n x.moves step h.moves.0 j;
    word = kept env old new n x.word step h.word.0 j;
    error = kept env old new n x.error step h.error.0 j;
  }

  pub fill_stays : (y : Fill) → IsFill old y → IsFill new y
  fill_stays y h = record {
    response = stays old new n y.response 1 8 step h.response;
    keeps = stays old new n y.keeps 1 8 step h.keeps;
    goes_on = stays old new n y.goes_on 1 8 step h.goes_on;
    ends = stays old new n y.ends 1 8 step h.ends;
    flawed = stays old new n y.flawed 1 8 step h.flawed;
    captures = stays old new n y.captures 1 8 step h.captures;
  }

  pub fill_in_stays : (s : Scope) (y : Fill) → IsFill old y → IsFillIn s old y → IsFillIn s new y
  fill_in_stays s y h i = record {
    response = stays_in s old new n y.response step h.response.0 i.response;
    keeps = stays_in s old new n y.keeps step h.keeps.0 i.keeps;
    goes_on = stays_in s old new n y.goes_on step h.goes_on.0 i.goes_on;
    ends = stays_in s old new n y.ends step h.ends.0 i.ends;
    flawed = stays_in s old new n y.flawed step h.flawed.0 i.flawed;
    captures = stays_in s old new n y.captures step h.captures.0 i.captures;
  }

  pub filled_stays : (y : Fill) → IsFill old y → (env : Env) → fill_in env new y ≡ fill_in env old y
  filled_stays y h env = λ j. record {
    response = kept env old new n y.response step h.response.0 j;
    keeps = kept env old new n y.keeps step h.keeps.0 j;
    goes_on = kept env old new n y.goes_on step h.goes_on.0 j;
    ends = kept env old new n y.ends step h.ends.0 j;
    flawed = kept env old new n y.flawed step h.flawed.0 j;
    captures = kept env old new n y.captures step h.captures.0 j;
  }

  pub four_stays : (f : Four) (a b c d : ℕ) → AreFour old f a b c d → AreFour new f a b c d
  four_stays f a b c d h = record {
    first = stays old new n f.first a 8 step h.first;
    second = stays old new n f.second b 8 step h.second;
    third = stays old new n f.third c 8 step h.third;
    fourth = stays old new n f.fourth d 8 step h.fourth;
  }

  pub four_in_stays : (s : Scope) (f : Four) (a b c d : ℕ) → AreFour old f a b c d → AreFourIn s old f → AreFourIn s new f
  four_in_stays s f a b c d h i = record {
    first = stays_in s old new n f.first step h.first.0 i.first;
    second = stays_in s old new n f.second step h.second.0 i.second;
    third = stays_in s old new n f.third step h.third.0 i.third;
    fourth = stays_in s old new n f.fourth step h.fourth.0 i.fourth;
  }

  pub fours_stay : (f : Four) (a b c d : ℕ) → AreFour old f a b c d → (env : Env) → four_in env new f ≡ four_in env old f
  fours_stay f a b c d h env = λ j. record {
    first = kept env old new n f.first step h.first.0 j;
    second = kept env old new n f.second step h.second.0 j;
    third = kept env old new n f.third step h.third.0 j;
    fourth = kept env old new n f.fourth step h.fourth.0 j;
  }

  pub write_stays : (w : Write) (bits width : ℕ) → IsWrite old w bits width → IsWrite new w bits width
  write_stays w bits width h = record {
    enable = stays old new n w.enable 1 8 step h.enable;
    addr = stays old new n w.addr bits 8 step h.addr;
    value = stays old new n w.value width 8 step h.value;
  }

  pub write_in_stays : (s : Scope) (w : Write) (bits width : ℕ) → IsWrite old w bits width → IsWriteIn s old w → IsWriteIn s new w
  write_in_stays s w bits width h i = record {
    enable = stays_in s old new n w.enable step h.enable.0 i.enable;
    addr = stays_in s old new n w.addr step h.addr.0 i.addr;
    value = stays_in s old new n w.value step h.value.0 i.value;
  }

  pub writes_stay : (w : Write) (bits width : ℕ) → IsWrite old w bits width → (env : Env) → write_in env new w ≡ write_in env old w
  writes_stay w bits width h env = λ j. record {
    enable = kept env old new n w.enable step h.enable.0 j;
    addr = kept env old new n w.addr step h.addr.0 j;
    item = kept env old new n w.value step h.value.0 j;
  }
