use Rattle.std.proofs.Common.{◌≡◌, ◌∙◌, ℕ, bit_and}
use Rattle.core_words.specs.Values.{choose}
use Rattle.hw_gates.specs.Places.{value_in}
use Rattle.hw_gates.proofs.Steps.{kept, stays_in, ◌▸◌}
use Rattle.cache_nets.specs.Machine.{hit_of, looks_of, misses_of, moves_of, room_of, walking_of}
use Rattle.cache_nets.proofs.look.search_nets.Goals as goal

pub returns-clause-walking : goal.returns-clause-walking
returns-clause-walking c = λ env. kept env c.walking-walking.new.pool c.and-error.new.pool _ c.walking-walking.result (c.looks-looks.ensures.step ▸ (c.hit-hit.ensures.step ▸ (c.misses-misses.ensures.step ▸ (c.room-room.ensures.step ▸ (c.moves-moves.ensures.step ▸ (c.mux-word.ensures.step ▸ c.and-error.ensures.step)))))) c.walking-walking.ensures.net.0 ∙ (c.walking-walking.ensures.value env)

pub returns-clause-misses : goal.returns-clause-misses
returns-clause-misses c = λ env. kept env c.misses-misses.new.pool c.and-error.new.pool _ c.misses-misses.result (c.room-room.ensures.step ▸ (c.moves-moves.ensures.step ▸ (c.mux-word.ensures.step ▸ c.and-error.ensures.step))) c.misses-misses.ensures.net.0 ∙ (c.misses-misses.ensures.value env ∙ (λ i0. misses_of ((kept env c.looks-looks.new.pool c.hit-hit.new.pool _ c.looks-looks.result c.hit-hit.ensures.step c.looks-looks.ensures.net.0 ∙ (c.looks-looks.ensures.value env ∙ (λ i1. looks_of (kept env c.args.pool.now c.walking-walking.new.pool _ c.args.c.held.given c.walking-walking.ensures.step c.requires.cycle.held.given.0 i1) (kept env c.args.pool.now c.walking-walking.new.pool _ c.args.c.held.owed c.walking-walking.ensures.step c.requires.cycle.held.owed.0 i1) ((c.walking-walking.ensures.value env) i1)))) i0) (kept env c.args.pool.now c.hit-hit.new.pool _ c.args.c.held.captured (c.walking-walking.ensures.step ▸ (c.looks-looks.ensures.step ▸ c.hit-hit.ensures.step)) c.requires.cycle.held.captured.0 i0) ((c.hit-hit.ensures.value env ∙ (λ i1. hit_of c.args.z.index c.args.z.place (kept env c.args.pool.now c.looks-looks.new.pool _ c.args.c.held.pc (c.walking-walking.ensures.step ▸ c.looks-looks.ensures.step) c.requires.cycle.held.pc.0 i1) (kept env c.args.pool.now c.looks-looks.new.pool _ c.args.c.tag (c.walking-walking.ensures.step ▸ c.looks-looks.ensures.step) c.requires.cycle.tag.0 i1))) i0) (kept env c.args.pool.now c.hit-hit.new.pool _ c.args.c.coming.redirect (c.walking-walking.ensures.step ▸ (c.looks-looks.ensures.step ▸ c.hit-hit.ensures.step)) c.requires.cycle.coming.redirect.0 i0)))

pub returns-clause-room : goal.returns-clause-room
returns-clause-room c = λ env. kept env c.room-room.new.pool c.and-error.new.pool _ c.room-room.result (c.moves-moves.ensures.step ▸ (c.mux-word.ensures.step ▸ c.and-error.ensures.step)) c.room-room.ensures.net.0 ∙ (c.room-room.ensures.value env ∙ (λ i0. room_of (kept env c.args.pool.now c.misses-misses.new.pool _ c.args.c.held.full (c.walking-walking.ensures.step ▸ (c.looks-looks.ensures.step ▸ (c.hit-hit.ensures.step ▸ c.misses-misses.ensures.step))) c.requires.cycle.held.full.0 i0) (kept env c.args.pool.now c.misses-misses.new.pool _ c.args.c.coming.take (c.walking-walking.ensures.step ▸ (c.looks-looks.ensures.step ▸ (c.hit-hit.ensures.step ▸ c.misses-misses.ensures.step))) c.requires.cycle.coming.take.0 i0)))

pub returns-clause-moves : goal.returns-clause-moves
returns-clause-moves c = λ env. kept env c.moves-moves.new.pool c.and-error.new.pool _ c.moves-moves.result (c.mux-word.ensures.step ▸ c.and-error.ensures.step) c.moves-moves.ensures.net.0 ∙ (c.moves-moves.ensures.value env ∙ (λ i0. moves_of ((kept env c.looks-looks.new.pool c.room-room.new.pool _ c.looks-looks.result (c.hit-hit.ensures.step ▸ (c.misses-misses.ensures.step ▸ c.room-room.ensures.step)) c.looks-looks.ensures.net.0 ∙ (c.looks-looks.ensures.value env ∙ (λ i1. looks_of (kept env c.args.pool.now c.walking-walking.new.pool _ c.args.c.held.given c.walking-walking.ensures.step c.requires.cycle.held.given.0 i1) (kept env c.args.pool.now c.walking-walking.new.pool _ c.args.c.held.owed c.walking-walking.ensures.step c.requires.cycle.held.owed.0 i1) ((c.walking-walking.ensures.value env) i1)))) i0) (kept env c.args.pool.now c.room-room.new.pool _ c.args.c.held.captured (c.walking-walking.ensures.step ▸ (c.looks-looks.ensures.step ▸ (c.hit-hit.ensures.step ▸ (c.misses-misses.ensures.step ▸ c.room-room.ensures.step)))) c.requires.cycle.held.captured.0 i0) ((kept env c.hit-hit.new.pool c.room-room.new.pool _ c.hit-hit.result (c.misses-misses.ensures.step ▸ c.room-room.ensures.step) c.hit-hit.ensures.net.0 ∙ (c.hit-hit.ensures.value env ∙ (λ i1. hit_of c.args.z.index c.args.z.place (kept env c.args.pool.now c.looks-looks.new.pool _ c.args.c.held.pc (c.walking-walking.ensures.step ▸ c.looks-looks.ensures.step) c.requires.cycle.held.pc.0 i1) (kept env c.args.pool.now c.looks-looks.new.pool _ c.args.c.tag (c.walking-walking.ensures.step ▸ c.looks-looks.ensures.step) c.requires.cycle.tag.0 i1)))) i0) ((c.room-room.ensures.value env ∙ (λ i1. room_of (kept env c.args.pool.now c.misses-misses.new.pool _ c.args.c.held.full (c.walking-walking.ensures.step ▸ (c.looks-looks.ensures.step ▸ (c.hit-hit.ensures.step ▸ c.misses-misses.ensures.step))) c.requires.cycle.held.full.0 i1) (kept env c.args.pool.now c.misses-misses.new.pool _ c.args.c.coming.take (c.walking-walking.ensures.step ▸ (c.looks-looks.ensures.step ▸ (c.hit-hit.ensures.step ▸ c.misses-misses.ensures.step))) c.requires.cycle.coming.take.0 i1))) i0)))

pub returns-clause-word : goal.returns-clause-word
returns-clause-word c = λ env. kept env c.mux-word.new.pool c.and-error.new.pool _ c.mux-word.result c.and-error.ensures.step c.mux-word.ensures.net ∙ (c.mux-word.ensures.value env ∙ (λ i0. choose (kept env c.args.pool.now c.moves-moves.new.pool _ c.args.c.held.captured (c.walking-walking.ensures.step ▸ (c.looks-looks.ensures.step ▸ (c.hit-hit.ensures.step ▸ (c.misses-misses.ensures.step ▸ (c.room-room.ensures.step ▸ c.moves-moves.ensures.step))))) c.requires.cycle.held.captured.0 i0) (kept env c.args.pool.now c.moves-moves.new.pool _ c.args.c.held.captured_word (c.walking-walking.ensures.step ▸ (c.looks-looks.ensures.step ▸ (c.hit-hit.ensures.step ▸ (c.misses-misses.ensures.step ▸ (c.room-room.ensures.step ▸ c.moves-moves.ensures.step))))) c.requires.cycle.held.captured_word.0 i0) (kept env c.args.pool.now c.moves-moves.new.pool _ c.args.c.cell (c.walking-walking.ensures.step ▸ (c.looks-looks.ensures.step ▸ (c.hit-hit.ensures.step ▸ (c.misses-misses.ensures.step ▸ (c.room-room.ensures.step ▸ c.moves-moves.ensures.step))))) c.requires.cycle.cell.0 i0)))

pub returns-clause-error : goal.returns-clause-error
returns-clause-error c = λ env. c.and-error.ensures.value env ∙ (λ i0. bit_and (kept env c.args.pool.now c.mux-word.new.pool _ c.args.c.held.captured (c.walking-walking.ensures.step ▸ (c.looks-looks.ensures.step ▸ (c.hit-hit.ensures.step ▸ (c.misses-misses.ensures.step ▸ (c.room-room.ensures.step ▸ (c.moves-moves.ensures.step ▸ c.mux-word.ensures.step)))))) c.requires.cycle.held.captured.0 i0) (kept env c.args.pool.now c.mux-word.new.pool _ c.args.c.held.captured_error (c.walking-walking.ensures.step ▸ (c.looks-looks.ensures.step ▸ (c.hit-hit.ensures.step ▸ (c.misses-misses.ensures.step ▸ (c.room-room.ensures.step ▸ (c.moves-moves.ensures.step ▸ c.mux-word.ensures.step)))))) c.requires.cycle.held.captured_error.0 i0))

pub returns-clause-scope : goal.returns-clause-scope
returns-clause-scope c = λ s h. record { walking = stays_in s c.walking-walking.new.pool c.and-error.new.pool _ c.walking-walking.result (c.looks-looks.ensures.step ▸ (c.hit-hit.ensures.step ▸ (c.misses-misses.ensures.step ▸ (c.room-room.ensures.step ▸ (c.moves-moves.ensures.step ▸ (c.mux-word.ensures.step ▸ c.and-error.ensures.step)))))) c.walking-walking.ensures.net.0 (c.walking-walking.ensures.scope s h.held.walk); misses = stays_in s c.misses-misses.new.pool c.and-error.new.pool _ c.misses-misses.result (c.room-room.ensures.step ▸ (c.moves-moves.ensures.step ▸ (c.mux-word.ensures.step ▸ c.and-error.ensures.step))) c.misses-misses.ensures.net.0 (c.misses-misses.ensures.scope s (stays_in s c.looks-looks.new.pool c.hit-hit.new.pool _ c.looks-looks.result c.hit-hit.ensures.step c.looks-looks.ensures.net.0 (c.looks-looks.ensures.scope s (stays_in s c.args.pool.now c.walking-walking.new.pool _ c.args.c.held.given c.walking-walking.ensures.step c.requires.cycle.held.given.0 h.held.given) (stays_in s c.args.pool.now c.walking-walking.new.pool _ c.args.c.held.owed c.walking-walking.ensures.step c.requires.cycle.held.owed.0 h.held.owed) (c.walking-walking.ensures.scope s h.held.walk))) (stays_in s c.args.pool.now c.hit-hit.new.pool _ c.args.c.held.captured (c.walking-walking.ensures.step ▸ (c.looks-looks.ensures.step ▸ c.hit-hit.ensures.step)) c.requires.cycle.held.captured.0 h.held.captured) (c.hit-hit.ensures.scope s (stays_in s c.args.pool.now c.looks-looks.new.pool _ c.args.c.held.pc (c.walking-walking.ensures.step ▸ c.looks-looks.ensures.step) c.requires.cycle.held.pc.0 h.held.pc) (stays_in s c.args.pool.now c.looks-looks.new.pool _ c.args.c.tag (c.walking-walking.ensures.step ▸ c.looks-looks.ensures.step) c.requires.cycle.tag.0 h.tag)) (stays_in s c.args.pool.now c.hit-hit.new.pool _ c.args.c.coming.redirect (c.walking-walking.ensures.step ▸ (c.looks-looks.ensures.step ▸ c.hit-hit.ensures.step)) c.requires.cycle.coming.redirect.0 h.coming.redirect)); room = stays_in s c.room-room.new.pool c.and-error.new.pool _ c.room-room.result (c.moves-moves.ensures.step ▸ (c.mux-word.ensures.step ▸ c.and-error.ensures.step)) c.room-room.ensures.net.0 (c.room-room.ensures.scope s (stays_in s c.args.pool.now c.misses-misses.new.pool _ c.args.c.held.full (c.walking-walking.ensures.step ▸ (c.looks-looks.ensures.step ▸ (c.hit-hit.ensures.step ▸ c.misses-misses.ensures.step))) c.requires.cycle.held.full.0 h.held.full) (stays_in s c.args.pool.now c.misses-misses.new.pool _ c.args.c.coming.take (c.walking-walking.ensures.step ▸ (c.looks-looks.ensures.step ▸ (c.hit-hit.ensures.step ▸ c.misses-misses.ensures.step))) c.requires.cycle.coming.take.0 h.coming.take)); moves = stays_in s c.moves-moves.new.pool c.and-error.new.pool _ c.moves-moves.result (c.mux-word.ensures.step ▸ c.and-error.ensures.step) c.moves-moves.ensures.net.0 (c.moves-moves.ensures.scope s (stays_in s c.looks-looks.new.pool c.room-room.new.pool _ c.looks-looks.result (c.hit-hit.ensures.step ▸ (c.misses-misses.ensures.step ▸ c.room-room.ensures.step)) c.looks-looks.ensures.net.0 (c.looks-looks.ensures.scope s (stays_in s c.args.pool.now c.walking-walking.new.pool _ c.args.c.held.given c.walking-walking.ensures.step c.requires.cycle.held.given.0 h.held.given) (stays_in s c.args.pool.now c.walking-walking.new.pool _ c.args.c.held.owed c.walking-walking.ensures.step c.requires.cycle.held.owed.0 h.held.owed) (c.walking-walking.ensures.scope s h.held.walk))) (stays_in s c.args.pool.now c.room-room.new.pool _ c.args.c.held.captured (c.walking-walking.ensures.step ▸ (c.looks-looks.ensures.step ▸ (c.hit-hit.ensures.step ▸ (c.misses-misses.ensures.step ▸ c.room-room.ensures.step)))) c.requires.cycle.held.captured.0 h.held.captured) (stays_in s c.hit-hit.new.pool c.room-room.new.pool _ c.hit-hit.result (c.misses-misses.ensures.step ▸ c.room-room.ensures.step) c.hit-hit.ensures.net.0 (c.hit-hit.ensures.scope s (stays_in s c.args.pool.now c.looks-looks.new.pool _ c.args.c.held.pc (c.walking-walking.ensures.step ▸ c.looks-looks.ensures.step) c.requires.cycle.held.pc.0 h.held.pc) (stays_in s c.args.pool.now c.looks-looks.new.pool _ c.args.c.tag (c.walking-walking.ensures.step ▸ c.looks-looks.ensures.step) c.requires.cycle.tag.0 h.tag))) (c.room-room.ensures.scope s (stays_in s c.args.pool.now c.misses-misses.new.pool _ c.args.c.held.full (c.walking-walking.ensures.step ▸ (c.looks-looks.ensures.step ▸ (c.hit-hit.ensures.step ▸ c.misses-misses.ensures.step))) c.requires.cycle.held.full.0 h.held.full) (stays_in s c.args.pool.now c.misses-misses.new.pool _ c.args.c.coming.take (c.walking-walking.ensures.step ▸ (c.looks-looks.ensures.step ▸ (c.hit-hit.ensures.step ▸ c.misses-misses.ensures.step))) c.requires.cycle.coming.take.0 h.coming.take))); word = stays_in s c.mux-word.new.pool c.and-error.new.pool _ c.mux-word.result c.and-error.ensures.step c.mux-word.ensures.net (c.mux-word.ensures.scope s (stays_in s c.args.pool.now c.moves-moves.new.pool _ c.args.c.held.captured (c.walking-walking.ensures.step ▸ (c.looks-looks.ensures.step ▸ (c.hit-hit.ensures.step ▸ (c.misses-misses.ensures.step ▸ (c.room-room.ensures.step ▸ c.moves-moves.ensures.step))))) c.requires.cycle.held.captured.0 h.held.captured) (stays_in s c.args.pool.now c.moves-moves.new.pool _ c.args.c.held.captured_word (c.walking-walking.ensures.step ▸ (c.looks-looks.ensures.step ▸ (c.hit-hit.ensures.step ▸ (c.misses-misses.ensures.step ▸ (c.room-room.ensures.step ▸ c.moves-moves.ensures.step))))) c.requires.cycle.held.captured_word.0 h.held.captured_word) (stays_in s c.args.pool.now c.moves-moves.new.pool _ c.args.c.cell (c.walking-walking.ensures.step ▸ (c.looks-looks.ensures.step ▸ (c.hit-hit.ensures.step ▸ (c.misses-misses.ensures.step ▸ (c.room-room.ensures.step ▸ c.moves-moves.ensures.step))))) c.requires.cycle.cell.0 h.cell)); error = c.and-error.ensures.scope s (stays_in s c.args.pool.now c.mux-word.new.pool _ c.args.c.held.captured (c.walking-walking.ensures.step ▸ (c.looks-looks.ensures.step ▸ (c.hit-hit.ensures.step ▸ (c.misses-misses.ensures.step ▸ (c.room-room.ensures.step ▸ (c.moves-moves.ensures.step ▸ c.mux-word.ensures.step)))))) c.requires.cycle.held.captured.0 h.held.captured) (stays_in s c.args.pool.now c.mux-word.new.pool _ c.args.c.held.captured_error (c.walking-walking.ensures.step ▸ (c.looks-looks.ensures.step ▸ (c.hit-hit.ensures.step ▸ (c.misses-misses.ensures.step ▸ (c.room-room.ensures.step ▸ (c.moves-moves.ensures.step ▸ c.mux-word.ensures.step)))))) c.requires.cycle.held.captured_error.0 h.held.captured_error) }
