use Rattle.std.proofs.Common.{◌≡◌, ◌∙◌, ℕ}
use Rattle.hw_gates.specs.Places.{value_in}
use Rattle.hw_gates.proofs.Steps.{kept, stays_in, ◌▸◌}
use Rattle.cache_nets.specs.Machine.{captures_of, keeps_of}
use Rattle.cache_nets.proofs.fills.fill_nets.Goals as goal

pub returns-clause-captures : goal.returns-clause-captures
returns-clause-captures c = λ env. c.captures-captures.ensures.value env ∙ (λ i0. captures_of c.args.z.place ((kept env c.keeps-keeps.new.pool c.flawed-flawed.new.pool _ c.keeps-keeps.result (c.last-last.ensures.step ▸ (c.goes_on-goes_on.ensures.step ▸ (c.ends-ends.ensures.step ▸ c.flawed-flawed.ensures.step))) c.keeps-keeps.ensures.net.0 ∙ (c.keeps-keeps.ensures.value env ∙ (λ i1. keeps_of (kept env c.args.pool.now c.response-response.new.pool _ c.args.c.held.owed c.response-response.ensures.step c.requires.cycle.held.owed.0 i1) (kept env c.args.pool.now c.response-response.new.pool _ c.args.c.coming.answered c.response-response.ensures.step c.requires.cycle.coming.answered.0 i1) (kept env c.args.pool.now c.response-response.new.pool _ c.args.c.held.dropped c.response-response.ensures.step c.requires.cycle.held.dropped.0 i1)))) i0) (kept env c.args.pool.now c.flawed-flawed.new.pool _ c.args.c.held.place (c.response-response.ensures.step ▸ (c.keeps-keeps.ensures.step ▸ (c.last-last.ensures.step ▸ (c.goes_on-goes_on.ensures.step ▸ (c.ends-ends.ensures.step ▸ c.flawed-flawed.ensures.step))))) c.requires.cycle.held.place.0 i0) (kept env c.args.pool.now c.flawed-flawed.new.pool _ c.args.c.held.pc (c.response-response.ensures.step ▸ (c.keeps-keeps.ensures.step ▸ (c.last-last.ensures.step ▸ (c.goes_on-goes_on.ensures.step ▸ (c.ends-ends.ensures.step ▸ c.flawed-flawed.ensures.step))))) c.requires.cycle.held.pc.0 i0))

pub returns-clause-scope : goal.returns-clause-scope
returns-clause-scope c = λ s h. record { response = stays_in s c.response-response.new.pool c.captures-captures.new.pool _ c.response-response.result (c.keeps-keeps.ensures.step ▸ (c.last-last.ensures.step ▸ (c.goes_on-goes_on.ensures.step ▸ (c.ends-ends.ensures.step ▸ (c.flawed-flawed.ensures.step ▸ c.captures-captures.ensures.step))))) c.response-response.ensures.net.0 (c.response-response.ensures.scope s h.held.owed h.coming.answered); keeps = stays_in s c.keeps-keeps.new.pool c.captures-captures.new.pool _ c.keeps-keeps.result (c.last-last.ensures.step ▸ (c.goes_on-goes_on.ensures.step ▸ (c.ends-ends.ensures.step ▸ (c.flawed-flawed.ensures.step ▸ c.captures-captures.ensures.step)))) c.keeps-keeps.ensures.net.0 (c.keeps-keeps.ensures.scope s (stays_in s c.args.pool.now c.response-response.new.pool _ c.args.c.held.owed c.response-response.ensures.step c.requires.cycle.held.owed.0 h.held.owed) (stays_in s c.args.pool.now c.response-response.new.pool _ c.args.c.coming.answered c.response-response.ensures.step c.requires.cycle.coming.answered.0 h.coming.answered) (stays_in s c.args.pool.now c.response-response.new.pool _ c.args.c.held.dropped c.response-response.ensures.step c.requires.cycle.held.dropped.0 h.held.dropped)); goes_on = stays_in s c.goes_on-goes_on.new.pool c.captures-captures.new.pool _ c.goes_on-goes_on.result (c.ends-ends.ensures.step ▸ (c.flawed-flawed.ensures.step ▸ c.captures-captures.ensures.step)) c.goes_on-goes_on.ensures.net.0 (c.goes_on-goes_on.ensures.scope s (stays_in s c.keeps-keeps.new.pool c.last-last.new.pool _ c.keeps-keeps.result c.last-last.ensures.step c.keeps-keeps.ensures.net.0 (c.keeps-keeps.ensures.scope s (stays_in s c.args.pool.now c.response-response.new.pool _ c.args.c.held.owed c.response-response.ensures.step c.requires.cycle.held.owed.0 h.held.owed) (stays_in s c.args.pool.now c.response-response.new.pool _ c.args.c.coming.answered c.response-response.ensures.step c.requires.cycle.coming.answered.0 h.coming.answered) (stays_in s c.args.pool.now c.response-response.new.pool _ c.args.c.held.dropped c.response-response.ensures.step c.requires.cycle.held.dropped.0 h.held.dropped))) (c.last-last.ensures.scope s (stays_in s c.args.pool.now c.keeps-keeps.new.pool _ c.args.c.held.place (c.response-response.ensures.step ▸ c.keeps-keeps.ensures.step) c.requires.cycle.held.place.0 h.held.place)) (stays_in s c.args.pool.now c.last-last.new.pool _ c.args.c.coming.fence (c.response-response.ensures.step ▸ (c.keeps-keeps.ensures.step ▸ c.last-last.ensures.step)) c.requires.cycle.coming.fence.0 h.coming.fence)); ends = stays_in s c.ends-ends.new.pool c.captures-captures.new.pool _ c.ends-ends.result (c.flawed-flawed.ensures.step ▸ c.captures-captures.ensures.step) c.ends-ends.ensures.net.0 (c.ends-ends.ensures.scope s (stays_in s c.keeps-keeps.new.pool c.goes_on-goes_on.new.pool _ c.keeps-keeps.result (c.last-last.ensures.step ▸ c.goes_on-goes_on.ensures.step) c.keeps-keeps.ensures.net.0 (c.keeps-keeps.ensures.scope s (stays_in s c.args.pool.now c.response-response.new.pool _ c.args.c.held.owed c.response-response.ensures.step c.requires.cycle.held.owed.0 h.held.owed) (stays_in s c.args.pool.now c.response-response.new.pool _ c.args.c.coming.answered c.response-response.ensures.step c.requires.cycle.coming.answered.0 h.coming.answered) (stays_in s c.args.pool.now c.response-response.new.pool _ c.args.c.held.dropped c.response-response.ensures.step c.requires.cycle.held.dropped.0 h.held.dropped))) (stays_in s c.last-last.new.pool c.goes_on-goes_on.new.pool _ c.last-last.result c.goes_on-goes_on.ensures.step c.last-last.ensures.net.0 (c.last-last.ensures.scope s (stays_in s c.args.pool.now c.keeps-keeps.new.pool _ c.args.c.held.place (c.response-response.ensures.step ▸ c.keeps-keeps.ensures.step) c.requires.cycle.held.place.0 h.held.place)))); flawed = stays_in s c.flawed-flawed.new.pool c.captures-captures.new.pool _ c.flawed-flawed.result c.captures-captures.ensures.step c.flawed-flawed.ensures.net.0 (c.flawed-flawed.ensures.scope s (stays_in s c.args.pool.now c.ends-ends.new.pool _ c.args.c.held.bad (c.response-response.ensures.step ▸ (c.keeps-keeps.ensures.step ▸ (c.last-last.ensures.step ▸ (c.goes_on-goes_on.ensures.step ▸ c.ends-ends.ensures.step)))) c.requires.cycle.held.bad.0 h.held.bad) (stays_in s c.args.pool.now c.ends-ends.new.pool _ c.args.c.coming.failed (c.response-response.ensures.step ▸ (c.keeps-keeps.ensures.step ▸ (c.last-last.ensures.step ▸ (c.goes_on-goes_on.ensures.step ▸ c.ends-ends.ensures.step)))) c.requires.cycle.coming.failed.0 h.coming.failed)); captures = c.captures-captures.ensures.scope s (stays_in s c.keeps-keeps.new.pool c.flawed-flawed.new.pool _ c.keeps-keeps.result (c.last-last.ensures.step ▸ (c.goes_on-goes_on.ensures.step ▸ (c.ends-ends.ensures.step ▸ c.flawed-flawed.ensures.step))) c.keeps-keeps.ensures.net.0 (c.keeps-keeps.ensures.scope s (stays_in s c.args.pool.now c.response-response.new.pool _ c.args.c.held.owed c.response-response.ensures.step c.requires.cycle.held.owed.0 h.held.owed) (stays_in s c.args.pool.now c.response-response.new.pool _ c.args.c.coming.answered c.response-response.ensures.step c.requires.cycle.coming.answered.0 h.coming.answered) (stays_in s c.args.pool.now c.response-response.new.pool _ c.args.c.held.dropped c.response-response.ensures.step c.requires.cycle.held.dropped.0 h.held.dropped))) (stays_in s c.args.pool.now c.flawed-flawed.new.pool _ c.args.c.held.place (c.response-response.ensures.step ▸ (c.keeps-keeps.ensures.step ▸ (c.last-last.ensures.step ▸ (c.goes_on-goes_on.ensures.step ▸ (c.ends-ends.ensures.step ▸ c.flawed-flawed.ensures.step))))) c.requires.cycle.held.place.0 h.held.place) (stays_in s c.args.pool.now c.flawed-flawed.new.pool _ c.args.c.held.pc (c.response-response.ensures.step ▸ (c.keeps-keeps.ensures.step ▸ (c.last-last.ensures.step ▸ (c.goes_on-goes_on.ensures.step ▸ (c.ends-ends.ensures.step ▸ c.flawed-flawed.ensures.step))))) c.requires.cycle.held.pc.0 h.held.pc) }
