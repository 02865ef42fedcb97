use Rattle.std.proofs.Common.{◌≡◌, ◌∙◌, ◌+◌}
use Rattle.hw_pool.specs.Meaning.{Env}
use Rattle.hw_gates.specs.Places.{value_in}
use Rattle.hw_gates.proofs.Steps.{adds_of, ◌▸◌}
use Rattle.hw_module.proofs.Fits.{grows_same}
use Rattle.hw_module.specs.Scope.{scope_of}
use Rattle.plug_build.proofs.Worlds.{offers_grown}
use Rattle.plug_fetch.specs.Builds.{guess_in}
use Rattle.plug_fetch.specs.Late.{predict_in}
use Rattle.plug_fetch.proofs.Asked.{predict_kept}
use Rattle.plug_fetch.proofs.Seen.{reads_stay}
use Rattle.plug_fetch.proofs.cycle.read_cycle.Goals as goal

pub guess_net-guess-requires-clause-offers : goal.guess_net-guess-requires-clause-offers
guess_net-guess-requires-clause-offers c =
    let d = c.args.b.now.design in
    offers_grown d d 0 (grows_same d) c.args.pool.now c.read_coming-coming.new.pool 12
    (adds_of _ _ 12 (c.read_command-command.ensures.step ▸ c.read_coming-coming.ensures.step)) c.args.reg.now c.requires.offers

pub returns-clause-reads : goal.returns-clause-reads
returns-clause-reads c =
    let s = scope_of c.args.b.now.design in
    let old = c.read_command-command.new.pool in
    let mid = c.read_coming-coming.new.pool in
    let new = c.guess_net-guess.new.pool in
    let before = c.read_command-command.ensures.step in
    let first = c.read_coming-coming.ensures.step in
    let last = c.guess_net-guess.ensures.step in
    let a = c.read_command-command.ensures in
    let b = c.read_coming-coming.ensures in
    let g = c.guess_net-guess.ensures in
    let same : predict_in mid c.args.reg.now ≡ predict_in c.args.pool.now c.args.reg.now =
    predict_kept c.args.b.now.design c.args.pool.now c.args.reg.now c.requires.offers mid 12 (adds_of _ _ 12 (before ▸ first)) in
    let at : (env : Env) → value_in env mid c.read_command-command.result.address ≡ env.regs (c.args.at + 3) =
    λ env. (reads_stay s old mid 7 first 32 (λ env. env.regs (c.args.at + 3)) _ a.address).value env in
    record {
      given = reads_stay s old new 9 (first ▸ last) 1 _ _ a.given;
      owed = reads_stay s old new 9 (first ▸ last) 1 _ _ a.owed;
      dropped = reads_stay s old new 9 (first ▸ last) 1 _ _ a.dropped;
      address = reads_stay s old new 9 (first ▸ last) 32 _ _ a.address;
      next_pc = reads_stay s old new 9 (first ▸ last) 32 _ _ a.next_pc;
      take = reads_stay s mid new 2 last 1 _ _ b.take;
      redirect = reads_stay s mid new 2 last 1 _ _ b.redirect;
      redirect_pc = reads_stay s mid new 2 last 32 _ _ b.redirect_pc;
      ready = reads_stay s mid new 2 last 1 _ _ b.ready;
      answered = reads_stay s mid new 2 last 1 _ _ b.answered;
      failed = reads_stay s mid new 2 last 1 _ _ b.failed;
      payload = reads_stay s mid new 2 last 32 _ _ b.payload;
      guess = record { is = g.net; scope = g.scope; value = λ env. g.value env ∙ λ j. guess_in (same j) (at env j) env };
      address_low = a.low;
      payload_low = b.low;
    }
