use Rattle.std.proofs.Common.{◌≡◌, ◌∙◌, ℕ, ◌+◌, ◌-◌, get_or, ap}
use Rattle.hw_pool.specs.Meaning.{Env}
use Rattle.hw_gates.specs.Places.{value_in}
use Rattle.hw_gates.proofs.Steps.{adds_of, ◌▸◌}
use Rattle.hw_module.proofs.Fits.{grows_same}
use Rattle.hw_module.specs.Scope.{scope_of}
use Rattle.plug_build.proofs.Worlds.{offers_grown}
use Rattle.cache_nets.specs.Machine.{cell_at, index_at}
use Rattle.plug_icache.specs.Builds.{guess_in}
use Rattle.plug_icache.specs.Late.{predict_in}
use Rattle.plug_icache.proofs.Asked.{predict_kept}
use Rattle.plug_icache.proofs.Fours.{low}
use Rattle.plug_icache.proofs.Seen.{four_stays, reads_stay}
use Rattle.plug_icache.proofs.whole.read_cycle.Goals as goal

-- the pc, in the pool of each call
pub read_tag-tag-requires-clause-pc : goal.read_tag-tag-requires-clause-pc
read_tag-tag-requires-clause-pc c =
    let f = c.read_four-front.ensures.reads _ _ _ _ _ _ _ _ c.requires.regs.1.front in
    (reads_stay (scope_of c.args.b.now.design) c.read_four-front.new.pool c.read_coming-coming.new.pool _
    (c.read_four-reading.ensures.step ▸ (c.read_four-caught.ensures.step ▸ (c.read_four-item.ensures.step ▸ c.read_coming-coming.ensures.step))) 32 0 _ _ f.first).is

pub read_tag-tag-requires-clause-scope : goal.read_tag-tag-requires-clause-scope
read_tag-tag-requires-clause-scope c =
    let f = c.read_four-front.ensures.reads _ _ _ _ _ _ _ _ c.requires.regs.1.front in
    (reads_stay (scope_of c.args.b.now.design) c.read_four-front.new.pool c.read_coming-coming.new.pool _
    (c.read_four-reading.ensures.step ▸ (c.read_four-caught.ensures.step ▸ (c.read_four-item.ensures.step ▸ c.read_coming-coming.ensures.step))) 32 0 _ _ f.first).scope

pub read_word-cell-requires-clause-pc : goal.read_word-cell-requires-clause-pc
read_word-cell-requires-clause-pc c =
    let f = c.read_four-front.ensures.reads _ _ _ _ _ _ _ _ c.requires.regs.1.front in
    (reads_stay (scope_of c.args.b.now.design) c.read_four-front.new.pool c.read_tag-tag.new.pool _
    (c.read_four-reading.ensures.step ▸ (c.read_four-caught.ensures.step ▸ (c.read_four-item.ensures.step ▸ (c.read_coming-coming.ensures.step ▸ c.read_tag-tag.ensures.step)))) 32 0 _ _ f.first).is

pub read_word-cell-requires-clause-scope : goal.read_word-cell-requires-clause-scope
read_word-cell-requires-clause-scope c =
    let f = c.read_four-front.ensures.reads _ _ _ _ _ _ _ _ c.requires.regs.1.front in
    (reads_stay (scope_of c.args.b.now.design) c.read_four-front.new.pool c.read_tag-tag.new.pool _
    (c.read_four-reading.ensures.step ▸ (c.read_four-caught.ensures.step ▸ (c.read_four-item.ensures.step ▸ (c.read_coming-coming.ensures.step ▸ c.read_tag-tag.ensures.step)))) 32 0 _ _ f.first).scope

pub guess_net-guess-requires-clause-offers : goal.guess_net-guess-requires-clause-offers
guess_net-guess-requires-clause-offers c =
    let d = c.args.b.now.design in
    offers_grown d d 0 (grows_same d) c.args.pool.now c.read_word-cell.new.pool _
    (adds_of _ _ _ (c.read_four-front.ensures.step ▸ (c.read_four-reading.ensures.step ▸ (c.read_four-caught.ensures.step ▸ (c.read_four-item.ensures.step ▸ (c.read_coming-coming.ensures.step ▸ (c.read_tag-tag.ensures.step ▸ c.read_word-cell.ensures.step)))))))
    c.args.reg.now c.requires.offers

pub guess_net-guess-requires-clause-pc : goal.guess_net-guess-requires-clause-pc
guess_net-guess-requires-clause-pc c =
    let f = c.read_four-front.ensures.reads _ _ _ _ _ _ _ _ c.requires.regs.1.front in
    let is = (reads_stay (scope_of c.args.b.now.design) c.read_four-front.new.pool c.read_word-cell.new.pool _
    (c.read_four-reading.ensures.step ▸ (c.read_four-caught.ensures.step ▸ (c.read_four-item.ensures.step ▸ (c.read_coming-coming.ensures.step ▸ (c.read_tag-tag.ensures.step ▸ c.read_word-cell.ensures.step))))) 32 0 _ _ f.first).is in
    (is.0, is.1, low _ is.2)

pub guess_net-guess-requires-clause-scope : goal.guess_net-guess-requires-clause-scope
guess_net-guess-requires-clause-scope c =
    let f = c.read_four-front.ensures.reads _ _ _ _ _ _ _ _ c.requires.regs.1.front in
    (reads_stay (scope_of c.args.b.now.design) c.read_four-front.new.pool c.read_word-cell.new.pool _
    (c.read_four-reading.ensures.step ▸ (c.read_four-caught.ensures.step ▸ (c.read_four-item.ensures.step ▸ (c.read_coming-coming.ensures.step ▸ (c.read_tag-tag.ensures.step ▸ c.read_word-cell.ensures.step))))) 32 0 _ _ f.first).scope

pub returns-clause-step : goal.returns-clause-step
returns-clause-step c =
    c.read_four-front.ensures.step ▸ (c.read_four-reading.ensures.step ▸ (c.read_four-caught.ensures.step ▸ (c.read_four-item.ensures.step ▸ (c.read_coming-coming.ensures.step ▸ (c.read_tag-tag.ensures.step ▸ (c.read_word-cell.ensures.step ▸ c.guess_net-guess.ensures.step))))))

pub returns-clause-reads : goal.returns-clause-reads
returns-clause-reads c =
    let s = scope_of c.args.b.now.design in
    let at-first = c.requires.regs.1 in
    let new = c.guess_net-guess.new.pool in
    let p1 = c.read_four-front.new.pool in
    let p2 = c.read_four-reading.new.pool in
    let p3 = c.read_four-caught.new.pool in
    let p4 = c.read_four-item.new.pool in
    let p5 = c.read_coming-coming.new.pool in
    let p6 = c.read_tag-tag.new.pool in
    let p7 = c.read_word-cell.new.pool in
    let s8 = c.guess_net-guess.ensures.step in
    let s7 = c.read_word-cell.ensures.step ▸ s8 in
    let s6 = c.read_tag-tag.ensures.step ▸ s7 in
    let s5 = c.read_coming-coming.ensures.step ▸ s6 in
    let s4 = c.read_four-item.ensures.step ▸ s5 in
    let s3 = c.read_four-caught.ensures.step ▸ s4 in
    let s2 = c.read_four-reading.ensures.step ▸ s3 in
    let z = c.args.z in
    let f = c.read_four-front.ensures.reads _ _ _ _ _ _ _ _ at-first.front in
    let g = c.read_coming-coming.ensures in
    let t = c.read_tag-tag.ensures in
    let w = c.read_word-cell.ensures in
    let q = c.guess_net-guess.ensures in
    let pc5 : (env : Env) → value_in env p5 c.read_four-front.result.first ≡ env.regs c.args.first =
    λ env. (reads_stay s p1 p5 _ (c.read_four-reading.ensures.step ▸ (c.read_four-caught.ensures.step ▸ (c.read_four-item.ensures.step ▸ c.read_coming-coming.ensures.step))) 32 0 (λ env. env.regs c.args.first) _ f.first).value env in
    let pc6 : (env : Env) → value_in env p6 c.read_four-front.result.first ≡ env.regs c.args.first =
    λ env. (reads_stay s p1 p6 _ (c.read_four-reading.ensures.step ▸ (c.read_four-caught.ensures.step ▸ (c.read_four-item.ensures.step ▸ (c.read_coming-coming.ensures.step ▸ c.read_tag-tag.ensures.step)))) 32 0 (λ env. env.regs c.args.first) _ f.first).value env in
    let pc7 : (env : Env) → value_in env p7 c.read_four-front.result.first ≡ env.regs c.args.first =
    λ env. (reads_stay s p1 p7 _ (c.read_four-reading.ensures.step ▸ (c.read_four-caught.ensures.step ▸ (c.read_four-item.ensures.step ▸ (c.read_coming-coming.ensures.step ▸ (c.read_tag-tag.ensures.step ▸ c.read_word-cell.ensures.step))))) 32 0 (λ env. env.regs c.args.first) _ f.first).value env in
    let same : predict_in p7 c.args.reg.now ≡ predict_in c.args.pool.now c.args.reg.now =
    predict_kept c.args.b.now.design c.args.pool.now c.args.reg.now c.requires.offers p7 _
    (adds_of _ _ _ (c.read_four-front.ensures.step ▸ (c.read_four-reading.ensures.step ▸ (c.read_four-caught.ensures.step ▸ (c.read_four-item.ensures.step ▸ (c.read_coming-coming.ensures.step ▸ (c.read_tag-tag.ensures.step ▸ c.read_word-cell.ensures.step))))))) in
    record {
      front = four_stays s p1 new _ s2 _ _ _ _ _ _ f;
      reading = four_stays s p2 new _ s3 _ _ _ _ _ _ (c.read_four-reading.ensures.reads _ _ _ _ _ _ _ _ at-first.reading);
      caught = four_stays s p3 new _ s4 _ _ _ _ _ _ (c.read_four-caught.ensures.reads _ _ _ _ _ _ _ _ at-first.caught);
      item = four_stays s p4 new _ s5 _ _ _ _ _ _ (c.read_four-item.ensures.reads _ _ _ _ _ _ _ _ at-first.item);
      coming = record {
        take = reads_stay s p5 new _ s6 1 8 _ _ g.take;
        redirect = reads_stay s p5 new _ s6 1 8 _ _ g.redirect;
        redirect_pc = reads_stay s p5 new _ s6 32 8 _ _ g.redirect_pc;
        fence = reads_stay s p5 new _ s6 1 8 _ _ g.fence;
        ready = reads_stay s p5 new _ s6 1 0 _ _ g.ready;
        answered = reads_stay s p5 new _ s6 1 0 _ _ g.answered;
        failed = reads_stay s p5 new _ s6 1 0 _ _ g.failed;
        payload = reads_stay s p5 new _ s6 32 0 _ _ g.payload;
      };
      tag = reads_stay s p6 new _ s7 (31 - z.place - z.index) 0 (λ env. get_or (env.cells c.args.tags) (index_at z.index z.place (env.regs c.args.first)) 0) _
          (record { is = t.net; scope = t.scope; value = λ env. t.value env ∙ ap (λ (x : ℕ). get_or (env.cells c.args.tags) (index_at z.index z.place x) 0) (pc5 env) });
      cell = reads_stay s p7 new _ s8 32 0 (λ env. get_or (env.cells (c.args.tags + 1)) (cell_at z.index z.place (env.regs c.args.first)) 0) _
          (record { is = w.net; scope = w.scope; value = λ env. w.value env ∙ ap (λ (x : ℕ). get_or (env.cells (c.args.tags + 1)) (cell_at z.index z.place x) 0) (pc6 env) });
      guess = record { is = q.net; scope = q.scope; value = λ env. q.value env ∙ λ j. guess_in (same j) (pc7 env j) env };
    }
