use Rattle.std.proofs.Common.{◌≡◌, ◌∙◌, ℕ, ◌+◌, ◌-◌, ap, sym, refl}
use Rattle.hw_pool.specs.Meaning.{Env}
use Rattle.hw_gates.specs.Places.{value_in}
use Rattle.hw_gates.proofs.Steps.{kept, none, stays, stays_in, ◌▸◌}
use Rattle.cache_nets.specs.Machine.{Now, SearchNow, FillNow, FourNow, WriteNow, address_in, caught_after, fill_at, front_after, item_after, reading_after, search_at, tag_write, word_write}
use Rattle.cache_nets.specs.Nets.{seen_in, search_in, fill_in, four_in, write_in}
use Rattle.cache_nets.proofs.Stays.{cycle_stays, cycle_in_stays, seen_stays, search_stays, search_in_stays, searched_stays, fill_stays, fill_in_stays, filled_stays, four_stays, four_in_stays, fours_stay, write_stays, write_in_stays, writes_stay}
use Rattle.cache_nets.proofs.whole.cycle_nets.Goals as goal

-- ---- what the calls need

pub fill_nets-y-requires-clause-cycle : goal.fill_nets-y-requires-clause-cycle
fill_nets-y-requires-clause-cycle c = cycle_stays c.args.pool.now c.search_nets-x.new.pool _ c.search_nets-x.ensures.step c.args.z c.args.c c.requires.cycle

pub front_nets-front-requires-clause-cycle : goal.front_nets-front-requires-clause-cycle
front_nets-front-requires-clause-cycle c = cycle_stays c.args.pool.now c.fill_nets-y.new.pool _ (c.search_nets-x.ensures.step ▸ c.fill_nets-y.ensures.step) c.args.z c.args.c c.requires.cycle

pub front_nets-front-requires-clause-search : goal.front_nets-front-requires-clause-search
front_nets-front-requires-clause-search c = search_stays c.search_nets-x.new.pool c.fill_nets-y.new.pool _ c.fill_nets-y.ensures.step c.search_nets-x.result c.search_nets-x.ensures.nets

pub reading_nets-reading-requires-clause-cycle : goal.reading_nets-reading-requires-clause-cycle
reading_nets-reading-requires-clause-cycle c = cycle_stays c.args.pool.now c.front_nets-front.new.pool _ (c.search_nets-x.ensures.step ▸ (c.fill_nets-y.ensures.step ▸ c.front_nets-front.ensures.step)) c.args.z c.args.c c.requires.cycle

pub reading_nets-reading-requires-clause-search : goal.reading_nets-reading-requires-clause-search
reading_nets-reading-requires-clause-search c = search_stays c.search_nets-x.new.pool c.front_nets-front.new.pool _ (c.fill_nets-y.ensures.step ▸ c.front_nets-front.ensures.step) c.search_nets-x.result c.search_nets-x.ensures.nets

pub reading_nets-reading-requires-clause-fill : goal.reading_nets-reading-requires-clause-fill
reading_nets-reading-requires-clause-fill c = fill_stays c.fill_nets-y.new.pool c.front_nets-front.new.pool _ c.front_nets-front.ensures.step c.fill_nets-y.result c.fill_nets-y.ensures.nets

pub caught_nets-caught-requires-clause-cycle : goal.caught_nets-caught-requires-clause-cycle
caught_nets-caught-requires-clause-cycle c = cycle_stays c.args.pool.now c.reading_nets-reading.new.pool _ (c.search_nets-x.ensures.step ▸ (c.fill_nets-y.ensures.step ▸ (c.front_nets-front.ensures.step ▸ c.reading_nets-reading.ensures.step))) c.args.z c.args.c c.requires.cycle

pub caught_nets-caught-requires-clause-search : goal.caught_nets-caught-requires-clause-search
caught_nets-caught-requires-clause-search c = search_stays c.search_nets-x.new.pool c.reading_nets-reading.new.pool _ (c.fill_nets-y.ensures.step ▸ (c.front_nets-front.ensures.step ▸ c.reading_nets-reading.ensures.step)) c.search_nets-x.result c.search_nets-x.ensures.nets

pub caught_nets-caught-requires-clause-fill : goal.caught_nets-caught-requires-clause-fill
caught_nets-caught-requires-clause-fill c = fill_stays c.fill_nets-y.new.pool c.reading_nets-reading.new.pool _ (c.front_nets-front.ensures.step ▸ c.reading_nets-reading.ensures.step) c.fill_nets-y.result c.fill_nets-y.ensures.nets

pub item_nets-item-requires-clause-cycle : goal.item_nets-item-requires-clause-cycle
item_nets-item-requires-clause-cycle c = cycle_stays c.args.pool.now c.caught_nets-caught.new.pool _ (c.search_nets-x.ensures.step ▸ (c.fill_nets-y.ensures.step ▸ (c.front_nets-front.ensures.step ▸ (c.reading_nets-reading.ensures.step ▸ c.caught_nets-caught.ensures.step)))) c.args.z c.args.c c.requires.cycle

pub item_nets-item-requires-clause-search : goal.item_nets-item-requires-clause-search
item_nets-item-requires-clause-search c = search_stays c.search_nets-x.new.pool c.caught_nets-caught.new.pool _ (c.fill_nets-y.ensures.step ▸ (c.front_nets-front.ensures.step ▸ (c.reading_nets-reading.ensures.step ▸ c.caught_nets-caught.ensures.step))) c.search_nets-x.result c.search_nets-x.ensures.nets

pub item_nets-item-requires-clause-fill : goal.item_nets-item-requires-clause-fill
item_nets-item-requires-clause-fill c = fill_stays c.fill_nets-y.new.pool c.caught_nets-caught.new.pool _ (c.front_nets-front.ensures.step ▸ (c.reading_nets-reading.ensures.step ▸ c.caught_nets-caught.ensures.step)) c.fill_nets-y.result c.fill_nets-y.ensures.nets

pub tag_write-tag-requires-clause-cycle : goal.tag_write-tag-requires-clause-cycle
tag_write-tag-requires-clause-cycle c = cycle_stays c.args.pool.now c.item_nets-item.new.pool _ (c.search_nets-x.ensures.step ▸ (c.fill_nets-y.ensures.step ▸ (c.front_nets-front.ensures.step ▸ (c.reading_nets-reading.ensures.step ▸ (c.caught_nets-caught.ensures.step ▸ c.item_nets-item.ensures.step))))) c.args.z c.args.c c.requires.cycle

pub tag_write-tag-requires-clause-search : goal.tag_write-tag-requires-clause-search
tag_write-tag-requires-clause-search c = search_stays c.search_nets-x.new.pool c.item_nets-item.new.pool _ (c.fill_nets-y.ensures.step ▸ (c.front_nets-front.ensures.step ▸ (c.reading_nets-reading.ensures.step ▸ (c.caught_nets-caught.ensures.step ▸ c.item_nets-item.ensures.step)))) c.search_nets-x.result c.search_nets-x.ensures.nets

pub tag_write-tag-requires-clause-fill : goal.tag_write-tag-requires-clause-fill
tag_write-tag-requires-clause-fill c = fill_stays c.fill_nets-y.new.pool c.item_nets-item.new.pool _ (c.front_nets-front.ensures.step ▸ (c.reading_nets-reading.ensures.step ▸ (c.caught_nets-caught.ensures.step ▸ c.item_nets-item.ensures.step))) c.fill_nets-y.result c.fill_nets-y.ensures.nets

pub word_write-cell-requires-clause-cycle : goal.word_write-cell-requires-clause-cycle
word_write-cell-requires-clause-cycle c = cycle_stays c.args.pool.now c.tag_write-tag.new.pool _ (c.search_nets-x.ensures.step ▸ (c.fill_nets-y.ensures.step ▸ (c.front_nets-front.ensures.step ▸ (c.reading_nets-reading.ensures.step ▸ (c.caught_nets-caught.ensures.step ▸ (c.item_nets-item.ensures.step ▸ c.tag_write-tag.ensures.step)))))) c.args.z c.args.c c.requires.cycle

pub word_write-cell-requires-clause-fill : goal.word_write-cell-requires-clause-fill
word_write-cell-requires-clause-fill c = fill_stays c.fill_nets-y.new.pool c.tag_write-tag.new.pool _ (c.front_nets-front.ensures.step ▸ (c.reading_nets-reading.ensures.step ▸ (c.caught_nets-caught.ensures.step ▸ (c.item_nets-item.ensures.step ▸ c.tag_write-tag.ensures.step)))) c.fill_nets-y.result c.fill_nets-y.ensures.nets

pub address_in-address-requires-clause-line : goal.address_in-address-requires-clause-line
address_in-address-requires-clause-line c = stays c.args.pool.now c.word_write-cell.new.pool _ c.args.c.held.line _ 0 (c.search_nets-x.ensures.step ▸ (c.fill_nets-y.ensures.step ▸ (c.front_nets-front.ensures.step ▸ (c.reading_nets-reading.ensures.step ▸ (c.caught_nets-caught.ensures.step ▸ (c.item_nets-item.ensures.step ▸ (c.tag_write-tag.ensures.step ▸ c.word_write-cell.ensures.step))))))) c.requires.cycle.held.line

pub address_in-address-requires-clause-place_net : goal.address_in-address-requires-clause-place_net
address_in-address-requires-clause-place_net c = stays c.args.pool.now c.word_write-cell.new.pool _ c.args.c.held.place _ 0 (c.search_nets-x.ensures.step ▸ (c.fill_nets-y.ensures.step ▸ (c.front_nets-front.ensures.step ▸ (c.reading_nets-reading.ensures.step ▸ (c.caught_nets-caught.ensures.step ▸ (c.item_nets-item.ensures.step ▸ (c.tag_write-tag.ensures.step ▸ c.word_write-cell.ensures.step))))))) c.requires.cycle.held.place

-- ---- what is made

pub returns-clause-front : goal.returns-clause-front
returns-clause-front c = λ n h env.
    let x = c.search_nets-x in
    let y = c.fill_nets-y in
    let seen : (env : Env) → seen_in env c.fill_nets-y.new.pool c.args.c ≡ n env = λ env. seen_stays c.args.pool.now c.fill_nets-y.new.pool _ (c.search_nets-x.ensures.step ▸ c.fill_nets-y.ensures.step) c.args.z c.args.c c.requires.cycle env ∙ h env in
    let looked : (env : Env) → search_in env c.fill_nets-y.new.pool x.result ≡ search_at c.args.z.index c.args.z.place (n env) =
    λ env. searched_stays c.search_nets-x.new.pool c.fill_nets-y.new.pool _ c.fill_nets-y.ensures.step x.result x.ensures.nets env
    ∙ ((λ i. record { walking = x.ensures.walking env i; misses = x.ensures.misses env i; room = x.ensures.room env i; moves = x.ensures.moves env i; word = x.ensures.word env i; error = x.ensures.error env i })
    ∙ ap (search_at c.args.z.index c.args.z.place) (h env)) in
    let filled : (env : Env) → fill_in env c.fill_nets-y.new.pool y.result ≡ fill_at c.args.z.place (n env) =
    λ env. refl
    ∙ ((λ i. record { response = y.ensures.response env i; keeps = y.ensures.keeps env i; goes_on = y.ensures.goes_on env i; ends = y.ensures.ends env i; flawed = y.ensures.flawed env i; captures = y.ensures.captures env i })
    ∙ ap (fill_at c.args.z.place) (seen_stays c.args.pool.now c.search_nets-x.new.pool _ c.search_nets-x.ensures.step c.args.z c.args.c c.requires.cycle env ∙ h env)) in
    let e = c.front_nets-front.ensures in
    fours_stay c.front_nets-front.new.pool c.address_in-address.new.pool _ (c.reading_nets-reading.ensures.step ▸ (c.caught_nets-caught.ensures.step ▸ (c.item_nets-item.ensures.step ▸ (c.tag_write-tag.ensures.step ▸ (c.word_write-cell.ensures.step ▸ c.address_in-address.ensures.step))))) c.front_nets-front.result 32 (c.args.z.index + 1) 1 1 e.nets env
    ∙ ((λ i. record { first = e.first env i; second = e.second env i; third = e.third env i; fourth = e.fourth env i })
    ∙ λ i. front_after c.args.z.index c.args.z.place (seen env i) (looked env i) (filled env i))

pub returns-clause-reading : goal.returns-clause-reading
returns-clause-reading c = λ n h env.
    let x = c.search_nets-x in
    let y = c.fill_nets-y in
    let seen : (env : Env) → seen_in env c.front_nets-front.new.pool c.args.c ≡ n env = λ env. seen_stays c.args.pool.now c.front_nets-front.new.pool _ (c.search_nets-x.ensures.step ▸ (c.fill_nets-y.ensures.step ▸ c.front_nets-front.ensures.step)) c.args.z c.args.c c.requires.cycle env ∙ h env in
    let looked : (env : Env) → search_in env c.front_nets-front.new.pool x.result ≡ search_at c.args.z.index c.args.z.place (n env) =
    λ env. searched_stays c.search_nets-x.new.pool c.front_nets-front.new.pool _ (c.fill_nets-y.ensures.step ▸ c.front_nets-front.ensures.step) x.result x.ensures.nets env
    ∙ ((λ i. record { walking = x.ensures.walking env i; misses = x.ensures.misses env i; room = x.ensures.room env i; moves = x.ensures.moves env i; word = x.ensures.word env i; error = x.ensures.error env i })
    ∙ ap (search_at c.args.z.index c.args.z.place) (h env)) in
    let filled : (env : Env) → fill_in env c.front_nets-front.new.pool y.result ≡ fill_at c.args.z.place (n env) =
    λ env. filled_stays c.fill_nets-y.new.pool c.front_nets-front.new.pool _ c.front_nets-front.ensures.step y.result y.ensures.nets env
    ∙ ((λ i. record { response = y.ensures.response env i; keeps = y.ensures.keeps env i; goes_on = y.ensures.goes_on env i; ends = y.ensures.ends env i; flawed = y.ensures.flawed env i; captures = y.ensures.captures env i })
    ∙ ap (fill_at c.args.z.place) (seen_stays c.args.pool.now c.search_nets-x.new.pool _ c.search_nets-x.ensures.step c.args.z c.args.c c.requires.cycle env ∙ h env)) in
    let e = c.reading_nets-reading.ensures in
    fours_stay c.reading_nets-reading.new.pool c.address_in-address.new.pool _ (c.caught_nets-caught.ensures.step ▸ (c.item_nets-item.ensures.step ▸ (c.tag_write-tag.ensures.step ▸ (c.word_write-cell.ensures.step ▸ c.address_in-address.ensures.step)))) c.reading_nets-reading.result 1 (30 - c.args.z.place) c.args.z.place 1 e.nets env
    ∙ ((λ i. record { first = e.first env i; second = e.second env i; third = e.third env i; fourth = e.fourth env i })
    ∙ λ i. reading_after c.args.z.index c.args.z.place (seen env i) (looked env i) (filled env i))

pub returns-clause-caught : goal.returns-clause-caught
returns-clause-caught c = λ n h env.
    let x = c.search_nets-x in
    let y = c.fill_nets-y in
    let seen : (env : Env) → seen_in env c.reading_nets-reading.new.pool c.args.c ≡ n env = λ env. seen_stays c.args.pool.now c.reading_nets-reading.new.pool _ (c.search_nets-x.ensures.step ▸ (c.fill_nets-y.ensures.step ▸ (c.front_nets-front.ensures.step ▸ c.reading_nets-reading.ensures.step))) c.args.z c.args.c c.requires.cycle env ∙ h env in
    let looked : (env : Env) → search_in env c.reading_nets-reading.new.pool x.result ≡ search_at c.args.z.index c.args.z.place (n env) =
    λ env. searched_stays c.search_nets-x.new.pool c.reading_nets-reading.new.pool _ (c.fill_nets-y.ensures.step ▸ (c.front_nets-front.ensures.step ▸ c.reading_nets-reading.ensures.step)) x.result x.ensures.nets env
    ∙ ((λ i. record { walking = x.ensures.walking env i; misses = x.ensures.misses env i; room = x.ensures.room env i; moves = x.ensures.moves env i; word = x.ensures.word env i; error = x.ensures.error env i })
    ∙ ap (search_at c.args.z.index c.args.z.place) (h env)) in
    let filled : (env : Env) → fill_in env c.reading_nets-reading.new.pool y.result ≡ fill_at c.args.z.place (n env) =
    λ env. filled_stays c.fill_nets-y.new.pool c.reading_nets-reading.new.pool _ (c.front_nets-front.ensures.step ▸ c.reading_nets-reading.ensures.step) y.result y.ensures.nets env
    ∙ ((λ i. record { response = y.ensures.response env i; keeps = y.ensures.keeps env i; goes_on = y.ensures.goes_on env i; ends = y.ensures.ends env i; flawed = y.ensures.flawed env i; captures = y.ensures.captures env i })
    ∙ ap (fill_at c.args.z.place) (seen_stays c.args.pool.now c.search_nets-x.new.pool _ c.search_nets-x.ensures.step c.args.z c.args.c c.requires.cycle env ∙ h env)) in
    let e = c.caught_nets-caught.ensures in
    fours_stay c.caught_nets-caught.new.pool c.address_in-address.new.pool _ (c.item_nets-item.ensures.step ▸ (c.tag_write-tag.ensures.step ▸ (c.word_write-cell.ensures.step ▸ c.address_in-address.ensures.step))) c.caught_nets-caught.result 1 1 32 1 e.nets env
    ∙ ((λ i. record { first = e.first env i; second = e.second env i; third = e.third env i; fourth = e.fourth env i })
    ∙ λ i. caught_after c.args.z.index c.args.z.place (seen env i) (looked env i) (filled env i))

pub returns-clause-item : goal.returns-clause-item
returns-clause-item c = λ n h env.
    let x = c.search_nets-x in
    let y = c.fill_nets-y in
    let seen : (env : Env) → seen_in env c.caught_nets-caught.new.pool c.args.c ≡ n env = λ env. seen_stays c.args.pool.now c.caught_nets-caught.new.pool _ (c.search_nets-x.ensures.step ▸ (c.fill_nets-y.ensures.step ▸ (c.front_nets-front.ensures.step ▸ (c.reading_nets-reading.ensures.step ▸ c.caught_nets-caught.ensures.step)))) c.args.z c.args.c c.requires.cycle env ∙ h env in
    let looked : (env : Env) → search_in env c.caught_nets-caught.new.pool x.result ≡ search_at c.args.z.index c.args.z.place (n env) =
    λ env. searched_stays c.search_nets-x.new.pool c.caught_nets-caught.new.pool _ (c.fill_nets-y.ensures.step ▸ (c.front_nets-front.ensures.step ▸ (c.reading_nets-reading.ensures.step ▸ c.caught_nets-caught.ensures.step))) x.result x.ensures.nets env
    ∙ ((λ i. record { walking = x.ensures.walking env i; misses = x.ensures.misses env i; room = x.ensures.room env i; moves = x.ensures.moves env i; word = x.ensures.word env i; error = x.ensures.error env i })
    ∙ ap (search_at c.args.z.index c.args.z.place) (h env)) in
    let filled : (env : Env) → fill_in env c.caught_nets-caught.new.pool y.result ≡ fill_at c.args.z.place (n env) =
    λ env. filled_stays c.fill_nets-y.new.pool c.caught_nets-caught.new.pool _ (c.front_nets-front.ensures.step ▸ (c.reading_nets-reading.ensures.step ▸ c.caught_nets-caught.ensures.step)) y.result y.ensures.nets env
    ∙ ((λ i. record { response = y.ensures.response env i; keeps = y.ensures.keeps env i; goes_on = y.ensures.goes_on env i; ends = y.ensures.ends env i; flawed = y.ensures.flawed env i; captures = y.ensures.captures env i })
    ∙ ap (fill_at c.args.z.place) (seen_stays c.args.pool.now c.search_nets-x.new.pool _ c.search_nets-x.ensures.step c.args.z c.args.c c.requires.cycle env ∙ h env)) in
    let e = c.item_nets-item.ensures in
    fours_stay c.item_nets-item.new.pool c.address_in-address.new.pool _ (c.tag_write-tag.ensures.step ▸ (c.word_write-cell.ensures.step ▸ c.address_in-address.ensures.step)) c.item_nets-item.result 1 32 32 1 e.nets env
    ∙ ((λ i. record { first = e.first env i; second = e.second env i; third = e.third env i; fourth = e.fourth env i })
    ∙ λ i. item_after c.args.z.index c.args.z.place (seen env i) (looked env i) (filled env i))

pub returns-clause-tag : goal.returns-clause-tag
returns-clause-tag c = λ n h env.
    let x = c.search_nets-x in
    let y = c.fill_nets-y in
    let seen : (env : Env) → seen_in env c.item_nets-item.new.pool c.args.c ≡ n env = λ env. seen_stays c.args.pool.now c.item_nets-item.new.pool _ (c.search_nets-x.ensures.step ▸ (c.fill_nets-y.ensures.step ▸ (c.front_nets-front.ensures.step ▸ (c.reading_nets-reading.ensures.step ▸ (c.caught_nets-caught.ensures.step ▸ c.item_nets-item.ensures.step))))) c.args.z c.args.c c.requires.cycle env ∙ h env in
    let looked : (env : Env) → search_in env c.item_nets-item.new.pool x.result ≡ search_at c.args.z.index c.args.z.place (n env) =
    λ env. searched_stays c.search_nets-x.new.pool c.item_nets-item.new.pool _ (c.fill_nets-y.ensures.step ▸ (c.front_nets-front.ensures.step ▸ (c.reading_nets-reading.ensures.step ▸ (c.caught_nets-caught.ensures.step ▸ c.item_nets-item.ensures.step)))) x.result x.ensures.nets env
    ∙ ((λ i. record { walking = x.ensures.walking env i; misses = x.ensures.misses env i; room = x.ensures.room env i; moves = x.ensures.moves env i; word = x.ensures.word env i; error = x.ensures.error env i })
    ∙ ap (search_at c.args.z.index c.args.z.place) (h env)) in
    let filled : (env : Env) → fill_in env c.item_nets-item.new.pool y.result ≡ fill_at c.args.z.place (n env) =
    λ env. filled_stays c.fill_nets-y.new.pool c.item_nets-item.new.pool _ (c.front_nets-front.ensures.step ▸ (c.reading_nets-reading.ensures.step ▸ (c.caught_nets-caught.ensures.step ▸ c.item_nets-item.ensures.step))) y.result y.ensures.nets env
    ∙ ((λ i. record { response = y.ensures.response env i; keeps = y.ensures.keeps env i; goes_on = y.ensures.goes_on env i; ends = y.ensures.ends env i; flawed = y.ensures.flawed env i; captures = y.ensures.captures env i })
    ∙ ap (fill_at c.args.z.place) (seen_stays c.args.pool.now c.search_nets-x.new.pool _ c.search_nets-x.ensures.step c.args.z c.args.c c.requires.cycle env ∙ h env)) in
    let e = c.tag_write-tag.ensures in
    writes_stay c.tag_write-tag.new.pool c.address_in-address.new.pool _ (c.word_write-cell.ensures.step ▸ c.address_in-address.ensures.step) c.tag_write-tag.result c.args.z.index (31 - c.args.z.place - c.args.z.index) e.nets env
    ∙ ((λ i. record { enable = e.enable env i; addr = e.addr env i; item = e.item env i })
    ∙ λ i. tag_write c.args.z.index c.args.z.place (seen env i) (looked env i) (filled env i))

pub returns-clause-cell : goal.returns-clause-cell
returns-clause-cell c = λ n h env.
    let x = c.search_nets-x in
    let y = c.fill_nets-y in
    let seen : (env : Env) → seen_in env c.tag_write-tag.new.pool c.args.c ≡ n env = λ env. seen_stays c.args.pool.now c.tag_write-tag.new.pool _ (c.search_nets-x.ensures.step ▸ (c.fill_nets-y.ensures.step ▸ (c.front_nets-front.ensures.step ▸ (c.reading_nets-reading.ensures.step ▸ (c.caught_nets-caught.ensures.step ▸ (c.item_nets-item.ensures.step ▸ c.tag_write-tag.ensures.step)))))) c.args.z c.args.c c.requires.cycle env ∙ h env in
    let looked : (env : Env) → search_in env c.tag_write-tag.new.pool x.result ≡ search_at c.args.z.index c.args.z.place (n env) =
    λ env. searched_stays c.search_nets-x.new.pool c.tag_write-tag.new.pool _ (c.fill_nets-y.ensures.step ▸ (c.front_nets-front.ensures.step ▸ (c.reading_nets-reading.ensures.step ▸ (c.caught_nets-caught.ensures.step ▸ (c.item_nets-item.ensures.step ▸ c.tag_write-tag.ensures.step))))) x.result x.ensures.nets env
    ∙ ((λ i. record { walking = x.ensures.walking env i; misses = x.ensures.misses env i; room = x.ensures.room env i; moves = x.ensures.moves env i; word = x.ensures.word env i; error = x.ensures.error env i })
    ∙ ap (search_at c.args.z.index c.args.z.place) (h env)) in
    let filled : (env : Env) → fill_in env c.tag_write-tag.new.pool y.result ≡ fill_at c.args.z.place (n env) =
    λ env. filled_stays c.fill_nets-y.new.pool c.tag_write-tag.new.pool _ (c.front_nets-front.ensures.step ▸ (c.reading_nets-reading.ensures.step ▸ (c.caught_nets-caught.ensures.step ▸ (c.item_nets-item.ensures.step ▸ c.tag_write-tag.ensures.step)))) y.result y.ensures.nets env
    ∙ ((λ i. record { response = y.ensures.response env i; keeps = y.ensures.keeps env i; goes_on = y.ensures.goes_on env i; ends = y.ensures.ends env i; flawed = y.ensures.flawed env i; captures = y.ensures.captures env i })
    ∙ ap (fill_at c.args.z.place) (seen_stays c.args.pool.now c.search_nets-x.new.pool _ c.search_nets-x.ensures.step c.args.z c.args.c c.requires.cycle env ∙ h env)) in
    let e = c.word_write-cell.ensures in
    writes_stay c.word_write-cell.new.pool c.address_in-address.new.pool _ c.address_in-address.ensures.step c.word_write-cell.result (c.args.z.index + c.args.z.place) 32 e.nets env
    ∙ ((λ i. record { enable = e.enable env i; addr = e.addr env i; item = e.item env i })
    ∙ λ i. word_write c.args.z.index c.args.z.place (seen env i) (looked env i) (filled env i))

pub returns-clause-word : goal.returns-clause-word
returns-clause-word c = λ n h env.
    let x = c.search_nets-x in
    kept env c.search_nets-x.new.pool c.address_in-address.new.pool _ x.result.word (c.fill_nets-y.ensures.step ▸ (c.front_nets-front.ensures.step ▸ (c.reading_nets-reading.ensures.step ▸ (c.caught_nets-caught.ensures.step ▸ (c.item_nets-item.ensures.step ▸ (c.tag_write-tag.ensures.step ▸ (c.word_write-cell.ensures.step ▸ c.address_in-address.ensures.step))))))) x.ensures.nets.word.0 ∙ (x.ensures.word env ∙ ap (λ (m : Now). (search_at c.args.z.index c.args.z.place m).word) (h env))

pub returns-clause-address : goal.returns-clause-address
returns-clause-address c = λ n h env.
    let seen : (env : Env) → seen_in env c.word_write-cell.new.pool c.args.c ≡ n env = λ env. seen_stays c.args.pool.now c.word_write-cell.new.pool _ (c.search_nets-x.ensures.step ▸ (c.fill_nets-y.ensures.step ▸ (c.front_nets-front.ensures.step ▸ (c.reading_nets-reading.ensures.step ▸ (c.caught_nets-caught.ensures.step ▸ (c.item_nets-item.ensures.step ▸ (c.tag_write-tag.ensures.step ▸ c.word_write-cell.ensures.step))))))) c.args.z c.args.c c.requires.cycle env ∙ h env in
    c.address_in-address.ensures.value env ∙ λ i. address_in c.args.z.place (seen env i).line (seen env i).place

pub returns-clause-nets : goal.returns-clause-nets
returns-clause-nets c = record {
  front = four_stays c.front_nets-front.new.pool c.address_in-address.new.pool _ (c.reading_nets-reading.ensures.step ▸ (c.caught_nets-caught.ensures.step ▸ (c.item_nets-item.ensures.step ▸ (c.tag_write-tag.ensures.step ▸ (c.word_write-cell.ensures.step ▸ c.address_in-address.ensures.step))))) c.front_nets-front.result 32 (c.args.z.index + 1) 1 1 c.front_nets-front.ensures.nets;
  reading = four_stays c.reading_nets-reading.new.pool c.address_in-address.new.pool _ (c.caught_nets-caught.ensures.step ▸ (c.item_nets-item.ensures.step ▸ (c.tag_write-tag.ensures.step ▸ (c.word_write-cell.ensures.step ▸ c.address_in-address.ensures.step)))) c.reading_nets-reading.result 1 (30 - c.args.z.place) c.args.z.place 1 c.reading_nets-reading.ensures.nets;
  caught = four_stays c.caught_nets-caught.new.pool c.address_in-address.new.pool _ (c.item_nets-item.ensures.step ▸ (c.tag_write-tag.ensures.step ▸ (c.word_write-cell.ensures.step ▸ c.address_in-address.ensures.step))) c.caught_nets-caught.result 1 1 32 1 c.caught_nets-caught.ensures.nets;
  item = four_stays c.item_nets-item.new.pool c.address_in-address.new.pool _ (c.tag_write-tag.ensures.step ▸ (c.word_write-cell.ensures.step ▸ c.address_in-address.ensures.step)) c.item_nets-item.result 1 32 32 1 c.item_nets-item.ensures.nets;
  tag = write_stays c.tag_write-tag.new.pool c.address_in-address.new.pool _ (c.word_write-cell.ensures.step ▸ c.address_in-address.ensures.step) c.tag_write-tag.result c.args.z.index (31 - c.args.z.place - c.args.z.index) c.tag_write-tag.ensures.nets;
  cell = write_stays c.word_write-cell.new.pool c.address_in-address.new.pool _ c.address_in-address.ensures.step c.word_write-cell.result (c.args.z.index + c.args.z.place) 32 c.word_write-cell.ensures.nets;
  word = stays c.search_nets-x.new.pool c.address_in-address.new.pool _ c.search_nets-x.result.word 32 0 (c.fill_nets-y.ensures.step ▸ (c.front_nets-front.ensures.step ▸ (c.reading_nets-reading.ensures.step ▸ (c.caught_nets-caught.ensures.step ▸ (c.item_nets-item.ensures.step ▸ (c.tag_write-tag.ensures.step ▸ (c.word_write-cell.ensures.step ▸ c.address_in-address.ensures.step))))))) c.search_nets-x.ensures.nets.word;
  address = c.address_in-address.ensures.net;
}

pub returns-clause-scope : goal.returns-clause-scope
returns-clause-scope c = λ s i.
    let x = c.search_nets-x in
    let y = c.fill_nets-y in
    let xi = x.ensures.scope s i in
    let yi = y.ensures.scope s (cycle_in_stays c.args.pool.now c.search_nets-x.new.pool _ c.search_nets-x.ensures.step s c.args.z c.args.c c.requires.cycle i) in
    record {
      front = four_in_stays c.front_nets-front.new.pool c.address_in-address.new.pool _ (c.reading_nets-reading.ensures.step ▸ (c.caught_nets-caught.ensures.step ▸ (c.item_nets-item.ensures.step ▸ (c.tag_write-tag.ensures.step ▸ (c.word_write-cell.ensures.step ▸ c.address_in-address.ensures.step))))) s c.front_nets-front.result 32 (c.args.z.index + 1) 1 1 c.front_nets-front.ensures.nets
          (c.front_nets-front.ensures.scope s (cycle_in_stays c.args.pool.now c.fill_nets-y.new.pool _ (c.search_nets-x.ensures.step ▸ c.fill_nets-y.ensures.step) s c.args.z c.args.c c.requires.cycle i) (search_in_stays c.search_nets-x.new.pool c.fill_nets-y.new.pool _ c.fill_nets-y.ensures.step s x.result x.ensures.nets xi) yi);
      reading = four_in_stays c.reading_nets-reading.new.pool c.address_in-address.new.pool _ (c.caught_nets-caught.ensures.step ▸ (c.item_nets-item.ensures.step ▸ (c.tag_write-tag.ensures.step ▸ (c.word_write-cell.ensures.step ▸ c.address_in-address.ensures.step)))) s c.reading_nets-reading.result 1 (30 - c.args.z.place) c.args.z.place 1 c.reading_nets-reading.ensures.nets
          (c.reading_nets-reading.ensures.scope s (cycle_in_stays c.args.pool.now c.front_nets-front.new.pool _ (c.search_nets-x.ensures.step ▸ (c.fill_nets-y.ensures.step ▸ c.front_nets-front.ensures.step)) s c.args.z c.args.c c.requires.cycle i) (search_in_stays c.search_nets-x.new.pool c.front_nets-front.new.pool _ (c.fill_nets-y.ensures.step ▸ c.front_nets-front.ensures.step) s x.result x.ensures.nets xi) (fill_in_stays c.fill_nets-y.new.pool c.front_nets-front.new.pool _ c.front_nets-front.ensures.step s y.result y.ensures.nets yi));
      caught = four_in_stays c.caught_nets-caught.new.pool c.address_in-address.new.pool _ (c.item_nets-item.ensures.step ▸ (c.tag_write-tag.ensures.step ▸ (c.word_write-cell.ensures.step ▸ c.address_in-address.ensures.step))) s c.caught_nets-caught.result 1 1 32 1 c.caught_nets-caught.ensures.nets
          (c.caught_nets-caught.ensures.scope s (cycle_in_stays c.args.pool.now c.reading_nets-reading.new.pool _ (c.search_nets-x.ensures.step ▸ (c.fill_nets-y.ensures.step ▸ (c.front_nets-front.ensures.step ▸ c.reading_nets-reading.ensures.step))) s c.args.z c.args.c c.requires.cycle i) (search_in_stays c.search_nets-x.new.pool c.reading_nets-reading.new.pool _ (c.fill_nets-y.ensures.step ▸ (c.front_nets-front.ensures.step ▸ c.reading_nets-reading.ensures.step)) s x.result x.ensures.nets xi) (fill_in_stays c.fill_nets-y.new.pool c.reading_nets-reading.new.pool _ (c.front_nets-front.ensures.step ▸ c.reading_nets-reading.ensures.step) s y.result y.ensures.nets yi));
      item = four_in_stays c.item_nets-item.new.pool c.address_in-address.new.pool _ (c.tag_write-tag.ensures.step ▸ (c.word_write-cell.ensures.step ▸ c.address_in-address.ensures.step)) s c.item_nets-item.result 1 32 32 1 c.item_nets-item.ensures.nets
          (c.item_nets-item.ensures.scope s (cycle_in_stays c.args.pool.now c.caught_nets-caught.new.pool _ (c.search_nets-x.ensures.step ▸ (c.fill_nets-y.ensures.step ▸ (c.front_nets-front.ensures.step ▸ (c.reading_nets-reading.ensures.step ▸ c.caught_nets-caught.ensures.step)))) s c.args.z c.args.c c.requires.cycle i) (search_in_stays c.search_nets-x.new.pool c.caught_nets-caught.new.pool _ (c.fill_nets-y.ensures.step ▸ (c.front_nets-front.ensures.step ▸ (c.reading_nets-reading.ensures.step ▸ c.caught_nets-caught.ensures.step))) s x.result x.ensures.nets xi) (fill_in_stays c.fill_nets-y.new.pool c.caught_nets-caught.new.pool _ (c.front_nets-front.ensures.step ▸ (c.reading_nets-reading.ensures.step ▸ c.caught_nets-caught.ensures.step)) s y.result y.ensures.nets yi));
      tag = write_in_stays c.tag_write-tag.new.pool c.address_in-address.new.pool _ (c.word_write-cell.ensures.step ▸ c.address_in-address.ensures.step) s c.tag_write-tag.result c.args.z.index (31 - c.args.z.place - c.args.z.index) c.tag_write-tag.ensures.nets
          (c.tag_write-tag.ensures.scope s (cycle_in_stays c.args.pool.now c.item_nets-item.new.pool _ (c.search_nets-x.ensures.step ▸ (c.fill_nets-y.ensures.step ▸ (c.front_nets-front.ensures.step ▸ (c.reading_nets-reading.ensures.step ▸ (c.caught_nets-caught.ensures.step ▸ c.item_nets-item.ensures.step))))) s c.args.z c.args.c c.requires.cycle i) (search_in_stays c.search_nets-x.new.pool c.item_nets-item.new.pool _ (c.fill_nets-y.ensures.step ▸ (c.front_nets-front.ensures.step ▸ (c.reading_nets-reading.ensures.step ▸ (c.caught_nets-caught.ensures.step ▸ c.item_nets-item.ensures.step)))) s x.result x.ensures.nets xi) (fill_in_stays c.fill_nets-y.new.pool c.item_nets-item.new.pool _ (c.front_nets-front.ensures.step ▸ (c.reading_nets-reading.ensures.step ▸ (c.caught_nets-caught.ensures.step ▸ c.item_nets-item.ensures.step))) s y.result y.ensures.nets yi));
      cell = write_in_stays c.word_write-cell.new.pool c.address_in-address.new.pool _ c.address_in-address.ensures.step s c.word_write-cell.result (c.args.z.index + c.args.z.place) 32 c.word_write-cell.ensures.nets
          (c.word_write-cell.ensures.scope s (cycle_in_stays c.args.pool.now c.tag_write-tag.new.pool _ (c.search_nets-x.ensures.step ▸ (c.fill_nets-y.ensures.step ▸ (c.front_nets-front.ensures.step ▸ (c.reading_nets-reading.ensures.step ▸ (c.caught_nets-caught.ensures.step ▸ (c.item_nets-item.ensures.step ▸ c.tag_write-tag.ensures.step)))))) s c.args.z c.args.c c.requires.cycle i) (fill_in_stays c.fill_nets-y.new.pool c.tag_write-tag.new.pool _ (c.front_nets-front.ensures.step ▸ (c.reading_nets-reading.ensures.step ▸ (c.caught_nets-caught.ensures.step ▸ (c.item_nets-item.ensures.step ▸ c.tag_write-tag.ensures.step)))) s y.result y.ensures.nets yi));
      word = stays_in s c.search_nets-x.new.pool c.address_in-address.new.pool _ x.result.word (c.fill_nets-y.ensures.step ▸ (c.front_nets-front.ensures.step ▸ (c.reading_nets-reading.ensures.step ▸ (c.caught_nets-caught.ensures.step ▸ (c.item_nets-item.ensures.step ▸ (c.tag_write-tag.ensures.step ▸ (c.word_write-cell.ensures.step ▸ c.address_in-address.ensures.step))))))) x.ensures.nets.word.0 xi.word;
      address = let ci = (cycle_in_stays c.args.pool.now c.word_write-cell.new.pool _ (c.search_nets-x.ensures.step ▸ (c.fill_nets-y.ensures.step ▸ (c.front_nets-front.ensures.step ▸ (c.reading_nets-reading.ensures.step ▸ (c.caught_nets-caught.ensures.step ▸ (c.item_nets-item.ensures.step ▸ (c.tag_write-tag.ensures.step ▸ c.word_write-cell.ensures.step))))))) s c.args.z c.args.c c.requires.cycle i) in c.address_in-address.ensures.scope s ci.held.line ci.held.place;
    }

pub returns-clause-step : goal.returns-clause-step
returns-clause-step c = c.search_nets-x.ensures.step ▸ (c.fill_nets-y.ensures.step ▸ (c.front_nets-front.ensures.step ▸ (c.reading_nets-reading.ensures.step ▸ (c.caught_nets-caught.ensures.step ▸ (c.item_nets-item.ensures.step ▸ (c.tag_write-tag.ensures.step ▸ (c.word_write-cell.ensures.step ▸ c.address_in-address.ensures.step)))))))
