-- The registers and arrays of a run are those of the cached fetch.
use Rattle.std.proofs.Common.{◌≡◌, ◌∙◌, ℕ, zero, suc, ◌+◌, ◌-◌, ◌*◌, ◌/◌, ◌%◌, ◌^◌, ◌<◌, ◌≤◌, Bool, true, false, cond, not, eqb, ltb, ◌&&◌, ◌||◌, List, length, get_or, set, refl, sym, ap, subst, arith}
use Rattle.std.proofs.lemmas.Bool.{ltb-true}
use Rattle.std.proofs.lemmas.Nat.{pow_pos}
use Rattle.core_words.specs.Values.{add_of, choose, one_if}
use Rattle.core_ports.specs.Trace.{Bus}
use Rattle.isa_model.specs.Effects.{behind}
use Rattle.plug_law.specs.Fetch.{FetchSignals}
use Rattle.cache_law.specs.Machine.{line_of, place_of}
use Rattle.cache_law.specs.Cells.{Cells, IsCells}
use Rattle.cache_law.specs.Cells as c
use Rattle.cache_nets.specs.Machine.{Now, SearchNow, FillNow, search_at, fill_at, index_in, place_at, tag_in, tag_at, cell_in, line_at, looks_of, hit_of, misses_of, room_of, moves_of, response_of, keeps_of, last_of, goes_on_of, ends_of, flawed_of, captures_of, pc_of, walk_of, given_of, owed_of, dropped_of, line_of as next_line_of, place_of as next_place_of, bad_of, wanted_of, captured_of, full_of, writes_tag_of, tag_index_of, tag_of}
use Rattle.cache_nets.specs.Runs.{Run, Fits, IsCached, Shows, cells_of, RunsAreCells, written}
use Rattle.cache_nets.proofs.Truths.{Bit, bit_is, told, after, same, and_at, or_at, not_at, choose_at, choose_bit, test, test_choice}
use Rattle.cache_nets.proofs.Slices.{last_same, get_set, place_is, index_is, line_is, tag_is, cell_is, index_in_is, tag_in_is, cell_in_is, address_is, walking_is, walk_more, index_below, cell_below}

module _ (l k reset_pc : ℕ) (predicts : Bool) (r : Run) (f : FetchSignals) (ib : Bus) (least_l : 1 ≤ l) (most_l : l ≤ 10) (least_k : 1 ≤ k) (most_k : k ≤ 4)
    (m : IsCached l k reset_pc r) (sh : Shows l k predicts r f ib) where
  abbrev lines : ℕ
  lines = 2 ^ l

  abbrev words : ℕ
  words = 2 ^ k

  abbrev top : ℕ
  top = 2 ^ (30 - k - l)

  abbrev q : Cells
  q = cells_of r

  module _ (s : ℕ) where
    abbrev t : ℕ
    t = suc s

    abbrev n : Now
    n = r.now (suc s)

    abbrev x : SearchNow
    x = search_at l k (r.now (suc s))

    abbrev y : FillNow
    y = fill_at k (r.now (suc s))

    fits : Fits l k (r.now (suc s))
    fits = m.fits s

    -- ---- bits
    given : Bit n.given (q.given t)
    given = bit_is n.given fits.given

    owed : Bit n.owed (q.owed t)
    owed = bit_is n.owed fits.owed

    dropped : Bit n.dropped (q.dropped t)
    dropped = bit_is n.dropped fits.dropped

    bad : Bit n.bad (q.bad t)
    bad = bit_is n.bad fits.bad

    wanted : Bit n.wanted (q.wanted t)
    wanted = bit_is n.wanted fits.wanted

    captured : Bit n.captured (q.captured t)
    captured = bit_is n.captured fits.captured

    captured_error : Bit n.captured_error (q.captured_error t)
    captured_error = bit_is n.captured_error fits.captured_error

    full : Bit n.full (q.full t)
    full = bit_is n.full fits.full

    take : Bit n.take (f.take t)
    take = told (bit_is n.take fits.take) (sh.take s)

    redirect : Bit n.redirect (f.redirect t)
    redirect = told (bit_is n.redirect fits.redirect) (sh.redirect s)

    fence : Bit n.fence (f.fence t)
    fence = told (bit_is n.fence fits.fence) (sh.fence s)

    ready : Bit n.ready (eqb (ib.cmd_ready t) 1)
    ready = told (bit_is n.ready fits.ready) (ap (λ z. eqb z 1) (sh.cmd_ready s))

    answered : Bit n.answered (eqb (ib.rsp_valid t) 1)
    answered = told (bit_is n.answered fits.answered) (ap (λ z. eqb z 1) (sh.rsp_valid s))

    failed : Bit n.failed (eqb (ib.rsp_error t) 1)
    failed = told (bit_is n.failed fits.failed) (ap (λ z. eqb z 1) (sh.rsp_error s))

    -- ---- the search
    walking : Bit x.walking (c.walking lines words top f ib q t)
    walking = record { is = walking_is l k least_l most_l least_k most_k n.walk fits.walk }

    looks : Bit (looks_of n.given n.owed x.walking) (c.looks lines words top f ib q t)
    unfolding looks_of
    looks = not_at (or_at (or_at given owed) walking)

    hit : Bit (hit_of l k n.pc n.tag) (c.hits lines words top f ib q t)
    unfolding hit_of
    hit = record { is = λ j. one_if (eqb ((m.tag s ∙ ap (λ i. get_or (r.tags t) i 0) (index_is l k least_l most_l least_k most_k n.pc)) j) (tag_is l k least_l most_l least_k most_k n.pc fits.pc j)) }

    misses : Bit x.misses (c.misses lines words top f ib q t)
    unfolding misses_of
    misses = and_at looks (and_at (not_at (or_at captured hit)) (not_at redirect))

    room : Bit x.room (c.room lines words top f ib q t)
    unfolding room_of
    room = or_at (not_at full) take

    moves : Bit x.moves (c.moves lines words top f ib q t)
    unfolding moves_of
    moves = and_at (and_at looks (or_at captured hit)) room

    word : x.word ≡ c.word_found lines words top f ib q t
    word = choose_at n.captured_word n.cell captured
        ∙ ap (λ z. cond (q.captured t) n.captured_word z) (m.cell s ∙ ap (λ i. get_or (r.words t) i 0) (cell_is l k least_l most_l least_k most_k n.pc))

    error : Bit x.error (c.error_found lines words top f ib q t)
    error = and_at captured captured_error

    -- ---- the fill
    response : Bit y.response (c.response lines words top f ib q t)
    unfolding response_of
    response = and_at owed answered

    keeps : Bit y.keeps (c.keeps lines words top f ib q t)
    unfolding keeps_of
    keeps = and_at (and_at owed answered) (not_at dropped)

    last : Bit (last_of k n.place) (c.is_last lines words top f ib q t)
    unfolding last_of
    last = record { is = ap one_if (last_same (2 ^ k) n.place (pow_pos k)) }

    goes_on : Bit y.goes_on (c.goes_on lines words top f ib q t)
    unfolding goes_on_of
    goes_on = and_at keeps (and_at (not_at last) (not_at fence))

    ends : Bit y.ends (c.ends lines words top f ib q t)
    unfolding ends_of
    ends = and_at keeps last

    flawed : Bit y.flawed (c.now_bad lines words top f ib q t)
    unfolding flawed_of
    flawed = or_at bad failed

    captures : Bit y.captures (c.captures lines words top f ib q t)
    unfolding captures_of
    captures = and_at keeps (same n.place (place_at k n.pc) (n.pc / 4 % 2 ^ k) (place_is l k least_l most_l least_k most_k n.pc))

    -- ---- the registers
    pc_next : (r.now (suc t)).pc ≡ cond (f.redirect t) (f.redirect_pc t) (cond (c.moves lines words top f ib q t) (c.guess predicts f q t) (q.pc t))
    unfolding pc_of
    pc_next = m.pc s ∙ (choose_at n.redirect_pc (choose x.moves n.guess n.pc) redirect
        ∙ λ j. cond (f.redirect t) (sym (sh.redirect_pc s) j) ((choose_at n.guess n.pc moves ∙ ap (λ z. cond (c.moves lines words top f ib q t) z n.pc) (sh.guess s)) j))

    walk_next : (r.now (suc t)).walk ≡ cond (f.fence t) 0 (cond (c.walking lines words top f ib q t) (suc (q.walk t)) (q.walk t))
    unfolding walk_of
    walk_next = m.walk s ∙ (choose_at 0 (choose x.walking (add_of (l + 1) n.walk 1) n.walk) fence
        ∙ ap (λ z. cond (f.fence t) 0 z) (choose_at (add_of (l + 1) n.walk 1) n.walk walking ∙ by (ltb n.walk (2 ^ l)) refl))
      where
        by : (b : Bool) → ltb n.walk (2 ^ l) ≡ b → cond b (add_of (l + 1) n.walk 1) n.walk ≡ cond b (suc n.walk) n.walk
        by true e = walk_more l k least_l most_l least_k most_k n.walk e
        by false e = refl

    given_next : eqb (r.now (suc t)).given 1 ≡ (c.misses lines words top f ib q t || (c.goes_on lines words top f ib q t || (q.given t && not (eqb (ib.cmd_ready t) 1))))
    unfolding given_of
    given_next = test (after (m.given s) (or_at misses (or_at goes_on (and_at given (not_at ready)))))

    owed_next : eqb (r.now (suc t)).owed 1 ≡ ((q.given t && eqb (ib.cmd_ready t) 1) || (q.owed t && not (c.response lines words top f ib q t)))
    unfolding owed_of
    owed_next = test (after (m.owed s) (or_at (and_at given ready) (and_at owed (not_at response))))

    dropped_next : eqb (r.now (suc t)).dropped 1 ≡ ((f.fence t || q.dropped t) && (q.given t || (q.owed t && not (c.response lines words top f ib q t))))
    unfolding dropped_of
    dropped_next = test (after (m.dropped s) (and_at (or_at fence dropped) (or_at given (and_at owed (not_at response)))))

    line_next : (r.now (suc t)).line ≡ cond (c.misses lines words top f ib q t) (c.line_now lines words top f ib q t) (q.line t)
    unfolding next_line_of
    line_next = m.line s ∙ (choose_at (line_at k n.pc) n.line misses ∙ ap (λ z. cond (c.misses lines words top f ib q t) z n.line) (line_is l k least_l most_l least_k most_k n.pc fits.pc))

    place_next : (r.now (suc t)).place ≡ cond (c.misses lines words top f ib q t) 0 (cond (c.goes_on lines words top f ib q t) (suc (q.place t) % words) (q.place t))
    unfolding next_place_of
    place_next = m.place s ∙ (choose_at 0 (choose y.goes_on (add_of k n.place 1) n.place) misses
        ∙ ap (λ z. cond (c.misses lines words top f ib q t) 0 z)
        (choose_at (add_of k n.place 1) n.place goes_on ∙ ap (λ z. cond (c.goes_on lines words top f ib q t) (z % 2 ^ k) n.place) (let e : n.place + 1 ≡ suc n.place = omega arith in e)))

    bad_next : eqb (r.now (suc t)).bad 1 ≡ (not (c.misses lines words top f ib q t) && cond (c.keeps lines words top f ib q t) (c.now_bad lines words top f ib q t) (q.bad t))
    unfolding bad_of
    bad_next = test (after (m.bad s) (and_at (not_at misses) (choose_bit keeps flawed bad)))

    wanted_next : eqb (r.now (suc t)).wanted 1 ≡ ((c.misses lines words top f ib q t || q.wanted t) && not (f.redirect t))
    unfolding wanted_of
    wanted_next = test (after (m.wanted s) (and_at (or_at misses wanted) (not_at redirect)))

    captured_next : eqb (r.now (suc t)).captured 1
        ≡ (((c.ends lines words top f ib q t && (q.wanted t && c.now_bad lines words top f ib q t)) || (q.captured t && not (c.moves lines words top f ib q t))) && not (f.redirect t))
    unfolding captured_of
    captured_next = test (after (m.captured s) (and_at (or_at (and_at ends (and_at wanted flawed)) (and_at captured (not_at moves))) (not_at redirect)))

    captured_word_next : (r.now (suc t)).captured_word ≡ cond (c.captures lines words top f ib q t) (ib.rsp_data t) (q.captured_word t)
    captured_word_next = m.captured_word s ∙ (choose_at n.payload n.captured_word captures ∙ ap (λ z. cond (c.captures lines words top f ib q t) z n.captured_word) (sym (sh.rsp_data s)))

    captured_error_next : eqb (r.now (suc t)).captured_error 1 ≡ cond (c.captures lines words top f ib q t) (eqb (ib.rsp_error t) 1) (q.captured_error t)
    captured_error_next = ap (λ z. eqb z 1) (m.captured_error s) ∙ (test_choice n.failed n.captured_error captures ∙ ap (λ z. cond (c.captures lines words top f ib q t) (eqb z 1) (q.captured_error t)) (sym (sh.rsp_error s)))

    full_next : eqb (r.now (suc t)).full 1 ≡ (not (f.redirect t) && (c.moves lines words top f ib q t || (q.full t && not (f.take t))))
    unfolding full_of
    full_next = test (after (m.full s) (and_at (not_at redirect) (or_at moves (and_at full (not_at take)))))

    out_pc_next : (r.now (suc t)).out_pc ≡ cond (c.room lines words top f ib q t) (q.pc t) (q.out_pc t)
    out_pc_next = m.out_pc s ∙ choose_at n.pc n.out_pc room

    out_word_next : (r.now (suc t)).out_word ≡ cond (c.room lines words top f ib q t) (c.word_found lines words top f ib q t) (q.out_word t)
    out_word_next = m.out_word s ∙ (choose_at x.word n.out_word room ∙ ap (λ z. cond (c.room lines words top f ib q t) z n.out_word) word)

    out_error_next : eqb (r.now (suc t)).out_error 1 ≡ cond (c.room lines words top f ib q t) (c.error_found lines words top f ib q t) (q.out_error t)
    out_error_next = ap (λ z. eqb z 1) (m.out_error s) ∙ (test_choice x.error n.out_error room ∙ ap (λ z. cond (c.room lines words top f ib q t) z (q.out_error t)) (test error))

    -- ---- the arrays
    written_at : (cells : List ℕ) (e a v i : ℕ) (b : Bool) → Bit e b → (b ≡ true → a < length cells) → get_or (cond (eqb e 1) (set cells a v) cells) i 0 ≡ cond b (cond (eqb i a) v (get_or cells i 0)) (get_or cells i 0)
    written_at cells e a v i b h below = ap (λ z. get_or (cond z (set cells a v) cells) i 0) (test h) ∙ by b below
      where
        by : (b : Bool) → (b ≡ true → a < length cells) → get_or (cond b (set cells a v) cells) i 0 ≡ cond b (cond (eqb i a) v (get_or cells i 0)) (get_or cells i 0)
        by true g = get_set cells a v i (g refl)
        by false g = refl

    abbrev wk : Bool
    wk = c.walking lines words top f ib q t

    abbrev en : Bool
    en = c.ends lines words top f ib q t

    tag_enable : Bit (writes_tag_of x.walking y.ends) (wk || en)
    unfolding writes_tag_of
    tag_enable = or_at walking ends

    tag_index : tag_index_of l x.walking n.walk n.line ≡ cond wk (n.walk % 2 ^ l) (n.line % 2 ^ l)
    unfolding tag_index_of
    tag_index = choose_at (index_in l n.walk) (index_in l n.line) walking
        ∙ λ j. cond wk (index_in_is l k least_l most_l least_k most_k n.walk j) (index_in_is l k least_l most_l least_k most_k n.line j)

    tag_value : tag_of l k x.walking y.flawed n.line ≡ cond (wk || c.now_bad lines words top f ib q t) 0 (top + n.line / 2 ^ l)
    unfolding tag_of
    tag_value = choose_at 0 (tag_in l k n.line) (or_at walking flawed)
        ∙ ap (λ z. cond (wk || c.now_bad lines words top f ib q t) 0 z) (tag_in_is l k least_l most_l least_k most_k n.line fits.line)

    tag_below : cond wk (n.walk % 2 ^ l) (n.line % 2 ^ l) < length (r.tags t)
    tag_below = subst (λ z. cond wk (n.walk % 2 ^ l) (n.line % 2 ^ l) < z) (sym (m.many_tags s)) (by wk)
      where
        by : (b : Bool) → cond b (n.walk % 2 ^ l) (n.line % 2 ^ l) < 2 ^ l
        by true = index_below l k least_l most_l least_k most_k n.walk
        by false = index_below l k least_l most_l least_k most_k n.line

    tag_next : (index : ℕ) → get_or (r.tags (suc t)) index 0
        ≡ cond wk (cond (eqb index n.walk) 0 (get_or (r.tags t) index 0)) (cond (en && eqb index (n.line % 2 ^ l)) (cond (c.now_bad lines words top f ib q t) 0 (top + n.line / 2 ^ l)) (get_or (r.tags t) index 0))
    tag_next index =
        ap (λ z. get_or z index 0) (m.tags s)
        ∙ (written_at (r.tags t) (writes_tag_of x.walking y.ends) (tag_index_of l x.walking n.walk n.line) (tag_of l k x.walking y.flawed n.line) index (wk || en) tag_enable
        (λ e. subst (λ z. z < length (r.tags t)) (sym tag_index) tag_below)
        ∙ ((λ j. cond (wk || en) (cond (eqb index (tag_index j)) (tag_value j) (get_or (r.tags t) index 0)) (get_or (r.tags t) index 0))
        ∙ by wk refl en (c.now_bad lines words top f ib q t) (eqb index (n.line % 2 ^ l)) refl))
      where
        small : ltb n.walk (2 ^ l) ≡ true → n.walk % 2 ^ l ≡ n.walk
        small e = Rattle.cache_nets.proofs.Slices.mod_small l n.walk (ltb-true n.walk (2 ^ l) e)

        by : (w : Bool) → wk ≡ w → (e b i : Bool) → eqb index (n.line % 2 ^ l) ≡ i
            → cond (w || e) (cond (eqb index (cond w (n.walk % 2 ^ l) (n.line % 2 ^ l))) (cond (w || b) 0 (top + n.line / 2 ^ l)) (get_or (r.tags t) index 0)) (get_or (r.tags t) index 0)
            ≡ cond w (cond (eqb index n.walk) 0 (get_or (r.tags t) index 0)) (cond (e && i) (cond b 0 (top + n.line / 2 ^ l)) (get_or (r.tags t) index 0))
        by true we e b i ie = ap (λ z. cond (eqb index z) 0 (get_or (r.tags t) index 0)) (small we)
        by false we true b i ie = ap (λ z. cond z (cond b 0 (top + n.line / 2 ^ l)) (get_or (r.tags t) index 0)) ie
        by false we false b i ie = refl

    word_below : cell_in l k n.line n.place < length (r.words t)
    word_below = subst (λ z. cell_in l k n.line n.place < z) (sym (m.many_words s))
        (subst (λ z. z < 2 ^ (l + k)) (sym (cell_in_is l k least_l most_l least_k most_k n.line n.place)) (cell_below l k least_l most_l least_k most_k n.line n.place fits.place))

    word_next : (at : ℕ) → get_or (r.words (suc t)) at 0
        ≡ cond (c.keeps lines words top f ib q t && eqb at (n.line % 2 ^ l * 2 ^ k + n.place)) (ib.rsp_data t) (get_or (r.words t) at 0)
    word_next at =
        ap (λ z. get_or z at 0) (m.words s)
        ∙ (written_at (r.words t) y.keeps (cell_in l k n.line n.place) n.payload at (c.keeps lines words top f ib q t) keeps (λ e. word_below)
        ∙ ((λ j. cond (c.keeps lines words top f ib q t) (cond (eqb at (cell_in_is l k least_l most_l least_k most_k n.line n.place j)) (sym (sh.rsp_data s) j) (get_or (r.words t) at 0)) (get_or (r.words t) at 0))
        ∙ by (c.keeps lines words top f ib q t) (eqb at (n.line % 2 ^ l * 2 ^ k + n.place))))
      where
        by : (e i : Bool) → cond e (cond i (ib.rsp_data t) (get_or (r.words t) at 0)) (get_or (r.words t) at 0) ≡ cond (e && i) (ib.rsp_data t) (get_or (r.words t) at 0)
        by true i = refl
        by false i = refl

  pub is_cells : IsCells lines words top reset_pc predicts f ib q
  is_cells = record {
    pc_reset = m.pc_reset;
    walk_reset = m.walk_reset;
    given_reset = ap (λ z. eqb z 1) m.given_reset;
    owed_reset = ap (λ z. eqb z 1) m.owed_reset;
    captured_reset = ap (λ z. eqb z 1) m.captured_reset;
    full_reset = ap (λ z. eqb z 1) m.full_reset;
    pc = pc_next;
    walk = walk_next;
    given = given_next;
    owed = owed_next;
    dropped = dropped_next;
    line = line_next;
    place = place_next;
    place_fits = (m.fits 0).place;
    bad = bad_next;
    wanted = wanted_next;
    captured = captured_next;
    captured_word = captured_word_next;
    captured_error = captured_error_next;
    tag = tag_next;
    words_held = word_next;
    full = full_next;
    out_pc = out_pc_next;
    out_word = out_word_next;
    out_error = out_error_next;
    valid = sh.valid;
    item_pc = sh.pc;
    item_word = sh.word;
    item_error = sh.error;
    cmd_valid = λ s. sh.cmd_valid s ∙ (given s).is;
    cmd_addr = λ s. sh.cmd_addr s ∙ address_is l k least_l most_l least_k most_k (r.now (suc s)).line (r.now (suc s)).place;
    cmd_write = sh.cmd_write;
    cmd_data = sh.cmd_data;
    cmd_mask = sh.cmd_mask;
    asks = λ e s. ((sh.asks e s).0, (sh.asks e s).1 ∙ word s);
  }

pub runs_are_cells : RunsAreCells
runs_are_cells l k reset_pc predicts r f ib least_l most_l least_k most_k m sh = is_cells l k reset_pc predicts r f ib least_l most_l least_k most_k m sh
