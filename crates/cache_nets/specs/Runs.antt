-- A run of the equations: its cycles by number, the contents of both arrays, and what they show on the ports. Cycle 0 is the cycle of reset.
use Rattle.std.specs.Prelude.{◌≡◌, ℕ, suc, ◌+◌, ◌-◌, ◌^◌, ◌<◌, ◌≤◌, Bool, true, cond, eqb, List, length, get_or, set}
use Rattle.core_ports.specs.Trace.{Bus}
use Rattle.isa_model.specs.Effects.{behind}
use Rattle.plug_law.specs.Fetch.{FetchSignals}
use Rattle.cache_law.specs.Cells.{Cells, IsCells}
use Rattle.cache_nets.specs.Machine.{Now, WriteNow, address_in, caught_after, cell_at, fill_at, front_after, index_at, item_after, reading_after, search_at, tag_write, word_write}

pub record Run : Type 0 where
  pub now : ℕ → Now
  -- the contents of the arrays of tags and of words
  pub tags : ℕ → List ℕ
  pub words : ℕ → List ℕ

-- what is one bit wide is a bit, and the others fit their widths
pub record Fits (l k : ℕ) (n : Now) : Type 0 where
  pub given : n.given < 2
  pub owed : n.owed < 2
  pub dropped : n.dropped < 2
  pub bad : n.bad < 2
  pub wanted : n.wanted < 2
  pub captured : n.captured < 2
  pub captured_error : n.captured_error < 2
  pub full : n.full < 2
  pub take : n.take < 2
  pub redirect : n.redirect < 2
  pub fence : n.fence < 2
  pub ready : n.ready < 2
  pub answered : n.answered < 2
  pub failed : n.failed < 2
  pub pc : n.pc < 2 ^ 32
  pub walk : n.walk < 2 ^ (l + 1)
  pub line : n.line < 2 ^ (30 - k)
  pub place : n.place < 2 ^ k

-- an array behind a write
abbrev pub written : List ℕ → WriteNow → List ℕ
written cells w = cond (eqb w.enable 1) (set cells w.addr w.item) cells

-- each register and array follows its equation. Those that the reset sets are told as cycle 1 begins.
pub record IsCached (l k reset_pc : ℕ) (r : Run) : Type 0 where
  pub fits : (s : ℕ) → Fits l k (r.now (suc s))
  pub many_tags : (s : ℕ) → length (r.tags (suc s)) ≡ 2 ^ l
  pub many_words : (s : ℕ) → length (r.words (suc s)) ≡ 2 ^ (l + k)
  -- what is looked up
  pub tag : (s : ℕ) → (r.now (suc s)).tag ≡ get_or (r.tags (suc s)) (index_at l k (r.now (suc s)).pc) 0
  pub cell : (s : ℕ) → (r.now (suc s)).cell ≡ get_or (r.words (suc s)) (cell_at l k (r.now (suc s)).pc) 0
  pub pc_reset : (r.now 1).pc ≡ reset_pc
  pub walk_reset : (r.now 1).walk ≡ 0
  pub given_reset : (r.now 1).given ≡ 0
  pub owed_reset : (r.now 1).owed ≡ 0
  pub captured_reset : (r.now 1).captured ≡ 0
  pub full_reset : (r.now 1).full ≡ 0
  pub pc : (s : ℕ) → (r.now (suc (suc s))).pc ≡ (front_after l k (r.now (suc s)) (search_at l k (r.now (suc s))) (fill_at k (r.now (suc s)))).first
  pub walk : (s : ℕ) → (r.now (suc (suc s))).walk ≡ (front_after l k (r.now (suc s)) (search_at l k (r.now (suc s))) (fill_at k (r.now (suc s)))).second
  pub given : (s : ℕ) → (r.now (suc (suc s))).given ≡ (front_after l k (r.now (suc s)) (search_at l k (r.now (suc s))) (fill_at k (r.now (suc s)))).third
  pub owed : (s : ℕ) → (r.now (suc (suc s))).owed ≡ (front_after l k (r.now (suc s)) (search_at l k (r.now (suc s))) (fill_at k (r.now (suc s)))).fourth
  pub dropped : (s : ℕ) → (r.now (suc (suc s))).dropped ≡ (reading_after l k (r.now (suc s)) (search_at l k (r.now (suc s))) (fill_at k (r.now (suc s)))).first
  pub line : (s : ℕ) → (r.now (suc (suc s))).line ≡ (reading_after l k (r.now (suc s)) (search_at l k (r.now (suc s))) (fill_at k (r.now (suc s)))).second
  pub place : (s : ℕ) → (r.now (suc (suc s))).place ≡ (reading_after l k (r.now (suc s)) (search_at l k (r.now (suc s))) (fill_at k (r.now (suc s)))).third
  pub bad : (s : ℕ) → (r.now (suc (suc s))).bad ≡ (reading_after l k (r.now (suc s)) (search_at l k (r.now (suc s))) (fill_at k (r.now (suc s)))).fourth
  pub wanted : (s : ℕ) → (r.now (suc (suc s))).wanted ≡ (caught_after l k (r.now (suc s)) (search_at l k (r.now (suc s))) (fill_at k (r.now (suc s)))).first
  pub captured : (s : ℕ) → (r.now (suc (suc s))).captured ≡ (caught_after l k (r.now (suc s)) (search_at l k (r.now (suc s))) (fill_at k (r.now (suc s)))).second
  pub captured_word : (s : ℕ) → (r.now (suc (suc s))).captured_word ≡ (caught_after l k (r.now (suc s)) (search_at l k (r.now (suc s))) (fill_at k (r.now (suc s)))).third
  pub captured_error : (s : ℕ) → (r.now (suc (suc s))).captured_error ≡ (caught_after l k (r.now (suc s)) (search_at l k (r.now (suc s))) (fill_at k (r.now (suc s)))).fourth
  pub full : (s : ℕ) → (r.now (suc (suc s))).full ≡ (item_after l k (r.now (suc s)) (search_at l k (r.now (suc s))) (fill_at k (r.now (suc s)))).first
  pub out_pc : (s : ℕ) → (r.now (suc (suc s))).out_pc ≡ (item_after l k (r.now (suc s)) (search_at l k (r.now (suc s))) (fill_at k (r.now (suc s)))).second
  pub out_word : (s : ℕ) → (r.now (suc (suc s))).out_word ≡ (item_after l k (r.now (suc s)) (search_at l k (r.now (suc s))) (fill_at k (r.now (suc s)))).third
  pub out_error : (s : ℕ) → (r.now (suc (suc s))).out_error ≡ (item_after l k (r.now (suc s)) (search_at l k (r.now (suc s))) (fill_at k (r.now (suc s)))).fourth
  pub tags : (s : ℕ) → r.tags (suc (suc s)) ≡ written (r.tags (suc s)) (tag_write l k (r.now (suc s)) (search_at l k (r.now (suc s))) (fill_at k (r.now (suc s))))
  pub words : (s : ℕ) → r.words (suc (suc s)) ≡ written (r.words (suc s)) (word_write l k (r.now (suc s)) (search_at l k (r.now (suc s))) (fill_at k (r.now (suc s))))

-- The item is offered, and the command is given on the bus. Predict is asked about the item that is looked up, where it is offered.
pub record Shows (l k : ℕ) (predicts : Bool) (r : Run) (f : FetchSignals) (ib : Bus) : Type 0 where
  pub take : (s : ℕ) → f.take (suc s) ≡ eqb (r.now (suc s)).take 1
  pub redirect : (s : ℕ) → f.redirect (suc s) ≡ eqb (r.now (suc s)).redirect 1
  pub redirect_pc : (s : ℕ) → f.redirect_pc (suc s) ≡ (r.now (suc s)).redirect_pc
  pub fence : (s : ℕ) → f.fence (suc s) ≡ eqb (r.now (suc s)).fence 1
  pub valid : (s : ℕ) → f.valid (suc s) ≡ eqb (r.now (suc s)).full 1
  pub pc : (s : ℕ) → f.pc (suc s) ≡ (r.now (suc s)).out_pc
  pub word : (s : ℕ) → f.word (suc s) ≡ (r.now (suc s)).out_word
  pub error : (s : ℕ) → f.error (suc s) ≡ eqb (r.now (suc s)).out_error 1
  pub cmd_valid : (s : ℕ) → ib.cmd_valid (suc s) ≡ (r.now (suc s)).given
  pub cmd_addr : (s : ℕ) → ib.cmd_addr (suc s) ≡ address_in k (r.now (suc s)).line (r.now (suc s)).place
  pub cmd_write : (s : ℕ) → ib.cmd_write (suc s) ≡ 0
  pub cmd_data : (s : ℕ) → ib.cmd_data (suc s) ≡ 0
  pub cmd_mask : (s : ℕ) → ib.cmd_mask (suc s) ≡ 0
  pub cmd_ready : (s : ℕ) → ib.cmd_ready (suc s) ≡ (r.now (suc s)).ready
  pub rsp_valid : (s : ℕ) → ib.rsp_valid (suc s) ≡ (r.now (suc s)).answered
  pub rsp_error : (s : ℕ) → ib.rsp_error (suc s) ≡ (r.now (suc s)).failed
  pub rsp_data : (s : ℕ) → ib.rsp_data (suc s) ≡ (r.now (suc s)).payload
  pub asks : predicts ≡ true → (s : ℕ) → (f.asked_pc (suc s) ≡ (r.now (suc s)).pc) × (f.asked_word (suc s) ≡ (search_at l k (r.now (suc s))).word)
  pub guess : (s : ℕ) → (r.now (suc s)).guess ≡ cond predicts (f.answered (suc s)) (behind (r.now (suc s)).pc)

-- the registers and arrays of a run as those of the cached fetch
abbrev pub cells_of : Run → Cells
cells_of r = record {
  pc = λ t. (r.now t).pc;
  walk = λ t. (r.now t).walk;
  given = λ t. eqb (r.now t).given 1;
  owed = λ t. eqb (r.now t).owed 1;
  dropped = λ t. eqb (r.now t).dropped 1;
  line = λ t. (r.now t).line;
  place = λ t. (r.now t).place;
  bad = λ t. eqb (r.now t).bad 1;
  wanted = λ t. eqb (r.now t).wanted 1;
  captured = λ t. eqb (r.now t).captured 1;
  captured_word = λ t. (r.now t).captured_word;
  captured_error = λ t. eqb (r.now t).captured_error 1;
  tag = λ t index. get_or (r.tags t) index 0;
  words_held = λ t at. get_or (r.words t) at 0;
  full = λ t. eqb (r.now t).full 1;
  out_pc = λ t. (r.now t).out_pc;
  out_word = λ t. (r.now t).out_word;
  out_error = λ t. eqb (r.now t).out_error 1;
}

abbrev pub RunsAreCells : Type 0
RunsAreCells =
    (l k reset_pc : ℕ) (predicts : Bool) (r : Run) (f : FetchSignals) (ib : Bus)
    → 1 ≤ l → l ≤ 10 → 1 ≤ k → k ≤ 4 → IsCached l k reset_pc r → Shows l k predicts r f ib
    → IsCells (2 ^ l) (2 ^ k) (2 ^ (30 - k - l)) reset_pc predicts f ib (cells_of r)
