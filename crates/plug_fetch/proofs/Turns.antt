-- The part with truth values for bits, by place of the queue: one cycle, and its runs.
use Rattle.std.specs.Prelude.{◌≡◌, ℕ, zero, suc, ◌-◌, ◌<◌, Bool, true, false, cond, not, eqb, ltb, List, [], ◌∷◌, ◌&&◌, ◌||◌}
use Rattle.core_words.specs.Values.{one_if}
use Rattle.core_ports.specs.Trace.{Bus}
use Rattle.plug_law.specs.Fetch.{FetchSignals}
use Rattle.plug_fetch.proofs.Queue.{Item, Registers}

pub record Turn : Type 0 where
  -- by place of the queue
  pub held : ℕ → Bool
  pub pc : ℕ → ℕ
  pub word : ℕ → ℕ
  pub error : ℕ → Bool
  pub given : Bool
  pub owed : Bool
  pub dropped : Bool
  pub address : ℕ
  pub next_pc : ℕ
  -- what comes
  pub take : Bool
  pub redirect : Bool
  pub redirect_pc : ℕ
  pub ready : Bool
  pub answered : Bool
  pub failed : Bool
  pub payload : ℕ
  pub predicted : ℕ

-- a place after a take: its successor's, and nothing comes from beyond the last place
abbrev pub moved_if : (take more own next : Bool) → Bool
moved_if take more own next = cond take (more && next) own

-- the first empty place takes what came
abbrev pub fills_if : (kept moved before : Bool) → Bool
fills_if kept moved before = kept && (not moved && before)

abbrev pub response : Turn → Bool
response n = n.owed && n.answered

abbrev pub idle : Turn → Bool
idle n = not (n.given || n.owed) || response n

abbrev pub kept : Turn → Bool
kept n = response n && not n.dropped

module _ (depth : ℕ) (n : Turn) where
  abbrev pub moved : ℕ → Bool
  moved i = moved_if n.take (ltb (suc i) depth) (n.held i) (n.held (suc i))

  abbrev pub is_before : ℕ → Bool
  is_before zero = true
  is_before (suc i) = moved i

  abbrev pub fills : ℕ → Bool
  fills i = fills_if (kept n) (moved i) (is_before i)

  abbrev pub held_after : ℕ → Bool
  held_after i = not n.redirect && (moved i || fills i)

  -- the contents of a place: those that came, its successor's, or its own
  abbrev pub put : {A : Type 0} → ℕ → (came next own : A) → A
  put i came next own = cond (fills i) came (cond (n.take && ltb (suc i) depth) next own)

  abbrev pub pc_after : ℕ
  pc_after = cond n.redirect n.redirect_pc (cond (kept n) n.predicted n.next_pc)

  abbrev pub given_after : Bool
  given_after = (idle n && not (held_after (depth - 1))) || (n.given && not n.ready)

  abbrev pub owed_after : Bool
  owed_after = (n.given && n.ready) || (n.owed && not (response n))

  abbrev pub dropped_after : Bool
  dropped_after = (n.redirect || n.dropped) && not (idle n)

  abbrev pub address_after : ℕ
  address_after = cond (idle n) pc_after n.address

-- the registers, by place and cycle, and by cycle
pub record Places : Type 0 where
  pub held : (i t : ℕ) → Bool
  pub pc : (i t : ℕ) → ℕ
  pub word : (i t : ℕ) → ℕ
  pub error : (i t : ℕ) → Bool
  pub given : ℕ → Bool
  pub owed : ℕ → Bool
  pub dropped : ℕ → Bool
  pub address : ℕ → ℕ
  pub next_pc : ℕ → ℕ

abbrev pub item_at : Places → (t i : ℕ) → Item
item_at q t i = record { pc = q.pc i t; word = q.word i t; error = q.error i t }

-- the items of n places from place i on, up to the first that is empty
unfoldable pub items : (held : ℕ → Bool) → (item : ℕ → Item) → (n i : ℕ) → List Item
items held item zero i = []
items held item (suc n) i = cond (held i) (item i ∷ items held item n (suc i)) []

-- the part with a queue that these places are
abbrev pub listed : (depth : ℕ) → Places → Registers
listed depth q = record {
  queue = λ t. items (λ i. q.held i t) (item_at q t) depth 0;
  given = q.given;
  owed = q.owed;
  dropped = q.dropped;
  address = q.address;
  next_pc = q.next_pc;
}

-- a cycle of the part with these ports and registers
abbrev pub now_at : FetchSignals → (guess : ℕ → ℕ) → Bus → Places → ℕ → Turn
now_at f guess ib q t = record {
  held = λ i. q.held i t;
  pc = λ i. q.pc i t;
  word = λ i. q.word i t;
  error = λ i. q.error i t;
  given = q.given t;
  owed = q.owed t;
  dropped = q.dropped t;
  address = q.address t;
  next_pc = q.next_pc t;
  take = f.take t;
  redirect = f.redirect t;
  redirect_pc = f.redirect_pc t;
  ready = eqb (ib.cmd_ready t) 1;
  answered = eqb (ib.rsp_valid t) 1;
  failed = eqb (ib.rsp_error t) 1;
  payload = ib.rsp_data t;
  predicted = guess t;
}

pub record IsPlaces (depth reset_pc : ℕ) (f : FetchSignals) (guess : ℕ → ℕ) (ib : Bus) (q : Places) : Type 0 where
  pub held_reset : (i : ℕ) → i < depth → q.held i 1 ≡ false
  pub given_reset : q.given 1 ≡ false
  pub owed_reset : q.owed 1 ≡ false
  pub dropped_reset : q.dropped 1 ≡ false
  pub next_pc_reset : q.next_pc 1 ≡ reset_pc
  pub held : (s i : ℕ) → i < depth → q.held i (suc (suc s)) ≡ held_after depth (now_at f guess ib q (suc s)) i
  pub pc : (s i : ℕ) → i < depth → q.pc i (suc (suc s)) ≡ put depth (now_at f guess ib q (suc s)) i (q.address (suc s)) (q.pc (suc i) (suc s)) (q.pc i (suc s))
  pub word : (s i : ℕ) → i < depth → q.word i (suc (suc s)) ≡ put depth (now_at f guess ib q (suc s)) i (ib.rsp_data (suc s)) (q.word (suc i) (suc s)) (q.word i (suc s))
  pub error : (s i : ℕ) → i < depth → q.error i (suc (suc s)) ≡ put depth (now_at f guess ib q (suc s)) i (eqb (ib.rsp_error (suc s)) 1) (q.error (suc i) (suc s)) (q.error i (suc s))
  pub given : (s : ℕ) → q.given (suc (suc s)) ≡ given_after depth (now_at f guess ib q (suc s))
  pub owed : (s : ℕ) → q.owed (suc (suc s)) ≡ owed_after depth (now_at f guess ib q (suc s))
  pub dropped : (s : ℕ) → q.dropped (suc (suc s)) ≡ dropped_after depth (now_at f guess ib q (suc s))
  pub address : (s : ℕ) → q.address (suc (suc s)) ≡ address_after depth (now_at f guess ib q (suc s))
  pub next_pc : (s : ℕ) → q.next_pc (suc (suc s)) ≡ pc_after depth (now_at f guess ib q (suc s))
  pub valid : (s : ℕ) → f.valid (suc s) ≡ q.held 0 (suc s)
  pub offers_pc : (s : ℕ) → f.pc (suc s) ≡ q.pc 0 (suc s)
  pub offers_word : (s : ℕ) → f.word (suc s) ≡ q.word 0 (suc s)
  pub offers_error : (s : ℕ) → f.error (suc s) ≡ q.error 0 (suc s)
  pub cmd_valid : (s : ℕ) → ib.cmd_valid (suc s) ≡ one_if (q.given (suc s))
  pub cmd_addr : (s : ℕ) → ib.cmd_addr (suc s) ≡ q.address (suc s)
  pub cmd_write : (s : ℕ) → ib.cmd_write (suc s) ≡ 0
  pub cmd_data : (s : ℕ) → ib.cmd_data (suc s) ≡ 0
  pub cmd_mask : (s : ℕ) → ib.cmd_mask (suc s) ≡ 0
