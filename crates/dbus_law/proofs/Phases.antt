-- What is true of the unit's registers and the bus as a cycle begins.
use Rattle.std.proofs.Common.{◌≡◌, ℕ, zero, suc, ◌+◌, ◌<◌, ◌≤◌, Bool, true, false, cond, not, eqb, List, [], ◌∷◌, ◌&&◌, ◌||◌, Option, Some, None, refl, ap, ◌∙◌, sym, arith}
use Rattle.core_ports.specs.Trace.{Bus}
use Rattle.bus_law.specs.Memory.{Memory, IsMemory, Store, aligned_of, store_of, with_store}
use Rattle.bus_law.specs.Protocol.{is_given, is_accepted, is_write, owed}
use Rattle.bus_law.specs.Prompt.{IsPrompt, given_from, store_at}
use Rattle.isa_model.specs.Machine.{Set}
use Rattle.plug_law.specs.Exec.{ExecSignals, ExecAssumed, Alone, busy, begun, made, read}
use Rattle.dbus_law.specs.Words.{address_of, at_once, is_store, mask_of, spread_of}
use Rattle.dbus_law.specs.Machine.{Registers, IsDbus, start_by, starts, ready, answered, needs_none}
use Rattle.dbus_law.specs.Law.{dbus_terms}
use Rattle.dbus_law.proofs.Tests.{and_l, and_r, not_true, back}

-- ---- tests
pub none_either : (b : Bool) → ◌≡◌ {A = Option ℕ} (cond b None None) None
none_either true = refl
none_either false = refl

start_is : (g n c o x v : Bool) → c ≡ false → o ≡ false → (g && (not (g && (n || (o && v))) && not x)) ≡ start_by g n c o x
start_is g n true o x v h k = absurd (grind arith)
start_is g n false true x v h k = absurd (grind arith)
start_is true true false false x v h k = refl
start_is true false false false x v h k = refl
start_is false n false false x v h k = refl

start_needs : (g n c o x : Bool) → start_by g n c o x ≡ true → n ≡ false
start_needs g n c o x h = not_true n (and_l (not n) (not c && (not o && not x)) (and_r g (not n && (not c && (not o && not x))) h))

pub no_start : (g n c o x : Bool) → (c || o) ≡ true → start_by g n c o x ≡ false
no_start false n c o x h = refl
no_start true true c o x h = refl
no_start true false true o x h = refl
no_start true false false true x h = refl
no_start true false false false x h = absurd (grind arith)

module _ (set : Set) (claims : ℕ → Bool) (e : ExecSignals) (db : Bus) (mem : ℕ → Memory) (r : Registers) (is : IsDbus e db r) where
  abbrev pub Assumed : ℕ → Type 0
  Assumed s = ExecAssumed (dbus_terms set claims) e db mem s

  -- ---- the wires of a cycle
  pub given_is : (s : ℕ) → is_given db (suc s) ≡ r.given (suc s)
  unfolding is_given
  given_is s = ap (λ n. eqb n 1) (is.cmd_valid s) ∙ back (r.given (suc s))

  pub accepted_is : (s : ℕ) → is_accepted db (suc s) ≡ (r.given (suc s) && ready e db r (suc s))
  unfolding is_accepted
  accepted_is s = λ i. given_is s i && ready e db r (suc s)

  pub write_is : (s : ℕ) → is_write db (suc s) ≡ ((r.given (suc s) && ready e db r (suc s)) && r.writes (suc s))
  unfolding is_write
  write_is s = λ i. accepted_is s i && (ap (λ n. eqb n 1) (is.cmd_write s) ∙ back (r.writes (suc s))) i

  pub busy_next : (s : ℕ) → busy e (suc (suc s)) ≡ (e.go (suc s) && (not (e.go (suc s) && (needs_none e db r (suc s) || (r.owed (suc s) && answered e db r (suc s)))) && not (e.clear (suc s))))
  unfolding busy
  busy_next s = λ i. e.go (suc s) && (not (is.done s i) && not (e.clear (suc s)))

  owed_next : (s : ℕ) → owed db (suc (suc s)) ≡ cond (r.given (suc s) && ready e db r (suc s)) (Some (suc s)) (cond (answered e db r (suc s)) None (owed db (suc s)))
  unfolding owed
  owed_next s = λ i. cond (accepted_is s i) (Some (suc s)) (cond (answered e db r (suc s)) None (owed db (suc s)))

  made_next : (s : ℕ) → made e db (suc (suc s)) ≡ cond (busy e (suc (suc s))) (cond ((r.given (suc s) && ready e db r (suc s)) && r.writes (suc s)) (store_at db (suc s) ∷ made e db (suc s)) (made e db (suc s))) []
  unfolding made
  made_next s = λ i. cond (busy e (suc (suc s))) (cond (write_is s i) (store_at db (suc s) ∷ made e db (suc s)) (made e db (suc s))) []

  read_next : (s : ℕ) → read e db (suc (suc s)) ≡ cond (busy e (suc (suc s)))
      (cond ((r.given (suc s) && ready e db r (suc s)) && not ((r.given (suc s) && ready e db r (suc s)) && r.writes (suc s))) (db.cmd_addr (suc s) ∷ read e db (suc s)) (read e db (suc s))) []
  unfolding read
  read_next s = λ i. cond (busy e (suc (suc s))) (cond (accepted_is s i && not (write_is s i)) (db.cmd_addr (suc s) ∷ read e db (suc s)) (read e db (suc s))) []

  from_next : (s : ℕ) → given_from db (suc (suc s)) ≡ cond (r.given (suc s) && not (r.given (suc s) && ready e db r (suc s))) (given_from db (suc s)) (suc (suc s))
  unfolding given_from
  from_next s = λ i. cond (given_is s i && not (accepted_is s i)) (given_from db (suc s)) (suc (suc s))

  mem_next : (s : ℕ) → Alone db mem s → mem (suc (suc s)) ≡ cond ((r.given (suc s) && ready e db r (suc s)) && r.writes (suc s)) (with_store (mem (suc s)) (Some (store_at db (suc s)))) (mem (suc s))
  mem_next s h = h ∙ (λ i. cond (write_is s i) (with_store (mem (suc s)) (Some (store_at db (suc s)))) (mem (suc s)))

  pub made_calm : (s : ℕ) → busy e (suc s) ≡ false → made e db (suc s) ≡ []
  unfolding made
  made_calm s h = λ i. cond (h i) (cond (is_write db s) (store_at db s ∷ made e db s) (made e db s)) []

  pub read_calm : (s : ℕ) → busy e (suc s) ≡ false → read e db (suc s) ≡ []
  unfolding read
  read_calm s h = λ i. cond (h i) (cond (is_accepted db s && not (is_write db s)) (db.cmd_addr s ∷ read e db s) (read e db s)) []

  pub begun_calm : (s : ℕ) → busy e (suc s) ≡ false → begun e (suc s) ≡ suc s
  unfolding begun
  begun_calm s h = λ i. cond (h i) (begun e s) (suc s)

  begun_busy : (s : ℕ) → busy e (suc s) ≡ true → begun e (suc s) ≡ begun e s
  unfolding begun
  begun_busy s h = λ i. cond (h i) (begun e s) (suc s)

  -- ---- the phases, as cycle s + 1 begins
  -- the command in the registers is that of a word and its operands
  pub record Command (s word a b : ℕ) : Type 0 where
    pub address : r.address (suc s) ≡ aligned_of (address_of word a)
    pub writes : r.writes (suc s) ≡ is_store word
    pub payload : r.payload (suc s) ≡ spread_of word b
    pub mask : r.mask (suc s) ≡ mask_of word a

  pub record Resting (s : ℕ) : Type 0 where
    pub given : r.given (suc s) ≡ false
    pub owed_no : r.owed (suc s) ≡ false
    pub none : owed db (suc s) ≡ None
    pub calm : busy e (suc s) ≡ false

  -- a command is given
  pub record Asking (s : ℕ) : Type 0 where
    pub given : r.given (suc s) ≡ true
    pub owed_no : r.owed (suc s) ≡ false
    pub none : owed db (suc s) ≡ None
    pub works : busy e (suc s) ≡ true
    pub command : Command s (e.word s) (e.a s) (e.b s)
    pub needs : at_once (e.word s) (e.a s) ≡ false
    pub none_made : made e db (suc s) ≡ []
    pub none_read : read e db (suc s) ≡ []
    pub memory : mem (suc s) ≡ mem (begun e (suc s))
    pub from : given_from db (suc s) ≡ suc (begun e (suc s))
    pub soon : (w : ℕ) → ((j : ℕ) → j < s → IsPrompt db w (suc j)) → suc s ≤ begun e (suc s) + suc w

  -- what a go has written and read once its command was accepted
  abbrev pub wrote_by : (word a b : ℕ) → List Store
  wrote_by word a b = cond (is_store word) (store_of (aligned_of (address_of word a)) (spread_of word b) (mask_of word a) ∷ []) []

  abbrev pub read_by : (word a : ℕ) → List ℕ
  read_by word a = cond (is_store word) [] (aligned_of (address_of word a) ∷ [])

  -- it was accepted in cycle c, and its response is owed
  pub record Waiting (s c : ℕ) : Type 0 where
    pub given : r.given (suc s) ≡ false
    pub owed_yes : r.owed (suc s) ≡ true
    pub owes : owed db (suc s) ≡ Some c
    pub works : busy e (suc s) ≡ true
    pub address : db.cmd_addr c ≡ aligned_of (address_of (e.word s) (e.a s))
    pub write : eqb (db.cmd_write c) 1 ≡ is_store (e.word s)
    pub fits : IsMemory (mem c)
    pub memory : mem c ≡ mem (begun e (suc s))
    pub needs : at_once (e.word s) (e.a s) ≡ false
    pub all_made : made e db (suc s) ≡ wrote_by (e.word s) (e.a s) (e.b s)
    pub all_read : read e db (suc s) ≡ read_by (e.word s) (e.a s)
    pub soon : (w : ℕ) → ((j : ℕ) → j < s → IsPrompt db w (suc j)) → c ≤ begun e (suc s) + suc w

  pub data Phase (s : ℕ) : Type 0 where
    Rests : Resting s → Phase s
    Asks : Asking s → Phase s
    Waits : (c : ℕ) → Waiting s c → Phase s

  first : Phase 0
  unfolding busy owed is_accepted is_given
  first = Rests (record { given = is.given_reset; owed_no = is.owed_reset; none = none_either (eqb (db.rsp_valid 0) 1); calm = refl })

  from_rest : (s : ℕ) → Resting s → Alone db mem s → Phase (suc s)
  from_rest s h alone = by (starts e db r (suc s)) refl
    where
      works : busy e (suc (suc s)) ≡ starts e db r (suc s)
      works = busy_next s ∙ start_is (e.go (suc s)) (needs_none e db r (suc s)) (r.given (suc s)) (r.owed (suc s)) (e.clear (suc s)) (answered e db r (suc s)) h.given h.owed_no

      owed_no : r.owed (suc (suc s)) ≡ false
      owed_no = is.owed s ∙ (λ i. (h.given i && ready e db r (suc s)) || (h.owed_no i && not (h.owed_no i && answered e db r (suc s))))

      none : owed db (suc (suc s)) ≡ None
      none = owed_next s ∙ (λ i. cond (h.given i && ready e db r (suc s)) (Some (suc s)) (cond (answered e db r (suc s)) None (h.none i))) ∙ none_either (answered e db r (suc s))

      given : (b : Bool) → starts e db r (suc s) ≡ b → r.given (suc (suc s)) ≡ (b || false)
      given b g = is.given s ∙ (λ i. g i || (h.given i && not (ready e db r (suc s))))

      same_mem : mem (suc (suc s)) ≡ mem (suc s)
      same_mem = mem_next s alone ∙ (λ i. cond ((h.given i && ready e db r (suc s)) && r.writes (suc s)) (with_store (mem (suc s)) (Some (store_at db (suc s)))) (mem (suc s)))

      by : (b : Bool) → starts e db r (suc s) ≡ b → Phase (suc s)
      by true g =
          let w : busy e (suc (suc s)) ≡ true = works ∙ g in
          let start : begun e (suc (suc s)) ≡ suc s = begun_busy (suc s) w ∙ begun_calm s h.calm in
          Asks (record {
            given = given true g;
            owed_no = owed_no;
            none = none;
            works = w;
            command = record {
              address = is.address s ∙ ap (λ b. cond b (aligned_of (address_of (e.word (suc s)) (e.a (suc s)))) (r.address (suc s))) g;
              writes = is.writes s ∙ ap (λ b. cond b (is_store (e.word (suc s))) (r.writes (suc s))) g;
              payload = is.payload s ∙ ap (λ b. cond b (spread_of (e.word (suc s)) (e.b (suc s))) (r.payload (suc s))) g;
              mask = is.mask s ∙ ap (λ b. cond b (mask_of (e.word (suc s)) (e.a (suc s))) (r.mask (suc s))) g;
            };
            needs = start_needs (e.go (suc s)) (needs_none e db r (suc s)) (r.given (suc s)) (r.owed (suc s)) (e.clear (suc s)) g;
            none_made = made_next s ∙ (λ i. cond (w i) (cond ((h.given i && ready e db r (suc s)) && r.writes (suc s)) (store_at db (suc s) ∷ made e db (suc s)) (made e db (suc s))) []) ∙ made_calm s h.calm;
            none_read = read_next s ∙ (λ i. cond (w i) (cond ((h.given i && ready e db r (suc s)) && not ((h.given i && ready e db r (suc s)) && r.writes (suc s))) (db.cmd_addr (suc s) ∷ read e db (suc s)) (read e db (suc s))) []) ∙ read_calm s h.calm;
            memory = same_mem ∙ ap mem (sym start);
            from = from_next s ∙ (λ i. cond (h.given i && not (h.given i && ready e db r (suc s))) (given_from db (suc s)) (suc (suc s))) ∙ ap suc (sym start);
            soon = λ w prompt. omega arith;
          })
      by false g = Rests (record { given = given false g; owed_no = owed_no; none = none; calm = works ∙ g })

  -- what stands while a go is at work
  module _ (s : ℕ) (asked : Assumed s) (works : busy e (suc s) ≡ true) where
    pub word_same : e.word (suc s) ≡ e.word s
    word_same = (asked.stands works).3

    pub a_same : e.a (suc s) ≡ e.a s
    a_same = (asked.stands works).4

    pub b_same : e.b (suc s) ≡ e.b s
    b_same = (asked.stands works).5

    pub goes : e.go (suc s) ≡ true
    goes = (asked.stands works).0

    pub needs_same : at_once (e.word s) (e.a s) ≡ false → needs_none e db r (suc s) ≡ false
    needs_same h = (λ i. at_once (word_same i) (a_same i)) ∙ h

    pub moved : Command s (e.word s) (e.a s) (e.b s) → Command s (e.word (suc s)) (e.a (suc s)) (e.b (suc s))
    moved c = record {
      address = c.address ∙ sym (λ i. aligned_of (address_of (word_same i) (a_same i)));
      writes = c.writes ∙ sym (ap is_store word_same);
      payload = c.payload ∙ sym (λ i. spread_of (word_same i) (b_same i));
      mask = c.mask ∙ sym (λ i. mask_of (word_same i) (a_same i));
    }

    pub still : (v : Bool) → (r.owed (suc s) && answered e db r (suc s)) ≡ v → at_once (e.word s) (e.a s) ≡ false → busy e (suc (suc s)) ≡ (not v && true)
    still v h n = busy_next s ∙ (λ i. goes i && (not (goes i && (needs_same n i || h i)) && not (asked.kept refl works i)))

  from_ask : (s : ℕ) → Asking s → Assumed s → Alone db mem s → Phase (suc s)
  from_ask s h asked alone = by (ready e db r (suc s)) refl
    where
      st : starts e db r (suc s) ≡ false
      st = no_start (e.go (suc s)) (needs_none e db r (suc s)) (r.given (suc s)) (r.owed (suc s)) (e.clear (suc s)) (ap (λ b. b || r.owed (suc s)) h.given)

      w : busy e (suc (suc s)) ≡ true
      w = still s asked h.works false (ap (λ b. b && answered e db r (suc s)) h.owed_no) h.needs

      start : begun e (suc (suc s)) ≡ begun e (suc s)
      start = begun_busy (suc s) w

      c : Command s (e.word (suc s)) (e.a (suc s)) (e.b (suc s))
      c = moved s asked h.works h.command

      by : (b : Bool) → ready e db r (suc s) ≡ b → Phase (suc s)
      by false y = Asks (record {
        given = is.given s ∙ (λ i. st i || (h.given i && not (y i)));
        owed_no = is.owed s ∙ (λ i. (h.given i && y i) || (h.owed_no i && not (h.owed_no i && answered e db r (suc s))));
        none = owed_next s ∙ (λ i. cond (h.given i && y i) (Some (suc s)) (cond (answered e db r (suc s)) None (h.none i))) ∙ none_either (answered e db r (suc s));
        works = w;
        command = record {
          address = is.address s ∙ ap (λ b. cond b (aligned_of (address_of (e.word (suc s)) (e.a (suc s)))) (r.address (suc s))) st ∙ c.address;
          writes = is.writes s ∙ ap (λ b. cond b (is_store (e.word (suc s))) (r.writes (suc s))) st ∙ c.writes;
          payload = is.payload s ∙ ap (λ b. cond b (spread_of (e.word (suc s)) (e.b (suc s))) (r.payload (suc s))) st ∙ c.payload;
          mask = is.mask s ∙ ap (λ b. cond b (mask_of (e.word (suc s)) (e.a (suc s))) (r.mask (suc s))) st ∙ c.mask;
        };
        needs = needs_same s asked h.works h.needs;
        none_made = made_next s ∙ (λ i. cond (w i) (cond ((h.given i && y i) && r.writes (suc s)) (store_at db (suc s) ∷ made e db (suc s)) (made e db (suc s))) []) ∙ h.none_made;
        none_read = read_next s ∙ (λ i. cond (w i) (cond ((h.given i && y i) && not ((h.given i && y i) && r.writes (suc s))) (db.cmd_addr (suc s) ∷ read e db (suc s)) (read e db (suc s))) []) ∙ h.none_read;
        memory = mem_next s alone ∙ (λ i. cond ((h.given i && y i) && r.writes (suc s)) (with_store (mem (suc s)) (Some (store_at db (suc s)))) (mem (suc s))) ∙ h.memory ∙ ap mem (sym start);
        from = from_next s ∙ (λ i. cond (h.given i && not (h.given i && y i)) (given_from db (suc s)) (suc (suc s))) ∙ h.from ∙ ap suc (sym start);
        soon = λ k prompt.
            let p : suc s < given_from db (suc s) + k = (prompt s (omega arith)).accepts (given_is s ∙ h.given) (accepted_is s ∙ (λ i. h.given i && y i)) in
            let f : given_from db (suc s) ≡ suc (begun e (suc s)) = h.from in
            let q : begun e (suc (suc s)) ≡ begun e (suc s) = start in
            omega arith;
      })
      by true y = Waits (suc s) (record {
        given = is.given s ∙ (λ i. st i || (h.given i && not (y i)));
        owed_yes = is.owed s ∙ (λ i. (h.given i && y i) || (h.owed_no i && not (h.owed_no i && answered e db r (suc s))));
        owes = owed_next s ∙ (λ i. cond (h.given i && y i) (Some (suc s)) (cond (answered e db r (suc s)) None (h.none i)));
        works = w;
        address = is.cmd_addr s ∙ c.address;
        write = ap (λ n. eqb n 1) (is.cmd_write s) ∙ back (r.writes (suc s)) ∙ c.writes;
        fits = (asked.memory refl).is;
        memory = h.memory ∙ ap mem (sym start);
        needs = needs_same s asked h.works h.needs;
        all_made = made_next s ∙ (λ i. cond (w i) (cond ((h.given i && y i) && c.writes i) (store_of ((is.cmd_addr s ∙ c.address) i) ((is.cmd_data s ∙ c.payload) i) ((is.cmd_mask s ∙ c.mask) i) ∷ h.none_made i) (h.none_made i)) []);
        all_read = read_next s ∙ (λ i. cond (w i) (cond ((h.given i && y i) && not ((h.given i && y i) && c.writes i)) ((is.cmd_addr s ∙ c.address) i ∷ h.none_read i) (h.none_read i)) []) ∙ turned (is_store (e.word (suc s))) _;
        soon = λ k prompt. let l : suc s ≤ begun e (suc s) + suc k = h.soon k (λ j lt. prompt j (omega arith)) in let q : begun e (suc (suc s)) ≡ begun e (suc s) = start in omega arith;
      })
        where
          turned : (b : Bool) (x : ℕ) → cond (not b) (x ∷ []) [] ≡ cond b [] (x ∷ [])
          turned true x = refl
          turned false x = refl

  from_wait : (s c : ℕ) → Waiting s c → Assumed s → Alone db mem s → Phase (suc s)
  from_wait s c h asked alone = by (answered e db r (suc s)) refl
    where
      st : starts e db r (suc s) ≡ false
      st = no_start (e.go (suc s)) (needs_none e db r (suc s)) (r.given (suc s)) (r.owed (suc s)) (e.clear (suc s)) (or_owed (r.given (suc s)) h.owed_yes)
        where
          or_owed : (b : Bool) → r.owed (suc s) ≡ true → (b || r.owed (suc s)) ≡ true
          or_owed true k = refl
          or_owed false k = k

      by : (b : Bool) → answered e db r (suc s) ≡ b → Phase (suc s)
      by true v = Rests (record {
        given = is.given s ∙ (λ i. st i || (h.given i && not (ready e db r (suc s))));
        owed_no = is.owed s ∙ (λ i. (h.given i && ready e db r (suc s)) || (h.owed_yes i && not (h.owed_yes i && v i)));
        none = owed_next s ∙ (λ i. cond (h.given i && ready e db r (suc s)) (Some (suc s)) (cond (v i) None (owed db (suc s))));
        calm = still s asked h.works true (λ i. h.owed_yes i && v i) h.needs;
      })
      by false v =
          let w : busy e (suc (suc s)) ≡ true = still s asked h.works false (λ i. h.owed_yes i && v i) h.needs in
          let start : begun e (suc (suc s)) ≡ begun e (suc s) = begun_busy (suc s) w in
          let word = word_same s asked h.works in
          let a = a_same s asked h.works in
          let b = b_same s asked h.works in
          Waits c (record {
            given = is.given s ∙ (λ i. st i || (h.given i && not (ready e db r (suc s))));
            owed_yes = is.owed s ∙ (λ i. (h.given i && ready e db r (suc s)) || (h.owed_yes i && not (h.owed_yes i && v i)));
            owes = owed_next s ∙ (λ i. cond (h.given i && ready e db r (suc s)) (Some (suc s)) (cond (v i) None (h.owes i)));
            works = w;
            address = h.address ∙ sym (λ i. aligned_of (address_of (word i) (a i)));
            write = h.write ∙ sym (ap is_store word);
            fits = h.fits;
            memory = h.memory ∙ ap mem (sym start);
            needs = needs_same s asked h.works h.needs;
            all_made = made_next s ∙ (λ i. cond (w i) (cond ((h.given i && ready e db r (suc s)) && r.writes (suc s)) (store_at db (suc s) ∷ made e db (suc s)) (made e db (suc s))) []) ∙ h.all_made ∙ sym (λ i. wrote_by (word i) (a i) (b i));
            all_read = read_next s ∙ (λ i. cond (w i) (cond ((h.given i && ready e db r (suc s)) && not ((h.given i && ready e db r (suc s)) && r.writes (suc s))) (db.cmd_addr (suc s) ∷ read e db (suc s)) (read e db (suc s))) []) ∙ h.all_read ∙ sym (λ i. read_by (word i) (a i));
            soon = λ k prompt. let l : c ≤ begun e (suc s) + suc k = h.soon k (λ j lt. prompt j (omega arith)) in omega arith;
          })

  pub phase_at : (s : ℕ) → ((j : ℕ) → j < s → Assumed j) → ((j : ℕ) → j < s → Alone db mem j) → Phase s
  phase_at zero asks alone = first
  phase_at (suc s) asks alone = by (phase_at s (λ j lt. asks j (omega arith)) (λ j lt. alone j (omega arith)))
    where
      by : Phase s → Phase (suc s)
      by (Rests h) = from_rest s h (alone s (omega arith))
      by (Asks h) = from_ask s h (asks s (omega arith)) (alone s (omega arith))
      by (Waits c h) = from_wait s c h (asks s (omega arith)) (alone s (omega arith))
