-- Wrong cores that the claims refuse: one that shows no event, one that begins an instruction only after the one before has
-- left, and one that takes a unit's done for two events.
use Rattle.std.proofs.Common.{◌≡◌, ℕ, zero, suc, ◌+◌, ◌*◌, ◌<◌, ◌≤◌, Bool, true, false, cond, not, eqb, leb, ◌&&◌, ◌||◌, Some, is_some, refl, ap, ◌∙◌, sym, arith}
use Rattle.core_ports.specs.Trace.{Trace, instruction_bus, data_bus, has_event, port_event, lines_at}
use Rattle.bus_law.specs.Honest.{Within}
use Rattle.isa_model.specs.Machine.{Machine, Set}
use Rattle.isa_model.specs.Run.{History, now}
use Rattle.plug_law.specs.Table.{Table}
use Rattle.plug_law.specs.Pipeline.{Pipe, Shape}
use Rattle.pipe_law.proofs.Basics.{both}
use Rattle.pipe_law.proofs.Exact.{few_others}
use Rattle.pipe_law.specs.Brisk.{Brisk, IsWait, count}
use Rattle.pipe_law.specs.Overlap.{IsStream, Overlap}
use Rattle.pipe_law.specs.Serves.{IsServed, Serves}

-- all of a number of cycles
count_all : (len u : ℕ) → count (λ k. true) u len ≡ len
unfolding count
count_all zero u = refl
count_all (suc len) u = let z = count_all len (suc u) in omega arith

-- where the machine runs on and no word that may be fetched is a WFI, a core without events is not brisk
pub no_event_refused : (t : Table) (fetch exec : ℕ → ℕ) (start : Machine) (run' : Trace) (n : ℕ) (past : ℕ → History)
    → ((k : ℕ) → k < n → has_event run' k ≡ false) → ((k : ℕ) → k < n → (now start (past k)).stopped ≡ false)
    → ((k : ℕ) → k < n → IsWait t start (past k) (lines_at run' k) → ⊥)
    → (w : ℕ) → 1 ≤ w → Within (instruction_bus run') (data_bus run') w n → 2 * fetch w + 3 * exec w + 20 < n → Brisk t fetch exec start run' n past → ⊥
no_event_refused t fetch exec start run' zero past silent alive busy w w_some within long b = omega arith
no_event_refused t fetch exec start run' (suc n) past silent alive busy w w_some within long b =
    let few : count (λ k. true) 1 n < 2 * fetch w + 3 * exec w + 20
    = few_others t fetch exec start run' (suc n) past b (λ k. false) (λ k a l e. absurd (busy k l e)) w w_some within 1 n (omega arith) (omega arith) (λ k a l. (silent k (omega arith), alive k (omega arith))) in
    let all = count_all n 1 in
    omega arith

-- no two events in neighbouring cycles
sparse : (f : ℕ → Bool) → ((k : ℕ) → f k ≡ true → f (suc k) ≡ false) → (len u : ℕ) → count f u len + count f u len ≤ suc len
unfolding count
sparse f apart zero u = omega arith
sparse f apart (suc zero) u = by (f u)
  where
    by : (b : Bool) → (cond b 1 0 + 0) + (cond b 1 0 + 0) ≤ 2
    by true = omega arith
    by false = omega arith
sparse f apart (suc (suc len)) u = by (f u) refl (f (suc u)) refl (sparse f apart len (suc (suc u)))
  where
    by : (a : Bool) → f u ≡ a → (b : Bool) → f (suc u) ≡ b → count f (suc (suc u)) len + count f (suc (suc u)) len ≤ suc len → count f u (suc (suc len)) + count f u (suc (suc len)) ≤ suc (suc (suc len))
    by true x true y l = both (f (suc u)) y (apart u x)
    by true x false y l = let a : ◌≡◌ {A = ℕ} (cond (f u) 1 0) 1 = ap (λ z. cond z 1 0) x in let b : ◌≡◌ {A = ℕ} (cond (f (suc u)) 1 0) 0 = ap (λ z. cond z 1 0) y in omega arith
    by false x true y l = let a : ◌≡◌ {A = ℕ} (cond (f u) 1 0) 0 = ap (λ z. cond z 1 0) x in let b : ◌≡◌ {A = ℕ} (cond (f (suc u)) 1 0) 1 = ap (λ z. cond z 1 0) y in omega arith
    by false x false y l = let a : ◌≡◌ {A = ℕ} (cond (f u) 1 0) 0 = ap (λ z. cond z 1 0) x in let b : ◌≡◌ {A = ℕ} (cond (f (suc u)) 1 0) 0 = ap (λ z. cond z 1 0) y in omega arith

-- a core with at most one event in two cycles does not overlap, where some stream is as long as twelve cycles
pub one_by_one_refused : (s : Set) (t : Table) (quick : (row : ℕ) → Type 0) (predict : ℕ → ℕ → ℕ) (start : Machine) (run' : Trace) (n : ℕ) (past : ℕ → History)
    → ((k : ℕ) → has_event run' k ≡ true → has_event run' (suc k) ≡ false) → (u k : ℕ) → 1 ≤ u → u + k ≤ n → 12 ≤ k → IsStream s t quick predict start run' past u k
    → Overlap s t quick predict 5 start run' n past → ⊥
one_by_one_refused s t quick predict start run' n past apart u k u_some inside long stream o =
    let most = o u k u_some inside stream in
    let few = sparse (has_event run') apart k u in
    omega arith

-- two retirements of one row, where its unit is done in one cycle alone
pub done_twice_refused : (t : Table) (owner : ℕ → ℕ) (sh : Shape) (p : Pipe) (run' : Trace) (n j k row : ℕ) → j < k → k < n → has_event run' j ≡ true → has_event run' k ≡ true
    → (port_event run' j).kind ≡ 0 → (port_event run' k).kind ≡ 0 → t.row_of (port_event run' j).word ≡ Some row → t.row_of (port_event run' k).word ≡ Some row
    → (cycle : ℕ) → ((i : ℕ) → (p.unit (owner row)).done i ≡ true → i ≡ cycle) → Serves t owner sh p run' n → ⊥
done_twice_refused t owner sh p run' n j k row before inside ej ek kj kk rj rk cycle only s =
    let a = s.serves j row (omega arith) ej (is_served j kj) rj in
    let b = s.serves k row inside ek (is_served k kk) rk in
    s.once j k row row before inside ej ek (is_served j kj) (is_served k kk) rj rk refl (only (s.served j) a.1.done ∙ sym (only (s.served k) b.1.done))
  where
    is_served : (i : ℕ) → (port_event run' i).kind ≡ 0 → IsServed t (port_event run' i) ≡ true
    is_served i z = λ o. eqb (z o) 0 || (not (eqb (port_event run' i).kind 2) && (eqb (port_event run' i).cause 0
        || ((leb 4 (port_event run' i).cause && leb (port_event run' i).cause 7) || (eqb (port_event run' i).cause 2 && is_some (t.row_of (port_event run' i).word)))))
