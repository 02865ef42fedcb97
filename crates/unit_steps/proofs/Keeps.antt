-- A unit without a bus that may work for several cycles keeps the law of Exec, by what holds of its registers as each cycle begins.
use Rattle.std.proofs.Common.{◌≡◌, ◌∙◌, ℕ, zero, suc, ◌+◌, ◌*◌, ◌<◌, ◌≤◌, Bool, true, false, cond, not, eqb, ◌&&◌, List, [], ◌∷◌, Some, None, refl, arith, ap, sym, subst, inl}
use Rattle.std.specs.Prelude.{option_to_list, is_some}
use Rattle.std.proofs.lemmas.Bool.{and_parts, both_ways}
use Rattle.core_ports.specs.Trace.{Bus}
use Rattle.bus_law.specs.Memory.{Memory, Store}
use Rattle.bus_law.specs.Protocol.{is_given, is_accepted, is_write, owed}
use Rattle.bus_law.specs.Duties.{is_repeated, is_mask, breaks_standing, breaks_waiting, breaks_form}
use Rattle.bus_law.specs.Prompt.{store_at}
use Rattle.isa_csr.specs.Csrs.{Csrs}
use Rattle.isa_model.specs.Effects.{Moment, write_of, rests}
use Rattle.isa_model.specs.Run.{is_fence_word}
use Rattle.plug_law.specs.Exec.{ExecSignals, Terms, ExecAssumed, ExecKept, ExecLaw, IsTimely, Alone, Shows, effect_at, busy, made, made_by, worked, no_bus, bus_of}

-- a go in cycle s + 1, of a row that the unit takes
pub record IsClaimed (x : Terms) (e : ExecSignals) (s : ℕ) : Type 0 where
  pub goes : e.go (suc s) ≡ true
  pub claims : x.claims (e.row (suc s)) ≡ true
  pub is_row : x.table.row_of (e.word (suc s)) ≡ Some (e.row (suc s))

-- `At row pc word a b t n` says of the registers as cycle t begins that n cycles of the go with these inputs are done. `works` is the
-- unit's own mark of a go at work, and `ends` that the cycle is the go's last one.
pub record IsUnit (x : Terms) (e : ExecSignals) (mem : ℕ → Memory) (csrs : ℕ → Csrs) (moments : ℕ → Moment)
    (works ends : ℕ → Bool) (At : (row pc word a b t n : ℕ) → Type 0) : Type 0 where
  pub no_bus_is : x.holds ≡ false
  pub first : works 1 ≡ false
  pub next : (s : ℕ) → works (suc (suc s)) ≡ (e.go (suc s) && (not (ends (suc s)) && not (e.clear (suc s))))
  pub done : (s : ℕ) → e.done (suc s) ≡ (e.go (suc s) && ends (suc s))
  pub begins : (s : ℕ) → IsClaimed x e s → works (suc s) ≡ false
      → At (e.row (suc s)) (e.pc (suc s)) (e.word (suc s)) (e.a (suc s)) (e.b (suc s)) (suc s) 0
  pub goes_on : (s n : ℕ) → IsClaimed x e s → At (e.row (suc s)) (e.pc (suc s)) (e.word (suc s)) (e.a (suc s)) (e.b (suc s)) (suc s) n
      → ends (suc s) ≡ false → works (suc (suc s)) ≡ true
      → At (e.row (suc s)) (e.pc (suc s)) (e.word (suc s)) (e.a (suc s)) (e.b (suc s)) (suc (suc s)) (suc n)
  pub shows : (s n : ℕ) → IsClaimed x e s → At (e.row (suc s)) (e.pc (suc s)) (e.word (suc s)) (e.a (suc s)) (e.b (suc s)) (suc s) n
      → ends (suc s) ≡ true
      → Shows (effect_at x.table e mem csrs moments (suc s)) (e.value (suc s)) (e.next_pc (suc s)) (e.cause (suc s)) (e.tval (suc s)) (e.trap (suc s))
      × (e.fence (suc s) ≡ is_fence_word (e.word (suc s))) × (write_of (effect_at x.table e mem csrs moments (suc s)) ≡ None)
  pub few : (s n : ℕ) → IsClaimed x e s → At (e.row (suc s)) (e.pc (suc s)) (e.word (suc s)) (e.a (suc s)) (e.b (suc s)) (suc s) n
      → ends (suc s) ≡ false → suc n < x.latency.0

-- ---- a bus on which nothing happens

none_given : (k : ℕ) → is_given no_bus k ≡ false
unfolding is_given
none_given zero = refl
none_given (suc k) = refl

none_accepted : (k : ℕ) → is_accepted no_bus k ≡ false
unfolding is_accepted
none_accepted k = ap (λ (b : Bool). b && eqb 0 1) (none_given k)

none_written : (k : ℕ) → is_write no_bus k ≡ false
unfolding is_write
none_written k = ap (λ (b : Bool). b && eqb 0 1) (none_accepted k)

none_owed : (k : ℕ) → owed no_bus k ≡ None
unfolding owed
none_owed zero = refl
none_owed (suc k) = λ i. cond (none_accepted k i) (Some k) (none_owed k i)

none_stands : (k : ℕ) → breaks_standing no_bus k ≡ false
unfolding breaks_standing
none_stands zero = refl
none_stands (suc k) = ap (λ (b : Bool). b && (not (is_accepted no_bus k) && not (is_repeated no_bus k))) (none_given k)

none_waits : (k : ℕ) → breaks_waiting no_bus k ≡ false
unfolding breaks_waiting
none_waits k = ap (λ (b : Bool). b && is_some (owed no_bus k)) (none_given k)

none_forms : (k : ℕ) → breaks_form no_bus k ≡ false
unfolding breaks_form
none_forms k = ap (λ (b : Bool). b && not (eqb 0 0 && is_mask (eqb 0 1) 0)) (none_given k)

-- ---- truth values

off : (b : Bool) → not b ≡ true → b ≡ false
off true h = absurd cc
off false h = refl

-- the mark of the law and the unit's own are one
same_next : (g d e c : Bool) → d ≡ (g && e) → (g && (not d && not c)) ≡ (g && (not e && not c))
same_next true d e c h = ap (λ (b : Bool). not b && not c) h
same_next false d e c h = refl

-- ---- the unit

module _ (x : Terms) (e : ExecSignals) (mem : ℕ → Memory) (csrs : ℕ → Csrs) (moments : ℕ → Moment)
    (works ends : ℕ → Bool) (At : (row pc word a b t n : ℕ) → Type 0) (is : IsUnit x e mem csrs moments works ends At) where
  same : (s : ℕ) → busy e (suc s) ≡ works (suc s)
  unfolding busy
  same zero = sym is.first
  same (suc s) = same_next (e.go (suc s)) (e.done (suc s)) (ends (suc s)) (e.clear (suc s)) (is.done s) ∙ sym (is.next s)

  abbrev idle : ℕ → Bool
  idle k = rests (effect_at x.table e mem csrs moments k)

  abbrev Now : (t n : ℕ) → Type 0
  Now t n = At (e.row t) (e.pc t) (e.word t) (e.a t) (e.b t) t n

  claimed : (s : ℕ) → ExecAssumed x e no_bus mem s → e.go (suc s) ≡ true → IsClaimed x e s
  claimed s assumed g = let c = assumed.claimed g in record { goes = g; claims = c.0; is_row = c.1 }

  -- as a cycle with a go begins, n of its cycles are done
  abbrev Begun : ℕ → Type 0
  Begun s = (n : ℕ) × Now (suc s) n × (cond (busy e (suc s)) (worked idle e s) 0 ≤ n)

  one_more : (b : Bool) (m n : ℕ) → m ≤ n → cond b 0 1 + m ≤ suc n
  one_more true m n h = omega arith
  one_more false m n h = omega arith

  worked_is : (s n : ℕ) → cond (busy e (suc s)) (worked idle e s) 0 ≤ n → worked idle e (suc s) ≤ suc n
  unfolding worked
  worked_is s n h = one_more (idle (suc s)) (cond (busy e (suc s)) (worked idle e s) 0) n h

  moved : (t u n : ℕ) → (e.row u ≡ e.row t) × (e.pc u ≡ e.pc t) × (e.word u ≡ e.word t) × (e.a u ≡ e.a t) × (e.b u ≡ e.b t)
      → At (e.row t) (e.pc t) (e.word t) (e.a t) (e.b t) u n → Now u n
  moved t u n h at = carry (λ i. At (sym h.0 i) (sym h.1 i) (sym h.2 i) (sym h.3 i) (sym h.4 i) u n) at
    where
      carry : {A B : Type 0} → ◌≡◌ {A = Type 0} A B → A → B
      carry p v = subst (λ (X : Type 0). X) p v

  begun_at : (s : ℕ) → ((j : ℕ) → j ≤ s → ExecAssumed x e no_bus mem j) → e.go (suc s) ≡ true → Begun s
  unfolding busy
  begun_at zero assumed g = (0, is.begins zero (claimed zero (assumed zero (omega arith)) g) is.first, omega arith)
  begun_at (suc s) assumed g = by (busy e (suc (suc s))) refl (begun_at s (λ j l. assumed j (omega arith)))
    where
      by : (b : Bool) → busy e (suc (suc s)) ≡ b → (e.go (suc s) ≡ true → Begun s) → Begun (suc s)
      by false q before =
          (0, is.begins (suc s) (claimed (suc s) (assumed (suc s) (omega arith)) g) (sym (same (suc s)) ∙ q), subst (λ (c : Bool). cond c (worked idle e (suc s)) 0 ≤ 0) (sym q) (omega arith))
      by true q before =
          let on = sym (same (suc s)) ∙ q in
          let parts = and_parts (e.go (suc s)) _ (sym (is.next s) ∙ on) in
          let ended = off (ends (suc s)) (and_parts (not (ends (suc s))) _ parts.1).0 in
          let b = before parts.0 in
          let c = claimed s (assumed s (omega arith)) parts.0 in
          let st = (assumed (suc s) (omega arith)).stands q in (
            suc b.0,
            moved (suc s) (suc (suc s)) (suc b.0) (st.1, st.2, st.3, st.4, st.5) (is.goes_on s b.0 c b.1 ended on),
            subst (λ (c : Bool). cond c (worked idle e (suc s)) 0 ≤ suc b.0) (sym q) (worked_is s b.0 b.2),
          )

  none_made : (k : ℕ) → made e no_bus k ≡ []
  unfolding made
  none_made zero = refl
  none_made (suc k) = ap (λ (l : List Store). cond (busy e (suc k)) l []) ((λ i. cond (none_written k i) (store_at no_bus k ∷ made e no_bus k) (made e no_bus k)) ∙ none_made k) ∙ both (busy e (suc k))
    where
      both : (b : Bool) → ◌≡◌ {A = List Store} (cond b [] []) []
      both true = refl
      both false = refl

  none_by : (k : ℕ) → made_by e no_bus k ≡ []
  none_by k = (λ i. cond (none_written k i) (store_at no_bus k ∷ made e no_bus k) (made e no_bus k)) ∙ none_made k

  shown : (s : ℕ) → ((j : ℕ) → j ≤ s → ExecAssumed x e no_bus mem j) → e.go (suc s) ≡ true → e.done (suc s) ≡ true
      → Shows (effect_at x.table e mem csrs moments (suc s)) (e.value (suc s)) (e.next_pc (suc s)) (e.cause (suc s)) (e.tval (suc s)) (e.trap (suc s))
      × (e.fence (suc s) ≡ is_fence_word (e.word (suc s))) × (write_of (effect_at x.table e mem csrs moments (suc s)) ≡ None)
  shown s assumed g d =
      let b = begun_at s assumed g in
      is.shows s b.0 (claimed s (assumed s (omega arith)) g) b.1 (and_parts (e.go (suc s)) (ends (suc s)) (sym (is.done s) ∙ d)).1

  kept : (s : ℕ) → ((j : ℕ) → j ≤ s → ExecAssumed x e no_bus mem j) → ExecKept x.table e no_bus mem csrs moments s
  kept s assumed = record {
    rests = λ h. is.done s ∙ ap (λ (g : Bool). g && ends (suc s)) h;
    result = λ g d. let r = shown s assumed g d in (r.0, r.1);
    idle = λ h. (none_given (suc s), none_owed (suc s));
    asks = λ h. absurd (both_ways (is_given no_bus (suc s)) (none_given (suc s)) h);
    writes = λ h. inl (none_by (suc s));
    wrote = λ g d. (none_made (suc s) ∙ sym (ap option_to_list (shown s assumed g d).2), none_accepted (suc s));
    duties = record { stands = none_stands (suc s); waits = none_waits (suc s); forms = none_forms (suc s) };
  }

  timely : (s : ℕ) → ((j : ℕ) → j ≤ s → ExecAssumed x e no_bus mem j) → IsTimely x e no_bus mem csrs moments s
  timely s assumed w some prompt g d =
      let b = begun_at s assumed g in
      let on : ends (suc s) ≡ false = (λ i. sym g i && ends (suc s)) ∙ sym (is.done s) ∙ d in
      let l = is.few s b.0 (claimed s (assumed s (omega arith)) g) b.1 on in
      let m = worked_is s b.0 b.2 in
      more (worked idle e (suc s)) (suc b.0) x.latency.0 (x.latency.1 * w) m l
    where
      more : (a b c d : ℕ) → a ≤ b → b < c → a < c + d
      more a b c d h l = omega arith

  pub keeps : (db : Bus) → ExecLaw x e db mem csrs moments
  keeps db s =
      subst (λ (bus : Bus). ((j : ℕ) → j ≤ s → ExecAssumed x e bus mem j) → (x.holds ≡ true → (j : ℕ) → j < s → Alone db mem j)
      → ExecKept x.table e bus mem csrs moments s × IsTimely x e bus mem csrs moments s)
      (sym (ap (λ (h : Bool). bus_of h db) is.no_bus_is))
      (λ assumed alone. (kept s assumed, timely s assumed))
