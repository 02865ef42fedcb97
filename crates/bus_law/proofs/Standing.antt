-- A command that is given stands since it was first given, and a response that is owed since its command was accepted.
use Rattle.std.proofs.Common.{◌≡◌, ℕ, zero, suc, ◌<◌, ◌≤◌, Bool, true, false, cond, not, eqb, ◌&&◌, ◌⊎◌, inl, inr, Option, Some, None, refl, sym, ◌∙◌, subst, arith}
use Rattle.std.proofs.lemmas.Bool.{both_ways, and_parts, eqb-true, cases_lt}
use Rattle.core_ports.specs.Trace.{Bus}
use Rattle.bus_law.specs.Protocol.{is_given, is_accepted, owed}
use Rattle.bus_law.specs.Prompt.{given_from}
use Rattle.bus_law.specs.Duties.{is_repeated, breaks_standing, KeepsDuties}
use Rattle.bus_law.specs.Standing.{StandsSince, IsSameCommand, IsOwedSince}

pub some_same : (i j : ℕ) → ◌≡◌ {A = Option ℕ} (Some i) (Some j) → i ≡ j
some_same i j e = cc

pub none_not_some : (j : ℕ) → ◌≡◌ {A = Option ℕ} None (Some j) → ⊥
none_not_some j e = cc

-- what holds below a number and at it holds up to it
up_to : (P : ℕ → Type 0) (k : ℕ) → P k → (i : ℕ) → i < suc k → (i < k → P i) → P i
up_to P k at i l below = by (cases_lt i k)
  where
    by : ((i < k) ⊎ (k ≤ i)) → P i
    by (inl m) = below m
    by (inr m) = let e : k ≡ i = omega arith in subst P e at

module _ (b : Bus) where
  -- ---- a command that is given

  at_once : (k : ℕ) → is_given b (suc k) ≡ true → ((is_given b k ≡ false) ⊎ (is_accepted b k ≡ true)) → StandsSince b (suc k) (suc k)
  at_once k g fresh = record {
    before = k;
    is = refl;
    begins = record { given = g; fresh = fresh };
    by_now = omega arith;
    given = λ i l h. let e : suc k ≡ i = omega arith in subst (λ j. is_given b j ≡ true) e g;
    waits = λ i l h. absurd (omega arith);
  }

  longer : (first k : ℕ) → StandsSince b first k → is_accepted b k ≡ false → is_given b (suc k) ≡ true → StandsSince b first (suc k)
  longer first k s a g = record {
    before = s.before;
    is = s.is;
    begins = s.begins;
    by_now = let e = s.by_now in omega arith;
    given = λ i l h. up_to (λ j. is_given b j ≡ true) (suc k) g i (omega arith) (λ m. s.given i l (omega arith));
    waits = λ i l h. up_to (λ j. is_accepted b j ≡ false) k a i h (λ m. s.waits i l m);
  }

  pub stands_since : (k : ℕ) → is_given b k ≡ true → StandsSince b (given_from b k) k
  unfolding is_given given_from
  stands_since zero g = absurd (both_ways false refl g)
  stands_since (suc k) g = by (stands_since k) (is_given b k) (is_accepted b k) refl refl
    where
      by : (is_given b k ≡ true → StandsSince b (given_from b k) k) → (x y : Bool) → is_given b k ≡ x → is_accepted b k ≡ y → StandsSince b (cond (x && not y) (given_from b k) (suc k)) (suc k)
      by before true false e a = longer (given_from b k) k (before e) a g
      by before true true e a = at_once k g (inr a)
      by before false y e a = at_once k g (inl e)

  pub from_by_now : (k : ℕ) → given_from b k ≤ k
  unfolding given_from
  from_by_now zero = omega arith
  from_by_now (suc k) = by (is_given b k && not (is_accepted b k)) (from_by_now k)
    where
      by : (x : Bool) → given_from b k ≤ k → cond x (given_from b k) (suc k) ≤ suc k
      by true h = omega arith
      by false h = omega arith

  -- no other cycle is its first
  pub only_since : (k first : ℕ) → StandsSince b first k → first ≡ given_from b k
  unfolding given_from
  only_since zero first s = let i = s.is in let l = s.by_now in absurd (omega arith)
  only_since (suc k) first s = by (only_since k) (cases_lt first (suc k))
    where
      shorter : first ≤ k → StandsSince b first k
      shorter l = record {
        before = s.before;
        is = s.is;
        begins = s.begins;
        by_now = l;
        given = λ i f h. s.given i f (omega arith);
        waits = λ i f h. s.waits i f (omega arith);
      }

      anew : (x y : Bool) → is_given b k ≡ x → is_accepted b k ≡ y → (is_given b k ≡ false) ⊎ (is_accepted b k ≡ true) → suc k ≡ cond (x && not y) (given_from b k) (suc k)
      anew true true e a f = refl
      anew true false e a (inl n) = absurd (both_ways (is_given b k) n e)
      anew true false e a (inr n) = absurd (both_ways (is_accepted b k) a n)
      anew false y e a f = refl

      by : ((f : ℕ) → StandsSince b f k → f ≡ given_from b k) → ((first < suc k) ⊎ (suc k ≤ first)) → first ≡ cond (is_given b k && not (is_accepted b k)) (given_from b k) (suc k)
      by only (inl l) =
          only first (shorter (omega arith))
          ∙ (λ i. cond (sym (s.given k (omega arith) (omega arith)) i && not (sym (s.waits k (omega arith) (omega arith)) i)) (given_from b k) (suc k))
      by only (inr l) =
          let i = s.is in
          let m = s.by_now in
          let same : s.before ≡ k = omega arith in
          let first_is : first ≡ suc k = omega arith in
          first_is ∙ anew (is_given b k) (is_accepted b k) refl refl (subst (λ j. (is_given b j ≡ false) ⊎ (is_accepted b j ≡ true)) same s.begins.fresh)

  -- ---- it is the same command in each cycle

  repeated_same : (k : ℕ) → is_repeated b k ≡ true → IsSameCommand b k (suc k)
  repeated_same k r =
      let p = and_parts _ _ r in
      let q = and_parts _ _ p.1 in
      let s = and_parts _ _ q.1 in
      let t = and_parts _ _ s.1 in
      record {
        cmd_write = sym (eqb-true _ _ q.0);
        cmd_addr = sym (eqb-true _ _ s.0);
        cmd_data = sym (eqb-true _ _ t.0);
        cmd_mask = sym (eqb-true _ _ t.1);
      }

  next_same : (k : ℕ) → is_given b k ≡ true → is_accepted b k ≡ false → breaks_standing b (suc k) ≡ false → IsSameCommand b k (suc k)
  unfolding breaks_standing
  next_same k g a h = by (is_given b k) (is_accepted b k) (is_repeated b k) refl g a h
    where
      by : (x y z : Bool) → is_repeated b k ≡ z → x ≡ true → y ≡ false → (x && (not y && not z)) ≡ false → IsSameCommand b k (suc k)
      by true false true e g a h = repeated_same k e
      by true false false e g a h = absurd (both_ways true h refl)
      by true true z e g a h = absurd (both_ways true a refl)
      by false y z e g a h = absurd (both_ways false refl g)

  both_same : (i j k : ℕ) → IsSameCommand b i j → IsSameCommand b j k → IsSameCommand b i k
  both_same i j k p q = record { cmd_write = p.cmd_write ∙ q.cmd_write; cmd_addr = p.cmd_addr ∙ q.cmd_addr; cmd_data = p.cmd_data ∙ q.cmd_data; cmd_mask = p.cmd_mask ∙ q.cmd_mask }

  same_until : (first k : ℕ) → StandsSince b first k → ((j : ℕ) → first < j → j ≤ k → KeepsDuties b j) → (i : ℕ) → first ≤ i → (m : ℕ) → i ≤ m → m ≤ k → IsSameCommand b i m
  same_until first k s duties i f zero l h = let e : i ≡ zero = omega arith in subst (λ j. IsSameCommand b i j) e (record { cmd_write = refl; cmd_addr = refl; cmd_data = refl; cmd_mask = refl })
  same_until first k s duties i f (suc m) l h = by (same_until first k s duties i f m) (cases_lt i (suc m))
    where
      by : (i ≤ m → m ≤ k → IsSameCommand b i m) → ((i < suc m) ⊎ (suc m ≤ i)) → IsSameCommand b i (suc m)
      by before (inl n) =
          both_same i m (suc m) (before (omega arith) (omega arith))
          (next_same m (s.given m (omega arith) (omega arith)) (s.waits m (omega arith) (omega arith)) (duties (suc m) (omega arith) h).stands)
      by before (inr n) = let e : i ≡ suc m = omega arith in subst (λ j. IsSameCommand b i j) e (record { cmd_write = refl; cmd_addr = refl; cmd_data = refl; cmd_mask = refl })

  pub same_since : (k : ℕ) → is_given b k ≡ true → ((j : ℕ) → given_from b k < j → j ≤ k → KeepsDuties b j) → (i : ℕ) → given_from b k ≤ i → i ≤ k → IsSameCommand b i k
  same_since k g duties i f l = same_until (given_from b k) k (stands_since k g) duties i f k l (omega arith)

  -- ---- a response that is owed

  pub owed_since : (k j : ℕ) → owed b k ≡ Some j → IsOwedSince b j k
  unfolding owed
  owed_since zero j e = absurd (none_not_some j e)
  owed_since (suc k) j e = by (owed_since k j) (is_accepted b k) (eqb (b.rsp_valid k) 1) refl refl e
    where
      still : IsOwedSince b j k → eqb (b.rsp_valid k) 1 ≡ false → IsOwedSince b j (suc k)
      still o v = record {
        accepted = o.accepted;
        before = let l = o.before in omega arith;
        missing = λ i l h. up_to (λ m. eqb (b.rsp_valid m) 1 ≡ false) k v i h (λ m. o.missing i l m);
      }

      by : (owed b k ≡ Some j → IsOwedSince b j k) → (x y : Bool) → is_accepted b k ≡ x → eqb (b.rsp_valid k) 1 ≡ y → cond x (Some k) (cond y None (owed b k)) ≡ Some j → IsOwedSince b j (suc k)
      by before true y a v o =
          let same : k ≡ j = some_same k j o in
          subst (λ m. IsOwedSince b m (suc k)) same (record { accepted = a; before = omega arith; missing = λ i l h. absurd (omega arith) })
      by before false true a v o = absurd (none_not_some j o)
      by before false false a v o = still (before o) v
