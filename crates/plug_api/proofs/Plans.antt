-- By the plan of an accepted configuration each plug-in that it picks may build as its entry.
use Rattle.std.proofs.Common.{inl, inr, ◌≡◌, ℕ, zero, suc, ◌+◌, ◌-◌, ◌^◌, ◌<◌, ◌≤◌, ◌++◌, ◌&&◌, Bool, true, false, eqb, ltb, cond, bit_and, List, [], ◌∷◌, length, get_or, map, Option, refl, ap, sym, subst, ◌∙◌, arith, length-append}
use Rattle.std.proofs.lemmas.Bool.{cases_eq, cases_lt}
use Rattle.std.proofs.lemmas.Bool.Decides.{nat_tests}
use Rattle.std.proofs.lemmas.List.{get_or-map, get_or_append_left, get_or-append_right}
use Rattle.isa_table.specs.declared.claim.Claim.{Claim}
use Rattle.isa_table.specs.Rows.{TableRow, table, lui, meets}
use Rattle.isa_table.proofs.Disjoint.{one_row}
use Rattle.stage_map.specs.declared.config.Config.{Config}
use Rattle.stage_map.specs.declared.config.PlugEntry.{PlugEntry}
use Rattle.plug_api.specs.declared.claims.OwnedClaim.{OwnedClaim}
use Rattle.plug_api.specs.declared.spec.ParamFault.{ParamFault}
use Rattle.plug_api.specs.declared.spec.Plan.{Plan}
use Rattle.plug_api.specs.declared.spec.PlugSpec.{PlugSpec}
use Rattle.plug_api.specs.Spec.{IsSpec, IsOfTable, no_claim, no_spec}
use Rattle.plug_api.specs.Picks.{no_entry}
use Rattle.plug_api.specs.Rules.{HaveNoClash, Overlap, claims_from, claims_of, no_owned, owned_by}
use Rattle.plug_api.specs.Calls.{IsLawful, rows_by}
use Rattle.plug_api.specs.Accept.{IsAccepted, MayBe, owners_of, rows_of}
use Rattle.plug_api.proofs.Gathers.{length_map}

-- ---- words of the table

-- the value of a row is a word of it
abbrev is_word : TableRow → Bool
is_word r = ltb r.value (2 ^ 32) && meets r.value r

abbrev are_words : List TableRow → Bool
are_words [] = true
are_words (r ∷ rest) = is_word r && are_words rest

table_has_words : are_words table ≡ true
table_has_words = refl

both_left : (a b : Bool) → (a && b) ≡ true → a ≡ true
both_left true b h = refl
both_left false b h = h

both_right : (a b : Bool) → (a && b) ≡ true → b ≡ true
both_right true b h = h
both_right false b h = absurd (grind arith)

word_at : (rows : List TableRow) → are_words rows ≡ true → (i : ℕ) → i < length rows → is_word (get_or rows i lui) ≡ true
word_at [] h i l = absurd (omega (arith, l))
word_at (r ∷ rest) h zero l = both_left _ _ h
word_at (r ∷ rest) h (suc i) l = word_at rest (both_right _ _ h) i (omega (arith, l))

small_of : (r : TableRow) → is_word r ≡ true → r.value < 2 ^ 32
small_of r h = let l : ltb r.value (2 ^ 32) ≡ true = both_left _ (meets r.value r) h in grind (arith, nat_tests)

same_of : (a b : ℕ) → eqb a b ≡ true → a ≡ b
same_of a b e = grind (arith, nat_tests)

meets_itself : (r : TableRow) → is_word r ≡ true → bit_and r.value r.mask ≡ r.value
meets_itself r h = same_of (bit_and r.value r.mask) r.value (both_right (ltb r.value (2 ^ 32)) _ h)

-- two claims of one row of the table have a word in common
one_row_overlaps : (a b : Claim) → IsOfTable a → IsOfTable b → a.row ≡ b.row → Overlap a b
one_row_overlaps a b x y e =
    let r = get_or table a.row lui in
    let w = word_at table table_has_words a.row x.known in
    let own : bit_and r.value r.mask ≡ r.value = meets_itself r w in
    let same : get_or table b.row lui ≡ r = ap (λ n. get_or table n lui) (sym e) in
    let mask : b.mask ≡ r.mask = y.mask ∙ ap (λ (t : TableRow). t.mask) same in
    let value : b.value ≡ r.value = y.value ∙ ap (λ (t : TableRow). t.value) same in
    (r.value, small_of r w, ap (bit_and r.value) x.mask ∙ own ∙ sym x.value, ap (bit_and r.value) mask ∙ own ∙ sym value)

meets_row : (word : ℕ) (r : TableRow) → bit_and word r.mask ≡ r.value → meets word r ≡ true
meets_row word r h = grind (arith, nat_tests)

meets_claim : (word : ℕ) (a : Claim) → IsOfTable a → bit_and word a.mask ≡ a.value → meets word (get_or table a.row lui) ≡ true
meets_claim word a x h = meets_row word (get_or table a.row lui) (ap (bit_and word) (sym x.mask) ∙ h ∙ x.value)

-- two claims of the table that have a word in common are of one row
overlaps_one_row : (a b : Claim) → IsOfTable a → IsOfTable b → Overlap a b → a.row ≡ b.row
overlaps_one_row a b x y o = one_row o.0 a.row b.row x.known y.known (meets_claim o.0 a x o.2) (meets_claim o.0 b y o.3)

-- ---- places of claims

abbrev AreSpecs : List PlugSpec → Type 0
AreSpecs specs = (i : ℕ) → i < length specs → IsSpec (get_or specs i no_spec)

front : (n : ℕ) (rows : List Claim) (rest : List OwnedClaim) (k : ℕ) → k < length rows
    → get_or (map (owned_by n) rows ++ rest) k no_owned ≡ owned_by n (get_or rows k no_claim)
front n rows rest k l =
    let count : length (map (owned_by n) rows) ≡ length rows = length_map (owned_by n) rows in
    get_or_append_left (map (owned_by n) rows) rest no_owned k (omega (arith, count, l)) ∙ get_or-map (owned_by n) rows k no_claim no_owned l

back : (n : ℕ) (rows : List Claim) (rest : List OwnedClaim) (k : ℕ) → length rows ≤ k
    → get_or (map (owned_by n) rows ++ rest) k no_owned ≡ get_or rest (k - length rows) no_owned
back n rows rest k l = get_or-append_right (map (owned_by n) rows) rest (length rows) k no_owned (length_map (owned_by n) rows) l

total : (n : ℕ) (rows : List Claim) (rest : List OwnedClaim) → length (map (owned_by n) rows ++ rest) ≡ length rows + length rest
total n rows rest = length-append (map (owned_by n) rows) rest ∙ ap (λ c. c + length rest) (length_map (owned_by n) rows)

-- what is known of a claim of entries that are counted from n
record IsPlaced (n : ℕ) (specs : List PlugSpec) (c : OwnedClaim) : Type 0 where
  low : n ≤ c.entry
  high : c.entry < n + length specs
  in_table : IsOfTable c.claim

one_more : (n : ℕ) (s : PlugSpec) (ss : List PlugSpec) (c : OwnedClaim) → IsPlaced (suc n) ss c → IsPlaced n (s ∷ ss) c
one_more n s ss c p =
    let low : suc n ≤ c.entry = p.low in
    let high : c.entry < suc n + length ss = p.high in
    record { low = omega (arith, low); high = omega (arith, high); in_table = p.in_table }

placed : (n : ℕ) (specs : List PlugSpec) → AreSpecs specs → (k : ℕ) → k < length (claims_from n specs) → IsPlaced n specs (get_or (claims_from n specs) k no_owned)
placed n [] fit k l = absurd (omega (arith, l))
placed n (s ∷ ss) fit k l = elim (cases_lt k (length s.rows)) [
  | inl h ↦ rw (front n s.rows (claims_from (suc n) ss) k h) (record { low = omega arith; high = omega arith; in_table = (fit 0 (omega arith)).in_table k h })
  | inr h ↦
      let all : length (map (owned_by n) s.rows ++ claims_from (suc n) ss) ≡ length s.rows + length (claims_from (suc n) ss) = total n s.rows _ in
      rw (back n s.rows (claims_from (suc n) ss) k (omega (arith, h))) (one_more n s ss _ (placed (suc n) ss (λ i j. fit (suc i) (omega arith)) (k - length s.rows) (omega (arith, h, l, all))))
]

-- two claims of one entry differ in their rows
rows_of_one : (n : ℕ) (specs : List PlugSpec) → AreSpecs specs → (j k : ℕ) → j < k → k < length (claims_from n specs)
    → (get_or (claims_from n specs) j no_owned).entry ≡ (get_or (claims_from n specs) k no_owned).entry
    → (get_or (claims_from n specs) j no_owned).claim.row ≡ (get_or (claims_from n specs) k no_owned).claim.row → ⊥
rows_of_one n [] fit j k less l e r = omega (arith, l)
rows_of_one n (s ∷ ss) fit j k less l e r =
    let rest = claims_from (suc n) ss in
    let all : length (map (owned_by n) s.rows ++ rest) ≡ length s.rows + length rest = total n s.rows rest in
    let fit_rest : AreSpecs ss = λ i h. fit (suc i) (omega (arith, h)) in
    elim (cases_lt k (length s.rows)) [
      | inl h ↦ (fit 0 (omega arith)).rows_differ j k less h
          (ap (λ (c : OwnedClaim). c.claim.row) (sym (front n s.rows rest j (omega (arith, h, less)))) ∙ r ∙ ap (λ (c : OwnedClaim). c.claim.row) (front n s.rows rest k h))
      | inr h ↦
          let at_k = back n s.rows rest k (omega arith) in
          elim (cases_lt j (length s.rows)) [
            | inl g ↦
                let first : (get_or (map (owned_by n) s.rows ++ rest) j no_owned).entry ≡ n = ap (λ (c : OwnedClaim). c.entry) (front n s.rows rest j g) in
                let second : suc n ≤ (get_or rest (k - length s.rows) no_owned).entry = (placed (suc n) ss fit_rest (k - length s.rows) (omega arith)).low in
                let same : (get_or (map (owned_by n) s.rows ++ rest) j no_owned).entry ≡ (get_or rest (k - length s.rows) no_owned).entry = e ∙ ap (λ (c : OwnedClaim). c.entry) at_k in
                omega (arith, first, second, same)
            | inr g ↦
                let at_j = back n s.rows rest j (omega arith) in
                rows_of_one (suc n) ss fit_rest (j - length s.rows) (k - length s.rows) (omega arith) (omega arith)
                (ap (λ (c : OwnedClaim). c.entry) (sym at_j) ∙ e ∙ ap (λ (c : OwnedClaim). c.entry) at_k)
                (ap (λ (c : OwnedClaim). c.claim.row) (sym at_j) ∙ r ∙ ap (λ (c : OwnedClaim). c.claim.row) at_k)
          ]
    ]

-- ---- the claims of one entry

eqb_same : (n : ℕ) → eqb n n ≡ true
eqb_same n = grind (arith, nat_tests)

eqb_other : (n e : ℕ) → (n ≡ e → ⊥) → eqb n e ≡ false
eqb_other n e h = grind (arith, nat_tests)

by_step : (e o : ℕ) (b : Bool) → eqb o e ≡ b → (c : Claim) (cs : List Claim) (os : List ℕ) → rows_by e (c ∷ cs) (o ∷ os) ≡ cond b (c ∷ rows_by e cs os) (rows_by e cs os)
by_step e o b h c cs os = ap (λ t. cond t (c ∷ rows_by e cs os) (rows_by e cs os)) h

by_own : (n : ℕ) (rows : List Claim) (rest : List OwnedClaim)
    → rows_by n (rows_of (map (owned_by n) rows ++ rest)) (owners_of (map (owned_by n) rows ++ rest)) ≡ rows ++ rows_by n (rows_of rest) (owners_of rest)
by_own n [] rest = refl
by_own n (c ∷ cs) rest = by_step n n true (eqb_same n) c _ _ ∙ ap (λ l. c ∷ l) (by_own n cs rest)

by_other : (n e : ℕ) → (n ≡ e → ⊥) → (rows : List Claim) (rest : List OwnedClaim)
    → rows_by e (rows_of (map (owned_by n) rows ++ rest)) (owners_of (map (owned_by n) rows ++ rest)) ≡ rows_by e (rows_of rest) (owners_of rest)
by_other n e h [] rest = refl
by_other n e h (c ∷ cs) rest = by_step e n false (eqb_other n e h) c _ _ ∙ by_other n e h cs rest

-- entries before the first have none
by_none : (n e : ℕ) → e < n → (specs : List PlugSpec) → rows_by e (rows_of (claims_from n specs)) (owners_of (claims_from n specs)) ≡ []
by_none n e l [] = refl
by_none n e l (s ∷ ss) = by_other n e (λ h. omega (arith, h, l)) s.rows (claims_from (suc n) ss) ∙ by_none (suc n) e (omega (arith, l)) ss

append_none : (xs ys : List Claim) → ys ≡ [] → xs ++ ys ≡ xs
append_none [] ys e = e
append_none (x ∷ xs) ys e = ap (λ l. x ∷ l) (append_none xs ys e)

by_entry : (n : ℕ) (specs : List PlugSpec) (i e : ℕ) → e ≡ n + i → i < length specs
    → rows_by e (rows_of (claims_from n specs)) (owners_of (claims_from n specs)) ≡ (get_or specs i no_spec).rows
by_entry n [] i e h l = absurd (omega (arith, l))
by_entry n (s ∷ ss) zero e h l =
    let is : e ≡ n = omega (arith, h) in
    rw is (by_own n s.rows (claims_from (suc n) ss) ∙ append_none s.rows _ (by_none (suc n) n (omega arith) ss))
by_entry n (s ∷ ss) (suc i) e h l = by_other n e (λ g. omega (arith, g, h)) s.rows (claims_from (suc n) ss) ∙ by_entry (suc n) ss i e (omega (arith, h)) (omega (arith, l))

-- ---- the law

claim_in : (claims : List OwnedClaim) (k : ℕ) → k < length claims → get_or (rows_of claims) k no_claim ≡ (get_or claims k no_owned).claim
claim_in claims k l = get_or-map (λ (c : OwnedClaim). c.claim) claims k no_owned no_claim l

owner_in : (claims : List OwnedClaim) (k : ℕ) → k < length claims → get_or (owners_of claims) k 0 ≡ (get_or claims k no_owned).entry
owner_in claims k l = get_or-map (λ (c : OwnedClaim). c.entry) claims k no_owned 0 l

module _ (specs : List PlugSpec) (fit : AreSpecs specs) (apart : HaveNoClash (claims_of specs)) where
  table_at : (k : ℕ) → k < length (claims_of specs) → IsOfTable (get_or (claims_of specs) k no_owned).claim
  table_at k l = (placed 0 specs fit k l).in_table

  -- two claims differ in their rows, whatever their entries
  rows_apart : (j k : ℕ) → j < k → k < length (claims_of specs)
      → (get_or (claims_of specs) j no_owned).claim.row ≡ (get_or (claims_of specs) k no_owned).claim.row → ⊥
  rows_apart j k less l e = elim (cases_eq (get_or (claims_of specs) j no_owned).entry (get_or (claims_of specs) k no_owned).entry) [
    | inl same ↦ rows_of_one 0 specs fit j k less l same e
    | inr other ↦ apart.none j k (record {
      in_order = less;
      there = l;
      apart = other;
      overlap = one_row_overlaps _ _ (table_at j (omega (arith, less, l))) (table_at k l) e;
    })
  ]

  words_apart : (j k : ℕ) → j < k → k < length (claims_of specs)
      → Overlap (get_or (claims_of specs) j no_owned).claim (get_or (claims_of specs) k no_owned).claim → ⊥
  words_apart j k less l o = rows_apart j k less l (overlaps_one_row _ _ (table_at j (omega (arith, less, l))) (table_at k l) o)

pub lawful : {B : Type 0} (kind : B → List ℕ) (fault : B → PlugEntry → Option ParamFault) (spec : B → PlugEntry → PlugSpec)
    (boxes : List B) (cfg : Config) (plan : Plan) → MayBe cfg → IsAccepted kind fault spec boxes cfg plan
    → (d : B) (entry : ℕ) → entry < length cfg.entries → IsLawful (spec (get_or boxes (get_or plan.picks entry 0) d) (get_or cfg.entries entry no_entry)) plan entry
lawful kind fault spec boxes cfg plan may h d entry l =
    let specs = h.specs in
    let claims = claims_of specs in
    let picked : length plan.picks ≡ length cfg.entries = h.known.named.picked.one_each in
    let taken : length specs ≡ length cfg.entries = h.known.taken.one_each in
    let fit : AreSpecs specs = λ i g. h.known.taken.fit i (omega (arith, g, taken)) in
    let rows : plan.rows ≡ rows_of claims = h.plan_is.rows in
    let owners : plan.owners ≡ owners_of claims = h.plan_is.owners in
    let shape = h.plan_is.shape_is in
    let few : length cfg.entries ≤ 32 = may.few in
    let count : length plan.rows ≡ length claims = ap length rows ∙ length_map _ claims in
    let many : length plan.owners ≡ length claims = ap length owners ∙ length_map _ claims in
    record {
      shape = rw shape (record { at_least = may.at_least; at_most = may.at_most; aligned = may.aligned; commit = may.commit });
      few = omega (arith, picked, few);
      there = omega (arith, picked, l);
      each = count ∙ sym many;
      owned = λ k g.
          let at : k < length claims = omega (arith, g, many) in
          let is : get_or plan.owners k 0 ≡ (get_or claims k no_owned).entry = ap (λ o. get_or o k 0) owners ∙ owner_in claims k at in
          let high : (get_or claims k no_owned).entry < 0 + length specs = (placed 0 specs fit k at).high in
          omega (arith, is, high, taken, picked);
      in_table = λ k g.
          let at : k < length claims = omega (arith, g, count) in
          subst IsOfTable (sym (ap (λ r. get_or r k no_claim) rows ∙ claim_in claims k at)) (table_at specs fit h.hold.claims.no_clash k at);
      rows_differ = λ j k less g e.
          let at : k < length claims = omega (arith, g, count) in
          let at_j = ap (λ r. get_or r j no_claim) rows ∙ claim_in claims j (omega (arith, less, at)) in
          let at_k = ap (λ r. get_or r k no_claim) rows ∙ claim_in claims k at in
          rows_apart specs fit h.hold.claims.no_clash j k less at (ap (λ (c : Claim). c.row) (sym at_j) ∙ e ∙ ap (λ (c : Claim). c.row) at_k);
      apart = λ j k less g o.
          let at : k < length claims = omega (arith, g, count) in
          let at_j = ap (λ r. get_or r j no_claim) rows ∙ claim_in claims j (omega (arith, less, at)) in
          let at_k = ap (λ r. get_or r k no_claim) rows ∙ claim_in claims k at in
          words_apart specs fit h.hold.claims.no_clash j k less at (rw at_j at (rw at_k at o));
      own = ap (λ r. rows_by entry r plan.owners) rows ∙ ap (rows_by entry (rows_of claims)) owners
          ∙ by_entry 0 specs entry entry (omega arith) (omega (arith, l, taken)) ∙ ap (λ (s : PlugSpec). s.rows) (h.known.taken.are d entry l);
    }
