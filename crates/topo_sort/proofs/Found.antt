-- A search finds all nodes that a node leads to, and no others.
use Rattle.std.proofs.Common.{◌≡◌, ◌⊎◌, ℕ, zero, suc, ◌+◌, ◌-◌, ◌<◌, ◌≤◌, inl, inr, Bool, true, false, not, List, [], ◌∷◌, ◌++◌, length, get_or, set, replicate, refl, ap, sym, ◌∙◌, subst, arith, length-append, length-set, get_or-set_same, get_or-set_other}
use Rattle.std.proofs.lemmas.List.{get_or_append_left, get_or_push}
use Rattle.std.proofs.lemmas.List.Sums.{sum_by-set}
use Rattle.topo_sort.specs.Graph.{needs, need, Edge, Leads}
use Rattle.topo_sort.specs.Graph.Leads.{direct, further}
use Rattle.topo_sort.specs.Reach.{IsFound, IsReached, Grows, Takes, room}
use Rattle.topo_sort.specs.declared.reach.Reached.{Reached}
use Rattle.topo_sort.proofs.Same.{same, at_end}
use Rattle.std.specs.Prelude.{count_by, sum_by, cond}

-- ---- one node is taken

found_or_not : (b : Bool) → (b ≡ true) ⊎ (b ≡ false)
found_or_not true = inl refl
found_or_not false = inr refl

module _ (old new : Reached) (node : ℕ) (t : Takes old new node) (within : node < length old.seen.items) where
  again_found : get_or old.seen.items node false ≡ true → (x : ℕ) → get_or new.seen.items x false ≡ get_or old.seen.items x false
  again_found h x = ap (λ (l : List Bool). get_or l x false) (t.again h).0

  first_here : get_or old.seen.items node false ≡ false → IsFound new node
  first_here h = ap (λ (l : List Bool). get_or l node false) (t.first h).0 ∙ get_or-set_same old.seen.items node true false within

  first_other : get_or old.seen.items node false ≡ false → (x : ℕ) → (x ≡ node → ⊥) → get_or new.seen.items x false ≡ get_or old.seen.items x false
  first_other h x n = ap (λ (l : List Bool). get_or l x false) (t.first h).0 ∙ get_or-set_other old.seen.items node x true false n

  pub is_found : IsFound new node
  is_found = elim (found_or_not (get_or old.seen.items node false)) [
    | inl h ↦ again_found h node ∙ h
    | inr h ↦ first_here h
  ]

  keeps : (x : ℕ) → IsFound old x → IsFound new x
  keeps x f = elim (same x node) [
    | inl e ↦ subst (IsFound new) (sym e) is_found
    | inr n ↦ elim (found_or_not (get_or old.seen.items node false)) [
      | inl h ↦ again_found h x ∙ f
      | inr h ↦ first_other h x n ∙ f
    ]
  ]

  first_room : get_or old.seen.items node false ≡ false → room new ≤ room old
  first_room h =
      let s = sum_by-set (λ (b : Bool). cond (not b) 1 0) old.seen.items node true false within in
      let v : ◌≡◌ {A = ℕ} (cond (not (get_or old.seen.items node false)) 1 0) 1 = ap (λ (b : Bool). cond (not b) 1 0) h in
      let c : count_by not new.seen.items ≡ count_by not (set old.seen.items node true) = ap (count_by not) (t.first h).0 in
      let f : length new.found.items ≡ length (old.found.items ++ (node ∷ [])) = ap length (t.first h).1 in
      let l = length-append old.found.items (node ∷ []) in
      omega (arith, s, v, c, f, l)

  pub taken : Grows old new
  taken = elim (found_or_not (get_or old.seen.items node false)) [
    | inl h ↦ record {
      size = ap length (t.again h).0;
      keeps = keeps;
      longer = let e : length new.found.items ≡ length old.found.items = ap length (t.again h).1 in omega (arith, e);
      front = λ k l. ap (λ (f : List ℕ). get_or f k 0) (t.again h).1;
      less =
          let c : count_by not new.seen.items ≡ count_by not old.seen.items = ap (count_by not) (t.again h).0 in
          let e : length new.found.items ≡ length old.found.items = ap length (t.again h).1 in
          omega (arith, c, e);
    }
    | inr h ↦ record {
      size = ap length (t.first h).0 ∙ length-set old.seen.items node true;
      keeps = keeps;
      longer = let e : length new.found.items ≡ length (old.found.items ++ (node ∷ [])) = ap length (t.first h).1 in let l = length-append old.found.items (node ∷ []) in omega (arith, e, l);
      front = λ k l. ap (λ (f : List ℕ). get_or f k 0) (t.first h).1 ∙ get_or_append_left old.found.items (node ∷ []) 0 k l;
      less = first_room h;
    }
  ]

  module _ (edges : List (List ℕ)) (root : ℕ) (leads : Leads edges root node) (r : IsReached edges root old) where
    again_reached : get_or old.seen.items node false ≡ true → IsReached edges root new
    again_reached h = record {
      led = λ x f. r.led x (sym (again_found h x) ∙ f);
      listed = λ x f. subst (λ (l : List ℕ). (k : ℕ) × ((k < length l) × (get_or l k 0 ≡ x))) (sym (t.again h).1) (r.listed x (sym (again_found h x) ∙ f));
      marked = λ k l. keeps (get_or new.found.items k 0) (subst (λ (f : List ℕ). IsFound old (get_or f k 0)) (sym (t.again h).1)
          (r.marked k (subst (λ (f : List ℕ). k < length f) (t.again h).1 l)));
    }

    first_reached : get_or old.seen.items node false ≡ false → IsReached edges root new
    first_reached h =
        let g : new.found.items ≡ old.found.items ++ (node ∷ []) = (t.first h).1 in
        let a = length-append old.found.items (node ∷ []) in
        record {
          led = λ x f. elim (same x node) [
            | inl e ↦ subst (Leads edges root) (sym e) leads
            | inr n ↦ r.led x (sym (first_other h x n) ∙ f)
          ];
          listed = λ x f. subst (λ (l : List ℕ). (k : ℕ) × ((k < length l) × (get_or l k 0 ≡ x))) (sym g) (elim (same x node) [
            | inl e ↦ (length old.found.items, (omega (arith, a), get_or_push old.found.items node 0 (length old.found.items) refl ∙ sym e))
            | inr n ↦ let p = r.listed x (sym (first_other h x n) ∙ f) in let l = p.1.0 in
                (p.0, (omega (arith, a, l), get_or_append_left old.found.items (node ∷ []) 0 p.0 p.1.0 ∙ p.1.1))
          ]);
          marked = λ k l. subst (λ (f : List ℕ). IsFound new (get_or f k 0)) (sym g) (elim (at_end k (length old.found.items) (let e : length new.found.items ≡ length (old.found.items ++ (node ∷ [])) = ap length g in omega (arith, e, a, l))) [
            | inl k' ↦ subst (IsFound new) (sym (get_or_append_left old.found.items (node ∷ []) 0 k k')) (keeps (get_or old.found.items k 0) (r.marked k k'))
            | inr e ↦ subst (IsFound new) (sym (get_or_push old.found.items node 0 k (sym e))) is_found
          ]);
        }

    pub reached : IsReached edges root new
    reached = elim (found_or_not (get_or old.seen.items node false)) [ inl h ↦ again_reached h | inr h ↦ first_reached h ]

pub grows_none : (r : Reached) → Grows r r
grows_none r = record { size = refl; keeps = λ x f. f; longer = omega arith; front = λ k l. refl; less = omega arith }

pub grows_on : (a b c : Reached) → Grows a b → Grows b c → Grows a c
grows_on a b c g h = record {
  size = h.size ∙ g.size;
  keeps = λ x f. h.keeps x (g.keeps x f);
  longer = let p = g.longer in let q = h.longer in omega (arith, p, q);
  front = λ k l. h.front k (let p = g.longer in omega (arith, l, p)) ∙ g.front k l;
  less = let p = g.less in let q = h.less in omega (arith, p, q);
}

-- what a node needs, where the root leads to the node
pub leads_on : (edges : List (List ℕ)) (root node y : ℕ) → (root ≡ node) ⊎ Leads edges root node → Edge edges node y → Leads edges root y
leads_on edges root node y (inl e) h = direct (subst (λ x. Edge edges x y) (sym e) h)
leads_on edges root node y (inr l) h = further l h

-- ---- the whole search

-- nothing is found yet
none_found : (n x : ℕ) → get_or (replicate n false) x false ≡ false
none_found n x = go n x
  where
    go : (n x : ℕ) → get_or (replicate n false) x false ≡ false
    go zero x = refl
    go (suc n) zero = refl
    go (suc n) (suc x) = go n x

pub none_reached : (edges : List (List ℕ)) (root n : ℕ) (r : Reached) → r.seen.items ≡ replicate n false → r.found.items ≡ [] → IsReached edges root r
none_reached edges root n r s f = record {
  led = λ x h. absurd (let q : get_or r.seen.items x false ≡ false = ap (λ (l : List Bool). get_or l x false) s ∙ none_found n x in let c : true ≡ false = sym h ∙ q in cc);
  listed = λ x h. absurd (let q : get_or r.seen.items x false ≡ false = ap (λ (l : List Bool). get_or l x false) s ∙ none_found n x in let c : true ≡ false = sym h ∙ q in cc);
  marked = λ k l. absurd (let q : length r.found.items ≡ 0 = ap length f in omega (arith, l, q));
}

-- all that a node needs is found
abbrev pub HasNeeds : Reached → List (List ℕ) → ℕ → Type 0
HasNeeds r edges x = (i : ℕ) → i < length (needs edges x) → IsFound r (need edges x i)

module _ (edges : List (List ℕ)) (root : ℕ) (r : Reached) (h : IsReached edges root r) (own : HasNeeds r edges root)
    (closed : (k : ℕ) → k < length r.found.items → HasNeeds r edges (get_or r.found.items k 0)) where
  pub all_found : (x : ℕ) → Leads edges root x → IsFound r x
  all_found x (direct e) = subst (IsFound r) e.1.1 (own e.0 e.1.0)
  all_found x (further {y = y} l e) =
      let p = h.listed y (all_found y l) in
      let n : HasNeeds r edges y = subst (HasNeeds r edges) p.1.1 (closed p.0 p.1.0) in
      subst (IsFound r) e.1.1 (n e.0 e.1.0)

-- ---- the loops

-- some needs of a node are taken, from the first on
abbrev pub HasTaken : (edges : List (List ℕ)) (node : ℕ) (first r : Reached) (i : ℕ) → Type 0
HasTaken edges node first r i = Grows first r × ((j : ℕ) → j < i → IsFound r (need edges node j))
    × ((root : ℕ) → IsReached edges root first → (root ≡ node) ⊎ Leads edges root node → IsReached edges root r)

pub one_more : (edges : List (List ℕ)) (node : ℕ) (first old new : Reached) (i : ℕ) → HasTaken edges node first old i → Takes old new (need edges node i) → need edges node i < length old.seen.items
    → i < length (needs edges node) → HasTaken edges node first new (i + 1)
one_more edges node first old new i h t w l = (
  grows_on first old new h.0 (taken old new (need edges node i) t w),
  (λ j k. elim (at_end j i (omega (arith, k))) [
    | inl m ↦ (taken old new (need edges node i) t w).keeps (need edges node j) (h.1 j m)
    | inr e ↦ subst (λ n. IsFound new (need edges node n)) (sym e) (is_found old new (need edges node i) t w)
  ]),
  (λ root r leads. reached old new (need edges node i) t w edges root (leads_on edges root node (need edges node i) leads (i, (l, refl))) (h.2 root r leads)),
)

-- what is found is a node
pub found_within : (seen : List Bool) (x : ℕ) → get_or seen x false ≡ true → x < length seen
found_within [] x h = absurd (let c : false ≡ true = h in cc)
found_within (b ∷ bs) zero h = omega arith
found_within (b ∷ bs) (suc x) h = let r : x < length bs = found_within bs x h in omega (arith, r)

-- the needs of the first nodes of the list are found too
abbrev pub HasCome : (edges : List (List ℕ)) (node : ℕ) (r : Reached) (at : ℕ) → Type 0
HasCome edges node r at = IsReached edges node r × (length r.seen.items ≡ length edges) × HasNeeds r edges node
    × ((k : ℕ) → k < at → HasNeeds r edges (get_or r.found.items k 0)) × (at ≤ length r.found.items)

module _ (edges : List (List ℕ)) (node at : ℕ) (old new : Reached) (h : HasCome edges node old at) (l : at < length old.found.items) where
  abbrev pub next : ℕ
  next = get_or old.found.items at 0

  pub next_within : next < length edges
  next_within = let a = found_within old.seen.items next (h.0.marked at l) in let b = h.1 in omega (arith, a, b)

pub come_last : (edges : List (List ℕ)) (node at : ℕ) (r : Reached) → HasCome edges node r at → length r.found.items ≤ at → (x : ℕ) → Leads edges node x → IsFound r x
come_last edges node at r h l x leads = all_found edges node r h.0 h.2 (λ k m. h.3 k (omega (arith, m, l))) x leads
