-- An order of the graph of a module's items is an order of its items; a loop in the graph is one of the module's.
use Rattle.std.proofs.Common.{◌≡◌, ℕ, zero, suc, ◌<◌, ◌≤◌, ◌||◌, Bool, true, false, eqb, List, [], ◌∷◌, ◌++◌, length, get_or, refl, ap, sym, ◌∙◌, subst, arith, append_assoc, length-append, Option, Some, None, inl, inr}
use Rattle.std.proofs.lemmas.List.{get_or_append_left, get_or_at, get_or_push, get_or_default}
use Rattle.std.proofs.lemmas.Bool.{eqb-true, eqb-false}
use Rattle.std.proofs.lemmas.Cmp.{nat_list_eq_equiv}
use Rattle.core_words.specs.Names.{same_name}
use Rattle.topo_sort.specs.Graph.{needs, need, Edge, Leads, AreWithin}
use Rattle.topo_sort.specs.Graph.Leads.{direct, further}
use Rattle.topo_sort.specs.Order.{IsOrder as Sorted}
use Rattle.topo_sort.proofs.Same.{at_end}
use Rattle.verilog_mean.specs.Plain.{Expr, Item, Plain}
use Rattle.verilog_mean.specs.Names.{is_among}
use Rattle.verilog_mean.specs.Cycle.{source_of}
use Rattle.verilog_mean.specs.Cycle.Source.{Driven}
use Rattle.verilog_mean.specs.Loops.{Mentions, Depends}
use Rattle.verilog_mean.specs.Loops.Depends.{direct as by_driver, further as by_name}
use Rattle.verilog_mean.specs.Order.{drive_at, driven_after, driven_by, IsReady, AreReady, IsOrder}
use Rattle.verilog_rules.specs.Sources.{item_number}
use Rattle.verilog_rules.specs.Edges.{needs_of, edges_in}
use Rattle.verilog_rules.proofs.Numbers.{driven, number_within, number_drives}
use Rattle.verilog_rules.proofs.Needs.{Holds, listed, mentioned, edges_length, edges_at}

abbrev graph : Plain → List (List ℕ)
graph m = edges_in (item_number m) m.items

-- ---- edges and names

-- an item needs the item whose number a name in its driver has
needed : (m : Plain) (k : ℕ) (d : List ℕ × Expr) (y : List ℕ) (n : ℕ) → drive_at m.items k ≡ Some d → Mentions d.1 y → item_number m y ≡ Some n → Edge (graph m) k n
needed m k d y n h q e =
    let l = listed (item_number m) n y e d.1 [] q in
    let s : needs (graph m) k ≡ needs_of (item_number m) (Some d) = edges_at (item_number m) m.items k ∙ ap (needs_of (item_number m)) h in
    subst (λ ns. Holds ns n) (sym s) l

-- and no others
record Names (m : Plain) (k n : ℕ) : Type 0 where
  drive : List ℕ × Expr
  is : drive_at m.items k ≡ Some drive
  name : List ℕ
  mentions : Mentions drive.1 name
  number : item_number m name ≡ Some n

named_in : (m : Plain) (k n : ℕ) (o : Option (List ℕ × Expr)) → drive_at m.items k ≡ o → Holds (needs_of (item_number m) o) n → Names m k n
named_in m k n None e h = absurd (let l = h.1.0 in omega (arith, l))
named_in m k n (Some d) e h = elim (mentioned (item_number m) n d.1 [] h) [
  | inl z ↦ absurd (let l = z.1.0 in omega (arith, l))
  | inr y ↦ record { drive = d; is = e; name = y.0; mentions = y.1.0; number = y.1.1 }
]

named : (m : Plain) (k n : ℕ) → Edge (graph m) k n → Names m k n
named m k n e = named_in m k n (drive_at m.items k) refl (subst (λ ns. Holds ns n) (edges_at (item_number m) m.items k) e)

pub within : (m : Plain) → AreWithin (graph m)
within m x i l =
    let e = named m x (need (graph m) x i) (i, (l, refl)) in
    subst (λ n. need (graph m) x i < n) (sym (edges_length (item_number m) m.items)) (number_within m e.name (need (graph m) x i) e.number)

-- ---- loops

-- a node that is led to has a number of a name
record Reached (m : Plain) (x : List ℕ) (n : ℕ) : Type 0 where
  name : List ℕ
  number : item_number m name ≡ Some n
  depends : Depends m x name

last_name : (m : Plain) (k n : ℕ) → Leads (graph m) k n → (y : List ℕ) × (item_number m y ≡ Some n)
last_name m k n (direct e) = let w = named m k n e in (w.name, w.number)
last_name m k n (further {y = y} l e) = let w = named m y n e in (w.name, w.number)

first_drive : (m : Plain) (k n : ℕ) → Leads (graph m) k n → (d : List ℕ × Expr) × (drive_at m.items k ≡ Some d)
first_drive m k n (direct e) = let w = named m k n e in (w.drive, w.is)
first_drive m k n (further {y = y} l e) = first_drive m k y l

same_drive : (m : Plain) (k : ℕ) (d e : List ℕ × Expr) → drive_at m.items k ≡ Some d → drive_at m.items k ≡ Some e → d ≡ e
same_drive m k d e p q = cc

reached : (m : Plain) (k n : ℕ) (x : List ℕ) (d : Expr) → drive_at m.items k ≡ Some (x, d) → source_of m x ≡ Driven d → Leads (graph m) k n → Reached m x n
reached m k n x d h s (direct e) =
    let w = named m k n e in
    let q = same_drive m k w.drive (x, d) w.is h in
    record { name = w.name; number = w.number; depends = by_driver s (subst (λ (p : List ℕ × Expr). Mentions p.1 w.name) q w.mentions) }
reached m k n x d h s (further {y = y} l e) =
    let r = reached m k y x d h s l in
    let w = named m y n e in
    let t = number_drives m r.name y w.drive r.number w.is in
    record { name = w.name; number = w.number; depends = by_name r.depends (by_driver t.1 w.mentions) }

-- the item drives a name that depends on itself
pub record Loops (m : Plain) (k : ℕ) : Type 0 where
  pub drive : List ℕ × Expr
  pub is : drive_at m.items k ≡ Some drive
  pub loops : Depends m drive.0 drive.0

pub looped : (m : Plain) (k : ℕ) → Leads (graph m) k k → Loops m k
looped m k l =
    let f = first_drive m k k l in
    let y = last_name m k k l in
    let s = number_drives m y.0 k f.0 y.1 f.1 in
    let t : source_of m f.0.0 ≡ Driven f.0.1 = ap (source_of m) s.0 ∙ s.1 in
    let r = reached m k k f.0.0 f.0.1 f.1 t l in
    let u = number_drives m r.name k f.0 r.number f.1 in
    record { drive = f.0; is = f.1; loops = subst (λ z. Depends m f.0.0 z) (sym u.0) r.depends }

-- ---- a name that depends on itself is on a loop

leads_join : (edges : List (List ℕ)) (x y z : ℕ) → Leads edges x y → Leads edges y z → Leads edges x z
leads_join edges x y z l (direct e) = further l e
leads_join edges x y z l (further {y = w} k e) = further (leads_join edges x y w l k) e

-- a name that depends on another has a driver
drives : (m : Plain) (x y : List ℕ) → Depends m x y → (e : Expr) × (source_of m x ≡ Driven e)
drives m x y (by_driver {e = e} s q) = (e, s)
drives m x z (by_name {y = y} a b) = drives m x y a

-- what a name depends on, if it has a number, is led to from the item that drives the name
pub leads_to : (m : Plain) (x y : List ℕ) → Depends m x y → (k n : ℕ) → item_number m x ≡ Some k → item_number m y ≡ Some n → Leads (graph m) k n
leads_to m x y (by_driver {e = e} s q) k n p r =
    let d = driven m x e s in
    let same : k ≡ d.0 = (let h = sym p ∙ d.1.number in cc) in
    direct (subst (λ i. Edge (graph m) i n) (sym same) (needed m d.0 (x, e) y n d.1.drive q r))
leads_to m x z (by_name {y = y} a b) k n p r =
    let f = drives m y z b in
    let d = driven m y f.0 f.1 in
    leads_join (graph m) k d.0 n (leads_to m x y a k d.0 p d.1.number) (leads_to m y z b d.0 n d.1.number r)

pub back_number : (m : Plain) (x : List ℕ) → Depends m x x → (k : ℕ) × (item_number m x ≡ Some k)
back_number m x d = let f = drives m x x d in let k = driven m x f.0 f.1 in (k.0, k.1.number)

pub loop_depends : (m : Plain) (x : List ℕ) (k : ℕ) → item_number m x ≡ Some k → Leads (graph m) k k → Depends m x x
loop_depends m x k h l =
    let p = looped m k l in
    let s = number_drives m x k p.drive h p.is in
    subst (λ y. Depends m y y) s.0 p.loops

-- ---- places in a list

abbrev place_if : Bool → (later : ℕ) → ℕ
place_if true later = 0
place_if false later = suc later

-- the first place of a number
abbrev place : List ℕ → ℕ → ℕ
place [] x = 0
place (n ∷ ns) x = place_if (eqb n x) (place ns x)

abbrev IsPlace : List ℕ → (x p : ℕ) → Type 0
IsPlace ns x p = (p < length ns) × (get_or ns p 0 ≡ x)

placed_if : (n : ℕ) (ns : List ℕ) (x : ℕ) (b : Bool) → eqb n x ≡ b → (b ≡ false → IsPlace ns x (place ns x)) → IsPlace (n ∷ ns) x (place_if b (place ns x))
placed_if n ns x true h later = (omega arith, eqb-true n x h)
placed_if n ns x false h later = let p = later refl in let l = p.0 in (omega (arith, l), p.1)

later_place : (n x : ℕ) (ns : List ℕ) (j : ℕ) → j < length (n ∷ ns) → get_or (n ∷ ns) j 0 ≡ x → eqb n x ≡ false
    → ((i : ℕ) → i < length ns → get_or ns i 0 ≡ x → IsPlace ns x (place ns x)) → IsPlace ns x (place ns x)
later_place n x ns zero l e h more = absurd (eqb-false n x h e)
later_place n x ns (suc j) l e h more = more j (omega (arith, l)) e

placed : (ns : List ℕ) (x j : ℕ) → j < length ns → get_or ns j 0 ≡ x → IsPlace ns x (place ns x)
placed [] x j l e = absurd (omega arith)
placed (n ∷ ns) x j l e = placed_if n ns x (eqb n x) refl (λ h. later_place n x ns j l e h (λ i a b. placed ns x i a b))

-- ---- names that are driven

among_more : (x y : List ℕ) (seen : List (List ℕ)) → is_among x seen ≡ true → is_among x (y ∷ seen) ≡ true
among_more x y seen h = either (same_name y x) (is_among x seen) h
  where
    either : (b c : Bool) → c ≡ true → (b || c) ≡ true
    either true c h = refl
    either false c h = h

among_here : (x : List ℕ) (seen : List (List ℕ)) → is_among x (x ∷ seen) ≡ true
among_here x seen = ap (λ b. b || is_among x seen) (nat_list_eq_equiv.refl x)

driven_more : (x : List ℕ) (seen : List (List ℕ)) (o : Option (List ℕ × Expr)) → is_among x seen ≡ true → is_among x (driven_after seen o) ≡ true
driven_more x seen None h = h
driven_more x seen (Some d) h = among_more x d.0 seen h

driven_here : (x : List ℕ) (e : Expr) (seen : List (List ℕ)) (o : Option (List ℕ × Expr)) → o ≡ Some (x, e) → is_among x (driven_after seen o) ≡ true
driven_here x e seen o h = subst (λ p. is_among x (driven_after seen p) ≡ true) (sym h) (among_here x seen)

module _ (items : List Item) (x : List ℕ) where
  driven_stays : (ns : List ℕ) (seen : List (List ℕ)) → is_among x seen ≡ true → is_among x (driven_by items seen ns) ≡ true
  driven_stays [] seen h = h
  driven_stays (n ∷ ns) seen h = driven_stays ns (driven_after seen (drive_at items n)) (driven_more x seen (drive_at items n) h)

  driven_once : (e : Expr) (ns : List ℕ) (seen : List (List ℕ)) (j : ℕ) → j < length ns → drive_at items (get_or ns j 0) ≡ Some (x, e) → is_among x (driven_by items seen ns) ≡ true
  driven_once e [] seen j l h = absurd (omega arith)
  driven_once e (n ∷ ns) seen zero l h = driven_stays ns (driven_after seen (drive_at items n)) (driven_here x e seen (drive_at items n) h)
  driven_once e (n ∷ ns) seen (suc j) l h = driven_once e ns (driven_after seen (drive_at items n)) j (omega (arith, l)) h

-- ---- the order

module _ (m : Plain) (order : List ℕ) (s : Sorted (graph m) order) where
  -- all that the items before drive is among the names
  abbrev AreSeen : (front : List ℕ) → List (List ℕ) → Type 0
  AreSeen front seen = (j : ℕ) (x : List ℕ) (e : Expr) → j < length front → drive_at m.items (get_or front j 0) ≡ Some (x, e) → is_among x seen ≡ true

  ready : (front : List ℕ) (n : ℕ) (ns : List ℕ) (seen : List (List ℕ)) → order ≡ front ++ (n ∷ ns) → AreSeen front seen
      → (o : Option (List ℕ × Expr)) → drive_at m.items n ≡ o → IsReady m seen o
  ready front n ns seen e h None q = tt
  ready front n ns seen e h (Some d) q = λ y f w g.
      let p = driven m y f g in
      let at : get_or order (length front) 0 ≡ n = ap (λ o. get_or o (length front) 0) e ∙ get_or_at front n ns 0 (length front) refl in
      let edge = subst (λ z. Edge (graph m) z p.0) (sym at) (needed m n d y p.0 q w p.1.number) in
      let b = s.behind (length front) edge.0 (let l : length order ≡ length (front ++ (n ∷ ns)) = ap length e in let a = length-append front (n ∷ ns) in omega (arith, l, a)) edge.1.0 in
      let k = sym (get_or_append_left front (n ∷ ns) 0 b.0 b.1.0) ∙ ap (λ o. get_or o b.0 0) (sym e) ∙ b.1.1 ∙ edge.1.1 in
      h b.0 y f b.1.0 (ap (drive_at m.items) k ∙ p.1.drive)

  next_seen : (front : List ℕ) (n : ℕ) (seen : List (List ℕ)) → AreSeen front seen → AreSeen (front ++ (n ∷ [])) (driven_after seen (drive_at m.items n))
  next_seen front n seen h j x e l q = elim (at_end j (length front) (let a = length-append front (n ∷ []) in omega (arith, l, a))) [
    | inl k ↦ driven_more x seen (drive_at m.items n) (h j x e k (ap (drive_at m.items) (sym (get_or_append_left front (n ∷ []) 0 j k)) ∙ q))
    | inr k ↦ driven_here x e seen (drive_at m.items n) (ap (drive_at m.items) (sym (get_or_push front n 0 j (sym k))) ∙ q)
  ]

  all_ready : (front ns : List ℕ) (seen : List (List ℕ)) → order ≡ front ++ ns → AreSeen front seen → AreReady m seen ns
  all_ready front [] seen e h = tt
  all_ready front (n ∷ ns) seen e h = (
    ready front n ns seen e h (drive_at m.items n) refl,
    all_ready (front ++ (n ∷ [])) ns (driven_after seen (drive_at m.items n)) (e ∙ sym (append_assoc front (n ∷ []) ns)) (next_seen front n seen h),
  )

  abbrev rank_of : Option ℕ → ℕ
  rank_of None = 0
  rank_of (Some k) = suc (place order k)

  -- each item has its place
  item_place : (k : ℕ) → k < length m.items → IsPlace order k (place order k)
  item_place k l = let a = s.all k (let e = edges_length (item_number m) m.items in omega (arith, l, e)) in placed order k a.0 a.1.0 a.1.1

  lower_place : (k n : ℕ) → k < length m.items → Edge (graph m) k n → place order n < place order k
  lower_place k n l edge =
      let a = item_place k l in
      let at = subst (λ z. Edge (graph m) z n) (sym a.1) edge in
      let b = s.behind (place order k) at.0 a.0 at.1.0 in
      let e = b.1.1 ∙ at.1.1 in
      let c = let a0 = a.0 in let b0 = b.1.0 in placed order n b.0 (omega (arith, a0, b0)) e in
      let q : place order n ≡ b.0 = s.once (place order n) b.0 c.0 (let a0 = a.0 in let b0 = b.1.0 in omega (arith, a0, b0)) (c.1 ∙ sym e) in
      let b0 = b.1.0 in
      omega (arith, q, b0)

  lower_rank : (k : ℕ) (d : List ℕ × Expr) (y : List ℕ) → k < length m.items → drive_at m.items k ≡ Some d → Mentions d.1 y
      → (o : Option ℕ) → item_number m y ≡ o → rank_of o < suc (place order k)
  lower_rank k d y l h q None e = omega arith
  lower_rank k d y l h q (Some n) e = let p = lower_place k n l (needed m k d y n h q e) in omega (arith, p)

  lower : (x y : List ℕ) (e : Expr) → source_of m x ≡ Driven e → Mentions e y → rank_of (item_number m y) < rank_of (item_number m x)
  lower x y e h q =
      let d = driven m x e h in
      subst (λ o. rank_of (item_number m y) < rank_of o) (sym d.1.number) (lower_rank d.0 (x, e) y d.1.within d.1.drive q (item_number m y) refl)

  small : (x : List ℕ) (o : Option ℕ) → item_number m x ≡ o → rank_of o ≤ length m.items
  small x None h = omega arith
  small x (Some k) h =
      let p = item_place k (number_within m x k h) in
      let p0 = p.0 in let a = s.size in let b = edges_length (item_number m) m.items in
      omega (arith, p0, a, b)

  pub is_order : IsOrder m order
  is_order = record {
    within = λ k d l. subst (λ n. n < length m.items) (get_or_default order k 0 d l) (let h = s.nodes k l in let e = edges_length (item_number m) m.items in omega (arith, h, e));
    short = let a = s.size in let b = edges_length (item_number m) m.items in omega (arith, a, b);
    ready = all_ready [] order [] refl (λ j x e l q. absurd (omega arith));
    complete = λ x e h.
        let d = driven m x e h in
        let a = s.all d.0 (let l = d.1.within in let b = edges_length (item_number m) m.items in omega (arith, l, b)) in
        driven_once m.items x e order [] a.0 a.1.0 (ap (drive_at m.items) a.1.1 ∙ d.1.drive);
    rank = λ x. rank_of (item_number m x);
    ranked = record { lower = lower; small = λ x. small x (item_number m x) refl };
  }
