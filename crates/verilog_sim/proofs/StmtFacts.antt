-- The statement of each register and of each array of a sound tree.
use Rattle.std.proofs.Common.{◌≡◌, ℕ, ◌^◌, ◌<◌, Bool, true, false, ◌||◌, List, [], ◌∷◌, Option, Some, None, refl, ap, sym, ◌∙◌, subst}
use Rattle.std.specs.Cmp.Lexicographic.{same_text}
use Rattle.core_words.specs.Names.{same_name}
use Rattle.verilog_tree.specs.declared.tree.Stmt.{Stmt}
use Rattle.verilog_tree.specs.declared.tree.Stmt.TheVariants as stmt
use Rattle.verilog_tree.specs.declared.tree.Item as tree
use Rattle.verilog_tree.specs.declared.tree.Item.TheVariants.{Wire, Reg, Assign, Always}
use Rattle.verilog_mean.specs.declared.class.Class.{Class}
use Rattle.verilog_mean.specs.declared.class.Class.TheVariants as class
use Rattle.verilog_mean.specs.Plain.{Item, Plain}
use Rattle.verilog_mean.specs.Cycle.{clocked_of, writing_of, item_clocked, item_writing, width_of}
use Rattle.verilog_mean.specs.Cycle.Clocked.{Stays}
use Rattle.verilog_mean.specs.Cycle.Writing.{Keeps}
use Rattle.verilog_mean.specs.Look.{look, or_else, pick, pick_if}
use Rattle.verilog_mean.specs.Erase.{plain, plain_item, plain_items}
use Rattle.verilog_mean.specs.Declarations.{Declaration, declaration_of, width_among}
use Rattle.verilog_mean.specs.Names.{is_among}
use Rattle.verilog_mean.specs.Kinds.{is_array, is_register}
use Rattle.verilog_mean.specs.Drivers.{driven_again, item_target, stmt_target, targets, texts_of, undriven, wants_driver}
use Rattle.verilog_resolve.specs.Fine.{IsFine}
use Rattle.verilog_sim.specs.Stmts.{clocked, writing, stmt_given, last_from, last_of}
use Rattle.verilog_sim.specs.Targets.{target}
use Rattle.verilog_sim.proofs.Once.{AllFind, AreNew, Finds, GivesOwn, IsNew, after, same_self}
use Rattle.verilog_sim.proofs.Sound.{each_driven, text_in, target_new}
use Rattle.verilog_sim.proofs.Items.{Has, has_not, wire_class, AreFineItems, register_no_array}
use Rattle.verilog_sim.proofs.Driving.{look_plain, wanted}

-- ---- the table has each statement

abbrev Tgt : tree.Item → Option (List ℕ)
Tgt i = text_in (item_target i)

pick_kept : (g : Option (List ℕ × Stmt)) (n : Option (List ℕ)) (x : List ℕ) (seen : List (List ℕ)) (o : Option Stmt) → GivesOwn n g → IsNew seen n → is_among x seen ≡ true → pick g x o ≡ o
pick_kept None n x seen o w i q = refl
pick_kept (Some p) n x seen o w i q = split (same_name p.0 x) refl
  where
    split : (b : Bool) → same_name p.0 x ≡ b → pick_if b p.1 o ≡ o
    split false e = refl
    split true e = absurd (let z : ◌≡◌ {A = Bool} false true = sym (subst (IsNew seen) w i) ∙ ap (λ y. is_among y seen) (same_text p.0 x (sym e)) ∙ q in cc)

after_among : (n : Option (List ℕ)) (x : List ℕ) (seen : List (List ℕ)) → is_among x seen ≡ true → is_among x (after seen n) ≡ true
after_among None x seen q = q
after_among (Some y) x seen q = right (same_name y x) q
  where
    right : (b : Bool) → is_among x seen ≡ true → (b || is_among x seen) ≡ true
    right true q = refl
    right false q = q

stmt_own : (i : tree.Item) → GivesOwn (Tgt i) (stmt_given i)
stmt_own (Wire at range name d) = tt
stmt_own (Reg at range name cells) = tt
stmt_own (Assign at t d) = tt
stmt_own (Always at s) = refl

last_skip : (o : List ℕ → Option Stmt) (rest : List tree.Item) (x : List ℕ) (seen : List (List ℕ)) → is_among x seen ≡ true → AreNew Tgt seen rest → last_from o rest x ≡ o x
last_skip o [] x seen q n = refl
last_skip o (i ∷ is) x seen q n =
    last_skip (λ y. pick (stmt_given i) y (o y)) is x (after seen (Tgt i)) (after_among (Tgt i) x seen q) n.1 ∙ pick_kept (stmt_given i) (Tgt i) x seen (o x) (stmt_own i) n.0 q

last_here : (o : List ℕ → Option Stmt) (i : tree.Item) (is : List tree.Item) (seen : List (List ℕ)) → AreNew Tgt seen (i ∷ is) → Finds (last_from o (i ∷ is)) (stmt_given i)
last_here o (Wire at range name d) is seen n = tt
last_here o (Reg at range name cells) is seen n = tt
last_here o (Assign at t d) is seen n = tt
last_here o (Always at s) is seen n =
    let x = (stmt_target s).text in
    last_skip (λ y. pick_if (same_name x y) s (o y)) is x (x ∷ seen) (ap (λ b. b || is_among x seen) (same_self x)) n.1 ∙ ap (λ b. pick_if b s (o x)) (same_self x)

last_all : (o : List ℕ → Option Stmt) (rest : List tree.Item) (seen : List (List ℕ)) → AreNew Tgt seen rest → AllFind (last_from o rest) stmt_given rest
last_all o [] seen n = tt
last_all o (i ∷ is) seen n = (last_here o i is seen n, last_all (λ y. pick (stmt_given i) y (o y)) is (after seen (Tgt i)) n.1)

-- ---- what the statements of registers and arrays are like

clocked_own : (i : tree.Item) → GivesOwn (Tgt i) (item_clocked (plain_item i))
clocked_own (Wire at range name d) = tt
clocked_own (Reg at range name None) = tt
clocked_own (Reg at range name (Some cells)) = tt
clocked_own (Assign at t d) = tt
clocked_own (Always at (stmt.Next t d)) = refl
clocked_own (Always at (stmt.Reset at' first s start t d)) = refl
clocked_own (Always at (stmt.Write at' p e t b i d)) = tt

writing_own : (i : tree.Item) → GivesOwn (Tgt i) (item_writing (plain_item i))
writing_own (Wire at range name d) = tt
writing_own (Reg at range name None) = tt
writing_own (Reg at range name (Some cells)) = tt
writing_own (Assign at t d) = tt
writing_own (Always at (stmt.Next t d)) = tt
writing_own (Always at (stmt.Reset at' first s start t d)) = tt
writing_own (Always at (stmt.Write at' p e t b i d)) = refl

module _ (ds : List Declaration) where
  -- a statement that gives a register its next value, within its width
  abbrev pub NextFine : List ℕ → Option Stmt → Type 0
  NextFine x None = ⊥
  NextFine x (Some (stmt.Next t d)) = IsFine (target ds) (plain d.value) × (width_among ds x ≡ width_of (width_among ds) (plain d.value))
  NextFine x (Some (stmt.Reset at first s start t d)) = IsFine (target ds) (plain d.value) × ((width_among ds x ≡ width_of (width_among ds) (plain d.value)) × (start.value < 2 ^ width_among ds x))
  NextFine x (Some (stmt.Write at p e t b i d)) = ⊥

  -- a statement that writes an array
  abbrev pub PutFine : List ℕ → Option Stmt → Type 0
  PutFine x None = ⊥
  PutFine x (Some (stmt.Next t d)) = ⊥
  PutFine x (Some (stmt.Reset at first s start t d)) = ⊥
  PutFine x (Some (stmt.Write at p e t b i d)) = IsFine (target ds) (plain e) × (IsFine (target ds) (plain i) × (IsFine (target ds) (plain d.value)
      × (width_among ds x ≡ width_of (width_among ds) (plain d.value))))

  past : (t x : List ℕ) (a b : Class → Bool) → ((c : Class) → a c ≡ true → b c ≡ false) → Has a (declaration_of ds t) → Has b (declaration_of ds x) → (among : Bool) → (same_name t x || among) ≡ true → among ≡ true
  past t x a b differ h k among q = split (same_name t x) refl q
    where
      split : (c : Bool) → same_name t x ≡ c → (c || among) ≡ true → among ≡ true
      split false e q = q
      split true e q = absurd (has_not a b differ (declaration_of ds x) (subst (λ y. Has a (declaration_of ds y)) (same_text t x (sym e)) h) k)

  either : (t x : List ℕ) (among : Bool) (P : List ℕ → Type 0) → (same_name t x || among) ≡ true → P t → (among ≡ true → P x) → P x
  either t x among P q h more = split (same_name t x) refl q
    where
      split : (c : Bool) → same_name t x ≡ c → (c || among) ≡ true → P x
      split true e q = subst P (same_text t x (sym e)) h
      split false e q = more q

  wire_no_register : (c : Class) → wire_class c ≡ true → is_register c ≡ false
  wire_no_register class.Input h = refl
  wire_no_register class.Output h = refl
  wire_no_register (class.Wired inline) h = refl
  wire_no_register class.Register h = cc
  wire_no_register (class.Array cells) h = refl

  wire_no_array : (c : Class) → wire_class c ≡ true → is_array c ≡ false
  wire_no_array class.Input h = refl
  wire_no_array class.Output h = refl
  wire_no_array (class.Wired inline) h = refl
  wire_no_array class.Register h = refl
  wire_no_array (class.Array cells) h = cc

  array_no_register : (c : Class) → is_array c ≡ true → is_register c ≡ false
  array_no_register class.Input h = refl
  array_no_register class.Output h = refl
  array_no_register (class.Wired inline) h = refl
  array_no_register class.Register h = cc
  array_no_register (class.Array cells) h = refl

  module _ (m : Plain) (table : List ℕ → Option Stmt) where
    abbrev pub NextFact : List ℕ → Type 0
    NextFact x = NextFine x (table x) × (clocked (table x) ≡ clocked_of m x)

    abbrev pub PutFact : List ℕ → Type 0
    PutFact x = PutFine x (table x) × (writing (table x) ≡ writing_of m x)

    next_in : (is : List tree.Item) (x : List ℕ) → AreFineItems ds is → AllFind table stmt_given is → AllFind (look item_clocked m.items) (λ i. item_clocked (plain_item i)) is
        → Has is_register (declaration_of ds x) → is_among x (texts_of (targets is)) ≡ true → NextFact x
    next_in [] x f t k r q = absurd cc
    next_in (Wire at range name None ∷ is) x f t k r q = next_in is x f.1 t.1 k.1 r q
    next_in (Wire at range name (Some d) ∷ is) x f t k r q =
        next_in is x f.1 t.1 k.1 r (past name.text x wire_class is_register wire_no_register f.0.1.1 r (is_among x (texts_of (targets is))) q)
    next_in (Reg at range name None ∷ is) x f t k r q = next_in is x f.1 t.1 k.1 r q
    next_in (Reg at range name (Some cells) ∷ is) x f t k r q = next_in is x f.1 t.1 k.1 r q
    next_in (Assign at g d ∷ is) x f t k r q =
        next_in is x f.1 t.1 k.1 r (past g.text x wire_class is_register wire_no_register f.0.1.1 r (is_among x (texts_of (targets is))) q)
    next_in (Always at (stmt.Next g d) ∷ is) x f t k r q =
        either g.text x (is_among x (texts_of (targets is))) NextFact q
        (subst (NextFine g.text) (sym t.0) (f.0.0, f.0.1.0), ap clocked t.0 ∙ sym (ap (λ o. or_else o Stays) k.0))
        (next_in is x f.1 t.1 k.1 r)
    next_in (Always at (stmt.Reset at' first s start g d) ∷ is) x f t k r q =
        either g.text x (is_among x (texts_of (targets is))) NextFact q
        (subst (NextFine g.text) (sym t.0) (f.0.0.0, (f.0.0.1.0, f.0.1)), ap clocked t.0 ∙ sym (ap (λ o. or_else o Stays) k.0))
        (next_in is x f.1 t.1 k.1 r)
    next_in (Always at (stmt.Write at' p e g b i d) ∷ is) x f t k r q =
        next_in is x f.1 t.1 k.1 r (past g.text x is_array is_register array_no_register f.0.1.1.1.1 r (is_among x (texts_of (targets is))) q)

    put_in : (is : List tree.Item) (x : List ℕ) → AreFineItems ds is → AllFind table stmt_given is → AllFind (look item_writing m.items) (λ i. item_writing (plain_item i)) is
        → Has is_array (declaration_of ds x) → is_among x (texts_of (targets is)) ≡ true → PutFact x
    put_in [] x f t k r q = absurd cc
    put_in (Wire at range name None ∷ is) x f t k r q = put_in is x f.1 t.1 k.1 r q
    put_in (Wire at range name (Some d) ∷ is) x f t k r q =
        put_in is x f.1 t.1 k.1 r (past name.text x wire_class is_array wire_no_array f.0.1.1 r (is_among x (texts_of (targets is))) q)
    put_in (Reg at range name None ∷ is) x f t k r q = put_in is x f.1 t.1 k.1 r q
    put_in (Reg at range name (Some cells) ∷ is) x f t k r q = put_in is x f.1 t.1 k.1 r q
    put_in (Assign at g d ∷ is) x f t k r q =
        put_in is x f.1 t.1 k.1 r (past g.text x wire_class is_array wire_no_array f.0.1.1 r (is_among x (texts_of (targets is))) q)
    put_in (Always at (stmt.Next g d) ∷ is) x f t k r q =
        put_in is x f.1 t.1 k.1 r (past g.text x is_register is_array register_no_array f.0.1.1 r (is_among x (texts_of (targets is))) q)
    put_in (Always at (stmt.Reset at' first s start g d) ∷ is) x f t k r q =
        put_in is x f.1 t.1 k.1 r (past g.text x is_register is_array register_no_array f.0.0.1.1 r (is_among x (texts_of (targets is))) q)
    put_in (Always at (stmt.Write at' p e g b i d) ∷ is) x f t k r q =
        either g.text x (is_among x (texts_of (targets is))) PutFact q
        (subst (PutFine g.text) (sym t.0) (f.0.0, (f.0.1.0, (f.0.1.1.0, f.0.1.1.1.0))), ap writing t.0 ∙ sym (ap (λ o. or_else o Keeps) k.0))
        (put_in is x f.1 t.1 k.1 r)

  register_wants : (c : Class) → is_register c ≡ true → wants_driver c ≡ true
  register_wants class.Input h = h
  register_wants class.Output h = refl
  register_wants (class.Wired inline) h = refl
  register_wants class.Register h = refl
  register_wants (class.Array cells) h = refl

  array_wants : (c : Class) → is_array c ≡ true → wants_driver c ≡ true
  array_wants class.Input h = h
  array_wants class.Output h = refl
  array_wants (class.Wired inline) h = refl
  array_wants class.Register h = refl
  array_wants (class.Array cells) h = refl

  has_wants : (test : Class → Bool) → ((c : Class) → test c ≡ true → wants_driver c ≡ true) → (o : Option Declaration) → Has test o → Has wants_driver o
  has_wants test f None h = h
  has_wants test f (Some d) h = f d.class h

  module _ (items : List tree.Item) (m : Plain) (same : m.items ≡ plain_items items) (fine : AreFineItems ds items) (once : driven_again [] (targets items) ≡ []) (all : undriven (texts_of (targets items)) ds ≡ []) where
    looks : {B : Type 0} (g : Item → Option (List ℕ × B)) → ((i : tree.Item) → GivesOwn (Tgt i) (g (plain_item i))) → AllFind (look g m.items) (λ i. g (plain_item i)) items
    looks g own =
        subst (λ l. AllFind l (λ i. g (plain_item i)) items) (λ i x. (look_plain g items x ∙ ap (λ is. look g is x) (sym same)) i) (each_driven (λ i. g (plain_item i)) own items once)

    pub next_fact : (x : List ℕ) → Has is_register (declaration_of ds x) → NextFact m (last_of items) x
    next_fact x r =
        next_in m (last_of items) items x fine (last_all (λ y. None) items [] (target_new [] items once)) (looks item_clocked clocked_own) r
        (wanted (texts_of (targets items)) ds x all (has_wants is_register register_wants (declaration_of ds x) r))

    pub put_fact : (x : List ℕ) → Has is_array (declaration_of ds x) → PutFact m (last_of items) x
    put_fact x r =
        put_in m (last_of items) items x fine (last_all (λ y. None) items [] (target_new [] items once)) (looks item_writing writing_own) r
        (wanted (texts_of (targets items)) ds x all (has_wants is_array array_wants (declaration_of ds x) r))
