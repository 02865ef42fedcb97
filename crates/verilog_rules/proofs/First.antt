-- What the loops of the rules need of names and of lists of refusals.
use Rattle.std.proofs.Common.{◌≡◌, ℕ, suc, Bool, true, false, List, [], ◌∷◌, ◌++◌, ◌||◌, ◌&&◌, not, ◌∙◌, sym, refl, ap, subst, Option, Some, None}
use Rattle.std.proofs.Common.{◌+◌, ◌<◌, length, get_or, drop, map, add-one, append_assoc}
use Rattle.std.proofs.Math.Seq.{drop-cons}
use Rattle.verilog_tree.specs.declared.tree.Item.{Item}
use Rattle.verilog_rules.specs.declared.declare.Declared.{Declared}
use Rattle.core_words.specs.Names.{same_name}
use Rattle.verilog_tree.specs.declared.expr.Ident.{Ident}
use Rattle.verilog_mean.specs.declared.refusal.MeanRefusal.{MeanRefusal}
use Rattle.verilog_mean.specs.declared.refusal.MeanRefusal.TheVariants.{NameTwice, DriverTwice, DriverMissing}
use Rattle.verilog_mean.specs.Look.{put, put_if}
use Rattle.verilog_mean.specs.Names.{is_among, repeated, Refusals}
use Rattle.verilog_mean.specs.Declarations.{Declaration}
use Rattle.verilog_mean.specs.Drivers.{driven_again, undriven, wants_driver, texts_of, targets, item_target}
use Rattle.verilog_rules.specs.Collected.{names_of, declaration}
use Rattle.verilog_rules.specs.SameNames.{SameNames}
use Rattle.verilog_rules.specs.First.{first}

or_move : (a b c : Bool) → ((a || b) || c) ≡ (b || (a || c))
or_move true true c = refl
or_move true false c = refl
or_move false true c = refl
or_move false false c = refl

or_swap : (a b c : Bool) → (a || (b || c)) ≡ (b || (a || c))
or_swap true true c = refl
or_swap true false c = refl
or_swap false true c = refl
or_swap false false c = refl

pub among_append : (x : List ℕ) (ms ns : List (List ℕ)) → is_among x (ms ++ ns) ≡ (is_among x ms || is_among x ns)
among_append x [] ns = refl
among_append x (m ∷ ms) ns = ap (λ b. same_name m x || b) (among_append x ms ns) ∙ assoc (same_name m x) (is_among x ms) (is_among x ns)
  where
    assoc : (a b c : Bool) → (a || (b || c)) ≡ ((a || b) || c)
    assoc true b c = refl
    assoc false b c = refl

pub one_more : (n : List ℕ) (ms ns : List (List ℕ)) → SameNames ms ns → SameNames (n ∷ ms) (n ∷ ns)
one_more n ms ns h = record { same = λ x. ap (λ b. same_name n x || b) (h.same x) }

pub same_back : (ms ns : List (List ℕ)) → SameNames ms ns → SameNames ns ms
same_back ms ns h = record { same = λ x. sym (h.same x) }

at_end : (ds : List Declaration) (d : Declaration) (x : List ℕ) → is_among x (d.name.text ∷ names_of ds) ≡ is_among x (names_of (ds ++ (d ∷ [])))
at_end [] d x = refl
at_end (e ∷ es) d x = or_swap (same_name d.name.text x) (same_name e.name.text x) (is_among x (names_of es)) ∙ ap (λ b. same_name e.name.text x || b) (at_end es d x)

-- an item of a list, and those behind it
pub here : {A : Type 0} (xs : List A) (i : ℕ) (x d : A) → i < length xs → x ≡ get_or xs i d → drop i xs ≡ x ∷ drop (i + 1) xs
here xs i x d h e = rw add-one (drop-cons xs i d h ∙ ap (λ y. y ∷ drop (suc i) xs) (sym e))

-- ---- first rule

pub repeated_same : (ms ns : List (List ℕ)) → SameNames ms ns → (ds : List Declaration) → repeated ms ds ≡ repeated ns ds
repeated_same ms ns h [] = refl
repeated_same ms ns h (d ∷ ds) = λ i. put_if (h.same d.name.text i) (NameTwice d.name.at) (repeated_same (d.name.text ∷ ms) (d.name.text ∷ ns) (one_more d.name.text ms ns h) ds i)

pub next_repeated : (done : List Declaration) (d : Declaration) (ds : List Declaration) → is_among d.name.text (names_of done) ≡ false
    → repeated (names_of done) (d ∷ ds) ≡ repeated (names_of (done ++ (d ∷ []))) ds
next_repeated done d ds h = ap (λ b. put_if b (NameTwice d.name.at) (repeated (d.name.text ∷ names_of done) ds)) h
    ∙ repeated_same (d.name.text ∷ names_of done) (names_of (done ++ (d ∷ []))) (record { same = λ x. at_end done d x }) ds

pub table_step : (all : List Declared) (i : ℕ) (d : Declared) (old new : List Declaration) → drop i all ≡ d ∷ drop (i + 1) all
    → is_among d.name.now.text (names_of old) ≡ false → new ≡ old ++ (declaration d ∷ [])
    → old ++ map declaration (drop i all) ≡ map declaration all → repeated (names_of old) (map declaration (drop i all)) ≡ repeated [] (map declaration all)
    → (new ++ map declaration (drop (i + 1) all) ≡ map declaration all) × (repeated (names_of new) (map declaration (drop (i + 1) all)) ≡ repeated [] (map declaration all))
table_step all i d old new e h n u v = (
  ap (λ t. t ++ map declaration (drop (i + 1) all)) n ∙ append_assoc old (declaration d ∷ []) (map declaration (drop (i + 1) all))
      ∙ sym (ap (λ xs. old ++ map declaration xs) e) ∙ u,
  ap (λ t. repeated (names_of t) (map declaration (drop (i + 1) all))) n ∙ sym (next_repeated old (declaration d) (map declaration (drop (i + 1) all)) h)
      ∙ sym (ap (λ xs. repeated (names_of old) (map declaration xs)) e) ∙ v,
)

pub here_repeated : (done : List Declaration) (d : Declaration) (ds : List Declaration) → is_among d.name.text (names_of done) ≡ true
    → first (repeated (names_of done) (d ∷ ds)) ≡ Some (NameTwice d.name.at)
here_repeated done d ds h = ap (λ b. first (put_if b (NameTwice d.name.at) (repeated (d.name.text ∷ names_of done) ds))) h

-- ---- seventh and eighth rule

pub driven_same : (ms ns : List (List ℕ)) → SameNames ms ns → (is : List Ident) → driven_again ms is ≡ driven_again ns is
driven_same ms ns h [] = refl
driven_same ms ns h (i ∷ is) = λ j. put_if (h.same i.text j) (DriverTwice i.at) (driven_same (i.text ∷ ms) (i.text ∷ ns) (one_more i.text ms ns h) is j)

pub next_driven : (t : Option Ident) (i : Ident) (is : List Ident) (old new : List (List ℕ)) → Some i ≡ t → is_among i.text old ≡ false
    → SameNames new (i.text ∷ old) → driven_again old (put t is) ≡ driven_again new is
next_driven t i is old new e h s = ap (λ t. driven_again old (put t is)) (sym e) ∙ ap (λ b. put_if b (DriverTwice i.at) (driven_again (i.text ∷ old) is)) h
    ∙ driven_same (i.text ∷ old) new (same_back new (i.text ∷ old) s) is

pub here_driven : (t : Option Ident) (i : Ident) (is : List Ident) (old : List (List ℕ)) → Some i ≡ t → is_among i.text old ≡ true
    → first (driven_again old (put t is)) ≡ Some (DriverTwice i.at)
here_driven t i is old e h = ap (λ t. first (driven_again old (put t is))) (sym e) ∙ ap (λ b. first (put_if b (DriverTwice i.at) (driven_again (i.text ∷ old) is))) h

pub moved : (t : Option Ident) (i : Ident) (is : List Ident) (old new all : List (List ℕ)) → Some i ≡ t → SameNames new (i.text ∷ old)
    → SameNames (old ++ texts_of (put t is)) all → SameNames (new ++ texts_of is) all
moved t i is old new all e s h = record {
  same = λ x. among_append x new (texts_of is) ∙ ap (λ b. b || is_among x (texts_of is)) (s.same x)
      ∙ or_move (same_name i.text x) (is_among x old) (is_among x (texts_of is)) ∙ sym (among_append x old (i.text ∷ texts_of is))
      ∙ ap (λ t. is_among x (old ++ texts_of (put t is))) e ∙ h.same x;
}

pub driven_step : (items : List Item) (i : ℕ) (item : Item) (n : Ident) (old new : List (List ℕ)) → drop i items ≡ item ∷ drop (i + 1) items
    → Some n ≡ item_target item → is_among n.text old ≡ false → SameNames new (n.text ∷ old)
    → driven_again old (targets (drop i items)) ≡ driven_again [] (targets items) → SameNames (old ++ texts_of (targets (drop i items))) (texts_of (targets items))
    → (driven_again new (targets (drop (i + 1) items)) ≡ driven_again [] (targets items)) × SameNames (new ++ texts_of (targets (drop (i + 1) items))) (texts_of (targets items))
driven_step items i item n old new e t h s u v = (
  sym (next_driven (item_target item) n (targets (drop (i + 1) items)) old new t h s) ∙ sym (ap (λ xs. driven_again old (targets xs)) e) ∙ u,
  moved (item_target item) n (targets (drop (i + 1) items)) old new (texts_of (targets items)) t s
      (subst (λ (xs : List Item). SameNames (old ++ texts_of (targets xs)) (texts_of (targets items))) e v),
)

pub driven_skip : (items : List Item) (i : ℕ) (item : Item) (old : List (List ℕ)) → drop i items ≡ item ∷ drop (i + 1) items
    → None ≡ item_target item
    → driven_again old (targets (drop i items)) ≡ driven_again [] (targets items) → SameNames (old ++ texts_of (targets (drop i items))) (texts_of (targets items))
    → (driven_again old (targets (drop (i + 1) items)) ≡ driven_again [] (targets items)) × SameNames (old ++ texts_of (targets (drop (i + 1) items))) (texts_of (targets items))
driven_skip items i item old e t u v =
    let f : targets (drop i items) ≡ targets (drop (i + 1) items) = ap targets e ∙ ap (λ t. put t (targets (drop (i + 1) items))) (sym t) in
    (sym (ap (driven_again old) f) ∙ u, subst (λ (is : List Ident). SameNames (old ++ texts_of is) (texts_of (targets items))) f v)

pub undriven_same : (ms ns : List (List ℕ)) → SameNames ms ns → (ds : List Declaration) → undriven ms ds ≡ undriven ns ds
undriven_same ms ns h [] = refl
undriven_same ms ns h (d ∷ ds) = λ i. put_if (wants_driver d.class && not (h.same d.name.text i)) (DriverMissing d.name.at) (undriven_same ms ns h ds i)

-- ---- the first of two lists

pub first_none : (xs ys : Refusals) → None ≡ first xs → first (xs ++ ys) ≡ first ys
first_none [] ys h = refl
first_none (x ∷ xs) ys h = cc

pub first_some : (xs ys : Refusals) (x : MeanRefusal) → Some x ≡ first xs → first (xs ++ ys) ≡ Some x
first_some [] ys x h = cc
first_some (y ∷ xs) ys x h = cc

pub put_none : (b : Bool) (r : MeanRefusal) (rest : Refusals) → None ≡ first (put_if b r []) → put_if b r rest ≡ rest
put_none true r rest h = cc
put_none false r rest h = refl

pub put_some : (b : Bool) (r x : MeanRefusal) (rest : Refusals) → Some x ≡ first (put_if b r []) → first (put_if b r rest) ≡ Some x
put_some true r x rest h = sym h
put_some false r x rest h = cc

pub ruleset firsts = (first_none, first_some, put_none, put_some)
