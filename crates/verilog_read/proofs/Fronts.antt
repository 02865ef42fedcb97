-- A list as it grows is the list that is read.
use Rattle.std.proofs.Common.{ℕ, zero, suc, ◌≡◌, Bool, true, false, List, [], ◌∷◌, ◌++◌, Result, Ok, Err, refl, sym, ap, ◌∙◌, append_assoc}
use Rattle.std.specs.Prelude.{codes}
use Rattle.std.proofs.lemmas.List.{append-nil}
use Rattle.verilog_tree.specs.Signs as sign
use Rattle.verilog_tree.specs.Lexemes.{Placed}
use Rattle.verilog_tree.specs.declared.tree.Item.{Item}
use Rattle.verilog_tree.specs.declared.tree.PortDecl.{PortDecl}
use Rattle.verilog_tree.specs.Bytes.{choose}
use Rattle.verilog_tree.specs.Readers.{Stop, ◌>>=◌, expect, is_mark}
use Rattle.verilog_tree.specs.Read.{is_word, by_next, next_is, item, items, port, ports, ports_behind}
use Rattle.verilog_read.specs.Lists.{items_from, ports_from}

abbrev Answer : Type 0 → Type 0
Answer A = Result (List A × List Placed) Stop

abbrev with_front : {A : Type 0} → List A → Answer A → Answer A
with_front front r = r >>= λ x. Ok (front ++ x.0, x.1)

plain : {A : Type 0} (r : Answer A) → r ≡ with_front [] r
plain (Ok x) = refl
plain (Err s) = refl

one_more : {A : Type 0} (found : List A) (a : A) (r : Answer A) → with_front found (r >>= λ x. Ok (a ∷ x.0, x.1)) ≡ with_front (found ++ a ∷ []) r
one_more found a (Ok x) = ap (λ (l : List _). Ok (l, x.1)) (sym (append_assoc found (a ∷ []) x.0))
one_more found a (Err s) = refl

items_are : (n : ℕ) (found : List Item) (ts : List Placed) → with_front found (items n ts) ≡ items_from n found ts
unfolding items items_from
items_are zero found ts = refl
items_are (suc n) found ts = by_test (next_is (is_word (codes "endmodule")) ts) (λ f us. items_are n f us)
  where
    by_item : (r : Result (Item × List Placed) Stop) → ((f : List Item) (us : List Placed) → with_front f (items n us) ≡ items_from n f us) →
        with_front found (r >>= λ i. items n i.1 >>= λ is. Ok (i.0 ∷ is.0, is.1)) ≡ (r >>= λ i. items_from n (found ++ i.0 ∷ []) i.1)
    by_item (Ok i) more = one_more found i.0 (items n i.1) ∙ more (found ++ i.0 ∷ []) i.1
    by_item (Err s) more = refl

    by_test : (b : Bool) → ((f : List Item) (us : List Placed) → with_front f (items n us) ≡ items_from n f us) →
        with_front found (choose b (λ _. Ok ([], ts)) (λ _. item ts >>= λ i. items n i.1 >>= λ is. Ok (i.0 ∷ is.0, is.1))) ≡ choose b (λ _. Ok (found, ts)) (λ _. item ts >>= λ i. items_from n (found ++ i.0 ∷ []) i.1)
    by_test true more = ap (λ (l : List Item). Ok (l, ts)) (append-nil found)
    by_test false more = by_item (item ts) more

pub items-from : (n : ℕ) (ts : List Placed) → items n ts ≡ items_from n [] ts
items-from n ts = plain (items n ts) ∙ items_are n [] ts

ports_are : (n : ℕ) (found : List PortDecl) (ts : List Placed) → with_front found (ports n ts) ≡ ports_from n found ts
unfolding ports ports_from
ports_are zero found ts = refl
ports_are (suc n) found ts = by_port (port ts) (λ f us. ports_are n f us)
  where
    by_comma : (p : PortDecl) (r : Result (ℕ × List Placed) Stop) → ((f : List PortDecl) (us : List Placed) → with_front f (ports n us) ≡ ports_from n f us) →
        with_front found (r >>= λ c. ports n c.1 >>= λ ps. Ok (p ∷ ps.0, ps.1)) ≡ (r >>= λ c. ports_from n (found ++ p ∷ []) c.1)
    by_comma p (Ok c) more = one_more found p (ports n c.1) ∙ more (found ++ p ∷ []) c.1
    by_comma p (Err s) more = refl

    by_close : (p : PortDecl) (r : Result (ℕ × List Placed) Stop) → with_front found (r >>= λ c. Ok (p ∷ [], c.1)) ≡ (r >>= λ c. Ok (found ++ p ∷ [], c.1))
    by_close p (Ok c) = refl
    by_close p (Err s) = refl

    by_test : (b : Bool) (p : PortDecl) (us : List Placed) → ((f : List PortDecl) (us : List Placed) → with_front f (ports n us) ≡ ports_from n f us) →
        with_front found (choose b (λ _. expect sign.Comma us >>= λ c. ports n c.1 >>= λ ps. Ok (p ∷ ps.0, ps.1)) (λ _. expect sign.Close us >>= λ c. Ok (p ∷ [], c.1)))
        ≡ choose b (λ _. expect sign.Comma us >>= λ c. ports_from n (found ++ p ∷ []) c.1) (λ _. expect sign.Close us >>= λ c. Ok (found ++ p ∷ [], c.1))
    by_test true p us more = by_comma p (expect sign.Comma us) more
    by_test false p us more = by_close p (expect sign.Close us)

    by_port : (r : Result (PortDecl × List Placed) Stop) → ((f : List PortDecl) (us : List Placed) → with_front f (ports n us) ≡ ports_from n f us) →
        with_front found (r >>= λ p. ports_behind (ports n) p.0 p.1) ≡ (r >>= λ p. by_next (is_mark sign.Comma) (λ us. expect sign.Comma us >>= λ c. ports_from n (found ++ p.0 ∷ []) c.1) (λ us. expect sign.Close us >>= λ c. Ok (found ++ p.0 ∷ [], c.1)) p.1)
    by_port (Ok p) more = by_test (next_is (is_mark sign.Comma) p.1) p.0 p.1 more
    by_port (Err s) more = refl

pub ports-from : (n : ℕ) (ts : List Placed) → ports n ts ≡ ports_from n [] ts
ports-from n ts = plain (ports n ts) ∙ ports_are n [] ts

pub ruleset lists = (items-from, ports-from)
