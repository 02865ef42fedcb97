-- Ports as inputs of one bit, and as known names.
use Rattle.std.proofs.Common.{◌≡◌, ℕ, ◌+◌, Bool, true, false, eqb, List, [], ◌∷◌, ◌++◌, ◌||◌, ◌∙◌, sym, refl, ap, drop, append-nil, arith}
use Rattle.std.proofs.lemmas.Bool.Decides.{nat_tests}
use Rattle.core_words.specs.Names.{same_name}
use Rattle.verilog_tree.specs.declared.tree.PortDecl.{PortDecl}
use Rattle.verilog_tree.specs.declared.tree.Item.{Item}
use Rattle.verilog_mean.specs.Names.{is_among, port_names, unknown_in_items}
use Rattle.verilog_rules.specs.SameNames.{SameNames}
use Rattle.verilog_rules.proofs.First.{among_append}
use Rattle.verilog_rules.proofs.KnownItems.{items_same}

pub one_bit : (n : ℕ) → eqb (n + 1) 1 ≡ eqb n 0
one_bit n = grind (arith, nat_tests)

or_move : (a b c : Bool) → ((a || b) || c) ≡ (b || (a || c))
or_move true true c = refl
or_move true false c = refl
or_move false true c = refl
or_move false false c = refl

-- a port is known
pub next_port : (ports : List PortDecl) (n : ℕ) (p : PortDecl) (old new all : List (List ℕ)) → drop n ports ≡ p ∷ drop (n + 1) ports
    → SameNames new (p.name.text ∷ old) → SameNames (old ++ port_names (drop n ports)) all → SameNames (new ++ port_names (drop (n + 1) ports)) all
next_port ports n p old new all e s h =
    let rest = port_names (drop (n + 1) ports) in
    record {
      same = λ x. among_append x new rest ∙ ap (λ b. b || is_among x rest) (s.same x)
          ∙ or_move (same_name p.name.text x) (is_among x old) (is_among x rest) ∙ sym (among_append x old (p.name.text ∷ rest))
          ∙ ap (λ ps. is_among x (old ++ port_names ps)) (sym e) ∙ h.same x;
    }

pub last_port : (known all : List (List ℕ)) → SameNames (known ++ []) all → SameNames known all
last_port known all h = record { same = λ x. ap (is_among x) (sym (append-nil known)) ∙ h.same x }

pub used_same : (none known names : List (List ℕ)) (is : List Item) → none ≡ [] → SameNames known (none ++ names) → unknown_in_items known is ≡ unknown_in_items names is
used_same none known names is e s = items_same known names (record { same = λ x. s.same x ∙ ap (λ ns. is_among x (ns ++ names)) e }) is
