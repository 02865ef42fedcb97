-- A name that is bound to a node of its own has that node's value.
use Rattle.std.proofs.Common.{◌≡◌, ℕ, ◌+◌, ◌<◌, ◌≤◌, ◌^◌, Bool, true, false, cond, ltb, inl, inr, List, [], ◌∷◌, ◌++◌, length, get_or, refl, ap, sym, ◌∙◌, subst, arith, length-append}
use Rattle.std.specs.Cmp.Lexicographic.{same_text}
use Rattle.core_words.specs.Names.{same_name}
use Rattle.verilog_flat.specs.declared.node.Node.{Node}
use Rattle.verilog_flat.specs.Flat.{node_value, values}
use Rattle.verilog_resolve.specs.declared.names.Place.{Place}
use Rattle.verilog_resolve.specs.declared.names.Place.TheVariants.{Net, Array}
use Rattle.verilog_resolve.specs.Means.{Matches}
use Rattle.verilog_resolve.specs.Wires.{bare, with_net, with_array}
use Rattle.verilog_resolve.proofs.Bound.{split_on}
use Rattle.verilog_resolve.proofs.Grows.{push_is, push_keeps}
use Rattle.verilog_resolve.proofs.Means.{keep_place}

pub source_means : (regs cells ins : List ℕ) (w : List ℕ → ℕ) (arrays : List ℕ → List ℕ) (val : List ℕ → ℕ) (p q : List ℕ → Place)
    (ns ms : List Node) (n : Node) (x : List ℕ) (at width : ℕ)
    → ms ≡ ns ++ (n ∷ []) → at ≡ length ns → q x ≡ Net at width → ((y : List ℕ) → same_name x y ≡ false → q y ≡ p y)
    → width ≤ 64 → w x ≡ width → val x ≡ node_value regs cells ins (values regs cells ins ns) n → val x < 2 ^ width
    → ((y : List ℕ) → Matches regs cells ins w arrays val ns y (p y)) → (y : List ℕ) → Matches regs cells ins w arrays val ms y (q y)
source_means regs cells ins w arrays val p q ns ms n x at width pushed number there others narrow wide value bound m =
    subst (λ os. (y : List ℕ) → Matches regs cells ins w arrays val os y (q y)) (sym pushed)
    (λ y. elim (split_on (same_name x y)) [
      | inl s ↦ subst (λ z. Matches regs cells ins w arrays val (ns ++ (n ∷ [])) z (q z)) (same_text x y (sym s))
          (subst (λ u. Matches regs cells ins w arrays val (ns ++ (n ∷ [])) x u) (sym (there ∙ ap (λ k. Net k width) number))
          (grind (arith, length-append), sym wide, narrow, push_is regs cells ins ns n ∙ sym value, bound))
      | inr s ↦ subst (λ u. Matches regs cells ins w arrays val (ns ++ (n ∷ [])) y u) (sym (others y s))
          (keep_place regs cells ins w arrays val ns (ns ++ (n ∷ [])) y (p y) (grind (arith, length-append)) (push_keeps regs cells ins ns n) (m y))
    ])

-- what is known once a name is bound to a net
pub known_net : (p q : List ℕ → Place) (x : List ℕ) (at width : ℕ) → q x ≡ Net at width → ((y : List ℕ) → same_name x y ≡ false → q y ≡ p y)
    → ◌≡◌ {A = List ℕ → Place} (λ y. bare (q y)) (with_net (λ y. bare (p y)) x width)
known_net p q x at width there others = λ i y. one y (same_name x y) refl i
  where
    one : (y : List ℕ) (b : Bool) → same_name x y ≡ b → bare (q y) ≡ cond b (Net 0 width) (bare (p y))
    one y true h = ap (λ z. bare (q z)) (sym (same_text x y (sym h))) ∙ ap bare there
    one y false h = ap bare (others y h)

-- what is known once a name is bound to an array
pub known_array : (p q : List ℕ → Place) (x : List ℕ) (base size width : ℕ) → q x ≡ Array base size width → ((y : List ℕ) → same_name x y ≡ false → q y ≡ p y)
    → ◌≡◌ {A = List ℕ → Place} (λ y. bare (q y)) (with_array (λ y. bare (p y)) x width)
known_array p q x base size width there others = λ i y. one y (same_name x y) refl i
  where
    one : (y : List ℕ) (b : Bool) → same_name x y ≡ b → bare (q y) ≡ cond b (Array 0 0 width) (bare (p y))
    one y true h = ap (λ z. bare (q z)) (sym (same_text x y (sym h))) ∙ ap bare there
    one y false h = ap bare (others y h)

-- a name that is bound to an array has its cells
pub array_means : (regs cells ins : List ℕ) (w : List ℕ → ℕ) (arrays : List ℕ → List ℕ) (val : List ℕ → ℕ) (p q : List ℕ → Place)
    (ns : List Node) (x : List ℕ) (base size width : ℕ)
    → q x ≡ Array base size width → ((y : List ℕ) → same_name x y ≡ false → q y ≡ p y) → width ≤ 64 → w x ≡ width
    → ((i : ℕ) → cond (ltb i size) (get_or cells (base + i) 0) 0 ≡ get_or (arrays x) i 0) → ((i : ℕ) → get_or (arrays x) i 0 < 2 ^ width)
    → ((y : List ℕ) → Matches regs cells ins w arrays val ns y (p y)) → (y : List ℕ) → Matches regs cells ins w arrays val ns y (q y)
array_means regs cells ins w arrays val p q ns x base size width there others narrow wide same bound m y =
    elim (split_on (same_name x y)) [
      | inl s ↦ subst (λ z. Matches regs cells ins w arrays val ns z (q z)) (same_text x y (sym s))
          (subst (λ u. Matches regs cells ins w arrays val ns x u) (sym there) (sym wide, narrow, same, bound))
      | inr s ↦ subst (λ u. Matches regs cells ins w arrays val ns y u) (sym (others y s)) (m y)
    ]
