-- Texts that were appended one behind another.
use Rattle.std.proofs.Common.{◌≡◌, ℕ, List, ◌++◌, ap, ◌∙◌, append_assoc, refl}

-- two texts
follow : (x y z a b : List ℕ) → y ≡ x ++ a → z ≡ y ++ b → z ≡ x ++ (a ++ b)
follow x y z a b e h = h ∙ ap (λ l. l ++ b) e ∙ append_assoc x a b

-- three texts, and five
pub three : (x y z a b c : List ℕ) → y ≡ x ++ a → z ≡ y ++ b → z ++ c ≡ x ++ (a ++ (b ++ c))
three x y z a b c e h = follow x y (z ++ c) a (b ++ c) e (follow y z (z ++ c) b c h refl)

pub five : (x y z v w a b c d e : List ℕ) → y ≡ x ++ a → z ≡ y ++ b → v ≡ z ++ c → w ≡ v ++ d → w ++ e ≡ x ++ (a ++ (b ++ (c ++ (d ++ e))))
five x y z v w a b c d e f g h i = follow x y (w ++ e) a (b ++ (c ++ (d ++ e))) f (follow y z (w ++ e) b (c ++ (d ++ e)) g (three z v w c d e h i))
