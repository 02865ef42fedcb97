-- The tests of widths and scopes tell what they are to tell.
use Rattle.std.proofs.Common.{◌≡◌, ℕ, ◌+◌, ◌^◌, ◌<◌, ◌≤◌, Bool, true, false, eqb, leb, ltb, ◌&&◌, refl, arith, ap, Option, None, Some}
use Rattle.std.proofs.lemmas.Bool.Decides.{nat_tests}
use Rattle.hw_pool.specs.Nodes.{IsWidth}
use Rattle.hw_pool.specs.Trees.{Tree, width_of}
use Rattle.hw_pool.specs.Trees.Tree.{Lit, Input, Wire, Reg, Not, And, Or, Xor, Add, Sub, Eq, Ltu, Mux, Cat, Slice, Read}
use Rattle.hw_pool.specs.Meaning.{Fits}
use Rattle.hw_pool.specs.Scope.{Scope, IsWireOf, IsArrayOf, Takes}
use Rattle.hw_gates.specs.Places.{is_width, does_fit, has_width, has_wire, has_array, does_take}

pub both : (a b : Bool) → a ≡ true → b ≡ true → (a && b) ≡ true
both a b p q = (λ i. p i && q i)

pub left : (a b : Bool) → (a && b) ≡ true → a ≡ true
left true b h = refl
left false b h = h

pub right : (a b : Bool) → (a && b) ≡ true → b ≡ true
right true b h = h
right false b h = absurd (cc)

pub same-of : (a b : ℕ) → eqb a b ≡ true → a ≡ b
same-of a b h = grind (arith, nat_tests)

pub of-same : (a b : ℕ) → a ≡ b → eqb a b ≡ true
of-same a b h = grind (arith, nat_tests)

pub less-of : (a b : ℕ) → ltb a b ≡ true → a < b
less-of a b h = grind (arith, nat_tests)

pub of-less : (a b : ℕ) → a < b → ltb a b ≡ true
of-less a b h = grind (arith, nat_tests)

most-of : (a b : ℕ) → leb a b ≡ true → a ≤ b
most-of a b h = grind (arith, nat_tests)

of-most : (a b : ℕ) → a ≤ b → leb a b ≡ true
of-most a b h = grind (arith, nat_tests)

pub width-is : (w : ℕ) → is_width w ≡ true → IsWidth w
width-is w h = (most-of 1 w (left (leb 1 w) (leb w 64) h), most-of w 64 (right (leb 1 w) (leb w 64) h))

pub is-width : (w : ℕ) → IsWidth w → is_width w ≡ true
is-width w h = both (leb 1 w) (leb w 64) (of-most 1 w h.0) (of-most w 64 h.1)

to-two : (w x y : ℕ) (f g : Bool) → (is_width w && (eqb x w && (eqb y w && (f && g)))) ≡ true → IsWidth w × (x ≡ w) × (y ≡ w) × (f ≡ true) × (g ≡ true)
to-two w x y f g h =
    let h1 = right (is_width w) _ h in
    let h2 = right (eqb x w) _ h1 in
    let h3 = right (eqb y w) _ h2 in
    (width-is w (left (is_width w) _ h), same-of x w (left (eqb x w) _ h1), same-of y w (left (eqb y w) _ h2), left f g h3, right f g h3)

from-two : (w x y : ℕ) (f g : Bool) → IsWidth w → x ≡ w → y ≡ w → f ≡ true → g ≡ true → (is_width w && (eqb x w && (eqb y w && (f && g)))) ≡ true
from-two w x y f g wide a b p q = both (is_width w) _ (is-width w wide) (both (eqb x w) _ (of-same x w a) (both (eqb y w) _ (of-same y w b) (both f g p q)))

pub fits-of : (t : Tree) → does_fit t ≡ true → Fits t
fits-of (Lit w v) h = (width-is w (left (is_width w) _ h), less-of v (2 ^ w) (right (is_width w) _ h))
fits-of (Input w port) h = width-is w h
fits-of (Wire w wire) h = width-is w h
fits-of (Reg w reg) h = width-is w h
fits-of (Not w a) h =
    let h1 = right (is_width w) _ h in
    (width-is w (left (is_width w) _ h), same-of (width_of a) w (left (eqb (width_of a) w) _ h1), fits-of a (right (eqb (width_of a) w) _ h1))
fits-of (And w a b) h = let r = to-two w _ _ _ _ h in (r.0, r.1, r.2, fits-of a r.3, fits-of b r.4)
fits-of (Or w a b) h = let r = to-two w _ _ _ _ h in (r.0, r.1, r.2, fits-of a r.3, fits-of b r.4)
fits-of (Xor w a b) h = let r = to-two w _ _ _ _ h in (r.0, r.1, r.2, fits-of a r.3, fits-of b r.4)
fits-of (Add w a b) h = let r = to-two w _ _ _ _ h in (r.0, r.1, r.2, fits-of a r.3, fits-of b r.4)
fits-of (Sub w a b) h = let r = to-two w _ _ _ _ h in (r.0, r.1, r.2, fits-of a r.3, fits-of b r.4)
fits-of (Eq w a b) h =
    let h1 = right (eqb w 1) _ h in
    let h2 = right (eqb (width_of a) (width_of b)) _ h1 in
    (same-of w 1 (left (eqb w 1) _ h), same-of (width_of a) (width_of b) (left (eqb (width_of a) (width_of b)) _ h1), fits-of a (left (does_fit a) _ h2), fits-of b (right (does_fit a) _ h2))
fits-of (Ltu w a b) h =
    let h1 = right (eqb w 1) _ h in
    let h2 = right (eqb (width_of a) (width_of b)) _ h1 in
    (same-of w 1 (left (eqb w 1) _ h), same-of (width_of a) (width_of b) (left (eqb (width_of a) (width_of b)) _ h1), fits-of a (left (does_fit a) _ h2), fits-of b (right (does_fit a) _ h2))
fits-of (Mux w c a b) h =
    let h1 = right (is_width w) _ h in
    let h2 = right (eqb (width_of c) 1) _ h1 in
    let h3 = right (eqb (width_of a) w) _ h2 in
    let h4 = right (eqb (width_of b) w) _ h3 in
    let h5 = right (does_fit c) _ h4 in
    (width-is w (left (is_width w) _ h), same-of (width_of c) 1 (left (eqb (width_of c) 1) _ h1), same-of (width_of a) w (left (eqb (width_of a) w) _ h2), same-of (width_of b) w (left (eqb (width_of b) w) _ h3), fits-of c (left (does_fit c) _ h4), fits-of a (left (does_fit a) _ h5), fits-of b (right (does_fit a) _ h5))
fits-of (Cat w a b) h =
    let h1 = right (is_width w) _ h in
    let h2 = right (eqb (width_of a + width_of b) w) _ h1 in
    (width-is w (left (is_width w) _ h), same-of (width_of a + width_of b) w (left (eqb (width_of a + width_of b) w) _ h1), fits-of a (left (does_fit a) _ h2), fits-of b (right (does_fit a) _ h2))
fits-of (Slice w a high low) h =
    let h1 = right (leb low high) _ h in
    let h2 = right (ltb high (width_of a)) _ h1 in
    (most-of low high (left (leb low high) _ h), less-of high (width_of a) (left (ltb high (width_of a)) _ h1), same-of (w + low) (high + 1) (left (eqb (w + low) (high + 1)) _ h2), fits-of a (right (eqb (w + low) (high + 1)) _ h2))
fits-of (Read w array a) h = (width-is w (left (is_width w) _ h), fits-of a (right (is_width w) _ h))

pub of-fits : (t : Tree) → Fits t → does_fit t ≡ true
of-fits (Lit w v) h = both (is_width w) _ (is-width w h.0) (of-less v (2 ^ w) h.1)
of-fits (Input w port) h = is-width w h
of-fits (Wire w wire) h = is-width w h
of-fits (Reg w reg) h = is-width w h
of-fits (Not w a) h = both (is_width w) _ (is-width w h.0) (both (eqb (width_of a) w) _ (of-same (width_of a) w h.1) (of-fits a h.2))
of-fits (And w a b) h = from-two w _ _ _ _ h.0 h.1 h.2 (of-fits a h.3) (of-fits b h.4)
of-fits (Or w a b) h = from-two w _ _ _ _ h.0 h.1 h.2 (of-fits a h.3) (of-fits b h.4)
of-fits (Xor w a b) h = from-two w _ _ _ _ h.0 h.1 h.2 (of-fits a h.3) (of-fits b h.4)
of-fits (Add w a b) h = from-two w _ _ _ _ h.0 h.1 h.2 (of-fits a h.3) (of-fits b h.4)
of-fits (Sub w a b) h = from-two w _ _ _ _ h.0 h.1 h.2 (of-fits a h.3) (of-fits b h.4)
of-fits (Eq w a b) h = both (eqb w 1) _ (of-same w 1 h.0) (both (eqb (width_of a) (width_of b)) _ (of-same (width_of a) (width_of b) h.1) (both (does_fit a) (does_fit b) (of-fits a h.2) (of-fits b h.3)))
of-fits (Ltu w a b) h = both (eqb w 1) _ (of-same w 1 h.0) (both (eqb (width_of a) (width_of b)) _ (of-same (width_of a) (width_of b) h.1) (both (does_fit a) (does_fit b) (of-fits a h.2) (of-fits b h.3)))
of-fits (Mux w c a b) h =
    both (is_width w) _ (is-width w h.0) (both (eqb (width_of c) 1) _ (of-same (width_of c) 1 h.1)
    (both (eqb (width_of a) w) _ (of-same (width_of a) w h.2) (both (eqb (width_of b) w) _ (of-same (width_of b) w h.3)
    (both (does_fit c) _ (of-fits c h.4) (both (does_fit a) (does_fit b) (of-fits a h.5) (of-fits b h.6))))))
of-fits (Cat w a b) h = both (is_width w) _ (is-width w h.0) (both (eqb (width_of a + width_of b) w) _ (of-same (width_of a + width_of b) w h.1) (both (does_fit a) (does_fit b) (of-fits a h.2) (of-fits b h.3)))
of-fits (Slice w a high low) h =
    both (leb low high) _ (of-most low high h.0) (both (ltb high (width_of a)) _ (of-less high (width_of a) h.1)
    (both (eqb (w + low) (high + 1)) _ (of-same (w + low) (high + 1) h.2) (of-fits a h.3)))
of-fits (Read w array a) h = both (is_width w) _ (is-width w h.0) (of-fits a h.1)

-- ---- scopes
width-there : (width : ℕ) (o : Option ℕ) → has_width width o ≡ true → o ≡ Some width
width-there width None h = absurd (cc)
width-there width (Some w) h = ap Some (same-of w width h)

there-width : (width : ℕ) (o : Option ℕ) → o ≡ Some width → has_width width o ≡ true
there-width width None h = absurd (cc)
there-width width (Some w) h = let e : w ≡ width = cc in of-same w width e

wire-there : (level width : ℕ) (o : Option (ℕ × ℕ)) → has_wire level width o ≡ true → IsWireOf level width o
wire-there level width None h = absurd (cc)
wire-there level width (Some w) h = (same-of w.0 width (left (eqb w.0 width) _ h), most-of w.1 level (right (eqb w.0 width) _ h))

there-wire : (level width : ℕ) (o : Option (ℕ × ℕ)) → IsWireOf level width o → has_wire level width o ≡ true
there-wire level width None h = absurd h
there-wire level width (Some w) h = both (eqb w.0 width) (leb w.1 level) (of-same w.0 width h.0) (of-most w.1 level h.1)

array-there : (width bits : ℕ) (o : Option (ℕ × ℕ)) → has_array width bits o ≡ true → IsArrayOf width bits o
array-there width bits None h = absurd (cc)
array-there width bits (Some a) h = (same-of a.0 width (left (eqb a.0 width) _ h), same-of a.1 bits (right (eqb a.0 width) _ h))

there-array : (width bits : ℕ) (o : Option (ℕ × ℕ)) → IsArrayOf width bits o → has_array width bits o ≡ true
there-array width bits None h = absurd h
there-array width bits (Some a) h = both (eqb a.0 width) (eqb a.1 bits) (of-same a.0 width h.0) (of-same a.1 bits h.1)

module _ (s : Scope) (level : ℕ) where
  pub take-of : (t : Tree) → does_take s level t ≡ true → Takes s level t
  take-of (Lit width v) h = tt
  take-of (Input width port) h = width-there width (s.inputs port) h
  take-of (Wire width wire) h = wire-there level width (s.wires wire) h
  take-of (Reg width reg) h = width-there width (s.regs reg) h
  take-of (Not width a) h = take-of a h
  take-of (And width a b) h = (take-of a (left (does_take s level a) _ h), take-of b (right (does_take s level a) _ h))
  take-of (Or width a b) h = (take-of a (left (does_take s level a) _ h), take-of b (right (does_take s level a) _ h))
  take-of (Xor width a b) h = (take-of a (left (does_take s level a) _ h), take-of b (right (does_take s level a) _ h))
  take-of (Add width a b) h = (take-of a (left (does_take s level a) _ h), take-of b (right (does_take s level a) _ h))
  take-of (Sub width a b) h = (take-of a (left (does_take s level a) _ h), take-of b (right (does_take s level a) _ h))
  take-of (Eq width a b) h = (take-of a (left (does_take s level a) _ h), take-of b (right (does_take s level a) _ h))
  take-of (Ltu width a b) h = (take-of a (left (does_take s level a) _ h), take-of b (right (does_take s level a) _ h))
  take-of (Mux width c a b) h =
      let h1 = right (does_take s level c) _ h in
      (take-of c (left (does_take s level c) _ h), take-of a (left (does_take s level a) _ h1), take-of b (right (does_take s level a) _ h1))
  take-of (Cat width a b) h = (take-of a (left (does_take s level a) _ h), take-of b (right (does_take s level a) _ h))
  take-of (Slice width a high low) h = take-of a h
  take-of (Read width array a) h = (array-there width (width_of a) (s.arrays array) (left (has_array width (width_of a) (s.arrays array)) _ h), take-of a (right (has_array width (width_of a) (s.arrays array)) _ h))

  pub of-take : (t : Tree) → Takes s level t → does_take s level t ≡ true
  of-take (Lit width v) h = refl
  of-take (Input width port) h = there-width width (s.inputs port) h
  of-take (Wire width wire) h = there-wire level width (s.wires wire) h
  of-take (Reg width reg) h = there-width width (s.regs reg) h
  of-take (Not width a) h = of-take a h
  of-take (And width a b) h = both (does_take s level a) (does_take s level b) (of-take a h.0) (of-take b h.1)
  of-take (Or width a b) h = both (does_take s level a) (does_take s level b) (of-take a h.0) (of-take b h.1)
  of-take (Xor width a b) h = both (does_take s level a) (does_take s level b) (of-take a h.0) (of-take b h.1)
  of-take (Add width a b) h = both (does_take s level a) (does_take s level b) (of-take a h.0) (of-take b h.1)
  of-take (Sub width a b) h = both (does_take s level a) (does_take s level b) (of-take a h.0) (of-take b h.1)
  of-take (Eq width a b) h = both (does_take s level a) (does_take s level b) (of-take a h.0) (of-take b h.1)
  of-take (Ltu width a b) h = both (does_take s level a) (does_take s level b) (of-take a h.0) (of-take b h.1)
  of-take (Mux width c a b) h = both (does_take s level c) _ (of-take c h.0) (both (does_take s level a) (does_take s level b) (of-take a h.1) (of-take b h.2))
  of-take (Cat width a b) h = both (does_take s level a) (does_take s level b) (of-take a h.0) (of-take b h.1)
  of-take (Slice width a high low) h = of-take a h
  of-take (Read width array a) h = both (has_array width (width_of a) (s.arrays array)) (does_take s level a) (there-array width (width_of a) (s.arrays array) h.0) (of-take a h.1)
