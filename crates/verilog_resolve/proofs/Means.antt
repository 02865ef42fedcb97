-- The nodes of an expression have its value.
use Rattle.std.proofs.Common.{◌≡◌, ℕ, ◌+◌, ◌-◌, ◌*◌, ◌/◌, ◌%◌, ◌^◌, ◌<◌, ◌≤◌, Bool, cond, ltb, eqb, true, false, List, length, get_or, refl, ap, sym, ◌∙◌, subst, arith, bit_and, bit_or, bit_xor, length-append, pow-add, lit<}
use Rattle.std.proofs.lemmas.Nat.{pow_pos, mod_below, or_lt, xor_lt}
use Rattle.std.specs.Int.Bits.{and_lt}
use Rattle.core_words.specs.Values.{not_of, one_if}
use Rattle.verilog_tree.specs.declared.expr.BinSign.{BinSign}
use Rattle.verilog_tree.specs.declared.expr.BinSign.TheVariants.{Or, Xor, And, Equal, Less, Plus, Minus}
use Rattle.verilog_mean.specs.Plain.{Expr, Exprs}
use Rattle.verilog_mean.specs.Plain.Expr.{Literal, Named, Select, Cell, Not, Join, Binary, Choice}
use Rattle.verilog_mean.specs.Plain.Exprs.{NoPart, Part}
use Rattle.verilog_mean.specs.Cycle.{eval, eval_parts, sign_width, width_of, width_of_parts}
use Rattle.verilog_flat.specs.declared.node.Node.{Node}
use Rattle.verilog_flat.specs.declared.node.Node.TheVariants as node
use Rattle.verilog_flat.specs.Flat.{node_value, values}
use Rattle.verilog_resolve.specs.declared.names.Place.{Place}
use Rattle.verilog_resolve.specs.declared.names.Place.TheVariants.{Absent, Net, Array}
use Rattle.verilog_resolve.specs.Names.{node_of, place_width, base_of, size_of, IsNet, IsArray}
use Rattle.verilog_resolve.specs.Flat.{Grown, push, mask_of, flat, joined, flat_parts, operand_of}
use Rattle.verilog_resolve.specs.Fine.{IsFine, AreFine, wide, wide_parts}
use Rattle.verilog_resolve.specs.Means.{Matches, Means, Holds}
use Rattle.verilog_resolve.proofs.Grows.{push_is, push_keeps, masked, plus_is, minus_is, mask_is, joined_is, joined_fits}

regroup : (a b v n c : ℕ) → (a * 2 ^ v + b) * 2 ^ n + c ≡ a * 2 ^ (v + n) + (b * 2 ^ n + c)
regroup a b v n c = let e : 2 ^ (v + n) ≡ 2 ^ v * 2 ^ n = pow-add 2 v n in distribute a b (2 ^ v) (2 ^ n) c ∙ ap (λ m. a * m + (b * 2 ^ n + c)) (sym e)
  where
    distribute : (a b x y c : ℕ) → (a * x + b) * y + c ≡ a * (x * y) + (b * y + c)
    distribute a b x y c = grind arith

module _ (regs cells ins : List ℕ) (w : List ℕ → ℕ) (arrays : List ℕ → List ℕ) (val : List ℕ → ℕ) where
  abbrev pub V : List Node → List ℕ
  V ns = values regs cells ins ns

  abbrev pub M : List Node → List ℕ → Place → Type 0
  M ns x p = Matches regs cells ins w arrays val ns x p

  abbrev Is : List Node → Expr → Grown → Type 0
  Is ns e g = Means regs cells ins w arrays val ns e g

  abbrev E : Expr → ℕ
  E e = eval w arrays val e

  -- places keep their values
  pub keep_place : (ns ms : List Node) (x : List ℕ) (p : Place) → length ns ≤ length ms → ((j : ℕ) → j < length ns → get_or (V ms) j 0 ≡ get_or (V ns) j 0) → M ns x p → M ms x p
  keep_place ns ms x Absent l k m = tt
  keep_place ns ms x (Net node width) l k m = (omega (arith, m.0), m.1, m.2, k node m.0 ∙ m.3, m.4)
  keep_place ns ms x (Array base size width) l k m = m

  -- one node more
  pushed : (ns ms : List Node) (e : Expr) (n : Node) (wd : ℕ) → length ns ≤ length ms → ((j : ℕ) → j < length ns → get_or (V ms) j 0 ≡ get_or (V ns) j 0)
      → wd ≡ width_of w e → wd ≤ 64 → node_value regs cells ins (V ms) n ≡ E e → E e < 2 ^ wd → Is ns e (push ms n wd)
  pushed ns ms e n wd l k q r v b = record {
    longer = grind (arith, length-append);
    within = grind (arith, length-append);
    width = q;
    narrow = r;
    is = push_is regs cells ins ms n ∙ v;
    bound = b;
    keeps = λ j h. push_keeps regs cells ins ms n j (omega arith) ∙ k j h;
  }

  named : (ns : List Node) (x : List ℕ) (p : Place) → M ns x p → IsNet p → Is ns (Named x) (record { nodes = ns; at = node_of p; width = place_width p })
  named ns x Absent m h = absurd h
  named ns x (Array base size width) m h = absurd h
  named ns x (Net node width) m h = record { longer = omega arith; within = m.0; width = m.1; narrow = m.2; is = m.3; bound = m.4; keeps = λ j l. refl }

  select : (ns : List Node) (x : List ℕ) (high low : ℕ) (p : Place) → M ns x p → IsNet p → low ≤ high → high < 64
      → Is ns (Select x high low) (push ns (node.Slice (node_of p) low (mask_of (high + 1 - low))) (high + 1 - low))
  select ns x high low Absent m h l b = absurd h
  select ns x high low (Array base size width) m h l b = absurd h
  select ns x high low (Net node width) m h l b =
      let r : high + 1 - low ≤ 64 = omega arith in
      pushed ns ns (Select x high low) _ _ (omega arith) (λ j l. refl) refl r
      (ap (λ v. bit_and (v / 2 ^ low) (mask_of (high + 1 - low))) m.3 ∙ masked (high + 1 - low) (val x / 2 ^ low) r)
      (mod_below (val x / 2 ^ low) (2 ^ (high + 1 - low)) (pow_pos (high + 1 - low)))

  cell : (ns : List Node) (x : List ℕ) (index : Expr) (p : Place) (g : Grown) → M ns x p → IsArray p → Is ns index g
      → Is ns (Cell x index) (push g.nodes (node.Cell g.at (base_of p) (size_of p)) (place_width p))
  cell ns x index Absent g m h i = absurd h
  cell ns x index (Net node width) g m h i = absurd h
  cell ns x index (Array base size width) g m h i =
      pushed ns g.nodes (Cell x index) _ _ i.longer i.keeps m.0 m.1
      (ap (λ v. cond (ltb v size) (get_or cells (base + v) 0) 0) i.is ∙ m.2 (E index)) (m.3 (E index))

  inverted : (ns : List Node) (inner : Expr) (g : Grown) → Is ns inner g → Is ns (Not inner) (push g.nodes (node.Not g.at (mask_of g.width)) g.width)
  inverted ns inner g i =
      pushed ns g.nodes (Not inner) _ _ i.longer i.keeps i.width i.narrow
      (ap (λ m. m - get_or (V g.nodes) g.at 0) (mask_is g.width i.narrow) ∙ ap (λ v. 2 ^ g.width - 1 - v) i.is ∙ ap (λ k. not_of k (E inner)) i.width)
      (let p : 0 < 2 ^ g.width = pow_pos g.width in let q : E (Not inner) ≡ 2 ^ g.width - 1 - E inner = ap (λ k. not_of k (E inner)) (sym i.width) in omega arith)

  bit : (b : Bool) → cond b 1 0 < 2 ^ 1
  bit true = lit< tt
  bit false = lit< tt

  bit_is : (b : Bool) → cond b 1 0 ≡ one_if b
  bit_is true = refl
  bit_is false = refl

  -- an operator, on the values of two nodes
  two : (s : BinSign) (ns : List Node) (l r : Expr) (a b : Grown) → Is ns l a → Is a.nodes r b → width_of w l ≡ width_of w r → Is ns (Binary s l r) (joined s a.at b.at a.width b.nodes)
  two s ns l r a b i j same =
      let le : length ns ≤ length b.nodes = omega (arith, i.longer, j.longer) in
      let ks : (k : ℕ) → k < length ns → get_or (V b.nodes) k 0 ≡ get_or (V ns) k 0 = λ k h. j.keeps k (omega (arith, i.longer, h)) ∙ i.keeps k h in
      let x : get_or (V b.nodes) a.at 0 ≡ E l = j.keeps a.at i.within ∙ i.is in
      let bl : E l < 2 ^ a.width = i.bound in
      let ew : b.width ≡ a.width = j.width ∙ sym same ∙ sym i.width in
      let br : E r < 2 ^ a.width = subst (λ k. E r < 2 ^ k) ew j.bound in
      each s ns l r a b le ks x j.is bl br i.width i.narrow
    where
      each : (s : BinSign) (ns : List Node) (l r : Expr) (a b : Grown) → length ns ≤ length b.nodes → ((k : ℕ) → k < length ns → get_or (V b.nodes) k 0 ≡ get_or (V ns) k 0)
          → get_or (V b.nodes) a.at 0 ≡ E l → get_or (V b.nodes) b.at 0 ≡ E r → E l < 2 ^ a.width → E r < 2 ^ a.width → a.width ≡ width_of w l → a.width ≤ 64
          → Is ns (Binary s l r) (joined s a.at b.at a.width b.nodes)
      each Or ns l r a b le ks x y bl br q n = pushed ns b.nodes (Binary Or l r) _ _ le ks q n (ap (λ v. bit_or v (get_or (V b.nodes) b.at 0)) x ∙ ap (bit_or (E l)) y) (or_lt a.width (E l) (E r) bl br)
      each Xor ns l r a b le ks x y bl br q n = pushed ns b.nodes (Binary Xor l r) _ _ le ks q n (ap (λ v. bit_xor v (get_or (V b.nodes) b.at 0)) x ∙ ap (bit_xor (E l)) y) (xor_lt a.width (E l) (E r) bl br)
      each And ns l r a b le ks x y bl br q n = pushed ns b.nodes (Binary And l r) _ _ le ks q n (ap (λ v. bit_and v (get_or (V b.nodes) b.at 0)) x ∙ ap (bit_and (E l)) y) (and_lt a.width (E l) (E r) bl br)
      each Equal ns l r a b le ks x y bl br q n =
          pushed ns b.nodes (Binary Equal l r) _ 1 le ks refl (omega arith)
          (ap (λ v. cond (eqb v (get_or (V b.nodes) b.at 0)) 1 0) x ∙ ap (λ v. cond (eqb (E l) v) 1 0) y ∙ bit_is (eqb (E l) (E r)))
          (subst (λ v. v < 2 ^ 1) (bit_is (eqb (E l) (E r))) (bit (eqb (E l) (E r))))
      each Less ns l r a b le ks x y bl br q n =
          pushed ns b.nodes (Binary Less l r) _ 1 le ks refl (omega arith)
          (ap (λ v. cond (ltb v (get_or (V b.nodes) b.at 0)) 1 0) x ∙ ap (λ v. cond (ltb (E l) v) 1 0) y ∙ bit_is (ltb (E l) (E r)))
          (subst (λ v. v < 2 ^ 1) (bit_is (ltb (E l) (E r))) (bit (ltb (E l) (E r))))
      each Plus ns l r a b le ks x y bl br q n =
          pushed ns b.nodes (Binary Plus l r) _ _ le ks q n
          (ap (λ v. bit_and ((v + get_or (V b.nodes) b.at 0) % 2 ^ 64) (mask_of a.width)) x ∙ ap (λ v. bit_and ((E l + v) % 2 ^ 64) (mask_of a.width)) y
          ∙ plus_is a.width (E l) (E r) n ∙ ap (λ k. (E l + E r) % 2 ^ k) q)
          (subst (λ k. (E l + E r) % 2 ^ k < 2 ^ a.width) q (mod_below (E l + E r) (2 ^ a.width) (pow_pos a.width)))
      each Minus ns l r a b le ks x y bl br q n =
          pushed ns b.nodes (Binary Minus l r) _ _ le ks q n
          (ap (λ v. bit_and ((v + (2 ^ 64 - get_or (V b.nodes) b.at 0)) % 2 ^ 64) (mask_of a.width)) x ∙ ap (λ v. bit_and ((E l + (2 ^ 64 - v)) % 2 ^ 64) (mask_of a.width)) y
          ∙ minus_is a.width (E l) (E r) n br ∙ ap (λ k. (E l + (2 ^ k - E r)) % 2 ^ k) q)
          (subst (λ k. (E l + (2 ^ k - E r)) % 2 ^ k < 2 ^ a.width) q (mod_below (E l + (2 ^ a.width - E r)) (2 ^ a.width) (pow_pos a.width)))

  chosen : (ns : List Node) (t e f : Expr) (a b c : Grown) → Is ns t a → Is a.nodes e b → Is b.nodes f c → width_of w e ≡ width_of w f
      → Is ns (Choice t e f) (push c.nodes (node.Choice a.at b.at c.at) b.width)
  chosen ns t e f a b c i j k same =
      let kt : get_or (V c.nodes) a.at 0 ≡ E t = k.keeps a.at (omega (arith, i.within, j.longer)) ∙ j.keeps a.at i.within ∙ i.is in
      let ke : get_or (V c.nodes) b.at 0 ≡ E e = k.keeps b.at j.within ∙ j.is in
      let ew : c.width ≡ b.width = k.width ∙ sym same ∙ sym j.width in
      pushed ns c.nodes (Choice t e f) _ b.width (omega (arith, i.longer, j.longer, k.longer))
      (λ n h. k.keeps n (omega (arith, i.longer, j.longer, h)) ∙ j.keeps n (omega (arith, i.longer, h)) ∙ i.keeps n h)
      j.width j.narrow
      (ap (λ v. cond (eqb v 1) (get_or (V c.nodes) b.at 0) (get_or (V c.nodes) c.at 0)) kt
      ∙ ap (λ v. cond (eqb (E t) 1) v (get_or (V c.nodes) c.at 0)) ke ∙ ap (λ v. cond (eqb (E t) 1) (E e) v) k.is)
      (either (eqb (E t) 1) (E e) (E f) (2 ^ b.width) j.bound (subst (λ n. E f < 2 ^ n) ew k.bound))
    where
      either : (b : Bool) (x y m : ℕ) → x < m → y < m → cond b x y < m
      either true x y m h k = h
      either false x y m h k = k

  abbrev Has : List Node → ℕ → ℕ → Grown → Type 0
  Has ns v wd g = Holds regs cells ins w arrays val ns v wd g

  -- a part behind those so far
  merge_has : (ns : List Node) (a u b v : ℕ) (f g : Grown) → Has ns a u f → Has f.nodes b v g → u + v ≤ 64
      → Has ns (a * 2 ^ v + b) (u + v) (push g.nodes (node.Join f.at g.at g.width) (f.width + g.width))
  merge_has ns a u b v f g i j h =
      let fw : f.width ≡ u = i.width in let gw : g.width ≡ v = j.width in
      let il = i.longer in let jl = j.longer in let iw = i.within in
      let sum : f.width + g.width ≤ 64 = omega (arith, h, fw, gw) in
      record {
        longer = grind (arith, length-append);
        within = grind (arith, length-append);
        width = omega (arith, fw, gw);
        narrow = sum;
        is = push_is regs cells ins g.nodes (node.Join f.at g.at g.width)
            ∙ ap (λ x. (x * 2 ^ g.width % 2 ^ 64 + get_or (V g.nodes) g.at 0) % 2 ^ 64) (j.keeps f.at i.within ∙ i.is)
            ∙ ap (λ y. (a * 2 ^ g.width % 2 ^ 64 + y) % 2 ^ 64) j.is
            ∙ joined_is a b f.width g.width sum i.bound j.bound
            ∙ ap (λ k. a * 2 ^ k + b) gw;
        bound = subst (λ k. a * 2 ^ k + b < 2 ^ (f.width + g.width)) gw (joined_fits a b f.width g.width i.bound j.bound);
        keeps = λ k l. push_keeps regs cells ins g.nodes (node.Join f.at g.at g.width) k (omega (arith, l, il, jl)) ∙ j.keeps k (omega (arith, l, il)) ∙ i.keeps k l;
      }

  same_has : (ns : List Node) (a b u v : ℕ) (g : Grown) → a ≡ b → u ≡ v → Has ns a u g → Has ns b v g
  same_has ns a b u v g p q h = subst (λ x. Has ns x v g) p (subst (λ x. Has ns a x g) q h)

  -- the same of the same nodes, taken apart
  again : (ns : List Node) (f : Grown) (a u : ℕ) → Has ns a u f → Has ns a u (record { nodes = f.nodes; at = f.at; width = f.width })
  again ns f a u i = record { longer = i.longer; within = i.within; width = i.width; narrow = i.narrow; is = i.is; bound = i.bound; keeps = i.keeps }

  -- a join's part above the parts behind it
  eval_part : (e : Expr) (es : Exprs) → E e * 2 ^ width_of_parts w es + eval_parts w arrays val es ≡ eval_parts w arrays val (Part e es)
  eval_part e NoPart = grind arith
  eval_part e (Part next es) = refl

  net_wide : (ns : List Node) (x : List ℕ) (p : Place) → M ns x p → IsNet p → place_width p ≡ w x
  net_wide ns x Absent m h = absurd h
  net_wide ns x (Array base size width) m h = absurd h
  net_wide ns x (Net node width) m h = m.1

  array_wide : (ns : List Node) (x : List ℕ) (p : Place) → M ns x p → IsArray p → place_width p ≡ w x
  array_wide ns x Absent m h = absurd h
  array_wide ns x (Net node width) m h = absurd h
  array_wide ns x (Array base size width) m h = m.0

  module _ (p : List ℕ → Place) where
    -- the places of names have their widths
    module _ (ns : List Node) (m : (x : List ℕ) → M ns x (p x)) where
      mutual
        wide_is : (e : Expr) → IsFine p e → wide p e ≡ width_of w e
        wide_is (Literal width value) h = refl
        wide_is (Named x) h = net_wide ns x (p x) (m x) h
        wide_is (Select x high low) h = refl
        wide_is (Cell x index) h = array_wide ns x (p x) (m x) h.0
        wide_is (Not inner) h = wide_is inner h
        wide_is (Join parts) h = parts_wide parts h.1.0
        wide_is (Binary s left right) h = ap (sign_width s) (wide_is left h.0)
        wide_is (Choice test first second) h = wide_is first h.1.0

        parts_wide : (es : Exprs) → AreFine p es → wide_parts p es ≡ width_of_parts w es
        parts_wide NoPart h = refl
        parts_wide (Part e es) h = ap (λ k. k + wide_parts p es) (wide_is e h.1.0) ∙ ap (λ k. width_of w e + k) (parts_wide es h.1.1)

    -- the nodes of an expression have its value
    mutual
      pub flat_means : (e : Expr) (ns : List Node) → IsFine p e → ((x : List ℕ) → M ns x (p x)) → Is ns e (flat p e ns)
      flat_means (Literal width value) ns h m = pushed ns ns (Literal width value) _ _ (omega arith) (λ j l. refl) refl h.0 refl h.1
      flat_means (Named x) ns h m = named ns x (p x) (m x) h
      flat_means (Select x high low) ns h m = select ns x high low (p x) (m x) h.0 h.1 h.2
      flat_means (Cell x index) ns h m = cell ns x index (p x) (flat p index ns) (m x) h.0 (flat_means index ns h.1 m)
      flat_means (Not inner) ns h m = inverted ns inner (flat p inner ns) (flat_means inner ns h m)
      flat_means (Join NoPart) ns h m = absurd h.0
      flat_means (Join (Part e es)) ns h m =
          let q : wide p e + wide_parts p es ≡ width_of w e + width_of_parts w es = parts_wide ns m (Part e es) h.1.0 in
          let n : wide p e + wide_parts p es ≤ 64 = h.1.1 in
          same_has ns _ _ _ _ _ (eval_part e es) refl
          (parts_mean es ns (flat p e ns) (E e) (width_of w e) (flat_means e ns h.1.0.1.0 m) h.1.0.1.1 (omega (arith, q, n)) m)
      flat_means (Binary sign left right) ns h m =
          let a = flat p left ns in
          let i = flat_means left ns h.0 m in
          let j = flat_means right a.nodes h.1.0 (λ x. keep_place ns a.nodes x (p x) i.longer i.keeps (m x)) in
          two sign ns left right a (flat p right a.nodes) i j (sym (wide_is ns m left h.0) ∙ h.1.1 ∙ wide_is ns m right h.1.0)
      flat_means (Choice test first other) ns h m =
          let a = flat p test ns in
          let i = flat_means test ns h.0 m in
          let ma : (x : List ℕ) → M a.nodes x (p x) = λ x. keep_place ns a.nodes x (p x) i.longer i.keeps (m x) in
          let b = flat p first a.nodes in
          let j = flat_means first a.nodes h.1.0 ma in
          let mb : (x : List ℕ) → M b.nodes x (p x) = λ x. keep_place a.nodes b.nodes x (p x) j.longer j.keeps (ma x) in
          chosen ns test first other a b (flat p other b.nodes) i j (flat_means other b.nodes h.1.1.0 mb)
          (sym (wide_is ns m first h.1.0) ∙ h.1.1.1 ∙ wide_is ns m other h.1.1.0)

      parts_mean : (es : Exprs) (ns : List Node) (f : Grown) (a u : ℕ) → Has ns a u f → AreFine p es → u + width_of_parts w es ≤ 64 → ((x : List ℕ) → M ns x (p x))
          → Has ns (a * 2 ^ width_of_parts w es + eval_parts w arrays val es) (u + width_of_parts w es) (flat_parts p es (operand_of f) f.nodes)
      parts_mean NoPart ns f a u i h l m = same_has ns a _ u _ _ (grind arith) (omega arith) (again ns f a u i)
      parts_mean (Part e es) ns f a u i h l m =
          let mf : (x : List ℕ) → M f.nodes x (p x) = λ x. keep_place ns f.nodes x (p x) i.longer i.keeps (m x) in
          let j = flat_means e f.nodes h.1.0 mf in
          let g = flat p e f.nodes in
          let k = merge_has ns a u (E e) (width_of w e) f g i j (omega (arith, l)) in
          same_has ns _ _ _ _ _ (regroup a (E e) (width_of w e) (width_of_parts w es) (eval_parts w arrays val es) ∙ ap (λ z. a * 2 ^ (width_of w e + width_of_parts w es) + z) (eval_part e es)) (omega arith)
          (parts_mean es ns (push g.nodes (node.Join f.at g.at g.width) (f.width + g.width)) (a * 2 ^ width_of w e + E e) (u + width_of w e) k h.1.1 (omega (arith, l)) m)
