-- The nodes of the next value of a register with a reset.
use Rattle.std.proofs.Common.{◌≡◌, ℕ, ◌<◌, ◌≤◌, cond, eqb, List, [], ◌∷◌, ◌++◌, length, get_or, ap, sym, ◌∙◌, subst, arith, length-append}
use Rattle.core_words.specs.Values.{choose}
use Rattle.verilog_mean.specs.Plain.{Expr}
use Rattle.verilog_mean.specs.Cycle.{eval, reset_name}
use Rattle.verilog_flat.specs.declared.node.Node.{Node}
use Rattle.verilog_flat.specs.declared.node.Node.TheVariants.{Literal, Choice}
use Rattle.verilog_flat.specs.Flat.{values}
use Rattle.verilog_resolve.specs.declared.names.Place.{Place}
use Rattle.verilog_resolve.specs.declared.names.Place.TheVariants.{Net}
use Rattle.verilog_resolve.specs.Flat.{Grown}
use Rattle.verilog_resolve.specs.Means.{Matches, Means}
use Rattle.verilog_resolve.proofs.Grows.{push_is, push_keeps}
use Rattle.verilog_resolve.proofs.Means.{keep_place}

module _ (regs cells ins : List ℕ) (w : List ℕ → ℕ) (arrays : List ℕ → List ℕ) (val : List ℕ → ℕ)
    (ns : List Node) (e : Expr) (g : Grown) (means : Means regs cells ins w arrays val ns e g)
    (start test first at : ℕ) (ms os : List Node) (p1 : ms ≡ g.nodes ++ (Literal start ∷ [])) (n1 : first ≡ length g.nodes)
    (p2 : os ≡ ms ++ (Choice test first g.at ∷ [])) (n2 : at ≡ length ms) where
  abbrev V : List Node → ℕ → ℕ
  V xs j = get_or (values regs cells ins xs) j 0

  -- the first push keeps values
  kept : (j : ℕ) → j < length g.nodes → V ms j ≡ V g.nodes j
  kept j l = ap (λ xs. V xs j) p1 ∙ push_keeps regs cells ins g.nodes (Literal start) j l

  longer : length g.nodes ≤ length ms
  longer = subst (λ xs. length g.nodes ≤ length xs) (sym p1) (grind (arith, length-append))

  pub restart_is : (width : ℕ) → Matches regs cells ins w arrays val ns reset_name (Net test width)
      → V os at ≡ choose (val reset_name) start (eval w arrays val e)
  restart_is width m =
      let l = m.0 in let k = means.longer in
      let a : V ms test ≡ val reset_name = kept test (omega (arith, l, k)) ∙ means.keeps test m.0 ∙ m.3 in
      let b : V ms first ≡ start = ap (λ xs. V xs first) p1 ∙ ap (V (g.nodes ++ (Literal start ∷ []))) n1 ∙ push_is regs cells ins g.nodes (Literal start) in
      let c : V ms g.at ≡ eval w arrays val e = kept g.at means.within ∙ means.is in
      ap (λ xs. V xs at) p2 ∙ ap (V (ms ++ (Choice test first g.at ∷ []))) n2 ∙ push_is regs cells ins ms (Choice test first g.at)
      ∙ ap (λ v. cond (eqb v 1) (V ms first) (V ms g.at)) a ∙ ap (λ v. cond (eqb (val reset_name) 1) v (V ms g.at)) b
      ∙ ap (λ v. cond (eqb (val reset_name) 1) start v) c

  pub restart_kept : (j : ℕ) → j < length ns → V os j ≡ V ns j
  restart_kept j h =
      let k = means.longer in let l = longer in
      ap (λ xs. V xs j) p2 ∙ push_keeps regs cells ins ms (Choice test first g.at) j (omega (arith, h, k, l)) ∙ kept j (omega (arith, h, k)) ∙ means.keeps j h

  pub restart_keeps : (p : List ℕ → Place) → ((x : List ℕ) → Matches regs cells ins w arrays val ns x (p x)) → (x : List ℕ) → Matches regs cells ins w arrays val os x (p x)
  restart_keeps p m x =
      let k = means.longer in let l = longer in
      keep_place regs cells ins w arrays val ns os x (p x) (subst (λ xs. length ns ≤ length xs) (sym p2) (grind (arith, length-append, k, l))) restart_kept (m x)
