-- One register or one array more is done.
use Rattle.std.proofs.Common.{◌≡◌, ℕ, ◌+◌, ◌<◌, ◌≤◌, cond, eqb, ltb, List, [], ◌∷◌, ◌++◌, Option, length, get_or, set, map, refl, ap, ◌∙◌, append_assoc, arith}
use Rattle.verilog_tree.specs.declared.tree.Stmt.{Stmt}
use Rattle.verilog_mean.specs.Plain.{Expr, Item}
use Rattle.verilog_mean.specs.Plain.Item.{Reg, Array}
use Rattle.verilog_mean.specs.Cycle.{eval, next_reg, reset_name}
use Rattle.verilog_mean.specs.Cycle.Writing.{Puts}
use Rattle.verilog_flat.specs.declared.node.Node.{Node}
use Rattle.verilog_flat.specs.declared.sweep.ArrayWrite.{ArrayWrite}
use Rattle.verilog_flat.specs.Flat.{values, picked, AllBelow}
use Rattle.verilog_flat.specs.Writes.{write_one, write_all, AreWrites}
use Rattle.verilog_resolve.specs.declared.names.Place.{Place}
use Rattle.verilog_resolve.specs.Flat.{Grown}
use Rattle.verilog_resolve.specs.Means.{Matches, Means}
use Rattle.verilog_resolve.proofs.Means.{keep_place}
use Rattle.verilog_sim.specs.Layouts.{register_names}
use Rattle.verilog_sim.specs.Stmts.{clocked, writing}
use Rattle.verilog_sim.specs.Nexts.{NextsDone, next_by}
use Rattle.verilog_sim.specs.Puts.{PutsDone, put_one, put_all}

pub below_push : (limit more at : ℕ) (ns : List ℕ) → limit ≤ more → at < more → AllBelow limit ns → AllBelow more (ns ++ (at ∷ []))
below_push limit more at [] l h a = (h, tt)
below_push limit more at (n ∷ ns) l h a = let q = a.0 in (omega (arith, q, l), below_push limit more at ns l h a.1)

pub writes_push : (limit more cells : ℕ) (p : ArrayWrite) (ps : List ArrayWrite) → limit ≤ more
    → (p.enable < more) × (p.index < more) × (p.data < more) × (p.base + p.size ≤ cells) → AreWrites limit cells ps → AreWrites more cells (ps ++ (p ∷ []))
writes_push limit more cells p [] l h a = (h, tt)
writes_push limit more cells p (q ∷ qs) l h a =
    let u = a.0.0 in let v = a.0.1 in let t = a.0.2 in
    ((omega (arith, u, l), omega (arith, v, l), omega (arith, t, l), a.0.3), writes_push limit more cells p qs l h a.1)

picked_append : (vals ms ns : List ℕ) → picked vals (ms ++ ns) ≡ picked vals ms ++ picked vals ns
picked_append vals [] ns = refl
picked_append vals (m ∷ ms) ns = ap (λ l. get_or vals m 0 ∷ l) (picked_append vals ms ns)

pub picked_same : (u v : List ℕ) (n : ℕ) (ns : List ℕ) → ((j : ℕ) → j < n → get_or u j 0 ≡ get_or v j 0) → AllBelow n ns → picked u ns ≡ picked v ns
picked_same u v n [] h b = refl
picked_same u v n (m ∷ ms) h b = λ i. h m b.0 i ∷ picked_same u v n ms h b.1 i

write_append : (vals : List ℕ) (ps : List ArrayWrite) (p : ArrayWrite) (held : List ℕ) → write_all vals (ps ++ (p ∷ [])) held ≡ write_one vals p (write_all vals ps held)
write_append vals [] p held = refl
write_append vals (q ∷ qs) p held = write_append vals qs p (write_one vals q held)

write_same : (u v : List ℕ) (n cells : ℕ) (ps : List ArrayWrite) → ((j : ℕ) → j < n → get_or u j 0 ≡ get_or v j 0) → AreWrites n cells ps
    → (held : List ℕ) → write_all u ps held ≡ write_all v ps held
write_same u v n cells [] h a held = refl
write_same u v n cells (p ∷ ps) h a held =
    write_same u v n cells ps h a.1 (write_one u p held)
    ∙ ap (write_all v ps) (λ i. cond (eqb (h p.enable a.0.0 i) 1) (cond (ltb (h p.index a.0.1 i) p.size) (set held (p.base + h p.index a.0.1 i) (h p.data a.0.2 i)) held) held)

module _ (table : List ℕ → Option Stmt) (p : List ℕ → Place) (items rest : List Item) (ns os ms : List Node) (longer : length os ≤ length ms)
    (kept : (regs cells ins : List ℕ) (w : List ℕ → ℕ) (arrays : List ℕ → List ℕ) (val : List ℕ → ℕ)
    → ((x : List ℕ) → Matches regs cells ins w arrays val os x (p x))
    → (j : ℕ) → j < length os → get_or (values regs cells ins ms) j 0 ≡ get_or (values regs cells ins os) j 0) where
  pub next_done : (width : ℕ) (x : List ℕ) (done new : List ℕ) (at : ℕ) → new ≡ done ++ (at ∷ []) → AllBelow (length os) done
      → ((regs cells ins : List ℕ) (w : List ℕ → ℕ) (arrays : List ℕ → List ℕ) (val : List ℕ → ℕ)
      → ((x : List ℕ) → Matches regs cells ins w arrays val os x (p x))
      → (old : ℕ) → get_or (values regs cells ins ms) at 0 ≡ next_reg w arrays val (val reset_name) old (clocked (table x)))
      → NextsDone table p items (Reg width x ∷ rest) ns os done → NextsDone table p items rest ns ms new
  next_done width x done new at pushed b value before regs cells ins w arrays val old m =
      let z = before regs cells ins w arrays val old m in
      let k = kept regs cells ins w arrays val z.0 in
      let f = next_by w arrays val old table in (
        λ y. keep_place regs cells ins w arrays val os ms y (p y) longer k (z.0 y),
        ap (λ l. picked (values regs cells ins ms) l ++ map f (register_names rest)) pushed
            ∙ ap (λ l. l ++ map f (register_names rest)) (picked_append (values regs cells ins ms) done (at ∷ []))
            ∙ append_assoc (picked (values regs cells ins ms) done) (get_or (values regs cells ins ms) at 0 ∷ []) (map f (register_names rest))
            ∙ (λ i. picked_same (values regs cells ins ms) (values regs cells ins os) (length os) done k b i ++ (value regs cells ins w arrays val z.0 (old x) i ∷ map f (register_names rest)))
            ∙ z.1,
      )

  pub put_done : (base width size cells' : ℕ) (x : List ℕ) (done new : List ArrayWrite) (a : ArrayWrite) → new ≡ done ++ (a ∷ []) → AreWrites (length os) cells' done
      → ((regs cells ins : List ℕ) (w : List ℕ → ℕ) (arrays : List ℕ → List ℕ) (val : List ℕ → ℕ)
      → ((x : List ℕ) → Matches regs cells ins w arrays val os x (p x))
      → (held : List ℕ) → write_one (values regs cells ins ms) a held ≡ put_one w arrays val (writing (table x)) base size held)
      → PutsDone table p items (Array width x size ∷ rest) base ns os done → PutsDone table p items rest (base + size) ns ms new
  put_done base width size cells' x done new a pushed b value before regs cells ins w arrays val m =
      let z = before regs cells ins w arrays val m in
      let k = kept regs cells ins w arrays val z.0 in
      let V : List ℕ = values regs cells ins ms in (
        λ y. keep_place regs cells ins w arrays val os ms y (p y) longer k (z.0 y),
        λ held.
            ap (λ l. put_all w arrays val table (base + size) rest (write_all V l held)) pushed
            ∙ ap (put_all w arrays val table (base + size) rest)
            (write_append V done a held ∙ value regs cells ins w arrays val z.0 (write_all V done held)
            ∙ ap (put_one w arrays val (writing (table x)) base size) (write_same V (values regs cells ins os) (length os) cells' done k b held))
            ∙ z.1 held,
        λ j l. let q = z.2 j l in let b' = q.0 in (omega (arith, b', longer), k j q.0 ∙ q.1),
      )

-- the nodes of three expressions, one behind another
module _ (regs cells ins : List ℕ) (w : List ℕ → ℕ) (arrays : List ℕ → List ℕ) (val : List ℕ → ℕ) (p : List ℕ → Place)
    (ns : List Node) (m : (x : List ℕ) → Matches regs cells ins w arrays val ns x (p x)) (e i d : Expr) (f g h : Grown)
    (first : ((x : List ℕ) → Matches regs cells ins w arrays val ns x (p x)) → Means regs cells ins w arrays val ns e f)
    (second : ((x : List ℕ) → Matches regs cells ins w arrays val f.nodes x (p x)) → Means regs cells ins w arrays val f.nodes i g)
    (third : ((x : List ℕ) → Matches regs cells ins w arrays val g.nodes x (p x)) → Means regs cells ins w arrays val g.nodes d h) where
  one : Means regs cells ins w arrays val ns e f
  one = first m

  after_one : (x : List ℕ) → Matches regs cells ins w arrays val f.nodes x (p x)
  after_one x = keep_place regs cells ins w arrays val ns f.nodes x (p x) one.longer one.keeps (m x)

  two : Means regs cells ins w arrays val f.nodes i g
  two = second after_one

  after_two : (x : List ℕ) → Matches regs cells ins w arrays val g.nodes x (p x)
  after_two x = keep_place regs cells ins w arrays val f.nodes g.nodes x (p x) two.longer two.keeps (after_one x)

  three : Means regs cells ins w arrays val g.nodes d h
  three = third after_two

  abbrev V : List ℕ
  V = values regs cells ins h.nodes

  pub write_is : (base size : ℕ) (held : List ℕ) → write_one V (record { enable = f.at; index = g.at; «data» = h.at; base = base; size = size }) held ≡ put_one w arrays val (Puts e i d) base size held
  write_is base size held =
      let lf = one.within in let lg = two.longer in
      let a : get_or V f.at 0 ≡ eval w arrays val e = three.keeps f.at (omega (arith, lf, lg)) ∙ two.keeps f.at one.within ∙ one.is in
      let b : get_or V g.at 0 ≡ eval w arrays val i = three.keeps g.at two.within ∙ two.is in
      let c : get_or V h.at 0 ≡ eval w arrays val d = three.is in
      λ k. cond (eqb (a k) 1) (cond (ltb (b k) size) (set held (base + b k) (c k)) held) held

  pub write_kept : (j : ℕ) → j < length ns → get_or V j 0 ≡ get_or (values regs cells ins ns) j 0
  write_kept j l =
      let lf = one.longer in let lg = two.longer in
      three.keeps j (omega (arith, l, lf, lg)) ∙ two.keeps j (omega (arith, l, lf)) ∙ one.keeps j l
