-- A module that is read is spelled by the tokens.
use Rattle.std.proofs.Common.{◌≡◌, ℕ, zero, suc, Bool, true, false, List, [], ◌∷◌, length, Result, Ok, Err, refl, sym, ap, subst, ◌∙◌, inl, inr}
use Rattle.std.specs.Prelude.{codes}
use Rattle.verilog_tree.specs.Signs.{Sign}
use Rattle.verilog_tree.specs.Signs as sign
use Rattle.verilog_tree.specs.Lexemes.{Placed}
use Rattle.verilog_tree.specs.declared.tree.PortDecl.{PortDecl}
use Rattle.verilog_tree.specs.Grammar.{mark, name_token, IsName}
use Rattle.verilog_tree.specs.Module as spec
use Rattle.verilog_tree.specs.Module.{SpellsExpr, SpellsRange, SpellsWire, SpellsPort, SpellsPorts, SpellsDriver, SpellsDriven, SpellsStmt, SpellsItem, SpellsItems, SpellsModule, direction}
use Rattle.verilog_tree.specs.Readers.{Stop, ◌>>=◌, expect, is_mark}
use Rattle.verilog_tree.specs.declared.tree.Tree.{Tree}
use Rattle.verilog_tree.specs.Read.{finished, module_of, read, is_word, keyword, optional_wire, port_of, port, ports}
use Rattle.verilog_tree.proofs.StepsAreSpelled.{bind_ok, ok_is, expect-ok}
use Rattle.verilog_tree.proofs.ItemsAreSpelled.{taken, keyword-ok, name-ok, range-spells, items-spells}

-- ---- ports

some_wire : (ts : List Placed) (x : Unit {0} × List Placed) → (keyword (codes "wire") ts >>= λ at. Ok (tt, at.1)) ≡ Ok x → SpellsWire ts x.1
some_wire ts x h =
    let (at, a, h') = bind_ok _ _ x h in
    subst (λ (y : Unit {0} × List Placed). SpellsWire ts y.1) (ok_is (tt, at.1) x h') (inr (at.0, keyword-ok (codes "wire") ts at a))

optional_wire-spells : (ts : List Placed) (x : Unit {0} × List Placed) → optional_wire ts ≡ Ok x → SpellsWire ts x.1
unfolding optional_wire
optional_wire-spells ts x h = elim (taken (is_word (codes "wire")) (λ us. keyword (codes "wire") us >>= λ at. Ok (tt, at.1)) (λ us. Ok (tt, us)) ts) [
  | inl e ↦ some_wire ts x (sym e ∙ h)
  | inr e ↦ inl (ap (λ (y : Unit {0} × List Placed). y.1) (ok_is (tt, ts) x (sym e ∙ h)))
]

port_of-spells : (input : Bool) (ts : List Placed) (x : PortDecl × List Placed) → port_of input (direction input) ts ≡ Ok x → SpellsPort x.0 ts x.1
unfolding port_of
port_of-spells input ts x h0 =
    let (at, a, h1) = bind_ok _ _ x h0 in
    let (w, b, h2) = bind_ok _ _ x h1 in
    let (r, c, h3) = bind_ok _ _ x h2 in
    let (i, d, h4) = bind_ok _ _ x h3 in
    let n = name-ok r.1 i d in
    subst (λ (y : PortDecl × List Placed). SpellsPort y.0 ts y.1) (ok_is (record { at = at.0; input = input; range = r.0; name = i.0 }, i.1) x h4)
    (at.1, w.1, keyword-ok (direction input) ts at a, optional_wire-spells at.1 w b, subst (λ (m : List Placed). SpellsRange r.0 w.1 m) n.parts (range-spells w.1 r c), n.free)

port-spells : (ts : List Placed) (x : PortDecl × List Placed) → port ts ≡ Ok x → SpellsPort x.0 ts x.1
unfolding port
port-spells ts x h = elim (taken (is_word (codes "input")) (port_of true (codes "input")) (port_of false (codes "output")) ts) [ inl e ↦ port_of-spells true ts x (sym e ∙ h) | inr e ↦ port_of-spells false ts x (sym e ∙ h) ]

ports_cons : (p : PortDecl) (ps : List PortDecl) (ts mid rest : List Placed) (comma : ℕ) → SpellsPort p ts (mark comma sign.Comma ∷ mid) → SpellsPorts ps mid rest → SpellsPorts (p ∷ ps) ts rest
ports_cons p [] ts mid rest comma h k = elim k [ ]
ports_cons p (q ∷ ps) ts mid rest comma h k = (mid, comma, h, k)

ports-spells : (n : ℕ) (ts : List Placed) (x : List PortDecl × List Placed) → ports n ts ≡ Ok x → SpellsPorts x.0 ts x.1
unfolding ports
ports-spells zero ts x h = absurd cc
ports-spells (suc n) ts x h0 =
    let (p, a, h1) = bind_ok _ _ x h0 in
    let g = port-spells ts p a in
    elim (taken (is_mark sign.Comma) (λ us. expect sign.Comma us >>= λ comma. ports n comma.1 >>= λ ps. Ok (p.0 ∷ ps.0, ps.1)) (λ us. expect sign.Close us >>= λ close. Ok (p.0 ∷ [], close.1)) p.1) [
      | inl e ↦ more p g (sym e ∙ h1) (λ us y k. ports-spells n us y k)
      | inr e ↦ last p g (sym e ∙ h1)
    ]
  where
    more : (p : PortDecl × List Placed) → SpellsPort p.0 ts p.1 → (expect sign.Comma p.1 >>= λ comma. ports n comma.1 >>= λ ps. Ok (p.0 ∷ ps.0, ps.1)) ≡ Ok x → ((us : List Placed) (y : List PortDecl × List Placed) → ports n us ≡ Ok y → SpellsPorts y.0 us y.1) → SpellsPorts x.0 ts x.1
    more p g k0 again =
        let (comma, b, k1) = bind_ok _ _ x k0 in
        let (ps, c, k2) = bind_ok _ _ x k1 in
        subst (λ (y : List PortDecl × List Placed). SpellsPorts y.0 ts y.1) (ok_is (p.0 ∷ ps.0, ps.1) x k2) (ports_cons p.0 ps.0 ts comma.1 ps.1 comma.0 (subst (λ (m : List Placed). SpellsPort p.0 ts m) (expect-ok sign.Comma p.1 comma b) g) (again comma.1 ps c))

    last : (p : PortDecl × List Placed) → SpellsPort p.0 ts p.1 → (expect sign.Close p.1 >>= λ close. Ok (p.0 ∷ [], close.1)) ≡ Ok x → SpellsPorts x.0 ts x.1
    last p g k0 =
        let (close, b, k1) = bind_ok _ _ x k0 in
        subst (λ (y : List PortDecl × List Placed). SpellsPorts y.0 ts y.1) (ok_is (p.0 ∷ [], close.1) x k1) (close.0, subst (λ (m : List Placed). SpellsPort p.0 ts m) (expect-ok sign.Close p.1 close b) g)

-- ---- the module

record ModuleOk (ts : List Placed) (t : Tree) (rest : List Placed) : Type 0 where
  a : List Placed
  b : List Placed
  paren : ℕ
  semicolon : ℕ
  end : ℕ
  free : IsName t.name
  parts : ts ≡ spec.keyword t.at (codes "module") ∷ name_token t.name ∷ mark paren sign.Open ∷ a
  ports : SpellsPorts t.ports a (mark semicolon sign.Semicolon ∷ b)
  items : SpellsItems t.items b (spec.keyword end (codes "endmodule") ∷ rest)

module-spells : (n : ℕ) (ts : List Placed) (x : Tree × List Placed) → module_of n ts ≡ Ok x → ModuleOk ts x.0 x.1
unfolding module_of
module-spells n ts x h0 =
    let (at, a, h1) = bind_ok _ _ x h0 in
    let (i, b, h2) = bind_ok _ _ x h1 in
    let (paren, c, h3) = bind_ok _ _ x h2 in
    let (ps, d, h4) = bind_ok _ _ x h3 in
    let (semicolon, e, h5) = bind_ok _ _ x h4 in
    let (is, f, h6) = bind_ok _ _ x h5 in
    let (end, g, h7) = bind_ok _ _ x h6 in
    let m = name-ok at.1 i b in
    subst (λ (y : Tree × List Placed). ModuleOk ts y.0 y.1) (ok_is (record { at = at.0; name = i.0; ports = ps.0; items = is.0 }, end.1) x h7) (record {
      a = paren.1;
      b = semicolon.1;
      paren = paren.0;
      semicolon = semicolon.0;
      end = end.0;
      free = m.free;
      parts = keyword-ok (codes "module") ts at a ∙ ap (λ (l : List Placed). spec.keyword at.0 (codes "module") ∷ l) (m.parts ∙ ap (λ (l : List Placed). name_token i.0 ∷ l) (expect-ok sign.Open i.1 paren c));
      ports = subst (λ (l : List Placed). SpellsPorts ps.0 paren.1 l) (expect-ok sign.Semicolon ps.1 semicolon e) (ports-spells n paren.1 ps d);
      items = subst (λ (l : List Placed). SpellsItems is.0 semicolon.1 l) (keyword-ok (codes "endmodule") is.1 end g) (items-spells n semicolon.1 is f);
    })

finished-spells : (ts : List Placed) (t : Tree) (out : Result (Tree × List Placed) Stop) → ((x : Tree × List Placed) → out ≡ Ok x → ModuleOk ts x.0 x.1) → finished out ≡ Ok t → SpellsModule t ts
finished-spells ts t (Ok (u, [])) m h =
    let g = m (u, []) refl in
    subst (λ (v : Tree). SpellsModule v ts) (tree_is u t h) (g.a, g.b, g.paren, g.semicolon, g.end, g.free, g.parts, g.ports, g.items)
  where
    tree_is : (u t : Tree) → ◌≡◌ {A = Result Tree Stop} (Ok u) (Ok t) → u ≡ t
    tree_is u t h = cc
finished-spells ts t (Ok (u, (r ∷ rest))) m h = absurd cc
finished-spells ts t (Err s) m h = absurd cc

-- What is read is spelled by the tokens.
pub read-spells : (ts : List Placed) (t : Tree) → read ts ≡ Ok t → SpellsModule t ts
read-spells ts t h = finished-spells ts t (module_of (length ts) ts) (λ x e. module-spells (length ts) ts x e) h
