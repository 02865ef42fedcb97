-- A loop in the graph of a tree's items is one of a name that is declared.
use Rattle.std.proofs.Common.{◌≡◌, ℕ, zero, suc, ◌^◌, ◌<◌, ◌≤◌, ◌⊎◌, ◌&&◌, ◌||◌, inl, inr, Bool, true, false, not, List, [], ◌∷◌, ◌++◌, length, refl, ap, sym, ◌∙◌, subst, arith, Option, Some, None}
use Rattle.std.specs.Prelude.{codes}
use Rattle.std.proofs.lemmas.Cmp.{nat_list_eq_equiv}
use Rattle.core_words.specs.Names.{same_name as same_text}
use Rattle.std.specs.Cmp.Lexicographic.{same_text as same_text_is}
use Rattle.topo_sort.specs.Graph.{Leads, AreWithin}
use Rattle.topo_sort.specs.Order.{IsOrder as Sorted}
use Rattle.verilog_tree.specs.declared.expr.Ident.{Ident}
use Rattle.verilog_tree.specs.declared.tree.Stmt.TheVariants as stmt
use Rattle.verilog_tree.specs.declared.tree.PortDecl.{PortDecl}
use Rattle.verilog_tree.specs.declared.tree.Item as tree_item
use Rattle.verilog_tree.specs.declared.tree.Item.TheVariants as item
use Rattle.verilog_tree.specs.declared.tree.Tree.{Tree}
use Rattle.verilog_mean.specs.declared.refusal.MeanRefusal.{MeanRefusal}
use Rattle.verilog_mean.specs.declared.refusal.MeanRefusal.TheVariants.{NameUnknown}
use Rattle.verilog_mean.specs.Look.{put, put_if}
use Rattle.verilog_mean.specs.Plain.{Expr, Plain}
use Rattle.verilog_mean.specs.Erase.{plain_item, plain_items, plain_tree}
use Rattle.verilog_mean.specs.Declarations.{Declaration, declarations, declared_items, declared_ports, item_declaration}
use Rattle.verilog_mean.specs.Names.{Refusals, is_among, is_bit_input, known_after, names_unknown, port_names, unknown_in, unknown_in_item, unknown_in_items}
use Rattle.verilog_mean.specs.Loops.{Depends}
use Rattle.verilog_mean.specs.Order.{drive_of, drive_at, IsOrder}
use Rattle.verilog_rules.specs.Collected.{names_of}
use Rattle.verilog_rules.specs.Sources.{item_number, wire_source}
use Rattle.verilog_rules.specs.Edges.{edges_in, IsGraph}
use Rattle.verilog_rules.specs.LoopPlace.{NoneBack}
use Rattle.verilog_rules.proofs.Needs.{edges_length}
use Rattle.verilog_rules.proofs.Numbers.{number_within}
use Rattle.verilog_rules.proofs.ItemOrder.{looped, within, is_order, leads_to, back_number, loop_depends}

-- ---- it is the one that the plain item drives

-- the name of the wire or output that an item drives
abbrev drive_ident : tree_item.Item → Option Ident
drive_ident (item.Wire at range name d) = wire_source name d
drive_ident (item.Reg at range name cells) = None
drive_ident (item.Assign at target d) = Some target
drive_ident (item.Always at s) = None

abbrev ident_at : List tree_item.Item → ℕ → Option Ident
ident_at [] k = None
ident_at (i ∷ is) zero = drive_ident i
ident_at (i ∷ is) (suc k) = ident_at is k

record Named (o : Option Ident) (x : List ℕ) : Type 0 where
  ident : Ident
  is : o ≡ Some ident
  text : ident.text ≡ x

same_name : (p q : List ℕ × Expr) → Some p ≡ Some q → p.0 ≡ q.0
same_name p q h = let e : p ≡ q = cc in ap (λ (r : List ℕ × Expr). r.0) e

item_named : (i : tree_item.Item) (d : List ℕ × Expr) → drive_of (plain_item i) ≡ Some d → Named (drive_ident i) d.0
item_named (item.Wire at range name None) d h = absurd (let c : None ≡ Some d = h in cc)
item_named (item.Wire at range name (Some e)) d h = record { ident = name; is = refl; text = same_name _ d h }
item_named (item.Reg at range name None) d h = absurd (let c : None ≡ Some d = h in cc)
item_named (item.Reg at range name (Some cells)) d h = absurd (let c : None ≡ Some d = h in cc)
item_named (item.Assign at target e) d h = record { ident = target; is = refl; text = same_name _ d h }
item_named (item.Always at (stmt.Next target e)) d h = absurd (let c : None ≡ Some d = h in cc)
item_named (item.Always at (stmt.Reset at' first sign start target e)) d h = absurd (let c : None ≡ Some d = h in cc)
item_named (item.Always at (stmt.Write at' paren enable target bracket index e)) d h = absurd (let c : None ≡ Some d = h in cc)

named_at : (items : List tree_item.Item) (k : ℕ) (d : List ℕ × Expr) → drive_at (plain_items items) k ≡ Some d → Named (ident_at items k) d.0
named_at [] k d h = absurd (let c : None ≡ Some d = h in cc)
named_at (i ∷ is) zero d h = item_named i d h
named_at (i ∷ is) (suc k) d h = named_at is k d h

-- ---- the graph of a tree

pub plain_length : (items : List tree_item.Item) → length (plain_items items) ≡ length items
plain_length [] = refl
plain_length (i ∷ is) = ap suc (plain_length is)

pub graph_within : (t : Tree) (edges : List (List ℕ)) → IsGraph t edges → AreWithin edges
graph_within t edges e = subst AreWithin (sym e) (within (plain_tree t))

pub graph_few : (t : Tree) (edges : List (List ℕ)) → IsGraph t edges → length t.items ≤ 2 ^ 24 → length edges < 2 ^ 32
graph_few t edges e h =
    let l : length edges ≡ length (edges_in (item_number (plain_tree t)) (plain_items t.items)) = ap length e in
    let a = edges_length (item_number (plain_tree t)) (plain_items t.items) in
    let b = plain_length t.items in
    omega (arith, l, a, b, h)

pub number_node : (t : Tree) (edges : List (List ℕ)) (x : List ℕ) (k : ℕ) → IsGraph t edges → item_number (plain_tree t) x ≡ Some k → k < length edges
number_node t edges x k e h =
    let l : length edges ≡ length (edges_in (item_number (plain_tree t)) (plain_items t.items)) = ap length e in
    let a = edges_length (item_number (plain_tree t)) (plain_items t.items) in
    let b = number_within (plain_tree t) x k h in
    omega (arith, l, a, b)

module _ (t : Tree) (edges : List (List ℕ)) (e : IsGraph t edges) (x : List ℕ) where
  -- a name whose item leads to itself depends on itself
  pub back_depends : (k : ℕ) → item_number (plain_tree t) x ≡ Some k → Leads edges k k → Depends (plain_tree t) x x
  back_depends k h l = loop_depends (plain_tree t) x k h (subst (λ (g : List (List ℕ)). Leads g k k) e l)

  -- and no other does
  pub back_leads : (k : ℕ) → item_number (plain_tree t) x ≡ Some k → Depends (plain_tree t) x x → Leads edges k k
  back_leads k h d = subst (λ (g : List (List ℕ)). Leads g k k) (sym e) (leads_to (plain_tree t) x x d k k h h)

  pub no_number : item_number (plain_tree t) x ≡ None → Depends (plain_tree t) x x → ⊥
  no_number h d = let k = back_number (plain_tree t) x d in let c : None ≡ Some k.0 = sym h ∙ k.1 in cc

pub graph_order : (t : Tree) (edges : List (List ℕ)) (order : List ℕ) → IsGraph t edges → Sorted edges order → IsOrder (plain_tree t) order
graph_order t edges order e s = is_order (plain_tree t) order (subst (λ (g : List (List ℕ)). Sorted g order) e s)

-- ---- a name that depends on itself is declared

both_empty : (xs ys : Refusals) → xs ++ ys ≡ [] → (xs ≡ []) × (ys ≡ [])
both_empty [] ys h = (refl, h)
both_empty (x ∷ xs) ys h = cc

not_put : (b : Bool) (r : MeanRefusal) (rest : Refusals) → put_if (not b) r rest ≡ [] → (b ≡ true) × (rest ≡ [])
not_put true r rest h = (refl, h)
not_put false r rest h = cc

either_true : (b c : Bool) → (b || c) ≡ true → (b ≡ true) ⊎ (c ≡ true)
either_true true c h = inl refl
either_true false c h = inr h

or_right : (b c : Bool) → c ≡ true → (b || c) ≡ true
or_right true c h = refl
or_right false c h = h

or_left : (b c : Bool) → b ≡ true → (b || c) ≡ true
or_left b c h = ap (λ d. d || c) h

-- some declaration has the name
abbrev IsDeclared : List ℕ → List Declaration → Type 0
IsDeclared x ds = is_among x (names_of ds) ≡ true

module _ (name : Ident) where
  put_declared : (d : Option Declaration) (rest : List Declaration) → IsDeclared name.text rest → IsDeclared name.text (put d rest)
  put_declared None rest h = h
  put_declared (Some d) rest h = or_right (same_text d.name.text name.text) (is_among name.text (names_of rest)) h

  known_declared : (known : List (List ℕ)) (d : Option Declaration) (rest : List Declaration) → is_among name.text (known_after known d) ≡ true
      → (is_among name.text known ≡ true) ⊎ IsDeclared name.text (put d rest)
  known_declared known None rest h = inl h
  known_declared known (Some d) rest h = elim (either_true (same_text d.name.text name.text) (is_among name.text known) h) [
    | inl s ↦ inr (or_left (same_text d.name.text name.text) (is_among name.text (names_of rest)) s)
    | inr k ↦ inl k
  ]

  -- the item that drives the name declares it, or it is known already
  here_declared : (known : List (List ℕ)) (i : tree_item.Item) (rest : List Declaration) → unknown_in_item known i ≡ [] → drive_ident i ≡ Some name
      → (is_among name.text known ≡ true) ⊎ IsDeclared name.text (put (item_declaration i) rest)
  here_declared known (item.Wire at range n None) rest u h = absurd (let c : None ≡ Some name = h in cc)
  here_declared known (item.Wire at range n (Some d)) rest u h =
      let e : n ≡ name = (let c : Some n ≡ Some name = h in cc) in
      inr (or_left (same_text n.text name.text) (is_among name.text (names_of rest)) (ap (λ (i : Ident). same_text i.text name.text) e ∙ nat_list_eq_equiv.refl name.text))
  here_declared known (item.Reg at range n cells) rest u h = absurd (let c : None ≡ Some name = h in cc)
  here_declared known (item.Assign at n d) rest u h =
      let e : n ≡ name = (let c : Some n ≡ Some name = h in cc) in
      inl (ap (λ (i : Ident). is_among i.text known) (sym e) ∙ (not_put (is_among n.text known) (NameUnknown n.at) (unknown_in known d.value) u).0)
  here_declared known (item.Always at s) rest u h = absurd (let c : None ≡ Some name = h in cc)

  item_declared : (known : List (List ℕ)) (items : List tree_item.Item) (k : ℕ) → unknown_in_items known items ≡ [] → ident_at items k ≡ Some name
      → (is_among name.text known ≡ true) ⊎ IsDeclared name.text (declared_items items)
  item_declared known [] k u h = absurd (let c : None ≡ Some name = h in cc)
  item_declared known (i ∷ is) zero u h = here_declared known i (declared_items is) (both_empty (unknown_in_item known i) (unknown_in_items (known_after known (item_declaration i)) is) u).0 h
  item_declared known (i ∷ is) (suc k) u h =
      elim (item_declared (known_after known (item_declaration i)) is k (both_empty (unknown_in_item known i) (unknown_in_items (known_after known (item_declaration i)) is) u).1 h) [
        | inl n ↦ known_declared known (item_declaration i) (declared_items is) n
        | inr d ↦ inr (put_declared (item_declaration i) (declared_items is) d)
      ]

  port_declared : (ports : List PortDecl) (rest : List Declaration) → (is_among name.text (port_names ports) ≡ true) ⊎ IsDeclared name.text rest → IsDeclared name.text (declared_ports ports rest)
  port_declared [] rest (inl h) = absurd (let c : false ≡ true = h in cc)
  port_declared [] rest (inr h) = h
  port_declared (p ∷ ps) rest (inl h) = elim (either_true (same_text p.name.text name.text) (is_among name.text (port_names ps)) h) [
    | inl s ↦ or_left (same_text p.name.text name.text) (is_among name.text (names_of (declared_ports ps rest))) s
    | inr k ↦ or_right (same_text p.name.text name.text) (is_among name.text (names_of (declared_ports ps rest))) (port_declared ps rest (inl k))
  ]
  port_declared (p ∷ ps) rest (inr h) = or_right (same_text p.name.text name.text) (is_among name.text (names_of (declared_ports ps rest))) (port_declared ps rest (inr h))

  is_declared : (t : Tree) (k : ℕ) → names_unknown t ≡ [] → ident_at t.items k ≡ Some name → IsDeclared name.text (declarations t)
  is_declared t k u h =
      let n = not_put (is_bit_input t.ports (codes "clk") && is_bit_input t.ports (codes "reset")) (NameUnknown t.name.at) (unknown_in_items (port_names t.ports) t.items) u in
      port_declared t.ports (declared_items t.items) (item_declared (port_names t.ports) t.items k n.1 h)

-- where no declared name depends on itself, none that is declared does
none_back : (m : Plain) (ds : List Declaration) (x : List ℕ) → NoneBack m ds → IsDeclared x ds → Depends m x x → ⊥
none_back m [] x none h l = absurd (let c : false ≡ true = h in cc)
none_back m (d ∷ ds) x none h l = elim (either_true (same_text d.name.text x) (is_among x (names_of ds)) h) [
  | inl s ↦ none.0 (subst (λ y. Depends m y y) (sym (same_text_is d.name.text x (sym s))) l)
  | inr k ↦ none_back m ds x none.1 k l
]

-- a loop in the graph is one of a declared name
pub some_back : (t : Tree) (edges : List (List ℕ)) → names_unknown t ≡ [] → IsGraph t edges → (n : ℕ) × Leads edges n n → NoneBack (plain_tree t) (declarations t) → ⊥
some_back t edges u e l none =
    let p = looped (plain_tree t) l.0 (subst (λ (g : List (List ℕ)). Leads g l.0 l.0) e l.1) in
    let i = named_at t.items l.0 p.drive p.is in
    none_back (plain_tree t) (declarations t) i.ident.text none (is_declared i.ident t l.0 u i.is) (subst (λ x. Depends (plain_tree t) x x) (sym i.text) p.loops)
