-- Registers and cells that hold 0 are within their widths.
use Rattle.std.proofs.Common.{◌≡◌, ℕ, ◌+◌, ◌^◌, ◌<◌, ◌≤◌, Bool, true, false, ltb, ◌||◌, List, [], ◌∷◌, Option, Some, None, length, get_or, map, replicate, refl, ap, sym, ◌∙◌, arith}
use Rattle.std.proofs.lemmas.Bool.Decides.{nat_tests}
use Rattle.std.proofs.lemmas.List.{get_or_past, get_or-replicate, length-replicate}
use Rattle.std.proofs.lemmas.List.Elements.{All-replicate}
use Rattle.std.proofs.lemmas.Nat.{pow_pos}
use Rattle.std.specs.Cmp.Lexicographic.{same_text}
use Rattle.core_words.specs.Names.{same_name}
use Rattle.verilog_tree.specs.declared.tree.Stmt.TheVariants as stmt
use Rattle.verilog_tree.specs.declared.tree.Item as tree
use Rattle.verilog_tree.specs.declared.tree.Item.TheVariants.{Wire, Reg, Assign, Always}
use Rattle.verilog_mean.specs.declared.checked.Checked.{Checked}
use Rattle.verilog_mean.specs.declared.class.Class.{Class}
use Rattle.verilog_mean.specs.declared.class.Class.TheVariants as class
use Rattle.verilog_mean.specs.Checked.{IsChecked}
use Rattle.verilog_mean.specs.Plain.{Plain}
use Rattle.verilog_mean.specs.Look.{look, or_else, pick_if}
use Rattle.verilog_mean.specs.Run.{IsStart}
use Rattle.verilog_mean.specs.Zero.{item_cells, cells_in, zero_state}
use Rattle.verilog_mean.specs.Erase.{plain_items, plain_tree, range_width}
use Rattle.verilog_mean.specs.Declarations.{Declaration, by_name, declaration_of, declarations, declared_items}
use Rattle.verilog_mean.specs.Names.{is_among}
use Rattle.verilog_sim.specs.Simulates.{Shows, ShowsArrays}
use Rattle.verilog_sim.specs.Layouts.{layout_of, register_names, spans_from}
use Rattle.verilog_sim.specs.Rooms.{cell_count}
use Rattle.verilog_sim.proofs.Once.{AllFind, same_self}
use Rattle.verilog_sim.proofs.Facts.{found_items}

abbrev zeros : ℕ → List ℕ
zeros n = replicate n 0

zero_at : (n j : ℕ) → get_or (zeros n) j 0 ≡ 0
zero_at n j = split (ltb j n) refl
  where
    split : (b : Bool) → ltb j n ≡ b → get_or (zeros n) j 0 ≡ 0
    split true q = get_or-replicate n j 0 0 (grind (arith, nat_tests))
    split false q = get_or_past (zeros n) j 0 (let e : length (zeros n) ≡ n = length-replicate n 0 in grind (arith, nat_tests, e))

map_zero : (xs : List (List ℕ)) → map {B = ℕ} (λ x. 0) xs ≡ zeros (length xs)
map_zero [] = refl
map_zero (x ∷ xs) = ap (λ l. 0 ∷ l) (map_zero xs)

abbrev class_cells : Class → ℕ
class_cells (class.Array p) = p.second.value + 1
class_cells class.Input = 0
class_cells class.Output = 0
class_cells (class.Wired inline) = 0
class_cells class.Register = 0

abbrev declared_cells : Option Declaration → ℕ
declared_cells None = 0
declared_cells (Some d) = class_cells d.class

abbrev array_names : List tree.Item → List (List ℕ)
array_names [] = []
array_names (Wire at range name d ∷ is) = array_names is
array_names (Reg at range name None ∷ is) = array_names is
array_names (Reg at range name (Some cells) ∷ is) = name.text ∷ array_names is
array_names (Assign at t d ∷ is) = array_names is
array_names (Always at s ∷ is) = array_names is

or_right : (a b : Bool) → b ≡ true → (a || b) ≡ true
or_right true b h = refl
or_right false b h = h

module _ (c : Checked) (h : IsChecked c) where
  abbrev ds : List Declaration
  ds = declarations c.tree

  abbrev m : Plain
  m = plain_tree c.tree

  cells_here : (name x : List ℕ) (n : ℕ) (o : Option ℕ) (among : Bool) → declared_cells (declaration_of ds name) ≡ n → (same_name name x || among) ≡ true
      → (among ≡ true → o ≡ Some (declared_cells (declaration_of ds x))) → pick_if (same_name name x) n o ≡ Some (declared_cells (declaration_of ds x))
  cells_here name x n o among e q more = split (same_name name x) refl q
    where
      split : (b : Bool) → same_name name x ≡ b → (b || among) ≡ true → pick_if b n o ≡ Some (declared_cells (declaration_of ds x))
      split true s q = ap Some (sym e ∙ ap (λ y. declared_cells (declaration_of ds y)) (same_text name x (sym s)))
      split false s q = more q

  cells_look : (is : List tree.Item) (x : List ℕ) → AllFind (declaration_of ds) by_name (declared_items is) → is_among x (array_names is) ≡ true
      → look item_cells (plain_items is) x ≡ Some (declared_cells (declaration_of ds x))
  cells_look [] x f q = absurd cc
  cells_look (Wire at range name d ∷ is) x f q = cells_look is x f.1 q
  cells_look (Reg at range name None ∷ is) x f q = cells_look is x f.1 q
  cells_look (Reg at range name (Some cells) ∷ is) x f q =
      cells_here name.text x (cells.second.value + 1) (look item_cells (plain_items is) x) (is_among x (array_names is)) (ap declared_cells f.0) q (cells_look is x f.1)
  cells_look (Assign at t d ∷ is) x f q = cells_look is x f q
  cells_look (Always at (stmt.Next t d) ∷ is) x f q = cells_look is x f q
  cells_look (Always at (stmt.Reset at' first s start t d) ∷ is) x f q = cells_look is x f q
  cells_look (Always at (stmt.Write at' p e t b i d) ∷ is) x f q = cells_look is x f q

  in_all : (x : List ℕ) → is_among x (array_names c.tree.items) ≡ true → cells_in m x ≡ declared_cells (declaration_of ds x)
  in_all x q = ap (λ o. or_else o 0) (cells_look c.tree.items x (found_items c h) q)

  zero_start : (is : List tree.Item) → AllFind (declaration_of ds) by_name (declared_items is) → ((x : List ℕ) → is_among x (array_names is) ≡ true → is_among x (array_names c.tree.items) ≡ true)
      → IsStart (plain_items is) (zero_state m)
  zero_start [] f q = tt
  zero_start (Wire at range name d ∷ is) f q = zero_start is f.1 q
  zero_start (Reg at range name None ∷ is) f q = (pow_pos (range_width range), zero_start is f.1 q)
  zero_start (Reg at range name (Some cells) ∷ is) f q = (
    length-replicate (cells_in m name.text) 0
        ∙ in_all name.text (q name.text (ap (λ b. b || is_among name.text (array_names is)) (same_self name.text))) ∙ ap declared_cells f.0,
    (All-replicate (λ c. c < 2 ^ range_width range) (cells_in m name.text) 0 (pow_pos (range_width range)), zero_start is f.1 (λ x l. q x (or_right (same_name name.text x) (is_among x (array_names is)) l))),
  )
  zero_start (Assign at t d ∷ is) f q = zero_start is f q
  zero_start (Always at (stmt.Next t d) ∷ is) f q = zero_start is f q
  zero_start (Always at (stmt.Reset at' first s start t d) ∷ is) f q = zero_start is f q
  zero_start (Always at (stmt.Write at' p e t b i d) ∷ is) f q = zero_start is f q

  zero_arrays : (n base : ℕ) (is : List tree.Item) → base + cell_count (plain_items is) ≤ n → IsStart (plain_items is) (zero_state m) → ShowsArrays (zero_state m) (replicate n 0) (spans_from base (plain_items is))
  zero_arrays n base [] l s = tt
  zero_arrays n base (Wire at range name d ∷ is) l s = zero_arrays n base is l s
  zero_arrays n base (Reg at range name None ∷ is) l s = zero_arrays n base is l s.1
  zero_arrays n base (Reg at range name (Some cells) ∷ is) l s =
      let e : length (zeros n) ≡ n = length-replicate n 0 in (
        (s.0, (omega (arith, l, e), λ i b. zero_at n (base + i) ∙ sym (zero_at (cells_in m name.text) i))),
        zero_arrays n (base + (cells.second.value + 1)) is (omega (arith, l)) s.1.1,
      )
  zero_arrays n base (Assign at t d ∷ is) l s = zero_arrays n base is l s
  zero_arrays n base (Always at (stmt.Next t d) ∷ is) l s = zero_arrays n base is l s
  zero_arrays n base (Always at (stmt.Reset at' first z start t d) ∷ is) l s = zero_arrays n base is l s
  zero_arrays n base (Always at (stmt.Write at' p e t b i d) ∷ is) l s = zero_arrays n base is l s

  pub zero_shown : (r n : ℕ) → r ≡ length (register_names (plain_items c.tree.items)) → n ≡ cell_count (plain_items c.tree.items)
      → Shows m (layout_of m) (zero_state m) (replicate r 0) (replicate n 0)
  zero_shown r n er en =
      let s = zero_start c.tree.items (found_items c h) (λ x q. q) in
      (s, (map_zero (register_names (plain_items c.tree.items)) ∙ ap (λ k. replicate k 0) (sym er), zero_arrays n 0 c.tree.items (omega (arith, en)) s))
