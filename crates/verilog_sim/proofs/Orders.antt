-- An order of a sound tree's items settles its drivers one after another.
use Rattle.std.proofs.Common.{◌≡◌, ℕ, Bool, true, false, cond, ◌||◌, List, [], ◌∷◌, Option, Some, None, map, refl, ap, sym, ◌∙◌, subst, inl, inr, ◌⊎◌}
use Rattle.std.specs.Cmp.Lexicographic.{same_text}
use Rattle.core_words.specs.Names.{same_name}
use Rattle.verilog_mean.specs.declared.class.Class.{Class}
use Rattle.verilog_mean.specs.declared.class.Class.TheVariants as class
use Rattle.verilog_mean.specs.Plain.{Expr, Plain}
use Rattle.verilog_mean.specs.Cycle.{source_of, width_in, width_of}
use Rattle.verilog_mean.specs.Cycle.Source.{Driven}
use Rattle.verilog_mean.specs.Look.{put}
use Rattle.verilog_mean.specs.Erase.{plain, range_width}
use Rattle.verilog_mean.specs.Loops.{Mentions}
use Rattle.verilog_mean.specs.Declarations.{Declaration, declaration_of, declared_width, width_among}
use Rattle.verilog_mean.specs.Names.{is_among}
use Rattle.verilog_mean.specs.Order.{drive_at, driven_after, driven_by, AreReady, IsReady}
use Rattle.verilog_resolve.specs.declared.driver.WireDriver.{WireDriver}
use Rattle.verilog_resolve.specs.declared.names.Place.{Place}
use Rattle.verilog_resolve.specs.declared.names.Place.TheVariants.{Net}
use Rattle.verilog_resolve.specs.Names.{IsNet, IsArray}
use Rattle.verilog_resolve.specs.Fine.{IsFine, wide}
use Rattle.verilog_resolve.specs.Wires.{AreDriven, AreOrdered, with_net, with_nets}
use Rattle.verilog_sim.specs.Drives.{drive, drives_by}
use Rattle.verilog_sim.specs.Targets.{class_place, declared_place, target}
use Rattle.verilog_sim.proofs.Items.{Has, FineDrive, wire_class}
use Rattle.verilog_sim.proofs.FineExprs.{wide_same}
use Rattle.verilog_sim.proofs.Mentions.{mention_net, wide_when, fine_when}

-- ---- the same on pairs of a name and a driver

abbrev with_pair : (List ℕ → Place) → List ℕ × Expr → List ℕ → Place
with_pair k p = with_net k p.0 (wide k p.1)

abbrev with_pairs : (List ℕ → Place) → List (List ℕ × Expr) → List ℕ → Place
with_pairs k [] = k
with_pairs k (p ∷ ps) = with_pairs (with_pair k p) ps

abbrev OrderedPairs : (List ℕ → Place) → List (List ℕ × Expr) → Type 0
OrderedPairs k [] = Unit {0}
OrderedPairs k (p ∷ ps) = IsFine k p.1 × OrderedPairs (with_pair k p) ps

ordered_of : (k : List ℕ → Place) (ds : List WireDriver) → OrderedPairs k (map drive ds) → AreOrdered k ds
ordered_of k [] h = tt
ordered_of k (d ∷ ds) h = (h.0, ordered_of (with_pair k (drive d)) ds h.1)

nets_of : (k : List ℕ → Place) (ds : List WireDriver) → ◌≡◌ {A = List ℕ → Place} (with_nets k ds) (with_pairs k (map drive ds))
nets_of k [] = refl
nets_of k (d ∷ ds) = nets_of (with_pair k (drive d)) ds

abbrev pub base_class : Class → Bool
base_class class.Input = true
base_class class.Output = false
base_class (class.Wired inline) = false
base_class class.Register = true
base_class (class.Array cells) = true

module _ (ds : List Declaration) (m : Plain) where
  -- names that are no arrays are inputs, registers or driven
  net_cases : (o : Option Declaration) → IsNet (declared_place o) → Has base_class o ⊎ Has wire_class o
  net_cases None h = absurd h
  net_cases (Some d) h = by_class d.class (range_width d.range) h
    where
      by_class : (c : Class) (w : ℕ) → IsNet (class_place c w) → (base_class c ≡ true) ⊎ (wire_class c ≡ true)
      by_class class.Input w h = inl refl
      by_class class.Output w h = inr refl
      by_class (class.Wired inline) w h = inr refl
      by_class class.Register w h = inl refl
      by_class (class.Array cells) w h = absurd h

  array_base : (o : Option Declaration) → IsArray (declared_place o) → Has base_class o
  array_base None h = absurd h
  array_base (Some d) h = by_class d.class (range_width d.range) h
    where
      by_class : (c : Class) (w : ℕ) → IsArray (class_place c w) → base_class c ≡ true
      by_class class.Input w h = absurd h
      by_class class.Output w h = absurd h
      by_class (class.Wired inline) w h = absurd h
      by_class class.Register w h = absurd h
      by_class (class.Array cells) w h = refl

  wire_place : (o : Option Declaration) → Has wire_class o → declared_place o ≡ Net 0 (declared_width o)
  wire_place None h = absurd h
  wire_place (Some d) h = by_class d.class (range_width d.range) h
    where
      by_class : (c : Class) (w : ℕ) → wire_class c ≡ true → class_place c w ≡ Net 0 w
      by_class class.Input w h = absurd cc
      by_class class.Output w h = refl
      by_class (class.Wired inline) w h = refl
      by_class class.Register w h = absurd cc
      by_class (class.Array cells) w h = absurd cc

  abbrev Knows : (k : List ℕ → Place) (seen : List (List ℕ)) → Type 0
  Knows k seen = ((y : List ℕ) → is_among y seen ≡ true → k y ≡ target ds y) × ((y : List ℕ) → Has base_class (declaration_of ds y) → k y ≡ target ds y)

  abbrev IsDrive : Option (List ℕ × Expr) → Type 0
  IsDrive None = Unit {0}
  IsDrive (Some p) = (source_of m p.0 ≡ Driven p.1) × FineDrive ds p.0 p.1

  module _ (drives : (n : ℕ) → IsDrive (drive_at m.items n)) (driven : (x : List ℕ) → Has wire_class (declaration_of ds x) → (e : Expr) × (source_of m x ≡ Driven e)) where
    -- the names of a driver that is ready are known
    ready_known : (k : List ℕ → Place) (seen : List (List ℕ)) (p : List ℕ × Expr) → Knows k seen → IsFine (target ds) p.1 → IsReady m seen (Some p)
        → (y : List ℕ) → Mentions p.1 y → k y ≡ target ds y
    ready_known k seen p h f r y q = elim (net_cases (declaration_of ds y) (mention_net (target ds) p.1 y f q)) [
      | inl b ↦ h.1 y b
      | inr w ↦ let d = driven y w in h.0 y (r y d.0 q d.1)
    ]

    -- once it is bound, its own name is known too
    pair_same : (k : List ℕ → Place) (p : List ℕ × Expr) → wide k p.1 ≡ wide (target ds) p.1 → FineDrive ds p.0 p.1 → Net 0 (wide k p.1) ≡ target ds p.0
    pair_same k p e f = ap (Net 0) (e ∙ ap (λ w. width_of w p.1) (wide_same ds) ∙ sym f.1.0) ∙ sym (wire_place (declaration_of ds p.0) f.1.1)

    pair_at : (k : List ℕ → Place) (p : List ℕ × Expr) → Net 0 (wide k p.1) ≡ target ds p.0 → (y : List ℕ) → (same_name p.0 y ≡ false → k y ≡ target ds y) → with_pair k p y ≡ target ds y
    pair_at k p e y h = split (same_name p.0 y) refl
      where
        split : (b : Bool) → same_name p.0 y ≡ b → cond b (Net 0 (wide k p.1)) (k y) ≡ target ds y
        split true q = e ∙ ap (target ds) (same_text p.0 y (sym q))
        split false q = h q

    or_rest : (a b : Bool) → (a || b) ≡ true → a ≡ false → b ≡ true
    or_rest true b h k = absurd cc
    or_rest false b h k = h

    knows_more : (k : List ℕ → Place) (seen : List (List ℕ)) (p : List ℕ × Expr) → Knows k seen → Net 0 (wide k p.1) ≡ target ds p.0 → Knows (with_pair k p) (p.0 ∷ seen)
    knows_more k seen p h e = (
      λ y q. pair_at k p e y (λ s. h.0 y (or_rest (same_name p.0 y) (is_among y seen) q s)),
      λ y b. pair_at k p e y (λ s. h.1 y b),
    )

    settle : (k : List ℕ → Place) (seen : List (List ℕ)) (order : List ℕ) → Knows k seen → AreReady m seen order
        → OrderedPairs k (drives_by m.items order) × Knows (with_pairs k (drives_by m.items order)) (driven_by m.items seen order)
    settle k seen [] h r = (tt, h)
    settle k seen (n ∷ ns) h r = one (drive_at m.items n) (drives n) r.0 (λ k' seen' h'. settle k' seen' ns h') r.1
      where
        one : (o : Option (List ℕ × Expr)) → IsDrive o → IsReady m seen o
            → ((k' : List ℕ → Place) (seen' : List (List ℕ)) → Knows k' seen' → AreReady m seen' ns
            → OrderedPairs k' (drives_by m.items ns) × Knows (with_pairs k' (drives_by m.items ns)) (driven_by m.items seen' ns))
            → AreReady m (driven_after seen o) ns
            → OrderedPairs k (put o (drives_by m.items ns)) × Knows (with_pairs k (put o (drives_by m.items ns))) (driven_by m.items (driven_after seen o) ns)
        one None d r more rs = more k seen h rs
        one (Some p) d r more rs =
            let a = ready_known k seen p h d.1.0 r in
            let arrays : (y : List ℕ) → IsArray (target ds y) → k y ≡ target ds y = λ y q. h.1 y (array_base (declaration_of ds y) q) in
            let e = wide_when (target ds) k arrays p.1 a d.1.0 in
            let z = more (with_pair k p) (p.0 ∷ seen) (knows_more k seen p h (pair_same k p e d.1)) rs in
            ((fine_when (target ds) k arrays p.1 a d.1.0, z.0), z.1)

    -- the drivers, as they are collected, are in order
    pub drivers_ordered : (k : List ℕ → Place) (order : List ℕ) (all : List WireDriver) → map drive all ≡ drives_by m.items order
        → ((y : List ℕ) → Has base_class (declaration_of ds y) → k y ≡ target ds y) → AreReady m [] order → AreOrdered k all
    drivers_ordered k order all e h r =
        ordered_of k all (subst (OrderedPairs k) (sym e) (settle k [] order ((λ y q. absurd cc), h) r).0)

    -- once they are bound, each name is known
    pub drivers_known : (k : List ℕ → Place) (order : List ℕ) (all : List WireDriver) → map drive all ≡ drives_by m.items order
        → ((y : List ℕ) → Has base_class (declaration_of ds y) → k y ≡ target ds y) → AreReady m [] order
        → ((x : List ℕ) (e : Expr) → source_of m x ≡ Driven e → is_among x (driven_by m.items [] order) ≡ true)
        → (y : List ℕ) → Has base_class (declaration_of ds y) ⊎ Has wire_class (declaration_of ds y) → with_nets k all y ≡ target ds y
    drivers_known k order all e h r complete y c =
        let z = (settle k [] order ((λ y q. absurd cc), h) r).1 in
        let same = nets_of k all ∙ ap (with_pairs k) e in
        ap (λ f. f y) same ∙ elim c [
          | inl b ↦ z.1 y b
          | inr w ↦ let d = driven y w in z.0 y (complete y d.0 d.1)
        ]

    abbrev AllDrive : List (List ℕ × Expr) → Type 0
    AllDrive [] = Unit {0}
    AllDrive (p ∷ ps) = IsDrive (Some p) × AllDrive ps

    put_drive : (o : Option (List ℕ × Expr)) (ps : List (List ℕ × Expr)) → IsDrive o → AllDrive ps → AllDrive (put o ps)
    put_drive None ps d a = a
    put_drive (Some p) ps d a = (d, a)

    all_drive : (order : List ℕ) → AllDrive (drives_by m.items order)
    all_drive [] = tt
    all_drive (n ∷ ns) = put_drive (drive_at m.items n) (drives_by m.items ns) (drives n) (all_drive ns)

    pairs_driven : ◌≡◌ {A = List ℕ → ℕ} (width_among ds) (width_in m) → (all : List WireDriver) → AllDrive (map drive all) → AreDriven m all
    pairs_driven w [] a = tt
    pairs_driven w (d ∷ all) a =
        (a.0.0, (subst (λ f. f d.name.now ≡ width_of f (plain d.value.now)) w a.0.1.1.0, pairs_driven w all a.1))

    -- the module drives them so
    pub drivers_driven : ◌≡◌ {A = List ℕ → ℕ} (width_among ds) (width_in m) → (order : List ℕ) (all : List WireDriver) → map drive all ≡ drives_by m.items order → AreDriven m all
    drivers_driven w order all e = pairs_driven w all (subst AllDrive (sym e) (all_drive order))
