-- What each kind says of itself is what a plug-in may say.
use Rattle.std.proofs.Common.{◌≡◌, ℕ, zero, suc, ◌<◌, ◌≤◌, ◌⊎◌, List, [], ◌∷◌, length, get_or, map, Bool, true, false, not, ◌&&◌, ◌||◌, leb, ltb, refl, inl, inr, sym, ap, subst, arith}
use Rattle.std.proofs.lemmas.Bool.{cases_Bool, leb-true, ltb-true}
use Rattle.std.proofs.lemmas.List.{get_or-map, length-map}
use Rattle.std.proofs.lemmas.List.Folds.{list_all_at}
use Rattle.std.specs.List.{list_all}
use Rattle.isa_table.specs.Rows.{table, lui}
use Rattle.isa_table.specs.declared.row.Group.{Group}
use Rattle.isa_table.specs.declared.row.Group.TheVariants as group
use Rattle.stage_map.specs.declared.config.Param.{Param}
use Rattle.service_reg.specs.declared.service.Service.{Service}
use Rattle.service_reg.specs.declared.service.Service.TheVariants as service
use Rattle.service_reg.specs.Services.{number}
use Rattle.plug_api.specs.declared.spec.PlugSpec.{PlugSpec}
use Rattle.plug_api.specs.Spec.{IsSpec, IsOfTable, IsOfBus, is_among, has_place, is_commit, no_claim}
use Rattle.plug_kinds.specs.declared.kind.Kind.{Kind}
use Rattle.plug_kinds.specs.declared.kind.Kind.TheVariants.{Fetch, Icache, Predict, Fencei, Decoder, Regfile, Hazard, Alu, ShiftLight, ShiftBarrel, Muldiv, Branch, Dbus, Csr}
use Rattle.plug_kinds.specs.Kinds.{KindRow, row_of, claim_of, spec_of}

-- ---- tests that compute

abbrev is_rising : List ℕ → Bool
is_rising [] = true
is_rising (x ∷ xs) = list_all (λ y. ltb x y) xs && is_rising xs

abbrev is_bus : Group → Bool
is_bus group.Alu = false
is_bus group.Branch = false
is_bus group.Load = true
is_bus group.Store = true
is_bus group.Shift = false
is_bus group.Fence = false
is_bus group.System = false
is_bus group.MulDiv = false

abbrev is_bus_row : ℕ → Bool
is_bus_row row = is_bus (get_or table row lui).group

record IsRight (r : KindRow) : Type 0 where
  fixed : leb r.fixed 65535 ≡ true
  per_row : leb r.per_row 255 ≡ true
  few : leb (length r.rows) 64 ≡ true
  known : list_all (λ n. ltb n 57) r.rows ≡ true
  rising : is_rising r.rows ≡ true
  offers : is_rising (map number r.offers) ≡ true
  executes : is_among r.offers service.Exec ≡ has_place r.place
  units : (leb (length r.rows) 0 || is_among r.offers service.Exec) ≡ true
  loads : list_all (λ n. not (is_bus_row n) || is_among r.offers service.DataBus) r.rows ≡ true
  system : list_all (λ n. ltb n 49 || is_among r.offers service.System) r.rows ≡ true
  commits : (not (is_among r.offers service.DataBus || is_among r.offers service.System) || is_commit r.place) ≡ true

is_right : (k : Kind) → IsRight (row_of k)
is_right Fetch = record { fixed = refl; per_row = refl; few = refl; known = refl; rising = refl; offers = refl; executes = refl; units = refl; loads = refl; system = refl; commits = refl }
is_right Icache = record { fixed = refl; per_row = refl; few = refl; known = refl; rising = refl; offers = refl; executes = refl; units = refl; loads = refl; system = refl; commits = refl }
is_right Predict = record { fixed = refl; per_row = refl; few = refl; known = refl; rising = refl; offers = refl; executes = refl; units = refl; loads = refl; system = refl; commits = refl }
is_right Fencei = record { fixed = refl; per_row = refl; few = refl; known = refl; rising = refl; offers = refl; executes = refl; units = refl; loads = refl; system = refl; commits = refl }
is_right Decoder = record { fixed = refl; per_row = refl; few = refl; known = refl; rising = refl; offers = refl; executes = refl; units = refl; loads = refl; system = refl; commits = refl }
is_right Regfile = record { fixed = refl; per_row = refl; few = refl; known = refl; rising = refl; offers = refl; executes = refl; units = refl; loads = refl; system = refl; commits = refl }
is_right Hazard = record { fixed = refl; per_row = refl; few = refl; known = refl; rising = refl; offers = refl; executes = refl; units = refl; loads = refl; system = refl; commits = refl }
is_right Alu = record { fixed = refl; per_row = refl; few = refl; known = refl; rising = refl; offers = refl; executes = refl; units = refl; loads = refl; system = refl; commits = refl }
is_right ShiftLight = record { fixed = refl; per_row = refl; few = refl; known = refl; rising = refl; offers = refl; executes = refl; units = refl; loads = refl; system = refl; commits = refl }
is_right ShiftBarrel = record { fixed = refl; per_row = refl; few = refl; known = refl; rising = refl; offers = refl; executes = refl; units = refl; loads = refl; system = refl; commits = refl }
is_right Muldiv = record { fixed = refl; per_row = refl; few = refl; known = refl; rising = refl; offers = refl; executes = refl; units = refl; loads = refl; system = refl; commits = refl }
is_right Branch = record { fixed = refl; per_row = refl; few = refl; known = refl; rising = refl; offers = refl; executes = refl; units = refl; loads = refl; system = refl; commits = refl }
is_right Dbus = record { fixed = refl; per_row = refl; few = refl; known = refl; rising = refl; offers = refl; executes = refl; units = refl; loads = refl; system = refl; commits = refl }
is_right Csr = record { fixed = refl; per_row = refl; few = refl; known = refl; rising = refl; offers = refl; executes = refl; units = refl; loads = refl; system = refl; commits = refl }

-- ---- from a test to what it says

all_at : (p : ℕ → Bool) (xs : List ℕ) → list_all p xs ≡ true → (i : ℕ) → i < length xs → p (get_or xs i 0) ≡ true
all_at p xs h i there = elim (cases_Bool (p (get_or xs i 0))) [
  | inl t ↦ t
  | inr f ↦ grind (arith, list_all_at p xs i 0 there f)
]

and_first : (a b : Bool) → (a && b) ≡ true → a ≡ true
and_first true b e = refl
and_first false b e = e

and_second : (a b : Bool) → (a && b) ≡ true → b ≡ true
and_second true b e = e
and_second false b e = grind arith

rises : (xs : List ℕ) → is_rising xs ≡ true → (j k : ℕ) → j < k → k < length xs → get_or xs j 0 < get_or xs k 0
rises [] h j k less there = grind arith
rises (x ∷ xs) h zero (suc k) less there = ltb-true _ _ (all_at (λ y. ltb x y) xs (and_first _ _ h) k (omega arith))
rises (x ∷ xs) h (suc j) (suc k) less there = rises xs (and_second _ _ h) j k (omega arith) (omega arith)
rises (x ∷ xs) h j zero less there = grind arith

-- the claim at a place of the list
claim_at : (rows : List ℕ) (k : ℕ) → k < length (map claim_of rows) → get_or (map claim_of rows) k no_claim ≡ claim_of (get_or rows k 0)
claim_at rows k there = get_or-map claim_of rows k 0 no_claim (subst (λ n. k < n) (length-map rows claim_of) there)

within_rows : (rows : List ℕ) (k : ℕ) → k < length (map claim_of rows) → k < length rows
within_rows rows k there = subst (λ n. k < n) (length-map rows claim_of) there

row_at : (rows : List ℕ) (k : ℕ) → k < length (map claim_of rows) → (get_or (map claim_of rows) k no_claim).row ≡ get_or rows k 0
row_at rows k there = ap (λ c. c.row) (claim_at rows k there)

bus_test : (g : Group) → (g ≡ group.Load) ⊎ (g ≡ group.Store) → is_bus g ≡ true
bus_test g (inl e) = ap is_bus e
bus_test g (inr e) = ap is_bus e

implies : (a b : Bool) → (not a || b) ≡ true → a ≡ true → b ≡ true
implies true b h e = h
implies false b h e = grind arith

or_else : (a b : Bool) → (a || b) ≡ true → a ≡ false → b ≡ true
or_else true b h e = grind arith
or_else false b h e = h

not_none : (n k : ℕ) → k < n → leb n 0 ≡ false
not_none n k h = grind arith

at_least : (n : ℕ) → 49 ≤ n → ltb n 49 ≡ false
at_least n h = grind arith

-- a list of services that rise has none twice
offered_once : (xs : List Service) → is_rising (map number xs) ≡ true → (j k : ℕ) → j < k → k < length xs
    → get_or xs j service.Fetch ≡ get_or xs k service.Fetch → ⊥
offered_once xs h j k less there e =
    let count : k < length (map number xs) = subst (λ n. k < n) (sym (length-map xs number)) there in
    let rise : get_or (map number xs) j 0 < get_or (map number xs) k 0 = rises (map number xs) h j k less count in
    let first : get_or (map number xs) j 0 ≡ number (get_or xs j service.Fetch) = get_or-map number xs j service.Fetch 0 (omega arith) in
    let second : get_or (map number xs) k 0 ≡ number (get_or xs k service.Fetch) = get_or-map number xs k service.Fetch 0 there in
    let same : number (get_or xs j service.Fetch) ≡ number (get_or xs k service.Fetch) = ap number e in
    omega arith

pub rows_known : (k : Kind) (i : ℕ) → i < length (row_of k).rows → get_or (row_of k).rows i 0 < 57
rows_known k i there = ltb-true _ _ (all_at (λ n. ltb n 57) (row_of k).rows (is_right k).known i there)

pub fits : (k : Kind) (ps : List Param) → IsSpec (spec_of k ps)
fits k ps = record {
  fixed = leb-true _ _ (is_right k).fixed;
  per_row = leb-true _ _ (is_right k).per_row;
  few_rows = subst (λ n. n ≤ 64) (sym (length-map (row_of k).rows claim_of)) (leb-true _ _ (is_right k).few);
  few_keys = omega arith;
  in_table = λ i there. subst IsOfTable (sym (claim_at (row_of k).rows i there))
      (record { known = rows_known k i (within_rows (row_of k).rows i there); mask = refl; value = refl });
  rows_differ = λ i j less there e.
      let rise : get_or (row_of k).rows i 0 < get_or (row_of k).rows j 0 = rises (row_of k).rows (is_right k).rising i j less (within_rows (row_of k).rows j there) in
      let first : _ = row_at (row_of k).rows i (omega arith) in
      let second : _ = row_at (row_of k).rows j there in
      omega arith;
  offers_differ = offered_once (row_of k).offers (is_right k).offers;
  executes = (is_right k).executes;
  units = λ i there. or_else _ _ (is_right k).units (not_none _ i (within_rows (row_of k).rows i there));
  loads = λ i there bus. implies _ _ (all_at (λ n. not (is_bus_row n) || is_among (row_of k).offers service.DataBus) (row_of k).rows (is_right k).loads i (within_rows (row_of k).rows i there))
      (bus_test _ (subst IsOfBus (row_at (row_of k).rows i there) bus));
  system = λ i there least. or_else _ _ (all_at (λ n. ltb n 49 || is_among (row_of k).offers service.System) (row_of k).rows (is_right k).system i (within_rows (row_of k).rows i there))
      (at_least _ (subst (λ n. 49 ≤ n) (row_at (row_of k).rows i there) least));
  commits = λ e. implies _ _ (is_right k).commits e;
}

pub said : (k : Kind) (ps : List Param) (s : PlugSpec) → s ≡ spec_of k ps → IsSpec s
said k ps s e = subst IsSpec (sym e) (fits k ps)
