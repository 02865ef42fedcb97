-- The entries and their parameters, one at a time.
use Rattle.std.proofs.Common.{◌≡◌, ◌<◌, ◌≤◌, ◌+◌, ◌⊎◌, inl, inr, ℕ, suc, ℤ, pos, nat_le, le-leb, arith, nat_cmp, List, [], ◌∷◌, ◌++◌, length, codes, get_or, drop, Option, Some, None, String, Global, string_bytes, Bool, true, false, ◌&&◌, Less, Result, Ok, Err, if◌then◌else◌, refl, ap, sym, subst, ◌∙◌}
use Rattle.std.specs.Cmp.Lexicographic.{slice_cmp}
use Rattle.std.specs.List.{AllByRecursion}
use Rattle.std.specs.List.Sorted.{IsStrictlySortedBy}
use Rattle.std.specs.Map.{keys_of}
use Rattle.std.specs.Ordering.{match_ordering}
use Rattle.std.specs.String.{string_cmp}
use Rattle.std.proofs.lemmas.Bool.Decides.{nat_tests}
use Rattle.toml.specs.Data.{Items, Members, no_members, member}
use Rattle.toml.specs.View.{view, members_view, items_view}
use Rattle.toml.specs.declared.value.Value.{Value}
use Rattle.toml.proofs.Views.{Entry, items_view-drop}
use Rattle.stage_map.specs.declared.config.ParamValue.{ParamValue}
use Rattle.stage_map.specs.declared.config.ParamValue.TheVariants.{Num}
use Rattle.stage_map.specs.declared.config.Param.{Param}
use Rattle.stage_map.specs.declared.config.PlugEntry.{PlugEntry}
use Rattle.core_config.specs.declared.refusal.ConfigRefusal.{ConfigRefusal}
use Rattle.core_config.specs.declared.refusal.ConfigRefusal.TheVariants.{Shape, Range, NoMemory}
use Rattle.core_config.specs.declared.refusal.Want.TheVariants.{Tables}
use Rattle.core_config.specs.Config.{IsAnswer, of_text, tables_within, count_of, then_read, is_text, scalar, params_of, with_scalar, add_param, is_table, are_tables, item_of, entries_of}
use Rattle.core_config.proofs.Answered.{entry_read, entry_refused}

abbrev pub kind_name : List ℕ
kind_name = codes "kind"

-- a parameter before others
abbrev pub before_others : List ℕ → Option ParamValue → List Param → List Param
before_others k None ps = ps
before_others k (Some v) ps = (record { key = k; value = v }) ∷ ps

-- the parameters in the order of the table
abbrev pub scalars : Members → List Param
scalars no_members = []
scalars (member k d ms) = if is_text k kind_name then scalars ms else before_others k (scalar d) (scalars ms)

-- a key comes before the first parameter
abbrev IsBefore : List ℕ → List Param → Type 0
IsBefore k [] = Unit {0}
IsBefore k (p ∷ ps) = slice_cmp nat_cmp k p.key ≡ Less

IsBefore-others : (k l : List ℕ) (v : Option ParamValue) (ps : List Param) → IsBefore k ps → slice_cmp nat_cmp k l ≡ Less → IsBefore k (before_others l v ps)
IsBefore-others k l None ps more here = more
IsBefore-others k l (Some v) ps more here = here

IsBefore-step : (t : Bool) (k l : List ℕ) (v : Option ParamValue) (ps : List Param) → IsBefore k ps → slice_cmp nat_cmp k l ≡ Less
    → IsBefore k (if t then ps else before_others l v ps)
IsBefore-step true k l v ps more here = more
IsBefore-step false k l v ps more here = IsBefore-others k l v ps more here

IsBefore-scalars : (k : String Global) (es : List Entry) → AllByRecursion (λ y. string_cmp k y ≡ Less) (keys_of es)
    → IsBefore (string_bytes k) (scalars (members_view es))
IsBefore-scalars k [] h = tt
IsBefore-scalars k (e ∷ es) h =
    IsBefore-step (is_text (string_bytes e.0) kind_name) (string_bytes k) (string_bytes e.0) (scalar (view e.1)) (scalars (members_view es)) (IsBefore-scalars k es h.1) h.0

add_param-first : (p : Param) (ps : List Param) → IsBefore p.key ps → add_param p ps ≡ p ∷ ps
add_param-first p [] h = refl
add_param-first p (q ∷ qs) h = ap (λ o. match_ordering o (p ∷ q ∷ qs) (p ∷ qs) (q ∷ add_param p qs)) h

with_scalar-first : (k : List ℕ) (v : Option ParamValue) (ps : List Param) → IsBefore k ps → with_scalar k v ps ≡ before_others k v ps
with_scalar-first k None ps h = refl
with_scalar-first k (Some v) ps h = add_param-first (record { key = k; value = v }) ps h

params_step : (t : Bool) (k : List ℕ) (v : Option ParamValue) (a b : List Param) → a ≡ b → IsBefore k b
    → (if t then a else with_scalar k v a) ≡ (if t then b else before_others k v b)
params_step true k v a b e h = e
params_step false k v a b e h = ap (with_scalar k v) e ∙ with_scalar-first k v b h

-- where the keys ascend, the parameters are in the order of the table
pub params_of-sorted : (es : List Entry) → IsStrictlySortedBy string_cmp (keys_of es) → params_of (members_view es) ≡ scalars (members_view es)
unfolding IsStrictlySortedBy
params_of-sorted [] h = refl
params_of-sorted (e ∷ es) h =
    params_step (is_text (string_bytes e.0) kind_name) (string_bytes e.0) (scalar (view e.1)) (params_of (members_view es)) (scalars (members_view es)) (params_of-sorted es h.1) (IsBefore-scalars e.0 es h.0)

-- an entry of the table: `kind`, one with no scalar, or a parameter
pub scalars-kind : (e : Entry) (es : List Entry) → is_text (string_bytes e.0) kind_name ≡ true → scalars (members_view (e ∷ es)) ≡ scalars (members_view es)
scalars-kind e es h = ap (λ b. if b then scalars (members_view es) else before_others (string_bytes e.0) (scalar (view e.1)) (scalars (members_view es))) h

pub scalars-other : (e : Entry) (es : List Entry) (v : Option ParamValue) → is_text (string_bytes e.0) kind_name ≡ false → scalar (view e.1) ≡ v
    → scalars (members_view (e ∷ es)) ≡ before_others (string_bytes e.0) v (scalars (members_view es))
scalars-other e es v h w =
    ap (λ b. if b then scalars (members_view es) else before_others (string_bytes e.0) (scalar (view e.1)) (scalars (members_view es))) h
    ∙ ap (λ o. before_others (string_bytes e.0) o (scalars (members_view es))) w

-- the items from a place on
pub are_tables-drop : (vs : List Value) (i : ℕ) (v : Value) (t : Bool) → i < length vs → is_table (view (get_or vs i v)) ≡ t
    → are_tables (items_view (drop i vs)) ≡ (t && are_tables (items_view (drop (i + 1) vs)))
are_tables-drop vs i v t h e = ap are_tables (items_view-drop vs i v h) ∙ ap (λ b. b && are_tables (items_view (drop (i + 1) vs))) e

pub entries_of-read : (whole : Result (List PlugEntry) ConfigRefusal) (vs : List Value) (i : ℕ) (v : Value) (done : List PlugEntry) (entry : PlugEntry)
    → i < length vs → item_of i (view (get_or vs i v)) ≡ Ok entry
    → whole ≡ then_read (entries_of i (items_view (drop i vs))) (λ rest. Ok (done ++ rest))
    → whole ≡ then_read (entries_of (i + 1) (items_view (drop (i + 1) vs))) (λ rest. Ok ((done ++ entry ∷ []) ++ rest))
entries_of-read whole vs i v done entry h e w =
    w ∙ ap (λ items. then_read (entries_of i items) (λ rest. Ok (done ++ rest))) (items_view-drop vs i v h)
    ∙ entry_read (item_of i (view (get_or vs i v))) (entries_of (i + 1) (items_view (drop (i + 1) vs))) done entry e

pub entries_of-refused : (whole : Result (List PlugEntry) ConfigRefusal) (vs : List Value) (i : ℕ) (v : Value) (done : List PlugEntry) (refusal : ConfigRefusal)
    → i < length vs → IsAnswer (Err refusal) (item_of i (view (get_or vs i v)))
    → whole ≡ then_read (entries_of i (items_view (drop i vs))) (λ rest. Ok (done ++ rest))
    → IsAnswer (Err refusal) whole
entries_of-refused whole vs i v done refusal h e w =
    let same = w ∙ ap (λ items. then_read (entries_of i items) (λ rest. Ok (done ++ rest))) (items_view-drop vs i v h) in
    subst (λ p. IsAnswer (Err refusal) p) (sym same)
    (entry_refused (item_of i (view (get_or vs i v))) (entries_of (i + 1) (items_view (drop (i + 1) vs))) done refusal e)

pub count_of-view : (vs : List Value) → count_of (items_view vs) ≡ length vs
count_of-view [] = refl
count_of-view (v ∷ vs) = ap suc (count_of-view vs)

many_tables : (t u : Bool) (items : Items) → t ≡ true → u ≡ false
    → (if t then (if u then Ok items else Err (Range (of_text (codes "plugin")) (Num (pos (count_of items))))) else Err (Shape (of_text (codes "plugin")) Tables))
    ≡ Err (Range (of_text (codes "plugin")) (Num (pos (count_of items))))
many_tables true true items h k = cc
many_tables true false items h k = refl
many_tables false u items h k = cc

few_tables : (t u : Bool) (items : Items) → t ≡ true → u ≡ true
    → (if t then (if u then Ok items else Err (Range (of_text (codes "plugin")) (Num (pos (count_of items))))) else Err (Shape (of_text (codes "plugin")) Tables))
    ≡ Ok items
few_tables true true items h k = refl
few_tables true false items h k = cc
few_tables false u items h k = cc

refused : {A B : Type 0} (e f : ConfigRefusal) (p : Result A ConfigRefusal) (next : A → Result B ConfigRefusal) → p ≡ Err f → (e ≡ f) ⊎ (e ≡ NoMemory)
    → IsAnswer {A = B} (Err e) (then_read p next)
refused e f (Ok x) next h k = cc
refused e f (Err g) next h (inl k) = inl cc
refused e f (Err g) next h (inr k) = inr cc

-- more than 32 tables
pub array_many : (vs : List Value) (n : ℕ) (z : ℤ) (refusal : ConfigRefusal) → are_tables (items_view vs) ≡ true → 32 < length vs → n ≡ length vs → z ≡ pos n
    → (refusal ≡ Range (of_text (codes "plugin")) (Num z)) ⊎ (refusal ≡ NoMemory)
    → IsAnswer {A = List PlugEntry} (Err refusal) (then_read (tables_within (items_view vs)) (entries_of 0))
array_many vs n z refusal tables many count signed h =
    let same : z ≡ pos (count_of (items_view vs)) = signed ∙ ap pos (count ∙ sym (count_of-view vs)) in
    let above : 32 < count_of (items_view vs) = subst (λ m. 32 < m) (sym (count_of-view vs)) many in
    let test : nat_le (count_of (items_view vs)) 32 ≡ false = grind (arith, nat_tests) in
    let found = subst (λ y. (refusal ≡ Range (of_text (codes "plugin")) (Num y)) ⊎ (refusal ≡ NoMemory)) same h in
    refused refusal _ (tables_within (items_view vs)) (entries_of 0) (many_tables (are_tables (items_view vs)) (nat_le (count_of (items_view vs)) 32) (items_view vs) tables test) found

-- at most 32 tables
pub array_few : (vs : List Value) (result : Result (List PlugEntry) ConfigRefusal) → are_tables (items_view vs) ≡ true → length vs ≤ 32
    → IsAnswer result (entries_of 0 (items_view vs))
    → IsAnswer result (then_read (tables_within (items_view vs)) (entries_of 0))
array_few vs result tables few h =
    let low : count_of (items_view vs) ≤ 32 = subst (λ m. m ≤ 32) (sym (count_of-view vs)) few in
    let test : nat_le (count_of (items_view vs)) 32 ≡ true = le-leb (count_of (items_view vs)) 32 low in
    let same = few_tables (are_tables (items_view vs)) (nat_le (count_of (items_view vs)) 32) (items_view vs) tables test in
    subst (λ p. IsAnswer result (then_read p (entries_of 0))) (sym same) h
