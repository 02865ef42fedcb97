-- What is read is a configuration that there may be, and the answer is never a lack of memory.
use Rattle.std.proofs.Common.{◌≡◌, ◌≤◌, ◌<◌, ◌+◌, ◌%◌, ◌⊎◌, inl, inr, ℕ, zero, suc, ℤ, pos, negsuc, nat_le, nat_eq, nat_lt, nat_cmp, List, [], ◌∷◌, length, Option, Some, None, Result, Ok, Err, IfOk, Ordering, Less, Equal, Greater, Bool, true, false, ◌&&◌, ◌||◌, if◌then◌else◌, refl, sym, ap, subst, ◌∙◌, arith, codes}
use Rattle.std.specs.List.{All, AllByRecursion, list_all}
use Rattle.std.specs.List.Sorted.{IsStrictlySortedBy}
use Rattle.std.specs.Str.{is_utf8}
use Rattle.std.specs.Cmp.Lexicographic.{slice_cmp}
use Rattle.std.specs.Ordering.{ordering_reverse, match_ordering}
use Rattle.std.proofs.lemmas.Bool.{leb-true, eqb-true, and_parts, or_cases}
use Rattle.std.proofs.lemmas.Cmp.{nat_list_cmp_total}
use Rattle.toml.specs.Data.{Data, string, integer, float, boolean, datetime, array, table, Items, no_items, item, Members, no_members, member, get_member}
use Rattle.toml.specs.Parse.{parse_document}
use Rattle.stage_map.specs.declared.config.Stage.{Stage}
use Rattle.stage_map.specs.declared.config.Stage.TheVariants.{Execute}
use Rattle.stage_map.specs.declared.config.ParamValue.{ParamValue}
use Rattle.stage_map.specs.declared.config.Param.{Param}
use Rattle.stage_map.specs.declared.config.PlugEntry.{PlugEntry}
use Rattle.stage_map.specs.declared.config.CoreShape.{CoreShape}
use Rattle.stage_map.specs.declared.config.MemShape.{MemShape}
use Rattle.stage_map.specs.declared.config.Config.{Config}
use Rattle.core_config.specs.declared.refusal.ConfigRefusal.{ConfigRefusal}
use Rattle.core_config.specs.declared.numbers.NumberRule.{NumberRule}
use Rattle.core_config.specs.declared.keys.KeySet.TheVariants.{OfEntry}
use Rattle.core_config.specs.Allowed.{IsShape, IsMemory, IsKindByte, IsEntry, IsConfig}
use Rattle.core_config.specs.Config.{IsAnswer, then_read, is_text, is_allowed, number_within, number_of, address_rule, schema_of, reset_pc_of, stages_of, isa_of, named, commit_of, commit_of_value, shape_of, memory_of, base_of, has_room, size_at, size_of, mem_of, least_refused, is_kind_byte, is_kind, kind_of, kind_of_value, add_param, with_scalar, scalar, params_of, entry_unless, entry_of, item_of, entries_of, are_tables, count_of, plugin_of, plugin_of_value, plugs_of, others_of, config_of_table, config_of_document, config_of}

-- a row that is read after another
then_read-parts : {A B : Type 0} (p : Result A ConfigRefusal) (next : A → Result B ConfigRefusal) (y : B) → then_read p next ≡ Ok y
    → (x : A) × (p ≡ Ok x) × (next x ≡ Ok y)
then_read-parts (Ok x) next y h = (x, refl, h)
then_read-parts (Err e) next y h = cc

-- a choice that is made
chosen : {A : Type 0} (b : Bool) (x y : A) (e : ConfigRefusal) → (if b then Ok x else Err e) ≡ Ok y → (b ≡ true) × (x ≡ y)
chosen true x y e h = (refl, cc)
chosen false x y e h = cc

-- ---- numbers

within_allowed : (key : List ℕ) (rule : NumberRule) (z : ℤ) (n : ℕ) → number_within key rule z ≡ Ok n → is_allowed rule n ≡ true
within_allowed key rule (pos m) n h =
    let taken = chosen (is_allowed rule m) m n _ h in
    subst (λ k. is_allowed rule k ≡ true) taken.1 taken.0
within_allowed key rule (negsuc m) n h = cc

number_allowed : (key : List ℕ) (rule : NumberRule) (d : Option Data) (n : ℕ) → is_allowed rule rule.default ≡ true → number_of key rule d ≡ Ok n
    → is_allowed rule n ≡ true
number_allowed key rule None n own h =
    let same : rule.default ≡ n = cc in
    subst (λ k. is_allowed rule k ≡ true) same own
number_allowed key rule (Some (integer z)) n own h = within_allowed key rule z n h
number_allowed key rule (Some (string s)) n own h = cc
number_allowed key rule (Some (float x)) n own h = cc
number_allowed key rule (Some (boolean b)) n own h = cc
number_allowed key rule (Some (datetime dt)) n own h = cc
number_allowed key rule (Some (array ds)) n own h = cc
number_allowed key rule (Some (table ms)) n own h = cc

allowed_parts : (rule : NumberRule) (n : ℕ) → is_allowed rule n ≡ true → (rule.low ≤ n) × (n ≤ rule.high) × (n % rule.step ≡ 0)
allowed_parts rule n h =
    let both = and_parts (nat_le rule.low n && nat_le n rule.high) (nat_eq (n % rule.step) 0) h in
    let bounds = and_parts (nat_le rule.low n) (nat_le n rule.high) both.0 in
    (leb-true rule.low n bounds.0, leb-true n rule.high bounds.1, eqb-true (n % rule.step) 0 both.1)

-- ---- the shape

stage_is : (b : Bool) (key : _) (s : List ℕ) (stage : Stage) → named key s (if b then Some Execute else None) ≡ Ok stage → stage ≡ Execute
stage_is true key s stage h = cc
stage_is false key s stage h = cc

commit_is : (d : Option Data) (stage : Stage) → commit_of_value d ≡ Ok stage → stage ≡ Execute
commit_is None stage h = cc
commit_is (Some (string s)) stage h = stage_is (is_text s (codes "execute")) _ s stage h
commit_is (Some (integer z)) stage h = cc
commit_is (Some (float x)) stage h = cc
commit_is (Some (boolean b)) stage h = cc
commit_is (Some (datetime dt)) stage h = cc
commit_is (Some (array ds)) stage h = cc
commit_is (Some (table ms)) stage h = cc

shape_allowed : (ms : Members) (shape : CoreShape) → shape_of ms ≡ Ok shape → IsShape shape
shape_allowed ms shape h =
    let a = then_read-parts (isa_of ms) _ shape h in
    let b = then_read-parts (reset_pc_of ms) _ shape a.2 in
    let c = then_read-parts (stages_of ms) _ shape b.2 in
    let d = then_read-parts (commit_of ms) _ shape c.2 in
    let reset_pc = allowed_parts address_rule b.0 (number_allowed (codes "reset_pc") address_rule (get_member (codes "reset_pc") ms) b.0 refl b.1) in
    let rule : NumberRule = record { default = 4; low = 2; high = 4; step = 1 } in
    let stages = allowed_parts rule c.0 (number_allowed (codes "stages") rule (get_member (codes "stages") ms) c.0 refl c.1) in
    let commit = commit_is (get_member (codes "commit") ms) d.0 d.1 in
    let made : CoreShape = record { isa = a.0; reset_pc = b.0; stages = c.0; commit = d.0 } in
    let same : made ≡ shape = cc in
    let below : b.0 < 4294967296 = omega (arith, reset_pc.1) in
    let own : IsShape made = record { two_or_more = stages.0; four_or_less = stages.1; reset_pc_by_four = reset_pc.2; reset_pc_below = below; commit = commit } in
    subst IsShape same own

-- ---- the memory

room_parts : (base size : ℕ) → has_room base size ≡ true → (base + size ≤ 4294967296) × ((base + size ≤ 4026531840) ⊎ (4026531856 ≤ base))
room_parts base size h =
    let both = and_parts (nat_le (base + size) 4294967296) (nat_le (base + size) 4026531840 || nat_le 4026531856 base) h in
    let apart : (base + size ≤ 4026531840) ⊎ (4026531856 ≤ base)
    = elim (or_cases (nat_le (base + size) 4026531840) (nat_le 4026531856 base) both.1) [ inl t ↦ inl (leb-true (base + size) 4026531840 t) | inr t ↦ inr (leb-true 4026531856 base t) ] in
    (leb-true (base + size) 4294967296 both.0, apart)

mem_allowed : (memory : Members) (mem : MemShape) → mem_of memory ≡ Ok mem → IsMemory mem
mem_allowed memory mem h =
    let a = then_read-parts (base_of memory) _ mem h in
    let b = then_read-parts (size_of memory a.0) _ mem a.2 in
    let rule : NumberRule = record { default = 65536; low = 4; high = 16777216; step = 4 } in
    let c = then_read-parts (number_of (codes "memory.size") rule (get_member (codes "size") memory)) (size_at a.0) b.0 b.1 in
    let base = allowed_parts address_rule a.0 (number_allowed (codes "memory.base") address_rule (get_member (codes "base") memory) a.0 refl a.1) in
    let size = allowed_parts rule c.0 (number_allowed (codes "memory.size") rule (get_member (codes "size") memory) c.0 refl c.1) in
    let taken = chosen (has_room a.0 c.0) c.0 b.0 _ c.2 in
    let room = room_parts a.0 c.0 taken.0 in
    let made : MemShape = record { base = a.0; size = c.0 } in
    let same : made ≡ mem = cc in
    let own : IsMemory made = record { base_by_four = base.2; size_by_four = size.2; four_or_more = size.0; size_at_most = size.1; ends = room.0; apart = room.1 } in
    subst IsMemory same own

-- ---- lists

All-nil : {X : Type 0} (P : X → Type 0) → All P []
All-nil P k d h = absurd (omega (arith, h))

All-cons : {X : Type 0} (P : X → Type 0) (x : X) (xs : List X) → P x → All P xs → All P (x ∷ xs)
All-cons P x xs here more zero d h = here
All-cons P x xs here more (suc k) d h = more k d (omega arith)

-- ---- an entry

kind_byte : (b : ℕ) → is_kind_byte b ≡ true → IsKindByte b
kind_byte b h = by (or_cases ((nat_le 97 b && nat_le b 122) || (nat_le 48 b && nat_le b 57)) (nat_eq b 95) h)
  where
    within : (low high : ℕ) → (nat_le low b && nat_le b high) ≡ true → (low ≤ b) × (b ≤ high)
    within low high t =
        let both = and_parts (nat_le low b) (nat_le b high) t in
        (leb-true low b both.0, leb-true b high both.1)

    letter_or_digit : (((nat_le 97 b && nat_le b 122) ≡ true) ⊎ ((nat_le 48 b && nat_le b 57) ≡ true)) → IsKindByte b
    letter_or_digit (inl t) = inl (within 97 122 t)
    letter_or_digit (inr t) = inr (inl (within 48 57 t))

    by : ((((nat_le 97 b && nat_le b 122) || (nat_le 48 b && nat_le b 57)) ≡ true) ⊎ (nat_eq b 95 ≡ true)) → IsKindByte b
    by (inl t) = letter_or_digit (or_cases (nat_le 97 b && nat_le b 122) (nat_le 48 b && nat_le b 57) t)
    by (inr t) = inr (inr (eqb-true b 95 t))

kind_bytes : (s : List ℕ) → list_all is_kind_byte s ≡ true → All IsKindByte s
kind_bytes [] h = All-nil IsKindByte
kind_bytes (b ∷ bs) h =
    let both = and_parts (is_kind_byte b) (list_all is_kind_byte bs) h in
    All-cons IsKindByte b bs (kind_byte b both.0) (kind_bytes bs both.1)

kind_is : (number : ℕ) (d : Option Data) (kind : List ℕ) → kind_of_value number d ≡ Ok kind → is_kind kind ≡ true
kind_is number None kind h = cc
kind_is number (Some (string s)) kind h =
    let taken = chosen (is_kind s) s kind _ h in
    subst (λ k. is_kind k ≡ true) taken.1 taken.0
kind_is number (Some (integer z)) kind h = cc
kind_is number (Some (float x)) kind h = cc
kind_is number (Some (boolean b)) kind h = cc
kind_is number (Some (datetime dt)) kind h = cc
kind_is number (Some (array ds)) kind h = cc
kind_is number (Some (table ms)) kind h = cc

abbrev by_key : Param → Param → Ordering
by_key p q = slice_cmp nat_cmp p.key q.key

add_param-all : (P : Param → Type 0) (p : Param) (ps : List Param) → P p → AllByRecursion P ps → AllByRecursion P (add_param p ps)
add_param-all P p [] here more = (here, tt)
add_param-all P p (q ∷ qs) here more = by (by_key p q) (add_param-all P p qs here more.1)
  where
    by : (o : Ordering) → AllByRecursion P (add_param p qs) → AllByRecursion P (match_ordering o (p ∷ q ∷ qs) (p ∷ qs) (q ∷ add_param p qs))
    by Less later = (here, more)
    by Equal later = (here, more.1)
    by Greater later = (more.0, later)

all_after : (p q : Param) (qs : List Param) → ((y : Param) → by_key q y ≡ Less → by_key p y ≡ Less)
    → AllByRecursion (λ y. by_key q y ≡ Less) qs → AllByRecursion (λ y. by_key p y ≡ Less) qs
all_after p q [] after h = tt
all_after p q (y ∷ ys) after h = (after y h.0, all_after p q ys after h.1)

abbrev Ascends : List Param → Type 0
Ascends ps = IsStrictlySortedBy by_key ps

-- a parameter more leaves the keys ascending
add_param-ascends : (p : Param) (ps : List Param) → Ascends ps → Ascends (add_param p ps)
unfolding IsStrictlySortedBy
add_param-ascends p [] h = (tt, tt)
add_param-ascends p (q ∷ qs) h = by (by_key p q) refl (add_param-ascends p qs h.1)
  where
    by : (o : Ordering) → by_key p q ≡ o → Ascends (add_param p qs) → Ascends (match_ordering o (p ∷ q ∷ qs) (p ∷ qs) (q ∷ add_param p qs))
    by Less e later = ((e, all_after p q qs (λ y l. nat_list_cmp_total.trans p.key q.key y.key e l) h.0), h)
    by Equal e later = (all_after p q qs (λ y l. nat_list_cmp_total.congr p.key q.key y.key e ∙ l) h.0, h.1)
    by Greater e later =
        let before : by_key q p ≡ Less = nat_list_cmp_total.antisymm q.key p.key ∙ ap ordering_reverse e in
        (add_param-all (λ y. by_key q y ≡ Less) p qs before h.0, later)

with_scalar-ascends : (k : List ℕ) (v : Option ParamValue) (ps : List Param) → Ascends ps → Ascends (with_scalar k v ps)
with_scalar-ascends k None ps h = h
with_scalar-ascends k (Some v) ps h = add_param-ascends (record { key = k; value = v }) ps h

chosen_ascends : (t : Bool) (k : List ℕ) (v : Option ParamValue) (ps : List Param) → Ascends ps → Ascends (if t then ps else with_scalar k v ps)
chosen_ascends true k v ps h = h
chosen_ascends false k v ps h = with_scalar-ascends k v ps h

params_ascend : (ms : Members) → Ascends (params_of ms)
unfolding IsStrictlySortedBy
params_ascend no_members = tt
params_ascend (member k d ms) = chosen_ascends (is_text k (codes "kind")) k (scalar d) (params_of ms) (params_ascend ms)

entry_is : (number : ℕ) (kind : List ℕ) (ps : List Param) (o : Option (List ℕ)) (entry : PlugEntry) → entry_unless number kind ps o ≡ Ok entry
    → Path PlugEntry (record { kind = kind; params = ps }) entry
entry_is number kind ps None entry h = cc
entry_is number kind ps (Some k) entry h = cc

entry_allowed : (number : ℕ) (ms : Members) (entry : PlugEntry) → entry_of number ms ≡ Ok entry → IsEntry entry
entry_allowed number ms entry h =
    let a = then_read-parts (kind_of number ms) _ entry h in
    let kind = kind_is number (get_member (codes "kind") ms) a.0 a.1 in
    let both = and_parts (nat_le 1 (length a.0) && nat_le (length a.0) 32) (list_all is_kind_byte a.0) kind in
    let lengths = and_parts (nat_le 1 (length a.0)) (nat_le (length a.0) 32) both.0 in
    let made : PlugEntry = record { kind = a.0; params = params_of ms } in
    let same : made ≡ entry = entry_is number a.0 (params_of ms) (least_refused OfEntry ms) entry a.2 in
    let own : IsEntry made = record {
      one_or_more = leb-true 1 (length a.0) lengths.0;
      kind_at_most = leb-true (length a.0) 32 lengths.1;
      kind_bytes = kind_bytes a.0 both.1;
      ascending = params_ascend ms;
    } in
    subst IsEntry same own

item_allowed : (number : ℕ) (d : Data) (entry : PlugEntry) → item_of number d ≡ Ok entry → IsEntry entry
item_allowed number (table ms) entry h = entry_allowed number ms entry h
item_allowed number (string s) entry h = cc
item_allowed number (integer z) entry h = cc
item_allowed number (float x) entry h = cc
item_allowed number (boolean b) entry h = cc
item_allowed number (datetime dt) entry h = cc
item_allowed number (array ds) entry h = cc

entries_allowed : (number : ℕ) (items : Items) (entries : List PlugEntry) → entries_of number items ≡ Ok entries
    → (length entries ≡ count_of items) × All IsEntry entries
entries_allowed number no_items entries h =
    let same : [] ≡ entries = cc in
    subst (λ es. (length es ≡ 0) × All IsEntry es) same (refl, All-nil IsEntry)
entries_allowed number (item d more) entries h =
    let a = then_read-parts (item_of number d) _ entries h in
    let b = then_read-parts (entries_of (number + 1) more) _ entries a.2 in
    let here = item_allowed number d a.0 a.1 in
    let rest = entries_allowed (number + 1) more b.0 b.1 in
    let same : a.0 ∷ b.0 ≡ entries = cc in
    subst (λ es. (length es ≡ suc (count_of more)) × All IsEntry es) same (ap suc rest.0, All-cons IsEntry a.0 b.0 here rest.1)

tables_count : (t u : Bool) (items found : Items) (e f : ConfigRefusal) → (if t then (if u then Ok items else Err e) else Err f) ≡ Ok found
    → (u ≡ true) × (items ≡ found)
tables_count true true items found e f h = (refl, cc)
tables_count true false items found e f h = cc
tables_count false u items found e f h = cc

plugin_count : (d : Option Data) (items : Items) → plugin_of_value d ≡ Ok items → count_of items ≤ 32
plugin_count None items h =
    let same : no_items ≡ items = cc in
    subst (λ is. count_of is ≤ 32) same (omega arith)
plugin_count (Some (array is)) items h =
    let found = tables_count (are_tables is) (nat_le (count_of is) 32) is items _ _ h in
    subst (λ is. count_of is ≤ 32) found.1 (leb-true (count_of is) 32 found.0)
plugin_count (Some (string s)) items h = cc
plugin_count (Some (integer z)) items h = cc
plugin_count (Some (float x)) items h = cc
plugin_count (Some (boolean b)) items h = cc
plugin_count (Some (datetime dt)) items h = cc
plugin_count (Some (table ms)) items h = cc

-- ---- the whole

table_allowed : (ms : Members) (config : Config) → config_of_table ms ≡ Ok config → IsConfig config
table_allowed ms config h =
    let a = then_read-parts (schema_of ms) _ config h in
    let b = then_read-parts (shape_of ms) _ config a.2 in
    let c = then_read-parts (memory_of ms) _ config b.2 in
    let d = then_read-parts (mem_of c.0) _ config c.2 in
    let e = then_read-parts (plugs_of ms) _ config d.2 in
    let f = then_read-parts (others_of ms c.0) _ config e.2 in
    let p = then_read-parts (plugin_of ms) (entries_of 0) e.0 e.1 in
    let few = plugin_count (get_member (codes "plugin") ms) p.0 p.1 in
    let entries = entries_allowed 0 p.0 e.0 p.2 in
    let made : Config = record { shape = b.0; mem = d.0; entries = e.0 } in
    let same : made ≡ config = cc in
    let own : IsConfig made = record {
      shape = shape_allowed ms b.0 b.1;
      mem = mem_allowed c.0 d.0 d.1;
      count = omega (arith, few, entries.0);
      entries = entries.1;
    } in
    subst IsConfig same own

document_allowed : (d : Option Members) (config : Config) → config_of_document d ≡ Ok config → IsConfig config
document_allowed None config h = cc
document_allowed (Some ms) config h = table_allowed ms config h

unless_long : {A : Type 0} (b : Bool) (e : ConfigRefusal) (p : Result A ConfigRefusal) (x : A) → (if b then Err e else p) ≡ Ok x → p ≡ Ok x
unless_long true e p x h = cc
unless_long false e p x h = h

where_text : {A : Type 0} (b : Bool) (e : ConfigRefusal) (p : Result A ConfigRefusal) (x : A) → (if b then p else Err e) ≡ Ok x → p ≡ Ok x
where_text true e p x h = h
where_text false e p x h = cc

-- what is read is a configuration that there may be
pub config_of-allowed : (bytes : List ℕ) (config : Config) → config_of bytes ≡ Ok config → IsConfig config
unfolding config_of
config_of-allowed bytes config h =
    document_allowed (parse_document bytes) config (where_text (is_utf8 bytes) _ _ config (unless_long (nat_lt 1048576 (length bytes)) _ _ config h))

-- an answer that is a configuration is one that there may be
pub answer_allowed : (bytes : List ℕ) (result : Result Config ConfigRefusal) → IsAnswer result (config_of bytes) → IfOk result IsConfig
answer_allowed bytes (Ok config) (inl h) = config_of-allowed bytes config (sym h)
answer_allowed bytes (Ok config) (inr h) = cc
answer_allowed bytes (Err e) h = tt
