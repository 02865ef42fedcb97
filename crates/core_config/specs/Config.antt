-- What a configuration says, row by row of its table: what it holds, or the first refusal.
use Rattle.std.specs.Prelude.{ℕ, suc, ◌+◌, ◌%◌, ◌≡◌, ◌⊎◌, ℤ, pos, negsuc, Bool, true, false, not, ◌&&◌, ◌||◌, if◌then◌else◌, nat_eq, nat_lt, nat_le, List, [], ◌∷◌, ◌++◌, length, Option, Some, None, Result, Ok, Err, codes}
use Rattle.std.specs.List.{list_all}
use Rattle.std.specs.Str.{is_utf8}
use Rattle.std.specs.Ordering.{nat_cmp, is_lt, match_ordering}
use Rattle.std.specs.Cmp.Lexicographic.{pointwise, slice_cmp}
use Rattle.toml.specs.Data.{Data, string, integer, boolean, array, table, Items, no_items, item, Members, no_members, member, get_member}
use Rattle.toml.specs.Parse.{parse_document}
use Rattle.stage_map.specs.declared.config.Stage.{Stage}
use Rattle.stage_map.specs.declared.config.Stage.TheVariants.{Execute}
use Rattle.stage_map.specs.declared.config.ParamValue.{ParamValue}
use Rattle.stage_map.specs.declared.config.ParamValue.TheVariants.{Num, Flag, Word}
use Rattle.stage_map.specs.declared.config.Param.{Param}
use Rattle.stage_map.specs.declared.config.PlugEntry.{PlugEntry}
use Rattle.stage_map.specs.declared.config.Isa.{Isa}
use Rattle.stage_map.specs.declared.config.Isa.TheVariants.{Claimed, Rv32i, Rv32iZicsr, Rv32iZifencei, Rv32iZicsrZifencei, Rv32im, Rv32imZicsr, Rv32imZifencei, Rv32imZicsrZifencei}
use Rattle.stage_map.specs.declared.config.CoreShape.{CoreShape}
use Rattle.stage_map.specs.declared.config.MemShape.{MemShape}
use Rattle.stage_map.specs.declared.config.Config.{Config}
use Rattle.core_config.specs.declared.refusal.Want.TheVariants.{Integer, Text as AText, Table, Tables, Scalar, NoKey}
use Rattle.core_config.specs.declared.refusal.KeyPath.{KeyPath}
use Rattle.core_config.specs.declared.refusal.ConfigRefusal.{ConfigRefusal}
use Rattle.core_config.specs.declared.refusal.ConfigRefusal.TheVariants.{TooLong, Text, Shape, Range, NoMemory}
use Rattle.core_config.specs.declared.numbers.NumberRule.{NumberRule}
use Rattle.core_config.specs.declared.keys.KeySet.{KeySet}
use Rattle.core_config.specs.declared.keys.KeySet.TheVariants.{OfText, OfMemory, OfEntry}

-- the answer is this one, or memory is wanting
abbrev pub IsAnswer : {A : Type 0} → Result A ConfigRefusal → Result A ConfigRefusal → Type 0
IsAnswer result p = (result ≡ p) ⊎ (result ≡ Err NoMemory)

-- one row after another: the first refusal stands
abbrev pub then_read : {A B : Type 0} → Result A ConfigRefusal → (A → Result B ConfigRefusal) → Result B ConfigRefusal
then_read (Ok x) next = next x
then_read (Err refusal) next = Err refusal

-- a key of the text or, by its printed name, of `memory`
abbrev pub of_text : List ℕ → KeyPath
of_text key = record { entry = None; key = key }

-- a key of the entry with this number
abbrev pub of_entry : ℕ → List ℕ → KeyPath
of_entry number key = record { entry = Some number; key = key }

abbrev pub is_text : List ℕ → List ℕ → Bool
is_text s t = pointwise nat_eq s t

-- ---- integers

-- a number is within the bounds of a rule, and a multiple of its step
abbrev pub is_allowed : NumberRule → ℕ → Bool
is_allowed rule n = (nat_le rule.low n && nat_le n rule.high) && nat_eq (n % rule.step) 0

abbrev pub number_within : List ℕ → NumberRule → ℤ → Result ℕ ConfigRefusal
number_within key rule (pos n) = if is_allowed rule n then Ok n else Err (Range (of_text key) (Num (pos n)))
number_within key rule (negsuc n) = Err (Range (of_text key) (Num (negsuc n)))

-- the number of a key, by the value that it has
abbrev pub number_of : List ℕ → NumberRule → Option Data → Result ℕ ConfigRefusal
number_of key rule None = Ok rule.default
number_of key rule (Some (integer z)) = number_within key rule z
number_of key rule (Some _) = Err (Shape (of_text key) Integer)

-- an address: a multiple of 4 below 2 ^ 32, or else 0x80000000
abbrev pub address_rule : NumberRule
address_rule = record { default = 2147483648; low = 0; high = 4294967292; step = 4 }

-- `schema`: 1 alone
abbrev pub schema_of : Members → Result ℕ ConfigRefusal
schema_of ms = number_of (codes "schema") (record { default = 1; low = 1; high = 1; step = 1 }) (get_member (codes "schema") ms)

-- `reset_pc`
abbrev pub reset_pc_of : Members → Result ℕ ConfigRefusal
reset_pc_of ms = number_of (codes "reset_pc") address_rule (get_member (codes "reset_pc") ms)

-- `stages`: 2 to 4, or else 4
abbrev pub stages_of : Members → Result ℕ ConfigRefusal
stages_of ms = number_of (codes "stages") (record { default = 4; low = 2; high = 4; step = 1 }) (get_member (codes "stages") ms)

-- ---- texts

-- the instruction set of a name: `claimed`, or `rv32i` or `rv32im`, then nothing, `_zicsr`, `_zifencei` or `_zicsr_zifencei`
abbrev pub isa_named : List ℕ → Option Isa
isa_named s = if is_text s (codes "claimed") then Some Claimed
    else if is_text s (codes "rv32i") then Some Rv32i
    else if is_text s (codes "rv32i_zicsr") then Some Rv32iZicsr
    else if is_text s (codes "rv32i_zifencei") then Some Rv32iZifencei
    else if is_text s (codes "rv32i_zicsr_zifencei") then Some Rv32iZicsrZifencei
    else if is_text s (codes "rv32im") then Some Rv32im
    else if is_text s (codes "rv32im_zicsr") then Some Rv32imZicsr
    else if is_text s (codes "rv32im_zifencei") then Some Rv32imZifencei
    else if is_text s (codes "rv32im_zicsr_zifencei") then Some Rv32imZicsrZifencei
    else None

-- what a text names, or else the text is outside
abbrev pub named : {A : Type 0} → KeyPath → List ℕ → Option A → Result A ConfigRefusal
named key s (Some x) = Ok x
named key s None = Err (Range key (Word s))

abbrev pub isa_of_value : Option Data → Result Isa ConfigRefusal
isa_of_value None = Ok Claimed
isa_of_value (Some (string s)) = named (of_text (codes "isa")) s (isa_named s)
isa_of_value (Some _) = Err (Shape (of_text (codes "isa")) AText)

-- `isa`, or else what the entries claim
abbrev pub isa_of : Members → Result Isa ConfigRefusal
isa_of ms = isa_of_value (get_member (codes "isa") ms)

abbrev pub stage_named : List ℕ → Option Stage
stage_named s = if is_text s (codes "execute") then Some Execute else None

abbrev pub commit_of_value : Option Data → Result Stage ConfigRefusal
commit_of_value None = Ok Execute
commit_of_value (Some (string s)) = named (of_text (codes "commit")) s (stage_named s)
commit_of_value (Some _) = Err (Shape (of_text (codes "commit")) AText)

-- `commit`: `execute` alone
abbrev pub commit_of : Members → Result Stage ConfigRefusal
commit_of ms = commit_of_value (get_member (codes "commit") ms)

-- the core's shape: `isa`, `reset_pc`, `stages`, `commit`
abbrev pub shape_of : Members → Result CoreShape ConfigRefusal
shape_of ms = then_read (isa_of ms) (λ isa. then_read (reset_pc_of ms) (λ reset_pc. then_read (stages_of ms) (λ stages.
    then_read (commit_of ms) (λ commit. Ok (record { isa = isa; reset_pc = reset_pc; stages = stages; commit = commit })))))

-- ---- memory

-- a table that may be absent, and then is empty
abbrev pub or_empty : Option Members → Members
or_empty None = no_members
or_empty (Some ms) = ms

abbrev pub memory_of_value : Option Data → Result Members ConfigRefusal
memory_of_value None = Ok no_members
memory_of_value (Some (table ms)) = Ok ms
memory_of_value (Some _) = Err (Shape (of_text (codes "memory")) Table)

-- `memory`: a table, or else empty
abbrev pub memory_of : Members → Result Members ConfigRefusal
memory_of ms = memory_of_value (get_member (codes "memory") ms)

-- `memory.base`, by the table `memory`
abbrev pub base_of : Members → Result ℕ ConfigRefusal
base_of memory = number_of (codes "memory.base") address_rule (get_member (codes "base") memory)

-- memory ends at 2 ^ 32 at the latest, and has no byte from 0xF0000000 to 0xF000000F
abbrev pub has_room : ℕ → ℕ → Bool
has_room base size = nat_le (base + size) 4294967296 && (nat_le (base + size) 4026531840 || nat_le 4026531856 base)

abbrev pub size_at : ℕ → ℕ → Result ℕ ConfigRefusal
size_at base size = if has_room base size then Ok size else Err (Range (of_text (codes "memory.size")) (Num (pos size)))

-- `memory.size`, by the table `memory` and the base: 4 to 16777216, a multiple of 4, or else 65536
abbrev pub size_of : Members → ℕ → Result ℕ ConfigRefusal
size_of memory base = then_read
    (number_of (codes "memory.size") (record { default = 65536; low = 4; high = 16777216; step = 4 }) (get_member (codes "size") memory))
    (size_at base)

-- the memory's shape: the base, and then the size
abbrev pub mem_of : Members → Result MemShape ConfigRefusal
mem_of memory = then_read (base_of memory) (λ base. then_read (size_of memory base) (λ size. Ok (record { base = base; size = size })))

-- ---- keys that are refused

-- one of the keys of the text
abbrev pub is_text_key : List ℕ → Bool
is_text_key k = is_text k (codes "schema") || is_text k (codes "isa") || is_text k (codes "reset_pc") || is_text k (codes "stages")
    || is_text k (codes "commit") || is_text k (codes "memory") || is_text k (codes "plugin")

-- one of the keys of `memory`
abbrev pub is_memory_key : List ℕ → Bool
is_memory_key k = is_text k (codes "base") || is_text k (codes "size")

-- an integer, a boolean or a text, as a parameter
abbrev pub scalar : Data → Option ParamValue
scalar (integer z) = Some (Num z)
scalar (boolean b) = Some (Flag b)
scalar (string s) = Some (Word s)
scalar _ = None

abbrev pub is_scalar : Data → Bool
is_scalar (integer z) = true
is_scalar (boolean b) = true
is_scalar (string s) = true
is_scalar _ = false

-- a key is refused: one that is not known or, in an entry, one but `kind` that has no scalar
abbrev pub is_refused : KeySet → List ℕ → Data → Bool
is_refused OfText k d = not (is_text_key k)
is_refused OfMemory k d = not (is_memory_key k)
is_refused OfEntry k d = not (is_text k (codes "kind")) && not (is_scalar d)

-- the lesser of two keys, in the order of bytes
abbrev pub lesser : List ℕ → Option (List ℕ) → List ℕ
lesser k None = k
lesser k (Some l) = if is_lt (slice_cmp nat_cmp l k) then l else k

-- the least key that is refused, in the order of bytes
abbrev pub least_refused : KeySet → Members → Option (List ℕ)
least_refused set no_members = None
least_refused set (member k d ms) = if is_refused set k d then Some (lesser k (least_refused set ms)) else least_refused set ms

-- ---- entries

-- the items are tables
abbrev pub is_table : Data → Bool
is_table (table ms) = true
is_table _ = false

abbrev pub are_tables : Items → Bool
are_tables no_items = true
are_tables (item d more) = is_table d && are_tables more

abbrev pub count_of : Items → ℕ
count_of no_items = 0
count_of (item d more) = suc (count_of more)

-- tables, and at most 32
abbrev pub tables_within : Items → Result Items ConfigRefusal
tables_within items = if are_tables items
    then (if nat_le (count_of items) 32 then Ok items else Err (Range (of_text (codes "plugin")) (Num (pos (count_of items)))))
    else Err (Shape (of_text (codes "plugin")) Tables)

abbrev pub plugin_of_value : Option Data → Result Items ConfigRefusal
plugin_of_value None = Ok no_items
plugin_of_value (Some (array items)) = tables_within items
plugin_of_value (Some _) = Err (Shape (of_text (codes "plugin")) Tables)

-- `plugin`: an array of at most 32 tables, or else none
abbrev pub plugin_of : Members → Result Items ConfigRefusal
plugin_of ms = plugin_of_value (get_member (codes "plugin") ms)

-- a byte of `a` to `z`, `0` to `9`, or `_`
abbrev pub is_kind_byte : ℕ → Bool
is_kind_byte b = (nat_le 97 b && nat_le b 122) || (nat_le 48 b && nat_le b 57) || nat_eq b 95

-- 1 to 32 of those bytes
abbrev pub is_kind : List ℕ → Bool
is_kind s = (nat_le 1 (length s) && nat_le (length s) 32) && list_all is_kind_byte s

abbrev pub kind_of_value : ℕ → Option Data → Result (List ℕ) ConfigRefusal
kind_of_value number (Some (string s)) = if is_kind s then Ok s else Err (Range (of_entry number (codes "kind")) (Word s))
kind_of_value number _ = Err (Shape (of_entry number (codes "kind")) AText)

-- `kind` of an entry
abbrev pub kind_of : ℕ → Members → Result (List ℕ) ConfigRefusal
kind_of number ms = kind_of_value number (get_member (codes "kind") ms)

-- a parameter among others, in the order of the bytes of their keys
abbrev pub add_param : Param → List Param → List Param
add_param p [] = p ∷ []
add_param p (q ∷ qs) = match_ordering (slice_cmp nat_cmp p.key q.key) (p ∷ q ∷ qs) (p ∷ qs) (q ∷ add_param p qs)

abbrev pub with_scalar : List ℕ → Option ParamValue → List Param → List Param
with_scalar k None ps = ps
with_scalar k (Some v) ps = add_param (record { key = k; value = v }) ps

-- the parameters of an entry: its scalars but `kind`, in the order of the bytes of their keys
abbrev pub params_of : Members → List Param
params_of no_members = []
params_of (member k d ms) = if is_text k (codes "kind") then params_of ms else with_scalar k (scalar d) (params_of ms)

-- an entry, unless a key of it is refused
abbrev pub entry_unless : ℕ → List ℕ → List Param → Option (List ℕ) → Result PlugEntry ConfigRefusal
entry_unless number kind params None = Ok (record { kind = kind; params = params })
entry_unless number kind params (Some key) = Err (Shape (of_entry number key) Scalar)

-- the entry with this number: its kind, and then its other keys
abbrev pub entry_of : ℕ → Members → Result PlugEntry ConfigRefusal
entry_of number ms = then_read (kind_of number ms) (λ kind. entry_unless number kind (params_of ms) (least_refused OfEntry ms))

abbrev pub item_of : ℕ → Data → Result PlugEntry ConfigRefusal
item_of number (table ms) = entry_of number ms
item_of number _ = Err (Shape (of_text (codes "plugin")) Tables)

-- the entries in order, from this number on
abbrev pub entries_of : ℕ → Items → Result (List PlugEntry) ConfigRefusal
entries_of number no_items = Ok []
entries_of number (item d more) = then_read (item_of number d) (λ entry.
    then_read (entries_of (number + 1) more) (λ entries. Ok (entry ∷ entries)))

-- `plugin`, and then the entries
abbrev pub plugs_of : Members → Result (List PlugEntry) ConfigRefusal
plugs_of ms = then_read (plugin_of ms) (entries_of 0)

-- ---- the whole

-- no key of the text and then none of `memory` is refused
abbrev pub unless_refused : Option (List ℕ) → Option (List ℕ) → Result (Unit {0}) ConfigRefusal
unless_refused (Some key) memory_key = Err (Shape (of_text key) NoKey)
unless_refused None (Some key) = Err (Shape (of_text (codes "memory." ++ key)) NoKey)
unless_refused None None = Ok tt

-- other keys: the least of the text, and then of `memory`
abbrev pub others_of : Members → Members → Result (Unit {0}) ConfigRefusal
others_of ms memory = unless_refused (least_refused OfText ms) (least_refused OfMemory memory)

-- what a table says
abbrev pub config_of_table : Members → Result Config ConfigRefusal
config_of_table ms =
    then_read (schema_of ms) (λ schema.
    then_read (shape_of ms) (λ shape.
    then_read (memory_of ms) (λ memory.
    then_read (mem_of memory) (λ mem.
    then_read (plugs_of ms) (λ entries.
    then_read (others_of ms memory) (λ none.
    Ok (record { shape = shape; mem = mem; entries = entries })))))))

-- what a document says
abbrev pub config_of_document : Option Members → Result Config ConfigRefusal
config_of_document None = Err Text
config_of_document (Some ms) = config_of_table ms

-- what the bytes say: they are few enough, UTF-8, and a document
unfoldable pub config_of : List ℕ → Result Config ConfigRefusal
config_of bytes = if nat_lt 1048576 (length bytes) then Err (TooLong (length bytes))
    else (if is_utf8 bytes then config_of_document (parse_document bytes) else Err Text)
