-- What bytes say is never a lack of memory.
use Rattle.std.proofs.Common.{◌≡◌, ℕ, ℤ, pos, negsuc, nat_le, nat_lt, List, ◌+◌, length, Option, Some, None, Result, Ok, Err, Bool, true, false, if◌then◌else◌, codes}
use Rattle.std.specs.Str.{is_utf8}
use Rattle.toml.specs.Data.{Data, string, integer, float, boolean, datetime, array, table, Items, no_items, item, Members, get_member}
use Rattle.toml.specs.Parse.{parse_document}
use Rattle.stage_map.specs.declared.config.ParamValue.TheVariants.{Num, Word}
use Rattle.stage_map.specs.declared.config.Param.{Param}
use Rattle.core_config.specs.declared.refusal.KeyPath.{KeyPath}
use Rattle.core_config.specs.declared.refusal.ConfigRefusal.{ConfigRefusal}
use Rattle.core_config.specs.declared.refusal.ConfigRefusal.TheVariants.{TooLong, Text, Shape, Range, NoMemory}
use Rattle.core_config.specs.declared.refusal.Want.TheVariants.{Tables}
use Rattle.core_config.specs.declared.numbers.NumberRule.{NumberRule}
use Rattle.core_config.specs.declared.keys.KeySet.TheVariants.{OfText, OfMemory, OfEntry}
use Rattle.core_config.specs.Config.{then_read, of_text, of_entry, is_allowed, number_within, number_of, schema_of, reset_pc_of, stages_of, isa_named, isa_of, isa_of_value, stage_named, named, commit_of, commit_of_value, shape_of, memory_of, memory_of_value, base_of, has_room, size_at, size_of, mem_of, least_refused, is_kind, kind_of, kind_of_value, params_of, entry_unless, item_of, entries_of, are_tables, count_of, tables_within, plugin_of, plugin_of_value, plugs_of, unless_refused, others_of, config_of_table, config_of_document, config_of}

abbrev IsNoLack : {A : Type 0} → Result A ConfigRefusal → Type 0
IsNoLack p = ¬ (p ≡ Err NoMemory)

then_no_lack : {A B : Type 0} (p : Result A ConfigRefusal) (next : A → Result B ConfigRefusal) → IsNoLack p → ((x : A) → IsNoLack (next x)) → IsNoLack (then_read p next)
then_no_lack (Ok x) next own rest h = rest x h
then_no_lack (Err e) next own rest h = own cc

ok_no_lack : {A : Type 0} (x : A) → IsNoLack {A = A} (Ok x)
ok_no_lack x h = cc

within_no_lack : (key : List ℕ) (rule : NumberRule) (z : ℤ) → IsNoLack (number_within key rule z)
within_no_lack key rule (pos n) h = by (is_allowed rule n) h
  where
    by : (b : Bool) → IsNoLack (if b then Ok n else Err (Range (of_text key) (Num (pos n))))
    by true g = cc
    by false g = cc
within_no_lack key rule (negsuc n) h = cc

number_no_lack : (key : List ℕ) (rule : NumberRule) (d : Option Data) → IsNoLack (number_of key rule d)
number_no_lack key rule None h = cc
number_no_lack key rule (Some (integer z)) h = within_no_lack key rule z h
number_no_lack key rule (Some (string s)) h = cc
number_no_lack key rule (Some (float x)) h = cc
number_no_lack key rule (Some (boolean b)) h = cc
number_no_lack key rule (Some (datetime dt)) h = cc
number_no_lack key rule (Some (array ds)) h = cc
number_no_lack key rule (Some (table ms)) h = cc

named_no_lack : {A : Type 0} (key : KeyPath) (s : List ℕ) (o : Option A) → IsNoLack (named key s o)
named_no_lack key s None h = cc
named_no_lack key s (Some x) h = cc

isa_no_lack : (d : Option Data) → IsNoLack (isa_of_value d)
isa_no_lack None h = cc
isa_no_lack (Some (string s)) h = named_no_lack _ s (isa_named s) h
isa_no_lack (Some (integer z)) h = cc
isa_no_lack (Some (float x)) h = cc
isa_no_lack (Some (boolean b)) h = cc
isa_no_lack (Some (datetime dt)) h = cc
isa_no_lack (Some (array ds)) h = cc
isa_no_lack (Some (table ms)) h = cc

commit_no_lack : (d : Option Data) → IsNoLack (commit_of_value d)
commit_no_lack None h = cc
commit_no_lack (Some (string s)) h = named_no_lack _ s (stage_named s) h
commit_no_lack (Some (integer z)) h = cc
commit_no_lack (Some (float x)) h = cc
commit_no_lack (Some (boolean b)) h = cc
commit_no_lack (Some (datetime dt)) h = cc
commit_no_lack (Some (array ds)) h = cc
commit_no_lack (Some (table ms)) h = cc

shape_no_lack : (ms : Members) → IsNoLack (shape_of ms)
shape_no_lack ms = then_no_lack (isa_of ms) _ (isa_no_lack (get_member (codes "isa") ms)) (λ isa.
    then_no_lack (reset_pc_of ms) _ (number_no_lack _ _ (get_member (codes "reset_pc") ms)) (λ reset_pc.
    then_no_lack (stages_of ms) _ (number_no_lack _ _ (get_member (codes "stages") ms)) (λ stages.
    then_no_lack (commit_of ms) _ (commit_no_lack (get_member (codes "commit") ms)) (λ commit. ok_no_lack _))))

memory_no_lack : (d : Option Data) → IsNoLack (memory_of_value d)
memory_no_lack None h = cc
memory_no_lack (Some (table ms)) h = cc
memory_no_lack (Some (string s)) h = cc
memory_no_lack (Some (integer z)) h = cc
memory_no_lack (Some (float x)) h = cc
memory_no_lack (Some (boolean b)) h = cc
memory_no_lack (Some (datetime dt)) h = cc
memory_no_lack (Some (array ds)) h = cc

size_at_no_lack : (base size : ℕ) → IsNoLack (size_at base size)
size_at_no_lack base size = by (has_room base size)
  where
    by : (b : Bool) → IsNoLack (if b then Ok size else Err (Range (of_text (codes "memory.size")) (Num (pos size))))
    by true h = cc
    by false h = cc

mem_no_lack : (memory : Members) → IsNoLack (mem_of memory)
mem_no_lack memory = then_no_lack (base_of memory) _ (number_no_lack _ _ (get_member (codes "base") memory)) (λ base.
    then_no_lack (size_of memory base) _ (then_no_lack _ (size_at base) (number_no_lack _ _ (get_member (codes "size") memory)) (size_at_no_lack base)) (λ size. ok_no_lack _))

kind_no_lack : (number : ℕ) (d : Option Data) → IsNoLack (kind_of_value number d)
kind_no_lack number None h = cc
kind_no_lack number (Some (string s)) h = by (is_kind s) h
  where
    by : (b : Bool) → IsNoLack (if b then Ok s else Err (Range (of_entry number (codes "kind")) (Word s)))
    by true g = cc
    by false g = cc
kind_no_lack number (Some (integer z)) h = cc
kind_no_lack number (Some (float x)) h = cc
kind_no_lack number (Some (boolean b)) h = cc
kind_no_lack number (Some (datetime dt)) h = cc
kind_no_lack number (Some (array ds)) h = cc
kind_no_lack number (Some (table ms)) h = cc

unless_no_lack : (number : ℕ) (kind : List ℕ) (ps : List Param) (o : Option (List ℕ)) → IsNoLack (entry_unless number kind ps o)
unless_no_lack number kind ps None h = cc
unless_no_lack number kind ps (Some k) h = cc

item_no_lack : (number : ℕ) (d : Data) → IsNoLack (item_of number d)
item_no_lack number (table ms) h = then_no_lack (kind_of number ms) _ (kind_no_lack number (get_member (codes "kind") ms))
    (λ kind. unless_no_lack number kind (params_of ms) (least_refused OfEntry ms)) h
item_no_lack number (string s) h = cc
item_no_lack number (integer z) h = cc
item_no_lack number (float x) h = cc
item_no_lack number (boolean b) h = cc
item_no_lack number (datetime dt) h = cc
item_no_lack number (array ds) h = cc

entries_no_lack : (number : ℕ) (items : Items) → IsNoLack (entries_of number items)
entries_no_lack number no_items h = cc
entries_no_lack number (item d more) h = then_no_lack (item_of number d) _ (item_no_lack number d) (λ entry.
    then_no_lack (entries_of (number + 1) more) _ (entries_no_lack (number + 1) more) (λ entries. ok_no_lack _)) h

tables_no_lack : (items : Items) → IsNoLack (tables_within items)
tables_no_lack items = by (are_tables items) (nat_le (count_of items) 32)
  where
    by : (t u : Bool) → IsNoLack (if t then (if u then Ok items else Err (Range (of_text (codes "plugin")) (Num (pos (count_of items))))) else Err (Shape (of_text (codes "plugin")) Tables))
    by true true h = cc
    by true false h = cc
    by false u h = cc

plugin_no_lack : (d : Option Data) → IsNoLack (plugin_of_value d)
plugin_no_lack None h = cc
plugin_no_lack (Some (array items)) h = tables_no_lack items h
plugin_no_lack (Some (string s)) h = cc
plugin_no_lack (Some (integer z)) h = cc
plugin_no_lack (Some (float x)) h = cc
plugin_no_lack (Some (boolean b)) h = cc
plugin_no_lack (Some (datetime dt)) h = cc
plugin_no_lack (Some (table ms)) h = cc

others_no_lack : (o p : Option (List ℕ)) → IsNoLack (unless_refused o p)
others_no_lack None None h = cc
others_no_lack None (Some k) h = cc
others_no_lack (Some k) p h = cc

table_no_lack : (ms : Members) → IsNoLack (config_of_table ms)
table_no_lack ms = then_no_lack (schema_of ms) _ (number_no_lack _ _ (get_member (codes "schema") ms)) (λ schema.
    then_no_lack (shape_of ms) _ (shape_no_lack ms) (λ shape.
    then_no_lack (memory_of ms) _ (memory_no_lack (get_member (codes "memory") ms)) (λ memory.
    then_no_lack (mem_of memory) _ (mem_no_lack memory) (λ mem.
    then_no_lack (plugs_of ms) _ (then_no_lack (plugin_of ms) (entries_of 0) (plugin_no_lack (get_member (codes "plugin") ms)) (entries_no_lack 0)) (λ entries.
    then_no_lack (others_of ms memory) _ (others_no_lack (least_refused OfText ms) (least_refused OfMemory memory)) (λ none. ok_no_lack _))))))

document_no_lack : (d : Option Members) → IsNoLack (config_of_document d)
document_no_lack None h = cc
document_no_lack (Some ms) h = table_no_lack ms h

-- what bytes say is no lack of memory
pub config_of-no_lack : (bytes : List ℕ) → ¬ (config_of bytes ≡ Err NoMemory)
unfolding config_of
config_of-no_lack bytes = by (nat_lt 1048576 (length bytes)) (is_utf8 bytes)
  where
    by : (long text : Bool) → IsNoLack (if long then Err (TooLong (length bytes)) else (if text then config_of_document (parse_document bytes) else Err Text))
    by true text h = cc
    by false true h = document_no_lack (parse_document bytes) h
    by false false h = cc
