-- What a text means is put together.
use Rattle.std.proofs.Common.{◌≡◌, ℕ, ◌+◌, ◌*◌, ◌≤◌, List, Bool, length, refl, sym, subst, arith}
use Rattle.hw_pool.specs.Nodes.{PoolValue}
use Rattle.hw_module.specs.Rows.{ModuleValue}
use Rattle.verilog_tree.specs.Module.{HasOneReading}
use Rattle.verilog_mean.specs.Plain.{Plain}
use Rattle.verilog_mean.specs.CorePorts.{HasCorePorts}
use Rattle.verilog_mean.specs.Erase.{plain_tree}
use Rattle.verilog_mean.specs.Sound.{IsSound}
use Rattle.verilog_netlist.specs.Text.{text_of}
use Rattle.verilog_netlist.specs.Places.{text_tree}
use Rattle.verilog_netlist.specs.Meaning.{plain_of}
use Rattle.verilog_netlist.specs.Writable.{RowsBelow}
use Rattle.module_netlist.specs.Lines.{netlist_of}
use Rattle.module_netlist.specs.Means.{Means, IsModuleText}
use Rattle.module_netlist.specs.Written.{thing_count}

short_text : (size lines things : ℕ) → size ≤ 160 * (30 + lines + 3) → lines ≤ things → things ≤ 65535 → size ≤ 16777216
short_text size lines things a b c = omega arith

pub module_texts : (m : ModuleValue) (pool : PoolValue) (marks : List Bool)
    → HasOneReading (text_of (netlist_of m pool.nodes marks)) (text_tree (netlist_of m pool.nodes marks))
    → plain_tree (text_tree (netlist_of m pool.nodes marks)) ≡ plain_of (netlist_of m pool.nodes marks)
    → IsSound (text_tree (netlist_of m pool.nodes marks))
    → HasCorePorts (plain_of (netlist_of m pool.nodes marks))
    → Means m pool.nodes (plain_of (netlist_of m pool.nodes marks))
    → length (text_of (netlist_of m pool.nodes marks)) ≤ 160 * (30 + length (netlist_of m pool.nodes marks).lines + 3)
    → length (netlist_of m pool.nodes marks).lines ≤ thing_count m pool → thing_count m pool ≤ 65535
    → RowsBelow 160 0 (text_of (netlist_of m pool.nodes marks))
    → IsModuleText m pool.nodes (text_of (netlist_of m pool.nodes marks))
module_texts m pool marks reading plain sound ports means size lines few rows = record {
  tree = text_tree (netlist_of m pool.nodes marks);
  one_reading = reading;
  named = refl;
  sound = sound;
  ports = subst (λ (t : Plain). HasCorePorts t) (sym plain) ports;
  means = subst (λ (t : Plain). Means m pool.nodes t) (sym plain) means;
  short = short_text (length (text_of (netlist_of m pool.nodes marks))) (length (netlist_of m pool.nodes marks).lines) (thing_count m pool) size lines few;
  rows = rows;
}
