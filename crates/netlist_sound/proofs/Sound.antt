-- The nine rules together.
use Rattle.std.proofs.Common.{ℕ, suc, Bool, List, sym, subst, arith}
use Rattle.verilog_mean.specs.Loops.{HasNoLoop}
use Rattle.verilog_mean.specs.Erase.{plain_tree}
use Rattle.verilog_mean.specs.Declarations.{declarations}
use Rattle.verilog_mean.specs.Sound.{IsSound}
use Rattle.verilog_mean.proofs.NoLoop.{ranked_no_loop}
use Rattle.verilog_netlist.specs.Places.{behind_ports, tree_of}
use Rattle.verilog_netlist.specs.Meaning.{plain_of}
use Rattle.core_ports.specs.Ports.{all_ports}
use Rattle.hw_pool.specs.Nodes.{PoolValue}
use Rattle.hw_module.specs.Reached.{AreMarks}
use Rattle.hw_module.specs.Rows.{ModuleValue}
use Rattle.hw_reach.proofs.Reached.{reached_fits}
use Rattle.module_netlist.specs.Lines.{module_lines, ports_from, netlist_of}
use Rattle.module_netlist.specs.Written.{IsWritten}
use Rattle.module_netlist.proofs.Naming.{names_differ}
use Rattle.module_netlist.proofs.Writing.{writable}
use Rattle.netlist_text.proofs.Plain.{tree_plain}
use Rattle.netlist_order.proofs.Ranked.{module_is_ranked}
use Rattle.netlist_sound.proofs.Fine.{info_among, LineFine, Each}
use Rattle.netlist_sound.proofs.NameKinds.{lines_kinds}
use Rattle.netlist_sound.proofs.Selects.{lines_selects}
use Rattle.netlist_sound.proofs.Widths.{lines_widths}
use Rattle.netlist_sound.proofs.Infos.{Differ, declared}
use Rattle.netlist_sound.proofs.LinesFine.{lines_fine}
use Rattle.netlist_sound.proofs.Sizes.{sizes}
use Rattle.netlist_sound.proofs.KnownBefore.{known}
use Rattle.netlist_sound.proofs.NamesOnce.{names_once}
use Rattle.netlist_sound.proofs.DriversOnce.{drivers_once}
use Rattle.netlist_sound.proofs.Driven.{all_driven}

module _ (m : ModuleValue) (pool : PoolValue) (marks : List Bool) (is : IsWritten m pool) (are : AreMarks m pool.nodes marks) where
  differ : Differ m pool.nodes
  differ =
      let few = is.few in
      names_differ m pool.nodes is.module' (omega arith) (omega arith) (omega arith) (omega arith)

  all_fine : (p : ℕ → ℕ) → Each (LineFine (info_among (declarations (tree_of p (netlist_of m pool.nodes marks))))) (module_lines m pool.nodes marks)
  all_fine p =
      lines_fine m pool marks differ (info_among (declarations (tree_of p (netlist_of m pool.nodes marks))))
      (declared m pool.nodes marks differ is.module' is.nodes p) is.module' is.nodes are is.checked.fits (reached_fits m pool is.nodes is.checked.fits)

  no_loop : (p : ℕ → ℕ) → HasNoLoop (plain_tree (tree_of p (netlist_of m pool.nodes marks)))
  no_loop p =
      let ranked = module_is_ranked m pool marks is are in
      subst (λ n. HasNoLoop n) (sym (tree_plain p (netlist_of m pool.nodes marks) (writable m pool marks is are))) (ranked_no_loop (plain_of (netlist_of m pool.nodes marks)) ranked.0 ranked.1)

  -- the netlist of a checked module is sound, wherever its tokens stand
  pub module_is_sound : (p : ℕ → ℕ) → IsSound (tree_of p (netlist_of m pool.nodes marks))
  module_is_sound p =
      let t = tree_of p (netlist_of m pool.nodes marks) in
      record {
        names_once = names_once m pool.nodes marks differ p;
        sizes = sizes m pool.nodes marks is.module' is.nodes p;
        names_known = known m pool marks is.nodes are is.checked.fits (reached_fits m pool is.nodes is.checked.fits) p;
        kinds = lines_kinds (declarations t) p (suc (behind_ports 3 (ports_from all_ports))) (module_lines m pool.nodes marks) (all_fine p);
        selects = lines_selects (declarations t) p (suc (behind_ports 3 (ports_from all_ports))) (module_lines m pool.nodes marks) (all_fine p);
        widths = lines_widths (declarations t) p (suc (behind_ports 3 (ports_from all_ports))) (module_lines m pool.nodes marks) (all_fine p);
        drivers_once = drivers_once m pool.nodes marks differ p;
        driven = all_driven m pool.nodes marks is.checked.driven p;
        no_loop = no_loop p;
      }
