-- A module that grows keeps its rows and the trees of its drivers.
use Rattle.std.proofs.Common.{◌≡◌, ℕ, ◌<◌, length, Option, None, Some, refl, sym, subst}
use Rattle.hw_pool.specs.Nodes.{PoolValue}
use Rattle.hw_pool.specs.Frame.{Adds}
use Rattle.hw_expr.specs.declared.net.Net.{Net}
use Rattle.hw_module.specs.declared.rows.ArrayRow.{ArrayRow}
use Rattle.hw_module.specs.declared.rows.ArrayWrite.{ArrayWrite}
use Rattle.hw_module.specs.Rows.{ModuleValue, wire_at, reg_at, array_at, out_at}
use Rattle.hw_module.specs.Frame.{Grows}
use Rattle.hw_module.specs.Checked.{DriversFit, DrivesArray}
use Rattle.module_agree.specs.Agree.{SameDriver, SameWrite}
use Rattle.module_agree.specs.Keeps.{KeepsDriver, KeepsWrite, KeepsTrees}

module _ (m : ModuleValue) (pool pool' : PoolValue) (k : ℕ) (adds : Adds pool pool' k) where
  kept_driver : (old new : Option Net) → ((net : Net) → old ≡ Some net → new ≡ Some net) → ((net : Net) → old ≡ Some net → net.id.0 < length pool.nodes)
      → KeepsDriver pool.nodes pool'.nodes old new
  kept_driver None new stays live = tt
  kept_driver (Some net) new stays live =
      subst (λ d. SameDriver pool.nodes pool'.nodes (Some net) d) (sym (stays net refl)) (sym (adds.trees net.id.0 (live net refl)))

  kept_write : (row : ArrayRow) (old new : Option ArrayWrite) → ((write : ArrayWrite) → old ≡ Some write → new ≡ Some write)
      → ((write : ArrayWrite) → old ≡ Some write → DrivesArray m pool row write) → KeepsWrite pool.nodes pool'.nodes old new
  kept_write row None new stays drives = tt
  kept_write row (Some write) new stays drives =
      let d = drives write refl in
      subst (λ w. SameWrite pool.nodes pool'.nodes (Some write) w) (sym (stays write refl))
      (sym (adds.trees write.enable.id.0 d.enable.is.live), sym (adds.trees write.addr.id.0 d.addr.is.live), sym (adds.trees write.value.id.0 d.value.is.live))

pub grown_keeps : (m m' : ModuleValue) (pool pool' : PoolValue) (n k : ℕ) → DriversFit m pool → Grows m m' n → Adds pool pool' k
    → KeepsTrees m pool.nodes m' pool'.nodes
grown_keeps m m' pool pool' n k fits grows adds = record {
  wires = λ w there. let s = grows.wires w there in record {
    owner = sym s.owner;
    width = sym s.width;
    level = sym s.level;
    driver = kept_driver m pool pool' k adds (wire_at m.wires w).driver (wire_at m'.wires w).driver s.driver (λ net e. (fits.wires w net there e).fits.is.live);
  };
  regs = λ r there. let s = grows.regs r there in record {
    owner = sym s.owner;
    width = sym s.width;
    reset = sym s.reset;
    next = kept_driver m pool pool' k adds (reg_at m.regs r).next (reg_at m'.regs r).next s.next (λ net e. (fits.regs r net there e).fits.is.live);
  };
  arrays = λ a there. let s = grows.arrays a there in record {
    owner = sym s.owner;
    width = sym s.width;
    bits = sym s.bits;
    write = kept_write m pool pool' k adds (array_at m.arrays a) (array_at m.arrays a).write (array_at m'.arrays a).write s.write (λ write e. fits.arrays a write there e);
  };
  outs = λ p there. kept_driver m pool pool' k adds (out_at m.outs p) (out_at m'.outs p) (λ net e. grows.outs p net e) (λ net e. (fits.outs p net there e).fits.is.live);
}
