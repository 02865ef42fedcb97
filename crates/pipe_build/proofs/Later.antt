-- What is driven, in a module that has grown and behind more nodes.
use Rattle.std.proofs.Common.{◌≡◌, ◌∙◌, ℕ, ◌<◌, length, arith, ap, refl, Option, None, Some}
use Rattle.hw_pool.specs.Nodes.{PoolValue}
use Rattle.hw_pool.specs.Meaning.{Env}
use Rattle.hw_pool.specs.Frame.{Adds}
use Rattle.hw_expr.specs.declared.net.Net.{Net}
use Rattle.hw_module.specs.Checked.{DriversFit}
use Rattle.hw_module.specs.Frame.{Grows}
use Rattle.hw_module.specs.Rows.{ModuleValue, reg_at, wire_at}
use Rattle.plug_part.specs.Of.{tree_option}
use Rattle.plug_part.specs.Things.{IsDriven}
use Rattle.pipe_steps.specs.Drives.{DrivesUnit, RegHas, WireHas}
use Rattle.pipe_steps.specs.Things.{PipeThings, PipeUnit}

module _ {old new : ModuleValue} {n : ℕ} {pool pool' : PoolValue} {k : ℕ} (fit : DriversFit old pool) (grows : Grows old new n) (adds : Adds pool pool' k) where
  driver_later : {f : Env → ℕ} (o o' : Option Net) → ((net : Net) → o ≡ Some net → o' ≡ Some net) → ((net : Net) → o ≡ Some net → net.id.0 < length pool.nodes) → IsDriven (tree_option pool.nodes o) f
      → IsDriven (tree_option pool'.nodes o') f
  driver_later None o' kept live h = absurd (let e = h.is in cc)
  driver_later (Some net) o' kept live h = record {
    tree = h.tree;
    is = ap (tree_option pool'.nodes) (kept net refl) ∙ ap Some (adds.trees net.id.0 (live net refl)) ∙ h.is;
    value_is = h.value_is;
  }

  pub wire_later : {wire : ℕ} {f : Env → ℕ} → WireHas old pool.nodes wire f → WireHas new pool'.nodes wire f
  wire_later {wire} h = record {
    there = let l = h.there in let m = grows.more_wires in omega arith;
    driven = driver_later (wire_at old.wires wire).driver (wire_at new.wires wire).driver (grows.wires wire h.there).driver (λ net e. (fit.wires wire net h.there e).fits.is.live) h.driven;
  }

  pub reg_later : {reg width : ℕ} {reset : Option ℕ} {f : Env → ℕ} → RegHas old pool.nodes reg width reset f → RegHas new pool'.nodes reg width reset f
  reg_later {reg} h =
      let row = grows.regs reg h.there in
      record {
        there = let l = h.there in let m = grows.more_regs in omega arith;
        wide = row.width ∙ h.wide;
        reset_is = row.reset ∙ h.reset_is;
        driven = driver_later (reg_at old.regs reg).next (reg_at new.regs reg).next row.next (λ net e. (fit.regs reg net h.there e).fits.is.live) h.driven;
      }

  pub unit_later : {p : PipeThings} {u : PipeUnit} → DrivesUnit old pool.nodes p u → DrivesUnit new pool'.nodes p u
  unit_later h = record {
    chosen = reg_later h.chosen;
    go = wire_later h.go;
    row = wire_later h.row;
    pc = wire_later h.pc;
    word = wire_later h.word;
    a = wire_later h.a;
    b = wire_later h.b;
    clear = wire_later h.clear;
  }
