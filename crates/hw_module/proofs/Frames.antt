-- Steps of building one behind the other.
use Rattle.std.proofs.Common.{◌∙◌, ℕ, ◌+◌, ◌≤◌, arith}
use Rattle.hw_module.specs.declared.rows.WireRow.{WireRow}
use Rattle.hw_module.specs.declared.rows.RegRow.{RegRow}
use Rattle.hw_module.specs.declared.rows.ArrayRow.{ArrayRow}
use Rattle.hw_module.specs.Rows.{ModuleValue}
use Rattle.hw_module.specs.Frame.{WireStays, RegStays, ArrayStays, Grows}

wire_then : (a b c : WireRow) → WireStays a b → WireStays b c → WireStays a c
wire_then a b c first second = record {
  owner = second.owner ∙ first.owner;
  width = second.width ∙ first.width;
  level = second.level ∙ first.level;
  driver = λ net h. second.driver net (first.driver net h);
}

reg_then : (a b c : RegRow) → RegStays a b → RegStays b c → RegStays a c
reg_then a b c first second = record {
  owner = second.owner ∙ first.owner;
  width = second.width ∙ first.width;
  reset = second.reset ∙ first.reset;
  next = λ net h. second.next net (first.next net h);
}

array_then : (a b c : ArrayRow) → ArrayStays a b → ArrayStays b c → ArrayStays a c
array_then a b c first second = record {
  owner = second.owner ∙ first.owner;
  width = second.width ∙ first.width;
  bits = second.bits ∙ first.bits;
  write = λ w h. second.write w (first.write w h);
}

pub grows_then : (a b c : ModuleValue) (m n total : ℕ) → Grows a b m → Grows b c n → m + n ≤ total → Grows a c total
grows_then a b c m n total first second sum = record {
  room = omega (arith, first.room, second.room);
  fill = omega (arith, first.fill, second.fill);
  more_wires = omega (arith, first.more_wires, second.more_wires);
  more_regs = omega (arith, first.more_regs, second.more_regs);
  more_arrays = omega (arith, first.more_arrays, second.more_arrays);
  wires = λ k h. wire_then _ _ _ (first.wires k h) (second.wires k (omega (arith, first.more_wires)));
  regs = λ k h. reg_then _ _ _ (first.regs k h) (second.regs k (omega (arith, first.more_regs)));
  arrays = λ k h. array_then _ _ _ (first.arrays k h) (second.arrays k (omega (arith, first.more_arrays)));
  outs = λ k net h. second.outs k net (first.outs k net h);
}
