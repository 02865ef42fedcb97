use Rattle.std.proofs.Common.{rules, ◌≡◌, ◌∙◌, ℕ, ◌^◌, ◌<◌, List, length, map, replicate, arith, subst}
use Rattle.std.proofs.lemmas.Grind.{common_steps}
use Rattle.hw_module.specs.declared.rows.RegRow.{RegRow}
use Rattle.hw_module.specs.declared.rows.ArrayRow.{ArrayRow}
use Rattle.hw_module.specs.Rows.{array_at}
use Rattle.hw_cycle.specs.State.{cells_at}
use Rattle.hw_cycle.proofs.States.{cycle_new}
use Rattle.hw_cycle.proofs.cycle.Cycle.new.Goals as goal

pub invariant_of-result : goal.invariant_of-result
invariant_of-result c =
    let m = c.args.m.now in
    let reg_widths : c.in_ok-reg_widths.reg_widths.items ≡ map (λ (r : RegRow). r.width) m.regs = first_of (search rules, grind (arith, common_steps)) in
    let array_widths : c.in_ok-array_widths.array_widths.items ≡ map (λ (a : ArrayRow). a.width) m.arrays = first_of (search rules, grind (arith, common_steps)) in
    let array_bits : c.in_ok-array_bits.array_bits.items ≡ map (λ (a : ArrayRow). a.bits) m.arrays = first_of (search rules, grind (arith, common_steps)) in
    let regs : c.in_ok-regs.regs.items ≡ replicate (length m.regs) 0 = first_of (search rules, grind (arith, common_steps)) in
    let many : length c.in_ok-cells.cells.items ≡ length m.arrays = first_of (search rules, grind (arith, common_steps)) in
    let rows : c.as_slice-4.result.now ≡ m.arrays = c.as_slice-4.ensures.value ∙ c.arrays-3.ensures.rows in
    let zero : (a : ℕ) → a < length m.arrays → cells_at c.in_ok-cells.cells.items a ≡ replicate (2 ^ (array_at m.arrays a).bits) 0 =
    subst (λ (l : List ArrayRow). (a : ℕ) → a < length l → cells_at c.in_ok-cells.cells.items a ≡ replicate (2 ^ (array_at l a).bits) 0) rows c.in_ok-cells.ensures.zero in
    let tops : length c.in_ok-tops.tops.items ≡ length c.in_ok-values.values.items = first_of (search rules, grind (arith, common_steps)) in
    let marks : length c.in_ok-marks.marks.items ≡ length c.in_ok-values.values.items = first_of (search rules, grind (arith, common_steps)) in (
      cycle_new m _ _ c.in_ok-reg_widths.reg_widths.items c.in_ok-array_widths.array_widths.items c.in_ok-array_bits.array_bits.items c.in_ok-regs.regs.items c.in_ok-cells.cells.items
          reg_widths array_widths array_bits regs many zero,
      tops,
      marks,
    )
