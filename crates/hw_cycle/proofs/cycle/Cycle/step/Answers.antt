use Rattle.std.proofs.Common.{rules, ◌≡◌, ◌∙◌, ℕ, List, length, ap, sym, subst, arith}
use Rattle.std.proofs.lemmas.Grind.{common_steps}
use Rattle.hw_cycle.specs.State.{CycleValue, IsFor, cells_at, held_of, held_in}
use Rattle.hw_cycle.specs.Inputs.{ins_of}
use Rattle.hw_cycle.proofs.States.{held_from, held_same, cycle_step, for_after, outs_same}
use Rattle.hw_cycle.proofs.cycle.Cycle.step.Goals as goal

pub evaluate-requires-clause-held : goal.evaluate-requires-clause-held
evaluate-requires-clause-held c =
    let made = subst (λ (v : CycleValue). IsFor v c.args.m.now) (sym c.self.view_is) c.requires.shape in
    held_same c.args.m.now c.self.inside.regs.items _ c.args.ins.now.items _ c.self.inside.cells.items _ c.as_slice-2.ensures.value c.as_slice-3.ensures.value c.as_slice.ensures.value
    (held_from _ c.args.m.now c.self.invariant.0 made c.args.ins.now.items c.requires.within)

pub commit-requires-clause-held : goal.commit-requires-clause-held
commit-requires-clause-held c =
    let made = subst (λ (v : CycleValue). IsFor v c.args.m.now) (sym c.self.view_is) c.requires.shape in
    held_same c.args.m.now c.self.inside.regs.items _ c.args.ins.now.items _ c.self.inside.cells.items _ c.as_mut_slice-5.ensures.value c.as_mut_slice-6.ensures.value c.as_slice-4.ensures.value
    (held_from _ c.args.m.now c.self.invariant.0 made c.args.ins.now.items c.requires.within)

pub returns-clause-outs : goal.returns-clause-outs
returns-clause-outs c =
    outs_same c.args.m.now c.args.pool.now.nodes c.commit.new.outs _ c.as_slice-4.result.now c.args.ins.now.items (held_in c.as_mut_slice-5.result.now c.as_mut_slice-6.result.now) (held_of c.args.self.now)
    (first_of (search rules, grind (arith, common_steps)))
    (ap held_of (sym c.self.view_is) ∙ (λ i. held_in (sym c.as_mut_slice-5.ensures.value i) (sym c.as_mut_slice-6.ensures.value i)))
    (sym c.as_slice-4.ensures.value) c.commit.ensures.outs

pub returns-clause-shape : goal.returns-clause-shape
returns-clause-shape c = for_after c.args.self.now _ c.args.m.now c.requires.shape (first_of (search rules, grind (arith, common_steps)))

pub invariant_of-self : goal.invariant_of-self
invariant_of-self c =
    let made = subst (λ (v : CycleValue). IsFor v c.args.m.now) (sym c.self.view_is) c.requires.shape in
    let regs_many : length c.commit.new.regs ≡ length c.self.inside.regs.items = first_of (search rules, grind (arith, common_steps)) in
    let cells_many : length c.commit.new.cells ≡ length c.self.inside.cells.items = first_of (search rules, grind (arith, common_steps)) in (
      cycle_step _ c.args.m.now (ins_of c.as_slice-4.result.now) _ _ c.commit.new.regs _ c.commit.new.cells _ c.self.invariant.0 made
          (first_of (search rules, grind (arith, common_steps))) (first_of (search rules, grind (arith, common_steps))) regs_many cells_many c.commit.ensures.held
          (λ a h. c.commit.ensures.counts a h ∙ ap (λ (l : List (List ℕ)). length (cells_at l a)) c.as_mut_slice-6.ensures.value),
      first_of (search rules, grind (arith, common_steps)),
      first_of (search rules, grind (arith, common_steps)),
    )
