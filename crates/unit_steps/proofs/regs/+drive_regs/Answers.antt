use Rattle.std.proofs.Common.{◌∙◌, ◌+◌, ℕ, length, ap, sym, subst, arith, inl, inr}
use Rattle.hw_expr.specs.declared.net.Net.{Net}
use Rattle.unit_steps.specs.Registers.{CanTakeAll, HaveTaken, DrivesRegs}
use Rattle.unit_steps.proofs.RegSteps.{can_take_on, drives_then, rest_of, scope_same, split, taken_from, width_same}
use Rattle.unit_steps.proofs.regs.«+drive_regs».Goals as goal

-- stands where a list has no net
abbrev no_net : Net
no_net = record { id = record { 0 = 0 }; width = 0; level = 0 }

pub drive_regs-requires : goal.drive_regs-requires
drive_regs-requires t c =
    let e = c.next.ensures in
    let is = split no_net c.args.nets.now c.in-len1-up.len_at_least in
    let many = ap length is in
    let fit = subst (λ xs. CanTakeAll c.args.b.now.design c.args.pool.now c.args.b.now.entry c.args.first xs) is c.requires.fit in (
      omega arith,
      (
        omega (arith, e.room),
        (
          omega arith,
          subst (λ (x : ℕ). CanTakeAll c.next.new.self.design c.args.pool.now x (c.args.first + 1) (rest_of c.args.nets.now)) (sym e.entry)
              (can_take_on c.args.b.now.design c.next.new.self.design c.args.first e.others c.args.pool.now c.args.b.now.entry e.count (λ n h. e.kept c.args.pool.now n h)
              (c.args.first + 1) (rest_of c.args.nets.now) (omega arith) fit.1),
        ),
      ),
    )

pub returns-in-len1-up-clause-taken : goal.returns-in-len1-up-clause-taken
returns-in-len1-up-clause-taken t c =
    let e = c.next.ensures in
    let r = c.drive_regs.ensures in
    let is = split no_net c.args.nets.now c.in-len1-up.len_at_least in
    subst (λ ns. HaveTaken c.args.b.now.design c.drive_regs.new.b.design c.args.first ns) (sym is) (
      r.others c.args.first (inl (omega arith)) ∙ e.driven,
      taken_from c.args.b.now.design c.next.new.self.design c.args.first e.others c.drive_regs.new.b.design (c.args.first + 1) (rest_of c.args.nets.now) (omega arith) r.taken,
    )

pub returns-in-len1-up-clause-others : goal.returns-in-len1-up-clause-others
returns-in-len1-up-clause-others t c = λ k away.
    let e = c.next.ensures in
    let r = c.drive_regs.ensures in
    let is = split no_net c.args.nets.now c.in-len1-up.len_at_least in
    let many = ap length is in
    elim away [
      | inl l ↦ r.others k (inl (omega arith)) ∙ e.others k (λ same. absurd (omega arith))
      | inr l ↦ r.others k (inr (omega (arith, many, l))) ∙ e.others k (λ same. absurd (omega (arith, many, l, same)))
    ]

pub returns-in-len1-up-clause-drives : goal.returns-in-len1-up-clause-drives
returns-in-len1-up-clause-drives t c =
    let e = c.next.ensures in
    let is = split no_net c.args.nets.now c.in-len1-up.len_at_least in
    let many = ap length is in
    let fit = subst (λ xs. CanTakeAll c.args.b.now.design c.args.pool.now c.args.b.now.entry c.args.first xs) is c.requires.fit in
    let one : DrivesRegs 1 c.args.b.now c.next.new.self = record {
      entry = e.entry;
      wires = e.wires;
      arrays = e.arrays;
      outs = e.outs;
      count = e.count;
      room = e.room;
      makes = λ r. e.makes r fit.0.own;
      scope = scope_same c.args.b.now.design c.next.new.self.design e.wires e.arrays e.count (width_same c.args.b.now.design c.next.new.self.design c.args.first _ e.driven e.others);
    } in
    drives_then c.args.b.now c.next.new.self c.drive_regs.new.b 1 (length (rest_of c.args.nets.now)) (length c.args.nets.now) one c.drive_regs.ensures.drives (omega (arith, many))
