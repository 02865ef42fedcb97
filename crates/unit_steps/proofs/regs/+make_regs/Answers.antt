use Rattle.std.proofs.Common.{◌≡◌, ◌∙◌, ℕ, length, get_or, ap, sym, subst, arith, None}
use Rattle.unit_steps.specs.Registers.{AreOpenRegs, IsOpenReg, MakesRegs, open_row}
use Rattle.unit_steps.proofs.RegSteps.{regs_then, split, rest_of}
use Rattle.hw_module.specs.Rows.{reg_at}
use Rattle.unit_steps.proofs.regs.«+make_regs».Goals as goal

pub returns-in-len1-up-clause-regs : goal.returns-in-len1-up-clause-regs
returns-in-len1-up-clause-regs t c =
    let e = c.reg.ensures in
    let r = c.make_regs.ensures in
    let is = split 0 c.args.widths.now c.in-len1-up.len_at_least in
    let n : ℕ = length c.args.b.now.design.regs in
    let mid = c.reg.new.self.design in
    let new = c.make_regs.new.b.design in
    let by = c.args.b.now.entry in
    let more = r.makes.count in
    let row = subst (λ k. reg_at mid.regs k ≡ open_row by (get_or c.args.widths.now 0 0) None) e.number e.made in
    let first : IsOpenReg new by n (get_or c.args.widths.now 0 0) None = record { there = (let count = e.count in omega (arith, more, count)); row = r.makes.before n (let count = e.count in omega (arith, count)) ∙ row } in
    let rest = subst (λ k. AreOpenRegs new by k (rest_of c.args.widths.now)) e.count (subst (λ x. AreOpenRegs new x (length mid.regs) (rest_of c.args.widths.now)) e.entry r.regs) in
    subst (λ ws. AreOpenRegs new by n ws) (sym is) (first, rest)

pub returns-in-len1-up-clause-makes : goal.returns-in-len1-up-clause-makes
returns-in-len1-up-clause-makes t c =
    let e = c.reg.ensures in
    let is = split 0 c.args.widths.now c.in-len1-up.len_at_least in
    let many = ap length is in
    let one : MakesRegs 1 c.args.b.now c.reg.new.self = record {
      entry = e.entry;
      wires = e.wires;
      arrays = e.arrays;
      outs = e.outs;
      count = e.count;
      before = e.before;
      room = e.room;
      makes = e.makes;
      drivers = e.drivers;
    } in
    regs_then c.args.b.now c.reg.new.self c.make_regs.new.b 1 (length (rest_of c.args.widths.now)) (length c.args.widths.now) one c.make_regs.ensures.makes (omega (arith, many))
