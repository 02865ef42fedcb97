use Rattle.std.proofs.Common.{◌≡◌, ◌∙◌, ℕ, ◌+◌, ◌-◌, ◌<◌, ◌≤◌, Option, Some, None, length, subst, sym, arith}
use Rattle.plug_icache.specs.Registers.{AreOpenRegs, IsOpenFour}
use Rattle.plug_icache.proofs.Drives.{regs_then}
use Rattle.plug_icache.proofs.Fours.{open_stays}
use Rattle.plug_icache.proofs.make.make_sixteen.Goals as goal

pub returns-clause-makes : goal.returns-clause-makes
returns-clause-makes c =
    regs_then c.args.b.now c.make_caught.new.b c.make_item.new.b 12 4 16
    (regs_then c.args.b.now c.make_reading.new.b c.make_caught.new.b 8 4 12
    (regs_then c.args.b.now c.make_front.new.b c.make_reading.new.b 4 4 8 c.make_front.ensures.makes c.make_reading.ensures.makes (omega arith)) c.make_caught.ensures.makes (omega arith))
    c.make_item.ensures.makes (omega arith)

pub returns-clause-regs : goal.returns-clause-regs
returns-clause-regs c =
    let e : ℕ = c.args.b.now.entry in
    let d = c.args.b.now.design in
    let d1 = c.make_front.new.b.design in
    let d2 = c.make_reading.new.b.design in
    let d3 = c.make_caught.new.b.design in
    let d4 = c.make_item.new.b.design in
    let m1 = c.make_front.ensures.makes in
    let m2 = c.make_reading.ensures.makes in
    let m3 = c.make_caught.ensures.makes in
    let m4 = c.make_item.ensures.makes in
    let c1 : length d1.regs ≡ length d.regs + 4 = m1.count in
    let c2 : length d2.regs ≡ length d1.regs + 4 = m2.count in
    let c3 : length d3.regs ≡ length d2.regs + 4 = m3.count in
    let c4 : length d4.regs ≡ length d3.regs + 4 = m4.count in
    let front : IsOpenFour d4 e (length d.regs) 32 (c.args.z.index + 1) 1 1 (Some c.args.reset_pc) (Some 0) (Some 0) (Some 0) = open_stays d1 d4 e (length d.regs) 32 (c.args.z.index + 1) 1 1 (Some c.args.reset_pc) (Some 0) (Some 0) (Some 0) (omega arith)
    (λ k a b. m4.before k (omega arith) ∙ (m3.before k (omega arith) ∙ m2.before k (omega arith))) c.make_front.ensures.regs in
    let at-reading : length d1.regs ≡ length d.regs + 4 = c1 in
    let reading : IsOpenFour d4 e (length d.regs + 4) 1 (30 - c.args.z.place) c.args.z.place 1 (Some 0) None None None = subst (λ r. IsOpenFour d4 e r 1 (30 - c.args.z.place) c.args.z.place 1 (Some 0) None None None) at-reading
    (open_stays d2 d4 e (length d1.regs) 1 (30 - c.args.z.place) c.args.z.place 1 (Some 0) None None None (omega arith) (λ k a b. m4.before k (omega arith) ∙ m3.before k (omega arith))
    (subst (λ x. IsOpenFour d2 x (length d1.regs) 1 (30 - c.args.z.place) c.args.z.place 1 (Some 0) None None None) m1.entry c.make_reading.ensures.regs)) in
    let at-caught : length d2.regs ≡ length d.regs + 8 = omega arith in
    let caught : IsOpenFour d4 e (length d.regs + 8) 1 1 32 1 None (Some 0) None None = subst (λ r. IsOpenFour d4 e r 1 1 32 1 None (Some 0) None None) at-caught
    (open_stays d3 d4 e (length d2.regs) 1 1 32 1 None (Some 0) None None (omega arith) (λ k a b. m4.before k (omega arith))
    (subst (λ x. IsOpenFour d3 x (length d2.regs) 1 1 32 1 None (Some 0) None None) (m2.entry ∙ m1.entry) c.make_caught.ensures.regs)) in
    let at-item : length d3.regs ≡ length d.regs + 12 = omega arith in
    let item : IsOpenFour d4 e (length d.regs + 12) 1 32 32 1 (Some 0) None None None = subst (λ r. IsOpenFour d4 e r 1 32 32 1 (Some 0) None None None) at-item
    (subst (λ x. IsOpenFour d4 x (length d3.regs) 1 32 32 1 (Some 0) None None None) (m3.entry ∙ (m2.entry ∙ m1.entry)) c.make_item.ensures.regs) in
    let all : AreOpenRegs d4 e (length d.regs) c.args.z.index c.args.z.place c.args.reset_pc = record { front = front; reading = reading; caught = caught; item = item } in
    all
