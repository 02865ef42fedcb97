use Rattle.std.proofs.Common.{◌≡◌, ◌∙◌, ℕ, ◌+◌, ◌-◌, ◌<◌, ◌≤◌, Option, Some, None, length, inl, inr, ap, sym, subst, arith}
use Rattle.hw_module.specs.Rows.{ModuleValue, reg_at}
use Rattle.hw_module.specs.Scope.{scope_of}
use Rattle.cache_nets.specs.Nets.{AreFourIn}
use Rattle.plug_icache.specs.Registers.{CanDrive, IsDrivenFour, IsOpenFour}
use Rattle.plug_icache.proofs.Drives.{drives_then}
use Rattle.plug_icache.proofs.Fours.{can_drive, driven_stays, four_driven, open_stays, own_widths}
use Rattle.plug_icache.proofs.drive.drive_regs.Goals as goal

pub drive_four-requires-clause-open : goal.drive_four-requires-clause-open
drive_four-requires-clause-open c = can_drive c.args.b.now.design c.args.pool.now c.args.b.now.entry (c.args.first) _ _ _ _ _ _ _ _ c.args.n.front c.requires.open.1.front c.requires.nets.front

pub drive_four-requires-clause-nets : goal.drive_four-requires-clause-nets
drive_four-requires-clause-nets c = own_widths c.args.pool.now c.args.n.front _ _ _ _ c.requires.nets.front

pub drive_four-requires-clause-scope : goal.drive_four-requires-clause-scope
drive_four-requires-clause-scope c = c.requires.scope.front

pub drive_four-requires-2-clause-open : goal.drive_four-requires-2-clause-open
drive_four-requires-2-clause-open c = subst (λ (x : ℕ). CanDrive c.drive_four.new.b.design x (c.args.first + 4) c.args.n.reading) (sym (c.drive_four.ensures.drives.entry)) (can_drive c.drive_four.new.b.design c.args.pool.now c.args.b.now.entry (c.args.first + 4) _ _ _ _ _ _ _ _ c.args.n.reading (open_stays c.args.b.now.design c.drive_four.new.b.design c.args.b.now.entry (c.args.first + 4) _ _ _ _ _ _ _ _ (let n = c.drive_four.ensures.drives.count in omega arith) (λ k a b. c.drive_four.ensures.others k (inr (omega arith))) c.requires.open.1.reading) c.requires.nets.reading)

pub drive_four-requires-2-clause-nets : goal.drive_four-requires-2-clause-nets
drive_four-requires-2-clause-nets c = own_widths c.args.pool.now c.args.n.reading _ _ _ _ c.requires.nets.reading

pub drive_four-requires-2-clause-scope : goal.drive_four-requires-2-clause-scope
drive_four-requires-2-clause-scope c = subst (λ s. AreFourIn s c.args.pool.now c.args.n.reading) (sym (c.drive_four.ensures.drives.scope)) c.requires.scope.reading

pub drive_four-requires-3-clause-open : goal.drive_four-requires-3-clause-open
drive_four-requires-3-clause-open c = subst (λ (x : ℕ). CanDrive c.drive_four-2.new.b.design x (c.args.first + 8) c.args.n.caught) (sym (c.drive_four-2.ensures.drives.entry ∙ c.drive_four.ensures.drives.entry)) (can_drive c.drive_four-2.new.b.design c.args.pool.now c.args.b.now.entry (c.args.first + 8) _ _ _ _ _ _ _ _ c.args.n.caught (open_stays c.drive_four.new.b.design c.drive_four-2.new.b.design c.args.b.now.entry (c.args.first + 8) _ _ _ _ _ _ _ _ (let n = c.drive_four-2.ensures.drives.count in omega arith) (λ k a b. c.drive_four-2.ensures.others k (inr (omega arith))) (open_stays c.args.b.now.design c.drive_four.new.b.design c.args.b.now.entry (c.args.first + 8) _ _ _ _ _ _ _ _ (let n = c.drive_four.ensures.drives.count in omega arith) (λ k a b. c.drive_four.ensures.others k (inr (omega arith))) c.requires.open.1.caught)) c.requires.nets.caught)

pub drive_four-requires-3-clause-nets : goal.drive_four-requires-3-clause-nets
drive_four-requires-3-clause-nets c = own_widths c.args.pool.now c.args.n.caught _ _ _ _ c.requires.nets.caught

pub drive_four-requires-3-clause-scope : goal.drive_four-requires-3-clause-scope
drive_four-requires-3-clause-scope c = subst (λ s. AreFourIn s c.args.pool.now c.args.n.caught) (sym (c.drive_four-2.ensures.drives.scope ∙ c.drive_four.ensures.drives.scope)) c.requires.scope.caught

pub drive_four-requires-4-clause-open : goal.drive_four-requires-4-clause-open
drive_four-requires-4-clause-open c = subst (λ (x : ℕ). CanDrive c.drive_four-3.new.b.design x (c.args.first + 12) c.args.n.item) (sym (c.drive_four-3.ensures.drives.entry ∙ c.drive_four-2.ensures.drives.entry ∙ c.drive_four.ensures.drives.entry)) (can_drive c.drive_four-3.new.b.design c.args.pool.now c.args.b.now.entry (c.args.first + 12) _ _ _ _ _ _ _ _ c.args.n.item (open_stays c.drive_four-2.new.b.design c.drive_four-3.new.b.design c.args.b.now.entry (c.args.first + 12) _ _ _ _ _ _ _ _ (let n = c.drive_four-3.ensures.drives.count in omega arith) (λ k a b. c.drive_four-3.ensures.others k (inr (omega arith))) (open_stays c.drive_four.new.b.design c.drive_four-2.new.b.design c.args.b.now.entry (c.args.first + 12) _ _ _ _ _ _ _ _ (let n = c.drive_four-2.ensures.drives.count in omega arith) (λ k a b. c.drive_four-2.ensures.others k (inr (omega arith))) (open_stays c.args.b.now.design c.drive_four.new.b.design c.args.b.now.entry (c.args.first + 12) _ _ _ _ _ _ _ _ (let n = c.drive_four.ensures.drives.count in omega arith) (λ k a b. c.drive_four.ensures.others k (inr (omega arith))) c.requires.open.1.item))) c.requires.nets.item)

pub drive_four-requires-4-clause-nets : goal.drive_four-requires-4-clause-nets
drive_four-requires-4-clause-nets c = own_widths c.args.pool.now c.args.n.item _ _ _ _ c.requires.nets.item

pub drive_four-requires-4-clause-scope : goal.drive_four-requires-4-clause-scope
drive_four-requires-4-clause-scope c = subst (λ s. AreFourIn s c.args.pool.now c.args.n.item) (sym (c.drive_four-3.ensures.drives.scope ∙ c.drive_four-2.ensures.drives.scope ∙ c.drive_four.ensures.drives.scope)) c.requires.scope.item

pub returns-clause-drives : goal.returns-clause-drives
returns-clause-drives c =
    drives_then c.args.b.now c.drive_four-3.new.b c.drive_four-4.new.b 12 4 16
    (drives_then c.args.b.now c.drive_four-2.new.b c.drive_four-3.new.b 8 4 12
    (drives_then c.args.b.now c.drive_four.new.b c.drive_four-2.new.b 4 4 8 c.drive_four.ensures.drives c.drive_four-2.ensures.drives (omega arith)) c.drive_four-3.ensures.drives (omega arith))
    c.drive_four-4.ensures.drives (omega arith)

pub returns-clause-front : goal.returns-clause-front
returns-clause-front c = λ reset_pc opened. driven_stays c.drive_four-3.new.b.design c.drive_four-4.new.b.design c.args.b.now.entry (c.args.first) _ _ _ _ _ _ _ _ c.args.n.front (λ k a b. c.drive_four-4.ensures.others k (inl (omega arith))) (driven_stays c.drive_four-2.new.b.design c.drive_four-3.new.b.design c.args.b.now.entry (c.args.first) _ _ _ _ _ _ _ _ c.args.n.front (λ k a b. c.drive_four-3.ensures.others k (inl (omega arith))) (driven_stays c.drive_four.new.b.design c.drive_four-2.new.b.design c.args.b.now.entry (c.args.first) _ _ _ _ _ _ _ _ c.args.n.front (λ k a b. c.drive_four-2.ensures.others k (inl (omega arith))) (four_driven c.args.b.now.design c.drive_four.new.b.design c.args.b.now.entry (c.args.first) _ _ _ _ _ _ _ _ c.args.n.front opened.front c.drive_four.ensures.first c.drive_four.ensures.second c.drive_four.ensures.third c.drive_four.ensures.fourth)))

pub returns-clause-reading : goal.returns-clause-reading
returns-clause-reading c = driven_stays c.drive_four-3.new.b.design c.drive_four-4.new.b.design c.args.b.now.entry (c.args.first + 4) _ _ _ _ _ _ _ _ c.args.n.reading (λ k a b. c.drive_four-4.ensures.others k (inl (omega arith))) (driven_stays c.drive_four-2.new.b.design c.drive_four-3.new.b.design c.args.b.now.entry (c.args.first + 4) _ _ _ _ _ _ _ _ c.args.n.reading (λ k a b. c.drive_four-3.ensures.others k (inl (omega arith))) (four_driven c.drive_four.new.b.design c.drive_four-2.new.b.design c.args.b.now.entry (c.args.first + 4) _ _ _ _ _ _ _ _ c.args.n.reading (open_stays c.args.b.now.design c.drive_four.new.b.design c.args.b.now.entry (c.args.first + 4) _ _ _ _ _ _ _ _ (let n = c.drive_four.ensures.drives.count in omega arith) (λ k a b. c.drive_four.ensures.others k (inr (omega arith))) c.requires.open.1.reading) c.drive_four-2.ensures.first c.drive_four-2.ensures.second c.drive_four-2.ensures.third c.drive_four-2.ensures.fourth))

pub returns-clause-caught : goal.returns-clause-caught
returns-clause-caught c = driven_stays c.drive_four-3.new.b.design c.drive_four-4.new.b.design c.args.b.now.entry (c.args.first + 8) _ _ _ _ _ _ _ _ c.args.n.caught (λ k a b. c.drive_four-4.ensures.others k (inl (omega arith))) (four_driven c.drive_four-2.new.b.design c.drive_four-3.new.b.design c.args.b.now.entry (c.args.first + 8) _ _ _ _ _ _ _ _ c.args.n.caught (open_stays c.drive_four.new.b.design c.drive_four-2.new.b.design c.args.b.now.entry (c.args.first + 8) _ _ _ _ _ _ _ _ (let n = c.drive_four-2.ensures.drives.count in omega arith) (λ k a b. c.drive_four-2.ensures.others k (inr (omega arith))) (open_stays c.args.b.now.design c.drive_four.new.b.design c.args.b.now.entry (c.args.first + 8) _ _ _ _ _ _ _ _ (let n = c.drive_four.ensures.drives.count in omega arith) (λ k a b. c.drive_four.ensures.others k (inr (omega arith))) c.requires.open.1.caught)) c.drive_four-3.ensures.first c.drive_four-3.ensures.second c.drive_four-3.ensures.third c.drive_four-3.ensures.fourth)

pub returns-clause-item : goal.returns-clause-item
returns-clause-item c = four_driven c.drive_four-3.new.b.design c.drive_four-4.new.b.design c.args.b.now.entry (c.args.first + 12) _ _ _ _ _ _ _ _ c.args.n.item (open_stays c.drive_four-2.new.b.design c.drive_four-3.new.b.design c.args.b.now.entry (c.args.first + 12) _ _ _ _ _ _ _ _ (let n = c.drive_four-3.ensures.drives.count in omega arith) (λ k a b. c.drive_four-3.ensures.others k (inr (omega arith))) (open_stays c.drive_four.new.b.design c.drive_four-2.new.b.design c.args.b.now.entry (c.args.first + 12) _ _ _ _ _ _ _ _ (let n = c.drive_four-2.ensures.drives.count in omega arith) (λ k a b. c.drive_four-2.ensures.others k (inr (omega arith))) (open_stays c.args.b.now.design c.drive_four.new.b.design c.args.b.now.entry (c.args.first + 12) _ _ _ _ _ _ _ _ (let n = c.drive_four.ensures.drives.count in omega arith) (λ k a b. c.drive_four.ensures.others k (inr (omega arith))) c.requires.open.1.item))) c.drive_four-4.ensures.first c.drive_four-4.ensures.second c.drive_four-4.ensures.third c.drive_four-4.ensures.fourth
