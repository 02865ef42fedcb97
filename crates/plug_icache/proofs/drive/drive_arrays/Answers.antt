use Rattle.std.proofs.Common.{◌≡◌, ◌∙◌, ℕ, ◌+◌, ◌-◌, ◌<◌, Bool, Some, None, cond, ltb, length, inl, inr, ap, sym, subst, arith}
use Rattle.std.proofs.lemmas.Bool.{cases_eq}
use Rattle.hw_gates.proofs.Has.{in_scope}
use Rattle.hw_module.specs.declared.rows.Owner.TheVariants.{Entry}
use Rattle.hw_module.specs.declared.rows.ArrayRow.{ArrayRow}
use Rattle.hw_module.specs.declared.rows.ArrayWrite.{ArrayWrite}
use Rattle.hw_module.specs.Rights.{Makes}
use Rattle.hw_module.specs.Rows.{ModuleValue, array_at, reg_at, wire_at}
use Rattle.hw_module.specs.Scope.{scope_of, input_width}
use Rattle.hw_module.proofs.Makes.{makes_then}
use Rattle.plug_icache.proofs.Arrays.{array_scope, shape_same}
use Rattle.plug_icache.proofs.drive.drive_arrays.Goals as goal

pub write-requires-clause-enable : goal.write-requires-clause-enable
write-requires-clause-enable c = in_scope (scope_of c.args.b.now.design) c.args.pool.now c.args.n.tag.enable c.requires.nets.tag.enable.0 c.requires.scope.tag.enable

pub write-requires-clause-addr : goal.write-requires-clause-addr
write-requires-clause-addr c = in_scope (scope_of c.args.b.now.design) c.args.pool.now c.args.n.tag.addr c.requires.nets.tag.addr.0 c.requires.scope.tag.addr

pub write-requires-clause-value : goal.write-requires-clause-value
write-requires-clause-value c = in_scope (scope_of c.args.b.now.design) c.args.pool.now c.args.n.tag.value c.requires.nets.tag.value.0 c.requires.scope.tag.value

pub write-requires-2-clause-enable : goal.write-requires-2-clause-enable
write-requires-2-clause-enable c = c.write.ensures.kept c.args.pool.now c.args.n.cell.enable (in_scope (scope_of c.args.b.now.design) c.args.pool.now c.args.n.cell.enable c.requires.nets.cell.enable.0 c.requires.scope.cell.enable)

pub write-requires-2-clause-addr : goal.write-requires-2-clause-addr
write-requires-2-clause-addr c = c.write.ensures.kept c.args.pool.now c.args.n.cell.addr (in_scope (scope_of c.args.b.now.design) c.args.pool.now c.args.n.cell.addr c.requires.nets.cell.addr.0 c.requires.scope.cell.addr)

pub write-requires-2-clause-value : goal.write-requires-2-clause-value
write-requires-2-clause-value c = c.write.ensures.kept c.args.pool.now c.args.n.cell.value (in_scope (scope_of c.args.b.now.design) c.args.pool.now c.args.n.cell.value c.requires.nets.cell.value.0 c.requires.scope.cell.value)

pub write-requires-2-clause-free : goal.write-requires-2-clause-free
write-requires-2-clause-free c =
    ap (λ (row : ArrayRow). row.write) (c.write.ensures.others (c.args.tags + 1) (λ e. absurd (omega arith)) ∙ c.requires.open.cell)

pub write-requires-2-clause-there : goal.write-requires-2-clause-there
write-requires-2-clause-there c = let n = c.write.ensures.count in let t = c.requires.open.there in omega (arith, n, t)

pub write-requires-2-clause-bits : goal.write-requires-2-clause-bits
write-requires-2-clause-bits c =
    c.requires.nets.cell.addr.1 ∙ sym (ap (λ (row : ArrayRow). row.bits) (c.write.ensures.others (c.args.tags + 1) (λ e. absurd (omega arith)) ∙ c.requires.open.cell))

pub write-requires-2-clause-width : goal.write-requires-2-clause-width
write-requires-2-clause-width c =
    c.requires.nets.cell.value.1 ∙ sym (ap (λ (row : ArrayRow). row.width) (c.write.ensures.others (c.args.tags + 1) (λ e. absurd (omega arith)) ∙ c.requires.open.cell))

pub returns-clause-tag : goal.returns-clause-tag
returns-clause-tag c =
    c.write-2.ensures.others c.args.tags (λ e. absurd (omega arith))
    ∙ (c.write.ensures.driven ∙ ap (λ (row : ArrayRow). record row { write = Some (record { enable = c.args.n.tag.enable; addr = c.args.n.tag.addr; value = c.args.n.tag.value }) }) c.requires.open.tag)

pub returns-clause-cell : goal.returns-clause-cell
returns-clause-cell c =
    c.write-2.ensures.driven
    ∙ ap (λ (row : ArrayRow). record row { write = Some (record { enable = c.args.n.cell.enable; addr = c.args.n.cell.addr; value = c.args.n.cell.value }) })
    (c.write.ensures.others (c.args.tags + 1) (λ e. absurd (omega arith)) ∙ c.requires.open.cell)

pub returns-clause-writes : goal.returns-clause-writes
returns-clause-writes c =
    let a = c.write.ensures in
    let b = c.write-2.ensures in
    let d0 = c.args.b.now.design in
    let d1 = c.write.new.self.design in
    let d2 = c.write-2.new.self.design in
    record {
      entry = b.entry ∙ a.entry;
      wires = b.wires ∙ a.wires;
      regs = b.regs ∙ a.regs;
      outs = b.outs ∙ a.outs;
      count = b.count ∙ a.count;
      room = let x = a.room in let y = b.room in omega (arith, x, y);
      makes = λ r. makes_then (Entry c.args.b.now.entry) r d0 d1 d2 1 1 2 (a.makes r (ap (λ (row : ArrayRow). row.owner) c.requires.open.tag))
          (subst (λ (e : ℕ). Makes (Entry e) r d1 d2 1) a.entry
          (b.makes r (ap (λ (row : ArrayRow). row.owner) (c.write.ensures.others (c.args.tags + 1) (λ e. absurd (omega arith)) ∙ c.requires.open.cell) ∙ ap Entry (sym a.entry)))) (omega arith);
      scope = array_scope d1 d2 b.wires b.regs b.count (shape_same d1 d2 (c.args.tags + 1) _ b.driven b.others)
          ∙ array_scope d0 d1 a.wires a.regs a.count (shape_same d0 d1 c.args.tags _ a.driven a.others);
    }
