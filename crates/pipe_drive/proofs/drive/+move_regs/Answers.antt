use Rattle.std.proofs.Common.{◌+◌, length, subst, ap, arith}
use Rattle.hw_expr.specs.declared.net.Net.{Net}
use Rattle.hw_module.specs.declared.rows.Owner.TheVariants.{Pipe}
use Rattle.pipe_drive.specs.Drives.{CanMoveAll}
use Rattle.pipe_drive.proofs.Lists.{split, rest_of}
use Rattle.pipe_drive.proofs.Regs.{can_move, moves_more}
use Rattle.pipe_drive.proofs.drive.+move_regs.Goals as goal

-- stands where a list has no net
abbrev no_net : Net
no_net = record { id = record { 0 = 0 }; width = 0; level = 0 }

pub move_regs-requires : goal.move_regs-requires
move_regs-requires t c =
    let e = c.next.ensures in
    let is = split no_net c.args.nets.now c.in-len1-up.len_at_least in
    let many = ap length is in
    let fit = subst (λ xs. CanMoveAll c.args.m.now c.args.pool.now c.args.first xs) is c.requires.fit in (
      omega arith,
      (
        omega (arith, e.room),
        (
          omega arith,
          can_move (record { others = e.others; count = e.count; wires = e.wires; arrays = e.arrays; outs = e.outs; grows = e.grows; makes = λ r. e.makes Pipe r fit.0.own })
              c.args.pool.now (c.args.first + 1) (rest_of c.args.nets.now) (omega arith) fit.1,
        ),
      ),
    )

pub returns-in-len1-up-clause-only : goal.returns-in-len1-up-clause-only
returns-in-len1-up-clause-only t c =
    let e = c.next.ensures in
    let is = split no_net c.args.nets.now c.in-len1-up.len_at_least in
    let fit = subst (λ xs. CanMoveAll c.args.m.now c.args.pool.now c.args.first xs) is c.requires.fit in
    moves_more (record { others = e.others; count = e.count; wires = e.wires; arrays = e.arrays; outs = e.outs; grows = e.grows; makes = λ r. e.makes Pipe r fit.0.own })
    c.move_regs.new.m (length (rest_of c.args.nets.now)) (length c.args.nets.now) c.move_regs.ensures.only (ap length is)
