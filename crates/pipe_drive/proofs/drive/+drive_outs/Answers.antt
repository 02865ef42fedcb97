use Rattle.std.proofs.Common.{length, subst, sym, ap, arith}
use Rattle.hw_module.specs.declared.rows.Owner.TheVariants.{Pipe}
use Rattle.plug_build.specs.Fits.{AreApart}
use Rattle.pipe_drive.specs.Drives.{CanShowAll, ShowsOnly, targets}
use Rattle.pipe_drive.proofs.Lists.{split, rest_of}
use Rattle.pipe_drive.proofs.Outs.{can_show, shows_more}
use Rattle.pipe_drive.proofs.drive.+drive_outs.Goals as goal

pub drive_outs-requires : goal.drive_outs-requires
drive_outs-requires t c =
    let e = c.output.ensures in
    let is = split _ c.args.drives.now c.in-len1-up.len_at_least in
    let many = ap length is in
    let apart = subst (λ xs. AreApart (targets xs)) is c.requires.apart in (
      omega arith,
      (
        omega (arith, e.room),
        (
          apart.1,
          can_show (record { others = e.others; count = e.count; wires = e.wires; regs = e.regs; arrays = e.arrays; grows = e.grows; makes = e.makes Pipe })
              c.args.pool.now (rest_of c.args.drives.now) apart.0 (subst (λ xs. CanShowAll c.args.m.now c.args.pool.now xs) is c.requires.fit).1,
        ),
      ),
    )

pub returns-in-len1-up-clause-only : goal.returns-in-len1-up-clause-only
returns-in-len1-up-clause-only t c =
    let e = c.output.ensures in
    let is = split _ c.args.drives.now c.in-len1-up.len_at_least in
    subst (λ xs. ShowsOnly (targets xs) c.args.m.now c.drive_outs.new.m (length c.args.drives.now)) (sym is)
    (shows_more (record { others = e.others; count = e.count; wires = e.wires; regs = e.regs; arrays = e.arrays; grows = e.grows; makes = e.makes Pipe })
    (targets (rest_of c.args.drives.now)) c.drive_outs.new.m (length (rest_of c.args.drives.now)) (length c.args.drives.now) c.drive_outs.ensures.only (ap length is))
