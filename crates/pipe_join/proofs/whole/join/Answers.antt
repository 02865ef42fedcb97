use Rattle.std.proofs.Common.{◌+◌, refl, sym, subst, arith}
use Rattle.hw_pool.proofs.Frames.{adds_then}
use Rattle.pipe_drive.proofs.Left.{pipe_leaves}
use Rattle.pipe_join.specs.Pipelined.{AreCommits}
use Rattle.pipe_join.proofs.Counts.{things_are}
use Rattle.pipe_join.proofs.Phase.{pipelined, ready, shape_fits}
use Rattle.pipe_join.proofs.whole.join.Goals as goal

pub build_pipe-requires-clause-ready : goal.build_pipe-requires-clause-ready
build_pipe-requires-clause-ready g c = ready _ _ _ _ c.in-Ok-build_boxes.ensures.left c.in-Ok-build_boxes.ensures.joined.built

pub build_pipe-requires-clause-least : goal.build_pipe-requires-clause-least
build_pipe-requires-clause-least g c = (shape_fits _ _ _ c.requires.plan).at_least

pub build_pipe-requires-clause-most : goal.build_pipe-requires-clause-most
build_pipe-requires-clause-most g c = (shape_fits _ _ _ c.requires.plan).at_most

pub returns-clause-pipelined : goal.returns-clause-pipelined
returns-clause-pipelined g c =
    let builds = c.build_pipe.ensures.builds in
    let are = subst (AreCommits _ _ _ _) (sym c.deref.ensures.value) c.in-Ok.ensures.are in (
      _,
      pipelined _ _ _ _ _ _ _ _ c.in-Ok-build_boxes.ensures.joined c.in-Ok-build_boxes.ensures.fits builds refl
          (λ takes entry. pipe_leaves _ c.in-Ok-build_boxes.ensures.fits _ _ refl builds.makes takes entry)
          c.build_pipe.ensures.fits c.deref.result.now are _ _ c.build_pipe.ensures.pipeline,
    )

pub returns-clause-over : goal.returns-clause-over
returns-clause-over g c =
    let boxes = c.in-Ok-build_boxes.ensures.over in
    let pipe = c.build_pipe.ensures.builds in
    (boxes.0 + pipe.nodes, adds_then _ _ _ boxes.0 pipe.nodes (boxes.0 + pipe.nodes) boxes.1 pipe.adds (omega arith))

pub returns-clause-small : goal.returns-clause-small
returns-clause-small g c =
    let builds = c.build_pipe.ensures.builds in
    let made = c.in-Ok-build_boxes.ensures in
    let count = things_are _ c.build_pipe.new.pool c.build_pipe.ensures.driven in
    omega (arith, builds.sum, builds.adds.most, builds.makes.grows.fill, made.spent, made.small, made.left.units, count)
