use Rattle.std.proofs.Common.{◌≤◌, ◌∙◌, refl, arith, length, drop}
use Rattle.core_host.specs.declared.host.Port.TheVariants.{Notes}
use Rattle.core_tool.proofs.Pushes.{on_err}
use Rattle.core_tool.specs.Pieces.{joined}
use Rattle.core_tool.proofs.Pieces.{Pushed-init, Pushed-step, Pushed-cut, Pushed-end, joined_end}
use Rattle.core_tool.proofs.lines.push_pieces.Goals as goal

pub loop-piece-init : goal.loop-piece-init
loop-piece-init g c = (
  Pushed-init (g.H.Host.pushed c.args.host.now Notes) (joined c.args.pieces.now),
  λ p other. refl,
  λ m. refl,
  refl,
  λ m was. was,
  λ m was. refl,
  omega arith,
  omega arith,
)

pub loop-piece-preserved : goal.loop-piece-preserved
loop-piece-preserved g c =
    let e = c.in_ok-push_piece.ensures in
    let i = c.loop-piece.invariant in (
      Pushed-step _ _ _ c.args.pieces.now c.loop-piece.piece-index _ c.loop-piece-test.true i.0 e.whole,
      λ p other. e.others p other ∙ i.1 p other,
      λ m. e.left m ∙ i.2 m,
      e.files ∙ i.3,
      λ m was. e.numbers m (i.4 m was),
      λ m was. e.names m (i.4 m was) ∙ i.5 m was,
      omega (arith, e.reads, i.6),
      omega (arith, e.writes, i.7),
    )

pub returns-in_err-push_piece-clause-part : goal.returns-in_err-push_piece-clause-part
returns-in_err-push_piece-clause-part g c =
    on_err _ (Pushed-cut _ _ _ c.args.pieces.now c.loop-piece.piece-index _ c.loop-piece-test.true c.loop-piece.invariant.0 c.in_err-push_piece.ensures.part)

pub returns-clause-whole : goal.returns-clause-whole
returns-clause-whole g c =
    let done : length c.args.pieces.now ≤ c.loop-piece.piece-index = omega arith in
    Pushed-end _ _ (joined c.args.pieces.now) (joined (drop c.loop-piece.piece-index c.args.pieces.now)) (joined_end c.args.pieces.now c.loop-piece.piece-index done) c.loop-piece.invariant.0
