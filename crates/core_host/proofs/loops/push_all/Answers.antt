use Rattle.std.proofs.Common.{◌∙◌, arith, length-take, length-drop}
use Rattle.core_host.proofs.Ports.{Appends-rest}
use Rattle.core_host.proofs.loops.push_all.Goals as goal

-- one push more
pub loop-done-preserved : goal.loop-done-preserved
loop-done-preserved g c =
    let e = c.in_ok-done.ensures in
    let i = c.loop-done.invariant in
    let n = simp (length-take, length-drop) at e.count.1 in (
      omega arith,
      Appends-rest _ _ _ c.loop-done.done c.in_ok-done.field-0 _ i.1 e.bytes,
      λ p other. e.others p other ∙ i.2 p other,
      λ m. e.left m ∙ i.3 m,
      e.files ∙ i.4,
      λ m was. e.numbers m (i.5 m was),
      λ m was. e.names m (i.5 m was) ∙ i.6 m was,
      omega (arith, e.reads, i.7),
      omega (arith, e.writes, i.8),
    )
