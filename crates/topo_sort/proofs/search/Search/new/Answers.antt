use Rattle.std.proofs.Common.{◌≡◌, ℕ, zero, suc, ◌∷◌, ◌∙◌, ap, map, refl, replicate}
use Rattle.topo_sort.specs.Ranks.{rank_of}
use Rattle.topo_sort.specs.declared.mark.Mark.TheVariants.{New}
use Rattle.topo_sort.proofs.search.Search.new.Goals as goal

all_new : (n : ℕ) → map rank_of (replicate n New) ≡ replicate n 0
all_new zero = refl
all_new (suc n) = ap (λ xs. 0 ∷ xs) (all_new n)

pub returns-clause-marks : goal.returns-clause-marks
returns-clause-marks c =
    let e : c.in_ok-marks.marks.items ≡ replicate c.args.count New = c.in_ok-marks.ensures.items_if_clones_equal (λ y h. h) in
    ap (map rank_of) e ∙ all_new c.args.count
