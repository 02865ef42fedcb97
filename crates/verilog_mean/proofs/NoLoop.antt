-- A ranked module has no loop.
use Rattle.std.proofs.Common.{◌≡◌, ℕ, ◌<◌, true, List, arith}
use Rattle.verilog_mean.specs.Plain.{Plain}
use Rattle.verilog_mean.specs.Loops.{Depends, HasNoLoop}
use Rattle.verilog_mean.specs.Loops.Depends.{direct, further}
use Rattle.verilog_mean.specs.Order.{IsRanked}
use Rattle.verilog_mean.proofs.Ordered.{ordered, rank_of, ordered_is_ranked}

falls : (m : Plain) (rank : List ℕ → ℕ) → IsRanked m rank → {x y : List ℕ} → Depends m x y → rank y < rank x
falls m rank ranked (direct {x = x} {y = y} {e = e} d q) = ranked.lower x y e d q
falls m rank ranked (further {x = x} {y = y} {z = z} a b) =
    let p : rank y < rank x = falls m rank ranked a in
    let q : rank z < rank y = falls m rank ranked b in
    omega arith

pub ranked_no_loop : (m : Plain) (rank : List ℕ → ℕ) → IsRanked m rank → HasNoLoop m
ranked_no_loop m rank ranked x d = let h : rank x < rank x = falls m rank ranked d in absurd (omega arith)

pub ordered_no_loop : (m : Plain) → ordered m ≡ true → HasNoLoop m
ordered_no_loop m h = ranked_no_loop m (rank_of m) (ordered_is_ranked m h)
