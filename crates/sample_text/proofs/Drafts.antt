-- Modules under construction while nodes are added.
use Rattle.std.proofs.Common.{◌≡◌, ◌∙◌, ℕ, List, [], ◌∷◌, ◌++◌, length, arith, sym, ap, subst, inl, inr}
use Rattle.std.proofs.lemmas.Bool.{cases_lt}
use Rattle.std.proofs.lemmas.List.{get_or_append_left}
use Rattle.std.proofs.Math.Seq.{get_or-append_seam}
use Rattle.std.proofs.lemmas.List.{length-append}
use Rattle.hw_pool.specs.Nodes.{PoolValue}
use Rattle.hw_pool.specs.Frame.{Adds}
use Rattle.hw_pool.specs.Scope.{Scope}
use Rattle.hw_expr.specs.declared.net.Net.{Net}
use Rattle.hw_expr.specs.Lists.{net_at}
use Rattle.hw_expr.specs.Nets.{InScope}
use Rattle.hw_module.specs.Rows.{ModuleValue}
use Rattle.hw_module.specs.Scope.{scope_of}
use Rattle.hw_module.proofs.Drivers.{drivers_stay}
use Rattle.sample_text.specs.Draft.{IsDraft}

-- nodes are added
pub draft_still : (m : ModuleValue) (old new : PoolValue) (n : ℕ) (list : List Net) → ((s : Scope) (net : Net) → InScope s old net → InScope s new net)
    → Adds old new n → IsDraft m old list → IsDraft m new list
draft_still m old new n list kept adds h = record {
  nets = λ k there. kept (scope_of m) (net_at list k) (h.nets k there);
  drivers = drivers_stay m old new n adds h.drivers;
}

-- the list takes one more net
pub draft_more : (m : ModuleValue) (pool : PoolValue) (list : List Net) (net : Net) → IsDraft m pool list → InScope (scope_of m) pool net → IsDraft m pool (list ++ (net ∷ []))
draft_more m pool list net h is = record {
  nets = λ k there. elim (cases_lt k (length list)) [
    | inl low ↦ subst (InScope (scope_of m) pool) (sym (get_or_append_left list (net ∷ []) _ k low)) (h.nets k low)
    | inr high ↦
        let last : length list ≡ k = omega (arith, simp length-append at there) in
        subst (InScope (scope_of m) pool) (sym (ap (net_at (list ++ (net ∷ []))) (sym last) ∙ get_or-append_seam list net [] _)) is
  ];
  drivers = h.drivers;
}
