-- A module of which each thing is driven has as many things as are counted with their drivers.
use Rattle.std.proofs.Common.{◌≡◌, ℕ, suc, ◌+◌, ◌<◌, List, [], ◌∷◌, length, get_or, refl, arith, Option, None, Some}
use Rattle.std.specs.Prelude.{sum_by}
use Rattle.std.proofs.lemmas.List.Sums.{sum_by-cons}
use Rattle.hw_pool.specs.Nodes.{PoolValue}
use Rattle.hw_expr.specs.declared.net.Net.{Net}
use Rattle.hw_module.specs.declared.rows.WireRow.{WireRow}
use Rattle.hw_module.specs.declared.rows.RegRow.{RegRow}
use Rattle.hw_module.specs.declared.rows.ArrayRow.{ArrayRow}
use Rattle.hw_module.specs.Rows.{ModuleValue}
use Rattle.hw_module.specs.Frame.{count_of, fill_of}
use Rattle.hw_module.specs.Driven.{IsDriven}
use Rattle.module_netlist.specs.Written.{out_count, thing_count}

there_counts : {A : Type 0} (o : Option A) → (o ≡ None → ⊥) → count_of o ≡ 1
there_counts None none = absurd (none refl)
there_counts (Some x) none = refl

-- rows of which each has a driver count twice
twice : {A D : Type 0} (driver : A → Option D) (d : A) (rows : List A) → ((k : ℕ) → k < length rows → driver (get_or rows k d) ≡ None → ⊥)
    → sum_by (λ r. 1 + count_of (driver r)) rows ≡ length rows + length rows
twice driver d [] all = refl
twice driver d (r ∷ rs) all =
    let rest = twice driver d rs (λ k l. all (suc k) (omega arith)) in
    let here = there_counts (driver r) (all 0 (omega arith)) in
    let sum = sum_by-cons (λ x. 1 + count_of (driver x)) r rs in
    omega (arith, rest, here, sum)

outs_count : (outs : List (Option Net)) → sum_by count_of outs ≡ out_count outs
outs_count [] = refl
outs_count (None ∷ rest) = let more = sum_by-cons (count_of {A = Net}) None rest in let counted = outs_count rest in omega (arith, more, counted)
outs_count (Some net ∷ rest) = let more = sum_by-cons (count_of {A = Net}) (Some net) rest in let counted = outs_count rest in omega (arith, more, counted)

pub things_are : (m : ModuleValue) (pool : PoolValue) → IsDriven m → thing_count m pool ≡ length pool.nodes + fill_of m
things_are m pool driven =
    let wires = twice (λ (r : WireRow). r.driver) _ m.wires driven.wires in
    let regs = twice (λ (r : RegRow). r.next) _ m.regs driven.regs in
    let arrays = twice (λ (r : ArrayRow). r.write) _ m.arrays driven.arrays in
    let outs = outs_count m.outs in
    omega (arith, wires, regs, arrays, outs)
