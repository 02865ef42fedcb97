use Rattle.std.proofs.Common.{◌≡◌, ◌∙◌, ℕ, ◌+◌, ◌-◌, ◌*◌, ◌/◌, ◌%◌, ◌^◌, ◌<◌, length, take, drop, ap, sym, subst, arith, inl, inr}
use Rattle.std.proofs.lemmas.Bool.{cases_lt}
use Rattle.std.proofs.lemmas.Nat.{pow_pos}
use Rattle.core_words.specs.Values.{choose}
use Rattle.hw_pool.proofs.Frames.{adds_then}
use Rattle.hw_expr.specs.declared.net.Net.{Net}
use Rattle.hw_expr.specs.Nets.{InScope, IsNet, net_value}
use Rattle.hw_expr.specs.Lists.{net_at}
use Rattle.hw_expr.proofs.Values.{bit-picks}
use Rattle.hw_expr.proofs.Halves.{halves, half-pow, first-width, second-width, first-nets, second-nets}
use Rattle.hw_expr.proofs.choice.+select.Goals as goal

pub slice-bit-requires-clause-spare : goal.slice-bit-requires-clause-spare
slice-bit-requires-clause-spare t c =
    let two = halves c.args.list.now c.args.bits c.requires.items (omega arith) in
    omega (arith, two.some, two.whole)

pub select-low-requires : goal.select-low-requires
select-low-requires t c =
    let list = c.args.list.now in
    let two = halves list c.args.bits c.requires.items (omega arith) in
    let half = half-pow (length list) c.args.bits c.requires.items (omega arith) in (
      omega arith,
      (
        omega (arith, two.whole, two.first_length, c.slice-bit.ensures.adds.spare),
        (
          c.slice-bit.ensures.nets _ c.requires.index,
          (
            omega arith,
            (first-nets _ _ list _ _ _ c.requires.list two c.slice-bit.ensures.nets, two.first_length ∙ half),
          ),
        ),
      ),
    )

pub select-high-requires : goal.select-high-requires
select-high-requires t c =
    let list = c.args.list.now in
    let two = halves list c.args.bits c.requires.items (omega arith) in
    let half = half-pow (length list) c.args.bits c.requires.items (omega arith) in
    let stay : (n : Net) → IsNet c.args.pool.now n → IsNet c.select-low.new.pool n = λ n is. c.select-low.ensures.nets n (c.slice-bit.ensures.nets n is) in (
      omega arith,
      (
        omega (arith, two.whole, two.first_length, two.second_length, c.slice-bit.ensures.adds.spare, c.select-low.ensures.adds.spare),
        (
          stay _ c.requires.index,
          (
            omega arith,
            (second-nets _ _ list _ _ _ c.requires.list two stay, two.second_length ∙ half),
          ),
        ),
      ),
    )

pub mux-requires-clause-spare : goal.mux-requires-clause-spare
mux-requires-clause-spare t c =
    let two = halves c.args.list.now c.args.bits c.requires.items (omega arith) in
    omega (arith, two.some, two.whole, two.first_length, two.second_length, c.slice-bit.ensures.adds.spare, c.select-low.ensures.adds.spare, c.select-high.ensures.adds.spare)

pub mux-requires-clause-equal : goal.mux-requires-clause-equal
mux-requires-clause-equal t c =
    let list = c.args.list.now in
    let two = halves list c.args.bits c.requires.items (omega arith) in
    let first = first-width c.args.pool.now c.args.pool.now list _ _ _ c.requires.list two in
    let second = second-width c.args.pool.now c.args.pool.now list _ _ _ c.requires.list two in
    c.select-low.ensures.width ∙ first ∙ sym (c.select-high.ensures.width ∙ second)

pub returns-clause-width : goal.returns-clause-width
returns-clause-width t c =
    let list = c.args.list.now in
    let two = halves list c.args.bits c.requires.items (omega arith) in
    c.mux.ensures.width ∙ c.select-high.ensures.width ∙ second-width c.args.pool.now c.args.pool.now list _ _ _ c.requires.list two

pub returns-clause-level : goal.returns-clause-level
returns-clause-level t c = λ l.
    let two = halves c.args.list.now c.args.bits c.requires.items l in
    elim (cases_lt 0 (c.args.bits - 1)) [
      | inl more_bits ↦
          let low = c.select-low.ensures.level more_bits in
          let high = c.select-high.ensures.level more_bits in
          omega (arith, two.levels, c.mux.ensures.level, c.slice-bit.ensures.level)
      | inr last ↦
          let zero_left : c.args.bits - 1 ≡ 0 = omega arith in
          let low = c.select-low.ensures.leaf zero_left in
          let high = c.select-high.ensures.leaf zero_left in
          omega (arith, two.levels, c.mux.ensures.level, c.slice-bit.ensures.level)
    ]

pub returns-clause-adds : goal.returns-clause-adds
returns-clause-adds t c =
    let list = c.args.list.now in
    let h = length list / 2 in
    let two = halves list c.args.bits c.requires.items (omega arith) in
    let low = adds_then _ _ _ _ _ (2 * h - 1) c.slice-bit.ensures.adds c.select-low.ensures.adds (omega (arith, two.some, two.first_length)) in
    let high = adds_then _ _ _ _ _ (4 * h - 3) low c.select-high.ensures.adds (omega (arith, two.some, two.second_length)) in
    adds_then _ _ _ _ _ (2 * length list - 2) high c.mux.ensures.adds (omega (arith, two.some, two.whole))

pub returns-clause-nets : goal.returns-clause-nets
returns-clause-nets t c = λ n is. c.mux.ensures.nets n (c.select-high.ensures.nets n (c.select-low.ensures.nets n (c.slice-bit.ensures.nets n is)))

pub returns-clause-value : goal.returns-clause-value
returns-clause-value t c = λ env.
    let list = c.args.list.now in
    let b = c.args.bits in
    let h = length list / 2 in
    let two = halves list b c.requires.items (omega arith) in
    let half : h ≡ 2 ^ (b - 1) = half-pow (length list) b c.requires.items (omega arith) in
    let v = net_value env c.args.pool.now c.args.index in
    let r = v % 2 ^ (b - 1) in
    let p : 0 < 2 ^ (b - 1) = pow_pos (b - 1) in
    let below : r < h = omega arith in
    let bit1 = c.slice-bit.ensures.net in
    let bit2 = c.select-low.ensures.nets _ bit1 in
    let bit = c.select-high.ensures.values env _ bit2 ∙ c.select-low.ensures.values env _ bit1 ∙ c.slice-bit.ensures.value env in
    let index1 = c.slice-bit.ensures.nets _ c.requires.index in
    let one = c.slice-bit.ensures.values env _ c.requires.index in
    let other = c.select-low.ensures.values env _ index1 ∙ one in
    let at_low = c.requires.list.nets r (omega (arith, two.whole)) in
    let at_high = c.requires.list.nets (h + r) (omega (arith, two.whole)) in
    let low = c.select-high.ensures.values env _ c.select-low.ensures.net ∙ c.select-low.ensures.value env
    ∙ ap (λ (x : ℕ). net_value env c.slice-bit.new.pool (net_at (take h list) (x % 2 ^ (b - 1)))) one
    ∙ ap (net_value env c.slice-bit.new.pool) (two.first_at r below)
    ∙ c.slice-bit.ensures.values env _ at_low in
    let high = c.select-high.ensures.value env
    ∙ ap (λ (x : ℕ). net_value env c.select-low.new.pool (net_at (take (length list - h) (drop h list)) (x % 2 ^ (b - 1)))) other
    ∙ ap (net_value env c.select-low.new.pool) (two.second_at r below)
    ∙ c.select-low.ensures.values env _ (c.slice-bit.ensures.nets _ at_high)
    ∙ c.slice-bit.ensures.values env _ at_high in
    c.mux.ensures.value env ∙ (λ i. choose (bit i) (high i) (low i))
    ∙ bit-picks (λ k. net_value env c.args.pool.now (net_at list k)) v b h (omega arith) half

pub returns-clause-kept : goal.returns-clause-kept
returns-clause-kept t c = λ s n is. c.mux.ensures.kept s n (c.select-high.ensures.kept s n (c.select-low.ensures.kept s n (c.slice-bit.ensures.kept s n is)))

pub returns-clause-scope : goal.returns-clause-scope
returns-clause-scope t c = λ s index each.
    let list = c.args.list.now in
    let h = length list / 2 in
    let two = halves list c.args.bits c.requires.items (omega arith) in
    let index1 = c.slice-bit.ensures.kept s _ index in
    let each1 : (k : ℕ) → k < length list → InScope s c.slice-bit.new.pool (net_at list k) = λ k l. c.slice-bit.ensures.kept s _ (each k l) in
    let bit3 = c.select-high.ensures.kept s _ (c.select-low.ensures.kept s _ (c.slice-bit.ensures.scope s index)) in
    let low = c.select-low.ensures.scope s index1
    (λ k l. subst (InScope s c.slice-bit.new.pool) (sym (two.first_at k (omega (arith, two.first_length)))) (each1 k (omega (arith, two.whole, two.first_length)))) in
    let high = c.select-high.ensures.scope s (c.select-low.ensures.kept s _ index1)
    (λ k l. c.select-low.ensures.kept s _ (subst (InScope s c.slice-bit.new.pool) (sym (two.second_at k (omega (arith, two.second_length)))) (each1 (h + k) (omega (arith, two.whole, two.second_length))))) in
    c.mux.ensures.scope s bit3 high (c.select-high.ensures.kept s _ low)
