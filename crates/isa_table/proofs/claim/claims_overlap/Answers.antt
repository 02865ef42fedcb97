use Rattle.std.proofs.Common.{◌≡◌, bit_and, arith}
use Rattle.isa_table.proofs.Overlap.{overlap_iff, word_within}
use Rattle.isa_table.proofs.claim.claims_overlap.Goals as goal
use Rattle.isa_table.proofs.claim.claims_overlap.Goals.{then-is_within, else-is_within}

pub returns-then-is_within-2 : goal.returns-then-is_within-2
returns-then-is_within-2 c =
    elim c.if-is_within.branch [
      | then-is_within w ↦
          let h : bit_and c.args.a.value c.args.a.mask ≡ c.args.a.value = c.is_within.ensures.0 (cc) in
          let k : bit_and c.args.b.value c.args.b.mask ≡ c.args.b.value = w.is_within-then-is_within.ensures.0 (cc) in
          overlap_iff c.args.a.value c.args.a.mask c.args.b.value c.args.b.mask (omega arith) (omega arith) h k
      | else-is_within w ↦ absurd cc
    ]

pub returns-else-is_within-2 : goal.returns-else-is_within-2
returns-else-is_within-2 c =
    elim c.if-is_within.branch [
      | then-is_within w ↦ (λ h. absurd cc, λ x. absurd (let k = w.is_within-then-is_within.ensures.1 (word_within x.0 _ _ x.3) in cc))
      | else-is_within w ↦ (λ h. absurd cc, λ x. absurd (let k = c.is_within.ensures.1 (word_within x.0 _ _ x.2) in cc))
    ]
