-- Immediates as parts of a word with the sign repeated above.
use Rattle.std.proofs.Common.{◌≡◌, ◌∙◌, ◌<◌, ℕ, ◌+◌, ◌*◌, ◌/◌, ◌%◌, ◌^◌, arith, sym}
use Rattle.std.proofs.lemmas.Bool.Decides.{nat_tests}
use Rattle.core_words.specs.Values.{choose, bits_of, join_of}
use Rattle.core_words.specs.Fields.{extend, imm_b, imm_i, imm_j, imm_s, imm_u}

extend-12 : (v : ℕ) → v < 4096 → join_of 12 (choose (v / 2048 % 2) 0xfffff 0) v ≡ extend 12 v
extend-12 v h = grind (arith, nat_tests)

sign-12 : (v : ℕ) → v / 2147483648 % 2 ≡ v / 1048576 % 4096 / 2048 % 2
sign-12 v = omega arith

pub imm_i_is : (v : ℕ) → imm_i v ≡ join_of 12 (choose (bits_of v 31 31) 0xfffff 0) (bits_of v 31 20)
unfolding imm_i
imm_i_is v = sym ((λ i. join_of 12 (choose (sign-12 v i) 0xfffff 0) (bits_of v 31 20)) ∙ extend-12 (bits_of v 31 20) (omega arith))

pub imm_s_is : (v : ℕ) → imm_s v ≡ join_of 12 (choose (bits_of v 31 31) 0xfffff 0) (join_of 5 (bits_of v 31 25) (bits_of v 11 7))
unfolding imm_s
imm_s_is v =
    let n = bits_of v 31 25 * 32 + bits_of v 11 7 in
    let sign : bits_of v 31 31 ≡ n / 2048 % 2 = omega arith in
    sym ((λ i. join_of 12 (choose (sign i) 0xfffff 0) n) ∙ extend-12 n (omega arith))

pub imm_u_is : (v : ℕ) → imm_u v ≡ join_of 12 (bits_of v 31 12) 0
unfolding imm_u
imm_u_is v = omega arith

extend-13 : (v : ℕ) → v < 8192 → choose (v / 4096 % 2) 0x7ffff 0 * 8192 + v ≡ extend 13 v
extend-13 v h = grind (arith, nat_tests)

extend-21 : (v : ℕ) → v < 2097152 → choose (v / 1048576 % 2) 0x7ff 0 * 2097152 + v ≡ extend 21 v
extend-21 v h = grind (arith, nat_tests)

-- the parts of the B format under the sign
abbrev pub parts_b : (s t m l : ℕ) → ℕ
parts_b s t m l = join_of 13 (choose s 0x7ffff 0) (join_of 12 s (join_of 11 t (join_of 5 m (join_of 1 l 0))))

b-at : (s t m l : ℕ) → s < 2 → t < 2 → m < 64 → l < 16 → parts_b s t m l ≡ extend 13 (s * 2 ^ 12 + t * 2 ^ 11 + m * 2 ^ 5 + l * 2)
b-at s t m l hs ht hm hl =
    let v = s * 4096 + t * 2048 + m * 32 + l * 2 in
    let sign : s ≡ v / 4096 % 2 = omega arith in
    let sum : join_of 12 s (join_of 11 t (join_of 5 m (join_of 1 l 0))) ≡ v = omega arith in
    (λ i. join_of 13 (choose (sign i) 0x7ffff 0) (sum i)) ∙ extend-13 v (omega arith)

pub imm_b_is : (v : ℕ) → imm_b v ≡ parts_b (bits_of v 31 31) (bits_of v 7 7) (bits_of v 30 25) (bits_of v 11 8)
unfolding imm_b
imm_b_is v = sym (b-at (bits_of v 31 31) (bits_of v 7 7) (bits_of v 30 25) (bits_of v 11 8) (omega arith) (omega arith) (omega arith) (omega arith))

abbrev pub parts_j : (s t m l : ℕ) → ℕ
parts_j s t m l = join_of 21 (choose s 0x7ff 0) (join_of 20 s (join_of 12 t (join_of 11 m (join_of 1 l 0))))

j-at : (s t m l : ℕ) → s < 2 → t < 256 → m < 2 → l < 1024 → parts_j s t m l ≡ extend 21 (s * 2 ^ 20 + t * 2 ^ 12 + m * 2 ^ 11 + l * 2)
j-at s t m l hs ht hm hl =
    let v = s * 1048576 + t * 4096 + m * 2048 + l * 2 in
    let sign : s ≡ v / 1048576 % 2 = omega arith in
    let sum : join_of 20 s (join_of 12 t (join_of 11 m (join_of 1 l 0))) ≡ v = omega arith in
    (λ i. join_of 21 (choose (sign i) 0x7ff 0) (sum i)) ∙ extend-21 v (omega arith)

pub imm_j_is : (v : ℕ) → imm_j v ≡ parts_j (bits_of v 31 31) (bits_of v 19 12) (bits_of v 20 20) (bits_of v 30 21)
unfolding imm_j
imm_j_is v = sym (j-at (bits_of v 31 31) (bits_of v 19 12) (bits_of v 20 20) (bits_of v 30 21) (omega arith) (omega arith) (omega arith) (omega arith))

below : (v : ℕ) → v < 4096 → extend 12 v < 4294967296
below v h = grind (arith, nat_tests)

-- an immediate of the I format is below 2 ^ 32
pub imm_i_fits : (v : ℕ) → imm_i v < 2 ^ 32
unfolding imm_i
imm_i_fits v = below (bits_of v 31 20) (omega arith)
