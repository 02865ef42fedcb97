-- The place of the fault in a malformed token.
use Rattle.std.proofs.Common.{◌≡◌, ℕ, suc, ◌-◌, ◌<◌, ◌≤◌, true, false, List, [], ◌∷◌, length, take, drop, get_or, Option, Some, None, refl, sym, ap, ◌∙◌, arith}
use Rattle.std.proofs.Math.Seq.{take-length}
use Rattle.verilog_tree.specs.Bytes.{is_digit, is_letter, behind}
use Rattle.verilog_tree.specs.Lex.{in_base}
use Rattle.verilog_read.specs.Faults.{with_byte, fault_in_digits, fault_behind_base, fault_behind_digits, fault_in_number, fault_of}
use Rattle.verilog_read.specs.Forms.{form_at}
use Rattle.verilog_read.specs.declared.refusal.UnsupportedForm.{UnsupportedForm}
use Rattle.verilog_read.proofs.Values.{run_is}

-- ---- a literal's digits

pub none_at : (base most value : ℕ) (rest : List ℕ) → 1 ≤ length rest → with_byte base most value (get_or rest 0 0) ≡ None → fault_in_digits base most value rest ≡ 0
none_at base most value [] l h = absurd (omega arith)
none_at base most value (b ∷ bs) l h = rw h refl

pub some_at : (base most value v : ℕ) (rest : List ℕ) → 1 ≤ length rest → with_byte base most value (get_or rest 0 0) ≡ Some v
    → fault_in_digits base most value rest ≡ suc (fault_in_digits base most v (drop 1 rest))
some_at base most value v [] l h = absurd (omega arith)
some_at base most value v (b ∷ bs) l h = rw h refl

pub no_more : (base most value : ℕ) (rest : List ℕ) → length rest ≡ 0 → fault_in_digits base most value rest ≡ 0
no_more base most value [] l = refl
no_more base most value (b ∷ bs) l = absurd (omega arith)

pub base_none : (base most : ℕ) (digits : List ℕ) → length digits ≡ 0 → fault_behind_base base most digits ≡ 0
base_none base most [] l = refl
base_none base most (b ∷ bs) l = absurd (omega arith)

pub base_other : (base most : ℕ) (digits : List ℕ) → in_base base (get_or digits 0 0) ≡ false → fault_behind_base base most digits ≡ 0
base_other base most [] h = refl
base_other base most (b ∷ bs) h = rw h refl

pub base_digit : (base most : ℕ) (digits : List ℕ) → 0 < length digits → in_base base (get_or digits 0 0) ≡ true → fault_behind_base base most digits ≡ fault_in_digits base most 0 digits
base_digit base most [] l h = absurd (omega arith)
base_digit base most (b ∷ bs) l h = rw h refl

-- ---- a number

pub number_fault_is : (bytes rest : List ℕ) → 0 < length bytes → behind is_digit (take (length bytes - 1) (drop 1 bytes)) ≡ rest → fault_in_number bytes ≡ fault_behind_digits (take (length bytes - length rest) bytes) rest
number_fault_is bytes rest h e =
    let r = run_is is_digit bytes rest h e in
    ap fault_in_number r.parts ∙ (λ i. fault_behind_digits (sym r.text i) (r.behind_is i))

-- ---- a token

pub fault_word : (bytes : List ℕ) → 0 < length bytes → is_letter (get_or bytes 0 0) ≡ true → fault_of bytes ≡ 255
fault_word [] h l = absurd (omega arith)
fault_word (b ∷ bs) h l = rw l refl

pub fault_number : (bytes : List ℕ) → 0 < length bytes → is_letter (get_or bytes 0 0) ≡ false → is_digit (get_or bytes 0 0) ≡ true → fault_of bytes ≡ fault_in_number bytes
fault_number [] h l d = absurd (omega arith)
fault_number (b ∷ bs) h l d = rw (l, d) refl

pub fault_sign : (bytes : List ℕ) → 0 < length bytes → is_letter (get_or bytes 0 0) ≡ false → is_digit (get_or bytes 0 0) ≡ false → fault_of bytes ≡ 0
fault_sign [] h l d = absurd (omega arith)
fault_sign (b ∷ bs) h l d = rw (l, d) refl

pub ruleset faults = (fault_word, fault_number, fault_sign)

-- ---- a sign

pub sign_form : (bytes : List ℕ) (o : Option UnsupportedForm) → o ≡ form_at (get_or bytes 0 0) (take (length bytes - 1) (drop 1 bytes)) → (b : ℕ) (bs : List ℕ) → bytes ≡ b ∷ bs → o ≡ form_at b bs
sign_form [] o h b bs e = absurd (let k : ◌≡◌ {A = List ℕ} [] (b ∷ bs) = e in cc)
sign_form (c ∷ cs) o h b bs e =
    let one : suc (length cs) - 1 ≡ length cs = omega arith in
    let k : o ≡ form_at c cs = h ∙ ap (form_at c) (ap (λ (n : ℕ). take n cs) one ∙ take-length cs) in
    let first : c ≡ b = cc in
    let others : cs ≡ bs = cc in
    k ∙ (λ i. form_at (first i) (others i))
