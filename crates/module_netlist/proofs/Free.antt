-- The names of a module's things are words that are free: each has a digit, or is a port's.
use Rattle.std.proofs.Common.{◌≡◌, ℕ, ◌+◌, ◌%◌, ◌^◌, ◌<◌, ◌≤◌, Bool, true, false, ◌&&◌, ◌||◌, ◌==◌, nat_le, List, [], ◌∷◌, ◌++◌, length, codes, refl, ap, ◌∙◌, arith, length-append}
use Rattle.std.proofs.lemmas.Bool.Decides.{nat_tests}
use Rattle.std.proofs.lemmas.Fmt.{decimal_by_steps, length-decimal-le}
use Rattle.std.specs.Fmt.{decimal}
use Rattle.core_ports.specs.Ports.{CorePort, name_of}
use Rattle.core_ports.specs.Ports.CorePort.{clk}
use Rattle.hw_module.specs.declared.rows.Owner.{Owner}
use Rattle.hw_module.specs.declared.rows.Owner.TheVariants.{Pipe, Entry}
use Rattle.hw_module.specs.Ports.{port_at}
use Rattle.hw_module.specs.Rows.{ModuleValue, wire_at, reg_at, array_at, IsOwner, IsModule}
use Rattle.verilog_tree.specs.Bytes.{is_letter, is_digit, is_word_byte}
use Rattle.verilog_tree.specs.Words.{is_reserved, is_among, same_bytes, grammar_words, unsupported_words}
use Rattle.verilog_netlist.specs.Writable.{AreWordBytes, IsWord, IsFree}
use Rattle.module_netlist.specs.Names.{owner_name, node_name, wire_name, reg_name, array_name, port_name}

-- ---- a word with a digit is not reserved

abbrev digit_in : List ℕ → Bool
digit_in [] = false
digit_in (b ∷ bs) = is_digit b || digit_in bs

abbrev plain_word : Bool → Bool → Bool
plain_word true r = false
plain_word false r = r

abbrev no_digits : List (List ℕ) → Bool
no_digits [] = true
no_digits (w ∷ ws) = plain_word (digit_in w) (no_digits ws)

differ_here : (x y : ℕ) (r : Bool) → is_digit x ≡ true → is_digit y ≡ false → (x == y && r) ≡ false
differ_here x y r h k = grind (arith, nat_tests)

and_false : (a : Bool) (b : Bool) → b ≡ false → (a && b) ≡ false
and_false true b h = h
and_false false b h = refl

differ_case : (x y : ℕ) (xs ys : List ℕ) → (digit_in xs ≡ true → digit_in ys ≡ false → same_bytes xs ys ≡ false) → (dx dy : Bool) → is_digit x ≡ dx → is_digit y ≡ dy
    → (dx || digit_in xs) ≡ true → (dy || digit_in ys) ≡ false → (x == y && same_bytes xs ys) ≡ false
differ_case x y xs ys ih true true e f h k = absurd (grind arith)
differ_case x y xs ys ih true false e f h k = differ_here x y (same_bytes xs ys) e f
differ_case x y xs ys ih false true e f h k = absurd (grind arith)
differ_case x y xs ys ih false false e f h k = and_false (x == y) (same_bytes xs ys) (ih h k)

differ : (a b : List ℕ) → digit_in a ≡ true → digit_in b ≡ false → same_bytes a b ≡ false
differ [] b h k = absurd (grind arith)
differ (x ∷ xs) [] h k = refl
differ (x ∷ xs) (y ∷ ys) h k = differ_case x y xs ys (differ xs ys) (is_digit x) (is_digit y) refl refl h k

plain_both : (d r : Bool) → plain_word d r ≡ true → (d ≡ false) × (r ≡ true)
plain_both true r h = absurd (grind arith)
plain_both false r h = (refl, h)

none_among : (w : List ℕ) (ws : List (List ℕ)) → digit_in w ≡ true → no_digits ws ≡ true → is_among w ws ≡ false
none_among w [] h k = refl
none_among w (v ∷ vs) h k =
    let p = plain_both (digit_in v) (no_digits vs) k in
    ap (λ b. b || is_among w vs) (differ w v h (p.0)) ∙ none_among w vs h (p.1)

grammar_plain : no_digits grammar_words ≡ true
unfolding grammar_words
grammar_plain = refl

unsupported_plain : no_digits unsupported_words ≡ true
unfolding unsupported_words
unsupported_plain = refl

with_digit : (w : List ℕ) → digit_in w ≡ true → is_reserved w ≡ false
unfolding is_reserved
with_digit w h = ap (λ b. b || is_among w unsupported_words) (none_among w grammar_words h grammar_plain) ∙ none_among w unsupported_words h unsupported_plain

-- ---- the bytes of a number

or_right : (a b : Bool) → b ≡ true → (a || b) ≡ true
or_right true b h = refl
or_right false b h = h

digit_right : (xs ys : List ℕ) → digit_in ys ≡ true → digit_in (xs ++ ys) ≡ true
digit_right [] ys h = h
digit_right (x ∷ xs) ys h = or_right (is_digit x) (digit_in (xs ++ ys)) (digit_right xs ys h)

words_append : (xs ys : List ℕ) → AreWordBytes xs → AreWordBytes ys → AreWordBytes (xs ++ ys)
words_append [] ys h k = k
words_append (x ∷ xs) ys h k = (h.0, words_append xs ys (h.1) k)

decimal_fine : (n : ℕ) → n < 2 ^ 64 → (digit_in (decimal n) ≡ true) × AreWordBytes (decimal n)
decimal_fine n h =
    decimal_by_steps (λ k ds. (digit_in ds ≡ true) × AreWordBytes ds)
    (λ k l. (grind (arith, nat_tests), (grind (arith, nat_tests), tt)))
    (λ k ds l ih. (digit_right ds ((48 + k % 10) ∷ []) (grind (arith, nat_tests)), words_append ds ((48 + k % 10) ∷ []) (ih.1) (grind (arith, nat_tests), tt))) n h

ten_digits : (n : ℕ) → n < 2 ^ 32 → length (decimal n) ≤ 10
ten_digits n h = length-decimal-le 10 n (omega arith) (omega arith) (omega arith)

five_digits : (n : ℕ) → n < 65535 → length (decimal n) ≤ 5
five_digits n h = length-decimal-le 5 n (omega arith) (omega arith) (omega arith)

-- ---- the names of things other than ports

pub node_free : (k : ℕ) → k < 65535 → IsFree (node_name k)
node_free k h =
    let d = decimal_fine k (omega arith) in
    let s = five_digits k h in
    record { word = (refl, d.1); short = omega arith; free = with_digit (node_name k) (d.0) }

-- an owner, _, a letter and a number
abbrev owned : Owner → (letter k : ℕ) → List ℕ
owned o letter k = owner_name o ++ (95 ∷ letter ∷ decimal k)

owned_free : (o : Owner) (letter k : ℕ) → IsOwner o → is_word_byte letter ≡ true → k < 65535 → IsFree (owned o letter k)
owned_free Pipe letter k o w h =
    let d = decimal_fine k (omega arith) in
    let s = five_digits k h in
    record {
      word = (refl, (refl, (w, d.1)));
      short = omega arith;
      free = with_digit (owned Pipe letter k) (digit_right (115 ∷ 95 ∷ letter ∷ []) (decimal k) (d.0));
    }
owned_free (Entry e) letter k o w h =
    let d = decimal_fine k (omega arith) in
    let s = five_digits k h in
    let f = decimal_fine e (omega arith) in
    let t = ten_digits e o in
    let l = length-append (decimal e) (95 ∷ letter ∷ decimal k) in
    record {
      word = (refl, words_append (decimal e) (95 ∷ letter ∷ decimal k) (f.1) (refl, (w, d.1)));
      short = omega arith;
      free = with_digit (owned (Entry e) letter k) (digit_right (112 ∷ decimal e) (95 ∷ letter ∷ decimal k) (digit_right (95 ∷ letter ∷ []) (decimal k) (d.0)));
    }

module _ (m : ModuleValue) (is : IsModule m) where
  pub wire_free : (k : ℕ) → length m.wires ≤ 65535 → k < length m.wires → IsFree (wire_name m k)
  wire_free k few h = owned_free (wire_at m.wires k).owner 119 k (is.wire_owners k h) refl (omega arith)

  pub reg_free : (k : ℕ) → length m.regs ≤ 65535 → k < length m.regs → IsFree (reg_name m k)
  reg_free k few h = owned_free (reg_at m.regs k).owner 114 k (is.reg_owners k h) refl (omega arith)

  pub array_free : (k : ℕ) → length m.arrays ≤ 65535 → k < length m.arrays → IsFree (array_name m k)
  array_free k few h = owned_free (array_at m.arrays k).owner 97 k (is.array_owners k h) refl (omega arith)

-- ---- the names of ports, by a test

abbrev are_word_bytes : List ℕ → Bool
are_word_bytes [] = true
are_word_bytes (b ∷ bs) = is_word_byte b && are_word_bytes bs

abbrev is_word : List ℕ → Bool
is_word [] = false
is_word (b ∷ bs) = is_letter b && are_word_bytes bs

both : (a b : Bool) → (a && b) ≡ true → (a ≡ true) × (b ≡ true)
both true b h = (refl, h)
both false b h = absurd (grind arith)

word_bytes_are : (bs : List ℕ) → are_word_bytes bs ≡ true → AreWordBytes bs
word_bytes_are [] h = tt
word_bytes_are (b ∷ bs) h = let p = both (is_word_byte b) (are_word_bytes bs) h in (p.0, word_bytes_are bs (p.1))

word_is : (bs : List ℕ) → is_word bs ≡ true → IsWord bs
word_is [] h = absurd (grind arith)
word_is (b ∷ bs) h = let p = both (is_letter b) (are_word_bytes bs) h in (p.0, word_bytes_are bs (p.1))

pub free_by_test : (x : List ℕ) → is_word x ≡ true → nat_le (length x) 24 ≡ true → is_reserved x ≡ false → IsFree x
free_by_test x w s f = record { word = word_is x w; short = grind (arith, nat_tests); free = f }

pub core_free : IsFree (codes "core")
unfolding is_reserved grammar_words unsupported_words
core_free = free_by_test (codes "core") refl refl refl

pub port_name_free : (q : CorePort) → IsFree (name_of q)
unfolding name_of is_reserved grammar_words unsupported_words
port_name_free clk = free_by_test (name_of clk) refl refl refl
port_name_free q = free_by_test (name_of q) refl refl refl

pub port_free : (p : ℕ) → IsFree (port_name p)
port_free p = port_name_free (port_at p)
