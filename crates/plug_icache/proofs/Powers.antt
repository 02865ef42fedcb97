-- The numbers of lines and of words are powers of two, where no parameter was refused.
use Rattle.std.proofs.Common.{◌≡◌, ◌∙◌, ℕ, zero, suc, ◌^◌, ◌<◌, ◌≤◌, ◌&&◌, pos, negsuc, List, [], ◌∷◌, Bool, true, false, cond, eqb, leb, Option, None, Some, refl, sym, ap, subst, arith, codes}
use Rattle.std.specs.Int.{is_power_of_two}
use Rattle.std.proofs.lemmas.Bool.{agree_below_at, and_parts, both_ways, eqb-true, le-leb, leb-true}
use lib.Count.{ones}
use Rattle.core_words.specs.Names.{same_name}
use Rattle.stage_map.specs.declared.config.Param.{Param}
use Rattle.stage_map.specs.declared.config.ParamValue.{ParamValue}
use Rattle.stage_map.specs.declared.config.ParamValue.TheVariants.{Num, Flag, Word}
use Rattle.plug_api.specs.declared.spec.ParamFault.{ParamFault}
use Rattle.plug_kinds.specs.declared.kind.Kind.TheVariants as kind
use Rattle.plug_kinds.specs.declared.kind.Values.{Values}
use Rattle.plug_kinds.specs.declared.kind.Values.TheVariants.{Power}
use Rattle.plug_kinds.specs.Kinds.{is_of, fault_by, fault_of, first_of, given_or, number_of}
use Rattle.plug_kinds.proofs.Bounds.{words_most}
use Rattle.plug_icache.specs.Sizes.{lines_of, log_of, words_of}

abbrev IsPower : ℕ → Type 0
IsPower n = 2 ^ log_of n ≡ n

tested : ℕ → Bool
tested n = leb 2 n && is_power_of_two n

-- each power of two from 2 to 1024 has its logarithm
whole : (n : ℕ) → 2 ≤ n → n ≤ 1024 → is_power_of_two n ≡ true → IsPower n
unfolding tested log_of ones
whole n least most power =
    let yes : tested n ≡ true = λ j. le-leb 2 n least j && power j in
    eqb-true (2 ^ log_of n) n
    (and_parts (tested n) (eqb (2 ^ log_of n) n) (sym (agree_below_at tested (λ m. tested m && eqb (2 ^ log_of m) m) 1025 n refl (omega arith)) ∙ yes)).1

of_power : (low high : ℕ) → 2 ≤ low → high ≤ 1024 → (v : ParamValue) → is_of (Power low high) v ≡ true → IsPower (number_of v)
of_power low high l m (Num (pos n)) e =
    let p = and_parts (leb low n && leb n high) (is_power_of_two n) e in
    let q = and_parts (leb low n) (leb n high) p.0 in
    let least : low ≤ n = leb-true low n q.0 in
    let most : n ≤ high = leb-true n high q.1 in
    whole n (omega arith) (omega arith) p.1
of_power low high l m (Num (negsuc n)) e = absurd (both_ways false refl e)
of_power low high l m (Flag b) e = absurd (both_ways false refl e)
of_power low high l m (Word w) e = absurd (both_ways false refl e)

-- no fault of two is no fault of either
no_first : (a b : Option ParamFault) → first_of a b ≡ None → a ≡ None
no_first None b e = refl
no_first (Some f) b e = e

no_later : (a b : Option ParamFault) → first_of a b ≡ None → b ≡ None
no_later None b e = e
no_later (Some f) b e = absurd (cc)

-- a value without a fault is one of those that it may be
allowed : (low high : ℕ) → 2 ≤ low → high ≤ 1024 → (p : Param) → fault_by (Some (Power low high)) p ≡ None → IsPower (number_of p.value)
allowed low high l m p e = by (is_of (Power low high) p.value) refl e
  where
    by : (t : Bool) → is_of (Power low high) p.value ≡ t → cond t None (Some (ParamFault.Range p.key p.value (pos low) (pos high))) ≡ None → IsPower (number_of p.value)
    by true q e = of_power low high l m p.value q
    by false q e = absurd (cc)

given_line : (here other : Bool) (p : Param) (n : ParamValue) → fault_by (cond here (Some (Power 2 1024)) (cond other (Some (Power 2 16)) None)) p ≡ None → IsPower (number_of n) → IsPower (number_of (cond here p.value n))
given_line true other p n e later = allowed 2 1024 (omega arith) (omega arith) p e
given_line false other p n e later = later

given_word : (other here : Bool) (p : Param) (n : ParamValue) → fault_by (cond other (Some (Power 2 1024)) (cond here (Some (Power 2 16)) None)) p ≡ None → IsPower (number_of n) → IsPower (number_of (cond here p.value n))
given_word true true p n e later = allowed 2 1024 (omega arith) (omega arith) p e
given_word false true p n e later = allowed 2 16 (omega arith) (omega arith) p e
given_word other false p n e later = later

lines_in : (ps : List Param) → fault_of kind.Icache ps ≡ None → IsPower (number_of (given_or (Num (pos 64)) ps (codes "lines")))
unfolding log_of
lines_in [] e = refl
lines_in (p ∷ ps) e =
    given_line (same_name p.key (codes "lines")) (same_name p.key (codes "words")) p (given_or (Num (pos 64)) ps (codes "lines")) (no_first _ _ e) (lines_in ps (no_later _ _ e))

words_in : (ps : List Param) → fault_of kind.Icache ps ≡ None → IsPower (number_of (given_or (Num (pos 8)) ps (codes "words")))
unfolding log_of
words_in [] e = refl
words_in (p ∷ ps) e =
    given_word (same_name p.key (codes "lines")) (same_name p.key (codes "words")) p (given_or (Num (pos 8)) ps (codes "words")) (no_first _ _ e) (words_in ps (no_later _ _ e))

pub lines_whole : (ps : List Param) → fault_of kind.Icache ps ≡ None → 2 ^ log_of (lines_of ps) ≡ lines_of ps
lines_whole ps e = lines_in ps e

pub words_whole : (ps : List Param) → fault_of kind.Icache ps ≡ None → 2 ^ log_of (words_of ps) ≡ words_of ps
words_whole ps e = words_in ps e

few : (n : ℕ) → n ≤ 16 → log_of n ≤ 4
unfolding log_of
few n l =
    subst (λ b. cond (leb n 2) 1 (cond (leb n 4) 2 (cond (leb n 8) 3 (cond b 4 (cond (leb n 32) 5 (cond (leb n 64) 6 (cond (leb n 128) 7 (cond (leb n 256) 8 (cond (leb n 512) 9 10)))))))) ≤ 4) (sym (le-leb n 16 l))
    (by (leb n 2) (leb n 4) (leb n 8))
  where
    by : (a b c : Bool) → cond a 1 (cond b 2 (cond c 3 4)) ≤ 4
    by true b c = omega arith
    by false true c = omega arith
    by false false true = omega arith
    by false false false = omega arith

pub place_most : (ps : List Param) → fault_of kind.Icache ps ≡ None → log_of (number_of (given_or (Num (pos 8)) ps (codes "words"))) ≤ 4
place_most ps e = few (number_of (given_or (Num (pos 8)) ps (codes "words"))) (words_most ps e)
