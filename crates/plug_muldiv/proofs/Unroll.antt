-- The number of steps in a cycle divides 32, where no parameter was refused.
use Rattle.std.proofs.Common.{◌≡◌, ℕ, zero, suc, ◌*◌, ◌/◌, ◌≤◌, pos, negsuc, List, [], ◌∷◌, Bool, true, false, cond, Option, None, Some, refl, arith, codes}
use Rattle.std.proofs.Math.Nat.{div-le_self}
use lib.Count.{ones}
use Rattle.core_words.specs.Names.{same_name}
use Rattle.stage_map.specs.declared.config.Param.{Param}
use Rattle.stage_map.specs.declared.config.ParamValue.{ParamValue}
use Rattle.stage_map.specs.declared.config.ParamValue.TheVariants.{Num, Flag, Word}
use Rattle.plug_api.specs.declared.spec.ParamFault.{ParamFault}
use Rattle.plug_kinds.specs.declared.kind.Kind.TheVariants as kind
use Rattle.plug_kinds.specs.declared.kind.Values.TheVariants.{Power}
use Rattle.plug_kinds.specs.Kinds.{is_of, fault_by, fault_of, first_of, given_or, number_of}
use Rattle.plug_muldiv.specs.Machine.{unroll_of}

abbrev Divides : ℕ → Type 0
Divides n = n * (32 / n) ≡ 32

-- 1, 2 and 4 are the powers of two from 1 to 4
of_power : (v : ParamValue) → is_of (Power 1 4) v ≡ true → Divides (number_of v)
unfolding ones
of_power (Num (pos zero)) e = absurd (cc)
of_power (Num (pos (suc zero))) e = refl
of_power (Num (pos (suc (suc zero)))) e = refl
of_power (Num (pos (suc (suc (suc zero))))) e = absurd (cc)
of_power (Num (pos (suc (suc (suc (suc zero)))))) e = refl
of_power (Num (pos (suc (suc (suc (suc (suc n))))))) e = absurd (grind arith)
of_power (Num (negsuc n)) e = absurd (cc)
of_power (Flag b) e = absurd (cc)
of_power (Word w) e = absurd (cc)

-- no fault of two is no fault of either
no_first : (a b : Option ParamFault) → first_of a b ≡ None → a ≡ None
no_first None b e = refl
no_first (Some f) b e = e

no_later : (a b : Option ParamFault) → first_of a b ≡ None → b ≡ None
no_later None b e = e
no_later (Some f) b e = absurd (cc)

-- what is given, by whether its key is the one
given : (here : Bool) (p : Param) (n : ParamValue) → fault_by (cond here (Some (Power 1 4)) None) p ≡ None → Divides (number_of n) → Divides (number_of (cond here p.value n))
given true p n e later = by (is_of (Power 1 4) p.value) refl e
  where
    by : (t : Bool) → is_of (Power 1 4) p.value ≡ t → cond t None (Some (ParamFault.Range p.key p.value (pos 1) (pos 4))) ≡ None → Divides (number_of p.value)
    by true q e = of_power p.value q
    by false q e = absurd (cc)
given false p n e later = absurd (cc)

divides_in : (ps : List Param) → fault_of kind.Muldiv ps ≡ None → Divides (number_of (given_or (Num (pos 1)) ps (codes "unroll")))
divides_in [] e = refl
divides_in (p ∷ ps) e =
    given (same_name p.key (codes "unroll")) p (given_or (Num (pos 1)) ps (codes "unroll")) (no_first _ _ e) (divides_in ps (no_later _ _ e))

pub divides : (ps : List Param) → fault_of kind.Muldiv ps ≡ None → unroll_of ps * (32 / unroll_of ps) ≡ 32
divides ps e = divides_in ps e

pub least : (n : ℕ) → n * (32 / n) ≡ 32 → 1 ≤ n
least zero e = absurd (omega arith)
least (suc n) e = omega arith

pub some_rounds : (n : ℕ) → 1 ≤ n → n ≤ 4 → 1 ≤ 32 / n
some_rounds zero l m = absurd (omega arith)
some_rounds (suc zero) l m = omega arith
some_rounds (suc (suc zero)) l m = omega arith
some_rounds (suc (suc (suc zero))) l m = omega arith
some_rounds (suc (suc (suc (suc zero)))) l m = omega arith
some_rounds (suc (suc (suc (suc (suc n))))) l m = absurd (omega arith)

pub few_rounds : (n : ℕ) → 32 / n ≤ 32
few_rounds n = div-le_self 32 n
