-- Computed examples of the definitions, both ways.
use Rattle.std.proofs.Common.{◌≡◌, ◌^◌, ◌-◌, [], ◌∷◌, zero, suc, Some, None, refl, arith}
use Rattle.core_host.specs.Outside.{Files, held, Rose, IsCut}
use Rattle.core_host.specs.Memory.{moved_count}

-- the files a, b and a again
abbrev files : Files
files = (97 ∷ [], 1 ∷ 2 ∷ []) ∷ (98 ∷ [], 3 ∷ []) ∷ (97 ∷ [], 4 ∷ []) ∷ []

first_of_two : held (97 ∷ []) files ≡ Some (1 ∷ 2 ∷ [])
first_of_two = refl

later_name : held (98 ∷ []) files ≡ Some (3 ∷ [])
later_name = refl

missing_name : held (97 ∷ 98 ∷ []) files ≡ None
missing_name = refl

rose_by_one : Rose 0 1
rose_by_one = omega arith

not_risen : Rose 1 1 → ⊥
not_risen h = omega (arith, h)

rose_at_last : Rose (2 ^ 64 - 1) (2 ^ 64 - 1)
rose_at_last = omega arith

-- the first of two bytes was pushed
cut_after_one : IsCut (Some (7 ∷ [])) (8 ∷ 9 ∷ []) (Some (7 ∷ 8 ∷ []))
cut_after_one = (1, omega arith, refl)

-- both bytes are no proper prefix
cut_of_all : IsCut (Some []) (8 ∷ []) (Some (8 ∷ [])) → ⊥
cut_of_all (zero, h, e) = cc
cut_of_all (suc k, h, e) = omega (arith, h)

bite_sets_limit : moved_count 10 7 3 ≡ 3
bite_sets_limit = refl

no_bite : moved_count 10 7 0 ≡ 7
no_bite = refl
