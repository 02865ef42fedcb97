-- What a host holds, what was pulled from it and what was pushed on it.
use Rattle.std.specs.Prelude.{◌≡◌, ◌≤◌, ◌<◌, ◌+◌, ◌-◌, ◌^◌, ◌++◌, ℕ, min, List, [], ◌∷◌, length, take, drop, if◌then◌else◌, Option, Some, None, nat_eq}
use Rattle.std.specs.Cmp.Lexicographic.{pointwise}

-- the named files, in order, each with its name and its bytes
abbrev pub Files : Type 0
Files = List (List ℕ × List ℕ)

-- the bytes of the first file of that name
abbrev pub held : List ℕ → Files → Option (List ℕ)
held name [] = None
held name (f ∷ fs) = if pointwise nat_eq f.0 name then Some f.1 else held name fs

-- a count of faults grew, or stands at the last u64
abbrev pub Rose : ℕ → ℕ → Type 0
Rose before now = min (before + 1) (2 ^ 64 - 1) ≤ now

-- what a port holds after these bytes, where it is told
abbrev pub grown : Option (List ℕ) → List ℕ → Option (List ℕ)
grown None bytes = None
grown (Some old) bytes = Some (old ++ bytes)

-- a port got these bytes, where it is told
abbrev pub Appends : Option (List ℕ) → List ℕ → Option (List ℕ) → Type 0
Appends old bytes new = new ≡ grown old bytes

-- a port got a proper prefix of these bytes, where it is told
abbrev pub IsCut : Option (List ℕ) → List ℕ → Option (List ℕ) → Type 0
IsCut old bytes new = (k : ℕ) × (k < length bytes) × Appends old (take k bytes) new

-- where the files are told, one of that name is held and all of its bytes are left
abbrev pub Opens : List ℕ → Option Files → List ℕ → Type 0
Opens name None left = Unit {0}
Opens name (Some files) left = held name files ≡ Some left

-- the files are told, and none of that name is held
abbrev pub IsMissing : List ℕ → Option Files → Type 0
IsMissing name None = ⊥
IsMissing name (Some files) = held name files ≡ None

-- the name that is told of a number, if any, is this one
abbrev pub IsNameOf : List ℕ → Option (List ℕ) → Type 0
IsNameOf name None = Unit {0}
IsNameOf name (Some told) = told ≡ name

-- where the files are told, so many bytes went from the front of what was left to the front of the buffer, and none only at the file's end
abbrev pub Pulls : Option Files → List ℕ → List ℕ → ℕ → List ℕ → List ℕ → Type 0
Pulls None left left' count into into' = Unit {0}
Pulls (Some files) left left' count into into' =
    (left' ≡ drop count left) × (into' ≡ take count left ++ drop count into) × (count ≤ length left) × (count ≡ 0 → left ≡ [])

-- where the files are told, the bytes that were left are those that were read and those that are left now
abbrev pub Splits : Option Files → List ℕ → List ℕ → List ℕ → Type 0
Splits None left read left' = Unit {0}
Splits (Some files) left read left' = left ≡ read ++ left'

-- where the files are told, nothing is left
abbrev pub IsAtEnd : Option Files → List ℕ → Type 0
IsAtEnd None left = Unit {0}
IsAtEnd (Some files) left = left ≡ []

-- where the files are told, at most so many bytes were taken from what was left
abbrev pub TakesAtMost : ℕ → Option Files → List ℕ → List ℕ → Type 0
TakesAtMost most files left left' = (read : List ℕ) × (length read ≤ most) × Splits files left read left'

-- where the files are told, the file of that name is what was read and what is left, and it was read to its end or past the limit
abbrev pub IsReadWith : ℕ → List ℕ → Option Files → List ℕ → List ℕ → Type 0
IsReadWith limit name None read left = Unit {0}
IsReadWith limit name (Some files) read left = (held name files ≡ Some (read ++ left)) × (length read ≤ limit → left ≡ [])

-- where the files are told, the file of that name was read to its end or past the limit
abbrev pub IsRead : ℕ → List ℕ → Option Files → List ℕ → Type 0
IsRead limit name None read = Unit {0}
IsRead limit name (Some files) read = (rest : List ℕ) × (held name files ≡ Some (read ++ rest)) × (length read ≤ limit → rest ≡ [])

-- where the files are told, at most so many bytes of the file of that name were pulled, and the others are left
abbrev pub PulledAtMost : ℕ → List ℕ → Option Files → List ℕ → Type 0
PulledAtMost most name None left = Unit {0}
PulledAtMost most name (Some files) left = (read : List ℕ) × (held name files ≡ Some (read ++ left)) × (length read ≤ most)

-- of the opened files at most the one with this number has changed
abbrev pub SameButOne : ℕ → (ℕ → List ℕ) → (ℕ → List ℕ) → Type 0
SameButOne n left left' = (m : ℕ) → ¬ (m ≡ n) → left' m ≡ left m
