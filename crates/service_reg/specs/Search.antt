-- What the searches for a fault and for an order find.
use Rattle.std.specs.Prelude.{ℕ, ◌<◌, ◌≤◌, ◌⊎◌, List, length, get_or, take, Option, None, Some}
use Rattle.std.specs.List.{Contains}
use Rattle.service_reg.specs.declared.service.Service.{Service}
use Rattle.service_reg.specs.declared.service.ServiceUse.{ServiceUse}
use Rattle.service_reg.specs.declared.offer.Unmet.{Unmet}
use Rattle.service_reg.specs.declared.offer.Pair.{Pair}
use Rattle.service_reg.specs.declared.offer.Doubled.{Doubled}
use Rattle.service_reg.specs.Services.{Offers, IsOffered, IsMissingInCore, HasCore, AreOffered, NeedsMet, IsFirstUnmet, IsDouble, OfferedOnce, NoPairBefore, IsFirstDouble, StandsOn, LeadsTo, NoLoopBelow, CanCome, IsNext}

-- none of the entries from one number up to another offers the service
abbrev pub NoOffer : List ServiceUse → Service → (from to : ℕ) → Type 0
NoOffer specs s from to = (y : ℕ) → from ≤ y → y < to → Offers specs y s → ⊥

-- the least entry from a number on that offers the service
abbrev pub IsOfferer : List ServiceUse → Service → (from : ℕ) → Option ℕ → Type 0
IsOfferer specs s from None = NoOffer specs s from (length specs)
IsOfferer specs s from (Some y) = (from ≤ y) × (y < length specs) × Offers specs y s × NoOffer specs s from y

abbrev pub IsMissing : List ServiceUse → Option Service → Type 0
IsMissing specs None = HasCore specs
IsMissing specs (Some s) = IsMissingInCore specs s

-- the first of these services that nothing offers
abbrev pub IsUnmetPlace : List ServiceUse → List Service → Option ℕ → Type 0
IsUnmetPlace specs services None = AreOffered specs services (length services)
IsUnmetPlace specs services (Some i) =
    (i < length services) × AreOffered specs services i × (IsOffered specs (get_or services i Service.Fetch) → ⊥)

abbrev pub IsUnmet : List ServiceUse → Option Unmet → Type 0
IsUnmet specs None = NeedsMet specs (length specs)
IsUnmet specs (Some u) = IsFirstUnmet specs u.by u.service

-- the first two entries that offer the service
abbrev pub IsPair : List ServiceUse → Service → Option Pair → Type 0
IsPair specs s None = (a b : ℕ) → IsDouble specs s a b → ⊥
IsPair specs s (Some p) = IsDouble specs s p.a p.b × NoPairBefore specs s p.a p.b

abbrev pub IsDoubled : List ServiceUse → Option Doubled → Type 0
IsDoubled specs None = OfferedOnce specs 8
IsDoubled specs (Some d) = IsFirstDouble specs d.service d.a d.b

-- two lists have a service in common
abbrev pub Shares : (wanted offered : List Service) → Type 0
Shares wanted offered = (s : Service) × (Contains wanted s × Contains offered s)

-- entry y is not in the list, and x stands on it
abbrev pub Blocks : List ServiceUse → (placed : List ℕ) → (x y : ℕ) → Type 0
Blocks specs placed x y = StandsOn specs x y × (Contains placed y → ⊥)

abbrev pub IsBlocker : List ServiceUse → (placed : List ℕ) → (x : ℕ) → Option ℕ → Type 0
IsBlocker specs placed x None = CanCome specs placed x
IsBlocker specs placed x (Some y) = Blocks specs placed x y

-- each of the first n entries that is not in the list stands on one that is not
abbrev pub AllBlocked : List ServiceUse → (placed : List ℕ) → (n : ℕ) → Type 0
AllBlocked specs placed n = (x : ℕ) → x < n → (Contains placed x → ⊥) → (y : ℕ) × Blocks specs placed x y

abbrev pub IsNextOf : List ServiceUse → (placed : List ℕ) → Option ℕ → Type 0
IsNextOf specs placed None = AllBlocked specs placed (length specs)
IsNextOf specs placed (Some x) = IsNext specs placed x

-- x or an entry of the list stands on y
abbrev pub Reaches : List ServiceUse → (found : List ℕ) → (x y : ℕ) → Type 0
Reaches specs found x y = StandsOn specs x y ⊎ ((z : ℕ) × (Contains found z × StandsOn specs z y))

-- an entry that is not in the list though x or one of the list stands on it
abbrev pub IsFurther : List ServiceUse → (found : List ℕ) → (x : ℕ) → Option ℕ → Type 0
IsFurther specs found x None = (y : ℕ) → y < length specs → Reaches specs found x y → Contains found y
IsFurther specs found x (Some y) = (y < length specs) × (Contains found y → ⊥) × Reaches specs found x y

-- different numbers below n
abbrev pub AreApart : (n : ℕ) → List ℕ → Type 0
AreApart n xs = (k : ℕ) → k < length xs → (get_or xs k 0 < n) × (Contains (take k xs) (get_or xs k 0) → ⊥)

-- x stands on each entry of the list, and they differ
pub record IsFound (specs : List ServiceUse) (x : ℕ) (found : List ℕ) : Type 0 where
  pub reached : (y : ℕ) → Contains found y → LeadsTo specs x y
  pub apart : AreApart (length specs) found

abbrev pub IsFirstLoop : List ServiceUse → Option ℕ → Type 0
IsFirstLoop specs None = NoLoopBelow specs (length specs)
IsFirstLoop specs (Some x) = LeadsTo specs x x × NoLoopBelow specs x
