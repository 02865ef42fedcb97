-- What the lists of entries that grow one by one keep, and what they hold at the end.
use Rattle.std.proofs.Common.{inl, inr, ◌≡◌, ℕ, ◌+◌, ◌<◌, List, [], ◌∷◌, ◌++◌, length, get_or, take, Option, None, Some, Bool, true, false, is_some, sym, subst, arith, below_more}
use Rattle.std.proofs.lemmas.Bool.{cases_lt}
use Rattle.std.proofs.lemmas.List.{length-append, take-append-le}
use Rattle.std.proofs.Math.ListN.{get_or-append}
use Rattle.std.proofs.Math.Seq.{get_or-append_seam, take-append_seam}
use Rattle.std.proofs.lemmas.List.Elements.{Contains-push_cases}
use Rattle.std.specs.Bool.{Decides}
use Rattle.std.specs.List.{Contains}
use Rattle.service_reg.specs.declared.service.ServiceUse.{ServiceUse}
use Rattle.service_reg.specs.Services.{LeadsTo, NoLoopBelow, CanCome, IsNext, IsNextEach, IsBuildOrder}
use Rattle.service_reg.specs.Services.LeadsTo.{direct, further}
use Rattle.service_reg.specs.Search.{Blocks, AllBlocked, IsBlocker, AreApart, IsFound, IsFurther, Reaches}
use Rattle.service_reg.proofs.Crowds.{apart_more, room, all_there}
use Rattle.service_reg.proofs.Walks.{all_placed}

-- ---- the order

pub next_of : (specs : List ServiceUse) (placed : List ℕ) (x : ℕ) → x < length specs → (Contains placed x → ⊥) → CanCome specs placed x → AllBlocked specs placed x → IsNext specs placed x
next_of specs placed x l new ready blocked = record {
  entry = l;
  unplaced = new;
  ready = ready;
  least = λ y h n r. (let b = blocked y h n in b.1.1 (r b.0 b.1.0));
}

pub ready_of : (specs : List ServiceUse) (placed : List ℕ) (x : ℕ) (o : Option ℕ) → IsBlocker specs placed x o → is_some o ≡ false → CanCome specs placed x
ready_of specs placed x None b e = b
ready_of specs placed x (Some y) b e = cc

pub blocked_of : (specs : List ServiceUse) (placed : List ℕ) (x : ℕ) (o : Option ℕ) → IsBlocker specs placed x o → is_some o ≡ true → (y : ℕ) × Blocks specs placed x y
blocked_of specs placed x None b e = cc
blocked_of specs placed x (Some y) b e = (y, b)

pub blocked_more : (specs : List ServiceUse) (placed : List ℕ) (x : ℕ) → AllBlocked specs placed x → ((Contains placed x → ⊥) → (y : ℕ) × Blocks specs placed x y) → AllBlocked specs placed (x + 1)
blocked_more specs placed x before here = below_more (λ k. (Contains placed k → ⊥) → (y : ℕ) × Blocks specs placed k y) x before here

pub apart_of : (specs : List ServiceUse) (order : List ℕ) → IsNextEach specs order → AreApart (length specs) order
apart_of specs order next k l = ((next k l).entry, (next k l).unplaced)

pub next_more : (specs : List ServiceUse) (order : List ℕ) (x : ℕ) → IsNextEach specs order → IsNext specs order x → IsNextEach specs (order ++ x ∷ [])
next_more specs xs x each new k l = elim (cases_lt k (length xs)) [
  | inl h ↦ let e : get_or (xs ++ x ∷ []) k 0 ≡ get_or xs k 0 = get_or-append xs (x ∷ []) 0 k h in
      let t : take k (xs ++ x ∷ []) ≡ take k xs = take-append-le k xs (x ∷ []) (omega (arith, h)) in
      rw (e, t) (each k h)
  | inr h ↦ let q : k ≡ length xs = (let m = length-append xs (x ∷ []) in omega (arith, h, l, m)) in
      subst (λ (j : ℕ). IsNext specs (take j (xs ++ x ∷ [])) (get_or (xs ++ x ∷ []) j 0)) (sym q)
      (rw (get_or-append_seam xs x [] 0, take-append_seam xs (x ∷ [])) new)
]

pub next_room : (specs : List ServiceUse) (order : List ℕ) (x : ℕ) → IsNextEach specs order → IsNext specs order x → length order < length specs
next_room specs order x each new = room (length specs) order x (apart_of specs order each) new.entry new.unplaced

pub built : (specs : List ServiceUse) (order : List ℕ) → IsNextEach specs order → AllBlocked specs order (length specs) → NoLoopBelow specs (length specs) → IsBuildOrder specs order
built specs order each blocked none =
    let all : (x : ℕ) → x < length specs → Contains order x = all_placed specs order blocked none in
    record { size = all_there (length specs) order (apart_of specs order each) all; all = all; next = each }

-- ---- what an entry stands on

reach_leads : (specs : List ServiceUse) (x : ℕ) (found : List ℕ) → IsFound specs x found → (y : ℕ) → Reaches specs found x y → LeadsTo specs x y
reach_leads specs x found f y (inl e) = direct e
reach_leads specs x found f y (inr p) = further (f.reached p.0 p.1.0) p.1.1

pub found_more : (specs : List ServiceUse) (x : ℕ) (found : List ℕ) (y : ℕ) → IsFound specs x found → IsFurther specs found x (Some y) → IsFound specs x (found ++ y ∷ [])
found_more specs x found y f m = record {
  reached = λ z c. elim (Contains-push_cases found y z c) [
    | inl h ↦ f.reached z h
    | inr e ↦ subst (λ (w : ℕ). LeadsTo specs x w) e (reach_leads specs x found f y m.2)
  ];
  apart = apart_more (length specs) found y f.apart m.0 m.1;
}

pub found_room : (specs : List ServiceUse) (x : ℕ) (found : List ℕ) (y : ℕ) → IsFound specs x found → IsFurther specs found x (Some y) → length found < length specs
found_room specs x found y f m = room (length specs) found y f.apart m.0 m.1

pub closed : (specs : List ServiceUse) (x : ℕ) (found : List ℕ) → IsFurther specs found x None → (y : ℕ) → LeadsTo specs x y → Contains found y
closed specs x found m y (direct e) = m y e.other (inl e)
closed specs x found m z (further {y = y} l e) = m z e.other (inr (y, (closed specs x found m y l, e)))

pub loop_decides : (specs : List ServiceUse) (x : ℕ) (found : List ℕ) (b : Bool) → IsFound specs x found → IsFurther specs found x None → Decides b (Contains found x) → Decides b (LeadsTo specs x x)
loop_decides specs x found b f m d = (λ e. f.reached x (d.0 e), λ l. d.1 (closed specs x found m x l))
