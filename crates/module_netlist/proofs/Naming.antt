-- Two things of a module have one name exactly where they are one: a name gives back its thing.
use Rattle.std.proofs.Common.{◌≡◌, ℕ, zero, suc, ◌+◌, ◌%◌, ◌^◌, ◌<◌, ◌≤◌, Bool, true, false, not, cond, eqb, ltb, List, [], ◌∷◌, ◌++◌, ◌&&◌, length, get_or, refl, ap, subst, sym, ◌∙◌, arith}
use Rattle.std.proofs.lemmas.Bool.Decides.{nat_tests}
use Rattle.std.proofs.lemmas.Fmt.{decimal_is_IsNumeral, decimal_by_steps}
use Rattle.std.specs.Fmt.{decimal}
use Rattle.std.specs.Str.Parse.{digits_value}
use Rattle.core_words.specs.Names.{same_name}
use Rattle.core_ports.specs.Ports.{CorePort, all_ports, name_of}
use Rattle.core_ports.specs.Ports.CorePort.{clk}
use Rattle.hw_pool.specs.declared.node.Node.{Node}
use Rattle.hw_module.specs.declared.rows.Owner.{Owner}
use Rattle.hw_module.specs.declared.rows.Owner.TheVariants.{Pipe, Entry}
use Rattle.hw_module.specs.Ports.{port_at}
use Rattle.hw_module.specs.Rows.{ModuleValue, wire_at, reg_at, array_at, IsOwner, IsModule}
use Rattle.module_netlist.specs.Names.{owner_name, node_name, port_name, Thing, name_in, ThingIn, same_thing}
use Rattle.module_netlist.specs.Names.Thing.{NodeAt, WireAt, RegAt, ArrayAt, PortAt}

-- ---- equal names

cons_same : (x y : ℕ) (xs ys : List ℕ) → (r : Bool) → (r ≡ true → xs ≡ ys) → (b : Bool) → eqb x y ≡ b → (b && r) ≡ true → (x ∷ xs) ≡ (y ∷ ys)
cons_same x y xs ys r ih true e k = let p : x ≡ y = grind (arith, nat_tests) in let q : xs ≡ ys = ih k in cc
cons_same x y xs ys r ih false e k = absurd (grind arith)

pub same_name_true : (a b : List ℕ) → same_name a b ≡ true → a ≡ b
same_name_true [] [] h = refl
same_name_true [] (y ∷ ys) h = absurd (grind arith)
same_name_true (x ∷ xs) [] h = absurd (grind arith)
same_name_true (x ∷ xs) (y ∷ ys) h = cons_same x y xs ys (same_name xs ys) (same_name_true xs ys) (eqb x y) refl h

pub same_name_self : (a : List ℕ) → same_name a a ≡ true
same_name_self [] = refl
same_name_self (x ∷ xs) = let e : eqb x x ≡ true = grind (arith, nat_tests) in ap (λ v. v && same_name xs xs) e ∙ same_name_self xs

same_to_false : (a b : List ℕ) → (a ≡ b → ⊥) → (t : Bool) → same_name a b ≡ t → same_name a b ≡ false
same_to_false a b h true e = absurd (h (same_name_true a b e))
same_to_false a b h false e = e

pub same_name_false : (a b : List ℕ) → (a ≡ b → ⊥) → same_name a b ≡ false
same_name_false a b h = same_to_false a b h (same_name a b) refl

pub same_name_turned : (a b : List ℕ) → same_name a b ≡ false → same_name b a ≡ false
same_name_turned a b h = same_name_false b a (λ e. let s : same_name a b ≡ true = ap (same_name a) e ∙ same_name_self a in absurd (grind arith))

-- ---- equal things

eqb_self : (k : ℕ) → eqb k k ≡ true
eqb_self k = grind (arith, nat_tests)

pub same_thing_self : (a : Thing) → same_thing a a ≡ true
same_thing_self (NodeAt k) = eqb_self k
same_thing_self (WireAt k) = eqb_self k
same_thing_self (RegAt k) = eqb_self k
same_thing_self (ArrayAt k) = eqb_self k
same_thing_self (PortAt k) = eqb_self k

pub same_thing_true : (a b : Thing) → same_thing a b ≡ true → a ≡ b
same_thing_true (NodeAt k) (NodeAt l) h = let e : k ≡ l = grind (arith, nat_tests) in ap NodeAt e
same_thing_true (WireAt k) (WireAt l) h = let e : k ≡ l = grind (arith, nat_tests) in ap WireAt e
same_thing_true (RegAt k) (RegAt l) h = let e : k ≡ l = grind (arith, nat_tests) in ap RegAt e
same_thing_true (ArrayAt k) (ArrayAt l) h = let e : k ≡ l = grind (arith, nat_tests) in ap ArrayAt e
same_thing_true (PortAt k) (PortAt l) h = let e : k ≡ l = grind (arith, nat_tests) in ap PortAt e
same_thing_true a b h = absurd (grind arith)

-- ---- the thing of a name

-- what stands behind the first mark
abbrev after : ℕ → List ℕ → List ℕ
after mark [] = []
after mark (b ∷ bs) = cond (eqb b mark) bs (after mark bs)

abbrev AllNot : ℕ → List ℕ → Type 0
AllNot mark [] = Unit {0}
AllNot mark (b ∷ bs) = (eqb b mark ≡ false) × AllNot mark bs

after_append : (mark : ℕ) (xs rest : List ℕ) → AllNot mark xs → after mark (xs ++ (mark ∷ rest)) ≡ rest
after_append mark [] rest h = let e : eqb mark mark ≡ true = grind (arith, nat_tests) in ap (λ v. cond v rest (after mark rest)) e
after_append mark (x ∷ xs) rest h = ap (λ v. cond v (xs ++ (mark ∷ rest)) (after mark (xs ++ (mark ∷ rest)))) (h.0) ∙ after_append mark xs rest (h.1)

all_not_more : (mark b : ℕ) (xs : List ℕ) → AllNot mark xs → eqb b mark ≡ false → AllNot mark (xs ++ (b ∷ []))
all_not_more mark b [] h e = (e, tt)
all_not_more mark b (x ∷ xs) h e = (h.0, all_not_more mark b xs (h.1) e)

decimal_all_not : (n : ℕ) → n < 2 ^ 64 → AllNot 95 (decimal n)
decimal_all_not n h = decimal_by_steps (λ k ds. AllNot 95 ds) (λ k l. (grind (arith, nat_tests), tt)) (λ k ds l ih. all_not_more 95 (48 + k % 10) ds ih (grind (arith, nat_tests))) n h

owner_all_not : (o : Owner) → IsOwner o → AllNot 95 (owner_name o)
owner_all_not Pipe h = (refl, tt)
owner_all_not (Entry e) h = (refl, decimal_all_not e (omega arith))

abbrev head_of : List ℕ → ℕ
head_of [] = 0
head_of (b ∷ bs) = b

abbrev tail_of : List ℕ → List ℕ
tail_of [] = []
tail_of (b ∷ bs) = bs

abbrev lettered : List ℕ → Thing
lettered bytes = cond (eqb (head_of bytes) 119) (WireAt (digits_value 10 (tail_of bytes))) (cond (eqb (head_of bytes) 114) (RegAt (digits_value 10 (tail_of bytes))) (ArrayAt (digits_value 10 (tail_of bytes))))

-- a node's name begins with an n; in the others a letter and a number stand behind the first _
abbrev thing_of : List ℕ → Thing
thing_of bytes = cond (eqb (head_of bytes) 110) (NodeAt (digits_value 10 (tail_of bytes))) (lettered (after 95 bytes))

value_is : (k : ℕ) → k < 65535 → digits_value 10 (decimal k) ≡ k
value_is k h = (decimal_is_IsNumeral k (omega arith)).1

-- an owner, _, a letter and a number
abbrev owned : Owner → (letter k : ℕ) → List ℕ
owned o letter k = owner_name o ++ (95 ∷ letter ∷ decimal k)

owned_after : (o : Owner) (letter k : ℕ) → IsOwner o → thing_of (owned o letter k) ≡ lettered (letter ∷ decimal k)
owned_after Pipe letter k h = ap lettered (after_append 95 (owner_name Pipe) (letter ∷ decimal k) (owner_all_not Pipe h))
owned_after (Entry e) letter k h = ap lettered (after_append 95 (owner_name (Entry e)) (letter ∷ decimal k) (owner_all_not (Entry e) h))

-- ---- a table of names: they differ, and none begins with n, p or s

abbrev among : List ℕ → List (List ℕ) → Bool
among x [] = false
among x (y ∷ ys) = elim (same_name x y) [ true ↦ true | false ↦ among x ys ]

abbrev is_table : List (List ℕ) → Bool
is_table [] = true
is_table (x ∷ xs) = not (among x xs) && (not (eqb (head_of x) 110) && (not (eqb (head_of x) 112) && (not (eqb (head_of x) 115) && is_table xs)))

Apart : List ℕ → Type 0
Apart x = (eqb (head_of x) 110 ≡ false) × (eqb (head_of x) 112 ≡ false) × (eqb (head_of x) 115 ≡ false)

five : (a b c d e : Bool) → (not a && (not b && (not c && (not d && e)))) ≡ true → (a ≡ false) × (b ≡ false) × (c ≡ false) × (d ≡ false) × (e ≡ true)
five true b c d e h = absurd (grind arith)
five false true c d e h = absurd (grind arith)
five false false true d e h = absurd (grind arith)
five false false false true e h = absurd (grind arith)
five false false false false e h = (refl, refl, refl, refl, h)

table_parts : (x : List ℕ) (xs : List (List ℕ)) → is_table (x ∷ xs) ≡ true → (among x xs ≡ false) × (eqb (head_of x) 110 ≡ false) × (eqb (head_of x) 112 ≡ false) × (eqb (head_of x) 115 ≡ false) × (is_table xs ≡ true)
table_parts x xs h = five (among x xs) (eqb (head_of x) 110) (eqb (head_of x) 112) (eqb (head_of x) 115) (is_table xs) h

table_first : (x : List ℕ) (xs : List (List ℕ)) → is_table (x ∷ xs) ≡ true → among x xs ≡ false
table_first x xs h = (table_parts x xs h).0

table_rest : (x : List ℕ) (xs : List (List ℕ)) → is_table (x ∷ xs) ≡ true → is_table xs ≡ true
table_rest x xs h = (table_parts x xs h).4

heads_apart : (table : List (List ℕ)) → is_table table ≡ true → (p : ℕ) → p < length table → Apart (get_or table p [])
unfolding Apart
heads_apart [] h p l = absurd (omega arith)
heads_apart (x ∷ xs) h zero l = let t = table_parts x xs h in (t.1, t.2, t.3)
heads_apart (x ∷ xs) h (suc p) l = heads_apart xs (table_rest x xs h) p (omega arith)

not_among_step : (b r : Bool) → (elim b [ true ↦ true | false ↦ r ]) ≡ false → (b ≡ false) × (r ≡ false)
not_among_step true r h = absurd (grind arith)
not_among_step false r h = (refl, h)

not_among : (x : List ℕ) (xs : List (List ℕ)) → among x xs ≡ false → (q : ℕ) → q < length xs → same_name x (get_or xs q []) ≡ false
not_among x [] h q l = absurd (omega arith)
not_among x (y ∷ ys) h zero l = (not_among_step _ _ h).0
not_among x (y ∷ ys) h (suc q) l = not_among x ys ((not_among_step (same_name x y) _ h).1) q (omega arith)

table_apart : (table : List (List ℕ)) → is_table table ≡ true → (p q : ℕ) → p < q → q < length table → same_name (get_or table p []) (get_or table q []) ≡ false
table_apart [] h p q l k = absurd (omega arith)
table_apart (x ∷ xs) h zero zero l k = absurd (omega arith)
table_apart (x ∷ xs) h zero (suc q) l k = not_among x xs (table_first x xs h) q (omega arith)
table_apart (x ∷ xs) h (suc p) zero l k = absurd (omega arith)
table_apart (x ∷ xs) h (suc p) (suc q) l k = table_apart xs (table_rest x xs h) p q (omega arith) (omega arith)

same_in_table : (table : List (List ℕ)) → is_table table ≡ true → (p q : ℕ) → p < length table → q < length table → (t : Bool) → eqb p q ≡ t → (u : Bool) → ltb p q ≡ u → same_name (get_or table p []) (get_or table q []) ≡ t
same_in_table table h p q l k true e u f =
    let d : p ≡ q = grind (arith, nat_tests) in ap (λ v. same_name (get_or table p []) (get_or table v [])) (sym d) ∙ same_name_self (get_or table p [])
same_in_table table h p q l k false e true f = table_apart table h p q (grind (arith, nat_tests)) k
same_in_table table h p q l k false e false f = same_name_turned (get_or table q []) (get_or table p []) (table_apart table h q p (grind (arith, nat_tests)) l)

-- ---- the names of ports

abbrev names_from : List CorePort → List (List ℕ)
names_from [] = []
names_from (q ∷ qs) = name_of q ∷ names_from qs

name_from : (qs : List CorePort) (p : ℕ) → p < length qs → get_or (names_from qs) p [] ≡ name_of (get_or qs p clk)
name_from [] p h = absurd (omega arith)
name_from (q ∷ qs) zero h = refl
name_from (q ∷ qs) (suc p) h = name_from qs p (omega arith)

port_name_is : (p : ℕ) → p < 30 → get_or (names_from all_ports) p [] ≡ port_name p
unfolding port_at
port_name_is p h = name_from all_ports p h

names_table : is_table (names_from all_ports) ≡ true
unfolding name_of
names_table = refl

ports_apart : (p : ℕ) → p < 30 → Apart (port_name p)
ports_apart p h = subst Apart (port_name_is p h) (heads_apart (names_from all_ports) names_table p h)

same_ports : (p q : ℕ) → p < 30 → q < 30 → same_name (port_name p) (port_name q) ≡ eqb p q
same_ports p q h k =
    ap (λ v. same_name v (port_name q)) (sym (port_name_is p h))
    ∙ ap (λ v. same_name (get_or (names_from all_ports) p []) v) (sym (port_name_is q k))
    ∙ same_in_table (names_from all_ports) names_table p q h k (eqb p q) refl (ltb p q) refl

-- ---- ports and other things

head_owned : (o : Owner) (letter k : ℕ) (x : List ℕ) → Apart x → x ≡ owned o letter k → ⊥
unfolding Apart
head_owned Pipe letter k x a e = let h : head_of x ≡ 115 = ap head_of e in let b = a.2 in grind (arith, nat_tests)
head_owned (Entry d) letter k x a e = let h : head_of x ≡ 112 = ap head_of e in let b = a.1 in grind (arith, nat_tests)

head_node : (k : ℕ) (x : List ℕ) → Apart x → x ≡ node_name k → ⊥
unfolding Apart
head_node k x a e = let h : head_of x ≡ 110 = ap head_of e in let b = a.0 in grind (arith, nat_tests)

module _ (m : ModuleValue) (nodes : List Node) (is : IsModule m) (wires : length m.wires ≤ 65535) (regs : length m.regs ≤ 65535) (arrays : length m.arrays ≤ 65535) (few : length nodes ≤ 65535) where
  abbrev IsInner : Thing → Type 0
  IsInner (PortAt p) = ⊥
  IsInner _ = Unit {0}

  inverse : (a : Thing) → ThingIn m nodes a → IsInner a → thing_of (name_in m a) ≡ a
  inverse (NodeAt k) h i = ap NodeAt (value_is k (omega arith))
  inverse (WireAt k) h i = owned_after (wire_at m.wires k).owner 119 k (is.wire_owners k h) ∙ ap WireAt (value_is k (omega arith))
  inverse (RegAt k) h i = owned_after (reg_at m.regs k).owner 114 k (is.reg_owners k h) ∙ ap RegAt (value_is k (omega arith))
  inverse (ArrayAt k) h i = owned_after (array_at m.arrays k).owner 97 k (is.array_owners k h) ∙ ap ArrayAt (value_is k (omega arith))
  inverse (PortAt k) h i = absurd i

  inner_case : (a b : Thing) → thing_of (name_in m a) ≡ a → thing_of (name_in m b) ≡ b → (t : Bool) → same_thing a b ≡ t → same_name (name_in m a) (name_in m b) ≡ t
  inner_case a b p q true e = ap (λ v. same_name (name_in m a) (name_in m v)) (sym (same_thing_true a b e)) ∙ same_name_self (name_in m a)
  inner_case a b p q false e =
      same_name_false (name_in m a) (name_in m b)
      (λ h. let r : a ≡ b = sym p ∙ ap thing_of h ∙ q in let s : same_thing a b ≡ true = ap (same_thing a) (sym r) ∙ same_thing_self a in absurd (grind arith))

  inner : (a b : Thing) → ThingIn m nodes a → ThingIn m nodes b → IsInner a → IsInner b → same_name (name_in m a) (name_in m b) ≡ same_thing a b
  inner a b h k i j = inner_case a b (inverse a h i) (inverse b k j) (same_thing a b) refl

  port_inner : (p : ℕ) (b : Thing) → p < 30 → IsInner b → same_name (port_name p) (name_in m b) ≡ false
  port_inner p (NodeAt k) h i = same_name_false _ _ (head_node k _ (ports_apart p h))
  port_inner p (WireAt k) h i = same_name_false _ _ (head_owned (wire_at m.wires k).owner 119 k _ (ports_apart p h))
  port_inner p (RegAt k) h i = same_name_false _ _ (head_owned (reg_at m.regs k).owner 114 k _ (ports_apart p h))
  port_inner p (ArrayAt k) h i = same_name_false _ _ (head_owned (array_at m.arrays k).owner 97 k _ (ports_apart p h))
  port_inner p (PortAt k) h i = absurd i

  pub names_differ : (a b : Thing) → ThingIn m nodes a → ThingIn m nodes b → same_name (name_in m a) (name_in m b) ≡ same_thing a b
  names_differ (PortAt p) (PortAt q) h k = same_ports p q h k
  names_differ (PortAt p) (NodeAt b) h k = port_inner p (NodeAt b) h tt
  names_differ (PortAt p) (WireAt b) h k = port_inner p (WireAt b) h tt
  names_differ (PortAt p) (RegAt b) h k = port_inner p (RegAt b) h tt
  names_differ (PortAt p) (ArrayAt b) h k = port_inner p (ArrayAt b) h tt
  names_differ (NodeAt a) (PortAt q) h k = same_name_turned (port_name q) (name_in m (NodeAt a)) (port_inner q (NodeAt a) k tt)
  names_differ (WireAt a) (PortAt q) h k = same_name_turned (port_name q) (name_in m (WireAt a)) (port_inner q (WireAt a) k tt)
  names_differ (RegAt a) (PortAt q) h k = same_name_turned (port_name q) (name_in m (RegAt a)) (port_inner q (RegAt a) k tt)
  names_differ (ArrayAt a) (PortAt q) h k = same_name_turned (port_name q) (name_in m (ArrayAt a)) (port_inner q (ArrayAt a) k tt)
  names_differ (NodeAt a) (NodeAt b) h k = inner (NodeAt a) (NodeAt b) h k tt tt
  names_differ (NodeAt a) (WireAt b) h k = inner (NodeAt a) (WireAt b) h k tt tt
  names_differ (NodeAt a) (RegAt b) h k = inner (NodeAt a) (RegAt b) h k tt tt
  names_differ (NodeAt a) (ArrayAt b) h k = inner (NodeAt a) (ArrayAt b) h k tt tt
  names_differ (WireAt a) (NodeAt b) h k = inner (WireAt a) (NodeAt b) h k tt tt
  names_differ (WireAt a) (WireAt b) h k = inner (WireAt a) (WireAt b) h k tt tt
  names_differ (WireAt a) (RegAt b) h k = inner (WireAt a) (RegAt b) h k tt tt
  names_differ (WireAt a) (ArrayAt b) h k = inner (WireAt a) (ArrayAt b) h k tt tt
  names_differ (RegAt a) (NodeAt b) h k = inner (RegAt a) (NodeAt b) h k tt tt
  names_differ (RegAt a) (WireAt b) h k = inner (RegAt a) (WireAt b) h k tt tt
  names_differ (RegAt a) (RegAt b) h k = inner (RegAt a) (RegAt b) h k tt tt
  names_differ (RegAt a) (ArrayAt b) h k = inner (RegAt a) (ArrayAt b) h k tt tt
  names_differ (ArrayAt a) (NodeAt b) h k = inner (ArrayAt a) (NodeAt b) h k tt tt
  names_differ (ArrayAt a) (WireAt b) h k = inner (ArrayAt a) (WireAt b) h k tt tt
  names_differ (ArrayAt a) (RegAt b) h k = inner (ArrayAt a) (RegAt b) h k tt tt
  names_differ (ArrayAt a) (ArrayAt b) h k = inner (ArrayAt a) (ArrayAt b) h k tt tt
