-- A configuration is accepted or refused.
use Rattle.std.proofs.Common.{inl, inr, ◌≡◌, ℕ, zero, suc, ◌<◌, ◌⊎◌, ◌↔◌, ◌^◌, List, [], ◌∷◌, length, get_or, Bool, true, false, Option, None, Some, IsTrue, bit_and, leb, ltb, eqb, ◌&&◌, ◌||◌, refl, sym, ◌∙◌, ap, subst, arith}
use Rattle.std.proofs.lemmas.Bool.{cases_Bool, cases_eq, cases_lt, false≢true}
use Rattle.std.proofs.lemmas.Bool.Decides.{nat_tests}
use Rattle.isa_table.specs.declared.claim.Claim.{Claim}
use Rattle.stage_map.specs.declared.config.Config.{Config}
use Rattle.stage_map.specs.declared.config.CoreShape.{CoreShape}
use Rattle.stage_map.specs.declared.config.Isa.{Isa}
use Rattle.stage_map.specs.declared.config.PlugEntry.{PlugEntry}
use Rattle.stage_map.specs.declared.keys.StageRefusal.{StageRefusal}
use Rattle.stage_map.specs.declared.keys.StageRefusal.TheVariants as stages
use Rattle.stage_map.specs.Stages.{IsFirstStageFault}
use Rattle.stage_map.proofs.Decided as stage_rules
use Rattle.stage_map.proofs.Decided.{same_or_not}
use Rattle.service_reg.specs.declared.service.Service.TheVariants.{System}
use Rattle.service_reg.specs.declared.service.ServiceRefusal.{ServiceRefusal}
use Rattle.service_reg.specs.declared.service.ServiceRefusal.TheVariants as service
use Rattle.service_reg.specs.Services.{IsFirstServiceFault, IsOffered}
use Rattle.service_reg.proofs.Decided as service_rules
use Rattle.service_reg.proofs.Decided.{first}
use Rattle.plug_api.specs.declared.claims.OwnedClaim.{OwnedClaim}
use Rattle.plug_api.specs.declared.refusal.RuleRefusal.{RuleRefusal}
use Rattle.plug_api.specs.declared.refusal.RuleRefusal.TheVariants.{UnknownPlugin, RepeatedPlugin, BadParam, Missing, Double, CycleOfNeeds, EncodingClash, IsaMissing, IsaExtra, StageAbsent, StageOrder, KeyTwice, TooLarge}
use Rattle.plug_api.specs.declared.refusal.RuleRefusal.TheVariants as refusal
use Rattle.plug_api.specs.declared.spec.ParamFault.{ParamFault}
use Rattle.plug_api.specs.declared.spec.Plan.{Plan}
use Rattle.plug_api.specs.declared.spec.PlugSpec.{PlugSpec}
use Rattle.plug_api.specs.Spec.{no_spec, IsSpec}
use Rattle.plug_api.specs.Picks.{no_entry, IsPick, IsUnknown, ArePicks, IsFirstUnknown, Repeats, AreDistinct, IsFirstRepeat, AreFaultless, IsFirstFault}
use Rattle.plug_api.specs.Rules.{no_owned, claims_of, wanted_by, Overlap, Clash, HaveNoClash, IsFirstClash, is_named, multiplies, has_registers, has_fence, is_of, IsClaimed, IsMissing, HaveAllRows, IsFirstMissing, is_extra, HaveNoExtra, IsFirstExtra}
use Rattle.plug_api.specs.Accept.{uses_of, places_of, stages_of, rows_of, owners_of, ClaimsHold, SpecsHold, IsFirstOfClaims, IsFirstOfSpecs, ServicesHold, AreNamed, AreTaken, AreKnown, IsPlanOf, AreSound, AreFit, IsDecided}
use Rattle.plug_api.proofs.Known.{pick_is_known}
use Rattle.plug_api.proofs.Accepts.{all_accepted, rest_refused}

-- ---- rules 7 to 9

overlap : (a b : Claim) → Overlap a b ⊎ (Overlap a b → ⊥)
overlap a b = elim (first (λ w. bit_and w a.mask ≡ a.value → bit_and w b.mask ≡ b.value → ⊥) (λ w. (bit_and w a.mask ≡ a.value) × (bit_and w b.mask ≡ b.value)) (2 ^ 32)
    (λ w l. elim (cases_eq (bit_and w a.mask) a.value) [
      | inr d ↦ inl (λ e f. d e)
      | inl e ↦ elim (cases_eq (bit_and w b.mask) b.value) [ inl f ↦ inr (e, f) | inr d ↦ inl (λ g. d) ]
    ])) [
      | inl none ↦ inr (λ o. none o.0 o.1 o.2 o.3)
      | inr f ↦ inl (f.0, f.1, f.2.0, f.2.1)
    ]

module _ (claims : List OwnedClaim) where
  clash : (a b : ℕ) → Clash claims a b ⊎ (Clash claims a b → ⊥)
  clash a b = elim (cases_lt a b) [
    | inr h ↦ inr (λ c. (let l = c.in_order in omega (arith, h, l)))
    | inl o ↦ elim (cases_lt b (length claims)) [
      | inr h ↦ inr (λ c. (let l = c.there in omega (arith, h, l)))
      | inl t ↦ elim (cases_eq (get_or claims a no_owned).entry (get_or claims b no_owned).entry) [
        | inl e ↦ inr (λ c. c.apart e)
        | inr d ↦ elim (overlap (get_or claims a no_owned).claim (get_or claims b no_owned).claim) [
          | inl w ↦ inl (record { in_order = o; there = t; apart = d; overlap = w })
          | inr n ↦ inr (λ c. n c.overlap)
        ]
      ]
    ]
  ]

  clash_from : (a : ℕ) → ((j : ℕ) → Clash claims a j → ⊥) ⊎ ((b : ℕ) × Clash claims a b × ((j : ℕ) → j < b → Clash claims a j → ⊥))
  clash_from a = elim (first (λ j. Clash claims a j → ⊥) (λ j. Clash claims a j) (length claims) (λ j l. elim (clash a j) [ inl c ↦ inr c | inr n ↦ inl n ])) [
    | inl none ↦ inl (λ j c. none j c.there c)
    | inr f ↦ inr (f.0, f.2, f.3)
  ]

  clashes : HaveNoClash claims ⊎ ((entry row other other_row : ℕ) × IsFirstClash claims entry row other other_row)
  clashes = elim (first (λ a. (j : ℕ) → Clash claims a j → ⊥) (λ a. (b : ℕ) × Clash claims a b × ((j : ℕ) → j < b → Clash claims a j → ⊥)) (length claims) (λ a l. clash_from a)) [
    | inl none ↦ inl (record { none = λ a b c. (let o = c.in_order in let t = c.there in none a (omega (arith, o, t)) b c) })
    | inr f ↦ inr (
      _,
      _,
      _,
      _,
      record {
        a = f.0;
        b = f.2.0;
        at = record { clash = f.2.1; first = λ i j l c. f.3 i l j c; first_other = f.2.2 };
        entry_is = refl;
        row_is = refl;
        other_is = refl;
        other_row_is = refl;
      },
    )
  ]

  claimed : (row : ℕ) → IsClaimed claims row ⊎ (IsClaimed claims row → ⊥)
  claimed row = elim (first (λ k. (get_or claims k no_owned).claim.row ≡ row → ⊥) (λ k. (get_or claims k no_owned).claim.row ≡ row) (length claims)
      (λ k l. elim (cases_eq (get_or claims k no_owned).claim.row row) [ inl e ↦ inr e | inr d ↦ inl d ])) [
        | inl none ↦ inr (λ c. none c.at c.there c.is)
        | inr f ↦ inl (record { at = f.0; there = f.1; is = f.2 })
      ]

  missing_at : (isa : Isa) (row : ℕ) → (IsMissing isa claims row → ⊥) ⊎ IsMissing isa claims row
  missing_at isa row = elim (cases_Bool (is_of isa row)) [
    | inr f ↦ inl (λ m. false≢true (sym f ∙ m.wanted))
    | inl t ↦ elim (claimed row) [
      | inl c ↦ inl (λ m. m.unclaimed c)
      | inr n ↦ inr (record { wanted = t; unclaimed = n })
    ]
  ]

  rows : (isa : Isa) → HaveAllRows isa claims ⊎ ((row : ℕ) × IsFirstMissing isa claims row)
  rows isa = elim (first (λ row. IsMissing isa claims row → ⊥) (λ row. IsMissing isa claims row) 57 (λ row l. missing_at isa row)) [
    | inl none ↦ inl (record { none = λ row m. none row (row_below (is_named isa) (has_fence isa) (multiplies isa) (has_registers isa) row m.wanted) m })
    | inr f ↦ inr (f.0, record { missing = f.2; first = f.3 })
  ]
    where
      row_below : (a b c d : Bool) (row : ℕ) → ((a && ltb row 38) || ((b && eqb row 40) || ((c && (leb 41 row && ltb row 49)) || (d && (leb 49 row && ltb row 57))))) ≡ true → row < 57
      row_below a b c d row e = grind (arith, nat_tests)

  extras : (isa : Isa) → HaveNoExtra isa claims ⊎ ((entry row : ℕ) × IsFirstExtra isa claims entry row)
  extras isa = elim (first (λ k. is_extra isa (get_or claims k no_owned).claim.row ≡ false) (λ k. is_extra isa (get_or claims k no_owned).claim.row ≡ true) (length claims)
      (λ k l. elim (cases_Bool (is_extra isa (get_or claims k no_owned).claim.row)) [ inl t ↦ inr t | inr f ↦ inl f ])) [
        | inl none ↦ inl (record { none = none })
        | inr f ↦ inr (_, _, record { at = f.0; there = f.1; extra = f.2; first = f.3; entry_is = refl; row_is = refl })
      ]

  pub claims_decided : (isa : Isa) → ClaimsHold isa claims ⊎ ((r : RuleRefusal) × IsFirstOfClaims isa claims r)
  claims_decided isa = elim clashes [
    | inr f ↦ inr (EncodingClash f.0 f.1 f.2 f.3, f.4)
    | inl n ↦ elim (rows isa) [
      | inr f ↦ inr (IsaMissing f.0, (n, f.1))
      | inl a ↦ elim (extras isa) [
        | inr f ↦ inr (IsaExtra f.0 f.1, (n, a, f.2))
        | inl e ↦ inl (record { no_clash = n; all_rows = a; no_extra = e })
      ]
    ]
  ]

-- ---- rules 4 to 13

module _ (shape : CoreShape) (specs : List PlugSpec) where
  service_first : (r : ServiceRefusal) → IsFirstServiceFault (uses_of specs) r → (q : RuleRefusal) × IsFirstOfSpecs shape specs q
  service_first (service.Missing needed by) f = (Missing needed by, f)
  service_first (service.Double offered a b) f = (Double offered a b, f)
  service_first (service.CycleOfNeeds plug) f = (CycleOfNeeds plug, f)
  service_first service.NoMemory f = absurd f

  claims_first : ServicesHold specs → (r : RuleRefusal) → IsFirstOfClaims shape.isa (claims_of specs) r → (q : RuleRefusal) × IsFirstOfSpecs shape specs q
  claims_first s (EncodingClash entry row other other_row) f = (EncodingClash entry row other other_row, (s, f))
  claims_first s (IsaMissing row) f = (IsaMissing row, (s, f))
  claims_first s (IsaExtra entry row) f = (IsaExtra entry row, (s, f))
  claims_first s (UnknownPlugin entry) f = absurd f
  claims_first s (RepeatedPlugin entry other) f = absurd f
  claims_first s (BadParam entry found) f = absurd f
  claims_first s (Missing needed by) f = absurd f
  claims_first s (Double offered a b) f = absurd f
  claims_first s (CycleOfNeeds plug) f = absurd f
  claims_first s (StageAbsent plug absent) f = absurd f
  claims_first s (StageOrder key reader writer) f = absurd f
  claims_first s (KeyTwice key a b) f = absurd f
  claims_first s (TooLarge wanted limit) f = absurd f
  claims_first s refusal.NoMemory f = absurd f

  stages_first : ServicesHold specs → ClaimsHold shape.isa (claims_of specs) → (r : StageRefusal)
      → IsFirstStageFault (stages_of shape specs) (places_of shape.commit specs) shape.commit r → (q : RuleRefusal) × IsFirstOfSpecs shape specs q
  stages_first s c (stages.StageAbsent plug absent) f = (StageAbsent plug absent, record { services = s; claims = c; stages = f })
  stages_first s c (stages.StageOrder key reader writer) f = (StageOrder key reader writer, record { services = s; claims = c; stages = f })
  stages_first s c (stages.KeyTwice key a b) f = (KeyTwice key a b, record { services = s; claims = c; stages = f })
  stages_first s c stages.NoMemory f = absurd f

  pub specs_decided : SpecsHold shape specs ⊎ ((r : RuleRefusal) × IsFirstOfSpecs shape specs r)
  specs_decided = elim (service_rules.fault_or_none (uses_of specs)) [
    | inr f ↦ inr (service_first f.0 f.1)
    | inl s ↦ elim (claims_decided (claims_of specs) shape.isa) [
      | inr f ↦ inr (claims_first s f.0 f.1)
      | inl c ↦ elim (stage_rules.fault_or_none (stages_of shape specs) (places_of shape.commit specs) shape.commit) [
        | inr f ↦ inr (stages_first s c f.0 f.1)
        | inl t ↦ elim (cases_lt 65535 (wanted_by specs)) [
          | inl l ↦ inr (TooLarge (wanted_by specs) 65535, record { services = s; claims = c; stages = t; wanted_is = refl; limit_is = refl; large = l })
          | inr l ↦ inl (record { services = s; claims = c; stages = t; small = l })
        ]
      ]
    ]
  ]

  -- whether the system registers are offered, as a test
  has_csr : (b : Bool) × (IsTrue b ↔ IsOffered (uses_of specs) System)
  has_csr = elim (service_rules.offered (uses_of specs) System) [
    | inl o ↦ (true, (λ t. o, λ w. refl))
    | inr n ↦ (false, (λ t. absurd (false≢true t), λ w. absurd (n w)))
  ]

  plan : (picks : List ℕ) → SpecsHold shape specs → (p : Plan) × IsPlanOf shape picks specs p
  plan picks hold =
      let order = service_rules.order_of (uses_of specs) hold.services.no_loop in (
        record {
          shape = shape;
          picks = picks;
          order = order.0;
          rows = rows_of (claims_of specs);
          owners = owners_of (claims_of specs);
          has_csr = has_csr.0;
          wanted = wanted_by specs;
        },
        record {
          shape_is = refl;
          picks_are = refl;
          order = order.1;
          rows = refl;
          owners = refl;
          has_csr = has_csr.1;
          wanted = refl;
        },
      )

-- ---- rules 1 to 3

-- a list whose places have what is found for each
listed : {A : Type 0} (z : A) (n : ℕ) (R : ℕ → A → Type 0) → ((i : ℕ) → i < n → (a : A) × R i a)
    → (xs : List A) × (length xs ≡ n) × ((i : ℕ) → i < n → R i (get_or xs i z))
listed z zero R found = ([], refl, λ i l. absurd (omega (arith, l)))
listed {A = A} z (suc n) R found =
    let head = found 0 (omega arith) in
    let tail = listed z n (λ i. R (suc i)) (λ i l. found (suc i) (omega (arith, l))) in
    (head.0 ∷ tail.0, ap suc tail.1, at head tail)
  where
    at : (head : (a : A) × R 0 a) (tail : (xs : List A) × (length xs ≡ n) × ((i : ℕ) → i < n → R (suc i) (get_or xs i z))) (i : ℕ) → i < suc n → R i (get_or (head.0 ∷ tail.0) i z)
    at head tail zero l = head.1
    at head tail (suc i) l = tail.2 i (omega (arith, l))

-- the box at a place
box_at : {B : Type 0} (boxes : List B) (k : ℕ) → k < length boxes → (b : B) × ((d : B) → get_or boxes k d ≡ b)
box_at [] k l = absurd (omega (arith, l))
box_at (b ∷ bs) zero l = (b, λ d. refl)
box_at (b ∷ bs) (suc k) l = box_at bs k (omega (arith, l))

repeats : (entries : List PlugEntry) (i j : ℕ) → Repeats entries i j ⊎ (Repeats entries i j → ⊥)
repeats entries i j = elim (cases_lt i j) [
  | inr h ↦ inr (λ r. (let l = r.in_order in omega (arith, h, l)))
  | inl o ↦ elim (cases_lt j (length entries)) [
    | inr h ↦ inr (λ r. (let l = r.there in omega (arith, h, l)))
    | inl t ↦ elim (same_or_not (get_or entries i no_entry).kind (get_or entries j no_entry).kind) [
      | inl e ↦ inl (record { in_order = o; there = t; same = e })
      | inr d ↦ inr (λ r. d r.same)
    ]
  ]
]

repeats_from : (entries : List PlugEntry) (i : ℕ) → ((j : ℕ) → Repeats entries i j → ⊥) ⊎ ((o : ℕ) × Repeats entries i o × ((j : ℕ) → j < o → Repeats entries i j → ⊥))
repeats_from entries i = elim (first (λ j. Repeats entries i j → ⊥) (λ j. Repeats entries i j) (length entries) (λ j l. elim (repeats entries i j) [ inl c ↦ inr c | inr n ↦ inl n ])) [
  | inl none ↦ inl (λ j r. none j r.there r)
  | inr f ↦ inr (f.0, f.2, f.3)
]

distinct : (entries : List PlugEntry) → AreDistinct entries ⊎ ((entry other : ℕ) × IsFirstRepeat entries entry other)
distinct entries = elim (first (λ i. (j : ℕ) → Repeats entries i j → ⊥) (λ i. (o : ℕ) × Repeats entries i o × ((j : ℕ) → j < o → Repeats entries i j → ⊥)) (length entries)
    (λ i l. repeats_from entries i)) [
      | inl none ↦ inl (record { none = λ i j r. (let o = r.in_order in let t = r.there in none i (omega (arith, o, t)) j r) })
      | inr f ↦ inr (f.0, f.2.0, record { repeats = f.2.1; first_entry = λ i j l r. f.3 i l j r; first_other = f.2.2 })
    ]

module _ {B : Type 0} (kind : B → List ℕ) (fault : B → PlugEntry → Option ParamFault) (spec : B → PlugEntry → PlugSpec) (boxes : List B) where
  kind_at : (name : List ℕ) (k : ℕ) → k < length boxes → ((d : B) → kind (get_or boxes k d) ≡ name → ⊥) ⊎ ((d : B) → kind (get_or boxes k d) ≡ name)
  kind_at name k l = let b = box_at boxes k l in elim (same_or_not (kind b.0) name) [
    | inl e ↦ inr (λ d. ap kind (b.1 d) ∙ e)
    | inr n ↦ inl (λ d e. n (ap kind (sym (b.1 d)) ∙ e))
  ]

  pick : (name : List ℕ) → ((p : ℕ) × IsPick kind boxes name p) ⊎ IsUnknown kind boxes (length boxes) name
  pick name = elim (first (λ k. (d : B) → kind (get_or boxes k d) ≡ name → ⊥) (λ k. (d : B) → kind (get_or boxes k d) ≡ name) (length boxes) (kind_at name)) [
    | inl none ↦ inr (record { none = λ d k l. none k l d })
    | inr f ↦ inl (f.0, record { there = f.1; named = f.2; first = record { none = λ d k l. f.3 k l d } })
  ]

  picked : (entries : List PlugEntry) → ((picks : List ℕ) × ArePicks kind boxes entries (length entries) picks) ⊎ ((entry : ℕ) × IsFirstUnknown kind boxes entries entry)
  picked entries = elim (first (λ i. (p : ℕ) × IsPick kind boxes (get_or entries i no_entry).kind p) (λ i. IsUnknown kind boxes (length boxes) (get_or entries i no_entry).kind) (length entries)
      (λ i l. pick (get_or entries i no_entry).kind)) [
        | inl all ↦
            let found = listed 0 (length entries) (λ i p. IsPick kind boxes (get_or entries i no_entry).kind p) all in
            inl (found.0, record { one_each = found.1; each = found.2 })
        | inr f ↦ inr (f.0, record { there = f.1; unknown = f.2; first = λ i l u. (let p = f.3 i l in pick_is_known kind boxes _ p.0 p.1 u) })
      ]

  fault_by : (b : B) (e : PlugEntry) (o : Option ParamFault) → fault b e ≡ o → (fault b e ≡ None) ⊎ ((found : ParamFault) × (fault b e ≡ Some found))
  fault_by b e None is = inl is
  fault_by b e (Some found) is = inr (found, is)

  -- what the box at a place finds in an entry
  finds : (k : ℕ) → k < length boxes → (e : PlugEntry) → ((d : B) → fault (get_or boxes k d) e ≡ None) ⊎ ((found : ParamFault) × ((d : B) → fault (get_or boxes k d) e ≡ Some found))
  finds k l e = let b = box_at boxes k l in elim (fault_by b.0 e (fault b.0 e) refl) [
    | inl n ↦ inl (λ d. ap (λ (c : B). fault c e) (b.1 d) ∙ n)
    | inr f ↦ inr (f.0, λ d. ap (λ (c : B). fault c e) (b.1 d) ∙ f.1)
  ]

  faults : (entries : List PlugEntry) (picks : List ℕ) → AreSound fault boxes → ArePicks kind boxes entries (length entries) picks
      → AreFaultless fault boxes picks entries (length entries) ⊎ ((entry : ℕ) × (found : ParamFault) × IsFirstFault fault boxes picks entries entry found)
  faults entries picks sound p = elim (first (λ i. (d : B) → fault (get_or boxes (get_or picks i 0) d) (get_or entries i no_entry) ≡ None)
      (λ i. (found : ParamFault) × ((d : B) → fault (get_or boxes (get_or picks i 0) d) (get_or entries i no_entry) ≡ Some found)) (length entries)
      (λ i l. finds (get_or picks i 0) (p.each i l).there (get_or entries i no_entry))) [
        | inl none ↦ inl (record { none = λ d i l. none i l d })
        | inr f ↦
            let there = (p.each f.0 f.1).there in
            let d = (box_at boxes (get_or picks f.0 0) there).0 in
            inr (
              f.0,
              f.2.0,
              record {
                there = f.1;
                is = f.2.1;
                first = record { none = λ d i l. f.3 i l d };
                no_memory = λ e. sound d (get_or picks f.0 0) there (get_or entries f.0 no_entry) (f.2.1 d ∙ ap Some e);
              },
            )
      ]

  taken : (entries : List PlugEntry) (picks : List ℕ) → AreFit fault spec boxes → ArePicks kind boxes entries (length entries) picks → AreFaultless fault boxes picks entries (length entries)
      → (specs : List PlugSpec) × AreTaken spec boxes picks entries specs
  taken entries picks fit p faultless =
      let found = listed no_spec (length entries) (λ i s. ((d : B) → s ≡ spec (get_or boxes (get_or picks i 0) d) (get_or entries i no_entry)) × IsSpec s)
      (λ i l.
      let there = (p.each i l).there in
      let b = box_at boxes (get_or picks i 0) there in
      let e = get_or entries i no_entry in (
        spec b.0 e,
        (
          λ d. ap (λ (c : B). spec c e) (sym (b.1 d)),
          subst (λ (c : B). IsSpec (spec c e)) (b.1 b.0) (fit b.0 (get_or picks i 0) there e (faultless.none b.0 i l)),
        ),
      )) in
      (found.0, record { one_each = found.1; are = λ d i l. (found.2 i l).0 d; fit = λ i l. (found.2 i l).1 })

  -- a configuration is accepted, or some rule fails first
  pub decided : (cfg : Config) → AreSound fault boxes → AreFit fault spec boxes → IsDecided kind fault spec boxes cfg
  decided cfg sound fit = elim (picked cfg.entries) [
    | inr f ↦ inr (UnknownPlugin f.0, f.1)
    | inl p ↦ elim (distinct cfg.entries) [
      | inr f ↦ inr (RepeatedPlugin f.0 f.1, record { picks = p.0; picked = p.1; first = f.2 })
      | inl n ↦ elim (faults cfg.entries p.0 sound p.1) [
        | inr f ↦ inr (BadParam f.0 f.1, record { picks = p.0; named = record { picked = p.1; distinct = n }; first = f.2 })
        | inl none ↦ rest p.0 (record { picked = p.1; distinct = n }) none (taken cfg.entries p.0 fit p.1 none)
      ]
    ]
  ]
    where
      rest : (picks : List ℕ) → AreNamed kind boxes cfg.entries picks → AreFaultless fault boxes picks cfg.entries (length cfg.entries)
          → (q : (specs : List PlugSpec) × AreTaken spec boxes picks cfg.entries specs) → IsDecided kind fault spec boxes cfg
      rest picks named none q =
          let known : AreKnown kind fault spec boxes cfg.entries picks q.0 = record { named = named; faultless = none; taken = q.1 } in
          elim (specs_decided cfg.shape q.0) [
            | inr f ↦ inr (f.0, rest_refused kind (λ b. None) (λ b. no_spec) fault spec boxes cfg picks q.0 f.0 known f.1)
            | inl hold ↦
                let made = plan cfg.shape q.0 picks hold in
                inl (made.0, all_accepted kind (λ b. None) (λ b. no_spec) fault spec boxes cfg picks q.0 made.0 known hold made.1)
          ]
