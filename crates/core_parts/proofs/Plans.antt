-- The plan of an accepted configuration and the services of its plug-ins fit together.
use Rattle.std.proofs.Common.{◌≡◌, ◌∙◌, ℕ, zero, suc, ◌<◌, ◌≤◌, ◌||◌, Bool, true, false, cond, eqb, leb, List, [], ◌∷◌, length, get_or, refl, arith, ap, sym, subst, is_some, Option, None, Some, inl, inr}
use Rattle.std.specs.Prelude.{option_map}
use Rattle.std.proofs.lemmas.Bool.{both_ways, or_cases, or_left, or_right, and_parts, cases_order, eqb-true, eq-eqb, false_from_ne_true, leb-true}
use Rattle.isa_table.specs.declared.claim.Claim.{Claim}
use Rattle.isa_table.specs.Rows.{TableRow}
use Rattle.isa_table.specs.Rows as rows
use Rattle.isa_model.specs.Machine.{Set, has_row}
use Rattle.service_reg.specs.declared.service.Service.TheVariants.{Fetch, Exec, DataBus, System}
use Rattle.service_ports.specs.Registry.{Offered, single}
use Rattle.service_ports.proofs.Offers.{none_some, own_of}
use Rattle.plug_law.specs.Table.{table_of, number_of, is_system_row, IsCoherent}
use Rattle.plug_law.specs.Decode.{is_call}
use Rattle.plug_law.specs.Pipeline.{member}
use Rattle.plug_law.proofs.Rows.{is_taken}
use Rattle.plug_law.proofs.IsTable.{is_table}
use Rattle.plug_law.proofs.Bridge.{outcome_bridge}
use Rattle.plug_part.specs.Terms.{no_claim, claims_row, owner_among, RowsDiffer}
use Rattle.plug_part.proofs.Owners.{owners_are_told}
use Rattle.plug_build.specs.World.{World}
use Rattle.plug_api.specs.declared.spec.Plan.{Plan}
use Rattle.plug_api.specs.declared.spec.PlugSpec.{PlugSpec}
use Rattle.plug_api.specs.Spec.{is_among}
use Rattle.plug_api.specs.Calls.{IsLawful, rows_by}
use Rattle.part_laws.specs.Joined.{CoreTerms, Services, entry_in}
use Rattle.part_laws.specs.Registered.{entry_of, offered_trees}
use Rattle.part_laws.specs.Follow.{IsPlanned}
use Rattle.core_parts.specs.Laid.{said_by, terms_by, services_by}
use Rattle.core_parts.proofs.Offered.{single_by, is_member}
use Rattle.core_parts.proofs.Facts.{Facts, says, found, single_said, is_offered, said_by_one, commits}
use Rattle.core_parts.proofs.Joins.{joins}

-- ---- claims and rows

-- a row that is claimed is that of some claim
pub claim_at : (claims : List Claim) (row : ℕ) → claims_row claims row ≡ true → (k : ℕ) × ((k < length claims) × ((get_or claims k no_claim).row ≡ row))
claim_at [] row h = absurd (both_ways false refl h)
claim_at (c ∷ cs) row h = elim (or_cases (eqb c.row row) (claims_row cs row) h) [
  | inl here ↦ (0, (omega arith, eqb-true c.row row here))
  | inr later ↦ let k = claim_at cs row later in (suc k.0, (omega (arith, k.1.0), k.1.1))
]

-- the claims of an entry have the rows of its places
own_claim : (claims : List Claim) (owners : List ℕ) (entry k : ℕ) → length claims ≡ length owners → k < length claims → get_or owners k 0 ≡ entry
    → claims_row (rows_by entry claims owners) (get_or claims k no_claim).row ≡ true
own_claim [] owners entry k same l is = absurd (omega (arith, l))
own_claim (c ∷ cs) [] entry k same l is = absurd (omega (arith, same))
own_claim (c ∷ cs) (o ∷ os) entry zero same l is = by (eqb o entry) (eq-eqb o entry is)
  where
    by : (b : Bool) → b ≡ true → claims_row (cond b (c ∷ rows_by entry cs os) (rows_by entry cs os)) c.row ≡ true
    by true e = or_left (eqb c.row c.row) _ (eq-eqb c.row c.row refl)
    by false e = absurd (both_ways false refl e)
own_claim (c ∷ cs) (o ∷ os) entry (suc k) same l is = by (own_claim cs os entry k (omega (arith, same)) (omega (arith, l)) is) (eqb o entry)
  where
    by : claims_row (rows_by entry cs os) (get_or cs k no_claim).row ≡ true → (b : Bool)
        → claims_row (cond b (c ∷ rows_by entry cs os) (rows_by entry cs os)) (get_or cs k no_claim).row ≡ true
    by h true = or_right (eqb c.row (get_or cs k no_claim).row) _ h
    by h false = h

-- a word's row is one of the set
row_taken : (s : Set) (word row : ℕ) → (table_of s).row_of word ≡ Some row → has_row s row ≡ true
unfolding table_of
row_taken s word row e = by (rows.row_of (has_row s) word) refl e
  where
    by : (o : Option TableRow) → rows.row_of (has_row s) word ≡ o → option_map number_of o ≡ Some row → has_row s row ≡ true
    by None is h = absurd (none_some None row refl h)
    by (Some r) is h = subst (λ n. has_row s n ≡ true) (number_same r h) (is_taken (has_row s) word r is)
      where
        number_same : (r : TableRow) → ◌≡◌ {A = Option ℕ} (Some r.number) (Some row) → r.number ≡ row
        number_same r e = cc

system_row : (s : Set) (row : ℕ) → (table_of s).of_system row ≡ is_system_row row
unfolding table_of
system_row s row = refl

system_above : (row : ℕ) → is_system_row row ≡ true → 49 ≤ row
system_above row h = leb-true 49 row (and_parts (leb 49 row) (leb row 56) h).0

no_call : (row : ℕ) → is_call row ≡ false → (claimed : Bool) → (claimed || (eqb row 38 || eqb row 39)) ≡ true → claimed ≡ true
no_call row other claimed h = elim (or_cases claimed (is_call row) h) [
  | inl c ↦ c
  | inr call ↦ absurd (both_ways (is_call row) other call)
]

not_call : (row : ℕ) → 49 ≤ row → is_call row ≡ false
not_call row l = false_from_ne_true _ (λ h. elim (or_cases (eqb row 38) (eqb row 39) h) [
  | inl a ↦ let e = eqb-true row 38 a in omega (arith, e, l)
  | inr a ↦ let e = eqb-true row 39 a in omega (arith, e, l)
])

module _ (plan : Plan) (specs : List PlugSpec) (w : World) (f : Facts plan specs w) where
  abbrev v : CoreTerms
  v = terms_by specs plan w.reg

  abbrev x : Services
  x = services_by specs w

  -- the plan is lawful, since some entry offers Fetch
  pub some_entry : (e : ℕ) × ((e < length specs) × (is_among (said_by specs e).offers Fetch ≡ true))
  some_entry = said_by_one plan specs w f Fetch f.services.core.fetch

  pub law : IsLawful (said_by specs some_entry.0) plan some_entry.0
  law = f.lawful some_entry.0 some_entry.1.0

  rows_differ : RowsDiffer plan.rows
  rows_differ i j l m same = elim (cases_order i j) [
    | inl e ↦ e
    | inr other ↦ elim other [
      | inl less ↦ absurd (law.rows_differ i j less m same)
      | inr more ↦ absurd (law.rows_differ j i more l (sym same))
    ]
  ]

  -- a row that is claimed belongs to an entry that claims it
  pub record Owns (row : ℕ) : Type 0 where
    pub there : v.owner row < length specs
    pub claims : claims_row (said_by specs (v.owner row)).rows row ≡ true

  owned : (row : ℕ) → v.set.claims row ≡ true → Owns row
  owned row h =
      let k = claim_at plan.rows row h in
      let told = owners_are_told plan.rows plan.owners rows_differ k.0 k.1.0 in
      let is : v.owner row ≡ get_or plan.owners k.0 0 = ap (owner_among plan.rows plan.owners) (sym k.1.1) ∙ told in
      let each = law.each in
      let size = f.size in
      let below : get_or plan.owners k.0 0 < length plan.picks = law.owned k.0 (omega (arith, k.1.0, each)) in
      let there : v.owner row < length specs = omega (arith, is, below, size) in
      record {
        there = there;
        claims = ap (λ cs. claims_row cs row) (sym (f.lawful (v.owner row) there).own)
            ∙ subst (λ n. claims_row (rows_by (v.owner row) plan.rows plan.owners) n ≡ true) k.1.1 (own_claim plan.rows plan.owners (v.owner row) k.0 each k.1.0 (sym is));
      }

  executes : (row : ℕ) → Owns row → is_among (said_by specs (v.owner row)).offers Exec ≡ true
  executes row o = let k = claim_at (said_by specs (v.owner row)).rows row o.claims in (f.fit (v.owner row) o.there).units k.0 k.1.0

  keeps_system : (row : ℕ) → Owns row → 49 ≤ row → is_among (said_by specs (v.owner row)).offers System ≡ true
  keeps_system row o l =
      let k = claim_at (said_by specs (v.owner row)).rows row o.claims in
      (f.fit (v.owner row) o.there).system k.0 k.1.0 (subst (λ n. 49 ≤ n) (sym k.1.1) l)

  is_unit : (e : ℕ) → is_among (said_by specs e).offers Exec ≡ true → member e v.execs ≡ true
  is_unit e h = is_member w.reg e (says plan specs w f e Exec h)

  -- a row of the system registers is claimed only where they are there
  coherent : IsCoherent v.set
  coherent row claimed h = let o = owned row claimed in f.has_csr.1 (is_offered plan specs w f (v.owner row) System (keeps_system row o (system_above row h)))

  -- the row of a word, where it needs system registers
  needs : (word row : ℕ) → v.table.row_of word ≡ Some row → v.table.of_system row ≡ true → (v.set.claims row ≡ true) × (is_system_row row ≡ true) × (49 ≤ row)
  needs word row is h =
      let system : is_system_row row ≡ true = sym (system_row v.set row) ∙ h in
      let l = system_above row system in
      (no_call row (not_call row l) (v.set.claims row) (row_taken v.set word row is), system, l)

  system_by : (o : Offered) → single w.reg System ≡ Some o → entry_in x.system ≡ o.by
  system_by o is = ap (λ (q : Option Offered). entry_in (offered_trees w.pool.nodes q)) is

  committing : (e : ℕ) → (is_among (said_by specs e).offers DataBus || is_among (said_by specs e).offers System) ≡ true → e < length specs → (member e v.execs ≡ true) × (v.commits e ≡ true)
  committing e h l = let c = commits plan specs w f e h l in (is_unit e c.1, c.0)

  data_entry : is_some x.data_entry ≡ true → (k : ℕ) × (member k v.execs ≡ true) × (v.holds k ≡ true)
  data_entry h = by (single w.reg DataBus) refl h
    where
      by : (o : Option Offered) → single w.reg DataBus ≡ o → is_some (entry_of o) ≡ true → (k : ℕ) × (member k v.execs ≡ true) × (v.holds k ≡ true)
      by None is h = absurd (both_ways false refl h)
      by (Some o) is h =
          let said = single_said plan specs w f DataBus o (λ q. cc) is (ap (λ (p : Option _). is_some p) (own_of w.reg o.by DataBus o.ports is)) in
          let c = committing o.by (or_left (is_among (said_by specs o.by).offers DataBus) _ said) (f.singles DataBus o is) in
          (o.by, c.0, said)

  system_commits : v.set.system ≡ true → (member (entry_in x.system) v.execs ≡ true) × (v.commits (entry_in x.system) ≡ true)
  system_commits h =
      let o = found plan specs w f System (λ q. cc) (f.has_csr.0 h) in
      let said = single_said plan specs w f System o.0 (λ q. cc) o.1 (ap (λ (p : Option _). is_some p) (own_of w.reg o.0.by System o.0.ports o.1)) in
      subst (λ e. (member e v.execs ≡ true) × (v.commits e ≡ true)) (sym (system_by o.0 o.1)) (committing o.0.by (or_right (is_among (said_by specs o.0.by).offers DataBus) _ said) (f.singles System o.0 o.1))

  system_owns : (word row : ℕ) → v.table.row_of word ≡ Some row → v.table.of_system row ≡ true → v.owner row ≡ entry_in x.system
  system_owns word row is h =
      let n = needs word row is h in
      let o = single_by w.reg (v.owner row) System (λ q. cc) (says plan specs w f (v.owner row) System (keeps_system row (owned row n.0) n.2)) in
      sym (system_by o.0 o.1 ∙ o.2)

  no_system : v.set.system ≡ false → (word row : ℕ) → v.table.row_of word ≡ Some row → v.table.of_system row ≡ false
  no_system none word row is = false_from_ne_true _ (λ h. let n = needs word row is h in both_ways v.set.system none (coherent row n.0 n.1))

  pub plans : IsPlanned v x
  plans predict bypassed start size = record {
    table = is_table v.set;
    means = outcome_bridge v.set coherent;
    system = sym (joins plan specs w f).has_system;
    reset = f.aligned;
    stages = f.few;
    size = size;
    owns = λ word row is other.
        let claimed = no_call row other (v.set.claims row) (row_taken v.set word row is) in
        let o = owned row claimed in
        (is_unit (v.owner row) (executes row o), o.claims);
    data_entry = data_entry;
    system_commits = system_commits;
    system_owns = λ h word row is of. system_owns word row is of;
    no_system = no_system;
  }
