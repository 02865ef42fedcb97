-- The part of an entry while others build.
use Rattle.std.proofs.Common.{◌≡◌, ◌∙◌, ℕ, ◌<◌, ◌≤◌, List, [], ◌∷◌, length, map, refl, arith, ap, sym, subst, Bool, true, false, cond, eqb, ◌||◌, ◌&&◌, is_some, Option, None, Some, inl, inr}
use Rattle.std.proofs.lemmas.Bool.{cases_Bool, cases_lt, or_cases, eqb-true, both_ways, and_parts, and_left, and_right, cond-false}
use Rattle.std.proofs.lemmas.List.{get_or_past}
use Rattle.hw_pool.specs.declared.node.Node.{Node}
use Rattle.hw_pool.specs.Nodes.{PoolValue}
use Rattle.hw_pool.specs.Trees.{Tree}
use Rattle.hw_pool.specs.Frame.{Adds}
use Rattle.hw_expr.specs.declared.net.Net.{Net}
use Rattle.hw_module.specs.declared.rows.Owner.{Owner}
use Rattle.hw_module.specs.declared.rows.Owner.TheVariants.{Pipe, Entry}
use Rattle.hw_module.specs.declared.rows.WireRow.{WireRow}
use Rattle.hw_module.specs.declared.rows.RegRow.{RegRow}
use Rattle.hw_module.specs.declared.rows.ArrayRow.{ArrayRow}
use Rattle.hw_module.specs.declared.rows.ArrayWrite.{ArrayWrite}
use Rattle.hw_module.specs.Rows.{ModuleValue, wire_at, reg_at, array_at, out_at}
use Rattle.service_reg.specs.declared.service.Service.{Service}
use Rattle.service_reg.specs.declared.service.Service.TheVariants.{Fetch, Predict, Decoder, RegFile, Hazard, Exec, DataBus, System}
use Rattle.service_ports.specs.Ports.{Ports, output_widths, output_level}
use Rattle.service_ports.specs.Registry.{Offered, single, offer_of}
use Rattle.plug_build.specs.World.{World, Builds, part_in}
use Rattle.hw_module.specs.Rights.{Rights}
use Rattle.plug_part.specs.Owned.{is_owner, is_input_of, is_own_input, is_predict_input, is_out_of, is_fetch_out, is_bus_out, offers, ports_of}
use Rattle.plug_build.specs.Fits.{AreOutputs, WorldFits}
use Rattle.plug_part.specs.Part.{TreeWrite, PortTrees}
use Rattle.plug_part.specs.Of.{net_tree, tree_option, write_trees, port_trees, own_wire, own_reg, own_array, part_of}
use Rattle.plug_build.specs.Frame.{Leaves, PredictStays}
use Rattle.plug_build.specs.Frame.PredictStays.{Stays, Comes}
use Rattle.plug_part.proofs.Rows.{owner_is, is_owned, away}
use Rattle.plug_build.proofs.Offers.{offer_fits}

-- ---- nets that are live keep their trees

module _ (old new : PoolValue) (n : ℕ) (adds : Adds old new n) where
  pub tree_kept : (o : Option Net) → ((net : Net) → o ≡ Some net → net.id.0 < length old.nodes) → tree_option new.nodes o ≡ tree_option old.nodes o
  tree_kept None live = refl
  tree_kept (Some net) live = ap Some (adds.trees net.id.0 (live net refl))

  pub write_kept : (o : Option ArrayWrite)
      → ((w : ArrayWrite) → o ≡ Some w → (w.enable.id.0 < length old.nodes) × (w.addr.id.0 < length old.nodes) × (w.value.id.0 < length old.nodes)) → write_trees new.nodes o ≡ write_trees old.nodes o
  write_kept None live = refl
  write_kept (Some w) live =
      let l = live w refl in
      let a = adds.trees w.enable.id.0 l.0 in
      let b = adds.trees w.addr.id.0 l.1 in
      let c = adds.trees w.value.id.0 l.2 in
      λ i. Some (record { enable = a i; addr = b i; value = c i })

  outputs-kept : (d : ModuleValue) (most : ℕ) (ns : List Net) (ws : List ℕ) → AreOutputs d old most ns ws → map (net_tree new.nodes) ns ≡ map (net_tree old.nodes) ns
  outputs-kept d most [] ws are = refl
  outputs-kept d most (n ∷ ns) [] are = absurd are
  outputs-kept d most (n ∷ ns) (w ∷ ws) are =
      let a = adds.trees n.id.0 are.0.scope.is.live in
      let b = outputs-kept d most ns ws are.1 in
      λ i. a i ∷ b i

  pub ports_kept : (d : ModuleValue) (most : ℕ) (ws : List ℕ) (o : Option Ports) → ((p : Ports) → o ≡ Some p → AreOutputs d old most p.outputs ws) → port_trees new.nodes o ≡ port_trees old.nodes o
  ports_kept d most ws None are = refl
  ports_kept d most ws (Some p) are = ap (λ (ts : List Tree). Some (record { inputs = p.inputs; outputs = ts })) (outputs-kept d most p.outputs ws (are p refl))

none-either : (b : Bool) → ◌≡◌ {A = Option Tree} (cond b None None) None
none-either true = refl
none-either false = refl

pub some_eq : {A : Type 0} {a b : A} → Some a ≡ Some b → a ≡ b
some_eq e = cc

-- the outputs that an entry may drive are ports
out_is : (fetch bus : Bool) (p : ℕ) → ((fetch && is_fetch_out p) || (bus && is_bus_out p)) ≡ true → p < 30
out_is fetch bus p e = elim (or_cases (fetch && is_fetch_out p) (bus && is_bus_out p) e) [
  | inl f ↦ of-fetch (and_parts fetch (is_fetch_out p) f).1
  | inr b ↦ of-bus (and_parts bus (is_bus_out p) b).1
]
  where
    is-below : (k : ℕ) → k < 30 → eqb p k ≡ true → p < 30
    is-below k l x = let at = eqb-true p k x in omega arith

    of-fetch : is_fetch_out p ≡ true → p < 30
    of-fetch e = elim (or_cases (eqb p 2) (eqb p 4) e) [ inl x ↦ is-below 2 (omega arith) x | inr x ↦ is-below 4 (omega arith) x ]

    of-bus : is_bus_out p ≡ true → p < 30
    of-bus e = elim (or_cases (eqb p 8) (eqb p 10 || (eqb p 11 || (eqb p 12 || eqb p 13))) e) [
      | inl x ↦ is-below 8 (omega arith) x
      | inr e2 ↦ elim (or_cases (eqb p 10) (eqb p 11 || (eqb p 12 || eqb p 13)) e2) [
        | inl x ↦ is-below 10 (omega arith) x
        | inr e3 ↦ elim (or_cases (eqb p 11) (eqb p 12 || eqb p 13) e3) [
          | inl x ↦ is-below 11 (omega arith) x
          | inr e4 ↦ elim (or_cases (eqb p 12) (eqb p 13) e4) [ inl x ↦ is-below 12 (omega arith) x | inr x ↦ is-below 13 (omega arith) x ]
        ]
      ]
    ]

-- ---- rows

module _ (nodes nodes' : List Node) (entry : ℕ) where
  wire-other : (input : Bool) (row : WireRow) → (row.owner ≡ Entry entry → ⊥) → own_wire nodes entry input row ≡ None
  wire-other input row apart = away row.owner entry _ apart

  reg-other : (row : RegRow) → (row.owner ≡ Entry entry → ⊥) → own_reg nodes entry row ≡ None
  reg-other row apart = away row.owner entry _ apart

  array-other : (row : ArrayRow) → (row.owner ≡ Entry entry → ⊥) → own_array nodes entry row ≡ None
  array-other row apart = away row.owner entry _ apart

  -- a wire whose driver is hidden
  wire-hidden : (old new : WireRow) → new.owner ≡ old.owner → new.width ≡ old.width → new.level ≡ old.level → own_wire nodes' entry true new ≡ own_wire nodes entry true old
  wire-hidden old new o w l = λ i. cond (is_owner (o i) entry) (Some (record { width = w i; level = l i; driver = None })) None

  wire-seen : (input : Bool) (row : WireRow) → tree_option nodes' row.driver ≡ tree_option nodes row.driver → own_wire nodes' entry input row ≡ own_wire nodes entry input row
  wire-seen input row e = ap (λ (t : Option Tree). cond (is_owner row.owner entry) (Some (record { width = row.width; level = row.level; driver = cond input None t })) None) e

  reg-seen : (row : RegRow) → tree_option nodes' row.next ≡ tree_option nodes row.next → own_reg nodes' entry row ≡ own_reg nodes entry row
  reg-seen row e = ap (λ (t : Option Tree). cond (is_owner row.owner entry) (Some (record { width = row.width; reset = row.reset; next = t })) None) e

  array-seen : (row : ArrayRow) → write_trees nodes' row.write ≡ write_trees nodes row.write → own_array nodes' entry row ≡ own_array nodes entry row
  array-seen row e = ap (λ (t : Option TreeWrite). cond (is_owner row.owner entry) (Some (record { width = row.width; bits = row.bits; write = t })) None) e

-- ---- the part of an entry, while another owner builds within its rights

module _ (takes : Service → Bool) (entry : ℕ) (by : Owner) (r : Rights) (most : ℕ) (old new : World) (apart : by ≡ Entry entry → ⊥)
    (fits : WorldFits old) (h : Builds by r most old new) (leaves : Leaves takes entry r old new) where
  live-wire : (k : ℕ) → k < length old.design.wires → (net : Net) → (wire_at old.design.wires k).driver ≡ Some net → net.id.0 < length old.pool.nodes
  live-wire k l net e = (fits.drivers.wires k net l e).fits.is.live

  pub input_same : (k : ℕ) → is_own_input new.reg entry k ≡ is_own_input old.reg entry k
  input_same k =
      let e = leaves.offers_kept in
      λ i. is_input_of (e Fetch i) k || (is_input_of (e Predict i) k || (is_input_of (e Decoder i) k || (is_input_of (e RegFile i) k
      || (is_input_of (e Hazard i) k || (is_input_of (e Exec i) k || (is_input_of (e DataBus i) k || is_input_of (e System i) k))))))

  -- a row that is not there is nobody's
  past-wire : (rows : List WireRow) (k : ℕ) → length rows ≤ k → (wire_at rows k).owner ≡ Entry entry → ⊥
  past-wire rows k l e = let none : Pipe ≡ Entry entry = sym (ap (λ (row : WireRow). row.owner) (get_or_past rows k _ l)) ∙ e in cc

  past-reg : (rows : List RegRow) (k : ℕ) → length rows ≤ k → (reg_at rows k).owner ≡ Entry entry → ⊥
  past-reg rows k l e = let none : Pipe ≡ Entry entry = sym (ap (λ (row : RegRow). row.owner) (get_or_past rows k _ l)) ∙ e in cc

  past-array : (rows : List ArrayRow) (k : ℕ) → length rows ≤ k → (array_at rows k).owner ≡ Entry entry → ⊥
  past-array rows k l e = let none : Pipe ≡ Entry entry = sym (ap (λ (row : ArrayRow). row.owner) (get_or_past rows k _ l)) ∙ e in cc

  new-wire : (k : ℕ) → length old.design.wires ≤ k → (wire_at new.design.wires k).owner ≡ Entry entry → ⊥
  new-wire k l e = elim (cases_lt k (length new.design.wires)) [
    | inl there ↦ apart (sym (h.makes.new_wires k l there) ∙ e)
    | inr past ↦ past-wire new.design.wires k past e
  ]

  new-reg : (k : ℕ) → length old.design.regs ≤ k → (reg_at new.design.regs k).owner ≡ Entry entry → ⊥
  new-reg k l e = elim (cases_lt k (length new.design.regs)) [
    | inl there ↦ apart (sym (h.makes.new_regs k l there) ∙ e)
    | inr past ↦ past-reg new.design.regs k past e
  ]

  new-array : (k : ℕ) → length old.design.arrays ≤ k → (array_at new.design.arrays k).owner ≡ Entry entry → ⊥
  new-array k l e = elim (cases_lt k (length new.design.arrays)) [
    | inl there ↦ apart (sym (h.makes.new_arrays k l there) ∙ e)
    | inr past ↦ past-array new.design.arrays k past e
  ]

  wire-same : (k : ℕ) → own_wire new.pool.nodes entry (is_own_input new.reg entry k) (wire_at new.design.wires k) ≡ own_wire old.pool.nodes entry (is_own_input old.reg entry k) (wire_at old.design.wires k)
  wire-same k = ap (λ (b : Bool). own_wire new.pool.nodes entry b (wire_at new.design.wires k)) (input_same k) ∙ elim (cases_lt k (length old.design.wires)) [
    | inr past ↦ wire-other new.pool.nodes new.pool.nodes entry _ _ (new-wire k past) ∙ sym (wire-other old.pool.nodes old.pool.nodes entry _ _ (past-wire old.design.wires k past))
    | inl there ↦
        let stays = h.makes.grows.wires k there in
        elim (cases_Bool (is_owner (wire_at old.design.wires k).owner entry)) [
          | inr miss ↦
              let other : (wire_at old.design.wires k).owner ≡ Entry entry → ⊥ = λ e. both_ways _ miss (is_owned _ entry e) in
              wire-other new.pool.nodes new.pool.nodes entry _ _ (λ e. other (sym stays.owner ∙ e)) ∙ sym (wire-other old.pool.nodes old.pool.nodes entry _ _ other)
          | inl is ↦
              let own : (wire_at old.design.wires k).owner ≡ Entry entry = owner_is _ entry is in
              elim (cases_Bool (is_own_input old.reg entry k)) [
                | inl input ↦
                    ap (λ (b : Bool). own_wire new.pool.nodes entry b (wire_at new.design.wires k)) input
                    ∙ wire-hidden old.pool.nodes new.pool.nodes entry (wire_at old.design.wires k) (wire_at new.design.wires k) stays.owner stays.width stays.level
                    ∙ ap (λ (b : Bool). own_wire old.pool.nodes entry b (wire_at old.design.wires k)) (sym input)
                | inr free ↦
                    ap (own_wire new.pool.nodes entry (is_own_input old.reg entry k)) (h.makes.wires k there (λ e. apart (sym e ∙ own)) (leaves.wires k own free))
                    ∙ wire-seen old.pool.nodes new.pool.nodes entry _ _ (tree_kept old.pool new.pool h.nodes h.adds (wire_at old.design.wires k).driver (live-wire k there))
              ]
        ]
  ]

  reg-same : (k : ℕ) → own_reg new.pool.nodes entry (reg_at new.design.regs k) ≡ own_reg old.pool.nodes entry (reg_at old.design.regs k)
  reg-same k = elim (cases_lt k (length old.design.regs)) [
    | inr past ↦ reg-other new.pool.nodes new.pool.nodes entry _ (new-reg k past) ∙ sym (reg-other old.pool.nodes old.pool.nodes entry _ (past-reg old.design.regs k past))
    | inl there ↦ elim (cases_Bool (is_owner (reg_at old.design.regs k).owner entry)) [
      | inr miss ↦
          let other : (reg_at old.design.regs k).owner ≡ Entry entry → ⊥ = λ e. both_ways _ miss (is_owned _ entry e) in
          reg-other new.pool.nodes new.pool.nodes entry _ (λ e. other (sym (h.makes.grows.regs k there).owner ∙ e)) ∙ sym (reg-other old.pool.nodes old.pool.nodes entry _ other)
      | inl is ↦
          let own : (reg_at old.design.regs k).owner ≡ Entry entry = owner_is _ entry is in
          ap (own_reg new.pool.nodes entry) (h.makes.regs k there (λ e. apart (sym e ∙ own)))
          ∙ reg-seen old.pool.nodes new.pool.nodes entry _ (tree_kept old.pool new.pool h.nodes h.adds (reg_at old.design.regs k).next (λ net e. (fits.drivers.regs k net there e).fits.is.live))
    ]
  ]

  array-same : (k : ℕ) → own_array new.pool.nodes entry (array_at new.design.arrays k) ≡ own_array old.pool.nodes entry (array_at old.design.arrays k)
  array-same k = elim (cases_lt k (length old.design.arrays)) [
    | inr past ↦ array-other new.pool.nodes new.pool.nodes entry _ (new-array k past) ∙ sym (array-other old.pool.nodes old.pool.nodes entry _ (past-array old.design.arrays k past))
    | inl there ↦ elim (cases_Bool (is_owner (array_at old.design.arrays k).owner entry)) [
      | inr miss ↦
          let other : (array_at old.design.arrays k).owner ≡ Entry entry → ⊥ = λ e. both_ways _ miss (is_owned _ entry e) in
          array-other new.pool.nodes new.pool.nodes entry _ (λ e. other (sym (h.makes.grows.arrays k there).owner ∙ e)) ∙ sym (array-other old.pool.nodes old.pool.nodes entry _ other)
      | inl is ↦
          let own : (array_at old.design.arrays k).owner ≡ Entry entry = owner_is _ entry is in
          ap (own_array new.pool.nodes entry) (h.makes.arrays k there (λ e. apart (sym e ∙ own)))
          ∙ array-seen old.pool.nodes new.pool.nodes entry _ (write_kept old.pool new.pool h.nodes h.adds (array_at old.design.arrays k).write
          (λ w e. let d = fits.drivers.arrays k w there e in (d.enable.is.live, d.addr.is.live, d.value.is.live)))
    ]
  ]

  offers-same : (s : Service) → offers new.reg entry s ≡ offers old.reg entry s
  offers-same s = ap (λ (o : Option Ports). is_some o) (leaves.offers_kept s)

  out-is-same : (p : ℕ) → is_out_of new.reg entry p ≡ is_out_of old.reg entry p
  out-is-same p =
      let a = offers-same Fetch in
      let b = offers-same DataBus in
      λ i. (a i && is_fetch_out p) || (b i && is_bus_out p)

  out-same : (p : ℕ) → cond (is_out_of new.reg entry p) (tree_option new.pool.nodes (out_at new.design.outs p)) None ≡ cond (is_out_of old.reg entry p) (tree_option old.pool.nodes (out_at old.design.outs p)) None
  out-same p = ap (λ (b : Bool). cond b (tree_option new.pool.nodes (out_at new.design.outs p)) None) (out-is-same p) ∙ elim (cases_Bool (is_out_of old.reg entry p)) [
    | inr miss ↦ cond-false _ _ None miss ∙ sym (cond-false _ _ None miss)
    | inl is ↦
        let port : p < 30 = out_is (offers old.reg entry Fetch) (offers old.reg entry DataBus) p is in
        ap (λ (t : Option Tree). cond (is_out_of old.reg entry p) t None)
        (ap (tree_option new.pool.nodes) (h.makes.outs p (leaves.outs p is)) ∙ tree_kept old.pool new.pool h.nodes h.adds (out_at old.design.outs p) (λ net e. (fits.drivers.outs p net port e).fits.is.live))
  ]

  drive-same : (k : ℕ) → cond (offers new.reg entry Fetch && is_predict_input new.reg k) (tree_option new.pool.nodes (wire_at new.design.wires k).driver) None
      ≡ cond (offers old.reg entry Fetch && is_predict_input old.reg k) (tree_option old.pool.nodes (wire_at old.design.wires k).driver) None
  drive-same k = ap (λ (b : Bool). cond (b && is_predict_input new.reg k) (tree_option new.pool.nodes (wire_at new.design.wires k).driver) None) (offers-same Fetch) ∙ elim (cases_Bool (offers old.reg entry Fetch)) [
    | inr miss ↦ cond-false _ _ None (and_left _ _ miss) ∙ sym (cond-false _ _ None (and_left _ _ miss))
    | inl fetches ↦ predict (leaves.predicts k fetches)
  ]
    where
      predict : PredictStays old new k → cond (offers old.reg entry Fetch && is_predict_input new.reg k) (tree_option new.pool.nodes (wire_at new.design.wires k).driver) None
          ≡ cond (offers old.reg entry Fetch && is_predict_input old.reg k) (tree_option old.pool.nodes (wire_at old.design.wires k).driver) None
      predict (Stays same row) = ap (λ (b : Bool). cond (offers old.reg entry Fetch && b) (tree_option new.pool.nodes (wire_at new.design.wires k).driver) None) same ∙ elim (cases_Bool (is_predict_input old.reg k)) [
        | inr miss ↦ cond-false _ _ None (and_right _ _ miss) ∙ sym (cond-false _ _ None (and_right _ _ miss))
        | inl is ↦
            let at = row is in
            ap (λ (t : Option Tree). cond (offers old.reg entry Fetch && is_predict_input old.reg k) t None)
            (ap (λ (w : WireRow). tree_option new.pool.nodes w.driver) at.1 ∙ tree_kept old.pool new.pool h.nodes h.adds (wire_at old.design.wires k).driver (live-wire k at.0))
      ]
      predict (Comes away bare) =
          ap (λ (o : Option Net). cond (offers old.reg entry Fetch && is_predict_input new.reg k) (tree_option new.pool.nodes o) None) bare
          ∙ none-either (offers old.reg entry Fetch && is_predict_input new.reg k) ∙ sym (cond-false _ _ None (and_right _ _ away))

  offer-same : (s : Service) → port_trees new.pool.nodes (offer_of new.reg entry s) ≡ port_trees old.pool.nodes (offer_of old.reg entry s)
  offer-same s = ap (port_trees new.pool.nodes) (leaves.offers_kept s)
      ∙ ports_kept old.pool new.pool h.nodes h.adds old.design (output_level s) (output_widths s) (offer_of old.reg entry s) (λ p e. (offer_fits old.design old.pool old.reg fits.offers entry s p e).outputs)

  single-live : (s : Service) (o : Option Offered) → single old.reg s ≡ o → port_trees new.pool.nodes (ports_of o) ≡ port_trees old.pool.nodes (ports_of o)
  single-live s None e = refl
  single-live s (Some o) e =
      ports_kept old.pool new.pool h.nodes h.adds old.design (output_level s) (output_widths s) (Some o.ports)
      (λ p is. subst (λ (q : Ports). AreOutputs old.design old.pool (output_level s) q.outputs (output_widths s)) (some_eq is) (fits.offers.singles s o e).outputs)

  took-same : (s : Service) → cond (takes s) (port_trees new.pool.nodes (ports_of (single new.reg s))) None ≡ cond (takes s) (port_trees old.pool.nodes (ports_of (single old.reg s))) None
  took-same s = elim (cases_Bool (takes s)) [
    | inr miss ↦ cond-false _ _ None miss ∙ sym (cond-false _ _ None miss)
    | inl is ↦
        ap (λ (t : Option PortTrees). cond (takes s) t None)
        (ap (λ (o : Option Offered). port_trees new.pool.nodes (ports_of o)) (leaves.took s is) ∙ single-live s (single old.reg s) refl)
  ]

  -- the part is as it was
  pub part_kept : part_in takes entry new ≡ part_in takes entry old
  unfolding part_of
  part_kept = λ i. record {
    wires = λ k. wire-same k i;
    regs = λ k. reg-same k i;
    arrays = λ k. array-same k i;
    drives = λ k. drive-same k i;
    outs = λ p. out-same p i;
    offers = λ s. offer-same s i;
    took = λ s. took-same s i;
  }
