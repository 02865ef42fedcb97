-- What the second call leaves: each register has its equation, Predict is asked, and the command is given.
use Rattle.std.proofs.Common.{◌≡◌, ◌∙◌, ℕ, ◌+◌, ◌*◌, ◌-◌, ◌/◌, ◌<◌, ◌≤◌, ◌⊎◌, List, [], ◌∷◌, length, get_or, ap, sym, subst, refl, arith, Bool, true, false, ◌||◌, ◌&&◌, cond, eqb, Option, None, Some, inl, inr}
use Rattle.std.proofs.lemmas.Bool.{cases_lt, cases_eq, cases_Bool, both_ways, or_cases, or_left, or_right, and_parts, eqb-true, eq-eqb, cond-true}
use Rattle.hw_pool.specs.Nodes.{PoolValue}
use Rattle.hw_pool.specs.Trees.{Tree}
use Rattle.hw_pool.specs.Meaning.{Env}
use Rattle.hw_pool.specs.Frame.{Adds}
use Rattle.hw_expr.specs.declared.net.Net.{Net}
use Rattle.hw_gates.specs.Places.{place, worth, value_in}
use Rattle.hw_module.specs.declared.rows.RegRow.{RegRow}
use Rattle.hw_module.specs.declared.rows.ArrayRow.{ArrayRow}
use Rattle.hw_module.specs.Rows.{ModuleValue, wire_at, reg_at, array_at, out_at}
use Rattle.hw_module.specs.Frame.{Grows}
use Rattle.service_reg.specs.declared.service.Service.{Service}
use Rattle.service_reg.specs.declared.service.Service.TheVariants.{Fetch, Predict, DataBus}
use Rattle.service_ports.specs.declared.ports.FetchPorts.{FetchPorts}
use Rattle.service_ports.specs.declared.ports.PredictPorts.{PredictPorts}
use Rattle.service_ports.specs.Ports.{Ports, fetch_ports, predict_ports}
use Rattle.service_ports.specs.Registry.{RegistryValue, offer_of, offered_as}
use Rattle.service_ports.proofs.Offers.{none_some}
use Rattle.plug_part.specs.Part.{Part, PortTrees, own_or, sees}
use Rattle.plug_part.specs.Of.{part_of, net_tree, tree_option, port_trees}
use Rattle.plug_part.specs.Owned.{is_among, is_input_of, is_own_input, is_out_of, is_fetch_out, is_bus_out, is_driven_by, is_predict_input, offers, ports_of}
use Rattle.plug_part.specs.Things.{HasWire, HasReg, IsDriven}
use Rattle.plug_part.specs.Alone.{OffersOnly}
use Rattle.plug_build.specs.World.{World, part_in}
use Rattle.plug_build.specs.Fits.{IsInput, WorldFits}
use Rattle.plug_build.specs.Done.{IsDone}
use Rattle.plug_build.proofs.Offers.{offer_fits, own_input_from}
use Rattle.plug_kit.proofs.Rows.{some_eq, part_wire, part_reg, part_array, offer_in, offers_stay}
use Rattle.plug_kit.proofs.Things.{no_net}
use Rattle.plug_fetch.specs.Begun.{BeginsFetch}
use Rattle.plug_fetch.specs.Builds.{Asks, BuildsFetch, Numbers, now_in}
use Rattle.plug_fetch.specs.Late.{predict_in}
use Rattle.plug_fetch.specs.Machine.{Now, held_after, put, given_after, owed_after, dropped_after, address_after, pc_after}
use Rattle.plug_fetch.specs.Registers.{IsNext, IsPlaceDriven, IsCommandDriven, numbers_from}

both : (a b : Bool) → a ≡ true → b ≡ true → (a && b) ≡ true
both true b x y = y
both false b x y = x

-- what offers Fetch drives the command of the bus, and the inputs of Predict
pub fetch_right : (r : RegistryValue) (e q : ℕ) → offers r e Fetch ≡ true → is_fetch_out q ≡ true → is_out_of r e q ≡ true
fetch_right r e q own is = or_left (offers r e Fetch && is_fetch_out q) _ (both (offers r e Fetch) (is_fetch_out q) own is)

pub predict_right : (r : RegistryValue) (e k : ℕ) → offers r e Fetch ≡ true → is_predict_input r k ≡ true → is_driven_by r e k ≡ true
predict_right r e k own is = both (offers r e Fetch) (is_predict_input r k) own is

-- an output that the part does not drive yet is open
pub out_open : (takes : Service → Bool) (e q : ℕ) (w : World) → offers w.reg e Fetch ≡ true → is_fetch_out q ≡ true → (part_in takes e w).outs q ≡ None → out_at w.design.outs q ≡ None
unfolding part_of
out_open takes e q w own is none = no_net w.pool.nodes (out_at w.design.outs q)
    (sym (cond-true (is_out_of w.reg e q) (tree_option w.pool.nodes (out_at w.design.outs q)) None (fetch_right w.reg e q own is)) ∙ none)

-- the place of a register of places
in_place : (k first depth : ℕ) → first ≤ k → k < first + 4 * depth → (i : ℕ) × (i < depth) × (first + 4 * i ≤ k) × (k < first + 4 * i + 4)
in_place k first depth least most = ((k - first) / 4, omega arith, omega arith, omega arith)

-- what an entry that began has after the second call, in this pool and module
pub record IsLeft (takes : Service → Bool) (e depth reset_pc first : ℕ) (old : World) (ports : FetchPorts) (pool : PoolValue) (d : ModuleValue) (now : Env → Now) : Type 0 where
  pub fits : WorldFits old
  pub nodes : ℕ
  pub things : ℕ
  pub adds : Adds old.pool pool nodes
  pub grows : Grows old.design d things
  pub takes_predict : takes Predict ≡ true
  pub own : offers old.reg e Fetch ≡ true
  pub no_bus : offers old.reg e DataBus ≡ false
  pub offered : offer_of old.reg e Fetch ≡ Some (fetch_ports ports)
  pub count : length d.wires ≡ length old.design.wires
  pub many : length d.regs ≡ length old.design.regs
  pub arrays : d.arrays ≡ old.design.arrays
  pub places : (i : ℕ) → i < depth → IsPlaceDriven d pool e first depth i now
  pub command : IsCommandDriven d pool e (first + 4 * depth) reset_pc depth now
  pub shows : (o : PortTrees) → o.inputs ≡ (fetch_ports ports).inputs → (env : Env) → now env ≡ now_in (numbers_from first depth) o (predict_in pool old.reg) env
  pub given : Net
  pub address : Net
  pub payload : Net
  pub out_given : out_at d.outs 2 ≡ Some given
  pub out_address : out_at d.outs 4 ≡ Some address
  pub given_is : (env : Env) → value_in env pool given ≡ env.regs (first + 4 * depth)
  pub address_is : (env : Env) → value_in env pool address ≡ env.regs (first + 4 * depth + 3)
  pub payload_is : (env : Env) → value_in env pool payload ≡ env.inputs 7
  pub pc : (by : ℕ) (q : PredictPorts) → old.reg.predict ≡ Some (by, q) → (wire_at d.wires q.pc).driver ≡ Some address
  pub word : (by : ℕ) (q : PredictPorts) → old.reg.predict ≡ Some (by, q) → (wire_at d.wires q.word).driver ≡ Some payload

module _ (takes : Service → Bool) (e depth reset_pc first : ℕ) (old : World) (ports : FetchPorts) (pool : PoolValue) (d : ModuleValue) (now : Env → Now)
    (left : IsLeft takes e depth reset_pc first old ports pool d now) (begun : BeginsFetch depth reset_pc (part_in takes e old)) (first_is : first ≡ begun.first) where
  abbrev after : World
  after = record { pool = pool; design = d; reg = old.reg }

  abbrev part : Part
  part = part_in takes e after

  abbrev numbers : Numbers
  numbers = numbers_from first depth

  offers_same : (s : Service) → part.offers s ≡ (part_in takes e old).offers s
  offers_same s = offers_stay takes e left.nodes old after left.fits left.adds refl s

  only : OffersOnly part Fetch begun.ports
  only = record { is = offers_same Fetch ∙ begun.only.is; none = λ t other. offers_same t ∙ begun.only.none t other }

  inputs : begun.ports.inputs ≡ (fetch_ports ports).inputs
  inputs =
      let o = offer_in takes e old Fetch begun.ports begun.only.is in
      ap (λ (t : PortTrees). t.inputs) o.2 ∙ ap (λ (p : Ports). p.inputs) (some_eq (sym o.1 ∙ left.offered))

  wire_is : (k width level : ℕ) → IsInput old.design e k (width, level) → HasWire part k width
  wire_is k width level i =
      let stays = left.grows.wires k i.there in
      record { row = _; is = part_wire takes e after k (stays.owner ∙ i.owner); wide = stays.width ∙ i.width }

  sees_is : sees part Predict ≡ predict_in pool old.reg
  unfolding part_of
  sees_is = ap (λ (o : Option PortTrees). own_or o (part.took Predict)) (offers_same Predict ∙ begun.only.none Predict refl)
      ∙ cond-true (takes Predict) (predict_in pool old.reg) None left.takes_predict

  told : (env : Env) → now env ≡ now_in numbers begun.ports (sees part Predict) env
  told env = left.shows begun.ports inputs env ∙ ap (λ (q : Option PortTrees). now_in numbers begun.ports q env) (sym sees_is)

  reg_is : (k width : ℕ) (reset : Option ℕ) (f g : Env → ℕ) → IsNext d pool e k width reset f → ((env : Env) → f env ≡ g env) → HasReg part k width reset g
  unfolding place worth
  reg_is k width reset f g h same = record {
    row = record { width = width; reset = reset; next = Some (net_tree pool.nodes h.net) };
    is = part_reg takes e after k (ap (λ (row : RegRow). row.owner) h.row)
        ∙ ap (λ (row : RegRow). Some (record { width = row.width; reset = row.reset; next = tree_option pool.nodes row.next })) h.row;
    wide = refl;
    reset_is = refl;
    tree = net_tree pool.nodes h.net;
    next_is = refl;
    value_is = λ env. h.value env ∙ same env;
  }

  -- ---- drivers outside the entry's own things

  wire_driven : (k : ℕ) (net : Net) (f : Env → ℕ) → is_driven_by old.reg e k ≡ true → (wire_at d.wires k).driver ≡ Some net → ((env : Env) → value_in env pool net ≡ f env)
      → IsDriven (part.drives k) f
  unfolding part_of place worth
  wire_driven k net f is row v = record {
    tree = net_tree pool.nodes net;
    is = cond-true (is_driven_by old.reg e k) (tree_option pool.nodes (wire_at d.wires k).driver) None is ∙ ap (tree_option pool.nodes) row;
    value_is = v;
  }

  out_driven : (q : ℕ) (net : Net) (f : Env → ℕ) → is_out_of old.reg e q ≡ true → out_at d.outs q ≡ Some net → ((env : Env) → value_in env pool net ≡ f env) → IsDriven (part.outs q) f
  unfolding part_of place worth
  out_driven q net f is row v = record {
    tree = net_tree pool.nodes net;
    is = cond-true (is_out_of old.reg e q) (tree_option pool.nodes (out_at d.outs q)) None is ∙ ap (tree_option pool.nodes) row;
    value_is = v;
  }

  is_out : (q : ℕ) → is_fetch_out q ≡ true → is_out_of old.reg e q ≡ true
  is_out q is = fetch_right old.reg e q left.own is

  fetch_out : (q : ℕ) → is_out_of old.reg e q ≡ true → (q ≡ 2) ⊎ (q ≡ 4)
  fetch_out q is = elim (or_cases (offers old.reg e Fetch && is_fetch_out q) (offers old.reg e DataBus && is_bus_out q) is) [
    | inl f ↦ elim (or_cases (eqb q 2) (eqb q 4) (and_parts (offers old.reg e Fetch) (is_fetch_out q) f).1) [
      | inl two ↦ inl (eqb-true q 2 two)
      | inr four ↦ inr (eqb-true q 4 four)
    ]
    | inr b ↦ absurd (both_ways (offers old.reg e DataBus) left.no_bus (and_parts (offers old.reg e DataBus) (is_bus_out q) b).0)
  ]

  no_other : (q : ℕ) (t : Tree) → part.outs q ≡ Some t → (q ≡ 2) ⊎ (q ≡ 4)
  unfolding part_of
  no_other q t h = elim (cases_Bool (is_out_of old.reg e q)) [
    | inl is ↦ fetch_out q is
    | inr not ↦ absurd (none_some _ t (ap (λ (b : Bool). cond b (tree_option pool.nodes (out_at d.outs q)) None) not) h)
  ]

  -- an input of Predict is driven by what offers Fetch
  by_fetch : (by : ℕ) (q : PredictPorts) (k : ℕ) → old.reg.predict ≡ Some (by, q) → is_among k (q.pc ∷ q.word ∷ []) ≡ true → is_driven_by old.reg e k ≡ true
  by_fetch by q k is among =
      predict_right old.reg e k left.own
      (ap (λ (o : Option (ℕ × PredictPorts)). is_input_of (ports_of (offered_as predict_ports o)) k) is ∙ among)

  asks_of : (q : PortTrees) (o : Option (ℕ × PredictPorts)) → old.reg.predict ≡ o → port_trees pool.nodes (ports_of (offered_as predict_ports o)) ≡ Some q → Asks part numbers q
  asks_of q None is h = absurd (none_some None q refl h)
  asks_of q (Some o) is h = subst (Asks part numbers) (some_eq h) (record {
    pc = wire_driven o.1.pc left.address (λ env. env.regs numbers.address) (by_fetch o.0 o.1 o.1.pc is (or_left (eqb o.1.pc o.1.pc) _ (eq-eqb o.1.pc o.1.pc refl))) (left.pc o.0 o.1 is) left.address_is;
    word = wire_driven o.1.word left.payload (λ env. env.inputs 7) (by_fetch o.0 o.1 o.1.word is (or_right (eqb o.1.word o.1.pc) _ (or_left (eqb o.1.word o.1.word) false (eq-eqb o.1.word o.1.word refl))))
        (left.word o.0 o.1 is) left.payload_is;
  })

  -- ---- the part

  pub late_builds : BuildsFetch depth reset_pc part
  late_builds =
      let ins = (offer_fits old.design old.pool old.reg left.fits.offers e Fetch (fetch_ports ports) left.offered).inputs in
      let c = left.command in
      let zero-is : (o : ℕ) → begun.first + 4 * 0 + o ≡ first + 4 * 0 + o = λ o. ap (λ (k : ℕ). k + 4 * 0 + o) (sym first_is) in
      record {
        numbers = numbers;
        ports = begun.ports;
        only = only;
        take = subst (λ (ws : List ℕ). HasWire part (get_or ws 0 0) 1) (sym inputs) (wire_is ports.take 1 _ ins.0);
        redirect = subst (λ (ws : List ℕ). HasWire part (get_or ws 1 0) 1) (sym inputs) (wire_is ports.redirect 1 _ ins.1.0);
        held = λ i l. reg_is _ 1 (Some 0) _ _ (left.places i l).held (λ env. ap (λ (x : Now). held_after depth x i) (told env));
        pc = λ i l. reg_is _ 32 None _ _ (left.places i l).pc (λ env. ap (λ (x : Now). put depth x i x.address x.pc) (told env));
        word = λ i l. reg_is _ 32 None _ _ (left.places i l).word (λ env. ap (λ (x : Now). put depth x i x.payload x.word) (told env));
        error = λ i l. reg_is _ 1 None _ _ (left.places i l).error (λ env. ap (λ (x : Now). put depth x i x.failed x.error) (told env));
        given = reg_is _ 1 (Some 0) _ _ c.given (λ env. ap (given_after depth) (told env));
        owed = reg_is _ 1 (Some 0) _ _ c.owed (λ env. ap owed_after (told env));
        dropped = reg_is _ 1 (Some 0) _ _ c.dropped (λ env. ap dropped_after (told env));
        address = reg_is _ 32 None _ _ c.address (λ env. ap address_after (told env));
        next_pc = reg_is _ 32 (Some reset_pc) _ _ c.next_pc (λ env. ap pc_after (told env));
        outputs = begun.outputs;
        valid = λ env. begun.valid env ∙ ap (λ (k : ℕ). env.regs (k + 4 * 0)) (sym first_is);
        offers_pc = λ env. begun.offers_pc env ∙ ap env.regs (zero-is 1);
        offers_word = λ env. begun.offers_word env ∙ ap env.regs (zero-is 2);
        offers_error = λ env. begun.offers_error env ∙ ap env.regs (zero-is 3);
        cmd_valid = out_driven 2 left.given (λ env. env.regs numbers.given) (is_out 2 refl) left.out_given left.given_is;
        cmd_addr = out_driven 4 left.address (λ env. env.regs numbers.address) (is_out 4 refl) left.out_address left.address_is;
        no_other = no_other;
        asks = λ q s. asks_of q old.reg.predict refl (sym sees_is ∙ s);
      }

  -- ---- all is driven

  next_there : (k j width : ℕ) (reset : Option ℕ) (f : Env → ℕ) → IsNext d pool e j width reset f → k ≡ j → (reg_at d.regs k).next ≡ None → ⊥
  next_there k j width reset f h same none =
      none_some (reg_at d.regs k).next h.net none (ap (λ (x : ℕ). (reg_at d.regs x).next) same ∙ ap (λ (row : RegRow). row.next) h.row)

  place_there : (k i : ℕ) → i < depth → first + 4 * i ≤ k → k < first + 4 * i + 4 → (reg_at d.regs k).next ≡ None → ⊥
  place_there k i l least most none =
      let p = left.places i l in
      elim (cases_eq k (first + 4 * i)) [
        | inl same ↦ next_there k _ _ _ _ p.held same none
        | inr a ↦ elim (cases_eq k (first + 4 * i + 1)) [
          | inl same ↦ next_there k _ _ _ _ p.pc same none
          | inr b ↦ elim (cases_eq k (first + 4 * i + 2)) [
            | inl same ↦ next_there k _ _ _ _ p.word same none
            | inr c ↦ next_there k _ _ _ _ p.error (omega arith) none
          ]
        ]
      ]

  command_there : (k : ℕ) → first + 4 * depth ≤ k → k < first + 4 * depth + 5 → (reg_at d.regs k).next ≡ None → ⊥
  command_there k least most none =
      let p = left.command in
      elim (cases_eq k (first + 4 * depth)) [
        | inl same ↦ next_there k _ _ _ _ p.given same none
        | inr a ↦ elim (cases_eq k (first + 4 * depth + 1)) [
          | inl same ↦ next_there k _ _ _ _ p.owed same none
          | inr b ↦ elim (cases_eq k (first + 4 * depth + 2)) [
            | inl same ↦ next_there k _ _ _ _ p.dropped same none
            | inr c ↦ elim (cases_eq k (first + 4 * depth + 3)) [
              | inl same ↦ next_there k _ _ _ _ p.address same none
              | inr e ↦ next_there k _ _ _ _ p.next_pc (omega arith) none
            ]
          ]
        ]
      ]

  reg_there : (k : ℕ) → first ≤ k → k < first + 4 * depth + 5 → (reg_at d.regs k).next ≡ None → ⊥
  reg_there k least most none = elim (cases_lt k (first + 4 * depth)) [
    | inl l ↦ let at = in_place k first depth least l in place_there k at.0 at.1 at.2 at.3 none
    | inr past ↦ command_there k past most none
  ]

  out_there : (q : ℕ) → is_out_of old.reg e q ≡ true → out_at d.outs q ≡ None → ⊥
  out_there q is none = elim (fetch_out q is) [
    | inl two ↦ none_some (out_at d.outs q) left.given none (ap (out_at d.outs) two ∙ left.out_given)
    | inr four ↦ none_some (out_at d.outs q) left.address none (ap (out_at d.outs) four ∙ left.out_address)
  ]

  predict_there : (k : ℕ) (o : Option (ℕ × PredictPorts)) → old.reg.predict ≡ o → is_input_of (ports_of (offered_as predict_ports o)) k ≡ true → (wire_at d.wires k).driver ≡ None → ⊥
  predict_there k None is among none = both_ways false refl among
  predict_there k (Some o) is among none = elim (or_cases (eqb k o.1.pc) (eqb k o.1.word || false) among) [
    | inl at ↦ none_some (wire_at d.wires k).driver left.address none (ap (λ (j : ℕ). (wire_at d.wires j).driver) (eqb-true k o.1.pc at) ∙ left.pc o.0 o.1 is)
    | inr rest ↦ elim (or_cases (eqb k o.1.word) false rest) [
      | inl at ↦ none_some (wire_at d.wires k).driver left.payload none (ap (λ (j : ℕ). (wire_at d.wires j).driver) (eqb-true k o.1.word at) ∙ left.word o.0 o.1 is)
      | inr never ↦ both_ways false refl never
    ]
  ]

  own_input : (k : ℕ) → is_among k begun.ports.inputs ≡ true → is_own_input old.reg e k ≡ true
  own_input k among = own_input_from old.reg e k Fetch (ap (λ (q : Option Ports). is_input_of q k) left.offered ∙ (ap (is_among k) (sym inputs) ∙ among))

  pub late_done : IsDone e after
  late_done = record {
    wires = λ k l own free none.
        let there : k < length old.design.wires = (let c = left.count in omega arith) in
        both_ways (is_own_input old.reg e k) free (own_input k (begun.wires k _ (part_wire takes e old k (sym (left.grows.wires k there).owner ∙ own))));
    regs = λ k l own none.
        let there : k < length old.design.regs = (let c = left.many in omega arith) in
        let range = begun.regs k _ (part_reg takes e old k (sym (left.grows.regs k there).owner ∙ own)) in
        reg_there k (let r = range.0 in omega arith) (let r = range.1 in omega arith) none;
    arrays = λ k l own none. begun.arrays k _ (part_array takes e old k (ap (λ (rs : List ArrayRow). (array_at rs k).owner) (sym left.arrays) ∙ own));
    outs = out_there;
    drives = λ k is none. predict_there k old.reg.predict refl (and_parts (offers old.reg e Fetch) (is_predict_input old.reg k) is).1 none;
  }
