-- What the second call leaves: each register and array has its equation, Predict is asked, and the command is given.
use Rattle.std.proofs.Common.{◌≡◌, ◌∙◌, ℕ, ◌+◌, ◌-◌, ◌<◌, ◌≤◌, ◌⊎◌, List, [], ◌∷◌, length, get_or, ap, sym, subst, refl, arith, Bool, true, false, ◌||◌, ◌&&◌, cond, eqb, Option, None, Some, inl, inr}
use Rattle.std.proofs.lemmas.Bool.{cases_lt, cases_eq, cases_Bool, both_ways, or_cases, or_left, or_right, and_parts, eqb-true, eq-eqb, cond-true}
use Rattle.hw_pool.specs.Nodes.{PoolValue}
use Rattle.hw_pool.specs.Trees.{Tree}
use Rattle.hw_pool.specs.Meaning.{Env}
use Rattle.hw_pool.specs.Frame.{Adds}
use Rattle.hw_expr.specs.declared.net.Net.{Net}
use Rattle.hw_gates.specs.Places.{place, worth, value_in}
use Rattle.hw_module.specs.declared.rows.RegRow.{RegRow}
use Rattle.hw_module.specs.declared.rows.ArrayRow.{ArrayRow}
use Rattle.hw_module.specs.Rows.{ModuleValue, wire_at, reg_at, array_at, out_at}
use Rattle.hw_module.specs.Frame.{Grows}
use Rattle.service_reg.specs.declared.service.Service.{Service}
use Rattle.service_reg.specs.declared.service.Service.TheVariants.{Fetch, Predict, DataBus}
use Rattle.service_ports.specs.declared.ports.FetchPorts.{FetchPorts}
use Rattle.service_ports.specs.declared.ports.PredictPorts.{PredictPorts}
use Rattle.service_ports.specs.Ports.{Ports, fetch_ports, predict_ports}
use Rattle.service_ports.specs.Registry.{RegistryValue, offer_of, offered_as}
use Rattle.service_ports.proofs.Offers.{none_some}
use Rattle.plug_part.specs.Part.{Part, PortTrees, own_or, sees}
use Rattle.plug_part.specs.Of.{part_of, net_tree, tree_option, write_trees, port_trees}
use Rattle.plug_part.specs.Owned.{is_among, is_input_of, is_own_input, is_out_of, is_fetch_out, is_bus_out, is_driven_by, is_predict_input, offers, ports_of}
use Rattle.plug_part.specs.Things.{HasWire, HasReg, HasArray, IsDriven}
use Rattle.plug_part.specs.Alone.{OffersOnly}
use Rattle.plug_build.specs.World.{World, part_in}
use Rattle.plug_build.specs.Fits.{IsInput, WorldFits}
use Rattle.plug_build.specs.Done.{IsDone}
use Rattle.plug_build.proofs.Offers.{offer_fits, own_input_from}
use Rattle.plug_kit.proofs.Rows.{some_eq, part_wire, part_reg, part_array, offer_in, offers_stay}
use Rattle.plug_kit.proofs.Things.{no_net}
use Rattle.cache_nets.specs.declared.shapes.Four.{Four}
use Rattle.cache_nets.specs.declared.shapes.Write.{Write}
use Rattle.cache_nets.specs.Machine.{Now, FourNow, WriteNow, address_in, search_at}
use Rattle.cache_nets.specs.Nets.{four_in, write_in}
use Rattle.plug_icache.specs.Begun.{BeginsIcache}
use Rattle.plug_icache.specs.Builds.{Asks, BuildsIcache, HasFour, now_in, front_now, reading_now, caught_now, item_now, tag_now, word_now}
use Rattle.plug_icache.specs.Late.{predict_in}
use Rattle.plug_icache.specs.Registers.{IsDrivenFour, driven_array, driven_row}

both : (a b : Bool) → a ≡ true → b ≡ true → (a && b) ≡ true
both true b x y = y
both false b x y = x

-- what offers Fetch drives the command of the bus, and the inputs of Predict
pub fetch_right : (r : RegistryValue) (e q : ℕ) → offers r e Fetch ≡ true → is_fetch_out q ≡ true → is_out_of r e q ≡ true
fetch_right r e q own is = or_left (offers r e Fetch && is_fetch_out q) _ (both (offers r e Fetch) (is_fetch_out q) own is)

pub predict_right : (r : RegistryValue) (e k : ℕ) → offers r e Fetch ≡ true → is_predict_input r k ≡ true → is_driven_by r e k ≡ true
predict_right r e k own is = both (offers r e Fetch) (is_predict_input r k) own is

-- an output that the part does not drive yet is open
pub out_open : (takes : Service → Bool) (e q : ℕ) (w : World) → offers w.reg e Fetch ≡ true → is_fetch_out q ≡ true → (part_in takes e w).outs q ≡ None → out_at w.design.outs q ≡ None
unfolding part_of
out_open takes e q w own is none = no_net w.pool.nodes (out_at w.design.outs q)
    (sym (cond-true (is_out_of w.reg e q) (tree_option w.pool.nodes (out_at w.design.outs q)) None (fetch_right w.reg e q own is)) ∙ none)

-- four registers with their nets and the values of these
pub record IsNextFour (m : ModuleValue) (pool : PoolValue) (entry reg a b c d : ℕ) (ra rb rc rd : Option ℕ) (f : Env → FourNow) : Type 0 where
  pub nets : Four
  pub rows : IsDrivenFour m entry reg a b c d ra rb rc rd nets
  pub value : (env : Env) → four_in env pool nets ≡ f env

-- an array with its write
pub record IsWritten (m : ModuleValue) (pool : PoolValue) (entry array width bits : ℕ) (f : Env → WriteNow) : Type 0 where
  pub nets : Write
  pub row : array_at m.arrays array ≡ driven_array entry width bits nets
  pub value : (env : Env) → write_in env pool nets ≡ f env

-- what an entry that began has after the second call, in this pool and module
pub record IsLeft (takes : Service → Bool) (e l k reset_pc first tags : ℕ) (old : World) (ports : FetchPorts) (pool : PoolValue) (d : ModuleValue) (now : Env → Now) : Type 0 where
  pub fits : WorldFits old
  pub nodes : ℕ
  pub things : ℕ
  pub adds : Adds old.pool pool nodes
  pub grows : Grows old.design d things
  pub takes_predict : takes Predict ≡ true
  pub own : offers old.reg e Fetch ≡ true
  pub no_bus : offers old.reg e DataBus ≡ false
  pub offered : offer_of old.reg e Fetch ≡ Some (fetch_ports ports)
  pub count : length d.wires ≡ length old.design.wires
  pub many : length d.regs ≡ length old.design.regs
  pub many_arrays : length d.arrays ≡ length old.design.arrays
  pub front : IsNextFour d pool e first 32 (l + 1) 1 1 (Some reset_pc) (Some 0) (Some 0) (Some 0) (λ env. front_now l k (now env))
  pub reading : IsNextFour d pool e (first + 4) 1 (30 - k) k 1 (Some 0) None None None (λ env. reading_now l k (now env))
  pub caught : IsNextFour d pool e (first + 8) 1 1 32 1 None (Some 0) None None (λ env. caught_now l k (now env))
  pub item : IsNextFour d pool e (first + 12) 1 32 32 1 (Some 0) None None None (λ env. item_now l k (now env))
  pub tag : IsWritten d pool e tags (31 - k - l) l (λ env. tag_now l k (now env))
  pub cell : IsWritten d pool e (tags + 1) 32 (l + k) (λ env. word_now l k (now env))
  pub shows : (o : PortTrees) → o.inputs ≡ (fetch_ports ports).inputs → (env : Env) → now env ≡ now_in l k first tags o (predict_in pool old.reg) env
  pub given : Net
  pub address : Net
  pub pc : Net
  pub word : Net
  pub out_given : out_at d.outs 2 ≡ Some given
  pub out_address : out_at d.outs 4 ≡ Some address
  pub given_is : (env : Env) → value_in env pool given ≡ env.regs (first + 2)
  pub address_is : (env : Env) → value_in env pool address ≡ address_in k (env.regs (first + 4 + 1)) (env.regs (first + 4 + 2))
  pub pc_is : (env : Env) → value_in env pool pc ≡ env.regs first
  pub word_is : (env : Env) → value_in env pool word ≡ (search_at l k (now env)).word
  pub asks_pc : (by : ℕ) (q : PredictPorts) → old.reg.predict ≡ Some (by, q) → (wire_at d.wires q.pc).driver ≡ Some pc
  pub asks_word : (by : ℕ) (q : PredictPorts) → old.reg.predict ≡ Some (by, q) → (wire_at d.wires q.word).driver ≡ Some word

module _ (takes : Service → Bool) (e l k reset_pc first tags : ℕ) (old : World) (ports : FetchPorts) (pool : PoolValue) (d : ModuleValue) (now : Env → Now)
    (left : IsLeft takes e l k reset_pc first tags old ports pool d now) (begun : BeginsIcache l k reset_pc (part_in takes e old)) (first_is : first ≡ begun.first) (tags_is : tags ≡ begun.tags) where
  abbrev after : World
  after = record { pool = pool; design = d; reg = old.reg }

  abbrev part : Part
  part = part_in takes e after

  offers_same : (s : Service) → part.offers s ≡ (part_in takes e old).offers s
  offers_same s = offers_stay takes e left.nodes old after left.fits left.adds refl s

  only : OffersOnly part Fetch begun.ports
  only = record { is = offers_same Fetch ∙ begun.only.is; none = λ t other. offers_same t ∙ begun.only.none t other }

  inputs : begun.ports.inputs ≡ (fetch_ports ports).inputs
  inputs =
      let o = offer_in takes e old Fetch begun.ports begun.only.is in
      ap (λ (t : PortTrees). t.inputs) o.2 ∙ ap (λ (p : Ports). p.inputs) (some_eq (sym o.1 ∙ left.offered))

  wire_is : (j width level : ℕ) → IsInput old.design e j (width, level) → HasWire part j width
  wire_is j width level i =
      let stays = left.grows.wires j i.there in
      record { row = _; is = part_wire takes e after j (stays.owner ∙ i.owner); wide = stays.width ∙ i.width }

  sees_is : sees part Predict ≡ predict_in pool old.reg
  unfolding part_of
  sees_is = ap (λ (o : Option PortTrees). own_or o (part.took Predict)) (offers_same Predict ∙ begun.only.none Predict refl)
      ∙ cond-true (takes Predict) (predict_in pool old.reg) None left.takes_predict

  abbrev shown : Env → Now
  shown env = now_in l k first tags begun.ports (sees part Predict) env

  told : (env : Env) → now env ≡ shown env
  told env = left.shows begun.ports inputs env ∙ ap (λ (q : Option PortTrees). now_in l k first tags begun.ports q env) (sym sees_is)

  reg_is : (j width : ℕ) (reset : Option ℕ) (net : Net) (f : Env → ℕ) → reg_at d.regs j ≡ driven_row e width reset net → ((env : Env) → value_in env pool net ≡ f env) → HasReg part j width reset f
  unfolding place worth
  reg_is j width reset net f row v = record {
    row = record { width = width; reset = reset; next = Some (net_tree pool.nodes net) };
    is = part_reg takes e after j (ap (λ (r : RegRow). r.owner) row)
        ∙ ap (λ (r : RegRow). Some (record { width = r.width; reset = r.reset; next = tree_option pool.nodes r.next })) row;
    wide = refl;
    reset_is = refl;
    tree = net_tree pool.nodes net;
    next_is = refl;
    value_is = v;
  }

  four_is : (reg a b c d' : ℕ) (ra rb rc rd : Option ℕ) (f g : Env → FourNow) → IsNextFour d pool e reg a b c d' ra rb rc rd f → ((env : Env) → f env ≡ g env) → HasFour part reg a b c d' ra rb rc rd g
  four_is reg a b c d' ra rb rc rd f g h same = record {
    first = reg_is reg a ra h.nets.first (λ env. (g env).first) h.rows.first (λ env. ap (λ (x : FourNow). x.first) (h.value env ∙ same env));
    second = reg_is (reg + 1) b rb h.nets.second (λ env. (g env).second) h.rows.second (λ env. ap (λ (x : FourNow). x.second) (h.value env ∙ same env));
    third = reg_is (reg + 2) c rc h.nets.third (λ env. (g env).third) h.rows.third (λ env. ap (λ (x : FourNow). x.third) (h.value env ∙ same env));
    fourth = reg_is (reg + 3) d' rd h.nets.fourth (λ env. (g env).fourth) h.rows.fourth (λ env. ap (λ (x : FourNow). x.fourth) (h.value env ∙ same env));
  }

  array_is : (j width bits : ℕ) (f g : Env → WriteNow) → IsWritten d pool e j width bits f → ((env : Env) → f env ≡ g env)
      → HasArray part j width bits (λ env. (g env).enable) (λ env. (g env).addr) (λ env. (g env).item)
  unfolding place worth
  array_is j width bits f g h same =
      record {
        row = record { width = width; bits = bits; write = write_trees pool.nodes (Some (record { enable = h.nets.enable; addr = h.nets.addr; value = h.nets.value })) };
        is = part_array takes e after j (ap (λ (row : ArrayRow). row.owner) h.row)
            ∙ ap (λ (row : ArrayRow). Some (record { width = row.width; bits = row.bits; write = write_trees pool.nodes row.write })) h.row;
        wide = refl;
        many = refl;
        write = record { enable = net_tree pool.nodes h.nets.enable; addr = net_tree pool.nodes h.nets.addr; value = net_tree pool.nodes h.nets.value };
        write_is = refl;
        enable_is = λ env. ap (λ (x : WriteNow). x.enable) (h.value env ∙ same env);
        addr_is = λ env. ap (λ (x : WriteNow). x.addr) (h.value env ∙ same env);
        item_is = λ env. ap (λ (x : WriteNow). x.item) (h.value env ∙ same env);
      }

  -- ---- drivers outside the entry's own things

  wire_driven : (k : ℕ) (net : Net) (f : Env → ℕ) → is_driven_by old.reg e k ≡ true → (wire_at d.wires k).driver ≡ Some net → ((env : Env) → value_in env pool net ≡ f env)
      → IsDriven (part.drives k) f
  unfolding part_of place worth
  wire_driven k net f is row v = record {
    tree = net_tree pool.nodes net;
    is = cond-true (is_driven_by old.reg e k) (tree_option pool.nodes (wire_at d.wires k).driver) None is ∙ ap (tree_option pool.nodes) row;
    value_is = v;
  }

  out_driven : (q : ℕ) (net : Net) (f : Env → ℕ) → is_out_of old.reg e q ≡ true → out_at d.outs q ≡ Some net → ((env : Env) → value_in env pool net ≡ f env) → IsDriven (part.outs q) f
  unfolding part_of place worth
  out_driven q net f is row v = record {
    tree = net_tree pool.nodes net;
    is = cond-true (is_out_of old.reg e q) (tree_option pool.nodes (out_at d.outs q)) None is ∙ ap (tree_option pool.nodes) row;
    value_is = v;
  }

  is_out : (q : ℕ) → is_fetch_out q ≡ true → is_out_of old.reg e q ≡ true
  is_out q is = fetch_right old.reg e q left.own is

  fetch_out : (q : ℕ) → is_out_of old.reg e q ≡ true → (q ≡ 2) ⊎ (q ≡ 4)
  fetch_out q is = elim (or_cases (offers old.reg e Fetch && is_fetch_out q) (offers old.reg e DataBus && is_bus_out q) is) [
    | inl f ↦ elim (or_cases (eqb q 2) (eqb q 4) (and_parts (offers old.reg e Fetch) (is_fetch_out q) f).1) [
      | inl two ↦ inl (eqb-true q 2 two)
      | inr four ↦ inr (eqb-true q 4 four)
    ]
    | inr b ↦ absurd (both_ways (offers old.reg e DataBus) left.no_bus (and_parts (offers old.reg e DataBus) (is_bus_out q) b).0)
  ]

  no_other : (q : ℕ) (t : Tree) → part.outs q ≡ Some t → (q ≡ 2) ⊎ (q ≡ 4)
  unfolding part_of
  no_other q t h = elim (cases_Bool (is_out_of old.reg e q)) [
    | inl is ↦ fetch_out q is
    | inr not ↦ absurd (none_some _ t (ap (λ (b : Bool). cond b (tree_option pool.nodes (out_at d.outs q)) None) not) h)
  ]

  -- an input of Predict is driven by what offers Fetch
  by_fetch : (by : ℕ) (q : PredictPorts) (k : ℕ) → old.reg.predict ≡ Some (by, q) → is_among k (q.pc ∷ q.word ∷ []) ≡ true → is_driven_by old.reg e k ≡ true
  by_fetch by q k is among =
      predict_right old.reg e k left.own
      (ap (λ (o : Option (ℕ × PredictPorts)). is_input_of (ports_of (offered_as predict_ports o)) k) is ∙ among)

  asks_of : (q : PortTrees) (o : Option (ℕ × PredictPorts)) → old.reg.predict ≡ o → port_trees pool.nodes (ports_of (offered_as predict_ports o)) ≡ Some q → Asks part l k first tags begun.ports q
  asks_of q None is h = absurd (none_some None q refl h)
  asks_of q (Some o) is h = subst (Asks part l k first tags begun.ports) (some_eq h) (record {
    pc = wire_driven o.1.pc left.pc (λ env. env.regs first) (by_fetch o.0 o.1 o.1.pc is (or_left (eqb o.1.pc o.1.pc) _ (eq-eqb o.1.pc o.1.pc refl))) (left.asks_pc o.0 o.1 is) left.pc_is;
    word = wire_driven o.1.word left.word (λ env. (search_at l k (shown env)).word) (by_fetch o.0 o.1 o.1.word is (or_right (eqb o.1.word o.1.pc) _ (or_left (eqb o.1.word o.1.word) false (eq-eqb o.1.word o.1.word refl))))
        (left.asks_word o.0 o.1 is) (λ env. left.word_is env ∙ ap (λ (x : Now). (search_at l k x).word) (told env));
  })

  -- ---- the part

  at_first : (o : ℕ) → begun.first + 12 + o ≡ first + 12 + o
  at_first o = ap (λ (j : ℕ). j + 12 + o) (sym first_is)

  pub late_builds : BuildsIcache l k reset_pc part
  late_builds =
      let ins = (offer_fits old.design old.pool old.reg left.fits.offers e Fetch (fetch_ports ports) left.offered).inputs in
      record {
        first = first;
        tags = tags;
        ports = begun.ports;
        only = only;
        take = subst (λ (ws : List ℕ). HasWire part (get_or ws 0 0) 1) (sym inputs) (wire_is ports.take 1 _ ins.0);
        redirect = subst (λ (ws : List ℕ). HasWire part (get_or ws 1 0) 1) (sym inputs) (wire_is ports.redirect 1 _ ins.1.0);
        fence = subst (λ (ws : List ℕ). HasWire part (get_or ws 3 0) 1) (sym inputs) (wire_is ports.fence 1 _ ins.1.1.1.0);
        front = four_is _ _ _ _ _ _ _ _ _ _ _ left.front (λ env. ap (front_now l k) (told env));
        reading = four_is _ _ _ _ _ _ _ _ _ _ _ left.reading (λ env. ap (reading_now l k) (told env));
        caught = four_is _ _ _ _ _ _ _ _ _ _ _ left.caught (λ env. ap (caught_now l k) (told env));
        item = four_is _ _ _ _ _ _ _ _ _ _ _ left.item (λ env. ap (item_now l k) (told env));
        tag = array_is _ _ _ _ _ left.tag (λ env. ap (tag_now l k) (told env));
        cell = array_is _ _ _ _ _ left.cell (λ env. ap (word_now l k) (told env));
        outputs = begun.outputs;
        valid = λ env. begun.valid env ∙ ap (λ (j : ℕ). env.regs (j + 12)) (sym first_is);
        offers_pc = λ env. begun.offers_pc env ∙ ap env.regs (at_first 1);
        offers_word = λ env. begun.offers_word env ∙ ap env.regs (at_first 2);
        offers_error = λ env. begun.offers_error env ∙ ap env.regs (at_first 3);
        cmd_valid = out_driven 2 left.given (λ env. env.regs (first + 2)) (is_out 2 refl) left.out_given left.given_is;
        cmd_addr = out_driven 4 left.address (λ env. address_in k (env.regs (first + 4 + 1)) (env.regs (first + 4 + 2))) (is_out 4 refl) left.out_address left.address_is;
        no_other = no_other;
        asks = λ q s. asks_of q old.reg.predict refl (sym sees_is ∙ s);
      }

  -- ---- all is driven

  next_there : (i j width : ℕ) (reset : Option ℕ) (net : Net) → reg_at d.regs j ≡ driven_row e width reset net → i ≡ j → (reg_at d.regs i).next ≡ None → ⊥
  next_there i j width reset net row same none =
      none_some (reg_at d.regs i).next net none (ap (λ (x : ℕ). (reg_at d.regs x).next) same ∙ ap (λ (r : RegRow). r.next) row)

  four_there : (reg a b c d' : ℕ) (ra rb rc rd : Option ℕ) (f : Env → FourNow) → IsNextFour d pool e reg a b c d' ra rb rc rd f → (i : ℕ) → reg ≤ i → i < reg + 4 → (reg_at d.regs i).next ≡ None → ⊥
  four_there reg a b c d' ra rb rc rd f h i least most none = elim (cases_eq i reg) [
    | inl same ↦ next_there i reg a ra h.nets.first h.rows.first same none
    | inr x ↦ elim (cases_eq i (reg + 1)) [
      | inl same ↦ next_there i (reg + 1) b rb h.nets.second h.rows.second same none
      | inr y ↦ elim (cases_eq i (reg + 2)) [
        | inl same ↦ next_there i (reg + 2) c rc h.nets.third h.rows.third same none
        | inr z ↦ next_there i (reg + 3) d' rd h.nets.fourth h.rows.fourth (omega arith) none
      ]
    ]
  ]

  reg_there : (i : ℕ) → first ≤ i → i < first + 16 → (reg_at d.regs i).next ≡ None → ⊥
  reg_there i least most none = elim (cases_lt i (first + 4)) [
    | inl below ↦ four_there _ _ _ _ _ _ _ _ _ _ left.front i least below none
    | inr past ↦ elim (cases_lt i (first + 8)) [
      | inl below ↦ four_there _ _ _ _ _ _ _ _ _ _ left.reading i past (omega arith) none
      | inr later ↦ elim (cases_lt i (first + 12)) [
        | inl below ↦ four_there _ _ _ _ _ _ _ _ _ _ left.caught i later (omega arith) none
        | inr last ↦ four_there _ _ _ _ _ _ _ _ _ _ left.item i last (omega arith) none
      ]
    ]
  ]

  write_there : (i j width bits : ℕ) (f : Env → WriteNow) → IsWritten d pool e j width bits f → i ≡ j → (array_at d.arrays i).write ≡ None → ⊥
  write_there i j width bits f h same none =
      none_some (array_at d.arrays i).write _ none (ap (λ (x : ℕ). (array_at d.arrays x).write) same ∙ ap (λ (row : ArrayRow). row.write) h.row)

  array_there : (i : ℕ) → tags ≤ i → i < tags + 2 → (array_at d.arrays i).write ≡ None → ⊥
  array_there i least most none = elim (cases_eq i tags) [
    | inl same ↦ write_there i tags _ _ _ left.tag same none
    | inr other ↦ write_there i (tags + 1) _ _ _ left.cell (omega arith) none
  ]

  out_there : (q : ℕ) → is_out_of old.reg e q ≡ true → out_at d.outs q ≡ None → ⊥
  out_there q is none = elim (fetch_out q is) [
    | inl two ↦ none_some (out_at d.outs q) left.given none (ap (out_at d.outs) two ∙ left.out_given)
    | inr four ↦ none_some (out_at d.outs q) left.address none (ap (out_at d.outs) four ∙ left.out_address)
  ]

  predict_there : (i : ℕ) (o : Option (ℕ × PredictPorts)) → old.reg.predict ≡ o → is_input_of (ports_of (offered_as predict_ports o)) i ≡ true → (wire_at d.wires i).driver ≡ None → ⊥
  predict_there i None is among none = both_ways false refl among
  predict_there i (Some o) is among none = elim (or_cases (eqb i o.1.pc) (eqb i o.1.word || false) among) [
    | inl at ↦ none_some (wire_at d.wires i).driver left.pc none (ap (λ (j : ℕ). (wire_at d.wires j).driver) (eqb-true i o.1.pc at) ∙ left.asks_pc o.0 o.1 is)
    | inr rest ↦ elim (or_cases (eqb i o.1.word) false rest) [
      | inl at ↦ none_some (wire_at d.wires i).driver left.word none (ap (λ (j : ℕ). (wire_at d.wires j).driver) (eqb-true i o.1.word at) ∙ left.asks_word o.0 o.1 is)
      | inr never ↦ both_ways false refl never
    ]
  ]

  own_input : (i : ℕ) → is_among i begun.ports.inputs ≡ true → is_own_input old.reg e i ≡ true
  own_input i among = own_input_from old.reg e i Fetch (ap (λ (q : Option Ports). is_input_of q i) left.offered ∙ (ap (is_among i) (sym inputs) ∙ among))

  pub late_done : IsDone e after
  late_done = record {
    wires = λ i below own free none.
        let there : i < length old.design.wires = (let c = left.count in omega arith) in
        both_ways (is_own_input old.reg e i) free (own_input i (begun.wires i _ (part_wire takes e old i (sym (left.grows.wires i there).owner ∙ own))));
    regs = λ i below own none.
        let there : i < length old.design.regs = (let c = left.many in omega arith) in
        let range = begun.regs i _ (part_reg takes e old i (sym (left.grows.regs i there).owner ∙ own)) in
        reg_there i (let r = range.0 in omega arith) (let r = range.1 in omega arith) none;
    arrays = λ i below own none.
        let there : i < length old.design.arrays = (let c = left.many_arrays in omega arith) in
        let range = begun.arrays i _ (part_array takes e old i (sym (left.grows.arrays i there).owner ∙ own)) in
        array_there i (let r = range.0 in omega arith) (let r = range.1 in omega arith) none;
    outs = out_there;
    drives = λ i is none. predict_there i old.reg.predict refl (and_parts (offers old.reg e Fetch) (is_predict_input old.reg i) is).1 none;
  }
