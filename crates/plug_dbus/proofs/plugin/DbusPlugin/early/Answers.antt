use Rattle.std.proofs.Common.{◌≡◌, ◌∙◌, ℕ, ◌+◌, ◌<◌, ◌≤◌, List, [], ◌∷◌, length, map, arith, refl, ap, sym, subst, Bool, true, false, cond, ◌&&◌, ◌⊎◌, Option, Some, None, inl, inr, length-append}
use Rattle.std.proofs.lemmas.Bool.{both_ways, cases_Bool, cases_lt, and_parts, cond-true, or_cases, or_right}
use Rattle.std.proofs.lemmas.List.{get_or_past}
use Rattle.hw_pool.specs.Meaning.{Env}
use Rattle.hw_pool.specs.Trees.{Tree}
use Rattle.hw_gates.specs.Places.{place, worth}
use Rattle.hw_gates.proofs.Steps.{adds_of}
use Rattle.hw_expr.specs.declared.net.Net.{Net}
use Rattle.hw_module.specs.declared.rows.Owner.TheVariants.{Pipe, Entry}
use Rattle.hw_module.specs.declared.rows.WireRow.{WireRow}
use Rattle.hw_module.specs.declared.rows.RegRow.{RegRow}
use Rattle.hw_module.specs.declared.rows.ArrayRow.{ArrayRow}
use Rattle.hw_module.specs.Rows.{reg_at, wire_at, array_at, out_at}
use Rattle.hw_module.specs.Rights.{Rights, Makes}
use Rattle.hw_module.proofs.Makes.{makes_then}
use Rattle.service_reg.specs.declared.service.Service.{Service}
use Rattle.service_reg.specs.declared.service.Service.TheVariants.{Fetch, Exec, DataBus}
use Rattle.service_ports.specs.declared.ports.DataBusPorts.{DataBusPorts}
use Rattle.service_ports.specs.declared.ports.ExecOffer.{ExecOffer}
use Rattle.service_ports.specs.Ports.{Ports, exec_ports, databus_ports, input_shapes}
use Rattle.service_ports.specs.Registry.{AddsOffer, Offered, RegistryValue, exec_of, offer_of, offered_as, single}
use Rattle.service_ports.proofs.Offers.{none_some, offers_then}
use Rattle.plug_part.specs.Of.{part_of, net_tree, tree_option}
use Rattle.plug_part.specs.Owned.{is_among, is_bus_out, is_fetch_out, is_input_of, is_out_of, offers, ports_of}
use Rattle.plug_part.specs.Part.{PortTrees}
use Rattle.plug_part.specs.Things.{HasReg, IsDriven}
use Rattle.plug_api.specs.Calls.{takes_of}
use Rattle.plug_api.specs.Spec as spec
use Rattle.plug_build.specs.Fits.{AreApart, AreInputs, AreNew, OfferFits, OfferKey, OffersFit, exec_at, ports_at}
use Rattle.plug_build.specs.Fits.OfferKey.{The, ExecAt}
use Rattle.plug_build.specs.World.{World, early_rights, part_in, world_of}
use Rattle.plug_build.proofs.Apart.{later_new}
use Rattle.plug_build.proofs.Offers.{among_inputs, input_of_some}
use Rattle.plug_build.proofs.Worlds.{builds_of, cases_service, exec_fits, inputs_grown, offered_fits, world_fits}
use Rattle.plug_kinds.specs.declared.kind.Kind.TheVariants as kind
use Rattle.plug_kinds.specs.Kinds.{params_of, spec_of}
use Rattle.plug_kit.specs.Made.{MakesInputs, exec_list}
use Rattle.plug_kit.proofs.Bare.{input_wires}
use Rattle.plug_kit.proofs.Rows.{array_in, part_offer, part_reg, reg_in, wire_in}
use Rattle.plug_kit.proofs.Steps.{inputs_bare, inputs_only}
use Rattle.isa_model.specs.Effects.{behind}
use Rattle.dbus_law.specs.Words.{address_of}
use Rattle.plug_dbus.specs.Machine.{Now, done_now, value_now, trap_now, cause_now, given_after, owed_after, address_after, writes_after, payload_after, mask_after}
use Rattle.plug_dbus.specs.Nets.{now_at}
use Rattle.plug_dbus.specs.Registers.{AreOpen}
use Rattle.plug_dbus.specs.Built.{IsNext, IsShown}
use Rattle.plug_dbus.specs.Builds.{is_own}
use Rattle.plug_dbus.proofs.Offers.{bus_is, exec_is, its_own, none_else, other}
use Rattle.plug_dbus.proofs.plugin.DbusPlugin.early.Goals as goal
use Rattle.plug_dbus.proofs.plugin.DbusPlugin.early.Goals.{After-offer_exec}

no-rights : Rights
no-rights = record { wires = λ k. false; locked = λ k. false; outs = λ k. true }

-- ---- what the calls need

pub build_all-ports-requires-clause-are_open : goal.build_all-ports-requires-clause-are_open
build_all-ports-requires-clause-are_open c = subst (λ e. AreOpen c.make_regs-first.new.b.design e c.make_regs-first.result) (sym c.make_regs-first.ensures.makes.entry) c.make_regs-first.ensures.are_open

pub build_all-ports-requires-clause-inputs : goal.build_all-ports-requires-clause-inputs
build_all-ports-requires-clause-inputs c =
    let w = c.exec_inputs-wires in
    subst (λ e. AreInputs c.make_regs-first.new.b.design e (exec_list w.result) (input_shapes Exec)) (sym (c.make_regs-first.ensures.makes.entry ∙ w.ensures.entry))
    (inputs_grown w.new.b.design c.make_regs-first.new.b.design 6 (c.make_regs-first.ensures.makes.makes no-rights).grows c.args.b.now.entry (exec_list w.result) (input_shapes Exec) w.ensures.made.inputs)

pub build_all-ports-requires-clause-clear : goal.build_all-ports-requires-clause-clear
build_all-ports-requires-clause-clear c =
    let made = c.exec_inputs-wires.ensures.made in
    let at : (q : ℕ) → is_bus_out q ≡ true → out_at c.make_regs-first.new.b.design.outs q ≡ None =
    λ q h. ap (λ (os : List (Option Net)). out_at os q) (c.make_regs-first.ensures.makes.outs ∙ made.outs) ∙ c.requires.outs q h in
    record { valid = at 8 refl; write = at 10 refl; addr = at 11 refl; content = at 12 refl; mask = at 13 refl }

pub build_all-ports-requires-clause-drivers : goal.build_all-ports-requires-clause-drivers
build_all-ports-requires-clause-drivers c = c.make_regs-first.ensures.makes.drivers c.args.pool.now (c.exec_inputs-wires.ensures.made.drivers c.args.pool.now c.requires.fits.drivers)

not-there : (o : Option (ℕ × DataBusPorts)) → offered_as databus_ports o ≡ None → o ≡ None
not-there None e = refl
not-there (Some o) e = absurd cc

pub offer_databus-requires : goal.offer_databus-requires
offer_databus-requires c = record { «open» = not-there c.args.reg.now.databus (c.requires.unoffered DataBus refl) }

-- ---- what is built

module _ (c : After-offer_exec) where
  abbrev e : ℕ
  e = c.args.b.now.entry

  abbrev old : World
  old = world_of c.args.pool.now c.args.b.now c.args.reg.now

  abbrev new : World
  new = world_of c.build_all-ports.new.pool c.build_all-ports.new.b c.offer_exec.new.self

  abbrev mid : RegistryValue
  mid = c.offer_databus.new.self

  abbrev bus-ports : Ports
  bus-ports = record { inputs = []; outputs = [] }

  abbrev ports : Ports
  ports = exec_ports c.build_all-ports.result

  abbrev inputs : List ℕ
  inputs = exec_list c.exec_inputs-wires.result

  abbrev first : ℕ
  first = c.make_regs-first.result

  by-entry : c.build_all-ports.new.b.entry ≡ e
  by-entry = c.build_all-ports.ensures.drives.entry ∙ (c.make_regs-first.ensures.makes.entry ∙ c.exec_inputs-wires.ensures.entry)

  bus-by : c.entry.result ≡ e
  bus-by = c.entry.ensures ∙ by-entry

  exec-by : c.entry-2.result ≡ e
  exec-by = c.entry-2.ensures ∙ by-entry

  bus-adds : AddsOffer DataBus e bus-ports c.args.reg.now mid
  bus-adds = subst (λ (b : ℕ). AddsOffer DataBus b bus-ports c.args.reg.now mid) bus-by c.offer_databus.ensures.adds

  exec-adds : AddsOffer Exec e ports mid new.reg
  exec-adds = subst (λ (b : ℕ). AddsOffer Exec b ports mid new.reg) exec-by c.offer_exec.ensures.adds

  made : MakesInputs e c.args.b.now.design c.exec_inputs-wires.new.b.design inputs (input_shapes Exec)
  made = c.exec_inputs-wires.ensures.made

  makes : (r : Rights) → ((q : ℕ) → is_bus_out q ≡ true → r.outs q ≡ true) → Makes (Entry e) r c.args.b.now.design new.design 24
  makes r outs =
      let d1 = c.exec_inputs-wires.new.b.design in
      let d2 = c.make_regs-first.new.b.design in
      let one = c.exec_inputs-wires.ensures.entry in
      let two = c.make_regs-first.ensures.makes.entry ∙ one in
      makes_then (Entry e) r c.args.b.now.design d2 new.design 13 11 24
      (makes_then (Entry e) r c.args.b.now.design d1 d2 7 6 13 (made.makes r) (subst (λ (x : ℕ). Makes (Entry x) r d1 d2 6) one (c.make_regs-first.ensures.makes.makes r)) (omega arith))
      (subst (λ (x : ℕ). Makes (Entry x) r d2 new.design 11) two (c.build_all-ports.ensures.drives.makes r outs)) (omega arith)

  abbrev grown : Rights
  grown = record { wires = λ k. false; locked = λ k. false; outs = λ q. true }

  wires-same : new.design.wires ≡ c.exec_inputs-wires.new.b.design.wires
  wires-same = c.build_all-ports.ensures.drives.wires ∙ c.make_regs-first.ensures.makes.wires

  inputs-are : ports.inputs ≡ inputs
  inputs-are = c.build_all-ports.ensures.inputs

  there : AreInputs new.design e ports.inputs (input_shapes Exec)
  there =
      let d2 = c.make_regs-first.new.b.design in
      let all = c.build_all-ports.ensures.drives.makes grown (λ q h. refl) in
      subst (λ (ws : List ℕ). AreInputs new.design e ws (input_shapes Exec)) (sym inputs-are)
      (inputs_grown d2 new.design 11 all.grows e inputs (input_shapes Exec)
      (inputs_grown c.exec_inputs-wires.new.b.design d2 6 (c.make_regs-first.ensures.makes.makes grown).grows e inputs (input_shapes Exec) made.inputs))

  offer-of : (s : Service) → is_own s ≡ false → offer_of new.reg e s ≡ None
  offer-of = none_else e c.args.reg.now mid new.reg bus-ports ports c.requires.nothing.offers bus-adds exec-adds

  exec-offer : offer_of new.reg e Exec ≡ Some ports
  exec-offer = exec_is e c.args.reg.now mid new.reg bus-ports ports c.requires.nothing.offers bus-adds exec-adds

  bus-offer : offer_of new.reg e DataBus ≡ Some bus-ports
  bus-offer = bus_is e c.args.reg.now mid new.reg bus-ports ports c.requires.nothing.offers bus-adds exec-adds

  own : (s : Service) → offers new.reg e s ≡ spec.is_among (Exec ∷ DataBus ∷ []) s
  own = its_own e c.args.reg.now mid new.reg bus-ports ports c.requires.nothing.offers bus-adds exec-adds

  -- the offers fit, one behind the other
  bus-fits : OffersFit new.design new.pool c.args.reg.now → OffersFit new.design new.pool mid
  bus-fits f =
      offered_fits new.design new.pool c.args.reg.now mid f DataBus (record { by = c.entry.result; ports = bus-ports }) c.offer_databus.ensures.single c.offer_databus.ensures.adds.singles
      (ap (λ (r : RegistryValue). r.execs) c.offer_databus.ensures.is) (record { inputs = tt; outputs = tt; apart = tt }) (λ x k is. refl)

  singles-same : (s : Service) → single new.reg s ≡ single mid s
  singles-same s = elim (cases_service s Exec) [
    | inl same ↦ ap (single new.reg) same ∙ ap (single mid) (sym same)
    | inr other ↦ c.offer_exec.ensures.adds.singles s other
  ]

  new-inputs : AreNew mid ports.inputs
  new-inputs x k is =
      let fresh = later_new c.args.b.now.design c.args.pool.now c.args.reg.now c.requires.fits.offers inputs made.fresh in
      ap (is_among k) inputs-are ∙ elim (key-of x) [
        | inl same ↦ fresh x k (ap (λ (o : Option Ports). is_input_of o k) (sym same) ∙ is)
        | inr none ↦ absurd (both_ways (is_input_of (ports_at mid x) k) (none k) is)
      ]
    where
      key-of : (x : OfferKey) → (ports_at mid x ≡ ports_at c.args.reg.now x) ⊎ ((k : ℕ) → is_input_of (ports_at mid x) k ≡ false)
      key-of (The s) = elim (cases_service s DataBus) [
        | inl same ↦ inr (λ k. ap (λ (o : Option Offered). is_input_of (ports_of o) k) (ap (single mid) same ∙ c.offer_databus.ensures.single))
        | inr other ↦ inl (ap ports_of (c.offer_databus.ensures.adds.singles s other))
      ]
      key-of (ExecAt n) = inl (ap (λ (r : RegistryValue). exec_at r.execs n) c.offer_databus.ensures.is)

  exec-fits : OffersFit new.design new.pool mid → OffersFit new.design new.pool new.reg
  exec-fits f =
      let fit : OfferFits new.design new.pool Exec c.entry-2.result ports = record {
        inputs = subst (λ (b : ℕ). AreInputs new.design b ports.inputs (input_shapes Exec)) (sym exec-by) there;
        outputs = c.build_all-ports.ensures.outputs;
        apart = subst AreApart (sym inputs-are) made.apart;
      } in
      let none : exec_of c.entry-2.result mid.execs ≡ None =
      ap (λ (b : ℕ). exec_of b mid.execs) exec-by ∙ (ap (λ (r : RegistryValue). exec_of e r.execs) c.offer_databus.ensures.is ∙ c.requires.nothing.offers Exec) in
      exec_fits new.design new.pool mid new.reg f (record { by = c.entry-2.result; ports = c.build_all-ports.result }) singles-same c.offer_exec.ensures.execs fit none new-inputs

  -- ---- its part

  abbrev takes : Service → Bool
  takes = takes_of (spec_of kind.Dbus (params_of c.args.self.now.state.taken))

  abbrev trees : PortTrees
  trees = record { inputs = ports.inputs; outputs = map (net_tree new.pool.nodes) ports.outputs }

  told : (env : Env) → now_at first inputs env ≡ now_at first ports.inputs env
  told env = ap (λ (ws : List ℕ). now_at first ws env) (sym inputs-are)

  reg-is : (k width : ℕ) (reset : Option ℕ) (f : List ℕ → Env → ℕ) → IsNext new.design new.pool c.make_regs-first.new.b.entry k width reset (f inputs) → HasReg (part_in takes e new) k width reset (f ports.inputs)
  unfolding place worth
  reg-is k width reset f h =
      let same = c.make_regs-first.ensures.makes.entry ∙ c.exec_inputs-wires.ensures.entry in
      record {
        row = record { width = width; reset = reset; next = Some (net_tree new.pool.nodes h.net) };
        is = part_reg takes e new k (ap (λ (row : RegRow). row.owner) h.row ∙ ap Entry same)
            ∙ ap (λ (row : RegRow). Some (record { width = row.width; reset = row.reset; next = tree_option new.pool.nodes row.next })) h.row;
        wide = refl;
        reset_is = refl;
        tree = net_tree new.pool.nodes h.net;
        next_is = refl;
        value_is = λ env. h.value_is env ∙ ap (λ (ws : List ℕ). f ws env) (sym inputs-are);
      }

  is-out : (q : ℕ) → is_bus_out q ≡ true → is_out_of new.reg e q ≡ true
  is-out q h = or_right (offers new.reg e Fetch && is_fetch_out q) _ (λ i. own DataBus i && h i)

  out-is : (q reg : ℕ) → is_bus_out q ≡ true → IsShown new.design new.pool q reg → IsDriven ((part_in takes e new).outs q) (λ env. env.regs reg)
  unfolding part_of place worth
  out-is q reg h s = record {
    tree = net_tree new.pool.nodes s.net;
    is = cond-true (is_out_of new.reg e q) (tree_option new.pool.nodes (out_at new.design.outs q)) None (is-out q h) ∙ ap (tree_option new.pool.nodes) s.row;
    value_is = s.value_is;
  }

  no-other : (q : ℕ) (t : Tree) → (part_in takes e new).outs q ≡ Some t → is_bus_out q ≡ true
  unfolding part_of
  no-other q t h = elim (cases_Bool (is_out_of new.reg e q)) [
    | inl is ↦ elim (or_cases (offers new.reg e Fetch && is_fetch_out q) (offers new.reg e DataBus && is_bus_out q) is) [
      | inl f ↦ absurd (both_ways (offers new.reg e Fetch) (own Fetch) (and_parts (offers new.reg e Fetch) (is_fetch_out q) f).0)
      | inr b ↦ (and_parts (offers new.reg e DataBus) (is_bus_out q) b).1
    ]
    | inr not ↦ absurd (none_some _ t (ap (λ (b : Bool). cond b (tree_option new.pool.nodes (out_at new.design.outs q)) None) not) h)
  ]

  -- its registers are the six
  regs-are : (k : ℕ) → (reg_at new.design.regs k).owner ≡ Entry e → (first ≤ k) × (k < first + 6)
  regs-are k h = elim (cases_lt k (length c.args.b.now.design.regs)) [
    | inl l ↦ absurd (c.requires.nothing.regs k (ap (λ (row : RegRow). row.owner) (sym ((makes grown (λ q h. refl)).regs k l (c.requires.nothing.regs k))) ∙ h))
    | inr ge ↦ elim (cases_lt k (length new.design.regs)) [
      | inr past ↦ absurd (let x : Pipe ≡ Entry e = sym (ap (λ (row : RegRow). row.owner) (get_or_past new.design.regs k _ past)) ∙ h in cc)
      | inl l ↦
          let at : first ≡ length c.args.b.now.design.regs = c.make_regs-first.ensures.first ∙ ap (λ (rs : List RegRow). length rs) made.regs in
          let many : length new.design.regs ≡ length c.args.b.now.design.regs + 6 =
          c.build_all-ports.ensures.drives.count ∙ (c.make_regs-first.ensures.makes.count ∙ ap (λ (rs : List RegRow). length rs + 6) made.regs) in
          (omega arith, omega arith)
    ]
  ]

pub returns-clause-fits : goal.returns-clause-fits
returns-clause-fits c =
    world_fits (old c) (new c) 140 24 c.requires.fits (adds_of _ _ 140 c.build_all-ports.ensures.step) (makes c (grown c) (λ q h. refl)).grows
    (λ f. c.build_all-ports.ensures.drivers) (λ f. exec-fits c (bus-fits c f))

pub returns-clause-adds : goal.returns-clause-adds
returns-clause-adds c = builds_of _ _ _ 140 24 _ _ (adds_of _ _ 140 c.build_all-ports.ensures.step) (makes c (early_rights (new c).reg (e c)) (is-out c)) (omega arith)

pub returns-clause-offers : goal.returns-clause-offers
returns-clause-offers c = offers_then (e c) c.args.reg.now (mid c) (new c).reg (bus-adds c).offers (exec-adds c).offers

pub returns-clause-offered : goal.returns-clause-offered
returns-clause-offered c = own c

pub returns-clause-once : goal.returns-clause-once
returns-clause-once c =
    let same : (mid c).execs ≡ c.args.reg.now.execs = ap (λ (r : RegistryValue). r.execs) c.offer_databus.ensures.is in
    let many = ap (λ (os : List ExecOffer). length os) c.offer_exec.ensures.execs ∙ (length-append (mid c).execs _ ∙ ap (λ (os : List ExecOffer). length os + 1) same) in
    omega (arith, many)

pub returns-clause-offer : goal.returns-clause-offer
returns-clause-offer c =
    let same : (mid c).room ≡ c.args.reg.now.room = ap (λ (r : RegistryValue). r.room) c.offer_databus.ensures.is in
    omega (arith, c.offer_exec.ensures.room)

pub returns-clause-open : goal.returns-clause-open
returns-clause-open c = λ k is.
    let h = input_of_some (new c).reg (e c) k is in
    let among = input-among c k h.0 h.1 in
    ap (λ (rows : List WireRow). (wire_at rows k).driver) (wires-same c)
    ∙ inputs_bare (e c) c.args.b.now.design c.exec_inputs-wires.new.b.design (inputs c) (input_shapes Exec) (made c) k
    (among_inputs c.exec_inputs-wires.new.b.design (new c).pool (e c) (inputs c) (input_shapes Exec) k (made c).inputs among).0 among
  where
    input-among : (c : After-offer_exec) (k : ℕ) (s : Service) → is_input_of (offer_of (new c).reg (e c) s) k ≡ true → is_among k (inputs c) ≡ true
    input-among c k s is = elim (cases_service s Exec) [
      | inl x ↦ ap (is_among k) (sym (inputs-are c)) ∙ sym (ap (λ (o : Option Ports). is_input_of o k) (ap (offer_of (new c).reg (e c)) x ∙ exec-offer c)) ∙ is
      | inr nx ↦ elim (cases_service s DataBus) [
        | inl b ↦ absurd (both_ways (is_input_of (offer_of (new c).reg (e c) s) k) (ap (λ (o : Option Ports). is_input_of o k) (ap (offer_of (new c).reg (e c)) b ∙ bus-offer c)) is)
        | inr nb ↦ absurd (both_ways (is_input_of (offer_of (new c).reg (e c) s) k) (ap (λ (o : Option Ports). is_input_of o k) (other (e c) c.args.reg.now (mid c) (new c).reg (bus-ports c) (ports c) c.requires.nothing.offers (bus-adds c) (exec-adds c) s nx nb)) is)
      ]
    ]

pub returns-clause-begun : goal.returns-clause-begun
unfolding place worth
returns-clause-begun c =
    let n = c.build_all-ports.ensures.nexts in
    let o = c.build_all-ports.ensures.shows in
    let m = c.build_all-ports.ensures.command in
    let t = takes c in
    let w = new c in
    let wire = input_wires t (e c) w (ports c).inputs (input_shapes Exec) (there c) in
    record {
      first = first c;
      ports = trees c;
      exec = part_offer t (e c) w Exec (Some (ports c)) (exec-offer c);
      bus = part_offer t (e c) w DataBus (Some (bus-ports c)) (bus-offer c);
      none = λ s other. part_offer t (e c) w s None (offer-of c s other);
      go = wire 0 (omega arith);
      clear = wire 6 (omega arith);
      given = reg-is c _ 1 (Some 0) (λ ws env. given_after (now_at (first c) ws env)) n.given;
      owed = reg-is c _ 1 (Some 0) (λ ws env. owed_after (now_at (first c) ws env)) n.owed;
      address = reg-is c _ 32 None (λ ws env. address_after (now_at (first c) ws env)) n.address;
      writes = reg-is c _ 1 None (λ ws env. writes_after (now_at (first c) ws env)) n.writes;
      payload = reg-is c _ 32 None (λ ws env. payload_after (now_at (first c) ws env)) n.payload;
      mask = reg-is c _ 4 None (λ ws env. mask_after (now_at (first c) ws env)) n.mask;
      done = λ env. o.done env ∙ ap done_now (told c env);
      result = λ env. o.result env ∙ ap value_now (told c env);
      next_pc = λ env. o.next_pc env ∙ ap (λ (x : Now). behind x.pc) (told c env);
      trap = λ env. o.trap env ∙ ap trap_now (told c env);
      cause = λ env. o.cause env ∙ ap cause_now (told c env);
      tval = λ env. o.tval env ∙ ap (λ (x : Now). address_of x.word x.a) (told c env);
      fence = o.fence;
      cmd_valid = out-is c 8 _ refl m.valid;
      cmd_write = out-is c 10 _ refl m.write;
      cmd_addr = out-is c 11 _ refl m.addr;
      cmd_data = out-is c 12 _ refl m.content;
      cmd_mask = out-is c 13 _ refl m.mask;
      no_other = no-other c;
      wires = λ k row h.
          ap (is_among k) (inputs-are c)
          ∙ (inputs_only (e c) c.args.b.now.design c.exec_inputs-wires.new.b.design (inputs c) (input_shapes Exec) (made c) c.requires.nothing.wires k
          (ap (λ (rows : List WireRow). (wire_at rows k).owner) (sym (wires-same c)) ∙ wire_in t (e c) w k row h)).1;
      regs = λ k row h. regs-are c k (reg_in t (e c) w k row h).0;
      arrays = λ k row h.
          c.requires.nothing.arrays k
          (ap (λ (rs : List ArrayRow). (array_at rs k).owner) (sym (c.build_all-ports.ensures.drives.arrays ∙ (c.make_regs-first.ensures.makes.arrays ∙ (made c).arrays))) ∙ (array_in t (e c) w k row h).0);
    }
