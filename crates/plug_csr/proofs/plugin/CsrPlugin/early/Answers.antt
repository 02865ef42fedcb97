use Rattle.std.proofs.Common.{◌≡◌, ◌∙◌, ℕ, ◌+◌, ◌<◌, ◌≤◌, List, [], ◌∷◌, ◌++◌, length, map, arith, refl, ap, sym, subst, Bool, true, false, cond, ◌&&◌, ◌||◌, ◌⊎◌, Option, Some, None, inl, inr, length-append}
use Rattle.std.proofs.lemmas.Bool.{both_ways, cases_Bool, cases_lt, and_parts, or_cases, or_left, or_right}
use Rattle.std.proofs.lemmas.List.{get_or_past}
use Rattle.hw_pool.specs.Meaning.{Env}
use Rattle.hw_pool.specs.Trees.{Tree}
use Rattle.hw_gates.specs.Places.{place, worth}
use Rattle.hw_gates.proofs.Steps.{adds_of}
use Rattle.hw_module.specs.declared.rows.Owner.TheVariants.{Pipe, Entry}
use Rattle.hw_module.specs.declared.rows.WireRow.{WireRow}
use Rattle.hw_module.specs.declared.rows.RegRow.{RegRow}
use Rattle.hw_module.specs.declared.rows.ArrayRow.{ArrayRow}
use Rattle.hw_module.specs.Rows.{ModuleValue, reg_at, wire_at, array_at, out_at}
use Rattle.hw_module.specs.Rights.{Rights, Makes}
use Rattle.hw_module.proofs.Makes.{makes_then}
use Rattle.isa_model.specs.Machine.{misa_of}
use Rattle.service_reg.specs.declared.service.Service.{Service}
use Rattle.service_reg.specs.declared.service.Service.TheVariants.{Fetch, Exec, DataBus, System}
use Rattle.service_ports.specs.declared.ports.SystemPorts.{SystemPorts}
use Rattle.service_ports.specs.declared.ports.ExecOffer.{ExecOffer}
use Rattle.service_ports.specs.Ports.{Ports, exec_ports, system_ports, input_shapes}
use Rattle.service_ports.specs.Registry.{AddsOffer, Offered, RegistryValue, exec_of, offer_of, offered_as, single}
use Rattle.service_ports.proofs.Offers.{none_some, offers_then}
use Rattle.plug_part.specs.Of.{part_of, net_tree, tree_option}
use Rattle.plug_part.specs.Owned.{is_among, is_bus_out, is_fetch_out, is_input_of, is_out_of, offers, ports_of}
use Rattle.plug_part.specs.Part.{PortTrees}
use Rattle.plug_part.specs.Terms.{set_from}
use Rattle.plug_part.specs.Things.{HasReg}
use Rattle.plug_api.specs.Calls.{takes_of}
use Rattle.plug_api.specs.Spec as spec
use Rattle.plug_build.specs.Fits.{AreApart, AreInputs, AreNew, OfferFits, OfferKey, OffersFit, exec_at, ports_at}
use Rattle.plug_build.specs.Fits.OfferKey.{The, ExecAt}
use Rattle.plug_build.specs.World.{World, early_rights, part_in, world_of}
use Rattle.plug_build.proofs.Apart.{later_new}
use Rattle.plug_build.proofs.Offers.{among_inputs, input_of_some}
use Rattle.plug_build.proofs.Worlds.{builds_of, cases_service, exec_fits, inputs_grown, offered_fits, world_fits}
use Rattle.plug_kinds.specs.declared.kind.Kind.TheVariants as kind
use Rattle.plug_kinds.specs.Kinds.{params_of, spec_of}
use Rattle.plug_kit.specs.Made.{MakesInputs, exec_list, system_list}
use Rattle.plug_kit.proofs.Bare.{input_wires}
use Rattle.plug_kit.proofs.Rows.{array_in, part_offer, part_reg, reg_in, wire_in}
use Rattle.plug_kit.proofs.Steps.{inputs_bare, inputs_only, inputs_then}
use Rattle.csr_nets.specs.Machine.{Now, done_now, held_after, irq_cause_by, kind_now, next_pc_by, old_now, take_now, trap_now, whole_by}
use Rattle.plug_csr.specs.Cycle.{now_at}
use Rattle.plug_csr.specs.Registers.{AreOpen}
use Rattle.plug_csr.specs.Built.{IsNext}
use Rattle.plug_csr.specs.Builds.{is_own}
use Rattle.plug_csr.proofs.Inputs.{among_both}
use Rattle.plug_csr.proofs.Offers.{exec_is, its_own, none_else, other, system_is}
use Rattle.plug_csr.proofs.plugin.CsrPlugin.early.Goals as goal
use Rattle.plug_csr.proofs.plugin.CsrPlugin.early.Goals.{After-offer_exec}

no-rights : Rights
no-rights = record { wires = λ k. false; locked = λ k. false; outs = λ k. true }

-- ---- what the calls need

pub build_all-ports-requires-clause-are_open : goal.build_all-ports-requires-clause-are_open
build_all-ports-requires-clause-are_open c = subst (λ e. AreOpen c.make_regs-first.new.b.design e c.make_regs-first.result) (sym c.make_regs-first.ensures.makes.entry) c.make_regs-first.ensures.are_open

pub build_all-ports-requires-clause-inputs : goal.build_all-ports-requires-clause-inputs
build_all-ports-requires-clause-inputs c =
    let w = c.exec_inputs-wires in
    let y = c.system_inputs-events in
    let d2 = y.new.b.design in
    let d3 = c.make_regs-first.new.b.design in
    let e = c.args.b.now.entry in
    subst (λ e. AreInputs d3 e (exec_list w.result) (input_shapes Exec)) (sym (c.make_regs-first.ensures.makes.entry ∙ (y.ensures.entry ∙ w.ensures.entry)))
    (inputs_grown d2 d3 10 (c.make_regs-first.ensures.makes.makes no-rights).grows e (exec_list w.result) (input_shapes Exec)
    (inputs_grown w.new.b.design d2 5 (y.ensures.made.makes no-rights).grows e (exec_list w.result) (input_shapes Exec) w.ensures.made.inputs))

pub build_all-ports-requires-clause-told : goal.build_all-ports-requires-clause-told
build_all-ports-requires-clause-told c =
    let y = c.system_inputs-events in
    let d3 = c.make_regs-first.new.b.design in
    subst (λ e. AreInputs d3 e (system_list y.result) (input_shapes System)) (sym (c.make_regs-first.ensures.makes.entry ∙ y.ensures.entry))
    (inputs_grown y.new.b.design d3 10 (c.make_regs-first.ensures.makes.makes no-rights).grows c.exec_inputs-wires.new.b.entry (system_list y.result) (input_shapes System) y.ensures.made.inputs)

pub build_all-ports-requires-clause-drivers : goal.build_all-ports-requires-clause-drivers
build_all-ports-requires-clause-drivers c =
    let pool = c.args.pool.now in
    c.make_regs-first.ensures.makes.drivers pool (c.system_inputs-events.ensures.made.drivers pool (c.exec_inputs-wires.ensures.made.drivers pool c.requires.fits.drivers))

not-there : (o : Option (ℕ × SystemPorts)) → offered_as system_ports o ≡ None → o ≡ None
not-there None e = refl
not-there (Some o) e = absurd cc

pub offer_system-requires : goal.offer_system-requires
offer_system-requires c = record { «open» = not-there c.args.reg.now.system (c.requires.unoffered System refl) }

-- ---- what is built

module _ (c : After-offer_exec) where
  abbrev e : ℕ
  e = c.args.b.now.entry

  abbrev old : World
  old = world_of c.args.pool.now c.args.b.now c.args.reg.now

  abbrev new : World
  new = world_of c.build_all-ports.new.pool c.build_all-ports.new.b c.offer_exec.new.self

  abbrev mid : RegistryValue
  mid = c.offer_system.new.self

  abbrev ports : Ports
  ports = exec_ports c.build_all-ports.result.exec

  abbrev sys-ports : Ports
  sys-ports = system_ports c.build_all-ports.result.system

  abbrev inputs : List ℕ
  inputs = exec_list c.exec_inputs-wires.result

  abbrev told : List ℕ
  told = system_list c.system_inputs-events.result

  abbrev all-shapes : List (ℕ × ℕ)
  all-shapes = input_shapes Exec ++ input_shapes System

  abbrev first : ℕ
  first = c.make_regs-first.result

  abbrev misa : ℕ
  misa = misa_of (set_from c.args.plan.now.rows c.args.plan.now.has_csr)

  abbrev d0 : ModuleValue
  d0 = c.args.b.now.design

  abbrev d1 : ModuleValue
  d1 = c.exec_inputs-wires.new.b.design

  abbrev d2 : ModuleValue
  d2 = c.system_inputs-events.new.b.design

  abbrev d3 : ModuleValue
  d3 = c.make_regs-first.new.b.design

  events-entry : c.system_inputs-events.new.b.entry ≡ e
  events-entry = c.system_inputs-events.ensures.entry ∙ c.exec_inputs-wires.ensures.entry

  regs-entry : c.make_regs-first.new.b.entry ≡ e
  regs-entry = c.make_regs-first.ensures.makes.entry ∙ events-entry

  by-entry : c.build_all-ports.new.b.entry ≡ e
  by-entry = c.build_all-ports.ensures.moves.entry ∙ regs-entry

  sys-by : c.entry.result ≡ e
  sys-by = c.entry.ensures ∙ by-entry

  exec-by : c.entry-2.result ≡ e
  exec-by = c.entry-2.ensures ∙ by-entry

  sys-adds : AddsOffer System e sys-ports c.args.reg.now mid
  sys-adds = subst (λ (b : ℕ). AddsOffer System b sys-ports c.args.reg.now mid) sys-by c.offer_system.ensures.adds

  exec-adds : AddsOffer Exec e ports mid new.reg
  exec-adds = subst (λ (b : ℕ). AddsOffer Exec b ports mid new.reg) exec-by c.offer_exec.ensures.adds

  made-exec : MakesInputs e d0 d1 inputs (input_shapes Exec)
  made-exec = c.exec_inputs-wires.ensures.made

  made-told : MakesInputs e d1 d2 told (input_shapes System)
  made-told = subst (λ (b : ℕ). MakesInputs b d1 d2 told (input_shapes System)) c.exec_inputs-wires.ensures.entry c.system_inputs-events.ensures.made

  made : MakesInputs e d0 d2 (inputs ++ told) all-shapes
  made = inputs_then e d0 d1 d2 inputs told (input_shapes Exec) (input_shapes System) made-exec made-told

  regs-made : (r : Rights) → Makes (Entry e) r d2 d3 10
  regs-made r = subst (λ (x : ℕ). Makes (Entry x) r d2 d3 10) events-entry (c.make_regs-first.ensures.makes.makes r)

  regs-moved : (r : Rights) → Makes (Entry e) r d3 new.design 10
  regs-moved r = subst (λ (x : ℕ). Makes (Entry x) r d3 new.design 10) regs-entry (c.build_all-ports.ensures.moves.makes r)

  makes : (r : Rights) → Makes (Entry e) r d0 new.design 32
  makes r = makes_then (Entry e) r d0 d3 new.design 22 10 32 (makes_then (Entry e) r d0 d2 d3 12 10 22 (made.makes r) (regs-made r) (omega arith)) (regs-moved r) (omega arith)

  wires-same : new.design.wires ≡ d2.wires
  wires-same = c.build_all-ports.ensures.moves.wires ∙ c.make_regs-first.ensures.makes.wires

  inputs-are : ports.inputs ≡ inputs
  inputs-are = c.build_all-ports.ensures.inputs

  told-are : sys-ports.inputs ≡ told
  told-are = c.build_all-ports.ensures.told

  grown-from : (ws : List ℕ) (ss : List (ℕ × ℕ)) → AreInputs d2 e ws ss → AreInputs new.design e ws ss
  grown-from ws ss h = inputs_grown d3 new.design 10 (regs-moved no-rights).grows e ws ss (inputs_grown d2 d3 10 (regs-made no-rights).grows e ws ss h)

  there : AreInputs new.design e ports.inputs (input_shapes Exec)
  there =
      subst (λ (ws : List ℕ). AreInputs new.design e ws (input_shapes Exec)) (sym inputs-are)
      (grown-from inputs (input_shapes Exec) (inputs_grown d1 d2 5 (made-told.makes no-rights).grows e inputs (input_shapes Exec) made-exec.inputs))

  sys-there : AreInputs new.design e sys-ports.inputs (input_shapes System)
  sys-there = subst (λ (ws : List ℕ). AreInputs new.design e ws (input_shapes System)) (sym told-are) (grown-from told (input_shapes System) made-told.inputs)

  offer-of : (s : Service) → is_own s ≡ false → offer_of new.reg e s ≡ None
  offer-of = none_else e c.args.reg.now mid new.reg sys-ports ports c.requires.nothing.offers sys-adds exec-adds

  exec-offer : offer_of new.reg e Exec ≡ Some ports
  exec-offer = exec_is e c.args.reg.now mid new.reg sys-ports ports c.requires.nothing.offers sys-adds exec-adds

  sys-offer : offer_of new.reg e System ≡ Some sys-ports
  sys-offer = system_is e c.args.reg.now mid new.reg sys-ports ports c.requires.nothing.offers sys-adds exec-adds

  own : (s : Service) → offers new.reg e s ≡ spec.is_among (Exec ∷ System ∷ []) s
  own = its_own e c.args.reg.now mid new.reg sys-ports ports c.requires.nothing.offers sys-adds exec-adds

  -- the inputs are new, and those of the two services differ
  told-new : AreNew c.args.reg.now sys-ports.inputs
  told-new x k is =
      let more = (made-exec.makes no-rights).grows.more_wires in
      let fresh = later_new d0 c.args.pool.now c.args.reg.now c.requires.fits.offers told (λ j h. let past = made-told.fresh j h in omega (arith, more, past)) in
      ap (is_among k) told-are ∙ fresh x k is

  inputs-fresh : AreNew c.args.reg.now inputs
  inputs-fresh = later_new d0 c.args.pool.now c.args.reg.now c.requires.fits.offers inputs made-exec.fresh

  inputs-differ : (k : ℕ) → is_among k told ≡ true → is_among k inputs ≡ false
  inputs-differ k h = elim (cases_Bool (is_among k inputs)) [
    | inl among ↦ absurd (let low = (among_inputs d1 c.args.pool.now e inputs (input_shapes Exec) k made-exec.inputs among).0 in let past = made-told.fresh k h in omega (arith, low, past))
    | inr free ↦ free
  ]

  -- the offers fit, one behind the other
  sys-fits : OffersFit new.design new.pool c.args.reg.now → OffersFit new.design new.pool mid
  sys-fits f =
      let fit : OfferFits new.design new.pool System c.entry.result sys-ports = record {
        inputs = subst (λ (b : ℕ). AreInputs new.design b sys-ports.inputs (input_shapes System)) (sym sys-by) sys-there;
        outputs = c.build_all-ports.ensures.system_outputs;
        apart = subst AreApart (sym told-are) made-told.apart;
      } in
      offered_fits new.design new.pool c.args.reg.now mid f System (record { by = c.entry.result; ports = sys-ports }) c.offer_system.ensures.single c.offer_system.ensures.adds.singles
      (ap (λ (r : RegistryValue). r.execs) c.offer_system.ensures.is) fit told-new

  singles-same : (s : Service) → single new.reg s ≡ single mid s
  singles-same s = elim (cases_service s Exec) [
    | inl same ↦ ap (single new.reg) same ∙ ap (single mid) (sym same)
    | inr other ↦ c.offer_exec.ensures.adds.singles s other
  ]

  new-inputs : AreNew mid ports.inputs
  new-inputs x k is = ap (is_among k) inputs-are ∙ elim (key-of x) [
    | inl same ↦ inputs-fresh x k (ap (λ (o : Option Ports). is_input_of o k) (sym same) ∙ is)
    | inr sys ↦ inputs-differ k (ap (is_among k) (sym told-are) ∙ (ap (λ (o : Option Ports). is_input_of o k) (sym sys) ∙ is))
  ]
    where
      key-of : (x : OfferKey) → (ports_at mid x ≡ ports_at c.args.reg.now x) ⊎ (ports_at mid x ≡ Some sys-ports)
      key-of (The s) = elim (cases_service s System) [
        | inl same ↦ inr (ap (λ (o : Option Offered). ports_of o) (ap (single mid) same ∙ c.offer_system.ensures.single))
        | inr other ↦ inl (ap ports_of (c.offer_system.ensures.adds.singles s other))
      ]
      key-of (ExecAt n) = inl (ap (λ (r : RegistryValue). exec_at r.execs n) c.offer_system.ensures.is)

  exec-fits : OffersFit new.design new.pool mid → OffersFit new.design new.pool new.reg
  exec-fits f =
      let fit : OfferFits new.design new.pool Exec c.entry-2.result ports = record {
        inputs = subst (λ (b : ℕ). AreInputs new.design b ports.inputs (input_shapes Exec)) (sym exec-by) there;
        outputs = c.build_all-ports.ensures.outputs;
        apart = subst AreApart (sym inputs-are) made-exec.apart;
      } in
      let none : exec_of c.entry-2.result mid.execs ≡ None =
      ap (λ (b : ℕ). exec_of b mid.execs) exec-by ∙ (ap (λ (r : RegistryValue). exec_of e r.execs) c.offer_system.ensures.is ∙ c.requires.nothing.offers Exec) in
      exec_fits new.design new.pool mid new.reg f (record { by = c.entry-2.result; ports = c.build_all-ports.result.exec }) singles-same c.offer_exec.ensures.execs fit none new-inputs

  -- ---- its part

  abbrev takes : Service → Bool
  takes = takes_of (spec_of kind.Csr (params_of c.args.self.now.state.taken))

  abbrev trees : PortTrees
  trees = record { inputs = ports.inputs; outputs = map (net_tree new.pool.nodes) ports.outputs }

  abbrev sys-trees : PortTrees
  sys-trees = record { inputs = sys-ports.inputs; outputs = map (net_tree new.pool.nodes) sys-ports.outputs }

  -- what misa reads, and a cycle over the ports
  misa-is : c.misa_for-misa.result ≡ misa
  misa-is = c.misa_for-misa.ensures.value

  -- a function of misa and a cycle, as it is built and as the part has it
  as-part : (f : ℕ → Now → ℕ) (env : Env) → f c.misa_for-misa.result (now_at first inputs told env) ≡ f misa (now_at first ports.inputs sys-ports.inputs env)
  as-part f env = λ i. f (misa-is i) (now_at first (sym inputs-are i) (sym told-are i) env)

  reg-is : (k width : ℕ) (f : ℕ → Now → ℕ) → IsNext new.design new.pool c.make_regs-first.new.b.entry k width (λ env. f c.misa_for-misa.result (now_at first inputs told env))
      → HasReg (part_in takes e new) k width (Some 0) (λ env. f misa (now_at first ports.inputs sys-ports.inputs env))
  unfolding place worth
  reg-is k width f h = record {
    row = record { width = width; reset = Some 0; next = Some (net_tree new.pool.nodes h.net) };
    is = part_reg takes e new k (ap (λ (row : RegRow). row.owner) h.row ∙ ap Entry regs-entry)
        ∙ ap (λ (row : RegRow). Some (record { width = row.width; reset = row.reset; next = tree_option new.pool.nodes row.next })) h.row;
    wide = refl;
    reset_is = refl;
    tree = net_tree new.pool.nodes h.net;
    next_is = refl;
    value_is = λ env. h.value_is env ∙ as-part f env;
  }

  no-outs : (q : ℕ) (t : Tree) → (part_in takes e new).outs q ≡ Some t → ⊥
  unfolding part_of
  no-outs q t h = elim (cases_Bool (is_out_of new.reg e q)) [
    | inl is ↦ elim (or_cases (offers new.reg e Fetch && is_fetch_out q) (offers new.reg e DataBus && is_bus_out q) is) [
      | inl f ↦ both_ways (offers new.reg e Fetch) (own Fetch) (and_parts (offers new.reg e Fetch) (is_fetch_out q) f).0
      | inr b ↦ both_ways (offers new.reg e DataBus) (own DataBus) (and_parts (offers new.reg e DataBus) (is_bus_out q) b).0
    ]
    | inr not ↦ none_some _ t (ap (λ (b : Bool). cond b (tree_option new.pool.nodes (out_at new.design.outs q)) None) not) h
  ]

  -- its registers are the ten
  regs-are : (k : ℕ) → (reg_at new.design.regs k).owner ≡ Entry e → (first ≤ k) × (k < first + 10)
  regs-are k h = elim (cases_lt k (length d0.regs)) [
    | inl l ↦ absurd (c.requires.nothing.regs k (ap (λ (row : RegRow). row.owner) (sym ((makes no-rights).regs k l (c.requires.nothing.regs k))) ∙ h))
    | inr ge ↦ elim (cases_lt k (length new.design.regs)) [
      | inr past ↦ absurd (let x : Pipe ≡ Entry e = sym (ap (λ (row : RegRow). row.owner) (get_or_past new.design.regs k _ past)) ∙ h in cc)
      | inl l ↦
          let at : first ≡ length d0.regs = c.make_regs-first.ensures.first ∙ ap (λ (rs : List RegRow). length rs) made.regs in
          let many : length new.design.regs ≡ length d0.regs + 10 =
          c.build_all-ports.ensures.moves.count ∙ (c.make_regs-first.ensures.makes.count ∙ ap (λ (rs : List RegRow). length rs + 10) made.regs) in
          (omega arith, omega arith)
    ]
  ]

  -- an input of its services is among those that were made
  input-among : (k : ℕ) (s : Service) → is_input_of (offer_of new.reg e s) k ≡ true → is_among k (inputs ++ told) ≡ true
  input-among k s is = elim (cases_service s Exec) [
    | inl x ↦
        among_both k inputs told ∙ or_left (is_among k inputs) (is_among k told)
        (ap (is_among k) (sym inputs-are) ∙ (sym (ap (λ (o : Option Ports). is_input_of o k) (ap (offer_of new.reg e) x ∙ exec-offer)) ∙ is))
    | inr nx ↦ elim (cases_service s System) [
      | inl y ↦
          among_both k inputs told ∙ or_right (is_among k inputs) (is_among k told)
          (ap (is_among k) (sym told-are) ∙ (sym (ap (λ (o : Option Ports). is_input_of o k) (ap (offer_of new.reg e) y ∙ sys-offer)) ∙ is))
      | inr ny ↦ absurd (both_ways (is_input_of (offer_of new.reg e s) k)
          (ap (λ (o : Option Ports). is_input_of o k) (other e c.args.reg.now mid new.reg sys-ports ports c.requires.nothing.offers sys-adds exec-adds s nx ny)) is)
    ]
  ]

pub returns-clause-fits : goal.returns-clause-fits
returns-clause-fits c =
    world_fits (old c) (new c) 258 32 c.requires.fits (adds_of _ _ 258 c.build_all-ports.ensures.step) (makes c no-rights).grows
    (λ f. c.build_all-ports.ensures.drivers) (λ f. exec-fits c (sys-fits c f))

pub returns-clause-adds : goal.returns-clause-adds
returns-clause-adds c = builds_of _ _ _ 258 32 _ _ (adds_of _ _ 258 c.build_all-ports.ensures.step) (makes c (early_rights (new c).reg (e c))) (omega arith)

pub returns-clause-offers : goal.returns-clause-offers
returns-clause-offers c = offers_then (e c) c.args.reg.now (mid c) (new c).reg (sys-adds c).offers (exec-adds c).offers

pub returns-clause-offered : goal.returns-clause-offered
returns-clause-offered c = own c

pub returns-clause-once : goal.returns-clause-once
returns-clause-once c =
    let same : (mid c).execs ≡ c.args.reg.now.execs = ap (λ (r : RegistryValue). r.execs) c.offer_system.ensures.is in
    let many = ap (λ (os : List ExecOffer). length os) c.offer_exec.ensures.execs ∙ (length-append (mid c).execs _ ∙ ap (λ (os : List ExecOffer). length os + 1) same) in
    omega (arith, many)

pub returns-clause-offer : goal.returns-clause-offer
returns-clause-offer c =
    let same : (mid c).room ≡ c.args.reg.now.room = ap (λ (r : RegistryValue). r.room) c.offer_system.ensures.is in
    omega (arith, c.offer_exec.ensures.room)

pub returns-clause-open : goal.returns-clause-open
returns-clause-open c = λ k is.
    let h = input_of_some (new c).reg (e c) k is in
    let among = input-among c k h.0 h.1 in
    ap (λ (rows : List WireRow). (wire_at rows k).driver) (wires-same c)
    ∙ inputs_bare (e c) (d0 c) (d2 c) (inputs c ++ told c) (all-shapes c) (made c) k
    (among_inputs (d2 c) (new c).pool (e c) (inputs c ++ told c) (all-shapes c) k (made c).inputs among).0 among

pub returns-clause-begun : goal.returns-clause-begun
unfolding place worth
returns-clause-begun c =
    let n = c.build_all-ports.ensures.nexts in
    let o = c.build_all-ports.ensures.shows in
    let t = takes c in
    let w = new c in
    let wire = input_wires t (e c) w (ports c).inputs (input_shapes Exec) (there c) in
    let tells = input_wires t (e c) w (sys-ports c).inputs (input_shapes System) (sys-there c) in
    record {
      first = first c;
      ports = trees c;
      told = sys-trees c;
      exec = part_offer t (e c) w Exec (Some (ports c)) (exec-offer c);
      system = part_offer t (e c) w System (Some (sys-ports c)) (sys-offer c);
      none = λ s other. part_offer t (e c) w s None (offer-of c s other);
      go = wire 0 (omega arith);
      a = wire 4 (omega arith);
      clear = wire 6 (omega arith);
      event = tells 0 (omega arith);
      told_pc = tells 2 (omega arith);
      on = reg-is c _ 1 (λ m x. (held_after m x).on) n.on;
      was = reg-is c _ 1 (λ m x. (held_after m x).was) n.was;
      soft = reg-is c _ 1 (λ m x. (held_after m x).soft) n.soft;
      timer = reg-is c _ 1 (λ m x. (held_after m x).timer) n.timer;
      outer = reg-is c _ 1 (λ m x. (held_after m x).outer) n.outer;
      tvec = reg-is c _ 30 (λ m x. (held_after m x).tvec) n.tvec;
      epc = reg-is c _ 30 (λ m x. (held_after m x).epc) n.epc;
      scratch = reg-is c _ 32 (λ m x. (held_after m x).scratch) n.scratch;
      cause = reg-is c _ 32 (λ m x. (held_after m x).cause) n.cause;
      tval = reg-is c _ 32 (λ m x. (held_after m x).tval) n.tval;
      done = λ env. o.done env ∙ as-part c (λ m x. done_now m x) env;
      result = λ env. o.result env ∙ as-part c (λ m x. old_now m x) env;
      next_pc = λ env. o.next_pc env ∙ as-part c (λ m x. next_pc_by (kind_now m x).returns x.held.epc x.given.pc) env;
      trap = λ env. o.trap env ∙ as-part c (λ m x. trap_now m x) env;
      illegal = o.cause;
      its_word = λ env. o.tval env ∙ as-part c (λ m x. x.given.word) env;
      fence = o.fence;
      take_irq = λ env. o.take_irq env ∙ as-part c (λ m x. take_now m x) env;
      irq_cause = λ env. o.irq_cause env ∙ as-part c (λ m x. irq_cause_by x.held x.lines) env;
      base = λ env. o.base env ∙ as-part c (λ m x. whole_by x.held.tvec) env;
      no_outs = no-outs c;
      wires = λ k row h.
          (λ i. is_among k (inputs-are c i) || is_among k (told-are c i))
          ∙ (sym (among_both k (inputs c) (told c))
          ∙ (inputs_only (e c) (d0 c) (d2 c) (inputs c ++ told c) (all-shapes c) (made c) c.requires.nothing.wires k
          (ap (λ (rows : List WireRow). (wire_at rows k).owner) (sym (wires-same c)) ∙ wire_in t (e c) w k row h)).1);
      regs = λ k row h. regs-are c k (reg_in t (e c) w k row h).0;
      arrays = λ k row h.
          c.requires.nothing.arrays k
          (ap (λ (rs : List ArrayRow). (array_at rs k).owner) (sym (c.build_all-ports.ensures.moves.arrays ∙ (c.make_regs-first.ensures.makes.arrays ∙ (made c).arrays))) ∙ (array_in t (e c) w k row h).0);
    }
