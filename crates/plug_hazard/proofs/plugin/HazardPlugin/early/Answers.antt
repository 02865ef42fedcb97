use Rattle.std.proofs.Common.{◌≡◌, ◌∙◌, ℕ, ◌≤◌, List, [], ◌∷◌, length, arith, ap, sym, subst, refl, cond, Bool, true, false, Option, None, Some}
use Rattle.hw_pool.specs.Meaning.{Env}
use Rattle.hw_gates.specs.Places.{place, worth}
use Rattle.hw_gates.proofs.Steps.{adds_of}
use Rattle.hw_module.specs.declared.rows.WireRow.{WireRow}
use Rattle.hw_module.specs.declared.rows.RegRow.{RegRow}
use Rattle.hw_module.specs.declared.rows.ArrayRow.{ArrayRow}
use Rattle.hw_module.specs.Rows.{wire_at, reg_at, array_at}
use Rattle.hw_module.specs.Rights.{Rights, Makes}
use Rattle.hw_module.specs.declared.rows.Owner.TheVariants.{Entry}
use Rattle.service_reg.specs.declared.service.Service.{Service}
use Rattle.service_reg.specs.declared.service.Service.TheVariants.{Hazard}
use Rattle.service_ports.specs.Ports.{hazard_ports, input_shapes}
use Rattle.service_ports.specs.Registry.{AddsOffer, Offered, RegistryValue, offered_as, single}
use Rattle.service_ports.specs.declared.ports.HazardPorts.{HazardPorts}
use Rattle.plug_part.specs.Owned.{is_among}
use Rattle.plug_part.specs.Of.{tree_option}
use Rattle.plug_part.specs.Part.{PartWire}
use Rattle.plug_api.specs.Calls.{takes_of}
use Rattle.plug_build.specs.Fits.{AreApart, AreInputs, IsInput}
use Rattle.plug_build.specs.World.{World, part_in, world_of}
use Rattle.plug_build.proofs.Worlds.{builds_of}
use Rattle.plug_kinds.specs.declared.kind.Kind.TheVariants as kind
use Rattle.plug_kinds.specs.Kinds.{params_of, spec_of}
use Rattle.plug_kit.specs.Made.{MakesInputs, hazard_list}
use Rattle.plug_kit.specs.Unit.{IsOfferedAmong}
use Rattle.plug_kit.proofs.Among.{among_free, among_only, among_open, single_fits}
use Rattle.plug_kit.proofs.Bare.{input_wires}
use Rattle.plug_kit.proofs.Rows.{part_wire, reg_in, array_in, wire_in}
use Rattle.plug_hazard.specs.Builds.{IsOpenWire, a_in, b_in, hold_in, now_in}
use Rattle.plug_hazard.specs.Found.{plain_row}
use Rattle.plug_hazard.proofs.Early.{MakesWire, a_is_least, a_stays, b_stays, all_makes, apart_a, apart_b, b_behind_a, behind_old, only_these, wire_a_in, wire_b_in}
use Rattle.plug_hazard.proofs.plugin.HazardPlugin.early.Goals as goal

-- the entry stays while it makes its things
module _ (c : goal.After-hazard_nets-arg-1) where
  same_b : c.wire-wire_b.new.self.entry ≡ c.args.b.now.entry
  same_b = c.wire-wire_b.ensures.entry ∙ c.wire-wire_a.ensures.entry

  same : c.hazard_inputs-wires.new.b.entry ≡ c.args.b.now.entry
  same = c.hazard_inputs-wires.ensures.entry ∙ same_b

  first : MakesWire c.args.b.now.entry c.args.b.now.design c.wire-wire_a.new.self.design c.wire-wire_a.result
  first = record { number = c.wire-wire_a.ensures.number; count = c.wire-wire_a.ensures.count; made = c.wire-wire_a.ensures.made; makes = c.wire-wire_a.ensures.makes }

  second : MakesWire c.args.b.now.entry c.wire-wire_a.new.self.design c.wire-wire_b.new.self.design c.wire-wire_b.result
  second = subst (λ (e : ℕ). MakesWire e c.wire-wire_a.new.self.design c.wire-wire_b.new.self.design c.wire-wire_b.result) c.wire-wire_a.ensures.entry
      (record { number = c.wire-wire_b.ensures.number; count = c.wire-wire_b.ensures.count; made = c.wire-wire_b.ensures.made; makes = c.wire-wire_b.ensures.makes })

  made : MakesInputs c.args.b.now.entry c.wire-wire_b.new.self.design c.hazard_inputs-wires.new.b.design (hazard_list c.hazard_inputs-wires.result) (input_shapes Hazard)
  made = subst (λ (e : ℕ). MakesInputs e c.wire-wire_b.new.self.design c.hazard_inputs-wires.new.b.design (hazard_list c.hazard_inputs-wires.result) (input_shapes Hazard)) same_b
      c.hazard_inputs-wires.ensures.made

  a_in_mid : IsInput c.hazard_inputs-wires.new.b.design c.hazard_inputs-wires.new.b.entry c.wire-wire_a.result (32, 3)
  a_in_mid = subst (λ (e : ℕ). IsInput c.hazard_inputs-wires.new.b.design e c.wire-wire_a.result (32, 3)) (sym same) (wire_a_in _ _ _ _ _ _ _ _ first second made)

  b_in_mid : IsInput c.hazard_inputs-wires.new.b.design c.hazard_inputs-wires.new.b.entry c.wire-wire_b.result (32, 3)
  b_in_mid = subst (λ (e : ℕ). IsInput c.hazard_inputs-wires.new.b.design e c.wire-wire_b.result (32, 3)) (sym same) (wire_b_in _ _ _ _ _ _ _ _ first second made)

  inputs_in_mid : AreInputs c.hazard_inputs-wires.new.b.design c.hazard_inputs-wires.new.b.entry (hazard_list c.hazard_inputs-wires.result) (input_shapes Hazard)
  inputs_in_mid = subst (λ (e : ℕ). AreInputs c.hazard_inputs-wires.new.b.design e (hazard_list c.hazard_inputs-wires.result) (input_shapes Hazard)) (sym same) made.inputs

pub hazard_nets-ports-requires-clause-inputs : goal.hazard_nets-ports-requires-clause-inputs
hazard_nets-ports-requires-clause-inputs c = inputs_in_mid c

pub hazard_nets-ports-requires-clause-wire_a : goal.hazard_nets-ports-requires-clause-wire_a
hazard_nets-ports-requires-clause-wire_a c = a_in_mid c

pub hazard_nets-ports-requires-clause-wire_b : goal.hazard_nets-ports-requires-clause-wire_b
hazard_nets-ports-requires-clause-wire_b c = b_in_mid c

-- Hazard is not offered yet
none_of : (o : Option (ℕ × HazardPorts)) → offered_as hazard_ports o ≡ None → o ≡ None
none_of None e = refl
none_of (Some q) e = absurd (let n : ◌≡◌ {A = Option Offered} (Some (record { by = q.0; ports = hazard_ports q.1 })) None = e in cc)

pub offer_hazard-requires : goal.offer_hazard-requires
offer_hazard-requires c = record { «open» = none_of c.args.reg.now.hazard (c.requires.unoffered Hazard refl) }

-- ---- what was built

abbrev old-world : goal.After-offer_hazard → World
old-world c = world_of c.args.pool.now c.args.b.now c.args.reg.now

abbrev new-world : goal.After-offer_hazard → World
new-world c = world_of c.hazard_nets-ports.new.pool c.hazard_inputs-wires.new.b c.offer_hazard.new.self

module _ (c : goal.After-offer_hazard) where
  by : c.entry.result ≡ c.args.b.now.entry
  by = c.entry.ensures ∙ c.hazard_inputs-wires.ensures.entry ∙ c.wire-wire_b.ensures.entry ∙ c.wire-wire_a.ensures.entry

  base_is : c.wire-wire_b.new.self.entry ≡ c.args.b.now.entry
  base_is = c.wire-wire_b.ensures.entry ∙ c.wire-wire_a.ensures.entry

  one : MakesWire c.args.b.now.entry c.args.b.now.design c.wire-wire_a.new.self.design c.wire-wire_a.result
  one = record { number = c.wire-wire_a.ensures.number; count = c.wire-wire_a.ensures.count; made = c.wire-wire_a.ensures.made; makes = c.wire-wire_a.ensures.makes }

  two : MakesWire c.args.b.now.entry c.wire-wire_a.new.self.design c.wire-wire_b.new.self.design c.wire-wire_b.result
  two = subst (λ (e : ℕ). MakesWire e c.wire-wire_a.new.self.design c.wire-wire_b.new.self.design c.wire-wire_b.result) c.wire-wire_a.ensures.entry
      (record { number = c.wire-wire_b.ensures.number; count = c.wire-wire_b.ensures.count; made = c.wire-wire_b.ensures.made; makes = c.wire-wire_b.ensures.makes })

  inputs : MakesInputs c.args.b.now.entry c.wire-wire_b.new.self.design c.hazard_inputs-wires.new.b.design (hazard_list c.hazard_inputs-wires.result) (input_shapes Hazard)
  inputs = subst (λ (e : ℕ). MakesInputs e c.wire-wire_b.new.self.design c.hazard_inputs-wires.new.b.design (hazard_list c.hazard_inputs-wires.result) (input_shapes Hazard)) base_is
      c.hazard_inputs-wires.ensures.made

  makes : (r : Rights) → Makes (Entry c.args.b.now.entry) r c.args.b.now.design c.hazard_inputs-wires.new.b.design 18
  makes r = all_makes _ _ _ _ _ _ _ _ one two inputs r

  offered : AddsOffer Hazard c.args.b.now.entry (hazard_ports c.hazard_nets-ports.result) c.args.reg.now c.offer_hazard.new.self
  offered = subst (λ (e : ℕ). AddsOffer Hazard e (hazard_ports c.hazard_nets-ports.result) c.args.reg.now c.offer_hazard.new.self) by c.offer_hazard.ensures.adds

  among : IsOfferedAmong Hazard c.args.b.now.entry (old-world c) (new-world c) c.wire-wire_b.new.self.design c.hazard_inputs-wires.new.b.design (hazard_list c.hazard_inputs-wires.result)
      (hazard_ports c.hazard_nets-ports.result)
  among = record { nothing = c.requires.nothing.offers; made = inputs; wires = λ k l. refl; inputs = c.hazard_nets-ports.ensures.inputs; offers = offered }

  port_inputs : AreInputs c.hazard_inputs-wires.new.b.design c.args.b.now.entry (hazard_ports c.hazard_nets-ports.result).inputs (input_shapes Hazard)
  port_inputs = subst (λ (ws : List ℕ). AreInputs c.hazard_inputs-wires.new.b.design c.args.b.now.entry ws (input_shapes Hazard)) (sym c.hazard_nets-ports.ensures.inputs) inputs.inputs

  same_regs : c.hazard_inputs-wires.new.b.design.regs ≡ c.args.b.now.design.regs
  same_regs = inputs.regs ∙ c.wire-wire_b.ensures.regs ∙ c.wire-wire_a.ensures.regs

  same_arrays : c.hazard_inputs-wires.new.b.design.arrays ≡ c.args.b.now.design.arrays
  same_arrays = inputs.arrays ∙ c.wire-wire_b.ensures.arrays ∙ c.wire-wire_a.ensures.arrays

  -- a forward wire that is no input is open in the part
  open_of : (takes : Service → Bool) (k : ℕ) → wire_at c.hazard_inputs-wires.new.b.design.wires k ≡ plain_row c.args.b.now.entry → is_among k (hazard_list c.hazard_inputs-wires.result) ≡ false
      → IsOpenWire (part_in takes c.args.b.now.entry (new-world c)) k
  open_of takes k row apart =
      let free = among_free _ _ _ _ _ _ _ _ among k apart in
      part_wire takes c.args.b.now.entry (new-world c) k (ap (λ (r : WireRow). r.owner) row)
      ∙ (λ i. Some (record { width = (row i).width; level = (row i).level; driver = cond (free i) None (tree_option c.hazard_nets-ports.new.pool.nodes (row i).driver) }))

abbrev no-rights : Rights
no-rights = record { wires = λ k. false; locked = λ k. false; outs = λ k. false }

pub returns-clause-fits : goal.returns-clause-fits
returns-clause-fits c =
    let e = c.args.b.now.entry in
    let p = hazard_ports c.hazard_nets-ports.result in
    let q = c.hazard_nets-ports.new.pool in
    single_fits Hazard e 65 18 (old-world c) (new-world c) p c.requires.fits (adds_of _ _ 65 c.hazard_nets-ports.ensures.step) (makes c no-rights).grows
    (λ h. (inputs c).drivers q (c.wire-wire_b.ensures.drivers q (c.wire-wire_a.ensures.drivers q h)))
    (offered c)
    (subst (λ (x : ℕ). single c.offer_hazard.new.self Hazard ≡ Some (record { by = x; ports = p })) (by c) c.offer_hazard.ensures.single)
    (ap (λ (r : RegistryValue). r.execs) c.offer_hazard.ensures.is)
    (port_inputs c) c.hazard_nets-ports.ensures.outputs (subst AreApart (sym c.hazard_nets-ports.ensures.inputs) (inputs c).apart)
    (subst (λ (ws : List ℕ). (k : ℕ) → is_among k ws ≡ true → length c.args.b.now.design.wires ≤ k) (sym c.hazard_nets-ports.ensures.inputs)
    (behind_old _ _ _ _ _ _ _ _ (one c) (two c) (inputs c)))

pub returns-clause-adds : goal.returns-clause-adds
returns-clause-adds c = builds_of _ _ _ 65 18 (old-world c) (new-world c) (adds_of _ _ 65 c.hazard_nets-ports.ensures.step) (makes c _) (omega arith)

pub returns-clause-open : goal.returns-clause-open
returns-clause-open c = among_open _ _ _ _ _ _ _ _ (among c)

pub returns-clause-begun : goal.returns-clause-begun
unfolding place worth
returns-clause-begun c =
    let takes = takes_of (spec_of kind.Hazard (params_of c.args.self.now.state.taken)) in
    let e = c.args.b.now.entry in
    let n = c.hazard_nets-ports.ensures in
    let ports = hazard_ports c.hazard_nets-ports.result in
    let wa = c.wire-wire_a.result in
    let wb = c.wire-wire_b.result in
    let wire = input_wires takes e (new-world c) ports.inputs (input_shapes Hazard) (port_inputs c) in
    let own = λ (k : ℕ) (row : PartWire) (is : (part_in takes e (new-world c)).wires k ≡ Some row). wire_in takes e (new-world c) k row is in
    let flag = c.flag-bypass.ensures in
    record {
      ports = _;
      wire_a = wa;
      wire_b = wb;
      over = record {
        only = among_only _ _ _ _ _ _ _ _ (among c) takes;
        writes = (wire 0 (omega arith), wire 4 (omega arith), wire 8 (omega arith));
        ready = (wire 2 (omega arith), wire 6 (omega arith), wire 10 (omega arith));
        uses_a = wire 14 (omega arith);
        uses_b = wire 15 (omega arith);
        hold = λ env. n.hold env ∙ (λ i. hold_in (λ k. flag i) (now_in (record { inputs = sym n.inputs i; outputs = [] }) wa wb env));
        a = λ env. n.a env ∙ (λ i. a_in (λ k. flag i) (now_in (record { inputs = sym n.inputs i; outputs = [] }) wa wb env));
        b = λ env. n.b env ∙ (λ i. b_in (λ k. flag i) (now_in (record { inputs = sym n.inputs i; outputs = [] }) wa wb env));
      };
      least = λ k row is. a_is_least _ _ _ _ _ _ _ _ (one c) (two c) (inputs c) c.requires.nothing.wires k (own k row is);
      next = b_behind_a _ _ _ _ _ _ _ _ (one c) (two c) (inputs c);
      open_a = open_of c takes wa (a_stays _ _ _ _ _ _ _ _ (one c) (two c) (inputs c)) (apart_a _ _ _ _ _ _ _ _ (one c) (two c) (inputs c));
      open_b = open_of c takes wb (b_stays _ _ _ _ _ _ _ _ (one c) (two c) (inputs c)) (apart_b _ _ _ _ _ _ _ _ (one c) (two c) (inputs c));
      apart_a = subst (λ (ws : List ℕ). is_among wa ws ≡ false) (sym n.inputs) (apart_a _ _ _ _ _ _ _ _ (one c) (two c) (inputs c));
      apart_b = subst (λ (ws : List ℕ). is_among wb ws ≡ false) (sym n.inputs) (apart_b _ _ _ _ _ _ _ _ (one c) (two c) (inputs c));
      bare = record {
        only = λ k row is. subst (λ (ws : List ℕ). is_among k (wa ∷ wb ∷ ws) ≡ true) (sym n.inputs)
            (only_these _ _ _ _ _ _ _ _ (one c) (two c) (inputs c) c.requires.nothing.wires k (own k row is));
        regs = λ k row is. c.requires.nothing.regs k (ap (λ (rs : List RegRow). (reg_at rs k).owner) (sym (same_regs c)) ∙ (reg_in takes e (new-world c) k row is).0);
        arrays = λ k row is. c.requires.nothing.arrays k (ap (λ (rs : List ArrayRow). (array_at rs k).owner) (sym (same_arrays c)) ∙ (array_in takes e (new-world c) k row is).0);
      };
    }
