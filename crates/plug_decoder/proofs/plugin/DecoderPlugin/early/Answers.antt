use Rattle.std.proofs.Common.{◌≡◌, ◌∙◌, ℕ, ◌+◌, ◌*◌, List, length, get_or, arith, ap, sym, subst, refl, None, Some, Option}
use Rattle.hw_pool.specs.Meaning.{Env}
use Rattle.hw_gates.specs.Places.{place, worth}
use Rattle.hw_gates.proofs.Steps.{adds_of}
use Rattle.isa_table.specs.declared.claim.Claim.{Claim}
use Rattle.service_reg.specs.declared.service.Service.TheVariants.{Decoder}
use Rattle.service_ports.specs.declared.ports.DecoderPorts.{DecoderPorts}
use Rattle.service_ports.specs.Ports.{decoder_ports, input_shapes}
use Rattle.service_ports.specs.Registry.{AddsOffer, RegistryValue, offered_as}
use Rattle.plug_build.specs.Fits.{AreInputs}
use Rattle.plug_build.specs.World.{World, world_of}
use Rattle.plug_api.specs.Calls.{takes_of}
use Rattle.plug_kinds.specs.declared.kind.Kind.TheVariants as kind
use Rattle.plug_kinds.specs.Kinds.{spec_of, params_of}
use Rattle.plug_kit.specs.Made.{decoder_list}
use Rattle.plug_kit.specs.Plain.{IsPlain}
use Rattle.plug_kit.proofs.Plain.{plain_fits, plain_builds, plain_open, plain_only, plain_bare}
use Rattle.plug_kit.proofs.Bare.{input_wires}
use Rattle.plug_decoder.specs.Machine.{flag_of, has_value, legal_of, row_of, unit_of, uses_a, uses_b, writes_of}
use Rattle.plug_decoder.proofs.plugin.DecoderPlugin.early.Goals as goal

not_offered : (o : Option (ℕ × DecoderPorts)) → offered_as decoder_ports o ≡ None → o ≡ None
not_offered None e = refl
not_offered (Some o) e = absurd (cc)

pub offer_decoder-requires : goal.offer_decoder-requires
offer_decoder-requires c = record { «open» = not_offered c.args.reg.now.decoder (c.requires.unoffered Decoder refl) }

abbrev old-world : goal.After-offer_decoder → World
old-world c = world_of c.args.pool.now c.args.b.now c.args.reg.now

abbrev new-world : goal.After-offer_decoder → World
new-world c = world_of c.decoder_nets-ports.new.pool c.decoder_inputs-inputs.new.b c.offer_decoder.new.self

-- the claims and owners are the plan's
rows-are : (c : goal.After-offer_decoder) → c.as_slice-rows.result.now ≡ c.args.plan.now.rows
rows-are c = c.as_slice-rows.ensures.value ∙ c.items.ensures

owners-are : (c : goal.After-offer_decoder) → c.as_slice-owners.result.now ≡ c.args.plan.now.owners
owners-are c = c.as_slice-owners.ensures.value ∙ c.items-2.ensures

-- what was built
plain : (c : goal.After-offer_decoder) → IsPlain Decoder c.args.b.now.entry (14 * length c.as_slice-rows.result.now + 23) (old-world c) (new-world c) (decoder_list c.decoder_inputs-inputs.result) (decoder_ports c.decoder_nets-ports.result)
plain c =
    let by : c.entry.result ≡ c.args.b.now.entry = c.entry.ensures ∙ c.decoder_inputs-inputs.ensures.entry in
    let p = decoder_ports c.decoder_nets-ports.result in
    record {
      fits = c.requires.fits;
      nothing = c.requires.nothing;
      made = c.decoder_inputs-inputs.ensures.made;
      adds = adds_of _ _ _ c.decoder_nets-ports.ensures.step;
      inputs = c.decoder_nets-ports.ensures.inputs;
      outputs = c.decoder_nets-ports.ensures.outputs;
      is = c.offer_decoder.ensures.single ∙ ap (λ (e : ℕ). Some (record { by = e; ports = p })) by;
      execs = ap (λ (r : RegistryValue). r.execs) c.offer_decoder.ensures.is;
      offers = subst (λ (e : ℕ). AddsOffer Decoder e p c.args.reg.now c.offer_decoder.new.self) by c.offer_decoder.ensures.adds;
    }

pub returns-clause-fits : goal.returns-clause-fits
returns-clause-fits c = plain_fits _ _ _ _ _ _ _ (plain c)

pub returns-clause-adds : goal.returns-clause-adds
returns-clause-adds c =
    let many : length c.as_slice-rows.result.now ≡ length c.args.plan.now.rows = ap (λ (rows : List Claim). length rows) (rows-are c) in
    plain_builds _ _ _ _ _ _ _ (plain c) _ _ (omega (arith, many))

pub returns-clause-open : goal.returns-clause-open
returns-clause-open c = plain_open _ _ _ _ _ _ _ (plain c)

pub returns-clause-begun : goal.returns-clause-begun
unfolding place worth
returns-clause-begun c =
    let n = c.decoder_nets-ports.ensures in
    let takes = takes_of (spec_of kind.Decoder (params_of c.args.self.now.state.taken)) in
    let ports = decoder_ports c.decoder_nets-ports.result in
    let inputs = subst (λ (ws : List ℕ). AreInputs c.decoder_inputs-inputs.new.b.design c.args.b.now.entry ws (input_shapes Decoder)) (sym n.inputs) c.decoder_inputs-inputs.ensures.made.inputs in
    let u = plain c in
    let rows = rows-are c in
    let owners = owners-are c in
    let word = λ (env : Env). ap (λ (ws : List ℕ). env.wires (get_or ws 0 0)) (sym n.inputs) in
    record {
      builds = record {
        ports = _;
        only = plain_only _ _ _ _ _ _ _ u takes;
        word = input_wires takes c.args.b.now.entry (new-world c) ports.inputs (input_shapes Decoder) inputs 0 (omega arith);
        legal = λ env. n.legal env ∙ (λ i. legal_of (rows i) (word env i));
        row = λ env. n.row env ∙ (λ i. row_of (rows i) (word env i));
        unit = λ env. n.unit env ∙ (λ i. unit_of (rows i) (owners i) (word env i));
        uses_a = λ env. n.uses_a env ∙ (λ i. flag_of uses_a (rows i) (word env i));
        uses_b = λ env. n.uses_b env ∙ (λ i. flag_of uses_b (rows i) (word env i));
        writes = λ env. n.writes env ∙ (λ i. writes_of (word env i) (flag_of has_value (rows i) (word env i)));
      };
      bare = plain_bare _ _ _ _ _ _ _ u takes;
    }
