use Rattle.std.proofs.Common.{◌≡◌, ◌∙◌, ℕ, List, get_or, arith, ap, sym, subst, refl, None, Some, Option}
use Rattle.hw_pool.specs.Meaning.{Env}
use Rattle.hw_gates.specs.Places.{place, worth}
use Rattle.hw_gates.proofs.Steps.{adds_of}
use Rattle.service_reg.specs.declared.service.Service.TheVariants.{Predict}
use Rattle.service_ports.specs.declared.ports.PredictPorts.{PredictPorts}
use Rattle.service_ports.specs.Ports.{predict_ports}
use Rattle.service_ports.specs.Registry.{AddsOffer, RegistryValue, offered_as}
use Rattle.plug_build.specs.World.{World, world_of}
use Rattle.plug_api.specs.Calls.{takes_of}
use Rattle.plug_kinds.specs.declared.kind.Kind.TheVariants as kind
use Rattle.plug_kinds.specs.Kinds.{spec_of, params_of}
use Rattle.plug_kit.specs.Made.{predict_list}
use Rattle.plug_kit.specs.Plain.{IsPlain}
use Rattle.plug_kit.proofs.Plain.{plain_fits, plain_builds, plain_open, plain_only, plain_bare}
use Rattle.plug_predict.specs.Formula.{predict_of}
use Rattle.plug_predict.proofs.Formula.{guess_is}
use Rattle.plug_predict.proofs.plugin.PredictPlugin.early.Goals as goal

not_offered : (o : Option (ℕ × PredictPorts)) → offered_as predict_ports o ≡ None → o ≡ None
not_offered None e = refl
not_offered (Some o) e = absurd (cc)

pub offer_predict-requires : goal.offer_predict-requires
offer_predict-requires c = record { «open» = not_offered c.args.reg.now.predict (c.requires.unoffered Predict refl) }

abbrev old-world : goal.After-offer_predict → World
old-world c = world_of c.args.pool.now c.args.b.now c.args.reg.now

abbrev new-world : goal.After-offer_predict → World
new-world c = world_of c.predict_nets-ports.new.pool c.predict_inputs-inputs.new.b c.offer_predict.new.self

-- what was built
plain : (c : goal.After-offer_predict) → IsPlain Predict c.args.b.now.entry 54 (old-world c) (new-world c) (predict_list c.predict_inputs-inputs.result) (predict_ports c.predict_nets-ports.result)
plain c =
    let by : c.entry.result ≡ c.args.b.now.entry = c.entry.ensures ∙ c.predict_inputs-inputs.ensures.entry in
    let p = predict_ports c.predict_nets-ports.result in
    record {
      fits = c.requires.fits;
      nothing = c.requires.nothing;
      made = c.predict_inputs-inputs.ensures.made;
      adds = adds_of _ _ 54 c.predict_nets-ports.ensures.step;
      inputs = c.predict_nets-ports.ensures.inputs;
      outputs = c.predict_nets-ports.ensures.outputs;
      is = c.offer_predict.ensures.single ∙ ap (λ (e : ℕ). Some (record { by = e; ports = p })) by;
      execs = ap (λ (r : RegistryValue). r.execs) c.offer_predict.ensures.is;
      offers = subst (λ (e : ℕ). AddsOffer Predict e p c.args.reg.now c.offer_predict.new.self) by c.offer_predict.ensures.adds;
    }

pub returns-clause-fits : goal.returns-clause-fits
returns-clause-fits c = plain_fits _ _ _ _ _ _ _ (plain c)

pub returns-clause-adds : goal.returns-clause-adds
returns-clause-adds c = plain_builds _ _ _ _ _ _ _ (plain c) _ _ (omega arith)

pub returns-clause-open : goal.returns-clause-open
returns-clause-open c = plain_open _ _ _ _ _ _ _ (plain c)

pub returns-clause-begun : goal.returns-clause-begun
unfolding place worth
returns-clause-begun c =
    let n = c.predict_nets-ports.ensures in
    let takes = takes_of (spec_of kind.Predict (params_of c.args.self.now.state.taken)) in
    let u = plain c in
    let w = c.predict_inputs-inputs.result in
    let at = λ (env : Env) (k : ℕ). ap (λ (ws : List ℕ). env.wires (get_or ws k 0)) (sym n.inputs) in
    record {
      builds = record {
        ports = _;
        only = plain_only _ _ _ _ _ _ _ u takes;
        next = λ env. n.next env ∙ guess_is c.args.self.now.style (env.wires w.pc) (env.wires w.word) ∙ (λ i. predict_of (c.args.self.now.has_style i) (at env 0 i) (at env 1 i));
      };
      bare = plain_bare _ _ _ _ _ _ _ u takes;
    }
