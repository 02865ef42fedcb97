use Rattle.std.proofs.Common.{◌≡◌, ◌∙◌, ℕ, ◌+◌, ◌*◌, ◌<◌, List, arith, refl, ap, sym, subst, false, Option, Some, None}
use Rattle.hw_gates.specs.Places.{place, worth}
use Rattle.hw_gates.proofs.Steps.{adds_of}
use Rattle.hw_module.specs.declared.rows.Owner.TheVariants.{Entry}
use Rattle.hw_module.specs.declared.rows.RegRow.{RegRow}
use Rattle.hw_module.specs.declared.rows.ArrayRow.{ArrayRow}
use Rattle.hw_expr.specs.declared.net.Net.{Net}
use Rattle.std.proofs.lemmas.Bool.{or_left}
use Rattle.plug_part.specs.Owned.{is_fetch_out}
use Rattle.service_ports.specs.Registry.{RegistryValue}
use Rattle.hw_module.specs.Rows.{reg_at, array_at, out_at}
use Rattle.hw_module.specs.Rights.{Rights, Makes}
use Rattle.hw_module.proofs.Makes.{makes_then}
use Rattle.service_reg.specs.declared.service.Service.TheVariants.{Fetch, DataBus}
use Rattle.service_ports.specs.Ports.{fetch_ports, input_shapes}
use Rattle.service_ports.specs.Registry.{AddsOffer}
use Rattle.plug_api.specs.Calls.{takes_of}
use Rattle.plug_build.specs.Fits.{AreInputs, OfferFits}
use Rattle.plug_build.specs.World.{World, world_of}
use Rattle.plug_build.proofs.Worlds.{builds_of, inputs_grown, offered_fits, world_fits}
use Rattle.plug_kinds.specs.declared.kind.Kind.TheVariants as kind
use Rattle.plug_kinds.specs.Kinds.{params_of, spec_of}
use Rattle.plug_kit.specs.Made.{fetch_list}
use Rattle.plug_kit.specs.Unit.{IsOffered}
use Rattle.plug_kit.proofs.Bare.{its_own, only_offer}
use Rattle.plug_kit.proofs.Unit.{offered_apart, offered_new, offered_open, offered_wires}
use Rattle.plug_kit.proofs.Rows.{array_in, reg_in}
use Rattle.plug_fetch.specs.Begun.{depth_of}
use Rattle.plug_fetch.specs.Registers.{IsOpenCommand, IsOpenPlace}
use Rattle.plug_fetch.proofs.Driven.{open_at}
use Rattle.service_ports.specs.declared.ports.FetchPorts.{FetchPorts}
use Rattle.service_ports.specs.Registry.{offered_as}
use Rattle.plug_fetch.proofs.Begun.{only_new, outs_open, part_open}
use Rattle.plug_fetch.proofs.plugin.FetchPlugin.early.Goals as goal
use Rattle.plug_fetch.proofs.plugin.FetchPlugin.early.Goals.{After-offer_fetch}

no-rights : Rights
no-rights = record { wires = λ k. false; locked = λ k. false; outs = λ k. false }

pub fetch_nets-ports-requires-clause-place : goal.fetch_nets-ports-requires-clause-place
fetch_nets-ports-requires-clause-place c =
    let m = c.make_regs-first.ensures in
    let first : ℕ = c.make_regs-first.result in
    let d = c.make_regs-first.new.b.design in
    open_at d c.make_regs-first.new.b.entry (first + 4 * 0) first (omega arith)
    (subst (λ x. IsOpenPlace d x (first + 4 * 0)) (sym m.makes.entry) (m.places 0 (let l = c.depth-depth.ensures.least in omega arith)))

not-there : (o : Option (ℕ × FetchPorts)) → offered_as fetch_ports o ≡ None → o ≡ None
not-there None e = refl
not-there (Some o) e = absurd cc

pub offer_fetch-requires : goal.offer_fetch-requires
offer_fetch-requires c = record { «open» = not-there c.args.reg.now.fetch (c.requires.unoffered Fetch refl) }

abbrev old-world : After-offer_fetch → World
old-world c = world_of c.args.pool.now c.args.b.now c.args.reg.now

abbrev new-world : After-offer_fetch → World
new-world c = world_of c.fetch_nets-ports.new.pool c.make_regs-first.new.b c.offer_fetch.new.self

made-all : (c : After-offer_fetch) (r : Rights) → Makes (Entry c.args.b.now.entry) r c.args.b.now.design c.make_regs-first.new.b.design (4 * c.depth-depth.result + 9)
made-all c r =
    makes_then (Entry c.args.b.now.entry) r _ _ _ 4 (4 * c.depth-depth.result + 5) (4 * c.depth-depth.result + 9) (c.fetch_inputs-wires.ensures.made.makes r)
    (subst (λ (e : ℕ). Makes (Entry e) r c.fetch_inputs-wires.new.b.design c.make_regs-first.new.b.design (4 * c.depth-depth.result + 5)) c.fetch_inputs-wires.ensures.entry (c.make_regs-first.ensures.makes.makes r)) (omega arith)

by-entry : (c : After-offer_fetch) → c.entry.result ≡ c.args.b.now.entry
by-entry c = c.entry.ensures ∙ (c.make_regs-first.ensures.makes.entry ∙ c.fetch_inputs-wires.ensures.entry)

offered : (c : After-offer_fetch) → IsOffered Fetch c.args.b.now.entry (old-world c) (new-world c) c.fetch_inputs-wires.new.b.design (fetch_list c.fetch_inputs-wires.result) (fetch_ports c.fetch_nets-ports.result)
offered c = record {
  nothing = c.requires.nothing;
  made = c.fetch_inputs-wires.ensures.made;
  wires = c.make_regs-first.ensures.makes.wires;
  inputs = c.fetch_nets-ports.ensures.inputs;
  offers = subst (λ (b : ℕ). AddsOffer Fetch b (fetch_ports c.fetch_nets-ports.result) c.args.reg.now c.offer_fetch.new.self) (by-entry c) c.offer_fetch.ensures.adds;
}

inputs-there : (c : After-offer_fetch) → AreInputs c.make_regs-first.new.b.design c.args.b.now.entry (fetch_ports c.fetch_nets-ports.result).inputs (input_shapes Fetch)
inputs-there c =
    subst (λ (ws : List ℕ). AreInputs c.make_regs-first.new.b.design c.args.b.now.entry ws (input_shapes Fetch)) (sym c.fetch_nets-ports.ensures.inputs)
    (inputs_grown c.fetch_inputs-wires.new.b.design c.make_regs-first.new.b.design (4 * c.depth-depth.result + 5) (c.make_regs-first.ensures.makes.makes no-rights).grows
    c.args.b.now.entry (fetch_list c.fetch_inputs-wires.result) (input_shapes Fetch) c.fetch_inputs-wires.ensures.made.inputs)

pub returns-clause-fits : goal.returns-clause-fits
returns-clause-fits c =
    let q = c.fetch_nets-ports.new.pool in
    let d = c.make_regs-first.new.b.design in
    let p = c.fetch_nets-ports.result in
    let fit : OfferFits d q Fetch c.entry.result (fetch_ports p) = record {
      inputs = subst (λ (b : ℕ). AreInputs d b (fetch_ports p).inputs (input_shapes Fetch)) (sym (by-entry c)) (inputs-there c);
      outputs = c.fetch_nets-ports.ensures.outputs;
      apart = offered_apart _ _ _ _ _ _ _ (offered c);
    } in
    world_fits (old-world c) (new-world c) 4 (4 * c.depth-depth.result + 9) c.requires.fits (adds_of _ _ 4 c.fetch_nets-ports.ensures.step) (made-all c no-rights).grows
    (λ f. c.make_regs-first.ensures.makes.drivers q (c.fetch_inputs-wires.ensures.made.drivers q f))
    (λ f. offered_fits d q c.args.reg.now c.offer_fetch.new.self f Fetch (record { by = c.entry.result; ports = fetch_ports p }) c.offer_fetch.ensures.single c.offer_fetch.ensures.adds.singles
    (ap (λ (r : RegistryValue). r.execs) c.offer_fetch.ensures.is) fit
    (offered_new _ _ _ _ _ _ _ (offered c) c.requires.fits))

pub returns-clause-adds : goal.returns-clause-adds
returns-clause-adds c = builds_of _ _ _ 4 (4 * c.depth-depth.result + 9) _ _ (adds_of _ _ 4 c.fetch_nets-ports.ensures.step) (made-all c _) (let m = c.depth-depth.ensures.most in omega arith)

pub returns-clause-open : goal.returns-clause-open
returns-clause-open c = offered_open _ _ _ _ _ _ _ (offered c)

pub returns-clause-begun : goal.returns-clause-begun
unfolding place worth
returns-clause-begun c =
    let takes = takes_of (spec_of kind.Fetch (params_of c.args.self.now.state.taken)) in
    let e = c.args.b.now.entry in
    let n = c.fetch_nets-ports.ensures in
    let m = c.make_regs-first.ensures in
    let made = c.fetch_inputs-wires.ensures.made in
    let new = new-world c in
    let first : ℕ = c.make_regs-first.result in
    let depth : ℕ = depth_of (params_of c.args.self.now.state.taken) in
    let many : c.depth-depth.result ≡ depth = c.depth-depth.ensures.is in
    let by = c.fetch_inputs-wires.ensures.entry in
    let zero-place : first ≡ first + 4 * 0 = omega arith in
    let at : (i : ℕ) → i < depth → IsOpenPlace new.design e (first + 4 * i) = λ i l. subst (λ x. IsOpenPlace new.design x (first + 4 * i)) by (m.places i (omega arith)) in
    let command = subst (λ x. IsOpenCommand new.design e (first + 4 * x) c.args.plan.now.shape.reset_pc) many (subst (λ x. IsOpenCommand new.design x (first + 4 * c.depth-depth.result) c.args.plan.now.shape.reset_pc) by m.command) in
    record {
      first = first;
      ports = _;
      only = only_offer _ _ _ _ _ _ _ (offered c) takes;
      wires = offered_wires _ _ _ _ _ _ _ (offered c) takes;
      regs = λ k row h.
          let own = (reg_in takes e new k row h).0 in
          let r = only_new e c.fetch_inputs-wires.new.b.design new.design (4 * c.depth-depth.result + 5) m.makes.count m.makes.before
          (λ j o. c.requires.nothing.regs j (ap (λ (rs : List RegRow). (reg_at rs j).owner) (sym made.regs) ∙ o)) k own in
          let f = m.first in
          (omega arith, omega arith);
      arrays = λ k row h. c.requires.nothing.arrays k (ap (λ (rs : List ArrayRow). (array_at rs k).owner) (sym (m.makes.arrays ∙ made.arrays)) ∙ (array_in takes e new k row h).0);
      outs = λ q. outs_open takes e new q (its_own _ _ _ _ _ _ _ (offered c) DataBus)
          (λ f. ap (λ (os : List (Option Net)). out_at os q) (m.makes.outs ∙ made.outs) ∙ c.requires.outs q (or_left (is_fetch_out q) false f));
      held = λ i l. part_open takes e new _ 1 (Some 0) (at i l).held;
      pc = λ i l. part_open takes e new _ 32 None (at i l).pc;
      word = λ i l. part_open takes e new _ 32 None (at i l).word;
      error = λ i l. part_open takes e new _ 1 None (at i l).error;
      given = part_open takes e new _ 1 (Some 0) command.given;
      owed = part_open takes e new _ 1 (Some 0) command.owed;
      dropped = part_open takes e new _ 1 (Some 0) command.dropped;
      address = part_open takes e new _ 32 None command.address;
      next_pc = part_open takes e new _ 32 (Some c.args.plan.now.shape.reset_pc) command.next_pc;
      outputs = refl;
      valid = λ env. n.valid env ∙ ap env.regs zero-place;
      offers_pc = λ env. n.pc env ∙ ap (λ k. env.regs (k + 1)) zero-place;
      offers_word = λ env. n.word env ∙ ap (λ k. env.regs (k + 2)) zero-place;
      offers_error = λ env. n.error env ∙ ap (λ k. env.regs (k + 3)) zero-place;
    }
