use Rattle.std.proofs.Common.{◌≡◌, ◌∙◌, ℕ, ◌+◌, ◌-◌, ◌<◌, List, arith, refl, ap, sym, subst, false, Option, Some, None}
use Rattle.hw_gates.specs.Places.{place, worth}
use Rattle.hw_gates.proofs.Steps.{adds_of}
use Rattle.hw_module.specs.declared.rows.Owner.TheVariants.{Entry}
use Rattle.hw_module.specs.declared.rows.RegRow.{RegRow}
use Rattle.hw_module.specs.declared.rows.ArrayRow.{ArrayRow}
use Rattle.hw_expr.specs.declared.net.Net.{Net}
use Rattle.std.proofs.lemmas.Bool.{or_left}
use Rattle.plug_part.specs.Owned.{is_fetch_out}
use Rattle.service_ports.specs.Registry.{RegistryValue}
use Rattle.hw_module.specs.Rows.{reg_at, array_at, out_at}
use Rattle.hw_module.specs.Rights.{Rights, Makes}
use Rattle.hw_module.proofs.Makes.{makes_then}
use Rattle.service_reg.specs.declared.service.Service.TheVariants.{Fetch, DataBus}
use Rattle.service_ports.specs.Ports.{fetch_ports, input_shapes}
use Rattle.service_ports.specs.Registry.{AddsOffer}
use Rattle.plug_api.specs.Calls.{takes_of}
use Rattle.plug_build.specs.Fits.{AreInputs, OfferFits}
use Rattle.plug_build.specs.World.{World, world_of}
use Rattle.plug_build.proofs.Worlds.{builds_of, inputs_grown, offered_fits, world_fits}
use Rattle.plug_kinds.specs.declared.kind.Kind.TheVariants as kind
use Rattle.plug_kinds.specs.Kinds.{params_of, spec_of}
use Rattle.plug_kit.specs.Made.{fetch_list}
use Rattle.plug_kit.specs.Unit.{IsOffered}
use Rattle.plug_kit.proofs.Bare.{its_own, only_offer}
use Rattle.plug_kit.proofs.Unit.{offered_apart, offered_new, offered_open, offered_wires}
use Rattle.plug_kit.proofs.Rows.{array_in, reg_in}
use Rattle.plug_icache.specs.Begun.{AreOpen}
use Rattle.plug_icache.specs.Registers.{AreOpenArrays, AreOpenRegs, IsOpenFour}
use Rattle.plug_icache.specs.Sizes.{lines_of, log_of, words_of}
use Rattle.hw_module.specs.Rows.{ModuleValue}
use Rattle.service_ports.specs.declared.ports.FetchPorts.{FetchPorts}
use Rattle.service_ports.specs.Registry.{offered_as}
use Rattle.plug_icache.proofs.Fours.{all_stay, regs_stay}
use Rattle.plug_build.specs.World.{part_in}
use Rattle.plug_icache.proofs.Begun.{only_new, only_new_arrays, outs_open, array_open, part_open}
use Rattle.plug_icache.proofs.plugin.IcachePlugin.early.Goals as goal
use Rattle.plug_icache.proofs.plugin.IcachePlugin.early.Goals.{After-offer_fetch}

no-rights : Rights
no-rights = record { wires = λ k. false; locked = λ k. false; outs = λ k. false }

not-there : (o : Option (ℕ × FetchPorts)) → offered_as fetch_ports o ≡ None → o ≡ None
not-there None e = refl
not-there (Some o) e = absurd cc

pub offer_fetch-requires : goal.offer_fetch-requires
offer_fetch-requires c = record { «open» = not-there c.args.reg.now.fetch (c.requires.unoffered Fetch refl) }

abbrev old-world : After-offer_fetch → World
old-world c = world_of c.args.pool.now c.args.b.now c.args.reg.now

abbrev new-world : After-offer_fetch → World
new-world c = world_of c.fetch_nets-ports.new.pool c.make_arrays-tags.new.b c.offer_fetch.new.self

-- registers and arrays
things-made : (c : After-offer_fetch) (r : Rights) → Makes (Entry c.args.b.now.entry) r c.fetch_inputs-wires.new.b.design c.make_arrays-tags.new.b.design 18
things-made c r =
    makes_then (Entry c.args.b.now.entry) r c.fetch_inputs-wires.new.b.design c.make_regs-first.new.b.design c.make_arrays-tags.new.b.design 16 2 18
    (subst (λ (e : ℕ). Makes (Entry e) r c.fetch_inputs-wires.new.b.design c.make_regs-first.new.b.design 16) c.fetch_inputs-wires.ensures.entry (c.make_regs-first.ensures.makes.makes r))
    (subst (λ (e : ℕ). Makes (Entry e) r c.make_regs-first.new.b.design c.make_arrays-tags.new.b.design 2) (c.make_regs-first.ensures.makes.entry ∙ c.fetch_inputs-wires.ensures.entry) (c.make_arrays-tags.ensures.makes.makes r))
    (omega arith)

made-all : (c : After-offer_fetch) (r : Rights) → Makes (Entry c.args.b.now.entry) r c.args.b.now.design c.make_arrays-tags.new.b.design 22
made-all c r = makes_then (Entry c.args.b.now.entry) r _ _ _ 4 18 22 (c.fetch_inputs-wires.ensures.made.makes r) (things-made c r) (omega arith)

by-entry : (c : After-offer_fetch) → c.entry.result ≡ c.args.b.now.entry
by-entry c = c.entry.ensures ∙ (c.make_arrays-tags.ensures.makes.entry ∙ (c.make_regs-first.ensures.makes.entry ∙ c.fetch_inputs-wires.ensures.entry))

offered : (c : After-offer_fetch) → IsOffered Fetch c.args.b.now.entry (old-world c) (new-world c) c.fetch_inputs-wires.new.b.design (fetch_list c.fetch_inputs-wires.result) (fetch_ports c.fetch_nets-ports.result)
offered c = record {
  nothing = c.requires.nothing;
  made = c.fetch_inputs-wires.ensures.made;
  wires = c.make_arrays-tags.ensures.makes.wires ∙ c.make_regs-first.ensures.makes.wires;
  inputs = c.fetch_nets-ports.ensures.inputs;
  offers = subst (λ (b : ℕ). AddsOffer Fetch b (fetch_ports c.fetch_nets-ports.result) c.args.reg.now c.offer_fetch.new.self) (by-entry c) c.offer_fetch.ensures.adds;
}

inputs-there : (c : After-offer_fetch) → AreInputs c.make_arrays-tags.new.b.design c.args.b.now.entry (fetch_ports c.fetch_nets-ports.result).inputs (input_shapes Fetch)
inputs-there c =
    subst (λ (ws : List ℕ). AreInputs c.make_arrays-tags.new.b.design c.args.b.now.entry ws (input_shapes Fetch)) (sym c.fetch_nets-ports.ensures.inputs)
    (inputs_grown c.fetch_inputs-wires.new.b.design c.make_arrays-tags.new.b.design 18 (things-made c no-rights).grows
    c.args.b.now.entry (fetch_list c.fetch_inputs-wires.result) (input_shapes Fetch) c.fetch_inputs-wires.ensures.made.inputs)

pub returns-clause-fits : goal.returns-clause-fits
returns-clause-fits c =
    let q = c.fetch_nets-ports.new.pool in
    let d = c.make_arrays-tags.new.b.design in
    let p = c.fetch_nets-ports.result in
    let fit : OfferFits d q Fetch c.entry.result (fetch_ports p) = record {
      inputs = subst (λ (b : ℕ). AreInputs d b (fetch_ports p).inputs (input_shapes Fetch)) (sym (by-entry c)) (inputs-there c);
      outputs = c.fetch_nets-ports.ensures.outputs;
      apart = offered_apart _ _ _ _ _ _ _ (offered c);
    } in
    world_fits (old-world c) (new-world c) 4 22 c.requires.fits (adds_of _ _ 4 c.fetch_nets-ports.ensures.step) (made-all c no-rights).grows
    (λ f. c.make_arrays-tags.ensures.makes.drivers q (c.make_regs-first.ensures.makes.drivers q (c.fetch_inputs-wires.ensures.made.drivers q f)))
    (λ f. offered_fits d q c.args.reg.now c.offer_fetch.new.self f Fetch (record { by = c.entry.result; ports = fetch_ports p }) c.offer_fetch.ensures.single c.offer_fetch.ensures.adds.singles
    (ap (λ (r : RegistryValue). r.execs) c.offer_fetch.ensures.is) fit
    (offered_new _ _ _ _ _ _ _ (offered c) c.requires.fits))

pub returns-clause-adds : goal.returns-clause-adds
returns-clause-adds c = builds_of _ _ _ 4 22 _ _ (adds_of _ _ 4 c.fetch_nets-ports.ensures.step) (made-all c _) (omega arith)

pub returns-clause-open : goal.returns-clause-open
returns-clause-open c = offered_open _ _ _ _ _ _ _ (offered c)

pub fetch_nets-ports-requires-clause-regs : goal.fetch_nets-ports-requires-clause-regs
fetch_nets-ports-requires-clause-regs c =
    let m = c.make_regs-first.ensures in
    let a = c.make_arrays-tags.ensures.makes in
    let first : ℕ = c.make_regs-first.result in
    subst (λ x. IsOpenFour c.make_arrays-tags.new.b.design x (first + 12) 1 32 32 1 (Some 0) None None None) (sym a.entry)
    (regs_stay c.make_regs-first.new.b.design c.make_arrays-tags.new.b.design a.regs c.make_regs-first.new.b.entry (first + 12) _ _ _ _ _ _ _ _
    (subst (λ x. IsOpenFour c.make_regs-first.new.b.design x (first + 12) 1 32 32 1 (Some 0) None None None) (sym m.makes.entry) m.regs.item))

pub returns-clause-begun : goal.returns-clause-begun
unfolding place worth
returns-clause-begun c =
    let takes = takes_of (spec_of kind.Icache (params_of c.args.self.now.state.taken)) in
    let e = c.args.b.now.entry in
    let n = c.fetch_nets-ports.ensures in
    let m = c.make_regs-first.ensures in
    let a = c.make_arrays-tags.ensures in
    let made = c.fetch_inputs-wires.ensures.made in
    let new = new-world c in
    let first : ℕ = c.make_regs-first.result in
    let tags : ℕ = c.make_arrays-tags.result in
    let l : ℕ = log_of (lines_of (params_of c.args.self.now.state.taken)) in
    let k : ℕ = log_of (words_of (params_of c.args.self.now.state.taken)) in
    let is_l : c.sizes-z.result.index ≡ l = c.sizes-z.ensures.index in
    let is_k : c.sizes-z.result.place ≡ k = c.sizes-z.ensures.place in
    let by = c.fetch_inputs-wires.ensures.entry in
    let regs : AreOpenRegs new.design e first l k c.args.plan.now.shape.reset_pc =
    all_stay c.make_regs-first.new.b.design new.design a.makes.regs e first l k c.args.plan.now.shape.reset_pc
    (subst (λ x. AreOpenRegs c.make_regs-first.new.b.design x first l k c.args.plan.now.shape.reset_pc) by
    (subst (λ x. AreOpenRegs c.make_regs-first.new.b.design c.fetch_inputs-wires.new.b.entry first x k c.args.plan.now.shape.reset_pc) is_l
    (subst (λ x. AreOpenRegs c.make_regs-first.new.b.design c.fetch_inputs-wires.new.b.entry first c.sizes-z.result.index x c.args.plan.now.shape.reset_pc) is_k m.regs))) in
    let arrays : AreOpenArrays new.design e tags l k =
    subst (λ x. AreOpenArrays new.design x tags l k) (m.makes.entry ∙ by)
    (subst (λ x. AreOpenArrays new.design c.make_regs-first.new.b.entry tags x k) is_l
    (subst (λ x. AreOpenArrays new.design c.make_regs-first.new.b.entry tags c.sizes-z.result.index x) is_k a.arrays)) in
    let four : (reg p q r s : ℕ) (rp rq rr rs : Option ℕ) → IsOpenFour new.design e reg p q r s rp rq rr rs → AreOpen (part_in takes e new) reg p q r s rp rq rr rs =
    λ reg p q r s rp rq rr rs h. record {
      first = part_open takes e new _ p rp h.first;
      second = part_open takes e new _ q rq h.second;
      third = part_open takes e new _ r rr h.third;
      fourth = part_open takes e new _ s rs h.fourth;
    } in
    record {
      first = first;
      tags = tags;
      ports = _;
      only = only_offer _ _ _ _ _ _ _ (offered c) takes;
      wires = offered_wires _ _ _ _ _ _ _ (offered c) takes;
      regs = λ j row h.
          let own = (reg_in takes e new j row h).0 in
          let r = only_new e c.fetch_inputs-wires.new.b.design c.make_regs-first.new.b.design 16 m.makes.count m.makes.before
          (λ i o. c.requires.nothing.regs i (ap (λ (rs : List RegRow). (reg_at rs i).owner) (sym made.regs) ∙ o)) j (ap (λ (rs : List RegRow). (reg_at rs j).owner) (sym a.makes.regs) ∙ own) in
          let f = m.first in
          (omega arith, omega arith);
      arrays = λ j row h.
          let own = (array_in takes e new j row h).0 in
          let r = only_new_arrays e c.make_regs-first.new.b.design new.design 2 a.makes.count a.makes.before
          (λ i o. c.requires.nothing.arrays i (ap (λ (rs : List ArrayRow). (array_at rs i).owner) (sym (m.makes.arrays ∙ made.arrays)) ∙ o)) j own in
          let f = a.first in
          (omega arith, omega arith);
      outs = λ q. outs_open takes e new q (its_own _ _ _ _ _ _ _ (offered c) DataBus)
          (λ f. ap (λ (os : List (Option Net)). out_at os q) (a.makes.outs ∙ (m.makes.outs ∙ made.outs)) ∙ c.requires.outs q (or_left (is_fetch_out q) false f));
      front = four _ _ _ _ _ _ _ _ _ regs.front;
      reading = four _ _ _ _ _ _ _ _ _ regs.reading;
      caught = four _ _ _ _ _ _ _ _ _ regs.caught;
      item = four _ _ _ _ _ _ _ _ _ regs.item;
      tag = array_open takes e new _ (31 - k - l) l arrays.tag;
      cell = array_open takes e new _ 32 (l + k) arrays.cell;
      outputs = refl;
      valid = n.valid;
      offers_pc = n.pc;
      offers_word = n.word;
      offers_error = n.error;
    }
