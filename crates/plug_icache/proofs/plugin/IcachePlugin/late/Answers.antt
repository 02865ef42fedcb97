use Rattle.std.proofs.Common.{◌≡◌, ◌∙◌, ℕ, ◌+◌, ◌-◌, ◌*◌, ◌^◌, ◌≤◌, List, length, Bool, false, Option, refl, ap, sym, subst, arith}
use Rattle.hw_pool.specs.Nodes.{PoolValue}
use Rattle.hw_pool.specs.Meaning.{Env}
use Rattle.hw_pool.specs.Frame.{Adds}
use Rattle.hw_expr.specs.declared.net.Net.{Net}
use Rattle.hw_expr.specs.Nets.{InScope}
use Rattle.hw_gates.specs.Places.{Step, value_in}
use Rattle.hw_gates.proofs.Has.{in_scope}
use Rattle.hw_gates.proofs.Steps.{adds_of, ◌▸◌}
use Rattle.hw_module.specs.declared.rows.Owner.TheVariants.{Entry}
use Rattle.hw_module.specs.declared.rows.ArrayRow.{ArrayRow}
use Rattle.hw_module.specs.declared.rows.WireRow.{WireRow}
use Rattle.hw_module.specs.declared.rows.RegRow.{RegRow}
use Rattle.hw_module.specs.Rights.{Makes, Rights}
use Rattle.hw_module.specs.Rows.{ModuleValue, array_at, out_at, reg_at, wire_at}
use Rattle.hw_module.specs.Scope.{scope_of}
use Rattle.hw_module.proofs.Drivers.{drivers_stay}
use Rattle.hw_module.proofs.Makes.{makes_then}
use Rattle.service_reg.specs.declared.service.Service.{Service}
use Rattle.service_reg.specs.declared.service.Service.TheVariants.{Fetch, DataBus}
use Rattle.service_ports.specs.Ports.{fetch_ports}
use Rattle.plug_api.specs.Calls.{takes_of, terms_of}
use Rattle.plug_kinds.specs.declared.kind.Kind.TheVariants as kind
use Rattle.plug_kinds.specs.Kinds.{params_of, spec_of}
use Rattle.plug_part.specs.Part.{PortTrees}
use Rattle.plug_build.specs.World.{World, late_rights, part_in, world_of}
use Rattle.plug_build.proofs.Offers.{offer_fits}
use Rattle.plug_build.proofs.Worlds.{builds_of, offers_grown, world_fits}
use Rattle.cache_law.specs.Law.{latency_of}
use Rattle.cache_nets.specs.Machine.{Now, address_in, search_at}
use Rattle.cache_nets.specs.Nets.{AreNextsIn, seen_in}
use Rattle.plug_icache.specs.Begun.{BeginsIcache}
use Rattle.plug_icache.specs.Builds.{BuildsIcache, now_in}
use Rattle.plug_icache.specs.Late.{predict_in}
use Rattle.plug_icache.specs.Reads.{Reads}
use Rattle.plug_icache.specs.Registers.{AreOpenArrays, driven_array}
use Rattle.plug_icache.specs.Sizes.{lines_of, log_of, words_of}
use Rattle.plug_icache.proofs.Asked.{predict_kept}
use Rattle.plug_icache.proofs.Found.{arrays_at, first_is, first_owned, regs_at, tags_is, tags_owned}
use Rattle.plug_icache.proofs.Arrays.{arrays_stay}
use Rattle.plug_icache.proofs.Fours.{rows_driven}
use Rattle.plug_icache.proofs.Left.{IsLeft, fetch_right, late_builds, late_done, out_open, predict_right}
use Rattle.plug_icache.proofs.Parts.{parts_meet_laws}
use Rattle.plug_icache.proofs.Powers.{lines_whole, words_whole}
use Rattle.plug_icache.proofs.Seen.{cycle_in, cycle_is, reads_scope, reads_stay, seen_is}
use Rattle.plug_icache.proofs.plugin.IcachePlugin.late.Goals as goal

no-rights : Rights
no-rights = record { wires = λ k. false; locked = λ k. false; outs = λ k. false }

-- what the first call made, by the sizes of the second
sized : (l k x y reset_pc : ℕ) (takes : Service → Bool) (e : ℕ) (w : World) → x ≡ l → y ≡ k → BeginsIcache l k reset_pc (part_in takes e w) → BeginsIcache x y reset_pc (part_in takes e w)
sized l k x y reset_pc takes e w is_l is_k h =
    subst (λ (j : ℕ). BeginsIcache x j reset_pc (part_in takes e w)) (sym is_k) (subst (λ (i : ℕ). BeginsIcache i k reset_pc (part_in takes e w)) (sym is_l) h)

-- what was read is in scope after registers are driven
still : (m m' : ModuleValue) (old new : PoolValue) (n : ℕ) → Step old new n → scope_of m' ≡ scope_of m → (width level : ℕ) (f : Env → ℕ) (net : Net)
    → Reads old (scope_of m) width level f net → InScope (scope_of m') new net
still m m' old new n step same width level f net r =
    subst (λ s. InScope s new net) (sym same) (reads_scope new (scope_of m) width level f net (reads_stay (scope_of m) old new n step width level f net r))

pub returns-clause-law : goal.returns-clause-law
returns-clause-law c = λ p builds.
    let ps = params_of c.args.self.now.state.taken in
    let z = c.sizes-z.ensures in
    let l : ℕ = log_of (lines_of ps) in
    let k : ℕ = log_of (words_of ps) in
    let is_l : c.sizes-z.result.index ≡ l = z.index in
    let is_k : c.sizes-z.result.place ≡ k = z.place in
    let some_lines : 1 ≤ l = (let h = z.some_lines in omega arith) in
    let few_lines : l ≤ 10 = (let h = z.few_lines in omega arith) in
    let some_words : 1 ≤ k = (let h = z.some_words in omega arith) in
    let few_words : k ≤ 4 = (let h = z.few_words in omega arith) in
    parts_meet_laws l k (terms_of (spec_of kind.Icache ps) c.args.plan.now) p some_lines few_lines some_words few_words c.requires.lawful.shape.aligned
    (λ i. latency_of (sym (lines_whole ps c.args.self.now.faultless) i) (sym (words_whole ps c.args.self.now.faultless) i)) builds

pub own_reg-first-requires : goal.own_reg-first-requires
own_reg-first-requires c =
    let takes = takes_of (spec_of kind.Icache (params_of c.args.self.now.state.taken)) in
    let e = c.args.b.now.entry in
    let w : World = world_of c.args.pool.now c.args.b.now c.args.reg.now in
    let begun = sized _ _ c.sizes-z.result.index c.sizes-z.result.place c.args.plan.now.shape.reset_pc takes e w c.sizes-z.ensures.index c.sizes-z.ensures.place c.requires.begun in
    let h = first_owned takes e w c.sizes-z.result.index c.sizes-z.result.place c.args.plan.now.shape.reset_pc begun in
    record { owns = (begun.first, h.0, h.1) }

pub own_array-tags-requires : goal.own_array-tags-requires
own_array-tags-requires c =
    let takes = takes_of (spec_of kind.Icache (params_of c.args.self.now.state.taken)) in
    let e = c.args.b.now.entry in
    let w : World = world_of c.args.pool.now c.args.b.now c.args.reg.now in
    let begun = sized _ _ c.sizes-z.result.index c.sizes-z.result.place c.args.plan.now.shape.reset_pc takes e w c.sizes-z.ensures.index c.sizes-z.ensures.place c.requires.begun in
    let h = tags_owned takes e w c.sizes-z.result.index c.sizes-z.result.place c.args.plan.now.shape.reset_pc begun in
    record { owns = (begun.tags, h.0, h.1) }

pub own_ports-ports-requires : goal.own_ports-ports-requires
own_ports-ports-requires c = record { offers = c.requires.offered Fetch }

pub read_cycle-c-requires-clause-regs : goal.read_cycle-c-requires-clause-regs
read_cycle-c-requires-clause-regs c =
    let takes = takes_of (spec_of kind.Icache (params_of c.args.self.now.state.taken)) in
    let e = c.args.b.now.entry in
    let w : World = world_of c.args.pool.now c.args.b.now c.args.reg.now in
    let begun = sized _ _ c.sizes-z.result.index c.sizes-z.result.place c.args.plan.now.shape.reset_pc takes e w c.sizes-z.ensures.index c.sizes-z.ensures.place c.requires.begun in
    (c.args.plan.now.shape.reset_pc, regs_at takes e w c.sizes-z.result.index c.sizes-z.result.place c.args.plan.now.shape.reset_pc begun c.own_reg-first.result (first_is takes e w c.sizes-z.result.index c.sizes-z.result.place c.args.plan.now.shape.reset_pc begun c.own_reg-first.result c.own_reg-first.ensures.owner c.own_reg-first.ensures.least))

pub read_cycle-c-requires-clause-arrays : goal.read_cycle-c-requires-clause-arrays
read_cycle-c-requires-clause-arrays c =
    let takes = takes_of (spec_of kind.Icache (params_of c.args.self.now.state.taken)) in
    let e = c.args.b.now.entry in
    let w : World = world_of c.args.pool.now c.args.b.now c.args.reg.now in
    let begun = sized _ _ c.sizes-z.result.index c.sizes-z.result.place c.args.plan.now.shape.reset_pc takes e w c.sizes-z.ensures.index c.sizes-z.ensures.place c.requires.begun in
    arrays_at takes e w c.sizes-z.result.index c.sizes-z.result.place c.args.plan.now.shape.reset_pc begun c.own_array-tags.result (tags_is takes e w c.sizes-z.result.index c.sizes-z.result.place c.args.plan.now.shape.reset_pc begun c.own_array-tags.result c.own_array-tags.ensures.owner c.own_array-tags.ensures.least)

pub read_cycle-c-requires-clause-inputs : goal.read_cycle-c-requires-clause-inputs
read_cycle-c-requires-clause-inputs c =
    (offer_fits c.args.b.now.design c.args.pool.now c.args.reg.now c.requires.fits.offers c.args.b.now.entry Fetch (fetch_ports c.own_ports-ports.result) c.own_ports-ports.ensures).inputs

pub cycle_nets-n-requires-clause-cycle : goal.cycle_nets-n-requires-clause-cycle
cycle_nets-n-requires-clause-cycle c = cycle_is c.read_cycle-c.new.pool (scope_of c.args.b.now.design) c.sizes-z.result c.own_reg-first.result c.own_array-tags.result c.own_ports-ports.result _ c.read_cycle-c.result c.read_cycle-c.ensures.reads

pub drive_regs-requires-clause-open : goal.drive_regs-requires-clause-open
drive_regs-requires-clause-open c =
    let takes = takes_of (spec_of kind.Icache (params_of c.args.self.now.state.taken)) in
    let e = c.args.b.now.entry in
    let w : World = world_of c.args.pool.now c.args.b.now c.args.reg.now in
    let begun = sized _ _ c.sizes-z.result.index c.sizes-z.result.place c.args.plan.now.shape.reset_pc takes e w c.sizes-z.ensures.index c.sizes-z.ensures.place c.requires.begun in
    (c.args.plan.now.shape.reset_pc, regs_at takes e w c.sizes-z.result.index c.sizes-z.result.place c.args.plan.now.shape.reset_pc begun c.own_reg-first.result (first_is takes e w c.sizes-z.result.index c.sizes-z.result.place c.args.plan.now.shape.reset_pc begun c.own_reg-first.result c.own_reg-first.ensures.owner c.own_reg-first.ensures.least))

pub drive_regs-requires-clause-scope : goal.drive_regs-requires-clause-scope
drive_regs-requires-clause-scope c =
    let s = scope_of c.args.b.now.design in
    c.cycle_nets-n.ensures.scope s (cycle_in c.read_cycle-c.new.pool s c.sizes-z.result c.own_reg-first.result c.own_array-tags.result c.own_ports-ports.result _ c.read_cycle-c.result c.read_cycle-c.ensures.reads)

pub drive_regs-requires-clause-drivers : goal.drive_regs-requires-clause-drivers
drive_regs-requires-clause-drivers c =
    drivers_stay c.args.b.now.design c.args.pool.now c.cycle_nets-n.new.pool _ (adds_of _ _ _ (c.read_cycle-c.ensures.step ▸ c.cycle_nets-n.ensures.step)) c.requires.fits.drivers

pub drive_arrays-requires-clause-open : goal.drive_arrays-requires-clause-open
drive_arrays-requires-clause-open c =
    let takes = takes_of (spec_of kind.Icache (params_of c.args.self.now.state.taken)) in
    let e = c.args.b.now.entry in
    let w : World = world_of c.args.pool.now c.args.b.now c.args.reg.now in
    let begun = sized _ _ c.sizes-z.result.index c.sizes-z.result.place c.args.plan.now.shape.reset_pc takes e w c.sizes-z.ensures.index c.sizes-z.ensures.place c.requires.begun in
    let d = c.drive_regs.ensures.drives in
    subst (λ (x : ℕ). AreOpenArrays c.drive_regs.new.b.design x c.own_array-tags.result c.sizes-z.result.index c.sizes-z.result.place) (sym d.entry)
    (arrays_stay c.args.b.now.design c.drive_regs.new.b.design d.arrays e c.own_array-tags.result c.sizes-z.result.index c.sizes-z.result.place (arrays_at takes e w c.sizes-z.result.index c.sizes-z.result.place c.args.plan.now.shape.reset_pc begun c.own_array-tags.result (tags_is takes e w c.sizes-z.result.index c.sizes-z.result.place c.args.plan.now.shape.reset_pc begun c.own_array-tags.result c.own_array-tags.ensures.owner c.own_array-tags.ensures.least)))

pub drive_arrays-requires-clause-scope : goal.drive_arrays-requires-clause-scope
drive_arrays-requires-clause-scope c =
    let s = scope_of c.args.b.now.design in
    subst (λ x. AreNextsIn x c.cycle_nets-n.new.pool c.cycle_nets-n.result) (sym c.drive_regs.ensures.drives.scope)
    (c.cycle_nets-n.ensures.scope s (cycle_in c.read_cycle-c.new.pool s c.sizes-z.result c.own_reg-first.result c.own_array-tags.result c.own_ports-ports.result _ c.read_cycle-c.result c.read_cycle-c.ensures.reads))

pub drive_arrays-requires-clause-few : goal.drive_arrays-requires-clause-few
drive_arrays-requires-clause-few c =
    let same : length c.drive_regs.new.b.design.arrays ≡ length c.args.b.now.design.arrays = ap (λ (rs : List ArrayRow). length rs) c.drive_regs.ensures.drives.arrays in
    let few = c.arrays-arrays.ensures.few in
    omega (arith, same, few)

pub ask_predict-requires-clause-offers : goal.ask_predict-requires-clause-offers
ask_predict-requires-clause-offers c =
    let d0 = c.args.b.now.design in
    let d1 = c.drive_regs.new.b.design in
    let d2 = c.drive_arrays.new.b.design in
    let e = c.args.b.now.entry in
    let makes : Makes (Entry e) no-rights d0 d2 18 =
    makes_then (Entry e) no-rights d0 d1 d2 16 2 18 (c.drive_regs.ensures.drives.makes no-rights)
    (subst (λ (x : ℕ). Makes (Entry x) no-rights d1 d2 2) c.drive_regs.ensures.drives.entry (c.drive_arrays.ensures.writes.makes no-rights)) (omega arith) in
    offers_grown d0 d2 18 makes.grows c.args.pool.now c.cycle_nets-n.new.pool _ (adds_of _ _ _ (c.read_cycle-c.ensures.step ▸ c.cycle_nets-n.ensures.step)) c.args.reg.now c.requires.fits.offers

pub ask_predict-requires-clause-open : goal.ask_predict-requires-clause-open
ask_predict-requires-clause-open c = λ k is.
    ap (λ (ws : List WireRow). (wire_at ws k).driver) (c.drive_arrays.ensures.writes.wires ∙ c.drive_regs.ensures.drives.wires) ∙ c.requires.predict refl k is

pub ask_predict-requires-clause-pc : goal.ask_predict-requires-clause-pc
ask_predict-requires-clause-pc c =
    still c.args.b.now.design c.drive_arrays.new.b.design c.read_cycle-c.new.pool c.cycle_nets-n.new.pool _ c.cycle_nets-n.ensures.step
    (c.drive_arrays.ensures.writes.scope ∙ c.drive_regs.ensures.drives.scope) 32 0 _ c.read_cycle-c.result.held.pc c.read_cycle-c.ensures.reads.front.first

pub ask_predict-requires-clause-word : goal.ask_predict-requires-clause-word
ask_predict-requires-clause-word c =
    let s = scope_of c.args.b.now.design in
    let all = c.cycle_nets-n.ensures.scope s (cycle_in c.read_cycle-c.new.pool s c.sizes-z.result c.own_reg-first.result c.own_array-tags.result c.own_ports-ports.result _ c.read_cycle-c.result c.read_cycle-c.ensures.reads) in
    subst (λ x. InScope x c.cycle_nets-n.new.pool c.cycle_nets-n.result.word) (sym (c.drive_arrays.ensures.writes.scope ∙ c.drive_regs.ensures.drives.scope))
    (in_scope s c.cycle_nets-n.new.pool c.cycle_nets-n.result.word c.cycle_nets-n.ensures.nets.word.0 all.word)

pub ask_predict-requires-clause-widths : goal.ask_predict-requires-clause-widths
ask_predict-requires-clause-widths c = (c.read_cycle-c.ensures.reads.front.first.is.1, c.cycle_nets-n.ensures.nets.word.1)

pub ask_predict-requires-clause-levels : goal.ask_predict-requires-clause-levels
ask_predict-requires-clause-levels c =
    let a = c.read_cycle-c.ensures.reads.front.first.is.2 in
    let b = c.cycle_nets-n.ensures.nets.word.2 in
    (omega (arith, a), omega (arith, b))

pub give_command-requires-clause-open_given : goal.give_command-requires-clause-open_given
give_command-requires-clause-open_given c =
    let takes = takes_of (spec_of kind.Icache (params_of c.args.self.now.state.taken)) in
    ap (λ (os : List (Option Net)). out_at os 2) (c.ask_predict.ensures.asks.outs ∙ (c.drive_arrays.ensures.writes.outs ∙ c.drive_regs.ensures.drives.outs))
    ∙ out_open takes c.args.b.now.entry 2 (world_of c.args.pool.now c.args.b.now c.args.reg.now) (c.requires.offered Fetch) refl (c.requires.begun.outs 2)

pub give_command-requires-clause-open_address : goal.give_command-requires-clause-open_address
give_command-requires-clause-open_address c =
    let takes = takes_of (spec_of kind.Icache (params_of c.args.self.now.state.taken)) in
    ap (λ (os : List (Option Net)). out_at os 4) (c.ask_predict.ensures.asks.outs ∙ (c.drive_arrays.ensures.writes.outs ∙ c.drive_regs.ensures.drives.outs))
    ∙ out_open takes c.args.b.now.entry 4 (world_of c.args.pool.now c.args.b.now c.args.reg.now) (c.requires.offered Fetch) refl (c.requires.begun.outs 4)

pub give_command-requires-clause-given : goal.give_command-requires-clause-given
give_command-requires-clause-given c =
    c.ask_predict.ensures.asks.kept c.cycle_nets-n.new.pool c.read_cycle-c.result.held.given
    (still c.args.b.now.design c.drive_arrays.new.b.design c.read_cycle-c.new.pool c.cycle_nets-n.new.pool _ c.cycle_nets-n.ensures.step
    (c.drive_arrays.ensures.writes.scope ∙ c.drive_regs.ensures.drives.scope) 1 0 _ c.read_cycle-c.result.held.given c.read_cycle-c.ensures.reads.front.third)

pub give_command-requires-clause-address : goal.give_command-requires-clause-address
give_command-requires-clause-address c =
    let s = scope_of c.args.b.now.design in
    let all = c.cycle_nets-n.ensures.scope s (cycle_in c.read_cycle-c.new.pool s c.sizes-z.result c.own_reg-first.result c.own_array-tags.result c.own_ports-ports.result _ c.read_cycle-c.result c.read_cycle-c.ensures.reads) in
    c.ask_predict.ensures.asks.kept c.cycle_nets-n.new.pool c.cycle_nets-n.result.address
    (subst (λ x. InScope x c.cycle_nets-n.new.pool c.cycle_nets-n.result.address) (sym (c.drive_arrays.ensures.writes.scope ∙ c.drive_regs.ensures.drives.scope))
    (in_scope s c.cycle_nets-n.new.pool c.cycle_nets-n.result.address c.cycle_nets-n.ensures.nets.address.0 all.address))

pub give_command-requires-clause-widths : goal.give_command-requires-clause-widths
give_command-requires-clause-widths c = (c.read_cycle-c.ensures.reads.front.third.is.1, c.cycle_nets-n.ensures.nets.address.1)

-- ---- what is left

module _ (c : goal.After-give_command) where
  abbrev entry : ℕ
  entry = c.args.b.now.entry

  abbrev old : World
  old = world_of c.args.pool.now c.args.b.now c.args.reg.now

  abbrev new : World
  new = world_of c.cycle_nets-n.new.pool c.give_command.new.b c.args.reg.now

  abbrev l : ℕ
  l = c.sizes-z.result.index

  abbrev k : ℕ
  k = c.sizes-z.result.place

  abbrev first : ℕ
  first = c.own_reg-first.result

  abbrev tags : ℕ
  tags = c.own_array-tags.result

  abbrev reset_pc : ℕ
  reset_pc = c.args.plan.now.shape.reset_pc

  abbrev takes : Service → Bool
  takes = takes_of (spec_of kind.Icache (params_of c.args.self.now.state.taken))

  adds : Adds c.args.pool.now c.cycle_nets-n.new.pool (32 + 102)
  adds = adds_of _ _ _ (c.read_cycle-c.ensures.step ▸ c.cycle_nets-n.ensures.step)

  -- all is within the rights
  makes : Makes (Entry entry) (late_rights c.args.reg.now entry) c.args.b.now.design c.give_command.new.b.design 22
  makes =
      let r : Rights = late_rights c.args.reg.now entry in
      let own = c.requires.offered Fetch in
      let regs = c.drive_regs.ensures.drives in
      let arrays = c.drive_arrays.ensures.writes in
      let asks = c.ask_predict.ensures.asks in
      let d0 = c.args.b.now.design in
      let d1 = c.drive_regs.new.b.design in
      let d2 = c.drive_arrays.new.b.design in
      let d3 = c.ask_predict.new.b.design in
      let d4 = c.give_command.new.b.design in
      let second : Makes (Entry entry) r d1 d2 2 = subst (λ (x : ℕ). Makes (Entry x) r d1 d2 2) regs.entry (arrays.makes r) in
      let third : Makes (Entry entry) r d2 d3 2 = subst (λ (x : ℕ). Makes (Entry x) r d2 d3 2) (arrays.entry ∙ regs.entry) (asks.makes r (λ j is. predict_right c.args.reg.now entry j own is)) in
      let fourth : Makes (Entry entry) r d3 d4 2 =
      subst (λ (x : ℕ). Makes (Entry x) r d3 d4 2) (asks.entry ∙ (arrays.entry ∙ regs.entry)) (c.give_command.ensures.makes r (fetch_right c.args.reg.now entry 2 own refl) (fetch_right c.args.reg.now entry 4 own refl)) in
      makes_then (Entry entry) r d0 d3 d4 20 2 22 (makes_then (Entry entry) r d0 d2 d3 18 2 20 (makes_then (Entry entry) r d0 d1 d2 16 2 18 (regs.makes r) second (omega arith)) third (omega arith)) fourth (omega arith)

  regs_same : c.give_command.new.b.design.regs ≡ c.drive_regs.new.b.design.regs
  regs_same = c.give_command.ensures.regs ∙ (c.ask_predict.ensures.asks.regs ∙ c.drive_arrays.ensures.writes.regs)

  arrays_kept : c.give_command.new.b.design.arrays ≡ c.drive_arrays.new.b.design.arrays
  arrays_kept = c.give_command.ensures.arrays ∙ c.ask_predict.ensures.asks.arrays

  begun : BeginsIcache l k reset_pc (part_in takes entry old)
  begun = sized _ _ l k reset_pc takes entry old c.sizes-z.ensures.index c.sizes-z.ensures.place c.requires.begun

  first_same : first ≡ begun.first
  first_same = first_is takes entry old l k reset_pc begun first c.own_reg-first.ensures.owner c.own_reg-first.ensures.least

  tags_same : tags ≡ begun.tags
  tags_same = tags_is takes entry old l k reset_pc begun tags c.own_array-tags.ensures.owner c.own_array-tags.ensures.least

  abbrev now : Env → Now
  now env = seen_in env c.read_cycle-c.new.pool c.read_cycle-c.result

  at : (width level : ℕ) (f : Env → ℕ) (net : Net) → Reads c.read_cycle-c.new.pool (scope_of c.args.b.now.design) width level f net → (env : Env) → value_in env c.cycle_nets-n.new.pool net ≡ f env
  at width level f net r env = (reads_stay (scope_of c.args.b.now.design) c.read_cycle-c.new.pool c.cycle_nets-n.new.pool _ c.cycle_nets-n.ensures.step width level f net r).value env

  left : IsLeft takes entry l k reset_pc first tags old c.own_ports-ports.result c.cycle_nets-n.new.pool c.give_command.new.b.design now
  left =
      let r = c.read_cycle-c.ensures.reads in
      let n = c.cycle_nets-n.ensures in
      let d0 = c.args.b.now.design in
      let d1 = c.drive_regs.new.b.design in
      let d4 = c.give_command.new.b.design in
      let regs = c.drive_regs.ensures.drives in
      let writes = c.drive_arrays.ensures.writes in
      let asks = c.ask_predict.ensures.asks in
      let give = c.give_command.ensures in
      let row : (j : ℕ) → array_at d4.arrays j ≡ array_at c.drive_arrays.new.b.design.arrays j = λ j. ap (λ (rs : List ArrayRow). array_at rs j) arrays_kept in
      record {
        fits = c.requires.fits;
        nodes = 32 + 102;
        things = 22;
        adds = adds;
        grows = makes.grows;
        takes_predict = refl;
        own = c.requires.offered Fetch;
        no_bus = c.requires.offered DataBus;
        offered = c.own_ports-ports.ensures;
        count = ap (λ (ws : List WireRow). length ws) give.wires ∙ (asks.count ∙ ap (λ (ws : List WireRow). length ws) (writes.wires ∙ regs.wires));
        many = ap (λ (rs : List RegRow). length rs) regs_same ∙ regs.count;
        many_arrays = ap (λ (rs : List ArrayRow). length rs) arrays_kept ∙ (writes.count ∙ ap (λ (rs : List ArrayRow). length rs) regs.arrays);
        front = record { nets = c.cycle_nets-n.result.front; rows = rows_driven d1 d4 regs_same entry _ _ _ _ _ _ _ _ _ _ (c.drive_regs.ensures.front reset_pc (regs_at takes entry old l k reset_pc begun first first_same)); value = n.front now (λ env. refl) };
        reading = record { nets = c.cycle_nets-n.result.reading; rows = rows_driven d1 d4 regs_same entry _ _ _ _ _ _ _ _ _ _ c.drive_regs.ensures.reading; value = n.reading now (λ env. refl) };
        caught = record { nets = c.cycle_nets-n.result.caught; rows = rows_driven d1 d4 regs_same entry _ _ _ _ _ _ _ _ _ _ c.drive_regs.ensures.caught; value = n.caught now (λ env. refl) };
        item = record { nets = c.cycle_nets-n.result.item; rows = rows_driven d1 d4 regs_same entry _ _ _ _ _ _ _ _ _ _ c.drive_regs.ensures.item; value = n.item now (λ env. refl) };
        tag = record { nets = c.cycle_nets-n.result.tag; row = row tags ∙ (c.drive_arrays.ensures.tag ∙ ap (λ (x : ℕ). driven_array x (31 - k - l) l c.cycle_nets-n.result.tag) regs.entry); value = n.tag now (λ env. refl) };
        cell = record { nets = c.cycle_nets-n.result.cell; row = row (tags + 1) ∙ (c.drive_arrays.ensures.cell ∙ ap (λ (x : ℕ). driven_array x 32 (l + k) c.cycle_nets-n.result.cell) regs.entry); value = n.cell now (λ env. refl) };
        shows = λ o inputs env.
            seen_is c.read_cycle-c.new.pool (scope_of d0) c.sizes-z.result first tags c.own_ports-ports.result (predict_in c.args.pool.now c.args.reg.now) c.read_cycle-c.result r o inputs env
            ∙ ap (λ (q : Option PortTrees). now_in l k first tags o q env)
            (sym (predict_kept d0 c.args.pool.now c.args.reg.now c.requires.fits.offers c.cycle_nets-n.new.pool (32 + 102) adds));
        given = c.read_cycle-c.result.held.given;
        address = c.cycle_nets-n.result.address;
        pc = c.read_cycle-c.result.held.pc;
        word = c.cycle_nets-n.result.word;
        out_given = give.given;
        out_address = give.address;
        given_is = at 1 0 _ c.read_cycle-c.result.held.given r.front.third;
        address_is = λ env. n.address now (λ env. refl) env ∙ λ i. address_in k (r.reading.second.value env i) (r.reading.third.value env i);
        pc_is = at 32 0 _ c.read_cycle-c.result.held.pc r.front.first;
        word_is = n.word now (λ env. refl);
        asks_pc = λ by q o. ap (λ (ws : List WireRow). (wire_at ws q.pc).driver) give.wires ∙ c.ask_predict.ensures.pc by q o;
        asks_word = λ by q o. ap (λ (ws : List WireRow). (wire_at ws q.word).driver) give.wires ∙ c.ask_predict.ensures.word by q o;
      }

pub returns-clause-adds : goal.returns-clause-adds
returns-clause-adds c = builds_of _ _ _ (32 + 102) 22 (old c) (new c) (adds c) (makes c) (omega arith)

pub returns-clause-fits : goal.returns-clause-fits
returns-clause-fits c =
    world_fits (old c) (new c) (32 + 102) 22 c.requires.fits (adds c) (makes c).grows
    (λ h. c.give_command.ensures.drivers (c.ask_predict.ensures.drivers c.drive_arrays.ensures.drivers)) (λ f. f)

pub returns-clause-done : goal.returns-clause-done
returns-clause-done c =
    late_done (takes c) (entry c) (l c) (k c) (reset_pc c) (first c) (tags c) (old c) c.own_ports-ports.result c.cycle_nets-n.new.pool c.give_command.new.b.design (now c) (left c) (begun c) (first_same c) (tags_same c)

pub returns-clause-builds : goal.returns-clause-builds
returns-clause-builds c =
    let p = part_in (takes c) (entry c) (new c) in
    subst (λ (x : ℕ). BuildsIcache x (log_of (words_of (params_of c.args.self.now.state.taken))) (reset_pc c) p) c.sizes-z.ensures.index
    (subst (λ (x : ℕ). BuildsIcache (l c) x (reset_pc c) p) c.sizes-z.ensures.place
    (late_builds (takes c) (entry c) (l c) (k c) (reset_pc c) (first c) (tags c) (old c) c.own_ports-ports.result c.cycle_nets-n.new.pool c.give_command.new.b.design (now c) (left c) (begun c) (first_same c) (tags_same c)))
