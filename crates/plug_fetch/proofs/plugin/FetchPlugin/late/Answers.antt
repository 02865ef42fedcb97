use Rattle.std.proofs.Common.{◌≡◌, ◌∙◌, ℕ, ◌+◌, ◌*◌, ◌≤◌, List, length, Bool, false, Option, refl, ap, sym, subst, arith}
use Rattle.hw_pool.specs.Nodes.{PoolValue}
use Rattle.hw_pool.specs.Meaning.{Env}
use Rattle.hw_pool.specs.Frame.{Adds}
use Rattle.hw_expr.specs.declared.net.Net.{Net}
use Rattle.hw_expr.specs.Nets.{InScope}
use Rattle.hw_gates.specs.Places.{Step, value_in}
use Rattle.hw_gates.proofs.Steps.{adds_of, ◌▸◌}
use Rattle.hw_module.specs.declared.rows.Owner.TheVariants.{Entry}
use Rattle.hw_module.specs.declared.rows.WireRow.{WireRow}
use Rattle.hw_module.specs.declared.rows.RegRow.{RegRow}
use Rattle.hw_module.specs.Rights.{Makes, Rights}
use Rattle.hw_module.specs.Rows.{ModuleValue, out_at, wire_at}
use Rattle.hw_module.specs.Scope.{scope_of}
use Rattle.hw_module.proofs.Drivers.{drivers_stay}
use Rattle.hw_module.proofs.Makes.{makes_then}
use Rattle.service_reg.specs.declared.service.Service.{Service}
use Rattle.service_reg.specs.declared.service.Service.TheVariants.{Fetch, DataBus}
use Rattle.service_ports.specs.Ports.{fetch_ports}
use Rattle.plug_api.specs.Calls.{takes_of, terms_of}
use Rattle.plug_kinds.specs.declared.kind.Kind.TheVariants as kind
use Rattle.plug_kinds.specs.Kinds.{params_of, spec_of}
use Rattle.plug_part.specs.Part.{PortTrees}
use Rattle.plug_build.specs.World.{World, late_rights, part_in, world_of}
use Rattle.plug_build.proofs.Offers.{offer_fits}
use Rattle.plug_build.proofs.Worlds.{builds_of, offers_grown, world_fits}
use Rattle.plug_fetch.specs.Begun.{BeginsFetch, depth_of}
use Rattle.plug_fetch.specs.Builds.{BuildsFetch, now_in}
use Rattle.plug_fetch.specs.Late.{predict_in}
use Rattle.plug_fetch.specs.Machine.{Now}
use Rattle.plug_fetch.specs.Reads.{Reads}
use Rattle.plug_fetch.specs.Registers.{IsOpenCommand, IsOpenPlace, numbers_from, seen_in}
use Rattle.plug_fetch.proofs.Asked.{predict_kept}
use Rattle.plug_fetch.proofs.Driven.{command_same, places_same}
use Rattle.plug_fetch.proofs.Found.{command_at, first_is, first_owned, places_open}
use Rattle.plug_fetch.proofs.Left.{IsLeft, fetch_right, late_builds, late_done, out_open, predict_right}
use Rattle.plug_fetch.proofs.Parts.{parts_meet_laws}
use Rattle.plug_fetch.proofs.Seen.{reads_scope, reads_stay, seen_is}
use Rattle.plug_fetch.proofs.plugin.FetchPlugin.late.Goals as goal

no-rights : Rights
no-rights = record { wires = λ k. false; locked = λ k. false; outs = λ k. false }

-- what was read is in scope after the registers are driven
still : (m m' : ModuleValue) (old new : PoolValue) (n : ℕ) → Step old new n → scope_of m' ≡ scope_of m → (width : ℕ) (f : Env → ℕ) (net : Net)
    → Reads old (scope_of m) width f net → InScope (scope_of m') new net
still m m' old new n step same width f net r =
    subst (λ s. InScope s new net) (sym same) (reads_scope new (scope_of m) width f net (reads_stay (scope_of m) old new n step width f net r))

pub returns-clause-law : goal.returns-clause-law
returns-clause-law c = λ p builds.
    let is : c.depth-depth.result ≡ depth_of (params_of c.args.self.now.state.taken) = c.depth-depth.ensures.is in
    let least : 1 ≤ depth_of (params_of c.args.self.now.state.taken) = (let l = c.depth-depth.ensures.least in omega arith) in
    parts_meet_laws (depth_of (params_of c.args.self.now.state.taken)) (terms_of (spec_of kind.Fetch (params_of c.args.self.now.state.taken)) c.args.plan.now) p least
    c.requires.lawful.shape.aligned refl builds

pub own_reg-first-requires : goal.own_reg-first-requires
own_reg-first-requires c =
    let takes = takes_of (spec_of kind.Fetch (params_of c.args.self.now.state.taken)) in
    let w : World = world_of c.args.pool.now c.args.b.now c.args.reg.now in
    let is : c.depth-depth.result ≡ depth_of (params_of c.args.self.now.state.taken) = c.depth-depth.ensures.is in
    let least : 1 ≤ depth_of (params_of c.args.self.now.state.taken) = (let l = c.depth-depth.ensures.least in omega arith) in
    let begun = c.requires.begun in
    let h = first_owned takes c.args.b.now.entry w _ _ begun least in
    record { owns = (begun.first, h.0, h.1) }

pub drive_regs-requires-clause-open : goal.drive_regs-requires-clause-open
drive_regs-requires-clause-open c = λ j l.
    let takes = takes_of (spec_of kind.Fetch (params_of c.args.self.now.state.taken)) in
    let w : World = world_of c.args.pool.now c.args.b.now c.args.reg.now in
    let is : c.depth-depth.result ≡ depth_of (params_of c.args.self.now.state.taken) = c.depth-depth.ensures.is in
    let least : 1 ≤ depth_of (params_of c.args.self.now.state.taken) = (let l = c.depth-depth.ensures.least in omega arith) in
    let first = first_is takes c.args.b.now.entry w _ _ c.requires.begun least c.own_reg-first.result c.own_reg-first.ensures.owner c.own_reg-first.ensures.least in
    subst (λ k. IsOpenPlace c.args.b.now.design c.args.b.now.entry (k + 4 * j)) (sym first) (places_open takes c.args.b.now.entry w _ _ c.requires.begun j (omega arith))

pub drive_regs-requires-clause-command : goal.drive_regs-requires-clause-command
drive_regs-requires-clause-command c =
    let takes = takes_of (spec_of kind.Fetch (params_of c.args.self.now.state.taken)) in
    let w : World = world_of c.args.pool.now c.args.b.now c.args.reg.now in
    let is : c.depth-depth.result ≡ depth_of (params_of c.args.self.now.state.taken) = c.depth-depth.ensures.is in
    let least : 1 ≤ depth_of (params_of c.args.self.now.state.taken) = (let l = c.depth-depth.ensures.least in omega arith) in (
      c.args.plan.now.shape.reset_pc,
      command_at takes c.args.b.now.entry w _ _ c.requires.begun c.own_reg-first.result c.depth-depth.result is least c.own_reg-first.ensures.owner c.own_reg-first.ensures.least,
    )

pub own_ports-ports-requires : goal.own_ports-ports-requires
own_ports-ports-requires c = record { offers = c.requires.offered Fetch }

pub overflow_add-first : goal.overflow_add-first
overflow_add-first c =
    let takes = takes_of (spec_of kind.Fetch (params_of c.args.self.now.state.taken)) in
    let w : World = world_of c.args.pool.now c.args.b.now c.args.reg.now in
    let is : c.depth-depth.result ≡ depth_of (params_of c.args.self.now.state.taken) = c.depth-depth.ensures.is in
    let least : 1 ≤ depth_of (params_of c.args.self.now.state.taken) = (let l = c.depth-depth.ensures.least in omega arith) in
    let there = (command_at takes c.args.b.now.entry w _ _ c.requires.begun c.own_reg-first.result c.depth-depth.result is least c.own_reg-first.ensures.owner c.own_reg-first.ensures.least).there in
    let few = c.regs-rows.ensures.few in
    omega (arith, there, few)

pub read_cycle-c-requires-clause-command : goal.read_cycle-c-requires-clause-command
read_cycle-c-requires-clause-command c =
    let takes = takes_of (spec_of kind.Fetch (params_of c.args.self.now.state.taken)) in
    let w : World = world_of c.args.pool.now c.args.b.now c.args.reg.now in
    let is : c.depth-depth.result ≡ depth_of (params_of c.args.self.now.state.taken) = c.depth-depth.ensures.is in
    let least : 1 ≤ depth_of (params_of c.args.self.now.state.taken) = (let l = c.depth-depth.ensures.least in omega arith) in (
      c.args.plan.now.shape.reset_pc,
      command_at takes c.args.b.now.entry w _ _ c.requires.begun c.own_reg-first.result c.depth-depth.result is least c.own_reg-first.ensures.owner c.own_reg-first.ensures.least,
    )

pub read_cycle-c-requires-clause-inputs : goal.read_cycle-c-requires-clause-inputs
read_cycle-c-requires-clause-inputs c =
    (offer_fits c.args.b.now.design c.args.pool.now c.args.reg.now c.requires.fits.offers c.args.b.now.entry Fetch (fetch_ports c.own_ports-ports.result) c.own_ports-ports.ensures).inputs

pub drive_regs-requires-clause-drivers : goal.drive_regs-requires-clause-drivers
drive_regs-requires-clause-drivers c = drivers_stay c.args.b.now.design c.args.pool.now c.read_cycle-c.new.pool 14 (adds_of _ _ 14 c.read_cycle-c.ensures.step) c.requires.fits.drivers

pub ask_predict-requires-clause-offers : goal.ask_predict-requires-clause-offers
ask_predict-requires-clause-offers c =
    offers_grown c.args.b.now.design c.drive_regs.new.b.design (4 * c.depth-depth.result + 5) (c.drive_regs.ensures.drives.makes no-rights).grows
    c.args.pool.now c.drive_regs.new.pool (14 + (21 * c.depth-depth.result + 22)) (adds_of _ _ _ (c.read_cycle-c.ensures.step ▸ c.drive_regs.ensures.step)) c.args.reg.now c.requires.fits.offers

pub ask_predict-requires-clause-pc : goal.ask_predict-requires-clause-pc
ask_predict-requires-clause-pc c =
    still c.args.b.now.design c.drive_regs.new.b.design c.read_cycle-c.new.pool c.drive_regs.new.pool (21 * c.depth-depth.result + 22) c.drive_regs.ensures.step
    c.drive_regs.ensures.drives.scope 32 _ c.read_cycle-c.result.address c.read_cycle-c.ensures.reads.address

pub ask_predict-requires-clause-word : goal.ask_predict-requires-clause-word
ask_predict-requires-clause-word c =
    still c.args.b.now.design c.drive_regs.new.b.design c.read_cycle-c.new.pool c.drive_regs.new.pool (21 * c.depth-depth.result + 22) c.drive_regs.ensures.step
    c.drive_regs.ensures.drives.scope 32 _ c.read_cycle-c.result.payload c.read_cycle-c.ensures.reads.payload

pub give_command-requires-clause-open_given : goal.give_command-requires-clause-open_given
give_command-requires-clause-open_given c =
    let takes = takes_of (spec_of kind.Fetch (params_of c.args.self.now.state.taken)) in
    ap (λ (os : List (Option Net)). out_at os 2) (c.ask_predict.ensures.asks.outs ∙ c.drive_regs.ensures.drives.outs)
    ∙ out_open takes c.args.b.now.entry 2 (world_of c.args.pool.now c.args.b.now c.args.reg.now) (c.requires.offered Fetch) refl (c.requires.begun.outs 2)

pub give_command-requires-clause-open_address : goal.give_command-requires-clause-open_address
give_command-requires-clause-open_address c =
    let takes = takes_of (spec_of kind.Fetch (params_of c.args.self.now.state.taken)) in
    ap (λ (os : List (Option Net)). out_at os 4) (c.ask_predict.ensures.asks.outs ∙ c.drive_regs.ensures.drives.outs)
    ∙ out_open takes c.args.b.now.entry 4 (world_of c.args.pool.now c.args.b.now c.args.reg.now) (c.requires.offered Fetch) refl (c.requires.begun.outs 4)

pub give_command-requires-clause-given : goal.give_command-requires-clause-given
give_command-requires-clause-given c =
    c.ask_predict.ensures.asks.kept c.drive_regs.new.pool c.read_cycle-c.result.given
    (still c.args.b.now.design c.drive_regs.new.b.design c.read_cycle-c.new.pool c.drive_regs.new.pool (21 * c.depth-depth.result + 22) c.drive_regs.ensures.step
    c.drive_regs.ensures.drives.scope 1 _ c.read_cycle-c.result.given c.read_cycle-c.ensures.reads.given)

pub give_command-requires-clause-address : goal.give_command-requires-clause-address
give_command-requires-clause-address c =
    c.ask_predict.ensures.asks.kept c.drive_regs.new.pool c.read_cycle-c.result.address
    (still c.args.b.now.design c.drive_regs.new.b.design c.read_cycle-c.new.pool c.drive_regs.new.pool (21 * c.depth-depth.result + 22) c.drive_regs.ensures.step
    c.drive_regs.ensures.drives.scope 32 _ c.read_cycle-c.result.address c.read_cycle-c.ensures.reads.address)

-- ---- what is left

module _ (c : goal.After-give_command) where
  abbrev entry : ℕ
  entry = c.args.b.now.entry

  abbrev old : World
  old = world_of c.args.pool.now c.args.b.now c.args.reg.now

  abbrev new : World
  new = world_of c.drive_regs.new.pool c.give_command.new.b c.args.reg.now

  abbrev depth : ℕ
  depth = c.depth-depth.result

  abbrev first : ℕ
  first = c.own_reg-first.result

  abbrev takes : Service → Bool
  takes = takes_of (spec_of kind.Fetch (params_of c.args.self.now.state.taken))

  adds : Adds c.args.pool.now c.drive_regs.new.pool (14 + (21 * depth + 22))
  adds = adds_of _ _ _ (c.read_cycle-c.ensures.step ▸ c.drive_regs.ensures.step)

  -- all is within the rights
  makes : Makes (Entry entry) (late_rights c.args.reg.now entry) c.args.b.now.design c.give_command.new.b.design (4 * depth + 9)
  makes =
      let r : Rights = late_rights c.args.reg.now entry in
      let own = c.requires.offered Fetch in
      let regs = c.drive_regs.ensures.drives in
      let asks = c.ask_predict.ensures.asks in
      let d1 = c.drive_regs.new.b.design in
      let d2 = c.ask_predict.new.b.design in
      let d3 = c.give_command.new.b.design in
      let second : Makes (Entry entry) r d1 d2 2 = subst (λ (x : ℕ). Makes (Entry x) r d1 d2 2) regs.entry (asks.makes r (λ k is. predict_right c.args.reg.now entry k own is)) in
      let third : Makes (Entry entry) r d2 d3 2 =
      subst (λ (x : ℕ). Makes (Entry x) r d2 d3 2) (asks.entry ∙ regs.entry) (c.give_command.ensures.makes r (fetch_right c.args.reg.now entry 2 own refl) (fetch_right c.args.reg.now entry 4 own refl)) in
      makes_then (Entry entry) r c.args.b.now.design d2 d3 (4 * depth + 7) 2 (4 * depth + 9)
      (makes_then (Entry entry) r c.args.b.now.design d1 d2 (4 * depth + 5) 2 (4 * depth + 7) (regs.makes r) second (omega arith)) third (omega arith)

  regs_same : c.give_command.new.b.design.regs ≡ c.drive_regs.new.b.design.regs
  regs_same = c.give_command.ensures.regs ∙ c.ask_predict.ensures.asks.regs

  is : depth ≡ depth_of (params_of c.args.self.now.state.taken)
  is = c.depth-depth.ensures.is

  opened : IsOpenCommand c.args.b.now.design entry (first + 4 * depth) c.args.plan.now.shape.reset_pc
  opened =
      let l : 1 ≤ depth_of (params_of c.args.self.now.state.taken) = (let l = c.depth-depth.ensures.least in let e = is in omega arith) in
      command_at takes entry old _ _ c.requires.begun first depth is l c.own_reg-first.ensures.owner c.own_reg-first.ensures.least

  begun : BeginsFetch depth c.args.plan.now.shape.reset_pc (part_in takes entry old)
  begun = subst (λ (n : ℕ). BeginsFetch n c.args.plan.now.shape.reset_pc (part_in takes entry old)) (sym is) c.requires.begun

  first_same : first ≡ begun.first
  first_same = first_is takes entry old _ _ begun c.depth-depth.ensures.least first c.own_reg-first.ensures.owner c.own_reg-first.ensures.least

  abbrev now : Env → Now
  now env = seen_in env c.read_cycle-c.new.pool c.read_cycle-c.result first

  at : (width : ℕ) (f : Env → ℕ) (net : Net) → Reads c.read_cycle-c.new.pool (scope_of c.args.b.now.design) width f net → (env : Env) → value_in env c.drive_regs.new.pool net ≡ f env
  at width f net r env = (reads_stay (scope_of c.args.b.now.design) c.read_cycle-c.new.pool c.drive_regs.new.pool (21 * depth + 22) c.drive_regs.ensures.step width f net r).value env

  left : IsLeft takes entry depth c.args.plan.now.shape.reset_pc first old c.own_ports-ports.result c.drive_regs.new.pool c.give_command.new.b.design now
  left =
      let r = c.read_cycle-c.ensures.reads in
      let d1 = c.drive_regs.new.b.design in
      let d3 = c.give_command.new.b.design in
      let pool = c.drive_regs.new.pool in
      let regs = c.drive_regs.ensures.drives in
      let asks = c.ask_predict.ensures.asks in
      let give = c.give_command.ensures in
      record {
        fits = c.requires.fits;
        nodes = 14 + (21 * depth + 22);
        things = 4 * depth + 9;
        adds = adds;
        grows = makes.grows;
        takes_predict = refl;
        own = c.requires.offered Fetch;
        no_bus = c.requires.offered DataBus;
        offered = c.own_ports-ports.ensures;
        count = ap (λ (ws : List WireRow). length ws) give.wires ∙ asks.count ∙ ap (λ (ws : List WireRow). length ws) regs.wires;
        many = ap (λ (rs : List RegRow). length rs) regs_same ∙ regs.count;
        arrays = give.arrays ∙ asks.arrays ∙ regs.arrays;
        places = λ i l. places_same d1 d3 pool entry regs_same now first depth i (c.drive_regs.ensures.places i l);
        command = command_same d1 d3 pool entry regs_same now (first + 4 * depth) c.args.plan.now.shape.reset_pc depth (c.drive_regs.ensures.command c.args.plan.now.shape.reset_pc opened);
        shows = λ o inputs env.
            seen_is c.read_cycle-c.new.pool (scope_of c.args.b.now.design) (first + 4 * depth) c.own_ports-ports.result (predict_in c.args.pool.now c.args.reg.now) c.read_cycle-c.result r first depth o refl inputs env
            ∙ ap (λ (q : Option PortTrees). now_in (numbers_from first depth) o q env)
            (sym (predict_kept c.args.b.now.design c.args.pool.now c.args.reg.now c.requires.fits.offers pool (14 + (21 * depth + 22)) adds));
        given = c.read_cycle-c.result.given;
        address = c.read_cycle-c.result.address;
        payload = c.read_cycle-c.result.payload;
        out_given = give.given;
        out_address = give.address;
        given_is = at 1 _ c.read_cycle-c.result.given r.given;
        address_is = at 32 _ c.read_cycle-c.result.address r.address;
        payload_is = at 32 _ c.read_cycle-c.result.payload r.payload;
        pc = λ by q o. ap (λ (ws : List WireRow). (wire_at ws q.pc).driver) give.wires ∙ c.ask_predict.ensures.pc by q o;
        word = λ by q o. ap (λ (ws : List WireRow). (wire_at ws q.word).driver) give.wires ∙ c.ask_predict.ensures.word by q o;
      }

pub returns-clause-adds : goal.returns-clause-adds
returns-clause-adds c = builds_of _ _ _ (14 + (21 * c.depth-depth.result + 22)) (4 * c.depth-depth.result + 9) (old c) (new c) (adds c) (makes c) (let m = c.depth-depth.ensures.most in omega arith)

pub returns-clause-fits : goal.returns-clause-fits
returns-clause-fits c =
    world_fits (old c) (new c) (14 + (21 * c.depth-depth.result + 22)) (4 * c.depth-depth.result + 9) c.requires.fits (adds c) (makes c).grows
    (λ h. c.give_command.ensures.drivers (c.ask_predict.ensures.drivers c.drive_regs.ensures.drivers)) (λ f. f)

pub returns-clause-done : goal.returns-clause-done
returns-clause-done c =
    late_done (takes c) (entry c) (depth c) c.args.plan.now.shape.reset_pc (first c) (old c) c.own_ports-ports.result c.drive_regs.new.pool c.give_command.new.b.design (now c) (left c) (begun c) (first_same c)

pub returns-clause-builds : goal.returns-clause-builds
returns-clause-builds c =
    subst (λ (n : ℕ). BuildsFetch n c.args.plan.now.shape.reset_pc (part_in (takes c) (entry c) (new c))) (is c)
    (late_builds (takes c) (entry c) (depth c) c.args.plan.now.shape.reset_pc (first c) (old c) c.own_ports-ports.result c.drive_regs.new.pool c.give_command.new.b.design (now c) (left c) (begun c) (first_same c))
