use Rattle.std.proofs.Common.{◌≡◌, ◌∙◌, ℕ, ap, arith, inl, refl, sym, subst, Bool, Some}
use Rattle.hw_pool.proofs.Frames.{adds_nothing}
use Rattle.hw_module.specs.declared.rows.Owner.TheVariants.{Entry}
use Rattle.hw_module.specs.declared.rows.WireRow.{WireRow}
use Rattle.hw_module.specs.Rights.{Makes, Rights}
use Rattle.hw_module.specs.Rows.{wire_at}
use Rattle.hw_module.proofs.Makes.{makes_then}
use Rattle.plug_build.specs.World.{late_rights, world_of}
use Rattle.plug_build.proofs.Worlds.{builds_of, world_fits}
use Rattle.service_reg.specs.declared.service.Service.{Service}
use Rattle.service_reg.specs.declared.service.Service.TheVariants.{Fetch, RegFile, DataBus}
use Rattle.plug_api.specs.Calls.{takes_of, terms_of}
use Rattle.plug_kinds.specs.declared.kind.Kind.TheVariants as kind
use Rattle.plug_kinds.specs.Kinds.{params_of, spec_of}
use Rattle.plug_hazard.specs.Builds.{bypassed_of}
use Rattle.plug_hazard.specs.Found.{plain_row}
use Rattle.plug_hazard.proofs.Late.{late_builds, late_done}
use Rattle.plug_hazard.proofs.Parts.{parts_meet_laws}
use Rattle.plug_hazard.proofs.plugin.HazardPlugin.late.Goals as goal

pub find-found-requires-clause-there : goal.find-found-requires-clause-there
find-found-requires-clause-there c = c.requires.needs RegFile refl

-- both drivers are within the rights
makes : (c : goal.After-drive-2) → Makes (Entry c.args.b.now.entry) (late_rights c.args.reg.now c.args.b.now.entry) c.args.b.now.design c.drive-2.new.self.design 2
makes c =
    let e = c.args.b.now.entry in
    let r : Rights = late_rights c.args.reg.now e in
    let f = c.find-found.ensures.found in
    let owner_b = ap (λ (row : WireRow). row.owner) (c.drive.ensures.others c.find-found.result.wire_b f.differ ∙ f.row_b) in
    makes_then (Entry e) r c.args.b.now.design c.drive.new.self.design c.drive-2.new.self.design 1 1 2
    (c.drive.ensures.makes r (inl (ap (λ (row : WireRow). row.owner) f.row_a, f.free_a)))
    (subst (λ (x : ℕ). Makes (Entry x) r c.drive.new.self.design c.drive-2.new.self.design 1) c.drive.ensures.entry
    (c.drive-2.ensures.makes r (inl (owner_b ∙ ap Entry (sym c.drive.ensures.entry), f.free_b)))) (omega arith)

pub returns-clause-adds : goal.returns-clause-adds
returns-clause-adds c =
    builds_of _ _ _ 0 2 (world_of c.args.pool.now c.args.b.now c.args.reg.now) (world_of c.args.pool.now c.drive-2.new.self c.args.reg.now) (adds_nothing _ _ refl (omega arith)) (makes c) (omega arith)

pub returns-clause-fits : goal.returns-clause-fits
returns-clause-fits c =
    world_fits (world_of c.args.pool.now c.args.b.now c.args.reg.now) (world_of c.args.pool.now c.drive-2.new.self c.args.reg.now) 0 2 c.requires.fits (adds_nothing _ _ refl (omega arith)) (makes c).grows
    (λ h. c.drive-2.ensures.drivers (c.drive.ensures.drivers h)) (λ f. f)

pub returns-clause-law : goal.returns-clause-law
returns-clause-law c = λ p builds.
    parts_meet_laws (bypassed_of (params_of c.args.self.now.state.taken)) (terms_of (spec_of kind.Hazard (params_of c.args.self.now.state.taken)) c.args.plan.now) p builds

-- ---- what is left

module _ (c : goal.After-drive-2) where
  driven_a : wire_at c.drive-2.new.self.design.wires c.find-found.result.wire_a ≡ record (plain_row c.args.b.now.entry) { driver = Some c.find-found.result.a }
  driven_a =
      let f = c.find-found.ensures.found in
      c.drive-2.ensures.others c.find-found.result.wire_a (λ same. f.differ (sym same)) ∙ c.drive.ensures.driven
      ∙ (λ i. record (f.row_a i) { driver = Some c.find-found.result.a })

  driven_b : wire_at c.drive-2.new.self.design.wires c.find-found.result.wire_b ≡ record (plain_row c.args.b.now.entry) { driver = Some c.find-found.result.b }
  driven_b =
      let f = c.find-found.ensures.found in
      let row : wire_at c.drive.new.self.design.wires c.find-found.result.wire_b ≡ plain_row c.args.b.now.entry = c.drive.ensures.others c.find-found.result.wire_b f.differ ∙ f.row_b in
      c.drive-2.ensures.driven ∙ (λ i. record (row i) { driver = Some c.find-found.result.b })

  abbrev takes : Service → Bool
  takes = takes_of (spec_of kind.Hazard (params_of c.args.self.now.state.taken))

  abbrev bypassed : ℕ → Bool
  bypassed = bypassed_of (params_of c.args.self.now.state.taken)

pub returns-clause-done : goal.returns-clause-done
returns-clause-done c =
    let same = c.find-found.ensures.same (takes c) (bypassed c) c.requires.begun in
    late_done (takes c) (bypassed c) c.args.b.now.entry (world_of c.args.pool.now c.args.b.now c.args.reg.now) c.drive-2.new.self.design c.find-found.result c.requires.begun
    c.find-found.ensures.found same.0 same.1 (makes c).grows (driven_a c) (driven_b c) (λ k na nb. c.drive-2.ensures.others k nb ∙ c.drive.ensures.others k na)
    (c.drive-2.ensures.regs ∙ c.drive.ensures.regs) (c.drive-2.ensures.arrays ∙ c.drive.ensures.arrays) (c.requires.offered Fetch) (c.requires.offered DataBus)

pub returns-clause-builds : goal.returns-clause-builds
returns-clause-builds c =
    let same = c.find-found.ensures.same (takes c) (bypassed c) c.requires.begun in
    late_builds (takes c) (bypassed c) c.args.b.now.entry (world_of c.args.pool.now c.args.b.now c.args.reg.now) c.drive-2.new.self.design c.find-found.result c.requires.begun
    c.find-found.ensures.found same.0 same.1 (makes c).grows (driven_a c) (driven_b c) (λ k na nb. c.drive-2.ensures.others k nb ∙ c.drive.ensures.others k na)
    (c.drive-2.ensures.regs ∙ c.drive.ensures.regs) (c.drive-2.ensures.arrays ∙ c.drive.ensures.arrays) refl
