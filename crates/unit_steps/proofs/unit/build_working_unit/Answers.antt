use Rattle.std.proofs.Common.{◌≡◌, ◌∙◌, ℕ, ◌+◌, ◌*◌, ◌<◌, ◌∷◌, [], ◌++◌, length, arith, ap, subst, refl, Some, inl}
use Rattle.core_words.specs.Values.{choose}
use Rattle.hw_pool.specs.Meaning.{Env}
use Rattle.hw_gates.specs.Places.{value_in}
use Rattle.hw_gates.proofs.Steps.{adds_of, kept, ◌▸◌}
use Rattle.hw_module.specs.declared.rows.Owner.TheVariants.{Entry}
use Rattle.hw_module.specs.declared.rows.RegRow.{RegRow}
use Rattle.hw_module.specs.Rights.{Makes}
use Rattle.hw_module.specs.Rows.{reg_at}
use Rattle.hw_module.proofs.Drivers.{drivers_stay}
use Rattle.hw_module.proofs.Makes.{makes_then}
use Rattle.service_reg.specs.declared.service.Service.TheVariants.{Exec}
use Rattle.service_ports.specs.Ports.{exec_ports}
use Rattle.service_ports.specs.Registry.{AddsOffer}
use Rattle.plug_build.specs.World.{world_of}
use Rattle.plug_kit.specs.Made.{exec_list}
use Rattle.unit_steps.specs.Registers.{DrivesRegs, MakesRegs}
use Rattle.unit_steps.specs.Parts.{ends_over}
use Rattle.unit_steps.proofs.RegSteps.{all_stay, driven_as, driven_stays, drives_then, regs_then}
use Rattle.unit_steps.proofs.Building.{IsWorkingUnit, working_begins, working_builds, working_fits, working_open}
use Rattle.unit_steps.proofs.unit.build_working_unit.Goals as goal

-- all that was built
built : (g : _) (c : goal.After-offer_exec g) → IsWorkingUnit (g.W.Works.machine c.args.unit.now) (g.W.Works.widths c.args.unit.now) c.args.b.now.entry (g.W.Works.nodes c.args.unit.now + 7 + 7)
    (world_of c.args.pool.now c.args.b.now c.args.reg.now) (world_of c.working_ports-ports.new.pool c.drive_mark.new.b c.offer_exec.new.self)
    c.exec_inputs-wires.new.b.design c.make_mark-mark.result c.exec_inputs-wires.result c.working_ports-ports.result
built g c =
    let e = c.args.b.now.entry in
    let wires = c.exec_inputs-wires.result in
    let b1 = c.exec_inputs-wires.new.b in
    let b3 = c.registers.new.b in
    let b4 = c.circuit-nets.new.b in
    let q4 = c.circuit-nets.new.pool in
    let made = c.exec_inputs-wires.ensures.made in
    let mark : ℕ = c.make_mark-mark.result in
    let widths = g.W.Works.widths c.args.unit.now in
    let m = c.make_mark-mark.ensures in
    let r = c.registers.ensures in
    let n = c.circuit-nets.ensures in
    let b2 = c.make_mark-mark.new.b in
    let b5 = c.drive_mark.new.b in
    let q5 = c.drive_mark.new.pool in
    let q6 = c.working_ports-ports.new.pool in
    let machine = g.W.Works.machine c.args.unit.now in
    let many = length widths in
    let k = c.drive_mark.ensures in
    let p = c.working_ports-ports.ensures in
    let nets = c.circuit-nets.result in
    let regs : MakesRegs (1 + many) b1 b3 = regs_then b1 b2 b3 1 many (1 + many) m.makes r.makes refl in
    let drives : DrivesRegs (many + 1) b3 b5 = drives_then b3 b4 b5 many 1 (many + 1) n.drives k.drives refl in
    let by1 : b1.entry ≡ e = c.exec_inputs-wires.ensures.entry in
    let by3 : b3.entry ≡ e = regs.entry ∙ by1 in
    let by4 : b4.entry ≡ e = n.drives.entry ∙ by3 in
    let by : c.entry.result ≡ e = c.entry.ensures ∙ (k.drives.entry ∙ by4) in
    let ends : (env : Env) → value_in env q5 nets.ends ≡ ends_over machine many (exec_list wires) mark env = λ env. kept env q4 q5 7 nets.ends k.step n.ends_net.0 ∙ n.ends env in
    let row : (j : ℕ) → (j ≡ mark → ⊥) → j < mark + 1 → reg_at b5.design.regs j ≡ reg_at b3.design.regs j = λ j other l. k.others j other ∙ n.others j (inl l) in
    record {
      fits = c.requires.fits;
      nothing = c.requires.nothing;
      made = made;
      adds = adds_of _ _ _ ((n.step ▸ k.step) ▸ p.step);
      number = m.number;
      wires = drives.wires ∙ regs.wires;
      arrays = drives.arrays ∙ regs.arrays;
      count = drives.count ∙ regs.count;
      before = λ j l.
          let number = m.number in
          ap (λ (x : RegRow). x.owner) (row j (λ same. absurd (omega (arith, number, l, same))) (omega (arith, number, l)) ∙ regs.before j l);
      makes = λ x.
          let first : Makes (Entry e) x b1.design b3.design (1 + many) = subst (λ (y : ℕ). Makes (Entry y) x b1.design b3.design (1 + many)) by1 (regs.makes x) in
          let second : Makes (Entry e) x b3.design b5.design (many + 1) = subst (λ (y : ℕ). Makes (Entry y) x b3.design b5.design (many + 1)) by3 (drives.makes x) in
          makes_then (Entry e) x c.args.b.now.design b3.design b5.design (8 + many) (many + 1) (9 + 2 * many)
          (makes_then (Entry e) x c.args.b.now.design b1.design b3.design 7 (1 + many) (8 + many) (made.makes x) first (omega arith)) second (omega arith);
      drivers = drivers_stay b5.design q5 q6 7 (adds_of _ _ 7 p.step) k.drivers;
      at_work = driven_as b5.design q6 b4.entry e mark 1 (Some 0) _ _ by4
          (λ env. ap (λ (v : ℕ). choose (env.wires wires.go) (choose v 0 (choose (env.wires wires.clear) 0 1)) 0) (n.ends env))
          (driven_stays b5.design b5.design q5 q6 7 b4.entry mark 1 (Some 0) _ p.step refl k.driven);
      holds = all_stay b4.design b5.design q4 q6 (7 + 7) b3.entry e (mark + 1) widths _ (k.step ▸ p.step) by3 (λ j l. k.others j (λ same. absurd (omega (arith, l, same)))) n.driven;
      inputs = p.inputs;
      outputs = p.outputs;
      done = λ env. p.done env ∙ ap (λ (v : ℕ). choose (env.wires wires.go) v 0) (ends env);
      result = λ env. p.value env ∙ (kept env q4 q5 7 nets.value k.step n.value_net.0 ∙ n.value env);
      next_pc = p.next_pc;
      trap = p.trap;
      fence = p.fence;
      execs = c.offer_exec.ensures.execs ∙ ap (λ (x : ℕ). c.args.reg.now.execs ++ record { by = x; ports = c.working_ports-ports.result } ∷ []) by;
      offers = subst (λ (x : ℕ). AddsOffer Exec x (exec_ports c.working_ports-ports.result) c.args.reg.now c.offer_exec.new.self) by c.offer_exec.ensures.adds;
    }

pub returns-clause-fits : goal.returns-clause-fits
returns-clause-fits g c = working_fits _ _ _ _ _ _ _ _ _ _ (built g c)

pub returns-clause-adds : goal.returns-clause-adds
returns-clause-adds g c = λ r most sum. working_builds _ _ _ _ _ _ _ _ _ _ (built g c) r most (omega (arith, sum))

pub returns-clause-open : goal.returns-clause-open
returns-clause-open g c = working_open _ _ _ _ _ _ _ _ _ _ (built g c)

pub returns-clause-begun : goal.returns-clause-begun
returns-clause-begun g c = working_begins _ _ _ _ _ _ _ _ _ _ (built g c)
