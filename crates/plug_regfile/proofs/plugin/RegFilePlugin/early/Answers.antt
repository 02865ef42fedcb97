use Rattle.std.proofs.Common.{◌≡◌, ◌∙◌, ℕ, List, get_or, refl, arith, ap, sym, subst, false, eqb, Option, Some, None}
use Rattle.std.proofs.lemmas.Bool.{both_ways}
use Rattle.hw_pool.specs.Meaning.{Env}
use Rattle.hw_expr.specs.Nets.{net_value}
use Rattle.hw_module.specs.declared.rows.Owner.TheVariants.{Entry}
use Rattle.hw_module.specs.declared.rows.RegRow.{RegRow}
use Rattle.hw_module.specs.declared.rows.ArrayRow.{ArrayRow}
use Rattle.hw_module.specs.Rows.{reg_at, array_at}
use Rattle.hw_module.specs.Rights.{Rights, Makes}
use Rattle.hw_module.proofs.Makes.{makes_then}
use Rattle.service_reg.specs.declared.service.Service.{Service}
use Rattle.service_reg.specs.declared.service.Service.TheVariants.{RegFile}
use Rattle.service_reg.specs.Services.{number}
use Rattle.service_ports.specs.declared.ports.RegFilePorts.{RegFilePorts}
use Rattle.service_ports.specs.Ports.{regfile_ports, input_shapes}
use Rattle.service_ports.specs.Registry.{RegistryValue, AddsOffer, offered_as}
use Rattle.service_ports.proofs.Offers.{none_some}
use Rattle.plug_api.specs.Calls.{takes_of}
use Rattle.plug_part.specs.Of.{write_trees}
use Rattle.plug_build.specs.World.{World, world_of}
use Rattle.plug_build.specs.Fits.{AreInputs, OfferFits}
use Rattle.plug_build.proofs.Worlds.{inputs_grown, offered_fits, world_fits, builds_of}
use Rattle.plug_kinds.specs.Kinds.{params_of, spec_of}
use Rattle.plug_kinds.specs.declared.kind.Kind.TheVariants.{Regfile}
use Rattle.plug_kit.specs.Made.{regfile_list}
use Rattle.plug_kit.specs.Bounds.{no_scope}
use Rattle.plug_kit.specs.Unit.{IsOffered}
use Rattle.plug_kit.proofs.Bounds.{nothing_bounded}
use Rattle.plug_kit.proofs.Carries.{carry_output}
use Rattle.plug_kit.proofs.Rows.{part_offer, part_array, reg_in, array_in}
use Rattle.plug_kit.proofs.Things.{only_new_array}
use Rattle.plug_kit.proofs.Unit.{offered_apart, offered_new, offered_open, no_other, offered_in, offered_wires}
use Rattle.plug_regfile.specs.Machine.{read_of}
use Rattle.plug_regfile.proofs.plugin.RegFilePlugin.early.Goals as goal

no_rights : Rights
no_rights = record { wires = λ k. false; locked = λ k. false; outs = λ k. false }

not_there : (o : Option (ℕ × RegFilePorts)) → offered_as regfile_ports o ≡ None → o ≡ None
not_there None e = refl
not_there (Some o) e = absurd (none_some _ _ e refl)

pub offer_regfile-requires : goal.offer_regfile-requires
offer_regfile-requires c = record { «open» = not_there _ (c.requires.unoffered RegFile refl) }

abbrev old_world : goal.After-offer_regfile → World
old_world c = world_of c.args.pool.now c.args.b.now c.args.reg.now

abbrev new_world : goal.After-offer_regfile → World
new_world c = world_of c.read_cells-ports.new.pool c.array-array.new.self c.offer_regfile.new.self

by_entry : (c : goal.After-offer_regfile) → c.entry.result ≡ c.args.b.now.entry
by_entry c = c.entry.ensures ∙ (c.array-array.ensures.entry ∙ c.regfile_inputs-wires.ensures.entry)

array_made : (c : goal.After-offer_regfile) (r : Rights) → Makes (Entry c.args.b.now.entry) r c.regfile_inputs-wires.new.b.design c.array-array.new.self.design 1
array_made c r = subst (λ (n : ℕ). Makes (Entry n) r c.regfile_inputs-wires.new.b.design c.array-array.new.self.design 1) c.regfile_inputs-wires.ensures.entry (c.array-array.ensures.makes r)

all_made : (c : goal.After-offer_regfile) (r : Rights) → Makes (Entry c.args.b.now.entry) r c.args.b.now.design c.array-array.new.self.design 6
all_made c r = makes_then (Entry c.args.b.now.entry) r _ _ _ 5 1 6 (c.regfile_inputs-wires.ensures.made.makes r) (array_made c r) (omega arith)

offered : (c : goal.After-offer_regfile) → IsOffered RegFile c.args.b.now.entry (old_world c) (new_world c) c.regfile_inputs-wires.new.b.design (regfile_list c.regfile_inputs-wires.result) (regfile_ports c.read_cells-ports.result)
offered c = record {
  nothing = c.requires.nothing;
  made = c.regfile_inputs-wires.ensures.made;
  wires = c.array-array.ensures.wires;
  inputs = c.read_cells-ports.ensures.inputs;
  offers = subst (λ (by : ℕ). AddsOffer RegFile by (regfile_ports c.read_cells-ports.result) c.args.reg.now c.offer_regfile.new.self) (by_entry c) c.offer_regfile.ensures.adds;
}

inputs_there : (c : goal.After-offer_regfile) → AreInputs c.array-array.new.self.design c.args.b.now.entry (regfile_ports c.read_cells-ports.result).inputs (input_shapes RegFile)
inputs_there c =
    subst (λ (ws : List ℕ). AreInputs c.array-array.new.self.design c.args.b.now.entry ws (input_shapes RegFile)) (sym c.read_cells-ports.ensures.inputs)
    (inputs_grown _ _ 1 (array_made c no_rights).grows c.args.b.now.entry (regfile_list c.regfile_inputs-wires.result) (input_shapes RegFile) c.regfile_inputs-wires.ensures.made.inputs)

pub returns-clause-fits : goal.returns-clause-fits
returns-clause-fits c =
    let q = c.read_cells-ports.new.pool in
    let d = c.array-array.new.self.design in
    let n = c.read_cells-ports.ensures in
    let p = c.read_cells-ports.result in
    let fit : OfferFits d q RegFile c.entry.result (regfile_ports p) = record {
      inputs = subst (λ (by : ℕ). AreInputs d by (regfile_ports p).inputs (input_shapes RegFile)) (sym (by_entry c)) (inputs_there c);
      outputs = (carry_output no_scope d q 32 2 _ p.a n.a, (carry_output no_scope d q 32 2 _ p.b n.b, tt));
      apart = offered_apart RegFile c.args.b.now.entry (old_world c) (new_world c) _ _ _ (offered c);
    } in
    world_fits (old_world c) (new_world c) 12 6 c.requires.fits n.adds (all_made c no_rights).grows
    (λ f. c.array-array.ensures.drivers q (c.regfile_inputs-wires.ensures.made.drivers q f))
    (λ f. offered_fits d q c.args.reg.now c.offer_regfile.new.self f RegFile (record { by = c.entry.result; ports = regfile_ports p }) c.offer_regfile.ensures.single c.offer_regfile.ensures.adds.singles
    (ap (λ (r : RegistryValue). r.execs) c.offer_regfile.ensures.is) fit
    (offered_new RegFile c.args.b.now.entry (old_world c) (new_world c) _ _ _ (offered c) c.requires.fits))

pub returns-clause-adds : goal.returns-clause-adds
returns-clause-adds c = builds_of _ _ _ 12 6 _ _ c.read_cells-ports.ensures.adds (all_made c _) (omega arith)

pub returns-clause-open : goal.returns-clause-open
returns-clause-open c = offered_open RegFile c.args.b.now.entry (old_world c) (new_world c) _ _ _ (offered c)

pub returns-clause-begun : goal.returns-clause-begun
unfolding net_value
returns-clause-begun c =
    let e = c.args.b.now.entry in
    let n = c.read_cells-ports.ensures in
    let made = c.regfile_inputs-wires.ensures.made in
    let takes = takes_of (spec_of Regfile (params_of c.args.self.now.state.taken)) in
    let old = old_world c in
    let new = new_world c in
    let o = offered c in
    let at = λ (env : Env) (k : ℕ). ap (λ (ws : List ℕ). env.wires (get_or ws k 0)) (sym n.inputs) in
    record {
      ports = _;
      array = c.array-array.result;
      reads = record {
        only = record { is = offered_in RegFile e old new _ _ _ o takes; none = λ s differs. part_offer takes e new s None (no_other RegFile e old new _ _ _ o s (λ same. both_ways _ differs (ap (λ (t : Service). eqb (number t) (number RegFile)) same))) };
        a = λ env. n.a.value_is env (nothing_bounded env) ∙ ap (read_of (env.cells c.array-array.result)) (at env 0);
        b = λ env. n.b.value_is env (nothing_bounded env) ∙ ap (read_of (env.cells c.array-array.result)) (at env 1);
        wires = offered_wires RegFile e old new _ _ _ o takes;
        regs = λ k row h. c.requires.nothing.regs k (ap (λ (rows : List RegRow). (reg_at rows k).owner) (sym (c.array-array.ensures.regs ∙ made.regs)) ∙ (reg_in takes e new k row h).0);
        arrays = λ k row h. only_new_array e _ c.regfile_inputs-wires.new.b.design c.array-array.new.self.design c.array-array.ensures.number c.array-array.ensures.count c.array-array.ensures.before
            (λ j own. c.requires.nothing.arrays j (ap (λ (rows : List ArrayRow). (array_at rows j).owner) (sym made.arrays) ∙ own)) k (array_in takes e new k row h).0;
      };
      cells = part_array takes e new c.array-array.result (ap (λ (row : ArrayRow). row.owner) c.array-array.ensures.made ∙ ap Entry c.regfile_inputs-wires.ensures.entry)
          ∙ ap (λ (row : ArrayRow). Some (record { width = row.width; bits = row.bits; write = write_trees new.pool.nodes row.write })) c.array-array.ensures.made;
    }
