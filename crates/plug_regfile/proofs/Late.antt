-- What an entry has built once its array has its write.
use Rattle.std.proofs.Common.{◌≡◌, ◌∙◌, ℕ, ◌<◌, List, length, get_or, refl, ap, sym, Bool, false, None, Some, inl, inr}
use Rattle.std.proofs.lemmas.Bool.{cases_eq}
use Rattle.hw_pool.specs.Frame.{Adds}
use Rattle.hw_pool.specs.Meaning.{Env}
use Rattle.hw_expr.specs.Nets.{net_value}
use Rattle.hw_module.specs.declared.rows.Owner.TheVariants.{Entry}
use Rattle.hw_module.specs.declared.rows.WireRow.{WireRow}
use Rattle.hw_module.specs.declared.rows.RegRow.{RegRow}
use Rattle.hw_module.specs.declared.rows.ArrayRow.{ArrayRow}
use Rattle.hw_module.specs.Rows.{wire_at, reg_at, array_at}
use Rattle.service_reg.specs.declared.service.Service.{Service}
use Rattle.service_reg.specs.declared.service.Service.TheVariants.{Fetch, RegFile, DataBus}
use Rattle.service_ports.specs.declared.ports.RegFilePorts.{RegFilePorts}
use Rattle.service_ports.specs.Ports.{Ports, regfile_ports}
use Rattle.service_ports.specs.Registry.{offer_of}
use Rattle.service_ports.proofs.Offers.{none_some}
use Rattle.plug_part.specs.Owned.{offers}
use Rattle.plug_part.specs.Part.{PartArray, PortTrees}
use Rattle.plug_part.specs.Of.{net_tree, write_trees}
use Rattle.plug_part.specs.Things.{input_in}
use Rattle.plug_build.specs.World.{World, part_in}
use Rattle.plug_build.specs.Fits.{WorldFits}
use Rattle.plug_build.specs.Done.{IsDone}
use Rattle.plug_kit.proofs.Bounds.{nothing_bounded}
use Rattle.plug_kit.proofs.Rows.{some_eq, part_wire, part_reg, part_array, wire_in, reg_in, array_in, offer_in, offers_stay}
use Rattle.plug_kit.proofs.Things.{open_array}
use Rattle.plug_kit.proofs.Unit.{offered_done}
use Rattle.plug_regfile.specs.Builds.{BeginsRegFile, BuildsRegFile}
use Rattle.plug_regfile.specs.Steps.{Writes}

module _ (takes : Service → Bool) (e : ℕ) (old : World) (begun : BeginsRegFile (part_in takes e old)) where
  -- the entry owns an array, and no other
  pub array_owned : (k : ℕ) × (k < length old.design.arrays) × ((array_at old.design.arrays k).owner ≡ Entry e)
  array_owned =
      let h = open_array takes e old begun.array 32 5 begun.cells in
      (begun.array, h.0, ap (λ (row : ArrayRow). row.owner) h.1)

  array_is : (k : ℕ) → (array_at old.design.arrays k).owner ≡ Entry e → k ≡ begun.array
  array_is k own = begun.reads.arrays k _ (part_array takes e old k own)

  pub array_open : (k : ℕ) → (array_at old.design.arrays k).owner ≡ Entry e → array_at old.design.arrays k ≡ record { owner = Entry e; width = 32; bits = 5; write = None }
  array_open k own = ap (array_at old.design.arrays) (array_is k own) ∙ (open_array takes e old begun.array 32 5 begun.cells).1

  module _ (new : World) (fits : WorldFits old) (adds : Adds old.pool new.pool 3) (same : new.reg ≡ old.reg)
      (ports : RegFilePorts) (offered : offer_of old.reg e RegFile ≡ Some (regfile_ports ports))
      (array : ℕ) (own : (array_at old.design.arrays array).owner ≡ Entry e) (writes : Writes e old.design new.design new.pool ports array) where
    stays : (s : Service) → (part_in takes e new).offers s ≡ (part_in takes e old).offers s
    stays = offers_stay takes e 3 old new fits adds same

    inputs : begun.ports.inputs ≡ (regfile_ports ports).inputs
    inputs =
        let o = offer_in takes e old RegFile begun.ports begun.reads.only.is in
        ap (λ (t : PortTrees). t.inputs) o.2 ∙ ap (λ (p : Ports). p.inputs) (some_eq (sym o.1 ∙ offered))

    -- what is written comes from the inputs
    input_is : (k : ℕ) (env : Env) → env.wires (get_or (regfile_ports ports).inputs k 0) ≡ input_in begun.ports k env
    input_is k env = ap (λ (ws : List ℕ). env.wires (get_or ws k 0)) (sym inputs)

    only_array : (k : ℕ) → (array_at new.design.arrays k).owner ≡ Entry e → k ≡ begun.array
    only_array k has = elim (cases_eq k array) [
      | inl at ↦ at ∙ array_is array own
      | inr other ↦ array_is k (ap (λ (row : ArrayRow). row.owner) (sym (writes.others k other)) ∙ has)
    ]

    pub built : BuildsRegFile (part_in takes e new)
    unfolding net_value
    built =
        let at = sym (array_is array own) in
        record {
          ports = begun.ports;
          array = begun.array;
          reads = record {
            only = record { is = stays RegFile ∙ begun.reads.only.is; none = λ s differs. stays s ∙ begun.reads.only.none s differs };
            a = begun.reads.a;
            b = begun.reads.b;
            wires = λ k row h. begun.reads.wires k _ (part_wire takes e old k (ap (λ (rows : List WireRow). (wire_at rows k).owner) (sym writes.wires) ∙ wire_in takes e new k row h));
            regs = λ k row h. begun.reads.regs k _ (part_reg takes e old k (ap (λ (rows : List RegRow). (reg_at rows k).owner) (sym writes.regs) ∙ (reg_in takes e new k row h).0));
            arrays = λ k row h. only_array k (array_in takes e new k row h).0;
          };
          cells = record {
            row = record { width = 32; bits = 5; write = write_trees new.pool.nodes (Some writes.write) };
            is = ap (part_in takes e new).arrays at
                ∙ (part_array takes e new array (ap (λ (row : ArrayRow). row.owner) writes.row)
                ∙ ap (λ (row : ArrayRow). Some (record { width = row.width; bits = row.bits; write = write_trees new.pool.nodes row.write })) writes.row);
            wide = refl;
            many = refl;
            write = record { enable = net_tree new.pool.nodes writes.write.enable; addr = net_tree new.pool.nodes writes.write.addr; value = net_tree new.pool.nodes writes.write.value };
            write_is = refl;
            enable_is = λ env. writes.enable.value_is env (nothing_bounded env) ∙ input_is 2 env;
            addr_is = λ env. writes.addr.value_is env (nothing_bounded env) ∙ input_is 3 env;
            item_is = λ env. writes.item.value_is env (nothing_bounded env) ∙ input_is 4 env;
          };
        }

    pub done : offers new.reg e Fetch ≡ false → offers new.reg e DataBus ≡ false → IsDone e new
    done = offered_done takes RegFile e new built.ports built.reads.only.is built.reads.wires
        (λ k row h none. built.reads.regs k row h)
        (λ k row h none.
        let here : (part_in takes e new).arrays built.array ≡ Some row = ap (part_in takes e new).arrays (sym (built.reads.arrays k row h)) ∙ h in
        none_some row.write built.cells.write none (ap (λ (r : PartArray). r.write) (some_eq (sym here ∙ built.cells.is)) ∙ built.cells.write_is))
