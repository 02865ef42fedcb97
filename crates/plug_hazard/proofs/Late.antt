-- What the second call leaves: both forward wires are driven with RegFile's outputs, and all is as it was besides.
use Rattle.std.proofs.Common.{◌≡◌, ◌∙◌, ℕ, ◌<◌, List, [], ◌∷◌, length, map, get_or, ap, sym, refl, Bool, true, false, ◌||◌, ◌&&◌, cond, eqb, Option, None, Some, inl, inr}
use Rattle.std.proofs.lemmas.Bool.{cases_lt, cases_eq, both_ways, or_cases, and_parts, eqb-true, cond-true}
use Rattle.std.proofs.lemmas.List.{get_or_past}
use Rattle.hw_pool.specs.Meaning.{value}
use Rattle.hw_expr.specs.declared.net.Net.{Net}
use Rattle.hw_module.specs.declared.rows.Owner.TheVariants.{Pipe, Entry}
use Rattle.hw_module.specs.declared.rows.WireRow.{WireRow}
use Rattle.hw_module.specs.declared.rows.RegRow.{RegRow}
use Rattle.hw_module.specs.declared.rows.ArrayRow.{ArrayRow}
use Rattle.hw_module.specs.Rows.{ModuleValue, wire_at, reg_at, array_at}
use Rattle.hw_module.specs.Frame.{Grows}
use Rattle.service_reg.specs.declared.service.Service.{Service}
use Rattle.service_reg.specs.declared.service.Service.TheVariants.{Fetch, Hazard, RegFile, DataBus}
use Rattle.service_ports.specs.Ports.{Ports}
use Rattle.service_ports.specs.Registry.{Offered}
use Rattle.service_ports.proofs.Offers.{none_some}
use Rattle.plug_part.specs.Part.{Part, PortTrees, tree_at}
use Rattle.plug_part.specs.Of.{part_of, net_tree, tree_option, port_trees}
use Rattle.plug_part.specs.Owned.{is_among, is_input_of, is_own_input, is_fetch_out, is_bus_out, is_predict_input, offers, ports_of}
use Rattle.plug_part.specs.Things.{HasWire, HasDriver}
use Rattle.plug_part.specs.Alone.{OffersOnly}
use Rattle.plug_build.specs.World.{World, part_in}
use Rattle.plug_build.specs.Done.{IsDone}
use Rattle.plug_build.proofs.Offers.{own_input_from}
use Rattle.plug_kit.proofs.Among.{wire_stays}
use Rattle.plug_kit.proofs.Rows.{part_wire, part_reg, part_array, wire_in, offer_in}
use Rattle.plug_hazard.specs.declared.find.Found.{Found}
use Rattle.plug_hazard.specs.Builds.{BeginsHazard, BuildsHazard, now_in, hold_in, a_in, b_in}
use Rattle.plug_hazard.specs.Found.{IsFound, plain_row}

-- a row of an entry is a row of the module
there_wire : (wires : List WireRow) (e k : ℕ) → (wire_at wires k).owner ≡ Entry e → k < length wires
there_wire wires e k own = elim (cases_lt k (length wires)) [
  | inl l ↦ l
  | inr past ↦ absurd (let n : Pipe ≡ Entry e = sym (ap (λ (row : WireRow). row.owner) (get_or_past wires k _ past)) ∙ own in cc)
]

module _ (takes : Service → Bool) (bypassed : ℕ → Bool) (e : ℕ) (w : World) (m : ModuleValue) (f : Found)
    (begun : BeginsHazard bypassed (part_in takes e w)) (found : IsFound e w f) (first : begun.wire_a ≡ f.wire_a) (second : begun.wire_b ≡ f.wire_b)
    (grows : Grows w.design m 2)
    (driven_a : wire_at m.wires f.wire_a ≡ record (plain_row e) { driver = Some f.a }) (driven_b : wire_at m.wires f.wire_b ≡ record (plain_row e) { driver = Some f.b })
    (others : (k : ℕ) → (k ≡ f.wire_a → ⊥) → (k ≡ f.wire_b → ⊥) → wire_at m.wires k ≡ wire_at w.design.wires k)
    (regs : m.regs ≡ w.design.regs) (arrays : m.arrays ≡ w.design.arrays) where
  abbrev after : World
  after = record { pool = w.pool; design = m; reg = w.reg }

  -- an input of Hazard is an input of the entry
  own_input : (k : ℕ) → is_among k begun.ports.inputs ≡ true → is_own_input w.reg e k ≡ true
  own_input k among =
      let o = offer_in takes e w Hazard begun.ports begun.over.only.is in
      own_input_from w.reg e k Hazard (ap (λ (q : Option Ports). is_input_of q k) o.1 ∙ (ap (λ (q : PortTrees). is_among k q.inputs) (sym o.2) ∙ among))

  -- a forward wire that is neither of the two is an input
  other_input : (k : ℕ) → (k ≡ f.wire_a → ⊥) → (k ≡ f.wire_b → ⊥) → (wire_at w.design.wires k).owner ≡ Entry e → is_own_input w.reg e k ≡ true
  other_input k na nb own =
      elim (or_cases (eqb k begun.wire_a) _ (begun.bare.only k _ (part_wire takes e w k own))) [
        | inl a ↦ absurd (na (eqb-true k begun.wire_a a ∙ first))
        | inr rest ↦ elim (or_cases (eqb k begun.wire_b) _ rest) [
          | inl b ↦ absurd (nb (eqb-true k begun.wire_b b ∙ second))
          | inr among ↦ own_input k among
        ]
      ]

  is_open : (k : ℕ) (net : Net) → wire_at m.wires k ≡ record (plain_row e) { driver = Some net } → (wire_at m.wires k).driver ≡ None → ⊥
  is_open k net row none = none_some (wire_at m.wires k).driver net none (ap (λ (r : WireRow). r.driver) row)

  pub late_done : offers w.reg e Fetch ≡ false → offers w.reg e DataBus ≡ false → IsDone e after
  late_done fetch bus = record {
    wires = λ k l own free none. elim (cases_eq k f.wire_a) [
      | inl a ↦ is_open k f.a ((λ i. wire_at m.wires (a i)) ∙ driven_a) none
      | inr na ↦ elim (cases_eq k f.wire_b) [
        | inl b ↦ is_open k f.b ((λ i. wire_at m.wires (b i)) ∙ driven_b) none
        | inr nb ↦ both_ways (is_own_input w.reg e k) free (other_input k na nb (ap (λ (r : WireRow). r.owner) (sym (others k na nb)) ∙ own))
      ]
    ];
    regs = λ k l own none. begun.bare.regs k _ (part_reg takes e w k (ap (λ (rs : List RegRow). (reg_at rs k).owner) (sym regs) ∙ own));
    arrays = λ k l own none. begun.bare.arrays k _ (part_array takes e w k (ap (λ (rs : List ArrayRow). (array_at rs k).owner) (sym arrays) ∙ own));
    outs = λ p is none. elim (or_cases (offers w.reg e Fetch && is_fetch_out p) (offers w.reg e DataBus && is_bus_out p) is) [
      | inl o ↦ both_ways (offers w.reg e Fetch) fetch (and_parts (offers w.reg e Fetch) (is_fetch_out p) o).0
      | inr o ↦ both_ways (offers w.reg e DataBus) bus (and_parts (offers w.reg e DataBus) (is_bus_out p) o).0
    ];
    drives = λ k is none. both_ways (offers w.reg e Fetch) fetch (and_parts (offers w.reg e Fetch) (is_predict_input w.reg k) is).0;
  }

  -- what is offered and taken stays
  offers_same : (s : Service) → (part_in takes e after).offers s ≡ (part_in takes e w).offers s
  unfolding part_of
  offers_same s = refl

  only : OffersOnly (part_in takes e after) Hazard begun.ports
  only = record { is = offers_same Hazard ∙ begun.over.only.is; none = λ t other. offers_same t ∙ begun.over.only.none t other }

  wire : (k width : ℕ) → HasWire (part_in takes e w) k width → HasWire (part_in takes e after) k width
  wire k width has = wire_stays takes e 2 w after grows k width has (there_wire w.design.wires e k (wire_in takes e w k has.row has.is))

  abbrev regs_ports : PortTrees
  regs_ports = record { inputs = found.regs.ports.inputs; outputs = map (net_tree w.pool.nodes) found.regs.ports.outputs }

  took : takes RegFile ≡ true → (part_in takes e after).took RegFile ≡ Some regs_ports
  unfolding part_of
  took is = cond-true (takes RegFile) _ None is ∙ ap (λ (o : Option Offered). port_trees w.pool.nodes (ports_of o)) found.offered

  drives : (k : ℕ) (net : Net) (place : ℕ) → wire_at m.wires k ≡ record (plain_row e) { driver = Some net } → is_own_input w.reg e k ≡ false
      → net_tree w.pool.nodes net ≡ tree_at regs_ports.outputs place → HasDriver (part_in takes e after) k (λ env. value env (tree_at regs_ports.outputs place))
  drives k net place row free tree = record {
    row = record { width = 32; level = 3; driver = Some (net_tree w.pool.nodes net) };
    is = part_wire takes e after k (ap (λ (r : WireRow). r.owner) row)
        ∙ (λ i. Some (record { width = (row i).width; level = (row i).level; driver = cond (free i) None (tree_option w.pool.nodes (row i).driver) }));
    driven = record { tree = net_tree w.pool.nodes net; is = refl; value_is = λ env. ap (value env) tree };
  }

  pub late_builds : takes RegFile ≡ true → BuildsHazard bypassed (part_in takes e after)
  late_builds is =
      let o = begun.over in
      record {
        ports = begun.ports;
        wire_a = f.wire_a;
        wire_b = f.wire_b;
        over = record {
          only = only;
          writes = (wire _ 1 o.writes.0, wire _ 1 o.writes.1, wire _ 1 o.writes.2);
          ready = (wire _ 1 o.ready.0, wire _ 1 o.ready.1, wire _ 1 o.ready.2);
          uses_a = wire _ 1 o.uses_a;
          uses_b = wire _ 1 o.uses_b;
          hold = λ env. o.hold env ∙ (λ i. hold_in bypassed (now_in begun.ports (first i) (second i) env));
          a = λ env. o.a env ∙ (λ i. a_in bypassed (now_in begun.ports (first i) (second i) env));
          b = λ env. o.b env ∙ (λ i. b_in bypassed (now_in begun.ports (first i) (second i) env));
        };
        regs = regs_ports;
        took = took is;
        drives_a = drives f.wire_a f.a 0 driven_a found.free_a (ap (λ (l : List Net). tree_at (map (net_tree w.pool.nodes) l) 0) (sym found.outputs));
        drives_b = drives f.wire_b f.b 1 driven_b found.free_b (ap (λ (l : List Net). tree_at (map (net_tree w.pool.nodes) l) 1) (sym found.outputs));
      }
