-- What the entry of a unit that may work for several cycles has built in its first call.
use Rattle.std.proofs.Common.{◌≡◌, ◌∙◌, ℕ, zero, suc, ◌+◌, ◌-◌, ◌*◌, ◌<◌, ◌≤◌, Bool, false, List, [], ◌∷◌, ◌++◌, length, get_or, drop, Option, Some, None, refl, arith, ap, sym, subst, inl, inr}
use Rattle.std.proofs.lemmas.Bool.{cases_eq}
use Rattle.core_words.specs.Values.{choose}
use Rattle.hw_pool.specs.Meaning.{Env}
use Rattle.hw_pool.specs.Frame.{Adds}
use Rattle.hw_gates.specs.Places.{place, worth, value_in}
use Rattle.hw_module.specs.declared.rows.Owner.TheVariants.{Entry}
use Rattle.hw_module.specs.declared.rows.RegRow.{RegRow}
use Rattle.hw_module.specs.declared.rows.ArrayRow.{ArrayRow}
use Rattle.hw_module.specs.declared.rows.WireRow.{WireRow}
use Rattle.hw_module.specs.Rows.{ModuleValue, wire_at, reg_at, array_at}
use Rattle.hw_module.specs.Rights.{Rights, Makes}
use Rattle.hw_module.specs.Checked.{DriversFit}
use Rattle.isa_model.specs.Effects.{behind}
use Rattle.service_reg.specs.declared.service.Service.{Service}
use Rattle.service_reg.specs.declared.service.Service.TheVariants.{Exec}
use Rattle.service_ports.specs.declared.ports.ExecPorts.{ExecPorts}
use Rattle.service_ports.specs.Ports.{exec_ports, input_shapes, output_level, output_widths}
use Rattle.service_ports.specs.Registry.{AddsOffer, single}
use Rattle.plug_part.specs.Part.{Part, PartReg, PartArray}
use Rattle.plug_part.specs.Owned.{offers}
use Rattle.plug_part.specs.Things.{HasReg}
use Rattle.plug_build.specs.World.{World, Builds, part_in}
use Rattle.plug_build.specs.Fits.{AreInputs, AreOutputs, WorldFits}
use Rattle.plug_build.specs.Done.{AreOpen, OwnsNothing}
use Rattle.plug_build.proofs.Worlds.{builds_of, cases_service, exec_fits, world_fits}
use Rattle.plug_api.specs.Spec.{is_among}
use Rattle.plug_kit.specs.declared.inputs.ExecInputs.{ExecInputs}
use Rattle.plug_kit.specs.Made.{MakesInputs, exec_list}
use Rattle.plug_kit.specs.Unit.{IsOffered}
use Rattle.plug_kit.proofs.Bare.{input_wires, its_own, only_offer}
use Rattle.plug_kit.proofs.Rows.{array_in, reg_in}
use Rattle.plug_kit.proofs.Unit.{offered_apart, offered_new, offered_open, offered_wires}
use Rattle.unit_steps.specs.Cycles.{Machine}
use Rattle.unit_steps.specs.Registers.{IsDrivenReg, AreDrivenRegs}
use Rattle.unit_steps.specs.Parts.{BuildsWorking, ends_over, mark_over, next_over, value_over}
use Rattle.unit_steps.proofs.RegSteps.{only_new}
use Rattle.unit_steps.proofs.Parts.{has_reg}

pub record IsWorkingUnit (m : Machine) (widths : List ℕ) (e nodes : ℕ) (old new : World) (mid : ModuleValue) (mark : ℕ) (w : ExecInputs) (p : ExecPorts) : Type 0 where
  pub fits : WorldFits old
  pub nothing : OwnsNothing e old
  pub made : MakesInputs e old.design mid (exec_list w) (input_shapes Exec)
  pub adds : Adds old.pool new.pool nodes
  pub number : mark ≡ length mid.regs
  pub wires : new.design.wires ≡ mid.wires
  pub arrays : new.design.arrays ≡ mid.arrays
  pub count : length new.design.regs ≡ length mid.regs + (1 + length widths)
  pub before : (k : ℕ) → k < length mid.regs → (reg_at new.design.regs k).owner ≡ (reg_at mid.regs k).owner
  pub makes : (r : Rights) → Makes (Entry e) r old.design new.design (9 + 2 * length widths)
  pub drivers : DriversFit new.design new.pool
  pub at_work : IsDrivenReg new.design new.pool e mark 1 (Some 0) (mark_over m (length widths) (exec_list w) mark)
  pub holds : AreDrivenRegs new.design new.pool e (mark + 1) widths (next_over m (length widths) (exec_list w) mark)
  pub inputs : (exec_ports p).inputs ≡ exec_list w
  pub outputs : AreOutputs new.design new.pool (output_level Exec) (exec_ports p).outputs (output_widths Exec)
  pub done : (env : Env) → value_in env new.pool p.done ≡ choose (env.wires w.go) (ends_over m (length widths) (exec_list w) mark env) 0
  pub result : (env : Env) → value_in env new.pool p.value ≡ value_over m (length widths) (exec_list w) mark env
  pub next_pc : (env : Env) → value_in env new.pool p.next_pc ≡ behind (env.wires w.pc)
  pub trap : (env : Env) → value_in env new.pool p.trap ≡ 0
  pub fence : (env : Env) → value_in env new.pool p.fence ≡ 0
  pub execs : new.reg.execs ≡ old.reg.execs ++ record { by = e; ports = p } ∷ []
  pub offers : AddsOffer Exec e (exec_ports p) old.reg new.reg

-- the inputs of an entry are forward wires of a module, also where it has the same forward wires and others have been added
inputs_same : (old new : ModuleValue) → new.wires ≡ old.wires → (by : ℕ) (ws : List ℕ) (ss : List (ℕ × ℕ)) → AreInputs old by ws ss → AreInputs new by ws ss
inputs_same old new same by [] [] h = tt
inputs_same old new same by [] (s ∷ ss) h = absurd h
inputs_same old new same by (w ∷ ws) [] h = absurd h
inputs_same old new same by (w ∷ ws) (s ∷ ss) h = (
  record {
    there = subst (λ (rows : List WireRow). w < length rows) (sym same) h.0.there;
    owner = ap (λ (rows : List WireRow). (wire_at rows w).owner) same ∙ h.0.owner;
    width = ap (λ (rows : List WireRow). (wire_at rows w).width) same ∙ h.0.width;
    level = ap (λ (rows : List WireRow). (wire_at rows w).level) same ∙ h.0.level;
  },
  inputs_same old new same by ws ss h.1,
)

pub inputs_kept : (old new : ModuleValue) → new.wires ≡ old.wires → (by : ℕ) (ws : List ℕ) (ss : List (ℕ × ℕ)) → AreInputs old by ws ss → AreInputs new by ws ss
inputs_kept = inputs_same

-- registers one behind the other, by their places
holds_at : (takes : Service → Bool) (e : ℕ) (w : World) (first : ℕ) (widths : List ℕ) (next : Env → List ℕ) → AreDrivenRegs w.design w.pool e first widths next
    → (k : ℕ) → k < length widths → HasReg (part_in takes e w) (first + k) (get_or widths k 0) None (λ env. get_or (next env) k 0)
holds_at takes e w first [] next h k l = absurd (omega arith)
holds_at takes e w first (x ∷ xs) next h zero l =
    let here : first ≡ first + 0 = omega arith in
    subst (λ (r : ℕ). HasReg (part_in takes e w) r x None (λ env. get_or (next env) 0 0)) here (has_reg takes e w first x None _ h.0)
holds_at takes e w first (x ∷ xs) next h (suc k) l =
    let there : first + 1 + k ≡ first + suc k = omega arith in
    let later : (env : Env) → get_or (drop 1 (next env)) k 0 ≡ get_or (next env) (suc k) 0 = λ env. get_later (next env) k in
    let found = subst (λ (r : ℕ). HasReg (part_in takes e w) r (get_or xs k 0) None (λ env. get_or (drop 1 (next env)) k 0)) there (holds_at takes e w (first + 1) xs (λ env. drop 1 (next env)) h.1 k (omega arith)) in
    record {
      row = found.row;
      is = found.is;
      wide = found.wide;
      reset_is = found.reset_is;
      tree = found.tree;
      next_is = found.next_is;
      value_is = λ env. found.value_is env ∙ later env;
    }
  where
    get_later : (xs : List ℕ) (k : ℕ) → get_or (drop 1 xs) k 0 ≡ get_or xs (suc k) 0
    get_later [] k = refl
    get_later (x ∷ xs) k = refl

module _ (m : Machine) (widths : List ℕ) (e nodes : ℕ) (old new : World) (mid : ModuleValue) (mark : ℕ) (w : ExecInputs) (p : ExecPorts)
    (u : IsWorkingUnit m widths e nodes old new mid mark w p) where
  is_offered : IsOffered Exec e old new mid (exec_list w) (exec_ports p)
  is_offered = record { nothing = u.nothing; made = u.made; wires = u.wires; inputs = u.inputs; offers = u.offers }

  are_inputs : AreInputs new.design e (exec_ports p).inputs (input_shapes Exec)
  are_inputs = subst (λ (ws : List ℕ). AreInputs new.design e ws (input_shapes Exec)) (sym u.inputs) (inputs_same mid new.design u.wires e (exec_list w) (input_shapes Exec) u.made.inputs)

  singles : (s : Service) → single new.reg s ≡ single old.reg s
  singles s = elim (cases_service s Exec) [
    | inl same ↦ ap (single new.reg) same ∙ ap (single old.reg) (sym same)
    | inr other ↦ u.offers.singles s other
  ]

  no_rights : Rights
  no_rights = record { wires = λ k. false; locked = λ k. false; outs = λ k. false }

  pub working_fits : WorldFits new
  working_fits =
      world_fits old new nodes (9 + 2 * length widths) u.fits u.adds (u.makes no_rights).grows (λ f. u.drivers)
      (λ f. exec_fits new.design new.pool old.reg new.reg f (record { by = e; ports = p }) singles u.execs
      (record { inputs = are_inputs; outputs = u.outputs; apart = offered_apart Exec e old new mid (exec_list w) (exec_ports p) is_offered })
      (u.nothing.offers Exec) (offered_new Exec e old new mid (exec_list w) (exec_ports p) is_offered u.fits))

  pub working_builds : (r : Rights) (most : ℕ) → nodes + (9 + 2 * length widths) ≤ most → Builds (Entry e) r most old new
  working_builds r most sum = builds_of (Entry e) r most nodes (9 + 2 * length widths) old new u.adds (u.makes r) sum

  pub working_open : AreOpen e new
  working_open = offered_open Exec e old new mid (exec_list w) (exec_ports p) is_offered

  pub working_offers : (s : Service) → offers new.reg e s ≡ is_among (Exec ∷ []) s
  working_offers = its_own Exec e old new mid (exec_list w) (exec_ports p) is_offered

  module _ (takes : Service → Bool) where
    abbrev part : Part
    part = part_in takes e new

    -- over the inputs as the offer names them
    abbrev Over : (List ℕ → Env → ℕ) → (reg width : ℕ) → (reset : Option ℕ) → List ℕ → Type 0
    Over f reg width reset ws = HasReg part reg width reset (f ws)

    is_at_work : HasReg part mark 1 (Some 0) (mark_over m (length widths) (exec_ports p).inputs mark)
    is_at_work = subst (Over (λ ws. mark_over m (length widths) ws mark) mark 1 (Some 0)) (sym u.inputs) (has_reg takes e new mark 1 (Some 0) _ u.at_work)

    holds : (k : ℕ) → k < length widths → HasReg part (mark + 1 + k) (get_or widths k 0) None (λ env. get_or (next_over m (length widths) (exec_ports p).inputs mark env) k 0)
    holds k l = subst (Over (λ ws env. get_or (next_over m (length widths) ws mark env) k 0) (mark + 1 + k) (get_or widths k 0) None) (sym u.inputs) (holds_at takes e new (mark + 1) widths _ u.holds k l)

    only_new_owner : (k : ℕ) → (reg_at new.design.regs k).owner ≡ Entry e → (length mid.regs ≤ k) × (k < length mid.regs + (1 + length widths))
    only_new_owner k own = only_new e mid new.design (1 + length widths) u.count u.before (λ j o. u.nothing.regs j (ap (λ (rows : List RegRow). (reg_at rows j).owner) (sym u.made.regs) ∙ o)) k own

    some_none : {A : Type 0} (x : A) → ◌≡◌ {A = Option A} (Some x) None → ⊥
    some_none x h = cc

    some_same : {A : Type 0} (x y : A) → Some x ≡ Some y → x ≡ y
    some_same x y h = cc

    -- what the part has is driven
    driven : (k width : ℕ) (reset : Option ℕ) (f : Env → ℕ) (row : PartReg) → HasReg part k width reset f → part.regs k ≡ Some row → row.next ≡ None → ⊥
    driven k width reset f row has is none =
        let same : has.row ≡ row = some_same has.row row (sym has.is ∙ is) in
        some_none has.tree (sym has.next_is ∙ (ap (λ (r : PartReg). r.next) same ∙ none))

    all_driven : (k : ℕ) (row : PartReg) → part.regs k ≡ Some row → row.next ≡ None → ⊥
    all_driven k row is none =
        let own = (reg_in takes e new k row is).0 in
        let range = only_new_owner k own in
        elim (cases_eq k mark) [
          | inl same ↦ driven k 1 (Some 0) _ row (subst (λ (r : ℕ). HasReg part r 1 (Some 0) (mark_over m (length widths) (exec_ports p).inputs mark)) (sym same) is_at_work) is none
          | inr other ↦
              let j : ℕ = k - (mark + 1) in
              let l : j < length widths = (let number = u.number in omega (arith, range.0, range.1, number)) in
              let at : mark + 1 + j ≡ k = (let number = u.number in omega (arith, range.0, number)) in
              driven k (get_or widths j 0) None _ row (subst (λ (r : ℕ). HasReg part r (get_or widths j 0) None (λ env. get_or (next_over m (length widths) (exec_ports p).inputs mark env) j 0)) at (holds j l)) is none
        ]

    no_array : (k : ℕ) (row : PartArray) → part.arrays k ≡ Some row → ⊥
    no_array k row is = u.nothing.arrays k (ap (λ (rows : List ArrayRow). (array_at rows k).owner) (sym (u.arrays ∙ u.made.arrays)) ∙ (array_in takes e new k row is).0)

    pub working_begins : BuildsWorking m widths part
    unfolding place worth
    working_begins =
        let wire = input_wires takes e new (exec_ports p).inputs (input_shapes Exec) are_inputs in
        let at = λ (env : Env) (k : ℕ). ap (λ (ws : List ℕ). env.wires (get_or ws k 0)) u.inputs in
        record {
          ports = _;
          mark = mark;
          only = only_offer Exec e old new mid (exec_list w) (exec_ports p) is_offered takes;
          wires = offered_wires Exec e old new mid (exec_list w) (exec_ports p) is_offered takes;
          regs = all_driven;
          arrays = no_array;
          a = wire 4 (omega arith);
          b = wire 5 (omega arith);
          at_work = is_at_work;
          holds = holds;
          done = λ env. u.done env ∙ (λ i. choose (env.wires (get_or (sym u.inputs i) 0 0)) (ends_over m (length widths) (sym u.inputs i) mark env) 0);
          result = λ env. u.result env ∙ (λ i. value_over m (length widths) (sym u.inputs i) mark env);
          next_pc = λ env. u.next_pc env ∙ ap behind (sym (at env 2));
          trap = u.trap;
          fence = u.fence;
        }
