-- When all lists are driven, nothing is left.
use Rattle.std.proofs.Common.{◌≡◌, ◌∙◌, ℕ, zero, suc, ◌+◌, ◌*◌, ◌<◌, ◌≤◌, Bool, true, false, eqb, ◌&&◌, ◌||◌, List, [], ◌∷◌, ◌++◌, length, is_some, refl, sym, ap, arith, Option, None, Some, inl, inr}
use Rattle.std.specs.Prelude.{All}
use Rattle.std.proofs.lemmas.Bool.{and_parts, not-true, cases_Bool, cases_lt, both_ways, eqb-true, eqb-false, or_cases, or_left, or_parts, or_right}
use Rattle.std.proofs.lemmas.List.Elements.{All-head, All-tail}
use Rattle.core_ports.specs.Ports as ports
use Rattle.hw_pool.specs.declared.node.Node.{Node}
use Rattle.hw_pool.specs.Meaning.{Env}
use Rattle.hw_expr.specs.declared.net.Net.{Net}
use Rattle.hw_module.specs.Ports.{port_at}
use Rattle.hw_module.specs.Rows.{ModuleValue, out_at, reg_at, wire_at}
use Rattle.service_reg.specs.declared.service.Service.TheVariants.{DataBus, Fetch, System}
use Rattle.service_ports.specs.declared.ports.ExecOffer.{ExecOffer}
use Rattle.service_ports.specs.declared.ports.DataBusPorts.{DataBusPorts}
use Rattle.service_ports.specs.declared.ports.SystemPorts.{SystemPorts}
use Rattle.service_ports.specs.Ports.{Ports, databus_ports, decoder_ports, exec_ports, fetch_ports, hazard_ports, regfile_ports, system_ports}
use Rattle.service_ports.specs.Registry.{offered_as, single, ports_in as offered_in}
use Rattle.plug_part.specs.Of.{tree_option}
use Rattle.plug_part.specs.Owned.{is_among, is_bus_out, is_fetch_out, is_input_of, ports_of}
use Rattle.plug_part.specs.Things.{IsDriven}
use Rattle.plug_build.specs.World.{World}
use Rattle.pipe_drive.specs.Drives.{HasDrivers, HasNexts, HasOuts, targets}
use Rattle.pipe_drive.specs.Rights.{is_exec_input, is_left_input, is_left_out, DrivesLeft}
use Rattle.pipe_steps.specs.Drives.{DrivesUnit, RegHas, TailHas, WireHas}
use Rattle.pipe_steps.specs.Numbers.{tail_from, units_of}
use Rattle.pipe_steps.specs.Things.{PipeThings}
use Rattle.pipe_steps.specs.Values.{LateValue}
use Rattle.pipe_build.specs.declared.nets.Offers.{Offers}
use Rattle.pipe_build.specs.declared.nets.PipeNets.{PipeNets}
use Rattle.pipe_build.specs.Rest.{HasRest, bus_drives, decoder_drives, fetch_drives, hazard_drives, reg_list, regfile_drives, system_list, told_drives, wire_drives}
use Rattle.pipe_build.specs.RestAt.{BeforeRest}
use Rattle.pipe_build.proofs.CanRest.{offered_ports, own_numbers}

-- ---- what is driven has a driver

driver_there : (nodes : List Node) {f : Env → ℕ} (o : Option Net) → IsDriven (tree_option nodes o) f → o ≡ None → ⊥
driver_there nodes None h none = let e = h.is in cc
driver_there nodes (Some net) h none = cc

module _ (d : ModuleValue) where
  wire_driven : {nodes : List Node} {f : Env → ℕ} (k : ℕ) → WireHas d nodes k f → (wire_at d.wires k).driver ≡ None → ⊥
  wire_driven {nodes} k h = driver_there nodes (wire_at d.wires k).driver h.driven

  reg_driven : {nodes : List Node} {width : ℕ} {reset : Option ℕ} {f : Env → ℕ} (k : ℕ) → RegHas d nodes k width reset f → (reg_at d.regs k).next ≡ None → ⊥
  reg_driven {nodes} k h = driver_there nodes (reg_at d.regs k).next h.driven

  listed : (xs : List (ℕ × Net)) (k : ℕ) → HasDrivers d xs → is_among k (targets xs) ≡ true → (wire_at d.wires k).driver ≡ None → ⊥
  listed [] k h is none = both_ways false refl is
  listed (x ∷ xs) k h is none = elim (or_cases (eqb k x.0) (is_among k (targets xs)) is) [
    | inl here ↦ let e : k ≡ x.0 = eqb-true k x.0 here in let n : None ≡ Some x.1 = sym none ∙ ap (λ i. (wire_at d.wires i).driver) e ∙ h.0 in cc
    | inr later ↦ listed xs k h.1 later none
  ]

  shown : (xs : List (ℕ × Net)) (k : ℕ) → HasOuts d xs → is_among k (targets xs) ≡ true → out_at d.outs k ≡ None → ⊥
  shown [] k h is none = both_ways false refl is
  shown (x ∷ xs) k h is none = elim (or_cases (eqb k x.0) (is_among k (targets xs)) is) [
    | inl here ↦ let e : k ≡ x.0 = eqb-true k x.0 here in let n : None ≡ Some x.1 = sym none ∙ ap (out_at d.outs) e ∙ h.0 in cc
    | inr later ↦ shown xs k h.1 later none
  ]

  moved : (first : ℕ) (xs : List Net) → HasNexts d first xs → (k : ℕ) → first ≤ k → k < first + length xs → (reg_at d.regs k).next ≡ None → ⊥
  moved first [] h k l m none = omega arith
  moved first (x ∷ xs) h k l m none = elim (cases_lt k (first + 1)) [
    | inl here ↦ let e : k ≡ first = omega arith in let n : None ≡ Some x = sym none ∙ ap (λ i. (reg_at d.regs i).next) e ∙ h.0 in cc
    | inr later ↦ moved (first + 1) xs h.1 k later (omega arith) none
  ]

  abbrev AllDriven : List ℕ → Type 0
  AllDriven [] = Unit {0}
  AllDriven (x ∷ xs) = ((wire_at d.wires x).driver ≡ None → ⊥) × AllDriven xs

  each_driven : (xs : List ℕ) → AllDriven xs → (k : ℕ) → is_among k xs ≡ true → (wire_at d.wires k).driver ≡ None → ⊥
  each_driven [] h k is none = both_ways false refl is
  each_driven (x ∷ xs) h k is none = elim (or_cases (eqb k x) (is_among k xs) is) [
    | inl here ↦ let e : k ≡ x = eqb-true k x here in h.0 (ap (λ i. (wire_at d.wires i).driver) (sym e) ∙ none)
    | inr later ↦ each_driven xs h.1 k later none
  ]

  module _ (nodes : List Node) (p : PipeThings) where
    -- the inputs of units, and their registers
    exec_driven : (c : ℕ) (os : List ExecOffer) → All (DrivesUnit d nodes p) (units_of nodes c os) → (k : ℕ) → is_exec_input os k ≡ true → (wire_at d.wires k).driver ≡ None → ⊥
    exec_driven c [] h k is none = both_ways false refl is
    exec_driven c (o ∷ os) h k is none =
        let u = All-head (DrivesUnit d nodes p) _ (units_of nodes (c + 1) os) h in
        elim (or_cases (is_among k (exec_ports o.ports).inputs) (is_exec_input os k) is) [
          | inl here ↦ each_driven (exec_ports o.ports).inputs
              (wire_driven o.ports.go u.go, (wire_driven o.ports.row u.row, (wire_driven o.ports.pc u.pc, (wire_driven o.ports.word u.word, (wire_driven o.ports.a u.a, (wire_driven o.ports.b u.b, (wire_driven o.ports.clear u.clear, tt)))))))
              k here none
          | inr later ↦ exec_driven (c + 1) os (All-tail (DrivesUnit d nodes p) _ (units_of nodes (c + 1) os) h) k later none
        ]

    chosen_driven : (c : ℕ) (os : List ExecOffer) → All (DrivesUnit d nodes p) (units_of nodes c os) → (k : ℕ) → c ≤ k → k < c + length os → (reg_at d.regs k).next ≡ None → ⊥
    chosen_driven c [] h k l m none = omega arith
    chosen_driven c (o ∷ os) h k l m none =
        let u = All-head (DrivesUnit d nodes p) _ (units_of nodes (c + 1) os) h in
        elim (cases_lt k (c + 1)) [
          | inl here ↦ let e : k ≡ c = omega arith in reg_driven c u.chosen (ap (λ i. (reg_at d.regs i).next) (sym e) ∙ none)
          | inr later ↦ chosen_driven (c + 1) os (All-tail (DrivesUnit d nodes p) _ (units_of nodes (c + 1) os) h) k later (omega arith) none
        ]

  tail_driven : (nodes : List Node) (r places : ℕ) (f : Env → LateValue) → TailHas d nodes f (tail_from r places) → (k : ℕ) → r ≤ k → k < r + 3 * places → (reg_at d.regs k).next ≡ None → ⊥
  tail_driven nodes r zero f h k l m none = omega arith
  tail_driven nodes r (suc n) f h k l m none = elim (cases_lt k (r + 1)) [
    | inl first ↦ let e : k ≡ r = omega arith in reg_driven r h.0.writes (ap (λ i. (reg_at d.regs i).next) (sym e) ∙ none)
    | inr on ↦ elim (cases_lt k (r + 2)) [
      | inl second ↦ let e : k ≡ r + 1 = omega arith in reg_driven (r + 1) h.0.rd (ap (λ i. (reg_at d.regs i).next) (sym e) ∙ none)
      | inr on ↦ elim (cases_lt k (r + 3)) [
        | inl third ↦ let e : k ≡ r + 2 = omega arith in reg_driven (r + 2) h.0.value (ap (λ i. (reg_at d.regs i).next) (sym e) ∙ none)
        | inr on ↦ tail_driven nodes (r + 3) n _ h.1 k on (omega arith) none
      ]
    ]
  ]

-- ---- what is left is in the lists

abbrev AllNot : ℕ → List ℕ → Type 0
AllNot k [] = Unit {0}
AllNot k (x ∷ xs) = (k ≡ x → ⊥) × AllNot k xs

all_not : (k : ℕ) (xs : List ℕ) → is_among k xs ≡ false → AllNot k xs
all_not k [] h = tt
all_not k (x ∷ xs) h = let both = or_parts (eqb k x) (is_among k xs) h in (eqb-false k x both.0, all_not k xs both.1)

-- a number in a range of eight is one of them
own_listed : (w k : ℕ) → w ≤ k → k < w + 8 → is_among k (own_numbers w) ≡ true
own_listed w k l m = elim (cases_Bool (is_among k (own_numbers w))) [
  | inl is ↦ is
  | inr far ↦
      let a : AllNot k (own_numbers w) = all_not k (own_numbers w) far in
      absurd (omega (arith, a.0, a.1.0, a.1.1.0, a.1.1.1.0, a.1.1.1.1.0, a.1.1.1.1.1.0, a.1.1.1.1.1.1.0, a.1.1.1.1.1.1.1.0))
]

-- ---- ports

all_to : ℕ → (ℕ → Bool) → Bool
all_to zero f = true
all_to (suc n) f = f n && all_to n f

all_at : (n : ℕ) (f : ℕ → Bool) → all_to n f ≡ true → (k : ℕ) → k < n → f k ≡ true
unfolding all_to
all_at zero f h k l = absurd (omega arith)
all_at (suc n) f h k l =
    let both = and_parts (f n) (all_to n f) h in
    elim (cases_lt k n) [
      | inl below ↦ all_at n f both.1 k below
      | inr last ↦ let e : k ≡ n = omega arith in ap f e ∙ both.0
    ]

abbrev told_ports : List ℕ
told_ports = 20 ∷ 21 ∷ 22 ∷ 23 ∷ 24 ∷ 25 ∷ 26 ∷ 27 ∷ 28 ∷ 29 ∷ []

-- each output is of a bus, or tells
abbrev is_told : ℕ → Bool
is_told p = ports.is_input (port_at p) || (is_fetch_out p || (is_bus_out p || is_among p told_ports))

all_told : all_to 30 is_told ≡ true
unfolding all_to port_at
all_told = refl

bus_listed : (n : PipeNets) (p : ℕ) → is_bus_out p ≡ true → is_among p (targets (bus_drives false n)) ≡ true
bus_listed n p is = elim (or_cases (eqb p 8) _ is) [
  | inl h ↦ or_left (eqb p 8) _ h
  | inr is ↦ or_right (eqb p 8) _ (elim (or_cases (eqb p 10) _ is) [
    | inl h ↦ or_left (eqb p 10) _ h
    | inr is ↦ or_right (eqb p 10) _ (elim (or_cases (eqb p 11) _ is) [
      | inl h ↦ or_left (eqb p 11) _ h
      | inr is ↦ or_right (eqb p 11) _ (elim (or_cases (eqb p 12) (eqb p 13) is) [
        | inl h ↦ or_left (eqb p 12) _ h
        | inr h ↦ or_right (eqb p 12) _ (or_left (eqb p 13) false h)
      ])
    ])
  ])
]

append_left : (xs ys : List ℕ) (k : ℕ) → is_among k xs ≡ true → is_among k (xs ++ ys) ≡ true
append_left [] ys k is = absurd (both_ways false refl is)
append_left (x ∷ xs) ys k is = elim (or_cases (eqb k x) (is_among k xs) is) [
  | inl here ↦ or_left (eqb k x) (is_among k (xs ++ ys)) here
  | inr later ↦ or_right (eqb k x) (is_among k (xs ++ ys)) (append_left xs ys k later)
]

append_right : (xs ys : List ℕ) (k : ℕ) → is_among k ys ≡ true → is_among k (xs ++ ys) ≡ true
append_right [] ys k is = is
append_right (x ∷ xs) ys k is = or_right (eqb k x) (is_among k (xs ++ ys)) (append_right xs ys k is)

module _ (w : World) (a d : ModuleValue) (nodes : List Node) (p : PipeThings) (wire reg reset_pc places : ℕ) (o : Offers) (has_bus : Bool) (n : PipeNets) (before : BeforeRest w a wire reg reset_pc o has_bus)
    (has : HasRest d wire reg o has_bus n) (units : All (DrivesUnit d nodes p) (units_of nodes (reg + 15) w.reg.execs)) (f : Env → LateValue) (tail : TailHas d nodes f (tail_from (reg + 15 + length w.reg.execs) places)) where
  abbrev services : List ℕ
  services = targets (fetch_drives o.fetch n ++ (decoder_drives o.decoder n ++ (regfile_drives o.regfile n ++ hazard_drives o.hazard n)))

  service_driven : (k : ℕ) → is_among k services ≡ true → (wire_at d.wires k).driver ≡ None → ⊥
  service_driven k is none = listed d (wire_drives wire o n) k has.wires (append_right (own_numbers wire) services k is) none

  in_ports : {A : Type 0} (g : A → Ports) (q : Option (ℕ × A)) (ports : A) → offered_in q ≡ Some ports → (k : ℕ) → is_input_of (ports_of (offered_as g q)) k ≡ true → is_among k (g ports).inputs ≡ true
  in_ports g q ports e k is = ap (λ x. is_input_of x k) (sym (offered_ports g q ports e)) ∙ is

  system_driven : (q : Option SystemPorts) → offered_in w.reg.system ≡ q → HasDrivers d (system_list q n) → (k : ℕ) → is_input_of (ports_of (single w.reg System)) k ≡ true → (wire_at d.wires k).driver ≡ None → ⊥
  system_driven None e h k is none = no_system w.reg.system e is
    where
      no_system : (q : Option (ℕ × SystemPorts)) → offered_in q ≡ None → is_input_of (ports_of (offered_as system_ports q)) k ≡ true → ⊥
      no_system None e is = both_ways false refl is
      no_system (Some x) e is = cc
  system_driven (Some y) e h k is none = listed d (system_list (Some y) n) k h (in_ports system_ports w.reg.system y e k is) none

  abbrev behind_decoder : List ℕ
  behind_decoder = targets (regfile_drives o.regfile n ++ hazard_drives o.hazard n)

  abbrev behind_fetch : List ℕ
  behind_fetch = targets (decoder_drives o.decoder n ++ (regfile_drives o.regfile n ++ hazard_drives o.hazard n))

  behind_driven : (k : ℕ) → is_among k behind_fetch ≡ true → (wire_at d.wires k).driver ≡ None → ⊥
  behind_driven k is none = service_driven k (append_right (targets (fetch_drives o.fetch n)) behind_fetch k is) none

  last_driven : (k : ℕ) → is_among k behind_decoder ≡ true → (wire_at d.wires k).driver ≡ None → ⊥
  last_driven k is none = behind_driven k (append_right (targets (decoder_drives o.decoder n)) behind_decoder k is) none

  input_driven : (k : ℕ) → is_left_input w.reg k ≡ true → (wire_at d.wires k).driver ≡ None → ⊥
  input_driven k left none = elim (or_cases _ _ left) [
    | inl h ↦ service_driven k (append_left (targets (fetch_drives o.fetch n)) behind_fetch k (in_ports fetch_ports w.reg.fetch o.fetch before.fetch k h)) none
    | inr left ↦ elim (or_cases _ _ left) [
      | inl h ↦ behind_driven k (append_left (targets (decoder_drives o.decoder n)) behind_decoder k (in_ports decoder_ports w.reg.decoder o.decoder before.decoder k h)) none
      | inr left ↦ elim (or_cases _ _ left) [
        | inl h ↦ last_driven k (append_left (targets (regfile_drives o.regfile n)) (targets (hazard_drives o.hazard n)) k (in_ports regfile_ports w.reg.regfile o.regfile before.regfile k h)) none
        | inr left ↦ elim (or_cases _ _ left) [
          | inl h ↦ last_driven k (append_right (targets (regfile_drives o.regfile n)) (targets (hazard_drives o.hazard n)) k (in_ports hazard_ports w.reg.hazard o.hazard before.hazard k h)) none
          | inr left ↦ elim (or_cases _ _ left) [
            | inl h ↦ system_driven o.system before.system has.system k h none
            | inr h ↦ exec_driven d nodes p (reg + 15) w.reg.execs units k h none
          ]
        ]
      ]
    ]
  ]

  -- what is left of outputs: those that tell, and those of the data bus where nothing offers DataBus
  fetch_there : is_some (single w.reg Fetch) ≡ true
  fetch_there = go w.reg.fetch before.fetch
    where
      go : (q : Option (ℕ × _)) → offered_in q ≡ Some o.fetch → is_some (offered_as fetch_ports q) ≡ true
      go None e = absurd cc
      go (Some x) e = refl

  bus_there : (q : Option (ℕ × DataBusPorts)) (b : Bool) → is_some q ≡ b → is_some (offered_as databus_ports q) ≡ b
  bus_there None b e = e
  bus_there (Some x) b e = e

  out_driven : (k : ℕ) → k < 30 → ports.is_input (port_at k) ≡ false → is_left_out w.reg k ≡ true → out_at d.outs k ≡ None → ⊥
  out_driven k l output left none =
      let open_out = or_parts (is_some (single w.reg Fetch) && is_fetch_out k) (is_some (single w.reg DataBus) && is_bus_out k) (not-true _ left) in
      elim (or_cases (ports.is_input (port_at k)) _ (all_at 30 is_told all_told k l)) [
        | inl input ↦ both_ways (ports.is_input (port_at k)) output input
        | inr is ↦ elim (or_cases (is_fetch_out k) _ is) [
          | inl fetch ↦ both_ways (is_some (single w.reg Fetch) && is_fetch_out k) open_out.0 (ap (λ b. b && is_fetch_out k) fetch_there ∙ fetch)
          | inr is ↦ elim (or_cases (is_bus_out k) (is_among k told_ports) is) [
            | inl bus ↦ bus_driven has_bus before.bus has.bus k bus open_out.1 none
            | inr told ↦ shown d (told_drives n) k has.told told none
          ]
        ]
      ]
    where
      bus_driven : (b : Bool) → is_some w.reg.databus ≡ b → HasOuts d (bus_drives b n) → (k : ℕ) → is_bus_out k ≡ true → (is_some (single w.reg DataBus) && is_bus_out k) ≡ false → out_at d.outs k ≡ None → ⊥
      bus_driven true e h k bus kept none = both_ways (is_some (single w.reg DataBus) && is_bus_out k) kept (ap (λ b. b && is_bus_out k) (bus_there w.reg.databus true e) ∙ bus)
      bus_driven false e h k bus kept none = shown d (bus_drives false n) k h (bus_listed n k bus) none

  pub rest_left : length w.design.wires ≡ wire → length d.wires ≡ wire + 8 → length w.design.regs ≡ reg → length d.regs ≡ reg + 15 + length w.reg.execs + 3 * places → d.arrays ≡ w.design.arrays
      → DrivesLeft w.reg w.design d
  rest_left first last first_reg last_reg arrays = record {
    inputs = input_driven;
    outs = out_driven;
    wires = λ k l m none. listed d (wire_drives wire o n) k has.wires (append_left (own_numbers wire) services k (own_listed wire k (omega arith) (omega arith))) none;
    regs = λ k l m none. elim (cases_lt k (reg + 15)) [
      | inl own ↦ moved d reg (reg_list n) has.regs k (omega arith) own none
      | inr on ↦ elim (cases_lt k (reg + 15 + length w.reg.execs)) [
        | inl chosen ↦ chosen_driven d nodes p (reg + 15) w.reg.execs units k on chosen none
        | inr on ↦ tail_driven d nodes (reg + 15 + length w.reg.execs) places f tail k on (omega arith) none
      ]
    ];
    arrays = arrays;
  }
