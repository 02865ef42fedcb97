-- The part of an entry with one service: that it offers no other, its inputs, and where it has no state.
use Rattle.std.proofs.Common.{◌≡◌, ◌∙◌, ℕ, zero, suc, ◌<◌, List, [], ◌∷◌, length, get_or, map, arith, ap, sym, Bool, false, eqb, ◌||◌, Option, Some, None, is_some, inl, inr, refl}
use Rattle.std.proofs.lemmas.Bool.{both_ways, eq-eqb, cases_Bool, eqb-true}
use Rattle.std.specs.List.{list_any}
use Rattle.hw_module.specs.Rows.{ModuleValue}
use Rattle.service_reg.specs.declared.service.Service.{Service}
use Rattle.service_reg.specs.declared.service.Service.TheVariants.{Fetch, Predict, Decoder, RegFile, Hazard, Exec, DataBus, System}
use Rattle.service_reg.specs.Services.{number}
use Rattle.service_ports.specs.declared.ports.ExecPorts.{ExecPorts}
use Rattle.service_ports.specs.Ports.{Ports, exec_ports}
use Rattle.plug_part.specs.Part.{PortTrees}
use Rattle.plug_part.specs.Owned.{offers}
use Rattle.plug_part.specs.Of.{net_tree}
use Rattle.plug_part.specs.Things.{HasWire}
use Rattle.plug_part.specs.Alone.{OffersOnly}
use Rattle.plug_build.specs.World.{World, part_in}
use Rattle.plug_build.specs.Fits.{AreInputs}
use Rattle.plug_build.specs.Done.{IsDone}
use Rattle.plug_build.proofs.Worlds.{cases_service}
use Rattle.plug_kit.specs.declared.inputs.ExecInputs.{ExecInputs}
use Rattle.plug_kit.specs.Unit.{IsOffered, IsUnit}
use Rattle.plug_kit.specs.Bare.{IsBare}
use Rattle.plug_kit.proofs.Rows.{part_offer, part_wire}
use Rattle.plug_kit.specs.Made.{exec_list}
use Rattle.plug_kit.proofs.Unit.{unit_offered, own_offer, no_other, offered_in, offered_done, unit_wires, unit_regs, unit_arrays}

-- ---- numbers of services

numbered : ℕ → Service
numbered zero = Fetch
numbered (suc zero) = Predict
numbered (suc (suc zero)) = Decoder
numbered (suc (suc (suc zero))) = RegFile
numbered (suc (suc (suc (suc zero)))) = Hazard
numbered (suc (suc (suc (suc (suc zero))))) = Exec
numbered (suc (suc (suc (suc (suc (suc zero)))))) = DataBus
numbered (suc (suc (suc (suc (suc (suc (suc n))))))) = System

numbered-is : (s : Service) → numbered (number s) ≡ s
unfolding numbered
numbered-is Fetch = refl
numbered-is Predict = refl
numbered-is Decoder = refl
numbered-is RegFile = refl
numbered-is Hazard = refl
numbered-is Exec = refl
numbered-is DataBus = refl
numbered-is System = refl

same-number : (s t : Service) → number s ≡ number t → s ≡ t
same-number s t e = sym (numbered-is s) ∙ ap numbered e ∙ numbered-is t

pub differs : (s t : Service) → (s ≡ t → ⊥) → eqb (number s) (number t) ≡ false
differs s t other = elim (cases_Bool (eqb (number s) (number t))) [
  | inl same ↦ absurd (other (same-number s t (eqb-true (number s) (number t) same)))
  | inr apart ↦ apart
]

-- ---- an entry with one service

module _ (s : Service) (e : ℕ) (old new : World) (mid : ModuleValue) (ws : List ℕ) (p : Ports) (u : IsOffered s e old new mid ws p) where
  pub only_offer : (takes : Service → Bool) → OffersOnly (part_in takes e new) s (record { inputs = p.inputs; outputs = map (net_tree new.pool.nodes) p.outputs })
  only_offer takes = record {
    is = offered_in s e old new mid ws p u takes;
    none = λ t other. part_offer takes e new t None (no_other s e old new mid ws p u t
        (λ same. both_ways (eqb (number t) (number s)) other (eq-eqb (number t) (number s) (ap number same))));
  }

  pub its_own : (t : Service) → offers new.reg e t ≡ list_any (λ x. eqb (number x) (number t)) (s ∷ [])
  its_own t = elim (cases_service t s) [
    | inl same ↦
        ap (offers new.reg e) same ∙ ap (λ (o : Option Ports). is_some o) (own_offer s e old new mid ws p u)
        ∙ sym (ap (λ b. b || false) (eq-eqb (number s) (number t) (ap number (sym same))))
    | inr other ↦ ap (λ (o : Option Ports). is_some o) (no_other s e old new mid ws p u t other) ∙ sym (ap (λ b. b || false) (differs s t (λ same. other (sym same))))
  ]

-- an input of an entry is a forward wire of its part
pub input_wires : (takes : Service → Bool) (e : ℕ) (w : World) (ws : List ℕ) (ss : List (ℕ × ℕ)) → AreInputs w.design e ws ss → (k : ℕ) → k < length ws
    → HasWire (part_in takes e w) (get_or ws k 0) (get_or ss k (0, 0)).0
input_wires takes e w [] ss h k l = absurd (omega arith)
input_wires takes e w (v ∷ ws) [] h k l = absurd h
input_wires takes e w (v ∷ ws) (s ∷ ss) h zero l = record { row = _; is = part_wire takes e w v h.0.owner; wide = h.0.width }
input_wires takes e w (v ∷ ws) (s ∷ ss) h (suc k) l = input_wires takes e w ws ss h.1 k (omega arith)

-- ---- parts without state

pub unit_bare : (e n : ℕ) (old new : World) (w : ExecInputs) (p : ExecPorts) → IsUnit e n old new w p → (takes : Service → Bool) → IsBare (part_in takes e new) (exec_ports p).inputs
unit_bare e n old new w p u takes = record { only = unit_wires e n old new w p u takes; regs = unit_regs e n old new w p u takes; arrays = unit_arrays e n old new w p u takes }

pub unit_only : (e n : ℕ) (old new : World) (w : ExecInputs) (p : ExecPorts) → IsUnit e n old new w p → (takes : Service → Bool)
    → OffersOnly (part_in takes e new) Exec (record { inputs = (exec_ports p).inputs; outputs = map (net_tree new.pool.nodes) (exec_ports p).outputs })
unit_only e n old new w p u takes = only_offer Exec e old new new.design (exec_list w) (exec_ports p) (unit_offered e n old new w p u) takes

pub bare_done : (takes : Service → Bool) (s : Service) (e : ℕ) (w : World) (ports : PortTrees) → (part_in takes e w).offers s ≡ Some ports → IsBare (part_in takes e w) ports.inputs
    → offers w.reg e Fetch ≡ false → offers w.reg e DataBus ≡ false → IsDone e w
bare_done takes s e w ports offered bare fetch bus =
    offered_done takes s e w ports offered bare.only (λ k row is free. bare.regs k row is) (λ k row is free. bare.arrays k row is) fetch bus
