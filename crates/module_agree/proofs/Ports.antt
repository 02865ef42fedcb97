-- What a module with the ports of a core takes at its inputs.
use Rattle.std.proofs.Common.{◌≡◌, ℕ, zero, suc, ◌<◌, Bool, true, false, not, eqb, List, [], ◌∷◌, ◌&&◌, ◌||◌, ◌⊎◌, inl, inr, length, get_or, Option, Some, refl, ap, arith}
use Rattle.core_words.specs.Names.{same_name}
use Rattle.core_ports.specs.Ports.{CorePort, all_ports, name_of, is_input, width_of}
use Rattle.core_ports.specs.Ports.CorePort.{clk}
use Rattle.hw_module.specs.Ports.{port_at}
use Rattle.verilog_mean.specs.Look.{look, or_else, pick_if}
use Rattle.verilog_mean.specs.Plain.{Port, Plain}
use Rattle.verilog_mean.specs.Plain.Port.{In, Out}
use Rattle.verilog_mean.specs.Cycle.{State, Source, port_source, item_source, value}
use Rattle.verilog_mean.specs.Cycle.Source.{Nowhere, Outside}
use Rattle.verilog_mean.specs.CorePorts.{is_port, has_port, has_ports, HasCorePorts}
use Rattle.verilog_mean.proofs.Driven.{value_outside}

pub both : (a b : Bool) → (a && b) ≡ true → (a ≡ true) × (b ≡ true)
both true b e = (refl, e)
both false b e = cc

pub either : (a b : Bool) → (a || b) ≡ true → (a ≡ true) ⊎ (b ≡ true)
either true b e = inl refl
either false b e = inr e

has_at : (qs : List Port) (ps : List CorePort) (i : ℕ) → has_ports qs ps ≡ true → i < length ps → has_port qs (get_or ps i clk) ≡ true
has_at qs [] i e h = absurd (omega arith)
has_at qs (p ∷ ps) zero e h = (both (has_port qs p) (has_ports qs ps) e).0
has_at qs (p ∷ ps) (suc i) e h = has_at qs ps i (both (has_port qs p) (has_ports qs ps) e).1 (omega arith)

-- a module with the ports of a core has each
pub has_each : (t : Plain) → HasCorePorts t → (p : ℕ) → p < 30 → has_port t.ports (port_at p) ≡ true
unfolding port_at
has_each t h p l = has_at t.ports all_ports p h.each l

pub not_output : (b c : Bool) → b ≡ true → (not b && c) ≡ true → ⊥
not_output true c e h = cc
not_output false c e h = cc

taken : (rest : Option Source) (b : Bool) → (b ≡ false → rest ≡ Some Outside) → pick_if b Outside rest ≡ Some Outside
taken rest true g = refl
taken rest false g = g refl

-- an input with the name of the port is the port, or stands before it
later : (q : Port) (p : CorePort) (qs : List Port) (b : Bool) → (is_port q p ≡ true → b ≡ true) → has_port (q ∷ qs) p ≡ true → b ≡ false → has_port qs p ≡ true
later q p qs b named h e = elim (either (is_port q p) (has_port qs p) h) [
  | inl here ↦ let f : b ≡ true = named here in cc
  | inr there ↦ there
]

input_found : (p : CorePort) (qs : List Port) → is_input p ≡ true → has_port qs p ≡ true → look port_source qs (name_of p) ≡ Some Outside
input_found p [] o h = cc
input_found p (In width name ∷ qs) o h =
    taken (look port_source qs (name_of p)) (same_name name (name_of p))
    (λ e. input_found p qs o
    (later (In width name) p qs (same_name name (name_of p)) (λ here. (both (same_name name (name_of p)) (eqb width (width_of p)) (both (is_input p) _ here).1).0) h e))
input_found p (Out width name ∷ qs) o h = elim (either (is_port (Out width name) p) (has_port qs p) h) [
  | inl here ↦ absurd (not_output (is_input p) _ o here)
  | inr there ↦ input_found p qs o there
]

-- an input has the value that it is given
pub input_is : (t : Plain) → HasCorePorts t → (s : State) (ins : List ℕ → ℕ) (p : ℕ) → p < 30 → is_input (port_at p) ≡ true → value t s ins (name_of (port_at p)) ≡ ins (name_of (port_at p))
input_is t h s ins p l o =
    value_outside t s ins (name_of (port_at p))
    (ap (λ found. or_else found (or_else (look item_source t.items (name_of (port_at p))) Nowhere)) (input_found (port_at p) t.ports o (has_each t h p l)))
