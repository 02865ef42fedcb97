-- When what entries build in fits: drivers fit the module, and offers have the widths and levels of their service.
use Rattle.std.specs.Prelude.{◌≡◌, ℕ, zero, suc, ◌<◌, ◌≤◌, true, false, List, [], ◌∷◌, length, get_or, Option, None, Some}
use Rattle.hw_pool.specs.Nodes.{PoolValue}
use Rattle.hw_expr.specs.declared.net.Net.{Net}
use Rattle.hw_expr.specs.Nets.{InScope}
use Rattle.hw_module.specs.declared.rows.Owner.TheVariants.{Entry}
use Rattle.hw_module.specs.Rows.{ModuleValue, wire_at}
use Rattle.hw_module.specs.Scope.{scope_of}
use Rattle.hw_module.specs.Checked.{DriversFit}
use Rattle.service_reg.specs.declared.service.Service.{Service}
use Rattle.service_reg.specs.declared.service.Service.TheVariants.{Exec}
use Rattle.service_ports.specs.declared.ports.ExecOffer.{ExecOffer}
use Rattle.service_ports.specs.Ports.{Ports, exec_ports, input_shapes, output_widths, output_level}
use Rattle.service_ports.specs.Registry.{RegistryValue, Offered, single}
use Rattle.plug_part.specs.Owned.{is_among, is_input_of, ports_of}
use Rattle.plug_build.specs.World.{World}

-- a forward wire of the entry with the width and level of an input
pub record IsInput (d : ModuleValue) (by wire : ℕ) (shape : ℕ × ℕ) : Type 0 where
  pub there : wire < length d.wires
  pub owner : (wire_at d.wires wire).owner ≡ Entry by
  pub width : (wire_at d.wires wire).width ≡ shape.0
  pub level : (wire_at d.wires wire).level ≡ shape.1

-- a net that fits the module, of the width of an output and at most of its level
pub record IsOutput (d : ModuleValue) (pool : PoolValue) (most width : ℕ) (net : Net) : Type 0 where
  pub scope : InScope (scope_of d) pool net
  pub wide : net.width ≡ width
  pub level : net.level ≤ most

-- a list of forward wires has these widths and levels, one by one, and a list of nets these widths
abbrev pub AreInputs : ModuleValue → (by : ℕ) → List ℕ → List (ℕ × ℕ) → Type 0
AreInputs d by [] [] = Unit {0}
AreInputs d by [] (s ∷ ss) = ⊥
AreInputs d by (w ∷ ws) [] = ⊥
AreInputs d by (w ∷ ws) (s ∷ ss) = IsInput d by w s × (AreInputs d by ws ss)

abbrev pub AreOutputs : ModuleValue → PoolValue → (most : ℕ) → List Net → List ℕ → Type 0
AreOutputs d pool most [] [] = Unit {0}
AreOutputs d pool most [] (w ∷ ws) = ⊥
AreOutputs d pool most (n ∷ ns) [] = ⊥
AreOutputs d pool most (n ∷ ns) (w ∷ ws) = IsOutput d pool most w n × (AreOutputs d pool most ns ws)

-- no number is twice in a list
abbrev pub AreApart : List ℕ → Type 0
AreApart [] = Unit {0}
AreApart (w ∷ ws) = (is_among w ws ≡ false) × AreApart ws

-- an offer of a service by an entry fits; its inputs are different forward wires
pub record OfferFits (d : ModuleValue) (pool : PoolValue) (s : Service) (by : ℕ) (p : Ports) : Type 0 where
  pub inputs : AreInputs d by p.inputs (input_shapes s)
  pub outputs : AreOutputs d pool (output_level s) p.outputs (output_widths s)
  pub apart : AreApart p.inputs

-- an offer in a registry: that of a service which one entry alone may offer, or one of Exec by its place
pub data OfferKey : Type 0 where
  The : Service → OfferKey
  ExecAt : ℕ → OfferKey

abbrev pub exec_at : List ExecOffer → ℕ → Option Ports
exec_at [] k = None
exec_at (o ∷ os) zero = Some (exec_ports o.ports)
exec_at (o ∷ os) (suc k) = exec_at os k

-- its ports
abbrev pub ports_at : RegistryValue → OfferKey → Option Ports
ports_at r (The s) = ports_of (single r s)
ports_at r (ExecAt k) = exec_at r.execs k

-- no forward wire is an input of two offers
abbrev pub OffersApart : RegistryValue → Type 0
OffersApart r = (x y : OfferKey) (k : ℕ) → is_input_of (ports_at r x) k ≡ true → is_input_of (ports_at r y) k ≡ true → x ≡ y

-- no entry offers Exec twice
abbrev pub OffersOnce : List ExecOffer → Type 0
OffersOnce os = (i j : ℕ) (o q : ExecOffer) → i < length os → get_or os i o ≡ o → j < length os → get_or os j q ≡ q → o.by ≡ q.by → i ≡ j

-- none of these forward wires is an input of an offer
abbrev pub AreNew : RegistryValue → List ℕ → Type 0
AreNew r ws = (x : OfferKey) (k : ℕ) → is_input_of (ports_at r x) k ≡ true → is_among k ws ≡ false

-- each offer fits, and no two of them share an input
pub record OffersFit (d : ModuleValue) (pool : PoolValue) (reg : RegistryValue) : Type 0 where
  pub singles : (s : Service) (o : Offered) → single reg s ≡ Some o → OfferFits d pool s o.by o.ports
  pub execs : (k : ℕ) (o : ExecOffer) → k < length reg.execs → get_or reg.execs k o ≡ o → OfferFits d pool Exec o.by (exec_ports o.ports)
  pub once : OffersOnce reg.execs
  pub apart : OffersApart reg

pub record WorldFits (w : World) : Type 0 where
  pub drivers : DriversFit w.design w.pool
  pub offers : OffersFit w.design w.pool w.reg
