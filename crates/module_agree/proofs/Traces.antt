-- A text's run is that of the module that it means, from the same contents on the same inputs.
use Rattle.std.proofs.Common.{◌≡◌, ◌∙◌, ℕ, zero, suc, ◌^◌, ◌<◌, Bool, true, false, cond, not, eqb, List, [], ◌∷◌, inl, inr, refl, sym, ap, subst}
use Rattle.std.specs.Cmp.Lexicographic.{bytes_decides}
use Rattle.std.proofs.lemmas.Bool.{eqb-true}
use Rattle.core_words.specs.Names.{same_name}
use Rattle.core_ports.specs.Ports.{CorePort, name_of, is_input, width_of}
use Rattle.hw_pool.specs.Nodes.{PoolValue}
use Rattle.hw_module.specs.Ports.{port_at}
use Rattle.hw_module.specs.Rows.{ModuleValue}
use Rattle.hw_module.specs.Checked.{DriversFit}
use Rattle.hw_module.specs.Cycle.{AreInputs, out_value, held_at}
use Rattle.verilog_mean.specs.Plain.{Plain, Port}
use Rattle.verilog_mean.specs.Plain.Port.{In, Out}
use Rattle.verilog_mean.specs.Cycle.{State}
use Rattle.verilog_mean.specs.Run.{Inputs, IsInput, PortsFit, state_at, trace_of}
use Rattle.verilog_mean.specs.CorePorts.{is_port, has_port, HasCorePorts}
use Rattle.module_netlist.specs.Names.{port_name}
use Rattle.module_netlist.specs.Means.{Means, held_by, ins_by}
use Rattle.module_agree.specs.Traces.{numbered, ShowsModule}
use Rattle.module_agree.proofs.Depends.{HoldsSame, next_same, out_same}
use Rattle.module_agree.proofs.Ports.{both, either, not_output, input_is, has_each}

-- ---- inputs that fit the ports of a text fit the table of ports

abbrev name_at : Port → List ℕ
name_at (In width name) = name
name_at (Out width name) = name

named : (q : Port) (p : CorePort) → is_port q p ≡ true → name_at q ≡ name_of p
named (In width name) p e = (bytes_decides name (name_of p)).0 (both (same_name name (name_of p)) (eqb width (width_of p)) (both (is_input p) _ e).1).0
named (Out width name) p e = (bytes_decides name (name_of p)).0 (both (same_name name (name_of p)) (eqb width (width_of p)) (both (not (is_input p)) _ e).1).0

width_is : (width : ℕ) (name : List ℕ) (p : CorePort) → is_port (In width name) p ≡ true → width ≡ width_of p
width_is width name p e = eqb-true width (width_of p) (both (same_name name (name_of p)) (eqb width (width_of p)) (both (is_input p) _ e).1).1

fits_each : (f : List ℕ → ℕ) (p : CorePort) (qs : List Port) → is_input p ≡ true → has_port qs p ≡ true → PortsFit qs f → f (name_of p) < 2 ^ width_of p
fits_each f p [] o e h = cc
fits_each f p (In width name ∷ qs) o e h = elim (either (is_port (In width name) p) (has_port qs p) e) [
  | inl here ↦ subst (λ w. f (name_of p) < 2 ^ w) (width_is width name p here) (subst (λ x. f x < 2 ^ width) (named (In width name) p here) h.0)
  | inr there ↦ fits_each f p qs o there h.1
]
fits_each f p (Out width name ∷ qs) o e h = elim (either (is_port (Out width name) p) (has_port qs p) e) [
  | inl here ↦ absurd (not_output (is_input p) _ o here)
  | inr there ↦ fits_each f p qs o there h
]

pub inputs_fit : (t : Plain) → HasCorePorts t → (ins : Inputs) → IsInput t ins → (k : ℕ) → AreInputs (numbered ins k)
inputs_fit t ports ins is k p l o = fits_each (ins k) (port_at p) t.ports o (has_each t ports p l) (is.fits k)

-- ---- the run

module _ (m : ModuleValue) (pool : PoolValue) (fits : DriversFit m pool) (t : Plain) (means : Means m pool.nodes t) (c : State) (ins : Inputs) where
  -- the module's registers and arrays hold what the text's hold
  holds_same : (k : ℕ) → HoldsSame m (held_by m (state_at t c ins k)) (held_at m pool.nodes (held_by m c) (numbered ins) k)
  unfolding state_at held_at
  holds_same zero = record { regs = λ r l. refl; cells = λ a l. refl }
  holds_same (suc k) =
      let s = state_at t c ins k in
      let step = next_same m (held_by m s) (held_at m pool.nodes (held_by m c) (numbered ins) k) (ins_by (ins k)) (ins_by (ins k)) (holds_same k) (λ p l h. refl) pool fits in
      record {
        regs = λ r l. means.regs s (ins k) r l ∙ step.regs r l;
        cells = λ a l. means.cells s (ins k) a l ∙ step.cells a l;
      }

  out_is : (k q : ℕ) → q < 30 → is_input (port_at q) ≡ false
      → trace_of t c ins k (port_name q) ≡ out_value m pool.nodes (held_at m pool.nodes (held_by m c) (numbered ins) k) (ins_by (ins k)) q
  unfolding trace_of
  out_is k q l o =
      let s = state_at t c ins k in
      means.outs s (ins k) q l o
      ∙ out_same m (held_by m s) (held_at m pool.nodes (held_by m c) (numbered ins) k) (ins_by (ins k)) (ins_by (ins k)) (holds_same k) (λ p l h. refl) pool fits q l

  pub shows_module : HasCorePorts t → ShowsModule m pool.nodes (held_by m c) (numbered ins) (trace_of t c ins)
  unfolding trace_of
  shows_module ports k q l = at (is_input (port_at q)) refl
    where
      at : (b : Bool) → is_input (port_at q) ≡ b
          → trace_of t c ins k (port_name q) ≡ cond (is_input (port_at q)) (ins_by (ins k) q) (out_value m pool.nodes (held_at m pool.nodes (held_by m c) (numbered ins) k) (ins_by (ins k)) q)
      at true o = input_is t ports (state_at t c ins k) (ins k) q l o ∙ ap (λ b. cond b (ins_by (ins k) q) (out_value m pool.nodes (held_at m pool.nodes (held_by m c) (numbered ins) k) (ins_by (ins k)) q)) (sym o)
      at false o = out_is k q l o ∙ ap (λ b. cond b (ins_by (ins k) q) (out_value m pool.nodes (held_at m pool.nodes (held_by m c) (numbered ins) k) (ins_by (ins k)) q)) (sym o)
