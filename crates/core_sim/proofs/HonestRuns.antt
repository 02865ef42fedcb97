-- The run of a sound core over its buses, and the interrupt lines that it is given.
use Rattle.std.proofs.Common.{◌≡◌, ℕ, zero, suc, ◌+◌, ◌*◌, ◌^◌, Bool, true, false, cond, List, [], ◌∷◌, inl, inr, All, bit_or, refl, sym, ap, ◌∙◌, arith}
use Rattle.core_words.specs.Values.{bits_of, one_if}
use Rattle.core_ports.specs.Ports.{CorePort, name_of, is_input}
use Rattle.core_ports.specs.Ports as port
use Rattle.core_ports.specs.Trace.{lines_at, on_port}
use Rattle.bus_law.specs.Memory.{Memory, IsMemory}
use Rattle.verilog_tree.specs.declared.tree.Tree.{Tree}
use Rattle.verilog_mean.specs.Bounds.{IsBounded}
use Rattle.verilog_mean.specs.Sound.{IsSound}
use Rattle.verilog_mean.specs.CorePorts.{HasCorePorts}
use Rattle.verilog_mean.specs.Cycle.{State, value}
use Rattle.verilog_mean.specs.Erase.{plain_tree}
use Rattle.verilog_mean.specs.Plain.{Plain}
use Rattle.verilog_mean.specs.Run.{IsStart}
use Rattle.verilog_sim.specs.Simulates.{AllFit}
use Rattle.verilog_sim.specs.Layouts.{output_names}
use Rattle.core_sim.specs.declared.ended.IrqSpan.{IrqSpan}
use Rattle.core_sim.specs.Joint.{joint_at, run_inputs, run_of}
use Rattle.core_sim.specs.Over.{IsOverBuses}
use Rattle.core_sim.specs.Spans.{IsSpan, is_in, lines_of}
use Rattle.core_sim.proofs.Bridge.{inputs_at, is_over_buses, value_at}
use Rattle.core_sim.proofs.CorePorts.{input_read, is_core}
use Rattle.core_sim.proofs.Widths.{all_fit, start_later}

-- ---- both buses are honest

module _ (t : Tree) (bounded : IsBounded t) (sound : IsSound t) (ports : HasCorePorts (plain_tree t)) (contents : State) (start : IsStart (plain_tree t).items contents)
    (memory : Memory) (is_memory : IsMemory memory) (delays : List ℕ) (lines : ℕ → ℕ) where
  abbrev m : Plain
  m = plain_tree t

  held_at : (k : ℕ) → IsStart m.items (joint_at m contents memory delays lines k).core
  unfolding joint_at
  held_at zero = start
  held_at (suc k) =
      start_later t bounded sound (joint_at m contents memory delays lines k).core (held_at k) (run_inputs m contents memory delays lines k)
      (inputs_at m contents memory delays lines (is_core t sound ports) is_memory k)

  outputs_at : (k : ℕ) → AllFit m (value m (joint_at m contents memory delays lines k).core (run_inputs m contents memory delays lines k)) (output_names m.ports)
  outputs_at k =
      all_fit t bounded sound (joint_at m contents memory delays lines k).core (held_at k) (run_inputs m contents memory delays lines k)
      (inputs_at m contents memory delays lines (is_core t sound ports) is_memory k) (output_names m.ports)

  pub run_is_over : IsOverBuses m contents memory delays lines
  run_is_over = is_over_buses m contents memory delays lines (is_core t sound ports) is_memory outputs_at ports start

-- ---- the interrupt lines

-- the lines as a number
abbrev sum_of : (software timer outer : Bool) → ℕ
sum_of software timer outer = one_if software * 2 ^ 3 + one_if timer * 2 ^ 7 + one_if outer * 2 ^ 11

-- a number has no bits but those of the lines
abbrev IsSum : ℕ → Type 0
IsSum n = (software : Bool) × (timer : Bool) × (outer : Bool) × (n ≡ sum_of software timer outer)

by_lines : (P : Bool → Bool → Bool → Type 0) → P true true true → P true true false → P true false true → P true false false → P false true true → P false true false → P false false true → P false false false
    → (a b c : Bool) → P a b c
by_lines P h0 h1 h2 h3 h4 h5 h6 h7 true true true = h0
by_lines P h0 h1 h2 h3 h4 h5 h6 h7 true true false = h1
by_lines P h0 h1 h2 h3 h4 h5 h6 h7 true false true = h2
by_lines P h0 h1 h2 h3 h4 h5 h6 h7 true false false = h3
by_lines P h0 h1 h2 h3 h4 h5 h6 h7 false true true = h4
by_lines P h0 h1 h2 h3 h4 h5 h6 h7 false true false = h5
by_lines P h0 h1 h2 h3 h4 h5 h6 h7 false false true = h6
by_lines P h0 h1 h2 h3 h4 h5 h6 h7 false false false = h7

with_software : (a b c : Bool) → bit_or (2 ^ 3) (sum_of a b c) ≡ sum_of true b c
with_software = by_lines (λ a b c. bit_or (2 ^ 3) (sum_of a b c) ≡ sum_of true b c) refl refl refl refl refl refl refl refl

with_timer : (a b c : Bool) → bit_or (2 ^ 7) (sum_of a b c) ≡ sum_of a true c
with_timer = by_lines (λ a b c. bit_or (2 ^ 7) (sum_of a b c) ≡ sum_of a true c) refl refl refl refl refl refl refl refl

with_outer : (a b c : Bool) → bit_or (2 ^ 11) (sum_of a b c) ≡ sum_of a b true
with_outer = by_lines (λ a b c. bit_or (2 ^ 11) (sum_of a b c) ≡ sum_of a b true) refl refl refl refl refl refl refl refl

with_none : (a b c : Bool) → bit_or 0 (sum_of a b c) ≡ sum_of a b c
with_none = by_lines (λ a b c. bit_or 0 (sum_of a b c) ≡ sum_of a b c) refl refl refl refl refl refl refl refl

bits_are : (a b c : Bool) → bits_of (sum_of a b c) 3 3 * 2 ^ 3 + bits_of (sum_of a b c) 7 7 * 2 ^ 7 + bits_of (sum_of a b c) 11 11 * 2 ^ 11 ≡ sum_of a b c
bits_are = by_lines (λ a b c. bits_of (sum_of a b c) 3 3 * 2 ^ 3 + bits_of (sum_of a b c) 7 7 * 2 ^ 7 + bits_of (sum_of a b c) 11 11 * 2 ^ 11 ≡ sum_of a b c)
    refl refl refl refl refl refl refl refl

with_line : (line n : ℕ) → IsSpan (record { line = line; from = 0; to = 0 }) → IsSum n → IsSum (bit_or (2 ^ line) n)
with_line line n (inl is) (a, b, c, e) = (true, b, c, ap (λ k. bit_or (2 ^ k) n) is ∙ ap (bit_or (2 ^ 3)) e ∙ with_software a b c)
with_line line n (inr (inl is)) (a, b, c, e) = (a, true, c, ap (λ k. bit_or (2 ^ k) n) is ∙ ap (bit_or (2 ^ 7)) e ∙ with_timer a b c)
with_line line n (inr (inr is)) (a, b, c, e) = (a, b, true, ap (λ k. bit_or (2 ^ k) n) is ∙ ap (bit_or (2 ^ 11)) e ∙ with_outer a b c)

with_span : (inside : Bool) (line n : ℕ) → IsSpan (record { line = line; from = 0; to = 0 }) → IsSum n → IsSum (bit_or (cond inside (2 ^ line) 0) n)
with_span true line n is h = with_line line n is h
with_span false line n is (a, b, c, e) = (a, b, c, ap (bit_or 0) e ∙ with_none a b c)

lines_sum : (irqs : List IrqSpan) (k : ℕ) → All IsSpan irqs → IsSum (lines_of irqs k)
lines_sum [] k h = (false, false, false, refl)
lines_sum (s ∷ rest) k h = with_span (is_in s k) s.line (lines_of rest k) (h 0 s (omega arith)) (lines_sum rest k (λ i d less. h (suc i) d (omega (arith, less))))

module _ (m : Plain) (ports : HasCorePorts m) (contents : State) (memory : Memory) (delays : List ℕ) (irqs : List IrqSpan) where
  given_at : (p : CorePort) → is_input p ≡ true → (k : ℕ) → on_port (run_of m contents memory delays (lines_of irqs)) p k ≡ run_inputs m contents memory delays (lines_of irqs) k (name_of p)
  given_at p i k = value_at m contents memory delays (lines_of irqs) k (name_of p) ∙ input_read m _ _ p ports i

  pub lines_are : All IsSpan irqs → (k : ℕ) → lines_at (run_of m contents memory delays (lines_of irqs)) k ≡ lines_of irqs k
  unfolding name_of
  lines_are h k =
      let is = lines_sum irqs k h in
      (λ i. given_at port.irq_software refl k i * 2 ^ 3 + given_at port.irq_timer refl k i * 2 ^ 7 + given_at port.irq_external refl k i * 2 ^ 11)
      ∙ ap (λ n. bits_of n 3 3 * 2 ^ 3 + bits_of n 7 7 * 2 ^ 7 + bits_of n 11 11 * 2 ^ 11) is.3 ∙ bits_are is.0 is.1 is.2 ∙ sym is.3
