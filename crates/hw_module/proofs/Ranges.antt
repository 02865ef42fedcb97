-- The ranges of a module that has no thing yet, and of one that drives an output more.
use Rattle.std.proofs.Common.{◌≡◌, ◌∙◌, ℕ, true, false, List, [], length, set, Option, None, Some, replicate, ap, arith, sym, inl, inr, length-set}
use Rattle.std.proofs.lemmas.Bool.{cases_lt}
use Rattle.std.proofs.lemmas.List.{get_or-replicate, get_or-set_other, get_or_past}
use Rattle.core_ports.specs.Ports.{is_input}
use Rattle.hw_expr.specs.declared.net.Net.{Net}
use Rattle.hw_module.specs.Ports.{port_at}
use Rattle.hw_module.specs.Rows.{ModuleValue, IsModule, out_at}

no_driver : (k : ℕ) → out_at (replicate 30 None) k ≡ None
no_driver k = elim (cases_lt k 30) [
  | inl there ↦ get_or-replicate 30 k None None there
  | inr past ↦ get_or_past (replicate 30 None) k None past
]

-- a module without things, whose ports have no driver
pub bare_is : (m : ModuleValue) → m.wires ≡ [] → m.regs ≡ [] → m.arrays ≡ [] → m.outs ≡ replicate 30 None → IsModule m
bare_is m wires regs arrays outs =
    let no_wires : length m.wires ≡ 0 = ap length wires in
    let no_regs : length m.regs ≡ 0 = ap length regs in
    let no_arrays : length m.arrays ≡ 0 = ap length arrays in
    record {
      wires = λ k l. absurd (omega arith);
      regs = λ k l. absurd (omega arith);
      resets = λ k l. absurd (omega arith);
      arrays = λ k l. absurd (omega arith);
      bits_least = λ k l. absurd (omega arith);
      bits_most = λ k l. absurd (omega arith);
      ports = ap length outs;
      inputs = λ k is. ap (λ (o : List (Option Net)). out_at o k) outs ∙ no_driver k;
      wire_owners = λ k l. absurd (omega arith);
      reg_owners = λ k l. absurd (omega arith);
      array_owners = λ k l. absurd (omega arith);
    }

-- no input has a driver where an output takes one
pub output_is : (m : ModuleValue) (room port : ℕ) (net : Net) → is_input (port_at port) ≡ false → IsModule m
    → IsModule (record m { outs = set m.outs port (Some net); room = room })
output_is m room port net output is = record {
  wires = is.wires;
  regs = is.regs;
  resets = is.resets;
  arrays = is.arrays;
  bits_least = is.bits_least;
  bits_most = is.bits_most;
  ports = length-set m.outs port (Some net) ∙ is.ports;
  inputs = λ k input.
      get_or-set_other m.outs port k (Some net) None (λ e. let no : true ≡ false = sym input ∙ ap (λ (p : ℕ). is_input (port_at p)) e ∙ output in cc)
      ∙ is.inputs k input;
  wire_owners = is.wire_owners;
  reg_owners = is.reg_owners;
  array_owners = is.array_owners;
}
