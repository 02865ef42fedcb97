-- One cycle of a part: what stands at its registers, at its inputs and at the interrupt lines.
use Rattle.std.specs.Prelude.{ℕ, ◌+◌, List, get_or}
use Rattle.hw_pool.specs.Meaning.{Env}
use Rattle.csr_nets.specs.Machine.{Now}

-- The registers are numbered from `first` on. The inputs of Exec are go, row, pc, word, a, b and clear, those of System event, kind, pc,
-- cause and tval; the lines are inputs 17 to 19 of the core.
abbrev pub now_at : (first : ℕ) → (inputs told : List ℕ) → Env → Now
now_at first inputs told env = record {
  held = record { on = env.regs first; was = env.regs (first + 1); soft = env.regs (first + 2); timer = env.regs (first + 3); outer = env.regs (first + 4); tvec = env.regs (first + 5); epc = env.regs (first + 6); scratch = env.regs (first + 7); cause = env.regs (first + 8); tval = env.regs (first + 9) };
  lines = record { soft = env.inputs 17; timer = env.inputs 18; outer = env.inputs 19 };
  given = record { go = env.wires (get_or inputs 0 0); pc = env.wires (get_or inputs 2 0); word = env.wires (get_or inputs 3 0); a = env.wires (get_or inputs 4 0); clear = env.wires (get_or inputs 6 0) };
  told = record { event = env.wires (get_or told 0 0); kind = env.wires (get_or told 1 0); pc = env.wires (get_or told 2 0); cause = env.wires (get_or told 3 0); tval = env.wires (get_or told 4 0) };
}
