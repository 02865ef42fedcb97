-- The line of an event. A number is eight hexadecimal digits, a register's number is decimal.
use Rattle.std.specs.Prelude.{ℕ, zero, suc, List, [], ◌++◌, codes, decimal}
use Rattle.core_ports.specs.Trace.{PortEvent}
use Rattle.verilog_tree.specs.Hex.{hex8}

-- the register that a retired instruction writes, none where it is register 0
abbrev pub register_part : (rd value : ℕ) → List ℕ
register_part zero value = []
register_part (suc n) value = codes " x" ++ (decimal (suc n) ++ (codes "=" ++ hex8 value))

abbrev pub retired_line : PortEvent → List ℕ
retired_line e = codes "R pc=" ++ (hex8 e.pc ++ (codes " word=" ++ (hex8 e.word ++ (register_part e.rd e.value ++ codes "\n"))))

abbrev pub trapped_line : PortEvent → List ℕ
trapped_line e = codes "T pc=" ++ (hex8 e.pc ++ (codes " word=" ++ (hex8 e.word ++ (codes " cause=" ++ (hex8 e.cause ++ codes "\n")))))

abbrev pub interrupted_line : PortEvent → List ℕ
interrupted_line e = codes "I pc=" ++ (hex8 e.pc ++ (codes " cause=" ++ (hex8 e.cause ++ codes "\n")))

-- by its kind: 0 a retirement, 1 a trap, 2 an interrupt, and every other a trap that stops the core
abbrev pub line_by : (kind : ℕ) → PortEvent → List ℕ
line_by zero e = retired_line e
line_by (suc zero) e = trapped_line e
line_by (suc (suc zero)) e = interrupted_line e
line_by (suc (suc (suc n))) e = trapped_line e

abbrev pub event_line : PortEvent → List ℕ
event_line e = line_by e.kind e
