use Rattle.std.proofs.Common.{ℕ, ◌+◌, ◌*◌, ◌<◌, length}
use Rattle.plug_fetch.specs.Registers.{IsOpenPlace, MakesRegs}
use Rattle.plug_fetch.proofs.make.make_places.Given as goal

abbrev pub invariant-loop-i : goal.invariant-loop-i
invariant-loop-i l = record {
  places : (j : ℕ) → j < l._i → IsOpenPlace l.b.design l.fn.b.entry (length l.fn.b.design.regs + 4 * j);
  makes : MakesRegs (4 * l._i) l.fn.b l.b;
}
