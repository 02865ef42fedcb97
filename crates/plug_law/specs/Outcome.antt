-- What follows from what was fetched, over a table of numbered rows.
use Rattle.std.specs.Prelude.{ℕ, Bool, Option, Some, None}
use Rattle.core_words.specs.Fields.{rs1_of, rs2_of}
use Rattle.isa_model.specs.Machine.{Machine, register, Fetched}
use Rattle.isa_model.specs.Machine.Fetched.{Word, Error}
use Rattle.isa_model.specs.Effects.{Moment, Effect, illegal}
use Rattle.isa_model.specs.Step.{Done, trap, done_of}
use Rattle.plug_law.specs.Table.{Table}

-- the values of a word's registers rs1 and rs2
abbrev pub source_a : Machine → (word : ℕ) → ℕ
source_a m word = register m.regs (rs1_of word)

abbrev pub source_b : Machine → (word : ℕ) → ℕ
source_b m word = register m.regs (rs2_of word)

-- what the row of a word does in a machine
abbrev pub effect_on : Table → Machine → (row word : ℕ) → Moment → Effect
effect_on t m row word moment = t.effect row m.pc word (source_a m word) (source_b m word) m.memory m.csrs moment

-- a word of no row is an illegal instruction
abbrev pub effect_among : Table → Machine → (word : ℕ) → Moment → Option ℕ → Effect
effect_among t m word moment None = illegal word
effect_among t m word moment (Some row) = effect_on t m row word moment

-- the trap or the retirement that follows; none where the instruction does not take place in this cycle
unfoldable pub outcome_by : (system : Bool) → Table → Machine → Fetched → Moment → Option Done
outcome_by system t m Error moment = Some (trap system m 0 1 m.pc None)
outcome_by system t m (Word word) moment = done_of system m word (effect_among t m word moment (t.row_of word))
