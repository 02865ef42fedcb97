use Rattle.std.proofs.Common.{Some, Ok, sym, ap, ◌∙◌, inl}
use Rattle.toml.specs.View.{view, table_view}
use Rattle.toml.proofs.Views.{view-Table}
use Rattle.core_config.specs.Config.{memory_of_value}
use Rattle.core_config.proofs.read.read_memory.Goals as goal

pub returns-in-Some-Table : goal.returns-in-Some-Table
returns-in-Some-Table c =
    let seen = ap view c.in-Some-Table.field-0-is ∙ view-Table c.in-Some-Table.memory in
    inl (ap (λ m. Ok (table_view m)) c.in-Some-Table.memory-is ∙ ap (λ d. memory_of_value (Some d)) (sym seen) ∙ ap memory_of_value c.in-Some-Table.ensures)
