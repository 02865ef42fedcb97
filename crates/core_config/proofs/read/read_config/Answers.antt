use Rattle.std.proofs.Common.{sym, ◌∙◌, subst, inl, Some}
use Rattle.std.proofs.lemmas.Bool.{false≢true}
use Rattle.toml.specs.View.{table_view}
use Rattle.core_config.specs.Config.{IsAnswer}
use Rattle.core_config.proofs.Allows.{answer_allowed}
use Rattle.core_config.proofs.Documents.{config_of-long, config_of-text, config_of-no_text}
use Rattle.core_config.proofs.read.read_config.Goals as goal

pub returns-then-bytes-gt-CONFIG_LIMIT : goal.returns-then-bytes-gt-CONFIG_LIMIT
returns-then-bytes-gt-CONFIG_LIMIT c = record {
  answer = inl (sym (config_of-long _ c.if-bytes-gt-CONFIG_LIMIT.true));
  allowed = tt;
}

pub returns-in-Ok : goal.returns-in-Ok
returns-in-Ok c =
    let text = c.in-Ok.ensures.ok in
    let e = config_of-text c.args.bytes.now (Some (table_view c.in-Ok.table)) c.if-bytes-gt-CONFIG_LIMIT.false text.0 text.1 in
    let read = subst (λ p. IsAnswer c.read_table.result p) (sym e) c.read_table.ensures in
    record { answer = read; allowed = answer_allowed c.args.bytes.now c.read_table.result read }

pub returns-else-is_memory : goal.returns-else-is_memory
returns-else-is_memory c = record {
  answer = inl (sym (config_of-no_text c.args.bytes.now c.if-bytes-gt-CONFIG_LIMIT.false (c.in-Err.ensures.refused (λ m. false≢true (sym c.if-is_memory.false ∙ c.is_memory.ensures.1 m)))));
  allowed = tt;
}
