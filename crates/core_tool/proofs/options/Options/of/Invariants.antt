use Rattle.std.proofs.Common.{◌≡◌, All, Some, map, string_bytes, drop}
use Rattle.core_sim.specs.Spans.{IsSpan}
use Rattle.core_tool.specs.Options.{options_behind, options_of}
use Rattle.core_tool.proofs.options.Options.of.Given as goal

abbrev pub invariant-loop-word : goal.invariant-loop-word
invariant-loop-word l = record {
  options : options_behind (Some l.found) (map string_bytes (drop l.word-index l.words)) ≡ options_of (map string_bytes l.words);
  spans : All IsSpan l.found.irqs.items;
}
