use Rattle.cache_law.proofs.Kept.{keeps_law}
use Rattle.cache_law.proofs.Streams.{keeps_cache}
use Rattle.cache_law.proofs.Tied.{is_cache}
use Rattle.cache_law.proofs.cache_keeps_its_laws.Goals as goal

pub returns : goal.returns
returns c = record {
  law = λ lines words reset_pc predicts predict f ib mem r some_lines some_words whole is_predict is. keeps_law lines words reset_pc predicts f ib mem predict r is some_lines some_words whole is_predict;
  cache = λ lines words reset_pc predicts predict f ib mem r some_lines some_words whole is_predict is. keeps_cache lines words reset_pc predicts f ib mem predict r is some_lines some_words whole is_predict;
  cells = λ lines words top reset_pc predicts f ib q some_top some_lines some_words is. is_cache lines words top reset_pc predicts f ib q some_top is some_lines some_words;
}
