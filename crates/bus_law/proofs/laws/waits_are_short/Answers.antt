use Rattle.bus_law.proofs.Waits.{within_fewer, within_given, within_owed, within_both, prompt_given, prompt_owed, prompt_both}
use Rattle.bus_law.proofs.laws.waits_are_short.Goals as goal

pub returns : goal.returns
returns c = record {
  fewer = within_fewer;
  given = within_given;
  owed = within_owed;
  owed_from_first = within_both;
  prompt_given = prompt_given;
  prompt_owed = prompt_owed;
  prompt_owed_from_first = prompt_both;
}
