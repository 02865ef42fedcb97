-- How late a command and a response come, on a bus that answers within w cycles.
use Rattle.std.proofs.Common.{◌≡◌, ℕ, zero, suc, ◌+◌, ◌*◌, ◌<◌, ◌≤◌, true, Some, arith}
use Rattle.core_ports.specs.Trace.{Bus}
use Rattle.bus_law.specs.Protocol.{is_given, owed}
use Rattle.bus_law.specs.Prompt.{IsPrompt, given_from}
use Rattle.bus_law.proofs.Waits.{prompt_given, prompt_both}

-- in the cycles up to cycle n
pub record InTime (b : Bus) (w n : ℕ) : Type 0 where
  pub given : (t : ℕ) → t ≤ n → is_given b t ≡ true → t ≤ given_from b t + w
  pub answered : (t c : ℕ) → t ≤ n → owed b t ≡ Some c → t ≤ given_from b c + 2 * w

pub from_prompt : (b : Bus) (w n : ℕ) → 1 ≤ w → ((j : ℕ) → suc j < n → IsPrompt b w (suc j)) → InTime b w n
from_prompt b w n one prompt = record {
  given = λ t l g. prompt_given b w t (earlier t l);
  answered = λ t c l o. prompt_both b w t c one (earlier t l) o;
}
  where
    earlier : (t : ℕ) → t ≤ n → (j : ℕ) → 1 ≤ j → j < t → IsPrompt b w j
    earlier t l zero a m = absurd (omega arith)
    earlier t l (suc j) a m = prompt j (omega arith)
