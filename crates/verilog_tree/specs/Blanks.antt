-- What may stand between tokens: spaces and comments.
-- A comment is "//" up to a line feed or the end of the text, or "/*" up to the next "*/" behind it, so that "/*/" is only a beginning.
use Rattle.std.specs.Prelude.{ℕ, ◌&&◌, ◌==◌, List, [], ◌∷◌, Option, Some, None}
use Rattle.verilog_tree.specs.Bytes.{choose, is_space, begins}

-- where a byte stands
pub data Mode : Type 0 where
  -- in no comment
  Between : Mode
  -- in a comment up to the end of its line, at its second byte or behind
  Line : Mode
  -- at the second byte of "/*"
  Opening : Mode
  -- behind "/*"
  Block : Mode
  -- at the second byte of "*/"
  Closing : Mode

-- where the next byte stands, given a byte and those behind it; none where a token begins
abbrev pub mode_after : Mode → ℕ → List ℕ → Option Mode
mode_after Between b bs = choose (is_space b) (λ _. Some Between) (λ _. choose (b == 47 && begins 47 bs) (λ _. Some Line) (λ _. choose (b == 47 && begins 42 bs) (λ _. Some Opening) (λ _. None)))
mode_after Line b bs = choose (b == 10) (λ _. Some Between) (λ _. Some Line)
mode_after Opening b bs = Some Block
mode_after Block b bs = choose (b == 42 && begins 47 bs) (λ _. Some Closing) (λ _. Some Block)
mode_after Closing b bs = Some Between

-- what is left at the end of the text: nothing, and none in a comment that must still end
abbrev pub at_end : Mode → Option (List ℕ)
at_end Between = Some []
at_end Line = Some []
at_end Opening = None
at_end Block = None
at_end Closing = None

-- the text here where a token begins, and else what comes of the mode
abbrev pub on_mode : Option Mode → List ℕ → (Mode → Option (List ℕ)) → Option (List ℕ)
on_mode None bytes go = Some bytes
on_mode (Some m) bytes go = go m

-- the text from its next token on; none where a comment does not end
abbrev pub skipped : Mode → List ℕ → Option (List ℕ)
skipped m [] = at_end m
skipped m (b ∷ bs) = on_mode (mode_after m b bs) (b ∷ bs) (λ n. skipped n bs)
