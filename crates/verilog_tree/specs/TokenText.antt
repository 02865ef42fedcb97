-- What a token of the Rust type says.
use Rattle.std.specs.Prelude.{◌≡◌, ℕ, ◌-◌, ◌≤◌, List, [], ◌∷◌, length, take, drop, Some}
use Rattle.verilog_tree.specs.Lexemes.{Lexeme, Word, Number, Sized, Mark, Placed}
use Rattle.verilog_tree.specs.Lex.{token_at}
use Rattle.verilog_tree.specs.declared.token.TokenKind.{TokenKind}
use Rattle.verilog_tree.specs.declared.token.TokenKind.TheVariants as kind
use Rattle.verilog_tree.specs.declared.token.Token.{Token}

-- the kind of a token
abbrev pub kind_of : Lexeme → TokenKind
kind_of (Word w) = kind.Word
kind_of (Number n) = kind.Number
kind_of (Sized width value) = kind.Literal
kind_of (Mark s) = kind.Sign

-- the text of a token: the slice of the source from its first place up to its second
abbrev pub token_text : List ℕ → Token → List ℕ
token_text bytes t = take (t.to - t.from) (drop t.from bytes)

-- the bytes begin with the token, which leaves the rest
abbrev pub StandsBefore : List ℕ → Lexeme → List ℕ → Type 0
StandsBefore rest x [] = ⊥
StandsBefore rest x (b ∷ bs) = token_at b bs ≡ Some (x, rest)

-- a token of a text as the Rust type has it: its kind, its place, and that it is what stands there, up to its end
pub record IsTokenOf (bytes : List ℕ) (t : Token) (p : Placed) : Type 0 where
  pub sort : t.kind ≡ kind_of p.lexeme
  pub place : t.from ≡ p.at
  pub inside : t.to ≤ length bytes
  pub stands : StandsBefore (drop t.to bytes) p.lexeme (drop t.from bytes)
