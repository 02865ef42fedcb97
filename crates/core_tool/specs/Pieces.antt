-- A line in pieces, as it is pushed.
use Rattle.std.specs.Prelude.{◌++◌, ℕ, List, [], ◌∷◌, decimal}
use Rattle.verilog_tree.specs.Hex.{hex8}
use Rattle.core_tool.specs.declared.lines.Piece.{Piece}
use Rattle.core_tool.specs.declared.lines.Piece.TheVariants.{Text, Hex, Decimal}

-- the bytes of a piece, and of pieces in a row
abbrev pub piece_bytes : Piece → List ℕ
piece_bytes (Text text) = text.now
piece_bytes (Hex number) = hex8 number
piece_bytes (Decimal number) = decimal number

abbrev pub joined : List Piece → List ℕ
joined [] = []
joined (piece ∷ pieces) = piece_bytes piece ++ joined pieces
