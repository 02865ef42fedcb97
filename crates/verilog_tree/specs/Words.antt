-- The words that are no names.
use Rattle.std.specs.Prelude.{ℕ, Bool, true, false, ◌&&◌, ◌||◌, ◌==◌, List, [], ◌∷◌, codes}

-- whether two words are the same
abbrev pub same_bytes : List ℕ → List ℕ → Bool
same_bytes [] [] = true
same_bytes [] (c ∷ cs) = false
same_bytes (b ∷ bs) [] = false
same_bytes (b ∷ bs) (c ∷ cs) = b == c && same_bytes bs cs

-- whether a word is one of a list
abbrev pub is_among : List ℕ → List (List ℕ) → Bool
is_among w [] = false
is_among w (v ∷ vs) = same_bytes w v || is_among w vs

-- the words of the grammar; "clk" and "reset" are names
unfoldable pub grammar_words : List (List ℕ)
grammar_words = codes "module" ∷ codes "input" ∷ codes "output" ∷ codes "wire" ∷ codes "reg" ∷ codes "assign" ∷ codes "always" ∷ codes "posedge" ∷ codes "if" ∷ codes "else" ∷ codes "endmodule" ∷ []

-- words of Verilog for what this language lacks
unfoldable pub unsupported_words : List (List ℕ)
unsupported_words =
    codes "begin" ∷ codes "end" ∷ codes "case" ∷ codes "casex" ∷ codes "casez" ∷ codes "endcase" ∷ codes "default" ∷ codes "for" ∷ codes "forever" ∷ codes "while" ∷
    codes "repeat" ∷ codes "wait" ∷ codes "initial" ∷ codes "task" ∷ codes "endtask" ∷ codes "function" ∷ codes "endfunction" ∷ codes "generate" ∷ codes "endgenerate" ∷ codes "genvar" ∷
    codes "parameter" ∷ codes "localparam" ∷ codes "defparam" ∷ codes "integer" ∷ codes "real" ∷ codes "time" ∷ codes "event" ∷ codes "inout" ∷ codes "tri" ∷ codes "wand" ∷
    codes "wor" ∷ codes "signed" ∷ codes "negedge" ∷ codes "specify" ∷ codes "endspecify" ∷ codes "fork" ∷ codes "join" ∷ codes "force" ∷ codes "release" ∷ codes "deassign" ∷ []

-- neither may stand where the grammar wants a name
unfoldable pub is_reserved : List ℕ → Bool
is_reserved w = is_among w grammar_words || is_among w unsupported_words
