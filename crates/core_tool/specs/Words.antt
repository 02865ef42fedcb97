-- The forms of the words of a call.
use Rattle.std.specs.Prelude.{All, ℕ, nat_eq, List, [], ◌∷◌, map, Option, Some, None, option_map, Bool, false, not, ◌&&◌, if◌then◌else◌, codes, String, Vec, string_bytes}
use Rattle.std.specs.declared.alloc.Global.{Global}
use Rattle.std.specs.Cmp.Lexicographic.{pointwise}
use Rattle.core_sim.specs.Spans.{IsSpan}
use Rattle.core_tool.specs.declared.options.Options.{Options}
use Rattle.core_tool.specs.declared.words.Form.{Form as FormValue}
use Rattle.core_tool.specs.declared.words.Form.TheVariants as value
use Rattle.core_tool.specs.Options.{options_of}

-- what words ask for
pub data Form : Type 0 where
  Gen : (name : List ℕ) → Form
  Run : (config image : List ℕ) → Options → Form
  Rules : (name : List ℕ) → Form

-- a word is the name of a file: it is not empty and does not begin with `-`
abbrev pub is_file_name : List ℕ → Bool
is_file_name [] = false
is_file_name (b ∷ bs) = not (nat_eq b 45)

-- `gen NAME`, behind the first word
abbrev pub gen_of : List (List ℕ) → Option Form
gen_of (name ∷ []) = if is_file_name name then Some (Gen name) else None
gen_of _ = None

-- `run CONFIG IMAGE` and options, behind the first word
abbrev pub run_of : List (List ℕ) → Option Form
run_of (config ∷ image ∷ words) = if is_file_name config && is_file_name image then option_map (Run config image) (options_of words) else None
run_of _ = None

-- `rules NAME`, behind the first word
abbrev pub rules_of : List (List ℕ) → Option Form
rules_of (name ∷ []) = if is_file_name name then Some (Rules name) else None
rules_of _ = None

-- the form of the words, without the program's name
abbrev pub form_of : List (List ℕ) → Option Form
form_of [] = None
form_of (command ∷ words) = if pointwise nat_eq command (codes "gen") then gen_of words
    else (if pointwise nat_eq command (codes "run") then run_of words
    else (if pointwise nat_eq command (codes "rules") then rules_of words else None))

-- the bytes of the words
abbrev pub words_of : Vec (String Global) Global → List (List ℕ)
words_of words = map string_bytes words.items

-- the spans of a run's options are of interrupt lines
abbrev pub HasSpans : FormValue → Type 0
HasSpans (value.Gen name) = Unit {0}
HasSpans (value.Run config image options) = All IsSpan options.irqs.items
HasSpans (value.Rules name) = Unit {0}

-- the form that a value stands for
abbrev pub seen : FormValue → Form
seen (value.Gen name) = Gen name.now
seen (value.Run config image options) = Run config.now image.now options
seen (value.Rules name) = Rules name.now
