-- The options of a run, read word by word. They stand in any order, each at most once but for the last: `--trace`, `--cycles N` with N
-- from 1 to 100000000, `--wait W` with W from 0 to 1000, and at most 16 times `--irq LINE@FROM-TO`, where LINE is `software`, `timer`
-- or `external`, and FROM is not above TO.
use Rattle.std.specs.Prelude.{ℕ, eqb, nat_eq, nat_le, List, [], ◌∷◌, ◌++◌, length, Option, Some, None, option_map, true, false, not, ◌&&◌, if◌then◌else◌, is_none, codes}
use Rattle.std.specs.Cmp.Lexicographic.{pointwise}
use Rattle.std.specs.List.{after_first, before_first}
use Rattle.std.specs.Str.{all_ascii_digits}
use Rattle.std.specs.Str.Parse.{digits_value}
use Rattle.core_tool.specs.declared.options.Options.{Options}
use Rattle.core_tool.specs.declared.options.Found.{Found}
use Rattle.core_tool.specs.declared.options.Number.{Number}
use Rattle.core_tool.specs.declared.options.Number.TheVariants.{Cycles, Irq, Wait}
use Rattle.core_sim.specs.declared.ended.IrqSpan.{IrqSpan}

-- a number, where it is in this range
abbrev pub within : (least most : ℕ) → ℕ → Option ℕ
within least most n = if nat_le least n && nat_le n most then Some n else None

-- the number of a word of one to ten decimal digits, where it is in this range
abbrev pub number_in : (least most : ℕ) → List ℕ → Option ℕ
number_in least most word =
    if nat_le 1 (length word) && nat_le (length word) 10 && all_ascii_digits word then within least most (digits_value 10 word) else None

-- the number of the interrupt line of this name
abbrev pub line_number : List ℕ → Option ℕ
line_number name = if pointwise nat_eq name (codes "software") then Some 3
    else (if pointwise nat_eq name (codes "timer") then Some 7
    else (if pointwise nat_eq name (codes "external") then Some 11 else None))

-- what stands before the first such byte and what behind it, nothing where there is none
abbrev pub before_byte : (byte : ℕ) → List ℕ → List ℕ
before_byte byte word = before_first (λ b. eqb b byte) word

abbrev pub behind_byte : (byte : ℕ) → List ℕ → List ℕ
behind_byte byte word = after_first (λ b. eqb b byte) word

-- a line, from a cycle to a cycle that is not earlier
abbrev pub span_of : (line from to : Option ℕ) → Option IrqSpan
span_of (Some line) (Some from) (Some to) = if nat_le from to then Some (record { line = line; from = from; to = to }) else None
span_of _ _ _ = None

-- the span of a word LINE@FROM-TO: the line's name up to the first `@`, FROM up to the first `-` behind it, and TO the rest
abbrev pub span_in : List ℕ → Option IrqSpan
span_in word = span_of (line_number (before_byte 64 word)) (number_in 0 4294967295 (before_byte 45 (behind_byte 64 word)))
    (number_in 0 4294967295 (behind_byte 45 (behind_byte 64 word)))

-- what was found with a further word that names an option: each but `--irq` is named at most once
abbrev pub named : Found → List ℕ → Option Found
named found word =
    if pointwise nat_eq word (codes "--trace") && not found.trace then Some (record found { trace = true })
    else (if pointwise nat_eq word (codes "--cycles") && is_none found.cycles then Some (record found { awaited = Some Cycles })
    else (if pointwise nat_eq word (codes "--wait") && is_none found.wait then Some (record found { awaited = Some Wait })
    else (if pointwise nat_eq word (codes "--irq") then Some (record found { awaited = Some Irq }) else None)))

-- what was found with the number of an option
abbrev pub with_cycles : Found → ℕ → Found
with_cycles found n = record found { cycles = Some n; awaited = None }

abbrev pub with_wait : Found → ℕ → Found
with_wait found n = record found { wait = Some n; awaited = None }

-- what was found with a further span, behind those that were found before
abbrev pub with_irq : Found → IrqSpan → Found
with_irq found s = record found { irqs = record { items = found.irqs.items ++ (s ∷ []) }; awaited = None }

-- what was found with a further word, which is the number or the span that is awaited, or names an option where none is
abbrev pub taken_for : (awaited : Option Number) → Found → List ℕ → Option Found
taken_for None found word = named found word
taken_for (Some Cycles) found word = option_map (with_cycles found) (number_in 1 100000000 word)
taken_for (Some Wait) found word = option_map (with_wait found) (number_in 0 1000 word)
taken_for (Some Irq) found word = if nat_le (length found.irqs.items) 15 then option_map (with_irq found) (span_in word) else None

abbrev pub taken : Found → List ℕ → Option Found
taken found word = taken_for found.awaited found word

-- an option's number, or what stands for it where it is not named
abbrev pub number_or : ℕ → Option ℕ → ℕ
number_or default None = default
number_or default (Some n) = n

-- the options, once no number is awaited
abbrev pub settled_for : (awaited : Option Number) → Found → Option Options
settled_for None found = Some (record { trace = found.trace; cycles = number_or 1000000 found.cycles; wait = number_or 0 found.wait; irqs = found.irqs })
settled_for (Some number) found = None

-- the options of these words, behind those that were found
abbrev pub options_behind : Option Found → List (List ℕ) → Option Options
options_behind None words = None
options_behind (Some found) [] = settled_for found.awaited found
options_behind (Some found) (word ∷ words) = options_behind (taken found word) words

abbrev pub nothing_found : Found
nothing_found = record { trace = false; cycles = None; wait = None; irqs = record { items = [] }; awaited = None }

abbrev pub options_of : List (List ℕ) → Option Options
options_of words = options_behind (Some nothing_found) words
