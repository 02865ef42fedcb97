-- The tokens of a module, all of them.
use Rattle.std.proofs.Common.{◌≡◌, ℕ, List, [], ◌∷◌, length, Ok, Err, refl, sym, ap, subst, ◌∙◌, true, false, eqb, arith, suc}
use Rattle.std.proofs.lemmas.Bool.{eqb-true}
use Rattle.verilog_tree.specs.Lexemes.{Placed}
use Rattle.verilog_tree.specs.declared.tree.Tree.{Tree}
use Rattle.verilog_tree.specs.Lex.{HasTokens}
use Rattle.verilog_tree.specs.Module.{Reads, SpellsModule}
use Rattle.verilog_tree.specs.Readers.{Stop, Wrong}
use Rattle.verilog_tree.specs.Read.{finished, module_of, read}
use Rattle.verilog_tree.proofs.ModuleIsRead.{read-is}
use Rattle.verilog_tree.proofs.ModuleIsSpelled.{read-spells}
use Rattle.verilog_read.specs.declared.token.Placed as code
use Rattle.verilog_read.specs.declared.refusal.ReadRefusal.{ReadRefusal}
use Rattle.verilog_read.specs.declared.refusal.ReadRefusal.TheVariants.{TooLong, Unsupported, Text, NoMemory}
use Rattle.verilog_read.specs.Outcome.{IsPlaced, IsShort}
use Rattle.verilog_read.specs.Seen.{seen}
use Rattle.verilog_read.proofs.Loop.{length-seen}

pub all_read : (ts : List code.Placed) → read (seen ts) ≡ finished (module_of (length ts) (seen ts))
all_read ts = ap (λ (n : ℕ). finished (module_of n (seen ts))) (length-seen ts)

none_left : (rest : List code.Placed) → eqb (length rest) 0 ≡ true → rest ≡ []
none_left [] h = refl
none_left (t ∷ ts) h = absurd (omega (arith, eqb-true (suc (length ts)) 0 h))

read_whole : (ts rest : List code.Placed) (t : Tree) → module_of (length ts) (seen ts) ≡ Ok (t, seen rest) → eqb (length rest) 0 ≡ true → read (seen ts) ≡ Ok t
read_whole ts rest t h l =
    let none : rest ≡ [] = none_left rest l in
    all_read ts ∙ ap finished (h ∙ ap (λ (r : List code.Placed). Ok (t, seen r)) none)

-- what is read is spelled
pub found_tree : (ts rest : List code.Placed) (t : Tree) → module_of (length ts) (seen ts) ≡ Ok (t, seen rest) → eqb (length rest) 0 ≡ true → SpellsModule t (seen ts)
found_tree ts rest t h l = read-spells (seen ts) t (read_whole ts rest t h l)

-- what is spelled is what is read
pub only_tree : (ts rest : List code.Placed) (t u : Tree) → module_of (length ts) (seen ts) ≡ Ok (t, seen rest) → eqb (length rest) 0 ≡ true → SpellsModule u (seen ts) → t ≡ u
only_tree ts rest t u h l k =
    let a : read (seen ts) ≡ Ok t = read_whole ts rest t h l in
    let b : read (seen ts) ≡ Ok u = read-is u (seen ts) k in
    cc

-- where tokens are left, nothing is spelled
pub some_left : (ts rest : List code.Placed) (t u : Tree) → module_of (length ts) (seen ts) ≡ Ok (t, seen rest) → eqb (length rest) 0 ≡ false → SpellsModule u (seen ts) → ⊥
some_left ts [] t u h l k = cc
some_left ts (r ∷ rest) t u h l k =
    let a : read (seen ts) ≡ Err (Wrong (seen (r ∷ rest))) = all_read ts ∙ ap finished h in
    let b : read (seen ts) ≡ Ok u = read-is u (seen ts) k in
    cc

-- where reading stops, nothing is spelled
pub refused : (ts : List code.Placed) (s : Stop) (u : Tree) → module_of (length ts) (seen ts) ≡ Err s → SpellsModule u (seen ts) → ⊥
refused ts s u h k =
    let a : read (seen ts) ≡ Err s = all_read ts ∙ ap finished h in
    let b : read (seen ts) ≡ Ok u = read-is u (seen ts) k in
    cc

-- a reading of a text goes by the tokens that were found
pub by_tokens : (bytes : List ℕ) (found : List Placed) (t : Tree) → ((ts : List Placed) → HasTokens (length bytes) bytes ts → found ≡ ts) → Reads bytes t → SpellsModule t found
by_tokens bytes found t only (ts, h, k) = subst (SpellsModule t) (sym (only ts h)) k

-- a refusal at a place is not for the length of the text
pub placed_short : (r : ReadRefusal) → IsPlaced r → IsShort r
placed_short (TooLong len) h = h
placed_short (Unsupported at form) h = tt
placed_short (Text at) h = tt
placed_short NoMemory h = tt

pub ruleset places = (placed_short)
