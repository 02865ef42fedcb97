-- The place of a refusal.
use Rattle.std.proofs.Common.{◌≡◌, ◌⊎◌, ℕ, true, false, eqb, List, [], ◌∷◌, length, Option, Result, Ok, Err, inl, inr, sym, ap, ◌∙◌, subst}
use Rattle.verilog_tree.specs.Lexemes.{Placed}
use Rattle.verilog_tree.specs.declared.tree.Tree.{Tree}
use Rattle.verilog_tree.specs.Module.{SpellsModule}
use Rattle.verilog_tree.specs.Readers.{Stop}
use Rattle.verilog_tree.specs.Read.{finished, module_of, read}
use Rattle.verilog_tree.proofs.ModuleIsRead.{read-is}
use Rattle.verilog_read.specs.declared.token.Placed as code
use Rattle.verilog_read.specs.Seen.{seen}
use Rattle.verilog_read.proofs.Whole.{all_read}
use Rattle.verilog_read.specs.declared.refusal.UnsupportedForm.{UnsupportedForm}
use Rattle.verilog_read.specs.declared.refusal.ReadRefusal.{ReadRefusal}
use Rattle.verilog_read.specs.declared.refusal.ReadRefusal.TheVariants.{TooLong, Unsupported, Text, NoMemory}
use Rattle.verilog_read.specs.Places.{HasFront, IsInPlace, IsRefused, StopsAt, refusal_at, wrong_at}

-- ---- where reading the tokens stops

module _ (ts : List code.Placed) (end : ℕ) (form : Option UnsupportedForm) (r : ReadRefusal) where
  pub by_error : (s : Stop) → module_of (length ts) (seen ts) ≡ Err s → StopsAt (seen ts) (Err s) end form r → (r ≡ NoMemory) ⊎ StopsAt (seen ts) (read (seen ts)) end form r
  by_error s h stops = inr (subst (λ (o : Result Tree Stop). StopsAt (seen ts) o end form r) (sym (all_read ts ∙ ap finished h)) stops)

  -- all of a module is read, and tokens are left
  pub by_left : (rest : List code.Placed) (t : Tree) → module_of (length ts) (seen ts) ≡ Ok (t, seen rest) → eqb (length rest) 0 ≡ false → r ≡ wrong_at (seen rest) end form → (r ≡ NoMemory) ⊎ StopsAt (seen ts) (read (seen ts)) end form r
  by_left [] t h l e = absurd (let q : true ≡ false = l in cc)
  by_left (p ∷ rest) t h l e = inr (subst (λ (o : Result Tree Stop). StopsAt (seen ts) o end form r) (sym (all_read ts ∙ ap finished h)) e)

-- ---- the refusal of a text

module _ (bytes : List ℕ) (tokens : List Placed) (end : ℕ) (form : Option UnsupportedForm) (front : HasFront (length bytes) bytes tokens end form) where
  refused_at : (r : ReadRefusal) → IsRefused bytes r → IsInPlace bytes r
  refused_at (TooLong len) h = tt
  refused_at (Unsupported at f) h = h
  refused_at (Text at) h = h
  refused_at NoMemory h = tt

  -- reading the tokens stops
  pub by_stop : (r : ReadRefusal) → (r ≡ NoMemory) ⊎ StopsAt tokens (read tokens) end form r → IsInPlace bytes r
  by_stop r (inl m) = subst (IsInPlace bytes) (sym m) tt
  by_stop r (inr s) = refused_at r (record { tokens = tokens; end = end; form = form; front = front; stops = s })

  -- all tokens are read, and a fault stands behind them
  pub by_fault : (t : Tree) (r : ReadRefusal) → SpellsModule t tokens → r ≡ refusal_at end form → IsInPlace bytes r
  by_fault t r h e = by_stop r (inr (subst (λ (o : Result Tree Stop). StopsAt tokens o end form r) (sym (read-is t tokens h)) e))
