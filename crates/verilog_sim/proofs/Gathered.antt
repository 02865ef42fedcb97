-- The drivers in an order of the items, as they are collected.
use Rattle.std.proofs.Common.{◌≡◌, ℕ, zero, suc, ◌<◌, ◌++◌, All, List, [], ◌∷◌, Option, Some, None, length, get_or, map, ap, ◌∙◌, arith, append_assoc}
use Rattle.std.proofs.lemmas.List.{map-append}
use Rattle.std.proofs.lemmas.List.Elements.{All-get_or, All-from_get_or}
use Rattle.verilog_tree.specs.declared.tree.Item as tree
use Rattle.verilog_mean.specs.Plain.{Expr}
use Rattle.verilog_mean.specs.Look.{put}
use Rattle.verilog_mean.specs.Erase.{plain_item, plain_items}
use Rattle.verilog_mean.specs.Order.{drive_at, drive_of}
use Rattle.verilog_resolve.specs.declared.driver.WireDriver.{WireDriver}
use Rattle.verilog_sim.specs.Drives.{drive}

pub at_number : (items : List tree.Item) (n : ℕ) (i : tree.Item) → n < length items → i ≡ get_or items n i → drive_of (plain_item i) ≡ drive_at (plain_items items) n
at_number [] n i l h = absurd (omega arith)
at_number (j ∷ items) zero i l h = ap (λ z. drive_of (plain_item z)) h
at_number (j ∷ items) (suc n) i l h = at_number items n i (omega arith) h

pub one_driver : (ds new : List WireDriver) (d : WireDriver) (o : Option (List ℕ × Expr)) (rest all : List (List ℕ × Expr))
    → new ≡ ds ++ (d ∷ []) → Some (drive d) ≡ o → map drive ds ++ put o rest ≡ all → map drive new ++ rest ≡ all
one_driver ds new d o rest all n h a =
    ap (λ z. map drive z ++ rest) n ∙ ap (λ z. z ++ rest) (map-append drive ds (d ∷ [])) ∙ append_assoc (map drive ds) (drive d ∷ []) rest
    ∙ ap (λ z. map drive ds ++ put z rest) h ∙ a

pub no_driver : (ds : List WireDriver) (o : Option (List ℕ × Expr)) (rest all : List (List ℕ × Expr)) → None ≡ o → map drive ds ++ put o rest ≡ all → map drive ds ++ rest ≡ all
no_driver ds o rest all h a = ap (λ z. map drive ds ++ put z rest) h ∙ a

pub all_rest : (P : ℕ → Type 0) (n : ℕ) (ns : List ℕ) → All P (n ∷ ns) → All P ns
all_rest P n ns a = All-from_get_or P ns 0 (λ i l. All-get_or P (n ∷ ns) (suc i) 0 (omega arith) a)
