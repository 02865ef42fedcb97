-- The unit keeps the law of Exec: it is done at once, and shows the effect of FENCE.I.
use Rattle.std.proofs.Common.{◌≡◌, ◌∙◌, ℕ, suc, Bool, true, false, Option, Some, None, refl, sym, ap, subst}
use Rattle.std.specs.Prelude.{option_map}
use Rattle.bus_law.specs.Memory.{Memory}
use Rattle.isa_table.specs.Rows.{TableRow, meets, row_of}
use Rattle.isa_csr.specs.Csrs.{Csrs}
use Rattle.isa_model.specs.Machine.{Set, has_row}
use Rattle.isa_model.specs.Effects.{Moment, Effect, behind, keeps, write_of}
use Rattle.isa_model.specs.Effects.Effect.{Does}
use Rattle.isa_model.specs.Run.{is_fence_word}
use Rattle.plug_law.specs.Table.{row_numbered, number_of, table_of}
use Rattle.plug_law.specs.Exec.{ExecSignals, Terms, Shows, effect_at, begun}
use Rattle.plug_law.proofs.Rows.{row_is, is_met}
use Rattle.unit_law.specs.AtOnce.{IsAtOnce}
use Rattle.unit_law.proofs.AtOnce.{keeps_law as keeps_at_once}
use Rattle.plug_fencei.specs.Law.{IsFencing, FenceiKeepsLaw}

some_same : (x y : ℕ) → ◌≡◌ {A = Option ℕ} (Some x) (Some y) → x ≡ y
some_same x y e = cc

none_some : (x : ℕ) → ◌≡◌ {A = Option ℕ} None (Some x) → ⊥
none_some x e = cc

-- a number that is found is a row's
of_row : (o : Option TableRow) (n : ℕ) → option_map number_of o ≡ Some n → (row : TableRow) × (o ≡ Some row) × (row.number ≡ n)
of_row None n e = absurd (none_some n e)
of_row (Some row) n e = (row, refl, some_same row.number n e)

-- a word of row 40 is a FENCE.I
is_fence : (s : Set) (word : ℕ) → (table_of s).row_of word ≡ Some 40 → is_fence_word word ≡ true
unfolding table_of
is_fence s word h =
    let w = of_row (row_of (has_row s) word) 40 h in
    let same : row_numbered 40 ≡ w.0 = ap row_numbered (sym w.2) ∙ row_is (has_row s) word w.0 w.1 in
    ap (meets word) same ∙ is_met (has_row s) word w.0 w.1

effect_is : (s : Set) (pc word a b : ℕ) (m : Memory) (c : Csrs) (o : Moment) → (table_of s).effect 40 pc word a b m c o ≡ Does None (behind pc) None keeps
unfolding table_of
effect_is s pc word a b m c o = refl

module _ (set : Set) (x : Terms) (e : ExecSignals) (mem : ℕ → Memory) (csrs : ℕ → Csrs) (moments : ℕ → Moment)
    (table_is : x.table ≡ table_of set) (own : (number : ℕ) → x.claims number ≡ true → number ≡ 40) (is : IsFencing e) where
  module _ (s : ℕ) (claimed : x.claims (e.row (suc s)) ≡ true) where
    row_is_40 : e.row (suc s) ≡ 40
    row_is_40 = own (e.row (suc s)) claimed

    effect : effect_at x.table e mem csrs moments (suc s) ≡ Does None (behind (e.pc (suc s))) None keeps
    effect =
        (λ i. (table_is i).effect (row_is_40 i) (e.pc (suc s)) (e.word (suc s)) (e.a (suc s)) (e.b (suc s)) (mem (begun e (suc s))) (csrs (suc s)) (moments (suc s)))
        ∙ effect_is set (e.pc (suc s)) (e.word (suc s)) (e.a (suc s)) (e.b (suc s)) (mem (begun e (suc s))) (csrs (suc s)) (moments (suc s))

    shown : Shows (effect_at x.table e mem csrs moments (suc s)) (e.value (suc s)) (e.next_pc (suc s)) (e.cause (suc s)) (e.tval (suc s)) (e.trap (suc s))
    shown = subst (λ (f : Effect). Shows f (e.value (suc s)) (e.next_pc (suc s)) (e.cause (suc s)) (e.tval (suc s)) (e.trap (suc s))) (sym effect) (is.trap s, is.next_pc s, tt)

    fenced : x.table.row_of (e.word (suc s)) ≡ Some (e.row (suc s)) → is_fence_word (e.word (suc s)) ≡ true
    fenced found = is_fence set (e.word (suc s)) ((λ i. (sym table_is i).row_of (e.word (suc s))) ∙ (found ∙ ap Some row_is_40))

  at_once : IsAtOnce x e mem csrs moments
  at_once = record {
    at_once = is.done;
    shows = λ s go claimed found. (shown s claimed, is.fence s ∙ (go ∙ sym (fenced s claimed found)), ap write_of (effect s claimed));
  }

pub keeps_law : FenceiKeepsLaw
keeps_law set x e db mem csrs moments table_is own free is = keeps_at_once x e db mem csrs moments free (at_once set x e mem csrs moments table_is own is)
