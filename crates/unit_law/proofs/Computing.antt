-- Units that compute show the effect of each row that they take.
use Rattle.std.proofs.Common.{◌≡◌, ◌∙◌, ℕ, suc, ◌^◌, ◌<◌, Bool, true, false, Some, None, refl, sym, ap, subst}
use Rattle.std.proofs.lemmas.Bool.{both_ways}
use Rattle.bus_law.specs.Memory.{Memory}
use Rattle.isa_csr.specs.Csrs.{Csrs}
use Rattle.isa_model.specs.Machine.{Set}
use Rattle.isa_model.specs.Effects.{Moment, Effect, effect_of, write_of, goes_behind, behind}
use Rattle.isa_model.specs.Run.{is_fence_word}
use Rattle.plug_law.specs.Table.{table_of}
use Rattle.plug_law.specs.Exec.{ExecSignals, Terms, Shows}
use Rattle.plug_law.proofs.IsTable.{is_table}
use Rattle.unit_law.specs.AtOnce.{IsAtOnce}
use Rattle.unit_law.specs.Computing.{AllCompute, IsComputing, KeepsComputing}
use Rattle.unit_law.proofs.AtOnce.{keeps_law}

-- the outputs are those of an effect that computes
shows_value : (f : Effect) (pc v value next cause tval : ℕ) (trap : Bool) → f ≡ goes_behind pc (Some v) → trap ≡ false → next ≡ behind pc → value ≡ v
    → Shows f value next cause tval trap × (write_of f ≡ None)
shows_value f pc v value next cause tval trap e t n h = subst (λ (g : Effect). Shows g value next cause tval trap × (write_of g ≡ None)) (sym e) ((t, n, h), refl)

module _ (set : Set) (x : Terms) (f : (word pc a b : ℕ) → ℕ) (e : ExecSignals) (mem : ℕ → Memory) (csrs : ℕ → Csrs) (moments : ℕ → Moment)
    (table_is : x.table ≡ table_of set) (no_fencei : x.claims 40 ≡ false) (all : AllCompute set x f) (is : IsComputing f e) where
  module _ (number word : ℕ) (claimed : x.claims number ≡ true) (found : x.table.row_of word ≡ Some number) where
    found_in : (table_of set).row_of word ≡ Some number
    found_in = (λ i. (sym table_is i).row_of word) ∙ found

    effect_is : (pc a b : ℕ) (m : Memory) (c : Csrs) (o : Moment) → a < 2 ^ 32 → b < 2 ^ 32 → x.table.effect number pc word a b m c o ≡ goes_behind pc (Some (f word pc a b))
    unfolding table_of
    effect_is pc a b m c o h g = (λ i. (table_is i).effect number pc word a b m c o) ∙ ap (effect_of pc word m c o) (all number word pc a b claimed found_in h g)

    no_fence : is_fence_word word ≡ false
    no_fence = by (is_fence_word word) refl
      where
        by : (b : Bool) → is_fence_word word ≡ b → b ≡ false
        by true h = absurd (both_ways (x.claims 40) no_fencei (ap x.claims (sym ((is_table set).fence_word word number found_in h)) ∙ claimed))
        by false h = refl

  at_once : IsAtOnce x e mem csrs moments
  at_once = record {
    at_once = is.done;
    shows = λ s go claimed found.
        let effect = effect_is (e.row (suc s)) (e.word (suc s)) claimed found (e.pc (suc s)) (e.a (suc s)) (e.b (suc s)) _ _ _ (is.a_fits s) (is.b_fits s) in
        let all = shows_value _ (e.pc (suc s)) _ _ _ (e.cause (suc s)) (e.tval (suc s)) _ effect (is.trap s) (is.next_pc s) (is.value_is s) in
        (all.0, is.fence s ∙ sym (no_fence (e.row (suc s)) (e.word (suc s)) claimed found), all.1);
  }

pub keeps_computing : KeepsComputing
keeps_computing set x f e db mem csrs moments table_is free no_fencei all is =
    keeps_law x e db mem csrs moments free (at_once set x f e mem csrs moments table_is no_fencei all is)
