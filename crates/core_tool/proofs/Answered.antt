-- The clauses of a call, from the answer that has happened.
use Rattle.std.proofs.Common.{◌≡◌, ◌⊎◌, inl, inr, List, ℕ, sym, ◌∙◌, subst}
use Rattle.core_tool.specs.declared.status.Status.{Status}
use Rattle.core_tool.specs.declared.status.Status.TheVariants as status
use Rattle.core_tool.specs.Call.{Seen}
use Rattle.core_tool.specs.Answers.{EndsByRun, Exactly, HasEnded, IsAnswered, IsConfigRefused, IsCutOff, IsDone, IsImageRefused, IsNoted, IsReadFault, IsRulesRefused, IsUsage, IsWriteFault, MustBeConfigRefused, MustBeDone, MustBeImageRefused, MustBeReadFault, MustBeRulesRefused, MustBeUsage, MustRun}
use Rattle.core_tool.proofs.Exact.{config_refused_exact, done_exact, image_refused_exact, read_fault_exact, rules_refused_exact, run_exact, usage_exact}

module _ {B : Type 0} (seen : Seen B) (result : Status) where
  -- the answer of a status other than 7 has its line on Notes
  pub noted : (s : Status) → (s ≡ status.WriteFault → ⊥) → IsAnswered result seen → result ≡ s → IsNoted (HasEnded s) seen
  noted s other (inl h) is = record { line = h.line; happened = subst (λ r. HasEnded r seen h.line) is h.happened; notes = h.notes }
  noted s other (inr (fault, cut)) is = absurd (other (sym is ∙ fault))

  exactly : (s : Status) (must : Seen B → Type 0) → (s ≡ status.WriteFault → ⊥)
      → ((r : Status) (line : List ℕ) → must seen → HasEnded r seen line → (r ≡ s) ⊎ IsCutOff r)
      → IsAnswered result seen → Exactly s result must (HasEnded s) seen
  exactly s must other exact h = record {
    only = noted s other h;
    always = λ m. elim h [ inl n ↦ exact result n.line m n.happened | inr cut ↦ inr (inl cut.0) ];
  }

  pub done_clause : IsAnswered result seen → Exactly status.Done result MustBeDone IsDone seen
  done_clause h = exactly status.Done MustBeDone (λ e. cc) (done_exact seen) h

  pub usage_clause : IsAnswered result seen → Exactly status.Usage result MustBeUsage IsUsage seen
  usage_clause h = exactly status.Usage MustBeUsage (λ e. cc) (usage_exact seen) h

  pub config_refused_clause : IsAnswered result seen → Exactly status.ConfigRefused result MustBeConfigRefused IsConfigRefused seen
  config_refused_clause h = exactly status.ConfigRefused MustBeConfigRefused (λ e. cc) (config_refused_exact seen) h

  pub rules_refused_clause : IsAnswered result seen → Exactly status.RulesRefused result MustBeRulesRefused IsRulesRefused seen
  rules_refused_clause h = exactly status.RulesRefused MustBeRulesRefused (λ e. cc) (rules_refused_exact seen) h

  pub image_refused_clause : IsAnswered result seen → Exactly status.ImageRefused result MustBeImageRefused IsImageRefused seen
  image_refused_clause h = exactly status.ImageRefused MustBeImageRefused (λ e. cc) (image_refused_exact seen) h

  pub read_fault_clause : IsAnswered result seen → Exactly status.ReadFault result MustBeReadFault IsReadFault seen
  read_fault_clause h = exactly status.ReadFault MustBeReadFault (λ e. cc) (read_fault_exact seen) h

  pub write_fault_clause : IsAnswered result seen → result ≡ status.WriteFault → IsWriteFault seen
  write_fault_clause (inl h) is = inl (record { line = h.line; happened = subst (λ r. HasEnded r seen h.line) is h.happened; notes = h.notes })
  write_fault_clause (inr (fault, cut)) is = inr cut

  pub module_refused_clause : IsAnswered result seen → result ≡ status.ModuleRefused → ⊥
  module_refused_clause (inl h) is = subst (λ r. HasEnded r seen h.line) is h.happened
  module_refused_clause (inr (fault, cut)) is = cc

  pub runs_clause : IsAnswered result seen → MustRun seen → EndsByRun result
  runs_clause (inl h) must = run_exact seen result h.line must h.happened
  runs_clause (inr (fault, cut)) must = inr (inr (inr (inl fault)))
