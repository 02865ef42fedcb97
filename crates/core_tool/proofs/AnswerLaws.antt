-- What follows from the answers of a call.
use Rattle.std.proofs.Common.{◌≡◌, ◌⊎◌, inl, inr, ℕ, List, [], Option, Some, None, refl, subst, arith, ◌∙◌}
use Rattle.core_host.specs.Outside.{Appends, IsCut}
use Rattle.core_sim.specs.declared.ended.Ended.{Ended}
use Rattle.core_sim.specs.declared.ended.Ended.TheVariants as run_end
use Rattle.core_tool.specs.declared.status.Status.{Status}
use Rattle.core_tool.specs.declared.status.Status.TheVariants as status
use Rattle.core_tool.specs.Words.{Form, Gen, Run, Rules}
use Rattle.core_tool.specs.Call.{Call, Seen, WriteFailed}
use Rattle.core_tool.specs.Boxes.{AreUntouched, TriesRules}
use Rattle.core_tool.specs.Texts.{IsDoneText, IsRunTextFor, IsTextFor, MayBeText}
use Rattle.core_tool.specs.Answers.{AreAnswers, AsksForText, EndsByRun, HasEnded, HasNoText, IsAnswered, IsCutOff, IsNoted, IsTextCut, IsWriteFault, MustBeDone, MustRun}
use Rattle.core_tool.proofs.Exact.{run_facts, text_facts}
use Rattle.core_tool.proofs.Pieces.{grown-nil}

-- ---- what is done

-- the line of what is done is none, or what is done is a run
done_line : {B : Type 0} (form : Option Form) (call : Call B) (text line : List ℕ) → IsDoneText form call text line
    → (line ≡ []) ⊎ ((ended : Ended) × IsRunTextFor form call ended text)
done_line None call text line h = absurd h
done_line (Some (Gen name)) call text line h = inl h.1
done_line (Some (Run config image options)) call text line h = inr (run_end.Exit h.code h.events h.cycles, h.run)
done_line (Some (Rules name)) call text line h = inl h.1

done_text : {B : Type 0} (call : Call B) (form : Option Form) (text line : List ℕ) → IsDoneText form call text line
    → IsTextFor form call text ⊎ ((ended : Ended) × IsRunTextFor form call ended text)
done_text call None text line h = absurd h
done_text call (Some (Gen name)) text line h = inl h.0
done_text call (Some (Run config image options)) text line h = inr (run_end.Exit h.code h.events h.cycles, h.run)
done_text call (Some (Rules name)) text line h = inl h.0

done_no_line : {B : Type 0} (form : Option Form) (call : Call B) (text line : List ℕ) → AsksForText form → IsDoneText form call text line → line ≡ []
done_no_line None call text line asks h = absurd asks
done_no_line (Some (Gen name)) call text line asks h = h.1
done_no_line (Some (Run config image options)) call text line asks h = absurd asks
done_no_line (Some (Rules name)) call text line asks h = h.1

module _ {B : Type 0} (seen : Seen B) where
  -- ---- some answer has happened

  pub answered_by : (result : Status) → AreAnswers result seen → IsAnswered result seen
  answered_by status.Done h = inl (h.done.only refl)
  answered_by status.Usage h = inl (h.usage.only refl)
  answered_by status.ConfigRefused h = inl (h.config_refused.only refl)
  answered_by status.RulesRefused h = inl (h.rules_refused.only refl)
  answered_by status.ImageRefused h = inl (h.image_refused.only refl)
  answered_by status.ReadFault h = inl (h.read_fault.only refl)
  answered_by status.WriteFault h = elim (h.write_fault refl) [ inl text ↦ inl text | inr line ↦ inr (refl, line) ]
  answered_by status.NoMemory h = inl (h.no_memory refl)
  answered_by status.CyclesEnded h = inl (h.cycles_ended refl)
  answered_by status.ModuleRefused h = absurd (h.module_refused refl)
  answered_by status.Stopped h = inl (h.stopped refl)

  -- ---- completeness

  push_failed : IsWriteFault seen → WriteFailed seen
  push_failed (inl text) = text.happened.failed
  push_failed (inr line) = line.failed

  uncut : (result : Status) → AreAnswers result seen → ¬ (WriteFailed seen) → IsCutOff result → result ≡ status.NoMemory
  uncut result h calm (inl fault) = absurd (calm (push_failed (h.write_fault fault)))
  uncut result h calm (inr short) = short

  pub texts_complete : (result : Status) → AreAnswers result seen → MustBeDone seen → ¬ (WriteFailed seen) → (result ≡ status.Done) ⊎ (result ≡ status.NoMemory)
  texts_complete result h must calm = elim (h.done.always must) [ inl done ↦ inl done | inr cut ↦ inr (uncut result h calm cut) ]

  pub runs_complete : (result : Status) → AreAnswers result seen → MustRun seen → ¬ (WriteFailed seen)
      → (result ≡ status.Done) ⊎ (result ≡ status.CyclesEnded) ⊎ (result ≡ status.Stopped) ⊎ (result ≡ status.NoMemory)
  runs_complete result h must calm = by_end (h.runs must)
    where
      by_end : EndsByRun result → (result ≡ status.Done) ⊎ (result ≡ status.CyclesEnded) ⊎ (result ≡ status.Stopped) ⊎ (result ≡ status.NoMemory)
      by_end (inl done) = inl done
      by_end (inr (inl passed)) = inr (inl passed)
      by_end (inr (inr (inl stopped))) = inr (inr (inl stopped))
      by_end (inr (inr (inr cut))) = inr (inr (inr (uncut result h calm cut)))

  -- ---- boxes

  text_untouched : (text : List ℕ) → ¬ (TriesRules seen.call.form) → MayBeText seen.call text → AreUntouched seen.call.boxes
  text_untouched text none (inl done) = (text_facts seen.call.form seen.call text done).passes.boxes.untouched none
  text_untouched text none (inr (ended, run)) = (run_facts seen.call.form seen.call ended text run).passes.boxes.untouched none

  ended_untouched : (s : Status) (line : List ℕ) → ¬ (TriesRules seen.call.form) → HasEnded s seen line → AreUntouched seen.call.boxes
  ended_untouched status.Done line none h = text_untouched h.text none (done_text seen.call seen.call.form h.text line h.is_text)
  ended_untouched status.Usage line none h = h.boxes
  ended_untouched status.ConfigRefused line none h = h.boxes
  ended_untouched status.RulesRefused line none h = absurd (none h.tries)
  ended_untouched status.ImageRefused line none h = h.passes.boxes.untouched none
  ended_untouched status.ReadFault line none h = elim h.unread [ inl u ↦ u.boxes | inr u ↦ u.passes.boxes.untouched none ]
  ended_untouched status.WriteFault line none h = text_untouched h.text none h.may_be
  ended_untouched status.NoMemory line none h = elim h.boxes [ inl same ↦ same | inr some ↦ absurd (none some.0) ]
  ended_untouched status.CyclesEnded line none h = (run_facts seen.call.form seen.call _ h.text h.run).passes.boxes.untouched none
  ended_untouched status.ModuleRefused line none h = absurd h
  ended_untouched status.Stopped line none h = (run_facts seen.call.form seen.call _ h.text h.run).passes.boxes.untouched none

  pub untouched : (result : Status) → AreAnswers result seen → ¬ (TriesRules seen.call.form) → AreUntouched seen.call.boxes
  untouched result h none = elim (answered_by result h) [
    | inl n ↦ ended_untouched result n.line none n.happened
    | inr cut ↦ ended_untouched cut.1.end cut.1.line none cut.1.ended
  ]

  -- ---- what a failed push leaves on Main

  abbrev Prefix : Type 0
  Prefix = HasNoText seen ⊎ ((text : List ℕ) × MayBeText seen.call text × IsCut seen.old.main text seen.new.main)
      ⊎ ((ended : Ended) × (text : List ℕ) × IsRunTextFor seen.call.form seen.call ended text × Appends seen.old.main text seen.new.main)

  -- no line cannot be cut off
  uncuttable : (line : List ℕ) (old new : Option (List ℕ)) → line ≡ [] → IsCut old line new → ⊥
  uncuttable line old new is cut =
      let none : IsCut old [] new = subst (λ l. IsCut old l new) is cut in
      omega (arith, none.1)

  line_prefix : (s : Status) (line : List ℕ) → HasEnded s seen line → IsCut seen.old.notes line seen.new.notes → Prefix
  line_prefix status.Done line h cut = elim (done_line seen.call.form seen.call h.text line h.is_text) [
    | inl none ↦ absurd (uncuttable line seen.old.notes seen.new.notes none cut)
    | inr (ended, run) ↦ inr (inr (ended, h.text, run, h.main))
  ]
  line_prefix status.Usage line h cut = inl h.main
  line_prefix status.ConfigRefused line h cut = inl h.main
  line_prefix status.RulesRefused line h cut = inl h.main
  line_prefix status.ImageRefused line h cut = inl h.main
  line_prefix status.ReadFault line h cut = inl h.main
  line_prefix status.WriteFault line h cut = absurd (uncuttable line seen.old.notes seen.new.notes h.is_line cut)
  line_prefix status.NoMemory line h cut = inl h.main
  line_prefix status.CyclesEnded line h cut = inr (inr (run_end.CyclesEnded h.events h.cycles, h.text, h.run, h.main))
  line_prefix status.ModuleRefused line h cut = absurd h
  line_prefix status.Stopped line h cut = inr (inr (run_end.Stopped h.cause h.pc h.events h.cycles, h.text, h.run, h.main))

  pub prefixes : IsWriteFault seen → Prefix
  prefixes (inl text) = inr (inl (text.happened.text, text.happened.may_be, text.happened.main))
  prefixes (inr line) = line_prefix line.end line.line line.ended line.notes

  -- ---- no line

  no_line : (line : List ℕ) → line ≡ [] → Appends seen.old.notes line seen.new.notes → seen.new.notes ≡ seen.old.notes
  no_line line none h = subst (λ l. Appends seen.old.notes l seen.new.notes) none h ∙ grown-nil seen.old.notes

  pub done_leaves : (result : Status) → AreAnswers result seen → AsksForText seen.call.form → result ≡ status.Done → seen.new.notes ≡ seen.old.notes
  done_leaves result h asks is =
      let n = h.done.only is in
      no_line n.line (done_no_line seen.call.form seen.call n.happened.text n.line asks n.happened.is_text) n.notes

  pub cut_leaves : IsNoted IsTextCut seen → seen.new.notes ≡ seen.old.notes
  cut_leaves n = no_line n.line n.happened.is_line n.notes
