-- The work ends, and its line is written: then the answer of the call has happened.
use Rattle.std.proofs.Common.{◌≡◌, ◌≤◌, ◌⊎◌, inl, inr, ℕ, List, sym, ◌∙◌, subst}
use Rattle.core_host.specs.Outside.{Rose, Appends, IsCut}
use Rattle.core_tool.specs.declared.status.Status.{Status}
use Rattle.core_tool.specs.declared.status.Status.TheVariants as status
use Rattle.core_tool.specs.declared.ends.CallEnd.{CallEnd}
use Rattle.core_tool.specs.Call.{Call, Outside, Seen}
use Rattle.core_tool.specs.Answers.{HasEnded, IsAnswered, IsConfigUnread, IsImageUnread}
use Rattle.core_tool.specs.Ends.{IsEnd, IsFinished, line_of, status_of}
use Rattle.core_tool.proofs.Calls.{Rose-earlier, Rose-later}

module _ {B : Type 0} (call : Call B) (old mid new : Outside) where
  abbrev worked : Seen B
  worked = record { call = call; old = old; new = mid }

  abbrev done : Seen B
  done = record { call = call; old = old; new = new }

  module _ (main : new.main ≡ mid.main) (reads : mid.read_faults ≤ new.read_faults) (writes : mid.write_faults ≤ new.write_faults) where
    abbrev read_later : Rose old.read_faults mid.read_faults → Rose old.read_faults new.read_faults
    read_later rose = Rose-later old.read_faults mid.read_faults new.read_faults rose reads

    unread_later : IsConfigUnread worked ⊎ IsImageUnread worked → IsConfigUnread done ⊎ IsImageUnread done
    unread_later (inl u) = inl (record {
      name = u.name;
      is_name = u.is_name;
      cause = elim u.cause [ inl rose ↦ inl (read_later rose) | inr missing ↦ inr missing ];
      boxes = u.boxes;
    })
    unread_later (inr u) = inr (record {
      config = u.config;
      passes = u.passes;
      name = u.name;
      is_name = u.is_name;
      cause = elim u.cause [ inl rose ↦ inl (read_later rose) | inr missing ↦ inr missing ];
    })

    text_later : (text : List ℕ) → Appends old.main text mid.main → Appends old.main text new.main
    text_later text h = main ∙ h

    ended_later : (end : Status) (line : List ℕ) → HasEnded end worked line → HasEnded end done line
    ended_later status.Done line h = record { text = h.text; is_text = h.is_text; main = text_later h.text h.main }
    ended_later status.Usage line h = record { no_form = h.no_form; main = main ∙ h.main; is_line = h.is_line; boxes = h.boxes }
    ended_later status.ConfigRefused line h = record { refusal = h.refusal; refused = h.refused; main = main ∙ h.main; is_line = h.is_line; boxes = h.boxes }
    ended_later status.RulesRefused line h = record {
      tries = h.tries;
      config = h.config;
      gives = h.gives;
      refusal = h.refusal;
      refused = h.refused;
      main = main ∙ h.main;
      is_line = h.is_line;
      boxes = h.boxes;
    }
    ended_later status.ImageRefused line h = record {
      config = h.config;
      passes = h.passes;
      fault = h.fault;
      refused = h.refused;
      main = main ∙ h.main;
      is_line = h.is_line;
    }
    ended_later status.ReadFault line h = record { unread = unread_later h.unread; main = main ∙ h.main; is_line = h.is_line }
    ended_later status.WriteFault line h = record {
      text = h.text;
      may_be = h.may_be;
      main = subst (λ p. IsCut old.main h.text p) (sym main) h.main;
      is_line = h.is_line;
      failed = Rose-later old.write_faults mid.write_faults new.write_faults h.failed writes;
    }
    ended_later status.NoMemory line h = record { main = main ∙ h.main; is_line = h.is_line; boxes = h.boxes }
    ended_later status.CyclesEnded line h = record {
      events = h.events;
      cycles = h.cycles;
      text = h.text;
      run = h.run;
      main = text_later h.text h.main;
      is_line = h.is_line;
    }
    ended_later status.ModuleRefused line h = h
    ended_later status.Stopped line h = record {
      cause = h.cause;
      pc = h.pc;
      events = h.events;
      cycles = h.cycles;
      text = h.text;
      run = h.run;
      main = text_later h.text h.main;
      is_line = h.is_line;
    }

    pub answered : (end : CallEnd) (result : Status) → IsEnd worked end → mid.notes ≡ old.notes → old.write_faults ≤ mid.write_faults
        → IsFinished end result mid.notes new.notes mid.write_faults new.write_faults → IsAnswered result done
    answered end result h notes less (inl (is, whole)) = inl (record {
      line = line_of end;
      happened = subst (λ s. HasEnded s done (line_of end)) (sym is) (ended_later (status_of end) (line_of end) h);
      notes = subst (λ p. Appends p (line_of end) new.notes) notes whole;
    })
    answered end result h notes less (inr (is, cut, rose)) = inr (
      is,
      record {
        end = status_of end;
        line = line_of end;
        ended = ended_later (status_of end) (line_of end) h;
        notes = subst (λ p. IsCut p (line_of end) new.notes) notes cut;
        failed = Rose-earlier old.write_faults mid.write_faults new.write_faults less rose;
      },
    )
