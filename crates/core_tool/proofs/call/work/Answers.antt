use Rattle.std.proofs.Common.{◌≡◌, Some, option_map, ap, sym, ◌∙◌}
use Rattle.core_tool.specs.Words.{Gen, Run, Rules, form_of, seen, words_of}
use Rattle.core_tool.proofs.CallEnds.{end_for}
use Rattle.core_tool.proofs.Pulls.{pulled_for}
use Rattle.core_tool.proofs.call.work.Goals as goal

pub returns-in-Some-Gen-clause-ends : goal.returns-in-Some-Gen-clause-ends
returns-in-Some-Gen-clause-ends g c =
    let f = c.in-Some-Gen in
    let named : Some (Gen f.name.now) ≡ form_of (words_of c.args.words.now) = sym (ap (option_map seen) (f.is ∙ ap Some f.field-0-is)) ∙ c.of.ensures.form in
    end_for (Some (Gen f.name.now)) _ _ _ _ _ c.write_core.result named c.write_core.ensures.ends

pub returns-in-Some-Gen-clause-pulled : goal.returns-in-Some-Gen-clause-pulled
returns-in-Some-Gen-clause-pulled g c =
    let f = c.in-Some-Gen in
    let named : Some (Gen f.name.now) ≡ form_of (words_of c.args.words.now) = sym (ap (option_map seen) (f.is ∙ ap Some f.field-0-is)) ∙ c.of.ensures.form in
    pulled_for (Some (Gen f.name.now)) _ _ _ _ _ named c.write_core.ensures.pulled

pub returns-in-Some-Run-clause-ends : goal.returns-in-Some-Run-clause-ends
returns-in-Some-Run-clause-ends g c =
    let f = c.in-Some-Run in
    let named : Some (Run f.config.now f.image.now f.options) ≡ form_of (words_of c.args.words.now) = sym (ap (option_map seen) (f.is ∙ ap Some f.field-0-is)) ∙ c.of.ensures.form in
    end_for (Some (Run f.config.now f.image.now f.options)) _ _ _ _ _ c.run.result named c.run.ensures.ends

pub returns-in-Some-Run-clause-pulled : goal.returns-in-Some-Run-clause-pulled
returns-in-Some-Run-clause-pulled g c =
    let f = c.in-Some-Run in
    let named : Some (Run f.config.now f.image.now f.options) ≡ form_of (words_of c.args.words.now) = sym (ap (option_map seen) (f.is ∙ ap Some f.field-0-is)) ∙ c.of.ensures.form in
    pulled_for (Some (Run f.config.now f.image.now f.options)) _ _ _ _ _ named c.run.ensures.pulled

pub returns-in-Some-Rules-clause-ends : goal.returns-in-Some-Rules-clause-ends
returns-in-Some-Rules-clause-ends g c =
    let f = c.in-Some-Rules in
    let named : Some (Rules f.name.now) ≡ form_of (words_of c.args.words.now) = sym (ap (option_map seen) (f.is ∙ ap Some f.field-0-is)) ∙ c.of.ensures.form in
    end_for (Some (Rules f.name.now)) _ _ _ _ _ c.try_rules.result named c.try_rules.ensures.ends

pub returns-in-Some-Rules-clause-pulled : goal.returns-in-Some-Rules-clause-pulled
returns-in-Some-Rules-clause-pulled g c =
    let f = c.in-Some-Rules in
    let named : Some (Rules f.name.now) ≡ form_of (words_of c.args.words.now) = sym (ap (option_map seen) (f.is ∙ ap Some f.field-0-is)) ∙ c.of.ensures.form in
    pulled_for (Some (Rules f.name.now)) _ _ _ _ _ named c.try_rules.ensures.pulled
