use Rattle.std.proofs.Common.{◌≡◌, ◌∙◌, ◌<◌, length, get_or, arith, ap, sym}
use Rattle.std.proofs.lemmas.Grind.{common_steps}
use Rattle.std.proofs.lemmas.List.{get_or_default}
use Rattle.core_host.specs.declared.memory.MemFile.{MemFile}
use Rattle.core_host.specs.Memory.{no_file}
use Rattle.core_host.proofs.Places.{place-first, held-first, place-none, held-none}
use Rattle.core_host.proofs.memory.place_of.Goals as goal

pub returns-then-is-clause-place : goal.returns-then-is-clause-place
returns-then-is-clause-place c =
    let f = c.deref-file-items.ensures.value in
    let h : c.loop-i.i < length c.args.files.now.items = rw f at c.loop-i-test.true in
    let a : c.file-item.result ≡ get_or c.args.files.now.items c.loop-i.i no_file = rw f at c.file-item.is ∙ get_or_default c.args.files.now.items c.loop-i.i c.file-item.result no_file h in
    let named : c.file-item.result.name ≡ c.args.name.now = c.is.ensures.0 c.if-is.true in
    sym (place-first c.args.name.now c.args.files.now.items c.loop-i.i h (ap (λ (x : MemFile). x.name) (sym a) ∙ named) c.loop-i.invariant)

pub returns-then-is-clause-held : goal.returns-then-is-clause-held
returns-then-is-clause-held c =
    let f = c.deref-file-items.ensures.value in
    let h : c.loop-i.i < length c.args.files.now.items = rw f at c.loop-i-test.true in
    let a : c.file-item.result ≡ get_or c.args.files.now.items c.loop-i.i no_file = rw f at c.file-item.is ∙ get_or_default c.args.files.now.items c.loop-i.i c.file-item.result no_file h in
    let named : c.file-item.result.name ≡ c.args.name.now = c.is.ensures.0 c.if-is.true in
    held-first c.args.name.now c.args.files.now.items c.loop-i.i h (ap (λ (x : MemFile). x.name) (sym a) ∙ named) c.loop-i.invariant

pub returns-clause-place : goal.returns-clause-place
returns-clause-place c = sym (place-none c.args.name.now c.args.files.now.items (λ k l. c.loop-i.invariant k (grind (arith, common_steps))))

pub returns-clause-none : goal.returns-clause-none
returns-clause-none c = held-none c.args.name.now c.args.files.now.items (λ k l. c.loop-i.invariant k (grind (arith, common_steps)))
