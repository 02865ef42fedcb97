use Rattle.std.proofs.Common.{◌≡◌, ◌++◌, ℕ, List, length, drop, sym, ap, subst, ◌∙◌, arith}
use Rattle.std.proofs.lemmas.List.{with_items_is}
use Rattle.std.proofs.lemmas.List.Elements.{All-append, All-drop, All-from_get_or}
use Rattle.bus_law.specs.Memory.{IsMemory}
use Rattle.bus_law.proofs.Held.{IsByte, memory_of, refilled}
use Rattle.bus_law.proofs.memory.Mem.fill.Goals as goal

pub invariant_of-self : goal.invariant_of-self
invariant_of-self c =
    let items : List ℕ = c.self.inside.bytes.items in
    let bytes : List ℕ = c.args.bytes.now in
    let rest : List ℕ = drop (length bytes) items in
    let held = c.put_front.new.held in
    let len : length held ≡ c.self.inside.bytes.len = omega arith in
    let held_is = c.put_front.ensures ∙ ap (λ l. bytes ++ drop (length bytes) l) c.as_mut_slice.ensures.value in
    let same : length (bytes ++ rest) ≡ length items = sym (ap length held_is) ∙ (c.put_front.auto.held ∙ ap length c.as_mut_slice.ensures.value) in
    subst (λ l. IsMemory (memory_of c.self.inside.base l)) (sym (with_items_is c.self.inside.bytes held len ∙ held_is))
    (refilled (memory_of c.self.inside.base items) (bytes ++ rest) c.self.invariant same
    (All-append IsByte bytes rest (All-from_get_or IsByte bytes 0 (λ i h. omega (arith, c.type_inv.bytes i))) (All-drop IsByte (length bytes) items c.self.invariant.fits)))

pub returns-clause-bytes : goal.returns-clause-bytes
returns-clause-bytes c =
    let bytes : List ℕ = c.args.bytes.now in
    let len : length c.put_front.new.held ≡ c.self.inside.bytes.len = omega arith in
    with_items_is c.self.inside.bytes c.put_front.new.held len
    ∙ (c.put_front.ensures ∙ ap (λ l. bytes ++ drop (length bytes) l) (c.as_mut_slice.ensures.value ∙ ap (λ m. m.bytes) c.self.view_is))
