use Rattle.std.proofs.Common.{◌≡◌, length, sym, ap, subst, ◌∙◌, arith}
use Rattle.std.proofs.Math.Path.{ap₂}
use Rattle.std.proofs.lemmas.List.{with_items_is}
use Rattle.bus_law.specs.Memory.{IsMemory}
use Rattle.bus_law.specs.Lanes.{lanes_put}
use Rattle.bus_law.proofs.Held.{memory_of, refilled, length-lanes_put, All-lanes_put, written-outside, written-inside}
use Rattle.bus_law.proofs.memory.Mem.apply.Goals as goal

pub invariant_of-self : goal.invariant_of-self
invariant_of-self c =
    let v = c.self.inside.bytes in
    let put = lanes_put c.in-Some.at c.args.value c.args.mask in
    let len : length c.put_lanes.new.bytes ≡ v.len = omega arith in
    let is = with_items_is v c.put_lanes.new.bytes len ∙ (c.put_lanes.ensures ∙ ap put c.as_mut_slice.ensures.value) in
    subst (λ l. IsMemory (memory_of c.self.inside.base l)) (sym is)
    (refilled (memory_of c.self.inside.base v.items) (put v.items) c.self.invariant (length-lanes_put c.in-Some.at c.args.value c.args.mask v.items)
    (All-lanes_put c.in-Some.at c.args.value c.args.mask v.items c.self.invariant.fits))

pub returns-in-Some-clause-new : goal.returns-in-Some-clause-new
returns-in-Some-clause-new c =
    let put = lanes_put c.in-Some.at c.args.value c.args.mask in
    let len : length c.put_lanes.new.bytes ≡ c.self.inside.bytes.len = omega arith in
    let is = with_items_is c.self.inside.bytes c.put_lanes.new.bytes len ∙ (c.put_lanes.ensures ∙ ap put (c.as_mut_slice.ensures.value ∙ ap (λ m. m.bytes) c.self.view_is)) in
    ap₂ memory_of (ap (λ m. m.base) c.self.view_is) is
    ∙ sym (written-inside c.args.self.now c.args.addr c.args.value c.args.mask c.in-Some.at c.in-Some.ensures.inside c.in-Some.ensures.place)

pub returns-in-None-clause-new : goal.returns-in-None-clause-new
returns-in-None-clause-new c = sym (written-outside c.args.self.now c.args.addr c.args.value c.args.mask c.in-None.ensures.outside)
