use Rattle.std.proofs.Common.{◌≡◌, ◌∙◌, ℕ, ◌+◌, ◌<◌, length, ap, subst, arith}
use Rattle.hw_module.specs.declared.rows.Owner.TheVariants.{Entry}
use Rattle.hw_module.specs.Rights.{Makes}
use Rattle.hw_module.specs.Rows.{array_at}
use Rattle.hw_module.proofs.Makes.{makes_then}
use Rattle.plug_icache.specs.Registers.{open_array}
use Rattle.plug_icache.proofs.make.make_arrays.Goals as goal

pub returns-clause-arrays : goal.returns-clause-arrays
returns-clause-arrays c =
    let a = c.array-tags.ensures in
    let b = c.array-words.ensures in
    let d = c.args.b.now.design in
    let many : length c.array-tags.new.self.design.arrays ≡ length d.arrays + 1 = a.count in
    let more : length c.array-words.new.self.design.arrays ≡ length c.array-tags.new.self.design.arrays + 1 = b.count in
    let at : c.array-tags.result ≡ length d.arrays = a.number in
    let next : c.array-words.result ≡ length c.array-tags.new.self.design.arrays = b.number in
    let behind : c.array-words.result ≡ c.array-tags.result + 1 = omega arith in
    record {
      there = omega arith;
      tag = b.before c.array-tags.result (omega arith) ∙ a.made;
      cell = ap (array_at c.array-words.new.self.design.arrays) (let e : c.array-tags.result + 1 ≡ c.array-words.result = omega arith in e)
          ∙ (b.made ∙ ap (λ (e : ℕ). open_array e 32 (c.args.z.index + c.args.z.place)) a.entry);
    }

pub returns-clause-makes : goal.returns-clause-makes
returns-clause-makes c =
    let a = c.array-tags.ensures in
    let b = c.array-words.ensures in
    record {
      entry = b.entry ∙ a.entry;
      wires = b.wires ∙ a.wires;
      regs = b.regs ∙ a.regs;
      outs = b.outs ∙ a.outs;
      count = let x = a.count in let y = b.count in omega (arith, x, y);
      before = λ k l. let x = a.count in b.before k (omega (arith, x)) ∙ a.before k l;
      room = let x = a.room in let y = b.room in omega (arith, x, y);
      makes = λ r. makes_then (Entry c.args.b.now.entry) r c.args.b.now.design c.array-tags.new.self.design c.array-words.new.self.design 1 1 2 (a.makes r)
          (subst (λ (e : ℕ). Makes (Entry e) r c.array-tags.new.self.design c.array-words.new.self.design 1) a.entry (b.makes r)) (omega arith);
      drivers = λ pool h. b.drivers pool (a.drivers pool h);
    }
