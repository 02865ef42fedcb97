use Rattle.std.proofs.Common.{◌≡◌, ◌∙◌, ℕ, ◌<◌, false, true, ap, sym, subst, arith, inr, Some}
use Rattle.std.proofs.lemmas.Bool.{both_ways}
use Rattle.hw_module.specs.declared.rows.Owner.TheVariants.{Entry}
use Rattle.hw_module.specs.declared.rows.WireRow.{WireRow}
use Rattle.hw_module.specs.Rights.{Makes}
use Rattle.hw_module.specs.Rows.{wire_at}
use Rattle.hw_module.proofs.Makes.{makes_then}
use Rattle.service_ports.specs.declared.ports.PredictPorts.{PredictPorts}
use Rattle.plug_part.specs.Owned.{is_predict_input}
use Rattle.plug_icache.proofs.Asked.{apart, asked, from_ports, pc_input, same_ports, word_input}
use Rattle.plug_icache.proofs.predict.ask_predict.Goals as goal

pub drive-requires-clause-there : goal.drive-requires-clause-there
drive-requires-clause-there c =
    let o = from_ports c.args.reg.now.predict c.in-Some.q (sym c.predict.ensures ∙ c.in-Some.is) in
    (asked c.args.b.now.design c.args.pool.now c.args.reg.now c.requires.offers o.0 c.in-Some.q o.1).0.there

pub drive-requires-clause-width : goal.drive-requires-clause-width
drive-requires-clause-width c =
    let o = from_ports c.args.reg.now.predict c.in-Some.q (sym c.predict.ensures ∙ c.in-Some.is) in
    let wide : (wire_at c.args.b.now.design.wires c.in-Some.q.pc).width ≡ 32 = (asked c.args.b.now.design c.args.pool.now c.args.reg.now c.requires.offers o.0 c.in-Some.q o.1).0.width in
    let pc : c.args.pc.width ≡ 32 = c.requires.widths.0 in
    let word : c.args.word.width ≡ 32 = c.requires.widths.1 in
    omega (arith, wide, pc, word)

pub drive-requires-clause-below : goal.drive-requires-clause-below
drive-requires-clause-below c =
    let o = from_ports c.args.reg.now.predict c.in-Some.q (sym c.predict.ensures ∙ c.in-Some.is) in
    let high : (wire_at c.args.b.now.design.wires c.in-Some.q.pc).level ≡ 1 = (asked c.args.b.now.design c.args.pool.now c.args.reg.now c.requires.offers o.0 c.in-Some.q o.1).0.level in
    let pc : c.args.pc.level ≡ 0 = c.requires.levels.0 in
    let word : c.args.word.level ≡ 0 = c.requires.levels.1 in
    omega (arith, high, pc, word)

-- the second input is as it was
word_is : (c : goal.After-drive-arg-in-Some-1) → wire_at c.drive.new.self.design.wires c.in-Some.q.word ≡ wire_at c.args.b.now.design.wires c.in-Some.q.word
word_is c =
    let o = from_ports c.args.reg.now.predict c.in-Some.q (sym c.predict.ensures ∙ c.in-Some.is) in
    c.drive.ensures.others c.in-Some.q.word (λ e. apart c.args.b.now.design c.args.pool.now c.args.reg.now c.requires.offers o.0 c.in-Some.q o.1 (sym e))

pub drive-requires-in-Some-clause-there : goal.drive-requires-in-Some-clause-there
drive-requires-in-Some-clause-there c =
    let o = from_ports c.args.reg.now.predict c.in-Some.q (sym c.predict.ensures ∙ c.in-Some.is) in
    let there = (asked c.args.b.now.design c.args.pool.now c.args.reg.now c.requires.offers o.0 c.in-Some.q o.1).1.there in
    subst (λ (n : ℕ). c.in-Some.q.word < n) (sym c.drive.ensures.count) there

pub drive-requires-in-Some-clause-free : goal.drive-requires-in-Some-clause-free
drive-requires-in-Some-clause-free c =
    let o = from_ports c.args.reg.now.predict c.in-Some.q (sym c.predict.ensures ∙ c.in-Some.is) in
    ap (λ (row : WireRow). row.driver) (word_is c) ∙ c.requires.open c.in-Some.q.word (word_input c.args.reg.now o.0 c.in-Some.q o.1)

pub drive-requires-in-Some-clause-width : goal.drive-requires-in-Some-clause-width
drive-requires-in-Some-clause-width c =
    let o = from_ports c.args.reg.now.predict c.in-Some.q (sym c.predict.ensures ∙ c.in-Some.is) in
    let wide : (wire_at c.drive.new.self.design.wires c.in-Some.q.word).width ≡ 32 =
    ap (λ (row : WireRow). row.width) (word_is c) ∙ (asked c.args.b.now.design c.args.pool.now c.args.reg.now c.requires.offers o.0 c.in-Some.q o.1).1.width in
    let pc : c.args.pc.width ≡ 32 = c.requires.widths.0 in
    let word : c.args.word.width ≡ 32 = c.requires.widths.1 in
    omega (arith, wide, pc, word)

pub drive-requires-in-Some-clause-below : goal.drive-requires-in-Some-clause-below
drive-requires-in-Some-clause-below c =
    let o = from_ports c.args.reg.now.predict c.in-Some.q (sym c.predict.ensures ∙ c.in-Some.is) in
    let high : (wire_at c.drive.new.self.design.wires c.in-Some.q.word).level ≡ 1 =
    ap (λ (row : WireRow). row.level) (word_is c) ∙ (asked c.args.b.now.design c.args.pool.now c.args.reg.now c.requires.offers o.0 c.in-Some.q o.1).1.level in
    let pc : c.args.pc.level ≡ 0 = c.requires.levels.0 in
    let word : c.args.word.level ≡ 0 = c.requires.levels.1 in
    omega (arith, high, pc, word)

pub returns-in-Some-clause-asks : goal.returns-in-Some-clause-asks
returns-in-Some-clause-asks c =
    let r = c.args.reg.now in
    let q = c.in-Some.q in
    let o = from_ports r.predict q (sym c.predict.ensures ∙ c.in-Some.is) in
    let a = c.drive.ensures in
    let b = c.drive-in-Some.ensures in
    let new = c.drive-in-Some.new.self.design in
    let input : (k j : ℕ) → is_predict_input r k ≡ false → is_predict_input r j ≡ true → k ≡ j → ⊥ = λ k j not is e. both_ways (is_predict_input r k) not (ap (is_predict_input r) e ∙ is) in
    record {
      entry = b.entry ∙ a.entry;
      count = b.count ∙ a.count;
      others = λ k not. b.others k (input k q.word not (word_input r o.0 q o.1)) ∙ a.others k (input k q.pc not (pc_input r o.0 q o.1));
      regs = b.regs ∙ a.regs;
      arrays = b.arrays ∙ a.arrays;
      outs = b.outs ∙ a.outs;
      room = let x = a.room in let y = b.room in omega (arith, x, y);
      makes = λ t right. makes_then (Entry c.args.b.now.entry) t c.args.b.now.design c.drive.new.self.design new 1 1 2 (a.makes t (inr (right q.pc (pc_input r o.0 q o.1))))
          (subst (λ (x : ℕ). Makes (Entry x) t c.drive.new.self.design new 1) a.entry (b.makes t (inr (right q.word (word_input r o.0 q o.1))))) (omega arith);
      kept = λ p n h. b.kept p n (a.kept p n h);
    }

pub returns-in-Some-clause-pc : goal.returns-in-Some-clause-pc
returns-in-Some-clause-pc c = λ by p is.
    let o = from_ports c.args.reg.now.predict c.in-Some.q (sym c.predict.ensures ∙ c.in-Some.is) in
    let other : c.in-Some.q.pc ≡ c.in-Some.q.word → ⊥ = apart c.args.b.now.design c.args.pool.now c.args.reg.now c.requires.offers o.0 c.in-Some.q o.1 in
    subst (λ (x : PredictPorts). (wire_at c.drive-in-Some.new.self.design.wires x.pc).driver ≡ Some c.args.pc) (same_ports c.args.reg.now.predict o.0 by c.in-Some.q p o.1 is)
    (ap (λ (row : WireRow). row.driver) (c.drive-in-Some.ensures.others c.in-Some.q.pc other ∙ c.drive.ensures.driven))
