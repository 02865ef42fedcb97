use Rattle.std.proofs.Common.{◌≡◌, ◌≤◌, ◌+◌, ◌++◌, ℕ, Bool, true, false, List, [], Option, cond, refl, sym, ap, ◌∙◌, subst, arith}
use Rattle.std.specs.Prelude.{is_some}
use Rattle.std.specs.Int.{from_bool}
use Rattle.core_words.specs.Values.{one_if}
use Rattle.core_sim.specs.declared.event.Event.{Event}
use Rattle.core_host.specs.Outside.{Appends, IsCut}
use Rattle.core_host.specs.declared.host.Port.TheVariants.{Main}
use Rattle.bus_law.specs.Memory.{Memory}
use Rattle.verilog_mean.specs.Cycle.{State, value}
use Rattle.verilog_mean.specs.Plain.{Plain}
use Rattle.core_sim.specs.Spans.{lines_of}
use Rattle.core_sim.specs.Joint.{joint_at, joint_inputs, joint_next, joint_start, run_of}
use Rattle.core_sim.specs.Ends.{run_text, unsettled}
use Rattle.core_sim.specs.Pending.{IsKept}
use Rattle.core_sim.specs.Bench.{IsBench, IsCore, event_in, retires, shown, write_in}
use Rattle.core_sim.proofs.Bridge.{told_is, joint_later, written_is}
use Rattle.core_sim.proofs.Events.{on_err, IsAt, at_start, cut, ended, ends_here, goes_on, kept_next, text_ended, text_here}
use Rattle.core_sim.proofs.run.run_cycles.Goals as goal

-- an event counts as one
counts : (told : Option Event) (b : Bool) (n : ℕ) → b ≡ is_some told → n ≡ from_bool b → n ≡ one_if (is_some told)
counts told b n e f = f ∙ ap from_bool e ∙ by_case (is_some told)
  where
    by_case : (c : Bool) → from_bool c ≡ one_if c
    by_case true = refl
    by_case false = refl

at_most_one : (b : Bool) (n : ℕ) → n ≡ from_bool b → n ≤ 1
at_most_one true n f = omega (arith, f)
at_most_one false n f = omega (arith, f)

pub loop-cycle-init : goal.loop-cycle-init
unfolding joint_at unsettled
loop-cycle-init g c = record {
  ready = c.requires.ready;
  few = omega arith;
  bench = λ m contents memory delays core h. h;
  at = λ m contents memory delays core h. at_start (run_of m contents memory delays (lines_of c.args.irqs.now)) c.args.trace c.args.cycles (g.H.Host.pushed c.args.host.now Main);
  kept = λ m contents memory delays core h. c.requires.empty;
  len = omega arith;
  room = c.requires.room;
  others = λ p other. refl;
  left = λ n. refl;
  files = refl;
  numbers = λ n was. was;
  names = λ n was. refl;
  reads = omega arith;
  writes = omega arith;
}

pub returns-in_err-push_told-clause-part : goal.returns-in_err-push_told-clause-part
returns-in_err-push_told-clause-part g c =
    let is = λ (m : Plain) (contents : State) (memory : Memory) (delays : List ℕ) (core : IsCore m) (h : IsBench m (joint_start contents memory delays) c.args.bench.now).
    c.cycle-told.ensures.event m (joint_at m contents memory delays (lines_of c.args.irqs.now) c.loop-cycle.cycle) core (c.loop-cycle.invariant.bench m contents memory delays core h) ∙ ap (λ n. event_in c.loop-cycle.cycle (value m (joint_at m contents memory delays (lines_of c.args.irqs.now) c.loop-cycle.cycle).core (joint_inputs c.loop-cycle.cycle n (joint_at m contents memory delays (lines_of c.args.irqs.now) c.loop-cycle.cycle)))) c.lines_in.ensures ∙ told_is m contents memory delays (lines_of c.args.irqs.now) c.loop-cycle.cycle in
    let part : (m : Plain) (contents : State) (memory : Memory) (delays : List ℕ) → IsCore m → IsBench m (joint_start contents memory delays) c.args.bench.now
    → IsCut (g.H.Host.pushed c.args.host.now Main) (run_text c.args.trace (run_of m contents memory delays (lines_of c.args.irqs.now)) c.args.cycles) (g.H.Host.pushed c.push_told.new.host Main) =
    λ m contents memory delays core h. cut (run_of m contents memory delays (lines_of c.args.irqs.now)) c.args.trace c.args.cycles c.loop-cycle.cycle c.loop-cycle.events (g.H.Host.pushed c.args.host.now Main) (g.H.Host.pushed c.loop-cycle.host Main)
    (g.H.Host.pushed c.push_told.new.host Main) c.cycle-told.result.event c.loop-cycle.pending (c.loop-cycle.invariant.at m contents memory delays core h) (is m contents memory delays core h)
    (c.loop-cycle.invariant.kept m contents memory delays core h) c.loop-cycle-test.true
    (subst (λ l. IsCut (g.H.Host.pushed c.loop-cycle.host Main) (shown c.args.trace c.cycle-told.result.event l) (g.H.Host.pushed c.push_told.new.host Main)) c.as_slice.ensures.value c.in_err-push_told.ensures.part) in
    on_err _ part

pub returns-in-Some-clause-end : goal.returns-in-Some-clause-end
returns-in-Some-clause-end g c =
    let is = λ (m : Plain) (contents : State) (memory : Memory) (delays : List ℕ) (core : IsCore m) (h : IsBench m (joint_start contents memory delays) c.args.bench.now).
    c.cycle-told.ensures.event m (joint_at m contents memory delays (lines_of c.args.irqs.now) c.loop-cycle.cycle) core (c.loop-cycle.invariant.bench m contents memory delays core h) ∙ ap (λ n. event_in c.loop-cycle.cycle (value m (joint_at m contents memory delays (lines_of c.args.irqs.now) c.loop-cycle.cycle).core (joint_inputs c.loop-cycle.cycle n (joint_at m contents memory delays (lines_of c.args.irqs.now) c.loop-cycle.cycle)))) c.lines_in.ensures ∙ told_is m contents memory delays (lines_of c.args.irqs.now) c.loop-cycle.cycle in
    λ m contents memory delays core h. sym (ends_here (run_of m contents memory delays (lines_of c.args.irqs.now)) c.args.trace c.args.cycles c.loop-cycle.cycle c.loop-cycle.events (g.H.Host.pushed c.args.host.now Main)
    (g.H.Host.pushed c.loop-cycle.host Main) (g.H.Host.pushed c.push_told.new.host Main) c.cycle-told.result.event c.loop-cycle.pending (c.loop-cycle.invariant.at m contents memory delays core h)
    (is m contents memory delays core h) (c.loop-cycle.invariant.kept m contents memory delays core h) _ (ap (λ n. c.loop-cycle.events + n) (counts c.cycle-told.result.event c.is_some.result c.from-events.result c.is_some.ensures c.from-events.ensures)) c.in-Some.end (sym c.in-Some.is ∙ c.end_with.ensures) c.loop-cycle-test.true)

pub returns-in-Some-clause-whole : goal.returns-in-Some-clause-whole
returns-in-Some-clause-whole g c =
    let is = λ (m : Plain) (contents : State) (memory : Memory) (delays : List ℕ) (core : IsCore m) (h : IsBench m (joint_start contents memory delays) c.args.bench.now).
    c.cycle-told.ensures.event m (joint_at m contents memory delays (lines_of c.args.irqs.now) c.loop-cycle.cycle) core (c.loop-cycle.invariant.bench m contents memory delays core h) ∙ ap (λ n. event_in c.loop-cycle.cycle (value m (joint_at m contents memory delays (lines_of c.args.irqs.now) c.loop-cycle.cycle).core (joint_inputs c.loop-cycle.cycle n (joint_at m contents memory delays (lines_of c.args.irqs.now) c.loop-cycle.cycle)))) c.lines_in.ensures ∙ told_is m contents memory delays (lines_of c.args.irqs.now) c.loop-cycle.cycle in
    λ m contents memory delays core h. text_here (run_of m contents memory delays (lines_of c.args.irqs.now)) c.args.trace c.args.cycles c.loop-cycle.cycle c.loop-cycle.events (g.H.Host.pushed c.args.host.now Main)
    (g.H.Host.pushed c.loop-cycle.host Main) (g.H.Host.pushed c.push_told.new.host Main) c.cycle-told.result.event c.loop-cycle.pending (c.loop-cycle.invariant.at m contents memory delays core h)
    (is m contents memory delays core h) (c.loop-cycle.invariant.kept m contents memory delays core h) _ (ap (λ n. c.loop-cycle.events + n) (counts c.cycle-told.result.event c.is_some.result c.from-events.result c.is_some.ensures c.from-events.ensures)) c.in-Some.end (sym c.in-Some.is ∙ c.end_with.ensures) c.loop-cycle-test.true
    (subst (λ l. Appends (g.H.Host.pushed c.loop-cycle.host Main) (shown c.args.trace c.cycle-told.result.event l) (g.H.Host.pushed c.push_told.new.host Main)) c.as_slice.ensures.value c.in_ok-push_told.ensures.whole)

pub loop-cycle-preserved : goal.loop-cycle-preserved
loop-cycle-preserved g c =
    let i = c.loop-cycle.invariant in
    let e = c.in_ok-push_told.ensures in
    let is = λ (m : Plain) (contents : State) (memory : Memory) (delays : List ℕ) (core : IsCore m) (h : IsBench m (joint_start contents memory delays) c.args.bench.now).
    c.cycle-told.ensures.event m (joint_at m contents memory delays (lines_of c.args.irqs.now) c.loop-cycle.cycle) core (c.loop-cycle.invariant.bench m contents memory delays core h) ∙ ap (λ n. event_in c.loop-cycle.cycle (value m (joint_at m contents memory delays (lines_of c.args.irqs.now) c.loop-cycle.cycle).core (joint_inputs c.loop-cycle.cycle n (joint_at m contents memory delays (lines_of c.args.irqs.now) c.loop-cycle.cycle)))) c.lines_in.ensures ∙ told_is m contents memory delays (lines_of c.args.irqs.now) c.loop-cycle.cycle in
    record {
      ready = c.cycle-told.ensures.ready;
      few = let f = i.few in let one = at_most_one c.is_some.result c.from-events.result c.from-events.ensures in omega (arith, f, one);
      bench = λ m contents memory delays core h. subst (λ j. IsBench m j c.cycle-told.new.self) (ap (λ n. joint_next m c.loop-cycle.cycle n (joint_at m contents memory delays (lines_of c.args.irqs.now) c.loop-cycle.cycle)) c.lines_in.ensures ∙ joint_later m contents memory delays (lines_of c.args.irqs.now) c.loop-cycle.cycle)
          (c.cycle-told.ensures.next m (joint_at m contents memory delays (lines_of c.args.irqs.now) c.loop-cycle.cycle) core (i.bench m contents memory delays core h));
      at = λ m contents memory delays core h. goes_on (run_of m contents memory delays (lines_of c.args.irqs.now)) c.args.trace c.args.cycles c.loop-cycle.cycle c.loop-cycle.events (g.H.Host.pushed c.args.host.now Main)
          (g.H.Host.pushed c.loop-cycle.host Main) (g.H.Host.pushed c.push_told.new.host Main) c.cycle-told.result.event c.loop-cycle.pending (i.at m contents memory delays core h)
          (is m contents memory delays core h) (i.kept m contents memory delays core h) _ (ap (λ n. c.loop-cycle.events + n) (counts c.cycle-told.result.event c.is_some.result c.from-events.result c.is_some.ensures c.from-events.ensures)) (sym c.in_default.is ∙ c.end_with.ensures)
          (subst (λ l. Appends (g.H.Host.pushed c.loop-cycle.host Main) (shown c.args.trace c.cycle-told.result.event l) (g.H.Host.pushed c.push_told.new.host Main)) c.as_slice.ensures.value e.whole);
      kept = λ m contents memory delays core h. kept_next (run_of m contents memory delays (lines_of c.args.irqs.now)) c.loop-cycle.cycle c.cycle-told.result.event c.args.trace c.pass.new.self (is m contents memory delays core h)
          (subst (λ l. IsKept c.args.trace (l ++ cond (retires c.cycle-told.result.event) [] (unsettled (run_of m contents memory delays (lines_of c.args.irqs.now)) c.loop-cycle.cycle)) c.pass.new.self)
          (c.cycle-told.ensures.write m (joint_at m contents memory delays (lines_of c.args.irqs.now) c.loop-cycle.cycle) core (i.bench m contents memory delays core h) ∙ ap (λ n. write_in m c.loop-cycle.cycle n (joint_at m contents memory delays (lines_of c.args.irqs.now) c.loop-cycle.cycle)) c.lines_in.ensures ∙ written_is m contents memory delays (lines_of c.args.irqs.now) c.loop-cycle.cycle core)
          (c.pass.ensures.kept (unsettled (run_of m contents memory delays (lines_of c.args.irqs.now)) c.loop-cycle.cycle) (i.kept m contents memory delays core h)));
      len = omega (arith, i.len, c.pass.ensures.len);
      room = λ off. let a = i.room off in let b = c.pass.ensures.room in omega (arith, a, b);
      others = λ p other. e.others p other ∙ i.others p other;
      left = λ n. e.left n ∙ i.left n;
      files = e.files ∙ i.files;
      numbers = λ n was. e.numbers n (i.numbers n was);
      names = λ n was. e.names n (i.numbers n was) ∙ i.names n was;
      reads = omega (arith, e.reads, i.reads);
      writes = omega (arith, e.writes, i.writes);
    }

-- the last cycle has passed
pub returns-clause-end : goal.returns-clause-end
returns-clause-end g c = λ m contents memory delays core h.
    let all : c.loop-cycle.cycle ≡ c.args.cycles = omega arith in
    sym (ended (run_of m contents memory delays (lines_of c.args.irqs.now)) c.args.trace c.args.cycles c.loop-cycle.events (g.H.Host.pushed c.args.host.now Main) (g.H.Host.pushed c.loop-cycle.host Main)
    (subst (λ n. IsAt (run_of m contents memory delays (lines_of c.args.irqs.now)) c.args.trace c.args.cycles n c.loop-cycle.events (g.H.Host.pushed c.args.host.now Main) (g.H.Host.pushed c.loop-cycle.host Main)) all
    (c.loop-cycle.invariant.at m contents memory delays core h)))

pub returns-clause-whole : goal.returns-clause-whole
returns-clause-whole g c = λ m contents memory delays core h.
    let all : c.loop-cycle.cycle ≡ c.args.cycles = omega arith in
    text_ended (run_of m contents memory delays (lines_of c.args.irqs.now)) c.args.trace c.args.cycles c.loop-cycle.events (g.H.Host.pushed c.args.host.now Main) (g.H.Host.pushed c.loop-cycle.host Main)
    (subst (λ n. IsAt (run_of m contents memory delays (lines_of c.args.irqs.now)) c.args.trace c.args.cycles n c.loop-cycle.events (g.H.Host.pushed c.args.host.now Main) (g.H.Host.pushed c.loop-cycle.host Main)) all
    (c.loop-cycle.invariant.at m contents memory delays core h))
