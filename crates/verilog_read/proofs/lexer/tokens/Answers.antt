use Rattle.std.proofs.Common.{◌≤◌, ◌∙◌, sym, ap, arith, length, ◌-◌, ◌≡◌, subst, List, refl}
use Rattle.std.proofs.lemmas.Bool.{eqb-true}
use Rattle.verilog_tree.specs.Lexemes.{Placed}
use Rattle.verilog_read.specs.Seen.{seen, token_seen}
use Rattle.verilog_read.specs.Tokens.{Extends}
use Rattle.verilog_read.proofs.Values.{some_left}
use Rattle.verilog_read.proofs.Tokens.{goes_on, ends_found, ends_only, stops_gap, stops_token, seen-push, gap_front, end_front, fault_front}
use Rattle.verilog_read.proofs.lexer.tokens.Goals as goal

pub returns-in_default-clause-only : goal.returns-in_default-clause-only
returns-in_default-clause-only c = λ ts h. absurd (stops_gap (length c.args.bytes.now) c.args.bytes.now c.loop-next.rest.now (seen c.loop-next.found.items) ts c.loop-next.invariant.0 c.in_default.ensures.same h)

pub returns-then-is_empty-clause-found : goal.returns-then-is_empty-clause-found
returns-then-is_empty-clause-found c = λ w. ends_found (length c.args.bytes.now) c.args.bytes.now c.loop-next.rest.now c.in-Some.next.now (seen c.loop-next.found.items) c.loop-next.invariant.0 c.in-Some.ensures.same (eqb-true (length c.in-Some.next.now) 0 (sym c.if-is_empty.ensures))

pub returns-then-is_empty-clause-only : goal.returns-then-is_empty-clause-only
returns-then-is_empty-clause-only c = λ ts h. (refl, ends_only (length c.args.bytes.now) c.args.bytes.now c.loop-next.rest.now c.in-Some.next.now (seen c.loop-next.found.items) ts c.loop-next.invariant.0 c.in-Some.ensures.same (eqb-true (length c.in-Some.next.now) 0 (sym c.if-is_empty.ensures)) h)

pub returns-in_default-2-clause-only : goal.returns-in_default-2-clause-only
returns-in_default-2-clause-only c = λ ts h.
    let none = rw c.in_default-2.is at c.in_ok-token.ensures.token in
    absurd (stops_token (length c.args.bytes.now) c.args.bytes.now c.loop-next.rest.now c.in-Some.next.now (seen c.loop-next.found.items) ts c.loop-next.invariant.0 c.in-Some.ensures.same (some_left c.in-Some.next.now (sym c.if-is_empty.ensures)) none h)

pub returns-in_default-clause-front : goal.returns-in_default-clause-front
returns-in_default-clause-front c = gap_front (length c.args.bytes.now) c.args.bytes.now c.loop-next.rest.now (seen c.loop-next.found.items) c.loop-next.invariant.0 c.in_default.ensures.same

pub returns-then-is_empty-clause-front : goal.returns-then-is_empty-clause-front
returns-then-is_empty-clause-front c =
    let none : length c.in-Some.next.now ≡ 0 = eqb-true (length c.in-Some.next.now) 0 (sym c.if-is_empty.ensures) in
    end_front (length c.args.bytes.now) _ c.args.bytes.now c.loop-next.rest.now c.in-Some.next.now (seen c.loop-next.found.items) c.loop-next.invariant.0 c.in-Some.ensures.same none (omega (arith, none))

pub returns-in_default-2-clause-front : goal.returns-in_default-2-clause-front
returns-in_default-2-clause-front c =
    let none = rw c.in_default-2.is at c.in_ok-token.ensures.token in
    let fits : length c.in-Some.next.now ≤ length c.args.bytes.now = omega (arith, c.in-Some.ensures.shorter, c.loop-next.invariant.1) in
    fault_front (length c.args.bytes.now) _ c.args.bytes.now c.loop-next.rest.now c.in-Some.next.now (seen c.loop-next.found.items) _ c.loop-next.invariant.0 c.in-Some.ensures.same
    (some_left c.in-Some.next.now (sym c.if-is_empty.ensures)) none (omega (arith, fits, c.fault_in.ensures.place)) c.form_of_bytes.ensures

pub loop-next-preserved : goal.loop-next-preserved
loop-next-preserved c =
    let some = rw c.in-Some-2.is at c.in_ok-token.ensures.token in
    let short = rw c.in-Some-2.is at c.in_ok-token.ensures.shorter in
    let fits : length c.in-Some.next.now ≤ length c.args.bytes.now = omega (arith, c.in-Some.ensures.shorter) in
    let grown = goes_on (length c.args.bytes.now) (length c.args.bytes.now - length c.in-Some.next.now) c.args.bytes.now c.loop-next.rest.now c.in-Some.next.now c.in-Some-2.behind.now (seen c.loop-next.found.items) (token_seen c.in-Some-2.token) c.loop-next.invariant.0 c.in-Some.ensures.same (some_left c.in-Some.next.now (sym c.if-is_empty.ensures)) (omega arith) some in
    (subst (λ (l : List Placed). Extends (length c.args.bytes.now) c.args.bytes.now l c.in-Some-2.behind.now) (sym (ap seen c.in_ok-push.ensures.items ∙ seen-push _ _)) grown, omega (arith, short))
