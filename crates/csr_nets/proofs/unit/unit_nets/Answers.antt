use Rattle.std.proofs.Common.{◌≡◌, ◌∙◌, ℕ, ◌+◌, bit_and}
use Rattle.hw_pool.specs.Meaning.{Env}
use Rattle.hw_expr.specs.declared.net.Net.{Net}
use Rattle.hw_gates.specs.Places.{value_in}
use Rattle.hw_gates.proofs.Steps.{kept, stays, stays_in, ◌▸◌}
use Rattle.csr_nets.specs.Machine.{Now, access_of, any_now, cause_by, changed_by, changes_now, done_by, done_now, enters_by, epc_by, hit_of, hits_now, identity_of, kind_now, known_by, new_now, next_pc_by, old_by, old_now, on_by, operand_by, outer_by, own_by, rest_by, return_of, scratch_by, soft_by, timer_by, trap_by, trap_now, tval_by, tvec_by, wait_of, was_by, write_of}
use Rattle.csr_nets.specs.Nets.{changes_in, hits_in, kind_in, seen_in}
use Rattle.csr_nets.proofs.Stays.{given_in_stays, given_stays, held_in_stays, held_stays, hits_in_stays, hits_kept, hits_stays, interrupt_in_stays, interrupt_stays, kind_in_stays, kind_kept, kind_stays, lines_in_stays, lines_stays, outs_in_stays, outs_stays, seen_stays, told_in_stays, told_stays}
use Rattle.csr_nets.proofs.unit.unit_nets.Goals as goal

-- ---- what the calls need

pub old_value-value-requires-clause-r : goal.old_value-value-requires-clause-r
old_value-value-requires-clause-r c = held_stays c.args.pool.now c.named-hits.new.pool (15 + (17 + 64)) (c.interrupt_nets-pending.ensures.step ▸ (c.kind_nets-kind.ensures.step ▸ c.named-hits.ensures.step)) c.args.c.held c.requires.cycle.held

pub old_value-value-requires-clause-l : goal.old_value-value-requires-clause-l
old_value-value-requires-clause-l c = lines_stays c.args.pool.now c.named-hits.new.pool (15 + (17 + 64)) (c.interrupt_nets-pending.ensures.step ▸ (c.kind_nets-kind.ensures.step ▸ c.named-hits.ensures.step)) c.args.c.lines c.requires.cycle.lines

pub out_nets-outs-requires-clause-g : goal.out_nets-outs-requires-clause-g
out_nets-outs-requires-clause-g c = given_stays c.args.pool.now c.old_value-value.new.pool (15 + (17 + (64 + 54))) (c.interrupt_nets-pending.ensures.step ▸ (c.kind_nets-kind.ensures.step ▸ (c.named-hits.ensures.step ▸ c.old_value-value.ensures.step))) c.args.c.given c.requires.cycle.given

pub out_nets-outs-requires-clause-k : goal.out_nets-outs-requires-clause-k
out_nets-outs-requires-clause-k c = kind_stays c.kind_nets-kind.new.pool c.old_value-value.new.pool (64 + 54) (c.named-hits.ensures.step ▸ c.old_value-value.ensures.step) c.kind_nets-kind.result c.kind_nets-kind.ensures.nets

pub out_nets-outs-requires-clause-h : goal.out_nets-outs-requires-clause-h
out_nets-outs-requires-clause-h c = hits_stays c.named-hits.new.pool c.old_value-value.new.pool 54 c.old_value-value.ensures.step c.named-hits.result c.named-hits.ensures.nets

pub change_nets-changes-requires-clause-k : goal.change_nets-changes-requires-clause-k
change_nets-changes-requires-clause-k c = kind_stays c.kind_nets-kind.new.pool c.new_value-new.new.pool (64 + (54 + (26 + 12))) (c.named-hits.ensures.step ▸ (c.old_value-value.ensures.step ▸ (c.out_nets-outs.ensures.step ▸ c.new_value-new.ensures.step))) c.kind_nets-kind.result c.kind_nets-kind.ensures.nets

pub change_nets-changes-requires-clause-t : goal.change_nets-changes-requires-clause-t
change_nets-changes-requires-clause-t c = told_stays c.args.pool.now c.new_value-new.new.pool (15 + (17 + (64 + (54 + (26 + 12))))) (c.interrupt_nets-pending.ensures.step ▸ (c.kind_nets-kind.ensures.step ▸ (c.named-hits.ensures.step ▸ (c.old_value-value.ensures.step ▸ (c.out_nets-outs.ensures.step ▸ c.new_value-new.ensures.step))))) c.args.c.told c.requires.cycle.told

pub next_nets-nexts-requires-clause-h : goal.next_nets-nexts-requires-clause-h
next_nets-nexts-requires-clause-h c = hits_stays c.named-hits.new.pool c.change_nets-changes.new.pool (54 + (26 + (12 + 11))) (c.old_value-value.ensures.step ▸ (c.out_nets-outs.ensures.step ▸ (c.new_value-new.ensures.step ▸ c.change_nets-changes.ensures.step))) c.named-hits.result c.named-hits.ensures.nets

pub next_nets-nexts-requires-clause-r : goal.next_nets-nexts-requires-clause-r
next_nets-nexts-requires-clause-r c = held_stays c.args.pool.now c.change_nets-changes.new.pool (15 + (17 + (64 + (54 + (26 + (12 + 11)))))) (c.interrupt_nets-pending.ensures.step ▸ (c.kind_nets-kind.ensures.step ▸ (c.named-hits.ensures.step ▸ (c.old_value-value.ensures.step ▸ (c.out_nets-outs.ensures.step ▸ (c.new_value-new.ensures.step ▸ c.change_nets-changes.ensures.step)))))) c.args.c.held c.requires.cycle.held

pub next_nets-nexts-requires-clause-t : goal.next_nets-nexts-requires-clause-t
next_nets-nexts-requires-clause-t c = told_stays c.args.pool.now c.change_nets-changes.new.pool (15 + (17 + (64 + (54 + (26 + (12 + 11)))))) (c.interrupt_nets-pending.ensures.step ▸ (c.kind_nets-kind.ensures.step ▸ (c.named-hits.ensures.step ▸ (c.old_value-value.ensures.step ▸ (c.out_nets-outs.ensures.step ▸ (c.new_value-new.ensures.step ▸ c.change_nets-changes.ensures.step)))))) c.args.c.told c.requires.cycle.told

-- ---- what is made

pub returns-clause-step : goal.returns-clause-step
returns-clause-step c = (c.interrupt_nets-pending.ensures.step ▸ (c.kind_nets-kind.ensures.step ▸ (c.named-hits.ensures.step ▸ (c.old_value-value.ensures.step ▸ (c.out_nets-outs.ensures.step ▸ (c.new_value-new.ensures.step ▸ (c.change_nets-changes.ensures.step ▸ c.next_nets-nexts.ensures.step)))))))

pub returns-clause-nets : goal.returns-clause-nets
returns-clause-nets c = record {
  pending = interrupt_stays c.interrupt_nets-pending.new.pool c.next_nets-nexts.new.pool (17 + (64 + (54 + (26 + (12 + (11 + 36)))))) (c.kind_nets-kind.ensures.step ▸ (c.named-hits.ensures.step ▸ (c.old_value-value.ensures.step ▸ (c.out_nets-outs.ensures.step ▸ (c.new_value-new.ensures.step ▸ (c.change_nets-changes.ensures.step ▸ c.next_nets-nexts.ensures.step)))))) c.interrupt_nets-pending.result c.interrupt_nets-pending.ensures.nets;
  outs = outs_stays c.out_nets-outs.new.pool c.next_nets-nexts.new.pool (12 + (11 + 36)) (c.new_value-new.ensures.step ▸ (c.change_nets-changes.ensures.step ▸ c.next_nets-nexts.ensures.step)) c.out_nets-outs.result c.out_nets-outs.ensures.nets;
  value = stays c.old_value-value.new.pool c.next_nets-nexts.new.pool (26 + (12 + (11 + 36))) c.old_value-value.result 32 4 (c.out_nets-outs.ensures.step ▸ (c.new_value-new.ensures.step ▸ (c.change_nets-changes.ensures.step ▸ c.next_nets-nexts.ensures.step))) c.old_value-value.ensures.net;
  nexts = c.next_nets-nexts.ensures.nets;
}

pub returns-clause-scope : goal.returns-clause-scope
returns-clause-scope c = λ s i.
    let r = c.requires.cycle in
    let pending = c.interrupt_nets-pending.ensures.scope s i.held i.lines in
    let word : Net = c.args.c.given.word in
    let word1 = stays_in s c.args.pool.now c.interrupt_nets-pending.new.pool 15 word c.interrupt_nets-pending.ensures.step r.given.word.0 i.given.word in
    let word2 = stays_in s c.args.pool.now c.kind_nets-kind.new.pool (15 + 17) word (c.interrupt_nets-pending.ensures.step ▸ c.kind_nets-kind.ensures.step) r.given.word.0 i.given.word in
    let kind = c.kind_nets-kind.ensures.scope s word1 in
    let hits = c.named-hits.ensures.scope s word2 in
    let value = c.old_value-value.ensures.scope s hits (held_in_stays c.args.pool.now c.named-hits.new.pool (15 + (17 + 64)) (c.interrupt_nets-pending.ensures.step ▸ (c.kind_nets-kind.ensures.step ▸ c.named-hits.ensures.step)) s c.args.c.held r.held i.held)
    (lines_in_stays c.args.pool.now c.named-hits.new.pool (15 + (17 + 64)) (c.interrupt_nets-pending.ensures.step ▸ (c.kind_nets-kind.ensures.step ▸ c.named-hits.ensures.step)) s c.args.c.lines r.lines i.lines) in
    let outs = c.out_nets-outs.ensures.scope s (given_in_stays c.args.pool.now c.old_value-value.new.pool (15 + (17 + (64 + 54))) (c.interrupt_nets-pending.ensures.step ▸ (c.kind_nets-kind.ensures.step ▸ (c.named-hits.ensures.step ▸ c.old_value-value.ensures.step))) s c.args.c.given r.given i.given)
    (stays_in s c.args.pool.now c.old_value-value.new.pool (15 + (17 + (64 + 54))) c.args.c.held.epc (c.interrupt_nets-pending.ensures.step ▸ (c.kind_nets-kind.ensures.step ▸ (c.named-hits.ensures.step ▸ c.old_value-value.ensures.step))) r.held.epc.0 i.held.epc)
    (stays_in s c.interrupt_nets-pending.new.pool c.old_value-value.new.pool (17 + (64 + 54)) c.interrupt_nets-pending.result.any (c.kind_nets-kind.ensures.step ▸ (c.named-hits.ensures.step ▸ c.old_value-value.ensures.step)) c.interrupt_nets-pending.ensures.nets.any.0 pending.any)
    (kind_in_stays c.kind_nets-kind.new.pool c.old_value-value.new.pool (64 + 54) (c.named-hits.ensures.step ▸ c.old_value-value.ensures.step) s c.kind_nets-kind.result c.kind_nets-kind.ensures.nets kind)
    (hits_in_stays c.named-hits.new.pool c.old_value-value.new.pool 54 c.old_value-value.ensures.step s c.named-hits.result c.named-hits.ensures.nets hits) in
    let new = c.new_value-new.ensures.scope s (stays_in s c.args.pool.now c.out_nets-outs.new.pool (15 + (17 + (64 + (54 + 26)))) word (c.interrupt_nets-pending.ensures.step ▸ (c.kind_nets-kind.ensures.step ▸ (c.named-hits.ensures.step ▸ (c.old_value-value.ensures.step ▸ c.out_nets-outs.ensures.step)))) r.given.word.0 i.given.word)
    (stays_in s c.args.pool.now c.out_nets-outs.new.pool (15 + (17 + (64 + (54 + 26)))) c.args.c.given.a (c.interrupt_nets-pending.ensures.step ▸ (c.kind_nets-kind.ensures.step ▸ (c.named-hits.ensures.step ▸ (c.old_value-value.ensures.step ▸ c.out_nets-outs.ensures.step)))) r.given.a.0 i.given.a)
    (stays_in s c.old_value-value.new.pool c.out_nets-outs.new.pool 26 c.old_value-value.result c.out_nets-outs.ensures.step c.old_value-value.ensures.net.0 value) in
    let changes = c.change_nets-changes.ensures.scope s (stays_in s c.out_nets-outs.new.pool c.new_value-new.new.pool 12 c.out_nets-outs.result.done c.new_value-new.ensures.step c.out_nets-outs.ensures.nets.done.0 outs.done)
    (stays_in s c.out_nets-outs.new.pool c.new_value-new.new.pool 12 c.out_nets-outs.result.trap c.new_value-new.ensures.step c.out_nets-outs.ensures.nets.trap.0 outs.trap)
    (stays_in s c.args.pool.now c.new_value-new.new.pool (15 + (17 + (64 + (54 + (26 + 12))))) c.args.c.given.clear (c.interrupt_nets-pending.ensures.step ▸ (c.kind_nets-kind.ensures.step ▸ (c.named-hits.ensures.step ▸ (c.old_value-value.ensures.step ▸ (c.out_nets-outs.ensures.step ▸ c.new_value-new.ensures.step))))) r.given.clear.0 i.given.clear)
    (kind_in_stays c.kind_nets-kind.new.pool c.new_value-new.new.pool (64 + (54 + (26 + 12))) (c.named-hits.ensures.step ▸ (c.old_value-value.ensures.step ▸ (c.out_nets-outs.ensures.step ▸ c.new_value-new.ensures.step))) s c.kind_nets-kind.result c.kind_nets-kind.ensures.nets kind)
    (told_in_stays c.args.pool.now c.new_value-new.new.pool (15 + (17 + (64 + (54 + (26 + 12))))) (c.interrupt_nets-pending.ensures.step ▸ (c.kind_nets-kind.ensures.step ▸ (c.named-hits.ensures.step ▸ (c.old_value-value.ensures.step ▸ (c.out_nets-outs.ensures.step ▸ c.new_value-new.ensures.step))))) s c.args.c.told r.told i.told) in
    let nexts = c.next_nets-nexts.ensures.scope s changes (hits_in_stays c.named-hits.new.pool c.change_nets-changes.new.pool (54 + (26 + (12 + 11))) (c.old_value-value.ensures.step ▸ (c.out_nets-outs.ensures.step ▸ (c.new_value-new.ensures.step ▸ c.change_nets-changes.ensures.step))) s c.named-hits.result c.named-hits.ensures.nets hits)
    (held_in_stays c.args.pool.now c.change_nets-changes.new.pool (15 + (17 + (64 + (54 + (26 + (12 + 11)))))) (c.interrupt_nets-pending.ensures.step ▸ (c.kind_nets-kind.ensures.step ▸ (c.named-hits.ensures.step ▸ (c.old_value-value.ensures.step ▸ (c.out_nets-outs.ensures.step ▸ (c.new_value-new.ensures.step ▸ c.change_nets-changes.ensures.step)))))) s c.args.c.held r.held i.held)
    (told_in_stays c.args.pool.now c.change_nets-changes.new.pool (15 + (17 + (64 + (54 + (26 + (12 + 11)))))) (c.interrupt_nets-pending.ensures.step ▸ (c.kind_nets-kind.ensures.step ▸ (c.named-hits.ensures.step ▸ (c.old_value-value.ensures.step ▸ (c.out_nets-outs.ensures.step ▸ (c.new_value-new.ensures.step ▸ c.change_nets-changes.ensures.step)))))) s c.args.c.told r.told i.told)
    (stays_in s c.new_value-new.new.pool c.change_nets-changes.new.pool 11 c.new_value-new.result c.change_nets-changes.ensures.step c.new_value-new.ensures.net.0 new) in
    record {
      pending = interrupt_in_stays c.interrupt_nets-pending.new.pool c.next_nets-nexts.new.pool (17 + (64 + (54 + (26 + (12 + (11 + 36)))))) (c.kind_nets-kind.ensures.step ▸ (c.named-hits.ensures.step ▸ (c.old_value-value.ensures.step ▸ (c.out_nets-outs.ensures.step ▸ (c.new_value-new.ensures.step ▸ (c.change_nets-changes.ensures.step ▸ c.next_nets-nexts.ensures.step)))))) s c.interrupt_nets-pending.result c.interrupt_nets-pending.ensures.nets pending;
      outs = outs_in_stays c.out_nets-outs.new.pool c.next_nets-nexts.new.pool (12 + (11 + 36)) (c.new_value-new.ensures.step ▸ (c.change_nets-changes.ensures.step ▸ c.next_nets-nexts.ensures.step)) s c.out_nets-outs.result c.out_nets-outs.ensures.nets outs;
      value = stays_in s c.old_value-value.new.pool c.next_nets-nexts.new.pool (26 + (12 + (11 + 36))) c.old_value-value.result (c.out_nets-outs.ensures.step ▸ (c.new_value-new.ensures.step ▸ (c.change_nets-changes.ensures.step ▸ c.next_nets-nexts.ensures.step))) c.old_value-value.ensures.net.0 value;
      nexts = nexts;
    }

-- the numbers of a cycle, in each pool
module _ (c : goal.After-next_nets-nexts) (env : Env) where
  abbrev misa : ℕ
  misa = c.args.misa

  abbrev now : Now
  now = seen_in env c.args.pool.now c.args.c

  seen1 : seen_in env c.interrupt_nets-pending.new.pool c.args.c ≡ now
  seen1 = seen_stays c.args.pool.now c.interrupt_nets-pending.new.pool 15 c.interrupt_nets-pending.ensures.step c.args.c c.requires.cycle env

  seen2 : seen_in env c.kind_nets-kind.new.pool c.args.c ≡ now
  seen2 = seen_stays c.args.pool.now c.kind_nets-kind.new.pool (15 + 17) (c.interrupt_nets-pending.ensures.step ▸ c.kind_nets-kind.ensures.step) c.args.c c.requires.cycle env

  seen3 : seen_in env c.named-hits.new.pool c.args.c ≡ now
  seen3 = seen_stays c.args.pool.now c.named-hits.new.pool (15 + (17 + 64)) (c.interrupt_nets-pending.ensures.step ▸ (c.kind_nets-kind.ensures.step ▸ c.named-hits.ensures.step)) c.args.c c.requires.cycle env

  seen4 : seen_in env c.old_value-value.new.pool c.args.c ≡ now
  seen4 = seen_stays c.args.pool.now c.old_value-value.new.pool (15 + (17 + (64 + 54))) (c.interrupt_nets-pending.ensures.step ▸ (c.kind_nets-kind.ensures.step ▸ (c.named-hits.ensures.step ▸ c.old_value-value.ensures.step))) c.args.c c.requires.cycle env

  seen5 : seen_in env c.out_nets-outs.new.pool c.args.c ≡ now
  seen5 = seen_stays c.args.pool.now c.out_nets-outs.new.pool (15 + (17 + (64 + (54 + 26)))) (c.interrupt_nets-pending.ensures.step ▸ (c.kind_nets-kind.ensures.step ▸ (c.named-hits.ensures.step ▸ (c.old_value-value.ensures.step ▸ c.out_nets-outs.ensures.step)))) c.args.c c.requires.cycle env

  seen6 : seen_in env c.new_value-new.new.pool c.args.c ≡ now
  seen6 = seen_stays c.args.pool.now c.new_value-new.new.pool (15 + (17 + (64 + (54 + (26 + 12))))) (c.interrupt_nets-pending.ensures.step ▸ (c.kind_nets-kind.ensures.step ▸ (c.named-hits.ensures.step ▸ (c.old_value-value.ensures.step ▸ (c.out_nets-outs.ensures.step ▸ c.new_value-new.ensures.step))))) c.args.c c.requires.cycle env

  seen7 : seen_in env c.change_nets-changes.new.pool c.args.c ≡ now
  seen7 = seen_stays c.args.pool.now c.change_nets-changes.new.pool (15 + (17 + (64 + (54 + (26 + (12 + 11)))))) (c.interrupt_nets-pending.ensures.step ▸ (c.kind_nets-kind.ensures.step ▸ (c.named-hits.ensures.step ▸ (c.old_value-value.ensures.step ▸ (c.out_nets-outs.ensures.step ▸ (c.new_value-new.ensures.step ▸ c.change_nets-changes.ensures.step)))))) c.args.c c.requires.cycle env

  kind2 : kind_in env c.kind_nets-kind.new.pool c.kind_nets-kind.result ≡ kind_now misa now
  kind2 =
      let k = c.kind_nets-kind.ensures in
      λ i. record {
        access = (k.access env ∙ (λ j. access_of (seen1 j).given.word)) i;
        returns = (k.returns env ∙ (λ j. return_of (seen1 j).given.word (access_of (seen1 j).given.word))) i;
        waits = (k.waits env ∙ (λ j. wait_of (seen1 j).given.word (access_of (seen1 j).given.word))) i;
        writes = (k.writes env ∙ (λ j. write_of (seen1 j).given.word)) i;
      }

  hits3 : hits_in env c.named-hits.new.pool c.named-hits.result ≡ hits_now misa now
  hits3 =
      let h = c.named-hits.ensures in
      λ i. record {
        status = (h.status env ∙ (λ j. hit_of (seen2 j).given.word 0x60 0)) i;
        isa = (h.isa env ∙ (λ j. hit_of (seen2 j).given.word 0x60 1)) i;
        enables = (h.enables env ∙ (λ j. hit_of (seen2 j).given.word 0x60 4)) i;
        vector = (h.vector env ∙ (λ j. hit_of (seen2 j).given.word 0x60 5)) i;
        scratch = (h.scratch env ∙ (λ j. hit_of (seen2 j).given.word 0x68 0)) i;
        epc = (h.epc env ∙ (λ j. hit_of (seen2 j).given.word 0x68 1)) i;
        cause = (h.cause env ∙ (λ j. hit_of (seen2 j).given.word 0x68 2)) i;
        tval = (h.tval env ∙ (λ j. hit_of (seen2 j).given.word 0x68 3)) i;
        pending = (h.pending env ∙ (λ j. hit_of (seen2 j).given.word 0x68 4)) i;
        identity = (h.identity env ∙ (λ j. identity_of (seen2 j).given.word)) i;
      }

  kind4 : kind_in env c.old_value-value.new.pool c.kind_nets-kind.result ≡ kind_now misa now
  kind4 = kind_kept c.kind_nets-kind.new.pool c.old_value-value.new.pool (64 + 54) (c.named-hits.ensures.step ▸ c.old_value-value.ensures.step) c.kind_nets-kind.result c.kind_nets-kind.ensures.nets env ∙ kind2

  kind6 : kind_in env c.new_value-new.new.pool c.kind_nets-kind.result ≡ kind_now misa now
  kind6 = kind_kept c.kind_nets-kind.new.pool c.new_value-new.new.pool (64 + (54 + (26 + 12))) (c.named-hits.ensures.step ▸ (c.old_value-value.ensures.step ▸ (c.out_nets-outs.ensures.step ▸ c.new_value-new.ensures.step))) c.kind_nets-kind.result c.kind_nets-kind.ensures.nets env ∙ kind2

  hits4 : hits_in env c.old_value-value.new.pool c.named-hits.result ≡ hits_now misa now
  hits4 = hits_kept c.named-hits.new.pool c.old_value-value.new.pool 54 c.old_value-value.ensures.step c.named-hits.result c.named-hits.ensures.nets env ∙ hits3

  hits7 : hits_in env c.change_nets-changes.new.pool c.named-hits.result ≡ hits_now misa now
  hits7 = hits_kept c.named-hits.new.pool c.change_nets-changes.new.pool (54 + (26 + (12 + 11))) (c.old_value-value.ensures.step ▸ (c.out_nets-outs.ensures.step ▸ (c.new_value-new.ensures.step ▸ c.change_nets-changes.ensures.step))) c.named-hits.result c.named-hits.ensures.nets env ∙ hits3

  value4 : value_in env c.old_value-value.new.pool c.old_value-value.result ≡ old_now misa now
  value4 = c.old_value-value.ensures.value env ∙ (λ i. old_by misa (rest_by (hits3 i) (seen3 i).held (seen3 i).lines) (hits3 i) (seen3 i).held)

  any4 : value_in env c.old_value-value.new.pool c.interrupt_nets-pending.result.any ≡ any_now misa now
  any4 = kept env c.interrupt_nets-pending.new.pool c.old_value-value.new.pool (17 + (64 + 54)) c.interrupt_nets-pending.result.any (c.kind_nets-kind.ensures.step ▸ (c.named-hits.ensures.step ▸ c.old_value-value.ensures.step)) c.interrupt_nets-pending.ensures.nets.any.0 ∙ c.interrupt_nets-pending.ensures.any env

  done5 : value_in env c.out_nets-outs.new.pool c.out_nets-outs.result.done ≡ done_now misa now
  done5 = c.out_nets-outs.ensures.done env ∙ (λ i. done_by (seen4 i).given.go (kind4 i).waits (any4 i))

  trap5 : value_in env c.out_nets-outs.new.pool c.out_nets-outs.result.trap ≡ trap_now misa now
  trap5 = c.out_nets-outs.ensures.trap env ∙ (λ i. trap_by (seen4 i).given.word (kind4 i).access (kind4 i).writes (known_by (hits4 i)))

  value5 : value_in env c.out_nets-outs.new.pool c.old_value-value.result ≡ old_now misa now
  value5 = kept env c.old_value-value.new.pool c.out_nets-outs.new.pool 26 c.old_value-value.result c.out_nets-outs.ensures.step c.old_value-value.ensures.net.0 ∙ value4

  new6 : value_in env c.new_value-new.new.pool c.new_value-new.result ≡ new_now misa now
  new6 = c.new_value-new.ensures.value env ∙ (λ i. changed_by (seen5 i).given.word (operand_by (seen5 i).given.word (seen5 i).given.a) (value5 i))

  done6 : value_in env c.new_value-new.new.pool c.out_nets-outs.result.done ≡ done_now misa now
  done6 = kept env c.out_nets-outs.new.pool c.new_value-new.new.pool 12 c.out_nets-outs.result.done c.new_value-new.ensures.step c.out_nets-outs.ensures.nets.done.0 ∙ done5

  trap6 : value_in env c.new_value-new.new.pool c.out_nets-outs.result.trap ≡ trap_now misa now
  trap6 = kept env c.out_nets-outs.new.pool c.new_value-new.new.pool 12 c.out_nets-outs.result.trap c.new_value-new.ensures.step c.out_nets-outs.ensures.nets.trap.0 ∙ trap5

  changes7 : changes_in env c.change_nets-changes.new.pool c.change_nets-changes.result ≡ changes_now misa now
  changes7 =
      let x = c.change_nets-changes.ensures in
      λ i. record {
        enters = (x.enters env ∙ (λ j. enters_by (seen6 j).told.event (seen6 j).told.kind)) i;
        leaves = (x.leaves env ∙ (λ j. bit_and (own_by (done6 j) (trap6 j) (seen6 j).given.clear) (kind6 j).returns)) i;
        writes = (x.writes env ∙ (λ j. bit_and (own_by (done6 j) (trap6 j) (seen6 j).given.clear) (bit_and (kind6 j).access (kind6 j).writes))) i;
      }

  new7 : value_in env c.change_nets-changes.new.pool c.new_value-new.result ≡ new_now misa now
  new7 = kept env c.new_value-new.new.pool c.change_nets-changes.new.pool 11 c.new_value-new.result c.change_nets-changes.ensures.step c.new_value-new.ensures.net.0 ∙ new6

pub returns-clause-shows : goal.returns-clause-shows
returns-clause-shows c = λ env. record {
  take = kept env c.interrupt_nets-pending.new.pool c.next_nets-nexts.new.pool (17 + (64 + (54 + (26 + (12 + (11 + 36)))))) c.interrupt_nets-pending.result.take (c.kind_nets-kind.ensures.step ▸ (c.named-hits.ensures.step ▸ (c.old_value-value.ensures.step ▸ (c.out_nets-outs.ensures.step ▸ (c.new_value-new.ensures.step ▸ (c.change_nets-changes.ensures.step ▸ c.next_nets-nexts.ensures.step)))))) c.interrupt_nets-pending.ensures.nets.take.0 ∙ c.interrupt_nets-pending.ensures.take env;
  irq_cause = kept env c.interrupt_nets-pending.new.pool c.next_nets-nexts.new.pool (17 + (64 + (54 + (26 + (12 + (11 + 36)))))) c.interrupt_nets-pending.result.cause (c.kind_nets-kind.ensures.step ▸ (c.named-hits.ensures.step ▸ (c.old_value-value.ensures.step ▸ (c.out_nets-outs.ensures.step ▸ (c.new_value-new.ensures.step ▸ (c.change_nets-changes.ensures.step ▸ c.next_nets-nexts.ensures.step)))))) c.interrupt_nets-pending.ensures.nets.cause.0 ∙ c.interrupt_nets-pending.ensures.cause env;
  base = kept env c.interrupt_nets-pending.new.pool c.next_nets-nexts.new.pool (17 + (64 + (54 + (26 + (12 + (11 + 36)))))) c.interrupt_nets-pending.result.base (c.kind_nets-kind.ensures.step ▸ (c.named-hits.ensures.step ▸ (c.old_value-value.ensures.step ▸ (c.out_nets-outs.ensures.step ▸ (c.new_value-new.ensures.step ▸ (c.change_nets-changes.ensures.step ▸ c.next_nets-nexts.ensures.step)))))) c.interrupt_nets-pending.ensures.nets.base.0 ∙ c.interrupt_nets-pending.ensures.base env;
  done = kept env c.out_nets-outs.new.pool c.next_nets-nexts.new.pool (12 + (11 + 36)) c.out_nets-outs.result.done (c.new_value-new.ensures.step ▸ (c.change_nets-changes.ensures.step ▸ c.next_nets-nexts.ensures.step)) c.out_nets-outs.ensures.nets.done.0 ∙ done5 c env;
  value = kept env c.old_value-value.new.pool c.next_nets-nexts.new.pool (26 + (12 + (11 + 36))) c.old_value-value.result (c.out_nets-outs.ensures.step ▸ (c.new_value-new.ensures.step ▸ (c.change_nets-changes.ensures.step ▸ c.next_nets-nexts.ensures.step))) c.old_value-value.ensures.net.0 ∙ value4 c env;
  next_pc = kept env c.out_nets-outs.new.pool c.next_nets-nexts.new.pool (12 + (11 + 36)) c.out_nets-outs.result.next_pc (c.new_value-new.ensures.step ▸ (c.change_nets-changes.ensures.step ▸ c.next_nets-nexts.ensures.step)) c.out_nets-outs.ensures.nets.next_pc.0 ∙ (c.out_nets-outs.ensures.next_pc env ∙ (λ i. next_pc_by (kind4 c env i).returns (seen4 c env i).held.epc (seen4 c env i).given.pc));
  trap = kept env c.out_nets-outs.new.pool c.next_nets-nexts.new.pool (12 + (11 + 36)) c.out_nets-outs.result.trap (c.new_value-new.ensures.step ▸ (c.change_nets-changes.ensures.step ▸ c.next_nets-nexts.ensures.step)) c.out_nets-outs.ensures.nets.trap.0 ∙ trap5 c env;
  cause = kept env c.out_nets-outs.new.pool c.next_nets-nexts.new.pool (12 + (11 + 36)) c.out_nets-outs.result.cause (c.new_value-new.ensures.step ▸ (c.change_nets-changes.ensures.step ▸ c.next_nets-nexts.ensures.step)) c.out_nets-outs.ensures.nets.cause.0 ∙ c.out_nets-outs.ensures.cause env;
  fence = kept env c.out_nets-outs.new.pool c.next_nets-nexts.new.pool (12 + (11 + 36)) c.out_nets-outs.result.fence (c.new_value-new.ensures.step ▸ (c.change_nets-changes.ensures.step ▸ c.next_nets-nexts.ensures.step)) c.out_nets-outs.ensures.nets.fence.0 ∙ c.out_nets-outs.ensures.fence env;
  on_next = c.next_nets-nexts.ensures.on env ∙ (λ i. on_by (changes7 c env i) (hits7 c env i) (seen7 c env i).held (seen7 c env i).told (new7 c env i));
  was_next = c.next_nets-nexts.ensures.was env ∙ (λ i. was_by (changes7 c env i) (hits7 c env i) (seen7 c env i).held (seen7 c env i).told (new7 c env i));
  soft_next = c.next_nets-nexts.ensures.soft env ∙ (λ i. soft_by (changes7 c env i) (hits7 c env i) (seen7 c env i).held (seen7 c env i).told (new7 c env i));
  timer_next = c.next_nets-nexts.ensures.timer env ∙ (λ i. timer_by (changes7 c env i) (hits7 c env i) (seen7 c env i).held (seen7 c env i).told (new7 c env i));
  outer_next = c.next_nets-nexts.ensures.outer env ∙ (λ i. outer_by (changes7 c env i) (hits7 c env i) (seen7 c env i).held (seen7 c env i).told (new7 c env i));
  tvec_next = c.next_nets-nexts.ensures.tvec env ∙ (λ i. tvec_by (changes7 c env i) (hits7 c env i) (seen7 c env i).held (seen7 c env i).told (new7 c env i));
  epc_next = c.next_nets-nexts.ensures.epc env ∙ (λ i. epc_by (changes7 c env i) (hits7 c env i) (seen7 c env i).held (seen7 c env i).told (new7 c env i));
  scratch_next = c.next_nets-nexts.ensures.scratch env ∙ (λ i. scratch_by (changes7 c env i) (hits7 c env i) (seen7 c env i).held (seen7 c env i).told (new7 c env i));
  cause_next = c.next_nets-nexts.ensures.cause env ∙ (λ i. cause_by (changes7 c env i) (hits7 c env i) (seen7 c env i).held (seen7 c env i).told (new7 c env i));
  tval_next = c.next_nets-nexts.ensures.tval env ∙ (λ i. tval_by (changes7 c env i) (hits7 c env i) (seen7 c env i).held (seen7 c env i).told (new7 c env i));
}
