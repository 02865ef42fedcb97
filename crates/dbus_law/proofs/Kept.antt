-- The unit keeps its law in each cycle.
use Rattle.std.proofs.Common.{◌≡◌, ℕ, zero, suc, ◌+◌, ◌*◌, ◌/◌, ◌<◌, ◌≤◌, ◌%◌, ◌^◌, Bool, true, false, cond, not, eqb, [], ◌∷◌, ◌&&◌, ◌||◌, ◌⊎◌, inl, inr, Some, None, refl, ap, ◌∙◌, sym, subst, arith}
use Rattle.std.specs.Prelude.{option_to_list, is_some}
use Rattle.std.proofs.Math.Nat.{le_refl}
use Rattle.std.proofs.lemmas.Bool.{cond-true, cond-false}
use Rattle.core_words.specs.Values.{one_if, add_of}
use Rattle.core_words.specs.Fields.{imm_i, imm_s}
use Rattle.core_ports.specs.Trace.{Bus}
use Rattle.bus_law.specs.Memory.{Memory, IsMemory, Store, aligned_of, is_window, store_of, word_at}
use Rattle.bus_law.specs.Protocol.{is_given, is_accepted, is_write, owed}
use Rattle.bus_law.specs.Honest.{DataReply, Responds, data_reply}
use Rattle.bus_law.specs.Duties.{breaks_form, breaks_standing, breaks_waiting, is_mask, is_repeated}
use Rattle.bus_law.specs.Prompt.{store_at}
use Rattle.isa_csr.specs.Csrs.{Csrs}
use Rattle.isa_model.specs.Machine.{Set}
use Rattle.isa_model.specs.Effects.{Moment, Effect, access_if, access_of, effect_of, is_multiple, rests, store_made, write_of}
use Rattle.isa_model.specs.Effects.Access.{ReadsAt, WritesOut}
use Rattle.plug_law.specs.Exec.{ExecSignals, ExecAssumed, ExecKept, ExecLaw, IsOf, IsTimely, Shows, access_at, begun, busy, effect_at, made, made_by, read, worked}
use Rattle.plug_law.specs.Pipeline.{member}
use Rattle.plug_law.specs.Table.{table_of}
use Rattle.dbus_law.specs.Words.{address_by, address_of, at_once, bit, cause_by, is_fence, is_store, kind_of, lanes_by, mask_by, mask_of, misaligned_at, misaligned_by, spread_by, spread_of, value_of}
use Rattle.dbus_law.specs.Machine.{Registers, IsDbus, answered, needs_none, ready, starts}
use Rattle.dbus_law.specs.Law.{dbus_rows, dbus_terms, reads_of, ReadsOnce}
use Rattle.dbus_law.proofs.Tests.{and_no_l, back, both, eqb_refl, or_l, or_r, same}
use Rattle.dbus_law.proofs.Numbers.{Fair, aligned_whole, lane_by, lane_is, lanes_are, multiple_is, same_block, size_of, store_is, window_aligned, word_aligned}
use Rattle.dbus_law.proofs.Results.{IsOfRow, act_by, effect_by, kind_by, met, of_rows, shows_now, shows_reply, write_is}
use Rattle.dbus_law.proofs.Phases.{Asking, Command, Phase, Resting, Waiting, a_same, accepted_is, b_same, begun_calm, given_is, goes, made_calm, moved, needs_same, no_start, phase_at, read_by, read_calm, word_same, wrote_by}
use Rattle.dbus_law.proofs.Phases.Phase.{Asks, Rests, Waits}
use Rattle.dbus_law.proofs.Phases as phases

-- ---- of one cycle, over the tests of a word
pub record Out : Type 0 where
  pub value : ℕ
  pub next : ℕ
  pub cause : ℕ
  pub tval : ℕ
  pub trap : Bool

abbrev ShowsOut : Effect → Out → Type 0
ShowsOut x o = Shows x o.value o.next o.cause o.tval o.trap

of_load : (b : Bus) (k addr size : ℕ) (signed g : Bool) → g ≡ true → eqb (b.cmd_write k) 1 ≡ false → b.cmd_addr k ≡ aligned_of addr → IsOf (access_if g (ReadsAt addr size)) b k
of_load b k addr size signed true h w a = (w, ap (λ v. v / 64) a ∙ same_block addr)
of_load b k addr size signed false h w a = absurd (grind arith)

of_store : (b : Bus) (k : ℕ) (s : Store) (g : Bool) → g ≡ true → eqb (b.cmd_write k) 1 ≡ true → store_at b k ≡ s → IsOf (access_if g (WritesOut s)) b k
of_store b k s true h w a = (w, a)
of_store b k s false h w a = absurd (grind arith)

turn : (g x : Bool) → g ≡ not x → x ≡ false → g ≡ true
turn g true h k = absurd (grind arith)
turn g false h k = h

reads_load : (addr size : ℕ) (g x : Bool) → g ≡ not x → cond x [] (aligned_of addr ∷ []) ≡ reads_of (access_if g (ReadsAt addr size))
reads_load addr size true true h = absurd (grind arith)
reads_load addr size false true h = refl
reads_load addr size true false h = refl
reads_load addr size false false h = absurd (grind arith)

reads_store : (s : Store) (g x : Bool) → cond x [] [] ≡ reads_of (access_if g (WritesOut s))
reads_store s true true = refl
reads_store s true false = refl
reads_store s false true = refl
reads_store s false false = refl

module _ (word a b : ℕ) where
  abbrev Mis : (fence store half whole unsigned high low : Bool) → Bool
  Mis fence store half whole unsigned high low = misaligned_by (kind_by fence store half whole unsigned) high low

  abbrev Addr : (fence store half whole unsigned : Bool) → ℕ
  Addr fence store half whole unsigned = address_by (kind_by fence store half whole unsigned) word a

  -- a command is of the access
  of_by : (d : Bus) (k : ℕ) (fence store half whole unsigned high low : Bool) → Addr fence store half whole unsigned % 4 ≡ lane_by high low → Fair half whole
      → (fence || Mis fence store half whole unsigned high low) ≡ false
      → eqb (d.cmd_write k) 1 ≡ store → d.cmd_addr k ≡ aligned_of (Addr fence store half whole unsigned) → d.cmd_data k ≡ spread_by (kind_by fence store half whole unsigned) b
      → d.cmd_mask k ≡ mask_by (kind_by fence store half whole unsigned) high low
      → IsOf (access_of (act_by fence store half whole unsigned word a b)) d k
  of_by d k true store half whole unsigned high low l f n w ad da ma = absurd (grind arith)
  of_by d k false true half whole unsigned high low l f n w ad da ma =
      let v : ℕ = add_of 32 a (imm_s word) in
      of_store d k _ (is_multiple v (size_of half whole)) (turn _ _ (multiple_is false true half whole unsigned v high low l f) n) w
      ((λ i. store_of (ad i) (da i) (ma i)) ∙ store_is false half whole unsigned v b high low l f n)
  of_by d k false false half whole unsigned high low l f n w ad da ma =
      let v : ℕ = add_of 32 a (imm_i word) in
      of_load d k v (size_of half whole) unsigned (is_multiple v (size_of half whole)) (turn _ _ (multiple_is false false half whole unsigned v high low l f) n) w ad

  -- what was written is the write of the row
  wrote_is : (fence store half whole unsigned high low : Bool) → Addr fence store half whole unsigned % 4 ≡ lane_by high low → Fair half whole
      → (fence || Mis fence store half whole unsigned high low) ≡ false
      → cond store (store_of (aligned_of (Addr fence store half whole unsigned)) (spread_by (kind_by fence store half whole unsigned) b) (mask_by (kind_by fence store half whole unsigned) high low) ∷ []) []
      ≡ option_to_list (cond (fence || Mis fence store half whole unsigned high low) None (cond store (Some (store_made (add_of 32 a (imm_s word)) (size_of half whole) (b % 2 ^ (8 * size_of half whole)))) None))
  wrote_is fence true half whole unsigned high low l f n =
      (λ i. store_is fence half whole unsigned (add_of 32 a (imm_s word)) b high low l f (or_r fence (Mis fence true half whole unsigned high low) n) i ∷ [])
      ∙ sym (λ i. option_to_list (cond (n i) None (Some (store_made (add_of 32 a (imm_s word)) (size_of half whole) (b % 2 ^ (8 * size_of half whole))))))
  wrote_is fence false half whole unsigned high low l f n = sym (λ i. option_to_list (cond (n i) None None))

  -- what was read is that of the access
  reads_is : (fence store half whole unsigned high low : Bool) → Addr fence store half whole unsigned % 4 ≡ lane_by high low → Fair half whole
      → cond (fence || Mis fence store half whole unsigned high low) [] (cond store [] (aligned_of (Addr fence store half whole unsigned) ∷ [])) ≡ reads_of (access_of (act_by fence store half whole unsigned word a b))
  reads_is true store half whole unsigned high low l f = refl
  reads_is false true half whole unsigned high low l f = reads_store _ (is_multiple (add_of 32 a (imm_s word)) (size_of half whole)) (Mis false true half whole unsigned high low)
  reads_is false false half whole unsigned high low l f = reads_load (add_of 32 a (imm_i word)) (size_of half whole) _ _ (multiple_is false false half whole unsigned (add_of 32 a (imm_i word)) high low l f)

-- any go: cycles worked and where it began
worked_most : (idle : ℕ → Bool) (e : ExecSignals) (t : ℕ) → worked idle e t + begun e t ≤ suc t
unfolding worked begun
worked_most idle e zero = omega arith
worked_most idle e (suc t) = by (busy e (suc t)) (idle (suc t)) (worked_most idle e t)
  where
    by : (b i : Bool) → worked idle e t + begun e t ≤ suc t → (cond i 0 1 + cond b (worked idle e t) 0) + cond b (begun e t) (suc t) ≤ suc (suc t)
    by true true h = omega arith
    by true false h = omega arith
    by false true h = omega arith
    by false false h = omega arith

module _ (set : Set) (claims : ℕ → Bool) (claimed_rows : (row : ℕ) → claims row ≡ true → member row dbus_rows ≡ true)
    (e : ExecSignals) (db : Bus) (mem : ℕ → Memory) (csrs : ℕ → Csrs) (moments : ℕ → Moment) (r : Registers) (is : IsDbus e db r) where
  abbrev P : ℕ → Type 0
  P s = Phase set claims e db mem r is s

  abbrev Assume : ℕ → Type 0
  Assume s = ExecAssumed (dbus_terms set claims) e db mem s

  abbrev effect : ℕ → Effect
  effect k = effect_at (table_of set) e mem csrs moments k

  -- the row at a go
  row_at : (s : ℕ) → Assume s → e.go (suc s) ≡ true → IsOfRow (e.row (suc s)) (e.word (suc s))
  row_at s asked go = let c = asked.claimed go in of_rows (e.word (suc s)) (e.row (suc s)) (claimed_rows (e.row (suc s)) c.0) (met set (e.word (suc s)) (e.row (suc s)) c.1)

  abbrev out_of : (k value : ℕ) (error : Bool) → Out
  out_of k value error = record {
    value = value;
    next = add_of 32 (e.pc k) 4;
    cause = cause_by (is_store (e.word k)) (misaligned_at (e.word k) (e.a k));
    tval = address_of (e.word k) (e.a k);
    trap = not (is_fence (e.word k)) && (misaligned_at (e.word k) (e.a k) || error);
  }

  module _ (k : ℕ) (of : IsOfRow (e.row k) (e.word k)) where
    effect_is : effect k ≡ effect_by (e.pc k) (e.word k) (e.a k) (e.b k) (mem (begun e k)) (csrs k) (moments k) (bit (e.word k) 2) (bit (e.word k) 5) (bit (e.word k) 12) (bit (e.word k) 13) (bit (e.word k) 14)
    unfolding table_of
    effect_is = ap (effect_of (e.pc k) (e.word k) (mem (begun e k)) (csrs k) (moments k)) (of.act (e.pc k) (e.a k) (e.b k))

    access_is : access_at (table_of set) e k ≡ access_of (act_by (bit (e.word k) 2) (bit (e.word k) 5) (bit (e.word k) 12) (bit (e.word k) 13) (bit (e.word k) 14) (e.word k) (e.a k) (e.b k))
    unfolding table_of
    access_is = ap access_of (of.act (e.pc k) (e.a k) (e.b k))

    lane : address_of (e.word k) (e.a k) % 4 ≡ lane_by (bit (address_of (e.word k) (e.a k)) 1) (bit (address_of (e.word k) (e.a k)) 0)
    lane = lane_is (address_of (e.word k) (e.a k))

    high : Bool
    high = bit (address_of (e.word k) (e.a k)) 1

    low : Bool
    low = bit (address_of (e.word k) (e.a k)) 0

    at_now : (value : ℕ) (error : Bool) → at_once (e.word k) (e.a k) ≡ true → ShowsOut (effect k) (out_of k value error)
    unfolding kind_of address_of misaligned_at is_fence is_store high low
    at_now value error h =
        subst (λ x. ShowsOut x (out_of k value error)) (sym effect_is)
        (shows_now (e.pc k) (e.word k) (e.a k) (e.b k) (mem (begun e k)) (csrs k) (moments k) (bit (e.word k) 2) (bit (e.word k) 5) (bit (e.word k) 12) (bit (e.word k) 13) (bit (e.word k) 14) high low value error lane of.fair of.calm h)

    at_reply : (error payload : ℕ) → IsMemory (mem (begun e k)) → at_once (e.word k) (e.a k) ≡ false
        → DataReply (word_at (mem (begun e k)) (address_of (e.word k) (e.a k))) (is_window (address_of (e.word k) (e.a k))) (is_store (e.word k)) error payload
        → ShowsOut (effect k) (out_of k (value_of (e.word k) (e.a k) payload) (eqb error 1))
    unfolding kind_of address_of misaligned_at is_fence is_store value_of high low
    at_reply error payload fits h reply =
        subst (λ x. ShowsOut x (out_of k (value_of (e.word k) (e.a k) payload) (eqb error 1))) (sym effect_is)
        (by (bit (e.word k) 2) (or_l (bit (e.word k) 2) _ h) (or_r (bit (e.word k) 2) _ h))
      where
        by : (f : Bool) → f ≡ false → misaligned_by (kind_of (e.word k)) high low ≡ false
            → Shows (effect_by (e.pc k) (e.word k) (e.a k) (e.b k) (mem (begun e k)) (csrs k) (moments k) f (bit (e.word k) 5) (bit (e.word k) 12) (bit (e.word k) 13) (bit (e.word k) 14))
            (value_of (e.word k) (e.a k) payload) (add_of 32 (e.pc k) 4) (cause_by (is_store (e.word k)) (misaligned_at (e.word k) (e.a k))) (address_of (e.word k) (e.a k))
            (not f && (misaligned_at (e.word k) (e.a k) || eqb error 1))
        by true z m = absurd (grind arith)
        by false z m = shows_reply (e.pc k) (e.word k) (e.a k) (e.b k) (mem (begun e k)) (csrs k) (moments k) (bit (e.word k) 5) (bit (e.word k) 12) (bit (e.word k) 13) (bit (e.word k) 14) high low error payload fits lane of.fair m reply

    write_at : write_of (effect k) ≡ cond (at_once (e.word k) (e.a k)) None (cond (is_store (e.word k)) (Some (store_made (add_of 32 (e.a k) (imm_s (e.word k))) (size_of (bit (e.word k) 12) (bit (e.word k) 13)) (e.b k % 2 ^ (8 * size_of (bit (e.word k) 12) (bit (e.word k) 13))))) None)
    unfolding kind_of address_of misaligned_at is_fence is_store high low
    write_at = ap write_of effect_is
        ∙ write_is (e.pc k) (e.word k) (e.a k) (e.b k) (mem (begun e k)) (csrs k) (moments k) (bit (e.word k) 2) (bit (e.word k) 5) (bit (e.word k) 12) (bit (e.word k) 13) (bit (e.word k) 14) high low lane of.fair

    no_write : at_once (e.word k) (e.a k) ≡ true → [] ≡ option_to_list (write_of (effect k))
    no_write h = sym (ap option_to_list (write_at ∙ cond-true (at_once (e.word k) (e.a k)) None _ h))

    own_write : at_once (e.word k) (e.a k) ≡ false → wrote_by set claims e db mem r is (e.word k) (e.a k) (e.b k) ≡ option_to_list (write_of (effect k))
    unfolding kind_of address_of misaligned_at is_fence is_store mask_of spread_of high low
    own_write h =
        wrote_is (e.word k) (e.a k) (e.b k) (bit (e.word k) 2) (bit (e.word k) 5) (bit (e.word k) 12) (bit (e.word k) 13) (bit (e.word k) 14) high low lane of.fair h
        ∙ sym (ap option_to_list write_at)

    own_reads : cond (at_once (e.word k) (e.a k)) [] (read_by set claims e db mem r is (e.word k) (e.a k)) ≡ reads_of (access_at (table_of set) e k)
    unfolding kind_of address_of misaligned_at is_fence is_store high low
    own_reads =
        reads_is (e.word k) (e.a k) (e.b k) (bit (e.word k) 2) (bit (e.word k) 5) (bit (e.word k) 12) (bit (e.word k) 13) (bit (e.word k) 14) high low lane of.fair
        ∙ sym (ap reads_of access_is)

    own_access : at_once (e.word k) (e.a k) ≡ false → eqb (db.cmd_write k) 1 ≡ is_store (e.word k) → db.cmd_addr k ≡ aligned_of (address_of (e.word k) (e.a k)) → db.cmd_data k ≡ spread_of (e.word k) (e.b k)
        → db.cmd_mask k ≡ mask_of (e.word k) (e.a k) → IsOf (access_at (table_of set) e k) db k
    unfolding kind_of address_of misaligned_at is_fence is_store mask_of spread_of high low
    own_access h w ad da ma =
        subst (λ x. IsOf x db k) (sym access_is)
        (of_by (e.word k) (e.a k) (e.b k) db k (bit (e.word k) 2) (bit (e.word k) 5) (bit (e.word k) 12) (bit (e.word k) 13) (bit (e.word k) 14) high low lane of.fair h w ad da ma)

  -- ---- one cycle
  module _ (s : ℕ) (asked : Assume s) where
    done_is : (n o : Bool) → needs_none e db r (suc s) ≡ n → r.owed (suc s) ≡ o → e.done (suc s) ≡ (e.go (suc s) && (n || (o && answered e db r (suc s))))
    done_is n o h k = is.done s ∙ (λ i. e.go (suc s) && (h i || (k i && answered e db r (suc s))))

    abbrev out : Out
    out = record { value = e.value (suc s); next = e.next_pc (suc s); cause = e.cause (suc s); tval = e.tval (suc s); trap = e.trap (suc s) }

    out_is : out_of (suc s) (value_of (e.word (suc s)) (e.a (suc s)) (db.rsp_data (suc s))) (eqb (db.rsp_error (suc s)) 1) ≡ out
    out_is = λ i. record { value = sym (is.value s) i; next = sym (is.next_pc s) i; cause = sym (is.cause s) i; tval = sym (is.tval s) i; trap = sym (is.trap s) i }

    address_moved : (c : ℕ) (h : Waiting set claims e db mem r is s c) → aligned_of (address_of (e.word s) (e.a s)) ≡ aligned_of (address_of (e.word (suc s)) (e.a (suc s)))
    address_moved c h = sym (λ i. aligned_of (address_of (word_same set claims e db mem r is s asked h.works i) (a_same set claims e db mem r is s asked h.works i)))

    -- the response is that of the memory as the go began
    reply : (c : ℕ) (h : Waiting set claims e db mem r is s c) → answered e db r (suc s) ≡ true
        → DataReply (word_at (mem (begun e (suc s))) (address_of (e.word (suc s)) (e.a (suc s)))) (is_window (address_of (e.word (suc s)) (e.a (suc s)))) (is_store (e.word (suc s))) (db.rsp_error (suc s)) (db.rsp_data (suc s))
    reply c h v =
        let there : Responds data_reply db mem (suc s) (Some c) = subst (Responds data_reply db mem (suc s)) h.owes asked.honest.responds in
        let got : DataReply (word_at (mem c) (db.cmd_addr c)) (is_window (db.cmd_addr c)) (eqb (db.cmd_write c) 1) (db.rsp_error (suc s)) (db.rsp_data (suc s)) = there.1 (same (db.rsp_valid (suc s)) 1 v) in
        let at : db.cmd_addr c ≡ aligned_of (address_of (e.word (suc s)) (e.a (suc s))) = h.address ∙ address_moved c h in
        let word : word_at (mem c) (db.cmd_addr c) ≡ word_at (mem (begun e (suc s))) (address_of (e.word (suc s)) (e.a (suc s))) =
        (λ i. word_at (h.memory i) (at i)) ∙ word_aligned (mem (begun e (suc s))) (address_of (e.word (suc s)) (e.a (suc s))) in
        let window : is_window (db.cmd_addr c) ≡ is_window (address_of (e.word (suc s)) (e.a (suc s))) = ap is_window at ∙ window_aligned (address_of (e.word (suc s)) (e.a (suc s))) in
        let write : eqb (db.cmd_write c) 1 ≡ is_store (e.word (suc s)) = h.write ∙ sym (ap is_store (word_same set claims e db mem r is s asked h.works)) in
        subst (λ x. DataReply x (is_window (address_of (e.word (suc s)) (e.a (suc s)))) (is_store (e.word (suc s))) (db.rsp_error (suc s)) (db.rsp_data (suc s))) word
        (subst (λ x. DataReply (word_at (mem c) (db.cmd_addr c)) x (is_store (e.word (suc s))) (db.rsp_error (suc s)) (db.rsp_data (suc s))) window
        (subst (λ x. DataReply (word_at (mem c) (db.cmd_addr c)) (is_window (db.cmd_addr c)) x (db.rsp_error (suc s)) (db.rsp_data (suc s))) write got))

    not_done : needs_none e db r (suc s) ≡ false → r.owed (suc s) ≡ false → e.go (suc s) ≡ true → e.done (suc s) ≡ false
    not_done n o g = done_is false false n o ∙ (λ i. g i && (false || (false && answered e db r (suc s))))

    waits_done : (c : ℕ) → Waiting set claims e db mem r is s c → e.go (suc s) ≡ true → e.done (suc s) ≡ answered e db r (suc s)
    waits_done c h g = done_is false true (needs_same set claims e db mem r is s asked h.works h.needs) h.owed_yes ∙ (λ i. g i && (false || (true && answered e db r (suc s))))

    fits_there : (c : ℕ) → Waiting set claims e db mem r is s c → IsMemory (mem (begun e (suc s)))
    fits_there c h = subst IsMemory h.memory h.fits

    shows : e.go (suc s) ≡ true → e.done (suc s) ≡ true → P s
        → ShowsOut (effect (suc s)) (out_of (suc s) (value_of (e.word (suc s)) (e.a (suc s)) (db.rsp_data (suc s))) (eqb (db.rsp_error (suc s)) 1))
    shows g d p = by (needs_none e db r (suc s)) refl p
      where
        row : IsOfRow (e.row (suc s)) (e.word (suc s))
        row = row_at s asked g

        by : (n : Bool) → needs_none e db r (suc s) ≡ n → P s → ShowsOut (effect (suc s)) (out_of (suc s) (value_of (e.word (suc s)) (e.a (suc s)) (db.rsp_data (suc s))) (eqb (db.rsp_error (suc s)) 1))
        by true n p = at_now (suc s) row (value_of (e.word (suc s)) (e.a (suc s)) (db.rsp_data (suc s))) (eqb (db.rsp_error (suc s)) 1) n
        by false n (Rests h) = both (e.done (suc s)) d (not_done n h.owed_no g)
        by false n (Asks h) = both (e.done (suc s)) d (not_done n h.owed_no g)
        by false n (Waits c h) = at_reply (suc s) row (db.rsp_error (suc s)) (db.rsp_data (suc s)) (fits_there c h) n (reply c h (sym (waits_done c h g) ∙ d))

    not_given : r.given (suc s) ≡ false → is_given db (suc s) ≡ false
    not_given h = given_is set claims e db mem r is s ∙ h

    not_accepted : r.given (suc s) ≡ false → is_accepted db (suc s) ≡ false
    not_accepted h = accepted_is set claims e db mem r is s ∙ (λ i. h i && ready e db r (suc s))

    idle : P s → busy e (suc s) ≡ false → (is_given db (suc s) ≡ false) × (owed db (suc s) ≡ None)
    idle (Rests h) b = (not_given h.given, h.none)
    idle (Asks h) b = both (busy e (suc s)) h.works b
    idle (Waits c h) b = both (busy e (suc s)) h.works b

    command : (h : Asking set claims e db mem r is s) → Command set claims e db mem r is s (e.word (suc s)) (e.a (suc s)) (e.b (suc s))
    command h = moved set claims e db mem r is s asked h.works h.command

    asks : P s → is_given db (suc s) ≡ true → IsOf (access_at (table_of set) e (suc s)) db (suc s)
    asks (Rests h) g = both (is_given db (suc s)) g (not_given h.given)
    asks (Waits c h) g = both (is_given db (suc s)) g (not_given h.given)
    asks (Asks h) g =
        let c = command h in
        own_access (suc s) (row_at s asked (goes set claims e db mem r is s asked h.works)) (needs_same set claims e db mem r is s asked h.works h.needs)
        (ap (λ n. eqb n 1) (is.cmd_write s) ∙ back (r.writes (suc s)) ∙ c.writes) (is.cmd_addr s ∙ c.address) (is.cmd_data s ∙ c.payload) (is.cmd_mask s ∙ c.mask)

    all_made : (c : ℕ) (h : Waiting set claims e db mem r is s c) → made e db (suc s) ≡ wrote_by set claims e db mem r is (e.word (suc s)) (e.a (suc s)) (e.b (suc s))
    all_made c h = h.all_made ∙ sym (λ i. wrote_by set claims e db mem r is (word_same set claims e db mem r is s asked h.works i) (a_same set claims e db mem r is s asked h.works i) (b_same set claims e db mem r is s asked h.works i))

    made_by_is : r.given (suc s) ≡ false → made_by e db (suc s) ≡ made e db (suc s)
    made_by_is h = cond-false (is_write db (suc s)) (store_at db (suc s) ∷ made e db (suc s)) (made e db (suc s)) (phases.write_is set claims e db mem r is s ∙ (λ i. (h i && ready e db r (suc s)) && r.writes (suc s)))

    writes : P s → e.go (suc s) ≡ true → (made_by e db (suc s) ≡ []) ⊎ (made_by e db (suc s) ≡ option_to_list (write_of (effect (suc s))))
    writes (Rests h) g = inl (made_by_is h.given ∙ made_calm set claims e db mem r is s h.calm)
    writes (Asks h) g = by (ready e db r (suc s)) refl
      where
        c : Command set claims e db mem r is s (e.word (suc s)) (e.a (suc s)) (e.b (suc s))
        c = command h

        by : (y : Bool) → ready e db r (suc s) ≡ y → (made_by e db (suc s) ≡ []) ⊎ (made_by e db (suc s) ≡ option_to_list (write_of (effect (suc s))))
        by false y = inl (cond-false (is_write db (suc s)) (store_at db (suc s) ∷ made e db (suc s)) (made e db (suc s)) (phases.write_is set claims e db mem r is s ∙ (λ i. (h.given i && y i) && r.writes (suc s))) ∙ h.none_made)
        by true y = inr (
            (λ i. cond ((phases.write_is set claims e db mem r is s ∙ (λ j. (h.given j && y j) && c.writes j)) i)
            (store_of ((is.cmd_addr s ∙ c.address) i) ((is.cmd_data s ∙ c.payload) i) ((is.cmd_mask s ∙ c.mask) i) ∷ h.none_made i) (h.none_made i))
            ∙ own_write (suc s) (row_at s asked g) (needs_same set claims e db mem r is s asked h.works h.needs))
    writes (Waits c h) g = inr (made_by_is h.given ∙ all_made c h ∙ own_write (suc s) (row_at s asked g) (needs_same set claims e db mem r is s asked h.works h.needs))

    wrote : P s → e.go (suc s) ≡ true → e.done (suc s) ≡ true
        → (made e db (suc s) ≡ option_to_list (write_of (effect (suc s)))) × (is_accepted db (suc s) ≡ false)
    wrote (Rests h) g d = by (needs_none e db r (suc s)) refl
      where
        by : (n : Bool) → needs_none e db r (suc s) ≡ n → (made e db (suc s) ≡ option_to_list (write_of (effect (suc s)))) × (is_accepted db (suc s) ≡ false)
        by true n = (made_calm set claims e db mem r is s h.calm ∙ no_write (suc s) (row_at s asked g) n, not_accepted h.given)
        by false n = both (e.done (suc s)) d (not_done n h.owed_no g)
    wrote (Asks h) g d = both (e.done (suc s)) d (not_done (needs_same set claims e db mem r is s asked h.works h.needs) h.owed_no g)
    wrote (Waits c h) g d =
        (all_made c h ∙ own_write (suc s) (row_at s asked g) (needs_same set claims e db mem r is s asked h.works h.needs), not_accepted h.given)

    reads : P s → e.go (suc s) ≡ true → e.done (suc s) ≡ true → read e db (suc s) ≡ reads_of (access_at (table_of set) e (suc s))
    reads (Rests h) g d = by (needs_none e db r (suc s)) refl
      where
        by : (n : Bool) → needs_none e db r (suc s) ≡ n → read e db (suc s) ≡ reads_of (access_at (table_of set) e (suc s))
        by true n = read_calm set claims e db mem r is s h.calm ∙ sym (ap (λ q. cond q [] (read_by set claims e db mem r is (e.word (suc s)) (e.a (suc s)))) n) ∙ own_reads (suc s) (row_at s asked g)
        by false n = both (e.done (suc s)) d (not_done n h.owed_no g)
    reads (Asks h) g d = both (e.done (suc s)) d (not_done (needs_same set claims e db mem r is s asked h.works h.needs) h.owed_no g)
    reads (Waits c h) g d =
        h.all_read ∙ sym (λ i. read_by set claims e db mem r is (word_same set claims e db mem r is s asked h.works i) (a_same set claims e db mem r is s asked h.works i))
        ∙ sym (ap (λ q. cond q [] (read_by set claims e db mem r is (e.word (suc s)) (e.a (suc s)))) (needs_same set claims e db mem r is s asked h.works h.needs)) ∙ own_reads (suc s) (row_at s asked g)

    -- ---- the duties
    waiting_fine : P s → breaks_waiting db (suc s) ≡ false
    unfolding breaks_waiting
    waiting_fine (Rests h) = and_no_l (is_given db (suc s)) (is_some (owed db (suc s))) (not_given h.given)
    waiting_fine (Waits c h) = and_no_l (is_given db (suc s)) (is_some (owed db (suc s))) (not_given h.given)
    waiting_fine (Asks h) = (λ i. is_given db (suc s) && is_some (h.none i)) ∙ off (is_given db (suc s))
      where
        off : (b : Bool) → (b && false) ≡ false
        off true = refl
        off false = refl

    mask_fine : (word a : ℕ) → is_mask (is_store word) (mask_of word a) ≡ true
    unfolding is_store mask_of
    mask_fine word a = by (kind_of word).store
      where
        by : (t : Bool) → is_mask t (cond t (lanes_by (kind_of word) (bit (address_of word a) 1) (bit (address_of word a) 0)) 0) ≡ true
        by true = lanes_are (kind_of word) (bit (address_of word a) 1) (bit (address_of word a) 0)
        by false = refl

    forms_fine : P s → breaks_form db (suc s) ≡ false
    unfolding breaks_form
    forms_fine (Rests h) = and_no_l (is_given db (suc s)) _ (not_given h.given)
    forms_fine (Waits c h) = and_no_l (is_given db (suc s)) _ (not_given h.given)
    forms_fine (Asks h) =
        let c = command h in
        let ad : eqb (db.cmd_addr (suc s) % 4) 0 ≡ true = (λ i. eqb ((is.cmd_addr s ∙ c.address) i % 4) 0) ∙ ap (λ n. eqb n 0) (aligned_whole (address_of (e.word (suc s)) (e.a (suc s)))) in
        let ma : is_mask (eqb (db.cmd_write (suc s)) 1) (db.cmd_mask (suc s)) ≡ true =
        (λ i. is_mask ((ap (λ n. eqb n 1) (is.cmd_write s) ∙ back (r.writes (suc s)) ∙ c.writes) i) ((is.cmd_mask s ∙ c.mask) i)) ∙ mask_fine (e.word (suc s)) (e.a (suc s)) in
        (λ i. is_given db (suc s) && not (ad i && ma i)) ∙ off (is_given db (suc s))
      where
        off : (b : Bool) → (b && false) ≡ false
        off true = refl
        off false = refl

  -- a command that is not accepted stands
  repeated : (s : ℕ) → r.given (suc s) ≡ true → ready e db r (suc s) ≡ false → is_repeated db (suc s) ≡ true
  repeated s g y =
      let st : starts e db r (suc s) ≡ false = no_start (e.go (suc s)) (needs_none e db r (suc s)) (r.given (suc s)) (r.owed (suc s)) (e.clear (suc s)) (ap (λ b. b || r.owed (suc s)) g) in
      let gv : is_given db (suc (suc s)) ≡ true = given_is set claims e db mem r is (suc s) ∙ is.given s ∙ (λ i. st i || (g i && not (y i))) in
      let w : db.cmd_write (suc (suc s)) ≡ db.cmd_write (suc s) = is.cmd_write (suc s) ∙ ap one_if (is.writes s ∙ ap (λ b. cond b (is_store (e.word (suc s))) (r.writes (suc s))) st) ∙ sym (is.cmd_write s) in
      let ad : db.cmd_addr (suc (suc s)) ≡ db.cmd_addr (suc s) = is.cmd_addr (suc s) ∙ is.address s ∙ ap (λ b. cond b (aligned_of (address_of (e.word (suc s)) (e.a (suc s)))) (r.address (suc s))) st ∙ sym (is.cmd_addr s) in
      let da : db.cmd_data (suc (suc s)) ≡ db.cmd_data (suc s) = is.cmd_data (suc s) ∙ is.payload s ∙ ap (λ b. cond b (spread_of (e.word (suc s)) (e.b (suc s))) (r.payload (suc s))) st ∙ sym (is.cmd_data s) in
      let ma : db.cmd_mask (suc (suc s)) ≡ db.cmd_mask (suc s) = is.cmd_mask (suc s) ∙ is.mask s ∙ ap (λ b. cond b (mask_of (e.word (suc s)) (e.a (suc s))) (r.mask (suc s))) st ∙ sym (is.cmd_mask s) in
      all_true _ _ _ _ _ gv (equal w) (equal ad) (equal da) (equal ma)
    where
      equal : {x y : ℕ} → x ≡ y → eqb x y ≡ true
      equal {x} {y} h = ap (λ n. eqb n y) h ∙ eqb_refl y

      all_true : (a b c d f : Bool) → a ≡ true → b ≡ true → c ≡ true → d ≡ true → f ≡ true → (a && (b && (c && (d && f)))) ≡ true
      all_true a b c d f p q t u v = λ i. p i && (q i && (t i && (u i && v i)))

  standing_fine : (s : ℕ) → breaks_standing db (suc s) ≡ false
  unfolding breaks_standing is_given
  standing_fine zero = refl
  standing_fine (suc s) =
      (λ i. given_is set claims e db mem r is s i && (not (accepted_is set claims e db mem r is s i) && not (is_repeated db (suc s)))) ∙ by (r.given (suc s)) (ready e db r (suc s)) refl refl
    where
      by : (g y : Bool) → r.given (suc s) ≡ g → ready e db r (suc s) ≡ y → (g && (not (g && y) && not (is_repeated db (suc s)))) ≡ false
      by false y p q = refl
      by true true p q = refl
      by true false p q = ap not (repeated s p q)

  kept : (s : ℕ) → Assume s → P s → ExecKept (table_of set) e db mem csrs moments s
  kept s asked p = record {
    rests = λ g. is.done s ∙ (λ i. g i && (needs_none e db r (suc s) || (r.owed (suc s) && answered e db r (suc s))));
    result = λ g d. (subst (ShowsOut (effect (suc s))) (out_is s asked) (shows s asked g d p), is.fence s ∙ sym ((row_at s asked g).no_fence));
    idle = idle s asked p;
    asks = asks s asked p;
    writes = writes s asked p;
    wrote = wrote s asked p;
    duties = record { stands = standing_fine s; waits = waiting_fine s asked p; forms = forms_fine s asked p };
  }

  timely : (s : ℕ) → Assume s → P s → IsTimely (dbus_terms set claims) e db mem csrs moments s
  timely s asked (Rests h) w l prompt g d =
      let m : worked (λ k. rests (effect k)) e (suc s) + begun e (suc s) ≤ suc (suc s) = worked_most (λ k. rests (effect k)) e (suc s) in
      let b : begun e (suc s) ≡ suc s = begun_calm set claims e db mem r is s h.calm in
      omega arith
  timely s asked (Asks h) w l prompt g d =
      let m : worked (λ k. rests (effect k)) e (suc s) + begun e (suc s) ≤ suc (suc s) = worked_most (λ k. rests (effect k)) e (suc s) in
      let b : suc s ≤ begun e (suc s) + suc w = h.soon w (λ j lt. prompt j (omega arith)) in
      omega arith
  timely s asked (Waits c h) w l prompt g d =
      let m : worked (λ k. rests (effect k)) e (suc s) + begun e (suc s) ≤ suc (suc s) = worked_most (λ k. rests (effect k)) e (suc s) in
      let b : c ≤ begun e (suc s) + suc w = h.soon w (λ j lt. prompt j (omega arith)) in
      let a : suc s < c + w = (prompt s (omega arith)).answers c h.owes (sym (waits_done s asked c h g) ∙ d) in
      omega arith

  pub law : ExecLaw (dbus_terms set claims) e db mem csrs moments
  law s asked alone =
      let p : P s = phase_at set claims e db mem r is s (λ j lt. asked j (omega arith)) (alone refl) in
      (kept s (asked s (le_refl s)) p, timely s (asked s (le_refl s)) p)

  pub reads_once : ReadsOnce (dbus_terms set claims) e db mem
  reads_once s asked alone g d = reads s (asked s (le_refl s)) (phase_at set claims e db mem r is s (λ j lt. asked j (omega arith)) alone) g d
