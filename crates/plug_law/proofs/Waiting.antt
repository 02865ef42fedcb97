-- WFI alone waits, and what a row does that needs no CSRs is the same in each moment.
use Rattle.std.proofs.Common.{◌≡◌, ℕ, ◌<◌, ◌≤◌, Bool, true, false, eqb, ◌&&◌, ◌⊎◌, inl, inr, Option, Some, None, refl, sym, ap, ◌∙◌, arith}
use Rattle.std.proofs.lemmas.Bool.{both_ways, eqb-true, cases_lt}
use Rattle.std.proofs.lemmas.List.{get_or_past}
use Rattle.bus_law.specs.Memory.{Memory}
use Rattle.isa_table.specs.Rows.{Action, CsrChange, TableRow, lui, table}
use Rattle.isa_table.specs.Rows.Action.{Computes, Jumps, Branches, Loads, Stores, Fences, FencesFetches, CallsEnvironment, Breaks, AccessesCsr, Returns, Waits}
use Rattle.isa_table.proofs.Numbers.{number_at}
use Rattle.isa_table.proofs.Uses.{at_row}
use Rattle.isa_csr.specs.Csrs.{Csrs, csr_read, is_read_only, wakes}
use Rattle.isa_model.specs.Effects.{Moment, access_held, access, wait, effect_of, needs_system, rests}
use Rattle.isa_model.proofs.Effects.{fine, rests_need}
use Rattle.isa_table.specs.Uses.{gives_value}
use Rattle.plug_law.specs.Table.{row_numbered}

-- the action of WFI
abbrev is_wait : Action → Bool
is_wait (Computes value) = false
is_wait (Jumps value target) = false
is_wait (Branches is_taken target) = false
is_wait (Loads addr size is_signed) = false
is_wait (Stores addr size value) = false
is_wait Fences = false
is_wait FencesFetches = false
is_wait CallsEnvironment = false
is_wait Breaks = false
is_wait (AccessesCsr number change operand writes) = false
is_wait Returns = false
is_wait Waits = true

-- the one row that waits
pub is_wfi : (number pc word a b : ℕ) → is_wait ((row_numbered number).action pc word a b) ≡ true → number ≡ 56
is_wfi number pc word a b h = go (cases_lt number 57)
  where
    at_56 : (row_numbered number).number ≡ 56
    at_56 = eqb-true (row_numbered number).number 56 (at_row (λ r. eqb r.number 56) (λ r. is_wait (r.action pc word a b)) refl refl number ∙ h)

    go : ((number < 57) ⊎ (57 ≤ number)) → number ≡ 56
    go (inl l) = sym (number_at number l) ∙ at_56
    go (inr l) = absurd (let z : 0 ≡ 56 = sym (ap (λ (r : TableRow). r.number) (get_or_past table number lui l)) ∙ at_56 in omega arith)

module _ (pc word : ℕ) (m : Memory) (c : Csrs) (o : Moment) where
  held_moves : (is_refused : Bool) (number : ℕ) (change : CsrChange) (operand : ℕ) (writes : Bool) (old : ℕ) → rests (access_held is_refused pc word number change operand writes old) ≡ false
  held_moves true number change operand writes old = refl
  held_moves false number change operand writes old = refl

  access_moves : (number : ℕ) (change : CsrChange) (operand : ℕ) (writes : Bool) (old : Option ℕ) → rests (access pc word number change operand writes old) ≡ false
  access_moves number change operand writes None = refl
  access_moves number change operand writes (Some old) = held_moves (writes && is_read_only number) number change operand writes old

  wait_sleeps : (b : Bool) → wakes c o.lines ≡ b → rests (wait b pc) ≡ true → b ≡ false
  wait_sleeps true e h = sym h
  wait_sleeps false e h = refl

  by_action : (x : Action) → needs_system x ≡ true → rests (effect_of pc word m c o x) ≡ true → (is_wait x ≡ true) × (wakes c o.lines ≡ false)
  by_action (Computes value) n h = absurd (both_ways true (sym n) refl)
  by_action (Jumps value target) n h = absurd (both_ways true (sym n) refl)
  by_action (Branches is_taken target) n h = absurd (both_ways true (sym n) refl)
  by_action (Loads addr size is_signed) n h = absurd (both_ways true (sym n) refl)
  by_action (Stores addr size value) n h = absurd (both_ways true (sym n) refl)
  by_action Fences n h = absurd (both_ways true (sym n) refl)
  by_action FencesFetches n h = absurd (both_ways true (sym n) refl)
  by_action CallsEnvironment n h = absurd (both_ways true (sym n) refl)
  by_action Breaks n h = absurd (both_ways true (sym n) refl)
  by_action (AccessesCsr number change operand writes) n h = absurd (both_ways true (sym h ∙ access_moves number change operand writes (csr_read c o.lines number)) refl)
  by_action Returns n h = absurd (both_ways true (sym h) refl)
  by_action Waits n h = (refl, wait_sleeps (wakes c o.lines) refl h)

  pub rests_waits : (x : Action) → rests (effect_of pc word m c o x) ≡ true → (is_wait x ≡ true) × (wakes c o.lines ≡ false)
  rests_waits x h = by_action x (rests_need (gives_value x) (needs_system x) pc m c (effect_of pc word m c o x) (fine pc m c word o x) h) h

-- an action that needs no CSRs has the same effect in each moment
pub moment_free : (pc word : ℕ) (m : Memory) (c : Csrs) (o o' : Moment) (x : Action) → needs_system x ≡ false → effect_of pc word m c o x ≡ effect_of pc word m c o' x
moment_free pc word m c o o' (Computes value) h = refl
moment_free pc word m c o o' (Jumps value target) h = refl
moment_free pc word m c o o' (Branches is_taken target) h = refl
moment_free pc word m c o o' (Loads addr size is_signed) h = refl
moment_free pc word m c o o' (Stores addr size value) h = refl
moment_free pc word m c o o' Fences h = refl
moment_free pc word m c o o' FencesFetches h = refl
moment_free pc word m c o o' CallsEnvironment h = refl
moment_free pc word m c o o' Breaks h = refl
moment_free pc word m c o o' (AccessesCsr number change operand writes) h = absurd (both_ways true h refl)
moment_free pc word m c o o' Returns h = refl
moment_free pc word m c o o' Waits h = absurd (both_ways true h refl)
