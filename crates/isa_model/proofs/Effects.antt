-- What is known of the effect of each action.
use Rattle.std.proofs.Common.{◌≡◌, ℕ, ◌%◌, Bool, true, false, ◌&&◌, ◌||◌, Option, Some, None, refl, sym, ◌∙◌, arith}
use Rattle.std.specs.Prelude.{is_some}
use Rattle.std.proofs.lemmas.Bool.{both_ways, eqb-true, or_parts}
use Rattle.bus_law.specs.Memory.{Memory, Store, is_inside, is_window, with_store}
use Rattle.bus_law.proofs.Held.{written-outside}
use Rattle.bus_law.proofs.ByStores.{store_writes}
use Rattle.isa_table.specs.Rows.{Action, CsrChange}
use Rattle.isa_table.specs.Rows.Action.{Computes, Jumps, Branches, Loads, Stores, Fences, FencesFetches, CallsEnvironment, Breaks, AccessesCsr, Returns, Waits}
use Rattle.isa_table.specs.Uses.{gives_value}
use Rattle.isa_csr.specs.Csrs.{Csrs, IsCsrs, csr_read, is_read_only, wakes}
use Rattle.isa_csr.proofs.Kept.{write_keeps, return_keeps}
use Rattle.isa_model.specs.Effects.{Moment, Effect, behind, goes_behind, is_multiple, go_to, branch, word_read, loaded, load_held, load, store_made, store_if, store, changed, csr_change, access_held, access, wait, effect_of, needs_system, write_of, csrs_of, rests, access_if, access_of, written_by}
use Rattle.isa_model.specs.Effects.Effect.{Traps, Rests, Does}
use Rattle.isa_model.specs.Effects.Access.{NoAccess, ReadsAt, WritesOut}

-- the store of a trap changes nothing
abbrev pub Faultless : Memory → Option Store → Type 0
Faultless m None = Unit {0}
Faultless m (Some w) = with_store m (Some w) ≡ m

-- what is known of an effect, for an action that gives a value or not, and needs System or not
abbrev pub Fine : (gives needs : Bool) (pc : ℕ) → Memory → Csrs → Effect → Type 0
Fine gives needs pc m c (Traps cause tval write) = Faultless m write
Fine gives needs pc m c Rests = needs ≡ true
Fine gives needs pc m c (Does v next w change) = (gives ≡ is_some v) × (needs ≡ false → (d : Csrs) → change d ≡ d) × (pc % 4 ≡ 0 → IsCsrs c → (next % 4 ≡ 0) × ((d : Csrs) → IsCsrs d → IsCsrs (change d)))

behind_whole : (pc : ℕ) → pc % 4 ≡ 0 → behind pc % 4 ≡ 0
behind_whole pc h = omega arith

module _ (pc : ℕ) (m : Memory) (c : Csrs) where
  fine_behind : (gives needs : Bool) (v : Option ℕ) → gives ≡ is_some v → Fine gives needs pc m c (goes_behind pc v)
  fine_behind gives needs v h = (h, λ _ d. refl, λ p k. (behind_whole pc p, λ d i. i))

  fine_go : (gives needs : Bool) (v : Option ℕ) (target : ℕ) → gives ≡ is_some v → (b : Bool) → is_multiple target 4 ≡ b → Fine gives needs pc m c (go_to b v target)
  fine_go gives needs v target h true e = (h, λ _ d. refl, λ p k. (eqb-true (target % 4) 0 e, λ d i. i))
  fine_go gives needs v target h false e = tt

  fine_branch : (is_taken : Bool) (target : ℕ) → Fine false false pc m c (branch is_taken pc target)
  fine_branch true target = fine_go false false None target refl (is_multiple target 4) refl
  fine_branch false target = fine_behind false false None refl

  fine_load_held : (addr size : ℕ) (is_signed : Bool) (held : Option ℕ) → Fine true false pc m c (load_held pc addr size is_signed held)
  fine_load_held addr size is_signed (Some held) = fine_behind true false (Some (loaded held addr size is_signed)) refl
  fine_load_held addr size is_signed None = tt

  fine_load : (b : Bool) (addr size : ℕ) (is_signed : Bool) → Fine true false pc m c (load b pc m addr size is_signed)
  fine_load true addr size is_signed = fine_load_held addr size is_signed (word_read m addr)
  fine_load false addr size is_signed = tt

  -- a store that meets an access fault has no place in memory
  outside : (addr size value : ℕ) → (is_inside m addr || is_window addr) ≡ false → with_store m (Some (store_made addr size value)) ≡ m
  outside addr size value e = store_writes m addr _ _ ∙ written-outside m addr _ _ (or_parts (is_inside m addr) (is_window addr) e).0

  fine_store_if : (addr size value : ℕ) (b : Bool) → (is_inside m addr || is_window addr) ≡ b → Fine false false pc m c (store_if b pc addr (store_made addr size value))
  fine_store_if addr size value true e = (refl, λ _ d. refl, λ p k. (behind_whole pc p, λ d i. i))
  fine_store_if addr size value false e = outside addr size value e

  fine_store : (b : Bool) (addr size value : ℕ) → Fine false false pc m c (store b pc m addr size value)
  fine_store true addr size value = fine_store_if addr size value (is_inside m addr || is_window addr) refl
  fine_store false addr size value = tt

  change_keeps : (writes : Bool) (number value : ℕ) (d : Csrs) → IsCsrs d → IsCsrs (csr_change writes number value d)
  change_keeps true number value d h = write_keeps d number value h
  change_keeps false number value d h = h

  module _ (word number : ℕ) (change : CsrChange) (operand : ℕ) (writes : Bool) where
    fine_access_held : (is_refused : Bool) (old : ℕ) → Fine true true pc m c (access_held is_refused pc word number change operand writes old)
    fine_access_held true old = tt
    fine_access_held false old = (refl, λ e. absurd (both_ways true e refl), λ p k. (behind_whole pc p, change_keeps writes number (changed change old operand)))

    fine_access : (old : Option ℕ) → Fine true true pc m c (access pc word number change operand writes old)
    fine_access None = tt
    fine_access (Some old) = fine_access_held (writes && is_read_only number) old

  fine_wait : (b : Bool) → Fine false true pc m c (wait b pc)
  fine_wait true = fine_behind false true None refl
  fine_wait false = refl

  pub fine : (word : ℕ) (o : Moment) (x : Action) → Fine (gives_value x) (needs_system x) pc m c (effect_of pc word m c o x)
  fine word o (Computes value) = fine_behind true false (Some value) refl
  fine word o (Jumps value target) = fine_go true false (Some value) target refl (is_multiple target 4) refl
  fine word o (Branches is_taken target) = fine_branch is_taken target
  fine word o (Loads addr size is_signed) = fine_load (is_multiple addr size) addr size is_signed
  fine word o (Stores addr size value) = fine_store (is_multiple addr size) addr size value
  fine word o Fences = fine_behind false false None refl
  fine word o FencesFetches = fine_behind false false None refl
  fine word o CallsEnvironment = tt
  fine word o Breaks = tt
  fine word o (AccessesCsr number change operand writes) = fine_access word number change operand writes (csr_read c o.lines number)
  fine word o Returns = (refl, λ e. absurd (both_ways true e refl), λ p k. (k.mepc, return_keeps))
  fine word o Waits = fine_wait (wakes c o.lines)

-- what follows for each effect of which this is known
module _ (gives needs : Bool) (pc : ℕ) (m : Memory) (c : Csrs) where
  pub csrs_kept : (e : Effect) → Fine gives needs pc m c e → needs ≡ false → (d : Csrs) → csrs_of e d ≡ d
  csrs_kept (Traps cause tval write) h n d = refl
  csrs_kept Rests h n d = refl
  csrs_kept (Does v next w change) h n d = h.1 n d

  pub rests_need : (e : Effect) → Fine gives needs pc m c e → rests e ≡ true → needs ≡ true
  rests_need (Traps cause tval write) h r = absurd (both_ways true (sym r) refl)
  rests_need Rests h r = h
  rests_need (Does v next w change) h r = absurd (both_ways true (sym r) refl)

-- loads and stores
abbrev pub uses_bus : Action → Bool
uses_bus (Computes value) = false
uses_bus (Jumps value target) = false
uses_bus (Branches is_taken target) = false
uses_bus (Loads addr size is_signed) = true
uses_bus (Stores addr size value) = true
uses_bus Fences = false
uses_bus FencesFetches = false
uses_bus CallsEnvironment = false
uses_bus Breaks = false
uses_bus (AccessesCsr number change operand writes) = false
uses_bus Returns = false
uses_bus Waits = false

-- the other actions do not read memory
pub memory_unread : (pc word : ℕ) (m m' : Memory) (c : Csrs) (o : Moment) (x : Action) → uses_bus x ≡ false → effect_of pc word m c o x ≡ effect_of pc word m' c o x
memory_unread pc word m m' c o (Computes value) h = refl
memory_unread pc word m m' c o (Jumps value target) h = refl
memory_unread pc word m m' c o (Branches is_taken target) h = refl
memory_unread pc word m m' c o (Loads addr size is_signed) h = absurd (both_ways true h refl)
memory_unread pc word m m' c o (Stores addr size value) h = absurd (both_ways true h refl)
memory_unread pc word m m' c o Fences h = refl
memory_unread pc word m m' c o FencesFetches h = refl
memory_unread pc word m m' c o CallsEnvironment h = refl
memory_unread pc word m m' c o Breaks h = refl
memory_unread pc word m m' c o (AccessesCsr number change operand writes) h = refl
memory_unread pc word m m' c o Returns h = refl
memory_unread pc word m m' c o Waits h = refl

-- ---- the write of an effect is that of the action's access

module _ (pc word : ℕ) (m : Memory) (c : Csrs) (o : Moment) where
  go_writes : (b : Bool) (v : Option ℕ) (target : ℕ) → write_of (go_to b v target) ≡ None
  go_writes true v target = refl
  go_writes false v target = refl

  branch_writes : (is_taken : Bool) (target : ℕ) → write_of (branch is_taken pc target) ≡ None
  branch_writes true target = go_writes (is_multiple target 4) None target
  branch_writes false target = refl

  held_writes : (addr size : ℕ) (is_signed : Bool) (held : Option ℕ) → write_of (load_held pc addr size is_signed held) ≡ None
  held_writes addr size is_signed (Some held) = refl
  held_writes addr size is_signed None = refl

  load_writes : (b : Bool) (addr size : ℕ) (is_signed : Bool) → write_of (load b pc m addr size is_signed) ≡ written_by (access_if b (ReadsAt addr size))
  load_writes true addr size is_signed = held_writes addr size is_signed (word_read m addr)
  load_writes false addr size is_signed = refl

  if_writes : (b : Bool) (addr : ℕ) (write : Store) → write_of (store_if b pc addr write) ≡ Some write
  if_writes true addr write = refl
  if_writes false addr write = refl

  store_writes_out : (b : Bool) (addr size value : ℕ) → write_of (store b pc m addr size value) ≡ written_by (access_if b (WritesOut (store_made addr size value)))
  store_writes_out true addr size value = if_writes (is_inside m addr || is_window addr) addr (store_made addr size value)
  store_writes_out false addr size value = refl

  access_held_writes : (b : Bool) (number : ℕ) (change : CsrChange) (operand : ℕ) (writes : Bool) (old : ℕ) → write_of (access_held b pc word number change operand writes old) ≡ None
  access_held_writes true number change operand writes old = refl
  access_held_writes false number change operand writes old = refl

  access_writes : (number : ℕ) (change : CsrChange) (operand : ℕ) (writes : Bool) (old : Option ℕ) → write_of (access pc word number change operand writes old) ≡ None
  access_writes number change operand writes None = refl
  access_writes number change operand writes (Some old) = access_held_writes (writes && is_read_only number) number change operand writes old

  wait_writes : (b : Bool) → write_of (wait b pc) ≡ None
  wait_writes true = refl
  wait_writes false = refl

  pub write_is_access : (x : Action) → write_of (effect_of pc word m c o x) ≡ written_by (access_of x)
  write_is_access (Computes value) = refl
  write_is_access (Jumps value target) = go_writes (is_multiple target 4) (Some value) target
  write_is_access (Branches is_taken target) = branch_writes is_taken target
  write_is_access (Loads addr size is_signed) = load_writes (is_multiple addr size) addr size is_signed
  write_is_access (Stores addr size value) = store_writes_out (is_multiple addr size) addr size value
  write_is_access Fences = refl
  write_is_access FencesFetches = refl
  write_is_access CallsEnvironment = refl
  write_is_access Breaks = refl
  write_is_access (AccessesCsr number change operand writes) = access_writes number change operand writes (csr_read c o.lines number)
  write_is_access Returns = refl
  write_is_access Waits = wait_writes (wakes c o.lines)

-- the other actions than loads and stores have none
pub no_access : (x : Action) → uses_bus x ≡ false → access_of x ≡ NoAccess
no_access (Computes value) h = refl
no_access (Jumps value target) h = refl
no_access (Branches is_taken target) h = refl
no_access (Loads addr size is_signed) h = absurd (both_ways true h refl)
no_access (Stores addr size value) h = absurd (both_ways true h refl)
no_access Fences h = refl
no_access FencesFetches h = refl
no_access CallsEnvironment h = refl
no_access Breaks h = refl
no_access (AccessesCsr number change operand writes) h = refl
no_access Returns h = refl
no_access Waits h = refl
