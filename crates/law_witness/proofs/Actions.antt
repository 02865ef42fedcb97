-- What the actions do, as the units need to know it.
use Rattle.std.proofs.Common.{◌≡◌, ℕ, zero, suc, ◌-◌, ◌*◌, ◌/◌, ◌%◌, ◌^◌, ◌<◌, Bool, true, false, cond, eqb, [], ◌∷◌, ◌&&◌, ◌||◌, refl, ap, ◌∙◌, sym, subst, arith, Option, Some, None}
use Rattle.std.specs.Prelude.{option_to_list}
use Rattle.std.proofs.lemmas.Bool.Decides.{nat_tests}
use Rattle.core_ports.specs.Trace.{Bus}
use Rattle.bus_law.specs.Duties.{is_mask, is_write_mask}
use Rattle.bus_law.specs.Memory.{Memory, Store, aligned_of, is_inside, is_window, store_of}
use Rattle.isa_table.proofs.Uses.{at_row}
use Rattle.isa_table.specs.Rows.{Action}
use Rattle.isa_table.specs.Rows.Action.{AccessesCsr, Branches, Breaks, CallsEnvironment, Computes, Fences, FencesFetches, Jumps, Loads, Returns, Stores, Waits}
use Rattle.isa_csr.specs.Csrs.{Csrs, csr_read, is_read_only, wakes}
use Rattle.isa_model.proofs.Effects.{uses_bus}
use Rattle.isa_model.specs.Effects.{Effect, Moment, access, access_held, access_if, access_of, branch, effect_of, go_to, is_multiple, lane_at, load, load_held, rests, store, store_if, store_made, wait, word_read, write_of}
use Rattle.isa_model.specs.Effects.Access.{ReadsAt, WritesOut}
use Rattle.isa_model.specs.Effects.Effect.{Does, Rests, Traps}
use Rattle.plug_law.specs.Exec.{IsOf, Shows}
use Rattle.plug_law.specs.Pipeline.{writes}
use Rattle.plug_law.specs.Table.{row_numbered}
use Rattle.pipe_law.proofs.Basics.{both, cond_false, cond_true, same}
use Rattle.law_witness.proofs.Parts.{addr_bus, cause_in, data_bus_of, mask_bus, needs_bus, next_in, trap_in, tval_in, value_in, writes_bus}

-- the store of an action
abbrev pub store_in : Action → Option Store
store_in (Stores addr size value) = cond (is_multiple addr size) (Some (store_made addr size value)) None
store_in (Loads addr size is_signed) = None
store_in (Computes value) = None
store_in (Jumps value target) = None
store_in (Branches is_taken target) = None
store_in Fences = None
store_in FencesFetches = None
store_in CallsEnvironment = None
store_in Breaks = None
store_in (AccessesCsr number change operand writes) = None
store_in Returns = None
store_in Waits = None

-- the write of an action's effect is its store
pub write_is : (pc word : ℕ) (m : Memory) (c : Csrs) (o : Moment) (x : Action) → write_of (effect_of pc word m c o x) ≡ store_in x
write_is pc word m c o (Computes value) = refl
write_is pc word m c o (Jumps value target) = by (is_multiple target 4)
  where
    by : (b : Bool) → write_of (go_to b (Some value) target) ≡ None
    by true = refl
    by false = refl
write_is pc word m c o (Branches is_taken target) = by is_taken
  where
    by_to : (b : Bool) → write_of (go_to b None target) ≡ None
    by_to true = refl
    by_to false = refl

    by : (t : Bool) → write_of (branch t pc target) ≡ None
    by true = by_to (is_multiple target 4)
    by false = refl
write_is pc word m c o (Loads addr size is_signed) = by (is_multiple addr size)
  where
    by_held : (h : Option ℕ) → write_of (load_held pc addr size is_signed h) ≡ None
    by_held None = refl
    by_held (Some w) = refl

    by : (b : Bool) → write_of (load b pc m addr size is_signed) ≡ None
    by true = by_held (word_read m addr)
    by false = refl
write_is pc word m c o (Stores addr size value) = by (is_multiple addr size)
  where
    by_taken : (t : Bool) → write_of (store_if t pc addr (store_made addr size value)) ≡ Some (store_made addr size value)
    by_taken true = refl
    by_taken false = refl

    by : (b : Bool) → write_of (store b pc m addr size value) ≡ cond b (Some (store_made addr size value)) None
    by true = by_taken (is_inside m addr || is_window addr)
    by false = refl
write_is pc word m c o Fences = refl
write_is pc word m c o FencesFetches = refl
write_is pc word m c o CallsEnvironment = refl
write_is pc word m c o Breaks = refl
write_is pc word m c o (AccessesCsr number change operand writes) = by (csr_read c o.lines number)
  where
    by_held : (r : Bool) (old : ℕ) → write_of (access_held r pc word number change operand writes old) ≡ None
    by_held true old = refl
    by_held false old = refl

    by : (h : Option ℕ) → write_of (access pc word number change operand writes h) ≡ None
    by None = refl
    by (Some old) = by_held (writes && is_read_only number) old
write_is pc word m c o Returns = refl
write_is pc word m c o Waits = by (wakes c o.lines)
  where
    by : (b : Bool) → write_of (wait b pc) ≡ None
    by true = refl
    by false = refl

-- without the bus there is no store and no command
pub no_store : (x : Action) → needs_bus x ≡ false → store_in x ≡ None
no_store (Stores addr size value) h = cond_false (is_multiple addr size) (Some (store_made addr size value)) None h
no_store (Loads addr size is_signed) h = refl
no_store (Computes value) h = refl
no_store (Jumps value target) h = refl
no_store (Branches is_taken target) h = refl
no_store Fences h = refl
no_store FencesFetches h = refl
no_store CallsEnvironment h = refl
no_store Breaks h = refl
no_store (AccessesCsr number change operand writes) h = refl
no_store Returns h = refl
no_store Waits h = refl

-- actions without the data bus have none
pub no_bus_store : (x : Action) → uses_bus x ≡ false → store_in x ≡ None
no_bus_store (Stores addr size value) h = absurd (grind arith)
no_bus_store (Loads addr size is_signed) h = refl
no_bus_store (Computes value) h = refl
no_bus_store (Jumps value target) h = refl
no_bus_store (Branches is_taken target) h = refl
no_bus_store Fences h = refl
no_bus_store FencesFetches h = refl
no_bus_store CallsEnvironment h = refl
no_bus_store Breaks h = refl
no_bus_store (AccessesCsr number change operand writes) h = refl
no_bus_store Returns h = refl
no_bus_store Waits h = refl

-- loads and stores do not wait
pub no_wait : (pc word : ℕ) (m : Memory) (c : Csrs) (o : Moment) (x : Action) → uses_bus x ≡ true → rests (effect_of pc word m c o x) ≡ false
no_wait pc word m c o (Loads addr size is_signed) h = by (is_multiple addr size)
  where
    by_held : (h : Option ℕ) → rests (load_held pc addr size is_signed h) ≡ false
    by_held None = refl
    by_held (Some w) = refl

    by : (b : Bool) → rests (load b pc m addr size is_signed) ≡ false
    by true = by_held (word_read m addr)
    by false = refl
no_wait pc word m c o (Stores addr size value) h = by (is_multiple addr size)
  where
    by_taken : (t : Bool) → rests (store_if t pc addr (store_made addr size value)) ≡ false
    by_taken true = refl
    by_taken false = refl

    by : (b : Bool) → rests (store b pc m addr size value) ≡ false
    by true = by_taken (is_inside m addr || is_window addr)
    by false = refl
no_wait pc word m c o (Computes value) h = absurd (grind arith)
no_wait pc word m c o (Jumps value target) h = absurd (grind arith)
no_wait pc word m c o (Branches is_taken target) h = absurd (grind arith)
no_wait pc word m c o Fences h = absurd (grind arith)
no_wait pc word m c o FencesFetches h = absurd (grind arith)
no_wait pc word m c o CallsEnvironment h = absurd (grind arith)
no_wait pc word m c o Breaks h = absurd (grind arith)
no_wait pc word m c o (AccessesCsr number change operand writes) h = absurd (grind arith)
no_wait pc word m c o Returns h = absurd (grind arith)
no_wait pc word m c o Waits h = absurd (grind arith)

-- the store that a command makes is the action's
aligned_twice : (a : ℕ) → aligned_of (aligned_of a) ≡ aligned_of a
aligned_twice a = omega arith

-- the command of an action makes its store
pub made_act : (x : Action) → needs_bus x ≡ true → cond (eqb (writes_bus x) 1) (store_of (addr_bus x) (data_bus_of x) (mask_bus x) ∷ []) [] ≡ option_to_list (store_in x)
made_act (Stores addr size value) h =
    (λ i. record { addr = aligned_twice addr i; value = (store_made addr size value).value; mask = (store_made addr size value).mask } ∷ [])
    ∙ ap option_to_list (sym (cond_true (is_multiple addr size) (Some (store_made addr size value)) None h))
made_act (Loads addr size is_signed) h = refl
made_act (Computes value) h = refl
made_act (Jumps value target) h = refl
made_act (Branches is_taken target) h = refl
made_act Fences h = refl
made_act FencesFetches h = refl
made_act CallsEnvironment h = refl
made_act Breaks h = refl
made_act (AccessesCsr number change operand writes) h = refl
made_act Returns h = refl
made_act Waits h = refl

-- ---- commands have the form that the bus wants
abbrev is_size : ℕ → Bool
is_size size = eqb size 1 || (eqb size 2 || eqb size 4)

abbrev sized : Action → Bool
sized (Stores addr size value) = is_size size
sized (Loads addr size is_signed) = true
sized (Computes value) = true
sized (Jumps value target) = true
sized (Branches is_taken target) = true
sized Fences = true
sized FencesFetches = true
sized CallsEnvironment = true
sized Breaks = true
sized (AccessesCsr number change operand writes) = true
sized Returns = true
sized Waits = true

-- each row accesses bytes, halves or words
pub all_sized : (number pc word a b : ℕ) → sized ((row_numbered number).action pc word a b) ≡ true
all_sized number pc word a b = at_row (λ r. sized (r.action pc word a b)) (λ r. true) refl refl number

-- the mask of an aligned access is one of the bus
mask_lane : (size r : ℕ) → r < 4 → is_size size ≡ true → eqb (r % size) 0 ≡ true → is_write_mask ((2 ^ size - 1) * 2 ^ r) ≡ true
mask_lane zero r l s h = absurd (grind arith)
mask_lane (suc zero) zero l s h = refl
mask_lane (suc zero) (suc zero) l s h = refl
mask_lane (suc zero) (suc (suc zero)) l s h = refl
mask_lane (suc zero) (suc (suc (suc zero))) l s h = refl
mask_lane (suc zero) (suc (suc (suc (suc r)))) l s h = absurd (omega arith)
mask_lane (suc (suc zero)) zero l s h = refl
mask_lane (suc (suc zero)) (suc zero) l s h = absurd (grind arith)
mask_lane (suc (suc zero)) (suc (suc zero)) l s h = refl
mask_lane (suc (suc zero)) (suc (suc (suc zero))) l s h = absurd (grind arith)
mask_lane (suc (suc zero)) (suc (suc (suc (suc r)))) l s h = absurd (omega arith)
mask_lane (suc (suc (suc zero))) r l s h = absurd (grind arith)
mask_lane (suc (suc (suc (suc zero)))) zero l s h = refl
mask_lane (suc (suc (suc (suc zero)))) (suc zero) l s h = absurd (grind arith)
mask_lane (suc (suc (suc (suc zero)))) (suc (suc zero)) l s h = absurd (grind arith)
mask_lane (suc (suc (suc (suc zero)))) (suc (suc (suc zero))) l s h = absurd (grind arith)
mask_lane (suc (suc (suc (suc zero)))) (suc (suc (suc (suc r)))) l s h = absurd (omega arith)
mask_lane (suc (suc (suc (suc (suc n))))) r l s h = both (is_size (suc (suc (suc (suc (suc n)))))) s (too_large n)
  where
    too_large : (n : ℕ) → is_size (suc (suc (suc (suc (suc n))))) ≡ false
    too_large n = grind (arith, nat_tests)

-- so is its lane
lane_of_size : (addr size : ℕ) → is_size size ≡ true → eqb (addr % size) 0 ≡ true → eqb (lane_at addr % size) 0 ≡ true
lane_of_size addr zero s h = absurd (grind arith)
lane_of_size addr (suc zero) s h = let e : addr % 4 % 1 ≡ 0 = omega arith in ap (λ v. eqb v 0) e
lane_of_size addr (suc (suc zero)) s h = let g : addr % 2 ≡ 0 = same (addr % 2) 0 h in let e : addr % 4 % 2 ≡ 0 = omega arith in ap (λ v. eqb v 0) e
lane_of_size addr (suc (suc (suc zero))) s h = absurd (grind arith)
lane_of_size addr (suc (suc (suc (suc zero)))) s h = let g : addr % 4 ≡ 0 = same (addr % 4) 0 h in let e : addr % 4 % 4 ≡ 0 = omega arith in ap (λ v. eqb v 0) e
lane_of_size addr (suc (suc (suc (suc (suc n))))) s h = both (is_size (suc (suc (suc (suc (suc n)))))) s (too_large n)
  where
    too_large : (n : ℕ) → is_size (suc (suc (suc (suc (suc n))))) ≡ false
    too_large n = grind (arith, nat_tests)

-- the mask of a command
pub right_mask : (x : Action) → sized x ≡ true → needs_bus x ≡ true → is_mask (eqb (writes_bus x) 1) (mask_bus x) ≡ true
right_mask (Stores addr size value) s h = mask_lane size (lane_at addr) (omega arith) s (lane_of_size addr size s h)
right_mask (Loads addr size is_signed) s h = refl
right_mask (Computes value) s h = absurd (grind arith)
right_mask (Jumps value target) s h = absurd (grind arith)
right_mask (Branches is_taken target) s h = absurd (grind arith)
right_mask Fences s h = absurd (grind arith)
right_mask FencesFetches s h = absurd (grind arith)
right_mask CallsEnvironment s h = absurd (grind arith)
right_mask Breaks s h = absurd (grind arith)
right_mask (AccessesCsr number change operand writes) s h = absurd (grind arith)
right_mask Returns s h = absurd (grind arith)
right_mask Waits s h = absurd (grind arith)

-- an address without its low bits
aligned_whole : (a : ℕ) → aligned_of a % 4 ≡ 0
aligned_whole a = omega arith

-- the address of a command
pub right_addr : (x : Action) → addr_bus x % 4 ≡ 0
right_addr (Stores addr size value) = aligned_whole addr
right_addr (Loads addr size is_signed) = aligned_whole addr
right_addr (Computes value) = refl
right_addr (Jumps value target) = refl
right_addr (Branches is_taken target) = refl
right_addr Fences = refl
right_addr FencesFetches = refl
right_addr CallsEnvironment = refl
right_addr Breaks = refl
right_addr (AccessesCsr number change operand writes) = refl
right_addr Returns = refl
right_addr Waits = refl

-- ---- a command is one of the action's access
same_block : (a : ℕ) → aligned_of a / 64 ≡ a / 64
same_block a = omega arith

-- a command is one of the action's access
pub of_access : (b : Bus) (t : ℕ) (x : Action) → needs_bus x ≡ true → b.cmd_write t ≡ writes_bus x → b.cmd_addr t ≡ addr_bus x → b.cmd_data t ≡ data_bus_of x → b.cmd_mask t ≡ mask_bus x
    → IsOf (access_of x) b t
of_access b t (Loads addr size is_signed) h w a d k =
    subst (λ g. IsOf (access_if g (ReadsAt addr size)) b t) (sym h) (ap (λ v. eqb v 1) w, ap (λ v. v / 64) a ∙ same_block addr)
of_access b t (Stores addr size value) h w a d k =
    subst (λ g. IsOf (access_if g (WritesOut (store_made addr size value))) b t) (sym h)
    (ap (λ v. eqb v 1) w, (λ i. store_of (a i) (d i) (k i)) ∙ (λ i. record { addr = aligned_twice addr i; value = (store_made addr size value).value; mask = (store_made addr size value).mask }))
of_access b t (Computes value) h w a d k = absurd (grind arith)
of_access b t (Jumps value target) h w a d k = absurd (grind arith)
of_access b t (Branches is_taken target) h w a d k = absurd (grind arith)
of_access b t Fences h w a d k = absurd (grind arith)
of_access b t FencesFetches h w a d k = absurd (grind arith)
of_access b t CallsEnvironment h w a d k = absurd (grind arith)
of_access b t Breaks h w a d k = absurd (grind arith)
of_access b t (AccessesCsr number change operand writes) h w a d k = absurd (grind arith)
of_access b t Returns h w a d k = absurd (grind arith)
of_access b t Waits h w a d k = absurd (grind arith)

-- ---- the outputs of an effect show it
pub shows_effect : (e : Effect) → rests e ≡ false → Shows e (value_in e) (next_in e) (cause_in e) (tval_in e) (trap_in e)
shows_effect (Traps c v w) h = (refl, refl, refl)
shows_effect Rests h = absurd (grind arith)
shows_effect (Does None n w c) h = (refl, refl, tt)
shows_effect (Does (Some v) n w c) h = (refl, refl, refl)

-- the owners of the rows
pub owner_of_rest : (b s : Bool) → eqb (cond b 2 (cond s 1 0)) 0 ≡ true → (b ≡ false) × (s ≡ false)
owner_of_rest true s h = absurd (grind arith)
owner_of_rest false true h = absurd (grind arith)
owner_of_rest false false h = (refl, refl)

-- entry 1 has the rows that need CSRs
pub owner_of_system : (b s : Bool) → eqb (cond b 2 (cond s 1 0)) 1 ≡ true → (b ≡ false) × (s ≡ true)
owner_of_system true s h = absurd (grind arith)
owner_of_system false true h = (refl, refl)
owner_of_system false false h = absurd (grind arith)

-- entry 2 has loads and stores
pub owner_of_bus : (b s : Bool) → eqb (cond b 2 (cond s 1 0)) 2 ≡ true → b ≡ true
owner_of_bus true s h = refl
owner_of_bus false true h = absurd (grind arith)
owner_of_bus false false h = absurd (grind arith)
