-- The registers of places, with their equations, through steps.
use Rattle.std.proofs.Common.{◌≡◌, ◌∙◌, ℕ, suc, ◌+◌, ◌*◌, ◌<◌, ◌≤◌, Bool, true, false, cond, ltb, nat_eq, List, length, Option, refl, ap, sym, subst, arith}
use Rattle.std.proofs.lemmas.Bool.Decides.{nat_tests}
use Rattle.hw_pool.specs.Nodes.{PoolValue}
use Rattle.hw_pool.specs.Meaning.{Env}
use Rattle.hw_expr.specs.declared.net.Net.{Net}
use Rattle.hw_gates.specs.Places.{Step, value_in}
use Rattle.hw_gates.proofs.Steps.{has_in, kept, none, stays, stays_in}
use Rattle.hw_module.specs.declared.rows.RegRow.{RegRow}
use Rattle.hw_pool.specs.Scope.{Scope}
use Rattle.hw_module.specs.Rows.{ModuleValue, reg_at}
use Rattle.plug_fetch.specs.declared.places.Cycle.{Cycle}
use Rattle.plug_fetch.specs.Machine.{Now, moved_of, fills_of, put_of, held_of, moved, fills, put, held_after}
use Rattle.plug_fetch.specs.Machine as machine
use Rattle.plug_fetch.specs.Registers.{IsCycle, IsCycleIn, IsOpenPlace, IsOpenCommand, IsNext, IsPlaceDriven, IsCommandDriven, seen_in, moved_at, fills_at, put_at}

-- ---- the last place

pub next_below : (i depth : ℕ) → i < depth → nat_eq (i + 1) depth ≡ false → suc i < depth
next_below i depth l e = grind (arith, nat_tests)

last_test : (i depth : ℕ) → i < depth → (b : Bool) → nat_eq (i + 1) depth ≡ b → (a c : ℕ) → cond b a c ≡ cond (ltb (suc i) depth) c a
last_test i depth l true e a c = let no : ltb (suc i) depth ≡ false = grind (arith, nat_tests) in ap (λ t. cond t c a) (sym no)
last_test i depth l false e a c = let yes : ltb (suc i) depth ≡ true = grind (arith, nat_tests) in ap (λ t. cond t c a) (sym yes)

last_choice : (i depth : ℕ) → i < depth → (a c : ℕ) → cond (nat_eq (i + 1) depth) a c ≡ cond (ltb (suc i) depth) c a
last_choice i depth l = last_test i depth l (nat_eq (i + 1) depth) refl

-- ---- the values of a place

module _ (env : Env) (p : PoolValue) (c : Cycle) (first i depth : ℕ) (l : i < depth) where
  pub moved_same : moved_at env p c (first + 4 * i) (nat_eq (i + 1) depth) ≡ moved depth (seen_in env p c first) i
  moved_same =
      let far : first + 4 * i + 4 ≡ first + 4 * suc i = omega arith in
      let next : cond (nat_eq (i + 1) depth) 0 (env.regs (first + 4 * i + 4)) ≡ cond (ltb (suc i) depth) (env.regs (first + 4 * suc i)) 0 =
      last_choice i depth l 0 (env.regs (first + 4 * i + 4)) ∙ (λ j. cond (ltb (suc i) depth) (env.regs (far j)) 0) in
      λ j. moved_of (value_in env p c.take) (env.regs (first + 4 * i)) (next j)

  module _ (kept before : Net) (k : value_in env p kept ≡ machine.kept (seen_in env p c first)) (f : value_in env p before ≡ machine.before depth (seen_in env p c first) i) where
    pub fills_same : fills_at env p c (first + 4 * i) (nat_eq (i + 1) depth) kept before ≡ fills depth (seen_in env p c first) i
    fills_same = λ j. fills_of (k j) (moved_same j) (f j)

    pub held_same : held_of (value_in env p c.redirect) (moved_at env p c (first + 4 * i) (nat_eq (i + 1) depth)) (fills_at env p c (first + 4 * i) (nat_eq (i + 1) depth) kept before)
        ≡ held_after depth (seen_in env p c first) i
    held_same = λ j. held_of (value_in env p c.redirect) (moved_same j) (fills_same j)

    pub put_same : (came : Net) (o : ℕ) → put_at env p c (first + 4 * i) (nat_eq (i + 1) depth) kept before came (first + 4 * i + o)
        ≡ put depth (seen_in env p c first) i (value_in env p came) (λ j. env.regs (first + 4 * j + o))
    put_same came o =
        let far : first + 4 * i + o + 4 ≡ first + 4 * suc i + o = omega arith in
        let next : cond (nat_eq (i + 1) depth) (env.regs (first + 4 * i + o)) (env.regs (first + 4 * i + o + 4))
        ≡ cond (ltb (suc i) depth) (env.regs (first + 4 * suc i + o)) (env.regs (first + 4 * i + o)) =
        last_choice i depth l (env.regs (first + 4 * i + o)) (env.regs (first + 4 * i + o + 4)) ∙ (λ j. cond (ltb (suc i) depth) (env.regs (far j)) (env.regs (first + 4 * i + o))) in
        λ j. put_of (fills_same j) (value_in env p came) (value_in env p c.take) (next j) (env.regs (first + 4 * i + o))

-- ---- through steps

pub open_at : (m : ModuleValue) (entry k j : ℕ) → k ≡ j → IsOpenPlace m entry k → IsOpenPlace m entry j
open_at m entry k j e h = subst (IsOpenPlace m entry) e h

pub open_stays : (old new : ModuleValue) (entry reg : ℕ) → length old.regs ≤ length new.regs → ((k : ℕ) → reg ≤ k → k ≤ reg + 3 → reg_at new.regs k ≡ reg_at old.regs k)
    → IsOpenPlace old entry reg → IsOpenPlace new entry reg
open_stays old new entry reg count same h = record {
  there = let t = h.there in omega arith;
  held = same reg (omega arith) (omega arith) ∙ h.held;
  pc = same (reg + 1) (omega arith) (omega arith) ∙ h.pc;
  word = same (reg + 2) (omega arith) (omega arith) ∙ h.word;
  error = same (reg + 3) (omega arith) (omega arith) ∙ h.error;
}

pub command_stays : (old new : ModuleValue) (entry reg reset_pc : ℕ) → length old.regs ≤ length new.regs → ((k : ℕ) → reg ≤ k → k ≤ reg + 4 → reg_at new.regs k ≡ reg_at old.regs k)
    → IsOpenCommand old entry reg reset_pc → IsOpenCommand new entry reg reset_pc
command_stays old new entry reg reset_pc count same h = record {
  there = let t = h.there in omega arith;
  given = same reg (omega arith) (omega arith) ∙ h.given;
  owed = same (reg + 1) (omega arith) (omega arith) ∙ h.owed;
  dropped = same (reg + 2) (omega arith) (omega arith) ∙ h.dropped;
  address = same (reg + 3) (omega arith) (omega arith) ∙ h.address;
  next_pc = same (reg + 4) (omega arith) (omega arith) ∙ h.next_pc;
}

-- what is read stays
module _ (old new : PoolValue) (n : ℕ) (step : Step old new n) (c : Cycle) where
  pub cycle_stays : IsCycle old c → IsCycle new c
  cycle_stays h = record {
    given = stays old new n _ 1 8 step h.given;
    owed = stays old new n _ 1 8 step h.owed;
    dropped = stays old new n _ 1 8 step h.dropped;
    address = stays old new n _ 32 8 step h.address;
    next_pc = stays old new n _ 32 8 step h.next_pc;
    take = stays old new n _ 1 8 step h.take;
    redirect = stays old new n _ 1 8 step h.redirect;
    redirect_pc = stays old new n _ 32 8 step h.redirect_pc;
    ready = stays old new n _ 1 8 step h.ready;
    answered = stays old new n _ 1 8 step h.answered;
    failed = stays old new n _ 1 8 step h.failed;
    payload = stays old new n _ 32 8 step h.payload;
    guess = stays old new n _ 32 8 step h.guess;
  }

  pub cycle_in_stays : (s : Scope) → IsCycle old c → IsCycleIn s old c → IsCycleIn s new c
  cycle_in_stays s h i = record {
    given = stays_in s old new n _ step h.given.0 i.given;
    owed = stays_in s old new n _ step h.owed.0 i.owed;
    dropped = stays_in s old new n _ step h.dropped.0 i.dropped;
    address = stays_in s old new n _ step h.address.0 i.address;
    next_pc = stays_in s old new n _ step h.next_pc.0 i.next_pc;
    take = stays_in s old new n _ step h.take.0 i.take;
    redirect = stays_in s old new n _ step h.redirect.0 i.redirect;
    redirect_pc = stays_in s old new n _ step h.redirect_pc.0 i.redirect_pc;
    ready = stays_in s old new n _ step h.ready.0 i.ready;
    answered = stays_in s old new n _ step h.answered.0 i.answered;
    failed = stays_in s old new n _ step h.failed.0 i.failed;
    payload = stays_in s old new n _ step h.payload.0 i.payload;
    guess = stays_in s old new n _ step h.guess.0 i.guess;
  }

  pub seen_stays : IsCycle old c → (env : Env) (first : ℕ) → seen_in env new c first ≡ seen_in env old c first
  seen_stays h env first = λ j. record {
    held = λ i. env.regs (first + 4 * i);
    pc = λ i. env.regs (first + 4 * i + 1);
    word = λ i. env.regs (first + 4 * i + 2);
    error = λ i. env.regs (first + 4 * i + 3);
    given = kept env old new n c.given step h.given.0 j;
    owed = kept env old new n c.owed step h.owed.0 j;
    dropped = kept env old new n c.dropped step h.dropped.0 j;
    address = kept env old new n c.address step h.address.0 j;
    next_pc = kept env old new n c.next_pc step h.next_pc.0 j;
    take = kept env old new n c.take step h.take.0 j;
    redirect = kept env old new n c.redirect step h.redirect.0 j;
    redirect_pc = kept env old new n c.redirect_pc step h.redirect_pc.0 j;
    ready = kept env old new n c.ready step h.ready.0 j;
    answered = kept env old new n c.answered step h.answered.0 j;
    failed = kept env old new n c.failed step h.failed.0 j;
    payload = kept env old new n c.payload step h.payload.0 j;
    guess = kept env old new n c.guess step h.guess.0 j;
  }

-- a next value stays while nodes are added and its register has its row, and may be told by an equal function
pub next_stays : (m m' : ModuleValue) (old new : PoolValue) (n entry reg width : ℕ) (reset : Option ℕ) (f g : Env → ℕ) → Step old new n → reg_at m'.regs reg ≡ reg_at m.regs reg
    → ((env : Env) → f env ≡ g env) → IsNext m old entry reg width reset f → IsNext m' new entry reg width reset g
next_stays m m' old new n entry reg width reset f g step same told h = record {
  net = h.net;
  row = same ∙ h.row;
  has = has_in old new n h.net step h.has;
  value = λ env. kept env old new n h.net step h.has ∙ (h.value env ∙ told env);
}

pub place_stays : (m m' : ModuleValue) (old new : PoolValue) (n entry first depth i : ℕ) (now now' : Env → Now) → Step old new n
    → ((k : ℕ) → first + 4 * i ≤ k → k ≤ first + 4 * i + 3 → reg_at m'.regs k ≡ reg_at m.regs k) → ((env : Env) → now env ≡ now' env)
    → IsPlaceDriven m old entry first depth i now → IsPlaceDriven m' new entry first depth i now'
place_stays m m' old new n entry first depth i now now' step same told h = record {
  held = next_stays m m' old new n entry (first + 4 * i) 1 _ _ _ step (same _ (omega arith) (omega arith)) (λ env. ap (λ (x : Now). held_after depth x i) (told env)) h.held;
  pc = next_stays m m' old new n entry (first + 4 * i + 1) 32 _ _ _ step (same _ (omega arith) (omega arith)) (λ env. ap (λ (x : Now). put depth x i x.address x.pc) (told env)) h.pc;
  word = next_stays m m' old new n entry (first + 4 * i + 2) 32 _ _ _ step (same _ (omega arith) (omega arith)) (λ env. ap (λ (x : Now). put depth x i x.payload x.word) (told env)) h.word;
  error = next_stays m m' old new n entry (first + 4 * i + 3) 1 _ _ _ step (same _ (omega arith) (omega arith)) (λ env. ap (λ (x : Now). put depth x i x.failed x.error) (told env)) h.error;
}

-- where the registers stay, so does what they are driven with
module _ (m m' : ModuleValue) (pool : PoolValue) (entry : ℕ) (same : m'.regs ≡ m.regs) (now : Env → Now) where
  row-same : (k : ℕ) → reg_at m'.regs k ≡ reg_at m.regs k
  row-same k = ap (λ (rows : List RegRow). reg_at rows k) same

  pub places_same : (first depth i : ℕ) → IsPlaceDriven m pool entry first depth i now → IsPlaceDriven m' pool entry first depth i now
  places_same first depth i h = place_stays m m' pool pool 0 entry first depth i now now (none pool) (λ k a b. row-same k) (λ env. refl) h

  pub command_same : (reg reset_pc depth : ℕ) → IsCommandDriven m pool entry reg reset_pc depth now → IsCommandDriven m' pool entry reg reset_pc depth now
  command_same reg reset_pc depth h = record {
    given = next_stays m m' pool pool 0 entry reg 1 _ _ _ (none pool) (row-same _) (λ env. refl) h.given;
    owed = next_stays m m' pool pool 0 entry (reg + 1) 1 _ _ _ (none pool) (row-same _) (λ env. refl) h.owed;
    dropped = next_stays m m' pool pool 0 entry (reg + 2) 1 _ _ _ (none pool) (row-same _) (λ env. refl) h.dropped;
    address = next_stays m m' pool pool 0 entry (reg + 3) 32 _ _ _ (none pool) (row-same _) (λ env. refl) h.address;
    next_pc = next_stays m m' pool pool 0 entry (reg + 4) 32 _ _ _ (none pool) (row-same _) (λ env. refl) h.next_pc;
  }
