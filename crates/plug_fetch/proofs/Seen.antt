-- What is read stays while nodes are added, and shows the cycle.
use Rattle.std.proofs.Common.{◌≡◌, ◌∙◌, ℕ, ◌+◌, ◌*◌, List, get_or, Option, ap, sym}
use Rattle.hw_pool.specs.Nodes.{PoolValue}
use Rattle.hw_pool.specs.Meaning.{Env}
use Rattle.hw_pool.specs.Scope.{Scope}
use Rattle.hw_expr.specs.declared.net.Net.{Net}
use Rattle.hw_expr.specs.Nets.{InScope}
use Rattle.hw_gates.specs.Places.{Step, value_in}
use Rattle.hw_gates.proofs.Has.{in_scope}
use Rattle.hw_gates.proofs.Steps.{kept, stays, stays_in}
use Rattle.service_ports.specs.declared.ports.FetchPorts.{FetchPorts}
use Rattle.service_ports.specs.Ports.{fetch_ports}
use Rattle.plug_part.specs.Part.{PortTrees}
use Rattle.plug_fetch.specs.declared.places.Cycle.{Cycle}
use Rattle.plug_fetch.specs.Builds.{guess_in, now_in}
use Rattle.plug_fetch.specs.Late.{ReadsCycle}
use Rattle.plug_fetch.specs.Reads.{Reads}
use Rattle.plug_fetch.specs.Registers.{IsCycle, IsCycleIn, numbers_from, seen_in}

pub reads_stay : (s : Scope) (old new : PoolValue) (n : ℕ) → Step old new n → (width : ℕ) (f : Env → ℕ) (net : Net) → Reads old s width f net → Reads new s width f net
reads_stay s old new n step width f net r = record {
  is = stays old new n net width 8 step r.is;
  scope = stays_in s old new n net step r.is.0 r.scope;
  value = λ env. kept env old new n net step r.is.0 ∙ r.value env;
}

module _ (pool : PoolValue) (s : Scope) (reg : ℕ) (ports : FetchPorts) (predict : Option PortTrees) (c : Cycle) (r : ReadsCycle pool s reg ports predict c) where
  pub cycle_is : IsCycle pool c
  cycle_is = record {
    given = r.given.is;
    owed = r.owed.is;
    dropped = r.dropped.is;
    address = r.address.is;
    next_pc = r.next_pc.is;
    take = r.take.is;
    redirect = r.redirect.is;
    redirect_pc = r.redirect_pc.is;
    ready = r.ready.is;
    answered = r.answered.is;
    failed = r.failed.is;
    payload = r.payload.is;
    guess = r.guess.is;
  }

  pub cycle_in : IsCycleIn s pool c
  cycle_in = record {
    given = r.given.scope;
    owed = r.owed.scope;
    dropped = r.dropped.scope;
    address = r.address.scope;
    next_pc = r.next_pc.scope;
    take = r.take.scope;
    redirect = r.redirect.scope;
    redirect_pc = r.redirect_pc.scope;
    ready = r.ready.scope;
    answered = r.answered.scope;
    failed = r.failed.scope;
    payload = r.payload.scope;
    guess = r.guess.scope;
  }

  pub seen_is : (first depth : ℕ) (o : PortTrees) → reg ≡ first + 4 * depth → o.inputs ≡ (fetch_ports ports).inputs → (env : Env)
      → seen_in env pool c first ≡ now_in (numbers_from first depth) o predict env
  seen_is first depth o at inputs env =
      let given : value_in env pool c.given ≡ env.regs (first + 4 * depth) = r.given.value env ∙ ap env.regs at in
      let owed : value_in env pool c.owed ≡ env.regs (first + 4 * depth + 1) = r.owed.value env ∙ ap (λ (k : ℕ). env.regs (k + 1)) at in
      let dropped : value_in env pool c.dropped ≡ env.regs (first + 4 * depth + 2) = r.dropped.value env ∙ ap (λ (k : ℕ). env.regs (k + 2)) at in
      let address : value_in env pool c.address ≡ env.regs (first + 4 * depth + 3) = r.address.value env ∙ ap (λ (k : ℕ). env.regs (k + 3)) at in
      let next_pc : value_in env pool c.next_pc ≡ env.regs (first + 4 * depth + 4) = r.next_pc.value env ∙ ap (λ (k : ℕ). env.regs (k + 4)) at in
      let take : value_in env pool c.take ≡ env.wires (get_or o.inputs 0 0) = r.take.value env ∙ ap (λ (ws : List ℕ). env.wires (get_or ws 0 0)) (sym inputs) in
      let redirect : value_in env pool c.redirect ≡ env.wires (get_or o.inputs 1 0) = r.redirect.value env ∙ ap (λ (ws : List ℕ). env.wires (get_or ws 1 0)) (sym inputs) in
      let redirect_pc : value_in env pool c.redirect_pc ≡ env.wires (get_or o.inputs 2 0) =
      r.redirect_pc.value env ∙ ap (λ (ws : List ℕ). env.wires (get_or ws 2 0)) (sym inputs) in
      let guess : value_in env pool c.guess ≡ guess_in predict (env.regs (first + 4 * depth + 3)) env =
      r.guess.value env ∙ ap (λ (k : ℕ). guess_in predict (env.regs (k + 3)) env) at in
      λ j. record {
        held = λ i. env.regs (first + 4 * i);
        pc = λ i. env.regs (first + 4 * i + 1);
        word = λ i. env.regs (first + 4 * i + 2);
        error = λ i. env.regs (first + 4 * i + 3);
        given = given j;
        owed = owed j;
        dropped = dropped j;
        address = address j;
        next_pc = next_pc j;
        take = take j;
        redirect = redirect j;
        redirect_pc = redirect_pc j;
        ready = r.ready.value env j;
        answered = r.answered.value env j;
        failed = r.failed.value env j;
        payload = r.payload.value env j;
        guess = guess j;
      }

pub reads_scope : (pool : PoolValue) (s : Scope) (width : ℕ) (f : Env → ℕ) (net : Net) → Reads pool s width f net → InScope s pool net
reads_scope pool s width f net r = in_scope s pool net r.is.0 r.scope
