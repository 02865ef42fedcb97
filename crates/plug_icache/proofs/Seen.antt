-- What is read stays while nodes are added, and shows the cycle.
use Rattle.std.proofs.Common.{◌≡◌, ◌∙◌, ℕ, ◌+◌, ◌-◌, ◌≤◌, List, get_or, Option, ap, sym, arith}
use Rattle.hw_pool.specs.Nodes.{PoolValue}
use Rattle.hw_pool.specs.Meaning.{Env}
use Rattle.hw_pool.specs.Scope.{Scope}
use Rattle.hw_expr.specs.declared.net.Net.{Net}
use Rattle.hw_expr.specs.Nets.{InScope}
use Rattle.hw_gates.specs.Places.{Step, value_in}
use Rattle.hw_gates.proofs.Has.{in_scope}
use Rattle.hw_gates.proofs.Steps.{kept, stays, stays_in}
use Rattle.service_ports.specs.declared.ports.FetchPorts.{FetchPorts}
use Rattle.service_ports.specs.Ports.{fetch_ports}
use Rattle.plug_part.specs.Part.{PortTrees}
use Rattle.cache_nets.specs.declared.shapes.Coming.{Coming}
use Rattle.cache_nets.specs.declared.shapes.Cycle.{Cycle}
use Rattle.cache_nets.specs.declared.shapes.Four.{Four}
use Rattle.cache_nets.specs.declared.shapes.Sizes.{Sizes}
use Rattle.cache_nets.specs.Nets.{IsCycle, IsCycleIn, seen_in}
use Rattle.plug_icache.specs.Builds.{guess_in, now_in}
use Rattle.plug_icache.specs.Late.{ReadsComing, ReadsCycle, ReadsFour, caught_of, front_of, item_of, reading_of}
use Rattle.plug_icache.specs.Reads.{Reads}

pub reads_stay : (s : Scope) (old new : PoolValue) (n : ℕ) → Step old new n → (width level : ℕ) (f : Env → ℕ) (net : Net) → Reads old s width level f net → Reads new s width level f net
reads_stay s old new n step width level f net r = record {
  is = stays old new n net width level step r.is;
  scope = stays_in s old new n net step r.is.0 r.scope;
  value = λ env. kept env old new n net step r.is.0 ∙ r.value env;
}

pub four_stays : (s : Scope) (old new : PoolValue) (n : ℕ) → Step old new n → (a b c d reg : ℕ) (f : Four) → ReadsFour old s a b c d reg f → ReadsFour new s a b c d reg f
four_stays s old new n step a b c d reg f r = record {
  first = reads_stay s old new n step a 0 _ f.first r.first;
  second = reads_stay s old new n step b 0 _ f.second r.second;
  third = reads_stay s old new n step c 0 _ f.third r.third;
  fourth = reads_stay s old new n step d 0 _ f.fourth r.fourth;
}

pub reads_scope : (pool : PoolValue) (s : Scope) (width level : ℕ) (f : Env → ℕ) (net : Net) → Reads pool s width level f net → InScope s pool net
reads_scope pool s width level f net r = in_scope s pool net r.is.0 r.scope

module _ (pool : PoolValue) (s : Scope) (z : Sizes) (first tags : ℕ) (ports : FetchPorts) (predict : Option PortTrees) (c : Cycle) (r : ReadsCycle pool s z.index z.place first tags ports predict c) where
  pub cycle_is : IsCycle z pool c
  cycle_is = record {
    held = record {
      pc = r.front.first.is;
      walk = r.front.second.is;
      given = r.front.third.is;
      owed = r.front.fourth.is;
      dropped = r.reading.first.is;
      line = r.reading.second.is;
      place = r.reading.third.is;
      bad = r.reading.fourth.is;
      wanted = r.caught.first.is;
      captured = r.caught.second.is;
      captured_word = r.caught.third.is;
      captured_error = r.caught.fourth.is;
      full = r.item.first.is;
      out_pc = r.item.second.is;
      out_word = r.item.third.is;
      out_error = r.item.fourth.is;
    };
    coming = record {
      take = r.coming.take.is;
      redirect = r.coming.redirect.is;
      redirect_pc = r.coming.redirect_pc.is;
      fence = r.coming.fence.is;
      ready = r.coming.ready.is;
      answered = r.coming.answered.is;
      failed = r.coming.failed.is;
      payload = r.coming.payload.is;
    };
    tag = r.tag.is;
    cell = r.cell.is;
    guess = r.guess.is;
  }

  pub cycle_in : IsCycleIn s pool c
  cycle_in = record {
    held = record {
      pc = r.front.first.scope;
      walk = r.front.second.scope;
      given = r.front.third.scope;
      owed = r.front.fourth.scope;
      dropped = r.reading.first.scope;
      line = r.reading.second.scope;
      place = r.reading.third.scope;
      bad = r.reading.fourth.scope;
      wanted = r.caught.first.scope;
      captured = r.caught.second.scope;
      captured_word = r.caught.third.scope;
      captured_error = r.caught.fourth.scope;
      full = r.item.first.scope;
      out_pc = r.item.second.scope;
      out_word = r.item.third.scope;
      out_error = r.item.fourth.scope;
    };
    coming = record {
      take = r.coming.take.scope;
      redirect = r.coming.redirect.scope;
      redirect_pc = r.coming.redirect_pc.scope;
      fence = r.coming.fence.scope;
      ready = r.coming.ready.scope;
      answered = r.coming.answered.scope;
      failed = r.coming.failed.scope;
      payload = r.coming.payload.scope;
    };
    tag = r.tag.scope;
    cell = r.cell.scope;
    guess = r.guess.scope;
  }

  pub seen_is : (o : PortTrees) → o.inputs ≡ (fetch_ports ports).inputs → (env : Env) → seen_in env pool c ≡ now_in z.index z.place first tags o predict env
  seen_is o inputs env =
      let take : value_in env pool c.coming.take ≡ env.wires (get_or o.inputs 0 0) = r.coming.take.value env ∙ ap (λ (ws : List ℕ). env.wires (get_or ws 0 0)) (sym inputs) in
      let redirect : value_in env pool c.coming.redirect ≡ env.wires (get_or o.inputs 1 0) = r.coming.redirect.value env ∙ ap (λ (ws : List ℕ). env.wires (get_or ws 1 0)) (sym inputs) in
      let redirect_pc : value_in env pool c.coming.redirect_pc ≡ env.wires (get_or o.inputs 2 0) =
      r.coming.redirect_pc.value env ∙ ap (λ (ws : List ℕ). env.wires (get_or ws 2 0)) (sym inputs) in
      let fence : value_in env pool c.coming.fence ≡ env.wires (get_or o.inputs 3 0) = r.coming.fence.value env ∙ ap (λ (ws : List ℕ). env.wires (get_or ws 3 0)) (sym inputs) in
      λ j. record {
        pc = r.front.first.value env j;
        walk = r.front.second.value env j;
        given = r.front.third.value env j;
        owed = r.front.fourth.value env j;
        dropped = r.reading.first.value env j;
        line = r.reading.second.value env j;
        place = r.reading.third.value env j;
        bad = r.reading.fourth.value env j;
        wanted = r.caught.first.value env j;
        captured = r.caught.second.value env j;
        captured_word = r.caught.third.value env j;
        captured_error = r.caught.fourth.value env j;
        full = r.item.first.value env j;
        out_pc = r.item.second.value env j;
        out_word = r.item.third.value env j;
        out_error = r.item.fourth.value env j;
        tag = r.tag.value env j;
        cell = r.cell.value env j;
        take = take j;
        redirect = redirect j;
        redirect_pc = redirect_pc j;
        fence = fence j;
        ready = r.coming.ready.value env j;
        answered = r.coming.answered.value env j;
        failed = r.coming.failed.value env j;
        payload = r.coming.payload.value env j;
        guess = r.guess.value env j;
      }
