-- The places of results on their way, as they are driven.
use Rattle.std.proofs.Common.{◌≡◌, ◌∙◌, ℕ, zero, suc, ◌+◌, ◌*◌, ◌<◌, ◌≤◌, List, [], ◌∷◌, length, arith, ap, refl, subst, sym, Option, None, Some}
use Rattle.std.specs.Prelude.{take}
use Rattle.hw_pool.specs.Nodes.{PoolValue}
use Rattle.hw_pool.specs.Meaning.{Env}
use Rattle.hw_pool.specs.Scope.{Scope}
use Rattle.hw_expr.specs.declared.net.Net.{Net}
use Rattle.hw_module.specs.declared.rows.RegRow.{RegRow}
use Rattle.hw_module.specs.Frame.{Grows}
use Rattle.hw_module.specs.Rows.{ModuleValue, reg_at}
use Rattle.hw_module.specs.Scope.{scope_of}
use Rattle.part_laws.specs.Pipes.{LateOwn}
use Rattle.pipe_drive.specs.Drives.{CanMove, CanMoveAll, HasNexts}
use Rattle.pipe_drive.specs.Rows.{PlaceRows, bare_reg}
use Rattle.pipe_steps.specs.Drives.{RegHas, TailHas}
use Rattle.pipe_steps.specs.Numbers.{tail_from}
use Rattle.pipe_steps.specs.Things.{PipeThings}
use Rattle.pipe_steps.specs.Values.{made_late_in, place_stage}
use Rattle.pipe_build.specs.declared.nets.TailNets.{TailNets}
use Rattle.pipe_build.specs.AllNets.{DriveTail}
use Rattle.pipe_build.specs.Bears.{Bears}
use Rattle.pipe_build.specs.Late.{ArePlaces, BearsStage}
use Rattle.pipe_build.proofs.Has.{can_move, reg_has}

abbrev pub place_nets : TailNets → List Net
place_nets n = n.made.writes ∷ n.made.rd ∷ n.made.value ∷ n.second.writes ∷ n.second.rd ∷ n.second.value ∷ []

-- a register whose row is that of one that has no driver
bare_moves : (d : ModuleValue) (pool : PoolValue) (reg number width level : ℕ) (reset : Option ℕ) (f : Env → ℕ) (net : Net) → reg ≡ number → number < length d.regs
    → reg_at d.regs number ≡ bare_reg (width, reset) → Bears (scope_of d) pool width level f net → CanMove d pool reg net
bare_moves d pool reg number width level reset f net same there row h =
    subst (λ (r : ℕ). CanMove d pool r net) (sym same)
    (can_move d (record { there = there; wide = ap (λ (r : RegRow). r.width) row }) (ap (λ (r : RegRow). r.owner) row) (ap (λ (r : RegRow). r.next) row) h)

bare_has : (old new : ModuleValue) (n : ℕ) (pool : PoolValue) (s : Scope) (reg number width level : ℕ) (reset : Option ℕ) (f : Env → ℕ) (net : Net) → Grows old new n → reg ≡ number → number < length old.regs
    → reg_at old.regs number ≡ bare_reg (width, reset) → (reg_at new.regs reg).next ≡ Some net → Bears s pool width level f net → RegHas new pool.nodes number width reset f
bare_has old new n pool s reg number width level reset f net grows same there row e h =
    let stays = grows.regs number there in
    reg_has new number reset (let m = grows.more_regs in omega arith) (stays.width ∙ ap (λ (r : RegRow). r.width) row) (stays.reset ∙ ap (λ (r : RegRow). r.reset) row)
    (subst (λ (r : ℕ). (reg_at new.regs r).next ≡ Some net) same e) h

-- the first place
first_rows : (d : ModuleValue) (reg places : ℕ) → 0 < places → ArePlaces d reg places → (reg + 2 < length d.regs) × PlaceRows d reg
first_rows d reg places l rows = let e : reg + 3 * 0 ≡ reg = omega arith in subst (λ (r : ℕ). (r + 2 < length d.regs) × PlaceRows d r) e (rows 0 l)

module _ (d : ModuleValue) (pool : PoolValue) (reg : ℕ) (p : PipeThings) (n : TailNets) where
  pub places_move : (places : ℕ) → places ≤ 2 → ArePlaces d reg places → DriveTail (scope_of d) pool p n → CanMoveAll d pool reg (take (3 * places) (place_nets n))
  places_move zero most rows h = tt
  places_move (suc zero) most rows h =
      let r = first_rows d reg 1 (omega arith) rows in
      let l = r.0 in (
        bare_moves d pool reg reg 1 7 (Some 0) _ _ refl (omega arith) r.1.writes h.made.writes,
        (
          bare_moves d pool (reg + 1) (reg + 1) 5 7 None _ _ refl (omega arith) r.1.rd h.made.rd,
          (bare_moves d pool (reg + 1 + 1) (reg + 2) 32 7 None _ _ (omega arith) (omega arith) r.1.value h.made.value, tt),
        ),
      )
  places_move (suc (suc zero)) most rows h =
      let r = first_rows d reg 2 (omega arith) rows in
      let l = r.0 in
      let q = rows 1 (omega arith) in
      let k = q.0 in (
        bare_moves d pool reg reg 1 7 (Some 0) _ _ refl (omega arith) r.1.writes h.made.writes,
        (
          bare_moves d pool (reg + 1) (reg + 1) 5 7 None _ _ refl (omega arith) r.1.rd h.made.rd,
          (
            bare_moves d pool (reg + 1 + 1) (reg + 2) 32 7 None _ _ (omega arith) (omega arith) r.1.value h.made.value,
            (
              bare_moves d pool (reg + 1 + 1 + 1) (reg + 3) 1 4 (Some 0) _ _ (omega arith) (omega arith) q.1.writes h.second.writes,
              (
                bare_moves d pool (reg + 1 + 1 + 1 + 1) (reg + 3 + 1) 5 4 None _ _ (omega arith) (omega arith) q.1.rd h.second.rd,
                (bare_moves d pool (reg + 1 + 1 + 1 + 1 + 1) (reg + 3 + 2) 32 4 None _ _ (omega arith) (omega arith) q.1.value h.second.value, tt),
              ),
            ),
          ),
        ),
      )
  places_move (suc (suc (suc k))) most rows h = absurd (omega arith)

  module _ (new : ModuleValue) (many : ℕ) (grows : Grows d new many) where
    pub places_have : (places : ℕ) → places ≤ 2 → ArePlaces d reg places → p.own.tail ≡ tail_from reg places → DriveTail (scope_of d) pool p n → HasNexts new reg (take (3 * places) (place_nets n))
        → TailHas new pool.nodes (λ env. made_late_in p env) (tail_from reg places)
    places_have zero most rows is h e = tt
    places_have (suc zero) most rows is h e =
        let r = first_rows d reg 1 (omega arith) rows in
        let l = r.0 in
        let s = scope_of d in (
          record {
            writes = bare_has d new many pool s reg reg 1 7 (Some 0) _ _ grows refl (omega arith) r.1.writes e.0 h.made.writes;
            rd = bare_has d new many pool s (reg + 1) (reg + 1) 5 7 None _ _ grows refl (omega arith) r.1.rd e.1.0 h.made.rd;
            value = bare_has d new many pool s (reg + 1 + 1) (reg + 2) 32 7 None _ _ grows (omega arith) (omega arith) r.1.value e.1.1.0 h.made.value;
          },
          tt,
        )
    places_have (suc (suc zero)) most rows is h e =
        let r = first_rows d reg 2 (omega arith) rows in
        let l = r.0 in
        let q = rows 1 (omega arith) in
        let k = q.0 in
        let s = scope_of d in
        let second = subst (λ (ts : List LateOwn). BearsStage s pool (λ env. place_stage env ts) n.second) is h.second in (
          record {
            writes = bare_has d new many pool s reg reg 1 7 (Some 0) _ _ grows refl (omega arith) r.1.writes e.0 h.made.writes;
            rd = bare_has d new many pool s (reg + 1) (reg + 1) 5 7 None _ _ grows refl (omega arith) r.1.rd e.1.0 h.made.rd;
            value = bare_has d new many pool s (reg + 1 + 1) (reg + 2) 32 7 None _ _ grows (omega arith) (omega arith) r.1.value e.1.1.0 h.made.value;
          },
          (
            record {
              writes = bare_has d new many pool s (reg + 1 + 1 + 1) (reg + 3) 1 4 (Some 0) _ _ grows (omega arith) (omega arith) q.1.writes e.1.1.1.0 second.writes;
              rd = bare_has d new many pool s (reg + 1 + 1 + 1 + 1) (reg + 3 + 1) 5 4 None _ _ grows (omega arith) (omega arith) q.1.rd e.1.1.1.1.0 second.rd;
              value = bare_has d new many pool s (reg + 1 + 1 + 1 + 1 + 1) (reg + 3 + 2) 32 4 None _ _ grows (omega arith) (omega arith) q.1.value e.1.1.1.1.1.0 second.value;
            },
            tt,
          ),
        )
    places_have (suc (suc (suc k))) most rows is h e = absurd (omega arith)
