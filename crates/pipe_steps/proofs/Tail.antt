-- Results on their way to the registers, in a run of the module.
use Rattle.std.proofs.Common.{◌≡◌, ◌∙◌, ℕ, suc, true, false, eqb, List, [], ◌∷◌, map, refl, ap}
use Rattle.core_ports.specs.Trace.{Trace}
use Rattle.hw_pool.specs.declared.node.Node.{Node}
use Rattle.hw_pool.specs.Meaning.{Env}
use Rattle.hw_module.specs.Rows.{ModuleValue}
use Rattle.plug_law.specs.Hazard.{Ahead}
use Rattle.plug_law.specs.Pipeline.{Late, Idle, shift, leaves, places}
use Rattle.plug_part.specs.Part.{PortTrees}
use Rattle.plug_part.specs.Signals.{ahead_at}
use Rattle.part_laws.specs.Pipes.{LateOwn, late_at}
use Rattle.pipe_steps.specs.Values.{LateValue, StageValue, late_in, leaving, place_stage, places_behind}
use Rattle.pipe_steps.specs.Drives.{LateHas, TailHas, StageHas}
use Rattle.pipe_steps.specs.Runs.{RunsModule}
use Rattle.pipe_steps.proofs.Bits.{Bit, test_is, from}
use Rattle.pipe_steps.proofs.Things.{wire_is, next_is, first_is, bit_at}

-- numbers are those of a result, and of a stage as Hazard sees it
pub record LateIs (v : LateValue) (l : Late) : Type 0 where
  pub writes : Bit v.writes l.writes
  pub rd : v.rd ≡ l.rd
  pub value : v.value ≡ l.value

pub record StageIs (v : StageValue) (a : Ahead) : Type 0 where
  pub writes : Bit v.writes a.writes
  pub rd : v.rd ≡ a.rd
  pub ready : Bit v.ready a.ready
  pub value : v.value ≡ a.value

module _ (m : ModuleValue) (nodes : List Node) (env : ℕ → Env) (run' : Trace) (r : RunsModule m nodes env run') where
  -- what a place holds
  held_is : {t : LateOwn} {f : Env → LateValue} → LateHas m nodes t f → (k : ℕ) → LateIs (late_in (env k) t) (late_at env k t)
  held_is h k = record { writes = bit_at m nodes env run' r h.writes k; rd = refl; value = refl }

  pub shifts : (f : Env → LateValue) (ts : List LateOwn) → TailHas m nodes f ts → (s : ℕ) (new : Late) → LateIs (f (env (suc s))) new
      → map (late_at env (suc (suc s))) ts ≡ shift new (map (late_at env (suc s)) ts)
  shifts f [] h s new is = refl
  shifts f (t ∷ ts) h s new is =
      let came : late_at env (suc (suc s)) t ≡ new = λ i. record {
        writes = test_is (from (next_is m nodes env run' r h.0.writes s) is.writes) i;
        rd = (next_is m nodes env run' r h.0.rd s ∙ is.rd) i;
        value = (next_is m nodes env run' r h.0.value s ∙ is.value) i;
      } in
      let rest = shifts (λ e. late_in e t) ts h.1 s (late_at env (suc s) t) (held_is h.0 (suc s)) in
      λ i. came i ∷ rest i

  pub idle_first : (f : Env → LateValue) (ts : List LateOwn) → TailHas m nodes f ts → Idle (map (late_at env 1) ts)
  idle_first f [] h = tt
  idle_first f (t ∷ ts) h = (ap (λ n. eqb n 1) (first_is m nodes env run' r h.0.writes), idle_first (λ e. late_in e t) ts h.1)

  pub leaving_is : (f : Env → LateValue) (ts : List LateOwn) → TailHas m nodes f ts → (k : ℕ) (v : LateValue) (new : Late) → LateIs v new
      → LateIs (leaving (env k) v ts) (leaves new (map (late_at env k) ts))
  leaving_is f [] h k v new is = is
  leaving_is f (t ∷ ts) h k v new is = leaving_is (λ e. late_in e t) ts h.1 k (late_in (env k) t) (late_at env k t) (held_is h.0 k)

  pub ahead_is : {o : PortTrees} {place : ℕ} {f : Env → StageValue} → StageHas m nodes o place f → (k : ℕ) (a : Ahead) → StageIs (f (env k)) a → ahead_at o place env k ≡ a
  ahead_is h k a is = λ i. record {
    writes = test_is (from (wire_is m nodes env run' r h.writes k) is.writes) i;
    rd = (wire_is m nodes env run' r h.rd k ∙ is.rd) i;
    ready = test_is (from (wire_is m nodes env run' r h.ready k) is.ready) i;
    value = (wire_is m nodes env run' r h.value k ∙ is.value) i;
  }

  abbrev empty : Ahead
  empty = record { writes = false; rd = 0; ready = false; value = 0 }

  empty_is : StageIs (record { writes = 0; rd = 0; ready = 0; value = 0 }) empty
  empty_is = record { writes = record { is = refl }; rd = refl; ready = record { is = refl }; value = refl }

  abbrev seen : ℕ → LateOwn → Ahead
  seen k t = record { writes = (late_at env k t).writes; rd = (late_at env k t).rd; ready = true; value = (late_at env k t).value }

  seen_is : {t : LateOwn} {f : Env → LateValue} → LateHas m nodes t f → (k : ℕ) → StageIs (record { writes = (env k).regs t.writes; rd = (env k).regs t.rd; ready = 1; value = (env k).regs t.value }) (seen k t)
  seen_is h k = record { writes = bit_at m nodes env run' r h.writes k; rd = refl; ready = record { is = refl }; value = refl }

  -- two stages behind the one that executes
  pub places_are : (f : Env → LateValue) (ts : List LateOwn) → TailHas m nodes f ts → (k : ℕ) (a b : Ahead)
      → ((x : Ahead) → StageIs (place_stage (env k) ts) x → a ≡ x) → ((x : Ahead) → StageIs (place_stage (env k) (places_behind ts)) x → b ≡ x)
      → ◌≡◌ {A = List Ahead} (a ∷ b ∷ []) (places 2 (map (late_at env k) ts))
  places_are f [] h k a b first second = λ i. first empty empty_is i ∷ second empty empty_is i ∷ []
  places_are f (t ∷ []) h k a b first second = λ i. first (seen k t) (seen_is h.0 k) i ∷ second empty empty_is i ∷ []
  places_are f (t ∷ u ∷ ts) h k a b first second = λ i. first (seen k t) (seen_is h.0 k) i ∷ second (seen k u) (seen_is h.1.0 k) i ∷ []
