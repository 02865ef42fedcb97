-- Outputs of the chosen unit, by a list of units and by entries.
use Rattle.std.proofs.Common.{◌≡◌, ◌∙◌, ℕ, ◌<◌, Bool, true, false, cond, eqb, List, [], ◌∷◌, map, ◌&&◌, ◌||◌, bit_or, refl, sym, ap, subst}
use Rattle.std.proofs.Math.Path.{ap₂}
use Rattle.std.specs.Prelude.{All}
use Rattle.std.proofs.lemmas.Bool.{eqb-true}
use Rattle.std.proofs.lemmas.List.Elements.{All-head, All-tail}
use Rattle.core_words.specs.Values.{one_if, choose}
use Rattle.hw_pool.specs.Meaning.{Env}
use Rattle.plug_law.specs.Pipeline.{any_done, gather, gather_bit, member}
use Rattle.plug_part.specs.Part.{PortTrees}
use Rattle.pipe_nets.specs.Picks.{gathered}
use Rattle.pipe_steps.specs.Equations.{any_of}
use Rattle.pipe_steps.specs.Things.{PipeUnit}
use Rattle.pipe_steps.specs.Values.{out_of}
use Rattle.pipe_steps.proofs.Bits.{Bit, bit_of, either, chosen}

abbrev pub entries : List PipeUnit → List ℕ
entries us = map (λ (u : PipeUnit). u.entry) us

-- a chosen output of one bit
masked : {c x : ℕ} {t b : Bool} → Bit c t → Bit x b → Bit (choose c x 0) (t && b)
masked {c} {x} {t} {b} p q = record { is = chosen p x 0 ∙ go t }
  where
    go : (t : Bool) → cond t x 0 ≡ one_if (t && b)
    go true = q.is
    go false = refl

module _ (env : Env) (chosen_of : ℕ → ℕ) (exec : ℕ → PortTrees) where
  abbrev is_chosen : ℕ → Bool
  is_chosen k = eqb (env.regs (chosen_of k)) 1

  abbrev HasPorts : PipeUnit → Type 0
  HasPorts u = exec u.entry ≡ u.ports

  abbrev HasChosen : PipeUnit → Type 0
  HasChosen u = chosen_of u.entry ≡ u.chosen

  pub gather_is : (i : ℕ) (us : List PipeUnit) → All HasChosen us → All HasPorts us
      → gathered (map (λ (u : PipeUnit). (env.regs u.chosen, out_of env u.ports i)) us) ≡ gather is_chosen (entries us) (λ k. out_of env (exec k) i)
  unfolding gathered
  gather_is i [] cs ps = refl
  gather_is i (u ∷ us) cs ps =
      let c : chosen_of u.entry ≡ u.chosen = All-head HasChosen u us cs in
      let p : exec u.entry ≡ u.ports = All-head HasPorts u us ps in
      ap₂ bit_or (λ j. choose (env.regs (sym c j)) (out_of env (sym p j) i) 0) (gather_is i us (All-tail HasChosen u us cs) (All-tail HasPorts u us ps))

  pub gather_bit_is : (i : ℕ) (us : List PipeUnit) → All HasChosen us → All HasPorts us → All (λ (u : PipeUnit). env.regs u.chosen < 2) us → All (λ (u : PipeUnit). out_of env u.ports i < 2) us
      → Bit (gathered (map (λ (u : PipeUnit). (env.regs u.chosen, out_of env u.ports i)) us)) (gather_bit is_chosen (entries us) (λ k. eqb (out_of env (exec k) i) 1))
  unfolding gathered
  gather_bit_is i [] cs ps rs os = record { is = refl }
  gather_bit_is i (u ∷ us) cs ps rs os =
      let c : chosen_of u.entry ≡ u.chosen = All-head HasChosen u us cs in
      let p : exec u.entry ≡ u.ports = All-head HasPorts u us ps in
      let is_one : Bit (env.regs u.chosen) (is_chosen u.entry) =
      subst (λ r. Bit (env.regs u.chosen) (eqb (env.regs r) 1)) (sym c) (bit_of (env.regs u.chosen) (All-head (λ (u : PipeUnit). env.regs u.chosen < 2) u us rs)) in
      let is_out : Bit (out_of env u.ports i) (eqb (out_of env (exec u.entry) i) 1) =
      subst (λ o. Bit (out_of env u.ports i) (eqb (out_of env o i) 1)) (sym p) (bit_of (out_of env u.ports i) (All-head (λ (u : PipeUnit). out_of env u.ports i < 2) u us os)) in
      either (masked is_one is_out)
      (gather_bit_is i us (All-tail HasChosen u us cs) (All-tail HasPorts u us ps) (All-tail (λ (u : PipeUnit). env.regs u.chosen < 2) u us rs) (All-tail (λ (u : PipeUnit). out_of env u.ports i < 2) u us os))

  pub any_done_is : (us : List PipeUnit) → All HasPorts us → All (λ (u : PipeUnit). out_of env u.ports 0 < 2) us
      → Bit (any_of (map (λ (u : PipeUnit). out_of env u.ports 0) us)) (any_done (λ k. eqb (out_of env (exec k) 0) 1) (entries us))
  unfolding any_of
  any_done_is [] ps os = record { is = refl }
  any_done_is (u ∷ us) ps os =
      let p : exec u.entry ≡ u.ports = All-head HasPorts u us ps in
      either
      (subst (λ o. Bit (out_of env u.ports 0) (eqb (out_of env o 0) 1)) (sym p) (bit_of (out_of env u.ports 0) (All-head (λ (u : PipeUnit). out_of env u.ports 0 < 2) u us os)))
      (any_done_is us (All-tail HasPorts u us ps) (All-tail (λ (u : PipeUnit). out_of env u.ports 0 < 2) u us os))

-- what holds of each unit holds of each entry
pub of_entry : (Q : ℕ → Type 0) (us : List PipeUnit) → All (λ (u : PipeUnit). Q u.entry) us → (k : ℕ) → member k (entries us) ≡ true → Q k
of_entry Q [] h k is = absurd cc
of_entry Q (u ∷ us) h k is = go (eqb u.entry k) refl (of_entry Q us (All-tail (λ (u : PipeUnit). Q u.entry) u us h) k)
  where
    go : (b : Bool) → eqb u.entry k ≡ b → (member k (entries us) ≡ true → Q k) → Q k
    go true e rest = subst Q (eqb-true u.entry k e) (All-head (λ (u : PipeUnit). Q u.entry) u us h)
    go false e rest = rest (ap (λ b. b || member k (entries us)) (sym e) ∙ is)
