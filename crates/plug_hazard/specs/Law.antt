-- The law of the part: the youngest writer of each register is chosen, and an item waits exactly where its result is not there.
use Rattle.std.specs.Prelude.{◌≡◌, ℕ, suc, ◌<◌, Bool, eqb, List, [], ◌∷◌, map}
use Rattle.core_words.specs.Values.{one_if}
use Rattle.plug_law.specs.RegFile.{RegSignals}
use Rattle.plug_law.specs.Hazard.{Ahead, HazardSignals, HazardLaw, writer, waits_for, value_or}
use Rattle.plug_hazard.specs.Machine.{Told, chosen_of, hold_of}

-- what a stage shows, with truth values for bits
abbrev pub ahead_of : Told → Ahead
ahead_of s = record { writes = eqb s.writes 1; rd = s.rd; ready = eqb s.ready 1; value = s.value }

-- what is one bit wide is a bit
abbrev pub AreBits : List Told → Type 0
AreBits [] = Unit {0}
AreBits (s ∷ rest) = (s.writes < 2) × (s.ready < 2) × AreBits rest

pub record Chooses (bypassed : ℕ → Bool) (stages : List Told) (r plain : ℕ) : Type 0 where
  pub value : (chosen_of r bypassed stages plain).value ≡ value_or (writer bypassed (map ahead_of stages) r) plain
  pub bad : (chosen_of r bypassed stages plain).bad ≡ one_if (waits_for (writer bypassed (map ahead_of stages) r))

-- one cycle: what the stages show, the registers of the item in decode and what RegFile says of them, and whether it uses them
pub record Now : Type 0 where
  pub stages : List Told
  pub ra : ℕ
  pub rb : ℕ
  pub uses_a : ℕ
  pub uses_b : ℕ
  pub plain_a : ℕ
  pub plain_b : ℕ

-- the outputs of each cycle are the equations at what is there in it
pub record IsHazard (bypassed : ℕ → Bool) (q : ℕ → Now) (h : HazardSignals) (r : RegSignals) : Type 0 where
  pub bits : (s : ℕ) → AreBits (q (suc s)).stages
  pub uses_a_bit : (s : ℕ) → (q (suc s)).uses_a < 2
  pub uses_b_bit : (s : ℕ) → (q (suc s)).uses_b < 2
  pub stages : (s : ℕ) → h.stages (suc s) ≡ map ahead_of (q (suc s)).stages
  pub ra : (s : ℕ) → h.ra (suc s) ≡ (q (suc s)).ra
  pub rb : (s : ℕ) → h.rb (suc s) ≡ (q (suc s)).rb
  pub uses_a : (s : ℕ) → h.uses_a (suc s) ≡ eqb (q (suc s)).uses_a 1
  pub uses_b : (s : ℕ) → h.uses_b (suc s) ≡ eqb (q (suc s)).uses_b 1
  pub plain_a : (s : ℕ) → r.a (suc s) ≡ (q (suc s)).plain_a
  pub plain_b : (s : ℕ) → r.b (suc s) ≡ (q (suc s)).plain_b
  pub a : (s : ℕ) → h.a (suc s) ≡ (chosen_of (q (suc s)).ra bypassed (q (suc s)).stages (q (suc s)).plain_a).value
  pub b : (s : ℕ) → h.b (suc s) ≡ (chosen_of (q (suc s)).rb bypassed (q (suc s)).stages (q (suc s)).plain_b).value
  pub hold : (s : ℕ) → h.hold (suc s)
      ≡ eqb (hold_of (q (suc s)).uses_a (chosen_of (q (suc s)).ra bypassed (q (suc s)).stages (q (suc s)).plain_a).bad
      (q (suc s)).uses_b (chosen_of (q (suc s)).rb bypassed (q (suc s)).stages (q (suc s)).plain_b).bad) 1

abbrev pub HazardKeepsLaw : Type 0
HazardKeepsLaw = (bypassed : ℕ → Bool) (q : ℕ → Now) (h : HazardSignals) (r : RegSignals) → IsHazard bypassed q h r → HazardLaw bypassed h r
