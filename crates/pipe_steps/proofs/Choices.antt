-- Bits and numbers that depend on what is laid down: whether there is System, and where a unit works.
use Rattle.std.proofs.Common.{◌≡◌, ◌∙◌, ℕ, Bool, true, false, cond, not, ◌&&◌, refl, sym, ap, subst, Option, None, Some, is_some}
use Rattle.plug_part.specs.Part.{PortTrees}
use Rattle.plug_part.specs.Signals.{or_none}
use Rattle.plug_law.specs.Pipeline.{Slot}
use Rattle.part_laws.specs.Joined.{ports_in}
use Rattle.pipe_nets.specs.Told.{kind_of, kind_alone_of}
use Rattle.pipe_steps.proofs.Bits.{Bit, kind_is, kind_alone_is}

pub unless_bit : (b : Bool) {x : ℕ} {t : Bool} → Bit x t → Bit (cond b 0 x) (not b && t)
unless_bit true p = record { is = refl }
unless_bit false p = p

pub either_bit : (b : Bool) {x y : ℕ} {s t : Bool} → Bit x s → Bit y t → Bit (cond b x y) (cond b s t)
either_bit true p q = p
either_bit false p q = q

-- without System nothing is asked
pub kind_told : (b : Bool) {x y : ℕ} {a f : Bool} → Bit x a → Bit y f → (b ≡ false → a ≡ false)
    → cond b (kind_of x y) (kind_alone_of x y) ≡ cond a 2 (cond f (cond b 1 3) 0)
kind_told true p q h = kind_is p q
kind_told false {x} {y} {a} {f} p q h = kind_alone_is (subst (Bit x) (h refl) p) q ∙ ap (λ a. cond a 2 (cond f 3 0)) (sym (h refl))

-- what holds of the ports of System where it is there
pub of_system : (Q : PortTrees → Type 0) (o : Option (ℕ × PortTrees)) → is_some o ≡ true → ((y : PortTrees) → ports_in o ≡ Some y → Q y) → Q (or_none (ports_in o))
of_system Q None is h = absurd cc
of_system Q (Some e) is h = h e.1 refl

-- the item in front, register by register
pub slot_cond : (e : Bool) (x y : Slot) → record {
  pc = cond e x.pc y.pc;
  word = cond e x.word y.word;
  error = cond e x.error y.error;
  legal = cond e x.legal y.legal;
  row = cond e x.row y.row;
  except = cond e x.except y.except;
  writes = cond e x.writes y.writes;
  a = cond e x.a y.a;
  b = cond e x.b y.b;
} ≡ cond e x y
slot_cond true x y = refl
slot_cond false x y = refl
