-- Names of ports in their order, and the place of one.
use Rattle.std.proofs.Common.{◌≡◌, ℕ, suc, ◌+◌, ◌<◌, Bool, true, false, cond, List, [], ◌∷◌, ◌||◌, length, get_or, drop, Option, Some, refl, sym, ap, ◌∙◌, subst, arith, add-one}
use Rattle.std.proofs.Math.Seq.{drop-cons}
use Rattle.core_words.specs.Names.{same_name}
use Rattle.core_ports.specs.Ports.{CorePort, all_ports, name_of}
use Rattle.bus_law.specs.declared.signals.BusIn.{BusIn}
use Rattle.verilog_tree.specs.declared.tree.PortDecl.{PortDecl}
use Rattle.verilog_mean.specs.Look.{look, or_else, pick_if}
use Rattle.verilog_mean.specs.Plain.{Port}
use Rattle.verilog_mean.specs.Erase.{plain_port, plain_ports, range_width}
use Rattle.verilog_mean.specs.Names.{is_among}
use Rattle.verilog_sim.specs.Layouts.{input_names, output_names}
use Rattle.core_sim.specs.Joint.{input_value, inputs_of}
use Rattle.core_sim.specs.Bench.{IsPlace}
use Rattle.core_sim.proofs.CorePorts.{same_is}

-- the rest of a list from an element on
pub here : {A : Type 0} (xs : List A) (i : ℕ) (x : A) → i < length xs → x ≡ get_or xs i x → drop i xs ≡ x ∷ drop (i + 1) xs
here xs i x h e = rw (add-one, drop-cons xs i x h) (ap (λ y. y ∷ drop (suc i) xs) (sym e))

-- ---- the names of a port and of those after it

outputs_from : (b : Bool) (width : ℕ) (name : List ℕ) (qs : List Port) → output_names (plain_port b width name ∷ qs) ≡ cond b (output_names qs) (name ∷ output_names qs)
outputs_from true width name qs = refl
outputs_from false width name qs = refl

inputs_from : (b : Bool) (width : ℕ) (name : List ℕ) (qs : List Port) → input_names (plain_port b width name ∷ qs) ≡ cond b (name ∷ input_names qs) (input_names qs)
inputs_from true width name qs = refl
inputs_from false width name qs = refl

module _ (ports more : List PortDecl) (p : PortDecl) (s : ports ≡ p ∷ more) where
  pub no_output : p.input ≡ true → output_names (plain_ports ports) ≡ output_names (plain_ports more)
  no_output e = ap (λ l. output_names (plain_ports l)) s ∙ outputs_from p.input (range_width p.range) p.name.text (plain_ports more)
      ∙ ap (λ b. cond b (output_names (plain_ports more)) (p.name.text ∷ output_names (plain_ports more))) e

  pub one_output : p.input ≡ false → output_names (plain_ports ports) ≡ p.name.text ∷ output_names (plain_ports more)
  one_output e = ap (λ l. output_names (plain_ports l)) s ∙ outputs_from p.input (range_width p.range) p.name.text (plain_ports more)
      ∙ ap (λ b. cond b (output_names (plain_ports more)) (p.name.text ∷ output_names (plain_ports more))) e

  pub no_input : p.input ≡ false → input_names (plain_ports ports) ≡ input_names (plain_ports more)
  no_input e = ap (λ l. input_names (plain_ports l)) s ∙ inputs_from p.input (range_width p.range) p.name.text (plain_ports more)
      ∙ ap (λ b. cond b (p.name.text ∷ input_names (plain_ports more)) (input_names (plain_ports more))) e

  pub one_input : p.input ≡ true → input_names (plain_ports ports) ≡ p.name.text ∷ input_names (plain_ports more)
  one_input e = ap (λ l. input_names (plain_ports l)) s ∙ inputs_from p.input (range_width p.range) p.name.text (plain_ports more)
      ∙ ap (λ b. cond b (p.name.text ∷ input_names (plain_ports more)) (input_names (plain_ports more))) e

-- ---- the place of a name

-- a name stands in the rest of a list, which begins at a place
pub record IsRest (names rest : List (List ℕ)) (x : List ℕ) (at : ℕ) : Type 0 where
  pub among : is_among x rest ≡ true
  pub places : (i : ℕ) → IsPlace rest x i → IsPlace names x (at + i)

pub rest_start : (names : List (List ℕ)) (x : List ℕ) → is_among x names ≡ true → IsRest names names x 0
rest_start names x e = record { among = e; places = λ i h. subst (IsPlace names x) (zero_plus i) h }
  where
    zero_plus : (k : ℕ) → k ≡ 0 + k
    zero_plus k = omega arith

pub rest_same : (names rest rest' : List (List ℕ)) (x : List ℕ) (at : ℕ) → rest ≡ rest' → IsRest names rest x at → IsRest names rest' x at
rest_same names rest rest' x at e h = subst (λ r. IsRest names r x at) e h

pub rest_found : (names rest : List (List ℕ)) (x n : List ℕ) (at : ℕ) → n ≡ x → IsRest names (n ∷ rest) x at → IsPlace names x at
rest_found names rest x n at e h = subst (IsPlace names x) (plus_zero at) (h.places 0 (omega arith, e))
  where
    plus_zero : (k : ℕ) → k + 0 ≡ k
    plus_zero k = omega arith

other : (a b : Bool) → (a ≡ true → ⊥) → (a || b) ≡ true → b ≡ true
other true b n e = absurd (n refl)
other false b n e = e

pub rest_next : (names rest : List (List ℕ)) (x n : List ℕ) (at : ℕ) → (n ≡ x → ⊥) → IsRest names (n ∷ rest) x at → IsRest names rest x (at + 1)
rest_next names rest x n at d h = record {
  among = other (same_name n x) (is_among x rest) (λ e. d (same_is n x e)) h.among;
  places = λ i p. subst (IsPlace names x) (moved i) (h.places (suc i) (omega (arith, p.0), p.1));
}
  where
    moved : (i : ℕ) → at + suc i ≡ at + 1 + i
    moved i = omega arith

pub rest_ended : (names : List (List ℕ)) (x : List ℕ) (at : ℕ) → IsRest names [] x at → ⊥
rest_ended names x at h = let e = h.among in cc

-- ---- a name that no driven port has is given 0

zero_step : (v : ℕ) (rest : Option ℕ) (b : Bool) → (b ≡ true → v ≡ 0) → or_else rest 0 ≡ 0 → or_else (pick_if b v rest) 0 ≡ 0
zero_step v rest true f g = f refl
zero_step v rest false f g = g

zero_among : (r : ℕ) (b : BusIn) (l : ℕ) (x : List ℕ) → ((p : CorePort) → x ≡ name_of p → input_value r b l p ≡ 0) → (ps : List CorePort)
    → or_else (look (λ p. Some (name_of p, input_value r b l p)) ps x) 0 ≡ 0
zero_among r b l x h [] = refl
zero_among r b l x h (p ∷ ps) = zero_step (input_value r b l p) (look (λ q. Some (name_of q, input_value r b l q)) ps x) (same_name (name_of p) x)
    (λ e. h p (sym (same_is (name_of p) x e))) (zero_among r b l x h ps)

pub zero_given : (r : ℕ) (b : BusIn) (l : ℕ) (x : List ℕ) → ((p : CorePort) → x ≡ name_of p → input_value r b l p ≡ 0) → inputs_of r b l x ≡ 0
zero_given r b l x h = zero_among r b l x h all_ports
