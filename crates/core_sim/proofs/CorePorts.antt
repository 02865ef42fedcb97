-- A module that declares each name once and has the ports of a core is one that a bench can run.
use Rattle.std.proofs.Common.{◌≡◌, ℕ, zero, suc, ◌^◌, ◌/◌, ◌%◌, ◌<◌, Bool, true, false, not, eqb, List, [], ◌∷◌, ◌&&◌, ◌||◌, ◌⊎◌, inl, inr, length, get_or, Option, Some, refl, sym, ap, ◌∙◌, subst, arith}
use Rattle.std.specs.Cmp.Lexicographic.{bytes_decides}
use Rattle.std.proofs.lemmas.Bool.{eqb-true}
use Rattle.std.proofs.Math.Pow.{pow_pos}
use Rattle.core_words.specs.Names.{same_name}
use Rattle.core_words.specs.Values.{one_if}
use Rattle.core_ports.specs.Ports.{CorePort, all_ports, name_of, is_input, width_of}
use Rattle.core_ports.specs.Ports as port
use Rattle.bus_law.specs.declared.signals.BusIn.{BusIn}
use Rattle.verilog_tree.specs.declared.tree.PortDecl.{PortDecl}
use Rattle.verilog_tree.specs.declared.tree.Tree.{Tree}
use Rattle.verilog_mean.specs.declared.refusal.MeanRefusal.{MeanRefusal}
use Rattle.verilog_mean.specs.Look.{look, or_else, pick_if, put_if}
use Rattle.verilog_mean.specs.Plain.{Port, Plain}
use Rattle.verilog_mean.specs.Plain.Port.{In, Out}
use Rattle.verilog_mean.specs.Cycle.{Source, State, from_source, item_source, port_width, port_source, value, value_to}
use Rattle.verilog_mean.specs.Cycle.Source.{Nowhere, Outside}
use Rattle.verilog_mean.specs.CorePorts.{is_port, has_port, has_ports, HasCorePorts}
use Rattle.verilog_mean.specs.Declarations.{Declaration, declared_ports, declared_items}
use Rattle.verilog_mean.specs.Erase.{plain_port, plain_ports, plain_tree, range_width}
use Rattle.verilog_mean.specs.Names.{Refusals, is_among, repeated}
use Rattle.verilog_mean.specs.Run.{PortsFit}
use Rattle.verilog_mean.specs.Sound.{IsSound}
use Rattle.verilog_sim.specs.Layouts.{output_names}
use Rattle.core_sim.specs.Joint.{input_value, inputs_of}
use Rattle.core_sim.specs.Bench.{IsCore}

-- ---- tests

both : (a b : Bool) → (a && b) ≡ true → (a ≡ true) × (b ≡ true)
both true b e = (refl, e)
both false b e = cc

either : (a b : Bool) → (a || b) ≡ true → (a ≡ true) ⊎ (b ≡ true)
either true b e = inl refl
either false b e = inr e

neither : (a b : Bool) → (a || b) ≡ false → (a ≡ false) × (b ≡ false)
neither true b e = cc
neither false b e = (refl, e)

or_right : (a : Bool) → (a || true) ≡ true
or_right true = refl
or_right false = refl

pub same_is : (x y : List ℕ) → same_name x y ≡ true → x ≡ y
same_is x y e = (bytes_decides x y).0 e

pub is_same : (x y : List ℕ) → x ≡ y → same_name x y ≡ true
is_same x y e = (bytes_decides x y).1 e

-- ---- each name is declared once

abbrev pub port_name : Port → List ℕ
port_name (In width name) = name
port_name (Out width name) = name

abbrev pub IsIn : List ℕ → List (List ℕ) → Type 0
IsIn x [] = ⊥
IsIn x (y ∷ ys) = (y ≡ x) ⊎ IsIn x ys

abbrev pub NoneNamed : List ℕ → List Port → Type 0
NoneNamed x [] = Unit {0}
NoneNamed x (q ∷ qs) = (same_name x (port_name q) ≡ false) × NoneNamed x qs

not_among : (x y : List ℕ) (ys : List (List ℕ)) → is_among y ys ≡ false → IsIn x ys → same_name x y ≡ false
not_among x y [] e h = absurd h
not_among x y (z ∷ zs) e (inl h) = subst (λ w. same_name w y ≡ false) h (neither (same_name z y) (is_among y zs) e).0
not_among x y (z ∷ zs) e (inr h) = not_among x y zs (neither (same_name z y) (is_among y zs) e).1 h

put_none : (b : Bool) (r : MeanRefusal) (rest : Refusals) → put_if b r rest ≡ [] → (b ≡ false) × (rest ≡ [])
put_none true r rest e = cc
put_none false r rest e = (refl, e)

name_of_plain : (b : Bool) (width : ℕ) (name : List ℕ) → port_name (plain_port b width name) ≡ name
name_of_plain true width name = refl
name_of_plain false width name = refl

none_named : (x : List ℕ) (ports : List PortDecl) (rest : List Declaration) (seen : List (List ℕ)) → IsIn x seen
    → repeated seen (declared_ports ports rest) ≡ [] → NoneNamed x (plain_ports ports)
none_named x [] rest seen h e = tt
none_named x (p ∷ ps) rest seen h e =
    let s = put_none (is_among p.name.text seen) _ (repeated (p.name.text ∷ seen) (declared_ports ps rest)) e in (
      subst (λ n. same_name x n ≡ false) (sym (name_of_plain p.input (range_width p.range) p.name.text)) (not_among x p.name.text seen s.0 h),
      none_named x ps rest (p.name.text ∷ seen) (inr h) s.1,
    )

-- ---- so a port of a core's name is that port

is_port_name : (q : Port) (p : CorePort) → is_port q p ≡ true → port_name q ≡ name_of p
is_port_name (In width name) p e = same_is name (name_of p) (both (same_name name (name_of p)) (eqb width (width_of p)) (both (is_input p) _ e).1).0
is_port_name (Out width name) p e = same_is name (name_of p) (both (same_name name (name_of p)) (eqb width (width_of p)) (both (not (is_input p)) _ e).1).0

abbrev pub Agrees : CorePort → List Port → Type 0
Agrees p [] = Unit {0}
Agrees p (q ∷ qs) = (port_name q ≡ name_of p → is_port q p ≡ true) × Agrees p qs

has_named : (p : CorePort) (x : List ℕ) (qs : List Port) → has_port qs p ≡ true → NoneNamed x qs → x ≡ name_of p → ⊥
has_named p x [] e n h = cc
has_named p x (q ∷ qs) e n h = elim (either (is_port q p) (has_port qs p) e) [
  | inl here ↦ let s = is_same x (port_name q) (h ∙ sym (is_port_name q p here)) in let f = n.0 in let g : true ≡ false = sym s ∙ f in cc
  | inr later ↦ has_named p x qs later n.1 h
]

agrees_none : (p : CorePort) (x : List ℕ) (qs : List Port) → NoneNamed x qs → x ≡ name_of p → Agrees p qs
agrees_none p x [] n h = tt
agrees_none p x (q ∷ qs) n h =
    ((λ e. let s = is_same x (port_name q) (h ∙ sym e) in let f = n.0 in let g : true ≡ false = sym s ∙ f in cc), agrees_none p x qs n.1 h)

agrees : (p : CorePort) (ports : List PortDecl) (rest : List Declaration) (seen : List (List ℕ)) → repeated seen (declared_ports ports rest) ≡ []
    → has_port (plain_ports ports) p ≡ true → Agrees p (plain_ports ports)
agrees p [] rest seen e h = tt
agrees p (d ∷ ds) rest seen e h =
    let q : Port = plain_port d.input (range_width d.range) d.name.text in
    let s = put_none (is_among d.name.text seen) _ (repeated (d.name.text ∷ seen) (declared_ports ds rest)) e in
    let n : NoneNamed (port_name q) (plain_ports ds) =
    none_named (port_name q) ds rest (d.name.text ∷ seen) (inl (sym (name_of_plain d.input (range_width d.range) d.name.text))) s.1 in
    elim (either (is_port q p) (has_port (plain_ports ds) p) h) [
      | inl here ↦ ((λ x. here), agrees_none p (port_name q) (plain_ports ds) n (is_port_name q p here))
      | inr later ↦ ((λ x. absurd (has_named p (port_name q) (plain_ports ds) later n x)), agrees p ds rest (d.name.text ∷ seen) s.1 later)
    ]

-- ---- all ports of a core are there

abbrev pub number_of : CorePort → ℕ
number_of port.clk = 0
number_of port.reset = 1
number_of port.ib_cmd_valid = 2
number_of port.ib_cmd_ready = 3
number_of port.ib_cmd_addr = 4
number_of port.ib_rsp_valid = 5
number_of port.ib_rsp_error = 6
number_of port.ib_rsp_data = 7
number_of port.db_cmd_valid = 8
number_of port.db_cmd_ready = 9
number_of port.db_cmd_write = 10
number_of port.db_cmd_addr = 11
number_of port.db_cmd_data = 12
number_of port.db_cmd_mask = 13
number_of port.db_rsp_valid = 14
number_of port.db_rsp_error = 15
number_of port.db_rsp_data = 16
number_of port.irq_software = 17
number_of port.irq_timer = 18
number_of port.irq_external = 19
number_of port.ev_valid = 20
number_of port.ev_kind = 21
number_of port.ev_pc = 22
number_of port.ev_word = 23
number_of port.ev_rd = 24
number_of port.ev_value = 25
number_of port.ev_cause = 26
number_of port.fe_valid = 27
number_of port.fe_take = 28
number_of port.fe_pc = 29

listed : (p : CorePort) → get_or all_ports (number_of p) port.clk ≡ p
listed port.clk = refl
listed port.reset = refl
listed port.ib_cmd_valid = refl
listed port.ib_cmd_ready = refl
listed port.ib_cmd_addr = refl
listed port.ib_rsp_valid = refl
listed port.ib_rsp_error = refl
listed port.ib_rsp_data = refl
listed port.db_cmd_valid = refl
listed port.db_cmd_ready = refl
listed port.db_cmd_write = refl
listed port.db_cmd_addr = refl
listed port.db_cmd_data = refl
listed port.db_cmd_mask = refl
listed port.db_rsp_valid = refl
listed port.db_rsp_error = refl
listed port.db_rsp_data = refl
listed port.irq_software = refl
listed port.irq_timer = refl
listed port.irq_external = refl
listed port.ev_valid = refl
listed port.ev_kind = refl
listed port.ev_pc = refl
listed port.ev_word = refl
listed port.ev_rd = refl
listed port.ev_value = refl
listed port.ev_cause = refl
listed port.fe_valid = refl
listed port.fe_take = refl
listed port.fe_pc = refl

number_below : (p : CorePort) → number_of p < length all_ports
number_below port.clk = omega arith
number_below port.reset = omega arith
number_below port.ib_cmd_valid = omega arith
number_below port.ib_cmd_ready = omega arith
number_below port.ib_cmd_addr = omega arith
number_below port.ib_rsp_valid = omega arith
number_below port.ib_rsp_error = omega arith
number_below port.ib_rsp_data = omega arith
number_below port.db_cmd_valid = omega arith
number_below port.db_cmd_ready = omega arith
number_below port.db_cmd_write = omega arith
number_below port.db_cmd_addr = omega arith
number_below port.db_cmd_data = omega arith
number_below port.db_cmd_mask = omega arith
number_below port.db_rsp_valid = omega arith
number_below port.db_rsp_error = omega arith
number_below port.db_rsp_data = omega arith
number_below port.irq_software = omega arith
number_below port.irq_timer = omega arith
number_below port.irq_external = omega arith
number_below port.ev_valid = omega arith
number_below port.ev_kind = omega arith
number_below port.ev_pc = omega arith
number_below port.ev_word = omega arith
number_below port.ev_rd = omega arith
number_below port.ev_value = omega arith
number_below port.ev_cause = omega arith
number_below port.fe_valid = omega arith
number_below port.fe_take = omega arith
number_below port.fe_pc = omega arith

has_at : (qs : List Port) (ps : List CorePort) (i : ℕ) → has_ports qs ps ≡ true → i < length ps → has_port qs (get_or ps i port.clk) ≡ true
has_at qs [] i e h = absurd (omega arith)
has_at qs (p ∷ ps) zero e h = (both (has_port qs p) (has_ports qs ps) e).0
has_at qs (p ∷ ps) (suc i) e h = has_at qs ps i (both (has_port qs p) (has_ports qs ps) e).1 (omega arith)

pub has_each : (m : Plain) → HasCorePorts m → (p : CorePort) → has_port m.ports p ≡ true
has_each m h p = subst (λ q. has_port m.ports q ≡ true) (listed p) (has_at m.ports all_ports (number_of p) h.each (number_below p))

-- ---- widths, outputs and inputs

width_is : (w : ℕ) (name : List ℕ) (p : CorePort) → is_port (In w name) p ≡ true → w ≡ width_of p
width_is w name p e = eqb-true w (width_of p) (both (same_name name (name_of p)) (eqb w (width_of p)) (both (is_input p) _ e).1).1

out_width_is : (w : ℕ) (name : List ℕ) (p : CorePort) → is_port (Out w name) p ≡ true → w ≡ width_of p
out_width_is w name p e = eqb-true w (width_of p) (both (same_name name (name_of p)) (eqb w (width_of p)) (both (not (is_input p)) _ e).1).1

-- a port of another name is not the first to have the core port's name
later : (q : Port) (p : CorePort) (qs : List Port) → has_port (q ∷ qs) p ≡ true → same_name (port_name q) (name_of p) ≡ false → has_port qs p ≡ true
later q p qs h e = elim (either (is_port q p) (has_port qs p) h) [
  | inl here ↦ let f : true ≡ false = sym (is_same (port_name q) (name_of p) (is_port_name q p here)) ∙ e in cc
  | inr there ↦ there
]

width_step : (w d n : ℕ) (rest : Option ℕ) (b : Bool) → (b ≡ true → w ≡ n) → (b ≡ false → or_else rest d ≡ n) → or_else (pick_if b w rest) d ≡ n
width_step w d n rest true f g = f refl
width_step w d n rest false f g = g refl

pub width_found : (p : CorePort) (qs : List Port) (d : ℕ) → Agrees p qs → has_port qs p ≡ true → or_else (look port_width qs (name_of p)) d ≡ width_of p
width_found p [] d a h = cc
width_found p (In w name ∷ qs) d a h = width_step w d (width_of p) (look port_width qs (name_of p)) (same_name name (name_of p))
    (λ e. width_is w name p (a.0 (same_is name (name_of p) e))) (λ e. width_found p qs d a.1 (later (In w name) p qs h e))
width_found p (Out w name ∷ qs) d a h = width_step w d (width_of p) (look port_width qs (name_of p)) (same_name name (name_of p))
    (λ e. out_width_is w name p (a.0 (same_is name (name_of p) e))) (λ e. width_found p qs d a.1 (later (Out w name) p qs h e))

not_input : (b c : Bool) → b ≡ false → (b && c) ≡ true → ⊥
not_input true c e h = cc
not_input false c e h = cc

not_output : (b c : Bool) → b ≡ true → (not b && c) ≡ true → ⊥
not_output true c e h = cc
not_output false c e h = cc

pub output_found : (p : CorePort) (qs : List Port) → is_input p ≡ false → has_port qs p ≡ true → is_among (name_of p) (output_names qs) ≡ true
output_found p [] o h = cc
output_found p (In w name ∷ qs) o h = elim (either (is_port (In w name) p) (has_port qs p) h) [
  | inl here ↦ absurd (not_input (is_input p) _ o here)
  | inr there ↦ output_found p qs o there
]
output_found p (Out w name ∷ qs) o h = elim (either (is_port (Out w name) p) (has_port qs p) h) [
  | inl here ↦ ap (λ b. b || is_among (name_of p) (output_names qs)) (is_same name (name_of p) (is_port_name (Out w name) p here))
  | inr there ↦ ap (λ b. same_name name (name_of p) || b) (output_found p qs o there) ∙ or_right (same_name name (name_of p))
]

outside_step : (rest : Option Source) (b : Bool) → (b ≡ false → rest ≡ Some Outside) → pick_if b Outside rest ≡ Some Outside
outside_step rest true g = refl
outside_step rest false g = g refl

pub input_found : (p : CorePort) (qs : List Port) → is_input p ≡ true → has_port qs p ≡ true → look port_source qs (name_of p) ≡ Some Outside
input_found p [] o h = cc
input_found p (In w name ∷ qs) o h = outside_step (look port_source qs (name_of p)) (same_name name (name_of p)) (λ e. input_found p qs o (later (In w name) p qs h e))
input_found p (Out w name ∷ qs) o h = elim (either (is_port (Out w name) p) (has_port qs p) h) [
  | inl here ↦ absurd (not_output (is_input p) _ o here)
  | inr there ↦ input_found p qs o there
]

-- ---- the inputs fit

one_if_below : (b : Bool) → one_if b < 2 ^ 1
one_if_below true = omega arith
one_if_below false = omega arith

bit_below : (v : ℕ) → v % 2 < 2
bit_below v = omega arith

value_fits : (r : ℕ) (b : BusIn) (l : ℕ) → r < 2 → b.ib_rsp_data < 2 ^ 32 → b.db_rsp_data < 2 ^ 32 → (p : CorePort) → input_value r b l p < 2 ^ width_of p
value_fits r b l h i d port.clk = omega arith
value_fits r b l h i d port.reset = h
value_fits r b l h i d port.ib_cmd_valid = omega arith
value_fits r b l h i d port.ib_cmd_ready = one_if_below b.ib_cmd_ready
value_fits r b l h i d port.ib_cmd_addr = omega arith
value_fits r b l h i d port.ib_rsp_valid = one_if_below b.ib_rsp_valid
value_fits r b l h i d port.ib_rsp_error = one_if_below b.ib_rsp_error
value_fits r b l h i d port.ib_rsp_data = i
value_fits r b l h i d port.db_cmd_valid = omega arith
value_fits r b l h i d port.db_cmd_ready = one_if_below b.db_cmd_ready
value_fits r b l h i d port.db_cmd_write = omega arith
value_fits r b l h i d port.db_cmd_addr = omega arith
value_fits r b l h i d port.db_cmd_data = omega arith
value_fits r b l h i d port.db_cmd_mask = omega arith
value_fits r b l h i d port.db_rsp_valid = one_if_below b.db_rsp_valid
value_fits r b l h i d port.db_rsp_error = one_if_below b.db_rsp_error
value_fits r b l h i d port.db_rsp_data = d
value_fits r b l h i d port.irq_software = bit_below (l / 2 ^ 3)
value_fits r b l h i d port.irq_timer = bit_below (l / 2 ^ 7)
value_fits r b l h i d port.irq_external = bit_below (l / 2 ^ 11)
value_fits r b l h i d port.ev_valid = omega arith
value_fits r b l h i d port.ev_kind = omega arith
value_fits r b l h i d port.ev_pc = omega arith
value_fits r b l h i d port.ev_word = omega arith
value_fits r b l h i d port.ev_rd = omega arith
value_fits r b l h i d port.ev_value = omega arith
value_fits r b l h i d port.ev_cause = omega arith
value_fits r b l h i d port.fe_valid = omega arith
value_fits r b l h i d port.fe_take = omega arith
value_fits r b l h i d port.fe_pc = omega arith

given_step : (w v : ℕ) (rest : Option ℕ) (b : Bool) → (b ≡ true → v < 2 ^ w) → or_else rest 0 < 2 ^ w → or_else (pick_if b v rest) 0 < 2 ^ w
given_step w v rest true f g = f refl
given_step w v rest false f g = g

given_fits : (r : ℕ) (b : BusIn) (l w : ℕ) (name : List ℕ) → r < 2 → b.ib_rsp_data < 2 ^ 32 → b.db_rsp_data < 2 ^ 32
    → ((p : CorePort) → name ≡ name_of p → is_port (In w name) p ≡ true)
    → (ps : List CorePort) → or_else (look (λ p. Some (name_of p, input_value r b l p)) ps name) 0 < 2 ^ w
given_fits r b l w name h i d a [] = pow_pos w
given_fits r b l w name h i d a (p ∷ ps) =
    given_step w (input_value r b l p) (look (λ q. Some (name_of q, input_value r b l q)) ps name) (same_name (name_of p) name)
    (λ e. subst (λ n. input_value r b l p < 2 ^ n) (sym (width_is w name p (a p (sym (same_is (name_of p) name e))))) (value_fits r b l h i d p))
    (given_fits r b l w name h i d a ps)

pub inputs_fit : (r : ℕ) (b : BusIn) (l : ℕ) (qs : List Port) → r < 2 → b.ib_rsp_data < 2 ^ 32 → b.db_rsp_data < 2 ^ 32
    → ((p : CorePort) → Agrees p qs) → PortsFit qs (inputs_of r b l)
inputs_fit r b l [] h i d a = tt
inputs_fit r b l (In w name ∷ qs) h i d a = (given_fits r b l w name h i d (λ p. (a p).0) all_ports, inputs_fit r b l qs h i d (λ p. (a p).1))
inputs_fit r b l (Out w name ∷ qs) h i d a = inputs_fit r b l qs h i d (λ p. (a p).1)

-- ---- what an input reads

-- an input has the value that it is given
pub input_read : (m : Plain) (s : State) (ins : List ℕ → ℕ) (p : CorePort) → HasCorePorts m → is_input p ≡ true → value m s ins (name_of p) ≡ ins (name_of p)
unfolding value value_to
input_read m s ins p h i =
    ap (λ o. from_source m s ins (name_of p) (value_to m s ins (length m.items)) (or_else o (or_else (look item_source m.items (name_of p)) Nowhere)))
    (input_found p m.ports i (has_each m h p))

-- ---- all of it

pub all_agree : (t : Tree) → IsSound t → HasCorePorts (plain_tree t) → (p : CorePort) → Agrees p (plain_ports t.ports)
all_agree t s h p = agrees p t.ports (declared_items t.items) [] s.names_once (has_each (plain_tree t) h p)

pub is_core : (t : Tree) → IsSound t → HasCorePorts (plain_tree t) → IsCore (plain_tree t)
is_core t s h = record {
  fits = λ r b l x y z. inputs_fit r b l (plain_ports t.ports) x y z (all_agree t s h);
  outputs = λ p o. output_found p (plain_ports t.ports) o (has_each (plain_tree t) h p);
  widths = λ p o. width_found p (plain_ports t.ports) _ (all_agree t s h p) (has_each (plain_tree t) h p);
  reads = λ p o state ins. input_read (plain_tree t) state ins p h o;
}
