-- All that is driven once may be driven.
use Rattle.std.proofs.Common.{◌≡◌, ◌∙◌, ℕ, suc, ◌+◌, ◌<◌, ◌≤◌, Bool, true, false, not, eqb, ◌&&◌, ◌||◌, List, [], ◌∷◌, ◌++◌, length, get_or, is_some, refl, sym, ap, subst, arith, Option, None, Some, inl, inr, ◌⊎◌}
use Rattle.std.proofs.lemmas.Bool.{cases_Bool, eqb-true, eq-eqb, or_cases, or_left, or_right, both_ways, false_from_ne_true}
use Rattle.core_ports.specs.Ports as ports
use Rattle.hw_pool.specs.Meaning.{Env}
use Rattle.hw_pool.specs.Nodes.{PoolValue}
use Rattle.hw_expr.specs.declared.net.Net.{Net}
use Rattle.hw_gates.proofs.Has.{in_scope}
use Rattle.hw_module.specs.declared.rows.Owner.TheVariants.{Pipe, Entry}
use Rattle.hw_module.specs.declared.rows.RegRow.{RegRow}
use Rattle.hw_module.specs.declared.rows.WireRow.{WireRow}
use Rattle.hw_module.specs.Fits.{FitsIn}
use Rattle.hw_module.specs.Ports.{port_at}
use Rattle.hw_module.specs.Rights.{Makes}
use Rattle.hw_module.proofs.Makes.{makes_nothing}
use Rattle.hw_module.specs.Rows.{ModuleValue, out_at, wire_at}
use Rattle.hw_module.specs.Scope.{scope_of}
use Rattle.hw_module.proofs.Scopes.{fits_of}
use Rattle.service_reg.specs.declared.service.Service.{Service}
use Rattle.service_reg.specs.declared.service.Service.TheVariants.{Fetch, Decoder, RegFile, Hazard, System, DataBus}
use Rattle.service_ports.specs.declared.ports.ExecOffer.{ExecOffer}
use Rattle.service_ports.specs.declared.ports.DataBusPorts.{DataBusPorts}
use Rattle.service_ports.specs.declared.ports.SystemPorts.{SystemPorts}
use Rattle.service_ports.specs.Ports.{Ports, databus_ports, decoder_ports, exec_ports, fetch_ports, hazard_ports, input_shapes, regfile_ports, system_ports}
use Rattle.service_ports.specs.Registry.{Offered, RegistryValue, offered_as, single, ports_in as offered_in}
use Rattle.plug_law.specs.Pipeline.{Shape}
use Rattle.plug_part.specs.Owned.{is_among, is_bus_out, is_fetch_out, is_input_of, is_out_of, is_own_input, is_predict_input, ports_of}
use Rattle.plug_build.specs.Fits.{AreApart, AreInputs, WorldFits, exec_at}
use Rattle.plug_build.specs.Fits.OfferKey.{The, ExecAt}
use Rattle.plug_build.specs.World.{World}
use Rattle.plug_build.proofs.Offers.{among_inputs}
use Rattle.part_laws.specs.Joined.{Services}
use Rattle.pipe_drive.specs.Drives.{CanDrive, CanDriveAll, CanMoveAll, CanShow, CanShowAll, targets}
use Rattle.pipe_drive.specs.Rights.{is_exec_input, is_left_input, is_left_out, pipe_rights}
use Rattle.pipe_drive.specs.Rows.{AreRegs, own_shapes, wire_levels}
use Rattle.pipe_drive.proofs.Found.{wire_row}
use Rattle.pipe_drive.proofs.Left.{left_not_predict, pipe_leaves}
use Rattle.pipe_steps.specs.Numbers.{things_from}
use Rattle.pipe_build.specs.declared.nets.Offers.{Offers}
use Rattle.pipe_build.specs.declared.nets.PipeNets.{PipeNets}
use Rattle.pipe_build.specs.AllNets.{AreNets}
use Rattle.pipe_build.specs.Bears.{Bears}
use Rattle.pipe_build.specs.Rest.{CanRest, bus_drives, decoder_drives, fetch_drives, hazard_drives, own_drives, reg_list, regfile_drives, system_drives, system_list, told_drives, wire_drives}
use Rattle.pipe_build.specs.RestAt.{BeforeRest}

-- ---- lists of numbers

among_append : (xs ys : List ℕ) (k : ℕ) → is_among k (xs ++ ys) ≡ true → (is_among k xs ≡ true) ⊎ (is_among k ys ≡ true)
among_append [] ys k is = inr is
among_append (x ∷ xs) ys k is = elim (or_cases (eqb k x) (is_among k (xs ++ ys)) is) [
  | inl here ↦ inl (or_left (eqb k x) (is_among k xs) here)
  | inr later ↦ elim (among_append xs ys k later) [
    | inl first ↦ inl (or_right (eqb k x) (is_among k xs) first)
    | inr second ↦ inr second
  ]
]

not_append : (xs ys : List ℕ) (k : ℕ) → is_among k xs ≡ false → is_among k ys ≡ false → is_among k (xs ++ ys) ≡ false
not_append xs ys k a b = false_from_ne_true _ (λ is. elim (among_append xs ys k is) [
  | inl first ↦ both_ways (is_among k xs) a first
  | inr second ↦ both_ways (is_among k ys) b second
])

apart_append : (xs ys : List ℕ) → AreApart xs → AreApart ys → ((k : ℕ) → is_among k xs ≡ true → is_among k ys ≡ false) → AreApart (xs ++ ys)
apart_append [] ys a b far = b
apart_append (x ∷ xs) ys a b far = (
  not_append xs ys x a.0 (far x (or_left (eqb x x) (is_among x xs) (eq-eqb x x refl))),
  apart_append xs ys a.1 b (λ k is. far k (or_right (eqb k x) (is_among k xs) is)),
)

-- numbers from a number on
abbrev pub AllFrom : ℕ → List ℕ → Type 0
AllFrom n [] = Unit {0}
AllFrom n (x ∷ xs) = (n ≤ x) × AllFrom n xs

pub from_on : (n : ℕ) (xs : List ℕ) (k : ℕ) → AllFrom n xs → is_among k xs ≡ true → n ≤ k
from_on n [] k h is = absurd (both_ways false refl is)
from_on n (x ∷ xs) k h is = elim (or_cases (eqb k x) (is_among k xs) is) [
  | inl here ↦ let e : k ≡ x = eqb-true k x here in let l = h.0 in omega arith
  | inr later ↦ from_on n xs k h.1 later
]

below_all : (n : ℕ) (xs : List ℕ) (k : ℕ) → AllFrom n xs → k < n → is_among k xs ≡ false
below_all n xs k h l = false_from_ne_true _ (λ is. let m = from_on n xs k h is in omega arith)

abbrev pub own_numbers : ℕ → List ℕ
own_numbers w = w ∷ (w + 1) ∷ (w + 2) ∷ (w + 3) ∷ (w + 4) ∷ (w + 5) ∷ (w + 6) ∷ (w + 7) ∷ []

pub own_from_first : (w : ℕ) → AllFrom w (own_numbers w)
own_from_first w = (omega arith, (omega arith, (omega arith, (omega arith, (omega arith, (omega arith, (omega arith, (omega arith, tt))))))))

own_apart : (w : ℕ) → AreApart (own_numbers w)
own_apart w = (
  below_all (w + 1) ((w + 1) ∷ (w + 2) ∷ (w + 3) ∷ (w + 4) ∷ (w + 5) ∷ (w + 6) ∷ (w + 7) ∷ []) w (omega arith, (omega arith, (omega arith, (omega arith, (omega arith, (omega arith, (omega arith, tt))))))) (omega arith),
  (
    below_all (w + 2) ((w + 2) ∷ (w + 3) ∷ (w + 4) ∷ (w + 5) ∷ (w + 6) ∷ (w + 7) ∷ []) (w + 1) (omega arith, (omega arith, (omega arith, (omega arith, (omega arith, (omega arith, tt)))))) (omega arith),
    (
      below_all (w + 3) ((w + 3) ∷ (w + 4) ∷ (w + 5) ∷ (w + 6) ∷ (w + 7) ∷ []) (w + 2) (omega arith, (omega arith, (omega arith, (omega arith, (omega arith, tt))))) (omega arith),
      (
        below_all (w + 4) ((w + 4) ∷ (w + 5) ∷ (w + 6) ∷ (w + 7) ∷ []) (w + 3) (omega arith, (omega arith, (omega arith, (omega arith, tt)))) (omega arith),
        (
          below_all (w + 5) ((w + 5) ∷ (w + 6) ∷ (w + 7) ∷ []) (w + 4) (omega arith, (omega arith, (omega arith, tt))) (omega arith),
          (
            below_all (w + 6) ((w + 6) ∷ (w + 7) ∷ []) (w + 5) (omega arith, (omega arith, tt)) (omega arith),
            (
              below_all (w + 7) ((w + 7) ∷ []) (w + 6) (omega arith, tt) (omega arith),
              (refl, tt),
            ),
          ),
        ),
      ),
    ),
  ),
)

-- ---- what offers say

pub offered_ports : {A : Type 0} (f : A → Ports) (q : Option (ℕ × A)) (p : A) → offered_in q ≡ Some p → ports_of (offered_as f q) ≡ Some (f p)
offered_ports f None p e = absurd cc
offered_ports f (Some x) p e = ap (λ (o : Option _). offered_ports_of f o) e
  where
    offered_ports_of : {A : Type 0} (f : A → Ports) → Option A → Option Ports
    offered_ports_of f None = None
    offered_ports_of f (Some p) = Some (f p)

-- a net of a width and below a level
record NetFits (a : ModuleValue) (pool : PoolValue) (width most : ℕ) (net : Net) : Type 0 where
  fits : FitsIn a pool net
  wide : net.width ≡ width
  below : net.level < most

net_fits : {a : ModuleValue} {pool : PoolValue} {width level most : ℕ} {f : Env → ℕ} {net : Net} → Bears (scope_of a) pool width level f net → level < most → NetFits a pool width most net
net_fits {a} {pool} {width} {level} {most} {f} {net} b l =
    let is = b.is in
    record { fits = fits_of a pool net (in_scope (scope_of a) pool net is.0 b.takes); wide = is.1; below = let h = is.2 in omega arith }

abbrev NetsFit : ModuleValue → PoolValue → List (ℕ × ℕ) → List (ℕ × Net) → Type 0
NetsFit a pool [] [] = Unit {0}
NetsFit a pool [] (x ∷ xs) = ⊥
NetsFit a pool (s ∷ ss) [] = ⊥
NetsFit a pool (s ∷ ss) (x ∷ xs) = NetFits a pool s.0 s.1 x.1 × NetsFit a pool ss xs

can_append : (a : ModuleValue) (pool : PoolValue) (xs ys : List (ℕ × Net)) → CanDriveAll a pool xs → CanDriveAll a pool ys → CanDriveAll a pool (xs ++ ys)
can_append a pool [] ys f g = g
can_append a pool (x ∷ xs) ys f g = (f.0, can_append a pool xs ys f.1 g)

abbrev ShapesFit : ModuleValue → PoolValue → List (ℕ × Option ℕ) → List Net → Type 0
ShapesFit a pool [] [] = Unit {0}
ShapesFit a pool [] (x ∷ xs) = ⊥
ShapesFit a pool (s ∷ ss) [] = ⊥
ShapesFit a pool (s ∷ ss) (x ∷ xs) = NetFits a pool s.0 9 x × ShapesFit a pool ss xs

moves_can : (a : ModuleValue) (pool : PoolValue) (k : ℕ) (ss : List (ℕ × Option ℕ)) (xs : List Net) → AreRegs a k ss → k + length ss ≤ length a.regs → ShapesFit a pool ss xs → CanMoveAll a pool k xs
moves_can a pool k [] [] rows l h = tt
moves_can a pool k [] (x ∷ xs) rows l h = absurd h
moves_can a pool k (s ∷ ss) [] rows l h = absurd h
moves_can a pool k (s ∷ ss) (x ∷ xs) rows l h = (
  record {
    there = omega arith;
    own = ap (λ (r : RegRow). r.owner) rows.0;
    free = ap (λ (r : RegRow). r.next) rows.0;
    fits = h.0.fits;
    width = h.0.wide ∙ sym (ap (λ (r : RegRow). r.width) rows.0);
  },
  moves_can a pool (k + 1) ss xs rows.1 (omega arith) h.1,
)

-- an input of Exec is one of some offer
exec_place : (os : List ExecOffer) (k : ℕ) → is_exec_input os k ≡ true → (i : ℕ) × (is_input_of (exec_at os i) k ≡ true)
exec_place [] k is = absurd (both_ways false refl is)
exec_place (o ∷ os) k is = elim (or_cases (is_among k (exec_ports o.ports).inputs) (is_exec_input os k) is) [
  | inl here ↦ (0, here)
  | inr later ↦ let r = exec_place os k later in (suc r.0, r.1)
]

-- ---- what is left is of an entry, and is not of Predict

nothing_made : (w : World) → Makes Pipe (pipe_rights w.reg) w.design w.design 0
nothing_made w = makes_nothing Pipe (pipe_rights w.reg) w.design

pub left_own : (w : World) → WorldFits w → (entry k : ℕ) → (wire_at w.design.wires k).owner ≡ Entry entry → is_left_input w.reg k ≡ true → is_own_input w.reg entry k ≡ true
unfolding pipe_rights
left_own w fits entry k owner left = elim (cases_Bool (is_own_input w.reg entry k)) [
  | inl own ↦ own
  | inr other ↦ absurd (both_ways (is_left_input w.reg k) ((pipe_leaves w fits w 0 refl (nothing_made w) (λ s. false) entry).wires k owner other) left)
]

pub left_beside : (w : World) → WorldFits w → (k : ℕ) → is_left_input w.reg k ≡ true → is_predict_input w.reg k ≡ false
left_beside w fits k left = false_from_ne_true _ (λ predict. both_ways (is_left_input w.reg k) (left_not_predict w.design w.pool w.reg fits.offers k predict) left)

pub out_left : (w : World) → WorldFits w → (entry p : ℕ) → is_out_of w.reg entry p ≡ true → is_left_out w.reg p ≡ false
unfolding pipe_rights
out_left w fits entry p is = (pipe_leaves w fits w 0 refl (nothing_made w) (λ s. false) entry).outs p is

-- ---- outputs that are left

and_no : (b : Bool) {c : Bool} → c ≡ false → (b && c) ≡ false
and_no true e = e
and_no false e = refl

or_no : {b c : Bool} → b ≡ false → c ≡ false → (b || c) ≡ false
or_no {b} {c} e f = ap (λ x. x || c) e ∙ f

pub left_high : (r : RegistryValue) (p : ℕ) → is_fetch_out p ≡ false → is_bus_out p ≡ false → is_left_out r p ≡ true
left_high r p f b = ap not (or_no (and_no (is_some (single r Fetch)) f) (and_no (is_some (single r DataBus)) b))

no_data : (q : Option (ℕ × DataBusPorts)) → is_some q ≡ false → is_some (offered_as databus_ports q) ≡ false
no_data None e = refl
no_data (Some x) e = absurd cc

pub left_bus : (r : RegistryValue) (p : ℕ) → is_fetch_out p ≡ false → is_some r.databus ≡ false → is_left_out r p ≡ true
left_bus r p f b = ap not (or_no (and_no (is_some (single r Fetch)) f) (ap (λ x. x && is_bus_out p) (no_data r.databus b)))

module _ (w : World) (a : ModuleValue) (wire reg reset_pc : ℕ) (o : Offers) (has_bus : Bool) (at : BeforeRest w a wire reg reset_pc o has_bus) (pool : PoolValue) where
  -- a service with its ports
  record IsAt (s : Service) (ps : Ports) : Type 0 where
    is : ports_of (single w.reg s) ≡ Some ps
    left : (k : ℕ) → is_among k ps.inputs ≡ true → is_left_input w.reg k ≡ true

  fetch_at : IsAt Fetch (fetch_ports o.fetch)
  fetch_at = let e = offered_ports fetch_ports w.reg.fetch o.fetch at.fetch in
      record { is = e; left = λ k h. or_left (is_input_of (ports_of (single w.reg Fetch)) k) _ (ap (λ q. is_input_of q k) e ∙ h) }

  decoder_at : IsAt Decoder (decoder_ports o.decoder)
  decoder_at = let e = offered_ports decoder_ports w.reg.decoder o.decoder at.decoder in
      record { is = e; left = λ k h. or_right (is_input_of (ports_of (single w.reg Fetch)) k) _ (or_left (is_input_of (ports_of (single w.reg Decoder)) k) _ (ap (λ q. is_input_of q k) e ∙ h)) }

  regfile_at : IsAt RegFile (regfile_ports o.regfile)
  regfile_at = let e = offered_ports regfile_ports w.reg.regfile o.regfile at.regfile in
      record {
        is = e;
        left = λ k h. or_right (is_input_of (ports_of (single w.reg Fetch)) k) _ (or_right (is_input_of (ports_of (single w.reg Decoder)) k) _
            (or_left (is_input_of (ports_of (single w.reg RegFile)) k) _ (ap (λ q. is_input_of q k) e ∙ h)));
      }

  hazard_at : IsAt Hazard (hazard_ports o.hazard)
  hazard_at = let e = offered_ports hazard_ports w.reg.hazard o.hazard at.hazard in
      record {
        is = e;
        left = λ k h. or_right (is_input_of (ports_of (single w.reg Fetch)) k) _ (or_right (is_input_of (ports_of (single w.reg Decoder)) k) _
            (or_right (is_input_of (ports_of (single w.reg RegFile)) k) _ (or_left (is_input_of (ports_of (single w.reg Hazard)) k) _ (ap (λ q. is_input_of q k) e ∙ h))));
      }

  system_at : (q : SystemPorts) → o.system ≡ Some q → IsAt System (system_ports q)
  system_at q is = let e = offered_ports system_ports w.reg.system q (at.system ∙ is) in
      record {
        is = e;
        left = λ k h. or_right (is_input_of (ports_of (single w.reg Fetch)) k) _ (or_right (is_input_of (ports_of (single w.reg Decoder)) k) _
            (or_right (is_input_of (ports_of (single w.reg RegFile)) k) _ (or_right (is_input_of (ports_of (single w.reg Hazard)) k) _
            (or_left (is_input_of (ports_of (single w.reg System)) k) _ (ap (λ q. is_input_of q k) e ∙ h)))));
      }

  -- ---- its inputs can be driven

  -- the row that entries left, without a driver, unless it is of Exec
  beside_exec : (s : Service) (ps : Ports) → IsAt s ps → (k : ℕ) → is_among k ps.inputs ≡ true → is_exec_input w.reg.execs k ≡ false
  beside_exec s ps x k is = false_from_ne_true _ (λ exec.
      let place = exec_place w.reg.execs k exec in
      let e = at.fits.offers.apart (The s) (ExecAt place.0) k (ap (λ q. is_input_of q k) x.is ∙ is) place.1 in cc)

  -- two services have no input in common
  beside_other : (s t : Service) (ps qs : Ports) → IsAt s ps → IsAt t qs → (s ≡ t → ⊥) → (k : ℕ) → is_among k ps.inputs ≡ true → is_among k qs.inputs ≡ false
  beside_other s t ps qs x y other k is = false_from_ne_true _ (λ there.
      let e = at.fits.offers.apart (The s) (The t) k (ap (λ q. is_input_of q k) x.is ∙ is) (ap (λ q. is_input_of q k) y.is ∙ there) in other cc)

  record Inputs (s : Service) (ws : List ℕ) : Type 0 where
    by : ℕ
    inputs : AreInputs w.design by ws (input_shapes s)
    apart : AreApart ws

  inputs_of : (s : Service) (ps : Ports) → ports_of (single w.reg s) ≡ Some ps → Inputs s ps.inputs
  inputs_of s ps is = go (single w.reg s) refl is
    where
      go : (q : Option Offered) → single w.reg s ≡ q → ports_of q ≡ Some ps → Inputs s ps.inputs
      go None e h = absurd cc
      go (Some x) e h =
          let f = at.fits.offers.singles s x e in
          let same : x.ports ≡ ps = cc in
          subst (λ (qs : Ports). Inputs s qs.inputs) same (record { by = x.by; inputs = f.inputs; apart = f.apart })

  list_can : (by : ℕ) (ss : List (ℕ × ℕ)) (xs : List (ℕ × Net)) → AreInputs w.design by (targets xs) ss
      → ((k : ℕ) → is_among k (targets xs) ≡ true → (wire_at a.wires k ≡ wire_at w.design.wires k) × ((wire_at w.design.wires k).driver ≡ None)) → NetsFit a pool ss xs → CanDriveAll a pool xs
  list_can by [] [] i row h = tt
  list_can by (s ∷ ss) [] i row h = absurd i
  list_can by [] (x ∷ xs) i row h = absurd i
  list_can by (s ∷ ss) (x ∷ xs) i row h =
      let r = row x.0 (or_left (eqb x.0 x.0) (is_among x.0 (targets xs)) (eq-eqb x.0 x.0 refl)) in (
        record {
          there = let c = at.count in let l = i.0.there in omega arith;
          free = ap (λ (q : WireRow). q.driver) r.0 ∙ r.1;
          fits = h.0.fits;
          width = h.0.wide ∙ sym (ap (λ (q : WireRow). q.width) r.0 ∙ i.0.width);
          below = subst (λ n. x.1.level < n) (sym (ap (λ (q : WireRow). q.level) r.0 ∙ i.0.level)) h.0.below;
        },
        list_can by ss xs i.1 (λ k is. row k (or_right (eqb k x.0) (is_among k (targets xs)) is)) h.1,
      )

  service_can : (s : Service) (ps : Ports) → IsAt s ps → (xs : List (ℕ × Net)) → targets xs ≡ ps.inputs → NetsFit a pool (input_shapes s) xs → CanDriveAll a pool xs
  service_can s ps x xs same h =
      let i = inputs_of s ps x.is in
      list_can i.by (input_shapes s) xs (subst (λ ws. AreInputs w.design i.by ws (input_shapes s)) (sym same) i.inputs)
      (λ k is.
      let here : is_among k ps.inputs ≡ true = subst (λ ws. is_among k ws ≡ true) same is in
      let row = among_inputs w.design pool i.by ps.inputs (input_shapes s) k i.inputs here in
      (at.inputs k row.0 (beside_exec s ps x k here), at.free i.by k (left_own w at.fits i.by k row.1 (x.left k here)) (left_beside w at.fits k (x.left k here)))) h

  service_apart : (s : Service) (ps : Ports) → IsAt s ps → AreApart ps.inputs
  service_apart s ps x = (inputs_of s ps x.is).apart

  -- an input is no forward wire of the pipeline
  below_own : (s : Service) (ps : Ports) → IsAt s ps → (k : ℕ) → is_among k ps.inputs ≡ true → k < wire
  below_own s ps x k is = let i = inputs_of s ps x.is in let l = (among_inputs w.design pool i.by ps.inputs (input_shapes s) k i.inputs is).0 in let f = at.first in omega arith

  own_can : (j : ℕ) {net : Net} → (l : j < 8) → NetFits a pool 1 (get_or wire_levels j 0) net → CanDrive a pool (wire + j) net
  own_can j {net} l h =
      let row = wire_row a wire wire_levels at.wires j 0 l in
      record {
        there = let m = at.wires_there in omega arith;
        free = ap (λ (q : WireRow). q.driver) row;
        fits = h.fits;
        width = h.wide ∙ sym (ap (λ (q : WireRow). q.width) row);
        below = subst (λ n. net.level < n) (sym (ap (λ (q : WireRow). q.level) row)) h.below;
      }

  -- ---- what is driven is left, or the pipeline's own

  services_left : (n : PipeNets) (k : ℕ) → is_among k (targets (fetch_drives o.fetch n ++ (decoder_drives o.decoder n ++ (regfile_drives o.regfile n ++ hazard_drives o.hazard n)))) ≡ true → is_left_input w.reg k ≡ true
  services_left n k is = elim (among_append (targets (fetch_drives o.fetch n)) (targets (decoder_drives o.decoder n ++ (regfile_drives o.regfile n ++ hazard_drives o.hazard n))) k is) [
    | inl h ↦ fetch_at.left k h
    | inr is ↦ elim (among_append (targets (decoder_drives o.decoder n)) (targets (regfile_drives o.regfile n ++ hazard_drives o.hazard n)) k is) [
      | inl h ↦ decoder_at.left k h
      | inr is ↦ elim (among_append (targets (regfile_drives o.regfile n)) (targets (hazard_drives o.hazard n)) k is) [
        | inl h ↦ regfile_at.left k h
        | inr h ↦ hazard_at.left k h
      ]
    ]
  ]

  pub wires_left : (n : PipeNets) (k : ℕ) → is_among k (targets (wire_drives wire o n)) ≡ true → (is_among k (own_numbers wire) ≡ true) ⊎ (is_left_input w.reg k ≡ true)
  wires_left n k is = elim (among_append (own_numbers wire) (targets (fetch_drives o.fetch n ++ (decoder_drives o.decoder n ++ (regfile_drives o.regfile n ++ hazard_drives o.hazard n)))) k is) [
    | inl own ↦ inl own
    | inr h ↦ inr (services_left n k h)
  ]

  system_is_left : (q : Option SystemPorts) → o.system ≡ q → (n : PipeNets) (k : ℕ) → is_among k (targets (system_list q n)) ≡ true → is_left_input w.reg k ≡ true
  system_is_left None e n k is = absurd (both_ways false refl is)
  system_is_left (Some y) e n k is = (system_at y e).left k is

  pub system_left : (n : PipeNets) (k : ℕ) → is_among k (targets (system_list o.system n)) ≡ true → is_left_input w.reg k ≡ true
  system_left = system_is_left o.system refl

  module _ (execs : List ExecOffer) (x : Services) (sh : Shape) (take : ℕ) (n : PipeNets) (nets : AreNets (scope_of a) pool (things_from pool.nodes wire reg execs x sh) take n) where
    own_drives_can : CanDriveAll a pool (own_drives wire n)
    own_drives_can =
        let z : wire + 0 ≡ wire = omega arith in (
          subst (λ k. CanDrive a pool k n.wires.kill) z (own_can 0 (omega arith) (net_fits nets.wires.kill (omega arith))),
          (
            own_can 1 (omega arith) (net_fits nets.wires.irq (omega arith)),
            (
              own_can 2 (omega arith) (net_fits nets.wires.run (omega arith)),
              (
                own_can 3 (omega arith) (net_fits nets.wires.ends (omega arith)),
                (
                  own_can 4 (omega arith) (net_fits nets.wires.retires (omega arith)),
                  (
                    own_can 5 (omega arith) (net_fits nets.wires.traps (omega arith)),
                    (
                      own_can 6 (omega arith) (net_fits nets.wires.writes (omega arith)),
                      (own_can 7 (omega arith) (net_fits nets.wires.enters (omega arith)), tt),
                    ),
                  ),
                ),
              ),
            ),
          ),
        )

    fetch_can : CanDriveAll a pool (fetch_drives o.fetch n)
    fetch_can = service_can Fetch (fetch_ports o.fetch) fetch_at (fetch_drives o.fetch n) refl
        (net_fits nets.mids.takes (omega arith), (net_fits nets.known.wires.kill (omega arith), (net_fits nets.known.regs.apc (omega arith), (net_fits nets.front.fence (omega arith), tt))))

    decoder_can : CanDriveAll a pool (decoder_drives o.decoder n)
    decoder_can = service_can Decoder (decoder_ports o.decoder) decoder_at (decoder_drives o.decoder n) refl (net_fits nets.known.fetch.word (omega arith), tt)

    regfile_can : CanDriveAll a pool (regfile_drives o.regfile n)
    regfile_can = service_can RegFile (regfile_ports o.regfile) regfile_at (regfile_drives o.regfile n) refl
        (net_fits nets.front.ra (omega arith), (net_fits nets.front.rb (omega arith), (net_fits nets.tail.enable (omega arith), (net_fits nets.tail.leaving_is.rd (omega arith), (net_fits nets.tail.leaving_is.value (omega arith), tt)))))

    hazard_can : CanDriveAll a pool (hazard_drives o.hazard n)
    hazard_can = service_can Hazard (hazard_ports o.hazard) hazard_at (hazard_drives o.hazard n) refl (
      net_fits nets.front.writes (omega arith),
      (
        net_fits nets.front.rd (omega arith),
        (
          net_fits nets.known.units.done (omega arith),
          (
            net_fits nets.known.units.value (omega arith),
            (
              net_fits nets.tail.second.writes (omega arith),
              (
                net_fits nets.tail.second.rd (omega arith),
                (
                  net_fits nets.tail.second.ready (omega arith),
                  (
                    net_fits nets.tail.second.value (omega arith),
                    (
                      net_fits nets.tail.third.writes (omega arith),
                      (
                        net_fits nets.tail.third.rd (omega arith),
                        (
                          net_fits nets.tail.third.ready (omega arith),
                          (
                            net_fits nets.tail.third.value (omega arith),
                            (net_fits nets.front.ra (omega arith), (net_fits nets.front.rb (omega arith), (net_fits nets.known.decoder.uses_a (omega arith), (net_fits nets.known.decoder.uses_b (omega arith), tt)))),
                          ),
                        ),
                      ),
                    ),
                  ),
                ),
              ),
            ),
          ),
        ),
      ),
    )

    wires_can : CanDriveAll a pool (wire_drives wire o n)
    wires_can = can_append a pool (own_drives wire n) (fetch_drives o.fetch n ++ (decoder_drives o.decoder n ++ (regfile_drives o.regfile n ++ hazard_drives o.hazard n))) own_drives_can
        (can_append a pool (fetch_drives o.fetch n) (decoder_drives o.decoder n ++ (regfile_drives o.regfile n ++ hazard_drives o.hazard n)) fetch_can
        (can_append a pool (decoder_drives o.decoder n) (regfile_drives o.regfile n ++ hazard_drives o.hazard n) decoder_can (can_append a pool (regfile_drives o.regfile n) (hazard_drives o.hazard n) regfile_can hazard_can)))

    -- ---- no number comes twice

    hazard_apart : AreApart (targets (hazard_drives o.hazard n))
    hazard_apart = service_apart Hazard (hazard_ports o.hazard) hazard_at

    regfile_apart : AreApart (targets (regfile_drives o.regfile n ++ hazard_drives o.hazard n))
    regfile_apart = apart_append (targets (regfile_drives o.regfile n)) (targets (hazard_drives o.hazard n)) (service_apart RegFile (regfile_ports o.regfile) regfile_at) hazard_apart
        (beside_other RegFile Hazard (regfile_ports o.regfile) (hazard_ports o.hazard) regfile_at hazard_at (λ e. cc))

    decoder_apart : AreApart (targets (decoder_drives o.decoder n ++ (regfile_drives o.regfile n ++ hazard_drives o.hazard n)))
    decoder_apart = apart_append (targets (decoder_drives o.decoder n)) (targets (regfile_drives o.regfile n ++ hazard_drives o.hazard n)) (service_apart Decoder (decoder_ports o.decoder) decoder_at) regfile_apart
        (λ k is. not_append (targets (regfile_drives o.regfile n)) (targets (hazard_drives o.hazard n)) k
        (beside_other Decoder RegFile (decoder_ports o.decoder) (regfile_ports o.regfile) decoder_at regfile_at (λ e. cc) k is)
        (beside_other Decoder Hazard (decoder_ports o.decoder) (hazard_ports o.hazard) decoder_at hazard_at (λ e. cc) k is))

    abbrev services : List (ℕ × Net)
    services = fetch_drives o.fetch n ++ (decoder_drives o.decoder n ++ (regfile_drives o.regfile n ++ hazard_drives o.hazard n))

    services_apart : AreApart (targets services)
    services_apart = apart_append (targets (fetch_drives o.fetch n)) (targets (decoder_drives o.decoder n ++ (regfile_drives o.regfile n ++ hazard_drives o.hazard n)))
        (service_apart Fetch (fetch_ports o.fetch) fetch_at) decoder_apart
        (λ k is. not_append (targets (decoder_drives o.decoder n)) (targets (regfile_drives o.regfile n ++ hazard_drives o.hazard n)) k
        (beside_other Fetch Decoder (fetch_ports o.fetch) (decoder_ports o.decoder) fetch_at decoder_at (λ e. cc) k is)
        (not_append (targets (regfile_drives o.regfile n)) (targets (hazard_drives o.hazard n)) k
        (beside_other Fetch RegFile (fetch_ports o.fetch) (regfile_ports o.regfile) fetch_at regfile_at (λ e. cc) k is)
        (beside_other Fetch Hazard (fetch_ports o.fetch) (hazard_ports o.hazard) fetch_at hazard_at (λ e. cc) k is)))

    -- an input of the services is below the pipeline's own
    services_below : (k : ℕ) → is_among k (targets services) ≡ true → k < wire
    services_below k is = elim (among_append (targets (fetch_drives o.fetch n)) (targets (decoder_drives o.decoder n ++ (regfile_drives o.regfile n ++ hazard_drives o.hazard n))) k is) [
      | inl h ↦ below_own Fetch (fetch_ports o.fetch) fetch_at k h
      | inr is ↦ elim (among_append (targets (decoder_drives o.decoder n)) (targets (regfile_drives o.regfile n ++ hazard_drives o.hazard n)) k is) [
        | inl h ↦ below_own Decoder (decoder_ports o.decoder) decoder_at k h
        | inr is ↦ elim (among_append (targets (regfile_drives o.regfile n)) (targets (hazard_drives o.hazard n)) k is) [
          | inl h ↦ below_own RegFile (regfile_ports o.regfile) regfile_at k h
          | inr h ↦ below_own Hazard (hazard_ports o.hazard) hazard_at k h
        ]
      ]
    ]

    wires_apart : AreApart (targets (wire_drives wire o n))
    wires_apart = apart_append (own_numbers wire) (targets services) (own_apart wire) services_apart
        (λ k is. false_from_ne_true _ (λ there. let l = services_below k there in let m = from_on wire (own_numbers wire) k (own_from_first wire) is in omega (arith, l, m)))

    -- ---- System

    system_can : (q : Option SystemPorts) → o.system ≡ q → CanDriveAll a pool (system_list q n)
    system_can None e = tt
    system_can (Some y) e = service_can System (system_ports y) (system_at y e) (system_drives y n) refl
        (net_fits nets.mids.event (omega arith), (net_fits nets.event.kind (omega arith), (net_fits nets.known.regs.apc (omega arith), (net_fits nets.event.cause (omega arith), (net_fits nets.event.tval (omega arith), tt)))))

    system_is_apart : (q : Option SystemPorts) → o.system ≡ q → AreApart (targets (system_list q n))
    system_is_apart None e = tt
    system_is_apart (Some y) e = service_apart System (system_ports y) (system_at y e)

    system_beside : (q : Option SystemPorts) → o.system ≡ q → (k : ℕ) → is_among k (targets (system_list q n)) ≡ true → is_among k (targets (wire_drives wire o n)) ≡ false
    system_beside None e k is = absurd (both_ways false refl is)
    system_beside (Some y) e k is =
        let x = system_at y e in
        not_append (own_numbers wire) (targets services) k (below_all wire (own_numbers wire) k (own_from_first wire) (below_own System (system_ports y) x k is))
        (not_append (targets (fetch_drives o.fetch n)) (targets (decoder_drives o.decoder n ++ (regfile_drives o.regfile n ++ hazard_drives o.hazard n))) k
        (beside_other System Fetch (system_ports y) (fetch_ports o.fetch) x fetch_at (λ e. cc) k is)
        (not_append (targets (decoder_drives o.decoder n)) (targets (regfile_drives o.regfile n ++ hazard_drives o.hazard n)) k
        (beside_other System Decoder (system_ports y) (decoder_ports o.decoder) x decoder_at (λ e. cc) k is)
        (not_append (targets (regfile_drives o.regfile n)) (targets (hazard_drives o.hazard n)) k
        (beside_other System RegFile (system_ports y) (regfile_ports o.regfile) x regfile_at (λ e. cc) k is)
        (beside_other System Hazard (system_ports y) (hazard_ports o.hazard) x hazard_at (λ e. cc) k is))))

    -- ---- registers and outputs

    regs_can : CanMoveAll a pool reg (reg_list n)
    regs_can = moves_can a pool reg (own_shapes reset_pc) (reg_list n) at.regs at.regs_there (
      net_fits nets.state.apc (omega arith),
      (
        net_fits nets.state.flush (omega arith),
        (
          net_fits nets.mids.fences (omega arith),
          (
            net_fits nets.state.started (omega arith),
            (
              net_fits nets.state.stopped (omega arith),
              (
                net_fits nets.state.valid (omega arith),
                (
                  net_fits nets.slot.pc (omega arith),
                  (
                    net_fits nets.slot.word (omega arith),
                    (
                      net_fits nets.slot.error (omega arith),
                      (
                        net_fits nets.slot.legal (omega arith),
                        (
                          net_fits nets.slot.row (omega arith),
                          (
                            net_fits nets.slot.except (omega arith),
                            (net_fits nets.slot.writes (omega arith), (net_fits nets.slot.a (omega arith), (net_fits nets.slot.b (omega arith), tt))),
                          ),
                        ),
                      ),
                    ),
                  ),
                ),
              ),
            ),
          ),
        ),
      ),
    )

    shows : {port width : ℕ} {net : Net} → port < 30 → ports.is_input (port_at port) ≡ false → ports.width_of (port_at port) ≡ width → is_left_out w.reg port ≡ true → NetFits a pool width 9 net → CanShow a pool port net
    shows {port} l i wide left h = record { there = l; output = i; free = ap (λ os. out_at os port) at.outs ∙ at.bare port left; fits = h.fits; width = h.wide ∙ sym wide }

    told_can : CanShowAll a pool (told_drives n)
    unfolding port_at
    told_can = (
      shows (omega arith) refl refl (left_high w.reg 20 refl refl) (net_fits nets.mids.event (omega arith)),
      (
        shows (omega arith) refl refl (left_high w.reg 21 refl refl) (net_fits nets.told.kind (omega arith)),
        (
          shows (omega arith) refl refl (left_high w.reg 22 refl refl) (net_fits nets.known.regs.apc (omega arith)),
          (
            shows (omega arith) refl refl (left_high w.reg 23 refl refl) (net_fits nets.told.word (omega arith)),
            (
              shows (omega arith) refl refl (left_high w.reg 24 refl refl) (net_fits nets.told.rd (omega arith)),
              (
                shows (omega arith) refl refl (left_high w.reg 25 refl refl) (net_fits nets.told.value (omega arith)),
                (
                  shows (omega arith) refl refl (left_high w.reg 26 refl refl) (net_fits nets.told.cause (omega arith)),
                  (
                    shows (omega arith) refl refl (left_high w.reg 27 refl refl) (net_fits nets.known.fetch.valid (omega arith)),
                    (
                      shows (omega arith) refl refl (left_high w.reg 28 refl refl) (net_fits nets.ends.take_is (omega arith)),
                      (shows (omega arith) refl refl (left_high w.reg 29 refl refl) (net_fits nets.known.fetch.pc (omega arith)), tt),
                    ),
                  ),
                ),
              ),
            ),
          ),
        ),
      ),
    )

    bus_can : (b : Bool) → is_some w.reg.databus ≡ b → CanShowAll a pool (bus_drives b n)
    unfolding port_at
    bus_can true e = tt
    bus_can false e = (
      shows (omega arith) refl refl (left_bus w.reg 8 refl e) (net_fits nets.ends.bit (omega arith)),
      (
        shows (omega arith) refl refl (left_bus w.reg 10 refl e) (net_fits nets.ends.bit (omega arith)),
        (
          shows (omega arith) refl refl (left_bus w.reg 11 refl e) (net_fits nets.ends.word (omega arith)),
          (
            shows (omega arith) refl refl (left_bus w.reg 12 refl e) (net_fits nets.ends.word (omega arith)),
            (shows (omega arith) refl refl (left_bus w.reg 13 refl e) (net_fits nets.ends.mask (omega arith)), tt),
          ),
        ),
      ),
    )

    pub can_rest : CanRest a pool wire reg o has_bus n
    can_rest = record {
      wires = wires_can;
      apart = wires_apart;
      system = system_can o.system refl;
      system_apart = system_is_apart o.system refl;
      beside = system_beside o.system refl;
      regs = regs_can;
      told = told_can;
      bus = bus_can has_bus at.bus;
    }
