-- Drivers that fit, while nodes are added and the module grows.
use Rattle.std.proofs.Common.{◌≡◌, ◌∙◌, ℕ, ◌+◌, ◌<◌, false, List, [], length, get_or, set, Option, Some, None, replicate, ap, arith, sym, subst, inl, inr}
use Rattle.std.proofs.lemmas.Bool.{cases_lt, cases_eq}
use Rattle.std.proofs.lemmas.List.{get_or_default, get_or-replicate, get_or-set_same}
use Rattle.core_ports.specs.Ports.{is_input}
use Rattle.core_ports.specs.Ports as ports
use Rattle.hw_pool.specs.Nodes.{PoolValue}
use Rattle.hw_pool.specs.Frame.{Adds}
use Rattle.hw_expr.specs.declared.net.Net.{Net}
use Rattle.hw_module.specs.declared.rows.WireRow.{WireRow}
use Rattle.hw_module.specs.declared.rows.RegRow.{RegRow}
use Rattle.hw_module.specs.declared.rows.ArrayRow.{ArrayRow}
use Rattle.hw_module.specs.declared.rows.ArrayWrite.{ArrayWrite}
use Rattle.hw_module.specs.Ports.{port_at}
use Rattle.hw_module.specs.Rows.{ModuleValue, wire_at, reg_at, array_at, out_at}
use Rattle.hw_module.specs.Fits.{FitsIn}
use Rattle.hw_module.proofs.Fill.{wire_fills, reg_fills, array_fills, drive_fills, next_fills, write_fills, output_fills}
use Rattle.hw_module.specs.Frame.{Grows, WireStays, RegStays, ArrayStays}
use Rattle.hw_module.specs.Checked.{DrivesWire, DrivesReg, DrivesArray, DrivesPort, DriversFit}
use Rattle.hw_module.proofs.Fits.{grown_fits, added_fits}

some_same : {A : Type 0} {a b : A} → Some a ≡ Some b → a ≡ b
some_same e = cc

-- ---- what nets that fit are lent to

module _ (m new : ModuleValue) (pool after : PoolValue) (keeps : (net : Net) → FitsIn m pool net → FitsIn new after net) where
  wire_kept : (row : WireRow) (net : Net) → DrivesWire m pool row net → DrivesWire new after row net
  wire_kept row net h = record { fits = keeps net h.fits; width = h.width; below = h.below }

  reg_kept : (row : RegRow) (net : Net) → DrivesReg m pool row net → DrivesReg new after row net
  reg_kept row net h = record { fits = keeps net h.fits; width = h.width }

  array_kept : (row : ArrayRow) (w : ArrayWrite) → DrivesArray m pool row w → DrivesArray new after row w
  array_kept row w h = record {
    enable = keeps w.enable h.enable;
    addr = keeps w.addr h.addr;
    value = keeps w.value h.value;
    bit = h.bit;
    bits = h.bits;
    width = h.width;
  }

  port_kept : (port : ℕ) (net : Net) → DrivesPort m pool port net → DrivesPort new after port net
  port_kept port net h = record { output = h.output; fits = keeps net h.fits; width = h.width }

-- drivers that fit still do when nodes are added
pub drivers_stay : (m : ModuleValue) (old new : PoolValue) (n : ℕ) → Adds old new n → DriversFit m old → DriversFit m new
drivers_stay m old new n adds h =
    let keeps : (net : Net) → FitsIn m old net → FitsIn m new net = λ net f. added_fits m old new n net adds f in
    record {
      wires = λ k net l d. wire_kept m m old new keeps _ net (h.wires k net l d);
      regs = λ k net l d. reg_kept m m old new keeps _ net (h.regs k net l d);
      arrays = λ k w l d. array_kept m m old new keeps _ w (h.arrays k w l d);
      outs = λ k net l d. port_kept m m old new keeps k net (h.outs k net l d);
    }

-- ---- rows that stay

wire_same : {old new : WireRow} → new ≡ old → WireStays old new
wire_same e = record { owner = ap (λ (r : WireRow). r.owner) e; width = ap (λ (r : WireRow). r.width) e; level = ap (λ (r : WireRow). r.level) e; driver = λ net h. ap (λ (r : WireRow). r.driver) e ∙ h }

wire_to : {old new : WireRow} {net : Net} → old.driver ≡ None → new ≡ record old { driver = Some net } → WireStays old new
wire_to free e = record {
  owner = ap (λ (r : WireRow). r.owner) e;
  width = ap (λ (r : WireRow). r.width) e;
  level = ap (λ (r : WireRow). r.level) e;
  driver = λ other h. let k : None ≡ Some other = sym free ∙ h in absurd (grind arith);
}

reg_same : {old new : RegRow} → new ≡ old → RegStays old new
reg_same e = record { owner = ap (λ (r : RegRow). r.owner) e; width = ap (λ (r : RegRow). r.width) e; reset = ap (λ (r : RegRow). r.reset) e; next = λ net h. ap (λ (r : RegRow). r.next) e ∙ h }

reg_to : {old new : RegRow} {net : Net} → old.next ≡ None → new ≡ record old { next = Some net } → RegStays old new
reg_to free e = record {
  owner = ap (λ (r : RegRow). r.owner) e;
  width = ap (λ (r : RegRow). r.width) e;
  reset = ap (λ (r : RegRow). r.reset) e;
  next = λ other h. let k : None ≡ Some other = sym free ∙ h in absurd (grind arith);
}

array_same : {old new : ArrayRow} → new ≡ old → ArrayStays old new
array_same e = record { owner = ap (λ (r : ArrayRow). r.owner) e; width = ap (λ (r : ArrayRow). r.width) e; bits = ap (λ (r : ArrayRow). r.bits) e; write = λ w h. ap (λ (r : ArrayRow). r.write) e ∙ h }

array_to : {old new : ArrayRow} {w : ArrayWrite} → old.write ≡ None → new ≡ record old { write = Some w } → ArrayStays old new
array_to free e = record {
  owner = ap (λ (r : ArrayRow). r.owner) e;
  width = ap (λ (r : ArrayRow). r.width) e;
  bits = ap (λ (r : ArrayRow). r.bits) e;
  write = λ other h. let k : None ≡ Some other = sym free ∙ h in absurd (grind arith);
}

-- ---- a row that takes a driver, where it was read with itself as the default

pub wire_put : (rows items : List WireRow) (k : ℕ) (net : Net) (row : WireRow) → items ≡ rows → k < length items → row ≡ get_or items k row
    → wire_at (set items k (record row { driver = Some net })) k ≡ record (wire_at rows k) { driver = Some net }
wire_put rows items k net row same lt is =
    get_or-set_same items k (record row { driver = Some net }) _ lt
    ∙ ap (λ (r : WireRow). record r { driver = Some net }) (is ∙ get_or_default items k row _ lt ∙ ap (λ (l : List WireRow). wire_at l k) same)

pub reg_put : (rows items : List RegRow) (k : ℕ) (net : Net) (row : RegRow) → items ≡ rows → k < length items → row ≡ get_or items k row
    → reg_at (set items k (record row { next = Some net })) k ≡ record (reg_at rows k) { next = Some net }
reg_put rows items k net row same lt is =
    get_or-set_same items k (record row { next = Some net }) _ lt
    ∙ ap (λ (r : RegRow). record r { next = Some net }) (is ∙ get_or_default items k row _ lt ∙ ap (λ (l : List RegRow). reg_at l k) same)

pub array_put : (rows items : List ArrayRow) (k : ℕ) (w : ArrayWrite) (row : ArrayRow) → items ≡ rows → k < length items → row ≡ get_or items k row
    → array_at (set items k (record row { write = Some w })) k ≡ record (array_at rows k) { write = Some w }
array_put rows items k w row same lt is =
    get_or-set_same items k (record row { write = Some w }) _ lt
    ∙ ap (λ (r : ArrayRow). record r { write = Some w }) (is ∙ get_or_default items k row _ lt ∙ ap (λ (l : List ArrayRow). array_at l k) same)

-- ---- a module that has grown by a driver

module _ (old new : ModuleValue) (room : new.room + 1 ≡ old.room) where
  pub wire_grows : length new.wires ≡ length old.wires + 1 → (wire_at new.wires (length old.wires)).driver ≡ None → ((k : ℕ) → k < length old.wires → wire_at new.wires k ≡ wire_at old.wires k)
      → new.regs ≡ old.regs → new.arrays ≡ old.arrays → new.outs ≡ old.outs → Grows old new 1
  wire_grows count made before regs arrays outs = record {
    room = omega arith;
    fill = wire_fills old new count made before regs arrays outs;
    more_wires = omega arith;
    more_regs = let e : length new.regs ≡ length old.regs = ap length regs in omega arith;
    more_arrays = let e : length new.arrays ≡ length old.arrays = ap length arrays in omega arith;
    wires = λ k l. wire_same (before k l);
    regs = λ k l. reg_same (ap (λ (rows : List RegRow). reg_at rows k) regs);
    arrays = λ k l. array_same (ap (λ (rows : List ArrayRow). array_at rows k) arrays);
    outs = λ k other h. ap (λ (o : List (Option Net)). out_at o k) outs ∙ h;
  }

  pub reg_grows : length new.regs ≡ length old.regs + 1 → (reg_at new.regs (length old.regs)).next ≡ None → ((k : ℕ) → k < length old.regs → reg_at new.regs k ≡ reg_at old.regs k)
      → new.wires ≡ old.wires → new.arrays ≡ old.arrays → new.outs ≡ old.outs → Grows old new 1
  reg_grows count made before wires arrays outs = record {
    room = omega arith;
    fill = reg_fills old new count made before wires arrays outs;
    more_wires = let e : length new.wires ≡ length old.wires = ap length wires in omega arith;
    more_regs = omega arith;
    more_arrays = let e : length new.arrays ≡ length old.arrays = ap length arrays in omega arith;
    wires = λ k l. wire_same (ap (λ (rows : List WireRow). wire_at rows k) wires);
    regs = λ k l. reg_same (before k l);
    arrays = λ k l. array_same (ap (λ (rows : List ArrayRow). array_at rows k) arrays);
    outs = λ k other h. ap (λ (o : List (Option Net)). out_at o k) outs ∙ h;
  }

  pub array_grows : length new.arrays ≡ length old.arrays + 1 → (array_at new.arrays (length old.arrays)).write ≡ None → ((k : ℕ) → k < length old.arrays → array_at new.arrays k ≡ array_at old.arrays k)
      → new.wires ≡ old.wires → new.regs ≡ old.regs → new.outs ≡ old.outs → Grows old new 1
  array_grows count made before wires regs outs = record {
    room = omega arith;
    fill = array_fills old new count made before wires regs outs;
    more_wires = let e : length new.wires ≡ length old.wires = ap length wires in omega arith;
    more_regs = let e : length new.regs ≡ length old.regs = ap length regs in omega arith;
    more_arrays = omega arith;
    wires = λ k l. wire_same (ap (λ (rows : List WireRow). wire_at rows k) wires);
    regs = λ k l. reg_same (ap (λ (rows : List RegRow). reg_at rows k) regs);
    arrays = λ k l. array_same (before k l);
    outs = λ k other h. ap (λ (o : List (Option Net)). out_at o k) outs ∙ h;
  }

  pub output_grows : (port : ℕ) (net : Net) → out_at old.outs port ≡ None → out_at new.outs port ≡ Some net → ((k : ℕ) → (k ≡ port → ⊥) → out_at new.outs k ≡ out_at old.outs k)
      → length new.outs ≡ length old.outs → new.wires ≡ old.wires → new.regs ≡ old.regs → new.arrays ≡ old.arrays → Grows old new 1
  output_grows port net free driven others count wires regs arrays = record {
    room = omega arith;
    fill = output_fills old new port net free driven others count wires regs arrays;
    more_wires = let e : length new.wires ≡ length old.wires = ap length wires in omega arith;
    more_regs = let e : length new.regs ≡ length old.regs = ap length regs in omega arith;
    more_arrays = let e : length new.arrays ≡ length old.arrays = ap length arrays in omega arith;
    wires = λ k l. wire_same (ap (λ (rows : List WireRow). wire_at rows k) wires);
    regs = λ k l. reg_same (ap (λ (rows : List RegRow). reg_at rows k) regs);
    arrays = λ k l. array_same (ap (λ (rows : List ArrayRow). array_at rows k) arrays);
    outs = λ k other h. elim (cases_eq k port) [
      | inl is ↦ let none : None ≡ Some other = sym free ∙ sym (ap (λ (j : ℕ). out_at old.outs j) is) ∙ h in absurd (grind arith)
      | inr ne ↦ others k ne ∙ h
    ];
  }

  pub drive_grows : (wire : ℕ) (net : Net) → (wire_at old.wires wire).driver ≡ None → wire_at new.wires wire ≡ record (wire_at old.wires wire) { driver = Some net }
      → ((k : ℕ) → (k ≡ wire → ⊥) → wire_at new.wires k ≡ wire_at old.wires k)
      → length new.wires ≡ length old.wires → new.regs ≡ old.regs → new.arrays ≡ old.arrays → new.outs ≡ old.outs → Grows old new 1
  drive_grows wire net free driven others count regs arrays outs = record {
    room = omega arith;
    fill = drive_fills old new wire net free driven others count regs arrays outs;
    more_wires = omega arith;
    more_regs = let e : length new.regs ≡ length old.regs = ap length regs in omega arith;
    more_arrays = let e : length new.arrays ≡ length old.arrays = ap length arrays in omega arith;
    wires = λ k l. elim (cases_eq k wire) [
      | inl is ↦ subst (λ (j : ℕ). WireStays (wire_at old.wires j) (wire_at new.wires j)) (sym is) (wire_to free driven)
      | inr ne ↦ wire_same (others k ne)
    ];
    regs = λ k l. reg_same (ap (λ (rows : List RegRow). reg_at rows k) regs);
    arrays = λ k l. array_same (ap (λ (rows : List ArrayRow). array_at rows k) arrays);
    outs = λ k other h. ap (λ (o : List (Option Net)). out_at o k) outs ∙ h;
  }

  pub next_grows : (reg : ℕ) (net : Net) → (reg_at old.regs reg).next ≡ None → reg_at new.regs reg ≡ record (reg_at old.regs reg) { next = Some net }
      → ((k : ℕ) → (k ≡ reg → ⊥) → reg_at new.regs k ≡ reg_at old.regs k)
      → length new.regs ≡ length old.regs → new.wires ≡ old.wires → new.arrays ≡ old.arrays → new.outs ≡ old.outs → Grows old new 1
  next_grows reg net free driven others count wires arrays outs = record {
    room = omega arith;
    fill = next_fills old new reg net free driven others count wires arrays outs;
    more_wires = let e : length new.wires ≡ length old.wires = ap length wires in omega arith;
    more_regs = omega arith;
    more_arrays = let e : length new.arrays ≡ length old.arrays = ap length arrays in omega arith;
    wires = λ k l. wire_same (ap (λ (rows : List WireRow). wire_at rows k) wires);
    regs = λ k l. elim (cases_eq k reg) [
      | inl is ↦ subst (λ (j : ℕ). RegStays (reg_at old.regs j) (reg_at new.regs j)) (sym is) (reg_to free driven)
      | inr ne ↦ reg_same (others k ne)
    ];
    arrays = λ k l. array_same (ap (λ (rows : List ArrayRow). array_at rows k) arrays);
    outs = λ k other h. ap (λ (o : List (Option Net)). out_at o k) outs ∙ h;
  }

  pub write_grows : (array : ℕ) (w : ArrayWrite) → (array_at old.arrays array).write ≡ None → array_at new.arrays array ≡ record (array_at old.arrays array) { write = Some w }
      → ((k : ℕ) → (k ≡ array → ⊥) → array_at new.arrays k ≡ array_at old.arrays k)
      → length new.arrays ≡ length old.arrays → new.wires ≡ old.wires → new.regs ≡ old.regs → new.outs ≡ old.outs → Grows old new 1
  write_grows array w free driven others count wires regs outs = record {
    room = omega arith;
    fill = write_fills old new array w free driven others count wires regs outs;
    more_wires = let e : length new.wires ≡ length old.wires = ap length wires in omega arith;
    more_regs = let e : length new.regs ≡ length old.regs = ap length regs in omega arith;
    more_arrays = omega arith;
    wires = λ k l. wire_same (ap (λ (rows : List WireRow). wire_at rows k) wires);
    regs = λ k l. reg_same (ap (λ (rows : List RegRow). reg_at rows k) regs);
    arrays = λ k l. elim (cases_eq k array) [
      | inl is ↦ subst (λ (j : ℕ). ArrayStays (array_at old.arrays j) (array_at new.arrays j)) (sym is) (array_to free driven)
      | inr ne ↦ array_same (others k ne)
    ];
    outs = λ k other h. ap (λ (o : List (Option Net)). out_at o k) outs ∙ h;
  }

-- ---- a module that has grown

-- each driver of the new module was there, in a row that is as it was, or fits
module _ (old new : ModuleValue) (n : ℕ) (pool : PoolValue) (grows : Grows old new n) (h : DriversFit old pool) where
  keeps : (net : Net) → FitsIn old pool net → FitsIn new pool net
  keeps net f = grown_fits old new n pool net grows f

  wire_as : (k : ℕ) (net : Net) → k < length old.wires → wire_at new.wires k ≡ wire_at old.wires k → (wire_at new.wires k).driver ≡ Some net → DrivesWire new pool (wire_at new.wires k) net
  wire_as k net l same d =
      subst (λ (row : WireRow). DrivesWire new pool row net) (sym same)
      (wire_kept old new pool pool keeps (wire_at old.wires k) net (h.wires k net l (sym (ap (λ (row : WireRow). row.driver) same) ∙ d)))

  reg_as : (k : ℕ) (net : Net) → k < length old.regs → reg_at new.regs k ≡ reg_at old.regs k → (reg_at new.regs k).next ≡ Some net → DrivesReg new pool (reg_at new.regs k) net
  reg_as k net l same d =
      subst (λ (row : RegRow). DrivesReg new pool row net) (sym same)
      (reg_kept old new pool pool keeps (reg_at old.regs k) net (h.regs k net l (sym (ap (λ (row : RegRow). row.next) same) ∙ d)))

  array_as : (k : ℕ) (w : ArrayWrite) → k < length old.arrays → array_at new.arrays k ≡ array_at old.arrays k → (array_at new.arrays k).write ≡ Some w → DrivesArray new pool (array_at new.arrays k) w
  array_as k w l same d =
      subst (λ (row : ArrayRow). DrivesArray new pool row w) (sym same)
      (array_kept old new pool pool keeps (array_at old.arrays k) w (h.arrays k w l (sym (ap (λ (row : ArrayRow). row.write) same) ∙ d)))

  out_as : (k : ℕ) (net : Net) → k < 30 → out_at new.outs k ≡ out_at old.outs k → out_at new.outs k ≡ Some net → DrivesPort new pool k net
  out_as k net l same d = port_kept old new pool pool keeps k net (h.outs k net l (sym same ∙ d))

  -- lists of things that are as they were
  wires_as : new.wires ≡ old.wires → (k : ℕ) (net : Net) → k < length new.wires → (wire_at new.wires k).driver ≡ Some net → DrivesWire new pool (wire_at new.wires k) net
  wires_as same k net l d = wire_as k net (subst (λ (rows : List WireRow). k < length rows) same l) (ap (λ (rows : List WireRow). wire_at rows k) same) d

  regs_as : new.regs ≡ old.regs → (k : ℕ) (net : Net) → k < length new.regs → (reg_at new.regs k).next ≡ Some net → DrivesReg new pool (reg_at new.regs k) net
  regs_as same k net l d = reg_as k net (subst (λ (rows : List RegRow). k < length rows) same l) (ap (λ (rows : List RegRow). reg_at rows k) same) d

  arrays_as : new.arrays ≡ old.arrays → (k : ℕ) (w : ArrayWrite) → k < length new.arrays → (array_at new.arrays k).write ≡ Some w → DrivesArray new pool (array_at new.arrays k) w
  arrays_as same k w l d = array_as k w (subst (λ (rows : List ArrayRow). k < length rows) same l) (ap (λ (rows : List ArrayRow). array_at rows k) same) d

  outs_as : new.outs ≡ old.outs → (k : ℕ) (net : Net) → k < 30 → out_at new.outs k ≡ Some net → DrivesPort new pool k net
  outs_as same k net l d = out_as k net l (ap (λ (outs : List (Option Net)). out_at outs k) same) d

  -- a thing more, which has no driver
  pub wire_made : length new.wires ≡ length old.wires + 1 → (wire_at new.wires (length old.wires)).driver ≡ None
      → ((k : ℕ) → k < length old.wires → wire_at new.wires k ≡ wire_at old.wires k) → new.regs ≡ old.regs → new.arrays ≡ old.arrays → new.outs ≡ old.outs → DriversFit new pool
  wire_made count made before regs arrays outs = record {
    wires = λ k net l d. elim (cases_lt k (length old.wires)) [
      | inl b ↦ wire_as k net b (before k b) d
      | inr a ↦
          let at : length old.wires ≡ k = omega arith in
          let none : None ≡ Some net = sym made ∙ subst (λ (j : ℕ). (wire_at new.wires j).driver ≡ Some net) (sym at) d in
          absurd (grind arith)
    ];
    regs = regs_as regs;
    arrays = arrays_as arrays;
    outs = outs_as outs;
  }

  pub reg_made : length new.regs ≡ length old.regs + 1 → (reg_at new.regs (length old.regs)).next ≡ None
      → ((k : ℕ) → k < length old.regs → reg_at new.regs k ≡ reg_at old.regs k) → new.wires ≡ old.wires → new.arrays ≡ old.arrays → new.outs ≡ old.outs → DriversFit new pool
  reg_made count made before wires arrays outs = record {
    wires = wires_as wires;
    regs = λ k net l d. elim (cases_lt k (length old.regs)) [
      | inl b ↦ reg_as k net b (before k b) d
      | inr a ↦
          let at : length old.regs ≡ k = omega arith in
          let none : None ≡ Some net = sym made ∙ subst (λ (j : ℕ). (reg_at new.regs j).next ≡ Some net) (sym at) d in
          absurd (grind arith)
    ];
    arrays = arrays_as arrays;
    outs = outs_as outs;
  }

  pub array_made : length new.arrays ≡ length old.arrays + 1 → (array_at new.arrays (length old.arrays)).write ≡ None
      → ((k : ℕ) → k < length old.arrays → array_at new.arrays k ≡ array_at old.arrays k) → new.wires ≡ old.wires → new.regs ≡ old.regs → new.outs ≡ old.outs → DriversFit new pool
  array_made count made before wires regs outs = record {
    wires = wires_as wires;
    regs = regs_as regs;
    arrays = λ k w l d. elim (cases_lt k (length old.arrays)) [
      | inl b ↦ array_as k w b (before k b) d
      | inr a ↦
          let at : length old.arrays ≡ k = omega arith in
          let none : None ≡ Some w = sym made ∙ subst (λ (j : ℕ). (array_at new.arrays j).write ≡ Some w) (sym at) d in
          absurd (grind arith)
    ];
    outs = outs_as outs;
  }

  -- a driver more
  pub wire_driven : (wire : ℕ) (net : Net) → wire < length old.wires → FitsIn old pool net → net.width ≡ (wire_at old.wires wire).width → net.level < (wire_at old.wires wire).level
      → wire_at new.wires wire ≡ record (wire_at old.wires wire) { driver = Some net } → ((k : ℕ) → (k ≡ wire → ⊥) → wire_at new.wires k ≡ wire_at old.wires k)
      → length new.wires ≡ length old.wires → new.regs ≡ old.regs → new.arrays ≡ old.arrays → new.outs ≡ old.outs → DriversFit new pool
  wire_driven wire net there fits width below driven others count regs arrays outs = record {
    wires = λ k other l d. elim (cases_eq k wire) [
      | inl is ↦
          let row : WireRow = record (wire_at old.wires wire) { driver = Some net } in
          let mine : DrivesWire new pool row net = record { fits = keeps net fits; width = width; below = below } in
          let at : wire_at new.wires k ≡ row = ap (λ (j : ℕ). wire_at new.wires j) is ∙ driven in
          let same : Some net ≡ Some other = sym (ap (λ (r : WireRow). r.driver) at) ∙ d in
          subst (λ (r : WireRow). DrivesWire new pool r other) (sym at) (subst (DrivesWire new pool row) (some_same same) mine)
      | inr ne ↦ wire_as k other (omega arith) (others k ne) d
    ];
    regs = regs_as regs;
    arrays = arrays_as arrays;
    outs = outs_as outs;
  }

  pub reg_driven : (reg : ℕ) (net : Net) → reg < length old.regs → FitsIn old pool net → net.width ≡ (reg_at old.regs reg).width
      → reg_at new.regs reg ≡ record (reg_at old.regs reg) { next = Some net } → ((k : ℕ) → (k ≡ reg → ⊥) → reg_at new.regs k ≡ reg_at old.regs k)
      → length new.regs ≡ length old.regs → new.wires ≡ old.wires → new.arrays ≡ old.arrays → new.outs ≡ old.outs → DriversFit new pool
  reg_driven reg net there fits width driven others count wires arrays outs = record {
    wires = wires_as wires;
    regs = λ k other l d. elim (cases_eq k reg) [
      | inl is ↦
          let row : RegRow = record (reg_at old.regs reg) { next = Some net } in
          let mine : DrivesReg new pool row net = record { fits = keeps net fits; width = width } in
          let at : reg_at new.regs k ≡ row = ap (λ (j : ℕ). reg_at new.regs j) is ∙ driven in
          let same : Some net ≡ Some other = sym (ap (λ (r : RegRow). r.next) at) ∙ d in
          subst (λ (r : RegRow). DrivesReg new pool r other) (sym at) (subst (DrivesReg new pool row) (some_same same) mine)
      | inr ne ↦ reg_as k other (omega arith) (others k ne) d
    ];
    arrays = arrays_as arrays;
    outs = outs_as outs;
  }

  pub array_driven : (array : ℕ) (w : ArrayWrite) → array < length old.arrays → FitsIn old pool w.enable → FitsIn old pool w.addr → FitsIn old pool w.value → w.enable.width ≡ 1
      → w.addr.width ≡ (array_at old.arrays array).bits → w.value.width ≡ (array_at old.arrays array).width
      → array_at new.arrays array ≡ record (array_at old.arrays array) { write = Some w } → ((k : ℕ) → (k ≡ array → ⊥) → array_at new.arrays k ≡ array_at old.arrays k)
      → length new.arrays ≡ length old.arrays → new.wires ≡ old.wires → new.regs ≡ old.regs → new.outs ≡ old.outs → DriversFit new pool
  array_driven array w there enable addr value bit bits width driven others count wires regs outs = record {
    wires = wires_as wires;
    regs = regs_as regs;
    arrays = λ k other l d. elim (cases_eq k array) [
      | inl is ↦
          let row : ArrayRow = record (array_at old.arrays array) { write = Some w } in
          let mine : DrivesArray new pool row w = record { enable = keeps w.enable enable; addr = keeps w.addr addr; value = keeps w.value value; bit = bit; bits = bits; width = width } in
          let at : array_at new.arrays k ≡ row = ap (λ (j : ℕ). array_at new.arrays j) is ∙ driven in
          let same : Some w ≡ Some other = sym (ap (λ (r : ArrayRow). r.write) at) ∙ d in
          subst (λ (r : ArrayRow). DrivesArray new pool r other) (sym at) (subst (DrivesArray new pool row) (some_same same) mine)
      | inr ne ↦ array_as k other (omega arith) (others k ne) d
    ];
    outs = outs_as outs;
  }

  pub port_driven : (port : ℕ) (net : Net) → is_input (port_at port) ≡ false → FitsIn old pool net → net.width ≡ ports.width_of (port_at port)
      → out_at new.outs port ≡ Some net → ((k : ℕ) → (k ≡ port → ⊥) → out_at new.outs k ≡ out_at old.outs k)
      → new.wires ≡ old.wires → new.regs ≡ old.regs → new.arrays ≡ old.arrays → DriversFit new pool
  port_driven port net output fits width driven others wires regs arrays = record {
    wires = wires_as wires;
    regs = regs_as regs;
    arrays = arrays_as arrays;
    outs = λ k other l d. elim (cases_eq k port) [
      | inl is ↦
          let mine : DrivesPort new pool port net = record { output = output; fits = keeps net fits; width = width } in
          let same : Some net ≡ Some other = sym (ap (λ (j : ℕ). out_at new.outs j) is ∙ driven) ∙ d in
          subst (λ (j : ℕ). DrivesPort new pool j other) (sym is) (subst (DrivesPort new pool port) (some_same same) mine)
      | inr ne ↦ out_as k other l (others k ne) d
    ];
  }

-- a module without things has no driver
pub no_drivers : (m : ModuleValue) (pool : PoolValue) → m.wires ≡ [] → m.regs ≡ [] → m.arrays ≡ [] → m.outs ≡ replicate 30 None → DriversFit m pool
no_drivers m pool wires regs arrays outs = record {
  wires = λ k net l d. let n : length m.wires ≡ 0 = ap length wires in absurd (omega arith);
  regs = λ k net l d. let n : length m.regs ≡ 0 = ap length regs in absurd (omega arith);
  arrays = λ k w l d. let n : length m.arrays ≡ 0 = ap length arrays in absurd (omega arith);
  outs = λ k net l d. let e : None ≡ Some net = sym (get_or-replicate 30 k None None l) ∙ sym (ap (λ (o : List (Option Net)). out_at o k) outs) ∙ d in absurd (grind arith);
}
