-- The kinds of plug-ins: what each says of itself by the parameters that it took, and which parameters it refuses.
use Rattle.std.specs.Prelude.{ℕ, ◌+◌, ◌*◌, ◌/◌, pos, Bool, true, false, ◌&&◌, ◌||◌, cond, leb, List, [], ◌∷◌, map, get_or, Option, None, Some, codes}
use Rattle.std.specs.Int.{is_power_of_two}
use Rattle.core_words.specs.Names.{same_name}
use Rattle.isa_table.specs.declared.claim.Claim.{Claim}
use Rattle.isa_table.specs.Rows.{table, lui}
use Rattle.stage_map.specs.declared.config.Param.{Param}
use Rattle.stage_map.specs.declared.config.PlugEntry.{PlugEntry}
use Rattle.stage_map.specs.declared.config.ParamValue.{ParamValue}
use Rattle.stage_map.specs.declared.config.ParamValue.TheVariants.{Num, Flag, Word}
use Rattle.service_reg.specs.declared.service.Service.{Service}
use Rattle.service_reg.specs.declared.service.Service.TheVariants as service
use Rattle.plug_api.specs.declared.spec.Place.{Place}
use Rattle.plug_api.specs.declared.spec.Place.TheVariants.{Execute, Commit, Apart}
use Rattle.plug_api.specs.declared.spec.PlugSpec.{PlugSpec}
use Rattle.plug_api.specs.declared.spec.ParamFault.{ParamFault}
use Rattle.plug_api.specs.declared.spec.ParamFault.TheVariants.{Unknown, Range}
use Rattle.plug_kinds.specs.declared.kind.Kind.{Kind}
use Rattle.plug_kinds.specs.declared.kind.Kind.TheVariants.{Fetch, Icache, Predict, Fencei, Decoder, Regfile, Hazard, Alu, ShiftLight, ShiftBarrel, Muldiv, Branch, Dbus, Csr}
use Rattle.plug_kinds.specs.declared.kind.Values.{Values}
use Rattle.plug_kinds.specs.declared.kind.Values.TheVariants.{Whole, Power, Truth, Style}

-- a parameter: its key, the values that it may have, and the value that it has where an entry gives none
pub record Parameter : Type 0 where
  pub key : List ℕ
  pub values : Values
  pub default : ParamValue

abbrev pub parameter : List ℕ → Values → ParamValue → Parameter
parameter key values default = record { key = key; values = values; default = default }

-- what is said of a kind
pub record KindRow : Type 0 where
  pub name : List ℕ
  pub params : List Parameter
  pub offers : List Service
  pub needs : List Service
  pub uses : List Service
  -- rows of the instruction table, by number
  pub rows : List ℕ
  -- the greatest number of cycles, and how many more for each that a bus waits, by the numbers of the parameters
  pub latency : (number : List ℕ → ℕ) → ℕ × ℕ
  -- how many things of the module it may make: a number, and so many for each row that the core claims
  pub fixed : ℕ
  pub per_row : ℕ
  pub place : Place

-- ---- the table of kinds

abbrev pub row_of : Kind → KindRow
row_of Fetch = record {
  name = codes "fetch";
  params = parameter (codes "depth") (Whole 1 4) (Num (pos 1)) ∷ [];
  offers = service.Fetch ∷ [];
  needs = [];
  uses = service.Predict ∷ [];
  rows = [];
  latency = λ number. (8, 4);
  fixed = 1024;
  per_row = 0;
  place = Apart;
}
row_of Icache = record {
  name = codes "icache";
  params = parameter (codes "lines") (Power 2 1024) (Num (pos 64)) ∷ parameter (codes "words") (Power 2 16) (Num (pos 8)) ∷ [];
  offers = service.Fetch ∷ [];
  needs = [];
  uses = service.Predict ∷ [];
  rows = [];
  latency = λ number. (number (codes "lines") + 4 * number (codes "words") + 12, 4 * number (codes "words") + 4);
  fixed = 2048;
  per_row = 0;
  place = Apart;
}
row_of Predict = record {
  name = codes "predict";
  params = parameter (codes "style") Style (Word (codes "static")) ∷ [];
  offers = service.Predict ∷ [];
  needs = [];
  uses = [];
  rows = [];
  latency = λ number. (0, 0);
  fixed = 256;
  per_row = 0;
  place = Apart;
}
row_of Fencei = record {
  name = codes "fencei";
  params = [];
  offers = service.Exec ∷ [];
  needs = service.Fetch ∷ [];
  uses = [];
  rows = 40 ∷ [];
  latency = λ number. (1, 0);
  fixed = 64;
  per_row = 0;
  place = Commit;
}
row_of Decoder = record {
  name = codes "decoder";
  params = [];
  offers = service.Decoder ∷ [];
  needs = [];
  uses = [];
  rows = [];
  latency = λ number. (0, 0);
  fixed = 512;
  per_row = 64;
  place = Apart;
}
row_of Regfile = record {
  name = codes "regfile";
  params = [];
  offers = service.RegFile ∷ [];
  needs = [];
  uses = [];
  rows = [];
  latency = λ number. (0, 0);
  fixed = 128;
  per_row = 0;
  place = Apart;
}
row_of Hazard = record {
  name = codes "hazard";
  params = parameter (codes "bypass") Truth (Flag true) ∷ [];
  offers = service.Hazard ∷ [];
  needs = service.RegFile ∷ [];
  uses = [];
  rows = [];
  latency = λ number. (0, 0);
  fixed = 1024;
  per_row = 0;
  place = Apart;
}
row_of Alu = record {
  name = codes "alu";
  params = [];
  offers = service.Exec ∷ [];
  needs = [];
  uses = [];
  rows = 0 ∷ 1 ∷ 18 ∷ 19 ∷ 20 ∷ 21 ∷ 22 ∷ 23 ∷ 27 ∷ 28 ∷ 30 ∷ 31 ∷ 32 ∷ 35 ∷ 36 ∷ [];
  latency = λ number. (1, 0);
  fixed = 512;
  per_row = 0;
  place = Execute;
}
row_of ShiftLight = record {
  name = codes "shift_light";
  params = [];
  offers = service.Exec ∷ [];
  needs = [];
  uses = [];
  rows = 24 ∷ 25 ∷ 26 ∷ 29 ∷ 33 ∷ 34 ∷ [];
  latency = λ number. (33, 0);
  fixed = 512;
  per_row = 0;
  place = Execute;
}
row_of ShiftBarrel = record {
  name = codes "shift_barrel";
  params = [];
  offers = service.Exec ∷ [];
  needs = [];
  uses = [];
  rows = 24 ∷ 25 ∷ 26 ∷ 29 ∷ 33 ∷ 34 ∷ [];
  latency = λ number. (1, 0);
  fixed = 1024;
  per_row = 0;
  place = Execute;
}
row_of Muldiv = record {
  name = codes "muldiv";
  params = parameter (codes "unroll") (Power 1 4) (Num (pos 1)) ∷ [];
  offers = service.Exec ∷ [];
  needs = [];
  uses = [];
  rows = 41 ∷ 42 ∷ 43 ∷ 44 ∷ 45 ∷ 46 ∷ 47 ∷ 48 ∷ [];
  latency = λ number. (32 / number (codes "unroll") + 4, 0);
  fixed = 4096;
  per_row = 0;
  place = Execute;
}
row_of Branch = record {
  name = codes "branch";
  params = [];
  offers = service.Exec ∷ [];
  needs = [];
  uses = [];
  rows = 2 ∷ 3 ∷ 4 ∷ 5 ∷ 6 ∷ 7 ∷ 8 ∷ 9 ∷ [];
  latency = λ number. (1, 0);
  fixed = 512;
  per_row = 0;
  place = Execute;
}
row_of Dbus = record {
  name = codes "dbus";
  params = [];
  offers = service.Exec ∷ service.DataBus ∷ [];
  needs = [];
  uses = [];
  rows = 10 ∷ 11 ∷ 12 ∷ 13 ∷ 14 ∷ 15 ∷ 16 ∷ 17 ∷ 37 ∷ [];
  latency = λ number. (4, 2);
  fixed = 1024;
  per_row = 0;
  place = Commit;
}
row_of Csr = record {
  name = codes "csr";
  params = [];
  offers = service.Exec ∷ service.System ∷ [];
  needs = [];
  uses = [];
  rows = 49 ∷ 50 ∷ 51 ∷ 52 ∷ 53 ∷ 54 ∷ 55 ∷ 56 ∷ [];
  latency = λ number. (2, 0);
  fixed = 4096;
  per_row = 0;
  place = Commit;
}

-- ---- the faults of parameters

-- a value is one of those that a parameter may have
abbrev pub is_of : Values → ParamValue → Bool
is_of (Whole low high) (Num (pos n)) = leb low n && leb n high
is_of (Power low high) (Num (pos n)) = (leb low n && leb n high) && is_power_of_two n
is_of Truth (Flag b) = true
is_of Style (Word w) = same_name w (codes "next") || same_name w (codes "static")
is_of _ _ = false

abbrev pub low_of : Values → ℕ
low_of (Whole low high) = low
low_of (Power low high) = low
low_of Truth = 0
low_of Style = 0

abbrev pub high_of : Values → ℕ
high_of (Whole low high) = high
high_of (Power low high) = high
high_of Truth = 0
high_of Style = 0

-- the values that the parameter of this key may have, where there is one
abbrev pub values_of : List Parameter → List ℕ → Option Values
values_of [] key = None
values_of (p ∷ ps) key = cond (same_name key p.key) (Some p.values) (values_of ps key)

-- the fault of a parameter, by the values that it may have
abbrev pub fault_by : Option Values → Param → Option ParamFault
fault_by None p = Some (Unknown p.key)
fault_by (Some v) p = cond (is_of v p.value) None (Some (Range p.key p.value (pos (low_of v)) (pos (high_of v))))

abbrev pub first_of : Option ParamFault → Option ParamFault → Option ParamFault
first_of None later = later
first_of (Some fault) later = Some fault

-- the first fault of parameters, of which these are known
abbrev pub fault_in : List Parameter → List Param → Option ParamFault
fault_in known [] = None
fault_in known (p ∷ ps) = first_of (fault_by (values_of known p.key) p) (fault_in known ps)

abbrev pub fault_of : Kind → List Param → Option ParamFault
fault_of kind ps = fault_in (row_of kind).params ps

-- ---- what a kind says of itself

abbrev pub default_of : List Parameter → List ℕ → ParamValue
default_of [] key = Num (pos 0)
default_of (p ∷ ps) key = cond (same_name key p.key) p.default (default_of ps key)

-- the value that is given for a key, or else this one
abbrev pub given_or : ParamValue → List Param → List ℕ → ParamValue
given_or default [] key = default
given_or default (p ∷ ps) key = cond (same_name p.key key) p.value (given_or default ps key)

-- the value of a kind's parameter
abbrev pub value_of : Kind → List Param → List ℕ → ParamValue
value_of kind ps key = given_or (default_of (row_of kind).params key) ps key

abbrev pub number_of : ParamValue → ℕ
number_of (Num (pos n)) = n
number_of _ = 0

abbrev pub flag_of : ParamValue → Bool
flag_of (Flag b) = b
flag_of _ = false

-- the claim of a row of the table
abbrev pub claim_of : ℕ → Claim
claim_of row = record { mask = (get_or table row lui).mask; value = (get_or table row lui).value; row = row }

abbrev pub latency_of : Kind → List Param → ℕ × ℕ
latency_of kind ps = (row_of kind).latency (λ key. number_of (value_of kind ps key))

abbrev pub spec_of : Kind → List Param → PlugSpec
spec_of kind ps = record {
  name = (row_of kind).name;
  offers = (row_of kind).offers;
  needs = (row_of kind).needs;
  uses = (row_of kind).uses;
  rows = map claim_of (row_of kind).rows;
  keys = [];
  latency = latency_of kind ps;
  cost = record { fixed = (row_of kind).fixed; per_row = (row_of kind).per_row };
  place = (row_of kind).place;
}

-- the parameters of the entry that a plug-in took last; none where it took none
abbrev pub params_of : Option PlugEntry → List Param
params_of None = []
params_of (Some entry) = entry.params

-- what a plug-in of a kind keeps: the kind, and the entry that it took last
pub record KindValue : Type 0 where
  pub kind : Kind
  pub taken : Option PlugEntry

-- what a plug-in keeps that takes no parameter
pub record PlainValue : Type 0 where
  pub spec : PlugSpec
  pub taken : Option PlugEntry
