-- What a unit says of itself that is done at once and never traps.
use Rattle.std.specs.Prelude.{◌≡◌, ◌^◌, ◌<◌, ℕ, Bool, true, not, ◌&&◌, leb, ltb, eqb, List, [], ◌∷◌, map, length, Some}
use Rattle.std.specs.List.{list_all}
use Rattle.isa_table.specs.Rows.Action.{Computes}
use Rattle.isa_model.specs.Machine.{Set}
use Rattle.service_reg.specs.declared.service.Service.TheVariants.{Exec}
use Rattle.plug_law.specs.Table.{row_numbered, table_of, is_bus_group}
use Rattle.plug_part.specs.Part.{Part}
use Rattle.plug_part.specs.Meets.{MeetsLaws}
use Rattle.plug_api.specs.declared.spec.Place.TheVariants.{Execute}
use Rattle.plug_api.specs.declared.spec.PlugSpec.{PlugSpec}
use Rattle.plug_api.specs.declared.spec.Plan.{Plan}
use Rattle.plug_api.specs.Calls.{terms_of}
use Rattle.plug_kinds.specs.Kinds.{claim_of}
use Rattle.unit_parts.specs.Computing.{BuildsComputing}

-- it offers Exec alone, takes these rows, and makes at most so many things
abbrev pub unit_spec : (name rows : List ℕ) (fixed : ℕ) → PlugSpec
unit_spec name rows fixed = record { name = name; offers = Exec ∷ []; needs = []; uses = []; rows = map claim_of rows; keys = []; latency = (1, 0); cost = record { fixed = fixed; per_row = 0 }; place = Execute }

-- rows of the table that need neither the data bus nor the system registers, without FENCE.I (40)
abbrev pub is_unit_row : ℕ → Bool
is_unit_row row = ltb row 49 && not (eqb row 40) && not (is_bus_group (row_numbered row).group)

abbrev pub is_rising : List ℕ → Bool
is_rising [] = true
is_rising (x ∷ xs) = list_all (λ y. ltb x y) xs && is_rising xs

-- such rows in the order of the table
abbrev pub are_unit_rows : List ℕ → Bool
are_unit_rows rows = leb (length rows) 64 && is_rising rows && list_all is_unit_row rows

-- each of these rows computes this value from its operands
abbrev pub RowsCompute : List ℕ → (value_of : (word pc a b : ℕ) → ℕ) → Type 0
RowsCompute [] value_of = Unit {0}
RowsCompute (row ∷ rows) value_of = ((set : Set) (word pc a b : ℕ) → (table_of set).row_of word ≡ Some row → a < 2 ^ 32 → b < 2 ^ 32
    → (row_numbered row).action pc word a b ≡ Computes (value_of word pc a b)) × RowsCompute rows value_of

-- parts of a unit meet the laws where each of its rows computes its value
abbrev pub UnitsMeetLaws : Type 0
UnitsMeetLaws =
    (value_of : (word pc a b : ℕ) → ℕ) (name rows : List ℕ) (fixed : ℕ) (plan : Plan) (p : Part) → are_unit_rows rows ≡ true → RowsCompute rows value_of
    → BuildsComputing value_of p → MeetsLaws (terms_of (unit_spec name rows fixed) plan) p
