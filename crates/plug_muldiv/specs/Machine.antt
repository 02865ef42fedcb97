-- The unit as a machine: the count and both halves, and how many steps it makes in a cycle.
use Rattle.std.specs.Prelude.{◌≡◌, ℕ, ◌+◌, ◌*◌, List, [], ◌∷◌, get_or, codes}
use Rattle.stage_map.specs.declared.config.Param.{Param}
use Rattle.plug_kinds.specs.declared.kind.Kind.TheVariants as kind
use Rattle.plug_kinds.specs.Kinds.{number_of, value_of}
use Rattle.unit_steps.specs.Cycles.{Machine}
use Rattle.unit_steps.specs.Parts.{RowsEnd}
use Rattle.muldiv_law.specs.Machine.{rounds_of, ends_of, count_next, hi_next, lo_next}

-- the steps in a cycle: the parameter of the key `unroll`
abbrev pub unroll_of : List Param → ℕ
unroll_of ps = number_of (value_of kind.Muldiv ps (codes "unroll"))

-- the widths of the registers: the count, the upper and the lower half
abbrev pub muldiv_widths : List ℕ
muldiv_widths = 6 ∷ 32 ∷ 32 ∷ []

-- it shows the lower half
abbrev pub machine_of : (unroll : ℕ) → Machine
machine_of unroll = record {
  ends = λ word a b working held. ends_of (rounds_of unroll) working (get_or held 0 0);
  value = λ word a b working held. get_or held 2 0;
  next = λ word a b working held.
      count_next working (get_or held 0 0)
      ∷ hi_next unroll (rounds_of unroll) word b working (get_or held 0 0) (get_or held 1 0) (get_or held 2 0)
      ∷ lo_next unroll (rounds_of unroll) word a b working (get_or held 0 0) (get_or held 1 0) (get_or held 2 0)
      ∷ [];
}

-- by number: MUL, MULH, MULHSU, MULHU, DIV, DIVU, REM, REMU
abbrev pub own_rows : List ℕ
own_rows = 41 ∷ 42 ∷ 43 ∷ 44 ∷ 45 ∷ 46 ∷ 47 ∷ 48 ∷ []

-- each instruction of these rows ends within 32 / unroll + 4 cycles with its row's value, whatever the registers held before
abbrev pub MuldivIsRight : Type 0
MuldivIsRight = (unroll : ℕ) → unroll * rounds_of unroll ≡ 32 → RowsEnd own_rows (machine_of unroll) (rounds_of unroll + 4)
