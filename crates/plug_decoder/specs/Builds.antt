-- The parts of this kind: what is said of their trees, whatever stands at inputs, forward wires, registers and arrays.
use Rattle.std.specs.Prelude.{◌≡◌, ℕ, ◌<◌, eqb, List, length, get_or}
use Rattle.std.specs.List.{list_any}
use Rattle.hw_pool.specs.Meaning.{Env, value}
use Rattle.isa_table.specs.declared.claim.Claim.{Claim}
use Rattle.service_reg.specs.declared.service.Service.TheVariants.{Decoder}
use Rattle.plug_law.specs.Table.{table_of}
use Rattle.plug_part.specs.Part.{PortTrees, Part, tree_at}
use Rattle.plug_part.specs.Things.{HasWire, input_in}
use Rattle.plug_part.specs.Terms.{PartTerms}
use Rattle.plug_part.specs.Alone.{OffersOnly}
use Rattle.plug_part.specs.Meets.{MeetsLaws}
use Rattle.plug_kit.specs.Bare.{IsBare}
use Rattle.plug_decoder.specs.Machine.{claim_at, legal_of, row_of, unit_of, flag_of, writes_of, uses_a as reads_a, uses_b as reads_b, has_value}
use Rattle.plug_decoder.specs.Law.{AreClaims}

-- the input is the word; outputs are legal, row, unit, uses_a, uses_b and writes
pub record BuildsDecoder (rows : List Claim) (owners : List ℕ) (p : Part) : Type 0 where
  pub ports : PortTrees
  pub only : OffersOnly p Decoder ports
  pub word : HasWire p (get_or ports.inputs 0 0) 32
  pub legal : (env : Env) → value env (tree_at ports.outputs 0) ≡ legal_of rows (input_in ports 0 env)
  pub row : (env : Env) → value env (tree_at ports.outputs 1) ≡ row_of rows (input_in ports 0 env)
  pub unit : (env : Env) → value env (tree_at ports.outputs 2) ≡ unit_of rows owners (input_in ports 0 env)
  pub uses_a : (env : Env) → value env (tree_at ports.outputs 3) ≡ flag_of reads_a rows (input_in ports 0 env)
  pub uses_b : (env : Env) → value env (tree_at ports.outputs 4) ≡ flag_of reads_b rows (input_in ports 0 env)
  pub writes : (env : Env) → value env (tree_at ports.outputs 5) ≡ writes_of (input_in ports 0 env) (flag_of has_value rows (input_in ports 0 env))

-- after the first call: such a part, with no forward wire but its input, no register and no array
pub record BeginsDecoder (rows : List Claim) (owners : List ℕ) (p : Part) : Type 0 where
  pub builds : BuildsDecoder rows owners p
  pub bare : IsBare p builds.ports.inputs

-- they meet the laws for the claims of the plan and their owners
abbrev pub DecoderPartsMeetLaws : Type 0
DecoderPartsMeetLaws =
    (rows : List Claim) (owners : List ℕ) (g : PartTerms) (p : Part) → BuildsDecoder rows owners p → AreClaims rows
    → g.terms.table ≡ table_of g.set
    → ((number : ℕ) → g.set.claims number ≡ list_any (λ c. eqb c.row number) rows)
    → ((k : ℕ) → k < length rows → g.owner (claim_at rows k).row ≡ get_or owners k 0)
    → MeetsLaws g p
