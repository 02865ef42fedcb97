-- Parts that offer one service alone: its law is all that they have to meet.
use Rattle.std.specs.Prelude.{◌≡◌, ℕ, false, eqb, is_some, None, Some}
use Rattle.hw_pool.specs.Trees.{Tree}
use Rattle.hw_pool.specs.Meaning.{Env}
use Rattle.bus_law.specs.Memory.{Memory}
use Rattle.isa_csr.specs.Csrs.{Csrs}
use Rattle.service_reg.specs.declared.service.Service.{Service}
use Rattle.service_reg.specs.declared.service.Service.TheVariants.{Fetch, Predict, Decoder, RegFile, Hazard, Exec}
use Rattle.service_reg.specs.Services.{number}
use Rattle.plug_law.specs.Fetch.{FetchLaw}
use Rattle.plug_law.specs.Predict.{IsPredict}
use Rattle.plug_law.specs.Exec.{ExecLaw}
use Rattle.plug_law.specs.Decode.{DecodeLaw}
use Rattle.plug_part.specs.Part.{PortTrees, Part, sees, tree_at}
use Rattle.plug_part.specs.Runs.{IsPartRun, FromContents}
use Rattle.plug_part.specs.Terms.{PartTerms}
use Rattle.plug_part.specs.Signals.{exec_signals, fetch_signals, decode_signals, part_ib, part_db, moments_of}
use Rattle.plug_part.specs.Meets.{MeetsReg, MeetsHazard, MeetsLaws}

-- the part offers this service, with these ports, and no other
pub record OffersOnly (p : Part) (s : Service) (o : PortTrees) : Type 0 where
  pub is : p.offers s ≡ Some o
  pub none : (other : Service) → eqb (number other) (number s) ≡ false → p.offers other ≡ None

abbrev pub FetchAlone : Type 0
FetchAlone =
    (g : PartTerms) (p : Part) (o : PortTrees) → OffersOnly p Fetch o
    → ((predict : ℕ → ℕ → ℕ) → IsPredict (is_some (sees p Predict)) predict → (run : ℕ → Env) → IsPartRun p run → (mem : ℕ → Memory)
    → FetchLaw g.terms.latency (is_some (sees p Predict)) predict g.reset_pc (fetch_signals o (sees p Predict) run) (part_ib p run) mem)
    → ((i : ℕ) → FromContents p (tree_at o.outputs i)) → ((q : ℕ) (t : Tree) → p.outs q ≡ Some t → FromContents p t)
    → MeetsLaws g p

abbrev pub DecoderAlone : Type 0
DecoderAlone =
    (g : PartTerms) (p : Part) (o : PortTrees) → OffersOnly p Decoder o
    → ((run : ℕ → Env) → IsPartRun p run → DecodeLaw g.terms.table g.owner (decode_signals o run)) → MeetsLaws g p

abbrev pub RegFileAlone : Type 0
RegFileAlone = (g : PartTerms) (p : Part) (o : PortTrees) → OffersOnly p RegFile o → MeetsReg p o → MeetsLaws g p

abbrev pub HazardAlone : Type 0
HazardAlone = (g : PartTerms) (p : Part) (o f : PortTrees) → OffersOnly p Hazard o → p.took RegFile ≡ Some f → MeetsHazard p o f → MeetsLaws g p

-- such a part is told of no events, and depends on no CSRs
abbrev pub ExecAlone : Type 0
ExecAlone =
    (g : PartTerms) (p : Part) (o : PortTrees) → OffersOnly p Exec o
    → ((run : ℕ → Env) → IsPartRun p run → (mem : ℕ → Memory) (csrs : ℕ → Csrs) → ExecLaw g.terms (exec_signals o run) (part_db p run) mem csrs (moments_of run))
    → MeetsLaws g p
