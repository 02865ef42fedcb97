-- The laws of a part. What is said of one run in plug_law is said here of every run of a part, for each service that it offers.
-- What a law fixes for all runs is chosen before them: what Predict answers, the stages that Hazard uses, and the registers of
-- given start contents.
use Rattle.std.specs.Prelude.{◌≡◌, ℕ, ◌^◌, ◌<◌, Bool, true, List, length, All, is_some, Some}
use Rattle.hw_pool.specs.Trees.{Tree}
use Rattle.hw_pool.specs.Meaning.{Env}
use Rattle.bus_law.specs.Memory.{Memory}
use Rattle.isa_csr.specs.Csrs.{Csrs}
use Rattle.isa_model.specs.Machine.{misa_of}
use Rattle.service_reg.specs.declared.service.Service.TheVariants.{Fetch, Predict, Decoder, RegFile, Hazard, Exec, DataBus, System}
use Rattle.plug_law.specs.Fetch.{FetchLaw}
use Rattle.plug_law.specs.Predict.{IsPredict, PredictLaw}
use Rattle.plug_law.specs.Exec.{ExecSignals, ToldExecLaw}
use Rattle.plug_law.specs.System.{SystemAssumed, SystemLaw, csrs_at}
use Rattle.plug_law.specs.Decode.{DecodeLaw}
use Rattle.plug_law.specs.RegFile.{RegLaw}
use Rattle.plug_law.specs.Hazard.{HazardLaw}
use Rattle.plug_part.specs.Part.{PortTrees, Part, sees, tree_at}
use Rattle.plug_part.specs.Runs.{IsPartRun, SameContentsOf, HoldsZeroOf, FromContents}
use Rattle.plug_part.specs.Terms.{PartTerms}
use Rattle.plug_part.specs.Signals.{exec_signals, fetch_signals, predict_signals, decode_signals, reg_signals, hazard_signals, system_signals, part_ib, part_db, moments_of}

-- ---- one service

-- the registers of given start contents: 32 numbers of 32 bits, 0 where the contents are
pub record MeetsReg (p : Part) (o : PortTrees) : Type 0 where
  pub start : (regs : ℕ → ℕ) (cells : ℕ → List ℕ) → List ℕ
  pub own : (e e' : Env) → SameContentsOf p e e' → start e.regs e.cells ≡ start e'.regs e'.cells
  pub size : (regs : ℕ → ℕ) (cells : ℕ → List ℕ) → length (start regs cells) ≡ 32
  pub fits : (run : ℕ → Env) → IsPartRun p run → All (λ v. v < 2 ^ 32) (start (run 0).regs (run 0).cells)
  pub zeros : (e : Env) → HoldsZeroOf p e → All (λ v. v ≡ 0) (start e.regs e.cells)
  pub law : (run : ℕ → Env) → IsPartRun p run → RegLaw (reg_signals o run) (start (run 0).regs (run 0).cells)

-- f is RegFile as the part sees it
pub record MeetsHazard (p : Part) (o f : PortTrees) : Type 0 where
  pub bypassed : ℕ → Bool
  pub law : (run : ℕ → Env) → IsPartRun p run → HazardLaw bypassed (hazard_signals o run) (reg_signals f run)

pub record MeetsPredict (p : Part) (o : PortTrees) : Type 0 where
  pub predict : ℕ → ℕ → ℕ
  pub whole : IsPredict true predict
  pub law : (run : ℕ → Env) → IsPartRun p run → PredictLaw predict (predict_signals o run)

-- the CSRs that a part's results depend on: where it offers System those that it keeps, and any otherwise
abbrev pub IsCsrsOf : PartTerms → Part → ExecSignals → (ℕ → Env) → (mem : ℕ → Memory) → (csrs : ℕ → Csrs) → Type 0
IsCsrsOf g p e run mem csrs = (y : PortTrees) → p.offers System ≡ Some y → csrs ≡ csrs_at (misa_of g.set) g.terms.table e (system_signals y run) mem (moments_of run)

-- what the core tells a part of its event in cycle s + 1: a part that offers System is told, and no other
abbrev pub IsTold : Part → ExecSignals → (ℕ → Env) → (s : ℕ) → Type 0
IsTold p e run s = (y : PortTrees) → p.offers System ≡ Some y → SystemAssumed e (system_signals y run) s

-- ---- all services

-- every run of the part meets the law of each service that it offers
pub record MeetsLaws (g : PartTerms) (p : Part) : Type 0 where
  -- over any memory, and for each function that Predict may answer
  pub fetch : (o : PortTrees) → p.offers Fetch ≡ Some o → (predict : ℕ → ℕ → ℕ) → IsPredict (is_some (sees p Predict)) predict
      → (run : ℕ → Env) → IsPartRun p run → (mem : ℕ → Memory)
      → FetchLaw g.terms.latency (is_some (sees p Predict)) predict g.reset_pc (fetch_signals o (sees p Predict) run) (part_ib p run) mem
  -- items and commands depend on the part's state alone
  pub fetch_state : (o : PortTrees) → p.offers Fetch ≡ Some o → (i : ℕ) → FromContents p (tree_at o.outputs i)
  pub fetch_outs : (o : PortTrees) → p.offers Fetch ≡ Some o → (q : ℕ) (t : Tree) → p.outs q ≡ Some t → FromContents p t
  pub predict : (o : PortTrees) → p.offers Predict ≡ Some o → MeetsPredict p o
  pub decode : (o : PortTrees) → p.offers Decoder ≡ Some o → (run : ℕ → Env) → IsPartRun p run → DecodeLaw g.terms.table g.owner (decode_signals o run)
  pub regs : (o : PortTrees) → p.offers RegFile ≡ Some o → MeetsReg p o
  -- a part that does not see RegFile meets no law of Hazard
  pub hazard : (o : PortTrees) → p.offers Hazard ≡ Some o → (f : PortTrees) × (sees p RegFile ≡ Some f) × MeetsHazard p o f
  pub exec : (o : PortTrees) → p.offers Exec ≡ Some o → (run : ℕ → Env) → IsPartRun p run → (mem : ℕ → Memory) (csrs : ℕ → Csrs)
      → IsCsrsOf g p (exec_signals o run) run mem csrs
      → ToldExecLaw (IsTold p (exec_signals o run) run) g.terms (exec_signals o run) (part_db p run) mem csrs (moments_of run)
  pub data_outs : (o : PortTrees) → p.offers DataBus ≡ Some o → (q : ℕ) (t : Tree) → p.outs q ≡ Some t → FromContents p t
  pub system : (o y : PortTrees) → p.offers Exec ≡ Some o → p.offers System ≡ Some y → (run : ℕ → Env) → IsPartRun p run → (mem : ℕ → Memory)
      → SystemLaw g.terms (misa_of g.set) (exec_signals o run) (system_signals y run) (part_db p run) mem (moments_of run)
