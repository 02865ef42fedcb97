-- A part that offers one service alone meets the laws of the others, since it does not offer them.
use Rattle.std.proofs.Common.{◌≡◌, ◌∙◌, false, eqb, Option, Some, None, is_some, refl, sym, ap, subst}
use Rattle.service_reg.specs.declared.service.Service.{Service}
use Rattle.service_reg.specs.declared.service.Service.TheVariants.{Fetch, Predict, Decoder, RegFile, Hazard, Exec, DataBus, System}
use Rattle.service_reg.specs.Services.{number}
use Rattle.plug_law.specs.Fetch.{FetchLaw}
use Rattle.plug_law.specs.Exec.{ExecLaw}
use Rattle.plug_law.specs.Decode.{DecodeLaw}
use Rattle.plug_part.specs.Part.{PortTrees, Part, sees, own_or, tree_at}
use Rattle.plug_part.specs.Runs.{FromContents}
use Rattle.plug_part.specs.Signals.{exec_signals, fetch_signals, decode_signals, part_ib, part_db, moments_of}
use Rattle.plug_part.specs.Meets.{MeetsReg, MeetsHazard}
use Rattle.plug_part.specs.Alone.{OffersOnly, FetchAlone, DecoderAlone, RegFileAlone, HazardAlone, ExecAlone}

same_ports : (a b : PortTrees) → ◌≡◌ {A = Option PortTrees} (Some a) (Some b) → a ≡ b
same_ports a b e = cc

module _ (p : Part) (s : Service) (o : PortTrees) (only : OffersOnly p s o) where
  not_offered : (other : Service) → eqb (number other) (number s) ≡ false → (q : PortTrees) → p.offers other ≡ Some q → ⊥
  not_offered other differs q e = go (sym (only.none other differs) ∙ e)
    where
      go : ◌≡◌ {A = Option PortTrees} None (Some q) → ⊥
      go h = cc

  ports_are : (q : PortTrees) → p.offers s ≡ Some q → o ≡ q
  ports_are q e = same_ports o q (sym only.is ∙ e)

pub fetch_alone : FetchAlone
fetch_alone g p o only law state outs = record {
  fetch = λ q e predict whole run is mem.
      subst (λ r. FetchLaw g.terms.latency (is_some (sees p Predict)) predict g.reset_pc (fetch_signals r (sees p Predict) run) (part_ib p run) mem)
      (ports_are p Fetch o only q e) (law predict whole run is mem);
  fetch_state = λ q e i. subst (λ (r : PortTrees). FromContents p (tree_at r.outputs i)) (ports_are p Fetch o only q e) (state i);
  fetch_outs = λ q e. outs;
  predict = λ q e. absurd (not_offered p Fetch o only Predict refl q e);
  decode = λ q e. absurd (not_offered p Fetch o only Decoder refl q e);
  regs = λ q e. absurd (not_offered p Fetch o only RegFile refl q e);
  hazard = λ q e. absurd (not_offered p Fetch o only Hazard refl q e);
  exec = λ q e. absurd (not_offered p Fetch o only Exec refl q e);
  data_outs = λ q e. absurd (not_offered p Fetch o only DataBus refl q e);
  system = λ q y e. absurd (not_offered p Fetch o only Exec refl q e);
}

pub decoder_alone : DecoderAlone
decoder_alone g p o only law = record {
  fetch = λ q e. absurd (not_offered p Decoder o only Fetch refl q e);
  fetch_state = λ q e. absurd (not_offered p Decoder o only Fetch refl q e);
  fetch_outs = λ q e. absurd (not_offered p Decoder o only Fetch refl q e);
  predict = λ q e. absurd (not_offered p Decoder o only Predict refl q e);
  decode = λ q e run is. subst (λ r. DecodeLaw g.terms.table g.owner (decode_signals r run)) (ports_are p Decoder o only q e) (law run is);
  regs = λ q e. absurd (not_offered p Decoder o only RegFile refl q e);
  hazard = λ q e. absurd (not_offered p Decoder o only Hazard refl q e);
  exec = λ q e. absurd (not_offered p Decoder o only Exec refl q e);
  data_outs = λ q e. absurd (not_offered p Decoder o only DataBus refl q e);
  system = λ q y e. absurd (not_offered p Decoder o only Exec refl q e);
}

pub regfile_alone : RegFileAlone
regfile_alone g p o only law = record {
  fetch = λ q e. absurd (not_offered p RegFile o only Fetch refl q e);
  fetch_state = λ q e. absurd (not_offered p RegFile o only Fetch refl q e);
  fetch_outs = λ q e. absurd (not_offered p RegFile o only Fetch refl q e);
  predict = λ q e. absurd (not_offered p RegFile o only Predict refl q e);
  decode = λ q e. absurd (not_offered p RegFile o only Decoder refl q e);
  regs = λ q e. subst (MeetsReg p) (ports_are p RegFile o only q e) law;
  hazard = λ q e. absurd (not_offered p RegFile o only Hazard refl q e);
  exec = λ q e. absurd (not_offered p RegFile o only Exec refl q e);
  data_outs = λ q e. absurd (not_offered p RegFile o only DataBus refl q e);
  system = λ q y e. absurd (not_offered p RegFile o only Exec refl q e);
}

pub hazard_alone : HazardAlone
hazard_alone g p o f only took law = record {
  fetch = λ q e. absurd (not_offered p Hazard o only Fetch refl q e);
  fetch_state = λ q e. absurd (not_offered p Hazard o only Fetch refl q e);
  fetch_outs = λ q e. absurd (not_offered p Hazard o only Fetch refl q e);
  predict = λ q e. absurd (not_offered p Hazard o only Predict refl q e);
  decode = λ q e. absurd (not_offered p Hazard o only Decoder refl q e);
  regs = λ q e. absurd (not_offered p Hazard o only RegFile refl q e);
  hazard = λ q e. (f, ap (λ own. own_or own (p.took RegFile)) (only.none RegFile refl) ∙ took, subst (λ r. MeetsHazard p r f) (ports_are p Hazard o only q e) law);
  exec = λ q e. absurd (not_offered p Hazard o only Exec refl q e);
  data_outs = λ q e. absurd (not_offered p Hazard o only DataBus refl q e);
  system = λ q y e. absurd (not_offered p Hazard o only Exec refl q e);
}

pub exec_alone : ExecAlone
exec_alone g p o only law = record {
  fetch = λ q e. absurd (not_offered p Exec o only Fetch refl q e);
  fetch_state = λ q e. absurd (not_offered p Exec o only Fetch refl q e);
  fetch_outs = λ q e. absurd (not_offered p Exec o only Fetch refl q e);
  predict = λ q e. absurd (not_offered p Exec o only Predict refl q e);
  decode = λ q e. absurd (not_offered p Exec o only Decoder refl q e);
  regs = λ q e. absurd (not_offered p Exec o only RegFile refl q e);
  hazard = λ q e. absurd (not_offered p Exec o only Hazard refl q e);
  exec = λ q e run is mem csrs csrs_are s assumed alone told.
      subst (λ r. ExecLaw g.terms (exec_signals r run) (part_db p run) mem csrs (moments_of run)) (ports_are p Exec o only q e) (law run is mem csrs) s assumed alone;
  data_outs = λ q e. absurd (not_offered p Exec o only DataBus refl q e);
  system = λ q y e h. absurd (not_offered p Exec o only System refl y h);
}
