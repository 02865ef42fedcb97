-- The parts of this kind meet their laws.
use Rattle.std.proofs.Common.{ℕ, suc, eqb, List, get_or, sym, ap, subst}
use Rattle.hw_pool.specs.Meaning.{Env}
use Rattle.isa_table.specs.declared.claim.Claim.{Claim}
use Rattle.plug_law.specs.Table.{Table}
use Rattle.plug_law.specs.Decode.{DecodeLaw}
use Rattle.plug_part.specs.Part.{Part}
use Rattle.plug_part.specs.Runs.{IsPartRun}
use Rattle.plug_part.specs.Signals.{decode_signals}
use Rattle.plug_part.proofs.Things.{wire_fits}
use Rattle.plug_part.proofs.OneService.{decoder_alone}
use Rattle.plug_decoder.specs.Law.{IsDecoder}
use Rattle.plug_decoder.specs.Builds.{BuildsDecoder, DecoderPartsMeetLaws}
use Rattle.plug_decoder.proofs.Keeps.{keeps_law}

module _ (rows : List Claim) (owners : List ℕ) (p : Part) (b : BuildsDecoder rows owners p) (run : ℕ → Env) (is : IsPartRun p run) where
  is_decoder : IsDecoder rows owners (decode_signals b.ports run)
  is_decoder = record {
    word_fits = λ s. wire_fits p run is (get_or b.ports.inputs 0 0) 32 b.word (suc s);
    legal = λ s. ap (λ n. eqb n 1) (b.legal (run (suc s)));
    row = λ s. b.row (run (suc s));
    unit = λ s. b.unit (run (suc s));
    uses_a = λ s. ap (λ n. eqb n 1) (b.uses_a (run (suc s)));
    uses_b = λ s. ap (λ n. eqb n 1) (b.uses_b (run (suc s)));
    writes = λ s. ap (λ n. eqb n 1) (b.writes (run (suc s)));
  }

pub parts_meet_laws : DecoderPartsMeetLaws
parts_meet_laws rows owners g p b are table_is claims_are owners_are =
    decoder_alone g p b.ports b.only
    (λ run is. subst (λ (t : Table). DecodeLaw t g.owner (decode_signals b.ports run)) (sym table_is)
    (keeps_law rows owners g.set g.owner (decode_signals b.ports run) are claims_are owners_are (is_decoder rows owners p b run is)))
