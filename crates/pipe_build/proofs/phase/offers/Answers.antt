use Rattle.std.proofs.Common.{◌∙◌, sym}
use Rattle.pipe_build.proofs.Begun.{offered_by}
use Rattle.pipe_build.proofs.phase.offers.Goals as goal

pub returns : goal.returns
returns c = record {
  offered = record {
    fetch = offered_by c.args.reg.now.fetch c.unwrap-fetch.result (sym c.fetch.ensures ∙ c.unwrap-fetch.ensures);
    decoder = offered_by c.args.reg.now.decoder c.unwrap-decoder.result (sym c.decoder.ensures ∙ c.unwrap-decoder.ensures);
    regfile = offered_by c.args.reg.now.regfile c.unwrap-regfile.result (sym c.regfile.ensures ∙ c.unwrap-regfile.ensures);
    hazard = offered_by c.args.reg.now.hazard c.unwrap-hazard.result (sym c.hazard.ensures ∙ c.unwrap-hazard.ensures);
    system = c.system.ensures;
  };
}
