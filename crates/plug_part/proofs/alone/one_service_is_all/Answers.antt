use Rattle.plug_part.proofs.OneService.{fetch_alone, decoder_alone, regfile_alone, hazard_alone, exec_alone}
use Rattle.plug_part.proofs.alone.one_service_is_all.Goals as goal

pub returns : goal.returns
returns c = record { fetch = fetch_alone; decoder = decoder_alone; regfile = regfile_alone; hazard = hazard_alone; exec = exec_alone }
