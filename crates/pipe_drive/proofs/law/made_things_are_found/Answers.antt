use Rattle.pipe_drive.proofs.Found.{chosen_found, place_found, reg_found, wire_found}
use Rattle.pipe_drive.proofs.law.made_things_are_found.Goals as goal

pub returns : goal.returns
returns c = record {
  wires = λ old new reset_pc units places made. wire_found made;
  regs = λ old new reset_pc units places made. reg_found made;
  chosen = λ old new reset_pc units places made. chosen_found made;
  places = λ old new reset_pc units places made. place_found made;
}
