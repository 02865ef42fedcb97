use Rattle.plug_kit.proofs.Carries.{carry_on, carry_grown, carry_more, carry_wire, carry_lit, carry_reg, carry_one, carry_two, carry_read, carry_output}
use Rattle.plug_kit.proofs.law.nets_carry.Goals as goal

pub returns-clause-on : goal.returns-clause-on
returns-clause-on c = carry_on

pub returns-clause-wire : goal.returns-clause-wire
returns-clause-wire c = carry_wire

pub returns-clause-lit : goal.returns-clause-lit
returns-clause-lit c = carry_lit

pub returns-clause-reg : goal.returns-clause-reg
returns-clause-reg c = carry_reg

pub returns-clause-one : goal.returns-clause-one
returns-clause-one c = carry_one

pub returns-clause-two : goal.returns-clause-two
returns-clause-two c = carry_two

pub returns-clause-read : goal.returns-clause-read
returns-clause-read c = carry_read

pub returns-clause-output : goal.returns-clause-output
returns-clause-output c = carry_output

pub returns-clause-grown : goal.returns-clause-grown
returns-clause-grown c = carry_grown

pub returns-clause-more : goal.returns-clause-more
returns-clause-more c = carry_more
