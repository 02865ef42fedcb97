-- Each name is the port's whose variant is answered.
use Rattle.std.proofs.Common.{◌≡◌, ℕ, Bool, true, false, sym, ap, ◌∙◌, refl}
use Rattle.core_ports.specs.Ports.{CorePort, name_of}
use Rattle.core_ports.specs.Ports as port
use Rattle.bus_law.specs.declared.signals.BusIn.{BusIn}
use Rattle.core_sim.specs.Joint.{input_value, inputs_of}
use Rattle.core_sim.proofs.Lists.{zero_given}
use Rattle.core_sim.proofs.ports.InputPort.named.Goals as goal

pub returns-then-is : goal.returns-then-is
unfolding name_of
returns-then-is c = λ r b l. sym (ap (inputs_of r b l) (c.is.ensures.0 c.if-is.true))

pub returns-then-is-2 : goal.returns-then-is-2
unfolding name_of
returns-then-is-2 c = λ r b l. sym (ap (inputs_of r b l) (c.is-else-is.ensures.0 c.if-is-2.true))

pub returns-then-is-3 : goal.returns-then-is-3
unfolding name_of
returns-then-is-3 c = λ r b l. sym (ap (inputs_of r b l) (c.is-else-is-2.ensures.0 c.if-is-3.true))

pub returns-then-is-4 : goal.returns-then-is-4
unfolding name_of
returns-then-is-4 c = λ r b l. sym (ap (inputs_of r b l) (c.is-else-is-3.ensures.0 c.if-is-4.true))

pub returns-then-is-5 : goal.returns-then-is-5
unfolding name_of
returns-then-is-5 c = λ r b l. sym (ap (inputs_of r b l) (c.is-else-is-4.ensures.0 c.if-is-5.true))

pub returns-then-is-6 : goal.returns-then-is-6
unfolding name_of
returns-then-is-6 c = λ r b l. sym (ap (inputs_of r b l) (c.is-else-is-5.ensures.0 c.if-is-6.true))

pub returns-then-is-7 : goal.returns-then-is-7
unfolding name_of
returns-then-is-7 c = λ r b l. sym (ap (inputs_of r b l) (c.is-else-is-6.ensures.0 c.if-is-7.true))

pub returns-then-is-8 : goal.returns-then-is-8
unfolding name_of
returns-then-is-8 c = λ r b l. sym (ap (inputs_of r b l) (c.is-else-is-7.ensures.0 c.if-is-8.true))

pub returns-then-is-9 : goal.returns-then-is-9
unfolding name_of
returns-then-is-9 c = λ r b l. sym (ap (inputs_of r b l) (c.is-else-is-8.ensures.0 c.if-is-9.true))

pub returns-then-is-10 : goal.returns-then-is-10
unfolding name_of
returns-then-is-10 c = λ r b l. sym (ap (inputs_of r b l) (c.is-else-is-9.ensures.0 c.if-is-10.true))

pub returns-then-is-11 : goal.returns-then-is-11
unfolding name_of
returns-then-is-11 c = λ r b l. sym (ap (inputs_of r b l) (c.is-else-is-10.ensures.0 c.if-is-11.true))

pub returns-then-is-12 : goal.returns-then-is-12
unfolding name_of
returns-then-is-12 c = λ r b l. sym (ap (inputs_of r b l) (c.is-else-is-11.ensures.0 c.if-is-12.true))

-- the test of a name failed
unequal : {A : Type 0} (b : Bool) → b ≡ false → (A → b ≡ true) → A → ⊥
unequal b e h a = let f : true ≡ false = sym (h a) ∙ e in cc

pub returns-else-is-12 : goal.returns-else-is-12
unfolding name_of
returns-else-is-12 c = λ r b l. sym (zero_given r b l c.args.name.now (given_zero r b l))
  where
    given_zero : (r : ℕ) (b : BusIn) (l : ℕ) → (p : CorePort) → c.args.name.now ≡ name_of p → input_value r b l p ≡ 0
    given_zero r b l port.clk e = refl
    given_zero r b l port.reset e = absurd (unequal c.is.result c.if-is.false c.is.ensures.1 e)
    given_zero r b l port.ib_cmd_valid e = refl
    given_zero r b l port.ib_cmd_ready e = absurd (unequal c.is-else-is.result c.if-is-2.false c.is-else-is.ensures.1 e)
    given_zero r b l port.ib_cmd_addr e = refl
    given_zero r b l port.ib_rsp_valid e = absurd (unequal c.is-else-is-2.result c.if-is-3.false c.is-else-is-2.ensures.1 e)
    given_zero r b l port.ib_rsp_error e = absurd (unequal c.is-else-is-3.result c.if-is-4.false c.is-else-is-3.ensures.1 e)
    given_zero r b l port.ib_rsp_data e = absurd (unequal c.is-else-is-4.result c.if-is-5.false c.is-else-is-4.ensures.1 e)
    given_zero r b l port.db_cmd_valid e = refl
    given_zero r b l port.db_cmd_ready e = absurd (unequal c.is-else-is-5.result c.if-is-6.false c.is-else-is-5.ensures.1 e)
    given_zero r b l port.db_cmd_write e = refl
    given_zero r b l port.db_cmd_addr e = refl
    given_zero r b l port.db_cmd_data e = refl
    given_zero r b l port.db_cmd_mask e = refl
    given_zero r b l port.db_rsp_valid e = absurd (unequal c.is-else-is-6.result c.if-is-7.false c.is-else-is-6.ensures.1 e)
    given_zero r b l port.db_rsp_error e = absurd (unequal c.is-else-is-7.result c.if-is-8.false c.is-else-is-7.ensures.1 e)
    given_zero r b l port.db_rsp_data e = absurd (unequal c.is-else-is-8.result c.if-is-9.false c.is-else-is-8.ensures.1 e)
    given_zero r b l port.irq_software e = absurd (unequal c.is-else-is-9.result c.if-is-10.false c.is-else-is-9.ensures.1 e)
    given_zero r b l port.irq_timer e = absurd (unequal c.is-else-is-10.result c.if-is-11.false c.is-else-is-10.ensures.1 e)
    given_zero r b l port.irq_external e = absurd (unequal c.is-else-is-11.result c.if-is-12.false c.is-else-is-11.ensures.1 e)
    given_zero r b l port.ev_valid e = refl
    given_zero r b l port.ev_kind e = refl
    given_zero r b l port.ev_pc e = refl
    given_zero r b l port.ev_word e = refl
    given_zero r b l port.ev_rd e = refl
    given_zero r b l port.ev_value e = refl
    given_zero r b l port.ev_cause e = refl
    given_zero r b l port.fe_valid e = refl
    given_zero r b l port.fe_take e = refl
    given_zero r b l port.fe_pc e = refl
