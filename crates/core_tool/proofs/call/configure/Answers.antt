use Rattle.std.proofs.Common.{subst, Ok, Err}
use Rattle.core_config.specs.Config.{IsAnswer, config_of}
use Rattle.core_tool.proofs.Calls.{config_given, config_refused}
use Rattle.core_tool.proofs.call.configure.Goals as goal

pub returns-in-Ok-read_config-clause-given : goal.returns-in-Ok-read_config-clause-given
returns-in-Ok-read_config-clause-given g c =
    let n = c.in-Ok-read_config.config in
    let answer : IsAnswer (Ok n) (config_of c.in-Ok.bytes.items) =
    subst (λ l. IsAnswer (Ok n) (config_of l)) c.deref.ensures.value c.in-Ok-read_config.ensures.answer in
    config_given c.args.name.now (g.H.Host.files c.args.host.now) c.in-Ok.bytes.items n c.in-Ok.ensures.bytes answer

pub returns-clause-ends : goal.returns-clause-ends
returns-clause-ends g c =
    let answer : IsAnswer (Err c.in-Err.refusal) (config_of c.in-Ok.bytes.items) =
    subst (λ l. IsAnswer (Err c.in-Err.refusal) (config_of l)) c.deref.ensures.value c.in-Err.ensures.answer in
    config_refused c.args.name.now (g.H.Host.files c.args.host.now) c.in-Ok.bytes.items c.in-Err.refusal c.in-Ok.ensures.bytes c.in_default.not-NoMemory answer
