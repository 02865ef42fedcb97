use Rattle.std.proofs.Common.{◌≡◌, Some, Err, sym, ap, ◌∙◌}
use Rattle.core_tool.specs.Files.{image_fault}
use Rattle.core_tool.proofs.Calls.{image_refused}
use Rattle.core_tool.proofs.run.load.Goals as goal

pub returns-in-Err-Refused-clause-refused : goal.returns-in-Err-Refused-clause-refused
returns-in-Err-Refused-clause-refused g c =
    let a = c.in-Err-Refused in
    let fault : image_fault c.args.shape c.in-Ok.bytes.items ≡ Some a.fault =
    ap (image_fault c.args.shape) (sym c.deref.ensures.value) ∙ c.memory_with.ensures.refused a.fault (a.is ∙ ap Err a.field-0-is) in
    image_refused c.args.shape c.args.name.now (g.H.Host.files c.args.host.now) c.in-Ok.bytes.items a.fault c.in-Ok.ensures.bytes fault
