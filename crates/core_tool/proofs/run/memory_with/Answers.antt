use Rattle.std.proofs.Common.{◌≡◌, ◌<◌, ◌≤◌, ◌+◌, ℕ, Some, Err, length, ap, sym, ◌∙◌, arith}
use Rattle.std.proofs.lemmas.List.{length-replicate}
use Rattle.core_tool.specs.declared.ends.ImageFault.TheVariants.{TooLong, Outside}
use Rattle.core_tool.proofs.Calls.{image_fault-long, image_fault-outside}
use Rattle.core_tool.proofs.Runs.{memory_loaded, is_long, is_outside, same_address}
use Rattle.core_tool.proofs.run.memory_with.Goals as goal

pub returns-in-Ok-load_raw-clause-loaded : goal.returns-in-Ok-load_raw-clause-loaded
returns-in-Ok-load_raw-clause-loaded c = memory_loaded c.args.shape c.args.image.now c.in-Ok.memory c.load_raw.new.mem c.in-Ok.ensures c.in-Ok-load_raw.ensures.ok

pub returns-in-Err-TooLong-clause-refused : goal.returns-in-Err-TooLong-clause-refused
returns-in-Err-TooLong-clause-refused c =
    let a = c.in-Err-TooLong in
    let long : 67108864 < length c.args.image.now =
    is_long a.field-0 a.field-0-0 (length c.args.image.now) _ a.field-0-is a.ensures.only (67108864 < length c.args.image.now) (λ h. a.ensures.long.0 (ap Err h)) in
    λ fault e. let same : TooLong ≡ fault = cc in image_fault-long c.args.shape c.args.image.now long ∙ ap Some same

pub returns-in-Err-Outside-clause-refused : goal.returns-in-Err-Outside-clause-refused
returns-in-Err-Outside-clause-refused c =
    let a = c.in-Err-Outside in
    let size : length c.in-Ok.memory.bytes ≡ c.args.shape.size = ap (λ m. length m.bytes) c.in-Ok.ensures ∙ length-replicate {A = ℕ} c.args.shape.size 0 in
    let memory = c.in-Ok.memory in
    let end = memory.base + length memory.bytes in
    let outside : (length c.args.image.now ≤ 67108864) × (length memory.bytes < length c.args.image.now) × (a.addr ≡ end) =
    is_outside a.field-0 a.addr (length c.args.image.now) _ a.field-0-is a.ensures.only
    ((length c.args.image.now ≤ 67108864) × (length memory.bytes < length c.args.image.now) × (a.addr ≡ end))
    (λ h. let fits = a.ensures.outside.0 (ap Err h) in (fits.0, fits.1, same_address a.field-0 a.addr end a.field-0-is h)) in
    let behind : end ≡ c.args.shape.base + c.args.shape.size =
    ap (λ m. m.base + length m.bytes) c.in-Ok.ensures ∙ ap (λ n. c.args.shape.base + n) (length-replicate {A = ℕ} c.args.shape.size 0) in
    λ fault e. let same : Outside a.addr ≡ fault = cc in
    image_fault-outside c.args.shape c.args.image.now outside.0 (omega (arith, outside.1, size)) ∙ ap Some (ap Outside (sym (outside.2 ∙ behind)) ∙ same)
