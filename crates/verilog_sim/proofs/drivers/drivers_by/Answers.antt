use Rattle.std.proofs.Common.{◌≡◌, ◌<◌, ◌-◌, ◌∷◌, ◌++◌, All, length, get_or, map, take, drop, subst}
use Rattle.std.proofs.lemmas.List.{get_or_default}
use Rattle.verilog_mean.specs.Erase.{plain_items}
use Rattle.verilog_mean.specs.Order.{drive_at}
use Rattle.verilog_resolve.proofs.Split.{split_first}
use Rattle.verilog_sim.specs.Drives.{drive, drives_by}
use Rattle.verilog_sim.proofs.Gathered.{one_driver, no_driver, all_rest}
use Rattle.verilog_sim.proofs.drivers.drivers_by.Goals as goal

pub loop-rest-preserved-in_ok-push : goal.loop-rest-preserved-in_ok-push
loop-rest-preserved-in_ok-push c =
    let rest = c.loop-rest.rest.now in
    let n = get_or rest 0 0 in
    let more = take (length rest - 1) (drop 1 rest) in
    let s : rest ≡ n ∷ more = split_first rest n c.in-len1-up.len_at_least (get_or_default rest 0 0 n c.in-len1-up.len_at_least) in
    let items = plain_items c.args.items.now in
    let i = c.loop-rest.invariant in (
      all_rest (λ k. k < length c.args.items.now) n more (subst (All (λ k. k < length c.args.items.now)) s i.0),
      one_driver c.loop-rest.drivers.items c.push.new.self.items c.in-Some.driver (drive_at items n) (drives_by items more) (drives_by items c.args.order.now)
          c.in_ok-push.ensures.items c.in-Some.ensures (subst (λ z. map drive c.loop-rest.drivers.items ++ drives_by items z ≡ drives_by items c.args.order.now) s i.1),
    )

pub loop-rest-preserved : goal.loop-rest-preserved
loop-rest-preserved c =
    let rest = c.loop-rest.rest.now in
    let n = get_or rest 0 0 in
    let more = take (length rest - 1) (drop 1 rest) in
    let s : rest ≡ n ∷ more = split_first rest n c.in-len1-up.len_at_least (get_or_default rest 0 0 n c.in-len1-up.len_at_least) in
    let items = plain_items c.args.items.now in
    let i = c.loop-rest.invariant in (
      all_rest (λ k. k < length c.args.items.now) n more (subst (All (λ k. k < length c.args.items.now)) s i.0),
      no_driver c.loop-rest.drivers.items (drive_at items n) (drives_by items more) (drives_by items c.args.order.now)
          c.in_default-driver_at.ensures (subst (λ z. map drive c.loop-rest.drivers.items ++ drives_by items z ≡ drives_by items c.args.order.now) s i.1),
    )
