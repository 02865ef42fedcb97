use Rattle.sample_text.proofs.few.small.Goals as goal

pub new-requires : goal.new-requires
new-requires c =
    λ pool. c.array.ensures.drivers pool (c.reg-3.ensures.drivers pool (c.reg-2.ensures.drivers pool (c.reg.ensures.drivers pool
    (c.wire-2.ensures.drivers pool (c.wire.ensures.drivers pool (c.in_ok-m.ensures.drivers pool))))))
