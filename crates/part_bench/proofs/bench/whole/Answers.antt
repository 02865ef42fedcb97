use Rattle.part_bench.proofs.bench.whole.Goals as goal

pub watch_all-requires-clause-nets : goal.watch_all-requires-clause-nets
watch_all-requires-clause-nets c k l = c.put_registers.ensures.nets _ (c.requires.nets k l)
