use Rattle.core_tool.proofs.run.load_own.Goals as goal

pub unreachable-requires : goal.unreachable-requires
unreachable-requires c =
    let read = c.requires.is_read.1 in
    c.in_default.not-NoMemory (c.in-Err.ensures.refused c.requires.is_read.0 read.short read.reads read.sound)
