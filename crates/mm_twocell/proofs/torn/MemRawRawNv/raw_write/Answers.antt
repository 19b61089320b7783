use Rattle.std.proofs.Common.{rules}
use Rattle.mm_twocell.proofs.Writing.{write_fails}
use Rattle.mm_twocell.proofs.torn.MemRawRawNv.raw_write.Goals as goal

pub returns-then-fails-clause-goes : goal.returns-then-fails-clause-goes
returns-then-fails-clause-goes c =
    write_fails c.args.at c.args.bytes.now c.args.self.now c.fails.new.self c.put_leaves.new.self (search rules)
    c.fails.ensures.ready (search rules) c.fails.ensures.after c.put_leaves.ensures
