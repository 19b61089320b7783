use Rattle.std.proofs.Common.{◌≡◌, ◌≤◌, arith}
use Rattle.mm_bytes.specs.Limits.{next_count}
use Rattle.mm_platform.proofs.Telling.{ahead-falls}
use Rattle.mm_platform.proofs.memory.MemPlatform.let_in.Goals as goal

pub invariant_of-self-else-self : goal.invariant_of-self-else-self
invariant_of-self-else-self c =
    let known = rw (← c.self.view_is) at c.requires in
    let next : next_count c.self.inside.at ≡ c.args.step = cc in
    let later : c.self.inside.at ≤ c.args.step = omega arith in
    let falls = ahead-falls c.self.inside.at c.args.step c.self.inside.meddles.items later in
    omega arith
