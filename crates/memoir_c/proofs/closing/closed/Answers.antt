use Rattle.mm_told.specs.HostLaws.{is_worn_host}
use Rattle.memoir_c.proofs.closing.closed.Goals as goal

pub checkpoint-requires : goal.checkpoint-requires
checkpoint-requires c = is_worn_host _
