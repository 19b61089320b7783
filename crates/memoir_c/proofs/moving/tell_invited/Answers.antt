use Rattle.std.proofs.Common.{rules}
use Rattle.memoir_c.proofs.moving.tell_invited.Goals as goal

pub returns-in-Ok-Ended-Ok-Again : goal.returns-in-Ok-Ended-Ok-Again
returns-in-Ok-Ended-Ok-Again c = search rules
