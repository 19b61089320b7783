-- A session behind the reading of the cell is one run whatever the slots hold; and it goes on over an honest store.
use Rattle.std.specs.Prelude.{Result, Ok, Err}
use Rattle.mm_host_commands.proofs.Below.{continues_from, runs_once_from, meaning_of, Standing, Header, LooksAtInstance, Outside}
use Rattle.mm_host_commands.proofs.Below.{ContinuesIfFound, RunsOnceIfFound, Status}
use Rattle.mm_modules.specs.ModulesLaws.{any_is_lawful}
use Rattle.mm_host_commands.specs.Outside.{session_of}

pub runs_once_if_found : (found : Result Header Status) (entry : Standing) (old new : Outside)
    → LooksAtInstance entry old.standing found → RunsOnceIfFound found entry old new
runs_once_if_found (Err end) entry old new looks = tt
runs_once_if_found (Ok header) entry old new looks = λ between answer.
    runs_once_from header.variant (meaning_of header.module) (any_is_lawful header.module) entry looks.fault (session_of old)
    (record (session_of new) { received = between }) answer looks.goes

pub continues_if_found : (found : Result Header Status) (entry : Standing) (old new : Outside)
    → LooksAtInstance entry old.standing found → ContinuesIfFound found entry old new
continues_if_found (Err end) entry old new looks = tt
continues_if_found (Ok header) entry old new looks = λ between answer.
    continues_from header.variant (meaning_of header.module) (any_is_lawful header.module) entry looks.fault (session_of old)
    (record (session_of new) { received = between }) answer looks.goes
