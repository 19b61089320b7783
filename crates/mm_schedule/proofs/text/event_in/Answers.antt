use Rattle.mm_schedule.proofs.Below.{◌∙◌, [], sym}
use Rattle.mm_schedule.proofs.ReadIsSpelled.{asks_at_once}
use Rattle.mm_schedule.proofs.text.event_in.Goals as goal

pub returns-in-Some : goal.returns-in-Some
returns-in-Some c = c.ask_in.ensures [] ∙ sym (asks_at_once c.args.line.now c.in-Some.words.now (sym c.in-Some.ensures))
