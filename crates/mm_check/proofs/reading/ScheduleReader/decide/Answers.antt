use Rattle.std.specs.Prelude.{◌≡◌}
use Rattle.std.proofs.Common.{rules}
use Rattle.mm_numbering.specs.Listing.{events_of}
use Rattle.mm_check.proofs.reading.ScheduleReader.decide.Goals as goal

pub returns : goal.returns
returns c =
    let header : c.self.inside.header ≡ c.args.self.now.header = search rules in
    let events : events_of c.self.inside.events.items ≡ c.args.self.now.events = search rules in
    rw (← header, ← events, ← c.as_slice.ensures.value) c.decide.ensures
