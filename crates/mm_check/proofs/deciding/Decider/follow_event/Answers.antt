use Rattle.mm_check.proofs.Below.{ℕ, ◌≡◌, ◌+◌, List, length, take, ap, subst, sym, arith, length-map, length-take, world_of, Event}
use Rattle.mm_check.proofs.Below.{event_of, events_of, numbered_messages, StandsBehind}
use Rattle.std.proofs.lemmas.Result.{on_ok_weaker}
use Rattle.mm_check.specs.Numbering.{LooksAtEvent}
use Rattle.mm_check.specs.declared.deciding.Decider.{Decider}
use Rattle.mm_check.proofs.DecidingLaws.{heard_after, looks_then, room_for, stands_next}
use Rattle.mm_numbering.proofs.GuardLaws.{events_more}
use Rattle.mm_check.proofs.deciding.Decider.follow_event.Goals as goal

pub take_in-requires-clause-few : goal.take_in-requires-clause-few
take_in-requires-clause-few c =
    let header = c.args.header.now in
    let before = events_of (take c.args.index c.args.events.now) in
    omega (
      arith,
      room_for header c.args.events.now c.args.index c.index-events-index.result c.args.self.now c.in_ok-heard.heard c.requires.few
          c.requires.stands (heard_after header before _ _ _ c.requires.stands.after c.in_ok-heard.ensures.hears),
    )

pub returns : goal.returns
returns c =
    let header = c.args.header.now in
    let all = c.args.events.now in
    let index = c.args.index in
    let event = c.index-events-index.result in
    let before = events_of (take index all) in
    let count : index ≡ length before = omega (arith, c.requires.within, length-map (take index all) event_of, length-take index all) in
    let told = c.in_ok-heard.ensures in
    let after = c.requires.stands.after in
    let new : Decider = record {
      expecting = c.event.new.self;
      numbers = c.take_in.new.numbers;
      forged = c.first_then-forged.result;
      lines = c.take_in.new.lines;
    } in
    on_ok_weaker c.take_in.result (λ takes.
    subst (λ (l : List Event). StandsBehind header l new) (events_more all index event c.requires.within c.index-events-index.is)
    (stands_next header before (event_of event) c.args.self.now new c.in_ok-heard.heard c.requires.stands
    (heard_after header before _ _ _ after told.hears) (told.after header before after) told.grows
    (takes.lists (numbered_messages (world_of header) before) c.requires.stands.lists) takes.told
    (subst (λ (n : ℕ). LooksAtEvent c.args.self.now.expecting c.args.self.now.forged (event_of event) n c.first_then-forged.result)
    (ap (λ (n : ℕ). n + 1) count)
    (subst (LooksAtEvent c.args.self.now.expecting c.args.self.now.forged (event_of event) (index + 1)) (sym c.first_then-forged.ensures)
    (looks_then c.args.self.now.expecting (event_of event) (index + 1) c.args.self.now.forged c.in_ok-heard.heard.is_genuine
    told.decides))))) c.take_in.ensures
