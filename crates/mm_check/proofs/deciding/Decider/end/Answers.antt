use Rattle.mm_check.proofs.Below.{◌∙◌, sym, subst, arith, length-map, event_of, world_of, events_of, DecidesPremise, Premise}
use Rattle.mm_check.proofs.DecidingLaws.{decided, lines_end}
use Rattle.mm_check.proofs.deciding.Decider.end.Goals as goal

pub issued-requires : goal.issued-requires
issued-requires c = omega (arith, c.requires.stands.few, c.requires.few, length-map c.args.events.now event_of)

pub returns : goal.returns
returns c =
    let header = c.args.header.now in
    let es = events_of c.args.events.now in
    record {
      premise = subst (λ (p : Premise). DecidesPremise (world_of header) es p) (sym c.premise.ensures)
          (decided header es c.args.self.now c.in_ok-secured.secured c.requires.stands c.in_ok-secured.ensures);
      lines =
          c.replace.ensures.value
          ∙ lines_end header es c.args.self.now c.committed.result c.issued.result c.put_last.new.lines c.requires.stands
          c.committed.ensures c.issued.ensures c.in_ok-put_last.ensures;
    }
