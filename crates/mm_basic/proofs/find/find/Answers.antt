use Rattle.mm_basic.proofs.Below.{ℕ, refl, subst, rules, IsTrue, Ok, Basic, ReadsParts, Blank, Unspelled, Form, Kind, IsCellOf, NoCell}
use Rattle.mm_basic.proofs.Below.{Both}
use Rattle.mm_basic.proofs.Calling.{no_offer}
use Rattle.mm_basic.proofs.find.find.Goals as goal

pub returns-in-Err-Blank-clause-finds : goal.returns-in-Err-Blank-clause-finds
returns-in-Err-Blank-clause-finds g c = record {
  seen = NoCell Blank;
  is_seen = rw c.in-Err-Blank.field-0-is at c.in-Err-Blank.ensures;
  found_is = refl;
}

pub returns-in-Err-Cell-clause-finds : goal.returns-in-Err-Cell-clause-finds
returns-in-Err-Cell-clause-finds g c = record {
  seen = NoCell Unspelled;
  is_seen = rw c.in-Err-Cell.field-0-is at c.in-Err-Cell.ensures;
  found_is = refl;
}

pub returns-in-Err-Form-clause-finds : goal.returns-in-Err-Form-clause-finds
returns-in-Err-Form-clause-finds g c =
    let is : IsTrue c.is_of.result = search rules in
    no_offer _ _ _ _ _ c.in-Ok.cell Form _ c.id-id.ensures c.in-Ok.ensures (c.is_of.ensures.0 is)
    (rw c.in-Err-Form.field-0-is at c.in-Err-Form.ensures.reads) refl

pub returns-in-Err-Kind-clause-finds : goal.returns-in-Err-Kind-clause-finds
returns-in-Err-Kind-clause-finds g c =
    let is : IsTrue c.is_of.result = search rules in
    no_offer _ _ _ _ _ c.in-Ok.cell Kind _ c.id-id.ensures c.in-Ok.ensures (c.is_of.ensures.0 is)
    (rw c.in-Err-Kind.field-0-is at c.in-Err-Kind.ensures.reads) refl

pub returns-in-Ok-parts-clause-finds : goal.returns-in-Ok-parts-clause-finds
returns-in-Ok-parts-clause-finds g c =
    let is : IsTrue c.is_of.result = search rules in
    record {
      seen = Both c.in-Ok.cell c.in-Ok-parts.offered;
      is_seen = (
        c.in-Ok.ensures,
        subst (λ (id : ℕ). IsCellOf id c.in-Ok.cell) c.id-id.ensures (c.is_of.ensures.0 is),
        subst (λ (id : ℕ). ReadsParts c.args.ask.now.offer.now Basic id (Ok c.in-Ok-parts.offered)) c.id-id.ensures
            c.in-Ok-parts.ensures.reads,
      );
      found_is = c.weigh.ensures;
    }
