use Rattle.mm_transfer.proofs.Below.{◌∙◌, Some, ap, inl, inr, side_event_of, sym}
use Rattle.mm_play.specs.Stage.{answer_by}
use Rattle.mm_transfer.specs.Stage.{transfer_steps, TransferState, transfer_text}
use Rattle.mm_transfer.proofs.stage.TransferStage.follow.Goals as goal

-- memory was wanting for the event
pub returns-in-Err : goal.returns-in-Err
returns-in-Err c = λ line read. inr (inl (side_event_of c.args.event.now, read, c.in-Err.ensures.wants))

-- memory was wanting for the reply: the event was followed
pub returns : goal.returns
returns c = λ line read.
    let r = c.args.self.now in
    let event = side_event_of c.args.event.now in
    inr (inr (
      transfer_text r event,
      ap (answer_by transfer_steps r) read
          ∙ ap (λ (next : TransferState). Some (transfer_text r event, next)) (sym c.in-Ok.ensures.after),
    ))
