use Rattle.mm_history.proofs.Below.{◌∙◌, ap, kept_batch, link, summary_of}
use Rattle.mm_model.specs.ListLaws.{summary-nil, summary-push}
use Rattle.mm_history.proofs.TakenLaws.{more_taken}
use Rattle.mm_history.proofs.naming.summary_of.Goals as goal

pub batches-init : goal.batches-init
batches-init c = c.start-summary.ensures ∙ summary-nil c.args.id

pub batches-preserved : goal.batches-preserved
batches-preserved c =
    more_taken kept_batch (summary_of c.args.id) link (summary-push c.args.id) c.args.batches.now c.batches.batch-index
    c.batch-item.result c.batches-test.true c.batch-item.is c.batches.invariant (c.link-summary.ensures ∙ ap (link _) c.lent.ensures)
