use Rattle.mm_history.proofs.Below.{sym, refl, None, meaning_of, content_of}
use Rattle.mm_history.proofs.PlaceLaws.{not_counted}
use Rattle.mm_history.proofs.KnownLaws.{nowhere}
use Rattle.mm_history.proofs.naming.is_named.Goals as goal

pub returns-then-is_between : goal.returns-then-is_between
returns-then-is_between c = λ key. not_counted c.args.variant (meaning_of c.args.module.now) key c.args.barrier.now c.args.lists.now
    (content_of c.args.body.now) c.batches.result.now c.batches.ensures None
    (sym (nowhere c.args.variant (meaning_of c.args.module.now) c.args.barrier.now c.args.ways.now.marks.items c.batches.result.now
    c.batches.ensures c.requires.ways.marks
    (rw c.as_slice-marks.ensures.value at c.is_between.ensures c.if-is_between.true))) refl
