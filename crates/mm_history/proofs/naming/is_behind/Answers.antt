use Rattle.mm_history.proofs.TakenLaws.{behind_found}
use Rattle.mm_history.proofs.naming.is_behind.Goals as goal

pub returns : goal.returns
returns c = behind_found c.args.barrier.now c.args.here.now.bytes c.args.start c.args.sought.now.named.now
    c.args.sought.now.anchor.now.bytes c.args.sought.now.extension.now.bytes c.if-start-sought.false
    c.same_digest.ensures c.if-not-same_digest.false c.register_behind.ensures c.same_digest-2.ensures
