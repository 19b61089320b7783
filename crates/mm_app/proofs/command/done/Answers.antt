use Rattle.mm_app.proofs.Below.{◌≡◌, inl, refl, subst, sym, CommandLine, Checkpoint, Power, Replay, Check, Bulk, Slots, Receipts}
use Rattle.mm_app.proofs.Below.{Transfer, CommandDoes, DoesOrLacks, Outside, outside, Status}
use Rattle.mm_app.proofs.command.done.Given.{Over}
use Rattle.mm_app.proofs.command.done.Goals.{Start}
use Rattle.mm_app.proofs.command.done.Goals as goal

-- what the objects told before the command
abbrev told : (g : Over) → Start g → Outside
told g c =
    outside (g.P.Device.standing c.args.platform.now) (g.T.Store.kept c.args.store.now) (g.S.Source.left c.args.input.now)
    (g.S.Source.faults c.args.input.now) (g.E.Source.left c.args.entropy.now) (g.E.Source.faults c.args.entropy.now)
    (g.K.Sink.received c.args.out.now) (g.K.Sink.faults c.args.out.now)

-- the command that was told was done
done_as : (command is : CommandLine) (old new : Outside) (status : Status) → command ≡ is → CommandDoes is old new status
    → DoesOrLacks command old new status
done_as command is old new status e d = inl (subst (λ (it : CommandLine). CommandDoes it old new status) (sym e) d)

pub returns-in-Replay-clause-does : goal.returns-in-Replay-clause-does
returns-in-Replay-clause-does g c =
    let old = told g (goal.at.returns-in-Replay-clause-does g c).Start in
    done_as _ Replay _ _ _ c.in-Replay.is (c.replay_and_stop.ensures.replays old)

pub returns-in-Check-clause-does : goal.returns-in-Check-clause-does
returns-in-Check-clause-does g c =
    let old = told g (goal.at.returns-in-Check-clause-does g c).Start in
    done_as _ Check _ _ _ c.in-Check.is (c.check_run.ensures.checks old)

pub returns-in-Slots-clause-does : goal.returns-in-Slots-clause-does
returns-in-Slots-clause-does g c =
    let old = told g (goal.at.returns-in-Slots-clause-does g c).Start in
    done_as _ Slots _ _ _ c.in-Slots.is (c.play_slots.ensures.plays old)

pub returns-in-Receipts-clause-does : goal.returns-in-Receipts-clause-does
returns-in-Receipts-clause-does g c =
    let old = told g (goal.at.returns-in-Receipts-clause-does g c).Start in
    done_as _ (Receipts c.in-Receipts.key) _ _ _ c.in-Receipts.is (c.check_receipts.ensures.checks old)

pub returns-in-Transfer-clause-does : goal.returns-in-Transfer-clause-does
returns-in-Transfer-clause-does g c =
    let old = told g (goal.at.returns-in-Transfer-clause-does g c).Start in
    done_as _ Transfer _ _ _ c.in-Transfer.is (c.play_transfer.ensures.plays old)

pub returns-in-Checkpoint-clause-does : goal.returns-in-Checkpoint-clause-does
returns-in-Checkpoint-clause-does g c =
    let old = told g (goal.at.returns-in-Checkpoint-clause-does g c).Start in
    done_as _ Checkpoint _ _ _ c.in-Checkpoint.is (c.close_segment.ensures old)

pub returns-in-Power-clause-does : goal.returns-in-Power-clause-does
returns-in-Power-clause-does g c =
    let old = told g (goal.at.returns-in-Power-clause-does g c).Start in
    done_as _ Power _ _ _ c.in-Power.is (c.lose_power.ensures old)

pub returns-in-Bulk-clause-does : goal.returns-in-Bulk-clause-does
returns-in-Bulk-clause-does g c =
    let old = told g (goal.at.returns-in-Bulk-clause-does g c).Start in
    done_as _ (Bulk c.in-Bulk.it) _ _ _ c.in-Bulk.is (
      record { standing = refl; kept = refl; left = refl; reads = refl; entropy = refl; takes = refl },
      c.run_in_bulk.ensures old,
    )
