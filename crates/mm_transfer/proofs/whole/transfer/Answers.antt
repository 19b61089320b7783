use Rattle.mm_transfer.proofs.Below.{first_transfer, events_err, events_ok, transfer_steps, plays_err, unrefused, PairsAgreeThroughout}
use Rattle.mm_transfer.proofs.Below.{OneIsLive, SidesRunAsOne}
use Rattle.mm_sides.specs.Premises.{PairsAreDecided}
use Rattle.mm_transfer.specs.Stage.{AreOneTransfer, transfer_player, ReportsTransfer, transfer_heads, transfer_stage}
use Rattle.mm_transfer.specs.declared.report.TransferReport.{TransferReport}
use Rattle.mm_transfer.proofs.Matching.{SideLaws, are_one_transfer, shown_in, shows}
use Rattle.mm_transfer.proofs.whole.transfer.Goals as goal

by_laws : PairsAgreeThroughout → OneIsLive → SidesRunAsOne → PairsAreDecided → SideLaws
by_laws agree live run decided = record { agree = agree; live = live; run = run; decided = decided }

pub returns-in-Err-clause-plays : goal.returns-in-Err-clause-plays
returns-in-Err-clause-plays g c =
    events_err transfer_player transfer_heads transfer_stage transfer_steps first_transfer shown_in shows AreOneTransfer
    (are_one_transfer (by_laws c.both_sides_agree.ensures c.one_side_is_live.ensures c.sides_run_as_one.ensures
    c.pairs_are_decided.ensures)) ReportsTransfer
    c.new-player.ensures c.play-played.ensures.plays c.in-Err.fault c.in-Err.is

pub returns-in-Ok-clause-plays : goal.returns-in-Ok-clause-plays
returns-in-Ok-clause-plays g c =
    events_ok transfer_player transfer_heads transfer_stage transfer_steps first_transfer shown_in shows AreOneTransfer
    (are_one_transfer (by_laws c.both_sides_agree.ensures c.one_side_is_live.ensures c.sides_run_as_one.ensures
    c.pairs_are_decided.ensures)) ReportsTransfer
    c.new-player.ensures c.play-played.ensures.plays tt c.in-Ok.is c.report_of-report.result c.report_of-report.ensures

pub returns-in-Err-clause-complete : goal.returns-in-Err-clause-complete
returns-in-Err-clause-complete g c =
    unrefused (plays_err {R = TransferReport} c.new-player.ensures c.play-played.ensures.plays c.in-Err.fault c.in-Err.is)
