use Rattle.mm_at_work.specs.Devices.{two_cells}
use Rattle.mm_at_work.proofs.hosts.live_under_host.Goals as goal

pub returns-in-Ok : goal.returns-in-Ok
returns-in-Ok g c =
    let begins = c.in-Ok.ensures.leaves in
    let ran = c.run_rounds.ensures in
    record {
      start = two_cells c.start.new.platform;
      objects = _;
      begun = begins;
      ran = ran;
      lives = c.commands_keep_promises.ensures.basic c.args.module.now _ _ begins c.tells_cell.ensures.0 ran.commands
          c.tells_cell.ensures.1 ran.run;
    }
