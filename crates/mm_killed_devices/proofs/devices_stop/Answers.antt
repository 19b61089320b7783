use Rattle.mm_killed_devices.proofs.CellStops.{cell_cycles, cell_steps}
use Rattle.mm_killed_devices.proofs.PageStops.{page_reads, page_writes, kills_reach}
use Rattle.mm_killed_devices.proofs.devices_stop.Goals as goal

pub returns-clause-steps : goal.returns-clause-steps
returns-clause-steps c = cell_steps

pub returns-clause-cycles : goal.returns-clause-cycles
returns-clause-cycles c = cell_cycles

pub returns-clause-reads : goal.returns-clause-reads
returns-clause-reads c = page_reads

pub returns-clause-writes : goal.returns-clause-writes
returns-clause-writes c = page_writes

pub returns-clause-reach : goal.returns-clause-reach
returns-clause-reach c = kills_reach
