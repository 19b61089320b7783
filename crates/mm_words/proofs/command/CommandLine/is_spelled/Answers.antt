use Rattle.mm_words.proofs.Reading.{tells_command, tells_words}
use Rattle.mm_words.proofs.command.CommandLine.is_spelled.Goals as goal

pub returns-in-Init : goal.returns-in-Init
returns-in-Init c = tells_command _ _ _ c.in-Init.is (tells_words _ _ _ c.are_header_words.ensures)

pub returns-in-Run : goal.returns-in-Run
returns-in-Run c = tells_command _ _ _ c.in-Run.is (tells_words _ _ _ c.is_alone.ensures)

pub returns-in-Checkpoint : goal.returns-in-Checkpoint
returns-in-Checkpoint c = tells_command _ _ _ c.in-Checkpoint.is (tells_words _ _ _ c.is_alone-in-Checkpoint.ensures)

pub returns-in-Power : goal.returns-in-Power
returns-in-Power c = tells_command _ _ _ c.in-Power.is (tells_words _ _ _ c.is_alone-in-Power.ensures)

pub returns-in-Replay : goal.returns-in-Replay
returns-in-Replay c = tells_command _ _ _ c.in-Replay.is (tells_words _ _ _ c.is_alone-in-Replay.ensures)

pub returns-in-Check : goal.returns-in-Check
returns-in-Check c = tells_command _ _ _ c.in-Check.is (tells_words _ _ _ c.is_alone-in-Check.ensures)

pub returns-in-Gen : goal.returns-in-Gen
returns-in-Gen c = tells_command _ _ _ c.in-Gen.is (tells_words _ _ _ c.are_generated_words.ensures)

pub returns-in-Bulk : goal.returns-in-Bulk
returns-in-Bulk c = tells_command _ _ _ c.in-Bulk.is (tells_words _ _ _ c.are_generated_words-in-Bulk.ensures)

pub returns-in-Slots : goal.returns-in-Slots
returns-in-Slots c = tells_command _ _ _ c.in-Slots.is (tells_words _ _ _ c.is_alone-in-Slots.ensures)

pub returns-in-Transfer : goal.returns-in-Transfer
returns-in-Transfer c = tells_command _ _ _ c.in-Transfer.is (tells_words _ _ _ c.is_alone-in-Transfer.ensures)

pub returns-in-Help : goal.returns-in-Help
returns-in-Help c = tells_command _ _ _ c.in-Help.is (tells_words _ _ _ c.is_alone-in-Help.ensures)
