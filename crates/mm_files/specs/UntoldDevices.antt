-- What is told of devices whose content isn't known.
use Rattle.std.specs.Prelude.{◌≡◌, ℕ, true, false, List, length, None, Some}
use Rattle.mm_pages.specs.PageStanding.{PageStanding}
use Rattle.mm_platform.specs.Standing.{Standing}

-- a platform that is on and has room, of which only the steps, losses of power and faults are
-- counted
abbrev pub untold_standing : ℕ → ℕ → ℕ → Standing
untold_standing steps cycles faults = record {
  cell = None;
  items = None;
  is_on = true;
  steps = steps;
  writes = 0;
  cycles = cycles;
  spare = 1;
  faults = faults;
  plan = None;
}

-- pages of which nothing is promised, and only the faults and calls are counted: no content is
-- told, and not which slots are synced or doubtful
abbrev pub untold_pages : ℕ → ℕ → ℕ → ℕ → ℕ → PageStanding
untold_pages faults reads writes lengths renewals = record {
  slots = None;
  is_honest = false;
  faults = faults;
  page_reads = reads;
  page_writes = writes;
  length_writes = lengths;
  renewals = renewals;
  unsynced = None;
  doubtful = None;
}

-- where no bytes are told, each that are have this length
pub none_are : (size : ℕ) (bytes : List ℕ) → None ≡ Some bytes → length bytes ≡ size
none_are size bytes told = absurd (cc)
