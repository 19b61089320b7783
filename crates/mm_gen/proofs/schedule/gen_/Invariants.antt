use Rattle.mm_gen.proofs.Below.{◌≡◌, ◌-◌, key_of, seed_from}
use Rattle.mm_gen.proofs.Replaying.{Going}
use Rattle.mm_gen.proofs.schedule.gen_.Given as goal

-- stream 0 of the number's key, and the schedule so far
abbrev pub invariant-turns : goal.invariant-turns
invariant-turns l = record {
  key : l.generator.key ≡ key_of (seed_from l.number);
  stream : l.generator.stream ≡ 0;
  going : Going l.number l.count l.header l.text l.generator.key l.generator.word_pos l.done;
}

abbrev pub decreases-turns : goal.decreases-turns
decreases-turns l = l.count - l.done
