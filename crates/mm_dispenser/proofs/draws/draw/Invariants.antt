use Rattle.mm_dispenser.proofs.Below.{◌≡◌, ◌+◌, ◌-◌, ◌≤◌, ◌++◌, key_of, words_text, text_of_draw}
use Rattle.mm_dispenser.proofs.draws.draw.Given as goal

-- the words so far, and the place of the next
abbrev pub invariant-words : goal.invariant-words
invariant-words l = record {
  within : l._drawn ≤ l.count;
  next : l.words ≡ record { key = key_of l.seed; stream = 0; word_pos = l.place + l._drawn };
  drawn : l.text ++ words_text l.seed (l.place + l._drawn) (l.count - l._drawn) ≡ text_of_draw l.seed l.place l.count;
}
