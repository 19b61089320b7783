use Rattle.mm_gen.proofs.Below.{◌≡◌, ℕ, List, [], ◌∷◌, ◌++◌, refl, append_assoc, end_line, joined_lines}
use Rattle.mm_gen.specs.declared.summary.Summary.{Summary}
use Rattle.mm_gen.specs.Schedules.{end_text, events_text, other_counts, replies_text, told_counts}
use Rattle.mm_gen.proofs.summary.put_summary.Goals as goal

-- five lines put one after another
five_lines : (a b c d e old one two three four five : List ℕ) → one ≡ old ++ a ++ 10 ∷ [] → two ≡ one ++ b ++ 10 ∷ []
    → three ≡ two ++ c ++ 10 ∷ [] → four ≡ three ++ d ++ 10 ∷ [] → five ≡ four ++ e ++ 10 ∷ []
    → five ≡ old ++ joined_lines (a ∷ b ∷ c ∷ d ∷ e ∷ [])
five_lines a b c d e old one two three four five is1 is2 is3 is4 is5 = rw (is5, is4, is3, is2, is1) (simp append_assoc refl)

-- the last line of the replies
end_put : (before after : List ℕ) (it : Summary) → after ≡ before ++ end_line it.committed it.issued
    → after ≡ before ++ end_text it ++ 10 ∷ []
end_put before after it is = rw is (simp append_assoc refl)

pub returns : goal.returns
returns c =
    five_lines (events_text c.args.events) (told_counts c.args.it.now.counts) (other_counts c.args.it.now.counts) (end_text c.args.it.now)
    (replies_text c.args.it.now.replies.bytes)
    c.args.into.now c.put_events.new.into c.put_told_counts.new.into c.put_other_counts.new.into c.put_end.new.into c.put_replies.new.into
    c.in_ok-put_events.ensures c.in_ok-put_told_counts.ensures c.in_ok-put_other_counts.ensures
    (end_put c.put_other_counts.new.into c.put_end.new.into c.args.it.now c.in_ok-put_end.ensures) c.in_ok-put_replies.ensures
