use Rattle.mm_dispenser.proofs.Below.{◌+◌, ◌-◌, ◌++◌, List, ℕ, ap, ◌∙◌, arith, add_assoc, key_of, word_text, words_text, text_of_draw}
use Rattle.mm_dispenser.proofs.DrawLaws.{next-drawn, drawn-step}
use Rattle.mm_dispenser.proofs.draws.draw.Goals as goal

pub words-preserved : goal.words-preserved
words-preserved c =
    let i = c.words._drawn in
    let n = next-drawn c.words.words c.next_word.new.self c.next_word.result c.args.seed.now (c.args.place + i)
    (omega (arith, c.requires, c.words-test.true)) c.next_word.ensures c.words.invariant.next in
    record {
      within = omega (arith, c.words-test.true);
      next = n.next ∙ ap (λ (p : ℕ). record { key = key_of c.args.seed.now; stream = 0; word_pos = p }) (add_assoc c.args.place i 1);
      drawn =
          ap (λ (t : List ℕ). t ++ words_text c.args.seed.now (c.args.place + (i + 1)) (c.args.count - (i + 1)))
          (c.in_ok-put_word.ensures ∙ ap (λ (w : ℕ). c.words.text ++ word_text w) n.is)
          ∙ drawn-step c.args.seed.now c.words.text (text_of_draw c.args.seed.now c.args.place c.args.count) c.args.place c.args.count i
          c.words-test.true c.words.invariant.drawn;
    }
