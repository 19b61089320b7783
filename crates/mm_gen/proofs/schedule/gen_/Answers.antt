use Rattle.mm_gen.proofs.Below.{◌≡◌, ◌∙◌, ◌+◌, ap, ChaCha, key_of}
use Rattle.mm_gen.proofs.Replaying.{begins, goes_on, whole_text}
use Rattle.mm_gen.proofs.schedule.gen_.Goals as goal

pub turns-preserved : goal.turns-preserved
turns-preserved c =
    let after = c.draw-words.ensures.after in
    let key : c.draw-words.new.generator.key ≡ c.turns.generator.key = ap (λ (g : ChaCha). g.key) after in
    let place : c.draw-words.new.generator.word_pos ≡ c.turns.generator.word_pos + 4 = ap (λ (g : ChaCha). g.word_pos) after in
    let text = rw c.draw-words.ensures.words at c.in_ok-done.ensures.lines in
    let count = rw c.draw-words.ensures.words at c.in_ok-done.ensures.count in
    let going = goes_on c.args.number c.args.count c.args.header.now c.turns.text c.turns.generator.key c.turns.generator.word_pos
    c.turns.done c.in_ok-done.field-0 c.turns.invariant.going c.turns-test.true count in
    record {
      key = key ∙ c.turns.invariant.key;
      stream = ap (λ (g : ChaCha). g.stream) after ∙ c.turns.invariant.stream;
      going = rw (text, key, place) going;
    }

pub turns-init : goal.turns-init
turns-init c =
    let is = c.from_seed-generator.ensures in
    record {
      key = ap (λ (g : ChaCha). g.key) is ∙ ap key_of c.seed_from.ensures;
      stream = ap (λ (g : ChaCha). g.stream) is;
      going = begins c.args.number c.args.count c.args.header.now _ _ _ _ _ c.new-text.ensures c.in_ok-put_header.ensures
          c.in_ok-append.ensures.ok c.seed_from.ensures is;
    }

pub returns : goal.returns
returns c = whole_text _ _ _ _ _ _ _ c.turns.invariant.going c.turns-test.false
