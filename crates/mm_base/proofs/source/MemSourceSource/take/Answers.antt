use Rattle.mm_base.proofs.Below.{◌≡◌, ◌+◌, ◌≤◌, ◌<◌, ℕ, List, [], ◌++◌, take, drop, length, ap, arith, sym, ◌∙◌, min, take-append-drop}
use Rattle.mm_base.proofs.Below.{drop-drop, Supply}
use Rattle.std.proofs.lemmas.Grind.{common_steps}
use Rattle.mm_base.proofs.source.MemSourceSource.take.Goals as goal

-- what is left is what a call gives and what is left after it
given : (at count : ℕ) (content : List ℕ) → take count (drop at content) ++ drop (at + count) content ≡ drop at content
given at count content = rw (← drop-drop count at content) (take-append-drop count (drop at content))

-- where nothing is given though there is room, nothing is left
ended : (at count piece room : ℕ) (content : List ℕ) → 1 ≤ piece → 0 < room
    → count ≡ min (min (length (drop at content)) piece) room → count ≡ 0 → drop (at + count) content ≡ []
ended at count piece room content some_piece some_room is none = grind (arith, common_steps)

pub returns-clause-taken : goal.returns-clause-taken
returns-clause-taken c =
    let at = c.self.inside.at in
    let count = c.min-count.result in
    let content = c.self.inside.content.items in
    let is : drop at content ≡ c.args.self.now.left = ap (λ (s : Supply). s.left) c.self.view_is in
    let back : c.split_at.result.1.now ≡ drop at content =
    c.split_at.ensures.back ∙ ap (λ (xs : List ℕ). drop at xs) c.deref-2.ensures.value in
    let copied : take count (drop at content) ≡ take count c.copy_front.new.into =
    ap (λ (xs : List ℕ). take count xs) (sym back) ∙ sym c.copy_front.ensures in
    let counted : count ≡ min (min (length (drop at content)) c.self.inside.piece) (length c.args.buf.now) =
    rw (← back, ← c.min.ensures) c.min-count.ensures in (
      sym is ∙ sym (given at count content) ∙ ap (λ (front : List ℕ). front ++ drop (at + count) content) copied,
      λ none some. ended at count c.self.inside.piece (length c.args.buf.now) content
          c.self.invariant.1 (omega arith) counted none,
    )

pub returns-clause-after : goal.returns-clause-after
returns-clause-after c = grind (arith, common_steps)
