use Rattle.std.proofs.Common.{◌∙◌, ◌≤◌, ℕ, List, ap, sym, subst, length, Some}
use Rattle.std.specs.List.{slice_get}
use Rattle.std.specs.Option.{option_map}
use Rattle.mm_numbering.specs.TextList.{bytes_in}
use Rattle.mm_numbering.proofs.GuardLaws.{found_at, within_at, slice_get-map}
use Rattle.mm_numbering.proofs.texts.TextList.get.Goals as goal

pub bytes_in-requires-clause-rises : goal.bytes_in-requires-clause-rises
bytes_in-requires-clause-rises c =
    let lookup = c.in_ok-span.ensures.lookup in
    (within_at (length c.self.inside.text) c.self.inside.spans.items c.args.index c.in_ok-span.span.now c.self.invariant
    (found_at _ _ c.args.index c.in_ok-span.span.now c.deref.ensures.value lookup.3.0 lookup.1)).0

pub bytes_in-requires-clause-within : goal.bytes_in-requires-clause-within
bytes_in-requires-clause-within c =
    let lookup = c.in_ok-span.ensures.lookup in
    subst (λ (t : List ℕ). c.in_ok-span.span.now.end ≤ length t) (sym c.as_slice.ensures.value)
    (within_at (length c.self.inside.text) c.self.inside.spans.items c.args.index c.in_ok-span.span.now c.self.invariant
    (found_at _ _ c.args.index c.in_ok-span.span.now c.deref.ensures.value lookup.3.0 lookup.1)).1

pub returns : goal.returns
returns c =
    let text = c.self.inside.text in let spans = c.self.inside.spans.items in let span = c.in_ok-span.span.now in
    let lookup = c.in_ok-span.ensures.lookup in let at = found_at _ _ c.args.index span c.deref.ensures.value lookup.3.0 lookup.1 in
    ap Some (c.bytes_in.ensures ∙ ap (λ (t : List ℕ). bytes_in t span) c.as_slice.ensures.value)
    ∙ sym (slice_get-map (bytes_in text) spans c.args.index ∙ ap (option_map (bytes_in text)) at)
    ∙ ap (λ (l : List (List ℕ)). slice_get l c.args.index) c.self.view_is
