use Rattle.mm_history.proofs.Below.{◌≡◌, ◌∙◌, ◌++◌, ◌+◌, [], ◌∷◌, List, ℕ, RegisterEntry, ap, sym, refl, subst, length, length-map, map-append}
use Rattle.mm_history.proofs.Below.{kept_entry, kept_entries, kept_segments, items_of_all}
use Rattle.std.specs.List.{AllByRecursion}
use Rattle.std.proofs.lemmas.Option.{slice_get_read}
use Rattle.mm_history.specs.Naming.{IsStage}
use Rattle.mm_history.proofs.KnownLaws.{entries_more, sum_then}
use Rattle.mm_history.proofs.PlaceLaws.{segments_are}
use Rattle.mm_history.proofs.waymarks.entries_in.Goals as goal

pub returns-in-Some-get : goal.returns-in-Some-get
returns-in-Some-get c = λ id barrier are.
    let before = kept_segments c.in-Some.before.now in
    let last = kept_entries c.in-Some.last.now.items in
    let parts : kept_segments c.args.closed.now ≡ before ++ last ∷ [] =
    ap kept_segments c.in-Some.ensures.cases.0 ∙ map-append _ c.in-Some.before.now (c.in-Some.last.now ∷ []) in
    let found = slice_get_read c.args.stages.now _ (length c.in-Some.before.now) c.in-Some-get.stage.now refl
    c.in-Some-get.ensures.lookup.3.0 c.in-Some-get.ensures.lookup.1 in
    let sum = ap (λ (n : ℕ). c.in-Some-get.stage.now.entries + n)
    (ap length c.as_slice.ensures.value ∙ sym (length-map c.in-Some.last.now.items kept_entry)) in
    sum_then _ c.checked_add.result c.checked_add.ensures (entries_more id barrier before last c.args.stages.now
    (length c.in-Some.before.now) c.in-Some-get.stage.now found (c.if-stage-before.true ∙ segments_are c.in-Some.before.now refl)
    (subst (λ (s : List (List RegisterEntry)). AllByRecursion (IsStage id barrier s) c.args.stages.now) parts are) sum
    ∙ ap (λ (s : List (List RegisterEntry)). length (items_of_all s)) (sym parts))
