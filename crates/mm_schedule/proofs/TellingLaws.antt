-- Replies tell what was said. With it: the machine's runs; runs keep the promises of their modules.
use Rattle.mm_module.specs.RunLaws.{outputs_from-append, length-outputs_from}
use Rattle.mm_listing.specs.Listing.{Telling, WasSaid}
use Rattle.mm_listing.specs.RequestLaws.{drop-next, slice_get-drop}
use Rattle.mm_schedule.specs.Events as events
use Rattle.mm_schedule.specs.Replies.{RunsKeepPromises}
use Rattle.mm_schedule.proofs.Below.{◌≡◌, ℕ, true, false, List, [], ◌∷◌, ◌++◌, sym, ◌∙◌, subst, Meaning, Reply, Told, Kept, IsEventRun}
use Rattle.mm_schedule.proofs.Below.{IsRunStep, append-nil, members_of, IsTold, ◌+◌, length, drop, refl, ap, append_assoc, slice_get}
use Rattle.mm_schedule.proofs.Below.{AllByRecursion, Batch, state_after, outputs_from, tellings_from, tellings_of, tellings_in}
use Rattle.mm_schedule.proofs.Below.{TellsWhatWasSaid, meaning_of, any_is_listed}

-- The machine's runs: what they fix, and how they go on.

-- what a step adds to the requests
abbrev pub added : events.Event → Reply → List (List ℕ)
added (events.Ask meddles stop offer batch) (Told false before outputs) = members_of batch
added (events.Ask meddles stop offer batch) (Kept way position) = members_of batch
added _ _ = []

pub step-grows : (meaning : Meaning) (requests : List (List ℕ)) (event : events.Event) (reply : Reply) (after : List (List ℕ))
    → IsRunStep meaning requests event reply after → after ≡ requests ++ added event reply
step-grows meaning requests (events.Ask meddles stop offer batch) (Told false before outputs) after s = s.grown
step-grows meaning requests (events.Ask meddles stop offer batch) (Told true before outputs) after s = s.2 ∙ sym (append-nil requests)
step-grows meaning requests (events.Ask meddles stop offer batch) (Kept way position) after s = s.0
step-grows meaning requests _ (Told again before outputs) after s = absurd s
step-grows meaning requests _ (Kept way position) after s = absurd s
step-grows meaning requests (events.Ask meddles stop offer batch) _ after s = s ∙ sym (append-nil requests)
step-grows meaning requests _ _ after s = s ∙ sym (append-nil requests)

pub run-fixed : (meaning : Meaning) (requests a b : List (List ℕ)) (es : List events.Event) (replies : List Reply)
    → IsEventRun meaning requests es replies a → IsEventRun meaning requests es replies b → a ≡ b
run-fixed meaning requests a b [] [] one two = one ∙ sym two
run-fixed meaning requests a b (event ∷ es) (reply ∷ replies) one two =
    let same : one.0 ≡ two.0 = step-grows meaning requests event reply one.0 one.1
    ∙ sym (step-grows meaning requests event reply two.0 two.1) in
    run-fixed meaning two.0 a b es replies (subst (λ (between : List (List ℕ)). IsEventRun meaning between es replies a) same one.2) two.2
run-fixed meaning requests a b _ _ one two = absurd one

pub runs-on : (meaning : Meaning) (requests between after : List (List ℕ)) (es more : List events.Event) (replies others : List Reply)
    → IsEventRun meaning requests es replies between → IsEventRun meaning between more others after
    → IsEventRun meaning requests (es ++ more) (replies ++ others) after
runs-on meaning requests between after [] more [] others one two =
    subst (λ (start : List (List ℕ)). IsEventRun meaning start more others after) one two
runs-on meaning requests between after (event ∷ es) more (reply ∷ replies) others one two =
    (one.0, one.1, runs-on meaning one.0 between after es more replies others one.2 two)
runs-on meaning requests between after _ more _ others one two = absurd one

-- Replies tell what was said: a run only grows its requests, and a batch's outputs stand behind those before it.

drop-length : (front rest : List (List ℕ)) → drop (length front) (front ++ rest) ≡ rest
drop-length [] rest = refl
drop-length (x ∷ front) rest = drop-length front rest

all-append : (P : Telling → Type 0) (xs ys : List Telling) → AllByRecursion P xs → AllByRecursion P ys → AllByRecursion P (xs ++ ys)
all-append P [] ys one two = two
all-append P (x ∷ xs) ys one two = (one.0, all-append P xs ys one.1 two)

-- outputs that stand behind so many of all outputs are told as they were said
tellings-inside : (all outputs rest : List (List ℕ)) (before : ℕ) → drop before all ≡ outputs ++ rest
    → AllByRecursion (WasSaid all) (tellings_from before outputs)
tellings-inside all [] rest before is = tt
tellings-inside all (output ∷ outputs) rest before is = (
  slice_get-drop all before ∙ ap (λ (l : List (List ℕ)). slice_get l 0) is,
  tellings-inside all outputs rest (before + 1) (drop-next all before ∙ ap (λ (l : List (List ℕ)). drop 1 l) is),
)

-- how a list grew
abbrev Grows : List (List ℕ) → List (List ℕ) → Type 0
Grows requests after = (more : List (List ℕ)) × (after ≡ requests ++ more)

module _ (meaning : Meaning) where
  -- the outputs of all requests, from those of the first ones, a batch and more
  outputs-parts : (earlier members more : List (List ℕ)) → outputs_from meaning meaning.first ((earlier ++ members) ++ more) ≡ outputs_from
      meaning meaning.first earlier ++ (outputs_from meaning (state_after meaning earlier) members ++ outputs_from meaning
      (state_after meaning (earlier ++ members)) more)
  outputs-parts earlier members more =
      outputs_from-append meaning meaning.first (earlier ++ members) more ∙ ap (λ (l : List (List ℕ)). l ++ outputs_from meaning
      (state_after meaning (earlier ++ members)) more) (outputs_from-append meaning meaning.first earlier members)
      ∙ append_assoc (outputs_from meaning meaning.first earlier) (outputs_from meaning (state_after meaning earlier) members)
      (outputs_from meaning (state_after meaning (earlier ++ members)) more)

  batch-said : (earlier : List (List ℕ)) (batch : Batch) (before : ℕ) (outputs between more after : List (List ℕ))
      → IsTold meaning earlier batch before outputs between → after ≡ between ++ more
      → AllByRecursion (WasSaid (outputs_from meaning meaning.first after)) (tellings_from before outputs)
  batch-said earlier batch before outputs between more after told is =
      let members = members_of batch in let front = outputs_from meaning meaning.first earlier in
      let rest = outputs_from meaning (state_after meaning (earlier ++ members)) more in
      let all : outputs_from meaning meaning.first after ≡ front ++ (outputs ++ rest) = ap (λ (l : List (List ℕ)). outputs_from meaning
      meaning.first l) (is ∙ ap (λ (l : List (List ℕ)). l ++ more) told.grown) ∙ outputs-parts earlier members more
      ∙ ap (λ (l : List (List ℕ)). front ++ (l ++ rest)) (sym told.said) in
      let at : before ≡ length front = told.counted ∙ sym (length-outputs_from meaning meaning.first earlier) in
      tellings-inside (outputs_from meaning meaning.first after) outputs rest before (ap (λ (l : List (List ℕ)). drop before l) all
      ∙ ap (λ n. drop n (front ++ (outputs ++ rest))) at ∙ drop-length front (outputs ++ rest))

  run-grows : (requests : List (List ℕ)) (es : List events.Event) (replies : List Reply) (after : List (List ℕ))
      → IsEventRun meaning requests es replies after → Grows requests after
  run-grows requests [] [] after r = ([], r ∙ sym (append-nil requests))
  run-grows requests (event ∷ es) (reply ∷ replies) after r =
      let one = step-grows meaning requests event reply r.0 r.1 in let two = run-grows r.0 es replies after r.2 in
      let more = added event reply in
      (more ++ two.0, two.1 ∙ ap (λ (l : List (List ℕ)). l ++ two.0) one ∙ append_assoc requests more two.0)
  run-grows requests _ _ after r = absurd r

-- what a step tells was said, also once more requests were run
step-tells : (meaning : Meaning) (requests : List (List ℕ)) (event : events.Event) (reply : Reply) (between more after : List (List ℕ))
    → IsRunStep meaning requests event reply between → after ≡ between ++ more
    → AllByRecursion (WasSaid (outputs_from meaning meaning.first after)) (tellings_of reply)
step-tells meaning requests (events.Ask meddles stop offer batch) (Told false before outputs) between more after s is =
    batch-said meaning requests batch before outputs between more after s is
step-tells meaning requests (events.Ask meddles stop offer batch) (Told true before outputs) between more after s is =
    batch-said meaning s.0 batch before outputs requests more after s.1 (is ∙ ap (λ (l : List (List ℕ)). l ++ more) s.2)
step-tells meaning requests _ (Told again before said) between more after s is = absurd s
step-tells meaning requests _ _ between more after s is = tt

run-tells : (meaning : Meaning) (requests : List (List ℕ)) (es : List events.Event) (replies : List Reply) (after : List (List ℕ))
    → IsEventRun meaning requests es replies after → AllByRecursion (WasSaid (outputs_from meaning meaning.first after))
    (tellings_in replies)
run-tells meaning requests [] [] after r = tt
run-tells meaning requests (event ∷ es) (reply ∷ replies) after r =
    let g = run-grows meaning r.0 es replies after r.2 in
    all-append (WasSaid (outputs_from meaning meaning.first after)) (tellings_of reply) (tellings_in replies)
    (step-tells meaning requests event reply r.0 g.0 after r.1 g.1) (run-tells meaning r.0 es replies after r.2)
run-tells meaning requests _ _ after r = absurd r

pub tells-said : TellsWhatWasSaid
tells-said meaning es replies requests r = run-tells meaning [] es replies requests r

-- Runs keep the promises of their modules.

pub promises-kept : RunsKeepPromises
promises-kept it events replies requests runs =
    (any_is_listed it).keeps requests (tellings_in replies) (tells-said (meaning_of it) events replies requests runs)
