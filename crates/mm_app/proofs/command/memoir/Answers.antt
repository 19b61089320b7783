use Rattle.mm_app.proofs.Below.{◌≡◌, ◌∙◌, ℕ, List, Option, ap, map, refl, subst, inr, Result, Err, CommandLine, Replay, Slots, Transfer}
use Rattle.mm_app.proofs.Below.{one_command, BlamesSource, DoesOrLacks, Outside, outside, Status, Memory, StopsAs}
use Rattle.mm_words.specs.declared.fault.WordsFault.{WordsFault}
use Rattle.mm_words.specs.declared.fault.WordsFault.TheVariants as words
use Rattle.mm_app.specs.StatusFacts.{words_status, CantRead, FindsBasic, NeedsInstance, RunsShort, StartsOne}
use Rattle.mm_words.specs.Commands.{SpellsCommand}
use Rattle.mm_app.proofs.Below.{Bulk, Checkpoint, Run}
use Rattle.mm_app.proofs.Blame.{Blamed, Frames, blamed, output_blamed, never_usage}
use Rattle.mm_app.proofs.Completing.{may_be_done}
use Rattle.mm_app.proofs.Holding.{Holding, spelled, spelled_where, unheld, unspelled, unspelled_as, unspelled_at, unspelled_where}
use Rattle.mm_app.proofs.HoldingStart.{holding, much, headline_of, interleaved_by, moved_by}
use Rattle.mm_status.specs.declared.status.Status.TheVariants.{Already, Blank, Cell, Kind, Lost, Refused, Short}
use Rattle.mm_seal.specs.Cell.{blank_cell}
use Rattle.std.specs.Prelude.{◌≢◌}
use Rattle.mm_app.proofs.command.memoir.Given.{Over}
use Rattle.mm_app.proofs.command.memoir.Goals.{After-done, After-stopped}
use Rattle.mm_app.proofs.command.memoir.Goals as goal

-- what the objects told before the command, and after it
abbrev told_before : (g : Over) → After-done g → Outside
told_before g c =
    outside (g.P.Device.standing c.args.platform.now) (g.T.Store.kept c.args.store.now) (g.S.Source.left c.args.input.now)
    (g.S.Source.faults c.args.input.now) (g.E.Source.left c.args.entropy.now) (g.E.Source.faults c.args.entropy.now)
    (g.K.Sink.received c.args.out.now) (g.K.Sink.faults c.args.out.now)

abbrev told_after : (g : Over) → After-done g → Outside
told_after g c =
    outside (g.P.Device.standing c.done.new.platform) (g.T.Store.kept c.done.new.store) (g.S.Source.left c.done.new.input)
    (g.S.Source.faults c.done.new.input) (g.E.Source.left c.done.new.entropy) (g.E.Source.faults c.done.new.entropy)
    (g.K.Sink.received c.done.new.out) (g.K.Sink.faults c.done.new.out)

-- what the command did that these words spell
did : (g : Over) (c : After-done g) (command : CommandLine) → SpellsCommand command (map (λ s. s.now) c.args.words.now)
    → DoesOrLacks command (told_before g c) (told_after g c) c.done.result
did g c command spells =
    subst (λ (it : CommandLine). DoesOrLacks it (told_before g c) (told_after g c) c.done.result)
    (one_command _ c.in-Ok.command command c.in-Ok.ensures.ok spells) c.done.ensures.does

-- whom its status blames
blames : (g : Over) (c : After-done g) → Blamed c.in-Ok.command (told_before g c) (told_after g c) c.done.result
blames g c =
    let frames : Frames c.in-Ok.command (told_before g c) (told_after g c) = record {
      standing = λ unused. ap (λ p. g.P.Device.standing p) (c.done.ensures.platform unused);
      kept = λ unused. ap (λ t. g.T.Store.kept t) (c.done.ensures.store unused);
      reads = λ unused. ap (λ i. g.S.Source.faults i) (c.done.ensures.input unused);
    } in
    blamed c.in-Ok.command (told_before g c) (told_after g c) c.done.result frames c.done.ensures.does

pub returns-in-Ok-clause-host : goal.returns-in-Ok-clause-host
returns-in-Ok-clause-host g c command spells can =
    let it = (goal.at.returns-in-Ok-clause-host g c).After-done in
    may_be_done command (told_before g it) (told_after g it) c.done.result can (did g it command spells)

pub returns-in-Ok-clause-headline : goal.returns-in-Ok-clause-headline
returns-in-Ok-clause-headline g c spells =
    let it = (goal.at.returns-in-Ok-clause-headline g c).After-done in
    headline_of (told_before g it) (told_after g it) c.done.result (did g it Replay spells)

pub returns-in-Ok-clause-interleaved : goal.returns-in-Ok-clause-interleaved
returns-in-Ok-clause-interleaved g c spells =
    let it = (goal.at.returns-in-Ok-clause-interleaved g c).After-done in
    interleaved_by (told_before g it) (told_after g it) c.done.result (did g it Slots spells)

pub returns-in-Ok-clause-one_transfer : goal.returns-in-Ok-clause-one_transfer
returns-in-Ok-clause-one_transfer g c spells =
    let it = (goal.at.returns-in-Ok-clause-one_transfer g c).After-done in
    moved_by (told_before g it) (told_after g it) c.done.result (did g it Transfer spells)

pub returns-in-Ok-clause-usage : goal.returns-in-Ok-clause-usage
returns-in-Ok-clause-usage g c is command spells =
    let it = (goal.at.returns-in-Ok-clause-usage g c).After-done in
    never_usage c.in-Ok.command (told_before g it) (told_after g it) c.done.result c.done.ensures.does is

pub returns-in-Ok-clause-device : goal.returns-in-Ok-clause-device
returns-in-Ok-clause-device g c = (blames g (goal.at.returns-in-Ok-clause-device g c).After-done).platform

pub returns-in-Ok-clause-disk : goal.returns-in-Ok-clause-disk
returns-in-Ok-clause-disk g c = (blames g (goal.at.returns-in-Ok-clause-disk g c).After-done).store

pub returns-in-Ok-clause-source : goal.returns-in-Ok-clause-source
returns-in-Ok-clause-source g c command spells =
    let it = (goal.at.returns-in-Ok-clause-source g c).After-done in
    subst (λ (said : CommandLine). BlamesSource said (told_before g it) (told_after g it) c.done.result)
    (one_command _ c.in-Ok.command command c.in-Ok.ensures.ok spells) (blames g it).source

pub returns-in-Ok-clause-wrote : goal.returns-in-Ok-clause-wrote
returns-in-Ok-clause-wrote g c =
    let it = (goal.at.returns-in-Ok-clause-wrote g c).After-done in
    output_blamed c.in-Ok.command (told_before g it) (told_after g it) c.done.result c.done.ensures.does

-- what its status tells of what a device held
holds : (g : Over) (c : After-done g) → Holding c.in-Ok.command (told_before g c) (told_after g c) c.done.result
holds g c = holding c.in-Ok.command (told_before g c) (told_after g c) c.done.result c.done.ensures.does

abbrev words_of : (g : Over) → After-done g → List (List ℕ)
words_of g c = map (λ s. s.now) c.args.words.now

pub returns-in-Ok-clause-blank : goal.returns-in-Ok-clause-blank
returns-in-Ok-clause-blank g c cell visible =
    let it = (goal.at.returns-in-Ok-clause-blank g c).After-done in
    spelled (words_of g it) it.in-Ok.command it.in-Ok.ensures.ok {Is = λ command. NeedsInstance command × (cell ≡ blank_cell)}
    ((holds g it).blank cell visible)

pub returns-in-Ok-clause-already : goal.returns-in-Ok-clause-already
returns-in-Ok-clause-already g c cell told =
    let it = (goal.at.returns-in-Ok-clause-already g c).After-done in
    spelled (words_of g it) it.in-Ok.command it.in-Ok.ensures.ok {Is = λ command. StartsOne command × (cell ≢ blank_cell)}
    ((holds g it).already cell told)

pub returns-in-Ok-clause-cell : goal.returns-in-Ok-clause-cell
returns-in-Ok-clause-cell g c cell visible =
    let it = (goal.at.returns-in-Ok-clause-cell g c).After-done in
    spelled (words_of g it) it.in-Ok.command it.in-Ok.ensures.ok {Is = CantRead cell} ((holds g it).unread cell visible)

pub returns-in-Ok-clause-kind : goal.returns-in-Ok-clause-kind
returns-in-Ok-clause-kind g c cell told =
    let it = (goal.at.returns-in-Ok-clause-kind g c).After-done in
    spelled (words_of g it) it.in-Ok.command it.in-Ok.ensures.ok {Is = FindsBasic cell} ((holds g it).kind cell told)

pub returns-in-Ok-clause-short : goal.returns-in-Ok-clause-short
returns-in-Ok-clause-short g c cell secrets got told left =
    let it = (goal.at.returns-in-Ok-clause-short g c).After-done in
    spelled_where (words_of g it) it.in-Ok.command it.in-Ok.ensures.ok {Is = RunsShort cell secrets}
    ((holds g it).short cell secrets got told left)

-- the command that was done is the one that these words spell
said : (g : Over) (c : After-done g) (command : CommandLine) → SpellsCommand command (words_of g c) → c.in-Ok.command ≡ command
said g c command spells = one_command (words_of g c) c.in-Ok.command command c.in-Ok.ensures.ok spells

pub returns-in-Ok-clause-lost : goal.returns-in-Ok-clause-lost
returns-in-Ok-clause-lost g c cell visible =
    let it = (goal.at.returns-in-Ok-clause-lost g c).After-done in
    let l = (holds g it).lost cell visible in (
      λ is. let h = l.only is in ((it.in-Ok.command, h.0, it.in-Ok.ensures.ok), h.1),
      λ spells. l.closing (said g it Checkpoint spells),
      λ spells. l.running (said g it Run spells),
    )

pub returns-in-Ok-clause-refused : goal.returns-in-Ok-clause-refused
returns-in-Ok-clause-refused g c cell why visible =
    let it = (goal.at.returns-in-Ok-clause-refused g c).After-done in
    let r = (holds g it).refused cell why visible in (
      λ is.
          let h = r.only is in (
            subst (λ (command : CommandLine). SpellsCommand command (words_of g it)) h.0 it.in-Ok.ensures.ok,
            h.1,
            h.2,
          ),
      λ spells. r.running (said g it Run spells),
    )

pub returns-in-Ok-clause-much : goal.returns-in-Ok-clause-much
returns-in-Ok-clause-much g c it spells =
    let here = (goal.at.returns-in-Ok-clause-much g c).After-done in
    much it (told_before g here) (told_after g here) c.done.result (did g here (Bulk it) spells)

-- words that spell a command, but memory was wanting
is_memory : (fault : WordsFault) → ((let r : Result CommandLine WordsFault = Err fault in r ≡ Err words.Usage) → ⊥)
    → words_status fault ≡ Memory
is_memory words.Usage other = absurd (other refl)
is_memory words.Memory other = refl

-- what the objects tell, where the output alone was used
abbrev only_out : (g : Over) → After-stopped g → Option (List ℕ) → ℕ → Outside
only_out g c received writes =
    outside (g.P.Device.standing c.args.platform.now) (g.T.Store.kept c.args.store.now) (g.S.Source.left c.args.input.now)
    (g.S.Source.faults c.args.input.now) (g.E.Source.left c.args.entropy.now) (g.E.Source.faults c.args.entropy.now) received writes

lacked : (g : Over) (c : After-stopped g) (command : CommandLine) → SpellsCommand command (map (λ s. s.now) c.args.words.now)
    → DoesOrLacks command (only_out g c (g.K.Sink.received c.args.out.now) (g.K.Sink.faults c.args.out.now))
    (only_out g c (g.K.Sink.received c.stopped.new.out) (g.K.Sink.faults c.stopped.new.out)) c.stopped.result
lacked g c command spells = inr (record {
  still = record { standing = refl; kept = refl; left = refl; reads = refl; entropy = refl; takes = refl };
  stops = subst (λ (s : Status). StopsAs s (g.K.Sink.received c.args.out.now) (g.K.Sink.received c.stopped.new.out)
      (g.K.Sink.faults c.args.out.now) (g.K.Sink.faults c.stopped.new.out) c.stopped.result)
      (c.of_words.ensures ∙ is_memory c.in-Err.fault (λ is. c.in-Err.ensures.usage is command spells)) c.stopped.ensures.told;
})

pub returns-in-Err-clause-does : goal.returns-in-Err-clause-does
returns-in-Err-clause-does g c command spells = lacked g (goal.at.returns-in-Err-clause-does g c).After-stopped command spells

pub returns-in-Err-clause-headline : goal.returns-in-Err-clause-headline
returns-in-Err-clause-headline g c spells =
    headline_of _ _ _ (lacked g (goal.at.returns-in-Err-clause-headline g c).After-stopped Replay spells)

pub returns-in-Err-clause-interleaved : goal.returns-in-Err-clause-interleaved
returns-in-Err-clause-interleaved g c spells =
    interleaved_by _ _ _ (lacked g (goal.at.returns-in-Err-clause-interleaved g c).After-stopped Slots spells)

pub returns-in-Err-clause-one_transfer : goal.returns-in-Err-clause-one_transfer
returns-in-Err-clause-one_transfer g c spells =
    moved_by _ _ _ (lacked g (goal.at.returns-in-Err-clause-one_transfer g c).After-stopped Transfer spells)

-- no status of words tells of what a device held
stopped_as : (g : Over) (c : After-stopped g) → c.stopped.result ≡ words_status c.in-Err.fault
stopped_as g c = c.stopped.ensures.status ∙ c.of_words.ensures

pub returns-in-Err-clause-blank : goal.returns-in-Err-clause-blank
returns-in-Err-clause-blank g c cell visible =
    let it = (goal.at.returns-in-Err-clause-blank g c).After-stopped in
    unspelled _ it.in-Err.fault it.stopped.result it.in-Err.ensures.usage (stopped_as g it)
    {Is = λ command. NeedsInstance command × (cell ≡ blank_cell)} Blank refl

pub returns-in-Err-clause-already : goal.returns-in-Err-clause-already
returns-in-Err-clause-already g c cell visible =
    let it = (goal.at.returns-in-Err-clause-already g c).After-stopped in
    unspelled _ it.in-Err.fault it.stopped.result it.in-Err.ensures.usage (stopped_as g it)
    {Is = λ command. StartsOne command × (cell ≢ blank_cell)} Already refl

pub returns-in-Err-clause-cell : goal.returns-in-Err-clause-cell
returns-in-Err-clause-cell g c cell visible =
    let it = (goal.at.returns-in-Err-clause-cell g c).After-stopped in
    unspelled _ it.in-Err.fault it.stopped.result it.in-Err.ensures.usage (stopped_as g it) {Is = CantRead cell} Cell refl

pub returns-in-Err-clause-kind : goal.returns-in-Err-clause-kind
returns-in-Err-clause-kind g c cell visible =
    let it = (goal.at.returns-in-Err-clause-kind g c).After-stopped in
    unspelled _ it.in-Err.fault it.stopped.result it.in-Err.ensures.usage (stopped_as g it) {Is = FindsBasic cell} Kind refl

pub returns-in-Err-clause-short : goal.returns-in-Err-clause-short
returns-in-Err-clause-short g c cell secrets got visible left =
    let it = (goal.at.returns-in-Err-clause-short g c).After-stopped in
    unspelled_where _ it.in-Err.fault it.stopped.result it.in-Err.ensures.usage (stopped_as g it)
    {Is = RunsShort cell secrets} (Short got) refl

pub returns-in-Err-clause-lost : goal.returns-in-Err-clause-lost
returns-in-Err-clause-lost g c cell visible =
    let it = (goal.at.returns-in-Err-clause-lost g c).After-stopped in (
      λ is. absurd (unheld _ it.in-Err.fault it.stopped.result it.in-Err.ensures.usage (stopped_as g it) Lost refl is),
      λ spells. unspelled_as _ it.in-Err.fault it.stopped.result it.in-Err.ensures.usage (stopped_as g it) Checkpoint Lost refl spells,
      λ spells slots waiting input slots_told w left.
          unspelled_at _ it.in-Err.fault it.stopped.result it.in-Err.ensures.usage (stopped_as g it) Run Lost refl spells,
    )

pub returns-in-Err-clause-refused : goal.returns-in-Err-clause-refused
returns-in-Err-clause-refused g c cell why visible =
    let it = (goal.at.returns-in-Err-clause-refused g c).After-stopped in (
      λ is. absurd (unheld _ it.in-Err.fault it.stopped.result it.in-Err.ensures.usage (stopped_as g it) (Refused why) refl is),
      λ spells slots waiting input slots_told w left.
          unspelled_at _ it.in-Err.fault it.stopped.result it.in-Err.ensures.usage (stopped_as g it) Run (Refused why) refl spells,
    )

pub returns-in-Err-clause-much : goal.returns-in-Err-clause-much
returns-in-Err-clause-much g c it spells =
    much it _ _ _ (lacked g (goal.at.returns-in-Err-clause-much g c).After-stopped (Bulk it) spells)
