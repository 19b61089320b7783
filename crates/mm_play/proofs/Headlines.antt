-- The headline of a command over events, from the run of its lines.
use Rattle.mm_play.proofs.Below.{◌≡◌, ◌∙◌, ◌+◌, ◌≤◌, ◌<◌, ℕ, List, [], ◌∷◌, ◌++◌, length, map, Result, Ok, Err, Option, None, Some, refl}
use Rattle.mm_play.proofs.Below.{true, false, sym, ap, subst, append-nil, append_assoc, arith, inl, inr, ◌⊎◌, AllByRecursion, IsUnbroken, lines_of}
use Rattle.mm_play.proofs.Below.{tail_of, joined_lines, ReplayFault, Memory, ReadFault, WriteFault, BadLine, LineLong, TooMuch}
use Rattle.mm_play.proofs.Below.{longest_line, LineRefusal, Bad, Much, play_outcome, outcome_of_lines, outcome_of_input, HoldsOfWhole}
use Rattle.mm_play.proofs.Below.{AnswerFits, IsFrontOf}
use Rattle.mm_base.specs.InputLaws.{joined-append}
use Rattle.mm_play.specs.Headline.{same_answer, no_answer, HeadingStep, More, Begins, EventPlayer, HeadingLeads, IsNextLine, IsOver, IsLeft}
use Rattle.mm_play.specs.Headline.{TextWentOut, AreAnswered}
use Rattle.mm_play.specs.Stage.{EventStage, EventSteps, HeadStage, play_state, LineStage, AtHeading, InEvents, head_answer, line_answer}
use Rattle.mm_play.specs.Stage.{closing_lines, heading_step_by, StageShows}
use Rattle.mm_play.proofs.Eventing.{AreShort, AnsweredEvents, IsOverIn, is_short, answered_events, much_over, bad_none}
use Rattle.mm_play.proofs.Telling.{ComesTo, comes, comes_so, bad_at, whole_input, unbroken_lines, unbroken_tail}
use Rattle.mm_play.proofs.Runs.{first_answered, FirstAnswered, none_answered}

lead_more : {G H : Type 0} (head : G → List ℕ → Option (HeadingStep G H)) (at next : G) (line : List ℕ) (lines : List (List ℕ))
    (to : HeadingStep G H)
    → head at line ≡ Some (More next) → HeadingLeads head next lines to → HeadingLeads head at (line ∷ lines) to
lead_more head at next line [] to is lead = is ∙ ap Some (sym lead)
lead_more head at next line (more ∷ lines) to is lead = (next, is, lead)

both_short : (lines : List (List ℕ)) → AllByRecursion IsUnbroken lines → AreShort lines
    → AllByRecursion (λ line. IsUnbroken line × (length line ≤ longest_line)) lines
both_short [] unbroken short = tt
both_short (line ∷ lines) unbroken short = ((unbroken.0, short.0), both_short lines unbroken.1 short.1)

front_unbroken : (done rest : List (List ℕ)) → AllByRecursion IsUnbroken (done ++ rest)
    → AllByRecursion IsUnbroken done × AllByRecursion IsUnbroken rest
front_unbroken [] rest each = (tt, each)
front_unbroken (line ∷ done) rest each = let more = front_unbroken done rest each.1 in ((each.0, more.0), more.1)

short_append : (front rest : List (List ℕ)) → AreShort front → AreShort rest → AreShort (front ++ rest)
short_append [] rest a b = b
short_append (line ∷ front) rest a b = (a.0, short_append front rest a.1 b)

-- a line that comes first of those that are left
next_line : (line : List ℕ) (rest : List (List ℕ)) (tail : List ℕ) → IsUnbroken line
    → IsNextLine line (joined_lines (line ∷ rest) ++ tail)
next_line line rest tail unbroken = (unbroken, joined_lines rest ++ tail, append_assoc line (10 ∷ joined_lines rest) tail)

-- the bytes behind the first lines
parts : (taken : List ℕ) (done rest : List (List ℕ)) → lines_of taken ≡ done ++ rest
    → taken ≡ joined_lines done ++ (joined_lines rest ++ tail_of taken)
parts taken done rest split =
    whole_input taken ∙ ap (λ (ls : List (List ℕ)). joined_lines ls ++ tail_of taken) split
    ∙ ap (λ (l : List ℕ). l ++ tail_of taken) (joined-append done rest) ∙ append_assoc (joined_lines done)
    (joined_lines rest) (tail_of taken)

-- the line of this number is too long, or the bytes behind the last
abbrev IsLongAt : ℕ → ℕ → List ℕ → Type 0
IsLongAt number answered after =
    (number ≡ answered + 1) × (long : List ℕ) × (more : List ℕ) × (after ≡ long ++ more) × IsUnbroken long × (longest_line < length long)

long_line : (number answered : ℕ) (line : List ℕ) (rest : List (List ℕ)) (tail : List ℕ) → number ≡ 1 + answered → IsUnbroken line
    → longest_line < length line → IsLongAt number answered (joined_lines (line ∷ rest) ++ tail)
long_line number answered line rest tail is unbroken long =
    (omega (arith, is), line, 10 ∷ (joined_lines rest ++ tail), append_assoc line (10 ∷ joined_lines rest) tail, unbroken, long)

long_tail : (number answered : ℕ) (tail : List ℕ) → number ≡ 1 + answered → IsUnbroken tail → longest_line < length tail
    → IsLongAt number answered tail
long_tail number answered tail is unbroken long = (omega (arith, is), tail, [], sym (append-nil tail), unbroken, long)

module _ {G H E S R : Type 0} (p : EventPlayer G H E S) (heads : HeadStage G R) (s : EventStage R) (steps : EventSteps E R) (begun : H → R)
    (shown : H → List E → S) (shows : StageShows p heads s steps begun shown) where
  abbrev P : Type 0
  P = LineStage G R

  abbrev answer : P → List ℕ → Result (List ℕ × P) LineRefusal
  answer = line_answer heads s

  abbrev closing : P → Option (List ℕ)
  closing = closing_lines heads s

  -- All lines were answered, and are some of a heading; or a heading, and events behind it.
  record StillHeading (at : G) (lines : List (List ℕ)) (written : List ℕ) (last : P) : Type 0 where
    to : G
    leads : HeadingLeads p.head at lines (More to)
    stands : last ≡ AtHeading to
    silent : written ≡ []
    short : AreShort lines

  record BegunEvents (at : G) (lines : List (List ℕ)) (written : List ℕ) (last : P) : Type 0 where
    front : List (List ℕ)
    others : List (List ℕ)
    header : H
    split : lines ≡ front ++ others
    leads : HeadingLeads p.head at front (Begins header)
    short : AreShort front
    answers : AnsweredEvents heads s steps shows.takes (play_state (begun header) 0) others written last

  abbrev Opened : G → List (List ℕ) → List ℕ → P → Type 0
  Opened at lines written last = StillHeading at lines written last ⊎ BegunEvents at lines written last

  opened_on : (at next : G) (line : List ℕ) (lines : List (List ℕ)) (written : List ℕ) (last : P) → p.head at line ≡ Some (More next)
      → length line ≤ longest_line → Opened next lines written last → Opened at (line ∷ lines) written last
  opened_on at next line lines written last is short (inl h) = inl (record {
    to = h.to;
    leads = lead_more p.head at next line lines (More h.to) is h.leads;
    stands = h.stands;
    silent = h.silent;
    short = (short, h.short);
  })
  opened_on at next line lines written last is short (inr e) = inr (record {
    front = line ∷ e.front;
    others = e.others;
    header = e.header;
    split = ap (λ (ls : List (List ℕ)). line ∷ ls) e.split;
    leads = lead_more p.head at next line e.front (Begins e.header) is e.leads;
    short = (short, e.short);
    answers = e.answers;
  })

  opened : (lines : List (List ℕ)) (number : ℕ) (at : G) (written : List ℕ) (last : P)
      → outcome_of_lines answer number (AtHeading at) lines ≡ play_outcome written (Ok last) → Opened at lines written last
  opened [] number at written last h =
      let none = none_answered answer number (AtHeading at) written last h in
      inl (record { to = at; leads = refl; stands = none.1; silent = none.0; short = tt })
  opened (line ∷ lines) number at written last h =
      let f = first_answered answer number (AtHeading at) line lines written last h in
      by (λ to ran. opened lines (number + 1) to written last ran) f (p.head at line) refl
      (ap (λ (x : Option (HeadingStep G R)). head_answer x) (sym (shows.leads at line)) ∙ f.replied)
    where
      ran_from : (f : FirstAnswered answer number (AtHeading at) line lines written last) (to : P)
          → (let x : List ℕ × P = ([], to) in x ≡ f.reply) → outcome_of_lines answer (number + 1) to lines ≡ play_outcome written (Ok last)
      ran_from f to said =
          ap (λ (x : List ℕ × P). outcome_of_lines answer (number + 1) x.1 lines) said ∙ f.ran
          ∙ ap (λ (w : List ℕ). play_outcome w (Ok last)) (ap (λ (x : List ℕ × P). x.0 ++ f.more) said ∙ sym f.whole)

      by : ((to : G) → outcome_of_lines answer (number + 1) (AtHeading to) lines ≡ play_outcome written (Ok last)
          → Opened to lines written last)
          → (f : FirstAnswered answer number (AtHeading at) line lines written last) (found : Option (HeadingStep G H))
          → p.head at line ≡ found
          → head_answer (heading_step_by begun found) ≡ Ok f.reply → Opened at (line ∷ lines) written last
      by on f None is h = absurd (no_answer Bad f.reply.0 f.reply.1 h)
      by on f (Some (More next)) is h =
          opened_on at next line lines written last is (is_short (length line) f.short)
          (on next (ran_from f (AtHeading next) (same_answer _ f.reply h)))
      by on f (Some (Begins header)) is h = inr (record {
        front = line ∷ [];
        others = lines;
        header = header;
        split = refl;
        leads = is;
        short = (is_short (length line) f.short, tt);
        answers = answered_events heads s steps shows.takes lines (number + 1) (play_state (begun header) 0) written last
            (ran_from f (InEvents (play_state (begun header) 0)) (same_answer _ f.reply h));
      })

  all_short : (at : G) (lines : List (List ℕ)) (written : List ℕ) (last : P) → Opened at lines written last → AreShort lines
  all_short at lines written last (inl h) = h.short
  all_short at lines written last (inr e) = subst AreShort (sym e.split) (short_append e.front e.others e.short e.answers.short)

  module _ (Holds : H → List E → (List E → S) → Type 0) (holds : (header : H) (events : List E) → Holds header events (shown header)) where
    -- one too many behind the first events, in numbers
    over_shown : (header : H) (before : List (List ℕ)) (events : List E) (line : List ℕ)
        → IsOver before (p.kept (shown header events)) line
        → IsOverIn heads s steps shows.takes (play_state (begun header) 0) before events line
    over_shown header before events line over = elim over [
      | inl many ↦ inl (omega (arith, many))
      | inr large ↦ inr (omega (arith, large, shows.kept header events))
    ]

    shown_over : (header : H) (before : List (List ℕ)) (events : List E) (line : List ℕ)
        → IsOverIn heads s steps shows.takes (play_state (begun header) 0) before events line
        → IsOver before (p.kept (shown header events)) line
    shown_over header before events line over = elim over [
      | inl many ↦ inl (omega (arith, many, shows.first header))
      | inr large ↦ inr (omega (arith, large, shows.kept header events))
    ]

    abbrev begun_so : (lines : List (List ℕ)) (written : List ℕ) (last : P) → BegunEvents p.start lines written last
        → AreAnswered p Holds lines
    begun_so lines written last e = record {
      heads = e.front;
      others = e.others;
      header = e.header;
      events = e.answers.events;
      shown = shown e.header;
      split = e.split;
      headed = e.leads;
      read = ap (λ (f : List ℕ → Option E). map f e.others) (sym (shows.reads e.header)) ∙ e.answers.read;
      within = λ before line after front split read over.
          e.answers.within before line after front split (ap (λ (f : List ℕ → Option E). map f before) (shows.reads e.header) ∙ read)
          (over_shown e.header before front line over);
      holds = holds e.header e.answers.events;
    }

    text_is : (lines : List (List ℕ)) (written : List ℕ) (last : P) (e : BegunEvents p.start lines written last)
        → written ≡ p.text e.answers.events (shown e.header e.answers.events)
    text_is lines written last e = e.answers.sent ∙ sym (shows.text e.header e.answers.events)

    closing_is : (lines : List (List ℕ)) (written : List ℕ) (last : P) (e : BegunEvents p.start lines written last)
        → closing last ≡ Some (p.last (shown e.header e.answers.events))
    closing_is lines written last e = ap closing e.answers.stands ∙ ap Some (sym (shows.last e.header e.answers.events))

    -- how it ended, where these lines were answered
    module _ (left : Option (List ℕ)) (after stop sent : List ℕ) {T : Type 0} (result : Result T ReplayFault) (done : List (List ℕ)) where
      abbrev Continues : Type 0
      Continues = ((at : G) × HeadingLeads p.head p.start done (More at)
          × IsLeft left after (length done) false (λ line. p.head at line ≡ None) (λ line. ⊥) result
          × TextWentOut after [] None stop sent result)
          ⊎ ((it : AreAnswered p Holds done)
          × IsLeft left after (length done) true (λ line. p.event_in it.header line ≡ None)
          (λ line. IsOver it.others (p.kept (it.shown it.events)) line) result
          × TextWentOut after (p.text it.events (it.shown it.events)) (Some (p.last (it.shown it.events))) stop sent result)

      -- by what holds of each
      continues : (written : List ℕ) (last : P) → Opened p.start done written last
          → ((h : StillHeading p.start done written last)
          → IsLeft left after (length done) false (λ line. p.head h.to line ≡ None) (λ line. ⊥) result)
          → ((e : BegunEvents p.start done written last)
          → IsLeft left after (length done) true (λ line. p.event_in e.header line ≡ None)
          (λ line. IsOver e.others (p.kept (shown e.header e.answers.events)) line) result)
          → ((text : List ℕ) (end : Option (List ℕ)) → written ≡ text → closing last ≡ end → TextWentOut after text end stop sent result)
          → Continues
      continues written last (inl h) at_head at_events went =
          inl (h.to, h.leads, at_head h, went [] None h.silent (ap closing h.stands))
      continues written last (inr e) at_head at_events went =
          inr (
            begun_so done written last e,
            at_events e,
            went (p.text e.answers.events (shown e.header e.answers.events))
                (Some (p.last (shown e.header e.answers.events))) (text_is done written last e) (closing_is done written last e),
          )

    -- what was answered of the bytes taken
    abbrev pub ToldOf : {T : Type 0} → Option (List ℕ) → List ℕ → List ℕ → List ℕ → Result T ReplayFault → Type 0
    ToldOf left taken stop sent result = (done : List (List ℕ)) × (after : List ℕ) × (taken ≡ joined_lines done ++ after)
        × AllByRecursion (λ line. IsUnbroken line × (length line ≤ longest_line)) done × Continues left after stop sent result done

    -- a line of the heading is refused as none, and never as one too many
    head_bad : (found : Option (HeadingStep G H)) → (let x : Result (List ℕ × P) LineRefusal = head_answer (heading_step_by begun found) in
        x ≡ Err Bad)
        → found ≡ None
    head_bad None h = refl
    head_bad (Some (More to)) h = cc
    head_bad (Some (Begins header)) h = cc

    head_much : (found : Option (HeadingStep G H)) → (let x : Result (List ℕ × P) LineRefusal = head_answer (heading_step_by begun found) in
        x ≡ Err Much)
        → ⊥
    head_much None h = cc
    head_much (Some (More to)) h = cc
    head_much (Some (Begins header)) h = cc

    module _ (left : Option (List ℕ)) (taken sent : List ℕ) (T : Type 0) (result : Result T ReplayFault) where
      abbrev first : P
      first = AtHeading p.start

      -- these first lines of what was taken were answered
      told_at : (done rest : List (List ℕ)) (written : List ℕ) (next : P) → lines_of taken ≡ done ++ rest
          → outcome_of_lines answer 1 first done ≡ play_outcome written (Ok next)
          → ((h : StillHeading p.start done written next) → AllByRecursion IsUnbroken rest
          → IsLeft left (joined_lines rest ++ tail_of taken) (length done) false (λ line. p.head h.to line ≡ None) (λ line. ⊥) result)
          → ((e : BegunEvents p.start done written next) → AllByRecursion IsUnbroken rest
          → IsLeft left (joined_lines rest ++ tail_of taken) (length done) true (λ line. p.event_in e.header line ≡ None)
          (λ line. IsOver e.others (p.kept (shown e.header e.answers.events)) line) result)
          → ((text : List ℕ) (end : Option (List ℕ)) → written ≡ text → closing next ≡ end
          → TextWentOut (joined_lines rest ++ tail_of taken) text end [] sent result)
          → ToldOf left taken [] sent result
      told_at done rest written next split ran at_head at_events went =
          let o = opened done 1 p.start written next ran in
          let u = front_unbroken done rest (subst (AllByRecursion IsUnbroken) split (unbroken_lines taken)) in (
            done,
            joined_lines rest ++ tail_of taken,
            parts taken done rest split,
            both_short done u.0 (all_short p.start done written next o),
            continues left (joined_lines rest ++ tail_of taken) [] sent result done written next o (λ h. at_head h u.1)
                (λ e. at_events e u.1)
                went,
          )

    -- what went out is the text
    all_text : (sent text : List ℕ) → sent ≡ text → (stopped : List ℕ) × IsFrontOf stopped [] × (sent ≡ text ++ stopped)
    all_text sent text is = ([], ([], refl), is ∙ sym (append-nil text))

    whole_lines : (taken : List ℕ) → lines_of taken ≡ lines_of taken ++ []
    whole_lines taken = sym (append-nil (lines_of taken))

    front_text : (sent written text : List ℕ) → written ≡ text → IsFrontOf sent written → IsFrontOf sent text
    front_text sent written text is (rest, so) = (rest, so ∙ is)

    for_these : (left : Option (List ℕ)) (taken : List ℕ) (holds : List ℕ → Type 0) → HoldsOfWhole left taken holds → holds taken
    for_these left taken holds (inl each) = subst holds (append-nil taken) (each [])
    for_these left taken holds (inr ended) = ended.1

    -- by how it ended
    pub tells : {T : Type 0} (next : P) (left : Option (List ℕ)) (taken sent : List ℕ) (result : Result T ReplayFault)
        → AnswerFits (outcome_of_lines answer 1 (AtHeading p.start)) (outcome_of_input answer closing (AtHeading p.start)) next left
        taken sent result
        → ToldOf left taken [] sent result
    tells {T} next left taken sent (Ok r) settled =
        let c = comes_so answer closing (AtHeading p.start) taken sent (Ok next) settled.1 in
        told_at left taken sent T (Ok r) (lines_of taken) [] c.0 next (whole_lines taken) c.3 (λ h u. (settled.0, c.2))
        (λ e u. (settled.0, c.2))
        (λ text end w e. (c.1, sym e ∙ c.4, c.5 ∙ ap (λ (l : List ℕ). l ++ c.1) w))
    tells {T} next left taken sent (Err ReadFault) settled =
        told_at left taken sent T (Err ReadFault) (lines_of taken) [] sent settled.1.0 (whole_lines taken) settled.1.1
        (λ h u. (unbroken_tail taken, settled.0))
        (λ e u. (unbroken_tail taken, settled.0)) (λ text end w e. all_text sent text w)
    tells {T} next left taken sent (Err WriteFault) settled =
        by (outcome_of_input answer closing (AtHeading p.start) taken).written
        (outcome_of_input answer closing (AtHeading p.start) taken).outcome
        (for_these left taken (λ input. IsFrontOf sent (outcome_of_input answer closing (AtHeading p.start) input).written) settled)
        (comes answer closing (AtHeading p.start) taken)
      where
        by : (written : List ℕ) (outcome : Result P ReplayFault) → IsFrontOf sent written
            → ComesTo answer closing (AtHeading p.start) (lines_of taken) (tail_of taken) written outcome
            → ToldOf {T = T} left taken [] sent (Err WriteFault)
        by written (Ok end) front c =
            told_at left taken sent T (Err WriteFault) (lines_of taken) [] c.0 end (whole_lines taken) c.3 (λ h u. tt) (λ e u. tt)
            (λ text last w e. inr (
              c.2,
              c.1,
              sym e ∙ c.4,
              front_text sent written (text ++ c.1)
                  (c.5 ∙ ap (λ (l : List ℕ). l ++ c.1) w) front,
            ))
        by written (Err why) front (inl h) =
            told_at left taken sent T (Err WriteFault) h.done (h.line ∷ h.rest) written h.next h.split h.ran (λ h u. tt) (λ e u. tt)
            (λ text last w e. inl (front_text sent written text w front))
        by written (Err why) front (inr t) =
            told_at left taken sent T (Err WriteFault) (lines_of taken) [] written t.0 (whole_lines taken) t.1 (λ h u. tt) (λ e u. tt)
            (λ text last w e. inl (front_text sent written text w front))
    tells {T} next left taken sent (Err Memory) settled =
        let it = told_at left settled.0 sent T (Err Memory) (lines_of settled.0) [] sent settled.2 (whole_lines settled.0) settled.3
        (λ h u. tt) (λ e u. tt)
        (λ text end w e. all_text sent text w) in (
          it.0,
          it.1 ++ settled.1.0,
          sym settled.1.1 ∙ ap (λ (l : List ℕ). l ++ settled.1.0) it.2 ∙ append_assoc (joined_lines it.0) it.1 settled.1.0,
          it.3,
          it.4,
        )
    tells {T} next left taken sent (Err (BadLine number)) settled =
        elim (bad_at answer closing (AtHeading p.start) left taken sent number settled) [
          | inl h ↦ told_at left taken sent T (Err (BadLine number)) h.done (h.line ∷ h.rest) sent h.next h.split h.ran
              (λ at u. (
                omega (arith, h.stops.0),
                inl (
                  h.line,
                  next_line h.line h.rest (tail_of taken) u.0,
                  head_bad (p.head at.to h.line)
                      (ap (λ (x : Option (HeadingStep G R)). head_answer x) (sym (shows.leads at.to h.line))
                      ∙ ap (λ (x : P). answer x h.line) (sym at.stands) ∙ h.stops.1),
                ),
              )) (λ e u. (
                omega (arith, h.stops.0),
                inl (
                  h.line,
                  next_line h.line h.rest (tail_of taken) u.0,
                  ap (λ (f : List ℕ → Option E). f h.line) (sym (shows.reads e.header))
                      ∙ bad_none heads s steps shows.takes (play_state (begun e.header) 0) e.others sent h.next h.line e.answers h.stops.1,
                ),
              )) (λ text end w e. all_text sent text w)
          | inr t ↦ told_at left taken sent T (Err (BadLine number)) (lines_of taken) [] sent t.1.0 (whole_lines taken) t.1.1
              (λ h u. (omega (arith, t.1.2), inr (t.0, unbroken_tail taken)))
              (λ e u. (
                omega (arith, t.1.2),
                inr (
                  t.0,
                  (
                    unbroken_tail taken,
                    t.1.3 (p.last (shown e.header e.answers.events)) (closing_is (lines_of taken) sent t.1.0 e),
                  ),
                ),
              ))
              (λ text end w e. all_text sent text w)
        ]
    tells {T} next left taken sent (Err (LineLong number)) settled =
        elim (comes_so answer closing (AtHeading p.start) taken sent (Err (LineLong number))
        (for_these left taken (λ input. outcome_of_input answer closing (AtHeading p.start) input ≡ play_outcome sent
        (Err (LineLong number))) settled)) [
          | inl h ↦ told_at left taken sent T (Err (LineLong number)) h.done (h.line ∷ h.rest) sent h.next h.split h.ran
              (λ at u. long_line number (length h.done) h.line h.rest (tail_of taken) h.stops.0 u.0 h.stops.1)
              (λ e u. long_line number (length h.done) h.line h.rest (tail_of taken) h.stops.0 u.0 h.stops.1)
              (λ text end w e. all_text sent text w)
          | inr t ↦ told_at left taken sent T (Err (LineLong number)) (lines_of taken) [] sent t.0 (whole_lines taken) t.1
              (λ h u. long_tail number (length (lines_of taken)) (tail_of taken) t.2.0 (unbroken_tail taken) t.2.1)
              (λ e u. long_tail number (length (lines_of taken)) (tail_of taken) t.2.0 (unbroken_tail taken) t.2.1)
              (λ text end w e. all_text sent text w)
        ]
    tells {T} next left taken sent (Err TooMuch) settled =
        elim (comes_so answer closing (AtHeading p.start) taken sent (Err TooMuch)
        (for_these left taken (λ input. outcome_of_input answer closing (AtHeading p.start) input ≡ play_outcome sent (Err TooMuch))
        settled)) [
          | inl h ↦ told_at left taken sent T (Err TooMuch) h.done (h.line ∷ h.rest) sent h.next h.split h.ran
              (λ at u. absurd (head_much (p.head at.to h.line)
              (ap (λ (x : Option (HeadingStep G R)). head_answer x) (sym (shows.leads at.to h.line))
              ∙ ap (λ (x : P). answer x h.line) (sym at.stands) ∙ h.stops)))
              (λ e u. (
                h.line,
                next_line h.line h.rest (tail_of taken) u.0,
                shown_over e.header e.others e.answers.events h.line
                    (much_over heads s steps shows.takes (play_state (begun e.header) 0) e.others sent h.next h.line e.answers h.stops),
              ))
              (λ text end w e. all_text sent text w)
          | inr t ↦ absurd t.2
        ]
