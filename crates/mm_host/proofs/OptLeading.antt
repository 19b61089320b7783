-- What the calls of a session lead to in Opt.
use Rattle.mm_host.proofs.Below.{◌≡◌, ℕ, Bool, true, false, List, [], ◌∷◌, ◌++◌, length, refl, sym, ap, ◌∙◌, inl, inr, append-nil}
use Rattle.mm_host.proofs.Below.{zero_bytes, Opt, Meaning, Batch, normal_batch, InBasic, InOpt, Instance, opt_instance, RegisterEntry, History}
use Rattle.mm_host.proofs.Below.{first_history, has_value, is_empty, IsPoint, at_anchor, in_closed, in_current, IsPlaceOf, anchor_after}
use Rattle.mm_host.proofs.Below.{content_of_issue, digest_of, IsSound, batches_in, has_value-append, bare, ◌+◌, Some, Result, Ok}
use Rattle.mm_host.proofs.Below.{append_assoc, arith, append_cancel_right, Item, Standing, IsLawful, One, Commit, history_after}
use Rattle.mm_host.proofs.Below.{register_value_of, total_of, BatchAnswer, Refusal, counted_part, IsCallOnCourse, finding_at, digest_level}
use Rattle.mm_host.proofs.Below.{state_after_moves, items_after_moves, standing_items, counted_open, asks, Alike, still, grown_by}
use Rattle.mm_host.proofs.Below.{alike_commit, clean_open, issued_alike, names_after, opened, same_closed, issued_content, answered_at}
use Rattle.mm_host.proofs.Below.{Hands, hands, IsClear, AreNoGuards, flag_kept, pushed_open, shown_front, PendingRecord, one_more, Met}
use Rattle.mm_host.proofs.Below.{IsGrownBy, opt_met, opt_met_idle, opt_grown, issued_in_opt, ◌⊎◌, ◌≤◌, last_position, not_lost}
use Rattle.mm_seal.specs.declared.snapshot.Place.{Place}
use Rattle.mm_model.specs.History.{items_of_all, DeviceStep}
use Rattle.mm_model.specs.ListLaws.{each_left}
use Rattle.mm_model.specs.SegmentLaws.{length-batches_in, no_segments}
use Rattle.std.specs.Option.{option_map}
use Rattle.mm_call.specs.CallOutcome.{call_outcome, state_seen, walk, has_close}
use Rattle.mm_call.specs.CallFinding.{finding_unless_wanting, is_fresh}
use Rattle.mm_call.specs.WalkLaws.{opt_closes}
use Rattle.mm_host.proofs.Leading.{Laws, Makes, names_none, push_batches, Reaches, ShowsAt}

none_of : {A : Type 0} (xs ys : List A) → xs ++ ys ≡ [] → (xs ≡ []) × (ys ≡ [])
none_of [] ys e = (refl, e)
none_of (x ∷ xs) ys e = absurd (cc)

marred_in : (before : List (List RegisterEntry)) (last : List RegisterEntry) → has_value last ≡ true
    → has_value (items_of_all (before ++ last ∷ [])) ≡ true
marred_in [] last e = ap has_value (append-nil last) ∙ e
marred_in (segment ∷ before) last e =
    let rest = marred_in before last e in rw has_value-append (grind (arith, rest))

clean_batches : (y : History) → IsSound y → has_value (items_of_all y.closed) ≡ false → y.batches ≡ batches_in (items_of_all y.closed)
    ++ y.current
clean_batches y sound clean =
    elim sound.history [
      | inl c ↦ c.batches
      | inr m ↦
          let clash : true ≡ false = sym (ap (λ (s : List (List RegisterEntry)). has_value (items_of_all s)) m.split
          ∙ marred_in m.before m.last m.marred) ∙ clean in absurd (cc)
    ]

pub opt_begins : (y : History) → IsSound y → y.batches ≡ [] → has_value (items_of_all y.closed) ≡ false → bare y ≡ bare first_history
opt_begins y sound none clean =
    let both = none_of (batches_in (items_of_all y.closed)) y.current (sym (clean_batches y sound clean) ∙ none) in
    let closed : y.closed ≡ [] = no_segments y.closed sound.filled
    (sym (length-batches_in (items_of_all y.closed) clean) ∙ ap (λ (bs : List Batch). length bs) both.0) in
    let shut : y.is_open ≡ false = sound.shut_is (ap is_empty both.1) in
    λ j. record { batches = none j; closed = closed j; current = both.1 j; is_open = shut j; items = [] }

not_taken : (named done taken : List Batch) → named ≡ [] → named ≡ done ++ taken → is_empty taken ≡ false → ⊥
not_taken named done taken e is begun =
    let clash : true ≡ false = sym (ap is_empty (none_of done taken (sym is ∙ e)).1) ∙ begun in absurd (cc)

-- the place of position 0
first_point : (i : Instance) (y : History) (named : List Batch) (a e : List ℕ) → IsSound y → named ≡ [] → IsPoint i y named a e
    → (a ≡ anchor_after i []) × (e ≡ zero_bytes)
first_point i y named a e sound none (at_anchor p) =
    let filled = each_left (λ (segment : List RegisterEntry). is_empty segment ≡ false) p.before p.later
    (rw p.split at sound.filled) in
    let before : p.before ≡ [] = no_segments p.before filled (sym p.counted ∙ ap (λ (bs : List Batch). length bs) none) in
    (p.anchor_is ∙ ap (anchor_after i) before, p.extension_is)
first_point i y named a e sound none (in_closed p) = absurd (not_taken named p.done p.taken none p.named_is p.begun)
first_point i y named a e sound none (in_current p) = absurd (not_taken named p.done p.taken none p.named_is p.begun)

pub opt_place : (meaning : Meaning) (key barrier : List ℕ) (y : History) (named : List Batch) (place : Place) → IsSound y
    → IsPlaceOf Opt (opt_instance meaning key barrier) y named place → named ≡ []
    → place ≡ (content_of_issue (opt_instance meaning key barrier) first_history).place
opt_place meaning key barrier y named (InBasic s) sound p e = absurd p
opt_place meaning key barrier y named (InOpt a b) sound p e =
    let f = first_point (opt_instance meaning key barrier) y named a.bytes b.bytes sound e p in
    ap (λ (x : List ℕ). InOpt (digest_of x) (digest_of b.bytes)) f.0
    ∙ ap (λ (x : List ℕ). InOpt (digest_of (anchor_after (opt_instance meaning key barrier) [])) (digest_of x)) f.1

-- What the calls of a session lead to in Opt.

-- from a set flag a call for a batch leaves in front what the register had shown, and the flag stays set
pub opt_reach : (meaning : Meaning) (key barrier : List ℕ) (old new : Standing) (offer : List ℕ) (batch : Batch)
    (gives : Result BatchAnswer Refusal) → IsCallOnCourse Opt meaning old new offer batch gives
    → Reaches Opt (opt_instance meaning key barrier) old new
opt_reach meaning key barrier old new offer batch gives c = λ d s f items known.
    let i : Instance = opt_instance meaning key barrier in
    let b : Batch = normal_batch batch in
    let o = call_outcome i (digest_level i) d c.course offer b in
    let g = c.goes key barrier d s in
    let p = pushed_open meaning key barrier d c.course offer b f in
    let fresh : Bool = is_fresh
    (finding_unless_wanting (finding_at i (digest_level i) (state_seen i (digest_level i) d c.course) b offer) c.course.lacks) in
    let quiet : has_close o.moves ≡ false = ap (λ (st : List DeviceStep). has_close (walk c.course.fates 1 st).moves) (asks d.flag fresh b)
    ∙ opt_closes c.course.fates d.flag fresh b in
    record {
      digests = state_after_moves (digest_level i) d o.moves;
      stands = g.stands;
      flag = flag_kept meaning key barrier o.moves d f quiet;
      more = p.more;
      shows = g.items ∙ ap (option_map (items_after_moves i d o.moves)) known ∙ ap (λ (xs : List Item). Some xs) (p.are items);
    }

-- a call that was answered, with others behind it
module _ (meaning : Meaning) (lawful : IsLawful meaning) (key barrier : List ℕ) (all others : List (List ℕ)) (asked : List Batch)
    (final : Standing) (y : History) (old middle : Standing) (offer : List ℕ) (p : PendingRecord) (answer : BatchAnswer)
    (m : Makes all others asked (opt_instance meaning key barrier) y old middle offer p (Ok answer))
    (shows : ShowsAt all others (opt_instance meaning key barrier) y old final) where
  abbrev i : Instance
  i = opt_instance meaning key barrier

  abbrev Between : Type 0
  Between = (o : Met all others asked i y middle offer p (Ok answer)) × ShowsAt all others i o.after middle final

  abbrev Handed : Type 0
  Handed = Hands meaning key barrier all others asked y middle final offer p.request (Ok answer) shows.more

  -- no segment is open after it, so it is a repeat
  room_shut : (after : History) → Alike meaning key barrier y (One p.request) after → after.is_open ≡ false
      → (after.batches ≡ y.batches) ⊎ (total_of after.batches ≤ last_position)
  room_shut after (still e) shut = inl (ap (λ (x : History). x.batches) e)
  room_shut after (grown_by e) shut =
      let clash : true ≡ false = sym (opened meaning key barrier y after (One p.request) e) ∙ shut in absurd (cc)

  between_shut : (h : Handed) → h.left.after.is_open ≡ false → Between
  between_shut h e = (
    record {
      after = h.left.after;
      stands = h.left.stands;
      within = h.left.within;
      names = λ content n.
          names_after meaning key barrier y h.left.after (One p.request) content m.asks.within.sound h.left.within.sound h.left.alike n;
      comes = h.left.comes;
      only = λ why e. absurd (cc);
      judged = λ why e. absurd (cc);
      issues = λ answer e. issued_in_opt meaning lawful key barrier h.left.after h.left.within.sound (h.left.clean answer e);
      grown = opt_grown meaning key barrier y h.left.after p h.left.alike;
      room = room_shut h.left.after h.left.alike e;
      powered = λ w. not_lost h.left.after.is_open _ _ _ (λ f. let clash : true ≡ false = sym f ∙ e in absurd (cc));
    },
    record { items = h.items; known = h.known; more = h.more; ends = h.ends; shown_are = h.shown_are },
  )

  -- whether a segment is open after it follows from the answer's position
  open_by : (after then_is : History) → Alike meaning key barrier y (One p.request) after → IsGrownBy i y (Some p) then_is
      → total_of after.batches ≡ total_of then_is.batches → after.is_open ≡ true → then_is.is_open ≡ true
  open_by after then_is (still e) (inl same) t is = ap (λ (x : History). x.is_open) (same ∙ sym e) ∙ is
  open_by after then_is (grown_by e) (inl same) t is =
      let more : total_of after.batches ≡ total_of y.batches + 1 =
      ap (λ (x : History). total_of x.batches) e ∙ ap total_of (push_batches Opt y.is_open y (One p.request))
      ∙ one_more y.batches p.request in
      let none : total_of then_is.batches ≡ total_of y.batches = ap (λ (x : History). total_of x.batches) same in
      absurd (omega (arith, t, more, none))
  open_by after then_is alike (inr g) t is = opened meaning key barrier y then_is (One g.0.request) g.2

  -- a segment is open after it
  between_open : (h : Handed) → h.left.after.is_open ≡ true → Between
  between_open h e =
      let pushed = h.pushed e in
      let front : List Item = standing_items y.is_open shows.items ++ pushed.front in
      let there : Some (h.items ++ h.more) ≡ Some (standing_items y.is_open shows.items ++ shows.more) =
      ap (λ (flag : Bool). Some (standing_items flag h.items ++ h.more)) (sym e) ∙ sym h.ends ∙ shows.ends in
      let whole : h.items ++ h.more ≡ standing_items y.is_open shows.items ++ shows.more = cc in
      let reach : h.items ++ h.more ≡ front ++ h.more =
      whole ∙ ap (λ (xs : List Item). standing_items y.is_open shows.items ++ xs) (sym pushed.whole)
      ∙ sym (append_assoc (standing_items y.is_open shows.items) pushed.front h.more) in
      let items : h.items ≡ front = append_cancel_right h.items front h.more reach in
      let o = opt_met meaning lawful key barrier all others asked y old middle offer p (Ok answer) m.goes m.stands m.asks shows.items
      pushed.front shows.known (h.known ∙ ap (λ (xs : List Item). Some xs) items)
      (λ busy. shown_front all others i y pushed.front h.more
      (rw pushed.whole shows.shown_are)) in
      let total : total_of h.left.after.batches ≡ total_of o.after.batches =
      sym (answered_at i y h.left.after offer (One p.request) answer h.left.comes).0
      ∙ (answered_at i y o.after offer (One p.request) answer o.comes).0 in
      let is_open : o.after.is_open ≡ true = open_by h.left.after o.after h.left.alike o.grown total e in
      let both : Some (register_value_of i h.left.after) ≡ Some (register_value_of i o.after) =
      sym h.left.stands.register ∙ o.stands.register in
      let same : register_value_of i h.left.after ≡ register_value_of i o.after = cc in
      let register : register_value_of i (counted_part h.left.after) ≡ register_value_of i (counted_part o.after) =
      ap (register_value_of i) (counted_open h.left.after e) ∙ same
      ∙ sym (ap (register_value_of i) (counted_open o.after is_open))
      in (
        o,
        record {
          items = h.items;
          known = h.known;
          more = h.more;
          ends = h.ends ∙ ap (λ (flag : Bool). Some (standing_items flag h.items ++ h.more)) (e ∙ sym is_open);
          shown_are = record {
            messages = rw register at h.shown_are.messages;
            values = h.shown_are.values;
          };
        },
      )

  between_by : (h : Handed) (flag : Bool) → h.left.after.is_open ≡ flag → Between
  between_by h true e = between_open h e
  between_by h false e = between_shut h e

  between : Reaches Opt i middle final → Between
  between reaches =
      let h = hands meaning key barrier all others asked y old middle final offer p.request (Ok answer) shows.items shows.more m.goes
      (λ d s f items known. let x = reaches d s f items known in (x.more, x.shows)) m.stands shows.known shows.ends m.asks
      shows.shown_are in
      between_by h h.left.after.is_open refl

opt_grow : (meaning : Meaning) (key barrier : List ℕ) (y z after : History) (b : Batch) → IsSound after
    → (has_value (items_of_all y.closed) ≡ false → bare y ≡ bare z)
    → bare after ≡ bare (history_after (opt_instance meaning key barrier) y (Commit b))
    → bare after ≡ bare (history_after (opt_instance meaning key barrier) z (Commit b))
opt_grow meaning key barrier y z after b sound like e =
    let clean : has_value (items_of_all y.closed) ≡ false =
    ap (λ (s : List (List RegisterEntry)). has_value (items_of_all s)) (sym (same_closed meaning key barrier y after b e))
    ∙ clean_open after sound (opened meaning key barrier y after b e) in
    e ∙ alike_commit meaning key barrier y z b (like clean)

pub opt_laws : (meaning : Meaning) → IsLawful meaning → (key barrier : List ℕ) (all others : List (List ℕ)) (asked : List Batch)
    (final : Standing) → IsClear all → AreNoGuards barrier others asked → Laws all others asked (opt_instance meaning key barrier) final
opt_laws meaning lawful key barrier all others asked final clear apart = record {
  lawful = lawful;
  clear = clear;
  apart = apart;
  met = between meaning lawful key barrier all others asked final;
  met_last = λ y old offer p gives m shows.
      opt_met meaning lawful key barrier all others asked y old final offer p gives m.goes m.stands m.asks shows.items shows.more
      shows.known shows.ends (λ busy. shows.shown_are);
  idle = λ y old middle offer p gives m idle.
      opt_met_idle meaning lawful key barrier all others asked y old middle offer p gives m.goes m.stands m.asks idle;
  reach = λ old new offer request. opt_reach meaning key barrier old new offer (One request);
  formed = issued_content meaning lawful key barrier;
  issue = issued_alike meaning key barrier;
  batches = λ y z e. ap (λ (x : History). x.batches) e;
  like = λ y z e clean. e;
  grow = opt_grow meaning key barrier;
  begins = opt_begins;
  placed = λ y content sound n e.
      opt_place meaning key barrier y n.named content.place sound n.place (names_none (opt_instance meaning key barrier) y content n e);
}
