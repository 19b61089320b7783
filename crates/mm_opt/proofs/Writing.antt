-- What a call counts. With it: the first cell and snapshot; the ends of a call.
use Rattle.mm_digest.specs.declared.digest.Digest.{Digest}
use Rattle.mm_machine.specs.declared.change.Change as change
use Rattle.mm_model.specs.Moves.{IsFit}
use Rattle.mm_model.specs.Standing.{digest_of}
use Rattle.mm_model.specs.declared.refusal.Refusal.TheVariants.{Device}
use Rattle.mm_opt.proofs.Below.{◌≡◌, ℕ, false, List, [], ap, ◌∙◌, Opt, zero_bytes, start_digest_of, Meaning, Cell, InOpt, cell_spelling}
use Rattle.mm_opt.proofs.Below.{Content, sealed_snapshot_of, anchor_of, opt_instance, first_history, cell_of, issued_bytes, anchor-nil}
use Rattle.mm_opt.proofs.Below.{Result, Ok, Err, sym, subst, refl, IfOk, Standing, IsLawful, Batch, CellFault, Blank, Unspelled, IsCell}
use Rattle.mm_opt.proofs.Below.{ReadsCell, BatchAnswer, Refusal, Long, AskResult, AreStepsToEnd, EndsByFinding, IsCallToEnd, IsWholeCall}
use Rattle.mm_opt.proofs.Below.{result_of, end_of_refusal, each_call, ends_result, steps_give, given_all, BatchFinding, acts_for, answer_in}
use Rattle.mm_opt.proofs.Below.{is_cell_of, cell_in, opt_call, true, Some, inl, inr, next_count, reads_cell-same, is_long, goes_on}
use Rattle.mm_opt.proofs.Below.{breaks_off, answered_result, Repeat, Change, Extending, Emptying, remaining_acts, StepsAre, three_steps}
use Rattle.mm_opt.proofs.Below.{four_steps, five_steps, StepsRefused, StepsBy, WritesByFlag}
use Rattle.mm_opt.proofs.Reading.{ReadsOn, ReadsOwnCell, ReadsRegister, reads_told, own_is, made, Made, first_refused, room_only}

-- The first cell and snapshot.

first_anchor : (id said : ℕ) (anchor : Digest) → said ≡ id → anchor.bytes ≡ start_digest_of Opt said → anchor.bytes ≡ anchor_of id []
first_anchor id said anchor id_is start_is = start_is ∙ ap (start_digest_of Opt) id_is ∙ anchor-nil id

abbrev pub made_cell : ℕ → Digest → List ℕ → List ℕ → Cell
made_cell id anchor key barrier = record { variant = Opt; «module» = id; flag = false; summary = anchor; key = key; barrier = barrier }

abbrev pub made_content : Meaning → Digest → Digest → Content
made_content meaning anchor extension =
    record { id = meaning.id; place = InOpt anchor extension; position = 0; state = meaning.first }

module _ (meaning : Meaning) (said : ℕ) (anchor : Digest) (key barrier : List ℕ) (id_is : said ≡ meaning.id)
    (start_is : anchor.bytes ≡ start_digest_of Opt said) where
  pub first_cell : cell_spelling (made_cell said anchor key barrier)
      ≡ cell_spelling (cell_of (opt_instance meaning key barrier) first_history)
  first_cell =
      let a = first_anchor meaning.id said anchor id_is start_is in λ j. cell_spelling (made_cell (id_is j) (digest_of (a j)) key barrier)

  pub first_snapshot : (extension : Digest) → extension.bytes ≡ zero_bytes
      → sealed_snapshot_of key (made_content meaning anchor extension) ≡ issued_bytes (opt_instance meaning key barrier) first_history
  first_snapshot extension extension_is =
      let a = first_anchor meaning.id said anchor id_is start_is in
      λ j. sealed_snapshot_of key (made_content meaning (digest_of (a j)) (digest_of (extension_is j)))

-- The ends of a call: what holds of each holds of every call; so that each answer is fit.

-- where the first step refuses, that ends the call
pub refused_first : (why : Refusal) (found : Result BatchFinding Refusal) (meaning : Meaning) (first second new : Standing) (offer : List ℕ)
    (b : Batch) (ended : AskResult) → ReadsOn meaning offer b (Err why) first second found → EndsByFinding opt_call found second new ended
    → (new ≡ first) × (ended ≡ end_of_refusal why)
refused_first why found meaning first second new offer b ended on e =
    let x : (new ≡ second) × (ended ≡ end_of_refusal why) =
    subst (λ (f : Result BatchFinding Refusal). EndsByFinding opt_call f second new ended) on.1 e in
    (x.0 ∙ on.0, x.1)

module _ (meaning : Meaning) (offer : List ℕ) (b : Batch) (old : Standing) (P : Standing → Result BatchAnswer Refusal → Type 0) where
  -- What holds at each end: the first step fails or is refused; or the second; or the steps were made that commit what was found, as far as
  -- they went.
  pub record Each : Type 0 where
    pub refuses : (why : Refusal) (one : Standing) → ReadsOwnCell meaning.id old one (Err why) → P one (Err why)
    pub later_refuses : (why : Refusal) (cell : Cell) (one two : Standing) → ReadsOwnCell meaning.id old one (Ok cell)
        → ReadsRegister meaning offer b cell one two (Err why) → P two (Err why)
    pub commits : (found : BatchFinding) (cell : Cell) (one two new : Standing) (ended : AskResult)
        → ReadsOwnCell meaning.id old one (Ok cell)
        → ReadsRegister meaning offer b cell one two (Ok found) → AreStepsToEnd (acts_for found) (answer_in found) two new ended
        → P new (result_of ended)

  pub each_ask : Each → (new : Standing) (ended : AskResult) → IsCallToEnd opt_call meaning old new offer b ended → P new (result_of ended)
  each_ask each new ended a =
      let r = reads_told meaning offer b old a.middle a.found a.reads in
      seen r.cell a.found r.middle a.middle r.reads r.on a.ends
    where
      ends : (found : Result BatchFinding Refusal) (cell : Cell) (one two : Standing) → ReadsOwnCell meaning.id old one (Ok cell)
          → ReadsRegister meaning offer b cell one two found → EndsByFinding opt_call found two new ended → P new (result_of ended)
      ends (Err why) cell one two r on e = ends_result opt_call P why two new ended e (each.later_refuses why cell one two r on)
      ends (Ok found) cell one two r on e = each.commits found cell one two new ended r on e

      seen : (cell : Result Cell Refusal) (found : Result BatchFinding Refusal) (one two : Standing) → ReadsOwnCell meaning.id old one cell
          → ReadsOn meaning offer b cell one two found → EndsByFinding opt_call found two new ended → P new (result_of ended)
      seen (Err why) found one two r on e =
          ends_result opt_call P why one new ended (refused_first why found meaning one two new offer b ended on e) (each.refuses why one r)
      seen (Ok cell) found one two r on e = ends found cell one two r on e

  pub each_asked : P old (Err Long) → Each → (new : Standing) (result : Result BatchAnswer Refusal)
      → IsWholeCall opt_call meaning old new offer b result → P new result
  each_asked long each new result = each_call opt_call meaning old new offer b P result long (each_ask each new)

-- each answer is fit

-- the cell that is seen is spelled
seen_spelled : (read : Result Cell CellFault) (id : ℕ) (bytes : List ℕ) (seen : Cell) → ReadsCell bytes read → Ok seen ≡ cell_in id read
    → IsCell seen
seen_spelled (Err Blank) id bytes seen reads e = cc
seen_spelled (Err Unspelled) id bytes seen reads e = cc
seen_spelled (Ok cell) id bytes seen reads e = subst IsCell (sym (own_is (is_cell_of id cell) cell seen (sym e))) reads.0

-- what is handed out is what was found
abbrev IsFitIn : Batch → Result BatchAnswer Refusal → Type 0
IsFitIn b result = IfOk result (λ answer. IsFit b answer)

pub fits : (meaning : Meaning) → IsLawful meaning → (old new : Standing) (offer : List ℕ) (b : Batch) (result : Result BatchAnswer Refusal)
    → IsWholeCall opt_call meaning old new offer b result → IsFitIn b result
fits meaning lawful old new offer b =
    each_asked meaning offer b old (λ (s : Standing) (r : Result BatchAnswer Refusal). IsFitIn b r) tt (record {
      refuses = λ why one r. tt;
      later_refuses = λ why cell one two r on. tt;
      commits = λ found cell one two new ended r on s.
          let f = r.finds refl in
          given_all (IsFit b) ended (answer_in found) (steps_give (acts_for found) (answer_in found) two new ended s)
          ((made meaning cell b offer one two (Ok found) on).fit lawful
          (seen_spelled f.said.read meaning.id f.bytes cell f.said.reads f.said.found_is));
    })
    new

-- What a call counts: its steps, and how often it writes the cell, by the flag that the platform tells.

-- the cell that is seen is the one that is told
told_cell : (id : ℕ) (old one : Standing) (cell seen : Cell) → ReadsOwnCell id old one (Ok seen) → IsCell cell
    → old.cell ≡ Some (cell_spelling cell) → seen ≡ cell
told_cell id old one cell seen r is told =
    let f = r.finds refl in
    let e : f.bytes ≡ cell_spelling cell = f.told (cell_spelling cell) told in
    let same : f.said.read ≡ Ok cell = reads_cell-same f.bytes f.said.read (Ok cell) f.said.reads (is, e) in
    own_is (is_cell_of id cell) cell seen (sym (f.said.found_is ∙ ap (λ (x : Result Cell CellFault). cell_in id x) same))

-- the reading steps
two_made : (meaning : Meaning) (cell : Cell) (offer : List ℕ) (b : Batch) (found : Result BatchFinding Refusal) (old one two : Standing)
    → ReadsOwnCell meaning.id old one (Ok cell) → ReadsRegister meaning offer b cell one two found → StepsAre 2 0 old two
two_made meaning cell offer b found old one two r on =
    let room = room_only found on.middle two on.room in (
      ap (λ (s : Standing). s.steps) room ∙ on.goes.steps ∙ ap next_count r.goes.steps,
      ap (λ (s : Standing). s.writes) room ∙ on.goes.writes ∙ r.goes.writes,
    )

-- What is counted of a call.
abbrev Counted : Standing → Standing → Result BatchAnswer Refusal → Type 0
Counted old new result = StepsBy Opt result old new × WritesByFlag result old new

quiet_writes : (why : Refusal) (old new : Standing) → new.writes ≡ old.writes → WritesByFlag (Err why) old new
quiet_writes why old new w = record { once = inl w; inside = λ cell is told set. w; answers = λ cell is told. tt }

quiet : (why : Refusal) (old new : Standing) → StepsRefused Opt why old new → new.writes ≡ old.writes → Counted old new (Err why)
quiet why old new s w = (s, quiet_writes why old new w)

-- the changing steps
module _ (meaning : Meaning) (b : Batch) (old two new : Standing) (cell : Cell) (ended : AskResult) (t : StepsAre 2 0 old two)
    (told : (c : Cell) → IsCell c → old.cell ≡ Some (cell_spelling c) → cell ≡ c) where
  -- a segment was opened, so the flag is clear
  shut : cell.flag ≡ false → (c : Cell) → IsCell c → old.cell ≡ Some (cell_spelling c) → c.flag ≡ true → ⊥
  shut clear c is at set =
      let clash : false ≡ true = sym clear ∙ ap (λ (x : Cell). x.flag) (told c is at) ∙ set in cc

  change_counted : (change : change.Change) (answer : BatchAnswer)
      → Made meaning cell b (Change (record { change = change; answer = answer })) → AreStepsToEnd (remaining_acts change)
      answer two new ended
      → Counted old new (result_of ended)
  change_counted (Extending value) answer m (breaks_off fault g e) =
      rw e (quiet (Device fault) old new (three_steps (g.steps ∙ ap next_count t.0, g.writes ∙ t.1)) (g.writes ∙ t.1))
  change_counted (Extending value) answer m (goes_on last g s) =
      let three : StepsAre 3 0 old last = (g.steps ∙ ap next_count t.0, g.writes ∙ t.1) in
      answered_result (Counted old) answer last new ended s (
        rw m.shape (inl three),
        record {
          once = inl three.1;
          inside = λ c is at set. three.1;
          answers = λ c is at. rw (← told c is at, m.by_flag, m.shape) three;
        },
      )
  change_counted (Emptying opening) answer m (breaks_off fault g e) =
      rw e (quiet (Device fault) old new (three_steps (g.steps ∙ ap next_count t.0, g.writes ∙ t.1)) (g.writes ∙ t.1))
  change_counted (Emptying opening) answer m (goes_on third g (breaks_off fault h e)) =
      rw e (quiet (Device fault) old new (four_steps (h.steps ∙ ap next_count (g.steps ∙ ap next_count t.0), h.writes ∙ g.writes ∙ t.1))
      (h.writes ∙ g.writes ∙ t.1))
  change_counted (Emptying opening) answer m (goes_on third g (goes_on fourth h (breaks_off fault k e))) =
      let five : StepsAre 5 1 old new = (
        k.steps ∙ ap next_count (h.steps ∙ ap next_count (g.steps ∙ ap next_count t.0)),
        k.writes
            ∙ ap next_count (h.writes ∙ g.writes ∙ t.1),
      ) in
      rw e (
        five_steps five,
        record {
          once = inr five.1;
          inside = λ c is at set. absurd (shut m.by_flag c is at set);
          answers = λ c is at. tt;
        },
      )
  change_counted (Emptying opening) answer m (goes_on third g (goes_on fourth h (goes_on last k s))) =
      let five : StepsAre 5 1 old last = (
        k.steps ∙ ap next_count (h.steps ∙ ap next_count (g.steps ∙ ap next_count t.0)),
        k.writes
            ∙ ap next_count (h.writes ∙ g.writes ∙ t.1),
      ) in
      answered_result (Counted old) answer last new ended s (
        rw m.shape (inr five),
        record {
          once = inr five.1;
          inside = λ c is at set. absurd (shut m.by_flag c is at set);
          answers = λ c is at. rw (← told c is at, m.by_flag, m.shape) five;
        },
      )
  change_counted _ answer m s = absurd m.by_flag

  commits_counted : (found : BatchFinding) → Made meaning cell b found → AreStepsToEnd (acts_for found) (answer_in found) two new ended
      → Counted old new (result_of ended)
  commits_counted (Repeat answer) m s = answered_result (Counted old) answer two new ended s
      (rw m.shape t, record { once = inl t.1; inside = λ c is at set. t.1; answers = λ c is at. rw m.shape t })
  commits_counted (Change ready) m s = change_counted ready.change ready.answer m s

each_counted : (meaning : Meaning) (offer : List ℕ) (b : Batch) (old : Standing) → Each meaning offer b old (Counted old)
each_counted meaning offer b old = record {
  refuses = λ why one r.
      quiet why old one (first_refused meaning.id old one why r old one (r.goes.steps, r.goes.writes)) r.goes.writes;
  later_refuses = λ why cell one two r on.
      let t = two_made meaning cell offer b (Err why) old one two r on in
      quiet why old two (made meaning cell b offer one two (Err why) on old two t) t.1;
  commits = λ found cell one two new ended r on s.
      commits_counted meaning b old two new cell ended (two_made meaning cell offer b (Ok found) old one two r on)
      (λ c is told. told_cell meaning.id old one c cell r is told) found (made meaning cell b offer one two (Ok found) on) s;
}

pub steps : (meaning : Meaning) (old new : Standing) (offer : List ℕ) (b : Batch) (result : Result BatchAnswer Refusal)
    → IsWholeCall opt_call meaning old new offer b result → is_long b ≡ false → StepsBy Opt result old new
steps meaning old new offer b result c short =
    let k = c.asks short in
    rw k.gives (each_ask meaning offer b old (Counted old) (each_counted meaning offer b old) new k.ended k.asks).0

pub writes : (meaning : Meaning) (old new : Standing) (offer : List ℕ) (b : Batch) (result : Result BatchAnswer Refusal)
    → IsWholeCall opt_call meaning old new offer b result → WritesByFlag result old new
writes meaning old new offer b result =
    each_call opt_call meaning old new offer b (λ (s : Standing) (r : Result BatchAnswer Refusal). WritesByFlag r old s) result
    (quiet_writes Long old old refl)
    (λ (ended : AskResult) (a : IsCallToEnd opt_call meaning old new offer b ended).
    (each_ask meaning offer b old (Counted old) (each_counted meaning offer b old) new ended a).1)
