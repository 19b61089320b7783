-- What a call finds over the platform is what is found by digests, but for want of memory. With it:
-- what is found, by what the offer is examined to.
use Rattle.std.specs.List.{fold}
use Rattle.std.specs.Prelude.{◌&&◌}
use Rattle.std.proofs.lemmas.Bool.Decides.{nat_tests}
use Rattle.mm_seal.specs.CellLaws.{reads_cell-same}
use Rattle.mm_seal.specs.FieldLaws.{reads_parts}
use Rattle.mm_seal.specs.Parts.{parts_of}
use Rattle.mm_seal.specs.SnapshotLaws.{reads_parts-same}
use Rattle.mm_seal.specs.declared.cell.CellFault.{CellFault}
use Rattle.mm_module.specs.RunLaws.{members_of-normal}
use Rattle.mm_machine.specs.OpSteps.{CellSays, has_extension}
use Rattle.mm_model.specs.FormLaws.{is_fit}
use Rattle.mm_model.specs.declared.refusal.Refusal.TheVariants.{Device, Long}
use Rattle.mm_model.specs.declared.refusal.Refusal.TheVariants as refusal
use Rattle.mm_model.specs.declared.verdict.Verdict.TheVariants.{Fresh, Again}
use Rattle.mm_call.specs.CallFinding.{check_by_tests, answer_at}
use Rattle.mm_call.specs.CallFinding as call
use Rattle.mm_call.specs.Standing.{IsWrite}
use Rattle.mm_basic.proofs.Below.{◌≡◌, ℕ, Bool, true, false, List, Result, Ok, Err, IsTrue, refl, sym, ap, subst, inl, inr, arith, Meaning}
use Rattle.mm_basic.proofs.Below.{IsLawful, Batch, normal_batch, Blank, Form, InBasic, Content, Snapshot, IsFit, length-link, Refusal}
use Rattle.mm_basic.proofs.Below.{Verdict, digest_of, BatchAnswer, is_extension_left, OpFinding, Repeat, Change, BasicSight, NoCell}
use Rattle.mm_basic.proofs.Below.{NoOffer, Both, check_of_offer, summary_in, verdict_of, linked_summary, answer_of, committed_cell}
use Rattle.mm_basic.proofs.Below.{finding_from, finding_in, IsOrMemory, FindsIn, weighed_only, Basic, Cell, IsCellOf, PartsFault}
use Rattle.mm_basic.proofs.Below.{ReadsParts, SpellsCell, None, Standing, StepGoes, ReadCell, fault_in, ◌+◌, [], ◌∷◌, map, length, Some}
use Rattle.mm_basic.proofs.Below.{◌∙◌, nat_le, bytes_eq, bytes_eq-Decides, last_position, size_of, IsCell, cell_spelling, Kind, Place}
use Rattle.mm_basic.proofs.Below.{InOpt, variant_of, tag_of, extended_digest_of, Item, DeviceStep, Writes, link, Instance, basic_instance}
use Rattle.mm_basic.proofs.Below.{Commit, Foreign, Digests, digests_after, verdict_by, basic_verdict, state_after_moves, digest_level}
use Rattle.mm_basic.proofs.Below.{AsFound, lacks_in, brought_digests, cell_at, StandsAt, Writing, basic_call, ReadsCell, OtherCell}
use Rattle.mm_basic.proofs.Below.{IsSeen as IsSight, if◌then◌else◌, verdict_by_digests, zero_bytes}

-- What is found, by what the offer is examined to.

-- An answer found says whether it is a repeat's, and is fit; no own extension is to come; and no batch is found to be too long.
abbrev pub IsShaped : Meaning → Batch → Result (OpFinding BatchAnswer) Refusal → Type 0
IsShaped meaning b (Err Long) = ⊥
IsShaped meaning b (Err why) = Unit {0}
IsShaped meaning b (Ok (Repeat answer)) = (answer.again ≡ true) × (IsLawful meaning → IsFit b answer)
IsShaped meaning b (Ok (Change ready)) =
    (ready.answer.again ≡ false) × (IsLawful meaning → IsFit b ready.answer) × (is_extension_left ready.change ≡ false)

never_long : (spelled tagged : Bool) (verdict : Verdict) (fits : Bool) → check_by_tests spelled tagged verdict fits ≡ Err Long → ⊥
never_long spelled tagged verdict fits e = grind (arith, e)

shaped_refused : (meaning : Meaning) (b : Batch) (why : Refusal) → (why ≡ Long → ⊥) → IsShaped meaning b (Err why)
shaped_refused meaning b Long never = absurd (never refl)
shaped_refused meaning b _ never = tt

shaped_from : (meaning : Meaning) (key next : List ℕ) (offered : Content) (b : Batch) (e : Result Bool Refusal) → (e ≡ Err Long → ⊥)
    → ((again : Bool) → e ≡ Ok again → IsLawful meaning → IsFit b (answer_of meaning key offered b again))
    → IsShaped meaning b (finding_from e next (answer_of meaning key offered b))
shaped_from meaning key next offered b (Err why) never h =
    shaped_refused meaning b why (λ (e : why ≡ Long). never (ap (λ (w : Refusal). Err w) e))
shaped_from meaning key next offered b (Ok true) never h = (refl, h true refl)
shaped_from meaning key next offered b (Ok false) never h = (refl, h false refl, refl)

-- an offer that is accepted leads to a fit answer
accepted_fit : (meaning : Meaning) (key : List ℕ) (offered : Snapshot) (b : Batch) (verdict : Verdict) (again : Bool)
    → check_of_offer meaning key offered b verdict ≡ Ok again → IsLawful meaning → IsFit b (answer_of meaning key offered.content b again)
accepted_fit meaning key offered b verdict again e lawful =
    let a = weighed_only _ _ _ _ again e in
    is_fit meaning lawful key offered.content.state offered.content.position (InBasic (digest_of (linked_summary offered.content b))) b
    again
    (length-link (summary_in offered.content.place) (normal_batch b))
    (subst (λ (t : Bool). IsTrue t) (sym a.spelled) refl)
    (grind (arith, nat_tests, a.fitting))

shaped_in : (meaning : Meaning) (seen : BasicSight) (b : Batch) → IsShaped meaning b (finding_in meaning seen b)
shaped_in meaning (NoCell Blank) b = tt
shaped_in meaning (NoOffer Form) b = tt
shaped_in meaning (Both cell offered) b =
    shaped_from meaning cell.key (committed_cell cell offered.content b) offered.content b
    (check_of_offer meaning cell.key offered b (verdict_of cell offered b))
    (λ (e : check_of_offer meaning cell.key offered b (verdict_of cell offered b) ≡ Err Long).
    never_long (meaning.is_spelled offered.content.state) _ (verdict_of cell offered b) _ e)
    (accepted_fit meaning cell.key offered b (verdict_of cell offered b))
shaped_in meaning _ b = tt

shaped_or : (meaning : Meaning) (b : Batch) (x found : Result (OpFinding BatchAnswer) Refusal) → IsShaped meaning b x → IsOrMemory x found
    → IsShaped meaning b found
shaped_or meaning b (Err why) found h o = rw o h
shaped_or meaning b (Ok it) found h (inl e) = rw e h
shaped_or meaning b (Ok it) found h (inr e) = rw e tt

pub shaped : (meaning : Meaning) (bytes offer : List ℕ) (b : Batch) (found : Result (OpFinding BatchAnswer) Refusal)
    → FindsIn meaning bytes offer b found → IsShaped meaning b found
shaped meaning bytes offer b found f =
    shaped_or meaning b (finding_in meaning f.seen b) found (shaped_in meaning f.seen b) f.found_is

-- so no own extension is to come behind what is found
pub extends_none : (meaning : Meaning) (b : Batch) (it : OpFinding BatchAnswer) → IsShaped meaning b (Ok it) → has_extension it ≡ false
extends_none meaning b (Repeat answer) s = refl
extends_none meaning b (Change ready) s = s.2

-- What is found on a platform, whose cell is read; and the step that reads it.
abbrev pub Finds : Meaning → Standing → List ℕ → Batch → Result (OpFinding BatchAnswer) Refusal → Type 0
Finds meaning old offer b found = CellSays old (λ bytes. FindsIn meaning bytes offer b found)

pub record Finding (meaning : Meaning) (old new : Standing) (offer : List ℕ) (b : Batch)
    (found : Result (OpFinding BatchAnswer) Refusal) : Type 0
  where
    pub goes : StepGoes ReadCell old new (fault_in found)
    pub finds : fault_in found ≡ None → Finds meaning old offer b found

pub finding_shaped : (meaning : Meaning) (old new : Standing) (offer : List ℕ) (b : Batch) (found : Result (OpFinding BatchAnswer) Refusal)
    → Finding meaning old new offer b found → IsShaped meaning b found
finding_shaped meaning old new offer b (Err (Device fault)) r = tt
finding_shaped meaning old new offer b found r = let f = r.finds refl in shaped meaning f.bytes offer b found f.said

-- an offer that is none to this module
pub no_offer : (meaning : Meaning) (bytes offer : List ℕ) (b : Batch) (id : ℕ) (cell : Cell) (fault : PartsFault)
    (found : Result (OpFinding BatchAnswer) Refusal) → id ≡ meaning.id → SpellsCell bytes cell → IsCellOf id cell
    → ReadsParts offer Basic id (Err fault)
    → IsOrMemory (finding_in meaning (NoOffer fault) b) found → FindsIn meaning bytes offer b found
no_offer meaning bytes offer b id cell fault found e spells is reads o = record {
  seen = NoOffer fault;
  is_seen = (cell, spells, subst (λ (n : ℕ). IsCellOf n cell) e is, subst (λ (n : ℕ). ReadsParts offer Basic n (Err fault)) e reads);
  found_is = o;
}

-- What a call finds over the platform is what is found by digests, but for want of memory.

-- There is one way to see a cell and an offer.

-- how a cell of this module and an offer that is taken apart are seen
abbrev seen_by : Cell → Result Snapshot PartsFault → BasicSight
seen_by cell (Ok offered) = Both cell offered
seen_by cell (Err fault) = NoOffer fault

no_cell : (bytes : List ℕ) (cell : Cell) (fault : CellFault) → SpellsCell bytes cell → ReadsCell bytes (Err fault) → ⊥
no_cell bytes cell fault s v = let e : Err fault ≡ Ok cell = reads_cell-same bytes (Err fault) (Ok cell) v s in cc

one_cell : (bytes : List ℕ) (cell other : Cell) → SpellsCell bytes cell → SpellsCell bytes other → other ≡ cell
one_cell bytes cell other s v =
    let there : Result Cell CellFault = Ok other in
    let here : Result Cell CellFault = Ok cell in
    let e : there ≡ here = reads_cell-same bytes there here v s in
    cc

one_sight : (id : ℕ) (bytes offer : List ℕ) (cell : Cell) (taken : Result Snapshot PartsFault) (seen : BasicSight) → SpellsCell bytes cell
    → IsCellOf id cell → ReadsParts offer Basic id taken → IsSight id bytes offer seen → seen ≡ seen_by cell taken
one_sight id bytes offer cell taken (NoCell fault) s is r v = absurd (no_cell bytes cell fault s v)
one_sight id bytes offer cell taken OtherCell s is r v =
    absurd (v.2 (subst (λ (c : Cell). IsCellOf id c) (sym (one_cell bytes cell v.0 s v.1)) is))
one_sight id bytes offer cell taken (NoOffer fault) s is r v =
    ap (λ (t : Result Snapshot PartsFault). seen_by cell t) (reads_parts-same offer Basic id (Err fault) taken v.3 r)
one_sight id bytes offer cell taken (Both other offered) s is r v =
    ap (λ (c : Cell). Both c offered) (one_cell bytes cell other s v.0)
    ∙ ap (λ (t : Result Snapshot PartsFault). seen_by cell t) (reads_parts-same offer Basic id (Ok offered) taken v.2 r)

-- What is found.

-- what is found, where this offer is accepted
abbrev found_as : Instance → Digests → Content → Bool → Batch → OpFinding BatchAnswer
found_as i d offered true b = Repeat ((digest_level i).answer true d d offered b)
found_as i d offered false b = Change (record {
  change = Writing (cell_spelling (cell_at i (digests_after i d (Commit b))));
  answer = (digest_level i).answer false d d offered b;
})

-- what is found, where that is found by digests
abbrev given : Instance → Digests → Batch → Result call.CallFinding Refusal → Result (OpFinding BatchAnswer) Refusal
given i d b (Err why) = Err why
given i d b (Ok it) = Ok (found_as i d it.offered it.again b)

by_fresh : (a b : Bool) → verdict_by false a b ≡ Fresh → a ≡ true
by_fresh true b e = refl
by_fresh false true e = cc
by_fresh _ _ e = cc

by_again : (a b : Bool) → verdict_by false a b ≡ Again → b ≡ true
by_again true b e = cc
by_again false true e = refl
by_again false false e = cc

fresh_summary : (o summary : List ℕ) (b : Batch) → basic_verdict summary o b ≡ Fresh → link o b ≡ link summary b
fresh_summary o summary b e =
    ap (λ (s : List ℕ). link s b) ((bytes_eq-Decides o summary).0 (by_fresh (bytes_eq o summary) (bytes_eq (link o b) summary) e))

again_summary : (o summary : List ℕ) (b : Batch) → basic_verdict summary o b ≡ Again → link o b ≡ summary
again_summary o summary b e =
    (bytes_eq-Decides (link o b) summary).0 (by_again (bytes_eq o summary) (bytes_eq (link o b) summary) e)

-- an answer depends on the members of the batch alone
answer_is : (meaning : Meaning) (key : List ℕ) (offered : Content) (s t : List ℕ) (b : Batch) (again : Bool) → s ≡ t
    → answer_at meaning key offered (InBasic (digest_of s)) b again ≡ answer_at meaning key offered (InBasic (digest_of t))
    (normal_batch b) again
answer_is meaning key offered s t b again e =
    ap (λ (x : List ℕ). answer_at meaning key offered (InBasic (digest_of x)) b again) e
    ∙ rw (members_of-normal b) refl

-- the verdict by digests on an offered place of Basic
verdict_is : (d : Digests) (place : Place) (b : Batch) → variant_of place ≡ Basic
    → verdict_by_digests zero_bytes d.flag d.digest d.register place b ≡ basic_verdict d.digest (summary_in place) b
verdict_is d (InBasic s) b v = refl
verdict_is d (InOpt a x) b v = absurd (cc)

module _ (meaning : Meaning) (key : List ℕ) (d : Digests) (b : Batch) where
  abbrev i : Instance
  i = basic_instance meaning key

  -- by what the offer is examined to
  found_examined : (offered : Content) (e : Result Bool Refusal)
      → (e ≡ Ok false → linked_summary offered b ≡ link d.digest (normal_batch b))
      → (e ≡ Ok true → linked_summary offered b ≡ d.digest)
      → finding_from e (committed_cell (cell_at i d) offered b) (answer_of meaning key offered b)
      ≡ given i d (normal_batch b) (call.finding_with offered e)
  found_examined offered (Err why) f r = refl
  found_examined offered (Ok true) f r =
      ap (λ (x : BatchAnswer). Ok (Repeat x)) (answer_is meaning key offered (linked_summary offered b) d.digest b true (r refl))
  found_examined offered (Ok false) f r =
      let answers = answer_is meaning key offered (linked_summary offered b) (link d.digest (normal_batch b)) b false (f refl) in
      λ j. Ok (Change (record {
        change = Writing (cell_spelling (record (cell_at i d) { summary = digest_of (f refl j) }));
        answer = answers j;
      }))

  -- an offer to Basic
  found_taken : (taken : Result Snapshot PartsFault) (offer : List ℕ) → ReadsParts offer Basic meaning.id taken
      → finding_in meaning (seen_by (cell_at i d) taken) b
      ≡ given i d (normal_batch b) (call.finding_by_verdict i (digest_level i) d (normal_batch b) taken)
  found_taken (Err Form) offer r = refl
  found_taken (Err Kind) offer r = refl
  found_taken (Ok snapshot) offer r =
      let offered : Content = snapshot.content in
      let v : Verdict = basic_verdict d.digest (summary_in offered.place) (normal_batch b) in
      let s : Bool = meaning.is_spelled offered.state in
      let t : Bool = bytes_eq snapshot.tag (tag_of key offered) in
      let few : ℕ → Bool = λ n. nat_le (offered.position + n) last_position in
      let same = λ (x : Result Bool Refusal). given i d (normal_batch b) (call.finding_with offered x) in
      found_examined offered (check_by_tests s t v (few (size_of b)))
      (λ e. fresh_summary (summary_in offered.place) d.digest (normal_batch b) (weighed_only s t v (few (size_of b)) false e).verdict)
      (λ e. again_summary (summary_in offered.place) d.digest (normal_batch b) (weighed_only s t v (few (size_of b)) true e).verdict)
      ∙ ap (λ (x : Verdict). same (check_by_tests s t x (few (size_of b)))) (sym (verdict_is d offered.place (normal_batch b) r.1.0))
      ∙ ap (λ (m : List (List ℕ)). same (check_by_tests s t ((digest_level i).verdict d offered (normal_batch b)) (few (length m))))
      (sym (members_of-normal b))

-- What is found at digests that a platform's cell has, whatever its register holds.
found_here : (meaning : Meaning) (key : List ℕ) (d : Digests) (register : List ℕ) (old : Standing) (offer : List ℕ) (b : Batch)
    (found : Result (OpFinding BatchAnswer) Refusal)
    → IsCell (cell_at (basic_instance meaning key) d) → old.cell ≡ Some (cell_spelling (cell_at (basic_instance meaning key) d))
    → (f : Finds meaning old offer b found) → finding_in meaning f.said.seen b
    ≡ given (basic_instance meaning key) (record d { register = register }) (normal_batch b)
    (call.finding_at (basic_instance meaning key) (digest_level (basic_instance meaning key)) (record d { register = register })
    (normal_batch b) offer)
found_here meaning key d register old offer b found spells cell f =
    let i : Instance = basic_instance meaning key in
    let seen : Digests = record d { register = register } in
    let here : Cell = cell_at i d in
    let taken : Result Snapshot PartsFault = parts_of Basic meaning.id offer in
    let r = reads_parts Basic meaning.id offer in
    ap (λ (s : BasicSight). finding_in meaning s b) (one_sight meaning.id f.bytes offer here taken f.said.seen
    (spells, f.told (cell_spelling here) cell) (refl, refl) r f.said.is_seen)
    ∙ found_taken meaning key seen b taken offer r
    ∙ ap (λ (flag : Bool). given i seen (normal_batch b)
    (if flag && bytes_eq register zero_bytes then Err refusal.Lost
    else call.finding_by_verdict i (digest_level i) seen (normal_batch b) taken)) (sym spells.variant.0)

-- the steps of a call behind its reading step
abbrev pub writing : Bool → Batch → List DeviceStep
writing false b = []
writing true b = Writes (Commit b) ∷ []

-- The writing step commits the batch.
is_write : (meaning : Meaning) (key : List ℕ) (d : Digests) (b : Batch) → IsCell (cell_at (basic_instance meaning key) d)
    → IsWrite (basic_instance meaning key) d
    (cell_spelling (cell_at (basic_instance meaning key) (digests_after (basic_instance meaning key) d (Commit b)))) (Commit b)
is_write meaning key d b is = record {
  spells = record { summary = length-link d.digest b; key = is.key; barrier = is.barrier; variant = is.variant };
  cell = refl;
  register = refl;
  shows = λ (items : List Item). refl;
}

as_given : (meaning : Meaning) (key : List ℕ) (d : Digests) (b : Batch) (offered : Content) (again : Bool)
    → IsCell (cell_at (basic_instance meaning key) d)
    → AsFound basic_call (basic_instance meaning key) d b (Ok (record { offered = offered; again = again }))
    (Ok (found_as (basic_instance meaning key) d offered again b))
    (writing (call.is_fresh (Ok (record { offered = offered; again = again }))) b)
as_given meaning key d b offered true is = (true, record { offered = offered; found_is = refl; answer_is = refl }, tt)
as_given meaning key d b offered false is = (
  false,
  record { offered = offered; found_is = refl; answer_is = refl },
  (is_write meaning key d b is, refl, λ _. tt),
)

-- what is found is what the call finds by digests, or memory is wanting
abbrev pub IsSeen : Meaning → List ℕ → Digests → Batch → Result call.CallFinding Refusal → Result (OpFinding BatchAnswer) Refusal → Type 0
IsSeen meaning key d b x found =
    let y : Result call.CallFinding Refusal = call.finding_unless_wanting x (lacks_in found) in
    AsFound basic_call (basic_instance meaning key) d b y found (writing (call.is_fresh y) b)

as_found : (meaning : Meaning) (key : List ℕ) (d : Digests) (b : Batch) (x : Result call.CallFinding Refusal)
    (found : Result (OpFinding BatchAnswer) Refusal)
    → IsCell (cell_at (basic_instance meaning key) d) → IsOrMemory (given (basic_instance meaning key) d b x) found
    → IsSeen meaning key d b x found
as_found meaning key d b (Err why) found is f = rw f (refl, refl)
as_found meaning key d b (Ok it) found is (inl f) = rw f (as_given meaning key d b it.offered it.again is)
as_found meaning key d b (Ok it) found is (inr f) = rw f (refl, refl)

-- at the digests of a platform's cell, whatever others put into the register before it was read
pub seen_here : (meaning : Meaning) (key : List ℕ) (d : Digests) (values : List (List ℕ)) (old : Standing) (offer : List ℕ) (b : Batch)
    (found : Result (OpFinding BatchAnswer) Refusal) → StandsAt (basic_instance meaning key) old d → Finds meaning old offer b found
    → let seen : Digests = state_after_moves (digest_level (basic_instance meaning key)) d (map Foreign values) in
    IsSeen meaning key seen (normal_batch b) (call.finding_at (basic_instance meaning key) (digest_level (basic_instance meaning key)) seen
    (normal_batch b) offer) found
seen_here meaning key d values old offer b found s f =
    let i : Instance = basic_instance meaning key in
    let r : List ℕ = fold extended_digest_of d.register values in
    subst (λ (x : Digests). IsSeen meaning key x (normal_batch b) (call.finding_at i (digest_level i) x (normal_batch b) offer) found)
    (sym (brought_digests i d values))
    (as_found meaning key (record d { register = r }) (normal_batch b)
    (call.finding_at i (digest_level i) (record d { register = r }) (normal_batch b) offer) found s.spells
    (subst (λ (x : Result (OpFinding BatchAnswer) Refusal). IsOrMemory x found)
    (found_here meaning key d r old offer b found s.spells s.cell f)
    f.said.found_is))
