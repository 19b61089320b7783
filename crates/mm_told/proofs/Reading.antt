-- What a call of either core, and a checkpoint, see and find is determined by what they read, but
-- for want of memory. With it: what is read determines where a call goes on, but for want of
-- memory.
use Rattle.std.specs.Prelude.{◌⊎◌, Result, Ok, Err}
use Rattle.std.specs.Result.{result_map_both}
use Rattle.std.proofs.Common.{◌≡◌, ℕ, true, false, List, [], ◌∷◌, sym, ap, ◌∙◌, subst, inl, inr, refl}
use Rattle.mm_digest.specs.declared.variant.Variant.{Variant}
use Rattle.mm_digest.specs.declared.variant.Variant.TheVariants.{Basic, Opt}
use Rattle.mm_seal.specs.Cell.{ReadsCell, SpellsCell}
use Rattle.mm_seal.specs.CellLaws.{reads_cell-same}
use Rattle.mm_seal.specs.Snapshot.{Snapshot}
use Rattle.mm_seal.specs.SnapshotLaws.{reads_parts-same}
use Rattle.mm_seal.specs.declared.cell.Cell.{Cell}
use Rattle.mm_seal.specs.declared.cell.CellFault.{CellFault}
use Rattle.mm_seal.specs.declared.snapshot.PartsFault.{PartsFault}
use Rattle.mm_platform.specs.Standing.{Act}
use Rattle.mm_module.specs.Batch.{Batch}
use Rattle.mm_module.specs.Meaning.{Meaning}
use Rattle.mm_machine.specs.OpSteps.{OpMeaning}
use Rattle.mm_machine.specs.OpSteps as machine
use Rattle.mm_machine.specs.declared.call.OpResult.{OpResult}
use Rattle.mm_machine.specs.declared.call.OpResult.TheVariants as ended
use Rattle.mm_machine.specs.declared.call.OpStage.{OpStage}
use Rattle.mm_machine.specs.declared.call.OpStage.TheVariants.{Begun, Seen, Changing}
use Rattle.mm_machine.specs.declared.call.StepResult.{StepResult}
use Rattle.mm_machine.specs.declared.call.StepResult.TheVariants.{Going, Over}
use Rattle.mm_machine.specs.declared.operation.OpFinding.{OpFinding}
use Rattle.mm_machine.specs.declared.operation.Sight.{Sight}
use Rattle.mm_machine.specs.declared.operation.Sight.TheVariants as sight
use Rattle.mm_model.specs.declared.answer.BatchAnswer.{BatchAnswer}
use Rattle.mm_model.specs.declared.refusal.Refusal.{Refusal}
use Rattle.mm_model.specs.declared.refusal.Refusal.TheVariants.{Memory}
use Rattle.mm_call.specs.CallFinding.{IsOrMemory}
use Rattle.mm_basic.specs.BasicSight.{BasicSight, IsCellOf, IsSeen, NoCell, OtherCell, NoOffer, Both}
use Rattle.mm_basic.specs.Operation.{SeesAtCell, FindsIn}
use Rattle.mm_basic.specs.Operation as basic
use Rattle.mm_opt.specs.Answers as opt
use Rattle.mm_opt.specs.AskPromise.{SeesCell, cell_in}
use Rattle.mm_opt.specs.AskPromise as in_opt
use Rattle.mm_opt.specs.Checkpoints.{segment_in, closing_operation, sight_of, write_finding}
use Rattle.mm_opt.specs.declared.segment.CheckpointRefusal.{CheckpointRefusal}
use Rattle.mm_ask.specs.WholeAsk.{ask_operation}
use Rattle.mm_told.specs.CallPath.{StepIsDrawn, StepsReachEnd, MadeStepLeads, IsNextStep, StepsReachStage, step_by_sight, step_by_finding}
use Rattle.mm_told.specs.CallPath.{made_act, AreAsTold, CallProtocol, StepsDiffer}
use Rattle.mm_told.specs.declared.step.MadeStep.{MadeStep}
use Rattle.mm_told.specs.declared.step.MadeStep.TheVariants as made

-- What is read determines where a call goes on, but for want of memory: so a host that makes the steps that it is told makes the call's.

module _ {R : Type 0} (lacks : R → Type 0) where
  -- memory was wanting
  abbrev pub Lacking : {T : Type 0} → Result T R → Type 0
  Lacking (Ok it) = ⊥
  Lacking (Err why) = lacks why

  -- the same, or memory was wanting for one
  abbrev pub SameOrLacking : {T : Type 0} → Result T R → Result T R → Type 0
  SameOrLacking x y = (x ≡ y) ⊎ (Lacking x ⊎ Lacking y)

module _ {A R : Type 0} (lacks : R → Type 0) where
  abbrev pub EndLacks : OpResult A R → Type 0
  EndLacks (ended.Refused why) = lacks why
  EndLacks _ = ⊥

  abbrev StepLacks : StepResult A R → Type 0
  StepLacks (Going stage) = ⊥
  StepLacks (Over end) = EndLacks end

  abbrev Agree : StepResult A R → StepResult A R → Type 0
  Agree s t = (s ≡ t) ⊎ (StepLacks s ⊎ StepLacks t)

  -- What is seen and found is determined by what was read.
  pub record IsDetermined (o : OpMeaning A R) : Type 0 where
    pub sees : (bytes : List ℕ) (x y : Result (Sight A) R) → o.sees bytes x → o.sees bytes y → SameOrLacking lacks x y
    pub finds : (cell : Cell) (register : List ℕ) (x y : Result (OpFinding A) R) → o.finds cell register x → o.finds cell register y
        → SameOrLacking lacks x y

  seen_lacks : (x : Result (Sight A) R) → Lacking lacks x → StepLacks (step_by_sight x)
  seen_lacks (Ok it) l = absurd l
  seen_lacks (Err why) l = l

  weighed_lacks : (x : Result (OpFinding A) R) → Lacking lacks x → StepLacks (step_by_finding x)
  weighed_lacks (Ok it) l = absurd l
  weighed_lacks (Err why) l = l

  drawn_agree : {T : Type 0} (says : Result T R → Type 0) (leads : Result T R → StepResult A R) (s t : StepResult A R)
      → ((x : Result T R) → Lacking lacks x → StepLacks (leads x)) → ((x y : Result T R) → says x → says y → SameOrLacking lacks x y)
      → StepIsDrawn says leads s → StepIsDrawn says leads t → Agree s t
  drawn_agree says leads s t lack same d e =
      elim (same d.drawn e.drawn d.is_said e.is_said) [
        | inl same ↦ inl (d.gives ∙ ap leads same ∙ sym e.gives)
        | inr l ↦ inr (elim l [
          | inl l ↦ inl (subst StepLacks (sym d.gives) (lack d.drawn l))
          | inr l ↦ inr (subst StepLacks (sym e.gives) (lack e.drawn l))
        ])
      ]

  module _ (o : OpMeaning A R) (det : IsDetermined o) where
    agree : (from : OpStage A) (it : MadeStep) (s t : StepResult A R) → MadeStepLeads o from it s → MadeStepLeads o from it t → Agree s t
    agree Begun (made.ReadCell (Ok bytes)) s t l m = drawn_agree (o.sees bytes) step_by_sight s t seen_lacks (det.sees bytes) l m
    agree Begun (made.ReadCell (Err fault)) s t l m = inl (l ∙ sym m)
    agree Begun _ s t l m = absurd l
    agree (Seen cell) (made.ReadRegister (Ok value)) s t l m =
        drawn_agree (o.finds cell value.bytes) step_by_finding s t weighed_lacks (det.finds cell value.bytes) l.1 m.1
    agree (Seen cell) (made.ReadRegister (Err fault)) s t l m = inl (l ∙ sym m)
    agree (Seen cell) _ s t l m = absurd l
    agree (Changing ready) it s t l m = inl (l.1 ∙ sym m.1)

    both_go : (a b : OpStage A) → Agree (Going a) (Going b) → a ≡ b
    both_go a b (inl e) = cc
    both_go a b (inr (inl l)) = absurd l
    both_go a b (inr (inr l)) = absurd l

    go_or_end : (a : OpStage A) (end : OpResult A R) → Agree (Going a) (Over end) → EndLacks end
    go_or_end a end (inl e) = absurd (cc)
    go_or_end a end (inr (inl l)) = absurd l
    go_or_end a end (inr (inr l)) = l

    same_stage : (from : OpStage A) (steps : List MadeStep) (a b : OpStage A) → StepsReachStage o from steps a
        → StepsReachStage o from steps b → a ≡ b
    same_stage from [] a b s t = s ∙ sym t
    same_stage from (it ∷ more) a b s t =
        same_stage s.0 more a b s.2
        (subst (λ (x : OpStage A). StepsReachStage o x more b) (both_go t.0 s.0 (agree from it (Going t.0) (Going s.0) t.1 s.1)) t.2)

    stands_or_ends : (from : OpStage A) (steps : List MadeStep) (a : OpStage A) (end : OpResult A R) → StepsReachStage o from steps a
        → StepsReachEnd o from steps end
        → EndLacks end
    stands_or_ends from [] a end s e = absurd e
    stands_or_ends from (it ∷ more) a end s (inl e) = go_or_end s.0 end (agree from it (Going s.0) (Over end) s.1 e.1)
    stands_or_ends from (it ∷ more) a end s (inr e) =
        stands_or_ends s.0 more a end s.2
        (subst (λ (x : OpStage A). StepsReachEnd o x more end) (both_go e.0 s.0 (agree from it (Going e.0) (Going s.0) e.1 s.1)) e.2)

    -- one step comes next, and none where the call ended, but for want of memory
    pub one_next : (from : OpStage A) (steps : List MadeStep) (a b : Act) → IsNextStep o from steps a → IsNextStep o from steps b → a ≡ b
    one_next from steps a b m n =
        m.next ∙ ap machine.act_of (same_stage from steps m.stage n.stage m.stands n.stands) ∙ sym n.next

    pub next_or_over : (from : OpStage A) (steps : List MadeStep) (a : Act) (end : OpResult A R) → IsNextStep o from steps a
        → StepsReachEnd o from steps end
        → EndLacks end
    next_or_over from steps a end m e = stands_or_ends from steps m.stage end m.stands e

-- so no step of a host differs that makes those that it is told
module _ {E : Type 0} (course : CallProtocol E) where
  pub fits : (steps : List MadeStep) → ((front : List MadeStep) (a b : Act) → course.next front a → course.next front b → a ≡ b)
      → ((front : List MadeStep) (a : Act) (given : E) → course.next front a → course.gives front given → course.lacks given ≡ true)
      → AreAsTold course steps → StepsDiffer course steps → ⊥
  fits steps one over told d =
      let next : course.next d.front (made_act d.it) = told d.front d.rest d.it d.are in
      elim d.other [
        | inl m ↦ absurd (m.other (one d.front (made_act d.it) m.act next m.next))
        | inr o ↦ let yes : course.lacks o.given ≡ true = over d.front (made_act d.it) o.given next o.gives in
            let no : course.lacks o.given ≡ false = o.lacks in absurd (cc)
      ]

-- What a call of either core, and a checkpoint, see and find is determined by what they read, but for want of memory.

-- memory was wanting for a call; for a checkpoint it never is
abbrev pub is_memory : Refusal → Type 0
is_memory why = why ≡ Memory

abbrev pub never : CheckpointRefusal → Type 0
never why = ⊥

is_lacking : {T : Type 0} (f : Result T Refusal) → f ≡ Err Memory → Lacking is_memory f
is_lacking f e = subst (Lacking is_memory) (sym e) refl

or_same : {T : Type 0} (x f g : Result T Refusal) → IsOrMemory x f → IsOrMemory x g → SameOrLacking is_memory f g
or_same (Err why) f g o p = inl (o ∙ sym p)
or_same (Ok it) f g (inr e) p = inr (inl (is_lacking f e))
or_same (Ok it) f g (inl e) (inr h) = inr (inr (is_lacking g h))
or_same (Ok it) f g (inl e) (inl h) = inl (e ∙ sym h)

-- what is said of a cell's bytes
one_cell : (bytes : List ℕ) (a b : Cell) → SpellsCell bytes a → SpellsCell bytes b → a ≡ b
one_cell bytes a b s t = let e : ◌≡◌ {A = Result Cell CellFault} (Ok a) (Ok b) = reads_cell-same bytes (Ok a) (Ok b) s t in cc

cell_or_none : (bytes : List ℕ) (a : Cell) (fault : CellFault) → SpellsCell bytes a → ReadsCell bytes (Err fault) → ⊥
cell_or_none bytes a fault s t =
    let e : ◌≡◌ {A = Result Cell CellFault} (Ok a) (Err fault) = reads_cell-same bytes (Ok a) (Err fault) s t in absurd (cc)

-- Basic

module _ (id : ℕ) (bytes offer : List ℕ) where
  same_seen : (s t : BasicSight) → IsSeen id bytes offer s → IsSeen id bytes offer t → s ≡ t
  same_seen (NoCell f) (NoCell g) s t =
      let e : ◌≡◌ {A = Result Cell CellFault} (Err f) (Err g) = reads_cell-same bytes (Err f) (Err g) s t in cc
  same_seen (NoCell f) OtherCell s t = absurd (cell_or_none bytes t.0 f t.1 s)
  same_seen (NoCell f) (NoOffer g) s t = absurd (cell_or_none bytes t.0 f t.1 s)
  same_seen (NoCell f) (Both cell offered) s t = absurd (cell_or_none bytes cell f t.0 s)
  same_seen OtherCell (NoCell g) s t = absurd (cell_or_none bytes s.0 g s.1 t)
  same_seen OtherCell OtherCell s t = refl
  same_seen OtherCell (NoOffer g) s t =
      absurd (s.2 (subst (IsCellOf id) (one_cell bytes t.0 s.0 t.1 s.1) t.2))
  same_seen OtherCell (Both cell offered) s t = absurd (s.2 (subst (IsCellOf id) (one_cell bytes cell s.0 t.0 s.1) t.1))
  same_seen (NoOffer f) (NoCell g) s t = absurd (cell_or_none bytes s.0 g s.1 t)
  same_seen (NoOffer f) OtherCell s t = absurd (t.2 (subst (IsCellOf id) (one_cell bytes s.0 t.0 s.1 t.1) s.2))
  same_seen (NoOffer f) (NoOffer g) s t =
      let e : ◌≡◌ {A = Result Snapshot PartsFault} (Err f) (Err g) = reads_parts-same offer Basic id (Err f) (Err g) s.3 t.3 in cc
  same_seen (NoOffer f) (Both cell offered) s t =
      let e : ◌≡◌ {A = Result Snapshot PartsFault} (Err f) (Ok offered) = reads_parts-same offer Basic id (Err f) (Ok offered) s.3 t.2 in
      absurd (cc)
  same_seen (Both one offered) (NoCell g) s t = absurd (cell_or_none bytes one g s.0 t)
  same_seen (Both one offered) OtherCell s t = absurd (t.2 (subst (IsCellOf id) (one_cell bytes one t.0 s.0 t.1) s.1))
  same_seen (Both one offered) (NoOffer g) s t =
      let e : ◌≡◌ {A = Result Snapshot PartsFault} (Err g) (Ok offered) = reads_parts-same offer Basic id (Err g) (Ok offered) t.3 s.2 in
      absurd (cc)
  same_seen (Both one a) (Both cell b) s t =
      let c : one ≡ cell = one_cell bytes one cell s.0 t.0 in
      let e : ◌≡◌ {A = Result Snapshot PartsFault} (Ok a) (Ok b) = reads_parts-same offer Basic id (Ok a) (Ok b) s.2 t.2 in
      cc

abbrev at_once : {T R : Type 0} → Result (OpFinding T) R → Result (Sight T) R
at_once (Ok found) = Ok (sight.Found found)
at_once (Err why) = Err why

lacks_at_once : (f : Result (OpFinding BatchAnswer) Refusal) → Lacking is_memory f → Lacking is_memory (at_once f)
lacks_at_once (Ok found) l = absurd l
lacks_at_once (Err why) l = l

at_once_same : (f g : Result (OpFinding BatchAnswer) Refusal) → SameOrLacking is_memory f g
    → SameOrLacking is_memory (at_once f) (at_once g)
at_once_same f g (inl e) = inl (ap at_once e)
at_once_same f g (inr (inl l)) = inr (inl (lacks_at_once f l))
at_once_same f g (inr (inr l)) = inr (inr (lacks_at_once g l))

module _ (meaning : Meaning) (offer : List ℕ) (b : Batch) where
  basic_finds : (bytes : List ℕ) (f g : Result (OpFinding BatchAnswer) Refusal) → FindsIn meaning bytes offer b f
      → FindsIn meaning bytes offer b g → SameOrLacking is_memory (at_once f) (at_once g)
  basic_finds bytes f g s t =
      at_once_same f g
      (or_same (basic.finding_in meaning s.seen b) f g s.found_is
      (subst (λ (x : BasicSight). IsOrMemory (basic.finding_in meaning x b) g)
      (same_seen meaning.id bytes offer t.seen s.seen t.is_seen s.is_seen) t.found_is))

  basic_sees : (bytes : List ℕ) (x y : Result (Sight BatchAnswer) Refusal) → SeesAtCell meaning offer b bytes x
      → SeesAtCell meaning offer b bytes y
      → SameOrLacking is_memory x y
  basic_sees bytes (Ok (sight.Cell cell)) y s t = absurd s
  basic_sees bytes (Ok (sight.Found f)) (Ok (sight.Cell cell)) s t = absurd t
  basic_sees bytes (Err why) (Ok (sight.Cell cell)) s t = absurd t
  basic_sees bytes (Ok (sight.Found f)) (Ok (sight.Found g)) s t = basic_finds bytes (Ok f) (Ok g) s t
  basic_sees bytes (Ok (sight.Found f)) (Err why) s t = basic_finds bytes (Ok f) (Err why) s t.0
  basic_sees bytes (Err why) (Ok (sight.Found g)) s t = basic_finds bytes (Err why) (Ok g) s.0 t
  basic_sees bytes (Err why) (Err other) s t = basic_finds bytes (Err why) (Err other) s.0 t.0

-- Opt

abbrev as_cell : Result Cell Refusal → Result (Sight BatchAnswer) Refusal
as_cell (Ok cell) = Ok (sight.Cell cell)
as_cell (Err why) = Err why

same_cell : (id : ℕ) (bytes : List ℕ) (f g : Result Cell Refusal) → SeesCell id bytes f → SeesCell id bytes g → as_cell f ≡ as_cell g
same_cell id bytes f g s t =
    ap as_cell (s.found_is ∙ ap (cell_in id) (reads_cell-same bytes s.read t.read s.reads t.reads) ∙ sym t.found_is)

opt_sees : (id : ℕ) (bytes : List ℕ) (x y : Result (Sight BatchAnswer) Refusal) → in_opt.SeesAtCell id bytes x
    → in_opt.SeesAtCell id bytes y
    → SameOrLacking is_memory x y
opt_sees id bytes (Ok (sight.Found found)) y s t = absurd s
opt_sees id bytes (Ok (sight.Cell cell)) (Ok (sight.Found found)) s t = absurd t
opt_sees id bytes (Err why) (Ok (sight.Found found)) s t = absurd t
opt_sees id bytes (Ok (sight.Cell a)) (Ok (sight.Cell b)) s t = inl (same_cell id bytes (Ok a) (Ok b) s t)
opt_sees id bytes (Ok (sight.Cell a)) (Err why) s t = inl (same_cell id bytes (Ok a) (Err why) s t.0)
opt_sees id bytes (Err why) (Ok (sight.Cell b)) s t = inl (same_cell id bytes (Err why) (Ok b) s.0 t)
opt_sees id bytes (Err why) (Err other) s t = inl (same_cell id bytes (Err why) (Err other) s.0 t.0)

-- either
pub determined : (variant : Variant) (meaning : Meaning) (offer : List ℕ) (b : Batch)
    → IsDetermined is_memory (ask_operation variant meaning offer b)
determined Basic meaning offer b = record {
  sees = basic_sees meaning offer b;
  finds = λ cell register x y s t. inl (s ∙ sym t);
}
determined Opt meaning offer b = record {
  sees = opt_sees meaning.id;
  finds = λ cell register x y s t.
      or_same (opt.finding_in meaning cell register s.finds.taken b) x y s.finds.found_is
      (subst (λ (taken : Result Snapshot PartsFault). IsOrMemory (opt.finding_in meaning cell register taken b) y)
      (reads_parts-same offer Opt meaning.id t.finds.taken s.finds.taken t.finds.reads s.finds.reads) t.finds.found_is);
}

-- a checkpoint

pub closing_determined : IsDetermined never closing_operation
closing_determined = record {
  sees = λ bytes x y s t.
      inl (s.gives ∙ ap (result_map_both sight_of (λ why. why))
      (s.finds_it.found_is ∙ ap segment_in (reads_cell-same bytes s.finds_it.read t.finds_it.read s.finds_it.reads t.finds_it.reads)
      ∙ sym t.finds_it.found_is) ∙ sym t.gives);
  finds = λ cell register x y s t.
      inl (s.gives ∙ ap (result_map_both write_finding (λ why. why)) (s.finds_it ∙ sym t.finds_it) ∙ sym t.gives);
}
