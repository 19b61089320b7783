-- What a walk over the steps of a call gives: what it commits, and which of its moves others made.
-- With it: what holds of each move of a walk holds of all of them.
use Rattle.std.specs.Prelude.{if◌then◌else◌, ◌⊎◌}
use Rattle.std.proofs.Common.{◌+◌, map, refl, sym, ap, ◌∙◌, subst, append_assoc, ℕ, ◌≡◌, Bool, true, false, List, [], ◌∷◌, ◌++◌, None, inl}
use Rattle.std.proofs.Common.{inr}
use Rattle.std.proofs.lemmas.List.{append-nil}
use Rattle.std.proofs.lemmas.List.Sums.{fold-append}
use Rattle.mm_call.specs.Below.{Variant, Basic, Opt, Batch, Value, History, Move, Commit, Foreign, Placed, Reset, history_after, Instance}
use Rattle.mm_call.specs.Below.{move_messages, DeviceStep, Reads, Changes, Writes, ask_steps, Close, history_after_commit, checkpoint_steps}
use Rattle.mm_call.specs.CallFinding.{Level, list_level, state_after_moves}
use Rattle.mm_call.specs.CallOutcome.{End, Done, Fails, StepFate, StepsWalk, step_moves, walk_from_step, walk, moves_seen, has_commit}
use Rattle.mm_call.specs.CallOutcome.{reading_steps, has_close}
use Rattle.mm_call.specs.CallPremises.{messages_of_moves, foreign_move_values, moves_from_reset}
use Rattle.mm_call.specs.OfferLaws.{committed_batches}

pub committed-append : (xs ys : List Move) → committed_batches (xs ++ ys) ≡ committed_batches xs ++ committed_batches ys
committed-append [] ys = refl
committed-append (Commit b ∷ xs) ys = ap (λ v. b ∷ v) (committed-append xs ys)
committed-append (_ ∷ xs) ys = committed-append xs ys

pub committed-foreign : (values : List (List ℕ)) → committed_batches (map Foreign values) ≡ []
committed-foreign [] = refl
committed-foreign (v ∷ values) = committed-foreign values

pub foreign_first : (values : List (List ℕ)) (rest : List Move) → committed_batches (map Foreign values ++ rest) ≡ committed_batches rest
foreign_first values rest = committed-append (map Foreign values) rest ∙ ap (λ v. v ++ committed_batches rest) (committed-foreign values)

pub commits-none : (moves : List Move) → committed_batches moves ≡ [] → has_commit moves ≡ false
commits-none [] e = refl
commits-none (Commit b ∷ moves) e = cc
commits-none (_ ∷ moves) e = commits-none moves e

pub commits_batch : (moves : List Move) (b : Batch) → committed_batches moves ≡ b ∷ [] → has_commit moves ≡ true
commits_batch [] b e = cc
commits_batch (Commit c ∷ moves) b e = refl
commits_batch (_ ∷ moves) b e = commits_batch moves b e

-- what is seen at the last reading step is others' values alone
pub seen_none : (fates : ℕ → StepFate) (steps : List DeviceStep) (n : ℕ) → committed_batches (moves_seen fates steps n) ≡ []
seen_none fates [] n = refl
seen_none fates (step ∷ steps) n = foreign_first (fates n).brings (moves_seen fates steps (n + 1)) ∙ seen_none fates steps (n + 1)

-- A walk commits nothing, or the batch; and it commits the batch where it isn't broken off and the batch is a new one.
pub data Commits (b : Batch) (fresh : Bool) (walked : StepsWalk) : Type 0 where
  nothing : committed_batches walked.moves ≡ [] → (walked.broken ≡ None → fresh ≡ false) → Commits b fresh walked
  batch : committed_batches walked.moves ≡ b ∷ [] → fresh ≡ true → Commits b fresh walked

-- no more steps
abbrev pub finished_walk : StepsWalk
finished_walk = record { moves = []; steps = 0; writes = 0; broken = None }

-- what a step commits by its own move
abbrev own_commits : DeviceStep → List Batch
own_commits (Changes m) = committed_batches (m ∷ [])
own_commits (Writes m) = committed_batches (m ∷ [])
own_commits Reads = []

step_commits : (step : DeviceStep) (made : Bool) (values : List (List ℕ))
    → committed_batches (step_moves step made values) ≡ (if made then own_commits step else [])
step_commits (Changes m) true values = foreign_first values (m ∷ [])
step_commits (Changes m) false values = foreign_first values []
step_commits (Writes m) true values =
    committed-append (m ∷ []) (map Foreign values) ∙ ap (λ v. committed_batches (m ∷ []) ++ v) (committed-foreign values) ∙ append-nil _
step_commits Reads true values = committed-foreign values
step_commits _ false values = committed-foreign values

step_first : (step : DeviceStep) (values : List (List ℕ)) (moves : List Move)
    → committed_batches (step_moves step true values ++ moves) ≡ own_commits step ++ committed_batches moves
step_first step values moves =
    committed-append (step_moves step true values) moves ∙ ap (λ v. v ++ committed_batches moves) (step_commits step true values)

quiet_step : (step : DeviceStep) (values : List (List ℕ)) (ends : End) (rest : StepsWalk) (b : Batch) (fresh : Bool) → own_commits step ≡ []
    → Commits b fresh rest → Commits b fresh (walk_from_step step values ends rest)
quiet_step step values Done rest b fresh quiet (nothing e unless) =
    nothing (step_first step values rest.moves ∙ ap (λ v. v ++ committed_batches rest.moves) quiet ∙ e) unless
quiet_step step values Done rest b fresh quiet (batch e is) =
    batch (step_first step values rest.moves ∙ ap (λ v. v ++ committed_batches rest.moves) quiet ∙ e) is
quiet_step step values (Fails fault true) rest b fresh quiet c = nothing (step_commits step true values ∙ quiet) (λ e. cc)
quiet_step step values (Fails fault false) rest b fresh quiet c = nothing (step_commits step false values) (λ e. cc)

last_step : (step : DeviceStep) (values : List (List ℕ)) (ends : End) (b : Batch) → own_commits step ≡ b ∷ []
    → Commits b true (walk_from_step step values ends finished_walk)
last_step step values Done b one = batch (step_first step values [] ∙ ap (λ v. v ++ []) one) refl
last_step step values (Fails fault true) b one = batch (step_commits step true values ∙ one) refl
last_step step values (Fails fault false) b one = nothing (step_commits step false values) (λ e. cc)

-- of the steps only the last commits, and that the batch, where it is a new one
abbrev CommitsLast : Batch → Bool → List DeviceStep → Type 0
CommitsLast b fresh [] = fresh ≡ false
CommitsLast b fresh (step ∷ steps) =
    ((own_commits step ≡ []) × CommitsLast b fresh steps) ⊎ ((own_commits step ≡ b ∷ []) × (steps ≡ []) × (fresh ≡ true))

walk_commits : (fates : ℕ → StepFate) (n : ℕ) (steps : List DeviceStep) (b : Batch) (fresh : Bool) → CommitsLast b fresh steps
    → Commits b fresh (walk fates n steps)
walk_commits fates n [] b fresh e = nothing refl (λ _. e)
walk_commits fates n (step ∷ steps) b fresh (inl q) =
    quiet_step step (fates n).brings (fates n).ends (walk fates (n + 1) steps) b fresh q.0 (walk_commits fates (n + 1) steps b fresh q.1)
walk_commits fates n (step ∷ steps) b fresh (inr l) = rw (l.1, l.2) (last_step step (fates n).brings (fates n).ends b l.0)

-- the step behind the reading step of a call of Basic
pub writing_commits : (fates : ℕ → StepFate) (b : Batch) → Commits b true (walk fates 2 (Writes (Commit b) ∷ []))
writing_commits fates b = walk_commits fates 2 (Writes (Commit b) ∷ []) b true (inr (refl, refl, refl))

-- the steps of a call of Opt behind its reading steps
abbrev pub steps_of_change : Bool → Bool → Batch → List DeviceStep
steps_of_change flag false b = []
steps_of_change true true b = Changes (Commit b) ∷ []
steps_of_change false true b = Changes Reset ∷ Changes (Placed b) ∷ Writes (Commit b) ∷ []

pub asks : (flag fresh : Bool) (b : Batch) → ask_steps Opt flag fresh b ≡ Reads ∷ Reads ∷ steps_of_change flag fresh b
asks true true b = refl
asks false true b = refl
asks _ false b = refl

changing_last : (flag fresh : Bool) (b : Batch) → CommitsLast b fresh (steps_of_change flag fresh b)
changing_last true true b = inr (refl, refl, refl)
changing_last false true b = inl (refl, inl (refl, inr (refl, refl, refl)))
changing_last _ false b = refl

-- what those steps commit, and those of a whole call of Opt
pub changing_commits : (fates : ℕ → StepFate) (flag fresh : Bool) (b : Batch)
    → Commits b fresh (walk fates 3 (steps_of_change flag fresh b))
changing_commits fates flag fresh b = walk_commits fates 3 (steps_of_change flag fresh b) b fresh (changing_last flag fresh b)

pub opt_commits : (fates : ℕ → StepFate) (flag fresh : Bool) (b : Batch)
    → Commits b fresh (walk fates 1 (Reads ∷ Reads ∷ steps_of_change flag fresh b))
opt_commits fates flag fresh b =
    walk_commits fates 1 (Reads ∷ Reads ∷ steps_of_change flag fresh b) b fresh (inl (refl, inl (refl, changing_last flag fresh b)))

-- a call commits nothing, or its batch
pub call_commits : (variant : Variant) (fates : ℕ → StepFate) (flag fresh : Bool) (b : Batch)
    → Commits b fresh (walk fates 1 (ask_steps variant flag fresh b))
call_commits Basic fates flag true b = walk_commits fates 1 (ask_steps Basic flag true b) b true (inl (refl, inr (refl, refl, refl)))
call_commits Basic fates flag false b = walk_commits fates 1 (ask_steps Basic flag false b) b false (inl (refl, refl))
call_commits Opt fates flag fresh b =
    subst (λ s. Commits b fresh (walk fates 1 s)) (sym (asks flag fresh b)) (opt_commits fates flag fresh b)

-- moves made one after another

pub made-append : {S : Type 0} (level : Level S) (xs ys : List Move) (s : S)
    → state_after_moves level s (xs ++ ys) ≡ state_after_moves level (state_after_moves level s xs) ys
made-append level xs ys s = fold-append level.made s xs ys

-- the history after others extended the register
abbrev pub history_with_values : History → List (List ℕ) → History
history_with_values y values = record y { items = y.items ++ map Value values }

pub taking_is : (i : Instance) (values : List (List ℕ)) (y : History) → state_after_moves (list_level i) y (map Foreign values)
    ≡ history_with_values y values
taking_is i [] y = ap (λ v. record y { items = v }) (sym (append-nil y.items))
taking_is i (v ∷ values) y =
    taking_is i values (history_after i y (Foreign v)) ∙ ap (λ x. record y { items = x })
    (append_assoc y.items (Value v ∷ []) (map Value values))

pub foreign_made : (i : Instance) (values : List (List ℕ)) (moves : List Move) (y : History)
    → state_after_moves (list_level i) y (map Foreign values ++ moves) ≡ state_after_moves (list_level i)
    (history_with_values y values) moves
foreign_made i values moves y =
    made-append (list_level i) (map Foreign values) moves y ∙ ap (λ x. state_after_moves (list_level i) x moves) (taking_is i values y)

-- what others put in among moves
pub foreign_move_values-append : (xs ys : List Move) → foreign_move_values (xs ++ ys) ≡ foreign_move_values xs ++ foreign_move_values ys
foreign_move_values-append [] ys = refl
foreign_move_values-append (Foreign v ∷ xs) ys = ap (λ w. v ∷ w) (foreign_move_values-append xs ys)
foreign_move_values-append (_ ∷ xs) ys = foreign_move_values-append xs ys

pub foreign_move_values-foreign : (values : List (List ℕ)) → foreign_move_values (map Foreign values) ≡ values
foreign_move_values-foreign [] = refl
foreign_move_values-foreign (v ∷ values) = ap (λ w. v ∷ w) (foreign_move_values-foreign values)

pub foreign_move_values-first : (values : List (List ℕ)) (moves : List Move) → foreign_move_values (map Foreign values ++ moves) ≡ values
    ++ foreign_move_values moves
foreign_move_values-first values moves = foreign_move_values-append (map Foreign values) moves ∙ ap (λ w. w ++ foreign_move_values moves)
    (foreign_move_values-foreign values)

-- what counts begins with the reset
pub moves_from_reset-foreign : (values : List (List ℕ)) (moves : List Move) → moves_from_reset (map Foreign values ++ moves)
    ≡ moves_from_reset moves
moves_from_reset-foreign [] moves = refl
moves_from_reset-foreign (v ∷ values) moves = moves_from_reset-foreign values moves

pub messages-made : (i : Instance) (xs ys : List Move) (y : History) → messages_of_moves i y (xs ++ ys)
    ≡ messages_of_moves i y xs ++ messages_of_moves i (state_after_moves (list_level i) y xs) ys
messages-made i [] ys y = refl
messages-made i (x ∷ xs) ys y =
    ap (λ v. move_messages i y x ++ v) (messages-made i xs ys (history_after i y x)) ∙ sym (append_assoc (move_messages i y x) _ _)

-- What holds of each move of a walk holds of all of them: so a call closes no segment, and a checkpoint commits nothing.

-- what holds of others' values, and of moves one after another
pub record GoesAlong (P : List Move → Type 0) : Type 0 where
  pub more : (xs ys : List Move) → P xs → P ys → P (xs ++ ys)
  pub others : (values : List (List ℕ)) → P (map Foreign values)

-- it holds of each step's own move
abbrev pub EachMove : (List Move → Type 0) → List DeviceStep → Type 0
EachMove P [] = Unit {0}
EachMove P (Reads ∷ steps) = EachMove P steps
EachMove P (Changes m ∷ steps) = P (m ∷ []) × EachMove P steps
EachMove P (Writes m ∷ steps) = P (m ∷ []) × EachMove P steps

step_along : (P : List Move → Type 0) (step : DeviceStep) (made : Bool) (values : List (List ℕ)) → GoesAlong P → EachMove P (step ∷ [])
    → P (step_moves step made values)
step_along P Reads made values g h = g.others values
step_along P (Changes m) true values g h = g.more (map Foreign values) (m ∷ []) (g.others values) h.0
step_along P (Changes m) false values g h = g.more (map Foreign values) [] (g.others values) (g.others [])
step_along P (Writes m) true values g h = g.more (m ∷ []) (map Foreign values) h.0 (g.others values)
step_along P (Writes m) false values g h = g.others values

after_along : (P : List Move → Type 0) (step : DeviceStep) (values : List (List ℕ)) (ends : End) (rest : StepsWalk) → GoesAlong P
    → EachMove P (step ∷ []) → P rest.moves → P (walk_from_step step values ends rest).moves
after_along P step values Done rest g h r = g.more (step_moves step true values) rest.moves (step_along P step true values g h) r
after_along P step values (Fails fault made) rest g h r = step_along P step made values g h

pub walk_along : (P : List Move → Type 0) → GoesAlong P → (fates : ℕ → StepFate) (n : ℕ) (steps : List DeviceStep) → EachMove P steps
    → P (walk fates n steps).moves
walk_along P g fates n [] h = g.others []
walk_along P g fates n (Reads ∷ steps) h =
    after_along P Reads (fates n).brings (fates n).ends (walk fates (n + 1) steps) g tt (walk_along P g fates (n + 1) steps h)
walk_along P g fates n (Changes m ∷ steps) h =
    after_along P (Changes m) (fates n).brings (fates n).ends (walk fates (n + 1) steps) g (h.0, tt)
    (walk_along P g fates (n + 1) steps h.1)
walk_along P g fates n (Writes m ∷ steps) h =
    after_along P (Writes m) (fates n).brings (fates n).ends (walk fates (n + 1) steps) g (h.0, tt) (walk_along P g fates (n + 1) steps h.1)

-- what is committed

abbrev CommitsNone : List Move → Type 0
CommitsNone moves = committed_batches moves ≡ []

none_along : GoesAlong CommitsNone
none_along = record {
  more = λ xs ys e f. committed-append xs ys ∙ ap (λ v. v ++ committed_batches ys) e ∙ f;
  others = committed-foreign;
}

-- the reading steps of a call commit nothing, nor does a checkpoint
pub reading_none : (variant : Variant) (fates : ℕ → StepFate) → committed_batches (walk fates 1 (reading_steps variant)).moves ≡ []
reading_none Basic fates = walk_along CommitsNone none_along fates 1 (reading_steps Basic) tt
reading_none Opt fates = walk_along CommitsNone none_along fates 1 (reading_steps Opt) tt

checkpoint_each : (variant : Variant) (is_open lost : Bool) → EachMove CommitsNone (checkpoint_steps variant is_open lost)
checkpoint_each Opt true false = (refl, tt)
checkpoint_each Opt _ _ = tt
checkpoint_each Basic is_open lost = tt

pub checkpoint_none : (variant : Variant) (is_open lost : Bool) (fates : ℕ → StepFate)
    → committed_batches (walk fates 1 (checkpoint_steps variant is_open lost)).moves ≡ []
checkpoint_none variant is_open lost fates =
    walk_along CommitsNone none_along fates 1 (checkpoint_steps variant is_open lost) (checkpoint_each variant is_open lost)

-- which segments are closed

pub closes-append : (xs ys : List Move) → has_close xs ≡ false → has_close (xs ++ ys) ≡ has_close ys
closes-append [] ys e = refl
closes-append (Close ∷ xs) ys e = cc
closes-append (_ ∷ xs) ys e = closes-append xs ys e

pub closes-foreign : (values : List (List ℕ)) → has_close (map Foreign values) ≡ false
closes-foreign [] = refl
closes-foreign (v ∷ values) = closes-foreign values

pub closes_first : (values : List (List ℕ)) (rest : List Move) → has_close (map Foreign values ++ rest) ≡ has_close rest
closes_first values rest = closes-append (map Foreign values) rest (closes-foreign values)

abbrev pub ClosesNone : List Move → Type 0
ClosesNone moves = has_close moves ≡ false

pub shut_along : GoesAlong ClosesNone
shut_along = record { more = λ xs ys e f. closes-append xs ys e ∙ f; others = closes-foreign }

changing_each : (flag fresh : Bool) (b : Batch) → EachMove ClosesNone (steps_of_change flag fresh b)
changing_each true true b = (refl, tt)
changing_each false true b = (refl, (refl, (refl, tt)))
changing_each _ false b = tt

-- a call closes no segment
pub opt_closes : (fates : ℕ → StepFate) (flag fresh : Bool) (b : Batch)
    → has_close (walk fates 1 (Reads ∷ Reads ∷ steps_of_change flag fresh b)).moves
    ≡ false
opt_closes fates flag fresh b =
    walk_along ClosesNone shut_along fates 1 (Reads ∷ Reads ∷ steps_of_change flag fresh b) (changing_each flag fresh b)

pub commit_keeps : (variant : Variant) (flag : Bool) (y : History) (b : Batch) → (history_after_commit variant flag y b).closed ≡ y.closed
commit_keeps Opt true y b = refl
commit_keeps _ _ y b = refl

-- where no segment is closed the closed ones are as before
pub closed_kept : (i : Instance) (moves : List Move) (y : History) → has_close moves ≡ false
    → (state_after_moves (list_level i) y moves).closed ≡ y.closed
closed_kept i [] y e = refl
closed_kept i (Commit b ∷ moves) y e = closed_kept i moves (history_after i y (Commit b)) e ∙ commit_keeps i.variant y.is_open y b
closed_kept i (Close ∷ moves) y e = cc
closed_kept i (m ∷ moves) y e = closed_kept i moves (history_after i y m) e
