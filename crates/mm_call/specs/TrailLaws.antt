-- A trail of device steps leads where its walk leads.
use Rattle.std.proofs.Common.{◌+◌, map, refl, sym, ap, ◌∙◌, subst, append_assoc, ◌≡◌, ℕ, Bool, true, false, List, [], ◌∷◌, ◌++◌, Option}
use Rattle.std.proofs.Common.{None, Some}
use Rattle.std.proofs.lemmas.Iterator.Adapters.{option_map_id}
use Rattle.std.proofs.lemmas.List.{append-nil, map-append}
use Rattle.std.proofs.lemmas.List.Sums.{fold-append}
use Rattle.std.specs.Option.{option_map}
use Rattle.mm_call.specs.Below.{next_count, zero_bytes, extended_digest_of, Variant, Basic, Opt, IsCell, cell_spelling, Cell, Item}
use Rattle.mm_call.specs.Below.{Standing, own_item, foreign_item, item_values, register_after, Act, ReadCell, WriteCell, ReadRegister}
use Rattle.mm_call.specs.Below.{ResetRegister, ExtendRegister, items_beside, cell_after, items_after, writes_after, StepFault, Move}
use Rattle.mm_call.specs.Below.{Foreign, Instance, Digests, digests_after, DeviceStep, Reads, Changes, Writes}
use Rattle.std.specs.List.{fold}
use Rattle.mm_call.specs.CallFinding.{state_after_moves, digest_level}
use Rattle.mm_call.specs.CallOutcome.{StepFate, StepsWalk, walk, walk_from_step, step_moves, writes_with_step}
use Rattle.mm_call.specs.Standing.{RegisterStandsAt, StandsAt, items_after_move, items_after_moves, count_after_more, register_by, items_by}
use Rattle.mm_call.specs.Standing.{IsChange, IsWrite, MakesStep, StepIsMade, RestFollows, IsTrail, WalkLeads, TrailsLead}

-- the register's value, where its items are told
abbrev pub register_of_items : Option (List Item) → Option (List ℕ)
register_of_items items = option_map (λ xs. register_after (item_values xs)) items

-- where the register is read, its value goes on
reads_then : (variant : Variant) (before now : Option (List ℕ)) (r s : List ℕ) → (before ≡ Some r → now ≡ Some s)
    → RegisterStandsAt variant before r → RegisterStandsAt variant now s
reads_then Basic before now r s h e = tt
reads_then Opt before now r s h e = h e

pub foreign_values : (values : List (List ℕ)) → item_values (map foreign_item values) ≡ values
foreign_values [] = refl
foreign_values (v ∷ values) = ap (λ (vs : List (List ℕ)). v ∷ vs) (foreign_values values)

read_more : (xs more : List Item) → register_after (item_values (xs ++ more))
    ≡ fold extended_digest_of (register_after (item_values xs)) (item_values more)
read_more xs more =
    ap (λ (vs : List (List ℕ)). register_after vs) (map-append (λ (item : Item). item.value) xs more)
    ∙ fold-append extended_digest_of zero_bytes (item_values xs) (item_values more)

pub reads_beside : (items : Option (List Item)) (values : List (List ℕ)) (r : List ℕ) → register_of_items items ≡ Some r
    → register_of_items (items_beside values items) ≡ Some (fold extended_digest_of r values)
reads_beside None values r e = cc
reads_beside (Some xs) values r e =
    let f : register_after (item_values xs) ≡ r = cc in
    ap (λ (v : List ℕ). Some v) (read_more xs (map foreign_item values)
    ∙ ap (λ (vs : List (List ℕ)). fold extended_digest_of (register_after (item_values xs)) vs) (foreign_values values)
    ∙ ap (λ (s : List ℕ). fold extended_digest_of s values) f)

reads_after : (act : Act) (items : Option (List Item)) (r : List ℕ) → register_of_items items ≡ Some r
    → register_of_items (items_after act true items) ≡ Some (register_by act r)
reads_after ResetRegister None r e = cc
reads_after ResetRegister (Some xs) r e = refl
reads_after (ExtendRegister value) None r e = cc
reads_after (ExtendRegister value) (Some xs) r e =
    let f : register_after (item_values xs) ≡ r = cc in
    ap (λ (x : List ℕ). Some x) (read_more xs (own_item value ∷ []) ∙ ap (λ (s : List ℕ). extended_digest_of s value) f)
reads_after _ items r e = e

items_of : (act : Act) (items : Option (List Item)) → items_after act true items ≡ option_map (items_by act) items
items_of ResetRegister items = refl
items_of (ExtendRegister value) items = refl
items_of _ items = sym (option_map_id items)

-- values of others

-- the digests with this register
abbrev pub with_register : Digests → List ℕ → Digests
with_register d register = record d { register = register }

pub foreign_made : (i : Instance) (d : Digests) (values : List (List ℕ))
    → state_after_moves (digest_level i) d (map Foreign values) ≡ with_register d (fold extended_digest_of d.register values)
foreign_made i d [] = refl
foreign_made i d (v ∷ values) = foreign_made i (with_register d (extended_digest_of d.register v)) values

-- what the register shows of them
pub foreign_shown : (i : Instance) (d : Digests) (values : List (List ℕ)) (items : List Item)
    → items_after_moves i d (map Foreign values) items ≡ items ++ map foreign_item values
foreign_shown i d [] items = sym (append-nil items)
foreign_shown i d (v ∷ values) items =
    foreign_shown i (with_register d (extended_digest_of d.register v)) values (items ++ foreign_item v ∷ [])
    ∙ append_assoc items (foreign_item v ∷ []) (map foreign_item values)

pub state_after_moves-append : (i : Instance) (d : Digests) (xs ys : List Move)
    → state_after_moves (digest_level i) d (xs ++ ys) ≡ state_after_moves (digest_level i) (state_after_moves (digest_level i) d xs) ys
state_after_moves-append i d xs ys = fold-append (digests_after i) d xs ys

pub shown-append : (i : Instance) (d : Digests) (xs ys : List Move) (items : List Item)
    → items_after_moves i d (xs ++ ys) items ≡ items_after_moves i (state_after_moves (digest_level i) d xs) ys
    (items_after_moves i d xs items)
shown-append i d [] ys items = refl
shown-append i d (m ∷ xs) ys items = shown-append i (digests_after i d m) xs ys (items_after_move i.variant d.flag i m items)

-- One step

-- what one step leaves
record StepLeads (i : Instance) (d : Digests) (moves : List Move) (old new : Standing) : Type 0 where
  stands : StandsAt i new (state_after_moves (digest_level i) d moves)
  items : new.items ≡ option_map (items_after_moves i d moves) old.items

map_twice : (f g : List Item → List Item) (items : Option (List Item))
    → option_map g (option_map f items) ≡ option_map (λ (xs : List Item). g (f xs)) items
map_twice f g None = refl
map_twice f g (Some xs) = refl

-- moves, and moves behind them
leads_on : (i : Instance) (d : Digests) (xs ys : List Move) (old middle new : Standing) → StepLeads i d xs old middle
    → StepLeads i (state_after_moves (digest_level i) d xs) ys middle new → StepLeads i d (xs ++ ys) old new
leads_on i d xs ys old middle new p q =
    let e : Digests = state_after_moves (digest_level i) d xs in
    record {
      stands = rw (state_after_moves-append i d xs ys) q.stands;
      items = q.items ∙ ap (λ (x : Option (List Item)). option_map (items_after_moves i e ys) x) p.items
          ∙ map_twice (items_after_moves i d xs) (items_after_moves i e ys) old.items
          ∙ (λ j. option_map (λ (zs : List Item). sym (shown-append i d xs ys zs) j) old.items);
    }

-- others' values alone
brought : (i : Instance) (d : Digests) (values : List (List ℕ)) (old new : Standing) → StandsAt i old d → new.cell ≡ old.cell
    → new.items ≡ items_beside values old.items → StepLeads i d (map Foreign values) old new
brought i d values old new s cell items = record {
  stands = rw (foreign_made i d values) (record {
    spells = s.spells;
    cell = cell ∙ s.cell;
    reads = reads_then i.variant (register_of_items old.items) (register_of_items new.items) d.register
        (fold extended_digest_of d.register values)
        (λ e. ap register_of_items items ∙ reads_beside old.items values d.register e) s.reads;
  });
  items = items ∙ (λ j. option_map (λ xs. sym (foreign_shown i d values xs) j) old.items);
}

-- a change of the register alone, and behind others' values
change_leads : (i : Instance) (d : Digests) (act : Act) (m : Move) (old new : Standing) → StandsAt i old d → IsChange i d act m
    → new.cell ≡ old.cell → new.items ≡ items_after act true old.items → StepLeads i d (m ∷ []) old new
change_leads i d act m old new s c cell items = record {
  stands = record {
    spells = subst IsCell (sym (c.cell d.register)) s.spells;
    cell = cell ∙ s.cell ∙ ap (λ (x : Cell). Some (cell_spelling x)) (sym (c.cell d.register));
    reads = reads_then i.variant (register_of_items old.items) (register_of_items new.items) d.register (digests_after i d m).register
        (λ h. ap register_of_items items ∙ reads_after act old.items d.register h ∙ ap (λ (x : List ℕ). Some x)
        (sym (c.register d.register)))
        s.reads;
  };
  items = items ∙ items_of act old.items ∙ (λ j. option_map (λ xs. sym (c.shows xs) j) old.items);
}

changed : (i : Instance) (d : Digests) (act : Act) (m : Move) (values : List (List ℕ)) (old new : Standing) → StandsAt i old d
    → IsChange i d act m → new.cell ≡ old.cell → new.items ≡ items_after act true (items_beside values old.items)
    → StepLeads i d (map Foreign values ++ m ∷ []) old new
changed i d act m values old new s c cell items =
    let middle : Standing = record old { items = items_beside values old.items } in
    let first = brought i d values old middle s refl refl in
    leads_on i d (map Foreign values) (m ∷ []) old middle new first (rw (foreign_made i d values)
    (change_leads i (with_register d (fold extended_digest_of d.register values)) act m middle new
    (subst (StandsAt i middle) (foreign_made i d values) first.stands)
    (record { cell = c.cell; register = c.register; shows = c.shows }) cell items))

-- a write of the cell, before others' values
written : (i : Instance) (d : Digests) (bytes : List ℕ) (m : Move) (values : List (List ℕ)) (old new : Standing) → StandsAt i old d
    → IsWrite i d bytes m → new.cell ≡ option_map (λ _. bytes) old.cell → new.items ≡ items_beside values old.items
    → StepLeads i d (m ∷ map Foreign values) old new
written i d bytes m values old new s w cell items =
    let middle : Standing = record old { cell = option_map (λ _. bytes) old.cell } in
    let first : StepLeads i d (m ∷ []) old middle = record {
      stands = record {
        spells = w.spells;
        cell = ap (option_map (λ _. bytes)) s.cell ∙ ap (λ (x : List ℕ). Some x) w.cell;
        reads = subst (RegisterStandsAt i.variant (register_of_items old.items)) (sym w.register) s.reads;
      };
      items = sym (option_map_id old.items) ∙ (λ j. option_map (λ xs. sym (w.shows xs) j) old.items);
    } in
    leads_on i d (m ∷ []) (map Foreign values) old middle new first
    (brought i (digests_after i d m) values middle new first.stands cell items)

-- what a step leaves, by whether its effect was made
step_leads : (act : Act) (step : DeviceStep) (is_made : Bool) (i : Instance) (d : Digests) (values : List (List ℕ)) (old new : Standing)
    → StandsAt i old d → MakesStep i d act step → new.cell ≡ cell_after act is_made old.cell
    → new.items ≡ items_after act is_made (items_beside values old.items) → StepLeads i d (step_moves step is_made values) old new
step_leads ReadCell Reads is_made i d values old new s m cell items = brought i d values old new s cell items
step_leads ReadRegister Reads is_made i d values old new s m cell items = brought i d values old new s cell items
step_leads ResetRegister (Changes m) true i d values old new s c cell items = changed i d ResetRegister m values old new s c cell items
step_leads ResetRegister (Changes m) false i d values old new s c cell items =
    subst (λ (ms : List Move). StepLeads i d ms old new) (sym (append-nil (map Foreign values))) (brought i d values old new s cell items)
step_leads (ExtendRegister value) (Changes m) true i d values old new s c cell items =
    changed i d (ExtendRegister value) m values old new s c cell items
step_leads (ExtendRegister value) (Changes m) false i d values old new s c cell items =
    subst (λ (ms : List Move). StepLeads i d ms old new) (sym (append-nil (map Foreign values))) (brought i d values old new s cell items)
step_leads (WriteCell bytes) (Writes m) true i d values old new s w cell items = written i d bytes m values old new s w cell items
step_leads (WriteCell bytes) (Writes m) false i d values old new s w cell items = brought i d values old new s cell items
step_leads _ _ is_made i d values old new s x cell items = absurd x

-- the count of writes
act_writes : (act : Act) (step : DeviceStep) (i : Instance) (d : Digests) (count rest : ℕ) → MakesStep i d act step
    → count_after_more rest (writes_after act count) ≡ count_after_more (writes_with_step step rest) count
act_writes ReadCell Reads i d count rest m = refl
act_writes ReadRegister Reads i d count rest m = refl
act_writes ResetRegister (Changes m) i d count rest c = refl
act_writes (ExtendRegister value) (Changes m) i d count rest c = refl
act_writes (WriteCell bytes) (Writes m) i d count rest w = refl
act_writes _ _ i d count rest x = absurd x

-- a step that was made, with the room behind it
record StepEnds (i : Instance) (d : Digests) (step : DeviceStep) (moves : List Move) (old new : Standing) : Type 0 where
  leads : StepLeads i d moves old new
  steps : new.steps ≡ next_count old.steps
  writes : (rest : ℕ) → count_after_more rest new.writes ≡ count_after_more (writes_with_step step rest) old.writes

step_ends : (i : Instance) (d : Digests) (fate : StepFate) (step : DeviceStep) (old new : Standing) (fault : Option StepFault)
    → StandsAt i old d
    → (t : StepIsMade i d fate step old new fault) → StepEnds i d step (step_moves step t.goes.is_made fate.brings) old new
step_ends i d fate step old new fault s t = record {
  leads = step_leads t.act step t.goes.is_made i d fate.brings old new s t.makes (ap (λ (x : Standing). x.cell) t.room ∙ t.goes.cell)
      (ap (λ (x : Standing). x.items) t.room ∙ t.goes.items
      ∙ ap (λ (vs : List (List ℕ)). items_after t.act t.goes.is_made (items_beside vs old.items)) (sym t.brings));
  steps = ap (λ (x : Standing). x.steps) t.room ∙ t.goes.steps;
  writes = λ (rest : ℕ). ap (λ (x : Standing). count_after_more rest x.writes) t.room
      ∙ ap (λ (n : ℕ). count_after_more rest n) t.goes.writes
      ∙ act_writes t.act step i d old.writes rest t.makes;
}

-- a step that was done, and the rest; or one that failed, the last
ended : (answer : Option StepFault) (i : Instance) (d : Digests) (fate : StepFate) (step : DeviceStep) (rest : StepsWalk)
    (old middle new : Standing)
    (fault : Option StepFault) (going : Type 0) → StandsAt i old d → StepIsMade i d fate step old middle answer
    → (let e : Digests = state_after_moves (digest_level i) d (step_moves step true fate.brings) in
    (going → StandsAt i middle e → WalkLeads i e rest middle new fault) → RestFollows answer going ((new ≡ middle) × (fault ≡ answer))
    → WalkLeads i d (walk_from_step step fate.brings fate.ends rest) old new fault)
ended None i d fate step rest old middle new fault going s t h r =
    let moves : List Move = step_moves step true fate.brings in
    let ends : StepEnds i d step moves old middle =
    subst (λ (m : Bool). StepEnds i d step (step_moves step m fate.brings) old middle) t.goes.ends.made
    (step_ends i d fate step old middle None s t) in
    let l = h r ends.leads.stands in
    let both = leads_on i d moves rest.moves old middle new ends.leads (record { stands = l.stands; items = l.items }) in
    rw t.ends (record {
      stands = both.stands;
      broken = l.broken;
      steps = l.steps ∙ ap (λ (n : ℕ). count_after_more rest.steps n) ends.steps;
      writes = l.writes ∙ ends.writes rest.writes;
      items = both.items;
    })
ended (Some f) i d fate step rest old middle new fault going s t h r =
    let ends = step_ends i d fate step old middle (Some f) s t in
    rw (t.ends, r.0, r.1)
    (record { stands = ends.leads.stands; broken = refl; steps = ends.steps; writes = ends.writes 0; items = ends.leads.items })

pub leads : TrailsLead
leads i d fates n [] old new fault s t =
    rw (t.0, t.1) (record { stands = s; broken = refl; steps = refl; writes = refl; items = sym (option_map_id old.items) })
leads i d fates n (step ∷ steps) old new fault s t =
    let e : Digests = state_after_moves (digest_level i) d (step_moves step true (fates n).brings) in
    ended t.1 i d (fates n) step (walk fates (n + 1) steps) old t.0 new fault (IsTrail i e fates (n + 1) steps t.0 new fault) s t.2
    (λ (r : IsTrail i e fates (n + 1) steps t.0 new fault) (stands : StandsAt i t.0 e). leads i e fates (n + 1) steps t.0
    new fault stands r)
    t.3
