-- Opt: where the messages of a history, of a move and of its batch are listed, those of the history after it are.
use Rattle.mm_model.proofs.Below.{ℕ, ◌≡◌, ◌-◌, ◌≤◌, Bool, true, false, List, [], ◌∷◌, ◌++◌, length, map, take, drop, refl, sym, ap, ◌∙◌}
use Rattle.mm_model.proofs.Below.{subst, arith, length-append, AllByRecursion, Contains, flat_map, append-nil, map-append, length-drop}
use Rattle.mm_model.proofs.Below.{take-append-le, drop-append-le, take_all, take_at, drop_at, Opt, start_digest_of, extended_message}
use Rattle.mm_model.proofs.Below.{anchored_message, Batch, Meaning, guard_message, closing_message, guard, own_values, Instance}
use Rattle.mm_model.proofs.Below.{opt_instance, RegisterEntry, Own, Value, History, Move, Commit, Foreign, Placed, Close, items_of_all}
use Rattle.mm_model.proofs.Below.{extension_value, entries_with_last_batch, history_after, values_of, IsSound, IsClean, batches_in}
use Rattle.mm_model.proofs.Below.{AreMessagesIn, register_trail, closed_runs, runs_of, messages_of, MayMove, batch_messages, each_append}
use Rattle.mm_model.proofs.Below.{trail_push, nil_from_length, listed_value, own_values-append, values_of-append, length-batches_in}
use Rattle.mm_model.proofs.Below.{values_renamed}
use Rattle.mm_model.specs.Chains.{register_of, anchor_of}
use Rattle.mm_model.specs.Messages.{move_messages}
use Rattle.mm_model.proofs.Paths.{RunsListed, current_clean, shut_current, runs_parts, HistoryListed, history_listed}
use Rattle.mm_model.proofs.Moves.{flagged, open_current}

flat_each : {A B : Type 0} (P : B → Type 0) (f : A → List B) (xs : List A) → AllByRecursion (λ x. AllByRecursion P (f x)) xs
    → AllByRecursion P (flat_map f xs)
flat_each P f [] h = tt
flat_each P f (x ∷ xs) h = each_append P (f x) (flat_map f xs) h.0 (flat_each P f xs h.1)

unmap_each : {A B : Type 0} (P : B → Type 0) (f : A → B) (xs : List A) → AllByRecursion P (map f xs) → AllByRecursion (λ x. P (f x)) xs
unmap_each P f [] h = tt
unmap_each P f (x ∷ xs) h = (h.0, unmap_each P f xs h.1)

pub items_grow : (barrier : List ℕ) (all : List (List ℕ)) (items : List RegisterEntry) (e : RegisterEntry)
    → AreMessagesIn (register_trail (values_of barrier items)) all → Contains all (extended_message (register_of (values_of barrier items))
    (extension_value barrier e)) → AreMessagesIn (register_trail (values_of barrier (items ++ e ∷ []))) all
items_grow barrier all items e w c =
    rw (values_of-append barrier items (e ∷ []))
    (listed_value all (values_of barrier items) (extension_value barrier e) w c)

pub run_grows : (barrier : List ℕ) (all : List (List ℕ)) (run : List Batch) (b : Batch) → RunsListed barrier all run
    → Contains all (extended_message (register_of (own_values barrier run)) (guard barrier b)) → RunsListed barrier all (run ++ b ∷ [])
run_grows barrier all run b w c =
    rw (own_values-append barrier run (b ∷ []))
    (listed_value all (own_values barrier run) (guard barrier b) w c)

module _ (i : Instance) where
  listed_history : (y : History) (all : List (List ℕ)) → HistoryListed i y all → AreMessagesIn (messages_of Opt i y) all
  listed_history y all h =
      let C = Contains all in
      let runs = flat_each C (λ run. register_trail (own_values i.barrier run)) (runs_of y) h.runs in
      let segments = unmap_each (λ vs. AreMessagesIn (register_trail vs) all) (values_of i.barrier) y.closed h.listed.inner in
      let closed = flat_each C (λ segment. register_trail (values_of i.barrier segment)) y.closed segments in
      let two = each_append C _ _ (each_append C _ _ h.guards runs) closed in
      (h.starts, each_append C _ _ (each_append C _ _ two h.listed.last) h.listed.outer)

  -- the items alone change
  items_listed : (y : History) (items : List RegisterEntry) (all : List (List ℕ)) → HistoryListed i y all
      → AreMessagesIn (register_trail (values_of i.barrier items)) all → HistoryListed i (record y { items = items }) all
  items_listed y items all h w = record {
    starts = h.starts;
    guards = h.guards;
    runs = h.runs;
    listed = record { inner = h.listed.inner; outer = h.listed.outer; last = w };
  }

  pub items_messages : (y : History) (items : List RegisterEntry) (all : List (List ℕ)) → AreMessagesIn (messages_of Opt i y) all
      → AreMessagesIn (register_trail (values_of i.barrier items)) all → AreMessagesIn (messages_of Opt i (record y { items = items })) all
  items_messages y items all h w = listed_history (record y { items = items }) all (items_listed y items all (history_listed i y all h) w)

-- the batches before the open segment stay, where both grow by one
front_stays : (batches current : List Batch) (b : Batch)
    → take (length (batches ++ b ∷ []) - length (current ++ b ∷ [])) (batches ++ b ∷ []) ≡ take (length batches - length current) batches
front_stays batches current b =
    let whole = length-append batches (b ∷ []) in let part = length-append current (b ∷ []) in
    let same : length (batches ++ b ∷ []) - length (current ++ b ∷ []) ≡ length batches - length current = omega (arith, whole, part) in
    let fits : length batches - length current ≤ length batches = omega arith in
    ap (λ (n : ℕ). take n (batches ++ b ∷ [])) same ∙ take-append-le (length batches - length current) batches (b ∷ []) fits

module _ (barrier : List ℕ) (all : List (List ℕ)) where
  pub guards_grow : (batches : List Batch) (b : Batch) → AreMessagesIn (map (guard_message barrier) batches) all
      → Contains all (guard_message barrier b) → AreMessagesIn (map (guard_message barrier) (batches ++ b ∷ [])) all
  guards_grow batches b w c =
      rw (map-append (guard_message barrier) batches (b ∷ [])) (each_append (Contains all) _ _ w (c, tt))

  runs_commit : (y : History) (current : List Batch) (is_open : Bool) (items : List RegisterEntry) (b : Batch) → current ≡ y.current ++ b
      ∷ []
      → AllByRecursion (RunsListed barrier all) (runs_of y) → Contains all (extended_message (register_of (own_values barrier y.current))
      (guard barrier b)) → AllByRecursion (RunsListed barrier all) (runs_of (record y {
        batches = y.batches ++ b ∷ [];
        current = current;
        is_open = is_open;
        items = items;
      }))
  runs_commit y current is_open items b grown runs c =
      let parts = runs_parts (RunsListed barrier all) y runs in
      rw (grown, front_stays y.batches y.current b)
      (each_append (RunsListed barrier all) _ _ parts.0 (run_grows barrier all y.current b parts.1 c, tt))

commit_listed : (i : Instance) (y : History) (current : List Batch) (is_open : Bool) (items : List RegisterEntry) (b : Batch)
    (all : List (List ℕ))
    → current ≡ y.current ++ b ∷ [] → HistoryListed i y all → AreMessagesIn (register_trail (values_of i.barrier items)) all
    → AreMessagesIn (batch_messages i y (Commit b)) all
    → HistoryListed i (record y { batches = y.batches ++ b ∷ []; current = current; is_open = is_open; items = items }) all
commit_listed i y current is_open items b all grown h w m = record {
  starts = h.starts;
  guards = guards_grow i.barrier all y.batches b h.guards m.0;
  runs = runs_commit i.barrier all y current is_open items b grown h.runs m.1.0;
  listed = record { inner = h.listed.inner; outer = h.listed.outer; last = w };
}

-- one more closed segment, with the batches that follow
runs_push : (P : List Batch → Type 0) (closed : List (List RegisterEntry)) (segment : List RegisterEntry) (bs more : List Batch)
    → length bs ≡ length (items_of_all closed) → AllByRecursion P (closed_runs closed bs) → P more
    → AllByRecursion P (closed_runs (closed ++ segment ∷ []) (bs ++ more))
runs_push P [] segment bs more l h p =
    subst (λ (v : List Batch). AllByRecursion P (closed_runs (segment ∷ []) (v ++ more))) (sym (nil_from_length bs l)) (p, tt)
runs_push P (c ∷ []) segment bs more l h p =
    let size : length bs ≡ length c = l ∙ ap length (append-nil c) in
    (rw (take_at bs more (length c) size) h.0, (rw (drop_at bs more (length c) size) p, tt))
runs_push P (c ∷ d ∷ closed) segment bs more l h p =
    let whole = length-append c (items_of_all (d ∷ closed)) in let fits : length c ≤ length bs = omega (arith, l, whole) in
    let dropped = length-drop (length c) bs in
    let later = runs_push P (d ∷ closed) segment (drop (length c) bs) more (omega (arith, l, whole, dropped)) h.1 p in
    (rw (take-append-le (length c) bs more fits) h.0, rw (drop-append-le (length c) bs more fits) later)

close_listed : (i : Instance) (y : History) (all : List (List ℕ)) → IsClean y → HistoryListed i y all
    → Contains all (anchored_message (anchor_of i.meaning.id (map (values_of i.barrier) y.closed))
    (register_of (values_of i.barrier y.items)))
    → HistoryListed i (record y { closed = y.closed ++ y.items ∷ []; current = []; is_open = false }) all
unfolding anchor_of register_of
close_listed i y all clean h c =
    let V = values_of i.barrier in let R = RunsListed i.barrier all in let bs = batches_in (items_of_all y.closed) in
    let k = length y.batches - length y.current in let count = ap length clean.batches in
    let cut = length-append bs y.current in let size : length bs ≡ k = omega (arith, count, cut) in
    let front : take k y.batches ≡ bs = ap (take k) clean.batches ∙ take_at bs y.current k size in
    let parts = runs_parts R y h.runs in
    let closed = rw front at parts.0 in
    let whole : take (length y.batches - 0) y.batches ≡ bs ++ y.current =
    take_all (length y.batches - 0) y.batches (omega arith) ∙ clean.batches in
    let is : map V (y.closed ++ y.items ∷ []) ≡ map V y.closed ++ V y.items ∷ [] = map-append V y.closed (y.items ∷ []) in
    record {
      starts = h.starts;
      guards = h.guards;
      runs = each_append R _ ([] ∷ []) (rw whole (runs_push R y.closed y.items bs y.current
          (length-batches_in (items_of_all y.closed) clean.clean) closed parts.1)) (tt, tt);
      listed = record {
        inner = rw is (each_append (λ vs. AreMessagesIn (register_trail vs) all) _ _ h.listed.inner (h.listed.last, tt));
        outer = rw is (trail_push closing_message (start_digest_of Opt i.meaning.id) (map V y.closed) (V y.items) all h.listed.outer c);
        last = h.listed.last;
      };
    }

module _ (meaning : Meaning) (key barrier : List ℕ) where
  abbrev I : Instance
  I = opt_instance meaning key barrier

  -- by whether a segment is open
  listed_at : (y : History) (flag : Bool) (m : Move) (all : List (List ℕ)) → IsSound (flagged y flag) → MayMove I (flagged y flag) m
      → HistoryListed I (flagged y flag) all → AreMessagesIn (move_messages I (flagged y flag) m) all
      → AreMessagesIn (batch_messages I y m) all
      → HistoryListed I (history_after I (flagged y flag) m) all
  listed_at y true (Commit b) all sound may h w m =
      commit_listed I (flagged y true) (y.current ++ b ∷ []) true (y.items ++ Own b ∷ []) b all refl h
      (items_grow barrier all y.items (Own b) h.listed.last w.0) m
  listed_at y false (Commit b) all sound may h w m =
      let z = flagged y false in let same : values_of barrier (entries_with_last_batch y.items b) ≡ values_of barrier y.items =
      rw may.items (values_renamed barrier may.front b) in
      commit_listed I z (b ∷ []) true (entries_with_last_batch y.items b) b all
      (ap (λ (v : List Batch). v ++ b ∷ []) (sym (shut_current z sound refl))) h
      (rw same h.listed.last) m
  listed_at y true (Placed b) all sound may h w m = absurd may
  listed_at y false (Placed b) all sound may h w m =
      let v = Value (guard barrier b) in
      items_listed I (flagged y false) (y.items ++ v ∷ []) all h (items_grow barrier all y.items v h.listed.last w.0)
  listed_at y true Close all sound may h w m =
      let z = flagged y true in close_listed I z all (current_clean z sound (open_current z sound refl)) h w.0
  listed_at y false Close all sound may h w m = absurd may
  listed_at y flag (Foreign d) all sound may h w m =
      items_listed I (flagged y flag) (y.items ++ Value d ∷ []) all h (items_grow barrier all y.items (Value d) h.listed.last w.0)
  listed_at y flag _ all sound may h w m = items_listed I (flagged y flag) [] all h tt

  pub opt_messages : (y : History) (m : Move) (all : List (List ℕ)) → IsSound y → MayMove I y m → AreMessagesIn (messages_of Opt I y) all
      → AreMessagesIn (move_messages I y m) all → AreMessagesIn (batch_messages I y m) all
      → AreMessagesIn (messages_of Opt I (history_after I y m)) all
  opt_messages y m all sound may h w b =
      listed_history I (history_after I y m) all (listed_at y y.is_open m all sound may (history_listed I y all h) w b)
