-- What each move keeps and does: soundness, the digests, and the values that it leaves that stand
-- for no batch. With it: the last of owned batches; a batch that runs member by member.
use Rattle.std.specs.List.{slice_get}
use Rattle.std.proofs.Common.{Some, add-one, drop-cons}
use Rattle.std.proofs.lemmas.Bool.{or_left, or_right}
use Rattle.std.proofs.lemmas.Option.{slice_get_within, get_or_from_slice_get}
use Rattle.mm_module.specs.Meaning.{outputs_from, state_from}
use Rattle.mm_model.specs.declared.kept.KeptBatch.{KeptBatch}
use Rattle.mm_model.specs.History.{commit_moves, history_after_moves, with_batch}
use Rattle.mm_model.specs.Moves.{IsPartialRun}
use Rattle.mm_model.proofs.Below.{ℕ, ◌≡◌, Bool, true, false, List, [], ◌∷◌, ◌++◌, refl, sym, ap, ◌∙◌, inl, inr, append_assoc, map}
use Rattle.mm_model.proofs.Below.{append-nil, map-append, and_from, and_parts, Opt, Batch, Meaning, guard, register_of, anchor_of, Instance}
use Rattle.mm_model.proofs.Below.{opt_instance, basic_instance, RegisterEntry, Own, Value, History, Move, Commit, Foreign, Placed, Reset}
use Rattle.mm_model.proofs.Below.{Close, Power, items_of_all, entries_with_last_batch, history_after, history_after_commit, is_empty}
use Rattle.mm_model.proofs.Below.{has_value, are_own, is_same_batch, IsSound, AreItems, batches_in, IsOpening, IsAllowed, MayMove, Digests}
use Rattle.mm_model.proofs.Below.{digests_of, digests_after, digests_after_commit, IsOutside, MoveBrings, each_append, each_left}
use Rattle.mm_model.proofs.Below.{is_same_batch-Decides, total-push, true_not_false, joined-push, has_value-append, batches_in-append}
use Rattle.mm_model.proofs.Below.{register_more, values_renamed, renamed-push, if◌then◌else◌, AllByRecursion, Contains, zero_bytes}
use Rattle.mm_model.proofs.Below.{anchored_digest_of, values_of, values_in, summary-push, anchor-push, reads_zero, zero, suc, ◌+◌, length}
use Rattle.mm_model.proofs.Below.{get_or, arith, kept_batch, kept_batches, is_last, ◌<◌, drop, IsLawful}
use Rattle.mm_model.proofs.Paths.{current_clean, empty_cases, marred_has, shut_current}

has_value-push : (es : List RegisterEntry) (d : List ℕ) → has_value (es ++ Value d ∷ []) ≡ true
has_value-push es d = has_value-append es (Value d ∷ []) ∙ or_right (has_value es) true refl

has_value-own : (es : List RegisterEntry) (b : Batch) → has_value es ≡ true → has_value (es ++ Own b ∷ []) ≡ true
has_value-own es b h = has_value-append es (Own b ∷ []) ∙ or_left (has_value es) false h

are_own-push : (es : List RegisterEntry) (bs : List Batch) (b : Batch) → are_own es bs ≡ true → are_own (es ++ Own b ∷ []) (bs ++ b ∷ [])
    ≡ true
are_own-push [] [] b h = and_from (is_same_batch b b) true ((is_same_batch-Decides b b).1 refl) refl
are_own-push (Own c ∷ es) (d ∷ bs) b h =
    let both = and_parts (is_same_batch c d) (are_own es bs) h in
    and_from (is_same_batch c d) (are_own (es ++ Own b ∷ []) (bs ++ b ∷ [])) both.0 (are_own-push es bs b both.1)
are_own-push _ _ b h = absurd (true_not_false (sym h))

own_clean : (es : List RegisterEntry) (bs : List Batch) → are_own es bs ≡ true → has_value es ≡ false
own_clean [] bs h = refl
own_clean (Own b ∷ es) (c ∷ bs) h = own_clean es bs ((and_parts (is_same_batch b c) (are_own es bs) h).1)
own_clean _ _ h = absurd (true_not_false (sym h))

own_batches : (es : List RegisterEntry) (bs : List Batch) → are_own es bs ≡ true → batches_in es ≡ bs
own_batches [] [] h = refl
own_batches (Own b ∷ es) (c ∷ bs) h =
    let both = and_parts (is_same_batch b c) (are_own es bs) h in
    ap (λ x. x ∷ batches_in es) ((is_same_batch-Decides b c).0 both.0) ∙ ap (λ x. c ∷ x) (own_batches es bs both.1)
own_batches _ _ h = absurd (true_not_false (sym h))

longer_some : (bs : List Batch) (b : Batch) → is_empty (bs ++ b ∷ []) ≡ false
longer_some [] b = refl
longer_some (c ∷ bs) b = refl

renamed_items : (items : List RegisterEntry) (b : Batch) → batches_in items ≡ [] → AreItems (entries_with_last_batch items b) (b ∷ [])
renamed_items (Own c ∷ y ∷ items) b none = absurd (true_not_false (sym (ap is_empty none)))
renamed_items (Value d ∷ y ∷ items) b none = inr (inr refl)
renamed_items _ b none = inl (and_from (is_same_batch b b) true ((is_same_batch-Decides b b).1 refl) refl)

opening_bare : (i : Instance) (y : History) (b : Batch) → IsOpening i y b → batches_in y.items ≡ []
opening_bare i y b o =
    rw (o.items, batches_in-append o.front (Value (guard i.barrier b) ∷ []), append-nil (batches_in o.front)) o.others

module _ (y : History) where
  pub open_current : IsSound y → y.is_open ≡ true → is_empty y.current ≡ false
  open_current sound f =
      elim (empty_cases y.current) [ inl none ↦ absurd (true_not_false (sym f ∙ sound.shut_is (ap is_empty none))) | inr some ↦ some ]

  -- the register's items alone change, and hold a value that stands for no batch
  pub sound_items : (items : List RegisterEntry) → IsSound y → (y.is_open ≡ true → AreItems items y.current)
      → IsSound (record y { items = items })
  sound_items items sound h = record {
    open_is = sound.open_is;
    shut_is = sound.shut_is;
    filled = sound.filled;
    history = elim sound.history [
      | inl c ↦ inl (record { clean = c.clean; batches = c.batches })
      | inr m ↦ inr (record {
        before = m.before;
        last = m.last;
        rest = m.rest;
        split = m.split;
        clean = m.clean;
        marred = m.marred;
        shut = m.shut;
        batches = m.batches;
      })
    ];
    register = h;
  }

  sound_commit : (b : Batch) → IsSound y → y.is_open ≡ true → is_empty y.items ≡ false
      → IsSound (record y { batches = y.batches ++ b ∷ []; current = y.current ++ b ∷ []; items = y.items ++ Own b ∷ [] })
  sound_commit b sound f some =
      let clean = current_clean y sound (open_current sound f) in
      record {
        open_is = λ _. f;
        shut_is = λ e. absurd (true_not_false (sym e ∙ longer_some y.current b));
        filled = sound.filled;
        history = inl (record {
          clean = clean.clean;
          batches = ap (λ (v : List Batch). v ++ b ∷ []) clean.batches ∙ append_assoc (batches_in (items_of_all y.closed))
              y.current (b ∷ []);
        });
        register = λ _. elim (sound.register f) [
          | inl own ↦ inl (are_own-push y.items y.current b own)
          | inr (inl none) ↦ absurd (true_not_false (ap is_empty (sym none) ∙ some))
          | inr (inr has) ↦ inr (inr (has_value-own y.items b has))
        ];
      }

  pub opening_clean : IsSound y → has_value (items_of_all y.closed) ≡ false → y.is_open ≡ false
      → y.batches ≡ batches_in (items_of_all y.closed)
  opening_clean sound clean shut = elim sound.history [
    | inl c ↦ rw (shut_current y sound shut, append-nil (batches_in (items_of_all y.closed))) at c.batches
    | inr m ↦ absurd (true_not_false (sym (marred_has y m) ∙ clean))
  ]

sound_close : (y : History) → IsSound y → y.is_open ≡ true → is_empty y.items ≡ false
    → IsSound (record y { closed = y.closed ++ y.items ∷ []; current = []; is_open = false })
sound_close y sound f some =
    let clean = current_clean y sound (open_current y sound f) in
    record {
      open_is = λ e. absurd (true_not_false e);
      shut_is = λ _. refl;
      filled = each_append (λ s. is_empty s ≡ false) y.closed (y.items ∷ []) sound.filled (some, tt);
      history = elim (sound.register f) [
        | inl own ↦ inl (record {
          clean = rw (joined-push y.closed y.items, has_value-append (items_of_all y.closed) y.items, clean.clean)
              (own_clean y.items y.current own);
          batches = rw (append-nil (batches_in (items_of_all (y.closed ++ y.items ∷ []))), joined-push y.closed y.items)
              (rw (batches_in-append (items_of_all y.closed) y.items, own_batches y.items y.current own) clean.batches);
        })
        | inr (inl none) ↦ absurd (true_not_false (ap is_empty (sym none) ∙ some))
        | inr (inr has) ↦ inr (record {
          before = y.closed;
          last = y.items;
          rest = y.current;
          split = refl;
          clean = clean.clean;
          marred = has;
          shut = refl;
          batches = clean.batches;
        })
      ];
      register = λ e. absurd (true_not_false (sym e));
    }

module _ (i : Instance) where
  sound_opening : (y : History) (b : Batch) → IsSound y → y.is_open ≡ false → IsOpening i y b
      → IsSound (record y { batches = y.batches ++ b ∷ []; current = b ∷ []; is_open = true; items = entries_with_last_batch y.items b })
  sound_opening y b sound shut o = record {
    open_is = λ _. refl;
    shut_is = λ e. absurd (true_not_false (sym e));
    filled = sound.filled;
    history = inl (record { clean = o.clean; batches = ap (λ (v : List Batch). v ++ b ∷ []) (opening_clean y sound o.clean shut) });
    register = λ _. renamed_items y.items b (opening_bare i y b o);
  }

-- the history, where a segment is open or not
abbrev pub flagged : History → Bool → History
flagged y flag = record y { is_open = flag }

module _ (meaning : Meaning) (key barrier : List ℕ) where
  abbrev I : Instance
  I = opt_instance meaning key barrier

  sound_at : (y : History) (flag : Bool) (m : Move) → IsSound (flagged y flag) → MayMove I (flagged y flag) m
      → IsSound (history_after I (flagged y flag) m)
  sound_at y true (Commit b) sound may = sound_commit (flagged y true) b sound refl may
  sound_at y false (Commit b) sound may = sound_opening I (flagged y false) b sound refl may
  sound_at y flag (Foreign d) sound may =
      sound_items (flagged y flag) (y.items ++ Value d ∷ []) sound (λ _. inr (inr (has_value-push y.items d)))
  sound_at y flag (Placed b) sound may =
      let v = guard barrier b in
      sound_items (flagged y flag) (y.items ++ Value v ∷ []) sound (λ _. inr (inr (has_value-push y.items v)))
  sound_at y true Close sound may = sound_close (flagged y true) sound refl may
  sound_at y false Close sound may = absurd may
  sound_at y flag _ sound may = sound_items (flagged y flag) [] sound (λ _. inr (inl refl))

  pub sound_moved : (y : History) (m : Move) → IsSound y → MayMove I y m → IsSound (history_after I y m)
  sound_moved y m = sound_at y y.is_open m

pub basic_digests : (meaning : Meaning) (key : List ℕ) (y : History) (m : Move) → MayMove (basic_instance meaning key) y m
    → digests_of (basic_instance meaning key) (history_after (basic_instance meaning key) y m) ≡ digests_after (basic_instance meaning key)
    (digests_of (basic_instance meaning key) y) m
basic_digests meaning key y (Commit b) may =
    λ j. record (digests_of (basic_instance meaning key) y) {
      digest = summary-push meaning.id y.batches b j;
      count =
          total-push y.batches b j;
    }
basic_digests meaning key y (Foreign d) may =
    λ j. record (digests_of (basic_instance meaning key) y) { register = register_more zero_bytes y.items (Value d) j }
basic_digests meaning key y Power may = λ j. record (digests_of (basic_instance meaning key) y) { register = reads_zero j }
basic_digests meaning key y _ may = absurd may

module _ (meaning : Meaning) (key barrier : List ℕ) (y : History) where
  abbrev before : Digests
  before = digests_of (opt_instance meaning key barrier) y

  -- a commit, by whether a segment is open
  commit_digests : (b : Batch) (flag : Bool) → IsAllowed Opt flag (opt_instance meaning key barrier) y (Commit b)
      → digests_of (opt_instance meaning key barrier) (history_after_commit Opt flag y b) ≡ digests_after_commit Opt flag
      (opt_instance meaning key barrier) before b
  commit_digests b true may = λ j. record before { register = register_more barrier y.items (Own b) j; count = total-push y.batches b j }
  commit_digests b false may =
      let items : register_of (values_of barrier (entries_with_last_batch y.items b)) ≡ register_of (values_of barrier y.items) =
      rw may.items (ap register_of (values_renamed barrier may.front b)) in
      λ j. record before { flag = true; register = items j; count = total-push y.batches b j }

  close_digest : anchor_of meaning.id (map (values_of barrier) (y.closed ++ y.items ∷ []))
      ≡ anchored_digest_of (anchor_of meaning.id (map (values_of barrier) y.closed)) (register_of (values_of barrier y.items))
  close_digest =
      ap (anchor_of meaning.id) (map-append (values_of barrier) y.closed (y.items ∷ []))
      ∙ anchor-push meaning.id (map (values_of barrier) y.closed) (values_of barrier y.items)

  pub opt_digests : (m : Move) → MayMove (opt_instance meaning key barrier) y m
      → digests_of (opt_instance meaning key barrier) (history_after (opt_instance meaning key barrier) y m)
      ≡ digests_after (opt_instance meaning key barrier) before m
  opt_digests (Commit b) may = commit_digests b y.is_open may
  opt_digests (Foreign d) may = λ j. record before { register = register_more barrier y.items (Value d) j }
  opt_digests (Placed b) may = λ j. record before { register = register_more barrier y.items (Value (guard barrier b)) j }
  opt_digests Close may = λ j. record before { digest = close_digest j; flag = false }
  opt_digests _ may = λ j. record before { register = reads_zero j }

-- the values that stand for no batch
values_in-append : (es fs : List RegisterEntry) → values_in (es ++ fs) ≡ values_in es ++ values_in fs
values_in-append [] fs = refl
values_in-append (Own b ∷ es) fs = values_in-append es fs
values_in-append (Value d ∷ es) fs = ap (λ v. d ∷ v) (values_in-append es fs)

-- outside, by whether a segment is open
abbrev OutsideAt : List (List ℕ) → Bool → List (List RegisterEntry) → List RegisterEntry → Type 0
OutsideAt others flag closed items = AllByRecursion (Contains others) (values_in (items_of_all closed ++ (if flag then items else [])))

outside_more : (others : List (List ℕ)) (flag : Bool) (closed : List (List RegisterEntry)) (items : List RegisterEntry) (e : RegisterEntry)
    → OutsideAt others flag closed items → (flag ≡ true → AllByRecursion (Contains others) (values_in (e ∷ [])))
    → OutsideAt others flag closed (items ++ e ∷ [])
outside_more others true closed items e h new =
    rw (← append_assoc (items_of_all closed) items (e ∷ []), values_in-append (items_of_all closed ++ items) (e ∷ []))
    (each_append (Contains others) _ _ h (new refl))
outside_more others false closed items e h new = h

outside_less : (others : List (List ℕ)) (flag : Bool) (closed : List (List RegisterEntry)) (items : List RegisterEntry)
    → OutsideAt others flag closed items
    → OutsideAt others flag closed []
outside_less others true closed items h =
    rw (append-nil (items_of_all closed))
    (each_left (Contains others) (values_in (items_of_all closed)) _ (rw (values_in-append (items_of_all closed) items) at h))
outside_less others false closed items h = h

module _ (meaning : Meaning) (key barrier : List ℕ) (others : List (List ℕ)) where
  outside_at : (y : History) (flag : Bool) (m : Move) → IsOutside others (flagged y flag)
      → MayMove (opt_instance meaning key barrier) (flagged y flag) m → MoveBrings Opt flag others y m
      → IsOutside others (history_after (opt_instance meaning key barrier) (flagged y flag) m)
  outside_at y flag (Foreign d) h may b = outside_more others flag y.closed y.items (Value d) h (λ _. (b, tt))
  outside_at y true (Commit b) h may k = outside_more others true y.closed y.items (Own b) h (λ _. tt)
  outside_at y false (Commit b) h may k =
      rw (values_in-append (items_of_all y.closed) (entries_with_last_batch y.items b))
      (each_append (Contains others) _ _ (rw (append-nil (items_of_all y.closed)) at h) k)
  outside_at y true Close h may k = rw (append-nil (items_of_all (y.closed ++ y.items ∷ [])), joined-push y.closed y.items) h
  outside_at y flag Power h may k = outside_less others flag y.closed y.items h
  outside_at y false (Placed b) h may k = h
  outside_at y false Reset h may k = h
  outside_at y _ _ h may k = absurd may

  pub outside_moved : (y : History) (m : Move) → IsOutside others y → MayMove (opt_instance meaning key barrier) y m
      → MoveBrings Opt y.is_open others y m → IsOutside others (history_after (opt_instance meaning key barrier) y m)
  outside_moved y m = outside_at y y.is_open m

whole_at : (meaning : Meaning) (key barrier : List ℕ) (y : History) (flag : Bool) (b : Batch) → with_batch Opt (record y { is_open = flag })
    b ≡ history_after_moves (opt_instance meaning key barrier) (record y { is_open = flag }) (commit_moves Opt flag b)
whole_at meaning key barrier y true b = refl
whole_at meaning key barrier y false b = λ j. record {
  batches = y.batches ++ b ∷ [];
  closed = y.closed;
  current = b ∷ [];
  is_open = true;
  items = sym (renamed-push y.items (Value (guard barrier b)) b) j;
}

pub opt_whole : (meaning : Meaning) (key barrier : List ℕ) (y : History) (b : Batch)
    → with_batch Opt y b ≡ history_after_moves (opt_instance meaning key barrier) y (commit_moves Opt y.is_open b)
opt_whole meaning key barrier y b = whole_at meaning key barrier y y.is_open b

-- The last of owned batches.

-- the last batch, by its index
pub last_at : (batches : List KeptBatch) (n : ℕ) (last : KeptBatch) (b : Batch) → length batches ≡ n + 1 → last ≡ get_or batches n last
    → is_same_batch (kept_batch last) b ≡ is_last (kept_batches batches) b
last_at (x ∷ []) zero last b l is = ap (λ (k : KeptBatch). is_same_batch (kept_batch k) b) is
last_at (x ∷ y ∷ batches) (suc n) last b l is = last_at (y ∷ batches) n last b (omega (arith, l)) is
last_at _ _ last b l is = absurd (omega (arith, l))

-- A batch that runs member by member.

pub drop_at : (xs : List (List ℕ)) (i : ℕ) (m : List ℕ) → slice_get xs i ≡ Some m → drop i xs ≡ m ∷ drop (i + 1) xs
drop_at xs i m e =
    let lt : i < length xs = slice_get_within xs i m e in
    rw (add-one, drop-cons xs i m) (ap (λ (v : List ℕ). v ∷ drop (suc i) xs) (get_or_from_slice_get xs i m m e))

-- one member more, by what its step gave
pub ran_on : (meaning : Meaning) → IsLawful meaning → (start : List ℕ) (members : List (List ℕ)) (i : ℕ) (state next : List ℕ)
    (outputs longer : List (List ℕ)) (m : List ℕ) → IsPartialRun meaning start members i state outputs → slice_get members i ≡ Some m
    → next ≡ meaning.next state m → longer ≡ outputs ++ meaning.says state m ∷ []
    → IsPartialRun meaning start members (i + 1) next longer
ran_on meaning lawful start members i state next outputs longer m ran at next_is longer_is =
    let d : drop i members ≡ m ∷ drop (i + 1) members = drop_at members i m at in
    rw (longer_is, next_is) (record {
      state_is = sym (ap (λ (v : List (List ℕ)). state_from meaning state v) d) ∙ ran.state_is;
      outputs_are = append_assoc outputs (meaning.says state m ∷ []) (outputs_from meaning (meaning.next state m) (drop (i + 1) members))
          ∙ sym (ap (λ (v : List (List ℕ)). outputs ++ outputs_from meaning state v) d) ∙ ran.outputs_are;
      spelled = lawful.goes_on state m ran.spelled;
    })
