-- What a line reader sees and says, by what it looked at and what it took. With it: known bytes
-- that grow or are consumed by two pieces, one after the other; where lines end in a list of bytes,
-- and the part of a buffer that is held.
use Rattle.std.specs.Borrow.{Bor}
use Rattle.std.proofs.Common.{subst}
use Rattle.std.proofs.lemmas.List.Elements.{All-take, All-append}
use Rattle.std.proofs.Math.Seq.{take-add, take-append-add, drop-append-add}
use Rattle.mm_bytes.specs.declared.fault.Failed.{Failed}
use Rattle.mm_base.specs.declared.lines.LineFault.TheVariants.{ReadFault}
use Rattle.mm_base.specs.declared.lines.Read.TheVariants as said
use Rattle.mm_base.specs.declared.lines.SeenLine.TheVariants as seen
use Rattle.mm_base.specs.Input.{IsUnbroken, FindsLine, IsLineFront, IsLong, ReaderSees, SeesLine, seen_line_at_end}
use Rattle.mm_base.specs.Streams.{ReadsNextLine}
use Rattle.mm_base.proofs.Below.{ℕ, ◌≡◌, ◌+◌, ◌<◌, List, [], ◌++◌, take, drop, length, refl, sym, ap, ◌∙◌, arith, length-append}
use Rattle.mm_base.proofs.Below.{append_assoc, take-append-drop, Option, None, Some, Appends, Consumes, Keeps, FrontGoesOut, IsCutShort}
use Rattle.mm_base.proofs.Below.{◌≢◌, ◌∷◌, Result, Ok, Err, append-nil, length-take, take-take, IsAtEnd, HasBreakAt, SourceRefills}
use Rattle.mm_base.proofs.Below.{TakesHeldBytes, ◌-◌, ◌≤◌, length-drop, drop-drop, drop-take, slice_range}

-- Known bytes that grow or are consumed by two pieces, one after the other.

pub Appends-both : (old mid new : Option (List ℕ)) (xs ys : List ℕ)
    → Appends old mid xs → Appends mid new ys → Appends old new (xs ++ ys)
Appends-both None mid new xs ys one two = tt
Appends-both (Some a) None new xs ys one two = absurd one
Appends-both (Some a) (Some b) None xs ys one two = absurd two
Appends-both (Some a) (Some b) (Some c) xs ys one two = rw (two, one) (append_assoc a xs ys)

pub Consumes-none : (known : Option (List ℕ)) → Consumes known known []
Consumes-none None = tt
Consumes-none (Some xs) = refl

pub Consumes-both : (old mid new : Option (List ℕ)) (xs ys : List ℕ)
    → Consumes old mid xs → Consumes mid new ys → Consumes old new (xs ++ ys)
Consumes-both None mid new xs ys one two = tt
Consumes-both (Some a) None new xs ys one two = absurd one
Consumes-both (Some a) (Some b) None xs ys one two = absurd two
Consumes-both (Some a) (Some b) (Some c) xs ys one two = rw (one, two) (sym (append_assoc xs ys c))

pub Consumes-kept : (old mid new : Option (List ℕ)) (xs : List ℕ) → Consumes old mid xs → Keeps mid new → Consumes old new xs
Consumes-kept None mid new xs one two = tt
Consumes-kept (Some a) None new xs one two = absurd one
Consumes-kept (Some a) (Some b) None xs one two = absurd two
Consumes-kept (Some a) (Some b) (Some c) xs one two = one ∙ ap (λ (r : List ℕ). xs ++ r) (sym two)

pub FrontGoesOut-more : (old mid new : Option (List ℕ)) (bytes rest : List ℕ) (count : ℕ)
    → FrontGoesOut old mid bytes rest → Appends mid new (take count rest) → FrontGoesOut old new bytes (drop count rest)
FrontGoesOut-more old mid new bytes rest count so more = record {
  sent = so.sent ++ take count rest;
  parts =
      so.parts ∙ ap (λ (r : List ℕ). so.sent ++ r) (sym (take-append-drop count rest))
      ∙ sym (append_assoc so.sent (take count rest) (drop count rest));
  appended = Appends-both old mid new so.sent (take count rest) so.appended more;
}

same_length : (a c before bytes : List ℕ) → Some a ≡ Some before → Some c ≡ Some (before ++ bytes) → length c ≡ length a + length bytes
same_length a c before bytes e now =
    let f : c ≡ a ++ bytes = cc in ap length f ∙ length-append a bytes

-- with a rest to go, not all went out
pub FrontGoesOut-short : (old mid new : Option (List ℕ)) (bytes rest : List ℕ) → FrontGoesOut old mid bytes rest → Keeps mid new
    → 0 < length rest → IsCutShort old new bytes
FrontGoesOut-short None mid new bytes rest so kept some before e now = cc
FrontGoesOut-short (Some a) None new bytes rest so kept some before e now = absurd so.appended
FrontGoesOut-short (Some a) (Some b) None bytes rest so kept some before e now = absurd kept
FrontGoesOut-short (Some a) (Some b) (Some c) bytes rest so kept some before e now =
    let l : length c ≡ length a + length so.sent = ap length (kept ∙ so.appended) ∙ length-append a so.sent in
    let m : length bytes ≡ length so.sent + length rest = ap length so.parts ∙ length-append so.sent rest in
    let n : length c ≡ length a + length bytes = same_length a c before bytes e now in
    omega (arith, l, m, n)

-- What a line reader sees and says, by what it looked at and what it took.

-- a line feed stands too far behind
pub long_with_break : (limit size : ℕ) (held : List ℕ) → limit < size → HasBreakAt held size → IsLong limit held
long_with_break limit size held far breaks =
    let front : take (limit + 1) (take size held) ≡ take (limit + 1) held = take-take (limit + 1) size held (omega (arith, far)) in record {
      unbroken = rw (← front) (All-take (λ (byte : ℕ). byte ≢ 10) (limit + 1) (take size held) breaks.line);
      long = omega (arith, far, breaks.within);
    }

-- there is none in too many bytes
pub long_unbroken : (limit : ℕ) (held : List ℕ) → limit < length held → IsUnbroken held → IsLong limit held
long_unbroken limit held long unbroken =
    record { unbroken = All-take (λ (byte : ℕ). byte ≢ 10) (limit + 1) held unbroken; long = long }

-- a look found a line
pub sees_line : (limit : ℕ) (left left' : Option (List ℕ)) (held was now : List ℕ) (looked : Option ℕ) (size : ℕ)
    → TakesHeldBytes left left' held [] was → now ≡ was → SeesLine limit was (Ok looked) → looked ≡ Some size
    → ReaderSees limit left left' held now (Ok (seen.Line size))
sees_line limit left left' held was now looked size took same sees is =
    let line : SeesLine limit was (Ok (Some size)) = subst (λ (x : Option ℕ). SeesLine limit was (Ok x)) is sees in
    record { takes = rw same took; finds = rw same line }

-- a look found none so far
pub sees_front : (limit : ℕ) (was now : List ℕ) (looked : Option ℕ) → now ≡ was → SeesLine limit was (Ok looked) → looked ≡ None
    → IsLineFront limit now
sees_front limit was now looked same sees is =
    let front : SeesLine limit was (Ok None) = subst (λ (x : Option ℕ). SeesLine limit was (Ok x)) is sees in rw same front

-- more was taken
pub takes_more : (left mid left' : Option (List ℕ)) (held was front now : List ℕ) (result : Result ℕ Failed)
    → TakesHeldBytes left mid held [] was → front ≡ was → SourceRefills mid left' front now result → TakesHeldBytes left left' held [] now
takes_more left mid left' held was front now result took same more = record {
  taken = took.taken ++ more.taken;
  consumed = Consumes-both left mid left' took.taken more.taken took.consumed more.consumed;
  goes =
      sym (append_assoc held took.taken more.taken)
      ∙ ap (λ (xs : List ℕ). xs ++ more.taken) (took.goes ∙ sym same) ∙ sym more.joined;
}

-- a source that failed gave nothing
pub sees_fault : (limit : ℕ) (left mid left' : Option (List ℕ)) (held was front now : List ℕ) (fault : Failed)
    → TakesHeldBytes left mid held [] was → front ≡ was → IsLineFront limit front → SourceRefills mid left' front now (Err fault)
    → ReaderSees limit left left' held now (Err ReadFault)
sees_fault limit left mid left' held was front now fault took same short more =
    let kept : now ≡ front = more.joined ∙ ap (λ (xs : List ℕ). front ++ xs) more.gives ∙ append-nil front in
    record { takes = takes_more left mid left' held was front now (Err fault) took same more; finds = rw kept short }

finds_end : (limit : ℕ) (left : Option (List ℕ)) (held : List ℕ) → IsLineFront limit held → IsAtEnd left
    → FindsLine limit left held (Ok (seen_line_at_end held))
finds_end limit left [] short ended = (refl, ended)
finds_end limit left (byte ∷ bytes) short ended = (short, omega arith, ended)

none_taken : (taken : List ℕ) → length taken ≡ 0 → taken ≡ []
none_taken [] none = refl
none_taken (byte ∷ bytes) none = absurd (omega (arith, none))

-- a source at its end gave nothing
pub sees_end : (limit : ℕ) (left mid left' : Option (List ℕ)) (held was front now : List ℕ) (count : ℕ)
    → TakesHeldBytes left mid held [] was → front ≡ was → IsLineFront limit front → SourceRefills mid left' front now (Ok count) → count ≡ 0
    → ReaderSees limit left left' held now (Ok (seen_line_at_end now))
sees_end limit left mid left' held was front now count took same short more none =
    let nothing : more.taken ≡ [] = none_taken more.taken (more.gives.0 ∙ none) in
    let kept : now ≡ front = more.joined ∙ ap (λ (xs : List ℕ). front ++ xs) nothing ∙ append-nil front in
    record {
      takes = takes_more left mid left' held was front now (Ok count) took same more;
      finds = finds_end limit left' now (rw kept short) (more.gives.1 none);
    }

-- a line that was seen is said
pub reads_line : (limit : ℕ) (left left' : Option (List ℕ)) (held front rest : List ℕ) (size : ℕ) (line : Bor (List ℕ))
    → ReaderSees limit left left' held front (Ok (seen.Line size)) → line.now ≡ take size front → rest ≡ drop (size + 1) front
    → ReadsNextLine limit left left' held (Ok (said.Line line)) rest
reads_line limit left left' held front rest size line sees is left_over =
    let breaks : HasBreakAt front size = sees.finds.1 in record {
      takes = record {
        taken = sees.takes.taken;
        consumed = sees.takes.consumed;
        goes =
            sees.takes.goes ∙ breaks.parts ∙ sym (append_assoc (take size front) (10 ∷ []) (drop (size + 1) front))
            ∙ ap (λ (xs : List ℕ). (xs ++ 10 ∷ []) ++ drop (size + 1) front) (sym is)
            ∙ ap (λ (xs : List ℕ). (line.now ++ 10 ∷ []) ++ xs) (sym left_over);
      };
      reads = record {
        unbroken = rw is breaks.line;
        short = omega (arith, ap length is, length-take size front, sees.finds.0);
      };
    }

-- Where lines end in a list of bytes, and the part of a buffer that is held.

pub range-joined : (xs : List ℕ) (s m e : ℕ) → s ≤ m → m ≤ e → slice_range xs s e ≡ slice_range xs s m ++ slice_range xs m e
range-joined xs s m e low high =
    let whole : (m - s) + (e - m) ≡ e - s = omega arith in
    let from : s + (m - s) ≡ m = omega arith in
    ap (λ (n : ℕ). take n (drop s xs)) (sym whole) ∙ take-add (m - s) (e - m) (drop s xs)
    ∙ ap (λ (back : List ℕ). take (m - s) (drop s xs) ++ take (e - m) back) (drop-drop (m - s) s xs ∙ ap (λ (n : ℕ). drop n xs) from)

pub range-as_drop : (xs : List ℕ) (s e : ℕ) → s ≤ e → slice_range xs s e ≡ drop s (take e xs)
range-as_drop xs s e low =
    let whole : s + (e - s) ≡ e = omega arith in
    sym (drop-take s (e - s) xs) ∙ ap (λ (n : ℕ). drop s (take n xs)) whole

pub range-same : (xs ys : List ℕ) (s e n : ℕ) → s ≤ e → e ≤ n → take n xs ≡ take n ys → slice_range xs s e ≡ slice_range ys s e
range-same xs ys s e n low high same =
    let fronts : take e xs ≡ take e ys =
    sym (take-take e n xs high) ∙ ap (λ (front : List ℕ). take e front) same ∙ take-take e n ys high in
    range-as_drop xs s e low ∙ ap (λ (front : List ℕ). drop s front) fronts ∙ sym (range-as_drop ys s e low)

pub unbroken-joined : (xs : List ℕ) (s m e : ℕ) → s ≤ m → m ≤ e
    → IsUnbroken (slice_range xs s m) → IsUnbroken (slice_range xs m e) → IsUnbroken (slice_range xs s e)
unbroken-joined xs s m e low high front back =
    rw (range-joined xs s m e low high) (All-append (λ (b : ℕ). b ≢ 10) (slice_range xs s m) (slice_range xs m e) front back)

pub unbroken-before : (xs : List ℕ) (s m e at : ℕ) → s ≤ m → m ≤ e
    → IsUnbroken (slice_range xs s m) → HasBreakAt (slice_range xs m e) at → IsUnbroken (slice_range xs s (m + at))
unbroken-before xs s m e at low high front breaks =
    let short : at ≤ e - m = omega (arith, breaks.within, length-take (e - m) (drop m xs)) in
    let counts : m + at - m ≡ at = omega arith in
    let same : slice_range xs m (m + at) ≡ take at (slice_range xs m e) =
    ap (λ (n : ℕ). take n (drop m xs)) counts ∙ sym (take-take at (e - m) (drop m xs) short) in
    unbroken-joined xs s m (m + at) low (omega arith) front (rw same breaks.line)

-- a break behind unbroken bytes
pub HasBreakAt-behind : (front back : List ℕ) (at : ℕ) → IsUnbroken front → HasBreakAt back at
    → HasBreakAt (front ++ back) (length front + at)
HasBreakAt-behind front back at unbroken breaks =
    let counts : length front + at + 1 ≡ length front + (at + 1) = omega arith in
    let behind : drop (length front + at + 1) (front ++ back) ≡ drop (at + 1) back =
    ap (λ (n : ℕ). drop n (front ++ back)) counts ∙ drop-append-add front back (at + 1) in record {
      within = omega (arith, breaks.within, length-append front back);
      line = rw (take-append-add front back at) (All-append (λ (b : ℕ). b ≢ 10) front (take at back) unbroken breaks.line);
      parts = rw (take-append-add front back at, behind)
          (ap (λ (rest : List ℕ). front ++ rest) breaks.parts ∙ sym (append_assoc front (take at back) (10 ∷ drop (at + 1) back)));
    }

pub HasBreakAt-range : (xs : List ℕ) (s m e at : ℕ) → s ≤ m → m ≤ e → e ≤ length xs
    → IsUnbroken (slice_range xs s m) → HasBreakAt (slice_range xs m e) at → HasBreakAt (slice_range xs s e) (m + at - s)
HasBreakAt-range xs s m e at low high within front breaks =
    let size : length (slice_range xs s m) ≡ m - s = omega (arith, length-take (m - s) (drop s xs), length-drop s xs) in
    let place : length (slice_range xs s m) + at ≡ m + at - s = omega arith in
    let behind : HasBreakAt (slice_range xs s m ++ slice_range xs m e) (length (slice_range xs s m) + at) =
    HasBreakAt-behind (slice_range xs s m) (slice_range xs m e) at front breaks in
    rw (range-joined xs s m e low high, ← place) behind

pub SourceRefills-none : (left left' : Option (List ℕ)) (held held' : List ℕ) (fault : Failed)
    → Keeps left left' → held' ≡ held → SourceRefills left left' held held' (Err fault)
SourceRefills-none left left' held held' fault kept same = record {
  taken = [];
  consumed = Consumes-kept left left left' [] (Consumes-none left) kept;
  joined = same ∙ sym (append-nil held);
  gives = refl;
}

pub SourceRefills-some : (left left' : Option (List ℕ)) (xs ys held : List ℕ) (s e count : ℕ) → s ≤ e → e + count ≤ length ys
    → e < length ys
    → take e ys ≡ take e xs → held ≡ slice_range xs s e
    → Consumes left left' (take count (drop e ys)) → (count ≡ 0 → 0 < length (drop e ys) → IsAtEnd left')
    → SourceRefills left left' held (slice_range ys s (e + count)) (Ok count)
SourceRefills-some left left' xs ys held s e count low within room same is consumed ends = record {
  taken = take count (drop e ys);
  consumed = consumed;
  joined =
      let counts : e + count - e ≡ count = omega arith in
      range-joined ys s e (e + count) low (omega arith)
      ∙ ap (λ (front : List ℕ). front ++ slice_range ys e (e + count)) (range-same ys xs s e e low (omega arith) same ∙ sym is)
      ∙ ap (λ (n : ℕ). held ++ take n (drop e ys)) counts;
  gives = (omega (arith, length-take count (drop e ys), length-drop e ys), λ none. ends none (omega (arith, length-drop e ys)));
}

pub drop-range : (xs : List ℕ) (s e n : ℕ) → n ≤ e - s → slice_range xs (s + n) e ≡ drop n (slice_range xs s e)
drop-range xs s e n short =
    let whole : n + (e - s - n) ≡ e - s = omega arith in
    let rest : e - s - n ≡ e - (s + n) = omega arith in
    ap (λ (back : List ℕ). take (e - (s + n)) back) (sym (drop-drop n s xs))
    ∙ ap (λ (size : ℕ). take size (drop n (drop s xs))) (sym rest)
    ∙ sym (drop-take n (e - s - n) (drop s xs)) ∙ ap (λ (size : ℕ). drop n (take size (drop s xs))) whole
