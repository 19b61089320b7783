-- What is heard of a session, of the bytes that it sent, is what it told. With it: the replies in
-- an output; what is read of the lines of replies is these replies.
use Rattle.std.specs.Fmt.{decimal}
use Rattle.std.specs.List.{list_all, position, position_or_len, AllByRecursion}
use Rattle.std.specs.Prelude.{◌==◌, nat_lt, not, codes}
use Rattle.std.specs.Result.{is_ok}
use Rattle.std.proofs.Common.{◌≡◌, ◌≢◌, ◌∙◌, ◌+◌, ◌<◌, ◌^◌, ℕ, suc, Bool, true, false, Option, Some, List, [], ◌∷◌, ◌++◌, length, refl, sym}
use Rattle.std.proofs.Common.{ap, arith, append_assoc, length-append, None, if◌then◌else◌, ◌⊎◌, ◌≤◌, Result, Ok, Err, inl, inr, subst, drop}
use Rattle.std.proofs.Common.{take}
use Rattle.std.proofs.lemmas.Bool.{ne_eqb}
use Rattle.std.proofs.lemmas.Bool.Decides.{nat_tests}
use Rattle.std.proofs.lemmas.List.{append-nil, append_cancel_left, take-append-drop}
use Rattle.std.proofs.lemmas.List.Elements.{All-append}
use Rattle.std.proofs.Math.Seq.{drop-append-add, take-append_seam}
use Rattle.mm_bytes.specs.DecimalLaws.{read_by_spelling}
use Rattle.mm_bytes.specs.Limits.{last_position}
use Rattle.mm_base.specs.Input.{IsUnbroken, lines_of, lines_with_front}
use Rattle.mm_base.specs.InputLaws.{lines_of-line, lines_of-unbroken}
use Rattle.mm_base.specs.declared.replay_fault.ReplayFault.TheVariants as lines
use Rattle.mm_module.specs.LineLaws.{All-is_unbroken, is_unbroken, is_unbroken-decimal, passes-decimal}
use Rattle.mm_module.specs.Meaning.{is_space, IsLawful}
use Rattle.mm_module.specs.RunLaws.{state_after-is_spelled}
use Rattle.mm_schedule.specs.Headers.{rest_after_prefix, word_at}
use Rattle.mm_schedule.specs.Replies.{told_line, told_text, cause_text}
use Rattle.mm_schedule.specs.declared.reply.Cause.{Cause}
use Rattle.mm_schedule.specs.declared.reply.Cause.TheVariants.{Long, Lost, Form, Kind, State, Tag, Stale, Full, Segment, Snapshot, Blank}
use Rattle.mm_schedule.specs.declared.reply.Cause.TheVariants.{Cell}
use Rattle.mm_recovery.specs.declared.fault.HostFault.{HostFault}
use Rattle.mm_recovery.specs.declared.fault.HostFault.TheVariants.{Memory, Refused, Store}
use Rattle.mm_host.specs.Continuation.{is_write_fault}
use Rattle.mm_host.specs.Sessions.{refusal_text, told_cause}
use Rattle.mm_client.specs.ClientLife.{replies_of, IsHeard, Hearing, hearing_of, IsTrueReply}
use Rattle.mm_client.specs.declared.heard.HeardReply.{HeardReply}
use Rattle.mm_client.specs.LocalLife.{replies_in, replies_in_lines, reply_in, rest_behind_word, with_reply, HearsOutput}
use Rattle.mm_client.proofs.AnyLives.{first_sent}
use Rattle.mm_client.proofs.Beginning.{Began, found}
use Rattle.mm_client.proofs.Below.{ServedCall, replies_to, HostGoesAfterFinding, HostStanding, Host, IsSession, Lines, Meaning, Resumed}
use Rattle.mm_client.proofs.Below.{SendsReply, SessionFault, SessionGoesAfterResume, SessionPlace, SessionStanding, TurnGoes, Variant}
use Rattle.mm_client.proofs.Below.{found_record, host_of, reply_text, served_calls_in, served_calls_of, state_after, turn_answer_of}

-- The replies in an output.

pub replies_in-line : (line rest : List ℕ) → IsUnbroken line
    → replies_in (line ++ 10 ∷ rest) ≡ with_reply (reply_in line) (replies_in rest)
replies_in-line line rest u = ap replies_in_lines (lines_of-line line rest u)

pub replies_in-unbroken : (bytes : List ℕ) → IsUnbroken bytes → replies_in bytes ≡ []
replies_in-unbroken bytes u = ap replies_in_lines (lines_of-unbroken bytes u)

-- the loop's step, with a reply and without one
pub step_on : (items : List HeardReply) (found : Option HeardReply) (line rest output : List ℕ)
    → items ++ replies_in (line ++ 10 ∷ rest) ≡ replies_in output → IsUnbroken line → reply_in line ≡ found
    → items ++ with_reply found (replies_in rest) ≡ replies_in output
step_on items found line rest output e u is =
    ap (λ (found : Option HeardReply). items ++ with_reply found (replies_in rest)) (sym is)
    ∙ ap (λ (more : List HeardReply). items ++ more) (sym (replies_in-line line rest u)) ∙ e

-- A told line is read again.

-- no space is among the bytes
NoSpace : List ℕ → Type 0
NoSpace [] = Unit {0}
NoSpace (byte ∷ bytes) = (byte ≢ 32) × NoSpace bytes

first_space : (word rest : List ℕ) → NoSpace word → position_or_len is_space (word ++ 32 ∷ rest) ≡ length word
unfolding NoSpace
first_space [] rest none = refl
first_space (byte ∷ word) rest none =
    let one : 1 + length word ≡ suc (length word) = omega arith in
    rw (ne_eqb byte 32 none.0) (ap (λ (n : ℕ). 1 + n) (first_space word rest none.1) ∙ one)

word_again : (word rest : List ℕ) → NoSpace word → word_at (word ++ 32 ∷ rest) ≡ Some (word, rest)
unfolding word_at
word_again word rest none =
    let within : length word < length (word ++ 32 ∷ rest) = omega (arith, length-append word (32 ∷ rest)) in
    let test : nat_lt (length word) (length (word ++ 32 ∷ rest)) ≡ true = grind (arith, nat_tests) in
    let found : position is_space (word ++ 32 ∷ rest) ≡ Some (length word) = rw (first_space word rest none, test) refl in
    rw (found, take-append_seam word (32 ∷ rest), drop-append-add word (32 ∷ rest) 1) refl

spaceless : (bytes : List ℕ) → list_all (λ (b : ℕ). not (b == 32)) bytes ≡ true → NoSpace bytes
unfolding NoSpace
spaceless [] all = tt
spaceless (b ∷ bytes) all =
    let first : not (b == 32) ≡ true = grind (arith, nat_tests) in
    let rest : list_all (λ (b : ℕ). not (b == 32)) bytes ≡ true = grind (arith, nat_tests) in
    (λ space. let clash : false ≡ true = rw space at first in cc, spaceless bytes rest)

decimal_spaceless : (n : ℕ) → n < 2 ^ 64 → NoSpace (decimal n)
decimal_spaceless n small =
    spaceless (decimal n) (passes-decimal (λ byte. not (byte == 32)) (λ d is. grind (arith, nat_tests)) n small)

behind_told : (again : Bool) (rest : List ℕ) → rest_behind_word (told_text again ++ rest) ≡ Some rest
unfolding rest_after_prefix
behind_told true rest = refl
behind_told false rest = refl

-- the line without its LF
abbrev pub told_front : Bool → ℕ → List ℕ → List ℕ
told_front again position output = told_text again ++ (decimal position ++ 32 ∷ output)

pub told_line-front : (again : Bool) (position : ℕ) (output : List ℕ)
    → told_line again position output ≡ told_front again position output ++ 10 ∷ []
told_line-front again position output = simp append_assoc

pub reply_again : (again : Bool) (position : ℕ) (output : List ℕ) → position < 2 ^ 64
    → reply_in (told_front again position output) ≡ Some (record { position = position; output = output })
reply_again again position output small =
    rw (
      behind_told again (decimal position ++ 32 ∷ output),
      word_again (decimal position) output (decimal_spaceless position small),
      read_by_spelling (decimal position) position small refl,
    ) refl

told_unbroken : (again : Bool) → is_unbroken (told_text again) ≡ true
told_unbroken true = refl
told_unbroken false = refl

pub front_unbroken : (again : Bool) (position : ℕ) (output : List ℕ) → position < 2 ^ 64 → IsUnbroken output
    → IsUnbroken (told_front again position output)
front_unbroken again position output small u =
    All-append (λ byte. byte ≢ 10) (told_text again) (decimal position ++ 32 ∷ output)
    (All-is_unbroken (told_text again) (told_unbroken again))
    (All-append (λ byte. byte ≢ 10) (decimal position) (32 ∷ output)
    (All-is_unbroken (decimal position) (is_unbroken-decimal position small))
    (All-append (λ byte. byte ≢ 10) (32 ∷ []) output (All-is_unbroken (32 ∷ []) refl) u))

-- What is read of the lines of replies is these replies; and of a front of them a front.

-- a reply that can be read again
abbrev pub IsReadable : HeardReply → Type 0
IsReadable reply = (reply.position < 2 ^ 64) × IsUnbroken reply.output

told_first : (again : Bool) (position : ℕ) (output rest last : List ℕ)
    → told_line again position output ++ rest ++ last ≡ told_front again position output ++ 10 ∷ (rest ++ last)
told_first again position output rest last =
    ap (λ (text : List ℕ). text ++ rest ++ last) (told_line-front again position output)
    ∙ append_assoc (told_front again position output ++ 10 ∷ []) rest last
    ∙ append_assoc (told_front again position output) (10 ∷ []) (rest ++ last)

pub heard_told : (calls : List ServedCall) (last : List ℕ) → AllByRecursion IsReadable (replies_of calls)
    → replies_in (replies_to calls ++ last) ≡ replies_of calls ++ replies_in last
heard_told [] last all = refl
heard_told (c ∷ calls) last all =
    ap replies_in (told_first c.answer.again c.answer.position c.answer.output (replies_to calls) last)
    ∙ replies_in-line (told_front c.answer.again c.answer.position c.answer.output) (replies_to calls ++ last)
    (front_unbroken c.answer.again c.answer.position c.answer.output (all.0).0 (all.0).1)
    ∙ ap (λ (found : Option HeardReply). with_reply found (replies_in (replies_to calls ++ last)))
    (reply_again c.answer.again c.answer.position c.answer.output (all.0).0)
    ∙ ap (λ (more : List HeardReply). record { position = c.answer.position; output = c.answer.output } ∷ more)
    (heard_told calls last all.1)

-- the lines of the first bytes are the first lines

with_front : (byte : ℕ) (lines more whole : List (List ℕ)) → lines ++ more ≡ whole
    → (then_more : List (List ℕ)) × (lines_with_front (byte ∷ []) lines ++ then_more ≡ lines_with_front (byte ∷ []) whole)
with_front byte [] more whole e = (lines_with_front (byte ∷ []) whole, refl)
with_front byte (line ∷ lines) more whole e = (more, ap (λ (all : List (List ℕ)). lines_with_front (byte ∷ []) all) e)

front_by : (ends : Bool) (byte : ℕ) (lines more whole : List (List ℕ)) → lines ++ more ≡ whole
    → (then_more : List (List ℕ)) × ((if ends then [] ∷ lines else lines_with_front (byte ∷ []) lines) ++ then_more
    ≡ (if ends then [] ∷ whole else lines_with_front (byte ∷ []) whole))
front_by true byte lines more whole e = (more, ap (λ (all : List (List ℕ)). [] ∷ all) e)
front_by false byte lines more whole e = with_front byte lines more whole e

lines_front : (bytes lost : List ℕ) → (more : List (List ℕ)) × (lines_of bytes ++ more ≡ lines_of (bytes ++ lost))
lines_front [] lost = (lines_of lost, refl)
lines_front (byte ∷ bytes) lost =
    let rest = lines_front bytes lost in
    front_by (byte == 10) byte (lines_of bytes) rest.0 (lines_of (bytes ++ lost)) rest.1

with_reply-append : (found : Option HeardReply) (replies more : List HeardReply)
    → with_reply found (replies ++ more) ≡ with_reply found replies ++ more
with_reply-append None replies more = refl
with_reply-append (Some reply) replies more = refl

replies_in_lines-append : (lines more : List (List ℕ)) → replies_in_lines (lines ++ more) ≡ replies_in_lines lines ++ replies_in_lines more
replies_in_lines-append [] more = refl
replies_in_lines-append (line ∷ lines) more =
    ap (λ (replies : List HeardReply). with_reply (reply_in line) replies) (replies_in_lines-append lines more)
    ∙ with_reply-append (reply_in line) (replies_in_lines lines) (replies_in_lines more)

-- of the first bytes the first replies are read
pub heard_front : (bytes lost output : List ℕ) → bytes ++ lost ≡ output
    → (more : List HeardReply) × (replies_in bytes ++ more ≡ replies_in output)
heard_front bytes lost output e =
    let rest = lines_front bytes lost in (
      replies_in_lines rest.0,
      sym (replies_in_lines-append (lines_of bytes) rest.0) ∙ ap replies_in_lines rest.1 ∙ ap replies_in e,
    )

-- a refusal's line is no reply
pub no_reply : (why : Cause) → replies_in (codes "no " ++ cause_text why ++ 10 ∷ []) ≡ []
unfolding rest_after_prefix
no_reply Long = refl
no_reply Lost = refl
no_reply Form = refl
no_reply Kind = refl
no_reply State = refl
no_reply Tag = refl
no_reply Stale = refl
no_reply Full = refl
no_reply Segment = refl
no_reply Snapshot = refl
no_reply Blank = refl
no_reply Cell = refl

-- What is heard of a session, of the bytes that it sent, is what it told.

-- What else was sent has no reply.

silent_refusal : (why : Option Cause) → replies_in (refusal_text why) ≡ []
silent_refusal None = refl
silent_refusal (Some why) = no_reply why

abbrev IsCut : Result Unit SessionFault → Type 0
IsCut result = result ≡ Err (Lines lines.WriteFault)

says_silent : (came : Result Resumed HostFault) (sent : List ℕ) (fault : SessionFault) → SendsReply came sent (Err fault)
    → (fault ≡ Lines lines.WriteFault) ⊎ (replies_in sent ≡ [])
says_silent (Ok resumed) sent fault (inl s) = let is = s.1 in absurd (cc)
says_silent (Err (Refused why)) sent fault (inl s) = inr (ap replies_in s.0 ∙ silent_refusal (told_cause why))
says_silent (Err Memory) sent fault (inl s) = inr (ap replies_in s.0)
says_silent (Err Store) sent fault (inl s) = inr (ap replies_in s.0)
says_silent came sent fault (inr w) = let is = w.0 in inl (cc)

ends_silent : (variant : Variant) (meaning : Meaning) (number : ℕ) (at : SessionPlace) (new : HostStanding) (left : Option (List ℕ))
    (more last : List ℕ) (result : Result Unit SessionFault)
    → TurnGoes variant meaning number at new left more [] last (turn_answer_of result) → IsCut result ⊎ (replies_in last ≡ [])
ends_silent variant meaning number at new left more last (Ok it) t = inr (ap replies_in (t.0).nothing)
ends_silent variant meaning number at new left more last (Err (Lines lines.ReadFault)) t = inr (ap replies_in (t.0).nothing)
ends_silent variant meaning number at new left more last (Err (Lines (lines.BadLine line))) t = inr (ap replies_in (t.0).nothing)
ends_silent variant meaning number at new left more last (Err (Lines (lines.LineLong line))) t = inr (ap replies_in (t.0).nothing)
ends_silent variant meaning number at new left more last (Err (Lines lines.TooMuch)) t = inr (ap replies_in (t.0).nothing)
ends_silent variant meaning number at new left more last (Err (Lines lines.Memory)) t = absurd t
ends_silent variant meaning number at new left more last (Err (Lines lines.WriteFault)) t = inl refl
ends_silent variant meaning number at new left more last (Err (Host fault)) t = elim (says_silent t.came last (Host fault) t.says) [
  | inl cut ↦ inl (ap (λ (why : SessionFault). Err why) cut)
  | inr silent ↦ inr silent
]

-- the lines of the replies were sent, and behind them no reply
record SendsTold (told : List ServedCall) (result : Result Unit SessionFault) (sent : List ℕ) : Type 0 where
  last : List ℕ
  wrote : sent ≡ replies_to told ++ last
  silent : IsCut result ⊎ (replies_in last ≡ [])

goes_sent : {variant : Variant} {meaning : Meaning} {old new : SessionStanding} {result : Result Unit SessionFault}
    (s : IsSession variant meaning old new result)
    (goes : SessionGoesAfterResume variant meaning s.begun s.middle (host_of new) new.left s.taken s.sent result)
    → SendsTold (served_calls_in (found_record s.resumes.waiting) goes) result s.sent
goes_sent s (inl e) = record {
  last = s.sent;
  wrote = refl;
  silent = elim (says_silent s.begun s.sent e.1.fault e.1.says) [
    | inl cut ↦ inl (e.1.stops ∙ ap (λ (why : SessionFault). Err why) cut)
    | inr silent ↦ inr silent
  ];
}
goes_sent {variant} {meaning} {old} {new} {result} s (inr g) =
    let f = found variant meaning s.resumes.waiting (record (host_of old) { kept = s.resumes.middle }) s.middle g.first
    (subst (λ x. HostGoesAfterFinding variant meaning s.resumes.waiting
    (record (host_of old) { kept = s.resumes.middle }) s.middle x) g.begins s.resumes.goes) in
    let same : found_record s.resumes.waiting ≡ f.0 = ap found_record f.1 in
    record {
      last = g.lines.last;
      wrote = first_sent (found_record s.resumes.waiting) g.first g.lines.calls s.sent g.replies g.lines.last
          (subst (λ (x : Option _). Began x g.first) (sym same) f.2)
          (g.wrote ∙ ap (λ x. reply_text x ++ g.replies) g.begins) g.lines.wrote;
      silent = ends_silent variant meaning (length g.lines.calls + 1) g.lines.at (host_of new) new.left g.lines.more g.lines.last
          result g.lines.ends;
    }

-- what is heard of it

heard_by : (told : List ServedCall) (result : Result Unit SessionFault) (sent : List ℕ) (h : Hearing) → SendsTold told result sent
    → HearsOutput sent result h → AllByRecursion IsReadable (replies_of told) → IsHeard told result h
heard_by told result sent h s o all = elim s.silent [
  | inl cut ↦ record {
    lost = replies_of told;
    front = ap (λ (heard : List HeardReply). heard ++ replies_of told) (o.replies ∙ ap replies_in (o.cut cut));
    whole = λ is. let ended = (o.whole is).0 in absurd (cc);
  }
  | inr silent ↦
      let are : replies_in sent ≡ replies_of told =
      ap replies_in s.wrote ∙ heard_told told s.last all ∙ ap (λ (more : List HeardReply). replies_of told ++ more) silent
      ∙ append-nil (replies_of told) in
      let front = heard_front o.bytes o.lost sent o.front in
      record {
        lost = front.0;
        front = ap (λ (heard : List HeardReply). heard ++ front.0) o.replies ∙ front.1 ∙ are;
        whole = λ is.
            let w = o.whole is in
            let bytes_are : o.bytes ≡ sent =
            sym (append-nil o.bytes) ∙ ap (λ (lost : List ℕ). o.bytes ++ lost) (sym w.1) ∙ o.front in (
              w.0,
              append_cancel_left (replies_in o.bytes) front.0 []
                  (front.1 ∙ ap replies_in (sym bytes_are) ∙ sym (append-nil (replies_in o.bytes))),
            );
      }
]

pub heard_so : {variant : Variant} {meaning : Meaning} {old new : SessionStanding} {result : Result Unit SessionFault}
    (s : IsSession variant meaning old new result) (output : List ℕ) (h : Hearing) → output ≡ s.sent → HearsOutput output result h
    → AllByRecursion IsReadable (replies_of (served_calls_of s)) → IsHeard (served_calls_of s) result h
heard_so {result = result} s output h e o all =
    heard_by (served_calls_of s) result s.sent h (goes_sent s s.goes)
    (subst (λ (bytes : List ℕ). HearsOutput bytes result h) e o) all

-- what is true of requests can be read again
pub readable : (meaning : Meaning) → IsLawful meaning → (requests : List (List ℕ)) → length requests ≤ last_position
    → (replies : List HeardReply) → AllByRecursion (IsTrueReply meaning requests) replies → AllByRecursion IsReadable replies
readable meaning lawful requests room [] t = tt
readable meaning lawful requests room (reply ∷ replies) t =
    let first = t.0 in
    let size = ap (λ (xs : List (List ℕ)). length xs) first.stands ∙ length-append first.before (first.request ∷ first.later) in (
      (
        omega (arith, size, room, first.position),
        subst IsUnbroken (sym first.says)
            (lawful.says_lines (state_after meaning first.before) first.request
            (state_after-is_spelled meaning lawful first.before)).unbroken,
      ),
      readable meaning lawful requests room replies t.1,
    )

-- what is heard, where so many of the first bytes come through

ok_is : (result : Result Unit SessionFault) → is_ok result ≡ true → result ≡ Ok tt
ok_is (Ok it) e = refl
ok_is (Err why) e = absurd (cc)

none_left : (bytes : List ℕ) → length bytes ≡ 0 → bytes ≡ []
none_left [] e = refl
none_left (byte ∷ bytes) e = absurd (omega (arith, e))

pub hears_so : (output heard : List ℕ) (count : ℕ) (ended : Result Unit SessionFault) (replies : List HeardReply) (is_whole : Bool)
    (h : Hearing) → h ≡ hearing_of replies is_whole → replies ≡ replies_in heard → heard ≡ take count output
    → is_write_fault ended ≡ false → (is_whole ≡ true → (is_ok ended ≡ true) × (length heard ≡ length output))
    → HearsOutput output ended h
hears_so output heard count ended replies is_whole h e r front uncut all = record {
  bytes = heard;
  lost = drop count output;
  front = ap (λ (bytes : List ℕ). bytes ++ drop count output) front ∙ take-append-drop count output;
  replies = ap (λ (x : Hearing). x.replies) e ∙ r;
  cut = λ is. let clash : true ≡ false = sym (ap is_write_fault is) ∙ uncut in absurd (cc);
  whole = λ is.
      let w = all (sym (ap (λ (x : Hearing). x.is_whole) e) ∙ is) in
      let size = ap (λ (bytes : List ℕ). length bytes) (ap (λ (bytes : List ℕ). bytes ++ drop count output) front
      ∙ take-append-drop count output) in
      (ok_is ended w.0, none_left (drop count output) (omega (arith, w.1, size, length-append heard (drop count output))));
}
