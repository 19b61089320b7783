-- Writes that go out one after another. With it: how the program ends by the answer of a command
-- that plays lines.
use Rattle.mm_bytes.specs.declared.fault.WriteFault.{WriteFault}
use Rattle.mm_base.specs.declared.replay_fault.ReplayFault.TheVariants as fault
use Rattle.mm_status.proofs.Below.{◌≡◌, ◌∙◌, ℕ, List, [], ◌++◌, Option, Result, Ok, Err, sym, ap, append_assoc, append-nil, subst, OnOk}
use Rattle.mm_status.proofs.Below.{Appends, Appends-trans, SinkSends, ReplayFault, IsUnrefused, EndsUnrefused, status_of}

-- what comes after a write that failed doesn't go out
pub SinkSends-stopped : (a b : Option (List ℕ)) (first more : List ℕ) (result : Result (Unit {0}) WriteFault) (fault : WriteFault)
    → SinkSends a b first result → SinkSends a b (first ++ more) (Err fault)
SinkSends-stopped a b first more result fault s = record {
  sent = s.sent;
  unsent = s.unsent ++ more;
  appended = s.appended;
  whole = tt;
  parts = ap (λ bytes. bytes ++ more) s.parts ∙ append_assoc s.sent s.unsent more;
}

-- a write goes out whole, and then another
pub SinkSends-append : (a b c : Option (List ℕ)) (first more : List ℕ) (before result : Result (Unit {0}) WriteFault) (done : Unit {0})
    → SinkSends a b first before → before ≡ Ok done → SinkSends b c more result → SinkSends a c (first ++ more) result
SinkSends-append a b c first more before result done s was t =
    let all : s.unsent ≡ [] = subst (λ r. OnOk r (s.unsent ≡ [])) was s.whole in
    record {
      sent = first ++ t.sent;
      unsent = t.unsent;
      whole = t.whole;
      appended = subst (λ bytes. Appends a c (bytes ++ t.sent)) (sym (s.parts ∙ ap (λ u. s.sent ++ u) all ∙ append-nil s.sent))
          (Appends-trans a b c s.sent t.sent s.appended t.appended);
      parts = ap (λ bytes. first ++ bytes) t.parts ∙ sym (append_assoc first t.sent t.unsent);
    }

-- How the program ends by the answer of a command that plays lines.

-- an answer that refuses no line ends so
pub unrefused : {T : Type 0} (answer : Result T ReplayFault) → IsUnrefused answer → EndsUnrefused (status_of answer)
unrefused (Err (fault.BadLine line)) u = u
unrefused (Err (fault.LineLong line)) u = u
unrefused (Err fault.TooMuch) u = u
unrefused _ u = tt
