use Rattle.mm_numbering.proofs.Below.{ℕ, ◌+◌, ◌≤◌, List, take, fold, messages_with, ListsMessages}
use Rattle.mm_numbering.proofs.messages.Numbers.list_all.Given as goal

abbrev pub invariant-messages : goal.invariant-messages
invariant-messages l = record {
  few : l.self.digests.count ≤ l.fn.self.digests.count + l.message-index;
  lists : (seen : List (List ℕ)) → ListsMessages seen l.fn.self
      → ListsMessages (fold messages_with seen (take l.message-index l.messages)) l.self;
}
