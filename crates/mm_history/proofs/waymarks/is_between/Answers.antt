use Rattle.mm_history.proofs.Below.{sym, refl, ◌∙◌, inl, inr}
use Rattle.std.proofs.lemmas.Option.{slice_get_read}
use Rattle.mm_history.proofs.waymarks.is_between.Goals as goal

pub returns-in-Some-get : goal.returns-in-Some-get
returns-in-Some-get c = λ yes. record {
  before = c.in-Some.before.now;
  at = c.saturating_sub.result;
  among = slice_get_read c.args.marks.now _ _ _ refl c.in-Some.ensures.lookup.3.0 c.in-Some.ensures.lookup.1;
  shown = inr (
    c.in-Some-get.next.now,
    c.args.at,
    slice_get_read c.args.marks.now _ _ _ refl c.in-Some-get.ensures.lookup.3.0 c.in-Some-get.ensures.lookup.1,
    sym c.is_inside_batch.ensures ∙ yes,
  );
}

pub returns-in-None-get : goal.returns-in-None-get
returns-in-None-get c = λ yes. record {
  before = c.in-Some.before.now;
  at = c.saturating_sub.result;
  among = slice_get_read c.args.marks.now _ _ _ refl c.in-Some.ensures.lookup.3.0 c.in-Some.ensures.lookup.1;
  shown = inl (sym c.is_behind_all.ensures ∙ yes);
}
