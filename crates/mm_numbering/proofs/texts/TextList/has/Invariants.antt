use Rattle.std.proofs.Common.{◌≡◌, false, take}
use Rattle.std.specs.List.{list_any}
use Rattle.std.specs.Str.{bytes_eq}
use Rattle.mm_numbering.proofs.texts.TextList.has.Given as goal

abbrev pub invariant-texts : goal.invariant-texts
invariant-texts l = list_any (bytes_eq l.bytes) (take l.index l.self) ≡ false
