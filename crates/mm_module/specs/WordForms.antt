-- How many words a request has, and which.
use Rattle.std.specs.Prelude.{◌≡◌, ◌<◌, ℕ, List, [], ◌∷◌, length}
use Rattle.mm_module.specs.declared.words.Words.{Words}
use Rattle.mm_module.specs.declared.words.Words.TheVariants.{One, Two, Three, More}

-- these are the words, as far as three
abbrev pub HasWords : Words → List (List ℕ) → Type 0
HasWords (One first) words = words ≡ first.now ∷ []
HasWords (Two first second) words = words ≡ first.now ∷ second.now ∷ []
HasWords (Three first second third) words = words ≡ first.now ∷ second.now ∷ third.now ∷ []
HasWords More words = 3 < length words
