-- Laws of listings, and of texts that are put together of words and numbers, for them. With it:
-- laws of lines that tell what was said, for the promises of modules.
use Rattle.std.specs.Fmt.{decimal}
use Rattle.std.specs.List.{AllByRecursion}
use Rattle.std.specs.Prelude.{◌≡◌, ℕ, ◌+◌, ◌^◌, ◌<◌, ◌≤◌, Bool, true, false, List, ◌++◌, length, if◌then◌else◌, zero, suc, [], ◌∷◌, drop}
use Rattle.std.specs.Prelude.{Option, Some, None, slice_get}
use Rattle.std.proofs.Common.{refl, ◌∙◌, arith, length-append, sym, ap, subst}
use Rattle.std.proofs.lemmas.List.{drop-drop}
use Rattle.std.proofs.lemmas.List.Folds.{list_all-append}
use Rattle.mm_module.specs.LineLaws.{IsText, and-both, is_unbroken, is_unbroken-decimal, length-decimal}
use Rattle.mm_module.specs.Meaning.{IsLawful}
use Rattle.mm_listing.specs.Listing.{Listing, IsListing, IsName, AreSaid, Telling, WasSaid}

-- what holds in both cases
pub in_both : {A : Type 0} (P : A → Type 0) (b : Bool) (x y : A) → P x → P y → P (if b then x else y)
in_both P true x y one other = one
in_both P false x y one other = other

-- a text that is written out
pub literal : (text : List ℕ) → is_unbroken text ≡ true → length text ≤ 20 → IsText 20 text
literal text is few = record { short = few; unbroken = is }

pub number : (n : ℕ) → n < 2 ^ 64 → IsText 20 (decimal n)
number n small = record { short = length-decimal n small; unbroken = is_unbroken-decimal n small }

-- a text behind another
pub both : (m n : ℕ) (front back : List ℕ) → IsText m front → IsText n back → IsText (m + n) (front ++ back)
both m n front back first second = record {
  short = omega (arith, length-append front back, first.short, second.short);
  unbroken = list_all-append _ front back ∙ and-both _ _ first.unbroken second.unbroken;
}

-- a word and a number
pub numbered : (word : List ℕ) (n : ℕ) → is_unbroken word ≡ true → length word ≤ 20 → n < 2 ^ 64 → IsText 40 (word ++ decimal n)
numbered word n is few small = both 20 20 word (decimal n) (literal word is few) (number n small)

-- a text of fewer bytes than a generated request may have
pub request : (m : ℕ) (text : List ℕ) → m ≤ 256 → IsText m text → IsText 256 text
request m text few is = record { short = omega (arith, is.short, few); unbroken = is.unbroken }

-- a request that is written out
pub word : (text : List ℕ) → is_unbroken text ≡ true → length text ≤ 256 → IsText 256 text
word text is few = record { short = few; unbroken = is }

-- a request of a word and a number
pub counted : (front : List ℕ) (n : ℕ) → is_unbroken front ≡ true → length front ≤ 20 → n < 2 ^ 64 → IsText 256 (front ++ decimal n)
counted front n is few small = request 40 (front ++ decimal n) (omega arith) (numbered front n is few small)

-- a listing of its own module
pub listed : (listing : Listing) → IsName listing.name → IsLawful listing.meaning → ((choice : ℕ) → IsText 256 (listing.request choice))
    → ((requests : List (List ℕ)) (tellings : List Telling) → AreSaid listing.meaning requests tellings → listing.promise requests tellings)
    → IsListing listing.meaning listing
listed listing named lawful asks keeps = record { means = refl; lawful = lawful; named = named; asks = asks; keeps = keeps }

-- Laws of lines that tell what was said, for the promises of modules.

-- the first item behind a front of a list
pub slice_get-drop : (xs : List (List ℕ)) (k : ℕ) → slice_get xs k ≡ slice_get (drop k xs) 0
slice_get-drop xs zero = refl
slice_get-drop [] (suc k) = refl
slice_get-drop (x ∷ xs) (suc k) = slice_get-drop xs k

-- the rest behind it
pub drop-next : (xs : List (List ℕ)) (k : ℕ) → drop (k + 1) xs ≡ drop 1 (drop k xs)
drop-next xs k = sym (drop-drop 1 k xs)

pub some-same : (x output : List ℕ) → (let o : Option (List ℕ) = Some x in o ≡ Some output)
    → x ≡ output
some-same x output h = cc

pub none-some : (output : List ℕ) → (let o : Option (List ℕ) = None in o ≡ Some output) → ⊥
none-some output h = cc

-- what holds of all lines, at a place of their list
pub at-place : (P : Telling → Type 0) (tellings : List Telling) (i : ℕ) (telling : Telling)
    → AllByRecursion P tellings → slice_get tellings i ≡ Some telling → P telling
at-place P [] i telling all is = cc
at-place P (first ∷ tellings) zero telling all is = let same : first ≡ telling = cc in subst P same all.0
at-place P (first ∷ tellings) (suc i) telling all is = at-place P tellings i telling all.1 is

-- lines that name one request are the same
pub one-telling : (outputs : List (List ℕ)) (a b : Telling) → WasSaid outputs a → WasSaid outputs b → a.before ≡ b.before → a ≡ b
one-telling outputs a b one two same =
    let e : a.output ≡ b.output = some-same a.output b.output
    (sym one ∙ ap (λ n. slice_get outputs n) same ∙ two) in
    ap (λ n. record { before = n; output = a.output }) same
    ∙ ap (λ (l : List ℕ). record { before = b.before; output = l }) e
