-- Laws of the bytes of a ledger. With it: what a name and an account keep.
use Rattle.std.specs.List.{list_all}
use Rattle.std.specs.Prelude.{◌≡◌, ℕ, ◌≤◌, true, List, length, zero, suc, ◌+◌, ◌*◌, ◌^◌, ◌<◌, nat_le, [], ◌∷◌, ◌++◌, take, drop, Option}
use Rattle.std.specs.Prelude.{Some, None, option_map, option_and_then, if◌then◌else◌}
use Rattle.std.proofs.Common.{arith, unwrap_or, refl, sym, ◌∙◌, ap, append_assoc, length-append}
use Rattle.std.proofs.lemmas.Bool.Decides.{nat_tests}
use Rattle.std.proofs.lemmas.List.{take-append-drop, length-take-le, length-drop}
use Rattle.std.proofs.lemmas.List.Folds.{list_all-append}
use Rattle.std.proofs.lemmas.Nat.{be_bytes_2, from_be_bytes-to_be_bytes_2}
use Rattle.std.proofs.Math.Seq.{take-append_seam, drop-append_seam}
use Rattle.mm_bytes.specs.Limits.{eight_bytes}
use Rattle.mm_module.specs.Batch.{is_byte, are_bytes, number_of_eight_bytes}
use Rattle.mm_module.specs.LineLaws.{and-true, and-both, is_byte-rem, take-front, drop-front, are_bytes-take, are_bytes-drop}
use Rattle.mm_module.specs.LineLaws.{are_bytes-append, are_bytes-visible, get_or-small, length-eight, are_bytes-eight}
use Rattle.mm_module.specs.LineLaws.{number_of_eight_bytes-eight, eight-number_of_eight_bytes}
use Rattle.mm_module.specs.Meaning.{is_visible}
use Rattle.mm_quota.specs.Table.{LedgerAccount, is_name, is_account, greatest_limit, is_ledger, count_bytes, count_of_bytes, account_bytes}
use Rattle.mm_quota.specs.Table.{body_of, spelling_of, account_after, account_at, accounts_from, accounts_of, has_ledger, is_state}
use Rattle.mm_quota.specs.Table.{ledger_of}
use Rattle.mm_quota.specs.Views.{IsLedger, SpellsLedger}

-- What a name and an account keep.

-- what a name and an account keep
pub record IsName (name : List ℕ) : Type 0 where
  pub some : 1 ≤ length name
  pub short : length name ≤ 32
  pub visible : list_all is_visible name ≡ true

pub record IsAccount (account : LedgerAccount) : Type 0 where
  pub formed : is_name account.name ≡ true
  pub named : IsName account.name
  pub limited : account.limit ≤ greatest_limit
  pub within : account.used ≤ account.limit

IsName-from : (name : List ℕ) → is_name name ≡ true → IsName name
unfolding is_name
IsName-from name is = grind (arith, nat_tests)

pub IsAccount-from : (account : LedgerAccount) → is_account account ≡ true → IsAccount account
unfolding is_account
IsAccount-from account is =
    let formed : is_name account.name ≡ true = grind (arith, nat_tests) in
    record {
      formed = formed;
      named = IsName-from account.name formed;
      limited = grind (arith, nat_tests);
      within = grind (arith, nat_tests);
    }

pub is_account-made : (account : LedgerAccount) → is_name account.name ≡ true → account.limit ≤ greatest_limit
    → account.used ≤ account.limit
    → is_account account ≡ true
unfolding is_account
is_account-made account named limited within = grind (arith, nat_tests)

-- Laws of the bytes of a ledger.

length-count_bytes : (n : ℕ) → length (count_bytes n) ≡ 2
unfolding count_bytes
length-count_bytes n = refl

bytes-count_bytes : (n : ℕ) → are_bytes (count_bytes n) ≡ true
unfolding count_bytes
bytes-count_bytes n = simp is_byte-rem

count_of_bytes-count_bytes : (n : ℕ) → n < 2 ^ 16 → count_of_bytes (count_bytes n) ≡ n
unfolding count_of_bytes count_bytes
count_of_bytes-count_bytes n small = from_be_bytes-to_be_bytes_2 n small

count_bytes-count_of_bytes : (bytes : List ℕ) → length bytes ≡ 2 → are_bytes bytes ≡ true → count_bytes (count_of_bytes bytes) ≡ bytes
unfolding count_of_bytes count_bytes
count_bytes-count_of_bytes bytes two is = be_bytes_2 bytes _ two (get_or-small bytes is) refl

-- an account from its parts
account_after-parts : (name limit used more : List ℕ) → length limit ≡ 8 → length used ≡ 8
    → account_after (length name) (name ++ (limit ++ (used ++ more)))
    ≡ Some (record { name = name; limit = number_of_eight_bytes limit; used = number_of_eight_bytes used }, more)
unfolding account_after
account_after-parts name limit used more limit_is used_is =
    let enough : length name + 16 ≤ length (name ++ (limit ++ (used ++ more))) =
    omega (arith, length-append {A = ℕ}) in
    let long : nat_le (length name + 16) (length (name ++ (limit ++ (used ++ more)))) ≡ true =
    grind (arith, nat_tests) in
    rw (
      long,
      take-append_seam name (limit ++ (used ++ more)),
      drop-append_seam name (limit ++ (used ++ more)),
      take-front 8 limit (used ++ more) limit_is,
      drop-front 8 limit (used ++ more) limit_is,
      take-front 8 used more used_is,
      drop-front 8 used more used_is,
    ) refl

pub account_at-account_bytes : (account : LedgerAccount) (more : List ℕ) → is_account account ≡ true
    → account_at (account_bytes account ++ more) ≡ Some (account, more)
unfolding account_bytes
account_at-account_bytes account more is =
    let kept = IsAccount-from account is in
    let limit = number_of_eight_bytes-eight account.limit (omega (arith, kept.limited)) in
    let used = number_of_eight_bytes-eight account.used (omega (arith, kept.limited, kept.within)) in
    simp append_assoc (account_after-parts account.name (eight_bytes account.limit)
    (eight_bytes account.used) more (length-eight account.limit)
    (length-eight account.used) ∙ rw (limit, used) refl)

-- bytes of which an account was read are its bytes, and the rest
abbrev pub IsFront : List ℕ → Option (LedgerAccount × List ℕ) → Type 0
IsFront bytes None = Unit {0}
IsFront bytes (Some front) = bytes ≡ account_bytes front.0 ++ front.1

eight-front : (bytes : List ℕ) → are_bytes bytes ≡ true → 8 ≤ length bytes → eight_bytes (number_of_eight_bytes (take 8 bytes))
    ≡ take 8 bytes
eight-front bytes is long = eight-number_of_eight_bytes _ (length-take-le 8 bytes long) (are_bytes-take 8 bytes is)

account-front : (count : ℕ) (bytes : List ℕ) → are_bytes bytes ≡ true → count + 16 ≤ length bytes
    → count ∷ bytes ≡ account_bytes (record {
      name = take count bytes;
      limit = number_of_eight_bytes (take 8 (drop count bytes));
      used = number_of_eight_bytes (take 8 (drop 8 (drop count bytes)));
    }) ++ drop 8 (drop 8 (drop count bytes))
unfolding account_bytes
account-front count bytes is long =
    let behind = are_bytes-drop count bytes is in
    let n = length-drop count bytes in
    let m = length-drop 8 (drop count bytes) in
    let whole : bytes ≡ (take count bytes
    ++ (take 8 (drop count bytes) ++ take 8 (drop 8 (drop count bytes))))
    ++ drop 8 (drop 8 (drop count bytes)) = sym (simp (append_assoc, take-append-drop)) in
    rw (
      length-take-le count bytes (omega arith),
      eight-front (drop count bytes) behind (omega arith),
      eight-front (drop 8 (drop count bytes)) (are_bytes-drop 8 (drop count bytes) behind) (omega arith),
    ) (ap (λ b. count ∷ b) whole)

account_at-front : (bytes : List ℕ) → are_bytes bytes ≡ true → IsFront bytes (account_at bytes)
unfolding account_after
account_at-front [] is = tt
account_at-front (count ∷ bytes) is =
    let are = (and-true (is_byte count) (are_bytes bytes) is).1 in
    let front = account-front count bytes are in grind (arith, nat_tests)

-- accounts that were read are those of the bytes, so many
pub record IsBody (count : ℕ) (bytes : List ℕ) (accounts : List LedgerAccount) : Type 0 where
  pub whole : bytes ≡ body_of accounts
  pub counted : length accounts ≡ count

abbrev pub ReadsBody : ℕ → List ℕ → Option (List LedgerAccount) → Type 0
ReadsBody count bytes None = Unit {0}
ReadsBody count bytes (Some accounts) = IsBody count bytes accounts

more-read : (count : ℕ) (bytes : List ℕ) (account : LedgerAccount) (rest : List ℕ) (accounts : Option (List LedgerAccount))
    → bytes ≡ account_bytes account ++ rest → ReadsBody count rest accounts
    → ReadsBody (suc count) bytes (option_map (λ others. account ∷ others) accounts)
more-read count bytes account rest accounts whole reads = grind arith

after-front : (bytes : List ℕ) (account : LedgerAccount) (rest : List ℕ) → bytes ≡ account_bytes account ++ rest → are_bytes bytes ≡ true
    → are_bytes rest ≡ true
after-front bytes account rest whole is =
    (and-true _ _ (sym (list_all-append is_byte (account_bytes account) rest)
    ∙ ap (λ (b : List ℕ). are_bytes b) (sym whole) ∙ is)).1

pub accounts_from-reads : (count : ℕ) (bytes : List ℕ) → are_bytes bytes ≡ true → ReadsBody count bytes (accounts_from count bytes)
accounts_from-reads zero [] is = record { whole = refl; counted = refl }
accounts_from-reads zero (x ∷ xs) is = grind (arith, nat_tests)
accounts_from-reads (suc count) bytes is =
    by (accounts_from-reads count) (account_at bytes) (account_at-front bytes is)
  where
    by : ((rest : List ℕ) → are_bytes rest ≡ true
        → ReadsBody count rest (accounts_from count rest))
        → (front : Option (LedgerAccount × List ℕ)) → IsFront bytes front
        → ReadsBody (suc count) bytes (option_and_then (λ (f : LedgerAccount × List ℕ).
        option_map (λ accounts. f.0 ∷ accounts) (accounts_from count f.1)) front)
    by more None whole = tt
    by more (Some front) whole =
        more-read count bytes front.0 front.1 _ whole
        (more front.1 (after-front bytes front.0 front.1 whole is))

-- accounts are read that the bytes spell
pub accounts_from-body_of : (accounts : List LedgerAccount) → list_all is_account accounts ≡ true
    → accounts_from (length accounts) (body_of accounts) ≡ Some accounts
accounts_from-body_of [] all = refl
accounts_from-body_of (account ∷ accounts) all =
    let w = and-true (is_account account) (list_all is_account accounts) all in
    rw (account_at-account_bytes account (body_of accounts) w.0)
    (rw (accounts_from-body_of accounts w.1) refl)

IsLedger-from : (most : ℕ) (accounts : List LedgerAccount) → is_ledger most accounts ≡ true → IsLedger most accounts
unfolding is_ledger
IsLedger-from most accounts is = grind (arith, nat_tests)

is_ledger-IsLedger : (most : ℕ) (accounts : List LedgerAccount) → IsLedger most accounts → is_ledger most accounts ≡ true
unfolding is_ledger
is_ledger-IsLedger most accounts is = grind (arith, nat_tests)

-- a spelled ledger is that of its bytes
abbrev Reads : List ℕ → Option (List LedgerAccount) → Type 0
Reads bytes None = Unit {0}
Reads bytes (Some accounts) = (2 ≤ length bytes) × IsBody (count_of_bytes (take 2 bytes)) (drop 2 bytes) accounts

reads-by : (bytes : List ℕ) (read : Option (List LedgerAccount)) → ReadsBody (count_of_bytes (take 2 bytes)) (drop 2 bytes) read
    → Reads bytes (if nat_le 2 (length bytes) then read else None)
reads-by bytes read reads = grind (arith, nat_tests)

accounts_of-reads : (bytes : List ℕ) → are_bytes bytes ≡ true → Reads bytes (accounts_of bytes)
unfolding accounts_of
accounts_of-reads bytes is = reads-by bytes _ (accounts_from-reads _ (drop 2 bytes) (are_bytes-drop 2 bytes is))

spells-by : (most : ℕ) (bytes : List ℕ) (accounts : Option (List LedgerAccount)) → are_bytes bytes ≡ true → Reads bytes accounts
    → has_ledger most accounts ≡ true → accounts_of bytes ≡ accounts → SpellsLedger most bytes
unfolding spelling_of ledger_of
spells-by most bytes None is reads holds read = cc
spells-by most bytes (Some accounts) is reads holds read =
    let head = count_bytes-count_of_bytes (take 2 bytes) (length-take-le 2 bytes reads.0)
    (are_bytes-take 2 bytes is) in
    record {
      ledger = rw read (IsLedger-from most accounts holds);
      spelled = rw read
          (sym (rw (reads.1.counted, head, ← reads.1.whole) (take-append-drop 2 bytes)));
      body = rw read reads.1.whole;
      counted = rw read (sym reads.1.counted);
      headed = reads.0;
    }

pub are_bytes-state : (most : ℕ) (bytes : List ℕ) → is_state most bytes ≡ true → are_bytes bytes ≡ true
unfolding is_state
are_bytes-state most bytes is = (and-true (are_bytes bytes) (has_ledger most (accounts_of bytes)) is).0

pub is_state-SpellsLedger : (most : ℕ) (bytes : List ℕ) → is_state most bytes ≡ true → SpellsLedger most bytes
unfolding is_state
is_state-SpellsLedger most bytes is =
    let w = and-true (are_bytes bytes) (has_ledger most (accounts_of bytes)) is in
    spells-by most bytes _ w.0 (accounts_of-reads bytes w.0) w.1 refl

-- the bytes of a ledger are bytes
are_bytes-account_bytes : (account : LedgerAccount) → is_account account ≡ true → are_bytes (account_bytes account) ≡ true
unfolding account_bytes
are_bytes-account_bytes account is =
    let kept = (IsAccount-from account is).named in
    grind (arith, nat_tests, are_bytes-append, are_bytes-visible, are_bytes-eight)

are_bytes-body_of : (accounts : List LedgerAccount) → list_all is_account accounts ≡ true → are_bytes (body_of accounts) ≡ true
are_bytes-body_of [] all = refl
are_bytes-body_of (account ∷ accounts) all =
    let w = and-true (is_account account) (list_all is_account accounts) all in
    are_bytes-append (account_bytes account) (body_of accounts)
    (are_bytes-account_bytes account w.0) (are_bytes-body_of accounts w.1)

-- an account has at most 49 bytes
length-account_bytes : (account : LedgerAccount) → length (account_bytes account) ≡ length account.name + 17
unfolding account_bytes
length-account_bytes account = omega (arith, length-append {A = ℕ}, length-eight)

length-body_of : (accounts : List LedgerAccount) → list_all is_account accounts ≡ true → length (body_of accounts) ≤ 49 * length accounts
length-body_of [] all = omega arith
length-body_of (account ∷ accounts) all =
    let w = and-true (is_account account) (list_all is_account accounts) all in
    omega (
      arith,
      length-append (account_bytes account) (body_of accounts),
      length-account_bytes account,
      (IsAccount-from account w.0).named.short,
      length-body_of accounts w.1,
    )

pub length-spelling_of : (most : ℕ) (accounts : List LedgerAccount) → IsLedger most accounts → length (spelling_of accounts) ≤ 2 + 49 * most
unfolding spelling_of
length-spelling_of most accounts is = omega (
  arith,
  length-append (count_bytes (length accounts)) (body_of accounts),
  length-count_bytes (length accounts),
  length-body_of accounts is.good,
  is.few,
)

-- a ledger is read that the bytes spell
accounts_of-spelling_of : (accounts : List LedgerAccount) → length accounts < 2 ^ 16 → list_all is_account accounts ≡ true
    → accounts_of (spelling_of accounts) ≡ Some accounts
unfolding accounts_of spelling_of
accounts_of-spelling_of accounts few all =
    let two = length-count_bytes (length accounts) in
    let enough = length-append (count_bytes (length accounts)) (body_of accounts) in
    let long : nat_le 2 (length (count_bytes (length accounts) ++ body_of accounts)) ≡ true =
    grind (arith, nat_tests) in
    rw (
      long,
      take-front 2 (count_bytes (length accounts)) (body_of accounts) two,
      drop-front 2 (count_bytes (length accounts)) (body_of accounts) two,
      count_of_bytes-count_bytes (length accounts) few,
    ) (accounts_from-body_of accounts all)

pub ledger_of-spelling_of : (most : ℕ) (accounts : List LedgerAccount) → most < 2 ^ 16 → IsLedger most accounts
    → ledger_of (spelling_of accounts) ≡ accounts
unfolding ledger_of
ledger_of-spelling_of most accounts small is =
    ap (λ (read : Option (List LedgerAccount)). unwrap_or read [])
    (accounts_of-spelling_of accounts (omega (arith, is.few)) is.good)

pub is_state-spelling_of : (most : ℕ) (accounts : List LedgerAccount) → most < 2 ^ 16 → IsLedger most accounts
    → is_state most (spelling_of accounts) ≡ true
unfolding is_state
is_state-spelling_of most accounts small is =
    let bytes : are_bytes (spelling_of accounts) ≡ true = unfold spelling_of in
    are_bytes-append (count_bytes (length accounts)) (body_of accounts)
    (bytes-count_bytes (length accounts))
    (are_bytes-body_of accounts is.good) in
    and-both _ _ bytes (rw (accounts_of-spelling_of accounts (omega (arith, is.few)) is.good)
    (is_ledger-IsLedger most accounts is))
