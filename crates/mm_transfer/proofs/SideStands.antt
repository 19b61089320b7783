-- Where a side in code stands, by its role. With it: what a side's cell reads as, by its role.
use Rattle.mm_digest.specs.declared.variant.Variant.TheVariants as variants
use Rattle.mm_seal.specs.Cell.{cell_spelling, blank_cell, ReadsCell}
use Rattle.mm_seal.specs.Parts.{is_same_variant}
use Rattle.mm_seal.specs.declared.cell.Cell.{Cell}
use Rattle.mm_seal.specs.declared.cell.CellFault.TheVariants as fault
use Rattle.mm_move.specs.Cells.{waiting_spelling, retired_spelling}
use Rattle.mm_move.specs.declared.cell.MovedCell.TheVariants as moved
use Rattle.mm_move.specs.declared.cell.RetiredCell.{RetiredCell}
use Rattle.mm_transfer.proofs.Below.{◌≡◌, ℕ, Bool, true, false, List, length, Result, Ok, Err, refl, sym, ap, ◌∙◌, ◌==◌, ◌&&◌, not}
use Rattle.mm_transfer.proofs.Below.{if◌then◌else◌, bytes_eq, Variant, CellFault, FitsVariant, Instance, Digests, cell_at, MovedCell, Link}
use Rattle.mm_transfer.proofs.Below.{ReadyMove, MoveRefusal, IsWaiting, moved_cell_of, barrier_of, is_barred, is_other, refusal_if}
use Rattle.mm_transfer.proofs.Below.{bytes_are, bytes_tell, eq_is, moved_back, blank_read, Role, Blank, Live, Waits, Left, DenialCause}
use Rattle.mm_transfer.proofs.Below.{FoundMove, waiting_cell_at, retired_cell_at, cell_of_role, refusal_of, IsSaid, MatchesRole, FitsRole}
use Rattle.mm_transfer.proofs.Below.{FitsCell, ◌<◌, get_or, Some, subst, arith, ◌≢◌, Basic, Opt, Meaning, Standing, IsNoCell}
use Rattle.mm_transfer.proofs.Below.{register_reading, instance_by, IsRead, value_in, digest_in, HasDigests, IsQuiet, register_at}
use Rattle.mm_transfer.proofs.Below.{digests_are, WaitingCell, three, Waiting, Retired, is_live, SideName, Pair, key_of, instance_on}
use Rattle.mm_transfer.proofs.Below.{CodeSide, link_of, role_in, role_of, at_by, at_in, StandsAs, FitsSide}

-- What a side's cell reads as, by its role.

-- what a side's cell reads as
abbrev pub read_as : Instance → Role → Digests → Result MovedCell CellFault
read_as i Blank d = Err fault.Blank
read_as i Live d = Ok (moved.Live (cell_at i d))
read_as i (Waits nonce) d = Ok (moved.Waiting (waiting_cell_at i nonce))
read_as i (Left nonce) d = Ok (moved.Retired (retired_cell_at i d nonce))

pub fits_linked : (v : Variant) (barrier : List ℕ) (link : Link) → barrier_of v link ≡ barrier → FitsVariant v false barrier
fits_linked variants.Basic barrier link e = (refl, sym e)
fits_linked variants.Opt barrier link e = tt

pub is_waiting : (i : Instance) (link : Link) (nonce : List ℕ) → length i.key ≡ 32 → length i.barrier ≡ 32
    → barrier_of i.variant link ≡ i.barrier → length nonce ≡ 32 → IsWaiting (waiting_cell_at i nonce)
is_waiting i link nonce key barrier linked size =
    record { nonce = size; key = key; barrier = barrier; variant = fits_linked i.variant i.barrier link linked }

pub role_read : (i : Instance) (link : Link) (role : Role) (d : Digests) → FitsCell i link role d
    → moved_cell_of (cell_of_role i role d) ≡ read_as i role d
role_read i link Blank d fit = sym (blank_read blank_cell (bytes_are blank_cell blank_cell refl))
role_read i link Live d fit =
    moved_back (moved.Live (cell_at i d)) (record { summary = fit.fits.1; key = fit.key; barrier = fit.barrier; variant = fit.fits.0 })
role_read i link (Waits nonce) d fit =
    moved_back (moved.Waiting (waiting_cell_at i nonce)) (is_waiting i link nonce fit.key fit.barrier fit.linked fit.fits.1)
role_read i link (Left nonce) d fit =
    moved_back (moved.Retired (retired_cell_at i d nonce)) (record { summary = fit.fits.2; key = fit.key; nonce = fit.fits.1 })

-- a side with another value in its register
pub cell_reading : (i : Instance) (role : Role) (d : Digests) (register : List ℕ)
    → cell_of_role i role d ≡ cell_of_role i role (record d { register = register })
cell_reading i (Waits nonce) d register = refl
cell_reading i _ d register = refl

pub fits_reading : (i : Instance) (role : Role) (d : Digests) (register : List ℕ) → FitsRole i role d
    → FitsRole i role (record d { register = register })
fits_reading i (Waits nonce) d register fits = fits
fits_reading i _ d register fits = fits

-- tests that come out one way, and two choices by one test

pub same_is : (v : Variant) → is_same_variant v v ≡ true
same_is variants.Basic = refl
same_is variants.Opt = refl

pub no_other : (v : Variant) (id : ℕ) → is_other v id v id ≡ false
no_other v id = ap (λ (x : Bool). not (x && (id == id))) (same_is v) ∙ ap not (eq_is id id refl)

pub not_barred : (v : Variant) (barrier : List ℕ) (link : Link) → barrier_of v link ≡ barrier → is_barred v barrier link ≡ false
not_barred variants.Basic barrier link e = refl
not_barred variants.Opt barrier link e = ap not (bytes_are barrier link.barrier (sym e))

pub same_tests : (a b : Bool) → (a ≡ true → b ≡ true) → (b ≡ true → a ≡ true) → a ≡ b
same_tests true true p q = refl
same_tests true false p q = sym (p refl)
same_tests false true p q = q refl
same_tests false false p q = refl

pub eq_turned : (xs ys : List ℕ) → bytes_eq xs ys ≡ bytes_eq ys xs
eq_turned xs ys =
    same_tests (bytes_eq xs ys) (bytes_eq ys xs) (λ e. bytes_are ys xs (sym (bytes_tell xs ys e)))
    (λ e. bytes_are xs ys (sym (bytes_tell ys xs e)))

module _ {A : Type 0} (gives : FoundMove → A → Type 0) (i : Instance) (role : Role) (d : Digests) where
  abbrev Says : MoveRefusal → DenialCause → Type 0
  Says why cause = (why ≡ refusal_of cause) × IsSaid cause

  -- one is refused where the other goes on
  pub by_not : (one other : Bool) (why : MoveRefusal) (rest : Result (ReadyMove A) MoveRefusal) (found : Result FoundMove DenialCause)
      (cause : DenialCause) → one ≡ other → MatchesRole gives i role d rest found → Says why cause
      → MatchesRole gives i role d (refusal_if (not one) why rest) (if other then found else Err cause)
  by_not true true why rest found cause e m r = m
  by_not true false why rest found cause e m r = cc
  by_not false true why rest found cause e m r = cc
  by_not false false why rest found cause e m r = r

  pub by_both : (one : Bool) (why : MoveRefusal) (rest : Result (ReadyMove A) MoveRefusal) (found : Result FoundMove DenialCause)
      (cause : DenialCause)
      → Says why cause → (one ≡ false → MatchesRole gives i role d rest found)
      → MatchesRole gives i role d (refusal_if one why rest) (if one then Err cause else found)
  by_both true why rest found cause r m = r
  by_both false why rest found cause r m = m refl

  -- no other module's cell, and no other barrier
  pub past : (one : Bool) (why : MoveRefusal) (rest : Result (ReadyMove A) MoveRefusal) (found : Result FoundMove DenialCause) → one ≡ false
      → MatchesRole gives i role d rest found → MatchesRole gives i role d (refusal_if one why rest) found
  past true why rest found e m = cc
  past false why rest found e m = m

  pub is_refused : (one : Bool) (why : MoveRefusal) (rest : Result (ReadyMove A) MoveRefusal) (cause : DenialCause) → one ≡ false
      → Says why cause → MatchesRole gives i role d (refusal_if (not one) why rest) (Err cause)
  is_refused true why rest cause e r = cc
  is_refused false why rest cause e r = r

-- Where a side in code stands, by its role.

-- an instance by its variant

pub linked_by : (variant : Variant) (meaning : Meaning) (key barrier link : List ℕ)
    → barrier_of (instance_by variant meaning key barrier).variant (record { key = link; barrier = barrier })
    ≡ (instance_by variant meaning key barrier).barrier
linked_by Basic meaning key barrier link = refl
linked_by Opt meaning key barrier link = refl

pub variant_by : (variant : Variant) (meaning : Meaning) (key barrier : List ℕ)
    → (instance_by variant meaning key barrier).variant ≡ variant
variant_by Basic meaning key barrier = refl
variant_by Opt meaning key barrier = refl

pub meaning_by : (variant : Variant) (meaning : Meaning) (key barrier : List ℕ)
    → (instance_by variant meaning key barrier).meaning ≡ meaning
meaning_by Basic meaning key barrier = refl
meaning_by Opt meaning key barrier = refl

pub key_by : (variant : Variant) (meaning : Meaning) (key barrier : List ℕ) → (instance_by variant meaning key barrier).key ≡ key
key_by Basic meaning key barrier = refl
key_by Opt meaning key barrier = refl

-- a live side stands as its platform does

module _ (pair : Pair) (which : SideName) (standing : Standing) (d : Digests) where
  pub live_stands : HasDigests (instance_on pair which) standing d → StandsAs pair which Live standing d
  live_stands s = record {
    fits = record {
      key = s.at.spells.key;
      barrier = s.at.spells.barrier;
      linked = linked_by pair.variant pair.meaning (key_of pair which) pair.barrier pair.link;
      fits = (s.at.spells.variant, s.at.spells.summary);
    };
    cell = s.at.cell;
    register = s.register;
  }

  pub stands_live : StandsAs pair which Live standing d → HasDigests (instance_on pair which) standing d
  stands_live s = record {
    at = record {
      spells = record { summary = s.fits.fits.1; key = s.fits.key; barrier = s.fits.barrier; variant = s.fits.fits.0 };
      cell = s.cell;
      reads = register_at (instance_on pair which).variant (register_reading standing) d.register s.register;
    };
    register = s.register;
  }

-- what is kept of the digest, where the cell has none

abbrev pub KeepsFor : Role → List ℕ → Digests → Type 0
KeepsFor Live kept d = Unit {0}
KeepsFor (Retired nonce) kept d = Unit {0}
KeepsFor role kept d = kept ≡ d.digest

pub keeps_equal : (role : Role) (kept : List ℕ) (d : Digests) → kept ≡ d.digest → KeepsFor role kept d
keeps_equal Live kept d e = tt
keeps_equal (Retired nonce) kept d e = tt
keeps_equal role kept d e = e

keeps_own : (role : Role) (standing : Standing) (kept : List ℕ) (position : ℕ) → KeepsFor role kept (at_by role standing kept position)
keeps_own Live standing kept position = tt
keeps_own (Retired nonce) standing kept position = tt
keeps_own role standing kept position = refl

pub same_keeps : (old new : CodeSide) → new.digest ≡ old.digest → KeepsFor (role_in old.seat.platform.cell) new.digest.bytes (at_in old)
same_keeps old new e = subst (λ x. KeepsFor (role_in old.seat.platform.cell) x.bytes (at_in old)) (sym e)
    (keeps_own (role_in old.seat.platform.cell) old.seat.platform old.digest.bytes old.seat.committed)

pub keeps_reading : (role : Role) (d : Digests) (register kept : List ℕ) → KeepsFor role kept d
    → KeepsFor role kept (record d { register = register })
keeps_reading Live d register kept k = k
keeps_reading _ d register kept k = k

-- a side whose platform stands so fits, and is so

left_digest : (i : Instance) (d : Digests) (nonce : List ℕ) → length d.digest ≡ 32 → length i.key ≡ 32 → length nonce ≡ 32
    → digest_in (Some (retired_spelling (retired_cell_at i d nonce))) ≡ d.digest
unfolding retired_spelling
left_digest i d nonce a b c = (three d.digest i.key nonce a b c).first

at_back : (pair : Pair) (which : SideName) (role : Role) (standing : Standing) (kept : List ℕ) (position : ℕ) (d : Digests)
    → StandsAs pair which role standing d → position ≡ d.count → KeepsFor role kept d → at_by role standing kept position ≡ d
at_back pair which Blank standing kept position d s count keeps = λ j. record {
  digest = keeps j;
  flag = sym s.fits.fits j;
  register = ap value_in s.register j;
  count = count j;
}
at_back pair which Live standing kept position d s count keeps =
    digests_are (instance_on pair which) d standing position (stands_live pair which standing d s) ∙ (λ j. record d { count = count j })
at_back pair which (Waiting nonce) standing kept position d s count keeps = λ j. record {
  digest = keeps j;
  flag = sym s.fits.fits.0 j;
  register = ap value_in s.register j;
  count = count j;
}
at_back pair which (Retired nonce) standing kept position d s count keeps =
    let digest : digest_in standing.cell ≡ d.digest =
    ap digest_in s.cell ∙ left_digest (instance_on pair which) d nonce s.fits.fits.2 s.fits.key s.fits.fits.1 in λ j. record {
      digest = digest j;
      flag = sym s.fits.fits.0 j;
      register = ap value_in s.register j;
      count = count j;
    }

role_back : (i : Instance) (role : Role) (d : Digests) → role_of (read_as i role d) ≡ role
role_back i (Waiting nonce) d = refl
role_back i _ d = refl

pub record IsSide (pair : Pair) (which : SideName) (role : Role) (d : Digests) (side : CodeSide) : Type 0 where
  pub fits : FitsSide pair which side
  pub role_is : role_in side.seat.platform.cell ≡ role
  pub at_is : at_in side ≡ d

pub side_is : (pair : Pair) (which : SideName) (role : Role) (d : Digests) (side : CodeSide) → StandsAs pair which role side.seat.platform d
    → IsQuiet side.seat.platform → side.seat.committed ≡ d.count → KeepsFor role side.digest.bytes d → IsSide pair which role d side
side_is pair which role d side s quiet count keeps =
    let i = instance_on pair which in
    let is : role_in side.seat.platform.cell ≡ role =
    ap role_in s.cell ∙ ap role_of (role_read i (link_of pair) role d s.fits) ∙ role_back i role d in
    let at : at_in side ≡ d =
    ap (λ r. at_by r side.seat.platform side.digest.bytes side.seat.committed) is
    ∙ at_back pair which role side.seat.platform side.digest.bytes side.seat.committed d s count keeps in
    record {
      fits = record {
        stands =
            subst (λ r. StandsAs pair which r side.seat.platform (at_in side)) (sym is)
            (subst (λ (x : Digests). StandsAs pair which role side.seat.platform x) (sym at) s);
        quiet = quiet;
      };
      role_is = is;
      at_is = at;
    }

-- a side goes on: its cell is as it was, and the register has this value

pub side_stays : (pair : Pair) (which : SideName) (old new : CodeSide) (value : List ℕ) → FitsSide pair which old
    → new.seat.platform.cell ≡ old.seat.platform.cell → register_reading new.seat.platform ≡ Some value → IsQuiet new.seat.platform
    → new.seat.committed ≡ old.seat.committed → KeepsFor (role_in old.seat.platform.cell) new.digest.bytes (at_in old)
    → IsSide pair which (role_in old.seat.platform.cell) (record (at_in old) { register = value }) new
side_stays pair which old new value f cell register quiet position keeps =
    let i = instance_on pair which in
    let role = role_in old.seat.platform.cell in
    let d = at_in old in
    let was = f.stands.fits in
    side_is pair which role (record d { register = value }) new (record {
      fits = record { key = was.key; barrier = was.barrier; linked = was.linked; fits = fits_reading i role d value was.fits };
      cell = cell ∙ f.stands.cell ∙ ap Some (cell_reading i role d value);
      register = register;
    }) quiet position (keeps_reading role d value new.digest.bytes keeps)

-- the first three letters of a cell's bytes are told apart

begins_so : (cell : Cell) → get_or (cell_spelling cell) 2 0 ≡ 0x4e
unfolding cell_spelling
begins_so cell = refl

begins_waiting : (cell : WaitingCell) → (get_or (waiting_spelling cell) 2 0 ≡ 0x57) × (get_or (waiting_spelling cell) 0 0 ≡ 0x4d)
unfolding waiting_spelling
begins_waiting cell = (refl, refl)

begins_retired : (cell : RetiredCell) → (get_or (retired_spelling cell) 2 0 ≡ 0x58) × (get_or (retired_spelling cell) 0 0 ≡ 0x4d)
unfolding retired_spelling
begins_retired cell = (refl, refl)

begins_blank : get_or blank_cell 0 0 ≡ 0
unfolding blank_cell
begins_blank = refl

no_blank : (bytes : List ℕ) → get_or bytes 0 0 ≡ 0x4d → bytes ≢ blank_cell
no_blank bytes e h =
    let same : get_or bytes 0 0 ≡ get_or blank_cell 0 0 = ap (λ (x : List ℕ). get_or x 0 0) h in omega (arith, e, begins_blank, same)

no_cell : (bytes : List ℕ) (letter : ℕ) → get_or bytes 2 0 ≡ letter → letter ≢ 0x4e → IsNoCell bytes
no_cell bytes letter e differs cell is h = differs (sym e ∙ ap (λ (x : List ℕ). get_or x 2 0) h ∙ begins_so cell)

above : (letter : ℕ) → 0x4e < letter → letter ≢ 0x4e
above letter more h = omega (arith, more, h)

waiting_unspelled : (cell : WaitingCell) → (waiting_spelling cell ≢ blank_cell) × IsNoCell (waiting_spelling cell)
waiting_unspelled cell =
    let b = begins_waiting cell
    in (no_blank (waiting_spelling cell) b.1, no_cell (waiting_spelling cell) 0x57 b.0 (above 0x57 (omega arith)))

retired_unspelled : (cell : RetiredCell) → (retired_spelling cell ≢ blank_cell) × IsNoCell (retired_spelling cell)
retired_unspelled cell =
    let b = begins_retired cell
    in (no_blank (retired_spelling cell) b.1, no_cell (retired_spelling cell) 0x58 b.0 (above 0x58 (omega arith)))

-- the cell is as it was, the register has this value, and the platform is quiet
pub record Stays (old new : Standing) (value : List ℕ) : Type 0 where
  pub cell : new.cell ≡ old.cell
  pub register : register_reading new ≡ Some value
  pub quiet : IsQuiet new

pub stays_same : (old new : Standing) (value : List ℕ) → register_reading old ≡ Some value → IsQuiet old → new ≡ old
    → Stays old new value
stays_same old new value r q e =
    subst (λ (s : Standing). Stays old s value) (sym e) (record { cell = refl; register = r; quiet = q })

-- a cell where the module isn't reads as none

abbrev pub fault_where : Role → CellFault
fault_where Blank = fault.Blank
fault_where role = fault.Cell

unspelled : (i : Instance) (role : Role) (d : Digests) → is_live role ≡ false
    → ReadsCell (cell_of_role i role d) (Err (fault_where role))
unspelled i Blank d dead = refl
unspelled i Live d dead = absurd (cc)
unspelled i (Waiting nonce) d dead = waiting_unspelled (waiting_cell_at i nonce)
unspelled i (Retired nonce) d dead = retired_unspelled (retired_cell_at i d nonce)

pub vain_reads : (pair : Pair) (which : SideName) (role : Role) (standing : Standing) (d : Digests) → is_live role ≡ false
    → StandsAs pair which role standing d → IsQuiet standing → IsRead (Err (fault_where role)) d standing
vain_reads pair which role standing d dead s q = record {
  bytes = cell_of_role (instance_on pair which) role d;
  cell = s.cell;
  reads = unspelled (instance_on pair which) role d dead;
  register = s.register;
  quiet = q;
}
