-- A client of one program, whose platform and store are its own. With it: what a client reads of
-- the output of a session.
use Rattle.std.specs.List.{AllByRecursion}
use Rattle.std.specs.Prelude.{ℕ, List, [], ◌∷◌, Option, None, Some, codes, ◌≡◌, ◌⊎◌, true, ◌++◌, drop, take, length, Result, Ok, Err}
use Rattle.mm_bytes.specs.Limits.{decimal_number}
use Rattle.mm_base.specs.Input.{lines_of}
use Rattle.mm_base.specs.declared.replay_fault.ReplayFault.TheVariants.{WriteFault}
use Rattle.mm_schedule.specs.Headers.{◌>>=◌, rest_after_prefix, word_at}
use Rattle.mm_play.specs.PlaysInput.{IsBlamed}
use Rattle.mm_store.specs.StoreStanding.{Slots}
use Rattle.mm_recovery.specs.FirstStart.{InstanceBegins, ShowsValues, Devices}
use Rattle.mm_recovery.specs.HostStanding.{host_standing}
use Rattle.mm_host.specs.Continuation.{is_store_fault}
use Rattle.mm_host.specs.Sessions.{session_standing}
use Rattle.mm_host.specs.declared.fault.SessionFault.TheVariants.{Lines}
use Rattle.mm_life.specs.HonestLife.{store_at_end}
use Rattle.mm_client.specs.Below.{Variant, Basic, Opt, Standing, Meaning, StoreStanding, IsUnbroken, basic_instance, opt_instance}
use Rattle.mm_client.specs.Below.{HostStanding, SessionFault, IsSession, IsLife, LifeStage, IsOverOneStore, HasClash, end_of, life_batches}
use Rattle.mm_client.specs.Below.{life_messages, opt_messages, others_values}
use Rattle.mm_client.specs.ClientLife.{ClientMemory, Hearing, memory_at, IsClientLife, IsGiven, IsServedOnce}
use Rattle.mm_client.specs.declared.heard.HeardReply.{HeardReply}

-- What a client reads of the output of a session: its replies.

-- one reading, and where it finds nothing another
abbrev pub first_found : {A : Type 0} → Option A → Option A → Option A
first_found None other = other
first_found (Some x) other = Some x

-- what stands behind the word by which a reply begins
abbrev pub rest_behind_word : List ℕ → Option (List ℕ)
rest_behind_word line =
    first_found (rest_after_prefix (codes "ok ") line) (rest_after_prefix (codes "again ") line)

-- the reply that a line is: a word, a position and an output, with a space between them
abbrev pub reply_in : List ℕ → Option HeardReply
reply_in line =
    rest_behind_word line >>= λ rest. word_at rest >>= λ parts. decimal_number parts.0 >>=
    λ position. Some (record { position = position; output = parts.1 })

-- a reply before others, where a line is one
abbrev pub with_reply : Option HeardReply → List HeardReply → List HeardReply
with_reply None replies = replies
with_reply (Some reply) replies = reply ∷ replies

abbrev pub replies_in_lines : List (List ℕ) → List HeardReply
replies_in_lines [] = []
replies_in_lines (line ∷ lines) = with_reply (reply_in line) (replies_in_lines lines)

-- the replies in an output, of its whole lines alone
abbrev pub replies_in : List ℕ → List HeardReply
replies_in output = replies_in_lines (lines_of output)

-- A client of one program, whose platform and store are its own: what each session comes to, and
-- what all of them are.

-- The first bytes of an output are heard, and the replies in them. All is heard only where the
-- session ended with Ok; and where the output failed, nothing.
pub record HearsOutput (output : List ℕ) (result : Result Unit SessionFault)
    (heard : Hearing) : Type 0 where
  pub bytes : List ℕ
  pub lost : List ℕ
  pub front : bytes ++ lost ≡ output
  pub replies : heard.replies ≡ replies_in bytes
  pub cut : result ≡ Err (Lines WriteFault) → bytes ≡ []
  pub whole : heard.is_whole ≡ true → (result ≡ Ok tt) × (lost ≡ [])

-- what a program tells: its variant, its module, and its host's devices
pub record LocalStanding : Type 0 where
  pub variant : Variant
  pub meaning : Meaning
  pub host : HostStanding

abbrev pub local_standing : Variant → Meaning → Standing → StoreStanding → LocalStanding
local_standing variant meaning standing kept =
    record { variant = variant; meaning = meaning; host = host_standing standing kept }

-- The program holds one session, over an input and an output of its own: the first bytes of these
-- lines come in, and this is heard of it. The store's count of faults rises exactly where the
-- session ended with its fault.
pub record HoldsSession (old new : LocalStanding) (lines : List (List ℕ)) (heard : Hearing) : Type 0
  where
    pub variant : new.variant ≡ old.variant
    pub meaning : new.meaning ≡ old.meaning
    pub given : List ℕ
    pub cut : IsGiven lines (Some given)
    pub left : Option (List ℕ)
    pub output : List ℕ
    pub result : Result Unit SessionFault
    pub session : IsSession old.variant old.meaning
        (session_standing old.host.standing old.host.kept (Some given) (Some []))
        (session_standing new.host.standing new.host.kept left (Some output)) result
    pub blames : IsBlamed (is_store_fault result) old.host.kept.faults new.host.kept.faults
    pub hears : HearsOutput output result heard

-- The client of such a life, who remembers this at its end, is served once. Or it gives evidence:
-- two different messages of its calls, in Opt also by which the register's items went into it, have
-- one digest, or the digest of one is zero; or in Opt a value of others is the guard of a request.
abbrev pub IsServedIn : (variant : Variant) (meaning : Meaning) (secrets : List ℕ)
    (kept : StoreStanding) (start : Standing) (stages : List LifeStage)
    → IsLife variant meaning start stages → List (List ℕ) → ClientMemory → Type 0
IsServedIn Basic meaning secrets kept start stages f wanted client =
    (let i = basic_instance meaning (take 32 secrets) in
    (IsClientLife 0 wanted Basic meaning start stages f (memory_at 0) client
    × IsServedOnce (life_messages i start stages f) [] (life_batches i start stages f) i kept start
    stages f wanted)
    ⊎ HasClash i (life_messages i start stages f) [] (life_batches i start stages f))
IsServedIn Opt meaning secrets kept start stages f wanted client =
    (let i = opt_instance meaning (take 32 secrets) (drop 32 secrets) in
    (IsClientLife 0 wanted Opt meaning start stages f (memory_at 0) client
    × IsServedOnce (opt_messages i start stages f) (others_values i start stages f)
    (life_batches i start stages f) i kept start stages f wanted)
    ⊎ HasClash i (opt_messages i start stages f) (others_values i start stages f)
    (life_batches i start stages f))

-- An instance was begun, and then a client who wants these lines had so many sessions of it held,
-- by the rule. They are a life over one store. He is served once, where the platform told its cell
-- before the first start, in Opt the register too, and an honest store its slots; and the store
-- tells no fault at the end.
pub record ServesLocalClient (variant : Variant) (meaning : Meaning) (old : Devices)
    (new : HostStanding) (wanted : List (List ℕ)) (rounds : ℕ) (client : ClientMemory)
    : Type 0 where
  pub started : Devices
  pub begun : InstanceBegins variant meaning old started
  pub stages : List LifeStage
  pub count : length stages ≡ rounds
  pub life : IsLife variant meaning started.platform stages
  pub over : IsOverOneStore started.store stages
  pub ends : end_of started.platform stages ≡ new.standing
  pub left : store_at_end started.store stages ≡ new.kept
  pub serves : (cell : List ℕ) (values : List (List ℕ)) (slots : Slots) →
      old.platform.cell ≡ Some cell → ShowsValues variant old.platform values →
      old.store.is_honest ≡ true → old.store.slots ≡ Some slots → new.kept.faults ≡ 0 →
      AllByRecursion IsUnbroken wanted →
      IsServedIn variant meaning begun.secrets started.store started.platform stages life wanted
      client
