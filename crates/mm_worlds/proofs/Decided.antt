-- A world meets its premises or gives evidence, and never both. With it: a module that crosses from
-- one platform to another, with sessions on either side; what is told on all platforms together is
-- told in one run of the machine.
use Rattle.std.specs.List.{AllByRecursion, Contains}
use Rattle.std.specs.Str.{bytes_eq}
use Rattle.std.proofs.Common.{◌≡◌, ◌∙◌, ◌⊎◌, ℕ, List, [], ◌∷◌, Option, None, Some, Result, Ok, Err, refl, sym, subst, inl, inr, length}
use Rattle.std.proofs.Common.{◌++◌}
use Rattle.std.proofs.lemmas.Slice.Eq.{bytes_eq-Decides}
use Rattle.mm_digest.specs.declared.variant.Variant.{Variant}
use Rattle.mm_digest.specs.declared.variant.Variant.TheVariants.{Basic, Opt}
use Rattle.mm_seal.specs.Parts.{parts_of}
use Rattle.mm_seal.specs.Snapshot.{Content}
use Rattle.mm_platform.specs.Standing.{Standing}
use Rattle.mm_module.specs.Meaning.{Meaning, IsLawful}
use Rattle.mm_listing.specs.Listing.{Telling}
use Rattle.mm_modules.specs.Modules.{listing_of, meaning_of}
use Rattle.mm_model.specs.Chains.{Instance}
use Rattle.mm_model.specs.ListLaws.{each_self}
use Rattle.mm_model.specs.Standing.{IsRight}
use Rattle.mm_call.specs.CallFinding.{right_content}
use Rattle.mm_call.specs.OfferLaws.{right_of}
use Rattle.mm_call.proofs.Above.{each_at}
use Rattle.mm_move.specs.Cells.{moved_cell_of, MovePromise}
use Rattle.mm_move.specs.Orders.{right_ticket, acceptance_in, invitation_in, retirement_in, waiting_for}
use Rattle.mm_move.specs.Tickets.{TicketContent}
use Rattle.mm_move.specs.declared.link.Link.{Link}
use Rattle.mm_move.specs.declared.inviting.Invited.{Invited}
use Rattle.mm_move.specs.declared.refusal.MoveRefusal.{MoveRefusal}
use Rattle.mm_host.specs.declared.fault.SessionFault.{SessionFault}
use Rattle.mm_schedule.specs.Replies.{RunsKeepPromises, tellings_in}
use Rattle.mm_schedule.specs.declared.reply.Reply.{Reply}
use Rattle.mm_outcome.proofs.Above.{said_of}
use Rattle.mm_evidence.proofs.Above.{clash_apart, clash_or, found_or_none}
use Rattle.mm_host.specs.Sessions.{IsSession}
use Rattle.mm_life.specs.Premises.{IsUntagged}
use Rattle.mm_life.specs.Stages.{session_on}
use Rattle.mm_life.proofs.Above.{Ran, ran_none, ran_part, ran_same}
use Rattle.mm_worlds.specs.declared.crossing.Crossing.{Crossing}
use Rattle.mm_worlds.specs.Journey.{CrossesOver, CrossingStops, SiteStanding, accepted_at, both_sites, invited_at, retired_at, session_at, two_platforms}
use Rattle.mm_worlds.specs.OneWorld.{HasWorldBreach, IsWorldBreach, forged_offer, forged_ticket, nonce_twice, BasicWorldIsOne}
use Rattle.mm_worlds.specs.OneWorld.{EvidenceIsNoPremise, OptEvidenceIsNoPremise, OptWorldIsOne, OptWorldIsOneOrEvidence}
use Rattle.mm_worlds.specs.OneWorld.{WorldIsOneOrEvidence, opt_world_messages, world_batches, world_values, WorldsKeepPromises}
use Rattle.mm_worlds.specs.OneWorld.{WorldFollows, WorldPartSteps, world_part_replies, world_replies}
use Rattle.mm_worlds.specs.Premises.{Handed, snapshots_under, instance_of, key_of, AreHonest, IsHonest, IsOwnTicket, first_handed}
use Rattle.mm_worlds.specs.Premises.{handed_after, nonces_in, offers_in, tickets_offered, world_messages, IsWorldLife, World, WorldPart}
use Rattle.mm_worlds.specs.Premises.{WorldPartLeads, WorldStage, world_after, Accepts, Invites, Lives, Retires}

-- it is among these, or it isn't
contains_or : (xs : List (List ℕ)) (x : List ℕ) → Contains xs x ⊎ (Contains xs x → ⊥)
contains_or xs x = elim (found_or_none (bytes_eq x) xs) [
  | inl f ↦ inl (subst (Contains xs) (sym ((bytes_eq-Decides x f.0).0 f.2)) f.1)
  | inr none ↦ inr (λ there. none x there ((bytes_eq-Decides x x).1 refl))
]

-- each is as is asked, or one isn't
each_or : (P : List ℕ → Type 0) (B : Type 0) (xs whole : List (List ℕ)) → AllByRecursion (Contains whole) xs
    → ((x : List ℕ) → Contains whole x → B ⊎ P x) → B ⊎ AllByRecursion P xs
each_or P B [] whole among or = inr tt
each_or P B (x ∷ xs) whole among or = elim (or x among.0) [
  | inl broken ↦ inl broken
  | inr fine ↦ elim (each_or P B xs whole among.1 or) [
    | inl broken ↦ inl broken
    | inr rest ↦ inr (fine, rest)
  ]
]

untagged_or : (i : Instance) (issued : List (List ℕ)) (offer : List ℕ)
    → ((content : Content) × IsRight i offer content × (Contains issued offer → ⊥)) ⊎ IsUntagged i issued offer
untagged_or i issued offer = elim (contains_or issued offer) [
  | inl there ↦ inr (λ content right. there)
  | inr none ↦ by_content (right_content i offer) refl none
]
  where
    by_content : (said : Option Content) → right_content i offer ≡ said → (Contains issued offer → ⊥)
        → ((content : Content) × IsRight i offer content × (Contains issued offer → ⊥)) ⊎ IsUntagged i issued offer
    by_content None e none = inr (λ content right. let clash : None ≡ Some content = sym e ∙ said_of i offer content right in absurd (cc))
    by_content (Some content) e none =
        inl (content, right_of i offer (parts_of i.variant i.meaning.id offer) refl content e, none)

ticket_or : (variant : Variant) (meaning : Meaning) (link : Link) (tickets : List (List ℕ)) (ticket : List ℕ)
    → ((content : TicketContent) × (right_ticket meaning variant link.key ticket ≡ Ok content) × (Contains tickets ticket → ⊥))
    ⊎ IsOwnTicket variant meaning link tickets ticket
ticket_or variant meaning link tickets ticket = elim (contains_or tickets ticket) [
  | inl there ↦ inr (λ content right. there)
  | inr none ↦ by_read (right_ticket meaning variant link.key ticket) refl none
]
  where
    by_read : (read : Result TicketContent MoveRefusal) → right_ticket meaning variant link.key ticket ≡ read
        → (Contains tickets ticket → ⊥)
        → ((content : TicketContent) × (right_ticket meaning variant link.key ticket ≡ Ok content) × (Contains tickets ticket → ⊥))
        ⊎ IsOwnTicket variant meaning link tickets ticket
    by_read (Ok content) e none = inl (content, e, none)
    by_read (Err why) e none = inr (λ content right. let clash : Err why ≡ Ok content = sym e ∙ right in absurd (cc))

module _ (variant : Variant) (meaning : Meaning) (link : Link) where
  module _ (handed : Handed) (old : Standing) (part : WorldPart) (new : Standing)
      (f : WorldPartLeads variant meaning link old part new) where
    abbrev Breach : Type 0
    Breach = IsWorldBreach variant meaning link handed old part new f

    abbrev i : Instance
    i = instance_of variant meaning link old

    abbrev issued : List (List ℕ)
    issued = snapshots_under (key_of old) handed.snapshots

    offers_or : Breach ⊎ AllByRecursion (IsUntagged i issued) (offers_in variant meaning link old part new f)
    offers_or =
        each_or (IsUntagged i issued) Breach (offers_in variant meaning link old part new f) (offers_in variant meaning link old part new f)
        (each_self [] (offers_in variant meaning link old part new f)) (λ offer among. elim (untagged_or i issued offer) [
          | inl forged ↦ inl (forged_offer offer forged.0 among forged.1 forged.2)
          | inr fine ↦ inr fine
        ])

    tickets_or : Breach ⊎ AllByRecursion (IsOwnTicket variant meaning link handed.tickets) (tickets_offered part)
    tickets_or =
        each_or (IsOwnTicket variant meaning link handed.tickets) Breach (tickets_offered part) (tickets_offered part)
        (each_self [] (tickets_offered part)) (λ ticket among. elim (ticket_or variant meaning link handed.tickets ticket) [
          | inl forged ↦ inl (forged_ticket ticket forged.0 among forged.1 forged.2)
          | inr fine ↦ inr fine
        ])

    nonces_or : Breach ⊎ AllByRecursion (λ (nonce : List ℕ). Contains handed.nonces nonce → ⊥) (nonces_in old part new)
    nonces_or =
        each_or (λ (nonce : List ℕ). Contains handed.nonces nonce → ⊥) Breach (nonces_in old part new) (nonces_in old part new)
        (each_self [] (nonces_in old part new)) (λ nonce among. elim (contains_or handed.nonces nonce) [
          | inl before ↦ inl (nonce_twice nonce among before)
          | inr fine ↦ inr fine
        ])

    honest_or : Breach ⊎ IsHonest variant meaning link handed old part new f
    honest_or = elim offers_or [
      | inl broken ↦ inl broken
      | inr offers ↦ elim tickets_or [
        | inl broken ↦ inl broken
        | inr tickets ↦ elim nonces_or [
          | inl broken ↦ inl broken
          | inr nonces ↦ inr (record { offers = offers; tickets = tickets; nonces = nonces })
        ]
      ]
    ]

    honest_apart : IsHonest variant meaning link handed old part new f → Breach → ⊥
    honest_apart h (forged_offer offer content among right none) =
        none (each_at (IsUntagged i issued) (offers_in variant meaning link old part new f) offer h.offers among content right)
    honest_apart h (forged_ticket ticket content among right none) =
        none (each_at (IsOwnTicket variant meaning link handed.tickets) (tickets_offered part) ticket h.tickets among content right)
    honest_apart h (nonce_twice nonce among before) =
        each_at (λ (n : List ℕ). Contains handed.nonces n → ⊥) (nonces_in old part new) nonce h.nonces among before

  pub all_or : (stages : List WorldStage) (handed : Handed) (world : World) (f : IsWorldLife variant meaning link world stages)
      → HasWorldBreach variant meaning link handed world stages f ⊎ AreHonest variant meaning link handed world stages f
  all_or [] handed world f = inr tt
  all_or (stage ∷ stages) handed world f = elim (honest_or handed (world stage.at) stage.part stage.after f.0) [
    | inl broken ↦ inl (inl broken)
    | inr fine ↦ elim (all_or stages (handed_after variant meaning link handed (world stage.at) stage.part stage.after f.0)
        (world_after world stage) f.1) [
          | inl broken ↦ inl (inr broken)
          | inr rest ↦ inr (fine, rest)
        ]
  ]

  all_apart : (stages : List WorldStage) (handed : Handed) (world : World) (f : IsWorldLife variant meaning link world stages)
      → AreHonest variant meaning link handed world stages f → HasWorldBreach variant meaning link handed world stages f → ⊥
  all_apart [] handed world f honest broken = broken
  all_apart (stage ∷ stages) handed world f honest (inl broken) =
      honest_apart handed (world stage.at) stage.part stage.after f.0 honest.0 broken
  all_apart (stage ∷ stages) handed world f honest (inr broken) =
      all_apart stages (handed_after variant meaning link handed (world stage.at) stage.part stage.after f.0) (world_after world stage) f.1
      honest.1 broken

pub one_or_evidence : BasicWorldIsOne → WorldIsOneOrEvidence
one_or_evidence one meaning lawful link world stages f start =
    elim (clash_or (instance_of Basic meaning link (world 0)) (world_messages Basic meaning link world stages f) [] []) [
      | inl clash ↦ inr (inl clash)
      | inr clear ↦ elim (all_or Basic meaning link stages (first_handed Basic meaning link world) world f) [
        | inl broken ↦ inr (inr broken)
        | inr honest ↦ inl (one meaning lawful link world stages f start clear.0 honest)
      ]
    ]

pub no_premise : EvidenceIsNoPremise
no_premise meaning link world stages f clear honest (inl clash) =
    clash_apart (instance_of Basic meaning link (world 0)) (world_messages Basic meaning link world stages f) [] [] clear
    (λ opt. absurd (cc)) clash
no_premise meaning link world stages f clear honest (inr broken) =
    all_apart Basic meaning link stages (first_handed Basic meaning link world) world f honest broken

pub opt_one_or_evidence : OptWorldIsOne → OptWorldIsOneOrEvidence
opt_one_or_evidence one meaning lawful link world stages f start told =
    elim (clash_or (instance_of Opt meaning link (world 0)) (opt_world_messages meaning link world stages f)
    (world_values meaning link world stages f) (world_batches Opt meaning link world stages f)) [
      | inl clash ↦ inr (inl clash)
      | inr clear ↦ elim (all_or Opt meaning link stages (first_handed Opt meaning link world) world f) [
        | inl broken ↦ inr (inr broken)
        | inr honest ↦ inl (one meaning lawful link world stages f start told clear.0 (clear.1 refl) honest)
      ]
    ]

pub opt_no_premise : OptEvidenceIsNoPremise
opt_no_premise meaning link world stages f clear guarded honest (inl clash) =
    clash_apart (instance_of Opt meaning link (world 0)) (opt_world_messages meaning link world stages f)
    (world_values meaning link world stages f) (world_batches Opt meaning link world stages f) clear (λ opt. guarded) clash
opt_no_premise meaning link world stages f clear guarded honest (inr broken) =
    all_apart Opt meaning link stages (first_handed Opt meaning link world) world f honest broken

-- A module that crosses from one platform to another, with sessions on either side.

module _ (law : WorldIsOneOrEvidence) (meaning : Meaning) (lawful : IsLawful meaning) (link : Link) (nonce key offer : List ℕ)
    (long_nonce : length nonce ≡ 32) (long_key : length key ≡ 32) (first first' second second' : SiteStanding) (result : Crossing)
    (served waiting entered : Standing) (ticket : List ℕ) where
  abbrev stages : List WorldStage
  stages =
      session_at 0 first first' result.first served
      ∷ invited_at 1 nonce key result.invited waiting
      ∷ retired_at 0 nonce offer (Ok ticket) first'.platform
      ∷ accepted_at 1 ticket result.accepted entered
      ∷ session_at 1 second second' result.second second'.platform
      ∷ []

  whole : IsWorldLife Basic meaning link (two_platforms first.platform second.platform) stages
      → CrossesOver meaning link nonce key offer (both_sites first second) (both_sites first' second') result
  whole leads = record {
    made = record { ticket = ticket; served = served; waiting = waiting; entered = entered; stages = stages; are = refl };
    leads = leads;
    one = λ start. law meaning lawful link (two_platforms first.platform second.platform) stages leads start;
  }

  pub crosses : (paper : List ℕ) → paper ≡ ticket → (id : ℕ) → id ≡ meaning.id
      → IsSession Basic meaning (session_on first.platform first.program) (session_on served first'.program) result.first
      → MovePromise (λ bytes. invitation_in (waiting_for link Basic id nonce key) (moved_cell_of bytes)) second.platform waiting
      result.invited
      → MovePromise (λ bytes. retirement_in meaning Basic link nonce offer (moved_cell_of bytes)) served first'.platform (Ok ticket)
      → MovePromise (λ bytes. acceptance_in meaning Basic link paper (moved_cell_of bytes)) waiting entered result.accepted
      → IsSession Basic meaning (session_on entered second.program) (session_on second'.platform second'.program) result.second
      → CrossesOver meaning link nonce key offer (both_sites first second) (both_sites first' second') result
  crosses paper is id own one invites retires accepts two = whole (
    one,
    (
      (
        long_nonce,
        long_key,
        subst (λ (n : ℕ). MovePromise (λ (bytes : List ℕ). invitation_in (waiting_for link Basic n nonce key) (moved_cell_of bytes))
            second.platform waiting result.invited) own invites,
      ),
      (
        (long_nonce, retires),
        (
          subst (λ (bytes : List ℕ). MovePromise (λ (cell : List ℕ). acceptance_in meaning Basic link bytes (moved_cell_of cell)) waiting
              entered result.accepted) is accepts,
          (two, tt),
        ),
      ),
    ),
  )

-- where the retirement was refused
pub stops : (meaning : Meaning) (link : Link) (nonce key offer : List ℕ) → length nonce ≡ 32 → length key ≡ 32
    → (first first' second : SiteStanding) (invited : Result Invited MoveRefusal) (refusal : MoveRefusal)
    (end : Result Unit SessionFault) (served after : Standing) (id : ℕ) → id ≡ meaning.id
    → IsSession Basic meaning (session_on first.platform first.program) (session_on served first'.program) end
    → MovePromise (λ bytes. invitation_in (waiting_for link Basic id nonce key) (moved_cell_of bytes)) second.platform after invited
    → MovePromise (λ bytes. retirement_in meaning Basic link nonce offer (moved_cell_of bytes)) served first'.platform (Err refusal)
    → CrossingStops meaning link nonce key offer (both_sites first second)
    (both_sites first' (record { platform = after; program = second.program })) refusal
stops meaning link nonce key offer long_nonce long_key first first' second invited refusal end served after id own one invites retires =
    record {
      first = end;
      served = served;
      invited = invited;
      stages = _;
      are = refl;
      leads = (
        one,
        (
          (
            long_nonce,
            long_key,
            subst (λ (n : ℕ). MovePromise (λ (bytes : List ℕ). invitation_in (waiting_for link Basic n nonce key) (moved_cell_of bytes))
                second.platform after invited) own invites,
          ),
          ((long_nonce, retires), tt),
        ),
      );
      stays = refl;
    }

-- What is told on all platforms together is told in one run of the machine.

module _ (variant : Variant) (meaning : Meaning) (link : Link) where
  ran_one : (old : Standing) (part : WorldPart) (new : Standing) (f : WorldPartLeads variant meaning link old part new)
      (requests between after : List (List ℕ)) (more : List Reply)
      → WorldPartSteps variant meaning link old part new f requests between → Ran meaning between (tellings_in more) after
      → Ran meaning requests (tellings_in (world_part_replies variant meaning link old part new f ++ more)) after
  ran_one old (Lives part) new f requests between after more steps r =
      ran_part variant meaning old part new f requests between after more steps r
  ran_one old (Invites nonce key result) new f requests between after more steps r =
      ran_same meaning requests between after (tellings_in more) steps r
  ran_one old (Retires nonce offer result) new f requests between after more steps r =
      ran_same meaning requests between after (tellings_in more) steps r
  ran_one old (Accepts ticket result) new f requests between after more steps r =
      ran_same meaning requests between after (tellings_in more) steps r

  ran_all : (stages : List WorldStage) (world : World) (f : IsWorldLife variant meaning link world stages)
      (requests after : List (List ℕ)) → WorldFollows variant meaning link world stages f requests after
      → Ran meaning requests (tellings_in (world_replies variant meaning link world stages f)) after
  ran_all [] world f requests after follows = ran_none meaning requests after follows
  ran_all (stage ∷ stages) world f requests after follows =
      ran_one (world stage.at) stage.part stage.after f.0 requests follows.0 after
      (world_replies variant meaning link (world_after world stage) stages f.1) follows.1
      (ran_all stages (world_after world stage) f.1 follows.0 after follows.2)

pub worlds_keep : RunsKeepPromises → WorldsKeepPromises
worlds_keep keeps it variant link world stages f requests follows =
    let r = ran_all variant (meaning_of it) link stages world f [] requests follows in
    subst (λ (tellings : List Telling). (listing_of it).promise requests tellings) r.tells
    (keeps it r.events r.replies requests r.runs)
