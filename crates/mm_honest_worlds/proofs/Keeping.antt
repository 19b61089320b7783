-- What is known of the stores fits a history of its own, beside that by which the world is one: both stand where the module is. Where
-- it leaves, and where it arrives, they have the same requests.
use Rattle.std.specs.Prelude.{◌==◌, if◌then◌else◌}
use Rattle.std.proofs.Common.{◌≡◌, ◌∙◌, ℕ, Bool, true, false, List, refl, sym, ap, subst, inl, inr, ◌⊎◌}
use Rattle.mm_digest.specs.declared.variant.Variant.{Variant}
use Rattle.mm_platform.specs.Standing.{Standing}
use Rattle.mm_module.specs.Batch.{Batch}
use Rattle.mm_module.specs.Meaning.{Meaning}
use Rattle.mm_model.specs.History.{History, requests_of}
use Rattle.mm_model.specs.Chains.{Instance}
use Rattle.mm_model.specs.Standing.{StandsFor}
use Rattle.mm_call.specs.CallPremises.{IsWithin}
use Rattle.mm_move.specs.declared.link.Link.{Link}
use Rattle.mm_life.specs.Deeds.{LifeCall}
use Rattle.mm_life.specs.Stages.{LifePart}
use Rattle.mm_sides.specs.BothSides.{Blank, Live, Retired, Role, Waiting}
use Rattle.mm_worlds.specs.Premises.{Handed, instance_at, instance_of, key_of, role_of, handed_after, World, WorldPart, WorldPartLeads}
use Rattle.mm_worlds.specs.OneWorld.{WorldPartSteps}
use Rattle.mm_worlds.proofs.Above.{IsUnmarred, StandsInOrder, WorldLaws, changed_at, here_changed, other_number, same_number, there_changed}
use Rattle.mm_worlds.proofs.Above.{within_key}
use Rattle.mm_honest_worlds.specs.GoingOn.{StoreFits, WorldPartGoesOn}
use Rattle.mm_honest_worlds.specs.HostStores.{HostStore, HostStores, store_behind_part}
use Rattle.mm_honest_worlds.proofs.Arriving.{held_by, is_here}
use Rattle.mm_honest_worlds.proofs.OneHistory.{one_history}

-- it is live, or it isn't
pub live_or : (role : Role) → (role ≡ Live) ⊎ (role ≡ Live → ⊥)
live_or Live = inl refl
live_or Blank = inr (λ e. cc)
live_or (Waiting nonce) = inr (λ e. cc)
live_or (Retired nonce) = inr (λ e. cc)

module _ {variant : Variant} {meaning : Meaning} {link : Link} {all others : List (List ℕ)} {asked : List Batch}
    {IsSeen : Standing → LifePart → Standing → Type 0} {IsStill : Standing → List LifeCall → Type 0}
    (laws : WorldLaws variant meaning link all others asked IsSeen IsStill) where
  abbrev Stands : World → History → Handed → Type 0
  Stands world y handed = StandsInOrder variant meaning link all others asked world y handed

  -- a platform stands for the history, which what is known of its store fits
  pub record Fits (standing : Standing) (z : History) (store : HostStore) : Type 0 where
    pub stands : StandsFor (instance_of variant meaning link standing) standing z
    pub fits : StoreFits (instance_of variant meaning link standing) z store

  -- So it is where the module is; and where it is nowhere the history has the requests of the one by which the world is one.
  pub record Keeps (world : World) (y z : History) (stores : HostStores) : Type 0 where
    pub within : IsWithin all others asked (instance_at variant meaning link link.key) z
    pub there : (at : ℕ) → role_of (world at) ≡ Live → Fits (world at) z (stores at)
    pub away : ((at : ℕ) → role_of (world at) ≡ Live → ⊥) → requests_of z.batches ≡ requests_of y.batches

  module _ (world : World) (y : History) (handed : Handed) (s : Stands world y handed) (z : History) (stores : HostStores)
      (keeps : Keeps world y z stores) (at : ℕ) where
    abbrev old : Standing
    old = world at

    abbrev here : Instance
    here = instance_of variant meaning link old

    abbrev store : HostStore
    store = stores at

    pub within_here : IsWithin all others asked here z
    within_here = within_key variant meaning link link.key (key_of old) all others asked z keeps.within

    -- one stage
    pub record Stepped (part : WorldPart) (new : Standing) (f : WorldPartLeads variant meaning link old part new) : Type 0 where
      pub after : History
      pub stands : Stands (changed_at world at new) after (handed_after variant meaning link handed old part new f)
      pub kept : History
      pub keeps_then : Keeps (changed_at world at new) after kept (changed_at stores at (store_behind_part store old part new))
      pub steps : WorldPartSteps variant meaning link old part new f (requests_of z.batches) (requests_of kept.batches)
      pub goes : WorldPartGoesOn variant all others asked meaning link old part new f (requests_of z.batches) (requests_of kept.batches)

    -- The world behind a stage: the platform where it was, and each other.
    module _ (new : Standing) (after : History) (given : Handed) (t : Stands (changed_at world at new) after given) (known : HostStore)
      where
        abbrev KeepsThen : History → Type 0
        KeepsThen w = Keeps (changed_at world at new) after w (changed_at stores at known)

        fits_changed : (w : History) → (role_of new ≡ Live → Fits new w known)
            → ((other : ℕ) → (other ≡ at → ⊥) → role_of (world other) ≡ Live → Fits (world other) w (stores other)) → (other : ℕ)
            → role_of (changed_at world at new other) ≡ Live → Fits (changed_at world at new other) w (changed_at stores at known other)
        fits_changed w there elsewhere other = by_number (other == at) refl
          where
            by_number : (b : Bool) → (other == at) ≡ b → role_of (if b then new else world other) ≡ Live
                → Fits (if b then new else world other) w (if b then known else stores other)
            by_number true e live = there live
            by_number false e live = elsewhere other (other_number other at e) live

        live_there : (other : ℕ) → (other ≡ at → ⊥) → role_of (world other) ≡ Live → role_of (changed_at world at new other) ≡ Live
        live_there other differs live = ap role_of (there_changed world at new other differs) ∙ live

        live_then : role_of new ≡ Live → role_of (changed_at world at new at) ≡ Live
        live_then live = ap role_of (here_changed world at new) ∙ live

        -- where it is live then, no other is
        alone : role_of new ≡ Live → (other : ℕ) → (other ≡ at → ⊥) → role_of (world other) ≡ Live → ⊥
        alone live other differs role =
            differs ((is_here laws (changed_at world at new) after given t at (live_then live)).only other (live_there other differs role))

        -- the module is here, at a history that goes on from the one before
        pub keeps_here : (w : History) → StandsFor here new w → IsWithin all others asked here w → StoreFits here w known → KeepsThen w
        keeps_here w stands within fits =
            let held = held_by variant meaning link (key_of old) new w stands in
            record {
              within = within_key variant meaning link (key_of old) link.key all others asked w within;
              there = fits_changed w (λ live. record {
                stands = subst (λ (k : List ℕ). StandsFor (instance_at variant meaning link k) new w) (sym held.1) stands;
                fits = subst (λ (k : List ℕ). StoreFits (instance_at variant meaning link k) w known) (sym held.1) fits;
              }) (λ other differs live. absurd (alone held.0 other differs live));
              away = λ none. absurd (none at (live_then held.0));
            }

        -- the module neither was here nor is
        pub keeps_by : (role_of old ≡ Live → ⊥) → (role_of new ≡ Live → ⊥) → requests_of after.batches ≡ requests_of y.batches → KeepsThen z
        keeps_by before behind same = record {
          within = keeps.within;
          there = fits_changed z (λ live. absurd (behind live)) (λ other differs live. keeps.there other live);
          away = λ none. keeps.away (λ other live. nobody none other (other == at) refl live) ∙ sym same;
        }
          where
            nobody : ((other : ℕ) → role_of (changed_at world at new other) ≡ Live → ⊥) → (other : ℕ) (b : Bool) → (other == at) ≡ b
                → role_of (world other) ≡ Live → ⊥
            nobody none other true e live =
                before (subst (λ (n : ℕ). role_of (world n) ≡ Live) (same_number other at e) live)
            nobody none other false e live = none other (live_there other (other_number other at e) live)

        -- the module left here, or it arrived: what is known of a store fits the history by which the world is one
        settles : (role_of new ≡ Live → StoreFits (instance_of variant meaning link new) after known)
            → ((other : ℕ) → (other ≡ at → ⊥) → role_of (world other) ≡ Live → ⊥) → KeepsThen after
        settles fits none = record {
          within = t.within;
          there = fits_changed after (λ live. record {
            stands = subst (λ (x : Standing). StandsFor (instance_of variant meaning link x) x after) (here_changed world at new)
                (is_here laws (changed_at world at new) after given t at (live_then live)).stands;
            fits = fits live;
          }) (λ other differs live. absurd (none other differs live));
          away = λ nobody. refl;
        }

        -- A move that leaves the list of the world.
        pub record Moved : Type 0 where
          pub kept : History
          pub keeps_then : KeepsThen kept
          pub same : requests_of kept.batches ≡ requests_of z.batches

        -- Where the module was it rests, at the same batches; or it stood at the end of a history without an open segment.
        pub record Rests : Type 0 where
          pub kept : History
          pub stands : StandsFor here new kept
          pub within : IsWithin all others asked here kept
          pub batches : kept.batches ≡ z.batches
          pub fits : StoreFits here kept known

        pub record Ended : Type 0 where
          pub shut : y.is_open ≡ false
          pub unmarred : IsUnmarred variant y
          pub fits : role_of new ≡ Live → StoreFits (instance_of variant meaning link new) after known

        module _ (same : requests_of after.batches ≡ requests_of y.batches) where
          moved_here : role_of old ≡ Live → Rests ⊎ Ended → Moved
          moved_here live (inl r) = record {
            kept = r.kept;
            keeps_then = keeps_here r.kept r.stands r.within r.fits;
            same = ap requests_of r.batches;
          }
          moved_here live (inr e) =
              let h = is_here laws world y handed s at live in
              record {
                kept = after;
                keeps_then = settles e.fits (λ other differs role. differs (h.only other role));
                same = same ∙ ap requests_of (sym (one_history variant meaning link (key_of old) all others asked laws.clear
                    laws.guarded old y z h.stands (keeps.there at live).stands h.within within_here e.shut e.unmarred));
              }

          moved_there : (role_of old ≡ Live → ⊥) → (role_of new ≡ Live → StoreFits (instance_of variant meaning link new) after known)
              → Moved
          moved_there away fits = elim (live_or (role_of new)) [
            | inl live ↦ record {
              kept = after;
              keeps_then = settles fits (alone live);
              same = same ∙ sym (keeps.away (λ other role. nobody live other (other == at) refl role));
            }
            | inr gone ↦ record { kept = z; keeps_then = keeps_by away gone same; same = refl }
          ]
            where
              nobody : role_of new ≡ Live → (other : ℕ) (b : Bool) → (other == at) ≡ b → role_of (world other) ≡ Live → ⊥
              nobody live other true e role =
                  away (subst (λ (n : ℕ). role_of (world n) ≡ Live) (same_number other at e) role)
              nobody live other false e role = alone live other (other_number other at e) role

          pub moved_on : (role_of old ≡ Live → Rests ⊎ Ended)
              → ((role_of old ≡ Live → ⊥) → role_of new ≡ Live → StoreFits (instance_of variant meaning link new) after known) → Moved
          moved_on was enters = elim (live_or (role_of old)) [
            | inl live ↦ moved_here live (was live)
            | inr away ↦ moved_there away (enters away)
          ]
