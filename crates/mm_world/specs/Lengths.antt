-- How many bytes there are, if any, and how many a count of 64 bits tells. With it: the event that
-- is seen where it lies.
use Rattle.std.specs.Prelude.{ℕ, ◌-◌, ◌^◌, List, length, min, Option, None, Some}
use Rattle.mm_module.specs.Batches.{batch_of}
use Rattle.mm_schedule.specs.Events.{Event, Ask, Checkpoint, Power, Extend, offer_of}
use Rattle.mm_schedule.specs.declared.event.Offer.{Offer}
use Rattle.mm_world.specs.declared.views.EventView.{EventView}
use Rattle.mm_world.specs.declared.views.EventView.TheVariants as seen
use Rattle.mm_world.specs.declared.views.OfferView.{OfferView}
use Rattle.mm_world.specs.declared.views.OfferView.TheVariants as offered

abbrev pub length_if : Option (List ℕ) → ℕ
length_if None = 0
length_if (Some bytes) = length bytes

-- a count of 64 bits stays at the greatest once it is there
abbrev pub within_64 : ℕ → ℕ
within_64 n = min n (2 ^ 64 - 1)

-- The event that is seen where it lies.

abbrev pub offer_of_view : OfferView → Offer
offer_of_view (offered.Owned offer) = offer.now
offer_of_view (offered.Text from) = offer_of from

abbrev pub event_of_view : EventView → Event
event_of_view (seen.Ask course from batch) =
    Ask course.meddles.now course.stop (offer_of_view from) (batch_of batch)
event_of_view (seen.Checkpoint course) = Checkpoint course.meddles.now course.stop
event_of_view seen.Power = Power
event_of_view (seen.Extend value) = Extend value.bytes
