-- The claim of specs/PlatformEvents.antt. Assumes nothing.
use mathlib.Core.Path.{refl}
use Rattle.platform_event.proofs.Rows.{made_of_message, message_of_record}
use Rattle.platform_event.proofs.Trips.{message_alone, message_trip, record_trip}
use Rattle.abi.proofs.EventsSay.{events_say}
use Rattle.claims.specs.PlatformEvents.{PlatformEvents}

pub platform_events_lem : PlatformEvents
platform_events_lem =
    record {
      stands = λ s. refl;
      to_record = made_of_message;
      to_message = message_of_record;
      alone = message_alone;
      message_back = message_trip;
      record_back = record_trip;
      says = events_say;
    }
