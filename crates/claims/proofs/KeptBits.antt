-- The claim of specs/KeptBits.antt. Assumes nothing.
use mathlib.Core.Path.{refl, ap}
use Rattle.field.specs.Handed.{Handed}
use Rattle.sel.proofs.Kept.{keeps}
use Rattle.record_writer.proofs.Trips.{from_fields, round_trips_lem}
use Rattle.record_writer.proofs.Turned.{turned_away_lem}
use Rattle.record_writer.specs.Layout.{made_of}
use Rattle.flat_writer.proofs.Answers.{kept_answers}
use Rattle.flat_writer.proofs.KeptTrips.{kept_trips}
use Rattle.claims.specs.KeptBits.{KeptBits}

pub kept_bits_lem : KeptBits
kept_bits_lem =
    record {
      parsed = keeps;
      made = from_fields;
      identity = λ s entry oem out left r o e w l.
          let trips = round_trips_lem entry oem out left r in
          let n = (trips.back s o e w l).0 in
          (n, trips.sixteen_back s o e (record { answer = r; promised = w; taken = ap (λ (h : Handed). h.number) n }));
      zeros = λ e oem out left w. (round_trips_lem (made_of e) oem out left w.answer).zeros e refl w;
      seven = λ e k oem. (turned_away_lem oem).exactly e k;
      trips = kept_trips;
      answers = kept_answers;
    }
