-- The claims hold. Assumes nothing.
use mathlib.Core.Path.{ap, ◌∙◌}
use Rattle.field.proofs.MappedBack.{mapped_back_lem}
use Rattle.connection.specs.Channel.{valid_channel}
use Rattle.storage.proofs.LogTimes.{log_times_lem}
use Rattle.typed_data.proofs.Readings.{readings}
use Rattle.event_offset.proofs.SharedTexts.{shared_texts_lem}
use Rattle.record_writer.proofs.Trips.{round_trips_lem}
use Rattle.record_writer.proofs.Turned.{turned_away_lem}
use Rattle.answers.specs.RustAnswers.{as_rust}
use Rattle.answers.proofs.Ported.{ported_answers}
use Rattle.answers.proofs.WhatWasShort.{lengths_needed_lem, what_was_short_lem}
use Rattle.flat_record.proofs.Parsed.{flat_of_parsed}
use Rattle.flat_writer.proofs.Answers.{flat_answers_lem}
use Rattle.flat_writer.proofs.Trips.{flat_trips_lem}
use Rattle.flat.proofs.Ported.{flat_ported_lem}
use Rattle.record_line.proofs.Bytes.{same_line}
use Rattle.record_line.proofs.PrintedData.{printed_data_lem}
use Rattle.record_line.proofs.PrintedTime.{printed_time}
use Rattle.claims.specs.Claims.{Claims}
use Rattle.claims.specs.Demand2.{Demand2}
use Rattle.claims.proofs.Cases.{cases}
use Rattle.claims.proofs.Channels15.{channels_15}
use Rattle.claims.proofs.Demand1.{demand_1}
use Rattle.claims.proofs.Demand3.{demand_3}
use Rattle.claims.proofs.Equality.{equality}
use Rattle.claims.proofs.Fields.{decoded}
use Rattle.claims.proofs.FewBytes.{few_bytes_lem}
use Rattle.claims.proofs.FindFast.{find_fast_lem}
use Rattle.claims.proofs.Header.{header}
use Rattle.claims.proofs.KeptBits.{kept_bits_lem}
use Rattle.claims.proofs.PlatformEvents.{platform_events_lem}
use Rattle.claims.proofs.Requests.{requests}
use Rattle.claims.proofs.Texts.{data_texts_lem, event_texts_lem, time_texts_lem, writes}

pub demand_2 : Demand2
demand_2 =
    record {
      decoded = decoded;
      event_texts = event_texts_lem;
      data_texts = data_texts_lem;
      time_texts = time_texts_lem;
      requests = requests;
      writes = writes;
      flats = flat_of_parsed;
      lines = same_line;
      answers = λ kind s r p n. ap (as_rust kind) p.decoded ∙ (ported_answers valid_channel kind s).same n;
      ported = ported_answers valid_channel;
      flat_ported = flat_ported_lem;
    }

pub claims : Claims
claims =
    record {
      demand1 = demand_1;
      demand2 = demand_2;
      demand3 = demand_3;
      cases = cases;
      header = header;
      equality = equality;
      shared_texts = shared_texts_lem;
      log_times = log_times_lem;
      printed_times = printed_time;
      readings = readings;
      printed_data = printed_data_lem;
      what_was_short = what_was_short_lem valid_channel;
      lengths_needed = lengths_needed_lem;
      mapped_back = mapped_back_lem;
      channels15 = channels_15;
      writer = record { round_trips = round_trips_lem; turned_away = turned_away_lem; flat_trips = flat_trips_lem; flat_answers = flat_answers_lem };
      kept_bits = kept_bits_lem;
      find_fast = find_fast_lem;
      few_bytes = few_bytes_lem;
      platform_events = platform_events_lem;
    }
