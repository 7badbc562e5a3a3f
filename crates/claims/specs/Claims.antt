-- What is claimed of the port, whole: the three demands, the cases that its rules mark as proved, what the header of the library for C says,
-- and what was asked for since: what two equal entries may differ in, texts that share their bytes, times before the
-- clock was set, event data by event type, what was short, channels of IPMI 1.5, a writer of records, that the bits which
-- fields do not hold are kept, an index by which one slot is found fast, records read by parts, and Platform Event
-- Messages. Assumes nothing.
use Rattle.std.specs.Prelude.{ℕ, List}
use Rattle.field.specs.Handed.{Handed}
use Rattle.field.specs.MappedBack.{MappedBack}
use Rattle.connection.specs.Channel.{valid_channel}
use Rattle.storage.specs.LogTimes.{LogTimes}
use Rattle.typed_data.specs.Readings.{Readings}
use Rattle.event_offset.specs.SharedTexts.{SharedTexts}
use Rattle.answers.specs.WhatWasShort.{LengthsNeeded, WhatWasShort}
use Rattle.answers.specs.declared.AnswerKind.{AnswerKind}
use Rattle.record_line.specs.PrintedData.{PrintedData}
use Rattle.record_line.specs.PrintedTime.{PrintedTime}
use Rattle.claims.specs.Cases.{Cases}
use Rattle.claims.specs.Channels15.{Channels15}
use Rattle.claims.specs.Demand1.{Demand1}
use Rattle.claims.specs.Demand2.{Demand2}
use Rattle.claims.specs.Demand3.{Demand3}
use Rattle.claims.specs.Equality.{Equality}
use Rattle.claims.specs.FewBytes.{FewBytes}
use Rattle.claims.specs.FindFast.{FindFast}
use Rattle.claims.specs.Header.{Header}
use Rattle.claims.specs.KeptBits.{KeptBits}
use Rattle.claims.specs.PlatformEvents.{PlatformEvents}
use Rattle.claims.specs.Writer.{Writer}

pub record Claims : Type 0 where
  pub demand1 : Demand1
  pub demand2 : Demand2
  pub demand3 : Demand3
  pub cases : Cases
  pub header : Header
  pub equality : Equality
  -- of any store that promises what `Texts::new` does
  pub shared_texts : (store starts lengths : List ℕ) → SharedTexts store starts lengths
  -- the log's text of a time, and the lines that have it
  pub log_times : LogTimes
  pub printed_times : (s : List ℕ) → PrintedTime s
  -- event data by event type, and the lines that have it
  pub readings : Readings
  pub printed_data : (s : List ℕ) → PrintedData s
  -- what a refusal of an answer says, and the length that each kind needs
  pub what_was_short : (kind : AnswerKind) (s : List ℕ) → WhatWasShort valid_channel kind s
  pub lengths_needed : LengthsNeeded
  -- and the mapping back to the numbers of the Rust, by which demand 2 holds
  pub mapped_back : (h : Handed) → MappedBack h
  -- records and get-entry answers under a version of the standard
  pub channels15 : Channels15
  -- entries written as records
  pub writer : Writer
  -- and what an entry keeps beside its fields
  pub kept_bits : KeptBits
  -- an index of the slots, and the lookup and the walk with it
  pub find_fast : FindFast
  -- a record read by parts, from a controller that answers a few bytes at once
  pub few_bytes : FewBytes
  -- a record made of a Platform Event Message, and the message of a record
  pub platform_events : PlatformEvents
