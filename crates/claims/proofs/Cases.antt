-- The cases. Assumes nothing.
use Rattle.std.specs.Prelude.{Some, None, Ok}
use Prim.Native.Nat.{ℕ, suc, ◌≤◌}
use mathlib.Core.Path.{◌≡◌, refl, ap, ◌∙◌}
use mathlib.Core.Bool.{false}
use mathlib.Core.List.{List, []}
use native.Mathlib.Omega.{arith}
use borrow.Author.Tests.{le-ltb, lt-ltb}
use lib.ListN.{length}
use Rattle.field.specs.Handed.{Handed}
use Rattle.connection.specs.Channel.{valid_channel}
use Rattle.storage.specs.Alloc.{parse_alloc}
use Rattle.event_data.specs.EventData.{by_kind, event_data_of}
use Rattle.event_data.specs.declared.EventData.{EventData}
use Rattle.sel.specs.Entry.{parse_entry, system_record}
use Rattle.sel_commands.specs.Clear.{parse_clear}
use Rattle.sel_commands.specs.Info.{info_at, parse_info}
use Rattle.sel_commands.specs.Reserve.{parse_reserve}
use Rattle.capture.specs.Length.{bad_length}
use Rattle.capture.specs.Slots.{count, first_from, first_slot}
use Rattle.capture.specs.Walk.{chain, found_at, judge, listed, numbers, onward, tested, verdict, walk_of}
use Rattle.claims.specs.Cases.{Cases, OneSlot, TwoSlots}

-- a capture that is good, with places enough, is walked
walks : (s : List ℕ) (b room : ℕ) → bad_length (length s) ≡ false → count s ≤ room → walk_of s b room ≡ Ok (verdict s b)
unfolding walk_of tested
walks s b room g h = rw (g, le-ltb room (count s) h)

first_none : first_slot [] 0x0000 ≡ None
unfolding first_slot first_from
first_none = refl

module _ (s old : List ℕ) (t : TwoSlots s old) where
  count_2 : count s ≡ 2
  count_2 = rw t.long

  good_40 : bad_length (length s) ≡ false
  unfolding bad_length
  good_40 = rw t.long

  first_two : first_slot s 0x0000 ≡ Some 0
  unfolding first_slot first_from
  first_two = rw (count_2, t.asked0)

  second_two : first_slot s 0x0001 ≡ Some 1
  unfolding first_slot first_from
  second_two = rw (count_2, t.asked0, t.asked1)

module _ (s old : List ℕ) (t : OneSlot s old) where
  count_1 : count s ≡ 1
  count_1 = rw t.long

  good_20 : bad_length (length s) ≡ false
  unfolding bad_length
  good_20 = rw t.long

  first_one : first_slot s 0x0000 ≡ Some 0
  unfolding first_slot first_from
  first_one = rw (count_1, t.asked0)

pub cases : Cases
unfolding parse_entry system_record valid_channel parse_info info_at parse_alloc parse_reserve parse_clear event_data_of by_kind bad_length verdict judge chain onward listed found_at numbers
cases =
    record {
      entry15 = λ s r p l. p.numbered ∙ rw (lt-ltb (length s) 16 (omega arith));
      type03 = λ s r p l t. p.numbered ∙ simp (le-ltb (length s) 16 l, t);
      channel_c0 = λ s r p l t c. p.numbered ∙ simp (le-ltb (length s) 16 l, t, c);
      info51 = λ s r p l b. (info_at s, p.decoded ∙ rw (le-ltb (length s) 14 (omega arith), le-ltb 14 (length s) (omega arith)), rw b, rw b);
      alloc8 = λ s r p l. p.numbered ∙ rw (lt-ltb (length s) 9 (omega arith));
      alloc9 = λ s r p l. ap (λ (h : Handed). h.number) p.numbered ∙ rw (le-ltb (length s) 9 (omega arith));
      reserve0000 = λ rest r p. p.numbered ∙ rw (le-ltb (suc (suc (length rest))) 2 (omega arith));
      clear11 = λ rest r p. p.decoded ∙ rw (le-ltb (suc (length rest)) 1 (omega arith));
      clear02 = λ rest r p. p.decoded ∙ rw (le-ltb (suc (length rest)) 1 (omega arith));
      data_c0ffff = λ d e. (ap (λ (x : EventData). x.data2_type) e, ap (λ (x : EventData). x.data3_type) e);
      none1 = λ old left v w. w.answered ∙ walks [] 1 (length old) refl (omega arith) ∙ simp first_none;
      none0 = λ old left v w. w.answered ∙ walks [] 0 (length old) refl (omega arith);
      two1 = λ s old left v w t.
          w.answered ∙ walks s 1 (length old) (good_40 s old t) (omega (arith, count_2 s old t, t.room))
          ∙ simp (first_two s old t, t.next0, count_2 s old t);
      two2 = λ s old left v w t.
          w.answered ∙ walks s 2 (length old) (good_40 s old t) (omega (arith, count_2 s old t, t.room))
          ∙ simp (first_two s old t, t.next0, second_two s old t, t.next1, count_2 s old t);
      one1 = λ s old left v w t.
          w.answered ∙ walks s 1 (length old) (good_20 s old t) (omega (arith, count_1 s old t, t.room))
          ∙ simp (first_one s old t, t.next0, count_1 s old t);
      one2 = λ s old left v w t.
          w.answered ∙ walks s 2 (length old) (good_20 s old t) (omega (arith, count_1 s old t, t.room))
          ∙ simp (first_one s old t, t.next0, count_1 s old t);
    }
