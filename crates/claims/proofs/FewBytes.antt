-- The claim of specs/FewBytes.antt. Assumes nothing.
use Prim.Native.Nat.{ℕ, ◌≤◌, ◌<◌}
use mathlib.Core.Path.{◌≡◌, refl, sym, ap}
use mathlib.Core.Bool.{Bool}
use mathlib.Core.List.{List, ◌++◌}
use lib.ListN.{length, take, drop}
use lib.Seq.{take_at}
use Rattle.field.specs.Bits.{le_bytes}
use Rattle.field.specs.Lengths.{entry_bytes}
use Rattle.field.proofs.Rows.{rows_are}
use Rattle.sel.specs.Entry.{parse_entry}
use Rattle.get_entry.specs.GetEntry.{entry_request, parse_answer, with_next}
use Rattle.partial.specs.Join.{Held}
use Rattle.partial.specs.Joined.{Between, answers_of, empty, hand_in}
use Rattle.partial.specs.Request.{part_request}
use Rattle.partial.proofs.Joins.{joins}
use Rattle.partial.proofs.Only.{joins_only}
use Rattle.partial.proofs.ReadOn.{read_on_lem}
use Rattle.partial.proofs.Right.{right_reads}
use Rattle.partial.proofs.Rows.{asked, join_rows, list_rows, listed, request_rows, unasked, unlisted}
use Rattle.abi.proofs.PartsSay.{parts_say}
use Rattle.claims.specs.FewBytes.{FewBytes}

read : (valid : ℕ → Bool) (m : ℕ) → 1 ≤ m → (next : ℕ) → next < 65536 → (bytes : List ℕ) → length bytes ≡ entry_bytes → (old : List ℕ)
    → entry_bytes ≤ length old → (handed : List (List ℕ)) → Between (empty m old) (answers_of bytes next m) handed
    → parse_answer valid (le_bytes 2 (hand_in (empty m old) handed).state.next ++ take entry_bytes (hand_in (empty m old) handed).bytes)
    ≡ with_next next (parse_entry valid bytes)
read valid m g next n bytes l old r handed b =
    rw ((joins m g next n bytes l old r).between handed b, take_at bytes (drop entry_bytes old) entry_bytes l) (read_on_lem valid next n bytes l).entry

pub few_bytes_lem : FewBytes
unfolding entry_request part_request
few_bytes_lem =
    record {
      request = λ g out left r p. request_rows g out p;
      asked = λ g out left r p. asked g out p;
      unasked = λ g out left r p. unasked g out p;
      stays = λ reservation id. refl;
      reads = right_reads;
      list = λ m out left r p. list_rows m out p;
      listed = λ m out left r p. listed m out p;
      unlisted = λ m out left r p. unlisted m out p;
      answer = λ j k s old left r p. rows_are (sym p.numbered) (join_rows j s old).rows;
      refused = λ j k s old left r p n. (ap (λ (h : Held). h.state) (p.refused n), ap (λ (h : Held). h.bytes) (p.refused n));
      joins = joins;
      only = joins_only;
      read_on = read_on_lem;
      read = read;
      says = parts_say;
    }
