-- The requests. Assumes nothing.
use mathlib.Core.Path.{◌∙◌}
use native.Mathlib.Omega.{arith}
use borrow.Author.Tests.{le-leb}
use mathlib.Core.List.{[]}
use lib.ListN.{length}
use Rattle.field.proofs.Placed.{placed_front}
use Rattle.get_entry.specs.GetEntry.{entry_request}
use Rattle.sel_commands.specs.Clear.{clear_request}
use Rattle.flat.specs.Requests.{request_of}
use Rattle.claims.specs.Requests.{Requests}

pub requests : Requests
unfolding clear_request entry_request request_of
requests =
    record {
      erase = λ reservation c e. rw e;
      status = λ reservation c e. rw e;
      get_entry = λ reservation id g e. rw e;
      none = λ command reservation argument a b. simp (le-leb 0x40 command a, le-leb command 0x42 b);
      bare = λ out left r w. (w.answered ∙ rw (le-leb 0 (length out) (omega arith)), w.leaves ∙ rw (le-leb 0 (length out) (omega arith)) (placed_front out []));
    }
