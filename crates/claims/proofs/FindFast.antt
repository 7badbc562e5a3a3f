-- The claim of specs/FindFast.antt. Assumes nothing.
use mathlib.Core.Path.{◌∙◌, refl}
use lib.ListN.{length}
use Rattle.capture.specs.Walk.{walk_of}
use Rattle.capture.proofs.Tested.{walked}
use Rattle.index.proofs.Checked.{checked}
use Rattle.index.proofs.Indexed.{indexed_walk}
use Rattle.index.proofs.Lookup.{finds}
use Rattle.index.proofs.OneIndex.{one_index}
use Rattle.index_make.proofs.Added.{adds_index}
use Rattle.index_make.proofs.Made.{makes_index}
use Rattle.abi.proofs.IndexSays.{index_says}
use Rattle.claims.specs.FindFast.{FindFast}

pub find_fast_lem : FindFast
find_fast_lem =
    record {
      index = one_index;
      check = checked;
      checks = λ s x r c. c.exactly;
      lookup = λ s x id. finds s x id refl;
      walk = indexed_walk;
      walked = λ s x b old left r q w.
          let i = indexed_walk s x b old in
          (walk_of s b (length old), w.answered ∙ i.same q, walked s b old refl (w.leaves ∙ i.leaves q));
      makes = makes_index;
      adds = adds_index;
      says = index_says;
    }
