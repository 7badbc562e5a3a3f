-- `sel_texts`, and then `sel_event_text_from`, is `sel_event_text`. Assumes nothing.
use Rattle.std.specs.Prelude.{ℕ, ◌≡◌, List, ◌++◌, take}
use Rattle.event_offset.specs.Event.{event_text}
use Rattle.event_offset.specs.Places.{lent_text, places}
use Rattle.event_offset.specs.Fills.{store_room}
use Rattle.flat_form.specs.Form.{Gives, taken}
use Rattle.flat_form.specs.declared.SelAnswer.{SelAnswer}
use Rattle.abi.specs.Filled.{Filled}

-- of what was filled, where the answer `f` of the fill is number 0
pub record FromStore (a b c : List ℕ) (f : SelAnswer) (store starts lengths : List ℕ) : Type 0 where
  -- what is answered and left for an event out of the slices, as they were filled
  pub same : Filled a b c f store starts lengths → f.number ≡ 0 → (event sensor offset : ℕ) (out left : List ℕ) (r : SelAnswer)
      → Gives (taken (lent_text store starts lengths event sensor offset)) out r left → Gives (taken (event_text event sensor offset)) out r left
  -- and out of the filled part of them, whatever is lent behind it
  pub behind : Filled a b c f store starts lengths → f.number ≡ 0 → (x y z : List ℕ) (event sensor offset : ℕ) (out left : List ℕ) (r : SelAnswer)
      → Gives (taken (lent_text (take store_room store ++ x) (take places starts ++ y) (take places lengths ++ z) event sensor offset)) out r left
      → Gives (taken (event_text event sensor offset)) out r left
