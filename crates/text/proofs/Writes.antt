-- The laws of texts in an output: once for every writer. Assumes nothing.
use mathlib.Core.Path.{◌≡◌, refl, ◌∙◌, ap, sym, subst}
use mathlib.Core.List.{List, [], ◌∷◌, ◌++◌, append_assoc}
use Prim.Native.Nat.{ℕ, suc, ◌+◌, ◌-◌, ◌<◌, ◌≤◌}
use native.Mathlib.Nat.{zero-add, add_assoc}
use native.Mathlib.Numerals.{add-one}
use native.Mathlib.Omega.{arith}
use borrow.Author.Tests.{le-leb, lt-leb}
use lib.ListN.{length, take, drop, set, length-append, length-drop}
use lib.Seq.{take_at, drop-append-add, drop-drop, length-take-le, set_split, append_snoc, paste-zero}
use Rattle.std.specs.Prelude.{Ok, Err}
use Rattle.field.specs.Placed.{placed}
use Rattle.text.specs.Text.{Put, PutWithin}
use Rattle.text.specs.Written.{Written, Wrote, needs}

-- what stands before a text's end
head : List ℕ → ℕ → List ℕ → List ℕ
head out at text = take at out ++ text

head_length_lem : (out : List ℕ) (at : ℕ) (text : List ℕ) → at + length text ≤ length out → length (head out at text) ≡ at + length text
unfolding head
head_length_lem out at text h = length-append (take at out) text ∙ ap (λ n. n + length text) (length-take-le at out (omega arith))

placed_length : (out : List ℕ) (at : ℕ) (t : List ℕ) → at + length t ≤ length out → length (placed out at t) ≡ length out
unfolding placed head
placed_length out at t h =
    length-append (head out at t) (drop (at + length t) out)
    ∙ simp (head_length_lem out at t h, length-drop) (omega arith)

-- one text after the other is both as one
placed_then : (out : List ℕ) (at : ℕ) (t u : List ℕ) → at + length t + length u ≤ length out
    → placed (placed out at t) (at + length t) u ≡ placed out at (t ++ u)
unfolding placed head
placed_then out at t u h =
    let p = head out at t in
    let rest = drop (at + length t) out in
    let e : length p ≡ at + length t = head_length_lem out at t (omega arith) in
    ap (λ l. l ++ u ++ drop (at + length t + length u) (p ++ rest)) (take_at p rest (at + length t) e)
    ∙ ap (λ n. p ++ u ++ drop (n + length u) (p ++ rest)) (sym e)
    ∙ ap (λ l. p ++ u ++ l) (drop-append-add p rest (length u) ∙ drop-drop (length u) (at + length t) out)
    ∙ ap (λ n. p ++ u ++ drop n out) (add_assoc at (length t) (length u) ∙ ap (λ n. at + n) (sym (length-append t u)))
    ∙ ap (λ l. l ++ drop (at + length (t ++ u)) out) (append_assoc (take at out) t u)

-- a part leaves the output as long as it was
pub put_length : {out left : List ℕ} {i j : ℕ} {t : List ℕ} → Put out left i j t → length left ≡ length out
put_length {out} {left} {i} {j} {t} p = ap length p.holds ∙ placed_length out i t p.fits

infixl 30 ◌then◌
-- a part, and then the next
pub ◌then◌ : {a b d : List ℕ} {i j k : ℕ} {t u : List ℕ} → Put a b i j t → Put b d j k u → Put a d i k (t ++ u)
◌then◌ {a} {b} {d} {i} {j} {k} {t} {u} p q =
    let m : length b ≡ length a = put_length p in
    let f : i + length t + length u ≤ length a = omega arith in
    record {
      ends = simp length-append (omega arith);
      fits = simp length-append (omega arith);
      holds =
          q.holds
          ∙ ap (λ l. placed l j u) p.holds
          ∙ ap (λ n. placed (placed a i t) n u) p.ends
          ∙ placed_then a i t u f;
    }

-- a part whose text is short
pub within_room : (room : ℕ) {out left : List ℕ} {i j : ℕ} {t : List ℕ} → length t ≤ room → Put out left i j t → PutWithin room out left i j t
within_room room h p = record { put = p; short = omega (arith, p.ends) }

-- nothing was put
pub nothing : (out : List ℕ) (at : ℕ) → at ≤ length out → Put out out at at []
unfolding placed
nothing out at h =
    record {
      ends = omega arith;
      fits = omega arith;
      holds = paste-zero out at [];
    }

-- one byte, by a store
pub one : (out : List ℕ) (at b : ℕ) → at + 1 ≤ length out → Put out (set out at b) at (at + 1) (b ∷ [])
unfolding placed
one out at b h =
    record {
      ends = refl;
      fits = h;
      holds = set_split out at b (omega arith) ∙ sym (append_snoc (take at out) b (drop (suc at) out)) ∙ rw add-one;
    }

-- a text, by a copy over the part from `at` to `next`
pub copied : (out text part : List ℕ) (at next : ℕ) → at + length text ≤ length out → next ≡ at + length text → part ≡ text
    → Put out (take at out ++ (part ++ drop (next - at) (drop at out))) at next text
unfolding placed
copied out text part at next h e p =
    let n : next - at ≡ length text = omega arith in
    record {
      ends = e;
      fits = h;
      holds =
          simp (p, n, append_assoc)
          (ap (λ l. take at out ++ (text ++ l)) (drop-drop (length text) at out));
    }

-- what an answer says: of what is left of the output, of the room, and of the length
abbrev Keeps : List ℕ → List ℕ → List ℕ → Written → Type 0
Keeps text out left (Ok n) = (left ≡ placed out 0 text) × (length text ≤ length out) × (n ≡ length text)
Keeps text out left (Err e) = (left ≡ out) × (length out < length text) × (e ≡ needs (length text))

-- a writer that keeps to it keeps the promise: after a refusal the output is as it was
pub wrote : (text out left : List ℕ) (r : Written) → Keeps text out left r → Wrote text out r left
unfolding placed
wrote text out left (Ok n) (l, h, e) =
    let b = le-leb (length text) (length out) h in
    record { answered = simp (e, b); numbered = simp (e, b); leaves = l ∙ simp (b, zero-add) }
wrote text out left (Err r) (l, h, e) =
    let b = lt-leb (length text) (length out) h in
    record { answered = simp (e, b); numbered = simp (e, b); leaves = l ∙ simp b }

-- the output is too short for the text: it is as it was
pub refused : (text out : List ℕ) {r : Written} → r ≡ Err (needs (length text)) → length out < length text → Wrote text out r out
refused text out e h = rw e (wrote text out out (Err (needs (length text))) (refl, h, refl))

-- the text was put at the start
pub written : (text out left : List ℕ) {r : Written} {next : ℕ} → r ≡ Ok (length text) → Put out left 0 next text → Wrote text out r left
written text out left e p = rw e (wrote text out left (Ok (length text)) (p.holds, omega arith, refl))

-- any two answers, and any two outputs left, are equal
pub one_answer : {text out left left' : List ℕ} {r r' : Written} → Wrote text out r left → Wrote text out r' left' → (r ≡ r') × (left ≡ left')
one_answer p q = (p.answered ∙ sym q.answered, p.leaves ∙ sym q.leaves)

pub one_part : {out left left' : List ℕ} {at next next' : ℕ} {text : List ℕ} → Put out left at next text → Put out left' at next' text
    → (next ≡ next') × (left ≡ left')
one_part p q = (p.ends ∙ sym q.ends, p.holds ∙ sym q.holds)

-- what was put at the start of an output is its front
pub front : {out d t : List ℕ} {n : ℕ} → Put out d 0 n t → take n d ≡ t
unfolding placed
front {out} {d} {t} {n} p =
    let e : length t ≡ n = omega arith in
    ap (take n) p.holds ∙ take_at t (drop (0 + length t) out) n e

pub front_length : {out d t : List ℕ} {n : ℕ} → Put out d 0 n t → n ≡ length (take n d)
front_length {out} {d} {t} {n} p =
    let e : n ≡ length t = omega arith in
    e ∙ sym (ap length (front p))

-- what was written of a text was written of its equal
pub wrote_is : {text text' out left : List ℕ} {r : Written} → text ≡ text' → Wrote text out r left → Wrote text' out r left
wrote_is {out = out} {left} {r} e w = subst (λ (l : List ℕ). Wrote l out r left) e w

-- a text that was put together in an array and then written is written
pub by_array : {array d t : List ℕ} {n : ℕ} {out left : List ℕ} {r : Written} → Put array d 0 n t → Wrote (take n d) out r left → Wrote t out r left
by_array p w = wrote_is (front p) w
