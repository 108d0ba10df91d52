-- From what the parts of the writer say to what it ensures: a check that refuses, too little room, and the bytes of the file in the buffer. Assumes nothing.
use mathlib.Core.Path.{◌≡◌, sym, ap, ◌∙◌}
use mathlib.Core.List.{List, [], ◌∷◌, ◌++◌, map}
use mathlib.Core.Option.{none}
use Prim.Native.Nat.{ℕ, ◌+◌, ◌≤◌}
use native.Mathlib.Nat.{zero-add}
use native.Mathlib.Omega.{arith}
use borrow.Author.Tests.{le-ltb}
use lib.ListN.{length, drop, length-map, length-append}
use Rattle.std.specs.Prelude.{Result, Ok, Err, IsErrAnd}
use Rattle.model.specs.Refusals.{lent, first_refusal, Answer, answered, refused, settled}
use Rattle.model.specs.Writer.{head_bytes, byte_of, Fields, file_by, file_of, loop_from, given_checks, write_checks, write_file, buffer_after}
use Rattle.model.proofs.Checks.{refusal_append}
use Rattle.model.proofs.Given.{given_few, given_file}
use Rattle.model.proofs.GivenFile.{given_length}
use Rattle.refusals.specs.Told.{told, refusal_of}
use Rattle.refusals.specs.declared.Refusal.{Refusal}
use Rattle.refusals.proofs.Tables.{passed_on}
use Rattle.loop_writer.specs.Answer.{bytes_in, Writes}
use Rattle.loop_writer.specs.Buffer.{stored}
use Rattle.loop_writer.proofs.Buffers.{next_stored}

-- the bytes of the lists: head and three bodies
abbrev pub bytes_of : Fields → List ℕ
bytes_of d = head_bytes (length d.ops) (length d.uses) (length d.deps) ++ map byte_of d.ops ++ map byte_of d.uses ++ map byte_of d.deps

-- and their number
abbrev pub total : Fields → ℕ
total d = 26 + length d.ops + length d.uses + length d.deps

-- they are the file in which each number is a byte
bytes_file : (d : Fields) → bytes_of d ≡ file_by d
unfolding file_by
bytes_file d = rw (length-map d.ops byte_of, length-map d.uses byte_of, length-map d.deps byte_of)

-- lists that are right have a short file
pub short : (d : Fields) → first_refusal (given_checks d) ≡ none → total d ≤ 1690
short d right = let w = given_few d right in omega (arith, w.0, w.1, w.2)

module _ (d : Fields) (before : List ℕ) where
  -- the first refusal is the answer, and the buffer is as it was
  refuses : (w : Result ℕ Refusal) (e : Refusal) → refusal_of w ≡ first_refusal (write_checks d (length before)) → IsErrAnd w (λ y. y ≡ e) → Writes d before w before
  unfolding write_file
  refuses (Ok n) e is h = absurd h
  refuses (Err r) e is h =
      let a : write_file d (length before) ≡ refused (told r) = ap (λ o. settled o (file_of (loop_from d))) (sym is) in
      record { says = sym (ap bytes_in a); leaves = sym (ap (λ (x : Answer (List ℕ)). buffer_after x before) a) }

  -- by the checks of the lists
  pub given_refuses : {A : Type 0} {c : Result A Refusal} {e : Refusal} (w : Result ℕ Refusal) → refusal_of c ≡ first_refusal (given_checks d) → c ≡ Err e → IsErrAnd w (λ y. y ≡ e) → Writes d before w before
  unfolding write_checks
  given_refuses w is was h = refuses w _ (passed_on (given_checks d) (lent (length (file_of (loop_from d))) (length before) ∷ []) is w was h) h

  -- where the lists are right
  module _ (right : first_refusal (given_checks d) ≡ none) where
    -- what is left is the room
    room_decides : first_refusal (lent (total d) (length before) ∷ []) ≡ first_refusal (write_checks d (length before))
    unfolding write_checks
    room_decides =
        sym (
        refusal_append (given_checks d) (lent (length (file_of (loop_from d))) (length before) ∷ []) right
        ∙ ap (λ (n : ℕ). first_refusal (lent n (length before) ∷ [])) (given_length d right)
        )

    pub room_refuses : {A : Type 0} {c : Result A Refusal} {e : Refusal} (w : Result ℕ Refusal) → refusal_of c ≡ first_refusal (lent (total d) (length before) ∷ []) → c ≡ Err e → IsErrAnd w (λ y. y ≡ e)
        → Writes d before w before
    room_refuses w is was h = refuses w _ (passed_on (lent (total d) (length before) ∷ []) [] is w was h ∙ room_decides) h

    -- and where there is room, the bytes of the lists are the file
    module _ (room : total d ≤ length before) where
      writes : {after : List ℕ} → after ≡ stored before 0 (bytes_of d) → Writes d before (Ok (total d)) after
      unfolding write_file first_refusal
      writes {after} s =
          let f : List ℕ = file_of (loop_from d) in
          let e : bytes_of d ≡ f = bytes_file d ∙ sym (given_file d right) in
          let n : first_refusal (write_checks d (length before)) ≡ none = sym room_decides ∙ rw (le-ltb (length before) (total d) room) in
          let a : write_file d (length before) ≡ answered f = ap (λ o. settled o f) n in
          record {
            says = ap answered (sym (given_length d right)) ∙ sym (ap bytes_in a);
            leaves =
                s
                ∙ ap (λ (b : List ℕ). b ++ drop (0 + length b) before) e
                ∙ ap (λ (k : ℕ). f ++ drop k before) (zero-add (length f))
                ∙ sym (ap (λ (x : Answer (List ℕ)). buffer_after x before) a);
          }

      -- stored one behind the other
      pub stores : {headed first second after : List ℕ} → headed ≡ stored before 0 (head_bytes (length d.ops) (length d.uses) (length d.deps)) → first ≡ stored headed 26 (map byte_of d.ops)
          → second ≡ stored first (26 + length d.ops) (map byte_of d.uses) → after ≡ stored second (26 + length d.ops + length d.uses) (map byte_of d.deps) → Writes d before (Ok (total d)) after
      stores h f s t =
          let a : List ℕ = map byte_of d.ops in
          let b : List ℕ = map byte_of d.uses in
          let c : List ℕ = map byte_of d.deps in
          let head : List ℕ = head_bytes (length d.ops) (length d.uses) (length d.deps) in
          let na : length a ≡ length d.ops = length-map d.ops byte_of in
          let nb : length b ≡ length d.uses = length-map d.uses byte_of in
          let nc : length c ≡ length d.deps = length-map d.deps byte_of in
          let nab : length (a ++ b) ≡ length d.ops + length d.uses = rw (length-append, na, nb) in
          let one = next_stored 26 before head a 0 h f (omega arith) (omega arith) in
          let two = next_stored (26 + length d.ops) before (head ++ a) b 0 one s (omega arith) (omega arith) in
          writes (next_stored (26 + length d.ops + length d.uses) before (head ++ a ++ b) c 0 two t (omega arith) (omega arith))
