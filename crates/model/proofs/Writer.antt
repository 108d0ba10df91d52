-- The writer and the reader: what is written is read back as the same loop, what is accepted is written back byte for byte, a loop has one
-- file only, and the writer takes exactly the numbers of the loops in range. Assumes nothing.
use mathlib.Core.Path.{◌≡◌, refl, sym, ap, ◌∙◌}
use mathlib.Core.Bool.{false}
use mathlib.Core.List.{List, [], ◌∷◌, ◌++◌, map}
use mathlib.Core.Logic.{◌↔◌}
use mathlib.Core.Option.{none}
use Prim.Native.Nat.{ℕ, zero, suc, ◌+◌, ◌/◌, ◌%◌, ◌≤◌, ◌<◌}
use native.Mathlib.Omega.{arith}
use borrow.Author.Tests.{leb-false, lt-leb}
use lib.Dec.{leb}
use lib.IntN.{ℤ, pos, negsuc}
use lib.ListN.{length, take, drop, length-append, length-drop, length-map, get_or-map}
use lib.Seq.{take-append_seam, drop-append_seam}
use Rattle.model.specs.Lists.{any_of}
use Rattle.model.specs.Refusals.{lent, first_refusal, answered}
use Rattle.model.specs.Loop.{Loop, LoopOk}
use Rattle.model.specs.File.{loop_of, file_checks, Accepted, read_file}
use Rattle.model.specs.Writer.{head_bytes, Bytes, Fields, fields_of, byte_of, HasByte, HaveBytes, file_by, file_of, AtOnce, field_at, loop_from, given_checks, write_checks, write_file, buffer_after}
use Rattle.model.proofs.Lists.{any_each}
use Rattle.model.proofs.Checks.{to_pass, settled_answer}
use Rattle.model.proofs.Signed.{plus_le}
use Rattle.model.proofs.File.{passing, accepted_ok, at_once}
use Rattle.model.proofs.Written.{file_back}
use Rattle.model.proofs.Given.{fields_back, given_few}
use Rattle.model.proofs.GivenFile.{by_accepted, by_loop, given_ok, given_once}
use Rattle.model.proofs.Fields.{loop_passes, loop_back, passes_bytes}

-- ---- the file of a loop

module _ (l : Loop) (ok : LoopOk l) (once : AtOnce l) where
  -- the reader accepts it
  pub file_accepted : Accepted (file_of l)
  file_accepted = by_accepted (fields_of l) (loop_passes l ok)

  -- and reads the loop
  pub file_loop : loop_of (file_of l) ≡ l
  file_loop = by_loop (fields_of l) (loop_passes l ok) ∙ loop_back l ok once

  -- what is written is read back as the same loop
  pub reads_back : read_file (file_of l) ≡ answered l
  unfolding read_file
  reads_back = rw (file_accepted, file_loop)

-- ---- its elements are bytes

-- two lists of bytes, one after the other
bytes_append : (xs ys : List ℕ) → Bytes xs → Bytes ys → Bytes (xs ++ ys)
bytes_append [] ys p q i = q i
bytes_append (x ∷ xs) ys p q zero = p 0
bytes_append (x ∷ xs) ys p q (suc i) = bytes_append xs ys (λ j. p (suc j)) q i

-- the contents, where the bodies are not too long for two bytes
head_bytes_lem : (a b c : ℕ) → a + b + c ≤ 2000 → Bytes (head_bytes a b c)
unfolding any_of
head_bytes_lem a b c h i =
    let low : (n : ℕ) → leb 256 (n % 256) ≡ false = λ n. lt-leb 256 (n % 256) (omega arith) in
    let high : (n : ℕ) → n ≤ 3000 → leb 256 (n / 256) ≡ false = λ n l. lt-leb 256 (n / 256) (omega arith) in
    let e : any_of (leb 256) (head_bytes a b c) ≡ false =
    simp (low, high a (omega arith), high b (omega arith), high c (omega arith), high (26 + a) (omega arith), high (26 + a + b) (omega arith)) in
    leb-false 256 _ (any_each (leb 256) (head_bytes a b c) 0 e refl i)

-- a body, where its numbers have bytes
body_bytes : (xs : List ℤ) → HaveBytes xs → Bytes (map byte_of xs)
body_bytes xs h i = rw (get_or-map byte_of xs i (pos 0)) (below (field_at xs i) (h i))
  where
    below : (z : ℤ) → HasByte z → byte_of z < 256
    below (pos n) b = omega (arith, plus_le (pos n) 255 b.high)
    below (negsuc n) b = omega arith

-- the file of a loop in range
pub file_bytes : (l : Loop) → LoopOk l → Bytes (file_of l)
unfolding file_by
file_bytes l ok =
    let d : Fields = fields_of l in
    let x : List ℕ = map byte_of d.ops in
    let y : List ℕ = map byte_of d.uses in
    let z : List ℕ = map byte_of d.deps in
    let h : List ℕ = head_bytes (length x) (length y) (length z) in
    let few = given_few d (loop_passes l ok) in
    let have = passes_bytes d (loop_passes l ok) in
    bytes_append (h ++ x ++ y) z (bytes_append (h ++ x) y (bytes_append h x
    (head_bytes_lem (length x) (length y) (length z) (omega (arith, few.0, few.1, few.2, length-map d.ops byte_of, length-map d.uses byte_of, length-map d.deps byte_of)))
    (body_bytes d.ops have.0)) (body_bytes d.uses have.1)) (body_bytes d.deps have.2)

-- ---- it is the only one

-- a loop has one file only: what the reader reads it from is what the writer writes
pub only_file : (f : List ℕ) (l : Loop) → Bytes f → read_file f ≡ answered l → f ≡ file_of l
unfolding read_file
only_file f l bytes e =
    let p = settled_answer (first_refusal (file_checks f)) (loop_of f) l e in
    sym (file_back f bytes p.0) ∙ ap file_of p.1

-- the files that are accepted are those of the loops in range that version 1 can hold
pub accepted_exactly : (f : List ℕ) → (Bytes f × Accepted f) ↔ ((l : Loop) × LoopOk l × AtOnce l × (f ≡ file_of l))
accepted_exactly f = (
  λ h. (loop_of f, accepted_ok f h.1, at_once f, sym (file_back f h.0 h.1)),
  λ h. (rw h.3 (file_bytes h.0 h.1), rw h.3 (file_accepted h.0 h.1 h.2)),
)

-- ---- the writer

-- the numbers that pass are those of the loops in range that version 1 can hold
pub passes_exactly : (d : Fields) → (first_refusal (given_checks d) ≡ none) ↔ ((l : Loop) × LoopOk l × AtOnce l × (d ≡ fields_of l))
passes_exactly d = (λ p. (loop_from d, given_ok d p, given_once d p, sym (fields_back d p)), λ h. rw h.3 (loop_passes h.0 h.1))

-- where the writer answers, the numbers passed, the answer is the file of their loop, and there was room for it
pub written_passes : (d : Fields) (room : ℕ) (f : List ℕ) → write_file d room ≡ answered f
    → (first_refusal (given_checks d) ≡ none) × (f ≡ file_of (loop_from d)) × (length f ≤ room)
unfolding write_file write_checks
written_passes d room f e =
    let p = settled_answer (first_refusal (write_checks d room)) (file_of (loop_from d)) f e in
    let q : first_refusal (given_checks d ++ (lent (length (file_of (loop_from d))) room ∷ [])) ≡ none = p.0 in
    let k : length (file_of (loop_from d)) ≤ room = search passing in
    (search passing, sym p.1, rw p.1 at k)

-- the reader reads what it writes as the loop that the numbers describe
pub writes_read : (d : Fields) (room : ℕ) (f : List ℕ) → write_file d room ≡ answered f → read_file f ≡ answered (loop_from d)
writes_read d room f e =
    let p = written_passes d room f e in
    rw p.1 (reads_back (loop_from d) (given_ok d p.0) (given_once d p.0))

-- a loop in range is written where there is room
pub loop_written : (l : Loop) (room : ℕ) → LoopOk l → AtOnce l → length (file_of l) ≤ room → write_file (fields_of l) room ≡ answered (file_of l)
unfolding write_file write_checks
loop_written l room ok once h =
    let e : loop_from (fields_of l) ≡ l = loop_back l ok once in
    let p : first_refusal (given_checks (fields_of l)) ≡ none = loop_passes l ok in
    let q : first_refusal (given_checks (fields_of l) ++ (lent (length (file_of l)) room ∷ [])) ≡ none = search to_pass in
    rw (e, q)

-- what the reader accepts the writer gives back byte for byte
pub gives_back : (f : List ℕ) (room : ℕ) → Bytes f → Accepted f → length f ≤ room → write_file (fields_of (loop_of f)) room ≡ answered f
gives_back f room bytes a h =
    let e : file_of (loop_of f) ≡ f = file_back f bytes a in
    loop_written (loop_of f) room (accepted_ok f a) (at_once f) (rw e h) ∙ ap answered e

-- ---- the buffer

-- the file stands at the beginning
pub buffer_file : (f before : List ℕ) → take (length f) (buffer_after (answered f) before) ≡ f
buffer_file f before = take-append_seam f (drop (length f) before)

-- what stood after it still does
pub buffer_rest : (f before : List ℕ) → drop (length f) (buffer_after (answered f) before) ≡ drop (length f) before
buffer_rest f before = drop-append_seam f (drop (length f) before)

-- and the buffer is as long as before
pub buffer_length : (f before : List ℕ) → length f ≤ length before → length (buffer_after (answered f) before) ≡ length before
buffer_length f before h = rw (length-append, length-drop) (omega arith)
