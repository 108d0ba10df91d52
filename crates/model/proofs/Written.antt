-- An accepted file is the file of its loop, byte for byte: so a loop has one file only. Assumes nothing.
use mathlib.Core.Path.{◌≡◌, refl, sym, ap, ap₂, ◌∙◌}
use mathlib.Core.Bool.{true}
use mathlib.Core.List.{List, [], ◌∷◌, ◌++◌, map, flat_map}
use mathlib.Core.Option.{none}
use Prim.Native.Nat.{ℕ, suc, ◌+◌, ◌*◌, ◌/◌, ◌%◌, ◌≤◌, ◌<◌}
use native.Mathlib.Numerals.{add-one, add-two, add-three}
use native.Mathlib.Omega.{arith}
use borrow.Author.Tests.{eqb-true}
use lib.Dec.{eqb, ltb, ltb→lt, nltb→le}
use lib.IntN.{ℤ}
use lib.ListN.{length}
use Rattle.model.specs.Lists.{up_from}
use Rattle.model.specs.Refusals.{first_refusal}
use Rattle.model.specs.File.{byte_at, word_at, signed_byte, Section, use_width, oper, uses, deps, oper_at, uses_at, deps_at, length_of, offset_of, op_count, dep_count, op_record, first_use, use_record, dep_record, use_in, op_in, dep_in, loop_of, head_checks, stands_at, entry_checks, contents_checks, Accepted}
use Rattle.model.specs.Writer.{word, entry_bytes, head_bytes, file_with, Bytes, op_fields, use_fields, dep_fields, fields_of, byte_of, file_by, file_of}
use Rattle.model.proofs.Lists.{length_tabulate, and_left, and_right}
use Rattle.model.proofs.Rows.{row_join, row_is, flat_map_lem, map_flat}
use Rattle.model.proofs.Signed.{by_test, byte_low, byte_high}
use Rattle.model.proofs.File.{passing, Passed, passed, Layout, layout, uses_is, all_uses_is}
use Rattle.model.proofs.Records.{records_are}

-- n bytes of the file, from a on
abbrev row : List ℕ → ℕ → ℕ → List ℕ
row f a n = map (byte_at f) (up_from a n)

-- ---- the contents

-- a tag that stands at i
tag_is : (f : List ℕ) (i : ℕ) (t : List ℕ) → stands_at f i t ≡ true → t ≡ row f i (length t)
unfolding stands_at up_from
tag_is f i [] e = refl
tag_is f i (x ∷ t) e =
    ap₂ ◌∷◌ (sym (eqb-true (byte_at f i) x (and_left (eqb (byte_at f i) x) (stands_at f (suc i) t) e))) (tag_is f (suc i) t (and_right (eqb (byte_at f i) x) (stands_at f (suc i) t) e))

module _ (f : List ℕ) (bytes : Bytes f) where
  -- a number that two bytes give
  word_is : (i n : ℕ) → word_at f i ≡ n → word n ≡ row f i 2
  unfolding up_from
  word_is i n e =
      let p : n % 256 ≡ byte_at f i = omega (arith, bytes i) in
      let q : n / 256 ≡ byte_at f (i + 1) = omega (arith, bytes i) in
      rw (p, q, add-one i)

  -- the entry of a section with a tag of 4 bytes
  entry_is : (s : Section) (start : ℕ) → length s.tag ≡ 4 → first_refusal (entry_checks f s start) ≡ none → entry_bytes s.tag start (length_of f s) ≡ row f s.entry 8
  unfolding entry_checks
  entry_is s start four p =
      let at : ℕ = s.entry in
      let stands : stands_at f at s.tag ≡ true = search passing in
      let begins : offset_of f s ≡ start = search passing in
      ap₂ ◌++◌ (ap₂ ◌++◌ (rw four at (tag_is f at s.tag stands)) (word_is (at + 4) start begins)) (word_is (at + 6) (length_of f s) refl)
      ∙ ap (λ (r : List ℕ). r ++ row f (at + 6) 2) (row_join (byte_at f) at 4 (at + 4) 2 6 refl refl)
      ∙ row_join (byte_at f) at 6 (at + 6) 2 8 refl refl

  -- version, number of entries and the three entries
  head_is : Accepted f → head_bytes (length_of f oper) (length_of f uses) (length_of f deps) ≡ row f 0 26
  unfolding head_checks contents_checks up_from
  head_is a =
      let p : Passed f = passed f a in
      let x : first_refusal (entry_checks f oper oper_at) ≡ none = search passing in
      let y : first_refusal (entry_checks f uses (uses_at f)) ≡ none = search passing in
      let z : first_refusal (entry_checks f deps (deps_at f)) ≡ none = search passing in
      let v : byte_at f 0 ≡ 1 = search passing in
      let w : byte_at f 1 ≡ 3 = search passing in
      ap₂ ◌++◌ (ap₂ ◌++◌ (ap₂ ◌∷◌ (sym v) (ap₂ ◌∷◌ (sym w) (entry_is oper oper_at refl x))) (entry_is uses (uses_at f) refl y)) (entry_is deps (deps_at f) refl z)

-- ---- the bodies

-- a byte as a signed number, and back: a delay is written as the byte that was read
byte_back : (n : ℕ) → n < 256 → byte_of (signed_byte n) ≡ n
byte_back n l =
    by_test (ltb n 128)
    (λ t. let h : n < 128 = ltb→lt n 128 t in rw (byte_low n h))
    (λ t. let h : 128 ≤ n = nltb→le n 128 t in rw (byte_high n h) (omega arith))

-- a body of k bytes from a on, read as n records of w bytes: the bytes of the records' numbers are the body
body_is : {A : Type 0} (f : List ℕ) (fields : A → List ℤ) (r : ℕ → A) (w a n k : ℕ) → k ≡ w * n → ((j : ℕ) → map byte_of (fields (r j)) ≡ row f (a + w * j) w)
    → map byte_of (flat_map fields (map r (up_from 0 n))) ≡ row f a k
body_is f fields r w a n k e h =
    map_flat byte_of fields (map r (up_from 0 n))
    ∙ flat_map_lem (λ x. map byte_of (fields x)) r (up_from 0 n)
    ∙ records_are (byte_at f) w a (λ j. map byte_of (fields (r j))) n (λ j l. h j)
    ∙ ap (row f a) (sym e)

module _ (f : List ℕ) (y : Layout f) where
  -- the three bodies of an accepted file are what the writer makes of its loop's numbers
  oper_is : map byte_of (fields_of (loop_of f)).ops ≡ row f oper_at (length_of f oper)
  unfolding fields_of loop_of up_from
  oper_is = body_is f op_fields (op_in f) 2 oper_at (op_count f) (length_of f oper) y.oper_whole (λ o. rw (uses_is f o, add-one (op_record o)))

  uses_are : map byte_of (fields_of (loop_of f)).uses ≡ row f (uses_at f) (length_of f uses)
  unfolding fields_of up_from
  uses_are =
      rw (all_uses_is f) (body_is f use_fields (use_in f) use_width (uses_at f) (first_use f (op_count f)) (length_of f uses) y.uses_whole (λ u. rw (add-one (use_record f u))))

  deps_are : Bytes f → map byte_of (fields_of (loop_of f)).deps ≡ row f (deps_at f) (length_of f deps)
  unfolding fields_of loop_of up_from
  deps_are bytes =
      body_is f dep_fields (dep_in f) 4 (deps_at f) (dep_count f) (length_of f deps) y.deps_whole
      (λ e. let at : ℕ = dep_record f e in rw (byte_back (byte_at f (at + 2)) (bytes (at + 2)), add-one at, add-two at, add-three at))

-- ---- the file

-- the file of an accepted file's loop is that file, byte for byte
pub file_back : (f : List ℕ) → Bytes f → Accepted f → file_of (loop_of f) ≡ f
unfolding file_by
file_back f bytes a =
    let y : Layout f = layout f a in
    let m : ℕ = length_of f oper in
    let n : ℕ = length_of f uses in
    let k : ℕ = length_of f deps in
    rw (oper_is f y, uses_are f y, deps_are f y bytes)
    (whole (row f oper_at m) (row f (uses_at f) n) (row f (deps_at f) k) m n k (length_tabulate _ _ _) (length_tabulate _ _ _) (length_tabulate _ _ _))
    ∙ ap (λ (r : List ℕ). r ++ row f oper_at m ++ row f (uses_at f) n ++ row f (deps_at f) k) (head_is f bytes a)
    ∙ rw (more oper_at m, more (uses_at f) n, more (deps_at f) k, y.ends) (row_is f 0)
  where
    more : (a n : ℕ) → row f 0 a ++ row f a n ≡ row f 0 (a + n)
    more a n = row_join (byte_at f) 0 a a n (a + n) (omega arith) refl

    whole : (xs ys zs : List ℕ) (m n k : ℕ) → length xs ≡ m → length ys ≡ n → length zs ≡ k → file_with xs ys zs ≡ head_bytes m n k ++ xs ++ ys ++ zs
    whole xs ys zs m n k p q r = rw (p, q, r)

-- so two accepted files with one loop are one file
pub one_file : (f g : List ℕ) → Bytes f → Bytes g → Accepted f → Accepted g → loop_of f ≡ loop_of g → f ≡ g
one_file f g p q a b e = sym (file_back f p a) ∙ ap file_of e ∙ file_back g q b
