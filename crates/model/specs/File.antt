-- The loop file: what its bytes say, and what a file is refused for, in file order. Assumes nothing.
use Rattle.std.specs.Prelude.{◌≡◌, Bool, true, not, cond, ◌&&◌, ◌||◌, ℕ, zero, suc, ◌+◌, ◌-◌, ◌*◌, ◌/◌, ◌%◌, min, eqb, leb, ltb, ℤ, pos, negsuc, length, get_or, take, drop}
use mathlib.Core.List.{List, [], ◌∷◌, ◌++◌, map, flat_map}
use Rattle.std.proofs.Math.Option.{none}
use Rattle.std.specs.Int.Signed.{le_z}
use Rattle.model.specs.Lists.{up_from}
use Rattle.model.specs.Loop.{Use, Op, Dep, Loop}
use Rattle.model.specs.Refusals.{Check, check, first_refusal, Answer, answered, refused, settle}

-- ---- numbers in the file

-- byte i of the file f, 0 past its end
abbrev pub byte_at : List ℕ → ℕ → ℕ
byte_at f i = get_or f i 0

-- the number of two bytes at i, little-endian
abbrev pub word_at : List ℕ → ℕ → ℕ
word_at f i = byte_at f i + 256 * byte_at f (i + 1)

-- a byte as a signed number, by two's complement
unfoldable pub signed_byte : ℕ → ℤ
signed_byte n = cond (ltb n 128) (pos n) (negsuc (255 - n))

-- ---- the contents

-- a section: the offset of its entry in the contents, its tag, the bytes of a record, and how many records it may have
pub record Section : Type 0 where
  pub entry : ℕ
  pub tag : List ℕ
  pub width : ℕ
  pub least : ℕ
  pub most : ℕ

-- the bytes of a use's record: slot, duration
abbrev pub use_width : ℕ
use_width = 2

-- the bytes of the longest file
abbrev pub longest : ℕ
longest = 1690

-- the operations; the tag is "OPER"
abbrev pub oper : Section
oper = record { entry = 2; tag = 79 ∷ 80 ∷ 69 ∷ 82 ∷ []; width = 2; least = 1; most = 64 }

-- the uses of all operations; the tag is "USES"
abbrev pub uses : Section
uses = record { entry = 10; tag = 85 ∷ 83 ∷ 69 ∷ 83 ∷ []; width = use_width; least = 0; most = 256 }

-- the dependences; the tag is "DEPS"
abbrev pub deps : Section
deps = record { entry = 18; tag = 68 ∷ 69 ∷ 80 ∷ 83 ∷ []; width = 4; least = 0; most = 256 }

-- the offset and the length that a section's entry gives, and the number of whole records in that length
abbrev pub offset_of : List ℕ → Section → ℕ
offset_of f s = word_at f (s.entry + 4)

-- the length in bytes
abbrev pub length_of : List ℕ → Section → ℕ
length_of f s = word_at f (s.entry + 6)

-- the number of whole records
abbrev pub records_of : List ℕ → Section → ℕ
records_of f s = length_of f s / s.width

-- where each body begins: the first after the contents, each other where the one before ends
abbrev pub oper_at : ℕ
oper_at = 26

-- the beginning of the body USES
abbrev pub uses_at : List ℕ → ℕ
uses_at f = oper_at + length_of f oper

-- the beginning of the body DEPS
abbrev pub deps_at : List ℕ → ℕ
deps_at f = uses_at f + length_of f uses

-- the end of the last body
abbrev pub end_at : List ℕ → ℕ
end_at f = deps_at f + length_of f deps

-- ---- the records

-- the number of operations, and of dependences
abbrev pub op_count : List ℕ → ℕ
op_count f = records_of f oper

-- the number of dependences
abbrev pub dep_count : List ℕ → ℕ
dep_count f = records_of f deps

-- where the record of operation o stands: latency, then number of uses
abbrev pub op_record : ℕ → ℕ
op_record o = oper_at + 2 * o

-- the number of uses of operation o
abbrev pub uses_of : List ℕ → ℕ → ℕ
uses_of f o = byte_at f (op_record o + 1)

-- the number of uses of the operations before o: the number of o's first use among all uses
unfoldable pub first_use : List ℕ → ℕ → ℕ
first_use f zero = 0
first_use f (suc o) = first_use f o + uses_of f o

-- where the record of use u of all stands
abbrev pub use_record : List ℕ → ℕ → ℕ
use_record f u = uses_at f + use_width * u

-- where the record of dependence e stands: from, to, delay, distance
abbrev pub dep_record : List ℕ → ℕ → ℕ
dep_record f e = deps_at f + 4 * e

-- ---- the loop that the bytes describe

-- use u of all
abbrev pub use_in : List ℕ → ℕ → Use
use_in f u = record { slot = byte_at f (use_record f u); offset = 0; duration = byte_at f (use_record f u + 1) }

-- operation o
abbrev pub op_in : List ℕ → ℕ → Op
op_in f o = record { latency = byte_at f (op_record o); uses = map (use_in f) (up_from (first_use f o) (uses_of f o)) }

-- dependence e
abbrev pub dep_in : List ℕ → ℕ → Dep
dep_in f e = record {
  src = byte_at f (dep_record f e);
  dst = byte_at f (dep_record f e + 1);
  delay = signed_byte (byte_at f (dep_record f e + 2));
  distance = byte_at f (dep_record f e + 3);
}

-- the loop
unfoldable pub loop_of : List ℕ → Loop
loop_of f = record { ops = map (op_in f) (up_from 0 (op_count f)); deps = map (dep_in f) (up_from 0 (dep_count f)) }

-- ---- what a record is refused for, by its values: 4, 5 and 6. The detail of each value is given with it

-- z is not one of 0 .. most
abbrev pub not_up_to : ℕ → ℤ → Bool
not_up_to most (pos n) = ltb most n
not_up_to most (negsuc n) = true

-- z is not one of 0 .. n - 1
abbrev pub not_below : ℕ → ℤ → Bool
not_below n (pos m) = leb n m
not_below n (negsuc m) = true

-- z is not one of below + 1 .. most
abbrev pub not_between : (below most : ℕ) → ℤ → Bool
not_between below most (pos n) = leb n below || ltb most n
not_between below most (negsuc n) = true

-- 4: latency 0 to 64, and number of uses 0 to 4
unfoldable pub op_checks : (latency uses : ℤ) (latency_at uses_at : ℕ) → List Check
op_checks latency uses latency_at uses_at = check (not_up_to 64 latency) 4 latency_at ∷ check (not_up_to 4 uses) 4 uses_at ∷ []

-- 5: slot 1 to 24 and above `below`, that of the operation's use before, and duration 1 to 16
unfoldable pub use_checks : (below : ℕ) (slot duration : ℤ) (slot_at duration_at : ℕ) → List Check
use_checks below slot duration slot_at duration_at =
    check (not_between below 24 slot) 5 slot_at ∷ check (not_between 0 16 duration) 5 duration_at ∷ []

-- 6: source and target of the n operations, delay -64 to 64 and distance 0 to 15
unfoldable pub dep_checks : (n : ℕ) (src dst delay distance : ℤ) (src_at dst_at delay_at distance_at : ℕ) → List Check
dep_checks n src dst delay distance src_at dst_at delay_at distance_at =
    check (not_below n src) 6 src_at
    ∷ check (not_below n dst) 6 dst_at
    ∷ check (not (le_z (negsuc 63) delay && le_z delay (pos 64))) 6 delay_at
    ∷ check (not_up_to 15 distance) 6 distance_at
    ∷ []

-- ---- what a file is refused for (document 01's table, 1 to 6), in file order

-- 1: the file's length
unfoldable pub length_checks : List ℕ → List Check
length_checks f = check (ltb (length f) 26 || ltb longest (length f)) 1 (min (length f) (longest + 1)) ∷ []

-- 2: the version, then the number of entries
unfoldable pub head_checks : List ℕ → List Check
head_checks f = check (not (eqb (byte_at f 0) 1)) 2 0 ∷ check (not (eqb (byte_at f 1) 3)) 2 1 ∷ []

-- whether these bytes stand at i
unfoldable pub stands_at : List ℕ → ℕ → List ℕ → Bool
stands_at f i [] = true
stands_at f i (b ∷ bs) = eqb (byte_at f i) b && stands_at f (suc i) bs

-- 3: a section's body of n bytes: whole records, as many as the section may have
abbrev pub size_checks : Section → ℕ → List Check
size_checks s n =
    check (not (eqb (n % s.width) 0)) 3 s.entry
    ∷ check (ltb (n / s.width) s.least || ltb s.most (n / s.width)) 3 s.entry
    ∷ []

-- 3: the entry of a section whose body must begin at `start`: tag, offset, length
unfoldable pub entry_checks : List ℕ → Section → ℕ → List Check
entry_checks f s start =
    check (not (stands_at f s.entry s.tag)) 3 s.entry
    ∷ check (not (eqb (offset_of f s) start)) 3 s.entry
    ∷ size_checks s (length_of f s)

-- 3: the three entries, and that the last body ends where the file does
unfoldable pub contents_checks : List ℕ → List Check
contents_checks f =
    entry_checks f oper oper_at ++ entry_checks f uses (uses_at f) ++ entry_checks f deps (deps_at f)
    ++ (check (not (eqb (end_at f) (length f))) 3 deps.entry ∷ [])

-- byte i as a value
abbrev pub value_at : List ℕ → ℕ → ℤ
value_at f i = pos (byte_at f i)

-- 4: the operation whose record stands at `at`
abbrev pub op_checks_at : List ℕ → ℕ → List Check
op_checks_at f at = op_checks (value_at f at) (value_at f (at + 1)) at (at + 1)

-- 5: the use whose record stands at `at`
abbrev pub use_checks_at : List ℕ → ℕ → ℕ → List Check
use_checks_at f below at = use_checks below (value_at f at) (value_at f (at + 1)) at (at + 1)

-- the slot that use j of an operation has to be above, where the first stands at `at`: that of the use before, 0 where there is none
abbrev pub slot_below : List ℕ → ℕ → ℕ → ℕ
slot_below f at zero = 0
slot_below f at (suc j) = byte_at f (at + use_width * j)

-- 5: the uses of an operation, `n` of them from `at` on
unfoldable pub op_use_checks : List ℕ → ℕ → ℕ → List Check
op_use_checks f at n = flat_map (λ j. use_checks_at f (slot_below f at j) (at + use_width * j)) (up_from 0 n)

-- 5: the length of the body, at its start; then operation by operation, use by use
unfoldable pub uses_checks : List ℕ → List Check
uses_checks f =
    check (not (eqb (length_of f uses) (uses.width * first_use f (op_count f)))) 5 (uses_at f)
    ∷ flat_map (λ o. op_use_checks f (use_record f (first_use f o)) (uses_of f o)) (up_from 0 (op_count f))

-- 6: the dependence of n operations whose record stands at `at`
abbrev pub dep_checks_at : List ℕ → ℕ → ℕ → List Check
dep_checks_at f n at =
    dep_checks n (value_at f at) (value_at f (at + 1)) (signed_byte (byte_at f (at + 2))) (value_at f (at + 3)) at (at + 1) (at + 2) (at + 3)

-- 1 to 6
unfoldable pub file_checks : List ℕ → List Check
file_checks f =
    length_checks f ++ head_checks f ++ contents_checks f
    ++ flat_map (λ o. op_checks_at f (op_record o)) (up_from 0 (op_count f))
    ++ uses_checks f
    ++ flat_map (λ e. dep_checks_at f (op_count f) (dep_record f e)) (up_from 0 (dep_count f))

-- ---- what the reader answers

-- the file is accepted
abbrev pub Accepted : List ℕ → Type 0
Accepted f = first_refusal (file_checks f) ≡ none

-- the reading of any list of bytes: the loop, or the first refusal
unfoldable pub read_file : List ℕ → Answer Loop
read_file f = settle (file_checks f) (loop_of f)

-- a part of an accepted file, and of a refused one the empty part
abbrev pub part_if : Answer Loop → List ℕ → List ℕ
part_if (answered l) part = part
part_if (refused r) part = []

-- the body of a section that begins at `start`
unfoldable pub body_of : List ℕ → Section → ℕ → List ℕ
body_of f s start = part_if (read_file f) (take (length_of f s) (drop start f))

-- the three section calls
abbrev pub oper_body : List ℕ → List ℕ
oper_body f = body_of f oper oper_at

-- the body USES
abbrev pub uses_body : List ℕ → List ℕ
uses_body f = body_of f uses (uses_at f)

-- the body DEPS
abbrev pub deps_body : List ℕ → List ℕ
deps_body f = body_of f deps (deps_at f)
