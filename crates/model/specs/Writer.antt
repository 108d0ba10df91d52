-- The writer of loop files (document 02, order 3): the file of a loop, what lists of numbers are refused for, and what is left in the buffer. Assumes nothing.
use Rattle.std.specs.Prelude.{◌≡◌, not, ℕ, zero, suc, ◌+◌, ◌-◌, ◌*◌, ◌/◌, ◌%◌, ◌<◌, eqb, ℤ, pos, negsuc, length, get_or, drop, ◌≤ℤ◌}
use mathlib.Core.List.{List, [], ◌∷◌, ◌++◌, map, flat_map}
use Rattle.model.specs.Lists.{up_from}
use Rattle.model.specs.Integers.{plus}
use Rattle.model.specs.Refusals.{Check, check, lent, Answer, answered, refused, settle}
use Rattle.model.specs.Loop.{Use, Op, Dep, Loop, op_at, use_at, all_uses}
use Rattle.model.specs.File.{byte_at, use_width, oper, uses, deps, oper_at, op_checks, use_checks, dep_checks, size_checks}

-- ---- a file by its three bodies

-- a number below 65,536 as two bytes, little-endian
abbrev pub word : ℕ → List ℕ
word n = n % 256 ∷ n / 256 ∷ []

-- a section's entry in the contents: tag, offset, length
abbrev pub entry_bytes : (tag : List ℕ) (start long : ℕ) → List ℕ
entry_bytes tag start long = tag ++ word start ++ word long

-- version 1, number of entries 3, and the entries of bodies of these lengths, one behind the other
abbrev pub head_bytes : (oper_long uses_long deps_long : ℕ) → List ℕ
head_bytes a b c = 1 ∷ 3 ∷ entry_bytes oper.tag oper_at a ++ entry_bytes uses.tag (oper_at + a) b ++ entry_bytes deps.tag (oper_at + a + b) c

-- the file with these bodies
abbrev pub file_with : (oper_body uses_body deps_body : List ℕ) → List ℕ
file_with xs ys zs = head_bytes (length xs) (length ys) (length zs) ++ xs ++ ys ++ zs

-- every element is a byte: so is the list of any slice of bytes
abbrev pub Bytes : List ℕ → Type 0
Bytes f = (i : ℕ) → byte_at f i < 256

-- ---- a loop as numbers: the fields of its records, one record after the other, as they stand in the three bodies

-- three lists of numbers, any at all: what the writer is given (document 02: operations, uses and dependences)
pub record Fields : Type 0 where
  pub ops : List ℤ
  pub uses : List ℤ
  pub deps : List ℤ

-- number i of a list
abbrev pub field_at : List ℤ → ℕ → ℤ
field_at xs i = get_or xs i (pos 0)

-- an operation: latency, number of uses
abbrev pub op_fields : Op → List ℤ
op_fields p = pos p.latency ∷ pos (length p.uses) ∷ []

-- a use: slot, duration
abbrev pub use_fields : Use → List ℤ
use_fields u = pos u.slot ∷ pos u.duration ∷ []

-- a dependence: from, to, delay, distance
abbrev pub dep_fields : Dep → List ℤ
dep_fields e = pos e.src ∷ pos e.dst ∷ e.delay ∷ pos e.distance ∷ []

-- the numbers of a loop: what is given to have it written
unfoldable pub fields_of : Loop → Fields
fields_of l = record { ops = flat_map op_fields l.ops; uses = flat_map use_fields (all_uses l); deps = flat_map dep_fields l.deps }

-- ---- the file of a loop

-- a number as a byte, one below 0 by two's complement; only a number that has a byte (`HasByte`) is written
abbrev pub byte_of : ℤ → ℕ
byte_of (pos n) = n
byte_of (negsuc n) = 255 - n

-- a number that has a byte: from -128 to 255
pub record HasByte (z : ℤ) : Type 0 where
  pub low : negsuc 127 ≤ℤ z
  pub high : z ≤ℤ pos 255

-- every number of a list, and what stands past its end, has one
abbrev pub HaveBytes : List ℤ → Type 0
HaveBytes xs = (i : ℕ) → HasByte (field_at xs i)

-- the file in which each number is a byte
unfoldable pub file_by : Fields → List ℕ
file_by d = file_with (map byte_of d.ops) (map byte_of d.uses) (map byte_of d.deps)

-- the file of a loop
abbrev pub file_of : Loop → List ℕ
file_of l = file_by (fields_of l)

-- version 1 of the file can hold the loop: every use begins with its operation
abbrev pub AtOnce : Loop → Type 0
AtOnce l = (o j : ℕ) → (use_at (op_at l o) j).offset ≡ 0

-- ---- the loop that lists of numbers describe

-- the number of whole operations
abbrev pub op_total : Fields → ℕ
op_total d = length d.ops / oper.width

-- of whole uses
abbrev pub use_total : Fields → ℕ
use_total d = length d.uses / uses.width

-- of whole dependences
abbrev pub dep_total : Fields → ℕ
dep_total d = length d.deps / deps.width

-- the number of uses of operation o, by the list of operations
abbrev pub uses_given : List ℤ → ℕ → ℕ
uses_given ops o = plus (field_at ops (2 * o + 1))

-- the number of uses of the operations before o: the number of o's first use among all uses
unfoldable pub first_given : List ℤ → ℕ → ℕ
first_given ops zero = 0
first_given ops (suc o) = first_given ops o + uses_given ops o

-- use u of all, by the list of uses
abbrev pub use_from : List ℤ → ℕ → Use
use_from us u = record { slot = plus (field_at us (use_width * u)); offset = 0; duration = plus (field_at us (use_width * u + 1)) }

-- operation o
abbrev pub op_from : Fields → ℕ → Op
op_from d o = record {
  latency = plus (field_at d.ops (2 * o));
  uses = map (use_from d.uses) (up_from (first_given d.ops o) (uses_given d.ops o));
}

-- dependence e, by the list of dependences
abbrev pub dep_from : List ℤ → ℕ → Dep
dep_from ds e = record {
  src = plus (field_at ds (4 * e));
  dst = plus (field_at ds (4 * e + 1));
  delay = field_at ds (4 * e + 2);
  distance = plus (field_at ds (4 * e + 3));
}

-- the loop
unfoldable pub loop_from : Fields → Loop
loop_from d = record { ops = map (op_from d) (up_from 0 (op_total d)); deps = map (dep_from d.deps) (up_from 0 (dep_total d)) }

-- ---- what lists of numbers are refused for, in this order. A record is refused for what the reader refuses its values for; the detail is the record's number in its list

-- 4: operation o of a list
abbrev pub op_given_checks : List ℤ → ℕ → List Check
op_given_checks ops o = op_checks (field_at ops (2 * o)) (field_at ops (2 * o + 1)) o o

-- the slot that use j of an operation has to be above, where its first is use u of all: that of the use before, 0 where there is none
abbrev pub slot_before : List ℤ → ℕ → ℕ → ℕ
slot_before us u zero = 0
slot_before us u (suc j) = plus (field_at us (use_width * (u + j)))

-- 5: use u of a list, with a slot above `below`
abbrev pub use_given_checks : List ℤ → ℕ → ℕ → List Check
use_given_checks us below u = use_checks below (field_at us (use_width * u)) (field_at us (use_width * u + 1)) u u

-- 5: the uses of an operation, `n` of them from use u of the list on
unfoldable pub op_uses_given_checks : List ℤ → ℕ → ℕ → List Check
op_uses_given_checks us u n = flat_map (λ j. use_given_checks us (slot_before us u j) (u + j)) (up_from 0 n)

-- 5: not as many uses as the operations say, with the number given; then operation by operation, use by use
unfoldable pub uses_given_checks : Fields → List Check
uses_given_checks d =
    check (not (eqb (length d.uses) (use_width * first_given d.ops (op_total d)))) 5 (use_total d)
    ∷ flat_map (λ o. op_uses_given_checks d.uses (first_given d.ops o) (uses_given d.ops o)) (up_from 0 (op_total d))

-- 6: dependence e of a list, between n operations
abbrev pub dep_given_checks : List ℤ → ℕ → ℕ → List Check
dep_given_checks ds n e = dep_checks n (field_at ds (4 * e)) (field_at ds (4 * e + 1)) (field_at ds (4 * e + 2)) (field_at ds (4 * e + 3)) e e e e

-- 3, for the number of operations and then of dependences; 4, 5 and 6
unfoldable pub given_checks : Fields → List Check
given_checks d =
    size_checks oper (length d.ops) ++ size_checks deps (length d.deps)
    ++ flat_map (op_given_checks d.ops) (up_from 0 (op_total d))
    ++ uses_given_checks d
    ++ flat_map (dep_given_checks d.deps (op_total d)) (up_from 0 (dep_total d))

-- then 20: a buffer of `room` bytes that is shorter than the file
unfoldable pub write_checks : Fields → ℕ → List Check
write_checks d room = given_checks d ++ (lent (length (file_of (loop_from d))) room ∷ [])

-- ---- what the writer answers, and what it leaves

-- the file of the loop that the lists describe, or the first refusal
unfoldable pub write_file : Fields → ℕ → Answer (List ℕ)
write_file d room = settle (write_checks d room) (file_of (loop_from d))

-- the buffer afterwards: the file and, after it, what was there; all as it was, where the writer refused
abbrev pub buffer_after : Answer (List ℕ) → List ℕ → List ℕ
buffer_after (answered f) before = f ++ drop (length f) before
buffer_after (refused r) before = before
