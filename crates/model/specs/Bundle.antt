-- A bundle of files (document 02, order 6): what its bytes say, what it is refused for, and its list of files. Assumes nothing.
use Rattle.std.specs.Prelude.{Bool, not, cond, ℕ, zero, suc, ◌+◌, ◌*◌, eqb, ltb, length, get_or, take, drop}
use mathlib.Core.List.{List, [], ◌∷◌, ◌++◌, map, flat_map}
use Rattle.model.specs.Lists.{up_from}
use Rattle.model.specs.Refusals.{Check, check, outside, Answer, answered, refused, settle}
use Rattle.model.specs.File.{byte_at, word_at}

-- ---- the contents

-- the number of files that the first byte gives; 0 where there is no byte
abbrev pub file_count : List ℕ → ℕ
file_count b = byte_at b 0

-- where the entry of file i stands: its offset from the bundle's start, then its length
abbrev pub entry_at : ℕ → ℕ
entry_at i = 1 + 4 * i

-- the offset that entry i gives
abbrev pub offset_at : List ℕ → ℕ → ℕ
offset_at b i = word_at b (entry_at i)

-- the length that entry i gives
abbrev pub length_at : List ℕ → ℕ → ℕ
length_at b i = word_at b (entry_at i + 2)

-- where file i has to begin: the first after the entries, each other where the one before ends
unfoldable pub begin_at : List ℕ → ℕ → ℕ
begin_at b zero = entry_at (file_count b)
begin_at b (suc i) = begin_at b i + length_at b i

-- ---- what a bundle is refused for (21)

-- entry i, at detail i + 1: cut off, a wrong offset, an end past the bundle's
unfoldable pub place_checks : List ℕ → ℕ → List Check
place_checks b i =
    check (ltb (length b) (entry_at i + 4)) 21 (i + 1)
    ∷ check (not (eqb (offset_at b i) (begin_at b i))) 21 (i + 1)
    ∷ check (ltb (length b) (begin_at b i + length_at b i)) 21 (i + 1)
    ∷ []

-- the first n entries
abbrev pub places_checks : List ℕ → ℕ → List Check
places_checks b n = flat_map (place_checks b) (up_from 0 n)

-- the count, 1 to 32, at detail 0; entry by entry; and, at the last entry, that the last file ends where the bundle does
unfoldable pub bundle_checks : List ℕ → List Check
bundle_checks b =
    check (outside 32 (file_count b)) 21 0
    ∷ places_checks b (file_count b)
    ++ (check (not (eqb (begin_at b (file_count b)) (length b))) 21 (file_count b) ∷ [])

-- ---- the files

-- the bytes of file i
unfoldable pub file_in : List ℕ → ℕ → List ℕ
file_in b i = take (length_at b i) (drop (begin_at b i) b)

-- the reading of any list of bytes: the files in their order, or the first refusal
unfoldable pub read_bundle : List ℕ → Answer (List (List ℕ))
read_bundle b = settle (bundle_checks b) (map (file_in b) (up_from 0 (file_count b)))

-- the files, none where the bundle is refused
abbrev pub files_if : Answer (List (List ℕ)) → List (List ℕ)
files_if (answered fs) = fs
files_if (refused r) = []

-- the list of files of any bundle
unfoldable pub files : List ℕ → List (List ℕ)
files b = files_if (read_bundle b)

-- the number of files, or the refusal
abbrev pub count_in : Answer (List (List ℕ)) → Answer ℕ
count_in (answered fs) = answered (length fs)
count_in (refused r) = refused r

-- ---- what a reader answers that holds the bundle and the number i of the next file

-- whether there is a file i
abbrev pub has_file : List ℕ → ℕ → Bool
has_file b i = ltb i (length (files b))

-- file i, empty where there is none
abbrev pub file_at : List ℕ → ℕ → List ℕ
file_at b i = get_or (files b) i []

-- where file i begins, 0 where there is none
abbrev pub begin_of : List ℕ → ℕ → ℕ
begin_of b i = cond (has_file b i) (begin_at b i) 0

-- the number after i; past the last file it stays
abbrev pub next_after : List ℕ → ℕ → ℕ
next_after b i = cond (has_file b i) (i + 1) i
