-- The worked loops as files, by number: what `loops::put_loop` puts. Assumes nothing.
use Rattle.std.specs.Prelude.{ℕ, zero, suc, ◌-◌, cond, List, [], ◌∷◌, ◌++◌, replicate, nat_lt, slice_index_or, slice_set}
use Rattle.model.specs.Writer.{file_with}
use Rattle.model.specs.Cases.{file_a, file_b, file_b2, file_c, ring, four}

-- the dependences of i with i + 1 for the n operations i before operation m, each of delay 64 and distance 0
abbrev pub chain : ℕ → ℕ → List ℕ
chain zero m = []
chain (suc n) m = (m - suc n) ∷ (m - n) ∷ 64 ∷ 0 ∷ chain n m

-- the files: none, loops A, B, B2, C, D, F and G, one long use, two uses that go around, three pairs, the smallest, case 7, the ring of case 13, and 64 operations
abbrev pub files : List (List ℕ)
files =
    []
    ∷ file_a
    ∷ file_b
    ∷ file_b2
    ∷ file_c
    ∷ file_with (1 ∷ 1 ∷ 1 ∷ 1 ∷ 1 ∷ 1 ∷ []) (1 ∷ 1 ∷ 1 ∷ 1 ∷ 1 ∷ 2 ∷ []) (0 ∷ 1 ∷ 2 ∷ 0 ∷ [])
    ∷ file_with (1 ∷ 1 ∷ 1 ∷ 1 ∷ 1 ∷ 1 ∷ 1 ∷ 2 ∷ 1 ∷ 0 ∷ []) (1 ∷ 1 ∷ 1 ∷ 1 ∷ 2 ∷ 2 ∷ 1 ∷ 2 ∷ 2 ∷ 1 ∷ []) (3 ∷ 4 ∷ 2 ∷ 0 ∷ [])
    ∷ file_with (1 ∷ 0 ∷ 1 ∷ 0 ∷ []) [] (1 ∷ 0 ∷ 254 ∷ 0 ∷ 0 ∷ 1 ∷ 5 ∷ 1 ∷ 0 ∷ 1 ∷ 5 ∷ 1 ∷ [])
    ∷ four
    ∷ file_with (1 ∷ 1 ∷ 1 ∷ 1 ∷ []) (1 ∷ 3 ∷ 1 ∷ 1 ∷ []) []
    ∷ file_with (1 ∷ 3 ∷ 1 ∷ 2 ∷ 1 ∷ 3 ∷ []) (1 ∷ 1 ∷ 3 ∷ 1 ∷ 5 ∷ 2 ∷ 3 ∷ 1 ∷ 4 ∷ 3 ∷ 1 ∷ 1 ∷ 2 ∷ 4 ∷ 3 ∷ 1 ∷ []) []
    ∷ file_with (0 ∷ 0 ∷ []) [] []
    ∷ ring 1 0 0 0
    ∷ file_with (replicate 128 0) [] (chain 63 63 ++ (63 ∷ 0 ∷ 64 ∷ 1 ∷ []))
    ∷ file_with (replicate 128 0) [] (1 ∷ 0 ∷ 0 ∷ 0 ∷ 31 ∷ 0 ∷ 0 ∷ 0 ∷ 32 ∷ 0 ∷ 0 ∷ 0 ∷ 63 ∷ 0 ∷ 0 ∷ 0 ∷ [])
    ∷ []

-- the file of loop number k; a number that none has stands for no bytes
unfoldable pub loop_file : ℕ → List ℕ
loop_file k = slice_index_or files k []

-- bytes with the one at a place below 2,000 set
abbrev pub changed : (at byte : ℕ) → List ℕ → List ℕ
changed at byte file = cond (nat_lt at 2000) (slice_set file at byte) file
