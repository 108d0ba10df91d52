-- Answers and starts as numbers. Assumes nothing.
use mathlib.Core.Path.{◌≡◌, refl, sym, ap, ◌∙◌}
use mathlib.Core.Bool.{Bool, true, false, cond}
use mathlib.Core.List.{List, [], ◌∷◌, ◌++◌, map, flat_map, append-nil, append_assoc}
use mathlib.Core.Option.{none, some}
use Prim.Native.Nat.{ℕ, ◌*◌}
use native.Mathlib.Omega.{arith}
use borrow.Author.Tests.{eqb-true}
use lib.Dec.{eqb}
use lib.ListN.{length, get_or, length-append}
use lib.Seq.{ext_get_or}
use Rattle.model.specs.Lists.{up_from}
use Rattle.model.specs.Refusals.{Answer, answered, refused}
use Rattle.model.specs.Legality.{Placing}
use Rattle.model.specs.Session.{placed_in}
use Rattle.model.specs.Session as model
use Rattle.model.proofs.Lists.{length_tabulate, get_or_tabulate}
pub use Rattle.model.proofs.Lists.{length_written, written_more}
use Rattle.session.specs.View.{file_of, state_of, Valid}
use Rattle.session.specs.declared.Session.{Session}
use Rattle.board.proofs.Boards.{same_seats}
use Rattle.reservation.specs.Seats.{seat_of, seats}
use Rattle.replay.specs.Replay.{reply_words, all_words, start_word, start_words}

-- ---- answers as numbers

-- two a call
words_two : (a : Answer model.Reply) → length (reply_words a) ≡ 2
words_two (answered model.done) = refl
words_two (answered (model.displaced m)) = refl
words_two (answered (model.numbered n)) = refl
words_two (refused r) = refl

pub words_length : (rs : List (Answer model.Reply)) → length (all_words rs) ≡ 2 * length rs
unfolding all_words flat_map
words_length [] = refl
words_length (a ∷ rs) = omega (arith, length-append (reply_words a) (all_words rs), words_two a, words_length rs)

pub words_then : (rs : List (Answer model.Reply)) (a : Answer model.Reply) → all_words (rs ++ (a ∷ [])) ≡ all_words rs ++ reply_words a
unfolding all_words flat_map
words_then [] a = append-nil (reply_words a)
words_then (b ∷ rs) a = ap (λ (r : List ℕ). reply_words b ++ r) (words_then rs a) ∙ sym (append_assoc (reply_words b) (all_words rs) (reply_words a))

-- ---- the starts of a session as 64 numbers

-- the number of a start says the start
word_seat : (x : ℕ) → start_word (seat_of x) ≡ x
word_seat x = pick (eqb x 65535) refl
  where
    pick : (b : Bool) → eqb x 65535 ≡ b → start_word (cond b none (some x)) ≡ x
    pick true e = sym (eqb-true x 65535 e)
    pick false e = refl

pub starts_told : {s : Session} {rows : List ℕ} → Valid s rows → s.starts ≡ start_words (state_of s).starts
unfolding start_words
starts_told {s} v =
    let xs : List ℕ = s.starts in
    let whole = v.board.sane.whole in
    let same : placed_in (state_of s).starts ≡ seats xs = same_seats (file_of s) xs v.board.accepted whole v.board.sane.blank in
    ext_get_or 65535 xs (map (λ o. start_word (placed_in (state_of s).starts o)) (up_from 0 64)) (whole ∙ sym (length_tabulate (λ o. start_word (placed_in (state_of s).starts o)) 0 64)) (λ i l.
    sym (word_seat (get_or xs i 65535)) ∙ ap (λ (f : Placing). start_word (f i)) (sym same) ∙ ap (λ (k : ℕ). start_word (placed_in (state_of s).starts k)) (omega arith)
    ∙ sym (get_or_tabulate (λ o. start_word (placed_in (state_of s).starts o)) 0 64 i 65535 (omega (arith, whole))))
