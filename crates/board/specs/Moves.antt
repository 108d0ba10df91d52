-- What the calls do to starts and rows. Assumes nothing.
use Rattle.std.specs.Prelude.{◌≡◌, Bool, true, false, cond, ◌&&◌, List, ◌⊎◌, ℕ, ◌^◌, ◌<◌, eqb, ltb, length, get_or, drop}
use Rattle.model.specs.Lists.{up_from, any_of, sum_of}
use Rattle.model.specs.Refusals.{Refusal, Answer, refused}
use Rattle.model.specs.Loop.{Loop, dep_at, size}
use Rattle.model.specs.File.{loop_of, Accepted}
use Rattle.model.specs.Legality.{Placing, touches, breaks, conflicts_with}
use Rattle.model.specs.Table.{row_base, IsTable, cells_of}
use Rattle.model.specs.Session.{Call, in_the_way, step}
use Rattle.model.specs.Session as model
use Rattle.reservation.specs.Seats.{seats}
use Rattle.board.specs.Board.{starts_of, setup_as, bare, Numbers, Sane, Board}
use Rattle.std.specs.Prelude.{Result}
use Rattle.refusals.specs.Told.{answer_of}
use Rattle.refusals.specs.declared.Refusal as code
use Rattle.board.specs.declared.Reply.{Reply}
use Rattle.board.specs.declared.Reply.TheVariants as reply

-- an answer as the model has it
abbrev pub said : Reply → model.Reply
said reply.Done = model.done
said (reply.Displaced m) = model.displaced m
said (reply.Numbered n) = model.numbered n

-- what a call answers, in document 01's numbers
abbrev pub reply_of : Result Reply code.Refusal → Answer model.Reply
reply_of r = answer_of said r

-- ---- placing, forcing, removing

-- call c on the starts xs and the rows: the answer and the new starts are the model's, the rows are their table and later rows as they were; a refusal leaves all as it was
pub record Did (c : Call) (f : List ℕ) (ii h : ℕ) (xs rows xs' rows' : List ℕ) (r : Result Reply code.Refusal) : Type 0 where
  pub reply : reply_of r ≡ (step (setup_as f ii h) c (bare f xs)).1
  pub starts_are : starts_of (size (loop_of f)) xs' ≡ (step (setup_as f ii h) c (bare f xs)).0.starts
  pub board : Board f ii h xs' rows'
  pub rest : drop ii rows' ≡ drop ii rows
  pub kept : (x : Refusal) → reply_of r ≡ refused x → (xs' ≡ xs) × (rows' ≡ rows)

-- removing asks for no horizon, and keeps every one
abbrev pub Removed : List ℕ → (ii o : ℕ) → (xs rows xs' rows' : List ℕ) → Result Reply code.Refusal → Type 0
Removed f ii o xs rows xs' rows' r = (h : ℕ) → Board f ii h xs rows → Did (model.remove o) f ii h xs rows xs' rows' r

-- ---- what is in the way

-- one of the first k dependences has p at an end, and operation o at t breaks it
unfoldable pub hit_by : Loop → ℕ → Placing → (o t k p : ℕ) → Bool
hit_by l ii f o t k p = any_of (λ e. touches p (dep_at l e) && breaks ii f o t (dep_at l e)) (up_from 0 k)

-- the mark of operation p says so, if p is another one
abbrev pub HitIs : Loop → (ii o t p : ℕ) → (xs : List ℕ) → (hits : List Bool) → Type 0
HitIs l ii o t p xs hits = (length hits ≡ 64) × ((p ≡ o → ⊥) → get_or hits p false ≡ hit_by l ii (seats xs) o t (length l.deps) p)

-- the marks of all other operations say so, of the first k dependences
pub record HitsAre (l : Loop) (ii o t k : ℕ) (xs : List ℕ) (hits : List Bool) : Type 0 where
  pub whole : length hits ≡ 64
  pub at : (p : ℕ) → p < size l → (p ≡ o → ⊥) → get_or hits p false ≡ hit_by l ii (seats xs) o t k p

-- what is asked to tell whether operation p is in the way of o, which is not placed, at t: that the mark of p is right, and where o is said to be free there that p does not conflict with it
pub record MarkKnown (f : List ℕ) (ii o t p : ℕ) (free : Bool) (xs : List ℕ) (hits : List Bool) : Type 0 where
  pub accepted : Accepted f
  pub numbers : Numbers ii 4096
  pub sane : Sane (loop_of f) ii 4096 xs
  pub inside : o < size (loop_of f)
  pub inside_p : p < size (loop_of f)
  pub near : t < 4096
  pub blank : get_or xs o 65535 ≡ 65535
  pub hit : HitIs (loop_of f) ii o t p xs hits
  pub apart : free ≡ true → conflicts_with (loop_of f) ii (seats xs) o t p ≡ false

-- whether operation p is in the way of o at t among these starts; the horizon plays no part
abbrev pub way : List ℕ → (ii o t : ℕ) → List ℕ → ℕ → Bool
way f ii o t xs p = in_the_way (setup_as f ii 0) (starts_of (size (loop_of f)) xs) o t p

-- of the first k operations those in the way of o at t are taken out, and the mask tells them
pub record Cleared (f : List ℕ) (ii o t k : ℕ) (xs rows xs' rows' : List ℕ) (mask : ℕ) : Type 0 where
  pub at : (p : ℕ) → get_or xs' p 65535 ≡ cond (ltb p k && way f ii o t xs p) 65535 (get_or xs p 65535)
  pub mask_is : mask ≡ sum_of (λ p. cond (way f ii o t xs p) (2 ^ p) 0) (up_from 0 k)
  pub board : Board f ii 4096 xs' rows'
  pub rest : drop ii rows' ≡ drop ii rows

-- ---- going back

-- of the first k operations those that are not where they are wanted are taken out
pub record Thinned (f : List ℕ) (ii k : ℕ) (wanted xs rows xs' rows' : List ℕ) : Type 0 where
  pub at : (p : ℕ) → get_or xs' p 65535 ≡ cond (ltb p k) (cond (eqb (get_or xs p 65535) (get_or wanted p 65535)) (get_or xs p 65535) 65535) (get_or xs p 65535)
  pub board : Board f ii 4096 xs' rows'
  pub rest : drop ii rows' ≡ drop ii rows

-- each of the first k operations is where it is wanted; each other one is so, or not placed
pub record Agrees (k : ℕ) (wanted xs : List ℕ) : Type 0 where
  pub done : (p : ℕ) → p < k → get_or xs p 65535 ≡ get_or wanted p 65535
  pub to_do : (p : ℕ) → (get_or xs p 65535 ≡ 65535) ⊎ (get_or xs p 65535 ≡ get_or wanted p 65535)

-- the starts are those that are wanted, the rows their table, and later rows as they were
pub record Restored (f : List ℕ) (ii : ℕ) (wanted rows xs' rows' : List ℕ) : Type 0 where
  pub starts_are : xs' ≡ wanted
  pub held : IsTable row_base ii (cells_of (loop_of f) ii (seats wanted)) rows'
  pub rest : drop ii rows' ≡ drop ii rows
