-- What calls of a closure at references say of the values behind them. Assumes nothing.
use mathlib.Core.Path.{refl}
use mathlib.Core.List.{List, [], ◌∷◌}
use Rattle.std.specs.Prelude.{map}
use denote.Ref.{Bor}
use denote.Param.Members.{Mut, Called}
use Rattle.std.specs.Fn.{CalledAt}
use Rattle.std.specs.List.{FoldsTo}

-- one call at each reference is one at each value
pub calls_at : {F A : Type 0} (g : Mut F (Bor A × Unit {0}) (Unit {0})) (f last : F) (xs : List (Bor A)) → FoldsTo (λ p x q. Called g p (x, tt) tt q) f xs last
    → FoldsTo (λ p x q. CalledAt g p x tt q) f (map (λ x. x.now) xs) last
calls_at g f last [] e = e
calls_at g f last (x ∷ xs) (j, s, r) = (j, record { shown = x; shows = refl; called = s }, calls_at g j last xs r)
