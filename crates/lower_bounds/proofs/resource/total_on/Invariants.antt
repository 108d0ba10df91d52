-- The sum is the total on the slot over the first `u` of all uses.
use Rattle.std.proofs.Common.{◌≡◌}
use Rattle.model.specs.File.{loop_of}
use Rattle.lower_bounds.proofs.AllUses.{total_to}
use Rattle.lower_bounds.proofs.resource.total_on.Given as goal

abbrev pub invariant-loop-u : goal.invariant-loop-u
invariant-loop-u l = l.sum ≡ total_to (loop_of l.file) l.s l.u
