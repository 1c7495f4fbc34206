-- Refusals of a walk along a path.
use Rattle.std.specs.Prelude.{Bool, true, false}
use Rattle.model.specs.declared.errno.Errno.{Errno}
use Rattle.model.specs.declared.errno.Errno.TheVariants.{ENOENT, ENOTDIR, ENAMETOOLONG, ELOOP, ESTALE, DAMAGED}

-- a refusal that a walk tells: the path's own, or a name for a number that no object has
abbrev pub is_walk_refusal : Errno → Bool
is_walk_refusal ENOENT = true
is_walk_refusal ENOTDIR = true
is_walk_refusal ENAMETOOLONG = true
is_walk_refusal ELOOP = true
is_walk_refusal ESTALE = true
is_walk_refusal DAMAGED = true
is_walk_refusal _ = false
