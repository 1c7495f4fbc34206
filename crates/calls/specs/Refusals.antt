-- Refusals of calls by a path.
use Rattle.std.specs.Prelude.{Bool, true}
use Rattle.model.specs.Laws.{is_own}
use Rattle.model.specs.declared.errno.Errno.{Errno}
use Rattle.model.specs.declared.errno.Errno.TheVariants.{DAMAGED}

-- a refusal of the call's own; or a name stands for a number that no object has, which no volume
-- has
abbrev pub is_path_refusal : Errno → Bool
is_path_refusal DAMAGED = true
is_path_refusal e = is_own e
