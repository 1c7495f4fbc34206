-- What is told of an object (POSIX.1-2017, stat()).
use Rattle.std.specs.Prelude.{ℕ, length}
use Rattle.model.specs.declared.limits.TheConstants.{LINK_MODE}
use Rattle.model.specs.declared.reply.Stat.{Stat}
use Rattle.model.specs.declared.reply.FileType.TheVariants as kind
use Rattle.model.specs.Trees.{Tree, Object, directory, symlink, file, number_of_object}
use Rattle.model.specs.Edits.{attributes_at, contents}

-- the mode that an object shows: a link shows 0777, another object its own
abbrev pub shown_mode : Tree → Object → ℕ
shown_mode t (symlink n text) = LINK_MODE
shown_mode t o = (attributes_at t (number_of_object o)).mode

-- what `stat` tells of an object: number, kind, mode, links and size, which is 0 for a directory
-- and the length of its text for a link
abbrev pub stat_of : Tree → Object → ℕ → Stat
stat_of t (directory n) links = record { number = n; kind = kind.Dir; mode = shown_mode t (directory n); links = links; size = 0 }
stat_of t (symlink n text) links = record { number = n; kind = kind.Link; mode = shown_mode t (symlink n text); links = links; size = length text }
stat_of t (file n) links = record { number = n; kind = kind.File; mode = shown_mode t (file n); links = links; size = length (contents t n) }
