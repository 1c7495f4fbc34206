-- Calls that leave nothing to be swept.
use Rattle.std.proofs.Common.{◌≡◌, ℕ, Option, Result, Ok, Err, sym, subst}
use Rattle.std.proofs.Math.Path.{fun_ext}
use Rattle.model.specs.declared.limits.Limits.{Limits}
use Rattle.model.specs.Outcomes.{Outcome}
use Rattle.model.specs.Records.{applied, work_of}
use Rattle.model.specs.Room.{logs}
use Rattle.model.specs.Trees.{Description}
use Rattle.model.specs.Volumes.{Volume, IsMounted, swept, tree_of}
use Rattle.model.specs.declared.errno.Errno.{Errno}
use Rattle.model.specs.declared.reply.Reply.TheVariants.{Done}
use Rattle.calls.specs.Changing.{Comes, ComesSwept, change_by}
use Rattle.calls.specs.declared.changed.Changing.{Changing}

pub comes_swept : (outcome : Outcome) (limits : Limits) (v : Volume) (table : ℕ → Option Description) (told : Result Changing Errno) → Comes outcome limits v table told
    → ComesSwept outcome limits v table told
comes_swept outcome limits v table (Err errno) comes = comes
comes_swept outcome limits v table (Ok c) (applies, mounted, done) =
    let w = applied (change_by c) v in
    let same : w ≡ swept table w = sym (fun_ext {f = swept table w} {g = w} mounted.is_swept) in
    let behind = subst (λ (x : Volume). IsMounted x table × outcome Done (tree_of x table) (logs (work_of v (change_by c)))) same (mounted, done) in
    (applies, behind.0, behind.1)
