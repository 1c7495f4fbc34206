-- Obstacles to records, one by one.
use Rattle.std.proofs.Common.{◌≡◌, ◌≢◌, inl, inr, ℕ, Bool, true, false, List, Option, Some, None, Err, refl, sym, ap, subst, ◌∙◌, arith}
use Rattle.std.proofs.lemmas.Bool.{false≢true}
use Rattle.model.specs.declared.limits.Limits.{Limits}
use Rattle.layout.specs.declared.inode.Inode.{Inode}
use Rattle.model.specs.Paths.{IsName, Name}
use Rattle.model.specs.Records.{Applies, CanEdit, CanRename, CanReplace, Change, Edit, IsBelow, change_attributes, create, set_file, truncate, link, rename, remove_name, write}
use Rattle.model.specs.Volumes.{Volume, entries, is_directory_node, is_file_node}
use Rattle.model.specs.declared.errno.Errno.{Errno}
use Rattle.model.specs.declared.errno.Errno.TheVariants.{DAMAGED, DIRFULL, EEXIST, EFBIG, EINVAL, EISDIR, EMLINK, ENAMETOOLONG, ENOENT, ENOTDIR, ENOTEMPTY, EPERM}
use Rattle.model.proofs.OptionLaws.{none_some}
use Rattle.model.proofs.VolumeLemmas.{enters_directory}
use Rattle.records.specs.Obstacles.{BarsEdit, BarsMove, BarsReplacing, BarsTarget, IsObstacle}
use Rattle.images.specs.Soundness.{Detail}
use Rattle.records.specs.Moving.{Moves, Replaces, ReplacesBy}
use Rattle.records.specs.declared.steps.ObjectUpdate.{ObjectUpdate}
use Rattle.records.proofs.FileLaws.{same_links, same_some}
use Rattle.records.proofs.MoveLaws.{can_rename}

-- ---- a record with an obstacle doesn't apply

one_kind : (a b : Bool) → a ≡ true → b ≡ false → b ≡ a → ⊥
one_kind a b is not same = false≢true (sym not ∙ same ∙ is)

other_kind : (a b : Bool) → a ≡ false → b ≡ true → b ≡ a → ⊥
other_kind a b not is same = false≢true (sym not ∙ sym same ∙ is)

replacing_stops : (limits : Limits) (v : Volume) (d n m k : ℕ) (y : Name) (errno : Errno) → BarsReplacing v n m errno → CanReplace limits v d k y n (Some m) → ⊥
replacing_stops limits v d n m k y ENOTDIR bars may = one_kind (is_directory_node (v n)) (is_directory_node (v m)) bars.0 bars.1 may.1
replacing_stops limits v d n m k y EISDIR bars may = other_kind (is_directory_node (v n)) (is_directory_node (v m)) bars.0 bars.1 may.1
replacing_stops limits v d n m k y ENOTEMPTY bars may = bars.1 may.2
replacing_stops limits v d n m k y _ bars may = absurd bars

target_stops : (limits : Limits) (v : Volume) (d n k : ℕ) (y : Name) (target : Option ℕ) (errno : Errno) → BarsTarget limits v d n k y target errno → CanReplace limits v d k y n target → ⊥
target_stops limits v d n k y (Some m) errno bars may = replacing_stops limits v d n m k y errno bars may
target_stops limits v d n k y None DIRFULL bars (inl same) = bars.0 same
target_stops limits v d n k y None DIRFULL bars (inr takes) = bars.1 takes
target_stops limits v d n k y None _ bars may = absurd bars

same_stops : (limits : Limits) (v : Volume) (d n k : ℕ) (y : Name) (target : Option ℕ) → target ≡ Some n → CanReplace limits v d k y n target → ⊥
same_stops limits v d n k y None is may = none_some is
same_stops limits v d n k y (Some m) is may = may.0 (same_some is)

module _ (limits : Limits) (v : Volume) (d : ℕ) (x : Name) (k : ℕ) (y : Name) (n : ℕ) (there : entries v d x ≡ Some n) (can : CanRename limits v d x k y) where
  may_replace : CanReplace limits v d k y n (entries v k y)
  may_replace = subst (λ (j : ℕ). CanReplace limits v d k y j (entries v k y)) (same_some (sym can.there ∙ there)) can.replaces

  never_below : IsBelow (entries v) n k → ⊥
  never_below = subst (λ (j : ℕ). IsBelow (entries v) j k → ⊥) (same_some (sym can.there ∙ there)) can.outside

  move_stops : (errno : Errno) → BarsMove limits v d n k y (entries v k y) errno → ⊥
  move_stops EEXIST bars = same_stops limits v d n k y (entries v k y) bars may_replace
  move_stops EINVAL bars = never_below bars.1
  move_stops errno bars = target_stops limits v d n k y (entries v k y) errno bars.2 may_replace

pub bar_stops : (limits : Limits) (v : Volume) (edit : Edit) (errno : Errno) → BarsEdit limits v edit errno → CanEdit limits v edit → ⊥
bar_stops limits v (create n d made x) DAMAGED is can = is (can.low, can.high, can.good, can.vacant)
bar_stops limits v (create n d made x) DIRFULL is can = is.1 can.takes
bar_stops limits v (link n d x) ENAMETOOLONG is can = is can.takes.name
bar_stops limits v (link n d x) EPERM is can = false≢true (sym is ∙ ap is_file_node can.file)
bar_stops limits v (link n d x) EMLINK (links, file, many) can =
    let few = can.few in
    let same : links ≡ can.links = same_links _ _ _ _ _ _ (sym file.2 ∙ can.file) in
    omega (arith, many, few, same)
bar_stops limits v (link n d x) DIRFULL is can = is.3 can.takes
bar_stops limits v (remove_name d x) ENOENT is can = none_some (sym is ∙ can.there)
bar_stops limits v (remove_name d x) ENOTEMPTY (n, there, filled) can = filled (subst (λ (k : ℕ). (y : Name) → entries v k y ≡ None) (same_some (sym can.there ∙ there)) can.empty)
bar_stops limits v (rename d x k y) ENAMETOOLONG is can = is can.name
bar_stops limits v (rename d x k y) ENOENT is can = none_some (sym is ∙ can.there)
bar_stops limits v (rename d x k y) errno (n, there, bars) can = move_stops limits v d x k y n there can errno bars
bar_stops limits v (write n offset bytes) EFBIG is can = is can
bar_stops limits v (truncate n size) EFBIG is can = is can
bar_stops limits v (set_file n mode size) EFBIG is can = is can
bar_stops limits v (change_attributes n permissions modified) DAMAGED is can = is can
bar_stops limits v _ _ is can = absurd is

-- the same of a record
pub obstacle_stops : (limits : Limits) (v : Volume) (change : Change) (errno : Errno) → IsObstacle limits v change errno → Applies limits v change → ⊥
obstacle_stops limits v change errno is applies = bar_stops limits v change.edit errno is applies.edit

-- ---- a move

-- what keeps an object from another one's name keeps it from a move
pub bars_replacing : (limits : Limits) (detail : Detail) (disk : ℕ → List ℕ) (settled : ℕ → Inode) (v : Volume) (d n m k : ℕ) (y : Name) (errno : Errno) → (IsBelow (entries v) n k → ⊥)
    → ReplacesBy detail disk settled v n m (Err errno) → BarsMove limits v d n k y (Some m) errno
bars_replacing limits detail disk settled v d n m k y EEXIST outside bars = ap (λ (j : ℕ). Some j) bars
bars_replacing limits detail disk settled v d n m k y EINVAL outside bars = absurd bars.1
bars_replacing limits detail disk settled v d n m k y _ outside bars = ((λ is. bars.0 (same_some is)), outside, bars.1)

pub bars_rename : (limits : Limits) (v : Volume) (d : ℕ) (x : Name) (n m k : ℕ) (y : Name) (errno : Errno) → entries v d x ≡ Some n → entries v k y ≡ Some m
    → BarsMove limits v d n k y (Some m) errno → BarsEdit limits v (rename d x k y) errno
bars_rename limits v d x n m k y ENAMETOOLONG there at bars = absurd bars.2
bars_rename limits v d x n m k y ENOENT there at bars = absurd bars.2
bars_rename limits v d x n m k y errno there at bars = (n, there, subst (λ (o : Option ℕ). BarsMove limits v d n k y o errno) (sym at) bars)

-- nothing has the new name where a move that passes the other tests doesn't apply
pub no_place : (limits : Limits) (detail : Detail) (disk : ℕ → List ℕ) (settled : ℕ → Inode) (v : Volume) (d : ℕ) (x : Name) (n k : ℕ) (y : Name) (step : Option ObjectUpdate) → Moves detail disk settled v d x n k y step → IsName y
    → (IsBelow (entries v) n k → ⊥) → d ≢ k → (CanRename limits v d x k y → ⊥) → BarsEdit limits v (rename d x k y) DIRFULL
no_place limits detail disk settled v d x n k y step moves name outside other never = (n, moves.there, by (entries v k y) step refl refl moves.replaces)
  where
    by : (o : Option ℕ) (s : Option ObjectUpdate) → entries v k y ≡ o → step ≡ s → Replaces detail disk settled v n o s → BarsMove limits v d n k y o DIRFULL
    by None None none is so =
        ((λ e. none_some e), outside, (other, λ takes. never (can_rename detail disk settled v d x n k y step moves limits takes.directory name outside (λ _. inr takes))))
    by None (Some s) none is so = absurd so
    by (Some m) None at is so = absurd so
    by (Some m) (Some s) at is so =
        absurd (never (can_rename detail disk settled v d x n k y step moves limits (enters_directory (v k) y m at) name outside (λ none. none_some (sym none ∙ is))))
