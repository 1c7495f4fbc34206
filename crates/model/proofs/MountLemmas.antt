-- What a mount finds: the replayed volume without files that have no name.
use Rattle.std.proofs.Common.{◌≡◌, inl, inr, ℕ, [], ◌∷◌, false, Option, None, refl, sym, ap, subst}
use Rattle.model.specs.Trees.{Description, HasPath, IsUsed}
use Rattle.model.specs.States.{ForgetsOpenFiles}
use Rattle.model.specs.Volumes.{Volume, attributes_of, bytes_of_node, tree_of, IsVolume}
use Rattle.model.specs.Records.{applied, without_orphans}
use Rattle.model.specs.Laws.{ReplaysKeepVolumes, MountsFind, MountsForget}
use Rattle.model.proofs.SweepLemmas.{objects-swept, used_stays, not_unused, none_from}
use Rattle.model.proofs.ExtendLemmas.{same_in_the_end}
use Rattle.model.proofs.RecordLemmas.{swept_twice}
use Rattle.model.proofs.MarkLemmas.{records_keep_volumes}
use Rattle.model.proofs.MoveLemmas.{volume-swept}
use Rattle.model.proofs.OptionLaws.{none_some}

pub replays_keep_volumes : ReplaysKeepVolumes
replays_keep_volumes limits v [] w volume replays = subst (IsVolume limits) (sym replays) volume
replays_keep_volumes limits v (change ∷ changes) w volume replays =
    replays_keep_volumes limits (applied change v) changes w (records_keep_volumes limits v change volume replays.0) replays.1

abbrev closed : ℕ → Option Description
closed d = None

pub mounts_find : MountsFind
mounts_find limits w volume = (
  volume-swept limits w closed volume,
  record {
    files = λ d f is. none_some is;
    is_swept = λ n. swept_twice false (w n);
    bounded = λ d past. refl;
    offsets = λ d f is. none_some is;
  },
)

-- what is used where no file is open stands at a path
path_of_used : (v : Volume) (n : ℕ) → IsUsed (tree_of v closed) n → HasPath (tree_of v closed) n
path_of_used v n (inl there) = there
path_of_used v n (inr (d, f, is, same)) = none_some is

pub mounts_forget : MountsForget
mounts_forget limits running replayed table volume extends =
    subst (λ (w : Volume). ForgetsOpenFiles (tree_of running table) (tree_of w closed)) (sym (same_in_the_end running replayed extends))
    record {
      objects = objects-swept running volume.graph closed (λ d past. refl);
      descriptors = refl;
      kept = λ n there.
          let same : without_orphans running n ≡ running n = used_stays running volume.graph closed (λ d past. refl) n (inl there) in
          (ap bytes_of_node same, ap attributes_of same);
      gone = λ n nowhere.
          let none : without_orphans running n ≡ None = none_from (without_orphans running n) (λ stays. nowhere (path_of_used running n (not_unused running volume.graph closed (λ d past. refl) n stays))) in
          (ap bytes_of_node none, ap attributes_of none);
    }
