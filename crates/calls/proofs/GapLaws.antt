-- A name that a path leads to, and that its directory doesn't have.
use Rattle.std.proofs.Common.{◌≡◌, inl, inr, ℕ, ◌<◌, ◌≤◌, List, [], ◌∷◌, length, Bool, true, false, Option, Some, None, IsSome, refl, sym, ap, subst, ◌∙◌}
use Rattle.std.specs.Prelude.{nat_le}
use Rattle.std.proofs.lemmas.Bool.{cases_lt, lt-leb, le-leb}
use Rattle.model.specs.declared.limits.Limits.{Limits}
use Rattle.model.specs.Counting.{Counts}
use Rattle.model.specs.Finding.{at_missing, here, IsPlaceAt}
use Rattle.model.specs.Outcomes.{Outcome, tested, with_place}
use Rattle.model.specs.Paths.{Name, Path, IsName}
use Rattle.model.specs.Records.{TakesName}
use Rattle.model.specs.Resolution.{Resolution, named, missing, refused}
use Rattle.model.specs.Room.{Need, nothing}
use Rattle.model.specs.Trees.{Tree, Description, IsTree, is_directory}
use Rattle.model.specs.Trees as trees
use Rattle.model.specs.Volumes.{Volume, entries, number_at, object_at, is_directory_node, tree_of, IsMounted, IsVolume}
use Rattle.model.specs.declared.errno.Errno.TheVariants.{DIRFULL}
use Rattle.model.specs.declared.reply.Reply.{Reply}
use Rattle.model.specs.declared.reply.Reply.TheVariants.{Refused}
use Rattle.model.proofs.LeadLemmas.{AnswersWell}
use Rattle.calls.proofs.DirectoryLaws.{listing}
use Rattle.model.proofs.ObjectLaws.{directory_object, directory_of}

module _ (limits : Limits) (v : Volume) (table : ℕ → Option Description) (volume : IsVolume limits v) (mounted : IsMounted v table) (tree : IsTree limits (tree_of v table)) where
  abbrev t : Tree
  t = tree_of v table

  pub record FindsGap (r : Resolution) (d : ℕ) (x : Name) : Type 0 where
    pub path : Path
    pub is : r ≡ missing path x
    pub at : number_at (entries v) path ≡ Some d
    pub free : entries v d x ≡ None
    pub good : IsName x
    pub parent : is_directory_node (v d) ≡ true

  pub finds_gap : (trail : List ℕ) (x : Name) (r : Resolution) → AnswersWell t r → IsPlaceAt v (at_missing trail x) r → FindsGap r (here trail) x
  finds_gap trail x (named p) well is = absurd is
  finds_gap trail x (refused errno) well is = absurd is
  finds_gap trail x (missing p y) well is =
      record {
        path = p;
        is = ap (missing p) is.1;
        at = is.0;
        free = is.2;
        good = subst IsName is.1 well.good;
        parent = sym (directory_of (here trail) (v (here trail))) ∙ ap (λ o. is_directory (object_at v o)) (sym is.0) ∙ well.directory;
      }

  module _ (d : ℕ) (x : Name) (r : Resolution) (gap : FindsGap r d x) where
    pub gap_parent : t.objects gap.path ≡ Some (trees.directory d)
    gap_parent = ap (object_at v) gap.at ∙ directory_object d (v d) gap.parent

    gap_takes : (count : ℕ) → Counts (λ y. IsSome (entries v d y)) count → count < limits.directory_names → TakesName limits v d x
    gap_takes count counts room = record {
      directory = gap.parent;
      missing = gap.free;
      name = gap.good;
      count = count;
      counts = counts;
      room = room;
    }

    -- a directory that doesn't take the name is full
    pub place_full : (rest : Outcome) → (TakesName limits v d x → ⊥) → with_place limits t gap.path rest (Refused DIRFULL) t nothing
    place_full rest not =
        let (count, counts, most) = volume.keeps.children d in
        let (names, are, many) = listing limits v table volume mounted tree gap.path d gap.at count counts in
        let full : nat_le limits.directory_names (length names) ≡ true =
        le-leb limits.directory_names (length names) (elim (cases_lt count limits.directory_names) [
          | inl below ↦ absurd (not (gap_takes count counts below))
          | inr beyond ↦ subst (λ (n : ℕ). limits.directory_names ≤ n) (sym many) beyond
        ]) in
        (names, are, subst (λ (b : Bool). tested t ((b, DIRFULL) ∷ []) rest (Refused DIRFULL) t nothing) (sym full) (refl, refl, refl))

    -- one that takes it has room
    pub place_free : TakesName limits v d x → (rest : Outcome) (reply : Reply) (new : Tree) (need : Need) → rest reply new need → with_place limits t gap.path rest reply new need
    place_free can rest reply new need done =
        let (names, are, many) = listing limits v table volume mounted tree gap.path d gap.at can.count can.counts in
        let free : nat_le limits.directory_names (length names) ≡ false =
        lt-leb limits.directory_names (length names) (subst (λ (n : ℕ). n < limits.directory_names) (sym many) can.room) in
        (names, are, subst (λ (b : Bool). tested t ((b, DIRFULL) ∷ []) rest reply new need) (sym free) done)
