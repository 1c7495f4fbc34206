-- What the definitions say of moving a name whose tests pass, where the target can't take it.
use Rattle.std.proofs.Common.{◌≡◌, ◌≢◌, ℕ, List, [], ◌∷◌, ◌++◌, length, Bool, true, false, not, Option, Some, None, IsSome, refl, sym, ap, subst, ◌∙◌, arith}
use Rattle.std.proofs.lemmas.Bool.{false≢true, ne_eqb}
use Rattle.model.specs.declared.limits.Limits.{Limits}
use Rattle.model.specs.Changing.{moves, with_target}
use Rattle.model.specs.Edits.{marked, moved, number_at_path}
use Rattle.model.specs.Laws.{BelowIsByPaths}
use Rattle.model.specs.Outcomes.{Outcome, IsListing, changes_swept, either, tested, with_place}
use Rattle.model.specs.Paths.{Name, Path, IsName, is_empty, path_eq}
use Rattle.model.specs.Records.{IsBelow, IsEmpty, TakesName}
use Rattle.model.specs.Resolution.{missing, parent}
use Rattle.model.specs.Room.{adds_name, logs, nothing}
use Rattle.model.specs.Touches.{touches_move}
use Rattle.model.specs.Trees.{Tree, Object, Description, IsTree}
use Rattle.model.specs.Volumes.{Node, directory_node, file_node, link_node, Volume, entries, is_directory_node, number_at, names_in, object_at, object_of, tree_of, IsMounted, IsVolume}
use Rattle.model.specs.declared.errno.Errno.{Errno}
use Rattle.model.specs.declared.errno.Errno.TheVariants.{DIRFULL, EEXIST, EINVAL, EISDIR, ENOTDIR, ENOTEMPTY}
use Rattle.model.specs.declared.reply.Reply.{Reply}
use Rattle.model.specs.declared.reply.Reply.TheVariants.{Done, Refused}
use Rattle.model.specs.declared.time.Time.{Time}
use Rattle.model.proofs.LeadLemmas.{parent-push}
use Rattle.model.proofs.WalkLemmas.{same_path}
use Rattle.records.specs.Obstacles.{BarsMove, BarsReplacing, BarsTarget}
use Rattle.records.proofs.FileLaws.{same_some}
use Rattle.calls.proofs.GapLaws.{FindsGap, place_full}
use Rattle.calls.proofs.DirectoryLaws.{child_some, listing}
use Rattle.calls.proofs.RenameLaws.{at_q, passes_none, passes_some, past_tests, refused_below, refused_directory, refused_other, stands_q}

none_if : (o : Option ℕ) → (IsSome o → ⊥) → o ≡ None
none_if None nothing_there = refl
none_if (Some n) nothing_there = absurd (nothing_there refl)

module _ (limits : Limits) (now : Option Time) (v : Volume) (table : ℕ → Option Description) (volume : IsVolume limits v) (mounted : IsMounted v table) (tree : IsTree limits (tree_of v table)) where
  abbrev t : Tree
  t = tree_of v table

  -- a directory that isn't empty
  module _ (q : Path) (m : ℕ) (at : number_at (entries v) q ≡ Some m) (filled : IsEmpty v m → ⊥) (rest : Outcome) where
    not_empty : (names : List Name) → IsListing t q names → tested t ((not (is_empty names), ENOTEMPTY) ∷ []) rest (Refused ENOTEMPTY) t nothing
    not_empty [] lists =
        absurd (filled (λ y. none_if (entries v m y) (λ there.
        let is = (lists.whole y).1 ((child_some limits v table volume q m at y).1 there) in omega (arith, is.1))))
    not_empty (y ∷ names) lists =
        subst (λ (b : Bool). tested t ((b, ENOTEMPTY) ∷ []) rest (Refused ENOTEMPTY) t nothing)
        (sym (ap not_of (ne_eqb (length (y ∷ names)) 0 (λ (z : length (y ∷ names) ≡ 0). omega (arith, z))))) (refl, refl, refl)
      where
        not_of : Bool → Bool
        not_of b = not b

  module _ (front : Path) (d : ℕ) (x : Name) (n : ℕ) (at_old : number_at (entries v) front ≡ Some d) (edge : entries v d x ≡ Some n)
      (w : Path) (k : ℕ) (y : Name) (at_new : number_at (entries v) w ≡ Some k) (o : Object) (object : object_of n (v n) ≡ Some o)
      (law : BelowIsByPaths) (directory : is_directory_node (v k) ≡ true) (other : entries v k y ≢ Some n) where
    abbrev p : Path
    p = front ++ x ∷ []

    abbrev q : Path
    q = w ++ y ∷ []

    abbrev target : Option ℕ
    target = entries v k y

    abbrev rest : Outcome
    rest =
        changes_swept Done
        (marked now (touches_move (number_at_path t p) (number_at_path t q) (number_at_path t (parent p)) (number_at_path t (parent q))) (moved p q t))
        (logs adds_name)

    -- nothing has the name: its directory is full
    no_place : target ≡ None → d ≢ k → (TakesName limits v k y → ⊥) → IsName y → (a : Bool) → path_eq (parent p) (parent q) ≡ a → either a rest (with_place limits t (parent q) rest) (Refused DIRFULL) t nothing
    no_place is apart full name true same = absurd (apart (same_some (sym at_old ∙ ap (number_at (entries v)) one ∙ at_new)))
      where
        one : front ≡ w
        one = sym (parent-push front x) ∙ same_path (parent p) (parent q) same ∙ parent-push w y
    no_place is apart full name false differ =
        let gap : FindsGap limits v table volume mounted tree (missing w y) k y = record { path = w; is = refl; at = at_new; free = is; good = name; parent = directory } in
        subst (λ (a : Path). with_place limits t a rest (Refused DIRFULL) t nothing) (sym (parent-push w y))
        (place_full limits v table volume mounted tree k y (missing w y) gap rest full)

    -- something has it: it is a directory with names
    module _ (m : ℕ) (is : target ≡ Some m) (filled : IsEmpty v m → ⊥) where
      no_names : (a : Option Node) → is_directory_node a ≡ false → v m ≡ a → ⊥
      no_names a not_one at = filled (λ z. by (v m) (subst (λ (b : Option Node). is_directory_node b ≡ false) (sym at) not_one) z)
        where
          by : (b : Option Node) → is_directory_node b ≡ false → (z : Name) → names_in b z ≡ None
          by None is_not z = refl
          by (Some (directory_node attributes names)) is_not z = absurd (false≢true (sym is_not))
          by (Some (file_node attributes links bytes)) is_not z = refl
          by (Some (link_node attributes text)) is_not z = refl

      not_replaced : (a : Option Node) → IsSome a → v m ≡ a → with_target limits t p q (object_of m a) rest (Refused ENOTEMPTY) t nothing
      not_replaced None some at = absurd (false≢true some)
      not_replaced (Some (directory_node attributes names)) some at =
          let (count, counts, most) = volume.keeps.children m in
          let here = at_q limits now v table volume mounted tree front d x n at_old edge w k y at_new o object ∙ is in
          let (all, are, many) = listing limits v table volume mounted tree q m here count counts in
          (all, are, not_empty q m here filled rest all are)
      not_replaced (Some (file_node attributes links bytes)) some at = absurd (no_names (Some (file_node attributes links bytes)) refl at)
      not_replaced (Some (link_node attributes text)) some at = absurd (no_names (Some (link_node attributes text)) refl at)

    -- the target as it stands in the tree
    at_target : (a : Option ℕ) → target ≡ a → (reply : Reply) → with_target limits t p q (object_at v a) rest reply t nothing → with_target limits t p q (t.objects q) rest reply t nothing
    at_target a is reply done =
        subst (λ (b : Option Object). with_target limits t p q b rest reply t nothing)
        (sym (stands_q limits now v table volume mounted tree front d x n at_old edge w k y at_new o object ∙ ap (object_at v) is)) done

    -- what keeps the object from the name is what the move is refused by
    module _ (outside : IsBelow (entries v) n k → ⊥) where
      replacing_barred : (m : ℕ) → target ≡ Some m → (errno : Errno) → BarsReplacing v n m errno → moves limits now t p o q (Refused errno) t nothing
      replacing_barred m is ENOTDIR (one, isnt) = refused_directory limits now v table volume mounted tree front d x n at_old edge w k y at_new o object law directory other outside m is one isnt
      replacing_barred m is EISDIR (isnt, one) = refused_other limits now v table volume mounted tree front d x n at_old edge w k y at_new o object law directory other outside m is isnt one
      replacing_barred m is ENOTEMPTY (same, filled) =
          past_tests limits now v table volume mounted tree front d x n at_old edge w k y at_new o object law directory other
          (passes_some limits now v table volume mounted tree front d x n at_old edge w k y at_new o object law directory other outside m is same) (Refused ENOTEMPTY) t nothing
          (at_target (Some m) is (Refused ENOTEMPTY) (not_replaced m is filled (v m) (volume.graph.naming.used k m y is) refl))
      replacing_barred m is _ bars = absurd bars

      target_barred : IsName y → (a : Option ℕ) → target ≡ a → (errno : Errno) → BarsTarget limits v d n k y a errno → moves limits now t p o q (Refused errno) t nothing
      target_barred name (Some m) is errno bars = replacing_barred m is errno bars
      target_barred name None is DIRFULL (apart, full) =
          past_tests limits now v table volume mounted tree front d x n at_old edge w k y at_new o object law directory other
          (passes_none limits now v table volume mounted tree front d x n at_old edge w k y at_new o object law directory other outside is) (Refused DIRFULL) t nothing
          (at_target None is (Refused DIRFULL) (no_place is apart full name (path_eq (parent p) (parent q)) refl))
      target_barred name None is _ bars = absurd bars

    pub move_barred : IsName y → (errno : Errno) → BarsMove limits v d n k y target errno → moves limits now t p o q (Refused errno) t nothing
    move_barred name EEXIST bars = absurd (other bars)
    move_barred name EINVAL bars = refused_below limits now v table volume mounted tree front d x n at_old edge w k y at_new o object law directory other bars.1
    move_barred name errno bars = target_barred bars.1 name target refl errno bars.2
