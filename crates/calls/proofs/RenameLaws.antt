-- What the definitions say of moving a name over paths, by what was found in a volume.
use Rattle.std.proofs.Common.{append_assoc, ◌≡◌, ◌≢◌, ◌↔◌, inl, inr, ℕ, ◌<◌, ◌==◌, [], ◌∷◌, ◌++◌, length, Bool, true, false, not, ◌&&◌, ◌||◌, IsTrue, Option, Some, None, IsSome, is_some, refl, sym, ap, subst, ◌∙◌, arith}
use Rattle.std.specs.Prelude.{nat_le}
use Rattle.std.specs.Ordering.{nat_cmp}
use Rattle.std.specs.Cmp.Lexicographic.{slice_cmp}
use Rattle.std.specs.List.Sorted.{IsStrictlySortedBy}
use Rattle.std.proofs.lemmas.Bool.{cases_Bool, false≢true, lt-leb, ne_eqb}
use Rattle.std.proofs.lemmas.Bool.Decides.{nat_tests}
use Rattle.model.specs.declared.limits.Limits.{Limits}
use Rattle.model.specs.Changing.{is_same_file, move_tests, moves, with_target}
use Rattle.model.specs.Laws.{BelowIsByPaths}
use Rattle.model.specs.Changes.{ChangesBy}
use Rattle.model.specs.Edits.{marked, moved, number_at_path, IsSwept}
use Rattle.model.specs.Outcomes.{Outcome, answers, changes_swept, either, with_place}
use Rattle.model.specs.Paths.{Name, Path, Tests, behind, begins_with, first_refusal, path_eq}
use Rattle.model.specs.Records.{CanRename, CanReplace, IsBelow, TakesName, rename}
use Rattle.model.specs.Resolution.{parent}
use Rattle.model.specs.Room.{Need, adds_name, logs, nothing}
use Rattle.model.specs.Trees.{Tree, Object, Description, IsTree, is_directory, number_of_object}
use Rattle.model.specs.Trees as trees
use Rattle.model.specs.Touches.{touches_move}
use Rattle.model.specs.Volumes.{Node, directory_node, file_node, link_node, Volume, enter, entries, is_directory_node, number_at, object_at, object_of, tree_of, IsMounted, IsVolume}
use Rattle.model.specs.declared.errno.Errno.{Errno}
use Rattle.model.specs.declared.errno.Errno.TheVariants.{ENOTDIR, EISDIR, EINVAL, DIRFULL}
use Rattle.model.specs.declared.reply.Reply.{Reply}
use Rattle.model.specs.declared.reply.Reply.TheVariants.{Done, Refused}
use Rattle.model.specs.declared.time.Time.{Time}
use Rattle.model.proofs.KeptLemmas.{is_apart}
use Rattle.model.proofs.LeadLemmas.{parent-push}
use Rattle.model.proofs.VolumeLemmas.{directory_no_file, enters_directory}
use Rattle.model.proofs.WalkLemmas.{behind-append, behind-is, number_at-push, path_eq-same, same_path}
use Rattle.calls.proofs.DirectoryLaws.{child_some, listing}
use Rattle.calls.proofs.MarkLaws.{parent_number}
use Rattle.calls.proofs.TestedLaws.{tested_none, tested_some}
use Rattle.calls.proofs.RenameTests.{above_directory}
use Rattle.model.proofs.ObjectLaws.{directory_object, directory_of, node_object, object_number}
use Rattle.model.proofs.OptionLaws.{none_some}

-- ---- numbers and objects

eqb_same : (n : ℕ) → (n == n) ≡ true
eqb_same n = grind (arith, nat_tests)

-- files of two numbers are two
not_same_file : (o : Object) (m : ℕ) (node : Option Node) → m ≢ number_of_object o → is_same_file o (object_of m node) ≡ false
not_same_file (trees.directory n) m found other = refl
not_same_file (trees.symlink n text) m found other = refl
not_same_file (trees.file n) m None other = refl
not_same_file (trees.file n) m (Some (directory_node attributes names)) other = refl
not_same_file (trees.file n) m (Some (file_node attributes links bytes)) other = ne_eqb n m (λ e. other (sym e))
not_same_file (trees.file n) m (Some (link_node attributes text)) other = refl

none_sorted : IsStrictlySortedBy (slice_cmp nat_cmp) []
unfolding IsStrictlySortedBy
none_sorted = tt

-- ---- tests

-- the tests of a move, by what they ask
abbrev pub tests_of : Bool → Bool → Bool → Bool → Tests
tests_of is below some kind = (is && below, EINVAL) ∷ (is && some && not kind, ENOTDIR) ∷ (not is && kind, EISDIR) ∷ []

no_kinds : (is : Bool) → first_refusal (tests_of is false false false) ≡ None
no_kinds true = refl
no_kinds false = refl

same_kinds : (is : Bool) → first_refusal (tests_of is false true is) ≡ None
same_kinds true = refl
same_kinds false = refl

-- ---- paths

-- what a path begins with that goes on by a name, but for itself
begins_more : (w p : Path) (y : Name) → p ≢ w ++ y ∷ [] → begins_with (w ++ y ∷ []) p ≡ begins_with w p
begins_more w p y other = by (behind p w) refl (behind p (w ++ y ∷ [])) refl
  where
    by : (a : Option Path) → behind p w ≡ a → (b : Option Path) → behind p (w ++ y ∷ []) ≡ b → is_some (behind p (w ++ y ∷ [])) ≡ is_some (behind p w)
    by (Some u) is (Some z) more = ap is_some more ∙ sym (ap is_some is)
    by None is None more = ap is_some more ∙ sym (ap is_some is)
    by None is (Some z) more = absurd (is_apart p w y is other z (sym (behind-is p (w ++ y ∷ []) z more)))
    by (Some u) is None more =
        let longer : w ++ y ∷ [] ≡ p ++ (u ++ y ∷ []) = ap (λ (r : Path). r ++ y ∷ []) (behind-is p w u is) ∙ append_assoc p u (y ∷ []) in
        let some : behind p (w ++ y ∷ []) ≡ Some (u ++ y ∷ []) = ap (behind p) longer ∙ behind-append p (u ++ y ∷ []) in
        none_some (sym more ∙ some)

pub not_either : (this that : Outcome) (a : Bool) → a ≡ false → (reply : Reply) (new : Tree) (need : Need) → that reply new need → either a this that reply new need
not_either this that true is reply new need done = absurd (false≢true (sym is))
not_either this that false is reply new need done = done

module _ (limits : Limits) (now : Option Time) (v : Volume) (table : ℕ → Option Description) (volume : IsVolume limits v) (mounted : IsMounted v table) (tree : IsTree limits (tree_of v table)) where
  abbrev t : Tree
  t = tree_of v table

  -- the object n stands at the name x of the directory at p, and another name goes to the directory at w
  module _ (front : Path) (d : ℕ) (x : Name) (n : ℕ) (at_old : number_at (entries v) front ≡ Some d) (edge : entries v d x ≡ Some n)
      (w : Path) (k : ℕ) (y : Name) (at_new : number_at (entries v) w ≡ Some k) (o : Object) (object : object_of n (v n) ≡ Some o) where
    abbrev p : Path
    p = front ++ x ∷ []

    abbrev q : Path
    q = w ++ y ∷ []

    abbrev target : Option ℕ
    target = entries v k y

    at_p : number_at (entries v) p ≡ Some n
    at_p = number_at-push (entries v) front x ∙ ap (λ (a : Option ℕ). enter (entries v) a x) at_old ∙ edge

    pub at_q : number_at (entries v) q ≡ target
    at_q = number_at-push (entries v) w y ∙ ap (λ (a : Option ℕ). enter (entries v) a y) at_new

    stands_p : t.objects p ≡ Some o
    stands_p = ap (object_at v) at_p ∙ object

    pub stands_q : t.objects q ≡ object_at v target
    stands_q = ap (object_at v) at_q

    number_is : number_of_object o ≡ n
    number_is = object_number n (v n) o object

    -- nothing changes where the object has the name already, or another one of the same file
    pub same_there : target ≡ Some n → (path_eq p q || is_same_file o (t.objects q)) ≡ true
    same_there is =
        let there : t.objects q ≡ Some o = stands_q ∙ ap (object_at v) is ∙ object in
        elim (tree.single p q o o stands_p there refl) [
          | inl same ↦ either_first (path_eq p q) (is_same_file o (t.objects q)) (ap (path_eq p) (sym same) ∙ path_eq-same p)
          | inr file ↦ either_last (path_eq p q) (is_same_file o (t.objects q))
              (ap (is_same_file o) there ∙ ap (λ (a : Object). is_same_file a (Some a)) file.0 ∙ eqb_same (number_of_object o))
        ]
      where
        either_first : (a b : Bool) → a ≡ true → (a || b) ≡ true
        either_first true b is = refl
        either_first false b is = absurd (false≢true is)

        either_last : (a b : Bool) → b ≡ true → (a || b) ≡ true
        either_last true b is = refl
        either_last false b is = is

    pub paths_differ : target ≢ Some n → p ≢ q
    paths_differ other same = other (sym at_q ∙ ap (number_at (entries v)) (sym same) ∙ at_p)

    pub other_there : target ≢ Some n → (path_eq p q || is_same_file o (t.objects q)) ≡ false
    other_there other =
        neither (path_eq p q) (is_same_file o (t.objects q))
        (elim (cases_Bool (path_eq p q)) [ inl same ↦ absurd (paths_differ other (same_path p q same)) | inr differ ↦ differ ])
        (ap (is_same_file o) stands_q ∙ by target other)
      where
        neither : (a b : Bool) → a ≡ false → b ≡ false → (a || b) ≡ false
        neither true b is also = absurd (false≢true (sym is))
        neither false b is also = also

        no_file : (a : Object) → is_same_file a None ≡ false
        no_file (trees.directory j) = refl
        no_file (trees.symlink j text) = refl
        no_file (trees.file j) = refl

        by : (a : Option ℕ) → a ≢ Some n → is_same_file o (object_at v a) ≡ false
        by None differ = no_file o
        by (Some m) differ = not_same_file o m (v m) (λ e. differ (ap (λ j. Some j) (e ∙ number_is)))

    -- ---- tests

    kind_is : is_directory (Some o) ≡ is_directory_node (v n)
    kind_is = ap is_directory (sym object) ∙ directory_of n (v n)

    -- what stands at the new name
    module _ (m : ℕ) (is : target ≡ Some m) where
      there_at : t.objects q ≡ object_of m (v m)
      there_at = stands_q ∙ ap (object_at v) is

      some_at : is_some (t.objects q) ≡ true
      some_at = ap is_some there_at ∙ node_object m (v m) (volume.graph.naming.used k m y is)

      kind_at : is_directory (t.objects q) ≡ is_directory_node (v m)
      kind_at = ap is_directory there_at ∙ directory_of m (v m)

    -- the directory of the new name lies below the object just where its path does
    module _ (law : BelowIsByPaths) (directory : is_directory_node (v k) ≡ true) (other : target ≢ Some n) where
      below_paths : IsBelow (entries v) n k ↔ IsTrue (begins_with w p)
      below_paths = law limits v p w n k volume at_p at_new (directory_no_file (v k) directory)

      outside_paths : (IsBelow (entries v) n k → ⊥) → begins_with w p ≡ false
      outside_paths never = elim (cases_Bool (begins_with w p)) [ inl begins ↦ absurd (never (below_paths.1 begins)) | inr none ↦ none ]

      abbrev refusal : Option Errno
      refusal = first_refusal (move_tests p o q (t.objects q))

      tests_are : (is below some kind : Bool) → is_directory_node (v n) ≡ is → begins_with w p ≡ below → is_some (t.objects q) ≡ some → is_directory (t.objects q) ≡ kind
          → refusal ≡ first_refusal (tests_of is below some kind)
      tests_are is below some kind first second third last =
          ap (λ (a : Bool). first_refusal (tests_of a (begins_with q p) (is_some (t.objects q)) (is_directory (t.objects q)))) (kind_is ∙ first)
          ∙ ap (λ (a : Bool). first_refusal (tests_of is a (is_some (t.objects q)) (is_directory (t.objects q)))) (begins_more w p y (paths_differ other) ∙ second)
          ∙ ap (λ (a : Bool). first_refusal (tests_of is below a (is_directory (t.objects q)))) third
          ∙ ap (λ (a : Bool). first_refusal (tests_of is below some a)) last

      -- they pass
      pub passes_none : (IsBelow (entries v) n k → ⊥) → target ≡ None → refusal ≡ None
      passes_none never is =
          let none = stands_q ∙ ap (object_at v) is in
          tests_are (is_directory_node (v n)) false false false refl (outside_paths never) (ap is_some none) (ap is_directory none) ∙ no_kinds (is_directory_node (v n))

      pub passes_some : (IsBelow (entries v) n k → ⊥) → (m : ℕ) → target ≡ Some m → is_directory_node (v m) ≡ is_directory_node (v n) → refusal ≡ None
      passes_some never m is same =
          tests_are (is_directory_node (v n)) false true (is_directory_node (v n)) refl (outside_paths never) (some_at m is) (kind_at m is ∙ same) ∙ same_kinds (is_directory_node (v n))

      -- ---- what a move comes to

      abbrev outcome : Outcome
      outcome = moves limits now t p o q

      -- the tree that a move leaves, but for what is swept, by what the two directories are
      abbrev left_at : Path → Path → Option ℕ → Option ℕ → Tree
      left_at a b m j =
          marked now (touches_move (number_at_path t (a ++ x ∷ [])) (number_at_path t (b ++ y ∷ [])) m j) (moved (a ++ x ∷ []) (b ++ y ∷ []) t)

      abbrev left : Tree
      left = left_at front w (number_at_path t (parent p)) (number_at_path t (parent q))

      first_refused : (errno : Errno) → refusal ≡ Some errno → outcome (Refused errno) t nothing
      first_refused errno is =
          not_either _ _ (path_eq p q || is_same_file o (t.objects q)) (other_there other) (Refused errno) t nothing
          (tested_some t (move_tests p o q (t.objects q)) _ errno is)

      -- the directory would come below itself
      pub refused_below : IsBelow (entries v) n k → outcome (Refused EINVAL) t nothing
      refused_below below =
          first_refused EINVAL
          (tests_are true true (is_some (t.objects q)) (is_directory (t.objects q)) (above_directory v n k below.0 below.1 directory) (below_paths.0 below) refl refl)

      module _ (outside : IsBelow (entries v) n k → ⊥) where
        -- only one is a directory
        pub refused_directory : (m : ℕ) → target ≡ Some m → is_directory_node (v n) ≡ true → is_directory_node (v m) ≡ false → outcome (Refused ENOTDIR) t nothing
        refused_directory m is one not = first_refused ENOTDIR (tests_are true false true false one (outside_paths outside) (some_at m is) (kind_at m is ∙ not))

        pub refused_other : (m : ℕ) → target ≡ Some m → is_directory_node (v n) ≡ false → is_directory_node (v m) ≡ true → outcome (Refused EISDIR) t nothing
        refused_other m is not one = first_refused EISDIR (tests_are false false true true not (outside_paths outside) (some_at m is) (kind_at m is ∙ one))

      -- the target decides where the tests pass
      pub past_tests : refusal ≡ None → (reply : Reply) (new : Tree) (need : Need)
          → with_target limits t p q (t.objects q) (changes_swept Done left (logs adds_name)) reply new need → outcome reply new need
      past_tests passed reply new need done =
          not_either _ _ (path_eq p q || is_same_file o (t.objects q)) (other_there other) reply new need
          (tested_none t (move_tests p o q (t.objects q)) _ reply new need passed done)

      -- the record, where it applies, does what the call does
      module _ (can : CanRename limits v d x k y) where
        emptied : (m : ℕ) (z : Name) → entries v k y ≡ Some m → entries v m z ≡ None
        emptied m z is = (subst (λ (a : Option ℕ). CanReplace limits v d k y can.number a) is can.replaces).2 z

        old_stands : t.objects front ≡ Some (trees.directory d)
        old_stands = ap (object_at v) at_old ∙ directory_object d (v d) (enters_directory (v d) x n edge)

        new_stands : t.objects w ≡ Some (trees.directory k)
        new_stands = ap (object_at v) at_new ∙ directory_object k (v k) directory

        -- a directory stands at one path alone
        one_path : (a b : Path) (j : ℕ) → t.objects a ≡ Some (trees.directory j) → t.objects b ≡ Some (trees.directory j) → a ≡ b
        one_path a b j here there = elim (tree.single a b (trees.directory j) (trees.directory j) here there refl) [ inl one ↦ one | inr file ↦ no_file file.0 ]
          where
            no_file : {X : Type 0} → trees.directory j ≡ trees.file j → X
            no_file e = cc

        -- where its target can take it
        pub move_done : refusal ≡ None → (after : Tree) → ChangesBy now (rename d x k y) t after
            → ((rest : Outcome) → rest Done after (logs adds_name) → with_target limits t p q (t.objects q) rest Done after (logs adds_name))
            → outcome Done after (logs adds_name)
        move_done passed after (a, b, stands_a, stands_b, is) takes = past_tests passed Done after (logs adds_name) (takes (changes_swept Done left (logs adds_name)) (refl, swept_so, refl))
          where
            swept_so : IsSwept left after
            swept_so =
                subst (λ (j : Option ℕ). IsSwept (left_at front w (number_at_path t (parent p)) j) after) (sym (parent_number t w y k new_stands))
                (subst (λ (m : Option ℕ). IsSwept (left_at front w m (Some k)) after) (sym (parent_number t front x d old_stands))
                (subst (λ (g : Path). IsSwept (left_at front g (Some d) (Some k)) after) (one_path b w k stands_b new_stands)
                (subst (λ (f : Path). IsSwept (left_at f b (Some d) (Some k)) after) (one_path a front d stands_a old_stands) is)))

        -- its target can take it
        pub target_takes : (rest : Outcome) (reply : Reply) (new : Tree) (need : Need) → rest reply new need → with_target limits t p q (t.objects q) rest reply new need
        target_takes rest reply new need done =
            subst (λ (a : Option Object). with_target limits t p q a rest reply new need) (sym stands_q) (by target refl)
          where
            at_node : (m : ℕ) (a : Option Node) → IsSome a → v m ≡ a → target ≡ Some m → with_target limits t p q (object_of m a) rest reply new need
            at_node m None some is at = absurd (false≢true some)
            at_node m (Some (directory_node attributes names)) some is at = (
              [],
              record {
                sorted = none_sorted;
                whole = λ z. (
                  λ there. absurd (omega (arith, there.1)),
                  λ there. absurd (false≢true (subst (λ (a : Option ℕ). IsSome a) (emptied m z at) ((child_some limits v table volume q m (at_q ∙ at) z).0 there))),
                );
              },
              done,
            )
            at_node m (Some (file_node attributes links bytes)) some is at = done
            at_node m (Some (link_node attributes text)) some is at = done

            free : CanReplace limits v d k y can.number None → with_target limits t p q None rest reply new need
            free may = place (path_eq (parent p) (parent q)) refl
              where
                place : (a : Bool) → path_eq (parent p) (parent q) ≡ a → either a rest (with_place limits t (parent q) rest) reply new need
                place true is = done
                place false is = elim may [
                  | inl same ↦ absurd (false≢true (sym is ∙ same_parents same))
                  | inr takes ↦ with_room takes
                ]
                  where
                    same_parents : d ≡ k → path_eq (parent p) (parent q) ≡ true
                    same_parents same =
                        ap (λ (a : Path). path_eq a (parent q)) (parent-push front x)
                        ∙ ap (path_eq front) (parent-push w y)
                        ∙ elim (tree.single front w (trees.directory d) (trees.directory k) old_stands new_stands same) [
                          | inl one ↦ ap (path_eq front) (sym one) ∙ path_eq-same front
                          | inr file ↦ no_file file.0
                        ]
                      where
                        no_file : {X : Type 0} → trees.directory d ≡ trees.file d → X
                        no_file e = cc

                    with_room : TakesName limits v k y → with_place limits t (parent q) rest reply new need
                    with_room takes =
                        let (names, are, many) = listing limits v table volume mounted tree w k at_new takes.count takes.counts in
                        subst (λ (a : Path). with_place limits t a rest reply new need) (sym (parent-push w y)) (
                          names,
                          are,
                          tested_none t ((nat_le limits.directory_names (length names), DIRFULL) ∷ []) rest reply new need
                              (ap (λ (b : Bool). first_refusal ((b, DIRFULL) ∷ [])) (lt-leb limits.directory_names (length names) (subst (λ (j : ℕ). j < limits.directory_names) (sym many) takes.room)))
                              done,
                        )

            by : (a : Option ℕ) → target ≡ a → with_target limits t p q (object_at v a) rest reply new need
            by None is = free (subst (CanReplace limits v d k y can.number) is can.replaces)
            by (Some m) is = at_node m (v m) (volume.graph.naming.used k m y is) refl is

    pub move_stays : target ≡ Some n → moves limits now t p o q Done t nothing
    move_stays is = by _ (path_eq p q || is_same_file o (t.objects q)) (same_there is)
      where
        by : (that : Outcome) (a : Bool) → a ≡ true → either a (answers t Done) that Done t nothing
        by that true same = (refl, refl, refl)
        by that false same = absurd (false≢true same)
