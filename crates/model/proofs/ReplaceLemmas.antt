-- `rename` leaves a tree.
use Rattle.std.proofs.Common.{◌≡◌, ◌≢◌, ◌⊎◌, inl, inr, ℕ, ◌<◌, List, [], ◌∷◌, ◌++◌, length, Bool, true, false, not, ◌&&◌, ◌||◌, is_some, IsSome, Option, Some, None, refl, sym, ap, subst, ◌∙◌, append_assoc, append-nil, arith}
use Rattle.std.proofs.lemmas.Bool.{or_parts, false≢true}
use Rattle.std.proofs.lemmas.List.{same_from_push}
use Rattle.std.proofs.lemmas.List.Elements.{recursion_from_All}
use Rattle.model.specs.declared.limits.Limits.{Limits}
use Rattle.model.specs.declared.errno.Errno.TheVariants.{EBUSY, ENOTEMPTY, EEXIST}
use Rattle.model.specs.declared.reply.Reply.TheVariants as reply
use Rattle.model.specs.Counting.{Counts}
use Rattle.model.specs.Paths.{Name, Path, IsName, new_text_tests, is_empty, is_root_text, behind, begins_with, path_eq}
use Rattle.model.specs.Trees.{Tree, Object, directory, symlink, file, is_directory, IsTree}
use Rattle.model.specs.declared.time.Time.{Time}
use Rattle.model.specs.Attributes.{KeepsTime}
use Rattle.model.specs.Touches.{Touches}
use Rattle.model.specs.Edits.{without_object, marked, moved}
use Rattle.model.specs.Resolution.{parent}
use Rattle.model.specs.Room.{logs, adds_name}
use Rattle.model.specs.Outcomes.{changes_swept, IsListing}
use Rattle.model.specs.Changing as changing
use Rattle.model.proofs.CountLemmas.{same_count, one_less}
use Rattle.model.proofs.ListingLemmas.{names_apart, listing_counts}
use Rattle.model.proofs.WalkLemmas.{behind-is, path_eq-same, same_path, not_push}
use Rattle.model.proofs.VolumeLemmas.{ends}
use Rattle.model.proofs.LeadLemmas.{directory_some, all_passed, passed_both, not_alone, push_filled, reached_below_root, reached_well, parent-push, stands_in}
use Rattle.model.proofs.LooseLemmas.{IsLooseTree, tree_is_loose}
use Rattle.model.proofs.TreeMarkLemmas.{marked_is_loose}
use Rattle.model.proofs.PlaceLemmas.{put-here, put-other, no_more}
use Rattle.model.proofs.TakeLemmas.{taken_is_loose}
use Rattle.model.proofs.RelocateLemmas.{moved_is_loose, moved_over, all_behind}
use Rattle.model.proofs.StayLemmas.{LeavesTree, stays_same, stays_swept, stays_tested, stays_passed, stays_either, stays_leads, stays_leads_to, stays_along, stays_names, stays_place}
use Rattle.model.proofs.CallLemmas.{last_tests, no_names, no_directory, low_by}

module _ (limits : Limits) (t : Tree) (tree : IsTree limits t) where
  -- above a directory there are directories
  within : (p s w : Path) → p ++ s ≡ w → is_directory (t.objects w) ≡ true → is_directory (t.objects p) ≡ true
  within p [] w e stands = ap is_directory (ap t.objects (sym (append-nil p) ∙ e)) ∙ stands
  within p (x ∷ s) w e stands = tree.above p (x ∷ s) (no_more x s) (subst (λ r. IsSome (t.objects r)) (sym e) (directory_some (t.objects w) stands))

  -- what moves to a path is outside of it
  outside_itself : (p : Path) (o : Object) (q w : Path) (b : Name) → t.objects p ≡ Some o → q ≡ w ++ b ∷ [] → is_directory (t.objects w) ≡ true → path_eq p q ≡ false → (is_directory (Some o) && begins_with q p) ≡ false → behind p q ≡ None
  outside_itself p o q w b at_p is_q stands other apart = by (behind p q) refl
    where
      by_kind : (s : Path) → behind p q ≡ Some s → (k : Bool) → is_directory (Some o) ≡ k → behind p q ≡ None
      by_kind s e true kind = absurd (false≢true (sym apart ∙ ap (λ c. c && begins_with q p) kind ∙ ap is_some e))
      by_kind s e false kind = elim (ends s) [
        | inl empty ↦
            let same : q ≡ p = behind-is p q s e ∙ ap (λ r. p ++ r) empty ∙ append-nil p in
            absurd (false≢true (sym other ∙ ap (path_eq p) same ∙ path_eq-same p))
        | inr (v, x, is_s) ↦
            let up : p ++ v ≡ w = (same_from_push (p ++ v) w x b (append_assoc p v (x ∷ []) ∙ ap (λ r. p ++ r) (sym is_s) ∙ sym (behind-is p q s e) ∙ is_q)).0 in
            absurd (false≢true (sym kind ∙ ap is_directory (sym at_p) ∙ within p v w up stands))
      ]

      by : (c : Option Path) → behind p q ≡ c → behind p q ≡ None
      by None e = e
      by (Some s) e = by_kind s e (is_directory (Some o)) refl

  -- from the name a in the directory at u to the name b in the directory at w
  module _ (u w : Path) (a b : Name) (o : Object) (at_p : t.objects (u ++ a ∷ []) ≡ Some o) (stands : is_directory (t.objects w) ≡ true) (good : IsName b) (apart : behind (u ++ a ∷ []) (w ++ b ∷ []) ≡ None) where
    abbrev p : Path
    p = u ++ a ∷ []

    abbrev q : Path
    q = w ++ b ∷ []

    to_nothing : t.objects q ≡ None → (u ≢ w → (count : ℕ) × Counts (λ x. IsSome (t.objects (w ++ x ∷ []))) count × (count < limits.directory_names)) → IsLooseTree limits (moved p q t)
    to_nothing vacant room = moved_is_loose limits t (tree_is_loose limits t tree) u w a b o at_p vacant stands good apart room

    -- in place of something
    over_something : (r : Object) → t.objects q ≡ Some r → ((x : Name) → t.objects (q ++ x ∷ []) ≡ None) → p ≢ q → IsLooseTree limits (moved p q t)
    over_something r at_q leaf other =
        let less : Tree = without_object q t in
        let counts = tree.children w stands in
        let fewer = one_less (λ x. IsSome (t.objects (w ++ x ∷ []))) b counts.0 names_apart (ap is_some at_q) counts.1 in
        let each : (x : Name) → x ≢ b → less.objects (w ++ x ∷ []) ≡ t.objects (w ++ x ∷ []) = λ x apart_x. put-other q (w ++ x ∷ []) None t.objects (λ e. apart_x (same_from_push w w x b e).1) in
        subst (IsLooseTree limits) (moved_over t p q apart)
        (moved_is_loose limits less (taken_is_loose limits t tree q r at_q (push_filled w b) leaf) u w a b o
        (put-other q p None t.objects other ∙ at_p)
        (put-here q None t.objects)
        (ap is_directory (put-other q w None t.objects (not_push w b)) ∙ stands)
        good apart
        (λ others. (
          fewer.0,
          same_count (λ x. IsSome (t.objects (w ++ x ∷ [])) × (x ≢ b)) (λ x. IsSome (less.objects (w ++ x ∷ []))) fewer.0 (λ x. (
            (λ (there, apart_x). ap is_some (each x apart_x) ∙ there),
            (λ there.
                let apart_x : x ≢ b = λ e. false≢true (sym (ap is_some (ap (λ y. less.objects (w ++ y ∷ [])) e ∙ put-here q None t.objects)) ∙ there) in
                (ap is_some (sym (each x apart_x)) ∙ there, apart_x)),
          )) fewer.2,
          omega (arith, fewer.1, counts.2),
        )))

  -- at a time that the file system may keep
  module _ (now : Option Time) (timed : KeepsTime limits.has_attributes now) where
    marks : (touches : Touches) (u : Tree) → IsLooseTree limits u → IsLooseTree limits (marked now touches u)
    marks touches u = marked_is_loose limits now timed touches u

    stays_target : (touches : Touches) (u w : Path) (a b : Name) (o : Object) → t.objects (u ++ a ∷ []) ≡ Some o → is_directory (t.objects w) ≡ true → IsName b → behind (u ++ a ∷ []) (w ++ b ∷ []) ≡ None → u ++ a ∷ [] ≢ w ++ b ∷ [] → (r : Option Object) → t.objects (w ++ b ∷ []) ≡ r → LeavesTree limits (changing.with_target limits t (u ++ a ∷ []) (w ++ b ∷ []) r (changes_swept reply.Done (marked now touches (moved (u ++ a ∷ []) (w ++ b ∷ []) t)) (logs adds_name)))
    stays_target touches u w a b o at_p stands good apart other None at_q =
        stays_either limits t tree (path_eq (parent (u ++ a ∷ [])) (parent (w ++ b ∷ []))) _ _
        (λ e. stays_swept limits t tree reply.Done _ (logs adds_name) (marks touches _ (to_nothing u w a b o at_p stands good apart at_q (λ others. absurd (others (sym (parent-push u a) ∙ same_path (parent (u ++ a ∷ [])) (parent (w ++ b ∷ [])) e ∙ parent-push w b))))))
        (λ e. stays_place limits t tree (parent (w ++ b ∷ [])) _ (λ names listing room.
        stays_swept limits t tree reply.Done _ (logs adds_name) (marks touches _ (to_nothing u w a b o at_p stands good apart at_q (λ others. (length names, listing_counts t w names (subst (λ v. IsListing t v names) (parent-push w b) listing), room))))))
    stays_target touches u w a b o at_p stands good apart other (Some (directory n)) at_q =
        stays_names limits t tree (w ++ b ∷ []) _ (λ names listing. stays_passed limits t tree ((not (is_empty names), ENOTEMPTY) ∷ []) _ (λ pass.
        stays_swept limits t tree reply.Done _ (logs adds_name) (marks touches _ (over_something u w a b o at_p stands good apart (directory n) at_q (no_names limits t tree (w ++ b ∷ []) names listing pass.0) other))))
    stays_target touches u w a b o at_p stands good apart other (Some (symlink n text)) at_q =
        stays_swept limits t tree reply.Done _ (logs adds_name) (marks touches _ (over_something u w a b o at_p stands good apart (symlink n text) at_q (no_directory limits t tree (w ++ b ∷ []) (symlink n text) at_q refl) other))
    stays_target touches u w a b o at_p stands good apart other (Some (file n)) at_q =
        stays_swept limits t tree reply.Done _ (logs adds_name) (marks touches _ (over_something u w a b o at_p stands good apart (file n) at_q (no_directory limits t tree (w ++ b ∷ []) (file n) at_q refl) other))

    stays_moves : (p : Path) (o : Object) (w : Path) (b : Name) → t.objects p ≡ Some o → p ≢ [] → is_directory (t.objects w) ≡ true → IsName b → LeavesTree limits (changing.moves limits now t p o (w ++ b ∷ []))
    stays_moves p o w b at_p low stands good =
        stays_either limits t tree (path_eq p (w ++ b ∷ []) || changing.is_same_file o (t.objects (w ++ b ∷ []))) _ _ (λ e. stays_same limits t tree reply.Done) (λ e.
        let apart : path_eq p (w ++ b ∷ []) ≡ false = (or_parts (path_eq p (w ++ b ∷ [])) (changing.is_same_file o (t.objects (w ++ b ∷ []))) e).0 in
        stays_passed limits t tree (changing.move_tests p o (w ++ b ∷ []) (t.objects (w ++ b ∷ []))) _ (λ pass.
        by_end _ (ends p) apart (outside_itself p o (w ++ b ∷ []) w b at_p refl stands apart pass.0)))
      where
        by_end : (touches : Touches) → (p ≡ []) ⊎ ((u : Path) × (a : Name) × (p ≡ u ++ a ∷ [])) → path_eq p (w ++ b ∷ []) ≡ false → behind p (w ++ b ∷ []) ≡ None → LeavesTree limits (changing.with_target limits t p (w ++ b ∷ []) (t.objects (w ++ b ∷ [])) (changes_swept reply.Done (marked now touches (moved p (w ++ b ∷ []) t)) (logs adds_name)))
        by_end touches (inl empty) apart out = absurd (low empty)
        by_end touches (inr (u, a, is)) apart out =
            subst (λ v. LeavesTree limits (changing.with_target limits t v (w ++ b ∷ []) (t.objects (w ++ b ∷ [])) (changes_swept reply.Done (marked now touches (moved v (w ++ b ∷ []) t)) (logs adds_name)))) (sym is)
            (stays_target touches u w a b o (ap t.objects (sym is) ∙ at_p) stands good (ap (λ v. behind v (w ++ b ∷ [])) (sym is) ∙ out)
            (λ same. false≢true (sym apart ∙ ap (path_eq p) (sym (is ∙ same)) ∙ path_eq-same p)) (t.objects (w ++ b ∷ [])) refl)

    -- to where something is
    stays_moves_over : (p : Path) (o : Object) (q : Path) (r : Object) → t.objects p ≡ Some o → p ≢ [] → t.objects q ≡ Some r → q ≢ [] → LeavesTree limits (changing.moves limits now t p o q)
    stays_moves_over p o q r at_p low at_q q_low = by_end (ends q)
      where
        by_end : (q ≡ []) ⊎ ((w : Path) × (b : Name) × (q ≡ w ++ b ∷ [])) → LeavesTree limits (changing.moves limits now t p o q)
        by_end (inl empty) = absurd (q_low empty)
        by_end (inr (w, b, is)) =
            let some : IsSome (t.objects (w ++ b ∷ [])) = ap is_some (ap t.objects (sym is) ∙ at_q) in
            subst (λ v. LeavesTree limits (changing.moves limits now t p o v)) (sym is)
            (stays_moves p o w b at_p low (stands_in limits t tree w b some) (recursion_from_All IsName (b ∷ []) (all_behind w (b ∷ []) (tree.names (w ++ b ∷ []) some))).0)

    pub stays_rename : (only_new : Bool) (old path : List ℕ) → LeavesTree limits (changing.renames limits now t only_new old path)
    stays_rename only_new old path =
        stays_tested limits t tree (new_text_tests limits old ++ new_text_tests limits path ++ (is_root_text old || is_root_text path, EBUSY) ∷ []) _ (λ e.
        let texts = passed_both (new_text_tests limits old ++ new_text_tests limits path) ((is_root_text old || is_root_text path, EBUSY) ∷ []) e in
        let both = passed_both (new_text_tests limits old) (new_text_tests limits path) texts.0 in
        let roots = or_parts (is_root_text old) (is_root_text path) (all_passed ((is_root_text old || is_root_text path, EBUSY) ∷ []) texts.1).0 in
        stays_along limits t tree false old _ _ (λ s reached. stays_leads_to limits t tree s _ (reached_well limits t tree (last_tests old) false old both.0 s reached) (λ p o is at_p.
        let low : p ≢ [] = low_by limits t tree s p (reached_below_root limits t old both.0 roots.0 s reached) is in
        stays_along limits t tree false path _ _ (λ z at_z. stays_leads limits t tree z _ _ (reached_well limits t tree (last_tests path) false path both.1 z at_z)
        (λ q r at at_q. stays_passed limits t tree ((only_new, EEXIST) ∷ []) _ (λ pass. stays_moves_over p o q r at_p low at_q (low_by limits t tree z q (reached_below_root limits t path both.1 roots.1 z at_z) at)))
        (λ q name at misses. stays_moves p o q name at_p low misses.directory misses.good))
        (λ r alone has. absurd (not_alone limits path both.1 alone))))
        (λ o alone has. absurd (not_alone limits old both.0 alone)))
