-- A tree is a loose one where an object with nothing below it is taken away.
use Rattle.std.proofs.Common.{◌≡◌, ◌≢◌, ◌⊎◌, inl, inr, ℕ, [], ◌∷◌, ◌++◌, true, Option, Some, None, is_some, IsSome, refl, sym, ap, subst, ◌∙◌, arith}
use Rattle.std.proofs.lemmas.List.{same_from_push}
use Rattle.model.specs.declared.limits.Limits.{Limits}
use Rattle.model.specs.Counting.{CountsUpTo}
use Rattle.model.specs.Paths.{Name, Path}
use Rattle.model.specs.Trees.{Tree, Object, symlink, file, number_of_object, is_directory, StandsAtPath, IsOpen, IsUsed, IsTree}
use Rattle.model.specs.Edits.{without_object}
use Rattle.model.proofs.CountLemmas.{same_count, one_less}
use Rattle.model.proofs.ListingLemmas.{names_apart}
use Rattle.model.proofs.VolumeLemmas.{ends}
use Rattle.model.proofs.OnceLemmas.{path_apart}
use Rattle.model.proofs.LooseLemmas.{IsLooseTree, tree_is_loose, all_files, decided, used_file}
use Rattle.model.proofs.PlaceLemmas.{put-here, put-other, below_leaf, file_or_not}
use Rattle.model.proofs.OptionLaws.{none_some, some_same, absent}

pub no_directory : {Y : Type 0} (r : Option Object) → r ≡ None → is_directory r ≡ true → Y
no_directory None none e = cc
no_directory (Some r) none e = cc

module _ (limits : Limits) (old : Tree) (tree : IsTree limits old) (p : Path) (o : Object) (at_p : old.objects p ≡ Some o) (low : p ≢ []) (leaf : (x : Name) → old.objects (p ++ x ∷ []) ≡ None) where
  abbrev new : Tree
  new = without_object p old

  gone : new.objects p ≡ None
  gone = put-here p None old.objects

  stays : (q : Path) → q ≢ p → new.objects q ≡ old.objects q
  stays q other = put-other p q None old.objects other

  -- what stands now stood before, elsewhere
  found_in : (q : Path) (r : Object) → new.objects q ≡ Some r → (q ≢ p) × (old.objects q ≡ Some r)
  found_in q r is =
      elim (path_apart q p) [
        | inl e ↦ none_some (sym (ap new.objects e ∙ gone) ∙ is)
        | inr e ↦ (e, sym (stays q e) ∙ is)
      ]

  some_in : (q : Path) → IsSome (new.objects q) → (q ≢ p) × IsSome (old.objects q)
  some_in q some =
      elim (path_apart q p) [
        | inl e ↦ absent (new.objects q) (ap new.objects e ∙ gone) some
        | inr e ↦ (e, ap is_some (sym (stays q e)) ∙ some)
      ]

  above_new : (a b : Path) → b ≢ [] → IsSome (new.objects (a ++ b)) → is_directory (new.objects a) ≡ true
  above_new a [] longer some = absurd (longer refl)
  above_new a (x ∷ rest) longer some =
      let before = some_in (a ++ x ∷ rest) some in
      elim (path_apart a p) [
        | inl e ↦ absurd (below_leaf limits old tree p leaf x rest (subst (λ q. IsSome (old.objects (q ++ x ∷ rest))) e before.1))
        | inr e ↦ ap is_directory (stays a e) ∙ tree.above a (x ∷ rest) longer before.1
      ]

  file_was : (n : ℕ) → StandsAtPath new file n ⊎ IsOpen new n → StandsAtPath old file n ⊎ IsOpen old n
  file_was n (inl there) = inl (there.0, (found_in there.0 (file n) there.1).1)
  file_was n (inr open_file) = inr open_file

  used_was : (n : ℕ) → IsUsed new n → IsUsed old n
  used_was n (inl there) = inl (there.0, there.1, (found_in there.0 there.1 there.2).1, there.3)
  used_was n (inr open_file) = inr open_file

  links_new : (n : ℕ) → CountsUpTo limits.file_names (λ q. new.objects q ≡ Some (file n))
  links_new n =
      let counts = tree.links n in
      elim (file_or_not o n) [
        | inl is ↦
            let less = one_less (λ q. old.objects q ≡ Some (file n)) p counts.0 path_apart (at_p ∙ ap (λ r. Some r) is) counts.1 in (
              less.0,
              same_count (λ q. (old.objects q ≡ Some (file n)) × (q ≢ p)) (λ q. new.objects q ≡ Some (file n)) less.0 (λ q. (λ (is, other). stays q other ∙ is, λ is. let before = found_in q (file n) is in (before.1, before.0))) less.2,
              omega (arith, less.1, counts.2),
            )
        | inr not_file ↦ (
          counts.0,
          same_count (λ q. old.objects q ≡ Some (file n)) (λ q. new.objects q ≡ Some (file n)) counts.0
              (λ q. (λ is. stays q (λ e. not_file (some_same (sym at_p ∙ ap old.objects (sym e) ∙ is))) ∙ is, λ is. (found_in q (file n) is).1)) counts.1,
          counts.2,
        )
      ]

  still : (n : ℕ) → StandsAtPath old file n ⊎ IsOpen old n → (StandsAtPath new file n ⊎ IsOpen new n) ⊎ (¬ IsUsed new n)
  still n stands = decided limits new n (links_new n) tree.table (λ q r at_q same. all_files limits old (tree_is_loose limits old tree) n stands q r (found_in q r at_q).1 same)

  -- but for a file, what was taken away isn't used any more
  unused : (n : ℕ) → number_of_object o ≡ n → o ≢ file n → ¬ IsUsed new n
  unused n is other (inl (q, r, at_q, same)) =
      let before = found_in q r at_q in
      elim (tree.single p q o r at_p before.1 (is ∙ sym same)) [ inl one ↦ before.0 (sym one) | inr both ↦ other (both.0 ∙ ap file is) ]
  unused n is other (inr open_file) = other (tree.opened n p o open_file at_p is)

  attributes_still : (n : ℕ) → IsUsed old n → IsUsed new n ⊎ (¬ IsUsed new n)
  attributes_still n (inl (q, r, is, same)) =
      elim (path_apart q p) [
        | inl e ↦
            let here : r ≡ o = some_same (sym is ∙ ap old.objects e ∙ at_p) in
            elim (file_or_not o n) [
              | inl a_file ↦ of_file n (inl (p, at_p ∙ ap (λ x. Some x) a_file))
              | inr other ↦ inr (unused n (ap number_of_object (sym here) ∙ same) other)
            ]
        | inr e ↦ inl (inl (q, r, stays q e ∙ is, same))
      ]
    where
      of_file : (n : ℕ) → StandsAtPath old file n ⊎ IsOpen old n → IsUsed new n ⊎ (¬ IsUsed new n)
      of_file n stands = elim (still n stands) [ inl there ↦ inl (used_file new n there) | inr free ↦ inr free ]
  attributes_still n (inr open_file) = elim (still n (inr open_file)) [ inl there ↦ inl (used_file new n there) | inr free ↦ inr free ]

  children_new : (q : Path) → is_directory (new.objects q) ≡ true → CountsUpTo limits.directory_names (λ x. IsSome (new.objects (q ++ x ∷ [])))
  children_new q is =
      let counts = tree.children q was in
      elim (ends p) [
        | inl e ↦ absurd (low e)
        | inr (u, a, is_p) ↦ elim (path_apart q u) [
          | inl same ↦
              let less = one_less (λ x. IsSome (old.objects (q ++ x ∷ []))) a counts.0 names_apart (ap is_some (ap (λ v. old.objects (v ++ a ∷ [])) same ∙ ap old.objects (sym is_p) ∙ at_p)) counts.1 in (
                less.0,
                same_count (λ x. IsSome (old.objects (q ++ x ∷ [])) × (x ≢ a)) (λ x. IsSome (new.objects (q ++ x ∷ []))) less.0
                    (λ x. (
                      (λ (some, other). ap is_some (stays (q ++ x ∷ []) (λ e. other (same_from_push q u x a (e ∙ is_p)).1)) ∙ some),
                      (λ some. let before = some_in (q ++ x ∷ []) some in (before.1, λ e. before.0 (ap (λ v. v ++ x ∷ []) same ∙ ap (λ y. u ++ y ∷ []) e ∙ sym is_p))),
                    )) less.2,
                omega (arith, less.1, counts.2),
              )
          | inr other ↦ (
            counts.0,
            same_count (λ x. IsSome (old.objects (q ++ x ∷ []))) (λ x. IsSome (new.objects (q ++ x ∷ []))) counts.0
                (λ x. (
                  (λ some. ap is_some (stays (q ++ x ∷ []) (λ e. other (same_from_push q u x a (e ∙ is_p)).0)) ∙ some),
                  (λ some. (some_in (q ++ x ∷ []) some).1),
                )) counts.1,
            counts.2,
          )
        ]
      ]
    where
      was : is_directory (old.objects q) ≡ true
      was = elim (path_apart q p) [
        | inl e ↦ no_directory (new.objects q) (ap new.objects e ∙ gone) is
        | inr e ↦ ap is_directory (sym (stays q e)) ∙ is
      ]

  pub taken_is_loose : IsLooseTree limits new
  taken_is_loose = record {
    can_be = tree.can_be;
    root = stays [] (λ e. low (sym e)) ∙ tree.root;
    above = above_new;
    names = λ q some. tree.names q (some_in q some).1;
    single = λ q s r x at_q at_s same. tree.single q s r x (found_in q r at_q).1 (found_in s x at_s).1 same;
    bytes = λ n stands. (tree.bytes n).1 (file_was n stands);
    attributes = λ n used. (tree.attributes n).1 (used_was n used);
    loose_bytes = λ n some. still n ((tree.bytes n).0 some);
    loose_attributes = λ n some. attributes_still n ((tree.attributes n).0 some);
    opened = λ n q r open_file at_q same. tree.opened n q r open_file (found_in q r at_q).1 same;
    numbers = λ n used. tree.numbers n (used_was n used);
    texts = λ q n text is. tree.texts q n text (found_in q (symlink n text) is).1;
    children = children_new;
    links = links_new;
    sizes = tree.sizes;
    fit = tree.fit;
    table = tree.table;
    offsets = tree.offsets;
  }
