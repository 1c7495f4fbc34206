-- A tree stays one where an object is put at a path where nothing is.
use Rattle.std.proofs.Common.{◌≡◌, ◌≢◌, ◌⊎◌, ◌↔◌, inl, inr, ℕ, suc, ◌≤◌, ◌<◌, ◌==◌, List, [], ◌∷◌, ◌++◌, length, true, Option, Some, None, is_some, IsSome, IfSome, All, refl, sym, ap, subst, ◌∙◌, append_assoc, append-nil, arith}
use Rattle.std.specs.Prelude.{if◌then◌else◌}
use Rattle.std.proofs.lemmas.Bool.{cases_eq, cond_both, cond-true, cond-false, false≢true, false_from_ne_true, eq-eqb, ne_eqb}
use Rattle.std.proofs.lemmas.List.{same_from_push}
use Rattle.std.proofs.lemmas.List.Elements.{All-push}
use Rattle.model.specs.declared.limits.Limits.{Limits}
use Rattle.model.specs.declared.attributes.Attributes.{Attributes}
use Rattle.model.specs.declared.attributes.Permissions.{Permissions}
use Rattle.model.specs.declared.limits.TheConstants.{ROOT_NUMBER, FIRST_NUMBER}
use Rattle.model.specs.Attributes.{FitAttributes, new_attributes}
use Rattle.model.specs.Counting.{Counts, CountsUpTo}
use Rattle.model.specs.Paths.{Name, Path, IsName, IsLinkText, path_eq}
use Rattle.model.specs.Trees.{Tree, Object, directory, symlink, file, number_of_object, is_directory, StandsAtPath, IsOpen, IsUsed, IsTree}
use Rattle.model.specs.Edits.{put_at, with_attributes, with_bytes}
use Rattle.model.specs.Outcomes.{IsListing}
use Rattle.model.proofs.CountLemmas.{same_count, one_more}
use Rattle.model.proofs.ListingLemmas.{listing_counts}
use Rattle.model.proofs.WalkLemmas.{path_eq-same, same_path, not_push}
use Rattle.model.proofs.VolumeLemmas.{ends}
use Rattle.model.proofs.OnceLemmas.{path_apart}
use Rattle.model.proofs.LeadLemmas.{directory_some}
use Rattle.model.proofs.LooseLemmas.{used_file}
use Rattle.model.proofs.ObjectLaws.{directory_file}
use Rattle.model.proofs.OptionLaws.{none_some, some_same, absent}

pub no_more : (x : Name) (rest : Path) → x ∷ rest ≢ []
no_more x rest e = cc

symlink_file : {Y : Type 0} {m n : ℕ} {text : List ℕ} → symlink m text ≡ file n → Y
symlink_file e = cc

text_same : {m n : ℕ} {a b : List ℕ} → symlink m a ≡ symlink n b → a ≡ b
text_same e = cc

-- what is put at a path
pub put-here : {X : Type 0} (p : Path) (o : Option X) (f : Path → Option X) → put_at p o f p ≡ o
put-here p o f = cond-true (path_eq p p) o (f p) (path_eq-same p)

pub put-other : {X : Type 0} (p q : Path) (o : Option X) (f : Path → Option X) → q ≢ p → put_at p o f q ≡ f q
put-other p q o f other = cond-false (path_eq q p) o (f q) (false_from_ne_true (path_eq q p) (λ e. other (same_path q p e)))

-- nothing stands anywhere below a leaf
pub below_leaf : (limits : Limits) (t : Tree) → IsTree limits t → (p : Path) → ((x : Name) → t.objects (p ++ x ∷ []) ≡ None) → (x : Name) (rest : Path) → IsSome (t.objects (p ++ x ∷ rest)) → ⊥
below_leaf limits t tree p leaf x [] some = absent (t.objects (p ++ x ∷ [])) (leaf x) some
below_leaf limits t tree p leaf x (y ∷ rest) some =
    let here = tree.above (p ++ x ∷ []) (y ∷ rest) (no_more y rest) (subst (λ q. IsSome (t.objects q)) (sym (append_assoc p (x ∷ []) (y ∷ rest))) some) in
    false≢true (ap is_directory (sym (leaf x)) ∙ here)

pub file_or_not : (r : Object) (n : ℕ) → (r ≡ file n) ⊎ (r ≢ file n)
file_or_not (directory k) n = inr (λ e. cc)
file_or_not (symlink k text) n = inr (λ e. cc)
file_or_not (file k) n = elim (cases_eq k n) [ inl e ↦ inl (ap file e) | inr e ↦ inr (λ f. e (ap number_of_object f)) ]

-- an object with its bytes and its attributes fits a tree
pub record Joins (limits : Limits) (t : Tree) (o : Object) (bytes : ℕ → Option (List ℕ)) (attributes : ℕ → Option Attributes) : Type 0 where
  pub free : (q : Path) (r : Object) → t.objects q ≡ Some r → number_of_object r ≡ number_of_object o → (r ≡ o) × (o ≡ file (number_of_object o))
  pub opened : IsOpen t (number_of_object o) → o ≡ file (number_of_object o)
  pub numbers : (number_of_object o ≡ ROOT_NUMBER) ⊎ ((FIRST_NUMBER ≤ number_of_object o) × (number_of_object o < limits.inodes))
  pub text : (n : ℕ) (text : List ℕ) → o ≡ symlink n text → IsLinkText limits.path_bytes text
  pub links : (n : ℕ) → o ≡ file n → (count : ℕ) × Counts (λ p. t.objects p ≡ Some (file n)) count × (count < limits.file_names)
  pub other_bytes : (n : ℕ) → n ≢ number_of_object o → bytes n ≡ t.bytes n
  pub other_attributes : (n : ℕ) → n ≢ number_of_object o → attributes n ≡ t.attributes n
  pub has_bytes : o ≡ file (number_of_object o) → IsSome (bytes (number_of_object o))
  pub of_bytes : IsSome (bytes (number_of_object o)) → o ≡ file (number_of_object o)
  pub has_attributes : IsSome (attributes (number_of_object o))
  pub sizes : (n : ℕ) → IfSome (bytes n) (λ given. length given ≤ limits.file_bytes)
  pub fit : (n : ℕ) → IfSome (attributes n) (FitAttributes limits.has_attributes)

-- a number that is free
module _ (limits : Limits) (t : Tree) (tree : IsTree limits t) (n : ℕ) (low : FIRST_NUMBER ≤ n) (high : n < limits.inodes) (free : ¬ IsUsed t n) where
  no_bytes : ¬ IsSome (t.bytes n)
  no_bytes some = free (used_file t n ((tree.bytes n).0 some))

  set_here : {X : Type 0} (x : X) (f : ℕ → Option X) → (if n == n then Some x else f n) ≡ Some x
  set_here x f = cond-true (n == n) (Some x) (f n) (eq-eqb n n refl)

  set_other : {X : Type 0} (k : ℕ) (x : X) (f : ℕ → Option X) → k ≢ n → (if k == n then Some x else f k) ≡ f k
  set_other k x f apart = cond-false (k == n) (Some x) (f k) (ne_eqb k n apart)

  -- the attributes of a new object of these permissions
  abbrev with_new : Permissions → ℕ → Option Attributes
  with_new permissions = (with_attributes n (new_attributes permissions) t).attributes

  abbrev CanHave : Permissions → Type 0
  CanHave permissions = FitAttributes limits.has_attributes (new_attributes permissions)

  fit_with : (permissions : Permissions) → CanHave permissions → (k : ℕ) → IfSome (with_new permissions k) (FitAttributes limits.has_attributes)
  fit_with permissions fits k = cond_both (k == n) (Some (new_attributes permissions)) (t.attributes k) (λ o. IfSome o (FitAttributes limits.has_attributes)) (λ e. fits) (λ e. tree.fit k)

  pub directory_joins : (permissions : Permissions) → CanHave permissions → Joins limits t (directory n) t.bytes (with_new permissions)
  directory_joins permissions fits = record {
    free = λ q r at_q same. absurd (free (inl (q, r, at_q, same)));
    opened = λ open_file. absurd (free (inr open_file));
    numbers = inr (low, high);
    text = λ k text e. cc;
    links = λ k e. directory_file e;
    other_bytes = λ k apart. refl;
    other_attributes = λ k apart. set_other k (new_attributes permissions) t.attributes apart;
    has_bytes = λ e. directory_file e;
    of_bytes = λ some. absurd (no_bytes some);
    has_attributes = ap is_some (set_here (new_attributes permissions) t.attributes);
    sizes = tree.sizes;
    fit = fit_with permissions fits;
  }

  pub file_joins : (permissions : Permissions) → CanHave permissions → Joins limits t (file n) (with_bytes n [] t).bytes (with_new permissions)
  file_joins permissions fits = record {
    free = λ q r at_q same. absurd (free (inl (q, r, at_q, same)));
    opened = λ open_file. refl;
    numbers = inr (low, high);
    text = λ k text e. cc;
    links = λ k e. (0, (λ p is. free (inl (p, file k, is, ap number_of_object (sym e)))), omega (arith, tree.can_be.named));
    other_bytes = λ k apart. set_other k [] t.bytes apart;
    other_attributes = λ k apart. set_other k (new_attributes permissions) t.attributes apart;
    has_bytes = λ e. ap is_some (set_here {X = List ℕ} [] t.bytes);
    of_bytes = λ some. refl;
    has_attributes = ap is_some (set_here (new_attributes permissions) t.attributes);
    sizes = λ k. cond_both (k == n) (Some []) (t.bytes k) (λ o. IfSome o (λ bytes. length bytes ≤ limits.file_bytes)) (λ e. omega arith) (λ e. tree.sizes k);
    fit = fit_with permissions fits;
  }

  pub symlink_joins : (permissions : Permissions) → CanHave permissions → (text : List ℕ) → IsLinkText limits.path_bytes text → Joins limits t (symlink n text) t.bytes (with_new permissions)
  symlink_joins permissions fits text good = record {
    free = λ q r at_q same. absurd (free (inl (q, r, at_q, same)));
    opened = λ open_file. absurd (free (inr open_file));
    numbers = inr (low, high);
    text = λ k other e. subst (IsLinkText limits.path_bytes) (text_same e) good;
    links = λ k e. symlink_file e;
    other_bytes = λ k apart. refl;
    other_attributes = λ k apart. set_other k (new_attributes permissions) t.attributes apart;
    has_bytes = λ e. symlink_file e;
    of_bytes = λ some. absurd (no_bytes some);
    has_attributes = ap is_some (set_here (new_attributes permissions) t.attributes);
    sizes = tree.sizes;
    fit = fit_with permissions fits;
  }

-- one more path of a file
pub link_joins : (limits : Limits) (t : Tree) → IsTree limits t → (p : Path) (n count : ℕ) → t.objects p ≡ Some (file n) → Counts (λ q. t.objects q ≡ Some (file n)) count → count < limits.file_names → Joins limits t (file n) t.bytes t.attributes
link_joins limits t tree p n count at_p counts few = record {
  free = λ q r at_q same. elim (tree.single p q (file n) r at_p at_q (sym same)) [
    | inl one ↦ (some_same (sym at_q ∙ ap t.objects (sym one) ∙ at_p), refl)
    | inr both ↦ (both.1, refl)
  ];
  opened = λ open_file. refl;
  numbers = tree.numbers n (inl (p, file n, at_p, refl));
  text = λ k text e. cc;
  links = λ k e. (count, subst (λ o. Counts (λ q. t.objects q ≡ Some o) count) e counts, few);
  other_bytes = λ k apart. refl;
  other_attributes = λ k apart. refl;
  has_bytes = λ e. (tree.bytes n).1 (inl (p, at_p));
  of_bytes = λ some. refl;
  has_attributes = (tree.attributes n).1 (inl (p, file n, at_p, refl));
  sizes = tree.sizes;
  fit = tree.fit;
}

-- an object that fits goes to a name that is free in a directory
module _ (limits : Limits) (old : Tree) (tree : IsTree limits old) (path : Path) (name : Name) (o : Object) (bytes : ℕ → Option (List ℕ)) (attributes : ℕ → Option Attributes) (stands : is_directory (old.objects path) ≡ true) (missing : old.objects (path ++ name ∷ []) ≡ None) (good : IsName name) (joins : Joins limits old o bytes attributes) where
  abbrev place : Path
  place = path ++ name ∷ []

  abbrev new : Tree
  new = record old { objects = put_at place (Some o) old.objects; bytes = bytes; attributes = attributes }

  here : new.objects place ≡ Some o
  here = put-here place (Some o) old.objects

  found_in : (q : Path) (r : Object) → new.objects q ≡ Some r → ((q ≡ place) × (r ≡ o)) ⊎ (old.objects q ≡ Some r)
  found_in q r is =
      elim (path_apart q place) [
        | inl e ↦ inl (e, some_same (sym is ∙ ap new.objects e ∙ here))
        | inr e ↦ inr (sym (put-other place q (Some o) old.objects e) ∙ is)
      ]

  some_stays : (q : Path) → IsSome (old.objects q) → new.objects q ≡ old.objects q
  some_stays q some =
      elim (path_apart q place) [
        | inl e ↦ absent (old.objects q) (ap old.objects e ∙ missing) some
        | inr e ↦ put-other place q (Some o) old.objects e
      ]

  stays : (q : Path) (r : Object) → old.objects q ≡ Some r → new.objects q ≡ Some r
  stays q r is = some_stays q (ap is_some is) ∙ is

  directory_stays : (q : Path) → is_directory (old.objects q) ≡ true → is_directory (new.objects q) ≡ true
  directory_stays q e = ap is_directory (some_stays q (directory_some (old.objects q) e)) ∙ e

  above_old : (p q : Path) → p ++ q ≡ path → is_directory (old.objects p) ≡ true
  above_old p [] e = ap is_directory (ap old.objects (sym (append-nil p) ∙ e)) ∙ stands
  above_old p (x ∷ q) e = tree.above p (x ∷ q) (no_more x q) (subst (λ r. IsSome (old.objects r)) (sym e) (directory_some (old.objects path) stands))

  above_new : (p q : Path) → q ≢ [] → IsSome (new.objects (p ++ q)) → is_directory (new.objects p) ≡ true
  above_new p q longer some =
      directory_stays p
      (elim (path_apart (p ++ q) place) [
        | inl e ↦ elim (ends q) [
          | inl empty ↦ absurd (longer empty)
          | inr (u, x, is) ↦ above_old p u (same_from_push (p ++ u) path x name (append_assoc p u (x ∷ []) ∙ ap (λ r. p ++ r) (sym is) ∙ e)).0
        ]
        | inr e ↦ tree.above p q longer (sym (ap is_some (put-other place (p ++ q) (Some o) old.objects e)) ∙ some)
      ])

  names_new : (p : Path) → IsSome (new.objects p) → All IsName p
  names_new p some =
      elim (path_apart p place) [
        | inl e ↦ subst (All IsName) (sym e) (All-push IsName path name (tree.names path (directory_some (old.objects path) stands)) good)
        | inr e ↦ tree.names p (sym (ap is_some (put-other place p (Some o) old.objects e)) ∙ some)
      ]

  single_new : (p q : Path) (r s : Object) → new.objects p ≡ Some r → new.objects q ≡ Some s → number_of_object r ≡ number_of_object s → (p ≡ q) ⊎ ((r ≡ file (number_of_object r)) × (s ≡ r))
  single_new p q r s at_p at_q same =
      elim (found_in p r at_p) [
        | inl one ↦ elim (found_in q s at_q) [
          | inl other ↦ inl (one.0 ∙ sym other.0)
          | inr other ↦
              let both = joins.free q s other (sym same ∙ ap number_of_object one.1) in
              inr (one.1 ∙ both.1 ∙ ap (λ x. file (number_of_object x)) (sym one.1), both.0 ∙ sym one.1)
        ]
        | inr one ↦ elim (found_in q s at_q) [
          | inl other ↦
              let both = joins.free p r one (same ∙ ap number_of_object other.1) in
              inr (both.0 ∙ both.1 ∙ ap (λ x. file (number_of_object x)) (sym both.0), other.1 ∙ sym both.0)
          | inr other ↦ tree.single p q r s one other same
        ]
      ]

  stands_on : (kind : ℕ → Object) (n : ℕ) → StandsAtPath old kind n → StandsAtPath new kind n
  stands_on kind n there = (there.0, stays there.0 (kind n) there.1)

  -- a file or an open file of the object's number is the object
  is_file : StandsAtPath new file (number_of_object o) ⊎ IsOpen new (number_of_object o) → o ≡ file (number_of_object o)
  is_file (inl (p, is)) = elim (found_in p (file (number_of_object o)) is) [ inl one ↦ sym one.1 | inr one ↦ (joins.free p (file (number_of_object o)) one refl).1 ]
  is_file (inr open_file) = joins.opened open_file

  bytes_new : (n : ℕ) → IsSome (bytes n) ↔ (StandsAtPath new file n ⊎ IsOpen new n)
  bytes_new n =
      elim (cases_eq n (number_of_object o)) [
        | inl is ↦ subst (λ k. IsSome (bytes k) ↔ (StandsAtPath new file k ⊎ IsOpen new k)) (sym is) (
          λ some. inl (place, here ∙ ap (λ x. Some x) (joins.of_bytes some)),
          λ there. joins.has_bytes (is_file there),
        )
        | inr other ↦ (
          λ some. elim ((tree.bytes n).0 (ap is_some (sym (joins.other_bytes n other)) ∙ some)) [ inl there ↦ inl (stands_on file n there) | inr open_file ↦ inr open_file ],
          λ there. ap is_some (joins.other_bytes n other) ∙ (tree.bytes n).1 (elim there [ inl one ↦ inl (file_stood n other one) | inr open_file ↦ inr open_file ]),
        )
      ]
    where
      file_stood : (n : ℕ) → n ≢ number_of_object o → StandsAtPath new file n → StandsAtPath old file n
      file_stood n other (p, is) = elim (found_in p (file n) is) [ inl one ↦ absurd (other (ap number_of_object one.1)) | inr one ↦ (p, one) ]

  used_on : (n : ℕ) → IsUsed old n → IsUsed new n
  used_on n (inl (p, r, is, same)) = inl (p, r, stays p r is, same)
  used_on n (inr open_file) = inr open_file

  used_before : (n : ℕ) → n ≢ number_of_object o → IsUsed new n → IsUsed old n
  used_before n other (inl (p, r, is, same)) =
      elim (found_in p r is) [ inl one ↦ absurd (other (sym same ∙ ap number_of_object one.1)) | inr one ↦ inl (p, r, one, same) ]
  used_before n other (inr open_file) = inr open_file

  attributes_new : (n : ℕ) → IsSome (attributes n) ↔ IsUsed new n
  attributes_new n =
      elim (cases_eq n (number_of_object o)) [
        | inl is ↦ subst (λ k. IsSome (attributes k) ↔ IsUsed new k) (sym is) (λ some. inl (place, o, here, refl), λ used. joins.has_attributes)
        | inr other ↦ (
          λ some. used_on n ((tree.attributes n).0 (ap is_some (sym (joins.other_attributes n other)) ∙ some)),
          λ used. ap is_some (joins.other_attributes n other) ∙ (tree.attributes n).1 (used_before n other used),
        )
      ]

  opened_new : (n : ℕ) (p : Path) (r : Object) → IsOpen new n → new.objects p ≡ Some r → number_of_object r ≡ n → r ≡ file n
  opened_new n p r open_file at_p same =
      elim (found_in p r at_p) [
        | inl one ↦
            let is : number_of_object o ≡ n = sym (ap number_of_object one.1) ∙ same in
            one.1 ∙ joins.opened (subst (IsOpen old) (sym is) open_file) ∙ ap file is
        | inr one ↦ tree.opened n p r open_file one same
      ]

  numbers_new : (n : ℕ) → IsUsed new n → (n ≡ ROOT_NUMBER) ⊎ ((FIRST_NUMBER ≤ n) × (n < limits.inodes))
  numbers_new n (inl there) =
      elim (found_in there.0 there.1 there.2) [
        | inl one ↦ subst (λ k. (k ≡ ROOT_NUMBER) ⊎ ((FIRST_NUMBER ≤ k) × (k < limits.inodes))) (sym (ap number_of_object one.1) ∙ there.3) joins.numbers
        | inr one ↦ tree.numbers n (inl (there.0, there.1, one, there.3))
      ]
  numbers_new n (inr open_file) = tree.numbers n (inr open_file)

  texts_new : (p : Path) (n : ℕ) (text : List ℕ) → new.objects p ≡ Some (symlink n text) → IsLinkText limits.path_bytes text
  texts_new p n text is = elim (found_in p (symlink n text) is) [ inl one ↦ joins.text n text (sym one.1) | inr one ↦ tree.texts p n text one ]

  below_place : (x : Name) → ¬ IsSome (new.objects (place ++ x ∷ []))
  below_place x some =
      elim (path_apart (place ++ x ∷ []) place) [
        | inl e ↦ not_push place x (sym e)
        | inr e ↦ false≢true (ap is_directory (sym missing) ∙ tree.above place (x ∷ []) (no_more x []) (sym (ap is_some (put-other place (place ++ x ∷ []) (Some o) old.objects e)) ∙ some))
      ]

  in_path : (x : Name) → IsSome (old.objects (path ++ x ∷ [])) ↔ (IsSome (new.objects (path ++ x ∷ [])) × (x ≢ name))
  in_path x = (
    λ some. (ap is_some (some_stays (path ++ x ∷ []) some) ∙ some, λ e. absent (old.objects (path ++ x ∷ [])) (ap (λ y. old.objects (path ++ y ∷ [])) e ∙ missing) some),
    λ (some, other). ap is_some (sym (put-other place (path ++ x ∷ []) (Some o) old.objects (λ e. other (same_from_push path path x name e).1))) ∙ some,
  )

  in_other : (p : Path) → p ≢ path → (x : Name) → IsSome (old.objects (p ++ x ∷ [])) ↔ IsSome (new.objects (p ++ x ∷ []))
  in_other p other x =
      let same = put-other place (p ++ x ∷ []) (Some o) old.objects (λ e. other (same_from_push p path x name e).0) in
      (λ some. ap is_some same ∙ some, λ some. ap is_some (sym same) ∙ some)

  children_new : (names : List Name) → IsListing old path names → length names < limits.directory_names → (p : Path) → is_directory (new.objects p) ≡ true → CountsUpTo limits.directory_names (λ x. IsSome (new.objects (p ++ x ∷ [])))
  children_new names listing few p is =
      elim (path_apart p place) [
        | inl e ↦ (0, subst (λ q. (x : Name) → ¬ IsSome (new.objects (q ++ x ∷ []))) (sym e) below_place, omega arith)
        | inr e ↦ elim (path_apart p path) [
          | inl f ↦ (
            suc (length names),
            subst (λ q. Counts (λ x. IsSome (new.objects (q ++ x ∷ []))) (suc (length names))) (sym f)
                (one_more (λ x. IsSome (old.objects (path ++ x ∷ []))) (λ x. IsSome (new.objects (path ++ x ∷ []))) name (length names) (ap is_some here) in_path (listing_counts old path names listing)),
            omega (arith, few),
          )
          | inr f ↦
              let counts = tree.children p (ap is_directory (sym (put-other place p (Some o) old.objects e)) ∙ is) in
              (counts.0, same_count (λ x. IsSome (old.objects (p ++ x ∷ []))) (λ x. IsSome (new.objects (p ++ x ∷ []))) counts.0 (in_other p f) counts.1, counts.2)
        ]
      ]

  links_new : (n : ℕ) → CountsUpTo limits.file_names (λ p. new.objects p ≡ Some (file n))
  links_new n =
      elim (file_or_not o n) [
        | inl is ↦
            let counts = joins.links n is in (
              suc counts.0,
              one_more (λ p. old.objects p ≡ Some (file n)) (λ p. new.objects p ≡ Some (file n)) place counts.0 (here ∙ ap (λ x. Some x) is)
                  (λ p. (
                    (λ there. (stays p (file n) there, λ e. none_some (sym missing ∙ ap old.objects (sym e) ∙ there))),
                    (λ (now, other). elim (found_in p (file n) now) [ inl one ↦ absurd (other one.0) | inr one ↦ one ]),
                  )) counts.1,
              omega (arith, counts.2),
            )
        | inr not_file ↦
            let counts = tree.links n in (
              counts.0,
              same_count (λ p. old.objects p ≡ Some (file n)) (λ p. new.objects p ≡ Some (file n)) counts.0
                  (λ p. (stays p (file n), λ is. elim (found_in p (file n) is) [ inl one ↦ absurd (not_file (sym one.1)) | inr one ↦ one ])) counts.1,
              counts.2,
            )
      ]

  pub placed_is_tree : (names : List Name) → IsListing old path names → length names < limits.directory_names → IsTree limits new
  placed_is_tree names listing room = record {
    can_be = tree.can_be;
    root = stays [] (directory 3) tree.root;
    above = above_new;
    names = names_new;
    single = single_new;
    bytes = bytes_new;
    attributes = attributes_new;
    opened = opened_new;
    numbers = numbers_new;
    texts = texts_new;
    children = children_new names listing room;
    links = links_new;
    sizes = joins.sizes;
    fit = joins.fit;
    table = tree.table;
    offsets = tree.offsets;
  }
