-- Trees in which bytes and attributes may be left over until they are swept.
use Rattle.std.proofs.Common.{◌≡◌, ◌≢◌, ◌⊎◌, inl, inr, ℕ, zero, suc, ◌≤◌, ◌<◌, ◌==◌, List, [], ◌∷◌, ◌++◌, length, true, Option, Some, None, is_some, IsSome, IfSome, All, refl, sym, ap, subst, ◌∙◌, arith, unwrap_or}
use Rattle.std.proofs.lemmas.Bool.{cases_Bool, cases_eq, cases_lt, cond_both, cond-true, cond-false, false≢true, eq-eqb, ne_eqb}
use Rattle.model.specs.declared.limits.Limits.{Limits}
use Rattle.model.specs.declared.attributes.Attributes.{Attributes}
use Rattle.model.specs.declared.limits.TheConstants.{ROOT_NUMBER, FIRST_NUMBER, GREATEST_OFFSET, MODE_BITS, OPEN_FILES}
use Rattle.model.specs.Attributes.{FitAttributes, no_attributes, set_mode}
use Rattle.model.specs.Counting.{Counts, CountsUpTo}
use Rattle.model.specs.Limits.{AreLimits}
use Rattle.model.specs.Paths.{Path, IsName, IsLinkText}
use Rattle.model.specs.Trees.{Tree, Object, directory, symlink, file, number_of_object, is_directory, Description, StandsAtPath, IsOpen, IsUsed, IsTree}
use Rattle.model.specs.Edits.{attributes_at, with_attributes, with_mode, with_bytes, with_descriptor, IsSwept}
use Rattle.model.specs.Volumes.{is_open}
use Rattle.model.proofs.AttributeLaws.{set_fit}
use Rattle.model.proofs.SweepLemmas.{found_open, opened_by}
use Rattle.model.proofs.OnceLemmas.{trees_same}
pub use Rattle.model.proofs.OptionLaws.{absent, some_or_none, some_same, none_some}

-- a tree but that bytes and attributes may stand for numbers that aren't used
pub record IsLooseTree (limits : Limits) (t : Tree) : Type 0 where
  pub can_be : AreLimits limits
  pub root : t.objects [] ≡ Some (directory ROOT_NUMBER)
  pub above : (p q : Path) → q ≢ [] → IsSome (t.objects (p ++ q)) → is_directory (t.objects p) ≡ true
  pub names : (p : Path) → IsSome (t.objects p) → All IsName p
  pub single : (p q : Path) (o r : Object) → t.objects p ≡ Some o → t.objects q ≡ Some r → number_of_object o ≡ number_of_object r → (p ≡ q) ⊎ ((o ≡ file (number_of_object o)) × (r ≡ o))
  pub bytes : (n : ℕ) → (StandsAtPath t file n ⊎ IsOpen t n) → IsSome (t.bytes n)
  pub attributes : (n : ℕ) → IsUsed t n → IsSome (t.attributes n)
  pub loose_bytes : (n : ℕ) → IsSome (t.bytes n) → (StandsAtPath t file n ⊎ IsOpen t n) ⊎ (¬ IsUsed t n)
  pub loose_attributes : (n : ℕ) → IsSome (t.attributes n) → IsUsed t n ⊎ (¬ IsUsed t n)
  pub opened : (n : ℕ) (p : Path) (o : Object) → IsOpen t n → t.objects p ≡ Some o → number_of_object o ≡ n → o ≡ file n
  pub numbers : (n : ℕ) → IsUsed t n → (n ≡ ROOT_NUMBER) ⊎ ((FIRST_NUMBER ≤ n) × (n < limits.inodes))
  pub texts : (p : Path) (n : ℕ) (text : List ℕ) → t.objects p ≡ Some (symlink n text) → IsLinkText limits.path_bytes text
  pub children : (p : Path) → is_directory (t.objects p) ≡ true → CountsUpTo limits.directory_names (λ name. IsSome (t.objects (p ++ name ∷ [])))
  pub links : (n : ℕ) → CountsUpTo limits.file_names (λ p. t.objects p ≡ Some (file n))
  pub sizes : (n : ℕ) → IfSome (t.bytes n) (λ bytes. length bytes ≤ limits.file_bytes)
  pub fit : (n : ℕ) → IfSome (t.attributes n) (FitAttributes limits.has_attributes)
  pub table : (d : ℕ) → OPEN_FILES ≤ d → t.descriptors d ≡ None
  pub offsets : (d : ℕ) (f : Description) → t.descriptors d ≡ Some f → f.offset ≤ GREATEST_OFFSET

pub tree_is_loose : (limits : Limits) (t : Tree) → IsTree limits t → IsLooseTree limits t
tree_is_loose limits t tree = record {
  can_be = tree.can_be;
  root = tree.root;
  above = tree.above;
  names = tree.names;
  single = tree.single;
  bytes = λ n stands. (tree.bytes n).1 stands;
  attributes = λ n used. (tree.attributes n).1 used;
  loose_bytes = λ n some. inl ((tree.bytes n).0 some);
  loose_attributes = λ n some. inl ((tree.attributes n).0 some);
  opened = tree.opened;
  numbers = tree.numbers;
  texts = tree.texts;
  children = tree.children;
  links = tree.links;
  sizes = tree.sizes;
  fit = tree.fit;
  table = tree.table;
  offsets = tree.offsets;
}

same_some : {X : Type 0} (o r : Option X) → o ≡ r → IsSome r → IsSome o
same_some o r is some = ap is_some is ∙ some

if_some : {X : Type 0} (P : X → Type 0) (o r : Option X) → o ≡ r → IfSome r P → IfSome o P
if_some P o r is holds = subst (λ q. IfSome q P) (sym is) holds

if_none : {X : Type 0} (P : X → Type 0) (o : Option X) → o ≡ None → IfSome o P
if_none P o is = if_some P o None is tt

pub used_file : (t : Tree) (n : ℕ) → StandsAtPath t file n ⊎ IsOpen t n → IsUsed t n
used_file t n (inl (p, is)) = inl (p, file n, is, refl)
used_file t n (inr open_file) = inr open_file

-- what a sweep leaves is a tree
module _ (limits : Limits) (old new : Tree) (loose : IsLooseTree limits old) (swept : IsSwept old new) where
  abbrev left : Tree
  left = record old { bytes = new.bytes; attributes = new.attributes }

  bytes_left : (n : ℕ) → IsSome (new.bytes n) → StandsAtPath old file n ⊎ IsOpen old n
  bytes_left n some =
      elim (some_or_none (old.bytes n)) [
        | inl there ↦ elim (loose.loose_bytes n there) [ inl stands ↦ stands | inr unused ↦ absent (new.bytes n) (swept.gone n unused).0 some ]
        | inr none ↦ absent (new.bytes n) (swept.gone n (λ used. absent (new.bytes n) ((swept.kept n used).0 ∙ none) some)).0 some
      ]

  attributes_left : (n : ℕ) → IsSome (new.attributes n) → IsUsed old n
  attributes_left n some =
      elim (some_or_none (old.attributes n)) [
        | inl there ↦ elim (loose.loose_attributes n there) [ inl used ↦ used | inr unused ↦ absent (new.attributes n) (swept.gone n unused).1 some ]
        | inr none ↦ absent (new.attributes n) (swept.gone n (λ used. absent (new.attributes n) ((swept.kept n used).1 ∙ none) some)).1 some
      ]

  left_is_tree : IsTree limits left
  left_is_tree = record {
    can_be = loose.can_be;
    root = loose.root;
    above = loose.above;
    names = loose.names;
    single = loose.single;
    bytes = λ n. (bytes_left n, λ stands. same_some (new.bytes n) (old.bytes n) (swept.kept n (used_file old n stands)).0 (loose.bytes n stands));
    attributes = λ n. (attributes_left n, λ used. same_some (new.attributes n) (old.attributes n) (swept.kept n used).1 (loose.attributes n used));
    opened = loose.opened;
    numbers = loose.numbers;
    texts = loose.texts;
    children = loose.children;
    links = loose.links;
    sizes = λ n. elim (some_or_none (new.bytes n)) [
      | inl some ↦ if_some (λ (bytes : List ℕ). length bytes ≤ limits.file_bytes) (new.bytes n) (old.bytes n) (swept.kept n (used_file old n (bytes_left n some))).0 (loose.sizes n)
      | inr none ↦ if_none (λ (bytes : List ℕ). length bytes ≤ limits.file_bytes) (new.bytes n) none
    ];
    fit = λ n. elim (some_or_none (new.attributes n)) [
      | inl some ↦ if_some (FitAttributes limits.has_attributes) (new.attributes n) (old.attributes n) (swept.kept n (attributes_left n some)).1 (loose.fit n)
      | inr none ↦ if_none (FitAttributes limits.has_attributes) (new.attributes n) none
    ];
    table = loose.table;
    offsets = loose.offsets;
  }

  pub swept_is_tree : IsTree limits new
  swept_is_tree = subst (IsTree limits) (trees_same left new (sym swept.objects) refl refl (sym swept.descriptors)) left_is_tree

-- whether a number is that of a file at a path, or open, can be found out
find_open : (table : ℕ → Option Description) → ((d : ℕ) → OPEN_FILES ≤ d → table d ≡ None) → (n : ℕ) → ((d : ℕ) × (f : Description) × (table d ≡ Some f) × (f.number ≡ n)) ⊎ ((d : ℕ) (f : Description) → table d ≡ Some f → f.number ≢ n)
find_open table past n =
    elim (cases_Bool (is_open table OPEN_FILES n)) [
      | inl t ↦ inl (opened_by table OPEN_FILES n t)
      | inr f ↦ inr (λ d g is same. elim (cases_lt d OPEN_FILES) [
        | inl below ↦ false≢true (sym f ∙ found_open table OPEN_FILES d n g below is same)
        | inr beyond ↦ none_some (sym (past d beyond) ∙ is)
      ])
    ]

find_file : (t : Tree) (n count : ℕ) → Counts (λ p. t.objects p ≡ Some (file n)) count → StandsAtPath t file n ⊎ ((p : Path) → t.objects p ≢ Some (file n))
find_file t n zero none = inr none
find_file t n (suc count) (p, is, rest) = inl (p, is)

pub decided : (limits : Limits) (t : Tree) (n : ℕ) → CountsUpTo limits.file_names (λ p. t.objects p ≡ Some (file n)) → ((d : ℕ) → OPEN_FILES ≤ d → t.descriptors d ≡ None) → ((p : Path) (o : Object) → t.objects p ≡ Some o → number_of_object o ≡ n → o ≡ file n) → (StandsAtPath t file n ⊎ IsOpen t n) ⊎ (¬ IsUsed t n)
decided limits t n counts past files =
    elim (find_file t n counts.0 counts.1) [
      | inl stands ↦ inl (inl stands)
      | inr nowhere ↦ elim (find_open t.descriptors past n) [
        | inl open_file ↦ inl (inr open_file)
        | inr closed ↦ inr (λ used. elim used [
          | inl path ↦ nowhere path.0 (path.2 ∙ ap (λ o. Some o) (files path.0 path.1 path.2 path.3))
          | inr open_file ↦ closed open_file.0 open_file.1 open_file.2 open_file.3
        ])
      ]
    ]

-- of a file or an open file, all that has its number is that file
pub all_files : (limits : Limits) (t : Tree) → IsLooseTree limits t → (n : ℕ) → StandsAtPath t file n ⊎ IsOpen t n → (p : Path) (o : Object) → t.objects p ≡ Some o → number_of_object o ≡ n → o ≡ file n
all_files limits t loose n (inl (q, is)) p o at_p same =
    elim (loose.single q p (file n) o is at_p (sym same)) [
      | inl one ↦ some_same (sym at_p ∙ ap t.objects (sym one) ∙ is)
      | inr both ↦ both.1
    ]
all_files limits t loose n (inr open_file) p o at_p same = loose.opened n p o open_file at_p same

-- some files are closed
module _ (limits : Limits) (old : Tree) (tree : IsTree limits old) (table : ℕ → Option Description) (fewer : (d : ℕ) (f : Description) → table d ≡ Some f → old.descriptors d ≡ Some f) where
  abbrev closed : Tree
  closed = record old { descriptors = table }

  was_open : (n : ℕ) → IsOpen closed n → IsOpen old n
  was_open n (d, f, is, same) = (d, f, fewer d f is, same)

  was_used : (n : ℕ) → IsUsed closed n → IsUsed old n
  was_used n (inl path) = inl path
  was_used n (inr open_file) = inr (was_open n open_file)

  was_file : (n : ℕ) → StandsAtPath closed file n ⊎ IsOpen closed n → StandsAtPath old file n ⊎ IsOpen old n
  was_file n (inl stands) = inl stands
  was_file n (inr open_file) = inr (was_open n open_file)

  past : (d : ℕ) → OPEN_FILES ≤ d → table d ≡ None
  past d beyond = none_by (table d) refl
    where
      none_by : (o : Option Description) → table d ≡ o → table d ≡ None
      none_by None is = is
      none_by (Some f) is = none_some (sym (tree.table d beyond) ∙ fewer d f is)

  still : (n : ℕ) → StandsAtPath old file n ⊎ IsOpen old n → (StandsAtPath closed file n ⊎ IsOpen closed n) ⊎ (¬ IsUsed closed n)
  still n stands = decided limits closed n (tree.links n) past (λ p o at_p same. all_files limits old (tree_is_loose limits old tree) n stands p o at_p same)

  attributes_still : (n : ℕ) → IsUsed old n → IsUsed closed n ⊎ (¬ IsUsed closed n)
  attributes_still n (inl path) = inl (inl path)
  attributes_still n (inr open_file) = elim (still n (inr open_file)) [ inl stands ↦ inl (used_file closed n stands) | inr unused ↦ inr unused ]

  pub closed_is_loose : IsLooseTree limits closed
  closed_is_loose = record {
    can_be = tree.can_be;
    root = tree.root;
    above = tree.above;
    names = tree.names;
    single = tree.single;
    bytes = λ n stands. (tree.bytes n).1 (was_file n stands);
    attributes = λ n used. (tree.attributes n).1 (was_used n used);
    loose_bytes = λ n some. still n ((tree.bytes n).0 some);
    loose_attributes = λ n some. attributes_still n ((tree.attributes n).0 some);
    opened = λ n p o open_file at_p same. tree.opened n p o (was_open n open_file) at_p same;
    numbers = λ n used. tree.numbers n (was_used n used);
    texts = tree.texts;
    children = tree.children;
    links = tree.links;
    sizes = tree.sizes;
    fit = tree.fit;
    table = past;
    offsets = λ d f is. tree.offsets d f (fewer d f is);
  }

-- a tree stays one where a file that is used gets other bytes, or an object other attributes
pub bytes_keep : (limits : Limits) (t : Tree) (n : ℕ) (given : List ℕ) → IsTree limits t → StandsAtPath t file n ⊎ IsOpen t n → length given ≤ limits.file_bytes → IsTree limits (with_bytes n given t)
bytes_keep limits t n given tree stands few = record {
  can_be = tree.can_be;
  root = tree.root;
  above = tree.above;
  names = tree.names;
  single = tree.single;
  bytes = λ k. (
    λ some. elim (cases_eq k n) [
      | inl is ↦ subst (λ j. StandsAtPath t file j ⊎ IsOpen t j) (sym is) stands
      | inr other ↦ (tree.bytes k).0 (sym (ap is_some (cond-false (k == n) (Some given) (t.bytes k) (ne_eqb k n other))) ∙ some)
    ],
    λ there. cond_both (k == n) (Some given) (t.bytes k) IsSome (λ e. refl) (λ e. (tree.bytes k).1 there),
  );
  attributes = tree.attributes;
  opened = tree.opened;
  numbers = tree.numbers;
  texts = tree.texts;
  children = tree.children;
  links = tree.links;
  sizes = λ k. cond_both (k == n) (Some given) (t.bytes k) (λ o. IfSome o (λ bytes. length bytes ≤ limits.file_bytes)) (λ e. few) (λ e. tree.sizes k);
  fit = tree.fit;
  table = tree.table;
  offsets = tree.offsets;
}

pub attributes_keep : (limits : Limits) (t : Tree) (n : ℕ) (a : Attributes) → IsTree limits t → IsUsed t n → FitAttributes limits.has_attributes a → IsTree limits (with_attributes n a t)
attributes_keep limits t n a tree used fit = record {
  can_be = tree.can_be;
  root = tree.root;
  above = tree.above;
  names = tree.names;
  single = tree.single;
  bytes = tree.bytes;
  attributes = λ k. (
    λ some. elim (cases_eq k n) [
      | inl is ↦ subst (IsUsed t) (sym is) used
      | inr other ↦ (tree.attributes k).0 (sym (ap is_some (cond-false (k == n) (Some a) (t.attributes k) (ne_eqb k n other))) ∙ some)
    ],
    λ there. cond_both (k == n) (Some a) (t.attributes k) IsSome (λ e. refl) (λ e. (tree.attributes k).1 there),
  );
  opened = tree.opened;
  numbers = tree.numbers;
  texts = tree.texts;
  children = tree.children;
  links = tree.links;
  sizes = tree.sizes;
  fit = λ k. cond_both (k == n) (Some a) (t.attributes k) (λ o. IfSome o (FitAttributes limits.has_attributes)) (λ e. fit) (λ e. tree.fit k);
  table = tree.table;
  offsets = tree.offsets;
}

-- what is used has attributes that fit
pub attributes_fit : (limits : Limits) (t : Tree) (n : ℕ) → IsTree limits t → IsUsed t n → FitAttributes limits.has_attributes (attributes_at t n)
attributes_fit limits t n tree used = by (t.attributes n) ((tree.attributes n).1 used) (tree.fit n)
  where
    by : (o : Option Attributes) → IsSome o → IfSome o (FitAttributes limits.has_attributes) → FitAttributes limits.has_attributes (unwrap_or o no_attributes)
    by None some fit = absurd (false≢true some)
    by (Some a) some fit = fit

pub mode_keeps : (limits : Limits) (t : Tree) (n mode : ℕ) → IsTree limits t → IsUsed t n → mode ≤ MODE_BITS → IsTree limits (with_mode n mode t)
mode_keeps limits t n mode tree used few =
    attributes_keep limits t n (set_mode mode (attributes_at t n)) tree used (set_fit limits.has_attributes mode (attributes_at t n) few (attributes_fit limits t n tree used))

-- a file that is used is opened at a free descriptor, or the offset of an open one moves
module _ (limits : Limits) (t : Tree) (tree : IsTree limits t) (fd : ℕ) (f : Description) (below : fd < OPEN_FILES) (stands : StandsAtPath t file f.number ⊎ IsOpen t f.number) (few : f.offset ≤ GREATEST_OFFSET) (was : (g : Description) → t.descriptors fd ≡ Some g → g.number ≡ f.number) where
  abbrev held : Tree
  held = with_descriptor fd (Some f) t

  held_here : held.descriptors fd ≡ Some f
  held_here = cond-true (fd == fd) (Some f) (t.descriptors fd) (eq-eqb fd fd refl)

  held_other : (d : ℕ) → d ≢ fd → held.descriptors d ≡ t.descriptors d
  held_other d other = cond-false (d == fd) (Some f) (t.descriptors d) (ne_eqb d fd other)

  held_is : (d : ℕ) (g : Description) → held.descriptors d ≡ Some g → (g ≡ f) ⊎ (t.descriptors d ≡ Some g)
  held_is d g is =
      elim (cases_eq d fd) [
        | inl same ↦ inl (some_same (sym is ∙ ap held.descriptors same ∙ held_here))
        | inr other ↦ inr (sym (held_other d other) ∙ is)
      ]

  -- a file that is open now was used
  opened_was : (n : ℕ) → IsOpen held n → StandsAtPath t file n ⊎ IsOpen t n
  opened_was n (d, g, is, same) =
      elim (held_is d g is) [
        | inl new ↦ subst (λ k. StandsAtPath t file k ⊎ IsOpen t k) (sym (ap (λ (h : Description). h.number) new) ∙ same) stands
        | inr old ↦ inr (d, g, old, same)
      ]

  file_was : (n : ℕ) → StandsAtPath held file n ⊎ IsOpen held n → StandsAtPath t file n ⊎ IsOpen t n
  file_was n (inl there) = inl there
  file_was n (inr open_file) = opened_was n open_file

  file_stays : (n : ℕ) → StandsAtPath t file n ⊎ IsOpen t n → StandsAtPath held file n ⊎ IsOpen held n
  file_stays n (inl there) = inl there
  file_stays n (inr (d, g, is, same)) =
      elim (cases_eq d fd) [
        | inl here ↦ inr (fd, f, held_here, sym (was g (ap t.descriptors (sym here) ∙ is)) ∙ same)
        | inr other ↦ inr (d, g, held_other d other ∙ is, same)
      ]

  pub held_is_tree : IsTree limits held
  held_is_tree = record {
    can_be = tree.can_be;
    root = tree.root;
    above = tree.above;
    names = tree.names;
    single = tree.single;
    bytes = λ n. (λ some. file_stays n ((tree.bytes n).0 some), λ there. (tree.bytes n).1 (file_was n there));
    attributes = λ n. (
      λ some. elim ((tree.attributes n).0 some) [ inl path ↦ inl path | inr open_file ↦ used_file held n (file_stays n (inr open_file)) ],
      λ used. (tree.attributes n).1 (elim used [ inl path ↦ inl path | inr open_file ↦ used_file t n (file_was n (inr open_file)) ]),
    );
    opened = λ n p o open_file at_p same. all_files limits t (tree_is_loose limits t tree) n (opened_was n open_file) p o at_p same;
    numbers = λ n used. tree.numbers n (elim used [ inl path ↦ inl path | inr open_file ↦ used_file t n (opened_was n open_file) ]);
    texts = tree.texts;
    children = tree.children;
    links = tree.links;
    sizes = tree.sizes;
    fit = tree.fit;
    table = λ d past. held_other d (λ e. omega (arith, past, below, e)) ∙ tree.table d past;
    offsets = λ d g is. elim (held_is d g is) [ inl new ↦ subst (λ (h : Description). h.offset ≤ GREATEST_OFFSET) (sym new) few | inr old ↦ tree.offsets d g old ];
  }
